-- What a fiber starts: its number is in the range of its starter, it has numbers after its own, and where its starter began at a core term it begins at one
-- too.
use Rattle.std.proofs.Common.{subst, ◌≡◌, ℕ, suc, ◌+◌, ◌≤◌, Bool, true, false, List, [], ◌∷◌, All, Contains, refl, ap, arith, le_refl}
use Rattle.std.specs.Prelude.{◌==◌}
use Rattle.std.proofs.lemmas.Bool.{eqb-true}
use Rattle.std.proofs.lemmas.List.Elements.{All-nil, All-cons, All-head, All-tail}
use Rattle.fx_term.specs.declared.event.Event.TheVariants as event
use Rattle.fx_term.specs.Term.{Term}
use Rattle.fx_term.specs.Forms.{IsCore}
use Rattle.fx_model.specs.Row.{Counts, Label, Silent, Shows, Learns, Starts, Row}
use Rattle.fx_model.specs.Origin.{Origin}
use Rattle.fx_model.specs.Row as row
use Rattle.fx_model.specs.Step.{Progress, Step}
use Rattle.fx_model.specs.Step as step
use Rattle.fx_model.specs.Run.{Leads, IsRun, events}
use Rattle.fx_model.specs.LawfulReport.{starts_of}
use Rattle.fx_model.proofs.RunningTerms.{running_inside, IsRunningTerm, IsRunningProgress, core_runs}
use Rattle.fx_model.proofs.BalancedRuns.{step_keeps}
use Rattle.fx_model.proofs.StepLabels.{IsProper, TakesNumbers, step_tells, step_next}

pub record StartsRightly (low f : ℕ) (b : Origin) : Type 0 where
  pub least : low ≤ f
  pub next : b.next ≡ f + 1

-- so it is for each start, and no other label shows one
abbrev pub IsStartRight : ℕ → Label → Type 0
IsStartRight n (Starts f b) = StartsRightly n f b
IsStartRight n (Shows (event.Start f)) = ⊥
IsStartRight n (Learns f o (event.Start g)) = ⊥
IsStartRight n _ = Unit {0}

starts_right : (c d : Counts) (l : Label) → IsProper l → TakesNumbers c d l → IsStartRight c.next l
starts_right c d (Starts f b) proper h = record { least = (let p = h.number in omega arith); next = h.next }
starts_right c d (Shows (event.Start f)) proper h = absurd proper
starts_right c d (Learns f o (event.Start g)) proper h = absurd proper
starts_right c d _ proper h = tt

pub step_starts : {c d : Counts} {p q : Progress} {l : Label} → Step c p l d q → IsStartRight c.next l
step_starts {c = c} {d = d} {l = l} st = let t = step_tells st in starts_right c d l t.proper t.takes

-- what is started begins so; at a core term
abbrev pub StartsSo : (Origin → Type 0) → Label → Type 0
StartsSo IsSo (Starts f b) = IsSo b
StartsSo IsSo _ = Unit {0}

abbrev pub StartsCore : Label → Type 0
StartsCore l = StartsSo (λ b. IsCore b.term) l

row_starts_core : {k : Bool} {c d : Counts} {l : Label} {t t' : Term} → Row k c t l d t' → IsRunningTerm t → StartsCore l
row_starts_core row.start h = h.0
row_starts_core (row.inside f {a = a} e g r) h = row_starts_core r (running_inside f a (subst IsRunningTerm e h)).0
row_starts_core _ h = tt

step_starts_core : {c d : Counts} {p q : Progress} {l : Label} → Step c p l d q → IsRunningProgress p → StartsCore l
step_starts_core (step.row m r) h = row_starts_core r h
step_starts_core (step.cleans r) h = row_starts_core r h.0
step_starts_core _ h = tt

starts_from_below : (n m : ℕ) → n ≤ m → (l : Label) → IsStartRight m l → IsStartRight n l
starts_from_below n m le (Starts f b) h = record { least = (let p = h.least in omega arith); next = h.next }
starts_from_below n m le (Shows (event.Start f)) h = absurd h
starts_from_below n m le (Learns f o (event.Start g)) h = absurd h
starts_from_below n m le _ h = tt

leads_start : (n : ℕ) (c d : Counts) (p q : Progress) (ls : List Label) → Leads c p ls d q → n ≤ c.next → All (IsStartRight n) ls
leads_start n c d p q [] r le = All-nil (IsStartRight n)
leads_start n c d p q (l ∷ ls) r le =
    let more = step_next r.2 in
    All-cons (IsStartRight n) l ls (starts_from_below n c.next le l (step_starts r.2)) (leads_start n r.0 d r.1 q ls r.3 (omega arith))

-- each start of a run
pub run_starts : (b : Origin) (ls : List Label) (d : Counts) (q : Progress) → IsRun b ls d q → All (IsStartRight b.next) ls
run_starts b ls d q r = leads_start b.next _ d _ q ls r (le_refl b.next)

leads_start_core : (c d : Counts) (p q : Progress) (ls : List Label) → Leads c p ls d q → IsRunningProgress p → All StartsCore ls
leads_start_core c d p q [] r h = All-nil StartsCore
leads_start_core c d p q (l ∷ ls) r h = All-cons StartsCore l ls (step_starts_core r.2 h) (leads_start_core r.0 d r.1 q ls r.3 (step_keeps r.2 h).0)

pub run_starts_core : (b : Origin) (ls : List Label) (d : Counts) (q : Progress) → IsCore b.term → IsRun b ls d q → All StartsCore ls
run_starts_core b ls d q core r = leads_start_core _ d _ q ls r (core_runs b.term core)

-- the fiber's start is among the labels
pub record HasStart (ls : List Label) (f : ℕ) : Type 0 where
  pub origin : Origin
  pub holds : Contains ls (Starts f origin)

later_has : (l : Label) (ls : List Label) (f : ℕ) → HasStart ls f → HasStart (l ∷ ls) f
later_has l ls f h = record { origin = h.origin; holds = (suc h.holds.0, (let p = h.holds.1 in omega arith), h.holds.2) }

by_number : (g : ℕ) (b : Origin) (ls : List Label) (f n : ℕ) (t : Bool) → (g == f) ≡ t → (starts_of f (events ls) ≡ suc n → HasStart ls f)
    → starts_of f (event.Start g ∷ events ls) ≡ suc n → HasStart (Starts g b ∷ ls) f
by_number g b ls f n true p rest e = record { origin = b; holds = (0, omega arith, ap (λ (h : ℕ). Starts h b) (eqb-true g f p)) }
by_number g b ls f n false p rest e = later_has (Starts g b) ls f (rest (rw p at e))

-- where a trace of a run starts f, one of the labels does
pub start_of_trace : (low : ℕ) (ls : List Label) (f n : ℕ) → All (IsStartRight low) ls → starts_of f (events ls) ≡ suc n → HasStart ls f
start_of_trace low [] f n all e = absurd (omega arith)
start_of_trace low (Silent ∷ ls) f n all e = later_has Silent ls f (start_of_trace low ls f n (All-tail (IsStartRight low) Silent ls all) e)
start_of_trace low (Starts g b ∷ ls) f n all e =
    by_number g b ls f n (g == f) refl (λ rest. start_of_trace low ls f n (All-tail (IsStartRight low) (Starts g b) ls all) rest) e
start_of_trace low (Shows (event.Start g) ∷ ls) f n all e = absurd (All-head (IsStartRight low) (Shows (event.Start g)) ls all)
start_of_trace low (Shows k ∷ ls) f n all e = later_has (Shows k) ls f (start_of_trace low ls f n (All-tail (IsStartRight low) (Shows k) ls all) e)
start_of_trace low (Learns g o (event.Start h) ∷ ls) f n all e = absurd (All-head (IsStartRight low) (Learns g o (event.Start h)) ls all)
start_of_trace low (Learns g o k ∷ ls) f n all e =
    later_has (Learns g o k) ls f (start_of_trace low ls f n (All-tail (IsStartRight low) (Learns g o k) ls all) e)
