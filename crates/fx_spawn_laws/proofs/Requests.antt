-- Who requests whom in a lawful report: nobody the main fiber, and only that one a child of it of which no other fiber is told.
use Rattle.std.proofs.Common.{◌≡◌, ℕ, ◌⊎◌, inl, inr, Bool, true, false, Some, List, [], ◌∷◌, All}
use Rattle.std.proofs.Common.{refl, sym, ◌∙◌, ap, subst, arith, ◌<◌, le_refl}
use Rattle.std.specs.Prelude.{◌==◌, ◌||◌, nat_lt}
use Rattle.std.specs.List.{list_any}
use Rattle.std.proofs.lemmas.Bool.{lt-ltb, le-ltb, eqb-true}
use Rattle.std.proofs.lemmas.List.Elements.{All-nil, All-cons, All-head, All-tail, All-contains}
use Rattle.std.proofs.lemmas.List.Folds.{list_any_none, list_any-append}
use Rattle.fx_term.specs.declared.outcome.Outcome.{Outcome}
use Rattle.fx_term.specs.declared.outcome.Outcome.TheVariants as outcome
use Rattle.fx_term.specs.declared.event.Event.TheVariants as event
use Rattle.fx_term.specs.Term.{Term, Pure, Raise, Canceled, Never, Join, Finished, put}
use Rattle.fx_term.specs.Script.{ScriptView}
use Rattle.fx_model.specs.Path.{cleanup_terms, LetIn, HandleIn, OnCancelIn, AcquireIn, AcquireCaseIn, MaskedIn, OpenedIn, InUseIn, InUseCaseIn, InReleaseIn}
use Rattle.fx_model.specs.Row.{Counts, Label, Silent, Shows, Learns, Starts, Row, part_after}
use Rattle.fx_model.specs.Row as row
use Rattle.fx_model.specs.Origin.{Origin}
use Rattle.fx_model.specs.Step.{Progress, Runs, Unwinds, CleansUp, HasEnded, Step}
use Rattle.fx_model.specs.Step as step
use Rattle.fx_model.specs.Run.{Leads, IsRun, events}
use Rattle.fx_model.specs.Scopes.{IsScopedOver, StartsScopedOver}
use Rattle.fx_model.specs.Report.{FiberReportView, ReportView, fiber_in, is_request_for, is_requested_in}
use Rattle.fx_model.specs.LawfulReport.{IsLawfulReport}
use Rattle.fx_model.proofs.StartLaws.{IsStartRight, StartsSo, HasStart, run_starts}
use Rattle.fx_model.proofs.Runs.{events_append}
use Rattle.fx_model.proofs.StepLabels.{IsProper, step_tells}
use Rattle.fx_model.proofs.ScopedRuns.{RequestsGiven, run_starts_scoped, run_requests_given}
use Rattle.fx_model.proofs.HeadlineLaws.{begin_told, each_so, each_begins_so}
use Rattle.fx_report.proofs.Keys.{all_found}

-- what a label shows is no request of fiber g
abbrev pub AsksNone : ℕ → Label → Type 0
AsksNone g l = list_any (is_request_for g) (events (l ∷ [])) ≡ false

-- a label of a step that neither starts a fiber nor requests one
abbrev pub IsBarren : Label → Type 0
IsBarren (Starts f b) = ⊥
IsBarren (Shows (event.Request f)) = ⊥
IsBarren (Shows (event.Start f)) = ⊥
IsBarren (Learns f o (event.Request g)) = ⊥
IsBarren (Learns f o (event.Start g)) = ⊥
IsBarren (Learns f o e) = Unit {0}
IsBarren _ = Unit {0}

-- a leaf that neither starts nor requests a fiber, nor waits for one
abbrev pub IsPlainLeaf : Term → Type 0
IsPlainLeaf (Pure v) = Unit {0}
IsPlainLeaf (Raise v) = Unit {0}
IsPlainLeaf Canceled = Unit {0}
IsPlainLeaf Never = Unit {0}
IsPlainLeaf _ = ⊥

-- a fiber that runs such a leaf, or joins another one and then runs such a leaf, or has come to its end, or unwinds with no clean-up
abbrev pub Idle : Progress → Type 0
Idle (Runs (Pure v)) = Unit {0}
Idle (Runs (Raise v)) = Unit {0}
Idle (Runs Canceled) = Unit {0}
Idle (Runs Never) = Unit {0}
Idle (Runs (Join f x a e b c)) = IsPlainLeaf a × IsPlainLeaf b × IsPlainLeaf c
Idle (Runs (Finished v)) = Unit {0}
Idle (Unwinds []) = Unit {0}
Idle (HasEnded o) = Unit {0}
Idle _ = ⊥

pub plain_leaf_is_idle : (t : Term) → IsPlainLeaf t → Idle (Runs t)
plain_leaf_is_idle (Pure v) h = tt
plain_leaf_is_idle (Raise v) h = tt
plain_leaf_is_idle Canceled h = tt
plain_leaf_is_idle Never h = tt
plain_leaf_is_idle _ h = absurd h

put_is_idle : (x n : ℕ) (t : Term) → IsPlainLeaf t → Idle (Runs (put x n t))
put_is_idle x n (Pure v) h = tt
put_is_idle x n (Raise v) h = tt
put_is_idle x n Canceled h = tt
put_is_idle x n Never h = tt
put_is_idle x n _ h = absurd h

part_is_idle : (o : Outcome) (x e : ℕ) (a b c : Term) → IsPlainLeaf a → IsPlainLeaf b → IsPlainLeaf c → Idle (Runs (part_after o x a e b c))
part_is_idle (outcome.Succeeded n) x e a b c u v w = put_is_idle x n a u
part_is_idle (outcome.Errored n) x e a b c u v w = put_is_idle e n b v
part_is_idle outcome.Canceled x e a b c u v w = plain_leaf_is_idle c w

row_is_barren : {k : Bool} {c d : Counts} {l : Label} {t t' : Term} → Row k c t l d t' → Idle (Runs t) → Idle (Runs t') × IsBarren l
row_is_barren row.pure h = (tt, tt)
row_is_barren row.raise h = (tt, tt)
row_is_barren (row.self_request e) h = (tt, tt)
row_is_barren (row.joined {x = x} {e = e} {a = a} {b = b} {d = d} {o = o}) h = (part_is_idle o x e a b d h.0 h.1 h.2, tt)
row_is_barren (row.inside (LetIn x b) e j r) h = absurd (rw e at h)
row_is_barren (row.inside (HandleIn x b) e j r) h = absurd (rw e at h)
row_is_barren (row.inside (OnCancelIn b) e j r) h = absurd (rw e at h)
row_is_barren (row.inside (AcquireIn x u b) e j r) h = absurd (rw e at h)
row_is_barren (row.inside (AcquireCaseIn x u y s z d b) e j r) h = absurd (rw e at h)
row_is_barren (row.inside (MaskedIn n) e j r) h = absurd (rw e at h)
row_is_barren (row.inside (OpenedIn n) e j r) h = absurd (rw e at h)
row_is_barren (row.inside (InUseIn n b) e j r) h = absurd (rw e at h)
row_is_barren (row.inside (InUseCaseIn n y s z d b) e j r) h = absurd (rw e at h)
row_is_barren (row.inside (InReleaseIn n v) e j r) h = absurd (rw e at h)
row_is_barren _ h = absurd h

idle_cleanups : (t : Term) → Idle (Runs t) → Idle (Unwinds (cleanup_terms t))
idle_cleanups (Pure v) h = tt
idle_cleanups (Raise v) h = tt
idle_cleanups Canceled h = tt
idle_cleanups Never h = tt
idle_cleanups (Join f x a e b c) h = tt
idle_cleanups (Finished v) h = tt
idle_cleanups _ h = absurd h

step_is_barren : {c d : Counts} {p q : Progress} {l : Label} → Step c p l d q → Idle p → Idle q × IsBarren l
step_is_barren (step.cancelled {t = t} m) h = (idle_cleanups t h, tt)
step_is_barren (step.seen m o) h = (h, tt)
step_is_barren (step.row m r) h = row_is_barren r h
step_is_barren (step.succeeds m) h = (tt, tt)
step_is_barren (step.errs m) h = (tt, tt)
step_is_barren step.unwound h = (tt, tt)
step_is_barren _ h = absurd h

pub leads_barren : (c d : Counts) (p q : Progress) (ls : List Label) → Leads c p ls d q → Idle p → All IsBarren ls
leads_barren c d p q [] r h = All-nil IsBarren
leads_barren c d p q (l ∷ ls) r h = let k = step_is_barren r.2 h in All-cons IsBarren l ls k.1 (leads_barren r.0 d r.1 q ls r.3 k.0)

pub barren_asks_none : (g : ℕ) (l : Label) → IsBarren l → AsksNone g l
barren_asks_none g (Shows (event.Request f)) h = absurd h
barren_asks_none g (Learns f o (event.Request k)) h = absurd h
barren_asks_none g (Shows e) h = refl
barren_asks_none g (Learns f o e) h = refl
barren_asks_none g Silent h = refl
barren_asks_none g (Starts f b) h = absurd h

other_is_given : (is_given : ℕ → Bool) (f g : ℕ) → is_given f ≡ true → is_given g ≡ false → (f == g) ≡ false
other_is_given is_given f g has lacks = by_test (f == g) refl
  where
    by_test : (b : Bool) → (f == g) ≡ b → b ≡ false
    by_test true e = absurd (let same = eqb-true f g e in let both : is_given g ≡ true = subst (λ (n : ℕ). is_given n ≡ true) same has in cc)
    by_test false e = refl

pub given_asks_none : (is_given : ℕ → Bool) (g : ℕ) → is_given g ≡ false → (l : Label) → IsProper l → RequestsGiven is_given l → AsksNone g l
given_asks_none is_given g lacks (Shows (event.Request f)) proper h = ap (λ (b : Bool). b || false) (other_is_given is_given f g h lacks)
given_asks_none is_given g lacks (Learns f o (event.Request k)) proper h = absurd proper
given_asks_none is_given g lacks (Shows e) proper h = refl
given_asks_none is_given g lacks (Learns f o e) proper h = refl
given_asks_none is_given g lacks Silent proper h = refl
given_asks_none is_given g lacks (Starts f b) proper h = refl

pub leads_proper : (c d : Counts) (p q : Progress) (ls : List Label) → Leads c p ls d q → All IsProper ls
leads_proper c d p q [] r = All-nil IsProper
leads_proper c d p q (l ∷ ls) r = All-cons IsProper l ls (step_tells r.2).proper (leads_proper r.0 d r.1 q ls r.3)

pub all_both : {P Q R : Label → Type 0} → ((l : Label) → P l → Q l → R l) → (ls : List Label) → All P ls → All Q ls → All R ls
all_both {P = P} {Q = Q} {R = R} both [] ps qs = All-nil R
all_both {P = P} {Q = Q} {R = R} both (l ∷ ls) ps qs =
    All-cons R l ls (both l (All-head P l ls ps) (All-head Q l ls qs)) (all_both {P = P} {Q = Q} {R = R} both ls (All-tail P l ls ps) (All-tail Q l ls qs))

-- the events of labels none of which asks for fiber g
pub trace_asks_none : (g : ℕ) (ls : List Label) → All (AsksNone g) ls → list_any (is_request_for g) (events ls) ≡ false
trace_asks_none g [] all = refl
trace_asks_none g (l ∷ ls) all =
    ap (list_any (is_request_for g)) (events_append (l ∷ []) ls)
    ∙ list_any-append (is_request_for g) (events (l ∷ [])) (events ls)
    ∙ ap (λ (b : Bool). b || list_any (is_request_for g) (events ls)) (All-head (AsksNone g) l ls all)
    ∙ trace_asks_none g ls (All-tail (AsksNone g) l ls all)

-- a beginning that uses no number of a fiber but those above this one
abbrev pub BeginsAbove : ℕ → Origin → Type 0
BeginsAbove n b = IsScopedOver (nat_lt n) b.term × (n < b.next)

pub starts_above : (n : ℕ) (b : Origin) (ls : List Label) (c : Counts) (p : Progress) → BeginsAbove n b → IsRun b ls c p → All (StartsSo (BeginsAbove n)) ls
starts_above n b ls c p so run =
    all_both {P = StartsScopedOver (nat_lt n)} {Q = IsStartRight b.next} {R = StartsSo (BeginsAbove n)} both ls
    (run_starts_scoped (nat_lt n) b ls c p so.0 (λ f low high. lt-ltb n f (let some = so.1 in omega arith)) run) (run_starts b ls c p run)
  where
    both : (l : Label) → StartsScopedOver (nat_lt n) l → IsStartRight b.next l → StartsSo (BeginsAbove n) l
    both (Starts f a) h right = (h, (let e = right.next in let low = right.least in let some = so.1 in omega arith))
    both _ h right = tt

-- a fiber that began so does not ask for that number
pub asks_above : (n : ℕ) (b : Origin) (ls : List Label) (c : Counts) (p : Progress) → BeginsAbove n b → IsRun b ls c p → All (AsksNone n) ls
asks_above n b ls c p so run =
    all_both {P = IsProper} {Q = RequestsGiven (nat_lt n)} {R = AsksNone n} (given_asks_none (nat_lt n) n (le-ltb n n (le_refl n))) ls
    (leads_proper _ _ _ _ ls run) (run_requests_given (nat_lt n) b ls c p so.0 (λ g low high. lt-ltb n g (let some = so.1 in omega arith)) run)

module _ (s : ScriptView) (may : ℕ → Bool) (r : ReportView) (lawful : IsLawfulReport s may r) (alone : r.outside ≡ []) where
  -- a fiber that no trace asks for is not requested
  pub unrequested_by_traces : (g : ℕ)
      → ((f : ℕ) (x : FiberReportView) → fiber_in r f ≡ Some x → list_any (is_request_for g) (events (lawful.runs.labels f)) ≡ false)
      → is_requested_in r g ≡ false
  unrequested_by_traces g none =
      ap (λ (ns : List ℕ). list_any (λ (x : FiberReportView). list_any (is_request_for g) x.trace) r.fibers || list_any (λ (n : ℕ). n == g) ns) alone
      ∙ ap (λ (b : Bool). b || false)
      (list_any_none (λ (x : FiberReportView). list_any (is_request_for g) x.trace) r.fibers
      (all_found (λ (x : FiberReportView). x.id) (λ (x : FiberReportView). list_any (is_request_for g) x.trace ≡ false) r.fibers lawful.starters.ascending
      (λ f x at. sym (ap (list_any (is_request_for g)) (lawful.runs.run f x at).trace) ∙ none f x at)))

  pub unrequested : (g : ℕ) → ((f : ℕ) (x : FiberReportView) → fiber_in r f ≡ Some x → All (AsksNone g) (lawful.runs.labels f)) → is_requested_in r g ≡ false
  unrequested g none = unrequested_by_traces g (λ f x at. trace_asks_none g (lawful.runs.labels f) (none f x at))

  -- nobody requests the main fiber
  pub main_is_unrequested : IsScopedOver (nat_lt 0) s.term → is_requested_in r 0 ≡ false
  main_is_unrequested scoped = unrequested 0 none
    where
      none : (f : ℕ) (x : FiberReportView) → fiber_in r f ≡ Some x → All (AsksNone 0) (lawful.runs.labels f)
      none f x at =
          asks_above 0 (lawful.runs.origin f) (lawful.runs.labels f) (lawful.runs.counts f) (lawful.runs.progress f)
          (each_begins_so s r lawful.starters lawful.runs lawful.origins (BeginsAbove 0) (starts_above 0) (scoped, omega arith) f x at)
          (lawful.runs.run f x at).run

  -- nor, where the main fiber starts only such as do not know of fiber n, does any but the main one request that
  module _ (n : ℕ) (children : (f : ℕ) (h : HasStart (lawful.runs.labels 0) f) → BeginsAbove n h.origin) where
    abbrev IsMainOrAbove : ℕ → Type 0
    IsMainOrAbove f = (f ≡ 0) ⊎ BeginsAbove n (lawful.runs.origin f)

    child_is_above : (p : ℕ) (y : FiberReportView) → fiber_in r p ≡ Some y → IsMainOrAbove p → (f : ℕ) → HasStart (lawful.runs.labels p) f → IsMainOrAbove f
    child_is_above p y at (inl main) f h =
        let k : HasStart (lawful.runs.labels 0) f = subst (λ (g : ℕ). HasStart (lawful.runs.labels g) f) main h in
        let at_main : fiber_in r 0 ≡ Some y = subst (λ (g : ℕ). fiber_in r g ≡ Some y) main at in
        inr (subst (BeginsAbove n) (sym (begin_told s r lawful.starters lawful.runs lawful.origins f 0 y at_main k)) (children f k))
    child_is_above p y at (inr so) f h =
        let all = starts_above n (lawful.runs.origin p) (lawful.runs.labels p) (lawful.runs.counts p) (lawful.runs.progress p) so
        (lawful.runs.run p y at).run in
        inr (subst (BeginsAbove n) (sym (begin_told s r lawful.starters lawful.runs lawful.origins f p y at h))
        (All-contains (StartsSo (BeginsAbove n)) (lawful.runs.labels p) (Starts f h.origin) all h.holds))

    pub child_is_unrequested : All (AsksNone n) (lawful.runs.labels 0) → is_requested_in r n ≡ false
    child_is_unrequested main = unrequested n none
      where
        none : (f : ℕ) (x : FiberReportView) → fiber_in r f ≡ Some x → All (AsksNone n) (lawful.runs.labels f)
        none f x at = elim (each_so s r lawful.starters lawful.runs lawful.origins IsMainOrAbove (inl refl) child_is_above f x at) [
          | inl e ↦ subst (λ (g : ℕ). All (AsksNone n) (lawful.runs.labels g)) (sym e) main
          | inr so ↦
              asks_above n (lawful.runs.origin f) (lawful.runs.labels f) (lawful.runs.counts f) (lawful.runs.progress f) so (lawful.runs.run f x at).run
        ]
