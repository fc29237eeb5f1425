-- A run starts each fiber at most once.
use Rattle.std.proofs.Common.{◌≡◌, ℕ, ◌<◌, ◌≤◌, Bool, true, false, List, [], ◌∷◌, refl, sym, subst, arith}
use Rattle.std.specs.Prelude.{◌==◌}
use Rattle.std.proofs.lemmas.Bool.{eqb-true}
use Rattle.fx_term.specs.declared.event.Event.TheVariants as event
use Rattle.fx_model.specs.Row.{Counts, Label, Silent, Shows, Learns, Starts}
use Rattle.fx_model.specs.Origin.{Origin}
use Rattle.fx_model.specs.Step.{Progress}
use Rattle.fx_model.specs.Run.{Leads, IsRun, events}
use Rattle.fx_model.specs.LawfulReport.{starts_of}
use Rattle.fx_model.proofs.StartLaws.{IsStartRight, step_starts}
use Rattle.fx_model.proofs.StepLabels.{TakesNumbers, step_tells}

-- how often these labels start f, where numbers below `next` are not started
record StartsFew (next f : ℕ) (ls : List Label) : Type 0 where
  pub below : f < next → starts_of f (events ls) ≡ 0
  pub once : starts_of f (events ls) ≤ 1

by_number : (n m f : ℕ) (b : Origin) (ls : List Label) (t : Bool) → (n == f) ≡ t → n < m → StartsFew m f ls → StartsFew n f (Starts n b ∷ ls)
by_number n m f b ls true e lt few =
    let same : n ≡ f = eqb-true n f e in
    let none = few.below (omega arith) in
    record { below = λ h. absurd (omega arith); once = rw e (omega arith) }
by_number n m f b ls false e lt few = record { below = λ h. (let none = few.below (omega arith) in rw e none); once = rw e few.once }

after_label : (c e : Counts) (l : Label) (f : ℕ) (ls : List Label) → IsStartRight c.next l → TakesNumbers c e l → StartsFew e.next f ls
    → StartsFew c.next f (l ∷ ls)
after_label c e (Starts g b) f ls right takes few =
    let number = takes.number in
    let next = takes.next in
    let end = takes.end in
    let after = takes.after in
    subst (λ (n : ℕ). StartsFew c.next f (Starts n b ∷ ls)) (sym number) (by_number c.next e.next f b ls (c.next == f) refl (omega arith) few)
after_label c e (Shows (event.Start g)) f ls right takes few = absurd right
after_label c e (Learns g o (event.Start h)) f ls right takes few = absurd right
after_label c e Silent f ls right takes few = record { below = λ h. few.below (omega arith); once = few.once }
after_label c e (Shows v) f ls right takes few = record { below = λ h. few.below (omega arith); once = few.once }
after_label c e (Learns g o v) f ls right takes few = record { below = λ h. few.below (omega arith); once = few.once }

leads_few : (c d : Counts) (p q : Progress) (f : ℕ) (ls : List Label) → Leads c p ls d q → StartsFew c.next f ls
leads_few c d p q f [] r = record { below = λ h. refl; once = omega arith }
leads_few c d p q f (l ∷ ls) r = after_label c r.0 l f ls (step_starts r.2) (step_tells r.2).takes (leads_few r.0 d r.1 q f ls r.3)

pub starts_at_most_once : (b : Origin) (ls : List Label) (c : Counts) (p : Progress) (f : ℕ) → IsRun b ls c p → starts_of f (events ls) ≤ 1
starts_at_most_once b ls c p f r = (leads_few _ c _ p f ls r).once
