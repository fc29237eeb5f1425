-- The resources that a fiber acquires are numbered by its count of them.
use Rattle.std.proofs.Common.{◌≡◌, ℕ, zero, suc, ◌+◌, ◌<◌, false, nat_eq, List, [], ◌∷◌, ◌++◌, refl, ap, arith}
use Rattle.std.specs.List.{IsDistinct, AllByRecursion, range_with_len}
use Rattle.std.proofs.lemmas.Bool.{ne_eqb}
use Rattle.std.proofs.lemmas.List.Elements.{filter_map-append}
use Rattle.std.proofs.lemmas.Map.Keys.{IsDistinct-cons}
use Rattle.fx_model.specs.Origin.{Origin}
use Rattle.fx_model.specs.Row.{Counts, Label}
use Rattle.fx_model.specs.Step.{Progress}
use Rattle.fx_model.specs.Run.{first_counts, Leads, IsRun, events}
use Rattle.fx_model.specs.Balanced.{acquired_number, acquired_numbers}
use Rattle.fx_model.proofs.Runs.{events_append}
use Rattle.fx_model.proofs.StepLabels.{IsNumbered, none_acquired, step_tells}

range_append : (a b n m : ℕ) → b ≡ a + n → range_with_len a n ++ range_with_len b m ≡ range_with_len a (n + m)
range_append a b zero m e = let p : b ≡ a = omega arith in let q : 0 + m ≡ m = omega arith in rw (p, q) refl
range_append a b (suc n) m e =
    let q : suc n + m ≡ suc (n + m) = omega arith in
    rw q (ap (λ (ns : List ℕ). a ∷ ns) (range_append (a + 1) b n m (omega arith)))

-- labels one after another
numbered_append : (ls ms : List Label) (c e d : Counts) → IsNumbered ls c e → IsNumbered ms e d → IsNumbered (ls ++ ms) c d
numbered_append ls ms c e d first rest =
    let here = first.after in
    let there = rest.after in
    record {
      count = first.count + rest.count;
      after = omega arith;
      numbers =
          rw (events_append ls ms, filter_map-append acquired_number (events ls) (events ms), first.numbers, rest.numbers)
          (range_append c.acquired e.acquired first.count rest.count here);
    }

leads_numbers : (c d : Counts) (p q : Progress) (ls : List Label) → Leads c p ls d q → IsNumbered ls c d
leads_numbers c d p q [] r = rw r.0 (none_acquired refl refl)
leads_numbers c d p q (l ∷ ls) r = numbered_append (l ∷ []) ls c r.0 d (step_tells r.2).numbered (leads_numbers r.0 d r.1 q ls r.3)

-- a fiber's resources have the numbers 0, 1, 2 and so on, as many as it acquired
pub acquired_in_order : (b : Origin) (ls : List Label) (d : Counts) (q : Progress) → IsRun b ls d q → acquired_numbers (events ls) ≡ range_with_len 0 d.acquired
acquired_in_order b ls d q r =
    let n = leads_numbers (first_counts b) d _ q ls r in
    let e : d.acquired ≡ n.count = let p = n.after in omega arith in
    rw e n.numbers

below_range : (x a n : ℕ) → x < a → AllByRecursion (λ y. nat_eq x y ≡ false) (range_with_len a n)
below_range x a zero h = tt
below_range x a (suc n) h = (ne_eqb x a (omega arith), below_range x (a + 1) n (omega arith))

pub range_is_distinct : (a n : ℕ) → IsDistinct nat_eq (range_with_len a n)
unfolding IsDistinct
range_is_distinct a zero = tt
range_is_distinct a (suc n) = IsDistinct-cons nat_eq a (range_with_len (a + 1) n) (below_range a (a + 1) n (omega arith)) (range_is_distinct (a + 1) n)
