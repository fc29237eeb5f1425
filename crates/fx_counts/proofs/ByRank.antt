-- A list put into another order.
use Rattle.std.proofs.Common.{◌≡◌, ℕ, zero, suc, ◌≤◌, Some, List, [], ◌∷◌, ◌++◌, length, take, sym, ◌∙◌, ap, subst, map}
use Rattle.std.specs.Prelude.{slice_get}
use Rattle.std.specs.List.Sorted.{IsPermutation}
use Rattle.std.proofs.lemmas.List.{map-append, take_all}
use Rattle.std.proofs.lemmas.List.Sorted.{IsPermutation-map}
use Rattle.std.proofs.lemmas.Option.{none-some, same_Some}
use Rattle.fx_order.specs.declared.occurrence.Occurrence.{Occurrence}
use Rattle.fx_counts.specs.declared.reordered.Ranked.{Ranked}

abbrev pub its : List Ranked → List Occurrence
its all = map (λ (x : Ranked). x.it) all

pub take_one_more : {X : Type 0} (list : List X) (n : ℕ) (x : X) → slice_get list n ≡ Some x → take (suc n) list ≡ take n list ++ x ∷ []
take_one_more [] n x at = absurd (none-some x at)
take_one_more (y ∷ list) zero x at = ap (λ z. z ∷ []) (same_Some y x at)
take_one_more (y ∷ list) (suc n) x at = ap (λ l. y ∷ l) (take_one_more list n x at)

-- one more event, without its rank
pub unranked_more : (all : List Ranked) (n m : ℕ) (y : Ranked) (list more : List Occurrence) → list ≡ its (take n all) → slice_get all n ≡ Some y
    → more ≡ list ++ y.it ∷ [] → m ≡ suc n → more ≡ its (take m all)
unranked_more all n m y list more so_far at is is_m =
    is ∙ ap (λ (l : List Occurrence). l ++ y.it ∷ []) so_far ∙ sym (map-append (λ (z : Ranked). z.it) (take n all) (y ∷ []))
    ∙ ap its (sym (take_one_more all n y at)) ∙ ap (λ (k : ℕ). its (take k all)) (sym is_m)

-- what was moved with its ranks has the same events
pub moved : (list other : List Occurrence) (all sorted : List Ranked) (n : ℕ) → its all ≡ list → IsPermutation all sorted
    → other ≡ its (take n sorted) → length sorted ≤ n → IsPermutation list other
moved list other all sorted n were moves are whole =
    subst (IsPermutation list) (sym (are ∙ ap its (take_all n sorted whole)))
    (subst (λ (l : List Occurrence). IsPermutation l (its sorted)) were (IsPermutation-map (λ (x : Ranked). x.it) all sorted moves))
