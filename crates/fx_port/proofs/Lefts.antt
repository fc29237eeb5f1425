-- The queues of a row are closed from the last to the first.
use Rattle.std.proofs.Common.{◌≡◌, ℕ, ◌+◌, ◌≤◌, List, [], ◌∷◌, ◌++◌, length, map, set, refl, Some, slice_get, sym, ◌∙◌, ap, subst, arith, zero, suc}
use Rattle.std.proofs.lemmas.Option.{same_Some}
use Rattle.std.proofs.lemmas.List.{length-append}
use mathlib.Core.Logic.{dite}
use native.Mathlib.Decide.{ℕ_discrete}
use Rattle.fx_term.specs.declared.item.Item.{Item}
use Rattle.fx_queue.specs.Queues.{QueueId, HeldPass, IsOf}
use Rattle.fx_port.specs.Rows.{EachIsOf}
use Rattle.fx_queue.specs.Told.{IsRest}
use Rattle.fx_port.proofs.Places.{get_set_else}
use Rattle.fx_port.proofs.Gathers.{front_at, last_at}

set_value : {A : Type 0} (l : List A) (i : ℕ) (a b : A) → slice_get (set l i a) i ≡ Some b → a ≡ b
set_value [] i a b e = let z : ⊥ = cc in absurd z
set_value (x ∷ l) zero a b e = same_Some a b e
set_value (x ∷ l) (suc i) a b e = set_value l i a b e

map_set : {A B : Type 0} (f : A → B) (l : List A) (k : ℕ) (a : A) → map f (set l k a) ≡ set (map f l) k (f a)
map_set f [] k a = refl
map_set f (x ∷ l) zero a = refl
map_set f (x ∷ l) (suc k) a = ap (λ m. f x ∷ m) (map_set f l k a)

module _ (qs all_q : List QueueId) (i : QueueId) (iq : all_q ≡ qs ++ i ∷ []) (ss all : List HeldPass)
    (t : HeldPass) (is : all ≡ ss ++ t ∷ []) (long : length all ≡ length all_q) where
  pub fewer : length ss + 1 ≡ length all
  fewer = let e = ap length is in let f = length-append ss (t ∷ []) in omega (arith, e, f)

  pub fewer_queues : length ss ≡ length qs
  fewer_queues = let e = ap length iq in let f = length-append qs (i ∷ []) in let g = fewer in omega (arith, e, f, g, long)

  pub here : slice_get all (length ss) ≡ Some t
  here = ap (λ l. slice_get l (length ss)) is ∙ last_at ss t

  queue_here : slice_get all_q (length ss) ≡ Some i
  queue_here = ap (λ (k : ℕ). slice_get all_q k) fewer_queues ∙ (ap (λ l. slice_get l (length qs)) iq ∙ last_at qs i)

  pub is_of : EachIsOf all_q all → IsOf t i
  is_of r = r (length ss) t i here queue_here

  pub before : (q : ℕ) (s : HeldPass) → slice_get ss q ≡ Some s → slice_get all q ≡ Some s
  before q s e = ap (λ l. slice_get l q) is ∙ front_at ss t q s e

  pub front_of : EachIsOf all_q all → EachIsOf qs ss
  front_of r q s j a b = r q s j (before q s a) (ap (λ l. slice_get l q) iq ∙ front_at qs i q j b)

  -- one more is closed
  pub each_more : {V : Type 0} (items_of : V → List Item) (given : List HeldPass) (left : List V) (new : V) (k : ℕ) → k ≡ length ss
      → ((q : ℕ) (s : HeldPass) → slice_get all q ≡ Some s → slice_get given q ≡ Some s)
      → ((q : ℕ) (s : HeldPass) (items : List Item) → length all ≤ q → slice_get given q ≡ Some s → slice_get (map items_of left) q ≡ Some items
      → IsRest s.view items)
      → IsRest t.view (items_of new)
      → (q : ℕ) (s : HeldPass) (items : List Item) → length ss ≤ q → slice_get given q ≡ Some s → slice_get (map items_of (set left k new)) q ≡ Some items
      → IsRest s.view items
  each_more items_of given left new k place same each rest q s items le hs hl = dite (ℕ_discrete q k)
      (λ y.
      let e : t ≡ s = same_Some t s (sym (same (length ss) t here) ∙ (ap (λ (j : ℕ). slice_get given j) (sym (y ∙ place)) ∙ hs)) in
      let f : items_of new ≡ items = set_value (map items_of left) k (items_of new) items
      (ap (λ (j : ℕ). slice_get (set (map items_of left) k (items_of new)) j) (sym y) ∙ (ap (λ l. slice_get l q) (sym (map_set items_of left k new)) ∙ hl)) in
      subst (λ (u : HeldPass). IsRest u.view items) e (subst (λ (l : List Item). IsRest t.view l) f rest))
      (λ n. let g = fewer in each q s items (omega (arith, n, le, g, place)) hs
      (sym (get_set_else (map items_of left) k q (items_of new) n) ∙ (ap (λ l. slice_get l q) (sym (map_set items_of left k new)) ∙ hl)))
