-- What a sort by stamp, fiber and place gives.
use Rattle.std.proofs.Common.{◌≡◌, ℕ, ◌<◌, ◌≤◌, false, List, refl, sym, arith, inl, inr, ◌⊎◌, true≢false}
use Rattle.std.specs.Cmp.{IsTotalOrder}
use Rattle.std.specs.Ordering.{is_lt, nat_cmp, ordering_then, MatchOrdering}
use Rattle.std.specs.List.Sorted.{IsSortedByKey}
use Rattle.std.specs.declared.cmp.Ordering.{Ordering}
use Rattle.std.specs.declared.cmp.Ordering.TheVariants.{Less, Equal, Greater}
use Rattle.std.proofs.lemmas.Cmp.{nat_cmp_total, then_total, on_total, ranked}
use Rattle.std.proofs.lemmas.List.Sorted.{sorted_far, ranks_by}
use Rattle.std.proofs.lemmas.Option.{get_or_from_slice_get, slice_get_within}
use Rattle.fx_order.specs.declared.occurrence.Occurrence.{Occurrence}
use Rattle.fx_order.specs.Occurrences.{IsNoLater, IsInOrder}

abbrev pub key_of : Occurrence → ℕ × ℕ × ℕ
key_of x = (x.stamp, x.fiber, x.place)

abbrev pub key_cmp : ℕ × ℕ × ℕ → ℕ × ℕ × ℕ → Ordering
key_cmp x y = ordering_then (ordering_then (nat_cmp x.0 y.0) (nat_cmp x.1 y.1)) (nat_cmp x.2 y.2)

by_orderings : (o p q : Ordering) (a b c d e f : ℕ) → MatchOrdering o (a < b) (a ≡ b) (b < a) → MatchOrdering p (c < d) (c ≡ d) (d < c)
    → MatchOrdering q (e < f) (e ≡ f) (f < e) → is_lt (ordering_then (ordering_then o p) q) ≡ false
    → (b < a) ⊎ ((b ≡ a) × ((d < c) ⊎ ((d ≡ c) × (f ≤ e))))
by_orderings Less p q a b c d e f x y z is = absurd (true≢false is)
by_orderings Greater p q a b c d e f x y z is = inl x
by_orderings Equal Less q a b c d e f x y z is = absurd (true≢false is)
by_orderings Equal Greater q a b c d e f x y z is = inr (sym x, inl y)
by_orderings Equal Equal Less a b c d e f x y z is = absurd (true≢false is)
by_orderings Equal Equal Equal a b c d e f x y z is = inr (sym x, inr (sym y, omega arith))
by_orderings Equal Equal Greater a b c d e f x y z is = inr (sym x, inr (sym y, omega arith))

-- who is not less by the sort's test is no earlier
no_later : (x y : Occurrence) → is_lt (key_cmp (key_of y) (key_of x)) ≡ false → IsNoLater x y
no_later x y =
    by_orderings (nat_cmp y.stamp x.stamp) (nat_cmp y.fiber x.fiber) (nat_cmp y.place x.place) y.stamp x.stamp y.fiber x.fiber y.place x.place
    (ranked y.stamp x.stamp _ refl) (ranked y.fiber x.fiber _ refl) (ranked y.place x.place _ refl)

key_total : IsTotalOrder key_cmp
key_total =
    then_total (then_total (on_total (λ k. k.0) nat_cmp_total) (on_total (λ k. k.1) nat_cmp_total)) (on_total (λ k. k.2) nat_cmp_total)

pub in_order-from_sort : (list : List Occurrence) → IsSortedByKey key_of key_cmp list → IsInOrder list
in_order-from_sort list sorted i j x y lt is later =
    let far = sorted_far (λ a b. is_lt (key_cmp (key_of a) (key_of b))) (ranks_by key_total key_of) list sorted i j x (omega arith)
    (slice_get_within list j y later) in
    let here = get_or_from_slice_get list i x x is in
    let there = get_or_from_slice_get list j y x later in
    no_later x y (rw (sym here, sym there) far)
