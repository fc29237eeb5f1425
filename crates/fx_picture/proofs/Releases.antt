-- What is acquired in a balanced trace is released behind that.
use Rattle.std.proofs.Common.{◌≡◌, ℕ, zero, suc, ◌+◌, ◌<◌, ◌⊎◌, Some, List, [], ◌∷◌, ◌++◌, refl, ap, subst, ◌∙◌, length, arith, inl, inr, slice_get}
use Rattle.std.proofs.lemmas.Option.{same_Some}
use Rattle.fx_term.specs.declared.event.Event.{Event}
use Rattle.fx_term.specs.declared.event.Event.TheVariants as event
use Rattle.fx_model.specs.Balanced.{IsOfNoResource, IsNested, nothing, other, resource, appended}

-- the release of resource k ends behind place i
pub record IsReleased (es : List Event) (i k : ℕ) : Type 0 where
  pub place : ℕ
  pub behind : i < place
  pub is : slice_get es place ≡ Some (event.End k)

-- behind these
past : (xs ys : List Event) (m : ℕ) (e : Event) → slice_get ys m ≡ Some e → slice_get (xs ++ ys) (length xs + m) ≡ Some e
past [] ys m e is = let same : m ≡ 0 + m = omega arith in subst (λ (n : ℕ). slice_get ys n ≡ Some e) same is
past (x ∷ xs) ys m e is =
    let same : suc (length xs + m) ≡ suc (length xs) + m = omega arith in
    subst (λ (n : ℕ). slice_get (x ∷ (xs ++ ys)) n ≡ Some e) same (past xs ys m e is)

still : (xs ys : List Event) (i : ℕ) (e : Event) → slice_get xs i ≡ Some e → slice_get (xs ++ ys) i ≡ Some e
still [] ys i e is = absurd (cc is)
still (x ∷ xs) ys zero e is = is
still (x ∷ xs) ys (suc i) e is = still xs ys i e is

-- an event of two lists is one of the first or of the second
record IsPast (xs ys : List Event) (i : ℕ) (e : Event) : Type 0 where
  place : ℕ
  at : i ≡ length xs + place
  is : slice_get ys place ≡ Some e

of_either : (xs ys : List Event) (i : ℕ) (e : Event) → slice_get (xs ++ ys) i ≡ Some e → (slice_get xs i ≡ Some e) ⊎ IsPast xs ys i e
of_either [] ys i e is = inr (record { place = i; at = omega arith; is = is })
of_either (x ∷ xs) ys zero e is = inl is
of_either (x ∷ xs) ys (suc i) e is = elim (of_either xs ys i e is) [
  | inl first ↦ inl first
  | inr second ↦ inr (record { place = second.place; at = let same = second.at in omega arith; is = second.is })
]

released_before : (xs ys : List Event) (i k : ℕ) → IsReleased xs i k → IsReleased (xs ++ ys) i k
released_before xs ys i k r = record { place = r.place; behind = r.behind; is = still xs ys r.place (event.End k) r.is }

released_past : (xs ys : List Event) (i m k : ℕ) → i ≡ length xs + m → IsReleased ys m k → IsReleased (xs ++ ys) i k
released_past xs ys i m k at r = record {
  place = length xs + r.place;
  behind = let lt = r.behind in omega arith;
  is = past xs ys r.place (event.End k) r.is;
}

released_next : (e : Event) (es : List Event) (i k : ℕ) → IsReleased es i k → IsReleased (e ∷ es) (suc i) k
released_next e es i k r = record { place = suc r.place; behind = let lt = r.behind in omega arith; is = r.is }

-- an end is no acquisition
no_end : (j m k : ℕ) → slice_get (event.End j ∷ []) m ≡ Some (event.Acquired k) → ⊥
no_end j zero k is = cc is
no_end j (suc m) k is = cc is

-- the last event of a resource's life
last_of : (j : ℕ) (w x : List Event) → slice_get (w ++ event.Begin j ∷ (x ++ event.End j ∷ [])) (length w + suc (length x + 0)) ≡ Some (event.End j)
last_of j w x = past w _ _ _ (past x (event.End j ∷ []) 0 (event.End j) refl)

-- what is acquired in these is released behind that
abbrev AllReleased : List Event → Type 0
AllReleased es = (i k : ℕ) → slice_get es i ≡ Some (event.Acquired k) → IsReleased es i k

-- so it is in what a resource's life has behind its acquisition
after : (j : ℕ) (x : List Event) → AllReleased x → AllReleased (event.Begin j ∷ (x ++ event.End j ∷ []))
after j x all zero k is = absurd (cc is)
after j x all (suc m) k is = released_next (event.Begin j) _ m k (elim (of_either x (event.End j ∷ []) m (event.Acquired k) is) [
  | inl first ↦ released_before x _ m k (all m k first)
  | inr second ↦ absurd (no_end j second.place k second.is)
])

joined : (w x : List Event) → AllReleased w → AllReleased x → AllReleased (w ++ x)
joined w x all_w all_x i k is = elim (of_either w x i (event.Acquired k) is) [
  | inl first ↦ released_before w x i k (all_w i k first)
  | inr second ↦ released_past w x i second.place k second.at (all_x second.place k second.is)
]

pub released : {es : List Event} → IsNested es → AllReleased es
released nothing i k is = absurd (cc is)
released (other {e = e} none) zero k is = absurd (subst IsOfNoResource (same_Some e (event.Acquired k) is) none)
released (other none) (suc i) k is = absurd (cc is)
released (resource {k = j} {w = w} {x = x} nw nx) zero k is =
    let same : j ≡ k = cc is in
    record {
      place = suc (length w + suc (length x + 0));
      behind = omega arith;
      is = last_of j w x ∙ ap (λ (n : ℕ). Some (event.End n)) same;
    }
released (resource {k = j} {w = w} {x = x} nw nx) (suc i) k is =
    released_next (event.Acquired j) _ i k (joined w _ (λ i k is. released nw i k is) (after j x (λ i k is. released nx i k is)) i k is)
released (appended {w = w} {x = x} nw nx) i k is = joined w x (λ i k is. released nw i k is) (λ i k is. released nx i k is) i k is
