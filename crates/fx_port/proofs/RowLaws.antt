-- What a row of passes knows after a call at one of them.
use Rattle.std.proofs.Common.{◌≡◌, ℕ, ◌+◌, ◌<◌, ◌≤◌, List, [], ◌∷◌, length, map, set}
use Rattle.std.proofs.Common.{get_or, Some, None, slice_get, zero, suc, refl, sym, ◌∙◌, ap, subst, arith}
use Rattle.std.proofs.lemmas.Option.{same_Some, slice_get_read}
use Rattle.std.proofs.lemmas.List.Sums.{sum_by-cons}
use Rattle.crossbeam_queue.specs.Fifo.{Held}
use Rattle.fx_term.specs.declared.item.Item.{Item}
use Rattle.fx_term.specs.declared.offered.Offered.{Offered}
use Rattle.fx_term.specs.declared.offered.Offered.TheVariants.{Done, Full}
use Rattle.fx_queue.specs.Told.{DidPut, DidGet, stands}
use Rattle.fx_queue.specs.Queues.{QueueId, HeldPass, IsOf, IsSameFiber, kept_pass, given_pass}
use Rattle.fx_port.specs.Rows.{MatchOffered, IsRowOf, puts_by, puts_in, RowOffers, RowTakes, FoundFullAt, FoundEmptyAt}

pub within : {A : Type 0} (l : List A) (q : ℕ) (a : A) → slice_get l q ≡ Some a → q < length l
within [] q a e = let z : ⊥ = cc in absurd z
within (x ∷ l) zero a e = omega arith
within (x ∷ l) (suc q) a e = let k = within l q a e in omega (arith, k)

pub none_beyond : {A P : Type 0} (l : List A) (q : ℕ) (a : A) → length l ≤ q → slice_get l q ≡ Some a → P
none_beyond l q a le e = let k = within l q a e in absurd (omega (arith, k, le))

-- a pass of a row is of the queue that stands at its place
pub pass_is_of : (queues : List QueueId) (passes : List HeldPass) → IsRowOf queues passes → (q : ℕ) (s : HeldPass) (i : QueueId)
    → slice_get passes q ≡ Some s → i ≡ get_or queues q i → IsOf s i
pass_is_of queues passes row q s i at e =
    let lt = within passes q s at in
    let many = row.as_many in
    row.each q s i at (slice_get_read queues (length queues) q i refl (omega (arith, lt, many)) e)

pub set_back : {A : Type 0} (l : List A) (i : ℕ) (a b : A) → slice_get l i ≡ Some b → a ≡ b → set l i a ≡ l
set_back [] i a b e f = refl
set_back (x ∷ l) zero a b e f = let t : x ≡ b = same_Some x b e in λ i. (f ∙ sym t) i ∷ l
set_back (x ∷ l) (suc i) a b e f = ap (λ k. x ∷ k) (set_back l i a b e f)

module _ (passes : List HeldPass) (q : ℕ) (s s' : HeldPass) (at : slice_get passes q ≡ Some s) where
  held : (n : HeldPass → ℕ) → Held (n s) (stands s.view) → (t : HeldPass) → slice_get passes q ≡ Some t → Held (n t) (stands t.view)
  held n h t e = subst (λ (u : HeldPass). Held (n u) (stands u.view)) (same_Some s t (sym at ∙ e)) h

  pub row_offers : (value stamp : ℕ) (r : Offered) → IsSameFiber s s'
      → MatchOffered r (DidPut s.view value stamp s'.view) ((s' ≡ s) × Held s.view.cap (stands s.view))
      → RowOffers passes q value stamp r (set passes q s')
  row_offers value stamp Done same did = record { pass = s; pass' = s'; at = at; same = same; did = did; is = refl }
  row_offers value stamp Full same did = (held (λ u. u.view.cap) did.1, set_back passes q s' s at did.0)

  pub row_takes : (x : Item) → IsSameFiber s s' → DidGet s.view x s'.view → RowTakes passes q (Some (x.value, x.stamp)) (set passes q s')
  row_takes x same did = record { pass = s; pass' = s'; item = x; at = at; same = same; did = did; value_is = refl; stamp_is = refl; is = refl }

  pub row_finds_none : (s' ≡ s) × Held 0 (stands s.view) → RowTakes passes q None (set passes q s')
  row_finds_none did = (held (λ u. 0) did.1, set_back passes q s' s at did.0)

pub full_beyond : (passes : List HeldPass) (q : ℕ) → length passes ≤ q → FoundFullAt passes q
full_beyond passes q le s e = none_beyond passes q s le e

pub empty_beyond : (passes : List HeldPass) (q : ℕ) → length passes ≤ q → FoundEmptyAt passes q
empty_beyond passes q le s e = none_beyond passes q s le e

-- how often the passes have put, where one of them is another one
pub puts_set : (passes : List HeldPass) (q : ℕ) (s s' : HeldPass)
    → slice_get passes q ≡ Some s → puts_in (set passes q s') + puts_by s ≡ puts_in passes + puts_by s'
puts_set [] q s s' e = let z : ⊥ = cc in absurd z
puts_set (x ∷ passes) zero s s' e =
    let t : puts_by x ≡ puts_by s = ap puts_by (same_Some x s e) in
    let a = sum_by-cons puts_by s' passes in
    let b = sum_by-cons puts_by x passes in
    omega (arith, t, a, b)
puts_set (x ∷ passes) (suc q) s s' e =
    let r = puts_set passes q s s' e in
    let a = sum_by-cons puts_by x (set passes q s') in
    let b = sum_by-cons puts_by x passes in
    omega (arith, r, a, b)

pub puts_part : (passes : List HeldPass) (q : ℕ) (s : HeldPass) → slice_get passes q ≡ Some s → puts_by s ≤ puts_in passes
puts_part [] q s e = let z : ⊥ = cc in absurd z
puts_part (x ∷ passes) zero s e =
    let t : puts_by x ≡ puts_by s = ap puts_by (same_Some x s e) in
    let b = sum_by-cons puts_by x passes in
    omega (arith, t, b)
puts_part (x ∷ passes) (suc q) s e =
    let r = puts_part passes q s e in
    let b = sum_by-cons puts_by x passes in
    omega (arith, r, b)

-- a split leaves what was put, and new passes have put nothing
pub puts_kept : (end : ℕ) (passes : List HeldPass) → puts_in (map (kept_pass end) passes) ≡ puts_in passes
puts_kept end [] = refl
puts_kept end (x ∷ passes) =
    let r = puts_kept end passes in
    let a = sum_by-cons puts_by (kept_pass end x) (map (kept_pass end) passes) in
    let b = sum_by-cons puts_by x passes in
    let t : puts_by (kept_pass end x) ≡ puts_by x = refl in
    omega (arith, r, a, b, t)

pub puts_given : (end : ℕ) (passes : List HeldPass) → puts_in (map (given_pass end) passes) ≡ 0
puts_given end [] = refl
puts_given end (x ∷ passes) =
    let r = puts_given end passes in
    let a = sum_by-cons puts_by (given_pass end x) (map (given_pass end) passes) in
    let t : puts_by (given_pass end x) ≡ 0 = refl in
    omega (arith, r, a, t)
