-- Rows of passes that take others in.
use Rattle.std.proofs.Common.{◌≡◌, ℕ, ◌+◌, ◌≤◌, List, [], ◌∷◌, ◌++◌, length, get_or, set, Some, slice_get, refl, sym, ◌∙◌, ap, subst, arith, zero, suc}
use Rattle.std.proofs.lemmas.Option.{same_Some, slice_get_read}
use Rattle.std.proofs.lemmas.List.{length-append}
use mathlib.Core.Logic.{dite}
use native.Mathlib.Decide.{ℕ_discrete}
use Rattle.fx_queue.specs.Queues.{QueueId, HeldPass, IsOf, joined_pass}
use Rattle.fx_port.specs.Rows.{EachIsOf, IsRowOf, joined_row}
use Rattle.fx_port.proofs.Places.{get_set_same, get_set_else}

joined_nil : (ss : List HeldPass) → joined_row ss [] ≡ ss
joined_nil [] = refl
joined_nil (s ∷ ss) = refl

pub joined_last : (ss ts : List HeldPass) (s t : HeldPass) → slice_get ss (length ts) ≡ Some s
    → joined_row (set ss (length ts) (joined_pass s t)) ts ≡ joined_row ss (ts ++ t ∷ [])
joined_last [] ts s t e = refl
joined_last (x ∷ ss) [] s t e = let h = same_Some x s e in λ i. joined_pass (sym h i) t ∷ sym (joined_nil ss) i
joined_last (x ∷ ss) (u ∷ ts) s t e = ap (λ l. joined_pass x u ∷ l) (joined_last ss ts s t e)

pub joined_end : (ss ts : List HeldPass) → ts ≡ [] → joined_row ss ts ≡ ss
joined_end ss ts e = ap (joined_row ss) e ∙ joined_nil ss

pub front_at : {A : Type 0} (l : List A) (x : A) (q : ℕ) (a : A) → slice_get l q ≡ Some a → slice_get (l ++ x ∷ []) q ≡ Some a
front_at [] x q a e = let z : ⊥ = cc in absurd z
front_at (y ∷ l) x zero a e = e
front_at (y ∷ l) x (suc q) a e = front_at l x q a e

pub last_at : {A : Type 0} (l : List A) (x : A) → slice_get (l ++ x ∷ []) (length l) ≡ Some x
last_at [] x = refl
last_at (y ∷ l) x = last_at l x

pub front_row : (queues : List QueueId) (ts all : List HeldPass) (t : HeldPass) → all ≡ ts ++ t ∷ [] → EachIsOf queues all → EachIsOf queues ts
front_row queues ts all t e r q s i a b = r q s i (ap (λ l. slice_get l q) e ∙ front_at ts t q s a) b

pub set_row : (queues : List QueueId) (ss : List HeldPass) (q : ℕ) (s s' t : HeldPass) → EachIsOf queues ss → slice_get ss q ≡ Some s → s' ≡ joined_pass s t
    → EachIsOf queues (set ss q s')
set_row queues ss q s s' t r at e k u i hu hq = dite (ℕ_discrete k q)
    (λ y.
    let f : joined_pass s t ≡ u = sym e ∙ same_Some s' u (sym (get_set_same ss q s' s at) ∙ (ap (λ (j : ℕ). slice_get (set ss q s') j) (sym y) ∙ hu)) in
    let old = r q s i at (ap (slice_get queues) (sym y) ∙ hq) in
    subst (λ (w : HeldPass). IsOf w i) f (old.0, old.1))
    (λ n. r k u i (sym (get_set_else ss q k s' n) ∙ hu) hq)

-- one more pass is taken in, that of the last place of those that are left
module _ (queues : List QueueId) (ss all ts : List HeldPass) (t : HeldPass) (is : all ≡ ts ++ t ∷ []) where
  pub one_less : length ts + 1 ≡ length all
  one_less = let e = ap length is in let f = length-append ts (t ∷ []) in omega (arith, e, f)

  pub there : (s : HeldPass) → length ss ≡ length queues → length all ≤ length queues → s ≡ get_or ss (length ts) s → slice_get ss (length ts) ≡ Some s
  there s long short e = let f = one_less in slice_get_read ss (length queues) (length ts) s (sym long) (omega (arith, f, short)) e

  pub their_queue : (i : QueueId) → length all ≤ length queues → i ≡ get_or queues (length ts) i → slice_get queues (length ts) ≡ Some i
  their_queue i short e = let f = one_less in slice_get_read queues (length queues) (length ts) i refl (omega (arith, f, short)) e

pub nil_of : (ts : List HeldPass) → length ts ≡ 0 → ts ≡ []
nil_of [] e = refl
nil_of (t ∷ ts) e = absurd (omega (arith, e))

module _ (queues : List QueueId) (ss all ts : List HeldPass) (t : HeldPass) (is : all ≡ ts ++ t ∷ []) (k : ℕ) (place : k ≡ length ts) where
  pub step_there : (s : HeldPass) → length ss ≡ length queues → length all ≤ length queues → s ≡ get_or ss k s → slice_get ss k ≡ Some s
  step_there s long short e = let f = one_less queues ss all ts t is in slice_get_read ss (length queues) k s (sym long) (omega (arith, f, short, place)) e

  pub step_rest : (s s' : HeldPass) → slice_get ss k ≡ Some s → s' ≡ joined_pass s t → joined_row (set ss k s') ts ≡ joined_row ss all
  step_rest s s' at e =
      ap (λ x. joined_row (set ss k x) ts) e
      ∙ (subst (λ (j : ℕ). slice_get ss j ≡ Some s → joined_row (set ss j (joined_pass s t)) ts ≡ joined_row ss (ts ++ t ∷ [])) (sym place)
      (joined_last ss ts s t) at
      ∙ ap (joined_row ss) (sym is))

-- a row that took another one in is one of the same queues
joined_at : (ss ts : List HeldPass) (q : ℕ) (u : HeldPass) → slice_get (joined_row ss ts) q ≡ Some u
    → (s : HeldPass) × (slice_get ss q ≡ Some s) × (u.table ≡ s.table) × (u.view.cap ≡ s.view.cap)
joined_at [] ts q u e = let z : ⊥ = cc in absurd z
joined_at (s ∷ ss) [] q u e = (u, e, refl, refl)
joined_at (s ∷ ss) (t ∷ ts) zero u e =
    let h = sym (same_Some (joined_pass s t) u e) in
    (s, refl, ap (λ (w : HeldPass). w.table) h, ap (λ (w : HeldPass). w.view.cap) h)
joined_at (s ∷ ss) (t ∷ ts) (suc q) u e = joined_at ss ts q u e

joined_long : (ss ts : List HeldPass) → length (joined_row ss ts) ≡ length ss
joined_long [] ts = refl
joined_long (s ∷ ss) [] = refl
joined_long (s ∷ ss) (t ∷ ts) = ap suc (joined_long ss ts)

pub joined_rows : (queues : List QueueId) (ss ts : List HeldPass) → IsRowOf queues ss → IsRowOf queues (joined_row ss ts)
joined_rows queues ss ts row = record {
  as_many = joined_long ss ts ∙ row.as_many;
  each = λ q u i hu hq. let t = joined_at ss ts q u hu in let old = row.each q t.0 i t.1 hq in (t.2 ∙ old.0, t.3 ∙ old.1);
}
