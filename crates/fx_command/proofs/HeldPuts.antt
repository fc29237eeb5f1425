-- The puts that a queue holds: what was put there first is taken first.
use Rattle.std.proofs.Common.{◌≡◌, ℕ, zero, suc, ◌+◌, ◌<◌, Option, Some, None, List, [], ◌∷◌, ◌++◌, length, drop}
use Rattle.std.proofs.Common.{refl, sym, ap, ◌∙◌, append-nil, append_assoc, arith, inl, inr}
use Rattle.std.specs.Prelude.{replicate, slice_get, slice_set}
use Rattle.std.proofs.lemmas.Bool.{cases_eq, eq-eqb, ne_eqb}
use Rattle.std.proofs.lemmas.List.{replicate-append-replicate}
use Rattle.fx_term.specs.declared.event.Event.{Event}
use Rattle.fx_term.specs.declared.event.Event.TheVariants as event
use Rattle.fx_plain.specs.declared.told.Told.{Told}
use Rattle.fx_plain.specs.declared.told.Told.TheVariants.{Step, Request, Passed}
use Rattle.fx_picture.specs.declared.stood.EventAt.{EventAt}
use Rattle.fx_command.specs.SoFar.{SoFarView, nothing_shown, next_of, held_in, front_of, cause_by}
use Rattle.fx_command.specs.StoodEvents.{shown_when, shown_after}
use Rattle.fx_command.specs.TakesInOrder.{one_cause, puts_when, causes_when, puts_in, causes_in, puts_told, causes_told, held_told, shown_by_all}

pub set_here : (xs : List (List EventAt)) (q : ℕ) (x : List EventAt) → q < length xs → held_in (slice_set xs q x) q ≡ x
set_here [] q x lt = absurd (omega arith)
set_here (y ∷ xs) zero x lt = refl
set_here (y ∷ xs) (suc q) x lt = set_here xs q x (omega arith)

pub set_there : (xs : List (List EventAt)) (p q : ℕ) (x : List EventAt) → (p ≡ q → ⊥) → held_in (slice_set xs p x) q ≡ held_in xs q
set_there [] p q x ne = refl
set_there (y ∷ xs) zero zero x ne = absurd (ne refl)
set_there (y ∷ xs) zero (suc q) x ne = refl
set_there (y ∷ xs) (suc p) zero x ne = refl
set_there (y ∷ xs) (suc p) (suc q) x ne = set_there xs p q x (λ same. ne (ap suc same))

set_keeps : (xs : List (List EventAt)) (p : ℕ) (x : List EventAt) → length (slice_set xs p x) ≡ length xs
set_keeps [] p x = refl
set_keeps (y ∷ xs) zero x = refl
set_keeps (y ∷ xs) (suc p) x = ap suc (set_keeps xs p x)

taken : (held : List EventAt) → held ++ [] ≡ one_cause (front_of held) ++ drop 1 held
taken [] = refl
taken (x ∷ held) = ap (λ (l : List EventAt). x ∷ l) (append-nil held)

module _ (q : ℕ) (s : SoFarView) (within : q < length s.queues) where
  put_or_taken : (f : ℕ) (e : Event) → held_in s.queues q ++ puts_when q s f (Some e) ≡ causes_when q s (Some e) ++ held_in (shown_when s f (Some e)).queues q
  put_or_taken f (event.Put p v) = elim (cases_eq p q) [
    | inl same ↦ rw (same, eq-eqb q q refl) (sym (set_here s.queues q (held_in s.queues q ++ next_of s f ∷ []) within))
    | inr other ↦ rw (ne_eqb p q other)
        (append-nil (held_in s.queues q) ∙ sym (set_there s.queues p q (held_in s.queues p ++ next_of s f ∷ []) other))
  ]
  put_or_taken f (event.Got p v) = elim (cases_eq p q) [
    | inl same ↦ rw (same, eq-eqb q q refl, set_here s.queues q (drop 1 (held_in s.queues q)) within) (taken (held_in s.queues q))
    | inr other ↦ rw (ne_eqb p q other)
        (append-nil (held_in s.queues q) ∙ sym (set_there s.queues p q (drop 1 (held_in s.queues p)) other))
  ]
  put_or_taken f _ = append-nil (held_in s.queues q)

  one_shown : (f : ℕ) (e : Option Event) → held_in s.queues q ++ puts_when q s f e ≡ causes_when q s e ++ held_in (shown_when s f e).queues q
  one_shown f None = append-nil (held_in s.queues q)
  one_shown f (Some e) = put_or_taken f e

  pub one_told : (t : Told) → held_in s.queues q ++ puts_in q s t ≡ causes_in q s t ++ held_in (shown_after s t).queues q
  one_told (Step made) = one_shown made.fiber made.event
  one_told (Request f) = append-nil (held_in s.queues q)
  one_told (Passed x) = append-nil (held_in s.queues q)

  still_event : (f : ℕ) (e : Event) → q < length (shown_when s f (Some e)).queues
  still_event f (event.Put p v) = let same = set_keeps s.queues p (held_in s.queues p ++ next_of s f ∷ []) in omega arith
  still_event f (event.Got p v) = let same = set_keeps s.queues p (drop 1 (held_in s.queues p)) in omega arith
  still_event f _ = within

  still_shown : (f : ℕ) (e : Option Event) → q < length (shown_when s f e).queues
  still_shown f None = within
  still_shown f (Some e) = still_event f e

  pub still_within : (t : Told) → q < length (shown_after s t).queues
  still_within (Step made) = still_shown made.fiber made.event
  still_within (Request f) = within
  still_within (Passed x) = within

pub within_all : (q : ℕ) (s : SoFarView) (told : List Told) → q < length s.queues → q < length (shown_by_all s told).queues
within_all q s [] within = within
within_all q s (t ∷ told) within = within_all q (shown_after s t) told (still_within q s within t)

pub in_order : (q : ℕ) (s : SoFarView) (told : List Told) → q < length s.queues
    → held_in s.queues q ++ puts_told q s told ≡ causes_told q s told ++ held_told q s told
in_order q s [] within = append-nil (held_in s.queues q)
in_order q s (t ∷ told) within =
    sym (append_assoc (held_in s.queues q) (puts_in q s t) (puts_told q (shown_after s t) told))
    ∙ ap (λ (l : List EventAt). l ++ puts_told q (shown_after s t) told) (one_told q s within t)
    ∙ append_assoc (causes_in q s t) (held_in (shown_after s t).queues q) (puts_told q (shown_after s t) told)
    ∙ ap (λ (l : List EventAt). causes_in q s t ++ l) (in_order q (shown_after s t) told (still_within q s within t))
    ∙ sym (append_assoc (causes_in q s t) (causes_told q (shown_after s t) told) (held_told q (shown_after s t) told))

pub none_held : (n q : ℕ) → held_in (replicate n []) q ≡ []
none_held zero q = refl
none_held (suc n) zero = refl
none_held (suc n) (suc q) = none_held n q

abbrev no_puts : List EventAt
no_puts = []

pub one_more_queue : (xs ys : List (List EventAt)) (x : List EventAt) (n : ℕ) → xs ≡ replicate n no_puts → x ≡ no_puts → ys ≡ xs ++ x ∷ []
    → ys ≡ replicate (n + 1) no_puts
one_more_queue xs ys x n are none pushed = rw (pushed, are, none) (replicate-append-replicate n 1 no_puts)

pub as_many : (n : ℕ) → length (replicate n no_puts) ≡ n
as_many zero = refl
as_many (suc n) = ap suc (as_many n)

pub from_nothing : (fibers queues q : ℕ) (told : List Told) → q < queues
    → puts_told q (nothing_shown fibers queues) told
    ≡ causes_told q (nothing_shown fibers queues) told ++ held_told q (nothing_shown fibers queues) told
from_nothing fibers queues q told below =
    let many = as_many queues in
    ap (λ (l : List EventAt). l ++ puts_told q (nothing_shown fibers queues) told) (sym (none_held queues q))
    ∙ in_order q (nothing_shown fibers queues) told (omega arith)

held_after : (q : ℕ) (s : SoFarView) (told : List Told) → held_told q s told ≡ held_in (shown_by_all s told).queues q
held_after q s [] = refl
held_after q s (t ∷ told) = held_after q (shown_after s t) told

behind : (taken held : List EventAt) (x : EventAt) → front_of held ≡ Some x → slice_get (taken ++ held) (length taken) ≡ Some x
behind [] [] x is = absurd (cc is)
behind [] (y ∷ held) x is = is
behind (y ∷ taken) held x is = behind taken held x is

-- what causes the next get from a queue is the put behind those that were taken
pub next_put : (fibers queues q v : ℕ) (before : List Told) (x : EventAt) → q < queues
    → cause_by (shown_by_all (nothing_shown fibers queues) before).queues (event.Got q v) ≡ Some x
    → slice_get (puts_told q (nothing_shown fibers queues) before) (length (causes_told q (nothing_shown fibers queues) before)) ≡ Some x
next_put fibers queues q v before x below is =
    ap (λ (l : List EventAt). slice_get l (length (causes_told q (nothing_shown fibers queues) before))) (from_nothing fibers queues q before below)
    ∙ behind (causes_told q (nothing_shown fibers queues) before) (held_told q (nothing_shown fibers queues) before) x
    (ap front_of (held_after q (nothing_shown fibers queues) before) ∙ is)
