-- Fibers that have acquired another number of resources: others see nothing of it.
use Rattle.std.proofs.Common.{◌≡◌, ℕ, ◌+◌, Bool, List, [], ◌∷◌, ◌++◌, refl, sym, ◌∙◌, ap, subst}
use Rattle.fx_term.specs.declared.done.Done.{Done}
use Rattle.fx_term.specs.declared.done.Done.TheVariants.{Val, Err}
use Rattle.fx_term.specs.declared.event.Event.TheVariants as event
use Rattle.fx_term.specs.Term.{Term, Finished, InUse, InUseCase, InRelease, put}
use Rattle.fx_mask.specs.Closing.{Closing, is_none_closed}
use Rattle.fx_model.specs.Path.{Context, LetIn, HandleIn, OnCancelIn, AcquireIn, AcquireCaseIn, MaskedIn, OpenedIn, InUseIn, InUseCaseIn, InReleaseIn}
use Rattle.fx_model.specs.Path.{plug, leaf, closed_under, closed_regions, CleanupTerm, Finalizer, Release, cleanups_with, cleanup_terms, must_cancel}
use Rattle.fx_model.specs.Row.{Counts, Label, Shows, known_canceled, Row}
use Rattle.fx_model.specs.Row as rule
use Rattle.fx_model.specs.Step.{Runs, Unwinds}
use Rattle.fx_model.proofs.Paths.{closed_plug, leaf_plug, cleanups_plug, no_context, row_plug, part_row, result_has_no_row}
use Rattle.fx_laws.proofs.Placed.{RowOfPart, moves, result, row_of_part}
use Rattle.fx_laws.proofs.Views.{IsMatched}
use Rattle.fx_laws.proofs.Inside.{RowIsFollowed, inside_matched}
use Rattle.fx_laws.proofs.Forced.{AreMatched, unwound_both}
use Rattle.fx_laws.proofs.Unwinding.{AreSameBefore, last, finalizer, release, unwinding_matched}
use Rattle.fx_laws.proofs.Results.{results_matched}
use Rattle.fx_laws.proofs.Looking.{looking}

-- the same context but for the number of its resource
pub data IsContextToo : Context → Context → Type 0 where
  itself : {f : Context} → IsContextToo f f
  use_too : {k k' : ℕ} {r : Term} → IsContextToo (InUseIn k r) (InUseIn k' r)
  use_case_too : {k k' y z : ℕ} {s e d : Term} → IsContextToo (InUseCaseIn k y s z e d) (InUseCaseIn k' y s z e d)
  release_too : {k k' : ℕ} {w : Done} → IsContextToo (InReleaseIn k w) (InReleaseIn k' w)

-- the same term but for the numbers of the resources in use
pub data IsRenumbered : Term → Term → Type 0 where
  same : {t : Term} → IsRenumbered t t
  within : {f g : Context} {t t' a a' : Term} → t ≡ plug f a → t' ≡ plug g a' → IsContextToo f g → IsRenumbered a a' → IsRenumbered t t'

abbrev pub with_acquired : ℕ → Counts → Counts
with_acquired n c = record c { acquired = n }

pub record HasAcquiredOthers (c c' : Counts) : Type 0 where
  pub is : c' ≡ with_acquired c'.acquired c

abbrev pub IsFollowedSo : Bool → Counts → Term → Label → Counts → Term → Type 0
IsFollowedSo = RowIsFollowed looking HasAcquiredOthers IsRenumbered

so : (n : ℕ) (c d : Counts) {k : Bool} {t u : Term} {l : Label} → Row k (with_acquired n c) t l (with_acquired n d) u
    → IsFollowedSo k (with_acquired n c) t l d u
so n c d {u = u} {l = l} r =
    record { label = l; counts = with_acquired n d; term = u; row = r; seen_is = refl; near = record { is = refl }; same = same }

own_row : (n : ℕ) {k : Bool} {c d : Counts} {t u : Term} {l : Label} → Row k c t l d u → IsFollowedSo k (with_acquired n c) t l d u
own_row n {c = c} {d = d} rule.pure = so n c d rule.pure
own_row n {c = c} {d = d} rule.raise = so n c d rule.raise
own_row n {c = c} {d = d} rule.cede = so n c d rule.cede
own_row n {c = c} {d = d} (rule.self_request h) = so n c d (rule.self_request h)
own_row n {c = c} {d = d} rule.if_not_zero = so n c d rule.if_not_zero
own_row n {c = c} {d = d} rule.if_zero = so n c d rule.if_zero
own_row n {c = c} {d = d} rule.for_begins = so n c d rule.for_begins
own_row n {c = c} {d = d} (rule.loop_turns h) = so n c d (rule.loop_turns h)
own_row n {c = c} {d = d} (rule.loop_ends h) = so n c d (rule.loop_ends h)
own_row n {c = c} {d = d} rule.let_value = so n c d rule.let_value
own_row n {c = c} {d = d} rule.let_error = so n c d rule.let_error
own_row n {c = c} {d = d} rule.handle_value = so n c d rule.handle_value
own_row n {c = c} {d = d} rule.handle_error = so n c d rule.handle_error
own_row n {c = c} {d = d} rule.mask = so n c d rule.mask
own_row n {c = c} {d = d} rule.poll = so n c d rule.poll
own_row n {c = c} {d = d} rule.masked_ends = so n c d rule.masked_ends
own_row n {c = c} {d = d} rule.opened_ends = so n c d rule.opened_ends
own_row n {c = c} {d = d} rule.oncancel_ends = so n c d rule.oncancel_ends
own_row n {c = c} rule.acquired =
    record {
      label = Shows (event.Acquired n);
      counts = with_acquired (n + 1) c;
      term = _;
      row = rule.acquired;
      seen_is = refl;
      near = record { is = refl };
      same = within refl refl use_too same;
    }
own_row n {c = c} {d = d} rule.acquire_fails = so n c d rule.acquire_fails
own_row n {c = c} rule.acquired_case =
    record {
      label = Shows (event.Acquired n);
      counts = with_acquired (n + 1) c;
      term = _;
      row = rule.acquired_case;
      seen_is = refl;
      near = record { is = refl };
      same = within refl refl use_case_too same;
    }
own_row n {c = c} {d = d} rule.acquire_case_fails = so n c d rule.acquire_case_fails
own_row n {c = c} {d = d} rule.used = so n c d rule.used
own_row n {c = c} {d = d} rule.use_succeeded = so n c d rule.use_succeeded
own_row n {c = c} {d = d} rule.use_erred = so n c d rule.use_erred
own_row n {c = c} {d = d} rule.released = so n c d rule.released
own_row n {c = c} {d = d} rule.start = so n c d rule.start
own_row n {c = c} {d = d} rule.joined = so n c d rule.joined
own_row n {c = c} {d = d} rule.request = so n c d rule.request
own_row n {c = c} {d = d} rule.awaited = so n c d rule.awaited
own_row n {c = c} {d = d} rule.first_left = so n c d rule.first_left
own_row n {c = c} {d = d} rule.first_right = so n c d rule.first_right
own_row n {c = c} {d = d} rule.offered = so n c d rule.offered
own_row n {c = c} {d = d} rule.tried_offer = so n c d rule.tried_offer
own_row n {c = c} {d = d} rule.refused = so n c d rule.refused
own_row n {c = c} {d = d} rule.taken = so n c d rule.taken
own_row n {c = c} {d = d} rule.tried_take = so n c d rule.tried_take
own_row n {c = c} {d = d} rule.found_empty = so n c d rule.found_empty
own_row n (rule.inside f e g r) =
    let i = own_row n r in
    record {
      label = i.label;
      counts = i.counts;
      term = plug f i.term;
      row = rule.inside f e refl i.row;
      seen_is = i.seen_is;
      near = i.near;
      same = within g refl itself i.same;
    }

pub renumbered_result : (w : Done) (t' : Term) → IsRenumbered (Finished w) t' → t' ≡ Finished w
renumbered_result w t' same = refl
renumbered_result w t' (within {f = f} {a = a} e e' fg more) = absurd (no_context f a (Finished w) refl e)

-- the row of a result with the context round it
used_row : (n : ℕ) {k : Bool} {c d : Counts} {u : Term} {l : Label} (j j' : ℕ) (w : Done) (r : Term) → Row k c (InUse j (Finished w) r) l d u
    → IsFollowedSo k (with_acquired n c) (InUse j' (Finished w) r) l d u
used_row n {c = c} j j' w r rule.used =
    record {
      label = Shows (event.Begin j');
      counts = with_acquired n c;
      term = InRelease j' r w;
      row = rule.used;
      seen_is = refl;
      near = record { is = refl };
      same = within refl refl release_too same;
    }
used_row n j j' w r (rule.inside f e g h) = absurd (result_has_no_row (part_row (InUseIn j r) f (Finished w) e g h).1 refl)

used_case_row : (n : ℕ) (j j' : ℕ) (w : Done) (y z : ℕ) (s e r : Term) {k : Bool} {c d : Counts} {u : Term} {l : Label}
    → Row k c (InUseCase j (Finished w) y s z e r) l d u → IsFollowedSo k (with_acquired n c) (InUseCase j' (Finished w) y s z e r) l d u
used_case_row n j j' (Val m) y z s e r {c = c} rule.use_succeeded =
    record {
      label = Shows (event.Begin j');
      counts = with_acquired n c;
      term = InRelease j' (put y m s) (Val m);
      row = rule.use_succeeded;
      seen_is = refl;
      near = record { is = refl };
      same = within refl refl release_too same;
    }
used_case_row n j j' (Err i) y z s e r {c = c} rule.use_erred =
    record {
      label = Shows (event.Begin j');
      counts = with_acquired n c;
      term = InRelease j' (put z i e) (Err i);
      row = rule.use_erred;
      seen_is = refl;
      near = record { is = refl };
      same = within refl refl release_too same;
    }
used_case_row n j j' w y z s e r (rule.inside f at h q) =
    absurd (result_has_no_row (part_row (InUseCaseIn j y s z e r) f (Finished w) at h q).1 refl)

released_row : (n : ℕ) {k : Bool} {c d : Counts} {u : Term} {l : Label} (j j' : ℕ) (w x : Done) → Row k c (InRelease j (Finished w) x) l d u
    → IsFollowedSo k (with_acquired n c) (InRelease j' (Finished w) x) l d u
released_row n {c = c} j j' w x rule.released =
    record {
      label = Shows (event.End j');
      counts = with_acquired n c;
      term = _;
      row = rule.released;
      seen_is = refl;
      near = record { is = refl };
      same = same;
    }
released_row n j j' w x (rule.inside f e g h) = absurd (result_has_no_row (part_row (InReleaseIn j x) f (Finished w) e g h).1 refl)

context_row : (n : ℕ) {k : Bool} {c d : Counts} {u : Term} {l : Label} {f g : Context} (w : Done) → IsContextToo f g → Row k c (plug f (Finished w)) l d u
    → IsFollowedSo k (with_acquired n c) (plug g (Finished w)) l d u
context_row n w itself r = own_row n r
context_row n w (use_too {k = j} {k' = j'} {r = q}) r = used_row n j j' w q r
context_row n w (use_case_too {k = j} {k' = j'} {y = y} {z = z} {s = s} {e = e} {d = q}) r = used_case_row n j j' w y z s e q r
context_row n w (release_too {k = j} {k' = j'} {w = x}) r = released_row n j j' w x r

part_followed : (n : ℕ) {k : Bool} {c d : Counts} {u : Term} {l : Label} {f g : Context} {a x a' : Term} → RowOfPart k c f x l d u → x ≡ a → IsContextToo f g
    → IsRenumbered a a' → Row k c (plug f a) l d u → ((y : Term) → Row k c a l d y → IsFollowedSo k (with_acquired n c) a' l d y)
    → IsFollowedSo k (with_acquired n c) (plug g a') l d u
part_followed n {k} {c} {d} {l = l} {g = g} (moves {w = y} q) at fg more whole here =
    let i = here y (subst (λ (z : Term). Row k c z l d y) at q) in
    record {
      label = i.label;
      counts = i.counts;
      term = plug g i.term;
      row = row_plug g i.row;
      seen_is = i.seen_is;
      near = i.near;
      same = within refl refl fg i.same;
    }
part_followed n {k} {c} {d} {u} {l} {f = f} {g = g} {a' = a'} (result {w = w}) at fg more whole here =
    let r : Row k c (plug f (Finished w)) l d u = subst (λ (z : Term). Row k c (plug f z) l d u) (sym at) whole in
    let is : a' ≡ Finished w = renumbered_result w a' (subst (λ (z : Term). IsRenumbered z a') (sym at) more) in
    subst (λ (z : Term). IsFollowedSo k (with_acquired n c) (plug g z) l d u) (sym is) (context_row n w fg r)

renumbered_row : (n : ℕ) {k : Bool} {c d : Counts} {t t' u : Term} {l : Label} → IsRenumbered t t' → Row k c t l d u
    → IsFollowedSo k (with_acquired n c) t' l d u
renumbered_row n same r = own_row n r
renumbered_row n {k} {c} {d} {u = u} {l = l} (within {f = f} {g = g} {a = a} {a' = a'} e e' fg more) r =
    let whole : Row k c (plug f a) l d u = subst (λ (z : Term). Row k c z l d u) e r in
    subst (λ (z : Term). IsFollowedSo k (with_acquired n c) z l d u) (sym e')
    (part_followed n (row_of_part f whole) refl fg more whole (λ y q. renumbered_row n more q))

pub renumbered_rows : (k : Bool) (c c' d : Counts) (l : Label) (t t' u : Term) → HasAcquiredOthers c c' → IsRenumbered t t' → Row k c t l d u
    → IsFollowedSo k c' t' l d u
renumbered_rows k c c' d l t t' u near more r =
    subst (λ (e : Counts). IsFollowedSo k e t' l d u) (sym near.is) (renumbered_row c'.acquired more r)

-- it stands at the same place
closed_too : {f g : Context} (outer : List Closing) → IsContextToo f g → closed_under outer f ≡ closed_under outer g
closed_too outer itself = refl
closed_too outer use_too = refl
closed_too outer use_case_too = refl
closed_too outer release_too = refl

pub renumbered_closed : {t t' : Term} (outer : List Closing) → IsRenumbered t t' → closed_regions outer t ≡ closed_regions outer t'
renumbered_closed outer same = refl
renumbered_closed outer (within {f = f} {g = g} {a = a} {a' = a'} e e' fg more) =
    ap (closed_regions outer) e ∙ closed_plug outer f a ∙ ap (λ (cs : List Closing). closed_regions cs a) (closed_too outer fg)
    ∙ renumbered_closed (closed_under outer g) more ∙ sym (closed_plug outer g a') ∙ ap (closed_regions outer) (sym e')

pub renumbered_leaf : {t t' : Term} → IsRenumbered t t' → leaf t ≡ leaf t'
renumbered_leaf same = refl
renumbered_leaf (within {f = f} {g = g} {a = a} {a' = a'} e e' fg more) =
    ap leaf e ∙ leaf_plug f a ∙ renumbered_leaf more ∙ sym (leaf_plug g a') ∙ ap leaf (sym e')

pub renumbered_must : (c c' : Counts) (t t' : Term) → HasAcquiredOthers c c' → IsRenumbered t t' → must_cancel c.known t ≡ must_cancel c'.known t'
renumbered_must c c' t t' near more =
    let p = renumbered_closed [] more in let q = renumbered_leaf more in let r : c'.known ≡ c.known = ap (λ (e : Counts). e.known) near.is in cc

-- its clean-ups are the same
abbrev pub AreCleanupsToo : List CleanupTerm → List CleanupTerm → Type 0
AreCleanupsToo xs ys = AreSameBefore looking IsRenumbered [] [] xs ys

all_too : (xs : List CleanupTerm) → AreCleanupsToo xs xs
all_too [] = last
all_too (Finalizer f ∷ xs) = finalizer same (all_too xs)
all_too (Release k r ∷ xs) = release refl refl same (all_too xs)

append_too : {xs ys us vs : List CleanupTerm} → AreCleanupsToo xs ys → AreCleanupsToo us vs → AreCleanupsToo (xs ++ us) (ys ++ vs)
append_too last q = q
append_too (finalizer s p) q = finalizer s (append_too p q)
append_too (release b e s p) q = release b e s (append_too p q)

with_too : {f g : Context} {xs ys : List CleanupTerm} → IsContextToo f g → AreCleanupsToo xs ys → AreCleanupsToo (cleanups_with f xs) (cleanups_with g ys)
with_too (itself {f = OnCancelIn h}) p = append_too p (all_too (Finalizer h ∷ []))
with_too (itself {f = InUseIn k r}) p = append_too p (all_too (Release k r ∷ []))
with_too (itself {f = InUseCaseIn k y s z e d}) p = append_too p (all_too (Release k d ∷ []))
with_too (itself {f = LetIn x b}) p = p
with_too (itself {f = HandleIn x b}) p = p
with_too (itself {f = AcquireIn x u r}) p = p
with_too (itself {f = AcquireCaseIn x u y s z e d}) p = p
with_too (itself {f = MaskedIn r}) p = p
with_too (itself {f = OpenedIn r}) p = p
with_too (itself {f = InReleaseIn k w}) p = p
with_too use_too p = append_too p (release refl refl same last)
with_too use_case_too p = append_too p (release refl refl same last)
with_too release_too p = p

pub clean_too : {t t' : Term} → IsRenumbered t t' → AreCleanupsToo (cleanup_terms t) (cleanup_terms t')
clean_too {t} same = all_too (cleanup_terms t)
clean_too {t} {t'} (within {f = f} {g = g} {a = a} {a' = a'} e e' fg more) =
    let left : cleanup_terms t ≡ cleanups_with f (cleanup_terms a) = ap cleanup_terms e ∙ cleanups_plug f a in
    let right : cleanup_terms t' ≡ cleanups_with g (cleanup_terms a') = ap cleanup_terms e' ∙ cleanups_plug g a' in
    rw (left, right) (with_too fg (clean_too more))

cancels_too : (c c' : Counts) (t t' : Term) → HasAcquiredOthers c c' → IsRenumbered t t'
    → IsMatched looking c (Unwinds (cleanup_terms t)) c' (Unwinds (cleanup_terms t'))
cancels_too c c' t t' near more =
    unwinding_matched looking HasAcquiredOthers IsRenumbered renumbered_rows renumbered_result [] [] (λ d d' n. (unwound_both looking d d').0)
    (clean_too more) c c' near

renumbered_matched : (c c' : Counts) (t t' : Term) → HasAcquiredOthers c c' → IsRenumbered t t' → IsMatched looking c (Runs t) c' (Runs t')
renumbered_matched =
    inside_matched looking HasAcquiredOthers IsRenumbered renumbered_rows renumbered_result [] [] (λ c c' n. record { is = ap known_canceled n.is })
    renumbered_must (λ t t' s. ap is_none_closed (renumbered_closed [] s)) cancels_too
    (λ c c' n w. results_matched looking w c c' (sym (ap (λ (e : Counts). e.known) n.is)))

-- a fiber, and one at the same term that has acquired so many
pub acquired_unseen : (c : Counts) (n : ℕ) (t : Term) → AreMatched looking c (Runs t) (with_acquired n c) (Runs t)
acquired_unseen c n t =
    (renumbered_matched c (with_acquired n c) t t (record { is = refl }) same, renumbered_matched (with_acquired n c) c t t (record { is = refl }) same)
