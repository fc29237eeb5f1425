-- Finalizers in masks that they do not open.
use Rattle.std.proofs.Common.{◌≡◌, ℕ, Bool, Option, None, List, [], ◌∷◌, ◌++◌, refl, ◌∙◌, ap, subst, All}
use Rattle.std.proofs.lemmas.List.{append_assoc}
use Rattle.std.proofs.lemmas.List.Elements.{recursion_from_All}
use Rattle.std.specs.List.{AllByRecursion}
use Rattle.fx_term.specs.declared.done.Done.{Done}
use Rattle.fx_term.specs.declared.name_kind.NameKind.{NameKind}
use Rattle.fx_term.specs.declared.name_kind.NameKind.TheVariants as kind
use Rattle.fx_term.specs.Term.{Term, Mask, OnCancel, Finished, Masked, put}
use Rattle.fx_term.specs.Scope.{with_name, IsScoped}
use Rattle.fx_term.proofs.NameUses.{put_other_poll, name_is}
use Rattle.fx_model.specs.Path.{Context, CleanupTerm, Finalizer, Release, OnCancelIn, MaskedIn, cleanups_along, is_open, must_cancel}
use Rattle.fx_model.specs.Row.{Counts, one_more_mask}
use Rattle.fx_model.specs.Step.{Runs, Unwinds, CleansUp, AreAll}
use Rattle.fx_model.specs.MaskLaws.{ShowTheSame}
use Rattle.fx_laws.specs.Everywhere.{placed, InTerm, InCleanup}
use Rattle.fx_laws.specs.ScopedPlaces.{IsWellScoped, ShowTheSameWhereScoped, with_finalizers}
use Rattle.fx_laws.proofs.Placed.{placed_append, around, around_append, around_is, cleanups_placed, open_placed, must_placed}
use Rattle.fx_laws.proofs.Views.{View, IsMatched, itself}
use Rattle.fx_laws.proofs.SamePlaces.{whole_matched}
use Rattle.fx_laws.proofs.SilentRows.{LeadsSilently, oncancel_leads, masked_leads, leads_placed, lead_moves}
use Rattle.fx_laws.proofs.InBoth.{IsItself, IsTheTerm, own_row, own_result, closed_both, itself_matched}
use Rattle.fx_laws.proofs.Showing.{showing, shows_too, whole_of_place}
use Rattle.fx_laws.proofs.Forced.{AreMatched, silent_left, silent_right, begins_finalizer, ends_finalizer, cleans_only, unwound_both}
use Rattle.fx_laws.proofs.OnlyRows.{only_silent, only_mask}
use Rattle.fx_laws.proofs.Shut.{cleaning, Always, cleanup_is_shut, shut_matched}
use Rattle.fx_laws.proofs.InCleanups.{cleans_silently, cleans_inside}
use Rattle.fx_laws.proofs.SameHere.{AreSameHere}
use Rattle.fx_laws.proofs.Unwinding.{AreSameBefore, last, finalizer, release, same_before, unwinding_matched}
use Rattle.fx_laws.proofs.Remasked.{IsRemasked, scoped_remasked}
use Rattle.fx_laws.proofs.RemaskedRows.{HaveEnteredOthers, others_back, remasked_result, remasked_rows}

-- clean-ups of which each goes with itself, whatever regions the fiber has entered
scoped_before : (v : View) (xs : List CleanupTerm) → AreAll IsWellScoped xs → AreSameBefore v IsRemasked [] [] xs xs
scoped_before v [] h = last
scoped_before v (Finalizer f ∷ xs) h = finalizer (scoped_remasked h.0.0 f h.0.1) (scoped_before v xs h.1)
scoped_before v (Release k r ∷ xs) h = release refl refl (scoped_remasked h.0.0 r h.0.1) (scoped_before v xs h.1)

module _ (v : View) (rest : List CleanupTerm) (scoped : AreAll IsWellScoped rest) where
  rest_matched : (c c' : Counts) → HaveEnteredOthers c c' → IsMatched v c (Unwinds rest) c' (Unwinds rest)
  rest_matched =
      unwinding_matched v HaveEnteredOthers IsRemasked (remasked_rows v) remasked_result [] [] (λ d d' n. (unwound_both v d d').0)
      (scoped_before v rest scoped)

  masked_end : (r : ℕ) (d d' : Counts) → HaveEnteredOthers d d' → (w : Done)
      → AreMatched v d (CleansUp None (Masked r (Finished w)) rest) d' (CleansUp None (Finished w) rest)
  masked_end r d d' near w =
      silent_left v (cleans_only None rest (only_silent d (masked_leads r w)))
      (silent_left v (ends_finalizer d w rest)
      (silent_right v (ends_finalizer d' w rest) (rest_matched d d' near, rest_matched d' d (others_back near))))

  module _ (p : ℕ) (f : Term) (unused : (n : ℕ) → put p n f ≡ f) (same : IsRemasked f f) where
    masked_part : (c : Counts) → AreMatched v (one_more_mask c) (CleansUp None (Masked c.masks (put p c.masks f)) rest) c (CleansUp None f rest)
    masked_part c =
        let inside = cleaning None (MaskedIn c.masks ∷ []) rest in
        let alone = cleaning None [] rest in
        rw (unused c.masks) (
          shut_matched v HaveEnteredOthers IsRemasked (remasked_rows v) remasked_result inside alone Always Always
              (cleanup_is_shut None (MaskedIn c.masks ∷ []) rest) (cleanup_is_shut None [] rest) (λ t t' s. (tt, tt))
              (λ d d' n w. (masked_end c.masks d d' n w).0) (one_more_mask c) c f f (record { is = refl }) same,
          shut_matched v HaveEnteredOthers IsRemasked (remasked_rows v) remasked_result alone inside Always Always
              (cleanup_is_shut None [] rest) (cleanup_is_shut None (MaskedIn c.masks ∷ []) rest) (λ t t' s. (tt, tt))
              (λ d d' n w. (masked_end c.masks d' d (others_back n) w).1) c (one_more_mask c) f f (record { is = refl }) same,
        )

    -- the next clean-up, inside a mask or not
    masked_next : (c : Counts) → AreMatched v c (Unwinds (Finalizer (Mask p f) ∷ rest)) c (Unwinds (Finalizer f ∷ rest))
    masked_next c =
        silent_left v (begins_finalizer c (Mask p f) rest)
        (silent_left v (cleans_only None rest (only_mask c p f)) (silent_right v (begins_finalizer c f rest) (masked_part c)))

-- a finalizer, inside these contexts, is run before their clean-ups
around_finalizer : (fs : List Context) (g : Term) (xs : List CleanupTerm) → around (fs ++ OnCancelIn g ∷ []) xs ≡ xs ++ Finalizer g ∷ cleanups_along fs
around_finalizer fs g xs =
    around_append fs (OnCancelIn g ∷ []) xs ∙ around_is fs (xs ++ Finalizer g ∷ []) ∙ append_assoc xs (Finalizer g ∷ []) (cleanups_along fs)

-- a term with one of two finalizers, of which the one matches the other before the clean-ups round it
module _ (v : View) (fs : List Context) (g g' : Term)
    (next : (c : Counts) → IsMatched v c (Unwinds (Finalizer g ∷ cleanups_along fs)) c (Unwinds (Finalizer g' ∷ cleanups_along fs))) where
  abbrev with_one : List Context
  with_one = fs ++ OnCancelIn g ∷ []

  abbrev with_other : List Context
  with_other = fs ++ OnCancelIn g' ∷ []

  cancels : (c : Counts) (xs : List CleanupTerm) → IsMatched v c (Unwinds (around with_one xs)) c (Unwinds (around with_other xs))
  cancels c xs =
      rw (around_finalizer fs g xs, around_finalizer fs g' xs)
      (unwinding_matched v IsItself IsTheTerm (own_row v) own_result (Finalizer g ∷ cleanups_along fs) (Finalizer g' ∷ cleanups_along fs)
      (λ d d' n. subst (λ (e : Counts). IsMatched v d (Unwinds (Finalizer g ∷ cleanups_along fs)) e (Unwinds (Finalizer g' ∷ cleanups_along fs))) n (next d))
      (same_before v (Finalizer g ∷ cleanups_along fs) (Finalizer g' ∷ cleanups_along fs) xs) c c refl)

  must_too : (known : Bool) (t : Term) → must_cancel known (placed with_one t) ≡ must_cancel known (placed with_other t)
  must_too known t =
      let p = must_placed known with_one t in
      let q = must_placed known with_other t in
      let s = closed_both fs (OnCancelIn g ∷ []) (OnCancelIn g' ∷ []) (λ outer. refl) in cc

  open_too : (t : Term) → is_open (placed with_one t) ≡ is_open (placed with_other t)
  open_too t =
      let p = open_placed with_one t in
      let q = open_placed with_other t in
      let s = closed_both fs (OnCancelIn g ∷ []) (OnCancelIn g' ∷ []) (λ outer. refl) in cc

  leaves : (h : Term) (w : Done) → LeadsSilently (placed (fs ++ OnCancelIn h ∷ []) (Finished w)) (placed fs (Finished w))
  leaves h w = rw (placed_append fs (OnCancelIn h ∷ []) (Finished w)) (leads_placed fs (oncancel_leads w h))

  ends : (c : Counts) (w : Done) → IsMatched v c (Runs (placed with_one (Finished w))) c (Runs (placed with_other (Finished w)))
  ends c w =
      whole_matched v (placed with_one (Finished w)) (placed with_other (Finished w)) (λ known. must_too known (Finished w)) (open_too (Finished w))
      (λ d. rw (cleanups_placed with_one (Finished w), cleanups_placed with_other (Finished w)) (cancels d []))
      (lead_moves v (leaves g w) (leaves g' w) (λ known. must_too known (Finished w)) (λ d. itself v)) c

  other_finalizer : (c : Counts) (a : Term) → IsMatched v c (Runs (placed fs (OnCancel a g))) c (Runs (placed fs (OnCancel a g')))
  other_finalizer c a =
      rw (← placed_append fs (OnCancelIn g ∷ []) a, ← placed_append fs (OnCancelIn g' ∷ []) a)
      (itself_matched v with_one with_other (closed_both fs (OnCancelIn g ∷ []) (OnCancelIn g' ∷ []) (λ outer. refl)) cancels ends c a)

-- in a clean-up no finalizer runs that stands in it
module _ (v : View) (k : Option ℕ) (rest : List CleanupTerm) (fs : List Context) (g g' : Term) where
  ends_there : (c : Counts) (w : Done) → AreSameHere v (InCleanup k rest fs) (OnCancel (Finished w) g) (OnCancel (Finished w) g')
  ends_there d w c =
      silent_left v (cleans_silently k rest fs (oncancel_leads w g) c) (silent_right v (cleans_silently k rest fs (oncancel_leads w g') c) (itself v, itself v))

  cleans_with_other : (a : Term) → AreSameHere v (InCleanup k rest fs) (OnCancel a g) (OnCancel a g')
  cleans_with_other a c = (
    cleans_inside v k rest fs (OnCancelIn g ∷ []) (OnCancelIn g' ∷ []) (λ d w. (ends_there d w d).0) c a,
    cleans_inside v k rest fs (OnCancelIn g' ∷ []) (OnCancelIn g ∷ []) (λ d w. (ends_there d w d).1) c a,
  )

pub masked_finalizer_is_itself : (scope : ℕ → Option NameKind) (p : ℕ) (a f : Term) → IsScoped (with_name p kind.OtherPoll scope) f
    → ShowTheSameWhereScoped (OnCancel a (Mask p f)) (OnCancel a f)
masked_finalizer_is_itself scope p a f scoped (InTerm fs) h c ls =
    let unused = put_other_poll p (with_name p kind.OtherPoll scope) f (name_is p kind.OtherPoll scope) scoped in
    let next = masked_next showing (cleanups_along fs) h p f unused (scoped_remasked (with_name p kind.OtherPoll scope) f scoped) in (
      shows_too (other_finalizer showing fs (Mask p f) f (λ d. (next d).0) c a),
      shows_too (other_finalizer showing fs f (Mask p f) (λ d. (next d).1) c a),
    )
masked_finalizer_is_itself scope p a f scoped (InCleanup k rest fs) h c ls =
    let both = cleans_with_other showing k rest fs (Mask p f) f a c in (shows_too both.0, shows_too both.1)

-- with any finalizers outside
abbrev finalizers_in : List Term → List Context
finalizers_in [] = []
finalizers_in (g ∷ gs) = OnCancelIn g ∷ finalizers_in gs

placed_in : (gs : List Term) (t : Term) → placed (finalizers_in gs) t ≡ with_finalizers gs t
placed_in [] t = refl
placed_in (g ∷ gs) t = ap (λ (u : Term). OnCancel u g) (placed_in gs t)

one_more_scoped : (xs : List CleanupTerm) (g : Term) → AreAll IsWellScoped xs → IsWellScoped g → AreAll IsWellScoped (xs ++ Finalizer g ∷ [])
one_more_scoped [] g h k = (k, tt)
one_more_scoped (Finalizer f ∷ xs) g h k = (h.0, one_more_scoped xs g h.1 k)
one_more_scoped (Release n r ∷ xs) g h k = (h.0, one_more_scoped xs g h.1 k)

scoped_along : (gs : List Term) → AllByRecursion IsWellScoped gs → AreAll IsWellScoped (cleanups_along (finalizers_in gs))
scoped_along [] h = tt
scoped_along (g ∷ gs) h = one_more_scoped (cleanups_along (finalizers_in gs)) g (scoped_along gs h.1) h.0

pub masked_finalizer_at_depth : (scope : ℕ → Option NameKind) (p : ℕ) (a f : Term) (gs : List Term) → IsScoped (with_name p kind.OtherPoll scope) f
    → All IsWellScoped gs → ShowTheSame (with_finalizers gs (OnCancel a (Mask p f))) (with_finalizers gs (OnCancel a f))
masked_finalizer_at_depth scope p a f gs scoped h =
    let outside = scoped_along gs (recursion_from_All IsWellScoped gs h) in
    rw (← placed_in gs (OnCancel a (Mask p f)), ← placed_in gs (OnCancel a f))
    (whole_of_place (finalizers_in gs) (OnCancel a (Mask p f)) (OnCancel a f)
    (masked_finalizer_is_itself scope p a f scoped (InTerm (finalizers_in gs)) outside))
