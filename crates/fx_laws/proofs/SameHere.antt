-- Two terms of which each matches the other at a given place.
use Rattle.std.proofs.Common.{◌≡◌, List, ◌++◌, sym}
use Rattle.fx_term.specs.declared.done.Done.{Done}
use Rattle.fx_term.specs.Term.{Term, Finished}
use Rattle.fx_mask.specs.Closing.{Closing}
use Rattle.fx_model.specs.Path.{Context, CleanupTerm, closed_along}
use Rattle.fx_model.specs.Row.{Counts}
use Rattle.fx_model.specs.Step.{Runs}
use Rattle.fx_laws.specs.Everywhere.{placed, Place, InTerm, InCleanup, come_to}
use Rattle.fx_laws.proofs.Placed.{placed_append, around}
use Rattle.fx_laws.proofs.Views.{View, IsMatched, itself, and_then}
use Rattle.fx_laws.proofs.SamePlaces.{IsSamePlace, same_turned}
use Rattle.fx_laws.proofs.SilentRows.{LeadsSilently, leads_both, lead_matched, lead_matches}
use Rattle.fx_laws.proofs.InBoth.{itself_matched, same_cancels, closed_both, clean_both}
use Rattle.fx_laws.proofs.Forced.{AreMatched, silent_left, silent_right}
use Rattle.fx_laws.proofs.InCleanups.{cleans_silently, cleans_inside}

module _ (v : View) (place : Place) where
  abbrev pub AreSameHere : Term → Term → Type 0
  AreSameHere t u = (c : Counts) → AreMatched v c (come_to place t) c (come_to place u)

  pub same_itself : (t : Term) → AreSameHere t t
  same_itself t c = (itself v, itself v)

  pub same_too : (t u x : Term) → AreSameHere t u → AreSameHere u x → AreSameHere t x
  same_too t u x first second c = (and_then v (first c).0 (second c).0, and_then v (second c).1 (first c).1)

module _ (v : View) where
  pub both_lead : (place : Place) {t u t' u' : Term} → LeadsSilently t u → LeadsSilently t' u' → IsSamePlace t t' → AreSameHere v place u u'
      → AreSameHere v place t t'
  both_lead (InTerm fs) s s' same next c =
      (leads_both v fs s s' same (λ d. (next d).0) c, leads_both v fs s' s (same_turned same) (λ d. (next d).1) c)
  both_lead (InCleanup k rest fs) s s' same next c =
      silent_left v (cleans_silently k rest fs s c) (silent_right v (cleans_silently k rest fs s' c) (next c))

  pub one_leads : (place : Place) {t u : Term} → LeadsSilently t u → IsSamePlace t u → AreSameHere v place t u
  one_leads (InTerm fs) s same c = (lead_matched v fs s same c, lead_matches v fs s same c)
  one_leads (InCleanup k rest fs) s same c = silent_left v (cleans_silently k rest fs s c) (itself v, itself v)

  module _ (fs : List Context) where
    long_ends : (gs hs : List Context) (t : Term) (c : Counts) → IsMatched v c (Runs (placed fs (placed gs t))) c (Runs (placed fs (placed hs t)))
        → IsMatched v c (Runs (placed (fs ++ gs) t)) c (Runs (placed (fs ++ hs) t))
    long_ends gs hs t c m = rw (placed_append fs gs t, placed_append fs hs t) m

    short_ends : (gs hs : List Context) (t : Term) (c : Counts) → IsMatched v c (Runs (placed (fs ++ gs) t)) c (Runs (placed (fs ++ hs) t))
        → IsMatched v c (Runs (placed fs (placed gs t))) c (Runs (placed fs (placed hs t)))
    short_ends gs hs t c m = rw (← placed_append fs gs t, ← placed_append fs hs t) m

  -- a term stands in the one contexts or in the others, which close the same and clean up the same; and so does each of its results
  pub same_inside : (place : Place) (gs hs : List Context) → ((outer : List Closing) → closed_along outer gs ≡ closed_along outer hs)
      → ((xs : List CleanupTerm) → around gs xs ≡ around hs xs) → ((x : Done) → AreSameHere v place (placed gs (Finished x)) (placed hs (Finished x)))
      → (t : Term) → AreSameHere v place (placed gs t) (placed hs t)
  same_inside (InTerm fs) gs hs closed clean ends t c = (
    short_ends fs gs hs t c
        (itself_matched v (fs ++ gs) (fs ++ hs) (closed_both fs gs hs closed) (same_cancels v (fs ++ gs) (fs ++ hs) (clean_both fs gs hs clean))
        (λ d x. long_ends fs gs hs (Finished x) d (ends x d).0) c t),
    short_ends fs hs gs t c
        (itself_matched v (fs ++ hs) (fs ++ gs) (sym (closed_both fs gs hs closed))
        (same_cancels v (fs ++ hs) (fs ++ gs) (λ xs. sym (clean_both fs gs hs clean xs)))
        (λ d x. long_ends fs hs gs (Finished x) d (ends x d).1) c t),
  )
  same_inside (InCleanup k rest fs) gs hs closed clean ends t c =
      (cleans_inside v k rest fs gs hs (λ d x. (ends x d).0) c t, cleans_inside v k rest fs hs gs (λ d x. (ends x d).1) c t)
