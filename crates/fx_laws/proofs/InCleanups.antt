-- Terms in a clean-up, where a term makes the steps that it makes at a closed place.
use Rattle.std.proofs.Common.{ℕ, Option, List, ◌++◌, refl, subst}
use Rattle.fx_term.specs.declared.done.Done.{Done}
use Rattle.fx_term.specs.Term.{Term, Finished}
use Rattle.fx_model.specs.Path.{Context, CleanupTerm}
use Rattle.fx_model.specs.Row.{Counts, Silent}
use Rattle.fx_model.specs.Step.{CleansUp}
use Rattle.fx_laws.specs.Everywhere.{placed}
use Rattle.fx_laws.proofs.Placed.{placed_append}
use Rattle.fx_laws.proofs.Views.{View, IsMatched}
use Rattle.fx_laws.proofs.SilentRows.{LeadsSilently}
use Rattle.fx_laws.proofs.InBoth.{IsItself, IsTheTerm, own_row, own_result}
use Rattle.fx_laws.proofs.Forced.{IsForced, cleans_only}
use Rattle.fx_laws.proofs.OnlyRows.{only_silent, only_placed}
use Rattle.fx_laws.proofs.Shut.{cleaning, Always, cleanup_is_shut, shut_matched}

pub cleans_silently : (k : Option ℕ) (rest : List CleanupTerm) (fs : List Context) {t u : Term} → LeadsSilently t u → (c : Counts)
    → IsForced c (CleansUp k (placed fs t) rest) Silent c (CleansUp k (placed fs u) rest)
cleans_silently k rest fs s c = cleans_only k rest (only_placed fs (only_silent c s))

module _ (v : View) (k : Option ℕ) (rest : List CleanupTerm) (fs gs hs : List Context) where
  abbrev MatchInside : Counts → Term → Type 0
  MatchInside c t = IsMatched v c (CleansUp k (placed fs (placed gs t)) rest) c (CleansUp k (placed fs (placed hs t)) rest)

  abbrev MatchWhole : Counts → Term → Type 0
  MatchWhole c t = IsMatched v c (CleansUp k (placed (fs ++ gs) t) rest) c (CleansUp k (placed (fs ++ hs) t) rest)

  to_whole : (c : Counts) (t : Term) → MatchInside c t → MatchWhole c t
  to_whole c t m = rw (placed_append fs gs t, placed_append fs hs t) m

  from_whole : (c : Counts) (t : Term) → MatchWhole c t → MatchInside c t
  from_whole c t m = rw (← placed_append fs gs t, ← placed_append fs hs t) m

  -- a term stands there in the one contexts or in the others, and what comes after each of its results is matched
  pub cleans_inside : ((c : Counts) (x : Done) → MatchInside c (Finished x)) → (c : Counts) (t : Term) → MatchInside c t
  cleans_inside ends c t =
      from_whole c t
      (shut_matched v IsItself IsTheTerm (own_row v) own_result (cleaning k (fs ++ gs) rest) (cleaning k (fs ++ hs) rest) Always Always
      (cleanup_is_shut k (fs ++ gs) rest) (cleanup_is_shut k (fs ++ hs) rest) (λ t t' s. (tt, tt))
      (λ d d' near x. subst (λ (e : Counts). IsMatched v d (cleaning k (fs ++ gs) rest (Finished x)) e (cleaning k (fs ++ hs) rest (Finished x))) near
      (to_whole d (Finished x) (ends d x))) c c t t refl refl)
