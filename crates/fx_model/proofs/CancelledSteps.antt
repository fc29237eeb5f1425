-- A run cancels only where the masks of the path are opened by their polls.
use Rattle.std.proofs.Common.{◌≡◌, Bool, true, false, List, [], ◌∷◌, refl}
use Rattle.std.specs.Prelude.{◌&&◌, ◌||◌}
use Rattle.fx_term.specs.declared.event.Event.TheVariants as event
use Rattle.fx_term.specs.Term.{Term}
use Rattle.fx_model.specs.Path.{leaf, is_canceled_form, is_open, must_cancel}
use Rattle.fx_model.specs.Row.{Counts, Label, Shows}
use Rattle.fx_model.specs.Step.{Progress, Step, cancelled, row, cleans}
use Rattle.fx_model.specs.Run.{Leads}
use Rattle.fx_model.specs.PairedMasks.{marks, IsPaired, IsOpenedAt, CancelsWhereOpened}
use Rattle.fx_model.proofs.PairedMasks.{open_is_paired}
use Rattle.fx_model.proofs.RowLabels.{row_label}

-- where cancellation is the one rule, the place is open
pub must_is_open : (known : Bool) (t : Term) → must_cancel known t ≡ true → is_open t ≡ true
must_is_open known t e = both_true (is_open t) (known || is_canceled_form (leaf t)) e
  where
    both_true : (a b : Bool) → (a && b) ≡ true → a ≡ true
    both_true true b e = refl
    both_true false b e = absurd cc

-- so the masks of the path are opened by their polls
pub must_is_paired : (known : Bool) (t : Term) → must_cancel known t ≡ true → IsPaired (marks t)
must_is_paired known t e = open_is_paired t (must_is_open known t e)

cancel_is_opened : {c d : Counts} {p q : Progress} → Step c p (Shows event.Cancelled) d q → IsOpenedAt p
cancel_is_opened {c = c} (cancelled {t = t} m) = must_is_paired c.known t m
cancel_is_opened (row e r) = absurd (row_label r)
cancel_is_opened (cleans r) = absurd (row_label r)

-- steps one after another
pub cancels_where_opened : (c : Counts) (p : Progress) (ls : List Label) (d : Counts) (q : Progress) (steps : Leads c p ls d q)
    → CancelsWhereOpened c p ls d q steps
cancels_where_opened c p [] d q steps = tt
cancels_where_opened c p (Shows event.Cancelled ∷ ls) d q steps = (cancel_is_opened steps.2, cancels_where_opened steps.0 steps.1 ls d q steps.3)
cancels_where_opened c p (l ∷ ls) d q steps = cancels_where_opened steps.0 steps.1 ls d q steps.3
