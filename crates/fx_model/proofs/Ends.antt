-- Which step is the last.
use Rattle.std.proofs.Common.{◌≡◌, Bool, true, false, refl, sym}
use Rattle.fx_term.specs.declared.event.Event.{Event}
use Rattle.fx_term.specs.declared.event.Event.TheVariants as event
use Rattle.fx_term.specs.declared.outcome.Outcome.{Outcome}
use Rattle.fx_model.specs.Row.{Counts, Label, Shows}
use Rattle.fx_model.specs.Step.{Progress, has_ended, Step, row, cleans}
use Rattle.fx_model.proofs.RowLabels.{IsLabelOfRow, row_label}

-- the step with this label is the last
abbrev pub shows_end : Label → Bool
shows_end (Shows (event.Ended o)) = true
shows_end _ = false

-- no row of the table is the last step
row_goes_on : (l : Label) → IsLabelOfRow l → shows_end l ≡ false
row_goes_on (Shows (event.Ended o)) h = absurd h
row_goes_on _ h = refl

-- a fiber has ended exactly after the step that shows its end
pub ended_after : {c d : Counts} {l : Label} {p q : Progress} → Step c p l d q → has_ended q ≡ shows_end l
ended_after {l = l} (row m r) = sym (row_goes_on l (row_label r))
ended_after {l = l} (cleans r) = sym (row_goes_on l (row_label r))
ended_after _ = refl

-- an event that is no end does not end the fiber
pub goes_on : (e : Event) → ((o : Outcome) → e ≡ event.Ended o → ⊥) → shows_end (Shows e) ≡ false
goes_on (event.Ended o) h = absurd (h o refl)
goes_on _ h = refl
