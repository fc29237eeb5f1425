-- Going on the way of the run that picks choose, a pick or a step at a time.
use Rattle.std.proofs.Common.{◌≡◌, ℕ, ◌<◌, ◌≤◌, false, List, [], ◌∷◌}
use Rattle.fx_term.specs.Script.{ScriptView, total}
use Rattle.fx_model.specs.Row.{Label}
use Rattle.fx_model.specs.Report.{ReportView}
use Rattle.fx_text.specs.declared.pick.Pick.{Pick}
use Rattle.fx_text.specs.declared.pick.Pick.TheVariants as pick
use Rattle.fx_plain.specs.WholeMachine.{WholeMachine, Steps, Requests, opening, can_step_in, requested_from_outside}
use Rattle.fx_plain.specs.SettledRun.{IsReportOf}
use Rattle.fx_plain.specs.Chosen.{ChosenStep, IsLeast, IsChosen, IsReplay}
use Rattle.fx_plain.specs.Chosen as chosen
use Rattle.fx_plain.specs.OnTheWay.{IsOnTheWay}

module _ (s : ScriptView) (all : List Pick) where
  pub way_begins : IsOnTheWay s all all (opening s)
  way_begins vs last c = (vs, c)

  module _ (m : WholeMachine) (f : ℕ) (left : List Pick) where
    pub after_step : (l : Label) (m' : WholeMachine) → IsOnTheWay s all (pick.Step f ∷ left) m → ChosenStep s m f l m' → IsOnTheWay s all left m'
    after_step l m' way step vs last c = way (Steps f l ∷ vs) last (chosen.step step c)

    pub after_skipped_step : IsOnTheWay s all (pick.Step f ∷ left) m → can_step_in s m f ≡ false → IsOnTheWay s all left m
    after_skipped_step way cannot vs last c = way vs last (chosen.no_step cannot c)

    pub after_request : IsOnTheWay s all (pick.Cancel f ∷ left) m → f < total s → IsOnTheWay s all left (requested_from_outside f m)
    after_request way below vs last c = way (Requests f ∷ vs) last (chosen.request below c)

    pub after_skipped_request : IsOnTheWay s all (pick.Cancel f ∷ left) m → total s ≤ f → IsOnTheWay s all left m
    after_skipped_request way past vs last c = way vs last (chosen.no_request past c)

  module _ (m : WholeMachine) (way : IsOnTheWay s all [] m) where
    pub after_least : (f : ℕ) (l : Label) (m' : WholeMachine) → IsLeast s m f → ChosenStep s m f l m' → IsOnTheWay s all [] m'
    after_least f l m' least step vs last c = way (Steps f l ∷ vs) last (chosen.least least step c)

    -- where none can step any more, the report of the machine is that of the replay
    pub way_ends : (r : ReportView) → ((f : ℕ) → can_step_in s m f ≡ false) → IsReportOf s m r → IsReplay s all r
    way_ends r none report = let run = way [] m (chosen.halts none) in record { moves = run.0; last = m; chosen = run.1; report = report }
