-- The run that picks choose is one of the whole machine, at whose end no fiber can step.
use Rattle.std.proofs.Common.{◌≡◌, ℕ, true, List, refl}
use Rattle.fx_term.specs.Forms.{IsCore}
use Rattle.fx_term.specs.Script.{ScriptView}
use Rattle.fx_model.specs.Report.{ReportView}
use Rattle.fx_model.specs.LawfulReport.{IsLawfulReport}
use Rattle.fx_model.specs.Happenings.{IsLawfulInOneList}
use Rattle.fx_model.specs.Headline.{KeepsWhatIsPromised}
use Rattle.fx_model.specs.Stamps.{IsLawfulWithStamps}
use Rattle.fx_text.specs.declared.pick.Pick.{Pick}
use Rattle.fx_plain.specs.WholeMachine.{WholeMachine, Move, IsSettled, WholeMachineLeads}
use Rattle.fx_plain.specs.SettledRun.{HasSettledRun}
use Rattle.fx_model.specs.ReportStamps.{stamp_in, IsStampedReport}
use Rattle.fx_plain.specs.StampedList.{IsStampedInOneList}
use Rattle.fx_plain.specs.Chosen.{IsChosen, IsReplay}
use Rattle.fx_plain.specs.Chosen as chosen
use Rattle.fx_plain.specs.ToldQueues.{queue_moves}
use Rattle.fx_plain.proofs.FamilyKept.{labels_of}
use Rattle.fx_plain.proofs.LawfulRuns.{settled_is_lawful, settled_keeps_promises}
use Rattle.fx_plain.proofs.RunOrder.{settled_is_in_order}
use Rattle.fx_plain.proofs.MachineStampsRuns.{settled_is_stamped, settled_is_lawful_with_stamps, settled_labels, settled_histories}

pub chosen_leads : (s : ScriptView) {ps : List Pick} {m last : WholeMachine} {vs : List Move} → IsChosen s ps m vs last → WholeMachineLeads s m vs last
chosen_leads s (chosen.step {m' = m'} c rest) = (m', c.steps, chosen_leads s rest)
chosen_leads s (chosen.no_step e rest) = chosen_leads s rest
chosen_leads s (chosen.request lt rest) = (_, (lt, refl), chosen_leads s rest)
chosen_leads s (chosen.no_request le rest) = chosen_leads s rest
chosen_leads s (chosen.least {m' = m'} none c rest) = (m', c.steps, chosen_leads s rest)
chosen_leads s (chosen.halts none) = refl

pub chosen_settles : (s : ScriptView) {ps : List Pick} {m last : WholeMachine} {vs : List Move} → IsChosen s ps m vs last → IsSettled s last
chosen_settles s (chosen.step c rest) = chosen_settles s rest
chosen_settles s (chosen.no_step e rest) = chosen_settles s rest
chosen_settles s (chosen.request lt rest) = chosen_settles s rest
chosen_settles s (chosen.no_request le rest) = chosen_settles s rest
chosen_settles s (chosen.least none c rest) = chosen_settles s rest
chosen_settles s (chosen.halts none) = none

-- so what is true of the report of each such run is true of a replay's
pub replay_settles : (s : ScriptView) (ps : List Pick) (r : ReportView) → IsReplay s ps r → HasSettledRun s r
replay_settles s ps r h =
    record { moves = h.moves; last = h.last; run = chosen_leads s h.chosen; settled = chosen_settles s h.chosen; report = h.report }

pub replay_is_lawful : (s : ScriptView) (ps : List Pick) (r : ReportView) → IsReplay s ps r → IsLawfulReport s (λ f. true) r
replay_is_lawful s ps r h = settled_is_lawful s r (replay_settles s ps r h)

pub replay_keeps_promises : (s : ScriptView) (ps : List Pick) (r : ReportView) → IsCore s.term → IsReplay s ps r → KeepsWhatIsPromised s (λ f. true) r
replay_keeps_promises s ps r core h = settled_keeps_promises s r core (replay_settles s ps r h)

pub replay_is_in_order : (s : ScriptView) (ps : List Pick) (r : ReportView) → IsReplay s ps r → IsLawfulInOneList s (λ f. true) r
replay_is_in_order s ps r h = settled_is_in_order s r (replay_settles s ps r h)

pub replay_is_stamped : (s : ScriptView) (ps : List Pick) (r : ReportView) → IsReplay s ps r → IsStampedInOneList s (λ f. true) r
replay_is_stamped s ps r h = settled_is_stamped s r (replay_settles s ps r h)

pub replay_is_lawful_with_stamps : (s : ScriptView) (ps : List Pick) (r : ReportView) → IsReplay s ps r → IsLawfulWithStamps s (λ f. true) r (stamp_in r)
replay_is_lawful_with_stamps s ps r h = settled_is_lawful_with_stamps s r (replay_settles s ps r h)

pub replay_is_stamped_report : (s : ScriptView) (ps : List Pick) (r : ReportView) → IsReplay s ps r → IsStampedReport s (λ f. true) r
replay_is_stamped_report s ps r h = record { one_each = (replay_is_stamped s ps r h).one_each; stamped = replay_is_lawful_with_stamps s ps r h }

pub replay_labels : (s : ScriptView) (ps : List Pick) (r : ReportView) (h : IsReplay s ps r)
    → (replay_is_stamped_report s ps r h).stamped.lawful.runs.labels ≡ labels_of h.last
unfolding replay_is_stamped_report replay_is_lawful_with_stamps replay_settles
replay_labels s ps r h = settled_labels s r (replay_settles s ps r h)

pub replay_histories : (s : ScriptView) (ps : List Pick) (r : ReportView) (h : IsReplay s ps r) (q : ℕ)
    → ((replay_is_stamped_report s ps r h).stamped.lawful.histories q).history ≡ queue_moves q h.moves
unfolding replay_is_stamped_report replay_is_lawful_with_stamps replay_settles
replay_histories s ps r h q = settled_histories s r (replay_settles s ps r h) q
