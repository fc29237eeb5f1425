-- Replays that tell two scripts apart.
use Rattle.std.proofs.Common.{◌≡◌, true, None, List, [], ◌∷◌, refl, ap}
use Rattle.fx_term.specs.declared.node.Arg.TheVariants.{Number}
use Rattle.fx_term.specs.declared.event.Event.TheVariants as event
use Rattle.fx_term.specs.declared.outcome.Outcome.TheVariants.{Succeeded, Canceled}
use Rattle.fx_term.specs.Term.{Term, Pure, Never, Cede, Let, Mask}
use Rattle.fx_term.specs.Term as term
use Rattle.fx_term.specs.Script.{ScriptView}
use Rattle.fx_model.specs.Report.{ReportView, trace_in}
use Rattle.fx_text.specs.declared.pick.Pick.{Pick}
use Rattle.fx_script_laws.specs.BlockedAlone.{blocked_alone}
use Rattle.fx_script_laws.proofs.ReportsApart.{canceled_is_not_blocked, inside_is_not_blocked}
use Rattle.fx_plain.specs.Chosen.{IsReplay}
use Rattle.fx_plain.proofs.ChosenRuns.{replay_is_lawful}
use Rattle.fx_plain.proofs.ComputedReports.{computed_is_replay}
use Rattle.fx_plain.proofs.OneReport.{one_replay}
use Rattle.fx_replay_laws.specs.RequestedLate.{two_steps_and_a_request, succeeded_before}

abbrev alone : Term → ScriptView
alone t = record { term = t; capacities = [] }

pub value_succeeds_before : IsReplay (record { term = Pure (Number 0); capacities = [] }) two_steps_and_a_request succeeded_before
value_succeeds_before = computed_is_replay (alone (Pure (Number 0))) 2 two_steps_and_a_request _ refl

-- with a step more it is requested before it ends
abbrev later : ScriptView
later = record { term = Let None Cede (Pure (Number 0)); capacities = [] }

abbrev requested_first : ReportView
requested_first =
    record {
      fibers = record {
        id = 0;
        parent = None;
        has_ended = true;
        trace = event.Seen ∷ event.Cancelled ∷ event.Ended Canceled ∷ [];
        stamps = 1 ∷ 2 ∷ 3 ∷ [];
      } ∷ [];
      left = [];
      outside = 0 ∷ [];
      late = 0;
    }

sees_the_request : IsReplay later two_steps_and_a_request requested_first
sees_the_request = computed_is_replay later 5 two_steps_and_a_request _ refl

pub later_is_canceled : IsReplay (record { term = Let None Cede (Pure (Number 0)); capacities = [] }) two_steps_and_a_request succeeded_before → ⊥
later_is_canceled h =
    let same = one_replay later two_steps_and_a_request succeeded_before requested_first h sees_the_request in
    let traces : event.Ended (Succeeded 0) ∷ [] ≡ event.Seen ∷ event.Cancelled ∷ event.Ended Canceled ∷ [] = ap (λ (r : ReportView). trace_in r 0) same in
    absurd cc

pub never_is_replayed : IsReplay (record { term = Never; capacities = [] }) [] (blocked_alone [] [])
never_is_replayed = computed_is_replay (alone Never) 1 [] _ refl

pub canceled_is_never_blocked : (ps : List Pick) → IsReplay (record { term = term.Canceled; capacities = [] }) ps (blocked_alone [] []) → ⊥
canceled_is_never_blocked ps h = canceled_is_not_blocked (λ f. true) (replay_is_lawful (alone term.Canceled) ps (blocked_alone [] []) h)

pub mask_is_replayed : IsReplay (record { term = Mask 0 (Let None term.Canceled Never); capacities = [] }) [] (blocked_alone (event.SelfRequest ∷ []) (1 ∷ []))
mask_is_replayed = computed_is_replay (alone (Mask 0 (Let None term.Canceled Never))) 4 [] _ refl

pub inside_is_never_blocked : (ps : List Pick)
    → IsReplay (record { term = Let None term.Canceled Never; capacities = [] }) ps (blocked_alone (event.SelfRequest ∷ []) (1 ∷ [])) → ⊥
inside_is_never_blocked ps h =
    inside_is_not_blocked (λ f. true)
    (replay_is_lawful (alone (Let None term.Canceled Never)) ps (blocked_alone (event.SelfRequest ∷ []) (1 ∷ [])) h)
