-- The run that picks choose, computed, and its report.
use Rattle.std.specs.Prelude.{ℕ, zero, suc, ◌+◌, nat_lt, true, false, Option, Some, None, option_map, List, [], ◌∷◌, length, map}
use Rattle.std.specs.List.{range_with_len, filter, filter_map}
use Rattle.fx_text.specs.declared.pick.Pick.{Pick}
use Rattle.fx_text.specs.declared.pick.Pick.TheVariants as pick
use Rattle.fx_term.specs.Script.{ScriptView, total}
use Rattle.fx_model.specs.Report.{ReportView}
use Rattle.fx_plain.specs.WholeMachine.{StartedFiber, WholeMachine, Move, Steps, Requests, outcome_of, has_room, front, can_step_in, moved}
use Rattle.fx_plain.specs.WholeMachine.{requested_from_outside}
use Rattle.fx_plain.specs.SettledRun.{report_of_fiber}
use Rattle.fx_model.proofs.ComputedSteps.{Answers, Next, next}

abbrev pub answers_of : ScriptView → WholeMachine → ℕ → Answers
answers_of s m f = record { outcome = outcome_of m; has_room = has_room s m; front = λ q. front (m.queues q); is_requested = m.requested f }

-- a step of the whole machine, and what it leaves
pub record MoveMade : Type 0 where
  pub move : Move
  pub machine : WholeMachine

abbrev pub went : WholeMachine → ℕ → StartedFiber → Next → MoveMade
went m f x n = record { move = Steps f n.label; machine = moved m f x n.label n.counts n.progress }

abbrev pub stepped_fiber : ScriptView → WholeMachine → ℕ → Option StartedFiber → Option MoveMade
stepped_fiber s m f None = None
stepped_fiber s m f (Some x) = option_map (went m f x) (next (answers_of s m f) x.counts x.progress)

-- one step of fiber f
abbrev pub step_of : ScriptView → WholeMachine → ℕ → Option MoveMade
step_of s m f = stepped_fiber s m f (m.fibers f)

-- the first fiber from f on, of so many, that can step
abbrev pub least_able : ScriptView → WholeMachine → ℕ → ℕ → Option ℕ
least_able s m zero f = None
least_able s m (suc n) f = elim (can_step_in s m f) [ true ↦ Some f | false ↦ least_able s m n (f + 1) ]

-- a run, and the whole machine that it leads to
pub record RunTo : Type 0 where
  pub moves : List Move
  pub last : WholeMachine

abbrev pub after : Move → RunTo → RunTo
after v d = record d { moves = v ∷ d.moves }

-- the run goes on after a step, if one was made
abbrev pub and_then : Option MoveMade → (WholeMachine → Option RunTo) → Option RunTo
and_then None rest = None
and_then (Some w) rest = option_map (after w.move) (rest w.machine)

-- the run after the last pick, within so many steps
abbrev pub run_to_halt : ScriptView → ℕ → WholeMachine → Option RunTo
run_to_halt s zero m = None
run_to_halt s (suc n) m =
    elim (least_able s m (total s) 0) [ None ↦ Some (record { moves = []; last = m }) | Some f ↦ and_then (step_of s m f) (run_to_halt s n) ]

-- the run that the picks choose, within so many steps after the last pick
abbrev pub replayed : ScriptView → ℕ → List Pick → WholeMachine → Option RunTo
replayed s n [] m = run_to_halt s n m
replayed s n (pick.Step f ∷ ps) m = elim (can_step_in s m f) [ true ↦ and_then (step_of s m f) (replayed s n ps) | false ↦ replayed s n ps m ]
replayed s n (pick.Cancel f ∷ ps) m =
    elim (nat_lt f (total s)) [ true ↦ option_map (after (Requests f)) (replayed s n ps (requested_from_outside f m)) | false ↦ replayed s n ps m ]

-- the report of a whole machine
abbrev pub report : ScriptView → WholeMachine → ReportView
report s m = record {
  fibers = filter_map (λ f. report_of_fiber f (m.stamps.trace f) (m.fibers f)) (range_with_len 0 (total s));
  left = map m.queues (range_with_len 0 (length s.capacities));
  outside = filter m.from_outside (range_with_len 0 (total s));
  late = 0;
}
