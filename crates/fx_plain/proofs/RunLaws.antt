-- What the starts of each run of the whole machine find.
use Rattle.std.proofs.Common.{ℕ, List, arith}
use Rattle.fx_model.specs.Row.{Starts}
use Rattle.fx_model.specs.Origin.{Origin}
use Rattle.fx_term.specs.Script.{ScriptView}
use Rattle.fx_model.proofs.StepLabels.{StartsNext, step_tells}
use Rattle.fx_model.proofs.RangeLaws.{step_need}
use Rattle.fx_plain.specs.WholeMachine.{WholeMachine, Move, FiberSteps, IsWholeMachineRun, FindsItsNumber}
use Rattle.fx_plain.proofs.RangesKept.{fresh}
use Rattle.fx_plain.proofs.LawfulRuns.{run_keeps}

-- a start takes the next number of its fiber, which is free, and the child's range is in that of the fiber
pub start_finds : (s : ScriptView) (vs : List Move) (m : WholeMachine) (f g : ℕ) (b : Origin) (m' : WholeMachine) → IsWholeMachineRun s vs m
    → (st : FiberSteps s m f (Starts g b) m') → FindsItsNumber s m st.fiber.counts g b
start_finds s vs m f g b m' r st =
    let k = run_keeps s vs m r in
    let t : StartsNext st.fiber.counts st.counts g b = (step_tells st.step).takes in
    let need = step_need st.step in
    let room = k.ranges.room f st.fiber st.started in
    let all = k.ranges.below_total f st.fiber st.started in
    let p = t.number in let p1 = t.next in let p2 = t.end in let p3 = t.after in
    record {
      free = fresh s m f st.fiber st.counts st.progress st.started k.ranges (Starts g b) st.step;
      below = omega arith;
      takes = record { number = t.number; next = omega arith; room = t.end; within = omega arith };
      range = all;
    }
