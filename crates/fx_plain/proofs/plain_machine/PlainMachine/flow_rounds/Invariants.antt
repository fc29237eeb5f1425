use Rattle.fx_term.specs.Script.{ScriptView}
use Rattle.fx_plain.specs.WholeMachine.{WholeMachine}
use Rattle.fx_plain.specs.PlainMachine.{StandsForRun, GoesByLeast}
use Rattle.fx_plain.proofs.PlainMachineWork.{left_of}
use Rattle.fx_plain.proofs.plain_machine.PlainMachine.flow_rounds.Given as goal

abbrev pub invariant-loop-fiber : goal.invariant-loop-fiber
invariant-loop-fiber g l = (s : ScriptView) (m : WholeMachine) → StandsForRun g.J.CodeBrand.nodes s l.fn.self m
    → GoesByLeast g.J.CodeBrand.nodes s m l.fn.self l.self

abbrev pub decreases-loop-fiber : goal.decreases-loop-fiber
decreases-loop-fiber g l = left_of g.J.CodeBrand.nodes l.self
