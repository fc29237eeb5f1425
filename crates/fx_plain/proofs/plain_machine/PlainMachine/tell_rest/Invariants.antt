use Rattle.std.proofs.Common.{ℕ, List, []}
use Rattle.fx_term.specs.Script.{ScriptView}
use Rattle.fx_text.specs.declared.pick.Pick.{Pick}
use Rattle.fx_plain.specs.PlainMachine.{StandsForSome}
use Rattle.fx_plain.specs.ToldWay.{IsToldWay}
use Rattle.fx_plain.proofs.PlainMachineWork.{left_of}
use Rattle.fx_plain.proofs.plain_machine.PlainMachine.tell_rest.Given as goal

-- it stands for some, and is on the way if it was
abbrev pub invariant-loop-fiber : goal.invariant-loop-fiber
invariant-loop-fiber g l = StandsForSome g.J.CodeBrand.nodes l.self
    × ((s : ScriptView) (all : List Pick) (taken : ℕ) → IsToldWay g.J.CodeBrand.nodes s all taken [] l.fn.told.items l.fn.self
    → IsToldWay g.J.CodeBrand.nodes s all taken [] l.told.items l.self)

abbrev pub decreases-loop-fiber : goal.decreases-loop-fiber
decreases-loop-fiber g l = left_of g.J.CodeBrand.nodes l.self
