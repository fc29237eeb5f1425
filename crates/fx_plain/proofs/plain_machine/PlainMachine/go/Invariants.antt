use Rattle.std.proofs.Common.{◌≡◌, List, []}
use Rattle.std.specs.Prelude.{IfSome, IfNone}
use Rattle.fx_term.specs.Script.{ScriptView}
use Rattle.fx_text.specs.declared.pick.Pick.{Pick}
use Rattle.fx_plain.specs.declared.plain_machine.Next.TheVariants.{Step}
use Rattle.fx_plain.specs.PlainMachine.{StandsForSome, IsUnderWay}
use Rattle.fx_plain.proofs.PlainMachineWork.{left_of}
use Rattle.fx_plain.proofs.plain_machine.PlainMachine.go.Given as goal

-- it stands for some; to a halt it is on the way, and for one step nothing is done yet
abbrev pub invariant-loop-fiber : goal.invariant-loop-fiber
invariant-loop-fiber g l = StandsForSome g.J.CodeBrand.nodes l.self
    × IfNone l.fn.only ((s : ScriptView) (all : List Pick) → IsUnderWay g.J.CodeBrand.nodes s all [] l.fn.self → IsUnderWay g.J.CodeBrand.nodes s all [] l.self)
    × IfSome l.fn.only (λ f. (l.self ≡ l.fn.self) × (l.next ≡ Step))

abbrev pub decreases-loop-fiber : goal.decreases-loop-fiber
decreases-loop-fiber g l = left_of g.J.CodeBrand.nodes l.self
