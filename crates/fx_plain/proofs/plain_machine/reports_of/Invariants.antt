use Rattle.std.proofs.Common.{◌≡◌, ◌++◌}
use Rattle.fx_plain.specs.PlainMachine.{all_reported}
use Rattle.fx_plain.proofs.plain_machine.reports_of.Given as goal

abbrev pub invariant-loop-fiber : goal.invariant-loop-fiber
invariant-loop-fiber g l = l.reports.items ++ all_reported g.J.CodeBrand.nodes l.fiber-iterator.rest.items ≡ all_reported g.J.CodeBrand.nodes l.fn.fibers.items
