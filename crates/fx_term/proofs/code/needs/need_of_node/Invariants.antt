-- The need of the parts from here on.
use Rattle.std.proofs.Common.{◌≡◌}
use Rattle.std.specs.Prelude.{slice_index}
use Rattle.fx_term.proofs.NeedLaws.{need_from}
use Rattle.fx_term.proofs.code.needs.need_of_node.Given as goal

abbrev pub invariant-loop-index : goal.invariant-loop-index
invariant-loop-index l = l.need ≡ need_from (λ id. slice_index l.needs id) l.parts l.index
