use Rattle.std.proofs.Common.{refl}
use Rattle.fx_plain.proofs.Marks.{zeros_marked}
use Rattle.fx_plain.proofs.Members.{zeros_have_none}
use Rattle.fx_plain.proofs.number_set.NumberSet.new.Goals as goal

pub invariant_of-result : goal.invariant_of-result
invariant_of-result c = zeros_marked _ refl

pub returns : goal.returns
returns c = zeros_have_none _ refl
