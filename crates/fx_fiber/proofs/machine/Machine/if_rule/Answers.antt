use Rattle.fx_fiber.proofs.Leaves.{value_within}
use Rattle.fx_fiber.proofs.machine.Machine.if_rule.Goals as goal

pub number_of-requires : goal.number_of-requires
number_of-requires g c = value_within g.nodes c.args.self.now c.requires.0 c.args.value c.args.part c.args.other c.requires.1.at

pub if_not_zero-requires : goal.if_not_zero-requires
if_not_zero-requires g c = (
  c.number_of.result,
  c.args.other,
  c.if-number_of-ne0.true,
  record { id = c.requires.0; value = c.args.value; stands = c.requires.1; number = c.number_of.ensures },
)

pub if_zero-requires : goal.if_zero-requires
if_zero-requires g c = (
  c.args.part,
  record { id = c.requires.0; value = c.args.value; stands = c.requires.1; number = rw c.if-number_of-ne0.false at c.number_of.ensures },
)
