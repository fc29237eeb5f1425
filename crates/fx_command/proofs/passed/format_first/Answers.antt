use Rattle.std.proofs.Common.{append_assoc}
use Rattle.std.proofs.lemmas.Bool.{ne_eqb}
use Rattle.fx_command.proofs.passed.format_first.Goals as goal

pub returns-else-count-eq1 : goal.returns-else-count-eq1
returns-else-count-eq1 c = rw (ne_eqb c.args.count 1 c.if-count-eq1.false) (simp append_assoc c.format-else-count-eq1.ensures.ok)
