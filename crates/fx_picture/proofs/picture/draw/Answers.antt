use Rattle.std.proofs.Common.{rules}
use Rattle.fx_report.proofs.QueueNames.{names_of_meaning}
use Rattle.fx_picture.proofs.picture.draw.Goals as goal

pub returns : goal.returns
returns c = rw (names_of_meaning c.args.script.now) (search rules)
