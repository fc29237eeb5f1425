use Rattle.fx_text.proofs.ScheduleLaws.{picks_found, picks_only}
use Rattle.fx_text.proofs.schedules.schedule.Goals as goal

pub returns-clause-found : goal.returns-clause-found
returns-clause-found c = picks_found c.args.text.now c.read_all.result c.read_all.ensures

pub returns-clause-only : goal.returns-clause-only
returns-clause-only c = picks_only c.args.text.now c.read_all.result c.read_all.ensures
