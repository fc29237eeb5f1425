use Rattle.fx_text.specs.View.{meaning}
use Rattle.fx_report.specs.Script.{script_of}
use Rattle.fx_plain.proofs.ChosenRuns.{replay_is_lawful, replay_is_in_order, replay_is_stamped, replay_is_stamped_report}
use Rattle.fx_plain.proofs.Waits.{without_waits}
use Rattle.fx_plain.proofs.chosen_run.replay.Goals as goal

pub returns-clause-replayed : goal.returns-clause-replayed
returns-clause-replayed c = without_waits (script_of (meaning c.args.script.now)) c.args.picks.now _ _ c.in_ok-replayed.ensures.replayed.replay

pub returns-clause-lawful : goal.returns-clause-lawful
returns-clause-lawful c = replay_is_lawful (script_of (meaning c.args.script.now)) c.args.picks.now _ (returns-clause-replayed c)

pub returns-clause-causes : goal.returns-clause-causes
returns-clause-causes c = replay_is_in_order (script_of (meaning c.args.script.now)) c.args.picks.now _ (returns-clause-replayed c)

pub returns-clause-in_list : goal.returns-clause-in_list
returns-clause-in_list c = replay_is_stamped (script_of (meaning c.args.script.now)) c.args.picks.now _ (returns-clause-replayed c)

pub returns-clause-stamped : goal.returns-clause-stamped
returns-clause-stamped c = replay_is_stamped_report (script_of (meaning c.args.script.now)) c.args.picks.now _ (returns-clause-replayed c)
