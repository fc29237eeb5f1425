use Rattle.fx_script_laws.proofs.ExampleScripts.{guaranteed}
use Rattle.fx_script_laws.proofs.scripts.scripts_may_guarantee_by_cases.Goals as goal

pub returns : goal.returns
returns c = guaranteed
