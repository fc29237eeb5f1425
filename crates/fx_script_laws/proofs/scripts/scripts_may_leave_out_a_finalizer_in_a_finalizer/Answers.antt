use Rattle.fx_script_laws.proofs.ExampleScripts.{nested_finalizer}
use Rattle.fx_script_laws.proofs.scripts.scripts_may_leave_out_a_finalizer_in_a_finalizer.Goals as goal

pub returns : goal.returns
returns c = nested_finalizer
