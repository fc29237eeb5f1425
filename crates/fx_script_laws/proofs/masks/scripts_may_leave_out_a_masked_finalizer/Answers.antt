use Rattle.fx_script_laws.proofs.MaskedMains.{finalizer_main}
use Rattle.fx_script_laws.proofs.masks.scripts_may_leave_out_a_masked_finalizer.Goals as goal

pub returns-clause-reports : goal.returns-clause-reports
returns-clause-reports c scope p a f capacities may r plain scoped few quiet = (finalizer_main scope p a f plain scoped few capacities may r quiet).reports

pub returns-clause-orders : goal.returns-clause-orders
returns-clause-orders c scope p a f capacities may r plain scoped few quiet = (finalizer_main scope p a f plain scoped few capacities may r quiet).orders

pub returns-clause-lists : goal.returns-clause-lists
returns-clause-lists c scope p a f capacities may r plain scoped few quiet = (finalizer_main scope p a f plain scoped few capacities may r quiet).lists
