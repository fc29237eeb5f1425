use Rattle.fx_script_laws.proofs.MaskedMains.{masked_main}
use Rattle.fx_script_laws.proofs.masks.scripts_may_mask_and_poll_at_once.Goals as goal

pub returns-clause-reports : goal.returns-clause-reports
returns-clause-reports c scope p a capacities may r plain scoped quiet = (masked_main scope p a plain scoped capacities may r quiet).reports

pub returns-clause-orders : goal.returns-clause-orders
returns-clause-orders c scope p a capacities may r plain scoped quiet = (masked_main scope p a plain scoped capacities may r quiet).orders

pub returns-clause-lists : goal.returns-clause-lists
returns-clause-lists c scope p a capacities may r plain scoped quiet = (masked_main scope p a plain scoped capacities may r quiet).lists
