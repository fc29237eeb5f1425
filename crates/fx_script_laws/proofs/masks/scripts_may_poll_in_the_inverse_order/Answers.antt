use Rattle.fx_script_laws.proofs.MaskedMains.{inverse_main}
use Rattle.fx_script_laws.proofs.masks.scripts_may_poll_in_the_inverse_order.Goals as goal

pub returns-clause-reports : goal.returns-clause-reports
returns-clause-reports c scope p q a capacities may r plain other scoped quiet = (inverse_main scope p q a plain other scoped capacities may r quiet).reports

pub returns-clause-orders : goal.returns-clause-orders
returns-clause-orders c scope p q a capacities may r plain other scoped quiet = (inverse_main scope p q a plain other scoped capacities may r quiet).orders

pub returns-clause-lists : goal.returns-clause-lists
returns-clause-lists c scope p q a capacities may r plain other scoped quiet = (inverse_main scope p q a plain other scoped capacities may r quiet).lists
