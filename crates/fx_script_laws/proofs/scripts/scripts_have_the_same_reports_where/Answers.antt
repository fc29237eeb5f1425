use Rattle.fx_script_laws.proofs.SameReports.{reports_where, orders_where, lists_where}
use Rattle.fx_script_laws.proofs.scripts.scripts_have_the_same_reports_where.Goals as goal

pub returns-clause-reports : goal.returns-clause-reports
returns-clause-reports c there own t u s z may r same = reports_where there own t u same s z may r

pub returns-clause-orders : goal.returns-clause-orders
returns-clause-orders c there own t u s z may r same = orders_where there own t u same s z may r

pub returns-clause-lists : goal.returns-clause-lists
returns-clause-lists c there own t u s z may r same = lists_where there own t u same s z may r
