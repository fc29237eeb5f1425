use Rattle.fx_script_laws.proofs.SameReports.{same_reports, same_orders, same_lists}
use Rattle.fx_script_laws.proofs.scripts.scripts_have_the_same_reports.Goals as goal

pub returns-clause-reports : goal.returns-clause-reports
returns-clause-reports c own t u s z may r same = same_reports own t u same.waits s z may r

pub returns-clause-orders : goal.returns-clause-orders
returns-clause-orders c own t u s z may r same = same_orders own t u same.waits s z may r

pub returns-clause-lists : goal.returns-clause-lists
returns-clause-lists c own t u s z may r same = same_lists own t u same.waits s z may r
