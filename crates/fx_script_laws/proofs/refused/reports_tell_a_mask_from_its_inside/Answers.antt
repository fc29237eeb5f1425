use Rattle.fx_script_laws.proofs.ReportsApart.{mask_is_blocked, inside_is_not_blocked}
use Rattle.fx_script_laws.proofs.refused.reports_tell_a_mask_from_its_inside.Goals as goal

pub returns-clause-mask : goal.returns-clause-mask
returns-clause-mask c = mask_is_blocked

pub returns-clause-inside : goal.returns-clause-inside
returns-clause-inside c = inside_is_not_blocked
