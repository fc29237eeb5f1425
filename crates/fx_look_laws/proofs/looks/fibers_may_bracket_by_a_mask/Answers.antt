use Rattle.fx_look_laws.proofs.FiberLaws.{bracket_masked, mask_bracketed}
use Rattle.fx_look_laws.proofs.looks.fibers_may_bracket_by_a_mask.Goals as goal

pub returns-clause-masked : goal.returns-clause-masked
returns-clause-masked c =
    λ scope p y e x a u d new_p new_y new_e py pe new pa pu pd sa su sd none.
    bracket_masked scope p y e x a u d new_p new_y new_e py pe new pa pu pd sa su sd none

pub returns-clause-bracketed : goal.returns-clause-bracketed
returns-clause-bracketed c =
    λ scope p y e x a u d new_p new_y new_e py pe new pa pu pd sa su sd none.
    mask_bracketed scope p y e x a u d new_p new_y new_e py pe new pa pu pd sa su sd none
