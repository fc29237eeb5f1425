use Rattle.fx_look_laws.proofs.FibersLook.{fibers_look_in}
use Rattle.fx_look_laws.proofs.fibers.scripts_look_the_same_in_fibers.Goals as goal

pub returns : goal.returns
returns c =
    λ is_so own t u s z may r looks terms capacities lawful each.
    fibers_look_in is_so own t u looks s z.term may r terms lawful each z.capacities capacities
