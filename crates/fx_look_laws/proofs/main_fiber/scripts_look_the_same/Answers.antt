use Rattle.fx_look_laws.proofs.MainLooks.{looks_same, looks_all, looks_unless}
use Rattle.fx_look_laws.proofs.main_fiber.scripts_look_the_same.Goals as goal

pub returns-clause-same : goal.returns-clause-same
returns-clause-same c =
    λ t u capacities may r needs main ended lawful same. looks_same t u capacities may r needs main lawful ended same

pub returns-clause-all : goal.returns-clause-all
returns-clause-all c =
    λ t u capacities may r needs main ended lawful all. looks_all t u capacities may r needs main lawful ended all

pub returns-clause-unless : goal.returns-clause-unless
returns-clause-unless c =
    λ t u capacities may r needs main ended lawful same more. looks_unless t u capacities may r needs main lawful ended same more
