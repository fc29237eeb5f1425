use Rattle.fx_look_laws.proofs.EndedLooks.{ended_like_all, ended_like_unless}
use Rattle.fx_look_laws.proofs.looks.what_looks_the_same_ends_the_same.Goals as goal

pub returns-clause-all : goal.returns-clause-all
returns-clause-all c = λ t u all. ended_like_all u t all

pub returns-clause-unless : goal.returns-clause-unless
returns-clause-unless c = λ t u same. ended_like_unless t u same
