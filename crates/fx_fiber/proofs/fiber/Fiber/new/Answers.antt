use Rattle.std.proofs.Common.{◌∙◌, ap, arith}
use Rattle.fx_model.specs.Origin.{Origin}
use Rattle.fx_fiber.specs.Fiber.{is_fiber_number}
use Rattle.fx_model.specs.Step.{Runs}
use Rattle.fx_model.proofs.Beginnings.{main_begins, main_work_fits, main_scoped, main_room}
use Rattle.fx_fiber.proofs.fiber.Fiber.new.Goals as goal

pub beginning-requires-2-clause-countable : goal.beginning-requires-2-clause-countable
beginning-requires-2-clause-countable g c =
    rw (c.requires.facts, ← c.requires.code) (main_work_fits c.args.code.now.nodes c.main_begin-begin.ensures.code)

pub beginning-requires-2-clause-scoped : goal.beginning-requires-2-clause-scoped
beginning-requires-2-clause-scoped g c =
    rw (c.requires.facts, ← c.requires.code) (main_scoped is_fiber_number c.args.code.now.nodes c.main_begin-begin.ensures.code)

pub beginning-requires-2-clause-room : goal.beginning-requires-2-clause-room
beginning-requires-2-clause-room g c = rw (c.requires.facts, ← c.requires.code) (main_room c.args.code.now.nodes)

pub beginning-requires-2-clause-word : goal.beginning-requires-2-clause-word
beginning-requires-2-clause-word g c = rw c.requires.facts (rw c.main_begin-begin.ensures.begin at c.main_begin-begin.ensures.word)

pub beginning-requires-2-clause-within : goal.beginning-requires-2-clause-within
beginning-requires-2-clause-within g c = rw c.requires.facts c.requires.total

pub beginning-requires-2-clause-below : goal.beginning-requires-2-clause-below
beginning-requires-2-clause-below g c = let t = c.requires.total in rw c.requires.facts (omega arith)

pub returns-clause-progress : goal.returns-clause-progress
returns-clause-progress g c =
    let first = rw (← c.requires.code, c.requires.facts) at c.beginning-2.ensures.first in
    first.progress_is ∙ ap (λ (b : Origin). Runs b.term) (main_begins c.args.code.now.nodes)
