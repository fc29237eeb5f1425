-- What a run does to a queue, by its moves and by what is told of it.
use Rattle.std.specs.Prelude.{ℕ, List, [], ◌∷◌, ◌++◌}
use Rattle.fx_term.specs.declared.queue_event.QueueEvent.{QueueEvent}
use Rattle.fx_term.specs.Queue.{queue_events}
use Rattle.fx_model.specs.Run.{events}
use Rattle.fx_plain.specs.declared.told.Told.{Told}
use Rattle.fx_plain.specs.declared.told.Told.TheVariants.{Step, Request, Passed}
use Rattle.fx_plain.specs.WholeMachine.{Move, Steps, Requests}
use Rattle.fx_plain.specs.ToldRun.{one_shown}

-- the puts into queue q and the gets from there, in the order of the moves
abbrev pub queue_moves : ℕ → List Move → List QueueEvent
queue_moves q [] = []
queue_moves q (Steps f l ∷ moves) = queue_events q f (events (l ∷ [])) ++ queue_moves q moves
queue_moves q (Requests f ∷ moves) = queue_moves q moves

-- and in the order in which they are told
abbrev pub queue_told : ℕ → List Told → List QueueEvent
queue_told q [] = []
queue_told q (Step made ∷ told) = queue_events q made.fiber (one_shown made.event) ++ queue_told q told
queue_told q (Request f ∷ told) = queue_told q told
queue_told q (Passed x ∷ told) = queue_told q told
