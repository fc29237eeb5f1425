-- What is told of the gets of a run, and in which order they take the puts of a queue.
use Rattle.std.specs.Prelude.{◌≡◌, ℕ, ◌==◌, if◌then◌else◌, Option, Some, None, List, [], ◌∷◌, ◌++◌, length}
use Rattle.fx_term.specs.declared.event.Event.{Event}
use Rattle.fx_term.specs.declared.event.Event.TheVariants as event
use Rattle.fx_term.specs.Queue.{values_put}
use Rattle.fx_model.specs.Causes.{values_got}
use Rattle.fx_plain.specs.declared.told.Told.{Told}
use Rattle.fx_plain.specs.declared.told.Told.TheVariants.{Step, Request, Passed}
use Rattle.fx_plain.specs.ToldRun.{one_shown}
use Rattle.fx_picture.specs.declared.stood.EventAt.{EventAt}
use Rattle.fx_command.specs.SoFar.{SoFarView, nothing_shown, next_of, held_in, cause_by}
use Rattle.fx_command.specs.StoodEvents.{shown_after}

abbrev pub one_cause : Option EventAt → List EventAt
one_cause None = []
one_cause (Some x) = x ∷ []

-- this event of fiber f, if it is a put into queue q; and what causes it, if it is a get from there
abbrev pub puts_when : ℕ → SoFarView → ℕ → Option Event → List EventAt
puts_when q s f (Some (event.Put p v)) = if p == q then next_of s f ∷ [] else []
puts_when q s f _ = []

abbrev pub causes_when : ℕ → SoFarView → Option Event → List EventAt
causes_when q s (Some (event.Got p v)) = if p == q then one_cause (cause_by s.queues (event.Got p v)) else []
causes_when q s _ = []

abbrev pub puts_in : ℕ → SoFarView → Told → List EventAt
puts_in q s (Step made) = puts_when q s made.fiber made.event
puts_in q s (Request f) = []
puts_in q s (Passed x) = []

abbrev pub causes_in : ℕ → SoFarView → Told → List EventAt
causes_in q s (Step made) = causes_when q s made.event
causes_in q s (Request f) = []
causes_in q s (Passed x) = []

-- all the puts into queue q, in the order of the run, all the causes of gets from there, and the puts that are held at the end, where this was shown before
abbrev pub puts_told : ℕ → SoFarView → List Told → List EventAt
puts_told q s [] = []
puts_told q s (t ∷ told) = puts_in q s t ++ puts_told q (shown_after s t) told

abbrev pub causes_told : ℕ → SoFarView → List Told → List EventAt
causes_told q s [] = []
causes_told q s (t ∷ told) = causes_in q s t ++ causes_told q (shown_after s t) told

abbrev pub held_told : ℕ → SoFarView → List Told → List EventAt
held_told q s [] = held_in s.queues q
held_told q s (t ∷ told) = held_told q (shown_after s t) told

-- what was shown after these
abbrev pub shown_by_all : SoFarView → List Told → SoFarView
shown_by_all s [] = s
shown_by_all s (t ∷ told) = shown_by_all (shown_after s t) told

-- all events that are told
abbrev pub all_shown : List Told → List Event
all_shown [] = []
all_shown (Step made ∷ told) = one_shown made.event ++ all_shown told
all_shown (Request f ∷ told) = all_shown told
all_shown (Passed x ∷ told) = all_shown told

-- Each get from queue q has a cause, and the causes are the first puts into it, in their order, so that no put is the cause of two; and so are their values the
-- first that were put. So each get has the put of its own value as its cause
pub record TakesInOrder (fibers queues q : ℕ) (told : List Told) : Type 0 where
  pub puts : puts_told q (nothing_shown fibers queues) told
      ≡ causes_told q (nothing_shown fibers queues) told ++ held_told q (nothing_shown fibers queues) told
  pub left : List ℕ
  pub values : values_put q (all_shown told) ≡ values_got q (all_shown told) ++ left
  pub each : length (causes_told q (nothing_shown fibers queues) told) ≡ length (values_got q (all_shown told))
