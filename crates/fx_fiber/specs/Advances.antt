-- What a fiber makes in a step before its end is told, and what it asks of the port for it.
use Rattle.std.specs.Prelude.{◌≡◌, ℕ, Bool, Option, Some, List, ◌++◌}
use Rattle.fx_term.specs.declared.event.Event.TheVariants as event
use Rattle.fx_term.specs.Term.{Term}
use Rattle.fx_model.specs.Step.{leaf_at, looks_first}
use Rattle.fx_fiber.specs.StampedDeed.{StampedDeed, numbered}
use Rattle.fx_fiber.specs.StampedRun.{next_stamp}
use Rattle.fx_fiber.specs.Calls.{PortCalls}
use Rattle.fx_fiber.specs.PortFacts.{facts_with}
use Rattle.fx_fiber.specs.Theory.{Theory}
use Rattle.fx_fiber.specs.MakesStep.{LooksInVain}
use Rattle.fx_fiber.specs.declared.machine.made.Made.{Made}
use Rattle.fx_fiber.specs.declared.machine.made.Made.TheVariants as made
use Rattle.fx_fiber.specs.declared.machine.Machine.{Machine}
use Rattle.fx_fiber.specs.Machine.{progress_of}
use Rattle.fx_fiber.specs.Sound.{IsSoundMachine}
use Rattle.fx_fiber.specs.Made.{label_of, deeds_made, IsOwnMade}
use Rattle.fx_fiber.specs.Makes.{Makes}
use Rattle.fx_fiber.specs.MakesCall.{Told, Raises}

module _ {P S : Type 0} (calls : PortCalls P S) where
  -- what is asked in a step, where a look is due or not: a request is seen by a look, and the rule of such a place comes after a look in vain
  abbrev pub Asks : ℕ → ℕ → Bool → Option Term → Made → P → S → P → S → Type 0
  Asks own cause due leaf (made.Shows event.Seen) p s p' s' = calls.looks p s (Some cause) p' s'
  Asks own cause due leaf m p s p' s' = LooksInVain calls due p s × Told calls own cause leaf m p s p' s'

-- what a fiber makes in a step before its end is told, and what it asks for it
pub record Advances {P S : Type 0} (theory : Theory P S) (k : ℕ) (s : Machine) (p : P) (sh : S) (m : Made) (k' : ℕ) (s' : Machine) (p' : P) (sh' : S)
    : Type 0 where
  pub cause : ℕ
  pub raises : Raises m cause k k'
  pub sound : IsSoundMachine theory.code s'
  pub rule : Makes theory.code s m s'
  pub own : IsOwnMade m
  pub asks : Asks theory.calls (next_stamp k cause) cause (looks_first s.known (progress_of theory.code s)) (leaf_at (progress_of theory.code s)) m
      p sh p' sh'
  pub agreed : (deeds : List StampedDeed) → theory.agrees p deeds → theory.agrees p' (deeds ++ numbered (next_stamp k cause) cause (deeds_made m))
  pub facts_are : theory.facts p' ≡ facts_with (label_of m) (theory.facts p)
