-- What the rule of a place asks of the port.
use Rattle.std.specs.Prelude.{◌≡◌, ℕ, Option, Some, None, List, ◌++◌, max}
use Rattle.fx_term.specs.declared.event.Event.TheVariants as event
use Rattle.fx_term.specs.declared.offered.Offered.TheVariants as offered
use Rattle.fx_term.specs.Term.{Term}
use Rattle.fx_model.specs.Row.{Learns}
use Rattle.fx_model.specs.Step.{leaf_at}
use Rattle.fx_fiber.specs.StampedDeed.{StampedDeed, numbered}
use Rattle.fx_fiber.specs.StampedRun.{next_stamp, IsUncaused}
use Rattle.fx_fiber.specs.Calls.{PortCalls}
use Rattle.fx_fiber.specs.PortFacts.{facts_with}
use Rattle.fx_fiber.specs.Theory.{Theory}
use Rattle.fx_fiber.specs.MakesStep.{value_offered, PeeksLeft, IsRefused}
use Rattle.fx_fiber.specs.declared.machine.made.Made.{Made}
use Rattle.fx_fiber.specs.declared.machine.made.Made.TheVariants as made
use Rattle.fx_fiber.specs.declared.machine.Machine.{Machine}
use Rattle.fx_fiber.specs.Machine.{progress_of}
use Rattle.fx_fiber.specs.Sound.{IsSoundMachine}
use Rattle.fx_fiber.specs.Made.{label_of, deeds_made, IsRuleMade}
use Rattle.fx_fiber.specs.Makes.{Makes}

module _ {P S : Type 0} (calls : PortCalls P S) where
  -- what the rule of this leaf asks of the port, where its event has this stamp and its cause that one: to request a cancellation, for an outcome, to put or to
  -- take an element, or in vain for what it waits for
  abbrev pub Told : ℕ → ℕ → Option Term → Made → P → S → P → S → Type 0
  Told own cause leaf (made.Waits w) p s p' s' = IsRefused calls own (value_offered leaf) w p s × (p' ≡ p) × (s' ≡ s)
  Told own cause leaf (made.Shows (event.Request f)) p s p' s' = calls.requests p s f own p' s'
  Told own cause leaf (made.Shows (event.Put q n)) p s p' s' = calls.offers p s q n own offered.Done p' s'
  Told own cause leaf (made.Shows (event.Got q n)) p s p' s' = calls.takes p s q (Some (n, cause)) p' s'
  Told own cause leaf (made.Shows (event.Refused q)) p s p' s' = calls.offers p s q (value_offered leaf) own offered.Full p' s'
  Told own cause leaf (made.Shows (event.Empty q)) p s p' s' = calls.takes p s q None p' s'
  Told own cause leaf (made.Learns f o e) p s p' s' = PeeksLeft calls (Learns f o e) leaf p s × calls.peeks p s f (Some (o, cause)) p' s'
  Told own cause leaf _ p s p' s' = (p' ≡ p) × (s' ≡ s)

-- What was made raises the clock of its fiber, the stamp of its last event, to that of the cause; a rule that has none has 0
pub record Raises (m : Made) (cause k k' : ℕ) : Type 0 where
  pub raised : k' ≡ max k cause
  pub none : IsUncaused (label_of m) → cause ≡ 0

-- the rule of a place was made, with what it asks of the port, or the fiber waits; the clock was the first of these numbers, and is the second one
pub record MakesCall {P S : Type 0} (theory : Theory P S) (k : ℕ) (s : Machine) (p : P) (sh : S) (m : Made) (k' : ℕ) (s' : Machine) (p' : P) (sh' : S)
    : Type 0 where
  pub cause : ℕ
  pub raises : Raises m cause k k'
  pub sound : IsSoundMachine theory.code s'
  pub rule : Makes theory.code s m s'
  pub own : IsRuleMade m
  pub told : Told theory.calls (next_stamp k cause) cause (leaf_at (progress_of theory.code s)) m p sh p' sh'
  pub agreed : (deeds : List StampedDeed) → theory.agrees p deeds → theory.agrees p' (deeds ++ numbered (next_stamp k cause) cause (deeds_made m))
  pub facts_are : theory.facts p' ≡ facts_with (label_of m) (theory.facts p)
