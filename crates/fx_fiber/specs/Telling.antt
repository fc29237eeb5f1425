-- How what was made in a step is told: its event to the trace, and the end of the fiber to its port.
use Rattle.std.specs.Prelude.{◌≡◌, ℕ, true}
use Rattle.fx_term.specs.declared.event.Event.TheVariants as event
use Rattle.fx_term.specs.declared.outcome.Outcome.{Outcome}
use Rattle.fx_fiber.specs.Deed.{Ended}
use Rattle.fx_fiber.specs.Theory.{Theory, HasDone}
use Rattle.fx_fiber.specs.declared.machine.made.Made.{Made}
use Rattle.fx_fiber.specs.declared.machine.made.Made.TheVariants as made
use Rattle.fx_fiber.specs.declared.stepped.Stepped.{Stepped}
use Rattle.fx_fiber.specs.declared.stepped.Stepped.TheVariants as stepped

-- a rule was made, or the fiber waits: it is no start, whose rule is yet to be made
abbrev pub IsMade : Made → Type 0
IsMade (made.Starts h a b) = ⊥
IsMade _ = Unit {0}

-- the answer of a step that made this
abbrev pub answer_to : {P S : Type 0} → Made → Stepped P S
answer_to made.Yielded = stepped.Gave
answer_to (made.Waits w) = stepped.Waits w
answer_to (made.Shows (event.Ended o)) = stepped.Ended
answer_to _ = stepped.Went

module _ {P S : Type 0} (theory : Theory P S) where
  -- the end of the fiber was told to its port, with the stamp of its event
  pub record TellsEnd (own : ℕ) (o : Outcome) (p : P) (s : S) (p' : P) (s' : S) : Type 0 where
    pub told : theory.calls.finishes p s o own p' s'
    pub facts_are : theory.facts p' ≡ record (theory.facts p) { has_finished = true }
    pub agreed : HasDone theory (Ended o) own p p'

  -- that, where this is the end, and else nothing
  abbrev pub TellsMade : ℕ → Made → P → S → P → S → Type 0
  TellsMade own (made.Shows (event.Ended o)) p s p' s' = TellsEnd own o p s p' s'
  TellsMade own _ p s p' s' = (p' ≡ p) × (s' ≡ s)
