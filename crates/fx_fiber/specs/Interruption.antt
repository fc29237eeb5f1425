-- What comes before the rule of a place: cancellation that is due, or a request that is seen.
use Rattle.std.specs.Prelude.{◌≡◌, ℕ, Bool, true, false, Option, Some, None, List, max}
use Rattle.fx_term.specs.declared.node.Node.{Node}
use Rattle.fx_term.specs.declared.event.Event.TheVariants as event
use Rattle.fx_fiber.specs.Deed.{Saw}
use Rattle.fx_fiber.specs.Theory.{Theory, HasDone}
use Rattle.fx_fiber.specs.MakesStep.{LooksInVain}
use Rattle.fx_fiber.specs.declared.machine.interruption.Interruption.{Interruption}
use Rattle.fx_fiber.specs.declared.machine.interruption.Interruption.TheVariants.{Cancellation, Request}
use Rattle.fx_fiber.specs.declared.machine.made.Made.{Made}
use Rattle.fx_fiber.specs.declared.machine.made.Made.TheVariants as made
use Rattle.fx_fiber.specs.declared.machine.Machine.{Machine}
use Rattle.fx_fiber.specs.Sound.{IsSoundMachine}
use Rattle.fx_fiber.specs.Places.{is_open_machine, must_cancel_machine, IsGoing, IsEntered}
use Rattle.fx_fiber.specs.Makes.{Makes}

-- cancellation interrupts, and not a request
abbrev pub is_cancellation : Interruption → Bool
is_cancellation Cancellation = true
is_cancellation Request = false

-- what interrupts a fiber in place of its rule makes this
abbrev pub made_by : Interruption → Made
made_by Cancellation = made.Shows event.Cancelled
made_by Request = made.Shows event.Seen

-- the fiber was interrupted so
pub record Interrupts (nodes : List Node) (s : Machine) (i : Interruption) (m : Made) (s' : Machine) : Type 0 where
  pub shows : m ≡ made_by i
  pub sound : IsSoundMachine nodes s'
  pub rule : Makes nodes s m s'

-- cancellation is due, or a request was seen, where the fiber has entered its contexts
pub record IsInterrupted (nodes : List Node) (s : Machine) (i : Interruption) : Type 0 where
  pub sound : IsSoundMachine nodes s
  pub going : IsGoing s.focus
  pub entered : IsEntered nodes s.focus
  pub opened : is_open_machine s ≡ true
  pub due : must_cancel_machine nodes s ≡ is_cancellation i

module _ {P S : Type 0} (theory : Theory P S) where
  -- a look found a request with that stamp, to which the clock was raised
  pub record FindsRequest (k : ℕ) (p : P) (s : S) (k' : ℕ) (p' : P) (s' : S) : Type 0 where
    pub cause : ℕ
    pub raised : k' ≡ max k cause
    pub told : theory.calls.looks p s (Some cause) p' s'
    pub done : HasDone theory Saw cause p p'

  -- what comes before the rule of a place that is open or not, where cancellation is due or not: cancellation, a request that is seen, or nothing,
  -- after a look in vain where the place is open
  abbrev pub ComesFirst : Bool → Bool → Option Interruption → ℕ → P → S → ℕ → P → S → Type 0
  ComesFirst opened due (Some Cancellation) k p s k' p' s' = (opened ≡ true) × (due ≡ true) × (k' ≡ k) × (p' ≡ p) × (s' ≡ s)
  ComesFirst opened due (Some Request) k p s k' p' s' = (opened ≡ true) × (due ≡ false) × FindsRequest k p s k' p' s'
  ComesFirst opened due None k p s k' p' s' = (due ≡ false) × LooksInVain theory.calls opened p s × (k' ≡ k) × (p' ≡ p) × (s' ≡ s)
