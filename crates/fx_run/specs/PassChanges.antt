-- How calls of a port change what the queues know of its fiber.
use Rattle.std.specs.Prelude.{◌≡◌, ◌≢◌, ℕ, [], ◌∷◌, ◌++◌, ◌⊎◌}
use Rattle.fx_term.specs.Lists.{Among}
use Rattle.fx_term.specs.declared.queue_event.QueueEvent.{QueueEvent}
use Rattle.fx_queue.specs.declared.entry.Entry.{Entry}

-- a pass of a fiber that has done nothing
pub record IsNewPass (f : ℕ) (e : Entry) : Type 0 where
  pub number : e.id ≡ f
  pub acts : e.acts ≡ []
  pub stamps : e.stamps ≡ []
  pub parts : e.parts ≡ []

-- the same fiber's pass with the same events, split for no other fiber than g since
pub record IsSplitFor (g : ℕ) (old new : Entry) : Type 0 where
  pub number : new.id ≡ old.id
  pub acts : new.acts ≡ old.acts
  pub stamps : new.stamps ≡ old.stamps
  pub parts : (i : ℕ) → Among i new.parts → Among i old.parts ⊎ (i ≡ g)

-- the same fiber's pass with one more event; the second one is the same with its stamp
pub record HasOneMore (a b : QueueEvent) (old new : Entry) : Type 0 where
  pub number : new.id ≡ old.id
  pub acts : new.acts ≡ old.acts ++ a ∷ []
  pub stamps : new.stamps ≡ old.stamps ++ b ∷ []
  pub parts : new.parts ≡ old.parts

-- each of its passes was split for the fiber g, or is as it was
abbrev pub AreSplitFor : ℕ → (ℕ → Entry) → (ℕ → Entry) → Type 0
AreSplitFor g old new = (q : ℕ) → IsSplitFor g (old q) (new q)

-- its pass of queue q has one more event, and the others are as they were
pub record AddsEvent (q : ℕ) (a b : QueueEvent) (old new : ℕ → Entry) : Type 0 where
  pub here : HasOneMore a b (old q) (new q)
  pub others : (r : ℕ) → r ≢ q → new r ≡ old r
