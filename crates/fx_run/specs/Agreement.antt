-- When a port, by what the words and the queues know of its fiber, agrees with the fiber's deeds.
use Rattle.std.specs.Prelude.{◌≡◌, ℕ, Bool, true, Some, List, ◌⊎◌}
use Rattle.fx_term.specs.Lists.{Among}
use Rattle.fx_term.specs.declared.begin.Begin.{Begin}
use Rattle.fx_term.specs.declared.outcome.Outcome.{Outcome}
use Rattle.fx_fiber.specs.Deed.{Deed, Started, Requested, Saw, FoundEnded, Ended, queue_deeds}
use Rattle.fx_fiber.specs.StampedDeed.{StampedDeed, stamped_deed, deeds_of, queue_numbers}
use Rattle.fx_word.specs.declared.entry.Entry.{Entry}
use Rattle.fx_queue.specs.declared.entry.Entry as pass

-- the words' entry of fiber f, with the numbers that its port noted from outside, agrees with its deeds
pub record WordsAgree (f : ℕ) (e : Entry) (noted : ℕ → Bool) (deeds : List Deed) : Type 0 where
  pub number : e.id ≡ f
  -- what it split off are its starts, and no more
  pub started : (g : ℕ) (b : Begin) → Among (Started g b) deeds → Among (g, b) e.parts
  pub parts : (g : ℕ) (b : Begin) → Among (g, b) e.parts → Among (Started g b) deeds
  -- it asked for no other fibers than it requested, or noted from outside
  pub asked : (g : ℕ) → Among g e.asked → Among (Requested g) deeds ⊎ (noted g ≡ true)
  -- what it saw and found is in the entry
  pub saw : Among Saw deeds → e.seen ≡ true
  pub found : (g : ℕ) (o : Outcome) → Among (FoundEnded g o) deeds → Among (g, o) e.learnt
  -- it ended with nothing but what it told
  pub ended : (o : Outcome) → e.ended ≡ Some o → Among (Ended o) deeds

-- the stamps in the words' entry, with the numbers that the port noted from outside, are those of the deeds
pub record StampsAgree (e : Entry) (noted : ℕ → Bool) (deeds : List StampedDeed) : Type 0 where
  -- each request that it made has the stamp of its event, or 0 where it was noted from outside
  pub asked : (g t : ℕ) → Among (g, t) e.asked_with → Among (stamped_deed (Requested g) t) deeds ⊎ ((noted g ≡ true) × (t ≡ 0))
  -- what it saw, found and told has these stamps
  pub saw : (t : ℕ) → Among (stamped_deed Saw t) deeds → Among t e.loaded
  pub found : (g t : ℕ) (o : Outcome) → Among (stamped_deed (FoundEnded g o) t) deeds → Among (g, t) e.learnt_stamps
  pub ended : (t : ℕ) (o : Outcome) → Among (stamped_deed (Ended o) t) deeds → e.stored_stamp ≡ Some t

-- a queue's entry of fiber f agrees with its deeds: its events are exactly these, in order, and it was split only for fibers that the fiber started
pub record QueueAgrees (q f : ℕ) (e : pass.Entry) (deeds : List Deed) : Type 0 where
  pub number : e.id ≡ f
  pub acts : e.acts ≡ queue_deeds q f deeds
  pub parts : (g : ℕ) → Among g e.parts → (b : Begin) × Among (Started g b) deeds

-- the port of fiber f, with these entries by queue, agrees with the fiber's deeds
pub record PortAgrees (f : ℕ) (words : Entry) (noted : ℕ → Bool) (passes : ℕ → pass.Entry) (deeds : List Deed) : Type 0 where
  pub words_agree : WordsAgree f words noted deeds
  pub queues_agree : (q : ℕ) → QueueAgrees q f (passes q) deeds

-- and with their numbers: a queue's events with stamps in place of values are the deeds there with numbers in place of values
pub record StampedPortAgrees (f : ℕ) (words : Entry) (noted : ℕ → Bool) (passes : ℕ → pass.Entry) (deeds : List StampedDeed) : Type 0 where
  pub plain : PortAgrees f words noted passes (deeds_of deeds)
  pub stamps_agree : StampsAgree words noted deeds
  pub queue_stamps : (q : ℕ) → (passes q).stamps ≡ queue_numbers q f deeds
