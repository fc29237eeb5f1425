-- When the words' entry of a fiber agrees with its deeds, and its stamps with their numbers.
use Rattle.std.specs.Prelude.{◌≡◌, ◌↔◌, ℕ, ◌<◌, Bool, true, Some, List, length, ◌⊎◌}
use Rattle.fx_term.specs.Lists.{Among}
use Rattle.fx_term.specs.declared.begin.Begin.{Begin}
use Rattle.fx_term.specs.declared.outcome.Outcome.{Outcome}
use Rattle.fx_fiber.specs.Deed.{Deed, Started, Requested, Saw, FoundEnded, Ended}
use Rattle.fx_fiber.specs.StampedDeed.{StampedDeed, stamped_deed}
use Rattle.fx_word.specs.declared.entry.Entry.{Entry}
use Rattle.fx_port.specs.Marks.{is_marked}

-- exactly the deeds of the fiber are in its entry, where `noted` has a mark for each number that was requested from outside
pub record WordsAgree (e : Entry) (noted : List Bool) (deeds : List Deed) : Type 0 where
  -- it split off those that it started, as they began
  pub started : (f : ℕ) (b : Begin) → Among (f, b) e.parts ↔ Among (Started f b) deeds
  -- it asked for those that it requested, where there are such fibers, and for those that were noted
  pub asked : (f : ℕ) → Among f e.asked ↔ (((f < length noted) × Among (Requested f) deeds) ⊎ (is_marked noted f ≡ true))
  pub saw : (e.seen ≡ true) ↔ Among Saw deeds
  -- it learnt the outcomes that it found
  pub found : (f : ℕ) (o : Outcome) → Among (f, o) e.learnt ↔ Among (FoundEnded f o) deeds
  pub ended : (o : Outcome) → (e.ended ≡ Some o) ↔ Among (Ended o) deeds

-- the stamps in the entry are numbers of deeds
pub record WordsStampsAgree (e : Entry) (noted : List Bool) (deeds : List StampedDeed) : Type 0 where
  -- a fiber that was started began with the stamp of its start
  pub started : (f t : ℕ) (b : Begin) → Among (stamped_deed (Started f b) t) deeds → b.stamp ≡ t
  -- each stamp that it asked with is that of a request, or the 0 of one that was noted
  pub asked : (f t : ℕ) → Among (f, t) e.asked_with → Among (stamped_deed (Requested f) t) deeds ⊎ ((is_marked noted f ≡ true) × (t ≡ 0))
  -- what it saw, found and told of ends are the stamps that it loaded, learnt and stored
  pub saw : (t : ℕ) → Among (stamped_deed Saw t) deeds → Among t e.loaded
  pub found : (f t : ℕ) (o : Outcome) → Among (stamped_deed (FoundEnded f o) t) deeds → Among (f, t) e.learnt_stamps
  pub ended : (t : ℕ) (o : Outcome) → Among (stamped_deed (Ended o) t) deeds → e.stored_stamp ≡ Some t
