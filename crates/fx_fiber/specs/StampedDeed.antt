-- Deeds with numbers: the stamp of the deed's event, or that of the event's cause.
use Rattle.std.specs.Prelude.{◌≡◌, ℕ, List, [], ◌∷◌, map}
use Rattle.fx_term.specs.declared.offered.Offered.{Offered}
use Rattle.fx_term.specs.declared.offered.Offered.TheVariants.{Done, Full}
use Rattle.fx_term.specs.declared.queue_event.QueueEvent.{QueueEvent}
use Rattle.fx_fiber.specs.Deed.{Deed, Started, Saw, Put, Got, FoundFull, FoundEmpty, FoundEnded, queue_deeds}

-- a deed, and its number
pub record StampedDeed : Type 0 where
  pub deed : Deed
  pub number : ℕ

abbrev pub stamped_deed : Deed → ℕ → StampedDeed
stamped_deed d n = record { deed = d; number = n }

abbrev pub deeds_of : List StampedDeed → List Deed
deeds_of ds = map (λ (d : StampedDeed). d.deed) ds

-- The number of a deed, where its event has this stamp and the event's cause that one: what is taken, seen or learnt has the cause's, a refusal has none, and
-- all others have the event's
abbrev pub number_of : Deed → ℕ → ℕ → ℕ
number_of (Got q n) own cause = cause
number_of Saw own cause = cause
number_of (FoundEnded f o) own cause = cause
number_of (FoundFull q) own cause = 0
number_of (FoundEmpty q) own cause = 0
number_of _ own cause = own

-- the number of the deed of an offer with this stamp and this answer
abbrev pub number_of_offer : ℕ → Offered → ℕ
number_of_offer own Done = own
number_of_offer own Full = 0

-- the deeds of an event with this stamp, whose cause has that one
abbrev pub numbered : ℕ → ℕ → List Deed → List StampedDeed
numbered own cause ds = map (λ (d : Deed). stamped_deed d (number_of d own cause)) ds

-- a put and a get with this number in place of the value
abbrev pub with_number : Deed → ℕ → Deed
with_number (Put q v) n = Put q n
with_number (Got q v) n = Got q n
with_number d n = d

-- what the deeds are to queue q, with their numbers in place of values
abbrev pub queue_numbers : ℕ → ℕ → List StampedDeed → List QueueEvent
queue_numbers q f ds = queue_deeds q f (map (λ (d : StampedDeed). with_number d.deed d.number) ds)

-- a fiber that is started begins with the stamp of its start
abbrev pub BeginsWith : Deed → ℕ → Type 0
BeginsWith (Started f b) own = b.stamp ≡ own
BeginsWith _ own = Unit {0}

pub record IsNumbered (own cause : ℕ) (d : StampedDeed) : Type 0 where
  pub is : d.number ≡ number_of d.deed own cause
  pub begins : BeginsWith d.deed own

abbrev pub AreNumbered : ℕ → ℕ → List StampedDeed → Type 0
AreNumbered own cause [] = Unit {0}
AreNumbered own cause (d ∷ ds) = IsNumbered own cause d × AreNumbered own cause ds
