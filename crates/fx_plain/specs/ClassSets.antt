-- A list of classes by fiber number, and the sets of numbers that stand for it.
use Rattle.std.specs.Prelude.{◌≡◌, ℕ, ◌<◌, ◌==◌, ◌||◌, ◌&&◌, Bool, true, false, if◌then◌else◌, List, length, map, slice_index_or, slice_set, ◌≤◌}
use Rattle.std.specs.Prelude.{Option, MatchOption}
use Rattle.fx_model.specs.declared.source.Source.TheVariants.{Room, Element}
use Rattle.fx_plain.specs.declared.class.Class.{Class}
use Rattle.fx_plain.specs.declared.class.Class.TheVariants.{Unstarted, Able, Waits, Over}
use Rattle.fx_plain.specs.Classes.{class_requested, class_at_end}
use Rattle.fx_plain.specs.NumberSet.{is_member, is_member_of}
use Rattle.fx_plain.specs.PlainQueue.{QueueView, has_room_in, has_element_in}
use Rattle.fx_term.specs.Maps.{with_at}

-- what classes are seen as: the class of each fiber, and how many queues have sets
pub record ClassesView : Type 0 where
  pub of : List Class
  pub queues : ℕ

-- the class of that number; what is past the list has not started
abbrev pub class_at : List Class → ℕ → Class
class_at classes f = slice_index_or classes f Unstarted

-- the classes after a request for fiber f, and at its end
abbrev pub with_request : ℕ → List Class → List Class
with_request f classes = slice_set classes f (class_requested (class_at classes f))

abbrev pub with_end : ℕ → List Class → List Class
with_end f classes = slice_set (map (class_at_end f) classes) f Over

-- a set that is kept: those who are able, and by queue those who wait for room in it, and for an element of it
pub data Kind : Type 0 where
  AreAble : Kind
  ForRoom : ℕ → Kind
  ForElement : ℕ → Kind

-- the test of that set
abbrev pub is_able : Class → Bool
is_able Able = true
is_able _ = false

abbrev pub waits_for_room : ℕ → Class → Bool
waits_for_room q (Waits (Room r)) = r == q
waits_for_room q _ = false

abbrev pub waits_for_element : ℕ → Class → Bool
waits_for_element q (Waits (Element r)) = r == q
waits_for_element q _ = false

abbrev pub passes : Kind → Class → Bool
passes AreAble k = is_able k
passes (ForRoom q) k = waits_for_room q k
passes (ForElement q) k = waits_for_element q k

-- it waits at the queue of that number, which is this one, for room, and that has some; or for an element, and that has one; or for either
abbrev pub waits_for_room_there : ℕ → QueueView → Class → Bool
waits_for_room_there q own k = has_room_in own && waits_for_room q k

abbrev pub waits_for_element_there : ℕ → QueueView → Class → Bool
waits_for_element_there q own k = has_element_in own && waits_for_element q k

abbrev pub waits_there : ℕ → QueueView → Class → Bool
waits_there q own k = waits_for_room_there q own k || waits_for_element_there q own k

-- the sets as they are kept, each by its words
pub record SetsView : Type 0 where
  pub able : List ℕ
  pub for_room : List (List ℕ)
  pub for_element : List (List ℕ)

-- the number is in the set of that kind
abbrev pub members : SetsView → Kind → ℕ → Bool
members sets AreAble f = is_member sets.able f
members sets (ForRoom q) f = is_member_of sets.for_room q f
members sets (ForElement q) f = is_member_of sets.for_element q f

-- nobody waits at the queue
abbrev pub NobodyWaitsAt : List (List ℕ) → List (List ℕ) → ℕ → Type 0
NobodyWaitsAt for_room for_element q = (f : ℕ) → (is_member_of for_room q f ≡ false) × (is_member_of for_element q f ≡ false)

-- of the queues that have sets, somebody waits at none but these
abbrev pub AreWaitedAt : (ℕ → Bool) → List (List ℕ) → List (List ℕ) → Type 0
AreWaitedAt waited for_room for_element = (q : ℕ) → q < length for_room → waited q ≡ false → NobodyWaitsAt for_room for_element q

-- there is a set of that kind, where so many queues have sets
abbrev pub IsKept : ℕ → Kind → Type 0
IsKept queues (ForRoom q) = q < queues
IsKept queues (ForElement q) = q < queues
IsKept queues _ = Unit {0}

-- the sets that a class is in have that number, or have it not; the others are as they were
pub record AreWith (b : Bool) (f : ℕ) (k : Class) (old new : SetsView) : Type 0 where
  pub count : length new.for_room ≡ length old.for_room
  pub are : (kind : Kind) → IsKept (length old.for_room) kind → (g : ℕ)
      → members new kind g ≡ (if passes kind k then with_at f b (members old kind) g else members old kind g)

-- the set has the numbers whose class passes that test, and no others
abbrev pub IsSetOf : (Class → Bool) → List Class → (ℕ → Bool) → Type 0
IsSetOf test classes set = (f : ℕ) → set f ≡ test (class_at classes f)

-- the sets that are kept beside the classes; who waits at a queue without sets is in none
abbrev pub AreSets : List Class → SetsView → Type 0
AreSets classes sets = (kind : Kind) → IsKept (length sets.for_room) kind → IsSetOf (passes kind) classes (members sets kind)

-- those who wait at this queue for room, if it has some, or for an element, if it has one
abbrev pub is_ready_there : SetsView → ℕ → QueueView → ℕ → Bool
is_ready_there sets q own f = (has_room_in own && members sets (ForRoom q) f) || (has_element_in own && members sets (ForElement q) f)

-- from this queue on, up to the other, nobody waits at one that has sets
abbrev pub NobodyWaitsBetween : SetsView → ℕ → ℕ → Type 0
NobodyWaitsBetween sets from n = (q : ℕ) → from ≤ q → q < n → q < length sets.for_room → NobodyWaitsAt sets.for_room sets.for_element q

-- from this queue on nobody waits before that one, or at any if it is none
abbrev pub IsNextWaited : SetsView → ℕ → Option ℕ → Type 0
IsNextWaited sets from next =
    MatchOption next (NobodyWaitsBetween sets from (length sets.for_room)) (λ n. (from ≤ n) × NobodyWaitsBetween sets from n)
