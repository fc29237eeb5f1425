-- Rows of passes, one of each queue.
use Rattle.std.specs.Prelude.{◌≡◌, ℕ, ◌<◌, ◌≤◌, List, [], ◌∷◌, length, sum_by, Option, Some, None, slice_get, slice_set}
use Rattle.crossbeam_queue.specs.Fifo.{Held}
use Rattle.fx_term.specs.Queue.{puts}
use Rattle.fx_term.specs.declared.item.Item.{Item}
use Rattle.fx_term.specs.declared.offered.Offered.{Offered}
use Rattle.fx_term.specs.declared.offered.Offered.TheVariants.{Done, Full}
use Rattle.fx_queue.specs.Told.{DidPut, DidGet, stands, IsRest}
use Rattle.fx_queue.specs.PassView.{first_view}
use Rattle.fx_queue.specs.Queues.{QueueId, HeldPass, IsOf, IsSameFiber, joined_pass}

-- what holds by the answer of an offer
abbrev pub MatchOffered : Offered → Type 0 → Type 0 → Type 0
MatchOffered Done P Q = P
MatchOffered Full P Q = Q

-- each pass is of the queue at its place
abbrev pub EachIsOf : List QueueId → List HeldPass → Type 0
EachIsOf queues passes = (q : ℕ) (s : HeldPass) (i : QueueId) → slice_get passes q ≡ Some s → slice_get queues q ≡ Some i → IsOf s i

-- and each queue has one
pub record IsRowOf (queues : List QueueId) (passes : List HeldPass) : Type 0 where
  pub as_many : length passes ≡ length queues
  pub each : EachIsOf queues passes

-- the range of each pass begins with this number and goes on to the end at least
pub record CanSplit (id end : ℕ) (passes : List HeldPass) : Type 0 where
  pub some : id < end
  pub each : (q : ℕ) (s : HeldPass) → slice_get passes q ≡ Some s → (id ≡ s.view.own.next) × (end ≤ s.view.own.end)

-- each has taken in the other one at its place
abbrev pub joined_row : List HeldPass → List HeldPass → List HeldPass
joined_row [] ts = []
joined_row (s ∷ ss) [] = s ∷ ss
joined_row (s ∷ ss) (t ∷ ts) = joined_pass s t ∷ joined_row ss ts

-- each pass is the first of the queue at its place
pub record AreFirst (fibers : ℕ) (queues : List QueueId) (passes : List HeldPass) : Type 0 where
  pub as_many : length passes ≡ length queues
  pub alike : (q : ℕ) (i : QueueId) → slice_get queues q ≡ Some i → i.fibers ≡ fibers
  pub each : (q : ℕ) (s : HeldPass) (i : QueueId) → slice_get passes q ≡ Some s → slice_get queues q ≡ Some i
      → (s.table ≡ i.table) × (s.view ≡ first_view i.cap fibers)

-- how often a pass has put, and all passes of a row
abbrev pub puts_by : HeldPass → ℕ
puts_by s = puts s.view.own.acts

abbrev pub puts_in : List HeldPass → ℕ
puts_in passes = sum_by puts_by passes

-- the pass of queue q put the value with this stamp, after a history in which the queue had room, and nothing else has changed
pub record PutsInto (passes : List HeldPass) (q value stamp : ℕ) (passes' : List HeldPass) : Type 0 where
  pub pass : HeldPass
  pub pass' : HeldPass
  pub at : slice_get passes q ≡ Some pass
  pub same : IsSameFiber pass pass'
  pub did : DidPut pass.view value stamp pass'.view
  pub is : passes' ≡ slice_set passes q pass'

-- the pass of queue q took this value, which was at the front and was put with this stamp
pub record GetsFrom (passes : List HeldPass) (q value stamp : ℕ) (passes' : List HeldPass) : Type 0 where
  pub pass : HeldPass
  pub pass' : HeldPass
  pub item : Item
  pub at : slice_get passes q ≡ Some pass
  pub same : IsSameFiber pass pass'
  pub did : DidGet pass.view item pass'.view
  pub value_is : item.value ≡ value
  pub stamp_is : item.stamp ≡ stamp
  pub is : passes' ≡ slice_set passes q pass'

-- the queue was full at one moment, or empty, where there is one
abbrev pub FoundFullAt : List HeldPass → ℕ → Type 0
FoundFullAt passes q = (s : HeldPass) → slice_get passes q ≡ Some s → Held s.view.cap (stands s.view)

abbrev pub FoundEmptyAt : List HeldPass → ℕ → Type 0
FoundEmptyAt passes q = (s : HeldPass) → slice_get passes q ≡ Some s → Held 0 (stands s.view)

-- what an offer to queue q does by its answer, and what a take
abbrev pub RowOffers : List HeldPass → ℕ → ℕ → ℕ → Offered → List HeldPass → Type 0
RowOffers passes q value stamp Done passes' = PutsInto passes q value stamp passes'
RowOffers passes q value stamp Full passes' = FoundFullAt passes q × (passes' ≡ passes)

abbrev pub RowTakes : List HeldPass → ℕ → Option (ℕ × ℕ) → List HeldPass → Type 0
RowTakes passes q (Some x) passes' = GetsFrom passes q x.0 x.1 passes'
RowTakes passes q None passes' = FoundEmptyAt passes q × (passes' ≡ passes)

-- what is left in each queue, by the passes that closed them
pub record AreRests (passes : List HeldPass) (left : List (List Item)) : Type 0 where
  pub as_many : length left ≡ length passes
  pub each : (q : ℕ) (s : HeldPass) (items : List Item) → slice_get passes q ≡ Some s → slice_get left q ≡ Some items → IsRest s.view items
