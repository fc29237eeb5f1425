-- A bounded queue on one thread.
use Rattle.std.specs.Prelude.{◌≡◌, ℕ, Bool, nat_lt, Option, Some, None, List, [], ◌∷◌, ◌++◌, length, drop, map, slice_index_or}
use Rattle.fx_term.specs.declared.item.Item.{Item}

-- how many elements it has room for, and those that it has, from front to back
pub record QueueView : Type 0 where
  pub capacity : ℕ
  pub items : List Item

-- the queue with no element
abbrev pub empty_queue : ℕ → QueueView
empty_queue capacity = record { capacity = capacity; items = [] }

-- a queue that there is not has neither room nor an element
abbrev pub no_queue : QueueView
no_queue = empty_queue 0

abbrev pub has_room_in : QueueView → Bool
has_room_in q = nat_lt (length q.items) q.capacity

abbrev pub has_element_in : QueueView → Bool
has_element_in q = nat_lt 0 (length q.items)

-- the queue of that number, of these
abbrev pub queue_at : List QueueView → ℕ → QueueView
queue_at queues q = slice_index_or queues q no_queue

-- which of these have room, and which an element
abbrev pub have_room : List QueueView → ℕ → Bool
have_room queues q = has_room_in (queue_at queues q)

abbrev pub have_element : List QueueView → ℕ → Bool
have_element queues q = has_element_in (queue_at queues q)

-- its front, if it has an element
abbrev pub front_of : QueueView → Option Item
front_of q = first q.items
  where
    first : List Item → Option Item
    first [] = None
    first (x ∷ xs) = Some x

-- the element at the front of these has this value and that stamp
abbrev pub IsFront : ℕ → ℕ → List Item → Type 0
IsFront value stamp [] = ⊥
IsFront value stamp (x ∷ xs) = (x.value ≡ value) × (x.stamp ≡ stamp)

-- the stamps of the puts of these elements
abbrev pub put_stamps : List Item → List ℕ
put_stamps xs = map (λ (x : Item). x.stamp) xs

-- the queue with this element at the back
abbrev pub with_item : Item → QueueView → QueueView
with_item x q = record q { items = q.items ++ x ∷ [] }

-- the queue without its front
abbrev pub without_front : QueueView → QueueView
without_front q = record q { items = drop 1 q.items }
