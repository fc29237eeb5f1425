-- The history of a bounded queue, and the offers of a fiber that were accepted.
use Rattle.std.specs.Prelude.{◌≡◌, ℕ, ◌+◌, ◌==◌, nat_lt, if◌then◌else◌, Option, Some, None, List, [], ◌∷◌, ◌++◌, length, map}
use Rattle.std.specs.List.{filter, filter_map}
use Rattle.fx_term.specs.declared.event.Event.{Event}
use Rattle.fx_term.specs.declared.event.Event.TheVariants as event
use Rattle.fx_term.specs.Element.{Element}
use Rattle.fx_term.specs.declared.queue_event.QueueEvent.{QueueEvent}
use Rattle.fx_term.specs.declared.queue_event.QueueEvent.TheVariants.{Put, Got}

abbrev pub fiber_of : QueueEvent → ℕ
fiber_of (Put f n) = f
fiber_of (Got f n) = f

-- the events of one fiber
abbrev pub cut : ℕ → List QueueEvent → List QueueEvent
cut f h = filter (λ e. fiber_of e == f) h

-- how many of the events are puts
abbrev pub puts : List QueueEvent → ℕ
puts [] = 0
puts (Put f n ∷ h) = puts h + 1
puts (Got f n ∷ h) = puts h

-- an element that was taken, and the fiber that took it
pub record Taking : Type 0 where
  pub taker : ℕ
  pub item : Element

-- a queue as its history leaves it: what was put and what was taken, each in order, and what it holds, from front to back
pub record QueueState : Type 0 where
  pub put : List Element
  pub taken : List Taking
  pub items : List Element

abbrev pub empty_queue : QueueState
empty_queue = record { put = []; taken = []; items = [] }

-- the elements that one fiber put
abbrev pub items_of : ℕ → List Element → List Element
items_of f xs = filter (λ (x : Element). x.fiber == f) xs

-- what a fiber puts next: its nth is the number of its earlier puts
abbrev pub next_item : QueueState → ℕ → ℕ → Element
next_item s f n = record { fiber = f; nth = length (items_of f s.put); value = n }

-- the queue with this element at the back
abbrev pub with_put : QueueState → Element → QueueState
with_put s x = record s { put = s.put ++ x ∷ []; items = s.items ++ x ∷ [] }

-- the queue without this front, which that fiber took, and with this rest
abbrev pub with_taken : QueueState → ℕ → Element → List Element → QueueState
with_taken s f x rest = record s { taken = s.taken ++ record { taker = f; item = x } ∷ []; items = rest }

-- a fiber takes the front of this list, if it has this value
abbrev pub after_got : QueueState → ℕ → ℕ → List Element → Option QueueState
after_got s f n [] = None
after_got s f n (x ∷ rest) = if x.value == n then Some (with_taken s f x rest) else None

-- the queue after one more event, if that is legal: a put finds room, and adds at the back what is its fiber's next; a get takes the front, which has its value
abbrev pub after_event : ℕ → Option QueueState → QueueEvent → Option QueueState
after_event capacity None e = None
after_event capacity (Some s) (Put f n) = if nat_lt (length s.items) capacity then Some (with_put s (next_item s f n)) else None
after_event capacity (Some s) (Got f n) = after_got s f n s.items

abbrev pub replayed_from : ℕ → Option QueueState → List QueueEvent → Option QueueState
replayed_from capacity s [] = s
replayed_from capacity s (e ∷ h) = replayed_from capacity (after_event capacity s e) h

-- the queue at the end of a history, if that is legal: it replays on a plain list that is empty at first
abbrev pub replayed : ℕ → List QueueEvent → Option QueueState
replayed capacity h = replayed_from capacity (Some empty_queue) h

-- the history is legal, and this is its rest
pub record Leaves (capacity : ℕ) (h : List QueueEvent) (rest : List Element) : Type 0 where
  pub last : QueueState
  pub legal : replayed capacity h ≡ Some last
  pub rest_is : last.items ≡ rest

-- the elements that were taken, in order
abbrev pub items_taken : QueueState → List Element
items_taken s = map (λ (t : Taking). t.item) s.taken

-- what an event of fiber f is to queue q
abbrev pub queue_event : ℕ → ℕ → Event → Option QueueEvent
queue_event q f (event.Put r n) = if r == q then Some (Put f n) else None
queue_event q f (event.Got r n) = if r == q then Some (Got f n) else None
queue_event q f _ = None

-- the puts and gets on queue q in a trace of fiber f
abbrev pub queue_events : ℕ → ℕ → List Event → List QueueEvent
queue_events q f es = filter_map (queue_event q f) es

abbrev pub value_put : ℕ → Event → Option ℕ
value_put q (event.Put r n) = if r == q then Some n else None
value_put q _ = None

-- the values that a trace puts into queue q, in order
abbrev pub values_put : ℕ → List Event → List ℕ
values_put q es = filter_map (value_put q) es

-- values as elements of fiber f, whose nth count from here on
abbrev pub numbered : ℕ → ℕ → List ℕ → List Element
numbered f nth [] = []
numbered f nth (n ∷ ns) = record { fiber = f; nth = nth; value = n } ∷ numbered f (nth + 1) ns

-- the accepted offers of fiber f on queue q: what its trace puts there, in order
abbrev pub accepted_offers : ℕ → ℕ → List Event → List Element
accepted_offers q f trace = numbered f 0 (values_put q trace)

-- who did what, without the value
abbrev pub erase_event : QueueEvent → QueueEvent
erase_event (Put f n) = Put f 0
erase_event (Got f n) = Got f 0

-- the same fibers did the same in both, with other values
abbrev pub AreAlike : List QueueEvent → List QueueEvent → Type 0
AreAlike h k = map erase_event h ≡ map erase_event k
