-- A seat of the words, and a pass of a queue, that have taken in those of other fibers.
use Rattle.std.specs.Prelude.{◌≡◌, ◌↔◌, ℕ, Bool, true, Some, List, length, map, slice_get}
use Rattle.fx_term.specs.Lists.{Among}
use Rattle.fx_word.specs.declared.seat_view.SeatView.{SeatView}
use Rattle.fx_word.specs.SeatView as seat
use Rattle.fx_queue.specs.declared.pass_view.PassView.{PassView}
use Rattle.fx_queue.specs.PassView as queue
use Rattle.fx_term.specs.declared.node.Node.{Node}
use Rattle.fx_word.specs.Words as word
use Rattle.fx_queue.specs.Queues.{QueueId, HeldPass}
use Rattle.fx_port.specs.Marks.{is_marked}
use Rattle.fx_port.specs.Rows.{IsRowOf}
use Rattle.fx_run.specs.FiberAndPort.{FiberAndPort, entry_at}
use Rattle.fx_run.specs.RanFiber.{RanFiber}
use Rattle.fx_run.specs.declared.gathered.Gathered.{Gathered}

-- these are what the fibers had, and nothing else
pub record AreGathered {A B : Type 0} (had : A → B) (ps : List A) (gathered : List B) : Type 0 where
  pub there : (p : A) → Among p ps → Among (had p) gathered
  pub back : (x : B) → Among x gathered → (p : A) × Among p ps × (x ≡ had p)

-- the seat has the entries of these fibers, and no other
abbrev pub AreEntries : List RanFiber → SeatView → Type 0
AreEntries ps v = AreGathered (λ (p : RanFiber). p.words) ps (seat.entries v)

-- the pass has of queue q the entries of these fibers, and no other
abbrev pub ArePasses : ℕ → List RanFiber → PassView → Type 0
ArePasses q ps v = AreGathered (λ (p : RanFiber). p.passes q) ps (queue.entries v)

-- this is what fibers left that were parted from their ports: they, what the ports had of the words and of each queue, gathered by those of the main fiber,
-- and a mark for each number that a port noted
pub record IsGathered (nodes : List Node) (words : word.WordsId) (queues : List QueueId) (g : Gathered) : Type 0 where
  pub fibers : List (FiberAndPort nodes words queues)
  pub bares : map (λ (a : FiberAndPort nodes words queues). a.bare) fibers ≡ g.bares.items
  pub seat_of : word.IsOf g.seat words
  pub main : g.seat.view.own.id ≡ 0
  pub entries : AreGathered (λ (a : FiberAndPort nodes words queues). a.port.words.own) fibers (seat.entries g.seat.view)
  pub row : IsRowOf queues g.passes
  pub mains : (q : ℕ) (s : HeldPass) → slice_get g.passes q ≡ Some s → s.view.own.id ≡ 0
  pub passes : (q : ℕ) (s : HeldPass) → slice_get g.passes q ≡ Some s
      → AreGathered (λ (a : FiberAndPort nodes words queues). entry_at q a.port) fibers (queue.entries s.view)
  pub marks : length g.noted ≡ words.fibers
  pub noted : (f : ℕ) → (is_marked g.noted f ≡ true) ↔ ((a : FiberAndPort nodes words queues) × Among a fibers × (is_marked a.port.noted f ≡ true))

-- each number that is marked may be named
abbrev pub AreAllowed : (ℕ → Bool) → List Bool → Type 0
AreAllowed may marks = (f : ℕ) → is_marked marks f ≡ true → may f ≡ true
