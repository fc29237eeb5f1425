-- The port of a fiber on threads, as contracts see it.
use Rattle.std.specs.Prelude.{◌≡◌, ℕ, ◌≤◌, ◌<◌, Bool, true, false, List, [], length, map, replicate, Some, None, Option, slice_get}
use Rattle.std.specs.Option.{is_some}
use Rattle.fx_term.specs.declared.node.Node.{Node}
use Rattle.fx_term.specs.declared.begin.Begin.{Begin}
use Rattle.fx_word.specs.declared.entry.Entry.{Entry}
use Rattle.fx_word.specs.declared.seat_view.SeatView.{SeatView}
use Rattle.fx_word.specs.SeatView.{with_own}
use Rattle.fx_word.specs.SeatView as seat
use Rattle.fx_word.specs.Words.{WordsId}
use Rattle.fx_term.specs.Queue.{cut}
use Rattle.fx_queue.specs.declared.pass_view.PassView.{PassView}
use Rattle.fx_queue.specs.Queues.{QueueId, HeldPass, IsOf, kept_pass, given_pass}
use Rattle.fx_model.specs.Origin.{main_begin_of}
use Rattle.fx_fiber.specs.PortFacts.{Facts}
use Rattle.fx_port.specs.Rows.{puts_in}
use Rattle.fx_port.specs.Marks.{is_marked}

-- what its seat of the words knows, what its pass of each queue knows, and which numbers it noted that were requested from outside
pub record PortView : Type 0 where
  pub words : SeatView
  pub passes : List HeldPass
  pub noted : List Bool

-- what the fiber began with: the seat of the main fiber has nothing of it
abbrev pub beginning_in : List Node → Option (ℕ × Begin) → Begin
beginning_in nodes None = main_begin_of nodes
beginning_in nodes (Some x) = x.1

-- whose port it is, and how far its fiber has come by it
abbrev pub facts_of : List Node → PortView → Facts
facts_of nodes p = record {
  number = p.words.own.id;
  beginning = beginning_in nodes p.words.own.begin;
  range = record { next = p.words.own.next; end = p.words.own.end };
  has_finished = is_some p.words.own.ended;
  puts = puts_in p.passes;
}

-- the port with another entry of its own in the words
abbrev pub with_entry : PortView → Entry → PortView
with_entry p e = record p { words = with_own p.words e }

-- the port after a start, and that of the child
abbrev pub kept_port : Begin → PortView → PortView
kept_port b p = record p { words = seat.kept_part b p.words; passes = map (kept_pass b.end) p.passes }

abbrev pub given_port : ℕ → Begin → PortView → PortView
given_port fibers b p = record {
  words = seat.given_part b p.words;
  passes = map (given_pass b.end) p.passes;
  noted = replicate fibers false;
}

-- the port of the main fiber of so many fibers, before its first call
abbrev pub first_port : ℕ → List HeldPass → PortView
first_port fibers passes = record { words = seat.first_view fibers; passes = passes; noted = replicate fibers false }

-- of what a pass has seen, its fiber did what it did, and those that it may still start did nothing
pub record IsAware (v : PassView) : Type 0 where
  pub own : cut v.own.id v.own.seen ≡ v.own.acts
  pub ahead : (f : ℕ) → v.own.next ≤ f → f < v.own.end → cut f v.own.seen ≡ []

-- each pass is of the queue at its place, for as many fibers, of this fiber and with its range, has taken in none, and is aware
pub record AreOf (number next end : ℕ) (queues : List QueueId) (passes : List HeldPass) : Type 0 where
  pub as_many : length passes ≡ length queues
  pub each : (q : ℕ) (s : HeldPass) (i : QueueId) → slice_get passes q ≡ Some s → slice_get queues q ≡ Some i
      → IsOf s i × (s.view.own.id ≡ number) × (s.view.own.next ≡ next) × (s.view.own.end ≡ end) × (s.view.taken ≡ [])
      × (s.view.fibers ≡ i.fibers)
  pub aware : (q : ℕ) (s : HeldPass) → slice_get passes q ≡ Some s → IsAware s.view

-- the port is one of a run over these words and queues, in which these numbers may be requested from outside
pub record IsOfRun (words : WordsId) (queues : List QueueId) (may : ℕ → Bool) (p : PortView) : Type 0 where
  pub alike : (q : ℕ) (i : QueueId) → slice_get queues q ≡ Some i → i.fibers ≡ words.fibers
  pub passes : AreOf p.words.own.id p.words.own.next p.words.own.end queues p.passes
  pub here : p.words.own.id < words.fibers
  pub within : p.words.own.end ≤ words.fibers
  pub alone : p.words.taken ≡ []
  pub marks : length p.noted ≡ words.fibers
  pub allowed : (f : ℕ) → is_marked p.noted f ≡ true → may f ≡ true

-- of no run
abbrev pub no_words : WordsId
no_words = record { table = record { words = 0; slots = 0; views_name = 0; atom = 0; block = 0; offset = 0; slot_names = [] }; fibers = 0 }
