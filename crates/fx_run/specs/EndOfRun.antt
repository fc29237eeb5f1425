-- All that a run knows when it answers with a report.
use Rattle.std.specs.Prelude.{◌≡◌, ℕ, ◌<◌, ◌≤◌, Bool, true, Some, List, [], length, slice_index_or, Contains}
use Rattle.std.specs.List.Sorted.{IsStrictlyIncreasing}
use Rattle.fx_term.specs.declared.node.Node.{Node}
use Rattle.fx_term.specs.declared.item.Item.{Item}
use Rattle.fx_term.specs.Meaning.{root_term}
use Rattle.fx_term.specs.Script.{ScriptView, total}
use Rattle.fx_model.specs.Report.{ReportView, capacity_of}
use Rattle.fx_word.specs.declared.seat_view.SeatView.{SeatView}
use Rattle.fx_word.specs.SeatView.{IsSettled}
use Rattle.fx_queue.specs.declared.pass_view.PassView.{PassView}
use Rattle.fx_queue.specs.Told.{IsRest}
use Rattle.fx_run.specs.RanFiber.{RanFiber, bares_of, ran_at}
use Rattle.fx_run.specs.Reported.{RanCode, AreAscending, report_of, IsReported}
use Rattle.fx_run.specs.Gathered.{AreEntries, ArePasses}

-- the numbers noted from outside rise, and each may be named
pub record AreNamed (s : ScriptView) (may : ℕ → Bool) (outside : List ℕ) : Type 0 where
  pub ascending : IsStrictlyIncreasing outside
  pub named : (f : ℕ) → Contains outside f → (f < total s) × (may f ≡ true)

-- each number that a port noted is among those
abbrev pub AreNoted : List RanFiber → List ℕ → Type 0
AreNoted ps outside = (g : ℕ) (p : RanFiber) → ran_at ps g ≡ Some p → (f : ℕ) → p.noted f ≡ true → Contains outside f

-- the words were closed with the entries of all these fibers
pub record WordsEnd (ps : List RanFiber) : Type 0 where
  pub view : SeatView
  pub gathered : AreEntries ps view
  pub settled : IsSettled view

-- queue q was closed with the passes of all these fibers, and this was left
pub record QueueEnd (q capacity : ℕ) (ps : List RanFiber) (left : List Item) : Type 0 where
  pub view : PassView
  pub sized : view.cap ≡ capacity
  pub gathered : ArePasses q ps view
  pub rest : IsRest view left

-- no fiber did anything to queue q
abbrev pub IsUntouched : ℕ → List RanFiber → Type 0
IsUntouched q ps = (f : ℕ) (p : RanFiber) → ran_at ps f ≡ Some p → (p.passes q).acts ≡ []

-- the fibers of a script's run were parted from their ports, what these had was gathered and closed, and this report was answered
pub record EndsWithReport (s : ScriptView) (may_be_requested : ℕ → Bool) (answer : ReportView) : Type 0 where
  pub nodes : List Node
  pub fibers : List RanFiber
  pub left : List (List Item)
  pub outside : List ℕ
  pub late : ℕ
  pub term : s.term ≡ root_term nodes
  pub ran : RanCode nodes (bares_of fibers)
  pub ascending : AreAscending (bares_of fibers)
  pub noted : AreNoted fibers outside
  pub named : AreNamed s may_be_requested outside
  pub words : WordsEnd fibers
  pub left_by_queue : length left ≡ length s.capacities
  pub queues : (q : ℕ) → q < length s.capacities → QueueEnd q (capacity_of s q) fibers (slice_index_or left q [])
  pub undeclared : (q : ℕ) → length s.capacities ≤ q → IsUntouched q fibers
  pub answered : IsReported s (bares_of fibers) (report_of (bares_of fibers) left outside late) answer
