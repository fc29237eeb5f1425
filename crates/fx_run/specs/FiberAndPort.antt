-- A fiber on threads whose run is over, and its port.
use Rattle.std.specs.Prelude.{◌≡◌, ℕ, true, Option, Some, None, List, [], slice_get}
use Rattle.fx_term.specs.declared.node.Node.{Node}
use Rattle.fx_fiber.specs.Fiber.{FiberView, IsLawful}
use Rattle.fx_fiber.specs.Bare.{BareView, bare_of, reached}
use Rattle.fx_word.specs.Words.{WordsId}
use Rattle.fx_queue.specs.declared.entry.Entry.{Entry}
use Rattle.fx_queue.specs.Entry.{new_entry}
use Rattle.fx_queue.specs.Queues.{QueueId, HeldPass}
use Rattle.fx_port.specs.PortView.{PortView, IsOfRun, beginning_in}
use Rattle.fx_port.specs.ThreadCalls.{ThreadAgrees}

-- the fiber without its port
abbrev pub without_port : List Node → FiberView PortView → BareView
without_port nodes f = bare_of nodes f.port.words.own.id f

-- what a pass knows of its fiber; where there is no such queue, the fiber of that number did nothing there
abbrev pub entry_by : ℕ → Option HeldPass → Entry
entry_by id None = new_entry id 0 0 []
entry_by id (Some s) = s.view.own

-- what the port knows of its fiber at queue q
abbrev pub entry_at : ℕ → PortView → Entry
entry_at q p = entry_by p.words.own.id (slice_get p.passes q)

-- the fiber and the port of a run of this code over these words and queues: the port knows exactly what the fiber did
pub record FiberAndPort (nodes : List Node) (words : WordsId) (queues : List QueueId) : Type 0 where
  pub bare : BareView
  pub port : PortView
  pub code : bare.nodes ≡ nodes
  pub number : bare.id ≡ port.words.own.id
  pub of_run : IsOfRun words queues (λ f. true) port
  pub lawful : IsLawful bare.nodes (beginning_in bare.nodes port.words.own.begin) (ThreadAgrees port) bare.trace bare.stamps bare.counts (reached bare)
