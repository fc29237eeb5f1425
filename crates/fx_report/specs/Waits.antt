-- The lines for blocked fibers, as bytes. They are for people, and each says where its fiber stands, and what it waits for.
use Rattle.std.specs.Prelude.{ℕ, ◌<◌, not, Option, Some, None, List, [], ◌++◌, codes, map, slice_get}
use Rattle.std.specs.List.{filter, flat_map}
use Rattle.fx_term.specs.declared.node.NodeId.{NodeId}
use Rattle.fx_text.specs.declared.position.Position.{Position}
use Rattle.fx_model.specs.declared.source.Source.{Source}
use Rattle.fx_model.specs.declared.source.Source.TheVariants.{Nothing, Outcome, Either, Room, Element}
use Rattle.fx_model.specs.Report.{FiberReportView, ReportView}
use Rattle.fx_report.specs.declared.wait.Wait.{Wait}
use Rattle.fx_report.specs.declared.blocked.Blocked.{Blocked}
use Rattle.fx_report.specs.Text.{line_end, number, queue_name}

-- the numbers of the fibers that a report has as blocked, in its order
abbrev pub blocked_in : ReportView → List ℕ
blocked_in r = map (λ (x : FiberReportView). x.id) (filter (λ (x : FiberReportView). not x.has_ended) r.fibers)

-- the words for what is waited for, where the script's queues have these names
abbrev pub source_text : List (List ℕ) → Source → List ℕ
source_text names Nothing = codes "nothing that comes"
source_text names (Outcome f) = codes "fiber" ++ number f ++ codes " to end"
source_text names (Either f g) = codes "fiber" ++ number f ++ codes " or" ++ number g ++ codes " to end"
source_text names (Room q) = codes "room in queue" ++ queue_name names q
source_text names (Element q) = codes "an element of queue" ++ queue_name names q

-- where a form stands, if that is known
abbrev pub position_text : Option Position → List ℕ
position_text None = []
position_text (Some p) = codes " (line" ++ number p.line ++ codes ", column" ++ number p.column ++ codes ")"

abbrev pub wait_line : List (List ℕ) → Option Position → Wait → List ℕ
wait_line names p w = codes "fiber" ++ number w.fiber ++ position_text p ++ codes " waits for " ++ source_text names w.source ++ line_end

-- the position of a node, where the nodes have these
abbrev pub position_of : List Position → Option NodeId → Option Position
position_of positions None = None
position_of positions (Some id) = slice_get positions id.0

-- of a fiber that is blocked
abbrev pub blocked_line : List (List ℕ) → List Position → Blocked → List ℕ
blocked_line names positions b = wait_line names (position_of positions b.node) b.wait

-- a line a fiber, in this order
abbrev pub blocked_text : List (List ℕ) → List Position → List Blocked → List ℕ
blocked_text names positions blocked = flat_map (blocked_line names positions) blocked

-- what each of them waits for
abbrev pub waits_in : List Blocked → List Wait
waits_in blocked = map (λ (b : Blocked). b.wait) blocked

-- what is waited for is at no queue but the first so many
abbrev pub IsAtQueueBelow : ℕ → Source → Type 0
IsAtQueueBelow queues (Room q) = q < queues
IsAtQueueBelow queues (Element q) = q < queues
IsAtQueueBelow queues _ = Unit {0}

abbrev pub WaitsAtQueueBelow : ℕ → Wait → Type 0
WaitsAtQueueBelow queues w = IsAtQueueBelow queues w.source

abbrev pub IsBlockedAtQueueBelow : ℕ → Blocked → Type 0
IsBlockedAtQueueBelow queues b = WaitsAtQueueBelow queues b.wait
