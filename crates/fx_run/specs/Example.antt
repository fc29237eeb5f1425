-- A run that has ended, by which the premises of the laws are seen to be met: fiber 0 puts 3 into a queue, starts fiber 1, cancels it, and gives 7; fiber 1
-- takes the 3, sees the request, and is canceled.
use Rattle.std.specs.Prelude.{ℕ, true, Some, None, List, [], ◌∷◌}
use Rattle.fx_term.specs.declared.node.Arg.TheVariants.{Number}
use Rattle.fx_term.specs.declared.node.NodeId.{NodeId}
use Rattle.fx_term.specs.declared.node.Node.{Node}
use Rattle.fx_term.specs.declared.node.Node.TheVariants as node
use Rattle.fx_term.specs.declared.outcome.Outcome.TheVariants.{Succeeded, Canceled}
use Rattle.fx_term.specs.declared.event.Event.TheVariants as event
use Rattle.fx_term.specs.Meaning.{root_term}
use Rattle.fx_term.specs.Script.{ScriptView}
use Rattle.fx_model.specs.Report.{ReportView}

abbrev pub node_id : ℕ → NodeId
node_id n = record { 0 = n }

abbrev pub example_nodes : List Node
example_nodes =
    node.Take 0
    ∷ node.Never
    ∷ node.Let None (node_id 0) (node_id 1)
    ∷ node.Cancel 0
    ∷ node.Pure (Number 7)
    ∷ node.Let None (node_id 3) (node_id 4)
    ∷ node.Start 0 (node_id 2) (node_id 5)
    ∷ node.Offer 0 (Number 3)
    ∷ node.Let None (node_id 7) (node_id 6)
    ∷ []

-- with one queue, of capacity 1
abbrev pub example_script : ScriptView
example_script = record { term = root_term example_nodes; capacities = 1 ∷ [] }

abbrev pub example_report : ReportView
example_report = record {
  fibers =
      record {
        id = 0;
        parent = None;
        has_ended = true;
        trace = event.Put 0 3 ∷ event.Start 1 ∷ event.Request 1 ∷ event.Awaited 1 ∷ event.Ended (Succeeded 7) ∷ [];
        stamps = 1 ∷ 2 ∷ 3 ∷ 7 ∷ 8 ∷ [];
      }
      ∷ record {
        id = 1;
        parent = Some 0;
        has_ended = true;
        trace = event.Got 0 3 ∷ event.Seen ∷ event.Cancelled ∷ event.Ended Canceled ∷ [];
        stamps = 3 ∷ 4 ∷ 5 ∷ 6 ∷ [];
      }
      ∷ [];
  left = [] ∷ [];
  outside = [];
  late = 0;
}
