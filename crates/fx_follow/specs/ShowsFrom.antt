-- The step of a run that shows an event, and what is told of it.
use Rattle.std.specs.Prelude.{◌≡◌, ℕ, Option, List, [], ◌∷◌, ◌++◌, length}
use Rattle.fx_term.specs.declared.event.Event.{Event}
use Rattle.fx_term.specs.declared.node.Node.{Node}
use Rattle.fx_term.specs.declared.node.NodeId.{NodeId}
use Rattle.fx_model.specs.Row.{Counts, Label}
use Rattle.fx_model.specs.Run.{Leads, events}
use Rattle.fx_model.specs.Step.{Progress, Step}
use Rattle.fx_follow.specs.Trails.{IsStandAt, LeadsTelling}
use Rattle.fx_follow.specs.declared.stand.Stand.{Stand}

-- From these counts, this progress and this last node steps with these labels lead to those counts and that progress, and one of them shows event i, which is
-- this: it is made from where the fiber has shown so many events, and that is told of it, where the fiber stood last at the node to which the steps before
-- it lead
pub record ShowsFrom (nodes : List Node) (c : Counts) (p : Progress) (last : Option NodeId) (ls : List Label) (i : ℕ) (e : Event) (stand : Stand)
    (d : Counts) (q : Progress) : Type 0 where
  pub before : List Label
  pub label : Label
  pub after : List Label
  pub is : ls ≡ before ++ label ∷ after
  pub place : length (events before) ≡ i
  pub shows : events (label ∷ []) ≡ e ∷ []
  pub counts : Counts
  pub progress : Progress
  pub last_node : Option NodeId
  pub told : List Stand
  pub leads : LeadsTelling nodes c p last before told counts progress last_node
  pub next_counts : Counts
  pub next : Progress
  pub step : Step counts progress label next_counts next
  pub goes_on : Leads next_counts next after d q
  pub stands : IsStandAt nodes progress last_node label stand
