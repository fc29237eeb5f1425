-- The place where a fiber stands before a step, and what is told of the step by it.
use Rattle.std.specs.Prelude.{◌≡◌, Option, Some, None, option_and_then, List, [], ◌∷◌, ◌++◌}
use Rattle.fx_term.specs.declared.event.Event.{Event}
use Rattle.fx_term.specs.declared.node.Node.{Node}
use Rattle.fx_term.specs.declared.node.NodeId.{NodeId}
use Rattle.fx_model.specs.Step.{Progress, leaf_at}
use Rattle.fx_model.specs.Waiting.{wait_at}
use Rattle.fx_fiber.specs.NodePlaces.{is_open_at}
use Rattle.fx_fiber.specs.PortFacts.{Facts}
use Rattle.fx_fiber.specs.declared.stepped.Stepped.{Stepped}
use Rattle.fx_fiber.specs.declared.stepped.Stepped.TheVariants.{Waits}
use Rattle.fx_explore.specs.declared.answers.Answers.{Answers}
use Rattle.fx_plain.specs.ToldWay.{learned_of}
use Rattle.fx_follow.specs.Trails.{IsNodeAt, last_node_after}
use Rattle.fx_follow.specs.declared.stand.Place.{Place}
use Rattle.fx_follow.specs.declared.stand.Stand.{Stand}

-- a fiber that is so far stands at that place: at that node, open or not, and with that to wait for, if it can wait there
pub record IsPlaceAt (nodes : List Node) (p : Progress) (place : Place) : Type 0 where
  pub node : IsNodeAt nodes p place.node
  pub is_open : place.is_open ≡ is_open_at p
  pub waits : place.waits ≡ option_and_then wait_at (leaf_at p)

-- what is told of a step from that place that shows this event, where that is the last node at which the fiber stood
abbrev pub stand_of : Place → Option NodeId → Event → Stand
stand_of place last e = record { node = place.node; last_node = last; is_open = place.is_open; learned = learned_of place.waits (Some e) }

-- if it shows an event
abbrev pub told_of : Place → Option NodeId → Option Event → List Stand
told_of place last None = []
told_of place last (Some e) = stand_of place last e ∷ []

-- A try from that place that was answered so is kept, which showed this event, if it did: the last node and what is told are those now, and were those. Where
-- the fiber waits it made no step, and nothing is kept
abbrev pub KeepsTry : Stepped Facts Answers → Place → Option Event → Option NodeId → List Stand → Option NodeId → List Stand → Type 0
KeepsTry (Waits source) place shown last stands last' stands' = (last' ≡ last) × (stands' ≡ stands)
KeepsTry answer place shown last stands last' stands' =
    (last' ≡ last_node_after last place.node) × (stands' ≡ stands ++ told_of place last' shown)
