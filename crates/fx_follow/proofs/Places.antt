-- The place where a fiber stands.
use Rattle.std.proofs.Common.{◌≡◌, ℕ, Bool, Option, List}
use Rattle.std.specs.Prelude.{MatchOption, option_and_then}
use Rattle.fx_term.specs.declared.node.Node.{Node}
use Rattle.fx_term.specs.declared.node.NodeId.{NodeId}
use Rattle.fx_model.specs.Step.{Progress, leaf_at}
use Rattle.fx_model.specs.Waiting.{wait_at}
use Rattle.fx_model.specs.declared.source.Source.{Source}
use Rattle.fx_fiber.specs.NodePlaces.{is_open_at, IsPlaceOf, HasNoNode}
use Rattle.fx_fiber.proofs.NodePlaces.{with_some_numbers}
use Rattle.fx_follow.specs.Places.{IsPlaceAt}

-- a place tells the node of a fiber, whether it is open, and what the fiber waits for there
pub place_at : (nodes : List Node) (p : Progress) (numbers : List ℕ) (node : Option NodeId) (open_there : Bool) (waits : Option Source)
    → MatchOption node (HasNoNode (leaf_at p)) (IsPlaceOf nodes numbers (leaf_at p)) → open_there ≡ is_open_at p
    → waits ≡ option_and_then wait_at (leaf_at p) → IsPlaceAt nodes p (record { node = node; is_open = open_there; waits = waits })
place_at nodes p numbers node open_there waits here is_open waits_so =
    record { node = with_some_numbers nodes numbers (leaf_at p) node here; is_open = is_open; waits = waits_so }
