use Rattle.fx_look_laws.proofs.ExampleFibers.{cancels_in_turns}
use Rattle.fx_look_laws.proofs.looks.scripts_may_cancel_after_a_mask_in_each_turn.Goals as goal

pub returns : goal.returns
returns c =
    λ scope i n h p a b capacities may r plain scoped all lawful. cancels_in_turns scope i n h p a b capacities may r plain scoped all lawful
