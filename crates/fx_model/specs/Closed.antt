-- What a run left, as what a fiber sees outside itself.
use Rattle.fx_model.specs.Outside.{Outside, outside_of_lists}
use Rattle.fx_model.specs.declared.closed.Closed.{Closed}

abbrev pub outside_of : Closed → Outside
outside_of c = outside_of_lists c.caps.items c.rests.items c.outcomes.items c.requested.items
