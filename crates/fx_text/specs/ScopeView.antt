-- What the names in scope stand for.
use Rattle.std.specs.Prelude.{ℕ, List, ◌++◌, map, take, drop}
use Rattle.fx_text.specs.declared.place.Place.{Place}
use Rattle.fx_text.specs.declared.scope.Bound.{Bound as CodeBound}
use Rattle.fx_text.specs.Queues.{names_of}
use Rattle.fx_text.specs.QueuesView.{view_queues}
use Rattle.fx_text.specs.Scope.{Bound, Scope, bound_elsewhere}

abbrev pub view_bound : CodeBound → Bound
view_bound b = record { name = b.name.now; kind = b.kind }

abbrev pub view_names : List CodeBound → List Bound
view_names = map view_bound

-- the names as a fiber has them, where so many of them, the outermost ones, are in scope outside of it
abbrev pub seen_past : ℕ → List Bound → List Bound
seen_past foreign names = map bound_elsewhere (take foreign names) ++ drop foreign names

-- the scope of these names at that place
abbrev pub scope : List CodeBound → Place → Scope
scope names at = record { names = seen_past at.foreign (view_names names); queues = names_of (view_queues at.queues.now); turns = at.turns }
