use Rattle.std.proofs.Common.{ℕ, List}
use Rattle.fx_places.specs.Places.{IsFormPlace}
use Rattle.fx_places.specs.Walk.{IsWalk}
use Rattle.fx_places.proofs.walk.Walk.add.Given as goal

abbrev pub invariant-loop : goal.invariant-loop
invariant-loop l = (text : List ℕ) → IsFormPlace text l.place → IsWalk text l.code.nodes l.fn.self → IsWalk text l.code.nodes l.self
