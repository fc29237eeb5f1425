use Rattle.std.specs.Prelude.{nat_eq}
use Rattle.std.specs.HashMap.{get}
use Rattle.fx_counts.proofs.Rises.{HasRisen}
use Rattle.fx_counts.proofs.reordered.places_rise.Given as goal

abbrev pub invariant-loop-it : goal.invariant-loop-it
invariant-loop-it l = HasRisen l.list (λ f. get nat_eq l.latest f) l.it-index
