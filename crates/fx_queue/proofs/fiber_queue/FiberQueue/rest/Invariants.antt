use Rattle.std.proofs.Common.{List, ◌++◌}
use Rattle.fx_term.specs.declared.item.Item.{Item}
use Rattle.fx_queue.specs.PassView.{IsWhole}
use Rattle.fx_queue.specs.Queues.{IsOf}
use Rattle.fx_queue.specs.Told.{IsRest}
use Rattle.fx_queue.proofs.fiber_queue.FiberQueue.rest.Given as goal

abbrev pub invariant-taking : goal.invariant-taking
invariant-taking g l = IsOf l.pass l.self × IsWhole l.pass.view × ((items : List Item) → IsRest l.pass.view items
    → IsRest l.fn.pass.view (l.rest.items ++ items))
