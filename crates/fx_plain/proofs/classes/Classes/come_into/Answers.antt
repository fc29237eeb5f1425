use Rattle.std.proofs.Common.{◌<◌, ◌≡◌, length, length-set, arith}
use Rattle.std.proofs.lemmas.List.{get_or_read}
use Rattle.fx_plain.specs.declared.class.Class.TheVariants.{Unstarted}
use Rattle.fx_plain.specs.ClassSets.{class_at}
use Rattle.fx_plain.proofs.ClassSets.{come_sets}
use Rattle.fx_plain.proofs.WaiterBlocks.{come_marked}
use Rattle.fx_plain.proofs.classes.Classes.come_into.Goals as goal

pub invariant_of-self : goal.invariant_of-self
invariant_of-self c =
    let f = c.args.fiber in
    let classes = c.self.inside.of.items in
    let k = c.args.class in
    let few = c.self.invariant.0 in
    let long = length-set classes f k in
    let lt : f < length classes = rw (← c.self.view_is) at c.requires in
    let j = c.index.result.now in
    let read : j ≡ class_at classes f = get_or_read classes f j lt c.index.ensures Unstarted in (
      omega arith,
      come_sets classes f lt j k read c.self.inside.sets c.remove.new.self c.insert.new.self c.remove.ensures c.insert.ensures c.self.invariant.1,
      rw (c.insert-2.ensures) (come_marked f (omega arith) c.self.inside.blocks classes k lt c.self.invariant.2),
    )
