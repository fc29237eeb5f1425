use Rattle.std.proofs.Common.{sym, ◌∙◌}
use Rattle.fx_plain.specs.NumberSet.{is_member}
use Rattle.fx_plain.proofs.WaitedQueues.{room_left, element_left}
use Rattle.fx_plain.proofs.class_sets.ClassSets.remove.Goals as goal

pub invariant_of-self-in-Room-1 : goal.invariant_of-self-in-Room-1
invariant_of-self-in-Room-1 c =
    let s = c.self.inside in
    let gone = c.remove-in-Waits-Room in (
      c.self.invariant.0 ∙ sym gone.ensures.count,
      c.forget_left.ensures
          (room_left (is_member s.waited) c.in-Waits-Room.queue c.args.fiber s.for_room s.for_element c.self.invariant.1 gone.new.self gone.ensures.count
          gone.ensures.members),
    )

pub invariant_of-self-in-Element-1 : goal.invariant_of-self-in-Element-1
invariant_of-self-in-Element-1 c =
    let s = c.self.inside in
    let gone = c.remove-in-Waits-Element in (
      gone.ensures.count ∙ c.self.invariant.0,
      c.forget_left-in-Waits-Element.ensures
          (element_left (is_member s.waited) c.in-Waits-Element.queue c.args.fiber s.for_room s.for_element c.self.invariant.1 gone.new.self c.self.invariant.0
          gone.ensures.members),
    )
