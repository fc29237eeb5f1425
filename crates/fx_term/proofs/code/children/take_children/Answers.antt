-- The children are marked one after another.
use Rattle.std.proofs.Common.{◌+◌, ◌<◌, length, take, arith, false, true, None, ap, sym, ◌∙◌, subst}
use Rattle.std.proofs.lemmas.List.{take_all}
use Rattle.fx_term.specs.Signature.{present}
use Rattle.fx_term.specs.Children.{TakesChildren}
use Rattle.fx_term.proofs.ChildrenLaws.{ids, takes_no_children, takes_child_of_entry, takes_no_entry, refuses_child_of_entry}
use Rattle.fx_term.proofs.code.children.take_children.Goals as goal
use Rattle.fx_term.proofs.code.children.take_children.Goals.{in-Some+else-not-take_child, in_default}

pub loop-entry-init : goal.loop-entry-init
loop-entry-init c = takes_no_children c.args.parent c.args.taken.now

pub returns-then-not-take_child : goal.returns-then-not-take_child
returns-then-not-take_child c =
    let within : c.loop-entry.entry-index < length c.parts-entry-items.result = omega arith in
    subst (λ ps. TakesChildren c.args.parent (ids ps) c.args.taken.now false c.take_child.new.taken) c.parts-entry-items.ensures
    (refuses_child_of_entry c.args.parent c.parts-entry-items.result c.loop-entry.entry-index None within c.args.taken.now
    c.loop-entry.taken c.loop-entry.invariant c.in-Some.part c.take_child.new.taken c.in-Some.is c.if-not-take_child.ensures)

pub loop-entry-preserved : goal.loop-entry-preserved
loop-entry-preserved c =
    let within : c.loop-entry.entry-index < length c.parts-entry-items.result = omega arith in
    let more = ids (present (take (c.loop-entry.entry-index + 1) c.parts-entry-items.result)) in
    elim c.match-entry.branch [
      | in-Some+else-not-take_child w ↦
          subst (TakesChildren c.args.parent more c.args.taken.now true) (sym w.taken-is)
          (takes_child_of_entry c.args.parent c.parts-entry-items.result c.loop-entry.entry-index None within c.args.taken.now
          c.loop-entry.taken c.loop-entry.invariant w.in-Some.part w.take_child.new.taken w.in-Some.is w.if-not-take_child.ensures)
      | in_default w ↦
          subst (TakesChildren c.args.parent more c.args.taken.now true) (sym w.taken-is)
          (takes_no_entry c.args.parent c.parts-entry-items.result c.loop-entry.entry-index None within c.args.taken.now
          c.loop-entry.taken c.loop-entry.invariant w.in_default.is)
    ]

pub returns : goal.returns
returns c =
    subst (λ ps. TakesChildren c.args.parent (ids ps) c.args.taken.now true c.loop-entry.taken)
    (ap present (take_all c.loop-entry.entry-index c.parts-entry-items.result (omega arith)) ∙ c.parts-entry-items.ensures) c.loop-entry.invariant
