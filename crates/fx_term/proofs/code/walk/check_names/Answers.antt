-- The walk looks at the spots in their order.
use Rattle.std.proofs.Common.{◌≡◌, ◌<◌, length, [], ◌∷◌, ◌++◌, inr, refl, ap, ◌∙◌, subst, arith}
use Rattle.std.proofs.lemmas.List.{nil_from_length}
use Rattle.std.proofs.lemmas.Bool.{false≢true}
use Rattle.fx_term.specs.declared.node.Node.{Node}
use Rattle.fx_term.specs.declared.node.Arg.TheVariants.{Number}
use Rattle.fx_term.specs.declared.node.Node.TheVariants.{Pure}
use Rattle.fx_term.proofs.SpotsToCome.{spots_to_come, IsWalked, root_pending, walked_none, walked_all, walked_more, pending_near, foreign_near}
use Rattle.fx_term.proofs.SpotsToCome.{wrong_number, wrong_kind, not_within, fewer_to_come}
use Rattle.fx_term.proofs.code.walk.check_names.Goals as goal

-- what an index out of range would give, which is none of these here
abbrev absent : Node
absent = Pure (Number 0)

at_start : (c : goal.In_ok-push) → c.push.new.self.items ≡ [] ++ root_pending c.args.nodes.now ∷ []
unfolding root_pending
at_start c = c.in_ok-push.ensures.items ∙ ap (λ xs. xs ++ root_pending c.args.nodes.now ∷ []) c.new-stack.ensures.items

pub loop-pending-init : goal.loop-pending-init
loop-pending-init c = walked_none c.args.queues c.args.nodes.now c.new-path.result.items c.push.new.self.items c.requires.tree.some_node
    c.new-path.ensures.items (at_start c)

pub bounds-nodes-pending : goal.bounds-nodes-pending
bounds-nodes-pending c =
    pending_near c.args.queues c.args.nodes.now c.requires.tree c.loop-pending.path.items c.loop-pending.stack.items c.loop-pending.invariant
    c.pop.new.self.items c.in-Some.pending c.in-Some.ensures.items absent

pub returns-then-not-has_right_numbers-clause-fault : goal.returns-then-not-has_right_numbers-clause-fault
returns-then-not-has_right_numbers-clause-fault c =
    inr (wrong_number c.args.queues c.args.nodes.now c.requires.tree c.loop-pending.path.items c.loop-pending.stack.items c.loop-pending.invariant
    c.pop.new.self.items c.in-Some.pending c.in-Some.ensures.items absent
    c.as_slice-kinds.result.now (c.as_slice-kinds.ensures.value ∙ c.in_ok-enter.ensures.entered) c.requires.fits
    (λ right. false≢true (c.if-not-has_right_numbers.ensures.1 right)))

pub returns-then-not-has_right_kinds-clause-fault : goal.returns-then-not-has_right_kinds-clause-fault
returns-then-not-has_right_kinds-clause-fault c =
    inr (wrong_kind c.args.queues c.args.nodes.now c.requires.tree c.loop-pending.path.items c.loop-pending.stack.items c.loop-pending.invariant
    c.pop.new.self.items c.in-Some.pending c.in-Some.ensures.items absent
    c.as_slice-kinds.result.now (c.as_slice-kinds.ensures.value ∙ c.in_ok-enter.ensures.entered) c.requires.fits
    (c.if-not-has_right_numbers.ensures.0 refl)
    (λ of_kind. false≢true (c.if-not-has_right_kinds.ensures.1 of_kind)))

pub bounds-needs-pending : goal.bounds-needs-pending
bounds-needs-pending c =
    let each = c.requires.needs.each in
    let near = pending_near c.args.queues c.args.nodes.now c.requires.tree c.loop-pending.path.items c.loop-pending.stack.items c.loop-pending.invariant
    c.pop.new.self.items c.in-Some.pending c.in-Some.ensures.items absent in
    omega arith

pub returns-then-not-is_within_limits-clause-fault : goal.returns-then-not-is_within_limits-clause-fault
returns-then-not-is_within_limits-clause-fault c =
    inr (not_within c.args.queues c.args.nodes.now c.requires.tree c.loop-pending.path.items c.loop-pending.stack.items c.loop-pending.invariant
    c.pop.new.self.items c.in-Some.pending c.in-Some.ensures.items absent
    c.as_slice-kinds.result.now (c.as_slice-kinds.ensures.value ∙ c.in_ok-enter.ensures.entered) c.requires.fits
    (c.if-not-has_right_numbers.ensures.0 refl) (c.if-not-has_right_kinds.ensures.0 refl)
    c.args.needs.now c.requires.needs (λ within. false≢true (c.if-not-is_within_limits.ensures.1 within)))

pub push_parts-requires-clause-foreign : goal.push_parts-requires-clause-foreign
push_parts-requires-clause-foreign c =
    foreign_near c.args.queues c.args.nodes.now c.requires.tree c.loop-pending.path.items c.loop-pending.stack.items c.loop-pending.invariant
    c.pop.new.self.items c.in-Some.pending c.in-Some.ensures.items absent
    c.as_slice-kinds.result.now (c.as_slice-kinds.ensures.value ∙ c.in_ok-enter.ensures.entered)

pub loop-pending-smaller : goal.loop-pending-smaller
loop-pending-smaller c =
    let came = spots_to_come c.args.nodes.now c.loop-pending.path.items c.loop-pending.stack.items in
    subst (λ path. length (spots_to_come c.args.nodes.now path c.push_parts.new.stack.items) < length came) c.as_slice-kinds.ensures.value
    (fewer_to_come c.args.queues c.args.nodes.now c.requires.tree c.loop-pending.path.items c.loop-pending.stack.items c.loop-pending.invariant
    c.pop.new.self.items c.in-Some.pending c.in-Some.ensures.items absent
    c.as_slice-kinds.result.now (c.as_slice-kinds.ensures.value ∙ c.in_ok-enter.ensures.entered) c.push_parts.new.stack.items c.in_ok-push_parts.ensures.pushed)

pub loop-pending-preserved : goal.loop-pending-preserved
loop-pending-preserved c =
    subst (λ path. IsWalked c.args.queues c.args.nodes.now path c.push_parts.new.stack.items) c.as_slice-kinds.ensures.value
    (walked_more c.args.queues c.args.nodes.now c.requires.tree c.loop-pending.path.items c.loop-pending.stack.items c.loop-pending.invariant
    c.pop.new.self.items c.in-Some.pending c.in-Some.ensures.items absent
    c.as_slice-kinds.result.now (c.as_slice-kinds.ensures.value ∙ c.in_ok-enter.ensures.entered) c.push_parts.new.stack.items c.in_ok-push_parts.ensures.pushed
    (c.if-not-has_right_numbers.ensures.0 refl) (c.if-not-has_right_kinds.ensures.0 refl)
    c.args.needs.now c.requires.needs (c.if-not-is_within_limits.ensures.0 refl))

pub returns-clause-placed : goal.returns-clause-placed
returns-clause-placed c =
    let nothing : length c.loop-pending.stack.items ≡ 0 = omega (arith, c.loop-pending.stack.ok.0, c.in_default.ensures.cases.0) in
    walked_all c.args.queues c.args.nodes.now c.loop-pending.path.items c.loop-pending.stack.items c.loop-pending.invariant
    (nil_from_length c.loop-pending.stack.items nothing)
