use Rattle.std.proofs.Common.{refl, false}
use Rattle.fx_term.specs.declared.node.Node.TheVariants as node
use Rattle.fx_model.specs.declared.source.Source.TheVariants.{Room, Element}
use Rattle.fx_fiber.specs.Places.{IsEvaluating}
use Rattle.fx_fiber.proofs.Advances.{inside_leaf, same_here}
use Rattle.fx_fiber.proofs.Bursts.{ahead_is_free}
use Rattle.fx_fiber.proofs.Flows.{passed, passed_kept, has_returned}
use Rattle.fx_fiber.proofs.fiber.flow.at_queue.Goals as goal

pub offer_step-requires-clause-at : goal.offer_step-requires-clause-at
offer_step-requires-clause-at g c =
    let s = c.args.body.now.machine in
    let at : IsEvaluating g.P.Port.theory.code s c.in-Eval.id (node.Offer c.in-Offer.queue c.in-Offer.value) =
    record { sound = c.requires.kept.sound; focus = c.in-Eval.is; node = rw (← c.requires.code, ← c.in-Offer.is) c.node.ensures.node } in
    let inside = inside_leaf g.P.Port.theory.code s c.in-Eval.id (node.Offer c.in-Offer.queue c.in-Offer.value) false at tt refl in (
      c.in-Eval.id,
      record { at = at; free = ahead_is_free g.P.Port.theory s s _ _ (same_here g.P.Port.theory.code s at.sound) inside c.requires.free },
    )

pub returns-in-Offer-clause-meets : goal.returns-in-Offer-clause-meets
returns-in-Offer-clause-meets g c =
    let s = c.args.body.now.machine in
    let at : IsEvaluating g.P.Port.theory.code s c.in-Eval.id (node.Offer c.in-Offer.queue c.in-Offer.value) =
    record { sound = c.requires.kept.sound; focus = c.in-Eval.is; node = rw (← c.requires.code, ← c.in-Offer.is) c.node.ensures.node } in
    let inside = inside_leaf g.P.Port.theory.code s c.in-Eval.id (node.Offer c.in-Offer.queue c.in-Offer.value) false at tt refl in
    passed g.P.Port.theory _ _ _ _ c.args.body.now c.offer_step.new.body c.requires.kept inside c.requires.free (Room c.in-Offer.queue) _ (λ h. h)
    c.offer_step.result c.offer_step.ensures.tells

pub returns-in-Offer-clause-kept : goal.returns-in-Offer-clause-kept
returns-in-Offer-clause-kept g c =
    let s = c.args.body.now.machine in
    let at : IsEvaluating g.P.Port.theory.code s c.in-Eval.id (node.Offer c.in-Offer.queue c.in-Offer.value) =
    record { sound = c.requires.kept.sound; focus = c.in-Eval.is; node = rw (← c.requires.code, ← c.in-Offer.is) c.node.ensures.node } in
    let inside = inside_leaf g.P.Port.theory.code s c.in-Eval.id (node.Offer c.in-Offer.queue c.in-Offer.value) false at tt refl in
    passed_kept g.P.Port.theory _ _ _ _ c.args.body.now c.offer_step.new.body c.requires.kept inside c.requires.free (Room c.in-Offer.queue) _ (λ h. h)
    c.offer_step.result c.offer_step.ensures.tells

pub returns-in-Offer-clause-returned : goal.returns-in-Offer-clause-returned
returns-in-Offer-clause-returned g c =
    let s = c.args.body.now.machine in
    let at : IsEvaluating g.P.Port.theory.code s c.in-Eval.id (node.Offer c.in-Offer.queue c.in-Offer.value) =
    record { sound = c.requires.kept.sound; focus = c.in-Eval.is; node = rw (← c.requires.code, ← c.in-Offer.is) c.node.ensures.node } in
    let inside = inside_leaf g.P.Port.theory.code s c.in-Eval.id (node.Offer c.in-Offer.queue c.in-Offer.value) false at tt refl in
    has_returned g.P.Port.theory _ _ _ _ c.args.body.now c.offer_step.new.body c.requires.kept inside c.requires.free (Room c.in-Offer.queue) _ (λ h. h)
    c.offer_step.result c.offer_step.ensures.tells

pub take_step-requires-clause-at : goal.take_step-requires-clause-at
take_step-requires-clause-at g c =
    let s = c.args.body.now.machine in
    let at : IsEvaluating g.P.Port.theory.code s c.in-Eval.id (node.Take c.in-Take.queue) =
    record { sound = c.requires.kept.sound; focus = c.in-Eval.is; node = rw (← c.requires.code, ← c.in-Take.is) c.node.ensures.node } in
    let inside = inside_leaf g.P.Port.theory.code s c.in-Eval.id (node.Take c.in-Take.queue) false at tt refl in (
      c.in-Eval.id,
      record { at = at; free = ahead_is_free g.P.Port.theory s s _ _ (same_here g.P.Port.theory.code s at.sound) inside c.requires.free },
    )

pub returns-in-Take-clause-meets : goal.returns-in-Take-clause-meets
returns-in-Take-clause-meets g c =
    let s = c.args.body.now.machine in
    let at : IsEvaluating g.P.Port.theory.code s c.in-Eval.id (node.Take c.in-Take.queue) =
    record { sound = c.requires.kept.sound; focus = c.in-Eval.is; node = rw (← c.requires.code, ← c.in-Take.is) c.node.ensures.node } in
    let inside = inside_leaf g.P.Port.theory.code s c.in-Eval.id (node.Take c.in-Take.queue) false at tt refl in
    passed g.P.Port.theory _ _ _ _ c.args.body.now c.take_step.new.body c.requires.kept inside c.requires.free (Element c.in-Take.queue) _ (λ h. absurd h)
    c.take_step.result c.take_step.ensures.tells

pub returns-in-Take-clause-kept : goal.returns-in-Take-clause-kept
returns-in-Take-clause-kept g c =
    let s = c.args.body.now.machine in
    let at : IsEvaluating g.P.Port.theory.code s c.in-Eval.id (node.Take c.in-Take.queue) =
    record { sound = c.requires.kept.sound; focus = c.in-Eval.is; node = rw (← c.requires.code, ← c.in-Take.is) c.node.ensures.node } in
    let inside = inside_leaf g.P.Port.theory.code s c.in-Eval.id (node.Take c.in-Take.queue) false at tt refl in
    passed_kept g.P.Port.theory _ _ _ _ c.args.body.now c.take_step.new.body c.requires.kept inside c.requires.free (Element c.in-Take.queue) _ (λ h. absurd h)
    c.take_step.result c.take_step.ensures.tells

pub returns-in-Take-clause-returned : goal.returns-in-Take-clause-returned
returns-in-Take-clause-returned g c =
    let s = c.args.body.now.machine in
    let at : IsEvaluating g.P.Port.theory.code s c.in-Eval.id (node.Take c.in-Take.queue) =
    record { sound = c.requires.kept.sound; focus = c.in-Eval.is; node = rw (← c.requires.code, ← c.in-Take.is) c.node.ensures.node } in
    let inside = inside_leaf g.P.Port.theory.code s c.in-Eval.id (node.Take c.in-Take.queue) false at tt refl in
    has_returned g.P.Port.theory _ _ _ _ c.args.body.now c.take_step.new.body c.requires.kept inside c.requires.free (Element c.in-Take.queue) _ (λ h. absurd h)
    c.take_step.result c.take_step.ensures.tells
