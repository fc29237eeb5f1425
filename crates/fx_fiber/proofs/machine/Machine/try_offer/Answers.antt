use Rattle.std.proofs.Common.{refl, sym, subst}
use Rattle.fx_term.specs.declared.offered.Offered.TheVariants.{Full}
use Rattle.fx_term.specs.declared.node.Node.TheVariants as node
use Rattle.fx_term.specs.declared.done.Done.TheVariants.{Val}
use Rattle.fx_term.specs.declared.event.Event.TheVariants as event
use Rattle.fx_fiber.specs.declared.machine.made.Made.TheVariants as made
use Rattle.fx_fiber.proofs.Calls.{uncaused_call}
use Rattle.fx_fiber.proofs.QueueLeaves.{try_offer_within, tried_value, returned_sound, try_offer_step, refused_step}
use Rattle.fx_fiber.proofs.machine.Machine.try_offer.Goals as goal

pub number_of-value-requires : goal.number_of-value-requires
number_of-value-requires g c = try_offer_within g.P.Port.theory.code c.args.self.now c.requires.at.0 c.args.queue c.args.value c.requires.at.1.at

pub returns-in-Done-clause-ok : goal.returns-in-Done-clause-ok
returns-in-Done-clause-ok g c =
    let s = c.args.self.now in
    let id = c.requires.at.0 in
    let stands = c.requires.at.1 in
    uncaused_call g.P.Port.theory _ _ s _ _ _ _ _ (made.Shows (event.Put c.args.queue c.number_of-value.result)) c.after.result c.after.ensures refl
    (returned_sound g.P.Port.theory.code s id (node.TryOffer c.args.queue c.args.value) stands.at (Val 1))
    (try_offer_step g.P.Port.theory.code s id c.args.queue c.args.value stands.at c.number_of-value.result c.number_of-value.ensures stands.free)
    tt (rw c.in-Done.is at c.in_ok-offer.ensures.told) (rw c.in-Done.is at c.in_ok-offer.ensures.deed) (rw c.in-Done.is at c.in_ok-offer.ensures.facts)

pub returns-in-Full-clause-ok : goal.returns-in-Full-clause-ok
returns-in-Full-clause-ok g c =
    let s = c.args.self.now in
    let id = c.requires.at.0 in
    let stands = c.requires.at.1 in
    uncaused_call g.P.Port.theory _ _ s _ _ _ _ _ (made.Shows (event.Refused c.args.queue)) c.after.result c.after.ensures refl
    (returned_sound g.P.Port.theory.code s id (node.TryOffer c.args.queue c.args.value) stands.at (Val 0))
    (refused_step g.P.Port.theory.code s id c.args.queue c.args.value stands.at c.number_of-value.result c.number_of-value.ensures stands.free)
    tt
    (subst (λ n. g.P.Port.theory.calls.offers c.args.port.now c.args.shared.now c.args.queue n c.after.result Full c.offer.new.self c.offer.new.shared)
    (sym (tried_value g.P.Port.theory.code s id c.args.queue c.args.value stands.at c.number_of-value.result c.number_of-value.ensures))
    (rw c.in-Full.is at c.in_ok-offer.ensures.told))
    (rw c.in-Full.is at c.in_ok-offer.ensures.deed) (rw c.in-Full.is at c.in_ok-offer.ensures.facts)
