use Rattle.std.proofs.Common.{refl, sym, append-nil}
use Rattle.fx_term.specs.declared.event.Event.TheVariants as event
use Rattle.fx_term.specs.declared.node.Node.TheVariants as node
use Rattle.fx_term.specs.declared.done.Done.TheVariants.{Val}
use Rattle.fx_model.specs.declared.source.Source.TheVariants.{Room}
use Rattle.fx_fiber.specs.declared.machine.made.Made.TheVariants as made
use Rattle.fx_fiber.proofs.Calls.{waits_call, uncaused_call}
use Rattle.fx_fiber.proofs.QueueLeaves.{offer_within, offered_value, returned_sound, offer_step, offer_waits}
use Rattle.fx_fiber.proofs.fiber.queue_step.offer_step.Goals as goal

pub number_of-value-requires : goal.number_of-value-requires
number_of-value-requires g c =
    offer_within g.P.Port.theory.code c.args.body.now.machine c.requires.at.0 c.args.queue c.args.value c.requires.at.1.at

pub returns-in-Ok-Done-clause-tells : goal.returns-in-Ok-Done-clause-tells
returns-in-Ok-Done-clause-tells g c =
    let s = c.args.body.now.machine in
    let id = c.requires.at.0 in
    let stands = c.requires.at.1 in (
      record {
        made = made.Shows (event.Put c.args.queue c.number_of-value.result);
        raised = c.args.body.now.clock;
        does = (
          rw c.show.ensures.machine
              (uncaused_call g.P.Port.theory _ _ s _ _ _ _ _ (made.Shows (event.Put c.args.queue c.number_of-value.result)) c.after.result c.after.ensures refl
              (returned_sound g.P.Port.theory.code s id (node.Offer c.args.queue c.args.value) stands.at (Val 0))
              (offer_step g.P.Port.theory.code s id c.args.queue c.args.value stands.at c.number_of-value.result c.number_of-value.ensures stands.free)
              tt (rw c.in-Ok-Done.field-0-is at c.in-Ok-Done.ensures.told) (rw c.in-Ok-Done.field-0-is at c.in-Ok-Done.ensures.deed)
              (rw c.in-Ok-Done.field-0-is at c.in-Ok-Done.ensures.facts)),
          tt,
        );
        alone = tt;
        answers = refl;
        trace = c.show.ensures.trace;
        clock = c.show.ensures.clock;
      },
      rw c.show.ensures.machine (record { given = Val 0; focus = refl; masks = refl; known = refl }),
    )

pub returns-in-Ok-Full-clause-tells : goal.returns-in-Ok-Full-clause-tells
returns-in-Ok-Full-clause-tells g c =
    let s = c.args.body.now.machine in
    let id = c.requires.at.0 in
    let stands = c.requires.at.1 in
    let same = rw c.in-Ok-Full.field-0-is at c.in-Ok-Full.ensures.full in
    let told = rw c.in-Ok-Full.field-0-is at c.in-Ok-Full.ensures.told in
    record {
      made = made.Waits (Room c.args.queue);
      raised = c.args.body.now.clock;
      does = waits_call g.P.Port.theory _ _ s s _ _ _ _ c.after.result c.after.ensures _
          (offer_waits g.P.Port.theory.code s id c.args.queue c.args.value stands.at c.number_of-value.result c.number_of-value.ensures stands.free)
          (rw (offered_value g.P.Port.theory.code s id c.args.queue c.args.value stands.at c.number_of-value.result c.number_of-value.ensures)
          (rw (same.0, same.1) at told)) refl same.0 same.1;
      alone = tt;
      answers = refl;
      trace = sym (append-nil c.args.body.now.trace.items);
      clock = refl;
    }
