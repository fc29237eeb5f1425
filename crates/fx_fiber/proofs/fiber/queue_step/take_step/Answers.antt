use Rattle.std.proofs.Common.{refl, sym, append-nil}
use Rattle.fx_term.specs.declared.event.Event.TheVariants as event
use Rattle.fx_term.specs.declared.node.Node.TheVariants as node
use Rattle.fx_term.specs.declared.done.Done.TheVariants.{Val}
use Rattle.fx_model.specs.declared.source.Source.TheVariants.{Element}
use Rattle.fx_fiber.specs.declared.machine.made.Made.TheVariants as made
use Rattle.fx_fiber.proofs.Calls.{waits_call}
use Rattle.fx_fiber.proofs.QueueLeaves.{returned_sound, take_step, take_waits}
use Rattle.fx_fiber.proofs.fiber.queue_step.take_step.Goals as goal

pub returns-in-Some-clause-tells : goal.returns-in-Some-clause-tells
returns-in-Some-clause-tells g c =
    let s = c.args.body.now.machine in
    let id = c.requires.at.0 in
    let stands = c.requires.at.1 in (
      record {
        made = made.Shows (event.Got c.args.queue c.in-Some.value);
        raised = c.raise.new.clock;
        does = (
          rw c.show.ensures.machine (record {
            cause = c.in-Some.stamp;
            raises = record { raised = c.raise.ensures; none = λ h. absurd h };
            sound = returned_sound g.P.Port.theory.code s id (node.Take c.args.queue) stands.at (Val c.in-Some.value);
            rule = take_step g.P.Port.theory.code s id c.args.queue stands.at stands.free c.in-Some.value;
            own = tt;
            told = c.in-Some.ensures.told;
            agreed = c.in-Some.ensures.deed;
            facts_are = c.in-Some.ensures.facts;
          }),
          tt,
        );
        alone = tt;
        answers = refl;
        trace = c.show.ensures.trace;
        clock = c.show.ensures.clock;
      },
      rw c.show.ensures.machine (record { given = Val c.in-Some.value; focus = refl; masks = refl; known = refl }),
    )

pub returns-in-None-clause-tells : goal.returns-in-None-clause-tells
returns-in-None-clause-tells g c =
    let s = c.args.body.now.machine in
    let stands = c.requires.at.1 in
    let same = c.in-None.ensures.unchanged in
    record {
      made = made.Waits (Element c.args.queue);
      raised = c.args.body.now.clock;
      does = waits_call g.P.Port.theory _ _ s s _ _ _ _ _ refl _
          (take_waits g.P.Port.theory.code s c.requires.at.0 c.args.queue stands.at stands.free)
          (rw (same.0, same.1) at c.in-None.ensures.told) refl same.0 same.1;
      alone = tt;
      answers = refl;
      trace = sym (append-nil c.args.body.now.trace.items);
      clock = refl;
    }
