use Rattle.std.proofs.Common.{refl}
use Rattle.fx_term.specs.declared.node.Node.TheVariants as node
use Rattle.fx_term.specs.declared.done.Done.TheVariants.{Val}
use Rattle.fx_fiber.proofs.Calls.{waits_call}
use Rattle.fx_fiber.proofs.QueueLeaves.{returned_sound, take_step, take_waits}
use Rattle.fx_fiber.proofs.machine.Machine.take.Goals as goal

pub returns-in-Some : goal.returns-in-Some
returns-in-Some g c =
    let s = c.args.self.now in
    let id = c.requires.at.0 in
    let stands = c.requires.at.1 in
    record {
      cause = c.in-Some.stamp;
      raises = record { raised = c.raise.ensures; none = λ h. absurd h };
      sound = returned_sound g.P.Port.theory.code s id (node.Take c.args.queue) stands.at (Val c.in-Some.value);
      rule = take_step g.P.Port.theory.code s id c.args.queue stands.at stands.free c.in-Some.value;
      own = tt;
      told = c.in-Some.ensures.told;
      agreed = c.in-Some.ensures.deed;
      facts_are = c.in-Some.ensures.facts;
    }

pub returns-in-None : goal.returns-in-None
returns-in-None g c =
    let s = c.args.self.now in
    let stands = c.requires.at.1 in
    let same = c.in-None.ensures.unchanged in
    waits_call g.P.Port.theory _ _ s s _ _ _ _ _ refl _
    (take_waits g.P.Port.theory.code s c.requires.at.0 c.args.queue stands.at stands.free)
    (rw (same.0, same.1) at c.in-None.ensures.told) refl same.0 same.1
