use Rattle.std.proofs.Common.{Option}
use Rattle.std.proofs.lemmas.Result.{IfOk-weaker}
use Rattle.fx_term.specs.declared.event.Event.{Event}
use Rattle.fx_fiber.specs.Places.{IsReturning}
use Rattle.fx_fiber.specs.Makes.{MakesIfShown}
use Rattle.fx_fiber.proofs.Advances.{inside_result, same_here}
use Rattle.fx_fiber.proofs.Bursts.{ahead_is_free, glides_shown}
use Rattle.fx_fiber.proofs.fiber.glide.bracket_rule.Goals as goal

pub bracket_result-requires : goal.bracket_result-requires
bracket_result-requires g c =
    let s = c.args.machine.now in
    let given : IsReturning g.P.Port.theory.code s c.in-Return.done = record {
      sound = c.requires.1.1.1.0;
      focus = c.in-Return.is;
      free =
          ahead_is_free g.P.Port.theory s s _ _ (same_here g.P.Port.theory.code s c.requires.1.1.1.0)
          (inside_result g.P.Port.theory.code s c.in-Return.done c.requires.1.1.1.0 c.in-Return.is) (rw c.in-Rule.is at c.look_ahead.ensures);
    } in
    (c.requires.1.1.0, (given, c.requires.1.1.1.1.0))

pub returns-in-Rule-clause-ok : goal.returns-in-Rule-clause-ok
returns-in-Rule-clause-ok g c =
    let s = c.args.machine.now in
    IfOk-weaker c.bracket_result.result (λ (shown : Option Event). MakesIfShown g.P.Port.theory.code s shown c.bracket_result.new.self) _
    (λ shown made. glides_shown g.P.Port.theory s s _ _ (same_here g.P.Port.theory.code s c.requires.1.1.1.0)
    (inside_result g.P.Port.theory.code s c.in-Return.done c.requires.1.1.1.0 c.in-Return.is)
    (rw c.in-Rule.is at c.look_ahead.ensures) shown c.bracket_result.new.self made)
    c.bracket_result.ensures.ok
