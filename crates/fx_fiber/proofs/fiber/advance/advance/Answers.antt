use Rattle.std.proofs.Common.{◌≡◌, refl, ap}
use Rattle.std.proofs.lemmas.Result.{IfOk-weaker}
use Rattle.fx_model.specs.Row.{Counts}
use Rattle.fx_fiber.specs.Makes.{MakesRule}
use Rattle.fx_fiber.specs.declared.machine.made.Made.TheVariants.{Silent}
use Rattle.fx_fiber.specs.Interruption.{Interrupts}
use Rattle.fx_fiber.specs.MakesCall.{MakesCall}
use Rattle.fx_fiber.proofs.Calls.{local_call}
use Rattle.fx_fiber.proofs.Advances.{inside_leaf, inside_result, inside_loop, same_here, is_interrupted, is_free}
use Rattle.fx_fiber.proofs.Advances.{interrupted_advances, rule_advances, unwinding_advances, await_advances}
use Rattle.fx_fiber.proofs.Nodes.{loop_number}
use Rattle.fx_fiber.proofs.fiber.advance.advance.Goals as goal

pub interrupted-requires : goal.interrupted-requires
interrupted-requires g c =
    let here = c.in_ok-id-in-Eval in
    let inside = inside_leaf g.P.Port.theory.code c.enter.new.self here.id here.node.now _ here.ensures.at here.ensures.leaf c.is_canceled.ensures in
    is_interrupted g.P.Port.theory c.args.machine.now c.enter.new.self _ _ _ _ _ _ _
    here.ensures.same inside c.in-Some.first c.in-Some.ensures.first

pub leaf_rule-requires : goal.leaf_rule-requires
leaf_rule-requires g c =
    let here = c.in_ok-id-in-Eval in
    let inside = inside_leaf g.P.Port.theory.code c.enter.new.self here.id here.node.now _ here.ensures.at here.ensures.leaf c.is_canceled.ensures in
    record {
      at = record {
        at = here.ensures.at;
        free =
            is_free g.P.Port.theory c.args.machine.now c.enter.new.self _ _ _ _ _ _ _ here.ensures.same inside
            c.in-None.ensures.first;
      };
      leaf = here.ensures.leaf;
      countable =
          let masks : c.enter.new.self.masks.entries ≡ c.args.machine.now.masks.entries = ap (λ (k : Counts). k.masks) here.ensures.same.counts in
          rw masks c.requires.masks_countable;
      puts_countable = rw c.interruption.ensures.facts c.requires.puts_countable;
      scoped = rw here.ensures.same.progress c.requires.scoped;
    }

pub node-requires : goal.node-requires
node-requires g c = rw c.requires.code (loop_number g.P.Port.theory.code _ c.in-Turn.id (rw c.in-Turn.is at c.requires.sound.focus_in))

pub returns-in-Some-clause-ok : goal.returns-in-Some-clause-ok
returns-in-Some-clause-ok g c =
    let here = c.in_ok-id-in-Eval in
    let inside = inside_leaf g.P.Port.theory.code c.enter.new.self here.id here.node.now _ here.ensures.at here.ensures.leaf c.is_canceled.ensures in
    IfOk-weaker c.interrupted.result (λ m. Interrupts g.P.Port.theory.code c.enter.new.self c.in-Some.first m c.interrupted.new.self) _
    (λ m h. interrupted_advances g.P.Port.theory c.args.machine.now c.enter.new.self _ _ _ _ _ _ _
    here.ensures.same inside c.in-Some.first m _ c.in-Some.ensures.first c.interruption.ensures.facts h)
    c.interrupted.ensures.ok

pub returns-in-None-clause-ok : goal.returns-in-None-clause-ok
returns-in-None-clause-ok g c =
    let here = c.in_ok-id-in-Eval in
    let inside = inside_leaf g.P.Port.theory.code c.enter.new.self here.id here.node.now _ here.ensures.at here.ensures.leaf c.is_canceled.ensures in
    IfOk-weaker c.leaf_rule.result
    (λ m. MakesCall g.P.Port.theory c.interruption.new.clock c.enter.new.self c.interruption.new.port c.interruption.new.shared
    m c.leaf_rule.new.clock c.leaf_rule.new.self c.leaf_rule.new.port c.leaf_rule.new.shared) _
    (λ m h. rule_advances g.P.Port.theory c.args.machine.now c.enter.new.self _ _ _ _ _ _ _
    here.ensures.same inside m _ _ _ _ c.in-None.ensures.first h)
    c.leaf_rule.ensures.ok

pub returns-in-None-interruption-clause-ok : goal.returns-in-None-interruption-clause-ok
returns-in-None-interruption-clause-ok g c =
    let s = c.args.machine.now in
    let inside = inside_result g.P.Port.theory.code s c.in-Return.done c.requires.sound c.in-Return.is in
    IfOk-weaker c.result_rule.result (λ m. MakesRule g.P.Port.theory.code s m c.result_rule.new.self) _
    (λ m h. rule_advances g.P.Port.theory s s _ _ _ _ _ _ _
    (same_here g.P.Port.theory.code s c.requires.sound) inside m _ _ _ _ c.in-None-interruption.ensures.first
    (local_call g.P.Port.theory _ _ s _ _ _ _ m _ refl refl refl h))
    c.result_rule.ensures.ok

pub returns-in_ok-turn_rule-in-None-interruption-2-clause-ok : goal.returns-in_ok-turn_rule-in-None-interruption-2-clause-ok
returns-in_ok-turn_rule-in-None-interruption-2-clause-ok g c =
    let s = c.args.machine.now in
    let inside = inside_loop g.P.Port.theory.code s c.in-Turn.id c.in-Turn.turn c.requires.sound c.in-Turn.is in
    rule_advances g.P.Port.theory s s _ _ _ _ _ _ _
    (same_here g.P.Port.theory.code s c.requires.sound) inside Silent _ _ _ _ c.in-None-interruption-2.ensures.first
    (local_call g.P.Port.theory _ _ s _ _ _ _ Silent _ refl refl refl
    c.in_ok-turn_rule-in-None-interruption-2.ensures.ok)

pub returns-in-Await-clause-ok : goal.returns-in-Await-clause-ok
returns-in-Await-clause-ok g c =
    await_advances g.P.Port.theory _ _ c.args.machine.now c.in-Await.fiber _ _ _ _ _ _ c.requires.sound c.in-Await.is
    c.awaits.ensures

pub returns-in-Some-interruption-clause-ok : goal.returns-in-Some-interruption-clause-ok
returns-in-Some-interruption-clause-ok g c =
    let s = c.args.machine.now in
    let first = c.in-Some-interruption in
    IfOk-weaker c.interrupted-in-Some-interruption.result
    (λ m. Interrupts g.P.Port.theory.code s first.first m c.interrupted-in-Some-interruption.new.self) _
    (λ m h. interrupted_advances g.P.Port.theory s s _ _ _ _ _ _ _ (same_here g.P.Port.theory.code s c.requires.sound)
    (inside_result g.P.Port.theory.code s c.in-Return.done c.requires.sound c.in-Return.is) first.first m _ first.ensures.first first.ensures.facts h)
    c.interrupted-in-Some-interruption.ensures.ok

pub returns-in-Some-interruption-2-clause-ok : goal.returns-in-Some-interruption-2-clause-ok
returns-in-Some-interruption-2-clause-ok g c =
    let s = c.args.machine.now in
    let first = c.in-Some-interruption-2 in
    IfOk-weaker c.interrupted-in-Some-interruption-2.result
    (λ m. Interrupts g.P.Port.theory.code s first.first m c.interrupted-in-Some-interruption-2.new.self) _
    (λ m h. interrupted_advances g.P.Port.theory s s _ _ _ _ _ _ _ (same_here g.P.Port.theory.code s c.requires.sound)
    (inside_loop g.P.Port.theory.code s c.in-Turn.id c.in-Turn.turn c.requires.sound c.in-Turn.is) first.first m _ first.ensures.first first.ensures.facts h)
    c.interrupted-in-Some-interruption-2.ensures.ok

pub returns-in-Unwinding-clause-ok : goal.returns-in-Unwinding-clause-ok
returns-in-Unwinding-clause-ok g c = unwinding_advances g.P.Port.theory _ c.args.machine.now _ _ _ _ c.in-Unwinding.is c.unwinds.ensures
