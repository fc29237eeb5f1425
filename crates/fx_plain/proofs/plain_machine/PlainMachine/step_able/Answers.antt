use Rattle.std.proofs.Common.{◌≡◌, ◌<◌, ◌∙◌, Some, None, inl, inr, refl, sym, ap, length, length-set, arith}
use Rattle.std.proofs.lemmas.List.{get_or_default}
use Rattle.std.specs.Prelude.{slice_index_or, slice_set}
use Rattle.fx_fiber.specs.declared.stepped.Stepped.TheVariants.{Child, Waits}
use Rattle.fx_plain.proofs.PlainMachineTries.{does_as, tries_step, tries_start, tries_waiting, child_below}
use Rattle.fx_plain.proofs.PlainMachineWaking.{able_has_place}
use Rattle.fx_plain.proofs.plain_machine.PlainMachine.step_able.Goals as goal

pub put-requires : goal.put-requires
put-requires g c =
    let nodes = g.J.CodeBrand.nodes in
    let at = c.in_ok-answer.ensures in
    let some = c.requires.stands in
    let place = able_has_place nodes some.0 c.args.self.now some.1 some.2 c.args.id c.requires.able in
    let here : slice_index_or c.args.self.now.fibers.items c.args.id None ≡ Some at.before =
    get_or_default c.args.self.now.fibers.items c.args.id None c.index_mut.result.now place ∙ sym c.index_mut.ensures.value ∙ at.from in
    let below : c.in-Child.fiber.port.number < length c.args.self.now.fibers.items =
    child_below nodes some.0 c.args.self.now some.1 some.2 c.args.id at.before here c.step_at.new.world at.after.fiber c.in-Child.fiber
    (does_as nodes _ _ _ _ _ _ (Child c.in-Child.fiber) refl c.in-Child.is at.does) in
    let id = c.id.ensures.is in
    let long = length-set c.args.self.now.fibers.items c.args.id c.step_at.new.place in
    omega arith

pub returns-in-Went : goal.returns-in-Went
returns-in-Went g c =
    let nodes = g.J.CodeBrand.nodes in
    let at = c.in_ok-answer.ensures in
    let some = c.requires.stands in
    let place = able_has_place nodes some.0 c.args.self.now some.1 some.2 c.args.id c.requires.able in
    let here : slice_index_or c.args.self.now.fibers.items c.args.id None ≡ Some at.before =
    get_or_default c.args.self.now.fibers.items c.args.id None c.index_mut.result.now place ∙ sym c.index_mut.ensures.value ∙ at.from in
    record {
      tries = λ s m so.
          tries_step nodes s c.args.self.now m so c.args.id at.before here _ at.after _ (ap (slice_set c.args.self.now.fibers.items c.args.id) at.to)
          c.step_at.new.world at.after.fiber at.parent refl at.number at.beginning c.in_ok-answer.answer
          (elim c.in-Went.is [ inl h ↦ inl h | inr h ↦ inr (inl h) ]) at.does refl refl c.requires.able;
    }

pub returns-in-Ended : goal.returns-in-Ended
returns-in-Ended g c =
    let nodes = g.J.CodeBrand.nodes in
    let at = c.in_ok-answer.ensures in
    let some = c.requires.stands in
    let place = able_has_place nodes some.0 c.args.self.now some.1 some.2 c.args.id c.requires.able in
    let here : slice_index_or c.args.self.now.fibers.items c.args.id None ≡ Some at.before =
    get_or_default c.args.self.now.fibers.items c.args.id None c.index_mut.result.now place ∙ sym c.index_mut.ensures.value ∙ at.from in
    record {
      tries = λ s m so.
          tries_step nodes s c.args.self.now m so c.args.id at.before here _ at.after _ (ap (slice_set c.args.self.now.fibers.items c.args.id) at.to)
          c.step_at.new.world at.after.fiber at.parent refl at.number at.beginning c.in_ok-answer.answer
          (inr (inr c.in-Ended.is)) at.does refl refl c.requires.able;
    }

pub returns-in-Child : goal.returns-in-Child
returns-in-Child g c =
    let nodes = g.J.CodeBrand.nodes in
    let at = c.in_ok-answer.ensures in
    let some = c.requires.stands in
    let place = able_has_place nodes some.0 c.args.self.now some.1 some.2 c.args.id c.requires.able in
    let here : slice_index_or c.args.self.now.fibers.items c.args.id None ≡ Some at.before =
    get_or_default c.args.self.now.fibers.items c.args.id None c.index_mut.result.now place ∙ sym c.index_mut.ensures.value ∙ at.from in
    record {
      tries = λ s m so.
          tries_start nodes s c.args.self.now m so c.args.id at.before here c.put.new.self at.after _
          (ap (slice_set c.args.self.now.fibers.items c.args.id) at.to)
          c.step_at.new.world at.after.fiber at.parent refl at.number at.beginning c.in-Child.fiber
          (does_as nodes _ _ _ _ _ _ (Child c.in-Child.fiber) refl c.in-Child.is at.does)
          _ refl refl (c.put.ensures.fibers ∙ rw c.new.ensures (rw c.id.ensures.is refl)) c.put.ensures.world c.requires.able;
    }

pub returns-in-Waits : goal.returns-in-Waits
returns-in-Waits g c =
    let nodes = g.J.CodeBrand.nodes in
    let at = c.in_ok-answer.ensures in
    let some = c.requires.stands in
    let place = able_has_place nodes some.0 c.args.self.now some.1 some.2 c.args.id c.requires.able in
    let here : slice_index_or c.args.self.now.fibers.items c.args.id None ≡ Some at.before =
    get_or_default c.args.self.now.fibers.items c.args.id None c.index_mut.result.now place ∙ sym c.index_mut.ensures.value ∙ at.from in
    record {
      tries = λ s m so.
          tries_waiting nodes s c.args.self.now m so c.args.id at.before here _ at.after _ (ap (slice_set c.args.self.now.fibers.items c.args.id) at.to)
          c.step_at.new.world at.after.fiber at.parent refl at.number at.beginning c.in-Waits.source
          (does_as nodes _ _ _ _ _ _ (Waits c.in-Waits.source) refl c.in-Waits.is at.does)
          refl c.wait.ensures c.requires.able;
    }
