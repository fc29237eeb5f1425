use Rattle.std.proofs.Common.{◌≡◌, ◌∙◌, Some, None, refl, sym, ap}
use Rattle.std.proofs.lemmas.List.{get_or_default}
use Rattle.std.specs.Prelude.{slice_index_or, slice_set}
use Rattle.fx_plain.proofs.PlainMachineFlows.{awaits_none, flow_woken, woken_waits_below}
use Rattle.fx_plain.proofs.PlainMachineWaking.{able_has_place, woken_stands, woken_able}
use Rattle.fx_plain.proofs.plain_machine.PlainMachine.flow.Goals as goal

pub wait-requires : goal.wait-requires
wait-requires g c =
    let nodes = g.J.CodeBrand.nodes in
    let p = c.args.self.now in
    let f = c.args.id in
    let w = c.wake.new.self in
    let is = c.wake.ensures in
    let least = c.requires.least in
    let some = c.requires.stands in
    let at = c.in_ok-source.ensures in
    let place = able_has_place nodes some.0 _ some.1 (woken_stands nodes p f w is least.0 some.0 some.1 some.2) f (woken_able nodes p f w is least.0 some) in
    let here : slice_index_or p.fibers.items f None ≡ Some at.before =
    get_or_default p.fibers.items f None c.index_mut.result.now place ∙ sym c.index_mut.ensures.value ∙ at.from in
    woken_waits_below nodes some.0 f p w is least some.1 some.2 at.before here c.in-Some.source at.after.fiber c.flow_at.new.world (rw c.in-Some.is at at.does)

pub returns-in-Some : goal.returns-in-Some
returns-in-Some g c =
    let nodes = g.J.CodeBrand.nodes in
    let p = c.args.self.now in
    let f = c.args.id in
    let w = c.wake.new.self in
    let is = c.wake.ensures in
    let least = c.requires.least in
    let some = c.requires.stands in
    let at = c.in_ok-source.ensures in
    let place = able_has_place nodes some.0 _ some.1 (woken_stands nodes p f w is least.0 some.0 some.1 some.2) f (woken_able nodes p f w is least.0 some) in
    let here : slice_index_or p.fibers.items f None ≡ Some at.before =
    get_or_default p.fibers.items f None c.index_mut.result.now place ∙ sym c.index_mut.ensures.value ∙ at.from in
    record {
      goes = λ s m so.
          flow_woken nodes s f p w is least m so at.before here (Some c.in-Some.source) at.after.fiber c.flow_at.new.world (rw c.in-Some.is at at.does)
          at.number at.beginning _ at.after (ap (slice_set p.fibers.items f) at.to) at.parent refl c.wait.ensures;
    }

pub returns-in_default : goal.returns-in_default
returns-in_default g c =
    let nodes = g.J.CodeBrand.nodes in
    let p = c.args.self.now in
    let f = c.args.id in
    let w = c.wake.new.self in
    let is = c.wake.ensures in
    let least = c.requires.least in
    let some = c.requires.stands in
    let at = c.in_ok-source.ensures in
    let place = able_has_place nodes some.0 _ some.1 (woken_stands nodes p f w is least.0 some.0 some.1 some.2) f (woken_able nodes p f w is least.0 some) in
    let here : slice_index_or p.fibers.items f None ≡ Some at.before =
    get_or_default p.fibers.items f None c.index_mut.result.now place ∙ sym c.index_mut.ensures.value ∙ at.from in
    record {
      goes = λ s m so.
          flow_woken nodes s f p w is least m so at.before here None at.after.fiber c.flow_at.new.world (rw (awaits_none _ c.in_default.not-Some) at at.does)
          at.number at.beginning _ at.after (ap (slice_set p.fibers.items f) at.to) at.parent refl refl;
    }
