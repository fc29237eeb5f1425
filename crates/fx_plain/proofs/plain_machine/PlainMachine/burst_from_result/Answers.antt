use Rattle.std.proofs.Common.{◌≡◌, ◌∙◌, Some, None, refl, sym, ap}
use Rattle.std.proofs.lemmas.List.{get_or_default}
use Rattle.std.specs.Prelude.{slice_index_or, slice_set}
use Rattle.fx_plain.specs.PlainMachine.{stays}
use Rattle.fx_plain.proofs.PlainMachineWaking.{able_has_place}
use Rattle.fx_plain.proofs.PlainMachineBursts.{bursts_go}
use Rattle.fx_plain.proofs.plain_machine.PlainMachine.burst_from_result.Goals as goal

pub returns-then-not-is_able : goal.returns-then-not-is_able
returns-then-not-is_able g c = record { goes = λ s m so. (m, stays so refl) }

pub returns : goal.returns
returns g c =
    let nodes = g.J.CodeBrand.nodes in
    let p = c.args.self.now in
    let at = c.in_ok-burst_from_result_at.ensures in
    let able = sym c.is_able.ensures ∙ c.if-not-is_able.false in
    let some = c.requires.stands in
    let place = able_has_place nodes some.0 p some.1 some.2 c.args.id able in
    let here : slice_index_or p.fibers.items c.args.id None ≡ Some at.before =
    get_or_default p.fibers.items c.args.id None c.index_mut.result.now place ∙ sym c.index_mut.ensures.value ∙ at.from in
    record {
      goes = λ s m so.
          bursts_go nodes s c.args.id p m so at.before here able _ at.n at.after.fiber c.burst_from_result_at.new.world at.does _ at.after
          (ap (slice_set p.fibers.items c.args.id) at.to) at.parent refl refl;
    }
