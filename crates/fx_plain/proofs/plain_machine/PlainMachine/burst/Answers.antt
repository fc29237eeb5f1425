use Rattle.std.proofs.Common.{◌≡◌, ◌∙◌, true, false, Some, None, refl, sym, ap}
use Rattle.std.proofs.lemmas.List.{get_or_default}
use Rattle.std.specs.Prelude.{slice_index_or, slice_set}
use Rattle.fx_plain.specs.PlainMachine.{stays}
use Rattle.fx_plain.proofs.PlainMachineWaking.{able_has_place}
use Rattle.fx_plain.proofs.PlainMachineBursts.{bursts_go}
use Rattle.fx_plain.specs.declared.plain_machine.Next.TheVariants.{Burst, Step}
use Rattle.fx_plain.proofs.plain_machine.PlainMachine.burst.Goals.{in-Burst, in_default}
use Rattle.fx_plain.proofs.plain_machine.PlainMachine.burst.Goals as goal

pub returns-in_ok-burst_at : goal.returns-in_ok-burst_at
returns-in_ok-burst_at g c =
    let nodes = g.J.CodeBrand.nodes in
    let p = c.args.self.now in
    let at = c.in_ok-burst_at.ensures in
    let able = sym c.is_able.ensures ∙ c.if-is_able.true in
    let some = c.requires.stands in
    let place = able_has_place nodes some.0 p some.1 some.2 c.args.id able in
    let here : slice_index_or p.fibers.items c.args.id None ≡ Some at.before =
    get_or_default p.fibers.items c.args.id None c.index_mut.result.now place ∙ sym c.index_mut.ensures.value ∙ at.from in
    record {
      goes = λ s m so.
          bursts_go nodes s c.args.id p m so at.before here able _ at.n at.after.fiber c.burst_at.new.world at.does _ at.after
          (ap (slice_set p.fibers.items c.args.id) at.to) at.parent refl refl;
      none = λ is. elim c.match-matches.branch [
        | in-Burst w ↦ absurd (let e : Burst ≡ Step = sym w.in-Burst.is ∙ is in cc)
        | in_default w ↦ absurd (let z : true ≡ false = sym c.if-matches.true ∙ w.matches-is in cc)
      ];
    }

pub returns-else-matches : goal.returns-else-matches
returns-else-matches g c = record { goes = λ s m so. (m, stays so refl); none = λ is. refl }
