use Rattle.std.proofs.Common.{◌≡◌, [], ◌∷◌, ◌++◌, List, take, All, sym, ◌∙◌, ap, subst}
use Rattle.std.specs.Prelude.{slice_index_or}
use Rattle.std.proofs.lemmas.List.{take_more}
use Rattle.std.proofs.lemmas.List.Elements.{All-nil, All-cons, All-append}
use Rattle.fx_model.specs.declared.source.Source.TheVariants.{Nothing}
use Rattle.fx_report.specs.declared.wait.Wait.{Wait}
use Rattle.fx_report.specs.Waits.{waits_in}
use Rattle.fx_report.proofs.BlockedFibers.{waits_append}
use Rattle.fx_plain.specs.Standing.{IsNodeAt, StandsIn}
use Rattle.fx_plain.proofs.plain_machine.PlainMachine.all_blocked.Goals as goal

pub loop-wait-preserved : goal.loop-wait-preserved
loop-wait-preserved g c =
    let waits = c.args.waits.now in
    let i = c.loop-wait.wait-index in
    let other : Wait = record { fiber = 0; source = Nothing } in
    let wait = slice_index_or waits i other in
    let Stands = StandsIn g.J.CodeBrand.nodes c.args.self.now in
    let its : c.blocked.result.wait ≡ wait = c.blocked.ensures.wait in
    let here : Stands c.blocked.result =
    subst (λ (w : Wait). IsNodeAt g.J.CodeBrand.nodes (slice_index_or c.args.self.now.fibers.items w.fiber _) c.blocked.result.node) (sym its)
    c.blocked.ensures.node in (
      ap waits_in c.in_ok-push.ensures.items ∙ waits_append c.loop-wait.all.items c.blocked.result
          ∙ ap (λ (ws : List Wait). ws ++ c.blocked.result.wait ∷ []) c.loop-wait.invariant.0 ∙ ap (λ (w : Wait). take i waits ++ w ∷ []) its
          ∙ sym (take_more waits i other c.loop-wait-test.true),
      subst (All Stands) (sym c.in_ok-push.ensures.items)
          (All-append Stands c.loop-wait.all.items (c.blocked.result ∷ []) c.loop-wait.invariant.1
          (All-cons Stands c.blocked.result [] here (All-nil Stands))),
    )
