use Rattle.std.proofs.Common.{◌≡◌, sym, ◌∙◌, ap, subst, ◌++◌, ◌∷◌, [], List}
use Rattle.std.specs.Prelude.{option_and_then}
use Rattle.fx_report.specs.declared.wait.Wait.{Wait}
use Rattle.fx_plain.specs.Started.{wait_of}
use Rattle.fx_plain.proofs.Waits.{one_wait_more, no_wait_more}
use Rattle.fx_plain.proofs.plain_machine.waits_of.Goals.{in-Some+in_ok-push, in_default}
use Rattle.fx_plain.proofs.plain_machine.waits_of.Goals as goal

pub loop-place-preserved : goal.loop-place-preserved
loop-place-preserved g c =
    let fibers = c.args.fibers.now in
    let i = c.loop-place.place-index in
    let told = sym c.wait_at.ensures in
    let here = subst (λ place. option_and_then (wait_of g.J.CodeBrand.nodes) place ≡ c.wait_at.result) c.place-item.is told in
    elim c.match-wait_at.branch [
      | in-Some+in_ok-push w ↦
          ap (λ v. v.items) w.waits-is ∙ w.in_ok-push.ensures.items ∙ ap (λ (ws : List Wait). ws ++ w.in-Some.wait ∷ []) c.loop-place.invariant
          ∙ sym (one_wait_more g.J.CodeBrand.nodes fibers i c.place-item.result w.in-Some.wait c.loop-place-test.true (here ∙ w.in-Some.is))
      | in_default w ↦
          ap (λ v. v.items) w.waits-is ∙ c.loop-place.invariant
          ∙ sym (no_wait_more g.J.CodeBrand.nodes fibers i c.place-item.result c.loop-place-test.true (here ∙ w.in_default.is))
    ]
