use Rattle.std.proofs.Common.{◌≡◌, ℕ, suc, List, sum, refl, ◌∙◌, ap}
use Rattle.fx_plain.specs.PlainCalls.{PortView}
use Rattle.fx_plain.proofs.PutCounts.{sum_after}
use Rattle.fx_plain.proofs.plain_port.PlainPortPort.offer.Goals as goal

pub returns-clause-facts : goal.returns-clause-facts
returns-clause-facts g c =
    let counted : sum c.add.new.self.of.items ≡ suc (sum c.args.self.now.put_counts) =
    ap sum c.add.ensures ∙ sum_after c.args.queue _
    ∙ ap (λ (ns : List ℕ). suc (sum ns)) (c.in_ok-reserve.ensures.same ∙ ap (λ (p : PortView). p.put_counts) c.self.view_is) in
    rw (counted, ← c.self.view_is) refl
