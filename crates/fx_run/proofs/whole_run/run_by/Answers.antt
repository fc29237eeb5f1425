use Rattle.std.proofs.Common.{◌≡◌, ℕ, List, Some, arith, map, ◌∙◌, ap, subst}
use Rattle.std.specs.Prelude.{slice_get}
use Rattle.fx_text.specs.declared.queue_decl.QueueDecl.{QueueDecl}
use Rattle.fx_run.proofs.Declared.{can_be_opened, are_meant}
use Rattle.fx_run.proofs.whole_run.run_by.Goals as goal

pub new-requires : goal.new-requires
new-requires g c = (let is = c.total-total.ensures.is in (omega (arith, is), c.total-total.ensures.few))

pub open_queues-requires-clause-capacities : goal.open_queues-requires-clause-capacities
open_queues-requires-clause-capacities g c = λ q cap e.
    can_be_opened c.args.script.now.queues.items q cap
    (subst (λ (caps : List ℕ). slice_get caps q ≡ Some cap)
    (c.deref-2.ensures.value ∙ c.in_ok-capacities.ensures.caps ∙ ap (map (λ (q : QueueDecl). q.cap)) c.deref.ensures.value) e)

pub close_run-requires-clause-capacities : goal.close_run-requires-clause-capacities
close_run-requires-clause-capacities g c =
    c.in_ok-queues.ensures.capacities ∙ c.deref-2.ensures.value ∙ c.in_ok-capacities.ensures.caps
    ∙ ap (map (λ (q : QueueDecl). q.cap)) c.deref.ensures.value ∙ are_meant c.args.script.now
