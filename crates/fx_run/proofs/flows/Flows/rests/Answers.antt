use Rattle.std.proofs.Common.{arith, refl, ap, ◌++◌, ◌∷◌, [], List, ℕ, ◌∙◌}
use Rattle.std.proofs.lemmas.List.FromFn.{map-range_with_len_more}
use Rattle.fx_run.specs.Flows.{rest_in}
use Rattle.fx_run.proofs.flows.Flows.rests.Goals as goal

pub loop-queue-preserved : goal.loop-queue-preserved
loop-queue-preserved c =
    c.in_ok-push.ensures.items ∙ ap (λ (xs : List ℕ). xs ++ c.rest.result ∷ []) c.loop-queue.invariant
    ∙ rw (c.rest.ensures, map-range_with_len_more (rest_in c.args.self.now) 0 c.loop-queue.queue c.loop-queue.queue (omega arith)) refl
