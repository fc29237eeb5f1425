use Rattle.std.proofs.Common.{arith, ◌≡◌, ◌∙◌, ap, ℕ, Option}
use Rattle.std.specs.Prelude.{unwrap_or, nat_eq}
use Rattle.std.specs.HashMap.{get}
use Rattle.fx_counts.proofs.SoFar.{puts_within}
use Rattle.fx_counts.proofs.queue_so_far.QueueSoFar.add.Goals as goal

pub overflow_add-nth : goal.overflow_add-nth
overflow_add-nth c =
    let few = puts_within c.args.self.now c.requires.0 c.args.fiber c.requires.1 in
    let small = c.args.self.now.put.small in
    let ok = c.args.self.now.put.ok in
    let is : c.unwrap_or-nth.result ≡ unwrap_or (get nat_eq c.args.self.now.puts c.args.fiber) 0 =
    c.unwrap_or-nth.ensures ∙ ap (λ (o : Option ℕ). unwrap_or o 0) (c.copied.ensures ∙ c.get.ensures.value) in
    omega arith
