use Rattle.std.proofs.Common.{refl}
use Rattle.fx_places.proofs.WalkLaws.{on_ok, popped, last_in}
use Rattle.fx_places.proofs.walk.Walk.close.Goals as goal

pub returns : goal.returns
returns c =
    let nodes = c.args.code.now.nodes in
    on_ok c.go_on.result (λ go text walk.
    go text (c.in_ok-add.ensures text (last_in text nodes c.args.self.now _ c.in-Some.group c.in-Some.ensures.items walk)
    (popped text nodes c.args.self.now _ c.in-Some.group refl c.in-Some.ensures.items walk))) c.go_on.ensures
