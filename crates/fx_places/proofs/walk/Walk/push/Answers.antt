use Rattle.std.proofs.Common.{ℕ, ◌∙◌, sym, subst, arith}
use Rattle.std.proofs.lemmas.List.Elements.{All-push}
use Rattle.fx_places.specs.Places.{IsFormPlace, IsMadeAt}
use Rattle.fx_places.proofs.WalkLaws.{made_push, made_at}
use Rattle.fx_places.proofs.walk.Walk.push.Goals as goal

pub returns : goal.returns
returns c text form walk =
    let places = c.args.self.now.places.items in
    let nodes = c.args.code.now.nodes in
    let makes = sym c.makes.ensures ∙ c.if-not-makes.false in
    let made = made_at nodes _ _ c.args.place c.node.ensures.node makes in
    let next = subst (λ (n : ℕ). IsMadeAt nodes n c.args.place) (omega (arith, c.len-next.ensures)) made in
    record {
      groups = walk.groups;
      forms = rw c.in_ok-push.ensures.items (All-push (IsFormPlace text) places c.args.place walk.forms form);
      made = rw c.in_ok-push.ensures.items (made_push nodes 0 places c.args.place walk.made next);
    }
