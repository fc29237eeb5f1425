use Rattle.fx_places.specs.Places.{StandsAt}
use Rattle.std.proofs.Common.{ℕ, ◌∷◌, subst}
use Rattle.fx_places.proofs.WalkLaws.{on_ok}
use Rattle.fx_places.proofs.walk.Walk.step.Goals as goal

pub returns-in-40 : goal.returns-in-40
returns-in-40 c = on_ok c.open.result (λ go text stands walk.
    go text _ (subst (λ (b : ℕ). StandsAt text (b ∷ c.args.inside.now) c.args.position) c.in-40.is stands) walk) c.open.ensures

pub returns-in-41 : goal.returns-in-41
returns-in-41 c = on_ok c.close.result (λ go text stands walk. go text walk) c.close.ensures
