use Rattle.fx_picture.proofs.CausesDrawn.{cause_is_drawn, told_is_drawn, seen_is_drawn, draws_each}
use Rattle.fx_picture.proofs.laws.causes_are_drawn.Goals as goal

pub returns : goal.returns
returns c = record {
  needed = λ s may r lawful list order names stood handles blocked. cause_is_drawn s may r lawful list order names stood handles blocked;
  told = λ s may r lawful list order names stood handles blocked. told_is_drawn s may r lawful list order names stood handles blocked;
  requested = λ s may r lawful list order names stood handles blocked. seen_is_drawn s may r lawful list order names stood handles blocked;
  each = draws_each;
}
