use Rattle.std.proofs.Common.{sym, ◌∙◌, ap, ◌++◌, ◌∷◌, [], ℕ, List, false, slice_index_or}
use Rattle.fx_plain.proofs.NumbersUpTo.{one_passes, none_passes}
use Rattle.fx_plain.proofs.plain_world.PlainWorld.outside.Goals.{then-is_from_outside+in_ok-push, else-is_from_outside}
use Rattle.fx_plain.proofs.plain_world.PlainWorld.outside.Goals as goal

pub loop-fiber-preserved : goal.loop-fiber-preserved
loop-fiber-preserved c =
    let from_outside = λ (f : ℕ). slice_index_or c.args.self.now.from_outside f false in
    elim c.if-is_from_outside.branch [
      | then-is_from_outside+in_ok-push w ↦
          ap (λ v. v.items) w.numbers-is ∙ w.in_ok-push.ensures.items ∙ ap (λ (ns : List ℕ). ns ++ c.loop-fiber.fiber ∷ []) c.loop-fiber.invariant
          ∙ sym (one_passes c.loop-fiber.fiber from_outside (sym c.is_from_outside.ensures ∙ w.if-is_from_outside.true))
      | else-is_from_outside w ↦
          ap (λ v. v.items) w.numbers-is ∙ c.loop-fiber.invariant
          ∙ sym (none_passes c.loop-fiber.fiber from_outside (sym c.is_from_outside.ensures ∙ w.if-is_from_outside.false))
    ]
