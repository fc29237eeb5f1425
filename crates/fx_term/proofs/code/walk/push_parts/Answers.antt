-- The parts are pushed, the last one first.
use Rattle.std.proofs.Common.{◌≡◌, ℕ, ◌-◌, ◌<◌, suc, None, length, sym, subst, arith}
use Rattle.std.specs.Prelude.{All, IfSome}
use Rattle.fx_term.specs.WellPlaced.{HasFewTurnsInside}
use Rattle.fx_term.proofs.PresentLaws.{all_entries}
use Rattle.fx_term.proofs.PendingLaws.{FromPushed, pushed_entry}
use Rattle.fx_term.proofs.code.walk.push_parts.Goals as goal

pub push_part-requires : goal.push_part-requires
push_part-requires c =
    let few = HasFewTurnsInside c.args.parent.turns in
    let each = all_entries few c.parts-parts.result (subst (All few) (sym c.parts-parts.ensures) c.requires.turns) in
    subst (λ entry. IfSome entry few) c.in-Some.is (each (c.loop-index.index - 1) None (omega arith))

pub loop-index-preserved : goal.loop-index-preserved
loop-index-preserved c =
    let within : c.loop-index.index - 1 < length c.parts-parts.result = omega arith in
    let next : c.loop-index.index ≡ suc (c.loop-index.index - 1) = omega arith in
    let pushed = λ (i : ℕ). FromPushed c.args.path.now c.args.parent c.parts-parts.result i c.args.stack.now.items c.loop-index.stack.items in
    pushed_entry c.args.path.now c.args.parent c.requires.foreign c.parts-parts.result c.args.stack.now.items (c.loop-index.index - 1) None within
    c.loop-index.stack.items (subst pushed next c.loop-index.invariant) c.in-Some.part c.push_part.new.stack.items c.in-Some.is c.in_ok-push_part.ensures.pushed
