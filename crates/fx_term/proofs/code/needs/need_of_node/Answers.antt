-- The needs of the parts are taken together, the last one first.
use Rattle.std.proofs.Common.{◌≡◌, ◌∙◌, ℕ, ◌-◌, ◌<◌, suc, None, length, sym, ap, subst, arith}
use Rattle.std.specs.Prelude.{All, IfSome, slice_index}
use Rattle.fx_term.specs.declared.code.signature.Part.{Part}
use Rattle.fx_term.specs.Signature.{parts}
use Rattle.fx_term.proofs.AllParts.{all_from_map}
use Rattle.fx_term.proofs.NeedLaws.{need_from, need_of_entry}
use Rattle.fx_term.proofs.PresentLaws.{all_entries}
use Rattle.fx_term.proofs.code.needs.need_of_node.Goals as goal

pub need_of_part-requires : goal.need_of_part-requires
need_of_part-requires c =
    let Below = λ (p : Part). p.node.0 < length c.args.needs.now in
    let each = all_from_map (λ (id : ℕ). id < length c.args.needs.now) (λ (p : Part). p.node.0) (parts c.args.node) c.requires in
    subst (λ entry. IfSome entry Below) c.in-Some.is
    (all_entries Below c.parts-parts.result (subst (All Below) (sym c.parts-parts.ensures) each) (c.loop-index.index - 1) None (omega arith))

pub loop-index-preserved : goal.loop-index-preserved
loop-index-preserved c =
    let needs = λ (id : ℕ). slice_index c.args.needs.now id in
    let next : c.loop-index.index ≡ suc (c.loop-index.index - 1) = omega arith in
    c.need_of_both-need.ensures
    ∙ need_of_entry needs c.parts-parts.result (c.loop-index.index - 1) None c.in-Some.part (omega arith) c.in-Some.is c.need_of_part.result
    c.loop-index.need c.need_of_part.ensures (c.loop-index.invariant ∙ ap (need_from needs c.parts-parts.result) next)
