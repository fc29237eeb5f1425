use Rattle.std.proofs.Common.{refl, ap, ◌∙◌, sym, subst, arith}
use Rattle.std.specs.Prelude.{ℕ, List, ◌<◌, ◌∷◌, [], ◌++◌, All, length, slice_index}
use Rattle.fx_term.specs.NodeNeed.{capped, need_of_node}
use Rattle.fx_term.specs.Tree.{children}
use Rattle.fx_text.proofs.ReaderLaws.{all_below, adds}
use Rattle.fx_text.proofs.reader.Reader.add.Goals as goal

pub need_of_node-need-requires : goal.need_of_node-need-requires
need_of_node-need-requires c =
    let each = c.requires.made.each.each in
    subst (λ (needs : List ℕ). All (λ child. child < length needs) (children c.args.node)) (sym c.deref.ensures.value)
    (subst (λ (n : ℕ). All (λ child. child < n) (children c.args.node)) (sym each) (all_below _ _ c.requires.children))

pub returns : goal.returns
returns c =
    let needs = c.args.self.now.needs.items in
    let value = c.need_of_node-need.ensures
    ∙ ap (λ (l : List ℕ). capped (need_of_node (λ id. slice_index l id) c.args.node)) c.deref.ensures.value in
    adds _ _ c.args.node _ c.in_ok-push.ensures.items (c.in_ok-push-2.ensures.items ∙ ap (λ (n : ℕ). needs ++ n ∷ []) value) refl refl
    (omega (arith, c.len.ensures, c.args.self.now.nodes.ok.0)) c.requires.made c.requires.children
