-- A need that is kept is that of the node's term, and no more than the most.
use Rattle.std.proofs.Common.{◌≡◌, ◌<◌, ◌≤◌, ◌∙◌, length, subst, sym}
use Rattle.std.proofs.lemmas.Grind.{get_or_default_zero}
use Rattle.fx_term.specs.Need.{need, most_need}
use Rattle.fx_term.specs.Meaning.{term_of}
use Rattle.fx_term.proofs.NeedLaws.{each_needs_few, kept_need, within_needs}
use Rattle.fx_term.proofs.code.Code.need.Goals as goal

kept : (c : goal.After-row_known-1) → c.index.result.now ≡ need (term_of c.self.inside.nodes.items c.args.id.0)
kept c =
    let nodes = c.self.inside.nodes.items in
    let within : c.args.id.0 < length nodes = subst (λ view. c.args.id.0 < length view.nodes) (sym c.self.view_is) c.requires in
    c.index.ensures
    ∙ get_or_default_zero c.self.inside.needs.items c.args.id.0 c.index.result.now (within_needs nodes c.self.inside.needs.items c.self.invariant.1 _ within)
    ∙ kept_need c.self.inside.queues nodes c.self.inside.needs.items c.self.invariant.0 c.self.invariant.1 c.args.id.0 within

pub returns-clause-need : goal.returns-clause-need
returns-clause-need c = subst (λ view. c.index.result.now ≡ need (term_of view.nodes c.args.id.0)) c.self.view_is (kept c)

pub returns-clause-few : goal.returns-clause-few
returns-clause-few c =
    let within : c.args.id.0 < length c.self.inside.nodes.items = subst (λ view. c.args.id.0 < length view.nodes) (sym c.self.view_is) c.requires in
    subst (λ n. n ≤ most_need) (sym (kept c)) (each_needs_few c.self.inside.queues c.self.inside.nodes.items c.self.invariant.0 c.args.id.0 within)
