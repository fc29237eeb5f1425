-- The tests of each entry are those of each use and each part.
use Rattle.std.proofs.Common.{rules, sym, ◌∙◌}
use Rattle.std.specs.Prelude.{◌↔◌, All, IfSome, IsTrue}
use Rattle.std.proofs.lemmas.Bool.{false≢true}
use Rattle.fx_term.specs.Signature.{uses, parts}
use Rattle.fx_term.specs.WellPlaced.{IsUseBelow, IsNextBinder}
use Rattle.fx_term.proofs.PresentLaws.{each_item}
use Rattle.fx_term.proofs.code.scope.has_right_slots.Goals as goal

pub returns-then-all : goal.returns-then-all
returns-then-all c =
    let below = IsUseBelow c.args.names in
    let next = IsNextBinder c.args.names in
    let used : IsTrue c.all.result ↔ All (λ entry. IfSome entry below) c.uses-uses.result = search rules in
    let bound : IsTrue c.all-then-all.result ↔ All (λ entry. IfSome entry next) c.parts-parts.result = search rules in
    let each_use = each_item below c.uses-uses.result (uses c.args.node) c.all.result c.uses-uses.ensures used in
    let each_binder = each_item next c.parts-parts.result (parts c.args.node) c.all-then-all.result c.parts-parts.ensures bound in
    (λ yes. record { binders = each_binder.0 yes; uses = each_use.0 c.if-all.true }, λ right. each_binder.1 right.binders)

pub returns-else-all : goal.returns-else-all
returns-else-all c =
    let below = IsUseBelow c.args.names in
    let used : IsTrue c.all.result ↔ All (λ entry. IfSome entry below) c.uses-uses.result = search rules in
    let each_use = each_item below c.uses-uses.result (uses c.args.node) c.all.result c.uses-uses.ensures used in
    (λ yes. absurd (false≢true (sym c.if-all.false ∙ yes)), λ right. each_use.1 right.uses)
