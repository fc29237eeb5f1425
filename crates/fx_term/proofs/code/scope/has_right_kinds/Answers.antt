-- The test of each entry is that of each use.
use Rattle.std.proofs.Common.{rules, ℕ}
use Rattle.std.specs.Prelude.{◌↔◌, All, IfSome, IsTrue, slice_get}
use Rattle.fx_term.specs.Pending.{seen_past}
use Rattle.fx_term.specs.Signature.{uses}
use Rattle.fx_term.specs.WellPlaced.{IsUseOf}
use Rattle.fx_term.proofs.PresentLaws.{each_item}
use Rattle.fx_term.proofs.code.scope.has_right_kinds.Goals as goal

pub returns : goal.returns
returns c =
    let scope = λ (x : ℕ). slice_get (seen_past c.args.foreign c.args.kinds.now) x in
    let entries : IsTrue c.all.result ↔ All (λ entry. IfSome entry (IsUseOf scope)) c.uses-uses.result = search rules in
    each_item (IsUseOf scope) c.uses-uses.result (uses c.args.node) c.all.result c.uses-uses.ensures entries
