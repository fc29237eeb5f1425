-- The test of each entry is that of each part.
use Rattle.std.proofs.Common.{rules}
use Rattle.std.specs.Prelude.{◌↔◌, All, IfSome, IsTrue}
use Rattle.fx_term.specs.Signature.{parts}
use Rattle.fx_term.specs.WellPlaced.{HasFewTurnsInside}
use Rattle.fx_term.proofs.PresentLaws.{each_item}
use Rattle.fx_term.proofs.code.turns.has_right_turns.Goals as goal

pub returns : goal.returns
returns c =
    let entries : IsTrue c.all.result ↔ All (λ entry. IfSome entry (HasFewTurnsInside c.args.turns)) c.parts-parts.result = search rules in
    each_item (HasFewTurnsInside c.args.turns) c.parts-parts.result (parts c.args.node) c.all.result c.parts-parts.ensures entries
