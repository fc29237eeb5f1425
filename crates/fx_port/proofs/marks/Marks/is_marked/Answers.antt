use Rattle.std.proofs.Common.{◌∙◌, sym, ap}
use Rattle.std.proofs.lemmas.Bool.{le-ltb}
use Rattle.fx_port.specs.Marks.{is_marked}
use Rattle.fx_port.proofs.MarkBits.{bit_told, bit_past}
use Rattle.fx_port.proofs.marks.Marks.is_marked.Goals as goal

pub returns-then-id-self : goal.returns-then-id-self
returns-then-id-self c =
    bit_told c.self.inside.numbers c.self.inside.words.items c.args.id c.index.result.now c.if-id-self.true c.self.invariant.0 c.index.ensures
    ∙ ap (λ l. is_marked l c.args.id) c.self.view_is

pub returns-else-id-self : goal.returns-else-id-self
returns-else-id-self c =
    le-ltb c.args.id c.self.inside.numbers c.if-id-self.false ∙ sym (bit_past c.self.inside.numbers c.self.inside.words.items c.args.id c.if-id-self.false)
    ∙ ap (λ l. is_marked l c.args.id) c.self.view_is
