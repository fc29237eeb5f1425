use Rattle.std.proofs.Common.{◌∙◌, ◌/◌, ◌%◌, ℕ, true, set, length, sym, ap, subst, arith}
use Rattle.std.proofs.lemmas.List.{length-set, set_past}
use Rattle.fx_term.proofs.BitLaws.{with_bit}
use Rattle.fx_port.specs.Marks.{marks_of, IsEndOf}
use Rattle.fx_port.proofs.MarkBits.{bits_long, bit_added, end_added}
use Rattle.fx_port.proofs.marks.Marks.mark.Goals as goal

pub invariant_of-self : goal.invariant_of-self
invariant_of-self c =
    let n = c.self.inside.numbers in
    let ws = c.self.inside.words.items in
    let inv = c.self.invariant in
    let enough = inv.0 in
    let word = with_bit c.index_mut.result.now (c.args.id % 64) in
    let long = length-set ws (c.args.id / 64) word in (
      omega (arith, enough, long),
      subst (λ (end : ℕ). IsEndOf end (marks_of n (set ws (c.args.id / 64) word))) (sym c.max-self-inside.ensures)
          (end_added n ws c.args.id c.index_mut.result.now c.if-id-self.true enough c.index_mut.ensures.value c.self.inside.end inv.1),
    )

pub returns-then-id-self : goal.returns-then-id-self
returns-then-id-self c =
    bit_added c.self.inside.numbers c.self.inside.words.items c.args.id c.index_mut.result.now c.if-id-self.true c.self.invariant.0 c.index_mut.ensures.value
    ∙ ap (λ l. set l c.args.id true) c.self.view_is

pub returns-else-id-self : goal.returns-else-id-self
returns-else-id-self c =
    let beyond = c.if-id-self.false in
    let long = sym (ap length c.self.view_is) ∙ bits_long c.self.inside.numbers c.self.inside.words.items in
    sym (set_past c.args.self.now c.args.id true (omega (arith, beyond, long)))
