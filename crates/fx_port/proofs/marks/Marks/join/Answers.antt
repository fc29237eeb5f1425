use Rattle.std.proofs.Common.{◌∙◌, ℕ, sym, ap, take, set, add-one, true, arith}
use Rattle.fx_port.specs.Marks.{joined_marks}
use Rattle.fx_port.proofs.MarkLaws.{joined_none, joined_marked, joined_unmarked, joined_whole}
use Rattle.fx_port.proofs.marks.Marks.join.Goals.{then-is_marked, else-is_marked}
use Rattle.fx_port.proofs.marks.Marks.join.Goals as goal

pub loop-id-init : goal.loop-id-init
loop-id-init g c = sym (joined_none c.args.self.now)

pub loop-id-preserved : goal.loop-id-preserved
loop-id-preserved g c =
    let marks = c.args.self.now in
    let other = c.args.other.now in
    let k = c.loop-id.id in
    let more = ap (λ (n : ℕ). joined_marks marks (take n other)) (sym (add-one k)) in
    elim c.if-is_marked.branch [
      | then-is_marked w ↦ (w.self-is ∙ w.mark.ensures ∙ ap (λ l. set l k true) c.loop-id.invariant
          ∙ joined_marked marks other k (sym c.is_marked.ensures ∙ w.if-is_marked.true) ∙ more)
      | else-is_marked w ↦ (w.self-is ∙ c.loop-id.invariant ∙ joined_unmarked marks other k (sym c.is_marked.ensures ∙ w.if-is_marked.false) ∙ more)
    ]

pub returns : goal.returns
returns g c =
    let marks = c.args.self.now in
    let other = c.args.other.now in
    let end = c.loop-id-test.false in
    let most = c.loop-id.auto.id-end in
    c.loop-id.invariant ∙ ap (λ (n : ℕ). joined_marks marks (take n other)) (omega (arith, end, most))
    ∙ joined_whole marks other c.end-id-end.result c.end-id-end.ensures.past
