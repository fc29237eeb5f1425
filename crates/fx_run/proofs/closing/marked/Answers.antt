use Rattle.std.proofs.Common.{◌≡◌, ◌<◌, ℕ, ◌+◌, List, true, false, ◌∙◌, sym, ap, subst, arith}
use Rattle.std.specs.List.{AllPairs}
use Rattle.fx_port.specs.Marks.{is_marked}
use Rattle.fx_run.specs.Closing.{AreMarked}
use Rattle.fx_run.proofs.MarkedNumbers.{told_more, told_as_well, rising_more}
use Rattle.fx_run.proofs.closing.marked.Goals.{then-is_marked+in_ok-push, else-is_marked}
use Rattle.fx_run.proofs.closing.marked.Goals as goal

pub loop-id-preserved : goal.loop-id-preserved
loop-id-preserved c =
    let marks = c.args.marks.now in
    let n = c.loop-id.id in
    let numbers = c.loop-id.numbers.items in
    let inv = c.loop-id.invariant in
    let Kept : List ℕ → Type 0 = λ l. record { rising : AllPairs (λ (i j : ℕ). i < j) l; marked : AreMarked (n + 1) marks l } in
    elim c.if-is_marked.branch [
      | then-is_marked+in_ok-push w ↦ (
          let here : is_marked marks n ≡ true = sym c.is_marked.ensures ∙ w.if-is_marked.true in
          subst Kept (sym (ap (λ v. v.items) w.numbers-is ∙ w.in_ok-push.ensures.items))
          (record { rising = rising_more marks numbers n inv.rising inv.marked; marked = told_more marks numbers n here inv.marked }))
      | else-is_marked w ↦ (
          let none : is_marked marks n ≡ false = sym c.is_marked.ensures ∙ w.if-is_marked.false in
          subst Kept (sym (ap (λ v. v.items) w.numbers-is)) (record { rising = inv.rising; marked = told_as_well marks numbers n none inv.marked }))
    ]

pub returns-clause-marked : goal.returns-clause-marked
returns-clause-marked c =
    let end = c.loop-id-test.false in
    let most = c.loop-id.auto.id-end in
    subst (λ (n : ℕ). AreMarked n c.args.marks.now c.loop-id.numbers.items) (omega (arith, end, most)) c.loop-id.invariant.marked
