use Rattle.std.proofs.Common.{◌≡◌, ◌+◌, suc, refl, arith}
use Rattle.std.proofs.Math.Numerals.{add-one}
use Rattle.fx_model.specs.Row.{Silent}
use Rattle.fx_fiber.proofs.Results.{on_any_error}
use Rattle.fx_fiber.proofs.Bursts.{one_more_rule, no_further, still_looked, looked_here}
use Rattle.fx_fiber.specs.declared.fiber.ahead.Looked.TheVariants.{InVain}
use Rattle.fx_fiber.proofs.fiber.flow.loop_turn.Goals as goal

pub returns-in_err-glide_turn-clause-err : goal.returns-in_err-glide_turn-clause-err
returns-in_err-glide_turn-clause-err g c =
    let asked = c.requires.1.1.1 in
    on_any_error c.from_residual.result (
      c.args.from,
      asked.0,
      no_further g.P.Port.theory _ _ c.args.from _ _ _ c.args.body.now.machine c.glide_turn.new.machine _ _ _ asked.1.0 c.in_err-glide_turn.ensures.err refl,
    )

pub returns-then-branch-clause-ok : goal.returns-then-branch-clause-ok
returns-then-branch-clause-ok g c =
    let asked = c.requires.1.1.1 in
    let s = c.args.body.now.machine in
    let left = c.if-most-from-lt2.false in
    let few = asked.0 in
    let h = rw c.if-branch.true at c.in_ok-glide_turn.ensures.ok in
    let two : c.args.from + 2 ≡ suc (c.args.from + 1) = omega arith in (
      omega arith,
      rw two (one_more_rule g.P.Port.theory _ _ (c.args.from + 1) _ _ _ h.0 c.glide_turn.new.machine _ _ _ _
          (rw add-one (one_more_rule g.P.Port.theory _ _ c.args.from _ _ _ s h.0 _ _ _ _ asked.1.0 (h.1 _))) (h.2 _)),
      still_looked g.P.Port.theory InVain _ _ h.0 c.glide_turn.new.machine Silent (h.2 0).rule.1 tt
          (still_looked g.P.Port.theory InVain _ _ s h.0 Silent (h.1 0).rule.1 tt asked.1.1.0),
    )

pub returns-clause-ok : goal.returns-clause-ok
returns-clause-ok g c =
    let asked = c.requires.1.1.1 in
    let s = c.args.body.now.machine in
    let few = asked.0 in
    let same = rw c.if-branch.false at c.in_ok-glide_turn.ensures.ok in (
      omega arith,
      no_further g.P.Port.theory _ _ c.args.from _ _ _ s c.glide_turn.new.machine _ _ _ asked.1.0 same refl,
      looked_here g.P.Port.theory InVain _ _ s c.glide_turn.new.machine same asked.1.1.0,
    )
