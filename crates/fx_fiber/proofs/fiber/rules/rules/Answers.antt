use Rattle.std.proofs.Common.{◌≡◌, ◌+◌, ◌-◌, suc, arith, refl, ◌∙◌}
use Rattle.std.proofs.Math.Numerals.{add-one}
use Rattle.fx_model.specs.Row.{Silent, Shows}
use Rattle.fx_fiber.proofs.Results.{on_any_error}
use Rattle.fx_fiber.proofs.Bursts.{one_more_rule, one_more_shown, no_further, still_looked, looked_here}
use Rattle.fx_fiber.proofs.fiber.rules.rules.Goals as goal

pub loop-left-init : goal.loop-left-init
loop-left-init g c =
    let asked = c.requires.1.1.1 in
    let few = asked.0 in
    record {
      to = (c.args.from, omega arith, asked.1.0);
      looked = asked.1.1.1;
      room = λ lt. asked.1.1.0 (omega arith);
      id = refl;
      source = refl;
    }

pub returns-in_err-glide-clause-err : goal.returns-in_err-glide-clause-err
returns-in_err-glide-clause-err g c =
    let at = c.loop-left in
    let to = at.invariant.to in
    let more = c.loop-left-test.true in
    let sum = to.1 in
    on_any_error c.from_residual.result (
      to.0,
      omega arith,
      no_further g.P.Port.theory _ _ to.0 _ _ _ at.body.machine c.glide.new.machine _ _ _ to.2 c.in_err-glide.ensures.same refl,
    )

pub returns-in_err-event-in-Returns-clause-err : goal.returns-in_err-event-in-Returns-clause-err
returns-in_err-event-in-Returns-clause-err g c =
    let at = c.loop-left in
    let to = at.invariant.to in
    let more = c.loop-left-test.true in
    let sum = to.1 in
    let here = rw c.in-Returns.is at c.in_ok-glide.ensures.ok in
    on_any_error c.from_residual-in_err-event-in-Returns.result (
      to.0,
      omega arith,
      no_further g.P.Port.theory _ _ to.0 _ _ _ c.glide.new.machine c.bracket_rule.new.machine _ _ _
          (no_further g.P.Port.theory _ _ to.0 _ _ _ at.body.machine c.glide.new.machine _ _ _ to.2 here refl)
          c.in_err-event-in-Returns.ensures.same refl,
    )

pub returns-in_err-have_room-in-Some-clause-err : goal.returns-in_err-have_room-in-Some-clause-err
returns-in_err-have_room-in-Some-clause-err g c =
    let at = c.loop-left in
    let to = at.invariant.to in
    let more = c.loop-left-test.true in
    let still = c.if-left-gt0.true in
    let sum = to.1 in
    let here = rw c.in-Returns.is at c.in_ok-glide.ensures.ok in
    let shown = rw c.in-Some.is at c.in_ok-event-in-Returns.ensures.ok in
    on_any_error c.from_residual-in_err-have_room-in-Some.result
    (rw (c.in_err-have_room-in-Some.ensures.items, c.show.ensures.machine) (
      to.0 + 1,
      omega arith,
      rw add-one (one_more_shown g.P.Port.theory _ _ to.0 _ _ _ c.glide.new.machine c.bracket_rule.new.machine _ _ _ _ _ _ c.in-Some.event
          (no_further g.P.Port.theory _ _ to.0 _ _ _ at.body.machine c.glide.new.machine _ _ _ to.2 here refl)
          (shown.0 _) shown.1 c.show.ensures.trace c.show.ensures.clock),
    ))

pub returns-in-None-clause-ok : goal.returns-in-None-clause-ok
returns-in-None-clause-ok g c =
    let at = c.loop-left in
    let to = at.invariant.to in
    let sum = to.1 in
    let made : c.args.most - at.left ≡ to.0 = omega arith in
    let here = rw c.in-Returns.is at c.in_ok-glide.ensures.ok in
    let none = rw c.in-None.is at c.in_ok-event-in-Returns.ensures.ok in (
      omega arith,
      rw made (no_further g.P.Port.theory _ _ to.0 _ _ _ c.glide.new.machine c.bracket_rule.new.machine _ _ _
          (no_further g.P.Port.theory _ _ to.0 _ _ _ at.body.machine c.glide.new.machine _ _ _ to.2 here refl) none refl),
    )

pub returns-in-Looks-clause-ok : goal.returns-in-Looks-clause-ok
returns-in-Looks-clause-ok g c =
    let at = c.loop-left in
    let to = at.invariant.to in
    let more = c.loop-left-test.true in
    let sum = to.1 in
    let made : c.args.most - at.left ≡ to.0 = omega arith in
    let h = rw c.in-Looks.is at c.in_ok-glide.ensures.ok in (
      omega arith,
      rw made (no_further g.P.Port.theory _ _ to.0 _ _ _ at.body.machine c.glide.new.machine _ _ _ to.2 h.0 refl),
      h.1,
      at.invariant.room more,
    )

pub returns-in-Stops-clause-ok : goal.returns-in-Stops-clause-ok
returns-in-Stops-clause-ok g c =
    let at = c.loop-left in
    let to = at.invariant.to in
    let sum = to.1 in
    let made : c.args.most - at.left ≡ to.0 = omega arith in
    let h = rw c.in-Stops.is at c.in_ok-glide.ensures.ok in
    (omega arith, rw made (no_further g.P.Port.theory _ _ to.0 _ _ _ at.body.machine c.glide.new.machine _ _ _ to.2 h refl))

pub loop-left-preserved-in-Went : goal.loop-left-preserved-in-Went
loop-left-preserved-in-Went g c =
    let at = c.loop-left in
    let i = at.invariant in
    let more = c.loop-left-test.true in
    let sum = i.to.1 in
    let h = rw c.in-Went.is at c.in_ok-glide.ensures.ok in
    record {
      to = (
        i.to.0 + 1,
        omega arith,
        rw add-one (one_more_rule g.P.Port.theory _ _ i.to.0 _ _ _ at.body.machine c.glide.new.machine _ _ _ _ i.to.2 (h _)),
      );
      looked = still_looked g.P.Port.theory c.args.looked _ _ at.body.machine c.glide.new.machine Silent (h 0).rule.1 tt i.looked;
      room = λ lt. i.room more;
      id = i.id;
      source = i.source;
    }

pub loop-left-preserved-in-WentTwice : goal.loop-left-preserved-in-WentTwice
loop-left-preserved-in-WentTwice g c =
    let at = c.loop-left in
    let i = at.invariant in
    let more = c.loop-left-test.true in
    let sum = i.to.1 in
    let h = rw c.in-WentTwice.is at c.in_ok-glide.ensures.ok in
    let left = h.0 in
    let two : i.to.0 + 2 ≡ suc (i.to.0 + 1) = omega arith in
    record {
      to = (
        i.to.0 + 2,
        omega arith,
        rw two (one_more_rule g.P.Port.theory _ _ (i.to.0 + 1) _ _ _ h.1 c.glide.new.machine _ _ _ _
            (rw add-one (one_more_rule g.P.Port.theory _ _ i.to.0 _ _ _ at.body.machine h.1 _ _ _ _ i.to.2 (h.2 _))) (h.3 _)),
      );
      looked = still_looked g.P.Port.theory c.args.looked _ _ h.1 c.glide.new.machine Silent (h.3 0).rule.1 tt
          (still_looked g.P.Port.theory c.args.looked _ _ at.body.machine h.1 Silent (h.2 0).rule.1 tt i.looked);
      room = λ lt. i.room more;
      id = i.id;
      source = i.source;
    }

pub loop-left-preserved-in-Continue-branch-5 : goal.loop-left-preserved-in-Continue-branch-5
loop-left-preserved-in-Continue-branch-5 g c =
    let at = c.loop-left in
    let i = at.invariant in
    let more = c.loop-left-test.true in
    let sum = i.to.1 in
    let here = rw c.in-Returns.is at c.in_ok-glide.ensures.ok in
    let shown = rw c.in-Some.is at c.in_ok-event-in-Returns.ensures.ok in
    rw (c.in_ok-have_room-in-Some.ensures.items, c.show.ensures.machine)
    (record {
      to = (
        i.to.0 + 1,
        omega arith,
        rw add-one (one_more_shown g.P.Port.theory _ _ i.to.0 _ _ _ c.glide.new.machine c.bracket_rule.new.machine _ _ _ _ _ _ c.in-Some.event
            (no_further g.P.Port.theory _ _ i.to.0 _ _ _ at.body.machine c.glide.new.machine _ _ _ i.to.2 here refl)
            (shown.0 _) shown.1 c.show.ensures.trace c.show.ensures.clock),
      );
      looked = still_looked g.P.Port.theory c.args.looked _ _ c.glide.new.machine c.bracket_rule.new.machine (Shows c.in-Some.event)
          (shown.0 0).rule shown.1 (looked_here g.P.Port.theory c.args.looked _ _ at.body.machine c.glide.new.machine here i.looked);
      room = λ lt. c.in_ok-have_room-in-Some.ensures.ok;
      id = c.show.ensures.id ∙ i.id;
      source = c.show.ensures.source ∙ i.source;
    })

pub loop-left-preserved : goal.loop-left-preserved
loop-left-preserved g c =
    let at = c.loop-left in
    let i = at.invariant in
    let more = c.loop-left-test.true in
    let sum = i.to.1 in
    let here = rw c.in-Returns.is at c.in_ok-glide.ensures.ok in
    let shown = rw c.in-Some.is at c.in_ok-event-in-Returns.ensures.ok in
    rw c.show.ensures.machine
    (record {
      to = (
        i.to.0 + 1,
        omega arith,
        rw add-one (one_more_shown g.P.Port.theory _ _ i.to.0 _ _ _ c.glide.new.machine c.bracket_rule.new.machine _ _ _ _ _ _ c.in-Some.event
            (no_further g.P.Port.theory _ _ i.to.0 _ _ _ at.body.machine c.glide.new.machine _ _ _ i.to.2 here refl)
            (shown.0 _) shown.1 c.show.ensures.trace c.show.ensures.clock),
      );
      looked = still_looked g.P.Port.theory c.args.looked _ _ c.glide.new.machine c.bracket_rule.new.machine (Shows c.in-Some.event)
          (shown.0 0).rule shown.1 (looked_here g.P.Port.theory c.args.looked _ _ at.body.machine c.glide.new.machine here i.looked);
      room = λ lt. absurd (let not = c.if-left-gt0.false in omega arith);
      id = c.show.ensures.id ∙ i.id;
      source = c.show.ensures.source ∙ i.source;
    })
