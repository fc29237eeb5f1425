use Rattle.std.proofs.Common.{[], refl, ◌∙◌, ap, arith}
use Rattle.std.proofs.lemmas.Result.{IfOk-from_err}
use Rattle.fx_fiber.proofs.Advances.{same_here, same_trans}
use Rattle.fx_fiber.proofs.Results.{on_any_error}
use Rattle.fx_fiber.proofs.StampedRuns.{unraised}
use Rattle.fx_fiber.proofs.Telling.{going_at, is_made, same_is_unchanged, same_is_kept, told_keeps, told_same, told_steps, start_does}
use Rattle.fx_fiber.specs.PortFacts.{Facts}
use Rattle.fx_fiber.proofs.fiber.step.step.Goals as goal

pub advance-requires : goal.advance-requires
advance-requires g c =
    let k = c.requires.kept in
    let s = c.args.body.now.machine in
    record {
      code = c.requires.code;
      sound = k.sound;
      going = going_at g.P.Port.theory.code s.registers s.frames s.masks.regions s.cleanups s.focus c.requires.going;
      masks_countable = let q = k.countable in omega arith;
      resources_countable = let q = k.countable in omega arith;
      puts_countable = let q = k.countable in omega arith;
      scoped = k.scoped;
    }

pub returns-in_err-have_room : goal.returns-in_err-have_room
returns-in_err-have_room g c =
    let k = c.requires.kept in
    let s = c.args.body.now.machine in
    let p = c.args.port.now in
    let same = same_here g.P.Port.theory.code s k.sound in
    let items = c.in_err-have_room.ensures.items in
    record {
      ok = IfOk-from_err c.from_residual.result _ c.from_residual.ensures.0;
      err = on_any_error c.from_residual.result (same_is_unchanged g.P.Port.theory.code p p _ _ s s _ _ same refl items, refl);
      kept = same_is_kept g.P.Port.theory p p _ _ _ _ s s k same refl items refl;
      id = refl;
      source = refl;
      number = refl;
      beginning = refl;
    }

pub returns-in_err-made : goal.returns-in_err-made
returns-in_err-made g c =
    let k = c.requires.kept in
    let s = c.args.body.now.machine in
    let p = c.args.port.now in
    let failed = c.in_err-made.ensures in
    let items = c.in_ok-have_room.ensures.items in
    record {
      ok = IfOk-from_err c.from_residual-in_err-made.result _ c.from_residual-in_err-made.ensures.0;
      err = on_any_error c.from_residual-in_err-made.result (
        same_is_unchanged g.P.Port.theory.code p c.advance.new.port _ _ s c.advance.new.machine _ _ failed.same failed.unchanged.0 items,
        failed.unchanged.1,
      );
      kept = same_is_kept g.P.Port.theory p c.advance.new.port _ _ _ _ s c.advance.new.machine k failed.same failed.unchanged.0 items
          failed.unchanged.2;
      id = refl;
      source = refl;
      number = rw failed.unchanged.0 refl;
      beginning = rw failed.unchanged.0 refl;
    }

pub start-requires-clause-stands : goal.start-requires-clause-stands
start-requires-clause-stands g c = let due = rw c.in-Starts.is at c.in_ok-made.ensures.ok in (due.rule.id, due.rule.stands)

pub start-requires-clause-kept : goal.start-requires-clause-kept
start-requires-clause-kept g c =
    let due = rw c.in-Starts.is at c.in_ok-made.ensures.ok in
    same_is_kept g.P.Port.theory c.args.port.now c.advance.new.port _ _ _ _
    c.args.body.now.machine c.advance.new.machine c.requires.kept due.rule.same due.asks.1.0 c.in_ok-have_room.ensures.items
    (unraised _ _ _ due.raises.raised (due.raises.none tt))

pub start-requires-clause-going : goal.start-requires-clause-going
start-requires-clause-going g c = ap (λ (f : Facts). f.has_finished) c.in_ok-made.ensures.ok.facts_are ∙ c.requires.kept.ended ∙ c.requires.going

pub returns-in_err-child : goal.returns-in_err-child
returns-in_err-child g c =
    let due = rw c.in-Starts.is at c.in_ok-made.ensures.ok in
    let failed = c.in_err-child.ensures in
    let s = c.args.body.now.machine in
    let p = c.args.port.now in
    let t = c.start.new.body.machine in
    let q = c.start.new.port in
    let same = same_trans g.P.Port.theory.code s c.advance.new.machine t due.rule.same failed.same in
    let port = failed.unchanged.0 ∙ due.asks.1.0 in
    let items = failed.trace ∙ c.in_ok-have_room.ensures.items in
    record {
      ok = IfOk-from_err c.from_residual-in_err-child.result _ c.from_residual-in_err-child.ensures.0;
      err = on_any_error c.from_residual-in_err-child.result
          (same_is_unchanged g.P.Port.theory.code p q _ _ s t _ _ same port items, failed.unchanged.1 ∙ due.asks.1.1);
      kept = same_is_kept g.P.Port.theory p q _ _ _ _ s t c.requires.kept same port items
          (failed.clock ∙ unraised _ _ _ due.raises.raised (due.raises.none tt));
      id = c.start.ensures.id;
      source = c.start.ensures.source;
      number = c.start.ensures.number ∙ ap (λ (f : Facts). f.number) c.in_ok-made.ensures.ok.facts_are;
      beginning = c.start.ensures.beginning ∙ ap (λ (f : Facts). f.beginning) c.in_ok-made.ensures.ok.facts_are;
    }

pub returns-in-Starts : goal.returns-in-Starts
returns-in-Starts g c =
    let due = rw c.in-Starts.is at c.in_ok-made.ensures.ok in
    let started = c.in_ok-child.ensures in
    record {
      ok = start_does g.P.Port.theory _ _ _ _ _ _ _ _ _ _ _ _ _ _ _ _
          c.in-Starts.slot c.in-Starts.started c.in-Starts.then c.in_ok-child.child c.requires.kept.clocked due started.started c.in_ok-have_room.ensures.items;
      err = tt;
      kept = started.kept;
      id = c.start.ensures.id;
      source = c.start.ensures.source;
      number = c.start.ensures.number ∙ ap (λ (f : Facts). f.number) c.in_ok-made.ensures.ok.facts_are;
      beginning = c.start.ensures.beginning ∙ ap (λ (f : Facts). f.beginning) c.in_ok-made.ensures.ok.facts_are;
    }

pub tell-requires-clause-made : goal.tell-requires-clause-made
tell-requires-clause-made g c = is_made c.in_ok-made.made c.in_default.not-Starts

pub tell-requires-clause-going : goal.tell-requires-clause-going
tell-requires-clause-going g c = ap (λ (f : Facts). f.has_finished) c.in_ok-made.ensures.ok.facts_are ∙ c.requires.kept.ended ∙ c.requires.going

pub returns : goal.returns
returns g c =
    let k = c.requires.kept in
    let m = c.in_ok-made.made in
    let is = is_made m c.in_default.not-Starts in
    let a = c.in_ok-made.ensures.ok in
    let told = c.tell.ensures in
    let items = rw c.in_ok-have_room.ensures.items at told.trace in
    let same = told_same g.P.Port.theory _ _ _ _ _ _ [] [] _ _ 0 _ _ m a told.told in
    record {
      ok = told_steps g.P.Port.theory _ _ _ _ _ _ _ _ _ _ 0 _ _ _ _ k.clocked m c.tell.result
          c.tell.new.body.machine told.answer told.machine is a told.told items;
      err = tt;
      kept = rw told.machine (told_keeps g.P.Port.theory _ _ _ _ _ _ _ _ _ _ _ _ _ k c.requires.going m is a told.told items told.clock);
      id = told.id;
      source = told.source;
      number = same.0;
      beginning = same.1;
    }
