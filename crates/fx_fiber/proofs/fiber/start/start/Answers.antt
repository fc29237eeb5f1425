use Rattle.std.proofs.Common.{refl, ◌∙◌, ap, subst, [], ◌∷◌, arith}
use Rattle.fx_term.specs.declared.begin.Begin.{Begin}
use Rattle.fx_fiber.specs.Calls.{range_after}
use Rattle.fx_fiber.specs.Theory.{HasDone}
use Rattle.fx_fiber.specs.PortFacts.{Facts}
use Rattle.fx_fiber.specs.Deed.{Started}
use Rattle.fx_fiber.specs.Fiber.{IsAtFirst}
use Rattle.fx_fiber.specs.Places.{IsSame}
use Rattle.fx_model.specs.Origin.{Origin, child_origin, origin_of}
use Rattle.fx_model.specs.Row.{Starts}
use Rattle.fx_fiber.proofs.Advances.{same_here}
use Rattle.fx_fiber.proofs.Keeping.{kept_step}
use Rattle.fx_fiber.proofs.StampedRuns.{max_with_nothing, next_is}
use Rattle.fx_fiber.proofs.Results.{on_any_error}
use Rattle.fx_fiber.proofs.Starts.{part, start_stays, start_sound, child_within, part_scoped, part_works, start_makes, start_range, begins_so, need_is}
use Rattle.fx_fiber.proofs.fiber.start.start.Goals as goal

pub child_of-requires : goal.child_of-requires
child_of-requires g c =
    let at = c.requires.stands.1 in
    let k = c.requires.kept in (
      c.requires.code,
      ((c.requires.stands.0, c.args.then, at.at), (child_within g.P.Port.theory.code c.args.body.now.machine _ _ _ _ at.at at.free k.room, k.word)),
    )

pub start-requires : goal.start-requires
start-requires g c =
    let at = c.requires.stands.1 in
    let k = c.requires.kept in
    let p = child_within g.P.Port.theory.code c.args.body.now.machine _ _ _ _ at.at at.free k.room in
    record {
      range = rw (k.numbers, c.in_ok-begin.ensures.begin) (record { number = refl; follows = refl; ordered = omega arith; within = p });
      going = c.requires.going;
    }

pub returns-in_err-begin-clause-same : goal.returns-in_err-begin-clause-same
returns-in_err-begin-clause-same g c =
    on_any_error {P = IsSame g.P.Port.theory.code c.args.body.now.machine c.child_of.new.machine} _
    (rw c.in_err-begin.ensures.err (same_here g.P.Port.theory.code c.args.body.now.machine c.requires.kept.sound))

pub returns-in_err-own-clause-same : goal.returns-in_err-own-clause-same
returns-in_err-own-clause-same g c =
    on_any_error _ (start_stays g.P.Port.theory.code c.args.body.now.machine _ _ _ _ c.requires.stands.1.at _ _ c.in_ok-begin.ensures.named)

pub show-requires : goal.show-requires
show-requires g c = c.requires.room

pub beginning-requires : goal.beginning-requires
beginning-requires g c =
    let at = c.requires.stands.1 in
    let k = c.requires.kept in
    let s = c.args.body.now.machine in
    let own = c.in_ok-own.ensures in
    let p = child_within g.P.Port.theory.code s _ _ _ _ at.at at.free k.room in
    let begin = ap (λ (f : Facts). f.beginning) own.child_facts ∙ c.in_ok-begin.ensures.begin in
    record {
      body = rw (own.child_facts, c.have.ensures, c.deref_mut.ensures.value) c.in_ok-begin.ensures.body;
      countable = rw begin (part_works g.P.Port.theory.code s _ _ _ _ at.at at.free _ k.countable);
      scoped = rw begin (part_scoped g.P.Port.theory.code s _ _ _ _ at.at at.free k.room k.word k.scoped);
      room = let n = need_is g.P.Port.theory.code s _ _ _ _ at.at in rw begin (omega arith);
      word = let w = k.word in rw begin (omega arith);
      within = let w = k.within in rw begin (omega arith);
      below = let w = k.within in rw own.child_facts (omega arith);
      facts = rw own.child_facts refl;
      fresh = own.child_fresh;
    }

pub returns-clause-started : goal.returns-clause-started
returns-clause-started g c =
    let at = c.requires.stands.1 in
    let s = c.args.body.now.machine in
    let begins = begins_so g.P.Port.theory.code s _ _ _ _ at.at c.after-stamp.result in
    let begun = c.in_ok-begin.ensures in
    record {
      origin = child_origin s.next (part g.P.Port.theory.code s c.requires.stands.0 _ _ _ at.at);
      rule = rw c.show.ensures.machine (start_makes g.P.Port.theory.code s _ _ _ _ at.at at.free c.child_of.new.machine c.in_ok-begin.begin
          c.after-stamp.result begun.named begun.begin);
      traced = c.show.ensures.trace;
      first = subst (λ (o : Origin). IsAtFirst g.P.Port.theory.code o c.beginning.result)
          (ap (origin_of g.P.Port.theory.code) (ap (λ (f : Facts). f.beginning) c.in_ok-own.ensures.child_facts ∙ begun.begin) ∙ begins)
          c.beginning.ensures.first;
      told = record {
        begin = c.in_ok-begin.begin;
        begins = ap (origin_of g.P.Port.theory.code) begun.begin ∙ begins;
        stamped = ap (λ (b : Begin). b.stamp) begun.begin ∙ c.after-stamp.ensures;
        told = rw c.beginning.ensures.port c.in_ok-own.ensures.told;
        facts_are = rw c.beginning.ensures.port c.in_ok-own.ensures.child_facts;
      };
    }

pub returns-clause-kept : goal.returns-clause-kept
returns-clause-kept g c =
    let at = c.requires.stands.1 in
    let s = c.args.body.now.machine in
    let k = c.requires.kept in
    let begun = c.in_ok-begin.ensures in
    let begins = ap (origin_of g.P.Port.theory.code) begun.begin ∙ begins_so g.P.Port.theory.code s _ _ _ _ at.at c.after-stamp.result in
    let begin = c.in_ok-begin.begin in
    let m = c.child_of.new.machine in
    let own = c.in_ok-own.ensures in
    let unchanged = max_with_nothing c.args.body.now.clock in
    let stamp = ap (λ (b : Begin). b.stamp) begun.begin ∙ next_is _ _ c.after-stamp.ensures in
    rw c.show.ensures.machine (kept_step g.P.Port.theory _ _ _ _ _ _ 0 s _
    (Starts s.next (child_origin s.next (part g.P.Port.theory.code s _ _ _ _ at.at)))
    (Started s.next begin ∷ []) (begin, begins, refl) (stamp, tt) (λ h. refl) k
    (start_makes g.P.Port.theory.code s _ _ _ _ at.at at.free m begin c.after-stamp.result begun.named begun.begin)
    (start_sound g.P.Port.theory.code s _ _ _ _ at.at m begin begun.named) (rw unchanged at c.show.ensures.trace) (rw unchanged at c.show.ensures.clock)
    (subst (λ n. HasDone g.P.Port.theory (Started s.next begin) n c.args.port.now c.start.new.self) stamp own.deed)
    (ap (λ (f : Facts). f.beginning) own.facts) (ap (λ (f : Facts). f.has_finished) own.facts ∙ c.requires.going)
    (ap (λ (f : Facts). f.range) own.facts ∙ ap (range_after begin) k.numbers ∙ start_range g.P.Port.theory.code s _ _ _ _ at.at m begin begun.named)
    (ap (λ (f : Facts). f.puts) own.facts))
