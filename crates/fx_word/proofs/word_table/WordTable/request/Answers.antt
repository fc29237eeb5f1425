use Rattle.std.proofs.Common.{◌∙◌, ℕ, ◌<◌, ap, refl, arith, inl, subst, sym}
use Rattle.fx_term.specs.Lists.{Among}
use Rattle.fx_word.specs.declared.seat_view.SeatView.{SeatView}
use Rattle.fx_word.specs.Entry.{setting, asking}
use Rattle.fx_word.specs.SeatView.{with_own}
use Rattle.fx_word.proofs.word_table.WordTable.request.Goals as goal
use Rattle.fx_word.proofs.Requests.{raises, asks, outside_asks}

pub fetch_or-requires : goal.fetch_or-requires
fetch_or-requires c =
    let sized = c.args.self.now.sized in
    let lt : c.args.id < c.args.self.now.fibers = c.requires.below in (
      c.requires.words,
      rw sized.1 (omega (arith, lt)),
      rw sized.0 (outside_asks _ _ _ c.args.seat.now.seat.me c.args.seat.now.plain.1 c.args.id lt),
    )

pub invariant_of-seat : goal.invariant_of-seat
invariant_of-seat c =
    let told = c.fetch_or.ensures.2 c.args.id refl in
    record {
      placed = rw (told.0, c.fetch_or.ensures.0) c.args.seat.now.placed;
      plain = (told.1 ∙ c.args.seat.now.plain.0, ap (λ v. v.spent) told.0 ∙ c.args.seat.now.plain.1);
    }

pub fetch_max-requires : goal.fetch_max-requires
fetch_max-requires c =
    let sized = c.args.self.now.sized in
    let lt : c.args.id < c.args.self.now.fibers = c.requires.below in (
      c.requires.words,
      rw sized.1 (omega (arith, lt)),
      rw sized.0 (raises _ _ _ c.args.seat.now.seat.me c.args.seat.now.plain.1 c.args.id c.args.stamp lt),
    )

pub fetch_or-requires-else-stamp-eq0 : goal.fetch_or-requires-else-stamp-eq0
fetch_or-requires-else-stamp-eq0 c =
    let sized = c.args.self.now.sized in
    let lt : c.args.id < c.args.self.now.fibers = c.requires.below in
    let view = (c.fetch_max.ensures.2 c.args.id refl).0 in
    let above : 0 < c.args.stamp = (let some = c.if-stamp-eq0.false in omega (arith, some)) in (
      c.fetch_max.ensures.0 ∙ c.requires.words,
      rw sized.1 (omega (arith, lt)),
      rw sized.0 (asks _ _ _ c.fetch_max.new.seat.me (ap (λ v. v.spent) view ∙ c.args.seat.now.plain.1) c.args.id c.args.stamp lt
          (subst (λ (v : SeatView). Among (c.args.id, c.args.stamp) v.own.asked_with) (sym view) (inl refl)) above),
    )

pub invariant_of-seat-else-stamp-eq0 : goal.invariant_of-seat-else-stamp-eq0
invariant_of-seat-else-stamp-eq0 c =
    let before = c.fetch_max.ensures.2 c.args.id refl in
    let told = c.fetch_or-else-stamp-eq0.ensures.2 c.args.id refl in
    let view = told.0 ∙ ap (λ v. with_own v (setting c.args.id v.own)) before.0 in
    record {
      placed = rw (view, c.fetch_or-else-stamp-eq0.ensures.0 ∙ c.fetch_max.ensures.0) c.args.seat.now.placed;
      plain = (told.1 ∙ (before.1 ∙ c.args.seat.now.plain.0), ap (λ v. v.spent) view ∙ c.args.seat.now.plain.1);
    }

pub returns-then-stamp-eq0-clause-view : goal.returns-then-stamp-eq0-clause-view
returns-then-stamp-eq0-clause-view c =
    let v = c.args.seat.now.seat.me.0 in
    (c.fetch_or.ensures.2 c.args.id refl).0 ∙ ap (λ (n : ℕ). with_own v (asking c.args.id n v.own)) (sym c.if-stamp-eq0.true)

pub returns-else-stamp-eq0-clause-view : goal.returns-else-stamp-eq0-clause-view
returns-else-stamp-eq0-clause-view c =
    (c.fetch_or-else-stamp-eq0.ensures.2 c.args.id refl).0
    ∙ ap (λ v. with_own v (setting c.args.id v.own)) (c.fetch_max.ensures.2 c.args.id refl).0
