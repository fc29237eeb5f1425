use Rattle.std.proofs.Common.{◌∙◌, ◌*◌, ◌+◌, ℕ, sym, ap, arith, Some}
use Rattle.fx_word.specs.Entry.{storing_stamp}
use Rattle.fx_word.specs.SeatView.{with_own}
use Rattle.fx_word.proofs.word_table.WordTable.finish.Goals as goal
use Rattle.fx_word.proofs.Ends.{stores, stores_stamp, ends}

pub store-requires : goal.store-requires
store-requires c =
    let sized = c.args.self.now.sized in
    let placed = c.args.seat.now.placed in
    let here = placed.1 in (
      c.requires.words,
      rw (← c.requires.words) (omega (arith, here)),
      rw (sized.0, placed.0) (stores _ _ _ c.args.seat.now.seat.me c.args.seat.now.plain.1 _ c.requires.running),
    )

pub store-requires-2 : goal.store-requires-2
store-requires-2 c =
    let sized = c.args.self.now.sized in
    let placed = c.args.seat.now.placed in
    let here = placed.1 in
    let stored = c.store.ensures.2 (ap (λ (k : ℕ). 4 * k + 1) placed.0) in
    let view = stored.0 in (
      c.store.ensures.0 ∙ c.requires.words,
      rw (← c.requires.words) (omega (arith, here)),
      rw (sized.0, placed.0 ∙ sym (ap (λ v. v.own.id) view))
          (stores_stamp _ _ _ c.store.new.seat.me (ap (λ v. v.spent) view ∙ c.args.seat.now.plain.1) _ (ap (λ v. v.own.ended) view ∙ c.requires.running)),
    )

pub fetch_or-requires : goal.fetch_or-requires
fetch_or-requires c =
    let sized = c.args.self.now.sized in
    let placed = c.args.seat.now.placed in
    let here = placed.1 in
    let first = (c.store.ensures.2 (ap (λ (k : ℕ). 4 * k + 1) placed.0)).0 in
    let id = placed.0 ∙ sym (ap (λ v. v.own.id) first) in
    let second = (c.store-2.ensures.2 (ap (λ (k : ℕ). 4 * k + 3) id)).0 in
    let view = second ∙ ap (λ v. with_own v (storing_stamp c.args.stamp v.own)) first in (
      c.store-2.ensures.0 ∙ (c.store.ensures.0 ∙ c.requires.words),
      rw (← c.requires.words) (omega (arith, here)),
      rw (sized.0, c.done_bits.ensures, id ∙ sym (ap (λ v. v.own.id) second))
          (ends _ _ _ c.store-2.new.seat.me (ap (λ v. v.spent) view ∙ c.args.seat.now.plain.1) c.args.outcome c.args.stamp
          (ap (λ v. v.own.ended) view ∙ c.requires.running) (ap (λ v. v.own.stored) view ∙ ap Some c.value_word.ensures)
          (ap (λ v. v.own.stored_stamp) view)),
    )
