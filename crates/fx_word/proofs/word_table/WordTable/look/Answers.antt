use Rattle.std.proofs.Common.{◌≡◌, ◌∙◌, ◌+◌, ◌*◌, ℕ, Bool, true, false, sym, ap, subst, arith}
use Rattle.fx_word.specs.declared.seat_view.SeatView.{SeatView}
use Rattle.fx_word.specs.Entry.{seeing, loading}
use Rattle.fx_word.specs.SeatView.{with_own, KnowsRequestStamp}
use Rattle.fx_word.proofs.Requests.{looks, loads_stamp, seeing_knows}
use Rattle.fx_word.proofs.word_table.WordTable.look.Goals as goal

pub load-requires : goal.load-requires
load-requires c =
    let sized = c.args.self.now.sized in
    let placed = c.args.seat.now.placed in
    let here = placed.1 in (
      c.requires.words,
      rw (← c.requires.words) (omega (arith, here)),
      rw (sized.0, placed.0) (looks _ _ _ c.args.seat.now.seat.me c.args.seat.now.plain.1),
    )

pub returns-then-not-is_requested-clause-view : goal.returns-then-not-is_requested-clause-view
returns-then-not-is_requested-clause-view c =
    let told = c.load.ensures.2 (ap (λ (k : ℕ). 4 * k) c.args.seat.now.placed.0) in
    let v = c.args.seat.now.seat.me.0 in
    told.3 ∙ ap (λ (b : Bool). with_own v (seeing b v.own)) (sym (c.is_requested.ensures told.0 told.1 told.2) ∙ c.if-not-is_requested.true)

pub returns-then-not-is_requested-clause-knows : goal.returns-then-not-is_requested-clause-knows
returns-then-not-is_requested-clause-knows c asked =
    let told = c.load.ensures.2 (ap (λ (k : ℕ). 4 * k) c.args.seat.now.placed.0) in
    let no : false ≡ true = sym c.if-not-is_requested.true ∙ (c.is_requested.ensures told.0 told.1 told.2 ∙ told.5 asked) in
    let wrong : ⊥ = cc in absurd wrong

pub load-requires-2 : goal.load-requires-2
load-requires-2 c =
    let sized = c.args.self.now.sized in
    let placed = c.args.seat.now.placed in
    let here = placed.1 in
    let told = c.load.ensures.2 (ap (λ (k : ℕ). 4 * k) placed.0) in
    let v = c.args.seat.now.seat.me.0 in
    let is = sym (c.is_requested.ensures told.0 told.1 told.2) ∙ c.if-not-is_requested.false in
    let view = told.3 ∙ ap (λ (b : Bool). with_own v (seeing b v.own)) is in (
      c.load.ensures.0 ∙ c.requires.words,
      rw (← c.requires.words) (omega (arith, here)),
      rw (sized.0, placed.0 ∙ sym (ap (λ u. u.own.id) view))
          (loads_stamp _ _ _ c.load.new.seat.me (ap (λ u. u.spent) view ∙ c.args.seat.now.plain.1) (ap (λ u. u.own.seen) view)),
    )

pub returns-clause-view : goal.returns-clause-view
returns-clause-view c =
    let placed = c.args.seat.now.placed in
    let told = c.load.ensures.2 (ap (λ (k : ℕ). 4 * k) placed.0) in
    let v = c.args.seat.now.seat.me.0 in
    let is = sym (c.is_requested.ensures told.0 told.1 told.2) ∙ c.if-not-is_requested.false in
    let view = told.3 ∙ ap (λ (b : Bool). with_own v (seeing b v.own)) is in
    (c.load-2.ensures.2 (ap (λ (k : ℕ). 4 * k + 2) (placed.0 ∙ sym (ap (λ u. u.own.id) view)))).0
    ∙ ap (λ u. with_own u (loading c.load-2.result u.own)) view

pub returns-clause-greatest : goal.returns-clause-greatest
returns-clause-greatest c t known =
    let placed = c.args.seat.now.placed in
    let told = c.load.ensures.2 (ap (λ (k : ℕ). 4 * k) placed.0) in
    let v = c.args.seat.now.seat.me.0 in
    let is = sym (c.is_requested.ensures told.0 told.1 told.2) ∙ c.if-not-is_requested.false in
    let view = told.3 ∙ ap (λ (b : Bool). with_own v (seeing b v.own)) is in
    (c.load-2.ensures.2 (ap (λ (k : ℕ). 4 * k + 2) (placed.0 ∙ sym (ap (λ u. u.own.id) view)))).2 t
    (subst (λ (u : SeatView). KnowsRequestStamp u t) (sym view) (seeing_knows v t known))
