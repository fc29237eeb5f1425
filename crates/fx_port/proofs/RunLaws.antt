-- A port stays one of its run.
use Rattle.std.proofs.Common.{◌≡◌, ℕ, ◌+◌, ◌<◌, ◌≤◌, Bool, true, false, List, [], ◌∷◌, ◌++◌, length, inl}
use Rattle.std.proofs.Common.{map, Option, Some, None, slice_get, set, refl, sym, ◌∙◌, ap, subst, ⊎_elim, arith, zero, suc}
use mathlib.Core.Logic.{dite}
use native.Mathlib.Decide.{ℕ_discrete}
use Rattle.std.proofs.lemmas.Option.{same_Some}
use Rattle.std.proofs.lemmas.List.{length-set, length-map, length-replicate}
use Rattle.fx_term.specs.declared.begin.Begin.{Begin}
use Rattle.fx_term.specs.declared.item.Item.{Item}
use Rattle.fx_term.specs.declared.queue_event.QueueEvent.{QueueEvent}
use Rattle.fx_term.specs.declared.queue_event.QueueEvent.TheVariants.{Put, Got}
use Rattle.fx_term.specs.Queue.{fiber_of}
use Rattle.fx_word.specs.declared.seat_view.SeatView.{SeatView}
use Rattle.fx_word.specs.Entry.{asking, looking}
use Rattle.fx_word.specs.SeatView.{with_own}
use Rattle.fx_word.specs.Words.{WordsId}
use Rattle.fx_queue.specs.declared.pass_view.PassView.{PassView}
use Rattle.fx_queue.specs.PassView.{given_part, with_act}
use Rattle.fx_queue.specs.Queues.{QueueId, HeldPass, IsOf, IsSameFiber, kept_pass, given_pass}
use Rattle.fx_queue.specs.Told.{Tells}
use Rattle.fx_queue.proofs.Histories.{cut-own, cut-other}
use Rattle.fx_port.specs.Rows.{IsRowOf, CanSplit, AreFirst, PutsInto, GetsFrom}
use Rattle.fx_port.specs.PortView.{PortView, IsAware, AreOf, IsOfRun, with_entry, kept_port, given_port, first_port}
use Rattle.fx_port.specs.ThreadCalls.{with_passes}
use Rattle.fx_port.proofs.MarkLaws.{unmarked, mark_cases}
use Rattle.fx_port.proofs.PassesLaws.{part_cases, AreTheirs}
use Rattle.fx_port.proofs.Places.{get_set_same, get_set_else}

-- the queue at the place of a pass
pub queue_at : (qs : List QueueId) (ss : List HeldPass) (q : ℕ) (s : HeldPass) → length ss ≡ length qs → slice_get ss q ≡ Some s
    → (i : QueueId) × (slice_get qs q ≡ Some i)
queue_at [] [] q s l e = let z : ⊥ = cc in absurd z
queue_at [] (x ∷ ss) q s l e = absurd (omega (arith, l))
queue_at (i ∷ qs) [] q s l e = absurd (omega (arith, l))
queue_at (i ∷ qs) (x ∷ ss) zero s l e = (i, refl)
queue_at (i ∷ qs) (x ∷ ss) (suc q) s l e = queue_at qs ss q s (omega (arith, l)) e

-- a pass is aware after an event of its fiber
aware_act : (v : PassView) (log : List QueueEvent) (items : List Item) (a b : QueueEvent) → Tells v log items → fiber_of a ≡ v.own.id
    → IsAware (with_act v log a b)
aware_act v log items a b t own = record {
  own = cut-own v.own.id log a own ∙ ap (λ l. l ++ a ∷ []) (t.cuts v.own (inl refl));
  ahead = λ f le lt. cut-other f log a (λ z. let above = t.above in absurd (omega (arith, own, z, above, le))) ∙ t.unborn f le lt;
}

-- what a pass of such a row is
module _ (number next end : ℕ) (queues : List QueueId) (passes : List HeldPass) (are : AreOf number next end queues passes) where
  pub numbers_are : (q : ℕ) (s : HeldPass) → slice_get passes q ≡ Some s → s.view.own.id ≡ number
  numbers_are q s at = let t = queue_at queues passes q s are.as_many at in (are.each q s t.0 at t.1).1

  pub nexts_are : (q : ℕ) (s : HeldPass) → slice_get passes q ≡ Some s → s.view.own.next ≡ next
  nexts_are q s at = let t = queue_at queues passes q s are.as_many at in (are.each q s t.0 at t.1).2

  ends_are : (q : ℕ) (s : HeldPass) → slice_get passes q ≡ Some s → s.view.own.end ≡ end
  ends_are q s at = let t = queue_at queues passes q s are.as_many at in (are.each q s t.0 at t.1).3

  theirs_are : AreTheirs number next passes
  theirs_are q s at = record { number = numbers_are q s at; follows = nexts_are q s at; aware = are.aware q s at }

  pub set_are : (q : ℕ) (s s' : HeldPass) → slice_get passes q ≡ Some s → IsSameFiber s s' → s'.view.fibers ≡ s.view.fibers → IsAware s'.view
      → AreOf number next end queues (set passes q s')
  set_are q s s' at same as_many aware = record {
    as_many = length-set passes q s' ∙ are.as_many;
    each = λ k u i hu hq. dite (ℕ_discrete k q)
        (λ y.
        let e : s' ≡ u = same_Some s' u (sym (get_set_same passes q s' s at) ∙ (ap (λ (j : ℕ). slice_get (set passes q s') j) (sym y) ∙ hu)) in
        let old = are.each q s i at (ap (slice_get queues) (sym y) ∙ hq) in
        subst (λ (w : HeldPass). IsOf w i × (w.view.own.id ≡ number) × (w.view.own.next ≡ next) × (w.view.own.end ≡ end) × (w.view.taken ≡ [])
        × (w.view.fibers ≡ i.fibers)) e
        ((same.table ∙ old.0.0, same.cap ∙ old.0.1), same.id ∙ old.1, same.next ∙ old.2, same.end ∙ old.3, same.taken ∙ old.4, as_many ∙ old.5))
        (λ n. are.each k u i (sym (get_set_else passes q k s' n) ∙ hu) hq);
    aware = λ k u hu. dite (ℕ_discrete k q)
        (λ y. subst (λ (w : HeldPass). IsAware w.view)
        (same_Some s' u (sym (get_set_same passes q s' s at) ∙ (ap (λ (j : ℕ). slice_get (set passes q s') j) (sym y) ∙ hu))) aware)
        (λ n. are.aware k u (sym (get_set_else passes q k s' n) ∙ hu));
  }

  kept_are : (split : ℕ) → next ≤ split → AreOf number split end queues (map (kept_pass split) passes)
  kept_are split later = record {
    as_many = length-map passes (kept_pass split) ∙ are.as_many;
    each = λ k u i hu hq. let t = part_cases (kept_pass split) passes k u hu in let old = are.each k t.0 i t.1 hq in
        subst (λ (w : HeldPass). IsOf w i × (w.view.own.id ≡ number) × (w.view.own.next ≡ split) × (w.view.own.end ≡ end) × (w.view.taken ≡ [])
        × (w.view.fibers ≡ i.fibers)) t.2
        (old.0, old.1, refl, old.3, old.4, old.5);
    aware = λ k u hu. let t = part_cases (kept_pass split) passes k u hu in let was = are.aware k t.0 t.1 in let is = nexts_are k t.0 t.1 in
        subst (λ (w : HeldPass). IsAware w.view) t.2 record { own = was.own; ahead = λ f le lt. was.ahead f (omega (arith, le, later, is)) lt };
  }

  given_are : (split after : ℕ) → after ≡ next + 1 → next < split → split ≤ end → AreOf next after split queues (map (given_pass split) passes)
  given_are split after follows some inside = record {
    as_many = length-map passes (given_pass split) ∙ are.as_many;
    each = λ k u i hu hq. let t = part_cases (given_pass split) passes k u hu in let old = are.each k t.0 i t.1 hq in
        subst (λ (w : HeldPass). IsOf w i × (w.view.own.id ≡ next) × (w.view.own.next ≡ after) × (w.view.own.end ≡ split) × (w.view.taken ≡ [])
        × (w.view.fibers ≡ i.fibers)) t.2
        (old.0, old.2, ap (λ (k : ℕ). k + 1) old.2 ∙ sym follows, refl, refl, old.5);
    aware = λ k u hu. let t = part_cases (given_pass split) passes k u hu in
        subst (λ (w : HeldPass). IsAware w.view) t.2 (given_aware k t.0 t.1);
  }
    where
      given_aware : (k : ℕ) (s : HeldPass) → slice_get passes k ≡ Some s → IsAware (given_part split s.view)
      given_aware k s at =
          let was = are.aware k s at in
          let is = nexts_are k s at in
          let to = ends_are k s at in
          record {
            own = was.ahead s.view.own.next (omega arith) (omega (arith, is, to, some, inside));
            ahead = λ f le lt. was.ahead f (omega (arith, le)) (omega (arith, lt, to, inside));
          }

  can_split : (id split : ℕ) → id ≡ next → id < split → split ≤ end → CanSplit id split passes
  can_split id split is some inside = record {
    some = some;
    each = λ q s at. let t = queue_at queues passes q s are.as_many at in let old = are.each q s t.0 at t.1 in
        (is ∙ sym old.2, subst (λ (n : ℕ). split ≤ n) (sym old.3) inside);
  }

  row : IsRowOf queues passes
  row = record { as_many = are.as_many; each = λ q s i a b. (are.each q s i a b).0 }

-- the laws of a port of a run
module _ (words : WordsId) (queues : List QueueId) (may : ℕ → Bool) (p : PortView) (run : IsOfRun words queues may p) where
  pub row_of : (now : List QueueId) → now ≡ queues → IsRowOf now p.passes
  row_of now is = subst (λ (l : List QueueId). IsRowOf l p.passes) (sym is) (row p.words.own.id p.words.own.next p.words.own.end queues p.passes run.passes)

  pub whose : (q : ℕ) (s : HeldPass) → slice_get p.passes q ≡ Some s → s.view.own.id ≡ p.words.own.id
  whose q s at = numbers_are p.words.own.id p.words.own.next p.words.own.end queues p.passes run.passes q s at

  pub theirs : AreTheirs p.words.own.id p.words.own.next p.passes
  theirs = theirs_are p.words.own.id p.words.own.next p.words.own.end queues p.passes run.passes

  pub splits : (id : ℕ) (b : Begin) → id ≡ p.words.own.next → b.next ≡ id + 1 → b.next ≤ b.end → b.end ≤ p.words.own.end → CanSplit id b.end p.passes
  splits id b is follows ordered inside =
      can_split p.words.own.id p.words.own.next p.words.own.end queues p.passes run.passes id b.end is (omega (arith, follows, ordered)) inside

  -- each queue has room for this fiber as a waiter
  pub can_wait : (now : List QueueId) → now ≡ queues → (q : ℕ) (i : QueueId) → slice_get now q ≡ Some i → p.words.own.id < i.fibers
  can_wait now is q i at = subst (λ (n : ℕ). p.words.own.id < n) (sym (run.alike q i (ap (λ l. slice_get l q) (sym is) ∙ at))) run.here

  -- another view of the seat with the same number and range, which took in the same
  same_range : (v : SeatView) → v.own.id ≡ p.words.own.id → v.own.next ≡ p.words.own.next → v.own.end ≡ p.words.own.end → v.taken ≡ p.words.taken
      → IsOfRun words queues may (record p { words = v })
  same_range v id next end taken = record {
    alike = run.alike;
    passes = subst (λ (n : ℕ). AreOf n v.own.next v.own.end queues p.passes) (sym id)
        (subst (λ (n : ℕ). AreOf p.words.own.id n v.own.end queues p.passes) (sym next)
        (subst (λ (n : ℕ). AreOf p.words.own.id p.words.own.next n queues p.passes) (sym end) run.passes));
    here = subst (λ (n : ℕ). n < words.fibers) (sym id) run.here;
    within = subst (λ (n : ℕ). n ≤ words.fibers) (sym end) run.within;
    alone = taken ∙ run.alone;
    marks = run.marks;
    allowed = run.allowed;
  }

  pub looked : (found : Option ℕ) → IsOfRun words queues may (with_entry p (looking found p.words.own))
  looked None = same_range p.words refl refl refl refl
  looked (Some t) = same_range (with_own p.words (looking (Some t) p.words.own)) refl refl refl refl

  with_row : (passes : List HeldPass) → AreOf p.words.own.id p.words.own.next p.words.own.end queues passes → IsOfRun words queues may (with_passes p passes)
  with_row passes are = record {
    alike = run.alike;
    passes = are;
    here = run.here;
    within = run.within;
    alone = run.alone;
    marks = run.marks;
    allowed = run.allowed;
  }

  acted : (q : ℕ) (s s' : HeldPass) (passes : List HeldPass) → slice_get p.passes q ≡ Some s → IsSameFiber s s'
      → s'.view.fibers ≡ s.view.fibers → IsAware s'.view → passes ≡ set p.passes q s' → IsOfRun words queues may (with_passes p passes)
  acted q s s' passes at same as_many aware is = with_row passes
      (subst (λ (l : List HeldPass). AreOf p.words.own.id p.words.own.next p.words.own.end queues l) (sym is)
      (set_are p.words.own.id p.words.own.next p.words.own.end queues p.passes run.passes q s s' at same as_many aware))

  pub put_one : (q n t : ℕ) (passes : List HeldPass) → PutsInto p.passes q n t passes → IsOfRun words queues may (with_passes p passes)
  put_one q n t passes put =
      let did = put.did in
      acted q put.pass put.pass' passes put.at put.same (ap (λ (v : PassView). v.fibers) did.is)
      (subst IsAware (sym did.is)
      (aware_act put.pass.view did.log did.items (Put put.pass.view.own.id n) (Put put.pass.view.own.id t) did.before refl)) put.is

  pub got_one : (q n t : ℕ) (passes : List HeldPass) → GetsFrom p.passes q n t passes → IsOfRun words queues may (with_passes p passes)
  got_one q n t passes got =
      let did = got.did in
      acted q got.pass got.pass' passes got.at got.same (ap (λ (v : PassView). v.fibers) did.is)
      (subst IsAware (sym did.is)
      (aware_act got.pass.view did.log (got.item ∷ did.items) (Got got.pass.view.own.id got.item.value) (Got got.pass.view.own.id got.item.stamp)
      did.before refl)) got.is

  pub started : (b : Begin) → p.words.own.next ≤ b.end → IsOfRun words queues may (kept_port b p)
  started b later = record {
    alike = run.alike;
    passes = kept_are p.words.own.id p.words.own.next p.words.own.end queues p.passes run.passes b.end later;
    here = run.here;
    within = run.within;
    alone = run.alone;
    marks = run.marks;
    allowed = run.allowed;
  }

  pub given : (b : Begin) → b.next ≡ p.words.own.next + 1 → b.next ≤ b.end → b.end ≤ p.words.own.end → IsOfRun words queues may (given_port words.fibers b p)
  given b follows ordered inside = record {
    alike = run.alike;
    passes = given_are p.words.own.id p.words.own.next p.words.own.end queues p.passes run.passes b.end b.next follows
        (omega (arith, follows, ordered)) inside;
    here = let w = run.within in omega (arith, w, inside, ordered, follows);
    within = let w = run.within in omega (arith, w, inside);
    alone = refl;
    marks = length-replicate words.fibers false;
    allowed = λ f m. let z : false ≡ true = sym (unmarked words.fibers f) ∙ m in cc;
  }

  -- one more is noted that was requested from outside
  pub noted : (f : ℕ) → may f ≡ true → IsOfRun words queues may (record p { words = with_own p.words (asking f 0 p.words.own); noted = set p.noted f true })
  noted f ok = record {
    alike = run.alike;
    passes = run.passes;
    here = run.here;
    within = run.within;
    alone = run.alone;
    marks = length-set p.noted f true ∙ run.marks;
    allowed = λ g m. ⊎_elim (λ e. ap may e ∙ ok) (run.allowed g) (mark_cases p.noted f g m);
  }

-- the main fiber's port
pub first_run : (words : WordsId) (queues : List QueueId) (may : ℕ → Bool) (passes : List HeldPass) → 0 < words.fibers → AreFirst words.fibers queues passes
    → IsOfRun words queues may (first_port words.fibers passes)
first_run words queues may passes some first = record {
  alike = first.alike;
  passes = record {
    as_many = first.as_many;
    each = λ q s i a b. let t = first.each q s i a b in (
      (t.0, ap (λ (v : PassView). v.cap) t.1),
      ap (λ (v : PassView). v.own.id) t.1,
      ap (λ (v : PassView). v.own.next) t.1,
      ap (λ (v : PassView). v.own.end) t.1,
      ap (λ (v : PassView). v.taken) t.1,
      ap (λ (v : PassView). v.fibers) t.1 ∙ sym (first.alike q i b),
    );
    aware = λ q s at. let i = queue_at queues passes q s first.as_many at in
        subst IsAware (sym (first.each q s i.0 at i.1).1) record { own = refl; ahead = λ f le lt. refl };
  };
  here = some;
  within = omega arith;
  alone = refl;
  marks = length-replicate words.fibers false;
  allowed = λ f m. let z : false ≡ true = sym (unmarked words.fibers f) ∙ m in cc;
}
