-- The computed run is the run that the picks choose.
use Rattle.std.proofs.Common.{◌≡◌, ℕ, zero, suc, ◌+◌, ◌<◌, ◌≤◌, Bool, true, false, Option, Some, None, option_map, List, [], ◌∷◌, refl, sym, ◌∙◌, ap, subst}
use Rattle.std.proofs.Common.{arith, inl, inr}
use Rattle.std.specs.Prelude.{nat_lt, not, ◌&&◌}
use Rattle.std.proofs.lemmas.Bool.{cases_eq, cases_lt, ltb-true, ltb-false}
use Rattle.std.proofs.lemmas.Option.{none-some, same_Some}
use Rattle.fx_term.specs.declared.node.Arg.TheVariants.{Number}
use Rattle.fx_term.specs.declared.done.Done.{Done}
use Rattle.fx_term.specs.declared.done.Done.TheVariants.{Val, Err}
use Rattle.fx_term.specs.declared.outcome.Outcome.{Outcome}
use Rattle.fx_term.specs.declared.event.Event.TheVariants as event
use Rattle.fx_term.specs.Term.{Term, Pure, Raise, Canceled, Cede, Let, Handle, If, For, Mask, Poll, OnCancel, Bracket, BracketCase, Start, Join, Cancel}
use Rattle.fx_term.specs.Term.{First, Offer, TryOffer, Take, TryTake, Finished, Masked, Opened, InUse, InUseCase, InRelease, Loop, Await}
use Rattle.fx_model.specs.Path.{Context, LetIn, HandleIn, OnCancelIn, AcquireIn, AcquireCaseIn, MaskedIn, OpenedIn, InUseIn, InUseCaseIn, InReleaseIn}
use Rattle.fx_model.specs.Path.{plug, CleanupTerm, Finalizer, Release, leaf, is_open, must_cancel}
use Rattle.fx_model.specs.Row.{Counts, Label, Shows, Row}
use Rattle.fx_model.specs.Row as row
use Rattle.fx_model.specs.Step.{Progress, Runs, Unwinds, CleansUp, HasEnded, leaf_at, looks_first, Step}
use Rattle.fx_model.specs.Step as step
use Rattle.fx_text.specs.declared.pick.Pick.{Pick}
use Rattle.fx_text.specs.declared.pick.Pick.TheVariants as pick
use Rattle.fx_term.specs.Element.{Element}
use Rattle.fx_term.specs.Script.{ScriptView, total}
use Rattle.fx_plain.specs.WholeMachine.{StartedFiber, WholeMachine, Move, Steps, Requests, outcome_of, outside_of, has_room, front, can_step_fiber, can_step_in}
use Rattle.fx_plain.specs.WholeMachine.{IsAnswered, requested_from_outside}
use Rattle.fx_plain.specs.Chosen.{LooksLeftFirst, ChosenStep, IsChosen}
use Rattle.fx_plain.specs.Chosen as chosen
use Rattle.fx_model.proofs.Paths.{leaf_plug, row_plug}
use Rattle.fx_model.proofs.Mapped.{mapped}
use Rattle.fx_model.proofs.Moves.{Moved, done_of, ends, moved_in, move_in, loop_move}
use Rattle.fx_model.proofs.ComputedSteps.{Answers, Next, if_move, canceled_move, join_move, await_move, first_move, offer_move}
use Rattle.fx_model.proofs.ComputedSteps.{try_offer_move, take_move, try_take_move, move, runs_on, cleans_on, running, looking, at_place, cleaning, next}
use Rattle.fx_plain.proofs.ComputedRuns.{answers_of, MoveMade, went, stepped_fiber, step_of, least_able, RunTo, after, and_then, run_to_halt, replayed}
use Rattle.fx_plain.proofs.LawfulRuns.{IsKept, step_keeps, request_keeps}

-- a result is that one
done_is : (t : Term) (v : Done) → done_of t ≡ Some v → t ≡ Finished v
done_is (Finished u) v e = ap Finished (same_Some u v e)
done_is _ v e = absurd cc

no_front : (xs : List Element) → front xs ≡ None → xs ≡ []
no_front [] e = refl
no_front (x ∷ xs) e = absurd cc

not_due : (a b : Bool) → b ≡ true → (a && not b) ≡ true → ⊥
not_due true b e d = let p : not b ≡ false = ap not e in let q : not b ≡ true = d in cc
not_due false b e d = cc

not_open : (a b : Bool) → a ≡ false → (a && not b) ≡ true → ⊥
not_open true b e d = cc
not_open false b e d = cc

module _ (s : ScriptView) (m : WholeMachine) (f : ℕ) where
  abbrev w : Answers
  w = answers_of s m f

  -- a row of the table, with the answers of the outside, the left fiber first
  record IsRowOf (k : Bool) (c : Counts) (t : Term) (v : Moved) : Type 0 where
    pub row : Row k c t v.label v.counts v.term
    pub answered : IsAnswered s m f v.label
    pub left : LooksLeftFirst m v.label (Some (leaf t))

  give : {k : Bool} {c d : Counts} {l : Label} {t t' : Term} {v : Moved} → Row k c t l d t' → IsAnswered s m f l → LooksLeftFirst m l (Some (leaf t))
      → Some (record { label = l; counts = d; term = t' }) ≡ Some v → IsRowOf k c t v
  give {k = k} {c = c} {t = t} r a left e = subst (IsRowOf k c t) (same_Some _ _ e) (record { row = r; answered = a; left = left })

  if_is_row : (k : Bool) (c : Counts) (n : ℕ) (a b : Term) {v : Moved} → if_move c n a b ≡ Some v → IsRowOf k c (If (Number n) a b) v
  if_is_row k c zero a b e = give row.if_zero tt tt e
  if_is_row k c (suc n) a b e = give row.if_not_zero tt tt e

  canceled_is_row : (k : Bool) (c : Counts) {v : Moved} → canceled_move k c ≡ Some v → IsRowOf k c Canceled v
  canceled_is_row true c e = give (row.self_request refl) tt tt e
  canceled_is_row false c e = absurd cc

  loop_is_row : (k : Bool) (c : Counts) (i j n : ℕ) (t : Term) (b : Bool) → nat_lt j n ≡ b → IsRowOf k c (Loop i j n t) (loop_move c i j n t b)
  loop_is_row k c i j n t true is = record { row = row.loop_turns (ltb-true j n is); answered = tt; left = tt }
  loop_is_row k c i j n t false is = record { row = row.loop_ends (ltb-false j n is); answered = tt; left = tt }

  -- a context with a result in it
  ends_is_row : (k : Bool) (c : Counts) (g : Context) (v : Done) → IsRowOf k c (plug g (Finished v)) (ends c g v)
  ends_is_row k c (LetIn x b) (Val n) = record { row = row.let_value; answered = tt; left = tt }
  ends_is_row k c (LetIn x b) (Err n) = record { row = row.let_error; answered = tt; left = tt }
  ends_is_row k c (HandleIn x b) (Val n) = record { row = row.handle_value; answered = tt; left = tt }
  ends_is_row k c (HandleIn x b) (Err n) = record { row = row.handle_error; answered = tt; left = tt }
  ends_is_row k c (OnCancelIn b) v = record { row = row.oncancel_ends; answered = tt; left = tt }
  ends_is_row k c (AcquireIn x u r) (Val n) = record { row = row.acquired; answered = tt; left = tt }
  ends_is_row k c (AcquireIn x u r) (Err n) = record { row = row.acquire_fails; answered = tt; left = tt }
  ends_is_row k c (MaskedIn r) v = record { row = row.masked_ends; answered = tt; left = tt }
  ends_is_row k c (OpenedIn r) v = record { row = row.opened_ends; answered = tt; left = tt }
  ends_is_row k c (InUseIn i r) v = record { row = row.used; answered = tt; left = tt }
  ends_is_row k c (AcquireCaseIn x u y b z e d) (Val n) = record { row = row.acquired_case; answered = tt; left = tt }
  ends_is_row k c (AcquireCaseIn x u y b z e d) (Err n) = record { row = row.acquire_case_fails; answered = tt; left = tt }
  ends_is_row k c (InUseCaseIn i y b z e d) (Val n) = record { row = row.use_succeeded; answered = tt; left = tt }
  ends_is_row k c (InUseCaseIn i y b z e d) (Err n) = record { row = row.use_erred; answered = tt; left = tt }
  ends_is_row k c (InReleaseIn i u) v = record { row = row.released; answered = tt; left = tt }

  -- a context, with a result in it or not
  in_is_row : (k : Bool) (c : Counts) (g : Context) (a : Term) {v : Moved} (o : Option Done) → done_of a ≡ o
      → ((u : Moved) → move w k c a ≡ Some u → IsRowOf k c a u) → move_in c g o (move w k c a) ≡ Some v → IsRowOf k c (plug g a) v
  in_is_row k c g a (Some d) is part e =
      rw (done_is a d is) (subst (IsRowOf k c (plug g (Finished d))) (same_Some _ _ e) (ends_is_row k c g d))
  in_is_row k c g a None is part e =
      let p = mapped (moved_in g) (move w k c a) e in
      let h = part p.part p.was in
      give (row_plug g h.row) h.answered (subst (λ (t : Term). LooksLeftFirst m p.part.label (Some t)) (sym (leaf_plug g a)) h.left) p.to

  join_is_row : (k : Bool) (c : Counts) (g x : ℕ) (a : Term) (y : ℕ) (b d : Term) {v : Moved} (o : Option Outcome) → outcome_of m g ≡ o
      → join_move c g x a y b d o ≡ Some v → IsRowOf k c (Join (Number g) x a y b d) v
  join_is_row k c g x a y b d None is e = absurd cc
  join_is_row k c g x a y b d (Some o) is e = give row.joined is tt e

  await_is_row : (k : Bool) (c : Counts) (g : ℕ) {v : Moved} (o : Option Outcome) → outcome_of m g ≡ o → await_move c g o ≡ Some v → IsRowOf k c (Await g) v
  await_is_row k c g None is e = absurd cc
  await_is_row k c g (Some o) is e = give row.awaited is tt e

  first_is_row : (k : Bool) (c : Counts) (g h : ℕ) {v : Moved} (o p : Option Outcome) → outcome_of m g ≡ o → outcome_of m h ≡ p → first_move c g h o p ≡ Some v
      → IsRowOf k c (First (Number g) (Number h)) v
  first_is_row k c g h (Some o) p is at e = give row.first_left is tt e
  first_is_row k c g h None (Some p) is at e = give row.first_right at is e
  first_is_row k c g h None None is at e = absurd cc

  offer_is_row : (k : Bool) (c : Counts) (q n : ℕ) {v : Moved} (b : Bool) → has_room s m q ≡ b → offer_move c q n b ≡ Some v
      → IsRowOf k c (Offer q (Number n)) v
  offer_is_row k c q n true is e = give row.offered is tt e
  offer_is_row k c q n false is e = absurd cc

  try_offer_is_row : (k : Bool) (c : Counts) (q n : ℕ) {v : Moved} (b : Bool) → has_room s m q ≡ b → try_offer_move c q n b ≡ Some v
      → IsRowOf k c (TryOffer q (Number n)) v
  try_offer_is_row k c q n true is e = give row.tried_offer is tt e
  try_offer_is_row k c q n false is e = give row.refused is tt e

  take_is_row : (k : Bool) (c : Counts) (q : ℕ) {v : Moved} (o : Option ℕ) → front (m.queues q) ≡ o → take_move c q o ≡ Some v → IsRowOf k c (Take q) v
  take_is_row k c q None is e = absurd cc
  take_is_row k c q (Some n) is e = give row.taken is tt e

  try_take_is_row : (k : Bool) (c : Counts) (q x : ℕ) (a b : Term) {v : Moved} (o : Option ℕ) → front (m.queues q) ≡ o → try_take_move c q x a b o ≡ Some v
      → IsRowOf k c (TryTake q x a b) v
  try_take_is_row k c q x a b None is e = give row.found_empty (no_front (m.queues q) is) tt e
  try_take_is_row k c q x a b (Some n) is e = give row.tried_take is tt e

  move_is_row : (k : Bool) (c : Counts) (t : Term) {v : Moved} → move w k c t ≡ Some v → IsRowOf k c t v
  move_is_row k c (Pure (Number n)) e = give row.pure tt tt e
  move_is_row k c (Raise (Number n)) e = give row.raise tt tt e
  move_is_row k c Canceled e = canceled_is_row k c e
  move_is_row k c Cede e = give row.cede tt tt e
  move_is_row k c (Let x a b) e = in_is_row k c (LetIn x b) a (done_of a) refl (λ u h. move_is_row k c a h) e
  move_is_row k c (Handle a x b) e = in_is_row k c (HandleIn x b) a (done_of a) refl (λ u h. move_is_row k c a h) e
  move_is_row k c (If (Number n) a b) e = if_is_row k c n a b e
  move_is_row k c (For i n t) e = give row.for_begins tt tt e
  move_is_row k c (Mask p t) e = give row.mask tt tt e
  move_is_row k c (Poll (Number r) t) e = give row.poll tt tt e
  move_is_row k c (OnCancel a b) e = in_is_row k c (OnCancelIn b) a (done_of a) refl (λ u h. move_is_row k c a h) e
  move_is_row k c (Bracket x a u r) e = in_is_row k c (AcquireIn x u r) a (done_of a) refl (λ v h. move_is_row k c a h) e
  move_is_row k c (BracketCase x a u y b z r d) e = in_is_row k c (AcquireCaseIn x u y b z r d) a (done_of a) refl (λ v h. move_is_row k c a h) e
  move_is_row k c (Start h a b) e = give row.start tt tt e
  move_is_row k c (Join (Number g) x a y b d) e = join_is_row k c g x a y b d (outcome_of m g) refl e
  move_is_row k c (Cancel (Number g)) e = give row.request tt tt e
  move_is_row k c (First (Number g) (Number h)) e = first_is_row k c g h (outcome_of m g) (outcome_of m h) refl refl e
  move_is_row k c (Offer q (Number n)) e = offer_is_row k c q n (has_room s m q) refl e
  move_is_row k c (TryOffer q (Number n)) e = try_offer_is_row k c q n (has_room s m q) refl e
  move_is_row k c (Take q) e = take_is_row k c q (front (m.queues q)) refl e
  move_is_row k c (TryTake q x a b) e = try_take_is_row k c q x a b (front (m.queues q)) refl e
  move_is_row k c (Masked r a) e = in_is_row k c (MaskedIn r) a (done_of a) refl (λ u h. move_is_row k c a h) e
  move_is_row k c (Opened r a) e = in_is_row k c (OpenedIn r) a (done_of a) refl (λ u h. move_is_row k c a h) e
  move_is_row k c (InUse i a r) e = in_is_row k c (InUseIn i r) a (done_of a) refl (λ u h. move_is_row k c a h) e
  move_is_row k c (InUseCase i a y b z r d) e = in_is_row k c (InUseCaseIn i y b z r d) a (done_of a) refl (λ u h. move_is_row k c a h) e
  move_is_row k c (InRelease i a v) e = in_is_row k c (InReleaseIn i v) a (done_of a) refl (λ u h. move_is_row k c a h) e
  move_is_row k c (Loop i j n t) e = subst (IsRowOf k c (Loop i j n t)) (same_Some _ _ e) (loop_is_row k c i j n t (nat_lt j n) refl)
  move_is_row k c (Await g) e = await_is_row k c g (outcome_of m g) refl e
  move_is_row k c _ e = absurd cc

  -- a step with the answers of the outside, the left fiber first
  record IsNext (c : Counts) (p : Progress) (n : Next) : Type 0 where
    pub step : Step c p n.label n.counts n.progress
    pub answered : IsAnswered s m f n.label
    pub left : LooksLeftFirst m n.label (leaf_at p)

  so : {c d : Counts} {l : Label} {p q : Progress} {n : Next} → Step c p l d q → IsAnswered s m f l → LooksLeftFirst m l (leaf_at p)
      → Some (record { label = l; counts = d; progress = q }) ≡ Some n → IsNext c p n
  so {c = c} {p = p} st a left e = subst (IsNext c p) (same_Some _ _ e) (record { step = st; answered = a; left = left })

  running_is_next : (k : Bool) (c : Counts) (t : Term) {n : Next} → must_cancel c.known t ≡ false → not (is_open t) ≡ k → running w k c t ≡ Some n
      → IsNext c (Runs t) n
  running_is_next k c (Finished (Val v)) free is e = so (step.succeeds free) tt tt e
  running_is_next k c (Finished (Err v)) free is e = so (step.errs free) tt tt e
  running_is_next k c t free is e =
      let p = mapped runs_on (move w k c t) e in
      let h = move_is_row k c t p.was in
      so (step.row free (subst (λ (b : Bool). Row b c t p.part.label p.part.counts p.part.term) (sym is) h.row)) h.answered h.left p.to

  -- where a look is due and a request is there, that is what is found
  record IsNextHere (c : Counts) (p : Progress) (n : Next) : Type 0 where
    pub next : IsNext c p n
    pub seen_first : looks_first c.known p ≡ true → m.requested f ≡ true → n.label ≡ Shows event.Seen

  looking_is_next : (c : Counts) (t : Term) {n : Next} → must_cancel c.known t ≡ false → is_open t ≡ true → (asked : Bool) → m.requested f ≡ asked
      → looking w asked c t ≡ Some n → IsNextHere c (Runs t) n
  looking_is_next c t {n = n} free place true is e =
      record { next = so (step.seen free place) is tt e; seen_first = λ due asked. sym (ap (λ (k : Next). k.label) (same_Some _ n e)) }
  looking_is_next c t free place false is e =
      record { next = running_is_next false c t free (rw place refl) e; seen_first = λ due asked. absurd (let no_request = sym is ∙ asked in cc) }

  place_is_next : (c : Counts) (t : Term) {n : Next} (must : Bool) → must_cancel c.known t ≡ must → (place : Bool) → is_open t ≡ place
      → at_place w must place c t ≡ Some n → IsNextHere c (Runs t) n
  place_is_next c t true must place is e =
      record { next = so (step.cancelled must) tt tt e; seen_first = λ due asked. absurd (not_due (is_open t) (must_cancel c.known t) must due) }
  place_is_next c t false free false is e =
      record { next = running_is_next true c t free (rw is refl) e; seen_first = λ due asked. absurd (not_open (is_open t) (must_cancel c.known t) is due) }
  place_is_next c t false free true is e = looking_is_next c t free is (m.requested f) refl e

  cleaning_is_next : (c : Counts) (k : Option ℕ) (t : Term) (rest : List CleanupTerm) {n : Next} → cleaning w c k t rest ≡ Some n
      → IsNext c (CleansUp k t rest) n
  cleaning_is_next c None (Finished v) rest e = so step.finalizer_ends tt tt e
  cleaning_is_next c (Some k) (Finished v) rest e = so step.release_ends tt tt e
  cleaning_is_next c k t rest e =
      let p = mapped (cleans_on k rest) (move w true c t) e in
      let h = move_is_row true c t p.was in
      so (step.cleans h.row) h.answered h.left p.to

  next_is_next : (c : Counts) (p : Progress) {n : Next} → next w c p ≡ Some n → IsNextHere c p n
  next_is_next c (Runs t) e = place_is_next c t (must_cancel c.known t) refl (is_open t) refl e
  next_is_next c (Unwinds []) e = record { next = so step.unwound tt tt e; seen_first = λ due asked. absurd cc }
  next_is_next c (Unwinds (Finalizer g ∷ rest)) e = record { next = so step.finalizer tt tt e; seen_first = λ due asked. absurd cc }
  next_is_next c (Unwinds (Release k r ∷ rest)) e = record { next = so step.release tt tt e; seen_first = λ due asked. absurd cc }
  next_is_next c (CleansUp k t rest) e = record { next = cleaning_is_next c k t rest e; seen_first = λ due asked. absurd cc }
  next_is_next c (HasEnded o) e = absurd cc

  -- the computed step is one that a schedule makes
  record IsWent (g : MoveMade) : Type 0 where
    pub label : Label
    pub move : g.move ≡ Steps f label
    pub step : ChosenStep s m f label g.machine

  step_is_chosen : (g : MoveMade) → can_step_in s m f ≡ true → step_of s m f ≡ Some g → IsWent g
  step_is_chosen g can e = by_fiber (m.fibers f) refl e
    where
      by_fiber : (o : Option StartedFiber) → m.fibers f ≡ o → stepped_fiber s m f o ≡ Some g → IsWent g
      by_fiber None is e = absurd (none-some g e)
      by_fiber (Some x) is e =
          let p = mapped (went m f x) (next w x.counts x.progress) e in
          let h = next_is_next x.counts x.progress p.was in
          subst IsWent (same_Some _ g p.to) (record {
            label = p.part.label;
            move = refl;
            step = record {
              can = can;
              steps =
                  record {
                    fiber = x;
                    started = is;
                    counts = p.part.counts;
                    progress = p.part.progress;
                    step = h.next.step;
                    answered = h.next.answered;
                    seen_first = h.seen_first;
                    after = refl;
                  };
              left_first = h.next.left;
            };
          })

module _ (s : ScriptView) where
  -- the first that can step, of those from f on
  record IsLeastAble (m : WholeMachine) (f g : ℕ) : Type 0 where
    pub can : can_step_in s m g ≡ true
    pub least : (h : ℕ) → f ≤ h → h < g → can_step_in s m h ≡ false

  least_able_is : (m : WholeMachine) (n f g : ℕ) → least_able s m n f ≡ Some g → IsLeastAble m f g
  least_able_is m zero f g e = absurd (none-some g e)
  least_able_is m (suc n) f g e = by_test (can_step_in s m f) refl (λ later. least_able_is m n (f + 1) g later) e
    where
      by_test : (b : Bool) → can_step_in s m f ≡ b → (least_able s m n (f + 1) ≡ Some g → IsLeastAble m (f + 1) g)
          → elim b [ true ↦ Some f | false ↦ least_able s m n (f + 1) ] ≡ Some g → IsLeastAble m f g
      by_test true is rest e =
          let same : f ≡ g = same_Some f g e in record { can = subst (λ (k : ℕ). can_step_in s m k ≡ true) same is; least = λ h low high. absurd (omega arith) }
      by_test false is rest e =
          let r = rest e in record { can = r.can; least = λ h low high. elim (cases_eq h f) [ inl same ↦ rw same is | inr ne ↦ r.least h (omega arith) high ] }

  none_able : (m : WholeMachine) (n f : ℕ) → least_able s m n f ≡ None → (h : ℕ) → f ≤ h → h < f + n → can_step_in s m h ≡ false
  none_able m zero f e h low high = absurd (omega arith)
  none_able m (suc n) f e h low high = by_test (can_step_in s m f) refl (λ later low high. none_able m n (f + 1) later h low high) e
    where
      by_test : (b : Bool) → can_step_in s m f ≡ b → (least_able s m n (f + 1) ≡ None → f + 1 ≤ h → h < f + 1 + n → can_step_in s m h ≡ false)
          → ◌≡◌ {A = Option ℕ} (elim b [ true ↦ Some f | false ↦ least_able s m n (f + 1) ]) None → can_step_in s m h ≡ false
      by_test true is rest e = absurd (none-some f (sym e))
      by_test false is rest e = elim (cases_eq h f) [ inl same ↦ rw same is | inr ne ↦ rest e (omega arith) (omega arith) ]

  -- no fiber can step that has not started
  beyond : (m : WholeMachine) → IsKept s m → (h : ℕ) → total s ≤ h → can_step_in s m h ≡ false
  beyond m k h le = by_fiber (m.fibers h) refl
    where
      by_fiber : (o : Option StartedFiber) → m.fibers h ≡ o → can_step_fiber (outside_of s m) h (m.fibers h) ≡ false
      by_fiber None is = rw is refl
      by_fiber (Some x) is = absurd (let lt = k.ranges.started_below h x is in omega arith)

  IsRun : List Pick → WholeMachine → RunTo → Type 0
  IsRun ps m d = IsChosen s ps m d.moves d.last

  goes_out_is_chosen : (n : ℕ) (m : WholeMachine) (d : RunTo) → IsKept s m → run_to_halt s n m ≡ Some d → IsChosen s [] m d.moves d.last
  goes_out_is_chosen zero m d k e = absurd (none-some d e)
  goes_out_is_chosen (suc n) m d k e = by_least (least_able s m (total s) 0) refl (λ m' d' k' e'. goes_out_is_chosen n m' d' k' e') e
    where
      by_step : (f : ℕ) → IsLeastAble m 0 f → (o : Option MoveMade) → step_of s m f ≡ o
          → ((m' : WholeMachine) (d' : RunTo) → IsKept s m' → run_to_halt s n m' ≡ Some d' → IsChosen s [] m' d'.moves d'.last)
          → and_then o (run_to_halt s n) ≡ Some d → IsChosen s [] m d.moves d.last
      by_step f l None is rest e = absurd (none-some d e)
      by_step f l (Some g) is rest e =
          let p = mapped (after g.move) (run_to_halt s n g.machine) e in
          let h = step_is_chosen s m f g l.can is in
          let kept = step_keeps s m f h.label g.machine h.step.steps k in
          subst (λ (x : RunTo). IsChosen s [] m x.moves x.last) (same_Some _ d p.to)
          (subst (λ (v : Move). IsChosen s [] m (v ∷ p.part.moves) p.part.last) (sym h.move)
          (chosen.least (λ i lt. l.least i (omega arith) lt) h.step (rest g.machine p.part kept p.was)))

      by_least : (o : Option ℕ) → least_able s m (total s) 0 ≡ o
          → ((m' : WholeMachine) (d' : RunTo) → IsKept s m' → run_to_halt s n m' ≡ Some d' → IsChosen s [] m' d'.moves d'.last)
          → elim o [ None ↦ Some (record { moves = []; last = m }) | Some f ↦ and_then (step_of s m f) (run_to_halt s n) ] ≡ Some d
          → IsChosen s [] m d.moves d.last
      by_least None is rest e = subst (λ (x : RunTo). IsChosen s [] m x.moves x.last) (same_Some _ d e)
          (chosen.halts (λ h. elim (cases_lt h (total s)) [ inl lt ↦ none_able m (total s) 0 is h (omega arith) (omega arith) | inr le ↦ beyond m k h le ]))
      by_least (Some f) is rest e = by_step f (least_able_is m (total s) 0 f is) (step_of s m f) refl rest e

  -- the computed run is chosen
  pub replayed_is_chosen : (n : ℕ) (ps : List Pick) (m : WholeMachine) (d : RunTo) → IsKept s m → replayed s n ps m ≡ Some d → IsChosen s ps m d.moves d.last
  replayed_is_chosen n [] m d k e = goes_out_is_chosen n m d k e
  replayed_is_chosen n (pick.Step f ∷ ps) m d k e = by_test (can_step_in s m f) refl (λ m' d' k' e'. replayed_is_chosen n ps m' d' k' e') e
    where
      by_step : can_step_in s m f ≡ true → (o : Option MoveMade) → step_of s m f ≡ o
          → ((m' : WholeMachine) (d' : RunTo) → IsKept s m' → replayed s n ps m' ≡ Some d' → IsChosen s ps m' d'.moves d'.last)
          → and_then o (replayed s n ps) ≡ Some d → IsChosen s (pick.Step f ∷ ps) m d.moves d.last
      by_step can None is rest e = absurd (none-some d e)
      by_step can (Some g) is rest e =
          let p = mapped (after g.move) (replayed s n ps g.machine) e in
          let h = step_is_chosen s m f g can is in
          let kept = step_keeps s m f h.label g.machine h.step.steps k in
          subst (λ (x : RunTo). IsChosen s (pick.Step f ∷ ps) m x.moves x.last) (same_Some _ d p.to)
          (subst (λ (v : Move). IsChosen s (pick.Step f ∷ ps) m (v ∷ p.part.moves) p.part.last) (sym h.move)
          (chosen.step h.step (rest g.machine p.part kept p.was)))

      by_test : (b : Bool) → can_step_in s m f ≡ b
          → ((m' : WholeMachine) (d' : RunTo) → IsKept s m' → replayed s n ps m' ≡ Some d' → IsChosen s ps m' d'.moves d'.last)
          → elim b [ true ↦ and_then (step_of s m f) (replayed s n ps) | false ↦ replayed s n ps m ] ≡ Some d → IsChosen s (pick.Step f ∷ ps) m d.moves d.last
      by_test true is rest e = by_step is (step_of s m f) refl rest e
      by_test false is rest e = chosen.no_step is (rest m d k e)
  replayed_is_chosen n (pick.Cancel f ∷ ps) m d k e = by_test (nat_lt f (total s)) refl (λ m' d' k' e'. replayed_is_chosen n ps m' d' k' e') e
    where
      by_test : (b : Bool) → nat_lt f (total s) ≡ b
          → ((m' : WholeMachine) (d' : RunTo) → IsKept s m' → replayed s n ps m' ≡ Some d' → IsChosen s ps m' d'.moves d'.last)
          → elim b [ true ↦ option_map (after (Requests f)) (replayed s n ps (requested_from_outside f m)) | false ↦ replayed s n ps m ] ≡ Some d
          → IsChosen s (pick.Cancel f ∷ ps) m d.moves d.last
      by_test true is rest e =
          let p = mapped (after (Requests f)) (replayed s n ps (requested_from_outside f m)) e in
          let lt = ltb-true f (total s) is in
          subst (λ (x : RunTo). IsChosen s (pick.Cancel f ∷ ps) m x.moves x.last) (same_Some _ d p.to)
          (chosen.request lt (rest (requested_from_outside f m) p.part (request_keeps s m f lt k) p.was))
      by_test false is rest e = chosen.no_request (ltb-false f (total s) is) (rest m d k e)
