-- A step is the one that is computed by the answers that its label tells.
use Rattle.std.proofs.Common.{◌≡◌, ℕ, suc, Bool, true, false, Option, Some, None, option_map, List, refl, ◌∙◌, ap, subst}
use Rattle.std.specs.Prelude.{not, ◌&&◌}
use Rattle.std.proofs.lemmas.Bool.{lt-ltb, le-ltb}
use Rattle.fx_term.specs.declared.node.Arg.TheVariants.{Number}
use Rattle.fx_term.specs.declared.done.Done.TheVariants.{Val, Err}
use Rattle.fx_term.specs.declared.outcome.Outcome.{Outcome}
use Rattle.fx_term.specs.declared.outcome.Outcome.TheVariants.{Succeeded, Errored}
use Rattle.fx_term.specs.declared.event.Event.TheVariants as event
use Rattle.fx_term.specs.Term.{Term, Finished, First}
use Rattle.fx_model.specs.Path.{Context, LetIn, plug, CleanupTerm, leaf, is_open, must_cancel}
use Rattle.fx_model.specs.Row.{Counts, Label, Shows, Learns, Row}
use Rattle.fx_model.specs.Row as row
use Rattle.fx_model.specs.Step.{Progress, Runs, HasEnded, leaf_at, looks_first, Step}
use Rattle.fx_model.specs.Step as step
use Rattle.fx_model.proofs.Paths.{leaf_plug}
use Rattle.fx_model.proofs.RowLabels.{row_unseen}
use Rattle.fx_model.proofs.Moves.{Moved, done_of, moved_in, move_in, loop_move}
use Rattle.fx_model.proofs.ComputedSteps.{Answers, Next, canceled_move, join_move, await_move, first_move, offer_move}
use Rattle.fx_model.proofs.ComputedSteps.{try_offer_move, take_move, try_take_move, move, runs_on, cleans_on, running, looking, at_place, cleaning, next}

is_due : (a b : Bool) → a ≡ true → b ≡ false → (a && not b) ≡ true
is_due true false p q = refl
is_due true true p q = absurd cc
is_due false b p q = absurd cc

module _ (w : Answers) where
  -- what the label of a step tells of the outside is what these answers say
  abbrev pub IsAnswered : Label → Type 0
  IsAnswered (Learns g o e) = w.outcome g ≡ Some o
  IsAnswered (Shows (event.Put q n)) = w.has_room q ≡ true
  IsAnswered (Shows (event.Got q n)) = w.front q ≡ Some n
  IsAnswered (Shows (event.Refused q)) = w.has_room q ≡ false
  IsAnswered (Shows (event.Empty q)) = w.front q ≡ None
  IsAnswered (Shows event.Seen) = w.is_requested ≡ true
  IsAnswered _ = Unit {0}

  -- the right one of two fibers is learnt of only where the left one has not ended
  abbrev pub LooksLeftFirst : Label → Option Term → Type 0
  LooksLeftFirst (Learns g o (event.First (suc n))) (Some (First (Number h) k)) = w.outcome h ≡ None
  LooksLeftFirst _ _ = Unit {0}

  -- a result does not move
  moving_is_unfinished : (k : Bool) (c : Counts) (t : Term) {v : Moved} → move w k c t ≡ Some v → done_of t ≡ None
  moving_is_unfinished k c (Finished u) e = absurd cc
  moving_is_unfinished k c _ e = refl

  move_plug : (k : Bool) (c : Counts) (g : Context) (a : Term) → move w k c (plug g a) ≡ move_in c g (done_of a) (move w k c a)
  move_plug k c (LetIn x b) a = refl
  move_plug k c _ a = refl

  -- a part that moves moves the whole
  moves_inside : (k : Bool) (c : Counts) (g : Context) (a : Term) {v : Moved} → move w k c a ≡ Some v → move w k c (plug g a) ≡ Some (moved_in g v)
  moves_inside k c g a e = let u = moving_is_unfinished k c a e in rw (move_plug k c g a, u, e) refl

  running_moves : (k : Bool) (c : Counts) (t : Term) {v : Moved} → move w k c t ≡ Some v → running w k c t ≡ Some (runs_on v)
  running_moves k c (Finished u) e = absurd cc
  running_moves k c t e = ap (option_map runs_on) e

  cleaning_moves : (c : Counts) (j : Option ℕ) (t : Term) (rest : List CleanupTerm) {v : Moved} → move w true c t ≡ Some v
      → cleaning w c j t rest ≡ Some (cleans_on j rest v)
  cleaning_moves c j (Finished u) rest e = absurd cc
  cleaning_moves c None t rest e = ap (option_map (cleans_on None rest)) e
  cleaning_moves c (Some i) t rest e = ap (option_map (cleans_on (Some i) rest)) e

  row_is_move : {k : Bool} {c d : Counts} {l : Label} {t t' : Term} → Row k c t l d t' → IsAnswered l → LooksLeftFirst l (Some (leaf t))
      → move w k c t ≡ Some (record { label = l; counts = d; term = t' })
  row_is_move row.pure a left = refl
  row_is_move row.raise a left = refl
  row_is_move row.cede a left = refl
  row_is_move {c = c} (row.self_request h) a left = ap (λ (b : Bool). canceled_move b c) h
  row_is_move row.if_not_zero a left = refl
  row_is_move row.if_zero a left = refl
  row_is_move row.for_begins a left = refl
  row_is_move {c = c} (row.loop_turns {i = i} {k = j} {n = n} {t = t} h) a left = ap (λ (b : Bool). Some (loop_move c i j n t b)) (lt-ltb j n h)
  row_is_move {c = c} (row.loop_ends {i = i} {k = j} {n = n} {t = t} h) a left = ap (λ (b : Bool). Some (loop_move c i j n t b)) (le-ltb j n h)
  row_is_move row.let_value a left = refl
  row_is_move row.let_error a left = refl
  row_is_move row.handle_value a left = refl
  row_is_move row.handle_error a left = refl
  row_is_move row.mask a left = refl
  row_is_move row.poll a left = refl
  row_is_move row.masked_ends a left = refl
  row_is_move row.opened_ends a left = refl
  row_is_move row.oncancel_ends a left = refl
  row_is_move row.acquired a left = refl
  row_is_move row.acquire_fails a left = refl
  row_is_move row.used a left = refl
  row_is_move row.acquired_case a left = refl
  row_is_move row.acquire_case_fails a left = refl
  row_is_move row.use_succeeded a left = refl
  row_is_move row.use_erred a left = refl
  row_is_move row.released a left = refl
  row_is_move row.start a left = refl
  row_is_move {c = c} (row.joined {f = g} {x = x} {e = y} {a = t} {b = b} {d = d}) a left = ap (join_move c g x t y b d) a
  row_is_move row.request a left = refl
  row_is_move {c = c} (row.awaited {f = g}) a left = ap (await_move c g) a
  row_is_move {c = c} (row.first_left {f = g} {g = h}) a left = ap (λ (o : Option Outcome). first_move c g h o (w.outcome h)) a
  row_is_move {c = c} (row.first_right {f = g} {g = h}) a left =
      ap (λ (o : Option Outcome). first_move c g h o (w.outcome h)) left ∙ ap (first_move c g h None) a
  row_is_move {c = c} (row.offered {q = q} {n = n}) a left = ap (offer_move c q n) a
  row_is_move {c = c} (row.tried_offer {q = q} {n = n}) a left = ap (try_offer_move c q n) a
  row_is_move {c = c} (row.refused {q = q} {n = n}) a left = ap (try_offer_move c q n) a
  row_is_move {c = c} (row.taken {q = q}) a left = ap (take_move c q) a
  row_is_move {c = c} (row.tried_take {q = q} {x = x} {a = t} {b = b}) a left = ap (try_take_move c q x t b) a
  row_is_move {c = c} (row.found_empty {q = q} {x = x} {a = t} {b = b}) a left = ap (try_take_move c q x t b) a
  row_is_move {k = k} {c = c} {l = l} (row.inside g {a = b} e h r) a left =
      let here = subst (λ (t : Term). LooksLeftFirst l (Some t)) (ap leaf e ∙ leaf_plug g b) left in
      rw (e, h) (moves_inside k c g b (row_is_move r a here))

  -- where a look comes first, a request is seen before any other step
  abbrev pub SeesFirst : Counts → Progress → Label → Type 0
  SeesFirst c p l = looks_first c.known p ≡ true → w.is_requested ≡ true → l ≡ Shows event.Seen

  row_is_next : {c d : Counts} {t t' : Term} {l : Label} → must_cancel c.known t ≡ false → Row (not (is_open t)) c t l d t' → IsAnswered l
      → LooksLeftFirst l (Some (leaf t)) → SeesFirst c (Runs t) l → next w c (Runs t) ≡ Some (record { label = l; counts = d; progress = Runs t' })
  row_is_next {c = c} {d = d} {t = t} {t' = t'} {l = l} free r a left seen =
      ap (λ (must : Bool). at_place w must (is_open t) c t) free ∙ by_place (is_open t) refl
    where
      made : (b : Bool) → is_open t ≡ b → running w (not b) c t ≡ Some (record { label = l; counts = d; progress = Runs t' })
      made b is = running_moves (not b) c t (row_is_move (subst (λ (x : Bool). Row (not x) c t l d t') is r) a left)

      by_request : (asked : Bool) → w.is_requested ≡ asked → is_open t ≡ true
          → looking w asked c t ≡ Some (record { label = l; counts = d; progress = Runs t' })
      by_request true asked is = absurd (row_unseen r (seen (is_due (is_open t) (must_cancel c.known t) is free) asked))
      by_request false asked is = made true is

      by_place : (b : Bool) → is_open t ≡ b → at_place w false b c t ≡ Some (record { label = l; counts = d; progress = Runs t' })
      by_place false is = made false is
      by_place true is = by_request w.is_requested refl is

  ends_is_next : (c : Counts) (t : Term) (n : Next) → must_cancel c.known t ≡ false → is_open t ≡ true → running w false c t ≡ Some n
      → (n.label ≡ Shows event.Seen → ⊥) → SeesFirst c (Runs t) n.label → next w c (Runs t) ≡ Some n
  ends_is_next c t n free is made never seen =
      ap (λ (must : Bool). at_place w must (is_open t) c t) free ∙ ap (λ (b : Bool). at_place w false b c t) is ∙ by_request w.is_requested refl
    where
      by_request : (asked : Bool) → w.is_requested ≡ asked → looking w asked c t ≡ Some n
      by_request true asked = absurd (never (seen (is_due (is_open t) (must_cancel c.known t) is free) asked))
      by_request false asked = made

  -- a step is the computed one
  pub step_is_next : {c d : Counts} {p q : Progress} {l : Label} → Step c p l d q → IsAnswered l → LooksLeftFirst l (leaf_at p) → SeesFirst c p l
      → next w c p ≡ Some (record { label = l; counts = d; progress = q })
  step_is_next {c = c} (step.cancelled {t = t} e) a left seen = ap (λ (must : Bool). at_place w must (is_open t) c t) e
  step_is_next {c = c} (step.seen {t = t} e o) a left seen =
      ap (λ (must : Bool). at_place w must (is_open t) c t) e ∙ ap (λ (b : Bool). at_place w false b c t) o ∙ ap (λ (b : Bool). looking w b c t) a
  step_is_next (step.row free r) a left seen = row_is_next free r a left seen
  step_is_next {c = c} (step.succeeds {n = n} free) a left seen =
      ends_is_next c (Finished (Val n)) (record { label = Shows (event.Ended (Succeeded n)); counts = c; progress = HasEnded (Succeeded n) }) free refl refl
      (λ e. cc) seen
  step_is_next {c = c} (step.errs {n = n} free) a left seen =
      ends_is_next c (Finished (Err n)) (record { label = Shows (event.Ended (Errored n)); counts = c; progress = HasEnded (Errored n) }) free refl refl
      (λ e. cc) seen
  step_is_next step.finalizer a left seen = refl
  step_is_next step.release a left seen = refl
  step_is_next {c = c} (step.cleans {k = j} {t = t} {rest = rest} r) a left seen = cleaning_moves c j t rest (row_is_move r a left)
  step_is_next step.finalizer_ends a left seen = refl
  step_is_next step.release_ends a left seen = refl
  step_is_next step.unwound a left seen = refl
