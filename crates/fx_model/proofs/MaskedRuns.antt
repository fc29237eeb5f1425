-- Two fibers whose terms are alike inside their masks and polls: the one goes along with the other and shows the same.
use Rattle.std.proofs.Common.{◌≡◌, ℕ, Bool, false, not, Option, List, [], ◌∷◌, refl, sym, ◌∙◌, ap, subst}
use Rattle.fx_term.specs.declared.done.Done.{Done}
use Rattle.fx_term.specs.declared.done.Done.TheVariants.{Val, Err}
use Rattle.fx_term.specs.declared.outcome.Outcome.{Outcome}
use Rattle.fx_term.specs.Term.{Term, Finished}
use Rattle.fx_model.specs.Path.{CleanupTerm, cleanup_terms, is_open, must_cancel}
use Rattle.fx_model.specs.Row.{Counts, Label, Silent, known_canceled, Row}
use Rattle.fx_model.specs.Step.{Progress, Runs, Unwinds, CleansUp, HasEnded, Step}
use Rattle.fx_model.specs.Step as step
use Rattle.fx_model.specs.Run.{Leads, shown}
use Rattle.fx_model.proofs.Alike.{IsSameRegion, Alike, finished}
use Rattle.fx_model.proofs.AlikeRows.{with_masks, row_alike}
use Rattle.fx_model.proofs.AlikePaths.{AreCleanupTerms, none, finalizer, release}
use Rattle.fx_model.proofs.AlikePlaces.{AreInside, bare_results, place_alike, leaves_inside, ends_inside}
use Rattle.fx_model.proofs.Wrapped.{Wrap, wrapped, finished_wrapped, row_wrapped, RowOfWrapped, moves, leaves, row_of_wrapped}
use Rattle.fx_model.proofs.WrappedEnds.{AreShut, shut_place}
use Rattle.fx_model.proofs.Paths.{result_has_no_row}
use Rattle.fx_model.proofs.ShownRuns.{Reaches, stays, steps, and_then, row_step, Enters, entered, enters, never_canceled, closed_row, HasRun, after}

module _ (low low' : ℕ) where
  -- the second fiber is where the first one is: inside its masks, which the first still enters, or both are inside; past them, which the first still leaves; in
  -- its clean-ups; at its end
  pub data Beside : Counts → Progress → Counts → Progress → Type 0 where
    entering : {c d : Counts} {m : ℕ} (ws ws' : List Wrap) {x whole t t' : Term} → Enters c x d whole → AreInside low low' ws ws' whole t t'
        → IsSameRegion low low' d.masks m → Beside c (Runs x) (with_masks m d) (Runs (wrapped ws' t'))
    inside : {c : Counts} {m : ℕ} (ws ws' : List Wrap) {whole t t' : Term} → AreInside low low' ws ws' whole t t' → IsSameRegion low low' c.masks m
        → Beside c (Runs whole) (with_masks m c) (Runs (wrapped ws' t'))
    leaving : {c : Counts} {m : ℕ} (w : Wrap) (ws : List Wrap) {whole : Term} {v : Done} → AreShut (w ∷ ws) → whole ≡ wrapped (w ∷ ws) (Finished v)
        → IsSameRegion low low' c.masks m → Beside c (Runs whole) (with_masks m c) (Runs (Finished v))
    unwinding : {c : Counts} {m : ℕ} {xs xs' : List CleanupTerm} → AreCleanupTerms low low' xs xs' → IsSameRegion low low' c.masks m
        → Beside c (Unwinds xs) (with_masks m c) (Unwinds xs')
    unwound : {c : Counts} {m : ℕ} {k : Option ℕ} {t t' : Term} {xs xs' : List CleanupTerm} → Alike low low' t t' → AreCleanupTerms low low' xs xs'
        → IsSameRegion low low' c.masks m → Beside c (CleansUp k t xs) (with_masks m c) (CleansUp k t' xs')
    ended : {c c' : Counts} {o : Outcome} → Beside c (HasEnded o) c' (HasEnded o)

  -- the second fiber shows what the step with this label shows, and is beside the first again
  record GoesAlong (c' : Counts) (p' : Progress) (l : Label) (d : Counts) (q : Progress) : Type 0 where
    counts : Counts
    progress : Progress
    reaches : Reaches c' p' (shown (l ∷ [])) counts progress
    beside : Beside d q counts progress

  -- the first fiber has left a mask or poll, and the second all
  left : {c : Counts} {m : ℕ} {v : Done} (ws : List Wrap) → AreShut ws → IsSameRegion low low' c.masks m
      → Beside c (Runs (wrapped ws (Finished v))) (with_masks m c) (Runs (Finished v))
  left {v = v} [] shut s = inside [] [] (bare_results low low' v) s
  left (w ∷ ws) shut s = leaving w ws shut refl s

  module _ {c : Counts} {m : ℕ} where
    -- a row of the first fiber inside its masks, where the second may make one too
    row_inside : (ws ws' : List Wrap) {k : Bool} {d : Counts} {l : Label} {whole t t' u : Term} → AreInside low low' ws ws' whole t t'
        → IsSameRegion low low' c.masks m → RowOfWrapped k c ws t l d u
        → k ≡ not (is_open (wrapped ws' t')) → must_cancel c.known (wrapped ws' t') ≡ false → GoesAlong (with_masks m c) (Runs (wrapped ws' t')) l d (Runs u)
    row_inside ws ws' {d = d} i s (moves {u = u} r) closed free =
        let f = row_alike low low' r i.are_alike s in
        let still : AreInside low low' ws ws' (wrapped ws u) u f.term = record { sides = i.sides; whole_is = refl; are_alike = f.is_alike } in
        record {
          counts = with_masks f.masks d;
          progress = Runs (wrapped ws' f.term);
          reaches = steps (row_step free closed (row_wrapped ws' f.row));
          beside = inside ws ws' still f.entered;
        }
    row_inside (w ∷ ws) ws' i s (leaves {v = v}) closed free =
        record {
          counts = with_masks m c;
          progress = Runs (Finished v);
          reaches = leaves_inside low low' c (w ∷ ws) ws' i free;
          beside = left ws i.sides.shut s;
        }

    answer_inside : (ws ws' : List Wrap) {d : Counts} {whole t t' : Term} {l : Label} {q : Progress} → AreInside low low' ws ws' whole t t'
        → IsSameRegion low low' c.masks m → Step c (Runs whole) l d q → GoesAlong (with_masks m c) (Runs (wrapped ws' t')) l d q
    answer_inside ws ws' {t' = t'} i s (step.cancelled must) =
        let place = place_alike low low' ws ws' i in
        record {
          counts = with_masks m c;
          progress = Unwinds (cleanup_terms (wrapped ws' t'));
          reaches = steps (step.cancelled (sym (place.must c.known) ∙ must));
          beside = unwinding (place.clean c.known must) s;
        }
    answer_inside ws ws' {t' = t'} i s (step.seen free open_here) =
        let place = place_alike low low' ws ws' i in
        record {
          counts = with_masks m (known_canceled c);
          progress = Runs (wrapped ws' t');
          reaches = steps (step.seen (sym (place.must c.known) ∙ free) (sym place.open_is ∙ open_here));
          beside = inside ws ws' i s;
        }
    answer_inside ws ws' {d} {whole} {t} {l = l} i s (step.row {t' = u} free r) =
        let place = place_alike low low' ws ws' i in
        let inner = row_of_wrapped ws t u (subst (λ (y : Term). Row (not (is_open whole)) c y l d u) i.whole_is r) in
        row_inside ws ws' i s inner (ap not place.open_is) (sym (place.must c.known) ∙ free)
    answer_inside ws ws' i s (step.succeeds {n = n} free) =
        record {
          counts = with_masks m c;
          progress = HasEnded _;
          reaches = and_then (ends_inside low low' c ws ws' i free) (steps (step.succeeds free));
          beside = ended;
        }
    answer_inside ws ws' i s (step.errs free) =
        record {
          counts = with_masks m c;
          progress = HasEnded _;
          reaches = and_then (ends_inside low low' c ws ws' i free) (steps (step.errs free));
          beside = ended;
        }

    -- while it still enters its masks, the second waits
    answer_entering : (ws ws' : List Wrap) {d e : Counts} {x whole t t' : Term} {l : Label} {q : Progress} → Enters c x e whole
        → AreInside low low' ws ws' whole t t' → IsSameRegion low low' e.masks m → Step c (Runs x) l d q
        → GoesAlong (with_masks m e) (Runs (wrapped ws' t')) l d q
    answer_entering ws ws' entered i s step = answer_inside ws ws' i s step
    answer_entering ws ws' {x = x} (enters closed r only rest) i s (step.cancelled must) = absurd (never_canceled c.known x closed must)
    answer_entering ws ws' (enters closed r only rest) i s (step.seen free open_here) = absurd (let p = closed in let q = open_here in cc)
    answer_entering ws ws' {d} {e} {t' = t'} {l = l} (enters closed r only rest) i s (step.row {t' = u} free h) =
        let forced = only l d u (closed_row closed h) in
        rw (forced.0, forced.1, forced.2)
        (record { counts = with_masks m e; progress = Runs (wrapped ws' t'); reaches = stays; beside = entering ws ws' rest i s })
    answer_entering ws ws' (enters closed r only rest) i s (step.succeeds free) = absurd (result_has_no_row r refl)
    answer_entering ws ws' (enters closed r only rest) i s (step.errs free) = absurd (result_has_no_row r refl)

    -- while it still leaves its masks, the second waits outside
    row_leaving : {k : Bool} {d : Counts} {l : Label} {u : Term} {v : Done} (w : Wrap) (ws : List Wrap) → AreShut (w ∷ ws) → IsSameRegion low low' c.masks m
        → RowOfWrapped k c (w ∷ ws) (Finished v) l d u → GoesAlong (with_masks m c) (Runs (Finished v)) l d (Runs u)
    row_leaving w ws shut s (moves r) = absurd (result_has_no_row r refl)
    row_leaving w ws shut s (leaves {v = v}) = record { counts = with_masks m c; progress = Runs (Finished v); reaches = stays; beside = left ws shut.1 s }

    answer_leaving : {d : Counts} {whole : Term} {v : Done} {l : Label} {q : Progress} (w : Wrap) (ws : List Wrap) → AreShut (w ∷ ws)
        → whole ≡ wrapped (w ∷ ws) (Finished v) → IsSameRegion low low' c.masks m → Step c (Runs whole) l d q
        → GoesAlong (with_masks m c) (Runs (Finished v)) l d q
    answer_leaving {whole = whole} {v = v} w ws shut e s (step.cancelled must) =
        absurd (never_canceled c.known whole (ap is_open e ∙ shut_place w ws v shut) must)
    answer_leaving {v = v} w ws shut e s (step.seen free open_here) = absurd (let p = ap is_open e ∙ shut_place w ws v shut in let q = open_here in cc)
    answer_leaving {d} {whole} {v} {l} w ws shut e s (step.row {t' = u} free r) =
        row_leaving w ws shut s (row_of_wrapped (w ∷ ws) (Finished v) u (subst (λ (y : Term). Row (not (is_open whole)) c y l d u) e r))
    answer_leaving {v = v} w ws shut e s (step.succeeds {n = n} free) = absurd (let p = (finished_wrapped (w ∷ ws) (Finished v) (Val n) e).0 in cc)
    answer_leaving {v = v} w ws shut e s (step.errs {n = n} free) = absurd (let p = (finished_wrapped (w ∷ ws) (Finished v) (Err n) e).0 in cc)

  -- the second fiber answers each step of the first
  answer : {c c' d : Counts} {p p' q : Progress} {l : Label} → Beside c p c' p' → Step c p l d q → GoesAlong c' p' l d q
  answer (entering ws ws' es i s) h = answer_entering ws ws' es i s h
  answer (inside ws ws' i s) h = answer_inside ws ws' i s h
  answer (leaving w ws shut e s) h = answer_leaving w ws shut e s h
  answer (unwinding none s) step.unwound = record { counts = _; progress = _; reaches = steps step.unwound; beside = ended }
  answer (unwinding (finalizer f p) s) step.finalizer = record { counts = _; progress = _; reaches = steps {l = Silent} step.finalizer; beside = unwound f p s }
  answer (unwinding (release r p) s) step.release = record { counts = _; progress = _; reaches = steps step.release; beside = unwound r p s }
  answer (unwound a p s) (step.cleans r) =
      let f = row_alike low low' r a s in record { counts = _; progress = _; reaches = steps (step.cleans f.row); beside = unwound f.is_alike p f.entered }
  answer (unwound finished p s) step.finalizer_ends =
      record { counts = _; progress = _; reaches = steps {l = Silent} step.finalizer_ends; beside = unwinding p s }
  answer (unwound finished p s) step.release_ends = record { counts = _; progress = _; reaches = steps step.release_ends; beside = unwinding p s }
  answer ended h = elim h [ ]

  -- and so it shows what any run of the first shows
  pub goes_along : (c c' d : Counts) (p p' q : Progress) (ls : List Label) → Beside c p c' p' → Leads c p ls d q → HasRun c' p' (shown ls)
  goes_along c c' d p p' q [] b h = record { counts = c'; progress = p'; reaches = stays }
  goes_along c c' d p p' q (l ∷ ls) b h =
      let along = answer b h.2 in
      after l ls along.reaches (goes_along h.0 along.counts d h.1 along.progress q ls along.beside h.3)
