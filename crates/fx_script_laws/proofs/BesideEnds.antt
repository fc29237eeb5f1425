-- Two fibers whose terms are alike inside their masks and polls come to the same ends. (fx_model has how the one answers a step of the other for itself.)
use Rattle.std.proofs.Common.{◌≡◌, ℕ, Bool, true, false, not, List, [], ◌∷◌, ◌++◌, refl, sym, ◌∙◌, ap, subst}
use Rattle.std.specs.Prelude.{◌&&◌, ◌||◌}
use Rattle.std.proofs.lemmas.Bool.{or_right}
use Rattle.fx_term.specs.declared.node.Arg.{Arg}
use Rattle.fx_term.specs.declared.name_kind.NameKind.TheVariants as kind
use Rattle.fx_term.specs.declared.done.Done.{Done}
use Rattle.fx_term.specs.declared.done.Done.TheVariants.{Val, Err}
use Rattle.fx_term.specs.Term.{Term, Finished}
use Rattle.fx_model.specs.Path.{cleanup_terms, leaf, is_open, must_cancel, plug}
use Rattle.fx_model.specs.Row.{Counts, Label, Silent, known_canceled, Row}
use Rattle.fx_model.specs.Row as row
use Rattle.fx_model.specs.Step.{Progress, Runs, Unwinds, CleansUp, HasEnded, has_ended, Step}
use Rattle.fx_model.specs.Step as step
use Rattle.fx_model.specs.Run.{Leads, shown}
use Rattle.fx_model.specs.Outside.{Outside, is_ended, leaf_can_step, can_step}
use Rattle.fx_model.proofs.Alike.{IsSameRegion, AreArgs, Alike, finished}
use Rattle.fx_model.proofs.Alike as alike
use Rattle.fx_model.proofs.AlikeRows.{with_masks, row_alike}
use Rattle.fx_model.proofs.AlikePaths.{none, finalizer, release}
use Rattle.fx_model.proofs.AlikePlaces.{AreInside, bare_results, place_alike, leaves_inside, ends_inside}
use Rattle.fx_model.proofs.Wrapped.{Wrap, round, wrapped, finished_wrapped, row_wrapped, RowOfWrapped, moves, leaves, row_of_wrapped}
use Rattle.fx_model.proofs.WrappedEnds.{AreShut, shut_place}
use Rattle.fx_model.proofs.Paths.{result_has_no_row, leaf_plug}
use Rattle.fx_model.proofs.ShownRuns.{leads_append, Reaches, stays, steps, and_then, row_step, Enters, entered, enters, never_canceled, closed_row}
use Rattle.fx_model.proofs.MaskedRuns.{Beside, entering, inside, leaving, unwinding, unwound, ended}
use Rattle.fx_laws.proofs.Showing.{shown_more}
use Rattle.fx_script_laws.specs.Interchange.{StopsThere, CanComeTo}

same_end : (o : Outside) {f f' : Arg} {low low' : ℕ} → AreArgs low low' kind.Fiber f f' → is_ended o f ≡ is_ended o f'
same_end o (alike.number alike.fiber) = refl
same_end o alike.slot = refl

module _ (low low' : ℕ) (o : Outside) where
  -- alike leaves wait for the same
  pub waits_alike : {t t' : Term} → Alike low low' t t' → leaf_can_step o (leaf t) ≡ leaf_can_step o (leaf t')
  waits_alike (alike.let_ p u q) = waits_alike p
  waits_alike (alike.handle p u q) = waits_alike p
  waits_alike (alike.oncancel p q) = waits_alike p
  waits_alike (alike.bracket p i q j r) = waits_alike p
  waits_alike (alike.bracket_case p i q j k r l m s n t) = waits_alike p
  waits_alike (alike.masked s p) = waits_alike p
  waits_alike (alike.opened s p) = waits_alike p
  waits_alike (alike.using_ p q) = waits_alike p
  waits_alike (alike.using_case p i q j r s) = waits_alike p
  waits_alike (alike.releasing p) = waits_alike p
  waits_alike (alike.join f i p j q r) = same_end o f
  waits_alike (alike.first f g) = let e = same_end o f in let h = same_end o g in cc
  waits_alike _ = refl

-- a term with a silent row does not wait
can_row : (o : Outside) {k : Bool} {c d : Counts} {t u : Term} → Row k c t Silent d u → leaf_can_step o (leaf t) ≡ true
can_row o (row.inside f {a = a} e g r) = ap (leaf_can_step o) (ap leaf e ∙ leaf_plug f a) ∙ can_row o r
can_row o _ = refl

leaf_wrapped : (ws : List Wrap) (t : Term) → leaf (wrapped ws t) ≡ leaf t
leaf_wrapped [] t = refl
leaf_wrapped (w ∷ ws) t = leaf_wrapped ws (plug (round w) t) ∙ leaf_plug (round w) t

pub shown_append : (ls ms : List Label) → shown (ls ++ ms) ≡ shown ls ++ shown ms
shown_append [] ms = refl
shown_append (l ∷ ls) ms =
    shown_more l (ls ++ ms) ∙ ap (λ (ns : List Label). shown (l ∷ []) ++ ns) (shown_append ls ms) ∙ both (shown (l ∷ [])) (shown ls) (shown ms)
    ∙ ap (λ (ns : List Label). ns ++ shown ms) (sym (shown_more l ls))
  where
    both : (xs ys zs : List Label) → xs ++ (ys ++ zs) ≡ (xs ++ ys) ++ zs
    both [] ys zs = refl
    both (x ∷ xs) ys zs = ap (λ (ns : List Label). x ∷ ns) (both xs ys zs)

module _ (low low' : ℕ) where
  -- the second fiber shows what the step with this label shows, and is beside the first again
  record GoesAlong (c' : Counts) (p' : Progress) (l : Label) (d : Counts) (q : Progress) : Type 0 where
    counts : Counts
    progress : Progress
    reaches : Reaches c' p' (shown (l ∷ [])) counts progress
    beside : Beside low low' d q counts progress

  -- the first fiber has left a mask or poll, and the second all
  left : {c : Counts} {m : ℕ} {v : Done} (ws : List Wrap) → AreShut ws → IsSameRegion low low' c.masks m
      → Beside low low' c (Runs (wrapped ws (Finished v))) (with_masks m c) (Runs (Finished v))
  left {v = v} [] shut s = inside [] [] (bare_results low low' v) s
  left (w ∷ ws) shut s = leaving w ws shut refl s

  module _ {c : Counts} {m : ℕ} where
    -- a row of the first fiber inside its masks, where the second may make one too
    row_inside : (ws ws' : List Wrap) {k : Bool} {d : Counts} {l : Label} {whole t t' u : Term} → AreInside low low' ws ws' whole t t'
        → IsSameRegion low low' c.masks m → RowOfWrapped k c ws t l d u
        → k ≡ not (is_open (wrapped ws' t')) → must_cancel c.known (wrapped ws' t') ≡ false → GoesAlong (with_masks m c) (Runs (wrapped ws' t')) l d (Runs u)
    row_inside ws ws' {d = d} i s (moves {u = u} r) closed free =
        let f = row_alike low low' r i.are_alike s in
        let still : AreInside low low' ws ws' (wrapped ws u) u f.term = record { sides = i.sides; whole_is = refl; are_alike = f.is_alike } in
        record {
          counts = with_masks f.masks d;
          progress = Runs (wrapped ws' f.term);
          reaches = steps (row_step free closed (row_wrapped ws' f.row));
          beside = inside ws ws' still f.entered;
        }
    row_inside (w ∷ ws) ws' i s (leaves {v = v}) closed free =
        record {
          counts = with_masks m c;
          progress = Runs (Finished v);
          reaches = leaves_inside low low' c (w ∷ ws) ws' i free;
          beside = left ws i.sides.shut s;
        }

    answer_inside : (ws ws' : List Wrap) {d : Counts} {whole t t' : Term} {l : Label} {q : Progress} → AreInside low low' ws ws' whole t t'
        → IsSameRegion low low' c.masks m → Step c (Runs whole) l d q → GoesAlong (with_masks m c) (Runs (wrapped ws' t')) l d q
    answer_inside ws ws' {t' = t'} i s (step.cancelled must) =
        let place = place_alike low low' ws ws' i in
        record {
          counts = with_masks m c;
          progress = Unwinds (cleanup_terms (wrapped ws' t'));
          reaches = steps (step.cancelled (sym (place.must c.known) ∙ must));
          beside = unwinding (place.clean c.known must) s;
        }
    answer_inside ws ws' {t' = t'} i s (step.seen free open_here) =
        let place = place_alike low low' ws ws' i in
        record {
          counts = with_masks m (known_canceled c);
          progress = Runs (wrapped ws' t');
          reaches = steps (step.seen (sym (place.must c.known) ∙ free) (sym place.open_is ∙ open_here));
          beside = inside ws ws' i s;
        }
    answer_inside ws ws' {d} {whole} {t} {l = l} i s (step.row {t' = u} free r) =
        let place = place_alike low low' ws ws' i in
        let inner = row_of_wrapped ws t u (subst (λ (y : Term). Row (not (is_open whole)) c y l d u) i.whole_is r) in
        row_inside ws ws' i s inner (ap not place.open_is) (sym (place.must c.known) ∙ free)
    answer_inside ws ws' i s (step.succeeds {n = n} free) =
        record {
          counts = with_masks m c;
          progress = HasEnded _;
          reaches = and_then (ends_inside low low' c ws ws' i free) (steps (step.succeeds free));
          beside = ended;
        }
    answer_inside ws ws' i s (step.errs free) =
        record {
          counts = with_masks m c;
          progress = HasEnded _;
          reaches = and_then (ends_inside low low' c ws ws' i free) (steps (step.errs free));
          beside = ended;
        }

    -- while it still enters its masks, the second waits
    answer_entering : (ws ws' : List Wrap) {d e : Counts} {x whole t t' : Term} {l : Label} {q : Progress} → Enters c x e whole
        → AreInside low low' ws ws' whole t t' → IsSameRegion low low' e.masks m → Step c (Runs x) l d q
        → GoesAlong (with_masks m e) (Runs (wrapped ws' t')) l d q
    answer_entering ws ws' entered i s step = answer_inside ws ws' i s step
    answer_entering ws ws' {x = x} (enters closed r only rest) i s (step.cancelled must) = absurd (never_canceled c.known x closed must)
    answer_entering ws ws' (enters closed r only rest) i s (step.seen free open_here) = absurd (let p = closed in let q = open_here in cc)
    answer_entering ws ws' {d} {e} {t' = t'} {l = l} (enters closed r only rest) i s (step.row {t' = u} free h) =
        let forced = only l d u (closed_row closed h) in
        rw (forced.0, forced.1, forced.2)
        (record { counts = with_masks m e; progress = Runs (wrapped ws' t'); reaches = stays; beside = entering ws ws' rest i s })
    answer_entering ws ws' (enters closed r only rest) i s (step.succeeds free) = absurd (result_has_no_row r refl)
    answer_entering ws ws' (enters closed r only rest) i s (step.errs free) = absurd (result_has_no_row r refl)

    -- while it still leaves its masks, the second waits outside
    row_leaving : {k : Bool} {d : Counts} {l : Label} {u : Term} {v : Done} (w : Wrap) (ws : List Wrap) → AreShut (w ∷ ws) → IsSameRegion low low' c.masks m
        → RowOfWrapped k c (w ∷ ws) (Finished v) l d u → GoesAlong (with_masks m c) (Runs (Finished v)) l d (Runs u)
    row_leaving w ws shut s (moves r) = absurd (result_has_no_row r refl)
    row_leaving w ws shut s (leaves {v = v}) = record { counts = with_masks m c; progress = Runs (Finished v); reaches = stays; beside = left ws shut.1 s }

    answer_leaving : {d : Counts} {whole : Term} {v : Done} {l : Label} {q : Progress} (w : Wrap) (ws : List Wrap) → AreShut (w ∷ ws)
        → whole ≡ wrapped (w ∷ ws) (Finished v) → IsSameRegion low low' c.masks m → Step c (Runs whole) l d q
        → GoesAlong (with_masks m c) (Runs (Finished v)) l d q
    answer_leaving {whole = whole} {v = v} w ws shut e s (step.cancelled must) =
        absurd (never_canceled c.known whole (ap is_open e ∙ shut_place w ws v shut) must)
    answer_leaving {v = v} w ws shut e s (step.seen free open_here) = absurd (let p = ap is_open e ∙ shut_place w ws v shut in let q = open_here in cc)
    answer_leaving {d} {whole} {v} {l} w ws shut e s (step.row {t' = u} free r) =
        row_leaving w ws shut s (row_of_wrapped (w ∷ ws) (Finished v) u (subst (λ (y : Term). Row (not (is_open whole)) c y l d u) e r))
    answer_leaving {v = v} w ws shut e s (step.succeeds {n = n} free) = absurd (let p = (finished_wrapped (w ∷ ws) (Finished v) (Val n) e).0 in cc)
    answer_leaving {v = v} w ws shut e s (step.errs {n = n} free) = absurd (let p = (finished_wrapped (w ∷ ws) (Finished v) (Err n) e).0 in cc)

  -- the second fiber answers each step of the first
  answer : {c c' d : Counts} {p p' q : Progress} {l : Label} → Beside low low' c p c' p' → Step c p l d q → GoesAlong c' p' l d q
  answer (entering ws ws' es i s) h = answer_entering ws ws' es i s h
  answer (inside ws ws' i s) h = answer_inside ws ws' i s h
  answer (leaving w ws shut e s) h = answer_leaving w ws shut e s h
  answer (unwinding none s) step.unwound = record { counts = _; progress = _; reaches = steps step.unwound; beside = ended }
  answer (unwinding (finalizer f p) s) step.finalizer = record { counts = _; progress = _; reaches = steps {l = Silent} step.finalizer; beside = unwound f p s }
  answer (unwinding (release r p) s) step.release = record { counts = _; progress = _; reaches = steps step.release; beside = unwound r p s }
  answer (unwound a p s) (step.cleans r) =
      let f = row_alike low low' r a s in record { counts = _; progress = _; reaches = steps (step.cleans f.row); beside = unwound f.is_alike p f.entered }
  answer (unwound finished p s) step.finalizer_ends =
      record { counts = _; progress = _; reaches = steps {l = Silent} step.finalizer_ends; beside = unwinding p s }
  answer (unwound finished p s) step.release_ends = record { counts = _; progress = _; reaches = steps step.release_ends; beside = unwinding p s }
  answer ended h = elim h [ ]

  -- where the first fiber cannot step, the second has come to such a place, or to its end
  module _ (o : Outside) (f : ℕ) where
    stops_inside : (c : Counts) (m : ℕ) (ws ws' : List Wrap) {whole t t' : Term} → AreInside low low' ws ws' whole t t'
        → can_step o f c (Runs whole) ≡ false → StopsThere o f false (with_masks m c) (Runs (wrapped ws' t'))
    stops_inside c m ws ws' {whole} {t} {t'} i unable =
        let place = place_alike low low' ws ws' i in
        let must = place.must c.known in
        let opened = place.open_is in
        let waits : leaf_can_step o (leaf whole) ≡ leaf_can_step o (leaf (wrapped ws' t')) =
        ap (leaf_can_step o) (ap leaf i.whole_is ∙ leaf_wrapped ws t) ∙ waits_alike low low' o i.are_alike
        ∙ ap (leaf_can_step o) (sym (leaf_wrapped ws' t')) in
        let same : can_step o f (with_masks m c) (Runs (wrapped ws' t')) ≡ can_step o f c (Runs whole) = cc in
        (same ∙ unable, refl)

    -- what does not wait can step
    pub not_stopped : (c : Counts) (t : Term) → leaf_can_step o (leaf t) ≡ true → can_step o f c (Runs t) ≡ false → ⊥
    not_stopped c t can unable =
        let yes = or_right (must_cancel c.known t || (is_open t && o.is_requested f)) (leaf_can_step o (leaf t)) can in
        cc

    stops_beside : {c c' : Counts} {p p' : Progress} → Beside low low' c p c' p' → can_step o f c p ≡ false → StopsThere o f (has_ended p) c' p'
    stops_beside {c} (entering {m = m} ws ws' entered i s) unable = stops_inside c m ws ws' i unable
    stops_beside {c} (entering ws ws' (enters {t = t} closed r only rest) i s) unable = absurd (not_stopped c t (can_row o r) unable)
    stops_beside {c} (inside {m = m} ws ws' i s) unable = stops_inside c m ws ws' i unable
    stops_beside {c} (leaving w ws {whole = whole} {v = v} shut e s) unable =
        absurd (not_stopped c whole (ap (leaf_can_step o) (ap leaf e ∙ leaf_wrapped (w ∷ ws) (Finished v))) unable)
    stops_beside (unwinding p s) unable = absurd cc
    stops_beside (unwound a p s) unable = (sym (waits_alike low low' o a) ∙ unable, refl)
    stops_beside ended unable = (refl, refl)

    pub come_along : (c c' d : Counts) (p p' q : Progress) (ls : List Label) → Beside low low' c p c' p' → Leads c p ls d q → can_step o f d q ≡ false
        → CanComeTo (StopsThere o f (has_ended q)) c' p' (shown ls)
    come_along c c' d p p' q [] b h unable =
        let stop : can_step o f c p ≡ false = subst (λ (x : Progress). can_step o f c x ≡ false) h.1
        (subst (λ (x : Counts). can_step o f x q ≡ false) h.0 unable) in
        record {
          labels = [];
          counts = c';
          progress = p';
          run = (refl, refl);
          shown_is = refl;
          ends = subst (λ (x : Progress). StopsThere o f (has_ended x) c' p') (sym h.1) (stops_beside b stop);
        }
    come_along c c' d p p' q (l ∷ ls) b h unable =
        let along = answer b h.2 in
        let rest = come_along h.0 along.counts d h.1 along.progress q ls along.beside h.3 unable in
        record {
          labels = along.reaches.labels ++ rest.labels;
          counts = rest.counts;
          progress = rest.progress;
          run = leads_append c' p' along.reaches.labels rest.labels along.counts rest.counts along.progress rest.progress along.reaches.leads rest.run;
          shown_is =
              shown_append along.reaches.labels rest.labels ∙ ap (λ (ns : List Label). ns ++ shown rest.labels) along.reaches.shown_is
              ∙ ap (λ (ns : List Label). shown (l ∷ []) ++ ns) rest.shown_is ∙ sym (shown_more l ls);
          ends = rest.ends;
        }
