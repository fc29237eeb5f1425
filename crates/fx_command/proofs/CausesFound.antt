-- What is told as the causes of the events of a replay is what these stand on.
use Rattle.std.proofs.Common.{◌≡◌, ℕ, zero, suc, ◌-◌, ◌≤◌, true, Option, Some, None, List, [], ◌∷◌, ◌++◌, length, refl, sym, ◌∙◌, ap, subst, arith, inl, inr}
use Rattle.std.specs.Prelude.{◌==◌, if◌then◌else◌, replicate, slice_get}
use Rattle.std.proofs.lemmas.Bool.{cases_eq, eq-eqb, ne_eqb}
use Rattle.std.proofs.lemmas.Option.{none-some, same_Some}
use Rattle.fx_term.specs.declared.event.Event.{Event}
use Rattle.fx_term.specs.declared.event.Event.TheVariants as event
use Rattle.fx_term.specs.declared.node.Node.{Node}
use Rattle.fx_term.specs.declared.node.NodeId.{NodeId}
use Rattle.fx_term.specs.Script.{ScriptView, total}
use Rattle.fx_model.specs.Causes.{TakesWhatWasPut, LearnsOfEnd, LeavesQueue, Needs}
use Rattle.fx_model.specs.LawfulReport.{IsLawfulReport}
use Rattle.fx_model.specs.Report.{ReportView, trace_in}
use Rattle.fx_text.specs.declared.pick.Pick.{Pick}
use Rattle.fx_places.specs.declared.place.FormPlace.{FormPlace}
use Rattle.fx_plain.specs.declared.told.MadeStep.{MadeStep}
use Rattle.fx_plain.specs.declared.told.Told.{Told}
use Rattle.fx_plain.specs.declared.told.Told.TheVariants.{Step, Request, Passed}
use Rattle.fx_plain.specs.Chosen.{IsReplay}
use Rattle.fx_plain.specs.ToldRun.{one_shown, TellsRun, events_told}
use Rattle.fx_plain.proofs.ChosenRuns.{replay_is_stamped_report}
use Rattle.fx_plain.proofs.ToldRuns.{told_is_its_trace}
use Rattle.fx_picture.specs.declared.stood.EventAt.{EventAt}
use Rattle.fx_picture.specs.declared.stood.Stood.{Stood}
use Rattle.fx_picture.specs.DrawsEach.{DrawsEach}
use Rattle.fx_picture.specs.DrawsOnly.{DrawsOnly}
use Rattle.fx_picture.specs.IsDrawn.{Tells}
use Rattle.fx_picture.specs.Stood.{stood_at, told_cause}
use Rattle.fx_picture.proofs.ArrowsStand.{draws_only}
use Rattle.fx_picture.proofs.CausesDrawn.{draws_each}
use Rattle.fx_picture.proofs.OneEnd.{one_end}
use Rattle.fx_command.specs.CausesTold.{TellsCauses}
use Rattle.fx_command.specs.SoFar.{SoFarView, nothing_shown, cause_when, count_by, with_event}
use Rattle.fx_command.specs.StoodEvents.{position_of, stood_when, shown_after, stood_from, stood_events}
use Rattle.fx_command.specs.TakesInOrder.{shown_by_all}
use Rattle.fx_command.specs.ToldText.{node_of, stood_after, place_of}
use Rattle.fx_command.proofs.FirstsFound.{firsts_told, firsts_stand}
use Rattle.fx_command.proofs.GetsFound.{gets_told, gets_stand}
use Rattle.fx_run_events.proofs.OnePut.{one_put}
use Rattle.fx_command.proofs.ShownSteps.{ShownBy, shown_by_step, told_then}

-- nothing is told of an event that there is not
none_with : (f : ℕ) (t : MadeStep) (o : Option Event) (place : Option FormPlace) (s : SoFarView) (es : List Event) (list : List Stood)
    → ((k : ℕ) → slice_get es k ≡ None → stood_at list f k ≡ None) → (i : ℕ)
    → slice_get ((if t.fiber == f then one_shown o else []) ++ es) i ≡ None → stood_at (stood_when place s t o ++ list) f i ≡ None
none_with f t None place s es list rest i none = elim (cases_eq t.fiber f) [
  | inl same ↦ rest i (rw (eq-eqb t.fiber f same) at none)
  | inr other ↦ rest i (rw (ne_eqb t.fiber f other) at none)
]
none_with f t (Some e) place s es list rest i none = elim (cases_eq t.fiber f) [
  | inl same ↦ rw (eq-eqb t.fiber f same) (own i (rw (eq-eqb t.fiber f same) at none))
  | inr other ↦ rw (ne_eqb t.fiber f other) (rest i (rw (ne_eqb t.fiber f other) at none))
]
  where
    own : (k : ℕ) → slice_get (e ∷ es) k ≡ None
        → (if k == 0 then Some (record {
          fiber = t.fiber;
          position = position_of place;
          is_open = t.is_open;
          cause = cause_when s t.learned e;
          held = count_by (with_event s t.fiber e).queues e;
        }) else stood_at list f (k - 1)) ≡ None
    own zero here = absurd (none-some e (sym here))
    own (suc k) later =
        let less : suc k - 1 ≡ k = omega arith in rw (ne_eqb (suc k) 0 (λ is. absurd (omega arith)), less) (rest k later)

none_told : (places : List FormPlace) (f : ℕ) (told : List Told) (nodes : List (Option NodeId)) (s : SoFarView) (i : ℕ)
    → slice_get (events_told f told) i ≡ None → stood_at (stood_from places nodes s told) f i ≡ None
none_told places f [] nodes s i none = refl
none_told places f (Step t ∷ told) nodes s i none =
    none_with f t t.event (place_of places (node_of nodes (Step t))) s (events_told f told)
    (stood_from places (stood_after nodes (Step t)) (shown_after s (Step t)) told)
    (λ k later. none_told places f told (stood_after nodes (Step t)) (shown_after s (Step t)) k later) i none
none_told places f (Request g ∷ told) nodes s i none = none_told places f told nodes s i none
none_told places f (Passed x ∷ told) nodes s i none = none_told places f told nodes s i none

module _ (nodes : List Node) (s : ScriptView) (ps : List Pick) (told : List Told) (r : ReportView) (t : TellsRun nodes s ps told) (h : IsReplay s ps r)
    (places : List FormPlace) (fibers queues : ℕ) (enough : total s ≤ fibers) (as_declared : length s.capacities ≤ queues) where
  abbrev stood : List Stood
  stood = stood_events places fibers queues told

  abbrev lawful : IsLawfulReport s (λ f. true) r
  lawful = (replay_is_stamped_report s ps r h).stamped.lawful

  abbrev NeedsSo : ℕ → ℕ → ℕ → ℕ → Type 0
  NeedsSo f i g j = Needs (trace_in r) lawful.runs.labels (LeavesQueue s (λ f. true) r lawful) f i g j

  -- an event that is neither a get nor a first of two has no told cause
  without_cause : (f i : ℕ) (e : Event) → slice_get (trace_in r f) i ≡ Some e → ((so_far : SoFarView) (learned : Option ℕ) → cause_when so_far learned e ≡ None)
      → told_cause (stood_at stood f i) ≡ None
  without_cause f i e at none =
      by_step (shown_by_step f told i e (ap (λ (es : List Event). slice_get es i) (told_is_its_trace nodes s ps told r t h f) ∙ at))
    where
      by_step : ShownBy f told i e → told_cause (stood_at stood f i) ≡ None
      by_step by =
          let shown = length (events_told by.made.fiber by.before) in
          let same : length (events_told by.made.fiber by.before) ≡ i = ap (λ (k : ℕ). length (events_told k by.before)) by.fiber ∙ by.place in
          ap (λ (k : ℕ). told_cause (stood_at stood k i)) (sym by.fiber)
          ∙ ap (λ (k : ℕ). told_cause (stood_at stood by.made.fiber k)) (sym same)
          ∙ ap (λ (ts : List Told). told_cause (stood_at (stood_events places fibers queues ts) by.made.fiber shown)) by.is
          ∙ told_then places by.made e by.shows by.after (replicate fibers None) (nothing_shown fibers queues) by.before
          ∙ none (shown_by_all (nothing_shown fibers queues) by.before) by.made.learned

  -- what is told is the cause that was found
  found_is : (f i g j : ℕ) → Tells stood f i g j → (h : ℕ) × (k : ℕ) × NeedsSo f i h k × Tells stood f i h k → NeedsSo f i g j
  found_is f i g j tells found =
      let same = same_Some (record { fiber = found.0; place = found.1 }) (record { fiber = g; place = j }) (sym found.3 ∙ tells) in
      subst (λ (x : EventAt). NeedsSo f i x.fiber x.place) same found.2

  by_event : (f i g j : ℕ) (e : Event) → slice_get (trace_in r f) i ≡ Some e → Tells stood f i g j → NeedsSo f i g j
  by_event f i g j (event.Got q v) at tells = found_is f i g j tells (gets_stand nodes s ps told r t h places fibers queues f i q v enough as_declared at)
  by_event f i g j (event.First side) at tells = found_is f i g j tells (firsts_stand nodes s ps told r t h places fibers queues f i side enough at)
  by_event f i g j e at tells =
      absurd (none-some (record { fiber = g; place = j }) (sym (without_cause f i e at (λ so_far learned. refl)) ∙ tells))

  told_needed : (f i g j : ℕ) (o : Option Event) → slice_get (trace_in r f) i ≡ o → Tells stood f i g j → NeedsSo f i g j
  told_needed f i g j None none tells =
      let nothing = none_told places f told (replicate fibers None) (nothing_shown fibers queues) i
      (ap (λ (es : List Event). slice_get es i) (told_is_its_trace nodes s ps told r t h f) ∙ none) in
      absurd (none-some (record { fiber = g; place = j }) (sym (ap told_cause nothing) ∙ tells))
  told_needed f i g j (Some e) at tells = by_event f i g j e at tells

  -- and the one that there is
  same_cause : (f i g j h k : ℕ) → (g ≡ h) × (j ≡ k) → Tells stood f i h k → Tells stood f i g j
  same_cause f i g j h k same tells =
      subst (λ (b : ℕ). Tells stood f i b j) (sym same.0) (subst (λ (b : ℕ). Tells stood f i h b) (sym same.1) tells)

  put_is_told : (f i g j : ℕ) → TakesWhatWasPut (trace_in r) (LeavesQueue s (λ f. true) r lawful) f i g j → Tells stood f i g j
  put_is_told f i g j so =
      let found = gets_told nodes s ps told r t h places fibers queues f i so.queue so.value enough as_declared so.got in
      same_cause f i g j found.0 found.1 (one_put (trace_in r) (λ q. (lawful.histories q).leaves.last) f i g j found.0 found.1 so found.2) found.3

  end_is_told : (f i side g j : ℕ) → slice_get (trace_in r f) i ≡ Some (event.First side) → LearnsOfEnd (trace_in r) lawful.runs.labels f i g j
      → Tells stood f i g j
  end_is_told f i side g j at so =
      let found = firsts_told nodes s ps told r t h places fibers queues f i side enough at in
      same_cause f i g j found.0 found.1 (one_end s (λ f. true) r lawful f i g j found.0 found.1 so found.2) found.3

  pub tells_causes : TellsCauses s r (replay_is_stamped_report s ps r h) stood
  tells_causes = record {
    only = λ f i g j tells. told_needed f i g j (slice_get (trace_in r f) i) refl tells;
    each = record { puts = put_is_told; ends = end_is_told };
    gets = λ f i q v at.
        (let found = gets_told nodes s ps told r t h places fibers queues f i q v enough as_declared at in (found.0, found.1, found.3));
    firsts = λ f i side at.
        (let found = firsts_told nodes s ps told r t h places fibers queues f i side enough at in (found.0, found.1, found.3));
  }

  -- so no arrow is missing in its picture, and none is too many
  pub draws_causes : DrawsEach s (λ f. true) r lawful stood × DrawsOnly s (λ f. true) r lawful stood
  draws_causes = (draws_each s (λ f. true) r lawful stood tells_causes.each, draws_only s (λ f. true) r lawful stood tells_causes.only)
