-- The step that shows an event of a run, and what is told of that event.
use Rattle.std.proofs.Common.{◌≡◌, ℕ, zero, suc, ◌-◌, Option, Some, None, List, [], ◌∷◌, ◌++◌, length, refl, ◌∙◌, ap, arith, inl, inr}
use Rattle.std.specs.Prelude.{◌==◌, if◌then◌else◌, slice_get}
use Rattle.std.proofs.lemmas.Bool.{cases_eq, eq-eqb, ne_eqb}
use Rattle.std.proofs.lemmas.Option.{none-some, same_Some}
use Rattle.fx_term.specs.declared.event.Event.{Event}
use Rattle.fx_term.specs.declared.node.NodeId.{NodeId}
use Rattle.fx_places.specs.declared.place.FormPlace.{FormPlace}
use Rattle.fx_plain.specs.declared.told.MadeStep.{MadeStep}
use Rattle.fx_plain.specs.declared.told.Told.{Told}
use Rattle.fx_plain.specs.declared.told.Told.TheVariants.{Step, Request, Passed}
use Rattle.fx_plain.specs.ToldRun.{one_shown, events_told}
use Rattle.fx_picture.specs.declared.stood.Stood.{Stood}
use Rattle.fx_picture.specs.Stood.{stood_at, told_cause}
use Rattle.fx_command.specs.SoFar.{SoFarView, cause_when}
use Rattle.fx_command.specs.StoodEvents.{stood_when, shown_after, stood_from}
use Rattle.fx_command.specs.TakesInOrder.{shown_by_all}
use Rattle.fx_command.specs.ToldText.{node_of, stood_after, place_of}

-- the step that shows event i of fiber f, with all that is told before it and after it
pub record ShownBy (f : ℕ) (told : List Told) (i : ℕ) (e : Event) : Type 0 where
  pub before : List Told
  pub after : List Told
  pub made : MadeStep
  pub is : told ≡ before ++ Step made ∷ after
  pub fiber : made.fiber ≡ f
  pub shows : made.event ≡ Some e
  pub place : length (events_told f before) ≡ i

-- where one more is told before that shows this of the fiber, or nothing
one_before : (f : ℕ) (t : Told) (told : List Told) (i i' : ℕ) (e : Event) → ((before : List Told) → length (events_told f before) ≡ i
    → length (events_told f (t ∷ before)) ≡ i') → ShownBy f told i e → ShownBy f (t ∷ told) i' e
one_before f t told i i' e more h = record {
  before = t ∷ h.before;
  after = h.after;
  made = h.made;
  is = ap (λ (ts : List Told). t ∷ ts) h.is;
  fiber = h.fiber;
  shows = h.shows;
  place = more h.before h.place;
}

module _ (f : ℕ) (t : MadeStep) (told : List Told) (e : Event) (rest : (k : ℕ) → slice_get (events_told f told) k ≡ Some e → ShownBy f told k e) where
  own_event : (d : Event) → t.event ≡ Some d → t.fiber ≡ f → (k : ℕ) → slice_get (d ∷ events_told f told) k ≡ Some e → ShownBy f (Step t ∷ told) k e
  own_event d shows same zero here =
      record { before = []; after = told; made = t; is = refl; fiber = same; shows = shows ∙ ap Some (same_Some d e here); place = refl }
  own_event d shows same (suc k) later =
      one_before f (Step t) told k (suc k) e (λ before many. rw (shows, eq-eqb t.fiber f same) (ap suc many)) (rest k later)

  by_event : (o : Option Event) → t.event ≡ o → (i : ℕ) → slice_get (events_told f (Step t ∷ told)) i ≡ Some e → ShownBy f (Step t ∷ told) i e
  by_event None none i at = elim (cases_eq t.fiber f) [
    | inl same ↦ one_before f (Step t) told i i e (λ before many. rw (none, eq-eqb t.fiber f same) many)
        (rest i (rw (none, eq-eqb t.fiber f same) at at))
    | inr other ↦ one_before f (Step t) told i i e (λ before many. rw (ne_eqb t.fiber f other) many) (rest i (rw (ne_eqb t.fiber f other) at at))
  ]
  by_event (Some d) shows i at = elim (cases_eq t.fiber f) [
    | inl same ↦ own_event d shows same i (rw (shows, eq-eqb t.fiber f same) at at)
    | inr other ↦ one_before f (Step t) told i i e (λ before many. rw (ne_eqb t.fiber f other) many) (rest i (rw (ne_eqb t.fiber f other) at at))
  ]

pub shown_by_step : (f : ℕ) (told : List Told) (i : ℕ) (e : Event) → slice_get (events_told f told) i ≡ Some e → ShownBy f told i e
shown_by_step f [] i e at = absurd (none-some e at)
shown_by_step f (Request g ∷ told) i e at = one_before f (Request g) told i i e (λ before same. same) (shown_by_step f told i e at)
shown_by_step f (Passed x ∷ told) i e at = one_before f (Passed x) told i i e (λ before same. same) (shown_by_step f told i e at)
shown_by_step f (Step t ∷ told) i e at = by_event f t told e (λ k later. shown_by_step f told k e later) t.event refl i at

-- what is told of such an event, after what the steps before it have shown
module _ (places : List FormPlace) (made : MadeStep) (e : Event) (shows : made.event ≡ Some e) (after : List Told) where
  none_less : (f : ℕ) (t : MadeStep) (o : Option Event) (place : Option FormPlace) (s : SoFarView) (list : List Stood) (es : List Event)
      → stood_at (stood_when place s t o ++ list) f (length ((if t.fiber == f then one_shown o else []) ++ es)) ≡ stood_at list f (length es)
  none_less f t None place s list es =
      elim (cases_eq t.fiber f) [ inl same ↦ rw (eq-eqb t.fiber f same) refl | inr other ↦ rw (ne_eqb t.fiber f other) refl ]
  none_less f t (Some d) place s list es = elim (cases_eq t.fiber f) [
    | inl same ↦ (let less : suc (length es) - 1 ≡ length es = omega arith in
        rw (eq-eqb t.fiber f same, ne_eqb (suc (length es)) 0 (λ none. absurd (omega arith)), less) refl)
    | inr other ↦ rw (ne_eqb t.fiber f other) refl
  ]

  pub told_then : (nodes : List (Option NodeId)) (s : SoFarView) (before : List Told)
      → told_cause (stood_at (stood_from places nodes s (before ++ Step made ∷ after)) made.fiber (length (events_told made.fiber before)))
      ≡ cause_when (shown_by_all s before) made.learned e
  told_then nodes s [] = rw (shows, eq-eqb made.fiber made.fiber refl) refl
  told_then nodes s (Step t ∷ before) =
      ap told_cause (none_less made.fiber t t.event (place_of places (node_of nodes (Step t))) s
      (stood_from places (stood_after nodes (Step t)) (shown_after s (Step t)) (before ++ Step made ∷ after)) (events_told made.fiber before))
      ∙ told_then (stood_after nodes (Step t)) (shown_after s (Step t)) before
  told_then nodes s (Request g ∷ before) = told_then nodes s before
  told_then nodes s (Passed x ∷ before) = told_then nodes s before
