-- What is told of an event is told of the step that showed it.
use Rattle.std.proofs.Common.{◌≡◌, ℕ, zero, suc, ◌-◌, ◌==◌, true, Option, Some, None, List, [], ◌∷◌, ◌++◌, refl, ap, ◌∙◌, arith, inl, inr}
use Rattle.std.specs.Prelude.{if◌then◌else◌, slice_get, slice_index_or}
use Rattle.std.proofs.lemmas.Bool.{cases_eq, eq-eqb, ne_eqb}
use Rattle.fx_term.specs.declared.event.Event.{Event}
use Rattle.fx_term.specs.declared.node.NodeId.{NodeId}
use Rattle.fx_places.specs.declared.place.FormPlace.{FormPlace}
use Rattle.fx_plain.specs.declared.told.MadeStep.{MadeStep}
use Rattle.fx_plain.specs.declared.told.Told.{Told}
use Rattle.fx_plain.specs.declared.told.Told.TheVariants.{Step, Request, Passed}
use Rattle.fx_plain.specs.ToldRun.{one_shown, events_told}
use Rattle.fx_picture.specs.declared.stood.Stood.{Stood}
use Rattle.fx_picture.specs.Stood.{stood_at}
use Rattle.fx_command.specs.SoFar.{SoFarView}
use Rattle.fx_command.specs.ToldText.{last_node, node_of, stood_after, place_of}
use Rattle.fx_command.specs.StoodEvents.{position_of, stood_when, shown_after, stood_from}
use Rattle.fx_command.specs.IsToldOf.{one_step, steps_of, IsToldOf}

module _ (places : List FormPlace) where
  -- with the events of a step before those of these
  abbrev WithStep : ℕ → Option FormPlace → SoFarView → MadeStep → Option Event → List MadeStep → List Stood → ℕ → Event → Type 0
  WithStep f place s made o steps list i e =
      (m : MadeStep) × (slice_get ((if made.fiber == f then one_step made o else []) ++ steps) i ≡ Some m) × (m.event ≡ Some e)
      × (stood : Stood) × (stood_at (stood_when place s made o ++ list) f i ≡ Some stood) × (stood.is_open ≡ m.is_open)
      × ((id : NodeId) → m.node ≡ Some id → stood.position ≡ position_of (place_of places (Some id)))

  same_node : (nodes : List (Option NodeId)) (made : MadeStep) (id : NodeId) → made.node ≡ Some id
      → position_of (place_of places (node_of nodes (Step made))) ≡ position_of (place_of places (Some id))
  same_node nodes made id is =
      ap (λ (node : Option NodeId). position_of (place_of places (last_node (slice_index_or nodes made.fiber None) node))) is

  with_step : (f : ℕ) (nodes : List (Option NodeId)) (s : SoFarView) (made : MadeStep) (o : Option Event) (told : List Told) (list : List Stood) (i : ℕ)
      (e : Event) → made.event ≡ o → ((j : ℕ) → slice_get (events_told f told) j ≡ Some e → IsToldOf places told list f j e)
      → slice_get ((if made.fiber == f then one_shown o else []) ++ events_told f told) i ≡ Some e
      → WithStep f (place_of places (node_of nodes (Step made))) s made o (steps_of f told) list i e
  with_step f nodes s made None told list i e is rest at = elim (cases_eq made.fiber f) [
    | inl same ↦ (let r = rest i (rw (eq-eqb made.fiber f same) at at) in
        rw (eq-eqb made.fiber f same) (r.made, r.step, r.shows, r.stood, r.told_so, r.is_open, r.position))
    | inr other ↦ (let r = rest i (rw (ne_eqb made.fiber f other) at at) in
        rw (ne_eqb made.fiber f other) (r.made, r.step, r.shows, r.stood, r.told_so, r.is_open, r.position))
  ]
  with_step f nodes s made (Some d) told list i e is rest at = elim (cases_eq made.fiber f) [
    | inl same ↦ own i (rw (eq-eqb made.fiber f same) at at) (eq-eqb made.fiber f same)
    | inr other ↦ (let r = rest i (rw (ne_eqb made.fiber f other) at at) in
        rw (ne_eqb made.fiber f other) (r.made, r.step, r.shows, r.stood, r.told_so, r.is_open, r.position))
  ]
    where
      own : (i : ℕ) → slice_get (d ∷ events_told f told) i ≡ Some e → made.fiber == f ≡ true
          → WithStep f (place_of places (node_of nodes (Step made))) s made (Some d) (steps_of f told) list i e
      own zero here eq = rw eq (made, refl, is ∙ here, _, refl, refl, λ id node. same_node nodes made id node)
      own (suc j) later eq =
          let r = rest j later in
          let same : suc j - 1 ≡ j = omega arith in
          let told_so = ap (λ (k : ℕ). stood_at list f k) same ∙ r.told_so in
          rw (eq, ne_eqb (suc j) 0 (λ none. absurd (omega arith))) (r.made, r.step, r.shows, r.stood, told_so, r.is_open, r.position)

  pub told_of : (f : ℕ) (told : List Told) (nodes : List (Option NodeId)) (s : SoFarView) (i : ℕ) (e : Event) → slice_get (events_told f told) i ≡ Some e
      → IsToldOf places told (stood_from places nodes s told) f i e
  told_of f [] nodes s i e at = absurd (cc at)
  told_of f (Step made ∷ told) nodes s i e at =
      let w =
      with_step f nodes s made made.event told (stood_from places (stood_after nodes (Step made)) (shown_after s (Step made)) told) i e refl
      (λ j at. told_of f told (stood_after nodes (Step made)) (shown_after s (Step made)) j e at) at in
      record {
        made = w.0;
        step = w.1;
        shows = w.2;
        stood = w.3;
        told_so = w.4;
        is_open = w.5;
        position = w.6;
      }
  told_of f (Request g ∷ told) nodes s i e at =
      let r = told_of f told nodes s i e at in
      record { made = r.made; step = r.step; shows = r.shows; stood = r.stood; told_so = r.told_so; is_open = r.is_open; position = r.position }
  told_of f (Passed x ∷ told) nodes s i e at =
      let r = told_of f told nodes s i e at in
      record { made = r.made; step = r.step; shows = r.shows; stood = r.stood; told_so = r.told_so; is_open = r.is_open; position = r.position }
