-- Which event of a run on threads the name of a fiber is of.
use Rattle.std.proofs.Common.{◌≡◌, ℕ, true, Option, Some, None, List, [], ◌∷◌, ◌++◌, refl, ap, append_assoc, ◌∙◌, sym, inl, inr}
use Rattle.std.specs.Prelude.{is_some}
use Rattle.std.specs.List.{flat_map}
use Rattle.std.proofs.lemmas.Bool.{eq-eqb}
use Rattle.std.proofs.lemmas.Option.{none-some}
use Rattle.fx_term.specs.declared.event.Event.{Event}
use Rattle.fx_term.specs.declared.event.Event.TheVariants as event
use Rattle.fx_term.specs.Lists.{Among}
use Rattle.fx_places.specs.declared.form.Form.TheVariants as form
use Rattle.fx_places.specs.declared.place.FormPlace.{FormPlace}
use Rattle.fx_places.specs.Handle.{handle_of}
use Rattle.fx_picture.specs.Handles.{Named, name_of}
use Rattle.fx_run_events.specs.declared.ran_event.RanEvent.{RanEvent}
use Rattle.fx_run_events.specs.RanEvents.{node_stood}
use Rattle.fx_command.specs.HandlesTold.{named_by, named_at}
use Rattle.fx_command.specs.IsStoodOf.{IsNamedIn}
use Rattle.fx_command.specs.ToldText.{place_of}
use Rattle.fx_command.proofs.NamedLaws.{either_of, still_named, named_one}

pub named_after : (source : List ℕ) (places : List FormPlace) (rest more : List RanEvent) (next : RanEvent) (place : Option FormPlace)
    (done done' whole : List Named) → rest ≡ next ∷ more → place ≡ place_of places (node_stood next.stand)
    → done' ≡ done ++ named_by source place (Some next.event)
    → done ++ flat_map (named_at source places) rest ≡ whole → done' ++ flat_map (named_at source places) more ≡ whole
named_after source places rest more next place done done' whole one placed named h = rw (named, placed) (append_assoc done _ _ ∙ (rw one at h))

module _ (source : List ℕ) (places : List FormPlace) (g : ℕ) where
  by_event : (e : RanEvent) (name : List ℕ) (p : Option FormPlace) (d : Event) → place_of places (node_stood e.stand) ≡ p → e.event ≡ d
      → name_of (named_by source p (Some d)) g ≡ Some name
      → (place : FormPlace) × (e.event ≡ event.Start g) × (place_of places (node_stood e.stand) ≡ Some place) × (handle_of source place ≡ Some name)
  by_event e name (Some place) (event.Start f) placed shows is =
      let one = named_one source places g f (handle_of source place) name is in (place, shows ∙ ap (λ (k : ℕ). event.Start k) one.0, placed, one.1)
  by_event e name None d placed shows is = absurd (none-some name is)
  by_event e name (Some place) _ placed shows is = absurd (none-some name is)

  pub named_in : (list : List RanEvent) (name : List ℕ) → name_of (flat_map (named_at source places) list) g ≡ Some name
      → IsNamedIn source places list g name
  named_in [] name is = absurd (none-some name is)
  named_in (e ∷ list) name is = elim (either_of (named_at source places e) (flat_map (named_at source places) list) g name is) [
    | inl here ↦
        (let so = by_event e name (place_of places (node_stood e.stand)) e.event refl refl here in
        record { before = []; after = list; started = e; place = so.0; is = refl; starts = so.1; placed = so.2; named = so.3 })
    | inr there ↦
        (let n = named_in list name there in
        record {
          before = e ∷ n.before;
          after = n.after;
          started = n.started;
          place = n.place;
          is = ap (λ (es : List RanEvent). e ∷ es) n.is;
          starts = n.starts;
          placed = n.placed;
          named = n.named;
        })
  ]

  pub each_named : (list : List RanEvent) (started : RanEvent) (place : FormPlace) → Among started list → started.event ≡ event.Start g
      → place_of places (node_stood started.stand) ≡ Some place → place.form ≡ form.Start
      → is_some (name_of (flat_map (named_at source places) list) g) ≡ true
  each_named [] started place among starts placed start = absurd among
  each_named (e ∷ list) started place among starts placed start = elim among [
    | inl same ↦
        (let starts : e.event ≡ event.Start g = ap (λ (x : RanEvent). x.event) (sym same) ∙ starts in
        let placed : place_of places (node_stood e.stand) ≡ Some place = ap (λ (x : RanEvent). place_of places (node_stood x.stand)) (sym same) ∙ placed in
        rw (placed, starts, start, eq-eqb g g refl) refl)
    | inr there ↦ still_named (named_at source places e) (flat_map (named_at source places) list) g (each_named list started place there starts placed start)
  ]
