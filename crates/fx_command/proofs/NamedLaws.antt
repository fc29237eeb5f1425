-- What is left of the names of fibers, where one step more is told; and which step a name is of.
use Rattle.std.proofs.Common.{◌≡◌, ℕ, true, Option, Some, None, List, [], ◌∷◌, ◌++◌, refl, ◌∙◌, ap, append_assoc, ◌⊎◌, inl, inr}
use Rattle.std.specs.Prelude.{is_some}
use Rattle.std.proofs.lemmas.Bool.{cases_eq, eq-eqb, ne_eqb}
use Rattle.std.proofs.lemmas.Option.{none-some}
use Rattle.fx_term.specs.declared.event.Event.{Event}
use Rattle.fx_term.specs.declared.event.Event.TheVariants as event
use Rattle.fx_places.specs.declared.form.Form.TheVariants as form
use Rattle.fx_places.specs.declared.place.FormPlace.{FormPlace}
use Rattle.fx_places.specs.Handle.{handle_of}
use Rattle.fx_plain.specs.declared.told.MadeStep.{MadeStep}
use Rattle.fx_plain.specs.declared.told.Told.{Told}
use Rattle.fx_plain.specs.declared.told.Told.TheVariants.{Step, Request, Passed}
use Rattle.fx_picture.specs.Handles.{Named, name_of}
use Rattle.fx_command.specs.ToldText.{place_of}
use Rattle.fx_command.specs.HandlesTold.{one_named, named_by, named_in, named_told, IsNamedBy}

pub named_on : (source : List ℕ) (places : List FormPlace) (rest more : List Told) (next : Told) (done done' whole : List Named) → rest ≡ next ∷ more
    → done' ≡ done ++ named_in source places next → done ++ named_told source places rest ≡ whole → done' ++ named_told source places more ≡ whole
named_on source places rest more next done done' whole one named h = rw named (append_assoc done _ _ ∙ (rw one at h))

-- a name among these and those is among these or among those
pub either_of : (xs ys : List Named) (g : ℕ) (name : List ℕ) → name_of (xs ++ ys) g ≡ Some name → (name_of xs g ≡ Some name) ⊎ (name_of ys g ≡ Some name)
either_of [] ys g name is = inr is
either_of (x ∷ xs) ys g name is = elim (cases_eq x.fiber g) [
  | inl same ↦ inl (rw (eq-eqb x.fiber g same) (rw (eq-eqb x.fiber g same) at is))
  | inr other ↦ elim (either_of xs ys g name (rw (ne_eqb x.fiber g other) at is)) [
    | inl here ↦ inl (rw (ne_eqb x.fiber g other) here)
    | inr there ↦ inr there
  ]
]

pub still_named : (xs ys : List Named) (g : ℕ) → is_some (name_of ys g) ≡ true → is_some (name_of (xs ++ ys) g) ≡ true
still_named [] ys g is = is
still_named (x ∷ xs) ys g is = elim (cases_eq x.fiber g) [
  | inl same ↦ rw (eq-eqb x.fiber g same) refl
  | inr other ↦ rw (ne_eqb x.fiber g other) (still_named xs ys g is)
]

module _ (source : List ℕ) (places : List FormPlace) (g : ℕ) where
  -- the name of one
  pub named_one : (f : ℕ) (h : Option (List ℕ)) (name : List ℕ) → name_of (one_named f h) g ≡ Some name → (f ≡ g) × (h ≡ Some name)
  named_one f None name is = absurd (none-some name is)
  named_one f (Some n) name is = elim (cases_eq f g) [
    | inl same ↦ (same, rw (eq-eqb f g same) at is)
    | inr other ↦ absurd (none-some name (rw (ne_eqb f g other) at is))
  ]

  by_step : (made : MadeStep) (name : List ℕ) (p : Option FormPlace) (o : Option Event) → place_of places made.node ≡ p → made.event ≡ o
      → name_of (named_by source p o) g ≡ Some name
      → (place : FormPlace) × (made.event ≡ Some (event.Start g)) × (place_of places made.node ≡ Some place) × (handle_of source place ≡ Some name)
  by_step made name (Some place) (Some (event.Start f)) placed shows is =
      let one = named_one f (handle_of source place) name is in
      (place, shows ∙ ap (λ (k : ℕ). Some (event.Start k)) one.0, placed, one.1)
  by_step made name None o placed shows is = absurd (none-some name is)
  by_step made name (Some place) None placed shows is = absurd (none-some name is)
  by_step made name (Some place) (Some _) placed shows is = absurd (none-some name is)

  more_before : (t : Told) (told : List Told) (name : List ℕ) → IsNamedBy source places told g name → IsNamedBy source places (t ∷ told) g name
  more_before t told name n = record {
    before = t ∷ n.before;
    after = n.after;
    made = n.made;
    place = n.place;
    is = ap (λ (ts : List Told). t ∷ ts) n.is;
    starts = n.starts;
    placed = n.placed;
    named = n.named;
  }

  pub is_named_by : (told : List Told) (name : List ℕ) → name_of (named_told source places told) g ≡ Some name → IsNamedBy source places told g name
  is_named_by [] name is = absurd (none-some name is)
  is_named_by (Step made ∷ told) name is =
      elim (either_of (named_by source (place_of places made.node) made.event) (named_told source places told) g name is) [
        | inl here ↦
            (let so = by_step made name (place_of places made.node) made.event refl refl here in
            record { before = []; after = told; made = made; place = so.0; is = refl; starts = so.1; placed = so.2; named = so.3 })
        | inr there ↦ more_before (Step made) told name (is_named_by told name there)
      ]
  is_named_by (Request f ∷ told) name is = more_before (Request f) told name (is_named_by told name is)
  is_named_by (Passed x ∷ told) name is = more_before (Passed x) told name (is_named_by told name is)

  pub is_named : (before after : List Told) (made : MadeStep) (place : FormPlace) → made.event ≡ Some (event.Start g)
      → place_of places made.node ≡ Some place → place.form ≡ form.Start
      → is_some (name_of (named_told source places (before ++ Step made ∷ after)) g) ≡ true
  is_named [] after made place starts placed start = rw (placed, starts, start, eq-eqb g g refl) refl
  is_named (t ∷ before) after made place starts placed start =
      still_named (named_in source places t) (named_told source places (before ++ Step made ∷ after)) g (is_named before after made place starts placed start)
