-- What the ledger tells of lost fibers is so.
use Rattle.std.proofs.Common.{◌≡◌, ℕ, ◌<◌, ◌≤◌, All, Bool, true, false, Option, Some, None}
use Rattle.std.proofs.Common.{option_map, List, [], ◌∷◌, refl, sym, ◌∙◌, ap, subst, inl, inr, arith}
use Rattle.std.specs.Prelude.{◌==◌, ◌&&◌, ◌||◌, not, is_some, slice_index_or, if◌then◌else◌}
use Rattle.std.specs.List.{find, list_any}
use Rattle.std.proofs.lemmas.Bool.{eq-eqb, eqb-true, cases_lt, or_left, or_right, or_cases}
use Rattle.std.proofs.lemmas.List.{length-replicate, get_or-replicate}
use Rattle.std.proofs.lemmas.List.Kept.{AllPairs-from_increasing}
use Rattle.fx_term.specs.Lists.{Among}
use Rattle.fx_term.specs.declared.event.Event.{Event}
use Rattle.fx_term.specs.declared.event.Event.TheVariants as event
use Rattle.fx_model.specs.LawfulReport.{is_start_of}
use Rattle.fx_fiber.specs.Bare.{BareView}
use Rattle.fx_run.specs.Reported.{AreAscending, bare_at, parent_of, IsLost, NoneIsLost, IsLeast}
use Rattle.fx_run.specs.Ledger.{LedgerView, empty_ledger, with_fibers, is_lost_in, IsFirstLost}
use Rattle.fx_run.proofs.Members.{among_all, any_among, found_passing, found_is, found_itself}
use Rattle.fx_run.proofs.Answered.{none_is_lost}
use Rattle.fx_run.proofs.LedgerLaws.{or_first, fibers_parent, fibers_given, IsBeyond, is_started, fibers_beyond}

-- the first that passes a test is found exactly where one passes
some_found : {A : Type 0} (test : A → Bool) (xs : List A) → is_some (find test xs) ≡ list_any test xs
some_found test [] = refl
some_found test (x ∷ xs) = by_test (test x) (some_found test xs)
  where
    by_test : (b : Bool) → is_some (find test xs) ≡ list_any test xs → is_some (if b then Some x else find test xs) ≡ (b || list_any test xs)
    by_test true e = refl
    by_test false e = e

some_mapped : {A B : Type 0} (h : A → B) (o : Option A) → is_some (option_map h o) ≡ is_some o
some_mapped h None = refl
some_mapped h (Some x) = refl

-- a trace that starts f has that event
start_among : (f : ℕ) (es : List Event) → list_any (is_start_of f) es ≡ true → Among (event.Start f) es
start_among f [] e = absurd cc
start_among f (v ∷ es) e = elim (or_cases (is_start_of f v) (list_any (is_start_of f) es) e) [
  | inl here ↦ inl (is_start f v here)
  | inr later ↦ inr (start_among f es later)
]
  where
    is_start : (f : ℕ) (v : Event) → is_start_of f v ≡ true → event.Start f ≡ v
    is_start f (event.Start g) e = ap (λ (n : ℕ). event.Start n) (sym (eqb-true g f e))
    is_start f _ e = absurd cc

among_start : (f : ℕ) (es : List Event) → Among (event.Start f) es → list_any (is_start_of f) es ≡ true
among_start f es i = any_among (is_start_of f) es (event.Start f) i (eq-eqb f f refl)

abbrev is_lost_of : List BareView → ℕ → Bool
is_lost_of xs f = not (is_some (bare_at xs f)) && (f == 0 || is_started xs f)

none_from : {A : Type 0} (o : Option A) → not (is_some o) ≡ true → o ≡ None
none_from None e = refl
none_from (Some x) e = absurd cc

and_parts : (a b : Bool) → (a && b) ≡ true → (a ≡ true) × (b ≡ true)
and_parts true b e = (refl, e)
and_parts false b e = absurd cc

not_both : {P : Type 0} (b : Bool) → b ≡ false → b ≡ true → P
not_both true e f = absurd cc
not_both false e f = absurd cc

module _ (xs : List BareView) (ascending : AreAscending xs) where
  -- a fiber given whose trace starts f
  started_by : (f : ℕ) → is_started xs f ≡ true → (g : ℕ) × (y : BareView) × (bare_at xs g ≡ Some y) × Among (event.Start f) y.trace
  started_by f e =
      let p = found_passing (λ (x : BareView). list_any (is_start_of f) x.trace) xs e in
      let is = found_is (λ (x : BareView). list_any (is_start_of f) x.trace) xs p.item p.found in
      (p.item.id, p.item, found_itself (λ (x : BareView). x.id) xs (AllPairs-from_increasing _ ascending) p.item is.1, start_among f p.item.trace is.0)

  is_started_by : (f g : ℕ) (y : BareView) → bare_at xs g ≡ Some y → Among (event.Start f) y.trace → is_started xs f ≡ true
  is_started_by f g y at i =
      any_among (λ (x : BareView). list_any (is_start_of f) x.trace) xs y (found_is (λ (x : BareView). x.id == g) xs y at).1 (among_start f y.trace i)

  lost_from : (f : ℕ) → is_lost_of xs f ≡ true → IsLost xs f
  lost_from f e =
      let parts = and_parts (not (is_some (bare_at xs f))) (f == 0 || is_started xs f) e in (
        none_from (bare_at xs f) parts.0,
        elim (or_cases (f == 0) (is_started xs f) parts.1) [
          | inl zero ↦ inl (eqb-true f 0 zero)
          | inr by ↦ inr (started_by f by)
        ],
      )

  lost_is : (f : ℕ) → IsLost xs f → is_lost_of xs f ≡ true
  lost_is f (nowhere, why) = rw nowhere (elim why [
    | inl zero ↦ or_left (f == 0) (is_started xs f) (eq-eqb f 0 zero)
    | inr by ↦ or_right (f == 0) (is_started xs f) (is_started_by f by.0 by.1 by.2 by.3)
  ])

  module _ (total : ℕ) (some : 0 < total) (below : All (λ (x : BareView). x.id < total) xs) where
    abbrev pub told : LedgerView
    told = with_fibers xs (empty_ledger total)

    pub given_told : (f : ℕ) → f < total → slice_index_or told.given f false ≡ is_some (bare_at xs f)
    given_told f lt =
        fibers_given f xs (empty_ledger total) (let long = length-replicate total false in omega (arith, lt, long))
        ∙ ap (λ (b : Bool). b || is_some (bare_at xs f)) (get_or-replicate total f false false lt)

    pub parent_told : (f : ℕ) → f < total → slice_index_or told.parents f None ≡ parent_of xs f
    parent_told f lt =
        fibers_parent f xs (empty_ledger total) (let nobody : Option ℕ = None in let long = length-replicate total nobody in omega (arith, lt, long))
        ∙ start (slice_index_or (empty_ledger total).parents f None) (get_or-replicate total f None None lt)
      where
        start : (o : Option ℕ) → o ≡ None → or_first o (parent_of xs f) ≡ parent_of xs f
        start o e = ap (λ (z : Option ℕ). or_first z (parent_of xs f)) e

    lost_told : (f : ℕ) → f < total → is_lost_in told f ≡ is_lost_of xs f
    lost_told f lt =
        let started : is_some (slice_index_or told.parents f None) ≡ is_started xs f =
        ap (λ (o : Option ℕ). is_some o) (parent_told f lt)
        ∙ some_mapped (λ (x : BareView). x.id) (find (λ (x : BareView). list_any (is_start_of f) x.trace) xs)
        ∙ some_found (λ (x : BareView). list_any (is_start_of f) x.trace) xs in
        rw (given_told f lt, started) refl

    pub nowhere_past : (f : ℕ) → total ≤ f → bare_at xs f ≡ None
    nowhere_past f le = by_bare (bare_at xs f) refl
      where
        by_bare : (o : Option BareView) → bare_at xs f ≡ o → o ≡ None
        by_bare None e = refl
        by_bare (Some x) e =
            let is = found_is (λ (y : BareView). y.id == f) xs x e in
            let same = eqb-true x.id f is.0 in
            let lt = among_all (λ (y : BareView). y.id < total) xs x below is.1 in
            absurd (omega (arith, same, lt, le))

    beyond_told : IsBeyond total (is_started xs) told.beyond
    beyond_told =
        let nobody : Option ℕ = None in
        subst (λ (n : ℕ). IsBeyond n (is_started xs) told.beyond) (length-replicate total nobody)
        (fibers_beyond xs (empty_ledger total) (λ f. false) (λ f le. refl))

    -- what is lost past the total was started
    started_past : (f : ℕ) → total ≤ f → IsLost xs f → is_started xs f ≡ true
    started_past f le (nowhere, inl zero) = absurd (omega (arith, some, le, zero))
    started_past f le (nowhere, inr by) = is_started_by f by.0 by.1 by.2 by.3

    none_below : ((g : ℕ) → g < total → is_lost_in told g ≡ false) → (g : ℕ) → g < total → IsLost xs g → ⊥
    none_below none g lt l = not_both (is_lost_in told g) (none g lt) (lost_told g lt ∙ lost_is g l)

    pub none_lost : IsFirstLost total told None → NoneIsLost xs
    none_lost (none, nothing) = none_is_lost xs (λ g l. elim (cases_lt g total) [
      | inl lt ↦ none_below none g lt l
      | inr le ↦ not_both (is_started xs g) (subst (IsBeyond total (is_started xs)) nothing beyond_told g le) (started_past g le l)
    ])

    pub least_lost : (f : ℕ) → IsFirstLost total told (Some f) → IsLeast (IsLost xs) f
    least_lost f (inl here) = (
      lost_from f (sym (lost_told f here.0) ∙ here.1),
      λ g lt l. (let down = here.0 in
          let less : g < total = omega (arith, lt, down) in
          not_both (is_lost_in told g) (here.2 g lt) (lost_told g less ∙ lost_is g l)),
    )
    least_lost f (inr past) =
        let b = subst (IsBeyond total (is_started xs)) past.1 beyond_told in (
          (nowhere_past f b.0, inr (started_by f b.1)),
          λ g lt l. elim (cases_lt g total) [
            | inl less ↦ none_below past.0 g less l
            | inr le ↦ not_both (is_started xs g) (b.2 g le lt) (started_past g le l)
          ],
        )

    -- the same of a ledger that is so
    module _ (v : LedgerView) (r : Option ℕ) (first : IsFirstLost total v r) (is : v ≡ told) where
      pub none_lost_at : r ≡ None → NoneIsLost xs
      none_lost_at e = none_lost (subst (λ (z : Option ℕ). IsFirstLost total told z) e (subst (λ (u : LedgerView). IsFirstLost total u r) is first))

      pub least_lost_at : (f : ℕ) → r ≡ Some f → IsLeast (IsLost xs) f
      least_lost_at f e = least_lost f (subst (λ (z : Option ℕ). IsFirstLost total told z) e (subst (λ (u : LedgerView). IsFirstLost total u r) is first))
