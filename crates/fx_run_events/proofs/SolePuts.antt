-- The only put of a value into a queue, as it is looked for; and that in a lawful report a get of that value took its element.
use Rattle.std.proofs.Common.{◌≡◌, ℕ, zero, suc, ◌+◌, Bool, true, false, Option, Some, None, List, [], ◌∷◌, ◌++◌, length, refl, sym, ◌∙◌, ap}
use Rattle.std.proofs.Common.{subst, arith, inl, inr, ◌⊎◌}
use Rattle.std.specs.Prelude.{if◌then◌else◌, slice_get, nat_lt}
use Rattle.std.specs.List.{filter}
use Rattle.std.proofs.lemmas.Bool.{cases_eq, eq-eqb, ne_eqb}
use Rattle.std.proofs.lemmas.Option.{none-some, same_Some}
use Rattle.fx_term.specs.Lists.{Among}
use Rattle.fx_term.specs.Script.{ScriptView}
use Rattle.fx_term.specs.declared.event.Event.{Event}
use Rattle.fx_term.specs.declared.event.Event.TheVariants as event
use Rattle.fx_term.proofs.ListLaws.{Among-append_left, Among-append_right}
use Rattle.fx_model.specs.Report.{FiberReportView, ReportView, trace_of_report, trace_in}
use Rattle.fx_model.specs.LawfulReport.{IsLawfulReport}
use Rattle.fx_model.specs.Causes.{TakesWhatWasPut, LeavesQueue}
use Rattle.fx_model.proofs.CausesFound.{causes_found}
use Rattle.fx_picture.specs.declared.layout.TheConstants.{MOST_EVENTS}
use Rattle.fx_picture.specs.declared.stood.EventAt.{EventAt}
use Rattle.fx_run_events.specs.declared.sole_puts.PutAt.{PutAt}
use Rattle.fx_run_events.specs.SolePuts.{put_by, puts_from, puts_in, known_puts, puts_so, only_one, sole_put}
use Rattle.fx_run_events.proofs.RanEvents.{fiber_of}

abbrev put_of : ℕ → ℕ → ℕ → ℕ → PutAt
put_of q v f i = record { queue = q; value = v; at = record { fiber = f; place = i } }

-- where this one was found before them, if one
abbrev pub sole_after : ℕ → ℕ → Option EventAt → List PutAt → Option EventAt
sole_after q v None puts = sole_put q v puts
sole_after q v (Some at) puts = only_one (record { queue = q; value = v; at = at } ∷ filter (puts_so q v) puts)

-- a put of a trace is among its puts, and so among those of the report
put_among : (f k : ℕ) (es : List Event) (j q v : ℕ) → slice_get es j ≡ Some (event.Put q v) → Among (put_of q v f (k + j)) (puts_from f k es)
put_among f k [] j q v at = absurd (none-some (event.Put q v) at)
put_among f k (e ∷ es) zero q v at =
    let here : k + 0 ≡ k = omega arith in
    subst (λ (d : Event). Among (put_of q v f (k + 0)) (put_by f k d ++ puts_from f (suc k) es)) (sym (same_Some e (event.Put q v) at))
    (inl (ap (λ (i : ℕ). put_of q v f i) here))
put_among f k (e ∷ es) (suc j) q v at =
    let same : suc k + j ≡ k + suc j = omega arith in
    Among-append_right (put_by f k e) (puts_from f (suc k) es) (put_of q v f (k + suc j))
    (subst (λ (i : ℕ). Among (put_of q v f i) (puts_from f (suc k) es)) same (put_among f (suc k) es j q v at))

put_in : (fibers : List FiberReportView) (g j q v : ℕ) → slice_get (trace_of_report (fiber_of g fibers)) j ≡ Some (event.Put q v)
    → Among (put_of q v g j) (puts_in fibers)
put_in [] g j q v at = absurd (none-some (event.Put q v) at)
put_in (x ∷ fibers) g j q v at = elim (cases_eq x.id g) [
  | inl same ↦
      (let here : 0 + j ≡ j = omega arith in
      let among = put_among x.id 0 x.trace j q v (rw (eq-eqb x.id g same) at at) in
      Among-append_left (puts_from x.id 0 x.trace) (puts_in fibers) (put_of q v g j)
      (subst (λ (h : ℕ). Among (put_of q v h j) (puts_from x.id 0 x.trace)) same
      (subst (λ (i : ℕ). Among (put_of q v x.id i) (puts_from x.id 0 x.trace)) here among)))
  | inr other ↦ Among-append_right (puts_from x.id 0 x.trace) (puts_in fibers) (put_of q v g j)
      (put_in fibers g j q v (rw (ne_eqb x.id g other) at at))
]

-- what passes a test is among what passes it
among_kept : (b : Bool) (p x : PutAt) (kept : List PutAt) → (p ≡ x → b ≡ true) → (p ≡ x) ⊎ Among p kept → Among p (if b then x ∷ kept else kept)
among_kept true p x kept passes h = h
among_kept false p x kept passes h = elim h [
  | inl same ↦ (let e = passes same in absurd cc)
  | inr there ↦ there
]

among_passing : (test : PutAt → Bool) (p : PutAt) (ps : List PutAt) → test p ≡ true → Among p ps → Among p (filter test ps)
among_passing test p [] passes h = absurd h
among_passing test p (x ∷ ps) passes h =
    among_kept (test x) p x (filter test ps) (λ same. ap test (sym same) ∙ passes) (elim h [
      | inl same ↦ inl same
      | inr there ↦ inr (among_passing test p ps passes there)
    ])

only_is : (p : PutAt) (ps : List PutAt) (at : EventAt) → only_one ps ≡ Some at → Among p ps → p.at ≡ at
only_is p [] at is h = absurd h
only_is p (x ∷ []) at is h = elim h [
  | inl same ↦ ap (λ (y : PutAt). y.at) same ∙ same_Some x.at at is
  | inr none ↦ absurd none
]
only_is p (x ∷ y ∷ ps) at is h = absurd (none-some at is)

-- the put of that value into that queue
abbrev put_for : Event → Event
put_for (event.Got q v) = event.Put q v
put_for e = e

module _ (s : ScriptView) (may : ℕ → Bool) (r : ReportView) (lawful : IsLawfulReport s may r) where
  abbrev pub TakesSo : ℕ → ℕ → ℕ → ℕ → Type 0
  TakesSo f i g j = TakesWhatWasPut (trace_in r) (LeavesQueue s may r lawful) f i g j

  took_the_sole : (f i q v : ℕ) (at : EventAt) → slice_get (trace_in r f) i ≡ Some (event.Got q v) → sole_put q v (puts_in r.fibers) ≡ Some at
      → (g j : ℕ) → TakesWhatWasPut (trace_in r) (LeavesQueue s may r lawful) f i g j → TakesSo f i at.fiber at.place
  took_the_sole f i q v at got sole g j so =
      let same : event.Got so.queue so.value ≡ event.Got q v =
      same_Some (event.Got so.queue so.value) (event.Got q v) (sym so.got ∙ got) in
      let among = put_in r.fibers g j q v (so.put ∙ ap (λ (e : Event). Some (put_for e)) same) in
      let passes : puts_so q v (put_of q v g j) ≡ true = rw (eq-eqb q q refl, eq-eqb v v refl) refl in
      let is = only_is (put_of q v g j) (filter (puts_so q v) (puts_in r.fibers)) at sole
      (among_passing (puts_so q v) (put_of q v g j) (puts_in r.fibers) passes among) in
      subst (λ (x : EventAt). TakesSo f i x.fiber x.place) is so

  pub takes_the_sole : (f i q v : ℕ) (at : EventAt) → slice_get (trace_in r f) i ≡ Some (event.Got q v) → sole_put q v (puts_in r.fibers) ≡ Some at
      → TakesSo f i at.fiber at.place
  takes_the_sole f i q v at got sole =
      let found = (causes_found s may r lawful).puts f i q v got in took_the_sole f i q v at got sole found.0 found.1 found.2

  -- so of those that are looked through
  if_known : (b : Bool) (f i q v : ℕ) (at : EventAt) → slice_get (trace_in r f) i ≡ Some (event.Got q v)
      → sole_put q v (if b then [] else puts_in r.fibers) ≡ Some at → TakesSo f i at.fiber at.place
  if_known true f i q v at got sole = absurd (none-some at sole)
  if_known false f i q v at got sole = takes_the_sole f i q v at got sole

  pub takes_the_known : (f i q v : ℕ) (at : EventAt) → slice_get (trace_in r f) i ≡ Some (event.Got q v)
      → sole_put q v (known_puts r.fibers) ≡ Some at → TakesSo f i at.fiber at.place
  takes_the_known f i q v at got sole = if_known (nat_lt MOST_EVENTS (length (puts_in r.fibers))) f i q v at got sole
