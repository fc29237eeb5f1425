-- No arrow of a picture joins events of which the one does not stand on the other, where nothing else is told.
use Rattle.std.proofs.Common.{◌≡◌, ℕ, Bool, true, false, ◌&&◌, ◌||◌, Option, Some, None, List, refl, sym, ◌∙◌, ap, subst, arith, inl, inr}
use Rattle.std.specs.Prelude.{◌==◌, slice_get}
use Rattle.std.proofs.lemmas.Bool.{eqb-true, or_cases}
use Rattle.std.proofs.lemmas.Option.{none-some, same_Some, cond_some}
use Rattle.fx_term.specs.declared.outcome.Outcome.{Outcome}
use Rattle.fx_term.specs.declared.event.Event.{Event}
use Rattle.fx_term.specs.declared.event.Event.TheVariants as event
use Rattle.fx_term.specs.Script.{ScriptView}
use Rattle.fx_model.specs.Causes.{IsLearning, LearnsOfEnd, Needs, LeavesQueue}
use Rattle.fx_model.specs.Causes as needs
use Rattle.fx_model.specs.LawfulReport.{IsLawfulReport}
use Rattle.fx_model.specs.Report.{FiberReportView, ReportView, fiber_in, trace_of_report, trace_in}
use Rattle.fx_model.specs.Row.{Learns}
use Rattle.fx_model.proofs.CausesFound.{causes_found}
use Rattle.fx_model.proofs.ShownLabels.{shown_holds}
use Rattle.fx_order.specs.declared.occurrence.Occurrence.{Occurrence}
use Rattle.fx_picture.specs.declared.cause.Cause.{Cause}
use Rattle.fx_picture.specs.declared.cause.Cause.TheVariants.{Start, End, Request, Element}
use Rattle.fx_picture.specs.declared.stood.EventAt.{EventAt}
use Rattle.fx_picture.specs.declared.stood.Stood.{Stood}
use Rattle.fx_picture.specs.Causes.{is_told_by, is_seen, is_first, is_got_of, is_at, cause_by}
use Rattle.fx_picture.specs.DrawsOnly.{JoinsRightly, stands, sees, TellsOnly, DrawsOnly}
use Rattle.fx_picture.specs.Stood.{stood_at, told_cause}
use Rattle.fx_picture.proofs.NamedEnds.{Names, run_names}
use Rattle.fx_picture.proofs.OneEnd.{last_end}

and_parts : (a b : Bool) → (a && b) ≡ true → (a ≡ true) × (b ≡ true)
and_parts true b e = (refl, e)
and_parts false b e = absurd cc

-- whose end an event that says so learns of
named_is : (g h : ℕ) (o : Outcome) (e : Event) → is_told_by g e ≡ true → Names (Learns h o e) → h ≡ g
named_is g h o (event.Joined k v) is names = names ∙ eqb-true k g is
named_is g h o (event.Awaited k) is names = names ∙ eqb-true k g is
named_is g h o _ is names = absurd cc

learning : (g : ℕ) (e : Event) → is_told_by g e ≡ true → IsLearning e
learning g (event.Joined k v) is = tt
learning g (event.Awaited k) is = tt
learning g _ is = absurd cc

seen_is : (e : Event) → is_seen e ≡ true → e ≡ event.Seen
seen_is event.Seen is = refl
seen_is _ is = absurd cc

at_is : (x : Occurrence) (o : Option EventAt) → is_at x o ≡ true → o ≡ Some (record { fiber = x.fiber; place = x.place })
at_is x None is = absurd cc
at_is x (Some at) is =
    let both = and_parts (at.fiber == x.fiber) (at.place == x.place) is in
    rw (eqb-true at.fiber x.fiber both.0, eqb-true at.place x.place both.1) refl

module _ (s : ScriptView) (may : ℕ → Bool) (r : ReportView) (lawful : IsLawfulReport s may r) where
  abbrev NeedsSo : ℕ → ℕ → ℕ → ℕ → Type 0
  NeedsSo f i g j = Needs (trace_in r) lawful.runs.labels (LeavesQueue s may r lawful) f i g j

  learns_of_named : (f i g h k : ℕ) (e : Event) → slice_get (trace_in r f) i ≡ Some e → is_told_by g e ≡ true
      → LearnsOfEnd (trace_in r) lawful.runs.labels f i h k → h ≡ g
  learns_of_named f i g h k e at is l = by_fiber (fiber_in r f) refl
    where
      by_fiber : (o : Option FiberReportView) → fiber_in r f ≡ o → h ≡ g
      by_fiber None none = absurd (none-some e (sym (ap (λ (o : Option FiberReportView). slice_get (trace_of_report o) i) none) ∙ at))
      by_fiber (Some x) there =
          let labels = lawful.runs.labels f in
          let names = shown_holds Names labels i _ (run_names _ _ _ _ labels (lawful.runs.run f x there).run) l.learns in
          let same : l.learning ≡ e = same_Some l.learning e (sym l.tells ∙ at) in
          named_is g h l.outcome l.learning (ap (is_told_by g) same ∙ is) names

  -- an event that names a fiber as ended stands on the end of that
  named_end : (f i g j : ℕ) (e : Event) (o : Outcome) → slice_get (trace_in r f) i ≡ Some e → is_told_by g e ≡ true
      → slice_get (trace_in r g) j ≡ Some (event.Ended o) → NeedsSo f i g j
  named_end f i g j e o at is ended =
      let found = (causes_found s may r lawful).ends f i e at (learning g e is) in
      let fiber_is = learns_of_named f i g found.0 found.1 e at is found.2 in
      let first = last_end s may r lawful g j o ended in
      let second = last_end s may r lawful g found.1 found.2.outcome
      (subst (λ (h : ℕ). slice_get (trace_in r h) found.1 ≡ Some (event.Ended found.2.outcome)) fiber_is found.2.ended) in
      let place_is : found.1 ≡ j = omega (arith, first, second) in
      subst (λ (h : ℕ). NeedsSo f i h j) fiber_is (subst (λ (k : ℕ). NeedsSo f i found.0 k) place_is (needs.end_of_other found.2))

  module _ (stood : List Stood) (only : TellsOnly s may r lawful stood) (x y : Occurrence) (cause : Cause)
      (is_x : slice_get (trace_in r x.fiber) x.place ≡ Some x.event) (is_y : slice_get (trace_in r y.fiber) y.place ≡ Some y.event) where
    abbrev told : Option EventAt
    told = told_cause (stood_at stood y.fiber y.place)

    abbrev Rightly : Type 0
    Rightly = JoinsRightly s may r lawful x y

    told_so : is_at x told ≡ true → Rightly
    told_so at = stands (only y.fiber y.place x.fiber x.place (at_is x told at))

    by_event : (d : Event) → x.event ≡ d → cause_by told d x y ≡ Some cause → Rightly
    by_event (event.Start f) is joined =
        let both = and_parts (y.place == 0) (y.fiber == f) (cond_some ((y.place == 0) && (y.fiber == f)) Start cause joined).0 in
        stands (needs.start (eqb-true y.place 0 both.0) (is_x ∙ ap Some is ∙ ap (λ (g : ℕ). Some (event.Start g)) (sym (eqb-true y.fiber f both.1))))
    by_event (event.Ended o) is joined =
        elim (or_cases (is_told_by x.fiber y.event) (is_first y.event && is_at x told)
        (cond_some (is_told_by x.fiber y.event || (is_first y.event && is_at x told)) End cause joined).0) [
          | inl named ↦ stands (named_end y.fiber y.place x.fiber x.place y.event o is_y named (is_x ∙ ap Some is))
          | inr first ↦ told_so (and_parts (is_first y.event) (is_at x told) first).1
        ]
    by_event (event.Request f) is joined =
        let both = and_parts (is_seen y.event) (y.fiber == f) (cond_some (is_seen y.event && (y.fiber == f)) Request cause joined).0 in
        sees (seen_is y.event both.0) (is ∙ ap event.Request (sym (eqb-true y.fiber f both.1)))
    by_event (event.Put q v) is joined =
        told_so (and_parts (is_got_of q v y.event) (is_at x told) (cond_some (is_got_of q v y.event && is_at x told) Element cause joined).0).1
    by_event _ is joined = absurd (none-some cause joined)

  pub draws_only : (stood : List Stood) → TellsOnly s may r lawful stood → DrawsOnly s may r lawful stood
  draws_only stood only x y cause is_x is_y joined = by_event stood only x y cause is_x is_y x.event refl joined
