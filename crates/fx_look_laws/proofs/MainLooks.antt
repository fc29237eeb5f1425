-- Whole scripts whose main fibers look the same have reports that look the same.
use Rattle.std.proofs.Common.{◌≡◌, ℕ, Bool, true, false, ◌&&◌, not, Some, List, [], ◌∷◌, refl, sym, ◌∙◌, ap, subst, inl}
use Rattle.std.proofs.lemmas.Option.{same_Some}
use Rattle.fx_term.specs.Need.{need}
use Rattle.fx_term.specs.Term.{Term}
use Rattle.fx_term.specs.Script.{ScriptView}
use Rattle.fx_term.specs.declared.event.Event.{Event}
use Rattle.fx_term.specs.declared.event.Event.TheVariants as event
use Rattle.fx_term.specs.declared.outcome.Outcome.TheVariants as outcome
use Rattle.fx_model.specs.Origin.{Origin}
use Rattle.fx_model.specs.Run.{first_counts, Leads, events}
use Rattle.fx_model.specs.Step.{Runs, has_ended}
use Rattle.fx_model.specs.Report.{FiberReportView, ReportView, fiber_in, final_outside}
use Rattle.fx_model.specs.LawfulReport.{IsLawfulReport}
use Rattle.fx_model.proofs.EventLabels.{run_is_proper}
use Rattle.fx_laws.specs.Others.{visible, LookTheSame, LooksLikeAllOf, LookTheSameUnlessCanceledAlone}
use Rattle.fx_script_laws.specs.Interchange.{StopsThere}
use Rattle.fx_look_laws.specs.LookAlike.{visible_events, HasMainEnded, HasReportLike, IsMainCanceledAlone}
use Rattle.fx_look_laws.specs.FibersLookAlike.{HasReportWithFibersLike, CanEndSo, EndsLikeAllOf}
use Rattle.fx_look_laws.specs.FibersLookAlike.{of_any, of_any_but_alone, of_ended, of_ended_but_alone, is_canceled_alone}
use Rattle.fx_look_laws.proofs.EndedLooks.{ended_like_all, ended_like_unless}
use Rattle.fx_look_laws.proofs.FibersReplaced.{EachLooks, other_runs}
use Rattle.fx_look_laws.proofs.OtherTerms.{ArePutToo}
use Rattle.fx_look_laws.proofs.ReportsLike.{report_like}
use Rattle.fx_look_laws.proofs.VisibleEvents.{visible_shown}

-- what main starts begins as before
abbrev NoPair : (ℕ → Bool) → Term → Term → Type 0
NoPair v a b = ⊥

none_put : ArePutToo NoPair
none_put v v' x h n a b p = absurd p

none_needs : (v : ℕ → Bool) (a b : Term) → NoPair v a b → need a ≡ need b
none_needs v a b p = absurd p

alone_is : (es : List Event) → is_canceled_alone es ≡ true → es ≡ event.Ended outcome.Canceled ∷ []
alone_is (event.Ended outcome.Canceled ∷ []) e = refl
alone_is _ e = absurd cc

module _ (t u : Term) (capacities : List ℕ) (may : ℕ → Bool) (r : ReportView) (needs : need t ≡ need u) (main_may : may 0 ≡ true)
    (lawful : IsLawfulReport (record { term = t; capacities = capacities }) may r) where
  abbrev s : ScriptView
  s = record { term = t; capacities = capacities }

  -- main alone begins with another term
  abbrev IsLooked : ℕ → Term → Type 0
  IsLooked f a = (f ≡ 0) × (a ≡ u)

  nobody_else : (f : ℕ) (x : FiberReportView) → fiber_in r f ≡ Some x → (a : Term) → NoPair (λ z. false) (lawful.runs.origin f).term a → IsLooked f a
  nobody_else f x at a p = absurd p

  module _ (is_so : Bool → List Event → Bool) (like : EndsLikeAllOf is_so u t)
      (so : (x : FiberReportView) → fiber_in r 0 ≡ Some x → is_so x.has_ended (visible_events x.trace) ≡ true) where
    abbrev EndsSo : ℕ → Term → Type 0
    EndsSo f a =
        CanEndSo (StopsThere (final_outside s r) f (has_ended (lawful.runs.progress f)))
        (record { term = a; next = (lawful.runs.origin f).next; end = (lawful.runs.origin f).end }) (visible (lawful.runs.labels f))

    main_ends : EndsSo 0 u
    main_ends =
        let x = lawful.starters.main in
        let h = lawful.runs.run 0 x.0 x.1 in
        let b = lawful.runs.origin 0 in
        let run : Leads (first_counts b) (Runs t) (lawful.runs.labels 0) (lawful.runs.counts 0) (lawful.runs.progress 0) =
        subst (λ (a : Term). Leads (first_counts b) (Runs a) (lawful.runs.labels 0) (lawful.runs.counts 0) (lawful.runs.progress 0))
        (ap (λ (c : Origin). c.term) lawful.origins.main) h.run in
        let sees : events (visible (lawful.runs.labels 0)) ≡ visible_events x.0.trace =
        visible_shown (lawful.runs.labels 0) (run_is_proper _ _ _ _ (lawful.runs.labels 0) h.run) ∙ ap visible_events h.trace in
        let told : is_so (has_ended (lawful.runs.progress 0)) (events (visible (lawful.runs.labels 0))) ≡ true =
        subst (λ (es : List Event). is_so (has_ended (lawful.runs.progress 0)) es ≡ true) (sym sees)
        (subst (λ (v : Bool). is_so v (visible_events x.0.trace) ≡ true) (sym h.state) (so x.0 x.1)) in
        like (final_outside s r) 0 b.next b.end (has_ended (lawful.runs.progress 0)) (visible (lawful.runs.labels 0)) told
        (record {
          labels = lawful.runs.labels 0;
          counts = lawful.runs.counts 0;
          progress = lawful.runs.progress 0;
          run = run;
          visible_is = refl;
          ends = (h.unable, refl);
        })

    each_looks : EachLooks NoPair none_put none_needs s u may r lawful IsLooked nobody_else (inl (refl, refl)) needs
    each_looks f x at a l = subst (λ (g : ℕ). EndsSo g a) (sym l.0) (subst (λ (b : Term). EndsSo 0 b) (sym l.1) main_ends)

    alike : HasReportWithFibersLike (record { term = u; capacities = capacities }) may (λ f. f ≡ 0) r
    alike =
        report_like NoPair none_put none_needs s u may r lawful IsLooked nobody_else (inl (refl, refl)) needs
        (other_runs NoPair none_put none_needs s u may r lawful IsLooked nobody_else (inl (refl, refl)) needs each_looks)
        (λ f x at a l. subst (λ (g : ℕ). may g ≡ true) (sym l.0) main_may) (λ f. f ≡ 0) (λ f x at a l. l.0)

    pub main_like : HasReportLike (record { term = u; capacities = capacities }) may r
    main_like =
        let k = alike in
        record {
          report = k.report;
          lawful = k.lawful;
          alike = record {
            main = λ x e. (let h = k.alike.fibers 0 x e in record { fiber = h.fiber; found = h.found; state = h.state; sees = h.sees });
            others = k.alike.others;
            left = k.alike.left;
            outside = k.alike.outside;
          };
        }

  pub looks_same : HasMainEnded r → LookTheSame t u → HasReportLike (record { term = u; capacities = capacities }) may r
  looks_same ended same = main_like of_ended (ended_like_all u t (λ next end ls h. (same next end ls).0 h)) ended

  pub looks_all : HasMainEnded r → LooksLikeAllOf u t → HasReportLike (record { term = u; capacities = capacities }) may r
  looks_all ended all = main_like of_ended (ended_like_all u t all) ended

  -- main was not canceled with nothing else to see
  not_alone : (IsMainCanceledAlone r → ⊥) → (x : FiberReportView) → fiber_in r 0 ≡ Some x → is_canceled_alone (visible_events x.trace) ≡ false
  not_alone more x at = by_test (is_canceled_alone (visible_events x.trace)) refl
    where
      by_test : (b : Bool) → is_canceled_alone (visible_events x.trace) ≡ b → is_canceled_alone (visible_events x.trace) ≡ false
      by_test true e =
          absurd (more (λ z found. ap (λ (v : FiberReportView). visible_events v.trace) (sym (same_Some x z (sym at ∙ found)))
          ∙ alone_is (visible_events x.trace) e))
      by_test false e = e

  pub looks_unless : HasMainEnded r → LookTheSameUnlessCanceledAlone t u → (IsMainCanceledAlone r → ⊥)
      → HasReportLike (record { term = u; capacities = capacities }) may r
  looks_unless ended same more =
      main_like of_ended_but_alone (ended_like_unless t u same)
      (λ x at. let e = ended x at in let a = not_alone more x at in rw (e, a) refl)

  pub looks_any : EndsLikeAllOf of_any u t → HasReportLike (record { term = u; capacities = capacities }) may r
  looks_any like = main_like of_any like (λ x at. refl)

  pub looks_any_but_alone : EndsLikeAllOf of_any_but_alone u t → (IsMainCanceledAlone r → ⊥)
      → HasReportLike (record { term = u; capacities = capacities }) may r
  looks_any_but_alone like more = main_like of_any_but_alone like (λ x at. let a = not_alone more x at in so_too x.has_ended (is_canceled_alone _) a)
    where
      so_too : (ended alone : Bool) → alone ≡ false → not (ended && alone) ≡ true
      so_too true alone e = rw e refl
      so_too false alone e = refl
