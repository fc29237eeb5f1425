-- Scripts of which the one has the second term for the first as the whole term of fibers.
use Rattle.std.proofs.Common.{inr, ◌≡◌, ℕ, Bool, true, Some, List, refl, sym, ◌∙◌, ap, subst}
use Rattle.fx_term.specs.Need.{need}
use Rattle.fx_term.specs.Term.{Term}
use Rattle.fx_term.specs.Script.{ScriptView}
use Rattle.fx_term.specs.declared.event.Event.{Event}
use Rattle.fx_model.specs.Run.{events}
use Rattle.fx_model.specs.Step.{has_ended}
use Rattle.fx_model.specs.Report.{FiberReportView, ReportView, fiber_in, final_outside}
use Rattle.fx_model.specs.LawfulReport.{IsLawfulReport}
use Rattle.fx_model.proofs.EventLabels.{run_is_proper}
use Rattle.fx_laws.specs.Others.{visible}
use Rattle.fx_script_laws.specs.Cover.{uncovered}
use Rattle.fx_script_laws.specs.Filled.{none_bound}
use Rattle.fx_script_laws.specs.Interchange.{with_numbers}
use Rattle.fx_look_laws.specs.LookAlike.{visible_events}
use Rattle.fx_look_laws.proofs.VisibleEvents.{visible_shown}
use Rattle.fx_script_laws.proofs.WholeTerms.{two_put, two_need}
use Rattle.fx_look_laws.specs.OtherFibers.{TheTwo, IsWithOtherFibers, BeginsOtherwise, other, within, IsOfTerm}
use Rattle.fx_look_laws.specs.OtherFibers as others
use Rattle.fx_look_laws.specs.FibersLookAlike.{HasReportWithFibersLike, EndsLikeAllOf, LooksLikeAllWithNumbers, BeginsWith}
use Rattle.fx_look_laws.proofs.OtherTerms.{ArePutToo, others_need}
use Rattle.fx_look_laws.proofs.FibersReplaced.{EachLooks, other_runs}
use Rattle.fx_look_laws.proofs.ReportsLike.{report_like}

module _ (is_so : Bool → List Event → Bool) (own : ℕ → Bool) (t u : Term) (looks : LooksLikeAllWithNumbers is_so own t u) where
  two_puts : ArePutToo (TheTwo own t u)
  two_puts v v' x h n a b p = two_put own t u uncovered v v' x h n a b p

  two_needs : (v : ℕ → Bool) (a b : Term) → TheTwo own t u v a b → need a ≡ need b
  two_needs v a b p = two_need own t u looks.needs uncovered v a b p

  first_is : {v : ℕ → Bool} {a b : Term} → TheTwo own t u v a b → IsOfTerm own t a
  first_is (with_numbers numbers apart free) = others.with_numbers numbers apart

  two_look : {v : ℕ → Bool} {a b : Term} → TheTwo own t u v a b → EndsLikeAllOf is_so b a
  two_look (with_numbers numbers apart free) = looks.looks numbers apart

  whole_need : {a b : Term} → IsWithOtherFibers own t u a b → need a ≡ need b
  whole_need (other {t = a} {u = b} p) = two_needs none_bound a b p
  whole_need (within q) = others_need two_needs q

  module _ (s : ScriptView) (term' : Term) (may : ℕ → Bool) (r : ReportView) (terms : IsWithOtherFibers own t u s.term term')
      (lawful : IsLawfulReport s may r)
      (each : (f : ℕ) (x : FiberReportView) → fiber_in r f ≡ Some x → BeginsWith own t s may r lawful f
      → (is_so x.has_ended (visible_events x.trace) ≡ true) × (may f ≡ true)) where
    -- a fiber that begins with the first term begins with the second there
    abbrev IsLooked : ℕ → Term → Type 0
    IsLooked f a = TheTwo own t u none_bound (lawful.runs.origin f).term a

    each_looks : EachLooks (TheTwo own t u) two_puts two_needs s term' may r lawful IsLooked (λ f x at a p. p) (inr terms) (whole_need terms)
    each_looks f x at b p =
        let h = lawful.runs.run f x at in
        let e = each f x at (first_is p) in
        let sees : events (visible (lawful.runs.labels f)) ≡ visible_events x.trace =
        visible_shown (lawful.runs.labels f) (run_is_proper _ _ _ _ (lawful.runs.labels f) h.run) ∙ ap visible_events h.trace in
        let so : is_so (has_ended (lawful.runs.progress f)) (events (visible (lawful.runs.labels f))) ≡ true =
        subst (λ (es : List Event). is_so (has_ended (lawful.runs.progress f)) es ≡ true) (sym sees)
        (subst (λ (v : Bool). is_so v (visible_events x.trace) ≡ true) (sym h.state) e.0) in
        two_look p (final_outside s r) f (lawful.runs.origin f).next (lawful.runs.origin f).end (has_ended (lawful.runs.progress f))
        (visible (lawful.runs.labels f)) so
        (record {
          labels = lawful.runs.labels f;
          counts = lawful.runs.counts f;
          progress = lawful.runs.progress f;
          run = h.run;
          visible_is = refl;
          ends = (h.unable, refl);
        })

    pub fibers_look : HasReportWithFibersLike (record { term = term'; capacities = s.capacities }) may (BeginsWith own t s may r lawful) r
    fibers_look =
        report_like (TheTwo own t u) two_puts two_needs s term' may r lawful IsLooked (λ f x at a p. p) (inr terms) (whole_need terms)
        (other_runs (TheTwo own t u) two_puts two_needs s term' may r lawful IsLooked (λ f x at a p. p) (inr terms) (whole_need terms) each_looks)
        (λ f x at b p. (each f x at (first_is p)).1) (BeginsWith own t s may r lawful) (λ f x at b p. first_is p)

    pub fibers_look_in : (capacities : List ℕ) → s.capacities ≡ capacities
        → HasReportWithFibersLike (record { term = term'; capacities = capacities }) may (BeginsWith own t s may r lawful) r
    fibers_look_in capacities e =
        subst (λ (cs : List ℕ). HasReportWithFibersLike (record { term = term'; capacities = cs }) may (BeginsWith own t s may r lawful) r) e fibers_look
