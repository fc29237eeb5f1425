-- The stamps of a lawful report.
use Rattle.std.proofs.Common.{◌≡◌, ◌≢◌, ℕ, suc, ◌+◌, ◌<◌, Bool, true, false, Option, Some, None, List, [], ◌∷◌, length, refl, ap, arith, Contains}
use Rattle.std.specs.Prelude.{◌==◌, slice_get}
use Rattle.std.specs.List.{find}
use Rattle.std.proofs.lemmas.Bool.{eqb-true}
use Rattle.std.proofs.lemmas.Option.{none-some}
use Rattle.fx_term.specs.declared.event.Event.{Event}
use Rattle.fx_term.specs.declared.event.Event.TheVariants as event
use Rattle.fx_term.specs.Script.{ScriptView}
use Rattle.fx_model.specs.Report.{FiberReportView, ReportView, fiber_in, trace_of_report, trace_in}
use Rattle.fx_model.specs.LawfulReport.{IsLawfulReport}
use Rattle.fx_model.specs.Causes.{IsEvent, LeavesQueue}
use Rattle.fx_model.proofs.CausesFound.{causes_found}
use Rattle.fx_model.specs.Stamps.{top, stamp_before, HasNoCause, StampsOf, IsBelowTop, IsOrderedByStamps, HasItsCauses}
use Rattle.fx_model.proofs.StampOrder.{rises_one, first_is_one, moment, moments_by_stamp, in_order}

-- a number above those of all fibers
above_all : List FiberReportView → ℕ
above_all [] = 0
above_all (x ∷ xs) = x.id + 1 + above_all xs

found_below : (f : ℕ) (xs : List FiberReportView) (x : FiberReportView) → find (λ (y : FiberReportView). y.id == f) xs ≡ Some x → f < above_all xs
unfolding above_all
found_below f [] x e = absurd (none-some x e)
found_below f (y ∷ xs) x e = by_test (y.id == f) refl (λ rest. found_below f xs x rest)
  where
    by_test : (b : Bool) → (y.id == f) ≡ b → (find (λ (z : FiberReportView). z.id == f) xs ≡ Some x → f < above_all xs) → f < above_all (y ∷ xs)
    by_test true is rest = let same = eqb-true y.id f is in let sum : above_all (y ∷ xs) ≡ y.id + 1 + above_all xs = refl in omega arith
    by_test false is rest = let later = rest (rw is at e) in let sum : above_all (y ∷ xs) ≡ y.id + 1 + above_all xs = refl in omega arith

events_below : (r : ReportView) (f i : ℕ) → IsEvent (trace_in r) f i → f < above_all r.fibers
events_below r f i lt = by_fiber (fiber_in r f) refl
  where
    by_fiber : (o : Option FiberReportView) → fiber_in r f ≡ o → f < above_all r.fibers
    by_fiber None e = absurd (let none : length (trace_in r f) ≡ 0 = ap (λ (o : Option FiberReportView). length (trace_of_report o)) e in omega arith)
    by_fiber (Some x) e = found_below f r.fibers x e

module _ (s : ScriptView) (may : ℕ → Bool) (r : ReportView) (lawful : IsLawfulReport s may r) (stamps : StampsOf s may r lawful) where
  pub ordered_by_stamps : IsBelowTop (trace_in r) stamps.stamp → IsOrderedByStamps s may r lawful stamps.stamp
  ordered_by_stamps below = record {
    moment =
        moment (trace_in r) lawful.runs.labels (LeavesQueue s may r lawful) (Contains r.outside) stamps.began stamps.stamp stamps.cause stamps.are below
        (above_all r.fibers) (events_below r);
    by_stamp =
        moments_by_stamp (trace_in r) lawful.runs.labels (LeavesQueue s may r lawful) (Contains r.outside) stamps.began stamps.stamp stamps.cause stamps.are
        below (above_all r.fibers) (events_below r);
    in_order =
        in_order (trace_in r) lawful.runs.labels (LeavesQueue s may r lawful) (Contains r.outside) stamps.began stamps.stamp stamps.cause stamps.are below
        (above_all r.fibers) (events_below r);
  }

  pub has_its_causes : HasItsCauses s may r lawful stamps
  has_its_causes = record {
    puts = λ f i q n got.
        let h = (causes_found s may r lawful).puts f i q n got in
        (h.0, h.1, h.2, (stamps.are.causes f i (event.Got q n) got).took h.0 h.1 h.2);
    ends = λ f i e at learning.
        let h = (causes_found s may r lawful).ends f i e at learning in
        (h.0, h.1, h.2, (stamps.are.causes f i e at).learnt h.0 h.1 h.2);
    starts = λ f x at ne.
        let h = (causes_found s may r lawful).starts f x at ne in
        (h.0, h.1, h.3, stamps.are.child f h.0 h.1 h.3);
  }

  abbrev all_rise : (f i : ℕ) → IsEvent (trace_in r) f i → stamps.stamp f i ≢ top
      → (stamp_before (stamps.began f) (stamps.stamp f) i < stamps.stamp f i) × (stamps.cause f i < stamps.stamp f i)
  all_rise =
      rises_one (trace_in r) lawful.runs.labels (LeavesQueue s may r lawful) (Contains r.outside) stamps.began stamps.stamp stamps.cause stamps.are

  pub first_stamp : (e : Event) → slice_get (trace_in r 0) 0 ≡ Some e → HasNoCause e → stamps.stamp 0 0 ≡ 1
  first_stamp =
      first_is_one (trace_in r) lawful.runs.labels (LeavesQueue s may r lawful) (Contains r.outside) stamps.began stamps.stamp stamps.cause stamps.are

  pub stamp_rises : (f i : ℕ) → IsEvent (trace_in r) f (suc i) → stamps.stamp f (suc i) ≢ top → stamps.stamp f i < stamps.stamp f (suc i)
  stamp_rises f i lt ne = (all_rise f (suc i) lt ne).0

  pub stamp_is_above_cause : (f i : ℕ) → IsEvent (trace_in r) f i → stamps.stamp f i ≢ top → stamps.cause f i < stamps.stamp f i
  stamp_is_above_cause f i lt ne = (all_rise f i lt ne).1
