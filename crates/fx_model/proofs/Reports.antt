-- What a report says of each of its fibers.
use Rattle.std.proofs.Common.{◌≡◌, ℕ, ◌==◌, if◌then◌else◌, Bool, true, false, Some, List, [], ◌∷◌, refl, sym}
use Rattle.std.specs.Prelude.{◌&&◌}
use Rattle.std.specs.Bool.{OnTrue}
use Rattle.std.specs.List.{find, list_all}
use Rattle.std.proofs.lemmas.Option.{none-some, same_Some}
use Rattle.fx_model.specs.Report.{FiberReportView, ReportView, AllEnded}

ended_there : (xs : List FiberReportView) (f : ℕ) (x : FiberReportView) → list_all (λ (y : FiberReportView). y.has_ended) xs ≡ true
    → find (λ (y : FiberReportView). y.id == f) xs ≡ Some x → x.has_ended ≡ true
ended_there [] f x all e = absurd (none-some x e)
ended_there (y ∷ ys) f x all e = by_tests (y.id == f) y.has_ended refl (ended_there ys f x) all e
  where
    by_tests : (here ended : Bool) → y.has_ended ≡ ended
        → (list_all (λ (z : FiberReportView). z.has_ended) ys ≡ true → find (λ (z : FiberReportView). z.id == f) ys ≡ Some x → x.has_ended ≡ true)
        → (ended && list_all (λ (z : FiberReportView). z.has_ended) ys) ≡ true
        → (if here then Some y else find (λ (z : FiberReportView). z.id == f) ys) ≡ Some x → x.has_ended ≡ true
    by_tests true true h rest k l = let same : y ≡ x = same_Some y x l in rw (← same) h
    by_tests false true h rest k l = rest k l
    by_tests here false h rest k l = absurd (let no : false ≡ true = k in cc)

-- where each fiber of the list has ended, each has by its number
pub all_ended : (r : ReportView) → list_all (λ (y : FiberReportView). y.has_ended) r.fibers ≡ true → AllEnded r
all_ended r all f x e = ended_there r.fibers f x all e

-- so says a test of the list
pub all_ended_on_true : (r : ReportView) (b : Bool) → b ≡ list_all (λ (y : FiberReportView). y.has_ended) r.fibers → OnTrue b (AllEnded r)
all_ended_on_true r true e = all_ended r (sym e)
all_ended_on_true r false e = tt
