-- Which fibers a fiber comes from.
use Rattle.std.specs.Prelude.{◌≡◌, ℕ, Some, List, ◌∷◌, ◌++◌}
use Rattle.fx_term.specs.declared.event.Event.{Event}
use Rattle.fx_term.specs.declared.event.Event.TheVariants as event
use Rattle.fx_model.specs.Report.{FiberReportView, ReportView, fiber_in}

-- after these events a fiber started f, or one that f comes from
pub data ComesFrom (r : ReportView) (f : ℕ) : ℕ → List Event → Type 0 where
  started : {g : ℕ} {before : List Event} (x : FiberReportView) (after : List Event) → fiber_in r g ≡ Some x → x.trace ≡ before ++ event.Start f ∷ after
      → ComesFrom r f g before
  through : {g : ℕ} {before : List Event} (h : ℕ) (between : List Event) (x : FiberReportView) (after : List Event) → ComesFrom r f h between
      → fiber_in r g ≡ Some x → x.trace ≡ before ++ event.Start h ∷ after → ComesFrom r f g before
