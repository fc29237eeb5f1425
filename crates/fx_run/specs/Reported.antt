-- What `report` answers of the fibers that a run left.
use Rattle.std.specs.Prelude.{◌≡◌, ◌==◌, ℕ, ◌<◌, true, false, Option, Some, None, option_map, List, map, All, ◌⊎◌}
use Rattle.std.specs.List.{find, list_any}
use Rattle.std.specs.List.Sorted.{IsStrictlyIncreasing}
use Rattle.fx_term.specs.Lists.{Among}
use Rattle.fx_term.specs.declared.node.Node.{Node}
use Rattle.fx_term.specs.declared.event.Event.TheVariants as event
use Rattle.fx_term.specs.declared.item.Item.{Item}
use Rattle.fx_term.specs.Element.{elements_of}
use Rattle.fx_term.specs.Script.{ScriptView}
use Rattle.fx_model.specs.Step.{has_ended}
use Rattle.fx_model.specs.Outside.{can_step}
use Rattle.fx_model.specs.Report.{FiberReportView, ReportView, final_outside}
use Rattle.fx_model.specs.LawfulReport.{is_start_of}
use Rattle.fx_fiber.specs.Bare.{BareView, reached}

-- they ran this code
abbrev pub RanCode : List Node → List BareView → Type 0
RanCode nodes bares = All (λ (x : BareView). x.nodes ≡ nodes) bares

-- the fibers rise by number
abbrev pub AreAscending : List BareView → Type 0
AreAscending bares = IsStrictlyIncreasing (map (λ (x : BareView). x.id) bares)

-- the fiber with this number
abbrev pub bare_at : List BareView → ℕ → Option BareView
bare_at bares f = find (λ (x : BareView). x.id == f) bares

-- the first fiber whose trace starts this one, which has the least number where the fibers rise
abbrev pub parent_of : List BareView → ℕ → Option ℕ
parent_of bares f = option_map (λ (x : BareView). x.id) (find (λ (x : BareView). list_any (is_start_of f) x.trace) bares)

abbrev pub report_of_bare : List BareView → BareView → FiberReportView
report_of_bare bares x = record { id = x.id; parent = parent_of bares x.id; has_ended = has_ended (reached x); trace = x.trace; stamps = x.stamps }

-- the report of these fibers
abbrev pub report_of : List BareView → List (List Item) → List ℕ → ℕ → ReportView
report_of bares left outside late =
    record { fibers = map (report_of_bare bares) bares; left = map elements_of left; outside = outside; late = late }

-- the fiber is not given, and is the main one or one that a trace starts
abbrev pub IsLost : List BareView → ℕ → Type 0
IsLost bares f = (bare_at bares f ≡ None) × ((f ≡ 0) ⊎ ((g : ℕ) × (y : BareView) × (bare_at bares g ≡ Some y) × Among (event.Start f) y.trace))

-- no fiber is lost: the main one is given, and each that a trace starts
pub record NoneIsLost (bares : List BareView) : Type 0 where
  pub main : (x : BareView) × (bare_at bares 0 ≡ Some x)
  pub started : (g : ℕ) (y : BareView) → bare_at bares g ≡ Some y → (f : ℕ) → Among (event.Start f) y.trace → (x : BareView) × (bare_at bares f ≡ Some x)

-- the fiber can step, by what is reported
abbrev pub IsUnsettled : ScriptView → List BareView → ReportView → ℕ → Type 0
IsUnsettled s bares r f = (x : BareView) × (bare_at bares f ≡ Some x) × (can_step (final_outside s r) f x.counts (reached x) ≡ true)

-- no fiber is unsettled: none can step, by what is reported
abbrev pub NoneIsUnsettled : ScriptView → List BareView → ReportView → Type 0
NoneIsUnsettled s bares r = (f : ℕ) (x : BareView) → bare_at bares f ≡ Some x → can_step (final_outside s r) f x.counts (reached x) ≡ false

abbrev pub IsLeast : (ℕ → Type 0) → ℕ → Type 0
IsLeast P f = P f × ((g : ℕ) → g < f → P g → ⊥)

-- the answer is the report of what was given, and no fiber is lost or unsettled
pub record IsReported (s : ScriptView) (bares : List BareView) (r answer : ReportView) : Type 0 where
  pub none_lost : NoneIsLost bares
  pub none_unsettled : NoneIsUnsettled s bares r
  pub is : answer ≡ r
