-- Which causes of the model a picture has.
use Rattle.std.specs.Prelude.{◌≡◌, ℕ, ◌<◌, Some, List}
use Rattle.fx_term.specs.declared.event.Event.{Event}
use Rattle.fx_term.specs.declared.event.Event.TheVariants as event
use Rattle.fx_model.specs.Report.{ReportView}
use Rattle.fx_order.specs.declared.occurrence.Occurrence.{Occurrence}
use Rattle.fx_report.specs.declared.blocked.Blocked.{Blocked}
use Rattle.fx_picture.specs.Handles.{Named}
use Rattle.fx_picture.specs.declared.cause.Cause.{Cause}
use Rattle.fx_picture.specs.declared.drawn.Drawn.{Drawn}
use Rattle.fx_picture.specs.declared.stood.Stood.{Stood}
use Rattle.fx_picture.specs.Stood.{stood_at, told_cause}
use Rattle.fx_picture.specs.Has.{Has}
use Rattle.fx_picture.specs.Picture.{arrow, picture}

-- an event that says what it stands on: a get does not, since other elements may have the same value, nor does the first of two. That is told of these
abbrev pub SaysItsCause : Event → Type 0
SaysItsCause (event.Got q v) = ⊥
SaysItsCause (event.First n) = ⊥
SaysItsCause _ = Unit {0}

-- it is told that event j of fiber g caused event i of fiber f
abbrev pub Tells : List Stood → ℕ → ℕ → ℕ → ℕ → Type 0
Tells stood f i g j = told_cause (stood_at stood f i) ≡ Some (record { fiber = g; place = j })

-- it is event i of fiber f
pub record IsEventOf (f i : ℕ) (x : Occurrence) : Type 0 where
  pub fiber : x.fiber ≡ f
  pub place : x.place ≡ i

-- the picture of the list has an arrow from event j of fiber g down to event i of fiber f
pub record IsDrawn (names : List (List ℕ)) (stood : List Stood) (handles : List Named) (blocked : List Blocked)
    (r : ReportView) (list : List Occurrence) (f i g j : ℕ) : Type 0 where
  pub from : Drawn
  pub to : Drawn
  pub cause : Cause
  pub begins : IsEventOf g j from.event
  pub ends : IsEventOf f i to.event
  pub goes_down : from.row < to.row
  pub has : Has (picture names stood handles blocked r.fibers list) (arrow r.fibers from to cause)

-- one from some event
pub record HasArrow (names : List (List ℕ)) (stood : List Stood) (handles : List Named) (blocked : List Blocked)
    (r : ReportView) (list : List Occurrence) (f i : ℕ) : Type 0 where
  pub by : ℕ
  pub place : ℕ
  pub drawn : IsDrawn names stood handles blocked r list f i by place
