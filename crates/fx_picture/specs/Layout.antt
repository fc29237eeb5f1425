-- Where what is drawn stands, in pixels.
use Rattle.std.specs.Prelude.{ℕ, suc, ◌+◌, ◌-◌, ◌*◌, ◌/◌, ◌==◌, max, List, [], ◌∷◌, if◌then◌else◌}
use Rattle.fx_model.specs.Report.{FiberReportView}
use Rattle.fx_picture.specs.declared.layout.TheConstants.{FIRST_LANE, LANE, FIRST_ROW, ROW, AGAIN, BAND, BACK, FOOT, LEGEND_BOTTOM}

-- how many fibers of a report stand before fiber f
abbrev pub lane_of : List FiberReportView → ℕ → ℕ
lane_of [] f = 0
lane_of (x ∷ xs) f = if x.id == f then 0 else suc (lane_of xs f)

abbrev pub lane_x : ℕ → ℕ
lane_x lane = FIRST_LANE + lane * LANE

abbrev pub row_y : ℕ → ℕ
row_y row = FIRST_ROW + row * ROW + row / AGAIN * BAND

-- where the names of lanes are said again
abbrev pub band_y : ℕ → ℕ
band_y band = row_y (suc band * AGAIN) - BACK

-- how high a picture with so many rows is
abbrev pub height : ℕ → ℕ
height rows = max (row_y rows + FOOT) LEGEND_BOTTOM
