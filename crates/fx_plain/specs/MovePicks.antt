-- The moves of a run as picks: each step of a fiber as a pick of it, and each request as one for that fiber.
use Rattle.std.specs.Prelude.{List, map}
use Rattle.fx_text.specs.declared.pick.Pick.{Pick}
use Rattle.fx_text.specs.declared.pick.Pick.TheVariants as pick
use Rattle.fx_plain.specs.WholeMachine.{Move, Steps, Requests}

abbrev pub pick_of : Move → Pick
pick_of (Steps f l) = pick.Step f
pick_of (Requests f) = pick.Cancel f

abbrev pub picks_of : List Move → List Pick
picks_of moves = map pick_of moves
