-- Scripts with `(pure 0)` for each `(cede)`.
use Rattle.fx_term.specs.Script.{ScriptView}
use Rattle.fx_laws.specs.WithoutTurns.{without_turns}

abbrev pub script_without_turns : ScriptView → ScriptView
script_without_turns s = record s { term = without_turns s.term }
