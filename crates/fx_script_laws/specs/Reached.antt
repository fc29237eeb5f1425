-- Terms that come to the same where a fiber of a script comes to them.
use Rattle.std.specs.Prelude.{◌≡◌, ◌↔◌, ℕ, Bool, true, List}
use Rattle.fx_term.specs.Term.{Term}
use Rattle.fx_model.specs.Origin.{Origin}
use Rattle.fx_model.specs.Row.{Counts, Label}
use Rattle.fx_model.specs.Run.{IsRun}
use Rattle.fx_model.specs.Outside.{Outside}
use Rattle.fx_laws.specs.Everywhere.{Place, come_to, CanShowFrom}
use Rattle.fx_script_laws.specs.Cover.{Cover, IsCoveredBy}
use Rattle.fx_script_laws.specs.InScripts.{IsScriptTerm}
use Rattle.fx_script_laws.specs.Interchange.{StopsThere, CanComeTo}

-- Where a fiber that began with a term as a script has it comes to the first term, at a place that is closed so, it shows from there on what it shows where the
-- second stands there, and comes to where it waits, or to its end, as it does there
pub record AreAlikeWhereReached (there : Cover → Bool) (t u : Term) : Type 0 where
  pub shows : (b : Origin) (labels : List Label) (c : Counts) (s : Cover) (place : Place) → IsScriptTerm b.term → IsRun b labels c (come_to place t)
      → there s ≡ true → IsCoveredBy s place → (ls : List Label) → CanShowFrom c (come_to place t) ls ↔ CanShowFrom c (come_to place u) ls
  pub waits : (o : Outside) (f : ℕ) (ended : Bool) (b : Origin) (labels : List Label) (c : Counts) (s : Cover) (place : Place) → IsScriptTerm b.term
      → IsRun b labels c (come_to place t) → there s ≡ true → IsCoveredBy s place → (ls : List Label)
      → CanComeTo (StopsThere o f ended) c (come_to place t) ls ↔ CanComeTo (StopsThere o f ended) c (come_to place u) ls
