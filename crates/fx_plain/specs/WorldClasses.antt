-- The classes that a world keeps tell who can step in the whole machine that it stands for.
use Rattle.std.specs.Prelude.{◌≡◌, length}
use Rattle.fx_term.specs.Script.{ScriptView, total}
use Rattle.fx_plain.specs.WholeMachine.{WholeMachine}
use Rattle.fx_plain.specs.Classes.{AreOfClasses, AwaitWhatIsToCome}
use Rattle.fx_plain.specs.ClassSets.{class_at}
use Rattle.fx_plain.specs.World.{WorldView, outcome_in}

-- each fiber is of the class that the world has for it, and nobody waits for an outcome that has come
pub record TellsWhoSteps (s : ScriptView) (w : WorldView) (m : WholeMachine) : Type 0 where
  pub long : length w.classes ≡ total s
  pub are : AreOfClasses m (class_at w.classes)
  pub to_come : AwaitWhatIsToCome (outcome_in w) (class_at w.classes)
