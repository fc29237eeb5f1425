use Rattle.fx_plain.proofs.StepsCan.{steps_can}
use Rattle.fx_plain.proofs.laws.runs.what_steps_can_step.Goals as goal

pub returns : goal.returns
returns c s m m' f l step = steps_can s m f l m' step
