use Rattle.fx_model.specs.Run.{first_counts}
use Rattle.fx_model.specs.Step.{Runs}
use Rattle.fx_model.proofs.PairedMasks.{open_where_paired}
use Rattle.fx_model.proofs.CancelledSteps.{cancels_where_opened}
use Rattle.fx_model.proofs.laws.cancellation.cancellation_acts_where_masks_are_opened.Goals as goal

pub returns-clause-run : goal.returns-clause-run
returns-clause-run c b labels = cancels_where_opened (first_counts b) (Runs b.term) labels

pub returns-clause-place : goal.returns-clause-place
returns-clause-place c = open_where_paired
