use Rattle.fx_picture.proofs.Sheets.{sheet_is_sound}
use Rattle.fx_picture.proofs.Quiet.{none_from, none_to}
use Rattle.fx_picture.proofs.laws.folds_are_runs.Goals as goal

pub returns : goal.returns
returns c = record { run = λ stood list. (sheet_is_sound stood list).runs; from = none_from; to = none_to }
