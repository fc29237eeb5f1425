use Rattle.fx_picture.specs.Folds.{sheet_of}
use Rattle.fx_picture.proofs.ArrowsDrawn.{is_arrow}
use Rattle.fx_picture.proofs.Quiet.{goes_down}
use Rattle.fx_picture.proofs.laws.arrows_join_causes.Goals as goal

pub returns : goal.returns
returns c = record { down = goes_down; joins = λ stood fibers list. is_arrow stood fibers (sheet_of stood list).drawn }
