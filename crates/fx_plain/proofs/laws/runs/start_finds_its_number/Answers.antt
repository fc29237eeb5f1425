use Rattle.fx_plain.proofs.RunLaws.{start_finds}
use Rattle.fx_plain.proofs.laws.runs.start_finds_its_number.Goals as goal

pub returns : goal.returns
returns c s moves m m' f g b run step = start_finds s moves m f g b m' run step
