-- Of whose end a step learns, from what its fiber waits for before it and the event that it shows.
use Rattle.std.proofs.Common.{◌≡◌, Bool, refl}
use Rattle.std.specs.Prelude.{option_and_then}
use Rattle.fx_term.specs.Term.{Term}
use Rattle.fx_model.proofs.Paths.{leaf_plug}
use Rattle.fx_model.specs.Path.{leaf}
use Rattle.fx_model.specs.Row.{Counts, Label, Row}
use Rattle.fx_model.specs.Row as row
use Rattle.fx_model.specs.Step.{Progress, Step, leaf_at}
use Rattle.fx_model.specs.Step as step
use Rattle.fx_model.specs.Waiting.{wait_at}
use Rattle.fx_plain.specs.ToldRun.{shown_by, learned_by}
use Rattle.fx_plain.specs.ToldWay.{learned_of}

row_learns : {k : Bool} {c d : Counts} {l : Label} {t t' : Term} → Row k c t l d t' → learned_of (wait_at (leaf t)) (shown_by l) ≡ learned_by l
row_learns (row.inside g {a = b} e h r) = rw (e, leaf_plug g b) (row_learns r)
row_learns _ = refl

pub step_learns : {c d : Counts} {p q : Progress} {l : Label} → Step c p l d q → learned_of (option_and_then wait_at (leaf_at p)) (shown_by l) ≡ learned_by l
step_learns (step.row e r) = row_learns r
step_learns (step.cleans r) = row_learns r
step_learns _ = refl
