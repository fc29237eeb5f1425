-- From how many states a word lets a search go on.
use Rattle.std.specs.Prelude.{ℕ, ◌==◌, if◌then◌else◌, Option, None, List, [], ◌∷◌}
use Rattle.fx_command.specs.Workers.{workers_in}

-- as a number of workers is written, but with no zero at the front, so that it is not 0
abbrev pub states_in : List ℕ → Option ℕ
states_in [] = None
states_in (b ∷ bytes) = if b == 48 then None else workers_in (b ∷ bytes)
