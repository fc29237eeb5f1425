-- How many elements a fiber has put into each queue.
use Rattle.std.specs.Prelude.{ℕ, suc, ◌-◌, List, ◌++◌, length, replicate, slice_index, slice_set}

-- the counts with one for this queue, at least
abbrev pub reaching : ℕ → List ℕ → List ℕ
reaching q counts = counts ++ replicate (suc q - length counts) 0

-- the counts after one more put into this queue
abbrev pub one_more_put : ℕ → List ℕ → List ℕ
one_more_put q counts = slice_set (reaching q counts) q (suc (slice_index counts q))
