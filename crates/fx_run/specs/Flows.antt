-- How many elements fibers put into each queue, and got from it.
use Rattle.std.specs.Prelude.{ℕ, ◌+◌, ◌-◌, ◌^◌, ◌==◌, min, Bool, false, List, [], ◌∷◌, map, length, replicate, slice_index, slice_set}
use Rattle.std.specs.List.{count_by, range_with_len}
use Rattle.fx_term.specs.declared.event.Event.{Event}
use Rattle.fx_term.specs.declared.event.Event.TheVariants as event
use Rattle.fx_run.specs.ClosedAs.{within_32_bits}

abbrev pub is_put_into : ℕ → Event → Bool
is_put_into q (event.Put r n) = r == q
is_put_into q _ = false

abbrev pub is_got_from : ℕ → Event → Bool
is_got_from q (event.Got r n) = r == q
is_got_from q _ = false

-- the number, or the greatest that a counter has
abbrev pub counted : ℕ → ℕ
counted n = min n (2 ^ 64 - 1)

-- how many elements these events leave in queue q, in whatever order they came
abbrev pub rest_of : ℕ → List Event → ℕ
rest_of q es = within_32_bits (counted (count_by (is_put_into q) es) - counted (count_by (is_got_from q) es))

-- the same of each of n queues
abbrev pub rests_of : ℕ → List Event → List ℕ
rests_of n es = map (λ q. rest_of q es) (range_with_len 0 n)

-- the counters, by queue
pub record FlowsView : Type 0 where
  pub puts : List ℕ
  pub gots : List ℕ

-- nothing is counted of n queues
abbrev pub no_flows : ℕ → FlowsView
no_flows n = record { puts = replicate n 0; gots = replicate n 0 }

-- one more of queue q
abbrev pub with_one : ℕ → List ℕ → List ℕ
with_one q ns = slice_set ns q (counted (slice_index ns q + 1))

abbrev pub with_move : Event → FlowsView → FlowsView
with_move (event.Put q n) w = record w { puts = with_one q w.puts }
with_move (event.Got q n) w = record w { gots = with_one q w.gots }
with_move _ w = w

abbrev pub with_moves : List Event → FlowsView → FlowsView
with_moves [] w = w
with_moves (e ∷ es) w = with_moves es (with_move e w)

-- what is left in a queue, and in each, by the counters
abbrev pub rest_in : FlowsView → ℕ → ℕ
rest_in w q = within_32_bits (slice_index w.puts q - slice_index w.gots q)

abbrev pub rests_in : FlowsView → List ℕ
rests_in w = map (rest_in w) (range_with_len 0 (length w.puts))
