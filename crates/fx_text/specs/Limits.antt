-- The limits of a text, and of what is made of it.
use Rattle.std.specs.Prelude.{ℕ, ◌*◌}
use Rattle.fx_text.specs.declared.script.TheConstants.{MOST_SCRIPT_BYTES}

-- the most bytes of a text
abbrev pub most_bytes : ℕ
most_bytes = MOST_SCRIPT_BYTES

-- the most `(` that may be open inside main, which has the first of 100
abbrev pub most_open : ℕ
most_open = 99

-- the most nodes: a byte pays for eight
abbrev pub most_nodes : ℕ
most_nodes = 8 * most_bytes

-- the most queues of a script, and the most elements that one may hold
abbrev pub most_queues : ℕ
most_queues = 16

abbrev pub most_capacity : ℕ
most_capacity = 1024

-- of the nodes that the bytes of a term pay for, so many are left over: a form of two terms may make twice as many
abbrev pub term_spares : ℕ
term_spares = 23

-- and of those that the bytes after the word of a form pay for
abbrev pub form_spares : ℕ
form_spares = 7

-- the most bytes of a schedule, the most words of it, and the largest number of a fiber that it may name
abbrev pub most_schedule_bytes : ℕ
most_schedule_bytes = 2097152

abbrev pub most_picks : ℕ
most_picks = 100000

abbrev pub most_number : ℕ
most_number = 4294967295
