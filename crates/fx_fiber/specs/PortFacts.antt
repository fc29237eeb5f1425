-- What is known of a port beside its calls: whose it is, and how far its fiber has come by it.
use Rattle.std.specs.Prelude.{ℕ, Bool, false}
use Rattle.fx_term.specs.declared.begin.Begin.{Begin}
use Rattle.fx_model.specs.Row.{Range, Label}
use Rattle.fx_model.specs.PutsLeft.{puts_with}
use Rattle.fx_fiber.specs.Calls.{first_range}

-- the fiber's number, what it began with, the numbers that are left for the fibers that it starts, whether its end was told, and how many elements it has
-- put into queues
pub record Facts : Type 0 where
  pub number : ℕ
  pub beginning : Begin
  pub range : Range
  pub has_finished : Bool
  pub puts : ℕ

-- at first
abbrev pub first_facts : ℕ → Begin → Facts
first_facts id begin = record { number = id; beginning = begin; range = first_range begin; has_finished = false; puts = 0 }

-- after a step with this label, before a start or an end is told
abbrev pub facts_with : Label → Facts → Facts
facts_with l f = record f { puts = puts_with l f.puts }
