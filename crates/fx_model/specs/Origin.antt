-- What a fiber begins with.
use Rattle.std.specs.Prelude.{ℕ, ◌+◌, ◌-◌, List, [], length}
use Rattle.fx_term.specs.declared.node.Node.{Node}
use Rattle.fx_term.specs.declared.begin.Begin.{Begin}
use Rattle.fx_term.specs.Term.{Term}
use Rattle.fx_term.specs.Fill.{fill}
use Rattle.fx_term.specs.Meaning.{term_of, root_term}
use Rattle.fx_term.specs.Need.{need}

-- a term and a range of fiber numbers, from `next` to below `end`
pub record Origin : Type 0 where
  pub term : Term
  pub next : ℕ
  pub end : ℕ

-- the main fiber of a script has the numbers from 1 on
abbrev pub main_origin : Term → Origin
main_origin t = record { term = t; next = 1; end = 1 + need t }

-- a child has the first number that is left, and after it those that its term can use
abbrev pub child_origin : ℕ → Term → Origin
child_origin next t = record { term = t; next = next + 1; end = next + 1 + need t }

-- what a fiber is given to begin with: the term of that node with the numbers in place of its names
abbrev pub origin_of : List Node → Begin → Origin
origin_of nodes b = record { term = fill (length b.slots) b.slots (term_of nodes b.node.0); next = b.next; end = b.end }

-- what the main fiber of a code is given: the root, no number for a name, and the range from 1 on
abbrev pub main_begin_of : List Node → Begin
main_begin_of nodes = record { node = record { 0 = length nodes - 1 }; slots = []; next = 1; end = 1 + need (root_term nodes); stamp = 0 }
