-- What the rule of `start` does.
use Rattle.std.specs.Prelude.{◌≡◌, ℕ, ◌+◌, List, [], ◌∷◌, ◌++◌}
use Rattle.fx_term.specs.declared.node.NodeId.{NodeId}
use Rattle.fx_term.specs.declared.node.Node.{Node}
use Rattle.fx_term.specs.declared.begin.Begin.{Begin}
use Rattle.fx_term.specs.Meaning.{term_of}
use Rattle.fx_term.specs.Need.{need}
use Rattle.fx_term.specs.declared.event.Event.TheVariants as event
use Rattle.fx_term.specs.declared.stamped.Stamped.{Stamped}
use Rattle.fx_model.specs.Row.{Starts}
use Rattle.fx_model.specs.Origin.{Origin}
use Rattle.fx_model.specs.Stamps.{one_more}
use Rattle.fx_fiber.specs.Fiber.{FiberView, IsAtFirst}
use Rattle.fx_fiber.specs.MakesStep.{StartsChild}
use Rattle.fx_fiber.specs.Makes.{Steps}
use Rattle.fx_fiber.specs.declared.machine.Machine.{Machine}
use Rattle.fx_fiber.specs.Theory.{Theory}

-- what the child that runs this part begins with: the numbers of the names in scope, so many of the fiber's own that its term can use, and the stamp of its
-- start
abbrev pub child_begin : List Node → Machine → NodeId → ℕ → Begin
child_begin nodes s a stamp =
    record { node = a; slots = s.registers; next = s.next + 1; end = s.next + 1 + need (term_of nodes a.0); stamp = stamp }

-- the fiber, whose clock is this, starts a child, which is before its first step, over the port that the call gave
pub record MakesStart {P S : Type 0} (theory : Theory P S) (k : ℕ) (s : Machine) (p : P) (sh : S) (trace : List Stamped) (child : FiberView P) (s' : Machine)
    (p' : P) (sh' : S) (trace' : List Stamped) : Type 0 where
  pub origin : Origin
  pub rule : Steps theory.code s (Starts s.next origin) s'
  pub traced : trace' ≡ trace ++ record { event = event.Start s.next; stamp = one_more k } ∷ []
  pub first : IsAtFirst theory.code origin child
  pub told : StartsChild theory (one_more k) s.next origin child.port p sh p' sh'
