-- What contracts know of a port: a relation for each call, the numbers that are left for fibers, and how many elements it has put.
use Rattle.std.specs.Prelude.{◌≡◌, ℕ, suc, ◌+◌, ◌≤◌, Option}
use Rattle.fx_term.specs.declared.begin.Begin.{Begin}
use Rattle.fx_term.specs.declared.outcome.Outcome.{Outcome}
use Rattle.fx_term.specs.declared.offered.Offered.{Offered}
use Rattle.fx_term.specs.declared.offered.Offered.TheVariants.{Done, Full}
use Rattle.fx_model.specs.Row.{Range}
use Rattle.fx_model.specs.declared.source.Source.{Source}

-- for each call the port and the outside before it, what it is given, its answer, and both after it; the answer of a start is the port of the child,
-- and a fiber goes on only where this is so
pub record PortCalls (P S : Type 0) : Type 1 where
  pub looks : P → S → Option ℕ → P → S → Type 0
  pub requests : P → S → ℕ → ℕ → P → S → Type 0
  pub peeks : P → S → ℕ → Option (Outcome × ℕ) → P → S → Type 0
  pub offers : P → S → ℕ → ℕ → ℕ → Offered → P → S → Type 0
  pub takes : P → S → ℕ → Option (ℕ × ℕ) → P → S → Type 0
  pub starts : P → S → ℕ → Begin → P → P → S → Type 0
  pub finishes : P → S → Outcome → ℕ → P → S → Type 0
  pub outsides : P → S → ℕ → P → S → Type 0
  pub waits : P → S → Source → P → S → Type 0
  pub goes_on : P → S → Type 0
  pub wakes : S → Option ℕ → S → Type 0

-- the fiber numbers that a fiber begins with
abbrev pub first_range : Begin → Range
first_range b = record { next = b.next; end = b.end }

-- a start takes the first of these numbers for the child, whose own range follows it within them
pub record HasRange (left : Range) (id : ℕ) (begin : Begin) : Type 0 where
  pub number : id ≡ left.next
  pub follows : begin.next ≡ id + 1
  pub ordered : begin.next ≤ begin.end
  pub within : begin.end ≤ left.end

-- those that are left after the child's range
abbrev pub range_after : Begin → Range → Range
range_after begin left = record { next = begin.end; end = left.end }

-- how many elements were put after an offer with this answer
abbrev pub puts_after : Offered → ℕ → ℕ
puts_after Done n = suc n
puts_after Full n = n

-- that, where the answer is that it is full
abbrev pub OnFull : Offered → Type 0 → Type 0
OnFull Done A = Unit {0}
OnFull Full A = A
