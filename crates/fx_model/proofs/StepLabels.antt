-- What the label of a step says of the step: what it learns, which numbers it takes, and how its fiber's counts change.
use Rattle.std.proofs.Common.{◌≡◌, ℕ, ◌+◌, ◌≤◌, Bool, true, List, [], ◌∷◌, refl, arith}
use Rattle.std.specs.List.{range_with_len}
use Rattle.fx_term.specs.declared.event.Event.TheVariants as event
use Rattle.fx_term.specs.Term.{Term}
use Rattle.fx_term.specs.Need.{need}
use Rattle.fx_model.specs.Row.{Counts, Label, Silent, Shows, Learns, Starts, Row}
use Rattle.fx_model.specs.Origin.{Origin}
use Rattle.fx_model.specs.Row as row
use Rattle.fx_model.specs.Step.{Progress, Step}
use Rattle.fx_model.specs.Step as step
use Rattle.fx_model.specs.Run.{events}
use Rattle.fx_model.specs.Balanced.{acquired_numbers}
use Rattle.fx_model.specs.PutsLeft.{puts_of}

-- a label that is shown by what its event stands for: what learns of an end joins, has awaited or is the first of two, and nothing else does; a start is a
-- label of its own
abbrev pub IsProper : Label → Type 0
IsProper (Learns f o (event.Joined g p)) = Unit {0}
IsProper (Learns f o (event.Awaited g)) = Unit {0}
IsProper (Learns f o (event.First n)) = Unit {0}
IsProper (Learns f o _) = ⊥
IsProper (Shows (event.Start f)) = ⊥
IsProper (Shows (event.Joined g o)) = ⊥
IsProper (Shows (event.Awaited g)) = ⊥
IsProper (Shows (event.First n)) = ⊥
IsProper _ = Unit {0}

-- where a step starts a fiber, its number is the next one, its range follows, and the starter goes on after that
pub record StartsNext (c d : Counts) (f : ℕ) (b : Origin) : Type 0 where
  pub number : f ≡ c.next
  pub next : b.next ≡ f + 1
  pub end : b.end ≡ b.next + need b.term
  pub after : d.next ≡ b.end

-- other steps take no number
abbrev pub TakesNumbers : Counts → Counts → Label → Type 0
TakesNumbers c d (Starts f b) = StartsNext c d f b
TakesNumbers c d _ = d.next ≡ c.next

-- the resources that these labels acquire have the numbers from the one count to below the other
pub record IsNumbered (ls : List Label) (c d : Counts) : Type 0 where
  pub count : ℕ
  pub after : d.acquired ≡ c.acquired + count
  pub numbers : acquired_numbers (events ls) ≡ range_with_len c.acquired count

pub none_acquired : {ls : List Label} {c d : Counts} → d.acquired ≡ c.acquired → acquired_numbers (events ls) ≡ [] → IsNumbered ls c d
none_acquired same none = record { count = 0; after = omega arith; numbers = none }

-- what each step says by its label; its fiber's range ends where it did, a request that is known stays known, and one mask is entered, one resource
-- acquired or one element put at most
pub record Tells (c d : Counts) (l : Label) : Type 0 where
  pub proper : IsProper l
  pub takes : TakesNumbers c d l
  pub end : d.end ≡ c.end
  pub known : c.known ≡ true → d.known ≡ true
  pub numbered : IsNumbered (l ∷ []) c d
  pub counted : d.masks + d.acquired + puts_of l ≤ 1 + c.masks + c.acquired

pub row_tells : {k : Bool} {c d : Counts} {l : Label} {t t' : Term} → Row k c t l d t' → Tells c d l
row_tells (row.inside f e g r) = row_tells r
row_tells row.start =
    record {
      proper = tt;
      takes = record { number = refl; next = refl; end = refl; after = omega arith };
      end = refl;
      known = λ h. h;
      numbered = none_acquired refl refl;
      counted = omega arith;
    }
row_tells row.acquired =
    record {
      proper = tt;
      takes = refl;
      end = refl;
      known = λ h. h;
      numbered = record { count = 1; after = refl; numbers = refl };
      counted = omega arith;
    }
row_tells row.acquired_case =
    record {
      proper = tt;
      takes = refl;
      end = refl;
      known = λ h. h;
      numbered = record { count = 1; after = refl; numbers = refl };
      counted = omega arith;
    }
row_tells (row.self_request closed) =
    record { proper = tt; takes = refl; end = refl; known = λ h. refl; numbered = none_acquired refl refl; counted = omega arith }
row_tells _ = record { proper = tt; takes = refl; end = refl; known = λ h. h; numbered = none_acquired refl refl; counted = omega arith }

pub step_tells : {c d : Counts} {p q : Progress} {l : Label} → Step c p l d q → Tells c d l
step_tells (step.row m r) = row_tells r
step_tells (step.cleans r) = row_tells r
step_tells (step.seen m o) =
    record { proper = tt; takes = refl; end = refl; known = λ h. refl; numbered = none_acquired refl refl; counted = omega arith }
step_tells _ = record { proper = tt; takes = refl; end = refl; known = λ h. h; numbered = none_acquired refl refl; counted = omega arith }

-- numbers are taken in order
next_grows : (c d : Counts) (l : Label) → TakesNumbers c d l → c.next ≤ d.next
next_grows c d (Starts f b) h = let p = h.number in let q = h.next in let r = h.end in let s = h.after in omega arith
next_grows c d _ h = omega arith

pub step_next : {c d : Counts} {p q : Progress} {l : Label} → Step c p l d q → c.next ≤ d.next
step_next {c = c} {d = d} {l = l} st = next_grows c d l (step_tells st).takes
