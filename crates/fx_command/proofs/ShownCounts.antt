-- No fiber has shown more events than steps were told.
use Rattle.std.proofs.Common.{◌≡◌, ℕ, zero, suc, ◌+◌, ◌-◌, ◌≤◌, Option, Some, None, List, [], ◌∷◌, length, refl, arith}
use Rattle.std.specs.Prelude.{replicate, slice_set, slice_index_or}
use Rattle.fx_term.specs.declared.event.Event.{Event}
use Rattle.fx_plain.specs.declared.told.Told.{Told}
use Rattle.fx_plain.specs.declared.told.Told.TheVariants.{Step, Request, Passed}
use Rattle.fx_command.specs.SoFar.{SoFarView, next_of, nothing_shown}
use Rattle.fx_command.specs.StoodEvents.{shown_when, shown_after}

pub none_of : (n f : ℕ) → slice_index_or (replicate n zero) f zero ≡ zero
none_of zero f = refl
none_of (suc n) zero = refl
none_of (suc n) (suc f) = none_of n f

set_near : (xs : List ℕ) (f g k n : ℕ) → slice_index_or xs g 0 ≤ n → k ≤ n → slice_index_or (slice_set xs f k) g 0 ≤ n
set_near [] f g k n below small = below
set_near (x ∷ xs) zero zero k n below small = small
set_near (x ∷ xs) zero (suc g) k n below small = below
set_near (x ∷ xs) (suc f) zero k n below small = below
set_near (x ∷ xs) (suc f) (suc g) k n below small = set_near xs f g k n below small

-- of so many steps these are left to be told
abbrev pub ShowsWithin : ℕ → SoFarView → List Told → Type 0
ShowsWithin all s rest = (f : ℕ) → slice_index_or s.shown f 0 + length rest ≤ all

pub none_within : (fibers queues : ℕ) (told : List Told) → ShowsWithin (length told) (nothing_shown fibers queues) told
none_within fibers queues told f = let none = none_of fibers f in omega arith

module _ (all : ℕ) (s : SoFarView) (more : List Told) where
  with_one : (t : Told) → ShowsWithin all s (t ∷ more) → (f : ℕ) (e : Option Event) → ShowsWithin all (shown_when s f e) more
  with_one t within f None g = let le = within g in omega arith
  with_one t within f (Some e) g =
      let own = within f in
      let other = within g in
      let near = set_near s.shown f g (suc (next_of s f).place) (all - length more) (omega arith) (omega arith) in
      omega arith

  after_one : (t : Told) → ShowsWithin all s (t ∷ more) → ShowsWithin all (shown_after s t) more
  after_one (Step made) within f = with_one (Step made) within made.fiber made.event f
  after_one (Request g) within f = let le = within f in omega arith
  after_one (Passed x) within f = let le = within f in omega arith

pub goes_within : (all : ℕ) (s s' : SoFarView) (rest more : List Told) (next : Told) → rest ≡ next ∷ more → s' ≡ shown_after s next
    → ShowsWithin all s rest → ShowsWithin all s' more
goes_within all s s' rest more next is shown within = rw shown (after_one all s more next (rw is at within))
