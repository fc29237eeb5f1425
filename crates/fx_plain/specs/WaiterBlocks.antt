-- By the number of a fiber, blocks of numbers in which all are that wait for its end.
use Rattle.std.specs.Prelude.{◌≡◌, ℕ, ◌-◌, ◌/◌, ◌%◌, ◌^◌, ◌≤◌, ◌<◌, ◌==◌, ◌&&◌, Bool, true, false, List, slice_index_or, slice_set, bit_or}
use Rattle.std.specs.Int.{bit_at}
use Rattle.fx_model.specs.declared.source.Source.TheVariants.{Outcome, Either}
use Rattle.fx_plain.specs.declared.class.Class.{Class}
use Rattle.fx_plain.specs.declared.class.Class.TheVariants.{Waits}
use Rattle.fx_plain.specs.declared.number_set.TheConstants.{BITS}
use Rattle.fx_plain.specs.declared.waiter_blocks.Blocks.{Blocks}
use Rattle.fx_plain.specs.Classes.{waits_for_end}
use Rattle.fx_plain.specs.ClassSets.{class_at}

-- the number is in the blocks: its block is marked, and its place there
abbrev pub is_in : Blocks → ℕ → Bool
is_in own n = bit_at own.blocks (n / BITS) == 1 && bit_at own.places (n % BITS) == 1

-- the blocks of no number, and those of all numbers
abbrev pub nowhere : Blocks
nowhere = record { blocks = 0; places = 0 }

abbrev pub anywhere : Blocks
anywhere = record { blocks = 2 ^ BITS - 1; places = 2 ^ BITS - 1 }

-- the blocks for the end of fiber f; past the list they have all numbers
abbrev pub blocks_of : List Blocks → ℕ → Blocks
blocks_of blocks f = slice_index_or blocks f anywhere

abbrev pub is_marked : List Blocks → ℕ → ℕ → Bool
is_marked blocks f n = is_in (blocks_of blocks f) n

-- the blocks with the bits of this number too
abbrev pub with_number : ℕ → Blocks → Blocks
with_number n own = record { blocks = bit_or own.blocks (2 ^ (n / BITS)); places = bit_or own.places (2 ^ (n % BITS)) }

-- the blocks after one more waits for the end of fiber f, and after one more is of class k
abbrev pub with_waiter_for : ℕ → ℕ → List Blocks → List Blocks
with_waiter_for f waiter blocks = slice_set blocks f (with_number waiter (blocks_of blocks f))

abbrev pub with_waiter : ℕ → Class → List Blocks → List Blocks
with_waiter waiter (Waits (Outcome f)) blocks = with_waiter_for f waiter blocks
with_waiter waiter (Waits (Either f g)) blocks = with_waiter_for g waiter (with_waiter_for f waiter blocks)
with_waiter waiter k blocks = blocks

-- who waits for the end of a fiber is in its blocks
abbrev pub AreMarkedFor : List Class → List Blocks → Type 0
AreMarkedFor classes blocks = (f waiter : ℕ) → waits_for_end f (class_at classes waiter) ≡ true → is_marked blocks f waiter ≡ true

-- from this number on, up to the other, nobody waits for the end of fiber f
abbrev pub NobodyWaitsFor : List Class → ℕ → ℕ → ℕ → Type 0
NobodyWaitsFor classes f from n = (g : ℕ) → from ≤ g → g < n → waits_for_end f (class_at classes g) ≡ false
