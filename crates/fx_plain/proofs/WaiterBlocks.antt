-- The blocks of those that wait for ends, as one fiber comes into another class.
use Rattle.std.proofs.Common.{◌≡◌, ℕ, ◌-◌, ◌/◌, ◌%◌, ◌^◌, ◌<◌, ◌≤◌, Bool, true, false, List, length, refl, sym, subst, ◌∙◌, ap, arith, inl, inr}
use Rattle.std.proofs.Common.{get_or-set_same, get_or-set_other, length-set}
use Rattle.std.specs.Prelude.{◌==◌, ◌||◌, slice_set, bit_or}
use Rattle.std.specs.Int.{bit_at}
use Rattle.std.proofs.lemmas.Bool.{cases_eq, cases_lt, eqb-true, eq-eqb, and_parts, and_from}
use Rattle.std.proofs.lemmas.List.{get_or_past}
use Rattle.std.proofs.lemmas.Nat.Bits.{bit_at_or, bit_at-pow_same, bit_at-lt, bit_at_ones}
use Rattle.fx_model.specs.declared.source.Source.TheVariants.{Outcome, Either}
use Rattle.fx_plain.specs.declared.class.Class.{Class}
use Rattle.fx_plain.specs.declared.class.Class.TheVariants.{Waits}
use Rattle.fx_plain.specs.declared.waiter_blocks.Blocks.{Blocks}
use Rattle.fx_plain.specs.Classes.{waits_for_end}
use Rattle.fx_plain.specs.ClassSets.{class_at}
use Rattle.fx_plain.specs.WaiterBlocks.{is_in, anywhere, blocks_of, is_marked, with_number, with_waiter_for, with_waiter, AreMarkedFor}
use Rattle.fx_term.proofs.MapLaws.{at_that, at_other}
use Rattle.fx_plain.proofs.ClassSets.{class_at_set}

-- a word with one bit more has that, and those that it had
has_bit : (x k : ℕ) → (bit_at (bit_or x (2 ^ k)) k == 1) ≡ true
has_bit x k = eq-eqb (bit_at (bit_or x (2 ^ k)) k) 1 (omega (arith, bit_at_or x (2 ^ k) k, bit_at-pow_same k, bit_at-lt x k))

keeps_bit : (x y i : ℕ) → (bit_at x i == 1) ≡ true → (bit_at (bit_or x y) i == 1) ≡ true
keeps_bit x y i is =
    let e = eqb-true (bit_at x i) 1 is in
    eq-eqb (bit_at (bit_or x y) i) 1 (omega (arith, bit_at_or x y i, bit_at-lt y i))

every_bit : (i : ℕ) → i < 64 → (bit_at (2 ^ 64 - 1) i == 1) ≡ true
every_bit i lt = eq-eqb (bit_at (2 ^ 64 - 1) i) 1 (bit_at_ones 64 i lt)

module _ (waiter : ℕ) (few : waiter < 4096) where
  module _ (own : Blocks) where
    number_has : is_in (with_number waiter own) waiter ≡ true
    number_has = and_from _ _ (has_bit own.blocks (waiter / 64)) (has_bit own.places (waiter % 64))

    number_keeps : (n : ℕ) → is_in own n ≡ true → is_in (with_number waiter own) n ≡ true
    number_keeps n is =
        let parts = and_parts _ _ is in
        and_from _ _ (keeps_bit own.blocks (2 ^ (waiter / 64)) (n / 64) parts.0) (keeps_bit own.places (2 ^ (waiter % 64)) (n % 64) parts.1)

  module _ (f : ℕ) (blocks : List Blocks) where
    abbrev now : List Blocks
    now = with_waiter_for f waiter blocks

    abbrev more : Blocks
    more = with_number waiter (blocks_of blocks f)

    blocks_of_that : f < length blocks → blocks_of now f ≡ more
    blocks_of_that lt = get_or-set_same blocks f more anywhere lt

    blocks_past : length blocks ≤ f → blocks_of now f ≡ anywhere
    blocks_past past = get_or_past now f anywhere (let e = length-set blocks f more in omega arith)

    -- the blocks of f have one more
    has : is_marked now f waiter ≡ true
    has = elim (cases_lt f (length blocks)) [
      | inl lt ↦ ap (λ (own : Blocks). is_in own waiter) (blocks_of_that lt) ∙ number_has (blocks_of blocks f)
      | inr past ↦
          ap (λ (own : Blocks). is_in own waiter) (blocks_past past)
          ∙ and_from _ _ (every_bit (waiter / 64) (omega arith)) (every_bit (waiter % 64) (omega arith))
    ]

    -- and each has whom it had
    keeps_that : (n : ℕ) → is_marked blocks f n ≡ true → is_marked now f n ≡ true
    keeps_that n is = elim (cases_lt f (length blocks)) [
      | inl lt ↦ ap (λ (own : Blocks). is_in own n) (blocks_of_that lt) ∙ number_keeps (blocks_of blocks f) n is
      | inr past ↦ ap (λ (own : Blocks). is_in own n) (blocks_past past ∙ sym (get_or_past blocks f anywhere past)) ∙ is
    ]

    keeps : (g n : ℕ) → is_marked blocks g n ≡ true → is_marked now g n ≡ true
    keeps g n is = elim (cases_eq g f) [
      | inl same ↦ subst (λ (h : ℕ). is_marked now h n ≡ true) (sym same) (keeps_that n (subst (λ (h : ℕ). is_marked blocks h n ≡ true) same is))
      | inr apart ↦ ap (λ (own : Blocks). is_in own n) (get_or-set_other blocks f g more anywhere apart) ∙ is
    ]

  module _ (blocks : List Blocks) where
    module _ (g h f : ℕ) where
      abbrev with_one : List Blocks
      with_one = with_waiter_for g waiter blocks

      abbrev with_both : List Blocks
      with_both = with_waiter_for h waiter with_one

      either_has : (a b : Bool) → (g == f) ≡ a → (h == f) ≡ b → (a || b) ≡ true → is_marked with_both f waiter ≡ true
      either_has true b p q e = keeps h with_one f waiter (subst (λ (i : ℕ). is_marked with_one i waiter ≡ true) (eqb-true g f p) (has g blocks))
      either_has false true p q e = subst (λ (i : ℕ). is_marked with_both i waiter ≡ true) (eqb-true h f q) (has h with_one)
      either_has false false p q e = absurd cc

    class_has : (k : Class) (f : ℕ) → waits_for_end f k ≡ true → is_marked (with_waiter waiter k blocks) f waiter ≡ true
    class_has (Waits (Outcome g)) f waits = subst (λ (h : ℕ). is_marked (with_waiter_for g waiter blocks) h waiter ≡ true) (eqb-true g f waits) (has g blocks)
    class_has (Waits (Either g h)) f waits = either_has g h f (g == f) (h == f) refl refl waits
    class_has _ f waits = absurd cc

    class_keeps : (k : Class) (f n : ℕ) → is_marked blocks f n ≡ true → is_marked (with_waiter waiter k blocks) f n ≡ true
    class_keeps (Waits (Outcome g)) f n is = keeps g blocks f n is
    class_keeps (Waits (Either g h)) f n is = keeps h (with_waiter_for g waiter blocks) f n (keeps g blocks f n is)
    class_keeps _ f n is = is

    -- the fiber comes into a class
    pub come_marked : (classes : List Class) (k : Class) → waiter < length classes → AreMarkedFor classes blocks
        → AreMarkedFor (slice_set classes waiter k) (with_waiter waiter k blocks)
    come_marked classes k lt marked f n waits = elim (cases_eq n waiter) [
      | inl same ↦
          subst (λ (i : ℕ). is_marked (with_waiter waiter k blocks) f i ≡ true) (sym same)
          (class_has k f (ap (waits_for_end f) (sym (class_at_set classes waiter k lt n ∙ at_that waiter k (class_at classes) n same)) ∙ waits))
      | inr apart ↦
          class_keeps k f n
          (marked f n (ap (waits_for_end f) (sym (class_at_set classes waiter k lt n ∙ at_other waiter k (class_at classes) n apart)) ∙ waits))
    ]
