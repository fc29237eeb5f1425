-- A pass over those that wait for an end, which wakes them.
use Rattle.std.proofs.Common.{◌≡◌, ℕ, ◌+◌, ◌<◌, ◌≤◌, Bool, true, false, List, length, map, refl, sym, ◌∙◌, ap, inl, inr, arith, length-set, ext_get_or}
use Rattle.std.specs.Prelude.{slice_set, if◌then◌else◌}
use Rattle.std.proofs.Math.ListN.{get_or-map}
use Rattle.std.proofs.lemmas.Bool.{cases_eq, cases_lt}
use Rattle.std.proofs.lemmas.List.{length-map}
use Rattle.fx_plain.specs.declared.class.Class.{Class}
use Rattle.fx_plain.specs.declared.class.Class.TheVariants.{Unstarted, Able}
use Rattle.fx_plain.specs.Classes.{waits_for_end, class_at_end}
use Rattle.fx_plain.specs.ClassSets.{class_at}
use Rattle.fx_plain.specs.WaiterBlocks.{NobodyWaitsFor}
use Rattle.fx_term.proofs.MapLaws.{at_that, at_other}
use Rattle.fx_plain.proofs.ClassSets.{class_at_set, stands_within}

-- the class of one at an end, by whether it waits for that
at_end : (f : ℕ) (k : Class) (b : Bool) → waits_for_end f k ≡ b → class_at_end f k ≡ (if b then Able else k)
at_end f k b e = ap (λ (t : Bool). if t then Able else k) e

module _ (f : ℕ) (old : List Class) where
  -- those with lower numbers have been woken, and the others are as they were
  pub record AreWoken (from : ℕ) (now : List Class) : Type 0 where
    pub long : length now ≡ length old
    pub below : (g : ℕ) → g < from → class_at now g ≡ class_at_end f (class_at old g)
    pub above : (g : ℕ) → from ≤ g → class_at now g ≡ class_at old g

  module _ (from : ℕ) (now : List Class) (woken : AreWoken from now) where
    -- who does not wait for it is as it is to be
    stays : (g : ℕ) → from ≤ g → waits_for_end f (class_at now g) ≡ false → class_at now g ≡ class_at_end f (class_at old g)
    stays g le e = sym (at_end f (class_at now g) false e) ∙ ap (class_at_end f) (woken.above g le)

    pub all_woken : ((g : ℕ) → from ≤ g → waits_for_end f (class_at now g) ≡ false) → now ≡ map (class_at_end f) old
    all_woken none =
        ext_get_or Unstarted now (map (class_at_end f) old) (woken.long ∙ sym (length-map old (class_at_end f)))
        (λ g lt. woken_at g ∙ sym (get_or-map (class_at_end f) old g Unstarted))
      where
        woken_at : (g : ℕ) → class_at now g ≡ class_at_end f (class_at old g)
        woken_at g = elim (cases_lt g from) [ inl less ↦ woken.below g less | inr le ↦ stays g le (none g le) ]

    -- the next one is woken
    pub woken_one : (g : ℕ) → from ≤ g → waits_for_end f (class_at now g) ≡ true → NobodyWaitsFor now f from g
        → AreWoken (g + 1) (slice_set now g Able)
    woken_one g le waits none =
        let within = stands_within now g (waits_for_end f) refl waits in
        record {
          long = length-set now g Able ∙ woken.long;
          below = λ h lt. class_at_set now g Able within h ∙ elim (cases_eq h g) [
            | inl same ↦
                at_that g Able (class_at now) h same ∙ sym (at_end f (class_at now g) true waits) ∙ ap (class_at_end f) (woken.above g le)
                ∙ ap (λ (i : ℕ). class_at_end f (class_at old i)) (sym same)
            | inr apart ↦ at_other g Able (class_at now) h apart ∙ elim (cases_lt h from) [
              | inl less ↦ woken.below h less
              | inr there ↦ stays h there (none h there (omega arith))
            ]
          ];
          above = λ h past. class_at_set now g Able within h ∙ at_other g Able (class_at now) h (λ e. omega arith) ∙ woken.above h (omega arith);
        }
