-- The law of a mask in a mask, with the two polls in the inverse order.
use Rattle.std.proofs.Common.{◌≡◌, ◌≢◌, ℕ, ◌+◌, ◌==◌, Bool, true, false, Option, Some, List, [], ◌∷◌, refl, sym, ◌∙◌, ap, subst, arith}
use Rattle.std.specs.Prelude.{◌↔◌}
use Rattle.std.proofs.lemmas.Bool.{ne_eqb, eq-eqb, eqb-true}
use Rattle.fx_term.specs.declared.node.Arg.TheVariants.{Number, Slot}
use Rattle.fx_term.specs.declared.done.Done.{Done}
use Rattle.fx_term.specs.declared.name_kind.NameKind.{NameKind}
use Rattle.fx_term.specs.declared.name_kind.NameKind.TheVariants as kind
use Rattle.fx_term.specs.Term.{Term, Mask, Poll, Finished, Masked, Opened, put}
use Rattle.fx_term.specs.Need.{need}
use Rattle.fx_term.specs.Scope.{with_name}
use Rattle.fx_term.proofs.NameUses.{IsUsedAs, scoped_used, put_used, put_unused, name_is}
use Rattle.fx_mask.specs.Closing.{Closing, Region, without_region, is_none_closed}
use Rattle.fx_model.specs.Path.{Context, MaskedIn, OpenedIn, closed_along}
use Rattle.fx_model.specs.Row.{Counts, Label, one_more_mask}
use Rattle.fx_model.specs.Step.{Progress}
use Rattle.fx_model.specs.MaskLaws.{IsScopedWithout}
use Rattle.fx_model.proofs.AlikeRows.{with_masks}
use Rattle.fx_laws.specs.Everywhere.{placed, Place, come_to}
use Rattle.fx_laws.proofs.SilentRows.{opened_leads, leads_placed}
use Rattle.fx_laws.proofs.OnlyRows.{only_silent, only_mask, only_placed}
use Rattle.fx_script_laws.specs.Cover.{Cover, is_any, IsCoveredBy}
use Rattle.fx_script_laws.specs.Filled.{none_bound, and_bound}
use Rattle.fx_script_laws.specs.Interchange.{CanComeTo}
use Rattle.fx_script_laws.specs.InScripts.{AreAlikeInScripts}
use Rattle.fx_script_laws.proofs.Renumbered.{Shift, AreRegionsOf, regions_below, IsRenumbered, slot}
use Rattle.fx_script_laws.proofs.Renumbered as renumbered
use Rattle.fx_script_laws.proofs.RenumberedRuns.{IsProgressToo}
use Rattle.fx_script_laws.proofs.OwnRegions.{HasOwnRegions, own_with}
use Rattle.fx_script_laws.proofs.AtClosedPlaces.{AreEndsOfStops}
use Rattle.fx_script_laws.proofs.MasksEntered.{masks_entered, silent_inside}
use Rattle.fx_script_laws.proofs.RegionLaws.{used_as_poll, mask_inside, poll_leads}
use Rattle.fx_script_laws.proofs.NestedMasks.{not_innermost, inside_come, shift, left_apart, right_apart, one, out_of_one, out_of_two}
use Rattle.fx_script_laws.proofs.AlikeInScripts.{ComeToTheSameWithOwn, alike_in_scripts}
use Rattle.fx_script_laws.specs.Reached.{AreAlikeWhereReached}
use Rattle.fx_script_laws.proofs.ReachedPlaces.{alike_where_reached}

module _ (n : ℕ) where
  abbrev four : List Context
  four = MaskedIn n ∷ MaskedIn (n + 1) ∷ OpenedIn n ∷ OpenedIn (n + 1) ∷ []

  -- the poll of the outer mask opens nothing inside the inner one
  outer_stays : (cs : List Closing) → without_region n (Region (n + 1) ∷ Region n ∷ cs) ≡ Region (n + 1) ∷ Region n ∷ cs
  outer_stays cs = not_innermost (n + 1) n (Region n ∷ cs) (λ e. absurd (omega (arith, e)))

  inner_opened : (cs : List Closing) → without_region (n + 1) (Region (n + 1) ∷ Region n ∷ cs) ≡ Region n ∷ cs
  inner_opened cs = rw (eq-eqb (n + 1) (n + 1) refl) refl

  four_close : (cs : List Closing) → closed_along cs four ≡ Region n ∷ cs
  four_close cs = ap (λ (ds : List Closing). without_region (n + 1) ds) (outer_stays cs) ∙ inner_opened cs

  three_shut : (cs : List Closing) → is_none_closed (without_region n (Region (n + 1) ∷ Region n ∷ cs)) ≡ false
  three_shut cs = ap is_none_closed (outer_stays cs)

  four_shut : (cs : List Closing) → is_none_closed (closed_along cs four) ≡ false
  four_shut cs = ap is_none_closed (four_close cs)

module _ {Ends : Counts → Progress → Type 0} (ends : AreEndsOfStops Ends) (place : Place) (n : ℕ) where
  out_of_four : (w : Done) (c : Counts) (ls : List Label)
      → CanComeTo Ends c (come_to place (placed (four n) (Finished w))) ls ↔ CanComeTo Ends c (come_to place (Finished w)) ls
  out_of_four w c ls =
      let k = silent_inside ends place (placed (four n) (Finished w)) (Masked n (Masked (n + 1) (Opened n (Finished w))))
      (only_silent c (leads_placed (MaskedIn n ∷ MaskedIn (n + 1) ∷ OpenedIn n ∷ []) (opened_leads (n + 1) w))) (four_shut n) (λ o. refl) ls in
      let j = silent_inside ends place (Masked n (Masked (n + 1) (Opened n (Finished w)))) (Masked n (Masked (n + 1) (Finished w)))
      (only_silent c (leads_placed (MaskedIn n ∷ MaskedIn (n + 1) ∷ []) (opened_leads n w))) (three_shut n) (λ o. refl) ls in
      let i = out_of_two ends place n w c ls in
      (λ h. i.0 (j.0 (k.0 h)), λ h. k.1 (j.1 (i.1 h)))

  module _ (a : Term) (own : IsProgressToo (regions_below n) (come_to place a) (come_to place a)) where
    four_to_one : (c : Counts) → c.masks ≡ n + 2 → (ls : List Label) → CanComeTo Ends c (come_to place (placed (four n) a)) ls
        → CanComeTo Ends (with_masks (n + 1) c) (come_to place (placed (one ends place n) a)) ls
    four_to_one c is =
        inside_come ends place n (shift n (n + 2) (n + 1)) refl (four n) (one ends place n) (λ cs. (four_shut n cs, refl))
        (λ cs r r' e. (
          ap (without_region r) (four_close n cs) ∙ not_innermost n r cs (left_apart n (n + 2) (n + 1) n (omega arith) (omega arith) r r' e)
              ∙ sym (four_close n cs),
          not_innermost n r' cs (right_apart n (n + 2) (n + 1) n (omega arith) (omega arith) r r' e),
        )) (λ w d ls. (out_of_four w d ls).0) (λ w d ls. (out_of_one ends place n w d ls).1) a own (n + 1) c
        (record {
          others = refl;
          above = omega (arith, is);
          above' = omega arith;
          from = omega (arith, is);
          from' = omega arith;
          shift = omega (arith, is);
        })

    one_to_four : (c : Counts) → c.masks ≡ n + 1 → (ls : List Label) → CanComeTo Ends c (come_to place (placed (one ends place n) a)) ls
        → CanComeTo Ends (with_masks (n + 1 + 1) c) (come_to place (placed (four n) a)) ls
    one_to_four c is =
        inside_come ends place n (shift n (n + 1) (n + 2)) refl (one ends place n) (four n) (λ cs. (refl, four_shut n cs))
        (λ cs r r' e. (
          not_innermost n r cs (left_apart n (n + 1) (n + 2) n (omega arith) (omega arith) r r' e),
          ap (without_region r') (four_close n cs) ∙ not_innermost n r' cs (right_apart n (n + 1) (n + 2) n (omega arith) (omega arith) r r' e)
              ∙ sym (four_close n cs),
        )) (λ w d ls. (out_of_one ends place n w d ls).0) (λ w d ls. (out_of_four w d ls).1) a own (n + 1 + 1) c
        (record {
          others = refl;
          above = omega (arith, is);
          above' = omega arith;
          from = omega (arith, is);
          from' = omega arith;
          shift = omega (arith, is);
        })

-- the masks and their polls
abbrev in_inverse : ℕ → ℕ → Term → Term
in_inverse p q a = Mask p (Mask q (Poll (Slot p) (Poll (Slot q) a)))

abbrev both_own : ℕ → ℕ → ℕ → Bool
both_own p q = and_bound p (and_bound q none_bound)

neither : (p q x : ℕ) → both_own p q x ≡ false → ((p == x) ≡ false) × ((q == x) ≡ false)
neither p q x free = (by_first (p == x) refl, by_second (q == x) refl)
  where
    by_first : (b : Bool) → (p == x) ≡ b → (p == x) ≡ false
    by_first false e = e
    by_first true e = absurd (let same = eqb-true p x e in
        let f : both_own p q p ≡ false = subst (λ (z : ℕ). both_own p q z ≡ false) (sym same) free in
        let g : both_own p q p ≡ true = rw (eq-eqb p p refl) refl in cc)

    own_second : (b : Bool) → (q == p) ≡ b → both_own p q q ≡ true
    own_second true e = rw e refl
    own_second false e = rw (e, eq-eqb q q refl) refl

    by_second : (b : Bool) → (q == x) ≡ b → (q == x) ≡ false
    by_second false e = e
    by_second true e = absurd (let same = eqb-true q x e in
        let f : both_own p q q ≡ false = subst (λ (z : ℕ). both_own p q z ≡ false) (sym same) free in
        let g = own_second (q == p) refl in cc)

data IsInverse (p q : ℕ) : Term → Term → Type 0 where
  inverse : (a : Term) → IsUsedAs kind.OtherPoll p a → IsUsedAs kind.OtherPoll q a → IsInverse p q (in_inverse p q a) (Mask p a)

inverse_put : (p q x n : ℕ) (t u : Term) → both_own p q x ≡ false → IsInverse p q t u → IsInverse p q (put x n t) (put x n u)
inverse_put p q x n t u free (inverse a h k) =
    rw ((neither p q x free).0, (neither p q x free).1)
    (inverse (put x n a) (put_used p kind.OtherPoll x n a h) (put_used q kind.OtherPoll x n a k))

inverse_need : (p q : ℕ) (t u : Term) → IsInverse p q t u → need t ≡ need u
inverse_need p q t u (inverse a h k) = refl

poll_inside : {m : Shift} {i j : ℕ} {x y : Term} → IsRenumbered m (Poll (Slot i) x) (Poll (Slot j) y) → IsRenumbered m x y
poll_inside (renumbered.poll v g) = g

inverse_inside : {m : Shift} (p q : ℕ) (a : Term) → IsRenumbered m (in_inverse p q a) (in_inverse p q a) → IsRenumbered m a a
inverse_inside p q a g = poll_inside (poll_inside (mask_inside (mask_inside g)))

inverse_regions : (p q : ℕ) (a : Term) → IsUsedAs kind.OtherPoll p a → (m : Shift) → IsRenumbered m (in_inverse p q a) (in_inverse p q a)
    → IsRenumbered m (Mask p a) (Mask p a)
inverse_regions p q a h m g = renumbered.mask (used_as_poll p a h) (inverse_inside p q a g)

module _ {Ends : Counts → Progress → Type 0} (ends : AreEndsOfStops Ends) (place : Place) (p q : ℕ) (other : p ≢ q) (a : Term)
    (unused : (n : ℕ) → put p n a ≡ a) (unused' : (n : ℕ) → put q n a ≡ a) where
  outer_put : (n : ℕ) → put p n (Mask q (Poll (Slot p) (Poll (Slot q) a))) ≡ Mask q (Poll (Number n) (Poll (Slot q) a))
  outer_put n = rw (eq-eqb p p refl, ne_eqb q p (λ e. other (sym e)), unused n) refl

  inner_put : (n k : ℕ) → put q k (Poll (Number n) (Poll (Slot q) a)) ≡ Poll (Number n) (Poll (Number k) a)
  inner_put n k = rw (eq-eqb q q refl, unused' k) refl

  -- the inner mask is entered, and both polls
  inner : (c : Counts) (ls : List Label)
      → CanComeTo Ends (one_more_mask c) (come_to place (Masked c.masks (put p c.masks (Mask q (Poll (Slot p) (Poll (Slot q) a)))))) ls
      ↔ CanComeTo Ends (one_more_mask (one_more_mask c)) (come_to place (placed (four c.masks) a)) ls
  inner c ls =
      let n = c.masks in
      let d = one_more_mask (one_more_mask c) in
      let t = Poll (Number n) (Poll (Slot q) a) in
      let i = silent_inside ends place (Masked n (Mask q t)) (Masked n (Masked (n + 1) (put q (n + 1) t)))
      (only_placed (MaskedIn n ∷ []) (only_mask (one_more_mask c) q t)) (λ cs. refl) (λ o. refl) ls in
      let j = silent_inside ends place (Masked n (Masked (n + 1) (Poll (Number n) (Poll (Number (n + 1)) a))))
      (Masked n (Masked (n + 1) (Opened n (Poll (Number (n + 1)) a))))
      (only_silent d (leads_placed (MaskedIn n ∷ MaskedIn (n + 1) ∷ []) (poll_leads n (Poll (Number (n + 1)) a)))) (λ cs. refl) (λ o. refl) ls in
      let k = silent_inside ends place (Masked n (Masked (n + 1) (Opened n (Poll (Number (n + 1)) a)))) (placed (four n) a)
      (only_silent d (leads_placed (MaskedIn n ∷ MaskedIn (n + 1) ∷ OpenedIn n ∷ []) (poll_leads (n + 1) a))) (three_shut n) (λ o. refl) ls in
      let i' = subst (λ (x : Term). CanComeTo Ends (one_more_mask c) (come_to place (Masked n (Mask q t))) ls
      ↔ CanComeTo Ends d (come_to place (Masked n (Masked (n + 1) x))) ls) (inner_put n (n + 1)) i in
      let whole : CanComeTo Ends (one_more_mask c) (come_to place (Masked n (Mask q t))) ls ↔ CanComeTo Ends d (come_to place (placed (four n) a)) ls =
      (λ h. k.0 (j.0 (i'.0 h)), λ h. i'.1 (j.1 (k.1 h))) in
      subst (λ (x : Term). CanComeTo Ends (one_more_mask c) (come_to place (Masked n x)) ls ↔ CanComeTo Ends d (come_to place (placed (four n) a)) ls)
      (sym (outer_put n)) whole

  inverse_to : (c : Counts) → HasOwnRegions c (come_to place a) → (ls : List Label)
      → CanComeTo Ends (one_more_mask c) (come_to place (Masked c.masks (put p c.masks (Mask q (Poll (Slot p) (Poll (Slot q) a)))))) ls
      → CanComeTo Ends (one_more_mask c) (come_to place (Masked c.masks (put p c.masks a))) ls
  inverse_to c own ls h =
      rw (unused c.masks) (four_to_one ends place c.masks a own (one_more_mask (one_more_mask c)) (omega arith) ls ((inner c ls).0 h))

  inverse_from : (c : Counts) → HasOwnRegions c (come_to place a) → (ls : List Label)
      → CanComeTo Ends (one_more_mask c) (come_to place (Masked c.masks (put p c.masks a))) ls
      → CanComeTo Ends (one_more_mask c) (come_to place (Masked c.masks (put p c.masks (Mask q (Poll (Slot p) (Poll (Slot q) a)))))) ls
  inverse_from c own ls h =
      let k : CanComeTo Ends (one_more_mask c) (come_to place (Masked c.masks a)) ls =
      subst (λ (x : Term). CanComeTo Ends (one_more_mask c) (come_to place (Masked c.masks x)) ls) (unused c.masks) h in
      (inner c ls).1 (one_to_four ends place c.masks a own (one_more_mask c) refl ls k)

inverse_come : (p q : ℕ) → p ≢ q → (Ends : Counts → Progress → Type 0) → AreEndsOfStops Ends → (s : Cover) (place : Place) → is_any s ≡ true
    → IsCoveredBy s place → (t u : Term) → IsInverse p q t u → ComeToTheSameWithOwn Ends place t u
inverse_come p q other Ends ends s place any at t u (inverse a h k) c own ls =
    let unused : (n : ℕ) → put p n a ≡ a = λ n. put_unused p n a h in
    let unused' : (n : ℕ) → put q n a ≡ a = λ n. put_unused q n a k in
    let regions = inverse_regions p q a h in
    let part = Mask q (Poll (Slot p) (Poll (Slot q) a)) in (
      masks_entered p part a ends place
          (λ d o ms. inverse_to ends place p q other a unused unused' d (own_with place d (in_inverse p q a) a (λ m g. inverse_inside p q a g) o) ms) c own ls,
      masks_entered p a part ends place
          (λ d o ms. inverse_from ends place p q other a unused unused' d (own_with place d (Mask p a) a (λ m g. mask_inside g) o) ms) c
          (own_with place c (in_inverse p q a) (Mask p a) regions own) ls,
    )

pub inverse_masks : (scope : ℕ → Option NameKind) (p q : ℕ) (a : Term) → p ≢ q → IsScopedWithout scope p q a
    → AreAlikeInScripts is_any (both_own p q) (in_inverse p q a) (Mask p a)
inverse_masks scope p q a other scoped =
    let last = with_name q kind.OtherPoll scope in
    let there = with_name p kind.OtherPoll last in
    let q_there : there q ≡ Some kind.OtherPoll = rw (ne_eqb q p (λ e. other (sym e))) (name_is q kind.OtherPoll scope) in
    alike_in_scripts is_any (both_own p q) (IsInverse p q) (inverse_put p q) (inverse_need p q) (inverse_come p q other)
    (in_inverse p q a) (Mask p a)
    (inverse a (scoped_used p there kind.OtherPoll a (name_is p kind.OtherPoll last) scoped) (scoped_used q there kind.OtherPoll a q_there scoped))

pub inverse_reached : (scope : ℕ → Option NameKind) (p q : ℕ) (a : Term) → p ≢ q → IsScopedWithout scope p q a
    → AreAlikeWhereReached is_any (in_inverse p q a) (Mask p a)
inverse_reached scope p q a other scoped =
    let last = with_name q kind.OtherPoll scope in
    let there = with_name p kind.OtherPoll last in
    let q_there : there q ≡ Some kind.OtherPoll = rw (ne_eqb q p (λ e. other (sym e))) (name_is q kind.OtherPoll scope) in
    alike_where_reached is_any (in_inverse p q a) (Mask p a)
    (λ Ends ends s place any at. inverse_come p q other Ends ends s place any at (in_inverse p q a) (Mask p a)
    (inverse a (scoped_used p there kind.OtherPoll a (name_is p kind.OtherPoll last) scoped) (scoped_used q there kind.OtherPoll a q_there scoped)))
