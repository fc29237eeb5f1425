-- The laws of a mask in a mask.
use Rattle.std.proofs.Common.{◌≡◌, ◌≢◌, ℕ, ◌+◌, ◌<◌, ◌≤◌, true, false, Option, Some, List, [], ◌∷◌, refl, sym, subst, arith}
use Rattle.std.specs.Prelude.{◌↔◌}
use Rattle.std.proofs.lemmas.Bool.{ne_eqb}
use Rattle.fx_term.specs.declared.done.Done.{Done}
use Rattle.fx_term.specs.declared.name_kind.NameKind.{NameKind}
use Rattle.fx_term.specs.declared.name_kind.NameKind.TheVariants as kind
use Rattle.fx_term.specs.Term.{Term, Mask, Finished, Masked, put}
use Rattle.fx_term.specs.Need.{need}
use Rattle.fx_term.specs.Scope.{with_name}
use Rattle.fx_term.proofs.NameUses.{IsUsedAs, scoped_used, put_used, put_unused, name_is}
use Rattle.fx_mask.specs.Closing.{Closing, Region, without_region, is_none_closed}
use Rattle.fx_model.specs.Path.{Context, MaskedIn, closed_along}
use Rattle.fx_model.specs.Row.{Counts, Label, one_more_mask}
use Rattle.fx_model.specs.Step.{Progress}
use Rattle.fx_model.specs.Run.{Leads, shown}
use Rattle.fx_model.specs.MaskLaws.{IsScopedWithout}
use Rattle.fx_model.proofs.AlikeRows.{with_masks}
use Rattle.fx_laws.specs.Everywhere.{placed, Place, come_to}
use Rattle.fx_laws.proofs.SilentRows.{masked_leads, leads_placed}
use Rattle.fx_laws.proofs.OnlyRows.{only_silent, only_mask, only_placed}
use Rattle.fx_script_laws.specs.Cover.{Cover, is_any, IsCoveredBy}
use Rattle.fx_script_laws.specs.Filled.{none_bound}
use Rattle.fx_script_laws.specs.Interchange.{CanComeTo}
use Rattle.fx_script_laws.specs.InScripts.{AreAlikeInScripts}
use Rattle.fx_script_laws.proofs.Renumbered.{Shift, AreRegionsOf, kept, moved, regions_below, IsRenumbered, renumbered_by}
use Rattle.fx_script_laws.proofs.Renumbered as renumbered
use Rattle.fx_script_laws.proofs.RenumberedRuns.{IsProgressToo}
use Rattle.fx_script_laws.proofs.OwnRegions.{HasOwnRegions, progress_by, shifted, AreNext, comes_with, there_inside, own_with}
use Rattle.fx_script_laws.proofs.AtClosedPlaces.{AreEndsOfStops}
use Rattle.fx_script_laws.proofs.ShutInside.{deeper, come_deeper, shut_come, shut_deeper}
use Rattle.fx_script_laws.proofs.MasksEntered.{masks_entered, silent_inside}
use Rattle.fx_script_laws.proofs.RegionLaws.{used_as_poll, mask_inside}
use Rattle.fx_script_laws.proofs.AlikeInScripts.{ComeToTheSameWithOwn, alike_in_scripts}
use Rattle.fx_script_laws.specs.Reached.{AreAlikeWhereReached}
use Rattle.fx_script_laws.proofs.ReachedPlaces.{alike_where_reached}

-- a region that is not the innermost one takes nothing away
pub not_innermost : (q r : ℕ) (cs : List Closing) → q ≢ r → without_region r (Region q ∷ cs) ≡ Region q ∷ cs
not_innermost q r cs other = rw (ne_eqb q r other) refl

-- One term in two lists of contexts that close its place, of which it has no region, and which it leaves silently: in fibers that entered unlike many
module _ {Ends : Counts → Progress → Type 0} (ends : AreEndsOfStops Ends) (place : Place) (n : ℕ) (m : Shift) (base : m.base ≡ n) (gs hs : List Context)
    (closed : (cs : List Closing) → (is_none_closed (closed_along cs gs) ≡ false) × (is_none_closed (closed_along cs hs) ≡ false))
    (stay : (cs : List Closing) (r r' : ℕ) → AreRegionsOf m r r'
    → (without_region r (closed_along cs gs) ≡ closed_along cs gs) × (without_region r' (closed_along cs hs) ≡ closed_along cs hs))
    (leave : (w : Done) (c : Counts) (ls : List Label) → CanComeTo Ends c (come_to place (placed gs (Finished w))) ls
    → CanComeTo Ends c (come_to place (Finished w)) ls)
    (enter : (w : Done) (c : Counts) (ls : List Label) → CanComeTo Ends c (come_to place (Finished w)) ls
    → CanComeTo Ends c (come_to place (placed hs (Finished w))) ls) (a : Term) (own : IsProgressToo (regions_below n) (come_to place a) (come_to place a)) where
  result_comes : (w : Done) (o : ℕ) (c : Counts) → AreNext m c.masks o → (ls : List Label) (d : Counts) (q : Progress)
      → Leads c (come_to (deeper place gs) (Finished w)) ls d q → Ends d q → CanComeTo Ends (with_masks o c) (come_to (deeper place hs) (Finished w)) (shown ls)
  result_comes w o c next ls d q h e =
      let run : Leads c (come_to place (placed gs (Finished w))) ls d q =
      subst (λ (x : Progress). Leads c x ls d q) (come_deeper place gs (Finished w)) h in
      let here : CanComeTo Ends c (come_to place (placed gs (Finished w))) (shown ls) =
      record { labels = ls; counts = d; progress = q; run = run; shown_is = refl; ends = e } in
      let k = leave w c (shown ls) here in
      let own_w = (there_inside place a own).1 (Finished w) renumbered.finished in
      let there = comes_with ends m o k.labels c k.counts (come_to place (Finished w)) (come_to place (Finished w)) k.progress next
      (progress_by (regions_below n) m (shifted n m base) own_w) k.run k.ends in
      let same : CanComeTo Ends (with_masks o c) (come_to place (Finished w)) (shown ls) =
      subst (λ (ms : List Label). CanComeTo Ends (with_masks o c) (come_to place (Finished w)) ms) k.shown_is there in
      subst (λ (x : Progress). CanComeTo Ends (with_masks o c) x (shown ls)) (sym (come_deeper place hs (Finished w)))
      (enter w (with_masks o c) (shown ls) same)

  pub inside_come : (o : ℕ) (c : Counts) → AreNext m c.masks o → (ls : List Label) → CanComeTo Ends c (come_to place (placed gs a)) ls
      → CanComeTo Ends (with_masks o c) (come_to place (placed hs a)) ls
  inside_come o c next ls h =
      let run : Leads c (come_to (deeper place gs) a) h.labels h.counts h.progress =
      subst (λ (x : Progress). Leads c x h.labels h.counts h.progress) (sym (come_deeper place gs a)) h.run in
      let same : IsRenumbered m a a = renumbered_by (regions_below n) m (shifted n m base) (there_inside place a own).0 in
      let there = shut_come ends m (deeper place gs) (deeper place hs) (shut_deeper m place gs hs closed stay) result_comes h.labels o c h.counts h.progress a a
      next same run h.ends in
      rw (sym h.shown_is) (subst (λ (x : Progress). CanComeTo Ends (with_masks o c) x (shown h.labels)) (come_deeper place hs a) there)

-- regions that are neither of the two that were entered
abbrev pub shift : ℕ → ℕ → ℕ → Shift
shift n low low' = record { base = n; others = true; low = low; low' = low' }

pub left_apart : (n low low' q : ℕ) → n ≤ q → q < low → (r r' : ℕ) → AreRegionsOf (shift n low low') r r' → q ≢ r
left_apart n low low' q least most r r' (kept h) e = absurd (omega (arith, least, h, e))
left_apart n low low' q least most r r' (moved others a b l l' f) e = absurd (omega (arith, most, l, e))

pub right_apart : (n low low' q : ℕ) → n ≤ q → q < low' → (r r' : ℕ) → AreRegionsOf (shift n low low') r r' → q ≢ r'
right_apart n low low' q least most r r' (kept h) e = absurd (omega (arith, least, h, e))
right_apart n low low' q least most r r' (moved others a b l l' f) e = absurd (omega (arith, most, l', e))

module _ {Ends : Counts → Progress → Type 0} (ends : AreEndsOfStops Ends) (place : Place) (n : ℕ) where
  abbrev pub one : List Context
  one = MaskedIn n ∷ []

  abbrev two : List Context
  two = MaskedIn n ∷ MaskedIn (n + 1) ∷ []

  pub out_of_one : (w : Done) (c : Counts) (ls : List Label)
      → CanComeTo Ends c (come_to place (placed one (Finished w))) ls ↔ CanComeTo Ends c (come_to place (Finished w)) ls
  out_of_one w c ls = silent_inside ends place (Masked n (Finished w)) (Finished w) (only_silent c (masked_leads n w)) (λ cs. refl) (λ o. refl) ls

  pub out_of_two : (w : Done) (c : Counts) (ls : List Label)
      → CanComeTo Ends c (come_to place (placed two (Finished w))) ls ↔ CanComeTo Ends c (come_to place (Finished w)) ls
  out_of_two w c ls =
      let k = silent_inside ends place (Masked n (Masked (n + 1) (Finished w))) (Masked n (Finished w))
      (only_silent c (leads_placed (MaskedIn n ∷ []) (masked_leads (n + 1) w))) (λ cs. refl) (λ o. refl) ls in
      let j = out_of_one w c ls in
      (λ h. j.0 (k.0 h), λ h. k.1 (j.1 h))

  module _ (a : Term) (own : IsProgressToo (regions_below n) (come_to place a) (come_to place a)) where
    two_to_one : (c : Counts) → c.masks ≡ n + 2 → (ls : List Label) → CanComeTo Ends c (come_to place (placed two a)) ls
        → CanComeTo Ends (with_masks (n + 1) c) (come_to place (placed one a)) ls
    two_to_one c is =
        inside_come ends place n (shift n (n + 2) (n + 1)) refl two one (λ cs. (refl, refl))
        (λ cs r r' e. (
          not_innermost (n + 1) r (Region n ∷ cs) (left_apart n (n + 2) (n + 1) (n + 1) (omega arith) (omega arith) r r' e),
          not_innermost n r' cs (right_apart n (n + 2) (n + 1) n (omega arith) (omega arith) r r' e),
        )) (λ w d ls. (out_of_two w d ls).0) (λ w d ls. (out_of_one w d ls).1) a own (n + 1) c
        (record {
          others = refl;
          above = omega (arith, is);
          above' = omega arith;
          from = omega (arith, is);
          from' = omega arith;
          shift = omega (arith, is);
        })

    one_to_two : (c : Counts) → c.masks ≡ n + 1 → (ls : List Label) → CanComeTo Ends c (come_to place (placed one a)) ls
        → CanComeTo Ends (with_masks (n + 1 + 1) c) (come_to place (placed two a)) ls
    one_to_two c is =
        inside_come ends place n (shift n (n + 1) (n + 2)) refl one two (λ cs. (refl, refl))
        (λ cs r r' e. (
          not_innermost n r cs (left_apart n (n + 1) (n + 2) n (omega arith) (omega arith) r r' e),
          not_innermost (n + 1) r' (Region n ∷ cs) (right_apart n (n + 1) (n + 2) (n + 1) (omega arith) (omega arith) r r' e),
        )) (λ w d ls. (out_of_one w d ls).0) (λ w d ls. (out_of_two w d ls).1) a own (n + 1 + 1) c
        (record {
          others = refl;
          above = omega (arith, is);
          above' = omega arith;
          from = omega (arith, is);
          from' = omega arith;
          shift = omega (arith, is);
        })

data IsNested : Term → Term → Type 0 where
  nested : (p q : ℕ) (a : Term) → IsUsedAs kind.OtherPoll p a → IsUsedAs kind.OtherPoll q a → IsNested (Mask p (Mask q a)) (Mask p a)

nested_put : (x n : ℕ) (t u : Term) → none_bound x ≡ false → IsNested t u → IsNested (put x n t) (put x n u)
nested_put x n t u free (nested p q a h k) = nested p q (put x n a) (put_used p kind.OtherPoll x n a h) (put_used q kind.OtherPoll x n a k)

nested_need : (t u : Term) → IsNested t u → need t ≡ need u
nested_need t u (nested p q a h k) = refl

nested_regions : (p q : ℕ) (a : Term) → IsUsedAs kind.OtherPoll p a → (m : Shift) → IsRenumbered m (Mask p (Mask q a)) (Mask p (Mask q a))
    → IsRenumbered m (Mask p a) (Mask p a)
nested_regions p q a h m g = renumbered.mask (used_as_poll p a h) (mask_inside (mask_inside g))

module _ {Ends : Counts → Progress → Type 0} (ends : AreEndsOfStops Ends) (place : Place) (p q : ℕ) (a : Term) (unused : (n : ℕ) → put p n a ≡ a)
    (unused' : (n : ℕ) → put q n a ≡ a) where
  -- the inner mask is entered
  inner : (c : Counts) (ls : List Label) → CanComeTo Ends (one_more_mask c) (come_to place (Masked c.masks (put p c.masks (Mask q a)))) ls
      ↔ CanComeTo Ends (one_more_mask (one_more_mask c)) (come_to place (Masked c.masks (Masked (c.masks + 1) a))) ls
  inner c ls =
      let n = c.masks in
      let k = silent_inside ends place (Masked n (Mask q a)) (Masked n (Masked (n + 1) (put q (n + 1) a)))
      (only_placed (MaskedIn n ∷ []) (only_mask (one_more_mask c) q a)) (λ cs. refl) (λ o. refl) ls in
      rw (unused n)
      (subst (λ (x : Term). CanComeTo Ends (one_more_mask c) (come_to place (Masked n (Mask q a))) ls
      ↔ CanComeTo Ends (one_more_mask (one_more_mask c)) (come_to place (Masked n (Masked (n + 1) x))) ls) (unused' (n + 1)) k)

  nested_to : (c : Counts) → HasOwnRegions c (come_to place a) → (ls : List Label)
      → CanComeTo Ends (one_more_mask c) (come_to place (Masked c.masks (put p c.masks (Mask q a)))) ls
      → CanComeTo Ends (one_more_mask c) (come_to place (Masked c.masks (put p c.masks a))) ls
  nested_to c own ls h =
      rw (unused c.masks) (two_to_one ends place c.masks a own (one_more_mask (one_more_mask c)) (omega arith) ls ((inner c ls).0 h))

  nested_from : (c : Counts) → HasOwnRegions c (come_to place a) → (ls : List Label)
      → CanComeTo Ends (one_more_mask c) (come_to place (Masked c.masks (put p c.masks a))) ls
      → CanComeTo Ends (one_more_mask c) (come_to place (Masked c.masks (put p c.masks (Mask q a)))) ls
  nested_from c own ls h =
      let k : CanComeTo Ends (one_more_mask c) (come_to place (Masked c.masks a)) ls =
      subst (λ (x : Term). CanComeTo Ends (one_more_mask c) (come_to place (Masked c.masks x)) ls) (unused c.masks) h in
      (inner c ls).1 (one_to_two ends place c.masks a own (one_more_mask c) refl ls k)

nested_come : (Ends : Counts → Progress → Type 0) → AreEndsOfStops Ends → (s : Cover) (place : Place) → is_any s ≡ true → IsCoveredBy s place → (t u : Term)
    → IsNested t u → ComeToTheSameWithOwn Ends place t u
nested_come Ends ends s place any at t u (nested p q a h k) c own ls =
    let unused : (n : ℕ) → put p n a ≡ a = λ n. put_unused p n a h in
    let unused' : (n : ℕ) → put q n a ≡ a = λ n. put_unused q n a k in
    let regions = nested_regions p q a h in (
      masks_entered p (Mask q a) a ends place
          (λ d o ms. nested_to ends place p q a unused unused' d (own_with place d (Mask p (Mask q a)) a (λ m g. mask_inside (mask_inside g)) o) ms) c own ls,
      masks_entered p a (Mask q a) ends place
          (λ d o ms. nested_from ends place p q a unused unused' d (own_with place d (Mask p a) a (λ m g. mask_inside g) o) ms) c
          (own_with place c (Mask p (Mask q a)) (Mask p a) regions own) ls,
    )

pub nested_masks : (scope : ℕ → Option NameKind) (p q : ℕ) (a : Term) → p ≢ q → IsScopedWithout scope p q a
    → AreAlikeInScripts is_any none_bound (Mask p (Mask q a)) (Mask p a)
nested_masks scope p q a other scoped =
    let last = with_name q kind.OtherPoll scope in
    let there = with_name p kind.OtherPoll last in
    let q_there : there q ≡ Some kind.OtherPoll = rw (ne_eqb q p (λ e. other (sym e))) (name_is q kind.OtherPoll scope) in
    alike_in_scripts is_any none_bound IsNested nested_put nested_need nested_come (Mask p (Mask q a)) (Mask p a)
    (nested p q a (scoped_used p there kind.OtherPoll a (name_is p kind.OtherPoll last) scoped) (scoped_used q there kind.OtherPoll a q_there scoped))

pub nested_reached : (scope : ℕ → Option NameKind) (p q : ℕ) (a : Term) → p ≢ q → IsScopedWithout scope p q a
    → AreAlikeWhereReached is_any (Mask p (Mask q a)) (Mask p a)
nested_reached scope p q a other scoped =
    let last = with_name q kind.OtherPoll scope in
    let there = with_name p kind.OtherPoll last in
    let q_there : there q ≡ Some kind.OtherPoll = rw (ne_eqb q p (λ e. other (sym e))) (name_is q kind.OtherPoll scope) in
    alike_where_reached is_any (Mask p (Mask q a)) (Mask p a)
    (λ Ends ends s place any at. nested_come Ends ends s place any at (Mask p (Mask q a)) (Mask p a)
    (nested p q a (scoped_used p there kind.OtherPoll a (name_is p kind.OtherPoll last) scoped) (scoped_used q there kind.OtherPoll a q_there scoped)))
