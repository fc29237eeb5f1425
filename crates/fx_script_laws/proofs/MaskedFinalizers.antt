-- The law of a finalizer in a mask that nothing polls.
use Rattle.std.proofs.Common.{◌≡◌, ℕ, ◌+◌, true, false, Option, List, [], ◌∷◌, refl, subst, arith}
use Rattle.std.specs.Prelude.{◌↔◌}
use Rattle.fx_term.specs.declared.done.Done.{Done}
use Rattle.fx_term.specs.declared.name_kind.NameKind.{NameKind}
use Rattle.fx_term.specs.declared.name_kind.NameKind.TheVariants as kind
use Rattle.fx_term.specs.Term.{Term, Mask, OnCancel, Finished, Masked, put}
use Rattle.fx_term.specs.Need.{need}
use Rattle.fx_term.specs.Scope.{with_name, IsScoped}
use Rattle.fx_term.proofs.NameUses.{IsUsedAs, scoped_used, put_used, put_unused, name_is}
use Rattle.fx_model.specs.Path.{Context, MaskedIn, OnCancelIn}
use Rattle.fx_model.specs.Row.{Counts, Label, one_more_mask}
use Rattle.fx_model.specs.Step.{Progress}
use Rattle.fx_laws.specs.Everywhere.{placed, Place, come_to}
use Rattle.fx_laws.proofs.SilentRows.{oncancel_leads, leads_placed}
use Rattle.fx_laws.proofs.OnlyRows.{only_silent}
use Rattle.fx_script_laws.specs.Cover.{Cover, is_any, IsCoveredBy}
use Rattle.fx_script_laws.specs.Filled.{none_bound}
use Rattle.fx_script_laws.specs.Interchange.{CanComeTo}
use Rattle.fx_script_laws.specs.InScripts.{AreAlikeInScripts}
use Rattle.fx_script_laws.proofs.PutNeeds.{put_need}
use Rattle.fx_script_laws.proofs.Renumbered.{Shift, IsRenumbered}
use Rattle.fx_script_laws.proofs.Renumbered as renumbered
use Rattle.fx_script_laws.proofs.OwnRegions.{HasOwnRegions, AreNext, own_with}
use Rattle.fx_script_laws.proofs.AtClosedPlaces.{AreEndsOfStops}
use Rattle.fx_script_laws.proofs.MasksEntered.{masks_entered, silent_inside}
use Rattle.fx_script_laws.proofs.RegionLaws.{used_as_poll, mask_inside}
use Rattle.fx_script_laws.proofs.NestedMasks.{not_innermost, inside_come, shift, left_apart, right_apart, one, out_of_one}
use Rattle.fx_script_laws.proofs.AlikeInScripts.{ComeToTheSameWithOwn, alike_in_scripts}
use Rattle.fx_script_laws.specs.Reached.{AreAlikeWhereReached}
use Rattle.fx_script_laws.proofs.ReachedPlaces.{alike_where_reached}

-- In a mask that the fiber entered as its nth: a term with a finalizer round it, or without, which has no region but earlier ones, and so never opens the mask
module _ {Ends : Counts → Progress → Type 0} (ends : AreEndsOfStops Ends) (place : Place) (n : ℕ) (f : Term) where
  abbrev with_it : List Context
  with_it = MaskedIn n ∷ OnCancelIn f ∷ []

  out_of_it : (w : Done) (c : Counts) (ls : List Label)
      → CanComeTo Ends c (come_to place (placed with_it (Finished w))) ls ↔ CanComeTo Ends c (come_to place (Finished w)) ls
  out_of_it w c ls =
      let k = silent_inside ends place (Masked n (OnCancel (Finished w) f)) (Masked n (Finished w))
      (only_silent c (leads_placed (MaskedIn n ∷ []) (oncancel_leads w f))) (λ cs. refl) (λ o. refl) ls in
      let j = out_of_one ends place n w c ls in
      (λ h. j.0 (k.0 h), λ h. k.1 (j.1 h))

  -- both entered as many masks
  abbrev alike : Shift
  alike = shift n (n + 1) (n + 1)

  next_alike : (c : Counts) → c.masks ≡ n → AreNext alike (c.masks + 1) (c.masks + 1)
  next_alike c is =
      record {
        others = refl;
        above = omega (arith, is);
        above' = omega (arith, is);
        from = omega (arith, is);
        from' = omega (arith, is);
        shift = omega (arith, is);
      }

module _ {Ends : Counts → Progress → Type 0} (ends : AreEndsOfStops Ends) (place : Place) (p : ℕ) (a f : Term) (unused : (n : ℕ) → put p n a ≡ a) where
  finalizer_to : (c : Counts) → HasOwnRegions c (come_to place a) → (ls : List Label)
      → CanComeTo Ends (one_more_mask c) (come_to place (Masked c.masks (put p c.masks (OnCancel a f)))) ls
      → CanComeTo Ends (one_more_mask c) (come_to place (Masked c.masks (put p c.masks a))) ls
  finalizer_to c own ls h =
      let n = c.masks in
      let g = put p n f in
      let k : CanComeTo Ends (one_more_mask c) (come_to place (Masked n (OnCancel a g))) ls =
      subst (λ (x : Term). CanComeTo Ends (one_more_mask c) (come_to place (Masked n (OnCancel x g))) ls) (unused n) h in
      rw (unused n)
      (inside_come ends place n (alike ends place n g) refl (with_it ends place n g) (one ends place n) (λ cs. (refl, refl))
      (λ cs r r' e. (
        not_innermost n r cs (left_apart n (n + 1) (n + 1) n (omega arith) (omega arith) r r' e),
        not_innermost n r' cs (right_apart n (n + 1) (n + 1) n (omega arith) (omega arith) r r' e),
      )) (λ w d ms. (out_of_it ends place n g w d ms).0) (λ w d ms. (out_of_one ends place n w d ms).1) a own (n + 1) (one_more_mask c)
      (next_alike ends place n g c refl) ls k)

  finalizer_from : (c : Counts) → HasOwnRegions c (come_to place a) → (ls : List Label)
      → CanComeTo Ends (one_more_mask c) (come_to place (Masked c.masks (put p c.masks a))) ls
      → CanComeTo Ends (one_more_mask c) (come_to place (Masked c.masks (put p c.masks (OnCancel a f)))) ls
  finalizer_from c own ls h =
      let n = c.masks in
      let g = put p n f in
      let k : CanComeTo Ends (one_more_mask c) (come_to place (Masked n a)) ls =
      subst (λ (x : Term). CanComeTo Ends (one_more_mask c) (come_to place (Masked n x)) ls) (unused n) h in
      rw (unused n)
      (inside_come ends place n (alike ends place n g) refl (one ends place n) (with_it ends place n g) (λ cs. (refl, refl))
      (λ cs r r' e. (
        not_innermost n r cs (left_apart n (n + 1) (n + 1) n (omega arith) (omega arith) r r' e),
        not_innermost n r' cs (right_apart n (n + 1) (n + 1) n (omega arith) (omega arith) r r' e),
      )) (λ w d ms. (out_of_one ends place n w d ms).0) (λ w d ms. (out_of_it ends place n g w d ms).1) a own (n + 1) (one_more_mask c)
      (next_alike ends place n g c refl) ls k)

data HasFinalizer : Term → Term → Type 0 where
  a_finalizer : (p : ℕ) (a f : Term) → need f ≡ 0 → IsUsedAs kind.OtherPoll p a → HasFinalizer (Mask p (OnCancel a f)) (Mask p a)

finalizer_put : (x n : ℕ) (t u : Term) → none_bound x ≡ false → HasFinalizer t u → HasFinalizer (put x n t) (put x n u)
finalizer_put x n t u free (a_finalizer p a f none h) =
    a_finalizer p (put x n a) (put x n f) (let e = put_need x n f in omega arith) (put_used p kind.OtherPoll x n a h)

finalizer_need : (t u : Term) → HasFinalizer t u → need t ≡ need u
finalizer_need t u (a_finalizer p a f none h) = omega (arith, none)

finalizer_inside : {m : Shift} {i j : ℕ} {x x' y y' : Term} → IsRenumbered m (Mask i (OnCancel x y)) (Mask j (OnCancel x' y')) → IsRenumbered m x x'
finalizer_inside (renumbered.mask u (renumbered.oncancel g k)) = g

finalizer_come : (Ends : Counts → Progress → Type 0) → AreEndsOfStops Ends → (s : Cover) (place : Place) → is_any s ≡ true → IsCoveredBy s place → (t u : Term)
    → HasFinalizer t u → ComeToTheSameWithOwn Ends place t u
finalizer_come Ends ends s place any at t u (a_finalizer p a f none h) c own ls =
    let unused : (n : ℕ) → put p n a ≡ a = λ n. put_unused p n a h in
    let whole = Mask p (OnCancel a f) in (
      masks_entered p (OnCancel a f) a ends place
          (λ d o ms. finalizer_to ends place p a f unused d (own_with place d whole a (λ m g. finalizer_inside g) o) ms) c own ls,
      masks_entered p a (OnCancel a f) ends place
          (λ d o ms. finalizer_from ends place p a f unused d (own_with place d (Mask p a) a (λ m g. mask_inside g) o) ms) c
          (own_with place c whole (Mask p a) (λ m g. renumbered.mask (used_as_poll p a h) (finalizer_inside g)) own) ls,
    )

pub finalizer_in_mask : (scope : ℕ → Option NameKind) (p : ℕ) (a f : Term) → IsScoped (with_name p kind.OtherPoll scope) a → need f ≡ 0
    → AreAlikeInScripts is_any none_bound (Mask p (OnCancel a f)) (Mask p a)
finalizer_in_mask scope p a f scoped none =
    alike_in_scripts is_any none_bound HasFinalizer finalizer_put finalizer_need finalizer_come (Mask p (OnCancel a f)) (Mask p a)
    (a_finalizer p a f none (scoped_used p (with_name p kind.OtherPoll scope) kind.OtherPoll a (name_is p kind.OtherPoll scope) scoped))

pub finalizer_reached : (scope : ℕ → Option NameKind) (p : ℕ) (a f : Term) → IsScoped (with_name p kind.OtherPoll scope) a → need f ≡ 0
    → AreAlikeWhereReached is_any (Mask p (OnCancel a f)) (Mask p a)
finalizer_reached scope p a f scoped none =
    alike_where_reached is_any (Mask p (OnCancel a f)) (Mask p a)
    (λ Ends ends s place any at. finalizer_come Ends ends s place any at (Mask p (OnCancel a f)) (Mask p a)
    (a_finalizer p a f none (scoped_used p (with_name p kind.OtherPoll scope) kind.OtherPoll a (name_is p kind.OtherPoll scope) scoped)))
