-- What a cover says of the places inside.
use Rattle.std.proofs.Common.{◌≡◌, ℕ, zero, suc, ◌-◌, ◌==◌, ◌≤◌, Bool, true, false, if◌then◌else◌, List, [], ◌∷◌, refl, arith}
use Rattle.std.specs.Prelude.{length}
use Rattle.fx_mask.specs.Closing.{Closing, Region, Seal, without_region, is_none_closed}
use Rattle.fx_model.specs.Path.{Context, LetIn, HandleIn, OnCancelIn, AcquireIn, AcquireCaseIn, MaskedIn, OpenedIn, InUseIn, InUseCaseIn, InReleaseIn}
use Rattle.fx_model.specs.Path.{closed_under}
use Rattle.fx_script_laws.specs.Cover.{Cover, Bare, Sealed, Masks, in_mask, in_poll, is_closed, has_seal, AreClosedBy}

-- of the part of a context that runs
abbrev pub cover_in : Context → Cover → Cover
cover_in (AcquireIn x u r) s = Sealed
cover_in (AcquireCaseIn x u y b z e d) s = Sealed
cover_in (MaskedIn r) s = in_mask s
cover_in (OpenedIn r) s = in_poll s
cover_in (InReleaseIn k v) s = Sealed
cover_in _ s = s

masked_in : (s : Cover) (r : ℕ) (cs : List Closing) → AreClosedBy s cs → AreClosedBy (in_mask s) (Region r ∷ cs)
masked_in Bare r cs h = omega arith
masked_in Sealed r cs h = h
masked_in (Masks n) r cs h = omega (arith, h)

seal_stays : (r : ℕ) (cs : List Closing) → has_seal cs ≡ true → has_seal (without_region r cs) ≡ true
seal_stays r [] h = h
seal_stays r (Seal ∷ cs) h = refl
seal_stays r (Region q ∷ cs) h = by_test (q == r)
  where
    by_test : (b : Bool) → has_seal (if b then cs else Region q ∷ cs) ≡ true
    by_test true = h
    by_test false = h

one_less : (n r : ℕ) (cs : List Closing) → n ≤ length cs → n - 1 ≤ length (without_region r cs)
one_less n r [] h = omega (arith, h)
one_less n r (Seal ∷ cs) h = omega (arith, h)
one_less n r (Region q ∷ cs) h = by_test (q == r)
  where
    by_test : (b : Bool) → n - 1 ≤ length (if b then cs else Region q ∷ cs)
    by_test true = omega (arith, h)
    by_test false = omega (arith, h)

opened_in : (s : Cover) (r : ℕ) (cs : List Closing) → AreClosedBy s cs → AreClosedBy (in_poll s) (without_region r cs)
opened_in Bare r cs h = rw h refl
opened_in Sealed r cs h = seal_stays r cs h
opened_in (Masks n) r cs h = one_less n r cs h

-- what is closed as a cover says is so inside a context, too
pub covered_in : (f : Context) (s : Cover) (cs : List Closing) → AreClosedBy s cs → AreClosedBy (cover_in f s) (closed_under cs f)
covered_in (LetIn x b) s cs h = h
covered_in (HandleIn x b) s cs h = h
covered_in (OnCancelIn f) s cs h = h
covered_in (AcquireIn x u r) s cs h = refl
covered_in (AcquireCaseIn x u y b z e d) s cs h = refl
covered_in (MaskedIn r) s cs h = masked_in s r cs h
covered_in (OpenedIn r) s cs h = opened_in s r cs h
covered_in (InUseIn k r) s cs h = h
covered_in (InUseCaseIn k y b z e d) s cs h = h
covered_in (InReleaseIn k v) s cs h = refl

-- what is closed so has something that closes it
pub some_closed : (s : Cover) (cs : List Closing) → is_closed s ≡ true → AreClosedBy s cs → is_none_closed cs ≡ false
some_closed s (c ∷ cs) covered h = refl
some_closed Bare [] covered h = absurd cc
some_closed Sealed [] covered h = absurd cc
some_closed (Masks zero) [] covered h = absurd cc
some_closed (Masks (suc n)) [] covered h = absurd (omega (arith, h))
