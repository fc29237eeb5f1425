-- A mask of a path on which the masks are opened, and its poll.
use Rattle.std.proofs.Common.{◌≡◌, ◌⊎◌, ℕ, List, [], ◌∷◌, ◌++◌, refl, sym, subst, inl, inr, append_assoc}
use Rattle.fx_model.specs.PairedMasks.{Mark, Closes, Opens, Seals, IsPaired, nothing, idle, pair, appended, HasItsPoll}
use Rattle.fx_model.proofs.PairedMasks.{HasNoSeal, paired_has_no_seal}

-- a mark of two lists, one after the other, stands in the first or in the second
abbrev ReturnsInto : List Mark → List Mark → List Mark → Mark → List Mark → Type 0
ReturnsInto w x u m v = ((inner : List Mark) × (w ≡ u ++ m ∷ inner) × (v ≡ inner ++ x)) ⊎ ((outer : List Mark) × (u ≡ w ++ outer) × (x ≡ outer ++ m ∷ v))

stands_later : (a b : Mark) (w x u : List Mark) (m : Mark) (v : List Mark) → a ≡ b → ReturnsInto w x u m v → ReturnsInto (a ∷ w) x (b ∷ u) m v
stands_later a b w x u m v e (inl h) = inl (h.0, (let p = h.1 in cc), h.2)
stands_later a b w x u m v e (inr h) = inr (h.0, (let p = h.1 in cc), h.2)

stands_in : (w x u : List Mark) (m : Mark) (v : List Mark) → w ++ x ≡ u ++ m ∷ v → ReturnsInto w x u m v
stands_in [] x u m v e = inr (u, refl, e)
stands_in (a ∷ w) x [] m v e = inl (w, cc, cc)
stands_in (a ∷ w) x (b ∷ u) m v e =
    let first : a ≡ b = cc in
    let rest : w ++ x ≡ u ++ m ∷ v = cc in
    stands_later a b w x u m v first (stands_in w x u m v rest)

idle_has_no_mask : (s r : ℕ) (u v : List Mark) → Opens s ∷ [] ≡ u ++ Closes r ∷ v → ⊥
idle_has_no_mask s r [] v e = cc
idle_has_no_mask s r (m ∷ []) v e = cc
idle_has_no_mask s r (m ∷ n ∷ u) v e = cc

-- each mask of the list has its poll
abbrev Each : List Mark → Type 0
Each w = (u v : List Mark) (r : ℕ) → w ≡ u ++ Closes r ∷ v → HasItsPoll u r v

each_in_pair : (s : ℕ) (w : List Mark) → IsPaired w → Each w → Each (Closes s ∷ (w ++ Opens s ∷ []))
each_in_pair s w p each [] v r e = (w, [], cc, p, nothing)
each_in_pair s w p each (m ∷ u) v r e =
    let first : m ≡ Closes s = cc in
    let rest : w ++ Opens s ∷ [] ≡ u ++ Closes r ∷ v = cc in
    by_focus first (stands_in w (Opens s ∷ []) u (Closes r) v rest)
  where
    round : (inner : List Mark) → HasItsPoll u r inner → HasItsPoll (Closes s ∷ u) r (inner ++ Opens s ∷ [])
    round inner h = (
      h.0,
      h.1 ++ Opens s ∷ [],
      rw h.2 (append_assoc h.0 (Opens r ∷ h.1) (Opens s ∷ [])),
      h.3,
      subst (λ (x : List Mark). IsPaired (Closes s ∷ x)) (append_assoc u h.1 (Opens s ∷ [])) (pair h.4),
    )

    by_focus : m ≡ Closes s → ReturnsInto w (Opens s ∷ []) u (Closes r) v → HasItsPoll (m ∷ u) r v
    by_focus same (inl h) = rw (same, h.2) (round h.0 (each u h.0 r h.1))
    by_focus same (inr h) = absurd (idle_has_no_mask s r h.0 v h.2)

each_in_either : (w x : List Mark) → IsPaired w → IsPaired x → Each w → Each x → Each (w ++ x)
each_in_either w x p q each_w each_x u v r e = by_focus (stands_in w x u (Closes r) v e)
  where
    more_inside : (inner : List Mark) → HasItsPoll u r inner → HasItsPoll u r (inner ++ x)
    more_inside inner h = (h.0, h.1 ++ x, rw h.2 (append_assoc h.0 (Opens r ∷ h.1) x), h.3, subst IsPaired (append_assoc u h.1 x) (appended h.4 q))

    more_outside : (outer : List Mark) → HasItsPoll outer r v → HasItsPoll (w ++ outer) r v
    more_outside outer h = (h.0, h.1, h.2, h.3, subst IsPaired (sym (append_assoc w outer h.1)) (appended p h.4))

    by_focus : ReturnsInto w x u (Closes r) v → HasItsPoll u r v
    by_focus (inl h) = rw h.2 (more_inside h.0 (each_w u h.0 r h.1))
    by_focus (inr h) = rw h.1 (more_outside h.0 (each_x h.0 v r h.2))

each_has_its_poll : {w : List Mark} → IsPaired w → Each w
each_has_its_poll nothing [] v r e = absurd cc
each_has_its_poll nothing (m ∷ u) v r e = absurd cc
each_has_its_poll (idle {r = s}) u v r e = absurd (idle_has_no_mask s r u v e)
each_has_its_poll (pair {r = s} {w = w} p) u v r e = each_in_pair s w p (each_has_its_poll p) u v r e
each_has_its_poll (appended {w = w} {x = x} p q) u v r e = each_in_either w x p q (each_has_its_poll p) (each_has_its_poll q) u v r e

pub mask_has_its_poll : (u v : List Mark) (r : ℕ) → IsPaired (u ++ Closes r ∷ v) → HasItsPoll u r v
mask_has_its_poll u v r p = each_has_its_poll p u v r refl

sealed : (u v : List Mark) → HasNoSeal (u ++ Seals ∷ v) → ⊥
sealed [] v h = h
sealed (Closes r ∷ u) v h = sealed u v h
sealed (Opens r ∷ u) v h = sealed u v h
sealed (Seals ∷ u) v h = h

pub sealed_is_not_paired : (u v : List Mark) → IsPaired (u ++ Seals ∷ v) → ⊥
sealed_is_not_paired u v p = sealed u v (paired_has_no_seal p)
