-- Where two terms stand that differ at such places: none is round the leaf, or one is.
use Rattle.std.proofs.Common.{◌≡◌, ℕ, suc, ◌+◌, ◌≤◌, Bool, List, [], ◌∷◌, ◌++◌, refl, ap, arith}
use Rattle.fx_term.specs.Term.{Term}
use Rattle.fx_mask.specs.Closing.{Closing, Seal, Region, without_region, is_none_closed}
use Rattle.fx_model.specs.Path.{Context, LetIn, HandleIn, OnCancelIn, AcquireIn, AcquireCaseIn, MaskedIn, OpenedIn, InUseIn, InUseCaseIn, InReleaseIn, plug}
use Rattle.fx_model.specs.Path.{CleanupTerm, Finalizer, Release, leaf, closed_under, closed_along, closed_regions}
use Rattle.fx_model.specs.Path.{cleanup_terms, is_canceled_form, is_open, must_cancel}
use Rattle.fx_model.specs.Outside.{Outside, leaf_can_step}
use Rattle.fx_laws.specs.Everywhere.{placed}
use Rattle.fx_script_laws.specs.Cover.{Cover, Sealed, AreClosedBy}
use Rattle.fx_script_laws.specs.Filled.{none_bound, IsFilled}
use Rattle.fx_script_laws.specs.Filled as filled
use Rattle.fx_script_laws.proofs.Holes.{holes, AreAlong, holes_along}
use Rattle.fx_script_laws.proofs.Holes as along
use Rattle.fx_script_laws.proofs.Covers.{cover_in, covered_in}

module _ {Pair : Cover → (ℕ → Bool) → Term → Term → Type 0} where
  -- such terms are such terms
  abbrev pub forget : {s : Cover} {t u : Term} → AreAlong Pair s t u → IsFilled Pair s none_bound t u
  forget along.same = filled.same
  forget (along.let_ p q) = filled.let_ (forget p) q
  forget (along.handle p q) = filled.handle (forget p) q
  forget (along.if_ p q) = filled.if_ p q
  forget (along.for_ p) = filled.for_ p
  forget (along.mask p) = filled.mask p
  forget (along.poll p) = filled.poll p
  forget (along.oncancel p q) = filled.oncancel (forget p) q
  forget (along.bracket p q r) = filled.bracket (forget p) q r
  forget (along.bracket_case p q r s w) = filled.bracket_case (forget p) q r s w
  forget (along.start p q) = filled.start p q
  forget (along.join p q r) = filled.join p q r
  forget (along.try_take p q) = filled.try_take p q
  forget (along.masked p) = filled.masked (forget p)
  forget (along.opened p) = filled.opened (forget p)
  forget (along.in_use p q) = filled.in_use (forget p) q
  forget (along.in_use_case p q r s) = filled.in_use_case (forget p) q r s
  forget (along.in_release p) = filled.in_release (forget p)
  forget (along.loop p) = filled.loop p

  pub forget_holes : {s : Cover} {t u : Term} (p : AreAlong Pair s t u) → holes (forget p) ≡ holes_along p
  forget_holes along.same = refl
  forget_holes (along.let_ p q) = let e = forget_holes p in omega arith
  forget_holes (along.handle p q) = let e = forget_holes p in omega arith
  forget_holes (along.if_ p q) = refl
  forget_holes (along.for_ p) = refl
  forget_holes (along.mask p) = refl
  forget_holes (along.poll p) = refl
  forget_holes (along.oncancel p q) = let e = forget_holes p in omega arith
  forget_holes (along.bracket p q r) = let e = forget_holes p in omega arith
  forget_holes (along.bracket_case p q r s w) = let e = forget_holes p in omega arith
  forget_holes (along.start p q) = refl
  forget_holes (along.join p q r) = refl
  forget_holes (along.try_take p q) = refl
  forget_holes (along.masked p) = forget_holes p
  forget_holes (along.opened p) = forget_holes p
  forget_holes (along.in_use p q) = let e = forget_holes p in omega arith
  forget_holes (along.in_use_case p q r s) = let e = forget_holes p in omega arith
  forget_holes (along.in_release p) = forget_holes p
  forget_holes (along.loop p) = refl

  canceled_along : {s : Cover} {t u : Term} → AreAlong Pair s t u → is_canceled_form (leaf t) ≡ is_canceled_form (leaf u)
  canceled_along (along.let_ p q) = canceled_along p
  canceled_along (along.handle p q) = canceled_along p
  canceled_along (along.oncancel p q) = canceled_along p
  canceled_along (along.bracket p q r) = canceled_along p
  canceled_along (along.bracket_case p q r s w) = canceled_along p
  canceled_along (along.masked p) = canceled_along p
  canceled_along (along.opened p) = canceled_along p
  canceled_along (along.in_use p q) = canceled_along p
  canceled_along (along.in_use_case p q r s) = canceled_along p
  canceled_along (along.in_release p) = canceled_along p
  canceled_along _ = refl

  pub can_along : (o : Outside) {s : Cover} {t u : Term} → AreAlong Pair s t u → leaf_can_step o (leaf t) ≡ leaf_can_step o (leaf u)
  can_along o (along.let_ p q) = can_along o p
  can_along o (along.handle p q) = can_along o p
  can_along o (along.oncancel p q) = can_along o p
  can_along o (along.bracket p q r) = can_along o p
  can_along o (along.bracket_case p q r s w) = can_along o p
  can_along o (along.masked p) = can_along o p
  can_along o (along.opened p) = can_along o p
  can_along o (along.in_use p q) = can_along o p
  can_along o (along.in_use_case p q r s) = can_along o p
  can_along o (along.in_release p) = can_along o p
  can_along o _ = refl

  closed_along_too : (outer : List Closing) {s : Cover} {t u : Term} → AreAlong Pair s t u → closed_regions outer t ≡ closed_regions outer u
  closed_along_too outer (along.let_ p q) = closed_along_too outer p
  closed_along_too outer (along.handle p q) = closed_along_too outer p
  closed_along_too outer (along.oncancel p q) = closed_along_too outer p
  closed_along_too outer (along.bracket p q r) = closed_along_too (Seal ∷ outer) p
  closed_along_too outer (along.bracket_case p q r s w) = closed_along_too (Seal ∷ outer) p
  closed_along_too outer (along.masked {r = r} p) = closed_along_too (Region r ∷ outer) p
  closed_along_too outer (along.opened {r = r} p) = closed_along_too (without_region r outer) p
  closed_along_too outer (along.in_use p q) = closed_along_too outer p
  closed_along_too outer (along.in_use_case p q r s) = closed_along_too outer p
  closed_along_too outer (along.in_release p) = closed_along_too (Seal ∷ outer) p
  closed_along_too outer _ = refl

  pub open_along : {s : Cover} {t u : Term} → AreAlong Pair s t u → is_open t ≡ is_open u
  open_along p = ap is_none_closed (closed_along_too [] p)

  pub must_along : (known : Bool) {s : Cover} {t u : Term} → AreAlong Pair s t u → must_cancel known t ≡ must_cancel known u
  must_along known p = let e = open_along p in let f = canceled_along p in cc

-- clean-ups that differ at such places
pub data AreFilledCleanups (Pair : Cover → (ℕ → Bool) → Term → Term → Type 0) : List CleanupTerm → List CleanupTerm → Type 0 where
  none : AreFilledCleanups Pair [] []
  finalizer : {f f' : Term} {xs ys : List CleanupTerm} → IsFilled Pair Sealed none_bound f f' → AreFilledCleanups Pair xs ys
      → AreFilledCleanups Pair (Finalizer f ∷ xs) (Finalizer f' ∷ ys)
  release : {k : ℕ} {r r' : Term} {xs ys : List CleanupTerm} → IsFilled Pair Sealed none_bound r r' → AreFilledCleanups Pair xs ys
      → AreFilledCleanups Pair (Release k r ∷ xs) (Release k r' ∷ ys)

module _ {Pair : Cover → (ℕ → Bool) → Term → Term → Type 0} where
  abbrev pub holes_left : {xs ys : List CleanupTerm} → AreFilledCleanups Pair xs ys → ℕ
  holes_left none = 0
  holes_left (finalizer p q) = holes p + holes_left q
  holes_left (release p q) = holes p + holes_left q

module _ (Pair : Cover → (ℕ → Bool) → Term → Term → Type 0) where
  -- the same clean-ups, and no place at which they differ
  record AreSame (xs : List CleanupTerm) : Type 0 where
    pub filled : AreFilledCleanups Pair xs xs
    pub none_is : holes_left filled ≡ 0

  pub record AreCleanups (xs ys : List CleanupTerm) (most : ℕ) : Type 0 where
    pub filled : AreFilledCleanups Pair xs ys
    pub few : holes_left filled ≤ most

  -- a pair stands where the leaf is, in contexts that differ at fewer places
  pub record IsAtPair (s : Cover) (t u : Term) (n : ℕ) : Type 0 where
    pub cover : Cover
    pub outer : List Context
    pub outer' : List Context
    pub first : Term
    pub second : Term
    pub pair : Pair cover none_bound first second
    pub covered : (cs : List Closing) → AreClosedBy s cs → AreClosedBy cover (closed_along cs outer)
    pub is : t ≡ placed outer first
    pub is' : u ≡ placed outer' second
    pub whole : (z : Term) → IsFilled Pair s none_bound (placed outer z) (placed outer' z)
    pub fewer : (z : Term) → suc (holes (whole z)) ≤ n

  -- in one context more
  record Wraps (f g : Context) (s : Cover) (a a' : Term) (n m : ℕ) : Type 0 where
    pub whole : (b b' : Term) → IsFilled Pair (cover_in f s) none_bound b b' → IsFilled Pair s none_bound (plug f b) (plug g b')
    pub fewer : (b b' : Term) (h : IsFilled Pair (cover_in f s) none_bound b b') → suc (holes h) ≤ n → suc (holes (whole b b' h)) ≤ m

module _ {Pair : Cover → (ℕ → Bool) → Term → Term → Type 0} where
  abbrev one_more : {xs ys us vs : List CleanupTerm} → AreFilledCleanups Pair xs ys → AreFilledCleanups Pair us vs
      → AreFilledCleanups Pair (xs ++ us) (ys ++ vs)
  one_more none q = q
  one_more (finalizer f p) q = finalizer f (one_more p q)
  one_more (release r p) q = release r (one_more p q)

  one_more_holes : {xs ys us vs : List CleanupTerm} (p : AreFilledCleanups Pair xs ys) (q : AreFilledCleanups Pair us vs)
      → holes_left (one_more p q) ≡ holes_left p + holes_left q
  one_more_holes none q = omega arith
  one_more_holes (finalizer f p) q = let e = one_more_holes p q in omega arith
  one_more_holes (release r p) q = let e = one_more_holes p q in omega arith

  same_cleanups : (xs : List CleanupTerm) → AreSame Pair xs
  same_cleanups [] = record { filled = none; none_is = refl }
  same_cleanups (Finalizer f ∷ xs) = let s = same_cleanups xs in record { filled = finalizer filled.same s.filled; none_is = let e = s.none_is in omega arith }
  same_cleanups (Release k r ∷ xs) = let s = same_cleanups xs in record { filled = release filled.same s.filled; none_is = let e = s.none_is in omega arith }

  with_finalizer : {xs ys : List CleanupTerm} {f f' : Term} {n : ℕ} → AreCleanups Pair xs ys n → (q : IsFilled Pair Sealed none_bound f f')
      → AreCleanups Pair (xs ++ Finalizer f ∷ []) (ys ++ Finalizer f' ∷ []) (n + holes q)
  with_finalizer s q =
      record { filled = one_more s.filled (finalizer q none); few = let e = one_more_holes s.filled (finalizer q none) in let h = s.few in omega arith }

  with_release : (k : ℕ) {xs ys : List CleanupTerm} {f f' : Term} {n : ℕ} → AreCleanups Pair xs ys n → (q : IsFilled Pair Sealed none_bound f f')
      → AreCleanups Pair (xs ++ Release k f ∷ []) (ys ++ Release k f' ∷ []) (n + holes q)
  with_release k s q =
      let last : AreFilledCleanups Pair (Release k _ ∷ []) (Release k _ ∷ []) = release {k = k} q none in
      record { filled = one_more s.filled last; few = let e = one_more_holes s.filled last in let h = s.few in omega arith }

  more_room : {xs ys : List CleanupTerm} {n m : ℕ} → n ≤ m → AreCleanups Pair xs ys n → AreCleanups Pair xs ys m
  more_room h s = record { filled = s.filled; few = let e = s.few in omega arith }

  no_cleanups : (n : ℕ) → AreCleanups Pair [] [] n
  no_cleanups n = record { filled = none; few = omega arith }

  pub cleanups_along_too : {s : Cover} {t u : Term} (p : AreAlong Pair s t u) → AreCleanups Pair (cleanup_terms t) (cleanup_terms u) (holes_along p)
  cleanups_along_too (along.same {t = t}) =
      let s = same_cleanups (cleanup_terms t) in record { filled = s.filled; few = let e = s.none_is in omega arith }
  cleanups_along_too (along.let_ p q) = more_room (omega arith) (cleanups_along_too p)
  cleanups_along_too (along.handle p q) = more_room (omega arith) (cleanups_along_too p)
  cleanups_along_too (along.oncancel p q) = with_finalizer (cleanups_along_too p) q
  cleanups_along_too (along.bracket p q r) = more_room (omega arith) (cleanups_along_too p)
  cleanups_along_too (along.bracket_case p q r s w) = more_room (omega arith) (cleanups_along_too p)
  cleanups_along_too (along.masked p) = cleanups_along_too p
  cleanups_along_too (along.opened p) = cleanups_along_too p
  cleanups_along_too (along.in_use {k = k} p q) = with_release k (cleanups_along_too p) q
  cleanups_along_too (along.in_use_case {k = k} p q r s) = more_room (omega arith) (with_release k (cleanups_along_too p) s)
  cleanups_along_too (along.in_release p) = cleanups_along_too p
  cleanups_along_too (along.if_ p q) = no_cleanups _
  cleanups_along_too (along.for_ p) = no_cleanups _
  cleanups_along_too (along.mask p) = no_cleanups _
  cleanups_along_too (along.poll p) = no_cleanups _
  cleanups_along_too (along.start p q) = no_cleanups _
  cleanups_along_too (along.join p q r) = no_cleanups _
  cleanups_along_too (along.try_take p q) = no_cleanups _
  cleanups_along_too (along.loop p) = no_cleanups _

  pub data Split {s : Cover} {t u : Term} (p : IsFilled Pair s none_bound t u) : Type 0 where
    clear : (q : AreAlong Pair s t u) → holes_along q ≡ holes p → Split p
    at_pair : IsAtPair Pair s t u (holes p) → Split p

  wrap : (f g : Context) {s : Cover} {a a' : Term} {n m : ℕ} → Wraps Pair f g s a a' n m → IsAtPair Pair (cover_in f s) a a' n
      → IsAtPair Pair s (plug f a) (plug g a') m
  wrap f g {s} w i =
      record {
        cover = i.cover;
        covered = λ cs h. i.covered (closed_under cs f) (covered_in f s cs h);
        outer = f ∷ i.outer;
        outer' = g ∷ i.outer';
        first = i.first;
        second = i.second;
        pair = i.pair;
        is = ap (plug f) i.is;
        is' = ap (plug g) i.is';
        whole = λ z. w.whole (placed i.outer z) (placed i.outer' z) (i.whole z);
        fewer = λ z. w.fewer (placed i.outer z) (placed i.outer' z) (i.whole z) (i.fewer z);
      }

  split_more : (f g : Context) {s : Cover} {a a' : Term} {p : IsFilled Pair (cover_in f s) none_bound a a'}
      {w : IsFilled Pair s none_bound (plug f a) (plug g a')}
      → Split p → ((q : AreAlong Pair (cover_in f s) a a') → holes_along q ≡ holes p → Split w) → Wraps Pair f g s a a' (holes p) (holes w) → Split w
  split_more f g (clear q e) next r = next q e
  split_more f g (at_pair i) next r = at_pair (wrap f g r i)

  pub split : {s : Cover} {t u : Term} (p : IsFilled Pair s none_bound t u) → Split p
  split (filled.pair {s = c} {t = t} {u = u} s) =
      at_pair (record {
        cover = c;
        outer = [];
        outer' = [];
        first = t;
        second = u;
        pair = s;
        covered = λ cs h. h;
        is = refl;
        is' = refl;
        whole = λ z. filled.same;
        fewer = λ z. omega arith;
      })
  split filled.same = clear along.same refl
  split (filled.let_ {x = x} {b = b} {b' = b'} p q) =
      split_more (LetIn x b) (LetIn x b') (split p) (λ s e. clear (along.let_ s q) (omega arith))
      (record { whole = λ z z' h. filled.let_ h q; fewer = λ z z' h n. omega arith })
  split (filled.handle {x = x} {b = b} {b' = b'} p q) =
      split_more (HandleIn x b) (HandleIn x b') (split p) (λ s e. clear (along.handle s q) (omega arith))
      (record { whole = λ z z' h. filled.handle h q; fewer = λ z z' h n. omega arith })
  split (filled.if_ p q) = clear (along.if_ p q) refl
  split (filled.for_ p) = clear (along.for_ p) refl
  split (filled.mask p) = clear (along.mask p) refl
  split (filled.poll p) = clear (along.poll p) refl
  split (filled.oncancel {f = f} {f' = f'} p q) =
      split_more (OnCancelIn f) (OnCancelIn f') (split p) (λ s e. clear (along.oncancel s q) (omega arith))
      (record { whole = λ z z' h. filled.oncancel h q; fewer = λ z z' h n. omega arith })
  split (filled.bracket {x = x} {u = u} {u' = u'} {r = r} {r' = r'} p q s) =
      split_more (AcquireIn x u r) (AcquireIn x u' r') (split p) (λ v e. clear (along.bracket v q s) (omega arith))
      (record { whole = λ z z' h. filled.bracket h q s; fewer = λ z z' h n. omega arith })
  split (filled.bracket_case {x = x} {y = y} {z = z} {u = u} {u' = u'} {s = s} {s' = s'} {e = e} {e' = e'} {d = d} {d' = d'} p q r v w) =
      split_more (AcquireCaseIn x u y s z e d) (AcquireCaseIn x u' y s' z e' d') (split p) (λ k n. clear (along.bracket_case k q r v w) (omega arith))
      (record { whole = λ a a' h. filled.bracket_case h q r v w; fewer = λ a a' h n. omega arith })
  split (filled.start p q) = clear (along.start p q) refl
  split (filled.join p q r) = clear (along.join p q r) refl
  split (filled.try_take p q) = clear (along.try_take p q) refl
  split (filled.masked {r = r} p) =
      split_more (MaskedIn r) (MaskedIn r) (split p) (λ s e. clear (along.masked s) e)
      (record { whole = λ z z' h. filled.masked h; fewer = λ z z' h n. n })
  split (filled.opened {r = r} p) =
      split_more (OpenedIn r) (OpenedIn r) (split p) (λ s e. clear (along.opened s) e)
      (record { whole = λ z z' h. filled.opened h; fewer = λ z z' h n. n })
  split (filled.in_use {k = k} {r = r} {r' = r'} p q) =
      split_more (InUseIn k r) (InUseIn k r') (split p) (λ s e. clear (along.in_use s q) (omega arith))
      (record { whole = λ z z' h. filled.in_use h q; fewer = λ z z' h n. omega arith })
  split (filled.in_use_case {k = k} {y = y} {z = z} {s = s} {s' = s'} {e = e} {e' = e'} {d = d} {d' = d'} p q r w) =
      split_more (InUseCaseIn k y s z e d) (InUseCaseIn k y s' z e' d') (split p) (λ v n. clear (along.in_use_case v q r w) (omega arith))
      (record { whole = λ a a' h. filled.in_use_case h q r w; fewer = λ a a' h n. omega arith })
  split (filled.in_release {k = k} {w = v} p) =
      split_more (InReleaseIn k v) (InReleaseIn k v) (split p) (λ s e. clear (along.in_release s) e)
      (record { whole = λ z z' h. filled.in_release h; fewer = λ z z' h n. n })
  split (filled.loop p) = clear (along.loop p) refl
