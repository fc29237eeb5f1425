-- Fibers whose terms have no regions but those that they entered: these show the same, however many they entered before.
use Rattle.std.proofs.Common.{◌≡◌, ℕ, ◌+◌, ◌≤◌, Bool, true, Option, List, [], ◌∷◌, refl, sym, ◌∙◌, ap, subst, arith}
use Rattle.std.specs.Prelude.{◌↔◌}
use Rattle.fx_term.specs.Term.{Term}
use Rattle.fx_model.specs.Path.{Context}
use Rattle.fx_model.specs.Path.{plug, CleanupTerm}
use Rattle.fx_model.specs.Row.{Counts, Label, Starts, Row, one_more_mask}
use Rattle.fx_model.specs.Row as row
use Rattle.fx_model.specs.Step.{Progress, Runs, Unwinds, CleansUp, HasEnded, Step}
use Rattle.fx_model.specs.Step as step
use Rattle.fx_model.specs.Run.{Leads, shown}
use Rattle.fx_model.proofs.AlikeRows.{with_masks}
use Rattle.fx_model.proofs.Paths.{same_context, same_part}
use Rattle.fx_laws.specs.Everywhere.{placed, Place, InTerm, InCleanup, come_to}
use Rattle.fx_script_laws.specs.Interchange.{CanComeTo}
use Rattle.fx_script_laws.proofs.Renumbered.{Shift, AreRegionsOf, kept, moved, regions_below, IsRenumbered, renumbered_by, same_term}
use Rattle.fx_script_laws.proofs.Renumbered as renumbered
use Rattle.fx_script_laws.proofs.RenumberedRows.{renumbered_inside}
use Rattle.fx_script_laws.proofs.RenumberedRuns.{AreCleanupsToo, none, finalizer, release, IsProgressToo, runs, unwinds, cleans, ended, IsStepToo, step_too}
use Rattle.fx_script_laws.proofs.RenumberedRuns.{can_too, ended_too}
use Rattle.fx_script_laws.proofs.ReportsKept.{HoldsOfStarts, IsKeptByRuns}
use Rattle.fx_script_laws.proofs.AtClosedPlaces.{AreEndsOfStops}
use Rattle.fx_script_laws.proofs.Followed.{step_more}

-- each region in it is one of those that the fiber entered
abbrev pub HasOwnRegions : Counts → Progress → Type 0
HasOwnRegions c p = IsProgressToo (regions_below c.masks) p p

module _ (m o : Shift) (by : (r r' : ℕ) → AreRegionsOf m r r' → AreRegionsOf o r r') where
  cleanups_by : {xs ys : List CleanupTerm} → AreCleanupsToo m xs ys → AreCleanupsToo o xs ys
  cleanups_by none = none
  cleanups_by (finalizer p q) = finalizer (renumbered_by m o by p) (cleanups_by q)
  cleanups_by (release p q) = release (renumbered_by m o by p) (cleanups_by q)

  pub progress_by : {p q : Progress} → IsProgressToo m p q → IsProgressToo o p q
  progress_by (runs p) = runs (renumbered_by m o by p)
  progress_by (unwinds q) = unwinds (cleanups_by q)
  progress_by (cleans p q) = cleans (renumbered_by m o by p) (cleanups_by q)
  progress_by ended = ended

module _ (n : ℕ) where
  same_cleanups : {xs ys : List CleanupTerm} → AreCleanupsToo (regions_below n) xs ys → xs ≡ ys
  same_cleanups none = refl
  same_cleanups (finalizer p q) = let e = same_term n p in let f = same_cleanups q in cc
  same_cleanups (release p q) = let e = same_term n p in let f = same_cleanups q in cc

  same_progress : {p q : Progress} → IsProgressToo (regions_below n) p q → p ≡ q
  same_progress (runs p) = ap Runs (same_term n p)
  same_progress (unwinds q) = ap Unwinds (same_cleanups q)
  same_progress (cleans p q) = let e = same_term n p in let f = same_cleanups q in cc
  same_progress ended = refl

  -- those below a number are below a greater one, and go with each other by any shift of what is not below it
  wider : (k : ℕ) → n ≤ k → (r r' : ℕ) → AreRegionsOf (regions_below n) r r' → AreRegionsOf (regions_below k) r r'
  wider k h r r' (kept l) = kept (omega (arith, h, l))
  wider k h r r' (moved others a b l l' e) = absurd cc

  pub shifted : (m : Shift) → m.base ≡ n → (r r' : ℕ) → AreRegionsOf (regions_below n) r r' → AreRegionsOf m r r'
  shifted m e r r' (kept l) = kept (omega (arith, e, l))
  shifted m e r r' (moved others a b l l' f) = absurd cc

keeps_own : (c d : Counts) (p q : Progress) (l : Label) → HasOwnRegions c p → Step c p l d q → HasOwnRegions d q
keeps_own c d p q l h s =
    let n = c.masks in
    let one = step_too (regions_below (n + 1)) n s (progress_by (regions_below n) (regions_below (n + 1)) (wider n (n + 1) (omega arith)) h)
    (λ e. kept (omega arith)) in
    let more : c.masks ≤ d.masks = one.more in
    let two = step_too (regions_below d.masks) n s (progress_by (regions_below n) (regions_below d.masks) (wider n d.masks more) h)
    (λ e. kept (omega (arith, e))) in
    subst (λ (x : Progress). IsProgressToo (regions_below d.masks) q x) (sym (same_progress d.masks two.same)) two.same

row_starts : {m : Shift} {k : Bool} {c d : Counts} {l : Label} {t t' u : Term} → Row k c t l d u → IsRenumbered m t t' → HoldsOfStarts HasOwnRegions l
row_starts row.start (renumbered.start q u p) = runs q
row_starts (row.inside f e g r) p = row_starts r (renumbered_inside _ f (rw e at p)).parts
row_starts _ p = tt

step_starts : {m : Shift} {c d : Counts} {p p' q : Progress} {l : Label} → IsProgressToo m p p' → Step c p l d q → HoldsOfStarts HasOwnRegions l
step_starts (runs h) (step.row free r) = row_starts r h
step_starts (cleans h g) (step.cleans r) = row_starts r h
step_starts h (step.cancelled must) = tt
step_starts h (step.seen free opened) = tt
step_starts h (step.succeeds free) = tt
step_starts h (step.errs free) = tt
step_starts h step.finalizer = tt
step_starts h step.release = tt
step_starts h step.finalizer_ends = tt
step_starts h step.release_ends = tt
step_starts h step.unwound = tt

starts_own : (c d : Counts) (p q : Progress) (l : Label) → HasOwnRegions c p → Step c p l d q → HoldsOfStarts HasOwnRegions l
starts_own c d p q l h s = step_starts h s

pub own_kept : IsKeptByRuns HasOwnRegions
own_kept = record { steps = keeps_own; starts = starts_own }

-- the next regions that two fibers enter go with each other
pub record AreNext (m : Shift) (n o : ℕ) : Type 0 where
  pub others : m.others ≡ true
  pub above : m.base ≤ n
  pub above' : m.base ≤ o
  pub from : m.low ≤ n
  pub from' : m.low' ≤ o
  pub shift : n + m.low' ≡ o + m.low

module _ {Ends : Counts → Progress → Type 0} (ends : AreEndsOfStops Ends) where
  module _ (m : Shift) where
    pub next_too : {o : ℕ} {c d : Counts} {p q : Progress} {l : Label} → AreNext m c.masks o → (s : IsStepToo m o c p l d q) → AreNext m d.masks s.masks
    next_too n s =
        let a = n.above in
        let b = n.above' in
        let x = n.from in
        let y = n.from' in
        let e = n.shift in
        let f = s.more in
        let g = s.entered in
        record { others = n.others; above = omega arith; above' = omega arith; from = omega arith; from' = omega arith; shift = omega arith }

    pub comes_with : (o : ℕ) (ls : List Label) (c d : Counts) (p p' q : Progress) → AreNext m c.masks o → IsProgressToo m p p' → Leads c p ls d q → Ends d q
        → CanComeTo Ends (with_masks o c) p' (shown ls)
    comes_with o [] c d p p' q next same h e =
        record {
          labels = [];
          counts = with_masks o c;
          progress = p';
          run = (refl, refl);
          shown_is = refl;
          ends = ends.kept c (with_masks o c) p p' (λ x f. can_too m x f o c same) (ended_too m same) (rw (h.0, h.1) at e);
        }
    comes_with o (l ∷ ls) c d p p' q next same h e =
        let s = step_too m o h.2 same (λ f. moved next.others next.above next.above' next.from next.from' next.shift) in
        step_more ls s.step (comes_with s.masks ls h.0 d h.1 s.progress q (next_too next s) s.same h.3 e)

  -- with one more region entered before, such a fiber comes to the same
  pub one_more_entered : (c : Counts) (p : Progress) → HasOwnRegions c p → (ls : List Label) → CanComeTo Ends (one_more_mask c) p ls ↔ CanComeTo Ends c p ls
  one_more_entered c p h ls =
      let n = c.masks in
      let less : Shift = record { base = n; others = true; low = n + 1; low' = n } in
      let more : Shift = record { base = n; others = true; low = n; low' = n + 1 } in (
        λ k. rw (sym k.shown_is)
            (comes_with less n k.labels (one_more_mask c) k.counts p p k.progress
            (record { others = refl; above = omega arith; above' = omega arith; from = omega arith; from' = omega arith; shift = omega arith })
            (progress_by (regions_below n) less (shifted n less refl) h) k.run k.ends),
        λ k. rw (sym k.shown_is)
            (comes_with more (n + 1) k.labels c k.counts p p k.progress
            (record { others = refl; above = omega arith; above' = omega arith; from = omega arith; from' = omega arith; shift = omega arith })
            (progress_by (regions_below n) more (shifted n more refl) h) k.run k.ends),
      )

-- a part of what goes with itself, and another part in its place
module _ {m : Shift} where
  self_inside : (f : Context) (a a' : Term) → IsRenumbered m (plug f a) (plug f a')
      → IsRenumbered m a a' × ((b : Term) → IsRenumbered m b b → IsRenumbered m (plug f b) (plug f b))
  self_inside f a a' h =
      let i = renumbered_inside m f h in
      let g : f ≡ i.context = same_context f i.context a' i.part i.is in
      let at : plug f a' ≡ plug f i.part = i.is ∙ ap (λ (x : Context). plug x i.part) (sym g) in (
        subst (λ (x : Term). IsRenumbered m a x) (sym (same_part f a' i.part at)) i.parts,
        λ b k. subst (λ (x : Context). IsRenumbered m (plug f b) (plug x b)) (sym g) (i.wholes k),
      )

  placed_inside : (fs : List Context) (t t' : Term) → IsRenumbered m (placed fs t) (placed fs t')
      → IsRenumbered m t t' × ((b : Term) → IsRenumbered m b b → IsRenumbered m (placed fs b) (placed fs b))
  placed_inside [] t t' h = (h, λ b k. k)
  placed_inside (f ∷ fs) t t' h =
      let i = self_inside f (placed fs t) (placed fs t') h in
      let j = placed_inside fs t t' i.0 in
      (j.0, λ b k. i.1 (placed fs b) (j.1 b k))

  run_inside : {x y : Term} → IsProgressToo m (Runs x) (Runs y) → IsRenumbered m x y
  run_inside (runs h) = h

  clean_inside : {j k : Option ℕ} {x y : Term} {xs ys : List CleanupTerm} → IsProgressToo m (CleansUp j x xs) (CleansUp k y ys)
      → IsRenumbered m x y × AreCleanupsToo m xs ys
  clean_inside (cleans h q) = (h, q)

  pub there_inside : (place : Place) (t : Term) → IsProgressToo m (come_to place t) (come_to place t)
      → IsRenumbered m t t × ((b : Term) → IsRenumbered m b b → IsProgressToo m (come_to place b) (come_to place b))
  there_inside (InTerm fs) t h = let i = placed_inside fs t t (run_inside h) in (i.0, λ b k. runs (i.1 b k))
  there_inside (InCleanup k rest fs) t h =
      let g = clean_inside h in
      let i = placed_inside fs t t g.0 in
      (i.0, λ b z. cleans (i.1 b z) g.1)

-- of a fiber that comes to a term, where another term has no other regions
pub own_with : (place : Place) (c : Counts) (t u : Term) → ((m : Shift) → IsRenumbered m t t → IsRenumbered m u u) → HasOwnRegions c (come_to place t)
    → HasOwnRegions c (come_to place u)
own_with place c t u by h = let i = there_inside place t h in i.1 u (by (regions_below c.masks) i.0)

-- of a fiber that comes to a term, where another one comes to another term, and has no regions but these either
pub own_there : (place place' : Place) (c : Counts) (t u : Term) → HasOwnRegions c (come_to place t) → HasOwnRegions c (come_to place' u)
    → HasOwnRegions c (come_to place u)
own_there place place' c t u h k = let i = there_inside place t h in let j = there_inside place' u k in i.1 u j.0
