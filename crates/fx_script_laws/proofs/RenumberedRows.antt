-- Terms that are the same but for the numbers of their regions make the same rows.
use Rattle.std.proofs.Common.{◌≡◌, refl, ℕ, ◌+◌, ◌≤◌, Bool, arith}
use Rattle.fx_term.specs.declared.outcome.Outcome.{Outcome}
use Rattle.fx_term.specs.declared.outcome.Outcome.TheVariants as outcome
use Rattle.fx_term.specs.Term.{Term}
use Rattle.fx_term.specs.declared.name_kind.NameKind.TheVariants as kind
use Rattle.fx_model.specs.Path.{Context, LetIn, HandleIn, OnCancelIn, AcquireIn, AcquireCaseIn, MaskedIn, OpenedIn, InUseIn, InUseCaseIn, InReleaseIn, plug}
use Rattle.fx_model.specs.Row.{Counts, Label, Row, part_after}
use Rattle.fx_model.specs.Row as row
use Rattle.fx_model.proofs.Paths.{row_plug}
use Rattle.fx_model.proofs.AlikeRows.{with_masks}
use Rattle.fx_term.proofs.NameUses.{IsUsedAs, put_used}
use Rattle.fx_script_laws.proofs.Renumbered.{Shift, AreRegionsOf, IsRenumbered, value, fiber, region, number, put_renumbered, put_named_renumbered}
use Rattle.fx_script_laws.proofs.Renumbered as renumbered

module _ (m : Shift) where
  -- the other fiber, which entered so many masks, makes the same row
  pub record IsRowToo (closed : Bool) (o : ℕ) (c : Counts) (t : Term) (l : Label) (d : Counts) (u : Term) : Type 0 where
    pub masks : ℕ
    pub term : Term
    pub row : Row closed (with_masks o c) t l (with_masks masks d) term
    pub same : IsRenumbered m u term
    pub more : c.masks ≤ d.masks
    pub entered : masks + c.masks ≡ o + d.masks

  branch_renumbered : (o : Outcome) (x e : ℕ) {a a' b b' d d' : Term} → IsRenumbered m a a' → IsUsedAs kind.Value x a → IsRenumbered m b b'
      → IsUsedAs kind.Value e b
      → IsRenumbered m d d' → IsRenumbered m (part_after o x a e b d) (part_after o x a' e b' d')
  branch_renumbered (outcome.Succeeded n) x e p u q v r = put_renumbered x p kind.Value n n value u
  branch_renumbered (outcome.Errored n) x e p u q v r = put_renumbered e q kind.Value n n value v
  branch_renumbered outcome.Canceled x e p u q v r = r

  -- the contexts are the same but for the numbers of regions, and so are their parts
  pub record AreRenumberedInside (f : Context) (a t' : Term) : Type 0 where
    pub context : Context
    pub part : Term
    pub is : t' ≡ plug context part
    pub parts : IsRenumbered m a part
    pub wholes : {b b' : Term} → IsRenumbered m b b' → IsRenumbered m (plug f b) (plug context b')

  pub renumbered_inside : (f : Context) {a t' : Term} → IsRenumbered m (plug f a) t' → AreRenumberedInside f a t'
  renumbered_inside (LetIn x b) (renumbered.let_ {b' = b'} p u q) =
      record { context = LetIn x b'; part = _; is = refl; parts = p; wholes = λ h. renumbered.let_ h u q }
  renumbered_inside (HandleIn x b) (renumbered.handle {b' = b'} p u q) =
      record { context = HandleIn x b'; part = _; is = refl; parts = p; wholes = λ h. renumbered.handle h u q }
  renumbered_inside (OnCancelIn f) (renumbered.oncancel {f' = f'} p q) =
      record { context = OnCancelIn f'; part = _; is = refl; parts = p; wholes = λ h. renumbered.oncancel h q }
  renumbered_inside (AcquireIn x u r) (renumbered.bracket {u' = u'} {r' = r'} p i q j v) =
      record { context = AcquireIn x u' r'; part = _; is = refl; parts = p; wholes = λ h. renumbered.bracket h i q j v }
  renumbered_inside (AcquireCaseIn x u y s z e d) (renumbered.bracket_case {u' = u'} {s' = s'} {e' = e'} {d' = d'} p i q j j' r l l' v m w) =
      record { context = AcquireCaseIn x u' y s' z e' d'; part = _; is = refl; parts = p; wholes = λ h. renumbered.bracket_case h i q j j' r l l' v m w }
  renumbered_inside (MaskedIn r) (renumbered.masked {r' = r'} e p) =
      record { context = MaskedIn r'; part = _; is = refl; parts = p; wholes = λ h. renumbered.masked e h }
  renumbered_inside (OpenedIn r) (renumbered.opened {r' = r'} e p) =
      record { context = OpenedIn r'; part = _; is = refl; parts = p; wholes = λ h. renumbered.opened e h }
  renumbered_inside (InUseIn k r) (renumbered.using_ {r' = r'} p q) =
      record { context = InUseIn k r'; part = _; is = refl; parts = p; wholes = λ h. renumbered.using_ h q }
  renumbered_inside (InUseCaseIn k y s z e d) (renumbered.using_case {s' = s'} {e' = e'} {d' = d'} p i q j r w) =
      record { context = InUseCaseIn k y s' z e' d'; part = _; is = refl; parts = p; wholes = λ h. renumbered.using_case h i q j r w }
  renumbered_inside (InReleaseIn k v) (renumbered.releasing p) =
      record { context = InReleaseIn k v; part = _; is = refl; parts = p; wholes = λ h. renumbered.releasing h }

  module _ {k : Bool} (o : ℕ) where
    -- a row that enters no mask
    so : {c d : Counts} {l : Label} {t u u' : Term} → Row k (with_masks o c) t l (with_masks o d) u' → IsRenumbered m u u' → c.masks ≡ d.masks
        → IsRowToo k o c t l d u
    so {u' = u'} r a e = record { masks = o; term = u'; row = r; same = a; more = omega (arith, e); entered = omega (arith, e) }

    pub row_renumbered : {c d : Counts} {l : Label} {t u t' : Term} → Row k c t l d u → IsRenumbered m t t'
        → (d.masks ≡ c.masks + 1 → AreRegionsOf m c.masks o) → IsRowToo k o c t' l d u
    row_renumbered row.pure (renumbered.pure (number value)) s = so row.pure renumbered.finished refl
    row_renumbered row.raise (renumbered.raise (number value)) s = so row.raise renumbered.finished refl
    row_renumbered row.cede renumbered.cede s = so row.cede renumbered.finished refl
    row_renumbered (row.self_request h) renumbered.canceled s = so (row.self_request h) renumbered.finished refl
    row_renumbered row.if_not_zero (renumbered.if_ (number value) p q) s = so row.if_not_zero p refl
    row_renumbered row.if_zero (renumbered.if_ (number value) p q) s = so row.if_zero q refl
    row_renumbered row.for_begins (renumbered.for_ u p) s = so row.for_begins (renumbered.loop u p) refl
    row_renumbered (row.loop_turns {i = i} {k = j} h) (renumbered.loop u p) s =
        so (row.loop_turns h) (renumbered.let_ (put_renumbered i p kind.Value j j value u) tt (renumbered.loop u p)) refl
    row_renumbered (row.loop_ends h) (renumbered.loop u p) s = so (row.loop_ends h) renumbered.finished refl
    row_renumbered (row.let_value {x = x} {n = n}) (renumbered.let_ renumbered.finished u q) s = so row.let_value (put_named_renumbered x n q u) refl
    row_renumbered row.let_error (renumbered.let_ renumbered.finished u q) s = so row.let_error renumbered.finished refl
    row_renumbered row.handle_value (renumbered.handle renumbered.finished u q) s = so row.handle_value renumbered.finished refl
    row_renumbered (row.handle_error {x = x} {e = e}) (renumbered.handle renumbered.finished u q) s = so row.handle_error (put_named_renumbered x e q u) refl
    row_renumbered {c = c} (row.mask {p = x}) (renumbered.mask u p) s =
        record {
          masks = o + 1;
          term = _;
          row = row.mask;
          same = renumbered.masked (s refl)
              (put_renumbered x p kind.Poll c.masks o (region (s refl)) u);
          more = omega arith;
          entered = omega arith;
        }
    row_renumbered row.poll (renumbered.poll (number (region r)) p) s = so row.poll (renumbered.opened r p) refl
    row_renumbered row.masked_ends (renumbered.masked r renumbered.finished) s = so row.masked_ends renumbered.finished refl
    row_renumbered row.opened_ends (renumbered.opened r renumbered.finished) s = so row.opened_ends renumbered.finished refl
    row_renumbered row.oncancel_ends (renumbered.oncancel renumbered.finished q) s = so row.oncancel_ends renumbered.finished refl
    row_renumbered (row.acquired {x = x} {n = n}) (renumbered.bracket renumbered.finished i q j r) s =
        so row.acquired (renumbered.using_ (put_named_renumbered x n q i) (put_named_renumbered x n r j)) refl
    row_renumbered row.acquire_fails (renumbered.bracket renumbered.finished i q j r) s = so row.acquire_fails renumbered.finished refl
    row_renumbered (row.acquired_case {x = x} {n = n}) (renumbered.bracket_case {y = y} {z = z} {s = b} {e = c} renumbered.finished i q j j' r l l' v m w) s =
        so row.acquired_case
        (renumbered.using_case (put_renumbered x q kind.Value n n value i) (put_used y kind.Value x n b j') (put_renumbered x r kind.Value n n value j)
        (put_used z kind.Value x n c l') (put_renumbered x v kind.Value n n value l) (put_renumbered x w kind.Value n n value m)) refl
    row_renumbered row.acquire_case_fails (renumbered.bracket_case renumbered.finished i q j j' r l l' v m w) s =
        so row.acquire_case_fails renumbered.finished refl
    row_renumbered (row.use_succeeded {y = y} {n = n}) (renumbered.using_case renumbered.finished i q j r w) s =
        so row.use_succeeded (renumbered.releasing (put_renumbered y q kind.Value n n value i)) refl
    row_renumbered (row.use_erred {z = z} {i = n}) (renumbered.using_case renumbered.finished i q j r w) s =
        so row.use_erred (renumbered.releasing (put_renumbered z r kind.Value n n value j)) refl
    row_renumbered row.used (renumbered.using_ renumbered.finished q) s = so row.used (renumbered.releasing q) refl
    row_renumbered row.released (renumbered.releasing renumbered.finished) s = so row.released renumbered.finished refl
    row_renumbered {c = c} (row.start {h = h}) (renumbered.start q u p) s = so row.start (put_renumbered h p kind.Fiber c.next c.next fiber u) refl
    row_renumbered (row.joined {x = x} {e = e} {o = o}) (renumbered.join (number fiber) u p v q r) s = so row.joined (branch_renumbered o x e p u q v r) refl
    row_renumbered row.request (renumbered.cancel (number fiber)) s = so row.request renumbered.await refl
    row_renumbered row.awaited renumbered.await s = so row.awaited renumbered.finished refl
    row_renumbered row.first_left (renumbered.first (number fiber) (number fiber)) s = so row.first_left renumbered.finished refl
    row_renumbered row.first_right (renumbered.first (number fiber) (number fiber)) s = so row.first_right renumbered.finished refl
    row_renumbered row.offered (renumbered.offer (number value)) s = so row.offered renumbered.finished refl
    row_renumbered row.tried_offer (renumbered.try_offer (number value)) s = so row.tried_offer renumbered.finished refl
    row_renumbered row.refused (renumbered.try_offer (number value)) s = so row.refused renumbered.finished refl
    row_renumbered row.taken renumbered.take s = so row.taken renumbered.finished refl
    row_renumbered (row.tried_take {n = n} {x = x}) (renumbered.try_take u p q) s = so row.tried_take (put_renumbered x p kind.Value n n value u) refl
    row_renumbered row.found_empty (renumbered.try_take u p q) s = so row.found_empty q refl
    row_renumbered (row.inside f {t' = u} e g r) p s =
        let i = renumbered_inside f (rw e at p) in
        let w = row_renumbered r i.parts s in
        rw (i.is, g)
        (record { masks = w.masks; term = plug i.context w.term; row = row_plug i.context w.row; same = i.wholes w.same; more = w.more; entered = w.entered })
