-- Alike terms make alike steps of the table.
use Rattle.std.proofs.Common.{◌≡◌, refl, ℕ, ◌+◌, Bool, arith}
use Rattle.fx_term.specs.declared.outcome.Outcome.{Outcome}
use Rattle.fx_term.specs.declared.outcome.Outcome.TheVariants as outcome
use Rattle.fx_term.specs.Term.{Term}
use Rattle.fx_term.specs.declared.name_kind.NameKind.TheVariants as kind
use Rattle.fx_model.specs.Path.{Context, LetIn, HandleIn, OnCancelIn, AcquireIn, AcquireCaseIn, MaskedIn, OpenedIn, InUseIn, InUseCaseIn, InReleaseIn, plug}
use Rattle.fx_model.specs.Row.{Counts, Label, Row, part_after}
use Rattle.fx_model.specs.Row as row
use Rattle.fx_model.proofs.Paths.{row_plug}
use Rattle.fx_term.proofs.NameUses.{IsUsedAs, put_used}
use Rattle.fx_model.proofs.Alike.{IsSameRegion, Alike, AreNumbersOf, value, fiber, region, AreArgs, number, put_alike, put_named_alike}
use Rattle.fx_model.proofs.Alike as alike

-- the same counts but for the masks that were entered
abbrev pub with_masks : ℕ → Counts → Counts
with_masks m c = record c { masks = m }

module _ (low low' : ℕ) where
  -- the other fiber makes the same step, to an alike term
  pub record Follows (closed : Bool) (m : ℕ) (c : Counts) (t : Term) (l : Label) (d : Counts) (u : Term) : Type 0 where
    pub masks : ℕ
    pub term : Term
    pub row : Row closed (with_masks m c) t l (with_masks masks d) term
    pub is_alike : Alike low low' u term
    pub entered : IsSameRegion low low' d.masks masks

  branch_alike : (o : Outcome) (x e : ℕ) {a a' b b' d d' : Term} → Alike low low' a a' → IsUsedAs kind.Value x a → Alike low low' b b' → IsUsedAs kind.Value e b
      → Alike low low' d d' → Alike low low' (part_after o x a e b d) (part_after o x a' e b' d')
  branch_alike (outcome.Succeeded n) x e p u q v r = put_alike low low' value x p u
  branch_alike (outcome.Errored n) x e p u q v r = put_alike low low' value e q v
  branch_alike outcome.Canceled x e p u q v r = r

  -- the contexts are the same but for the numbers of regions, and so are their parts
  record AreAlikeInside (f : Context) (a t' : Term) : Type 0 where
    pub context : Context
    pub part : Term
    pub is : t' ≡ plug context part
    pub parts : Alike low low' a part
    pub wholes : {b b' : Term} → Alike low low' b b' → Alike low low' (plug f b) (plug context b')

  alike_inside : (f : Context) {a t' : Term} → Alike low low' (plug f a) t' → AreAlikeInside f a t'
  alike_inside (LetIn x b) (alike.let_ {b' = b'} p u q) = record { context = LetIn x b'; part = _; is = refl; parts = p; wholes = λ h. alike.let_ h u q }
  alike_inside (HandleIn x b) (alike.handle {b' = b'} p u q) =
      record { context = HandleIn x b'; part = _; is = refl; parts = p; wholes = λ h. alike.handle h u q }
  alike_inside (OnCancelIn f) (alike.oncancel {f' = f'} p q) =
      record { context = OnCancelIn f'; part = _; is = refl; parts = p; wholes = λ h. alike.oncancel h q }
  alike_inside (AcquireIn x u r) (alike.bracket {u' = u'} {r' = r'} p i q j v) =
      record { context = AcquireIn x u' r'; part = _; is = refl; parts = p; wholes = λ h. alike.bracket h i q j v }
  alike_inside (AcquireCaseIn x u y s z e d) (alike.bracket_case {u' = u'} {s' = s'} {e' = e'} {d' = d'} p i q j j' r l l' v m w) =
      record { context = AcquireCaseIn x u' y s' z e' d'; part = _; is = refl; parts = p; wholes = λ h. alike.bracket_case h i q j j' r l l' v m w }
  alike_inside (MaskedIn r) (alike.masked {r' = r'} e p) = record { context = MaskedIn r'; part = _; is = refl; parts = p; wholes = λ h. alike.masked e h }
  alike_inside (OpenedIn r) (alike.opened {r' = r'} e p) = record { context = OpenedIn r'; part = _; is = refl; parts = p; wholes = λ h. alike.opened e h }
  alike_inside (InUseIn k r) (alike.using_ {r' = r'} p q) = record { context = InUseIn k r'; part = _; is = refl; parts = p; wholes = λ h. alike.using_ h q }
  alike_inside (InUseCaseIn k y s z e d) (alike.using_case {s' = s'} {e' = e'} {d' = d'} p i q j r w) =
      record { context = InUseCaseIn k y s' z e' d'; part = _; is = refl; parts = p; wholes = λ h. alike.using_case h i q j r w }
  alike_inside (InReleaseIn k v) (alike.releasing p) = record { context = InReleaseIn k v; part = _; is = refl; parts = p; wholes = λ h. alike.releasing h }

  module _ {k : Bool} {m : ℕ} where
    follows : {c d : Counts} {l : Label} {t u u' : Term} {m' : ℕ} → IsSameRegion low low' d.masks m' → Row k (with_masks m c) t l (with_masks m' d) u'
        → Alike low low' u u' → Follows k m c t l d u
    follows {u' = u'} {m' = m'} s r a = record { masks = m'; term = u'; row = r; is_alike = a; entered = s }

    -- a step that enters no mask
    stays : {c d : Counts} {l : Label} {t u u' : Term} → Row k (with_masks m c) t l (with_masks m d) u' → Alike low low' u u' → IsSameRegion low low' d.masks m
        → Follows k m c t l d u
    stays r a s = follows s r a

    pub row_alike : {c d : Counts} {l : Label} {t u t' : Term} → Row k c t l d u → Alike low low' t t' → IsSameRegion low low' c.masks m
        → Follows k m c t' l d u
    row_alike row.pure (alike.pure (number value)) s = stays row.pure alike.finished s
    row_alike row.raise (alike.raise (number value)) s = stays row.raise alike.finished s
    row_alike row.cede alike.cede s = stays row.cede alike.finished s
    row_alike (row.self_request h) alike.canceled s = stays (row.self_request h) alike.finished s
    row_alike row.if_not_zero (alike.if_ (number value) p q) s = stays row.if_not_zero p s
    row_alike row.if_zero (alike.if_ (number value) p q) s = stays row.if_zero q s
    row_alike row.for_begins (alike.for_ u p) s = stays row.for_begins (alike.loop u p) s
    row_alike (row.loop_turns {i = i} h) (alike.loop u p) s = stays (row.loop_turns h) (alike.let_ (put_alike low low' value i p u) tt (alike.loop u p)) s
    row_alike (row.loop_ends h) (alike.loop u p) s = stays (row.loop_ends h) alike.finished s
    row_alike (row.let_value {x = x} {n = n}) (alike.let_ alike.finished u q) s = stays row.let_value (put_named_alike low low' x n q u) s
    row_alike row.let_error (alike.let_ alike.finished u q) s = stays row.let_error alike.finished s
    row_alike row.handle_value (alike.handle alike.finished u q) s = stays row.handle_value alike.finished s
    row_alike (row.handle_error {x = x} {e = e}) (alike.handle alike.finished u q) s = stays row.handle_error (put_named_alike low low' x e q u) s
    row_alike (row.mask {p = x}) (alike.mask u p) s = follows {m' = m + 1} (omega arith) row.mask (alike.masked s (put_alike low low' (region s) x p u))
    row_alike row.poll (alike.poll (number (region r)) p) s = stays row.poll (alike.opened r p) s
    row_alike row.masked_ends (alike.masked r alike.finished) s = stays row.masked_ends alike.finished s
    row_alike row.opened_ends (alike.opened r alike.finished) s = stays row.opened_ends alike.finished s
    row_alike row.oncancel_ends (alike.oncancel alike.finished q) s = stays row.oncancel_ends alike.finished s
    row_alike (row.acquired {x = x} {n = n}) (alike.bracket alike.finished i q j r) s =
        stays row.acquired (alike.using_ (put_named_alike low low' x n q i) (put_named_alike low low' x n r j)) s
    row_alike row.acquire_fails (alike.bracket alike.finished i q j r) s = stays row.acquire_fails alike.finished s
    row_alike (row.acquired_case {x = x} {n = n}) (alike.bracket_case {y = y} {z = z} {s = b} {e = c} alike.finished i q j j' r l l' v m w) s =
        stays row.acquired_case (alike.using_case (put_alike low low' value x q i) (put_used y kind.Value x n b j') (put_alike low low' value x r j)
        (put_used z kind.Value x n c l') (put_alike low low' value x v l) (put_alike low low' value x w m)) s
    row_alike row.acquire_case_fails (alike.bracket_case alike.finished i q j j' r l l' v m w) s = stays row.acquire_case_fails alike.finished s
    row_alike (row.use_succeeded {y = y}) (alike.using_case alike.finished i q j r w) s =
        stays row.use_succeeded (alike.releasing (put_alike low low' value y q i)) s
    row_alike (row.use_erred {z = z}) (alike.using_case alike.finished i q j r w) s = stays row.use_erred (alike.releasing (put_alike low low' value z r j)) s
    row_alike row.used (alike.using_ alike.finished q) s = stays row.used (alike.releasing q) s
    row_alike row.released (alike.releasing alike.finished) s = stays row.released alike.finished s
    row_alike (row.start {h = h}) (alike.start u p) s = stays row.start (put_alike low low' fiber h p u) s
    row_alike (row.joined {x = x} {e = e} {o = o}) (alike.join (number fiber) u p v q r) s = stays row.joined (branch_alike o x e p u q v r) s
    row_alike row.request (alike.cancel (number fiber)) s = stays row.request alike.await s
    row_alike row.awaited alike.await s = stays row.awaited alike.finished s
    row_alike row.first_left (alike.first (number fiber) (number fiber)) s = stays row.first_left alike.finished s
    row_alike row.first_right (alike.first (number fiber) (number fiber)) s = stays row.first_right alike.finished s
    row_alike row.offered (alike.offer (number value)) s = stays row.offered alike.finished s
    row_alike row.tried_offer (alike.try_offer (number value)) s = stays row.tried_offer alike.finished s
    row_alike row.refused (alike.try_offer (number value)) s = stays row.refused alike.finished s
    row_alike row.taken alike.take s = stays row.taken alike.finished s
    row_alike (row.tried_take {n = n} {x = x}) (alike.try_take u p q) s = stays row.tried_take (put_alike low low' value x p u) s
    row_alike row.found_empty (alike.try_take u p q) s = stays row.found_empty q s
    row_alike (row.inside f {t' = u} e g r) p s =
        let i = alike_inside f (rw e at p) in
        let w = row_alike r i.parts s in
        rw (i.is, g) (follows w.entered (row_plug i.context w.row) (i.wholes w.is_alike))
