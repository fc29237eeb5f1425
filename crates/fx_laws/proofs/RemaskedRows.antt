-- Terms that are the same but for the numbers of their regions make the same rows.
use Rattle.std.proofs.Common.{◌≡◌, ℕ, ◌+◌, Bool, refl, sym, ap, subst}
use Rattle.fx_term.specs.declared.done.Done.{Done}
use Rattle.fx_term.specs.declared.outcome.Outcome.{Outcome}
use Rattle.fx_term.specs.declared.outcome.Outcome.TheVariants as outcome
use Rattle.fx_term.specs.Term.{Term, Finished}
use Rattle.fx_model.specs.Path.{Context, LetIn, HandleIn, OnCancelIn, AcquireIn, AcquireCaseIn, MaskedIn, OpenedIn, InUseIn, InUseCaseIn, InReleaseIn, plug}
use Rattle.fx_model.specs.Row.{Counts, Label, Row, part_after}
use Rattle.fx_model.specs.Row as row
use Rattle.fx_model.proofs.Paths.{row_plug}
use Rattle.fx_model.proofs.AlikeRows.{with_masks}
use Rattle.fx_laws.proofs.Views.{View}
use Rattle.fx_laws.proofs.Inside.{RowIsFollowed}
use Rattle.fx_laws.proofs.Remasked.{IsRemasked, number, put_same, put_polls, put_named_same}
use Rattle.fx_laws.proofs.Remasked as remasked

-- the same row of a fiber that has entered another number of regions
record IsRowToo (k : Bool) (m : ℕ) (c : Counts) (t' : Term) (l : Label) (d : Counts) (u : Term) : Type 0 where
  masks : ℕ
  term : Term
  row : Row k (with_masks m c) t' l (with_masks masks d) term
  same : IsRemasked u term

branch_remasked : (o : Outcome) (x e : ℕ) {a a' b b' d d' : Term} → IsRemasked a a' → IsRemasked b b' → IsRemasked d d'
    → IsRemasked (part_after o x a e b d) (part_after o x a' e b' d')
branch_remasked (outcome.Succeeded n) x e p q r = put_same x n p
branch_remasked (outcome.Errored n) x e p q r = put_same e n q
branch_remasked outcome.Canceled x e p q r = r

-- the contexts are the same but for the numbers of regions, and so are their parts
record AreSameInside (f : Context) (a t' : Term) : Type 0 where
  context : Context
  part : Term
  is : t' ≡ plug context part
  parts : IsRemasked a part
  wholes : {b b' : Term} → IsRemasked b b' → IsRemasked (plug f b) (plug context b')

same_inside : (f : Context) {a t' : Term} → IsRemasked (plug f a) t' → AreSameInside f a t'
same_inside (LetIn x b) (remasked.let_ {b' = b'} p q) = record { context = LetIn x b'; part = _; is = refl; parts = p; wholes = λ h. remasked.let_ h q }
same_inside (HandleIn x b) (remasked.handle {b' = b'} p q) =
    record { context = HandleIn x b'; part = _; is = refl; parts = p; wholes = λ h. remasked.handle h q }
same_inside (OnCancelIn f) (remasked.oncancel {f' = f'} p q) =
    record { context = OnCancelIn f'; part = _; is = refl; parts = p; wholes = λ h. remasked.oncancel h q }
same_inside (AcquireIn x u r) (remasked.bracket {u' = u'} {r' = r'} p q v) =
    record { context = AcquireIn x u' r'; part = _; is = refl; parts = p; wholes = λ h. remasked.bracket h q v }
same_inside (AcquireCaseIn x u y s z e d) (remasked.bracket_case {u' = u'} {s' = s'} {e' = e'} {d' = d'} p q r v w) =
    record { context = AcquireCaseIn x u' y s' z e' d'; part = _; is = refl; parts = p; wholes = λ h. remasked.bracket_case h q r v w }
same_inside (MaskedIn r) (remasked.masked {r' = r'} p) = record { context = MaskedIn r'; part = _; is = refl; parts = p; wholes = λ h. remasked.masked h }
same_inside (OpenedIn r) (remasked.opened {r' = r'} p) = record { context = OpenedIn r'; part = _; is = refl; parts = p; wholes = λ h. remasked.opened h }
same_inside (InUseIn k r) (remasked.using_ {r' = r'} p q) =
    record { context = InUseIn k r'; part = _; is = refl; parts = p; wholes = λ h. remasked.using_ h q }
same_inside (InUseCaseIn k y s z e d) (remasked.using_case {s' = s'} {e' = e'} {d' = d'} p q r w) =
    record { context = InUseCaseIn k y s' z e' d'; part = _; is = refl; parts = p; wholes = λ h. remasked.using_case h q r w }
same_inside (InReleaseIn k v) (remasked.releasing p) = record { context = InReleaseIn k v; part = _; is = refl; parts = p; wholes = λ h. remasked.releasing h }

module _ {k : Bool} {m : ℕ} where
  -- a row that enters no region
  so : {c d : Counts} {l : Label} {t u u' : Term} → Row k (with_masks m c) t l (with_masks m d) u' → IsRemasked u u' → IsRowToo k m c t l d u
  so {u' = u'} r s = record { masks = m; term = u'; row = r; same = s }

  row_remasked : {c d : Counts} {l : Label} {t u t' : Term} → Row k c t l d u → IsRemasked t t' → IsRowToo k m c t' l d u
  row_remasked row.pure remasked.pure = so row.pure remasked.finished
  row_remasked row.raise remasked.raise = so row.raise remasked.finished
  row_remasked row.cede remasked.cede = so row.cede remasked.finished
  row_remasked (row.self_request h) remasked.canceled = so (row.self_request h) remasked.finished
  row_remasked row.if_not_zero (remasked.if_ p q) = so row.if_not_zero p
  row_remasked row.if_zero (remasked.if_ p q) = so row.if_zero q
  row_remasked row.for_begins (remasked.for_ p) = so row.for_begins (remasked.loop p)
  row_remasked (row.loop_turns {i = i} {k = j} h) (remasked.loop p) = so (row.loop_turns h) (remasked.let_ (put_same i j p) (remasked.loop p))
  row_remasked (row.loop_ends h) (remasked.loop p) = so (row.loop_ends h) remasked.finished
  row_remasked (row.let_value {x = x} {n = n}) (remasked.let_ remasked.finished q) = so row.let_value (put_named_same x n q)
  row_remasked row.let_error (remasked.let_ remasked.finished q) = so row.let_error remasked.finished
  row_remasked row.handle_value (remasked.handle remasked.finished q) = so row.handle_value remasked.finished
  row_remasked (row.handle_error {x = x} {e = e}) (remasked.handle remasked.finished q) = so row.handle_error (put_named_same x e q)
  row_remasked {c = c} (row.mask {p = x}) (remasked.mask u p) =
      record { masks = m + 1; term = _; row = row.mask; same = remasked.masked (put_polls x c.masks m p u) }
  row_remasked row.poll (remasked.poll number p) = so row.poll (remasked.opened p)
  row_remasked row.masked_ends (remasked.masked remasked.finished) = so row.masked_ends remasked.finished
  row_remasked row.opened_ends (remasked.opened remasked.finished) = so row.opened_ends remasked.finished
  row_remasked row.oncancel_ends (remasked.oncancel remasked.finished q) = so row.oncancel_ends remasked.finished
  row_remasked (row.acquired {x = x} {n = n}) (remasked.bracket remasked.finished q r) =
      so row.acquired (remasked.using_ (put_named_same x n q) (put_named_same x n r))
  row_remasked row.acquire_fails (remasked.bracket remasked.finished q r) = so row.acquire_fails remasked.finished
  row_remasked (row.acquired_case {x = x} {n = n}) (remasked.bracket_case remasked.finished q r v w) =
      so row.acquired_case (remasked.using_case (put_same x n q) (put_same x n r) (put_same x n v) (put_same x n w))
  row_remasked row.acquire_case_fails (remasked.bracket_case remasked.finished q r v w) = so row.acquire_case_fails remasked.finished
  row_remasked row.used (remasked.using_ remasked.finished q) = so row.used (remasked.releasing q)
  row_remasked (row.use_succeeded {y = y} {n = n}) (remasked.using_case remasked.finished q r w) = so row.use_succeeded (remasked.releasing (put_same y n q))
  row_remasked (row.use_erred {z = z} {i = i}) (remasked.using_case remasked.finished q r w) = so row.use_erred (remasked.releasing (put_same z i r))
  row_remasked row.released (remasked.releasing remasked.finished) = so row.released remasked.finished
  row_remasked {c = c} (row.start {h = h}) (remasked.start p) = so row.start (put_same h c.next p)
  row_remasked (row.joined {x = x} {e = e} {o = o}) (remasked.join p q r) = so row.joined (branch_remasked o x e p q r)
  row_remasked row.request remasked.cancel = so row.request remasked.await
  row_remasked row.awaited remasked.await = so row.awaited remasked.finished
  row_remasked row.first_left remasked.first = so row.first_left remasked.finished
  row_remasked row.first_right remasked.first = so row.first_right remasked.finished
  row_remasked row.offered remasked.offer = so row.offered remasked.finished
  row_remasked row.tried_offer remasked.try_offer = so row.tried_offer remasked.finished
  row_remasked row.refused remasked.try_offer = so row.refused remasked.finished
  row_remasked row.taken remasked.take = so row.taken remasked.finished
  row_remasked (row.tried_take {n = n} {x = x}) (remasked.try_take p q) = so row.tried_take (put_same x n p)
  row_remasked row.found_empty (remasked.try_take p q) = so row.found_empty q
  row_remasked (row.inside f {t' = u} e g r) p =
      let i = same_inside f (rw e at p) in
      let w = row_remasked r i.parts in
      rw (i.is, g) (record { masks = w.masks; term = plug i.context w.term; row = row_plug i.context w.row; same = i.wholes w.same })

-- the counts are the same but for the regions
pub record HaveEnteredOthers (c c' : Counts) : Type 0 where
  pub is : c' ≡ with_masks c'.masks c

pub others_back : {c c' : Counts} → HaveEnteredOthers c c' → HaveEnteredOthers c' c
others_back {c} s = record { is = sym (ap (with_masks c.masks) s.is) }

pub remasked_result : (w : Done) (t' : Term) → IsRemasked (Finished w) t' → t' ≡ Finished w
remasked_result w t' remasked.finished = refl

pub remasked_rows : (v : View) (k : Bool) (c c' d : Counts) (l : Label) (t t' u : Term) → HaveEnteredOthers c c' → IsRemasked t t' → Row k c t l d u
    → RowIsFollowed v HaveEnteredOthers IsRemasked k c' t' l d u
remasked_rows v k c c' d l t t' u near same r =
    let f = row_remasked r same in
    record {
      label = l;
      counts = with_masks f.masks d;
      term = f.term;
      row = subst (λ (e : Counts). Row k e t' l (with_masks f.masks d) f.term) (sym near.is) f.row;
      seen_is = refl;
      near = record { is = refl };
      same = f.same;
    }
