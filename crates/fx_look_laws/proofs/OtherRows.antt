-- Two terms with fibers in them that begin otherwise make the same rows.
use Rattle.std.proofs.Common.{◌≡◌, ℕ, ◌+◌, Bool, refl, sym, subst}
use Rattle.fx_term.specs.declared.outcome.Outcome.TheVariants as outcome
use Rattle.fx_term.specs.Term.{Term, put}
use Rattle.fx_term.specs.Term as term
use Rattle.fx_term.specs.Need.{need}
use Rattle.fx_model.specs.Path.{Context, LetIn, HandleIn, OnCancelIn, AcquireIn, AcquireCaseIn, MaskedIn, OpenedIn, InUseIn, InUseCaseIn, InReleaseIn, plug}
use Rattle.fx_model.specs.Origin.{Origin, child_origin}
use Rattle.fx_model.specs.Row.{Counts, Label, Silent, Shows, Learns, Starts, Row, numbers_taken}
use Rattle.fx_model.specs.Row as row
use Rattle.fx_model.proofs.Paths.{row_plug}
use Rattle.fx_script_laws.specs.Filled.{none_bound, and_bound}
use Rattle.fx_script_laws.proofs.Holes.{deeper, first}
use Rattle.fx_look_laws.specs.OtherFibers.{StartsOthers, BeginsOtherwise, other, within, AreLikeOrigins}
use Rattle.fx_look_laws.specs.OtherFibers as others
use Rattle.fx_look_laws.proofs.OtherTerms.{ArePutToo, others_need, put_others, put_one, put_one_named}

-- the same label, but that a fiber which is started may begin otherwise
pub data AreLikeLabels (Pair : (ℕ → Bool) → Term → Term → Type 0) : Label → Label → Type 0 where
  itself : {l : Label} → AreLikeLabels Pair l l
  starts : {f : ℕ} {b b' : Origin} → AreLikeOrigins Pair b b' → AreLikeLabels Pair (Starts f b) (Starts f b')

module _ (Pair : (ℕ → Bool) → Term → Term → Type 0) (puts : ArePutToo Pair) (needs : (v : ℕ → Bool) (t u : Term) → Pair v t u → need t ≡ need u) where
  abbrev Are : Term → Term → Type 0
  Are = StartsOthers Pair none_bound

  -- the other term makes the same row
  pub record RowIsLike (closed : Bool) (c : Counts) (u : Term) (l : Label) (d : Counts) (t' : Term) : Type 0 where
    pub label : Label
    pub term : Term
    pub row : Row closed c u label d term
    pub like : AreLikeLabels Pair l label
    pub terms : StartsOthers Pair none_bound t' term

  -- the contexts differ so, and their parts do
  record IsInside (f : Context) (a u : Term) : Type 0 where
    pub context : Context
    pub part : Term
    pub is : u ≡ plug context part
    pub parts : Are a part
    pub whole : (b b' : Term) → Are b b' → Are (plug f b) (plug context b')

  plug_same : (f : Context) (b b' : Term) → Are b b' → Are (plug f b) (plug f b')
  plug_same (LetIn x a) b b' h = others.let_ h others.same
  plug_same (HandleIn x a) b b' h = others.handle h others.same
  plug_same (OnCancelIn f) b b' h = others.oncancel h others.same
  plug_same (AcquireIn x u r) b b' h = others.bracket h others.same others.same
  plug_same (AcquireCaseIn x u y s z e d) b b' h = others.bracket_case h others.same others.same others.same others.same
  plug_same (MaskedIn r) b b' h = others.masked h
  plug_same (OpenedIn r) b b' h = others.opened h
  plug_same (InUseIn k r) b b' h = others.in_use h others.same
  plug_same (InUseCaseIn k y s z e d) b b' h = others.in_use_case h others.same others.same others.same
  plug_same (InReleaseIn k v) b b' h = others.in_release h

  inside_same : (f : Context) (a : Term) → IsInside f a (plug f a)
  inside_same f a = record { context = f; part = a; is = refl; parts = others.same; whole = plug_same f }

  inside : (f : Context) {a u : Term} → Are (plug f a) u → IsInside f a u
  inside (LetIn x b) {a} others.same = inside_same (LetIn x b) a
  inside (LetIn x b) (others.let_ {b' = b'} p q) =
      record { context = LetIn x b'; part = _; is = refl; parts = p; whole = λ b b' h. others.let_ h q }
  inside (HandleIn x b) {a} others.same = inside_same (HandleIn x b) a
  inside (HandleIn x b) (others.handle {b' = b'} p q) =
      record { context = HandleIn x b'; part = _; is = refl; parts = p; whole = λ b b' h. others.handle h q }
  inside (OnCancelIn f) {a} others.same = inside_same (OnCancelIn f) a
  inside (OnCancelIn f) (others.oncancel {f' = f'} p q) =
      record { context = OnCancelIn f'; part = _; is = refl; parts = p; whole = λ b b' h. others.oncancel h q }
  inside (AcquireIn x u r) {a} others.same = inside_same (AcquireIn x u r) a
  inside (AcquireIn x u r) (others.bracket {u' = u'} {r' = r'} p q s) =
      record { context = AcquireIn x u' r'; part = _; is = refl; parts = p; whole = λ b b' h. others.bracket h q s }
  inside (AcquireCaseIn x u y s z e d) {a} others.same = inside_same (AcquireCaseIn x u y s z e d) a
  inside (AcquireCaseIn x u y s z e d) (others.bracket_case {u' = u'} {s' = s'} {e' = e'} {d' = d'} p q r v w) =
      record { context = AcquireCaseIn x u' y s' z e' d'; part = _; is = refl; parts = p; whole = λ b b' h. others.bracket_case h q r v w }
  inside (MaskedIn r) {a} others.same = inside_same (MaskedIn r) a
  inside (MaskedIn r) (others.masked p) = record { context = MaskedIn r; part = _; is = refl; parts = p; whole = λ b b' h. others.masked h }
  inside (OpenedIn r) {a} others.same = inside_same (OpenedIn r) a
  inside (OpenedIn r) (others.opened p) = record { context = OpenedIn r; part = _; is = refl; parts = p; whole = λ b b' h. others.opened h }
  inside (InUseIn k r) {a} others.same = inside_same (InUseIn k r) a
  inside (InUseIn k r) (others.in_use {r' = r'} p q) =
      record { context = InUseIn k r'; part = _; is = refl; parts = p; whole = λ b b' h. others.in_use h q }
  inside (InUseCaseIn k y s z e d) {a} others.same = inside_same (InUseCaseIn k y s z e d) a
  inside (InUseCaseIn k y s z e d) (others.in_use_case {s' = s'} {e' = e'} {d' = d'} p q r w) =
      record { context = InUseCaseIn k y s' z e' d'; part = _; is = refl; parts = p; whole = λ b b' h. others.in_use_case h q r w }
  inside (InReleaseIn k v) {a} others.same = inside_same (InReleaseIn k v) a
  inside (InReleaseIn k v) (others.in_release p) = record { context = InReleaseIn k v; part = _; is = refl; parts = p; whole = λ b b' h. others.in_release h }

  inside_at : (f : Context) {a t u : Term} → t ≡ plug f a → Are t u → IsInside f a u
  inside_at f {a} {u = u} e = subst (λ (t : Term). Are t u → IsInside f a u) (sym e) (λ p. inside f p)

  module _ {k : Bool} {c d : Counts} {l : Label} where
    -- a row that is the same in both
    by_row : {u t' u' : Term} → Row k c u l d u' → Are t' u' → RowIsLike k c u l d t'
    by_row {u' = u'} r p = record { label = l; term = u'; row = r; like = itself; terms = p }

  starts_too : {k : Bool} {c : Counts} {h : ℕ} {a a' b b' : Term} → BeginsOtherwise Pair a a' → need a ≡ need a'
      → StartsOthers Pair (and_bound h none_bound) b b'
      → RowIsLike k c (term.Start h a' b') (Starts c.next (child_origin c.next a)) (numbers_taken (1 + need a) c) (put h c.next b)
  starts_too {c = c} {h = h} {a = a} {a' = a'} {b' = b'} p same q =
      record {
        label = Starts c.next (child_origin c.next a');
        term = put h c.next b';
        row = rw same row.start;
        like = starts (record { term = p; next_is = refl; end_is = rw same refl });
        terms = put_one puts h c.next q;
      }

  pub row_like : {k : Bool} {c d : Counts} {l : Label} {t t' u : Term} → Row k c t l d t' → StartsOthers Pair none_bound t u → RowIsLike k c u l d t'
  row_like r others.same = by_row r others.same
  row_like row.if_not_zero (others.if_ p q) = by_row row.if_not_zero p
  row_like row.if_zero (others.if_ p q) = by_row row.if_zero q
  row_like row.for_begins (others.for_ p) = by_row row.for_begins (others.loop p)
  row_like (row.loop_turns {i = i} {k = j} h) (others.loop p) = by_row (row.loop_turns h) (others.let_ (put_one puts i j p) (others.loop p))
  row_like (row.loop_ends h) (others.loop p) = by_row (row.loop_ends h) others.same
  row_like (row.let_value {x = x} {n = n}) (others.let_ others.same q) = by_row row.let_value (put_one_named puts x n q)
  row_like row.let_error (others.let_ others.same q) = by_row row.let_error others.same
  row_like row.handle_value (others.handle others.same q) = by_row row.handle_value others.same
  row_like (row.handle_error {x = x} {e = i}) (others.handle others.same q) = by_row row.handle_error (put_one_named puts x i q)
  row_like {c = c} (row.mask {p = x}) (others.mask p) = by_row row.mask (others.masked (put_one puts x c.masks p))
  row_like row.poll (others.poll p) = by_row row.poll (others.opened p)
  row_like row.masked_ends (others.masked others.same) = by_row row.masked_ends others.same
  row_like row.opened_ends (others.opened others.same) = by_row row.opened_ends others.same
  row_like row.oncancel_ends (others.oncancel others.same q) = by_row row.oncancel_ends others.same
  row_like (row.acquired {x = x} {n = n}) (others.bracket others.same q r) =
      by_row row.acquired (others.in_use (put_one_named puts x n q) (put_one_named puts x n r))
  row_like row.acquire_fails (others.bracket others.same q r) = by_row row.acquire_fails others.same
  row_like (row.acquired_case {x = x} {y = y} {z = z} {n = n}) (others.bracket_case others.same q r s w) =
      by_row row.acquired_case
      (others.in_use_case (put_one puts x n q) (put_others puts (deeper y (first x)) n r) (put_others puts (deeper z (first x)) n s) (put_one puts x n w))
  row_like row.acquire_case_fails (others.bracket_case others.same q r s w) = by_row row.acquire_case_fails others.same
  row_like row.used (others.in_use others.same q) = by_row row.used (others.in_release q)
  row_like (row.use_succeeded {y = y} {n = n}) (others.in_use_case others.same q r s) = by_row row.use_succeeded (others.in_release (put_one puts y n q))
  row_like (row.use_erred {z = z} {i = i}) (others.in_use_case others.same q r s) = by_row row.use_erred (others.in_release (put_one puts z i r))
  row_like row.released (others.in_release others.same) = by_row row.released others.same
  row_like row.start (others.start p q) = starts_too (within p) (others_need needs p) q
  row_like row.start (others.starts {a = a} {a' = a'} p q) = starts_too (other p) (needs none_bound a a' p) q
  row_like (row.joined {x = x} {e = i} {o = outcome.Succeeded n}) (others.join p q r) = by_row row.joined (put_one puts x n p)
  row_like (row.joined {x = x} {e = i} {o = outcome.Errored n}) (others.join p q r) = by_row row.joined (put_one puts i n q)
  row_like (row.joined {o = outcome.Canceled}) (others.join p q r) = by_row row.joined r
  row_like (row.tried_take {n = n} {x = x}) (others.try_take p q) = by_row row.tried_take (put_one puts x n p)
  row_like row.found_empty (others.try_take p q) = by_row row.found_empty q
  row_like (row.inside f {t' = w} {a = a} {a' = a'} e g r) p =
      let i = inside_at f e p in
      let v = row_like r i.parts in
      rw (i.is, g)
      (record {
        label = v.label;
        term = plug i.context v.term;
        row = row_plug i.context v.row;
        like = v.like;
        terms = i.whole a' v.term v.terms;
      })
