-- Two terms that differ at such places, none of them round the leaf, make the same rows.
use Rattle.fx_term.specs.Term as term
use Rattle.std.proofs.Common.{◌≡◌, ℕ, ◌+◌, ◌-◌, ◌≤◌, Bool, refl, sym, subst, arith}
use Rattle.fx_term.specs.declared.outcome.Outcome.TheVariants as outcome
use Rattle.fx_term.specs.Term.{Term, Finished, put, put_named}
use Rattle.fx_term.specs.Need.{need}
use Rattle.fx_model.specs.Path.{Context, LetIn, HandleIn, OnCancelIn, AcquireIn, AcquireCaseIn, MaskedIn, OpenedIn, InUseIn, InUseCaseIn, InReleaseIn, plug}
use Rattle.fx_model.specs.Origin.{child_origin}
use Rattle.fx_model.specs.Row.{Counts, Label, Starts, Row, part_after, numbers_taken}
use Rattle.fx_model.specs.Row as row
use Rattle.fx_model.proofs.Paths.{row_plug}
use Rattle.fx_model.proofs.Measures.{one_turn}
use Rattle.fx_script_laws.specs.Cover.{Cover, uncovered}
use Rattle.fx_script_laws.specs.Filled.{none_bound, and_bound, IsFilled}
use Rattle.fx_script_laws.specs.Filled as filled
use Rattle.fx_script_laws.specs.Interchange.{AreFilledLabels, itself, starts}
use Rattle.fx_script_laws.proofs.Holes.{ArePut, holes, AreAlong, holes_along, filled_need, deeper, first, put_filled}
use Rattle.fx_script_laws.proofs.Holes.{put_first, put_holes, put_named_filled, put_named_holes}
use Rattle.fx_script_laws.proofs.Holes as along
use Rattle.fx_script_laws.proofs.Covers.{cover_in}

module _ (Pair : Cover → (ℕ → Bool) → Term → Term → Type 0) (puts : ArePut Pair)
    (needs : (s : Cover) (v : ℕ → Bool) (t u : Term) → Pair s v t u → need t ≡ need u) where
  -- the other term makes the same row, to a term that differs at no more places
  pub record RowIsFilled (s : Cover) (closed : Bool) (c : Counts) (u : Term) (l : Label) (d : Counts) (t' : Term) (most : ℕ) : Type 0 where
    pub label : Label
    pub term : Term
    pub row : Row closed c u label d term
    pub like : AreFilledLabels Pair l label
    pub is_filled : IsFilled Pair s none_bound t' term
    pub few : holes is_filled ≤ most

  -- the contexts differ at such places, and so do their parts
  record IsInside (f : Context) (s : Cover) (a u : Term) (n : ℕ) : Type 0 where
    pub context : Context
    pub part : Term
    pub is : u ≡ plug context part
    pub parts : AreAlong Pair (cover_in f s) a part
    pub rest : ℕ
    pub count_is : holes_along parts + rest ≡ n
    pub whole : (b b' : Term) → IsFilled Pair (cover_in f s) none_bound b b' → IsFilled Pair s none_bound (plug f b) (plug context b')
    pub whole_is : (b b' : Term) (h : IsFilled Pair (cover_in f s) none_bound b b') → holes (whole b b' h) ≡ holes h + rest

  abbrev plug_filled : (f : Context) {s : Cover} (b b' : Term) → IsFilled Pair (cover_in f s) none_bound b b'
      → IsFilled Pair s none_bound (plug f b) (plug f b')
  plug_filled (LetIn x a) b b' h = filled.let_ h filled.same
  plug_filled (HandleIn x a) b b' h = filled.handle h filled.same
  plug_filled (OnCancelIn f) b b' h = filled.oncancel h filled.same
  plug_filled (AcquireIn x u r) b b' h = filled.bracket h filled.same filled.same
  plug_filled (AcquireCaseIn x u y s z e d) b b' h = filled.bracket_case h filled.same filled.same filled.same filled.same
  plug_filled (MaskedIn r) b b' h = filled.masked h
  plug_filled (OpenedIn r) b b' h = filled.opened h
  plug_filled (InUseIn k r) b b' h = filled.in_use h filled.same
  plug_filled (InUseCaseIn k y s z e d) b b' h = filled.in_use_case h filled.same filled.same filled.same
  plug_filled (InReleaseIn k v) b b' h = filled.in_release h

  plug_holes : (f : Context) (s : Cover) (b b' : Term) (h : IsFilled Pair (cover_in f s) none_bound b b') → holes (plug_filled f {s = s} b b' h) ≡ holes h + 0
  plug_holes (LetIn x a) o b b' h = omega arith
  plug_holes (HandleIn x a) o b b' h = omega arith
  plug_holes (OnCancelIn f) o b b' h = omega arith
  plug_holes (AcquireIn x u r) o b b' h = omega arith
  plug_holes (AcquireCaseIn x u y s z e d) o b b' h = omega arith
  plug_holes (MaskedIn r) o b b' h = omega arith
  plug_holes (OpenedIn r) o b b' h = omega arith
  plug_holes (InUseIn k r) o b b' h = omega arith
  plug_holes (InUseCaseIn k y s z e d) o b b' h = omega arith
  plug_holes (InReleaseIn k v) o b b' h = omega arith

  inside_same : (f : Context) {s : Cover} (a : Term) → IsInside f s a (plug f a) 0
  inside_same f {s} a =
      record { context = f; part = a; is = refl; parts = along.same; rest = 0; count_is = refl; whole = plug_filled f; whole_is = plug_holes f s }

  inside : (f : Context) {s : Cover} {a u : Term} (p : AreAlong Pair s (plug f a) u) → IsInside f s a u (holes_along p)
  inside (LetIn x b) {a} along.same = inside_same (LetIn x b) a
  inside (LetIn x b) (along.let_ {b' = b'} p q) =
      record {
        context = LetIn x b';
        part = _;
        is = refl;
        parts = p;
        rest = holes q;
        count_is = refl;
        whole = λ b b' h. filled.let_ h q;
        whole_is = λ b b' h. refl;
      }
  inside (HandleIn x b) {a} along.same = inside_same (HandleIn x b) a
  inside (HandleIn x b) (along.handle {b' = b'} p q) =
      record {
        context = HandleIn x b';
        part = _;
        is = refl;
        parts = p;
        rest = holes q;
        count_is = refl;
        whole = λ b b' h. filled.handle h q;
        whole_is = λ b b' h. refl;
      }
  inside (OnCancelIn f) {a} along.same = inside_same (OnCancelIn f) a
  inside (OnCancelIn f) (along.oncancel {f' = f'} p q) =
      record {
        context = OnCancelIn f';
        part = _;
        is = refl;
        parts = p;
        rest = holes q;
        count_is = refl;
        whole = λ b b' h. filled.oncancel h q;
        whole_is = λ b b' h. refl;
      }
  inside (AcquireIn x u r) {a} along.same = inside_same (AcquireIn x u r) a
  inside (AcquireIn x u r) (along.bracket {u' = u'} {r' = r'} p q s) =
      record {
        context = AcquireIn x u' r';
        part = _;
        is = refl;
        parts = p;
        rest = holes q + holes s;
        count_is = omega arith;
        whole = λ b b' h. filled.bracket h q s;
        whole_is = λ b b' h. omega arith;
      }
  inside (AcquireCaseIn x u y s z e d) {a} along.same = inside_same (AcquireCaseIn x u y s z e d) a
  inside (AcquireCaseIn x u y s z e d) (along.bracket_case {u' = u'} {s' = s'} {e' = e'} {d' = d'} p q r v w) =
      record {
        context = AcquireCaseIn x u' y s' z e' d';
        part = _;
        is = refl;
        parts = p;
        rest = holes q + holes r + holes v + holes w;
        count_is = omega arith;
        whole = λ b b' h. filled.bracket_case h q r v w;
        whole_is = λ b b' h. omega arith;
      }
  inside (MaskedIn r) {a} along.same = inside_same (MaskedIn r) a
  inside (MaskedIn r) (along.masked p) =
      record {
        context = MaskedIn r;
        part = _;
        is = refl;
        parts = p;
        rest = 0;
        count_is = omega arith;
        whole = λ b b' h. filled.masked h;
        whole_is = λ b b' h. omega arith;
      }
  inside (OpenedIn r) {a} along.same = inside_same (OpenedIn r) a
  inside (OpenedIn r) (along.opened p) =
      record {
        context = OpenedIn r;
        part = _;
        is = refl;
        parts = p;
        rest = 0;
        count_is = omega arith;
        whole = λ b b' h. filled.opened h;
        whole_is = λ b b' h. omega arith;
      }
  inside (InUseIn k r) {a} along.same = inside_same (InUseIn k r) a
  inside (InUseIn k r) (along.in_use {r' = r'} p q) =
      record {
        context = InUseIn k r';
        part = _;
        is = refl;
        parts = p;
        rest = holes q;
        count_is = refl;
        whole = λ b b' h. filled.in_use h q;
        whole_is = λ b b' h. refl;
      }
  inside (InUseCaseIn k y s z e d) {a} along.same = inside_same (InUseCaseIn k y s z e d) a
  inside (InUseCaseIn k y s z e d) (along.in_use_case {s' = s'} {e' = e'} {d' = d'} p q r w) =
      record {
        context = InUseCaseIn k y s' z e' d';
        part = _;
        is = refl;
        parts = p;
        rest = holes q + holes r + holes w;
        count_is = omega arith;
        whole = λ b b' h. filled.in_use_case h q r w;
        whole_is = λ b b' h. omega arith;
      }
  inside (InReleaseIn k v) {a} along.same = inside_same (InReleaseIn k v) a
  inside (InReleaseIn k v) (along.in_release p) =
      record {
        context = InReleaseIn k v;
        part = _;
        is = refl;
        parts = p;
        rest = 0;
        count_is = omega arith;
        whole = λ b b' h. filled.in_release h;
        whole_is = λ b b' h. omega arith;
      }

  inside_at : (f : Context) {s : Cover} {a t u : Term} → t ≡ plug f a → (p : AreAlong Pair s t u) → IsInside f s a u (holes_along p)
  inside_at f {s} {a} {u = u} e = subst (λ (t : Term). (p : AreAlong Pair s t u) → IsInside f s a u (holes_along p)) (sym e) (λ p. inside f p)

  module _ {k : Bool} {c d : Counts} {l : Label} where
    -- a row that is the same in both
    by_row : {s : Cover} {u t' u' : Term} {n : ℕ} → Row k c u l d u' → (p : IsFilled Pair s none_bound t' u') → holes p ≤ n → RowIsFilled s k c u l d t' n
    by_row {u' = u'} r p few = record { label = l; term = u'; row = r; like = itself; is_filled = p; few = few }

  starts_too : {s : Cover} {k : Bool} {c : Counts} {h : ℕ} {a a' b b' : Term} (p : IsFilled Pair uncovered none_bound a a')
      (q : IsFilled Pair s (and_bound h none_bound) b b')
      → RowIsFilled s k c (term.Start h a' b') (Starts c.next (child_origin c.next a)) (numbers_taken (1 + need a) c) (put h c.next b) (holes p + holes q)
  starts_too {c = c} {h = h} {a = a} {a' = a'} {b' = b'} p q =
      let same : need a ≡ need a' = filled_need needs p in
      let e = put_holes puts (first h) c.next q in
      record {
        label = Starts c.next (child_origin c.next a');
        term = put h c.next b';
        row = rw same row.start;
        like = starts (record { term = p; next_is = refl; end_is = rw same refl });
        is_filled = put_first puts h c.next q;
        few = omega arith;
      }

  pub row_filled : {k : Bool} {c d : Counts} {l : Label} {s : Cover} {t t' u : Term} → Row k c t l d t' → (p : AreAlong Pair s t u)
      → RowIsFilled s k c u l d t' (holes_along p)
  row_filled r along.same = by_row r filled.same (omega arith)
  row_filled row.if_not_zero (along.if_ p q) = by_row row.if_not_zero p (omega arith)
  row_filled row.if_zero (along.if_ p q) = by_row row.if_zero q (omega arith)
  row_filled (row.for_begins {n = n}) (along.for_ p) = by_row row.for_begins (filled.loop p) (let e : n - 0 ≡ n = omega arith in rw e (omega arith))
  row_filled (row.loop_turns {i = i} {k = j} {n = n} h) (along.loop p) =
      let e = put_holes puts (first i) j p in
      let turn = one_turn (n - (j + 1)) (n - j) (holes p) (omega arith) in
      by_row (row.loop_turns h) (filled.let_ (put_first puts i j p) (filled.loop p)) (omega arith)
  row_filled (row.loop_ends h) (along.loop p) = by_row (row.loop_ends h) filled.same (omega arith)
  row_filled (row.let_value {x = x} {n = n}) (along.let_ along.same q) =
      let e = put_named_holes puts x n q in by_row row.let_value (put_named_filled puts x n q) (omega arith)
  row_filled row.let_error (along.let_ along.same q) = by_row row.let_error filled.same (omega arith)
  row_filled row.handle_value (along.handle along.same q) = by_row row.handle_value filled.same (omega arith)
  row_filled (row.handle_error {x = x} {e = i}) (along.handle along.same q) =
      let e = put_named_holes puts x i q in by_row row.handle_error (put_named_filled puts x i q) (omega arith)
  row_filled {c = c} (row.mask {p = x}) (along.mask p) =
      let e = put_holes puts (first x) c.masks p in by_row row.mask (filled.masked (put_first puts x c.masks p)) (omega arith)
  row_filled row.poll (along.poll p) = by_row row.poll (filled.opened p) (omega arith)
  row_filled row.masked_ends (along.masked along.same) = by_row row.masked_ends filled.same (omega arith)
  row_filled row.opened_ends (along.opened along.same) = by_row row.opened_ends filled.same (omega arith)
  row_filled row.oncancel_ends (along.oncancel along.same q) = by_row row.oncancel_ends filled.same (omega arith)
  row_filled (row.acquired {x = x} {n = n}) (along.bracket along.same q r) =
      let e = put_named_holes puts x n q in
      let f = put_named_holes puts x n r in
      by_row row.acquired (filled.in_use (put_named_filled puts x n q) (put_named_filled puts x n r)) (omega arith)
  row_filled row.acquire_fails (along.bracket along.same q r) = by_row row.acquire_fails filled.same (omega arith)
  row_filled (row.acquired_case {x = x} {y = y} {z = z} {n = n}) (along.bracket_case along.same q r s w) =
      let e = put_holes puts (first x) n q in
      let f = put_holes puts (deeper y (first x)) n r in
      let g = put_holes puts (deeper z (first x)) n s in
      let h = put_holes puts (first x) n w in
      by_row row.acquired_case
      (filled.in_use_case (put_first puts x n q) (put_filled puts (deeper y (first x)) n r) (put_filled puts (deeper z (first x)) n s) (put_first puts x n w))
      (omega arith)
  row_filled row.acquire_case_fails (along.bracket_case along.same q r s w) = by_row row.acquire_case_fails filled.same (omega arith)
  row_filled row.used (along.in_use along.same q) = by_row row.used (filled.in_release q) (omega arith)
  row_filled (row.use_succeeded {y = y} {n = n}) (along.in_use_case along.same q r s) =
      let e = put_holes puts (first y) n q in by_row row.use_succeeded (filled.in_release (put_first puts y n q)) (omega arith)
  row_filled (row.use_erred {z = z} {i = i}) (along.in_use_case along.same q r s) =
      let e = put_holes puts (first z) i r in by_row row.use_erred (filled.in_release (put_first puts z i r)) (omega arith)
  row_filled row.released (along.in_release along.same) = by_row row.released filled.same (omega arith)
  row_filled row.start (along.start p q) = starts_too p q
  row_filled (row.joined {x = x} {e = i} {o = outcome.Succeeded n}) (along.join p q r) =
      let e = put_holes puts (first x) n p in by_row row.joined (put_first puts x n p) (omega arith)
  row_filled (row.joined {x = x} {e = i} {o = outcome.Errored n}) (along.join p q r) =
      let e = put_holes puts (first i) n q in by_row row.joined (put_first puts i n q) (omega arith)
  row_filled (row.joined {o = outcome.Canceled}) (along.join p q r) = by_row row.joined r (omega arith)
  row_filled (row.tried_take {n = n} {x = x}) (along.try_take p q) =
      let e = put_holes puts (first x) n p in by_row row.tried_take (put_first puts x n p) (omega arith)
  row_filled row.found_empty (along.try_take p q) = by_row row.found_empty q (omega arith)
  row_filled {s} (row.inside f {t' = w} {a = a} {a' = a'} e g r) p =
      let i = inside_at f e p in
      let v = row_filled {s = cover_in f s} r i.parts in
      let m = i.count_is in
      let h = i.whole_is a' v.term v.is_filled in
      let few = v.few in
      rw (i.is, g)
      (record {
        label = v.label;
        term = plug i.context v.term;
        row = row_plug i.context v.row;
        like = v.like;
        is_filled = i.whole a' v.term v.is_filled;
        few = omega arith;
      })
