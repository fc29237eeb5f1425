-- The reader as it goes through terms, any number.
use Rattle.std.proofs.Common.{◌≡◌, ℕ, ◌<◌, true, false, Ok, Err, List, [], ◌∷◌, ◌++◌, length, refl, sym, ◌∙◌, ap, subst, arith}
use Rattle.fx_term.specs.declared.node.NodeId.{NodeId}
use Rattle.fx_term.specs.declared.node.Node.{Node}
use Rattle.fx_term.specs.Term.{Term}
use Rattle.fx_term.specs.Meaning.{term_of}
use Rattle.fx_text.specs.Limits.{term_spares, form_spares}
use Rattle.fx_text.specs.declared.fault.ReadError.{ReadError}
use Rattle.fx_text.specs.declared.fault.ReadError.TheVariants as errors
use Rattle.fx_text.specs.declared.reader.Reader.{Reader}
use Rattle.fx_text.specs.Token.{next}
use Rattle.fx_text.specs.declared.form.Form.TheVariants as form
use Rattle.fx_text.specs.Shape.{shape, seq}
use Rattle.fx_text.specs.Part.{is_closing}
use Rattle.fx_text.specs.Reading.{◌>>=◌, Read, closing_at, parts_at, groups_at, group_at, term_at}
use Rattle.fx_text.specs.Given.{Fails}
use Rattle.fx_text.specs.Scope.{Scope}
use Rattle.fx_text.specs.Group.{OfTerm}
use Rattle.fx_text.specs.Needs.{AreMade}
use Rattle.fx_text.specs.Trees.{GrowsBy, Keeps, AllBelow}
use Rattle.fx_text.specs.ReaderState.{scope_of, ids, IsRead, Went, WentThrough, Joins}
use Rattle.fx_text.proofs.GroupsLaws.{IsReadSoFar, none_so_far, more_so_far, fault_so_far, all_so_far}
use Rattle.fx_text.proofs.ReaderLaws.{grows_none, grows_append, last_root}
use Rattle.fx_text.proofs.ReadLaws.{same_scope, through_more}
use Rattle.fx_text.proofs.OpenLaws.{fails_first, fails_as}
use Rattle.fx_text.proofs.SequenceLaws.{terms_of, terms_push, ids_push}

-- the terms read so far and what is read of the rest are what is read of all
pub record WentSoFar (room : ℕ) (old new : Reader) (roots : List NodeId) (bytes rest : List ℕ) : Type 0 where
  pub went : WentThrough old new roots bytes rest
  pub grows : GrowsBy old.nodes.items new.nodes.items (ids roots)
  pub read : IsReadSoFar room OfTerm (scope_of old) (scope_of old) (terms_of new.nodes.items roots) bytes rest

-- the terms of the nodes before stay
terms_kept : (old new : List Node) (roots : List NodeId) → Keeps old new → AllBelow (length old) (ids roots) → terms_of new roots ≡ terms_of old roots
terms_kept old new [] keeps below = refl
terms_kept old new (root ∷ roots) keeps below = let h = keeps.same root.0 below.0 in let g = terms_kept old new roots keeps below.1 in cc

pub went_none : (room : ℕ) (old : Reader) (roots : List NodeId) (bytes : List ℕ) → roots ≡ [] → AreMade old.nodes.items old.needs.items
    → WentSoFar room old old roots bytes bytes
went_none room old roots bytes none made = subst (λ (l : List NodeId). WentSoFar room old old l bytes bytes) (sym none) (record {
  went = record {
    names = refl;
    place = refl;
    made = made;
    keeps = record { longer = omega arith; same = λ id h. refl };
    below = tt;
    paid = omega arith;
    shorter = omega arith;
  };
  grows = grows_none old.nodes.items;
  read = none_so_far room OfTerm (scope_of old) bytes;
})

module _ (room : ℕ) (old middle : Reader) (roots : List NodeId) (bytes rest : List ℕ) (h : WentSoFar room old middle roots bytes rest) where
  here : scope_of middle ≡ scope_of old
  here = same_scope old middle h.went.names h.went.place

  pub went_more : (new : Reader) (root : NodeId) (all : List NodeId) (after : List ℕ) → all ≡ roots ++ root ∷ [] → is_closing (next rest).token ≡ false
      → term_at room (scope_of middle) rest ≡ Ok (term_of new.nodes.items root.0, after)
      → Went term_spares middle new root.0 rest after → GrowsBy middle.nodes.items new.nodes.items (root.0 ∷ []) → WentSoFar room old new all bytes after
  went_more new root all after pushed at one w g =
      let one' = subst (λ (p : Scope). term_at room p rest ≡ Ok (term_of new.nodes.items root.0, after)) here one in
      let kept = terms_kept middle.nodes.items new.nodes.items roots w.keeps h.went.below in
      subst (λ (l : List NodeId). WentSoFar room old new l bytes after) (sym pushed) (record {
        went = through_more old middle new roots root bytes rest after h.went w;
        grows = subst (λ (l : List ℕ). GrowsBy old.nodes.items new.nodes.items l) (sym (ids_push roots root))
            (grows_append old.nodes.items middle.nodes.items new.nodes.items (ids roots) (root.0 ∷ []) h.grows g);
        read = subst (λ (l : List Term). IsReadSoFar room OfTerm (scope_of old) (scope_of old) l bytes after)
            (ap (λ (l : List Term). l ++ term_of new.nodes.items root.0 ∷ []) (sym kept) ∙ sym (terms_push new.nodes.items roots root))
            (more_so_far room OfTerm (scope_of old) (scope_of old) (terms_of middle.nodes.items roots) bytes rest h.read (term_of new.nodes.items root.0)
            after at one');
      })

  -- the fault of a term is that of all
  pub went_fails : (e : ReadError) → is_closing (next rest).token ≡ false → Fails e (term_at room (scope_of middle) rest)
      → Fails e (groups_at (group_at room) OfTerm (scope_of old) bytes)
  went_fails errors.Memory at f = tt
  went_fails (errors.Fault x) at f = fault_so_far room OfTerm (scope_of old) (scope_of old) (terms_of middle.nodes.items roots) bytes rest h.read x at
      (subst (λ (p : Scope). term_at room p rest ≡ Err x) here f)

  pub went_all : is_closing (next rest).token ≡ true → groups_at (group_at room) OfTerm (scope_of old) bytes ≡ Ok (terms_of middle.nodes.items roots, rest)
  went_all at = all_so_far room OfTerm (scope_of old) (scope_of old) (terms_of middle.nodes.items roots) bytes rest h.read at

-- a term, the terms after it and the `)`, made one
pub went_seq : (old one two new : Reader) (first : NodeId) (others : List NodeId) (root : ℕ) (bytes after before_end rest : List ℕ)
    → Went term_spares old one first.0 bytes after → WentThrough one two others after before_end → length rest < length before_end
    → Joins two new first others root → GrowsBy old.nodes.items new.nodes.items (root ∷ []) → Went form_spares old new root bytes rest
went_seq old one two new first others root bytes after before_end rest w v lt j g = record {
  names = j.names ∙ v.names ∙ w.names;
  place = j.place ∙ v.place ∙ w.place;
  made = j.made;
  keeps = record {
    longer = let l = w.keeps.longer in let k = v.keeps.longer in omega (arith, j.more);
    same = λ id h. j.keeps.same id (let l = w.keeps.longer in let k = v.keeps.longer in omega arith) ∙ v.keeps.same id (let l = w.keeps.longer in omega arith)
        ∙ w.keeps.same id h;
  };
  last = last_root old.nodes.items new.nodes.items [] root g;
  paid = omega (arith, w.paid, v.paid, j.more);
  shorter = omega (arith, w.shorter, v.shorter);
}

-- ---- a `seq`

module _ (room : ℕ) (old one middle : Reader) (first : NodeId) (others : List NodeId) (bytes after rest : List ℕ)
    (r : IsRead term_spares old one first.0 bytes after (term_at room (scope_of old) bytes)) (h : WentSoFar room one middle others after rest) where
  -- the terms after the first one
  seq_is : parts_at (group_at room) (shape form.Seq (scope_of old)) bytes
      ≡ (groups_at (group_at room) OfTerm (scope_of one) after >>= λ x. closing_at x.1 >>= λ c. Ok (seq (term_of one.nodes.items first.0) x.0, c.1))
  seq_is = ap (λ (t : Read Term). t >>= λ a. groups_at (group_at room) OfTerm (scope_of old) a.1 >>= λ x. closing_at x.1 >>= λ c. Ok (seq a.0 x.0, c.1)) r.read
      ∙ ap (λ (p : Scope). groups_at (group_at room) OfTerm p after >>= λ x. closing_at x.1 >>= λ c. Ok (seq (term_of one.nodes.items first.0) x.0, c.1))
      (sym (same_scope old one r.went.names r.went.place))

  pub seq_fails : (e : ReadError) → is_closing (next rest).token ≡ false → Fails e (term_at room (scope_of middle) rest)
      → Fails e (parts_at (group_at room) (shape form.Seq (scope_of old)) bytes)
  seq_fails e at f = fails_as e _ _ seq_is (fails_first e _ _ (went_fails room one middle others after rest h e at f))

  module _ (at : is_closing (next rest).token ≡ true) where
    seq_all : parts_at (group_at room) (shape form.Seq (scope_of old)) bytes
        ≡ (closing_at rest >>= λ c. Ok (seq (term_of one.nodes.items first.0) (terms_of middle.nodes.items others), c.1))
    seq_all = seq_is ∙ rw (went_all room one middle others after rest h at) refl

    pub seq_unclosed : (e : ReadError) → Fails e (closing_at rest) → Fails e (parts_at (group_at room) (shape form.Seq (scope_of old)) bytes)
    seq_unclosed e f = fails_as e _ _ seq_all (fails_first e _ _ f)

    pub seq_read : (new : Reader) (root : ℕ) (end : List ℕ) → closing_at rest ≡ Ok (tt, end) → length end < length rest → Joins middle new first others root
        → IsRead form_spares old new root bytes end (parts_at (group_at room) (shape form.Seq (scope_of old)) bytes)
    seq_read new root end closed shorter j =
        let grows = j.grows old.nodes.items (grows_append old.nodes.items one.nodes.items middle.nodes.items (first.0 ∷ []) (ids others) r.grows h.grows) in
        let first_is = h.went.keeps.same first.0 (omega (arith, r.went.last)) in
        let means : term_of new.nodes.items root ≡ seq (term_of one.nodes.items first.0) (terms_of middle.nodes.items others) =
        j.term ∙ ap (λ (t : Term). seq t (terms_of middle.nodes.items others)) first_is in
        record {
          read = seq_all ∙ rw closed (ap (λ (t : Term). Ok (t, end)) (sym means));
          went = went_seq old one middle new first others root bytes after rest end r.went h.went shorter j grows;
          grows = grows;
        }
