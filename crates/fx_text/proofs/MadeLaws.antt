-- Nodes made of the parts of a form.
use Rattle.std.proofs.Common.{◌≡◌, ℕ, ◌+◌, Some, None, Result, Ok, Err, IfOk, List, [], ◌∷◌, ◌++◌, length, IsPermutation, sym, ap, subst, ◌∙◌, arith}
use Rattle.std.proofs.lemmas.List.Sorted.{IsPermutation-refl, IsPermutation-append_comm}
use Rattle.fx_term.specs.declared.node.NodeId.{NodeId}
use Rattle.fx_term.specs.declared.node.Node.TheVariants as node
use Rattle.fx_term.specs.declared.node.Arg.TheVariants as arg
use Rattle.fx_term.specs.declared.node.Node.{Node}
use Rattle.fx_term.specs.Term.{Term, Never, Bracket, Mask, Start}
use Rattle.fx_term.specs.Meaning.{assemble, term_of}
use Rattle.fx_term.specs.Tree.{children}
use Rattle.fx_term.proofs.NodeTerms.{assemble_same}
use Rattle.fx_text.specs.declared.reader.Reader.{Reader}
use Rattle.fx_text.specs.Shape.{pure_zero}
use Rattle.fx_text.specs.ReaderState.{Adds}
use Rattle.fx_text.specs.declared.reader.races.RaceSlots.{RaceSlots}
use Rattle.fx_text.specs.Trees.{GrowsBy, Keeps}
use Rattle.fx_text.specs.Race.{deciding, race}
use Rattle.fx_text.specs.Head.{leaf_term}
use Rattle.fx_text.specs.Made.{CanMake, Makes, MakesTree}
use Rattle.fx_text.proofs.ReaderLaws.{grows_none, grows_append, grew_before_last}

-- a bracket whose resource is the value 0
guarantee_made : (old one new : Reader) (zero a f : NodeId) (root : ℕ) → CanMake 47 old (a ∷ f ∷ []) → Adds old one (node.Pure (arg.Number 0)) zero.0
    → Adds one new (node.Bracket None zero a f) root
    → Makes 47 old new (a ∷ f ∷ []) (Bracket None pure_zero (term_of old.nodes.items a.0) (term_of old.nodes.items f.0)) root
guarantee_made old one new zero a f root can first second =
    let zero_is : term_of new.nodes.items zero.0 ≡ pure_zero = second.keeps.same zero.0 (omega (arith, first.last)) ∙ first.term in
    let a_is = second.keeps.same a.0 (let b = can.below.0 in omega (arith, first.one)) ∙ first.keeps.same a.0 can.below.0 in
    let f_is = second.keeps.same f.0 (let b = can.below.1.0 in omega (arith, first.one)) ∙ first.keeps.same f.0 can.below.1.0 in
    record {
      names = second.names ∙ first.names;
      place = second.place ∙ first.place;
      made = second.made;
      keeps = record {
        longer = omega (arith, first.one, second.one);
        same = λ id lt. second.keeps.same id (omega (arith, first.one))
            ∙ first.keeps.same id lt;
      };
      last = second.last;
      paid = omega (arith, first.one, second.one);
      term = second.term ∙ cc;
      grows = λ start g. second.grows start (a.0 ∷ f.0 ∷ zero.0 ∷ []) (IsPermutation-append_comm (a.0 ∷ f.0 ∷ []) (zero.0 ∷ []))
          (grows_append start old.nodes.items one.nodes.items (a.0 ∷ f.0 ∷ []) (zero.0 ∷ []) g
          (first.grows old.nodes.items [] (IsPermutation-refl []) (grows_none old.nodes.items)));
    }

pub guarantee_makes : {E : Type 0} (old one new : Reader) (zero a f : NodeId) (result : Result NodeId E) → CanMake 47 old (a ∷ f ∷ [])
    → Adds old one (node.Pure (arg.Number 0)) zero.0 → IfOk result (λ id. Adds one new (node.Bracket None zero a f) id.0)
    → IfOk result (λ id. Makes 47 old new (a ∷ f ∷ []) (Bracket None pure_zero (term_of old.nodes.items a.0) (term_of old.nodes.items f.0)) id.0)
guarantee_makes old one new zero a f (Ok id) can first second = guarantee_made old one new zero a f id.0 can first second
guarantee_makes old one new zero a f (Err e) can first second = tt

-- ---- terms of no parts

pub tree_leaf : (old new : Reader) (n : Node) (root : ℕ) → children n ≡ [] → Adds old new n root → MakesTree old new 1 (leaf_term n) root
tree_leaf old new n root none added = record {
  names = added.names;
  place = added.place;
  made = added.made;
  keeps = added.keeps;
  last = added.last;
  more = added.one;
  term = added.term ∙ assemble_same n (term_of new.nodes.items) (λ _. Never) (λ i d lt. absurd (omega (arith, lt, ap length none)));
  grows = added.grows old.nodes.items [] (subst (λ (cs : List ℕ). IsPermutation [] cs) (sym none) (IsPermutation-refl []))
      (grows_none old.nodes.items);
}

-- a tree, and then one more
pub record MakesTrees (old new : Reader) (count : ℕ) (roots : List ℕ) : Type 0 where
  pub names : new.names.items ≡ old.names.items
  pub place : new.place ≡ old.place
  pub keeps : Keeps old.nodes.items new.nodes.items
  pub more : length new.nodes.items ≡ length old.nodes.items + count
  pub grows : GrowsBy old.nodes.items new.nodes.items roots

pub trees_one : (old new : Reader) (count : ℕ) (t : Term) (root : ℕ) → MakesTree old new count t root → MakesTrees old new count (root ∷ [])
trees_one old new count t root m = record { names = m.names; place = m.place; keeps = m.keeps; more = m.more; grows = m.grows }

pub trees_more : (old middle new : Reader) (count others : ℕ) (roots : List ℕ) (t : Term) (root : ℕ) → MakesTrees old middle count roots
    → MakesTree middle new others t root → MakesTrees old new (count + others) (roots ++ root ∷ [])
trees_more old middle new count others roots t root ms m = record {
  names = m.names ∙ ms.names;
  place = m.place ∙ ms.place;
  keeps = record {
    longer = omega (arith, m.more, ms.more);
    same = λ id lt. m.keeps.same id (omega (arith, ms.more)) ∙ ms.keeps.same id lt;
  };
  more = omega (arith, m.more, ms.more);
  grows = grows_append old.nodes.items middle.nodes.items new.nodes.items roots (root ∷ []) ms.grows m.grows;
}

-- the node of trees
pub tree_of : (old middle new : Reader) (count : ℕ) (roots : List ℕ) (n : Node) (t : Term) (root : ℕ) → MakesTrees old middle count roots
    → children n ≡ roots → Adds middle new n root → assemble (Some n) (term_of new.nodes.items) ≡ t → MakesTree old new (count + 1) t root
tree_of old middle new count roots n t root ms are added is = record {
  names = added.names ∙ ms.names;
  place = added.place ∙ ms.place;
  made = added.made;
  keeps = record {
    longer = omega (arith, added.one, ms.more);
    same = λ id lt. added.keeps.same id (omega (arith, ms.more)) ∙ ms.keeps.same id lt;
  };
  last = added.last;
  more = omega (arith, added.one, ms.more);
  term = added.term ∙ is;
  grows = added.grows old.nodes.items roots (subst (λ (cs : List ℕ). IsPermutation roots cs) (sym are) (IsPermutation-refl roots)) ms.grows;
}

-- a node of one tree, of two and of three
module _ (old one : Reader) (i : ℕ) (a : Term) (c : ℕ) (first : MakesTree old one i a c) where
  -- the term of a tree, after more nodes
  module _ (new : Reader) (more : Keeps one.nodes.items new.nodes.items) where
    pub still_term : term_of new.nodes.items c ≡ a
    still_term = more.same c (omega (arith, first.last)) ∙ first.term

  pub tree_one : (new : Reader) (n : Node) (t : Term) (root : ℕ) → children n ≡ c ∷ [] → Adds one new n root
      → ((child : ℕ → Term) → child c ≡ a → assemble (Some n) child ≡ t) → MakesTree old new (i + 1) t root
  tree_one new n t root are added is = tree_of old one new i (c ∷ []) n t root (trees_one old one i a c first) are added
      (is (term_of new.nodes.items) (still_term new added.keeps))

module _ (old one two : Reader) (i j : ℕ) (a b : Term) (c d : ℕ) (first : MakesTree old one i a c) (second : MakesTree one two j b d) where
  both : MakesTrees old two (i + j) (c ∷ d ∷ [])
  both = trees_more old one two i j (c ∷ []) b d (trees_one old one i a c first) second

  after_two : (new : Reader) → Keeps two.nodes.items new.nodes.items → Keeps one.nodes.items new.nodes.items
  after_two new k = record {
    longer = omega (arith, k.longer, second.more);
    same = λ id lt. k.same id (omega (arith, second.more)) ∙ second.keeps.same id lt;
  }

  pub tree_two : (new : Reader) (n : Node) (t : Term) (root : ℕ) → children n ≡ c ∷ d ∷ [] → Adds two new n root
      → ((child : ℕ → Term) → child c ≡ a → child d ≡ b → assemble (Some n) child ≡ t) → MakesTree old new (i + j + 1) t root
  tree_two new n t root are added is = tree_of old two new (i + j) (c ∷ d ∷ []) n t root both are added
      (is (term_of new.nodes.items) (still_term old one i a c first new (after_two new added.keeps)) (still_term one two j b d second new added.keeps))

  pub tree_three : (three new : Reader) (k : ℕ) (e : Term) (g : ℕ) (n : Node) (t : Term) (root : ℕ) → MakesTree two three k e g
      → children n ≡ c ∷ d ∷ g ∷ [] → Adds three new n root
      → ((child : ℕ → Term) → child c ≡ a → child d ≡ b → child g ≡ e → assemble (Some n) child ≡ t) → MakesTree old new (i + j + k + 1) t root
  tree_three three new k e g n t root third are added is =
      let later : Keeps two.nodes.items new.nodes.items = record {
        longer = omega (arith, added.one, third.more);
        same = λ id lt. added.keeps.same id (omega (arith, third.more)) ∙ third.keeps.same id lt;
      } in
      tree_of old three new (i + j + k) (c ∷ d ∷ g ∷ []) n t root (trees_more old two three (i + j) k (c ∷ d ∷ []) e g both third) are added
      (is (term_of new.nodes.items) (still_term old one i a c first new (after_two new later)) (still_term one two j b d second new later)
      (still_term two three k e g third new added.keeps))

-- ---- a race

pub race_made : (old one two three new : Reader) (s : RaceSlots) (a b d x y : NodeId) (root : ℕ) → CanMake 47 old (a ∷ b ∷ [])
    → MakesTree old one 44 (deciding s) d.0 → Adds one two (node.Start s.right b d) x.0 → Adds two three (node.Start s.left a x) y.0
    → Adds three new (node.Mask s.mask y) root → Makes 47 old new (a ∷ b ∷ []) (race s (term_of old.nodes.items a.0) (term_of old.nodes.items b.0)) root
race_made old one two three new s a b d x y root can tree second first mask =
    let under_a = can.below.0 in
    let under_b = can.below.1.0 in
    let a_is : term_of three.nodes.items a.0 ≡ term_of old.nodes.items a.0 = first.keeps.same a.0 (omega (arith, tree.more, second.one))
    ∙ second.keeps.same a.0 (omega (arith, tree.more)) ∙ tree.keeps.same a.0 under_a in
    let b_is : term_of two.nodes.items b.0 ≡ term_of old.nodes.items b.0 = second.keeps.same b.0 (omega (arith, tree.more)) ∙ tree.keeps.same b.0 under_b in
    let d_is : term_of two.nodes.items d.0 ≡ deciding s = second.keeps.same d.0 (omega (arith, tree.last)) ∙ tree.term in
    let x_is : term_of two.nodes.items x.0 ≡ Start s.right (term_of old.nodes.items b.0) (deciding s) = second.term
    ∙ ap (λ (t : Term). Start s.right t (term_of two.nodes.items d.0)) b_is ∙ ap (λ (t : Term). Start s.right (term_of old.nodes.items b.0) t) d_is in
    let y_is : term_of three.nodes.items y.0 ≡ Start s.left (term_of old.nodes.items a.0) (Start s.right (term_of old.nodes.items b.0) (deciding s)) =
    first.term ∙ ap (λ (t : Term). Start s.left t (term_of three.nodes.items x.0)) a_is
    ∙ ap (λ (t : Term). Start s.left (term_of old.nodes.items a.0) t) (first.keeps.same x.0 (omega (arith, second.last)) ∙ x_is) in
    record {
      names = mask.names ∙ first.names ∙ second.names ∙ tree.names;
      place = mask.place ∙ first.place ∙ second.place ∙ tree.place;
      made = mask.made;
      keeps = record {
        longer = omega (arith, tree.more, second.one, first.one, mask.one);
        same = λ id lt. mask.keeps.same id (omega (arith, tree.more, second.one, first.one))
            ∙ first.keeps.same id (omega (arith, tree.more, second.one)) ∙ second.keeps.same id (omega (arith, tree.more)) ∙ tree.keeps.same id lt;
      };
      last = mask.last;
      paid = omega (arith, tree.more, second.one, first.one, mask.one);
      term = mask.term ∙ ap (λ (t : Term). Mask s.mask t) (mask.keeps.same y.0 (omega (arith, first.last)) ∙ y_is);
      grows = λ start g.
          let split = grew_before_last start old.nodes.items (a.0 ∷ []) b.0 g in
          let inner = second.grows split.middle (b.0 ∷ d.0 ∷ []) (IsPermutation-refl _)
          (grows_append split.middle old.nodes.items one.nodes.items (b.0 ∷ []) (d.0 ∷ []) split.lasts tree.grows) in
          let outer = first.grows start (a.0 ∷ x.0 ∷ []) (IsPermutation-refl _)
          (grows_append start split.middle two.nodes.items (a.0 ∷ []) (x.0 ∷ []) split.firsts inner) in
          mask.grows start (y.0 ∷ []) (IsPermutation-refl _) outer;
    }
