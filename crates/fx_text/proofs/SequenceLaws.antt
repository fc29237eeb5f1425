-- Terms made one, from the last to the first.
use Rattle.std.proofs.Common.{◌≡◌, ℕ, ◌+◌, ◌<◌, None, List, [], ◌∷◌, ◌++◌, length, map, refl, sym, ◌∙◌, ap, subst, arith, append_assoc}
use Rattle.std.proofs.lemmas.List.{length-append, map-append}
use Rattle.std.proofs.lemmas.List.Sorted.{IsPermutation-refl}
use Rattle.fx_term.specs.declared.node.NodeId.{NodeId}
use Rattle.fx_term.specs.declared.node.Node.{Node}
use Rattle.fx_term.specs.declared.node.Node.TheVariants as node
use Rattle.fx_term.specs.Term.{Term, Let}
use Rattle.fx_term.specs.Meaning.{term_of}
use Rattle.fx_text.specs.declared.reader.Reader.{Reader}
use Rattle.fx_text.specs.Shape.{seq}
use Rattle.fx_text.specs.Needs.{AreMade}
use Rattle.fx_text.specs.Trees.{GrowsBy, Keeps, AllBelow}
use Rattle.fx_text.specs.ReaderState.{ids, Adds}
use Rattle.fx_text.proofs.ReaderLaws.{grows_append, grew_before_two}

-- some terms before one
abbrev pub onto : List Term → Term → Term
onto [] t = t
onto (a ∷ ts) t = Let None a (onto ts t)

onto_push : (ts : List Term) (a t : Term) → onto (ts ++ a ∷ []) t ≡ onto ts (Let None a t)
onto_push [] a t = refl
onto_push (b ∷ ts) a t = ap (λ (x : Term). Let None b x) (onto_push ts a t)

seq_push : (a : Term) (ts : List Term) (t : Term) → seq a (ts ++ t ∷ []) ≡ onto (a ∷ ts) t
seq_push a [] t = refl
seq_push a (b ∷ ts) t = ap (λ (x : Term). Let None a x) (seq_push b ts t)

-- the terms that these nodes stand for
abbrev pub terms_of : List Node → List NodeId → List Term
terms_of nodes roots = map (λ part. term_of nodes part.0) roots

-- the terms before the last ones are left, and the last ones are one, with this root
pub record JoinsLast (old new : Reader) (first : NodeId) (others left : List NodeId) (root : NodeId) : Type 0 where
  pub names : new.names.items ≡ old.names.items
  pub place : new.place ≡ old.place
  pub made : AreMade new.nodes.items new.needs.items
  pub keeps : Keeps old.nodes.items new.nodes.items
  pub more : length new.nodes.items + length left ≡ length old.nodes.items + length others
  pub below : AllBelow (length old.nodes.items) (ids left)
  pub root_below : root.0 < length new.nodes.items
  pub term : onto (terms_of old.nodes.items left) (term_of new.nodes.items root.0) ≡ seq (term_of old.nodes.items first.0) (terms_of old.nodes.items others)
  pub grows : (start : List Node) → GrowsBy start old.nodes.items (ids (first ∷ others)) → GrowsBy start new.nodes.items (ids left ++ root.0 ∷ [])

below_front : (bound : ℕ) (cs ds : List ℕ) → AllBelow bound (cs ++ ds) → AllBelow bound cs × AllBelow bound ds
below_front bound [] ds h = (tt, h)
below_front bound (c ∷ cs) ds h = let k = below_front bound cs ds h.1 in ((h.0, k.0), k.1)

pub ids_push : (roots : List NodeId) (root : NodeId) → ids (roots ++ root ∷ []) ≡ ids roots ++ root.0 ∷ []
ids_push roots root = map-append (λ (r : NodeId). r.0) roots (root ∷ [])

pub terms_push : (nodes : List Node) (roots : List NodeId) (root : NodeId)
    → terms_of nodes (roots ++ root ∷ []) ≡ terms_of nodes roots ++ term_of nodes root.0 ∷ []
terms_push nodes roots root = map-append (λ (r : NodeId). term_of nodes r.0) roots (root ∷ [])

-- at first the last one stands alone
pub joins_none : (old : Reader) (first : NodeId) (others front : List NodeId) (last : NodeId) → others ≡ front ++ last ∷ []
    → AreMade old.nodes.items old.needs.items → AllBelow (length old.nodes.items) (ids (first ∷ others))
    → JoinsLast old old first others (first ∷ front) last
joins_none old first others front last e made below =
    let split = below_front (length old.nodes.items) (ids front) (last.0 ∷ []) (subst (λ (l : List ℕ). AllBelow (length old.nodes.items) l) (ap ids e
    ∙ ids_push front last) below.1) in
    record {
      names = refl;
      place = refl;
      made = made;
      keeps = record { longer = omega arith; same = λ id h. refl };
      more = omega (arith, ap length e, length-append front (last ∷ []));
      below = (below.0, split.0);
      root_below = split.1.0;
      term = sym (ap (λ (l : List NodeId). seq (term_of old.nodes.items first.0) (terms_of old.nodes.items l)) e
          ∙ ap (λ (l : List Term). seq (term_of old.nodes.items first.0) l) (terms_push old.nodes.items front last) ∙ seq_push _ _ _);
      grows = λ start g. subst (λ (l : List ℕ). GrowsBy start old.nodes.items (first.0 ∷ l)) (ap ids e ∙ ids_push front last) g;
    }

-- the next one to be joined and the last ones have nodes
pub parts_below : (old middle : Reader) (first : NodeId) (others left front : List NodeId) (part root : NodeId) → left ≡ front ++ part ∷ []
    → JoinsLast old middle first others left root → AllBelow (length middle.nodes.items) (part.0 ∷ root.0 ∷ [])
parts_below old middle first others left front part root e h =
    let split = below_front (length old.nodes.items) (ids front) (part.0 ∷ []) (subst (λ (l : List ℕ). AllBelow (length old.nodes.items) l) (ap ids e
    ∙ ids_push front part) h.below) in
    (let p = split.1.0 in let l = h.keeps.longer in omega arith, (h.root_below, tt))

-- then each before it is joined to it by a node
pub joins_more : (old middle new : Reader) (first : NodeId) (others left front : List NodeId) (part root whole : NodeId) → left ≡ front ++ part ∷ []
    → JoinsLast old middle first others left root → Adds middle new (node.Let None part root) whole.0 → JoinsLast old new first others front whole
joins_more old middle new first others left front part root whole e h added =
    let split = below_front (length old.nodes.items) (ids front) (part.0 ∷ []) (subst (λ (l : List ℕ). AllBelow (length old.nodes.items) l) (ap ids e
    ∙ ids_push front part) h.below) in
    let longer = h.keeps.longer in
    let part_is = added.keeps.same part.0 (let b = split.1.0 in omega arith) ∙ h.keeps.same part.0 split.1.0 in
    let root_is = added.keeps.same root.0 h.root_below in
    let whole_is : term_of new.nodes.items whole.0 ≡ Let None (term_of old.nodes.items part.0) (term_of middle.nodes.items root.0) = added.term ∙ cc in
    record {
      names = added.names ∙ h.names;
      place = added.place ∙ h.place;
      made = added.made;
      keeps = record { longer = let l = added.keeps.longer in omega arith; same = λ id lt. added.keeps.same id (omega arith) ∙ h.keeps.same id lt };
      more = omega (arith, added.one, h.more, ap length e, length-append front (part ∷ []));
      below = split.0;
      root_below = omega (arith, added.last);
      term = ap (λ (t : Term). onto (terms_of old.nodes.items front) t) whole_is
          ∙ sym (ap (λ (l : List NodeId). onto (terms_of old.nodes.items l) (term_of middle.nodes.items root.0)) e
          ∙ ap (λ (l : List Term). onto l (term_of middle.nodes.items root.0)) (terms_push old.nodes.items front part) ∙ onto_push _ _ _)
          ∙ h.term;
      grows = λ start g.
          let regroup : ids left ++ root.0 ∷ [] ≡ ids front ++ part.0 ∷ root.0 ∷ [] = ap (λ (l : List ℕ). l ++ root.0 ∷ []) (ap ids e ∙ ids_push front part)
          ∙ append_assoc (ids front) (part.0 ∷ []) (root.0 ∷ []) in
          let two = grew_before_two start middle.nodes.items (ids front) part.0 root.0
          (subst (λ (l : List ℕ). GrowsBy start middle.nodes.items l) regroup (h.grows start g)) in
          grows_append start two.middle new.nodes.items (ids front) (whole.0 ∷ []) two.firsts (added.grows two.middle _ (IsPermutation-refl _) two.lasts);
    }
