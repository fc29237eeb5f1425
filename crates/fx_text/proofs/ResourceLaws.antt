-- Resources made brackets, from the last to the first.
use Rattle.std.proofs.Common.{◌≡◌, ℕ, ◌+◌, ◌<◌, Some, List, [], ◌∷◌, ◌++◌, length, IsPermutation, refl, sym, ◌∙◌, ap, subst, arith, append_assoc}
use Rattle.std.proofs.lemmas.List.{length-append, map-append}
use Rattle.std.proofs.lemmas.List.Sorted.{IsPermutation-append_comm, IsPermutation-append_right}
use Rattle.fx_term.specs.declared.node.NodeId.{NodeId}
use Rattle.fx_term.specs.declared.node.Node.{Node}
use Rattle.fx_term.specs.declared.node.Node.TheVariants as node
use Rattle.fx_term.specs.Term.{Term, Bracket}
use Rattle.fx_term.specs.Meaning.{term_of}
use Rattle.fx_text.specs.declared.reader.Reader.{Reader}
use Rattle.fx_text.specs.declared.reader.resources.Resource.{Resource as CodeResource}
use Rattle.fx_text.specs.Group.{Resource}
use Rattle.fx_text.specs.Shape.{using}
use Rattle.fx_text.specs.Needs.{AreMade}
use Rattle.fx_text.specs.Trees.{AllBelow, GrowsBy, Keeps}
use Rattle.fx_text.specs.ReaderState.{Adds}
use Rattle.fx_text.specs.ResourceState.{resource_of, resources_of, roots_of, Nests}
use Rattle.fx_text.proofs.ReaderLaws.{grows_append, grew_before_three}

-- the last resource is acquired next to what uses them
using_push : (rs : List Resource) (r : Resource) (t : Term) → using (rs ++ r ∷ []) t ≡ using rs (Bracket (Some r.slot) r.acquire t r.release)
using_push [] r t = refl
using_push (q ∷ rs) r t = ap (λ (u : Term). Bracket (Some q.slot) q.acquire u q.release) (using_push rs r t)

-- a release stands before what is used in the text, and after it among the children of its bracket
release_first : (acquire used release : ℕ) → IsPermutation (acquire ∷ release ∷ used ∷ []) (acquire ∷ used ∷ release ∷ [])
release_first acquire used release = IsPermutation-append_right (acquire ∷ []) (release ∷ used ∷ []) (used ∷ release ∷ [])
    (IsPermutation-append_comm (release ∷ []) (used ∷ []))

pub resources_push : (nodes : List Node) (rs : List CodeResource) (r : CodeResource)
    → resources_of nodes (rs ++ r ∷ []) ≡ resources_of nodes rs ++ resource_of nodes r ∷ []
resources_push nodes rs r = map-append (resource_of nodes) rs (r ∷ [])

pub roots_push : (rs : List CodeResource) (r : CodeResource) → roots_of (rs ++ r ∷ []) ≡ roots_of rs ++ r.acquire.0 ∷ r.release.0 ∷ []
roots_push [] r = refl
roots_push (q ∷ rs) r = ap (λ (l : List ℕ). q.acquire.0 ∷ q.release.0 ∷ l) (roots_push rs r)

-- the terms of the nodes before stay
pub resources_kept : (old new : List Node) (rs : List CodeResource) → Keeps old new → AllBelow (length old) (roots_of rs)
    → resources_of new rs ≡ resources_of old rs
resources_kept old new [] keeps below = refl
resources_kept old new (r ∷ rs) keeps below =
    let a = keeps.same r.acquire.0 below.0 in
    let b = keeps.same r.release.0 below.1.0 in
    let g = resources_kept old new rs keeps below.1.1 in
    cc

-- the roots before the last one, and those of the last one
pub roots_below : (bound : ℕ) (all front : List CodeResource) (r : CodeResource) → all ≡ front ++ r ∷ [] → AllBelow bound (roots_of all)
    → AllBelow bound (roots_of front) × (r.acquire.0 < bound) × (r.release.0 < bound)
roots_below bound all front r e h = split front (subst (λ (l : List CodeResource). AllBelow bound (roots_of l)) e h)
  where
    split : (rs : List CodeResource) → AllBelow bound (roots_of (rs ++ r ∷ [])) → AllBelow bound (roots_of rs) × (r.acquire.0 < bound) × (r.release.0 < bound)
    split [] h = (tt, h.0, h.1.0)
    split (q ∷ rs) h = let k = split rs h.1.1 in ((h.0, (h.1.0, k.0)), k.1, k.2)

-- the resources before the last ones are left, and the last ones are brackets, with this root
pub record NestsLast (old new : Reader) (rs : List CodeResource) (used : ℕ) (left : List CodeResource) (root : ℕ) : Type 0 where
  pub names : new.names.items ≡ old.names.items
  pub place : new.place ≡ old.place
  pub made : AreMade new.nodes.items new.needs.items
  pub keeps : Keeps old.nodes.items new.nodes.items
  pub more : length new.nodes.items + length left ≡ length old.nodes.items + length rs
  pub below : AllBelow (length old.nodes.items) (roots_of left)
  pub root_below : root < length new.nodes.items
  pub term : using (resources_of old.nodes.items left) (term_of new.nodes.items root) ≡ using (resources_of old.nodes.items rs) (term_of old.nodes.items used)
  pub grows : (start : List Node) → GrowsBy start old.nodes.items (roots_of rs ++ used ∷ []) → GrowsBy start new.nodes.items (roots_of left ++ root ∷ [])

-- at first what uses them stands alone
pub nests_none : (old : Reader) (rs : List CodeResource) (used : ℕ) → AreMade old.nodes.items old.needs.items → AllBelow (length old.nodes.items) (roots_of rs)
    → used < length old.nodes.items → NestsLast old old rs used rs used
nests_none old rs used made below lt = record {
  names = refl;
  place = refl;
  made = made;
  keeps = record { longer = omega arith; same = λ id h. refl };
  more = refl;
  below = below;
  root_below = lt;
  term = refl;
  grows = λ start g. g;
}

module _ (old middle : Reader) (rs : List CodeResource) (used : ℕ) (left front : List CodeResource) (r : CodeResource) (root : NodeId)
    (e : left ≡ front ++ r ∷ []) (h : NestsLast old middle rs used left root.0) where
  -- the parts of the next bracket have nodes
  pub nests_parts : AllBelow (length middle.nodes.items) (r.acquire.0 ∷ root.0 ∷ r.release.0 ∷ [])
  nests_parts =
      let split = roots_below (length old.nodes.items) left front r e h.below in
      let longer = h.keeps.longer in
      let a = split.1 in
      let b = split.2 in
      (omega arith, (h.root_below, (omega arith, tt)))

  -- then each before it is made a bracket round it
  pub nests_more : (new : Reader) (whole : NodeId) → Adds middle new (node.Bracket (Some r.slot) r.acquire root r.release) whole.0
      → NestsLast old new rs used front whole.0
  nests_more new whole added =
      let split = roots_below (length old.nodes.items) left front r e h.below in
      let longer = h.keeps.longer in
      let a = split.1 in
      let b = split.2 in
      let acquire_is = added.keeps.same r.acquire.0 (omega arith) ∙ h.keeps.same r.acquire.0 split.1 in
      let release_is = added.keeps.same r.release.0 (omega arith) ∙ h.keeps.same r.release.0 split.2 in
      let root_is = added.keeps.same root.0 h.root_below in
      let whole_is : term_of new.nodes.items whole.0 ≡ Bracket (Some r.slot) (term_of old.nodes.items r.acquire.0) (term_of middle.nodes.items root.0)
      (term_of old.nodes.items r.release.0) = added.term ∙ cc in
      record {
        names = added.names ∙ h.names;
        place = added.place ∙ h.place;
        made = added.made;
        keeps = record { longer = let l = added.keeps.longer in omega arith; same = λ id lt. added.keeps.same id (omega arith) ∙ h.keeps.same id lt };
        more = omega (arith, added.one, h.more, ap length e, length-append front (r ∷ []));
        below = split.0;
        root_below = omega (arith, added.last);
        term = ap (λ (t : Term). using (resources_of old.nodes.items front) t) whole_is
            ∙ sym (ap (λ (l : List CodeResource). using (resources_of old.nodes.items l) (term_of middle.nodes.items root.0)) e
            ∙ ap (λ (l : List Resource). using l (term_of middle.nodes.items root.0)) (resources_push old.nodes.items front r) ∙ using_push _ _ _)
            ∙ h.term;
        grows = λ start g.
            let regroup : roots_of left ++ root.0 ∷ [] ≡ roots_of front ++ r.acquire.0 ∷ r.release.0 ∷ root.0 ∷ [] =
            ap (λ (l : List CodeResource). roots_of l ++ root.0 ∷ []) e ∙ ap (λ (l : List ℕ). l ++ root.0 ∷ []) (roots_push front r)
            ∙ append_assoc (roots_of front) (r.acquire.0 ∷ r.release.0 ∷ []) (root.0 ∷ []) in
            let three = grew_before_three start middle.nodes.items (roots_of front) r.acquire.0 r.release.0 root.0
            (subst (λ (l : List ℕ). GrowsBy start middle.nodes.items l) regroup (h.grows start g)) in
            grows_append start three.middle new.nodes.items (roots_of front) (whole.0 ∷ []) three.firsts
            (added.grows three.middle _ (release_first r.acquire.0 root.0 r.release.0) three.lasts);
      }

-- at last all are brackets
pub nests_all : (old new : Reader) (rs : List CodeResource) (used : ℕ) (left : List CodeResource) (root : ℕ) → length left ≡ 0
    → NestsLast old new rs used left root → Nests old new rs used root
nests_all old new rs used [] root e h = record {
  names = h.names;
  place = h.place;
  made = h.made;
  keeps = h.keeps;
  more = omega (arith, h.more);
  term = h.term;
  grows = h.grows;
}
nests_all old new rs used (r ∷ left) root e h = absurd (omega arith)
