-- How a list of nodes grows by whole trees.
use Rattle.std.specs.Prelude.{◌≡◌, IsPermutation, ℕ, ◌+◌, ◌<◌, ◌≤◌, List, [], ◌∷◌, ◌++◌, length}
use Rattle.fx_term.specs.declared.node.Node.{Node}
use Rattle.fx_term.specs.Meaning.{term_of}
use Rattle.fx_term.specs.Tree.{children}

-- Whole trees one after another, with these roots. Their nodes are numbered from a first number on, and a node stands right after the trees of its children, in
-- whatever order these are
pub data Trees : ℕ → List Node → List ℕ → Type 0 where
  empty : {from : ℕ} → Trees from [] []
  more : {from : ℕ} {all : List Node} {roots : List ℕ} (before below : List Node) (others parts : List ℕ) (n : Node)
      → Trees from before others → Trees (from + length before) below parts → IsPermutation parts (children n)
      → all ≡ before ++ (below ++ n ∷ []) → roots ≡ others ++ (from + length before + length below) ∷ []
      → Trees from all roots

-- the nodes after the old ones are whole trees with these roots
pub record GrowsBy (old new : List Node) (roots : List ℕ) : Type 0 where
  pub added : List Node
  pub is : new ≡ old ++ added
  pub trees : Trees (length old) added roots

-- the nodes before keep their terms
pub record Keeps (old new : List Node) : Type 0 where
  pub longer : length old ≤ length new
  pub same : (id : ℕ) → id < length old → term_of new id ≡ term_of old id

-- the numbers are below the bound
abbrev pub AllBelow : ℕ → List ℕ → Type 0
AllBelow bound [] = Unit {0}
AllBelow bound (c ∷ cs) = (c < bound) × AllBelow bound cs
