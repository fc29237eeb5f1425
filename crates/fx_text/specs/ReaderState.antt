-- What is known of the reader before and after it reads.
use Rattle.std.specs.Prelude.{◌≡◌, IsPermutation, ℕ, ◌+◌, ◌*◌, ◌<◌, ◌≤◌, Some, Result, Ok, Err, List, [], ◌∷◌, length, map}
use Rattle.std.specs.Borrow.{Bor}
use Rattle.fx_term.specs.declared.node.NodeId.{NodeId}
use Rattle.fx_term.specs.declared.node.Node.{Node}
use Rattle.fx_term.specs.Term.{Term}
use Rattle.fx_term.specs.Meaning.{assemble, term_of}
use Rattle.fx_term.specs.Tree.{children}
use Rattle.fx_term.specs.Turns.{most_turns}
use Rattle.fx_text.specs.declared.fault.ReadError.{ReadError}
use Rattle.fx_text.specs.declared.reader.Reader.{Reader}
use Rattle.fx_text.specs.Limits.{most_bytes, most_queues, most_nodes, term_spares}
use Rattle.fx_text.specs.Scope.{Scope}
use Rattle.fx_text.specs.ScopeView.{scope}
use Rattle.fx_text.specs.Shape.{seq}
use Rattle.fx_text.specs.Reading.{Read, closing_at}
use Rattle.fx_text.specs.Given.{Fails}
use Rattle.fx_text.specs.Needs.{AreMade}
use Rattle.fx_text.specs.Trees.{AllBelow, GrowsBy, Keeps}

-- where the reader stands
abbrev pub scope_of : Reader → Scope
scope_of r = scope r.names.items r.place

-- before: a byte was paid for each name in scope and for each eight nodes, with so many bytes left over, no more names are bound outside of the fiber than are
-- in scope, the loops round have one to the most turns, and there are no more queues than the most
pub record IsReady (spared : ℕ) (r : Reader) (bytes : List ℕ) : Type 0 where
  pub made : AreMade r.nodes.items r.needs.items
  pub names_fit : length r.names.items + (length bytes + spared) ≤ most_bytes
  pub nodes_fit : length r.nodes.items + 8 * (length bytes + spared) ≤ most_nodes
  pub outside : r.place.foreign ≤ length r.names.items
  pub some_turns : 0 < r.place.turns
  pub few_turns : r.place.turns ≤ most_turns
  pub few_queues : length r.place.queues.now ≤ most_queues

-- after: the names in scope and the place are as before, the new root is the last node, and the new nodes were paid for, with so many nodes left over
pub record Went (spared : ℕ) (old new : Reader) (root : ℕ) (bytes rest : List ℕ) : Type 0 where
  pub names : new.names.items ≡ old.names.items
  pub place : new.place ≡ old.place
  pub made : AreMade new.nodes.items new.needs.items
  pub keeps : Keeps old.nodes.items new.nodes.items
  pub last : root + 1 ≡ length new.nodes.items
  pub paid : length new.nodes.items + 8 * length rest + spared ≤ length old.nodes.items + 8 * length bytes
  pub shorter : length rest < length bytes

-- a term was read: the new nodes are its tree
pub record IsRead (spared : ℕ) (old new : Reader) (root : ℕ) (bytes rest : List ℕ) (reading : Read Term) : Type 0 where
  pub read : reading ≡ Ok (term_of new.nodes.items root, rest)
  pub went : Went spared old new root bytes rest
  pub grows : GrowsBy old.nodes.items new.nodes.items (root ∷ [])

-- a term was read, or the first fault, as reading has it; or memory ran out
abbrev pub ReadsTerm : ℕ → Reader → Reader → List ℕ → Read Term → Result (NodeId × Bor (List ℕ)) ReadError → Type 0
ReadsTerm spared old new bytes reading (Ok x) = IsRead spared old new x.0.0 bytes x.1.now reading
ReadsTerm spared old new bytes reading (Err e) = Fails e reading

-- a node was added
pub record Adds (old new : Reader) (n : Node) (root : ℕ) : Type 0 where
  pub names : new.names.items ≡ old.names.items
  pub place : new.place ≡ old.place
  pub made : AreMade new.nodes.items new.needs.items
  pub keeps : Keeps old.nodes.items new.nodes.items
  pub last : root + 1 ≡ length new.nodes.items
  pub one : length new.nodes.items ≡ length old.nodes.items + 1
  pub term : term_of new.nodes.items root ≡ assemble (Some n) (term_of new.nodes.items)
  pub grows : (start : List Node) (parts : List ℕ) → IsPermutation parts (children n) → GrowsBy start old.nodes.items parts
      → GrowsBy start new.nodes.items (root ∷ [])

-- the `)` was read, and then a node was added
pub record Closes (old new : Reader) (n : Node) (root : ℕ) (bytes rest : List ℕ) : Type 0 where
  pub closed : closing_at bytes ≡ Ok (tt, rest)
  pub shorter : length rest < length bytes
  pub added : Adds old new n root

-- or what stands there is no `)`; or memory ran out
abbrev pub Ends : Reader → Reader → Node → List ℕ → Result (NodeId × Bor (List ℕ)) ReadError → Type 0
Ends old new n bytes (Ok x) = Closes old new n x.0.0 bytes x.1.now
Ends old new n bytes (Err e) = Fails e (closing_at bytes)

abbrev pub ids : List NodeId → List ℕ
ids = map λ root. root.0

-- after terms, any number: the same of their roots
pub record WentThrough (old new : Reader) (roots : List NodeId) (bytes rest : List ℕ) : Type 0 where
  pub names : new.names.items ≡ old.names.items
  pub place : new.place ≡ old.place
  pub made : AreMade new.nodes.items new.needs.items
  pub keeps : Keeps old.nodes.items new.nodes.items
  pub below : AllBelow (length new.nodes.items) (ids roots)
  pub paid : length new.nodes.items + 8 * length rest + term_spares * length roots ≤ length old.nodes.items + 8 * length bytes
  pub shorter : length rest ≤ length bytes

-- terms were made one, which does them in order, by one node more for each but the last
pub record Joins (old new : Reader) (first : NodeId) (others : List NodeId) (root : ℕ) : Type 0 where
  pub names : new.names.items ≡ old.names.items
  pub place : new.place ≡ old.place
  pub made : AreMade new.nodes.items new.needs.items
  pub keeps : Keeps old.nodes.items new.nodes.items
  pub more : length new.nodes.items ≡ length old.nodes.items + length others
  pub term : term_of new.nodes.items root ≡ seq (term_of old.nodes.items first.0) (map (λ part. term_of old.nodes.items part.0) others)
  pub grows : (start : List Node) → GrowsBy start old.nodes.items (ids (first ∷ others)) → GrowsBy start new.nodes.items (root ∷ [])
