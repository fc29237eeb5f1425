-- A form with no part, and the nodes that are made of parts.
use Rattle.std.proofs.Common.{◌≡◌, ℕ, Result, Ok, Err, List, [], All, IsPermutation, refl, sym, ◌∙◌, ap, subst, arith}
use Rattle.std.proofs.lemmas.List.Sorted.{IsPermutation-refl}
use Rattle.std.specs.Borrow.{Bor}
use Rattle.fx_term.specs.declared.node.NodeId.{NodeId}
use Rattle.fx_term.specs.declared.node.Node.{Node}
use Rattle.fx_term.specs.Term.{Term, Never}
use Rattle.fx_term.specs.Meaning.{term_of}
use Rattle.fx_term.specs.Tree.{children}
use Rattle.fx_term.proofs.NodeTerms.{assemble_same}
use Rattle.fx_text.specs.Limits.{form_spares}
use Rattle.fx_text.specs.declared.fault.ReadError.{ReadError}
use Rattle.fx_text.specs.declared.fault.ReadError.TheVariants as errors
use Rattle.fx_text.specs.declared.reader.Reader.{Reader}
use Rattle.fx_text.specs.Group.{OfTerm}
use Rattle.fx_text.specs.Shape.{ends}
use Rattle.fx_text.specs.Reading.{GroupReading, parts_at}
use Rattle.fx_text.specs.ReaderState.{Adds, Ends, ReadsTerm}
use Rattle.fx_text.specs.Head.{leaf_term}
use Rattle.fx_text.proofs.ReaderLaws.{grows_none}

module _ (old new : Reader) (n : Node) (bytes : List ℕ) (none : children n ≡ []) where
  leaf_is : (root : ℕ) → Adds old new n root → leaf_term n ≡ term_of new.nodes.items root
  leaf_is root added = assemble_same n (λ _. Never) (term_of new.nodes.items)
      (subst (λ (l : List ℕ). All (λ c. Never ≡ term_of new.nodes.items c) l) (sym none) (λ k d lt. absurd (omega arith))) ∙ sym added.term

  -- the `)` and the node are read, or the fault of what stands there
  pub leaf_ended : (each : GroupReading) (result : Result (NodeId × Bor (List ℕ)) ReadError) → Ends old new n bytes result
      → ReadsTerm form_spares old new bytes (parts_at {g = OfTerm} each (ends (leaf_term n)) bytes) result
  leaf_ended each (Ok x) e = record {
    read = rw e.closed (ap (λ (t : Term). Ok (t, x.1.now)) (leaf_is x.0.0 e.added));
    went = record {
      names = e.added.names;
      place = e.added.place;
      made = e.added.made;
      keeps = e.added.keeps;
      last = e.added.last;
      paid = omega (arith, e.added.one, e.shorter);
      shorter = e.shorter;
    };
    grows = e.added.grows old.nodes.items [] (subst (λ (cs : List ℕ). IsPermutation [] cs) (sym none) (IsPermutation-refl []))
        (grows_none old.nodes.items);
  }
  leaf_ended each (Err errors.Memory) e = tt
  leaf_ended each (Err (errors.Fault f)) e = rw e refl
