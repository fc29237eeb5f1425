-- Terms that were read, one after another.
use Rattle.std.proofs.Common.{◌≡◌, ℕ, ◌<◌, ◌≤◌, List, [], ◌∷◌, ◌++◌, length, sym, ◌∙◌, subst, arith}
use Rattle.std.proofs.lemmas.List.{length-append}
use Rattle.fx_term.specs.declared.node.NodeId.{NodeId}
use Rattle.fx_text.specs.Limits.{term_spares}
use Rattle.fx_text.specs.declared.reader.Reader.{Reader}
use Rattle.fx_text.specs.Trees.{AllBelow}
use Rattle.fx_text.specs.ReaderState.{scope_of, ids, Went, WentThrough}
use Rattle.fx_text.proofs.SequenceLaws.{ids_push}

pub same_scope : (old new : Reader) → new.names.items ≡ old.names.items → new.place ≡ old.place → scope_of new ≡ scope_of old
same_scope old new names place = cc

pub below_push : (bound more c : ℕ) (cs : List ℕ) → bound ≤ more → c < more → AllBelow bound cs → AllBelow more (cs ++ c ∷ [])
below_push bound more c [] le lt h = (lt, tt)
below_push bound more c (d ∷ cs) le lt h = (let g = h.0 in omega arith, below_push bound more c cs le lt h.1)

pub through_one : (old new : Reader) (root : NodeId) (bytes rest : List ℕ) → Went term_spares old new root.0 bytes rest
    → WentThrough old new (root ∷ []) bytes rest
through_one old new root bytes rest w = record {
  names = w.names;
  place = w.place;
  made = w.made;
  keeps = w.keeps;
  below = (omega (arith, w.last), tt);
  paid = omega (arith, w.paid);
  shorter = omega (arith, w.shorter);
}

pub through_more : (old middle new : Reader) (roots : List NodeId) (root : NodeId) (bytes rest after : List ℕ) → WentThrough old middle roots bytes rest
    → Went term_spares middle new root.0 rest after → WentThrough old new (roots ++ root ∷ []) bytes after
through_more old middle new roots root bytes rest after t w = record {
  names = w.names ∙ t.names;
  place = w.place ∙ t.place;
  made = w.made;
  keeps = record {
    longer = let l = w.keeps.longer in let k = t.keeps.longer in omega arith;
    same = λ id lt. w.keeps.same id (let k = t.keeps.longer in omega arith) ∙ t.keeps.same id lt;
  };
  below = subst (λ (l : List ℕ). AllBelow (length new.nodes.items) l) (sym (ids_push roots root))
      (below_push (length middle.nodes.items) (length new.nodes.items) root.0 (ids roots) w.keeps.longer (omega (arith, w.last)) t.below);
  paid = omega (arith, w.paid, t.paid, length-append roots (root ∷ []));
  shorter = omega (arith, w.shorter, t.shorter);
}
