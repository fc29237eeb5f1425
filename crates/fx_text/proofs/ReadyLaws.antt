-- What can be read next.
use Rattle.std.proofs.Common.{◌≡◌, ℕ, ◌+◌, ◌*◌, ◌≤◌, List, length, ap, arith}
use Rattle.fx_term.specs.declared.node.NodeId.{NodeId}
use Rattle.fx_text.specs.Limits.{term_spares}
use Rattle.fx_text.specs.declared.reader.Reader.{Reader}
use Rattle.fx_text.specs.declared.reader.head.Inner.{Inner}
use Rattle.fx_text.specs.declared.reader.head.Inner.TheVariants as inner
use Rattle.fx_text.specs.declared.place.Place.{Place}
use Rattle.fx_text.specs.Needs.{AreMade}
use Rattle.fx_text.specs.ReaderState.{IsReady, Went, WentThrough}
use Rattle.fx_text.specs.Head.{spared, Enters}

-- the bytes that were read since pay for more that are left over
pub ready_more : (spared more : ℕ) (r : Reader) (bytes rest : List ℕ) → IsReady spared r bytes → length rest + more ≤ length bytes + spared
    → IsReady more r rest
ready_more spared more r bytes rest ready le = record {
  made = ready.made;
  names_fit = omega (arith, ready.names_fit);
  nodes_fit = omega (arith, ready.nodes_fit);
  outside = ready.outside;
  some_turns = ready.some_turns;
  few_turns = ready.few_turns;
  few_queues = ready.few_queues;
}

pub ready_less : (spared : ℕ) (r : Reader) (bytes : List ℕ) → IsReady spared r bytes → IsReady 0 r bytes
ready_less spared r bytes ready = ready_more spared 0 r bytes bytes ready (omega arith)

-- what a part has to spare is no more than a form has
pub ready_spared : (i : Inner) (r : Reader) (bytes : List ℕ) → IsReady 2 r bytes → IsReady (spared i) r bytes
ready_spared i r bytes ready = ready_more 2 (spared i) r bytes bytes ready (let h = spared_few i in omega arith)
  where
    spared_few : (i : Inner) → spared i ≤ 2
    spared_few inner.Same = omega arith
    spared_few (inner.Name k x) = omega arith
    spared_few inner.Elsewhere = omega arith
    spared_few inner.RaceLeft = omega arith
    spared_few inner.RaceRight = omega arith
    spared_few (inner.Loop n x) = omega arith
    spared_few inner.Outcome = omega arith
    spared_few (inner.OutcomeUnder x) = omega arith

-- nodes were made since, which the bytes that were read pay for
pub ready_made : (spared more : ℕ) (old new : Reader) (bytes rest : List ℕ) → IsReady spared old bytes → new.names.items ≡ old.names.items
    → new.place ≡ old.place → AreMade new.nodes.items new.needs.items → length rest + more ≤ length bytes + spared
    → length new.nodes.items + 8 * (length rest + more) ≤ length old.nodes.items + 8 * (length bytes + spared) → IsReady more new rest
ready_made spared more old new bytes rest ready names place made le paid = record {
  made = made;
  names_fit = omega (arith, ready.names_fit, ap length names);
  nodes_fit = omega (arith, ready.nodes_fit);
  outside = omega (arith, ready.outside, ap length names, ap (λ (at : Place). at.foreign) place);
  some_turns = omega (arith, ready.some_turns, ap (λ (at : Place). at.turns) place);
  few_turns = omega (arith, ready.few_turns, ap (λ (at : Place). at.turns) place);
  few_queues = omega (arith, ready.few_queues, ap (λ (at : Place). length at.queues.now) place);
}

-- after a term as before it
pub ready_after : (spared : ℕ) (old new : Reader) (root : ℕ) (bytes rest : List ℕ) → IsReady spared old bytes → Went term_spares old new root bytes rest
    → IsReady spared new rest
ready_after spared old new root bytes rest ready w = ready_made spared spared old new bytes rest ready w.names w.place w.made
    (omega (arith, w.shorter)) (omega (arith, w.paid))

-- and after terms, any number
pub ready_through : (spared : ℕ) (old new : Reader) (roots : List NodeId) (bytes rest : List ℕ) → IsReady spared old bytes
    → WentThrough old new roots bytes rest → IsReady spared new rest
ready_through spared old new roots bytes rest ready w = ready_made spared spared old new bytes rest ready w.names w.place w.made
    (omega (arith, w.shorter)) (omega (arith, w.paid))

-- in the scope of a part
pub ready_in : (i : Inner) (old new : Reader) (bytes : List ℕ) → IsReady (spared i) old bytes → Enters i old new → IsReady 0 new bytes
ready_in i old new bytes ready e = record {
  made = rw (e.nodes, e.needs) ready.made;
  names_fit = omega (arith, ready.names_fit, e.longer);
  nodes_fit = omega (arith, ready.nodes_fit, ap length e.nodes);
  outside = e.outside;
  some_turns = e.some_turns;
  few_turns = e.few_turns;
  few_queues = e.few_queues;
}
