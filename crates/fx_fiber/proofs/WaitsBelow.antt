-- What a machine waits for, from the leaf below it.
use Rattle.std.proofs.Common.{◌≡◌, ℕ, Option, Some, None, List, length, refl, sym, ◌∙◌, ap}
use Rattle.std.specs.Prelude.{option_and_then, slice_get}
use Rattle.fx_term.specs.declared.node.Node.{Node}
use Rattle.fx_term.specs.declared.node.Node.TheVariants as node
use Rattle.fx_term.specs.declared.node.NodeId.{NodeId}
use Rattle.fx_term.specs.declared.done.Done.{Done}
use Rattle.fx_term.specs.declared.outcome.Outcome.{Outcome}
use Rattle.fx_term.specs.Term.{Term, Finished}
use Rattle.fx_term.specs.Term as term
use Rattle.fx_term.specs.Meaning.{term_of}
use Rattle.fx_model.specs.Path.{leaf}
use Rattle.fx_model.specs.Step.{Progress, leaf_at}
use Rattle.fx_model.specs.declared.source.Source.{Source}
use Rattle.fx_model.specs.declared.source.Source.TheVariants as source
use Rattle.fx_model.specs.Waiting.{wait_at}
use Rattle.fx_fiber.specs.declared.machine.focus.Focus.TheVariants.{Return, Turn, Await, Unwinding, Ended}
use Rattle.fx_fiber.specs.declared.machine.unwound.Unwound.{Unwound}
use Rattle.fx_fiber.specs.declared.machine.Machine.{Machine}
use Rattle.fx_fiber.specs.Machine.{loop_of, loop_at, within, running, unwinding, progress_of}
use Rattle.fx_fiber.specs.Sound.{IsSoundMachine, IsLoopIn}
use Rattle.fx_fiber.specs.LeafBelow.{IsLeafBelow, term_at}
use Rattle.fx_fiber.specs.declared.machine.leaf_below.LeafBelow.{LeafBelow}
use Rattle.fx_fiber.proofs.Contexts.{leaf_within}
use Rattle.fx_fiber.proofs.Rules.{IsLeafTerm}
use Rattle.fx_fiber.proofs.Nodes.{leaf_of_node, progress_is}

-- what it waits for that is so far
abbrev waits : Progress → Option Source
waits p = option_and_then wait_at (leaf_at p)

module _ (nodes : List Node) (s : Machine) where
  -- what the term waits for that stands inside all contexts
  inside : (left : Option Unwound) (t : Term) → waits (running nodes s.registers left (within nodes s.registers s.frames s.masks.regions t)) ≡ wait_at (leaf t)
  inside None t = ap wait_at (leaf_within nodes s.registers s.frames s.masks.regions t)
  inside (Some left) t = ap wait_at (leaf_within nodes s.registers s.frames s.masks.regions t)

-- it is what the leaf below waits for
pub waits_below : (nodes : List Node) (s : Machine) (l : LeafBelow) → IsLeafBelow nodes s l
    → wait_at (term_at nodes s.registers l.node) ≡ waits (progress_of nodes s)
waits_below nodes s l below =
    let t = below.down.inside in
    let sound = below.down.same.sound in
    let term = term_at nodes t.registers l.node in
    let is_leaf : IsLeafTerm t.masks.regions term = leaf_of_node t.masks.regions (length t.registers) t.registers (term_of nodes) l.node below.is_leaf in
    let here : progress_of nodes t ≡ running nodes t.registers t.cleanups (within nodes t.registers t.frames t.masks.regions term) =
    progress_is nodes t.registers t.frames t.masks t.cleanups t.focus l.id l.node below.down.focus below.node sound term refl in
    let registers : t.registers ≡ s.registers = below.down.registers in
    let there : waits (progress_of nodes t) ≡ wait_at term = ap waits here ∙ inside nodes t t.cleanups term ∙ ap wait_at is_leaf.is_leaf in
    ap (λ (ns : List ℕ). wait_at (term_at nodes ns l.node)) (sym registers) ∙ sym there ∙ ap waits below.down.same.progress

pub waits_at_await : (nodes : List Node) (s : Machine) (f : ℕ) → s.focus ≡ Await f → Some (source.Outcome f) ≡ waits (progress_of nodes s)
waits_at_await nodes s f here = rw here (sym (inside nodes s s.cleanups (term.Await f)))

-- at a result, before a turn of a loop, between clean-ups and at its end a machine waits for nothing
module _ (nodes : List Node) (s : Machine) (sound : IsSoundMachine nodes s) where
  loop_waits : (n : Option Node) (turn : ℕ) → IsLoopIn nodes sound.bound n → wait_at (leaf (loop_of nodes s.registers n turn)) ≡ None
  loop_waits (Some (node.For i n a)) turn h = refl
  loop_waits _ turn h = absurd h

  unwinding_waits : (left : Option Unwound) → waits (unwinding nodes s.registers left) ≡ None
  unwinding_waits None = refl
  unwinding_waits (Some left) = refl

  pub result_does_not_wait : (v : Done) → s.focus ≡ Return v → None ≡ waits (progress_of nodes s)
  result_does_not_wait v here = rw here (sym (inside nodes s s.cleanups (Finished v)))

  pub turn_does_not_wait : (id : NodeId) (turn : ℕ) → s.focus ≡ Turn id turn → None ≡ waits (progress_of nodes s)
  turn_does_not_wait id turn here =
      let none = loop_waits (slice_get nodes id.0) turn (rw here at sound.focus_in) in
      rw here (sym (inside nodes s s.cleanups (loop_at nodes s.registers id turn) ∙ none))

  pub unwinding_does_not_wait : s.focus ≡ Unwinding → None ≡ waits (progress_of nodes s)
  unwinding_does_not_wait here = rw here (sym (unwinding_waits s.cleanups))

  pub end_does_not_wait : (o : Outcome) → s.focus ≡ Ended o → None ≡ waits (progress_of nodes s)
  end_does_not_wait o here = rw here refl
