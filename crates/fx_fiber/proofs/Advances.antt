-- What a fiber makes in a step, from what came before the rule of its place, and from that rule.
use Rattle.std.proofs.Common.{◌≡◌, ℕ, Bool, true, false, Option, Some, None, List, refl, sym, ◌∙◌, ap, append-nil}
use Rattle.std.specs.Prelude.{◌&&◌, ◌||◌, not, slice_get}
use Rattle.std.specs.Bool.{OnTrue}
use Rattle.fx_term.specs.declared.node.NodeId.{NodeId}
use Rattle.fx_term.specs.declared.node.Node.{Node}
use Rattle.fx_term.specs.declared.node.Node.TheVariants as node
use Rattle.fx_term.specs.declared.done.Done.{Done}
use Rattle.fx_term.specs.declared.event.Event.TheVariants as event
use Rattle.fx_model.specs.Path.{is_canceled_form}
use Rattle.fx_model.specs.Row.{Counts}
use Rattle.fx_model.specs.Step.{leaf_at, looks_first}
use Rattle.fx_fiber.specs.StampedRun.{next_stamp}
use Rattle.fx_fiber.specs.Theory.{Theory}
use Rattle.fx_fiber.specs.declared.machine.focus.Focus.TheVariants.{Return, Turn, Await, Unwinding}
use Rattle.fx_fiber.specs.declared.machine.unwound.Unwound.{Unwound}
use Rattle.fx_fiber.specs.declared.machine.interruption.Interruption.{Interruption}
use Rattle.fx_fiber.specs.declared.machine.interruption.Interruption.TheVariants.{Cancellation, Request}
use Rattle.fx_fiber.specs.declared.machine.made.Made.{Made}
use Rattle.fx_fiber.specs.declared.machine.made.Made.TheVariants as made
use Rattle.fx_fiber.specs.declared.machine.Machine.{Machine}
use Rattle.fx_fiber.specs.Machine.{loop_of, unwinding, progress_of}
use Rattle.fx_fiber.specs.Sound.{IsSoundMachine}
use Rattle.fx_fiber.specs.Leaves.{IsLeafNode, is_canceled_node, is_silent_node}
use Rattle.fx_fiber.specs.Places.{IsSame, IsEvaluating, IsInside, is_open_machine, must_cancel_machine}
use Rattle.fx_fiber.specs.Makes.{Makes, MakesRule}
use Rattle.fx_fiber.specs.Interruption.{Interrupts, IsInterrupted, ComesFirst}
use Rattle.fx_fiber.specs.MakesCall.{MakesCall}
use Rattle.fx_fiber.specs.Advances.{Advances}
use Rattle.fx_fiber.proofs.Leaves.{canceled_at}
use Rattle.fx_fiber.proofs.Looks.{looks_first_before, none_due, not_due_after, due_where_open, asks_by_rule, rule_is_own}
use Rattle.fx_fiber.proofs.Fibers.{await_unlooked}
use Rattle.fx_fiber.proofs.Calls.{local_call, raised_by_nothing}

pub inside_leaf : (nodes : List Node) (s : Machine) (id : NodeId) (n : Node) (b : Bool) → IsEvaluating nodes s id n → IsLeafNode (Some n)
    → b ≡ is_canceled_node n → IsInside nodes s b
inside_leaf nodes s id n b at leaf e = record {
  sound = at.sound;
  going = rw at.focus tt;
  entered = rw (at.focus, at.node) leaf;
  canceled = canceled_at nodes s id n at ∙ sym e;
}

silent_is_leaf : (n : Node) → is_silent_node n ≡ true → IsLeafNode (Some n)
silent_is_leaf (node.Pure a) e = tt
silent_is_leaf (node.Raise a) e = tt
silent_is_leaf (node.If v a b) e = tt
silent_is_leaf (node.For i c a) e = tt
silent_is_leaf (node.Mask p a) e = tt
silent_is_leaf (node.Poll p a) e = tt
silent_is_leaf _ e = cc

silent_is_other : (n : Node) → is_silent_node n ≡ true → false ≡ is_canceled_node n
silent_is_other node.Canceled e = cc
silent_is_other _ e = refl

-- a leaf whose rule is silent is another than `canceled`
pub inside_silent : (nodes : List Node) (s : Machine) (id : NodeId) (n : Node) → IsEvaluating nodes s id n → is_silent_node n ≡ true
    → IsInside nodes s false
inside_silent nodes s id n at e = inside_leaf nodes s id n false at (silent_is_leaf n e) (silent_is_other n e)

-- no `canceled` stands there, where this is so
pub inside_other : (nodes : List Node) (s : Machine) (b : Bool) → IsInside nodes s b → OnTrue (not b) (IsInside nodes s false)
inside_other nodes s true h = tt
inside_other nodes s false h = h

pub inside_result : (nodes : List Node) (s : Machine) (v : Done) → IsSoundMachine nodes s → s.focus ≡ Return v → IsInside nodes s false
inside_result nodes s v sound e = record { sound = sound; going = rw e tt; entered = rw e tt; canceled = rw e refl }

pub inside_loop : (nodes : List Node) (s : Machine) (id : NodeId) (turn : ℕ) → IsSoundMachine nodes s → s.focus ≡ Turn id turn → IsInside nodes s false
inside_loop nodes s id turn sound e = record { sound = sound; going = rw e tt; entered = rw e tt; canceled = rw e (by_node (slice_get nodes id.0)) }
  where
    by_node : (o : Option Node) → is_canceled_form (loop_of nodes s.registers o turn) ≡ false
    by_node (Some (node.For i n a)) = refl
    by_node _ = refl

-- the test of cancellation is that of the fiber
due_is : (nodes : List Node) (s : Machine) (b : Bool) → IsInside nodes s b → (is_open_machine s && (s.known || b)) ≡ must_cancel_machine nodes s
due_is nodes s b inside = rw inside.canceled refl

pub same_trans : (nodes : List Node) (a b c : Machine) → IsSame nodes a b → IsSame nodes b c → IsSame nodes a c
same_trans nodes a b c h k = record { sound = k.sound; progress = k.progress ∙ h.progress; counts = k.counts ∙ h.counts }

pub same_here : (nodes : List Node) (s : Machine) → IsSoundMachine nodes s → IsSame nodes s s
same_here nodes s sound = record { sound = sound; progress = refl; counts = refl }

-- what is made of a fiber that has come no further is made of it
makes_before : (nodes : List Node) (old s : Machine) (m : Made) (s' : Machine) → IsSame nodes old s → Makes nodes s m s' → Makes nodes old m s'
makes_before nodes old s (made.Waits w) s' same h =
    let known : s.known ≡ old.known = ap (λ (c : Counts). c.known) same.counts in
    record {
      leaf = rw same.progress at h.leaf;
      free = rw (known, same.progress) at h.free;
      same = same_trans nodes old s s' same h.same;
    }
makes_before nodes old s made.Yielded s' same h = (rw same.progress at h.0, rw (same.counts, same.progress) at h.1)
makes_before nodes old s made.Silent s' same h = (rw same.progress at h.0, rw (same.counts, same.progress) at h.1)
makes_before nodes old s (made.Shows e) s' same h = rw (same.counts, same.progress) at h
makes_before nodes old s (made.Learns f o e) s' same h = rw (same.counts, same.progress) at h
makes_before nodes old s (made.Starts x a b) s' same h = record { same = same_trans nodes old s s' same h.same; id = h.id; stands = h.stands }

module _ {P S : Type 0} (theory : Theory P S) (old s : Machine) (b : Bool) (k k' : ℕ) (p p' : P) (sh sh' : S)
    (same : IsSame theory.code old s) (inside : IsInside theory.code s b) where
  -- what comes first interrupts the fiber
  pub is_interrupted : (i : Interruption) → ComesFirst theory (is_open_machine s) (is_open_machine s && (s.known || b)) (Some i) k p sh k' p' sh'
      → IsInterrupted theory.code s i
  is_interrupted Cancellation first =
      record { sound = inside.sound; going = inside.going; entered = inside.entered; opened = first.0; due = sym (due_is theory.code s b inside) ∙ first.1 }
  is_interrupted Request first =
      record { sound = inside.sound; going = inside.going; entered = inside.entered; opened = first.0; due = sym (due_is theory.code s b inside) ∙ first.1 }

  pub interrupted_advances : (i : Interruption) (m : Made) (s' : Machine)
      → ComesFirst theory (is_open_machine s) (is_open_machine s && (s.known || b)) (Some i) k p sh k' p' sh'
      → theory.facts p' ≡ theory.facts p → Interrupts theory.code s i m s' → Advances theory k old p sh m k' s' p' sh'
  interrupted_advances Cancellation m s' first framed h =
      let due : looks_first old.known (progress_of theory.code old) ≡ false = looks_first_before theory.code old s same inside.sound inside.going inside.entered
      ∙ not_due_after _ _ (sym (due_is theory.code s b inside) ∙ first.1) in
      rw h.shows
      (record {
        cause = 0;
        raises = raised_by_nothing (made.Shows event.Cancelled) k k' first.2;
        sound = h.sound;
        rule = makes_before theory.code old s (made.Shows event.Cancelled) s' same (rw h.shows at h.rule);
        own = tt;
        asks = (none_due theory.calls _ _ _ due, (first.3, first.4));
        agreed = λ ds h. rw (append-nil, first.3) h;
        facts_are = framed;
      })
  interrupted_advances Request m s' first framed h =
      rw h.shows
      (record {
        cause = first.2.cause;
        raises = record { raised = first.2.raised; none = λ h. absurd h };
        sound = h.sound;
        rule = makes_before theory.code old s (made.Shows event.Seen) s' same (rw h.shows at h.rule);
        own = tt;
        asks = first.2.told;
        agreed = first.2.done;
        facts_are = framed;
      })

  -- cancellation is not due where nothing comes first
  pub is_free : ComesFirst theory (is_open_machine s) (is_open_machine s && (s.known || b)) None k p sh k' p' sh' → must_cancel_machine theory.code s ≡ false
  is_free first = sym (due_is theory.code s b inside) ∙ first.0

  pub rule_advances : (m : Made) (k'' : ℕ) (s' : Machine) (p'' : P) (sh'' : S)
      → ComesFirst theory (is_open_machine s) (is_open_machine s && (s.known || b)) None k p sh k' p' sh'
      → MakesCall theory k' s p' sh' m k'' s' p'' sh'' → Advances theory k old p sh m k'' s' p'' sh''
  rule_advances m k'' s' p'' sh'' first made =
      let due : looks_first old.known (progress_of theory.code old) ≡ is_open_machine s =
      looks_first_before theory.code old s same inside.sound inside.going inside.entered ∙ due_where_open _ _ (is_free first) in
      record {
        cause = made.cause;
        raises = rw first.2 at made.raises;
        sound = made.sound;
        rule = makes_before theory.code old s m s' same made.rule;
        own = rule_is_own m made.own;
        asks = asks_by_rule theory.calls (next_stamp k made.cause) made.cause _ (leaf_at (progress_of theory.code old)) m p p'' sh sh'' made.own
            (rw due first.1) (rw (same.progress, first.2, first.3, first.4) at made.told);
        agreed = rw (first.2, first.3) at made.agreed;
        facts_are = rw first.3 at made.facts_are;
      }

-- where no look is due, what is made is what the rule of the place makes
call_advances : {P S : Type 0} (theory : Theory P S) (k k' : ℕ) (s : Machine) (m : Made) (s' : Machine) (p p' : P) (sh sh' : S)
    → looks_first s.known (progress_of theory.code s) ≡ false → MakesCall theory k s p sh m k' s' p' sh' → Advances theory k s p sh m k' s' p' sh'
call_advances theory k k' s m s' p p' sh sh' unlooked call = record {
  cause = call.cause;
  raises = call.raises;
  sound = call.sound;
  rule = call.rule;
  own = rule_is_own m call.own;
  asks = asks_by_rule theory.calls (next_stamp k call.cause) call.cause _ (leaf_at (progress_of theory.code s)) m p p' sh sh' call.own
      (none_due theory.calls _ _ _ unlooked) call.told;
  agreed = call.agreed;
  facts_are = call.facts_are;
}

-- between two clean-ups nothing comes first
pub unwinding_advances : {P S : Type 0} (theory : Theory P S) (k : ℕ) (s : Machine) (m : Made) (s' : Machine) (p : P) (sh : S)
    → s.focus ≡ Unwinding → MakesRule theory.code s m s' → Advances theory k s p sh m k s' p sh
unwinding_advances theory k s m s' p sh e made =
    call_advances theory k k s m s' p p sh sh (rw e (by_left s.cleanups)) (local_call theory k k s p p sh sh m s' refl refl refl made)
  where
    by_left : (left : Option Unwound) → looks_first s.known (unwinding theory.code s.registers left) ≡ false
    by_left None = refl
    by_left (Some c) = refl

-- a fiber that awaits one that it canceled is not interrupted
pub await_advances : {P S : Type 0} (theory : Theory P S) (k k' : ℕ) (s : Machine) (f : ℕ) (m : Made) (s' : Machine) (p p' : P) (sh sh' : S)
    → IsSoundMachine theory.code s → s.focus ≡ Await f → MakesCall theory k s p sh m k' s' p' sh'
    → Advances theory k s p sh m k' s' p' sh'
await_advances theory k k' s f m s' p p' sh sh' sound here call =
    call_advances theory k k' s m s' p p' sh sh' (await_unlooked theory.code s f sound here) call
