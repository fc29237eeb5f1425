-- A fiber that stands at a node: the term of its leaf, and the context that it enters there.
use Rattle.std.proofs.Common.{◌≡◌, ℕ, suc, ◌<◌, ◌≤◌, Bool, false, Option, Some, None, List, [], ◌∷◌, length, refl, sym, ◌∙◌, ap, subst, arith}
use Rattle.std.specs.Prelude.{All, not, ◌&&◌, ◌||◌, slice_get}
use Rattle.fx_term.specs.declared.node.Arg.{Arg}
use Rattle.fx_term.specs.declared.node.Arg.TheVariants.{Number, Slot}
use Rattle.fx_term.specs.declared.node.NodeId.{NodeId}
use Rattle.fx_term.specs.declared.node.Node.{Node}
use Rattle.fx_term.specs.declared.node.Node.TheVariants as node
use Rattle.fx_term.specs.Term.{Term}
use Rattle.fx_term.specs.Fill.{fill}
use Rattle.fx_term.specs.Scope.{IsArgBelow, HasLevels}
use Rattle.fx_term.specs.Meaning.{assemble, term_of}
use Rattle.fx_term.specs.Tree.{children, ChildrenComeFirst}
use Rattle.fx_term.proofs.NodeTerms.{term_of_node, get_past}
use Rattle.fx_mask.specs.Closing.{Closing, Seal, is_none_closed}
use Rattle.fx_mask.specs.Masks.{MasksView, closed_by}
use Rattle.fx_frames.specs.declared.frame.Frame.{Frame}
use Rattle.fx_frames.specs.declared.frame.Frame.TheVariants as frame
use Rattle.fx_fiber.specs.declared.machine.unwound.Unwound.{Unwound}
use Rattle.fx_model.specs.Path.{is_canceled_form}
use Rattle.fx_model.specs.Row.{Counts, Label, Row}
use Rattle.fx_model.specs.Step.{leaf_at, must_cancel_at, Step}
use Rattle.fx_fiber.specs.declared.machine.focus.Focus.{Focus}
use Rattle.fx_fiber.specs.declared.machine.focus.Focus.TheVariants.{Eval, Return, Turn, Await, Unwinding, Ended}
use Rattle.fx_fiber.specs.Machine.{filled, loop_of, inner, outside_frame, masks_inside, within, running, progress_at}
use Rattle.fx_fiber.specs.Sound.{taken_off, IsNode, IsBound, IsLoopIn, IsBracketIn, IsCaseIn, IsFrameIn, IsClosedBy, IsSound}
use Rattle.fx_fiber.specs.Leaves.{IsLeafNode, IsEntryOf}
use Rattle.fx_fiber.specs.Places.{IsEntered}
use Rattle.fx_fiber.proofs.Rules.{IsLeafTerm, result_term, row_step, leaf_of_running, free_running}

pub arg_in_registers : (d e : ℕ) (a : Arg) → IsArgBelow d a → d ≤ e → IsArgBelow e a
arg_in_registers d e (Number n) h p = tt
arg_in_registers d e (Slot x) h p = omega arith

pub leaf_of_node : (cs : List Closing) (b : ℕ) (ns : List ℕ) (f : ℕ → Term) (n : Node) → IsLeafNode (Some n) → IsLeafTerm cs (fill b ns (assemble (Some n) f))
leaf_of_node cs b ns f (node.Let x c d) h = absurd h
leaf_of_node cs b ns f (node.Handle c x d) h = absurd h
leaf_of_node cs b ns f (node.OnCancel c d) h = absurd h
leaf_of_node cs b ns f (node.Bracket x c d e) h = absurd h
leaf_of_node cs b ns f (node.BracketCase x c u y s z e d) h = absurd h
leaf_of_node cs b ns f n h = record { is_leaf = refl; stays = refl; nothing = refl }

pub loop_term : (nodes : List Node) (ns : List ℕ) (cs : List Closing) (o : Option Node) (turn : ℕ) → IsLeafTerm cs (loop_of nodes ns o turn)
loop_term nodes ns cs (Some (node.For i n a)) turn = record { is_leaf = refl; stays = refl; nothing = refl }
loop_term nodes ns cs o turn = record { is_leaf = refl; stays = refl; nothing = refl }

-- what stands inside all contexts is a leaf, once all are entered
pub leaf_of_focus : (nodes : List Node) (ns : List ℕ) (cs : List Closing) (focus : Focus) → ChildrenComeFirst nodes → IsEntered nodes focus
    → IsLeafTerm cs (inner nodes ns focus)
leaf_of_focus nodes ns cs (Eval id) tree h = by_node (slice_get nodes id.0) refl h
  where
    by_node : (o : Option Node) → slice_get nodes id.0 ≡ o → IsLeafNode o → IsLeafTerm cs (filled nodes ns id)
    by_node None e h = absurd h
    by_node (Some n) e h = rw (term_of_node nodes tree id.0 n e) (leaf_of_node cs (length ns) ns (term_of nodes) n h)
leaf_of_focus nodes ns cs (Return v) tree h = result_term cs v
leaf_of_focus nodes ns cs (Turn id turn) tree h = loop_term nodes ns cs (slice_get nodes id.0) turn
leaf_of_focus nodes ns cs (Await f) tree h = absurd h
leaf_of_focus nodes ns cs Unwinding tree h = record { is_leaf = refl; stays = refl; nothing = refl }
leaf_of_focus nodes ns cs (Ended o) tree h = record { is_leaf = refl; stays = refl; nothing = refl }

module _ (nodes : List Node) (ns : List ℕ) (fs : List Frame) (m : MasksView) (left : Option Unwound) (focus : Focus) (id : NodeId) (n : Node)
    (here : focus ≡ Eval id) (is : slice_get nodes id.0 ≡ Some n) (sound : IsSound nodes ns fs m left focus) where
  pub node_in : IsNode nodes sound.bound id
  node_in = rw here at sound.focus_in

  term_is : term_of nodes id.0 ≡ assemble (Some n) (term_of nodes)
  term_is = term_of_node nodes sound.tree id.0 n is

  pub levels_at : HasLevels sound.bound (assemble (Some n) (term_of nodes))
  levels_at = subst (λ (t : Term). HasLevels sound.bound t) term_is node_in.levels

  pub child_before : All (λ c. c < id.0) (children n)
  child_before = sound.tree id.0 n is

  pub inner_is : (t : Term) → fill (length ns) ns (assemble (Some n) (term_of nodes)) ≡ t → inner nodes ns focus ≡ t
  inner_is t e = rw here (ap (λ (u : Term). fill (length ns) ns u) term_is ∙ e)

  pub progress_is : (t : Term) → fill (length ns) ns (assemble (Some n) (term_of nodes)) ≡ t
      → progress_at nodes ns fs m.regions left focus ≡ running nodes ns left (within nodes ns fs m.regions t)
  progress_is t e = rw here (ap (λ (u : Term). running nodes ns left (within nodes ns fs m.regions u)) (ap (λ (u : Term). fill (length ns) ns u) term_is ∙ e))

  -- the leaf of what the fiber runs
  pub leaf_is : IsLeafNode (Some n) → leaf_at (progress_at nodes ns fs m.regions left focus) ≡ Some (fill (length ns) ns (assemble (Some n) (term_of nodes)))
  leaf_is leaf = ap leaf_at (progress_is _ refl) ∙ leaf_of_running nodes ns fs m.regions _ (leaf_of_node m.regions (length ns) ns (term_of nodes) n leaf) left

  -- where cancellation is not the one rule at the leaf, it is not the one of the fiber
  pub leaf_is_free : IsLeafNode (Some n) → (known : Bool) → (is_none_closed m.regions && (known || is_canceled_form (inner nodes ns focus))) ≡ false
      → must_cancel_at known (progress_at nodes ns fs m.regions left focus) ≡ false
  leaf_is_free leaf known free =
      let free' : (is_none_closed m.regions && (known || is_canceled_form (fill (length ns) ns (assemble (Some n) (term_of nodes))))) ≡ false = rw
      (inner_is _ refl) at free in
      ap (must_cancel_at known) (progress_is _ refl) ∙ free_running nodes ns fs m.regions _
      (leaf_of_node m.regions (length ns) ns (term_of nodes) n leaf) left known sound.closed free'

  -- the row of a leaf
  pub leaf_step : (c d : Counts) (l : Label) (t t' : Term) → fill (length ns) ns (assemble (Some n) (term_of nodes)) ≡ t → IsLeafNode (Some n)
      → (is_none_closed m.regions && (c.known || is_canceled_form (inner nodes ns focus))) ≡ false
      → ((k : Bool) → k ≡ not (is_none_closed m.regions) → Row k c (within nodes ns fs m.regions t) l d t')
      → Step c (progress_at nodes ns fs m.regions left focus) l d (running nodes ns left t')
  leaf_step c d l t t' e leaf free go =
      let term : IsLeafTerm m.regions t = rw e at (leaf_of_node m.regions (length ns) ns (term_of nodes) n leaf) in
      let free' : (is_none_closed m.regions && (c.known || is_canceled_form t)) ≡ false = rw (inner_is t e) at free in
      rw (progress_is t e) (row_step nodes ns fs m.regions t term left c d l t' sound.closed free' go)

  pub child_node : (c : NodeId) (d : ℕ) → c.0 < id.0 → HasLevels d (term_of nodes c.0) → IsNode nodes d c
  child_node c d p levels = let q = node_in.number in record { number = omega arith; levels = levels }

  -- a context is entered, which is no step
  module _ (a : NodeId) where
    sound_inside : (f : Frame) (inside : MasksView) → IsNode nodes sound.bound a → IsFrameIn nodes sound.bound f → IsClosedBy f inside.regions
        → outside_frame f inside.regions ≡ m.regions → taken_off (f ∷ fs) ≤ inside.opened → IsSound nodes ns (f ∷ fs) inside left (Eval a)
    sound_inside f inside first frame_in by outside room = record {
      tree = sound.tree;
      bound = sound.bound;
      fits = sound.fits;
      focus_in = first;
      frames_in = (sound.bound, omega arith, frame_in, sound.frames_in);
      closed = (by, rw outside sound.closed);
      room = room;
      between = tt;
    }

    pub entered_sound : (f : Frame) → IsEntryOf id n f a → IsSound nodes ns (f ∷ fs) (masks_inside f m) left (Eval a)
    entered_sound (frame.Let x b) e =
        let s : HasLevels sound.bound (assemble (Some (node.Let x a b)) (term_of nodes)) = rw e at levels_at in
        let below : All (λ c. c < id.0) (children (node.Let x a b)) = rw e at child_before in
        sound_inside (frame.Let x b) m (child_node a sound.bound (below 0 0 (omega arith)) s.0)
        (record { binder = s.1; node = child_node b _ (below 1 0 (omega arith)) s.2 }) tt refl sound.room
    entered_sound (frame.Handle x b) e =
        let s : HasLevels sound.bound (assemble (Some (node.Handle a x b)) (term_of nodes)) = rw e at levels_at in
        let below : All (λ c. c < id.0) (children (node.Handle a x b)) = rw e at child_before in
        sound_inside (frame.Handle x b) m (child_node a sound.bound (below 0 0 (omega arith)) s.0)
        (record { binder = s.1; node = child_node b _ (below 1 0 (omega arith)) s.2 }) tt refl sound.room
    entered_sound (frame.OnCancel f) e =
        let s : HasLevels sound.bound (assemble (Some (node.OnCancel a f)) (term_of nodes)) = rw e at levels_at in
        let below : All (λ c. c < id.0) (children (node.OnCancel a f)) = rw e at child_before in
        sound_inside (frame.OnCancel f) m (child_node a sound.bound (below 0 0 (omega arith)) s.0)
        (child_node f sound.bound (below 1 0 (omega arith)) s.1) tt refl sound.room
    entered_sound (frame.Acquire own) e =
        let x : Option ℕ = e.1 in
        let u : NodeId = e.2 in
        let r : NodeId = e.3 in
        let s : HasLevels sound.bound (assemble (Some (node.Bracket x a u r)) (term_of nodes)) = rw e.4 at levels_at in
        let below : All (λ c. c < id.0) (children (node.Bracket x a u r)) = rw e.4 at child_before in
        let used : IsBound nodes sound.bound x u = record { binder = s.1; node = child_node u _ (below 1 0 (omega arith)) s.2 } in
        let released : IsBound nodes sound.bound x r = record { binder = s.1; node = child_node r _ (below 2 0 (omega arith)) s.3 } in
        let bracket : IsBracketIn nodes sound.bound (slice_get nodes own.0) = rw (e.0, is, e.4) (used, released) in
        sound_inside (frame.Acquire own) (closed_by Seal m) (child_node a sound.bound (below 0 0 (omega arith)) s.0) bracket (m.regions, refl) refl sound.room
    entered_sound (frame.Using k r) e = absurd e
    entered_sound (frame.AcquireCase own) entry =
        let x : ℕ = entry.1 in
        let u : NodeId = entry.2 in
        let y : ℕ = entry.3 in
        let b : NodeId = entry.4 in
        let z : ℕ = entry.5 in
        let c : NodeId = entry.6 in
        let d : NodeId = entry.7 in
        let s : HasLevels sound.bound (assemble (Some (node.BracketCase x a u y b z c d)) (term_of nodes)) = rw entry.8 at levels_at in
        let below : All (λ k. k < id.0) (children (node.BracketCase x a u y b z c d)) = rw entry.8 at child_before in
        let used : IsBound nodes sound.bound (Some x) u = record { binder = s.1; node = child_node u _ (below 1 0 (omega arith)) s.2 } in
        let success : IsBound nodes (suc sound.bound) (Some y) b = record { binder = s.3; node = child_node b _ (below 2 0 (omega arith)) s.4 } in
        let failure : IsBound nodes (suc sound.bound) (Some z) c = record { binder = s.5; node = child_node c _ (below 3 0 (omega arith)) s.6 } in
        let canceled : IsBound nodes sound.bound (Some x) d = record { binder = s.1; node = child_node d _ (below 4 0 (omega arith)) s.7 } in
        let case : IsCaseIn nodes sound.bound (slice_get nodes own.0) = rw (entry.0, is, entry.8) (used, success, failure, canceled) in
        sound_inside (frame.AcquireCase own) (closed_by Seal m) (child_node a sound.bound (below 0 0 (omega arith)) s.0) case (m.regions, refl) refl
        sound.room
    entered_sound (frame.UsingCase k own d) e = absurd e
    entered_sound (frame.Releasing k v) e = absurd e
    entered_sound (frame.Loop own turn) e = absurd e
    entered_sound frame.Masked e = absurd e
    entered_sound (frame.Opened r b) e = absurd e

    entered_term : (u : Term) → fill (length ns) ns (assemble (Some n) (term_of nodes)) ≡ u
        → running nodes ns left (within nodes ns fs m.regions u) ≡ progress_at nodes ns fs m.regions left focus
    entered_term u e = sym (progress_is u e)

    pub entered_same : (f : Frame) → IsEntryOf id n f a
        → progress_at nodes ns (f ∷ fs) (masks_inside f m).regions left (Eval a) ≡ progress_at nodes ns fs m.regions left focus
    entered_same (frame.Let x b) e = entered_term _ (rw e refl)
    entered_same (frame.Handle x b) e = entered_term _ (rw e refl)
    entered_same (frame.OnCancel f) e = entered_term _ (rw e refl)
    entered_same (frame.Acquire own) e = rw (e.0, is, e.4) (entered_term _ (rw e.4 refl))
    entered_same (frame.Using k r) e = absurd e
    entered_same (frame.AcquireCase own) e = rw (e.0, is, e.8) (entered_term _ (rw e.8 refl))
    entered_same (frame.UsingCase k own d) e = absurd e
    entered_same (frame.Releasing k v) e = absurd e
    entered_same (frame.Loop own turn) e = absurd e
    entered_same frame.Masked e = absurd e
    entered_same (frame.Opened r b) e = absurd e

-- and no mask is entered by it
pub inside_entries : (f : Frame) (m : MasksView) → (masks_inside f m).entries ≡ m.entries
inside_entries (frame.Acquire id) m = refl
inside_entries (frame.AcquireCase id) m = refl
inside_entries f m = refl

-- a loop stands at a node
pub loop_number : (nodes : List Node) (d : ℕ) (id : NodeId) → IsLoopIn nodes d (slice_get nodes id.0) → id.0 < length nodes
loop_number nodes d id h = by_node (slice_get nodes id.0) refl h
  where
    by_node : (o : Option Node) → slice_get nodes id.0 ≡ o → IsLoopIn nodes d o → id.0 < length nodes
    by_node None e h = absurd h
    by_node (Some n) e h = get_past nodes id.0 n e

-- a node at which a context is entered is no leaf
pub entry_is_no_leaf : (id a : NodeId) (n : Node) (f : Frame) → IsEntryOf id n f a → IsLeafNode (Some n) → ⊥
entry_is_no_leaf id a n (frame.Let x b) entry leaf = rw entry at leaf
entry_is_no_leaf id a n (frame.Handle x b) entry leaf = rw entry at leaf
entry_is_no_leaf id a n (frame.OnCancel b) entry leaf = rw entry at leaf
entry_is_no_leaf id a n (frame.Acquire own) entry leaf = rw entry.4 at leaf
entry_is_no_leaf id a n (frame.AcquireCase own) entry leaf = rw entry.8 at leaf
entry_is_no_leaf id a n _ entry leaf = absurd entry

-- the first part stands before its form
pub first_before : (nodes : List Node) (id a : NodeId) (n : Node) (f : Frame) → ChildrenComeFirst nodes → slice_get nodes id.0 ≡ Some n
    → IsEntryOf id n f a → a.0 < id.0
first_before nodes id a n f tree is entry = below f entry
  where
    below : (f : Frame) → IsEntryOf id n f a → a.0 < id.0
    below (frame.Let x b) entry = let p : All (λ c. c < id.0) (a.0 ∷ b.0 ∷ []) = rw entry at (tree id.0 n is) in p 0 0 (omega arith)
    below (frame.Handle x b) entry = let p : All (λ c. c < id.0) (a.0 ∷ b.0 ∷ []) = rw entry at (tree id.0 n is) in p 0 0 (omega arith)
    below (frame.OnCancel b) entry = let p : All (λ c. c < id.0) (a.0 ∷ b.0 ∷ []) = rw entry at (tree id.0 n is) in p 0 0 (omega arith)
    below (frame.Acquire own) entry = let p : All (λ c. c < id.0) (a.0 ∷ entry.2.0 ∷ entry.3.0 ∷ []) = rw entry.4 at (tree id.0 n is) in p 0 0 (omega arith)
    below (frame.Using k r) entry = absurd entry
    below (frame.AcquireCase own) entry =
        let p : All (λ c. c < id.0) (a.0 ∷ entry.2.0 ∷ entry.4.0 ∷ entry.6.0 ∷ entry.7.0 ∷ []) = rw entry.8 at (tree id.0 n is) in p 0 0 (omega arith)
    below (frame.UsingCase k own d) entry = absurd entry
    below (frame.Releasing k v) entry = absurd entry
    below (frame.Loop own turn) entry = absurd entry
    below frame.Masked entry = absurd entry
    below (frame.Opened r b) entry = absurd entry
