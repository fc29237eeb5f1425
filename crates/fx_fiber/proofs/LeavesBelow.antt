-- Whether a machine can step, from the leaf below it.
use Rattle.std.proofs.Common.{◌≡◌, ℕ, ◌<◌, ◌^◌, Bool, true, false, Option, Some, None, List, [], ◌∷◌, length, refl, sym, ◌∙◌, ap}
use Rattle.std.specs.Prelude.{◌&&◌, ◌||◌, is_some, slice_get, slice_index}
use Rattle.fx_term.specs.declared.node.NodeId.{NodeId}
use Rattle.fx_term.specs.declared.node.Node.{Node}
use Rattle.fx_term.specs.declared.node.Node.TheVariants as node
use Rattle.fx_term.specs.declared.done.Done.{Done}
use Rattle.fx_term.specs.Term.{Term, Canceled, Finished}
use Rattle.fx_term.specs.Term as term
use Rattle.fx_term.specs.Meaning.{term_of}
use Rattle.fx_mask.specs.Closing.{Closing, is_none_closed}
use Rattle.fx_mask.specs.Masks.{MasksView}
use Rattle.fx_frames.specs.declared.frame.Frame.{Frame}
use Rattle.fx_frames.specs.declared.frame.Frame.TheVariants as frame
use Rattle.fx_model.specs.Path.{is_canceled_form, is_open}
use Rattle.fx_model.specs.Row.{Counts}
use Rattle.fx_model.specs.Step.{Progress}
use Rattle.fx_model.specs.Outside.{Outside, leaf_can_step, can_step}
use Rattle.fx_fiber.specs.declared.machine.focus.Focus.TheVariants.{Eval, Return, Turn, Await, Unwinding}
use Rattle.fx_fiber.specs.declared.machine.unwound.Unwound.{Unwound}
use Rattle.fx_fiber.specs.declared.machine.Machine.{Machine}
use Rattle.fx_fiber.specs.Machine.{masks_inside, loop_of, within, running, unwinding, counts_of, progress_of}
use Rattle.fx_fiber.specs.Sound.{closed_outside, AreClosedBy, IsLoopIn, IsSoundMachine}
use Rattle.fx_fiber.specs.Leaves.{IsEntryOf}
use Rattle.fx_fiber.specs.Places.{IsEvaluating}
use Rattle.fx_fiber.specs.Fiber.{is_fiber_number}
use Rattle.fx_model.specs.Scopes.{IsClosedTerm, IsProgressScopedOver}
use Rattle.fx_fiber.specs.LeafBelow.{IsDownTo, is_open_inside, IsLeafBelow, term_at}
use Rattle.fx_fiber.specs.declared.machine.leaf_below.LeafBelow.{LeafBelow}
use Rattle.fx_fiber.proofs.Contexts.{leaf_within, closed_within, open_within, must_within, cleanup_is_closed}
use Rattle.fx_fiber.proofs.Rules.{IsLeafTerm, result_term}
use Rattle.fx_fiber.proofs.Fibers.{join_within, join_fits, left_within, right_within, left_fits, right_fits}
use Rattle.fx_fiber.proofs.Leaves.{leaf_here}
use Rattle.fx_model.proofs.ScopedRuns.{leaf_at_over}
use Rattle.fx_fiber.proofs.Nodes.{leaf_of_node, loop_term, progress_is, entered_sound, entered_same, inside_entries}

-- what is open inside a context is read off what its masks close
open_by_frame : (f : Frame) (m : MasksView) → is_none_closed (masks_inside f m).regions ≡ is_open_inside f (is_none_closed m.regions)
open_by_frame (frame.Acquire id) m = refl
open_by_frame (frame.AcquireCase id) m = refl
open_by_frame f m = refl

-- one context further down
pub one_down : (nodes : List Node) (s : Machine) (id a : NodeId) (n : Node) (f : Frame) (opened : Bool) → IsDownTo nodes s id opened
    → slice_get nodes id.0 ≡ Some n → IsEntryOf id n f a → IsDownTo nodes s a (is_open_inside f opened)
one_down nodes s id a n f opened down is entry =
    let t = down.inside in
    record {
      inside = record t { frames = f ∷ t.frames; masks = masks_inside f t.masks; focus = Eval a };
      same = record {
        sound = entered_sound nodes t.registers t.frames t.masks t.cleanups t.focus id n down.focus is down.same.sound a f entry;
        progress = entered_same nodes t.registers t.frames t.masks t.cleanups t.focus id n down.focus is down.same.sound a f entry ∙ down.same.progress;
        counts = rw (inside_entries f t.masks) down.same.counts;
      };
      registers = down.registers;
      focus = refl;
      opened_is = open_by_frame f t.masks ∙ ap (is_open_inside f) down.opened_is;
    }

-- who stands at `canceled` does not wait
canceled_goes : (o : Outside) (t : Term) → is_canceled_form t ≡ true → leaf_can_step o t ≡ true
canceled_goes o Canceled e = refl
canceled_goes o t e = absurd cc

-- a leaf at `canceled` asks for no case of its own
same_with_canceled : (opened known canceled requested goes : Bool) → (canceled ≡ true → goes ≡ true)
    → (((opened && (known || canceled)) || (opened && requested)) || goes) ≡ ((opened && (known || requested)) || goes)
same_with_canceled false known canceled requested goes h = refl
same_with_canceled true true canceled requested goes h = refl
same_with_canceled true false true true goes h = refl
same_with_canceled true false true false goes h = sym (h refl)
same_with_canceled true false false requested goes h = refl

module _ (nodes : List Node) (ns : List ℕ) (fs : List Frame) (cs : List Closing) (o : Outside) (f : ℕ) (c : Counts) (t : Term)
    (leaf : IsLeafTerm cs t) where
  -- a fiber can step if it is to see a cancellation or a request, or its leaf does not wait
  pub running_can_step : (left : Option Unwound) → AreClosedBy (closed_outside left) fs cs
      → can_step o f c (running nodes ns left (within nodes ns fs cs t)) ≡ ((is_none_closed cs && (c.known || o.is_requested f)) || leaf_can_step o t)
  running_can_step None closed =
      rw (
        must_within nodes ns fs cs t closed leaf.stays c.known leaf.is_leaf,
        open_within nodes ns fs cs t closed leaf.stays,
        leaf_within nodes ns fs cs t,
        leaf.is_leaf,
      )
      (same_with_canceled (is_none_closed cs) c.known (is_canceled_form t) (o.is_requested f) (leaf_can_step o t) (canceled_goes o t))
  running_can_step (Some left) closed = rw (leaf_within nodes ns fs cs t, leaf.is_leaf, cleanup_is_closed fs cs left closed) refl

-- by the leaf below it
pub leaf_below_can_step : (nodes : List Node) (s : Machine) (leaf : LeafBelow) (o : Outside) (f : ℕ) → IsLeafBelow nodes s leaf
    → can_step o f (counts_of s) (progress_of nodes s) ≡
    ((leaf.is_open && (s.known || o.is_requested f)) || leaf_can_step o (term_at nodes s.registers leaf.node))
leaf_below_can_step nodes s leaf o f below =
    let t = below.down.inside in
    let sound = below.down.same.sound in
    let term = term_at nodes t.registers leaf.node in
    let is_leaf : IsLeafTerm t.masks.regions term = leaf_of_node t.masks.regions (length t.registers) t.registers (term_of nodes) leaf.node below.is_leaf in
    let here : progress_of nodes t ≡ running nodes t.registers t.cleanups (within nodes t.registers t.frames t.masks.regions term) =
    progress_is nodes t.registers t.frames t.masks t.cleanups t.focus leaf.id leaf.node below.down.focus below.node sound term refl in
    let counts : counts_of t ≡ counts_of s = below.down.same.counts in
    let progress : progress_of nodes t ≡ progress_of nodes s = below.down.same.progress in
    let opened : is_none_closed t.masks.regions ≡ leaf.is_open = below.down.opened_is in
    let registers : t.registers ≡ s.registers = below.down.registers in
    let can = running_can_step nodes t.registers t.frames t.masks.regions o f (counts_of t) term is_leaf t.cleanups sound.closed in
    let known : t.known ≡ s.known = ap (λ (c : Counts). c.known) counts in
    sym (ap (λ (p : Progress). can_step o f (counts_of s) p) progress) ∙ sym (ap (λ (c : Counts). can_step o f c (progress_of nodes t)) counts)
    ∙ ap (λ (p : Progress). can_step o f (counts_of t) p) here ∙ can ∙ rw (← known, ← opened, ← registers) refl

-- so where it is interrupted there, and else where the leaf does not wait
module _ (nodes : List Node) (s : Machine) (leaf : LeafBelow) (o : Outside) (f : ℕ) (requested : Bool) (is_requested : requested ≡ o.is_requested f)
    (below : IsLeafBelow nodes s leaf) where
  pub interrupted_can_step : (leaf.is_open && (s.known || requested)) ≡ true → true ≡ can_step o f (counts_of s) (progress_of nodes s)
  interrupted_can_step due =
      let due' : (leaf.is_open && (s.known || o.is_requested f)) ≡ true = rw is_requested at due in
      sym (leaf_below_can_step nodes s leaf o f below ∙ rw due' refl)

  pub leaf_goes : (goes : Bool) → (leaf.is_open && (s.known || requested)) ≡ false → goes ≡ leaf_can_step o (term_at nodes s.registers leaf.node)
      → goes ≡ can_step o f (counts_of s) (progress_of nodes s)
  leaf_goes goes due e =
      let due' : (leaf.is_open && (s.known || o.is_requested f)) ≡ false = rw is_requested at due in
      sym (leaf_below_can_step nodes s leaf o f below ∙ rw due' (sym e))

or_true : (b : Bool) → (b || true) ≡ true
or_true true = refl
or_true false = refl

-- a fiber with a result can step, and so can one before a turn of a loop
module _ (nodes : List Node) (s : Machine) (o : Outside) (f : ℕ) (sound : IsSoundMachine nodes s) where
  pub result_can_step : (v : Done) → s.focus ≡ Return v → can_step o f (counts_of s) (progress_of nodes s) ≡ true
  result_can_step v e =
      rw e (running_can_step nodes s.registers s.frames s.masks.regions o f (counts_of s) (Finished v) (result_term s.masks.regions v) s.cleanups sound.closed
      ∙ or_true _)

  loop_goes : (n : Option Node) (turn : ℕ) → IsLoopIn nodes sound.bound n → leaf_can_step o (loop_of nodes s.registers n turn) ≡ true
  loop_goes (Some (node.For i n a)) turn h = refl
  loop_goes _ turn h = absurd h

  pub turn_can_step : (id : NodeId) (turn : ℕ) → s.focus ≡ Turn id turn → can_step o f (counts_of s) (progress_of nodes s) ≡ true
  turn_can_step id turn e =
      let goes = loop_goes (slice_get nodes id.0) turn (rw e at sound.focus_in) in
      rw e (running_can_step nodes s.registers s.frames s.masks.regions o f (counts_of s) (loop_of nodes s.registers (slice_get nodes id.0) turn)
      (loop_term nodes s.registers s.masks.regions (slice_get nodes id.0) turn) s.cleanups sound.closed ∙ rw goes (or_true _))

  pub unwinding_can_step : s.focus ≡ Unwinding → can_step o f (counts_of s) (progress_of nodes s) ≡ true
  unwinding_can_step e = rw e (by_left s.cleanups)
    where
      by_left : (left : Option Unwound) → can_step o f (counts_of s) (unwinding nodes s.registers left) ≡ true
      by_left None = refl
      by_left (Some left) = refl

-- a fiber that awaits another can step where that has ended: its place is sealed
pub await_can_step : (nodes : List Node) (s : Machine) (o : Outside) (f g : ℕ) (sound : IsSoundMachine nodes s) → s.focus ≡ Await g
    → can_step o f (counts_of s) (progress_of nodes s) ≡ is_some (o.outcome g)
await_can_step nodes s o f g sound here = rw here (by_left s.cleanups sound.closed)
  where
    t : Term
    t = within nodes s.registers s.frames s.masks.regions (term.Await g)

    by_left : (left : Option Unwound) → AreClosedBy (closed_outside left) s.frames s.masks.regions
        → can_step o f (counts_of s) (running nodes s.registers left t) ≡ is_some (o.outcome g)
    by_left None closed =
        let shut : is_open t ≡ false = ap is_none_closed (closed_within nodes s.registers [] s.frames s.masks.regions (term.Await g) closed) in
        rw (shut, leaf_within nodes s.registers s.frames s.masks.regions (term.Await g)) refl
    by_left (Some left) closed = rw (leaf_within nodes s.registers s.frames s.masks.regions (term.Await g)) refl

-- the names of a leaf that needs outcomes have registers, with the numbers of fibers
module _ (nodes : List Node) (s : Machine) (leaf : LeafBelow) (below : IsLeafBelow nodes s leaf) where
  at_below : (n : Node) → leaf.node ≡ n → IsEvaluating nodes below.down.inside leaf.id n
  at_below n is = record { sound = below.down.same.sound; focus = below.down.focus; node = below.node ∙ ap Some is }

  pub joined_within : (f x : ℕ) (a : NodeId) (e : ℕ) (b d : NodeId) → leaf.node ≡ node.Join f x a e b d → f < length s.registers
  joined_within f x a e b d is = rw below.down.registers at (join_within nodes below.down.inside leaf.id f x a e b d (at_below _ is))

  pub either_within : (f g : ℕ) → leaf.node ≡ node.First f g → (f < length s.registers) × (g < length s.registers)
  either_within f g is =
      let t = below.down.inside in
      let at = at_below (node.First f g) is in
      let both : (f < length t.registers) × (g < length t.registers) = (left_within nodes t leaf.id f g at, right_within nodes t leaf.id f g at) in
      rw below.down.registers at both

  module _ (over : IsProgressScopedOver is_fiber_number (progress_of nodes s)) where
    over_below : IsProgressScopedOver is_fiber_number (progress_of nodes below.down.inside)
    over_below = rw below.down.same.progress over

    pub joined_fits : (f x : ℕ) (a : NodeId) (e : ℕ) (b d : NodeId) → leaf.node ≡ node.Join f x a e b d → slice_index s.registers f < 2 ^ 32
    joined_fits f x a e b d is = rw below.down.registers at (join_fits nodes below.down.inside leaf.id f x a e b d (at_below _ is) over_below)

    pub either_fits : (f g : ℕ) → leaf.node ≡ node.First f g → (slice_index s.registers f < 2 ^ 32) × (slice_index s.registers g < 2 ^ 32)
    either_fits f g is =
        let t = below.down.inside in
        let at = at_below (node.First f g) is in
        let both : (slice_index t.registers f < 2 ^ 32) × (slice_index t.registers g < 2 ^ 32) =
        (left_fits nodes t leaf.id f g at over_below, right_fits nodes t leaf.id f g at over_below) in
        rw below.down.registers at both

-- each name of the leaf below is bound in it
pub closed_below : (nodes : List Node) (s : Machine) (leaf : LeafBelow) → IsLeafBelow nodes s leaf
    → IsProgressScopedOver is_fiber_number (progress_of nodes s) → IsClosedTerm (term_at nodes s.registers leaf.node)
closed_below nodes s leaf below over =
    let t = below.down.inside in
    let over_there : IsProgressScopedOver is_fiber_number (progress_of nodes t) = rw below.down.same.progress over in
    let at : IsEvaluating nodes t leaf.id leaf.node = record { sound = below.down.same.sound; focus = below.down.focus; node = below.node } in
    let here = leaf_at_over is_fiber_number (progress_of nodes t) _ (leaf_here nodes t leaf.id leaf.node at below.is_leaf) over_there in
    rw below.down.registers at here.0
