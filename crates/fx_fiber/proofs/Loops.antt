-- The rules of a loop.
use Rattle.std.proofs.Common.{◌≡◌, ℕ, suc, ◌+◌, ◌<◌, ◌≤◌, Bool, false, Some, None, List, ◌∷◌, length, refl, sym, ◌∙◌, ap, arith}
use Rattle.std.specs.Prelude.{◌&&◌, ◌||◌, slice_get}
use Rattle.fx_term.specs.declared.node.NodeId.{NodeId}
use Rattle.fx_term.specs.declared.node.Node.{Node}
use Rattle.fx_term.specs.declared.node.Node.TheVariants as node
use Rattle.fx_term.specs.declared.done.Done.TheVariants.{Val}
use Rattle.fx_term.specs.Term.{Term, Let, Loop, Finished, put}
use Rattle.fx_term.specs.Fill.{AgreeBelow}
use Rattle.fx_term.specs.Registers.{with_number}
use Rattle.fx_term.specs.Scope.{HasLevels}
use Rattle.fx_term.specs.Meaning.{term_of}
use Rattle.fx_term.proofs.RegisterLaws.{agree_below, length_with}
use Rattle.fx_mask.specs.Closing.{is_none_closed}
use Rattle.fx_frames.specs.declared.frame.Frame.TheVariants as frame
use Rattle.fx_model.specs.Path.{is_canceled_form}
use Rattle.fx_model.specs.Row.{Silent, Row, for_begins, loop_turns, loop_ends}
use Rattle.fx_model.specs.Step.{Progress, leaf_at, Step}
use Rattle.fx_fiber.specs.MakesStep.{is_yielding}
use Rattle.fx_fiber.specs.declared.machine.focus.Focus.TheVariants.{Eval, Return, Turn}
use Rattle.fx_fiber.specs.declared.machine.Machine.{Machine}
use Rattle.fx_fiber.specs.Machine.{waiting, loop_at, within, running, progress_at, progress_of, counts_of}
use Rattle.fx_fiber.specs.Sound.{IsLoopIn, IsBound, IsSound}
use Rattle.fx_fiber.specs.Places.{IsSame, IsEvaluating, IsBeforeTurn, must_cancel_machine}
use Rattle.fx_fiber.proofs.Contexts.{row_within}
use Rattle.fx_fiber.proofs.Numbers.{loop_same, running_same, running_named}
use Rattle.fx_fiber.proofs.Rules.{IsLeafTerm, row_step, leaf_of_running}
use Rattle.fx_fiber.proofs.Nodes.{child_before}
use Rattle.fx_fiber.proofs.Leaves.{levels, child, row_at}

-- a fiber that stands at a `for`
module _ (nodes : List Node) (s : Machine) (id : NodeId) (i count : ℕ) (part : NodeId) (at : IsEvaluating nodes s id (node.For i count part)) where
  for_levels : (i ≡ at.sound.bound) × HasLevels (suc at.sound.bound) (term_of nodes part.0)
  for_levels = levels nodes s id (node.For i count part) at

  for_bound : IsBound nodes at.sound.bound (Some i) part
  for_bound =
      record {
        binder = for_levels.0;
        node =
            child nodes s id (node.For i count part) at part _
            (child_before nodes s.registers s.frames s.masks s.cleanups s.focus id (node.For i count part) at.focus at.node at.sound 0 0 (omega arith))
            for_levels.1;
      }

  loop_in : IsLoopIn nodes at.sound.bound (slice_get nodes id.0)
  loop_in = rw at.node for_bound

  pub begun_sound : IsSound nodes s.registers s.frames s.masks s.cleanups (Turn id 0)
  begun_sound = record {
    tree = at.sound.tree;
    bound = at.sound.bound;
    fits = at.sound.fits;
    focus_in = loop_in;
    frames_in = at.sound.frames_in;
    closed = at.sound.closed;
    room = at.sound.room;
    between = tt;
  }

  pub begun_step : must_cancel_machine nodes s ≡ false
      → Step (counts_of s) (progress_of nodes s) Silent (counts_of s) (progress_at nodes s.registers s.frames s.masks.regions s.cleanups (Turn id 0))
  begun_step free = row_at nodes s id (node.For i count part) at tt free (counts_of s) Silent _ _ _ refl (rw at.node refl) (λ k h. for_begins)

-- a loop before this turn
abbrev loop : List Node → List ℕ → ℕ → ℕ → NodeId → ℕ → Term
loop nodes ns i count part k = Loop i k count (waiting nodes ns (Some i) part)

-- a fiber that stands at a loop
module _ (nodes : List Node) (s : Machine) (id : NodeId) (turn i count : ℕ) (part : NodeId) (at : IsBeforeTurn nodes s id turn (node.For i count part)) where
  here : progress_of nodes s ≡ running nodes s.registers s.cleanups
      (within nodes s.registers s.frames s.masks.regions (loop nodes s.registers i count part turn))
  here = rw (at.focus, at.node) refl

  loop_is : (k : ℕ) → loop_at nodes s.registers id k ≡ loop nodes s.registers i count part k
  loop_is k = rw at.node refl

  loop_leaf : IsLeafTerm s.masks.regions (loop nodes s.registers i count part turn)
  loop_leaf = record { is_leaf = refl; stays = refl; nothing = refl }

  -- a rule of a loop is not that of `cede`
  pub turn_is_no_cede : is_yielding (leaf_at (progress_of nodes s)) ≡ false
  turn_is_no_cede = ap (λ (p : Progress). is_yielding (leaf_at p)) here ∙ ap is_yielding
      (leaf_of_running nodes s.registers s.frames s.masks.regions (loop nodes s.registers i count part turn) loop_leaf s.cleanups)

  -- the row of a loop is a step
  turn_row : (t' : Term) (p : Progress) → p ≡ running nodes s.registers s.cleanups (within nodes s.registers s.frames s.masks.regions t')
      → ((k : Bool) → Row k (counts_of s) (loop nodes s.registers i count part turn) Silent (counts_of s) t')
      → Step (counts_of s) (progress_of nodes s) Silent (counts_of s) p
  turn_row t' p e go =
      let free' : (is_none_closed s.masks.regions && (s.known || is_canceled_form (loop nodes s.registers i count part turn))) ≡ false = rw
      (at.focus, at.node) at at.free in
      let step = row_step nodes s.registers s.frames s.masks.regions (loop nodes s.registers i count part turn) loop_leaf s.cleanups (counts_of s)
      (counts_of s) Silent _ at.sound.closed free'
      (λ k h. row_within nodes s.registers k (counts_of s) (counts_of s) Silent s.frames s.masks.regions
      (loop nodes s.registers i count part turn) t' (go k)) in
      rw (here, e) step

  pub ended_step : count ≤ turn
      → Step (counts_of s) (progress_of nodes s) Silent (counts_of s) (progress_at nodes s.registers s.frames s.masks.regions s.cleanups (Return (Val 0)))
  ended_step over = turn_row (Finished (Val 0)) _ refl (λ k. loop_ends over)

  part_bound : IsBound nodes at.sound.bound (Some i) part
  part_bound = rw (at.focus, at.node) at at.sound.focus_in

  turn_reaches : i ≤ length s.registers
  turn_reaches = let e = part_bound.binder in let f = at.sound.fits in omega arith

  fits_more : (n : ℕ) → suc at.sound.bound ≤ length (with_number (Some i) n s.registers)
  fits_more n = let e = part_bound.binder in let len = length_with i n s.registers turn_reaches in omega arith

  agree : (n : ℕ) → AgreeBelow at.sound.bound s.registers (with_number (Some i) n s.registers)
  agree n j h = let e = part_bound.binder in agree_below i n s.registers turn_reaches j (omega arith)

  loop_stays : (n k : ℕ) → loop_at nodes s.registers id k ≡ loop_at nodes (with_number (Some i) n s.registers) id k
  loop_stays n k = let more = fits_more n in loop_same nodes s.registers (with_number (Some i) n s.registers) at.sound.bound (slice_get nodes id.0) k
      (rw at.focus at at.sound.focus_in) at.sound.fits (omega arith) (agree n)

  -- the register of its name is in scope only inside, so the fiber has come no further by it
  turn_register_same : (n : ℕ) → progress_at nodes (with_number (Some i) n s.registers) s.frames s.masks.regions s.cleanups s.focus ≡ progress_of nodes s
  turn_register_same n =
      let more = fits_more n in
      let around = running_same nodes s.registers (with_number (Some i) n s.registers) at.sound.bound s.frames s.masks.regions s.cleanups
      (loop_at nodes (with_number (Some i) n s.registers) id turn) at.sound.frames_in at.sound.fits (omega arith) (agree n) in
      rw at.focus
      (sym around ∙ ap (λ (t : Term). running nodes s.registers s.cleanups (within nodes s.registers s.frames s.masks.regions t)) (sym (loop_stays n turn)))

  turn_register_sound : (n : ℕ) → IsSound nodes (with_number (Some i) n s.registers) s.frames s.masks s.cleanups s.focus
  turn_register_sound n = record {
    tree = at.sound.tree;
    bound = at.sound.bound;
    fits = let h = fits_more n in omega arith;
    focus_in = at.sound.focus_in;
    frames_in = at.sound.frames_in;
    closed = at.sound.closed;
    room = at.sound.room;
    between = at.sound.between;
  }

  pub turned_sound : (n : ℕ) → IsSound nodes (with_number (Some i) n s.registers) (frame.Loop id (turn + 1) ∷ s.frames) s.masks s.cleanups (Eval part)
  turned_sound n = record {
    tree = at.sound.tree;
    bound = suc at.sound.bound;
    fits = fits_more n;
    focus_in = part_bound.node;
    frames_in = (at.sound.bound, omega arith, rw at.focus at at.sound.focus_in, at.sound.frames_in);
    closed = (tt, at.sound.closed);
    room = at.sound.room;
    between = tt;
  }

  pub turn_register_stays : (n : ℕ) (t : Machine) → t ≡ record s { registers = with_number (Some i) n s.registers } → IsSame nodes s t
  turn_register_stays n t e = rw e (record { sound = turn_register_sound n; progress = turn_register_same n; counts = refl })

  pub turned_step : turn < count → (ns : List ℕ) → ns ≡ with_number (Some i) turn s.registers
      → Step (counts_of s) (progress_of nodes s) Silent (counts_of s)
      (progress_at nodes ns (frame.Loop id (turn + 1) ∷ s.frames) s.masks.regions s.cleanups (Eval part))
  turned_step more ns e =
      let after : Term = loop_at nodes (with_number (Some i) turn s.registers) id (turn + 1) in
      turn_row (Let None (put i turn (waiting nodes s.registers (Some i) part)) (loop nodes s.registers i count part (turn + 1))) _
      (ap (λ (ms : List ℕ). progress_at nodes ms (frame.Loop id (turn + 1) ∷ s.frames) s.masks.regions s.cleanups (Eval part)) e
      ∙ sym (running_named nodes s.registers turn at.sound.bound part at.sound.fits (λ t. Let None t after)
      (Some i) s.frames s.masks.regions s.cleanups part_bound at.sound.frames_in)
      ∙ ap (λ (w : Term). running nodes s.registers s.cleanups
      (within nodes s.registers s.frames s.masks.regions (Let None (put i turn (waiting nodes s.registers (Some i) part)) w)))
      (sym (loop_stays turn (turn + 1)) ∙ loop_is (turn + 1)))
      (λ k. loop_turns more)
