-- The rules of a resource.
use Rattle.std.proofs.Common.{◌≡◌, ℕ, ◌≤◌, Bool, Option, Some, List, ◌∷◌, length, sym, ◌∙◌, ap, arith}
use Rattle.fx_term.specs.declared.node.NodeId.{NodeId}
use Rattle.fx_term.specs.declared.node.Node.{Node}
use Rattle.fx_term.specs.declared.node.Node.TheVariants as node
use Rattle.fx_term.specs.declared.done.Done.TheVariants.{Val, Err}
use Rattle.fx_term.specs.declared.event.Event.TheVariants as event
use Rattle.fx_term.specs.Term.{Term, Finished, InUse, put_named}
use Rattle.fx_term.specs.Registers.{with_number}
use Rattle.fx_term.specs.Scope.{bound_under}
use Rattle.fx_mask.specs.Closing.{Closing, Seal}
use Rattle.fx_frames.specs.declared.frame.Frame.TheVariants as frame
use Rattle.fx_model.specs.Row.{Counts, Silent, Shows, Row, one_more_acquired, acquired, acquire_fails}
use Rattle.fx_model.specs.Step.{Step}
use Rattle.fx_fiber.specs.declared.machine.focus.Focus.TheVariants.{Eval}
use Rattle.fx_fiber.specs.declared.machine.Machine.{Machine}
use Rattle.fx_fiber.specs.Machine.{filled, waiting, bracket_of, all_but_innermost, within, running, progress_at, progress_of, counts_of}
use Rattle.fx_fiber.specs.Sound.{closed_outside, left_of, AreClosedBy, AreFramesIn, IsBound, IsSound}
use Rattle.fx_fiber.specs.Places.{ReturnsInto, IsBracketAt}
use Rattle.fx_fiber.proofs.Numbers.{frames_up, part_named, running_named, fits_named, under_above}
use Rattle.fx_fiber.proofs.Results.{closed_in, frames_in, given_step}

-- an error in the acquire part of a bracket
pub fails_row : (nodes : List Node) (ns : List ℕ) (k : Bool) (c : Counts) (e : ℕ) (o : Option Node)
    → Row k c (bracket_of nodes ns o (Finished (Err e))) Silent c (Finished (Err e))
fails_row nodes ns k c e (Some (node.Bracket x a u r)) = acquire_fails
fails_row nodes ns k c e o = acquire_fails

-- a fiber with a value in the acquire part of a bracket
module _ (nodes : List Node) (s : Machine) (id : NodeId) (x : Option ℕ) (u r : NodeId) (n : ℕ)
    (inside : ReturnsInto nodes s (frame.Acquire id) (Val n)) (bracket : IsBracketAt nodes id x u r) where
  in_scope : AreFramesIn nodes inside.given.sound.bound (frame.Acquire id ∷ inside.outer) (left_of s.cleanups)
  in_scope = frames_in nodes s (frame.Acquire id) (Val n) inside

  fits : in_scope.0 ≤ length s.registers
  fits = let p = in_scope.1 in let q = inside.given.sound.fits in omega arith

  parts : IsBound nodes in_scope.0 x u × IsBound nodes in_scope.0 x r
  parts = rw bracket.1 at in_scope.2

  module _ (outer : List Closing) (shut : s.masks.regions ≡ Seal ∷ outer) where
    closed_outer : AreClosedBy (closed_outside s.cleanups) inside.outer outer
    closed_outer = rw shut at (closed_in nodes s (frame.Acquire id) (Val n) inside).1

    -- the use and the release have one register more
    pub acquired_sound : IsSound nodes (with_number x n s.registers) (frame.Using s.acquired r ∷ inside.outer)
        (record s.masks { regions = outer }) s.cleanups (Eval u)
    acquired_sound = record {
      tree = inside.given.sound.tree;
      bound = bound_under in_scope.0 x;
      fits = fits_named x n in_scope.0 s.registers nodes u parts.0 fits;
      focus_in = parts.0.node;
      frames_in = (
        bound_under in_scope.0 x,
        omega arith,
        parts.1.node,
        frames_up nodes in_scope.0 (bound_under in_scope.0 x) inside.outer (left_of s.cleanups) in_scope.3 (under_above x in_scope.0),
      );
      closed = (tt, closed_outer);
      room = rw inside.frames at inside.given.sound.room;
      between = tt;
    }

    pub acquired_step : Step (counts_of s) (progress_of nodes s) (Shows (event.Acquired s.acquired)) (one_more_acquired (counts_of s))
        (progress_at nodes (with_number x n s.registers) (frame.Using s.acquired r ∷ inside.outer) outer s.cleanups (Eval u))
    acquired_step =
        let ns : List ℕ = s.registers in
        let used : Term = put_named x n (waiting nodes ns x u) in
        let released : Term = filled nodes (with_number x n ns) r in
        given_step nodes s (frame.Acquire id) (Val n) inside (one_more_acquired (counts_of s)) (Shows (event.Acquired s.acquired))
        (InUse s.acquired used (put_named x n (waiting nodes ns x r))) _
        (sym (running_named nodes ns n in_scope.0 u fits (λ t. InUse s.acquired t released) x inside.outer outer s.cleanups parts.0 in_scope.3)
        ∙ ap (λ (w : Term). running nodes ns s.cleanups (within nodes ns inside.outer outer (InUse s.acquired used w)))
        (sym (part_named nodes ns n in_scope.0 r fits x parts.1))
        ∙ ap (λ (c : List Closing). running nodes ns s.cleanups
        (within nodes ns inside.outer (all_but_innermost c) (InUse s.acquired used (put_named x n (waiting nodes ns x r)))))
        (sym shut))
        (λ k. rw bracket.1 acquired)
