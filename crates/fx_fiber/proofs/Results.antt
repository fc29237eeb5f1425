-- The rules of a result: in a context, and where it is put for a name.
use Rattle.std.proofs.Common.{◌≡◌, ℕ, ◌≤◌, Bool, false, Option, None, List, [], ◌∷◌, length, refl, sym, ◌∙◌, ap, arith}
use Rattle.std.specs.Prelude.{◌&&◌, ◌||◌, Result, Ok, Err, OnErr}
use Rattle.fx_term.specs.declared.node.NodeId.{NodeId}
use Rattle.fx_term.specs.declared.node.Node.{Node}
use Rattle.fx_term.specs.declared.done.Done.{Done}
use Rattle.fx_term.specs.declared.outcome.Outcome.{Outcome}
use Rattle.fx_term.specs.Term.{Term, Finished, put_named}
use Rattle.fx_term.specs.Registers.{with_number}
use Rattle.fx_term.specs.Scope.{bound_under}
use Rattle.fx_mask.specs.Closing.{Closing, is_none_closed}
use Rattle.fx_frames.specs.declared.frame.Frame.{Frame}
use Rattle.fx_model.specs.Row.{Counts, Label, Silent, Row}
use Rattle.fx_model.specs.Step.{Progress, leaf_at, Step}
use Rattle.fx_fiber.specs.declared.machine.focus.Focus.TheVariants.{Eval, Ended}
use Rattle.fx_fiber.specs.declared.machine.Machine.{Machine}
use Rattle.fx_fiber.specs.Machine.{filled, waiting, outside_frame, in_frame, within, running, progress_of, counts_of}
use Rattle.fx_fiber.specs.Sound.{closed_outside, left_of, taken_off, AreClosedBy, AreFramesIn, IsFrameIn, IsBound, IsClosedBy, IsSound, IsSoundMachine}
use Rattle.fx_model.specs.Path.{must_cancel}
use Rattle.fx_fiber.specs.Places.{ReturnsInto, IsReturning}
use Rattle.fx_fiber.specs.MakesStep.{is_yielding}
use Rattle.fx_fiber.proofs.Contexts.{row_within}
use Rattle.fx_fiber.proofs.Numbers.{frames_up, running_named, fits_named, under_above}
use Rattle.fx_fiber.proofs.Rules.{row_step, result_term, leaf_of_running}

-- the leaf of a fiber with a result is that result, so no rule of it is that of `cede`
pub given_is_no_cede : (nodes : List Node) (s : Machine) (v : Done) → IsReturning nodes s v → is_yielding (leaf_at (progress_of nodes s)) ≡ false
given_is_no_cede nodes s v given = rw given.focus
    (ap is_yielding (leaf_of_running nodes s.registers s.frames s.masks.regions (Finished v) (result_term s.masks.regions v) s.cleanups))

-- a fiber with a result in its innermost context
module _ (nodes : List Node) (s : Machine) (f : Frame) (v : Done) (inside : ReturnsInto nodes s f v) where
  pub closed_in : AreClosedBy (closed_outside s.cleanups) (f ∷ inside.outer) s.masks.regions
  closed_in = rw inside.frames at inside.given.sound.closed

  -- the context stands where this is closed
  pub closed_inside : IsClosedBy f s.masks.regions
  closed_inside = closed_in.0

  pub frames_in : AreFramesIn nodes inside.given.sound.bound (f ∷ inside.outer) (left_of s.cleanups)
  frames_in = rw inside.frames at inside.given.sound.frames_in

  -- the row of that context is a step
  pub given_step : (d : Counts) (l : Label) (t' : Term) (p : Progress)
      → p ≡ running nodes s.registers s.cleanups (within nodes s.registers inside.outer (outside_frame f s.masks.regions) t')
      → ((k : Bool) → Row k (counts_of s) (in_frame nodes s.registers s.masks.regions f (Finished v)) l d t') → Step (counts_of s) (progress_of nodes s) l d p
  given_step d l t' p e go =
      let free' : (is_none_closed s.masks.regions && (s.known || false)) ≡ false = rw inside.given.focus at inside.given.free in
      let step = row_step nodes s.registers (f ∷ inside.outer) s.masks.regions (Finished v) (result_term s.masks.regions v) s.cleanups
      (counts_of s) d l _ closed_in free'
      (λ k h. row_within nodes s.registers k (counts_of s) d l inside.outer (outside_frame f s.masks.regions) _ _ (go k)) in
      rw (inside.given.focus, inside.frames, e) step

  -- the same of a row that shows nothing and changes no count
  pub given_quietly : (d : Counts) (t' : Term) (p : Progress) → d ≡ counts_of s
      → p ≡ running nodes s.registers s.cleanups (within nodes s.registers inside.outer (outside_frame f s.masks.regions) t')
      → ((k : Bool) → Row k (counts_of s) (in_frame nodes s.registers s.masks.regions f (Finished v)) Silent (counts_of s) t')
      → Step (counts_of s) (progress_of nodes s) Silent d p
  given_quietly d t' p same e go = rw same (given_step (counts_of s) Silent t' p e go)

  -- a result put for the name of the part that waits in that context
  module _ (x : Option ℕ) (b : NodeId) (n : ℕ) (under : (e : ℕ) → IsFrameIn nodes e f → IsBound nodes e x b)
      (same : outside_frame f s.masks.regions ≡ s.masks.regions) where
    fits : frames_in.0 ≤ length s.registers
    fits = let p = frames_in.1 in let q = inside.given.sound.fits in omega arith

    bound : IsBound nodes frames_in.0 x b
    bound = under frames_in.0 frames_in.2

    -- the part goes on with one more register
    pub named_step : (p : Progress)
        → p ≡ running nodes (with_number x n s.registers) s.cleanups
        (within nodes (with_number x n s.registers) inside.outer s.masks.regions (filled nodes (with_number x n s.registers) b))
        →
        ((k : Bool) → Row k (counts_of s) (in_frame nodes s.registers s.masks.regions f (Finished v))
        Silent (counts_of s) (put_named x n (waiting nodes s.registers x b)))
        → Step (counts_of s) (progress_of nodes s) Silent (counts_of s) p
    named_step p e go =
        given_step (counts_of s) Silent _ p
        (e
        ∙ sym (running_named nodes s.registers n frames_in.0 b fits (λ t. t) x inside.outer s.masks.regions s.cleanups bound frames_in.3)
        ∙ ap (λ (c : List Closing). running nodes s.registers s.cleanups
        (within nodes s.registers inside.outer c (put_named x n (waiting nodes s.registers x b))))
        (sym same))
        go

    pub named_sound : taken_off (f ∷ inside.outer) ≡ taken_off inside.outer
        → IsSound nodes (with_number x n s.registers) inside.outer s.masks s.cleanups (Eval b)
    named_sound e = record {
      tree = inside.given.sound.tree;
      bound = bound_under frames_in.0 x;
      fits = fits_named x n frames_in.0 s.registers nodes b bound fits;
      focus_in = bound.node;
      frames_in = frames_up nodes frames_in.0 (bound_under frames_in.0 x) inside.outer (left_of s.cleanups) frames_in.3 (under_above x frames_in.0);
      closed = rw same at closed_in.1;
      room = rw (inside.frames, e) at inside.given.sound.room;
      between = tt;
    }

-- a result in no context, of a fiber that was not canceled: nothing closes the place, so the fiber is free
pub result_is_free : (nodes : List Node) (s : Machine) (v : Done) → IsReturning nodes s v → s.frames ≡ [] → s.cleanups ≡ None
    → must_cancel s.known (Finished v) ≡ false
result_is_free nodes s v given no_frame runs =
    let shut : s.masks.regions ≡ [] = rw (no_frame, runs) at given.sound.closed in
    rw (shut, given.focus) at given.free

-- a fiber that has ended needs no numbers of names, and has no context
pub ended_sound : (nodes : List Node) (s : Machine) → IsSoundMachine nodes s → s.frames ≡ [] → s.cleanups ≡ None
    → (numbers : List ℕ) (frames : List Frame) (o : Outcome) → frames ≡ [] → IsSound nodes numbers frames s.masks s.cleanups (Ended o)
ended_sound nodes s sound no_frame runs numbers frames o none = record {
  tree = sound.tree;
  bound = 0;
  fits = omega arith;
  focus_in = tt;
  frames_in = rw (none, runs) tt;
  closed = rw none (rw no_frame at sound.closed);
  room = rw none (omega arith);
  between = tt;
}

-- what holds anyway holds on an error
pub on_any_error : {T E P : Type 0} (r : Result T E) → P → OnErr r P
on_any_error (Ok x) p = tt
on_any_error (Err e) p = p

-- counts with as many masks
pub counts_same : (s : Machine) (n : ℕ) → n ≡ s.masks.entries
    → ◌≡◌ {A = Counts} (record { masks = n; acquired = s.acquired; next = s.next; end = s.end; known = s.known }) (counts_of s)
counts_same s n e = rw e refl
