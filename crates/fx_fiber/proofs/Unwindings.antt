-- Cancellation, a request that is seen, and unwinding.
use Rattle.std.proofs.Common.{◌≡◌, ℕ, true, false, Option, Some, None, List, [], ◌∷◌, refl, arith}
use Rattle.std.specs.Prelude.{◌&&◌, ◌||◌}
use Rattle.fx_term.specs.declared.node.NodeId.{NodeId}
use Rattle.fx_term.specs.declared.node.Node.{Node}
use Rattle.fx_term.specs.declared.done.Done.{Done}
use Rattle.fx_term.specs.declared.outcome.Outcome.{Outcome}
use Rattle.fx_term.specs.declared.event.Event.TheVariants as event
use Rattle.fx_mask.specs.Closing.{Closing, Seal, is_none_closed}
use Rattle.fx_mask.specs.Masks.{MasksView, closed_by}
use Rattle.fx_frames.specs.declared.frame.Frame.{Frame}
use Rattle.fx_fiber.specs.declared.machine.unwound.Unwound.{Unwound}
use Rattle.fx_frames.specs.declared.cleanup.Cleanup.{Cleanup}
use Rattle.fx_frames.specs.declared.cleanup.Cleanup.TheVariants as cleanup
use Rattle.fx_frames.specs.Frames.{cleanups_of}
use Rattle.fx_model.specs.Path.{is_canceled_form}
use Rattle.fx_model.specs.Row.{Counts, Silent, Shows, known_canceled}
use Rattle.fx_model.specs.Step.{Unwinds, Step, finalizer, release}
use Rattle.fx_fiber.specs.declared.machine.focus.Focus.{Focus}
use Rattle.fx_fiber.specs.declared.machine.focus.Focus.TheVariants.{Eval, Return, Turn, Await, Unwinding, Ended}
use Rattle.fx_fiber.specs.declared.machine.Machine.{Machine}
use Rattle.fx_fiber.specs.Machine.{inner, within, cleanup_terms_of, running, progress_at}
use Rattle.fx_fiber.specs.Sound.{closed_outside, AreCleanupsIn, AreFramesIn, AreClosedBy, IsNode, IsSound}
use Rattle.fx_fiber.specs.Places.{IsEntered, IsGoing, ReturnsOut}
use Rattle.fx_fiber.proofs.Contexts.{cleanup_is_closed}
use Rattle.fx_fiber.proofs.Numbers.{cleanups_in}
use Rattle.fx_fiber.proofs.Rules.{cancelled_step, seen_step}
use Rattle.fx_fiber.proofs.Nodes.{leaf_of_focus}

-- the next clean-up is taken
module _ (nodes : List Node) (ns : List ℕ) (fs : List Frame) (m : MasksView) (c next : Unwound) (sound : IsSound nodes ns fs m (Some c) Unwinding) where
  module _ (taken : Cleanup) (is : c.left ≡ taken ∷ next.left) where
    cleanups_are_in : AreCleanupsIn nodes sound.bound (taken ∷ next.left)
    cleanups_are_in = rw (sound.between, is) at sound.frames_in

    next_sound : (id : NodeId) → IsNode nodes cleanups_are_in.0 id → IsSound nodes ns fs m (Some next) (Eval id)
    next_sound id here = record {
      tree = sound.tree;
      bound = cleanups_are_in.0;
      fits = let p = cleanups_are_in.1 in let q = sound.fits in omega arith;
      focus_in = here;
      frames_in = of_none fs sound.between;
      closed = sound.closed;
      room = sound.room;
      between = tt;
    }
      where
        of_none : (no_frame : List Frame) → no_frame ≡ [] → AreFramesIn nodes cleanups_are_in.0 no_frame next.left
        of_none no_frame e = rw e cleanups_are_in.3

  pub finalizer_sound : (f : NodeId) → c.left ≡ cleanup.Finalizer f ∷ next.left → IsSound nodes ns fs m (Some next) (Eval f)
  finalizer_sound f is = next_sound (cleanup.Finalizer f) is f (cleanups_are_in (cleanup.Finalizer f) is).2

  pub release_sound : (k : ℕ) (r : NodeId) → c.left ≡ cleanup.Release k r ∷ next.left → IsSound nodes ns fs m (Some next) (Eval r)
  release_sound k r is = next_sound (cleanup.Release k r) is r (cleanups_are_in (cleanup.Release k r) is).2

  pub unwound_sound : (numbers : List ℕ) (o : Outcome) → next.left ≡ [] → IsSound nodes numbers fs m (Some next) (Ended o)
  unwound_sound numbers o none = record {
    tree = sound.tree;
    bound = 0;
    fits = omega arith;
    focus_in = tt;
    frames_in = of_none fs sound.between;
    closed = sound.closed;
    room = sound.room;
    between = tt;
  }
    where
      of_none : (no_frame : List Frame) → no_frame ≡ [] → AreFramesIn nodes 0 no_frame next.left
      of_none no_frame e = rw (e, none) tt

  pub finalizer_begins : (d : Counts) (f : NodeId) → c.left ≡ cleanup.Finalizer f ∷ next.left → next.resource ≡ None
      → Step d (progress_at nodes ns fs m.regions (Some c) Unwinding) Silent d (progress_at nodes ns fs m.regions (Some next) (Eval f))
  finalizer_begins d f is resource = rw (is, resource, sound.between) finalizer

  pub release_begins : (d : Counts) (k : ℕ) (r : NodeId) → c.left ≡ cleanup.Release k r ∷ next.left → next.resource ≡ Some k
      → Step d (progress_at nodes ns fs m.regions (Some c) Unwinding) (Shows (event.Begin k)) d (progress_at nodes ns fs m.regions (Some next) (Eval r))
  release_begins d k r is resource = rw (is, resource, sound.between) release

-- an open place is in no clean-up, nor between two
pub not_cleaning : (fs : List Frame) (cs : List Closing) (left : Option Unwound) → AreClosedBy (closed_outside left) fs cs → is_none_closed cs ≡ true
    → left ≡ None
not_cleaning fs cs None closed shown = refl
not_cleaning fs cs (Some left) closed shown = absurd (let shut = cleanup_is_closed fs cs left closed in cc)

none_closed : (cs : List Closing) → is_none_closed cs ≡ true → cs ≡ []
none_closed [] h = refl
none_closed (c ∷ cs) h = absurd (let no : false ≡ true = h in cc)

-- a fiber at a leaf or a result, where nothing closes the place
module _ (nodes : List Node) (ns : List ℕ) (fs : List Frame) (m : MasksView) (left : Option Unwound) (focus : Focus)
    (sound : IsSound nodes ns fs m left focus) (going : IsGoing focus) (leaf : IsEntered nodes focus) (opened : is_none_closed m.regions ≡ true) where
  no_cleanup : left ≡ None
  no_cleanup = not_cleaning fs m.regions left sound.closed opened

  running_at : (q : Focus) → focus ≡ q
      → progress_at nodes ns fs m.regions left focus ≡ running nodes ns left (within nodes ns fs m.regions (inner nodes ns focus))
  running_at (Eval id) e = rw e refl
  running_at (Return v) e = rw e refl
  running_at (Turn id turn) e = rw e refl
  running_at (Await f) e = absurd (rw e at leaf)
  running_at Unwinding e = absurd (rw (e, no_cleanup) at sound.between)
  running_at (Ended o) e = absurd (rw e at going)

  module _ (c : Counts) where
    -- the whole term is given up for the clean-ups of its contexts
    pub cancelled_at : (is_none_closed m.regions && (c.known || is_canceled_form (inner nodes ns focus))) ≡ true
        → Step c (progress_at nodes ns fs m.regions left focus) (Shows event.Cancelled) c (Unwinds (cleanup_terms_of nodes ns (cleanups_of fs)))
    cancelled_at due = rw (running_at focus refl)
        (cancelled_step nodes ns fs m.regions (inner nodes ns focus) (leaf_of_focus nodes ns m.regions focus sound.tree leaf) left c sound.closed due)

    pub seen_at : (is_none_closed m.regions && (c.known || is_canceled_form (inner nodes ns focus))) ≡ false
        → Step c (progress_at nodes ns fs m.regions left focus) (Shows event.Seen) (known_canceled c) (progress_at nodes ns fs m.regions left focus)
    seen_at free = rw (running_at focus refl)
        (seen_step nodes ns fs m.regions (inner nodes ns focus) (leaf_of_focus nodes ns m.regions focus sound.tree leaf) left c sound.closed opened free)

  pub cancelled_sound : IsSound nodes ns [] (closed_by Seal m) (Some (record { resource = None; left = cleanups_of fs })) Unwinding
  cancelled_sound = record {
    tree = sound.tree;
    bound = sound.bound;
    fits = sound.fits;
    focus_in = tt;
    frames_in = cleanups_in nodes sound.bound fs (rw no_cleanup at sound.frames_in);
    closed = rw (none_closed m.regions opened) refl;
    room = omega arith;
    between = refl;
  }

-- a fiber with the result of a clean-up is sound between that and the next one
pub between_sound : (nodes : List Node) (s : Machine) (v : Done) (c : Unwound) → ReturnsOut nodes s v → s.cleanups ≡ Some c
    → IsSound nodes s.registers s.frames s.masks s.cleanups Unwinding
between_sound nodes s v c out is =
    let sound = out.given.sound in
    record {
      tree = sound.tree;
      bound = sound.bound;
      fits = sound.fits;
      focus_in = tt;
      frames_in = sound.frames_in;
      closed = sound.closed;
      room = sound.room;
      between = rw is out.frames;
    }
