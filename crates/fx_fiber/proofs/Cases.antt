-- The rules of a resource whose release goes by how the use ended.
use Rattle.std.proofs.Common.{◌≡◌, ℕ, suc, ◌≤◌, Bool, Option, Some, List, ◌∷◌, length, refl, sym, ◌∙◌, ap, arith}
use Rattle.std.specs.Prelude.{slice_get}
use Rattle.fx_term.specs.declared.node.NodeId.{NodeId}
use Rattle.fx_term.specs.declared.node.Node.{Node}
use Rattle.fx_term.specs.declared.node.Node.TheVariants as node
use Rattle.fx_term.specs.declared.done.Done.{Done}
use Rattle.fx_term.specs.declared.done.Done.TheVariants.{Val, Err}
use Rattle.fx_term.specs.declared.event.Event.TheVariants as event
use Rattle.fx_term.specs.Term.{Term, Finished, InUseCase, InRelease, put}
use Rattle.fx_term.specs.Registers.{with_number}
use Rattle.fx_mask.specs.Closing.{Closing, Seal}
use Rattle.fx_mask.specs.Masks.{closed_by}
use Rattle.fx_frames.specs.declared.frame.Frame.TheVariants as frame
use Rattle.fx_model.specs.Path.{plug}
use Rattle.fx_model.specs.Row.{Counts, Silent, Shows, Row, one_more_acquired, acquired_case, acquire_case_fails}
use Rattle.fx_model.specs.Step.{Step}
use Rattle.fx_fiber.specs.declared.machine.focus.Focus.TheVariants.{Eval}
use Rattle.fx_fiber.specs.declared.machine.Machine.{Machine}
use Rattle.fx_fiber.specs.Machine.{filled, waiting, waiting_inner, acquire_case_in, in_frame, all_but_innermost, within, running}
use Rattle.fx_fiber.specs.Machine.{progress_at, progress_of, counts_of}
use Rattle.fx_fiber.specs.Sound.{closed_outside, left_of, AreClosedBy, AreFramesIn, IsBound, IsCaseIn, IsUseCaseIn, IsSound}
use Rattle.fx_fiber.specs.Places.{ReturnsInto, IsCaseAt, HasSuccess, HasFailure}
use Rattle.fx_fiber.proofs.Numbers.{frames_up, part_named, inner_named, running_named, fits_named}
use Rattle.fx_fiber.proofs.Results.{closed_in, frames_in, given_step}

-- an error in the acquire part
pub case_fails_row : (nodes : List Node) (ns : List ℕ) (k : Bool) (c : Counts) (e : ℕ) (o : Option Node)
    → Row k c (plug (acquire_case_in nodes ns o) (Finished (Err e))) Silent c (Finished (Err e))
case_fails_row nodes ns k c e (Some (node.BracketCase x a u y s z f d)) = acquire_case_fails
case_fails_row nodes ns k c e o = acquire_case_fails

-- a fiber with a value in the acquire part
module _ (nodes : List Node) (s : Machine) (id : NodeId) (x : ℕ) (u d : NodeId) (n : ℕ)
    (inside : ReturnsInto nodes s (frame.AcquireCase id) (Val n)) (case : IsCaseAt nodes id x u d) where
  in_scope : AreFramesIn nodes inside.given.sound.bound (frame.AcquireCase id ∷ inside.outer) (left_of s.cleanups)
  in_scope = frames_in nodes s (frame.AcquireCase id) (Val n) inside

  fits : in_scope.0 ≤ length s.registers
  fits = let p = in_scope.1 in let q = inside.given.sound.fits in omega arith

  parts : IsCaseIn nodes in_scope.0 (Some (node.BracketCase x case.0 u case.1 case.2 case.3 case.4 d))
  parts = rw case.5 at in_scope.2

  module _ (outer : List Closing) (shut : s.masks.regions ≡ Seal ∷ outer) where
    closed_outer : AreClosedBy (closed_outside s.cleanups) inside.outer outer
    closed_outer = rw shut at (closed_in nodes s (frame.AcquireCase id) (Val n) inside).1

    -- the use and the releases have one register more
    pub acquired_case_sound : IsSound nodes (with_number (Some x) n s.registers) (frame.UsingCase s.acquired id d ∷ inside.outer)
        (record s.masks { regions = outer }) s.cleanups (Eval u)
    acquired_case_sound = record {
      tree = inside.given.sound.tree;
      bound = suc in_scope.0;
      fits = fits_named (Some x) n in_scope.0 s.registers nodes u parts.0 fits;
      focus_in = parts.0.node;
      frames_in = (
        suc in_scope.0,
        omega arith,
        rw case.5 (parts.1, parts.2, parts.3.node),
        frames_up nodes in_scope.0 (suc in_scope.0) inside.outer (left_of s.cleanups) in_scope.3 (omega arith),
      );
      closed = (tt, closed_outer);
      room = rw inside.frames at inside.given.sound.room;
      between = tt;
    }

    -- the term that the row leads to, and that of the machine
    abbrev before : Term → Term
    before t =
        let ns : List ℕ = s.registers in
        InUseCase s.acquired t case.1 (put x n (waiting_inner nodes ns x case.1 case.2)) case.3 (put x n (waiting_inner nodes ns x case.3 case.4))
        (put x n (waiting nodes ns (Some x) d))

    abbrev after : Term → Term
    after t =
        let ms : List ℕ = with_number (Some x) n s.registers in
        InUseCase s.acquired t case.1 (waiting nodes ms (Some case.1) case.2) case.3 (waiting nodes ms (Some case.3) case.4) (filled nodes ms d)

    same_releases : (t : Term) → after t ≡ before t
    same_releases t =
        let at = parts.0.binder in
        let success = inner_named nodes s.registers n in_scope.0 case.2 fits x case.1 at parts.1 in
        let failure = inner_named nodes s.registers n in_scope.0 case.4 fits x case.3 at parts.2 in
        let canceled = part_named nodes s.registers n in_scope.0 d fits (Some x) parts.3 in
        cc

    pub acquired_case_step : Step (counts_of s) (progress_of nodes s) (Shows (event.Acquired s.acquired)) (one_more_acquired (counts_of s))
        (progress_at nodes (with_number (Some x) n s.registers) (frame.UsingCase s.acquired id d ∷ inside.outer) outer s.cleanups (Eval u))
    acquired_case_step =
        let ns : List ℕ = s.registers in
        let used : Term = put x n (waiting nodes ns (Some x) u) in
        given_step nodes s (frame.AcquireCase id) (Val n) inside (one_more_acquired (counts_of s)) (Shows (event.Acquired s.acquired))
        (before used) _
        (rw case.5 (sym (running_named nodes ns n in_scope.0 u fits after (Some x) inside.outer outer s.cleanups parts.0 in_scope.3))
        ∙ ap (λ (w : Term). running nodes ns s.cleanups (within nodes ns inside.outer outer w)) (same_releases used)
        ∙ ap (λ (c : List Closing). running nodes ns s.cleanups (within nodes ns inside.outer (all_but_innermost c) (before used))) (sym shut))
        (λ k. rw case.5 acquired_case)

-- the release that a `bracketcase` has for this end of its use
module _ (nodes : List Node) (id d : NodeId) (y : ℕ) (b : NodeId) where
  pub success_bound : HasSuccess nodes id y b → (e : ℕ) → IsUseCaseIn nodes e d (slice_get nodes id.0) → IsBound nodes e (Some y) b
  success_bound has e h =
      let parts : IsUseCaseIn nodes e d (Some (node.BracketCase has.0 has.1 has.2 y b has.3 has.4 has.5)) = rw has.6 at h in parts.0

  pub failure_bound : HasFailure nodes id y b → (e : ℕ) → IsUseCaseIn nodes e d (slice_get nodes id.0) → IsBound nodes e (Some y) b
  failure_bound has e h =
      let parts : IsUseCaseIn nodes e d (Some (node.BracketCase has.0 has.1 has.2 has.3 has.4 y b has.5)) = rw has.6 at h in parts.1

-- a fiber whose use has this result, and this release of it with this number for its name
module _ (nodes : List Node) (s : Machine) (id : NodeId) (k : ℕ) (d : NodeId) (v : Done) (y : ℕ) (b : NodeId) (n : ℕ)
    (inside : ReturnsInto nodes s (frame.UsingCase k id d) v)
    (under : (e : ℕ) → IsUseCaseIn nodes e d (slice_get nodes id.0) → IsBound nodes e (Some y) b) where
  in_use : AreFramesIn nodes inside.given.sound.bound (frame.UsingCase k id d ∷ inside.outer) (left_of s.cleanups)
  in_use = frames_in nodes s (frame.UsingCase k id d) v inside

  use_fits : in_use.0 ≤ length s.registers
  use_fits = let p = in_use.1 in let q = inside.given.sound.fits in omega arith

  release : IsBound nodes in_use.0 (Some y) b
  release = under in_use.0 in_use.2

  -- the registers reach up to its name
  pub release_reaches : y ≤ length s.registers
  release_reaches = let at = release.binder in let reach = use_fits in omega arith

  pub begins_sound : IsSound nodes (with_number (Some y) n s.registers) (frame.Releasing k v ∷ inside.outer) (closed_by Seal s.masks) s.cleanups (Eval b)
  begins_sound = record {
    tree = inside.given.sound.tree;
    bound = suc in_use.0;
    fits = fits_named (Some y) n in_use.0 s.registers nodes b release use_fits;
    focus_in = release.node;
    frames_in = (
      suc in_use.0,
      omega arith,
      tt,
      frames_up nodes in_use.0 (suc in_use.0) inside.outer (left_of s.cleanups) in_use.3 (omega arith),
    );
    closed = ((s.masks.regions, refl), (closed_in nodes s (frame.UsingCase k id d) v inside).1);
    room = rw inside.frames at inside.given.sound.room;
    between = tt;
  }

  pub begins_step : ((closed : Bool) → Row closed (counts_of s) (in_frame nodes s.registers s.masks.regions (frame.UsingCase k id d) (Finished v))
      (Shows (event.Begin k)) (counts_of s) (InRelease k (put y n (waiting nodes s.registers (Some y) b)) v))
      → Step (counts_of s) (progress_of nodes s) (Shows (event.Begin k)) (counts_of s)
      (progress_at nodes (with_number (Some y) n s.registers) (frame.Releasing k v ∷ inside.outer) (Seal ∷ s.masks.regions) s.cleanups (Eval b))
  begins_step go =
      given_step nodes s (frame.UsingCase k id d) v inside (counts_of s) (Shows (event.Begin k)) _ _
      (sym (running_named nodes s.registers n in_use.0 b use_fits (λ t. InRelease k t v) (Some y) inside.outer s.masks.regions s.cleanups release in_use.3))
      go
