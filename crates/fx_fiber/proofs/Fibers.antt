-- The rules of `join`, `cancel` and `first`, and of a fiber that awaits one that it canceled.
use Rattle.std.proofs.Common.{◌≡◌, ℕ, suc, ◌<◌, ◌≤◌, ◌^◌, true, false, Option, Some, None, List, [], ◌∷◌, length, refl, sym, ◌∙◌, ap, arith}
use Rattle.std.specs.Prelude.{All, slice_index, option_and_then}
use Rattle.std.proofs.lemmas.Bool.{lt-ltb, ltb-true}
use Rattle.fx_term.specs.declared.node.Arg.{Arg}
use Rattle.fx_term.specs.declared.node.Arg.TheVariants.{Number, Slot}
use Rattle.fx_term.specs.declared.node.NodeId.{NodeId}
use Rattle.fx_term.specs.declared.node.Node.{Node}
use Rattle.fx_term.specs.declared.node.Node.TheVariants as node
use Rattle.fx_term.specs.declared.done.Done.TheVariants.{Val}
use Rattle.fx_term.specs.declared.outcome.Outcome.{Outcome}
use Rattle.fx_term.specs.declared.outcome.Outcome.TheVariants.{Succeeded, Errored}
use Rattle.fx_term.specs.declared.outcome.Outcome.TheVariants as outcome
use Rattle.fx_term.specs.declared.event.Event.TheVariants as event
use Rattle.fx_term.specs.Term.{Term, Join, Cancel, First, Await, Finished, put}
use Rattle.fx_term.specs.Fill.{fill_arg}
use Rattle.fx_term.specs.Registers.{with_number}
use Rattle.fx_term.specs.Scope.{HasLevels}
use Rattle.fx_term.specs.Meaning.{term_of}
use Rattle.fx_mask.specs.Closing.{is_none_closed}
use Rattle.fx_fiber.specs.declared.machine.focus.Focus.TheVariants.{Eval, Return}
use Rattle.fx_fiber.specs.declared.machine.focus.Focus.TheVariants as focus
use Rattle.fx_fiber.specs.declared.machine.unwound.Unwound.{Unwound}
use Rattle.fx_fiber.specs.declared.machine.Machine.{Machine}
use Rattle.fx_model.specs.Path.{is_open, must_cancel}
use Rattle.fx_model.specs.Row.{Shows, Learns, part_after, joined, request, awaited, first_left, first_right}
use Rattle.fx_model.specs.Step.{Progress, leaf_at, must_cancel_at, looks_first, Step, row, cleans}
use Rattle.fx_fiber.specs.Fiber.{is_fiber_number}
use Rattle.fx_model.specs.Scopes.{IsArgGiven, IsProgressScopedOver}
use Rattle.fx_model.specs.declared.source.Source.TheVariants.{Either}
use Rattle.fx_model.specs.Waiting.{wait_at}
use Rattle.fx_model.specs.declared.source.Source.TheVariants as waiting_for
use Rattle.fx_fiber.specs.Machine.{filled, waiting, within, running, progress_at, progress_of, counts_of}
use Rattle.fx_fiber.specs.Sound.{closed_outside, IsNode, IsBound, AreClosedBy, IsSound, IsSoundMachine}
use Rattle.fx_fiber.specs.Places.{IsSame, IsEvaluating, must_cancel_machine, joined_machine}
use Rattle.fx_fiber.specs.Makes.{WaitsFor}
use Rattle.fx_term.proofs.RegisterLaws.{with_again, length_with}
use Rattle.fx_fiber.proofs.Contexts.{row_within, leaf_within, closed_within}
use Rattle.fx_fiber.proofs.Nodes.{child_before, leaf_is_free}
use Rattle.fx_fiber.proofs.Leaves.{levels, child, row_at, leaf_here, register_stays, beside_sound, beside_is, named_sound, named_is}
use Rattle.fx_model.proofs.ScopedRuns.{leaf_at_over}

-- the register of a name that stands for a fiber has the number of one
given_fits : (ns : List ℕ) (x : ℕ) → x < length ns → IsArgGiven is_fiber_number (fill_arg (length ns) ns (Slot x)) → slice_index ns x < 2 ^ 32
given_fits ns x h given =
    let here : is_fiber_number (slice_index ns x) ≡ true = rw (lt-ltb x (length ns) h) at given in
    ltb-true (slice_index ns x) (2 ^ 32) here

-- a fiber that stands at a join
module _ (nodes : List Node) (s : Machine) (id : NodeId) (f x : ℕ) (a : NodeId) (e : ℕ) (b d : NodeId)
    (at : IsEvaluating nodes s id (node.Join f x a e b d)) where
  join_levels : (f < at.sound.bound) × (x ≡ at.sound.bound) × HasLevels (suc at.sound.bound) (term_of nodes a.0) × (e ≡ at.sound.bound)
      × HasLevels (suc at.sound.bound) (term_of nodes b.0) × HasLevels at.sound.bound (term_of nodes d.0)
  join_levels = levels nodes s id (node.Join f x a e b d) at

  below : All (λ c. c < id.0) (a.0 ∷ b.0 ∷ d.0 ∷ [])
  below = child_before nodes s.registers s.frames s.masks s.cleanups s.focus id (node.Join f x a e b d) at.focus at.node at.sound

  pub join_within : f < length s.registers
  join_within = let h = join_levels.0 in let k = at.sound.fits in omega arith

  pub join_fits : IsProgressScopedOver is_fiber_number (progress_of nodes s) → slice_index s.registers f < 2 ^ 32
  join_fits over = given_fits s.registers f join_within
      (leaf_at_over is_fiber_number (progress_of nodes s) _ (leaf_here nodes s id (node.Join f x a e b d) at tt) over).1.0

  success_bound : IsBound nodes at.sound.bound (Some x) a
  success_bound = record { binder = join_levels.1; node = child nodes s id _ at a _ (below 0 0 (omega arith)) join_levels.2 }

  failure_bound : IsBound nodes at.sound.bound (Some x) b
  failure_bound = record { binder = join_levels.1; node = child nodes s id _ at b _ (below 1 0 (omega arith)) join_levels.4 }

  cancellation_node : IsNode nodes at.sound.bound d
  cancellation_node = child nodes s id _ at d _ (below 2 0 (omega arith)) join_levels.5

  pub join_reaches : x ≤ length s.registers
  join_reaches = let h = join_levels.1 in let k = at.sound.fits in omega arith

  pub join_has_register : x < length (with_number (Some x) 0 s.registers)
  join_has_register = let e = length_with x 0 s.registers join_reaches in omega arith

  -- the register of the name is had before the outcome
  pub join_stays : (n : ℕ) (t : Machine) → t ≡ record s { registers = with_number (Some x) n s.registers } → IsSame nodes s t
  join_stays n = register_stays nodes s id _ at x join_levels.1 n

  module _ (fiber : ℕ) (number : fill_arg (length s.registers) s.registers (Slot f) ≡ Number fiber) (free : must_cancel_machine nodes s ≡ false) where
    join_step : (o : Outcome) (p : Progress)
        → p ≡ running nodes s.registers s.cleanups (within nodes s.registers s.frames s.masks.regions
        (part_after o x (waiting nodes s.registers (Some x) a) e (waiting nodes s.registers (Some e) b) (filled nodes s.registers d)))
        → Step (counts_of s) (progress_of nodes s) (Learns fiber o (event.Joined fiber o)) (counts_of s) p
    join_step o p is = row_at nodes s id (node.Join f x a e b d) at tt free (counts_of s) (Learns fiber o (event.Joined fiber o)) _ _ p
        (ap (λ (v : Arg). Join v x (waiting nodes s.registers (Some x) a) e (waiting nodes s.registers (Some e) b) (filled nodes s.registers d)) number) is
        (λ k h. joined)

    -- it goes on by the outcome
    pub join_goes_on : (o : Outcome) (t : Machine) → t ≡ joined_machine o x a b d (record s { registers = with_number (Some x) 0 s.registers })
        → IsSoundMachine nodes t × Step (counts_of s) (progress_of nodes s) (Learns fiber o (event.Joined fiber o)) (counts_of t) (progress_of nodes t)
    join_goes_on (Succeeded n) t is =
        rw (is, with_again x n 0 s.registers join_reaches) (
          named_sound nodes s id _ at x join_levels.1 n a success_bound,
          join_step (Succeeded n) _ (named_is nodes s id _ at x join_levels.1 n a success_bound),
        )
    join_goes_on (Errored n) t is =
        let same : e ≡ x = join_levels.3 ∙ sym join_levels.1 in
        let other : put x n (waiting nodes s.registers (Some x) b) ≡ put e n (waiting nodes s.registers (Some e) b) = rw same refl in
        rw (is, with_again x n 0 s.registers join_reaches) (
          named_sound nodes s id _ at x join_levels.1 n b failure_bound,
          join_step (Errored n) _
              (named_is nodes s id _ at x join_levels.1 n b failure_bound
              ∙ ap (λ (u : Term). running nodes s.registers s.cleanups (within nodes s.registers s.frames s.masks.regions u)) other),
        )
    join_goes_on outcome.Canceled t is =
        rw is (
          beside_sound nodes s id _ at x join_levels.1 0 d cancellation_node,
          join_step outcome.Canceled _ (beside_is nodes s id _ at x join_levels.1 0 d cancellation_node),
        )

    -- or waits for it
    pub join_waits : (t : Machine) → t ≡ record s { registers = with_number (Some x) 0 s.registers }
        → WaitsFor nodes s t (waiting_for.Outcome fiber)
    join_waits t is =
        let here : option_and_then wait_at (leaf_at (progress_of nodes s)) ≡ Some (waiting_for.Outcome fiber) =
        ap (option_and_then wait_at) (leaf_here nodes s id (node.Join f x a e b d) at tt
        ∙ ap (λ (v : Arg). Some (Join v x (waiting nodes s.registers (Some x) a) e (waiting nodes s.registers (Some e) b) (filled nodes s.registers d)))
        number) in
        record {
          leaf = here;
          free = leaf_is_free nodes s.registers s.frames s.masks s.cleanups s.focus id (node.Join f x a e b d) at.focus at.node at.sound tt s.known free;
          same = join_stays 0 t is;
        }

-- a fiber that stands at a cancel
module _ (nodes : List Node) (s : Machine) (id : NodeId) (f : ℕ) (at : IsEvaluating nodes s id (node.Cancel f)) where
  pub request_within : f < length s.registers
  request_within = let h : f < at.sound.bound = levels nodes s id (node.Cancel f) at in let k = at.sound.fits in omega arith

  pub request_fits : IsProgressScopedOver is_fiber_number (progress_of nodes s) → slice_index s.registers f < 2 ^ 32
  request_fits over = given_fits s.registers f request_within
      (leaf_at_over is_fiber_number (progress_of nodes s) _ (leaf_here nodes s id (node.Cancel f) at tt) over).1

  pub request_sound : (fiber : ℕ) → IsSound nodes s.registers s.frames s.masks s.cleanups (focus.Await fiber)
  request_sound fiber = record {
    tree = at.sound.tree;
    bound = at.sound.bound;
    fits = at.sound.fits;
    focus_in = tt;
    frames_in = at.sound.frames_in;
    closed = at.sound.closed;
    room = at.sound.room;
    between = tt;
  }

  pub request_step : (fiber : ℕ) → fill_arg (length s.registers) s.registers (Slot f) ≡ Number fiber → must_cancel_machine nodes s ≡ false
      → Step (counts_of s) (progress_of nodes s) (Shows (event.Request fiber)) (counts_of s)
      (progress_at nodes s.registers s.frames s.masks.regions s.cleanups (focus.Await fiber))
  request_step fiber number free = row_at nodes s id (node.Cancel f) at tt free (counts_of s) (Shows (event.Request fiber)) _ (Await fiber) _
      (ap Cancel number) refl (λ k h. request)

-- a fiber that stands at a first
module _ (nodes : List Node) (s : Machine) (id : NodeId) (f g : ℕ) (at : IsEvaluating nodes s id (node.First f g)) where
  first_levels : (f < at.sound.bound) × (g < at.sound.bound)
  first_levels = levels nodes s id (node.First f g) at

  pub left_within : f < length s.registers
  left_within = let h = first_levels.0 in let k = at.sound.fits in omega arith

  pub right_within : g < length s.registers
  right_within = let h = first_levels.1 in let k = at.sound.fits in omega arith

  module _ (over : IsProgressScopedOver is_fiber_number (progress_of nodes s)) where
    pub left_fits : slice_index s.registers f < 2 ^ 32
    left_fits = given_fits s.registers f left_within
        (leaf_at_over is_fiber_number (progress_of nodes s) _ (leaf_here nodes s id (node.First f g) at tt) over).1.0

    pub right_fits : slice_index s.registers g < 2 ^ 32
    right_fits = given_fits s.registers g right_within
        (leaf_at_over is_fiber_number (progress_of nodes s) _ (leaf_here nodes s id (node.First f g) at tt) over).1.1

  pub result_sound : (n : ℕ) → IsSound nodes s.registers s.frames s.masks s.cleanups (Return (Val n))
  result_sound n = record {
    tree = at.sound.tree;
    bound = at.sound.bound;
    fits = at.sound.fits;
    focus_in = tt;
    frames_in = at.sound.frames_in;
    closed = at.sound.closed;
    room = at.sound.room;
    between = tt;
  }

  module _ (l r : ℕ) (left : fill_arg (length s.registers) s.registers (Slot f) ≡ Number l)
      (right : fill_arg (length s.registers) s.registers (Slot g) ≡ Number r) (free : must_cancel_machine nodes s ≡ false) where
    first_term : First (fill_arg (length s.registers) s.registers (Slot f)) (fill_arg (length s.registers) s.registers (Slot g))
        ≡ First (Number l) (Number r)
    first_term = ap (λ (v : Arg). First v (fill_arg (length s.registers) s.registers (Slot g))) left ∙ ap (λ (v : Arg). First (Number l) v) right

    pub first_leaf : leaf_at (progress_of nodes s) ≡ Some (First (Number l) (Number r))
    first_leaf = leaf_here nodes s id (node.First f g) at tt ∙ ap Some first_term

    pub left_step : (o : Outcome) → Step (counts_of s) (progress_of nodes s) (Learns l o (event.First 0)) (counts_of s)
        (progress_at nodes s.registers s.frames s.masks.regions s.cleanups (Return (Val 0)))
    left_step o = row_at nodes s id (node.First f g) at tt free (counts_of s) (Learns l o (event.First 0)) _ (Finished (Val 0)) _ first_term refl
        (λ k h. first_left)

    pub right_step : (o : Outcome) → Step (counts_of s) (progress_of nodes s) (Learns r o (event.First 1)) (counts_of s)
        (progress_at nodes s.registers s.frames s.masks.regions s.cleanups (Return (Val 1)))
    right_step o = row_at nodes s id (node.First f g) at tt free (counts_of s) (Learns r o (event.First 1)) _ (Finished (Val 1)) _ first_term refl
        (λ k h. first_right)

    pub first_waits : WaitsFor nodes s s (Either l r)
    first_waits = record {
      leaf = ap (option_and_then wait_at) first_leaf;
      free = leaf_is_free nodes s.registers s.frames s.masks s.cleanups s.focus id (node.First f g) at.focus at.node at.sound tt s.known free;
      same = record { sound = at.sound; progress = refl; counts = refl };
    }

-- a fiber that awaits one that it canceled: its place is sealed, whatever its contexts close
module _ (nodes : List Node) (s : Machine) (f : ℕ) (sound : IsSoundMachine nodes s) (here : s.focus ≡ focus.Await f) where
  shut : AreClosedBy [] s.frames s.masks.regions → is_open (within nodes s.registers s.frames s.masks.regions (Await f)) ≡ false
  shut closed = ap is_none_closed (closed_within nodes s.registers [] s.frames s.masks.regions (Await f) closed)

  by_left : (left : Option Unwound) → AreClosedBy (closed_outside left) s.frames s.masks.regions
      → (must_cancel_at s.known (running nodes s.registers left (within nodes s.registers s.frames s.masks.regions (Await f))) ≡ false)
      × (looks_first s.known (running nodes s.registers left (within nodes s.registers s.frames s.masks.regions (Await f))) ≡ false)
      × (leaf_at (running nodes s.registers left (within nodes s.registers s.frames s.masks.regions (Await f))) ≡ Some (Await f))
      × ((o : Outcome) → Step (counts_of s) (running nodes s.registers left (within nodes s.registers s.frames s.masks.regions (Await f)))
      (Learns f o (event.Awaited f)) (counts_of s)
      (running nodes s.registers left (within nodes s.registers s.frames s.masks.regions (Finished (Val 0)))))
  by_left None closed =
      let free : must_cancel s.known (within nodes s.registers s.frames s.masks.regions (Await f)) ≡ false = rw (shut closed) refl in (
        free,
        rw (shut closed) refl,
        ap Some (leaf_within nodes s.registers s.frames s.masks.regions (Await f)),
        λ o. row free (row_within nodes s.registers _ (counts_of s) (counts_of s) _ s.frames s.masks.regions _ _ awaited),
      )
  by_left (Some c) closed = (
    refl,
    refl,
    ap Some (leaf_within nodes s.registers s.frames s.masks.regions (Await f)),
    λ o. cleans (row_within nodes s.registers true (counts_of s) (counts_of s) _ s.frames s.masks.regions _ _ awaited),
  )

  pub await_unlooked : looks_first s.known (progress_of nodes s) ≡ false
  await_unlooked = rw here (by_left s.cleanups sound.closed).1

  pub await_leaf : leaf_at (progress_of nodes s) ≡ Some (Await f)
  await_leaf = rw here (by_left s.cleanups sound.closed).2

  pub await_step : (o : Outcome) → Step (counts_of s) (progress_of nodes s) (Learns f o (event.Awaited f)) (counts_of s)
      (progress_at nodes s.registers s.frames s.masks.regions s.cleanups (Return (Val 0)))
  await_step = rw here (by_left s.cleanups sound.closed).3

  pub await_sound : IsSound nodes s.registers s.frames s.masks s.cleanups (Return (Val 0))
  await_sound = record {
    tree = sound.tree;
    bound = sound.bound;
    fits = sound.fits;
    focus_in = tt;
    frames_in = sound.frames_in;
    closed = sound.closed;
    room = sound.room;
    between = tt;
  }

  pub await_waits : WaitsFor nodes s s (waiting_for.Outcome f)
  await_waits = record {
    leaf = ap (option_and_then wait_at) await_leaf;
    free = rw here (by_left s.cleanups sound.closed).0;
    same = record { sound = sound; progress = refl; counts = refl };
  }
