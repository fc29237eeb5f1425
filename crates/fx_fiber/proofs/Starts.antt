-- The rule of `start`.
use Rattle.std.proofs.Common.{◌≡◌, ℕ, suc, ◌+◌, ◌<◌, ◌≤◌, ◌^◌, false, Some, List, [], ◌∷◌, length, refl, sym, ap, subst, arith}
use Rattle.std.specs.Prelude.{All}
use Rattle.fx_term.specs.declared.node.NodeId.{NodeId}
use Rattle.fx_term.specs.declared.node.Node.{Node}
use Rattle.fx_term.specs.declared.node.Node.TheVariants as node
use Rattle.fx_term.specs.declared.begin.Begin.{Begin}
use Rattle.fx_term.specs.Term.{Term, Let, Handle, If, For, Mask, Poll, OnCancel, Bracket, BracketCase, Start, Join, TryTake, Masked}
use Rattle.fx_term.specs.Term.{Opened, InUse, InUseCase, InRelease, Loop}
use Rattle.fx_term.specs.Fill.{lower, lower_named, fill}
use Rattle.fx_term.specs.Registers.{with_number}
use Rattle.fx_term.specs.Scope.{HasLevels}
use Rattle.fx_term.specs.Meaning.{term_of}
use Rattle.fx_term.specs.Need.{need}
use Rattle.fx_fiber.specs.declared.machine.focus.Focus.TheVariants.{Eval}
use Rattle.fx_fiber.specs.declared.machine.Machine.{Machine}
use Rattle.fx_model.specs.Row.{Counts, Starts, numbers_taken, start, range_of}
use Rattle.fx_model.specs.Origin.{child_origin, origin_of}
use Rattle.fx_model.specs.Step.{Step}
use Rattle.fx_model.specs.Work.{work, work_left}
use Rattle.fx_model.specs.NeedLeft.{need_left}
use Rattle.fx_fiber.specs.Fiber.{is_fiber_number}
use Rattle.fx_model.specs.Scopes.{IsScopedOver, IsProgressScopedOver}
use Rattle.fx_fiber.specs.Machine.{filled, progress_at, progress_of, counts_of}
use Rattle.fx_fiber.specs.Sound.{IsNode, IsBound, IsSoundMachine, IsSoundBegin}
use Rattle.fx_fiber.specs.Calls.{range_after}
use Rattle.fx_fiber.specs.MakesStart.{child_begin}
use Rattle.fx_fiber.specs.Places.{IsSame, IsEvaluating, must_cancel_machine}
use Rattle.fx_fiber.specs.Makes.{Steps}
use Rattle.fx_model.proofs.AllWork.{step_leaves_less, unknown_small}
use Rattle.fx_fiber.proofs.Keeping.{taken_fit}
use Rattle.fx_fiber.proofs.Leaves.{levels, child, row_at, name_reaches, register_stays, named_sound, named_is}
use Rattle.fx_fiber.proofs.Nodes.{child_before}
use Rattle.fx_model.proofs.RangeLaws.{step_need}
use Rattle.fx_model.proofs.ScopedRuns.{step_over}

-- numbers for names leave the need as it is
pub fill_need : (b : ℕ) (ns : List ℕ) (t : Term) → need (fill b ns t) ≡ need t
fill_need b ns (Let x t u) = let p = fill_need b ns t in let q = fill_need (lower_named b x) ns u in cc
fill_need b ns (Handle t x u) = let p = fill_need b ns t in let q = fill_need (lower_named b x) ns u in cc
fill_need b ns (If v t u) = let p = fill_need b ns t in let q = fill_need b ns u in cc
fill_need b ns (For i c t) = let p = fill_need (lower b i) ns t in cc
fill_need b ns (Mask x t) = let p = fill_need (lower b x) ns t in cc
fill_need b ns (Poll v t) = let p = fill_need b ns t in cc
fill_need b ns (OnCancel t f) = let p = fill_need b ns t in let q = fill_need b ns f in cc
fill_need b ns (Bracket x t u r) = let p = fill_need b ns t in let q = fill_need (lower_named b x) ns u in let o = fill_need (lower_named b x) ns r in cc
fill_need b ns (BracketCase x t u y v z w o) =
    let under = lower b x in
    let p = fill_need b ns t in let q = fill_need under ns u in let r = fill_need (lower under y) ns v in let s = fill_need (lower under z) ns w in
    let k = fill_need under ns o in cc
fill_need b ns (Start h t u) = let p = fill_need b ns t in let q = fill_need (lower b h) ns u in cc
fill_need b ns (Join f x t e u v) = let p = fill_need (lower b x) ns t in let q = fill_need (lower b e) ns u in let o = fill_need b ns v in cc
fill_need b ns (TryTake q x t u) = let p = fill_need (lower b x) ns t in let o = fill_need b ns u in cc
fill_need b ns (Masked r t) = let p = fill_need b ns t in cc
fill_need b ns (Opened r t) = let p = fill_need b ns t in cc
fill_need b ns (InUse k t r) = let p = fill_need b ns t in let q = fill_need b ns r in cc
fill_need b ns (InUseCase k t y u z v w) =
    let p = fill_need b ns t in let q = fill_need (lower b y) ns u in let r = fill_need (lower b z) ns v in let s = fill_need b ns w in cc
fill_need b ns (InRelease k t v) = let p = fill_need b ns t in cc
fill_need b ns (Loop i k c t) = let p = fill_need (lower b i) ns t in cc
fill_need b ns _ = refl

-- a fiber that stands at a start
module _ (nodes : List Node) (s : Machine) (id : NodeId) (h : ℕ) (a b : NodeId) (at : IsEvaluating nodes s id (node.Start h a b)) where
  start_levels : HasLevels at.sound.bound (term_of nodes a.0) × (h ≡ at.sound.bound) × HasLevels (suc at.sound.bound) (term_of nodes b.0)
  start_levels = levels nodes s id (node.Start h a b) at

  below : All (λ c. c < id.0) (a.0 ∷ b.0 ∷ [])
  below = child_before nodes s.registers s.frames s.masks s.cleanups s.focus id (node.Start h a b) at.focus at.node at.sound

  pub started_node : IsNode nodes at.sound.bound a
  started_node = child nodes s id _ at a _ (below 0 0 (omega arith)) start_levels.0

  then_bound : IsBound nodes at.sound.bound (Some h) b
  then_bound = record { binder = start_levels.1; node = child nodes s id _ at b _ (below 1 0 (omega arith)) start_levels.2 }

  pub start_reaches : h ≤ length s.registers
  start_reaches = name_reaches nodes s id _ at h start_levels.1

  -- what the child begins with has a number for each name in scope
  pub sound_begin : (ns : List ℕ) (next end stamp : ℕ) → ns ≡ s.registers
      → IsSoundBegin nodes (record { node = a; slots = ns; next = next; end = end; stamp = stamp })
  sound_begin ns next end stamp e = record { tree = at.sound.tree; bound = at.sound.bound; fits = rw e at.sound.fits; node = started_node }

  -- the register of the name is had before the port is asked
  pub start_stays : (n : ℕ) (t : Machine) → t ≡ record s { registers = with_number (Some h) n s.registers } → IsSame nodes s t
  start_stays n = register_stays nodes s id _ at h start_levels.1 n

  -- the term of the child
  abbrev pub part : Term
  part = filled nodes s.registers a

  pub need_is : need (term_of nodes a.0) ≡ need part
  need_is = sym (fill_need (length s.registers) s.registers (term_of nodes a.0))

  module _ (free : must_cancel_machine nodes s ≡ false) where
    -- the fiber goes on with the number of its child by the name
    pub start_step : Step (counts_of s) (progress_of nodes s) (Starts s.next (child_origin s.next part)) (numbers_taken (1 + need part) (counts_of s))
        (progress_at nodes (with_number (Some h) s.next s.registers) s.frames s.masks.regions s.cleanups (Eval b))
    start_step = row_at nodes s id (node.Start h a b) at tt free (numbers_taken (1 + need part) (counts_of s)) (Starts s.next (child_origin s.next part))
        _ _ _ refl (named_is nodes s id _ at h start_levels.1 s.next b then_bound) (λ k e. start)

    module _ (room : s.next + need_left (progress_of nodes s) ≤ s.end) where
      -- its numbers are in its range
      pub start_within : s.next + 1 + need part ≤ s.end
      start_within = let n = step_need start_step in omega arith

      pub child_within : s.next + 1 + need (term_of nodes a.0) ≤ s.end
      child_within = rw need_is start_within

      pub part_scoped : s.end < 2 ^ 32 → IsProgressScopedOver is_fiber_number (progress_of nodes s) → IsScopedOver is_fiber_number part
      part_scoped word over = (step_over is_fiber_number start_step (taken_fit start_step room word) over).1

    pub part_works : (puts : ℕ) → s.masks.entries + s.acquired + puts + work_left (progress_of nodes s) < 2 ^ 63 → 1 + work part < 2 ^ 63
    part_works puts few = let p = step_leaves_less start_step in let q = unknown_small s.known in omega arith

    -- so it makes the rule
    pub start_makes : (m : Machine) (begin : Begin) (stamp : ℕ) → m ≡ record s { registers = with_number (Some h) s.next s.registers }
        → begin ≡ child_begin nodes s a stamp
        → Steps nodes s (Starts s.next (child_origin s.next part)) (record m { focus = Eval b; next = begin.end })
    start_makes m begin stamp named is =
        let counts : numbers_taken (1 + need part) (counts_of s) ≡ record (counts_of s) { next = (child_begin nodes s a stamp).end } =
        ap (λ (k : ℕ). record (counts_of s) { next = k }) (let e = need_is in omega arith) in
        rw (named, is) (subst (λ (d : Counts). Step (counts_of s) (progress_of nodes s) (Starts s.next (child_origin s.next part)) d
        (progress_at nodes (with_number (Some h) s.next s.registers) s.frames s.masks.regions s.cleanups (Eval b))) counts start_step)

  pub start_sound : (m : Machine) (begin : Begin) → m ≡ record s { registers = with_number (Some h) s.next s.registers }
      → IsSoundMachine nodes (record m { focus = Eval b; next = begin.end })
  start_sound m begin named = rw named (named_sound nodes s id _ at h start_levels.1 s.next b then_bound)

  pub start_range : (m : Machine) (begin : Begin) → m ≡ record s { registers = with_number (Some h) s.next s.registers }
      → range_after begin (range_of (counts_of s)) ≡ range_of (counts_of (record m { focus = Eval b; next = begin.end }))
  start_range m begin named = rw named refl

  -- the child begins with the term of its part
  pub begins_so : (stamp : ℕ) → origin_of nodes (child_begin nodes s a stamp) ≡ child_origin s.next part
  begins_so stamp = rw need_is refl
