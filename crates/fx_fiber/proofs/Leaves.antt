-- The rules of a leaf.
use Rattle.std.proofs.Common.{◌≡◌, ◌≢◌, ℕ, zero, suc, ◌-◌, ◌^◌, ◌<◌, ◌≤◌, Bool, true, false, Some, List, [], ◌∷◌, length, refl, sym, ◌∙◌, ap, arith}
use Rattle.std.specs.Prelude.{All, not, ◌&&◌, ◌||◌, MatchBool, option_and_then}
use Rattle.std.specs.Bool.{OnTrue}
use Rattle.fx_term.specs.declared.node.Arg.{Arg}
use Rattle.fx_term.specs.declared.node.Arg.TheVariants.{Number, Slot}
use Rattle.fx_term.specs.declared.node.NodeId.{NodeId}
use Rattle.fx_term.specs.declared.node.Node.{Node}
use Rattle.fx_term.specs.declared.node.Node.TheVariants as node
use Rattle.fx_term.specs.Term.{Term, Cede, If, Masked, Opened, Poll, put}
use Rattle.fx_term.specs.Fill.{AgreeBelow, fill_arg, fill}
use Rattle.fx_term.specs.Registers.{with_number}
use Rattle.fx_term.specs.Scope.{IsArgBelow, HasLevels}
use Rattle.fx_term.specs.Meaning.{assemble, term_of}
use Rattle.fx_term.proofs.RegisterLaws.{agree_below, length_with}
use Rattle.fx_mask.specs.Closing.{Closing, without_region, is_none_closed}
use Rattle.fx_mask.specs.Masks.{MasksView, entered, IsOpened}
use Rattle.fx_mask.specs.declared.masks.Region as mask_region
use Rattle.fx_frames.specs.declared.frame.Frame.{Frame}
use Rattle.fx_frames.specs.declared.frame.Frame.TheVariants as frame
use Rattle.fx_model.specs.Path.{is_canceled_form}
use Rattle.fx_model.specs.Row.{Counts, Label, Silent, Row, one_more_mask, if_not_zero, if_zero, mask, poll}
use Rattle.fx_model.specs.Step.{Progress, leaf_at, Step}
use Rattle.fx_fiber.specs.declared.machine.focus.Focus.TheVariants.{Eval}
use Rattle.fx_fiber.specs.declared.machine.Machine.{Machine}
use Rattle.fx_fiber.specs.Machine.{filled, waiting, inner, closed_again, within, running, progress_at, progress_of, counts_of}
use Rattle.fx_fiber.specs.Sound.{taken_off, left_of, IsNode, IsBound, IsClosedBy, IsSound}
use Rattle.fx_fiber.specs.Leaves.{IsLeafNode, is_canceled_node}
use Rattle.fx_fiber.specs.Places.{IsSame, IsEvaluating, must_cancel_machine, is_open_machine}
use Rattle.fx_fiber.specs.Makes.{WaitsFor}
use Rattle.fx_fiber.specs.MakesStep.{is_yielding}
use Rattle.fx_model.specs.declared.source.Source.TheVariants.{Nothing}
use Rattle.fx_model.specs.Waiting.{wait_at}
use Rattle.fx_fiber.proofs.Contexts.{row_within}
use Rattle.fx_fiber.proofs.Numbers.{filled_same, frames_up, running_same, running_named}
use Rattle.fx_fiber.proofs.Nodes.{arg_in_registers, levels_at, child_before, child_node, inner_is, leaf_is, leaf_is_free, leaf_step}

-- whether a leaf is `canceled`
canceled_node : (b : ℕ) (ns : List ℕ) (f : ℕ → Term) (n : Node) → is_canceled_form (fill b ns (assemble (Some n) f)) ≡ is_canceled_node n
canceled_node b ns f node.Canceled = refl
canceled_node b ns f n = refl

-- whether a leaf is `cede`
giving_node : (b : ℕ) (ns : List ℕ) (f : ℕ → Term) (n : Node) → n ≢ node.Cede → is_yielding (Some (fill b ns (assemble (Some n) f))) ≡ false
giving_node b ns f node.Cede h = absurd (h refl)
giving_node b ns f n h = refl

-- a fiber that stands at a leaf
module _ (nodes : List Node) (s : Machine) (id : NodeId) (n : Node) (at : IsEvaluating nodes s id n) where
  pub levels : HasLevels at.sound.bound (assemble (Some n) (term_of nodes))
  levels = levels_at nodes s.registers s.frames s.masks s.cleanups s.focus id n at.focus at.node at.sound

  pub child : (c : NodeId) (d : ℕ) → c.0 < id.0 → HasLevels d (term_of nodes c.0) → IsNode nodes d c
  child = child_node nodes s.registers s.frames s.masks s.cleanups s.focus id n at.focus at.node at.sound

  -- there is a register for its argument
  pub arg_within : (a : Arg) → IsArgBelow at.sound.bound a → IsArgBelow (length s.registers) a
  arg_within a h = arg_in_registers at.sound.bound (length s.registers) a h at.sound.fits

  pub inner_at : inner nodes s.registers s.focus ≡ fill (length s.registers) s.registers (assemble (Some n) (term_of nodes))
  inner_at = inner_is nodes s.registers s.frames s.masks s.cleanups s.focus id n at.focus at.node at.sound _ refl

  -- it is at `canceled` where the node is that
  pub canceled_at : is_canceled_form (inner nodes s.registers s.focus) ≡ is_canceled_node n
  canceled_at = ap is_canceled_form inner_at ∙ canceled_node (length s.registers) s.registers (term_of nodes) n

  -- the row of the leaf is a step
  pub row_at : IsLeafNode (Some n) → must_cancel_machine nodes s ≡ false → (d : Counts) (l : Label) (t t' : Term) (p : Progress)
      → fill (length s.registers) s.registers (assemble (Some n) (term_of nodes)) ≡ t
      → p ≡ running nodes s.registers s.cleanups (within nodes s.registers s.frames s.masks.regions t')
      → ((k : Bool) → k ≡ not (is_none_closed s.masks.regions) → Row k (counts_of s) t l d t') → Step (counts_of s) (progress_of nodes s) l d p
  row_at leaf free d l t t' p e is go =
      let step = leaf_step nodes s.registers s.frames s.masks s.cleanups s.focus id n at.focus at.node at.sound (counts_of s) d l t _ e leaf free
      (λ k h. row_within nodes s.registers k (counts_of s) d l s.frames s.masks.regions t t' (go k h)) in
      rw is step

  -- the leaf of what the fiber runs
  pub leaf_here : IsLeafNode (Some n) → leaf_at (progress_of nodes s) ≡ Some (fill (length s.registers) s.registers (assemble (Some n) (term_of nodes)))
  leaf_here leaf = leaf_is nodes s.registers s.frames s.masks s.cleanups s.focus id n at.focus at.node at.sound leaf

  -- a rule of another leaf is not that of `cede`
  pub leaf_is_no_cede : IsLeafNode (Some n) → n ≢ node.Cede → is_yielding (leaf_at (progress_of nodes s)) ≡ false
  leaf_is_no_cede leaf other = ap is_yielding (leaf_here leaf) ∙ giving_node (length s.registers) s.registers (term_of nodes) n other

pub leaf_at_cede : (nodes : List Node) (s : Machine) (id : NodeId) → IsEvaluating nodes s id node.Cede → leaf_at (progress_of nodes s) ≡ Some Cede
leaf_at_cede nodes s id at = leaf_here nodes s id node.Cede at tt

-- where the fiber waits
pub never_waits : (nodes : List Node) (s : Machine) (id : NodeId) → IsEvaluating nodes s id node.Never → must_cancel_machine nodes s ≡ false
    → WaitsFor nodes s s Nothing
never_waits nodes s id at free = record {
  leaf = ap (option_and_then wait_at) (leaf_here nodes s id node.Never at tt);
  free = leaf_is_free nodes s.registers s.frames s.masks s.cleanups s.focus id node.Never at.focus at.node at.sound tt s.known free;
  same = record { sound = at.sound; progress = refl; counts = refl };
}

-- where `canceled` does not cancel, the place is closed
pub closed_at_canceled : (nodes : List Node) (s : Machine) (id : NodeId) → IsEvaluating nodes s id node.Canceled → must_cancel_machine nodes s ≡ false
    → is_open_machine s ≡ false
closed_at_canceled nodes s id at free =
    let free' : (is_none_closed s.masks.regions && (s.known || true)) ≡ false = rw (inner_at nodes s id node.Canceled at) at free in
    by_tests (is_none_closed s.masks.regions) s.known free'
  where
    by_tests : (a b : Bool) → (a && (b || true)) ≡ false → a ≡ false
    by_tests true true h = h
    by_tests true false h = h
    by_tests false b h = refl

-- a fiber that stands at an `if`
module _ (nodes : List Node) (s : Machine) (id : NodeId) (v : Arg) (part other : NodeId) (at : IsEvaluating nodes s id (node.If v part other)) where
  if_levels : IsArgBelow at.sound.bound v × HasLevels at.sound.bound (term_of nodes part.0) × HasLevels at.sound.bound (term_of nodes other.0)
  if_levels = levels nodes s id (node.If v part other) at

  pub value_within : IsArgBelow (length s.registers) v
  value_within = arg_within nodes s id (node.If v part other) at v if_levels.0

  below : All (λ c. c < id.0) (part.0 ∷ other.0 ∷ [])
  below = child_before nodes s.registers s.frames s.masks s.cleanups s.focus id (node.If v part other) at.focus at.node at.sound

  chosen_sound : (c : NodeId) → c.0 < id.0 → HasLevels at.sound.bound (term_of nodes c.0) → IsSound nodes s.registers s.frames s.masks s.cleanups (Eval c)
  chosen_sound c before reach = record {
    tree = at.sound.tree;
    bound = at.sound.bound;
    fits = at.sound.fits;
    focus_in = child nodes s id (node.If v part other) at c _ before reach;
    frames_in = at.sound.frames_in;
    closed = at.sound.closed;
    room = at.sound.room;
    between = tt;
  }

  pub part_sound : IsSound nodes s.registers s.frames s.masks s.cleanups (Eval part)
  part_sound = chosen_sound part (below 0 0 (omega arith)) if_levels.1

  pub other_sound : IsSound nodes s.registers s.frames s.masks s.cleanups (Eval other)
  other_sound = chosen_sound other (below 1 0 (omega arith)) if_levels.2

  module _ (n : ℕ) (number : fill_arg (length s.registers) s.registers v ≡ Number n) (free : must_cancel_machine nodes s ≡ false) where
    chosen_step : (c : NodeId)
        →
        ((k : Bool) → Row k (counts_of s) (If (Number n) (filled nodes s.registers part) (filled nodes s.registers other))
        Silent (counts_of s) (filled nodes s.registers c))
        → Step (counts_of s) (progress_of nodes s) Silent (counts_of s) (progress_at nodes s.registers s.frames s.masks.regions s.cleanups (Eval c))
    chosen_step c go = row_at nodes s id (node.If v part other) at tt free (counts_of s) Silent _ (filled nodes s.registers c) _
        (ap (λ (a : Arg). If a (filled nodes s.registers part) (filled nodes s.registers other)) number) refl (λ k h. go k)

    pub part_step : n ≢ 0
        → Step (counts_of s) (progress_of nodes s) Silent (counts_of s) (progress_at nodes s.registers s.frames s.masks.regions s.cleanups (Eval part))
    part_step some = chosen_step part (by_number n some)
      where
        by_number : (n : ℕ) → n ≢ 0 → (k : Bool)
            → Row k (counts_of s) (If (Number n) (filled nodes s.registers part) (filled nodes s.registers other)) Silent (counts_of s)
            (filled nodes s.registers part)
        by_number zero some k = absurd (some refl)
        by_number (suc n) some k = if_not_zero

    pub other_step : n ≡ 0
        → Step (counts_of s) (progress_of nodes s) Silent (counts_of s) (progress_at nodes s.registers s.frames s.masks.regions s.cleanups (Eval other))
    other_step none = chosen_step other (λ k. rw none if_zero)

-- a fiber that stands at a leaf which binds a name in a part: a register for it is in scope only in the part
module _ (nodes : List Node) (s : Machine) (id : NodeId) (n : Node) (at : IsEvaluating nodes s id n) (x : ℕ) (here : x ≡ at.sound.bound) where
  pub name_reaches : x ≤ length s.registers
  name_reaches = let f = at.sound.fits in omega arith

  module _ (v : ℕ) where
    pub fits_more : suc at.sound.bound ≤ length (with_number (Some x) v s.registers)
    fits_more = let len = length_with x v s.registers name_reaches in omega arith

    agree : AgreeBelow at.sound.bound s.registers (with_number (Some x) v s.registers)
    agree i h = agree_below x v s.registers name_reaches i (omega arith)

    -- another part stands with it as before
    module _ (part : NodeId) (in_scope : IsNode nodes at.sound.bound part) where
      pub beside_sound : IsSound nodes (with_number (Some x) v s.registers) s.frames s.masks s.cleanups (Eval part)
      beside_sound = record {
        tree = at.sound.tree;
        bound = at.sound.bound;
        fits = let h = fits_more in omega arith;
        focus_in = in_scope;
        frames_in = at.sound.frames_in;
        closed = at.sound.closed;
        room = at.sound.room;
        between = tt;
      }

      pub beside_is : progress_at nodes (with_number (Some x) v s.registers) s.frames s.masks.regions s.cleanups (Eval part)
          ≡ running nodes s.registers s.cleanups (within nodes s.registers s.frames s.masks.regions (filled nodes s.registers part))
      beside_is =
          let h : at.sound.bound ≤ length (with_number (Some x) v s.registers) = let h = fits_more in omega arith in
          let inside = filled_same nodes s.registers (with_number (Some x) v s.registers) at.sound.bound part in_scope at.sound.fits h agree in
          let around = running_same nodes s.registers (with_number (Some x) v s.registers) at.sound.bound s.frames s.masks.regions s.cleanups
          (filled nodes (with_number (Some x) v s.registers) part) at.sound.frames_in at.sound.fits h agree in
          sym around ∙ ap (λ (t : Term). running nodes s.registers s.cleanups (within nodes s.registers s.frames s.masks.regions t)) (sym inside)

    -- so the fiber has come no further by it
    pub register_stays : (t : Machine) → t ≡ record s { registers = with_number (Some x) v s.registers } → IsSame nodes s t
    register_stays t e =
        let own : IsNode nodes at.sound.bound id = rw at.focus at at.sound.focus_in in
        rw e (record { sound = rw at.focus (beside_sound id own); progress = rw at.focus (beside_is id own); counts = refl })

    -- the part goes on with it
    module _ (part : NodeId) (bound_in : IsBound nodes at.sound.bound (Some x) part) where
      pub named_sound : IsSound nodes (with_number (Some x) v s.registers) s.frames s.masks s.cleanups (Eval part)
      named_sound = record {
        tree = at.sound.tree;
        bound = suc at.sound.bound;
        fits = fits_more;
        focus_in = bound_in.node;
        frames_in = frames_up nodes at.sound.bound (suc at.sound.bound) s.frames (left_of s.cleanups) at.sound.frames_in (omega arith);
        closed = at.sound.closed;
        room = at.sound.room;
        between = tt;
      }

      pub named_is : progress_at nodes (with_number (Some x) v s.registers) s.frames s.masks.regions s.cleanups (Eval part)
          ≡ running nodes s.registers s.cleanups (within nodes s.registers s.frames s.masks.regions (put x v (waiting nodes s.registers (Some x) part)))
      named_is = sym
          (running_named nodes s.registers v at.sound.bound part at.sound.fits (λ t. t) (Some x) s.frames s.masks.regions s.cleanups bound_in
          at.sound.frames_in)

-- a fiber that stands at a mask
module _ (nodes : List Node) (s : Machine) (id : NodeId) (p : ℕ) (part : NodeId) (at : IsEvaluating nodes s id (node.Mask p part)) where
  mask_levels : (p ≡ at.sound.bound) × HasLevels (suc at.sound.bound) (term_of nodes part.0)
  mask_levels = levels nodes s id (node.Mask p part) at

  part_bound : IsBound nodes at.sound.bound (Some p) part
  part_bound =
      record {
        binder = mask_levels.0;
        node =
            child nodes s id (node.Mask p part) at part _
            (child_before nodes s.registers s.frames s.masks s.cleanups s.focus id (node.Mask p part) at.focus at.node at.sound 0 0 (omega arith))
            mask_levels.1;
      }

  pub mask_reaches : p ≤ length s.registers
  mask_reaches = name_reaches nodes s id (node.Mask p part) at p mask_levels.0

  module _ (n : ℕ) where
    pub mask_register_stays : (t : Machine) → t ≡ record s { registers = with_number (Some p) n s.registers } → IsSame nodes s t
    mask_register_stays = register_stays nodes s id (node.Mask p part) at p mask_levels.0 n

    pub mask_sound : IsSound nodes (with_number (Some p) n s.registers) (frame.Masked ∷ s.frames) (entered s.masks) s.cleanups (Eval part)
    mask_sound = record {
      tree = at.sound.tree;
      bound = suc at.sound.bound;
      fits = fits_more nodes s id (node.Mask p part) at p mask_levels.0 n;
      focus_in = part_bound.node;
      frames_in = (at.sound.bound, omega arith, tt, at.sound.frames_in);
      closed = ((s.masks.entries, s.masks.regions, refl), at.sound.closed);
      room = at.sound.room;
      between = tt;
    }

  pub mask_step : must_cancel_machine nodes s ≡ false → (ns : List ℕ) → ns ≡ with_number (Some p) s.masks.entries s.registers
      → Step (counts_of s) (progress_of nodes s) Silent (one_more_mask (counts_of s))
      (progress_at nodes ns (frame.Masked ∷ s.frames) (entered s.masks).regions s.cleanups (Eval part))
  mask_step free ns e =
      row_at nodes s id (node.Mask p part) at tt free (one_more_mask (counts_of s)) Silent _ _ _ refl
      (ap (λ (ms : List ℕ). progress_at nodes ms (frame.Masked ∷ s.frames) (entered s.masks).regions s.cleanups (Eval part)) e
      ∙ sym (running_named nodes s.registers s.masks.entries at.sound.bound part at.sound.fits (λ t. Masked s.masks.entries t)
      (Some p) s.frames s.masks.regions s.cleanups part_bound at.sound.frames_in))
      (λ k h. mask)

-- what a poll leaves closed, whether it took its region off or not
module _ (r : ℕ) (old new : MasksView) where
  pub opened_again : (took_off : Bool) → MatchBool took_off (IsOpened r old new) (new ≡ old) → closed_again took_off r new.regions ≡ old.regions
  opened_again true h = sym h.regions
  opened_again false h = rw h refl

  pub opened_entries : (took_off : Bool) → MatchBool took_off (IsOpened r old new) (new ≡ old) → new.entries ≡ old.entries
  opened_entries true h = h.entries
  opened_entries false h = rw h refl

  pub opened_room : (took_off : Bool) (region : mask_region.Region) (fs : List Frame) → MatchBool took_off (IsOpened r old new) (new ≡ old)
      → taken_off fs ≤ old.opened → taken_off (frame.Opened region took_off ∷ fs) ≤ new.opened
  opened_room true region fs h p = let e = h.count in omega arith
  opened_room false region fs h p = rw h p

  pub opened_closed : (took_off : Bool) (region : mask_region.Region) → region.0 ≡ r → MatchBool took_off (IsOpened r old new) (new ≡ old)
      → new.regions ≡ without_region r old.regions → OnTrue took_off (region.0 < 2 ^ 64 - 1) → IsClosedBy (frame.Opened region took_off) new.regions
  opened_closed true region e h w few = few
  opened_closed false region e h w few = rw (e, h) (sym (rw h at w))

-- a fiber that stands at a poll
module _ (nodes : List Node) (s : Machine) (id : NodeId) (p : ℕ) (part : NodeId) (at : IsEvaluating nodes s id (node.Poll p part)) where
  poll_levels : (p < at.sound.bound) × HasLevels at.sound.bound (term_of nodes part.0)
  poll_levels = levels nodes s id (node.Poll p part) at

  pub poll_within : IsArgBelow (length s.registers) (Slot p)
  poll_within = arg_within nodes s id (node.Poll p part) at (Slot p) poll_levels.0

  module _ (region : mask_region.Region) (took_off : Bool) (m : MasksView) (opens : MatchBool took_off (IsOpened region.0 s.masks m) (m ≡ s.masks)) where
    pub poll_sound : m.regions ≡ without_region region.0 s.masks.regions → OnTrue took_off (region.0 < 2 ^ 64 - 1)
        → IsSound nodes s.registers (frame.Opened region took_off ∷ s.frames) m s.cleanups (Eval part)
    poll_sound w few = record {
      tree = at.sound.tree;
      bound = at.sound.bound;
      fits = at.sound.fits;
      focus_in = child nodes s id (node.Poll p part) at part _
          (child_before nodes s.registers s.frames s.masks s.cleanups s.focus id (node.Poll p part) at.focus at.node at.sound 0 0 (omega arith)) poll_levels.1;
      frames_in = (at.sound.bound, omega arith, tt, at.sound.frames_in);
      closed = (opened_closed region.0 s.masks m took_off region refl opens w few, rw (opened_again region.0 s.masks m took_off opens) at.sound.closed);
      room = opened_room region.0 s.masks m took_off region s.frames opens at.sound.room;
      between = tt;
    }

    pub poll_step : fill_arg (length s.registers) s.registers (Slot p) ≡ Number region.0 → must_cancel_machine nodes s ≡ false
        → (d : Counts) (q : Progress) → d ≡ counts_of s
        → q ≡ progress_at nodes s.registers (frame.Opened region took_off ∷ s.frames) m.regions s.cleanups (Eval part)
        → Step (counts_of s) (progress_of nodes s) Silent d q
    poll_step number free d q same e =
        rw same (row_at nodes s id (node.Poll p part) at tt free (counts_of s) Silent (Poll (Number region.0) (filled nodes s.registers part)) _ q
        (ap (λ (a : Arg). Poll a (filled nodes s.registers part)) number)
        (e
        ∙ ap (λ (c : List Closing). running nodes s.registers s.cleanups
        (within nodes s.registers s.frames c (Opened region.0 (filled nodes s.registers part))))
        (opened_again region.0 s.masks m took_off opens))
        (λ k h. poll))
