-- The rules of leaves that put an element into a queue or take one out of it.
use Rattle.std.proofs.Common.{◌≡◌, ℕ, suc, ◌<◌, ◌≤◌, false, Some, List, [], ◌∷◌, length, refl, ◌∙◌, ap, arith}
use Rattle.std.specs.Prelude.{All, option_and_then}
use Rattle.fx_term.specs.declared.node.Arg.{Arg}
use Rattle.fx_term.specs.declared.node.Arg.TheVariants.{Number}
use Rattle.fx_term.specs.declared.node.NodeId.{NodeId}
use Rattle.fx_term.specs.declared.node.Node.{Node}
use Rattle.fx_term.specs.declared.node.Node.TheVariants as node
use Rattle.fx_term.specs.declared.done.Done.{Done}
use Rattle.fx_term.specs.declared.done.Done.TheVariants.{Val}
use Rattle.fx_term.specs.declared.event.Event.TheVariants as event
use Rattle.fx_term.specs.Term.{Offer, TryOffer, Finished, put}
use Rattle.fx_term.specs.Fill.{fill_arg}
use Rattle.fx_term.specs.Registers.{with_number}
use Rattle.fx_term.specs.Scope.{IsArgBelow, HasLevels}
use Rattle.fx_term.specs.Meaning.{term_of}
use Rattle.fx_term.proofs.RegisterLaws.{with_again, length_with}
use Rattle.fx_model.specs.Row.{Shows, offered, tried_offer, refused, taken, tried_take, found_empty}
use Rattle.fx_model.specs.Step.{leaf_at, Step}
use Rattle.fx_fiber.specs.declared.machine.focus.Focus.TheVariants.{Eval, Return}
use Rattle.fx_fiber.specs.declared.machine.Machine.{Machine}
use Rattle.fx_model.specs.declared.source.Source.{Source}
use Rattle.fx_model.specs.declared.source.Source.TheVariants.{Room, Element}
use Rattle.fx_model.specs.Waiting.{wait_at}
use Rattle.fx_fiber.specs.MakesStep.{value_offered}
use Rattle.fx_fiber.specs.Machine.{filled, waiting, progress_at, progress_of, counts_of}
use Rattle.fx_fiber.specs.Sound.{IsNode, IsBound, IsSound, IsSoundMachine}
use Rattle.fx_fiber.specs.Leaves.{IsLeafNode}
use Rattle.fx_fiber.specs.Places.{IsEvaluating, must_cancel_machine}
use Rattle.fx_fiber.specs.Makes.{WaitsFor}
use Rattle.fx_fiber.proofs.Nodes.{child_before, leaf_is_free}
use Rattle.fx_fiber.proofs.Leaves.{levels, child, arg_within, row_at, leaf_here, name_reaches, beside_sound, beside_is, named_sound, named_is}

-- a fiber that stands at a leaf
module _ (nodes : List Node) (s : Machine) (id : NodeId) (n : Node) (at : IsEvaluating nodes s id n) where
  -- it is sound with a result in place of the leaf
  pub returned_sound : (v : Done) → IsSound nodes s.registers s.frames s.masks s.cleanups (Return v)
  returned_sound v = record {
    tree = at.sound.tree;
    bound = at.sound.bound;
    fits = at.sound.fits;
    focus_in = tt;
    frames_in = at.sound.frames_in;
    closed = at.sound.closed;
    room = at.sound.room;
    between = tt;
  }

  -- it waits there for what its leaf waits for
  waits_here : IsLeafNode (Some n) → must_cancel_machine nodes s ≡ false → (w : Source) → option_and_then wait_at (leaf_at (progress_of nodes s)) ≡ Some w
      → WaitsFor nodes s s w
  waits_here leaf free w waits = record {
    leaf = waits;
    free = leaf_is_free nodes s.registers s.frames s.masks s.cleanups s.focus id n at.focus at.node at.sound leaf s.known free;
    same = record { sound = at.sound; progress = refl; counts = refl };
  }

-- a fiber that stands at an offer
module _ (nodes : List Node) (s : Machine) (id : NodeId) (q : ℕ) (v : Arg) (at : IsEvaluating nodes s id (node.Offer q v)) where
  pub offer_within : IsArgBelow (length s.registers) v
  offer_within = arg_within nodes s id (node.Offer q v) at v (levels nodes s id (node.Offer q v) at)

  module _ (n : ℕ) (number : fill_arg (length s.registers) s.registers v ≡ Number n) where
    offer_leaf : leaf_at (progress_of nodes s) ≡ Some (Offer q (Number n))
    offer_leaf = leaf_here nodes s id (node.Offer q v) at tt ∙ ap (λ (a : Arg). Some (Offer q a)) number

    pub offered_value : value_offered (leaf_at (progress_of nodes s)) ≡ n
    offered_value = ap value_offered offer_leaf

    module _ (free : must_cancel_machine nodes s ≡ false) where
      pub offer_step : Step (counts_of s) (progress_of nodes s) (Shows (event.Put q n)) (counts_of s)
          (progress_at nodes s.registers s.frames s.masks.regions s.cleanups (Return (Val 0)))
      offer_step = row_at nodes s id (node.Offer q v) at tt free (counts_of s) (Shows (event.Put q n)) _ (Finished (Val 0)) _
          (ap (Offer q) number) refl (λ k h. offered)

      pub offer_waits : WaitsFor nodes s s (Room q)
      offer_waits = waits_here nodes s id (node.Offer q v) at tt free (Room q) (ap (option_and_then wait_at) offer_leaf)

-- a fiber that stands at a tryoffer
module _ (nodes : List Node) (s : Machine) (id : NodeId) (q : ℕ) (v : Arg) (at : IsEvaluating nodes s id (node.TryOffer q v)) where
  pub try_offer_within : IsArgBelow (length s.registers) v
  try_offer_within = arg_within nodes s id (node.TryOffer q v) at v (levels nodes s id (node.TryOffer q v) at)

  module _ (n : ℕ) (number : fill_arg (length s.registers) s.registers v ≡ Number n) where
    pub tried_value : value_offered (leaf_at (progress_of nodes s)) ≡ n
    tried_value = ap value_offered (leaf_here nodes s id (node.TryOffer q v) at tt ∙ ap (λ (a : Arg). Some (TryOffer q a)) number)

    module _ (free : must_cancel_machine nodes s ≡ false) where
      pub try_offer_step : Step (counts_of s) (progress_of nodes s) (Shows (event.Put q n)) (counts_of s)
          (progress_at nodes s.registers s.frames s.masks.regions s.cleanups (Return (Val 1)))
      try_offer_step = row_at nodes s id (node.TryOffer q v) at tt free (counts_of s) (Shows (event.Put q n)) _ (Finished (Val 1)) _
          (ap (TryOffer q) number) refl (λ k h. tried_offer)

      pub refused_step : Step (counts_of s) (progress_of nodes s) (Shows (event.Refused q)) (counts_of s)
          (progress_at nodes s.registers s.frames s.masks.regions s.cleanups (Return (Val 0)))
      refused_step = row_at nodes s id (node.TryOffer q v) at tt free (counts_of s) (Shows (event.Refused q)) _ (Finished (Val 0)) _
          (ap (TryOffer q) number) refl (λ k h. refused)

-- a fiber that stands at a take
module _ (nodes : List Node) (s : Machine) (id : NodeId) (q : ℕ) (at : IsEvaluating nodes s id (node.Take q)) (free : must_cancel_machine nodes s ≡ false) where
  pub take_step : (n : ℕ) → Step (counts_of s) (progress_of nodes s) (Shows (event.Got q n)) (counts_of s)
      (progress_at nodes s.registers s.frames s.masks.regions s.cleanups (Return (Val n)))
  take_step n = row_at nodes s id (node.Take q) at tt free (counts_of s) (Shows (event.Got q n)) _ (Finished (Val n)) _ refl refl (λ k h. taken)

  pub take_waits : WaitsFor nodes s s (Element q)
  take_waits = waits_here nodes s id (node.Take q) at tt free (Element q) (ap (option_and_then wait_at) (leaf_here nodes s id (node.Take q) at tt))

-- a fiber that stands at a trytake
module _ (nodes : List Node) (s : Machine) (id : NodeId) (q x : ℕ) (a b : NodeId) (at : IsEvaluating nodes s id (node.TryTake q x a b)) where
  try_take_levels : (x ≡ at.sound.bound) × HasLevels (suc at.sound.bound) (term_of nodes a.0) × HasLevels at.sound.bound (term_of nodes b.0)
  try_take_levels = levels nodes s id (node.TryTake q x a b) at

  below : All (λ c. c < id.0) (a.0 ∷ b.0 ∷ [])
  below = child_before nodes s.registers s.frames s.masks s.cleanups s.focus id (node.TryTake q x a b) at.focus at.node at.sound

  part_bound : IsBound nodes at.sound.bound (Some x) a
  part_bound = record { binder = try_take_levels.0; node = child nodes s id _ at a _ (below 0 0 (omega arith)) try_take_levels.1 }

  other_node : IsNode nodes at.sound.bound b
  other_node = child nodes s id _ at b _ (below 1 0 (omega arith)) try_take_levels.2

  pub try_take_reaches : x ≤ length s.registers
  try_take_reaches = name_reaches nodes s id _ at x try_take_levels.0

  pub try_take_has_register : x < length (with_number (Some x) 0 s.registers)
  try_take_has_register = let e = length_with x 0 s.registers try_take_reaches in omega arith

  module _ (free : must_cancel_machine nodes s ≡ false) where
    -- it goes on with the element by the name
    pub try_take_goes_on : (n : ℕ) (t : Machine) → t ≡ record s { registers = with_number (Some x) n (with_number (Some x) 0 s.registers); focus = Eval a }
        → IsSoundMachine nodes t × Step (counts_of s) (progress_of nodes s) (Shows (event.Got q n)) (counts_of t) (progress_of nodes t)
    try_take_goes_on n t is =
        rw (is, with_again x n 0 s.registers try_take_reaches) (
          named_sound nodes s id _ at x try_take_levels.0 n a part_bound,
          row_at nodes s id (node.TryTake q x a b) at tt free (counts_of s) (Shows (event.Got q n)) _ (put x n (waiting nodes s.registers (Some x) a)) _ refl
              (named_is nodes s id _ at x try_take_levels.0 n a part_bound) (λ k h. tried_take),
        )

    -- or with its other part
    pub found_empty_goes_on : (t : Machine) → t ≡ record s { registers = with_number (Some x) 0 s.registers; focus = Eval b }
        → IsSoundMachine nodes t × Step (counts_of s) (progress_of nodes s) (Shows (event.Empty q)) (counts_of t) (progress_of nodes t)
    found_empty_goes_on t is =
        rw is (
          beside_sound nodes s id _ at x try_take_levels.0 0 b other_node,
          row_at nodes s id (node.TryTake q x a b) at tt free (counts_of s) (Shows (event.Empty q)) _ (filled nodes s.registers b) _ refl
              (beside_is nodes s id _ at x try_take_levels.0 0 b other_node) (λ k h. found_empty),
        )
