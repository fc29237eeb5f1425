-- The value of a turn of a loop with the rule that comes next in it.
use Rattle.std.proofs.Common.{◌≡◌, ℕ, ◌+◌, ◌<◌, false, Some, List, ◌∷◌, refl, rules}
use Rattle.std.specs.Prelude.{slice_get}
use Rattle.fx_term.specs.declared.node.NodeId.{NodeId}
use Rattle.fx_term.specs.declared.node.Node.{Node}
use Rattle.fx_term.specs.declared.node.Node.TheVariants as node
use Rattle.fx_term.specs.declared.done.Done.TheVariants.{Val}
use Rattle.fx_term.specs.Registers.{with_number}
use Rattle.fx_frames.specs.declared.frame.Frame.TheVariants as frame
use Rattle.fx_model.specs.Row.{let_value}
use Rattle.fx_fiber.specs.declared.machine.focus.Focus.TheVariants.{Eval}
use Rattle.fx_fiber.specs.declared.machine.Machine.{Machine}
use Rattle.fx_fiber.specs.Places.{IsBeforeTurn, ReturnsInto, after_turn, must_cancel_machine, without_first}
use Rattle.fx_fiber.specs.Makes.{MakesSilently}
use Rattle.fx_fiber.proofs.Loops.{turn_is_no_cede, turned_sound, turned_step}
use Rattle.fx_fiber.proofs.Results.{given_is_no_cede, given_step}

module _ (nodes : List Node) (s : Machine) (id : NodeId) (turn n : ℕ) (inside : ReturnsInto nodes s (frame.Loop id turn) (Val n)) where
  -- the value is dropped
  pub dropped : MakesSilently nodes s (after_turn s id turn)
  dropped = record {
    sound = search rules;
    rule = (
      given_is_no_cede nodes s (Val n) inside.given,
      given_step nodes s (frame.Loop id turn) (Val n) inside _ _ _ _ (rw inside.frames refl) (λ k. let_value),
    );
    is_local = tt;
  }

  pub dropped_to : (t : Machine) → t ≡ after_turn s id turn → MakesSilently nodes s t
  dropped_to t e = rw e dropped

  free_after : (name count : ℕ) (part : NodeId) → slice_get nodes id.0 ≡ Some (node.For name count part)
      → must_cancel_machine nodes (after_turn s id turn) ≡ false
  free_after name count part is = rw is (rw inside.given.focus at inside.given.free)

  -- then the fiber stands before the turn
  pub before : (name count : ℕ) (part : NodeId) → slice_get nodes id.0 ≡ Some (node.For name count part)
      → IsBeforeTurn nodes (after_turn s id turn) id turn (node.For name count part)
  before name count part is = record { sound = dropped.sound; focus = refl; node = is; free = free_after name count part is }

  -- and a turn comes next
  pub goes_on : (name count : ℕ) (part : NodeId) → slice_get nodes id.0 ≡ Some (node.For name count part) → turn < count → (t : Machine)
      → t ≡ record s {
        registers = with_number (Some name) turn s.registers;
        frames = frame.Loop id (turn + 1) ∷ without_first s.frames;
        focus = Eval part;
      } → MakesSilently nodes (after_turn s id turn) t
  goes_on name count part is more t e =
      let at = before name count part is in
      rw e
      (record {
        sound = turned_sound nodes (after_turn s id turn) id turn name count part at turn;
        rule = (
          turn_is_no_cede nodes (after_turn s id turn) id turn name count part at,
          turned_step nodes (after_turn s id turn) id turn name count part at more _ refl,
        );
        is_local = tt;
      })
