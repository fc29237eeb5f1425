-- A fiber that answers over the world of one thread that it waits does so in the whole machine, for what has not come.
use Rattle.std.proofs.Common.{◌≡◌, ℕ, ◌<◌, Bool, true, false, Option, Some, List, length, refl, sym, ◌∙◌, ap}
use Rattle.std.specs.Prelude.{is_some, nat_lt, slice_set}
use Rattle.fx_term.specs.declared.item.Item.{Item}
use Rattle.fx_term.specs.declared.node.Node.{Node}
use Rattle.fx_term.specs.Script.{ScriptView, total}
use Rattle.fx_model.specs.declared.source.Source.{Source}
use Rattle.fx_model.specs.declared.source.Source.TheVariants.{Nothing, Outcome, Either, Room, Element}
use Rattle.fx_fiber.specs.Fiber.{FiberView, clock, progress}
use Rattle.fx_fiber.specs.StampedRun.{next_stamp}
use Rattle.fx_model.specs.Step.{leaf_at, looks_first}
use Rattle.fx_model.specs.WaitsFor.{IsWaiting}
use Rattle.fx_fiber.specs.MakesStep.{value_offered, LooksInVain, IsRefused, OnlyWaits}
use Rattle.fx_plain.specs.declared.class.Class.TheVariants.{Waits}
use Rattle.fx_plain.specs.WholeMachine.{StartedFiber, WholeMachine}
use Rattle.fx_plain.specs.PlainQueue.{have_room, have_element}
use Rattle.fx_plain.specs.Classes.{outcome_has_come, is_ready}
use Rattle.fx_plain.specs.World.{WorldView, outcome_in, HeldFiber, StandsFor}
use Rattle.fx_plain.specs.PlainCalls.{PortView, plain_calls, plain_theory}
use Rattle.fx_plain.specs.WorldClasses.{TellsWhoSteps}
use Rattle.fx_plain.proofs.WorldClasses.{wait_tells}

-- what was refused has not come
refused_to_come : (w : WorldView) (p : PortView) (own offered : ℕ) (source : Source) → IsRefused plain_calls own offered source p w
    → outcome_has_come (outcome_in w) (Waits source) ≡ false
refused_to_come w p own offered Nothing r = refl
refused_to_come w p own offered (Outcome g) r = ap is_some r.0
refused_to_come w p own offered (Either g h) r = rw (r.0.0, r.1.0) refl
refused_to_come w p own offered (Room q) r = refl
refused_to_come w p own offered (Element q) r = refl

-- nor is it there now
pub refused_unready : (w : WorldView) (p : PortView) (own offered : ℕ) (source : Source) → IsRefused plain_calls own offered source p w
    → is_ready (have_room w.queues) (have_element w.queues) (Waits source) ≡ false
refused_unready w p own offered (Room q) r = r.0
refused_unready w p own offered (Element q) r = ap (λ (xs : List Item). nat_lt 0 (length xs)) r.0
refused_unready w p own offered Nothing r = refl
refused_unready w p own offered (Outcome g) r = refl
refused_unready w p own offered (Either g h) r = refl

module _ (s : ScriptView) (w : WorldView) (held : List (Option HeldFiber)) (m : WholeMachine) (stands : StandsFor s w held m) (nodes : List Node)
    (f : ℕ) (lt : f < total s) (old new : FiberView PortView) (w' : WorldView) (own : old.port.number ≡ f) (source : Source)
    (h : OnlyWaits (plain_theory nodes) old w source new w') where
  unasked : (due : Bool) → LooksInVain plain_calls due old.port w → due ≡ true → m.requested f ≡ false
  unasked true looked e = sym (stands.requested f lt) ∙ rw own at looked.0
  unasked false looked e = absurd cc

  pub waits_so : IsWaiting (m.requested f) old.counts (progress nodes old) source
  waits_so = record { leaf = h.waits; free = h.free; unasked = unasked (looks_first old.counts.known (progress nodes old)) h.looked }

  -- the world that notes it goes on to tell who can step
  pub noted_wait_tells : TellsWhoSteps s w m → (x : StartedFiber) → m.fibers f ≡ Some x → x.counts ≡ old.counts → x.progress ≡ progress nodes old
      → TellsWhoSteps s (record w { classes = slice_set w.classes f (Waits source) }) m
  noted_wait_tells tells x at counts progress_is =
      wait_tells s w m tells f x source lt at (rw (counts, progress_is) waits_so)
      (refused_to_come w old.port (next_stamp (clock (plain_theory nodes) old) 0) (value_offered (leaf_at (progress nodes old))) source h.refused)
