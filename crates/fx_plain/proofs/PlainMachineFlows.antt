-- The least fiber that is ready makes the steps of a flow: each is one that a schedule makes, and before each it is the least one still.
use Rattle.std.proofs.Common.{◌≡◌, ℕ, zero, suc, ◌<◌, Bool, true, Option, Some, None, List, length, refl, sym, ◌∙◌, ap, inl, arith}
use Rattle.std.proofs.Common.{get_or-set_same}
use Rattle.std.proofs.lemmas.List.{set-set}
use Rattle.std.specs.Prelude.{slice_set}
use Rattle.std.specs.Vec.{with_item}
use Rattle.fx_term.specs.declared.node.Node.{Node}
use Rattle.fx_term.specs.Script.{ScriptView}
use Rattle.fx_model.specs.declared.source.Source.{Source}
use Rattle.fx_fiber.specs.Fiber.{FiberView, clock}
use Rattle.fx_fiber.specs.StampedRun.{next_stamp}
use Rattle.fx_fiber.specs.MakesStep.{MakesStep, OnlyWaits}
use Rattle.fx_fiber.specs.Flows.{Flows, FlowsAndStops}
use Rattle.fx_fiber.specs.declared.stepped.Stepped.TheVariants.{Went}
use Rattle.fx_plain.specs.Started.{StartedView, FlowsFrom}
use Rattle.fx_plain.specs.declared.class.Class.{Class}
use Rattle.fx_plain.specs.declared.class.Class.TheVariants.{Unstarted, Able, Waits, Over}
use Rattle.fx_plain.specs.declared.plain_machine.PlainMachine.{PlainMachine}
use Rattle.fx_plain.specs.WholeMachine.{WholeMachine}
use Rattle.fx_plain.specs.Chosen.{LeastSteps}
use Rattle.fx_plain.specs.NumberSet.{IsLeastOf}
use Rattle.fx_plain.specs.Classes.{awaited, is_ready}
use Rattle.fx_plain.specs.ClassSets.{class_at, is_able}
use Rattle.fx_plain.specs.World.{WorldView, is_ready_in, after_start}
use Rattle.fx_plain.specs.PlainCalls.{PortView, plain_theory}
use Rattle.fx_plain.specs.PlainMachine.{StandsForRun, Tries, steps, waits, GoesByLeast}
use Rattle.fx_plain.proofs.PlainMachineSteps.{at_number, own_number, is_fiber, below_total}
use Rattle.fx_plain.proofs.PlainMachineTries.{still_stands, step_leads_on, tries_waiting}
use Rattle.fx_plain.proofs.PlainMachineBursts.{long, tells_nothing}
use Rattle.fx_plain.proofs.PlainMachineWaking.{woken, woken_stands, is_woken, least_woken, tried_woken}
use Rattle.fx_plain.proofs.PlainMachineLeast.{unready_is_least, tried_by_least}

-- one that is ready and awaits nothing is able
ready_is_able : (room element : ℕ → Bool) (k : Class) → is_ready room element k ≡ true → awaited k ≡ None → is_able k ≡ true
ready_is_able room element Able ready none = refl
ready_is_able room element (Waits source) ready none = absurd (let no : Some source ≡ None = none in cc)
ready_is_able room element Over ready none = ready
ready_is_able room element Unstarted ready none = ready

-- the world once it is noted what the fiber waits for, if it does
abbrev pub waiting_for : ℕ → Option Source → WorldView → WorldView
waiting_for f None w = w
waiting_for f (Some source) w = record w { classes = slice_set w.classes f (Waits source) }

-- where it awaits nothing
pub awaits_none : (wait : Option Source) → ((source : Source) → wait ≡ Some source → ⊥) → wait ≡ None
awaits_none None none = refl
awaits_none (Some source) none = absurd (none source refl)

module _ {J : Type 0} (nodes : List Node) (s : ScriptView) (f : ℕ) (p : PlainMachine J) (m : WholeMachine) (so : StandsForRun nodes s p m)
    (x : StartedView J) (here : at_number nodes p f ≡ Some x) (able : is_able (class_at p.world.classes f) ≡ true)
    (least : IsLeastOf (is_ready_in p.world) (Some f)) where
  -- the machine in which the fiber stands so, over that world
  abbrev with_fiber : FiberView PortView → WorldView → PlainMachine J
  with_fiber v w = record { world = w; fibers = with_item p.fibers f (Some (record { parent = x.parent; fiber = v })) }

  -- the machine holds the fiber so, over that world
  record Holds (v : FiberView PortView) (w : WorldView) (p' : PlainMachine J) : Type 0 where
    pub after : StartedView J
    pub fibers : p'.fibers.items ≡ slice_set p.fibers.items f (Some after)
    pub parent : after.parent ≡ x.parent
    pub fiber : after.fiber ≡ v
    pub world : p'.world ≡ w

  holds : (v : FiberView PortView) (w : WorldView) → Holds v w (with_fiber v w)
  holds v w = record { after = record { parent = x.parent; fiber = v }; fibers = refl; parent = refl; fiber = refl; world = refl }

  own : x.fiber.port.number ≡ f
  own = own_number nodes s p m so f x here (is_fiber nodes s p m so f x here)

  -- so many steps lead to a machine that this one stands for
  record Comes (n : ℕ) (p' : PlainMachine J) : Type 0 where
    pub machine : WholeMachine
    pub steps : LeastSteps s m n machine
    pub stands : StandsForRun nodes s p' machine

  -- and it is the fiber that it was, the least one that is ready, and able
  record IsLeastStill (v : FiberView PortView) (w : WorldView) : Type 0 where
    pub number_is : v.port.number ≡ f
    pub beginning_is : v.port.beginning ≡ x.fiber.port.beginning
    pub able_is : is_able (class_at w.classes f) ≡ true
    pub least_is : IsLeastOf (is_ready_in w) (Some f)

  there : (v : FiberView PortView) (w : WorldView) → at_number nodes (with_fiber v w) f ≡ Some (record { parent = x.parent; fiber = v })
  there v w = get_or-set_same p.fibers.items f _ None (long nodes s f p m so x here able)

  -- one step more
  record StepsOn (n : ℕ) (p' : PlainMachine J) : Type 0 where
    pub comes : Comes (suc n) p'
    pub noted : awaited (class_at p'.world.classes f) ≡ None

  step_on : (n : ℕ) (v v' : FiberView PortView) (w w' : WorldView) → Comes n (with_fiber v w) → IsLeastStill v w
      → MakesStep (plain_theory nodes) v w Went v' w' → v'.port.number ≡ v.port.number → v'.port.beginning ≡ v.port.beginning
      → (p' : PlainMachine J) → Holds v' w' p' → StepsOn n p'
  step_on n v v' w w' come is does same begun p' held =
      let q = with_fiber v w in
      let on = step_leads_on nodes s q come.machine come.stands f _ (there v w) p' held.after _ refl w' v' held.parent held.fiber same begun
      Went (inl refl) does (held.fibers ∙ sym (set-set p.fibers.items f _ (Some held.after))) held.world is.able_is in
      record {
        comes = record {
          machine = on.1;
          steps = LeastSteps.more come.steps (unready_is_least nodes s q come.machine come.stands f is.least_is.1) on.2;
          stands = on.3;
        };
        noted = on.4;
      }

  -- the steps of a flow
  record FlowsTo (n : ℕ) (v : FiberView PortView) (w : WorldView) (p' : PlainMachine J) : Type 0 where
    pub comes : Comes n p'
    pub still : IsLeastStill v w

  flows_to : {n : ℕ} {v : FiberView PortView} {w : WorldView} → Flows (plain_theory nodes) x.fiber p.world n v w → (p' : PlainMachine J) → Holds v w p'
      → FlowsTo n v w p'
  flows_to Flows.begins p' held = record {
    comes = record {
      machine = m;
      steps = LeastSteps.none;
      stands = still_stands nodes s p m so f x here p' held.after _ refl p.world x.fiber held.parent held.fiber refl refl
          (record { port = refl; trace = refl; stamps = refl; counts = refl; progress_is = refl }) held.fibers held.world;
    };
    still = record { number_is = own; beginning_is = refl; able_is = able; least_is = least };
  }
  flows_to {v = v'} {w = w} (Flows.alone {n = n} {f = v} before once) p' held =
      let so_far = flows_to before (with_fiber v w) (holds v w) in
      let port : v'.port ≡ v.port = tells_nothing nodes v v' w (next_stamp (clock (plain_theory nodes) v) once.does.cause) once.does.cause
      once.does.label once.alone once.does.calls_are.told in
      let same = ap (λ (r : PortView). r.number) port in
      let begun = ap (λ (r : PortView). r.beginning) port in
      let on = step_on n v v' w w so_far.comes so_far.still once.does same begun p' held in
      record {
        comes = on.comes;
        still = record {
          number_is = same ∙ so_far.still.number_is;
          beginning_is = begun ∙ so_far.still.beginning_is;
          able_is = so_far.still.able_is;
          least_is = so_far.still.least_is;
        };
      }
  flows_to {v = v'} {w = w'} (Flows.passes {n = n} {f = v} {s = w} before once goes_on) p' held =
      let so_far = flows_to before (with_fiber v w) (holds v w) in
      let on = step_on n v v' w w' so_far.comes so_far.still once.does once.number_is once.beginning_is p' held in
      let is : v'.port.number ≡ f = once.number_is ∙ so_far.still.number_is in
      let still : IsLeastOf (is_ready_in w') (Some f) = rw is at goes_on in
      record {
        comes = on.comes;
        still = record {
          number_is = is;
          beginning_is = once.beginning_is ∙ so_far.still.beginning_is;
          able_is = ready_is_able _ _ (class_at w'.classes f) still.0 (rw held.world at on.noted);
          least_is = still;
        };
      }

  -- of one after whose last step it need not be the least
  stops_to : {n : ℕ} {v : FiberView PortView} {w : WorldView} → FlowsAndStops (plain_theory nodes) x.fiber p.world n v w
      → v.port.number ≡ x.fiber.port.number → v.port.beginning ≡ x.fiber.port.beginning → (p' : PlainMachine J) → Holds v w p' → Comes n p'
  stops_to (FlowsAndStops.goes_on flows) same begun p' held = (flows_to flows p' held).comes
  stops_to {v = v'} {w = w'} (FlowsAndStops.stops {n = n} {f = v} {s = w} flows once) same begun p' held =
      let so_far = flows_to flows (with_fiber v w) (holds v w) in
      (step_on n v v' w w' so_far.comes so_far.still once (same ∙ own ∙ sym so_far.still.number_is) (begun ∙ sym so_far.still.beginning_is) p' held).comes

  -- it made a step or more; or it was tried, and waits
  pub data Flowed (p' : PlainMachine J) : Type 0 where
    went : {n : ℕ} {m' : WholeMachine} → LeastSteps s m (suc n) m' → StandsForRun nodes s p' m' → Flowed p'
    tried : Tries nodes s m f p p' → Flowed p'

  some_steps : (n : ℕ) → 0 < n → (p' : PlainMachine J) → Comes n p' → Flowed p'
  some_steps zero some p' come = absurd (omega arith)
  some_steps (suc n) some p' come = went come.steps come.stands

  -- of one that waits then
  waits_to : (n : ℕ) {v v' : FiberView PortView} {w w' : WorldView} → Flows (plain_theory nodes) x.fiber p.world n v w
      → (source : Source) → OnlyWaits (plain_theory nodes) v w source v' w'
      → v'.port.number ≡ x.fiber.port.number → v'.port.beginning ≡ x.fiber.port.beginning → (p' : PlainMachine J) (after : StartedView J)
      → p'.fibers.items ≡ slice_set p.fibers.items f (Some after) → after.parent ≡ x.parent → after.fiber ≡ v'
      → p'.world ≡ record w' { classes = slice_set w'.classes f (Waits source) } → Flowed p'
  waits_to zero {v' = v'} {w' = w'} Flows.begins source wait same begun p' after fibers parent fiber world =
      tried (tries_waiting nodes s p m so f x here p' after _ refl w' v' parent fiber same begun source wait fibers world able)
  waits_to (suc n) {v} {v'} {w} {w'} flows source wait same begun p' after fibers parent fiber world = by_try
      (tries_waiting nodes s (with_fiber v w) so_far.comes.machine so_far.comes.stands f _ (there v w) p' after _ refl w' v' parent fiber
      (same ∙ own ∙ sym so_far.still.number_is) (begun ∙ sym so_far.still.beginning_is) source wait
      (fibers ∙ sym (set-set p.fibers.items f _ (Some after))) world so_far.still.able_is)
    where
      so_far : FlowsTo (suc n) v w (with_fiber v w)
      so_far = flows_to flows (with_fiber v w) (holds v w)

      by_try : Tries nodes s so_far.comes.machine f (with_fiber v w) p' → Flowed p'
      by_try (steps chosen so' noted) =
          went (LeastSteps.more so_far.comes.steps
          (unready_is_least nodes s (with_fiber v w) so_far.comes.machine so_far.comes.stands f so_far.still.least_is.1) chosen) so'
      by_try (waits cannot so' fewer noted) = went so_far.comes.steps so'

  -- what a flow comes to, once it is noted what is waited for
  pub flow_to : (wait : Option Source) (v' : FiberView PortView) (w' : WorldView) → FlowsFrom nodes x.fiber p.world wait v' w'
      → v'.port.number ≡ x.fiber.port.number → v'.port.beginning ≡ x.fiber.port.beginning → (p' : PlainMachine J) (after : StartedView J)
      → p'.fibers.items ≡ slice_set p.fibers.items f (Some after) → after.parent ≡ x.parent → after.fiber ≡ v'
      → p'.world ≡ waiting_for f wait w' → Flowed p'
  flow_to None v' w' flows same begun p' after fibers parent fiber world =
      some_steps flows.0 flows.1 p'
      (stops_to flows.2 same begun p' (record { after = after; fibers = fibers; parent = parent; fiber = fiber; world = world }))
  flow_to (Some source) v' w' flows same begun p' after fibers parent fiber world =
      waits_to flows.0 flows.1.goes source (rw flows.2 at flows.1.waits) same begun p' after fibers parent fiber world

  -- one that waits then is one of the world
  pub waits_below : (source : Source) (v' : FiberView PortView) (w' : WorldView) → FlowsFrom nodes x.fiber p.world (Some source) v' w'
      → f < length w'.classes
  waits_below source v' w' flows =
      let at = flows.1 in
      let so_far = flows_to at.goes (with_fiber at.between at.found) (holds at.between at.found) in
      let below = below_total nodes s p m so f x here (is_fiber nodes s p m so f x here) in
      let all = so_far.comes.stands.tells.long in
      rw at.waits.shared_is (omega arith)

-- the fiber is woken before
module _ {J : Type 0} (nodes : List Node) (s : ScriptView) (f : ℕ) (p : PlainMachine J) (w : WorldView) (world : w ≡ after_start f p.world)
    (least : IsLeastOf (is_ready_in p.world) (Some f)) (m : WholeMachine) (so : StandsForRun nodes s p m) (x : StartedView J)
    (here : at_number nodes p f ≡ Some x) where
  -- the machine once it was
  abbrev then_woken : PlainMachine J
  then_woken = woken nodes p f w world least.0

  then_stands : StandsForRun nodes s then_woken m
  then_stands = woken_stands nodes p f w world least.0 s m so

  able : is_able (class_at w.classes f) ≡ true
  able = is_woken nodes p f w world least.0 s m so

  still : IsLeastOf (is_ready_in w) (Some f)
  still = least_woken nodes p f w world least.0 s m so least.1

  pub woken_waits_below : (source : Source) (v' : FiberView PortView) (w' : WorldView) → FlowsFrom nodes x.fiber w (Some source) v' w'
      → f < length w'.classes
  woken_waits_below = waits_below nodes s f then_woken m then_stands x here able still

  pub flow_woken : (wait : Option Source) (v' : FiberView PortView) (w' : WorldView) → FlowsFrom nodes x.fiber w wait v' w'
      → v'.port.number ≡ x.fiber.port.number → v'.port.beginning ≡ x.fiber.port.beginning → (p' : PlainMachine J) (after : StartedView J)
      → p'.fibers.items ≡ slice_set p.fibers.items f (Some after) → after.parent ≡ x.parent → after.fiber ≡ v'
      → p'.world ≡ waiting_for f wait w' → GoesByLeast nodes s m p p'
  flow_woken wait v' w' flows same begun p' after fibers parent fiber world_is =
      by_flow (flow_to nodes s f then_woken m then_stands x here able still wait v' w' flows same begun p' after fibers parent fiber world_is)
    where
      by_flow : Flowed nodes s f then_woken m then_stands x here able still p' → GoesByLeast nodes s m p p'
      by_flow (went {n = n} {m' = m'} on so') = record {
        count = suc n;
        machine = m';
        steps = on;
        stands = so';
        fewer = λ none. absurd (omega arith);
      }
      by_flow (tried t) = tried_by_least nodes s p p' m f so least.1 (tried_woken nodes p f w world least.0 s m so p' t)
