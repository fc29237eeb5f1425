-- The classes tell who may step.
use Rattle.std.proofs.Common.{◌≡◌, ℕ, Bool, true, false, Option, Some, None, refl, ◌∙◌}
use Rattle.std.proofs.lemmas.Option.{none-some}
use Rattle.fx_term.specs.Script.{ScriptView}
use Rattle.fx_model.specs.Row.{Counts}
use Rattle.fx_model.specs.Step.{Progress, Runs, Unwinds, CleansUp, HasEnded, has_ended}
use Rattle.fx_model.specs.declared.source.Source.{Source}
use Rattle.fx_model.specs.declared.source.Source.TheVariants.{Nothing, Outcome, Either, Room, Element}
use Rattle.fx_model.specs.WaitsFor.{IsWaiting}
use Rattle.fx_model.specs.Outside.{Outside, can_step}
use Rattle.fx_model.proofs.WaitingLaws.{waiting_steps}
use Rattle.fx_plain.specs.declared.class.Class.{Class}
use Rattle.fx_plain.specs.declared.class.Class.TheVariants.{Unstarted, Able, Waits, Over}
use Rattle.fx_plain.specs.WholeMachine.{StartedFiber, WholeMachine, has_room, outside_of, outcome_of, can_step_fiber, can_step_in}
use Rattle.fx_plain.specs.ClassSets.{is_able}
use Rattle.fx_plain.specs.Classes.{IsOfClass, AreOfClasses, may_step, outcome_has_come, AwaitWhatIsToCome, is_ready}

over_cannot : (o : Outside) (f : ℕ) (c : Counts) (p : Progress) → has_ended p ≡ true → can_step o f c p ≡ false
over_cannot o f c (HasEnded x) e = refl
over_cannot o f c (Runs t) e = absurd cc
over_cannot o f c (Unwinds rest) e = absurd cc
over_cannot o f c (CleansUp k t rest) e = absurd cc

class_tells : (o : Outside) (f : ℕ) (z : Option StartedFiber) (k : Class) → IsOfClass (o.is_requested f) z k → may_step o k ≡ false
    → can_step_fiber o f z ≡ false
class_tells o f None k h e = refl
class_tells o f (Some x) Able h e = absurd cc
class_tells o f (Some x) (Waits w) h e = waiting_steps o f x.counts x.progress w h ∙ e
class_tells o f (Some x) Over h e = over_cannot o f x.counts x.progress h
class_tells o f (Some x) Unstarted h e = absurd h

-- a fiber that may step by its class is ready, if the outcome for which it waits is to come
ready_is : (o : Outside) (k : Class) → outcome_has_come o.outcome k ≡ false → may_step o k ≡ is_ready o.has_room o.has_element k
ready_is o Able e = refl
ready_is o (Waits Nothing) e = refl
ready_is o (Waits (Outcome g)) e = e
ready_is o (Waits (Either g h)) e = e
ready_is o (Waits (Room q)) e = refl
ready_is o (Waits (Element q)) e = refl
ready_is o Over e = refl
ready_is o Unstarted e = refl

-- by the same tests the same are ready
pub same_ready : (room room' element element' : ℕ → Bool) → ((q : ℕ) → room q ≡ room' q) → ((q : ℕ) → element q ≡ element' q) → (k : Class)
    → is_ready room element k ≡ is_ready room' element' k
same_ready room room' element element' e h (Waits (Room q)) = e q
same_ready room room' element element' e h (Waits (Element q)) = h q
same_ready room room' element element' e h _ = refl

-- a fiber that has started and has not ended
pub record IsGoing (m : WholeMachine) (f : ℕ) : Type 0 where
  pub fiber : StartedFiber
  pub at : m.fibers f ≡ Some fiber
  pub goes : has_ended fiber.progress ≡ false

pub waiting_goes : (r : Bool) (c : Counts) (p : Progress) (w : Source) → IsWaiting r c p w → has_ended p ≡ false
waiting_goes r c (HasEnded x) w h = absurd (none-some w h.leaf)
waiting_goes r c (Runs t) w h = refl
waiting_goes r c (Unwinds rest) w h = refl
waiting_goes r c (CleansUp k t rest) w h = refl

module _ (s : ScriptView) (m : WholeMachine) (class : ℕ → Class) (are : AreOfClasses m class) (f : ℕ) where
  -- by such a class a fiber is ready in the whole machine
  abbrev pub ready_by : Class → Bool
  ready_by k = is_ready (has_room s m) (outside_of s m).has_element k

  -- who is not ready cannot step
  pub unready_cannot_step : AwaitWhatIsToCome (outcome_of m) class → ready_by (class f) ≡ false → can_step_in s m f ≡ false
  unready_cannot_step to_come e =
      class_tells (outside_of s m) f (m.fibers f) (class f) (are f) (ready_is (outside_of s m) (class f) (to_come f) ∙ e)

  -- who is ready has started and has not ended
  pub ready_is_going : ready_by (class f) ≡ true → IsGoing m f
  ready_is_going e = by_fiber (m.fibers f) (class f) refl (are f) e
    where
      by_fiber : (z : Option StartedFiber) (k : Class) → m.fibers f ≡ z → IsOfClass (m.requested f) z k → ready_by k ≡ true → IsGoing m f
      by_fiber None Unstarted at h e = absurd cc
      by_fiber None Able at h e = absurd h
      by_fiber None (Waits w) at h e = absurd h
      by_fiber None Over at h e = absurd h
      by_fiber (Some x) Able at h e = record { fiber = x; at = at; goes = h }
      by_fiber (Some x) (Waits w) at h e = record { fiber = x; at = at; goes = waiting_goes (m.requested f) x.counts x.progress w h }
      by_fiber (Some x) Over at h e = absurd cc
      by_fiber (Some x) Unstarted at h e = absurd h

  -- who waits and is ready can step
  pub ready_can_step : is_able (class f) ≡ false → ready_by (class f) ≡ true → can_step_in s m f ≡ true
  ready_can_step unable e = by_fiber (m.fibers f) (class f) (are f) unable e
    where
      by_fiber : (z : Option StartedFiber) (k : Class) → IsOfClass (m.requested f) z k → is_able k ≡ false
          → ready_by k ≡ true → can_step_fiber (outside_of s m) f z ≡ true
      by_fiber (Some x) (Waits (Room q)) h n e = waiting_steps (outside_of s m) f x.counts x.progress (Room q) h ∙ e
      by_fiber (Some x) (Waits (Element q)) h n e = waiting_steps (outside_of s m) f x.counts x.progress (Element q) h ∙ e
      by_fiber None (Waits (Room q)) h n e = absurd h
      by_fiber None (Waits (Element q)) h n e = absurd h
      by_fiber z Able h n e = absurd cc
      by_fiber z _ h n e = absurd cc
