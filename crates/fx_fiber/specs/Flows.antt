-- Steps in one go that go on through offers and takes.
use Rattle.std.specs.Prelude.{◌≡◌, ℕ, suc, ◌≤◌, ◌<◌, Bool, true, false, None}
use Rattle.std.specs.Vec.{vec_len, vec_capacity}
use Rattle.fx_model.specs.declared.source.Source.{Source}
use Rattle.fx_fiber.specs.Calls.{PortCalls}
use Rattle.fx_fiber.specs.Theory.{Theory}
use Rattle.fx_fiber.specs.Fiber.{FiberView}
use Rattle.fx_fiber.specs.MakesStep.{MakesStep, OnlyWaits}
use Rattle.fx_fiber.specs.Places.{IsSame, is_open_machine}
use Rattle.fx_fiber.specs.Bursts.{StepsAlone, GoesAlone, Bursts, BurstsShort, Outset, LeadsTo, HasLooked, ComesAhead, MakesNext}
use Rattle.fx_fiber.specs.declared.stepped.Stepped.TheVariants.{Went}
use Rattle.fx_fiber.specs.declared.machine.Machine.{Machine}
use Rattle.fx_fiber.specs.declared.fiber.ahead.Ahead.TheVariants.{Rule}
use Rattle.fx_fiber.specs.declared.fiber.ahead.Looked.TheVariants.{InVain}
use Rattle.fx_fiber.specs.declared.fiber.body.Body.{Body}
use Rattle.fx_fiber.specs.declared.fiber.flow.Flow.{Flow}
use Rattle.fx_fiber.specs.declared.fiber.flow.Flow.TheVariants as flow
use Rattle.fx_fiber.specs.declared.fiber.flow.Outlook.{Outlook}
use Rattle.fx_fiber.specs.declared.fiber.flow.Outlook.TheVariants as outlook
use Rattle.fx_fiber.specs.declared.fiber.queue_step.AtQueue.{AtQueue}
use Rattle.fx_fiber.specs.declared.fiber.queue_step.AtQueue.TheVariants as atqueue

module _ {P S : Type 0} (theory : Theory P S) where
  -- the fiber made a step that went on, and is the same one still
  pub record PassesQueue (old : FiberView P) (shared : S) (new : FiberView P) (shared' : S) : Type 0 where
    pub does : MakesStep theory old shared Went new shared'
    pub number_is : (theory.facts new.port).number ≡ (theory.facts old.port).number
    pub beginning_is : (theory.facts new.port).beginning ≡ (theory.facts old.port).beginning

  -- so many steps, one after the other, after each of which the fiber goes on: the step left what is shared as it was, or the port says so
  pub data Flows (first : FiberView P) (shared : S) : ℕ → FiberView P → S → Type 0 where
    begins : Flows first shared 0 first shared
    alone : {n : ℕ} {f g : FiberView P} {s : S} → Flows first shared n f s → StepsAlone theory f s g → Flows first shared (suc n) g s
    passes : {n : ℕ} {f g : FiberView P} {s t : S} → Flows first shared n f s → PassesQueue f s g t → theory.calls.goes_on g.port t
        → Flows first shared (suc n) g t

  -- so many of them, and after the last one it need not go on
  pub data FlowsAndStops (first : FiberView P) (shared : S) : ℕ → FiberView P → S → Type 0 where
    goes_on : {n : ℕ} {f : FiberView P} {s : S} → Flows first shared n f s → FlowsAndStops first shared n f s
    stops : {n : ℕ} {f g : FiberView P} {s t : S} → Flows first shared n f s → MakesStep theory f s Went g t → FlowsAndStops first shared (suc n) g t

  -- after so many of them the fiber waits
  pub record FlowsAndWaits (n : ℕ) (old : FiberView P) (shared : S) (new : FiberView P) (shared' : S) : Type 0 where
    pub between : FiberView P
    pub found : S
    pub goes : Flows old shared n between found
    pub wait : Source
    pub waits : OnlyWaits theory between found wait new shared'

  -- memory is refused after fewer than so many of them, and the fiber stands as after the last of them
  pub record FlowsShort (most : ℕ) (old : FiberView P) (shared : S) (new : FiberView P) (shared' : S) : Type 0 where
    pub n : ℕ
    pub few : n < most
    pub goes : Flows old shared n new shared'

  -- what a flow does that comes to this, of at most so many steps, and of one at least unless it waits
  abbrev pub FlowsTo : ℕ → FiberView P → S → Flow → FiberView P → S → Type 0
  FlowsTo most old shared (flow.Stops n) new shared' = (0 < n) × (n ≤ most) × FlowsAndStops old shared n new shared'
  FlowsTo most old shared (flow.Waits n) new shared' = (n < most) × FlowsAndWaits n old shared new shared'
  FlowsTo most old shared flow.Memory new shared' = FlowsShort most old shared new shared'

  -- what a step at a queue does that comes to this
  abbrev pub MeetsQueue : FiberView P → S → AtQueue → FiberView P → S → Type 0
  MeetsQueue old shared atqueue.Went new shared' = MakesStep theory old shared Went new shared'
  MeetsQueue old shared atqueue.Waits new shared' = (wait : Source) × OnlyWaits theory old shared wait new shared'
  MeetsQueue old shared atqueue.Memory new shared' = (new ≡ old) × (shared' ≡ shared)

  -- what the rules between two steps at queues do that come to this, at most so many: they are a burst, which sees a request only where it stops
  abbrev pub LooksOut : ℕ → FiberView P → S → Outlook → FiberView P → S → Type 0
  LooksOut most old shared (outlook.Rule n) new shared' = (n ≤ most) × GoesAlone theory n old shared new × (shared' ≡ shared)
  LooksOut most old shared (outlook.Stops n) new shared' = Bursts theory most n old shared new shared'
  LooksOut most old shared outlook.Memory new shared' = BurstsShort theory most old shared new shared'

  -- after them nothing comes before the next rule, where that is said, and its event has its room where one of at most so many is left
  abbrev pub IsFreeAfter : ℕ → Outlook → Body → P → S → Type 0
  IsFreeAfter most (outlook.Rule n) body p s =
      ComesAhead theory.calls (is_open_machine body.machine) body.machine.known Rule p s × (n < most → vec_len body.trace < vec_capacity body.trace)
  IsFreeAfter most o body p s = Unit {0}

  -- so many rules that ask the port nothing were made, of at most so many, from an outset that was looked at in vain
  abbrev pub ReachesRule : Outset P S → ℕ → ℕ → Body → Type 0
  ReachesRule outset most n body = (n ≤ most) × LeadsTo theory outset n body.machine body.trace.items body.clock
      × HasLooked theory.calls InVain body.machine.known outset.port outset.shared × (n < most → vec_len body.trace < vec_capacity body.trace)

  -- two silent rules are made, whatever the clock is, or none
  abbrev pub GlidesTwice : Machine → P → S → Bool → Machine → Type 0
  GlidesTwice s p sh true s' = (between : Machine) × MakesNext theory s p sh between × MakesNext theory between p sh s'
  GlidesTwice s p sh false s' = IsSame theory.code s s'

-- a look found nothing, and has changed neither the port nor what is shared nor the fiber
abbrev pub LooksInVainHere : {P S : Type 0} → PortCalls P S → P → S → Body → P → S → Body → Type 0
LooksInVainHere calls p s body p' s' body' = calls.looks p s None p s × (p' ≡ p) × (s' ≡ s) × (body' ≡ body)
