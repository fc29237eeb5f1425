-- Steps of a flow one after the other, and what a step at a queue tells.
use Rattle.std.proofs.Common.{◌≡◌, ◌∙◌, ℕ, zero, suc, ◌+◌, ◌<◌, Bool, true, false, ◌&&◌, ◌||◌, Some, None, List, ◌++◌}
use Rattle.std.proofs.Common.{refl, sym, inl, inr, arith}
use Rattle.std.specs.Prelude.{option_and_then}
use Rattle.std.proofs.Math.Numerals.{add-one}
use Rattle.fx_term.specs.declared.event.Event.TheVariants as event
use Rattle.fx_term.specs.declared.stamped.Stamped.{Stamped}
use Rattle.fx_model.specs.Row.{Shows}
use Rattle.fx_model.specs.Step.{Progress, HasEnded, has_ended, leaf_at}
use Rattle.fx_model.specs.Waiting.{wait_at}
use Rattle.fx_model.specs.Stamps.{one_more}
use Rattle.fx_model.specs.declared.source.Source.{Source}
use Rattle.fx_fiber.specs.Theory.{Theory}
use Rattle.fx_fiber.specs.StampedRun.{stamped_event}
use Rattle.fx_fiber.specs.Fiber.{FiberView, fiber_at, IsUnchanged, IsKept}
use Rattle.fx_fiber.specs.MakesStep.{MakesStep, OnlyWaits}
use Rattle.fx_fiber.specs.MakesCall.{MakesCall}
use Rattle.fx_fiber.specs.Made.{label_of}
use Rattle.fx_fiber.specs.Machine.{progress_of}
use Rattle.fx_fiber.specs.Places.{IsInside, is_open_machine}
use Rattle.fx_fiber.specs.Advances.{Advances}
use Rattle.fx_fiber.specs.Bursts.{GoesBy, GoesAlone, Bursts, BurstsShort, ComesAhead, Outset, LeadsTo, HasLooked}
use Rattle.fx_fiber.specs.Flows.{PassesQueue, Flows, FlowsAndStops, MeetsQueue}
use Rattle.fx_fiber.specs.QueueSteps.{IsPutOrGot, TellsAlone, TellsQueue, Returned, OnWent, StandsAtQueue}
use Rattle.fx_term.specs.declared.node.Node.{Node}
use Rattle.fx_fiber.specs.declared.machine.focus.Focus.{Focus}
use Rattle.fx_fiber.specs.declared.stepped.Stepped.{Stepped}
use Rattle.fx_fiber.specs.declared.stepped.Stepped.TheVariants as stepped
use Rattle.fx_fiber.specs.declared.fiber.queue_step.AtQueue.{AtQueue}
use Rattle.fx_fiber.specs.declared.fiber.queue_step.AtQueue.TheVariants as atqueue
use Rattle.fx_fiber.specs.declared.stepped.Stepped.TheVariants.{Went}
use Rattle.fx_fiber.specs.declared.machine.made.Made.{Made}
use Rattle.fx_fiber.specs.declared.machine.made.Made.TheVariants as made
use Rattle.fx_fiber.specs.declared.machine.Machine.{Machine}
use Rattle.fx_fiber.specs.declared.fiber.ahead.Ahead.TheVariants as ahead
use Rattle.fx_fiber.specs.declared.fiber.ahead.Looked.TheVariants.{InVain}
use Rattle.fx_fiber.specs.declared.fiber.body.Body.{Body}
use Rattle.fx_fiber.proofs.Advances.{same_here}
use Rattle.fx_fiber.proofs.Bursts.{went_then, passes, step_is_going, alone_knows}
use Rattle.fx_fiber.proofs.Telling.{told_keeps, told_steps, makes_on}
use Rattle.fx_fiber.proofs.QueueSteps.{alone_is_made, alone_tells, tells_on}

-- a fiber that waits has not ended
waits_going : (p : Progress) (wait : Source) → option_and_then wait_at (leaf_at p) ≡ Some wait → has_ended p ≡ false
waits_going (HasEnded o) wait e = absurd (let no : None ≡ Some wait = e in cc)
waits_going _ wait e = refl

-- where cancellation is not due, of a fiber at a place that is open
pub unknown_first : (opened known : Bool) → (opened && known) ≡ false → opened ≡ true → known ≡ false
unknown_first true known e o = e
unknown_first false known e o = absurd (let no : false ≡ true = o in cc)

-- at an open place where nothing comes first the fiber is not known to be canceled
pub open_unknown : (opened known : Bool) → (opened && (known || false)) ≡ false → opened ≡ true → known ≡ false
open_unknown true true e o = absurd (let no : true ≡ false = e in cc)
open_unknown true false e o = refl
open_unknown false known e o = absurd (let no : false ≡ true = o in cc)

-- where nothing comes first, cancellation is not due
pub not_due : (opened known : Bool) → (opened && (known || false)) ≡ false → (opened && known) ≡ false
not_due true true e = e
not_due true false e = refl
not_due false known e = refl

-- a fiber stands at a queue, and cancellation is not due
pub not_due_at : (nodes : List Node) (focus : Focus) (due : Bool) → due ≡ false → StandsAtQueue nodes focus false → StandsAtQueue nodes focus due
not_due_at nodes focus due e at = rw e at

module _ {P S : Type 0} (theory : Theory P S) where
  -- no step was made, where the fiber is as it was
  pub begins_here : (p p' : P) (sh sh' : S) (t : List Stamped) (b b' : Body) → b.trace.items ≡ t → p' ≡ p → sh' ≡ sh → b' ≡ b
      → Flows theory (fiber_at p t b.machine b.source) sh 0 (fiber_at p' b'.trace.items b'.machine b'.source) sh'
  begins_here p p' sh sh' t b b' items e d h = rw (e, d, h, items) Flows.begins

  -- a look that serves after so many steps of a burst serves after any of that burst
  pub looked_after : (outset : Outset P S) (n : ℕ) (m : Machine) (t : List Stamped) (k : ℕ) → LeadsTo theory outset n m t k
      → (n' : ℕ) (m' : Machine) (t' : List Stamped) (k' : ℕ) → LeadsTo theory outset n' m' t' k'
      → HasLooked theory.calls InVain m.known outset.port outset.shared → HasLooked theory.calls InVain m'.known outset.port outset.shared
  looked_after outset n m t k to n' m' t' k' to' h =
      (alone_knows theory n' _ _ _ to'.rules ∙ sym (alone_knows theory n _ _ _ to.rules) ∙ h.0, h.1)

  -- a request that is seen after so many steps of a burst is the last of them
  pub seen_after : (outset : Outset P S) (most n : ℕ) → n < most → (m : Machine) (t : List Stamped) (k : ℕ) → LeadsTo theory outset n m t k
      → (g : FiberView P) (u : S) → GoesBy theory (Shows event.Seen) (fiber_at outset.port t m outset.source) outset.shared g u
      → Bursts theory most (n + 1) (fiber_at outset.port outset.trace outset.machine outset.source) outset.shared g u
  seen_after outset most n few m t k to g u saw = record {
    few = omega arith;
    steps = inr (record { before = n; then_sees = add-one n; between = fiber_at outset.port t m outset.source; goes = to.rules; sees = saw });
  }

  -- a step at a queue is one of the same fiber
  pub passing : (f : FiberView P) (s : S) (g : FiberView P) (t : S) → MakesStep theory f s Went g t
      → (theory.facts g.port).number ≡ (theory.facts f.port).number → (theory.facts g.port).beginning ≡ (theory.facts f.port).beginning
      → PassesQueue theory f s g t
  passing f s g t does same begun = record { does = does; number_is = same; beginning_is = begun }

  -- contexts are entered after a step at a queue
  then_enters : (f : FiberView P) (s : S) (g : FiberView P) (t : S) (h : FiberView P) → PassesQueue theory f s g t → IsUnchanged theory.code g h
      → PassesQueue theory f s h t
  then_enters f s g t h once same = record {
    does = went_then theory f s g t h once.does same;
    number_is = rw same.port once.number_is;
    beginning_is = rw same.port once.beginning_is;
  }

  -- after so many steps comes one after which the fiber goes on
  module _ (first : FiberView P) (shared : S) (n : ℕ) (f g : FiberView P) (s t : S) (before : Flows theory first shared n f s)
      (once : PassesQueue theory f s g t) (on : theory.calls.goes_on g.port t) where
    -- and then so many of a burst
    pub round : (k m : ℕ) → m ≡ suc (k + n) → (h : FiberView P) → GoesAlone theory k g t h → Flows theory first shared m h t
    round zero m e h same =
        let last : m ≡ suc n = omega arith in
        rw last (Flows.passes before (then_enters f s g t h once same) (rw same.port on))
    round (suc k) m e h a =
        let last : m ≡ suc (suc (k + n)) = omega arith in
        rw last (Flows.alone (round k _ refl a.0 a.1) a.2)

    -- and a whole burst
    pub round_stops : (most k m : ℕ) → m ≡ suc (k + n) → (h : FiberView P) (u : S) → Bursts theory most k g t h u
        → FlowsAndStops theory first shared m h u
    round_stops most k m e h u burst = elim burst.steps [
      | inl alone ↦ rw alone.1 (FlowsAndStops.goes_on (round k m e h alone.0))
      | inr last ↦
          let sees : k ≡ suc last.before = last.then_sees in
          let all : m ≡ suc (suc (last.before + n)) = omega arith in
          rw all (FlowsAndStops.stops (round last.before _ refl last.between last.goes) last.sees.does)
    ]

    -- and one in which memory is refused
    pub round_short : (most : ℕ) (h : FiberView P) (u : S) (burst : BurstsShort theory most g t h u) (m : ℕ) → m ≡ suc (burst.n + n)
        → Flows theory first shared m h u
    round_short most h u burst m e = rw burst.shared_is (round burst.n m e h burst.goes)

-- a step at a queue, where nothing comes first
module _ {P S : Type 0} (theory : Theory P S) (p p' : P) (sh sh' : S) (old new : Body) (kept : IsKept theory p old.trace.items old.clock old.machine)
    (inside : IsInside theory.code old.machine false)
    (first : ComesAhead theory.calls (is_open_machine old.machine) old.machine.known ahead.Rule p sh) where
  -- it is a step of the fiber
  put_or_got : (m : Made) (raised : ℕ) → IsPutOrGot m → Advances theory old.clock old.machine p sh m raised new.machine p' sh'
      → new.trace.items ≡ old.trace.items ++ stamped_event (one_more raised) (label_of m)
      → MakesStep theory (fiber_at p old.trace.items old.machine old.source) sh Went (fiber_at p' new.trace.items new.machine new.source) sh'
  put_or_got (made.Shows (event.Put q n)) raised is a told =
      makes_on theory p p' p' sh sh' sh' old.trace.items new.trace.items old.clock raised raised old.machine new.machine old.source new.source
      kept.clocked (made.Shows (event.Put q n)) Went refl a a.rule refl refl refl told
  put_or_got (made.Shows (event.Got q n)) raised is a told =
      makes_on theory p p' p' sh sh' sh' old.trace.items new.trace.items old.clock raised raised old.machine new.machine old.source new.source
      kept.clocked (made.Shows (event.Got q n)) Went refl a a.rule refl refl refl told
  put_or_got _ raised is a told = absurd is

  pub passes_once : TellsAlone {P = P} {S = S}
      (λ (m : Made) (k : ℕ). MakesCall theory old.clock old.machine p sh m k new.machine p' sh' × IsPutOrGot m) Went old new
      → MakesStep theory (fiber_at p old.trace.items old.machine old.source) sh Went (fiber_at p' new.trace.items new.machine new.source) sh'
  passes_once t =
      put_or_got t.made t.raised t.does.1
      (passes theory old.machine old.machine p sh (same_here theory.code old.machine kept.sound) inside first old.clock t.made t.raised new.machine
      p' sh' t.does.0)
      t.trace

  pub waits_once : (wait : Source) → TellsAlone {P = P} {S = S} (λ (m : Made) (k : ℕ). MakesCall theory old.clock old.machine p sh m k new.machine p' sh')
      (stepped.Waits wait) old new
      → OnlyWaits theory (fiber_at p old.trace.items old.machine old.source) sh wait (fiber_at p' new.trace.items new.machine new.source) sh'
  waits_once wait t =
      told_steps theory p p' p' sh sh' sh' old.trace.items new.trace.items old.clock t.raised 0 old.machine new.machine old.source new.source
      kept.clocked t.made (stepped.Waits wait) new.machine t.answers refl (alone_is_made t.made t.alone)
      (passes theory old.machine old.machine p sh (same_here theory.code old.machine kept.sound) inside first old.clock t.made t.raised new.machine
      p' sh' t.does)
      (alone_tells theory (one_more t.raised) t.made p' sh' t.alone) t.trace

  -- what is told so keeps the fiber
  keeps : {answer : Stepped P S} → has_ended (progress_of theory.code old.machine) ≡ false
      → TellsAlone {P = P} {S = S} (λ (m : Made) (k : ℕ). MakesCall theory old.clock old.machine p sh m k new.machine p' sh') answer old new
      → IsKept theory p' new.trace.items new.clock new.machine
  keeps going t =
      told_keeps theory p p' p' sh sh' sh' old.trace.items new.trace.items old.clock t.raised new.clock old.machine new.machine kept going
      t.made (alone_is_made t.made t.alone)
      (passes theory old.machine old.machine p sh (same_here theory.code old.machine kept.sound) inside first old.clock t.made t.raised new.machine
      p' sh' t.does)
      (alone_tells theory (one_more t.raised) t.made p' sh' t.alone) t.trace t.clock

  module _ (wait : Source) (Fails : Type 0) (fails : Fails → (new ≡ old) × (p' ≡ p) × (sh' ≡ sh)) where
    -- what a step at a queue came to
    pub passed : (r : AtQueue)
        → TellsQueue theory wait (λ (m : Made) (k : ℕ). MakesCall theory old.clock old.machine p sh m k new.machine p' sh') Fails r old new
        → MeetsQueue theory (fiber_at p old.trace.items old.machine old.source) sh r (fiber_at p' new.trace.items new.machine new.source) sh'
    passed atqueue.Went t = passes_once t.0
    passed atqueue.Waits t = (wait, waits_once wait t)
    passed atqueue.Memory t = let e = fails t in rw (e.0, e.1, e.2) (refl, refl)

    pub passed_kept : (r : AtQueue)
        → TellsQueue theory wait (λ (m : Made) (k : ℕ). MakesCall theory old.clock old.machine p sh m k new.machine p' sh') Fails r old new
        → IsKept theory p' new.trace.items new.clock new.machine
    passed_kept atqueue.Went t =
        keeps (step_is_going (passes_once t.0).step)
        (tells_on Went old old new refl t.0 (λ m k h. h.0))
    passed_kept atqueue.Waits t = keeps (waits_going _ wait (waits_once wait t).waits) t
    passed_kept atqueue.Memory t = let e = fails t in rw (e.0, e.1) kept

    pub has_returned : (r : AtQueue)
        → TellsQueue theory wait (λ (m : Made) (k : ℕ). MakesCall theory old.clock old.machine p sh m k new.machine p' sh') Fails r old new
        → OnWent r (Returned old.machine new.machine)
    has_returned atqueue.Went t = t.1
    has_returned atqueue.Waits t = tt
    has_returned atqueue.Memory t = tt
