-- A step of a fiber of a machine that stands for a whole machine: the machine after it stands for the whole machine after it.
use Rattle.std.proofs.Common.{◌≡◌, ℕ, ◌<◌, true, Option, Some, None, option_map, List, [], ◌∷◌, ◌++◌, length, refl, sym, ◌∙◌, ap, subst, inl, inr}
use Rattle.std.specs.Prelude.{slice_index, slice_index_or}
use Rattle.std.proofs.lemmas.Bool.{cases_eq}
use Rattle.std.proofs.lemmas.Option.{none-some, same_Some}
use Rattle.std.proofs.lemmas.List.{length-map}
use Rattle.std.proofs.Math.ListN.{get_or-map}
use Rattle.fx_term.specs.declared.node.Node.{Node}
use Rattle.fx_term.specs.declared.begin.Begin.{Begin}
use Rattle.fx_term.specs.declared.event.Event.{Event}
use Rattle.fx_term.specs.Queue.{values_put}
use Rattle.fx_term.specs.Script.{ScriptView, total}
use Rattle.fx_model.specs.Row.{Counts, Label, Starts}
use Rattle.fx_model.specs.Origin.{Origin, origin_of}
use Rattle.fx_model.specs.Step.{Progress, leaf_at, looks_first, Step}
use Rattle.fx_model.specs.Run.{events}
use Rattle.fx_fiber.specs.Fiber.{FiberView, clock, progress}
use Rattle.fx_fiber.specs.StampedRun.{next_stamp, last_of, stamp_of_event}
use Rattle.fx_fiber.specs.declared.stepped.Stepped.{Stepped}
use Rattle.fx_fiber.specs.MakesStep.{Calls, MakesStep}
use Rattle.fx_model.proofs.Runs.{events_append}
use Rattle.fx_model.proofs.StepLabels.{step_tells}
use Rattle.fx_plain.specs.Started.{StartedView}
use Rattle.fx_plain.specs.declared.plain_machine.PlainMachine.{PlainMachine}
use Rattle.fx_plain.specs.WholeMachine.{StartedFiber, WholeMachine, Move, Steps, fibers_after, opening, stepped, moved, FiberSteps, WholeMachineLeads}
use Rattle.fx_plain.specs.Chosen.{ChosenStep}
use Rattle.fx_plain.specs.declared.class.Class.{Class}
use Rattle.fx_plain.specs.declared.class.Class.TheVariants.{Able}
use Rattle.fx_plain.specs.Classes.{awaited}
use Rattle.fx_plain.specs.ClassSets.{class_at, is_able}
use Rattle.fx_plain.specs.MachineStamps.{stamp_of, stamps_after}
use Rattle.fx_plain.specs.World.{WorldView, HeldFiber, held_of, StandsFor, HasStamps, world_after}
use Rattle.fx_plain.specs.PlainCalls.{PortView, plain_theory}
use Rattle.fx_plain.specs.PlainMachine.{held, all_held, IsNumbered, HasStampsAt, StandsForRun, Tries, steps}
use Rattle.fx_term.proofs.MapLaws.{at_that, at_other}
use Rattle.fx_plain.proofs.LawfulRuns.{IsKept, run_keeps}
use Rattle.fx_plain.proofs.RunLaws.{start_finds}
use Rattle.fx_plain.proofs.WorldClasses as classes
use Rattle.fx_plain.proofs.WorldStamps.{cause_is, stamps_kept, began_of_other}
use Rattle.fx_plain.proofs.WorldSteps.{world_is, counts_after, steps_so, chosen_so, stands_so}

-- one more step at the end of a run
pub leads_one_more : (s : ScriptView) (m : WholeMachine) (vs : List Move) (last : WholeMachine) (f : ℕ) (l : Label) (m' : WholeMachine)
    → WholeMachineLeads s m vs last → FiberSteps s last f l m' → WholeMachineLeads s m (vs ++ Steps f l ∷ []) m'
leads_one_more s m [] last f l m' r st = (m', rw r at st, refl)
leads_one_more s m (v ∷ vs) last f l m' r st = (r.0, r.1, leads_one_more s r.0 vs last f l m' r.2 st)

able_class : (k : Class) → is_able k ≡ true → k ≡ Able
able_class Able e = refl
able_class _ e = absurd cc

abbrev pub made_of : Option ℕ → Origin → List Event → Counts → Progress → HeldFiber
made_of parent b trace c p = record { parent = parent; origin = b; trace = trace; counts = c; progress = p }

pub same_made : {parent parent' : Option ℕ} {b b' : Origin} {trace trace' : List Event} {c c' : Counts} {p p' : Progress} → parent ≡ parent' → b ≡ b'
    → trace ≡ trace' → c ≡ c' → p ≡ p' → made_of parent b trace c p ≡ made_of parent' b' trace' c' p'
same_made e f g h i = rw (e, f, g, h, i) refl

same_next : {b b' c c' : ℕ} {ss ss' : List ℕ} → b ≡ b' → ss ≡ ss' → c ≡ c' → next_stamp (last_of b ss) c ≡ next_stamp (last_of b' ss') c'
same_next e g h = rw (e, g, h) refl

module _ {J : Type 0} (nodes : List Node) where
  -- the fiber of that number
  abbrev pub at_number : PlainMachine J → ℕ → Option (StartedView J)
  at_number p f = slice_index_or p.fibers.items f None

  abbrev pub held_option : Option (StartedView J) → Option HeldFiber
  held_option = option_map (held nodes)

  pub held_at : (p : PlainMachine J) (f : ℕ) → slice_index_or (all_held nodes p) f None ≡ held_option (at_number p f)
  held_at p f = get_or-map held_option p.fibers.items f None

  -- the fiber of the whole machine that a fiber of the machine is
  pub record IsFiber (m : WholeMachine) (f : ℕ) (x : StartedView J) : Type 0 where
    pub fiber : StartedFiber
    pub at : m.fibers f ≡ Some fiber
    pub is : held nodes x ≡ held_of fiber

  is_fiber_of : (x : StartedView J) (z : Option StartedFiber) → Some (held nodes x) ≡ option_map held_of z → (m : WholeMachine) (f : ℕ) → m.fibers f ≡ z
      → IsFiber m f x
  is_fiber_of x None e m f at = absurd (none-some (held nodes x) (sym e))
  is_fiber_of x (Some y) e m f at = record { fiber = y; at = at; is = same_Some (held nodes x) (held_of y) e }

  pub is_fiber : (s : ScriptView) (p : PlainMachine J) (m : WholeMachine) → StandsForRun nodes s p m → (f : ℕ) (x : StartedView J)
      → at_number p f ≡ Some x → IsFiber m f x
  is_fiber s p m so f x here = is_fiber_of x (m.fibers f) (sym (ap held_option here) ∙ sym (held_at p f) ∙ so.stands.fibers f) m f refl

  module _ (s : ScriptView) (p : PlainMachine J) (m : WholeMachine) (so : StandsForRun nodes s p m) (f : ℕ) (x : StartedView J)
      (here : at_number p f ≡ Some x) (is : IsFiber m f x) where
    kept : IsKept s m
    kept = run_keeps s so.moves m so.run

    pub below_total : f < total s
    below_total = kept.ranges.started_below f is.fiber is.at

    pub own_number : x.fiber.port.number ≡ f
    own_number = (rw here at (so.numbered f)).0

    -- its port counts what it puts into each queue
    pub puts_counted_so : (q : ℕ) → slice_index x.fiber.port.put_counts q ≡ length (values_put q (events is.fiber.labels))
    puts_counted_so q =
        (rw here at (so.numbered f)).1 q ∙ ap (λ (es : List Event). length (values_put q es)) (ap (λ (h : HeldFiber). h.trace) is.is)

    module _ (w' : WorldView) (answer : Stepped PortView WorldView) (new : FiberView PortView)
        (made : MakesStep (plain_theory nodes) x.fiber p.world answer new w') where
      abbrev y : StartedFiber
      y = is.fiber

      abbrev l : Label
      l = made.label

      -- the whole machine after it
      abbrev pub after : WholeMachine
      after = moved m f is.fiber made.label new.counts (progress nodes new)

      counts_are : x.fiber.counts ≡ y.counts
      counts_are = ap (λ (h : HeldFiber). h.counts) is.is

      progress_is : progress nodes x.fiber ≡ y.progress
      progress_is = ap (λ (h : HeldFiber). h.progress) is.is

      st : Step y.counts y.progress l new.counts (progress nodes new)
      st = rw (counts_are, progress_is) at made.step

      -- the stamp of its event
      abbrev pub own : ℕ
      own = next_stamp (clock (plain_theory nodes) x.fiber) made.cause

      calls : Calls (plain_theory nodes) own made.cause (looks_first y.counts.known y.progress) (leaf_at y.progress) l answer x.fiber.port p.world new.port
          w'
      calls = rw (counts_are, progress_is) at made.calls_are

      step_made : FiberSteps s m f l after
      step_made = steps_so s p.world (all_held nodes p) m so.stands kept nodes f y l new.counts (progress nodes new) is.at st own made.cause answer
          x.fiber.port new.port w' own_number puts_counted_so calls

      chosen : ChosenStep s m f l after
      chosen = chosen_so s p.world (all_held nodes p) m so.stands kept nodes f y l new.counts (progress nodes new) is.at st own made.cause answer
          x.fiber.port new.port w' own_number puts_counted_so calls

      -- which is that of the whole machine
      pub own_is : own ≡ stamp_of m.stamps f l
      own_is =
          let has = rw here at (so.stamped f) in
          same_next has.0 has.1 (cause_is s p.world m so.stamps f below_total nodes (leaf_at y.progress) x.fiber.port own_number own made.cause l answer
          new.port w' (step_tells st).proper made.none calls.told)

      pub child_is_free : (g : ℕ) (b : Origin) → l ≡ Starts g b → (m.fibers g ≡ None) × (g < total s)
      child_is_free g b starts =
          let found = start_finds s so.moves m f g b after so.run (subst (λ (k : Label). FiberSteps s m f k after) starts step_made) in
          (found.free, found.below)

      module _ (p' : PlainMachine J) (x' : StartedView J) (world : p'.world ≡ w') (parent : x'.parent ≡ x.parent) (fiber : x'.fiber ≡ new)
          (number : new.port.number ≡ x.fiber.port.number) (beginning : new.port.beginning ≡ x.fiber.port.beginning)
          (long : length p'.fibers.items ≡ length p.fibers.items) (there : at_number p' f ≡ Some x')
          (others : (h : ℕ) → (h ≡ f → ⊥) → held_option (at_number p' h) ≡ option_map held_of (fibers_after f l m.fibers h))
          (numbered : (h : ℕ) → (h ≡ f → ⊥) → IsNumbered nodes h (at_number p' h))
          (stamped : (h : ℕ) → (h ≡ f → ⊥) → HasStampsAt nodes (stamps_after m.stamps f l) h (at_number p' h)) where
        trace_is : x'.fiber.trace ≡ events (y.labels ++ l ∷ [])
        trace_is =
            ap (λ (v : FiberView PortView). v.trace) fiber ∙ made.trace
            ∙ ap (λ (es : List Event). es ++ events (l ∷ [])) (ap (λ (h : HeldFiber). h.trace) is.is) ∙ sym (events_append y.labels (l ∷ []))

        new_is : held nodes x' ≡ held_of (stepped y l new.counts (progress nodes new))
        new_is =
            let parents : x.parent ≡ y.parent = ap (λ (h : HeldFiber). h.parent) is.is in
            let origins : origin_of nodes x.fiber.port.beginning ≡ y.origin = ap (λ (h : HeldFiber). h.origin) is.is in
            same_made (parent ∙ parents) (ap (λ (v : FiberView PortView). origin_of nodes v.port.beginning) fiber ∙ ap (origin_of nodes) beginning ∙ origins)
            trace_is (ap (λ (v : FiberView PortView). v.counts) fiber) (ap (progress nodes) fiber)

        all_are : (h : ℕ) → slice_index_or (all_held nodes p') h None ≡ option_map held_of (after.fibers h)
        all_are h = held_at p' h ∙ elim (cases_eq h f) [
          | inl same ↦
              ap (λ (k : ℕ). held_option (at_number p' k)) same ∙ ap held_option there ∙ ap Some new_is
              ∙ sym (ap (option_map held_of) (at_that f (Some (stepped y l new.counts (progress nodes new))) (fibers_after f l m.fibers) h same))
          | inr apart ↦
              others h apart
              ∙ sym (ap (option_map held_of) (at_other f (Some (stepped y l new.counts (progress nodes new))) (fibers_after f l m.fibers) h apart))
        ]

        own_numbered : IsNumbered nodes f (Some x')
        own_numbered = (
          ap (λ (v : FiberView PortView). v.port.number) fiber ∙ number ∙ own_number,
          λ q. ap (λ (v : FiberView PortView). slice_index v.port.put_counts q) fiber
              ∙ counts_after nodes own made.cause (leaf_at y.progress) f y.labels x.fiber.port own_number puts_counted_so l answer new.port p.world w'
              (step_tells st).proper calls.told q
              ∙ sym (ap (λ (es : List Event). length (values_put q es)) trace_is),
        )

        all_numbered : (h : ℕ) → IsNumbered nodes h (at_number p' h)
        all_numbered h = elim (cases_eq h f) [
          | inl same ↦ subst (λ (k : ℕ). IsNumbered nodes k (at_number p' k)) (sym same) (rw there own_numbered)
          | inr apart ↦ numbered h apart
        ]

        -- no fiber starts itself
        not_itself : (g : ℕ) (b : Origin) → l ≡ Starts g b → f ≡ g → ⊥
        not_itself g b starts same = none-some y (sym (child_is_free g b starts).0 ∙ ap m.fibers (sym same) ∙ is.at)

        own_stamped : HasStampsAt nodes (stamps_after m.stamps f l) f (Some x')
        own_stamped =
            let has = rw here at (so.stamped f) in (
              ap (λ (v : FiberView PortView). v.port.beginning.stamp) fiber ∙ ap (λ (b : Begin). b.stamp) beginning ∙ has.0
                  ∙ sym (began_of_other m.stamps f f l not_itself),
              ap (λ (v : FiberView PortView). v.stamps) fiber ∙ made.stamps ∙ ap (λ (ss : List ℕ). ss ++ stamp_of_event own l) has.1
                  ∙ ap (λ (t : ℕ). m.stamps.trace f ++ stamp_of_event t l) own_is
                  ∙ sym (at_that f (m.stamps.trace f ++ stamp_of_event (stamp_of m.stamps f l) l) m.stamps.trace f refl),
            )

        all_stamped : (h : ℕ) → HasStampsAt nodes (stamps_after m.stamps f l) h (at_number p' h)
        all_stamped h = elim (cases_eq h f) [
          | inl same ↦ subst (λ (k : ℕ). HasStampsAt nodes (stamps_after m.stamps f l) k (at_number p' k)) (sym same) (rw there own_stamped)
          | inr apart ↦ stamped h apart
        ]

        stands : StandsFor s p'.world (all_held nodes p') after
        stands =
            let t = stands_so s p.world (all_held nodes p) m so.stands kept nodes f y l new.counts (progress nodes new) is.at st own made.cause
            answer x.fiber.port new.port w' own_number puts_counted_so calls in
            let long_before : length p.fibers.items ≡ total s = sym (length-map p.fibers.items held_option) ∙ so.stands.held_long in
            rw world (record {
              held_long = length-map p'.fibers.items held_option ∙ long ∙ long_before;
              requested_long = t.requested_long;
              outside_long = t.outside_long;
              outcomes_long = t.outcomes_long;
              fibers = all_are;
              requested = t.requested;
              from_outside = t.from_outside;
              outcomes = t.outcomes;
              capacities = t.capacities;
              queues = t.queues;
            })

        left_world : p'.world ≡ world_after f y.labels own l p.world
        left_world = world ∙ world_is nodes own made.cause (leaf_at y.progress) f y.labels x.fiber.port own_number puts_counted_so l answer new.port p.world w'
            calls.told

        stamps : HasStamps s p'.world (stamps_after m.stamps f l)
        stamps = rw left_world (stamps_kept s p.world m so.stamps f below_total (all_held nodes p) so.stands y.labels own l step_made.answered own_is)

        -- it stands for that
        stands_after : is_able (class_at p.world.classes f) ≡ true → StandsForRun nodes s p' after
        stands_after able = record {
          moves = so.moves ++ Steps f l ∷ [];
          run = leads_one_more s (opening s) so.moves m f l after so.run step_made;
          stands = stands;
          tells = rw left_world
              (classes.step_tells s p.world m so.tells f y new.counts (progress nodes new) own (able_class (class_at p.world.classes f) able) below_total
              so.stands.outcomes_long l
              (λ g b starts. (child_is_free g b starts).1) st);
          numbered = all_numbered;
          stamps = stamps;
          stamped = all_stamped;
        }

        -- and nothing is noted that it waits for
        no_note : is_able (class_at p.world.classes f) ≡ true → awaited (class_at p'.world.classes f) ≡ None
        no_note able =
            rw left_world
            (classes.step_leaves_no_note s p.world m so.tells f y new.counts (progress nodes new) own (able_class (class_at p.world.classes f) able) below_total
            so.stands.outcomes_long l)

        -- so the step leads on
        pub step_leads : is_able (class_at p.world.classes f) ≡ true
            → (m' : WholeMachine) × ChosenStep s m f l m' × StandsForRun nodes s p' m' × (awaited (class_at p'.world.classes f) ≡ None)
        step_leads able = (after, chosen, stands_after able, no_note able)

        pub step_is_tried : is_able (class_at p.world.classes f) ≡ true → Tries nodes s m f p p'
        step_is_tried able = steps chosen (stands_after able) (no_note able)
