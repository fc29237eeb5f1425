-- What a machine comes to that lets a fiber make a step: it makes the step or waits where it stands, and a child is laid down at its own place.
use Rattle.std.proofs.Common.{◌≡◌, ◌⊎◌, ℕ, ◌+◌, ◌<◌, Bool, true, false, Option, Some, None, option_map, List, [], length, refl, sym, ◌∙◌, ap, subst}
use Rattle.std.proofs.Common.{inl, inr, arith}
use Rattle.std.proofs.Common.{get_or-set_same, get_or-set_other, length-set}
use Rattle.std.specs.Prelude.{if◌then◌else◌, slice_index, slice_index_or, slice_set}
use Rattle.std.proofs.lemmas.Bool.{cases_eq}
use Rattle.std.proofs.lemmas.Option.{none-some}
use Rattle.std.proofs.lemmas.List.{length-map}
use Rattle.std.proofs.lemmas.List.Sums.{sum_by-set}
use Rattle.fx_term.specs.declared.node.Node.{Node}
use Rattle.fx_term.specs.declared.event.Event.TheVariants as event
use Rattle.fx_term.specs.Term.{Term}
use Rattle.fx_term.specs.declared.event.Event.{Event}
use Rattle.fx_term.specs.Queue.{values_put}
use Rattle.fx_term.specs.Script.{ScriptView, total}
use Rattle.fx_model.specs.Row.{Label, Silent, Shows, Learns, Starts}
use Rattle.fx_model.specs.Origin.{Origin, origin_of}
use Rattle.fx_model.specs.Step.{leaf_at}
use Rattle.fx_fiber.specs.Fiber.{FiberView, clock, progress, IsUnchanged, IsAtFirst}
use Rattle.fx_fiber.specs.StampedRun.{next_stamp}
use Rattle.fx_model.specs.declared.source.Source.{Source}
use Rattle.fx_fiber.specs.declared.stepped.Stepped.{Stepped}
use Rattle.fx_fiber.specs.declared.stepped.Stepped.TheVariants.{Went, Child, Waits, Gave, Ended}
use Rattle.fx_fiber.specs.MakesStep.{is_yielding, value_offered, AnswersSilently, Answers, StartsChild, Tells, MakesStep, OnlyWaits, DoesStep}
use Rattle.fx_plain.specs.declared.class.Class.TheVariants as class
use Rattle.fx_plain.specs.Started.{StartedView}
use Rattle.fx_plain.specs.declared.plain_machine.PlainMachine.{PlainMachine}
use Rattle.fx_term.specs.Maps.{with_at}
use Rattle.fx_plain.specs.WholeMachine.{StartedFiber, WholeMachine, begun, fibers_after}
use Rattle.fx_plain.specs.Chosen.{ChosenStep}
use Rattle.fx_plain.specs.MachineStamps.{stamp_of, stamps_after}
use Rattle.fx_plain.specs.PlainQueue.{have_room, have_element}
use Rattle.fx_plain.specs.Classes.{awaited, is_ready}
use Rattle.fx_plain.specs.ClassSets.{class_at, is_able}
use Rattle.fx_plain.specs.World.{WorldView, is_ready_in, HeldFiber, held_of, StandsFor}
use Rattle.fx_plain.specs.WorldClasses.{TellsWhoSteps}
use Rattle.fx_plain.specs.PlainCalls.{PortView, plain_theory}
use Rattle.fx_plain.specs.PlainMachine.{held, all_held, IsNumbered, HasStampsAt, able_count, StandsForRun, Tries, steps, waits}
use Rattle.fx_term.proofs.MapLaws.{at_that, at_other}
use Rattle.fx_plain.proofs.Maps.{at_itself}
use Rattle.fx_plain.proofs.WorldClasses.{unready_cannot}
use Rattle.fx_plain.proofs.ClassSets.{class_at_set}
use Rattle.fx_plain.proofs.WaitSteps.{refused_unready, noted_wait_tells}
use Rattle.fx_plain.proofs.WorldStamps.{stamps_beside, began_of_other, trace_of_other}
use Rattle.fx_plain.proofs.PlainMachineSteps.{at_number, held_option, held_at, same_made, IsFiber, is_fiber, below_total, own_number, child_is_free}
use Rattle.fx_plain.proofs.PlainMachineSteps.{own, own_is, step_leads, step_is_tried}

-- what a step does, by another name of the world before it and of its answer
pub does_as : (nodes : List Node) (old new : FiberView PortView) (w world w' : WorldView) (answer named : Stepped PortView WorldView) → w ≡ world
    → answer ≡ named → DoesStep (plain_theory nodes) old w answer new w'
    → DoesStep (plain_theory nodes) old world named new w'
does_as nodes old new w world w' answer named same is h =
    subst (λ (v : WorldView). DoesStep (plain_theory nodes) old v named new w') same
    (subst (λ (a : Stepped PortView WorldView). DoesStep (plain_theory nodes) old w a new w') is h)

-- a label starts one fiber
same_start : {g h : ℕ} {b d : Origin} → Starts g b ≡ Starts h d → g ≡ h
same_start e = cc

plus_nothing : (n : ℕ) → n + 0 ≡ n
plus_nothing n = omega arith

one_less : (n k : ℕ) → n + 1 ≡ k → n < k
one_less n k e = omega arith

-- the step started a fiber
abbrev is_child : Stepped PortView WorldView → Bool
is_child (Child c) = true
is_child _ = false

-- a step that answers none of the others makes a rule, and starts none
module _ (nodes : List Node) (old new : FiberView PortView) (w w' : WorldView) where
  abbrev pub IsQuiet : Stepped PortView WorldView → Type 0
  IsQuiet answer = (answer ≡ Went) ⊎ (answer ≡ Gave) ⊎ (answer ≡ Ended)

  quiet_is : (answer : Stepped PortView WorldView) → IsQuiet answer → DoesStep (plain_theory nodes) old w answer new w'
      → MakesStep (plain_theory nodes) old w answer new w' × (is_child answer ≡ false)
  quiet_is Went e d = (d, refl)
  quiet_is Gave e d = (d, refl)
  quiet_is Ended e d = (d, refl)
  quiet_is (Waits wait) e d = absurd (elim e [ inl h ↦ cc | inr r ↦ elim r [ inl h ↦ cc | inr h ↦ cc ] ])
  quiet_is (Child c) e d = absurd (elim e [ inl h ↦ cc | inr r ↦ elim r [ inl h ↦ cc | inr h ↦ cc ] ])

module _ (nodes : List Node) (leaf : Option Term) (f : ℕ) (fibers : ℕ → Option StartedFiber) where
  -- a step that starts none leaves the others
  none_started : (l : Label) (answer : Stepped PortView WorldView) → is_child answer ≡ false → Answers nodes leaf l answer
      → fibers_after f l fibers ≡ fibers
  none_started (Starts g b) (Child c) e h = absurd cc
  none_started (Starts g b) Went e h = absurd h
  none_started (Starts g b) (Waits wait) e h = absurd h
  none_started (Starts g b) Gave e h = absurd h
  none_started (Starts g b) Ended e h = absurd h
  none_started Silent answer e h = refl
  none_started (Shows v) answer e h = refl
  none_started (Learns g o v) answer e h = refl

  starts_none : (l : Label) (answer : Stepped PortView WorldView) → is_child answer ≡ false → Answers nodes leaf l answer → (g : ℕ) (b : Origin)
      → l ≡ Starts g b → ⊥
  starts_none (Starts g b) (Child c) e h k d is = cc
  starts_none (Starts g b) Went e h k d is = h
  starts_none (Starts g b) (Waits wait) e h k d is = h
  starts_none (Starts g b) Gave e h k d is = h
  starts_none (Starts g b) Ended e h k d is = h
  starts_none Silent answer e h k d is = cc
  starts_none (Shows v) answer e h k d is = cc
  starts_none (Learns g o v) answer e h k d is = cc

  -- what a step starts is told by its label
  record IsStart (l : Label) : Type 0 where
    pub number : ℕ
    pub origin : Origin
    pub is : l ≡ Starts number origin

  silent_is_none : (b : Bool) (c : FiberView PortView) → AnswersSilently {S = WorldView} b (Child c) → ⊥
  silent_is_none true c e = cc
  silent_is_none false c e = cc

  start_told : (l : Label) (c : FiberView PortView) → Answers {S = WorldView} nodes leaf l (Child c) → IsStart l
  start_told (Starts g b) c h = record { number = g; origin = b; is = refl }
  start_told Silent c h = absurd (silent_is_none (is_yielding leaf) c h)
  start_told (Shows (event.Ended o)) c h = absurd cc
  start_told (Shows _) c h = absurd cc
  start_told (Learns g o v) c h = absurd cc

module _ {J : Type 0} (nodes : List Node) (s : ScriptView) (p : PlainMachine J) (m : WholeMachine) (so : StandsForRun nodes s p m) (f : ℕ) (x : StartedView J)
    (here : at_number nodes p f ≡ Some x) where
  is : IsFiber nodes m f x
  is = is_fiber nodes s p m so f x here

  below : f < total s
  below = below_total nodes s p m so f x here is

  long_is : length p.fibers.items ≡ total s
  long_is = sym (length-map p.fibers.items (held_option nodes)) ∙ so.stands.held_long

  others_held : (h : ℕ) → held_option nodes (at_number nodes p h) ≡ option_map held_of (m.fibers h)
  others_held h = sym (held_at nodes p h) ∙ so.stands.fibers h

  -- the stamps of a fiber that neither makes the step nor is started by it
  other_stamped : (l : Label) (h : ℕ) → (h ≡ f → ⊥) → ((g : ℕ) (b : Origin) → l ≡ Starts g b → h ≡ g → ⊥) → (z : Option (StartedView J))
      → HasStampsAt nodes m.stamps h z → HasStampsAt nodes (stamps_after m.stamps f l) h z
  other_stamped l h apart ne None has = trace_of_other m.stamps f h l apart ∙ has
  other_stamped l h apart ne (Some z) has =
      (has.0 ∙ sym (began_of_other m.stamps f h l ne), has.1 ∙ sym (trace_of_other m.stamps f h l apart))

  -- one that has not started has none
  unstarted_stamps : (g : ℕ) → m.fibers g ≡ None → m.stamps.trace g ≡ []
  unstarted_stamps g free = by_place (at_number nodes p g) (others_held g ∙ ap (option_map held_of) free) (so.stamped g)
    where
      by_place : (z : Option (StartedView J)) → held_option nodes z ≡ None → HasStampsAt nodes m.stamps g z → m.stamps.trace g ≡ []
      by_place None e has = has
      by_place (Some z) e has = absurd (none-some (held nodes z) (sym e))

  -- what a step tells of the child that it starts
  pub record IsBeginning (l : Label) (c : FiberView PortView) : Type 0 where
    pub number : ℕ
    pub origin : Origin
    pub is : l ≡ Starts number origin
    pub number_is : c.port.number ≡ number
    pub counts_none : c.port.put_counts ≡ []
    pub begins : origin_of nodes c.port.beginning ≡ origin
    pub first : IsAtFirst nodes origin c
    pub free : m.fibers number ≡ None
    pub below : number < total s
    pub stamped : c.port.beginning.stamp ≡ stamp_of m.stamps f l

  module _ (w' : WorldView) (new c : FiberView PortView) (made : MakesStep (plain_theory nodes) x.fiber p.world (Child c) new w') where
    pub is_beginning : IsBeginning made.label c
    is_beginning =
        let start = start_told nodes (leaf_at (progress nodes x.fiber)) f m.fibers made.label c made.answers in
        let stamp = own nodes s p m so f x here is w' (Child c) new made in
        let told : StartsChild (plain_theory nodes) stamp start.number start.origin c.port x.fiber.port p.world new.port w' =
        subst (λ (l : Label). Tells (plain_theory nodes) stamp made.cause (leaf_at (progress nodes x.fiber)) l (Child c) x.fiber.port p.world new.port w')
        start.is made.calls_are.told in
        let free = child_is_free nodes s p m so f x here is w' (Child c) new made start.number start.origin start.is in
        record {
          number = start.number;
          origin = start.origin;
          is = start.is;
          number_is = ap (λ (q : PortView). q.number) told.told.0;
          counts_none = ap (λ (q : PortView). q.put_counts) told.told.0;
          begins = ap (λ (q : PortView). origin_of nodes q.beginning) told.told.0 ∙ told.begins;
          first = subst (λ (l : Label). Answers {S = WorldView} nodes (leaf_at (progress nodes x.fiber)) l (Child c)) start.is made.answers;
          free = free.0;
          below = free.1;
          stamped =
              ap (λ (q : PortView). q.beginning.stamp) told.told.0 ∙ told.stamped ∙ own_is nodes s p m so f x here is w' (Child c) new made;
        }

    pub child_below : c.port.number < length p.fibers.items
    child_below =
        let start = is_beginning in
        let e = start.number_is in let n = long_is in let lt = start.below in
        omega arith

  -- the machine after it; the places of all fibers once this one has made its step
  module _ (p' : PlainMachine J) (x' : StartedView J) (middle : List (Option (StartedView J))) (stepped : middle ≡ slice_set p.fibers.items f (Some x')) where
    middle_long : length middle ≡ length p.fibers.items
    middle_long = ap length stepped ∙ length-set p.fibers.items f (Some x')

    middle_there : slice_index_or middle f None ≡ Some x'
    middle_there =
        ap (λ (xs : List (Option (StartedView J))). slice_index_or xs f None) stepped
        ∙ get_or-set_same p.fibers.items f (Some x') None (let e = long_is in let lt = below in omega arith)

    middle_others : (h : ℕ) → (h ≡ f → ⊥) → slice_index_or middle h None ≡ at_number nodes p h
    middle_others h apart =
        ap (λ (xs : List (Option (StartedView J))). slice_index_or xs h None) stepped ∙ get_or-set_other p.fibers.items f h (Some x') None apart

    -- where no fiber was laid down since
    module _ (same : p'.fibers.items ≡ middle) where
      same_long : length p'.fibers.items ≡ length p.fibers.items
      same_long = ap length same ∙ middle_long

      same_there : at_number nodes p' f ≡ Some x'
      same_there = ap (λ (xs : List (Option (StartedView J))). slice_index_or xs f None) same ∙ middle_there

      same_others : (h : ℕ) → (h ≡ f → ⊥) → at_number nodes p' h ≡ at_number nodes p h
      same_others h apart = ap (λ (xs : List (Option (StartedView J))). slice_index_or xs h None) same ∙ middle_others h apart

    module _ (w' : WorldView) (new : FiberView PortView) (parent : x'.parent ≡ x.parent) (fiber : x'.fiber ≡ new)
        (number : new.port.number ≡ x.fiber.port.number) (beginning : new.port.beginning ≡ x.fiber.port.beginning) where
      -- after a step that starts none
      pub step_leads_on : (answer : Stepped PortView WorldView) → IsQuiet nodes x.fiber new p.world w' answer
          → DoesStep (plain_theory nodes) x.fiber p.world answer new w' → p'.fibers.items ≡ middle → p'.world ≡ w'
          → is_able (class_at p.world.classes f) ≡ true
          → (l : Label) × (m' : WholeMachine) × ChosenStep s m f l m' × StandsForRun nodes s p' m' × (awaited (class_at p'.world.classes f) ≡ None)
      step_leads_on answer quiet does same world able =
          let made = (quiet_is nodes x.fiber new p.world w' answer quiet does).0 in
          let none = (quiet_is nodes x.fiber new p.world w' answer quiet does).1 in
          let unstarted = none_started nodes (leaf_at (progress nodes x.fiber)) f m.fibers made.label answer none made.answers in
          let on = step_leads nodes s p m so f x here is w' answer new made p' x' world parent fiber number beginning (same_long same) (same_there same)
          (λ h apart. ap (held_option nodes) (same_others same h apart) ∙ others_held h
          ∙ sym (ap (λ (fibers : ℕ → Option StartedFiber). option_map held_of (fibers h)) unstarted))
          (λ h apart. subst (IsNumbered nodes h) (sym (same_others same h apart)) (so.numbered h))
          (λ h apart. subst (HasStampsAt nodes (stamps_after m.stamps f made.label) h) (sym (same_others same h apart))
          (other_stamped made.label h apart (λ g b starts e. starts_none nodes (leaf_at (progress nodes x.fiber)) f m.fibers made.label answer none made.answers
          g b starts) (at_number nodes p h) (so.stamped h))) able in
          (made.label, on.0, on.1, on.2, on.3)

      pub tries_step : (answer : Stepped PortView WorldView) → IsQuiet nodes x.fiber new p.world w' answer
          → DoesStep (plain_theory nodes) x.fiber p.world answer new w' → p'.fibers.items ≡ middle → p'.world ≡ w'
          → is_able (class_at p.world.classes f) ≡ true
          → Tries nodes s m f p p'
      tries_step answer quiet does same world able =
          let on = step_leads_on answer quiet does same world able in
          steps on.2 on.3 on.4

      -- after a step that starts a child, which was laid down at its number
      module _ (c : FiberView PortView) (made : MakesStep (plain_theory nodes) x.fiber p.world (Child c) new w') where
        abbrev start : IsBeginning made.label c
        start = is_beginning w' new c made

        abbrev g : ℕ
        g = start.number

        abbrev b : Origin
        b = start.origin

        module _ (child : StartedView J) (its_parent : child.parent ≡ Some f) (its_fiber : child.fiber ≡ c)
            (in_place : p'.fibers.items ≡ slice_set middle c.port.number (Some child)) where
          child_is : held nodes child ≡ held_of (begun (Some f) b)
          child_is =
              same_made its_parent (ap (λ (v : FiberView PortView). origin_of nodes v.port.beginning) its_fiber ∙ start.begins)
              (ap (λ (v : FiberView PortView). v.trace) its_fiber ∙ start.first.trace)
              (ap (λ (v : FiberView PortView). v.counts) its_fiber ∙ start.first.counts)
              (ap (progress nodes) its_fiber ∙ start.first.progress_is)

          -- it has put nothing
          child_counts : (q : ℕ) → slice_index child.fiber.port.put_counts q ≡ length (values_put q child.fiber.trace)
          child_counts q =
              ap (λ (v : FiberView PortView). slice_index v.port.put_counts q) its_fiber ∙ ap (λ (ns : List ℕ). slice_index ns q) start.counts_none
              ∙ sym (ap (λ (es : List Event). length (values_put q es)) (ap (λ (v : FiberView PortView). v.trace) its_fiber ∙ start.first.trace))

          child_numbered : IsNumbered nodes g (Some child)
          child_numbered = (
            ap (λ (v : FiberView PortView). v.port.number) its_fiber ∙ start.number_is,
            child_counts,
          )

          in_place_long : length p'.fibers.items ≡ length p.fibers.items
          in_place_long = ap length in_place ∙ length-set middle c.port.number (Some child) ∙ middle_long

          -- it is another fiber
          is_another : f ≡ c.port.number → ⊥
          is_another same =
              none-some is.fiber (sym start.free ∙ ap m.fibers (sym (same ∙ start.number_is)) ∙ is.at)

          fiber_there : at_number nodes p' f ≡ Some x'
          fiber_there =
              ap (λ (xs : List (Option (StartedView J))). slice_index_or xs f None) in_place
              ∙ get_or-set_other middle c.port.number f (Some child) None is_another ∙ middle_there

          child_there : (h : ℕ) → h ≡ g → at_number nodes p' h ≡ Some child
          child_there h same =
              ap (λ (xs : List (Option (StartedView J))). slice_index_or xs h None) in_place
              ∙ ap (λ (k : ℕ). slice_index_or (slice_set middle c.port.number (Some child)) k None) (same ∙ sym start.number_is)
              ∙ get_or-set_same middle c.port.number (Some child) None (let lt = child_below w' new c made in let n = middle_long in omega arith)

          rest_there : (h : ℕ) → (h ≡ f → ⊥) → (h ≡ g → ⊥) → at_number nodes p' h ≡ at_number nodes p h
          rest_there h apart ne =
              ap (λ (xs : List (Option (StartedView J))). slice_index_or xs h None) in_place
              ∙ get_or-set_other middle c.port.number h (Some child) None (λ e. ne (e ∙ start.number_is)) ∙ middle_others h apart

          fibers_are : (h : ℕ) → option_map held_of (fibers_after f made.label m.fibers h) ≡ option_map held_of (with_at g (Some (begun (Some f) b)) m.fibers h)
          fibers_are h = ap (λ (l : Label). option_map held_of (fibers_after f l m.fibers h)) start.is

          others : (h : ℕ) → (h ≡ f → ⊥) → held_option nodes (at_number nodes p' h) ≡ option_map held_of (fibers_after f made.label m.fibers h)
          others h apart = elim (cases_eq h g) [
            | inl same ↦
                ap (held_option nodes) (child_there h same) ∙ ap Some child_is
                ∙ sym (fibers_are h ∙ ap (option_map held_of) (at_that g (Some (begun (Some f) b)) m.fibers h same))
            | inr ne ↦
                ap (held_option nodes) (rest_there h apart ne) ∙ others_held h
                ∙ sym (fibers_are h ∙ ap (option_map held_of) (at_other g (Some (begun (Some f) b)) m.fibers h ne))
          ]

          others_numbered : (h : ℕ) → (h ≡ f → ⊥) → IsNumbered nodes h (at_number nodes p' h)
          others_numbered h apart = elim (cases_eq h g) [
            | inl same ↦
                subst (IsNumbered nodes h) (sym (child_there h same)) (subst (λ (k : ℕ). IsNumbered nodes k (Some child)) (sym same) child_numbered)
            | inr ne ↦ subst (IsNumbered nodes h) (sym (rest_there h apart ne)) (so.numbered h)
          ]

          child_stamped : HasStampsAt nodes (stamps_after m.stamps f made.label) g (Some child)
          child_stamped = (
            ap (λ (v : FiberView PortView). v.port.beginning.stamp) its_fiber ∙ start.stamped
                ∙ sym (ap (λ (l : Label). (stamps_after m.stamps f l).began g) start.is
                ∙ at_that g (stamp_of m.stamps f (Starts g b)) m.stamps.began g refl ∙ ap (stamp_of m.stamps f) (sym start.is)),
            ap (λ (v : FiberView PortView). v.stamps) its_fiber ∙ start.first.stamps ∙ sym (unstarted_stamps g start.free)
                ∙ sym (trace_of_other m.stamps f g made.label (λ e. is_another (sym (start.number_is ∙ e)))),
          )

          others_stamped : (h : ℕ) → (h ≡ f → ⊥) → HasStampsAt nodes (stamps_after m.stamps f made.label) h (at_number nodes p' h)
          others_stamped h apart = elim (cases_eq h g) [
            | inl same ↦
                subst (HasStampsAt nodes (stamps_after m.stamps f made.label) h) (sym (child_there h same))
                (subst (λ (k : ℕ). HasStampsAt nodes (stamps_after m.stamps f made.label) k (Some child)) (sym same) child_stamped)
            | inr ne ↦
                subst (HasStampsAt nodes (stamps_after m.stamps f made.label) h) (sym (rest_there h apart ne))
                (other_stamped made.label h apart (λ k d starts e. ne (e ∙ same_start (sym starts ∙ start.is))) (at_number nodes p h) (so.stamped h))
          ]

          pub tries_start : p'.world ≡ w' → is_able (class_at p.world.classes f) ≡ true → Tries nodes s m f p p'
          tries_start world able =
              step_is_tried nodes s p m so f x here is w' (Child c) new made p' x' world parent fiber number beginning in_place_long fiber_there
              others others_numbered others_stamped able

      -- where it has made none
      module _ (unchanged : IsUnchanged nodes x.fiber new) (same : p'.fibers.items ≡ middle) where
        still : held nodes x' ≡ held nodes x
        still =
            same_made parent (ap (λ (v : FiberView PortView). origin_of nodes v.port.beginning) fiber ∙ ap (origin_of nodes) beginning)
            (ap (λ (v : FiberView PortView). v.trace) fiber ∙ unchanged.trace) (ap (λ (v : FiberView PortView). v.counts) fiber ∙ unchanged.counts)
            (ap (progress nodes) fiber ∙ unchanged.progress_is)

        still_numbered : IsNumbered nodes f (Some x')
        still_numbered = (
          ap (λ (v : FiberView PortView). v.port.number) fiber ∙ number ∙ own_number nodes s p m so f x here is,
          λ q. ap (λ (v : FiberView PortView). slice_index v.port.put_counts q) fiber ∙ ap (λ (r : PortView). slice_index r.put_counts q) unchanged.port
              ∙ (rw here at (so.numbered f)).1 q
              ∙ sym (ap (λ (es : List Event). length (values_put q es)) (ap (λ (v : FiberView PortView). v.trace) fiber ∙ unchanged.trace)),
        )

        all_still : (h : ℕ) → slice_index_or (all_held nodes p') h None ≡ option_map held_of (m.fibers h)
        all_still h = held_at nodes p' h ∙ elim (cases_eq h f) [
          | inl e ↦
              ap (λ (k : ℕ). held_option nodes (at_number nodes p' k)) e ∙ ap (held_option nodes) (same_there same) ∙ ap Some still
              ∙ sym (ap (held_option nodes) here) ∙ ap (λ (k : ℕ). held_option nodes (at_number nodes p k)) (sym e) ∙ others_held h
          | inr apart ↦ ap (held_option nodes) (same_others same h apart) ∙ others_held h
        ]

        all_numbered : (h : ℕ) → IsNumbered nodes h (at_number nodes p' h)
        all_numbered h = elim (cases_eq h f) [
          | inl e ↦ subst (λ (k : ℕ). IsNumbered nodes k (at_number nodes p' k)) (sym e) (rw (same_there same) still_numbered)
          | inr apart ↦ subst (IsNumbered nodes h) (sym (same_others same h apart)) (so.numbered h)
        ]

        still_stamped : HasStampsAt nodes m.stamps f (Some x')
        still_stamped =
            let has = rw here at (so.stamped f) in (
              ap (λ (v : FiberView PortView). v.port.beginning.stamp) fiber ∙ ap (λ (r : PortView). r.beginning.stamp) unchanged.port ∙ has.0,
              ap (λ (v : FiberView PortView). v.stamps) fiber ∙ unchanged.stamps ∙ has.1,
            )

        all_stamped : (h : ℕ) → HasStampsAt nodes m.stamps h (at_number nodes p' h)
        all_stamped h = elim (cases_eq h f) [
          | inl e ↦ subst (λ (k : ℕ). HasStampsAt nodes m.stamps k (at_number nodes p' k)) (sym e) (rw (same_there same) still_stamped)
          | inr apart ↦ subst (HasStampsAt nodes m.stamps h) (sym (same_others same h apart)) (so.stamped h)
        ]

        -- it stands for the same
        pub still_stands : p'.world ≡ p.world → StandsForRun nodes s p' m
        still_stands world = record {
          moves = so.moves;
          run = so.run;
          stands = rw world (record {
            held_long = length-map p'.fibers.items (held_option nodes) ∙ same_long same ∙ long_is;
            requested_long = so.stands.requested_long;
            outside_long = so.stands.outside_long;
            outcomes_long = so.stands.outcomes_long;
            fibers = all_still;
            requested = so.stands.requested;
            from_outside = so.stands.from_outside;
            outcomes = so.stands.outcomes;
            capacities = so.stands.capacities;
            queues = so.stands.queues;
          });
          tells = rw world so.tells;
          numbered = all_numbered;
          stamps = rw world so.stamps;
          stamped = all_stamped;
        }

      -- after it was noted that it waits
      module _ (source : Source) (wait : OnlyWaits (plain_theory nodes) x.fiber p.world source new w') (same : p'.fibers.items ≡ middle)
          (world : p'.world ≡ record w' { classes = slice_set w'.classes f (class.Waits source) }) where
        world_is : p'.world ≡ record p.world { classes = slice_set p.world.classes f (class.Waits source) }
        world_is = world ∙ ap (λ (w : WorldView). record w { classes = slice_set w.classes f (class.Waits source) }) wait.shared_is

        stands : StandsFor s p'.world (all_held nodes p') m
        stands = rw world_is (record {
          held_long = length-map p'.fibers.items (held_option nodes) ∙ same_long same ∙ long_is;
          requested_long = so.stands.requested_long;
          outside_long = so.stands.outside_long;
          outcomes_long = so.stands.outcomes_long;
          fibers = all_still wait.unchanged same;
          requested = so.stands.requested;
          from_outside = so.stands.from_outside;
          outcomes = so.stands.outcomes;
          capacities = so.stands.capacities;
          queues = so.stands.queues;
        })

        tells : TellsWhoSteps s p'.world m
        tells = rw world_is (noted_wait_tells s p.world (all_held nodes p) m so.stands nodes f below x.fiber new w' (own_number nodes s p m so f x here is)
            source wait so.tells is.fiber is.at (sym (ap (λ (h : HeldFiber). h.counts) is.is)) (sym (ap (λ (h : HeldFiber). h.progress) is.is)))

        noted_class : class_at (slice_set p.world.classes f (class.Waits source)) f ≡ class.Waits source
        noted_class =
            class_at_set p.world.classes f (class.Waits source) (let lt = below in let n = so.tells.long in omega arith) f
            ∙ at_itself f (class.Waits source) (class_at p.world.classes)

        noted : awaited (class_at p'.world.classes f) ≡ Some source
        noted = rw world_is (ap awaited noted_class)

        unready : is_ready_in p'.world f ≡ false
        unready =
            rw world_is (ap (is_ready (have_room p.world.queues) (have_element p.world.queues)) noted_class
            ∙ refused_unready p.world x.fiber.port (next_stamp (clock (plain_theory nodes) x.fiber) 0) (value_offered (leaf_at (progress nodes x.fiber)))
            source wait.refused)

        fewer : is_able (class_at p.world.classes f) ≡ true → able_count p'.world.classes < able_count p.world.classes
        fewer able =
            let before = p.world.classes in
            let after = slice_set before f (class.Waits source) in
            let one : (if is_able (class_at before f) then 1 else 0) ≡ 1 = ap (λ (b : Bool). if b then 1 else 0) able in
            let change : able_count after + (if is_able (class_at before f) then 1 else 0) ≡ able_count before + 0 =
            sum_by-set (λ k. if is_able k then 1 else 0) before f (class.Waits source) class.Unstarted
            (let lt = below in let n = so.tells.long in omega arith) in
            let less : able_count after + 1 ≡ able_count before = sym (ap (λ (n : ℕ). able_count after + n) one) ∙ change ∙ plus_nothing (able_count before) in
            let e : able_count p'.world.classes ≡ able_count after = ap (λ (w : WorldView). able_count w.classes) world_is in
            rw e (one_less (able_count after) (able_count before) less)

        pub tries_waiting : is_able (class_at p.world.classes f) ≡ true → Tries nodes s m f p p'
        tries_waiting able = waits (unready_cannot s p'.world (all_held nodes p') m stands tells f unready)
            (record {
              moves = so.moves;
              run = so.run;
              stands = stands;
              tells = tells;
              numbered = all_numbered wait.unchanged same;
              stamps = rw world_is (stamps_beside s p.world (record p.world { classes = slice_set p.world.classes f (class.Waits source) }) m.stamps
                  refl refl refl so.stamps);
              stamped = all_stamped wait.unchanged same;
            }) (fewer able) noted
