-- A machine lets a fiber make a burst: each of its steps is one that a schedule makes, and the world stays as it was.
use Rattle.std.proofs.Common.{◌≡◌, ℕ, zero, suc, ◌<◌, ◌≤◌, true, false, Some, None, List, [], length, refl, sym, ◌∙◌, ap, subst, inl, inr, arith}
use Rattle.std.proofs.Common.{get_or-set_same}
use Rattle.std.proofs.lemmas.List.{length-map, set-set}
use Rattle.std.specs.Prelude.{slice_set}
use Rattle.std.specs.Vec.{with_item}
use Rattle.fx_term.specs.declared.node.Node.{Node}
use Rattle.fx_term.specs.declared.event.Event.TheVariants as event
use Rattle.fx_term.specs.Script.{ScriptView, total}
use Rattle.fx_text.specs.declared.pick.Pick.{Pick}
use Rattle.fx_model.specs.Row.{Label, Silent, Shows}
use Rattle.fx_model.specs.Step.{leaf_at}
use Rattle.fx_fiber.specs.Fiber.{FiberView, clock, progress}
use Rattle.fx_fiber.specs.StampedRun.{next_stamp}
use Rattle.fx_fiber.specs.Bursts.{IsAlone, GoesAlone, Bursts}
use Rattle.fx_fiber.specs.MakesStep.{MakesStep, Tells}
use Rattle.fx_fiber.specs.declared.stepped.Stepped.TheVariants.{Went}
use Rattle.fx_plain.specs.Started.{StartedView}
use Rattle.fx_plain.specs.declared.plain_machine.PlainMachine.{PlainMachine}
use Rattle.fx_plain.specs.WholeMachine.{WholeMachine}
use Rattle.fx_plain.specs.OnTheWay.{IsOnTheWay}
use Rattle.fx_plain.specs.ClassSets.{class_at, is_able}
use Rattle.fx_plain.specs.World.{WorldView, is_ready_in}
use Rattle.fx_plain.specs.PlainCalls.{PortView, plain_theory}
use Rattle.fx_plain.specs.PlainMachine.{all_held, StandsForRun, StandsForSome, GoesOn, stays, goes, IsUnderWay, Tries}
use Rattle.fx_plain.proofs.OnTheWay.{after_least}
use Rattle.fx_plain.proofs.WorldClasses.{unready_cannot}
use Rattle.fx_plain.proofs.PlainMachineSteps.{at_number, held_option, is_fiber, below_total}
use Rattle.fx_plain.proofs.PlainMachineTries.{still_stands, step_leads_on}
use Rattle.fx_plain.proofs.PlainMachineWork.{left_of, work_is, places, step_leaves_less, try_leaves_less}

-- a step of a burst tells the port nothing
pub tells_nothing : (nodes : List Node) (v w : FiberView PortView) (world : WorldView) (stamp cause : ℕ) (l : Label) → IsAlone l
    → Tells (plain_theory nodes) stamp cause (leaf_at (progress nodes v)) l Went v.port world w.port world → w.port ≡ v.port
tells_nothing nodes v w world stamp cause Silent alone told = told.0
tells_nothing nodes v w world stamp cause (Shows (event.Acquired k)) alone told = told.0
tells_nothing nodes v w world stamp cause (Shows (event.Begin k)) alone told = told.0
tells_nothing nodes v w world stamp cause (Shows (event.End k)) alone told = told.0
tells_nothing nodes v w world stamp cause _ alone told = absurd alone

module _ {J : Type 0} (nodes : List Node) (s : ScriptView) (f : ℕ) where
  -- what was come to is stood for
  pub goes_to : {m : WholeMachine} {p : PlainMachine J} {m' : WholeMachine} {p' : PlainMachine J} → GoesOn nodes s f m p m' p' → StandsForRun nodes s p' m'
  goes_to (stays so e) = so
  goes_to (goes g chosen so e) = so

  -- over the same world
  pub same_world : {m : WholeMachine} {p : PlainMachine J} {m' : WholeMachine} {p' : PlainMachine J} → GoesOn nodes s f m p m' p' → p'.world ≡ p.world
  same_world (stays so e) = e
  same_world (goes g chosen so e) = e ∙ same_world g

  -- on the same way, where the fiber is the least that is ready
  pub goes_on_way : (all : List Pick) {m : WholeMachine} {p : PlainMachine J} {m' : WholeMachine} {p' : PlainMachine J} → GoesOn nodes s f m p m' p'
      → ((g : ℕ) → g < f → is_ready_in p.world g ≡ false) → IsOnTheWay s all [] m → IsOnTheWay s all [] m'
  goes_on_way all (stays so e) least way = way
  goes_on_way all {p = p} (goes {l = l} {n = n} {n' = n'} {q = q} g chosen so e) least way =
      after_least s all n (goes_on_way all g least way) f l n'
      (λ h lt. unready_cannot s q.world (all_held nodes q) n (goes_to g).stands (goes_to g).tells h (rw (same_world g) (least h lt))) chosen

  -- nothing more is left to do than before
  pub leaves_no_more : {m : WholeMachine} {p : PlainMachine J} {m' : WholeMachine} {p' : PlainMachine J} → StandsForRun nodes s p m → GoesOn nodes s f m p m' p'
      → left_of nodes p' ≤ left_of nodes p
  leaves_no_more {m = m} {p = p} so (stays {p' = p'} so' e) =
      let work = work_is nodes s p' m so' ∙ sym (work_is nodes s p m so) in
      let long = places nodes s p' m so' ∙ sym (places nodes s p m so) in
      rw (work, long, e) (no_more (left_of nodes p))
    where
      no_more : (n : ℕ) → n ≤ n
      no_more n = omega arith
  leaves_no_more so (goes {l = l} {n = n} {n' = n'} {q = q} {p' = p'} g chosen so' e) =
      let before = leaves_no_more so g in
      let less = step_leaves_less nodes s q p' n f l n' (goes_to g) chosen so' in
      omega arith

  module _ (p : PlainMachine J) (m : WholeMachine) (so : StandsForRun nodes s p m) (x : StartedView J) (here : at_number nodes p f ≡ Some x)
      (able : is_able (class_at p.world.classes f) ≡ true) where
    pub long : f < length p.fibers.items
    long =
        let below = below_total nodes s p m so f x here (is_fiber nodes s p m so f x here) in
        let places : length p.fibers.items ≡ total s = sym (length-map p.fibers.items (held_option nodes)) ∙ so.stands.held_long in
        omega arith

    -- the machine in which the fiber stands so
    abbrev with_fiber : FiberView PortView → PlainMachine J
    with_fiber v = record { world = p.world; fibers = with_item p.fibers f (Some (record { parent = x.parent; fiber = v })) }

    -- a fiber of the machine that has come so far, over the port that it had
    pub record Comes (v : FiberView PortView) (p' : PlainMachine J) : Type 0 where
      pub machine : WholeMachine
      pub on : GoesOn nodes s f m p machine p'
      pub port_is : v.port ≡ x.fiber.port

    -- the machine holds the fiber so
    pub record Holds (v : FiberView PortView) (p' : PlainMachine J) : Type 0 where
      pub after : StartedView J
      pub fibers : p'.fibers.items ≡ slice_set p.fibers.items f (Some after)
      pub parent : after.parent ≡ x.parent
      pub fiber : after.fiber ≡ v
      pub world : p'.world ≡ p.world

    -- one step more that answers that it went, and leaves the port and the world as they were
    one_more : (v w : FiberView PortView) (world' : WorldView) (p' : PlainMachine J) → Comes v (with_fiber v)
        → MakesStep (plain_theory nodes) v p.world Went w world' → w.port ≡ v.port → world' ≡ p.world → Holds w p' → Comes w p'
    one_more v w world' p' come does port same held =
        let q = with_fiber v in
        let there : at_number nodes q f ≡ Some (record { parent = x.parent; fiber = v }) = get_or-set_same p.fibers.items f _ None long in
        let on = step_leads_on nodes s q come.machine (goes_to come.on) f _ there p' held.after _ refl world' w held.parent held.fiber
        (ap (λ (r : PortView). r.number) port) (ap (λ (r : PortView). r.beginning) port) Went (inl refl) does
        (held.fibers ∙ sym (set-set p.fibers.items f _ (Some held.after))) (held.world ∙ sym same) able in
        record { machine = on.1; on = goes come.on on.2 on.3 held.world; port_is = port ∙ come.port_is }

    pub comes_alone : (n : ℕ) (v : FiberView PortView) → GoesAlone (plain_theory nodes) n x.fiber p.world v → (p' : PlainMachine J)
        → Holds v p' → Comes v p'
    comes_alone zero v h p' held = record {
      machine = m;
      on = stays (still_stands nodes s p m so f x here p' held.after _ refl p.world v held.parent held.fiber (ap (λ (r : PortView). r.number) h.port)
          (ap (λ (r : PortView). r.beginning) h.port) h held.fibers held.world) held.world;
      port_is = h.port;
    }
    comes_alone (suc n) v h p' held =
        one_more h.0 v p.world p'
        (comes_alone n h.0 h.1 (with_fiber h.0)
        (record { after = record { parent = x.parent; fiber = h.0 }; fibers = refl; parent = refl; fiber = refl; world = refl }))
        h.2.does (tells_nothing nodes h.0 v p.world (next_stamp (clock (plain_theory nodes) h.0) h.2.does.cause) h.2.does.cause h.2.does.label h.2.alone
        h.2.does.calls_are.told) refl held

    -- what a burst comes to
    pub bursts_go : (most n : ℕ) (v : FiberView PortView) (world' : WorldView) → Bursts (plain_theory nodes) most n x.fiber p.world v world'
        → (p' : PlainMachine J) (after : StartedView J) → p'.fibers.items ≡ slice_set p.fibers.items f (Some after) → after.parent ≡ x.parent
        → after.fiber ≡ v → p'.world ≡ world'
        → (m' : WholeMachine) × GoesOn nodes s f m p m' p'
    bursts_go most n v world' b p' after fibers parent fiber world = elim b.steps [
      | inl alone ↦
          let come = comes_alone n v alone.0 p'
          (record { after = after; fibers = fibers; parent = parent; fiber = fiber; world = world ∙ alone.1 }) in
          (come.machine, come.on)
      | inr last ↦
          let told = subst
          (λ (l : Label). Tells (plain_theory nodes) (next_stamp (clock (plain_theory nodes) last.between) last.sees.does.cause) last.sees.does.cause
          (leaf_at (progress nodes last.between)) l Went last.between.port p.world v.port world')
          last.sees.by last.sees.does.calls_are.told in
          let come = one_more last.between v world' p'
          (comes_alone last.before last.between last.goes (with_fiber last.between)
          (record { after = record { parent = x.parent; fiber = last.between }; fibers = refl; parent = refl; fiber = refl; world = refl }))
          last.sees.does told.1 told.2 (record { after = after; fibers = fibers; parent = parent; fiber = fiber; world = world ∙ told.2 }) in
          (come.machine, come.on)
    ]

-- a fiber of a machine that stands for some makes a burst, and is tried then
module _ {J : Type 0} (nodes : List Node) (f : ℕ) (p q : PlainMachine J)
    (on : (s : ScriptView) (m : WholeMachine) → StandsForRun nodes s p m → (m' : WholeMachine) × GoesOn nodes s f m p m' q) where
  pub some_after_burst : StandsForSome nodes p → StandsForSome nodes q
  some_after_burst some = let on = on some.0 some.1 some.2 in (some.0, on.0, goes_to nodes some.0 f on.1)

  pub world_after_burst : StandsForSome nodes p → q.world ≡ p.world
  world_after_burst some = same_world nodes some.0 f (on some.0 some.1 some.2).1

  pub way_after_burst : (s : ScriptView) (all : List Pick) → ((g : ℕ) → g < f → is_ready_in p.world g ≡ false) → IsUnderWay nodes s all [] p
      → IsUnderWay nodes s all [] q
  way_after_burst s all least u =
      let on = on s u.machine u.stands in
      record { machine = on.0; stands = goes_to nodes s f on.1; way = goes_on_way nodes s f all on.1 least u.way }

  pub try_after_burst_leaves_less : (p' : PlainMachine J) → StandsForSome nodes p
      → ((s : ScriptView) (m : WholeMachine) → StandsForRun nodes s q m → Tries nodes s m f q p') → left_of nodes p' < left_of nodes p
  try_after_burst_leaves_less p' some tries =
      let on = on some.0 some.1 some.2 in
      let so = goes_to nodes some.0 f on.1 in
      let no_more = leaves_no_more nodes some.0 f some.2 on.1 in
      let less = try_leaves_less nodes some.0 q p' on.0 f so (tries some.0 on.0 so) in
      omega arith

-- where a fiber goes on in a machine that is the same
pub goes_on_the_same : {J : Type 0} (nodes : List Node) (f : ℕ) (p q r : PlainMachine J) → r ≡ p
    → ((s : ScriptView) (m : WholeMachine) → StandsForRun nodes s r m → (m' : WholeMachine) × GoesOn nodes s f m r m' q)
    → (s : ScriptView) (m : WholeMachine) → StandsForRun nodes s p m → (m' : WholeMachine) × GoesOn nodes s f m p m' q
goes_on_the_same {J} nodes f p q r same on =
    subst (λ (r : PlainMachine J). (s : ScriptView) (m : WholeMachine) → StandsForRun nodes s r m → (m' : WholeMachine) × GoesOn nodes s f m r m' q) same on

-- or whose world is the same
pub goes_on_the_same_world : {J : Type 0} (nodes : List Node) (f : ℕ) (p q : PlainMachine J) (w : WorldView) → w ≡ p.world
    → ((s : ScriptView) (m : WholeMachine) → StandsForRun nodes s (record p { world = w }) m
    → (m' : WholeMachine) × GoesOn nodes s f m (record p { world = w }) m' q)
    → (s : ScriptView) (m : WholeMachine) → StandsForRun nodes s p m → (m' : WholeMachine) × GoesOn nodes s f m p m' q
goes_on_the_same_world nodes f p q w same on = subst
    (λ (v : WorldView). (s : ScriptView) (m : WholeMachine) → StandsForRun nodes s (record p { world = v }) m
    → (m' : WholeMachine) × GoesOn nodes s f m (record p { world = v }) m' q) same on
