-- A machine goes on by steps of the least fiber that can make one: it stands for the machine that these lead to, on the same way, and has less left to do.
use Rattle.std.proofs.Common.{◌≡◌, ℕ, zero, suc, ◌+◌, ◌<◌, ◌≤◌, false, List, [], ◌∷◌, ◌++◌, refl, arith}
use Rattle.fx_term.specs.declared.node.Node.{Node}
use Rattle.fx_term.specs.Script.{ScriptView, total}
use Rattle.fx_text.specs.declared.pick.Pick.{Pick}
use Rattle.fx_plain.specs.declared.plain_machine.PlainMachine.{PlainMachine}
use Rattle.fx_plain.specs.WholeMachine.{WholeMachine, Move, Steps, IsWholeMachineRun, opening}
use Rattle.fx_plain.specs.Chosen.{IsLeast, LeastSteps}
use Rattle.fx_plain.specs.OnTheWay.{IsOnTheWay}
use Rattle.fx_plain.specs.World.{is_ready_in}
use Rattle.fx_plain.specs.PlainMachine.{able_count, all_held, StandsForRun, StandsForSome, GoesOn, stays, goes, GoesByLeast, IsUnderWay, Tries, steps, waits}
use Rattle.fx_plain.proofs.OnTheWay.{after_least}
use Rattle.fx_plain.proofs.LawfulRuns.{run_keeps}
use Rattle.fx_plain.proofs.WholeMachineWork.{whole_machine_work, fiber_step_leaves_less}
use Rattle.fx_plain.proofs.WorldClasses.{unready_cannot}
use Rattle.fx_plain.proofs.PlainMachineSteps.{leads_one_more}
use Rattle.fx_plain.proofs.PlainMachineBursts.{goes_to, same_world, leaves_no_more}
use Rattle.fx_plain.proofs.PlainMachineWork.{left_of, work_is, places, able_few, less_left, wait_leaves_less}

module _ (s : ScriptView) where
  -- such steps, and then others
  pub least_then : {m k m' : WholeMachine} {n n' : ℕ} → LeastSteps s m n k → LeastSteps s k n' m' → (total : ℕ) → total ≡ n' + n → LeastSteps s m total m'
  least_then {n = n} first LeastSteps.none total e = let same : total ≡ n = omega arith in rw same first
  least_then {n = n} first (LeastSteps.more {n = n'} rest least chosen) total e =
      let last : total ≡ suc (n' + n) = omega arith in rw last (LeastSteps.more (least_then first rest _ refl) least chosen)

  -- they stay on the way
  pub least_on_way : (all : List Pick) {m m' : WholeMachine} {n : ℕ} → LeastSteps s m n m' → IsOnTheWay s all [] m → IsOnTheWay s all [] m'
  least_on_way all LeastSteps.none way = way
  least_on_way all (LeastSteps.more {f = f} {l = l} {k = k} {m' = m'} rest least chosen) way =
      after_least s all k (least_on_way all rest way) f l m' least chosen

  -- each leaves less work
  pub record Leaves (m : WholeMachine) (n : ℕ) (m' : WholeMachine) : Type 0 where
    pub moves : List Move
    pub run : IsWholeMachineRun s moves m'
    pub less : n + whole_machine_work s m' ≤ whole_machine_work s m

  pub least_leaves : {m m' : WholeMachine} {n : ℕ} (vs : List Move) → IsWholeMachineRun s vs m → LeastSteps s m n m' → Leaves m n m'
  least_leaves vs run LeastSteps.none = record { moves = vs; run = run; less = omega arith }
  least_leaves vs run (LeastSteps.more {f = f} {l = l} {k = k} {m' = m'} rest least chosen) =
      let before = least_leaves vs run rest in
      let so_far = before.less in
      let here = fiber_step_leaves_less s k f l m' (run_keeps s before.moves k before.run) chosen.steps in
      record {
        moves = before.moves ++ Steps f l ∷ [];
        run = leads_one_more s (opening s) before.moves k f l m' before.run chosen.steps;
        less = omega arith;
      }

module _ {J : Type 0} (nodes : List Node) (s : ScriptView) where
  -- nobody below the least one that is ready can step
  pub unready_is_least : (p : PlainMachine J) (m : WholeMachine) → StandsForRun nodes s p m → (f : ℕ) → ((g : ℕ) → g < f → is_ready_in p.world g ≡ false)
      → IsLeast s m f
  unready_is_least p m so f least g lt = unready_cannot s p.world (all_held nodes p) m so.stands so.tells g (least g lt)

  -- a try of the least fiber is such a way to go on
  pub tried_by_least : (p p' : PlainMachine J) (m : WholeMachine) (f : ℕ) → StandsForRun nodes s p m
      → ((g : ℕ) → g < f → is_ready_in p.world g ≡ false) → Tries nodes s m f p p' → GoesByLeast nodes s m p p'
  tried_by_least p p' m f so least (steps {m' = m'} chosen so' noted) = record {
    count = 1;
    machine = m';
    steps = LeastSteps.more LeastSteps.none (unready_is_least p m so f least) chosen;
    stands = so';
    fewer = λ none. absurd (omega arith);
  }
  tried_by_least p p' m f so least (waits cannot so' fewer noted) = record {
    count = 0;
    machine = m;
    steps = LeastSteps.none;
    stands = so';
    fewer = λ none. fewer;
  }

  -- so are two of them
  pub least_twice : (m : WholeMachine) (p q p' : PlainMachine J) (first : GoesByLeast nodes s m p q) → GoesByLeast nodes s first.machine q p'
      → GoesByLeast nodes s m p p'
  least_twice m p q p' first next = record {
    count = next.count + first.count;
    machine = next.machine;
    steps = least_then s first.steps next.steps _ refl;
    stands = next.stands;
    fewer = λ none.
        let before = first.fewer (omega arith) in
        let after = next.fewer (omega arith) in
        omega arith;
  }

  -- the least fiber goes on alone
  burst_steps : (f : ℕ) {m : WholeMachine} {p : PlainMachine J} {m' : WholeMachine} {p' : PlainMachine J} → GoesOn nodes s f m p m' p'
      → ((g : ℕ) → g < f → is_ready_in p.world g ≡ false) → (n : ℕ) × LeastSteps s m n m'
  burst_steps f (stays so e) least = (0, LeastSteps.none)
  burst_steps f (goes {n = k} {q = q} on chosen so e) least =
      let before = burst_steps f on least in (
        suc before.0,
        LeastSteps.more before.1 (unready_is_least q k (goes_to nodes s f on) f (λ g lt. rw (same_world nodes s f on) (least g lt))) chosen,
      )

  -- which may come after
  pub least_then_burst : (m : WholeMachine) (p q p' : PlainMachine J) (f : ℕ) (first : GoesByLeast nodes s m p q) {m' : WholeMachine}
      → GoesOn nodes s f first.machine q m' p' → ((g : ℕ) → g < f → is_ready_in q.world g ≡ false) → GoesByLeast nodes s m p p'
  least_then_burst m p q p' f first {m'} on least =
      let next = burst_steps f on least in
      record {
        count = next.0 + first.count;
        machine = m';
        steps = least_then s first.steps next.1 _ refl;
        stands = goes_to nodes s f on;
        fewer = λ none. rw (same_world nodes s f on) (first.fewer (omega arith));
      }

  -- or before
  pub burst_then_least : (m m' : WholeMachine) (p q p' : PlainMachine J) (f : ℕ) → GoesOn nodes s f m p m' q
      → ((g : ℕ) → g < f → is_ready_in p.world g ≡ false) → GoesByLeast nodes s m' q p' → GoesByLeast nodes s m p p'
  burst_then_least m m' p q p' f on least next =
      let first = burst_steps f on least in
      record {
        count = next.count + first.0;
        machine = next.machine;
        steps = least_then s first.1 next.steps _ refl;
        stands = next.stands;
        fewer = λ none. rw (← same_world nodes s f on) (next.fewer (omega arith));
      }

  -- less is left
  pub least_leaves_less : (m : WholeMachine) (p p' : PlainMachine J) → StandsForRun nodes s p m → GoesByLeast nodes s m p p'
      → left_of nodes p' < left_of nodes p
  least_leaves_less m p p' so by = by_count by.count by.machine by.steps by.stands by.fewer
    where
      by_count : (n : ℕ) (k : WholeMachine) → LeastSteps s m n k → StandsForRun nodes s p' k
          → (n ≡ 0 → able_count p'.world.classes < able_count p.world.classes) → left_of nodes p' < left_of nodes p
      by_count zero k LeastSteps.none so' fewer = wait_leaves_less nodes s p p' m so so' (fewer refl)
      by_count (suc n) k on so' fewer =
          let leaves = (least_leaves s so.moves so.run on).less in
          rw (work_is nodes s p m so, work_is nodes s p' k so', places nodes s p m so, places nodes s p' k so')
          (less_left (whole_machine_work s m) (whole_machine_work s k) (total s) (able_count p.world.classes) (able_count p'.world.classes)
          (omega arith) (able_few nodes s p' k so'))

module _ {J : Type 0} (nodes : List Node) (p p' : PlainMachine J)
    (by : (s : ScriptView) (m : WholeMachine) → StandsForRun nodes s p m → GoesByLeast nodes s m p p') where
  -- a machine that stands for some stands for some then
  pub some_by_least : StandsForSome nodes p → StandsForSome nodes p'
  some_by_least some = let on = by some.0 some.1 some.2 in (some.0, on.machine, on.stands)

  pub less_by_least : StandsForSome nodes p → left_of nodes p' < left_of nodes p
  less_by_least some = least_leaves_less nodes some.0 some.1 p p' some.2 (by some.0 some.1 some.2)

  -- on the same way
  pub way_by_least : (s : ScriptView) (all : List Pick) → IsUnderWay nodes s all [] p → IsUnderWay nodes s all [] p'
  way_by_least s all u =
      let on = by s u.machine u.stands in record { machine = on.machine; stands = on.stands; way = least_on_way s all on.steps u.way }

-- the least fiber goes on alone, and then the machine goes on by least steps; or the other way round
module _ {J : Type 0} (nodes : List Node) (p q : PlainMachine J) (f : ℕ) (least : (g : ℕ) → g < f → is_ready_in p.world g ≡ false)
    (on : (s : ScriptView) (m : WholeMachine) → StandsForRun nodes s p m → (m' : WholeMachine) × GoesOn nodes s f m p m' q) where
  pub burst_then : (p' : PlainMachine J) → ((s : ScriptView) (m : WholeMachine) → StandsForRun nodes s q m → GoesByLeast nodes s m q p')
      → (s : ScriptView) (m : WholeMachine) → StandsForRun nodes s p m → GoesByLeast nodes s m p p'
  burst_then p' by s m so =
      let burst = on s m so in
      burst_then_least nodes s m burst.0 p q p' f burst.1 least (by s burst.0 (goes_to nodes s f burst.1))

  pub then_burst : (first : PlainMachine J) → ((s : ScriptView) (m : WholeMachine) → StandsForRun nodes s first m → GoesByLeast nodes s m first p)
      → (s : ScriptView) (m : WholeMachine) → StandsForRun nodes s first m → GoesByLeast nodes s m first q
  then_burst first by s m so =
      let before = by s m so in
      least_then_burst nodes s m first p q f before (on s before.machine before.stands).1 least

-- less is left then
pub less_after_burst : {J : Type 0} (nodes : List Node) (p q : PlainMachine J) (f : ℕ)
    → ((s : ScriptView) (m : WholeMachine) → StandsForRun nodes s p m → (m' : WholeMachine) × GoesOn nodes s f m p m' q)
    → (p' : PlainMachine J) → ((s : ScriptView) (m : WholeMachine) → StandsForRun nodes s q m → GoesByLeast nodes s m q p') → StandsForSome nodes p
    → left_of nodes p' < left_of nodes p
less_after_burst nodes p q f on p' by some =
    let burst = on some.0 some.1 some.2 in
    let so = goes_to nodes some.0 f burst.1 in
    let no_more = leaves_no_more nodes some.0 f some.2 burst.1 in
    let less = least_leaves_less nodes some.0 burst.0 q p' so (by some.0 burst.0 so) in
    omega arith

pub least_again : {J : Type 0} (nodes : List Node) (p q p' : PlainMachine J)
    → ((s : ScriptView) (m : WholeMachine) → StandsForRun nodes s p m → GoesByLeast nodes s m p q)
    → ((s : ScriptView) (m : WholeMachine) → StandsForRun nodes s q m → GoesByLeast nodes s m q p')
    → (s : ScriptView) (m : WholeMachine) → StandsForRun nodes s p m → GoesByLeast nodes s m p p'
least_again nodes p q p' by next s m so = let first = by s m so in least_twice nodes s m p q p' first (next s first.machine first.stands)
