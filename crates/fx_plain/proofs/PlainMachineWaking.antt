-- A machine lets a ready fiber make a step: one that waited at a queue is woken first, and then does make one.
use Rattle.std.proofs.Common.{◌≡◌, ℕ, ◌<◌, Bool, true, false, Some, List, length, refl, sym, ◌∙◌, ap, arith}
use Rattle.std.specs.Prelude.{slice_set}
use Rattle.std.proofs.lemmas.List.{length-map, set-get_or}
use Rattle.fx_term.specs.declared.node.Node.{Node}
use Rattle.fx_term.specs.Script.{ScriptView, total}
use Rattle.fx_plain.specs.declared.class.Class.{Class}
use Rattle.fx_plain.specs.declared.class.Class.TheVariants.{Unstarted, Able}
use Rattle.fx_plain.specs.declared.plain_machine.PlainMachine.{PlainMachine}
use Rattle.fx_plain.specs.WholeMachine.{WholeMachine}
use Rattle.fx_plain.specs.PlainQueue.{have_room, have_element}
use Rattle.fx_plain.specs.Classes.{is_ready}
use Rattle.fx_plain.specs.ClassSets.{class_at, is_able}
use Rattle.fx_plain.specs.World.{WorldView, is_ready_in, after_start}
use Rattle.fx_plain.specs.PlainMachine.{able_count, all_held, StandsForRun, StandsForSome, Tries, steps, waits}
use Rattle.fx_plain.specs.NumberSet.{IsLeastOf}
use Rattle.fx_term.proofs.MapLaws.{at_other}
use Rattle.fx_plain.proofs.Maps.{at_itself}
use Rattle.fx_plain.proofs.WorldStamps.{stamps_beside}
use Rattle.fx_plain.proofs.ClassSets.{class_at_set}
use Rattle.fx_plain.proofs.ReadyFibers.{IsGoing}
use Rattle.fx_plain.proofs.LawfulRuns.{run_keeps}
use Rattle.fx_plain.proofs.WorldClasses.{ready_goes, ready_can, wake_tells}

less_apart : (g f : ℕ) → g < f → g ≡ f → ⊥
less_apart g f lt e = absurd (omega arith)

able_class : (k : Class) → is_able k ≡ true → k ≡ Able
able_class Able e = refl
able_class _ e = absurd cc

-- who is able has a place
pub able_has_place : {J : Type 0} (nodes : List Node) (s : ScriptView) (p : PlainMachine J) (m : WholeMachine) → StandsForRun nodes s p m → (f : ℕ)
    → is_able (class_at p.world.classes f) ≡ true → f < length p.fibers.items
able_has_place nodes s p m so f able =
    let ready : is_ready_in p.world f ≡ true =
    ap (is_ready (have_room p.world.queues) (have_element p.world.queues)) (able_class (class_at p.world.classes f) able) in
    let going = ready_goes s p.world (all_held nodes p) m so.stands so.tells f ready in
    let below = (run_keeps s so.moves m so.run).ranges.started_below f going.fiber going.at in
    let long : length p.fibers.items ≡ total s = sym (length-map p.fibers.items _) ∙ so.stands.held_long in
    omega arith

module _ {J : Type 0} (nodes : List Node) (p : PlainMachine J) (f : ℕ) (w' : WorldView) (world : w' ≡ after_start f p.world)
    (ready : is_ready_in p.world f ≡ true) where
  -- the machine once the fiber was woken
  abbrev pub woken : PlainMachine J
  woken = record { world = w'; fibers = p.fibers }

  module _ (s : ScriptView) (m : WholeMachine) (so : StandsForRun nodes s p m) where
    going : IsGoing m f
    going = ready_goes s p.world (all_held nodes p) m so.stands so.tells f ready

    pub below : f < total s
    below = (run_keeps s so.moves m so.run).ranges.started_below f going.fiber going.at

    pub woken_stands : StandsForRun nodes s woken m
    woken_stands = record {
      moves = so.moves;
      run = so.run;
      stands = rw world (record {
        held_long = so.stands.held_long;
        requested_long = so.stands.requested_long;
        outside_long = so.stands.outside_long;
        outcomes_long = so.stands.outcomes_long;
        fibers = so.stands.fibers;
        requested = so.stands.requested;
        from_outside = so.stands.from_outside;
        outcomes = so.stands.outcomes;
        capacities = so.stands.capacities;
        queues = so.stands.queues;
      });
      tells = rw world (wake_tells s p.world m so.tells f below going);
      numbered = so.numbered;
      stamps = rw world (stamps_beside s p.world (after_start f p.world) m.stamps refl refl refl so.stamps);
      stamped = so.stamped;
    }

    pub is_woken : is_able (class_at w'.classes f) ≡ true
    is_woken =
        rw world (ap is_able (class_at_set p.world.classes f Able (let lt = below in let n = so.tells.long in omega arith) f
        ∙ at_itself f Able (class_at p.world.classes)))

    -- it is the least one that is ready, if it was
    pub least_woken : ((g : ℕ) → g < f → is_ready_in p.world g ≡ false) → IsLeastOf (is_ready_in w') (Some f)
    least_woken least =
        let long : f < length p.world.classes = let lt = below in let n = so.tells.long in omega arith in
        let test = is_ready (have_room p.world.queues) (have_element p.world.queues) in
        rw world (
          ap test (class_at_set p.world.classes f Able long f ∙ at_itself f Able (class_at p.world.classes)),
          λ g lt. ap test (class_at_set p.world.classes f Able long g ∙ at_other f Able (class_at p.world.classes) g (less_apart g f lt)) ∙ least g lt,
        )

    -- one that was able is as it was
    as_many : is_able (class_at p.world.classes f) ≡ true → able_count w'.classes ≡ able_count p.world.classes
    as_many able =
        let is : Able ≡ class_at p.world.classes f = sym (able_class (class_at p.world.classes f) able) in
        rw world (ap (λ (k : Class). able_count (slice_set p.world.classes f k)) is ∙ ap able_count (set-get_or p.world.classes f Unstarted))

    -- what it tries once woken it tries
    pub tried_woken : (p' : PlainMachine J) → Tries nodes s m f woken p' → Tries nodes s m f p p'
    tried_woken p' (steps {l = l} {m' = m'} chosen so' noted) = steps chosen so' noted
    tried_woken p' (waits cannot so' fewer noted) = by_class (is_able (class_at p.world.classes f)) refl
      where
        by_class : (b : Bool) → is_able (class_at p.world.classes f) ≡ b → Tries nodes s m f p p'
        by_class true able = waits cannot so' (rw (as_many able) at fewer) noted
        by_class false unable =
            absurd (let can = ready_can s p.world (all_held nodes p) m so.stands so.tells f unable ready in
            let both : true ≡ false = sym can ∙ cannot in cc)

  pub some_woken : StandsForSome nodes p → StandsForSome nodes woken
  some_woken some = (some.0, some.1, woken_stands some.0 some.1 some.2)

  pub woken_able : StandsForSome nodes p → is_able (class_at w'.classes f) ≡ true
  woken_able some = is_woken some.0 some.1 some.2
