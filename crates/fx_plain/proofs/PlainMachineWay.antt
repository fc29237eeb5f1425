-- What a pick makes of a machine; and the machine goes on its way after the last pick by steps of the least fiber.
use Rattle.std.proofs.Common.{◌≡◌, ℕ, ◌<◌, ◌≤◌, Bool, true, false, Option, Some, None, option_map, List, [], ◌∷◌, ◌++◌, length, refl, ◌∙◌, ap, subst, arith}
use Rattle.std.proofs.Common.{inl, inr, length-set}
use Rattle.std.specs.Prelude.{nat_lt, if◌then◌else◌, is_some}
use Rattle.std.proofs.lemmas.Bool.{cases_lt, lt-ltb, le-ltb}
use Rattle.std.proofs.lemmas.List.{set_past}
use Rattle.std.proofs.lemmas.Option.{none-some, same_Some}
use Rattle.fx_term.specs.declared.node.Node.{Node}
use Rattle.fx_term.specs.Script.{ScriptView, total}
use Rattle.fx_model.specs.Step.{Progress, Runs, Unwinds, CleansUp, HasEnded, has_ended}
use Rattle.fx_model.specs.Outside.{outcome_at}
use Rattle.fx_model.specs.declared.source.Source.{Source}
use Rattle.fx_text.specs.declared.pick.Pick.{Pick}
use Rattle.fx_text.specs.declared.pick.Pick.TheVariants as pick
use Rattle.fx_plain.specs.declared.plain_machine.PlainMachine.{PlainMachine}
use Rattle.fx_plain.specs.declared.passed.Why.{Why}
use Rattle.fx_plain.specs.declared.passed.Why.TheVariants.{NoFiber, NotStarted, Ended, Waits}
use Rattle.fx_plain.specs.declared.class.Class.{Class}
use Rattle.fx_plain.specs.declared.class.Class.TheVariants.{Able, Over, Unstarted}
use Rattle.fx_plain.specs.declared.class.Class.TheVariants as class
use Rattle.fx_plain.specs.WholeMachine.{StartedFiber, WholeMachine, Move, Requests, opening, outcome_of_fiber, WholeMachineLeads, requested_from_outside}
use Rattle.fx_plain.specs.Waits.{source_of_fiber}
use Rattle.fx_plain.specs.Classes.{IsOfClass, awaited, class_requested, is_ready}
use Rattle.fx_plain.specs.ClassSets.{class_at}
use Rattle.fx_plain.specs.PlainQueue.{have_room, have_element}
use Rattle.fx_plain.specs.PassedPicks.{IsWhy}
use Rattle.fx_plain.specs.TakenPick.{why_of}
use Rattle.fx_plain.specs.TakenPick as takes
use Rattle.fx_plain.specs.World.{WorldView, is_ready_in, after_request_from_outside}
use Rattle.fx_plain.specs.PlainMachine.{all_held, StandsForRun, StandsForSome, IsUnderWay, Tries, steps, waits, IsTaken}
use Rattle.fx_plain.proofs.OnTheWay.{after_least}
use Rattle.fx_plain.proofs.WorldLaws.{stands_after_request}
use Rattle.fx_plain.proofs.WorldStamps.{stamps_beside}
use Rattle.fx_plain.proofs.WorldClasses.{unready_cannot, request_tells}

-- a request from outside at the end of a run
leads_one_request : (s : ScriptView) (m : WholeMachine) (vs : List Move) (last : WholeMachine) (f : ℕ) → f < total s
    → WholeMachineLeads s m vs last → WholeMachineLeads s m (vs ++ Requests f ∷ []) (requested_from_outside f last)
leads_one_request s m [] last f lt r = (requested_from_outside f m, (lt, refl), ap (requested_from_outside f) r)
leads_one_request s m (v ∷ vs) last f lt r = (r.0, r.1, leads_one_request s r.0 vs last f lt r.2)

-- a request of a number that is none of the script's changes nothing
request_past : (w : WorldView) (f : ℕ) → length w.requested ≤ f → length w.from_outside ≤ f → length w.classes ≤ f → after_request_from_outside f w ≡ w
request_past w f le le' le'' =
    rw (set_past w.requested f true le, set_past w.from_outside f true le', set_past w.classes f (class_requested (class_at w.classes f)) le'') refl

-- what a machine tries whose world is the same
pub tried_the_same : {J : Type 0} (nodes : List Node) (f : ℕ) (p p' : PlainMachine J) (w : WorldView) → w ≡ p.world
    → ((s : ScriptView) (m : WholeMachine) → StandsForRun nodes s (record p { world = w }) m → Tries nodes s m f (record p { world = w }) p')
    → (s : ScriptView) (m : WholeMachine) → StandsForRun nodes s p m → Tries nodes s m f p p'
tried_the_same nodes f p p' w same tries = subst
    (λ (v : WorldView). (s : ScriptView) (m : WholeMachine) → StandsForRun nodes s (record p { world = v }) m → Tries nodes s m f (record p { world = v }) p')
    same tries

-- what is noted that a fiber waits for its leaf waits for
source_is : (r : Bool) (z : Option StartedFiber) (k : Class) (source : Source) → IsOfClass r z k → awaited k ≡ Some source → source_of_fiber z ≡ Some source
source_is r (Some x) (class.Waits w) source h e = h.leaf ∙ e
source_is r (Some x) Able source h e = absurd (none-some source e)
source_is r (Some x) Over source h e = absurd (none-some source e)
source_is r (Some x) Unstarted source h e = absurd h
source_is r None k source h e = by_class k h e
  where
    by_class : (k : Class) → IsOfClass r None k → awaited k ≡ Some source → source_of_fiber None ≡ Some source
    by_class Unstarted h e = absurd (none-some source e)
    by_class Able h e = absurd h
    by_class (class.Waits w) h e = absurd h
    by_class Over h e = absurd h

-- one that is not ready has a reason
some_why : (room element : ℕ → Bool) (fibers f : ℕ) (k : Class) → is_ready room element k ≡ false → (why : Why) × (why_of fibers f k ≡ Some why)
some_why room element fibers f Able e = absurd cc
some_why room element fibers f (class.Waits w) e = (Waits w, refl)
some_why room element fibers f Over e = (Ended, refl)
some_why room element fibers f Unstarted e = (if nat_lt f fibers then NotStarted else NoFiber, refl)

ended_has_outcome : (p : Progress) → has_ended p ≡ true → is_some (outcome_at p) ≡ true
ended_has_outcome (HasEnded o) e = refl
ended_has_outcome (Runs t) e = absurd cc
ended_has_outcome (Unwinds rest) e = absurd cc
ended_has_outcome (CleansUp k t rest) e = absurd cc

-- which is so
module _ (s : ScriptView) (m : WholeMachine) (f fibers : ℕ) (long : fibers ≡ total s) where
  unstarted_is : m.fibers f ≡ None → IsWhy s m f (if nat_lt f fibers then NotStarted else NoFiber)
  unstarted_is none = elim (cases_lt f fibers) [
    | inl lt ↦ rw (lt-ltb f fibers lt) (rw long at lt, none)
    | inr le ↦ rw (le-ltb f fibers le) (rw long at le)
  ]

  why_is : (k : Class) (why : Why) → IsOfClass (m.requested f) (m.fibers f) k → why_of fibers f k ≡ Some why → IsWhy s m f why
  why_is k why h e = by_fiber (m.fibers f) k refl h e
    where
      by_fiber : (z : Option StartedFiber) (k : Class) → m.fibers f ≡ z → IsOfClass (m.requested f) z k → why_of fibers f k ≡ Some why → IsWhy s m f why
      by_fiber None Unstarted at h e = subst (IsWhy s m f) (same_Some _ why e) (unstarted_is at)
      by_fiber None Able at h e = absurd h
      by_fiber None (class.Waits w) at h e = absurd h
      by_fiber None Over at h e = absurd h
      by_fiber (Some x) Able at h e = absurd (none-some why e)
      by_fiber (Some x) (class.Waits w) at h e =
          subst (IsWhy s m f) (same_Some (Waits w) why e) (ap source_of_fiber at ∙ h.leaf)
      by_fiber (Some x) Over at h e =
          subst (IsWhy s m f) (same_Some Ended why e)
          (ap (λ (z : Option StartedFiber). is_some (outcome_of_fiber z)) at ∙ ended_has_outcome x.progress h)
      by_fiber (Some x) Unstarted at h e = absurd h

module _ {J : Type 0} (nodes : List Node) (s : ScriptView) where
  -- a pick of a fiber that is tried
  pub tried_pick : (f : ℕ) (p p' : PlainMachine J) (m : WholeMachine) → Tries nodes s m f p p'
      → IsTaken nodes s m (pick.Step f) (option_map Waits (awaited (class_at p'.world.classes f))) p'
  tried_pick f p p' m (steps {l = l} {m' = m'} chosen so noted) = record {
    machine = m';
    takes = rw noted (takes.step chosen);
    stands = so;
  }
  tried_pick f p p' m (waits {source = source} cannot so fewer noted) = record {
    machine = m;
    takes = rw noted (takes.no_step cannot (source_is (m.requested f) (m.fibers f) (class_at p'.world.classes f) source (so.tells.are f) noted));
    stands = so;
  }

  -- a pick of a fiber that is not ready is passed over
  pub skipped_pick : (f : ℕ) (p : PlainMachine J) (m : WholeMachine) → is_ready_in p.world f ≡ false → StandsForRun nodes s p m
      → IsTaken nodes s m (pick.Step f) (why_of (length p.world.classes) f (class_at p.world.classes f)) p
  skipped_pick f p m unready so = record {
    machine = m;
    takes =
        let why = some_why (have_room p.world.queues) (have_element p.world.queues) (length p.world.classes) f (class_at p.world.classes f) unready in
        rw why.1 (takes.no_step (unready_cannot s p.world (all_held nodes p) m so.stands so.tells f unready)
        (why_is s m f (length p.world.classes) so.tells.long (class_at p.world.classes f) why.0 (so.tells.are f) why.1));
    stands = so;
  }

  -- after a request from outside
  module _ (p : PlainMachine J) (f : ℕ) (w' : WorldView) (world : w' ≡ after_request_from_outside f p.world) where
    abbrev p' : PlainMachine J
    p' = record { world = w'; fibers = p.fibers }

    module _ (m : WholeMachine) (so : StandsForRun nodes s p m) where
      requested_stands : f < total s → StandsForRun nodes s p' (requested_from_outside f m)
      requested_stands lt = record {
        moves = so.moves ++ Requests f ∷ [];
        run = leads_one_request s (opening s) so.moves m f lt so.run;
        stands = rw world (stands_after_request s p.world (all_held nodes p) m f lt so.stands);
        tells = rw world (request_tells s p.world m so.tells f);
        numbered = so.numbered;
        stamps = rw world (stamps_beside s p.world (after_request_from_outside f p.world) m.stamps refl refl refl so.stamps);
        stamped = so.stamped;
      }

      past_stands : total s ≤ f → StandsForRun nodes s p' m
      past_stands le =
          let requested = so.stands.requested_long in let outside = so.stands.outside_long in let classes = so.tells.long in
          let same : w' ≡ p.world = world ∙ request_past p.world f (omega arith) (omega arith) (omega arith) in
          record {
            moves = so.moves;
            run = so.run;
            stands = rw same so.stands;
            tells = rw same so.tells;
            numbered = so.numbered;
            stamps = rw same so.stamps;
            stamped = so.stamped;
          }

      as_long : length w'.classes ≡ total s
      as_long =
          ap (λ (w : WorldView). length w.classes) world ∙ length-set p.world.classes f (class_requested (class_at p.world.classes f)) ∙ so.tells.long

      pub requested_pick : f < length w'.classes → IsTaken nodes s m (pick.Cancel f) None p'
      requested_pick below =
          let lt : f < total s = let n = as_long in omega arith in
          record { machine = requested_from_outside f m; takes = takes.request lt; stands = requested_stands lt }

      pub skipped_request : length w'.classes ≤ f → IsTaken nodes s m (pick.Cancel f) (Some NoFiber) p'
      skipped_request past =
          let le : total s ≤ f = let n = as_long in omega arith in
          record { machine = m; takes = takes.no_request le; stands = past_stands le }

  -- by a step of the least fiber that is ready, after the last pick
  pub tried_least : (all : List Pick) (f : ℕ) (p p' : PlainMachine J) → ((m : WholeMachine) → StandsForRun nodes s p m → Tries nodes s m f p p')
      → ((g : ℕ) → g < f → is_ready_in p.world g ≡ false) → IsUnderWay nodes s all [] p → IsUnderWay nodes s all [] p'
  tried_least all f p p' tries least u = by_try (tries u.machine u.stands)
    where
      by_try : Tries nodes s u.machine f p p' → IsUnderWay nodes s all [] p'
      by_try (steps {l = l} {m' = m'} chosen so noted) = record {
        machine = m';
        stands = so;
        way = after_least s all u.machine u.way f l m'
            (λ g lt. unready_cannot s p.world (all_held nodes p) u.machine u.stands.stands u.stands.tells g (least g lt)) chosen;
      }
      by_try (waits cannot so fewer noted) = record { machine = u.machine; stands = so; way = u.way }

  -- a try leaves a machine that stands for some
  pub tried_some : (f : ℕ) (p p' : PlainMachine J) → ((m : WholeMachine) → StandsForRun nodes s p m → Tries nodes s m f p p')
      → (m : WholeMachine) → StandsForRun nodes s p m → StandsForSome nodes p'
  tried_some f p p' tries m so = by_try (tries m so)
    where
      by_try : Tries nodes s m f p p' → StandsForSome nodes p'
      by_try (steps {m' = m'} chosen so' noted) = (s, m', so')
      by_try (waits cannot so' fewer noted) = (s, m, so')
