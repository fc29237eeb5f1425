-- What a machine that has halted says of its fibers' waits is so: those that it lists are the blocked ones, each with what its leaf waits for.
use Rattle.std.proofs.Common.{◌≡◌, ℕ, suc, ◌+◌, ◌<◌, Bool, false, Option, Some, None, option_map, List, [], ◌∷◌, ◌++◌, length, take, All, refl, sym}
use Rattle.std.proofs.Common.{◌∙◌, ap, subst, append-nil}
use Rattle.std.specs.Prelude.{option_and_then, slice_index_or}
use Rattle.std.specs.List.{cons_option}
use Rattle.std.proofs.lemmas.List.{take_more, length-map}
use Rattle.std.proofs.lemmas.List.Elements.{All-nil, All-cons, All-weaker, filter_map-append}
use Rattle.fx_term.specs.declared.node.Node.{Node}
use Rattle.fx_term.specs.QueuesNamed.{NamesQueuesBelow}
use Rattle.fx_term.specs.Script.{ScriptView}
use Rattle.fx_model.specs.Step.{Progress, has_ended}
use Rattle.fx_model.specs.declared.source.Source.{Source}
use Rattle.fx_model.specs.Report.{ReportView}
use Rattle.fx_model.proofs.BlockedFibers.{source_at, HasEndedOrWaits, ended_waits_not, waits_for}
use Rattle.fx_fiber.specs.Fiber.{progress}
use Rattle.fx_text.specs.declared.pick.Pick.{Pick}
use Rattle.fx_text.specs.Meaning.{Meaning}
use Rattle.fx_report.specs.declared.wait.Wait.{Wait}
use Rattle.fx_report.specs.declared.blocked.Blocked.{Blocked}
use Rattle.fx_report.specs.Script.{script_of}
use Rattle.fx_report.specs.Text.{queue_names}
use Rattle.fx_report.specs.Waits.{WaitsAtQueueBelow, waits_in}
use Rattle.fx_report.proofs.BlockedFibers.{fibers_of, blocked_of, wait_from, one_blocked, each_wait}
use Rattle.fx_plain.specs.Started.{StartedView, reported, wait_of}
use Rattle.fx_plain.specs.declared.plain_machine.PlainMachine.{PlainMachine}
use Rattle.fx_plain.specs.declared.class.Class.{Class}
use Rattle.fx_plain.specs.declared.class.Class.TheVariants.{Unstarted, Able, Waits, Over}
use Rattle.fx_plain.specs.WholeMachine.{StartedFiber, WholeMachine, IsSettled}
use Rattle.fx_plain.specs.Chosen.{IsReplay}
use Rattle.fx_plain.specs.Chosen as chosen
use Rattle.fx_plain.specs.Classes.{IsOfClass, is_ready}
use Rattle.fx_plain.specs.ClassSets.{class_at}
use Rattle.fx_plain.specs.PlainQueue.{have_room, have_element}
use Rattle.fx_plain.specs.World.{HeldFiber}
use Rattle.fx_plain.specs.PlainMachine.{all_reported, all_waits, all_held, StandsForRun, IsUnderWay, Halts}
use Rattle.fx_plain.specs.Waits.{source_of_fiber, AreWaitsOf, IsReplayWithWaits}
use Rattle.fx_plain.specs.Standing.{StandsIn, StandsAt, IsReplayWithBlocked}
use Rattle.fx_plain.proofs.LawfulRuns.{opening_is_kept}
use Rattle.fx_plain.proofs.OneRun.{one_run}
use Rattle.fx_plain.proofs.ChosenRuns.{chosen_leads}
use Rattle.fx_plain.proofs.WorldClasses.{unready_cannot}
use Rattle.fx_plain.proofs.ReadyFibers.{waiting_goes}
use Rattle.fx_plain.proofs.PlainMachineSteps.{at_number, is_fiber}
use Rattle.fx_plain.proofs.NamedQueues.{run_named, named_source}
use Rattle.fx_plain.proofs.Standing.{stands_so}

-- a report with waits is a report
pub without_waits : (s : ScriptView) (ps : List Pick) (r : ReportView) (waits : List Wait) → IsReplayWithWaits s ps r waits → IsReplay s ps r
without_waits s ps r waits h = record { moves = h.moves; last = h.last; chosen = h.chosen; report = h.report }

-- the waits are at the script's queues
pub waits_named : (n : ℕ) (s : ScriptView) (ps : List Pick) (r : ReportView) (waits : List Wait) → NamesQueuesBelow n s.term
    → IsReplayWithWaits s ps r waits → All (WaitsAtQueueBelow n) waits
waits_named n s ps r waits term h =
    let named = run_named n s h.moves h.last term (chosen_leads s h.chosen) in
    All-weaker (λ (w : Wait). source_of_fiber (h.last.fibers w.fiber) ≡ Some w.source) (WaitsAtQueueBelow n)
    (λ w e. named_source n (h.last.fibers w.fiber) w.source (named w.fiber) e) waits h.waiting.sources

-- those of its declarations
pub waits_at_names : (m : Meaning) (ps : List Pick) (r : ReportView) (waits : List Wait) → NamesQueuesBelow (length m.queues) m.term
    → IsReplayWithWaits (script_of m) ps r waits → All (WaitsAtQueueBelow (length (queue_names m))) waits
waits_at_names m ps r waits term h =
    subst (λ (n : ℕ). All (WaitsAtQueueBelow n) waits) (sym (length-map m.queues (λ (q : List ℕ × ℕ). q.0)))
    (waits_named (length m.queues) (script_of m) ps r waits term h)

-- by its class, where that is not ready
by_class : (room element : ℕ → Bool) (r : Bool) (x : StartedFiber) (k : Class) → IsOfClass r (Some x) k → is_ready room element k ≡ false
    → HasEndedOrWaits (source_at x.progress) (has_ended x.progress)
by_class room element r x Able h e = absurd cc
by_class room element r x (Waits w) h e = waits_for w h.leaf (waiting_goes r x.counts x.progress w h)
by_class room element r x Over h e = ended_waits_not x.progress h
by_class room element r x Unstarted h e = absurd h

abbrev IsSourceIn : WholeMachine → Wait → Type 0
IsSourceIn m w = source_of_fiber (m.fibers w.fiber) ≡ Some w.source

one_source : (m : WholeMachine) (f : ℕ) (source : Option Source) (waits : List Wait) → source_of_fiber (m.fibers f) ≡ source
    → All (IsSourceIn m) waits → All (IsSourceIn m) (cons_option (option_map (wait_from f) source) waits)
one_source m f None waits e all = all
one_source m f (Some w) waits e all = All-cons (IsSourceIn m) (wait_from f w) waits e all

module _ {J : Type 0} (nodes : List Node) where
  abbrev source_in : StartedView J → Option Source
  source_in x = source_at (progress nodes x.fiber)

  abbrev ended_in : StartedView J → Bool
  ended_in x = has_ended (progress nodes x.fiber)

  abbrev wait_in : Option (StartedView J) → Option Wait
  wait_in place = option_and_then (wait_of nodes) place

  -- the waits of one place more
  more_waits : (fibers : List (Option (StartedView J))) (i : ℕ) (d : Option (StartedView J)) → i < length fibers
      → all_waits nodes (take (i + 1) fibers) ≡ all_waits nodes (take i fibers) ++ cons_option (wait_in (slice_index_or fibers i d)) []
  more_waits fibers i d lt = ap (all_waits nodes) (take_more fibers i d lt) ∙ filter_map-append wait_in (take i fibers) (slice_index_or fibers i d ∷ [])

  pub one_wait_more : (fibers : List (Option (StartedView J))) (i : ℕ) (d : Option (StartedView J)) (w : Wait) → i < length fibers
      → wait_in (slice_index_or fibers i d) ≡ Some w → all_waits nodes (take (i + 1) fibers) ≡ all_waits nodes (take i fibers) ++ w ∷ []
  one_wait_more fibers i d w lt e =
      more_waits fibers i d lt ∙ ap (λ (o : Option Wait). all_waits nodes (take i fibers) ++ cons_option o []) e

  pub no_wait_more : (fibers : List (Option (StartedView J))) (i : ℕ) (d : Option (StartedView J)) → i < length fibers
      → wait_in (slice_index_or fibers i d) ≡ None → all_waits nodes (take (i + 1) fibers) ≡ all_waits nodes (take i fibers)
  no_wait_more fibers i d lt e =
      more_waits fibers i d lt ∙ ap (λ (o : Option Wait). all_waits nodes (take i fibers) ++ cons_option o []) e
      ∙ append-nil (all_waits nodes (take i fibers))

  -- what is said of a place of the machine, in the whole machine
  abbrev IsSaidRightly : WholeMachine → Option (StartedView J) → Type 0
  IsSaidRightly m None = Unit {0}
  IsSaidRightly m (Some x) = HasEndedOrWaits (source_in x) (ended_in x) × (source_of_fiber (m.fibers x.fiber.port.number) ≡ source_in x)

  blocked_are : (m : WholeMachine) (fibers : List (Option (StartedView J))) → ((i : ℕ) → IsSaidRightly m (slice_index_or fibers i None))
      → fibers_of (all_waits nodes fibers) ≡ blocked_of (all_reported nodes fibers)
  blocked_are m [] h = refl
  blocked_are m (None ∷ fibers) h = blocked_are m fibers (λ i. h (suc i))
  blocked_are m (Some x ∷ fibers) h =
      one_blocked x.fiber.port.number (reported nodes x) (source_in x) (all_waits nodes fibers) (all_reported nodes fibers) refl (h 0).0
      (blocked_are m fibers (λ i. h (suc i)))

  sources_are : (m : WholeMachine) (fibers : List (Option (StartedView J))) → ((i : ℕ) → IsSaidRightly m (slice_index_or fibers i None))
      → All (IsSourceIn m) (all_waits nodes fibers)
  sources_are m [] h = All-nil (IsSourceIn m)
  sources_are m (None ∷ fibers) h = sources_are m fibers (λ i. h (suc i))
  sources_are m (Some x ∷ fibers) h =
      one_source m x.fiber.port.number (source_in x) (all_waits nodes fibers) (h 0).1 (sources_are m fibers (λ i. h (suc i)))

  module _ (s : ScriptView) (p : PlainMachine J) (m : WholeMachine) (so : StandsForRun nodes s p m) (halts : Halts p) where
    said_rightly : (f : ℕ) → IsSaidRightly m (at_number nodes p f)
    said_rightly f = by_place (at_number nodes p f) refl
      where
        by_place : (z : Option (StartedView J)) → at_number nodes p f ≡ z → IsSaidRightly m z
        by_place None here = tt
        by_place (Some x) here =
            let is = is_fiber nodes s p m so f x here in
            let far : progress nodes x.fiber ≡ is.fiber.progress = ap (λ (h : HeldFiber). h.progress) is.is in
            let number : x.fiber.port.number ≡ f = (rw here at (so.numbered f)).0 in
            let of_class : IsOfClass (m.requested f) (Some is.fiber) (class_at p.world.classes f) =
            subst (λ (z : Option StartedFiber). IsOfClass (m.requested f) z (class_at p.world.classes f)) is.at (so.tells.are f) in
            let waits = by_class (have_room p.world.queues) (have_element p.world.queues) (m.requested f) is.fiber
            (class_at p.world.classes f) of_class (halts f) in (
              subst (λ (q : Progress). HasEndedOrWaits (source_at q) (has_ended q)) (sym far) waits,
              ap (λ (k : ℕ). source_of_fiber (m.fibers k)) number ∙ ap source_of_fiber is.at ∙ ap source_at (sym far),
            )

    waits_are : (r : ReportView) → r.fibers ≡ all_reported nodes p.fibers.items → AreWaitsOf m r (all_waits nodes p.fibers.items)
    waits_are r fibers = record {
      blocked = blocked_are m p.fibers.items said_rightly ∙ ap blocked_of (sym fibers);
      sources = sources_are m p.fibers.items said_rightly;
    }

  -- the report of a machine that has halted on the way of the picks, and its waits
  module _ (s : ScriptView) (p : PlainMachine J) (all : List Pick) (r : ReportView) (waits : List Wait) (u : IsUnderWay nodes s all [] p) (halts : Halts p)
      (h : IsReplay s all r) (fibers : r.fibers ≡ all_reported nodes p.fibers.items) (are : waits ≡ all_waits nodes p.fibers.items) where
    -- it has come to the end of that run
    pub at_end : u.machine ≡ h.last
    at_end =
        let none : IsSettled s u.machine = λ f. unready_cannot s p.world (all_held nodes p) u.machine u.stands.stands u.stands.tells f (halts f) in
        let own = u.way [] u.machine (chosen.halts none) in
        sym (one_run s (opening_is_kept s) h.chosen own.1).1

    pub replay_with_waits : IsReplayWithWaits s all r waits
    replay_with_waits = record {
      moves = h.moves;
      last = h.last;
      chosen = h.chosen;
      report = h.report;
      waiting = rw (sym at_end, are) (waits_are s p u.machine u.stands halts r fibers);
    }

  pub replay_with_blocked : (s : ScriptView) (p : PlainMachine J) (all : List Pick) (r : ReportView) (blocked : List Blocked) → IsUnderWay nodes s all [] p
      → Halts p → IsReplay s all r → r.fibers ≡ all_reported nodes p.fibers.items → waits_in blocked ≡ all_waits nodes p.fibers.items
      → All (StandsIn nodes p) blocked → IsReplayWithBlocked nodes s all r blocked
  unfolding replay_with_waits
  replay_with_blocked s p all r blocked u halts h fibers are stand =
      let replay = replay_with_waits s p all r (waits_in blocked) u halts h fibers are in
      let end = at_end s p all r (waits_in blocked) u halts h fibers are in
      let sources = each_wait (IsSourceIn h.last) blocked replay.waiting.sources in
      record {
        replay = replay;
        stand = λ k b lt.
            subst (λ (m : WholeMachine). StandsAt nodes m (slice_index_or blocked k b)) end
            (stands_so nodes s p u.machine u.stands (slice_index_or blocked k b)
            (subst (λ (m : WholeMachine). IsSourceIn m (slice_index_or blocked k b).wait) (sym end) (sources k b lt)) (stand k b lt));
      }
