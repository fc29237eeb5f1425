-- The report of a machine is that of the whole machine for which it stands.
use Rattle.std.proofs.Common.{◌≡◌, ℕ, zero, suc, ◌+◌, ◌<◌, ◌≤◌, Bool, false, Option, Some, None, option_map, List, [], ◌∷◌, length, map}
use Rattle.std.proofs.Common.{refl, sym, ◌∙◌, ap, arith}
use Rattle.std.specs.Prelude.{slice_index_or, if◌then◌else◌}
use Rattle.std.specs.List.{range_with_len, filter, filter_map, cons_option}
use Rattle.std.proofs.lemmas.Option.{none-some}
use Rattle.std.proofs.lemmas.List.{length-map}
use Rattle.fx_term.specs.declared.node.Node.{Node}
use Rattle.fx_term.specs.Element.{Element, elements_of}
use Rattle.fx_term.specs.Script.{ScriptView, total}
use Rattle.fx_model.specs.Step.{has_ended}
use Rattle.fx_model.specs.Report.{FiberReportView, ReportView}
use Rattle.fx_text.specs.declared.pick.Pick.{Pick}
use Rattle.fx_plain.specs.Started.{StartedView, reported}
use Rattle.fx_plain.specs.declared.plain_machine.PlainMachine.{PlainMachine}
use Rattle.fx_plain.specs.WholeMachine.{StartedFiber, WholeMachine}
use Rattle.fx_plain.specs.SettledRun.{report_of_fiber, IsReportOf}
use Rattle.fx_plain.specs.Chosen.{IsReplay}
use Rattle.fx_plain.specs.PlainQueue.{QueueView, queue_at}
use Rattle.fx_plain.specs.World.{HeldFiber, held_of}
use Rattle.fx_plain.specs.OnTheWay.{IsOnTheWay}
use Rattle.fx_plain.specs.PlainMachine.{held, all_reported, all_held, StandsForRun, Halts}
use Rattle.fx_plain.proofs.ComputedRuns.{report}
use Rattle.fx_plain.proofs.ComputedReports.{report_is_report}
use Rattle.fx_plain.proofs.LawfulRuns.{IsKept, run_keeps}
use Rattle.fx_plain.proofs.OnTheWay.{way_ends}
use Rattle.fx_plain.proofs.WorldClasses.{unready_cannot}
use Rattle.fx_plain.proofs.PlainMachineSteps.{at_number, held_at, is_fiber}

-- a list by number, and what its elements give
module _ {X Y : Type 0} (give : Option X → Option Y) where
  by_number : (h : ℕ → Option Y) (xs : List (Option X)) (a : ℕ) → ((i : ℕ) → i < length xs → give (slice_index_or xs i None) ≡ h (a + i))
      → filter_map give xs ≡ filter_map h (range_with_len a (length xs))
  by_number h [] a e = refl
  by_number h (x ∷ xs) a e =
      let here : give x ≡ h a = e 0 (omega arith) ∙ ap h (let z : a + 0 ≡ a = omega arith in z) in
      rw here (ap (cons_option (h a)) (by_number h xs (a + 1)
      (λ i lt. e (suc i) (omega arith) ∙ ap h (let z : a + suc i ≡ a + 1 + i = omega arith in z))))

same_filter : (p q : ℕ → Bool) (a n : ℕ) → ((k : ℕ) → a ≤ k → k < a + n → p k ≡ q k) → filter p (range_with_len a n) ≡ filter q (range_with_len a n)
same_filter p q a zero e = refl
same_filter p q a (suc n) e =
    rw (e a (omega arith) (omega arith)) (ap (λ (ks : List ℕ). if q a then a ∷ ks else ks)
    (same_filter p q (a + 1) n (λ k low high. e k (omega arith) (omega arith))))

-- queues by number
left_by_number : (items : ℕ → List Element) (queues : List QueueView) (a : ℕ) → ((i : ℕ) → elements_of (queue_at queues i).items ≡ items (a + i))
    → map (λ (q : QueueView). elements_of q.items) queues ≡ map items (range_with_len a (length queues))
left_by_number items [] a e = refl
left_by_number items (q ∷ queues) a e =
    let here : elements_of q.items ≡ items a = e 0 ∙ ap items (let z : a + 0 ≡ a = omega arith in z) in
    rw here (ap (λ (left : List (List Element)). items a ∷ left) (left_by_number items queues (a + 1)
    (λ i. e (suc i) ∙ ap items (let z : a + suc i ≡ a + 1 + i = omega arith in z))))

-- what is reported of a fiber as the whole machine has it
report_of_held : ℕ → List ℕ → HeldFiber → FiberReportView
report_of_held f stamps h = record { id = f; parent = h.parent; has_ended = has_ended h.progress; trace = h.trace; stamps = stamps }

module _ {J : Type 0} (nodes : List Node) (s : ScriptView) (p : PlainMachine J) (m : WholeMachine) (so : StandsForRun nodes s p m) where
  kept : IsKept s m
  kept = run_keeps s so.moves m so.run

  places : length p.fibers.items ≡ total s
  places = sym (length-map p.fibers.items (option_map (held nodes))) ∙ so.stands.held_long

  number_is : (f : ℕ) (x : StartedView J) → at_number nodes p f ≡ Some x → x.fiber.port.number ≡ f
  number_is f x here = (rw here at (so.numbered f)).0

  reported_is : (f : ℕ) (x : StartedView J) → at_number nodes p f ≡ Some x → Some (reported nodes x) ≡ report_of_fiber f (m.stamps.trace f) (m.fibers f)
  unfolding report_of_held
  reported_is f x here =
      let is = is_fiber nodes s p m so f x here in
      let stamps = m.stamps.trace f in
      let as_held : reported nodes x ≡ report_of_held f x.fiber.stamps (held nodes x) =
      ap (λ (k : ℕ). report_of_held k x.fiber.stamps (held nodes x)) (number_is f x here) in
      let as_stamped : report_of_held f x.fiber.stamps (held nodes x) ≡ report_of_held f stamps (held nodes x) =
      ap (λ (ss : List ℕ). report_of_held f ss (held nodes x)) (rw here at (so.stamped f)).1 in
      let as_fiber : report_of_held f stamps (held nodes x) ≡ report_of_held f stamps (held_of is.fiber) = ap (report_of_held f stamps) is.is in
      ap Some (as_held ∙ as_stamped ∙ as_fiber) ∙ sym (ap (report_of_fiber f stamps) is.at)

  none_is : (f : ℕ) → at_number nodes p f ≡ None → None ≡ report_of_fiber f (m.stamps.trace f) (m.fibers f)
  none_is f here = by_fiber (m.fibers f) (sym (ap (option_map (held nodes)) here) ∙ sym (held_at nodes p f) ∙ so.stands.fibers f)
    where
      by_fiber : (z : Option StartedFiber) → None ≡ option_map held_of z → None ≡ report_of_fiber f (m.stamps.trace f) z
      by_fiber None e = refl
      by_fiber (Some y) e = absurd (none-some (held_of y) e)

  each_is : (f : ℕ) → option_map (reported nodes) (at_number nodes p f) ≡ report_of_fiber f (m.stamps.trace f) (m.fibers f)
  each_is f = by_place (at_number nodes p f) refl
    where
      by_place : (z : Option (StartedView J)) → at_number nodes p f ≡ z → option_map (reported nodes) z ≡ report_of_fiber f (m.stamps.trace f) (m.fibers f)
      by_place None here = none_is f here
      by_place (Some x) here = reported_is f x here

  module _ (fibers : List FiberReportView) (left : List (List Element)) (outside : List ℕ)
      (fibers_are : fibers ≡ all_reported nodes p.fibers.items) (left_is : left ≡ map (λ (q : QueueView). elements_of q.items) p.world.queues)
      (outside_is : outside ≡ filter (λ f. slice_index_or p.world.from_outside f false) (range_with_len 0 (length p.world.classes))) where
    abbrev pub machine_report : ReportView
    machine_report = record { fibers = fibers; left = left; outside = outside; late = 0 }

    many : length p.world.queues ≡ length s.capacities
    many = sym (length-map p.world.queues (λ (q : QueueView). q.capacity)) ∙ ap length so.stands.capacities

    is_report : machine_report ≡ report s m
    is_report =
        let fibers_so : fibers ≡ (report s m).fibers =
        fibers_are ∙ by_number (option_map (reported nodes)) (λ f. report_of_fiber f (m.stamps.trace f) (m.fibers f)) p.fibers.items 0
        (λ i lt. each_is i ∙ ap (λ f. report_of_fiber f (m.stamps.trace f) (m.fibers f)) (let e : i ≡ 0 + i = omega arith in e))
        ∙ ap (λ (n : ℕ). filter_map (λ f. report_of_fiber f (m.stamps.trace f) (m.fibers f)) (range_with_len 0 n)) places in
        let left_so : left ≡ (report s m).left =
        left_is ∙ left_by_number m.queues p.world.queues 0 (λ q. so.stands.queues q ∙ ap m.queues (let e : q ≡ 0 + q = omega arith in e))
        ∙ ap (λ (n : ℕ). map m.queues (range_with_len 0 n)) many in
        let outside_so : outside ≡ (report s m).outside =
        outside_is ∙ ap (λ (n : ℕ). filter (λ f. slice_index_or p.world.from_outside f false) (range_with_len 0 n)) so.tells.long
        ∙ same_filter (λ f. slice_index_or p.world.from_outside f false) m.from_outside 0 (total s) (λ f low high. so.stands.from_outside f (omega arith)) in
        rw (fibers_so, left_so, outside_so) refl

    is_report_of : IsReportOf s m machine_report
    is_report_of = rw is_report (report_is_report s m kept)

    pub is_replay : (all : List Pick) → IsOnTheWay s all [] m → Halts p → IsReplay s all machine_report
    is_replay all way halts =
        way_ends s all m way machine_report (λ f. unready_cannot s p.world (all_held nodes p) m so.stands so.tells f (halts f)) is_report_of
