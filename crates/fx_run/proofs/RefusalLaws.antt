-- Where the trace of a fiber tells of a refusal, its queue was full, or empty.
use Rattle.std.proofs.Common.{◌≡◌, ℕ, ◌<◌, ◌≤◌, Bool, Option, Some, None, List, [], ◌∷◌, ◌++◌, length, refl, sym, ◌∙◌, ap, subst}
use Rattle.std.proofs.Common.{inl, inr, ◌⊎◌, arith, append-nil}
use Rattle.std.specs.Prelude.{if◌then◌else◌}
use Rattle.std.proofs.lemmas.Bool.{eq-eqb, cases_lt}
use Rattle.std.proofs.lemmas.List.Elements.{filter_map-append}
use Rattle.fx_term.specs.Lists.{Among}
use Rattle.fx_term.specs.declared.event.Event.{Event}
use Rattle.fx_term.specs.declared.event.Event.TheVariants as event
use Rattle.fx_term.specs.declared.queue_event.QueueEvent.{QueueEvent}
use Rattle.fx_term.specs.Queue.{queue_event, queue_events, cut}
use Rattle.fx_term.specs.Script.{ScriptView}
use Rattle.fx_model.specs.Report.{FiberReportView, ReportView, fiber_in, parent_in, parent_of_report}
use Rattle.fx_model.specs.LawfulReport.{is_start_of, starts_of, is_parent, HasStarters, IsLawfulReport}
use Rattle.fx_queue.specs.History.{Begins}
use Rattle.fx_queue.specs.PassView as queue
use Rattle.fx_queue.proofs.Histories.{cut-append, Begins-trans}
use Rattle.fx_fiber.specs.StampedDeed.{deeds_of}
use Rattle.fx_run.specs.RanFiber.{RanFiber, bares_of, ran_at}
use Rattle.fx_run.specs.Reported.{report_of_bare}
use Rattle.fx_run.specs.EndOfRun.{EndsWithReport}
use Rattle.fx_run.specs.Ancestors.{ComesFrom, started, through}
use Rattle.fx_run.specs.Refusals.{IsOnlyFiber, AreRefusalsTrue}
use Rattle.fx_run.proofs.Members.{any_among}
use Rattle.fx_run.proofs.GivenFibers.{id_at, report_in, of_report}
use Rattle.fx_run.proofs.Gathering.{gathered_of}
use Rattle.fx_run.proofs.WholeEntries.{part_in_trace, pass_number_at}
use Rattle.fx_run.proofs.Starters.{starts_some}
use Rattle.fx_run.proofs.Lawful.{history_goes_on}
use Rattle.fx_run.proofs.EndedRun.{end_report, end_is_lawful}
use Rattle.fx_run.proofs.QueueDeeds.{queue_done}
use Rattle.fx_run.proofs.FoundPasses.{none_before, AllFound, AllHanded}

-- nobody starts a fiber in a report of one
module _ (r : ReportView) (starters : HasStarters r) (f : ℕ) (only : IsOnlyFiber r f) where
  is_main : f ≡ 0
  is_main = sym (only 0 starters.main.0 starters.main.1)

  no_parent : (g : ℕ) → parent_in r g ≡ None
  no_parent g = by_fiber (fiber_in r g) refl
    where
      by_fiber : (o : Option FiberReportView) → fiber_in r g ≡ o → parent_in r g ≡ None
      by_fiber None is = ap parent_of_report is
      by_fiber (Some x) is =
          ap (parent_in r) (only g x is ∙ is_main) ∙ (ap parent_of_report starters.main.1 ∙ starters.main.2)

  starts_nobody : (x : FiberReportView) → fiber_in r f ≡ Some x → (g : ℕ) → Among (event.Start g) x.trace → ⊥
  starts_nobody x at g i =
      let none : starts_of g x.trace ≡ 0 = starters.once f x at g ∙ ap (λ (o : Option ℕ). if is_parent o f then 1 else 0) (no_parent g) in
      let some = starts_some g x.trace (any_among (is_start_of g) x.trace (event.Start g) i (eq-eqb g g refl)) in
      omega (arith, none, some)

has_none : {A : Type 0} (xs : List A) → ((x : A) → Among x xs → ⊥) → xs ≡ []
has_none [] h = refl
has_none (x ∷ xs) h = absurd (h x (inl refl))

-- by the histories of the report with which a run has ended
module _ (s : ScriptView) (may : ℕ → Bool) (answer : ReportView) (h : EndsWithReport s may answer) (all : AllFound s h.fibers)
    (handed : AllHanded s h.fibers) where
  abbrev ps : List RanFiber
  ps = h.fibers

  abbrev told : ReportView
  told = end_report s may answer h

  abbrev lawful : IsLawfulReport s may told
  lawful = end_is_lawful s may answer h

  goes_on : (q f : ℕ) (p : RanFiber) → q < length s.capacities → ran_at ps f ≡ Some p → Begins (lawful.histories q).history (p.passes q).seen
  goes_on =
      history_goes_on s h.nodes ps h.left h.outside h.late h.ran h.ascending h.answered.none_lost h.words h.answered.none_unsettled
      h.term h.noted may h.named h.left_by_queue h.queues h.undeclared

  -- a fiber that is the only one split its passes for nobody
  no_parts : (q f : ℕ) (p : RanFiber) → ran_at ps f ≡ Some p → IsOnlyFiber told f → (p.passes q).parts ≡ []
  no_parts q f p at only = has_none (p.passes q).parts (λ g i.
      let d = (p.lawful.agreed.plain.queues_agree q).parts g i in
      starts_nobody told lawful.starters f only (report_of_bare (bares_of ps) p.bare) (report_in ps h.left h.outside h.late f p at) g
      (part_in_trace g d.0 p d.1))

  shared_with : (q f : ℕ) (p : RanFiber) → ran_at ps f ≡ Some p → (seen : List QueueEvent)
      → (q < length s.capacities) × Begins (p.passes q).seen seen ⊎ (seen ≡ []) → Begins (lawful.histories q).history seen
  shared_with q f p at seen (inl (some, since)) = Begins-trans (lawful.histories q).history (p.passes q).seen seen (goes_on q f p some at) since
  shared_with q f p at seen (inr none) = ((lawful.histories q).history, ap (λ l. l ++ (lawful.histories q).history) (sym none))

  -- what a fiber began with has what those that it comes from had done before
  record BeganWith (q f g : ℕ) (p : RanFiber) (earlier : List Event) : Type 0 where
    seen : List QueueEvent
    begun : Begins (p.passes q).began seen
    known : cut g seen ≡ queue_events q g earlier
    fiber : RanFiber
    at : ran_at ps g ≡ Some fiber
    before : Begins seen (fiber.passes q).began

  -- of a fiber that another one started
  started_with : (q : ℕ) → q < length s.capacities → (f : ℕ) (p : RanFiber) → ran_at ps f ≡ Some p → (g : ℕ) (x : FiberReportView)
      → fiber_in told g ≡ Some x → (before after : List Event) → x.trace ≡ before ++ event.Start f ∷ after → BeganWith q f g p before
  started_with q lt f p pat g x at before after is =
      let o = of_report ps h.left h.outside h.late g x at in
      let part = handed g o.fiber o.at f before after (ap (λ (y : FiberReportView). y.trace) (sym o.is) ∙ is) q lt in
      let c = h.queues q lt in
      let member : (i : ℕ) (z : RanFiber) → ran_at ps i ≡ Some z → Among (z.passes q) (queue.entries c.view) =
      gathered_of ps h.ascending (λ (z : RanFiber). z.passes q) (queue.entries c.view) c.gathered in
      let given = c.rest.handed (o.fiber.passes q) (p.passes q) (member g o.fiber o.at) (member f p pat) part.0 part.1
      (part.2 ∙ sym (pass_number_at ps q f p pat)) in
      record {
        seen = part.0.seen;
        begun = ([], given.0 ∙ sym (append-nil part.0.seen));
        known = part.3;
        fiber = o.fiber;
        at = o.at;
        before = given.1;
      }

  began_with : (q : ℕ) → q < length s.capacities → (f : ℕ) (p : RanFiber) → ran_at ps f ≡ Some p → (g : ℕ) (earlier : List Event)
      → ComesFrom told f g earlier → BeganWith q f g p earlier
  began_with q lt f p pat g earlier (started x after at is) = started_with q lt f p pat g x at earlier after is
  began_with q lt f p pat g earlier (through k between x after line at is) =
      let from = began_with q lt f p pat k between line in
      let start = started_with q lt k from.fiber from.at g x at earlier after is in
      record {
        seen = start.seen;
        begun = Begins-trans (p.passes q).began (from.fiber.passes q).began start.seen
            (Begins-trans (p.passes q).began from.seen (from.fiber.passes q).began from.begun from.before) start.begun;
        known = start.known;
        fiber = start.fiber;
        at = start.at;
        before = start.before;
      }

  -- nobody did anything to a queue that there is not
  nothing_done : (q : ℕ) → length s.capacities ≤ q → (g : ℕ) (x : FiberReportView) → fiber_in told g ≡ Some x → (before after : List Event)
      → x.trace ≡ before ++ after → queue_events q g before ≡ []
  nothing_done q le g x at before after is =
      let o = of_report ps h.left h.outside h.late g x at in
      let p = o.fiber in
      let trace : p.bare.trace ≡ before ++ after = ap (λ (y : FiberReportView). y.trace) (sym o.is) ∙ is in
      let number = id_at ps g p o.at in
      let done = queue_done p.bare.nodes q p.bare.id _ p.bare.counts _ _ p.lawful.labels (deeds_of p.lawful.deeds) p.lawful.run p.lawful.are_deeds in
      let none : queue_events q p.bare.id p.bare.trace ≡ [] =
      ap (queue_events q p.bare.id) (sym p.lawful.traced) ∙ (sym done ∙ (sym (p.lawful.agreed.plain.queues_agree q).acts ∙ h.undeclared q le g p o.at)) in
      none_before (queue_events q g before) (queue_events q g after)
      (sym (filter_map-append (queue_event q g) before after) ∙ (ap (queue_events q g) (sym trace)
      ∙ subst (λ (n : ℕ). queue_events q n p.bare.trace ≡ []) number none))

  comes_after_nothing : (q : ℕ) → length s.capacities ≤ q → (f g : ℕ) (earlier : List Event) → ComesFrom told f g earlier → queue_events q g earlier ≡ []
  comes_after_nothing q le f g earlier (started x after at is) = nothing_done q le g x at earlier (event.Start f ∷ after) is
  comes_after_nothing q le f g earlier (through h between x after line at is) = nothing_done q le g x at earlier (event.Start h ∷ after) is

  ancestors_by : (q f : ℕ) (p : RanFiber) → ran_at ps f ≡ Some p → (seen : List QueueEvent) → Begins seen (p.passes q).began
      → (q < length s.capacities) ⊎ (length s.capacities ≤ q) → (g : ℕ) (earlier : List Event) → ComesFrom told f g earlier
      → Begins (cut g seen) (queue_events q g earlier)
  ancestors_by q f p at seen begun (inl lt) g earlier line =
      let from = began_with q lt f p at g earlier line in
      let on = Begins-trans seen (p.passes q).began from.seen begun from.begun in
      (cut g on.0, ap (cut g) on.1 ∙ (cut-append g from.seen on.0 ∙ ap (λ l. l ++ cut g on.0) from.known))
  ancestors_by q f p at seen begun (inr le) g earlier line =
      (cut g seen, ap (λ l. l ++ cut g seen) (sym (comes_after_nothing q le f g earlier line)))

  pub end_refusals : AreRefusalsTrue s may told lawful
  end_refusals f x at k q before after is =
      let o = of_report ps h.left h.outside h.late f x at in
      let w = all f o.fiber o.at k q before after (ap (λ (y : FiberReportView). y.trace) (sym o.is) ∙ is) in
      record {
        log = w.log;
        items = w.items;
        shared = w.seen;
        legal = w.legal;
        found = w.found;
        reported = shared_with q f o.fiber o.at w.seen w.since;
        begins = w.begins;
        known = w.known;
        cuts = w.cuts;
        ancestors = ancestors_by q f o.fiber o.at w.seen w.begun (cases_lt q (length s.capacities));
        within = w.within;
        alone = λ only. w.lone (is_main told lawful.starters f only) (no_parts q f o.fiber o.at only);
      }
