-- From what is known when a run has ended, its report is lawful.
use Rattle.std.proofs.Common.{◌≡◌, ℕ, ◌<◌, ◌≤◌, All, Bool, Option, Some, None, List, [], refl, sym, ◌∙◌, ap, subst, inl, inr, ◌⊎◌, arith}
use Rattle.std.specs.Prelude.{◌≢◌, length, slice_index_or}
use Rattle.std.specs.List.{list_any}
use Rattle.std.proofs.lemmas.Bool.{eq-eqb, cases_lt, or_left, or_right}
use Rattle.std.proofs.lemmas.Option.{none-some}
use Rattle.std.proofs.lemmas.List.{get_or_past, length-map}
use Rattle.fx_term.specs.Lists.{Among}
use Rattle.fx_term.specs.declared.node.Node.{Node}
use Rattle.fx_term.specs.declared.outcome.Outcome.{Outcome}
use Rattle.fx_term.specs.declared.outcome.Outcome.TheVariants.{Canceled}
use Rattle.fx_term.specs.declared.event.Event.{Event}
use Rattle.fx_term.specs.declared.event.Event.TheVariants as event
use Rattle.fx_term.specs.declared.item.Item.{Item}
use Rattle.fx_term.specs.declared.queue_event.QueueEvent.{QueueEvent}
use Rattle.fx_term.specs.Element.{Element, elements_of}
use Rattle.fx_term.specs.Script.{ScriptView}
use Rattle.fx_term.specs.Forms.{IsCore}
use Rattle.fx_term.specs.Meaning.{root_term}
use Rattle.fx_term.specs.Queue.{cut, queue_events, Leaves}
use Rattle.fx_term.proofs.LeavesLaws.{leaves_nothing}
use Rattle.fx_model.specs.Row.{Counts, Label, Silent, Shows, Learns, Starts}
use Rattle.fx_model.specs.Origin.{Origin, main_origin, origin_of}
use Rattle.fx_model.specs.Step.{Progress, HasEnded}
use Rattle.fx_model.specs.Run.{first_counts, events}
use Rattle.fx_model.specs.Report.{FiberReportView, ReportView, fiber_in, trace_of_report, trace_in, capacity_of, is_request_for}
use Rattle.fx_model.specs.LawfulReport.{HasRun, BeginsAs, HasRuns, HasOrigins, HasHistory, EndsWith, IsLearnt, IsSeenRightly, IsLawfulReport}
use Rattle.fx_model.specs.Headline.{KeepsWhatIsPromised}
use Rattle.fx_model.proofs.Beginnings.{main_begins}
use Rattle.fx_model.proofs.HeadlineLaws.{lawful_report_holds}
use Rattle.fx_fiber.specs.StampedDeed.{deeds_of}
use Rattle.fx_fiber.specs.Bare.{reached}
use Rattle.fx_word.specs.declared.entry.Entry.{Entry}
use Rattle.fx_queue.specs.declared.entry.Entry as pass
use Rattle.fx_queue.specs.History.{Begins}
use Rattle.fx_queue.specs.PassView as queue
use Rattle.fx_port.specs.PortView.{beginning_in}
use Rattle.fx_run.specs.RanFiber.{RanFiber, bares_of, ran_at}
use Rattle.fx_run.specs.Reported.{RanCode, AreAscending, report_of_bare, NoneIsLost, NoneIsUnsettled}
use Rattle.fx_run.specs.EndOfRun.{AreNamed, AreNoted, WordsEnd, QueueEnd, IsUntouched, EndsWithReport}
use Rattle.fx_run.proofs.Members.{all_among, any_among, found_passes, contained_passes}
use Rattle.fx_run.proofs.GivenFibers.{id_at, bare_in, report, report_in, report_nowhere, of_report, left_is}
use Rattle.fx_run.proofs.DeedLaws.{end_shown, saw_done, learnt_done, request_shown, shown}
use Rattle.fx_run.proofs.QueueDeeds.{queue_done}
use Rattle.fx_run.proofs.RunEnds.{label_ends_trace}
use Rattle.fx_run.proofs.Gathering.{gathered_of, whose}
use Rattle.fx_run.proofs.WholeEntries.{pass_number_at, main_is_given}
use Rattle.fx_run.proofs.Starters.{its_code, in_seat, entry_of, child_of, none_before_main, starters_told}

-- what a fiber began with, its run, and how far it is; where there is no such fiber it does not matter
abbrev begin_in : RanFiber → Origin
begin_in p = origin_of p.bare.nodes (beginning_in p.bare.nodes p.words.begin)

module _ (s : ScriptView) where
  abbrev pub origin_at : Option RanFiber → Origin
  origin_at None = main_origin s.term
  origin_at (Some p) = begin_in p

  abbrev pub labels_at : Option RanFiber → List Label
  labels_at None = []
  labels_at (Some p) = p.lawful.labels

  abbrev pub counts_at : Option RanFiber → Counts
  counts_at None = first_counts (main_origin s.term)
  counts_at (Some p) = p.bare.counts

  abbrev pub progress_at : Option RanFiber → Progress
  progress_at None = HasEnded Canceled
  progress_at (Some p) = reached p.bare

module _ (s : ScriptView) (nodes : List Node) (ps : List RanFiber) (left : List (List Item)) (outside : List ℕ) (late : ℕ)
    (ran : RanCode nodes (bares_of ps)) (ascending : AreAscending (bares_of ps)) (lost : NoneIsLost (bares_of ps)) (words : WordsEnd ps) where
  abbrev pub told : ReportView
  told = report ps left outside late

  abbrev origin_in : ℕ → Origin
  origin_in f = origin_at s (ran_at ps f)

  -- what fibers begin with
  begins_as : (g : ℕ) (p : RanFiber) → ran_at ps g ≡ Some p → (l : Label) → Among l p.lawful.labels → BeginsAs origin_in l
  begins_as g p at (Starts f b) i = let c = child_of nodes ps ran ascending lost words g f b p at i in ap (origin_at s) c.at ∙ c.is
  begins_as g p at Silent i = tt
  begins_as g p at (Shows e) i = tt
  begins_as g p at (Learns f o e) i = tt

  main_begins_so : s.term ≡ root_term nodes → origin_in 0 ≡ main_origin s.term
  main_begins_so term =
      let m = main_is_given ps lost in
      let none = none_before_main nodes ps ran ascending lost words m.0 m.1 in
      ap (origin_at s) m.1 ∙ ap (origin_of m.0.bare.nodes) (ap (beginning_in m.0.bare.nodes) none)
      ∙ main_begins m.0.bare.nodes ∙ ap (λ (ns : List Node). main_origin (root_term ns)) (its_code nodes ps ran ascending lost words 0 m.0 m.1)
      ∙ ap main_origin (sym term)

  pub trace_at : (f : ℕ) (p : RanFiber) → ran_at ps f ≡ Some p → trace_in told f ≡ p.bare.trace
  trace_at f p at = ap trace_of_report (report_in ps left outside late f p at)

  pub trace_nowhere : (f : ℕ) → ran_at ps f ≡ None → trace_in told f ≡ []
  trace_nowhere f e = ap trace_of_report (report_nowhere ps left outside late f e)

  -- what was learnt
  ended_as : (f : ℕ) (p : RanFiber) → ran_at ps f ≡ Some p → (o : Outcome) → p.words.ended ≡ Some o → EndsWith (trace_in told f) o
  ended_as f p at o e =
      let src = end_shown p.bare.nodes p.lawful.labels (deeds_of p.lawful.deeds) p.lawful.are_deeds o (p.lawful.agreed.plain.words_agree.ended o e) in
      let ends = label_ends_trace (begin_in p) p.lawful.labels p.bare.counts (reached p.bare) src.item o p.lawful.run src.among src.gives in
      subst (λ (es : List Event). EndsWith es o) (p.lawful.traced ∙ sym (trace_at f p at)) ends

  is_learnt : (g : ℕ) (p : RanFiber) → ran_at ps g ≡ Some p → (l : Label) → Among l p.lawful.labels → IsLearnt told l
  is_learnt g p at (Learns f o e) i =
      let found = p.lawful.agreed.plain.words_agree.found f o (learnt_done p.bare.nodes p.lawful.labels (deeds_of p.lawful.deeds) p.lawful.are_deeds f o e i) in
      let d = words.settled.ended p.words (in_seat nodes ps ran ascending lost words g p at) f o found in
      let has = entry_of nodes ps ran ascending lost words f d.0 d.1 d.2 in
      ended_as f has.fiber has.at o (sym (ap (λ (w : Entry). w.ended) has.is) ∙ d.3)
  is_learnt g p at Silent i = tt
  is_learnt g p at (Shows e) i = tt
  is_learnt g p at (Starts f b) i = tt

  -- what was seen
  module _ (noted_outside : AreNoted ps outside) where
    is_seen : (g : ℕ) (p : RanFiber) → ran_at ps g ≡ Some p → (l : Label) → Among l p.lawful.labels → IsSeenRightly told g l
    is_seen g p at (Shows event.Seen) i =
        let saw = p.lawful.agreed.plain.words_agree.saw (saw_done p.bare.nodes p.lawful.labels (deeds_of p.lawful.deeds) p.lawful.are_deeds i) in
        let d = words.settled.requested p.words (in_seat nodes ps ran ascending lost words g p at) saw in
        let has = entry_of nodes ps ran ascending lost words d.0.id d.0 d.1 refl in
        let q = has.fiber in
        let number : p.words.id ≡ g = p.lawful.agreed.plain.words_agree.number ∙ id_at ps g p at in
        let asked : Among g q.words.asked =
        subst (λ (w : Entry). Among g w.asked) has.is (subst (λ (n : ℕ). Among n d.0.asked) number d.2) in
        elim (q.lawful.agreed.plain.words_agree.asked g asked) [
          | inl done ↦
              (let label = request_shown q.bare.nodes q.lawful.labels (deeds_of q.lawful.deeds) q.lawful.are_deeds g done in
              let there : Among (event.Request g) q.bare.trace =
              subst (λ (es : List Event). Among (event.Request g) es) q.lawful.traced (shown q.lawful.labels (event.Request g) label) in
              let asks = any_among (is_request_for g) q.bare.trace (event.Request g) there (eq-eqb g g refl) in
              or_left _ _
              (found_passes (λ (x : FiberReportView). x.id) d.0.id (λ (x : FiberReportView). list_any (is_request_for g) x.trace) told.fibers
              (report_of_bare (bares_of ps) q.bare) (report_in ps left outside late d.0.id q has.at) asks))
          | inr noted ↦ or_right _ _ (contained_passes outside g (noted_outside d.0.id q has.at g noted))
        ]
    is_seen g p at Silent i = tt
    is_seen g p at (Shows _) i = tt
    is_seen g p at (Learns f o e) i = tt
    is_seen g p at (Starts f b) i = tt

  -- what a fiber's trace does to a queue is what its pass did
  pub acts_told : (q f : ℕ) (p : RanFiber) → ran_at ps f ≡ Some p → (p.passes q).acts ≡ queue_events q f (trace_in told f)
  acts_told q f p at =
      (p.lawful.agreed.plain.queues_agree q).acts
      ∙ queue_done p.bare.nodes q p.bare.id _ p.bare.counts _ (reached p.bare) p.lawful.labels (deeds_of p.lawful.deeds) p.lawful.run p.lawful.are_deeds
      ∙ ap (λ (n : ℕ). queue_events q n (events p.lawful.labels)) (id_at ps f p at)
      ∙ ap (queue_events q f) (p.lawful.traced ∙ sym (trace_at f p at))

  -- a queue that was closed
  closed_history : (q capacity : ℕ) → QueueEnd q capacity ps (slice_index_or left q []) → HasHistory told q capacity
  closed_history q capacity c = record {
    history = c.rest.log;
    leaves = subst (λ (xs : List Element). Leaves capacity c.rest.log xs) (sym (left_is left q))
        (subst (λ (n : ℕ). Leaves n c.rest.log (elements_of (slice_index_or left q []))) c.sized c.rest.legal);
    cuts = λ f. by_fiber f (ran_at ps f) refl;
  }
    where
      has : RanFiber → pass.Entry
      has p = p.passes q

      by_fiber : (f : ℕ) (o : Option RanFiber) → ran_at ps f ≡ o → cut f c.rest.log ≡ queue_events q f (trace_in told f)
      by_fiber f (Some p) at =
          ap (λ (n : ℕ). cut n c.rest.log) (sym (pass_number_at ps q f p at))
          ∙ c.rest.cuts (p.passes q) (gathered_of ps ascending (λ (z : RanFiber). z.passes q) (queue.entries c.view) c.gathered f p at)
          ∙ acts_told q f p at
      by_fiber f None none = c.rest.only f apart ∙ sym (ap (queue_events q f) (trace_nowhere f none))
        where
          apart : (e : pass.Entry) → queue.In e c.view → e.id ≢ f
          apart e i same =
              let o = whose ps ascending (λ (z : RanFiber). z.passes q) (queue.entries c.view) c.gathered e i in
              let number : o.fiber.bare.id ≡ f =
              sym (pass_number_at ps q o.fiber.bare.id o.fiber o.at) ∙ sym (ap (λ (w : pass.Entry). w.id) o.is) ∙ same in
              none-some o.fiber (sym none ∙ ap (ran_at ps) (sym number) ∙ o.at)

  -- a queue that the script does not declare
  no_history : (q : ℕ) → length left ≤ q → IsUntouched q ps → HasHistory told q (capacity_of s q)
  no_history q past untouched = record {
    history = [];
    leaves = subst (λ (xs : List Element). Leaves (capacity_of s q) [] xs) (sym (left_is left q ∙ ap elements_of (get_or_past left q [] past)))
        (leaves_nothing (capacity_of s q));
    cuts = λ f. by_fiber f (ran_at ps f) refl;
  }
    where
      by_fiber : (f : ℕ) (o : Option RanFiber) → ran_at ps f ≡ o → [] ≡ queue_events q f (trace_in told f)
      by_fiber f (Some p) at = sym (untouched f p at) ∙ acts_told q f p at
      by_fiber f None none = sym (ap (queue_events q f) (trace_nowhere f none))

  -- each fiber has a run of its own
  module _ (settled : NoneIsUnsettled s (bares_of ps) told) where
    run_told : (f : ℕ) (x : FiberReportView) → fiber_in told f ≡ Some x
        → HasRun s told f x (origin_at s (ran_at ps f)) (labels_at s (ran_at ps f)) (counts_at s (ran_at ps f)) (progress_at s (ran_at ps f))
    run_told f x e =
        let o = of_report ps left outside late f x e in
        let p = o.fiber in
        let run : HasRun s told f x (begin_in p) p.lawful.labels p.bare.counts (reached p.bare) =
        record {
          run = p.lawful.run;
          trace = p.lawful.traced ∙ sym (ap (λ (z : FiberReportView). z.trace) o.is);
          state = sym (ap (λ (z : FiberReportView). z.has_ended) o.is);
          unable = settled f p.bare (bare_in ps f p o.at);
        } in
        rw o.at run

    unfoldable all_runs : HasRuns s told
    all_runs = record {
      origin = λ f. origin_at s (ran_at ps f);
      labels = λ f. labels_at s (ran_at ps f);
      counts = λ f. counts_at s (ran_at ps f);
      progress = λ f. progress_at s (ran_at ps f);
      run = run_told;
    }

    -- what holds of each label of a fiber's run
    all_labels : (P : Label → Type 0) (f : ℕ) → ((p : RanFiber) → ran_at ps f ≡ Some p → (l : Label) → Among l p.lawful.labels → P l)
        → (x : FiberReportView) → fiber_in told f ≡ Some x → All P (all_runs.labels f)
    unfolding all_runs
    all_labels P f each x e = let o = of_report ps left outside late f x e in rw o.at (all_among P o.fiber.lawful.labels (each o.fiber o.at))

    module _ (term : s.term ≡ root_term nodes) (noted_outside : AreNoted ps outside) (may : ℕ → Bool) (named : AreNamed s may outside)
        (by_queue : length left ≡ length s.capacities)
        (queues : (q : ℕ) → q < length s.capacities → QueueEnd q (capacity_of s q) ps (slice_index_or left q []))
        (undeclared : (q : ℕ) → length s.capacities ≤ q → IsUntouched q ps) where
      origins_told : HasOrigins s told all_runs
      unfolding all_runs
      origins_told = record { main = main_begins_so term; child = λ f x e. all_labels (BeginsAs origin_in) f (λ p at. begins_as f p at) x e }

      history_by : (q : ℕ) → (q < length s.capacities) ⊎ (length s.capacities ≤ q) → HasHistory told q (capacity_of s q)
      history_by q (inl lt) = closed_history q (capacity_of s q) (queues q lt)
      history_by q (inr le) = no_history q (subst (λ (n : ℕ). n ≤ q) (sym by_queue) le) (undeclared q le)

      -- the history of a queue that was closed goes on from all that a fiber saw of it
      begins_by : (q f : ℕ) (p : RanFiber) → q < length s.capacities → ran_at ps f ≡ Some p
          → (o : (q < length s.capacities) ⊎ (length s.capacities ≤ q)) → Begins (history_by q o).history (p.passes q).seen
      unfolding closed_history history_by
      begins_by q f p some at (inl lt) =
          let c = queues q lt in
          c.rest.begins (p.passes q) (gathered_of ps ascending (λ (z : RanFiber). z.passes q) (queue.entries c.view) c.gathered f p at)
      begins_by q f p some at (inr le) = absurd (omega (arith, some, le))

      history_told : (q : ℕ) → HasHistory told q (capacity_of s q)
      history_told q = history_by q (cases_lt q (length s.capacities))

      pub report_is_lawful : IsLawfulReport s may told
      report_is_lawful = record {
        starters = starters_told nodes ps ran ascending lost words left outside late;
        runs = all_runs;
        origins = origins_told;
        left_by_queue = length-map left elements_of ∙ by_queue;
        histories = history_told;
        learnt = λ f x e. all_labels (IsLearnt told) f (λ p at. is_learnt f p at) x e;
        seen = λ f x e. all_labels (IsSeenRightly told f) f (λ p at. is_seen noted_outside f p at) x e;
        outside_ascending = named.ascending;
        outside_named = named.named;
      }

      pub progress_told : (f : ℕ) (p : RanFiber) → ran_at ps f ≡ Some p → report_is_lawful.runs.progress f ≡ reached p.bare
      unfolding all_runs report_is_lawful
      progress_told f p at = ap (progress_at s) at

      pub labels_told : (f : ℕ) → report_is_lawful.runs.labels f ≡ labels_at s (ran_at ps f)
      unfolding all_runs report_is_lawful
      labels_told f = refl

      -- the history of a queue is the one that was told when it was closed, or there is none
      pub data HistoryOf (q : ℕ) (history : List QueueEvent) : Type 0 where
        of_close : (lt : q < length s.capacities) → history ≡ (queues q lt).rest.log → HistoryOf q history
        of_none : length s.capacities ≤ q → history ≡ [] → HistoryOf q history

      history_of_by : (q : ℕ) (o : (q < length s.capacities) ⊎ (length s.capacities ≤ q)) → HistoryOf q (history_by q o).history
      unfolding history_by closed_history no_history
      history_of_by q (inl lt) = of_close lt refl
      history_of_by q (inr le) = of_none le refl

      pub history_of : (q : ℕ) → HistoryOf q (report_is_lawful.histories q).history
      unfolding history_told report_is_lawful
      history_of q = history_of_by q (cases_lt q (length s.capacities))

      pub history_goes_on : (q f : ℕ) (p : RanFiber) → q < length s.capacities → ran_at ps f ≡ Some p
          → Begins (report_is_lawful.histories q).history (p.passes q).seen
      unfolding report_is_lawful history_told
      history_goes_on q f p some at = begins_by q f p some at (cases_lt q (length s.capacities))

-- the report of a run that has ended so
module _ (s : ScriptView) (may : ℕ → Bool) (answer : ReportView) (h : EndsWithReport s may answer) where
  pub end_is_lawful : IsLawfulReport s may answer
  end_is_lawful =
      subst (IsLawfulReport s may) (sym h.answered.is)
      (report_is_lawful s h.nodes h.fibers h.left h.outside h.late h.ran h.ascending h.answered.none_lost h.words h.answered.none_unsettled
      h.term h.noted may h.named h.left_by_queue h.queues h.undeclared)

  pub end_keeps_promises : IsCore s.term → KeepsWhatIsPromised s may answer
  end_keeps_promises core = record { lawful = end_is_lawful; promised = lawful_report_holds s may answer core end_is_lawful }
