-- At the end of a run all is told of its stamps.
use Rattle.std.proofs.Common.{◌≡◌, ℕ, zero, suc, ◌<◌, ◌≤◌, Bool, true, Option, Some, None, List, [], ◌∷◌, length, map, refl, sym, ◌∙◌, ap, subst}
use Rattle.std.proofs.Common.{arith, inl, inr, ◌⊎◌, Contains}
use Rattle.std.specs.Prelude.{◌≢◌, slice_get, slice_index_or}
use Rattle.std.proofs.lemmas.Option.{none-some, same_Some}
use Rattle.fx_term.specs.Lists.{Among}
use Rattle.fx_term.specs.declared.node.Node.{Node}
use Rattle.fx_term.specs.declared.begin.Begin.{Begin}
use Rattle.fx_term.specs.declared.outcome.Outcome.{Outcome}
use Rattle.fx_term.specs.declared.event.Event.{Event}
use Rattle.fx_term.specs.declared.event.Event.TheVariants as event
use Rattle.fx_term.specs.declared.item.Item.{Item}
use Rattle.fx_term.specs.declared.queue_event.QueueEvent.{QueueEvent}
use Rattle.fx_term.specs.Meaning.{root_term}
use Rattle.fx_term.specs.Script.{ScriptView}
use Rattle.fx_term.specs.Queue.{empty_queue, cut, replayed, queue_events, AreAlike}
use Rattle.fx_model.specs.Row.{Label, Silent, Shows, Learns, Starts}
use Rattle.fx_model.specs.Origin.{main_begin_of}
use Rattle.fx_model.specs.Run.{events, shown}
use Rattle.fx_model.specs.Report.{ReportView, trace_in, capacity_of}
use Rattle.fx_model.specs.LawfulReport.{IsLawfulReport}
use Rattle.fx_model.specs.Causes.{LeavesQueue}
use Rattle.fx_model.specs.Stamps.{HasNoCause, IsStamped, IsBelowTop, IsOrderedByStamps}
use Rattle.fx_model.specs.StampedQueue.{IsStampedHistory, stamped}
use Rattle.fx_model.specs.KeptStamps.{number_in}
use Rattle.fx_model.specs.ReportStamps.{stamps_of_report, stamps_in, stamp_in}
use Rattle.fx_model.specs.ToldStamps.{OwnStamps, StampsEntry, Requests, EntryAgrees, ClosedStamps, AreTold}
use Rattle.fx_model.proofs.StepLabels.{IsProper}
use Rattle.fx_model.proofs.ShownLabels.{shown_events, shown_length, shown_holds}
use Rattle.fx_model.proofs.EventLabels.{shown_by, run_is_proper, start_label, seen_label}
use Rattle.fx_model.proofs.ToldStamps.{told_is_stamped}
use Rattle.fx_model.proofs.StampedReports.{ordered_by_stamps}
use Rattle.fx_fiber.specs.Deed.{Deed, Started, Requested, Saw, Put, Got, FoundFull, FoundEmpty, FoundEnded, Ended, deeds_of_event, AreDeedsOf}
use Rattle.fx_fiber.specs.StampedDeed.{StampedDeed, stamped_deed, deeds_of, number_of, BeginsWith, AreNumbered}
use Rattle.fx_fiber.specs.Bare.{reached}
use Rattle.fx_fiber.proofs.StampedPlaces.{each_stamp, At, at, done_at, as_many_stamps}
use Rattle.fx_fiber.proofs.QueueNumbers.{one_deed, numbers_told, nothing_there, cut_alike}
use Rattle.fx_word.specs.declared.entry.Entry.{Entry}
use Rattle.fx_queue.specs.declared.entry.Entry as pass
use Rattle.fx_queue.specs.PassView as queue
use Rattle.fx_port.specs.PortView.{beginning_in}
use Rattle.fx_run.specs.RanFiber.{RanFiber, bares_of, ran_at}
use Rattle.fx_run.specs.Reported.{RanCode, AreAscending, NoneIsLost, NoneIsUnsettled}
use Rattle.fx_run.specs.EndOfRun.{AreNamed, AreNoted, WordsEnd, QueueEnd, IsUntouched, EndsWithReport}
use Rattle.fx_run.specs.LawfulRun.{HasStamps}
use Rattle.fx_run.proofs.GivenFibers.{id_at, report_in, report_nowhere}
use Rattle.fx_run.proofs.Gathering.{gathered_of, whose}
use Rattle.fx_run.proofs.WholeEntries.{number_at, pass_number_at, main_is_given, started_is_given, part_in_trace}
use Rattle.fx_run.proofs.Starters.{its_code, in_seat, entry_of, none_before_main}
use Rattle.fx_run.proofs.Lawful.{labels_at, told, trace_at, trace_nowhere, acts_told, report_is_lawful, labels_told, HistoryOf, of_close, of_none, history_of}
use Rattle.fx_run.proofs.EndedRun.{end_report, end_is_lawful}

-- members of a list that was mapped
among_mapped : {A B : Type 0} (h : A → B) (xs : List A) (y : B) → Among y (map h xs) → (x : A) × Among x xs × (y ≡ h x)
among_mapped h [] y i = absurd i
among_mapped h (x ∷ xs) y (inl e) = (x, inl refl, e)
among_mapped h (x ∷ xs) y (inr i) = (let t = among_mapped h xs y i in (t.0, inr t.1, t.2))

map_among : {A B : Type 0} (h : A → B) (xs : List A) (x : A) → Among x xs → Among (h x) (map h xs)
map_among h [] x i = absurd i
map_among h (y ∷ xs) x (inl e) = inl (ap h e)
map_among h (y ∷ xs) x (inr i) = inr (map_among h xs x i)

-- the fiber that a deed requests
abbrev is_request : Deed → Option ℕ
is_request (Requested g) = Some g
is_request _ = None

no_request : (d x : Deed) (g : ℕ) → Among d (x ∷ []) → is_request x ≡ None → is_request d ≡ Some g → ⊥
no_request d x g (inl same) none is = none-some g (sym none ∙ ap is_request (sym same) ∙ is)
no_request d x g (inr none) e is = none

request_shown : (e : Event) (d : Deed) (g : ℕ) → Among d (deeds_of_event e) → is_request d ≡ Some g → e ≡ event.Request g
request_shown (event.Request f) d g (inl same) is = ap event.Request (same_Some f g (ap is_request (sym same) ∙ is))
request_shown (event.Request f) d g (inr none) is = absurd none
request_shown (event.Put q n) d g i is = absurd (no_request d (Put q n) g i refl is)
request_shown (event.Got q n) d g i is = absurd (no_request d (Got q n) g i refl is)
request_shown (event.Refused q) d g i is = absurd (no_request d (FoundFull q) g i refl is)
request_shown (event.Empty q) d g i is = absurd (no_request d (FoundEmpty q) g i refl is)
request_shown event.Seen d g i is = absurd (no_request d Saw g i refl is)
request_shown (event.Ended o) d g i is = absurd (no_request d (Ended o) g i refl is)
request_shown _ d g i is = absurd i

-- the label whose deed is a request shows it
request_label : (nodes : List Node) (l : Label) (ds : List Deed) (d : Deed) (g : ℕ) → AreDeedsOf nodes l ds → Among d ds → is_request d ≡ Some g
    → events (l ∷ []) ≡ event.Request g ∷ []
request_label nodes Silent ds d g are i is = absurd (subst (Among d) are i)
request_label nodes (Shows e) ds d g are i is = ap (λ (v : Event). v ∷ []) (request_shown e d g (subst (Among d) are i) is)
request_label nodes (Learns f o e) ds d g are i is = absurd (no_request d (FoundEnded f o) g (subst (Among d) are i) refl is)
request_label nodes (Starts f b) ds d g are i is = absurd (no_request d (Started f are.0) g (subst (Among d) are.2 i) refl is)

-- the label that shows an end
end_label : (l : Label) (o : Outcome) → IsProper l → events (l ∷ []) ≡ event.Ended o ∷ [] → l ≡ Shows (event.Ended o)
end_label Silent o p e = absurd cc
end_label (Shows v) o p e = ap Shows (let same : v ≡ event.Ended o = cc in same)
end_label (Learns h u (event.Joined k v)) o p e = absurd cc
end_label (Learns h u (event.Awaited k)) o p e = absurd cc
end_label (Learns h u (event.First k)) o p e = absurd cc
end_label (Learns h u _) o p e = absurd p
end_label (Starts h b) o p e = absurd cc

first_event : (k l : Label) (v e : Event) → k ≡ l → events (k ∷ []) ≡ v ∷ [] → events (l ∷ []) ≡ e ∷ [] → Some v ≡ Some e
first_event k l v e same here is = let all : v ∷ [] ≡ e ∷ [] = sym here ∙ ap (λ (m : Label). events (m ∷ [])) same ∙ is in cc

-- the event of a label stands where the label does
event_at : (ls : List Label) (i : ℕ) (l : Label) (e : Event) → slice_get (shown ls) i ≡ Some l → events (l ∷ []) ≡ e ∷ []
    → slice_get (events ls) i ≡ Some e
event_at [] i l e at is = absurd (none-some l at)
event_at (Silent ∷ ls) i l e at is = event_at ls i l e at is
event_at (Shows v ∷ ls) zero l e at is = first_event (Shows v) l v e (same_Some (Shows v) l at) refl is
event_at (Shows v ∷ ls) (suc i) l e at is = event_at ls i l e at is
event_at (Learns g o v ∷ ls) zero l e at is = first_event (Learns g o v) l v e (same_Some (Learns g o v) l at) refl is
event_at (Learns g o v ∷ ls) (suc i) l e at is = event_at ls i l e at is
event_at (Starts g b ∷ ls) zero l e at is = first_event (Starts g b) l (event.Start g) e (same_Some (Starts g b) l at) refl is
event_at (Starts g b ∷ ls) (suc i) l e at is = event_at ls i l e at is

module _ (own cause : ℕ) where
  -- the one deed of a label, with its number
  the_deed : (d : Deed) (ds : List StampedDeed) → deeds_of ds ≡ d ∷ [] → AreNumbered own cause ds → Among (stamped_deed d (number_of d own cause)) ds
  the_deed d ds e n =
      let o = one_deed d ds e in
      let h = subst (AreNumbered own cause) o.is n in
      subst (Among (stamped_deed d (number_of d own cause))) (sym o.is) (inl (same o.one o.deed h.0.is))
    where
      same : (x : StampedDeed) → x.deed ≡ d → x.number ≡ number_of x.deed own cause → stamped_deed d (number_of d own cause) ≡ x
      same x p r = ap (λ (y : Deed). stamped_deed y (number_of y own cause)) (sym p) ∙ ap (stamped_deed x.deed) (sym r)

  begins_so : (g : ℕ) (b : Begin) (ds : List StampedDeed) → deeds_of ds ≡ Started g b ∷ [] → AreNumbered own cause ds → b.stamp ≡ own
  begins_so g b ds e n =
      let o = one_deed (Started g b) ds e in
      let h = subst (AreNumbered own cause) o.is n in
      subst (λ (d : Deed). BeginsWith d own) o.deed h.0.begins

  its_number : (ds : List StampedDeed) (d : StampedDeed) → AreNumbered own cause ds → Among d ds → d.number ≡ number_of d.deed own cause
  its_number [] d n i = absurd i
  its_number (x ∷ ds) d n (inl same) = ap (λ (y : StampedDeed). y.number) same ∙ n.0.is ∙ ap (λ (y : StampedDeed). number_of y.deed own cause) (sym same)
  its_number (x ∷ ds) d n (inr i) = its_number ds d n.1 i

abbrev no_entry : StampsEntry
no_entry = record { began = 0; parts = []; asked = []; loaded = []; stored = None; learnt = [] }

abbrev part_with : ℕ × Begin → ℕ × ℕ
part_with x = (x.0, x.1.stamp)

abbrev entry_with : RanFiber → StampsEntry
entry_with p = record {
  began = (beginning_in p.bare.nodes p.words.begin).stamp;
  parts = map part_with p.words.parts;
  asked = p.words.asked_with;
  loaded = p.words.loaded;
  stored = p.words.stored_stamp;
  learnt = p.words.learnt_stamps;
}

-- the stamps of the fiber that was found
abbrev stamps_of_ran : Option RanFiber → List ℕ
stamps_of_ran None = []
stamps_of_ran (Some p) = p.bare.stamps

abbrev entry_by : Option RanFiber → StampsEntry
entry_by None = no_entry
entry_by (Some p) = entry_with p

module _ (p : RanFiber) where
  abbrev began : ℕ
  began = (beginning_in p.bare.nodes p.words.begin).stamp

  abbrev stamp : ℕ → ℕ
  stamp = number_in p.bare.stamps

  abbrev cause : ℕ → ℕ
  cause = number_in p.lawful.causes

  abbrev labels : List Label
  labels = p.lawful.labels

  proper : (i : ℕ) (l : Label) → slice_get (shown labels) i ≡ Some l → IsProper l
  proper i l e = shown_holds IsProper labels i l (run_is_proper _ p.bare.counts _ (reached p.bare) labels p.lawful.run) e

  label_at : (i : ℕ) (l : Label) → slice_get (shown labels) i ≡ Some l
      → At p.bare.nodes (shown labels) p.bare.stamps p.lawful.causes p.lawful.deeds i l
  label_at i l e = at p.bare.nodes began (shown labels) p.bare.stamps p.lawful.causes p.lawful.deeds p.lawful.stamped i l e

  own_in : OwnStamps (events labels) began stamp cause
  own_in = record {
    each = λ i lt. each_stamp p.bare.nodes began (shown labels) p.bare.stamps p.lawful.causes p.lawful.deeds p.lawful.stamped i
        (subst (λ (n : ℕ). i < n) (sym (shown_length labels)) lt);
    none = λ i e here quiet.
        let b = shown_by labels i e here in
        let a = label_at i b.label b.at in
        a.none (subst HasNoCause (one_event e a.event (sym b.shows ∙ a.shows)) quiet);
  }
    where
      one_event : (e v : Event) → e ∷ [] ≡ v ∷ [] → e ≡ v
      one_event e v h = cc

  done_of : (i : ℕ) (l : Label) (d : Deed) → slice_get (shown labels) i ≡ Some l
      → ((ds : List Deed) → AreDeedsOf p.bare.nodes l ds → ds ≡ d ∷ []) → Among (stamped_deed d (number_of d (stamp i) (cause i))) p.lawful.deeds
  done_of i l d e one =
      let a = label_at i l e in
      a.there (stamped_deed d (number_of d (stamp i) (cause i)))
      (the_deed (stamp i) (cause i) d a.own (one (deeds_of a.own) a.tells.are_deeds) a.tells.are_numbered)

  started_in : (g j : ℕ) → slice_get (events labels) j ≡ Some (event.Start g) → Among (g, stamp j) (map part_with p.words.parts)
  started_in g j here =
      let b = shown_by labels j (event.Start g) here in
      let l = start_label b.label g (proper j b.label b.at) b.shows in
      let a = label_at j (Starts g l.0) (b.at ∙ ap Some l.1) in
      let deeds = a.tells.are_deeds in
      let there = a.there (stamped_deed (Started g deeds.0) (stamp j)) (the_deed (stamp j) (cause j) (Started g deeds.0) a.own deeds.2 a.tells.are_numbered) in
      let plain : Among (Started g deeds.0) (deeds_of p.lawful.deeds) =
      (map_among (λ (d : StampedDeed). d.deed) p.lawful.deeds (stamped_deed (Started g deeds.0) (stamp j)) there) in
      subst (λ (n : ℕ). Among (g, n) (map part_with p.words.parts))
      (begins_so (stamp j) (cause j) g deeds.0 a.own deeds.2 a.tells.are_numbered)
      (map_among part_with p.words.parts (g, deeds.0) (p.lawful.agreed.plain.words_agree.started g deeds.0 plain))

  asked_in : (g n : ℕ) → Among (g, n) p.words.asked_with → Requests (events labels) stamp g n ⊎ ((p.noted g ≡ true) × (n ≡ 0))
  asked_in g n i = elim (p.lawful.agreed.stamps_agree.asked g n i) [
    | inl d ↦
        (let a = done_at p.bare.nodes began (shown labels) p.bare.stamps p.lawful.causes p.lawful.deeds p.lawful.stamped (stamped_deed (Requested g) n) d in
        let shows = request_label p.bare.nodes a.label (deeds_of a.own) (Requested g) g a.tells.are_deeds
        (map_among (λ (x : StampedDeed). x.deed) a.own (stamped_deed (Requested g) n) a.among) refl in
        inl (
          a.place,
          event_at labels a.place a.label (event.Request g) a.here shows,
          its_number (stamp a.place) (cause a.place) a.own (stamped_deed (Requested g) n) a.tells.are_numbered a.among,
        ))
    | inr noted ↦ inr noted
  ]

  saw_in : (i : ℕ) → slice_get (events labels) i ≡ Some event.Seen → Among (cause i) p.words.loaded
  saw_in i here =
      let b = shown_by labels i event.Seen here in
      let l = seen_label b.label (proper i b.label b.at) b.shows in
      p.lawful.agreed.stamps_agree.saw (cause i) (done_of i (Shows event.Seen) Saw (b.at ∙ ap Some l) (λ ds e. e))

  found_in : (i g : ℕ) (o : Outcome) (v : Event) → slice_get (shown labels) i ≡ Some (Learns g o v) → Among (g, cause i) p.words.learnt_stamps
  found_in i g o v here = p.lawful.agreed.stamps_agree.found g (cause i) o (done_of i (Learns g o v) (FoundEnded g o) here (λ ds e. e))

  ended_in : (j : ℕ) (o : Outcome) → slice_get (events labels) j ≡ Some (event.Ended o) → p.words.stored_stamp ≡ Some (stamp j)
  ended_in j o here =
      let b = shown_by labels j (event.Ended o) here in
      let l = end_label b.label o (proper j b.label b.at) b.shows in
      p.lawful.agreed.stamps_agree.ended (stamp j) o (done_of j (Shows (event.Ended o)) (Ended o) (b.at ∙ ap Some l) (λ ds e. e))

  agrees_in : EntryAgrees (events labels) labels stamp cause (λ g. p.noted g ≡ true) (entry_with p)
  agrees_in = record { started = started_in; asked = asked_in; saw = saw_in; found = found_in; ended = ended_in }

  own_so : OwnStamps p.bare.trace began stamp cause
  own_so = subst (λ (es : List Event). OwnStamps es began stamp cause) p.lawful.traced own_in

  agrees_so : EntryAgrees p.bare.trace labels stamp cause (λ g. p.noted g ≡ true) (entry_with p)
  agrees_so = subst (λ (es : List Event). EntryAgrees es labels stamp cause (λ g. p.noted g ≡ true) (entry_with p)) p.lawful.traced agrees_in

  acts_so : (q : ℕ) → (p.passes q).stamps ≡ queue_events q p.bare.id (stamped stamp cause p.bare.trace)
  acts_so q =
      p.lawful.agreed.queue_stamps q
      ∙ numbers_told p.bare.nodes q p.bare.id began (shown labels) p.bare.stamps p.lawful.causes p.lawful.deeds proper p.lawful.stamped
      ∙ ap (λ (es : List Event). queue_events q p.bare.id (stamped stamp cause es)) (shown_events labels ∙ p.lawful.traced)

module _ (s : ScriptView) (nodes : List Node) (ps : List RanFiber) (left : List (List Item)) (outside : List ℕ) (late : ℕ)
    (ran : RanCode nodes (bares_of ps)) (ascending : AreAscending (bares_of ps)) (lost : NoneIsLost (bares_of ps)) (words : WordsEnd ps) where
  abbrev report : ReportView
  report = told s nodes ps left outside late ran ascending lost words

  cause_by : (f : ℕ) (o : Option RanFiber) → ran_at ps f ≡ o → ℕ → ℕ
  cause_by f None e i = 0
  cause_by f (Some p) e i = number_in p.lawful.causes i

  abbrev stamp_by : Option RanFiber → ℕ → ℕ
  stamp_by o = number_in (stamps_of_ran o)

  own_by : (f : ℕ) (o : Option RanFiber) (e : ran_at ps f ≡ o) → OwnStamps (trace_in report f) (entry_by o).began (stamp_by o) (cause_by f o e)
  unfolding cause_by
  own_by f None e =
      subst (λ (es : List Event). OwnStamps es 0 (λ i. 0) (λ i. 0)) (sym (trace_nowhere s nodes ps left outside late ran ascending lost words f e))
      (record { each = λ i lt. absurd (omega arith); none = λ i v at. absurd (none-some v at) })
  own_by f (Some p) e =
      subst (λ (es : List Event). OwnStamps es (entry_with p).began (number_in p.bare.stamps) (number_in p.lawful.causes))
      (sym (trace_at s nodes ps left outside late ran ascending lost words f p e)) (own_so p)

  module _ (noted_outside : AreNoted ps outside) where
    agree_by : (f : ℕ) (o : Option RanFiber) (e : ran_at ps f ≡ o)
        → EntryAgrees (trace_in report f) (labels_at s o) (stamp_by o) (cause_by f o e) (Contains outside) (entry_by o)
    unfolding cause_by
    agree_by f None e =
        subst (λ (es : List Event). EntryAgrees es [] (λ i. 0) (λ i. 0) (Contains outside) no_entry)
        (sym (trace_nowhere s nodes ps left outside late ran ascending lost words f e))
        (record {
          started = λ g j at. absurd (none-some (event.Start g) at);
          asked = λ g t i. absurd i;
          saw = λ i at. absurd (none-some event.Seen at);
          found = λ i g o v at. absurd (none-some (Learns g o v) at);
          ended = λ j o at. absurd (none-some (event.Ended o) at);
        })
    agree_by f (Some p) e =
        subst (λ (es : List Event). EntryAgrees es p.lawful.labels (number_in p.bare.stamps) (number_in p.lawful.causes) (Contains outside)
        (entry_with p))
        (sym (trace_at s nodes ps left outside late ran ascending lost words f p e)) (weaker (agrees_so p))
      where
        weaker : EntryAgrees p.bare.trace p.lawful.labels (number_in p.bare.stamps) (number_in p.lawful.causes) (λ g. p.noted g ≡ true)
            (entry_with p)
            → EntryAgrees p.bare.trace p.lawful.labels (number_in p.bare.stamps) (number_in p.lawful.causes) (Contains outside) (entry_with p)
        weaker h = record {
          started = h.started;
          asked = λ g t i. elim (h.asked g t i) [ inl q ↦ inl q | inr n ↦ inr (noted_outside f p e g n.0, n.1) ];
          saw = h.saw;
          found = h.found;
          ended = h.ended;
        }

  -- what the words tell
  module _ where
    abbrev entry : ℕ → StampsEntry
    entry f = entry_by (ran_at ps f)

    main_so : (entry 0).began ≡ 0
    main_so =
        let m = main_is_given ps lost in
        let none = none_before_main nodes ps ran ascending lost words m.0 m.1 in
        ap (λ (o : Option RanFiber). (entry_by o).began) m.1 ∙ ap (λ o. (beginning_in m.0.bare.nodes o).stamp) none
        ∙ ap (λ (ns : List Node). (main_begin_of ns).stamp) (its_code nodes ps ran ascending lost words 0 m.0 m.1)

    split_by : (f g t : ℕ) (o : Option RanFiber) → ran_at ps f ≡ o → Among (g, t) (entry_by o).parts → (entry g).began ≡ t
    split_by f g t None e i = absurd i
    split_by f g t (Some p) e i =
        let x = among_mapped part_with p.words.parts (g, t) i in
        let number : g ≡ x.0.0 = ap (λ (y : ℕ × ℕ). y.0) x.2 in
        let stamp : t ≡ x.0.1.stamp = ap (λ (y : ℕ × ℕ). y.1) x.2 in
        let part = p.lawful.agreed.plain.words_agree.parts x.0.0 x.0.1 x.1 in
        let z = started_is_given ps lost f x.0.0 p e (part_in_trace x.0.0 x.0.1 p part) in
        let begun : z.0.words.begin ≡ Some (p.words.id, x.0.1) =
        words.settled.began p.words (in_seat nodes ps ran ascending lost words f p e) x.0.0 x.0.1 x.1 z.0.words
        (in_seat nodes ps ran ascending lost words x.0.0 z.0 z.1) (number_at ps x.0.0 z.0 z.1) in
        ap (λ (h : ℕ). (entry_by (ran_at ps h)).began) number ∙ ap (λ (o : Option RanFiber). (entry_by o).began) z.1
        ∙ ap (λ o. (beginning_in z.0.bare.nodes o).stamp) begun ∙ sym stamp

    seen_by : (f t : ℕ) (o : Option RanFiber) → ran_at ps f ≡ o → Among t (entry_by o).loaded → (d : ℕ) × Among (f, t) (entry d).asked
    seen_by f t None e i = absurd i
    seen_by f t (Some p) e i =
        let d = words.settled.requested_with p.words (in_seat nodes ps ran ascending lost words f p e) t i in
        let has = entry_of nodes ps ran ascending lost words d.0.id d.0 d.1 refl in
        let asked : Among (f, t) has.fiber.words.asked_with =
        subst (λ (w : Entry). Among (f, t) w.asked_with) has.is
        (subst (λ (n : ℕ). Among (n, t) d.0.asked_with) (number_at ps f p e) d.2) in
        (d.0.id, subst (λ (o : Option RanFiber). Among (f, t) (entry_by o).asked) (sym has.at) asked)

    learnt_by : (f g t : ℕ) (o : Option RanFiber) → ran_at ps f ≡ o → Among (g, t) (entry_by o).learnt → (entry g).stored ≡ Some t
    learnt_by f g t None e i = absurd i
    learnt_by f g t (Some p) e i =
        let d = words.settled.ended_with p.words (in_seat nodes ps ran ascending lost words f p e) g t i in
        let has = entry_of nodes ps ran ascending lost words g d.0 d.1 d.2 in
        ap (λ (o : Option RanFiber). (entry_by o).stored) has.at ∙ ap (λ (w : Entry). w.stored_stamp) (sym has.is) ∙ d.3

    closed_so : ClosedStamps entry
    closed_so = record {
      main = main_so;
      split = λ f g t. split_by f g t (ran_at ps f) refl;
      seen = λ f t. seen_by f t (ran_at ps f) refl;
      learnt = λ f g t. learnt_by f g t (ran_at ps f) refl;
    }

  -- what a queue tells that was closed
  closed_cuts : (q capacity : ℕ) (c : QueueEnd q capacity ps (slice_index_or left q [])) (f : ℕ) (o : Option RanFiber) (e : ran_at ps f ≡ o)
      → cut f c.rest.stamps ≡ queue_events q f (stamped (stamp_by o) (cause_by f o e) (trace_in report f))
  unfolding cause_by
  closed_cuts q capacity c f (Some p) e =
      ap (λ (n : ℕ). cut n c.rest.stamps) (sym (pass_number_at ps q f p e))
      ∙ c.rest.cuts_stamps (p.passes q) (gathered_of ps ascending (λ (z : RanFiber). z.passes q) (queue.entries c.view) c.gathered f p e)
      ∙ acts_so p q
      ∙ ap (λ (n : ℕ). queue_events q n (stamped (number_in p.bare.stamps) (number_in p.lawful.causes) p.bare.trace)) (id_at ps f p e)
      ∙ ap (λ (es : List Event). queue_events q f (stamped (number_in p.bare.stamps) (number_in p.lawful.causes) es))
      (sym (trace_at s nodes ps left outside late ran ascending lost words f p e))
  closed_cuts q capacity c f None e =
      cut_alike f c.rest.log c.rest.stamps c.rest.alike (c.rest.only f apart)
      ∙ sym (ap (λ (es : List Event). queue_events q f (stamped (λ i. 0) (λ i. 0) es))
      (trace_nowhere s nodes ps left outside late ran ascending lost words f e))
    where
      apart : (x : pass.Entry) → queue.In x c.view → x.id ≢ f
      apart x i same =
          let o = whose ps ascending (λ (z : RanFiber). z.passes q) (queue.entries c.view) c.gathered x i in
          let number : o.fiber.bare.id ≡ f =
          sym (pass_number_at ps q o.fiber.bare.id o.fiber o.at) ∙ sym (ap (λ (w : pass.Entry). w.id) o.is) ∙ same in
          none-some o.fiber (sym e ∙ ap (ran_at ps) (sym number) ∙ o.at)

  none_cuts : (q f : ℕ) → IsUntouched q ps → (o : Option RanFiber) (e : ran_at ps f ≡ o)
      → [] ≡ queue_events q f (stamped (stamp_by o) (cause_by f o e) (trace_in report f))
  none_cuts q f untouched None e =
      sym (nothing_there q f (stamp_by None) (cause_by f None e) (trace_in report f)
      (ap (queue_events q f) (trace_nowhere s nodes ps left outside late ran ascending lost words f e)))
  none_cuts q f untouched (Some p) e =
      sym (nothing_there q f (stamp_by (Some p)) (cause_by f (Some p) e) (trace_in report f)
      (sym (acts_told s nodes ps left outside late ran ascending lost words q f p e) ∙ untouched f p e))

  module _ (unsettled : NoneIsUnsettled s (bares_of ps) report) (term : s.term ≡ root_term nodes) (noted_outside : AreNoted ps outside) (may : ℕ → Bool)
      (named : AreNamed s may outside) (by_queue : length left ≡ length s.capacities)
      (queues : (q : ℕ) → q < length s.capacities → QueueEnd q (capacity_of s q) ps (slice_index_or left q []))
      (undeclared : (q : ℕ) → length s.capacities ≤ q → IsUntouched q ps) where
    abbrev lawful : IsLawfulReport s may report
    lawful = report_is_lawful s nodes ps left outside late ran ascending lost words unsettled term noted_outside may named by_queue queues undeclared

    abbrev stamp_at : ℕ → ℕ → ℕ
    stamp_at f = stamp_by (ran_at ps f)

    abbrev cause_at : ℕ → ℕ → ℕ
    cause_at f = cause_by f (ran_at ps f) refl

    abbrev history_is : (q : ℕ) (history : List QueueEvent) → Type 0
    history_is q history =
        HistoryOf s nodes ps left outside late ran ascending lost words unsettled term noted_outside may named by_queue queues undeclared q history

    history_by : (q : ℕ) (history : List QueueEvent) → history_is q history
        → IsStampedHistory (trace_in report) stamp_at cause_at q (capacity_of s q) history
    history_by q history (of_close lt e) =
        let c = queues q lt in
        record {
          stamps = c.rest.stamps;
          alike = subst (λ (log : List QueueEvent). AreAlike log c.rest.stamps) (sym e) c.rest.alike;
          last = c.rest.legal_stamps.last;
          legal = subst (λ (n : ℕ). replayed n c.rest.stamps ≡ Some c.rest.legal_stamps.last) c.sized c.rest.legal_stamps.legal;
          cuts = λ f. closed_cuts q (capacity_of s q) c f (ran_at ps f) refl;
        }
    history_by q history (of_none le e) = record {
      stamps = [];
      alike = subst (λ (log : List QueueEvent). AreAlike log []) (sym e) refl;
      last = empty_queue;
      legal = refl;
      cuts = λ f. none_cuts q f (undeclared q le) (ran_at ps f) refl;
    }

    all_told : AreTold s may report lawful (λ f. entry_by (ran_at ps f)) stamp_at cause_at
    all_told = record {
      own = λ f. own_by f (ran_at ps f) refl;
      agree = λ f.
          subst (λ (ls : List Label). EntryAgrees (trace_in report f) ls (stamp_at f) (cause_at f) (Contains outside) (entry_by (ran_at ps f)))
          (sym (labels_told s nodes ps left outside late ran ascending lost words unsettled term noted_outside may named by_queue queues undeclared f))
          (agree_by noted_outside f (ran_at ps f) refl);
      closed = closed_so;
      queues = λ q. history_by q (lawful.histories q).history
          (history_of s nodes ps left outside late ran ascending lost words unsettled term noted_outside may named by_queue queues undeclared q);
    }

    -- they are those that the report tells
    stamps_told : (f : ℕ) (o : Option RanFiber) → ran_at ps f ≡ o → stamps_of_ran o ≡ stamps_in report f
    stamps_told f None e = sym (ap stamps_of_report (report_nowhere ps left outside late f e))
    stamps_told f (Some p) e = sym (ap stamps_of_report (report_in ps left outside late f p e))

    stamps_same : stamp_at ≡ stamp_in report
    stamps_same = λ i f. number_in (stamps_told f (ran_at ps f) refl i)

    one_each : (f : ℕ) (o : Option RanFiber) → ran_at ps f ≡ o → length (stamps_in report f) ≡ length (trace_in report f)
    one_each f None e =
        ap length (sym (stamps_told f None e)) ∙ sym (ap length (trace_nowhere s nodes ps left outside late ran ascending lost words f e))
    one_each f (Some p) e =
        ap length (sym (stamps_told f (Some p) e))
        ∙ as_many_stamps p.bare.nodes (beginning_in p.bare.nodes p.words.begin).stamp (shown p.lawful.labels) p.bare.stamps p.lawful.causes p.lawful.deeds
        p.lawful.stamped
        ∙ shown_length p.lawful.labels ∙ ap length p.lawful.traced
        ∙ sym (ap length (trace_at s nodes ps left outside late ran ascending lost words f p e))

    -- so these are stamps of the definition, and put the events in one order
    has_stamps : HasStamps s may report lawful
    has_stamps =
        let began : ℕ → ℕ = λ f. (entry_by (ran_at ps f)).began in
        let are = told_is_stamped s may report lawful (λ f. entry_by (ran_at ps f)) stamp_at cause_at all_told in
        let labels = lawful.runs.labels in
        record {
          one_each = λ f. one_each f (ran_at ps f) refl;
          began = began;
          cause = cause_at;
          are = subst (λ (stamp : ℕ → ℕ → ℕ). IsStamped (trace_in report) labels (LeavesQueue s may report lawful) (Contains outside) began stamp cause_at)
              stamps_same are;
          ordered = subst (λ (stamp : ℕ → ℕ → ℕ). IsBelowTop (trace_in report) stamp → IsOrderedByStamps s may report lawful stamp) stamps_same
              (ordered_by_stamps s may report lawful (record { began = began; stamp = stamp_at; cause = cause_at; are = are }));
        }

-- the report of a run that has ended has the stamps of the definition
module _ (s : ScriptView) (may : ℕ → Bool) (answer : ReportView) (h : EndsWithReport s may answer) where
  pub end_has_stamps : HasStamps s may (end_report s may answer h) (end_is_lawful s may answer h)
  end_has_stamps =
      has_stamps s h.nodes h.fibers h.left h.outside h.late h.ran h.ascending h.answered.none_lost h.words h.answered.none_unsettled
      h.term h.noted may h.named h.left_by_queue h.queues h.undeclared
