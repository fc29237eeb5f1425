-- The premises of the laws are met by the example.
use Rattle.std.proofs.Common.{◌≡◌, ℕ, zero, suc, ◌+◌, ◌<◌, ◌≤◌, Bool, true, false, Some, None, List, [], ◌∷◌, ◌++◌, refl, sym, ◌∙◌, ap, subst, arith, inl, inr}
use Rattle.std.specs.Prelude.{◌≢◌, ◌==◌, slice_index, slice_index_or}
use Rattle.std.proofs.lemmas.Bool.{ne_eqb}
use Rattle.std.proofs.lemmas.Option.{none-some}
use Rattle.fx_term.specs.declared.begin.Begin.{Begin}
use Rattle.fx_term.specs.Element.{Element}
use Rattle.fx_term.specs.declared.outcome.Outcome.{Outcome}
use Rattle.fx_term.specs.declared.outcome.Outcome.TheVariants.{Succeeded, Canceled}
use Rattle.fx_term.specs.declared.event.Event.{Event}
use Rattle.fx_term.specs.declared.event.Event.TheVariants as event
use Rattle.fx_term.specs.declared.queue_event.QueueEvent.{QueueEvent}
use Rattle.fx_term.specs.declared.queue_event.QueueEvent.TheVariants as queue_event
use Rattle.fx_term.specs.Forms.{IsCore}
use Rattle.fx_term.specs.Queue.{cut, Leaves}
use Rattle.fx_model.specs.Row.{known_canceled}
use Rattle.fx_model.specs.Origin.{Origin, main_origin}
use Rattle.fx_model.specs.Step.{HasEnded}
use Rattle.fx_model.specs.Run.{IsRun, shown}
use Rattle.fx_fiber.specs.Deed.{Started, Requested, Saw, Put, Got, FoundEnded, Ended, AreDeeds}
use Rattle.fx_fiber.specs.StampedDeed.{StampedDeed, stamped_deed, deeds_of}
use Rattle.fx_fiber.specs.StampedRun.{AreStamped}
use Rattle.fx_model.specs.Outside.{can_step}
use Rattle.fx_model.specs.Report.{FiberReportView, capacity_of, final_outside, AllEnded}
use Rattle.fx_model.proofs.Beginnings.{main_begins}
use Rattle.fx_term.specs.Lists.{Among}
use Rattle.fx_term.proofs.LeavesLaws.{leaves_nothing, leaves_put, leaves_got}
use Rattle.fx_fiber.specs.Bare.{BareView, reached}
use Rattle.fx_fiber.specs.declared.machine.focus.Focus.TheVariants as focus
use Rattle.fx_word.specs.declared.entry.Entry.{Entry}
use Rattle.fx_word.specs.declared.seat_view.SeatView.{SeatView}
use Rattle.fx_word.specs.Entry.{new_entry, asking, looking, splitting, finished, peeked}
use Rattle.fx_word.specs.SeatView.{In, alone, joined, IsSettled}
use Rattle.fx_queue.specs.declared.entry.Entry as pass
use Rattle.fx_queue.specs.declared.pass_view.PassView.{PassView}
use Rattle.fx_queue.specs.Entry as queue_entry
use Rattle.fx_queue.specs.PassView as queue
use Rattle.fx_queue.specs.History.{Begins}
use Rattle.fx_queue.specs.declared.entry.Handed.{Handed}
use Rattle.fx_queue.specs.Told.{IsHandedOn, IsRest}
use Rattle.fx_run.specs.Agreement.{StampedPortAgrees}
use Rattle.fx_run.specs.PassChanges.{IsNewPass, AreSplitFor, AddsEvent}
use Rattle.fx_run.specs.RanFiber.{RanFiber}
use Rattle.fx_run.specs.Reported.{bare_at, IsLost, NoneIsUnsettled}
use Rattle.fx_run.specs.EndOfRun.{WordsEnd, QueueEnd, IsUntouched, EndsWithReport}
use Rattle.fx_run.specs.Example.{example_nodes, example_script, example_report}
use Rattle.fx_run.proofs.Members.{all_among, found_is}
use Rattle.fx_run.proofs.Answered.{none_is_lost}
use Rattle.fx_run.proofs.Gathering.{gathers_first, gathers_one}
use Rattle.fx_run.proofs.AgreeingStamps.{no_end, stamped_first, stamped_starts, stamped_requests, stamped_sees, stamped_finds, stamped_puts, stamped_takes}
use Rattle.fx_run.proofs.AgreeingStamps.{stamped_finishes}
use Rattle.fx_run.proofs.PassChanges.{acts_once, split_is_for}
use Rattle.fx_run.proofs.ExampleRuns.{main_reads, child_begin, child_reads, main_labels, counts_at, main_run, child_labels}
use Rattle.fx_run.proofs.ExampleRuns.{child_run}

-- what the words know of the two
abbrev main_entry : Entry
main_entry = finished (Succeeded 7) 8 (peeked 1 Canceled 6 (asking 1 3 (splitting child_begin (new_entry 0 None 1 2))))

abbrev child_entry : Entry
child_entry = finished Canceled 6 (looking (Some 3) (new_entry 1 (Some (0, child_begin)) 2 2))

-- what the queue knows of them: the main fiber put, and then split its pass
abbrev put_view : PassView
put_view = queue.with_act (queue.first_view 1 2) [] (queue_event.Put 0 3) (queue_event.Put 0 1)

abbrev main_view : PassView
main_view = queue.kept_part 2 put_view

abbrev child_view : PassView
child_view = queue.with_act (queue.given_part 2 put_view) (queue_event.Put 0 3 ∷ []) (queue_event.Got 1 3) (queue_event.Got 1 1)

-- an entry for that queue, and one of no events for each other number
abbrev with_first : pass.Entry → pass.Entry → ℕ → pass.Entry
with_first e other zero = e
with_first e other (suc q) = other

abbrev main_other : pass.Entry
main_other = queue_entry.new_entry 0 1 2 []

abbrev child_other : pass.Entry
child_other = queue_entry.new_entry 1 2 2 []

adds_event : (a b : QueueEvent) (log : List QueueEvent) (e other : pass.Entry)
    → AddsEvent 0 a b (with_first e other) (with_first (queue_entry.acting log a b e) other)
adds_event a b log e other = record { here = acts_once log a b e; others = others }
  where
    others : (r : ℕ) → r ≢ 0 → with_first (queue_entry.acting log a b e) other r ≡ with_first e other r
    others zero apart = absurd (apart refl)
    others (suc r) apart = refl

are_split : AreSplitFor 1 (with_first put_view.own main_other) (with_first main_view.own main_other)
are_split zero = split_is_for put_view 2
are_split (suc q) = record { number = refl; acts = refl; stamps = refl; parts = λ i k. inl k }

are_new : (f : ℕ) (e other : pass.Entry) → IsNewPass f e → IsNewPass f other → (q : ℕ) → IsNewPass f (with_first e other q)
are_new f e other a b zero = a
are_new f e other a b (suc q) = b

abbrev main_passes : ℕ → pass.Entry
main_passes = with_first main_view.own main_other

abbrev child_passes : ℕ → pass.Entry
child_passes = with_first child_view.own child_other

abbrev nobody : ℕ → Bool
nobody f = false

-- what they did before they ended, and all that they did
abbrev main_before : List StampedDeed
main_before = stamped_deed (Put 0 3) 1 ∷ stamped_deed (Started 1 child_begin) 2 ∷ stamped_deed (Requested 1) 3 ∷ stamped_deed (FoundEnded 1 Canceled) 6 ∷ []

abbrev child_before : List StampedDeed
child_before = stamped_deed (Got 0 3) 1 ∷ stamped_deed Saw 3 ∷ []

abbrev main_deeds : List StampedDeed
main_deeds = main_before ++ stamped_deed (Ended (Succeeded 7)) 8 ∷ []

abbrev child_deeds : List StampedDeed
child_deeds = child_before ++ stamped_deed (Ended Canceled) 6 ∷ []

fresh : (f next end : ℕ) (seen : List QueueEvent) → IsNewPass f (queue_entry.new_entry f next end seen)
fresh f next end seen = record { number = refl; acts = refl; stamps = refl; parts = refl }

main_agrees : StampedPortAgrees 0 main_entry nobody main_passes main_deeds
main_agrees =
    let first = stamped_first 0 None 1 2 (with_first main_other main_other) nobody (are_new 0 main_other main_other (fresh 0 1 2 []) (fresh 0 1 2 [])) in
    let put = stamped_puts 0 _ nobody _ _ first 0 3 1 (with_first put_view.own main_other)
    (adds_event (queue_event.Put 0 3) (queue_event.Put 0 1) [] main_other main_other) in
    let started = stamped_starts 0 _ nobody _ _ put child_begin 2 main_passes are_split in
    let found = stamped_finds 0 _ nobody _ _ (stamped_requests 0 _ nobody _ _ started 1 3) 1 Canceled 6 in
    stamped_finishes 0 _ nobody _ _ found (Succeeded 7) 8 (no_end main_before (refl, (refl, (refl, (refl, tt)))))

child_agrees : StampedPortAgrees 1 child_entry nobody child_passes child_deeds
child_agrees =
    let own : pass.Entry = (queue.given_part 2 put_view).own in
    let first = stamped_first 1 (Some (0, child_begin)) 2 2 (with_first own child_other) nobody
    (are_new 1 own child_other (fresh 1 2 2 (queue_event.Put 0 3 ∷ [])) (fresh 1 2 2 [])) in
    let got = stamped_takes 1 _ nobody _ _ first 0 3 1 child_passes
    (adds_event (queue_event.Got 1 3) (queue_event.Got 1 1) (queue_event.Put 0 3 ∷ []) own child_other) in
    stamped_finishes 1 _ nobody _ _ (stamped_sees 1 _ nobody _ _ got 3) Canceled 6 (no_end child_before (refl, (refl, tt)))

-- the events of the main fiber have these stamps, each one more than the one before it but that of the end that it awaited, which is one more than that end
main_stamped : AreStamped example_nodes 0 (shown main_labels) (1 ∷ 2 ∷ 3 ∷ 7 ∷ 8 ∷ []) (0 ∷ 0 ∷ 0 ∷ 6 ∷ 0 ∷ []) main_deeds
main_stamped = (
  stamped_deed (Put 0 3) 1 ∷ [],
  stamped_deed (Started 1 child_begin) 2 ∷ stamped_deed (Requested 1) 3 ∷ stamped_deed (FoundEnded 1 Canceled) 6 ∷ stamped_deed (Ended (Succeeded 7)) 8 ∷ [],
  record { event = event.Put 0 3; shows = refl; is = refl; none = λ h. refl },
  record { are_deeds = refl; are_numbered = (record { is = refl; begins = tt }, tt) },
  (
    stamped_deed (Started 1 child_begin) 2 ∷ [],
    stamped_deed (Requested 1) 3 ∷ stamped_deed (FoundEnded 1 Canceled) 6 ∷ stamped_deed (Ended (Succeeded 7)) 8 ∷ [],
    record { event = event.Start 1; shows = refl; is = refl; none = λ h. refl },
    record { are_deeds = (child_begin, child_reads, refl); are_numbered = (record { is = refl; begins = refl }, tt) },
    (
      stamped_deed (Requested 1) 3 ∷ [],
      stamped_deed (FoundEnded 1 Canceled) 6 ∷ stamped_deed (Ended (Succeeded 7)) 8 ∷ [],
      record { event = event.Request 1; shows = refl; is = refl; none = λ h. refl },
      record { are_deeds = refl; are_numbered = (record { is = refl; begins = tt }, tt) },
      (
        stamped_deed (FoundEnded 1 Canceled) 6 ∷ [],
        stamped_deed (Ended (Succeeded 7)) 8 ∷ [],
        record { event = event.Awaited 1; shows = refl; is = refl; none = λ h. absurd h },
        record { are_deeds = refl; are_numbered = (record { is = refl; begins = tt }, tt) },
        (
          stamped_deed (Ended (Succeeded 7)) 8 ∷ [],
          [],
          record { event = event.Ended (Succeeded 7); shows = refl; is = refl; none = λ h. refl },
          record { are_deeds = refl; are_numbered = (record { is = refl; begins = tt }, tt) },
          refl,
          refl,
        ),
        refl,
      ),
      refl,
    ),
    refl,
  ),
  refl,
)

-- those of its child, which begins with the stamp of its start: its get comes after the put, and what it sees after the request
child_stamped : AreStamped example_nodes 2 (shown child_labels) (3 ∷ 4 ∷ 5 ∷ 6 ∷ []) (1 ∷ 3 ∷ 0 ∷ 0 ∷ []) child_deeds
child_stamped = (
  stamped_deed (Got 0 3) 1 ∷ [],
  stamped_deed Saw 3 ∷ stamped_deed (Ended Canceled) 6 ∷ [],
  record { event = event.Got 0 3; shows = refl; is = refl; none = λ h. absurd h },
  record { are_deeds = refl; are_numbered = (record { is = refl; begins = tt }, tt) },
  (
    stamped_deed Saw 3 ∷ [],
    stamped_deed (Ended Canceled) 6 ∷ [],
    record { event = event.Seen; shows = refl; is = refl; none = λ h. absurd h },
    record { are_deeds = refl; are_numbered = (record { is = refl; begins = tt }, tt) },
    (
      [],
      stamped_deed (Ended Canceled) 6 ∷ [],
      record { event = event.Cancelled; shows = refl; is = refl; none = λ h. refl },
      record { are_deeds = refl; are_numbered = tt },
      (
        stamped_deed (Ended Canceled) 6 ∷ [],
        [],
        record { event = event.Ended Canceled; shows = refl; is = refl; none = λ h. refl },
        record { are_deeds = refl; are_numbered = (record { is = refl; begins = tt }, tt) },
        refl,
        refl,
      ),
      refl,
    ),
    refl,
  ),
  refl,
)

-- the deeds of the labels, one after the other
main_did : AreDeeds example_nodes main_labels (deeds_of main_deeds)
main_did = (
  Put 0 3 ∷ [],
  Started 1 child_begin ∷ Requested 1 ∷ FoundEnded 1 Canceled ∷ Ended (Succeeded 7) ∷ [],
  refl,
  (
    [],
    Started 1 child_begin ∷ Requested 1 ∷ FoundEnded 1 Canceled ∷ Ended (Succeeded 7) ∷ [],
    refl,
    (
      Started 1 child_begin ∷ [],
      Requested 1 ∷ FoundEnded 1 Canceled ∷ Ended (Succeeded 7) ∷ [],
      (child_begin, child_reads, refl),
      (
        Requested 1 ∷ [],
        FoundEnded 1 Canceled ∷ Ended (Succeeded 7) ∷ [],
        refl,
        (
          FoundEnded 1 Canceled ∷ [],
          Ended (Succeeded 7) ∷ [],
          refl,
          (
            [],
            Ended (Succeeded 7) ∷ [],
            refl,
            (
              [],
              Ended (Succeeded 7) ∷ [],
              refl,
              (Ended (Succeeded 7) ∷ [], [], refl, refl, refl),
              refl,
            ),
            refl,
          ),
          refl,
        ),
        refl,
      ),
      refl,
    ),
    refl,
  ),
  refl,
)

child_did : AreDeeds example_nodes child_labels (deeds_of child_deeds)
child_did = (
  Got 0 3 ∷ [],
  Saw ∷ Ended Canceled ∷ [],
  refl,
  (
    [],
    Saw ∷ Ended Canceled ∷ [],
    refl,
    (
      Saw ∷ [],
      Ended Canceled ∷ [],
      refl,
      (
        [],
        Ended Canceled ∷ [],
        refl,
        (Ended Canceled ∷ [], [], refl, refl, refl),
        refl,
      ),
      refl,
    ),
    refl,
  ),
  refl,
)

abbrev main_bare : BareView
main_bare = record {
  nodes = example_nodes;
  id = 0;
  trace = event.Put 0 3 ∷ event.Start 1 ∷ event.Request 1 ∷ event.Awaited 1 ∷ event.Ended (Succeeded 7) ∷ [];
  stamps = 1 ∷ 2 ∷ 3 ∷ 7 ∷ 8 ∷ [];
  counts = counts_at 2;
  registers = [];
  frames = [];
  closed = [];
  cleanups = None;
  focus = focus.Ended (Succeeded 7);
}

abbrev child_bare : BareView
child_bare = record {
  nodes = example_nodes;
  id = 1;
  trace = event.Got 0 3 ∷ event.Seen ∷ event.Cancelled ∷ event.Ended Canceled ∷ [];
  stamps = 3 ∷ 4 ∷ 5 ∷ 6 ∷ [];
  counts = known_canceled (counts_at 2);
  registers = [];
  frames = [];
  closed = [];
  cleanups = None;
  focus = focus.Ended Canceled;
}

main_ran : RanFiber
main_ran = record {
  bare = main_bare;
  words = main_entry;
  noted = nobody;
  passes = main_passes;
  lawful = record {
    labels = main_labels;
    run = subst (λ (b : Origin). IsRun b main_labels (counts_at 2) (HasEnded (Succeeded 7)))
        (sym (main_begins example_nodes ∙ ap main_origin main_reads)) main_run;
    traced = refl;
    deeds = main_deeds;
    are_deeds = main_did;
    causes = 0 ∷ 0 ∷ 0 ∷ 6 ∷ 0 ∷ [];
    stamped = main_stamped;
    agreed = main_agrees;
  };
}

child_ran : RanFiber
child_ran = record {
  bare = child_bare;
  words = child_entry;
  noted = nobody;
  passes = child_passes;
  lawful = record {
    labels = child_labels;
    run = subst (λ (b : Origin). IsRun b child_labels (known_canceled (counts_at 2)) (HasEnded Canceled)) (sym child_reads) child_run;
    traced = refl;
    deeds = child_deeds;
    are_deeds = child_did;
    causes = 1 ∷ 3 ∷ 0 ∷ 0 ∷ [];
    stamped = child_stamped;
    agreed = child_agrees;
  };
}

abbrev fibers : List RanFiber
fibers = main_ran ∷ child_ran ∷ []

abbrev bares : List BareView
bares = main_bare ∷ child_bare ∷ []

-- what holds of both holds of each
of_two : {A : Type 0} (P : A → Type 0) (x y : A) → P x → P y → (z : A) → Among z (x ∷ y ∷ []) → P z
of_two P x y p r z i = elim i [ inl e ↦ subst P (sym e) p | inr j ↦ elim j [ inl e ↦ subst P (sym e) r | inr k ↦ absurd k ] ]

abbrev seat_view : SeatView
seat_view = joined (alone main_entry) (alone child_entry)

-- the one part of the main fiber
one_part : (f : ℕ) (b : Begin) → Among (f, b) main_entry.parts → (f ≡ 1) × (b ≡ child_begin)
one_part f b i = elim i [ inl e ↦ (ap (λ (x : ℕ × Begin). x.0) e, ap (λ (x : ℕ × Begin). x.1) e) | inr j ↦ absurd j ]

settled : IsSettled seat_view
settled = record {
  one = λ d e i j. of_two (λ (x : Entry). x.id ≡ e.id → x ≡ e) main_entry child_entry
      (λ same. of_two (λ (y : Entry). 0 ≡ y.id → main_entry ≡ y) main_entry child_entry (λ z. refl) (λ z. absurd (omega arith)) e j same)
      (λ same. of_two (λ (y : Entry). 1 ≡ y.id → child_entry ≡ y) main_entry child_entry (λ z. absurd (omega arith)) (λ z. refl) e j same) d i;
  requested = λ e i. of_two (λ (x : Entry). x.seen ≡ true → (d : Entry) × In d seat_view × Among x.id d.asked) main_entry child_entry
      (λ no. absurd (let wrong : false ≡ true = no in cc)) (λ yes. (main_entry, inl refl, inl refl)) e i;
  requested_with = λ e i. of_two (λ (x : Entry). (t : ℕ) → Among t x.loaded → (d : Entry) × In d seat_view × Among (x.id, t) d.asked_with)
      main_entry child_entry
      (λ t j. absurd j)
      (λ t j. elim j [ inl same ↦ (main_entry, inl refl, inl (ap (λ (n : ℕ). (1, n)) same)) | inr none ↦ absurd none ]) e i;
  ended = λ e i. of_two (λ (x : Entry). (f : ℕ) (o : Outcome) → Among (f, o) x.learnt → (d : Entry) × In d seat_view × (d.id ≡ f) × (d.ended ≡ Some o))
      main_entry child_entry
      (λ f o j. elim j [
        | inl p ↦ (child_entry, inr (inl refl), sym (ap (λ (x : ℕ × Outcome). x.0) p), ap (λ (x : ℕ × Outcome). Some x.1) (sym p))
        | inr k ↦ absurd k
      ])
      (λ f o j. absurd j) e i;
  ended_with = λ e i. of_two
      (λ (x : Entry). (f t : ℕ) → Among (f, t) x.learnt_stamps → (d : Entry) × In d seat_view × (d.id ≡ f) × (d.stored_stamp ≡ Some t))
      main_entry child_entry
      (λ f t j. elim j [
        | inl p ↦ (child_entry, inr (inl refl), sym (ap (λ (x : ℕ × ℕ). x.0) p), ap (λ (x : ℕ × ℕ). Some x.1) (sym p))
        | inr k ↦ absurd k
      ])
      (λ f t j. absurd j) e i;
  main = λ e i. of_two (λ (x : Entry). x.id ≡ 0 → x.begin ≡ None) main_entry child_entry (λ yes. refl) (λ no. absurd (omega arith)) e i;
  started = λ e i. of_two (λ (x : Entry). x.id ≢ 0 → (d : Entry) × (b : Begin) × In d seat_view × Among (x.id, b) d.parts) main_entry child_entry
      (λ ne. absurd (ne refl)) (λ ne. (main_entry, child_begin, inl refl, inl refl)) e i;
  began = λ d i. of_two
      (λ (x : Entry). (f : ℕ) (b : Begin) → Among (f, b) x.parts → (e : Entry) → In e seat_view → e.id ≡ f → e.begin ≡ Some (x.id, b))
      main_entry child_entry
      (λ f b j e k same.
      (let part = one_part f b j in
      of_two (λ (x : Entry). x.id ≡ 1 → x.begin ≡ Some (0, b)) main_entry child_entry (λ no. absurd (omega arith))
      (λ yes. ap (λ (c : Begin). Some (0, c)) (sym part.1)) e k (same ∙ part.0)))
      (λ f b j. absurd j) d i;
}

words_end : WordsEnd fibers
unfolding main_ran child_ran
words_end = record {
  view = seat_view;
  gathered = gathers_one (λ (p : RanFiber). p.words) (main_ran ∷ []) child_ran main_entry []
      (gathers_first (λ (p : RanFiber). p.words) main_ran);
  settled = settled;
}

abbrev history : List QueueEvent
history = queue_event.Put 0 3 ∷ queue_event.Got 1 3 ∷ []

-- the same with stamps in place of values
abbrev stamps : List QueueEvent
stamps = queue_event.Put 0 1 ∷ queue_event.Got 1 1 ∷ []

abbrev element : ℕ → Element
element n = record { fiber = 0; nth = 0; value = n }

-- a put of the main fiber that the child takes leaves nothing
leaves_taken : (n : ℕ) → Leaves 1 (queue_event.Put 0 n ∷ queue_event.Got 1 n ∷ []) []
leaves_taken n = leaves_got 1 (queue_event.Put 0 n ∷ []) (element n) [] 1 (leaves_put 1 [] [] 0 n (leaves_nothing 1) (omega arith))

abbrev queue_view : PassView
queue_view = queue.joined main_view child_view

-- the child began with the put that the main fiber had seen
handed_to_main : IsHandedOn main_view.own main_view.own
handed_to_main h k same = elim k [
  | inl is ↦ absurd (let one : h.id ≡ 1 = ap (λ (x : Handed). x.id) is in omega (arith, one, same))
  | inr none ↦ absurd none
]

handed_to_child : IsHandedOn main_view.own child_view.own
handed_to_child h k same = elim k [ inl is ↦ (ap (λ (x : Handed). x.seen) (sym is), (h.seen, refl)) | inr none ↦ absurd none ]

rest : IsRest queue_view []
rest = record {
  log = history;
  stamps = stamps;
  legal = leaves_taken 3;
  legal_stamps = leaves_taken 1;
  alike = refl;
  begins = λ e i. of_two (λ (x : pass.Entry). Begins history x.seen) main_view.own child_view.own (queue_event.Got 1 3 ∷ [], refl) ([], refl) e i;
  cuts = λ e i. of_two (λ (x : pass.Entry). cut x.id history ≡ x.acts) main_view.own child_view.own refl refl e i;
  cuts_stamps = λ e i. of_two (λ (x : pass.Entry). cut x.id stamps ≡ x.stamps) main_view.own child_view.own refl refl e i;
  only = λ f apart.
      (let main : (0 == f) ≡ false = ne_eqb 0 f (λ e. apart main_view.own (inl refl) e) in
      let child : (1 == f) ≡ false = ne_eqb 1 f (λ e. apart child_view.own (inr (inl refl)) e) in
      rw (main, child) refl);
  handed = λ d e i j. of_two (λ (x : pass.Entry). IsHandedOn x e) main_view.own child_view.own
      (of_two (λ (x : pass.Entry). IsHandedOn main_view.own x) main_view.own child_view.own handed_to_main handed_to_child e j)
      (λ h k same. absurd k) d i;
}

queue_end : QueueEnd 0 1 fibers []
unfolding main_ran child_ran
queue_end = record {
  view = queue_view;
  sized = refl;
  gathered = gathers_one (λ (p : RanFiber). p.passes 0) (main_ran ∷ []) child_ran main_view.own []
      (gathers_first (λ (p : RanFiber). p.passes 0) main_ran);
  rest = rest;
}

bare_is : (f : ℕ) (x : BareView) → bare_at bares f ≡ Some x → Among x bares
bare_is f x e = (found_is (λ (y : BareView). y.id == f) bares x e).1

not_lost : (f : ℕ) → IsLost bares f → ⊥
not_lost f (none, why) = elim why [
  | inl zero_is ↦ none-some main_bare (sym none ∙ ap (bare_at bares) zero_is)
  | inr by ↦
      (let one : f ≡ 1 = of_two (λ (y : BareView). Among (event.Start f) y.trace → f ≡ 1) main_bare child_bare
      (λ i. only_start f i) (λ i. absurd (no_start f i))
      by.1 (bare_is by.0 by.1 by.2) by.3 in
      none-some child_bare (sym none ∙ ap (bare_at bares) one))
]
  where
    started : Event → ℕ
    started (event.Start g) = g
    started _ = 0

    only_start : (f : ℕ) → Among (event.Start f) main_bare.trace → f ≡ 1
    only_start f (inl e) = absurd cc
    only_start f (inr (inl e)) = ap started e
    only_start f (inr (inr (inl e))) = absurd cc
    only_start f (inr (inr (inr (inl e)))) = absurd cc
    only_start f (inr (inr (inr (inr (inl e))))) = absurd cc
    only_start f (inr (inr (inr (inr (inr i))))) = absurd i

    no_start : (f : ℕ) → Among (event.Start f) child_bare.trace → ⊥
    no_start f (inl e) = cc
    no_start f (inr (inl e)) = cc
    no_start f (inr (inr (inl e))) = cc
    no_start f (inr (inr (inr (inl e)))) = cc
    no_start f (inr (inr (inr (inr i)))) = i

none_is_unsettled : NoneIsUnsettled example_script bares example_report
none_is_unsettled f x at =
    of_two (λ (y : BareView). can_step (final_outside example_script example_report) f y.counts (reached y) ≡ false) main_bare child_bare
    refl refl x (bare_is f x at)

ascends : (k : ℕ) → k + 1 < 2 → slice_index (0 ∷ 1 ∷ []) k < slice_index (0 ∷ 1 ∷ []) (k + 1)
ascends zero lt = omega arith
ascends (suc k) lt = absurd (omega arith)

by_queue : (q : ℕ) → q < 1 → QueueEnd q (capacity_of example_script q) fibers (slice_index_or ([] ∷ []) q [])
by_queue zero lt = queue_end
by_queue (suc q) lt = absurd (omega arith)

untouched : (q : ℕ) → 1 ≤ q → IsUntouched q fibers
unfolding main_ran child_ran
untouched zero le = absurd (omega arith)
untouched (suc q) le = λ f p at.
    of_two (λ (z : RanFiber). (z.passes (suc q)).acts ≡ []) main_ran child_ran refl refl p
    (found_is (λ (z : RanFiber). z.bare.id == f) fibers p at).1

pub ends_with_report : EndsWithReport example_script (λ f. false) example_report
unfolding main_ran child_ran
ends_with_report = record {
  nodes = example_nodes;
  fibers = fibers;
  left = [] ∷ [];
  outside = [];
  late = 0;
  term = refl;
  ran = all_among (λ (x : BareView). x.nodes ≡ example_nodes) bares (of_two (λ (x : BareView). x.nodes ≡ example_nodes) main_bare child_bare refl refl);
  ascending = λ k lt. ascends k lt;
  noted = λ g p at f i. absurd
      (of_two (λ (q : RanFiber). q.noted f ≡ true → ⊥) main_ran child_ran (λ (j : false ≡ true). cc) (λ (j : false ≡ true). cc) p
      (found_is (λ (q : RanFiber). q.bare.id == g) fibers p at).1 i);
  named = record { ascending = λ k lt. absurd (omega arith); named = λ f i. absurd (let lt = i.1 in omega arith) };
  words = words_end;
  left_by_queue = refl;
  queues = by_queue;
  undeclared = untouched;
  answered = record { none_lost = none_is_lost bares not_lost; none_unsettled = none_is_unsettled; is = refl };
}

pub all_ended : AllEnded example_report
all_ended f x at =
    of_two (λ (y : FiberReportView). y.has_ended ≡ true) _ _ refl refl x (found_is (λ (y : FiberReportView). y.id == f) example_report.fibers x at).1

pub is_core : IsCore example_script.term
is_core = subst IsCore (sym main_reads) (tt, ((tt, tt), (tt, tt)))
