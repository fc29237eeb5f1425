-- The stamps of a whole machine's events are those of the definition, and stay so with each step.
use Rattle.std.proofs.Common.{◌≡◌, ℕ, zero, suc, ◌+◌, ◌<◌, Option, Some, None, List, [], ◌∷◌, ◌++◌, length, max, refl, sym, ◌∙◌, ap}
use Rattle.std.proofs.Common.{subst, arith, ◌⊎◌, inl, inr}
use Rattle.std.specs.Prelude.{map, slice_get}
use Rattle.std.proofs.lemmas.Bool.{cases_eq}
use Rattle.std.proofs.lemmas.List.{length-append}
use Rattle.std.proofs.lemmas.Option.{none-some}
use Rattle.fx_term.specs.declared.outcome.Outcome.{Outcome}
use Rattle.fx_term.specs.declared.event.Event.{Event}
use Rattle.fx_term.specs.declared.event.Event.TheVariants as event
use Rattle.fx_term.specs.Queue.{erase_event, empty_queue, queue_events}
use Rattle.fx_term.specs.Script.{ScriptView}
use Rattle.fx_term.proofs.MapLaws.{at_that, at_other}
use Rattle.fx_model.specs.Row.{Counts, Label, Silent, Shows, Learns, Starts}
use Rattle.fx_model.specs.Step.{Progress, Step}
use Rattle.fx_model.specs.Run.{events, shown}
use Rattle.fx_model.specs.Report.{outcome_shown}
use Rattle.fx_model.specs.Stamps.{stamp_before, HasNoCause}
use Rattle.fx_model.specs.KeptStamps.{number_in}
use Rattle.fx_model.specs.StampedQueue.{stamped}
use Rattle.fx_model.specs.ToldStamps.{OwnStamps}
use Rattle.fx_model.proofs.ShownLabels.{shown_length, shown_holds}
use Rattle.fx_model.proofs.EventLabels.{shown_by, start_label, seen_label, run_is_proper}
use Rattle.fx_model.proofs.StepLabels.{IsProper, step_tells}
use Rattle.fx_model.proofs.OneOrder.{old_or_new}
use Rattle.fx_model.proofs.OutcomeLaws.{run_outcome, no_step_after_end}
use Rattle.fx_fiber.specs.StampedRun.{next_stamp, last_of, stamp_of_event}
use Rattle.fx_plain.specs.MachineStamps.{MachineStamps, cause_of, stamp_of, began_after, asked_after, ended_after}
use Rattle.fx_plain.specs.WholeMachine.{StartedFiber, WholeMachine, opening, IsAnswered, moved, requested_from_outside}
use Rattle.fx_plain.proofs.Maps.{at_itself}
use Rattle.fx_plain.proofs.Moments.{moment_after, moment_now, moment_kept}
use Rattle.fx_plain.proofs.RangesKept.{HasRanges, fresh}
use Rattle.fx_plain.proofs.FamilyKept.{IsFamily, labels_of_fiber, labels_of}
use Rattle.fx_plain.proofs.HistoriesKept.{HasHistories, opening_has_no_labels, opening_has_histories, opening_has_no_history}
use Rattle.fx_plain.proofs.RunsKept.{IsSo, AreSo}
use Rattle.fx_plain.proofs.CausesKept.{trace_of, IsInOrder, traces_grow, labels_grow, ended_before}
use Rattle.fx_plain.proofs.MachineStampsGrow.{Numbers, Tells, IsAsked, Learnt, AreGreatest}
use Rattle.fx_plain.proofs.MachineStampsGrow.{tells_grow, asked_stays, asked_grows, own_grows, learnt_grows, seen_grows}
use Rattle.fx_plain.proofs.MachineStampsQueues.{HasStampedHistories, stamped_histories_kept}

-- the stamp of event i of fiber f
abbrev pub stamp_at : WholeMachine → ℕ → ℕ → ℕ
stamp_at m f i = number_in (m.stamps.trace f) i

-- the fiber that an event starts, and the one that it ends
abbrev pub NamesStarted : ℕ → Event → ℕ → Type 0
NamesStarted g (event.Start k) h = k ≡ h
NamesStarted g _ h = ⊥

abbrev pub NamesEnded : ℕ → Event → ℕ → Type 0
NamesEnded g (event.Ended o) h = g ≡ h
NamesEnded g _ h = ⊥

-- what the stamps of a whole machine are, by the moments of its events
pub record HasStamps (s : ScriptView) (m : WholeMachine) (h : HasHistories s m) (moment : ℕ → ℕ → ℕ) : Type 0 where
  pub cause : ℕ → ℕ → ℕ
  pub one_each : (f : ℕ) → length (m.stamps.trace f) ≡ length (trace_of m f)
  pub main : m.stamps.began 0 ≡ 0
  pub own : (f : ℕ) → OwnStamps (trace_of m f) (m.stamps.began f) (stamp_at m f) (cause f)
  pub starts : Tells NamesStarted (trace_of m) (stamp_at m) m.stamps.began
  pub ends : Tells NamesEnded (trace_of m) (stamp_at m) m.stamps.ended
  pub learnt : Learnt (λ g. shown (labels_of m g)) cause m.stamps.ended
  pub asked : (f : ℕ) → IsAsked (trace_of m) (stamp_at m) f (m.stamps.asked f)
  pub seen : AreGreatest (trace_of m) (stamp_at m) moment cause
  pub queues : HasStampedHistories s m h (trace_of m) (stamp_at m) cause

pub opening_has_stamps : (s : ScriptView) (moment : ℕ → ℕ → ℕ) → HasStamps s (opening s) (opening_has_histories s) moment
opening_has_stamps s moment = record {
  cause = λ f i. 0;
  one_each = λ f. sym (ap length (nothing f));
  main = refl;
  own = λ f. record {
    each = λ i lt. absurd (let none : length (trace_of (opening s) f) ≡ 0 = ap length (nothing f) in omega arith);
    none = λ i e at quiet. refl;
  };
  starts = λ h g j e names at. absurd (none g j e at);
  ends = λ h g j e names at. absurd (none g j e at);
  learnt = λ g i h o e at. refl;
  asked = λ f. record { greatest = λ g j at. absurd (none g j (event.Request f) at); is = inr (refl, λ g j at. none g j (event.Request f) at) };
  seen = λ g i at. absurd (none g i event.Seen at);
  queues = record {
    reading = λ q. record {
      stamps = [];
      alike = ap (map erase_event) (opening_has_no_history s q);
      last = empty_queue;
      legal = refl;
      cuts = λ f. sym (ap (λ (es : List Event). queue_events q f (stamped (number_in []) (λ i. 0) es)) (nothing f));
    };
    holds = λ q. refl;
  };
}
  where
    nothing : (f : ℕ) → trace_of (opening s) f ≡ []
    nothing f = ap events (opening_has_no_labels s f)

    none : (g j : ℕ) (e : Event) → slice_get (trace_of (opening s) g) j ≡ Some e → ⊥
    none g j e at = none-some e (sym (ap (λ (es : List Event). slice_get es j) (nothing g)) ∙ at)

pub request_keeps_stamps : (s : ScriptView) (m : WholeMachine) (f : ℕ) (h : HasHistories s m) (h' : HasHistories s (requested_from_outside f m))
    (moment : ℕ → ℕ → ℕ) → ((q : ℕ) → h'.history q ≡ h.history q) → HasStamps s m h moment → HasStamps s (requested_from_outside f m) h' moment
request_keeps_stamps s m f h h' moment same k = record {
  cause = k.cause;
  one_each = k.one_each;
  main = k.main;
  own = k.own;
  starts = k.starts;
  ends = k.ends;
  learnt = k.learnt;
  asked = k.asked;
  seen = k.seen;
  queues = record {
    reading = λ q. record {
      stamps = (k.queues.reading q).stamps;
      alike = ap (map erase_event) (same q) ∙ (k.queues.reading q).alike;
      last = (k.queues.reading q).last;
      legal = (k.queues.reading q).legal;
      cuts = (k.queues.reading q).cuts;
    };
    holds = k.queues.holds;
  };
}

-- numbers of a list that goes on
number_first : (xs ys : List ℕ) (i : ℕ) → i < length xs → number_in (xs ++ ys) i ≡ number_in xs i
number_first [] ys i lt = absurd (omega arith)
number_first (x ∷ xs) ys zero lt = refl
number_first (x ∷ xs) ys (suc i) lt = number_first xs ys i (omega arith)

number_last : (xs : List ℕ) (t : ℕ) → number_in (xs ++ t ∷ []) (length xs) ≡ t
number_last [] t = refl
number_last (x ∷ xs) t = number_last xs t

last_is_before : (b : ℕ) (ts : List ℕ) → last_of b ts ≡ stamp_before b (number_in ts) (length ts)
last_is_before b [] = refl
last_is_before b (t ∷ []) = refl
last_is_before b (t ∷ u ∷ ts) = last_is_before t (u ∷ ts)

-- a step has one stamp where it shows an event
one_stamp : (t : ℕ) (l : Label) → length (stamp_of_event t l) ≡ length (events (l ∷ []))
one_stamp t Silent = refl
one_stamp t (Shows e) = refl
one_stamp t (Learns g o e) = refl
one_stamp t (Starts g b) = refl

its_stamp : (xs : List ℕ) (t : ℕ) (l : Label) → 0 < length (events (l ∷ [])) → number_in (xs ++ stamp_of_event t l) (length xs) ≡ t
its_stamp xs t Silent some = absurd (omega arith)
its_stamp xs t (Shows e) some = number_last xs t
its_stamp xs t (Learns g o e) some = number_last xs t
its_stamp xs t (Starts g b) some = number_last xs t

-- what a label without a cause shows has none
uncaused : (m : MachineStamps) (f : ℕ) (l : Label) (e : Event) → IsProper l → events (l ∷ []) ≡ e ∷ [] → HasNoCause e → cause_of m f l ≡ 0
uncaused m f Silent e proper is quiet = refl
uncaused m f (Shows (event.Got q n)) e proper is quiet = absurd (subst HasNoCause (let same : e ≡ event.Got q n = cc in same) quiet)
uncaused m f (Shows event.Seen) e proper is quiet = absurd (subst HasNoCause (let same : e ≡ event.Seen = cc in same) quiet)
uncaused m f (Shows _) e proper is quiet = refl
uncaused m f (Learns g o (event.Joined k v)) e proper is quiet = absurd (subst HasNoCause (let same : e ≡ event.Joined k v = cc in same) quiet)
uncaused m f (Learns g o (event.Awaited k)) e proper is quiet = absurd (subst HasNoCause (let same : e ≡ event.Awaited k = cc in same) quiet)
uncaused m f (Learns g o (event.First k)) e proper is quiet = absurd (subst HasNoCause (let same : e ≡ event.First k = cc in same) quiet)
uncaused m f (Learns g o _) e proper is quiet = absurd proper
uncaused m f (Starts g b) e proper is quiet = refl

-- what learns of an end has its stamp
learns_stamp : (m : MachineStamps) (f t : ℕ) (l : Label) (h : ℕ) (o : Outcome) (e : Event) → shown (l ∷ []) ≡ Learns h o e ∷ []
    → cause_of m f l ≡ ended_after f l t m.ended h
learns_stamp m f t Silent h o e is = absurd cc
learns_stamp m f t (Shows v) h o e is = absurd cc
learns_stamp m f t (Learns g u v) h o e is = ap m.ended (let same : g ≡ h = cc in same)
learns_stamp m f t (Starts g b) h o e is = absurd cc

-- an end is told of the fiber that makes the step, and of no other
ended_stays : (f t : ℕ) (l : Label) (ended : ℕ → ℕ) (h : ℕ) → (h ≡ f → ⊥) → ended_after f l t ended h ≡ ended h
ended_stays f t (Shows (event.Ended o)) ended h ne = at_other f t ended h ne
ended_stays f t _ ended h ne = refl

ended_now : (f t : ℕ) (l : Label) (ended : ℕ → ℕ) (o : Outcome) → IsProper l → events (l ∷ []) ≡ event.Ended o ∷ [] → ended_after f l t ended f ≡ t
ended_now f t Silent ended o proper is = absurd cc
ended_now f t (Shows (event.Ended u)) ended o proper is = at_itself f t ended
ended_now f t (Shows _) ended o proper is = absurd cc
ended_now f t (Learns g u (event.Joined k v)) ended o proper is = absurd cc
ended_now f t (Learns g u (event.Awaited k)) ended o proper is = absurd cc
ended_now f t (Learns g u (event.First k)) ended o proper is = absurd cc
ended_now f t (Learns g u _) ended o proper is = absurd proper
ended_now f t (Starts g b) ended o proper is = absurd cc

-- a step requests a fiber, or not
abbrev AsksFor : Label → ℕ → (ℕ → ℕ) → ℕ → Type 0
AsksFor l t asked h = ((events (l ∷ []) ≡ event.Request h ∷ []) × (asked_after l t asked h ≡ max t (asked h)))
    ⊎ ((events (l ∷ []) ≡ event.Request h ∷ [] → ⊥) × (asked_after l t asked h ≡ asked h))

asks_for : (l : Label) (t : ℕ) (asked : ℕ → ℕ) (h : ℕ) → IsProper l → AsksFor l t asked h
asks_for (Shows (event.Request g)) t asked h proper = elim (cases_eq h g) [
  | inl same ↦ inl (
    ap (λ (k : ℕ). event.Request k ∷ []) (sym same),
    at_that g (max t (asked g)) asked h same ∙ ap (λ (k : ℕ). max t (asked k)) (sym same),
  )
  | inr ne ↦ inr ((λ is. ne (let same : g ≡ h = cc in sym same)), at_other g (max t (asked g)) asked h ne)
]
asks_for (Shows _) t asked h proper = inr ((λ is. cc), refl)
asks_for Silent t asked h proper = inr ((λ is. cc), refl)
asks_for (Starts g b) t asked h proper = inr ((λ is. cc), refl)
asks_for (Learns g o (event.Joined k v)) t asked h proper = inr ((λ is. cc), refl)
asks_for (Learns g o (event.Awaited k)) t asked h proper = inr ((λ is. cc), refl)
asks_for (Learns g o (event.First k)) t asked h proper = inr ((λ is. cc), refl)
asks_for (Learns g o _) t asked h proper = absurd proper

-- a trace with an end shows an outcome
shows_outcome : (es : List Event) (j : ℕ) (o : Outcome) → slice_get es j ≡ Some (event.Ended o) → (u : Outcome) × (outcome_shown es ≡ Some u)
shows_outcome [] j o at = absurd (none-some (event.Ended o) at)
shows_outcome (event.Ended u ∷ es) j o at = (u, refl)
shows_outcome (_ ∷ es) zero o at = absurd cc
shows_outcome (_ ∷ es) (suc j) o at = shows_outcome es j o at

module _ (s : ScriptView) (m : WholeMachine) (f : ℕ) (x : StartedFiber) (d : Counts) (p : Progress) (at : m.fibers f ≡ Some x) (ranges : HasRanges s m)
    (h : HasHistories s m) (l : Label) (st : Step x.counts x.progress l d p) where
  abbrev after : WholeMachine
  after = moved m f x l d p

  abbrev more : List Event
  more = events (l ∷ [])

  abbrev now : ℕ
  now = stamp_of m.stamps f l

  is_proper : IsProper l
  is_proper = (step_tells st).proper

  -- a fiber that shows something has started
  has_started : (g i : ℕ) → i < length (trace_of m g) → (y : StartedFiber) × (m.fibers g ≡ Some y)
  has_started g i lt = by_fiber (m.fibers g) refl
    where
      by_fiber : (o : Option StartedFiber) → m.fibers g ≡ o → (y : StartedFiber) × (m.fibers g ≡ Some y)
      by_fiber None is =
          absurd (let none : length (trace_of m g) ≡ 0 = ap (λ (o : Option StartedFiber). length (events (labels_of_fiber o))) is in omega arith)
      by_fiber (Some y) is = (y, is)

  -- what a fiber began with that has started stays
  began_stays : (t : ℕ) (began : ℕ → ℕ) (g : ℕ) (y : StartedFiber) → m.fibers g ≡ Some y → began_after l t began g ≡ began g
  began_stays t began g y is = by_label l st
    where
      by_label : (l : Label) → Step x.counts x.progress l d p → began_after l t began g ≡ began g
      by_label (Starts k b) st =
          at_other k t began g (λ same. none-some y (sym (fresh s m f x d p at ranges (Starts k b) st) ∙ ap m.fibers (sym same) ∙ is))
      by_label _ st = refl

  began_same : (t : ℕ) (began : ℕ → ℕ) (g : ℕ) → 0 < length (trace_of after g) → began_after l t began g ≡ began g
  began_same t began g some =
      elim (old_or_new (trace_of m) (trace_of after) f more (traces_grow s m f x d p at ranges h l st) g 0 some) [
        | inl old ↦ (let y = has_started g 0 old in began_stays t began g y.0 y.1)
        | inr new ↦ began_stays t began g x (ap m.fibers new.0 ∙ at)
      ]

  module _ (h' : HasHistories s after) (longer : (q : ℕ) → h'.history q ≡ h.history q ++ queue_events q f more) (so : AreSo m) (family : IsFamily s m)
      (answered : IsAnswered s m f l) (order : IsInOrder s m h) (k : HasStamps s m h order.moment) where
    stamped_so : Numbers (trace_of m) f more (stamp_at m) (stamp_at after) now
    stamped_so = record { kept = kept; now = came }
      where
        kept : (g i : ℕ) → i < length (trace_of m g) → stamp_at after g i ≡ stamp_at m g i
        kept g i lt = let long = k.one_each g in elim (cases_eq g f) [
          | inl same ↦
              ap (λ (ts : List ℕ). number_in ts i) (at_that f (m.stamps.trace f ++ stamp_of_event now l) m.stamps.trace g same)
              ∙ ap (λ (j : ℕ). number_in (m.stamps.trace j ++ stamp_of_event now l) i) (sym same)
              ∙ number_first (m.stamps.trace g) (stamp_of_event now l) i (omega arith)
          | inr ne ↦ ap (λ (ts : List ℕ). number_in ts i) (at_other f (m.stamps.trace f ++ stamp_of_event now l) m.stamps.trace g ne)
        ]

        came : 0 < length more → stamp_at after f (length (trace_of m f)) ≡ now
        came some =
            ap (λ (ts : List ℕ). number_in ts (length (trace_of m f))) (at_itself f (m.stamps.trace f ++ stamp_of_event now l) m.stamps.trace)
            ∙ ap (number_in (m.stamps.trace f ++ stamp_of_event now l)) (sym (k.one_each f))
            ∙ its_stamp (m.stamps.trace f) now l some

    abbrev cause_after : ℕ → ℕ → ℕ
    cause_after = moment_after f (length (trace_of m f)) (cause_of m.stamps f l) k.cause

    caused_so : Numbers (trace_of m) f more k.cause cause_after (cause_of m.stamps f l)
    caused_so = record {
      kept = moment_kept (trace_of m) f (cause_of m.stamps f l) k.cause;
      now = λ some. moment_now f (length (trace_of m f)) (cause_of m.stamps f l) k.cause;
    }

    abbrev moments_after : ℕ → ℕ → ℕ
    moments_after = moment_after f (length (trace_of m f)) (length order.list) order.moment

    at_moments : Numbers (trace_of m) f more order.moment moments_after (length order.list)
    at_moments = record {
      kept = moment_kept (trace_of m) f (length order.list) order.moment;
      now = λ some. moment_now f (length (trace_of m f)) (length order.list) order.moment;
    }

    one_each_after : (g : ℕ) → length (after.stamps.trace g) ≡ length (trace_of after g)
    one_each_after g = elim (cases_eq g f) [
      | inl same ↦ rw same (
          ap length (at_itself f (m.stamps.trace f ++ stamp_of_event now l) m.stamps.trace)
          ∙ length-append (m.stamps.trace f) (stamp_of_event now l)
          ∙ ap (λ (n : ℕ). n + length (stamp_of_event now l)) (k.one_each f)
          ∙ ap (λ (n : ℕ). length (trace_of m f) + n) (one_stamp now l)
          ∙ sym (ap length (traces_grow s m f x d p at ranges h l st).own ∙ length-append (trace_of m f) more))
      | inr ne ↦
          ap length (at_other f (m.stamps.trace f ++ stamp_of_event now l) m.stamps.trace g ne) ∙ k.one_each g
          ∙ sym (ap length ((traces_grow s m f x d p at ranges h l st).other g ne))
    ]

    -- whom an event started has started
    child_started : (g j c : ℕ) → slice_get (trace_of m g) j ≡ Some (event.Start c) → (y : StartedFiber) × (m.fibers c ≡ Some y)
    child_started g j c is = by_fiber (m.fibers g) refl
      where
        by_fiber : (o : Option StartedFiber) → m.fibers g ≡ o → (y : StartedFiber) × (m.fibers c ≡ Some y)
        by_fiber None none =
            absurd (none-some (event.Start c) (sym (ap (λ (o : Option StartedFiber). slice_get (events (labels_of_fiber o)) j) none) ∙ is))
        by_fiber (Some y) there =
            let shows = shown_by y.labels j (event.Start c)
            (sym (ap (λ (o : Option StartedFiber). slice_get (events (labels_of_fiber o)) j) there) ∙ is) in
            let proper = shown_holds IsProper y.labels j shows.label (run_is_proper _ _ _ _ y.labels (family.runs g y there)) shows.at in
            let label = start_label shows.label c proper shows.shows in
            let started = subst (IsSo m g) label.1 (shown_holds (IsSo m g) y.labels j shows.label (so g y there) shows.at) in
            (started.0, started.1)

    -- a fiber that makes a step has not ended
    has_not_ended : (j : ℕ) (o : Outcome) → slice_get (trace_of m f) j ≡ Some (event.Ended o) → ⊥
    has_not_ended j o is =
        let told = shows_outcome (events x.labels) j o
        (sym (ap (λ (z : Option StartedFiber). slice_get (events (labels_of_fiber z)) j) at) ∙ is) in
        no_step_after_end told.0 st (sym (run_outcome x.origin x.labels x.counts x.progress (family.runs f x at)) ∙ told.1)

    starts_stay : (c g j : ℕ) (e : Event) → NamesStarted g e c → slice_get (trace_of m g) j ≡ Some e → after.stamps.began c ≡ m.stamps.began c
    starts_stay c g j (event.Start n) names is =
        let y = child_started g j c (is ∙ ap (λ (i : ℕ). Some (event.Start i)) names) in began_stays now m.stamps.began c y.0 y.1
    starts_stay c g j _ names is = absurd names

    starts_now : (c : ℕ) (e : Event) → NamesStarted f e c → more ≡ e ∷ [] → after.stamps.began c ≡ now
    starts_now c (event.Start n) names is =
        let label = start_label l n is_proper is in
        subst (λ (v : Label). began_after v now m.stamps.began c ≡ now) (sym label.1) (at_that n now m.stamps.began c (sym names))
    starts_now c _ names is = absurd names

    ends_stay : (c g j : ℕ) (e : Event) → NamesEnded g e c → slice_get (trace_of m g) j ≡ Some e → after.stamps.ended c ≡ m.stamps.ended c
    ends_stay c g j (event.Ended o) names is =
        ended_stays f now l m.stamps.ended c (λ same. has_not_ended j o (ap (λ (i : ℕ). slice_get (trace_of m i) j) (sym (names ∙ same)) ∙ is))
    ends_stay c g j _ names is = absurd names

    ends_now : (c : ℕ) (e : Event) → NamesEnded f e c → more ≡ e ∷ [] → after.stamps.ended c ≡ now
    ends_now c (event.Ended o) names is = ap after.stamps.ended (sym names) ∙ ended_now f now l m.stamps.ended o is_proper is
    ends_now c _ names is = absurd names

    asked_after_step : (g : ℕ) → IsAsked (trace_of after) (stamp_at after) g (after.stamps.asked g)
    asked_after_step g = elim (asks_for l now m.stamps.asked g is_proper) [
      | inl asks ↦ rw asks.1 (asked_grows (trace_of m) (trace_of after) f more (traces_grow s m f x d p at ranges h l st) (stamp_at m) (stamp_at after) now
          stamped_so g (m.stamps.asked g) asks.0 (k.asked g))
      | inr no_request ↦ rw no_request.1 (asked_stays (trace_of m) (trace_of after) f more (traces_grow s m f x d p at ranges h l st) (stamp_at m)
          (stamp_at after) now stamped_so g (m.stamps.asked g) no_request.0 (k.asked g))
    ]

    pub stamps_kept : HasStamps s after h' moments_after
    stamps_kept =
        let grows = traces_grow s m f x d p at ranges h l st in
        record {
          cause = cause_after;
          one_each = one_each_after;
          main = began_stays now m.stamps.began 0 family.main.0 family.main.1 ∙ k.main;
          own =
              own_grows (trace_of m) (trace_of after) f more grows (stamp_at m) (stamp_at after) now stamped_so k.cause cause_after (cause_of m.stamps f l)
              caused_so m.stamps.began after.stamps.began (began_same now m.stamps.began)
              (ap (λ (b : ℕ). next_stamp b (cause_of m.stamps f l)) (last_is_before (m.stamps.began f) (m.stamps.trace f)
              ∙ ap (stamp_before (m.stamps.began f) (stamp_at m f)) (k.one_each f)))
              (λ e is quiet. uncaused m.stamps f l e is_proper is quiet) k.own;
          starts =
              tells_grow (trace_of m) (trace_of after) f more grows (stamp_at m) (stamp_at after) now stamped_so NamesStarted m.stamps.began
              after.stamps.began starts_stay starts_now k.starts;
          ends =
              tells_grow (trace_of m) (trace_of after) f more grows (stamp_at m) (stamp_at after) now stamped_so NamesEnded m.stamps.ended
              after.stamps.ended ends_stay ends_now k.ends;
          learnt =
              learnt_grows (trace_of m) (trace_of after) f more grows (stamp_at m) (stamp_at after) now stamped_so k.cause cause_after (cause_of m.stamps f l)
              caused_so (λ g. shown (labels_of m g)) (λ g. shown (labels_of after g)) (shown (l ∷ [])) (labels_grow s m f x d p at ranges h l st)
              (λ g. shown_length (labels_of m g)) (shown_length (l ∷ [])) m.stamps.ended after.stamps.ended
              (λ g i c o e is. ended_stays f now l m.stamps.ended c
              (ended_before s m f x d p at ranges h l st h' longer so g i c o e is))
              (λ c o e is. learns_stamp m.stamps f now l c o e is) k.learnt;
          asked = asked_after_step;
          seen =
              seen_grows (trace_of m) (trace_of after) f more grows (stamp_at m) (stamp_at after) now stamped_so k.cause cause_after (cause_of m.stamps f l)
              caused_so order.moment moments_after (length order.list) at_moments order.past m.stamps.asked k.asked
              (λ is. ap (cause_of m.stamps f) (seen_label l is_proper is)) k.seen;
          queues =
              stamped_histories_kept s m h (trace_of m) (stamp_at m) k.cause k.queues f now l is_proper answered after h' longer (λ q. refl) (trace_of after)
              (stamp_at after) cause_after grows stamped_so caused_so;
        }
