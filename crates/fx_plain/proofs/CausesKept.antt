-- A step of the whole machine comes after what it stands on: so its moves are one order of all events.
use Rattle.std.proofs.Common.{◌≡◌, ℕ, suc, ◌<◌, true, Option, Some, None, List, [], ◌∷◌, ◌++◌, length, refl, sym, ◌∙◌, ap, subst}
use Rattle.std.proofs.Common.{arith, inl, inr}
use Rattle.std.specs.Prelude.{slice_get, take}
use Rattle.std.specs.List.{list_any}
use Rattle.std.proofs.lemmas.Bool.{eqb-true, or_cases}
use Rattle.std.proofs.lemmas.Option.{none-some, same_Some, slice_get_within}
use Rattle.std.proofs.lemmas.List.{take_all}
use Rattle.fx_term.specs.declared.outcome.Outcome.{Outcome}
use Rattle.fx_term.specs.declared.event.Event.{Event}
use Rattle.fx_term.specs.declared.event.Event.TheVariants as event
use Rattle.fx_term.specs.Script.{ScriptView}
use Rattle.fx_term.specs.Queue.{cut, QueueState, empty_queue, Taking, replayed_from, replayed, queue_events, values_put}
use Rattle.fx_term.proofs.QueueLaws.{replayed_append}
use Rattle.fx_model.specs.Row.{Counts, Label, Learns, Starts}
use Rattle.fx_model.specs.Origin.{Origin}
use Rattle.fx_model.specs.Step.{Progress, Step}
use Rattle.fx_model.specs.Run.{events, shown}
use Rattle.fx_model.specs.Outside.{outcome_at}
use Rattle.fx_model.specs.Report.{capacity_of, is_request_for}
use Rattle.fx_model.specs.Causes.{values_got, taking_of, TakesWhatWasPut, LearnsOfEnd, Needs, taken_element, end_of_other, start}
use Rattle.fx_model.proofs.OutcomeLaws.{no_step_after_end}
use Rattle.fx_model.proofs.ShownLabels.{shown_length, shown_append, one_shown, shown_holds}
use Rattle.fx_model.proofs.EventLabels.{start_label, seen_label, learnt_label}
use Rattle.fx_model.proofs.StepLabels.{IsProper, step_tells}
use Rattle.fx_model.proofs.Takes.{takes_counted, taken_before, fewer_before, taken_was_put}
use Rattle.fx_model.proofs.OneOrder.{GrowsAt, Stands, stood, comes, stood_within, stands, take_stays, old_or_new, HasOrder, StoodBefore, both, cause}
use Rattle.fx_model.proofs.OneOrder.{IsRequestedIn, SeenAfter, seen, sees, order_grows, grown_moments}
use Rattle.fx_plain.specs.WholeMachine.{StartedFiber, WholeMachine, opening, IsAnswered, moved}
use Rattle.fx_plain.proofs.Moments.{moment_after, moment_now, moment_kept}
use Rattle.fx_plain.proofs.WholeMachineSteps.{still_itself}
use Rattle.fx_plain.proofs.RangesKept.{HasRanges, opened_at, fresh, child_is_another}
use Rattle.fx_plain.proofs.FamilyKept.{labels_of_fiber, labels_of}
use Rattle.fx_plain.proofs.HistoriesKept.{HasHistories, labels_of_other, events_grow}
use Rattle.fx_plain.proofs.RunsKept.{IsSo, AreSo, HasRequests}

abbrev pub trace_of : WholeMachine → ℕ → List Event
trace_of m f = events (labels_of m f)

-- the queues as the histories of their events leave them
abbrev pub AreLeft : {s : ScriptView} {m : WholeMachine} → HasHistories s m → ℕ → QueueState → Type 0
AreLeft h q state = state ≡ h.state q

abbrev pub AreFromOutside : WholeMachine → ℕ → Type 0
AreFromOutside m f = m.from_outside f ≡ true

-- the events of a whole machine's fibers have one order
abbrev pub IsInOrder : (s : ScriptView) (m : WholeMachine) → HasHistories s m → Type 0
IsInOrder s m h = HasOrder (trace_of m) h.history (labels_of m) (AreLeft h) (AreFromOutside m)

-- a trace that asks for a fiber has a request for it
record StandsAt (h : ℕ) (es : List Event) : Type 0 where
  pub place : ℕ
  pub at : slice_get es place ≡ Some (event.Request h)

asked_at : (h : ℕ) (es : List Event) → list_any (is_request_for h) es ≡ true → StandsAt h es
asked_at h [] e = absurd cc
asked_at h (v ∷ es) e = elim (or_cases (is_request_for h v) (list_any (is_request_for h) es) e) [
  | inl here ↦ by_event v here
  | inr later ↦ (let a = asked_at h es later in record { place = suc a.place; at = a.at })
]
  where
    by_event : (v : Event) → is_request_for h v ≡ true → StandsAt h (v ∷ es)
    by_event (event.Request g) is = record { place = 0; at = ap (λ (k : ℕ). Some (event.Request k)) (eqb-true g h is) }
    by_event _ is = absurd cc

-- a list with no places is empty
no_events : (es : List Event) → ((i : ℕ) → i < length es → ⊥) → es ≡ []
no_events [] none = refl
no_events (e ∷ es) none = absurd (none 0 (omega arith))

pub opening_is_in_order : (s : ScriptView) (h : HasHistories s (opening s)) → ((q : ℕ) → h.history q ≡ []) → IsInOrder s (opening s) h
opening_is_in_order s h empty = record {
  moment = λ f i. 0;
  list = [];
  listed = record {
    traces = λ f. sym (no_events (trace_of (opening s) f) (none f));
    histories = λ q. sym (empty q);
    moments = λ f i e at. absurd (none f i (slice_get_within (trace_of (opening s) f) i e at));
  };
  past = λ f i lt. absurd (none f i lt);
  in_order = record {
    distinct = λ f i g j lt lt' e. absurd (none f i lt);
    keeps = λ f i j lt lt' below. absurd (none f i lt);
    needed = λ f i g j lt lt' n. absurd (none f i lt);
    requested = λ f i e out. absurd (none f i (slice_get_within (trace_of (opening s) f) i event.Seen e));
  };
}
  where
    none : (f i : ℕ) → i < length (trace_of (opening s) f) → ⊥
    none f i lt = by_fiber ((opening s).fibers f) refl
      where
        by_fiber : (o : Option StartedFiber) → (opening s).fibers f ≡ o → ⊥
        by_fiber None e = let n : length (trace_of (opening s) f) ≡ 0 = ap (λ (y : Option StartedFiber). length (events (labels_of_fiber y))) e in omega arith
        by_fiber (Some x) e =
            let o = opened_at s f x e in
            let n : length (trace_of (opening s) f) ≡ 0 =
            ap (λ (y : Option StartedFiber). length (events (labels_of_fiber y))) e ∙ ap (λ (y : StartedFiber). length (events y.labels)) o.1 in
            omega arith

module _ (s : ScriptView) (m : WholeMachine) (f : ℕ) (x : StartedFiber) (d : Counts) (p : Progress) (at : m.fibers f ≡ Some x) (ranges : HasRanges s m)
    (h : HasHistories s m) (l : Label) (st : Step x.counts x.progress l d p) where
  abbrev after : WholeMachine
  after = moved m f x l d p

  labels_of_itself : labels_of after f ≡ labels_of m f ++ l ∷ []
  labels_of_itself = ap labels_of_fiber (still_itself m f x d p l) ∙ ap (λ (o : Option StartedFiber). labels_of_fiber o ++ l ∷ []) (sym at)

  other_labels : (g : ℕ) → (g ≡ f → ⊥) → labels_of after g ≡ labels_of m g
  other_labels g ne = labels_of_other s m f x d p at ranges h l st g ne

  pub traces_grow : GrowsAt (trace_of m) (trace_of after) f (events (l ∷ []))
  traces_grow = events_grow s m f x d p at ranges h l st

  pub labels_grow : GrowsAt (λ g. shown (labels_of m g)) (λ g. shown (labels_of after g)) f (shown (l ∷ []))
  labels_grow = record {
    few = one_shown l;
    own = ap shown labels_of_itself ∙ shown_append (labels_of m f) (l ∷ []);
    other = λ g ne. ap shown (other_labels g ne);
  }

  pub proper : IsProper l
  proper = (step_tells st).proper

  stand : (g i : ℕ) (e : Event) → slice_get (trace_of after g) i ≡ Some e → Stands (trace_of m) f (events (l ∷ [])) g i e
  stand g i e is = stands (trace_of m) (trace_of after) f (events (l ∷ [])) traces_grow g i e is

  within : (g i : ℕ) (e : Event) → slice_get (trace_of m g) i ≡ Some e → i < length (trace_of m g)
  within g i e is = slice_get_within (trace_of m g) i e is

  module _ (h' : HasHistories s after) (grows : (q : ℕ) → h'.history q ≡ h.history q ++ queue_events q f (events (l ∷ []))) (so : AreSo m) where
    abbrev Before : ℕ → ℕ → ℕ → ℕ → Type 0
    Before a i b j = StoodBefore (trace_of m) (labels_of m) (AreLeft h) f a i b j

    -- each queue goes on from where it was
    goes_on : (q : ℕ) → replayed_from (capacity_of s q) (Some (h.state q)) (queue_events q f (events (l ∷ []))) ≡ Some (h'.state q)
    goes_on q =
        sym (replayed_append (capacity_of s q) (Some empty_queue) (h.history q) (queue_events q f (events (l ∷ [])))
        ∙ ap (λ (t : Option QueueState). replayed_from (capacity_of s q) t (queue_events q f (events (l ∷ [])))) (h.legal q))
        ∙ ap (replayed (capacity_of s q)) (sym (grows q)) ∙ h'.legal q

    -- a get that stood before took what it took then
    taken_then : (a i q n : ℕ) (t : Taking) → slice_get (trace_of m a) i ≡ Some (event.Got q n)
        → taking_of (h'.state q) a (length (values_got q (take i (trace_of after a)))) ≡ Some t
        → taking_of (h.state q) a (length (values_got q (take i (trace_of m a)))) ≡ Some t
    taken_then a i q n t got taken =
        let inside = within a i (event.Got q n) got in
        let same : take i (trace_of after a) ≡ take i (trace_of m a) =
        take_stays (trace_of m) (trace_of after) f (events (l ∷ [])) traces_grow a i (let lt = inside in omega arith) in
        let fewer = fewer_before q n (trace_of m a) i got in
        let count = takes_counted (capacity_of s q) q a (h.history q) (h.state q) (trace_of m a) (h.legal q) (h.cuts q a) in
        taken_before (capacity_of s q) a (length (values_got q (take i (trace_of m a)))) (h.state q) (queue_events q f (events (l ∷ []))) (h'.state q) t
        (goes_on q)
        (omega arith) (ap (λ (es : List Event). taking_of (h'.state q) a (length (values_got q es))) (sym same) ∙ taken)

    takes : (a i b j : ℕ) → TakesWhatWasPut (trace_of after) (AreLeft h') a i b j → Before a i b j
    takes a i b j t =
        by_get (stand a i (event.Got t.queue t.value) t.got) (stand b j (event.Put t.queue t.value) t.put)
      where
        taken : taking_of (h'.state t.queue) a (length (values_got t.queue (take i (trace_of after a)))) ≡ Some t.taking
        taken =
            subst (λ (q : QueueState). taking_of q a (length (values_got t.queue (take i (trace_of after a)))) ≡ Some t.taking) t.left t.taken

        -- a put that comes now is none of what was taken
        not_yet : slice_get (trace_of m a) i ≡ Some (event.Got t.queue t.value) → b ≡ f → j ≡ length (trace_of m f) → ⊥
        not_yet got same place =
            let then = taken_then a i t.queue t.value t.taking got taken in
            let here : length (trace_of m b) ≡ length (trace_of m f) = ap (λ (k : ℕ). length (trace_of m k)) same in
            let all : take j (trace_of after b) ≡ trace_of m b =
            take_stays (trace_of m) (trace_of after) f (events (l ∷ [])) traces_grow b j (omega arith) ∙ take_all j (trace_of m b) (omega arith) in
            let count : length (values_put t.queue (trace_of m b)) ≡ t.taking.item.nth =
            ap (λ (es : List Event). length (values_put t.queue es)) (sym all) ∙ t.nth in
            let there = taken_was_put (capacity_of s t.queue) t.queue a (length (values_got t.queue (take i (trace_of m a)))) (h.history t.queue)
            (h.state t.queue) t.taking (trace_of m b) (h.legal t.queue)
            (subst (λ (k : ℕ). cut k (h.history t.queue) ≡ queue_events t.queue k (trace_of m b)) (sym t.fiber) (h.cuts t.queue b)) then in
            let below = slice_get_within (values_put t.queue (trace_of m b)) t.taking.item.nth t.taking.item.value there in
            omega arith

        by_get : Stands (trace_of m) f (events (l ∷ [])) a i (event.Got t.queue t.value)
            → Stands (trace_of m) f (events (l ∷ [])) b j (event.Put t.queue t.value) → Before a i b j
        by_get (stood got) (stood put) =
            let before : take j (trace_of after b) ≡ take j (trace_of m b) =
            take_stays (trace_of m) (trace_of after) f (events (l ∷ [])) traces_grow b j
            (let lt = within b j (event.Put t.queue t.value) put in omega arith) in
            both (within a i (event.Got t.queue t.value) got) (within b j (event.Put t.queue t.value) put) (taken_element (record {
              queue = t.queue;
              value = t.value;
              got = got;
              state = h.state t.queue;
              left = refl;
              taking = t.taking;
              taken = taken_then a i t.queue t.value t.taking got taken;
              fiber = t.fiber;
              of_value = t.of_value;
              put = put;
              nth = ap (λ (es : List Event). length (values_put t.queue es)) (sym before) ∙ t.nth;
            }))
        by_get (stood got) (comes same place is) = absurd (not_yet got same place)
        by_get (comes same place is) (stood put) = cause same place (within b j (event.Put t.queue t.value) put)
        by_get (comes same place is) (comes same' place' is') =
            absurd (let no : event.Got t.queue t.value ∷ [] ≡ event.Put t.queue t.value ∷ [] = sym is ∙ is' in cc)

    -- who is learnt of has ended, and makes no step
    pub ended_before : (a i b : ℕ) (o : Outcome) (e : Event) → slice_get (shown (labels_of m a)) i ≡ Some (Learns b o e) → b ≡ f → ⊥
    ended_before a i b o e is same = by_fiber (m.fibers a) refl
      where
        by_fiber : (z : Option StartedFiber) → m.fibers a ≡ z → ⊥
        by_fiber None none =
            none-some (Learns b o e) (sym (ap (λ (z : Option StartedFiber). slice_get (shown (labels_of_fiber z)) i) none) ∙ is)
        by_fiber (Some y) there =
            let learnt = shown_holds (IsSo m a) y.labels i (Learns b o e) (so a y there)
            (sym (ap (λ (z : Option StartedFiber). slice_get (shown (labels_of_fiber z)) i) there) ∙ is) in
            let one : learnt.0 ≡ x = same_Some learnt.0 x (sym learnt.1 ∙ ap m.fibers same ∙ at) in
            no_step_after_end o st (sym (ap (λ (z : StartedFiber). outcome_at z.progress) one) ∙ ap outcome_at learnt.2)

    learns : (a i b j : ℕ) → LearnsOfEnd (trace_of after) (labels_of after) a i b j → Before a i b j
    learns a i b j t =
        by_label
        (stands (λ g. shown (labels_of m g)) (λ g. shown (labels_of after g)) f (shown (l ∷ [])) labels_grow a i (Learns b t.outcome t.learning) t.learns)
        (stand b j (event.Ended t.outcome) t.ended)
      where
        by_label : Stands (λ g. shown (labels_of m g)) f (shown (l ∷ [])) a i (Learns b t.outcome t.learning)
            → Stands (trace_of m) f (events (l ∷ [])) b j (event.Ended t.outcome) → Before a i b j
        by_label (stood label) (stood end) =
            let inside : i < length (trace_of m a) =
            (let lt = slice_get_within (shown (labels_of m a)) i _ label in let same = shown_length (labels_of m a) in omega arith) in
            both inside (within b j (event.Ended t.outcome) end) (end_of_other (record {
              outcome = t.outcome;
              learning = t.learning;
              learns = label;
              tells = stood_within (trace_of m) f (events (l ∷ [])) a i t.learning inside (stand a i t.learning t.tells);
              ended = end;
            }))
        by_label (stood label) (comes same place is) = absurd (ended_before a i b t.outcome t.learning label same)
        by_label (comes same place is) (stood end) = cause same (place ∙ shown_length (labels_of m f)) (within b j (event.Ended t.outcome) end)
        by_label (comes same place is) (comes same' place' is') = absurd (learnt_label l b t.outcome t.outcome t.learning proper is is')

    -- a start that comes now is that of a fiber which has shown nothing
    starts_new : (a i b : ℕ) → i < length (trace_of after a) → events (l ∷ []) ≡ event.Start a ∷ [] → ⊥
    starts_new a i b lt is = by_label (start_label l a proper is)
      where
        by_label : (b : Origin) × (l ≡ Starts a b) → ⊥
        by_label s' =
            let step : Step x.counts x.progress (Starts a s'.0) d p = subst (λ (k : Label). Step x.counts x.progress k d p) s'.1 st in
            elim (old_or_new (trace_of m) (trace_of after) f (events (l ∷ [])) traces_grow a i lt) [
              | inl old ↦
                  (let n : length (trace_of m a) ≡ 0 =
                  ap (λ (z : Option StartedFiber). length (events (labels_of_fiber z))) (fresh s m f x d p at ranges (Starts a s'.0) step) in
                  omega arith)
              | inr new ↦ child_is_another s m f x d p at ranges a s'.0 step new.0
            ]

    starts : (a i b j : ℕ) → i < length (trace_of after a) → i ≡ 0 → slice_get (trace_of after b) j ≡ Some (event.Start a) → Before a i b j
    starts a i b j lt first e = by_start (stand b j (event.Start a) e)
      where
        by_start : Stands (trace_of m) f (events (l ∷ [])) b j (event.Start a) → Before a i b j
        by_start (stood is) = elim (old_or_new (trace_of m) (trace_of after) f (events (l ∷ [])) traces_grow a i lt) [
          | inl old ↦ both old (within b j (event.Start a) is) (start first is)
          | inr new ↦ cause new.0 new.1 (within b j (event.Start a) is)
        ]
        by_start (comes same place is) = absurd (starts_new a i b lt is)

    causes_before : (a i b j : ℕ) → i < length (trace_of after a) → j < length (trace_of after b)
        → Needs (trace_of after) (labels_of after) (AreLeft h') a i b j → Before a i b j
    causes_before a i b j lt lt' (taken_element t) = takes a i b j t
    causes_before a i b j lt lt' (end_of_other t) = learns a i b j t
    causes_before a i b j lt lt' (start first e) = starts a i b j lt first e

    module _ (requests : HasRequests s m) (answered : IsAnswered s m f l) where
      requested_in : (a : ℕ) → m.requested a ≡ true → (m.from_outside a ≡ true → ⊥) → IsRequestedIn (trace_of m) a
      requested_in a is none = elim (requests.asked a is) [
        | inl out ↦ absurd (none out)
        | inr by ↦
            (let found = asked_at a (events by.fiber.labels) by.asks in
            record {
              by = by.number;
              place = found.place;
              request = ap (λ (z : Option StartedFiber). slice_get (events (labels_of_fiber z)) found.place) by.at ∙ found.at;
            })
      ]

      seen_after : (a i : ℕ) → slice_get (trace_of after a) i ≡ Some event.Seen → (m.from_outside a ≡ true → ⊥)
          → SeenAfter (trace_of m) (AreFromOutside m) f a i
      seen_after a i e none = by_place (stand a i event.Seen e)
        where
          by_place : Stands (trace_of m) f (events (l ∷ [])) a i event.Seen → SeenAfter (trace_of m) (AreFromOutside m) f a i
          by_place (stood is) = seen is none
          by_place (comes same place is) =
              let asked : m.requested f ≡ true = subst (IsAnswered s m f) (seen_label l proper is) answered in
              sees same place (requested_in a (ap m.requested same ∙ asked) none)

      -- the events after a step are in order: that of the step comes last
      pub order_kept : IsInOrder s m h → IsInOrder s after h'
      order_kept o =
          order_grows (trace_of m) (trace_of after) h.history h'.history (labels_of m) (labels_of after) (AreLeft h) (AreLeft h') (AreFromOutside m)
          (AreFromOutside after) f (events (l ∷ [])) traces_grow grows o (moment_after f (length (trace_of m f)) (length o.list) o.moment)
          (λ g i lt. moment_kept (trace_of m) f (length o.list) o.moment g i lt) (moment_now f (length (trace_of m f)) (length o.list) o.moment) causes_before
          seen_after

      -- of which the last one has the moment that comes after all
      pub order_has_moments : (o : IsInOrder s m h) → (order_kept o).moment ≡ moment_after f (length (trace_of m f)) (length o.list) o.moment
      unfolding order_kept
      order_has_moments o =
          grown_moments (trace_of m) (trace_of after) h.history h'.history (labels_of m) (labels_of after) (AreLeft h) (AreLeft h') (AreFromOutside m)
          (AreFromOutside after) f (events (l ∷ [])) traces_grow grows o (moment_after f (length (trace_of m f)) (length o.list) o.moment)
          (λ g i lt. moment_kept (trace_of m) f (length o.list) o.moment g i lt) (moment_now f (length (trace_of m f)) (length o.list) o.moment) causes_before
          seen_after
