-- Each queue of a whole machine is the rest of a legal history, whose cut to each fiber is what its labels do there.
use Rattle.std.specs.Prelude.{if◌then◌else◌}
use Rattle.std.proofs.Common.{◌≡◌, ℕ, Bool, true, false, Option, Some, None, List, [], ◌∷◌, ◌++◌, length, drop, refl, sym, ◌∙◌, ap}
use Rattle.std.proofs.Common.{subst, inl, inr, append-nil, arith}
use Rattle.std.specs.Prelude.{◌==◌, nat_lt}
use Rattle.std.specs.List.{cons_option}
use Rattle.std.proofs.lemmas.Bool.{cases_eq, eq-eqb, ne_eqb}
use Rattle.std.proofs.lemmas.Option.{none-some, same_Some}
use Rattle.std.proofs.lemmas.List.Elements.{filter-append, filter_map-append}
use Rattle.fx_term.specs.declared.event.Event.{Event}
use Rattle.fx_term.specs.declared.event.Event.TheVariants as event
use Rattle.fx_model.specs.Row.{Counts, Label, Silent, Shows, Learns, Starts}
use Rattle.fx_model.specs.Step.{Progress, Step}
use Rattle.fx_model.specs.Run.{events}
use Rattle.fx_model.proofs.Runs.{events_append}
use Rattle.fx_term.specs.Element.{Element}
use Rattle.fx_term.specs.declared.queue_event.QueueEvent.{QueueEvent}
use Rattle.fx_term.specs.declared.queue_event.QueueEvent.TheVariants.{Put, Got}
use Rattle.fx_term.specs.Queue.{fiber_of, cut, QueueState, empty_queue, items_of, with_put, after_got, replayed_from, replayed, queue_event, queue_events}
use Rattle.fx_term.specs.Queue.{values_put}
use Rattle.fx_term.specs.Script.{ScriptView}
use Rattle.fx_model.specs.Report.{capacity_of}
use Rattle.fx_plain.specs.WholeMachine.{StartedFiber, WholeMachine, opening, front, has_room, IsAnswered, queues_after, moved}
use Rattle.fx_term.proofs.MapLaws.{at_that, at_other}
use Rattle.fx_plain.proofs.Maps.{same_number}
use Rattle.fx_model.proofs.StepLabels.{IsProper, step_tells}
use Rattle.fx_model.proofs.ShownLabels.{shown_length, one_shown}
use Rattle.fx_model.proofs.OneOrder.{GrowsAt}
use Rattle.fx_term.proofs.QueueLaws.{replayed_append, length-numbered, elements_are_offers}
use Rattle.fx_plain.proofs.WholeMachineSteps.{still_itself, still_other, still_none, child_is_there}
use Rattle.fx_plain.proofs.RangesKept.{HasRanges, fresh, child_is_another}
use Rattle.fx_plain.proofs.FamilyKept.{labels_of_fiber, labels_of}

pub record HasHistories (s : ScriptView) (m : WholeMachine) : Type 0 where
  pub history : ℕ → List QueueEvent
  pub state : ℕ → QueueState
  pub legal : (q : ℕ) → replayed (capacity_of s q) (history q) ≡ Some (state q)
  pub items : (q : ℕ) → (state q).items ≡ m.queues q
  pub cuts : (q f : ℕ) → cut f (history q) ≡ queue_events q f (events (labels_of m f))

pub opening_has_no_labels : (s : ScriptView) (f : ℕ) → labels_of (opening s) f ≡ []
opening_has_no_labels s f = elim (cases_eq f 0) [
  | inl e ↦ ap labels_of_fiber (at_that 0 _ (λ g. None) f e)
  | inr ne ↦ ap labels_of_fiber (at_other 0 _ (λ g. None) f ne)
]

pub opening_has_histories : (s : ScriptView) → HasHistories s (opening s)
opening_has_histories s = record {
  history = λ q. [];
  state = λ q. empty_queue;
  legal = λ q. refl;
  items = λ q. refl;
  cuts = λ q f. sym (ap (λ (ls : List Label). queue_events q f (events ls)) (opening_has_no_labels s f));
}

-- nothing has happened at the opening
pub opening_has_no_history : (s : ScriptView) (q : ℕ) → (opening_has_histories s).history q ≡ []
unfolding opening_has_histories
opening_has_no_history s q = refl

-- a fiber's events are its own
own_put : (f n : ℕ) (b : Bool) (xs : List QueueEvent) → cut f xs ≡ xs
    → cut f (cons_option (if b then Some (Put f n) else None) xs) ≡ cons_option (if b then Some (Put f n) else None) xs
own_put f n true xs e = rw (same_number f) (ap (λ (ys : List QueueEvent). Put f n ∷ ys) e)
own_put f n false xs e = e

own_get : (f n : ℕ) (b : Bool) (xs : List QueueEvent) → cut f xs ≡ xs
    → cut f (cons_option (if b then Some (Got f n) else None) xs) ≡ cons_option (if b then Some (Got f n) else None) xs
own_get f n true xs e = rw (same_number f) (ap (λ (ys : List QueueEvent). Got f n ∷ ys) e)
own_get f n false xs e = e

pub cut_own : (q f : ℕ) (es : List Event) → cut f (queue_events q f es) ≡ queue_events q f es
cut_own q f [] = refl
cut_own q f (event.Put r n ∷ es) = own_put f n (r == q) (queue_events q f es) (cut_own q f es)
cut_own q f (event.Got r n ∷ es) = own_get f n (r == q) (queue_events q f es) (cut_own q f es)
cut_own q f (_ ∷ es) = cut_own q f es

other_put : (f g n : ℕ) (b : Bool) (xs : List QueueEvent) → (f ≡ g → ⊥) → cut g xs ≡ [] → cut g (cons_option (if b then Some (Put f n) else None) xs) ≡ []
other_put f g n true xs ne e = rw (ne_eqb f g ne) e
other_put f g n false xs ne e = e

other_get : (f g n : ℕ) (b : Bool) (xs : List QueueEvent) → (f ≡ g → ⊥) → cut g xs ≡ [] → cut g (cons_option (if b then Some (Got f n) else None) xs) ≡ []
other_get f g n true xs ne e = rw (ne_eqb f g ne) e
other_get f g n false xs ne e = e

pub cut_other : (q f g : ℕ) (es : List Event) → (f ≡ g → ⊥) → cut g (queue_events q f es) ≡ []
cut_other q f g [] ne = refl
cut_other q f g (event.Put r n ∷ es) ne = other_put f g n (r == q) (queue_events q f es) ne (cut_other q f g es ne)
cut_other q f g (event.Got r n ∷ es) ne = other_get f g n (r == q) (queue_events q f es) ne (cut_other q f g es ne)
cut_other q f g (_ ∷ es) ne = cut_other q f g es ne

-- the cuts of a history that goes on as the traces do
pub cuts_grow : (q : ℕ) (history : List QueueEvent) (before after : ℕ → List Event) (f : ℕ) (more : List Event) → GrowsAt before after f more
    → ((g : ℕ) → cut g history ≡ queue_events q g (before g)) → (g : ℕ) → cut g (history ++ queue_events q f more) ≡ queue_events q g (after g)
cuts_grow q history before after f more grows cuts g =
    filter-append (λ e. fiber_of e == g) history (queue_events q f more) ∙ elim (cases_eq g f) [
      | inl same ↦ subst (λ (k : ℕ). cut k history ++ cut k (queue_events q f more) ≡ queue_events q k (after k)) (sym same) itself
      | inr ne ↦
          ap (λ (ys : List QueueEvent). cut g history ++ ys) (cut_other q f g more (λ e. ne (sym e)))
          ∙ append-nil (cut g history) ∙ cuts g ∙ ap (queue_events q g) (sym (grows.other g ne))
    ]
  where
    itself : cut f history ++ cut f (queue_events q f more) ≡ queue_events q f (after f)
    itself =
        ap (λ (ys : List QueueEvent). cut f history ++ ys) (cut_own q f more)
        ∙ ap (λ (ys : List QueueEvent). ys ++ queue_events q f more) (cuts f)
        ∙ sym (filter_map-append (queue_event q f) (before f) more)
        ∙ ap (queue_events q f) (sym grows.own)

-- a queue after the events of one step
record Goes (capacity : ℕ) (st : QueueState) (more : List QueueEvent) (items : List Element) : Type 0 where
  pub next : QueueState
  pub legal : replayed_from capacity (Some st) more ≡ Some next
  pub items_are : next.items ≡ items

stays : (capacity : ℕ) (st : QueueState) (items : List Element) → st.items ≡ items → Goes capacity st [] items
stays capacity st items e = record { next = st; legal = refl; items_are = e }

-- a put that finds room
puts : (capacity f n : ℕ) (st : QueueState) (items : List Element) (nth : ℕ) → st.items ≡ items → length (items_of f st.put) ≡ nth
    → nat_lt (length items) capacity ≡ true
    → Goes capacity st (Put f n ∷ []) (items ++ record { fiber = f; nth = nth; value = n } ∷ [])
puts capacity f n st items nth e count room = record {
  next = with_put st (record { fiber = f; nth = length (items_of f st.put); value = n });
  legal = rw (ap (λ (xs : List Element). nat_lt (length xs) capacity) e, room) refl;
  items_are = rw (e, count) refl;
}

-- a get that finds a front
gets : (capacity f n : ℕ) (st : QueueState) (items : List Element) → st.items ≡ items → front items ≡ Some n → Goes capacity st (Got f n ∷ []) (drop 1 items)
gets capacity f n st [] e is = absurd (none-some n is)
gets capacity f n st (x ∷ rest) e is =
    let same : x.value ≡ n = same_Some x.value n is in
    let legal : after_got st f n st.items ≡ after_got st f n (x ∷ rest) = ap (after_got st f n) e in
    record {
      next = record st { taken = st.taken ++ record { taker = f; item = x } ∷ []; items = rest };
      legal = legal ∙ rw (eq-eqb x.value n same) refl;
      items_are = refl;
    }

module _ (s : ScriptView) (m : WholeMachine) (f : ℕ) (x : StartedFiber) (d : Counts) (p : Progress) (at : m.fibers f ≡ Some x) (ranges : HasRanges s m)
    (h : HasHistories s m) where
  -- how many elements the fiber put into a queue so far
  put_so_far : (q : ℕ) → length (items_of f (h.state q).put) ≡ length (values_put q (events x.labels))
  put_so_far q =
      let trace : events (labels_of m f) ≡ events x.labels = ap (λ (o : Option StartedFiber). events (labels_of_fiber o)) at in
      ap length (elements_are_offers (capacity_of s q) q f (h.history q) (h.state q) (events x.labels) (h.legal q) (h.cuts q f ∙ ap (queue_events q f) trace))
      ∙ length-numbered f 0 (values_put q (events x.labels))

  module _ (q : ℕ) where
    abbrev GoesBy : Label → Type 0
    GoesBy l = Goes (capacity_of s q) (h.state q) (queue_events q f (events (l ∷ []))) (queues_after f x.labels l m.queues q)

    goes_put : (r n : ℕ) → has_room s m r ≡ true → GoesBy (Shows (event.Put r n))
    goes_put r n room = elim (cases_eq q r) [
      | inl e ↦ rw (eq-eqb r q (sym e), eq-eqb q r e) (subst
          (λ (k : ℕ). Goes (capacity_of s q) (h.state q) (Put f n ∷ [])
          (m.queues k ++ record { fiber = f; nth = length (values_put k (events x.labels)); value = n } ∷ [])) e
          (puts (capacity_of s q) f n (h.state q) (m.queues q) (length (values_put q (events x.labels))) (h.items q) (put_so_far q)
          (subst (λ (k : ℕ). has_room s m k ≡ true) (sym e) room)))
      | inr ne ↦ rw (ne_eqb r q (λ e. ne (sym e)), ne_eqb q r ne) (stays (capacity_of s q) (h.state q) (m.queues q) (h.items q))
    ]

    goes_get : (r n : ℕ) → front (m.queues r) ≡ Some n → GoesBy (Shows (event.Got r n))
    goes_get r n is = elim (cases_eq q r) [
      | inl e ↦ rw (eq-eqb r q (sym e), eq-eqb q r e) (subst (λ (k : ℕ). Goes (capacity_of s q) (h.state q) (Got f n ∷ []) (drop 1 (m.queues k))) e
          (gets (capacity_of s q) f n (h.state q) (m.queues q) (h.items q) (subst (λ (k : ℕ). front (m.queues k) ≡ Some n) (sym e) is)))
      | inr ne ↦ rw (ne_eqb r q (λ e. ne (sym e)), ne_eqb q r ne) (stays (capacity_of s q) (h.state q) (m.queues q) (h.items q))
    ]

    goes_on : (l : Label) → IsProper l → IsAnswered s m f l → GoesBy l
    goes_on (Shows (event.Put r n)) proper a = goes_put r n a
    goes_on (Shows (event.Got r n)) proper a = goes_get r n a
    goes_on (Learns g o (event.Joined k v)) proper a = stays (capacity_of s q) (h.state q) (m.queues q) (h.items q)
    goes_on (Learns g o (event.Awaited k)) proper a = stays (capacity_of s q) (h.state q) (m.queues q) (h.items q)
    goes_on (Learns g o (event.First k)) proper a = stays (capacity_of s q) (h.state q) (m.queues q) (h.items q)
    goes_on (Learns g o _) proper a = absurd proper
    goes_on _ proper a = stays (capacity_of s q) (h.state q) (m.queues q) (h.items q)

  module _ (l : Label) (st : Step x.counts x.progress l d p) where
    -- the labels of the other fibers are as they were
    pub labels_of_other : (g : ℕ) → (g ≡ f → ⊥) → labels_of (moved m f x l d p) g ≡ labels_of m g
    labels_of_other g ne = by_fiber (m.fibers g) refl
      where
        free : (l : Label) → Step x.counts x.progress l d p → m.fibers g ≡ None → labels_of (moved m f x l d p) g ≡ []
        free Silent st e = ap labels_of_fiber (still_none m f x d p Silent g ne (λ k b i. cc) e)
        free (Shows v) st e = ap labels_of_fiber (still_none m f x d p (Shows v) g ne (λ k b i. cc) e)
        free (Learns k o v) st e = ap labels_of_fiber (still_none m f x d p (Learns k o v) g ne (λ j b i. cc) e)
        free (Starts k b) st e = elim (cases_eq g k) [
          | inl same ↦ ap (labels_of (moved m f x (Starts k b) d p)) same
              ∙ ap labels_of_fiber (child_is_there m f x d p k b (child_is_another s m f x d p at ranges k b st))
          | inr apart ↦ ap labels_of_fiber (still_none m f x d p (Starts k b) g ne (λ j c i e. apart (e ∙ (let z = i in cc))) e)
        ]

        by_fiber : (o : Option StartedFiber) → m.fibers g ≡ o → labels_of (moved m f x l d p) g ≡ labels_of m g
        by_fiber None e = free l st e ∙ sym (ap labels_of_fiber e)
        by_fiber (Some y) e = ap labels_of_fiber (still_other m f x d p l g y ne (fresh s m f x d p at ranges l st) e) ∙ sym (ap labels_of_fiber e)

    -- the events of the fiber go on by what the step shows
    pub events_grow : GrowsAt (λ g. events (labels_of m g)) (λ g. events (labels_of (moved m f x l d p) g)) f (events (l ∷ []))
    events_grow = record {
      few = (let few = one_shown l in let same = shown_length (l ∷ []) in omega arith);
      own =
          ap (λ (o : Option StartedFiber). events (labels_of_fiber o)) (still_itself m f x d p l) ∙ events_append x.labels (l ∷ [])
          ∙ sym (ap (λ (o : Option StartedFiber). events (labels_of_fiber o) ++ events (l ∷ [])) at);
      other = λ g ne. ap events (labels_of_other g ne);
    }

    pub histories_kept : IsAnswered s m f l → HasHistories s (moved m f x l d p)
    histories_kept a = record {
      history = λ q. h.history q ++ queue_events q f (events (l ∷ []));
      state = λ q. (goes_on q l (step_tells st).proper a).next;
      legal =
          λ q. replayed_append (capacity_of s q) (Some empty_queue) (h.history q) (queue_events q f (events (l ∷ [])))
          ∙ ap (λ (t : Option QueueState). replayed_from (capacity_of s q) t (queue_events q f (events (l ∷ [])))) (h.legal q)
          ∙ (goes_on q l (step_tells st).proper a).legal;
      items = λ q. (goes_on q l (step_tells st).proper a).items_are;
      cuts =
          λ q. cuts_grow q (h.history q) (λ g. events (labels_of m g)) (λ g. events (labels_of (moved m f x l d p) g)) f (events (l ∷ [])) events_grow
          (h.cuts q);
    }

    -- each history grows by what the step did to its queue
    pub histories_grow : (a : IsAnswered s m f l) (q : ℕ) → (histories_kept a).history q ≡ h.history q ++ queue_events q f (events (l ∷ []))
    unfolding histories_kept
    histories_grow a q = refl
