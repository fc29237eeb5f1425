-- Each queue of a whole machine has a history with stamps in place of values: it is legal too, and holds the stamps of the puts of what the queue holds.
use Rattle.std.specs.Prelude.{if◌then◌else◌}
use Rattle.std.proofs.Common.{◌≡◌, ℕ, suc, ◌<◌, ◌≤◌, Bool, true, false, Option, Some, None, List, [], ◌∷◌, ◌++◌, length, drop, map, refl, sym, ◌∙◌, ap}
use Rattle.std.proofs.Common.{subst, inl, inr, append-nil, arith}
use Rattle.std.specs.Prelude.{◌==◌, nat_lt}
use Rattle.std.specs.List.{cons_option}
use Rattle.std.proofs.lemmas.Bool.{cases_eq, eq-eqb, ne_eqb}
use Rattle.std.proofs.lemmas.Option.{none-some}
use Rattle.std.proofs.lemmas.List.{length-map, map-append}
use Rattle.fx_term.specs.declared.event.Event.{Event}
use Rattle.fx_term.specs.declared.event.Event.TheVariants as event
use Rattle.fx_term.specs.declared.queue_event.QueueEvent.{QueueEvent}
use Rattle.fx_term.specs.declared.queue_event.QueueEvent.TheVariants.{Put, Got}
use Rattle.fx_term.specs.Element.{Element}
use Rattle.fx_term.specs.Queue.{QueueState, empty_queue, next_item, with_put, with_taken, after_got, replayed_from}
use Rattle.fx_term.specs.Queue.{queue_events, erase_event, AreAlike}
use Rattle.fx_term.proofs.QueueLaws.{replayed_append}
use Rattle.fx_model.specs.Row.{Label, Shows, Learns}
use Rattle.fx_model.specs.Run.{events}
use Rattle.fx_model.specs.StampedQueue.{with_stamps, stamped, IsStampedHistory}
use Rattle.fx_model.proofs.StepLabels.{IsProper}
use Rattle.fx_model.proofs.OneOrder.{GrowsAt}
use Rattle.fx_model.proofs.ErasedValues.{erase_element, erased_same}
use Rattle.fx_term.specs.Script.{ScriptView}
use Rattle.fx_model.specs.Report.{capacity_of}
use Rattle.fx_plain.specs.MachineStamps.{front_stamp, cause_of, put_after}
use Rattle.fx_plain.specs.WholeMachine.{WholeMachine, front, has_room, IsAnswered}
use Rattle.fx_plain.proofs.HistoriesKept.{HasHistories, cuts_grow}
use Rattle.fx_plain.proofs.MachineStampsGrow.{Numbers}

-- traces with stamps grow as they do without
stamped_length : (stamp cause : ℕ → ℕ) (es : List Event) → length (stamped stamp cause es) ≡ length es
stamped_length stamp cause [] = refl
stamped_length stamp cause (e ∷ es) = ap suc (stamped_length (λ i. stamp (suc i)) (λ i. cause (suc i)) es)

stamped_more : (stamp stamp' cause cause' : ℕ → ℕ) (es more : List Event) (t c : ℕ) → length more ≤ 1 → ((i : ℕ) → i < length es → stamp' i ≡ stamp i)
    → ((i : ℕ) → i < length es → cause' i ≡ cause i) → (0 < length more → stamp' (length es) ≡ t) → (0 < length more → cause' (length es) ≡ c)
    → stamped stamp' cause' (es ++ more) ≡ stamped stamp cause es ++ stamped (λ i. t) (λ i. c) more
stamped_more stamp stamp' cause cause' [] [] t c few same same' now now' = refl
stamped_more stamp stamp' cause cause' [] (e ∷ []) t c few same same' now now' =
    ap (λ (k : ℕ). with_stamps e k (cause' 0) ∷ []) (now (omega arith)) ∙ ap (λ (k : ℕ). with_stamps e t k ∷ []) (now' (omega arith))
stamped_more stamp stamp' cause cause' [] (e ∷ u ∷ more) t c few same same' now now' = absurd (omega arith)
stamped_more stamp stamp' cause cause' (e ∷ es) more t c few same same' now now' =
    ap (λ (k : ℕ). with_stamps e k (cause' 0) ∷ stamped (λ i. stamp' (suc i)) (λ i. cause' (suc i)) (es ++ more)) (same 0 (omega arith))
    ∙ ap (λ (k : ℕ). with_stamps e (stamp 0) k ∷ stamped (λ i. stamp' (suc i)) (λ i. cause' (suc i)) (es ++ more)) (same' 0 (omega arith))
    ∙ ap (λ (xs : List Event). with_stamps e (stamp 0) (cause 0) ∷ xs)
    (stamped_more (λ i. stamp (suc i)) (λ i. stamp' (suc i)) (λ i. cause (suc i)) (λ i. cause' (suc i)) es more t c few
    (λ i lt. same (suc i) (omega arith)) (λ i lt. same' (suc i) (omega arith)) now now')

module _ (trace trace' : ℕ → List Event) (f : ℕ) (more : List Event) (grows : GrowsAt trace trace' f more) (stamp stamp' cause cause' : ℕ → ℕ → ℕ) (t c : ℕ)
    (stamps : Numbers trace f more stamp stamp' t) (causes : Numbers trace f more cause cause' c) where
  stamped_grows : GrowsAt (λ g. stamped (stamp g) (cause g) (trace g)) (λ g. stamped (stamp' g) (cause' g) (trace' g)) f (stamped (λ i. t) (λ i. c) more)
  stamped_grows = record {
    few = (let same = stamped_length (λ i. t) (λ i. c) more in let few = grows.few in omega arith);
    own =
        ap (stamped (stamp' f) (cause' f)) grows.own
        ∙ stamped_more (stamp f) (stamp' f) (cause f) (cause' f) (trace f) more t c grows.few (stamps.kept f) (causes.kept f) stamps.now causes.now;
    other = λ g ne.
        ap (stamped (stamp' g) (cause' g)) (grows.other g ne ∙ sym (append-nil (trace g)))
        ∙ stamped_more (stamp g) (stamp' g) (cause g) (cause' g) (trace g) [] t c (omega arith) (stamps.kept g) (causes.kept g)
        (λ lt. absurd (omega arith)) (λ lt. absurd (omega arith))
        ∙ append-nil (stamped (stamp g) (cause g) (trace g));
  }

-- the same fibers do the same with stamps in place of values
same_put : (f n t : ℕ) (b : Bool) (xs ys : List QueueEvent) → AreAlike xs ys
    → AreAlike (cons_option (if b then Some (Put f n) else None) xs) (cons_option (if b then Some (Put f t) else None) ys)
same_put f n t true xs ys e = ap (λ (zs : List QueueEvent). Put f 0 ∷ zs) e
same_put f n t false xs ys e = e

same_get : (f n t : ℕ) (b : Bool) (xs ys : List QueueEvent) → AreAlike xs ys
    → AreAlike (cons_option (if b then Some (Got f n) else None) xs) (cons_option (if b then Some (Got f t) else None) ys)
same_get f n t true xs ys e = ap (λ (zs : List QueueEvent). Got f 0 ∷ zs) e
same_get f n t false xs ys e = e

stamped_alike : (q f : ℕ) (stamp cause : ℕ → ℕ) (es : List Event) → AreAlike (queue_events q f es) (queue_events q f (stamped stamp cause es))
stamped_alike q f stamp cause [] = refl
stamped_alike q f stamp cause (event.Put r n ∷ es) =
    same_put f n (stamp 0) (r == q) (queue_events q f es) (queue_events q f (stamped (λ i. stamp (suc i)) (λ i. cause (suc i)) es))
    (stamped_alike q f (λ i. stamp (suc i)) (λ i. cause (suc i)) es)
stamped_alike q f stamp cause (event.Got r n ∷ es) =
    same_get f n (cause 0) (r == q) (queue_events q f es) (queue_events q f (stamped (λ i. stamp (suc i)) (λ i. cause (suc i)) es))
    (stamped_alike q f (λ i. stamp (suc i)) (λ i. cause (suc i)) es)
stamped_alike q f stamp cause (_ ∷ es) = stamped_alike q f (λ i. stamp (suc i)) (λ i. cause (suc i)) es

abbrev values : List Element → List ℕ
values xs = map (λ (x : Element). x.value) xs

-- a queue with stamps after the events of one step
record Goes (capacity : ℕ) (st : QueueState) (more : List QueueEvent) (queue : List ℕ) : Type 0 where
  pub next : QueueState
  pub legal : replayed_from capacity (Some st) more ≡ Some next
  pub holds : values next.items ≡ queue

stays : (capacity : ℕ) (st : QueueState) (queue : List ℕ) → values st.items ≡ queue → Goes capacity st [] queue
stays capacity st queue e = record { next = st; legal = refl; holds = e }

puts : (capacity f t : ℕ) (st : QueueState) (queue : List ℕ) → values st.items ≡ queue → nat_lt (length st.items) capacity ≡ true
    → Goes capacity st (Put f t ∷ []) (queue ++ t ∷ [])
puts capacity f t st queue e room = record {
  next = with_put st (next_item st f t);
  legal = rw room refl;
  holds =
      map-append (λ (x : Element). x.value) st.items (next_item st f t ∷ [])
      ∙ ap (λ (xs : List ℕ). xs ++ t ∷ []) e;
}

gets : (capacity f : ℕ) (st : QueueState) (queue : List ℕ) → values st.items ≡ queue → 0 < length st.items
    → Goes capacity st (Got f (front_stamp queue) ∷ []) (drop 1 queue)
gets capacity f st queue e some = by_items st.items refl
  where
    by_items : (xs : List Element) → st.items ≡ xs → Goes capacity st (Got f (front_stamp queue) ∷ []) (drop 1 queue)
    by_items [] is = absurd (let none : length st.items ≡ 0 = ap length is in omega arith)
    by_items (x ∷ rest) is =
        let held : x.value ∷ values rest ≡ queue = sym (ap values is) ∙ e in
        let same : x.value ≡ front_stamp queue = ap front_stamp held in
        record {
          next = with_taken st f x rest;
          legal = ap (after_got st f (front_stamp queue)) is ∙ rw (eq-eqb x.value (front_stamp queue) same) refl;
          holds = ap (drop 1) held;
        }

-- a front is that of a list with elements
front_there : (xs : List Element) (n : ℕ) → front xs ≡ Some n → 0 < length xs
front_there [] n e = absurd (none-some n e)
front_there (x ∷ xs) n e = omega arith

-- The second reading of each queue, by the traces with stamps
pub record HasStampedHistories (s : ScriptView) (m : WholeMachine) (h : HasHistories s m) (trace : ℕ → List Event) (stamp cause : ℕ → ℕ → ℕ) : Type 0 where
  pub reading : (q : ℕ) → IsStampedHistory trace stamp cause q (capacity_of s q) (h.history q)
  pub holds : (q : ℕ) → map (λ (x : Element). x.value) (reading q).last.items ≡ m.stamps.queues q

module _ (s : ScriptView) (m : WholeMachine) (h : HasHistories s m) (trace : ℕ → List Event) (stamp cause : ℕ → ℕ → ℕ)
    (stamps : HasStampedHistories s m h trace stamp cause) where
  -- both readings hold as much
  same_length : (q : ℕ) → length (stamps.reading q).last.items ≡ length (m.queues q)
  same_length q =
      let r = stamps.reading q in
      let same = erased_same (capacity_of s q) (h.history q) r.stamps (h.state q) r.last (h.legal q) r.legal r.alike in
      sym (length-map r.last.items erase_element) ∙ ap (λ (x : QueueState). length x.items) (sym same)
      ∙ length-map (h.state q).items erase_element ∙ ap length (h.items q)

  module _ (f t : ℕ) (q : ℕ) where
    abbrev last : QueueState
    last = (stamps.reading q).last

    abbrev GoesBy : Label → Type 0
    GoesBy l =
        Goes (capacity_of s q) last (queue_events q f (stamped (λ i. t) (λ i. cause_of m.stamps f l) (events (l ∷ [])))) (put_after l t m.stamps.queues q)

    goes_put : (r n : ℕ) → has_room s m r ≡ true → GoesBy (Shows (event.Put r n))
    goes_put r n room = elim (cases_eq q r) [
      | inl e ↦ rw (eq-eqb r q (sym e), eq-eqb q r e) (subst
          (λ (k : ℕ). Goes (capacity_of s q) last (Put f t ∷ []) (m.stamps.queues k ++ t ∷ [])) e
          (puts (capacity_of s q) f t last (m.stamps.queues q) (stamps.holds q)
          (ap (λ (k : ℕ). nat_lt k (capacity_of s q)) (same_length q) ∙ subst (λ (k : ℕ). has_room s m k ≡ true) (sym e) room)))
      | inr ne ↦ rw (ne_eqb r q (λ e. ne (sym e)), ne_eqb q r ne) (stays (capacity_of s q) last (m.stamps.queues q) (stamps.holds q))
    ]

    goes_get : (r n : ℕ) → front (m.queues r) ≡ Some n → GoesBy (Shows (event.Got r n))
    goes_get r n is = elim (cases_eq q r) [
      | inl e ↦ rw (eq-eqb r q (sym e), eq-eqb q r e) (subst
          (λ (k : ℕ). Goes (capacity_of s q) last (Got f (front_stamp (m.stamps.queues k)) ∷ []) (drop 1 (m.stamps.queues k))) e
          (gets (capacity_of s q) f last (m.stamps.queues q) (stamps.holds q)
          (let there = front_there (m.queues q) n (subst (λ (k : ℕ). front (m.queues k) ≡ Some n) (sym e) is) in
          let same = same_length q in omega arith)))
      | inr ne ↦ rw (ne_eqb r q (λ e. ne (sym e)), ne_eqb q r ne) (stays (capacity_of s q) last (m.stamps.queues q) (stamps.holds q))
    ]

    goes_on : (l : Label) → IsProper l → IsAnswered s m f l → GoesBy l
    goes_on (Shows (event.Put r n)) proper a = goes_put r n a
    goes_on (Shows (event.Got r n)) proper a = goes_get r n a
    goes_on (Learns g o (event.Joined k v)) proper a = stays (capacity_of s q) last (m.stamps.queues q) (stamps.holds q)
    goes_on (Learns g o (event.Awaited k)) proper a = stays (capacity_of s q) last (m.stamps.queues q) (stamps.holds q)
    goes_on (Learns g o (event.First k)) proper a = stays (capacity_of s q) last (m.stamps.queues q) (stamps.holds q)
    goes_on (Learns g o _) proper a = absurd proper
    goes_on _ proper a = stays (capacity_of s q) last (m.stamps.queues q) (stamps.holds q)

  -- after a step of fiber f, which shows this with this stamp
  module _ (f t : ℕ) (l : Label) (proper : IsProper l) (answered : IsAnswered s m f l) (m' : WholeMachine) (h' : HasHistories s m')
      (longer : (q : ℕ) → h'.history q ≡ h.history q ++ queue_events q f (events (l ∷ [])))
      (queues : (q : ℕ) → m'.stamps.queues q ≡ put_after l t m.stamps.queues q) (trace' : ℕ → List Event) (stamp' cause' : ℕ → ℕ → ℕ)
      (grows : GrowsAt trace trace' f (events (l ∷ []))) (stamped_so : Numbers trace f (events (l ∷ [])) stamp stamp' t)
      (caused_so : Numbers trace f (events (l ∷ [])) cause cause' (cause_of m.stamps f l)) where
    abbrev shows_stamped : List Event
    shows_stamped = stamped (λ i. t) (λ i. cause_of m.stamps f l) (events (l ∷ []))

    goes : (q : ℕ) → Goes (capacity_of s q) (stamps.reading q).last (queue_events q f shows_stamped) (put_after l t m.stamps.queues q)
    goes q = goes_on f t q l proper answered

    alike : (q : ℕ) → AreAlike (h'.history q) ((stamps.reading q).stamps ++ queue_events q f shows_stamped)
    alike q =
        ap (map erase_event) (longer q) ∙ map-append erase_event (h.history q) (queue_events q f (events (l ∷ [])))
        ∙ ap (λ (xs : List QueueEvent). xs ++ map erase_event (queue_events q f (events (l ∷ [])))) (stamps.reading q).alike
        ∙ ap (λ (xs : List QueueEvent). map erase_event (stamps.reading q).stamps ++ xs)
        (stamped_alike q f (λ i. t) (λ i. cause_of m.stamps f l) (events (l ∷ [])))
        ∙ sym (map-append erase_event (stamps.reading q).stamps (queue_events q f shows_stamped))

    pub stamped_histories_kept : HasStampedHistories s m' h' trace' stamp' cause'
    stamped_histories_kept = record {
      reading = λ q. record {
        stamps = (stamps.reading q).stamps ++ queue_events q f shows_stamped;
        alike = alike q;
        last = (goes q).next;
        legal =
            replayed_append (capacity_of s q) (Some empty_queue) (stamps.reading q).stamps (queue_events q f shows_stamped)
            ∙ ap (λ (x : Option QueueState). replayed_from (capacity_of s q) x (queue_events q f shows_stamped)) (stamps.reading q).legal
            ∙ (goes q).legal;
        cuts =
            cuts_grow q (stamps.reading q).stamps (λ g. stamped (stamp g) (cause g) (trace g)) (λ g. stamped (stamp' g) (cause' g) (trace' g)) f shows_stamped
            (stamped_grows trace trace' f (events (l ∷ [])) grows stamp stamp' cause cause' t (cause_of m.stamps f l) stamped_so caused_so)
            (stamps.reading q).cuts;
      };
      holds = λ q. (goes q).holds ∙ sym (queues q);
    }
