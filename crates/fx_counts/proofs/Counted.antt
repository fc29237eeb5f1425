-- Counts that are written queue by queue.
use Rattle.std.proofs.Common.{◌≡◌, ℕ, zero, suc, ◌<◌, ◌≤◌, true, false, Option, Some, None, List, [], ◌∷◌, length, take, refl, sym, ◌∙◌, ap, subst}
use Rattle.std.proofs.Common.{arith, inl, inr, ◌⊎◌}
use Rattle.std.specs.Prelude.{slice_get, slice_index, is_some, MatchOption, option_map}
use Rattle.std.proofs.Math.ListN.{set}
use Rattle.std.specs.List.{cons_option}
use Rattle.std.proofs.lemmas.Bool.{cases_lt, true≢false}
use Rattle.std.proofs.lemmas.List.{get_or_past, length-set}
use Rattle.std.proofs.lemmas.Option.{none-some, same_Some, slice_get_within, slice_get_cases}
use Rattle.fx_term.specs.declared.queue_event.QueueEvent.{QueueEvent}
use Rattle.fx_term.specs.declared.queue_event.QueueEvent.TheVariants.{Put, Got}
use Rattle.fx_term.specs.Element.{Element}
use Rattle.fx_term.specs.Queue.{Leaves, QueueState, queue_event, replayed}
use Rattle.fx_term.proofs.QueueLaws.{stays_none}
use Rattle.fx_model.specs.Report.{ReportView, left_in}
use Rattle.fx_order.specs.declared.occurrence.Occurrence.{Occurrence}
use Rattle.fx_counts.specs.declared.at_queue.AtQueue.{AtQueue}
use Rattle.fx_counts.specs.Counted.{AreCounted, IsHistory, history_in, held_after, IsPut, IsTakenPut}
use Rattle.fx_counts.specs.SoFar.{IsReplay, told_then}

-- of the first n events the counts have what this queue's history tells, and the others are as before
pub record AreWrittenTo (q : ℕ) (list : List Occurrence) (told : List AtQueue) (before : List (Option AtQueue)) (n : ℕ) (counts : List (Option AtQueue))
    : Type 0 where
  pub as_many : length counts ≡ length list
  pub done : (k : ℕ) (x : Occurrence) → k < n → slice_get list k ≡ Some x
      → slice_get counts k ≡ told_then (queue_event q x.fiber x.event) (slice_get told k) (slice_get before k)
  pub other : (k : ℕ) → n ≤ k → slice_get counts k ≡ slice_get before k

-- some queue's history tells that of the event
abbrev IsToldBySome : List ℕ → ReportView → List Occurrence → ℕ → AtQueue → Occurrence → Type 0
IsToldBySome capacities r list k a x = (q : ℕ) × (e : QueueEvent) × (queue_event q x.fiber x.event ≡ Some e) × IsHistory capacities r list q
    × (held_after (slice_index capacities q) (history_in q (take (suc k) list)) ≡ Some a.held) × MatchOption a.took (IsPut e) (IsTakenPut q list k)

-- the counts are right as far as the queues below n go
pub record AreCountedBelow (capacities : List ℕ) (r : ReportView) (list : List Occurrence) (n : ℕ) (counts : List (Option AtQueue)) : Type 0 where
  pub as_many : length counts ≡ length list
  pub told : (k : ℕ) (a : AtQueue) (x : Occurrence) → slice_get list k ≡ Some x → slice_get counts k ≡ Some (Some a)
      → IsToldBySome capacities r list k a x
  pub each : (k q : ℕ) (x : Occurrence) (e : QueueEvent) → q < n → slice_get list k ≡ Some x → queue_event q x.fiber x.event ≡ Some e
      → IsHistory capacities r list q → (a : AtQueue) × (slice_get counts k ≡ Some (Some a))

some_of : (o : Option QueueEvent) → is_some o ≡ true → (e : QueueEvent) × (o ≡ Some e)
some_of None is = absurd (true≢false (sym is))
some_of (Some e) is = (e, refl)

none_of : (o : Option QueueEvent) → is_some o ≡ false → o ≡ None
none_of None is = refl
none_of (Some e) is = absurd (true≢false is)

module _ {A : Type 0} where
  get_set_same : (xs : List A) (i : ℕ) (a : A) → i < length xs → slice_get (set xs i a) i ≡ Some a
  get_set_same [] i a lt = absurd (omega arith)
  get_set_same (x ∷ xs) zero a lt = refl
  get_set_same (x ∷ xs) (suc i) a lt = get_set_same xs i a (omega arith)

  get_set_other : (xs : List A) (i k : ℕ) (a : A) → (k ≡ i → ⊥) → slice_get (set xs i a) k ≡ slice_get xs k
  get_set_other [] i k a ne = refl
  get_set_other (x ∷ xs) zero zero a ne = absurd (ne refl)
  get_set_other (x ∷ xs) zero (suc k) a ne = refl
  get_set_other (x ∷ xs) (suc i) zero a ne = refl
  get_set_other (x ∷ xs) (suc i) (suc k) a ne = get_set_other xs i k a (λ e. ne (ap suc e))

module _ (q : ℕ) (list : List Occurrence) (told : List AtQueue) (before : List (Option AtQueue)) where
  -- an event of the queue
  pub writes : (n m : ℕ) (x : Occurrence) (a : AtQueue) (counts after : List (Option AtQueue)) → AreWrittenTo q list told before n counts
      → slice_get list n ≡ Some x → slice_get told n ≡ Some a → is_some (queue_event q x.fiber x.event) ≡ true → after ≡ set counts n (Some a)
      → m ≡ suc n → AreWrittenTo q list told before m after
  writes n m x a counts after done at there is set_is next = record {
    as_many = ap length set_is ∙ length-set counts n (Some a) ∙ done.as_many;
    done = λ k y lt of. by_place k y (cases_lt k n) (omega arith) of;
    other = λ k le.
        ap (λ (l : List (Option AtQueue)). slice_get l k) set_is ∙ get_set_other counts n k (Some a) (λ e. omega arith)
        ∙ done.other k (omega arith);
  }
    where
      by_place : (k : ℕ) (y : Occurrence) → (k < n) ⊎ (n ≤ k) → k < suc n → slice_get list k ≡ Some y
          → slice_get after k ≡ told_then (queue_event q y.fiber y.event) (slice_get told k) (slice_get before k)
      by_place k y (inl lt) within of =
          ap (λ (l : List (Option AtQueue)). slice_get l k) set_is ∙ get_set_other counts n k (Some a) (λ e. omega arith)
          ∙ done.done k y lt of
      by_place k y (inr le) within of =
          let here : n ≡ k = omega arith in
          let same : x ≡ y = same_Some x y (sym at ∙ ap (slice_get list) here ∙ of) in
          let event = some_of (queue_event q x.fiber x.event) is in
          let long : n < length counts = (let lt = slice_get_within list n x at in let many = done.as_many in omega arith) in
          let now : slice_get after n ≡ told_then (queue_event q x.fiber x.event) (slice_get told n) (slice_get before n) =
          ap (λ (l : List (Option AtQueue)). slice_get l n) set_is ∙ get_set_same counts n (Some a) long
          ∙ ap (option_map Some) (sym there)
          ∙ ap (λ (o : Option QueueEvent). told_then o (slice_get told n) (slice_get before n)) (sym event.1) in
          subst (λ (i : ℕ). slice_get after i ≡ told_then (queue_event q y.fiber y.event) (slice_get told i) (slice_get before i)) here
          (subst (λ (z : Occurrence). slice_get after n ≡ told_then (queue_event q z.fiber z.event) (slice_get told n) (slice_get before n)) same now)

  passed : (n m : ℕ) (x : Occurrence) (counts : List (Option AtQueue)) → AreWrittenTo q list told before n counts → slice_get list n ≡ Some x
      → is_some (queue_event q x.fiber x.event) ≡ false → m ≡ suc n → AreWrittenTo q list told before m counts
  passed n m x counts done at is next = record {
    as_many = done.as_many;
    done = λ k y lt there. by_place k y (cases_lt k n) (omega arith) there;
    other = λ k le. done.other k (omega arith);
  }
    where
      by_place : (k : ℕ) (y : Occurrence) → (k < n) ⊎ (n ≤ k) → k < suc n → slice_get list k ≡ Some y
          → slice_get counts k ≡ told_then (queue_event q y.fiber y.event) (slice_get told k) (slice_get before k)
      by_place k y (inl lt) within there = done.done k y lt there
      by_place k y (inr le) within there =
          let here : n ≡ k = omega arith in
          let same : x ≡ y = same_Some x y (sym at ∙ ap (slice_get list) here ∙ there) in
          let none : queue_event q y.fiber y.event ≡ None =
          subst (λ (z : Occurrence). queue_event q z.fiber z.event ≡ None) same (none_of (queue_event q x.fiber x.event) is) in
          done.other k le ∙ ap (λ (o : Option QueueEvent). told_then o (slice_get told k) (slice_get before k)) (sym none)

  -- an event of none or another one
  pub passes : (n m : ℕ) (x : Occurrence) (counts after : List (Option AtQueue)) → AreWrittenTo q list told before n counts → slice_get list n ≡ Some x
      → is_some (queue_event q x.fiber x.event) ≡ false → after ≡ counts → m ≡ suc n → AreWrittenTo q list told before m after
  passes n m x counts after done at is same next = subst (AreWrittenTo q list told before m) (sym same) (passed n m x counts done at is next)

module _ (capacities : List ℕ) (r : ReportView) (list : List Occurrence) where
  -- a queue of which the list has a history
  pub counts_queue : (n m : ℕ) (counts after : List (Option AtQueue)) (told : List AtQueue) → AreCountedBelow capacities r list n counts
      → IsReplay (slice_index capacities n) n list (left_in r n) (Some told) → length after ≡ length counts
      → ((k : ℕ) (x : Occurrence) → slice_get list k ≡ Some x
      → slice_get after k ≡ told_then (queue_event n x.fiber x.event) (slice_get told k) (slice_get counts k))
      → m ≡ suc n → AreCountedBelow capacities r list m after
  counts_queue n m counts after told below replay long written next = record {
    as_many = long ∙ below.as_many;
    told = λ k a x at is.
        told_by k a x (queue_event n x.fiber x.event) refl (slice_get told k) refl at (sym (written k x at) ∙ is);
    each = λ k q x e lt at event history.
        each_by k q x e (queue_event n x.fiber x.event) refl (cases_lt q n) (omega arith) at event history (written k x at);
  }
    where
      told_by : (k : ℕ) (a : AtQueue) (x : Occurrence) (o : Option QueueEvent) → queue_event n x.fiber x.event ≡ o
          → (p : Option AtQueue) → slice_get told k ≡ p → slice_get list k ≡ Some x → told_then o p (slice_get counts k) ≡ Some (Some a)
          → IsToldBySome capacities r list k a x
      told_by k a x (Some e) event (Some b) there at is =
          let same : b ≡ a = same_Some b a (same_Some (Some b) (Some a) is) in
          let all = replay.2 k x a at (there ∙ ap Some same) in
          (n, e, event, replay.0, all.0, all.1 e event)
      told_by k a x (Some e) event None there at is = absurd (none-some (Some a) is)
      told_by k a x None event p there at is = below.told k a x at is

      there_is : (k : ℕ) (x : Occurrence) → slice_get list k ≡ Some x → (a : AtQueue) × (slice_get told k ≡ Some a)
      there_is k x at =
          let lt = slice_get_within list k x at in
          let long = replay.1 in
          elim ((slice_get_cases told k).1) [ inl h ↦ (h.0, h.2) | inr h ↦ absurd (let le = h.0 in omega arith) ]

      each_by : (k q : ℕ) (x : Occurrence) (e : QueueEvent) (o : Option QueueEvent) → queue_event n x.fiber x.event ≡ o → (q < n) ⊎ (n ≤ q) → q < suc n
          → slice_get list k ≡ Some x → queue_event q x.fiber x.event ≡ Some e → IsHistory capacities r list q
          → slice_get after k ≡ told_then o (slice_get told k) (slice_get counts k) → (a : AtQueue) × (slice_get after k ≡ Some (Some a))
      each_by k q x e (Some d) own place lt at event history now =
          let a = there_is k x at in (a.0, now ∙ ap (option_map Some) a.1)
      each_by k q x e None own (inl before) lt at event history now =
          let old = below.each k q x e before at event history in (old.0, now ∙ old.1)
      each_by k q x e None own (inr here) lt at event history now =
          let same : n ≡ q = omega arith in
          absurd (none-some e (sym own ∙ ap (λ (p : ℕ). queue_event p x.fiber x.event) same ∙ event))

  -- one of which it has none
  pub counts_no_queue : (n m : ℕ) (counts : List (Option AtQueue)) → AreCountedBelow capacities r list n counts
      → IsReplay (slice_index capacities n) n list (left_in r n) None → m ≡ suc n → AreCountedBelow capacities r list m counts
  counts_no_queue n m counts below none next = record {
    as_many = below.as_many;
    told = below.told;
    each = λ k q x e lt at event history. by_place k q x e (cases_lt q n) (omega arith) at event history;
  }
    where
      by_place : (k q : ℕ) (x : Occurrence) (e : QueueEvent) → (q < n) ⊎ (n ≤ q) → q < suc n → slice_get list k ≡ Some x
          → queue_event q x.fiber x.event ≡ Some e → IsHistory capacities r list q → (a : AtQueue) × (slice_get counts k ≡ Some (Some a))
      by_place k q x e (inl before) lt at event history = below.each k q x e before at event history
      by_place k q x e (inr here) lt at event history =
          let same : q ≡ n = omega arith in absurd (none (subst (IsHistory capacities r list) same history))

  empty_of_none : (h : List QueueEvent) (last : QueueState) → replayed 0 h ≡ Some last → h ≡ []
  empty_of_none [] last is = refl
  empty_of_none (Put f n ∷ h) last is = absurd (none-some last (sym (stays_none 0 h) ∙ is))
  empty_of_none (Got f n ∷ h) last is = absurd (none-some last (sym (stays_none 0 h) ∙ is))

  has_event : (q : ℕ) (l : List Occurrence) (k : ℕ) (x : Occurrence) (e : QueueEvent) → slice_get l k ≡ Some x → queue_event q x.fiber x.event ≡ Some e
      → history_in q l ≡ [] → ⊥
  has_event q [] k x e at event none = none-some x at
  has_event q (y ∷ l) zero x e at event none =
      let same : y ≡ x = same_Some y x at in
      let here : queue_event q y.fiber y.event ≡ Some e = ap (λ (z : Occurrence). queue_event q z.fiber z.event) same ∙ event in
      let full : cons_option (Some e) (history_in q l) ≡ [] = ap (λ (o : Option QueueEvent). cons_option o (history_in q l)) (sym here) ∙ none in
      cc
  has_event q (y ∷ l) (suc k) x e at event none = has_event q l k x e at event (rest_none (queue_event q y.fiber y.event) (history_in q l) none)
    where
      rest_none : (o : Option QueueEvent) (h : List QueueEvent) → cons_option o h ≡ [] → h ≡ []
      rest_none None h is = is
      rest_none (Some d) h is = cc

  -- and past the last capacity there is none
  pub counts_all : (n : ℕ) (counts : List (Option AtQueue)) → AreCountedBelow capacities r list n counts → length capacities ≤ n
      → AreCounted capacities r list counts
  counts_all n counts below all = record {
    as_many = below.as_many;
    told = below.told;
    each = λ k q x e at event history. by_place k q x e (cases_lt q n) at event history;
  }
    where
      by_place : (k q : ℕ) (x : Occurrence) (e : QueueEvent) → (q < n) ⊎ (n ≤ q) → slice_get list k ≡ Some x
          → queue_event q x.fiber x.event ≡ Some e → IsHistory capacities r list q → (a : AtQueue) × (slice_get counts k ≡ Some (Some a))
      by_place k q x e (inl before) at event history = below.each k q x e before at event history
      by_place k q x e (inr past) at event history =
          let none : slice_index capacities q ≡ 0 = get_or_past capacities q 0 (omega arith) in
          let h : Leaves 0 (history_in q list) (left_in r q) = subst (λ (c : ℕ). Leaves c (history_in q list) (left_in r q)) none history in
          absurd (has_event q list k x e at event (empty_of_none (history_in q list) h.last h.legal))

pub replay_is : (c q : ℕ) (list : List Occurrence) (a b : List Element) (o p : Option (List AtQueue)) → a ≡ b → o ≡ p → IsReplay c q list a o
    → IsReplay c q list b p
replay_is c q list a b o p rest is replay =
    subst (λ (l : List Element). IsReplay c q list l p) rest (subst (IsReplay c q list a) is replay)
