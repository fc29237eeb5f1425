-- The replay of a list, event by event.
use Rattle.std.proofs.Common.{◌≡◌, ℕ, zero, suc, ◌+◌, ◌<◌, ◌≤◌, Bool, true, false, Option, Some, None, List, [], ◌∷◌, ◌++◌, length, take, drop, refl, sym}
use Rattle.std.proofs.Common.{◌∙◌, ap, subst, arith, inl, inr, ◌⊎◌, rules, Vec, Global, append_assoc}
use Rattle.std.specs.Prelude.{option_map, slice_get, IsTrue, if◌then◌else◌, ◌↔◌, ◌==◌, MatchOption}
use Rattle.std.specs.Bool.{then_some}
use Rattle.std.specs.List.{cons_option}
use Rattle.std.proofs.lemmas.Bool.{true≢false, eqb-true}
use Rattle.std.proofs.lemmas.List.{length-append, length-map, length-drop, take_all}
use Rattle.std.proofs.lemmas.List.Elements.{filter_map-append}
use Rattle.std.proofs.lemmas.Option.{none-some, same_Some, slice_get_cases}
use Rattle.fx_term.specs.Element.{Element, elements_of}
use Rattle.fx_term.specs.declared.event.Event.{Event}
use Rattle.fx_term.specs.declared.event.Event.TheVariants as event
use Rattle.fx_term.specs.declared.queue_event.QueueEvent.{QueueEvent}
use Rattle.fx_term.specs.declared.queue_event.QueueEvent.TheVariants.{Put, Got}
use Rattle.fx_term.specs.Queue.{Leaves, Taking, QueueState, queue_event, replayed, replayed_from, empty_queue, puts, after_got, items_taken}
use Rattle.fx_term.proofs.QueueLaws.{replayed_append, stays_none, get_parts, replay_accounts}
use Rattle.fx_model.proofs.Appended.{stood_or_new}
use Rattle.fx_order.specs.declared.occurrence.Occurrence.{Occurrence}
use Rattle.fx_counts.specs.declared.at_queue.AtQueue.{AtQueue}
use Rattle.fx_counts.specs.declared.queue_so_far.QueueSoFar.{QueueSoFar}
use Rattle.fx_counts.specs.Counted.{history_in, held_after, gets, event_at, IsPut, IsTakenPut}
use Rattle.fx_counts.specs.SoFar.{IsAs, IsAfter, IsReplay, place_put, place_taken}
use Rattle.fx_counts.proofs.SoFar.{elements_long}
use Rattle.fx_counts.proofs.TakenPuts.{split_at, all_put, all_taken, is_taken_put}

-- that event of the list is one of the first n and puts into queue q, and has that number among the puts there
pub record IsPutThere (q : ℕ) (list : List Occurrence) (n i j : ℕ) : Type 0 where
  pub before : j < n
  pub value : ℕ
  pub put : event_at list j ≡ Some (event.Put q value)
  pub nth : puts (history_in q (take j list)) ≡ i

-- event k of the list is a get, and that event before it the put of its number
pub record ArePaired (q : ℕ) (list : List Occurrence) (k j : ℕ) : Type 0 where
  pub value : ℕ
  pub got : event_at list k ≡ Some (event.Got q value)
  pub put : IsPutThere q list k (gets (history_in q (take k list))) j

-- what is told of that event, where the history goes on
pub record IsToldSoFar (capacity q : ℕ) (list : List Occurrence) (k : ℕ) (x : Occurrence) (a : AtQueue) : Type 0 where
  pub held : held_after capacity (history_in q (take (suc k) list)) ≡ Some a.held
  pub took : (e : QueueEvent) → queue_event q x.fiber x.event ≡ Some e → MatchOption a.took (IsPut e) (ArePaired q list k)

-- the first n events of the list were legal there, this is the queue after them, its puts stand at these places, and that is told of each of these events
pub record IsReplayedTo (capacity q : ℕ) (list : List Occurrence) (n : ℕ) (now : QueueSoFar) (told : List AtQueue) : Type 0 where
  pub state : QueueState
  pub so_far : replayed capacity (history_in q (take n list)) ≡ Some state
  pub is : IsAs now state
  pub as_many_puts : length now.places.items ≡ puts (history_in q (take n list))
  pub places : (i j : ℕ) → slice_get now.places.items i ≡ Some j → IsPutThere q list n i j
  pub as_many : length told ≡ n
  pub each : (k : ℕ) (x : Occurrence) (a : AtQueue) → slice_get list k ≡ Some x → slice_get told k ≡ Some a → IsToldSoFar capacity q list k x a

puts_append : (h k : List QueueEvent) → puts (h ++ k) ≡ puts h + puts k
puts_append [] k = omega arith
puts_append (Put f n ∷ h) k = let rest = puts_append h k in omega arith
puts_append (Got f n ∷ h) k = puts_append h k

module _ (capacity q : ℕ) where
  abbrev after_all : List Occurrence → Option QueueState
  after_all list = replayed capacity (history_in q list)

  -- the replay of two lists in a row
  after_both : (xs ys : List Occurrence) → after_all (xs ++ ys) ≡ replayed_from capacity (after_all xs) (history_in q ys)
  after_both xs ys =
      ap (replayed capacity) (filter_map-append (λ (x : Occurrence). queue_event q x.fiber x.event) xs ys)
      ∙ replayed_append capacity (Some empty_queue) (history_in q xs) (history_in q ys)

  take_one_more : (list : List Occurrence) (n : ℕ) (x : Occurrence) → slice_get list n ≡ Some x → take (suc n) list ≡ take n list ++ x ∷ []
  take_one_more [] n x at = absurd (none-some x at)
  take_one_more (y ∷ list) zero x at = ap (λ (z : Occurrence). z ∷ []) (same_Some y x at)
  take_one_more (y ∷ list) (suc n) x at = ap (λ (l : List Occurrence). y ∷ l) (take_one_more list n x at)

  -- an event at which the queue's history is not legal
  pub not_legal : (list : List Occurrence) (rest : List Element) (n : ℕ) (x : Occurrence) (now : QueueSoFar) (told : List AtQueue)
      (so_far : IsReplayedTo capacity q list n now told) → slice_get list n ≡ Some x
      → replayed_from capacity (Some so_far.state) (history_in q (x ∷ [])) ≡ None → Leaves capacity (history_in q list) rest → ⊥
  not_legal list rest n x now told so_far at none leaves =
      let first = take n list in
      let stuck : after_all (first ++ x ∷ []) ≡ None =
      after_both first (x ∷ []) ∙ ap (λ (o : Option QueueState). replayed_from capacity o (history_in q (x ∷ []))) so_far.so_far ∙ none in
      let later = history_in q (drop (suc n) list) in
      let all : after_all list ≡ None =
      ap after_all (split_at list n x at ∙ sym (append_assoc first (x ∷ []) (drop (suc n) list)))
      ∙ after_both (first ++ x ∷ []) (drop (suc n) list)
      ∙ ap (λ (o : Option QueueState). replayed_from capacity o later) stuck ∙ stays_none capacity later in
      none-some leaves.last (sym all ∙ leaves.legal)

  pub now_after : (list : List Occurrence) (n : ℕ) (x : Occurrence) (now after : QueueSoFar) (told : List AtQueue)
      (so_far : IsReplayedTo capacity q list n now told) → slice_get list n ≡ Some x
      → (next : IsAfter true (replayed_from capacity (Some so_far.state) (history_in q (x ∷ []))) after)
      → after_all (take (suc n) list) ≡ Some next.0
  now_after list n x now after told so_far at next =
      ap after_all (take_one_more list n x at) ∙ after_both (take n list) (x ∷ [])
      ∙ ap (λ (o : Option QueueState). replayed_from capacity o (history_in q (x ∷ []))) so_far.so_far ∙ next.1

  module _ (list : List Occurrence) (n : ℕ) (x : Occurrence) (now : QueueSoFar) (told : List AtQueue)
      (so_far : IsReplayedTo capacity q list n now told) (at : slice_get list n ≡ Some x) where
    abbrev before : List QueueEvent
    before = history_in q (take n list)

    event_is : (e : Event) → x.event ≡ e → event_at list n ≡ Some e
    event_is e is = ap (option_map (λ (y : Occurrence). y.event)) at ∙ ap Some is

    -- the puts of one more event
    few_placed : (e : Event) → length (place_put q e n) ≤ 1
    few_placed (event.Put r v) = by_test (r == q)
      where
        by_test : (b : Bool) → length (if b then n ∷ [] else []) ≤ 1
        by_test true = omega arith
        by_test false = omega arith
    few_placed _ = omega arith

    one_placed : (e : Event) → length (place_put q e n) ≡ puts (cons_option (queue_event q x.fiber e) [])
    one_placed (event.Put r v) = by_test (r == q)
      where
        by_test : (b : Bool) → length (if b then n ∷ [] else []) ≡ puts (cons_option (if b then Some (Put x.fiber v) else None) [])
        by_test true = refl
        by_test false = refl
    one_placed (event.Got r v) = by_test (r == q)
      where
        by_test : (b : Bool) → 0 ≡ puts (cons_option (if b then Some (Got x.fiber v) else None) [])
        by_test true = refl
        by_test false = refl
    one_placed _ = refl

    placed_put : (e : Event) (j : ℕ) → x.event ≡ e → place_put q e n ≡ j ∷ [] → IsPutThere q list (suc n) (puts before) j
    placed_put (event.Put r v) j is placed = by_test (r == q) refl placed
      where
        by_test : (b : Bool) → (r == q) ≡ b → (if b then n ∷ [] else []) ≡ j ∷ [] → IsPutThere q list (suc n) (puts before) j
        by_test true same placed =
            let here : n ≡ j = cc in
            let own : r ≡ q = eqb-true r q same in
            subst (IsPutThere q list (suc n) (puts before)) here (record {
              before = omega arith;
              value = v;
              put = event_is (event.Put r v) is ∙ ap (λ (k : ℕ). Some (event.Put k v)) own;
              nth = refl;
            })
        by_test false same placed = absurd (cc placed)
    placed_put _ j is placed = absurd (cc placed)

    all_placed : (places : List ℕ) → places ≡ now.places.items ++ place_put q x.event n → length places ≡ puts (history_in q (take (suc n) list))
    all_placed places pushed =
        let old = so_far.as_many_puts in
        let one = one_placed x.event in
        let long = ap length pushed ∙ length-append now.places.items (place_put q x.event n) in
        let parts : history_in q (take (suc n) list) ≡ before ++ history_in q (x ∷ []) =
        ap (history_in q) (take_one_more list n x at)
        ∙ filter_map-append (λ (y : Occurrence). queue_event q y.fiber y.event) (take n list) (x ∷ []) in
        let more = ap puts parts ∙ puts_append before (history_in q (x ∷ [])) in
        omega (arith, old, one, long, more)

    each_placed : (places : List ℕ) → places ≡ now.places.items ++ place_put q x.event n → (i j : ℕ) → slice_get places i ≡ Some j
        → IsPutThere q list (suc n) i j
    each_placed places pushed i j there =
        elim (stood_or_new now.places.items (place_put q x.event n) i j (few_placed x.event) (ap (λ (l : List ℕ). slice_get l i) (sym pushed) ∙ there)) [
          | inl old ↦ (
              let p = so_far.places i j old in
              let lt = p.before in record { before = omega arith; value = p.value; put = p.put; nth = p.nth }
              )
          | inr new ↦ (
              let number : puts before ≡ i = sym so_far.as_many_puts ∙ sym new.0 in
              subst (λ (k : ℕ). IsPutThere q list (suc n) k j) number (placed_put x.event j refl new.1)
              )
        ]

    -- so many were taken before
    taken_is : now.taken ≡ gets before
    taken_is =
        let s = so_far.state in
        let taken = all_taken capacity before s so_far.so_far in
        let accounts = sym (length-append (items_taken s) s.items) ∙ ap length (replay_accounts capacity empty_queue before s so_far.so_far refl) in
        let as_many = length-map s.taken (λ (t : Taking). t.item) in
        let put = ap length so_far.is.put in
        let left = ap length so_far.is.items ∙ length-drop now.taken (elements_of now.put.items) in
        let long = elements_long now.put.items in
        let within = so_far.is.within in
        omega (arith, taken, accounts, as_many, put, left, long, within)

    -- what a legal get takes
    got_so : (v : ℕ) (next : QueueState) → x.event ≡ event.Got q v → after_got so_far.state x.fiber v so_far.state.items ≡ Some next
        → (j : ℕ) × (slice_get now.places.items now.taken ≡ Some j) × ArePaired q list n j
    got_so v next is legal =
        let s = so_far.state in
        let got = get_parts s x.fiber v s.items next legal in
        let some : length s.items ≡ suc (length got.rest) = ap length got.items in
        let accounts = sym (length-append (items_taken s) s.items) ∙ ap length (replay_accounts capacity empty_queue before s so_far.so_far refl) in
        let as_many = length-map s.taken (λ (t : Taking). t.item) in
        let taken = all_taken capacity before s so_far.so_far in
        let put = all_put capacity before s so_far.so_far in
        let placed = so_far.as_many_puts in
        let number = taken_is in
        let within : now.taken < length now.places.items = omega (arith, some, accounts, as_many, taken, put, placed, number) in
        elim ((slice_get_cases now.places.items now.taken).1) [
          | inl h ↦ (
            h.0,
            h.2,
            record {
              value = v;
              got = event_is (event.Got q v) is;
              put = subst (λ (i : ℕ). IsPutThere q list n i h.0) number (so_far.places now.taken h.0 h.2);
            },
          )
          | inr h ↦ absurd (let le = h.0 in omega arith)
        ]

    took_so : (next : QueueState) (e : QueueEvent) → replayed_from capacity (Some so_far.state) (history_in q (x ∷ [])) ≡ Some next
        → queue_event q x.fiber x.event ≡ Some e → MatchOption (place_taken q x.event now) (IsPut e) (ArePaired q list n)
    took_so next e legal own = by_event x.event refl own legal
      where
        by_event : (ev : Event) → x.event ≡ ev → queue_event q x.fiber ev ≡ Some e
            → replayed_from capacity (Some so_far.state) (cons_option (queue_event q x.fiber ev) []) ≡ Some next
            → MatchOption (place_taken q ev now) (IsPut e) (ArePaired q list n)
        by_event (event.Put r v) is own legal = by_test (r == q) own
          where
            by_test : (b : Bool) → (if b then Some (Put x.fiber v) else None) ≡ Some e → IsPut e
            by_test true own = subst IsPut (same_Some (Put x.fiber v) e own) tt
            by_test false own = absurd (none-some e own)
        by_event (event.Got r v) is own legal = by_test (r == q) refl own legal
          where
            by_test : (b : Bool) → (r == q) ≡ b → (if b then Some (Got x.fiber v) else None) ≡ Some e
                → replayed_from capacity (Some so_far.state) (cons_option (if b then Some (Got x.fiber v) else None) []) ≡ Some next
                → MatchOption (if b then slice_get now.places.items now.taken else None) (IsPut e) (ArePaired q list n)
            by_test true same own legal =
                let this : event.Got r v ≡ event.Got q v = ap (λ (k : ℕ). event.Got k v) (eqb-true r q same) in
                let found = got_so v next (is ∙ this) legal in
                subst (λ (o : Option ℕ). MatchOption o (IsPut e) (ArePaired q list n)) (sym found.1) found.2
            by_test false same own legal = absurd (none-some e own)
        by_event _ is own legal = absurd (none-some e own)

  -- one more event
  pub one_more : (list : List Occurrence) (n m : ℕ) (x : Occurrence) (now after : QueueSoFar) (told longer : List AtQueue) (a : AtQueue)
      (so_far : IsReplayedTo capacity q list n now told) → slice_get list n ≡ Some x
      → (next : IsAfter true (replayed_from capacity (Some so_far.state) (history_in q (x ∷ []))) after)
      → after.places.items ≡ now.places.items ++ place_put q x.event n → longer ≡ told ++ a ∷ []
      → a.held ≡ length next.0.items → a.took ≡ place_taken q x.event now → m ≡ suc n → IsReplayedTo capacity q list m after longer
  one_more list n m x now after told longer a so_far at next placed pushed holds takes is =
      let legal = now_after list n x now after told so_far at next in
      subst (λ (k : ℕ). IsReplayedTo capacity q list k after longer) (sym is) (record {
        state = next.0;
        so_far = legal;
        is = next.2;
        as_many_puts = all_placed list n x now told so_far at after.places.items placed;
        places = each_placed list n x now told so_far at after.places.items placed;
        as_many = (let long = ap length pushed ∙ length-append told (a ∷ []) in let old = so_far.as_many in omega arith);
        each = λ k y b here there. by_place k y b here
            (stood_or_new told (a ∷ []) k b (omega arith) (ap (λ (l : List AtQueue). slice_get l k) (sym pushed) ∙ there)) legal;
      })
    where
      told_now : after_all (take (suc n) list) ≡ Some next.0 → IsToldSoFar capacity q list n x a
      told_now legal = record {
        held = ap (option_map (λ (s : QueueState). length s.items)) legal ∙ ap Some (sym holds);
        took = λ e own.
            subst (λ (o : Option ℕ). MatchOption o (IsPut e) (ArePaired q list n)) (sym takes)
            (took_so list n x now told so_far at next.0 e next.1 own);
      }

      by_place : (k : ℕ) (y : Occurrence) (b : AtQueue) → slice_get list k ≡ Some y
          → (slice_get told k ≡ Some b) ⊎ ((k ≡ length told) × (a ∷ [] ≡ b ∷ [])) → after_all (take (suc n) list) ≡ Some next.0
          → IsToldSoFar capacity q list k y b
      by_place k y b here (inl old) legal = so_far.each k y b here old
      by_place k y b here (inr new) legal =
          let place : n ≡ k = sym so_far.as_many ∙ sym new.0 in
          let same : a ≡ b = cc in
          let this : x ≡ y = same_Some x y (sym at ∙ ap (slice_get list) place ∙ here) in
          subst (λ (i : ℕ). IsToldSoFar capacity q list i y b) place
          (subst (λ (z : Occurrence). IsToldSoFar capacity q list n z b) this (subst (IsToldSoFar capacity q list n x) same (told_now legal)))

  -- the end of the list
  pub at_end : (list : List Occurrence) (rest : List Element) (n : ℕ) (now : QueueSoFar) (told : List AtQueue) (b : Bool)
      (so_far : IsReplayedTo capacity q list n now told) → length list ≡ n → (IsTrue b ↔ (so_far.state.items ≡ rest))
      → IsReplay capacity q list rest (if b then Some told else None)
  at_end list rest n now told b so_far here same = by_test b same
    where
      legal : after_all list ≡ Some so_far.state
      legal = ap after_all (sym (take_all n list (omega arith))) ∙ so_far.so_far

      taken : (k : ℕ) (e : QueueEvent) (o : Option ℕ) → MatchOption o (IsPut e) (ArePaired q list k) → MatchOption o (IsPut e) (IsTakenPut q list k)
      taken k e None is = is
      taken k e (Some j) pair =
          is_taken_put capacity q list so_far.state legal k j pair.value pair.put.value pair.got pair.put.put pair.put.before pair.put.nth

      by_test : (b : Bool) → (IsTrue b ↔ (so_far.state.items ≡ rest)) → IsReplay capacity q list rest (if b then Some told else None)
      by_test true same = (
        record { last = so_far.state; legal = legal; rest_is = same.0 (search rules) },
        so_far.as_many ∙ sym here,
        λ k x a at there. let so = so_far.each k x a at there in (so.held, λ e own. taken k e a.took (so.took e own)),
      )
      by_test false same = λ leaves.
          let one : so_far.state ≡ leaves.last = same_Some so_far.state leaves.last (sym legal ∙ leaves.legal) in
          let is : so_far.state.items ≡ rest = ap (λ (s : QueueState). s.items) one ∙ leaves.rest_is in
          absurd (true≢false (sym (same.1 is)))

pub after_true : (b : Bool) (o : Option QueueState) (q : QueueSoFar) → b ≡ true → IsAfter b o q → IsAfter true o q
after_true b o q is = subst (λ (v : Bool). IsAfter v o q) is

pub after_false : (b : Bool) (o : Option QueueState) (q : QueueSoFar) → b ≡ false → IsAfter b o q → o ≡ None
after_false b o q is = subst (λ (v : Bool). IsAfter v o q) is

then_items : (b : Bool) (v : Vec AtQueue Global) → (if b then Some v.items else None) ≡ option_map (λ (it : Vec AtQueue Global). it.items) (then_some b v)
then_items true v = refl
then_items false v = refl

pub replay_then : (capacity q : ℕ) (list : List Occurrence) (rest : List Element) (b : Bool) (v : Vec AtQueue Global) (o : Option (Vec AtQueue Global))
    → o ≡ then_some b v → IsReplay capacity q list rest (if b then Some v.items else None)
    → IsReplay capacity q list rest (option_map (λ (it : Vec AtQueue Global). it.items) o)
replay_then capacity q list rest b v o is replay =
    subst (IsReplay capacity q list rest) (then_items b v ∙ ap (option_map (λ (it : Vec AtQueue Global). it.items)) (sym is)) replay
