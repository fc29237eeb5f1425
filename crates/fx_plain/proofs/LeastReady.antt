-- The least number of a fiber that is ready, found queue by queue.
use Rattle.std.proofs.Common.{◌≡◌, ℕ, ◌+◌, ◌<◌, ◌≤◌, Bool, true, false, Option, Some, None, List, length, refl, sym, ◌∙◌, ap, inl, inr, arith}
use Rattle.std.specs.Prelude.{◌==◌, ◌||◌, ◌&&◌, nat_lt, min}
use Rattle.std.proofs.lemmas.Bool.{cases_eq, cases_lt, eq-eqb, ne_eqb, lt-ltb, le-ltb}
use Rattle.std.proofs.lemmas.List.{get_or_past}
use Rattle.fx_model.specs.declared.source.Source.TheVariants.{Nothing, Outcome, Either, Room, Element}
use Rattle.fx_plain.specs.declared.class.Class.{Class}
use Rattle.fx_plain.specs.declared.class.Class.TheVariants.{Unstarted, Able, Waits, Over}
use Rattle.fx_plain.specs.NumberSet.{IsLeastOf, lesser}
use Rattle.fx_plain.specs.PlainQueue.{QueueView, no_queue, queue_at, have_room, have_element, has_room_in, has_element_in}
use Rattle.fx_plain.specs.Classes.{is_ready}
use Rattle.fx_plain.specs.ClassSets.{class_at, is_able, waits_there, waits_for_room_there, waits_for_element_there}
use Rattle.fx_plain.specs.ClassSets.{SetsView, members, AreAble, ForRoom, ForElement, passes}
use Rattle.fx_plain.specs.ClassSets.{AreSets, is_ready_there, NobodyWaitsBetween}

module _ (s t : ℕ → Bool) where
  abbrev either : ℕ → Bool
  either f = s f || t f

  neither : (f : ℕ) → s f ≡ false → t f ≡ false → either f ≡ false
  neither f e h = rw e h

  first : (f : ℕ) → s f ≡ true → either f ≡ true
  first f e = rw e refl

  second : (f : ℕ) → t f ≡ true → either f ≡ true
  second f e = by_test (s f)
    where
      by_test : (b : Bool) → (b || t f) ≡ true
      by_test true = refl
      by_test false = e

  -- the lesser of two least numbers is the least of both sets
  pub least_of_both : (a b : Option ℕ) → IsLeastOf s a → IsLeastOf t b → IsLeastOf either (lesser a b)
  least_of_both None None h k = λ f. neither f (h f) (k f)
  least_of_both None (Some n) h k = (second n k.0, λ f lt. neither f (h f) (k.1 f lt))
  least_of_both (Some m) None h k = (first m h.0, λ f lt. neither f (h.1 f lt) (k f))
  least_of_both (Some m) (Some n) h k = elim (cases_lt m n) [
    | inl lt ↦ (let e : min m n ≡ m = omega arith in
        (ap either e ∙ first m h.0, λ f below. neither f (h.1 f (omega arith)) (k.1 f (omega arith))))
    | inr le ↦ (let e : min m n ≡ n = omega arith in
        (ap either e ∙ second n k.0, λ f below. neither f (h.1 f (omega arith)) (k.1 f (omega arith))))
  ]

-- a set with the same numbers has the same least one
pub least_same : (a b : ℕ → Bool) (least : Option ℕ) → ((n : ℕ) → a n ≡ b n) → IsLeastOf a least → IsLeastOf b least
least_same a b None e h = λ n. sym (e n) ∙ h n
least_same a b (Some m) e h = (sym (e m) ∙ h.0, λ k lt. sym (e k) ∙ h.1 k lt)

-- who waits at a queue for what it has is found in the sets
module _ (classes : List Class) (sets : SetsView) (are : AreSets classes sets) (q : ℕ) (own : QueueView) (kept : q < length sets.for_room) where
  found_there : (f : ℕ) → is_ready_there sets q own f ≡ waits_there q own (class_at classes f)
  found_there f = rw (are (ForRoom q) kept f, are (ForElement q) kept f) refl

  pub least_waits_for_room : (least : Option ℕ) → IsLeastOf (λ f. has_room_in own && members sets (ForRoom q) f) least
      → IsLeastOf (λ f. waits_for_room_there q own (class_at classes f)) least
  least_waits_for_room least =
      least_same (λ f. has_room_in own && members sets (ForRoom q) f) (λ f. waits_for_room_there q own (class_at classes f)) least
      (λ f. ap (λ (b : Bool). has_room_in own && b) (are (ForRoom q) kept f))

  pub least_waits_for_element : (least : Option ℕ) → IsLeastOf (λ f. has_element_in own && members sets (ForElement q) f) least
      → IsLeastOf (λ f. waits_for_element_there q own (class_at classes f)) least
  least_waits_for_element least =
      least_same (λ f. has_element_in own && members sets (ForElement q) f) (λ f. waits_for_element_there q own (class_at classes f)) least
      (λ f. ap (λ (b : Bool). has_element_in own && b) (are (ForElement q) kept f))

module _ (queues : List QueueView) where
  -- it is able, or waits at one of the first n queues, which has what it waits for
  abbrev pub ready_below : ℕ → Class → Bool
  ready_below n Able = true
  ready_below n (Waits (Room q)) = nat_lt q n && have_room queues q
  ready_below n (Waits (Element q)) = nat_lt q n && have_element queues q
  ready_below n _ = false

  one_more_test : (r q : ℕ) (ready : ℕ → Bool) → (nat_lt r (q + 1) && ready r) ≡ ((nat_lt r q && ready r) || (ready q && (r == q)))
  one_more_test r q ready = elim (cases_lt r q) [
    | inl lt ↦ rw (lt-ltb r q lt, lt-ltb r (q + 1) (omega arith), ne_eqb r q (λ e. omega arith)) (below (ready r) (ready q))
    | inr le ↦ elim (cases_eq r q) [
      | inl same ↦ rw (same, le-ltb q q (omega arith), lt-ltb q (q + 1) (omega arith), eq-eqb q q refl) (at (ready q))
      | inr apart ↦ rw (le-ltb r q le, le-ltb r (q + 1) (omega arith), ne_eqb r q apart) (above (ready q))
    ]
  ]
    where
      below : (a b : Bool) → a ≡ (a || (b && false))
      below true b = refl
      below false true = refl
      below false false = refl

      at : (b : Bool) → b ≡ (b && true)
      at true = refl
      at false = refl

      above : (b : Bool) → false ≡ (b && false)
      above true = refl
      above false = refl

  first_of_two : (a b c : Bool) → (a || b) ≡ (a || (b || (c && false)))
  first_of_two true b c = refl
  first_of_two false true c = refl
  first_of_two false false true = refl
  first_of_two false false false = refl

  second_of_two : (a b c : Bool) → (a || b) ≡ (a || ((c && false) || b))
  second_of_two true b c = refl
  second_of_two false b true = refl
  second_of_two false b false = refl

  none_of_two : (a b : Bool) → false ≡ ((a && false) || (b && false))
  none_of_two true true = refl
  none_of_two true false = refl
  none_of_two false true = refl
  none_of_two false false = refl

  ready_one_more : (q : ℕ) (k : Class) → ready_below (q + 1) k ≡ (ready_below q k || waits_there q (queue_at queues q) k)
  ready_one_more q Able = refl
  ready_one_more q (Waits (Room r)) =
      one_more_test r q (have_room queues) ∙ first_of_two (nat_lt r q && have_room queues r) (have_room queues q && (r == q)) (have_element queues q)
  ready_one_more q (Waits (Element r)) =
      one_more_test r q (have_element queues) ∙ second_of_two (nat_lt r q && have_element queues r) (have_element queues q && (r == q)) (have_room queues q)
  ready_one_more q (Waits Nothing) = none_of_two (have_room queues q) (have_element queues q)
  ready_one_more q (Waits (Outcome f)) = none_of_two (have_room queues q) (have_element queues q)
  ready_one_more q (Waits (Either f g)) = none_of_two (have_room queues q) (have_element queues q)
  ready_one_more q Unstarted = none_of_two (have_room queues q) (have_element queues q)
  ready_one_more q Over = none_of_two (have_room queues q) (have_element queues q)

  -- past the queues there is neither room nor an element
  within : (r n : ℕ) (ready : QueueView → Bool) → ready no_queue ≡ false → length queues ≤ n
      → (nat_lt r n && ready (queue_at queues r)) ≡ ready (queue_at queues r)
  within r n ready none le = elim (cases_lt r n) [
    | inl lt ↦ rw (lt-ltb r n lt) refl
    | inr past ↦ rw (le-ltb r n past) (sym (ap ready (get_or_past queues r no_queue (omega arith)) ∙ none))
  ]

  ready_all : (n : ℕ) → length queues ≤ n → (k : Class) → ready_below n k ≡ is_ready (have_room queues) (have_element queues) k
  ready_all n le Able = refl
  ready_all n le (Waits (Room r)) = within r n has_room_in refl le
  ready_all n le (Waits (Element r)) = within r n has_element_in refl le
  ready_all n le (Waits Nothing) = refl
  ready_all n le (Waits (Outcome f)) = refl
  ready_all n le (Waits (Either f g)) = refl
  ready_all n le Unstarted = refl
  ready_all n le Over = refl

  ready_none : (k : Class) → is_able k ≡ ready_below 0 k
  ready_none Able = refl
  ready_none (Waits (Room r)) = rw (le-ltb r 0 (omega arith)) refl
  ready_none (Waits (Element r)) = rw (le-ltb r 0 (omega arith)) refl
  ready_none (Waits Nothing) = refl
  ready_none (Waits (Outcome f)) = refl
  ready_none (Waits (Either f g)) = refl
  ready_none Unstarted = refl
  ready_none Over = refl

  module _ (classes : List Class) (sets : SetsView) (are : AreSets classes sets) (long : length queues ≡ length sets.for_room) where
    abbrev pub IsLeastBelow : ℕ → Option ℕ → Type 0
    IsLeastBelow n least = IsLeastOf (λ f. ready_below n (class_at classes f)) least

    pub least_first : (least : Option ℕ) → IsLeastOf (members sets AreAble) least → IsLeastBelow 0 least
    least_first least = least_same (members sets AreAble) (λ f. ready_below 0 (class_at classes f)) least
        (λ f. are AreAble tt f ∙ ready_none (class_at classes f))

    pub least_next : (q : ℕ) (own : QueueView) (least there : Option ℕ) → q < length queues → own ≡ queue_at queues q → IsLeastBelow q least
        → IsLeastOf (is_ready_there sets q own) there → IsLeastBelow (q + 1) (lesser least there)
    least_next q own least there lt is before here =
        least_same (λ f. ready_below q (class_at classes f) || is_ready_there sets q own f) (λ f. ready_below (q + 1) (class_at classes f)) (lesser least there)
        (λ f. ap (λ (b : Bool). ready_below q (class_at classes f) || b) (there_is f) ∙ sym (ready_one_more q (class_at classes f)))
        (least_of_both (λ f. ready_below q (class_at classes f)) (is_ready_there sets q own) least there before here)
      where
        kept : q < length sets.for_room
        kept = omega arith

        there_is : (f : ℕ) → is_ready_there sets q own f ≡ waits_there q (queue_at queues q) (class_at classes f)
        there_is f = found_there classes sets are q own kept f ∙ ap (λ (o : QueueView). waits_there q o (class_at classes f)) is

    pub least_last : (n : ℕ) (least : Option ℕ) → length queues ≤ n → IsLeastBelow n least
        → IsLeastOf (λ f. is_ready (have_room queues) (have_element queues) (class_at classes f)) least
    least_last n least le =
        least_same (λ f. ready_below n (class_at classes f)) (λ f. is_ready (have_room queues) (have_element queues) (class_at classes f)) least
        (λ f. ready_all n le (class_at classes f))

    -- queues at which nobody waits make nobody ready
    module _ (from n : ℕ) (le : from ≤ n) (none : NobodyWaitsBetween sets from n) where
      both_false : (a b : Bool) → (a && false) ≡ (b && false)
      both_false true true = refl
      both_false true false = refl
      both_false false true = refl
      both_false false false = refl

      skip_test : (r : ℕ) (ready : Bool) → (from ≤ r → r < n → ready ≡ false) → (nat_lt r from && ready) ≡ (nat_lt r n && ready)
      skip_test r ready gone = elim (cases_lt r from) [
        | inl lt ↦ rw (lt-ltb r from lt, lt-ltb r n (omega arith)) refl
        | inr past ↦ elim (cases_lt r n) [
          | inl lt ↦ rw (gone past lt) (both_false (nat_lt r from) (nat_lt r n))
          | inr out ↦ rw (le-ltb r from past, le-ltb r n out) refl
        ]
      ]

      room_gone : (f r : ℕ) → class_at classes f ≡ Waits (Room r) → from ≤ r → r < n → have_room queues r ≡ false
      room_gone f r e low high = elim (cases_lt r (length queues)) [
        | inl lt ↦ absurd
            (let kept : r < length sets.for_room = omega arith in
            let out = (none r low high kept f).0 in
            let is = are (ForRoom r) kept f ∙ ap (passes (ForRoom r)) e ∙ eq-eqb r r refl in
            cc)
        | inr past ↦ ap has_room_in (get_or_past queues r no_queue (omega arith))
      ]

      element_gone : (f r : ℕ) → class_at classes f ≡ Waits (Element r) → from ≤ r → r < n → have_element queues r ≡ false
      element_gone f r e low high = elim (cases_lt r (length queues)) [
        | inl lt ↦ absurd
            (let kept : r < length sets.for_room = omega arith in
            let out = (none r low high kept f).1 in
            let is = are (ForElement r) kept f ∙ ap (passes (ForElement r)) e ∙ eq-eqb r r refl in
            cc)
        | inr past ↦ ap has_element_in (get_or_past queues r no_queue (omega arith))
      ]

      same_ready : (f : ℕ) (k : Class) → class_at classes f ≡ k → ready_below from k ≡ ready_below n k
      same_ready f (Waits (Room r)) e = skip_test r (have_room queues r) (room_gone f r e)
      same_ready f (Waits (Element r)) e = skip_test r (have_element queues r) (element_gone f r e)
      same_ready f Able e = refl
      same_ready f (Waits Nothing) e = refl
      same_ready f (Waits (Outcome g)) e = refl
      same_ready f (Waits (Either g h)) e = refl
      same_ready f Unstarted e = refl
      same_ready f Over e = refl

      least_skipped : (least : Option ℕ) → IsLeastBelow from least → IsLeastBelow n least
      least_skipped least =
          least_same (λ f. ready_below from (class_at classes f)) (λ f. ready_below n (class_at classes f)) least (λ f. same_ready f (class_at classes f) refl)

      -- so the search goes on past the next at which somebody may wait
      pub least_onward : (own : QueueView) (least there : Option ℕ) → n < length queues → own ≡ queue_at queues n → IsLeastBelow from least
          → IsLeastOf (is_ready_there sets n own) there → IsLeastBelow (n + 1) (lesser least there)
      least_onward own least there lt is before here = least_next n own least there lt is (least_skipped least before) here

      -- and ends where there is no queue any more
      pub least_past : (least : Option ℕ) → length queues ≤ n → IsLeastBelow from least
          → IsLeastOf (λ f. is_ready (have_room queues) (have_element queues) (class_at classes f)) least
      least_past least past before = least_last n least past (least_skipped least before)

    -- or where nobody waits any more
    pub least_at_end : (from : ℕ) (least : Option ℕ) → NobodyWaitsBetween sets from (length sets.for_room) → IsLeastBelow from least
        → IsLeastOf (λ f. is_ready (have_room queues) (have_element queues) (class_at classes f)) least
    least_at_end from least none before = elim (cases_lt (length sets.for_room) from) [
      | inl lt ↦ least_last from least (omega arith) before
      | inr le ↦ least_past from (length sets.for_room) le none least (omega arith) before
    ]
