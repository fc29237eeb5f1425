-- Classes where one fiber was woken tell what they tell once it is moved.
use Rattle.std.proofs.Common.{◌≡◌, ◌≢◌, ℕ, ◌<◌, Bool, true, false, Option, Some, None, List, length, refl, sym, ◌∙◌, ap, inl, inr, arith}
use Rattle.std.proofs.Common.{get_or-set_same, get_or-set_other}
use Rattle.std.specs.Prelude.{◌==◌, ◌||◌, ◌&&◌, IfSome, min, slice_set}
use Rattle.std.proofs.lemmas.Bool.{cases_eq, cases_lt, eq-eqb, ne_eqb, eqb-true}
use Rattle.std.proofs.lemmas.List.{set-set, set-get_or}
use Rattle.fx_model.specs.declared.source.Source.{Source}
use Rattle.fx_model.specs.declared.source.Source.TheVariants.{Nothing, Outcome, Either, Room, Element}
use Rattle.fx_plain.specs.declared.class.Class.{Class}
use Rattle.fx_plain.specs.declared.class.Class.TheVariants.{Unstarted, Able, Waits, Over}
use Rattle.fx_plain.specs.NumberSet.{IsLeastOf, lesser}
use Rattle.fx_plain.specs.PlainQueue.{QueueView, no_queue, queue_at, have_room, have_element, has_room_in, has_element_in}
use Rattle.fx_plain.specs.Classes.{is_ready}
use Rattle.fx_plain.specs.ClassSets.{class_at, is_able, waits_for_room_there, waits_for_element_there}
use Rattle.fx_plain.specs.WokenClasses.{with_woken, IsLeastOrAble}
use Rattle.fx_term.proofs.MapLaws.{at_that, at_other}
use Rattle.fx_plain.proofs.ClassSets.{class_at_set, as_view, same_view}
use Rattle.fx_plain.proofs.LeastReady.{least_of_both, least_same}

or_true : (a b : Bool) → b ≡ true → (a || b) ≡ true
or_true true b e = refl
or_true false b e = e

-- the class of a fiber that was woken, and of the others
module _ (classes : List Class) (f : ℕ) (lt : f < length classes) where
  at_woken : (g : ℕ) → g ≡ f → class_at (slice_set classes f Able) g ≡ Able
  at_woken g same = class_at_set classes f Able lt g ∙ at_that f Able (class_at classes) g same

  at_others : (g : ℕ) → g ≢ f → class_at (slice_set classes f Able) g ≡ class_at classes g
  at_others g apart = class_at_set classes f Able lt g ∙ at_other f Able (class_at classes) g apart

-- who waits again where it was woken is as if it had not been
pub waits_again : (classes : List Class) (queues : ℕ) (woken : Option ℕ) (f : ℕ) (w : Source) → woken ≡ Some f → class_at classes f ≡ Waits w
    → as_view classes queues ≡ as_view (slice_set (with_woken woken classes) f (Waits w)) queues
waits_again classes queues woken f w e is =
    rw e (same_view (sym (set-set classes f Able (Waits w) ∙ ap (slice_set classes f) (sym is) ∙ set-get_or classes f Unstarted)) refl)

-- the least one that is ready is the one that was woken, or the least of those that are kept
module _ (room element : ℕ → Bool) where
  abbrev ready : List Class → ℕ → Bool
  ready classes f = is_ready room element (class_at classes f)

  pub least_woken : (classes : List Class) (woken least : Option ℕ) → IfSome woken (λ f. f < length classes) → IsLeastOf (ready classes) least
      → IsLeastOf (ready (with_woken woken classes)) (lesser woken least)
  least_woken classes None least lt h = h
  least_woken classes (Some f) least lt h =
      least_same (λ n. (n == f) || ready classes n) (ready (slice_set classes f Able)) (lesser (Some f) least) same
      (least_of_both (λ n. n == f) (ready classes) (Some f) least (eq-eqb f f refl, λ k below. ne_eqb k f (λ e. omega arith)) h)
    where
      same : (n : ℕ) → ((n == f) || ready classes n) ≡ ready (slice_set classes f Able) n
      same n = elim (cases_eq n f) [
        | inl is ↦ rw (eq-eqb n f is) (sym (ap (is_ready room element) (at_woken classes f lt n is)))
        | inr apart ↦ rw (ne_eqb n f apart) (sym (ap (is_ready room element) (at_others classes f lt n apart)))
      ]

-- of those that are kept the least one that passes a test is the least one that does, or was woken
module _ (test : Class → Bool) (not_able : test Able ≡ false) where
  module _ (classes : List Class) (f : ℕ) (lt : f < length classes) where
    unseen : (g : ℕ) → test (class_at classes g) ≡ false → test (class_at (slice_set classes f Able) g) ≡ false
    unseen g e = elim (cases_eq g f) [
      | inl is ↦ ap test (at_woken classes f lt g is) ∙ not_able
      | inr apart ↦ ap test (at_others classes f lt g apart) ∙ e
    ]

    seen : (g : ℕ) → test (class_at classes g) ≡ true
        → (is_able (class_at (slice_set classes f Able) g) || test (class_at (slice_set classes f Able) g)) ≡ true
    seen g e = elim (cases_eq g f) [
      | inl is ↦ ap (λ (k : Class). is_able k || test k) (at_woken classes f lt g is)
      | inr apart ↦ ap (λ (k : Class). is_able k || test k) (at_others classes f lt g apart)
          ∙ or_true (is_able (class_at classes g)) (test (class_at classes g)) e
    ]

  pub least_or_woken : (classes : List Class) (woken least : Option ℕ) → IfSome woken (λ f. f < length classes)
      → IsLeastOf (λ f. test (class_at classes f)) least → IsLeastOrAble test (with_woken woken classes) least
  least_or_woken classes None None lt h = h
  least_or_woken classes None (Some n) lt h = (or_true (is_able (class_at classes n)) (test (class_at classes n)) h.0, h.1)
  least_or_woken classes (Some f) None lt h = λ g. unseen classes f lt g (h g)
  least_or_woken classes (Some f) (Some n) lt h = (seen classes f lt n h.0, λ g below. unseen classes f lt g (h.1 g below))

pub nobody_able : (b : Bool) → (b && false) ≡ false
nobody_able true = refl
nobody_able false = refl

-- a queue changes
module _ (q : ℕ) (own : QueueView) (queues : List QueueView) (lt : q < length queues) where
  abbrev ready_by : List QueueView → Class → Bool
  ready_by some k = is_ready (have_room some) (have_element some) k

  abbrev after : List QueueView
  after = slice_set queues q own

  this : (r : ℕ) → r ≡ q → queue_at after r ≡ own
  this r is = ap (queue_at after) is ∙ get_or-set_same queues q own no_queue lt

  another : (r : ℕ) → r ≢ q → queue_at after r ≡ queue_at queues r
  another r apart = get_or-set_other queues q r own no_queue apart

  second_false : (a b : Bool) → b ≡ true → (a && b) ≡ false → a ≡ false
  second_false true true e h = absurd cc
  second_false true false e h = absurd cc
  second_false false b e h = refl

  both_true : (a b : Bool) → (a && b) ≡ true → (a ≡ true) × (b ≡ true)
  both_true true true h = (refl, refl)
  both_true true false h = absurd cc
  both_true false b h = absurd cc

  same_number : (r : ℕ) → (r == q) ≡ true → r ≡ q
  same_number r e = eqb-true r q e

  -- the least one that is ready is who was, if it is able, or who passes a test below it, where who passes it is ready now, and who is ready now was or
  -- passes it
  module _ (test : Class → Bool) (unready : (k : Class) → ready_by queues k ≡ false → test k ≡ false → ready_by after k ≡ false)
      (passing : (k : Class) → test k ≡ true → ready_by after k ≡ true) where
    able_ready : (k : Class) → is_able k ≡ true → ready_by after k ≡ true
    able_ready Able e = refl
    able_ready _ e = absurd cc

    may_ready : (k : Class) → (is_able k || test k) ≡ true → ready_by after k ≡ true
    may_ready k e = by_test (is_able k) refl
      where
        by_test : (b : Bool) → is_able k ≡ b → ready_by after k ≡ true
        by_test true able = able_ready k able
        by_test false unable = passing k (ap (λ (b : Bool). b || test k) (sym unable) ∙ e)

    module _ (classes : List Class) where
      abbrev now : ℕ → Bool
      now f = ready_by after (class_at classes f)

      least_beside : (n : ℕ) (there : Option ℕ) → IsLeastOf (λ f. ready_by queues (class_at classes f)) (Some n) → is_able (class_at classes n) ≡ true
          → IsLeastOrAble test classes there → IsLeastOf now (lesser (Some n) there)
      least_beside n None least able none =
          (able_ready (class_at classes n) able, λ f below. unready (class_at classes f) (least.1 f below) (none f))
      least_beside n (Some m) least able there = elim (cases_lt n m) [
        | inl lt ↦ (let e : min n m ≡ n = omega arith in (
          ap now e ∙ able_ready (class_at classes n) able,
          λ f below. unready (class_at classes f) (least.1 f (omega arith)) (there.1 f (omega arith)),
        ))
        | inr le ↦ (let e : min n m ≡ m = omega arith in (
          ap now e ∙ may_ready (class_at classes m) there.0,
          λ f below. unready (class_at classes f) (least.1 f (omega arith)) (there.1 f (omega arith)),
        ))
      ]

      -- and who was found is found again
      found_beside : (found : Option ℕ) (n : ℕ) → found ≡ Some n → class_at classes n ≡ Able → (there result : Option ℕ)
          → IsLeastOrAble test classes there → result ≡ lesser (Some n) there
          → IfSome found (λ k. IsLeastOf (λ f. ready_by queues (class_at classes f)) (Some k))
          → IfSome result (λ k. IsLeastOf now (Some k))
      found_beside found n is able there result h e least = rw e (by_there there h)
        where
          by_there : (there : Option ℕ) → IsLeastOrAble test classes there → IfSome (lesser (Some n) there) (λ k. IsLeastOf now (Some k))
          by_there None h = least_beside n None (rw is at least) (ap is_able able) h
          by_there (Some m) h = least_beside n (Some m) (rw is at least) (ap is_able able) h

  -- where it had room, those are ready now who were, and who wait there for an element, if it has one
  unready_after_put : have_room queues q ≡ true → (k : Class) → ready_by queues k ≡ false → waits_for_element_there q own k ≡ false → ready_by after k ≡ false
  unready_after_put room Able e h = absurd cc
  unready_after_put room (Waits (Room r)) e h = elim (cases_eq r q) [
    | inl is ↦ absurd (let z : true ≡ false = sym room ∙ ap (have_room queues) (sym is) ∙ e in cc)
    | inr apart ↦ ap has_room_in (another r apart) ∙ e
  ]
  unready_after_put room (Waits (Element r)) e h = elim (cases_eq r q) [
    | inl is ↦ ap has_element_in (this r is) ∙ second_false (has_element_in own) (r == q) (eq-eqb r q is) h
    | inr apart ↦ ap has_element_in (another r apart) ∙ e
  ]
  unready_after_put room (Waits Nothing) e h = refl
  unready_after_put room (Waits (Outcome g)) e h = refl
  unready_after_put room (Waits (Either g g')) e h = refl
  unready_after_put room Unstarted e h = refl
  unready_after_put room Over e h = refl

  element_ready : (k : Class) → waits_for_element_there q own k ≡ true → ready_by after k ≡ true
  element_ready (Waits (Element r)) h =
      let both = both_true (has_element_in own) (r == q) h in ap has_element_in (this r (same_number r both.1)) ∙ both.0
  element_ready (Waits (Room r)) h = absurd (let both = both_true (has_element_in own) false h in cc)
  element_ready (Waits Nothing) h = absurd (let both = both_true (has_element_in own) false h in cc)
  element_ready (Waits (Outcome g)) h = absurd (let both = both_true (has_element_in own) false h in cc)
  element_ready (Waits (Either g g')) h = absurd (let both = both_true (has_element_in own) false h in cc)
  element_ready Able h = refl
  element_ready Unstarted h = absurd (let both = both_true (has_element_in own) false h in cc)
  element_ready Over h = absurd (let both = both_true (has_element_in own) false h in cc)

  -- where it had an element, those are ready now who were, and who wait there for room, if it has some
  unready_after_take : have_element queues q ≡ true → (k : Class) → ready_by queues k ≡ false → waits_for_room_there q own k ≡ false → ready_by after k ≡ false
  unready_after_take element Able e h = absurd cc
  unready_after_take element (Waits (Element r)) e h = elim (cases_eq r q) [
    | inl is ↦ absurd (let z : true ≡ false = sym element ∙ ap (have_element queues) (sym is) ∙ e in cc)
    | inr apart ↦ ap has_element_in (another r apart) ∙ e
  ]
  unready_after_take element (Waits (Room r)) e h = elim (cases_eq r q) [
    | inl is ↦ ap has_room_in (this r is) ∙ second_false (has_room_in own) (r == q) (eq-eqb r q is) h
    | inr apart ↦ ap has_room_in (another r apart) ∙ e
  ]
  unready_after_take element (Waits Nothing) e h = refl
  unready_after_take element (Waits (Outcome g)) e h = refl
  unready_after_take element (Waits (Either g g')) e h = refl
  unready_after_take element Unstarted e h = refl
  unready_after_take element Over e h = refl

  room_ready : (k : Class) → waits_for_room_there q own k ≡ true → ready_by after k ≡ true
  room_ready (Waits (Room r)) h =
      let both = both_true (has_room_in own) (r == q) h in ap has_room_in (this r (same_number r both.1)) ∙ both.0
  room_ready (Waits (Element r)) h = absurd (let both = both_true (has_room_in own) false h in cc)
  room_ready (Waits Nothing) h = absurd (let both = both_true (has_room_in own) false h in cc)
  room_ready (Waits (Outcome g)) h = absurd (let both = both_true (has_room_in own) false h in cc)
  room_ready (Waits (Either g g')) h = absurd (let both = both_true (has_room_in own) false h in cc)
  room_ready Able h = refl
  room_ready Unstarted h = absurd (let both = both_true (has_room_in own) false h in cc)
  room_ready Over h = absurd (let both = both_true (has_room_in own) false h in cc)

  module _ (classes : List Class) (found : Option ℕ) (n : ℕ) (is : found ≡ Some n) (able : class_at classes n ≡ Able) (there result : Option ℕ) where
    pub found_after_put : have_room queues q ≡ true → IsLeastOrAble (waits_for_element_there q own) classes there → result ≡ lesser (Some n) there
        → IfSome found (λ k. IsLeastOf (λ f. ready_by queues (class_at classes f)) (Some k))
        → IfSome result (λ k. IsLeastOf (λ f. ready_by after (class_at classes f)) (Some k))
    found_after_put room h e least =
        found_beside (waits_for_element_there q own) (unready_after_put room) element_ready classes found n is able there result h e least

    pub found_after_take : have_element queues q ≡ true → IsLeastOrAble (waits_for_room_there q own) classes there → result ≡ lesser (Some n) there
        → IfSome found (λ k. IsLeastOf (λ f. ready_by queues (class_at classes f)) (Some k))
        → IfSome result (λ k. IsLeastOf (λ f. ready_by after (class_at classes f)) (Some k))
    found_after_take element h e least =
        found_beside (waits_for_room_there q own) (unready_after_take element) room_ready classes found n is able there result h e least
