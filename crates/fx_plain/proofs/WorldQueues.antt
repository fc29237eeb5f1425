-- The queues of a world are those of the whole machine for which it stands.
use Rattle.std.proofs.Common.{◌≡◌, ℕ, ◌+◌, ◌<◌, true, false, Some, List, [], ◌∷◌, ◌++◌, length, map, drop, refl, sym, ◌∙◌, ap}
use Rattle.std.proofs.Common.{get_or-set_same, get_or-set_other, inl, inr}
use Rattle.std.specs.Prelude.{nat_lt, slice_index, slice_set}
use Rattle.std.proofs.lemmas.List.{length-map, map-append}
use Rattle.std.proofs.Math.ListN.{get_or-map}
use Rattle.std.proofs.Math.Seq.{map-set_same}
use Rattle.std.proofs.lemmas.Bool.{cases_eq, cases_lt}
use Rattle.std.proofs.lemmas.Option.{none-some}
use Rattle.std.proofs.lemmas.List.{get_or_past, length-append}
use Rattle.std.proofs.lemmas.List.Elements.{filter_map-append}
use Rattle.fx_term.specs.declared.event.Event.{Event}
use Rattle.fx_term.specs.declared.event.Event.TheVariants as event
use Rattle.fx_term.specs.declared.item.Item.{Item}
use Rattle.fx_term.specs.Element.{Element, element_of, elements_of}
use Rattle.fx_term.specs.Queue.{value_put, values_put}
use Rattle.fx_term.specs.Script.{ScriptView}
use Rattle.fx_model.specs.Row.{Label, Shows, Starts}
use Rattle.fx_model.specs.Run.{events}
use Rattle.fx_model.proofs.Runs.{events_append}
use Rattle.fx_plain.specs.PlainQueue.{QueueView, empty_queue, no_queue, queue_at, have_room, have_element, with_item, without_front}
use Rattle.fx_term.specs.Maps.{with_at}
use Rattle.fx_plain.specs.WholeMachine.{WholeMachine, has_room, front, IsAnswered, next_item, queues_after}
use Rattle.fx_plain.specs.World.{WorldView, stamped_item, world_after}
use Rattle.fx_term.proofs.MapLaws.{at_that, at_other}

-- what is told of the elements of queues, where one of these is changed
pub changed : {A : Type 0} (tell : List Item → List A) (queues : List QueueView) (told : ℕ → List A) → ((q : ℕ) → tell (queue_at queues q).items ≡ told q)
    → (k : ℕ) → k < length queues → (new : QueueView) (xs : List A) → tell new.items ≡ xs → (r : ℕ)
    → tell (queue_at (slice_set queues k new) r).items ≡ with_at k xs told r
changed tell queues told is_told k lt new xs is r = elim (cases_eq r k) [
  | inl same ↦
      ap (λ (i : ℕ). tell (queue_at (slice_set queues k new) i).items) same
      ∙ ap (λ (q : QueueView). tell q.items) (get_or-set_same queues k new no_queue lt) ∙ is ∙ sym (at_that k xs told r same)
  | inr apart ↦ ap (λ (q : QueueView). tell q.items) (get_or-set_other queues k r new no_queue apart) ∙ is_told r ∙ sym (at_other k xs told r apart)
]

-- of all but the front
pub told_without_front : {A : Type 0} (tell : Item → A) (xs : List Item) → map tell (drop 1 xs) ≡ drop 1 (map tell xs)
told_without_front tell [] = refl
told_without_front tell (x ∷ xs) = refl

module _ (s : ScriptView) (m : WholeMachine) (queues : List QueueView) (capacities : map (λ (q : QueueView). q.capacity) queues ≡ s.capacities)
    (items : (q : ℕ) → elements_of (queue_at queues q).items ≡ m.queues q) where
  abbrev capacity : QueueView → ℕ
  capacity q = q.capacity

  capacity_is : (q : ℕ) → (queue_at queues q).capacity ≡ slice_index s.capacities q
  capacity_is q = sym (get_or-map capacity queues q no_queue) ∙ ap (λ (cs : List ℕ). slice_index cs q) capacities

  many : (q : ℕ) → length (queue_at queues q).items ≡ length (m.queues q)
  many q = sym (length-map (queue_at queues q).items element_of) ∙ ap length (items q)

  -- the tests of the world are those of the whole machine
  pub room_is : (q : ℕ) → have_room queues q ≡ has_room s m q
  room_is q = rw (capacity_is q, many q) refl

  pub element_is : (q : ℕ) → have_element queues q ≡ nat_lt 0 (length (m.queues q))
  element_is q = ap (nat_lt 0) (many q)

  -- a queue past these has neither room nor a front
  pub room_within : (q : ℕ) → has_room s m q ≡ true → q < length queues
  room_within q e = elim (cases_lt q (length queues)) [
    | inl lt ↦ lt
    | inr past ↦ absurd
        (let none : have_room queues q ≡ false = ap (λ (r : QueueView). nat_lt (length r.items) r.capacity) (get_or_past queues q no_queue past) in
        let both : true ≡ false = sym e ∙ sym (room_is q) ∙ none in cc)
  ]

  pub front_within : (q n : ℕ) → front (m.queues q) ≡ Some n → q < length queues
  front_within q n e = elim (cases_lt q (length queues)) [
    | inl lt ↦ lt
    | inr past ↦ absurd (none-some n (sym (ap front (sym (items q) ∙ ap (λ (r : QueueView). elements_of r.items) (get_or_past queues q no_queue past))) ∙ e))
  ]

  -- after a step with this label of fiber f, whose event has that stamp, and which comes after steps with those labels
  module _ (w : WorldView) (same : w.queues ≡ queues) (f : ℕ) (ls : List Label) (stamp : ℕ) where
    pub items_after : (l : Label) → IsAnswered s m f l → (r : ℕ)
        → elements_of (queue_at (world_after f ls stamp l w).queues r).items ≡ queues_after f ls l m.queues r
    items_after (Shows (event.Put k n)) a r =
        let x = stamped_item (next_item f ls k n) stamp in
        rw same (changed elements_of queues m.queues items k (room_within k a) (with_item x (queue_at queues k)) (m.queues k ++ next_item f ls k n ∷ [])
        (map-append element_of (queue_at queues k).items (x ∷ []) ∙ ap (λ (xs : List Element). xs ++ next_item f ls k n ∷ []) (items k)) r)
    items_after (Shows (event.Got k n)) a r =
        rw same (changed elements_of queues m.queues items k (front_within k n a) (without_front (queue_at queues k)) (drop 1 (m.queues k))
        (told_without_front element_of (queue_at queues k).items ∙ ap (drop 1) (items k)) r)
    items_after (Starts g b) a r = rw same (items r)
    items_after (Shows (event.Request g)) a r = rw same (items r)
    items_after (Shows (event.Ended o)) a r = rw same (items r)
    items_after _ a r = rw same (items r)

    pub capacities_after : (l : Label) → map capacity (world_after f ls stamp l w).queues ≡ s.capacities
    capacities_after (Shows (event.Put k n)) =
        rw same (map-set_same capacity queues k (with_item (stamped_item (next_item f ls k n) stamp) (queue_at queues k)) no_queue refl ∙ capacities)
    capacities_after (Shows (event.Got k n)) = rw same (map-set_same capacity queues k (without_front (queue_at queues k)) no_queue refl ∙ capacities)
    capacities_after (Starts g b) = rw same capacities
    capacities_after (Shows (event.Request g)) = rw same capacities
    capacities_after (Shows (event.Ended o)) = rw same capacities
    capacities_after _ = rw same capacities

-- before any step
pub opening_capacities : (capacities : List ℕ) → map (λ (q : QueueView). q.capacity) (map empty_queue capacities) ≡ capacities
opening_capacities [] = refl
opening_capacities (c ∷ cs) = ap (λ (ds : List ℕ). c ∷ ds) (opening_capacities cs)

pub opening_items : (capacities : List ℕ) (q : ℕ) → (queue_at (map empty_queue capacities) q).items ≡ []
opening_items capacities q = ap (λ (r : QueueView). r.items) (get_or-map empty_queue capacities q 0)

-- how many elements a trace puts into a queue with one more step
pub puts_counted : (q : ℕ) (ls : List Label) (l : Label)
    → length (values_put q (events (ls ++ l ∷ []))) ≡ length (values_put q (events ls)) + length (values_put q (events (l ∷ [])))
puts_counted q ls l =
    ap (λ (es : List Event). length (values_put q es)) (events_append ls (l ∷ []))
    ∙ ap length (filter_map-append (value_put q) (events ls) (events (l ∷ []))) ∙ length-append (values_put q (events ls)) (values_put q (events (l ∷ [])))
