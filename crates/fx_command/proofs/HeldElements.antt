-- The puts that a queue is told to hold are those of the elements that it holds by its history, one after the other.
use Rattle.std.proofs.Common.{◌≡◌, ℕ, ◌<◌, Option, Some, None, List, [], ◌∷◌, ◌++◌, length, drop, refl, sym, ◌∙◌, ap, subst}
use Rattle.std.proofs.Common.{append_assoc, append-nil, arith, inl, inr}
use Rattle.std.specs.Prelude.{slice_get, take, slice_index_or}
use Rattle.std.proofs.lemmas.Bool.{cases_eq, eq-eqb, ne_eqb}
use Rattle.std.proofs.lemmas.Option.{same_Some}
use Rattle.std.proofs.Math.Seq.{take-append_seam}
use Rattle.fx_term.specs.declared.event.Event.{Event}
use Rattle.fx_term.specs.declared.event.Event.TheVariants as event
use Rattle.fx_term.specs.declared.queue_event.QueueEvent.TheVariants.{Put, Got}
use Rattle.fx_term.specs.Element.{Element}
use Rattle.fx_term.specs.Queue.{QueueState, empty_queue, next_item, replayed_from, replayed, queue_events, values_put}
use Rattle.fx_term.proofs.QueueLaws.{put_is, get_parts, elements_are_offers, length-numbered}
use Rattle.fx_model.proofs.Appended.{still_at, at_seam}
use Rattle.fx_plain.specs.declared.told.MadeStep.{MadeStep}
use Rattle.fx_plain.specs.declared.told.Told.{Told}
use Rattle.fx_plain.specs.declared.told.Told.TheVariants.{Step, Request, Passed}
use Rattle.fx_plain.specs.ToldRun.{one_shown, events_told}
use Rattle.fx_plain.specs.ToldQueues.{queue_told}
use Rattle.fx_plain.proofs.ToldQueues.{cut_told, IsBetween, between}
use Rattle.fx_plain.proofs.ToldRuns.{events_told-append}
use Rattle.fx_picture.specs.declared.stood.EventAt.{EventAt}
use Rattle.fx_command.specs.SoFar.{SoFarView, nothing_shown, next_of, held_in, front_of}
use Rattle.fx_command.specs.StoodEvents.{shown_when, shown_after}
use Rattle.fx_command.specs.TakesInOrder.{shown_by_all}
use Rattle.fx_command.proofs.HeldPuts.{set_here, set_there, within_all, as_many, none_held}

-- of fibers with these traces, this event put the element into queue q
pub record PutsElement (trace : ℕ → List Event) (q : ℕ) (x : EventAt) (item : Element) : Type 0 where
  pub fiber : item.fiber ≡ x.fiber
  pub put : slice_get (trace x.fiber) x.place ≡ Some (event.Put q item.value)
  pub nth : length (values_put q (take x.place (trace x.fiber))) ≡ item.nth

module _ (trace : ℕ → List Event) (q : ℕ) where
  -- each of these events put the element at its place
  abbrev pub PutElements : List EventAt → List Element → Type 0
  PutElements [] [] = Unit {0}
  PutElements (x ∷ held) (item ∷ items) = PutsElement trace q x item × PutElements held items
  PutElements _ _ = ⊥

  put_behind : (held : List EventAt) (items : List Element) (x : EventAt) (item : Element) → PutElements held items → PutsElement trace q x item
      → PutElements (held ++ x ∷ []) (items ++ item ∷ [])
  put_behind [] [] x item are put = (put, tt)
  put_behind (y ∷ held) (first ∷ items) x item are put = (are.0, put_behind held items x item are.1 put)
  put_behind [] (first ∷ items) x item are put = absurd are
  put_behind (y ∷ held) [] x item are put = absurd are

  put_front : (held : List EventAt) (item : Element) (items : List Element) → PutElements held (item ∷ items) → PutElements (drop 1 held) items
  put_front [] item items are = absurd are
  put_front (x ∷ held) item items are = are.1

-- the put of the front
pub record PutsFront (trace : ℕ → List Event) (q : ℕ) (held : List EventAt) (item : Element) : Type 0 where
  pub at : EventAt
  pub is : front_of held ≡ Some at
  pub puts : PutsElement trace q at item

pub put_first : (trace : ℕ → List Event) (q : ℕ) (held : List EventAt) (item : Element) (items : List Element) → PutElements trace q held (item ∷ items)
    → PutsFront trace q held item
put_first trace q [] item items are = absurd are
put_first trace q (x ∷ held) item items are = record { at = x; is = refl; puts = are.0 }

-- after an event of fiber f, where a put into the queue puts the next element of the fiber there
module _ (trace : ℕ → List Event) (capacity q : ℕ) (s : SoFarView) (f : ℕ) (state after : QueueState) (within : q < length s.queues)
    (held : PutElements trace q (held_in s.queues q) state.items) where
  abbrev HoldsAfter : Option Event → Type 0
  HoldsAfter e =
      ((v : ℕ) → e ≡ Some (event.Put q v) → PutsElement trace q (next_of s f) (next_item state f v))
      → replayed_from capacity (Some state) (queue_events q f (one_shown e)) ≡ Some after
      → PutElements trace q (held_in (shown_when s f e).queues q) after.items

  same_items : (xs : List EventAt) → xs ≡ held_in s.queues q → Some state ≡ Some after → PutElements trace q xs after.items
  same_items xs is same = rw is (subst (λ (st : QueueState). PutElements trace q (held_in s.queues q) st.items) (same_Some state after same) held)

  put_here : (v : ℕ) → PutsElement trace q (next_of s f) (next_item state f v) → replayed_from capacity (Some state) (Put f v ∷ []) ≡ Some after
      → PutElements trace q (held_in (shown_when s f (Some (event.Put q v))).queues q) after.items
  put_here v next legal =
      rw (set_here s.queues q (held_in s.queues q ++ next_of s f ∷ []) within)
      (subst (λ (st : QueueState). PutElements trace q (held_in s.queues q ++ next_of s f ∷ []) st.items) (put_is capacity state f v after legal)
      (put_behind trace q (held_in s.queues q) state.items (next_of s f) (next_item state f v) held next))

  got_here : (v : ℕ) → replayed_from capacity (Some state) (Got f v ∷ []) ≡ Some after
      → PutElements trace q (held_in (shown_when s f (Some (event.Got q v))).queues q) after.items
  got_here v legal =
      let got = get_parts state f v state.items after legal in
      rw (set_here s.queues q (drop 1 (held_in s.queues q)) within)
      (subst (λ (st : QueueState). PutElements trace q (drop 1 (held_in s.queues q)) st.items) got.after
      (put_front trace q (held_in s.queues q) got.front got.rest (subst (PutElements trace q (held_in s.queues q)) got.items held)))

  by_event : (e : Event) → HoldsAfter (Some e)
  by_event (event.Put p v) next legal = elim (cases_eq p q) [
    | inl same ↦ rw same (put_here v (next v (ap (λ (k : ℕ). Some (event.Put k v)) same)) (rw (same, eq-eqb q q refl) at legal))
    | inr other ↦ same_items _ (set_there s.queues p q (held_in s.queues p ++ next_of s f ∷ []) other) (rw (ne_eqb p q other) at legal)
  ]
  by_event (event.Got p v) next legal = elim (cases_eq p q) [
    | inl same ↦ rw same (got_here v (rw (same, eq-eqb q q refl) at legal))
    | inr other ↦ same_items _ (set_there s.queues p q (drop 1 (held_in s.queues p)) other) (rw (ne_eqb p q other) at legal)
  ]
  by_event _ next legal = same_items _ refl legal

  holds_after : (e : Option Event) → HoldsAfter e
  holds_after None next legal = same_items _ refl legal
  holds_after (Some e) next legal = by_event e next legal

pub in_middle : (xs : List Event) (x : Event) (ys : List Event) → slice_get (xs ++ x ∷ ys) (length xs) ≡ Some x
in_middle xs x ys =
    ap (λ (l : List Event). slice_get l (length xs)) (sym (append_assoc xs (x ∷ []) ys)) ∙ still_at (xs ++ x ∷ []) ys (length xs) x (at_seam xs x)

-- an event of a trace, after these
put_after : (trace : ℕ → List Event) (q f place : ℕ) (before more : List Event) (item : Element) → item.fiber ≡ f → place ≡ length before
    → trace f ≡ before ++ event.Put q item.value ∷ more → length (values_put q before) ≡ item.nth
    → PutsElement trace q (record { fiber = f; place = place }) item
put_after trace q f place before more item own at is nth = record {
  fiber = own;
  put = rw (is, at) (in_middle before (event.Put q item.value) more);
  nth = rw (is, at) (ap (λ (es : List Event). length (values_put q es)) (take-append_seam before (event.Put q item.value ∷ more)) ∙ nth);
}

-- the last one of what was shown
shown_last : (s : SoFarView) (before : List Told) (t : Told) → shown_by_all s (before ++ t ∷ []) ≡ shown_after (shown_by_all s before) t
shown_last s [] t = refl
shown_last s (u ∷ before) t = shown_last (shown_after s u) before t

-- of what is told of a run, where it is counted how many events each fiber has shown
module _ (capacity q fibers queues : ℕ) (below : q < queues) (told : List Told)
    (counts : (before after : List Told) → told ≡ before ++ after → (g : ℕ)
    → slice_index_or (shown_by_all (nothing_shown fibers queues) before).shown g 0 ≡ length (events_told g before)) where
  abbrev shown_so : List Told → SoFarView
  shown_so before = shown_by_all (nothing_shown fibers queues) before

  abbrev trace : ℕ → List Event
  trace g = events_told g told

  next_puts : (before after : List Told) (made : MadeStep) (v : ℕ) (state : QueueState) → told ≡ before ++ Step made ∷ after
      → made.event ≡ Some (event.Put q v) → replayed capacity (queue_told q before) ≡ Some state
      → PutsElement trace q (next_of (shown_so before) made.fiber) (next_item state made.fiber v)
  next_puts before after made v state is shows legal =
      let f = made.fiber in
      let so_far = events_told f before in
      let trace_is : trace f ≡ so_far ++ event.Put q v ∷ events_told f after =
      ap (events_told f) is ∙ events_told-append f before (Step made ∷ after)
      ∙ ap (λ (es : List Event). so_far ++ es) (rw (eq-eqb f f refl, shows) refl) in
      let many : length (values_put q so_far) ≡ (next_item state f v).nth =
      sym (ap length (elements_are_offers capacity q f (queue_told q before) state so_far legal (cut_told q f before))
      ∙ length-numbered f 0 (values_put q so_far)) in
      put_after trace q f (next_of (shown_so before) f).place so_far (events_told f after) (next_item state f v) refl (counts before (Step made ∷ after) is f)
      trace_is many

  abbrev Holds : List Told → List Told → Type 0
  Holds before after =
      told ≡ before ++ after → (state : QueueState) → replayed capacity (queue_told q before) ≡ Some state
      → PutElements trace q (held_in (shown_so before).queues q) state.items

  none : (after : List Told) → Holds [] after
  none after is state legal = rw (none_held queues q) (subst (λ (st : QueueState). PutElements trace q [] st.items) (same_Some empty_queue state legal) tt)

  one_more : (before : List Told) (t : Told) (after : List Told) → Holds before (t ∷ after) → Holds (before ++ t ∷ []) after
  one_more before t after holds is state legal =
      rw (shown_last (nothing_shown fibers queues) before t)
      (by_told t after (is ∙ append_assoc before (t ∷ []) after) (between capacity q before (t ∷ []) state legal) holds)
    where
      within : q < length (shown_so before).queues
      within = within_all q (nothing_shown fibers queues) before (let many = as_many queues in omega arith)

      the_same : (st : QueueState) → Some st ≡ Some state → PutElements trace q (held_in (shown_so before).queues q) st.items
          → PutElements trace q (held_in (shown_so before).queues q) state.items
      the_same st same are = subst (λ (x : QueueState). PutElements trace q (held_in (shown_so before).queues q) x.items) (same_Some st state same) are

      by_told : (t : Told) (after : List Told) → told ≡ before ++ t ∷ after → IsBetween capacity q before (t ∷ []) state → Holds before (t ∷ after)
          → PutElements trace q (held_in (shown_after (shown_so before) t).queues q) state.items
      by_told (Step made) after is b holds =
          holds_after trace capacity q (shown_so before) made.fiber b.state state within (holds is b.state b.legal) made.event
          (λ v shows. next_puts before after made v b.state is shows b.legal)
          (rw append-nil at b.goes_on)
      by_told (Request f) after is b holds = the_same b.state b.goes_on (holds is b.state b.legal)
      by_told (Passed x) after is b holds = the_same b.state b.goes_on (holds is b.state b.legal)

  go_on : (done rest after : List Told) → Holds done (rest ++ after) → Holds (done ++ rest) after
  go_on done [] after holds = subst (λ (ts : List Told). Holds ts after) (sym (append-nil done)) holds
  go_on done (t ∷ rest) after holds =
      subst (λ (ts : List Told). Holds ts after) (append_assoc done (t ∷ []) rest)
      (go_on (done ++ t ∷ []) rest after (one_more done t (rest ++ after) holds))

  -- after what is told first
  pub held_elements : (before after : List Told) → Holds before after
  held_elements before after = go_on [] before after (none (before ++ after))
