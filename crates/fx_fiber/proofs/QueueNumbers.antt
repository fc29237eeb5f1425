-- What a run did to a queue, with numbers in place of values.
use Rattle.std.proofs.Common.{◌≡◌, ℕ, suc, Bool, true, false, Some, None, List, [], ◌∷◌, ◌++◌, map, refl, sym, ◌∙◌, ap, subst}
use Rattle.std.specs.Prelude.{◌==◌, if◌then◌else◌, slice_get}
use Rattle.std.specs.List.{cons_option}
use Rattle.std.proofs.lemmas.List.{map-append}
use Rattle.std.proofs.lemmas.List.Elements.{filter_map-append}
use Rattle.fx_term.specs.declared.node.Node.{Node}
use Rattle.fx_term.specs.declared.outcome.Outcome.{Outcome}
use Rattle.fx_term.specs.declared.event.Event.{Event}
use Rattle.fx_term.specs.declared.event.Event.TheVariants as event
use Rattle.fx_term.specs.declared.queue_event.QueueEvent.{QueueEvent}
use Rattle.fx_term.specs.declared.queue_event.QueueEvent.TheVariants as queue
use Rattle.fx_term.specs.Queue.{cut, fiber_of, queue_event, queue_events}
use Rattle.fx_model.specs.Row.{Label, Silent, Shows, Learns, Starts}
use Rattle.fx_model.specs.Run.{events}
use Rattle.fx_model.proofs.StepLabels.{IsProper}
use Rattle.fx_fiber.specs.Deed.{Deed, Started, Requested, Saw, Put, Got, FoundFull, FoundEmpty, FoundEnded, Ended, queue_deed, queue_deeds}
use Rattle.fx_model.specs.KeptStamps.{number_in}
use Rattle.fx_term.specs.Queue.{erase_event, AreAlike}
use Rattle.fx_model.specs.StampedQueue.{with_stamps, stamped}
use Rattle.fx_model.proofs.ErasedValues.{kept}
use Rattle.fx_fiber.specs.StampedDeed.{StampedDeed, deeds_of, number_of, with_number, queue_numbers, AreNumbered}
use Rattle.fx_fiber.specs.StampedRun.{Tells, AreStamped}

-- of one deed there is one with its number
pub record OneDeed (d : Deed) (ds : List StampedDeed) : Type 0 where
  pub one : StampedDeed
  pub is : ds ≡ one ∷ []
  pub deed : one.deed ≡ d

pub one_deed : (d : Deed) (ds : List StampedDeed) → deeds_of ds ≡ d ∷ [] → OneDeed d ds
one_deed d [] e = absurd cc
one_deed d (x ∷ []) e = record { one = x; is = refl; deed = (let same : x.deed ≡ d = cc in same) }
one_deed d (x ∷ y ∷ ds) e = absurd cc

none_deed : (ds : List StampedDeed) → deeds_of ds ≡ [] → ds ≡ []
none_deed [] e = refl
none_deed (x ∷ ds) e = absurd cc

module _ (q f own cause : ℕ) where
  -- one deed
  one_of : (d : Deed) (ds : List StampedDeed) → deeds_of ds ≡ d ∷ [] → AreNumbered own cause ds
      → queue_numbers q f ds ≡ queue_deeds q f (with_number d (number_of d own cause) ∷ [])
  one_of d ds e n =
      let o = one_deed d ds e in
      let h = subst (AreNumbered own cause) o.is n in
      ap (queue_numbers q f) o.is ∙ ap (λ (x : Deed). queue_deeds q f (x ∷ [])) (same o.one.deed o.one.number o.deed h.0.is)
    where
      same : (x : Deed) (t : ℕ) → x ≡ d → t ≡ number_of x own cause → with_number x t ≡ with_number d (number_of d own cause)
      same x t p r = ap (with_number x) r ∙ ap (λ (y : Deed). with_number y (number_of y own cause)) p

  none_of : (ds : List StampedDeed) → deeds_of ds ≡ [] → queue_numbers q f ds ≡ []
  none_of ds e = ap (queue_numbers q f) (none_deed ds e)

  module _ (nodes : List Node) where
    shows_so : (e : Event) (ds : List StampedDeed) → IsProper (Shows e) → Tells nodes (Shows e) own cause ds
        → queue_numbers q f ds ≡ queue_events q f (with_stamps e own cause ∷ [])
    shows_so (event.Request g) ds p h = one_of (Requested g) ds h.are_deeds h.are_numbered
    shows_so (event.Put r n) ds p h = one_of (Put r n) ds h.are_deeds h.are_numbered
    shows_so (event.Got r n) ds p h = one_of (Got r n) ds h.are_deeds h.are_numbered
    shows_so (event.Refused r) ds p h = one_of (FoundFull r) ds h.are_deeds h.are_numbered
    shows_so (event.Empty r) ds p h = one_of (FoundEmpty r) ds h.are_deeds h.are_numbered
    shows_so event.Seen ds p h = one_of Saw ds h.are_deeds h.are_numbered
    shows_so (event.Ended o) ds p h = one_of (Ended o) ds h.are_deeds h.are_numbered
    shows_so (event.Start g) ds p h = absurd p
    shows_so (event.Awaited g) ds p h = absurd p
    shows_so (event.Joined g o) ds p h = absurd p
    shows_so (event.First n) ds p h = absurd p
    shows_so _ ds p h = none_of ds h.are_deeds

    learns_so : (g : ℕ) (o : Outcome) (e : Event) (ds : List StampedDeed) → IsProper (Learns g o e) → Tells nodes (Learns g o e) own cause ds
        → queue_numbers q f ds ≡ queue_events q f (with_stamps e own cause ∷ [])
    learns_so g o (event.Joined k v) ds p h = one_of (FoundEnded g o) ds h.are_deeds h.are_numbered
    learns_so g o (event.Awaited k) ds p h = one_of (FoundEnded g o) ds h.are_deeds h.are_numbered
    learns_so g o (event.First k) ds p h = one_of (FoundEnded g o) ds h.are_deeds h.are_numbered
    learns_so g o _ ds p h = absurd p

    -- what one label tells
    label_so : (l : Label) (e : Event) (ds : List StampedDeed) → IsProper l → events (l ∷ []) ≡ e ∷ [] → Tells nodes l own cause ds
        → queue_numbers q f ds ≡ queue_events q f (with_stamps e own cause ∷ [])
    label_so Silent e ds p is h = absurd cc
    label_so (Shows v) e ds p is h =
        shows_so v ds p h ∙ ap (λ (w : Event). queue_events q f (with_stamps w own cause ∷ [])) (let same : v ≡ e = cc in same)
    label_so (Learns g o v) e ds p is h =
        learns_so g o v ds p h ∙ ap (λ (w : Event). queue_events q f (with_stamps w own cause ∷ [])) (let same : v ≡ e = cc in same)
    label_so (Starts g b) e ds p is h =
        let a = h.are_deeds in
        one_of (Started g a.0) ds a.2 h.are_numbered
        ∙ ap (λ (w : Event). queue_events q f (with_stamps w own cause ∷ [])) (let same : event.Start g ≡ e = cc in same)

events_more : (l : Label) (e : Event) (ls : List Label) → events (l ∷ []) ≡ e ∷ [] → events (l ∷ ls) ≡ e ∷ events ls
events_more Silent e ls is = absurd cc
events_more (Shows v) e ls is = cc
events_more (Learns g o v) e ls is = cc
events_more (Starts g b) e ls is = cc

module _ (nodes : List Node) (q f : ℕ) where
  -- what a run did to a queue, with numbers in place of values, is what its trace does there with stamps in place of values
  pub numbers_told : (before : ℕ) (ls : List Label) (ss cs : List ℕ) (ds : List StampedDeed)
      → ((i : ℕ) (l : Label) → slice_get ls i ≡ Some l → IsProper l) → AreStamped nodes before ls ss cs ds
      → queue_numbers q f ds ≡ queue_events q f (stamped (number_in ss) (number_in cs) (events ls))
  numbers_told before [] [] [] ds p h = ap (queue_numbers q f) h
  numbers_told before (l ∷ ls) (s ∷ ss) (c ∷ cs) ds p (own, rest, here, told, later, e) =
      ap (queue_numbers q f) e
      ∙ ap (queue_deeds q f) (map-append (λ (d : StampedDeed). with_number d.deed d.number) own rest)
      ∙ filter_map-append (queue_deed q f) (map (λ (d : StampedDeed). with_number d.deed d.number) own)
      (map (λ (d : StampedDeed). with_number d.deed d.number) rest)
      ∙ both (label_so q f s c nodes l here.event own (p 0 l refl) here.shows told)
      (numbers_told s ls ss cs rest (λ i m at. p (suc i) m at) later)
      ∙ sym (filter_map-append (queue_event q f) (with_stamps here.event s c ∷ []) (stamped (number_in ss) (number_in cs) (events ls)))
      ∙ ap (λ (es : List Event). queue_events q f (stamped (number_in (s ∷ ss)) (number_in (c ∷ cs)) es)) (sym (events_more l here.event ls here.shows))
    where
      both : {a b x y : List QueueEvent} → a ≡ x → b ≡ y → a ++ b ≡ x ++ y
      both u v = cc
  numbers_told before [] (s ∷ ss) cs ds p h = absurd h
  numbers_told before [] [] (c ∷ cs) ds p h = absurd h
  numbers_told before (l ∷ ls) [] cs ds p h = absurd h
  numbers_told before (l ∷ ls) (s ∷ ss) [] ds p h = absurd h

-- a trace that does nothing to a queue does nothing to it with stamps either
pub nothing_there : (q f : ℕ) (stamp cause : ℕ → ℕ) (es : List Event) → queue_events q f es ≡ [] → queue_events q f (stamped stamp cause es) ≡ []
nothing_there q f stamp cause [] e = refl
nothing_there q f stamp cause (event.Put r n ∷ es) e = by_test (r == q) e (nothing_there q f (λ i. stamp (suc i)) (λ i. cause (suc i)) es)
  where
    by_test : (b : Bool) → cons_option (if b then Some (queue.Put f n) else None) (queue_events q f es) ≡ []
        → (queue_events q f es ≡ [] → queue_events q f (stamped (λ i. stamp (suc i)) (λ i. cause (suc i)) es) ≡ [])
        → cons_option (if b then Some (queue.Put f (stamp 0)) else None) (queue_events q f (stamped (λ i. stamp (suc i)) (λ i. cause (suc i)) es)) ≡ []
    by_test true e rest = absurd cc
    by_test false e rest = rest e
nothing_there q f stamp cause (event.Got r n ∷ es) e = by_test (r == q) e (nothing_there q f (λ i. stamp (suc i)) (λ i. cause (suc i)) es)
  where
    by_test : (b : Bool) → cons_option (if b then Some (queue.Got f n) else None) (queue_events q f es) ≡ []
        → (queue_events q f es ≡ [] → queue_events q f (stamped (λ i. stamp (suc i)) (λ i. cause (suc i)) es) ≡ [])
        → cons_option (if b then Some (queue.Got f (cause 0)) else None) (queue_events q f (stamped (λ i. stamp (suc i)) (λ i. cause (suc i)) es)) ≡ []
    by_test true e rest = absurd cc
    by_test false e rest = rest e
nothing_there q f stamp cause (_ ∷ es) e = nothing_there q f (λ i. stamp (suc i)) (λ i. cause (suc i)) es e

-- a fiber that did nothing in a history did nothing in one that is alike
pub cut_alike : (f : ℕ) (h k : List QueueEvent) → AreAlike h k → cut f h ≡ [] → cut f k ≡ []
cut_alike f h k same none =
    emptied (cut f k)
    (sym (kept erase_event (λ (e : QueueEvent). fiber_of e == f) (by_event f) k)
    ∙ ap (cut f) (sym same) ∙ kept erase_event (λ (e : QueueEvent). fiber_of e == f) (by_event f) h ∙ ap (map erase_event) none)
  where
    by_event : (f : ℕ) (e : QueueEvent) → (fiber_of (erase_event e) == f) ≡ (fiber_of e == f)
    by_event f (queue.Put g n) = refl
    by_event f (queue.Got g n) = refl

    emptied : (xs : List QueueEvent) → map erase_event xs ≡ [] → xs ≡ []
    emptied [] e = refl
    emptied (x ∷ xs) e = absurd cc
