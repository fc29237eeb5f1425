-- What others read off a trace they read off the events that they can see.
use Rattle.std.proofs.Common.{◌≡◌, ℕ, All, Bool, true, false, ◌||◌, Option, Some, None, List, [], ◌∷◌, length, refl, sym, ◌∙◌, ap}
use Rattle.std.specs.Prelude.{filter_map}
use Rattle.std.specs.List.{filter, list_any}
use Rattle.std.proofs.lemmas.List.Elements.{All-nil, All-cons, All-head, All-tail}
use Rattle.fx_term.specs.declared.event.Event.{Event}
use Rattle.fx_term.specs.declared.event.Event.TheVariants as event
use Rattle.fx_term.specs.declared.queue_event.QueueEvent.{QueueEvent}
use Rattle.fx_term.specs.Queue.{queue_event, queue_events}
use Rattle.fx_model.specs.Row.{Label, Silent, Shows, Learns, Starts}
use Rattle.fx_model.specs.Run.{events}
use Rattle.fx_model.specs.Report.{outcome_shown, is_request_for}
use Rattle.fx_model.specs.LawfulReport.{starts_of, is_start_of}
use Rattle.fx_model.proofs.StepLabels.{IsProper}
use Rattle.fx_laws.specs.Others.{visible}
use Rattle.fx_look_laws.specs.LookAlike.{is_private, visible_events}

-- the events of visible labels, where what is learnt is no private event
seen_public : (e : Event) (es : List Event) → is_private e ≡ false → visible_events (e ∷ es) ≡ e ∷ visible_events es
seen_public e es h = rw h refl

seen_private : (e : Event) (es : List Event) → is_private e ≡ true → visible_events (e ∷ es) ≡ visible_events es
seen_private e es h = rw h refl

-- filters that let no private event through
module _ (p : Event → Bool) (none : (e : Event) → is_private e ≡ true → p e ≡ false) where
  filter_kept : (es : List Event) → filter p (visible_events es) ≡ filter p es
  filter_kept [] = refl
  filter_kept (e ∷ es) = by_test (is_private e) refl (filter_kept es)
    where
      by_test : (b : Bool) → is_private e ≡ b → filter p (visible_events es) ≡ filter p es → filter p (visible_events (e ∷ es)) ≡ filter p (e ∷ es)
      by_test true is same = let off = none e is in rw (seen_private e es is, off) same
      by_test false is same = rw (seen_public e es is) (by_event (p e) refl)
        where
          by_event : (b : Bool) → p e ≡ b → filter p (e ∷ visible_events es) ≡ filter p (e ∷ es)
          by_event true on = rw on (ap (λ (xs : List Event). e ∷ xs) same)
          by_event false off = rw off same

  any_kept : (es : List Event) → list_any p (visible_events es) ≡ list_any p es
  any_kept [] = refl
  any_kept (e ∷ es) = by_test (is_private e) refl (any_kept es)
    where
      by_test : (b : Bool) → is_private e ≡ b → list_any p (visible_events es) ≡ list_any p es → list_any p (visible_events (e ∷ es)) ≡ list_any p (e ∷ es)
      by_test true is same = let off = none e is in rw (seen_private e es is, off) same
      by_test false is same = rw (seen_public e es is) (ap (λ (b : Bool). p e || b) same)

module _ (g : Event → Option QueueEvent) (none : (e : Event) → is_private e ≡ true → g e ≡ None) where
  map_kept : (es : List Event) → filter_map g (visible_events es) ≡ filter_map g es
  map_kept [] = refl
  map_kept (e ∷ es) = by_test (is_private e) refl (map_kept es)
    where
      by_test : (b : Bool) → is_private e ≡ b → filter_map g (visible_events es) ≡ filter_map g es
          → filter_map g (visible_events (e ∷ es)) ≡ filter_map g (e ∷ es)
      by_test true is same = let off = none e is in rw (seen_private e es is, off) same
      by_test false is same = rw (seen_public e es is) (by_event (g e) refl)
        where
          by_event : (o : Option QueueEvent) → g e ≡ o → filter_map g (e ∷ visible_events es) ≡ filter_map g (e ∷ es)
          by_event (Some v) on = rw on (ap (λ (xs : List QueueEvent). v ∷ xs) same)
          by_event None off = rw off same

no_start : (f : ℕ) (e : Event) → is_private e ≡ true → is_start_of f e ≡ false
no_start f (event.Start g) h = absurd cc
no_start f _ h = refl

no_request : (f : ℕ) (e : Event) → is_private e ≡ true → is_request_for f e ≡ false
no_request f (event.Request g) h = absurd cc
no_request f _ h = refl

no_queue : (q f : ℕ) (e : Event) → is_private e ≡ true → queue_event q f e ≡ None
no_queue q f (event.Put r n) h = absurd cc
no_queue q f (event.Got r n) h = absurd cc
no_queue q f _ h = refl

pub same_starts : (f : ℕ) (es es' : List Event) → visible_events es ≡ visible_events es' → starts_of f es ≡ starts_of f es'
same_starts f es es' same =
    ap length (sym (filter_kept (is_start_of f) (no_start f) es) ∙ ap (λ (xs : List Event). filter (is_start_of f) xs) same
    ∙ filter_kept (is_start_of f) (no_start f) es')

pub same_requests : (f : ℕ) (es es' : List Event) → visible_events es ≡ visible_events es' → list_any (is_request_for f) es ≡ list_any (is_request_for f) es'
same_requests f es es' same =
    sym (any_kept (is_request_for f) (no_request f) es) ∙ ap (λ (xs : List Event). list_any (is_request_for f) xs) same
    ∙ any_kept (is_request_for f) (no_request f) es'

pub same_queues : (q f : ℕ) (es es' : List Event) → visible_events es ≡ visible_events es' → queue_events q f es ≡ queue_events q f es'
same_queues q f es es' same =
    sym (map_kept (queue_event q f) (no_queue q f) es) ∙ ap (λ (xs : List Event). filter_map (queue_event q f) xs) same
    ∙ map_kept (queue_event q f) (no_queue q f) es'

outcome_kept : (es : List Event) → outcome_shown (visible_events es) ≡ outcome_shown es
outcome_kept [] = refl
outcome_kept (event.Ended o ∷ es) = refl
outcome_kept (e ∷ es) = by_event e (outcome_kept es)
  where
    by_event : (e : Event) → outcome_shown (visible_events es) ≡ outcome_shown es → outcome_shown (visible_events (e ∷ es)) ≡ outcome_shown (e ∷ es)
    by_event (event.Ended o) same = refl
    by_event _ same = same

pub same_outcome : (es es' : List Event) → visible_events es ≡ visible_events es' → outcome_shown es ≡ outcome_shown es'
same_outcome es es' same = sym (outcome_kept es) ∙ ap outcome_shown same ∙ outcome_kept es'

pub visible_shown : (ls : List Label) → All IsProper ls → events (visible ls) ≡ visible_events (events ls)
visible_shown [] h = refl
visible_shown (l ∷ ls) h = by_label l (All-head IsProper l ls h) (visible_shown ls (All-tail IsProper l ls h))
  where
    by_label : (l : Label) → IsProper l → events (visible ls) ≡ visible_events (events ls) → events (visible (l ∷ ls)) ≡ visible_events (events (l ∷ ls))
    by_label Silent p same = same
    by_label (Starts f b) p same = ap (λ (es : List Event). event.Start f ∷ es) same
    by_label (Learns f o (event.Joined k w)) p same = ap (λ (es : List Event). event.Joined k w ∷ es) same
    by_label (Learns f o (event.Awaited k)) p same = ap (λ (es : List Event). event.Awaited k ∷ es) same
    by_label (Learns f o (event.First k)) p same = ap (λ (es : List Event). event.First k ∷ es) same
    by_label (Learns f o _) p same = absurd p
    by_label (Shows event.Seen) p same = same
    by_label (Shows event.SelfRequest) p same = same
    by_label (Shows event.Cancelled) p same = same
    by_label (Shows (event.Acquired k)) p same = same
    by_label (Shows (event.Begin k)) p same = same
    by_label (Shows (event.End k)) p same = same
    by_label (Shows e) p same = ap (λ (es : List Event). e ∷ es) same

-- what holds of labels holds of those that others can see, and the other way round where it holds of all others
module _ (P : Label → Type 0) where
  pub all_seen : (ls : List Label) → All P ls → All P (visible ls)
  all_seen [] h = All-nil P
  all_seen (l ∷ ls) h = by_label l (All-head P l ls h) (all_seen ls (All-tail P l ls h))
    where
      by_label : (l : Label) → P l → All P (visible ls) → All P (visible (l ∷ ls))
      by_label Silent p rest = rest
      by_label (Starts f b) p rest = All-cons P (Starts f b) (visible ls) p rest
      by_label (Learns f o e) p rest = All-cons P (Learns f o e) (visible ls) p rest
      by_label (Shows event.Seen) p rest = rest
      by_label (Shows event.SelfRequest) p rest = rest
      by_label (Shows event.Cancelled) p rest = rest
      by_label (Shows (event.Acquired k)) p rest = rest
      by_label (Shows (event.Begin k)) p rest = rest
      by_label (Shows (event.End k)) p rest = rest
      by_label (Shows e) p rest = All-cons P (Shows e) (visible ls) p rest

  pub all_unseen : P Silent → ((e : Event) → is_private e ≡ true → P (Shows e)) → (ls : List Label) → All P (visible ls) → All P ls
  all_unseen silent private [] h = All-nil P
  all_unseen silent private (l ∷ ls) h = by_label l h (λ k. all_unseen silent private ls k)
    where
      here : (l : Label) → P l → All P ls → All P (l ∷ ls)
      here l p rest = All-cons P l ls p rest

      both : (l : Label) → All P (l ∷ visible ls) → (All P (visible ls) → All P ls) → All P (l ∷ ls)
      both l k rest = here l (All-head P l (visible ls) k) (rest (All-tail P l (visible ls) k))

      by_label : (l : Label) → All P (visible (l ∷ ls)) → (All P (visible ls) → All P ls) → All P (l ∷ ls)
      by_label Silent k rest = here Silent silent (rest k)
      by_label (Starts f b) k rest = both (Starts f b) k rest
      by_label (Learns f o e) k rest = both (Learns f o e) k rest
      by_label (Shows event.Seen) k rest = here (Shows event.Seen) (private event.Seen refl) (rest k)
      by_label (Shows event.SelfRequest) k rest = here (Shows event.SelfRequest) (private event.SelfRequest refl) (rest k)
      by_label (Shows event.Cancelled) k rest = here (Shows event.Cancelled) (private event.Cancelled refl) (rest k)
      by_label (Shows (event.Acquired j)) k rest = here (Shows (event.Acquired j)) (private (event.Acquired j) refl) (rest k)
      by_label (Shows (event.Begin j)) k rest = here (Shows (event.Begin j)) (private (event.Begin j) refl) (rest k)
      by_label (Shows (event.End j)) k rest = here (Shows (event.End j)) (private (event.End j) refl) (rest k)
      by_label (Shows e) k rest = both (Shows e) k rest

-- some label sees a request
abbrev pub sees_request : List Label → Bool
sees_request [] = false
sees_request (Shows event.Seen ∷ ls) = true
sees_request (l ∷ ls) = sees_request ls
