-- One order of all events goes on when a fiber shows one event more.
use Rattle.std.proofs.Common.{◌≡◌, ℕ, ◌+◌, ◌<◌, ◌≤◌, Some, List, [], ◌∷◌, ◌++◌, length, refl, sym, append-nil, ◌∙◌, ap, subst, arith, ◌⊎◌, inl, inr}
use Rattle.std.specs.Prelude.{map, slice_get, take}
use Rattle.std.proofs.lemmas.Bool.{cases_eq, eq-eqb, ne_eqb}
use Rattle.std.proofs.lemmas.Option.{slice_get_within}
use Rattle.std.proofs.lemmas.List.{length-append, length-map, take-append-le}
use Rattle.std.proofs.lemmas.List.Elements.{filter_map-append}
use Rattle.std.specs.List.{cons_option}
use Rattle.fx_term.specs.declared.event.Event.{Event}
use Rattle.fx_term.specs.declared.event.Event.TheVariants as event
use Rattle.fx_term.specs.declared.queue_event.QueueEvent.{QueueEvent}
use Rattle.fx_term.specs.Queue.{QueueState, queue_event, queue_events}
use Rattle.fx_model.specs.Row.{Label}
use Rattle.fx_model.specs.Causes.{Needs, taken_element, end_of_other, start, IsRequestedBefore, IsOneOrder}
use Rattle.fx_model.specs.Happenings.{Happening, event_of, events_of, history_of, IsListed}
use Rattle.fx_model.proofs.Appended.{still_at, at_seam, stood_or_new}

-- lists by number, of which that of f has grown, by one element at most
pub record GrowsAt {A : Type 0} (before after : ℕ → List A) (f : ℕ) (more : List A) : Type 0 where
  pub few : length more ≤ 1
  pub own : after f ≡ before f ++ more
  pub other : (g : ℕ) → (g ≡ f → ⊥) → after g ≡ before g

-- an element stood there before, or is the one that came
pub data Stands {A : Type 0} (before : ℕ → List A) (f : ℕ) (more : List A) (g i : ℕ) (x : A) : Type 0 where
  stood : slice_get (before g) i ≡ Some x → Stands before f more g i x
  comes : g ≡ f → i ≡ length (before f) → more ≡ x ∷ [] → Stands before f more g i x

-- where there was a place already, the element stood there
pub stood_within : {A : Type 0} (before : ℕ → List A) (f : ℕ) (more : List A) (g i : ℕ) (x : A) → i < length (before g) → Stands before f more g i x
    → slice_get (before g) i ≡ Some x
stood_within before f more g i x lt (stood at) = at
stood_within before f more g i x lt (comes same place is) =
    absurd (let here : length (before g) ≡ length (before f) = ap (λ (k : ℕ). length (before k)) same in omega arith)

module _ {A : Type 0} (before after : ℕ → List A) (f : ℕ) (more : List A) (grows : GrowsAt before after f more) where
  pub stands : (g i : ℕ) (x : A) → slice_get (after g) i ≡ Some x → Stands before f more g i x
  stands g i x e = elim (cases_eq g f) [
    | inl same ↦ elim (stood_or_new (before f) more i x grows.few
        (sym (ap (λ (xs : List A). slice_get xs i) grows.own) ∙ ap (λ (k : ℕ). slice_get (after k) i) (sym same) ∙ e)) [
          | inl old ↦ stood (ap (λ (k : ℕ). slice_get (before k) i) same ∙ old)
          | inr new ↦ comes same new.0 new.1
        ]
    | inr ne ↦ stood (sym (ap (λ (xs : List A). slice_get xs i) (grows.other g ne)) ∙ e)
  ]

  pub still_stands : (g i : ℕ) (x : A) → slice_get (before g) i ≡ Some x → slice_get (after g) i ≡ Some x
  still_stands g i x e = elim (cases_eq g f) [
    | inl same ↦
        ap (λ (k : ℕ). slice_get (after k) i) same ∙ ap (λ (xs : List A). slice_get xs i) grows.own
        ∙ still_at (before f) more i x (ap (λ (k : ℕ). slice_get (before k) i) (sym same) ∙ e)
    | inr ne ↦ ap (λ (xs : List A). slice_get xs i) (grows.other g ne) ∙ e
  ]

  -- what comes before a place stays
  pub take_stays : (g i : ℕ) → i ≤ length (before g) → take i (after g) ≡ take i (before g)
  take_stays g i le = elim (cases_eq g f) [
    | inl same ↦
        (let here : i ≤ length (before f) = subst (λ (k : ℕ). i ≤ length (before k)) same le in
        ap (λ (k : ℕ). take i (after k)) same ∙ ap (take i) grows.own ∙ take-append-le i (before f) more here
        ∙ ap (λ (k : ℕ). take i (before k)) (sym same))
    | inr ne ↦ ap (take i) (grows.other g ne)
  ]

  -- a place is one of those from before, or the one that came
  pub old_or_new : (g i : ℕ) → i < length (after g) → (i < length (before g)) ⊎ ((g ≡ f) × (i ≡ length (before f)))
  old_or_new g i lt = elim (cases_eq g f) [
    | inl same ↦
        (let long : length (after g) ≡ length (before f) + length more =
        ap (λ (k : ℕ). length (after k)) same ∙ ap length grows.own ∙ length-append (before f) more in
        let here : length (before g) ≡ length (before f) = ap (λ (k : ℕ). length (before k)) same in
        let few = grows.few in
        elim (cases_eq i (length (before f))) [
          | inl at ↦ inr (same, at)
          | inr ne ↦ inl (let apart : i ≡ length (before f) → ⊥ = ne in omega arith)
        ])
    | inr ne ↦ inl (subst (λ (xs : List A). i < length xs) (grows.other g ne) lt)
  ]

-- an order by which what may be left and what may come from outside is told otherwise
pub order_told : (trace : ℕ → List Event) (labels : ℕ → List Label) (IsLeft IsLeft' : ℕ → QueueState → Type 0) (IsFromOutside IsFromOutside' : ℕ → Type 0)
    (moment : ℕ → ℕ → ℕ) → ((q : ℕ) (state : QueueState) → IsLeft' q state → IsLeft q state) → ((f : ℕ) → IsFromOutside f → IsFromOutside' f)
    → IsOneOrder trace labels IsLeft IsFromOutside moment → IsOneOrder trace labels IsLeft' IsFromOutside' moment
order_told trace labels IsLeft IsLeft' IsFromOutside IsFromOutside' moment left outside o = record {
  distinct = o.distinct;
  keeps = o.keeps;
  needed = λ f i g j e e' n. o.needed f i g j e e' (needs f i g j n);
  requested = λ f i seen none. o.requested f i seen (λ from. none (outside f from));
}
  where
    needs : (f i g j : ℕ) → Needs trace labels IsLeft' f i g j → Needs trace labels IsLeft f i g j
    needs f i g j (taken_element t) = taken_element (record {
      queue = t.queue;
      value = t.value;
      got = t.got;
      state = t.state;
      left = left t.queue t.state t.left;
      taking = t.taking;
      taken = t.taken;
      fiber = t.fiber;
      of_value = t.of_value;
      put = t.put;
      nth = t.nth;
    })
    needs f i g j (end_of_other t) = end_of_other (record { outcome = t.outcome; learning = t.learning; learns = t.learns; tells = t.tells; ended = t.ended })
    needs f i g j (start z e) = start z e

-- One order of the events of a run so far, in one list: all of them are past
pub record HasOrder (trace : ℕ → List Event) (history : ℕ → List QueueEvent) (labels : ℕ → List Label) (IsLeft : ℕ → QueueState → Type 0)
    (IsFromOutside : ℕ → Type 0) : Type 0 where
  pub moment : ℕ → ℕ → ℕ
  pub list : List Happening
  pub listed : IsListed trace history moment list
  pub past : (f i : ℕ) → i < length (trace f) → moment f i < length list
  pub in_order : IsOneOrder trace labels IsLeft IsFromOutside moment

-- a cause stood before its effect came: both stood before, or the effect is the event that came
pub data StoodBefore (trace : ℕ → List Event) (labels : ℕ → List Label) (IsLeft : ℕ → QueueState → Type 0) (f : ℕ) (a i b j : ℕ) : Type 0 where
  both : i < length (trace a) → j < length (trace b) → Needs trace labels IsLeft a i b j → StoodBefore trace labels IsLeft f a i b j
  cause : a ≡ f → i ≡ length (trace f) → j < length (trace b) → StoodBefore trace labels IsLeft f a i b j

-- a request for a fiber stands in a trace
pub record IsRequestedIn (trace : ℕ → List Event) (f : ℕ) : Type 0 where
  pub by : ℕ
  pub place : ℕ
  pub request : slice_get (trace by) place ≡ Some (event.Request f)

pub data SeenAfter (trace : ℕ → List Event) (IsFromOutside : ℕ → Type 0) (f : ℕ) (a i : ℕ) : Type 0 where
  seen : slice_get (trace a) i ≡ Some event.Seen → (IsFromOutside a → ⊥) → SeenAfter trace IsFromOutside f a i
  sees : a ≡ f → i ≡ length (trace f) → IsRequestedIn trace a → SeenAfter trace IsFromOutside f a i

abbrev happening : ℕ → Event → Happening
happening f e = record { fiber = f; event = e }

-- events of one fiber as they happen are its own, and no other's
own_events : (f g : ℕ) (es : List Event) → g ≡ f → events_of g (map (happening f) es) ≡ es
own_events f g [] same = refl
own_events f g (e ∷ es) same = rw (eq-eqb f g (sym same)) (ap (λ (xs : List Event). e ∷ xs) (own_events f g es same))

no_events : (f g : ℕ) (es : List Event) → (g ≡ f → ⊥) → events_of g (map (happening f) es) ≡ []
no_events f g [] ne = refl
no_events f g (e ∷ es) ne = rw (ne_eqb f g (λ same. ne (sym same))) (no_events f g es ne)

-- to a queue they are what the fiber does there
history_of_own : (q f : ℕ) (es : List Event) → history_of q (map (happening f) es) ≡ queue_events q f es
history_of_own q f [] = refl
history_of_own q f (e ∷ es) = ap (cons_option (queue_event q f e)) (history_of_own q f es)

module _ (trace trace' : ℕ → List Event) (history history' : ℕ → List QueueEvent) (labels labels' : ℕ → List Label) (IsLeft IsLeft' : ℕ → QueueState → Type 0)
    (IsFromOutside IsFromOutside' : ℕ → Type 0) (f : ℕ) (more : List Event) (grows : GrowsAt trace trace' f more)
    (goes_on : (q : ℕ) → history' q ≡ history q ++ queue_events q f more) (o : HasOrder trace history labels IsLeft IsFromOutside) (moment' : ℕ → ℕ → ℕ)
    (kept : (g i : ℕ) → i < length (trace g) → moment' g i ≡ o.moment g i) (is_now : moment' f (length (trace f)) ≡ length o.list) where
  -- the moment of an event is the one that it had, or now
  abbrev Old : ℕ → ℕ → Type 0
  Old g i = (i < length (trace g)) × (moment' g i ≡ o.moment g i) × (o.moment g i < length o.list)

  abbrev New : ℕ → ℕ → Type 0
  New g i = (g ≡ f) × (i ≡ length (trace f)) × (moment' g i ≡ length o.list)

  abbrev list' : List Happening
  list' = o.list ++ map (happening f) more

  longer : length list' ≡ length o.list + length more
  longer = length-append o.list (map (happening f) more) ∙ ap (λ (k : ℕ). length o.list + k) (length-map more (happening f))

  old : (g i : ℕ) → i < length (trace g) → Old g i
  old g i lt = (lt, kept g i lt, o.past g i lt)

  new : (g i : ℕ) → g ≡ f → i ≡ length (trace f) → New g i
  new g i same at = (same, at, ap (λ (k : ℕ). moment' k i) same ∙ ap (moment' f) at ∙ is_now)

  which : (g i : ℕ) → i < length (trace' g) → Old g i ⊎ New g i
  which g i lt = elim (old_or_new trace trace' f more grows g i lt) [ inl here ↦ inl (old g i here) | inr came ↦ inr (new g i came.0 came.1) ]

  past_after : (g i : ℕ) → i < length (trace' g) → moment' g i < length list'
  past_after g i lt = elim (which g i lt) [
    | inl h ↦ (let e = h.1 in let before = h.2 in let long = longer in omega arith)
    | inr h ↦
        (let at = h.1 in let e = h.2 in let long = longer in
        let grown : length (trace' g) ≡ length (trace f) + length more =
        ap (λ (k : ℕ). length (trace' k)) h.0 ∙ ap length grows.own ∙ length-append (trace f) more in
        omega arith)
  ]

  traces_after : (g : ℕ) → events_of g list' ≡ trace' g
  traces_after g = filter_map-append (event_of g) o.list (map (happening f) more) ∙ by_fiber
    where
      by_fiber : events_of g o.list ++ events_of g (map (happening f) more) ≡ trace' g
      by_fiber = elim (cases_eq g f) [
        | inl same ↦
            rw (own_events f g more same, o.listed.traces g)
            (ap (λ (k : ℕ). trace k ++ more) same ∙ sym grows.own ∙ ap trace' (sym same))
        | inr ne ↦ rw (no_events f g more ne, o.listed.traces g) (append-nil (trace g) ∙ sym (grows.other g ne))
      ]

  histories_after : (q : ℕ) → history_of q list' ≡ history' q
  histories_after q =
      filter_map-append (λ (h : Happening). queue_event q h.fiber h.event) o.list (map (happening f) more)
      ∙ rw (o.listed.histories q, history_of_own q f more) (sym (goes_on q))

  moments_after : (g i : ℕ) (e : Event) → slice_get (trace' g) i ≡ Some e → slice_get list' (moment' g i) ≡ Some (record { fiber = g; event = e })
  moments_after g i e at = by_place (stands trace trace' f more grows g i e at)
    where
      by_place : Stands trace f more g i e → slice_get list' (moment' g i) ≡ Some (record { fiber = g; event = e })
      by_place (stood is) =
          ap (λ (k : ℕ). slice_get list' k) (kept g i (slice_get_within (trace g) i e is))
          ∙ still_at o.list (map (happening f) more) (o.moment g i) (happening g e) (o.listed.moments g i e is)
      by_place (comes same place is) =
          ap (λ (k : ℕ). slice_get list' k) ((new g i same place).2) ∙ ap (λ (es : List Event). slice_get (o.list ++ map (happening f) es) (length o.list)) is
          ∙ at_seam o.list (happening f e) ∙ ap (λ (k : ℕ). Some (happening k e)) (sym same)

  distinct_after : (a i b j : ℕ) → i < length (trace' a) → j < length (trace' b) → moment' a i ≡ moment' b j → (a ≡ b) × (i ≡ j)
  distinct_after a i b j lt lt' e = elim (which a i lt) [
    | inl h ↦ elim (which b j lt') [
      | inl k ↦ o.in_order.distinct a i b j h.0 k.0 (sym h.1 ∙ e ∙ k.1)
      | inr k ↦ absurd (let p = h.1 in let q = h.2 in let r = k.2 in omega arith)
    ]
    | inr h ↦ elim (which b j lt') [
      | inl k ↦ absurd (let p = k.1 in let q = k.2 in let r = h.2 in omega arith)
      | inr k ↦ (h.0 ∙ sym k.0, h.1 ∙ sym k.1)
    ]
  ]

  keeps_after : (a i j : ℕ) → i < length (trace' a) → j < length (trace' a) → i < j → moment' a i < moment' a j
  keeps_after a i j lt lt' below = elim (which a j lt') [
    | inl k ↦
        (let h = old a i (let l = k.0 in omega arith) in
        let step = o.in_order.keeps a i j h.0 k.0 below in let p = h.1 in let q = k.1 in omega arith)
    | inr k ↦
        (let long : length (trace a) ≡ length (trace f) = ap (λ (n : ℕ). length (trace n)) k.0 in
        let at = k.1 in
        let h = old a i (omega arith) in let p = h.1 in let q = h.2 in let r = k.2 in omega arith)
  ]

  needed_after : (a i b j : ℕ) → StoodBefore trace labels IsLeft f a i b j → moment' b j < moment' a i
  needed_after a i b j (both lt lt' n) =
      let step = o.in_order.needed a i b j lt lt' n in let p = kept a i lt in let q = kept b j lt' in omega arith
  needed_after a i b j (cause same at lt') =
      let h = old b j lt' in let k = new a i same at in let p = h.1 in let q = h.2 in let r = k.2 in omega arith

  request_before : (a b j n : ℕ) → slice_get (trace b) j ≡ Some (event.Request a) → moment' b j < n → IsRequestedBefore trace' moment' a n
  request_before a b j n e lt = record { by = b; place = j; request = still_stands trace trace' f more grows b j (event.Request a) e; before = lt }

  requested_after : (a i : ℕ) → SeenAfter trace IsFromOutside f a i → IsRequestedBefore trace' moment' a (moment' a i)
  requested_after a i (seen e none) =
      let r = o.in_order.requested a i e none in
      let h = old r.by r.place (slice_get_within (trace r.by) r.place (event.Request a) r.request) in
      let k = old a i (slice_get_within (trace a) i event.Seen e) in
      request_before a r.by r.place (moment' a i) r.request (let step = r.before in let p = h.1 in let q = k.1 in omega arith)
  requested_after a i (sees same at r) =
      let h = old r.by r.place (slice_get_within (trace r.by) r.place (event.Request a) r.request) in
      let k = new a i same at in
      request_before a r.by r.place (moment' a i) r.request (let p = h.1 in let q = h.2 in let n = k.2 in omega arith)

  -- the order after the event that came, if its causes and those of the others stood before
  pub order_grows : ((a i b j : ℕ) → i < length (trace' a) → j < length (trace' b) → Needs trace' labels' IsLeft' a i b j
      → StoodBefore trace labels IsLeft f a i b j)
      → ((a i : ℕ) → slice_get (trace' a) i ≡ Some event.Seen → (IsFromOutside' a → ⊥) → SeenAfter trace IsFromOutside f a i)
      → HasOrder trace' history' labels' IsLeft' IsFromOutside'
  order_grows causes requests = record {
    moment = moment';
    list = list';
    listed = record { traces = traces_after; histories = histories_after; moments = moments_after };
    past = past_after;
    in_order = record {
      distinct = distinct_after;
      keeps = keeps_after;
      needed = λ a i b j lt lt' n. needed_after a i b j (causes a i b j lt lt' n);
      requested = λ a i e none. requested_after a i (requests a i e none);
    };
  }

  -- by these moments
  pub grown_moments : (causes : (a i b j : ℕ) → i < length (trace' a) → j < length (trace' b) → Needs trace' labels' IsLeft' a i b j
      → StoodBefore trace labels IsLeft f a i b j)
      (requests : (a i : ℕ) → slice_get (trace' a) i ≡ Some event.Seen → (IsFromOutside' a → ⊥) → SeenAfter trace IsFromOutside f a i)
      → (order_grows causes requests).moment ≡ moment'
  unfolding order_grows
  grown_moments causes requests = refl
