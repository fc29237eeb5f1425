-- What a fiber took out of a queue has the values that its trace got there, and was put by a fiber before.
use Rattle.std.proofs.Common.{◌≡◌, ℕ, zero, suc, ◌+◌, ◌<◌, Bool, true, false, Option, Some, None, List, [], ◌∷◌, ◌++◌, length, refl, sym, ◌∙◌, ap, subst}
use Rattle.std.proofs.Common.{arith, inl, inr, append_assoc, append-nil}
use Rattle.std.specs.Prelude.{◌==◌, if◌then◌else◌, map, slice_get, take, option_map}
use Rattle.std.specs.List.{filter, filter_map, cons_option}
use Rattle.std.proofs.lemmas.Bool.{eq-eqb, ne_eqb, cases_eq}
use Rattle.std.proofs.lemmas.Option.{none-some, same_Some, slice_get-map}
use Rattle.std.proofs.lemmas.List.{map-append, length-map}
use Rattle.std.proofs.lemmas.List.Elements.{filter-append, filter_map-append}
use Rattle.fx_term.specs.declared.event.Event.{Event}
use Rattle.fx_term.specs.declared.event.Event.TheVariants as event
use Rattle.fx_term.specs.Element.{Element}
use Rattle.fx_term.specs.declared.queue_event.QueueEvent.{QueueEvent}
use Rattle.fx_term.specs.declared.queue_event.QueueEvent.TheVariants.{Put, Got}
use Rattle.fx_term.specs.Queue.{cut, Taking, QueueState, empty_queue, after_event, replayed_from, replayed, items_taken, queue_events}
use Rattle.fx_term.specs.Queue.{values_put, numbered}
use Rattle.fx_term.proofs.QueueLaws.{get_parts, put_is, first_of_legal, replay_accounts, elements_are_offers}
use Rattle.fx_model.specs.Causes.{values_got, takings_of, taking_of}
use Rattle.fx_model.proofs.Appended.{still_at, stood_at, filter_stood, filter_keeps}

-- the value that fiber f takes in an event
abbrev got_by : ℕ → QueueEvent → Option ℕ
got_by f (Put g n) = None
got_by f (Got g n) = if g == f then Some n else None

abbrev gots_by : ℕ → List QueueEvent → List ℕ
gots_by f h = filter_map (got_by f) h

-- the values of what was taken
abbrev values_of : List Taking → List ℕ
values_of ts = map (λ (t : Taking). t.item.value) ts

one_taken : (f g n : ℕ) (x : Element) → x.value ≡ n
    → values_of (filter (λ (t : Taking). t.taker == f) (record { taker = g; item = x } ∷ [])) ≡ gots_by f (Got g n ∷ [])
one_taken f g n x is = elim (cases_eq g f) [
  | inl e ↦ rw (eq-eqb g f e) (ap (λ (k : ℕ). k ∷ []) is)
  | inr e ↦ rw (ne_eqb g f e) refl
]

-- a fiber has taken what it gets beside what it had taken
abbrev TakesMore : ℕ → QueueState → QueueState → List QueueEvent → Type 0
TakesMore f s s' h = values_of (takings_of f s') ≡ values_of (takings_of f s) ++ gots_by f h

event_takes : (c f : ℕ) (s : QueueState) (e : QueueEvent) (s' : QueueState) → after_event c (Some s) e ≡ Some s' → TakesMore f s s' (e ∷ [])
event_takes c f s (Put g n) s' e = subst (λ (t : QueueState). TakesMore f s t []) (put_is c s g n s' e) (sym (append-nil (values_of (takings_of f s))))
event_takes c f s (Got g n) s' e =
    let p = get_parts s g n s.items s' e in
    subst (λ (t : QueueState). TakesMore f s t (Got g n ∷ [])) p.after
    (ap values_of (filter-append (λ (t : Taking). t.taker == f) s.taken (record { taker = g; item = p.front } ∷ []))
    ∙ map-append (λ (t : Taking). t.item.value) (takings_of f s) (filter (λ (t : Taking). t.taker == f) (record { taker = g; item = p.front } ∷ []))
    ∙ ap (λ (ns : List ℕ). values_of (takings_of f s) ++ ns) (one_taken f g n p.front p.value))

replay_takes : (c f : ℕ) (s : QueueState) (h : List QueueEvent) (last : QueueState) → replayed_from c (Some s) h ≡ Some last → TakesMore f s last h
replay_takes c f s [] last r = subst (λ (t : QueueState). TakesMore f s t []) (same_Some s last r) (sym (append-nil (values_of (takings_of f s))))
replay_takes c f s (e ∷ h) last r =
    let p = first_of_legal c s e h last r in
    let one = event_takes c f s e p.next p.after in
    let more = replay_takes c f p.next h last p.rest in
    more ∙ ap (λ (ns : List ℕ). ns ++ gots_by f h) one ∙ append_assoc (values_of (takings_of f s)) (gots_by f (e ∷ [])) (gots_by f h)
    ∙ ap (λ (ns : List ℕ). values_of (takings_of f s) ++ ns) (sym (filter_map-append (got_by f) (e ∷ []) h))

-- the value of a get
abbrev got_in : QueueEvent → Option ℕ
got_in (Put g n) = None
got_in (Got g n) = Some n

cut_one : (g n : ℕ) (b : Bool) (xs : List QueueEvent) (ys : List ℕ) → filter_map got_in xs ≡ ys
    → filter_map got_in (if b then Got g n ∷ xs else xs) ≡ cons_option (if b then Some n else None) ys
cut_one g n true xs ys e = ap (λ (zs : List ℕ). n ∷ zs) e
cut_one g n false xs ys e = e

cut_put : (g n : ℕ) (b : Bool) (xs : List QueueEvent) (ys : List ℕ) → filter_map got_in xs ≡ ys → filter_map got_in (if b then Put g n ∷ xs else xs) ≡ ys
cut_put g n true xs ys e = e
cut_put g n false xs ys e = e

gots_in_cut : (f : ℕ) (h : List QueueEvent) → filter_map got_in (cut f h) ≡ gots_by f h
gots_in_cut f [] = refl
gots_in_cut f (Put g n ∷ h) = cut_put g n (g == f) (cut f h) (gots_by f h) (gots_in_cut f h)
gots_in_cut f (Got g n ∷ h) = cut_one g n (g == f) (cut f h) (gots_by f h) (gots_in_cut f h)

told_get : (f n : ℕ) (b : Bool) (xs : List QueueEvent) (ys : List ℕ) → filter_map got_in xs ≡ ys
    → filter_map got_in (cons_option (if b then Some (Got f n) else None) xs) ≡ cons_option (if b then Some n else None) ys
told_get f n true xs ys e = ap (λ (zs : List ℕ). n ∷ zs) e
told_get f n false xs ys e = e

told_put : (f n : ℕ) (b : Bool) (xs : List QueueEvent) (ys : List ℕ) → filter_map got_in xs ≡ ys
    → filter_map got_in (cons_option (if b then Some (Put f n) else None) xs) ≡ ys
told_put f n true xs ys e = e
told_put f n false xs ys e = e

gots_in_trace : (q f : ℕ) (es : List Event) → filter_map got_in (queue_events q f es) ≡ values_got q es
gots_in_trace q f [] = refl
gots_in_trace q f (event.Put r n ∷ es) = told_put f n (r == q) (queue_events q f es) (values_got q es) (gots_in_trace q f es)
gots_in_trace q f (event.Got r n ∷ es) = told_get f n (r == q) (queue_events q f es) (values_got q es) (gots_in_trace q f es)
gots_in_trace q f (_ ∷ es) = gots_in_trace q f es

-- what a fiber has taken has the values that its trace gets
pub takes_are_got : (c q f : ℕ) (h : List QueueEvent) (last : QueueState) (trace : List Event) → replayed c h ≡ Some last
    → cut f h ≡ queue_events q f trace → values_of (takings_of f last) ≡ values_got q trace
takes_are_got c q f h last trace r e =
    replay_takes c f empty_queue h last r ∙ sym (gots_in_cut f h) ∙ ap (filter_map got_in) e ∙ gots_in_trace q f trace

-- so it has taken as many elements as its trace gets
pub takes_counted : (c q f : ℕ) (h : List QueueEvent) (last : QueueState) (trace : List Event) → replayed c h ≡ Some last
    → cut f h ≡ queue_events q f trace → length (takings_of f last) ≡ length (values_got q trace)
takes_counted c q f h last trace r e =
    sym (length-map (takings_of f last) (λ (t : Taking). t.item.value)) ∙ ap length (takes_are_got c q f h last trace r e)

-- what was taken stays taken, and in its place
record TakenOnward (f : ℕ) (s last : QueueState) : Type 0 where
  pub more : List Taking
  pub is : takings_of f last ≡ takings_of f s ++ more

event_onward : (c f : ℕ) (s : QueueState) (e : QueueEvent) (s' : QueueState) → after_event c (Some s) e ≡ Some s' → TakenOnward f s s'
event_onward c f s (Put g n) s' e =
    subst (TakenOnward f s) (put_is c s g n s' e) (record { more = []; is = sym (append-nil (takings_of f s)) })
event_onward c f s (Got g n) s' e =
    let p = get_parts s g n s.items s' e in
    subst (TakenOnward f s) p.after
    (record {
      more = filter (λ (t : Taking). t.taker == f) (record { taker = g; item = p.front } ∷ []);
      is = filter-append (λ (t : Taking). t.taker == f) s.taken (record { taker = g; item = p.front } ∷ []);
    })

replay_onward : (c f : ℕ) (s : QueueState) (h : List QueueEvent) (last : QueueState) → replayed_from c (Some s) h ≡ Some last → TakenOnward f s last
replay_onward c f s [] last r = subst (TakenOnward f s) (same_Some s last r) (record { more = []; is = sym (append-nil (takings_of f s)) })
replay_onward c f s (e ∷ h) last r =
    let p = first_of_legal c s e h last r in
    let one = event_onward c f s e p.next p.after in
    let rest = replay_onward c f p.next h last p.rest in
    record {
      more = one.more ++ rest.more;
      is = rest.is ∙ ap (λ (xs : List Taking). xs ++ rest.more) one.is ∙ append_assoc (takings_of f s) one.more rest.more;
    }

-- of a queue that went on from there, the takes before its later events are those of then
pub taken_before : (c f nth : ℕ) (s : QueueState) (h : List QueueEvent) (last : QueueState) (t : Taking) → replayed_from c (Some s) h ≡ Some last
    → nth < length (takings_of f s) → taking_of last f nth ≡ Some t → taking_of s f nth ≡ Some t
taken_before c f nth s h last t r lt e =
    let on = replay_onward c f s h last r in
    stood_at (takings_of f s) on.more nth t lt (subst (λ (xs : List Taking). slice_get xs nth ≡ Some t) on.is e)

more_got : (q : ℕ) (e : Event) (es fs : List Event) → length (values_got q es) < length (values_got q fs)
    → length (values_got q (e ∷ es)) < length (values_got q (e ∷ fs))
more_got q (event.Got r n) es fs lt = by_test (r == q)
  where
    by_test : (b : Bool) → length (cons_option (if b then Some n else None) (values_got q es))
        < length (cons_option (if b then Some n else None) (values_got q fs))
    by_test true = omega arith
    by_test false = lt
more_got q _ es fs lt = lt

-- before a get a trace has fewer
pub fewer_before : (q n : ℕ) (es : List Event) (i : ℕ) → slice_get es i ≡ Some (event.Got q n)
    → length (values_got q (take i es)) < length (values_got q es)
fewer_before q n [] i e = absurd (none-some _ e)
fewer_before q n (f ∷ es) zero e = rw (same_Some f _ e, eq-eqb q q refl) (omega arith)
fewer_before q n (f ∷ es) (suc i) e = more_got q f (take i es) es (fewer_before q n es i e)

-- the value of a get stands among the values got where those before it end
pub value_at_get : (q n : ℕ) (es : List Event) (i : ℕ) → slice_get es i ≡ Some (event.Got q n)
    → slice_get (values_got q es) (length (values_got q (take i es))) ≡ Some n
value_at_get q n [] i e = absurd (none-some _ e)
value_at_get q n (f ∷ es) zero e = rw (same_Some f _ e, eq-eqb q q refl) refl
value_at_get q n (f ∷ es) (suc i) e = past_event f (value_at_get q n es i e)
  where
    past_event : (f : Event) → slice_get (values_got q es) (length (values_got q (take i es))) ≡ Some n
        → slice_get (values_got q (f ∷ es)) (length (values_got q (f ∷ take i es))) ≡ Some n
    past_event (event.Got r m) at = by_test (r == q)
      where
        by_test : (b : Bool) → slice_get (cons_option (if b then Some m else None) (values_got q es))
            (length (cons_option (if b then Some m else None) (values_got q (take i es)))) ≡ Some n
        by_test true = at
        by_test false = at
    past_event _ at = at

-- what a fiber takes by a get has the value of the get
pub taken_has_value : (c q f n : ℕ) (h : List QueueEvent) (last : QueueState) (t : Taking) (trace : List Event) (i : ℕ) → replayed c h ≡ Some last
    → cut f h ≡ queue_events q f trace → slice_get trace i ≡ Some (event.Got q n) → taking_of last f (length (values_got q (take i trace))) ≡ Some t
    → t.item.value ≡ n
taken_has_value c q f n h last t trace i r e got at =
    let k = length (values_got q (take i trace)) in
    let taken : slice_get (values_of (takings_of f last)) k ≡ Some t.item.value =
    slice_get-map (λ (u : Taking). u.item.value) (takings_of f last) k ∙ ap (option_map (λ (u : Taking). u.item.value)) at in
    same_Some t.item.value n
    (sym taken ∙ ap (λ (ns : List ℕ). slice_get ns k) (takes_are_got c q f h last trace r e) ∙ value_at_get q n trace i got)

-- an element of numbered values has the value of its number
numbered_at : (f k : ℕ) (ns : List ℕ) (i : ℕ) (x : Element) → slice_get (numbered f k ns) i ≡ Some x → (x.nth ≡ k + i) × (slice_get ns i ≡ Some x.value)
numbered_at f k [] i x e = absurd (none-some x e)
numbered_at f k (n ∷ ns) zero x e =
    let same = same_Some _ x e in
    (let p : k ≡ x.nth = ap (λ (y : Element). y.nth) same in omega arith, ap (λ (y : Element). Some y.value) same)
numbered_at f k (n ∷ ns) (suc i) x e = let later = numbered_at f (k + 1) ns i x e in (let p = later.0 in omega arith, later.1)

-- what is taken is one of what its fiber put: among the values of that fiber's puts the one of its number is its own
pub taken_was_put : (c q f nth : ℕ) (h : List QueueEvent) (last : QueueState) (t : Taking) (trace : List Event) → replayed c h ≡ Some last
    → cut t.item.fiber h ≡ queue_events q t.item.fiber trace → taking_of last f nth ≡ Some t
    → slice_get (values_put q trace) t.item.nth ≡ Some t.item.value
taken_was_put c q f nth h last t trace r e at =
    let g = t.item.fiber in
    let own = filter_stood (λ (u : Taking). u.taker == f) last.taken nth t at in
    let item : slice_get (items_taken last) own.place ≡ Some t.item =
    slice_get-map (λ (u : Taking). u.item) last.taken own.place ∙ ap (option_map (λ (u : Taking). u.item)) own.at in
    let put : slice_get last.put own.place ≡ Some t.item =
    subst (λ (xs : List Element). slice_get xs own.place ≡ Some t.item) (replay_accounts c empty_queue h last r refl)
    (still_at (items_taken last) last.items own.place t.item item) in
    let among = filter_keeps (λ (x : Element). x.fiber == g) last.put own.place t.item put (eq-eqb g g refl) in
    let found = numbered_at g 0 (values_put q trace) among.place t.item
    (subst (λ (xs : List Element). slice_get xs among.place ≡ Some t.item) (elements_are_offers c q g h last trace r e) among.at) in
    let number : t.item.nth ≡ among.place = (let p = found.0 in omega arith) in
    ap (λ (k : ℕ). slice_get (values_put q trace) k) number ∙ found.1
