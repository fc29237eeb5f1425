-- What is taken out of a queue, and what is left, is what was put into it.
use Rattle.std.proofs.Common.{◌≡◌, ℕ, suc, ◌+◌, Bool, true, false, Option, Some, None, List, [], ◌∷◌, ◌++◌, length, refl, sym, ◌∙◌, ap, subst, arith}
use Rattle.std.proofs.Common.{append_assoc, append-nil, inl, inr}
use Rattle.std.specs.Prelude.{◌==◌, nat_lt, if◌then◌else◌}
use Rattle.std.specs.List.{filter_map, cons_option}
use Rattle.std.proofs.lemmas.Bool.{eqb-true, eq-eqb, ne_eqb, cases_eq}
use Rattle.std.proofs.lemmas.Option.{none-some, same_Some, cond_some}
use Rattle.std.proofs.lemmas.List.{length-append, map-append}
use Rattle.std.proofs.lemmas.List.Elements.{filter-append, filter_map-append}
use Rattle.fx_term.specs.declared.event.Event.{Event}
use Rattle.fx_term.specs.declared.event.Event.TheVariants as event
use Rattle.fx_term.specs.Element.{Element}
use Rattle.fx_term.specs.declared.queue_event.QueueEvent.{QueueEvent}
use Rattle.fx_term.specs.declared.queue_event.QueueEvent.TheVariants.{Put, Got}
use Rattle.fx_term.specs.Queue.{cut, Taking, QueueState, empty_queue, items_of, next_item, with_put, with_taken, after_got, after_event, replayed_from}
use Rattle.fx_term.specs.Queue.{replayed, items_taken, queue_events, values_put, numbered, accepted_offers}

-- an event at which a history stops being legal leaves nothing
pub stays_none : (c : ℕ) (h : List QueueEvent) → replayed_from c None h ≡ None
stays_none c [] = refl
stays_none c (e ∷ h) = stays_none c h

pub replayed_append : (c : ℕ) (s : Option QueueState) (h k : List QueueEvent) → replayed_from c s (h ++ k) ≡ replayed_from c (replayed_from c s h) k
replayed_append c s [] k = refl
replayed_append c s (e ∷ h) k = replayed_append c (after_event c s e) h k

-- a get that is legal
pub record IsGet (s : QueueState) (f n : ℕ) (xs : List Element) (s' : QueueState) : Type 0 where
  pub front : Element
  pub rest : List Element
  pub items : xs ≡ front ∷ rest
  pub value : front.value ≡ n
  pub after : with_taken s f front rest ≡ s'

pub get_parts : (s : QueueState) (f n : ℕ) (xs : List Element) (s' : QueueState) → after_got s f n xs ≡ Some s' → IsGet s f n xs s'
get_parts s f n [] s' e = absurd (none-some s' e)
get_parts s f n (x ∷ rest) s' e =
    let p = cond_some (x.value == n) (with_taken s f x rest) s' e in
    record { front = x; rest = rest; items = refl; value = eqb-true x.value n p.0; after = p.1 }

pub put_is : (c : ℕ) (s : QueueState) (f n : ℕ) (s' : QueueState) → after_event c (Some s) (Put f n) ≡ Some s' → with_put s (next_item s f n) ≡ s'
put_is c s f n s' e = (cond_some (nat_lt (length s.items) c) (with_put s (next_item s f n)) s' e).1

-- what was taken, and then what is left, is what was put
abbrev pub Accounts : QueueState → Type 0
Accounts s = items_taken s ++ s.items ≡ s.put

put_accounts : (s : QueueState) (x : Element) → Accounts s → Accounts (with_put s x)
put_accounts s x h = sym (append_assoc (items_taken s) s.items (x ∷ [])) ∙ ap (λ (xs : List Element). xs ++ x ∷ []) h

get_accounts : (s : QueueState) (f : ℕ) (x : Element) (rest : List Element) → s.items ≡ x ∷ rest → Accounts s → Accounts (with_taken s f x rest)
get_accounts s f x rest e h =
    ap (λ (xs : List Element). xs ++ rest) (map-append (λ (t : Taking). t.item) s.taken (record { taker = f; item = x } ∷ []))
    ∙ append_assoc (items_taken s) (x ∷ []) rest
    ∙ ap (λ (xs : List Element). items_taken s ++ xs) (sym e) ∙ h

event_accounts : (c : ℕ) (s : QueueState) (e : QueueEvent) (s' : QueueState) → after_event c (Some s) e ≡ Some s' → Accounts s → Accounts s'
event_accounts c s (Put f n) s' e h = subst Accounts (put_is c s f n s' e) (put_accounts s (next_item s f n) h)
event_accounts c s (Got f n) s' e h = let g = get_parts s f n s.items s' e in subst Accounts g.after (get_accounts s f g.front g.rest g.items h)

-- the first event of a legal history, and those after it
pub record IsFirst (c : ℕ) (s : QueueState) (e : QueueEvent) (h : List QueueEvent) (last : QueueState) : Type 0 where
  pub next : QueueState
  pub after : after_event c (Some s) e ≡ Some next
  pub rest : replayed_from c (Some next) h ≡ Some last

pub first_of_legal : (c : ℕ) (s : QueueState) (e : QueueEvent) (h : List QueueEvent) (last : QueueState) → replayed_from c (Some s) (e ∷ h) ≡ Some last
    → IsFirst c s e h last
first_of_legal c s e h last r = by_next (after_event c (Some s) e) refl r
  where
    by_next : (n : Option QueueState) → after_event c (Some s) e ≡ n → replayed_from c n h ≡ Some last → IsFirst c s e h last
    by_next None a r = absurd (none-some last (sym (stays_none c h) ∙ r))
    by_next (Some n) a r = record { next = n; after = a; rest = r }

pub replay_accounts : (c : ℕ) (s : QueueState) (h : List QueueEvent) (last : QueueState) → replayed_from c (Some s) h ≡ Some last → Accounts s → Accounts last
replay_accounts c s [] last r a = subst Accounts (same_Some s last r) a
replay_accounts c s (e ∷ h) last r a = let f = first_of_legal c s e h last r in replay_accounts c f.next h last f.rest (event_accounts c s e f.next f.after a)

-- the value that fiber f puts in an event
abbrev value_by : ℕ → QueueEvent → Option ℕ
value_by f (Put g n) = if g == f then Some n else None
value_by f (Got g n) = None

abbrev pub values_by : ℕ → List QueueEvent → List ℕ
values_by f h = filter_map (value_by f) h

pub length-numbered : (f k : ℕ) (ns : List ℕ) → length (numbered f k ns) ≡ length ns
length-numbered f k [] = refl
length-numbered f k (n ∷ ns) = ap suc (length-numbered f (k + 1) ns)

pub numbered_append : (f k : ℕ) (ns ms : List ℕ) (j : ℕ) → j ≡ k + length ns → numbered f k (ns ++ ms) ≡ numbered f k ns ++ numbered f j ms
numbered_append f k [] ms j e = ap (λ (i : ℕ). numbered f i ms) (let p : k ≡ j = omega arith in p)
numbered_append f k (n ∷ ns) ms j e =
    ap (λ (xs : List Element). record { fiber = f; nth = k; value = n } ∷ xs) (numbered_append f (k + 1) ns ms j (omega arith))

-- one element more of a fiber, by that fiber or another
one_put : (s : QueueState) (f g n : ℕ) → items_of f (next_item s g n ∷ []) ≡ numbered f (length (items_of f s.put)) (values_by f (Put g n ∷ []))
one_put s f g n = elim (cases_eq g f) [
  | inl e ↦ rw (eq-eqb g f e) (rw e refl)
  | inr e ↦ rw (ne_eqb g f e) refl
]

-- the fiber's elements grow by the values that it puts
abbrev GrowsBy : ℕ → QueueState → QueueState → List ℕ → Type 0
GrowsBy f s s' ns = items_of f s'.put ≡ items_of f s.put ++ numbered f (length (items_of f s.put)) ns

event_grows : (c f : ℕ) (s : QueueState) (e : QueueEvent) (s' : QueueState) → after_event c (Some s) e ≡ Some s' → GrowsBy f s s' (values_by f (e ∷ []))
event_grows c f s (Put g n) s' e =
    subst (λ (t : QueueState). GrowsBy f s t (values_by f (Put g n ∷ []))) (put_is c s g n s' e)
    (filter-append (λ (x : Element). x.fiber == f) s.put (next_item s g n ∷ []) ∙ ap (λ (xs : List Element). items_of f s.put ++ xs) (one_put s f g n))
event_grows c f s (Got g n) s' e =
    let p = get_parts s g n s.items s' e in
    subst (λ (t : QueueState). GrowsBy f s t []) p.after (sym (append-nil (items_of f s.put)))

-- of what was put, the fiber's elements are the values that it puts, numbered in order
pub replay_grows : (c f : ℕ) (s : QueueState) (h : List QueueEvent) (last : QueueState) → replayed_from c (Some s) h ≡ Some last
    → GrowsBy f s last (values_by f h)
replay_grows c f s [] last r = subst (λ (t : QueueState). GrowsBy f s t []) (same_Some s last r) (sym (append-nil (items_of f s.put)))
replay_grows c f s (e ∷ h) last r =
    let p = first_of_legal c s e h last r in
    let k = length (items_of f s.put) in
    let now = values_by f (e ∷ []) in
    let later = values_by f h in
    let one = event_grows c f s e p.next p.after in
    let j = length (items_of f p.next.put) in
    let count : j ≡ k + length now =
    ap length one ∙ length-append (items_of f s.put) (numbered f k now) ∙ ap (λ (i : ℕ). k + i) (length-numbered f k now) in
    let all : numbered f k now ++ numbered f j later ≡ numbered f k (values_by f (e ∷ h)) =
    sym (numbered_append f k now later j count) ∙ ap (numbered f k) (sym (filter_map-append (value_by f) (e ∷ []) h)) in
    replay_grows c f p.next h last p.rest ∙ ap (λ (xs : List Element). xs ++ numbered f j later) one
    ∙ append_assoc (items_of f s.put) (numbered f k now) (numbered f j later) ∙ ap (λ (xs : List Element). items_of f s.put ++ xs) all

-- the value of a put
abbrev pub value_of : QueueEvent → Option ℕ
value_of (Put g n) = Some n
value_of (Got g n) = None

cut_one : (f g n : ℕ) (b : Bool) (xs : List QueueEvent) (ys : List ℕ) → filter_map value_of xs ≡ ys
    → filter_map value_of (if b then Put g n ∷ xs else xs) ≡ cons_option (if b then Some n else None) ys
cut_one f g n true xs ys e = ap (λ (zs : List ℕ). n ∷ zs) e
cut_one f g n false xs ys e = e

cut_get : (g n : ℕ) (b : Bool) (xs : List QueueEvent) (ys : List ℕ) → filter_map value_of xs ≡ ys → filter_map value_of (if b then Got g n ∷ xs else xs) ≡ ys
cut_get g n true xs ys e = e
cut_get g n false xs ys e = e

pub values_in_cut : (f : ℕ) (h : List QueueEvent) → filter_map value_of (cut f h) ≡ values_by f h
values_in_cut f [] = refl
values_in_cut f (Put g n ∷ h) = cut_one f g n (g == f) (cut f h) (values_by f h) (values_in_cut f h)
values_in_cut f (Got g n ∷ h) = cut_get g n (g == f) (cut f h) (values_by f h) (values_in_cut f h)

told_put : (f n : ℕ) (b : Bool) (xs : List QueueEvent) (ys : List ℕ) → filter_map value_of xs ≡ ys
    → filter_map value_of (cons_option (if b then Some (Put f n) else None) xs) ≡ cons_option (if b then Some n else None) ys
told_put f n true xs ys e = ap (λ (zs : List ℕ). n ∷ zs) e
told_put f n false xs ys e = e

told_get : (f n : ℕ) (b : Bool) (xs : List QueueEvent) (ys : List ℕ) → filter_map value_of xs ≡ ys
    → filter_map value_of (cons_option (if b then Some (Got f n) else None) xs) ≡ ys
told_get f n true xs ys e = e
told_get f n false xs ys e = e

values_in_trace : (q f : ℕ) (es : List Event) → filter_map value_of (queue_events q f es) ≡ values_put q es
values_in_trace q f [] = refl
values_in_trace q f (event.Put r n ∷ es) = told_put f n (r == q) (queue_events q f es) (values_put q es) (values_in_trace q f es)
values_in_trace q f (event.Got r n ∷ es) = told_get f n (r == q) (queue_events q f es) (values_put q es) (values_in_trace q f es)
values_in_trace q f (_ ∷ es) = values_in_trace q f es

-- what a fiber puts in a history, whose cut is what its trace does there, is what its trace puts
pub values_of_cut : (q f : ℕ) (h : List QueueEvent) (trace : List Event) → cut f h ≡ queue_events q f trace → values_by f h ≡ values_put q trace
values_of_cut q f h trace e = sym (values_in_cut f h) ∙ ap (filter_map value_of) e ∙ values_in_trace q f trace

-- of all that was put the fiber's elements are its accepted offers
pub elements_are_offers : (c q f : ℕ) (h : List QueueEvent) (last : QueueState) (trace : List Event) → replayed c h ≡ Some last
    → cut f h ≡ queue_events q f trace → items_of f last.put ≡ accepted_offers q f trace
elements_are_offers c q f h last trace r e = replay_grows c f empty_queue h last r ∙ ap (numbered f 0) (values_of_cut q f h trace e)

-- the takes, and then what is left, cut to one fiber's offers, are its accepted offers
pub takes_then_rest : (c q f : ℕ) (h : List QueueEvent) (last : QueueState) (trace : List Event) → replayed c h ≡ Some last → cut f h ≡ queue_events q f trace
    → items_of f (items_taken last ++ last.items) ≡ accepted_offers q f trace
takes_then_rest c q f h last trace r e = ap (items_of f) (replay_accounts c empty_queue h last r refl) ∙ elements_are_offers c q f h last trace r e
