-- A queue whose elements have lost their values.
use Rattle.std.proofs.Common.{◌≡◌, ℕ, Bool, true, false, Option, Some, None, List, [], ◌∷◌, ◌++◌, length, map, refl, sym, ◌∙◌, ap}
use Rattle.std.specs.Prelude.{◌==◌, nat_lt, if◌then◌else◌}
use Rattle.std.specs.List.{filter}
use Rattle.std.proofs.lemmas.Option.{same_Some, cond_some}
use Rattle.std.proofs.lemmas.List.{length-map, map-append}
use Rattle.fx_term.specs.Element.{Element}
use Rattle.fx_term.specs.declared.queue_event.QueueEvent.{QueueEvent}
use Rattle.fx_term.specs.declared.queue_event.QueueEvent.TheVariants.{Put, Got}
use Rattle.fx_term.specs.Queue.{Taking, QueueState, empty_queue, items_of, next_item, with_put, with_taken, after_got, after_event, replayed_from, replayed}
use Rattle.fx_term.specs.Queue.{erase_event, AreAlike}
use Rattle.fx_term.proofs.QueueLaws.{get_parts, first_of_legal}
use Rattle.fx_model.specs.Causes.{takings_of}

abbrev pub erase_element : Element → Element
erase_element x = record { fiber = x.fiber; nth = x.nth; value = 0 }

abbrev pub erase_taking : Taking → Taking
erase_taking t = record { taker = t.taker; item = erase_element t.item }

abbrev pub state_of : List Element → List Taking → List Element → QueueState
state_of a b c = record { put = a; taken = b; items = c }

abbrev pub erase : QueueState → QueueState
erase s = state_of (map erase_element s.put) (map erase_taking s.taken) (map erase_element s.items)

-- what passes a test by what a map keeps
pub kept : {A : Type 0} (g : A → A) (p : A → Bool) → ((x : A) → p (g x) ≡ p x) → (xs : List A) → filter p (map g xs) ≡ map g (filter p xs)
kept g p same [] = refl
kept {A = A} g p same (x ∷ xs) = by_test (p x) refl (kept g p same xs)
  where
    by_test : (b : Bool) → p x ≡ b → filter p (map g xs) ≡ map g (filter p xs) → filter p (map g (x ∷ xs)) ≡ map g (filter p (x ∷ xs))
    by_test true is rest = rw (same x, is) (ap (λ (ys : List A). g x ∷ ys) rest)
    by_test false is rest = rw (same x, is) rest

pub takings_erased : (f : ℕ) (s : QueueState) → takings_of f (erase s) ≡ map erase_taking (takings_of f s)
takings_erased f s = kept erase_taking (λ (t : Taking). t.taker == f) (λ t. refl) s.taken

next_erased : (s : QueueState) (f n : ℕ) → next_item (erase s) f 0 ≡ erase_element (next_item s f n)
next_erased s f n =
    ap (λ (k : ℕ). record { fiber = f; nth = k; value = 0 })
    (ap length (kept erase_element (λ (x : Element). x.fiber == f) (λ x. refl) s.put) ∙ length-map (items_of f s.put) erase_element)

put_erased : (s : QueueState) (f n : ℕ) → with_put (erase s) (next_item (erase s) f 0) ≡ erase (with_put s (next_item s f n))
put_erased s f n =
    ap (λ (x : Element). with_put (erase s) x) (next_erased s f n)
    ∙ ap (λ (xs : List Element). state_of xs (map erase_taking s.taken) (map erase_element s.items ++ erase_element (next_item s f n) ∷ []))
    (sym (map-append erase_element s.put (next_item s f n ∷ [])))
    ∙ ap (λ (xs : List Element). state_of (map erase_element (s.put ++ next_item s f n ∷ [])) (map erase_taking s.taken) xs)
    (sym (map-append erase_element s.items (next_item s f n ∷ [])))

taken_erased : (s : QueueState) (f : ℕ) (x : Element) (rest : List Element)
    → with_taken (erase s) f (erase_element x) (map erase_element rest) ≡ erase (with_taken s f x rest)
taken_erased s f x rest =
    ap (λ (ts : List Taking). state_of (map erase_element s.put) ts (map erase_element rest))
    (sym (map-append erase_taking s.taken (record { taker = f; item = x } ∷ [])))

event_erased : (c : ℕ) (s : QueueState) (e : QueueEvent) (s' : QueueState) → after_event c (Some s) e ≡ Some s'
    → after_event c (Some (erase s)) (erase_event e) ≡ Some (erase s')
event_erased c s (Put f n) s' e =
    let p = cond_some (nat_lt (length s.items) c) (with_put s (next_item s f n)) s' e in
    let room : nat_lt (length (map erase_element s.items)) c ≡ true = ap (λ (k : ℕ). nat_lt k c) (length-map s.items erase_element) ∙ p.0 in
    ap (λ (b : Bool). if b then Some (with_put (erase s) (next_item (erase s) f 0)) else None) room
    ∙ ap Some (put_erased s f n ∙ ap erase p.1)
event_erased c s (Got f n) s' e =
    let p = get_parts s f n s.items s' e in
    ap (λ (xs : List Element). after_got (erase s) f 0 (map erase_element xs)) p.items
    ∙ ap Some (taken_erased s f p.front p.rest ∙ ap erase p.after)

replay_erased : (c : ℕ) (s : QueueState) (h : List QueueEvent) (last : QueueState) → replayed_from c (Some s) h ≡ Some last
    → replayed_from c (Some (erase s)) (map erase_event h) ≡ Some (erase last)
replay_erased c s [] last r = ap (λ (t : QueueState). Some (erase t)) (same_Some s last r)
replay_erased c s (e ∷ h) last r =
    let p = first_of_legal c s e h last r in
    ap (λ (n : Option QueueState). replayed_from c n (map erase_event h)) (event_erased c s e p.next p.after) ∙ replay_erased c p.next h last p.rest

-- what was put and taken by the same fibers leaves the same but for the values
pub erased_same : (c : ℕ) (h k : List QueueEvent) (last last' : QueueState) → replayed c h ≡ Some last → replayed c k ≡ Some last' → AreAlike h k
    → erase last ≡ erase last'
erased_same c h k last last' r r' same =
    same_Some (erase last) (erase last')
    (sym (replay_erased c empty_queue h last r) ∙ ap (replayed c) same ∙ replay_erased c empty_queue k last' r')
