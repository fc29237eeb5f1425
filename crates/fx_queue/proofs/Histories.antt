-- Cuts of histories, and histories that go on.
use Rattle.std.proofs.Common.{◌≡◌, ◌≢◌, ℕ, ◌+◌, ◌==◌, Bool, true, false, List, [], ◌∷◌, ◌++◌, map, cond, refl, sym, ◌∙◌, ap, subst}
use Rattle.std.proofs.Common.{eq-eqb, ne_eqb, append_assoc, append-nil}
use Rattle.std.proofs.lemmas.List.{append_cancel_left, map-append}
use mathlib.Core.Logic.{dite}
use native.Mathlib.Decide.{ℕ_discrete}
use Rattle.fx_term.specs.declared.queue_event.QueueEvent.{QueueEvent}
use Rattle.fx_term.specs.declared.queue_event.QueueEvent.TheVariants.{Put, Got}
use Rattle.fx_term.specs.Queue.{cut, puts, fiber_of, erase_event, AreAlike}
use Rattle.fx_queue.specs.History.{Begins}

-- the first event of a history, at its own fiber and at another
pub cut-first : (f : ℕ) (x : QueueEvent) (h : List QueueEvent) → fiber_of x ≡ f → cut f (x ∷ h) ≡ x ∷ cut f h
cut-first f x h e = ap (λ (b : Bool). cond b (x ∷ cut f h) (cut f h)) (eq-eqb (fiber_of x) f e)

pub cut-first_other : (f : ℕ) (x : QueueEvent) (h : List QueueEvent) → fiber_of x ≢ f → cut f (x ∷ h) ≡ cut f h
cut-first_other f x h n = ap (λ (b : Bool). cond b (x ∷ cut f h) (cut f h)) (ne_eqb (fiber_of x) f n)

cond_append : (b : Bool) (a : QueueEvent) (l m n : List QueueEvent) → n ≡ l ++ m → cond b (a ∷ n) n ≡ cond b (a ∷ l) l ++ m
cond_append true a l m n e = ap (λ k. a ∷ k) e
cond_append false a l m n e = e

pub cut-append : (f : ℕ) (h k : List QueueEvent) → cut f (h ++ k) ≡ cut f h ++ cut f k
cut-append f [] k = refl
cut-append f (x ∷ h) k = cond_append (fiber_of x == f) x (cut f h) (cut f k) (cut f (h ++ k)) (cut-append f h k)

pub cut-own : (f : ℕ) (h : List QueueEvent) (a : QueueEvent) → fiber_of a ≡ f → cut f (h ++ a ∷ []) ≡ cut f h ++ a ∷ []
cut-own f h a e = cut-append f h (a ∷ []) ∙ ap (λ l. cut f h ++ l) (cut-first f a [] e)

pub cut-other : (f : ℕ) (h : List QueueEvent) (a : QueueEvent) → fiber_of a ≢ f → cut f (h ++ a ∷ []) ≡ cut f h
cut-other f h a n = cut-append f h (a ∷ []) ∙ (ap (λ l. cut f h ++ l) (cut-first_other f a [] n) ∙ append-nil (cut f h))

pub Begins-more : (log seen more : List QueueEvent) → Begins log seen → Begins (log ++ more) seen
Begins-more log seen more h = (h.0 ++ more, ap (λ l. l ++ more) h.1 ∙ append_assoc seen h.0 more)

pub Begins-all : (log : List QueueEvent) → Begins log log
Begins-all log = ([], sym (append-nil log))

pub Begins-trans : (a b c : List QueueEvent) → Begins a b → Begins b c → Begins a c
Begins-trans a b c h k = (k.0 ++ h.0, h.1 ∙ (ap (λ l. l ++ h.0) k.1 ∙ append_assoc c k.0 h.0))

no_cons : (a : QueueEvent) (l : List QueueEvent) → a ∷ l ≡ [] → ⊥
no_cons a l e = cc

front_nil : (l m : List QueueEvent) → l ++ m ≡ [] → l ≡ []
front_nil [] m e = refl
front_nil (a ∷ l) m e = absurd (no_cons a (l ++ m) e)

-- a fiber without events has none at the beginning
pub cut-begins_none : (f : ℕ) (log seen : List QueueEvent) → Begins log seen → cut f log ≡ [] → cut f seen ≡ []
cut-begins_none f log seen h e = front_nil (cut f seen) (cut f h.0) (sym (cut-append f seen h.0) ∙ (ap (cut f) (sym h.1) ∙ e))

-- a history that goes on with no event of any fiber doesn't go on
pub nothing_more : (h k : List QueueEvent) → ((f : ℕ) → cut f (h ++ k) ≡ cut f h) → k ≡ []
nothing_more h [] same = refl
nothing_more h (x ∷ k) same =
    let f : ℕ = fiber_of x in
    let more : cut f h ++ cut f (x ∷ k) ≡ cut f h ++ [] = sym (cut-append f h (x ∷ k)) ∙ (same f ∙ sym (append-nil (cut f h))) in
    let none : cut f (x ∷ k) ≡ [] = append_cancel_left (cut f h) (cut f (x ∷ k)) [] more in
    absurd (no_cons x (cut f k) (sym (cut-first f x k refl) ∙ none))

-- a history in which no other fiber has an event is that of this one
pub all_own : (f : ℕ) (h : List QueueEvent) → ((g : ℕ) → f ≢ g → cut g h ≡ []) → h ≡ cut f h
all_own f [] none = refl
all_own f (x ∷ h) none = dite (ℕ_discrete (fiber_of x) f)
    (λ y.
    let rest = all_own f h (λ g n. sym (cut-first_other g x h (λ z. n (sym y ∙ z))) ∙ none g n) in
    ap (λ l. x ∷ l) rest ∙ sym (cut-first f x h y))
    (λ n. absurd (no_cons x (cut (fiber_of x) h) (sym (cut-first (fiber_of x) x h refl) ∙ none (fiber_of x) (λ z. n (sym z)))))

-- histories that are alike count the same puts, each fiber's too
pub puts_alike : (f : ℕ) (h k : List QueueEvent) → AreAlike h k → puts (cut f h) ≡ puts (cut f k)
puts_alike f [] [] e = refl
puts_alike f [] (y ∷ k) e = absurd cc
puts_alike f (x ∷ h) [] e = absurd cc
puts_alike f (x ∷ h) (y ∷ k) e =
    let one : erase_event x ≡ erase_event y = cc in
    let rest : map erase_event h ≡ map erase_event k = cc in
    one_alike f x y (cut f h) (cut f k) one (puts_alike f h k rest)
  where
    one_alike : (f : ℕ) (x y : QueueEvent) (h k : List QueueEvent) → erase_event x ≡ erase_event y → puts h ≡ puts k
        → puts (cond (fiber_of x == f) (x ∷ h) h) ≡ puts (cond (fiber_of y == f) (y ∷ k) k)
    one_alike f (Put a m) (Put b n) h k e p =
        let same : a ≡ b = ap fiber_of e in
        ap (λ (c : ℕ). puts (cond (c == f) (Put a m ∷ h) h)) same ∙ by_test (b == f) p
      where
        by_test : (t : Bool) → puts h ≡ puts k → puts (cond t (Put a m ∷ h) h) ≡ puts (cond t (Put b n ∷ k) k)
        by_test true p = ap (λ (c : ℕ). c + 1) p
        by_test false p = p
    one_alike f (Got a m) (Got b n) h k e p =
        let same : a ≡ b = ap fiber_of e in
        ap (λ (c : ℕ). puts (cond (c == f) (Got a m ∷ h) h)) same ∙ by_test (b == f) p
      where
        by_test : (t : Bool) → puts h ≡ puts k → puts (cond t (Got a m ∷ h) h) ≡ puts (cond t (Got b n ∷ k) k)
        by_test true p = p
        by_test false p = p
    one_alike f (Put a m) (Got b n) h k e p = absurd (let no : Put a 0 ≡ Got b 0 = e in cc)
    one_alike f (Got a m) (Put b n) h k e p = absurd (let no : Got a 0 ≡ Put b 0 = e in cc)

pub alike_more : (h k : List QueueEvent) (x y : QueueEvent) → AreAlike h k → erase_event x ≡ erase_event y → AreAlike (h ++ x ∷ []) (k ++ y ∷ [])
alike_more h k x y same one =
    map-append erase_event h (x ∷ []) ∙ both same one ∙ sym (map-append erase_event k (y ∷ []))
  where
    both : {a b : List QueueEvent} {c d : QueueEvent} → a ≡ b → c ≡ d → a ++ c ∷ [] ≡ b ++ d ∷ []
    both p q = cc

-- histories that are alike and have the same cuts are the same
pub alike_same : (h k : List QueueEvent) → AreAlike h k → ((f : ℕ) → cut f h ≡ cut f k) → h ≡ k
alike_same [] [] e same = refl
alike_same [] (y ∷ k) e same = absurd cc
alike_same (x ∷ h) [] e same = absurd cc
alike_same (x ∷ h) (y ∷ k) e same =
    let one : erase_event x ≡ erase_event y = cc in
    let rest : map erase_event h ≡ map erase_event k = cc in
    let owner : fiber_of x ≡ fiber_of y = sym (erased_fiber x) ∙ ap fiber_of one ∙ erased_fiber y in
    let firsts : x ∷ cut (fiber_of x) h ≡ y ∷ cut (fiber_of x) k =
    sym (cut-first (fiber_of x) x h refl) ∙ (same (fiber_of x) ∙ cut-first (fiber_of x) y k (sym owner)) in
    let first : x ≡ y = cc in
    let later : h ≡ k =
    alike_same h k rest (λ f. dite (ℕ_discrete (fiber_of x) f)
    (λ yes. subst (λ (g : ℕ). cut g h ≡ cut g k) yes (let r : cut (fiber_of x) h ≡ cut (fiber_of x) k = cc in r))
    (λ no. sym (cut-first_other f x h no) ∙ (same f ∙ cut-first_other f y k (λ z. no (owner ∙ z))))) in
    cc
  where
    erased_fiber : (x : QueueEvent) → fiber_of (erase_event x) ≡ fiber_of x
    erased_fiber (Put g n) = refl
    erased_fiber (Got g n) = refl

-- a fiber that did nothing in a history did nothing in one that is alike
pub cut_none : (f : ℕ) (h k : List QueueEvent) → AreAlike h k → cut f h ≡ [] → cut f k ≡ []
cut_none f [] [] e none = refl
cut_none f [] (y ∷ k) e none = absurd cc
cut_none f (x ∷ h) [] e none = absurd cc
cut_none f (x ∷ h) (y ∷ k) e none =
    let one : erase_event x ≡ erase_event y = cc in
    let rest : map erase_event h ≡ map erase_event k = cc in
    let owner : fiber_of x ≡ fiber_of y = erased_owner x y one in
    dite (ℕ_discrete (fiber_of x) f)
    (λ yes. absurd (no_cons x (cut f h) (sym (cut-first f x h yes) ∙ none)))
    (λ no. cut-first_other f y k (λ z. no (owner ∙ z)) ∙ cut_none f h k rest (sym (cut-first_other f x h no) ∙ none))
  where
    erased_owner : (x y : QueueEvent) → erase_event x ≡ erase_event y → fiber_of x ≡ fiber_of y
    erased_owner (Put a m) (Put b n) e = ap fiber_of e
    erased_owner (Got a m) (Got b n) e = ap fiber_of e
    erased_owner (Put a m) (Got b n) e = ap fiber_of e
    erased_owner (Got a m) (Put b n) e = ap fiber_of e
