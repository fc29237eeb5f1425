-- The first start of a fiber among labels.
use Rattle.std.proofs.Common.{◌≡◌, ℕ, suc, ◌==◌, ◌≤◌, Bool, true, false, if◌then◌else◌, Option, Some, None, List, [], ◌∷◌, All}
use Rattle.std.proofs.Common.{refl, sym, ◌∙◌, ap, subst, arith}
use Rattle.std.proofs.lemmas.Bool.{eqb-true, eq-eqb}
use Rattle.std.proofs.lemmas.Option.{none-some, same_Some}
use Rattle.std.proofs.lemmas.List.Elements.{All-nil, All-cons, All-head, All-tail}
use Rattle.fx_term.specs.declared.event.Event.{Event}
use Rattle.fx_term.specs.declared.event.Event.TheVariants as event
use Rattle.fx_term.specs.Term.{Term}
use Rattle.fx_model.specs.Row.{Label, Silent, Shows, Learns, Starts}
use Rattle.fx_model.specs.Origin.{Origin}
use Rattle.fx_model.specs.Run.{shown, events}
use Rattle.fx_model.specs.LawfulReport.{is_start_of, starts_of, BeginsAs}
use Rattle.fx_model.proofs.StartLaws.{IsStartRight}
use Rattle.fx_script_laws.specs.Interchange.{AreFilledOrigins, AreFilledLabels, itself, starts, AllFilled, none, more}
use Rattle.fx_script_laws.specs.Cover.{Cover}
use Rattle.fx_script_laws.specs.Filled as filled

abbrev pub find_start : ℕ → List Label → Option Origin
find_start f [] = None
find_start f (Silent ∷ ls) = find_start f ls
find_start f (Shows e ∷ ls) = find_start f ls
find_start f (Learns g o e ∷ ls) = find_start f ls
find_start f (Starts g b ∷ ls) = if g == f then Some b else find_start f ls

-- the silent labels tell no start and no event, and what holds of a silent label too holds of all where it holds of the others
pub find_shown : (f : ℕ) (ls : List Label) → find_start f (shown ls) ≡ find_start f ls
find_shown f [] = refl
find_shown f (Silent ∷ ls) = find_shown f ls
find_shown f (Shows e ∷ ls) = find_shown f ls
find_shown f (Learns g o e ∷ ls) = find_shown f ls
find_shown f (Starts g b ∷ ls) = ap (λ (o : Option Origin). if g == f then Some b else o) (find_shown f ls)

pub events_shown : (ls : List Label) → events (shown ls) ≡ events ls
events_shown [] = refl
events_shown (Silent ∷ ls) = events_shown ls
events_shown (Shows e ∷ ls) = ap (λ (es : List Event). e ∷ es) (events_shown ls)
events_shown (Learns g o e ∷ ls) = ap (λ (es : List Event). e ∷ es) (events_shown ls)
events_shown (Starts g b ∷ ls) = ap (λ (es : List Event). event.Start g ∷ es) (events_shown ls)

module _ (P : Label → Type 0) where
  pub all_shown : (ls : List Label) → All P ls → All P (shown ls)
  all_shown [] h = All-nil P
  all_shown (Silent ∷ ls) h = all_shown ls (All-tail P Silent ls h)
  all_shown (Shows e ∷ ls) h = All-cons P (Shows e) (shown ls) (All-head P (Shows e) ls h) (all_shown ls (All-tail P (Shows e) ls h))
  all_shown (Learns g o e ∷ ls) h =
      All-cons P (Learns g o e) (shown ls) (All-head P (Learns g o e) ls h) (all_shown ls (All-tail P (Learns g o e) ls h))
  all_shown (Starts g b ∷ ls) h = All-cons P (Starts g b) (shown ls) (All-head P (Starts g b) ls h) (all_shown ls (All-tail P (Starts g b) ls h))

  pub all_of_shown : P Silent → (ls : List Label) → All P (shown ls) → All P ls
  all_of_shown s [] h = All-nil P
  all_of_shown s (Silent ∷ ls) h = All-cons P Silent ls s (all_of_shown s ls h)
  all_of_shown s (Shows e ∷ ls) h = All-cons P (Shows e) ls (All-head P (Shows e) (shown ls) h) (all_of_shown s ls (All-tail P (Shows e) (shown ls) h))
  all_of_shown s (Learns g o e ∷ ls) h =
      All-cons P (Learns g o e) ls (All-head P (Learns g o e) (shown ls) h) (all_of_shown s ls (All-tail P (Learns g o e) (shown ls) h))
  all_of_shown s (Starts g b ∷ ls) h =
      All-cons P (Starts g b) ls (All-head P (Starts g b) (shown ls) h) (all_of_shown s ls (All-tail P (Starts g b) (shown ls) h))

  module _ (Pair : Cover → (ℕ → Bool) → Term → Term → Type 0) (like : (l l' : Label) → AreFilledLabels Pair l l' → P l → P l') where
    all_like : {ls ls' : List Label} → AllFilled Pair ls ls' → All P ls → All P ls'
    all_like none h = All-nil P
    all_like (more {l = l} {l' = l'} {ls = ls} {ls' = ls'} p q) h =
        All-cons P l' ls' (like l l' p (All-head P l ls h)) (all_like q (All-tail P l ls h))

    -- what holds of the labels of the one run holds of those of the other
    pub all_kept : P Silent → (ls ls' : List Label) → AllFilled Pair (shown ls) (shown ls') → All P ls → All P ls'
    all_kept s ls ls' p h = all_of_shown s ls' (all_like p (all_shown ls h))

module _ {Pair : Cover → (ℕ → Bool) → Term → Term → Type 0} where
  events_like : {ls ls' : List Label} → AllFilled Pair ls ls' → events ls ≡ events ls'
  events_like none = refl
  events_like (more (itself {l = Silent}) q) = events_like q
  events_like (more (itself {l = Shows e}) q) = ap (λ (es : List Event). e ∷ es) (events_like q)
  events_like (more (itself {l = Learns g o e}) q) = ap (λ (es : List Event). e ∷ es) (events_like q)
  events_like (more (itself {l = Starts g b}) q) = ap (λ (es : List Event). event.Start g ∷ es) (events_like q)
  events_like (more (starts {f = g} s) q) = ap (λ (es : List Event). event.Start g ∷ es) (events_like q)

  pub same_events : (ls ls' : List Label) → AllFilled Pair (shown ls) (shown ls') → events ls ≡ events ls'
  same_events ls ls' p = sym (events_shown ls) ∙ events_like p ∙ events_shown ls'

module _ (Pair : Cover → (ℕ → Bool) → Term → Term → Type 0) where
  -- the start of a fiber in the other run, which says the same but for pairs
  pub record IsFoundToo (b : Origin) (ls' : List Label) (f : ℕ) : Type 0 where
    pub origin : Origin
    pub found : find_start f ls' ≡ Some origin
    pub like : AreFilledOrigins Pair b origin

  at_start : (f g : ℕ) (b b0 b0' : Origin) (ls ls' : List Label) (t : Bool) → (g == f) ≡ t → AreFilledOrigins Pair b0 b0'
      → (find_start f ls ≡ Some b → IsFoundToo b ls' f) → find_start f (Starts g b0 ∷ ls) ≡ Some b → IsFoundToo b (Starts g b0' ∷ ls') f
  at_start f g b b0 b0' ls ls' true p like rest e =
      let first : Some b0 ≡ Some b = rw p at e in
      let same : b0 ≡ b = same_Some b0 b first in
      record { origin = b0'; found = rw p refl; like = subst (λ (x : Origin). AreFilledOrigins Pair x b0') same like }
  at_start f g b b0 b0' ls ls' false p like rest e =
      let k = rest (rw p at e) in record { origin = k.origin; found = rw p k.found; like = k.like }

  found_like : (f : ℕ) (b : Origin) {ls ls' : List Label} → AllFilled Pair ls ls' → find_start f ls ≡ Some b → IsFoundToo b ls' f
  found_like f b none e = absurd (none-some b e)
  found_like f b (more (itself {l = Silent}) q) e = let k = found_like f b q e in record { origin = k.origin; found = k.found; like = k.like }
  found_like f b (more (itself {l = Shows v}) q) e = let k = found_like f b q e in record { origin = k.origin; found = k.found; like = k.like }
  found_like f b (more (itself {l = Learns g o v}) q) e = let k = found_like f b q e in record { origin = k.origin; found = k.found; like = k.like }
  found_like f b (more {ls = ls} {ls' = ls'} (itself {l = Starts g b0}) q) e =
      at_start f g b b0 b0 ls ls' (g == f) refl (record { term = filled.same; next_is = refl; end_is = refl }) (found_like f b q) e
  found_like f b (more {ls = ls} {ls' = ls'} (starts {f = g} {b = b0} {b' = b0'} s) q) e =
      at_start f g b b0 b0' ls ls' (g == f) refl s (found_like f b q) e

  pub found_too : (f : ℕ) (b : Origin) (ls ls' : List Label) → AllFilled Pair (shown ls) (shown ls') → find_start f ls ≡ Some b → IsFoundToo b ls' f
  found_too f b ls ls' p e =
      let k = found_like f b p (find_shown f ls ∙ e) in
      record { origin = k.origin; found = sym (find_shown f ls') ∙ k.found; like = k.like }

-- what begins as the labels say begins as the first start says
module _ (o : ℕ → Origin) (f : ℕ) (b : Origin) where
  pub begins_found : (ls : List Label) → All (BeginsAs o) ls → find_start f ls ≡ Some b → o f ≡ b
  begins_found [] h e = absurd (none-some b e)
  begins_found (Silent ∷ ls) h e = begins_found ls (All-tail (BeginsAs o) Silent ls h) e
  begins_found (Shows v ∷ ls) h e = begins_found ls (All-tail (BeginsAs o) (Shows v) ls h) e
  begins_found (Learns g x v ∷ ls) h e = begins_found ls (All-tail (BeginsAs o) (Learns g x v) ls h) e
  begins_found (Starts g b0 ∷ ls) h e = by_test (g == f) refl (begins_found ls (All-tail (BeginsAs o) (Starts g b0) ls h))
    where
      by_test : (t : Bool) → (g == f) ≡ t → (find_start f ls ≡ Some b → o f ≡ b) → o f ≡ b
      by_test true p rest =
          let first : Some b0 ≡ Some b = rw p at e in ap o (sym (eqb-true g f p)) ∙ All-head (BeginsAs o) (Starts g b0) ls h ∙ same_Some b0 b first
      by_test false p rest = rest (rw p at e)

-- where a trace of a run starts the fiber, its start is found
pub found_by_trace : (low : ℕ) (ls : List Label) (f n : ℕ) → All (IsStartRight low) ls → starts_of f (events ls) ≡ suc n
    → (b : Origin) × (find_start f ls ≡ Some b)
found_by_trace low [] f n all e = absurd (omega arith)
found_by_trace low (Silent ∷ ls) f n all e = found_by_trace low ls f n (All-tail (IsStartRight low) Silent ls all) e
found_by_trace low (Starts g b ∷ ls) f n all e = by_test (g == f) refl (found_by_trace low ls f n (All-tail (IsStartRight low) (Starts g b) ls all))
  where
    by_test : (t : Bool) → (g == f) ≡ t → (starts_of f (events ls) ≡ suc n → (a : Origin) × (find_start f ls ≡ Some a))
        → (a : Origin) × ((if g == f then Some b else find_start f ls) ≡ Some a)
    by_test true p rest = rw p (b, refl)
    by_test false p rest = rw p (rest (rw p at e))
found_by_trace low (Shows (event.Start g) ∷ ls) f n all e = absurd (All-head (IsStartRight low) (Shows (event.Start g)) ls all)
found_by_trace low (Shows k ∷ ls) f n all e = found_by_trace low ls f n (All-tail (IsStartRight low) (Shows k) ls all) e
found_by_trace low (Learns g o (event.Start h) ∷ ls) f n all e = absurd (All-head (IsStartRight low) (Learns g o (event.Start h)) ls all)
found_by_trace low (Learns g o k ∷ ls) f n all e = found_by_trace low ls f n (All-tail (IsStartRight low) (Learns g o k) ls all) e

more_starts : (f : ℕ) (e : Event) (es : List Event) → starts_of f es ≤ starts_of f (e ∷ es)
more_starts f e es = by_test (is_start_of f e) refl
  where
    by_test : (t : Bool) → is_start_of f e ≡ t → starts_of f es ≤ starts_of f (e ∷ es)
    by_test true p = rw p (omega arith)
    by_test false p = rw p (omega arith)

-- a start that is found is in the trace
pub traced : (f : ℕ) (b : Origin) (ls : List Label) → find_start f ls ≡ Some b → 1 ≤ starts_of f (events ls)
traced f b [] e = absurd (none-some b e)
traced f b (Silent ∷ ls) e = traced f b ls e
traced f b (Shows v ∷ ls) e = let h = traced f b ls e in let k = more_starts f v (events ls) in omega arith
traced f b (Learns g o v ∷ ls) e = let h = traced f b ls e in let k = more_starts f v (events ls) in omega arith
traced f b (Starts g b0 ∷ ls) e = by_test (g == f) refl (traced f b ls)
  where
    by_test : (t : Bool) → (g == f) ≡ t → (find_start f ls ≡ Some b → 1 ≤ starts_of f (events ls)) → 1 ≤ starts_of f (event.Start g ∷ events ls)
    by_test true p rest = rw p (omega arith)
    by_test false p rest = rw p (rest (rw p at e))

-- where no fiber is started twice, and each one begins as its first start says, all begin as the labels say
module _ (o : ℕ → Origin) where
  pub all_begin : (ls : List Label) → ((g : ℕ) → starts_of g (events ls) ≤ 1) → ((g : ℕ) (b : Origin) → find_start g ls ≡ Some b → o g ≡ b)
      → All (BeginsAs o) ls
  all_begin [] once first = All-nil (BeginsAs o)
  all_begin (Silent ∷ ls) once first = All-cons (BeginsAs o) Silent ls tt (all_begin ls once first)
  all_begin (Shows v ∷ ls) once first =
      All-cons (BeginsAs o) (Shows v) ls tt
      (all_begin ls (λ g. let h = once g in let k = more_starts g v (events ls) in omega arith) first)
  all_begin (Learns f x v ∷ ls) once first =
      All-cons (BeginsAs o) (Learns f x v) ls tt
      (all_begin ls (λ g. let h = once g in let k = more_starts g v (events ls) in omega arith) first)
  all_begin (Starts f b0 ∷ ls) once first =
      All-cons (BeginsAs o) (Starts f b0) ls (first f b0 (rw (eq-eqb f f refl) refl))
      (all_begin ls (λ g. let h = once g in let k = more_starts g (event.Start f) (events ls) in omega arith) later)
    where
      later : (g : ℕ) (b : Origin) → find_start g ls ≡ Some b → o g ≡ b
      later g b e = by_test (f == g) refl
        where
          by_test : (t : Bool) → (f == g) ≡ t → o g ≡ b
          by_test true p =
              let h = traced g b ls e in
              let k : suc (starts_of g (events ls)) ≤ 1 = rw p at (once g) in
              absurd (omega arith)
          by_test false p = first g b (rw p e)
