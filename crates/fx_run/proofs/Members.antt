-- Members of lists.
use Rattle.std.proofs.Common.{◌≡◌, ℕ, option_map, zero, suc, ◌<◌, Bool, true, false, Option, Some, None, List, [], ◌∷◌, refl, sym, ◌∙◌, ap, subst}
use Rattle.std.proofs.Common.{arith, inl, inr, All, Contains, map}
use Rattle.std.specs.Prelude.{◌==◌}
use Rattle.std.specs.List.{filter_map, cons_option, list_any, find, AllPairs}
use Rattle.std.proofs.lemmas.Bool.{eq-eqb, ne_eqb, or_left, or_right}
use Rattle.std.proofs.lemmas.Option.{none-some, same_Some}
use Rattle.std.proofs.lemmas.List.Elements.{All-nil, All-cons, All-head, All-tail}
use Rattle.fx_term.specs.Lists.{Among}

pub all_among : {A : Type 0} (P : A → Type 0) (xs : List A) → ((x : A) → Among x xs → P x) → All P xs
all_among P [] h = All-nil P
all_among P (x ∷ xs) h = All-cons P x xs (h x (inl refl)) (all_among P xs (λ y i. h y (inr i)))

pub among_all : {A : Type 0} (P : A → Type 0) (xs : List A) (x : A) → All P xs → Among x xs → P x
among_all P [] x h i = absurd i
among_all P (y ∷ xs) x h (inl e) = subst P (sym e) (All-head P y xs h)
among_all P (y ∷ xs) x h (inr i) = among_all P xs x (All-tail P y xs h) i

pub contains_among : {A : Type 0} (x : A) (xs : List A) → Contains xs x → Among x xs
contains_among x [] h = absurd (let lt = h.1 in omega arith)
contains_among x (y ∷ xs) (zero, lt, e) = inl (sym e)
contains_among x (y ∷ xs) (suc k, lt, e) = inr (contains_among x xs (k, omega arith, e))

kept : {B : Type 0} (y : B) (o : Option B) (ys : List B) → Among y ys → Among y (cons_option o ys)
kept y None ys h = h
kept y (Some z) ys h = inr h

pub among_filter_map : {A B : Type 0} (h : A → Option B) (xs : List A) (x : A) (y : B) → Among x xs → h x ≡ Some y → Among y (filter_map h xs)
among_filter_map h [] x y i e = absurd i
among_filter_map h (z ∷ xs) x y (inl same) e = let p : h z ≡ Some y = ap h (sym same) ∙ e in rw p (inl refl)
among_filter_map h (z ∷ xs) x y (inr i) e = kept y (h z) (filter_map h xs) (among_filter_map h xs x y i e)

-- what it came from
pub record Source {A B : Type 0} (h : A → Option B) (xs : List A) (y : B) : Type 0 where
  pub item : A
  pub among : Among item xs
  pub gives : h item ≡ Some y

pub source : {A B : Type 0} (h : A → Option B) (xs : List A) (y : B) → Among y (filter_map h xs) → Source h xs y
source h [] y i = absurd i
source {A = A} {B = B} h (z ∷ xs) y i = by_first (h z) refl i (source h xs y)
  where
    later : Source h xs y → Source h (z ∷ xs) y
    later s = record { item = s.item; among = inr s.among; gives = s.gives }

    by_first : (o : Option B) → h z ≡ o → Among y (cons_option o (filter_map h xs)) → (Among y (filter_map h xs) → Source h xs y) → Source h (z ∷ xs) y
    by_first None is j rest = later (rest j)
    by_first (Some w) is (inl e) rest = record { item = z; among = inl refl; gives = is ∙ ap (λ (v : B). Some v) (sym e) }
    by_first (Some w) is (inr j) rest = later (rest j)

pub any_among : {A : Type 0} (test : A → Bool) (xs : List A) (x : A) → Among x xs → test x ≡ true → list_any test xs ≡ true
any_among test [] x i e = absurd i
any_among test (y ∷ xs) x (inl same) e = or_left (test y) (list_any test xs) (ap test (sym same) ∙ e)
any_among test (y ∷ xs) x (inr i) e = or_right (test y) (list_any test xs) (any_among test xs x i e)

pub record Passing {A : Type 0} (test : A → Bool) (xs : List A) : Type 0 where
  pub item : A
  pub found : find test xs ≡ Some item

-- where one passes, the first that does is found
pub found_passing : {A : Type 0} (test : A → Bool) (xs : List A) → list_any test xs ≡ true → Passing test xs
found_passing test [] e = absurd cc
found_passing test (x ∷ xs) e = by_test (test x) refl (found_passing test xs)
  where
    by_test : (b : Bool) → test x ≡ b → (list_any test xs ≡ true → Passing test xs) → Passing test (x ∷ xs)
    by_test true is rest = record { item = x; found = rw is refl }
    by_test false is rest = (let p = rest (rw is at e) in record { item = p.item; found = rw is p.found })

-- what is found passes, and is in the list
pub found_is : {A : Type 0} (test : A → Bool) (xs : List A) (x : A) → find test xs ≡ Some x → (test x ≡ true) × Among x xs
found_is test [] x e = absurd (none-some x e)
found_is {A = A} test (y ∷ xs) x e = by_test (test y) refl (found_is test xs x)
  where
    by_test : (b : Bool) → test y ≡ b → (find test xs ≡ Some x → (test x ≡ true) × Among x xs) → (test x ≡ true) × Among x (y ∷ xs)
    by_test true is rest = (let same : y ≡ x = same_Some y x (rw is at e) in (ap test (sym same) ∙ is, inl (sym same)))
    by_test false is rest = (let p = rest (rw is at e) in (p.0, inr p.1))

-- by their numbers, items of a list are found as what they are made of
pub found_by_number : {A B : Type 0} (g : A → B) (id : B → ℕ) (f : ℕ) (xs : List A)
    → find (λ y. id y == f) (map g xs) ≡ option_map g (find (λ x. id (g x) == f) xs)
found_by_number g id f [] = refl
found_by_number {A = A} {B = B} g id f (x ∷ xs) = by_test (id (g x) == f) refl (found_by_number g id f xs)
  where
    by_test : (b : Bool) → (id (g x) == f) ≡ b → find (λ y. id y == f) (map g xs) ≡ option_map g (find (λ z. id (g z) == f) xs)
        → find (λ y. id y == f) (map g (x ∷ xs)) ≡ option_map g (find (λ z. id (g z) == f) (x ∷ xs))
    by_test true is rest = rw is refl
    by_test false is rest = rw is rest

pub among_map : {A : Type 0} (id : A → ℕ) (xs : List A) (x : A) → Among x xs → Contains (map id xs) (id x)
among_map id [] x i = absurd i
among_map id (y ∷ xs) x (inl same) = (0, omega arith, ap id (sym same))
among_map id (y ∷ xs) x (inr i) = (let c = among_map id xs x i in (suc c.0, (let lt = c.1 in omega arith), c.2))

-- a list whose numbers rise has each number once
pub found_itself : {A : Type 0} (id : A → ℕ) (xs : List A) → AllPairs (λ (m n : ℕ). m < n) (map id xs) → (x : A) → Among x xs
    → find (λ y. id y == id x) xs ≡ Some x
found_itself id [] rises x i = absurd i
found_itself {A = A} id (y ∷ xs) rises x (inl same) = rw (eq-eqb (id y) (id x) (ap id (sym same))) (ap (λ (z : A). Some z) (sym same))
found_itself id (y ∷ xs) rises x (inr i) =
    let c = among_map id xs x i in
    let lt = c.1 in
    let above : id y < id x = subst (λ (n : ℕ). id y < n) c.2 (rises 0 (suc c.0) (id x) (omega arith) (omega arith)) in
    let apart : id y ≡ id x → ⊥ = (λ e. omega arith) in
    rw (ne_eqb (id y) (id x) apart) (found_itself id xs (λ j k d h len. rises (suc j) (suc k) d (omega arith) (omega arith)) x i)

-- what is found by its number passes what it passes in the list
pub found_passes : {A : Type 0} (id : A → ℕ) (f : ℕ) (test : A → Bool) (xs : List A) (x : A) → find (λ y. id y == f) xs ≡ Some x → test x ≡ true
    → list_any test xs ≡ true
found_passes id f test xs x e t = any_among test xs x (found_is (λ y. id y == f) xs x e).1 t

-- a number of a list passes
pub contained_passes : (ns : List ℕ) (n : ℕ) → Contains ns n → list_any (λ m. m == n) ns ≡ true
contained_passes ns n h = any_among (λ m. m == n) ns n (contains_among n ns h) (eq-eqb n n refl)
