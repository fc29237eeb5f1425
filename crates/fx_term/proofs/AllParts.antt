-- What holds of each element of a list that is made of others.
use Rattle.std.proofs.Common.{◌≡◌, ◌+◌, ◌-◌, ◌<◌, List, [], ◌∷◌, ◌++◌, length, map, reverse, refl, sym, subst, arith}
use Rattle.std.specs.Prelude.{All}
use Rattle.std.specs.List.{flat_map}
use Rattle.std.proofs.lemmas.List.{get_or_append_left, get_or-append-add, get_or-map, get_or-reverse, length-append, length-map, length-reverse}
use Rattle.std.proofs.lemmas.List.Elements.{All-append, All-nil, All-cons, All-head, All-tail}

module _ {X : Type 0} (P : X → Type 0) where
  pub all_front : (xs ys : List X) → All P (xs ++ ys) → All P xs
  all_front xs ys h k d lt = subst P (get_or_append_left xs ys d k lt) (h k d (omega (arith, length-append xs ys)))

  pub all_back : (xs ys : List X) → All P (xs ++ ys) → All P ys
  all_back xs ys h k d lt = subst P (get_or-append-add xs ys k d) (h (length xs + k) d (omega (arith, length-append xs ys)))

  pub all_middle : (xs : List X) (y : X) (ys : List X) → All P (xs ++ y ∷ ys) → P y
  all_middle xs y ys h = All-head P y ys (all_back xs (y ∷ ys) h)

module _ {X Y : Type 0} (P : Y → Type 0) where
  pub all_from_map : (f : X → Y) (xs : List X) → All P (map f xs) → All (λ x. P (f x)) xs
  all_from_map f xs h k d lt = subst P (get_or-map f xs k d (f d) lt) (h k (f d) (omega (arith, length-map xs f)))

  pub all_map : (f : X → Y) (xs : List X) → All (λ x. P (f x)) xs → All P (map f xs)
  all_map f [] h = All-nil P
  all_map f (x ∷ xs) h = All-cons P (f x) (map f xs) (All-head (λ y. P (f y)) x xs h) (all_map f xs (All-tail (λ y. P (f y)) x xs h))

  pub all_flat_map : (f : X → List Y) (xs : List X) → All (λ x. All P (f x)) xs → All P (flat_map f xs)
  all_flat_map f [] h = All-nil P
  all_flat_map f (x ∷ xs) h = All-append P (f x) (flat_map f xs) (All-head (λ y. All P (f y)) x xs h) (all_flat_map f xs (All-tail (λ y. All P (f y)) x xs h))

  pub all_from_flat_map : (f : X → List Y) (xs : List X) → All P (flat_map f xs) → All (λ x. All P (f x)) xs
  all_from_flat_map f [] h = All-nil (λ y. All P (f y))
  all_from_flat_map f (x ∷ xs) h =
      All-cons (λ y. All P (f y)) x xs (all_front P (f x) (flat_map f xs) h) (all_from_flat_map f xs (all_back P (f x) (flat_map f xs) h))

pub flat_map_same : {X Y : Type 0} (f g : X → List Y) (xs : List X) → All (λ x. f x ≡ g x) xs → flat_map f xs ≡ flat_map g xs
flat_map_same f g [] h = refl
flat_map_same f g (x ∷ xs) h = let here = All-head (λ y. f y ≡ g y) x xs h in let rest = flat_map_same f g xs (All-tail (λ y. f y ≡ g y) x xs h) in cc

pub all_reverse : {X : Type 0} (P : X → Type 0) (xs : List X) → All P xs → All P (reverse xs)
all_reverse P xs h k d lt =
    let within : k < length xs = omega (arith, length-reverse xs) in
    subst P (sym (get_or-reverse xs k d within)) (h (length xs - 1 - k) d (omega arith))
