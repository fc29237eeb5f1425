-- The parts of a list that was mapped.
use Rattle.std.proofs.Common.{◌≡◌, Bool, true, false, cond, List, [], ◌∷◌, map, refl, ◌∙◌, ap}
use Rattle.std.specs.List.{slice_split, onto_first}

map_onto_first : {X Y : Type 0} (f : X → Y) (x : X) (parts : List (List X)) → map (map f) (onto_first x parts) ≡ onto_first (f x) (map (map f) parts)
map_onto_first f x [] = refl
map_onto_first f x (part ∷ parts) = refl

map_cut : {X Y : Type 0} (f : X → Y) (b : Bool) (x : X) (parts : List (List X))
    → map (map f) (cond b ([] ∷ parts) (onto_first x parts)) ≡ cond b ([] ∷ map (map f) parts) (onto_first (f x) (map (map f) parts))
map_cut f true x parts = refl
map_cut f false x parts = map_onto_first f x parts

pub slice_split_map : {X Y : Type 0} (f : X → Y) (p : Y → Bool) (xs : List X) → map (map f) (slice_split (λ x. p (f x)) xs) ≡ slice_split p (map f xs)
slice_split_map f p [] = refl
slice_split_map {X} {Y} f p (x ∷ xs) =
    map_cut f (p (f x)) x (slice_split (λ x. p (f x)) xs)
    ∙ ap (λ (parts : List (List Y)). cond (p (f x)) ([] ∷ parts) (onto_first (f x) parts)) (slice_split_map f p xs)
