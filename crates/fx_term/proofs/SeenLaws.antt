-- The kinds of the names in scope as a fiber sees them.
use Rattle.std.proofs.Common.{◌≡◌, ℕ, zero, suc, ◌<◌, ◌≤◌, Bool, true, false, Option, Some, None, List, [], ◌∷◌, ◌++◌, length, map, refl, ap, arith}
use Rattle.std.specs.Prelude.{option_map, slice_get}
use Rattle.std.proofs.lemmas.List.{length-map}
use Rattle.std.proofs.lemmas.Option.{slice_get-map}
use Rattle.fx_term.specs.declared.name_kind.NameKind.{NameKind}
use Rattle.fx_term.specs.declared.name_kind.NameKind.TheVariants as kind
use Rattle.fx_term.specs.Scope.{kind_elsewhere}
use Rattle.fx_term.specs.Walk.{kinds_inside, kinds_under}
use Rattle.fx_term.specs.Pending.{with_own, seen_past}
use Rattle.fx_term.proofs.SignatureLaws.{scope_inside}

-- a fiber that is started by a started one sees the same polls of others
elsewhere_again : (k : NameKind) → kind_elsewhere (kind_elsewhere k) ≡ kind_elsewhere k
elsewhere_again kind.Poll = refl
elsewhere_again _ = refl

-- the names in scope inside a part are as many as outside of it, and give the scope there
pub length_inside : (e : Bool) (kinds : List NameKind) → length (kinds_inside e kinds) ≡ length kinds
length_inside true kinds = length-map kinds kind_elsewhere
length_inside false kinds = refl

pub scope_of_inside : (e : Bool) (kinds : List NameKind)
    → (λ (y : ℕ). slice_get (kinds_inside e kinds) y) ≡ scope_inside e (λ y. slice_get kinds y)
scope_of_inside true kinds = λ i y. slice_get-map kind_elsewhere kinds y i
scope_of_inside false kinds = refl

-- the names that a fiber sees are those in scope
pub length_seen : (foreign : ℕ) (kinds : List NameKind) → length (seen_past foreign kinds) ≡ length kinds
length_seen zero kinds = refl
length_seen (suc n) [] = refl
length_seen (suc n) (k ∷ kinds) = ap suc (length_seen n kinds)

-- those outside of the fiber are seen as others, and its own as they are
pub get_foreign : (foreign : ℕ) (kinds : List NameKind) (i : ℕ) → i < foreign
    → slice_get (seen_past foreign kinds) i ≡ option_map kind_elsewhere (slice_get kinds i)
get_foreign zero kinds i h = absurd (omega arith)
get_foreign (suc n) [] i h = refl
get_foreign (suc n) (k ∷ kinds) zero h = refl
get_foreign (suc n) (k ∷ kinds) (suc i) h = get_foreign n kinds i (omega arith)

pub get_own : (foreign : ℕ) (kinds : List NameKind) (i : ℕ) → foreign ≤ i → slice_get (seen_past foreign kinds) i ≡ slice_get kinds i
get_own zero kinds i h = refl
get_own (suc n) [] i h = refl
get_own (suc n) (k ∷ kinds) zero h = absurd (omega arith)
get_own (suc n) (k ∷ kinds) (suc i) h = get_own n kinds i (omega arith)

-- one more name is bound in the fiber itself
seen_push : (foreign : ℕ) (kinds : List NameKind) (k : NameKind) → foreign ≤ length kinds
    → seen_past foreign (kinds ++ k ∷ []) ≡ seen_past foreign kinds ++ k ∷ []
seen_push zero kinds k le = refl
seen_push (suc n) [] k le = absurd (omega arith)
seen_push (suc n) (j ∷ kinds) k le = ap (λ ks. kind_elsewhere j ∷ ks) (seen_push n kinds k (omega arith))

pub seen_under : (foreign : ℕ) (kinds : List NameKind) (k : NameKind) (x : Option ℕ) → foreign ≤ length kinds
    → seen_past foreign (with_own (option_map (λ y. k) x) kinds) ≡ kinds_under x k (seen_past foreign kinds)
seen_under foreign kinds k None le = refl
seen_under foreign kinds k (Some x) le = seen_push foreign kinds k le

-- where all names are outside of the fiber, it sees them as a part of the node that starts it does
pub seen_all : (foreign : ℕ) (kinds : List NameKind) → seen_past (length kinds) kinds ≡ map kind_elsewhere (seen_past foreign kinds)
seen_all zero [] = refl
seen_all (suc n) [] = refl
seen_all zero (k ∷ kinds) = ap (λ ks. kind_elsewhere k ∷ ks) (seen_all zero kinds)
seen_all (suc n) (k ∷ kinds) = let here = elsewhere_again k in let rest = seen_all n kinds in cc
