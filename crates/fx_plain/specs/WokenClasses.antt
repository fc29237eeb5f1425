-- Classes where one fiber was woken and is not moved yet.
use Rattle.std.specs.Prelude.{◌≡◌, ℕ, ◌<◌, ◌||◌, Bool, true, false, Option, Some, None, MatchOption, List, slice_set}
use Rattle.fx_plain.specs.declared.class.Class.{Class}
use Rattle.fx_plain.specs.declared.class.Class.TheVariants.{Able}
use Rattle.fx_plain.specs.ClassSets.{class_at, is_able}

-- the classes, where that fiber was woken, if one was
abbrev pub with_woken : Option ℕ → List Class → List Class
with_woken None classes = classes
with_woken (Some f) classes = slice_set classes f Able

-- who passes the test has at least that number, of one who is able or passes it; or nobody does
abbrev pub IsLeastOrAble : (Class → Bool) → List Class → Option ℕ → Type 0
IsLeastOrAble test classes least =
    MatchOption least ((f : ℕ) → test (class_at classes f) ≡ false)
    (λ n. ((is_able (class_at classes n) || test (class_at classes n)) ≡ true) × ((f : ℕ) → f < n → test (class_at classes f) ≡ false))
