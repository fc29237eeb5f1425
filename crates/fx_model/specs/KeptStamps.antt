-- The stamps that a fiber keeps with its trace.
use Rattle.std.specs.Prelude.{◌≡◌, ℕ, zero, suc, List, [], ◌∷◌, max}
use Rattle.fx_term.specs.declared.stamped.Stamped.{Stamped}
use Rattle.fx_model.specs.Stamps.{HasNoCause, one_more}

-- the last stamp so far, or that of the start
abbrev pub last_stamp : ℕ → List Stamped → ℕ
last_stamp began [] = began
last_stamp began (x ∷ xs) = last_stamp x.stamp xs

-- an event with this stamp and this cause's stamp, after one with that stamp
pub record IsNext (before : ℕ) (x : Stamped) (cause : ℕ) : Type 0 where
  pub is : x.stamp ≡ one_more (max before cause)
  pub none : HasNoCause x.event → cause ≡ 0

-- each event of a trace is the next after the one before it; the causes' stamps are stored nowhere
abbrev pub AreKept : ℕ → List Stamped → List ℕ → Type 0
AreKept began [] [] = Unit {0}
AreKept began (x ∷ xs) (c ∷ cs) = IsNext began x c × AreKept x.stamp xs cs
AreKept began _ _ = ⊥

-- the number at a place, and 0 past the end
abbrev pub number_in : List ℕ → ℕ → ℕ
number_in [] i = 0
number_in (x ∷ xs) zero = x
number_in (x ∷ xs) (suc i) = number_in xs i
