-- Which names and which numbers of fibers a fiber uses.
use Rattle.std.specs.Prelude.{◌≡◌, ℕ, Bool, true, None}
use Rattle.fx_term.specs.declared.node.Arg.{Arg}
use Rattle.fx_term.specs.declared.node.Arg.TheVariants.{Number, Slot}
use Rattle.fx_term.specs.Term.{Term, Let, Handle, If, For, Mask, Poll, OnCancel, Bracket, BracketCase, Start, Join, Cancel, First, TryTake, Masked, Opened}
use Rattle.fx_term.specs.Term.{InUse, InUseCase, InRelease, Loop, Await}
use Rattle.fx_term.specs.Scope.{IsScoped}
use Rattle.fx_model.specs.Row.{Label, Starts}
use Rattle.fx_model.specs.Step.{Progress, IsProgressOf}

-- each name in the term is bound in it, and used as what it is
abbrev pub IsClosedTerm : Term → Type 0
IsClosedTerm t = IsScoped (λ x. None) t

-- the argument is a name, or a number that was given
abbrev pub IsArgGiven : (ℕ → Bool) → Arg → Type 0
IsArgGiven is_given (Number n) = is_given n ≡ true
IsArgGiven is_given (Slot x) = Unit {0}

-- each number of a fiber in the term was given
abbrev pub UsesGiven : (ℕ → Bool) → Term → Type 0
UsesGiven is_given (Let x a b) = UsesGiven is_given a × UsesGiven is_given b
UsesGiven is_given (Handle a x b) = UsesGiven is_given a × UsesGiven is_given b
UsesGiven is_given (If v a b) = UsesGiven is_given a × UsesGiven is_given b
UsesGiven is_given (For i n a) = UsesGiven is_given a
UsesGiven is_given (Mask p a) = UsesGiven is_given a
UsesGiven is_given (Poll p a) = UsesGiven is_given a
UsesGiven is_given (OnCancel a f) = UsesGiven is_given a × UsesGiven is_given f
UsesGiven is_given (Bracket x a u r) = UsesGiven is_given a × UsesGiven is_given u × UsesGiven is_given r
UsesGiven is_given (BracketCase x a u y s z e d) =
    UsesGiven is_given a × UsesGiven is_given u × UsesGiven is_given s × UsesGiven is_given e × UsesGiven is_given d
UsesGiven is_given (Start h a b) = UsesGiven is_given a × UsesGiven is_given b
UsesGiven is_given (Join f x a e b c) = IsArgGiven is_given f × UsesGiven is_given a × UsesGiven is_given b × UsesGiven is_given c
UsesGiven is_given (Cancel f) = IsArgGiven is_given f
UsesGiven is_given (First f g) = IsArgGiven is_given f × IsArgGiven is_given g
UsesGiven is_given (TryTake q x a b) = UsesGiven is_given a × UsesGiven is_given b
UsesGiven is_given (Masked r a) = UsesGiven is_given a
UsesGiven is_given (Opened r a) = UsesGiven is_given a
UsesGiven is_given (InUse k a r) = UsesGiven is_given a × UsesGiven is_given r
UsesGiven is_given (InUseCase k a y s z e d) = UsesGiven is_given a × UsesGiven is_given s × UsesGiven is_given e × UsesGiven is_given d
UsesGiven is_given (InRelease k a v) = UsesGiven is_given a
UsesGiven is_given (Loop i k n a) = UsesGiven is_given a
UsesGiven is_given (Await f) = is_given f ≡ true
UsesGiven is_given _ = Unit {0}

-- a term that uses names and numbers so
abbrev pub IsScopedOver : (ℕ → Bool) → Term → Type 0
IsScopedOver is_given t = IsClosedTerm t × UsesGiven is_given t

-- what a fiber runs, and is still to run, uses them so
abbrev pub IsProgressScopedOver : (ℕ → Bool) → Progress → Type 0
IsProgressScopedOver is_given p = IsProgressOf (IsScopedOver is_given) (IsScopedOver is_given) p

-- a fiber that is started begins so
abbrev pub StartsScopedOver : (ℕ → Bool) → Label → Type 0
StartsScopedOver is_given (Starts f b) = IsScopedOver is_given b.term
StartsScopedOver is_given _ = Unit {0}
