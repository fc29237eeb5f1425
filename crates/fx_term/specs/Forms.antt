-- Which forms a term has.
use Rattle.fx_term.specs.Term.{Term, Let, Handle, If, For, Mask, Poll, OnCancel, Bracket, BracketCase, Start, Join}
use Rattle.fx_term.specs.Term.{TryTake, Finished, Masked, Opened, InUse, InUseCase, InRelease, Loop, Await}

-- the term has none of the nodes that come into being as a term runs, but for Loop
abbrev pub IsCore : Term → Type 0
IsCore (Let x a b) = IsCore a × IsCore b
IsCore (Handle a x b) = IsCore a × IsCore b
IsCore (If v a b) = IsCore a × IsCore b
IsCore (For i n a) = IsCore a
IsCore (Mask p a) = IsCore a
IsCore (Poll p a) = IsCore a
IsCore (OnCancel a f) = IsCore a × IsCore f
IsCore (Bracket x a u r) = IsCore a × IsCore u × IsCore r
IsCore (BracketCase x a u y s z e d) = IsCore a × IsCore u × IsCore s × IsCore e × IsCore d
IsCore (Start h a b) = IsCore a × IsCore b
IsCore (Join f x a e b d) = IsCore a × IsCore b × IsCore d
IsCore (TryTake q x a b) = IsCore a × IsCore b
IsCore (Loop i k n a) = IsCore a
IsCore (Finished v) = ⊥
IsCore (Masked r a) = ⊥
IsCore (Opened r a) = ⊥
IsCore (InUse k a r) = ⊥
IsCore (InUseCase k u y s z e d) = ⊥
IsCore (InRelease k a v) = ⊥
IsCore (Await f) = ⊥
IsCore _ = Unit {0}
