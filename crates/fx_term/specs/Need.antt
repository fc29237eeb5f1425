-- How many fiber numbers a term can use.
use Rattle.std.specs.Prelude.{ℕ, ◌+◌, ◌-◌, ◌*◌, ◌≤◌, max}
use Rattle.fx_term.specs.Term.{Term, Let, Handle, If, For, Mask, Poll, OnCancel, Bracket, BracketCase, Start, Join, TryTake, Masked, Opened, InUse, InUseCase}
use Rattle.fx_term.specs.Term.{InRelease, Loop}

-- how many fiber numbers the term can use
abbrev pub need : Term → ℕ
need (Let x a b) = need a + need b
need (Handle a x b) = need a + need b
need (If v a b) = max (need a) (need b)
need (For i c a) = c * need a
need (Mask p a) = need a
need (Poll p a) = need a
need (OnCancel a f) = need a + need f
need (Bracket x a u r) = need a + need u + need r
need (BracketCase x a u y s z e d) = need a + need u + max (need s) (max (need e) (need d))
need (Start h a b) = 1 + need a + need b
need (Join f x a e b c) = max (need a) (max (need b) (need c))
need (TryTake q x a b) = max (need a) (need b)
need (Masked r a) = need a
need (Opened r a) = need a
need (InUse k a r) = need a + need r
need (InUseCase k u y s z e d) = need u + max (need s) (max (need e) (need d))
need (InRelease k a v) = need a
need (Loop i k n a) = (n - k) * need a
need _ = 0

-- how many fiber numbers a script can use at most, besides that of its main fiber
abbrev pub most_need : ℕ
most_need = 4095

-- no part of the term can use more
abbrev pub NeedsFew : Term → Type 0
NeedsFew (Let x a b) = (need (Let x a b) ≤ most_need) × NeedsFew a × NeedsFew b
NeedsFew (Handle a x b) = (need (Handle a x b) ≤ most_need) × NeedsFew a × NeedsFew b
NeedsFew (If v a b) = (need (If v a b) ≤ most_need) × NeedsFew a × NeedsFew b
NeedsFew (For i c a) = (need (For i c a) ≤ most_need) × NeedsFew a
NeedsFew (Mask p a) = (need (Mask p a) ≤ most_need) × NeedsFew a
NeedsFew (Poll p a) = (need (Poll p a) ≤ most_need) × NeedsFew a
NeedsFew (OnCancel a f) = (need (OnCancel a f) ≤ most_need) × NeedsFew a × NeedsFew f
NeedsFew (Bracket x a u r) = (need (Bracket x a u r) ≤ most_need) × NeedsFew a × NeedsFew u × NeedsFew r
NeedsFew (BracketCase x a u y s z e d) =
    (need (BracketCase x a u y s z e d) ≤ most_need) × NeedsFew a × NeedsFew u × NeedsFew s × NeedsFew e × NeedsFew d
NeedsFew (Start h a b) = (need (Start h a b) ≤ most_need) × NeedsFew a × NeedsFew b
NeedsFew (Join f x a e b c) = (need (Join f x a e b c) ≤ most_need) × NeedsFew a × NeedsFew b × NeedsFew c
NeedsFew (TryTake q x a b) = (need (TryTake q x a b) ≤ most_need) × NeedsFew a × NeedsFew b
NeedsFew (Masked r a) = (need (Masked r a) ≤ most_need) × NeedsFew a
NeedsFew (Opened r a) = (need (Opened r a) ≤ most_need) × NeedsFew a
NeedsFew (InUse k a r) = (need (InUse k a r) ≤ most_need) × NeedsFew a × NeedsFew r
NeedsFew (InUseCase k u y s z e d) = (need (InUseCase k u y s z e d) ≤ most_need) × NeedsFew u × NeedsFew s × NeedsFew e × NeedsFew d
NeedsFew (InRelease k a v) = (need (InRelease k a v) ≤ most_need) × NeedsFew a
NeedsFew (Loop i k n a) = (need (Loop i k n a) ≤ most_need) × NeedsFew a
NeedsFew _ = Unit {0}
