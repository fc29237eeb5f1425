-- How much work is left to a fiber.
use Rattle.std.specs.Prelude.{ℕ, ◌+◌, ◌-◌, ◌*◌, List}
use Rattle.fx_term.specs.Term.{Term, Pure, Raise, Canceled, Never, Cede, Let, Handle, If, For, Mask, Poll, OnCancel, Bracket, BracketCase, Start, Join}
use Rattle.fx_term.specs.Term.{Cancel, First, Offer, TryOffer, Take, TryTake, Finished, Masked, Opened, InUse, InUseCase, InRelease, Loop, Await}
use Rattle.fx_model.specs.Path.{CleanupTerm, over_cleanups}
use Rattle.fx_model.specs.Step.{Progress, Runs, Unwinds, CleansUp, HasEnded}

-- more than the steps that a term can make, with those of the fibers that it starts, one of which sees a request in a step of its own
abbrev pub work : Term → ℕ
work (Pure a) = 2
work (Raise a) = 2
work Canceled = 2
work Never = 1
work Cede = 2
work (Let x a b) = 1 + work a + work b
work (Handle a x b) = 1 + work a + work b
work (If v a b) = 1 + work a + work b
work (For i n a) = 3 + n * (2 + work a)
work (Mask p a) = 2 + work a
work (Poll p a) = 2 + work a
work (OnCancel a f) = 2 + work a + work f
work (Bracket x a u r) = 3 + work a + work u + work r
work (BracketCase x a u y s z e d) = 3 + work a + work u + work s + work e + work d
work (Start h a b) = 3 + work a + work b
work (Join f x a e b c) = 1 + work a + work b + work c
work (Cancel f) = 3
work (First f g) = 2
work (Offer q v) = 2
work (TryOffer q v) = 2
work (Take q) = 2
work (TryTake q x a b) = 1 + work a + work b
work (Finished v) = 1
work (Masked r a) = 1 + work a
work (Opened r a) = 1 + work a
work (InUse k a r) = 2 + work a + work r
work (InUseCase k a y s z e d) = 2 + work a + work s + work e + work d
work (InRelease k a v) = 1 + work a
work (Loop i k n a) = 2 + (n - k) * (2 + work a)
work (Await f) = 2

-- a clean-up is begun and ended beside its own steps
abbrev pub cleanup_work : List CleanupTerm → ℕ
cleanup_work = over_cleanups work 2

-- more than the steps that are left to a fiber and to those that it will start
abbrev pub work_left : Progress → ℕ
work_left (Runs t) = 1 + work t
work_left (Unwinds rest) = 1 + cleanup_work rest
work_left (CleansUp k t rest) = 1 + work t + cleanup_work rest
work_left (HasEnded o) = 0
