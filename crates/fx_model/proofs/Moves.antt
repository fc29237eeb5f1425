-- What a row of the table leads to, by which the steps of a fiber are computed.
use Rattle.std.proofs.Common.{ℕ, ◌+◌, Bool, true, false, Option, Some, None, option_map}
use Rattle.fx_term.specs.declared.done.Done.{Done}
use Rattle.fx_term.specs.declared.done.Done.TheVariants.{Val, Err}
use Rattle.fx_term.specs.declared.event.Event.TheVariants as event
use Rattle.fx_term.specs.Term.{Term, Let, Finished, InUse, InUseCase, InRelease, Loop, put, put_named}
use Rattle.fx_model.specs.Path.{Context, LetIn, HandleIn, AcquireIn, AcquireCaseIn, InUseIn, InUseCaseIn, InReleaseIn, plug}
use Rattle.fx_model.specs.Row.{Counts, one_more_acquired, Label, Silent, Shows, after_release}

-- what a row leads to, and with which label
pub record Moved : Type 0 where
  pub label : Label
  pub counts : Counts
  pub term : Term

abbrev pub silently : Counts → Term → Moved
silently c t = record { label = Silent; counts = c; term = t }

-- the result, where the term is one
abbrev pub done_of : Term → Option Done
done_of (Finished v) = Some v
done_of _ = None

abbrev after_let : Counts → Option ℕ → Term → Done → Moved
after_let c x b (Val n) = silently c (put_named x n b)
after_let c x b (Err e) = silently c (Finished (Err e))

abbrev after_handle : Counts → Option ℕ → Term → Done → Moved
after_handle c x b (Val n) = silently c (Finished (Val n))
after_handle c x b (Err e) = silently c (put_named x e b)

abbrev after_acquire : Counts → Option ℕ → Term → Term → Done → Moved
after_acquire c x u r (Val n) =
    record { label = Shows (event.Acquired c.acquired); counts = one_more_acquired c; term = InUse c.acquired (put_named x n u) (put_named x n r) }
after_acquire c x u r (Err e) = silently c (Finished (Err e))

abbrev after_acquire_case : Counts → ℕ → Term → ℕ → Term → ℕ → Term → Term → Done → Moved
after_acquire_case c x u y s z e d (Val n) = record {
  label = Shows (event.Acquired c.acquired);
  counts = one_more_acquired c;
  term = InUseCase c.acquired (put x n u) y (put x n s) z (put x n e) (put x n d);
}
after_acquire_case c x u y s z e d (Err i) = silently c (Finished (Err i))

abbrev after_use : Counts → ℕ → ℕ → Term → ℕ → Term → Done → Moved
after_use c k y s z e (Val n) = record { label = Shows (event.Begin k); counts = c; term = InRelease k (put y n s) (Val n) }
after_use c k y s z e (Err i) = record { label = Shows (event.Begin k); counts = c; term = InRelease k (put z i e) (Err i) }

-- what a context comes to with a result in it
abbrev pub ends : Counts → Context → Done → Moved
ends c (LetIn x b) v = after_let c x b v
ends c (HandleIn x b) v = after_handle c x b v
ends c (AcquireIn x u r) v = after_acquire c x u r v
ends c (AcquireCaseIn x u y s z e d) v = after_acquire_case c x u y s z e d v
ends c (InUseIn k r) v = record { label = Shows (event.Begin k); counts = c; term = InRelease k r v }
ends c (InUseCaseIn k y s z e d) v = after_use c k y s z e v
ends c (InReleaseIn k v) w = record { label = Shows (event.End k); counts = c; term = Finished (after_release w v) }
ends c _ v = silently c (Finished v)

-- the same in a context
abbrev pub moved_in : Context → Moved → Moved
moved_in f m = record m { term = plug f m.term }

-- the row of a context whose part is finished, else a row of the part
abbrev pub move_in : Counts → Context → Option Done → Option Moved → Option Moved
move_in c f (Some v) moved = Some (ends c f v)
move_in c f None moved = option_map (moved_in f) moved

-- a loop whose turn comes, or has passed
abbrev pub loop_move : Counts → ℕ → ℕ → ℕ → Term → Bool → Moved
loop_move c i k n t true = silently c (Let None (put i k t) (Loop i (k + 1) n t))
loop_move c i k n t false = silently c (Finished (Val 0))
