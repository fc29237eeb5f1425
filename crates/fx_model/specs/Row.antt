-- The table of rules of a fiber.
use Rattle.std.specs.Prelude.{◌≡◌, ℕ, suc, ◌+◌, ◌<◌, ◌≤◌, Bool, true, Option, None}
use Rattle.fx_term.specs.declared.node.Arg.TheVariants.{Number}
use Rattle.fx_term.specs.declared.done.Done.{Done}
use Rattle.fx_term.specs.declared.done.Done.TheVariants.{Val, Err}
use Rattle.fx_term.specs.declared.outcome.Outcome.{Outcome}
use Rattle.fx_term.specs.declared.outcome.Outcome.TheVariants.{Succeeded, Errored}
use Rattle.fx_term.specs.declared.outcome.Outcome.TheVariants as outcome
use Rattle.fx_term.specs.declared.event.Event.{Event}
use Rattle.fx_term.specs.declared.event.Event.TheVariants as event
use Rattle.fx_term.specs.Term.{Term, Pure, Raise, Canceled, Cede, Let, Handle, If, For, Mask, Poll, OnCancel, Bracket, BracketCase, Start, Join, Cancel}
use Rattle.fx_term.specs.Term.{First, Offer, TryOffer, Take, TryTake, Finished, Masked, Opened, InUse, InUseCase, InRelease, Loop, Await, put, put_named}
use Rattle.fx_term.specs.Need.{need}
use Rattle.fx_model.specs.Path.{Context, plug}
use Rattle.fx_model.specs.Origin.{Origin, child_origin}

-- what a fiber keeps beside its term: how many masks it entered and how many brackets it acquired, the rest of its range of fiber numbers, and whether it is
-- known to be canceled
pub record Counts : Type 0 where
  pub masks : ℕ
  pub acquired : ℕ
  pub next : ℕ
  pub end : ℕ
  pub known : Bool

-- the numbers from `next` to below `end`
pub record Range : Type 0 where
  pub next : ℕ
  pub end : ℕ

-- those that a fiber has left for the fibers that it starts
abbrev pub range_of : Counts → Range
range_of c = record { next = c.next; end = c.end }

-- what a step shows of itself: nothing; an event; an event for which a fiber had to have ended, with that outcome; or the start of a fiber
pub data Label : Type 0 where
  Silent : Label
  Shows : Event → Label
  Learns : ℕ → Outcome → Event → Label
  Starts : ℕ → Origin → Label

-- the counts after a step of one of the four kinds that change them
abbrev pub one_more_mask : Counts → Counts
one_more_mask c = record c { masks = c.masks + 1 }

abbrev pub one_more_acquired : Counts → Counts
one_more_acquired c = record c { acquired = c.acquired + 1 }

abbrev pub numbers_taken : ℕ → Counts → Counts
numbers_taken n c = record c { next = c.next + n }

abbrev pub known_canceled : Counts → Counts
known_canceled c = record c { known = true }

abbrev pub part_after : Outcome → ℕ → Term → ℕ → Term → Term → Term
part_after (Succeeded n) x a e b c = put x n a
part_after (Errored n) x a e b c = put e n b
part_after outcome.Canceled x a e b c = c

-- the value of a `release` where the release ended with w: an error of it is raised where the use succeeded
abbrev pub after_release : Done → Done → Done
after_release (Err e) (Val n) = Err e
after_release w v = v

-- A rule of the table, at a position that is closed or not: from these counts and this term, with this label, to those counts and that term.
-- The first rows are those of a leaf, and of a result with its context; the last one is a row of the part of a context that runs.
pub data Row (closed : Bool) (c : Counts) : Term → Label → Counts → Term → Type 0 where
  pure : {n : ℕ} → Row closed c (Pure (Number n)) Silent c (Finished (Val n))
  raise : {n : ℕ} → Row closed c (Raise (Number n)) Silent c (Finished (Err n))
  cede : Row closed c Cede Silent c (Finished (Val 0))
  self_request : closed ≡ true → Row closed c Canceled (Shows event.SelfRequest) (known_canceled c) (Finished (Val 0))
  if_not_zero : {n : ℕ} {a b : Term} → Row closed c (If (Number (suc n)) a b) Silent c a
  if_zero : {a b : Term} → Row closed c (If (Number 0) a b) Silent c b
  for_begins : {i n : ℕ} {t : Term} → Row closed c (For i n t) Silent c (Loop i 0 n t)
  loop_turns : {i k n : ℕ} {t : Term} → k < n → Row closed c (Loop i k n t) Silent c (Let None (put i k t) (Loop i (k + 1) n t))
  loop_ends : {i k n : ℕ} {t : Term} → n ≤ k → Row closed c (Loop i k n t) Silent c (Finished (Val 0))
  let_value : {x : Option ℕ} {n : ℕ} {b : Term} → Row closed c (Let x (Finished (Val n)) b) Silent c (put_named x n b)
  let_error : {x : Option ℕ} {e : ℕ} {b : Term} → Row closed c (Let x (Finished (Err e)) b) Silent c (Finished (Err e))
  handle_value : {x : Option ℕ} {n : ℕ} {b : Term} → Row closed c (Handle (Finished (Val n)) x b) Silent c (Finished (Val n))
  handle_error : {x : Option ℕ} {e : ℕ} {b : Term} → Row closed c (Handle (Finished (Err e)) x b) Silent c (put_named x e b)
  mask : {p : ℕ} {t : Term} → Row closed c (Mask p t) Silent (one_more_mask c) (Masked c.masks (put p c.masks t))
  poll : {r : ℕ} {t : Term} → Row closed c (Poll (Number r) t) Silent c (Opened r t)
  masked_ends : {r : ℕ} {v : Done} → Row closed c (Masked r (Finished v)) Silent c (Finished v)
  opened_ends : {r : ℕ} {v : Done} → Row closed c (Opened r (Finished v)) Silent c (Finished v)
  oncancel_ends : {v : Done} {f : Term} → Row closed c (OnCancel (Finished v) f) Silent c (Finished v)
  acquired : {x : Option ℕ} {n : ℕ} {u r : Term}
      → Row closed c (Bracket x (Finished (Val n)) u r) (Shows (event.Acquired c.acquired)) (one_more_acquired c)
      (InUse c.acquired (put_named x n u) (put_named x n r))
  acquire_fails : {x : Option ℕ} {e : ℕ} {u r : Term} → Row closed c (Bracket x (Finished (Err e)) u r) Silent c (Finished (Err e))
  acquired_case : {x y z n : ℕ} {u s e d : Term}
      → Row closed c (BracketCase x (Finished (Val n)) u y s z e d) (Shows (event.Acquired c.acquired)) (one_more_acquired c)
      (InUseCase c.acquired (put x n u) y (put x n s) z (put x n e) (put x n d))
  acquire_case_fails : {x y z i : ℕ} {u s e d : Term} → Row closed c (BracketCase x (Finished (Err i)) u y s z e d) Silent c (Finished (Err i))
  used : {k : ℕ} {v : Done} {r : Term} → Row closed c (InUse k (Finished v) r) (Shows (event.Begin k)) c (InRelease k r v)
  use_succeeded : {k y z n : ℕ} {s e d : Term}
      → Row closed c (InUseCase k (Finished (Val n)) y s z e d) (Shows (event.Begin k)) c (InRelease k (put y n s) (Val n))
  use_erred : {k y z i : ℕ} {s e d : Term}
      → Row closed c (InUseCase k (Finished (Err i)) y s z e d) (Shows (event.Begin k)) c (InRelease k (put z i e) (Err i))
  released : {k : ℕ} {w v : Done} → Row closed c (InRelease k (Finished w) v) (Shows (event.End k)) c (Finished (after_release w v))
  start : {h : ℕ} {a b : Term} → Row closed c (Start h a b) (Starts c.next (child_origin c.next a)) (numbers_taken (1 + need a) c) (put h c.next b)
  joined : {f : ℕ} {x e : ℕ} {a b d : Term} {o : Outcome} → Row closed c (Join (Number f) x a e b d) (Learns f o (event.Joined f o)) c (part_after o x a e b d)
  request : {f : ℕ} → Row closed c (Cancel (Number f)) (Shows (event.Request f)) c (Await f)
  awaited : {f : ℕ} {o : Outcome} → Row closed c (Await f) (Learns f o (event.Awaited f)) c (Finished (Val 0))
  first_left : {f g : ℕ} {o : Outcome} → Row closed c (First (Number f) (Number g)) (Learns f o (event.First 0)) c (Finished (Val 0))
  first_right : {f g : ℕ} {o : Outcome} → Row closed c (First (Number f) (Number g)) (Learns g o (event.First 1)) c (Finished (Val 1))
  offered : {q n : ℕ} → Row closed c (Offer q (Number n)) (Shows (event.Put q n)) c (Finished (Val 0))
  tried_offer : {q n : ℕ} → Row closed c (TryOffer q (Number n)) (Shows (event.Put q n)) c (Finished (Val 1))
  refused : {q n : ℕ} → Row closed c (TryOffer q (Number n)) (Shows (event.Refused q)) c (Finished (Val 0))
  taken : {q n : ℕ} → Row closed c (Take q) (Shows (event.Got q n)) c (Finished (Val n))
  tried_take : {q n x : ℕ} {a b : Term} → Row closed c (TryTake q x a b) (Shows (event.Got q n)) c (put x n a)
  found_empty : {q x : ℕ} {a b : Term} → Row closed c (TryTake q x a b) (Shows (event.Empty q)) c b
  inside : (f : Context) {t t' a a' : Term} {l : Label} {d : Counts} → t ≡ plug f a → t' ≡ plug f a' → Row closed c a l d a' → Row closed c t l d t'
