-- Terms of the script language and running terms, and the number that takes the place of a name.
-- A name is the number of names in whose scope its binder stands. So no binder binds a name that is in scope, and a name keeps its number wherever its term is
-- moved.
use Rattle.std.specs.Prelude.{ℕ, if◌then◌else◌, ◌==◌, Option, Some, None}
use Rattle.fx_term.specs.declared.node.Arg.{Arg}
use Rattle.fx_term.specs.declared.node.Arg.TheVariants.{Number, Slot}
use Rattle.fx_term.specs.declared.done.Done.{Done}

-- a term, or a running term: the nodes from Finished on come into being as a term runs
pub data Term : Type 0 where
  Pure : Arg → Term
  Raise : Arg → Term
  Canceled : Term
  Never : Term
  Cede : Term
  Let : Option ℕ → Term → Term → Term
  Handle : Term → Option ℕ → Term → Term
  If : Arg → Term → Term → Term
  For : ℕ → ℕ → Term → Term
  Mask : ℕ → Term → Term
  Poll : Arg → Term → Term
  OnCancel : Term → Term → Term
  Bracket : Option ℕ → Term → Term → Term → Term
  BracketCase : ℕ → Term → Term → ℕ → Term → ℕ → Term → Term → Term
  Start : ℕ → Term → Term → Term
  Join : Arg → ℕ → Term → ℕ → Term → Term → Term
  Cancel : Arg → Term
  First : Arg → Arg → Term
  Offer : ℕ → Arg → Term
  TryOffer : ℕ → Arg → Term
  Take : ℕ → Term
  TryTake : ℕ → ℕ → Term → Term → Term
  Finished : Done → Term
  Masked : ℕ → Term → Term
  Opened : ℕ → Term → Term
  InUse : ℕ → Term → Term → Term
  InUseCase : ℕ → Term → ℕ → Term → ℕ → Term → Term → Term
  InRelease : ℕ → Term → Done → Term
  Loop : ℕ → ℕ → ℕ → Term → Term
  Await : ℕ → Term

-- the argument with n for the name x
abbrev pub put_arg : ℕ → ℕ → Arg → Arg
put_arg x n (Number m) = Number m
put_arg x n (Slot y) = if y == x then Number n else Slot y

-- the term with n for the name x, which no binder in it binds
abbrev pub put : ℕ → ℕ → Term → Term
put x n (Pure a) = Pure (put_arg x n a)
put x n (Raise a) = Raise (put_arg x n a)
put x n Canceled = Canceled
put x n Never = Never
put x n Cede = Cede
put x n (Let y a b) = Let y (put x n a) (put x n b)
put x n (Handle a y b) = Handle (put x n a) y (put x n b)
put x n (If v a b) = If (put_arg x n v) (put x n a) (put x n b)
put x n (For y c a) = For y c (put x n a)
put x n (Mask y a) = Mask y (put x n a)
put x n (Poll p a) = Poll (put_arg x n p) (put x n a)
put x n (OnCancel a f) = OnCancel (put x n a) (put x n f)
put x n (Bracket y a u r) = Bracket y (put x n a) (put x n u) (put x n r)
put x n (BracketCase y a u z s w e d) = BracketCase y (put x n a) (put x n u) z (put x n s) w (put x n e) (put x n d)
put x n (Start y a b) = Start y (put x n a) (put x n b)
put x n (Join f y a z b c) = Join (put_arg x n f) y (put x n a) z (put x n b) (put x n c)
put x n (Cancel f) = Cancel (put_arg x n f)
put x n (First f g) = First (put_arg x n f) (put_arg x n g)
put x n (Offer q v) = Offer q (put_arg x n v)
put x n (TryOffer q v) = TryOffer q (put_arg x n v)
put x n (Take q) = Take q
put x n (TryTake q y a b) = TryTake q y (put x n a) (put x n b)
put x n (Finished v) = Finished v
put x n (Masked r a) = Masked r (put x n a)
put x n (Opened r a) = Opened r (put x n a)
put x n (InUse k a r) = InUse k (put x n a) (put x n r)
put x n (InUseCase k u y s z e d) = InUseCase k (put x n u) y (put x n s) z (put x n e) (put x n d)
put x n (InRelease k a v) = InRelease k (put x n a) v
put x n (Loop y i c a) = Loop y i c (put x n a)
put x n (Await f) = Await f

-- the same for a binder that may have no name
abbrev pub put_named : Option ℕ → ℕ → Term → Term
put_named None n t = t
put_named (Some x) n t = put x n t
