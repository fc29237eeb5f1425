-- Terms, fibers and labels with `(pure 0)` for each `(cede)`.
use Rattle.std.specs.Prelude.{List, [], ◌∷◌}
use Rattle.fx_term.specs.declared.node.Arg.TheVariants.{Number}
use Rattle.fx_term.specs.Term.{Term, Pure, Raise, Canceled, Never, Cede, Let, Handle, If, For, Mask, Poll, OnCancel, Bracket, BracketCase, Start, Join, Cancel}
use Rattle.fx_term.specs.Term.{First, Offer, TryOffer, Take, TryTake, Finished, Masked, Opened, InUse, InUseCase, InRelease, Loop, Await}
use Rattle.fx_model.specs.Path.{CleanupTerm, Finalizer, Release}
use Rattle.fx_model.specs.Row.{Label, Silent, Shows, Learns, Starts}
use Rattle.fx_model.specs.Origin.{Origin}
use Rattle.fx_model.specs.Step.{Progress, Runs, Unwinds, CleansUp, HasEnded}

-- in each part of the term, what runs and what does not yet
abbrev pub without_turns : Term → Term
without_turns (Pure a) = Pure a
without_turns (Raise a) = Raise a
without_turns Canceled = Canceled
without_turns Never = Never
without_turns Cede = Pure (Number 0)
without_turns (Let x a b) = Let x (without_turns a) (without_turns b)
without_turns (Handle a x b) = Handle (without_turns a) x (without_turns b)
without_turns (If v a b) = If v (without_turns a) (without_turns b)
without_turns (For i n a) = For i n (without_turns a)
without_turns (Mask p a) = Mask p (without_turns a)
without_turns (Poll p a) = Poll p (without_turns a)
without_turns (OnCancel a f) = OnCancel (without_turns a) (without_turns f)
without_turns (Bracket x a u r) = Bracket x (without_turns a) (without_turns u) (without_turns r)
without_turns (BracketCase x a u y s z e d) =
    BracketCase x (without_turns a) (without_turns u) y (without_turns s) z (without_turns e) (without_turns d)
without_turns (Start h a b) = Start h (without_turns a) (without_turns b)
without_turns (Join f x a e b d) = Join f x (without_turns a) e (without_turns b) (without_turns d)
without_turns (Cancel f) = Cancel f
without_turns (First f g) = First f g
without_turns (Offer q v) = Offer q v
without_turns (TryOffer q v) = TryOffer q v
without_turns (Take q) = Take q
without_turns (TryTake q x a b) = TryTake q x (without_turns a) (without_turns b)
without_turns (Finished v) = Finished v
without_turns (Masked r a) = Masked r (without_turns a)
without_turns (Opened r a) = Opened r (without_turns a)
without_turns (InUse k a r) = InUse k (without_turns a) (without_turns r)
without_turns (InUseCase k a y s z e d) = InUseCase k (without_turns a) y (without_turns s) z (without_turns e) (without_turns d)
without_turns (InRelease k a v) = InRelease k (without_turns a) v
without_turns (Loop i k n a) = Loop i k n (without_turns a)
without_turns (Await f) = Await f

abbrev pub cleanups_without_turns : List CleanupTerm → List CleanupTerm
cleanups_without_turns [] = []
cleanups_without_turns (Finalizer f ∷ xs) = Finalizer (without_turns f) ∷ cleanups_without_turns xs
cleanups_without_turns (Release k r ∷ xs) = Release k (without_turns r) ∷ cleanups_without_turns xs

abbrev pub progress_without_turns : Progress → Progress
progress_without_turns (Runs t) = Runs (without_turns t)
progress_without_turns (Unwinds xs) = Unwinds (cleanups_without_turns xs)
progress_without_turns (CleansUp k t xs) = CleansUp k (without_turns t) (cleanups_without_turns xs)
progress_without_turns (HasEnded o) = HasEnded o

abbrev pub origin_without_turns : Origin → Origin
origin_without_turns b = record b { term = without_turns b.term }

-- what a fiber starts begins so
abbrev pub label_without_turns : Label → Label
label_without_turns Silent = Silent
label_without_turns (Shows e) = Shows e
label_without_turns (Learns f o e) = Learns f o e
label_without_turns (Starts f b) = Starts f (origin_without_turns b)
