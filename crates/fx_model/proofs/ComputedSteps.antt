-- The step that a fiber makes by the answers of the outside, computed: `first` looks at the left fiber first.
use Rattle.std.specs.Prelude.{ℕ, zero, suc, ◌+◌, Bool, true, false, nat_lt, Option, Some, None, option_map, List, [], ◌∷◌}
use Rattle.fx_term.specs.declared.node.Arg.TheVariants.{Number}
use Rattle.fx_term.specs.declared.done.Done.TheVariants.{Val, Err}
use Rattle.fx_term.specs.declared.outcome.Outcome.{Outcome}
use Rattle.fx_term.specs.declared.outcome.Outcome.TheVariants.{Succeeded, Errored}
use Rattle.fx_term.specs.declared.outcome.Outcome.TheVariants as outcome
use Rattle.fx_term.specs.declared.event.Event.{Event}
use Rattle.fx_term.specs.declared.event.Event.TheVariants as event
use Rattle.fx_term.specs.Term.{Term, Pure, Raise, Canceled, Cede, Let, Handle, If, For, Mask, Poll, OnCancel, Bracket, BracketCase, Start, Join, Cancel}
use Rattle.fx_term.specs.Term.{First, Offer, TryOffer, Take, TryTake, Finished, Masked, Opened, InUse, InUseCase, InRelease, Loop, Await, put}
use Rattle.fx_term.specs.Need.{need}
use Rattle.fx_model.specs.Path.{LetIn, HandleIn, OnCancelIn, AcquireIn, AcquireCaseIn, MaskedIn, OpenedIn, InUseIn, InUseCaseIn, InReleaseIn, CleanupTerm}
use Rattle.fx_model.specs.Path.{Finalizer, Release, cleanup_terms, is_open, must_cancel}
use Rattle.fx_model.specs.Row.{Counts, Label, Silent, Shows, Learns, Starts, one_more_mask, numbers_taken, known_canceled}
use Rattle.fx_model.specs.Origin.{child_origin}
use Rattle.fx_model.specs.Row.{part_after}
use Rattle.fx_model.proofs.Moves.{Moved, silently, done_of, move_in, loop_move}
use Rattle.fx_model.specs.Step.{Progress, Runs, Unwinds, CleansUp, HasEnded}

-- what a fiber sees outside: outcomes, room and fronts of queues, and whether it is requested
pub record Answers : Type 0 where
  pub outcome : ℕ → Option Outcome
  pub has_room : ℕ → Bool
  pub front : ℕ → Option ℕ
  pub is_requested : Bool

-- what a step leads to, and with which label
pub record Next : Type 0 where
  pub label : Label
  pub counts : Counts
  pub progress : Progress

abbrev pub showing : Event → Counts → Term → Option Moved
showing e c t = Some (record { label = Shows e; counts = c; term = t })

abbrev pub learning : ℕ → Outcome → Event → Counts → Term → Option Moved
learning f o e c t = Some (record { label = Learns f o e; counts = c; term = t })

abbrev pub if_move : Counts → ℕ → Term → Term → Option Moved
if_move c zero a b = Some (silently c b)
if_move c (suc n) a b = Some (silently c a)

abbrev pub canceled_move : Bool → Counts → Option Moved
canceled_move true c = showing event.SelfRequest (known_canceled c) (Finished (Val 0))
canceled_move false c = None

abbrev pub join_move : Counts → ℕ → ℕ → Term → ℕ → Term → Term → Option Outcome → Option Moved
join_move c f x a e b d None = None
join_move c f x a e b d (Some o) = learning f o (event.Joined f o) c (part_after o x a e b d)

abbrev pub await_move : Counts → ℕ → Option Outcome → Option Moved
await_move c f None = None
await_move c f (Some o) = learning f o (event.Awaited f) c (Finished (Val 0))

-- the left one is looked at first
abbrev pub first_move : Counts → ℕ → ℕ → Option Outcome → Option Outcome → Option Moved
first_move c f g (Some o) p = learning f o (event.First 0) c (Finished (Val 0))
first_move c f g None (Some p) = learning g p (event.First 1) c (Finished (Val 1))
first_move c f g None None = None

abbrev pub offer_move : Counts → ℕ → ℕ → Bool → Option Moved
offer_move c q n true = showing (event.Put q n) c (Finished (Val 0))
offer_move c q n false = None

abbrev pub try_offer_move : Counts → ℕ → ℕ → Bool → Option Moved
try_offer_move c q n true = showing (event.Put q n) c (Finished (Val 1))
try_offer_move c q n false = showing (event.Refused q) c (Finished (Val 0))

abbrev pub take_move : Counts → ℕ → Option ℕ → Option Moved
take_move c q None = None
take_move c q (Some n) = showing (event.Got q n) c (Finished (Val n))

abbrev pub try_take_move : Counts → ℕ → ℕ → Term → Term → Option ℕ → Option Moved
try_take_move c q x a b None = showing (event.Empty q) c b
try_take_move c q x a b (Some n) = showing (event.Got q n) c (put x n a)

-- the row of the table that is made, if any
abbrev pub move : Answers → Bool → Counts → Term → Option Moved
move w k c (Pure (Number n)) = Some (silently c (Finished (Val n)))
move w k c (Raise (Number n)) = Some (silently c (Finished (Err n)))
move w k c Canceled = canceled_move k c
move w k c Cede = Some (silently c (Finished (Val 0)))
move w k c (Let x a b) = move_in c (LetIn x b) (done_of a) (move w k c a)
move w k c (Handle a x b) = move_in c (HandleIn x b) (done_of a) (move w k c a)
move w k c (If (Number n) a b) = if_move c n a b
move w k c (For i n t) = Some (silently c (Loop i 0 n t))
move w k c (Mask p t) = Some (silently (one_more_mask c) (Masked c.masks (put p c.masks t)))
move w k c (Poll (Number r) t) = Some (silently c (Opened r t))
move w k c (OnCancel a f) = move_in c (OnCancelIn f) (done_of a) (move w k c a)
move w k c (Bracket x a u r) = move_in c (AcquireIn x u r) (done_of a) (move w k c a)
move w k c (BracketCase x a u y s z e d) = move_in c (AcquireCaseIn x u y s z e d) (done_of a) (move w k c a)
move w k c (Start h a b) = Some (record { label = Starts c.next (child_origin c.next a); counts = numbers_taken (1 + need a) c; term = put h c.next b })
move w k c (Join (Number f) x a e b d) = join_move c f x a e b d (w.outcome f)
move w k c (Cancel (Number f)) = showing (event.Request f) c (Await f)
move w k c (First (Number f) (Number g)) = first_move c f g (w.outcome f) (w.outcome g)
move w k c (Offer q (Number n)) = offer_move c q n (w.has_room q)
move w k c (TryOffer q (Number n)) = try_offer_move c q n (w.has_room q)
move w k c (Take q) = take_move c q (w.front q)
move w k c (TryTake q x a b) = try_take_move c q x a b (w.front q)
move w k c (Masked r a) = move_in c (MaskedIn r) (done_of a) (move w k c a)
move w k c (Opened r a) = move_in c (OpenedIn r) (done_of a) (move w k c a)
move w k c (InUse i a r) = move_in c (InUseIn i r) (done_of a) (move w k c a)
move w k c (InUseCase i a y s z e d) = move_in c (InUseCaseIn i y s z e d) (done_of a) (move w k c a)
move w k c (InRelease i a v) = move_in c (InReleaseIn i v) (done_of a) (move w k c a)
move w k c (Loop i j n t) = Some (loop_move c i j n t (nat_lt j n))
move w k c (Await f) = await_move c f (w.outcome f)
move w k c _ = None

abbrev pub moves_to : Label → Counts → Progress → Option Next
moves_to l c p = Some (record { label = l; counts = c; progress = p })

abbrev pub runs_on : Moved → Next
runs_on m = record { label = m.label; counts = m.counts; progress = Runs m.term }

abbrev pub cleans_on : Option ℕ → List CleanupTerm → Moved → Next
cleans_on k rest m = record { label = m.label; counts = m.counts; progress = CleansUp k m.term rest }

-- the end of a fiber, or a row
abbrev pub running : Answers → Bool → Counts → Term → Option Next
running w k c (Finished (Val n)) = moves_to (Shows (event.Ended (Succeeded n))) c (HasEnded (Succeeded n))
running w k c (Finished (Err e)) = moves_to (Shows (event.Ended (Errored e))) c (HasEnded (Errored e))
running w k c t = option_map runs_on (move w k c t)

abbrev pub looking : Answers → Bool → Counts → Term → Option Next
looking w true c t = moves_to (Shows event.Seen) (known_canceled c) (Runs t)
looking w false c t = running w false c t

-- at an open place cancellation comes first, and then a request that is seen
abbrev pub at_place : Answers → Bool → Bool → Counts → Term → Option Next
at_place w true place c t = moves_to (Shows event.Cancelled) c (Unwinds (cleanup_terms t))
at_place w false false c t = running w true c t
at_place w false true c t = looking w w.is_requested c t

abbrev pub cleaning : Answers → Counts → Option ℕ → Term → List CleanupTerm → Option Next
cleaning w c None (Finished v) rest = moves_to Silent c (Unwinds rest)
cleaning w c (Some k) (Finished v) rest = moves_to (Shows (event.End k)) c (Unwinds rest)
cleaning w c k t rest = option_map (cleans_on k rest) (move w true c t)

-- the step of a fiber, if it can step
abbrev pub next : Answers → Counts → Progress → Option Next
next w c (Runs t) = at_place w (must_cancel c.known t) (is_open t) c t
next w c (Unwinds []) = moves_to (Shows (event.Ended outcome.Canceled)) c (HasEnded outcome.Canceled)
next w c (Unwinds (Finalizer f ∷ rest)) = moves_to Silent c (CleansUp None f rest)
next w c (Unwinds (Release k r ∷ rest)) = moves_to (Shows (event.Begin k)) c (CleansUp (Some k) r rest)
next w c (CleansUp k t rest) = cleaning w c k t rest
next w c (HasEnded o) = None
