-- Which queues a term and an event name.
use Rattle.std.specs.Prelude.{ℕ, ◌<◌}
use Rattle.fx_term.specs.declared.event.Event.{Event}
use Rattle.fx_term.specs.declared.event.Event.TheVariants as event
use Rattle.fx_term.specs.Term.{Term, Let, Handle, If, For, Mask, Poll, OnCancel, Bracket, BracketCase, Start, Join, Offer, TryOffer, Take, TryTake, Masked}
use Rattle.fx_term.specs.Term.{Opened, InUse, InUseCase, InRelease, Loop}

-- each queue that the term names has a number below this
abbrev pub NamesQueuesBelow : ℕ → Term → Type 0
NamesQueuesBelow n (Let x a b) = NamesQueuesBelow n a × NamesQueuesBelow n b
NamesQueuesBelow n (Handle a x b) = NamesQueuesBelow n a × NamesQueuesBelow n b
NamesQueuesBelow n (If v a b) = NamesQueuesBelow n a × NamesQueuesBelow n b
NamesQueuesBelow n (For i c a) = NamesQueuesBelow n a
NamesQueuesBelow n (Mask p a) = NamesQueuesBelow n a
NamesQueuesBelow n (Poll p a) = NamesQueuesBelow n a
NamesQueuesBelow n (OnCancel a f) = NamesQueuesBelow n a × NamesQueuesBelow n f
NamesQueuesBelow n (Bracket x a u r) = NamesQueuesBelow n a × NamesQueuesBelow n u × NamesQueuesBelow n r
NamesQueuesBelow n (BracketCase x a u y s z e d) =
    NamesQueuesBelow n a × NamesQueuesBelow n u × NamesQueuesBelow n s × NamesQueuesBelow n e × NamesQueuesBelow n d
NamesQueuesBelow n (Start h a b) = NamesQueuesBelow n a × NamesQueuesBelow n b
NamesQueuesBelow n (Join f x a e b c) = NamesQueuesBelow n a × NamesQueuesBelow n b × NamesQueuesBelow n c
NamesQueuesBelow n (Offer q v) = q < n
NamesQueuesBelow n (TryOffer q v) = q < n
NamesQueuesBelow n (Take q) = q < n
NamesQueuesBelow n (TryTake q x a b) = (q < n) × NamesQueuesBelow n a × NamesQueuesBelow n b
NamesQueuesBelow n (Masked r a) = NamesQueuesBelow n a
NamesQueuesBelow n (Opened r a) = NamesQueuesBelow n a
NamesQueuesBelow n (InUse k a r) = NamesQueuesBelow n a × NamesQueuesBelow n r
NamesQueuesBelow n (InUseCase k u y s z e d) = NamesQueuesBelow n u × NamesQueuesBelow n s × NamesQueuesBelow n e × NamesQueuesBelow n d
NamesQueuesBelow n (InRelease k a v) = NamesQueuesBelow n a
NamesQueuesBelow n (Loop i k c a) = NamesQueuesBelow n a
NamesQueuesBelow n _ = Unit {0}

-- a queue that the event names has a number below this
abbrev pub NamesQueueBelow : ℕ → Event → Type 0
NamesQueueBelow n (event.Put q v) = q < n
NamesQueueBelow n (event.Got q v) = q < n
NamesQueueBelow n (event.Refused q) = q < n
NamesQueueBelow n (event.Empty q) = q < n
NamesQueueBelow n _ = Unit {0}
