-- When a port on threads agrees with its fiber's deeds, and what its calls answer and change. What a worker lends to it is seen as marks: the fibers that are
-- to be woken.
use Rattle.std.specs.Prelude.{◌≡◌, ℕ, ◌<◌, ◌≤◌, Bool, true, List, Option, Some, None, IfSome, slice_set}
use Rattle.fx_term.specs.declared.begin.Begin.{Begin}
use Rattle.fx_term.specs.declared.node.Node.{Node}
use Rattle.fx_term.specs.declared.offered.Offered.{Offered}
use Rattle.fx_term.specs.declared.offered.Offered.TheVariants.{Done, Full}
use Rattle.fx_term.specs.declared.outcome.Outcome.{Outcome}
use Rattle.fx_model.specs.declared.source.Source.{Source}
use Rattle.fx_fiber.specs.StampedDeed.{StampedDeed, deeds_of}
use Rattle.fx_fiber.specs.Calls.{PortCalls}
use Rattle.fx_fiber.specs.Theory.{Theory}
use Rattle.fx_word.specs.Entry.{asking, looking, finished, peeked}
use Rattle.fx_word.specs.SeatView.{with_own, IsAsked, Knows, KnowsRequestStamp, KnowsEndStamp}
use Rattle.fx_queue.specs.Queues.{HeldPass}
use Rattle.fx_port.specs.Marks.{KeepsMarks, TakesMark}
use Rattle.fx_port.specs.Rows.{PutsInto, GetsFrom, FoundFullAt, FoundEmptyAt}
use Rattle.fx_port.specs.WordsAgree.{WordsAgree, WordsStampsAgree}
use Rattle.fx_port.specs.PassesAgree.{PassesAgree, PassesStampsAgree}
use Rattle.fx_port.specs.PortView.{PortView, with_entry, kept_port, given_port, facts_of}

-- exactly what the fiber did is in its seat and its passes, and the stamps there are the numbers of its deeds
pub record ThreadAgrees (p : PortView) (deeds : List StampedDeed) : Type 0 where
  pub words : WordsAgree p.words.own p.noted (deeds_of deeds)
  pub words_stamps : WordsStampsAgree p.words.own p.noted deeds
  pub passes : PassesAgree p.words.own.id p.passes (deeds_of deeds)
  pub passes_stamps : PassesStampsAgree p.words.own.id p.passes deeds

abbrev pub with_passes : PortView → List HeldPass → PortView
with_passes p passes = record p { passes = passes }

-- a request that the port made itself, or saw before, is seen again, with no lower stamp
abbrev pub LooksOn : PortView → List Bool → Option ℕ → PortView → List Bool → Type 0
LooksOn p w found p' w' = (p' ≡ with_entry p (looking found p.words.own)) × (IsAsked p.words → (t : ℕ) × (found ≡ Some t))
    × IfSome found (λ (stamp : ℕ). (t : ℕ) → KnowsRequestStamp p.words t → t ≤ stamp) × KeepsMarks w w'

-- a request of a fiber that there is is in the port's own entry, and wakes it; of another number nothing is done
abbrev pub RequestsOn : ℕ → PortView → List Bool → ℕ → ℕ → PortView → List Bool → Type 0
RequestsOn fibers p w f stamp p' w' =
    (f < fibers → (p' ≡ with_entry p (asking f stamp p.words.own)) × (w' ≡ slice_set w f true))
    × (fibers ≤ f → (p' ≡ p) × (w' ≡ w))

-- an outcome that the port told or learnt before is found again, with the same stamp
abbrev pub PeeksOn : ℕ → PortView → List Bool → ℕ → Option (Outcome × ℕ) → PortView → List Bool → Type 0
PeeksOn fibers p w f (Some x) p' w' = (p' ≡ with_entry p (peeked f x.0 x.1 p.words.own)) × ((k : Outcome) → Knows p.words f k → x.0 ≡ k)
    × ((t : ℕ) → KnowsEndStamp p.words f t → x.1 ≡ t) × KeepsMarks w w'
PeeksOn fibers p w f None p' w' = (f < fibers → (k : Outcome) → Knows p.words f k → ⊥) × (p' ≡ p) × (w' ≡ w)

-- an element was put with its stamp, after a history in which the queue had room; a refusal was at a moment at which it was full
abbrev pub OffersOn : PortView → List Bool → ℕ → ℕ → ℕ → Offered → PortView → List Bool → Type 0
OffersOn p w q n stamp Done p' w' = PutsInto p.passes q n stamp p'.passes × (p' ≡ with_passes p p'.passes) × KeepsMarks w w'
OffersOn p w q n stamp Full p' w' = FoundFullAt p.passes q × (p' ≡ p) × (w' ≡ w)

-- an element was taken that was at the front, with the stamp of its put; a refusal was at a moment at which the queue was empty
abbrev pub TakesOn : PortView → List Bool → ℕ → Option (ℕ × ℕ) → PortView → List Bool → Type 0
TakesOn p w q (Some x) p' w' = GetsFrom p.passes q x.0 x.1 p'.passes × (p' ≡ with_passes p p'.passes) × KeepsMarks w w'
TakesOn p w q None p' w' = FoundEmptyAt p.passes q × (p' ≡ p) × (w' ≡ w)

abbrev pub StartsOn : ℕ → PortView → List Bool → ℕ → Begin → PortView → PortView → List Bool → Type 0
StartsOn fibers p w f b child p' w' = (child ≡ given_port fibers b p) × (p' ≡ kept_port b p) × (w' ≡ w)

abbrev pub FinishesOn : PortView → List Bool → Outcome → ℕ → PortView → List Bool → Type 0
FinishesOn p w o stamp p' w' = (p' ≡ with_entry p (finished o stamp p.words.own)) × KeepsMarks w w'

-- a request from outside of a fiber that there is is in the port's own entry with the stamp 0, is noted there, and wakes it
abbrev pub OutsidesOn : ℕ → PortView → List Bool → ℕ → PortView → List Bool → Type 0
OutsidesOn fibers p w f p' w' =
    (f < fibers → (p' ≡ record p { words = with_own p.words (asking f 0 p.words.own); noted = slice_set p.noted f true }) × (w' ≡ slice_set w f true))
    × (fibers ≤ f → (p' ≡ p) × (w' ≡ w))

abbrev pub WaitsOn : PortView → List Bool → Source → PortView → List Bool → Type 0
WaitsOn p w source p' w' = (p' ≡ p) × (w' ≡ w)

abbrev pub thread_calls : ℕ → PortCalls PortView (List Bool)
thread_calls fibers = record {
  looks = LooksOn;
  requests = RequestsOn fibers;
  peeks = PeeksOn fibers;
  offers = OffersOn;
  takes = TakesOn;
  starts = StartsOn fibers;
  finishes = FinishesOn;
  outsides = OutsidesOn fibers;
  waits = WaitsOn;
  goes_on = λ p w. Unit {0};
  wakes = TakesMark;
}

-- these ports, of fibers that run that code, over so many words, where these numbers may be requested from outside
abbrev pub thread_theory : List Node → ℕ → (ℕ → Bool) → Theory PortView (List Bool)
thread_theory nodes fibers may = record {
  code = nodes;
  total = fibers;
  may = may;
  calls = thread_calls fibers;
  facts = facts_of nodes;
  agrees = ThreadAgrees;
}
