-- What a step of a fiber does: one rule, its event in the trace, and the calls that it makes of the port; or nothing, where the fiber waits.
use Rattle.std.specs.Prelude.{◌≡◌, ℕ, suc, Bool, true, false, Option, Some, None, option_and_then, List, [], ◌∷◌, ◌++◌}
use Rattle.fx_term.specs.declared.begin.Begin.{Begin}
use Rattle.fx_term.specs.declared.node.Node.{Node}
use Rattle.fx_term.specs.declared.node.Arg.TheVariants.{Number}
use Rattle.fx_term.specs.declared.event.Event.TheVariants as event
use Rattle.fx_term.specs.Term.{Term, Cede, First, Offer, TryOffer}
use Rattle.fx_model.specs.Row.{Label, Silent, Shows, Learns, Starts}
use Rattle.fx_model.specs.Step.{leaf_at, must_cancel_at, looks_first, Step}
use Rattle.fx_model.specs.Run.{events}
use Rattle.fx_model.specs.Origin.{Origin, origin_of}
use Rattle.fx_fiber.specs.Calls.{PortCalls}
use Rattle.fx_fiber.specs.StampedRun.{next_stamp, IsUncaused, stamp_of_event}
use Rattle.fx_fiber.specs.PortFacts.{first_facts}
use Rattle.fx_fiber.specs.Theory.{Theory}
use Rattle.fx_model.specs.declared.source.Source.{Source}
use Rattle.fx_model.specs.declared.source.Source.TheVariants.{Nothing, Outcome, Either, Room, Element}
use Rattle.fx_model.specs.Waiting.{wait_at}
use Rattle.fx_term.specs.declared.offered.Offered.TheVariants.{Done, Full}
use Rattle.fx_fiber.specs.declared.stepped.Stepped.{Stepped}
use Rattle.fx_fiber.specs.declared.stepped.Stepped.TheVariants.{Went, Child, Waits, Gave, Ended}
use Rattle.fx_fiber.specs.Fiber.{FiberView, clock, progress, IsUnchanged, IsAtFirst}

-- it is `cede`
abbrev pub is_yielding : Option Term → Bool
is_yielding (Some Cede) = true
is_yielding _ = false

-- what a leaf offers to a queue; nothing is offered at other leaves
abbrev pub value_offered : Option Term → ℕ
value_offered (Some (Offer q (Number n))) = n
value_offered (Some (TryOffer q (Number n))) = n
value_offered _ = 0

-- the answer of a step that shows nothing, by whether its leaf is `cede`
abbrev pub AnswersSilently : {P S : Type 0} → Bool → Stepped P S → Type 0
AnswersSilently true answer = answer ≡ Gave
AnswersSilently false answer = answer ≡ Went

-- the answer of a step at this leaf with this label: that of a start gives the child, before its first step
abbrev pub Answers : {P S : Type 0} → List Node → Option Term → Label → Stepped P S → Type 0
Answers nodes leaf Silent answer = AnswersSilently (is_yielding leaf) answer
Answers nodes leaf (Shows (event.Ended o)) answer = answer ≡ Ended
Answers nodes leaf (Shows e) answer = answer ≡ Went
Answers nodes leaf (Learns f o e) answer = answer ≡ Went
Answers nodes leaf (Starts f b) (Child child) = IsAtFirst nodes b child
Answers nodes leaf (Starts f b) answer = ⊥

module _ {P S : Type 0} (calls : PortCalls P S) where
  -- a look found nothing, where one is due
  abbrev pub LooksInVain : Bool → P → S → Type 0
  LooksInVain true p s = calls.looks p s None p s
  LooksInVain false p s = Unit {0}

  -- the look before a step with this label: one in vain, but where the step sees a request
  abbrev pub LooksBefore : Bool → Label → P → S → Type 0
  LooksBefore due (Shows event.Seen) p s = Unit {0}
  LooksBefore due _ p s = LooksInVain due p s

  -- where a step at `first` learns of the right fiber, it asked for the left one before, in vain
  abbrev pub PeeksLeft : Label → Option Term → P → S → Type 0
  PeeksLeft (Learns f o (event.First (suc n))) (Some (First (Number left) right)) p s = calls.peeks p s left None p s
  PeeksLeft _ leaf p s = Unit {0}

  -- the refusals that a fiber had which waits so and offers this with that stamp: none of what never comes, no outcome of a fiber that it asked for,
  -- no room, no element
  abbrev pub IsRefused : ℕ → ℕ → Source → P → S → Type 0
  IsRefused own n Nothing p s = Unit {0}
  IsRefused own n (Outcome f) p s = calls.peeks p s f None p s
  IsRefused own n (Either f g) p s = calls.peeks p s f None p s × calls.peeks p s g None p s
  IsRefused own n (Room q) p s = calls.offers p s q n own Full p s
  IsRefused own n (Element q) p s = calls.takes p s q None p s

module _ {P S : Type 0} (theory : Theory P S) where
  -- no rule, since the fiber waits for that: a look in vain, where one is due, the refusals that this stands for, and nothing has changed
  pub record OnlyWaits (old : FiberView P) (shared : S) (wait : Source) (new : FiberView P) (shared' : S) : Type 0 where
    pub waits : option_and_then wait_at (leaf_at (progress theory.code old)) ≡ Some wait
    pub free : must_cancel_at old.counts.known (progress theory.code old) ≡ false
    pub looked : LooksInVain theory.calls (looks_first old.counts.known (progress theory.code old)) old.port shared
    pub refused : IsRefused theory.calls (next_stamp (clock theory old) 0) (value_offered (leaf_at (progress theory.code old))) wait old.port shared
    pub unchanged : IsUnchanged theory.code old new
    pub shared_is : shared' ≡ shared

  -- the call that starts fiber f, which begins so and with the stamp of its start, over the port of the child, which is new, of that number and that beginning
  pub record StartsChild (own f : ℕ) (b : Origin) (child p : P) (s : S) (p' : P) (s' : S) : Type 0 where
    pub begin : Begin
    pub begins : origin_of theory.code begin ≡ b
    pub stamped : begin.stamp ≡ own
    pub told : theory.calls.starts p s f begin child p' s'
    pub facts_are : theory.facts child ≡ first_facts f begin

  -- the call that a step at this leaf with this label and answer tells of, where its event has this stamp and its cause that one
  abbrev pub Tells : ℕ → ℕ → Option Term → Label → Stepped P S → P → S → P → S → Type 0
  Tells own cause leaf (Shows event.Seen) answer p s p' s' = theory.calls.looks p s (Some cause) p' s'
  Tells own cause leaf (Shows (event.Request f)) answer p s p' s' = theory.calls.requests p s f own p' s'
  Tells own cause leaf (Shows (event.Ended o)) answer p s p' s' = theory.calls.finishes p s o own p' s'
  Tells own cause leaf (Learns f o e) answer p s p' s' = theory.calls.peeks p s f (Some (o, cause)) p' s'
  Tells own cause leaf (Starts f b) (Child child) p s p' s' = StartsChild own f b child.port p s p' s'
  Tells own cause leaf (Starts f b) answer p s p' s' = ⊥
  Tells own cause leaf (Shows (event.Put q n)) answer p s p' s' = theory.calls.offers p s q n own Done p' s'
  Tells own cause leaf (Shows (event.Got q n)) answer p s p' s' = theory.calls.takes p s q (Some (n, cause)) p' s'
  Tells own cause leaf (Shows (event.Refused q)) answer p s p' s' = theory.calls.offers p s q (value_offered leaf) own Full p' s'
  Tells own cause leaf (Shows (event.Empty q)) answer p s p' s' = theory.calls.takes p s q None p' s'
  Tells own cause leaf _ answer p s p' s' = (p' ≡ p) × (s' ≡ s)

  -- the calls of a step: the look that is due, what it asked for in vain, and the call that it tells of
  pub record Calls (own cause : ℕ) (due : Bool) (leaf : Option Term) (label : Label) (answer : Stepped P S) (p : P) (s : S) (p' : P) (s' : S)
      : Type 0 where
    pub looked : LooksBefore theory.calls due label p s
    pub left_first : PeeksLeft theory.calls label leaf p s
    pub told : Tells own cause leaf label answer p s p' s'

  -- exactly one rule, with its event in the trace and its stamp, which is above that of its cause, its answer, and its calls
  pub record MakesStep (old : FiberView P) (shared : S) (answer : Stepped P S) (new : FiberView P) (shared' : S) : Type 0 where
    pub label : Label
    pub step : Step old.counts (progress theory.code old) label new.counts (progress theory.code new)
    pub trace : new.trace ≡ old.trace ++ events (label ∷ [])
    pub cause : ℕ
    pub none : IsUncaused label → cause ≡ 0
    pub stamps : new.stamps ≡ old.stamps ++ stamp_of_event (next_stamp (clock theory old) cause) label
    pub answers : Answers theory.code (leaf_at (progress theory.code old)) label answer
    pub calls_are : Calls (next_stamp (clock theory old) cause) cause (looks_first old.counts.known (progress theory.code old))
        (leaf_at (progress theory.code old)) label answer old.port shared new.port shared'

  -- what a step does that answers so
  abbrev pub DoesStep : FiberView P → S → Stepped P S → FiberView P → S → Type 0
  DoesStep old shared (Waits wait) new shared' = OnlyWaits old shared wait new shared'
  DoesStep old shared answer new shared' = MakesStep old shared answer new shared'
