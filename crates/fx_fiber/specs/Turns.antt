-- What one poll of a turn does.
use Rattle.std.specs.Prelude.{◌≡◌, ℕ, zero, suc, ◌<◌, ◌⊎◌, Bool, true, false, Option, Some, None}
use Rattle.futures.specs.declared.task.Poll.{Poll}
use Rattle.futures.specs.declared.task.Poll.TheVariants.{Ready, Pending}
use Rattle.fx_model.specs.Step.{has_ended}
use Rattle.fx_model.specs.declared.source.Source.{Source}
use Rattle.fx_fiber.specs.Fiber.{FiberView, progress, IsUnchanged}
use Rattle.fx_fiber.specs.MakesStep.{MakesStep, OnlyWaits}
use Rattle.fx_fiber.specs.declared.stepped.Stepped.{Stepped}
use Rattle.fx_fiber.specs.declared.stepped.Stepped.TheVariants as stepped
use Rattle.fx_fiber.specs.declared.turned.Turned.{Turned}
use Rattle.fx_fiber.specs.Theory.{Theory}
use Rattle.fx_fiber.specs.declared.turned.Turned.TheVariants as turned

module _ {P S : Type 0} (theory : Theory P S) where
  -- the fiber is registered with this, and nothing else of it has changed but its port
  pub record Registers (old : FiberView P) (shared : S) (wait : Source) (new : FiberView P) (shared' : S) : Type 0 where
    pub told : theory.calls.waits old.port shared wait new.port shared'
    pub same : new ≡ record old { port = new.port; source = Some wait }

  -- n steps from the first place to the last one, none of which ends the turn: each went on, or waited and the fiber was registered with what it waits for. The
  -- flag tells whether the last of them waited
  pub data Goes (first : FiberView P) (shared : S) : ℕ → Bool → FiberView P → S → Type 0 where
    begins : Goes first shared 0 false first shared
    went : {n : ℕ} {b : Bool} {f g : FiberView P} {s t : S} → Goes first shared n b f s → MakesStep theory f s stepped.Went g t
        → Goes first shared (suc n) false g t
    waited : {n : ℕ} {f g h : FiberView P} {s t u : S} {wait : Source} → Goes first shared n false f s → OnlyWaits theory f s wait g t
        → Registers g t wait h u → Goes first shared (suc n) true h u

  -- after fewer than 64 such steps comes one with this answer
  pub record Answered (old : FiberView P) (shared : S) (answer : Stepped P S) (new : FiberView P) (shared' : S) : Type 0 where
    pub steps : ℕ
    pub few : steps < 64
    pub was : Bool
    pub before : FiberView P
    pub between : S
    pub goes : Goes old shared steps was before between
    pub last : MakesStep theory before between answer new shared'

  -- after fewer than 64 such steps memory is refused, and the fiber stands as after the last of them
  pub record Refused (old : FiberView P) (shared : S) (new : FiberView P) (shared' : S) : Type 0 where
    pub steps : ℕ
    pub few : steps < 64
    pub was : Bool
    pub before : FiberView P
    pub goes : Goes old shared steps was before shared'
    pub unchanged : IsUnchanged theory.code before new

  -- the fiber waits: it waited in the last of fewer than 64 such steps and was registered, and one more step waits too
  pub record Waited (old : FiberView P) (shared : S) (new : FiberView P) (shared' : S) : Type 0 where
    pub steps : ℕ
    pub few : steps < 64
    pub before : FiberView P
    pub between : S
    pub goes : Goes old shared steps true before between
    pub wait : Source
    pub last : OnlyWaits theory before between wait new shared'
    pub source : new.source ≡ Some wait

  -- it yields, and is registered for nothing: it gave way
  pub record GaveWay (old : FiberView P) (shared : S) (new : FiberView P) (shared' : S) : Type 0 where
    pub after : FiberView P
    pub gave : Answered old shared stepped.Gave after shared'
    pub yields : new ≡ record after { source = None }

  -- or it made 64 such steps
  pub record WentOn (old : FiberView P) (shared : S) (new : FiberView P) (shared' : S) : Type 0 where
    pub was : Bool
    pub after : FiberView P
    pub goes : Goes old shared 64 was after shared'
    pub yields : new ≡ record after { source = None }

  -- a poll of a fiber that has ended makes no step
  pub record HadEnded (old : FiberView P) (shared : S) (new : FiberView P) (shared' : S) : Type 0 where
    pub ended : has_ended (progress theory.code old) ≡ true
    pub same : new ≡ old
    pub shared_is : shared' ≡ shared

  -- what a turn does that comes to this, or to none where it is pending
  abbrev pub Turns : FiberView P → S → Option (Turned P S) → FiberView P → S → Type 0
  Turns old shared (Some (turned.Child child)) new shared' = Answered old shared (stepped.Child child) new shared'
  Turns old shared (Some turned.Ended) new shared' = HadEnded old shared new shared' ⊎ Answered old shared stepped.Ended new shared'
  Turns old shared (Some turned.Memory) new shared' = Refused old shared new shared'
  Turns old shared None new shared' = Waited old shared new shared' ⊎ (GaveWay old shared new shared' ⊎ WentOn old shared new shared')

-- what a poll came to, if it is ready
abbrev pub come_to : {A : Type 0} → Poll A → Option A
come_to (Ready x) = Some x
come_to Pending = None

-- whether a fiber is still registered that was or was not, after so many steps that went on
abbrev pub still : Bool → ℕ → Bool
still was zero = was
still was (suc n) = false
