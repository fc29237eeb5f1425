-- Rules in one go: silent ones and those of brackets, and a request that is seen last.
use Rattle.std.specs.Prelude.{◌≡◌, ℕ, zero, suc, ◌≤◌, ◌<◌, ◌⊎◌, Bool, true, false, ◌&&◌, ◌||◌, Option, Some, None, List}
use Rattle.std.specs.Vec.{vec_len, vec_capacity}
use Rattle.fx_term.specs.declared.node.Node.{Node}
use Rattle.fx_term.specs.declared.stamped.Stamped.{Stamped}
use Rattle.fx_term.specs.declared.event.Event.{Event}
use Rattle.fx_term.specs.declared.event.Event.TheVariants as event
use Rattle.fx_model.specs.Row.{Label, Silent, Shows}
use Rattle.fx_model.specs.declared.source.Source.{Source}
use Rattle.fx_fiber.specs.Calls.{PortCalls}
use Rattle.fx_fiber.specs.Theory.{Theory}
use Rattle.fx_fiber.specs.Fiber.{FiberView, fiber_at, IsUnchanged, IsKept}
use Rattle.fx_fiber.specs.MakesStep.{MakesStep, LooksInVain}
use Rattle.fx_fiber.specs.Places.{IsSame, IsInside, is_open_machine}
use Rattle.fx_fiber.specs.Advances.{Advances}
use Rattle.fx_fiber.specs.Made.{IsOfBracket}
use Rattle.fx_fiber.specs.declared.stepped.Stepped.TheVariants.{Went}
use Rattle.fx_fiber.specs.declared.machine.made.Made.TheVariants as made
use Rattle.fx_fiber.specs.declared.machine.Machine.{Machine}
use Rattle.fx_fiber.specs.declared.fiber.ahead.Looked.{Looked}
use Rattle.fx_fiber.specs.declared.fiber.ahead.Looked.TheVariants.{InVain, NotYet}
use Rattle.fx_fiber.specs.declared.fiber.ahead.Ahead.{Ahead}
use Rattle.fx_fiber.specs.declared.fiber.ahead.Ahead.TheVariants as ahead
use Rattle.fx_fiber.specs.declared.fiber.glide.Glided.{Glided}
use Rattle.fx_fiber.specs.declared.fiber.glide.Glided.TheVariants as glided
use Rattle.fx_fiber.specs.declared.fiber.rules.Reached.{Reached}
use Rattle.fx_fiber.specs.declared.fiber.rules.Reached.TheVariants as reached
use Rattle.fx_fiber.specs.declared.fiber.body.Body.{Body}

-- the label of a step that a burst makes: it shows nothing, or what becomes of the resource of a bracket
abbrev pub IsAlone : Label → Type 0
IsAlone Silent = Unit {0}
IsAlone (Shows e) = IsOfBracket e
IsAlone l = ⊥

module _ {P S : Type 0} (theory : Theory P S) where
  -- a step by a rule with this label, which answers that it went
  pub record GoesBy (label : Label) (old : FiberView P) (shared : S) (new : FiberView P) (shared' : S) : Type 0 where
    pub does : MakesStep theory old shared Went new shared'
    pub by : does.label ≡ label

  -- a step that needs no other fiber, which answers that it went, with what is shared as it was
  pub record StepsAlone (old : FiberView P) (shared : S) (new : FiberView P) : Type 0 where
    pub does : MakesStep theory old shared Went new shared
    pub alone : IsAlone does.label

  -- so many of these, one after the other
  abbrev pub GoesAlone : ℕ → FiberView P → S → FiberView P → Type 0
  GoesAlone zero old shared new = IsUnchanged theory.code old new
  GoesAlone (suc n) old shared new = (between : FiberView P) × GoesAlone n old shared between × StepsAlone between shared new

  -- one step less of these, and then the one that sees a request
  pub record GoesAndSees (n : ℕ) (old : FiberView P) (shared : S) (new : FiberView P) (shared' : S) : Type 0 where
    pub before : ℕ
    pub then_sees : n ≡ suc before
    pub between : FiberView P
    pub goes : GoesAlone before old shared between
    pub sees : GoesBy (Shows event.Seen) between shared new shared'

  -- a burst of so many steps, at most so many
  pub record Bursts (most n : ℕ) (old : FiberView P) (shared : S) (new : FiberView P) (shared' : S) : Type 0 where
    pub few : n ≤ most
    pub steps : (GoesAlone n old shared new × (shared' ≡ shared)) ⊎ GoesAndSees n old shared new shared'

  -- memory is refused after fewer than so many of these steps, and the fiber stands as after the last of them
  pub record BurstsShort (most : ℕ) (old : FiberView P) (shared : S) (new : FiberView P) (shared' : S) : Type 0 where
    pub n : ℕ
    pub few : n < most
    pub goes : GoesAlone n old shared new
    pub shared_is : shared' ≡ shared

module _ {P S : Type 0} (calls : PortCalls P S) where
  -- a look found nothing, and nothing was asked since, of a fiber that is not known to be canceled
  abbrev pub HasLooked : Looked → Bool → P → S → Type 0
  HasLooked InVain known p s = (known ≡ false) × calls.looks p s None p s
  HasLooked NotYet known p s = Unit {0}

  -- what comes before the rule of a place other than `canceled`, which is open or not, of a fiber that is known to be canceled or not: nothing, after a
  -- look in vain where the place is open, or a look, or cancellation
  abbrev pub ComesAhead : Bool → Bool → Ahead → P → S → Type 0
  ComesAhead opened known ahead.Rule p s = ((opened && (known || false)) ≡ false) × LooksInVain calls opened p s
  ComesAhead opened known ahead.Look p s = (opened ≡ true) × (known ≡ false)
  ComesAhead opened known ahead.Cancellation p s = Unit {0}

-- a look comes first there, of a fiber that stands inside all contexts at a place other than `canceled`
pub record LooksNext (nodes : List Node) (s : Machine) : Type 0 where
  pub inside : IsInside nodes s false
  pub opened : is_open_machine s ≡ true
  pub unknown : s.known ≡ false

module _ {P S : Type 0} (theory : Theory P S) where
  -- a silent rule is made, whatever the clock is
  abbrev pub MakesNext : Machine → P → S → Machine → Type 0
  MakesNext s p sh s' = (k : ℕ) → Advances theory k s p sh made.Silent k s' p sh

  -- a rule that shows this of a bracket is made, whatever the clock is, or none
  abbrev pub ShowsOnce : Machine → P → S → Option Event → Machine → Type 0
  ShowsOnce s p sh (Some e) s' = ((k : ℕ) → Advances theory k s p sh (made.Shows e) k s' p sh) × IsOfBracket e
  ShowsOnce s p sh None s' = IsSame theory.code s s'

  -- what one turn of a burst does that has so many steps left: a silent rule is made, or two, or none, since a result comes first that is not one of a silent
  -- rule, or a look, or the burst ends
  abbrev pub GlidesOnce : ℕ → Machine → P → S → Glided → Machine → Type 0
  GlidesOnce left s p sh glided.Went s' = MakesNext s p sh s'
  GlidesOnce left s p sh glided.WentTwice s' = (1 < left) × (between : Machine) × MakesNext s p sh between × MakesNext between p sh s'
  GlidesOnce left s p sh glided.Returns s' = IsSame theory.code s s'
  GlidesOnce left s p sh glided.Looks s' = IsSame theory.code s s' × LooksNext theory.code s'
  GlidesOnce left s p sh glided.Stops s' = IsSame theory.code s s'

-- where a fiber stood as its burst began, with its port and what is shared, which stay so until a request is seen
pub record Outset (P S : Type 0) : Type 0 where
  pub port : P
  pub shared : S
  pub machine : Machine
  pub trace : List Stamped
  pub source : Option Source

abbrev pub outset_at : {P S : Type 0} → P → S → Body → Outset P S
outset_at p s body = record { port = p; shared = s; machine = body.machine; trace = body.trace.items; source = body.source }

-- so many steps lead to a machine that the fiber's type allows, and to this trace and clock
pub record GlidesTo {P S : Type 0} (theory : Theory P S) (trace : List Stamped) (source : Option Source) (n : ℕ) (s : Machine) (p : P) (sh : S)
    (s' : Machine) (trace' : List Stamped) (clock' : ℕ) : Type 0 where
  pub rules : GoesAlone theory n (fiber_at p trace s source) sh (fiber_at p trace' s' source)
  pub kept : IsKept theory p trace' clock' s'

module _ {P S : Type 0} (theory : Theory P S) (outset : Outset P S) where
  -- so many steps lead from there to here
  abbrev pub LeadsTo : ℕ → Machine → List Stamped → ℕ → Type 0
  LeadsTo n s trace clock = GlidesTo theory outset.trace outset.source n outset.machine outset.port outset.shared s trace clock

  -- so many steps were made, of at most so many, with room for an event where a look comes next
  abbrev pub Reaches : ℕ → Reached → Body → Type 0
  Reaches most (reached.Looks n) body =
      (n < most) × LeadsTo n body.machine body.trace.items body.clock × LooksNext theory.code body.machine × (vec_len body.trace < vec_capacity body.trace)
  Reaches most (reached.Stops n) body = (n ≤ most) × LeadsTo n body.machine body.trace.items body.clock

  -- memory was refused after fewer than so many
  abbrev pub ReachesShort : ℕ → Body → Type 0
  ReachesShort most body = (n : ℕ) × (n < most) × LeadsTo n body.machine body.trace.items body.clock

-- the next event has its room, where one of at most so many steps is left
abbrev pub HasRoomAfter : ℕ → Reached → Body → Type 0
HasRoomAfter most (reached.Looks n) body = vec_len body.trace < vec_capacity body.trace
HasRoomAfter most (reached.Stops n) body = n < most → vec_len body.trace < vec_capacity body.trace
