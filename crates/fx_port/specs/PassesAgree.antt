-- When a fiber's passes of all queues agree with its deeds.
use Rattle.std.specs.Prelude.{◌≡◌, ℕ, ◌≤◌, List, [], ◌∷◌, ◌++◌, length, Option, Some, None, slice_get}
use Rattle.std.specs.List.{filter_map}
use Rattle.fx_term.specs.declared.begin.Begin.{Begin}
use Rattle.fx_term.specs.Element.{Element}
use Rattle.fx_term.specs.declared.queue_event.QueueEvent.{QueueEvent}
use Rattle.fx_term.specs.Lists.{Among}
use Rattle.fx_term.specs.Queue.{cut, Leaves}
use Rattle.fx_fiber.specs.Deed.{Deed, Started, FoundFull, FoundEmpty, queue_deeds}
use Rattle.fx_fiber.specs.StampedDeed.{StampedDeed, queue_numbers}
use Rattle.fx_queue.specs.declared.entry.Handed.{Handed}
use Rattle.fx_queue.specs.declared.pass_view.PassView.{PassView}
use Rattle.fx_queue.specs.History.{Begins}
use Rattle.fx_queue.specs.Queues.{HeldPass}

-- the fiber that a deed starts
abbrev pub started_by : Deed → Option ℕ
started_by (Started g b) = Some g
started_by _ = None

-- those that the deeds start, in order
abbrev pub starts : List Deed → List ℕ
starts deeds = filter_map started_by deeds

-- what the pass of a queue did; nothing, where there is no such queue
abbrev pub acts_by : Option HeldPass → List QueueEvent
acts_by None = []
acts_by (Some s) = s.view.own.acts

-- the same with stamps in place of values
abbrev pub stamps_by : Option HeldPass → List QueueEvent
stamps_by None = []
stamps_by (Some s) = s.view.own.stamps

-- the pass is the main fiber's, and has split off none and taken in none
abbrev pub IsLone : PassView → Type 0
IsLone v = (v.own.id ≡ 0) × (v.own.parts ≡ []) × (v.taken ≡ [])

-- at one moment after these events of the fiber, and before its next one, its queue held n elements: a legal history that has these events of the fiber
-- leaves so many, and has none of a number that is no fiber's. It begins with what the fiber had seen by then, which is the beginning of what it has seen
-- now, and begins with what its starter had seen. Of a lone pass it is the fiber's own list
pub record WasFound (v : PassView) (n : ℕ) (before : List QueueEvent) : Type 0 where
  pub log : List QueueEvent
  pub items : List Element
  pub seen : List QueueEvent
  pub legal : Leaves v.cap log items
  pub found : length items ≡ n
  pub begins : Begins log seen
  pub since : Begins v.own.seen seen
  pub begun : Begins seen v.own.began
  pub known : cut v.own.id seen ≡ before
  pub cuts : cut v.own.id log ≡ before
  pub within : (f : ℕ) → v.fibers ≤ f → cut f log ≡ []
  pub lone : IsLone v → log ≡ before

-- which refusal it was
pub data Refusal : Type 0 where
  Full : Refusal
  Empty : Refusal

-- how many elements a queue holds that refuses so
abbrev pub held_at : Refusal → PassView → ℕ
held_at Full v = v.cap
held_at Empty v = 0

-- after these events of the fiber its queue was full, or empty; a queue that there is not is both
abbrev pub HasRefused : Option HeldPass → Refusal → List QueueEvent → Type 0
HasRefused None r before = Unit {0}
HasRefused (Some s) r before = WasFound s.view (held_at r s.view) before

-- a refusal stands behind a deed that tells of one, where these were done before
abbrev pub IsBacked : ℕ → List HeldPass → List Deed → Deed → Type 0
IsBacked f passes before (FoundFull q) = HasRefused (slice_get passes q) Full (queue_deeds q f before)
IsBacked f passes before (FoundEmpty q) = HasRefused (slice_get passes q) Empty (queue_deeds q f before)
IsBacked f passes before _ = Unit {0}

-- the pass of fiber f split off that of g after these events of f, and g began with a history that has just these
abbrev pub HasHanded : ℕ → HeldPass → ℕ → List QueueEvent → Type 0
HasHanded f s g before = (h : Handed) × Among h s.view.own.handed × (h.id ≡ g) × (cut f h.seen ≡ before)

-- the deeds of fiber f at each queue are exactly what its pass did, in order; the fibers that it started, in order, are exactly those that the pass was split
-- for, and what each of these began with has what was done before; and each refusal was one
pub record PassesAgree (f : ℕ) (passes : List HeldPass) (deeds : List Deed) : Type 0 where
  pub acts : (q : ℕ) → queue_deeds q f deeds ≡ acts_by (slice_get passes q)
  pub parts : (q : ℕ) (s : HeldPass) → slice_get passes q ≡ Some s → s.view.own.parts ≡ starts deeds
  pub handed : (before after : List Deed) (g : ℕ) (b : Begin) → deeds ≡ before ++ Started g b ∷ after → (q : ℕ) (s : HeldPass)
      → slice_get passes q ≡ Some s → HasHanded f s g (queue_deeds q f before)
  pub refusals : (before after : List Deed) (d : Deed) → deeds ≡ before ++ d ∷ after → IsBacked f passes before d

-- the stamps of each pass are the deeds at its queue with their numbers in place of values
pub record PassesStampsAgree (f : ℕ) (passes : List HeldPass) (deeds : List StampedDeed) : Type 0 where
  pub stamps : (q : ℕ) → queue_numbers q f deeds ≡ stamps_by (slice_get passes q)
