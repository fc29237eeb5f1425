-- What a step tells the pass that makes it.
use Rattle.std.specs.Prelude.{◌≡◌, ◌≢◌, ℕ, ◌<◌, ◌≤◌, List, [], ◌∷◌, ◌++◌, length}
use Rattle.fx_term.specs.Lists.{Among}
use Rattle.fx_term.specs.Element.{elements_of, stamps_of}
use Rattle.fx_term.specs.Queue.{cut, puts, Leaves, AreAlike}
use Rattle.fx_term.specs.declared.item.Item.{Item}
use Rattle.fx_term.specs.declared.queue_event.QueueEvent.{QueueEvent}
use Rattle.fx_term.specs.declared.queue_event.QueueEvent.TheVariants.{Put, Got}
use Rattle.fx_queue.specs.declared.entry.Entry.{Entry}
use Rattle.fx_queue.specs.declared.entry.Handed.{Handed}
use Rattle.fx_queue.specs.declared.pass_view.PassView.{PassView}
use Rattle.fx_queue.specs.History.{item, Begins}
use Rattle.fx_queue.specs.PassView.{In, with_act, IsWhole, IsOnlyOf}

-- where the first fiber's pass split off that of the second, this began with what the first had seen then, which goes on from what the first began with
abbrev pub IsHandedOn : Entry → Entry → Type 0
IsHandedOn d e = (h : Handed) → Among h d.handed → h.id ≡ e.id → (e.began ≡ h.seen) × Begins h.seen d.began

-- what a pass knows of the history at one moment, with these items in the queue; `stamps` is that history with stamps in place of values
pub record Tells (v : PassView) (log : List QueueEvent) (items : List Item) : Type 0 where
  pub stamps : List QueueEvent
  pub legal : Leaves v.cap log (elements_of items)
  pub legal_stamps : Leaves v.cap stamps (stamps_of items)
  pub alike : AreAlike log stamps
  pub begins : (e : Entry) → In e v → Begins log e.seen
  pub cuts : (e : Entry) → In e v → cut e.id log ≡ e.acts
  pub cuts_stamps : (e : Entry) → In e v → cut e.id stamps ≡ e.stamps
  pub aware : (e : Entry) → In e v → cut e.id e.seen ≡ e.acts
  pub apart : (e : Entry) → Among e v.taken → e.id ≢ v.own.id
  pub only : IsWhole v → IsOnlyOf v log
  pub within : (f : ℕ) → v.fibers ≤ f → cut f log ≡ []
  pub above : v.own.id < v.own.next
  pub unborn : (f : ℕ) → v.own.next ≤ f → f < v.own.end → cut f log ≡ []
  pub begun : (e : Entry) → In e v → Begins e.seen e.began
  pub handed : (d e : Entry) → In d v → In e v → IsHandedOn d e

-- a history stands behind these items: it is legal, begins with all that the pass has seen, has of its fibers their events and no other, and none of a
-- number that is no fiber's; of a pass that is the first and has taken in all, it has the events of these fibers alone
abbrev pub stands : PassView → List Item → Type 0
stands v items = (log : List QueueEvent) × Tells v log items

-- after the history `log`, and with room, the value was put with its stamp; the pass has now seen this history and its own put
pub record DidPut (v : PassView) (value stamp : ℕ) (w : PassView) : Type 0 where
  pub log : List QueueEvent
  pub items : List Item
  pub before : Tells v log items
  pub room : length items < v.cap
  pub after : Leaves v.cap (log ++ Put v.own.id value ∷ []) (elements_of items ++ item v.own.id (puts v.own.acts) value ∷ [])
  pub is : w ≡ with_act v log (Put v.own.id value) (Put v.own.id stamp)

-- after the history `log` the item was the front and was taken
pub record DidGet (v : PassView) (x : Item) (w : PassView) : Type 0 where
  pub log : List QueueEvent
  pub items : List Item
  pub before : Tells v log (x ∷ items)
  pub after : Leaves v.cap (log ++ Got v.own.id x.value ∷ []) (elements_of items)
  pub after_stamps : Leaves v.cap (before.stamps ++ Got v.own.id x.stamp ∷ []) (stamps_of items)
  pub is : w ≡ with_act v log (Got v.own.id x.value) (Got v.own.id x.stamp)

-- these are what is left after a legal history of the fibers of this pass alone, which has the events of each as its pass had them, and begins with
-- all that each had seen; with stamps in place of values it is legal too, and leaves their stamps
pub record IsRest (v : PassView) (items : List Item) : Type 0 where
  pub log : List QueueEvent
  pub stamps : List QueueEvent
  pub legal : Leaves v.cap log (elements_of items)
  pub legal_stamps : Leaves v.cap stamps (stamps_of items)
  pub alike : AreAlike log stamps
  pub begins : (e : Entry) → In e v → Begins log e.seen
  pub cuts : (e : Entry) → In e v → cut e.id log ≡ e.acts
  pub cuts_stamps : (e : Entry) → In e v → cut e.id stamps ≡ e.stamps
  pub only : IsOnlyOf v log
  pub handed : (d e : Entry) → In d v → In e v → IsHandedOn d e
