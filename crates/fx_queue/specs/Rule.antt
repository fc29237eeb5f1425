-- The rule of the ring: there is one legal history, whose rest is what the ring holds, and of which each pass knows its own part.
use Rattle.std.specs.Prelude.{◌≡◌, ◌≢◌, ℕ, ◌<◌, ◌≤◌, List, [], ◌∷◌, ◌⊎◌, Option, Some, None}
use mathlib.Core.Option.{some}
use lib.ListN.{get_elem?}
use Rattle.fx_term.specs.Lists.{Among}
use Rattle.fx_term.specs.Element.{elements_of, stamps_of}
use Rattle.fx_term.specs.Queue.{cut, Leaves, AreAlike}
use Rattle.fx_term.specs.declared.item.Item.{Item}
use Rattle.fx_term.specs.declared.queue_event.QueueEvent.{QueueEvent}
use Rattle.fx_queue.specs.declared.entry.Entry.{Entry}
use Rattle.fx_queue.specs.declared.entry.Handed.{Handed}
use Rattle.fx_queue.specs.declared.stage.Stage.TheVariants.{Blank, Live}
use Rattle.fx_queue.specs.declared.pass_view.PassView.{PassView}
use Rattle.fx_queue.specs.History.{Begins}
use Rattle.fx_queue.specs.PassView.{blank_view, In}

-- there is one entry for each fiber whose pass was split off, whoever has it now
abbrev pub Book : Type 0
Book = ℕ → Option Entry

abbrev pub acts_in : Option Entry → List QueueEvent
acts_in None = []
acts_in (Some e) = e.acts

abbrev pub stamps_in : Option Entry → List QueueEvent
stamps_in None = []
stamps_in (Some e) = e.stamps

-- the fiber i is 0, or a fiber of a lower number split it off
abbrev pub Root : Book → ℕ → Type 0
Root book i = (i ≡ 0) ⊎ ((f : ℕ) × (d : Entry) × (f < i) × (book f ≡ Some d) × Among i d.parts)

-- the pass that was split off is in the book, and began with what its starter had seen then, which goes on from what the starter began with
abbrev pub IsHanded : Book → Entry → Handed → Type 0
IsHanded book d h = (e : Entry) × (book h.id ≡ Some e) × (e.began ≡ h.seen) × Begins h.seen d.began

-- the history against the entries: the events of each fiber are its entry's, and a fiber without one has none. A number that no pass was made for is
-- in one range at most
pub record Kept (log : List QueueEvent) (book : Book) (keeper : ℕ → Option ℕ) : Type 0 where
  pub named : (i : ℕ) (e : Entry) → book i ≡ Some e → e.id ≡ i
  pub cuts : (i : ℕ) → cut i log ≡ acts_in (book i)
  pub begins : (i : ℕ) (e : Entry) → book i ≡ Some e → Begins log e.seen
  pub aware : (i : ℕ) (e : Entry) → book i ≡ Some e → cut e.id e.seen ≡ e.acts
  pub above : (i : ℕ) (e : Entry) → book i ≡ Some e → e.id < e.next
  pub range : (i : ℕ) (e : Entry) → book i ≡ Some e → (j : ℕ) → e.next ≤ j → j < e.end → keeper j ≡ Some e.id
  pub free : (i f : ℕ) → keeper i ≡ Some f → book i ≡ None
  pub rooted : (i : ℕ) (e : Entry) → book i ≡ Some e → Root book i
  pub begun : (i : ℕ) (e : Entry) → book i ≡ Some e → Begins e.seen e.began
  pub handed : (i : ℕ) (d : Entry) → book i ≡ Some d → (h : Handed) → Among h d.handed → IsHanded book d h

-- the fibers in the book, and the numbers in their ranges, are below n
abbrev pub IsBelow : ℕ → Book → Type 0
IsBelow n book = (i : ℕ) (e : Entry) → book i ≡ Some e → (e.id < n) × (e.end ≤ n)

-- the pass at p has the entries of its fibers, and no other pass has them
pub record Dealt (cap : ℕ) (book : Book) (seat : ℕ → ℕ) (p : ℕ) (v : PassView) : Type 0 where
  pub ready : v.cap ≡ cap
  pub below : IsBelow v.fibers book
  pub here : (e : Entry) → In e v → (book e.id ≡ Some e) × (seat e.id ≡ p)
  pub others : (e : Entry) → Among e v.taken → e.id ≢ v.own.id

-- the history of the ring, and in `stamps` the same with stamps in place of values, which leaves the stamps of what the ring holds
pub record Running (items : List Item) (views : List PassView) : Type 0 where
  pub log : List QueueEvent
  pub cap : ℕ
  pub book : Book
  pub keeper : ℕ → Option ℕ
  pub seat : ℕ → ℕ
  pub stamps : List QueueEvent
  pub legal : Leaves cap log (elements_of items)
  pub legal_stamps : Leaves cap stamps (stamps_of items)
  pub alike : AreAlike log stamps
  pub kept : Kept log book keeper
  pub cuts_stamps : (i : ℕ) → cut i stamps ≡ stamps_in (book i)
  pub set_up : (p : ℕ) (v : PassView) → get_elem? views p ≡ some v → v.stage ≢ Blank
  pub dealt : (p : ℕ) (v : PassView) → get_elem? views p ≡ some v → v.stage ≡ Live → Dealt cap book seat p v

abbrev pub Ringed : List Item → List PassView → Type 0
Ringed items views = ((items ≡ []) × (views ≡ blank_view ∷ [])) ⊎ Running items views
