-- The stamps of a run, and the numbers of its deeds.
use Rattle.std.specs.Prelude.{◌≡◌, ℕ, List, [], ◌∷◌, ◌++◌, max, map}
use Rattle.fx_term.specs.declared.node.Node.{Node}
use Rattle.fx_term.specs.declared.event.Event.{Event}
use Rattle.fx_term.specs.declared.stamped.Stamped.{Stamped}
use Rattle.fx_model.specs.Row.{Label, Silent, Shows, Learns, Starts}
use Rattle.fx_model.specs.Run.{events}
use Rattle.fx_model.specs.Stamps.{HasNoCause, one_more}
use Rattle.fx_fiber.specs.Deed.{AreDeedsOf}
use Rattle.fx_fiber.specs.StampedDeed.{StampedDeed, deeds_of, AreNumbered}

-- the stamp of an event after one with that stamp, where its cause has that one
abbrev pub next_stamp : ℕ → ℕ → ℕ
next_stamp before cause = one_more (max before cause)

-- a step with this label, but for being the first of its fiber, has no cause
abbrev pub IsUncaused : Label → Type 0
IsUncaused Silent = Unit {0}
IsUncaused (Shows e) = HasNoCause e
IsUncaused (Learns f o e) = HasNoCause e
IsUncaused (Starts f b) = Unit {0}

-- a label's event has this stamp, after one with that stamp, where its cause has that one
pub record IsNext (before : ℕ) (l : Label) (stamp cause : ℕ) : Type 0 where
  pub event : Event
  pub shows : events (l ∷ []) ≡ event ∷ []
  pub is : stamp ≡ next_stamp before cause
  pub none : HasNoCause event → cause ≡ 0

module _ (nodes : List Node) where
  -- the deeds of one label
  pub record Tells (l : Label) (own cause : ℕ) (first : List StampedDeed) : Type 0 where
    pub are_deeds : AreDeedsOf nodes l (deeds_of first)
    pub are_numbered : AreNumbered own cause first

  -- the labels that show an event have these stamps and these causes' stamps, one each, and these deeds, after an event with that stamp
  abbrev pub AreStamped : ℕ → List Label → List ℕ → List ℕ → List StampedDeed → Type 0
  AreStamped before [] [] [] ds = ds ≡ []
  AreStamped before (l ∷ ls) (s ∷ ss) (c ∷ cs) ds = (first : List StampedDeed) × (rest : List StampedDeed) × IsNext before l s c × Tells l s c first
      × AreStamped s ls ss cs rest × (ds ≡ first ++ rest)
  AreStamped before _ _ _ ds = ⊥

-- the last of the stamps, or the one before them
abbrev pub last_of : ℕ → List ℕ → ℕ
last_of before [] = before
last_of before (s ∷ ss) = last_of s ss

-- the event of a step with this label, with this stamp; a silent one has none
abbrev pub stamped_event : ℕ → Label → List Stamped
stamped_event stamp l = map (λ (e : Event). record { event = e; stamp = stamp }) (events (l ∷ []))

-- its stamp
abbrev pub stamp_of_event : ℕ → Label → List ℕ
stamp_of_event stamp Silent = []
stamp_of_event stamp _ = stamp ∷ []

-- the last stamp after such a step, where the one before it was this, or the cause's if that was greater
abbrev pub clock_after : Label → ℕ → ℕ
clock_after Silent clock = clock
clock_after _ clock = one_more clock
