-- The signature of each form: the names that a node uses, the queue that it names, and its parts in the order of the text, each with what is bound in it and
-- how it goes with the parts after it.
use Rattle.std.specs.Prelude.{ℕ, true, false, Option, Some, None, List, [], ◌∷◌}
use Rattle.std.specs.List.{filter_map}
use Rattle.fx_term.specs.declared.name_kind.NameKind.{NameKind}
use Rattle.fx_term.specs.declared.name_kind.NameKind.TheVariants as kind
use Rattle.fx_term.specs.declared.node.Arg.{Arg}
use Rattle.fx_term.specs.declared.node.Arg.TheVariants.{Slot}
use Rattle.fx_term.specs.declared.node.NodeId.{NodeId}
use Rattle.fx_term.specs.declared.node.Node.{Node}
use Rattle.fx_term.specs.declared.node.Node.TheVariants as node
use Rattle.fx_term.specs.declared.code.signature.Use.{Use}
use Rattle.fx_term.specs.declared.code.signature.Part.{Part}
use Rattle.fx_term.specs.declared.code.signature.Running.TheVariants.{Beside, Instead}

-- a number, or a name that is to stand for this
abbrev pub use_as : NameKind → Arg → Use
use_as k a = record { arg = a; kind = k }

abbrev pub slot_as : NameKind → ℕ → Use
slot_as k x = use_as k (Slot x)

-- a part in the scope of a binder, and one in which nothing is bound
abbrev pub part_under : Option ℕ → NameKind → NodeId → Part
part_under x k id = record { node = id; binder = x; kind = k; inner = None; count = None; elsewhere = false; running = Beside }

abbrev pub plain : NodeId → Part
plain id = part_under None kind.Value id

-- a part that is repeated in the scope of a binder, and one that runs in another fiber
abbrev pub repeated : ℕ → ℕ → NodeId → Part
repeated x count id = record (part_under (Some x) kind.Value id) { count = Some count }

abbrev pub started : NodeId → Part
started id = record (plain id) { elsewhere = true }

-- a part that is run, or one of those after it; and one in the scope of two binders
abbrev pub or_next : Part → Part
or_next p = record p { running = Instead }

abbrev pub case_under : ℕ → ℕ → NodeId → Part
case_under x y id = record (or_next (part_under (Some x) kind.Value id)) { inner = Some y }

-- the names that a node uses
abbrev pub uses : Node → List Use
uses (node.Pure a) = use_as kind.Value a ∷ []
uses (node.Raise a) = use_as kind.Value a ∷ []
uses node.Canceled = []
uses node.Never = []
uses node.Cede = []
uses (node.Let x a b) = []
uses (node.Handle a x b) = []
uses (node.If v a b) = use_as kind.Value v ∷ []
uses (node.For i c a) = []
uses (node.Mask p a) = []
uses (node.Poll p a) = slot_as kind.Poll p ∷ []
uses (node.OnCancel a f) = []
uses (node.Bracket x a u r) = []
uses (node.BracketCase x a u y s z e d) = []
uses (node.Start h a b) = []
uses (node.Join f x a e b c) = slot_as kind.Fiber f ∷ []
uses (node.Cancel f) = slot_as kind.Fiber f ∷ []
uses (node.First f g) = slot_as kind.Fiber f ∷ slot_as kind.Fiber g ∷ []
uses (node.Offer q v) = use_as kind.Value v ∷ []
uses (node.TryOffer q v) = use_as kind.Value v ∷ []
uses (node.Take q) = []
uses (node.TryTake q x a b) = []

-- the queue that a node names, if it names one
abbrev pub queue_named : Node → Option ℕ
queue_named (node.Offer q v) = Some q
queue_named (node.TryOffer q v) = Some q
queue_named (node.Take q) = Some q
queue_named (node.TryTake q x a b) = Some q
queue_named _ = None

-- the parts of a node
abbrev pub parts : Node → List Part
parts (node.Pure a) = []
parts (node.Raise a) = []
parts node.Canceled = []
parts node.Never = []
parts node.Cede = []
parts (node.Let x a b) = plain a ∷ part_under x kind.Value b ∷ []
parts (node.Handle a x b) = plain a ∷ part_under x kind.Value b ∷ []
parts (node.If v a b) = or_next (plain a) ∷ plain b ∷ []
parts (node.For i c a) = repeated i c a ∷ []
parts (node.Mask p a) = part_under (Some p) kind.Poll a ∷ []
parts (node.Poll p a) = plain a ∷ []
parts (node.OnCancel a f) = plain a ∷ plain f ∷ []
parts (node.Bracket x a u r) = plain a ∷ part_under x kind.Value u ∷ part_under x kind.Value r ∷ []
parts (node.BracketCase x a u y s z e d) =
    plain a ∷ part_under (Some x) kind.Value u ∷ case_under x y s ∷ case_under x z e ∷ part_under (Some x) kind.Value d ∷ []
parts (node.Start h a b) = started a ∷ part_under (Some h) kind.Fiber b ∷ []
parts (node.Join f x a e b c) = or_next (part_under (Some x) kind.Value a) ∷ or_next (part_under (Some e) kind.Value b) ∷ plain c ∷ []
parts (node.Cancel f) = []
parts (node.First f g) = []
parts (node.Offer q v) = []
parts (node.TryOffer q v) = []
parts (node.Take q) = []
parts (node.TryTake q x a b) = or_next (part_under (Some x) kind.Value a) ∷ plain b ∷ []

-- the names, the queue and the parts where there may be no node
abbrev pub uses_of : Option Node → List Use
uses_of None = []
uses_of (Some n) = uses n

abbrev pub queue_of : Option Node → Option ℕ
queue_of None = None
queue_of (Some n) = queue_named n

abbrev pub parts_of : Option Node → List Part
parts_of None = []
parts_of (Some n) = parts n

-- the items that are there
abbrev pub present : {X : Type 0} → List (Option X) → List X
present entries = filter_map (λ entry. entry) entries
