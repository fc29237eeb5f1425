-- What is still to come of a form after its first tokens, and after each part of it.
use Rattle.std.specs.Prelude.{◌≡◌, ℕ, zero, suc, ◌+◌, ◌<◌, ◌≤◌, Some, None, Result, Ok, Err, List, [], ◌∷◌, ◌++◌, length, take}
use Rattle.std.specs.Borrow.{Bor}
use Rattle.fx_term.specs.declared.node.NodeId.{NodeId}
use Rattle.fx_term.specs.declared.node.Node.{Node}
use Rattle.fx_term.specs.declared.node.Arg.TheVariants as arg
use Rattle.fx_term.specs.Term.{Term, Never, Let, Handle, If, For, Mask, Poll, OnCancel, Bracket, BracketCase, Start, Join, TryTake}
use Rattle.fx_term.specs.Meaning.{assemble, term_of}
use Rattle.fx_term.specs.Tree.{children}
use Rattle.fx_term.specs.declared.name_kind.NameKind.TheVariants as kind
use Rattle.fx_term.specs.Turns.{most_turns, turns_of_loop}
use Rattle.fx_text.specs.declared.fault.ReadError.{ReadError}
use Rattle.fx_text.specs.declared.form.Form.{Form}
use Rattle.fx_text.specs.declared.form.Form.TheVariants as form
use Rattle.fx_text.specs.declared.reader.Reader.{Reader}
use Rattle.fx_text.specs.declared.reader.head.Inner.{Inner}
use Rattle.fx_text.specs.declared.reader.head.Inner.TheVariants as inner
use Rattle.fx_text.specs.declared.reader.head.Single.{Single}
use Rattle.fx_text.specs.declared.reader.head.Single.TheVariants as single
use Rattle.fx_text.specs.declared.reader.head.Double.{Double}
use Rattle.fx_text.specs.declared.reader.head.Double.TheVariants as double
use Rattle.fx_text.specs.declared.reader.head.Triple.{Triple}
use Rattle.fx_text.specs.declared.reader.head.Triple.TheVariants as triple
use Rattle.fx_text.specs.declared.reader.head.Then.{Then}
use Rattle.fx_text.specs.declared.reader.head.Then.TheVariants as then
use Rattle.fx_text.specs.declared.reader.head.Whole.{Whole}
use Rattle.fx_text.specs.declared.reader.head.Whole.TheVariants as whole
use Rattle.fx_text.specs.declared.reader.head.Ahead.{Ahead}
use Rattle.fx_text.specs.declared.reader.head.Ahead.TheVariants as ahead
use Rattle.fx_text.specs.declared.reader.head.Head.{Head}
use Rattle.fx_text.specs.declared.reader.head.Head.TheVariants as head
use Rattle.fx_text.specs.declared.reader.cases.CaseSlots.{CaseSlots}
use Rattle.fx_text.specs.declared.reader.cases.CaseRoots.{CaseRoots}
use Rattle.fx_text.specs.declared.reader.cases.CasePart.{CasePart}
use Rattle.fx_text.specs.declared.reader.cases.CasePart.TheVariants as case_part
use Rattle.fx_text.specs.declared.reader.cases.Case.{Case}
use Rattle.fx_text.specs.declared.reader.opening.Outside.{Outside}
use Rattle.fx_text.specs.declared.reader.opening.Opened.{Opened}
use Rattle.fx_text.specs.Limits.{most_bytes, most_queues, term_spares}
use Rattle.fx_text.specs.Token.{next}
use Rattle.fx_text.specs.Scope.{Scope, slot, under, elsewhere, left_of_race, right_of_race, repeated}
use Rattle.fx_text.specs.Race.{race}
use Rattle.fx_text.specs.Group.{OfTerm, OfOutcome}
use Rattle.fx_text.specs.Shape.{Shape, ends, binder, group, term, shape, pure_zero}
use Rattle.fx_text.specs.Reading.{◌>>=◌, Read, GroupReading, refused, too_deep, opening_at, closing_at, binder_at, parts_at, kept, group_at, term_at}
use Rattle.fx_text.specs.Given.{Fails}
use Rattle.fx_text.specs.Needs.{AreMade}
use Rattle.fx_text.specs.Trees.{AllBelow, GrowsBy, Keeps}
use Rattle.fx_text.specs.ReaderState.{scope_of, ids, IsReady}
use Rattle.fx_text.specs.Made.{CanMake, Makes}

-- ---- a part

-- the scope of its term
abbrev pub scope_in : Inner → Scope → Scope
scope_in inner.Same p = p
scope_in (inner.Name k x) p = under k x.now p
scope_in inner.Elsewhere p = elsewhere p
scope_in inner.RaceLeft p = left_of_race p
scope_in inner.RaceRight p = right_of_race p
scope_in (inner.Loop n x) p = repeated n (under kind.Value x.now p)
scope_in inner.Outcome p = p
scope_in (inner.OutcomeUnder x) p = under kind.Value x.now p

-- the part, and what comes after it
abbrev pub part_of : Inner → Scope → (Term → Shape OfTerm) → Shape OfTerm
part_of inner.Outcome p go = group OfOutcome p go
part_of (inner.OutcomeUnder x) p go = group OfOutcome (under kind.Value x.now p) go
part_of i p go = term (scope_in i p) go

-- what is read of it
abbrev pub part_at : ℕ → Inner → Scope → List ℕ → Read Term
part_at room inner.Outcome p bytes = group_at room OfOutcome p bytes
part_at room (inner.OutcomeUnder x) p bytes = group_at room OfOutcome (under kind.Value x.now p) bytes
part_at room i p bytes = term_at room (scope_in i p) bytes

-- no loop takes the turns above the most
abbrev pub TurnsFit : ℕ → Inner → Type 0
TurnsFit turns (inner.Loop n x) = turns_of_loop turns n ≤ most_turns
TurnsFit turns _ = Unit {0}

-- so many names come in scope before bytes of the part have paid for them
abbrev pub spared : Inner → ℕ
spared inner.Same = 0
spared inner.Outcome = 0
spared _ = 2

-- the reader stands in the scope of its term, and can leave it
pub record Enters (i : Inner) (old new : Reader) : Type 0 where
  pub scope : scope_of new ≡ scope_in i (scope_of old)
  pub names : take (length old.names.items) new.names.items ≡ old.names.items
  pub longer : length new.names.items ≤ length old.names.items + spared i
  pub nodes : new.nodes.items ≡ old.nodes.items
  pub needs : new.needs.items ≡ old.needs.items
  pub outside : new.place.foreign ≤ length new.names.items
  pub some_turns : 0 < new.place.turns
  pub few_turns : new.place.turns ≤ most_turns
  pub few_queues : length new.place.queues.now ≤ most_queues

-- the `(` of a group that is no form, and the name that it binds
unfoldable pub named_at : ℕ → Scope → List ℕ → Read (List ℕ)
named_at zero p bytes = refused (too_deep (next bytes).token) (next bytes)
named_at (suc room) p bytes = do
  (_, inside) ← opening_at bytes
  binder_at p inside

-- what comes after the term of a part
abbrev pub ended : Inner → Term × List ℕ → Read Term
ended inner.Outcome x = do
  (_, rest) ← closing_at x.1
  Ok (x.0, rest)
ended (inner.OutcomeUnder y) x = do
  (_, rest) ← closing_at x.1
  Ok (x.0, rest)
ended i x = Ok x

-- and what comes after the parts of its form, which has these bytes after its `(`
abbrev pub closes : Inner → List ℕ → Term × List ℕ → Read Term
closes i inside x = kept OfTerm (length inside + 1) x >>= ended i

-- the reader stands before the term of the part, with room for so many more `(`
pub record WentIn (i : Inner) (room : ℕ) (old new : Reader) (bytes : List ℕ) (level : ℕ) (rest : List ℕ) : Type 0 where
  pub read : part_at room i (scope_of old) bytes ≡ (term_at level (scope_of new) rest >>= ended i)
  pub names : take (length old.names.items) new.names.items ≡ old.names.items
  pub nodes : new.nodes.items ≡ old.nodes.items
  pub ready : IsReady 0 new rest
  pub less : level ≤ room
  pub shorter : length rest ≤ length bytes

abbrev pub GoesIn : Inner → ℕ → Reader → Reader → List ℕ → Result (ℕ × Bor (List ℕ)) ReadError → Type 0
GoesIn i room old new bytes (Ok x) = WentIn i room old new bytes x.0 x.1.now
GoesIn i room old new bytes (Err e) = Fails e (part_at room i (scope_of old) bytes)

-- the names and the place are as they were outside again
pub record Leaves (outside : Outside) (old new : Reader) : Type 0 where
  pub names : new.names.items ≡ take outside.names old.names.items
  pub place : new.place ≡ outside.place
  pub nodes : new.nodes.items ≡ old.nodes.items
  pub needs : new.needs.items ≡ old.needs.items

-- ---- forms of parts

-- the term of a node with no children
abbrev pub leaf_term : Node → Term
leaf_term n = assemble (Some n) (λ _. Never)

-- the term of a form of one part
abbrev pub single_term : Single → Term → Term
single_term (single.For i n) a = For i n a
single_term (single.Mask p) a = Mask p a
single_term (single.Poll x) a = Poll (arg.Slot x) a

-- and of a form of two
abbrev pub double_term : Double → Term → Term → Term
double_term (double.Let x) a b = Let (Some x) a b
double_term (double.Handle x) a b = Handle a (Some x) b
double_term (double.If v) a b = If v a b
double_term (double.Start h) a b = Start h a b
double_term (double.Race s) a b = race s a b
double_term (double.TryTake q x) a b = TryTake q x a b
double_term double.OnCancel a b = OnCancel a b
double_term double.Guarantee a b = Bracket None pure_zero a b
double_term double.Forcer a b = Let None a b

-- and of a form of three
abbrev pub triple_term : Triple → Term → Term → Term → Term
triple_term (triple.Bracket x) a b c = Bracket (Some x) a b c
triple_term (triple.Join f x) a b c = Join (arg.Slot f) x a x b c

-- a `bracketcase` whose parts are these nodes
abbrev pub case_parts : CaseRoots → List NodeId
case_parts r = r.acquire ∷ r.used ∷ r.success ∷ r.failure ∷ r.cancellation ∷ []

abbrev pub case_term : List Node → CaseSlots → CaseRoots → Term
case_term ns s r = BracketCase s.value (term_of ns r.acquire.0) (term_of ns r.used.0) s.outcome (term_of ns r.success.0)
    s.outcome (term_of ns r.failure.0) (term_of ns r.cancellation.0)

-- a form whose parts are these nodes
abbrev pub whole_term : List Node → Whole → Term
whole_term ns (whole.One f a) = single_term f (term_of ns a.0)
whole_term ns (whole.Two f a b) = double_term f (term_of ns a.0) (term_of ns b.0)
whole_term ns (whole.Three f a b c) = triple_term f (term_of ns a.0) (term_of ns b.0) (term_of ns c.0)
whole_term ns (whole.Case s r) = case_term ns s r

abbrev pub parts_of_whole : Whole → List NodeId
parts_of_whole (whole.One f a) = a ∷ []
parts_of_whole (whole.Two f a b) = a ∷ b ∷ []
parts_of_whole (whole.Three f a b c) = a ∷ b ∷ c ∷ []
parts_of_whole (whole.Case s r) = case_parts r

-- a race and a `guarantee` make more nodes than their `)` pays for: of those that the bytes of each part pay for, so many are left over for them
abbrev pub spares_for : Double → ℕ
spares_for (double.Race s) = term_spares
spares_for double.Guarantee = term_spares
spares_for _ = 0

abbrev pub spares_whole : Whole → ℕ
spares_whole (whole.Two f a b) = spares_for f + spares_for f
spares_whole _ = 0

-- the `)` was read, and then the form was made
pub record EndedWhole (old new : Reader) (w : Whole) (bytes : List ℕ) (root : ℕ) (rest : List ℕ) : Type 0 where
  pub closed : closing_at bytes ≡ Ok (tt, rest)
  pub shorter : length rest < length bytes
  pub makes : Makes (1 + spares_whole w) old new (parts_of_whole w) (whole_term old.nodes.items w) root

abbrev pub EndsWhole : Reader → Reader → Whole → List ℕ → Result (NodeId × Bor (List ℕ)) ReadError → Type 0
EndsWhole old new w bytes (Ok x) = EndedWhole old new w bytes x.0.0 x.1.now
EndsWhole old new w bytes (Err e) = Fails e (closing_at bytes)

-- ---- what is still to come

-- after the acquire part of a `bracketcase`, and after each part of it
abbrev pub after_acquire : Case → Term → Scope → Shape OfTerm
after_acquire k a p = part_of (inner.Name kind.Value k.name) p λ u. part_of (inner.OutcomeUnder k.name) p λ s. part_of (inner.OutcomeUnder k.name) p λ e.
    part_of (inner.Name kind.Value k.name) p λ d. ends (BracketCase k.slots.value a u k.slots.outcome s k.slots.outcome e d)

abbrev pub after_case : List Node → Case → CasePart → Term → Scope → Shape OfTerm
after_case ns k case_part.Acquire a p = after_acquire k a p
after_case ns k (case_part.Use a) u p = part_of (inner.OutcomeUnder k.name) p λ s. part_of (inner.OutcomeUnder k.name) p λ e.
    part_of (inner.Name kind.Value k.name) p λ d. ends (BracketCase k.slots.value (term_of ns a.0) u k.slots.outcome s k.slots.outcome e d)
after_case ns k (case_part.Success a u) s p = part_of (inner.OutcomeUnder k.name) p λ e. part_of (inner.Name kind.Value k.name) p λ d.
    ends (BracketCase k.slots.value (term_of ns a.0) (term_of ns u.0) k.slots.outcome s k.slots.outcome e d)
after_case ns k (case_part.Failure a u s) e p = part_of (inner.Name kind.Value k.name) p λ d.
    ends (BracketCase k.slots.value (term_of ns a.0) (term_of ns u.0) k.slots.outcome (term_of ns s.0) k.slots.outcome e d)
after_case ns k (case_part.Cancellation a u s e) d p =
    ends (BracketCase k.slots.value (term_of ns a.0) (term_of ns u.0) k.slots.outcome (term_of ns s.0) k.slots.outcome (term_of ns e.0) d)

-- after a part with this term, of a form whose parts before it are these nodes
abbrev pub after_part : List Node → Then → Term → Scope → Shape OfTerm
after_part ns (then.One f) a p = ends (single_term f a)
after_part ns (then.Two i f) a p = part_of i p λ b. ends (double_term f a b)
after_part ns (then.SecondOfTwo f a) b p = ends (double_term f (term_of ns a.0) b)
after_part ns (then.Three i j f) a p = part_of i p λ b. part_of j p λ c. ends (triple_term f a b c)
after_part ns (then.SecondOfThree j f a) b p = part_of j p λ c. ends (triple_term f (term_of ns a.0) b c)
after_part ns (then.ThirdOfThree f a b) c p = ends (triple_term f (term_of ns a.0) (term_of ns b.0) c)
after_part ns (then.Case k) a p = after_case ns k k.part a p
after_part ns then.Handle a p = binder p λ x. term (under kind.Value x p) λ b. ends (Handle a (Some (slot p)) b)
after_part ns then.Forcer a p = term p λ b. ends (Let None (Handle a None pure_zero) b)

-- up to the next part, or to the `)`
abbrev pub to_come : List Node → Ahead → Scope → Shape OfTerm
to_come ns (ahead.Part i t) p = part_of i p λ a. after_part ns t a p
to_come ns (ahead.End w) p = ends (whole_term ns w)

-- after the first tokens
abbrev pub still : List Node → Head → Scope → Shape OfTerm
still ns (head.Leaf n) p = ends (leaf_term n)
still ns (head.Part i t) p = part_of i p λ a. after_part ns t a p
still ns head.Seq p = shape form.Seq p
still ns head.Using p = shape form.Using p

-- the parts of a `bracketcase` before one
abbrev pub parts_before_case : CasePart → List NodeId
parts_before_case case_part.Acquire = []
parts_before_case (case_part.Use a) = a ∷ []
parts_before_case (case_part.Success a u) = a ∷ u ∷ []
parts_before_case (case_part.Failure a u s) = a ∷ u ∷ s ∷ []
parts_before_case (case_part.Cancellation a u s e) = a ∷ u ∷ s ∷ e ∷ []

-- the parts that were read, in the order of the text
abbrev pub parts_before : Then → List NodeId
parts_before (then.SecondOfTwo f a) = a ∷ []
parts_before (then.SecondOfThree j f a) = a ∷ []
parts_before (then.ThirdOfThree f a b) = a ∷ b ∷ []
parts_before (then.Case k) = parts_before_case k.part
parts_before _ = []

abbrev pub parts_of : Ahead → List NodeId
parts_of (ahead.Part i t) = parts_before t
parts_of (ahead.End w) = parts_of_whole w

abbrev pub spares_before : Then → ℕ
spares_before (then.SecondOfTwo f a) = spares_for f
spares_before _ = 0

abbrev pub spares_of : Ahead → ℕ
spares_of (ahead.Part i t) = spares_before t
spares_of (ahead.End w) = spares_whole w

-- the parts after can be gone into
abbrev pub ThenFits : ℕ → Then → Type 0
ThenFits turns (then.Two i f) = TurnsFit turns i
ThenFits turns (then.Three i j f) = TurnsFit turns i × TurnsFit turns j
ThenFits turns (then.SecondOfThree j f a) = TurnsFit turns j
ThenFits turns _ = Unit {0}

abbrev pub AheadFits : ℕ → Ahead → Type 0
AheadFits turns (ahead.Part i t) = TurnsFit turns i × ThenFits turns t
AheadFits turns (ahead.End w) = Unit {0}

-- nothing of the form was read that has nodes
pub record IsFirst (t : Then) : Type 0 where
  pub none : parts_before t ≡ []
  pub free : spares_before t ≡ 0

-- what it names can be made, and its parts can be gone into
abbrev pub HeadFits : ℕ → Head → Type 0
HeadFits turns (head.Leaf n) = children n ≡ []
HeadFits turns (head.Part i t) = TurnsFit turns i × ThenFits turns t × IsFirst t
HeadFits turns _ = Unit {0}

-- the first tokens of a form were read
pub record Begins (f : Form) (r : Reader) (bytes : List ℕ) (h : Head) (rest : List ℕ) : Type 0 where
  pub read : (each : GroupReading) → parts_at each (shape f (scope_of r)) bytes ≡ parts_at each (still r.nodes.items h (scope_of r)) rest
  pub fits : HeadFits r.place.turns h
  pub shorter : length rest ≤ length bytes

-- the first tokens of a form, or its first fault among them
abbrev pub ReadsHead : Form → Reader → List ℕ → Result (Head × Bor (List ℕ)) ReadError → Type 0
ReadsHead f r bytes (Ok x) = Begins f r bytes x.0 x.1.now
ReadsHead f r bytes (Err e) = (each : GroupReading) → Fails e (parts_at each (shape f (scope_of r)) bytes)

-- the part and those before it have nodes, and there is room for two more
pub record CanGoOn (r : Reader) (t : Then) (a : NodeId) : Type 0 where
  pub made : CanMake 2 r (parts_before t ++ a ∷ [])
  pub names_fit : length r.names.items ≤ most_bytes
  pub fits : ThenFits r.place.turns t

-- what comes after a part was read, up to the next one
pub record WentOn (old new : Reader) (t : Then) (a : NodeId) (bytes : List ℕ) (h : Ahead) (rest : List ℕ) : Type 0 where
  pub names : new.names.items ≡ old.names.items
  pub place : new.place ≡ old.place
  pub made : AreMade new.nodes.items new.needs.items
  pub keeps : Keeps old.nodes.items new.nodes.items
  pub below : AllBelow (length new.nodes.items) (ids (parts_of h))
  pub paid : length new.nodes.items + spares_of h ≤ length old.nodes.items + spares_before t + term_spares
  pub shorter : length rest ≤ length bytes
  pub fits : AheadFits new.place.turns h
  pub read : (each : GroupReading) → parts_at each (after_part old.nodes.items t (term_of old.nodes.items a.0) (scope_of old)) bytes
      ≡ parts_at each (to_come new.nodes.items h (scope_of new)) rest
  pub grows : (start : List Node) → GrowsBy start old.nodes.items (ids (parts_before t ++ a ∷ [])) → GrowsBy start new.nodes.items (ids (parts_of h))

abbrev pub GoesOn : Reader → Reader → Then → NodeId → List ℕ → Result (Ahead × Bor (List ℕ)) ReadError → Type 0
GoesOn old new t a bytes (Ok x) = WentOn old new t a bytes x.0 x.1.now
GoesOn old new t a bytes (Err e) = (each : GroupReading)
    → Fails e (parts_at each (after_part old.nodes.items t (term_of old.nodes.items a.0) (scope_of old)) bytes)

-- ---- a part up to the first part of its own

pub record IsOpened (i : Inner) (room : ℕ) (old new : Reader) (bytes : List ℕ) (o : Opened) : Type 0 where
  pub read : part_at room i (scope_of old) bytes
      ≡ (parts_at (group_at o.room) (still new.nodes.items o.head (scope_of new)) o.rest.now >>= closes i o.inside.now)
  pub names : take (length old.names.items) new.names.items ≡ old.names.items
  pub nodes : new.nodes.items ≡ old.nodes.items
  pub ready : IsReady 2 new o.rest.now
  pub fits : HeadFits new.place.turns o.head
  pub less : o.room < room
  pub paid : length o.rest.now + 2 ≤ length bytes
  pub small : length o.inside.now ≤ length bytes

abbrev pub Opens : Inner → ℕ → Reader → Reader → List ℕ → Result Opened ReadError → Type 0
Opens i room old new bytes (Ok o) = IsOpened i room old new bytes o
Opens i room old new bytes (Err e) = Fails e (part_at room i (scope_of old) bytes)
