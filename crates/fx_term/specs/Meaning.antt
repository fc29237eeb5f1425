-- The term that a node of a code stands for.
use Rattle.std.specs.Prelude.{ℕ, zero, suc, ◌-◌, Option, Some, None, List, length, slice_get}
use Rattle.fx_term.specs.declared.node.Arg.TheVariants.{Slot}
use Rattle.fx_term.specs.declared.node.Node.{Node}
use Rattle.fx_term.specs.declared.node.Node.TheVariants as node
use Rattle.fx_term.specs.Term.{Term, Pure, Raise, Canceled, Never, Cede, Let, Handle, If, For, Mask, Poll, OnCancel, Bracket, BracketCase, Start, Join}
use Rattle.fx_term.specs.Term.{Cancel, First, Offer, TryOffer, Take, TryTake}

-- a node's term, from the terms of its children
abbrev pub assemble : Option Node → (ℕ → Term) → Term
assemble None child = Never
assemble (Some (node.Pure a)) child = Pure a
assemble (Some (node.Raise a)) child = Raise a
assemble (Some node.Canceled) child = Canceled
assemble (Some node.Never) child = Never
assemble (Some node.Cede) child = Cede
assemble (Some (node.Let x a b)) child = Let x (child a.0) (child b.0)
assemble (Some (node.Handle a x b)) child = Handle (child a.0) x (child b.0)
assemble (Some (node.If v a b)) child = If v (child a.0) (child b.0)
assemble (Some (node.For i c a)) child = For i c (child a.0)
assemble (Some (node.Mask p a)) child = Mask p (child a.0)
assemble (Some (node.Poll p a)) child = Poll (Slot p) (child a.0)
assemble (Some (node.OnCancel a f)) child = OnCancel (child a.0) (child f.0)
assemble (Some (node.Bracket x a u r)) child = Bracket x (child a.0) (child u.0) (child r.0)
assemble (Some (node.BracketCase x a u y s z e d)) child = BracketCase x (child a.0) (child u.0) y (child s.0) z (child e.0) (child d.0)
assemble (Some (node.Start h a b)) child = Start h (child a.0) (child b.0)
assemble (Some (node.Join f x a e b c)) child = Join (Slot f) x (child a.0) e (child b.0) (child c.0)
assemble (Some (node.Cancel f)) child = Cancel (Slot f)
assemble (Some (node.First f g)) child = First (Slot f) (Slot g)
assemble (Some (node.Offer q v)) child = Offer q v
assemble (Some (node.TryOffer q v)) child = TryOffer q v
assemble (Some (node.Take q)) child = Take q
assemble (Some (node.TryTake q x a b)) child = TryTake q x (child a.0) (child b.0)

-- the node's term, read that many levels deep
unfoldable pub read : ℕ → List Node → ℕ → Term
read zero nodes id = Never
read (suc depth) nodes id = assemble (slice_get nodes id) (read depth nodes)

-- the term of a node. Children stand before their parents, so a node has at most as many levels as its number and one
unfoldable pub term_of : List Node → ℕ → Term
term_of nodes id = read (suc id) nodes id

-- the term of a code: that of its last node
abbrev pub root_term : List Node → Term
root_term nodes = term_of nodes (length nodes - 1)
