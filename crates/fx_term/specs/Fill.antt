-- A term with registers in place of its names: the register of a name is the place of its number in a list.
use Rattle.std.specs.Prelude.{◌≡◌, ℕ, ◌<◌, if◌then◌else◌, nat_lt, Option, Some, None, List, slice_index}
use Rattle.fx_term.specs.declared.node.Arg.{Arg}
use Rattle.fx_term.specs.declared.node.Arg.TheVariants.{Number, Slot}
use Rattle.fx_term.specs.Term.{Term, Pure, Raise, Canceled, Never, Cede, Let, Handle, If, For, Mask, Poll, OnCancel, Bracket, BracketCase, Start, Join}
use Rattle.fx_term.specs.Term.{Cancel, First, Offer, TryOffer, Take, TryTake, Finished, Masked, Opened, InUse, InUseCase, InRelease, Loop, Await}

-- the argument with the numbers of a list for the names below the bound
abbrev pub fill_arg : ℕ → List ℕ → Arg → Arg
fill_arg bound numbers (Number m) = Number m
fill_arg bound numbers (Slot x) = if nat_lt x bound then Number (slice_index numbers x) else Slot x

-- below a binder, names from it on are left as they stand
abbrev pub lower : ℕ → ℕ → ℕ
lower bound x = if nat_lt x bound then x else bound

abbrev pub lower_named : ℕ → Option ℕ → ℕ
lower_named bound None = bound
lower_named bound (Some x) = lower bound x

-- the term with the numbers of a list for the names that are free in it and below the bound
abbrev pub fill : ℕ → List ℕ → Term → Term
fill b ns (Pure a) = Pure (fill_arg b ns a)
fill b ns (Raise a) = Raise (fill_arg b ns a)
fill b ns Canceled = Canceled
fill b ns Never = Never
fill b ns Cede = Cede
fill b ns (Let x t u) = Let x (fill b ns t) (fill (lower_named b x) ns u)
fill b ns (Handle t x u) = Handle (fill b ns t) x (fill (lower_named b x) ns u)
fill b ns (If v t u) = If (fill_arg b ns v) (fill b ns t) (fill b ns u)
fill b ns (For i c t) = For i c (fill (lower b i) ns t)
fill b ns (Mask p t) = Mask p (fill (lower b p) ns t)
fill b ns (Poll p t) = Poll (fill_arg b ns p) (fill b ns t)
fill b ns (OnCancel t f) = OnCancel (fill b ns t) (fill b ns f)
fill b ns (Bracket x t u r) = Bracket x (fill b ns t) (fill (lower_named b x) ns u) (fill (lower_named b x) ns r)
fill b ns (BracketCase x t u y v z w o) =
    let under = lower b x in
    BracketCase x (fill b ns t) (fill under ns u) y (fill (lower under y) ns v) z (fill (lower under z) ns w) (fill under ns o)
fill b ns (Start h t u) = Start h (fill b ns t) (fill (lower b h) ns u)
fill b ns (Join f x t e u v) = Join (fill_arg b ns f) x (fill (lower b x) ns t) e (fill (lower b e) ns u) (fill b ns v)
fill b ns (Cancel f) = Cancel (fill_arg b ns f)
fill b ns (First f g) = First (fill_arg b ns f) (fill_arg b ns g)
fill b ns (Offer q v) = Offer q (fill_arg b ns v)
fill b ns (TryOffer q v) = TryOffer q (fill_arg b ns v)
fill b ns (Take q) = Take q
fill b ns (TryTake q x t u) = TryTake q x (fill (lower b x) ns t) (fill b ns u)
fill b ns (Finished v) = Finished v
fill b ns (Masked r t) = Masked r (fill b ns t)
fill b ns (Opened r t) = Opened r (fill b ns t)
fill b ns (InUse k t r) = InUse k (fill b ns t) (fill b ns r)
fill b ns (InUseCase k t y u z v w) = InUseCase k (fill b ns t) y (fill (lower b y) ns u) z (fill (lower b z) ns v) (fill b ns w)
fill b ns (InRelease k t v) = InRelease k (fill b ns t) v
fill b ns (Loop i k c t) = Loop i k c (fill (lower b i) ns t)
fill b ns (Await f) = Await f

-- two lists have the same numbers below the bound
abbrev pub AgreeBelow : ℕ → List ℕ → List ℕ → Type 0
AgreeBelow e ns ms = (i : ℕ) → i < e → slice_index ns i ≡ slice_index ms i
