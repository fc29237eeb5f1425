-- What the laws of masks say: two terms show the same.
use Rattle.std.specs.Prelude.{◌≡◌, ◌↔◌, ℕ, Option, None, List, ◌∷◌}
use Rattle.fx_term.specs.declared.node.Arg.TheVariants.{Number, Slot}
use Rattle.fx_term.specs.declared.event.Event.TheVariants as event
use Rattle.fx_term.specs.Term.{Term, Pure, Let, Handle, If, For, Mask, Poll, OnCancel, Bracket, BracketCase, Start, Join, TryTake, Finished, Masked, Opened}
use Rattle.fx_term.specs.Term.{InUse, InUseCase, InRelease, Loop, Await}
use Rattle.fx_term.specs.declared.name_kind.NameKind.{NameKind}
use Rattle.fx_term.specs.declared.name_kind.NameKind.TheVariants as kind
use Rattle.fx_term.specs.Scope.{with_name, IsScoped}
use Rattle.fx_model.specs.Origin.{Origin}
use Rattle.fx_model.specs.Row.{Counts, Label, Shows}
use Rattle.fx_model.specs.Step.{Progress}
use Rattle.fx_model.specs.Run.{IsRun, shown}

-- a fiber that begins so has a run, ended or not, that shows this
pub record CanShow (b : Origin) (shows : List Label) : Type 0 where
  pub labels : List Label
  pub counts : Counts
  pub progress : Progress
  pub run : IsRun b labels counts progress
  pub shown_is : shown labels ≡ shows

-- a request is seen first of all
abbrev pub BeginsWithSeen : List Label → Type 0
BeginsWithSeen (Shows event.Seen ∷ ls) = Unit {0}
BeginsWithSeen _ = ⊥

-- a fiber that begins with the first term can show all that one that begins with the second can
abbrev pub ShowsAllOf : Term → Term → Type 0
ShowsAllOf t u =
    (next end : ℕ) (ls : List Label) → CanShow (record { term = u; next = next; end = end }) ls → CanShow (record { term = t; next = next; end = end }) ls

-- a fiber that begins with the one term can show exactly what one that begins with the other can, in any range of fiber numbers
abbrev pub ShowTheSame : Term → Term → Type 0
ShowTheSame t u =
    (next end : ℕ) (ls : List Label) → CanShow (record { term = t; next = next; end = end }) ls ↔ CanShow (record { term = u; next = next; end = end }) ls

-- the same, but for what begins with a request that is seen
abbrev pub ShowTheSameUnlessSeenFirst : Term → Term → Type 0
ShowTheSameUnlessSeenFirst t u =
    (next end : ℕ) (ls : List Label) → (BeginsWithSeen ls → ⊥)
    → CanShow (record { term = t; next = next; end = end }) ls ↔ CanShow (record { term = u; next = next; end = end }) ls

-- the second term, after the first has succeeded or erred
abbrev pub forced_after : Term → Term → Term
forced_after a t = Let None (Handle a None (Pure (Number 0))) t

-- a term as a script has it: none of the nodes that come into being as a term runs, and each poll names its mask
abbrev pub IsPlain : Term → Type 0
IsPlain (Let x a b) = IsPlain a × IsPlain b
IsPlain (Handle a x b) = IsPlain a × IsPlain b
IsPlain (If v a b) = IsPlain a × IsPlain b
IsPlain (For i c a) = IsPlain a
IsPlain (Mask p a) = IsPlain a
IsPlain (Poll (Slot p) a) = IsPlain a
IsPlain (Poll (Number r) a) = ⊥
IsPlain (OnCancel a f) = IsPlain a × IsPlain f
IsPlain (Bracket x a u r) = IsPlain a × IsPlain u × IsPlain r
IsPlain (BracketCase x a u y s z e d) = IsPlain a × IsPlain u × IsPlain s × IsPlain e × IsPlain d
IsPlain (Start h a b) = IsPlain a × IsPlain b
IsPlain (Join f x a e b c) = IsPlain a × IsPlain b × IsPlain c
IsPlain (TryTake q x a b) = IsPlain a × IsPlain b
IsPlain (Finished v) = ⊥
IsPlain (Masked r a) = ⊥
IsPlain (Opened r a) = ⊥
IsPlain (InUse k a r) = ⊥
IsPlain (InUseCase k a y s z e d) = ⊥
IsPlain (InRelease k a v) = ⊥
IsPlain (Loop i k c a) = ⊥
IsPlain (Await f) = ⊥
IsPlain _ = Unit {0}

-- the term stands under binders of these two names, so that none in it binds them, and uses neither
abbrev pub IsScopedWithout : (ℕ → Option NameKind) → ℕ → ℕ → Term → Type 0
IsScopedWithout scope p r t = IsScoped (with_name p kind.OtherPoll (with_name r kind.OtherPoll scope)) t
