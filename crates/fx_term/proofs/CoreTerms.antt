-- Core terms stay core where numbers are put for their names, and the term of a code is core.
use Rattle.std.proofs.Common.{ℕ, Option, Some, None, List}
use Rattle.fx_term.specs.declared.node.Node.{Node}
use Rattle.fx_term.specs.Term.{Term, Let, Handle, If, For, Mask, Poll, OnCancel, Bracket, BracketCase, Start, Join, TryTake}
use Rattle.fx_term.specs.Term.{Finished, Masked, Opened, InUse, InUseCase, InRelease, Loop, Await, put, put_named}
use Rattle.fx_term.specs.Scope.{HasLevels}
use Rattle.fx_term.specs.Forms.{IsCore}
use Rattle.fx_term.specs.Meaning.{root_term}
use Rattle.fx_term.specs.Code.{IsCode}

pub core_put : (x n : ℕ) (t : Term) → IsCore t → IsCore (put x n t)
core_put x n (Let y a b) h = (core_put x n a h.0, core_put x n b h.1)
core_put x n (Handle a y b) h = (core_put x n a h.0, core_put x n b h.1)
core_put x n (If v a b) h = (core_put x n a h.0, core_put x n b h.1)
core_put x n (For i k a) h = core_put x n a h
core_put x n (Mask p a) h = core_put x n a h
core_put x n (Poll p a) h = core_put x n a h
core_put x n (OnCancel a f) h = (core_put x n a h.0, core_put x n f h.1)
core_put x n (Bracket y a u r) h = (core_put x n a h.0, core_put x n u h.1, core_put x n r h.2)
core_put x n (BracketCase y a u z s w e d) h =
    (core_put x n a h.0, core_put x n u h.1, core_put x n s h.2, core_put x n e h.3, core_put x n d h.4)
core_put x n (Start y a b) h = (core_put x n a h.0, core_put x n b h.1)
core_put x n (Join f y a e b d) h = (core_put x n a h.0, core_put x n b h.1, core_put x n d h.2)
core_put x n (TryTake q y a b) h = (core_put x n a h.0, core_put x n b h.1)
core_put x n (Loop i j k a) h = core_put x n a h
core_put x n (Finished v) h = absurd h
core_put x n (Masked r a) h = absurd h
core_put x n (Opened r a) h = absurd h
core_put x n (InUse k a r) h = absurd h
core_put x n (InUseCase k u y s z e d) h = absurd h
core_put x n (InRelease k a v) h = absurd h
core_put x n (Await f) h = absurd h
core_put x n _ h = tt

pub core_put_named : (x : Option ℕ) (n : ℕ) (t : Term) → IsCore t → IsCore (put_named x n t)
core_put_named None n t h = h
core_put_named (Some x) n t h = core_put x n t h

-- a term of a script has none of the nodes that come into being as a term runs
levels_core : (bound : ℕ) (t : Term) → HasLevels bound t → IsCore t
levels_core bound (Let x a b) h = (levels_core _ a h.0, levels_core _ b h.2)
levels_core bound (Handle a x b) h = (levels_core _ a h.0, levels_core _ b h.2)
levels_core bound (If v a b) h = (levels_core _ a h.1, levels_core _ b h.2)
levels_core bound (For i n a) h = levels_core _ a h.1
levels_core bound (Mask p a) h = levels_core _ a h.1
levels_core bound (Poll p a) h = levels_core _ a h.1
levels_core bound (OnCancel a f) h = (levels_core _ a h.0, levels_core _ f h.1)
levels_core bound (Bracket x a u r) h = (levels_core _ a h.0, levels_core _ u h.2, levels_core _ r h.3)
levels_core bound (BracketCase x a u y s z e d) h =
    (levels_core _ a h.0, levels_core _ u h.2, levels_core _ s h.4, levels_core _ e h.6, levels_core _ d h.7)
levels_core bound (Start y a b) h = (levels_core _ a h.0, levels_core _ b h.2)
levels_core bound (Join f x a e b d) h = (levels_core _ a h.2, levels_core _ b h.4, levels_core _ d h.5)
levels_core bound (TryTake q x a b) h = (levels_core _ a h.1, levels_core _ b h.2)
levels_core bound (Loop i k n a) h = absurd h
levels_core bound (Finished v) h = absurd h
levels_core bound (Masked r a) h = absurd h
levels_core bound (Opened r a) h = absurd h
levels_core bound (InUse k a r) h = absurd h
levels_core bound (InUseCase k u y s z e d) h = absurd h
levels_core bound (InRelease k a v) h = absurd h
levels_core bound (Await f) h = absurd h
levels_core bound _ h = tt

pub code_is_core : {queues : ℕ} (nodes : List Node) → IsCode queues nodes → IsCore (root_term nodes)
code_is_core nodes code = levels_core 0 (root_term nodes) code.scope.levels
