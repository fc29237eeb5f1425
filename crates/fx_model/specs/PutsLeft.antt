-- How many elements a fiber can still put.
use Rattle.std.specs.Prelude.{ℕ, suc, ◌+◌, ◌-◌, ◌*◌, max, List, [], ◌∷◌}
use Rattle.fx_term.specs.declared.event.Event.TheVariants as event
use Rattle.fx_term.specs.Term.{Term, Let, Handle, If, For, Mask, Poll, OnCancel, Bracket, BracketCase, Start, Join, Offer, TryOffer, TryTake, Masked, Opened}
use Rattle.fx_term.specs.Term.{InUse, InUseCase, InRelease, Loop}
use Rattle.fx_model.specs.Path.{CleanupTerm, over_cleanups}
use Rattle.fx_model.specs.Row.{Label, Shows}
use Rattle.fx_model.specs.Step.{Progress, Runs, Unwinds, CleansUp, HasEnded}

-- at most how many elements it puts as it runs the term; a started term is run by another fiber
abbrev pub puts : Term → ℕ
puts (Let x a b) = puts a + puts b
puts (Handle a x b) = puts a + puts b
puts (If v a b) = max (puts a) (puts b)
puts (For i c a) = c * puts a
puts (Mask p a) = puts a
puts (Poll p a) = puts a
puts (OnCancel a f) = puts a + puts f
puts (Bracket x a u r) = puts a + puts u + puts r
puts (BracketCase x a u y s z e d) = puts a + puts u + max (puts s) (max (puts e) (puts d))
puts (Start h a b) = puts b
puts (Join f x a e b c) = max (puts a) (max (puts b) (puts c))
puts (TryTake q x a b) = max (puts a) (puts b)
puts (Masked r a) = puts a
puts (Opened r a) = puts a
puts (InUse k a r) = puts a + puts r
puts (InUseCase k a y s z e d) = puts a + max (puts s) (max (puts e) (puts d))
puts (InRelease k a v) = puts a
puts (Loop i k n a) = (n - k) * puts a
puts (Offer q v) = 1
puts (TryOffer q v) = 1
puts _ = 0

abbrev pub cleanup_puts : List CleanupTerm → ℕ
cleanup_puts = over_cleanups puts 0

-- at most how many it puts from there on
abbrev pub puts_left : Progress → ℕ
puts_left (Runs t) = puts t
puts_left (Unwinds rest) = cleanup_puts rest
puts_left (CleansUp k t rest) = puts t + cleanup_puts rest
puts_left (HasEnded o) = 0

-- how many it has put
abbrev pub puts_of : Label → ℕ
puts_of (Shows (event.Put q n)) = 1
puts_of _ = 0

-- how many it has put after a step with this label
abbrev pub puts_with : Label → ℕ → ℕ
puts_with (Shows (event.Put q n)) puts = suc puts
puts_with _ puts = puts

abbrev pub puts_made : List Label → ℕ
puts_made [] = 0
puts_made (l ∷ ls) = puts_of l + puts_made ls
