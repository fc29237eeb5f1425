-- A take puts nothing.
use Rattle.std.proofs.Common.{◌≡◌, Option, Some, None, ap}
use Rattle.std.specs.Prelude.{MatchOption}
use Rattle.fx_term.specs.declared.item.Item.{Item}
use Rattle.fx_term.specs.Queue.{puts}
use Rattle.fx_queue.specs.Queues.{HeldPass}
use Rattle.fx_queue.specs.Told.{DidGet}
use Rattle.fx_queue.proofs.Counts.{got_count}

pub take_puts_nothing : (s t : HeldPass) (Held : Type 0) (taken : Option Item) → MatchOption taken ((t ≡ s) × Held) (λ x. DidGet s.view x t.view)
    → puts t.view.own.acts ≡ puts s.view.own.acts
take_puts_nothing s t Held None told = ap (λ (p : HeldPass). puts p.view.own.acts) told.0
take_puts_nothing s t Held (Some x) told = got_count s.view x t.view told
