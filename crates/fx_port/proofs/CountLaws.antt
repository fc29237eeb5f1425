-- How often a pass has put after a call.
use Rattle.std.proofs.Common.{◌≡◌, ℕ, ◌+◌, Option, Some, None, MatchOption, sym, ◌∙◌, ap}
use Rattle.crossbeam_queue.specs.Fifo.{Held}
use Rattle.fx_term.specs.Queue.{puts}
use Rattle.fx_term.specs.declared.item.Item.{Item}
use Rattle.fx_queue.specs.Told.{DidPut, DidGet, stands}
use Rattle.fx_queue.specs.Queues.{HeldPass}
use Rattle.fx_queue.proofs.Counts.{put_count, got_count}

pub count_kept : (r : Option Item) (s t : HeldPass) → MatchOption r ((t ≡ s) × Held 0 (stands s.view)) (λ x. DidGet s.view x t.view)
    → puts s.view.own.acts ≡ puts t.view.own.acts
count_kept None s t m = ap (λ (u : HeldPass). puts u.view.own.acts) (sym m.0)
count_kept (Some x) s t m = sym (got_count s.view x t.view m)

pub count_more : (s t : HeldPass) (value stamp n : ℕ) → DidPut s.view value stamp t.view → n ≡ puts s.view.own.acts → n + 1 ≡ puts t.view.own.acts
count_more s t value stamp n m e = ap (λ (k : ℕ). k + 1) e ∙ sym (put_count s.view value stamp t.view m)
