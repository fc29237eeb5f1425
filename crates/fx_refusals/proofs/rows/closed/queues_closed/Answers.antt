use Rattle.std.proofs.Common.{subst, sym, refl, ℕ, ⊎_elim}
use Rattle.fx_term.specs.Lists.{Among}
use Rattle.fx_queue.specs.PassView.{first_view, IsWhole}
use Rattle.fx_queue.specs.declared.entry.Entry.{Entry}
use Rattle.fx_port.proofs.RunLaws.{queue_at}
use Rattle.fx_refusals.proofs.rows.closed.queues_closed.Goals as goal

-- a first pass has split none off
first_whole : (cap fibers : ℕ) → IsWhole (first_view cap fibers)
first_whole cap fibers = (
  refl,
  λ e k i m. absurd (⊎_elim
      (λ own. subst (λ (u : Entry). Among i u.parts) own m)
      (λ z. absurd z) k),
)

pub close_queues-left-requires-clause-whole : goal.close_queues-left-requires-clause-whole
close_queues-left-requires-clause-whole g c q s at =
    let first = c.in_ok-queues.ensures.first in
    let t = queue_at c.in_ok-queues.queues.items c.in_ok-queues.passes q s first.as_many at in
    subst IsWhole (sym (first.each q s t.0 at t.1).1) (first_whole t.0.cap 3)
