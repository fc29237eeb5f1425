use Rattle.std.proofs.Common.{arith, refl, sym, ◌∙◌, true≢false}
use Rattle.std.specs.Prelude.{nat_eq}
use Rattle.std.specs.HashMap.{get}
use Rattle.std.proofs.lemmas.Option.{slice_get-get_or}
use Rattle.fx_term.specs.declared.event.Event.TheVariants as event
use Rattle.fx_order.specs.declared.occurrence.Occurrence.{Occurrence}
use Rattle.fx_counts.proofs.Rises.{one_more, falls, all_risen}
use Rattle.fx_counts.proofs.reordered.places_rise.Goals as goal

abbrev none : Occurrence
none = record { fiber = 0; place = 0; event = event.Start 0; stamp = 0 }

pub loop-it-preserved : goal.loop-it-preserved
loop-it-preserved c =
    one_more c.args.list.now (λ f. get nat_eq c.loop-it.latest f) c.loop-it.it-index _ _ c.loop-it.invariant
    (slice_get-get_or c.args.list.now c.loop-it.it-index none (omega arith)) c.in_ok-before.ensures.old
    (sym c.is_after.ensures ∙ c.if-not-is_after.false) _ c.in_ok-before.ensures.updates.0 _ (omega arith)

pub returns-then-not-is_after : goal.returns-then-not-is_after
returns-then-not-is_after c = (
  λ is. absurd (true≢false (sym is)),
  λ rises. absurd
      (falls c.args.list.now (λ f. get nat_eq c.loop-it.latest f) c.loop-it.it-index _ _ c.loop-it.invariant
      (slice_get-get_or c.args.list.now c.loop-it.it-index none (omega arith)) c.in_ok-before.ensures.old
      (sym c.is_after.ensures ∙ c.if-not-is_after.true) rises),
)

pub returns : goal.returns
returns c = (λ is. all_risen c.args.list.now _ _ c.loop-it.invariant c.loop-it-test.false, λ rises. refl)
