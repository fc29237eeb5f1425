use Rattle.std.proofs.Common.{◌∙◌, ap, Option, List}
use Rattle.fx_term.specs.declared.node.NodeId.{NodeId}
use Rattle.fx_command.specs.ToldText.{node_of, place_of}
use Rattle.fx_command.proofs.StoodEventsLaws.{goes_on}
use Rattle.fx_command.proofs.ShownCounts.{goes_within}
use Rattle.fx_command.proofs.stood_events.stood_events.Goals as goal

pub loop-next-preserved : goal.loop-next-preserved
loop-next-preserved c =
    let (told, within) = c.loop-next.invariant in
    let is = c.in-Some.ensures.cases.0 in
    let node = c.node_of.ensures ∙ ap (λ (nodes : List (Option NodeId)). node_of nodes c.in-Some.next.now) c.deref.ensures.value in
    let placed = c.place_at-place.ensures ∙ ap (place_of c.args.places.now) node in (
      goes_on c.args.places.now c.loop-next.nodes.items c.note.new.stood.items c.loop-next.so_far c.push_told.new.so_far _ c.in-Some.more.now
          c.in-Some.next.now c.loop-next.list.items c.push_told.new.list.items _ _ is placed c.in_ok-push_told.ensures.list c.note.ensures
          c.in_ok-push_told.ensures.shown told,
      goes_within _ c.loop-next.so_far c.push_told.new.so_far _ c.in-Some.more.now c.in-Some.next.now is c.in_ok-push_told.ensures.shown within,
    )
