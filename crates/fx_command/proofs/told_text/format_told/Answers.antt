use Rattle.std.proofs.Common.{◌∙◌, ap, length, Option, List, string_bytes}
use Rattle.std.proofs.lemmas.List.Elements.{All-rest}
use Rattle.fx_term.specs.declared.node.NodeId.{NodeId}
use Rattle.fx_text.specs.View.{meaning}
use Rattle.fx_report.specs.Text.{queue_names}
use Rattle.fx_plain.specs.ToldRun.{IsToldAtQueueBelow}
use Rattle.fx_command.specs.ToldText.{node_of, place_of}
use Rattle.fx_command.proofs.ToldTextLaws.{goes_on, numbers_left}
use Rattle.fx_command.proofs.told_text.format_told.Goals as goal

pub loop-next-preserved : goal.loop-next-preserved
loop-next-preserved c =
    let (text, named, count) = c.loop-next.invariant in
    let is = c.in-Some.ensures.cases.0 in
    let names = queue_names (meaning c.args.script.now) in
    let node = c.node_of.ensures ∙ ap (λ (stood : List (Option NodeId)). node_of stood c.in-Some.next.now) c.deref.ensures.value in
    let placed = c.place_at-place.ensures ∙ ap (place_of c.args.places.now) node in (
      goes_on names c.args.places.now c.loop-next.stood.items c.note.new.stood.items c.loop-next.number _ _ c.in-Some.more.now c.in-Some.next.now
          (string_bytes c.loop-next.text) (string_bytes c.push_told.new.text) _ _ is placed c.in_ok-push_told.ensures c.note.ensures
          c.number_after-number.ensures text,
      All-rest (IsToldAtQueueBelow (length names)) _ _ _ is named,
      numbers_left _ _ _ _ _ _ is c.number_after-number.ensures count,
    )
