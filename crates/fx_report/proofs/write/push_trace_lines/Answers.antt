use Rattle.std.proofs.Common.{◌≡◌, ◌∙◌, ◌++◌, ℕ, List, All, OnOk, length, ap, subst, sym, string_bytes}
use Rattle.std.specs.List.{flat_map}
use Rattle.fx_model.specs.Report.{FiberReportView}
use Rattle.fx_term.specs.declared.stamped.Stamped.{Stamped}
use Rattle.fx_term.specs.QueuesNamed.{NamesQueueBelow}
use Rattle.fx_report.specs.Text.{names_of, event_line, trace_lines}
use Rattle.fx_report.proofs.StampedLines.{lines_are, each_named}
use Rattle.fx_report.proofs.write.push_trace_lines.Goals as goal

pub push_stamped_lines-requires : goal.push_stamped_lines-requires
push_stamped_lines-requires c =
    let n = length c.args.queues.now in
    let named = subst (λ (v : FiberReportView). All (NamesQueueBelow n) v.trace) (sym c.fiber.view_is) c.requires in
    rw c.deref.ensures.value (each_named n c.fiber.inside.trace.items named)

pub returns : goal.returns
returns c =
    let names = names_of c.args.queues.now in
    let id = c.fiber.inside.id in
    let line = λ (x : Stamped). event_line names id x.stamp x.event in
    let lines : flat_map line c.deref.result.now ≡ trace_lines names c.args.fiber.now =
    ap (flat_map line) c.deref.ensures.value ∙ lines_are names id c.fiber.inside.trace.items
    ∙ ap (λ (v : FiberReportView). trace_lines names v) c.fiber.view_is in
    subst (λ (t : List ℕ). OnOk c.push_stamped_lines.result (string_bytes c.push_stamped_lines.new.text ≡ string_bytes c.args.text.now ++ t)) lines
    c.push_stamped_lines.ensures
