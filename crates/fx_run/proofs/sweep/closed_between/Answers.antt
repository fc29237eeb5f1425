use Rattle.std.proofs.Common.{rules, ◌≡◌, ◌∙◌, ap, map}
use Rattle.fx_text.specs.View.{meaning}
use Rattle.fx_report.specs.Script.{script_of}
use Rattle.fx_run.specs.Tally.{with_lives}
use Rattle.fx_run.proofs.Unsettled.{declared_capacities}
use Rattle.fx_run.proofs.Sweeps.{closed_parts}
use Rattle.fx_run.proofs.sweep.closed_between.Goals as goal

pub returns : goal.returns
returns g c =
    closed_parts (script_of (meaning c.args.script.now)) c.args.fibers.now
    (record {
      caps = c.in_ok-capacities.field-0.items;
      rests = c.in_ok-rests.rests.items;
      outcomes = c.in_ok-rests.outcomes.items;
      requested = c.in_ok-rests.requested.items;
    })
    c.fibers.new.self (c.fibers.ensures ∙ ap (with_lives c.args.fibers.now) c.in_ok-tally.ensures)
    (let e : c.in_ok-capacities.field-0.items ≡ map (λ q. q.cap) c.args.script.now.queues.items = search rules in
    e ∙ declared_capacities c.args.script.now.queues.items)
    c.in_ok-rests.ensures.rests c.in_ok-rests.ensures.outcomes c.in_ok-rests.ensures.requested
