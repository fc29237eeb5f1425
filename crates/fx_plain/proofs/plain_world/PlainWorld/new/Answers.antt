use Rattle.std.proofs.Common.{◌≤◌, ◌+◌, ◌∙◌, map, sym, arith, ap}
use Rattle.fx_text.specs.View.{meaning}
use Rattle.fx_text.specs.declared.queue_decl.QueueDecl.{QueueDecl}
use Rattle.fx_plain.specs.PlainQueue.{empty_queue}
use Rattle.fx_term.specs.declared.begin.Begin.{Begin}
use Rattle.fx_report.specs.Script.{script_of}
use Rattle.fx_plain.proofs.Capacities.{empty_by_capacity}
use Rattle.fx_plain.proofs.plain_world.PlainWorld.new.Goals as goal

pub opening-requires-clause-few : goal.opening-requires-clause-few
opening-requires-clause-few g c = let few : c.main_begin-begin.result.end ≤ 1 + 4095 = c.main_begin-begin.ensures.few in omega arith

pub returns-clause-world : goal.returns-clause-world
returns-clause-world g c =
    c.in_ok-world.ensures (script_of (meaning c.args.script.now)) (sym (ap (λ (b : Begin). b.end) c.main_begin-begin.ensures.begin))
    (c.in_ok-queues.ensures ∙ ap (map (λ (q : QueueDecl). empty_queue q.cap)) c.deref.ensures.value
    ∙ empty_by_capacity c.args.script.now.queues.items)
