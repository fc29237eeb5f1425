use Rattle.std.proofs.Common.{rules, ◌≡◌, ◌∙◌, refl, sym, map}
use Rattle.std.proofs.lemmas.Simd.{map-map}
use Rattle.fx_term.specs.Element.{elements_of}
use Rattle.fx_term.specs.Script.{total}
use Rattle.fx_text.specs.View.{meaning}
use Rattle.fx_report.specs.Script.{script_of}
use Rattle.fx_run.proofs.Unsettled.{declared_capacities, unsettled_answer, reported_answer}
use Rattle.fx_run.proofs.whole_report.report_by.Goals as goal

pub returns-in-Some-clause-fault : goal.returns-in-Some-clause-fault
returns-in-Some-clause-fault c =
    unsettled_answer (script_of (meaning c.args.script.now)) c.args.bares.items (map (λ items. items.items) c.args.left.items) c.args.outside.items
    c.args.late (total (script_of (meaning c.args.script.now))) refl c.requires.ascending c.requires.below
    (record {
      caps = c.in_ok-caps.caps;
      rests = c.in_ok-rests.rests;
      outcomes = c.into_tables-parents.result.2;
      requested = c.into_tables-parents.result.1;
    })
    c.into_tables-parents.result.0.items c.first_unsettled.result
    (let e : c.in_ok-caps.caps.items ≡ map (λ q. q.cap) c.args.script.now.queues.items = search rules in
    e ∙ declared_capacities c.args.script.now.queues.items)
    c.in_ok-caps.ensures.fits (search rules) (search rules) (search rules) (search rules) (search rules) c.in-Some.id c.in-Some.is

pub returns-clause-report : goal.returns-clause-report
returns-clause-report c =
    reported_answer (script_of (meaning c.args.script.now)) c.args.bares.items (map (λ items. items.items) c.args.left.items) c.args.outside.items
    c.args.late (total (script_of (meaning c.args.script.now))) refl c.requires.ascending c.requires.below
    (record {
      caps = c.in_ok-caps.caps;
      rests = c.in_ok-rests.rests;
      outcomes = c.into_tables-parents.result.2;
      requested = c.into_tables-parents.result.1;
    })
    c.into_tables-parents.result.0.items c.first_unsettled.result
    (let e : c.in_ok-caps.caps.items ≡ map (λ q. q.cap) c.args.script.now.queues.items = search rules in
    e ∙ declared_capacities c.args.script.now.queues.items)
    c.in_ok-caps.ensures.fits (search rules) (search rules) (search rules) (search rules) (search rules) _ _ (search rules) (search rules) (search rules)
    (sym (map-map elements_of (λ items. items.items) c.args.left.items))
