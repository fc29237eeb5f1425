use Rattle.fx_text.specs.View.{meaning}
use Rattle.fx_report.specs.Script.{script_of}
use Rattle.fx_run.specs.Sweep.{lists_of}
use Rattle.fx_run.proofs.Sweeps.{swept_so}
use Rattle.fx_run.proofs.rounds.swept_round.Goals as goal

pub returns-clause-swept : goal.returns-clause-swept
returns-clause-swept g c =
    swept_so g.N.RunBrand.nodes (script_of (meaning c.args.script.now)) c.in_ok-end.end.fibers.items c.deref.result.now
    c.in_ok-sweep.field-0.able.items c.in_ok-sweep.field-0.unable.items (lists_of c.in_ok-closed.closed) c.in_ok-end.ensures.ascending
    c.deref.ensures.value c.in_ok-closed.ensures c.in_ok-sweep.ensures.able c.in_ok-sweep.ensures.unable
