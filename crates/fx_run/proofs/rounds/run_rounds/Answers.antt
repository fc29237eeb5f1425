use Rattle.std.proofs.Common.{arith, ◌≡◌, ◌∙◌, sym, vec_len}
use Rattle.std.proofs.lemmas.Bool.{eqb-true}
use Rattle.fx_text.specs.View.{meaning}
use Rattle.fx_report.specs.Script.{script_of}
use Rattle.fx_run.proofs.Sweeps.{found_none, still_ascending, none_can_go}
use Rattle.fx_run.proofs.rounds.run_rounds.Goals as goal

pub returns-then-is_empty-clause-ascending : goal.returns-then-is_empty-clause-ascending
returns-then-is_empty-clause-ascending g c =
    let nodes = g.N.RunBrand.nodes in
    let script = script_of (meaning c.args.script.now) in
    let able = c.in_ok-next.next.swept.able in
    let unable = c.in_ok-next.next.swept.unable.items in
    let none : vec_len able ≡ 0 = eqb-true (vec_len able) 0 (sym c.is_empty.ensures ∙ c.if-is_empty.true) in
    let long = able.ok in
    still_ascending nodes script unable (found_none nodes script able.items unable (omega (arith, none, long)) c.in_ok-next.ensures.swept)

pub returns-then-is_empty-clause-settled : goal.returns-then-is_empty-clause-settled
returns-then-is_empty-clause-settled g c =
    let nodes = g.N.RunBrand.nodes in
    let script = script_of (meaning c.args.script.now) in
    let able = c.in_ok-next.next.swept.able in
    let unable = c.in_ok-next.next.swept.unable.items in
    let none : vec_len able ≡ 0 = eqb-true (vec_len able) 0 (sym c.is_empty.ensures ∙ c.if-is_empty.true) in
    let long = able.ok in
    none_can_go nodes script unable (found_none nodes script able.items unable (omega (arith, none, long)) c.in_ok-next.ensures.swept)
