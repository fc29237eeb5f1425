use Rattle.std.proofs.Common.{List, ◌++◌, ◌∷◌, [], ◌∙◌, ap, sym, subst}
use Rattle.fx_text.specs.View.{meaning}
use Rattle.fx_report.specs.Script.{script_of}
use Rattle.fx_model.specs.Report.{FiberReportView}
use Rattle.fx_fiber.specs.Fiber.{FiberView}
use Rattle.fx_fiber.specs.PortFacts.{Facts}
use Rattle.fx_follow.specs.Waiting.{IsUnderWay}
use Rattle.fx_follow.proofs.UnderWay.{goes_on}
use Rattle.fx_follow.proofs.all_fibers.follow_next.Goals as goal

pub returns-clause-way : goal.returns-clause-way
returns-clause-way g c = λ xs told way.
    let s = script_of (meaning c.args.script.now) in
    let trail = c.in-Some-followed.trail in
    let whole = rw c.in-Some-followed.is at c.in_ok-followed.ensures.whole in
    let leads = rw c.in-Some-followed.is at c.in_ok-followed.ensures.trail in
    subst
    (λ (waiting : List (FiberView Facts)). IsUnderWay g.J.CodeBrand.nodes s c.args.report.now (xs ++ c.args.reported.now ∷ [])
    (told ++ trail.stands.items ∷ []) waiting)
    (sym c.in_ok-append.ensures.items)
    (goes_on g.J.CodeBrand.nodes s c.args.report.now xs told c.args.waiting.now.items c.take_out.new.waiting.items c.args.reported.now c.in-Some.first
    (c.in-Some.ensures.0 ∙ ap (λ (x : FiberReportView). x.id) c.reported.view_is) c.in-Some.ensures.1 trail.fiber trail.last_node trail.stands.items
    trail.children.items whole leads way)
