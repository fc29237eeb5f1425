use Rattle.std.proofs.Common.{◌≡◌, ◌<◌, ◌≤◌, List, ◌∙◌, ap, sym, subst, length, get_or, vec_len, arith}
use Rattle.std.proofs.lemmas.Bool.{eqb-true}
use Rattle.fx_text.specs.View.{meaning}
use Rattle.fx_report.specs.Script.{script_of}
use Rattle.fx_model.specs.Report.{FiberReportView, ReportView, final_outside}
use Rattle.fx_follow.specs.Followed.{stands_of}
use Rattle.fx_follow.proofs.Told.{still_told}
use Rattle.fx_follow.proofs.UnderWay.{one_more, all_followed}
use Rattle.fx_follow.proofs.all_fibers.follow_named.Goals as goal

pub loop-reported-preserved : goal.loop-reported-preserved
loop-reported-preserved g c =
    let s = script_of (meaning c.args.script.now) in
    let r = c.args.report.now in
    let i = c.loop-reported.reported-index in
    let x = c.reported-item.result in
    let same : c.deref-reported-items.result.now ≡ r.fibers =
    c.deref-reported-items.ensures.value ∙ ap (λ (v : ReportView). v.fibers) c.report.view_is in
    let below : i < length r.fibers = subst (λ (xs : List FiberReportView). i < length xs) same c.loop-reported-test.true in
    let at : x ≡ get_or r.fibers i x = subst (λ (xs : List FiberReportView). x ≡ get_or xs i x) same c.reported-item.is in
    let leads = rw c.in-Some.is at c.in_ok-next.ensures.way in
    record {
      way = one_more g.J.CodeBrand.nodes s r i x c.loop-reported.told.items c.push.new.self.items c.in-Some.stands c.follow_next.new.waiting.items
          below at c.in_ok-push.ensures.items (leads _ _ c.loop-reported.invariant.way);
      outcomes = still_told c.loop-reported.answers c.follow_next.new.answers (final_outside s r).outcome c.in_ok-next.ensures.outcomes
          c.loop-reported.invariant.outcomes;
    }

pub returns : goal.returns
returns g c =
    let s = script_of (meaning c.args.script.now) in
    let r = c.args.report.now in
    let i = c.loop-reported.reported-index in
    let waiting = c.loop-reported.waiting in
    let same : c.deref-reported-items.result.now ≡ r.fibers =
    c.deref-reported-items.ensures.value ∙ ap (λ (v : ReportView). v.fibers) c.report.view_is in
    let past : length r.fibers ≤ i = subst (λ (xs : List FiberReportView). length xs ≤ i) same c.loop-reported-test.false in
    let none : vec_len waiting ≡ 0 = eqb-true (vec_len waiting) 0 (sym c.is_empty.ensures ∙ c.if-not-is_empty.false) in
    let long = waiting.ok in
    all_followed g.J.CodeBrand.nodes s r i (stands_of c.loop-reported.told.items) waiting.items past (omega (arith, none, long))
    c.loop-reported.invariant.way
