use Rattle.std.proofs.Common.{ℕ, List, subst, arith}
use Rattle.fx_places.specs.Places.{StandsAt}
use Rattle.fx_places.proofs.PositionLaws.{stands_first, stands_next, line_within, column_within}
use Rattle.fx_places.proofs.place.places.Goals as goal

pub loop-byte-init : goal.loop-byte-init
loop-byte-init c = (stands_first c.args.text.now, c.new-walk.ensures c.args.text.now c.args.code.now.nodes, omega arith, omega arith)

pub loop-byte-preserved : goal.loop-byte-preserved
loop-byte-preserved c =
    let text = c.args.text.now in
    let here = c.loop-byte.position in
    let next = c.past-position.result in
    let byte = c.in-Some.byte.now in
    let inside = c.in-Some.inside.now in
    let (stands, walk, line, column) = c.loop-byte.invariant in
    let is = c.in-Some.ensures.cases.0 in
    let at = subst (λ (rest : List ℕ). StandsAt text rest here) is stands in (
      stands_next text inside byte here next c.past-position.ensures.line c.past-position.ensures.column at,
      c.in_ok-step.ensures text at walk,
      line_within here.line next.line byte _ _ inside c.past-position.ensures.line is line,
      column_within here.column next.column byte _ _ inside c.past-position.ensures.column is column,
    )
