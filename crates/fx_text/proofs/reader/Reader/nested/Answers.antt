use Rattle.std.proofs.Common.{arith}
use Rattle.fx_text.proofs.ResourceLaws.{nests_none, nests_parts, nests_more, nests_all}
use Rattle.fx_text.proofs.reader.Reader.nested.Goals as goal

pub loop-r-init : goal.loop-r-init
loop-r-init c = nests_none _ _ _ c.requires.made c.requires.below c.requires.has_node

pub add-requires-clause-children : goal.add-requires-clause-children
add-requires-clause-children c = nests_parts _ _ _ _ _ _ _ _ c.in-Some.ensures.items c.loop-r.invariant

pub loop-r-preserved : goal.loop-r-preserved
loop-r-preserved c = nests_more _ _ _ _ _ _ _ _ c.in-Some.ensures.items c.loop-r.invariant _ c.in_ok-root.root c.in_ok-root.ensures

pub returns : goal.returns
returns c = nests_all _ _ _ _ c.loop-r.resources.items _ (omega (arith, c.in_default.ensures.cases.0, c.loop-r.resources.ok.0)) c.loop-r.invariant
