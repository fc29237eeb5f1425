use Rattle.std.proofs.Common.{◌+◌, ◌-◌, ◌*◌, length}
use Rattle.fx_text.specs.declared.reader.head.Ahead.TheVariants as ahead
use Rattle.fx_text.proofs.AheadLaws.{Ongoing}
use Rattle.fx_text.proofs.BindLaws.{BindsSoFar, more_after}
use Rattle.fx_text.proofs.ThroughLaws.{WentSoFar}
use Rattle.fx_text.proofs.reader.Reader.+terms.Given as goal

abbrev pub decreases-term : goal.decreases-term
decreases-term l = 3 * l.room

abbrev pub decreases-parts : goal.decreases-parts
decreases-parts l = 3 * l.room + 2

abbrev pub decreases-seq : goal.decreases-seq
decreases-seq l = 3 * l.room + 1

abbrev pub decreases-using : goal.decreases-using
decreases-using l = 3 * l.room + 1

abbrev pub decreases-resources : goal.decreases-resources
decreases-resources l = 3 * l.room

abbrev pub decreases-resource : goal.decreases-resource
decreases-resource l = 3 * l.room

abbrev pub invariant-seq-loop-self : goal.invariant-seq-loop-self
invariant-seq-loop-self l = WentSoFar l.room l.initial.self l.self l.others.items l.initial.rest l.rest

abbrev pub decreases-seq-loop-self : goal.decreases-seq-loop-self
decreases-seq-loop-self l = length l.rest

abbrev pub invariant-parts-loop-part : goal.invariant-parts-loop-part
invariant-parts-loop-part l = Ongoing l.room l.fn.self l.self l.head l.bytes (ahead.Part l.inner l.then) l.rest

abbrev pub decreases-parts-loop-part : goal.decreases-parts-loop-part
decreases-parts-loop-part l = length l.rest

abbrev pub invariant-resources-loop-resources : goal.invariant-resources-loop-resources
invariant-resources-loop-resources l = BindsSoFar (l.room - 1) more_after l.fn.self l.self l.resources.items l.initial.rest l.rest

abbrev pub decreases-resources-loop-resources : goal.decreases-resources-loop-resources
decreases-resources-loop-resources l = length l.rest
