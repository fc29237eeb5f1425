use Rattle.std.proofs.Common.{◌≡◌, ◌∙◌, false, arith}
use Rattle.std.proofs.lemmas.List.{length-set}
use Rattle.fx_port.specs.Marks.{is_marked}
use Rattle.fx_port.proofs.MarkLaws.{one_more, has_room, mark_read}
use Rattle.fx_port.proofs.notes.Notes.wake.Goals as goal

pub push_reserved-requires : goal.push_reserved-requires
push_reserved-requires g c =
    let inv = c.self.invariant in
    let below = c.if-id-self.true in
    let long = inv.1 in
    let room = inv.2 in
    let marks = c.self.inside.marks.items in
    let new : is_marked marks c.args.id ≡ false =
    mark_read marks c.args.id c.index.result.now (omega (arith, below, long)) c.index.ensures ∙ c.if-not-index.true in
    let few = has_room marks c.self.inside.numbers.items c.args.id (omega (arith, below, long)) new inv.0 in
    let ok = c.self.inside.numbers.ok.0 in
    omega (arith, few, long, room, ok)

pub invariant_of-self : goal.invariant_of-self
invariant_of-self g c =
    let inv = c.self.invariant in
    let below = c.if-id-self.true in
    let long = inv.1 in
    let marks = c.self.inside.marks.items in
    let new : is_marked marks c.args.id ≡ false =
    mark_read marks c.args.id c.index.result.now (omega (arith, below, long)) c.index.ensures ∙ c.if-not-index.true in (
      rw c.push_reserved.ensures.items (one_more marks c.self.inside.numbers.items c.args.id (omega (arith, below, long)) new inv.0),
      length-set _ _ _ ∙ long,
      rw c.push_reserved.ensures.capacity inv.2,
      inv.3,
    )
