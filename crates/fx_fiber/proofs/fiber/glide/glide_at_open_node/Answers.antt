use Rattle.std.proofs.Common.{◌≡◌, ap}
use Rattle.fx_model.specs.Row.{Counts}
use Rattle.fx_fiber.proofs.Advances.{inside_leaf, same_trans}
use Rattle.fx_fiber.proofs.Bursts.{ahead_is_free, glides}
use Rattle.fx_fiber.proofs.fiber.glide.glide_at_open_node.Goals as goal

pub node_row-requires : goal.node_row-requires
node_row-requires g c =
    let here = c.in_ok-id.ensures in
    let s = c.enter.new.self in
    let same = same_trans g.P.Port.theory.code g.outset.machine c.args.machine.now s c.requires.1.1.1.0 here.same in
    let inside = inside_leaf g.P.Port.theory.code s c.in_ok-id.id c.in_ok-id.node.now _ here.at here.leaf c.is_canceled.ensures in
    let masks : s.masks.entries ≡ c.args.machine.now.masks.entries = ap (λ (k : Counts). k.masks) here.same.counts in (
      here.at,
      (
        λ silent. ahead_is_free g.P.Port.theory g.outset.machine s _ _ same (rw c.if-is_canceled.false at inside) (rw c.in-Rule.is at c.look_ahead.ensures),
        rw masks c.requires.1.1.1.1.1.0,
      ),
    )

pub returns-in-Made-clause-ok : goal.returns-in-Made-clause-ok
returns-in-Made-clause-ok g c =
    let here = c.in_ok-id.ensures in
    let s = c.enter.new.self in
    let same = same_trans g.P.Port.theory.code g.outset.machine c.args.machine.now s c.requires.1.1.1.0 here.same in
    let inside = inside_leaf g.P.Port.theory.code s c.in_ok-id.id c.in_ok-id.node.now _ here.at here.leaf c.is_canceled.ensures in
    let made = rw c.in-Made.is at c.in_ok-node_row-in-Rule.ensures.ok in
    λ left. glides g.P.Port.theory g.outset.machine s _ _ same (rw c.if-is_canceled.false at inside) (rw c.in-Rule.is at c.look_ahead.ensures)
    c.node_row.new.self made.1

pub returns-in-Look-clause-ok : goal.returns-in-Look-clause-ok
returns-in-Look-clause-ok g c =
    let here = c.in_ok-id.ensures in
    let s = c.enter.new.self in
    let same = same_trans g.P.Port.theory.code g.outset.machine c.args.machine.now s c.requires.1.1.1.0 here.same in
    let inside = inside_leaf g.P.Port.theory.code s c.in_ok-id.id c.in_ok-id.node.now _ here.at here.leaf c.is_canceled.ensures in
    let next = rw c.in-Look.is at c.look_ahead.ensures in
    λ left. (same, record { inside = rw c.if-is_canceled.false at inside; opened = next.0; unknown = next.1 })
