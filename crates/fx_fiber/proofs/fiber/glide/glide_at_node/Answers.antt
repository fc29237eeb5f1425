use Rattle.std.proofs.Common.{◌≡◌, ◌∙◌, sym, ap}
use Rattle.fx_model.specs.Row.{Counts}
use Rattle.fx_fiber.specs.Places.{IsEvaluating}
use Rattle.fx_fiber.proofs.Advances.{inside_silent}
use Rattle.fx_fiber.proofs.Bursts.{ahead_is_free, glides}
use Rattle.fx_fiber.proofs.fiber.glide.glide_at_node.Goals as goal

pub node_row-requires : goal.node_row-requires
node_row-requires g c =
    let l = c.contexts in
    let s = l.machine in
    let same = l.invariant.same in
    let at : IsEvaluating g.P.Port.theory.code s l.id c.node.result.now =
    record { sound = same.sound; focus = l.invariant.focus; node = rw c.requires.1.1.0 at c.node.ensures.node } in
    let masks : s.masks.entries ≡ c.args.machine.now.masks.entries =
    ap (λ (k : Counts). k.masks) same.counts ∙ sym (ap (λ (k : Counts). k.masks) c.requires.1.1.1.0.counts) in (
      at,
      (
        λ silent. ahead_is_free g.P.Port.theory g.outset.machine s _ _ same (inside_silent g.P.Port.theory.code s l.id c.node.result.now at silent)
            (rw c.in-Rule.is at c.look_ahead.ensures),
        rw masks c.requires.1.1.1.1.1.0,
      ),
    )

pub returns-in-Made-clause-ok : goal.returns-in-Made-clause-ok
returns-in-Made-clause-ok g c =
    let l = c.contexts in
    let s = l.machine in
    let at : IsEvaluating g.P.Port.theory.code s l.id c.node.result.now =
    record { sound = l.invariant.same.sound; focus = l.invariant.focus; node = rw c.requires.1.1.0 at c.node.ensures.node } in
    let made = rw c.in-Made.is at c.in_ok-first-in-Rule.ensures.ok in
    λ left. glides g.P.Port.theory g.outset.machine s _ _ l.invariant.same
    (inside_silent g.P.Port.theory.code s l.id c.node.result.now at made.0) (rw c.in-Rule.is at c.look_ahead.ensures) c.node_row.new.self made.1
