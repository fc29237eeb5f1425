use Rattle.std.proofs.Common.{◌≡◌, ◌∙◌, true, false, sym}
use Rattle.fx_plain.specs.declared.class.Class.TheVariants.{Able}
use Rattle.fx_plain.specs.ClassSets.{class_at}
use Rattle.fx_plain.proofs.WokenClasses.{found_after_put}
use Rattle.fx_plain.proofs.plain_world.found_after_put.Goals.{in-Able, in_default}
use Rattle.fx_plain.proofs.plain_world.found_after_put.Goals as goal

pub returns-then-matches : goal.returns-then-matches
returns-then-matches c =
    let classes = c.args.classes.now.of in
    let able : class_at classes c.in_ok-least.least ≡ Able = elim c.match-matches.branch [
      | in-Able w ↦ sym w.in-Able.ensures
      | in_default w ↦ absurd (let z : true ≡ false = sym c.if-matches.true ∙ w.matches-is in cc)
    ] in
    λ queues lt room least.
    found_after_put c.args.queue c.args.own.now queues lt classes c.args.found c.in_ok-least.least c.in_ok-least.was able
    c.least_for_element.result c.lesser.result room c.least_for_element.ensures c.lesser.ensures least
