use Rattle.std.proofs.Common.{◌≡◌, ◌∙◌, ◌-◌, List, suc, length, None, replicate, refl, sym, ap, arith}
use Rattle.std.proofs.lemmas.List.{length-replicate}
use Rattle.fx_term.specs.Need.{need}
use Rattle.fx_text.specs.View.{meaning}
use Rattle.fx_model.specs.Origin.{origin_of, main_begin_of}
use Rattle.fx_fiber.specs.Fiber.{progress}
use Rattle.fx_term.specs.declared.node.Node.{Node}
use Rattle.fx_model.proofs.Beginnings.{main_begins}
use Rattle.fx_report.specs.Script.{script_of}
use Rattle.fx_plain.specs.PlainCalls.{PortView, new_port}
use Rattle.fx_plain.specs.World.{WorldView}
use Rattle.fx_plain.specs.declared.class.Class.TheVariants.{Unstarted}
use Rattle.fx_plain.proofs.PlainMachineSteps.{same_made}
use Rattle.fx_plain.proofs.PlainMachineOpening.{opening_stands_for}
use Rattle.fx_plain.proofs.plain_machine.PlainMachine.opening.Goals as goal

pub returns-clause-stands : goal.returns-clause-stands
returns-clause-stands g c =
    let nodes = c.args.script.now.code.nodes in
    let script = script_of (meaning c.args.script.now) in
    let world = c.in_ok-world.ensures.world in
    let port : c.in_ok-fiber.fiber.port ≡ new_port 0 (main_begin_of c.args.script.now.code.nodes) = c.in_ok-fiber.ensures.port ∙ c.in_ok-world.ensures.port in
    let total : c.total.result - 1 ≡ need script.term =
    let long = length-replicate (need script.term) Unstarted in
    let e : c.total.result ≡ suc (length (replicate (need script.term) Unstarted)) = c.total.ensures ∙ ap (λ (w : WorldView). length w.classes) world in
    omega arith in
    opening_stands_for g.J.CodeBrand.nodes script _ (record { parent = None; fiber = c.in_ok-fiber.fiber }) world
    (rw c.new-3.ensures at (rw total at c.in_ok-fibers.ensures))
    (same_made refl
    (ap (λ (q : PortView). origin_of g.J.CodeBrand.nodes q.beginning) port ∙ ap (λ (n : List Node). origin_of n (main_begin_of nodes)) (sym c.requires.code)
    ∙ main_begins nodes)
    c.in_ok-fiber.ensures.trace c.in_ok-fiber.ensures.counts
    (ap (λ (n : List Node). progress n c.in_ok-fiber.fiber) (sym c.requires.code) ∙ c.in_ok-fiber.ensures.progress))
    (ap (λ (q : PortView). q.number) port)
    (ap (λ (q : PortView). q.put_counts) port)
    c.in_ok-fiber.ensures.trace
    (ap (λ (q : PortView). q.beginning.stamp) port)
    c.in_ok-fiber.ensures.stamps
