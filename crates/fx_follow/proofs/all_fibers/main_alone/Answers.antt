use Rattle.std.proofs.Common.{◌≡◌, List, ◌++◌, ◌∷◌, [], ◌∙◌, ap, sym, subst}
use Rattle.fx_term.specs.declared.node.Node.{Node}
use Rattle.fx_text.specs.View.{meaning}
use Rattle.fx_report.specs.Script.{script_of}
use Rattle.fx_term.specs.Meaning.{root_term}
use Rattle.fx_model.specs.Origin.{main_origin}
use Rattle.fx_model.specs.Step.{Runs}
use Rattle.fx_fiber.specs.Fiber.{FiberView, progress}
use Rattle.fx_fiber.specs.PortFacts.{Facts}
use Rattle.fx_follow.specs.Trails.{IsChild}
use Rattle.fx_follow.specs.Waiting.{IsUnderWay}
use Rattle.fx_follow.proofs.UnderWay.{begins}
use Rattle.fx_follow.proofs.all_fibers.main_alone.Goals as goal

pub returns : goal.returns
returns g c = λ r.
    let main = c.in_ok-new.field-0 in
    let new = c.in_ok-new.ensures in
    let child : IsChild g.J.CodeBrand.nodes 0 (main_origin (script_of (meaning c.args.script.now)).term) main = record {
      number = ap (λ (p : Facts). p.number) (new.port ∙ c.in_ok-port.ensures);
      first = record {
        trace = new.trace;
        stamps = new.stamps;
        counts = new.counts;
        progress_is = subst (λ (nodes : List Node). progress nodes main ≡ Runs (root_term c.args.script.now.code.nodes)) c.requires.code new.progress;
        source = new.source;
      };
    } in
    subst (λ (waiting : List (FiberView Facts)). IsUnderWay g.J.CodeBrand.nodes (script_of (meaning c.args.script.now)) r [] [] waiting)
    (sym (c.in_ok-push.ensures.items ∙ ap (λ (xs : List (FiberView Facts)). xs ++ main ∷ []) c.new-waiting.ensures.items))
    (begins g.J.CodeBrand.nodes (script_of (meaning c.args.script.now)) r main child)
