use Rattle.std.proofs.Common.{◌∙◌, true, set, ap}
use Rattle.fx_port.specs.Marks.{lengthened}
use Rattle.fx_port.proofs.MarkLaws.{long_mark}
use Rattle.fx_port.proofs.noted.Noted.mark.Goals as goal

pub returns : goal.returns
returns g c =
    let fibers = g.N.RunBrand.words.fibers in
    let inv = c.self.invariant in
    ap (lengthened fibers) c.mark.ensures ∙ long_mark fibers c.self.inside.row c.args.id inv.0 (inv.1 c.args.id c.requires)
    ∙ ap (λ l. set l c.args.id true) c.self.view_is
