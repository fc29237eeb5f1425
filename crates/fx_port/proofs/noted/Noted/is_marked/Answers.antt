use Rattle.std.proofs.Common.{◌∙◌, ◌-◌, length, sym, ap}
use Rattle.fx_port.specs.Marks.{is_marked}
use Rattle.fx_port.proofs.MarkLaws.{long_marked}
use Rattle.fx_port.proofs.noted.Noted.is_marked.Goals as goal

pub returns : goal.returns
returns g c =
    let row = c.self.inside.row in
    c.is_marked.ensures ∙ sym (long_marked row (g.N.RunBrand.words.fibers - length row) c.args.id) ∙ ap (λ l. is_marked l c.args.id) c.self.view_is
