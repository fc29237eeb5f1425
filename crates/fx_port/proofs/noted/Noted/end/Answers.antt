use Rattle.std.proofs.Common.{Bool, List, subst}
use Rattle.fx_port.specs.Marks.{IsEndOf}
use Rattle.fx_port.proofs.MarkLaws.{long_end}
use Rattle.fx_port.proofs.noted.Noted.end.Goals as goal

pub returns : goal.returns
returns g c =
    subst (λ (marks : List Bool). IsEndOf c.end.result marks) c.self.view_is
    (long_end c.self.inside.row g.N.RunBrand.words.fibers c.end.result c.end.ensures)
