use Rattle.std.proofs.Common.{◌≡◌, sym, ◌∙◌}
use Rattle.fx_findings.specs.Heard.{HearsFirst}
use Rattle.fx_findings.specs.declared.explored.Explored.{Explored}
use Rattle.fx_command.specs.declared.call.Telling.TheVariants.{Silent, Aloud}
use Rattle.fx_command.proofs.Heard.{where_asked, where_unasked}
use Rattle.fx_command.proofs.perform.explored_by.Goals as goal

pub returns-in-Silent-clause-tells : goal.returns-in-Silent-clause-tells
returns-in-Silent-clause-tells g c =
    where_unasked (λ (e : Explored). HearsFirst g.G.Progress.hears c.args.progress.now c.args.progress.now e.ending e.states)
    (c.args.search.telling ≡ Aloud) c.explore.result (λ asked. (let no : Silent ≡ Aloud = sym c.in-Silent.is ∙ asked in cc))

pub returns-in-Aloud-clause-tells : goal.returns-in-Aloud-clause-tells
returns-in-Aloud-clause-tells g c =
    where_asked (λ (e : Explored). HearsFirst g.G.Progress.hears c.args.progress.now c.explore-in-Aloud.new.progress e.ending e.states)
    (c.args.search.telling ≡ Aloud) c.explore-in-Aloud.result c.explore-in-Aloud.ensures.tells
