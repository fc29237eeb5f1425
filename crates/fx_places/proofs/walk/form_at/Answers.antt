use Rattle.std.proofs.Common.{ap, sym, ◌∙◌}
use Rattle.fx_text.specs.Token.{Name}
use Rattle.fx_places.specs.Form.{forms}
use Rattle.fx_places.proofs.WalkLaws.{found_word}
use Rattle.fx_places.proofs.walk.form_at.Goals as goal

pub returns-in-Some-of_word : goal.returns-in-Some-of_word
returns-in-Some-of_word c text stands =
    let found = found_word c.in-Some.word.now forms c.in-Some-of_word.form (sym c.of_word.ensures ∙ c.in-Some-of_word.is) in
    record { inside = c.args.inside.now; stands = stands; word = c.in-Some.ensures ∙ ap Name (sym found) }
