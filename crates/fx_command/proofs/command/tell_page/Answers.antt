use Rattle.std.proofs.Common.{refl, sym, ◌∙◌, ap, option_map}
use Rattle.fx_command.specs.CommandAnswer.TellsPage.{printed, not_taken, no_page}
use Rattle.fx_command.proofs.command.tell_page.Goals as goal

pub returns-in-Ok : goal.returns-in-Ok
returns-in-Ok g c = printed (sym c.page_on.ensures ∙ ap (option_map (λ page. page.now)) c.in-Some.is) c.in-Ok.ensures.whole refl

pub returns-in-Err : goal.returns-in-Err
returns-in-Err g c = not_taken (sym c.page_on.ensures ∙ ap (option_map (λ page. page.now)) c.in-Some.is) c.in-Err.ensures.part c.say.ensures

pub returns-in-None : goal.returns-in-None
returns-in-None g c = no_page (sym c.page_on.ensures ∙ ap (option_map (λ page. page.now)) c.in-None.is) refl c.say-in-None.ensures
