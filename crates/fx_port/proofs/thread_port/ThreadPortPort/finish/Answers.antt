use Rattle.std.proofs.Common.{◌∙◌, ap}
use Rattle.std.specs.Option.{is_some}
use Rattle.fx_fiber.specs.Deed.{Ended}
use Rattle.fx_port.specs.PortView.{PortView}
use Rattle.fx_port.proofs.CallLaws.{seated, by_deed, finishes, unfinished}
use Rattle.fx_port.proofs.thread_port.ThreadPortPort.finish.Goals as goal

pub returns-clause-deed : goal.returns-clause-deed
returns-clause-deed g c =
    let own = c.self.inside.own.value in
    let p : PortView = record { words = c.self.inside.seat.view; passes = own.passes; noted = own.noted } in
    let running = unfinished p.words.own.ended (ap (λ (u : PortView). is_some u.words.own.ended) c.self.view_is ∙ c.requires.going) in
    by_deed p _ _ _ (Ended c.args.outcome) c.args.stamp c.self.view_is (ap (seated own.passes own.noted) c.finish.ensures)
    (finishes p c.args.outcome c.args.stamp running)
