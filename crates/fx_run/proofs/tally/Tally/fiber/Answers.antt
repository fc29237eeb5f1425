use Rattle.std.proofs.Common.{◌≡◌, ◌∙◌, ℕ, Bool, List, ap}
use Rattle.fx_term.specs.declared.event.Event.{Event}
use Rattle.fx_term.specs.Stamped.{events_in}
use Rattle.fx_port.specs.PortView.{PortView}
use Rattle.fx_run.specs.Ledger.{with_given, with_marks}
use Rattle.fx_run.specs.Tally.{TallyView, with_all_shown}
use Rattle.fx_run.proofs.tally.Tally.fiber.Goals as goal

pub returns : goal.returns
returns g c =
    let t : TallyView = c.args.self.now in
    let f = c.args.fiber.now in
    let id = f.port.words.own.id in
    let is = c.id-id.ensures.is in
    let noted : c.noted.result.now ≡ f.port.noted = c.noted.ensures ∙ ap (λ (p : PortView). p.noted) c.port.ensures in
    let given : c.give.new.self ≡ record t { ledger = with_given id t.ledger } =
    c.give.ensures ∙ ap (λ (n : ℕ). record t { ledger = with_given n t.ledger }) is in
    let shown : c.events.new.self ≡ with_all_shown id f.trace (record t { ledger = with_given id t.ledger }) =
    c.events.ensures
    ∙ ap (λ (n : ℕ). with_all_shown n (events_in c.trace.result.now) c.give.new.self) is
    ∙ ap (λ (es : List Event). with_all_shown id es c.give.new.self) c.trace.ensures.events
    ∙ ap (with_all_shown id f.trace) given in
    let told : TallyView = c.events.new.self in
    c.marks.ensures
    ∙ ap (λ (row : List Bool). record told { ledger = with_marks 0 row told.ledger }) noted
    ∙ ap (λ (u : TallyView). record u { ledger = with_marks 0 f.port.noted u.ledger }) shown
