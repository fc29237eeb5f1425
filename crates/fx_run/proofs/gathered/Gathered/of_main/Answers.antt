use Rattle.std.proofs.Common.{◌∙◌, length, sym, ap, arith}
use Rattle.fx_port.specs.Marks.{is_marked}
use Rattle.fx_port.specs.PortView.{PortView}
use Rattle.fx_port.proofs.MarkLaws.{joined_new}
use Rattle.fx_word.specs.Words.{WordsId}
use Rattle.fx_run.proofs.FiberAndPort.{with_port}
use Rattle.fx_run.proofs.GatheredLaws.{gathered_first}
use Rattle.fx_run.proofs.gathered.Gathered.of_main.Goals as goal

pub returns-clause-gathered : goal.returns-clause-gathered
returns-clause-gathered g c =
    let part = c.part-bare.ensures in
    let told = c.into_parts-seat.ensures in
    let fibers = c.fibers.ensures ∙ ap (λ (w : WordsId). w.fibers) c.requires.words in
    let long = ap length told.noted ∙ told.of_run.marks in
    let noted = c.join.ensures ∙ joined_new _ _ _ c.in_ok-noted.ensures (omega (arith, fibers, long)) ∙ told.noted in
    gathered_first g.N.RunBrand.nodes g.N.RunBrand.words g.N.RunBrand.queues
    (with_port g.N.RunBrand.nodes g.N.RunBrand.words g.N.RunBrand.queues g.N.RunBrand.may c.args.main c.part-bare.result.0 c.part-bare.result.1
    part.bare part.port told.of_run part.lawful)
    (record { bares = c.push.new.self; seat = c.into_parts-seat.result.0; passes = c.into_parts-seat.result.1; noted = c.join.new.self })
    c.in_ok-bares.bares.items (ap (λ (p : PortView). p.words.own.id) part.port ∙ c.requires.main)
    c.in_ok-bares.ensures.items c.in_ok-push.ensures.items
    told.seat.0 told.seat.1 told.passes.0 noted

pub returns-clause-allowed : goal.returns-clause-allowed
returns-clause-allowed g c =
    let told = c.into_parts-seat.ensures in
    let fibers = c.fibers.ensures ∙ ap (λ (w : WordsId). w.fibers) c.requires.words in
    let long = ap length told.noted ∙ told.of_run.marks in
    let noted = c.join.ensures ∙ joined_new _ _ _ c.in_ok-noted.ensures (omega (arith, fibers, long)) ∙ told.noted in
    λ f m. told.of_run.allowed f (sym (ap (λ l. is_marked l f) noted) ∙ m)
