use Rattle.std.proofs.Common.{◌∙◌, ap}
use Rattle.fx_port.specs.Marks.{joined_marks}
use Rattle.fx_run.proofs.FiberAndPort.{with_port}
use Rattle.fx_run.proofs.GatheredLaws.{gathered_more, allowed_more}
use Rattle.fx_run.proofs.gathered.Gathered.take_in.Goals as goal

pub returns-clause-gathered : goal.returns-clause-gathered
returns-clause-gathered g c =
    let part = c.part-bare.ensures in
    let told = c.gather-noted.ensures in
    gathered_more g.N.RunBrand.nodes g.N.RunBrand.words g.N.RunBrand.queues c.args.self.now c.requires.gathered
    (with_port g.N.RunBrand.nodes g.N.RunBrand.words g.N.RunBrand.queues g.N.RunBrand.may c.args.fiber c.part-bare.result.0 c.part-bare.result.1
    part.bare part.port told.of_run part.lawful)
    (record { bares = c.push.new.self; seat = c.gather-noted.new.seat; passes = c.gather-noted.new.passes; noted = c.join.new.self })
    c.in_ok-push.ensures.items told.table told.seat told.passes told.row
    (c.join.ensures ∙ ap (joined_marks c.args.self.now.noted) told.noted)

pub returns-clause-allowed : goal.returns-clause-allowed
returns-clause-allowed g c =
    allowed_more g.N.RunBrand.may c.args.self.now.noted c.part-bare.result.1.noted c.join.new.self c.requires.allowed c.gather-noted.ensures.of_run.allowed
    (c.join.ensures ∙ ap (joined_marks c.args.self.now.noted) c.gather-noted.ensures.noted)
