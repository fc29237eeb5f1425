use Rattle.std.proofs.Common.{rules, ◌≡◌, Err, map, sym, subst}
use Rattle.fx_run.specs.FiberAndPort.{without_port}
use Rattle.fx_run.specs.RunFault.{IsLostFault}
use Rattle.fx_run.specs.declared.run_fault.RunFault.{RunFault}
use Rattle.fx_run.proofs.GatheredLaws.{main_is_lost, all_without_ports, rises_so}
use Rattle.fx_run.proofs.gathered.gather_all.Goals as goal

pub returns-in_err-main-clause-fault : goal.returns-in_err-main-clause-fault
returns-in_err-main-clause-fault g c =
    let nodes = c.args.code.now.nodes in
    let told = c.in_err-main.ensures.fault in
    let lost : IsLostFault (map (without_port nodes) c.args.fibers.items) c.in_err-main.field-0.0 =
    subst (λ (fault : RunFault). IsLostFault (map (without_port nodes) c.args.fibers.items) fault) (sym told.0)
    (main_is_lost nodes c.args.fibers.items c.requires.ascending told.1) in
    let same : c.from_residual.result ≡ Err c.in_err-main.field-0.0 = search rules in
    rw same lost

pub returns-clause-bares : goal.returns-clause-bares
returns-clause-bares g c =
    let whole = all_without_ports g.N.RunBrand.nodes c.args.fibers.items c.in_ok-main.main c.in_ok-main.others.rest.items c.in_ok-gathered.gathered.bares.items
    c.take_in_all.new.self.bares.items c.in_ok-main.ensures.others c.in_ok-gathered.ensures.bares c.in_ok-take_in_all.ensures.bares in
    rw c.requires.code whole

pub returns-clause-ascending : goal.returns-clause-ascending
returns-clause-ascending g c =
    rises_so g.N.RunBrand.nodes c.args.fibers.items c.take_in_all.new.self.bares.items
    (all_without_ports g.N.RunBrand.nodes c.args.fibers.items c.in_ok-main.main c.in_ok-main.others.rest.items c.in_ok-gathered.gathered.bares.items
    c.take_in_all.new.self.bares.items c.in_ok-main.ensures.others c.in_ok-gathered.ensures.bares c.in_ok-take_in_all.ensures.bares)
    c.requires.ascending
