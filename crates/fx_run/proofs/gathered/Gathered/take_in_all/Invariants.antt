use Rattle.std.proofs.Common.{◌≡◌, ◌++◌, map}
use Rattle.fx_run.specs.FiberAndPort.{without_port}
use Rattle.fx_run.specs.Gathered.{IsGathered, AreAllowed}
use Rattle.fx_run.proofs.gathered.Gathered.take_in_all.Given as goal

abbrev pub invariant-loop-fiber : goal.invariant-loop-fiber
invariant-loop-fiber g l = record {
  gathered : IsGathered g.N.RunBrand.nodes g.N.RunBrand.words g.N.RunBrand.queues l.self;
  allowed : AreAllowed g.N.RunBrand.may l.self.noted;
  bares : l.self.bares.items ++ map (without_port g.N.RunBrand.nodes) l.fibers.rest.items
      ≡ l.fn.self.bares.items ++ map (without_port g.N.RunBrand.nodes) l.fn.fibers.rest.items;
}

abbrev pub decreases-loop-fiber : goal.decreases-loop-fiber
decreases-loop-fiber g l = l.fibers.rest.len
