use Rattle.fx_fiber.specs.Fiber.{progress}
use Rattle.fx_model.proofs.AllWork.{work_of}
use Rattle.fx_plain_tests.proofs.library.run_alone.Given as goal

abbrev pub invariant-loop-fiber : goal.invariant-loop-fiber
invariant-loop-fiber g l = Unit {0}

abbrev pub decreases-loop-fiber : goal.decreases-loop-fiber
decreases-loop-fiber g l = work_of l.fiber.counts (progress g.J.CodeBrand.nodes l.fiber)
