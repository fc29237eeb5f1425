use Rattle.fx_queue.proofs.WaitRings.{listed_by}
use Rattle.fx_queue.proofs.wait_ring.WaitRing.add.Goals as goal

pub returns-clause-last : goal.returns-clause-last
returns-clause-last c xs was below new =
    listed_by _ _ _ _ _ c.args.fiber c.link_of-last.result xs was below new c.link_of-last.ensures c.set_link.ensures c.link_after.ensures c.link_before.ensures
