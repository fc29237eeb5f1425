use Rattle.fx_run.proofs.FiberAndPort.{agrees_so}
use Rattle.fx_run.proofs.laws.ports.thread_port_agrees.Goals as goal

pub returns : goal.returns
returns c = agrees_so
