use Rattle.fx_run_events.specs.RanEvents.{ran_events}
use Rattle.fx_command.proofs.NamedInRun.{named_in, each_named}
use Rattle.fx_command.proofs.laws.names_of_a_run_are_those_of_starts.Goals as goal

pub returns : goal.returns
returns c = record {
  found = λ source places told list counts fibers g name. named_in source places g (ran_events told list counts fibers) name;
  each = λ source places told list counts fibers started place g. each_named source places g (ran_events told list counts fibers) started place;
}
