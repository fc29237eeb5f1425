-- What a fiber waits for.
use Rattle.std.specs.Prelude.{Option, Some, None}
use Rattle.fx_term.specs.declared.node.Arg.TheVariants.{Number}
use Rattle.fx_term.specs.Term.{Term, Never, Offer, Take, Join, Await, First}
use Rattle.fx_model.specs.declared.source.Source.{Source}
use Rattle.fx_model.specs.declared.source.Source.TheVariants.{Nothing, Outcome, Either, Room, Element}

-- what a leaf waits for, if it is one that can wait
abbrev pub wait_at : Term → Option Source
wait_at Never = Some Nothing
wait_at (Join (Number f) x a e b d) = Some (Outcome f)
wait_at (Await f) = Some (Outcome f)
wait_at (First (Number f) (Number g)) = Some (Either f g)
wait_at (Offer q v) = Some (Room q)
wait_at (Take q) = Some (Element q)
wait_at _ = None
