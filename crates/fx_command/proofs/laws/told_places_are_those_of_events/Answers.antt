use Rattle.std.proofs.Common.{◌≡◌, Some, List, sym, subst, slice_get}
use Rattle.fx_term.specs.declared.event.Event.{Event}
use Rattle.fx_plain.proofs.ToldRuns.{told_is_its_trace}
use Rattle.fx_command.proofs.ToldOf.{told_of}
use Rattle.fx_command.proofs.laws.told_places_are_those_of_events.Goals as goal

pub returns : goal.returns
returns c nodes s ps told r tells is places fibers queues f i e at = told_of places f told _ _ i e
    (subst (λ (es : List Event). slice_get es i ≡ Some e) (sym (told_is_its_trace nodes s ps told r tells is f)) at)
