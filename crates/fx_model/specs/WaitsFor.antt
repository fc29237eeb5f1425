-- That a fiber waits for something, and whether that has come.
use Rattle.std.specs.Prelude.{◌≡◌, ◌||◌, Bool, true, false, is_some, Some, option_and_then}
use Rattle.fx_model.specs.Row.{Counts}
use Rattle.fx_model.specs.Step.{Progress, leaf_at, must_cancel_at, looks_first}
use Rattle.fx_model.specs.Outside.{Outside}
use Rattle.fx_model.specs.declared.source.Source.{Source}
use Rattle.fx_model.specs.declared.source.Source.TheVariants.{Nothing, Outcome, Either, Room, Element}
use Rattle.fx_model.specs.Waiting.{wait_at}

-- it has come
abbrev pub has_come : Outside → Source → Bool
has_come o Nothing = false
has_come o (Outcome f) = is_some (o.outcome f)
has_come o (Either f g) = is_some (o.outcome f) || is_some (o.outcome g)
has_come o (Room q) = o.has_room q
has_come o (Element q) = o.has_element q

-- the fiber stands where it waits for this, with no cancellation due and no request to see: nothing but that can let it step
pub record IsWaiting (is_requested : Bool) (c : Counts) (p : Progress) (w : Source) : Type 0 where
  pub leaf : option_and_then wait_at (leaf_at p) ≡ Some w
  pub free : must_cancel_at c.known p ≡ false
  pub unasked : looks_first c.known p ≡ true → is_requested ≡ false
