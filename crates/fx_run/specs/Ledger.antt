-- What traces tell, by fiber number.
use Rattle.std.specs.Prelude.{◌≡◌, ℕ, ◌+◌, ◌<◌, ◌==◌, nat_lt, Bool, true, false, not, ◌&&◌}
use Rattle.std.specs.Prelude.{◌||◌, if◌then◌else◌, Option, Some, None, is_some, List, [], ◌∷◌, ◌⊎◌, length}
use Rattle.std.specs.Prelude.{replicate, slice_set, slice_index_or}
use Rattle.fx_term.specs.declared.outcome.Outcome.{Outcome}
use Rattle.fx_term.specs.declared.event.Event.{Event}
use Rattle.fx_term.specs.declared.event.Event.TheVariants as event
use Rattle.fx_fiber.specs.Bare.{BareView}

-- by number: which fibers were given, who started each, which are requested, and how each ended; and the least number past these lists that a trace starts
pub record LedgerView : Type 0 where
  pub given : List Bool
  pub parents : List (Option ℕ)
  pub requested : List Bool
  pub outcomes : List (Option Outcome)
  pub beyond : Option ℕ

-- nothing was told of the numbers below the total
abbrev pub empty_ledger : ℕ → LedgerView
empty_ledger total = record {
  given = replicate total false;
  parents = replicate total None;
  requested = replicate total false;
  outcomes = replicate total None;
  beyond = None;
}

-- the fiber of this number was given
abbrev pub with_given : ℕ → LedgerView → LedgerView
with_given id v = record v { given = slice_set v.given id true }

-- what was told first stands
abbrev pub first_of : {A : Type 0} → Option A → A → Option A
first_of None x = Some x
first_of (Some y) x = Some y

abbrev pub least_of : Option ℕ → ℕ → Option ℕ
least_of None n = Some n
least_of (Some m) n = if nat_lt n m then Some n else Some m

-- fiber id started f
abbrev pub with_start : ℕ → ℕ → LedgerView → LedgerView
with_start id f v = record v {
  parents = slice_set v.parents f (first_of (slice_index_or v.parents f None) id);
  beyond = if nat_lt f (length v.parents) then v.beyond else least_of v.beyond f;
}

-- some fiber requested f
abbrev pub with_request : ℕ → LedgerView → LedgerView
with_request f v = record v { requested = slice_set v.requested f true }

-- fiber id ended so
abbrev pub with_end : ℕ → Outcome → LedgerView → LedgerView
with_end id o v = record v { outcomes = slice_set v.outcomes id (first_of (slice_index_or v.outcomes id None) o) }

-- fiber id showed this
abbrev pub with_event : ℕ → Event → LedgerView → LedgerView
with_event id (event.Start f) v = with_start id f v
with_event id (event.Request f) v = with_request f v
with_event id (event.Ended o) v = with_end id o v
with_event id _ v = v

abbrev pub with_events : ℕ → List Event → LedgerView → LedgerView
with_events id [] v = v
with_events id (e ∷ es) v = with_events id es (with_event id e v)

-- fiber id was given, with this trace
abbrev pub with_trace : ℕ → List Event → LedgerView → LedgerView
with_trace id es v = with_events id es (with_given id v)

-- the fiber was given, with its trace
abbrev pub with_fiber : BareView → LedgerView → LedgerView
with_fiber x v = with_trace x.id x.trace v

abbrev pub with_fibers : List BareView → LedgerView → LedgerView
with_fibers [] v = v
with_fibers (x ∷ xs) v = with_fibers xs (with_fiber x v)

-- these were requested from outside
abbrev pub with_requests : List ℕ → LedgerView → LedgerView
with_requests [] v = v
with_requests (f ∷ fs) v = with_requests fs (with_request f v)

-- those that are marked were requested from outside, where the marks are of the numbers from n on
abbrev pub with_marks : ℕ → List Bool → LedgerView → LedgerView
with_marks n [] v = v
with_marks n (m ∷ ms) v = with_marks (n + 1) ms (if m then with_request n v else v)

-- the number is of a fiber that is lost: it was not given, and is 0 or was started
abbrev pub is_lost_in : LedgerView → ℕ → Bool
is_lost_in v f = not (slice_index_or v.given f false) && (f == 0 || is_some (slice_index_or v.parents f None))

-- the first number that is lost, if one is
abbrev pub IsFirstLost : ℕ → LedgerView → Option ℕ → Type 0
IsFirstLost total v None = ((g : ℕ) → g < total → is_lost_in v g ≡ false) × (v.beyond ≡ None)
IsFirstLost total v (Some f) =
    ((f < total) × (is_lost_in v f ≡ true) × ((g : ℕ) → g < f → is_lost_in v g ≡ false))
    ⊎ (((g : ℕ) → g < total → is_lost_in v g ≡ false) × (v.beyond ≡ Some f))
