-- Which fibers the ledger has as requested, and how it has them ended, after the fibers that were given to it.
use Rattle.std.proofs.Common.{◌≡◌, ◌≢◌, ℕ, suc, ◌<◌, Bool, true, false, Option, Some, None, List, [], ◌∷◌, length, refl, sym, ◌∙◌, ap, inl, inr}
use Rattle.std.proofs.Common.{get_or-set_same, get_or-set_other, arith}
use Rattle.std.specs.Prelude.{◌==◌, ◌||◌, slice_set, slice_index_or}
use Rattle.std.specs.List.{list_any}
use Rattle.std.proofs.lemmas.Bool.{eq-eqb, ne_eqb, cases_eq}
use Rattle.std.proofs.lemmas.List.{length-set}
use Rattle.fx_term.specs.declared.outcome.Outcome.{Outcome}
use Rattle.fx_term.specs.declared.event.Event.{Event}
use Rattle.fx_term.specs.declared.event.Event.TheVariants as event
use Rattle.fx_model.specs.Report.{outcome_shown, is_request_for}
use Rattle.fx_fiber.specs.Bare.{BareView}
use Rattle.fx_report.proofs.Keys.{RisesFrom}
use Rattle.fx_run.specs.Reported.{bare_at}
use Rattle.fx_run.specs.Ledger.{LedgerView, first_of, with_start, with_request, with_end, with_event, with_events, with_fiber, with_fibers, with_requests}
use Rattle.fx_run.proofs.LedgerLaws.{or_first}

abbrev pub requested_at : LedgerView → ℕ → Bool
requested_at v f = slice_index_or v.requested f false

or_true : (b : Bool) → true ≡ (b || true)
or_true true = refl
or_true false = refl

pub or_false : (b : Bool) → b ≡ (b || false)
or_false true = refl
or_false false = refl

pub or_or : (a b c : Bool) → ((a || b) || c) ≡ (a || (b || c))
or_or true b c = refl
or_or false b c = refl

pub request_requested : (f g : ℕ) (v : LedgerView) → f < length v.requested → requested_at (with_request g v) f ≡ (requested_at v f || (g == f))
request_requested f g v lt = elim (cases_eq g f) [
  | inl same ↦
      ap (λ (i : ℕ). slice_index_or (slice_set v.requested i true) f false) same ∙ get_or-set_same v.requested f true false lt
      ∙ or_true (requested_at v f) ∙ ap (λ (b : Bool). requested_at v f || b) (sym (eq-eqb g f same))
  | inr apart ↦
      get_or-set_other v.requested g f true false (λ e. apart (sym e))
      ∙ or_false (requested_at v f) ∙ ap (λ (b : Bool). requested_at v f || b) (sym (ne_eqb g f apart))
]

event_requested : (f id : ℕ) (e : Event) (v : LedgerView) → f < length v.requested
    → requested_at (with_event id e v) f ≡ (requested_at v f || is_request_for f e)
event_requested f id (event.Request g) v lt = request_requested f g v lt
event_requested f id (event.Start g) v lt = or_false (requested_at v f)
event_requested f id (event.Ended o) v lt = or_false (requested_at v f)
event_requested f id _ v lt = or_false (requested_at v f)

event_long : (id : ℕ) (e : Event) (v : LedgerView) → length (with_event id e v).requested ≡ length v.requested
event_long id (event.Request g) v = length-set v.requested g true
event_long id (event.Start g) v = refl
event_long id (event.Ended o) v = refl
event_long id _ v = refl

pub events_long : (id : ℕ) (es : List Event) (v : LedgerView) → length (with_events id es v).requested ≡ length v.requested
events_long id [] v = refl
events_long id (e ∷ es) v = events_long id es (with_event id e v) ∙ event_long id e v

pub events_requested : (f id : ℕ) (es : List Event) (v : LedgerView) → f < length v.requested
    → requested_at (with_events id es v) f ≡ (requested_at v f || list_any (is_request_for f) es)
events_requested f id [] v lt = or_false (requested_at v f)
events_requested f id (e ∷ es) v lt =
    events_requested f id es (with_event id e v) (let long = event_long id e v in omega (arith, lt, long))
    ∙ ap (λ (b : Bool). b || list_any (is_request_for f) es) (event_requested f id e v lt)
    ∙ or_or (requested_at v f) (is_request_for f e) (list_any (is_request_for f) es)

pub fibers_long : (xs : List BareView) (v : LedgerView) → length (with_fibers xs v).requested ≡ length v.requested
fibers_long [] v = refl
fibers_long (x ∷ xs) v = fibers_long xs (with_fiber x v) ∙ events_long x.id x.trace (record v { given = slice_set v.given x.id true })

pub fibers_requested : (f : ℕ) (xs : List BareView) (v : LedgerView) → f < length v.requested
    → requested_at (with_fibers xs v) f ≡ (requested_at v f || list_any (λ (x : BareView). list_any (is_request_for f) x.trace) xs)
fibers_requested f [] v lt = or_false (requested_at v f)
fibers_requested f (x ∷ xs) v lt =
    let u : LedgerView = record v { given = slice_set v.given x.id true } in
    fibers_requested f xs (with_fiber x v) (let long = events_long x.id x.trace u in omega (arith, lt, long))
    ∙ ap (λ (b : Bool). b || list_any (λ (y : BareView). list_any (is_request_for f) y.trace) xs) (events_requested f x.id x.trace u lt)
    ∙ or_or (requested_at v f) (list_any (is_request_for f) x.trace) (list_any (λ (y : BareView). list_any (is_request_for f) y.trace) xs)

pub requests_requested : (f : ℕ) (gs : List ℕ) (v : LedgerView) → f < length v.requested
    → requested_at (with_requests gs v) f ≡ (requested_at v f || list_any (λ g. g == f) gs)
requests_requested f [] v lt = or_false (requested_at v f)
requests_requested f (g ∷ gs) v lt =
    requests_requested f gs (with_request g v) (let long = length-set v.requested g true in omega (arith, lt, long))
    ∙ ap (λ (b : Bool). b || list_any (λ h. h == f) gs) (request_requested f g v lt)
    ∙ or_or (requested_at v f) (g == f) (list_any (λ h. h == f) gs)

-- requests change no ends, and no parents
pub requests_outcomes : (gs : List ℕ) (v : LedgerView) → (with_requests gs v).outcomes ≡ v.outcomes
requests_outcomes [] v = refl
requests_outcomes (g ∷ gs) v = requests_outcomes gs (with_request g v)

pub requests_parents : (gs : List ℕ) (v : LedgerView) → (with_requests gs v).parents ≡ v.parents
requests_parents [] v = refl
requests_parents (g ∷ gs) v = requests_parents gs (with_request g v)

-- how a number ended
abbrev pub outcome_at : LedgerView → ℕ → Option Outcome
outcome_at v f = slice_index_or v.outcomes f None

end_long : (id : ℕ) (o : Outcome) (v : LedgerView) → length (with_end id o v).outcomes ≡ length v.outcomes
end_long id o v = length-set v.outcomes id (first_of (slice_index_or v.outcomes id None) o)

pub ends_long : (id : ℕ) (es : List Event) (v : LedgerView) → length (with_events id es v).outcomes ≡ length v.outcomes
ends_long id [] v = refl
ends_long id (event.Ended o ∷ es) v = ends_long id es (with_end id o v) ∙ end_long id o v
ends_long id (event.Start g ∷ es) v = ends_long id es (with_start id g v)
ends_long id (event.Request g ∷ es) v = ends_long id es (with_request g v)
ends_long id (_ ∷ es) v = ends_long id es v

kept_or : (o : Option Outcome) → o ≡ or_first o None
kept_or None = refl
kept_or (Some x) = refl

first_stands : (o : Option Outcome) (x : Outcome) (p : Option Outcome) → or_first (first_of o x) p ≡ or_first o (Some x)
first_stands None x p = refl
first_stands (Some y) x p = refl

-- of a fiber its trace tells it
pub events_outcome : (id : ℕ) (es : List Event) (v : LedgerView) → id < length v.outcomes
    → outcome_at (with_events id es v) id ≡ or_first (outcome_at v id) (outcome_shown es)
events_outcome id [] v lt = kept_or (outcome_at v id)
events_outcome id (event.Ended o ∷ es) v lt =
    events_outcome id es (with_end id o v) (let long = end_long id o v in omega (arith, lt, long))
    ∙ ap (λ (p : Option Outcome). or_first p (outcome_shown es)) (get_or-set_same v.outcomes id (first_of (outcome_at v id) o) None lt)
    ∙ first_stands (outcome_at v id) o (outcome_shown es)
events_outcome id (event.Start g ∷ es) v lt = events_outcome id es (with_start id g v) lt
events_outcome id (event.Request g ∷ es) v lt = events_outcome id es (with_request g v) lt
events_outcome id (_ ∷ es) v lt = events_outcome id es v lt

-- and those of others do not
pub events_elsewhere : (f id : ℕ) (es : List Event) (v : LedgerView) → id ≢ f → outcome_at (with_events id es v) f ≡ outcome_at v f
events_elsewhere f id [] v apart = refl
events_elsewhere f id (event.Ended o ∷ es) v apart =
    events_elsewhere f id es (with_end id o v) apart
    ∙ get_or-set_other v.outcomes id f (first_of (outcome_at v id) o) None (λ e. apart (sym e))
events_elsewhere f id (event.Start g ∷ es) v apart = events_elsewhere f id es (with_start id g v) apart
events_elsewhere f id (event.Request g ∷ es) v apart = events_elsewhere f id es (with_request g v) apart
events_elsewhere f id (_ ∷ es) v apart = events_elsewhere f id es v apart

abbrev Rises : ℕ → List BareView → Type 0
Rises n xs = RisesFrom (λ (x : BareView). x.id) n xs

fibers_past : (n f : ℕ) (xs : List BareView) (v : LedgerView) → Rises n xs → f < n → outcome_at (with_fibers xs v) f ≡ outcome_at v f
fibers_past n f [] v rises lt = refl
fibers_past n f (x ∷ xs) v rises lt =
    let low = rises.0 in
    fibers_past (suc x.id) f xs (with_fiber x v) rises.1 (omega (arith, low, lt))
    ∙ events_elsewhere f x.id x.trace (record v { given = slice_set v.given x.id true }) (λ e. omega (arith, low, lt, e))

abbrev pub outcome_of : Option BareView → Option Outcome
outcome_of None = None
outcome_of (Some x) = outcome_shown x.trace

-- where numbers rise, the end of each is what its own trace tells
pub fibers_outcome : (n f : ℕ) (xs : List BareView) (v : LedgerView) → Rises n xs → f < length v.outcomes → outcome_at v f ≡ None
    → outcome_at (with_fibers xs v) f ≡ outcome_of (bare_at xs f)
fibers_outcome n f [] v rises lt none = none
fibers_outcome n f (x ∷ xs) v rises lt none =
    let u : LedgerView = record v { given = slice_set v.given x.id true } in
    elim (cases_eq x.id f) [
      | inl same ↦
          (let own : outcome_at (with_fiber x v) x.id ≡ or_first (outcome_at v x.id) (outcome_shown x.trace) =
          events_outcome x.id x.trace u (omega (arith, same, lt)) in
          let nothing : outcome_at v x.id ≡ None = ap (outcome_at v) same ∙ none in
          fibers_past (suc x.id) f xs (with_fiber x v) rises.1 (omega (arith, same))
          ∙ ap (outcome_at (with_fiber x v)) (sym same) ∙ own
          ∙ ap (λ (o : Option Outcome). or_first o (outcome_shown x.trace)) nothing
          ∙ sym (rw (eq-eqb x.id f same) refl))
      | inr apart ↦
          (let long = ends_long x.id x.trace u in
          fibers_outcome (suc x.id) f xs (with_fiber x v) rises.1 (omega (arith, lt, long)) (events_elsewhere f x.id x.trace u apart ∙ none)
          ∙ sym (rw (ne_eqb x.id f apart) refl))
    ]

pub fibers_ends_long : (xs : List BareView) (v : LedgerView) → length (with_fibers xs v).outcomes ≡ length v.outcomes
fibers_ends_long [] v = refl
fibers_ends_long (x ∷ xs) v = fibers_ends_long xs (with_fiber x v) ∙ ends_long x.id x.trace (record v { given = slice_set v.given x.id true })
