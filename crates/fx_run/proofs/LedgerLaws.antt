-- What the ledger has by number, after the fibers that were given to it.
use Rattle.std.proofs.Common.{◌≡◌, ◌≢◌, ℕ, ◌<◌, Bool, true, false, Option, Some, None, option_map, List, [], ◌∷◌, length, refl, sym, ◌∙◌, ap, inl, inr}
use Rattle.std.proofs.Common.{get_or-set_same, get_or-set_other, arith, subst, ◌≤◌, ◌+◌, drop, zero, suc}
use Rattle.std.specs.Prelude.{◌==◌, ◌||◌, is_some, if◌then◌else◌, slice_set, slice_index_or}
use Rattle.std.specs.List.{find, list_any}
use Rattle.std.proofs.lemmas.Bool.{eq-eqb, ne_eqb, cases_eq, cases_lt, lt-ltb, le-ltb}
use Rattle.std.proofs.lemmas.List.{length-set}
use Rattle.std.proofs.Math.Seq.{drop-nil}
use Rattle.fx_term.specs.declared.event.Event.{Event}
use Rattle.fx_term.specs.declared.event.Event.TheVariants as event
use Rattle.fx_model.specs.LawfulReport.{is_start_of}
use Rattle.fx_fiber.specs.Bare.{BareView}
use Rattle.fx_port.specs.Marks.{AreBefore}
use Rattle.fx_run.specs.Reported.{bare_at, parent_of}
use Rattle.fx_run.specs.Ledger.{LedgerView, first_of, least_of, with_start, with_request, with_end, with_event, with_events, with_fiber, with_fibers}
use Rattle.fx_run.specs.Ledger.{with_marks}

-- one of two
abbrev pub or_first : {A : Type 0} → Option A → Option A → Option A
or_first None o = o
or_first (Some x) o = Some x

-- what a table has at a number, where it was set at another one or at this one
set_there : {A : Type 0} (xs : List A) (g f : ℕ) (y d : A) → f < length xs → g ≡ f → slice_index_or (slice_set xs g y) f d ≡ y
set_there xs g f y d lt same = ap (λ (i : ℕ). slice_index_or (slice_set xs i y) f d) same ∙ get_or-set_same xs f y d lt

set_elsewhere : {A : Type 0} (xs : List A) (g f : ℕ) (y d : A) → g ≢ f → slice_index_or (slice_set xs g y) f d ≡ slice_index_or xs f d
set_elsewhere xs g f y d apart = get_or-set_other xs g f y d (λ e. apart (sym e))

-- who started a number
abbrev pub parent_at : LedgerView → ℕ → Option ℕ
parent_at v f = slice_index_or v.parents f None

if_some : Bool → ℕ → Option ℕ
if_some b n = if b then Some n else None

module _ (f : ℕ) where
  start_parent : (id g : ℕ) (v : LedgerView) → f < length v.parents
      → parent_at (with_start id g v) f ≡ or_first (parent_at v f) (if g == f then Some id else None)
  start_parent id g v lt = elim (cases_eq g f) [
    | inl same ↦
        set_there v.parents g f (first_of (slice_index_or v.parents g None) id) None lt same
        ∙ ap (λ (i : ℕ). first_of (slice_index_or v.parents i None) id) same ∙ first_is (parent_at v f)
        ∙ sym (rw (eq-eqb g f same) refl)
    | inr apart ↦
        set_elsewhere v.parents g f (first_of (slice_index_or v.parents g None) id) None apart
        ∙ same_is (parent_at v f) ∙ sym (rw (ne_eqb g f apart) refl)
  ]
    where
      first_is : (o : Option ℕ) → first_of o id ≡ or_first o (Some id)
      first_is None = refl
      first_is (Some x) = refl

      same_is : (o : Option ℕ) → o ≡ or_first o None
      same_is None = refl
      same_is (Some x) = refl

  kept_or : (o : Option ℕ) → o ≡ or_first o None
  kept_or None = refl
  kept_or (Some x) = refl

  event_parent : (id : ℕ) (e : Event) (v : LedgerView) → f < length v.parents
      → parent_at (with_event id e v) f ≡ or_first (parent_at v f) (if is_start_of f e then Some id else None)
  event_parent id (event.Start g) v lt = start_parent id g v lt
  event_parent id (event.Request g) v lt = kept_or (parent_at v f)
  event_parent id (event.Ended o) v lt = kept_or (parent_at v f)
  event_parent id _ v lt = kept_or (parent_at v f)

-- the lists stay as long as they are
pub event_long : (id : ℕ) (e : Event) (v : LedgerView) → length (with_event id e v).parents ≡ length v.parents
event_long id (event.Start g) v = length-set v.parents g (first_of (slice_index_or v.parents g None) id)
event_long id (event.Request g) v = refl
event_long id (event.Ended o) v = refl
event_long id _ v = refl

pub events_long : (id : ℕ) (es : List Event) (v : LedgerView) → length (with_events id es v).parents ≡ length v.parents
events_long id [] v = refl
events_long id (e ∷ es) v = events_long id es (with_event id e v) ∙ event_long id e v

either_start : (o : Option ℕ) (t u : Bool) (id : ℕ)
    → or_first (or_first o (if t then Some id else None)) (if u then Some id else None) ≡ or_first o (if t || u then Some id else None)
either_start None true u id = refl
either_start None false u id = refl
either_start (Some x) t u id = refl

events_parent : (f id : ℕ) (es : List Event) (v : LedgerView) → f < length v.parents
    → parent_at (with_events id es v) f ≡ or_first (parent_at v f) (if list_any (is_start_of f) es then Some id else None)
events_parent f id [] v lt = kept_or f (parent_at v f)
events_parent f id (e ∷ es) v lt =
    events_parent f id es (with_event id e v) (let long = event_long id e v in omega (arith, lt, long))
    ∙ ap (λ (o : Option ℕ). or_first o (if list_any (is_start_of f) es then Some id else None)) (event_parent f id e v lt)
    ∙ either_start (parent_at v f) (is_start_of f e) (list_any (is_start_of f) es) id

first_parent : (o : Option ℕ) (t : Bool) (x : BareView) (r : Option BareView)
    → or_first (or_first o (if t then Some x.id else None)) (option_map (λ (y : BareView). y.id) r)
    ≡ or_first o (option_map (λ (y : BareView). y.id) (if t then Some x else r))
first_parent None true x r = refl
first_parent None false x r = refl
first_parent (Some y) t x r = refl

pub fibers_parent : (f : ℕ) (xs : List BareView) (v : LedgerView) → f < length v.parents
    → parent_at (with_fibers xs v) f ≡ or_first (parent_at v f) (parent_of xs f)
fibers_parent f [] v lt = kept_or f (parent_at v f)
fibers_parent f (x ∷ xs) v lt =
    fibers_parent f xs (with_fiber x v) (let long = events_long x.id x.trace (record v { given = slice_set v.given x.id true }) in omega (arith, lt, long))
    ∙ ap (λ (o : Option ℕ). or_first o (parent_of xs f)) (events_parent f x.id x.trace (record v { given = slice_set v.given x.id true }) lt)
    ∙ first_parent (parent_at v f) (list_any (is_start_of f) x.trace) x (find (λ (y : BareView). list_any (is_start_of f) y.trace) xs)

-- which fibers were given
pub events_given : (id : ℕ) (es : List Event) (v : LedgerView) → (with_events id es v).given ≡ v.given
events_given id [] v = refl
events_given id (event.Start g ∷ es) v = events_given id es (with_start id g v)
events_given id (event.Request g ∷ es) v = events_given id es (with_request g v)
events_given id (event.Ended o ∷ es) v = events_given id es (with_end id o v)
events_given id (_ ∷ es) v = events_given id es v

fiber_given : (x : BareView) (v : LedgerView) → (with_fiber x v).given ≡ slice_set v.given x.id true
fiber_given x v = events_given x.id x.trace (record v { given = slice_set v.given x.id true })

fiber_given_long : (x : BareView) (v : LedgerView) → length (with_fiber x v).given ≡ length v.given
fiber_given_long x v = ap (λ (bs : List Bool). length bs) (fiber_given x v) ∙ length-set v.given x.id true

or_true : (b : Bool) → (b || true) ≡ true
or_true true = refl
or_true false = refl

or_false : (b : Bool) → b ≡ (b || false)
or_false true = refl
or_false false = refl

pub fibers_given : (f : ℕ) (xs : List BareView) (v : LedgerView) → f < length v.given
    → slice_index_or (with_fibers xs v).given f false ≡ (slice_index_or v.given f false || is_some (bare_at xs f))
fibers_given f [] v lt = or_false (slice_index_or v.given f false)
fibers_given f (x ∷ xs) v lt =
    fibers_given f xs (with_fiber x v) (let long = fiber_given_long x v in omega (arith, lt, long))
    ∙ ap (λ (bs : List Bool). slice_index_or bs f false || is_some (bare_at xs f)) (fiber_given x v)
    ∙ elim (cases_eq x.id f) [
      | inl same ↦
          ap (λ (b : Bool). b || is_some (bare_at xs f)) (set_there v.given x.id f true false lt same)
          ∙ sym (rw (eq-eqb x.id f same) (or_true (slice_index_or v.given f false)))
      | inr apart ↦
          ap (λ (b : Bool). b || is_some (bare_at xs f)) (set_elsewhere v.given x.id f true false apart)
          ∙ sym (rw (ne_eqb x.id f apart) refl)
    ]

-- the least number past the lists that a trace starts, by a test of which are started
abbrev pub IsBeyond : ℕ → (ℕ → Bool) → Option ℕ → Type 0
IsBeyond n s None = (f : ℕ) → n ≤ f → s f ≡ false
IsBeyond n s (Some b) = (n ≤ b) × (s b ≡ true) × ((f : ℕ) → n ≤ f → f < b → s f ≡ false)

beyond_alike : (n : ℕ) (s t : ℕ → Bool) (o : Option ℕ) → ((f : ℕ) → s f ≡ t f) → IsBeyond n s o → IsBeyond n t o
beyond_alike n s t None e h = λ f le. sym (e f) ∙ h f le
beyond_alike n s t (Some b) e h = (h.0, sym (e b) ∙ h.1, λ f le lt. sym (e f) ∙ h.2 f le lt)

module _ (n g : ℕ) (s : ℕ → Bool) where
  abbrev also : ℕ → Bool
  also f = s f || (g == f)

  within_beyond : (o : Option ℕ) → g < n → IsBeyond n s o → IsBeyond n also o
  within_beyond None lt h = λ f le. rw (h f le, ne_eqb g f (λ e. omega arith)) refl
  within_beyond (Some b) lt h = (h.0, rw h.1 refl, λ f le below. rw (h.2 f le below, ne_eqb g f (λ e. omega arith)) refl)

  past_beyond : (o : Option ℕ) → n ≤ g → IsBeyond n s o → IsBeyond n also (least_of o g)
  past_beyond None le h = (le, ap (λ (b : Bool). s g || b) (eq-eqb g g refl) ∙ or_true (s g), λ f low below. rw (h f low, ne_eqb g f (λ e. omega arith)) refl)
  past_beyond (Some b) le h = elim (cases_lt g b) [
    | inl lt ↦
        subst (IsBeyond n also) (sym (ap (λ (t : Bool). if t then Some g else Some b) (lt-ltb g b lt))) (
          le,
          ap (λ (t : Bool). s g || t) (eq-eqb g g refl) ∙ or_true (s g),
          λ f low below. rw (h.2 f low (omega arith), ne_eqb g f (λ e. omega arith)) refl,
        )
    | inr above ↦
        subst (IsBeyond n also) (sym (ap (λ (t : Bool). if t then Some g else Some b) (le-ltb g b above)))
        (h.0, rw h.1 refl, λ f low below. rw (h.2 f low below, ne_eqb g f (λ e. omega arith)) refl)
  ]

start_beyond : (id g : ℕ) (v : LedgerView) (s : ℕ → Bool) → IsBeyond (length v.parents) s v.beyond
    → IsBeyond (length v.parents) (λ f. s f || (g == f)) (with_start id g v).beyond
start_beyond id g v s h = elim (cases_lt g (length v.parents)) [
  | inl lt ↦
      subst (IsBeyond (length v.parents) (λ f. s f || (g == f)))
      (sym (ap (λ (t : Bool). if t then v.beyond else least_of v.beyond g) (lt-ltb g (length v.parents) lt)))
      (within_beyond (length v.parents) g s v.beyond lt h)
  | inr le ↦
      subst (IsBeyond (length v.parents) (λ f. s f || (g == f)))
      (sym (ap (λ (t : Bool). if t then v.beyond else least_of v.beyond g) (le-ltb g (length v.parents) le)))
      (past_beyond (length v.parents) g s v.beyond le h)
]

event_beyond : (id : ℕ) (e : Event) (v : LedgerView) (s : ℕ → Bool) → IsBeyond (length v.parents) s v.beyond
    → IsBeyond (length v.parents) (λ f. s f || is_start_of f e) (with_event id e v).beyond
event_beyond id (event.Start g) v s h = start_beyond id g v s h
event_beyond id (event.Request g) v s h = beyond_alike (length v.parents) s _ v.beyond (λ f. or_false (s f)) h
event_beyond id (event.Ended o) v s h = beyond_alike (length v.parents) s _ v.beyond (λ f. or_false (s f)) h
event_beyond id _ v s h = beyond_alike (length v.parents) s _ v.beyond (λ f. or_false (s f)) h

or_or : (a b c : Bool) → ((a || b) || c) ≡ (a || (b || c))
or_or true b c = refl
or_or false b c = refl

events_beyond : (id : ℕ) (es : List Event) (v : LedgerView) (s : ℕ → Bool) → IsBeyond (length v.parents) s v.beyond
    → IsBeyond (length v.parents) (λ f. s f || list_any (is_start_of f) es) (with_events id es v).beyond
events_beyond id [] v s h = beyond_alike (length v.parents) s _ v.beyond (λ f. or_false (s f)) h
events_beyond id (e ∷ es) v s h =
    let long = event_long id e v in
    let w = with_event id e v in
    let first : IsBeyond (length w.parents) (λ f. s f || is_start_of f e) w.beyond =
    subst (λ (n : ℕ). IsBeyond n (λ f. s f || is_start_of f e) w.beyond) (sym long) (event_beyond id e v s h) in
    let rest = events_beyond id es w (λ f. s f || is_start_of f e) first in
    beyond_alike (length v.parents) _ _ (with_events id es w).beyond (λ f. or_or (s f) (is_start_of f e) (list_any (is_start_of f) es))
    (subst (λ (n : ℕ). IsBeyond n (λ f. (s f || is_start_of f e) || list_any (is_start_of f) es) (with_events id es w).beyond) long rest)

-- some trace of these starts f
abbrev pub is_started : List BareView → ℕ → Bool
is_started xs f = list_any (λ (x : BareView). list_any (is_start_of f) x.trace) xs

pub fibers_beyond : (xs : List BareView) (v : LedgerView) (s : ℕ → Bool) → IsBeyond (length v.parents) s v.beyond
    → IsBeyond (length v.parents) (λ f. s f || is_started xs f) (with_fibers xs v).beyond
fibers_beyond [] v s h = beyond_alike (length v.parents) s _ v.beyond (λ f. or_false (s f)) h
fibers_beyond (x ∷ xs) v s h =
    let u : LedgerView = record v { given = slice_set v.given x.id true } in
    let long = events_long x.id x.trace u in
    let w = with_fiber x v in
    let first : IsBeyond (length w.parents) (λ f. s f || list_any (is_start_of f) x.trace) w.beyond =
    subst (λ (n : ℕ). IsBeyond n (λ f. s f || list_any (is_start_of f) x.trace) w.beyond) (sym long) (events_beyond x.id x.trace u s h) in
    let rest = fibers_beyond xs w (λ f. s f || list_any (is_start_of f) x.trace) first in
    beyond_alike (length v.parents) _ _ (with_fibers xs w).beyond (λ f. or_or (s f) (list_any (is_start_of f) x.trace) (is_started xs f))
    (subst (λ (n : ℕ). IsBeyond n (λ f. (s f || list_any (is_start_of f) x.trace) || is_started xs f) (with_fibers xs w).beyond) long rest)

-- past the last mark nothing is told
pub with_no_mark : (k n : ℕ) (ms : List Bool) (v : LedgerView) → AreBefore k ms → with_marks n (drop k ms) v ≡ v
with_no_mark k n [] v h = ap (λ l. with_marks n l v) (drop-nil k)
with_no_mark zero n (true ∷ ms) v h = absurd (let z = h 0 refl in omega (arith, z))
with_no_mark zero n (false ∷ ms) v h = with_no_mark zero (n + 1) ms v (λ f e. let z = h (suc f) e in omega (arith, z))
with_no_mark (suc k) n (m ∷ ms) v h = with_no_mark k n ms v (λ f e. let z = h (suc f) e in omega (arith, z))
