-- Terms that are forced after others.
use Rattle.std.proofs.Common.{◌≡◌, ℕ, Bool, true, false, not, Option, None, List, [], ◌∷◌, refl, sym, ◌∙◌, ap, subst}
use Rattle.std.specs.Prelude.{◌&&◌}
use Rattle.fx_term.specs.declared.node.Arg.TheVariants.{Number}
use Rattle.fx_term.specs.declared.done.Done.{Done}
use Rattle.fx_term.specs.declared.done.Done.TheVariants.{Val, Err}
use Rattle.fx_term.specs.Term.{Term, Pure, Raise, Let, Handle, Finished}
use Rattle.fx_model.specs.Path.{Context, CleanupTerm, LetIn, HandleIn, is_open, must_cancel}
use Rattle.fx_model.specs.Row.{Counts, Label, Row}
use Rattle.fx_model.specs.Step.{Progress, Runs, must_cancel_at, looks_first, Step, cancelled, seen, row, succeeds, errs}
use Rattle.fx_model.specs.Run.{Leads, shown}
use Rattle.fx_model.specs.MaskLaws.{BeginsWithSeen, forced_after}
use Rattle.fx_laws.specs.Everywhere.{placed, Place, InTerm, InCleanup, come_to, CanShowFrom, ShowTheSameEverywhere}
use Rattle.fx_laws.specs.Everywhere.{ShowTheSameEverywhereUnlessSeenFirst}
use Rattle.fx_laws.proofs.Views.{HasRun, IsMatched, itself, stays, silent_first}
use Rattle.fx_laws.proofs.SilentRows.{LeadsSilently, pure_leads, raise_leads, let_value_leads, handle_value_leads, handle_error_leads}
use Rattle.fx_laws.proofs.SilentRows.{leads_placed, silent_step}
use Rattle.fx_laws.proofs.SamePlaces.{IsSamePlace, same_whole}
use Rattle.fx_laws.proofs.Forced.{silent_left, runs_only}
use Rattle.fx_laws.proofs.OnlyRows.{only_silent, only_placed}
use Rattle.fx_laws.proofs.InCleanups.{cleans_silently}
use Rattle.fx_laws.proofs.SameHere.{AreSameHere, same_itself, same_too, both_lead, one_leads, same_inside}
use Rattle.fx_laws.proofs.Showing.{showing, shows_too, everywhere}

-- what a run shows that makes a silent step first, unless it sees a request, a run from there shows
shows_next : (c : Counts) {t u : Term} → LeadsSilently t u → must_cancel c.known t ≡ false → (ls : List Label) (d : Counts) (q : Progress)
    → Leads c (Runs t) ls d q → (BeginsWithSeen (shown ls) → ⊥) → HasRun showing c (Runs u) (shown ls)
shows_next c s free [] d q h unseen = stays showing
shows_next c {t} {u} s free (l ∷ ls) d q h unseen = by_step h.2 refl h.3 unseen
  where
    by_step : {x : Term} {m : Progress} {e : Counts} {l : Label} → Step c (Runs x) l e m → x ≡ t → Leads e m ls d q → (BeginsWithSeen (shown (l ∷ ls)) → ⊥)
        → HasRun showing c (Runs u) (shown (l ∷ ls))
    by_step (cancelled must) at after un = let f = ap (must_cancel c.known) at in absurd cc
    by_step (seen f o) at after un = absurd (un tt)
    by_step {x} {e = e} {l = l} (row {t' = y} f r) at after un =
        let o = s.only (not (is_open x)) c e l y (subst (λ (z : Term). Row (not (is_open x)) c z l e y) at r) in
        let go : Leads c (Runs u) ls d q = rw (sym o.1, sym o.2) after in
        rw o.0 (itself showing ls d q go)
    by_step (succeeds {n = n} f) at after un = absurd (s.going (Val n) (sym at))
    by_step (errs {n = n} f) at after un = absurd (s.going (Err n) (sym at))

both_hold : (a b : Bool) → a ≡ true → b ≡ false → (a && not b) ≡ true
both_hold true false p q = refl
both_hold true true p q = absurd cc
both_hold false b p q = absurd cc

-- wherever a fiber comes to the first term and is not canceled at once, it can show all that it can where the second stands there
abbrev pub ShowsAllOf : Term → Term → Type 0
ShowsAllOf t u =
    (place : Place) (c : Counts) (ls : List Label) → must_cancel_at c.known (come_to place t) ≡ false
    → CanShowFrom c (come_to place u) ls → CanShowFrom c (come_to place t) ls

-- a term of which one silent step makes the other
module _ {before t : Term} (leads : LeadsSilently before t) where
  pub same_in_cleanup : (k : Option ℕ) (rest : List CleanupTerm) (fs : List Context) → AreSameHere showing (InCleanup k rest fs) before t
  same_in_cleanup k rest fs c = silent_left showing (cleans_silently k rest fs leads c) (itself showing, itself showing)

  same_at_closed : (fs : List Context) → is_open (placed fs before) ≡ false → AreSameHere showing (InTerm fs) before t
  same_at_closed fs closed c = silent_left showing (runs_only closed (only_placed fs (only_silent c leads))) (itself showing, itself showing)

  leads_shows_all : ShowsAllOf before t
  leads_shows_all (InTerm fs) c ls free h =
      let start = silent_step (leads_placed fs leads) free in
      let there : IsMatched showing c (Runs (placed fs t)) c (Runs (placed fs before)) = λ ms d q k. silent_first showing start (itself showing ms d q k) in
      shows_too there h
  leads_shows_all (InCleanup k rest fs) c ls free h = shows_too (same_in_cleanup k rest fs c).1 h

  module _ (fs : List Context) (c : Counts) (ls : List Label) (free : must_cancel c.known (placed fs before) ≡ false)
      (unseen : looks_first c.known (Runs (placed fs before)) ≡ true → BeginsWithSeen ls → ⊥) (h : CanShowFrom c (Runs (placed fs before)) ls) where
    at_open : is_open (placed fs before) ≡ true → CanShowFrom c (Runs (placed fs t)) ls
    at_open opened =
        let looks : looks_first c.known (Runs (placed fs before)) ≡ true = both_hold _ _ opened free in
        let unseen' = subst (λ (ms : List Label). BeginsWithSeen ms → ⊥) (sym h.shown_is) (unseen looks) in
        let m = shows_next c (leads_placed fs leads) free h.labels h.counts h.progress h.run unseen' in
        record { labels = m.labels; counts = m.counts; progress = m.progress; run = m.leads; shown_is = m.seen_is ∙ h.shown_is }

    by_place : (b : Bool) → is_open (placed fs before) ≡ b → CanShowFrom c (Runs (placed fs t)) ls
    by_place true opened = at_open opened
    by_place false closed = shows_too (same_at_closed fs closed c).0 h

  shows_no_more : (place : Place) (c : Counts) (ls : List Label) → must_cancel_at c.known (come_to place before) ≡ false
      → (looks_first c.known (come_to place before) ≡ true → BeginsWithSeen ls → ⊥) → CanShowFrom c (come_to place before) ls
      → CanShowFrom c (come_to place t) ls
  shows_no_more (InTerm fs) c ls free unseen h = by_place fs c ls free unseen h (is_open (placed fs before)) refl
  shows_no_more (InCleanup k rest fs) c ls free unseen h = shows_too (same_in_cleanup k rest fs c).0 h

-- and so of one that comes to such a term and stays at one place up to there
module _ {first before t : Term} (leads : LeadsSilently before t) (same : IsSamePlace first before)
    (comes : (place : Place) → AreSameHere showing place first before) where
  pub must_too : (place : Place) (known : Bool)
      → must_cancel_at known (come_to place first) ≡ must_cancel_at known (come_to place before)
  must_too (InTerm fs) known = (same_whole fs same).must known
  must_too (InCleanup k rest fs) known = refl

  looks_too : (place : Place) (known : Bool) → looks_first known (come_to place first) ≡ looks_first known (come_to place before)
  looks_too (InTerm fs) known = let p = (same_whole fs same).must known in let q = (same_whole fs same).open_is in cc
  looks_too (InCleanup k rest fs) known = refl

  pub first_shows_all : ShowsAllOf first t
  first_shows_all place c ls free h =
      shows_too (comes place c).1 (leads_shows_all leads place c ls (sym (must_too place c.known) ∙ free) h)

  pub first_is_nothing : ShowTheSameEverywhereUnlessSeenFirst first t
  first_is_nothing place c ls free unseen = (
    λ h. shows_no_more leads place c ls (sym (must_too place c.known) ∙ free) (λ looks. unseen (looks_too place c.known ∙ looks))
        (shows_too (comes place c).0 h),
    first_shows_all place c ls free,
  )

-- a term after a value that is dropped
abbrev pub dropping : Term → ℕ → Term
dropping t n = Let None (Finished (Val n)) t

pub drops : (t : Term) (n : ℕ) → LeadsSilently (dropping t n) t
drops t n = let_value_leads None n t

module _ (n : ℕ) (t : Term) where
  abbrev in_let : List Context
  in_let = LetIn None t ∷ []

  abbrev in_handle : List Context
  in_handle = LetIn None t ∷ HandleIn None (Pure (Number 0)) ∷ []

  pub comes_to_value : (place : Place) → AreSameHere showing place (forced_after (Pure (Number n)) t) (dropping t n)
  comes_to_value place =
      let second = Let None (Handle (Finished (Val n)) None (Pure (Number 0))) t in
      same_too showing place (forced_after (Pure (Number n)) t) second (dropping t n)
      (one_leads showing place (leads_placed in_handle (pure_leads n)) (record { closed = λ outer. refl; leaf_is = refl; clean = refl }))
      (one_leads showing place (leads_placed in_let (handle_value_leads None n (Pure (Number 0))))
      (record { closed = λ outer. refl; leaf_is = refl; clean = refl }))

  pub comes_to_zero : (place : Place) → AreSameHere showing place (forced_after (Raise (Number n)) t) (dropping t 0)
  comes_to_zero place =
      let second = Let None (Handle (Finished (Err n)) None (Pure (Number 0))) t in
      let third = Let None (Pure (Number 0)) t in
      same_too showing place (forced_after (Raise (Number n)) t) second (dropping t 0)
      (one_leads showing place (leads_placed in_handle (raise_leads n)) (record { closed = λ outer. refl; leaf_is = refl; clean = refl }))
      (same_too showing place second third (dropping t 0)
      (one_leads showing place (leads_placed in_let (handle_error_leads None n (Pure (Number 0))))
      (record { closed = λ outer. refl; leaf_is = refl; clean = refl }))
      (one_leads showing place (leads_placed in_let (pure_leads 0)) (record { closed = λ outer. refl; leaf_is = refl; clean = refl })))

pub dropped_value_is_nothing : (n : ℕ) (t : Term) → ShowTheSameEverywhereUnlessSeenFirst (forced_after (Pure (Number n)) t) t
dropped_value_is_nothing n t =
    first_is_nothing (drops t n) (record { closed = λ outer. refl; leaf_is = refl; clean = refl }) (comes_to_value n t)

pub dropped_error_is_nothing : (n : ℕ) (t : Term) → ShowTheSameEverywhereUnlessSeenFirst (forced_after (Raise (Number n)) t) t
dropped_error_is_nothing n t =
    first_is_nothing (drops t 0) (record { closed = λ outer. refl; leaf_is = refl; clean = refl }) (comes_to_zero n t)

-- three terms, each forced after the one before
module _ (a b f : Term) (place : Place) where
  abbrev nothing : Term
  nothing = Pure (Number 0)

  abbrev from_left : List Context
  from_left = LetIn None f ∷ HandleIn None nothing ∷ LetIn None b ∷ HandleIn None nothing ∷ []

  abbrev from_right : List Context
  from_right = LetIn None (forced_after b f) ∷ HandleIn None nothing ∷ []

  -- what is left of them after the first
  abbrev inner : List Context
  inner = LetIn None f ∷ HandleIn None nothing ∷ LetIn None b ∷ []

  value_dropped : (n : ℕ) → AreSameHere showing place (Let None (Finished (Val n)) (forced_after b f)) (placed inner (Finished (Val n)))
  value_dropped n =
      both_lead showing place (let_value_leads None n (forced_after b f))
      (leads_placed (LetIn None f ∷ HandleIn None nothing ∷ []) (let_value_leads None n b)) (record { closed = λ outer. refl; leaf_is = refl; clean = refl })
      (same_itself showing place (forced_after b f))

  first_ends : (w : Done) → AreSameHere showing place (placed from_right (Finished w)) (placed from_left (Finished w))
  first_ends (Val n) =
      both_lead showing place (leads_placed (LetIn None (forced_after b f) ∷ []) (handle_value_leads None n nothing))
      (leads_placed inner (handle_value_leads None n nothing)) (record { closed = λ outer. refl; leaf_is = refl; clean = refl }) (value_dropped n)
  first_ends (Err n) =
      both_lead showing place (leads_placed (LetIn None (forced_after b f) ∷ []) (handle_error_leads None n nothing))
      (leads_placed inner (handle_error_leads None n nothing)) (record { closed = λ outer. refl; leaf_is = refl; clean = refl })
      (both_lead showing place (leads_placed (LetIn None (forced_after b f) ∷ []) (pure_leads 0)) (leads_placed inner (pure_leads 0))
      (record { closed = λ outer. refl; leaf_is = refl; clean = refl }) (value_dropped 0))

pub forced_in_order : (a b f : Term) → ShowTheSameEverywhere (forced_after a (forced_after b f)) (forced_after (forced_after a b) f)
forced_in_order a b f =
    everywhere (forced_after a (forced_after b f)) (forced_after (forced_after a b) f)
    (λ place. same_inside showing place (from_right a b f place) (from_left a b f place) (λ outer. refl) (λ xs. refl) (first_ends a b f place) a)
