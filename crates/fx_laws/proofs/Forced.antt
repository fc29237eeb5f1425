-- Places from which one step alone leads on.
use Rattle.std.proofs.Common.{◌≡◌, ℕ, Bool, true, false, not, Option, Some, None, List, [], ◌∷◌, refl, sym, ◌∙◌, ap, subst}
use Rattle.fx_term.specs.declared.done.Done.{Done}
use Rattle.fx_term.specs.declared.event.Event.TheVariants as event
use Rattle.fx_term.specs.declared.outcome.Outcome.{Outcome}
use Rattle.fx_term.specs.declared.outcome.Outcome.TheVariants as outcome
use Rattle.fx_term.specs.Term.{Term, Finished}
use Rattle.fx_model.specs.Path.{CleanupTerm, Finalizer, Release, is_open}
use Rattle.fx_model.specs.Row.{Counts, Label, Silent, Shows, Row}
use Rattle.fx_model.specs.Step.{Progress, Runs, Unwinds, CleansUp, HasEnded, Step}
use Rattle.fx_model.specs.Step as step
use Rattle.fx_model.specs.Run.{Leads}
use Rattle.fx_model.proofs.Paths.{result_has_no_row}
use Rattle.fx_model.proofs.ShownRuns.{closed_must, never_canceled, closed_row}
use Rattle.fx_laws.proofs.Views.{View, HasRun, IsMatched, stays, step_like, hidden_first, of_hidden}

-- this step leads on from here, and no other
pub record IsForced (c : Counts) (p : Progress) (l : Label) (d : Counts) (q : Progress) : Type 0 where
  pub step : Step c p l d q
  pub only : (m : Label) (e : Counts) (r : Progress) → Step c p m e r → (m ≡ l) × (e ≡ d) × (r ≡ q)

-- each matches the other
module _ (v : View) where
  abbrev pub AreMatched : Counts → Progress → Counts → Progress → Type 0
  AreMatched c p c' p' = IsMatched v c p c' p' × IsMatched v c' p' c p

  pub turned : {c c' : Counts} {p p' : Progress} → AreMatched c p c' p' → AreMatched c' p' c p
  turned m = (m.1, m.0)

  after_forced : {c d c' : Counts} {p q p' : Progress} {l : Label} → IsForced c p l d q → ((ls : List Label) (e : Counts) (r : Progress)
      → Leads d q ls e r → HasRun v c' p' (v.of (l ∷ ls))) → IsMatched v c p c' p'
  after_forced f next [] e r h = stays v
  after_forced {d = d} {q = q} f next (m ∷ ls) e r h =
      let o = f.only m h.0 h.1 h.2 in
      let go : Leads d q ls e r = rw (sym o.1, sym o.2) h.3 in
      rw o.0 (next ls e r go)

  -- a forced step of which nothing is seen
  pub hidden_left : {c d c' : Counts} {p q p' : Progress} {l : Label} → v.of (l ∷ []) ≡ [] → IsForced c p l d q → AreMatched d q c' p' → AreMatched c p c' p'
  hidden_left {c' = c'} {p' = p'} hidden f next = (
    after_forced f (λ ls e r h. subst (λ (ms : List Label). HasRun v c' p' ms) (sym (of_hidden v ls hidden)) (next.0 ls e r h)),
    λ ls e r h. hidden_first v hidden f.step (next.1 ls e r h),
  )

  pub hidden_right : {c c' d' : Counts} {p p' q' : Progress} {l : Label} → v.of (l ∷ []) ≡ [] → IsForced c' p' l d' q' → AreMatched c p d' q'
      → AreMatched c p c' p'
  hidden_right hidden f next = turned (hidden_left hidden f (turned next))

  pub follow_forced : {c d c' d' : Counts} {p q p' q' : Progress} {l k : Label} → v.of (k ∷ []) ≡ v.of (l ∷ []) → IsForced c p l d q → Step c' p' k d' q'
      → IsMatched v d q d' q' → IsMatched v c p c' p'
  follow_forced like f s next = after_forced f (λ ls e r h. step_like v ls like s (next ls e r h))

  -- forced steps of which the same is seen
  pub forced_both : {c d c' d' : Counts} {p q p' q' : Progress} {l k : Label} → v.of (k ∷ []) ≡ v.of (l ∷ []) → IsForced c p l d q → IsForced c' p' k d' q'
      → AreMatched d q d' q' → AreMatched c p c' p'
  forced_both like f g next = (
    follow_forced like f g.step next.0,
    follow_forced (sym like) g f.step next.1,
  )

  pub silent_left : {c d c' : Counts} {p q p' : Progress} → IsForced c p Silent d q → AreMatched d q c' p' → AreMatched c p c' p'
  silent_left f next = hidden_left v.of_silent f next

  pub silent_right : {c c' d' : Counts} {p p' q' : Progress} → IsForced c' p' Silent d' q' → AreMatched c p d' q' → AreMatched c p c' p'
  silent_right f next = hidden_right v.of_silent f next

-- the steps of clean-ups
pub begins_finalizer : (c : Counts) (f : Term) (xs : List CleanupTerm) → IsForced c (Unwinds (Finalizer f ∷ xs)) Silent c (CleansUp None f xs)
begins_finalizer c f xs = record { step = step.finalizer; only = λ m e r s. one s }
  where
    one : {m : Label} {e : Counts} {r : Progress} → Step c (Unwinds (Finalizer f ∷ xs)) m e r → (m ≡ Silent) × (e ≡ c) × (r ≡ CleansUp None f xs)
    one step.finalizer = (refl, refl, refl)

pub begins_release : (c : Counts) (k : ℕ) (f : Term) (xs : List CleanupTerm)
    → IsForced c (Unwinds (Release k f ∷ xs)) (Shows (event.Begin k)) c (CleansUp (Some k) f xs)
begins_release c k f xs = record { step = step.release; only = λ m e r s. one s }
  where
    one : {m : Label} {e : Counts} {r : Progress} → Step c (Unwinds (Release k f ∷ xs)) m e r
        → (m ≡ Shows (event.Begin k)) × (e ≡ c) × (r ≡ CleansUp (Some k) f xs)
    one step.release = (refl, refl, refl)

pub ends_finalizer : (c : Counts) (w : Done) (xs : List CleanupTerm) → IsForced c (CleansUp None (Finished w) xs) Silent c (Unwinds xs)
ends_finalizer c w xs = record { step = step.finalizer_ends; only = λ m e r s. one s }
  where
    one : {m : Label} {e : Counts} {r : Progress} → Step c (CleansUp None (Finished w) xs) m e r → (m ≡ Silent) × (e ≡ c) × (r ≡ Unwinds xs)
    one step.finalizer_ends = (refl, refl, refl)
    one (step.cleans r) = absurd (result_has_no_row r refl)

pub ends_release : (c : Counts) (k : ℕ) (w : Done) (xs : List CleanupTerm)
    → IsForced c (CleansUp (Some k) (Finished w) xs) (Shows (event.End k)) c (Unwinds xs)
ends_release c k w xs = record { step = step.release_ends; only = λ m e r s. one s }
  where
    one : {m : Label} {e : Counts} {r : Progress} → Step c (CleansUp (Some k) (Finished w) xs) m e r
        → (m ≡ Shows (event.End k)) × (e ≡ c) × (r ≡ Unwinds xs)
    one step.release_ends = (refl, refl, refl)
    one (step.cleans r) = absurd (result_has_no_row r refl)

pub unwound : (c : Counts) → IsForced c (Unwinds []) (Shows (event.Ended outcome.Canceled)) c (HasEnded outcome.Canceled)
unwound c = record { step = step.unwound; only = λ m e r s. one s }
  where
    one : {m : Label} {e : Counts} {r : Progress} → Step c (Unwinds []) m e r
        → (m ≡ Shows (event.Ended outcome.Canceled)) × (e ≡ c) × (r ≡ HasEnded outcome.Canceled)
    one step.unwound = (refl, refl, refl)

-- fibers with no clean-up left, and fibers that have ended, are alike, whatever they count
module _ (v : View) where
  pub ended_matched : (c c' : Counts) (o : Outcome) → IsMatched v c (HasEnded o) c' (HasEnded o)
  ended_matched c c' o [] d q h = stays v
  ended_matched c c' o (l ∷ ls) d q h = absurd (none h.2)
    where
      none : {l : Label} {e : Counts} {q : Progress} → Step c (HasEnded o) l e q → ⊥
      none s = elim s [ ]

  pub unwound_both : (c c' : Counts) → AreMatched v c (Unwinds []) c' (Unwinds [])
  unwound_both c c' = forced_both v refl (unwound c) (unwound c') (ended_matched c c' outcome.Canceled, ended_matched c' c outcome.Canceled)

-- a row that is the only one at a closed place
pub record IsOnlyRow (c : Counts) (t : Term) (l : Label) (d : Counts) (u : Term) : Type 0 where
  pub there : Row true c t l d u
  pub only : (m : Label) (e : Counts) (w : Term) → Row true c t m e w → (m ≡ l) × (e ≡ d) × (w ≡ u)
  pub going : (w : Done) → t ≡ Finished w → ⊥

pub cleans_only : {c d : Counts} {t u : Term} {l : Label} (k : Option ℕ) (xs : List CleanupTerm) → IsOnlyRow c t l d u
    → IsForced c (CleansUp k t xs) l d (CleansUp k u xs)
cleans_only {c} {d} {t} {u} {l} k xs o = record { step = step.cleans o.there; only = λ m e r s. one s refl }
  where
    one : {m : Label} {e : Counts} {r : Progress} {j : Option ℕ} {x : Term} {ys : List CleanupTerm} → Step c (CleansUp j x ys) m e r → x ≡ t
        → (m ≡ l) × (e ≡ d) × (r ≡ CleansUp j u ys)
    one {m} {e} {j = j} {ys = ys} (step.cleans {t' = y} r) at =
        let f = o.only m e y (subst (λ (z : Term). Row true c z m e y) at r) in (f.0, f.1, ap (λ (z : Term). CleansUp j z ys) f.2)
    one (step.finalizer_ends {v = w}) at = absurd (o.going w (sym at))
    one (step.release_ends {v = w}) at = absurd (o.going w (sym at))

pub runs_only : {c d : Counts} {t u : Term} {l : Label} → is_open t ≡ false → IsOnlyRow c t l d u → IsForced c (Runs t) l d (Runs u)
runs_only {c} {d} {t} {u} {l} closed o =
    record {
      step = step.row (closed_must c.known t closed) (subst (λ (b : Bool). Row (not b) c t l d u) (sym closed) o.there);
      only = λ m e r s. one s refl;
    }
  where
    one : {m : Label} {e : Counts} {r : Progress} {x : Term} → Step c (Runs x) m e r → x ≡ t → (m ≡ l) × (e ≡ d) × (r ≡ Runs u)
    one {x = x} (step.cancelled must) at = absurd (never_canceled c.known x (ap is_open at ∙ closed) must)
    one (step.seen free opened) at = absurd (let p = ap is_open at ∙ closed in cc)
    one {m} {e} {x = x} (step.row {t' = y} free r) at =
        let f = o.only m e y (subst (λ (z : Term). Row true c z m e y) at (closed_row (ap is_open at ∙ closed) r)) in (f.0, f.1, ap Runs f.2)
    one (step.succeeds {n = n} free) at = absurd (o.going _ (sym at))
    one (step.errs {n = n} free) at = absurd (o.going _ (sym at))
