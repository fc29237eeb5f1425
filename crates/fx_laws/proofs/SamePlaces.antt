-- Two terms that stand at the same place, and steps from there.
use Rattle.std.proofs.Common.{◌≡◌, Bool, true, false, not, List, [], ◌∷◌, refl, sym, ◌∙◌, ap, subst}
use Rattle.fx_term.specs.declared.done.Done.{Done}
use Rattle.fx_term.specs.declared.outcome.Outcome.{Outcome}
use Rattle.fx_term.specs.declared.outcome.Outcome.TheVariants.{Succeeded, Errored}
use Rattle.fx_term.specs.Term.{Term, Finished}
use Rattle.fx_mask.specs.Closing.{Closing}
use Rattle.fx_model.specs.Path.{CleanupTerm, Context, leaf, closed_along, closed_regions, cleanup_terms, is_canceled_form, is_open, must_cancel}
use Rattle.fx_model.specs.Row.{Counts, Label, known_canceled, Row}
use Rattle.fx_model.specs.Step.{Progress, Runs, Unwinds, HasEnded, Step, cancelled, seen, row, succeeds, errs}
use Rattle.fx_model.specs.Run.{Leads}
use Rattle.fx_laws.specs.Everywhere.{placed}
use Rattle.fx_laws.proofs.Placed.{cleanups_placed, open_placed, must_placed}
use Rattle.fx_laws.proofs.Views.{View, HasRun, IsMatched, itself, stays, step_first}

-- the same closes both, both are at `canceled` or neither is, and the same clean-ups stand round them
pub record IsSamePlace (t u : Term) : Type 0 where
  pub closed : (outer : List Closing) → closed_regions outer t ≡ closed_regions outer u
  pub leaf_is : is_canceled_form (leaf t) ≡ is_canceled_form (leaf u)
  pub clean : cleanup_terms t ≡ cleanup_terms u

pub same_turned : {t u : Term} → IsSamePlace t u → IsSamePlace u t
same_turned s = record { closed = λ outer. sym (s.closed outer); leaf_is = sym s.leaf_is; clean = sym s.clean }

-- what cancellation and requests look at
pub record IsSameWhole (t u : Term) : Type 0 where
  pub must : (known : Bool) → must_cancel known t ≡ must_cancel known u
  pub open_is : is_open t ≡ is_open u
  pub clean : cleanup_terms t ≡ cleanup_terms u

pub same_whole : (fs : List Context) {t u : Term} → IsSamePlace t u → IsSameWhole (placed fs t) (placed fs u)
same_whole fs {t} {u} s =
    let closed = s.closed (closed_along [] fs) in
    record {
      must = λ known. let p = must_placed known fs t in let q = must_placed known fs u in let r = s.leaf_is in cc;
      open_is = let p = open_placed fs t in let q = open_placed fs u in cc;
      clean = let p = cleanups_placed fs t in let q = cleanups_placed fs u in let r = s.clean in cc;
    }

-- a step that is neither cancellation nor a request that is seen
pub data Moves (c : Counts) (t : Term) : Label → Counts → Progress → Type 0 where
  by_row : {u : Term} {l : Label} {d : Counts} → must_cancel c.known t ≡ false → Row (not (is_open t)) c t l d u → Moves c t l d (Runs u)
  by_end : {o : Outcome} {l : Label} {d : Counts} {w : Done} → must_cancel c.known t ≡ false → t ≡ Finished w → Step c (Runs t) l d (HasEnded o)
      → Moves c t l d (HasEnded o)

pub moves_free : {c d : Counts} {t : Term} {l : Label} {q : Progress} → Moves c t l d q → must_cancel c.known t ≡ false
moves_free (by_row free r) = free
moves_free (by_end free e s) = free

pub moves_step : {c d : Counts} {t : Term} {l : Label} {q : Progress} → Moves c t l d q → Step c (Runs t) l d q
moves_step (by_row free r) = row free r
moves_step (by_end free e s) = s

-- Two whole terms, of fibers with counts that go with each other: cancellation acts on both or on neither, requests are seen at both or at neither, and what
-- comes after cancellation, and after each other step, is matched
module _ (v : View) (Near : Counts → Counts → Type 0) (knows : (c c' : Counts) → Near c c' → Near (known_canceled c) (known_canceled c')) (t u : Term)
    (must : (c c' : Counts) → Near c c' → must_cancel c.known t ≡ must_cancel c'.known u) (opened : is_open t ≡ is_open u)
    (cancels : (c c' : Counts) → Near c c' → IsMatched v c (Unwinds (cleanup_terms t)) c' (Unwinds (cleanup_terms u)))
    (moves : (c c' d e : Counts) (l : Label) (q r : Progress) (ls : List Label) → Near c c' → Moves c t l d q → Leads d q ls e r
    → HasRun v c' (Runs u) (v.of (l ∷ ls))) where
  pub wholes_matched : (c c' : Counts) → Near c c' → IsMatched v c (Runs t) c' (Runs u)
  wholes_matched c c' near [] d q h = stays v
  wholes_matched c c' near (l ∷ ls) d q h = by_step h.2 refl h.3 (λ e e' n k. wholes_matched e e' n ls d q k)
    where
      by_step : {x : Term} {m : Progress} {e : Counts} {l : Label} → Step c (Runs x) l e m → x ≡ t → Leads e m ls d q
          → ((e e' : Counts) → Near e e' → Leads e (Runs t) ls d q → HasRun v e' (Runs u) (v.of ls)) → HasRun v c' (Runs u) (v.of (l ∷ ls))
      by_step {x} (cancelled m) at rest more =
          let m' : must_cancel c'.known u ≡ true = sym (must c c' near) ∙ ap (must_cancel c.known) (sym at) ∙ m in
          let go = subst (λ (y : Term). Leads c (Unwinds (cleanup_terms y)) ls d q) at rest in
          step_first v ls (cancelled m') (cancels c c' near ls d q go)
      by_step {x} (seen free open_here) at rest more =
          let f : must_cancel c'.known u ≡ false = sym (must c c' near) ∙ ap (must_cancel c.known) (sym at) ∙ free in
          let o : is_open u ≡ true = sym opened ∙ ap is_open (sym at) ∙ open_here in
          let go = subst (λ (y : Term). Leads (known_canceled c) (Runs y) ls d q) at rest in
          step_first v ls (seen f o) (more (known_canceled c) (known_canceled c') (knows c c' near) go)
      by_step {x} {e = e} {l = l} (row {t' = y} free r) at rest more =
          let free' = ap (must_cancel c.known) (sym at) ∙ free in
          moves c c' e d l (Runs y) q ls near (by_row free' (subst (λ (z : Term). Row (not (is_open z)) c z l e y) at r)) rest
      by_step {e = e} {l = l} (succeeds {n = n} free) at rest more =
          let free' = ap (must_cancel c.known) (sym at) ∙ free in
          moves c c' e d l (HasEnded (Succeeded n)) q ls near
          (by_end free' (sym at) (subst (λ (z : Term). Step c (Runs z) l e (HasEnded (Succeeded n))) at (succeeds free))) rest
      by_step {e = e} {l = l} (errs {n = n} free) at rest more =
          let free' = ap (must_cancel c.known) (sym at) ∙ free in
          moves c c' e d l (HasEnded (Errored n)) q ls near
          (by_end free' (sym at) (subst (λ (z : Term). Step c (Runs z) l e (HasEnded (Errored n))) at (errs free))) rest

module _ (v : View) where
  -- each such step of the first is matched by the second
  abbrev pub MatchesMoves : Term → Term → Type 0
  MatchesMoves t u =
      (c d e : Counts) (l : Label) (ls : List Label) (q r : Progress) → Moves c t l d q → Leads d q ls e r → HasRun v c (Runs u) (v.of (l ∷ ls))

  -- the same of one fiber, where what comes after cancellation is matched
  pub whole_matched : (t u : Term) → ((known : Bool) → must_cancel known t ≡ must_cancel known u) → is_open t ≡ is_open u
      → ((c : Counts) → IsMatched v c (Unwinds (cleanup_terms t)) c (Unwinds (cleanup_terms u))) → MatchesMoves t u
      → (c : Counts) → IsMatched v c (Runs t) c (Runs u)
  whole_matched t u must opened cancels moves c =
      wholes_matched v (λ (c c' : Counts). c ≡ c') (λ c c' e. ap known_canceled e) t u
      (λ c c' e. must c.known ∙ ap (λ (d : Counts). must_cancel d.known u) e) opened
      (λ c c' e. subst (λ (d : Counts). IsMatched v c (Unwinds (cleanup_terms t)) d (Unwinds (cleanup_terms u))) e (cancels c))
      (λ c c' d e l q r ls same m h. subst (λ (a : Counts). HasRun v a (Runs u) (v.of (l ∷ ls))) same (moves c d e l ls q r m h)) c c refl

  pub place_matched : (fs : List Context) {t u : Term} → IsSamePlace t u → MatchesMoves (placed fs t) (placed fs u) → (c : Counts)
      → IsMatched v c (Runs (placed fs t)) c (Runs (placed fs u))
  place_matched fs {t} {u} s moves =
      let whole = same_whole fs s in
      whole_matched (placed fs t) (placed fs u) (whole.must) (whole.open_is)
      (λ c. subst (λ (xs : List CleanupTerm). IsMatched v c (Unwinds (cleanup_terms (placed fs t))) c (Unwinds xs)) whole.clean (itself v)) moves
