-- Open places from which a fiber goes on to its cancellation, with no clean-up left.
use Rattle.std.proofs.Common.{◌≡◌, ℕ, Bool, true, false, not, None, [], ◌∷◌, refl, sym, ap, subst}
use Rattle.std.specs.Prelude.{◌&&◌, ◌||◌}
use Rattle.fx_term.specs.declared.node.Arg.TheVariants.{Number}
use Rattle.fx_term.specs.declared.done.Done.{Done}
use Rattle.fx_term.specs.declared.done.Done.TheVariants.{Val, Err}
use Rattle.fx_term.specs.declared.event.Event.TheVariants as event
use Rattle.fx_term.specs.Term.{Term, Pure, Canceled, Let, Handle, Finished}
use Rattle.fx_model.specs.Path.{LetIn, cleanup_terms, is_open, must_cancel}
use Rattle.fx_model.specs.Row.{Counts, Label, Shows, known_canceled, Row}
use Rattle.fx_model.specs.Step.{Progress, Runs, Unwinds, Step, cancelled, seen, row, succeeds, errs}
use Rattle.fx_model.specs.Run.{Leads}
use Rattle.fx_laws.proofs.Views.{HasRun, IsMatched, stays, silent_first}
use Rattle.fx_laws.proofs.SilentRows.{LeadsSilently, let_value_leads, handle_value_leads, handle_error_leads, pure_leads, leads_placed, silent_step}
use Rattle.fx_laws.proofs.Forced.{IsForced, AreMatched, hidden_right, unwound_both}
use Rattle.fx_laws.proofs.Looking.{looking}

-- where cancellation is the one rule
pub must_forced : (c : Counts) (t : Term) → must_cancel c.known t ≡ true → IsForced c (Runs t) (Shows event.Cancelled) c (Unwinds (cleanup_terms t))
must_forced c t must = record { step = cancelled must; only = λ m e r s. one s refl }
  where
    one : {m : Label} {e : Counts} {r : Progress} {x : Term} → Step c (Runs x) m e r → x ≡ t
        → (m ≡ Shows event.Cancelled) × (e ≡ c) × (r ≡ Unwinds (cleanup_terms t))
    one (cancelled m) at = (refl, refl, ap (λ (y : Term). Unwinds (cleanup_terms y)) at)
    one (seen free o) at = absurd (let p = ap (must_cancel c.known) at in cc)
    one (row free r) at = absurd (let p = ap (must_cancel c.known) at in cc)
    one (succeeds free) at = absurd (let p = ap (must_cancel c.known) at in cc)
    one (errs free) at = absurd (let p = ap (must_cancel c.known) at in cc)

-- an open place with no clean-up round it, in any fiber, looks as one that has unwound
abbrev pub IsDoomed : Term → Type 0
IsDoomed t = (d c : Counts) → AreMatched looking d (Unwinds []) c (Runs t)

pub must_doomed : (t : Term) (c d : Counts) → cleanup_terms t ≡ [] → must_cancel c.known t ≡ true → AreMatched looking d (Unwinds []) c (Runs t)
must_doomed t c d clean must = hidden_right looking refl (must_forced c t must) (rw clean (unwound_both looking d c))

module _ {t u : Term} (s : LeadsSilently t u) (opened : is_open t ≡ true) (clean : cleanup_terms t ≡ []) (next : IsDoomed u) where
  known_must : (c : Counts) → must_cancel (known_canceled c).known t ≡ true
  known_must c = let o = opened in rw o refl

  to_doom : (d c : Counts) → must_cancel c.known t ≡ false → IsMatched looking d (Unwinds []) c (Runs t)
  to_doom d c free ls e r h = silent_first looking (silent_step s free) ((next d c).0 ls e r h)

  from_doom : (d c : Counts) → must_cancel c.known t ≡ false → IsMatched looking c (Runs t) d (Unwinds [])
  from_doom d c free [] e r h = stays looking
  from_doom d c free (l ∷ ls) e r h = by_step h.2 refl h.3
    where
      by_step : {x : Term} {m : Progress} {a : Counts} {l : Label} → Step c (Runs x) l a m → x ≡ t → Leads a m ls e r
          → HasRun looking d (Unwinds []) (looking.of (l ∷ ls))
      by_step (cancelled must) at rest = let f = ap (must_cancel c.known) at in absurd cc
      by_step (seen f o) at rest =
          let go = subst (λ (y : Term). Leads (known_canceled c) (Runs y) ls e r) at rest in
          (must_doomed t (known_canceled c) d clean (known_must c)).1 ls e r go
      by_step {x} {a = a} {l = l} (row {t' = y} f k) at rest =
          let o = s.only (not (is_open x)) c a l y (subst (λ (z : Term). Row (not (is_open x)) c z l a y) at k) in
          let go : Leads c (Runs u) ls e r = rw (sym o.1, sym o.2) rest in
          rw o.0 ((next d c).1 ls e r go)
      by_step (succeeds {n = n} f) at rest = absurd (s.going (Val n) (sym at))
      by_step (errs {n = n} f) at rest = absurd (s.going (Err n) (sym at))

  by_must : (d c : Counts) (b : Bool) → must_cancel c.known t ≡ b → AreMatched looking d (Unwinds []) c (Runs t)
  by_must d c true e = must_doomed t c d clean e
  by_must d c false e = (to_doom d c e, from_doom d c e)

  pub leads_to_doom : IsDoomed t
  leads_to_doom d c = by_must d c (must_cancel c.known t) refl

-- `canceled`, forced after a result
canceled_doomed : IsDoomed Canceled
canceled_doomed d c = must_doomed Canceled c d refl (some c.known)
  where
    some : (b : Bool) → (true && (b || true)) ≡ true
    some true = refl
    some false = refl

value_doomed : (n : ℕ) → IsDoomed (Let None (Finished (Val n)) Canceled)
value_doomed n = leads_to_doom (let_value_leads None n Canceled) refl refl canceled_doomed

pub forced_doomed : (w : Done) → IsDoomed (Let None (Handle (Finished w) None (Pure (Number 0))) Canceled)
forced_doomed (Val n) = leads_to_doom (leads_placed (LetIn None Canceled ∷ []) (handle_value_leads None n (Pure (Number 0)))) refl refl (value_doomed n)
forced_doomed (Err n) =
    leads_to_doom (leads_placed (LetIn None Canceled ∷ []) (handle_error_leads None n (Pure (Number 0)))) refl refl
    (leads_to_doom (leads_placed (LetIn None Canceled ∷ []) (pure_leads 0)) refl refl (value_doomed 0))

-- a result of a fiber that is known to be canceled
pub known_doomed : (w : Done) (d c : Counts) → c.known ≡ true → AreMatched looking d (Unwinds []) c (Runs (Finished w))
known_doomed w d c known = must_doomed (Finished w) c d refl (rw known refl)
