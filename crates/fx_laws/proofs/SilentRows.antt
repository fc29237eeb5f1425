-- Terms of which the one step of the table is a silent one.
use Rattle.std.proofs.Common.{◌≡◌, ℕ, Bool, false, not, Option, List, ◌∷◌, refl, sym, ◌∙◌, ap, subst}
use Rattle.fx_term.specs.declared.node.Arg.TheVariants.{Number}
use Rattle.fx_term.specs.declared.done.Done.{Done}
use Rattle.fx_term.specs.declared.done.Done.TheVariants.{Val, Err}
use Rattle.fx_term.specs.Term.{Term, Pure, Raise, Let, Handle, OnCancel, Finished, Masked, Opened, put_named}
use Rattle.fx_model.specs.Path.{Context, LetIn, HandleIn, OnCancelIn, MaskedIn, OpenedIn, plug, is_open, must_cancel}
use Rattle.fx_model.specs.Row.{Counts, Label, Silent, Row}
use Rattle.fx_model.specs.Row as rule
use Rattle.fx_model.specs.Step.{Progress, Runs, Step, row}
use Rattle.fx_model.specs.Run.{Leads}
use Rattle.fx_model.proofs.Paths.{no_context, part_row, result_has_no_row}
use Rattle.fx_laws.specs.Everywhere.{placed}
use Rattle.fx_laws.proofs.Placed.{result_placed, row_placed, RowOfPlaced, moves_in, result_in, row_of_placed}
use Rattle.fx_laws.proofs.Views.{View, HasRun, IsMatched, itself, step_first, silent_first, of_hidden}
use Rattle.fx_laws.proofs.SamePlaces.{IsSamePlace, same_turned, same_whole, Moves, by_row, by_end, moves_free, moves_step, MatchesMoves, place_matched}

pub record LeadsSilently (t u : Term) : Type 0 where
  pub there : (k : Bool) (c : Counts) → Row k c t Silent c u
  pub only : (k : Bool) (c d : Counts) (l : Label) (w : Term) → Row k c t l d w → (l ≡ Silent) × (d ≡ c) × (w ≡ u)
  pub going : (w : Done) → t ≡ Finished w → ⊥

-- a result in a context has no row of its own
no_part : (f g : Context) (w : Done) {k : Bool} {c d : Counts} {l : Label} {u a a' : Term} → plug f (Finished w) ≡ plug g a → u ≡ plug g a'
    → Row k c a l d a' → ⊥
no_part f g w e h r = result_has_no_row (part_row f g (Finished w) e h r).1 refl

pub pure_leads : (n : ℕ) → LeadsSilently (Pure (Number n)) (Finished (Val n))
pure_leads n = record { there = λ k c. rule.pure; only = λ k c d l w r. one r; going = λ w e. cc }
  where
    one : {k : Bool} {c d : Counts} {l : Label} {w : Term} → Row k c (Pure (Number n)) l d w → (l ≡ Silent) × (d ≡ c) × (w ≡ Finished (Val n))
    one rule.pure = (refl, refl, refl)
    one (rule.inside f e g r) = absurd (no_context f _ _ refl e)

pub raise_leads : (n : ℕ) → LeadsSilently (Raise (Number n)) (Finished (Err n))
raise_leads n = record { there = λ k c. rule.raise; only = λ k c d l w r. one r; going = λ w e. cc }
  where
    one : {k : Bool} {c d : Counts} {l : Label} {w : Term} → Row k c (Raise (Number n)) l d w → (l ≡ Silent) × (d ≡ c) × (w ≡ Finished (Err n))
    one rule.raise = (refl, refl, refl)
    one (rule.inside f e g r) = absurd (no_context f _ _ refl e)

pub let_value_leads : (x : Option ℕ) (n : ℕ) (b : Term) → LeadsSilently (Let x (Finished (Val n)) b) (put_named x n b)
let_value_leads x n b = record { there = λ k c. rule.let_value; only = λ k c d l w r. one r; going = λ w e. cc }
  where
    one : {k : Bool} {c d : Counts} {l : Label} {w : Term} → Row k c (Let x (Finished (Val n)) b) l d w
        → (l ≡ Silent) × (d ≡ c) × (w ≡ put_named x n b)
    one rule.let_value = (refl, refl, refl)
    one (rule.inside f e g r) = absurd (no_part (LetIn x b) f (Val n) e g r)

pub let_error_leads : (x : Option ℕ) (n : ℕ) (b : Term) → LeadsSilently (Let x (Finished (Err n)) b) (Finished (Err n))
let_error_leads x n b = record { there = λ k c. rule.let_error; only = λ k c d l w r. one r; going = λ w e. cc }
  where
    one : {k : Bool} {c d : Counts} {l : Label} {w : Term} → Row k c (Let x (Finished (Err n)) b) l d w → (l ≡ Silent) × (d ≡ c) × (w ≡ Finished (Err n))
    one rule.let_error = (refl, refl, refl)
    one (rule.inside f e g r) = absurd (no_part (LetIn x b) f (Err n) e g r)

pub handle_value_leads : (x : Option ℕ) (n : ℕ) (b : Term) → LeadsSilently (Handle (Finished (Val n)) x b) (Finished (Val n))
handle_value_leads x n b = record { there = λ k c. rule.handle_value; only = λ k c d l w r. one r; going = λ w e. cc }
  where
    one : {k : Bool} {c d : Counts} {l : Label} {w : Term} → Row k c (Handle (Finished (Val n)) x b) l d w
        → (l ≡ Silent) × (d ≡ c) × (w ≡ Finished (Val n))
    one rule.handle_value = (refl, refl, refl)
    one (rule.inside f e g r) = absurd (no_part (HandleIn x b) f (Val n) e g r)

pub handle_error_leads : (x : Option ℕ) (n : ℕ) (b : Term) → LeadsSilently (Handle (Finished (Err n)) x b) (put_named x n b)
handle_error_leads x n b = record { there = λ k c. rule.handle_error; only = λ k c d l w r. one r; going = λ w e. cc }
  where
    one : {k : Bool} {c d : Counts} {l : Label} {w : Term} → Row k c (Handle (Finished (Err n)) x b) l d w
        → (l ≡ Silent) × (d ≡ c) × (w ≡ put_named x n b)
    one rule.handle_error = (refl, refl, refl)
    one (rule.inside f e g r) = absurd (no_part (HandleIn x b) f (Err n) e g r)

-- and so inside any contexts
pub leads_placed : (fs : List Context) {t u : Term} → LeadsSilently t u → LeadsSilently (placed fs t) (placed fs u)
leads_placed fs {t} {u} s =
    record {
      there = λ k c. row_placed fs (s.there k c);
      only = λ k c d l w r. one (row_of_placed fs t r) refl;
      going = λ w e. s.going w (result_placed fs t w (sym e)).1;
    }
  where
    one : {k : Bool} {c d : Counts} {l : Label} {x w : Term} → RowOfPlaced k c fs x l d w → x ≡ t → (l ≡ Silent) × (d ≡ c) × (w ≡ placed fs u)
    one {k} {c} {d} {l} (moves_in {w = y} r) at =
        let o = s.only k c d l y (subst (λ (z : Term). Row k c z l d y) at r) in (o.0, o.1, ap (placed fs) o.2)
    one (result_in {w = w}) at = absurd (s.going w (sym at))

pub silent_step : {c : Counts} {t u : Term} → LeadsSilently t u → must_cancel c.known t ≡ false → Step c (Runs t) Silent c (Runs u)
silent_step {c} {t} s free = row free (s.there (not (is_open t)) c)

pub oncancel_leads : (w : Done) (f : Term) → LeadsSilently (OnCancel (Finished w) f) (Finished w)
oncancel_leads w f = record { there = λ k c. rule.oncancel_ends; only = λ k c d l u r. one r; going = λ u e. cc }
  where
    one : {k : Bool} {c d : Counts} {l : Label} {u : Term} → Row k c (OnCancel (Finished w) f) l d u → (l ≡ Silent) × (d ≡ c) × (u ≡ Finished w)
    one rule.oncancel_ends = (refl, refl, refl)
    one (rule.inside g e h r) = absurd (no_part (OnCancelIn f) g w e h r)

pub masked_leads : (q : ℕ) (w : Done) → LeadsSilently (Masked q (Finished w)) (Finished w)
masked_leads q w = record { there = λ k c. rule.masked_ends; only = λ k c d l u r. one r; going = λ u e. cc }
  where
    one : {k : Bool} {c d : Counts} {l : Label} {u : Term} → Row k c (Masked q (Finished w)) l d u → (l ≡ Silent) × (d ≡ c) × (u ≡ Finished w)
    one rule.masked_ends = (refl, refl, refl)
    one (rule.inside g e h r) = absurd (no_part (MaskedIn q) g w e h r)

pub opened_leads : (q : ℕ) (w : Done) → LeadsSilently (Opened q (Finished w)) (Finished w)
opened_leads q w = record { there = λ k c. rule.opened_ends; only = λ k c d l u r. one r; going = λ u e. cc }
  where
    one : {k : Bool} {c d : Counts} {l : Label} {u : Term} → Row k c (Opened q (Finished w)) l d u → (l ≡ Silent) × (d ≡ c) × (u ≡ Finished w)
    one rule.opened_ends = (refl, refl, refl)
    one (rule.inside g e h r) = absurd (no_part (OpenedIn q) g w e h r)

-- two terms with silent steps to terms where the one matches the other
pub lead_moves : (v : View) {t u t' u' : Term} → LeadsSilently t u → LeadsSilently t' u'
    → ((known : Bool) → must_cancel known t ≡ must_cancel known t') → ((c : Counts) → IsMatched v c (Runs u) c (Runs u')) → MatchesMoves v t t'
lead_moves v {t} {u} {t'} {u'} s s' must next c d e l ls q r m after = one m refl after
  where
    one : {d : Counts} {x : Term} {l : Label} {q : Progress} → Moves c x l d q → x ≡ t → Leads d q ls e r → HasRun v c (Runs t') (v.of (l ∷ ls))
    one {d} {x} {l} (by_row {u = y} free k) at after =
        let o = s.only (not (is_open x)) c d l y (subst (λ (z : Term). Row (not (is_open x)) c z l d y) at k) in
        let go : Leads c (Runs u) ls e r = rw (sym o.1, sym o.2) after in
        let start = silent_step s' (sym (must c.known) ∙ ap (must_cancel c.known) (sym at) ∙ free) in
        rw (o.0, of_hidden v ls v.of_silent) (silent_first v start (next c ls e r go))
    one (by_end {w = w} free f k) at after = absurd (s.going w (sym at ∙ f))

module _ (v : View) (fs : List Context) where
  -- two places, each with a silent step, to places where the one matches the other
  pub leads_both : {t u t' u' : Term} → LeadsSilently t u → LeadsSilently t' u' → IsSamePlace t t'
      → ((c : Counts) → IsMatched v c (Runs (placed fs u)) c (Runs (placed fs u')))
      → (c : Counts) → IsMatched v c (Runs (placed fs t)) c (Runs (placed fs t'))
  leads_both s s' same next =
      place_matched v fs same (lead_moves v (leads_placed fs s) (leads_placed fs s') (same_whole fs same).must next)

  -- a silent step that stays at the same place
  pub lead_matched : {t u : Term} → LeadsSilently t u → IsSamePlace t u → (c : Counts) → IsMatched v c (Runs (placed fs t)) c (Runs (placed fs u))
  lead_matched {t} {u} s same = place_matched v fs same (λ c d e l ls q r m after. one c m refl e ls r after)
    where
      one : (c : Counts) {d : Counts} {x : Term} {l : Label} {q : Progress} → Moves c x l d q → x ≡ placed fs t → (e : Counts) (ls : List Label) (r : Progress)
          → Leads d q ls e r → HasRun v c (Runs (placed fs u)) (v.of (l ∷ ls))
      one c {d} {x} {l} (by_row {u = y} free k) at e ls r after =
          let o = (leads_placed fs s).only (not (is_open x)) c d l y (subst (λ (z : Term). Row (not (is_open x)) c z l d y) at k) in
          let go : Leads c (Runs (placed fs u)) ls e r = rw (sym o.1, sym o.2) after in
          rw (o.0, of_hidden v ls v.of_silent) (itself v ls e r go)
      one c (by_end {w = w} free f k) at e ls r after = absurd ((leads_placed fs s).going w (sym at ∙ f))

  pub lead_matches : {t u : Term} → LeadsSilently t u → IsSamePlace t u → (c : Counts) → IsMatched v c (Runs (placed fs u)) c (Runs (placed fs t))
  lead_matches {t} {u} s same =
      place_matched v fs (same_turned same)
      (λ c d e l ls q r m after. silent_first v (silent_step (leads_placed fs s) ((same_whole fs same).must c.known ∙ moves_free m)) (step_first v ls
      (moves_step m) (itself v ls e r after)))
