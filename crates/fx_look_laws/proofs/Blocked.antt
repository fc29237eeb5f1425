-- Fibers that are blocked: they have not ended, and cannot step.
use Rattle.std.proofs.Common.{◌≡◌, ℕ, Bool, true, false, not, List, [], ◌∷◌, refl, sym, ◌∙◌, ap, subst}
use Rattle.fx_term.specs.declared.done.Done.TheVariants.{Val, Err}
use Rattle.fx_term.specs.declared.outcome.Outcome.{Outcome}
use Rattle.fx_term.specs.Term.{Term, Mask, Masked, put}
use Rattle.fx_model.specs.Path.{Context, cleanup_terms, is_open, leaf, must_cancel}
use Rattle.fx_model.specs.Row.{Counts, Label, Silent, Row, known_canceled, one_more_mask}
use Rattle.fx_model.specs.Step.{Progress, Runs, Unwinds, HasEnded, Step, has_ended}
use Rattle.fx_model.specs.Step as step
use Rattle.fx_model.specs.Run.{Leads}
use Rattle.fx_model.specs.Outside.{Outside, can_step, leaf_can_step}
use Rattle.fx_laws.specs.Everywhere.{placed, InTerm}
use Rattle.fx_laws.proofs.Doomed.{must_forced}
use Rattle.fx_laws.proofs.Forced.{IsForced, unwound}
use Rattle.fx_laws.proofs.OnlyRows.{mask_row_placed}
use Rattle.fx_laws.proofs.Placed.{result_placed}
use Rattle.fx_laws.proofs.SilentRows.{LeadsSilently}
use Rattle.fx_script_laws.proofs.AtClosedPlaces.{can_go}

module _ (o : Outside) where
  -- it has not ended, and cannot step
  pub record IsBlockedAt (d : Counts) (q : Progress) : Type 0 where
    pub goes_on : has_ended q ≡ false
    pub unable : can_step o 0 d q ≡ false

  -- no run from here is blocked
  abbrev pub IsNeverBlocked : Counts → Progress → Type 0
  IsNeverBlocked c p = (ls : List Label) (d : Counts) (q : Progress) → Leads c p ls d q → IsBlockedAt d q → ⊥

  pub ended_never : (c : Counts) (v : Outcome) → IsNeverBlocked c (HasEnded v)
  ended_never c v [] d q h b = let e = ap has_ended h.1 in let g = b.goes_on in absurd cc
  ended_never c v (l ∷ ls) d q h b = no_step h.2
    where
      no_step : {l : Label} {e : Counts} {m : Progress} → Step c (HasEnded v) l e m → ⊥
      no_step s = elim s [ ]

  -- the one step that there is
  pub forced_never : {c e : Counts} {p m : Progress} {l : Label} → IsForced c p l e m → can_step o 0 c p ≡ true → IsNeverBlocked e m → IsNeverBlocked c p
  forced_never {c} {p = p} f can next [] d q h b = let k : can_step o 0 c p ≡ false = rw (h.0, h.1) at b.unable in absurd cc
  forced_never {e = e} {m = m} f can next (l ∷ ls) d q h b =
      let i = f.only l h.0 h.1 h.2 in let go : Leads e m ls d q = rw (sym i.1, sym i.2) h.3 in next ls d q go b

  pub unwinds_never : (c : Counts) → IsNeverBlocked c (Unwinds [])
  unwinds_never c = forced_never (unwound c) refl (ended_never c _)

  pub must_never : (c : Counts) (t : Term) → must_cancel c.known t ≡ true → cleanup_terms t ≡ [] → IsNeverBlocked c (Runs t)
  must_never c t must clean =
      forced_never (must_forced c t must) (rw must refl) (rw clean (unwinds_never c))

  -- a silent step at an open place with no clean-up round it
  pub open_never : (t u : Term) → LeadsSilently t u → cleanup_terms t ≡ [] → is_open t ≡ true → ((v : Outside) → leaf_can_step v (leaf t) ≡ true)
      → ((c : Counts) → IsNeverBlocked c (Runs u)) → (c : Counts) → IsNeverBlocked c (Runs t)
  open_never t u leads clean opened steps next c [] d q h b =
      let can = can_go (InTerm []) t steps c o 0 in let k : can_step o 0 c (Runs t) ≡ false = rw (h.0, h.1) at b.unable in absurd cc
  open_never t u leads clean opened steps next c (l ∷ ls) d q h b = by_step h.2 refl h h.3
    where
      by_step : {x : Term} {l : Label} {e : Counts} {m : Progress} → Step c (Runs x) l e m → x ≡ t → Leads c (Runs t) (l ∷ ls) d q → Leads e m ls d q → ⊥
      by_step {l = l} (step.cancelled must) is all rest = must_never c t (ap (must_cancel c.known) (sym is) ∙ must) clean (l ∷ ls) d q all b
      by_step (step.seen {t = x} free at) is all rest =
          let k = known_canceled c in
          let must : must_cancel true t ≡ true = rw opened refl in
          let go : Leads k (Runs t) ls d q = rw is at rest in
          must_never k t must clean ls d q go b
      by_step {x} {l} {e} (step.row {t' = y} free r) is all rest =
          let i = leads.only (not (is_open x)) c e l y (subst (λ (z : Term). Row (not (is_open x)) c z l e y) is r) in
          let go : Leads c (Runs u) ls d q = rw (sym i.1, sym i.2) rest in
          next c ls d q go b
      by_step (step.succeeds {n = n} free) is all rest = leads.going (Val n) (sym is)
      by_step (step.errs {n = n} free) is all rest = leads.going (Err n) (sym is)

  pub record IsPeeled (e : Counts) (m : Progress) (l : Label) (ls : List Label) (d : Counts) (q : Progress) : Type 0 where
    pub rest : List Label
    pub is : ls ≡ l ∷ rest
    pub run : Leads e m rest d q

  -- a blocked run makes the one step that there is
  pub peel : {c e : Counts} {p m : Progress} {l : Label} → IsForced c p l e m → can_step o 0 c p ≡ true → (ls : List Label) (d : Counts) (q : Progress)
      → Leads c p ls d q → IsBlockedAt d q → IsPeeled e m l ls d q
  peel {c} {p = p} f can [] d q h b = absurd (let k : can_step o 0 c p ≡ false = rw (h.0, h.1) at b.unable in cc)
  peel {e = e} {m = m} f can (l ∷ ls) d q h b =
      let i = f.only l h.0 h.1 h.2 in
      record { rest = ls; is = ap (λ (x : Label). x ∷ ls) i.0; run = let go : Leads e m ls d q = rw (sym i.1, sym i.2) h.3 in go }

  -- a blocked run of a fiber at a mask, with nothing round it that closes a place or is to be cleaned up, enters it
  pub enters : (fs : List Context) (p : ℕ) (t : Term) → is_open (placed fs (Mask p t)) ≡ true → must_cancel false (placed fs (Mask p t)) ≡ false
      → cleanup_terms (placed fs (Mask p t)) ≡ [] → (c : Counts) → c.known ≡ false → (ls : List Label) (d : Counts) (q : Progress)
      → Leads c (Runs (placed fs (Mask p t))) ls d q → IsBlockedAt d q
      → IsPeeled (one_more_mask c) (Runs (placed fs (Masked c.masks (put p c.masks t)))) Silent ls d q
  enters fs p t opened free clean c unknown [] d q h b =
      let whole = placed fs (Mask p t) in
      absurd (let can = can_go (InTerm fs) (Mask p t) (λ v. refl) c o 0 in
      let k : can_step o 0 c (Runs whole) ≡ false = rw (h.0, h.1) at b.unable in cc)
  enters fs p t opened free clean c unknown (l ∷ ls) d q h b = by_step h.2 refl h.3
    where
      by_step : {x : Term} {l : Label} {e : Counts} {m : Progress} → Step c (Runs x) l e m → x ≡ placed fs (Mask p t) → Leads e m ls d q
          → IsPeeled (one_more_mask c) (Runs (placed fs (Masked c.masks (put p c.masks t)))) Silent (l ∷ ls) d q
      by_step (step.cancelled must) is rest =
          absurd (let e = ap (must_cancel c.known) (sym is) ∙ must in let k = ap (λ (y : Bool). must_cancel y (placed fs (Mask p t))) unknown in cc)
      by_step (step.seen {t = x} early at) is rest =
          let whole = placed fs (Mask p t) in
          let go : Leads (known_canceled c) (Runs whole) ls d q = rw is at rest in
          let must : must_cancel true whole ≡ true = rw opened refl in
          absurd (must_never (known_canceled c) whole must clean ls d q go b)
      by_step {x} {l} {e} (step.row {t' = y} early r) is rest =
          let i = mask_row_placed fs p t (subst (λ (z : Term). Row (not (is_open x)) c z l e y) is r) in
          let go : Leads (one_more_mask c) (Runs (placed fs (Masked c.masks (put p c.masks t)))) ls d q = rw (sym i.1, sym i.2) rest in
          record { rest = ls; is = ap (λ (k : Label). k ∷ ls) i.0; run = go }
      by_step (step.succeeds early) is rest = absurd (let e = (result_placed fs (Mask p t) _ is).1 in cc)
      by_step (step.errs early) is rest = absurd (let e = (result_placed fs (Mask p t) _ is).1 in cc)
