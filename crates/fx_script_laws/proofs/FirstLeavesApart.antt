-- A request that is seen before a step, and not at the leaf that the step is put before, or there with more clean-ups.
use Rattle.std.proofs.Common.{◌≡◌, ℕ, Bool, true, false, None, List, [], ◌∷◌, refl, sym, ◌∙◌, ap, subst}
use Rattle.fx_term.specs.declared.node.Arg.TheVariants.{Number}
use Rattle.fx_term.specs.declared.done.Done.TheVariants.{Val}
use Rattle.fx_term.specs.declared.outcome.Outcome.TheVariants as outcome
use Rattle.fx_term.specs.declared.event.Event.TheVariants as event
use Rattle.fx_term.specs.Term.{Term, Pure, Canceled, Never, Cede, Let, OnCancel, Bracket, Finished}
use Rattle.fx_model.specs.Path.{Context, OnCancelIn, AcquireIn, cleanup_terms, is_open, must_cancel}
use Rattle.fx_model.specs.Row.{Counts, Label, Silent, Shows, Row, known_canceled}
use Rattle.fx_model.specs.Row as rule
use Rattle.fx_model.specs.Step.{Progress, Runs, Unwinds, HasEnded, Step}
use Rattle.fx_model.specs.Step as step
use Rattle.fx_model.specs.Run.{Leads, shown}
use Rattle.fx_model.proofs.Paths.{no_context}
use Rattle.fx_laws.specs.Everywhere.{placed, InTerm, CanShowFrom}
use Rattle.fx_laws.proofs.Forced.{IsOnlyRow, cleans_only, begins_finalizer}
use Rattle.fx_laws.proofs.Doomed.{must_forced}
use Rattle.fx_laws.proofs.ToldApart.{c, puts, put_one, after}
use Rattle.fx_script_laws.specs.Interchange.{AreInterchangeable}
use Rattle.fx_script_laws.proofs.EndsInScripts.{none_placed, never_rests}

abbrev k : Counts
k = known_canceled c

abbrev sees_and_ends : List Label
sees_and_ends = Shows event.Seen ∷ Shows event.Cancelled ∷ Shows (event.Ended outcome.Canceled) ∷ []

-- a finalizer's only row
only_puts : (d : Counts) → IsOnlyRow d puts put_one d (Finished (Val 0))
only_puts d = record { there = rule.offered; only = λ m e w r. one r; going = λ w e. cc }
  where
    one : {m : Label} {e : Counts} {w : Term} → Row true d puts m e w → (m ≡ put_one) × (e ≡ d) × (w ≡ Finished (Val 0))
    one rule.offered = (refl, refl, refl)
    one (rule.inside f e g r) = absurd (no_context f _ _ refl e)

-- a term that can be canceled at once, if it is requested, with no clean-up
module _ (t : Term) (free : must_cancel false t ≡ false) (opened : is_open t ≡ true) (must : must_cancel true t ≡ true) (clean : cleanup_terms t ≡ []) where
  sees : CanShowFrom c (Runs t) (Shows event.Seen ∷ [])
  sees =
      record { labels = Shows event.Seen ∷ []; counts = k; progress = Runs t; run = (k, Runs t, step.seen free opened, (refl, refl)); shown_is = refl }

  is_canceled : CanShowFrom c (Runs t) sees_and_ends
  is_canceled =
      let unwinds : Leads k (Unwinds (cleanup_terms t)) (Shows (event.Ended outcome.Canceled) ∷ []) k (HasEnded outcome.Canceled) =
      rw clean (k, HasEnded outcome.Canceled, step.unwound, (refl, refl)) in
      record {
        labels = sees_and_ends;
        counts = k;
        progress = HasEnded outcome.Canceled;
        run = (k, Runs t, step.seen free opened, (k, Unwinds (cleanup_terms t), step.cancelled must, unwinds));
        shown_is = refl;
      }

-- who waits for good, inside any contexts, makes no row
never_rows : (fs : List Context) {b : Bool} {d e : Counts} {l : Label} {x y : Term} → Row b d x l e y → x ≡ placed fs Never → ⊥
never_rows fs {b} {d} {e} {l} {x} {y} r at =
    (none_placed fs Never never_rests).none b d e l y (subst (λ (z : Term). Row b d z l e y) at r)

-- where a finalizer stands round it, it runs
abbrev waits_with_finalizer : Term
waits_with_finalizer = OnCancel Never puts

finalizer_runs : (ls : List Label) (d : Counts) (q : Progress) → Leads c (Runs waits_with_finalizer) ls d q → shown ls ≡ sees_and_ends → ⊥
finalizer_runs [] d q h is = absurd cc
finalizer_runs (l ∷ ls) d q h is = by_step h.2 refl h.3 is
  where
    after_look : (ms : List Label) → Leads k (Runs waits_with_finalizer) ms d q → shown (Shows event.Seen ∷ ms) ≡ sees_and_ends → ⊥
    after_look [] g is = absurd cc
    after_look (m ∷ []) g is =
        let i = after d q [] (must_forced k waits_with_finalizer refl) g in
        let f : shown (Shows event.Seen ∷ Shows event.Cancelled ∷ []) ≡ sees_and_ends =
        ap (λ (y : Label). shown (Shows event.Seen ∷ y ∷ [])) (sym i.0) ∙ is in absurd cc
    after_look (m ∷ n ∷ []) g is =
        let i = after d q (n ∷ []) (must_forced k waits_with_finalizer refl) g in
        let j = after d q [] (begins_finalizer k puts []) i.1 in
        let f : shown (Shows event.Seen ∷ Shows event.Cancelled ∷ Silent ∷ []) ≡ sees_and_ends =
        ap (λ (y : Label). shown (Shows event.Seen ∷ Shows event.Cancelled ∷ y ∷ [])) (sym j.0)
        ∙ ap (λ (y : Label). shown (Shows event.Seen ∷ y ∷ n ∷ [])) (sym i.0) ∙ is in absurd cc
    after_look (m ∷ n ∷ o ∷ ms) g is =
        let i = after d q (n ∷ o ∷ ms) (must_forced k waits_with_finalizer refl) g in
        let j = after d q (o ∷ ms) (begins_finalizer k puts []) i.1 in
        let p = after d q ms (cleans_only None [] (only_puts k)) j.1 in
        let f : shown (Shows event.Seen ∷ Shows event.Cancelled ∷ Silent ∷ put_one ∷ ms) ≡ sees_and_ends =
        ap (λ (y : Label). shown (Shows event.Seen ∷ Shows event.Cancelled ∷ Silent ∷ y ∷ ms)) (sym p.0)
        ∙ ap (λ (y : Label). shown (Shows event.Seen ∷ Shows event.Cancelled ∷ y ∷ o ∷ ms)) (sym j.0)
        ∙ ap (λ (y : Label). shown (Shows event.Seen ∷ y ∷ n ∷ o ∷ ms)) (sym i.0) ∙ is in absurd cc

    by_step : {x : Term} {l : Label} {a : Counts} {m : Progress} → Step c (Runs x) l a m → x ≡ waits_with_finalizer → Leads a m ls d q
        → shown (l ∷ ls) ≡ sees_and_ends → ⊥
    by_step (step.cancelled must) at rest is = absurd (let e = ap (must_cancel false) at in cc)
    by_step (step.seen free opened) at rest is = after_look ls (rw at at rest) is
    by_step (step.row free r) at rest is = never_rows (OnCancelIn puts ∷ []) r at
    by_step (step.succeeds free) at rest is = cc
    by_step (step.errs free) at rest is = cc

-- in the first part of a bracket no request is seen
abbrev waits_in_bracket : Term
waits_in_bracket = Bracket None Never (Pure (Number 0)) (Pure (Number 0))

nothing_is_seen : (ls : List Label) (d : Counts) (q : Progress) → Leads c (Runs waits_in_bracket) ls d q → shown ls ≡ Shows event.Seen ∷ [] → ⊥
nothing_is_seen [] d q h is = absurd cc
nothing_is_seen (l ∷ ls) d q h is = by_step h.2 refl
  where
    by_step : {x : Term} {l : Label} {a : Counts} {m : Progress} → Step c (Runs x) l a m → x ≡ waits_in_bracket → ⊥
    by_step (step.cancelled must) at = absurd (let e = ap (must_cancel false) at in cc)
    by_step (step.seen free opened) at = absurd (let e = ap is_open at in cc)
    by_step (step.row free r) at = never_rows (AcquireIn None (Pure (Number 0)) (Pure (Number 0)) ∷ []) r at
    by_step (step.succeeds free) at = cc
    by_step (step.errs free) at = cc

-- who cancels itself does so before it looks
canceled_first : (ls : List Label) (d : Counts) (q : Progress) → Leads c (Runs Canceled) ls d q → shown ls ≡ Shows event.Seen ∷ [] → ⊥
canceled_first [] d q h is = absurd cc
canceled_first (l ∷ ls) d q h is =
    let i = after d q ls (must_forced c Canceled refl) h in
    let f : shown (Shows event.Cancelled ∷ ls) ≡ Shows event.Seen ∷ [] = ap (λ (y : Label). shown (y ∷ ls)) (sym i.0) ∙ is in absurd cc

module _ (own : ℕ → Bool) where
  pub waits_in_a_finalizer : AreInterchangeable own (Let None Cede waits_with_finalizer) waits_with_finalizer → ⊥
  waits_in_a_finalizer same =
      let left = is_canceled (Let None Cede waits_with_finalizer) refl refl refl refl in
      let right = (same.shows.shows [] tt (InTerm []) c sees_and_ends).0 left in
      finalizer_runs right.labels right.counts right.progress right.run right.shown_is

  pub waits_in_an_acquire_part : AreInterchangeable own (Let None Cede waits_in_bracket) waits_in_bracket → ⊥
  waits_in_an_acquire_part same =
      let left = sees (Let None Cede waits_in_bracket) refl refl refl refl in
      let right = (same.shows.shows [] tt (InTerm []) c (Shows event.Seen ∷ [])).0 left in
      nothing_is_seen right.labels right.counts right.progress right.run right.shown_is

  pub cancels_itself : AreInterchangeable own (Let None Cede Canceled) Canceled → ⊥
  cancels_itself same =
      let left = sees (Let None Cede Canceled) refl refl refl refl in
      let right = (same.shows.shows [] tt (InTerm []) c (Shows event.Seen ∷ [])).0 left in
      canceled_first right.labels right.counts right.progress right.run right.shown_is
