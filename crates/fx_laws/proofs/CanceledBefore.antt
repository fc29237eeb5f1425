-- A term that comes silently to another one, or is canceled before: then it shows what `never` shows there.
use Rattle.std.proofs.Common.{◌≡◌, ◌⊎◌, inl, inr, ℕ, Bool, true, false, not, List, [], ◌∷◌, refl, sym, ◌∙◌, ap, subst}
use Rattle.fx_term.specs.declared.done.Done.TheVariants.{Val, Err}
use Rattle.fx_term.specs.declared.node.Arg.TheVariants.{Number}
use Rattle.fx_term.specs.Term.{Term, Pure, Raise, Never}
use Rattle.fx_model.specs.Path.{Context, CleanupTerm, cleanup_terms, is_open, must_cancel}
use Rattle.fx_model.specs.Row.{Counts, Label, known_canceled, Row}
use Rattle.fx_model.specs.Step.{Progress, Runs, Unwinds, must_cancel_at, Step, cancelled, seen, row, succeeds, errs}
use Rattle.fx_model.specs.Run.{Leads, shown}
use Rattle.fx_model.specs.MaskLaws.{forced_after}
use Rattle.fx_laws.specs.Everywhere.{placed, Place, InTerm, InCleanup, come_to, CanShowFrom, ShowsItOrIsCanceledBefore}
use Rattle.fx_laws.proofs.Views.{HasRun, itself, stays, step_first}
use Rattle.fx_laws.proofs.SamePlaces.{IsSamePlace, same_turned, same_whole}
use Rattle.fx_laws.proofs.SilentRows.{LeadsSilently, leads_placed}
use Rattle.fx_laws.proofs.Forced.{AreMatched, forced_both}
use Rattle.fx_laws.proofs.Doomed.{must_forced}
use Rattle.fx_laws.proofs.NeverLaws.{never_matches}
use Rattle.fx_laws.proofs.SameHere.{AreSameHere}
use Rattle.fx_laws.proofs.Showing.{showing, shows_too}
use Rattle.fx_laws.proofs.ForcingLaws.{drops, same_in_cleanup, comes_to_value, comes_to_zero, must_too, first_shows_all}

module _ (fs : List Context) (t u : Term) (s : LeadsSilently t u) (same : IsSamePlace t Never) where
  -- cancellation does the same at both
  canceled_both : (c : Counts) → must_cancel c.known (placed fs t) ≡ true → AreMatched showing c (Runs (placed fs t)) c (Runs (placed fs Never))
  canceled_both c must =
      let whole = same_whole fs same in
      let must' : must_cancel c.known (placed fs Never) ≡ true = sym (whole.must c.known) ∙ must in
      forced_both showing refl (must_forced c (placed fs t) must) (must_forced c (placed fs Never) must')
      (subst (λ (xs : List CleanupTerm). AreMatched showing c (Unwinds (cleanup_terms (placed fs t))) c (Unwinds xs)) whole.clean
      (itself showing, itself showing))

  abbrev EitherShows : Counts → List Label → Type 0
  EitherShows c ls = HasRun showing c (Runs (placed fs Never)) ls ⊎ HasRun showing c (Runs (placed fs u)) ls

  either_shows : (c : Counts) → must_cancel c.known (placed fs t) ≡ false → (ls : List Label) (d : Counts) (q : Progress)
      → Leads c (Runs (placed fs t)) ls d q → EitherShows c (shown ls)
  either_shows c free [] d q h = inl (stays showing)
  either_shows c free (l ∷ ls) d q h = by_step h.2 refl h.3
    where
      by_step : {x : Term} {m : Progress} {e : Counts} {l : Label} → Step c (Runs x) l e m → x ≡ placed fs t → Leads e m ls d q
          → EitherShows c (shown (l ∷ ls))
      by_step (cancelled m) at after = let f = ap (must_cancel c.known) at in absurd cc
      by_step (seen f o) at after =
          let whole = same_whole fs same in
          let opened : is_open (placed fs t) ≡ true = ap is_open (sym at) ∙ o in
          let must : must_cancel true (placed fs t) ≡ true = let p = opened in rw p refl in
          let go = subst (λ (y : Term). Leads (known_canceled c) (Runs y) ls d q) at after in
          let rest = (canceled_both (known_canceled c) must).0 ls d q go in
          inl (step_first showing ls (seen (sym (whole.must c.known) ∙ free) (sym whole.open_is ∙ opened)) rest)
      by_step {x} {e = e} {l = l} (row {t' = y} f r) at after =
          let o = (leads_placed fs s).only (not (is_open x)) c e l y (subst (λ (z : Term). Row (not (is_open x)) c z l e y) at r) in
          let go : Leads c (Runs (placed fs u)) ls d q = rw (sym o.1, sym o.2) after in
          rw o.0 (inr (itself showing ls d q go))
      by_step (succeeds {n = n} f) at after = absurd ((leads_placed fs s).going (Val n) (sym at))
      by_step (errs {n = n} f) at after = absurd ((leads_placed fs s).going (Err n) (sym at))

as_wanted : {c : Counts} {p : Progress} {ls ms : List Label} → ls ≡ ms → HasRun showing c p ls → CanShowFrom c p ms
as_wanted e h = record { labels = h.labels; counts = h.counts; progress = h.progress; run = h.leads; shown_is = h.seen_is ∙ e }

-- a term that comes to one which makes the silent step, and stays at one place up to there
module _ {first before t : Term} (leads : LeadsSilently before t) (as_never : IsSamePlace before Never) (same : IsSamePlace first before)
    (comes : (place : Place) → AreSameHere showing place first before) where
  abbrev OneShows : Place → Counts → List Label → Type 0
  OneShows place c ls =
      CanShowFrom c (come_to place Never) ls
      ⊎ ((must_cancel_at c.known (come_to place first) ≡ false) × CanShowFrom c (come_to place t) ls)

  in_term : (fs : List Context) (c : Counts) (ls : List Label) (b : Bool) → must_cancel c.known (placed fs before) ≡ b
      → CanShowFrom c (Runs (placed fs before)) ls → OneShows (InTerm fs) c ls
  in_term fs c ls true must h = inl (shows_too (canceled_both fs before t leads as_never c must).0 h)
  in_term fs c ls false free h =
      by_run (either_shows fs before t leads as_never c free h.labels h.counts h.progress h.run)
    where
      by_run : EitherShows fs before t leads as_never c (shown h.labels) → OneShows (InTerm fs) c ls
      by_run (inl k) = inl (as_wanted h.shown_is k)
      by_run (inr k) = inr (must_too leads same comes (InTerm fs) c.known ∙ free, as_wanted h.shown_is k)

  to_one : (place : Place) (c : Counts) (ls : List Label) → CanShowFrom c (come_to place before) ls → OneShows place c ls
  to_one (InTerm fs) c ls h = in_term fs c ls (must_cancel c.known (placed fs before)) refl h
  to_one (InCleanup k rest fs) c ls h = inr (refl, shows_too (same_in_cleanup leads k rest fs c).0 h)

  from_one : (place : Place) (c : Counts) (ls : List Label) → OneShows place c ls → CanShowFrom c (come_to place first) ls
  from_one place c ls (inl h) = shows_too (comes place c).1 (shows_too (never_matches showing place (same_turned as_never) c) h)
  from_one place c ls (inr h) = first_shows_all leads same comes place c ls h.0 h.1

  pub first_exactly : ShowsItOrIsCanceledBefore first t
  first_exactly place c ls = (λ h. to_one place c ls (shows_too (comes place c).0 h), from_one place c ls)

pub dropped_value_exactly : (n : ℕ) (t : Term) → ShowsItOrIsCanceledBefore (forced_after (Pure (Number n)) t) t
dropped_value_exactly n t =
    first_exactly (drops t n) (record { closed = λ outer. refl; leaf_is = refl; clean = refl })
    (record { closed = λ outer. refl; leaf_is = refl; clean = refl }) (comes_to_value n t)

pub dropped_error_exactly : (n : ℕ) (t : Term) → ShowsItOrIsCanceledBefore (forced_after (Raise (Number n)) t) t
dropped_error_exactly n t =
    first_exactly (drops t 0) (record { closed = λ outer. refl; leaf_is = refl; clean = refl })
    (record { closed = λ outer. refl; leaf_is = refl; clean = refl }) (comes_to_zero n t)
