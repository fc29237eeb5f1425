-- A request that is seen before a first step, and a fiber that masks what another one is canceled at.
use Rattle.std.proofs.Common.{◌≡◌, true, false, None, List, [], ◌∷◌, refl, sym, ◌∙◌, ap, subst}
use Rattle.fx_term.specs.declared.node.Arg.TheVariants.{Number, Slot}
use Rattle.fx_term.specs.declared.done.Done.TheVariants.{Val}
use Rattle.fx_term.specs.declared.outcome.Outcome.TheVariants as outcome
use Rattle.fx_term.specs.declared.event.Event.TheVariants as event
use Rattle.fx_term.specs.Term.{Term, Pure, Raise, Canceled, Never, Cede, Let, Handle, Mask, Poll, OnCancel, Offer, Finished, Masked}
use Rattle.fx_model.specs.Path.{LetIn, MaskedIn, CleanupTerm, Finalizer, cleanup_terms, is_open, must_cancel}
use Rattle.fx_model.specs.Row.{Counts, Label, Silent, Shows, Row, known_canceled, one_more_mask}
use Rattle.fx_model.specs.Row as rule
use Rattle.fx_model.specs.Step.{Progress, Runs, Unwinds, HasEnded, Step, seen, cancelled, unwound, row}
use Rattle.fx_model.specs.Run.{Leads, shown}
use Rattle.fx_model.specs.MaskLaws.{ShowTheSame, forced_after}
use Rattle.fx_model.proofs.Paths.{no_context}
use Rattle.fx_laws.specs.Others.{visible, OthersCanSee, LookTheSame}
use Rattle.fx_laws.proofs.Placed.{row_placed}
use Rattle.fx_laws.proofs.Forced.{IsOnlyRow, cleans_only, begins_finalizer}
use Rattle.fx_laws.proofs.MaskStarts.{unwound_sees}
use Rattle.fx_laws.proofs.Doomed.{must_forced}
use Rattle.fx_laws.proofs.ToldApart.{c, puts, put_one, after, end_alone_is_no_put}

abbrev the_end : Label
the_end = Shows (event.Ended outcome.Canceled)

-- a term at an open place with no clean-up round it can be canceled before its first step
canceled_alone : (t : Term) → must_cancel false t ≡ false → is_open t ≡ true → must_cancel true t ≡ true → cleanup_terms t ≡ []
    → OthersCanSee (record { term = t; next = 1; end = 1 }) (the_end ∷ [])
canceled_alone t free opened must clean =
    let k = known_canceled c in
    let unwinds : Leads k (Unwinds (cleanup_terms t)) (the_end ∷ []) k (HasEnded outcome.Canceled) =
    rw clean (k, HasEnded outcome.Canceled, unwound, (refl, refl)) in
    record {
      labels = Shows event.Seen ∷ Shows event.Cancelled ∷ the_end ∷ [];
      counts = k;
      progress = HasEnded outcome.Canceled;
      run = (k, Runs t, seen free opened, (k, Unwinds (cleanup_terms t), cancelled must, unwinds));
      visible_is = refl;
    }

only_puts : (d : Counts) → IsOnlyRow d puts put_one d (Finished (Val 0))
only_puts d = record { there = rule.offered; only = λ m e w r. one r; going = λ w e. cc }
  where
    one : {m : Label} {e : Counts} {w : Term} → Row true d puts m e w → (m ≡ put_one) × (e ≡ d) × (w ≡ Finished (Val 0))
    one rule.offered = (refl, refl, refl)
    one (rule.inside f e g r) = absurd (no_context f _ _ refl e)

-- one that is canceled at once, and first puts, does not end with nothing seen before
cleanup_is_first : (xs : List CleanupTerm) (ls : List Label) (d : Counts) (q : Progress) → Leads c (Unwinds (Finalizer puts ∷ xs)) ls d q
    → visible ls ≡ the_end ∷ [] → ⊥
cleanup_is_first xs [] d q h e = absurd cc
cleanup_is_first xs (l ∷ []) d q h e =
    let k = after d q [] (begins_finalizer c puts xs) h in
    let e' : visible (Silent ∷ []) ≡ the_end ∷ [] = ap (λ (m : Label). visible (m ∷ [])) (sym k.0) ∙ e in absurd cc
cleanup_is_first xs (l ∷ m ∷ ls) d q h e =
    let k = after d q (m ∷ ls) (begins_finalizer c puts xs) h in
    let j = after d q ls (cleans_only None xs (only_puts c)) k.1 in
    let e' : visible (Silent ∷ put_one ∷ ls) ≡ the_end ∷ [] =
    ap (λ (n : Label). visible (Silent ∷ n ∷ ls)) (sym j.0) ∙ ap (λ (n : Label). visible (n ∷ m ∷ ls)) (sym k.0) ∙ e in absurd cc

puts_before_its_end : (t : Term) (xs : List CleanupTerm) → must_cancel false t ≡ true → cleanup_terms t ≡ Finalizer puts ∷ xs
    → OthersCanSee (record { term = t; next = 1; end = 1 }) (the_end ∷ []) → ⊥
puts_before_its_end t xs must clean h = by_run h.labels h.counts h.progress h.run h.visible_is
  where
    by_run : (ls : List Label) (d : Counts) (q : Progress) → Leads c (Runs t) ls d q → visible ls ≡ the_end ∷ [] → ⊥
    by_run [] d q k e = absurd cc
    by_run (l ∷ ls) d q k e =
        let o = after d q ls (must_forced c t must) k in
        let go : Leads c (Unwinds (Finalizer puts ∷ xs)) ls d q = subst (λ (ys : List CleanupTerm). Leads c (Unwinds ys) ls d q) clean o.1 in
        cleanup_is_first xs ls d q go (ap (λ (m : Label). visible (m ∷ ls)) (sym o.0) ∙ e)

abbrev with_finalizer : Term
with_finalizer = OnCancel Canceled puts

-- a first term which makes a step of its own before the second
told_by_request : (t : Term) → must_cancel false t ≡ false → is_open t ≡ true → must_cancel true t ≡ true → cleanup_terms t ≡ []
    → LookTheSame t with_finalizer → ⊥
told_by_request t free opened must clean same =
    puts_before_its_end with_finalizer [] refl refl ((same 1 1 (the_end ∷ [])).0 (canceled_alone t free opened must clean))

pub forced_is_told : LookTheSame (forced_after (Pure (Number 0)) (OnCancel Canceled (Offer 0 (Number 1)))) (OnCancel Canceled (Offer 0 (Number 1))) → ⊥
forced_is_told = told_by_request (forced_after (Pure (Number 0)) with_finalizer) refl refl refl refl

pub forced_error_is_told : LookTheSame (forced_after (Raise (Number 0)) (OnCancel Canceled (Offer 0 (Number 1)))) (OnCancel Canceled (Offer 0 (Number 1))) → ⊥
forced_error_is_told = told_by_request (forced_after (Raise (Number 0)) with_finalizer) refl refl refl refl

pub bound_is_told : LookTheSame (Let None (Pure (Number 0)) (OnCancel Canceled (Offer 0 (Number 1)))) (OnCancel Canceled (Offer 0 (Number 1))) → ⊥
bound_is_told = told_by_request (Let None (Pure (Number 0)) with_finalizer) refl refl refl refl

pub ceded_is_told : LookTheSame (Let None Cede (OnCancel Canceled (Offer 0 (Number 1)))) (OnCancel Canceled (Offer 0 (Number 1))) → ⊥
ceded_is_told = told_by_request (Let None Cede with_finalizer) refl refl refl refl

pub polled_is_told : LookTheSame (Mask 0 (Poll (Slot 0) (OnCancel Canceled (Offer 0 (Number 1))))) (OnCancel Canceled (Offer 0 (Number 1))) → ⊥
polled_is_told = told_by_request (Mask 0 (Poll (Slot 0) with_finalizer)) refl refl refl refl

pub handled_is_told : LookTheSame (Handle (Raise (Number 0)) None (OnCancel Canceled (Offer 0 (Number 1)))) (OnCancel Canceled (Offer 0 (Number 1))) → ⊥
handled_is_told = told_by_request (Handle (Raise (Number 0)) None with_finalizer) refl refl refl refl

pub order_is_told : LookTheSame (OnCancel (OnCancel Canceled (Offer 0 (Number 1))) (Pure (Number 0)))
    (forced_after (Mask 0 (forced_after (Offer 0 (Number 1)) (Pure (Number 0)))) Canceled) → ⊥
order_is_told same =
    let late = forced_after (Mask 0 (forced_after puts (Pure (Number 0)))) Canceled in
    puts_before_its_end (OnCancel with_finalizer (Pure (Number 0))) (Finalizer (Pure (Number 0)) ∷ []) refl refl
    ((same 1 1 (the_end ∷ [])).1 (canceled_alone late refl refl refl refl))

-- in a mask a fiber goes on that is canceled elsewhere
goes_nowhere : (t : Term) → must_cancel false t ≡ true → cleanup_terms t ≡ [] → OthersCanSee (record { term = t; next = 1; end = 1 }) (put_one ∷ []) → ⊥
goes_nowhere t must clean h = by_run h.labels h.counts h.progress h.run h.visible_is
  where
    by_run : (ls : List Label) (d : Counts) (q : Progress) → Leads c (Runs t) ls d q → visible ls ≡ put_one ∷ [] → ⊥
    by_run [] d q k e = absurd cc
    by_run (l ∷ ls) d q k e =
        let o = after d q ls (must_forced c t must) k in
        let go : Leads c (Unwinds []) ls d q = subst (λ (ys : List CleanupTerm). Leads c (Unwinds ys) ls d q) clean o.1 in
        end_alone_is_no_put (unwound_sees c d q ls go) (ap (λ (m : Label). visible (m ∷ ls)) (sym o.0) ∙ e)

pub mask_is_told : LookTheSame (Mask 0 (Let None Canceled (Offer 0 (Number 1)))) (Let None Canceled (Offer 0 (Number 1))) → ⊥
mask_is_told same =
    let m = one_more_mask c in
    let k = known_canceled m in
    let first : Leads c (Runs (Mask 0 (Let None Canceled puts))) (Silent ∷ Shows event.SelfRequest ∷ Silent ∷ put_one ∷ []) k
    (Runs (Masked 0 (Finished (Val 0)))) = (
      m,
      Runs (Masked 0 (Let None Canceled puts)),
      row refl rule.mask,
      (
        k,
        Runs (Masked 0 (Let None (Finished (Val 0)) puts)),
        row refl (row_placed (MaskedIn 0 ∷ LetIn None puts ∷ []) (rule.self_request refl)),
        (
          k,
          Runs (Masked 0 puts),
          row refl (row_placed (MaskedIn 0 ∷ []) rule.let_value),
          (k, Runs (Masked 0 (Finished (Val 0))), row refl (row_placed (MaskedIn 0 ∷ []) rule.offered), (refl, refl)),
        ),
      ),
    ) in
    let left : OthersCanSee (record { term = Mask 0 (Let None Canceled puts); next = 1; end = 1 }) (put_one ∷ []) =
    record {
      labels = Silent ∷ Shows event.SelfRequest ∷ Silent ∷ put_one ∷ [];
      counts = k;
      progress = Runs (Masked 0 (Finished (Val 0)));
      run = first;
      visible_is = refl;
    } in
    goes_nowhere (Let None Canceled puts) refl refl ((same 1 1 (put_one ∷ [])).0 left)

-- what is canceled of itself, and what waits to be requested
waits_for_a_request : (ls : List Label) (d : Counts) (q : Progress) → Leads c (Runs Never) ls d q → shown ls ≡ Shows event.Cancelled ∷ [] → ⊥
waits_for_a_request [] d q h e = absurd cc
waits_for_a_request (l ∷ ls) d q h e = by_step h.2 e
  where
    by_step : {l : Label} {a : Counts} {m : Progress} → Step c (Runs Never) l a m → shown (l ∷ ls) ≡ Shows event.Cancelled ∷ [] → ⊥
    by_step (cancelled must) e = absurd cc
    by_step (seen free opened) e = absurd cc
    by_step (row free (rule.inside f at g r)) e = absurd (no_context f _ _ refl at)

pub canceled_is_told : ShowTheSame Never Canceled → ⊥
canceled_is_told same =
    let right = (same 1 1 (Shows event.Cancelled ∷ [])).1
    (record { labels = Shows event.Cancelled ∷ []; counts = c; progress = Unwinds []; run = (c, Unwinds [], cancelled refl, (refl, refl)); shown_is = refl }) in
    waits_for_a_request right.labels right.counts right.progress right.run right.shown_is
