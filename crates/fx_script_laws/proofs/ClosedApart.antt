-- Terms that cannot be put for one another at closed places.
use Rattle.std.proofs.Common.{◌≡◌, ℕ, Bool, true, None, List, [], ◌∷◌, refl, sym, ◌∙◌, ap, arith}
use Rattle.fx_term.specs.declared.node.Arg.TheVariants.{Number}
use Rattle.fx_term.specs.declared.done.Done.TheVariants.{Val}
use Rattle.fx_term.specs.declared.outcome.Outcome.TheVariants as outcome
use Rattle.fx_term.specs.declared.event.Event.TheVariants as event
use Rattle.fx_term.specs.Term.{Term, Canceled, Never, Let, Mask, Poll, OnCancel, Finished, Masked, Opened}
use Rattle.fx_model.specs.Path.{MaskedIn, OpenedIn, OnCancelIn, Finalizer}
use Rattle.fx_model.specs.Row.{Counts, Label, Silent, Shows, known_canceled, one_more_mask, Row}
use Rattle.fx_model.specs.Row as rule
use Rattle.fx_model.specs.Step.{Progress, Runs, Unwinds, CleansUp, Step}
use Rattle.fx_model.specs.Step as step
use Rattle.fx_model.specs.Run.{Leads, shown}
use Rattle.fx_model.proofs.MaskEntering.{counts_at}
use Rattle.fx_model.proofs.Paths.{no_context}
use Rattle.fx_laws.specs.Everywhere.{InTerm, InCleanup, CanShowFrom}
use Rattle.fx_laws.proofs.Placed.{row_placed}
use Rattle.fx_laws.proofs.Forced.{unwound, runs_only}
use Rattle.fx_laws.proofs.OnlyRows.{only_silent, only_placed}
use Rattle.fx_laws.proofs.Doomed.{must_forced}
use Rattle.fx_laws.proofs.ToldApart.{after, put_one, puts, cleanup_goes_on}
use Rattle.fx_script_laws.specs.Cover.{Cover, Sealed, Masks, is_closed}
use Rattle.fx_script_laws.specs.Interchange.{AreInterchangeableWhere}
use Rattle.fx_script_laws.proofs.RegionLaws.{poll_leads}

-- a fiber that entered one mask
abbrev c : Counts
c = counts_at 1 1 1

-- in the mask, a term that polls it and then cancels
abbrev polls_out : Term
polls_out = Poll (Number 0) Canceled

-- where that is all that stands in the mask, the fiber is canceled, and ends
ends_soon : (ls : List Label) (d : Counts) (q : Progress) (l m : Label) (ms : List Label) → Leads c (Runs (Masked 0 polls_out)) ls d q
    → shown ls ≡ l ∷ m ∷ ms → (l ≡ Shows event.Cancelled) × (m ≡ Shows (event.Ended outcome.Canceled))
ends_soon [] d q l m ms h is = absurd cc
ends_soon (a ∷ []) d q l m ms h is =
    let i = after d q [] (runs_only refl (only_placed (MaskedIn 0 ∷ []) (only_silent c (poll_leads 0 Canceled)))) h in
    let f : shown (Silent ∷ []) ≡ l ∷ m ∷ ms = ap (λ (y : Label). shown (y ∷ [])) (sym i.0) ∙ is in
    absurd cc
ends_soon (a ∷ b ∷ []) d q l m ms h is =
    let i = after d q (b ∷ []) (runs_only refl (only_placed (MaskedIn 0 ∷ []) (only_silent c (poll_leads 0 Canceled)))) h in
    let j = after d q [] (must_forced c (Masked 0 (Opened 0 Canceled)) refl) i.1 in
    let f : shown (Silent ∷ Shows event.Cancelled ∷ []) ≡ l ∷ m ∷ ms =
    ap (λ (y : Label). shown (Silent ∷ y ∷ [])) (sym j.0) ∙ ap (λ (y : Label). shown (y ∷ b ∷ [])) (sym i.0) ∙ is in
    absurd cc
ends_soon (a ∷ b ∷ g ∷ ls) d q l m ms h is =
    let i = after d q (b ∷ g ∷ ls) (runs_only refl (only_placed (MaskedIn 0 ∷ []) (only_silent c (poll_leads 0 Canceled)))) h in
    let j = after d q (g ∷ ls) (must_forced c (Masked 0 (Opened 0 Canceled)) refl) i.1 in
    let k = after d q ls (unwound c) j.1 in
    let f : shown (Silent ∷ Shows event.Cancelled ∷ Shows (event.Ended outcome.Canceled) ∷ ls) ≡ l ∷ m ∷ ms =
    ap (λ (y : Label). shown (Silent ∷ Shows event.Cancelled ∷ y ∷ ls)) (sym k.0) ∙ ap (λ (y : Label). shown (Silent ∷ y ∷ g ∷ ls)) (sym j.0)
    ∙ ap (λ (y : Label). shown (y ∷ b ∷ g ∷ ls)) (sym i.0) ∙ is in
    (cc, cc)

waits_there : {l : Label} {d : Counts} {q : Progress} → Step c (CleansUp None Never []) l d q → ⊥
waits_there (step.cleans (rule.inside f e g r)) = no_context f _ _ refl e

shows_nothing : (ls : List Label) (d : Counts) (q : Progress) → Leads c (CleansUp None Never []) ls d q → shown ls ≡ Shows event.SelfRequest ∷ [] → ⊥
shows_nothing [] d q h is = absurd cc
shows_nothing (l ∷ ls) d q h is = waits_there h.2

module _ (own : ℕ → Bool) where
  -- with a finalizer round it, that runs
  pub finalizer_of_closed : AreInterchangeableWhere is_closed own (OnCancel polls_out puts) polls_out → ⊥
  finalizer_of_closed same =
      let puts_too : Leads c (Runs (Masked 0 (OnCancel polls_out puts))) (Silent ∷ Shows event.Cancelled ∷ Silent ∷ put_one ∷ []) c
      (CleansUp None (Finished (Val 0)) []) = (
        c,
        Runs (Masked 0 (OnCancel (Opened 0 Canceled) puts)),
        step.row refl (row_placed (MaskedIn 0 ∷ OnCancelIn puts ∷ []) rule.poll),
        (
          c,
          Unwinds (Finalizer puts ∷ []),
          step.cancelled refl,
          (
            c,
            CleansUp None puts [],
            step.finalizer,
            (c, CleansUp None (Finished (Val 0)) [], step.cleans rule.offered, (refl, refl)),
          ),
        ),
      ) in
      let left : CanShowFrom c (Runs (Masked 0 (OnCancel polls_out puts))) (Shows event.Cancelled ∷ put_one ∷ []) =
      record {
        labels = Silent ∷ Shows event.Cancelled ∷ Silent ∷ put_one ∷ [];
        counts = c;
        progress = CleansUp None (Finished (Val 0)) [];
        run = puts_too;
        shown_is = refl;
      } in
      let right = (same.shows [] tt (Masks 1) (InTerm (MaskedIn 0 ∷ [])) refl (omega arith) c (Shows event.Cancelled ∷ put_one ∷ [])).0 left in
      let e = ends_soon right.labels right.counts right.progress (Shows event.Cancelled) put_one [] right.run right.shown_is in
      absurd (let f = e.1 in cc)

  -- in one mask more it goes on
  pub mask_of_closed : AreInterchangeableWhere is_closed own (Mask 1 polls_out) polls_out → ⊥
  mask_of_closed same =
      let d = one_more_mask c in
      let k = known_canceled d in
      let shows = Shows event.SelfRequest ∷ Shows event.Cancelled ∷ [] in
      let goes_on : Leads c (Runs (Masked 0 (Mask 1 polls_out)))
      (Silent ∷ Silent ∷ Shows event.SelfRequest ∷ Silent ∷ Silent ∷ Silent ∷ Shows event.Cancelled ∷ []) k (Unwinds []) = (
        d,
        Runs (Masked 0 (Masked 1 polls_out)),
        step.row refl (row_placed (MaskedIn 0 ∷ []) rule.mask),
        (
          d,
          Runs (Masked 0 (Masked 1 (Opened 0 Canceled))),
          step.row refl (row_placed (MaskedIn 0 ∷ MaskedIn 1 ∷ []) rule.poll),
          (
            k,
            Runs (Masked 0 (Masked 1 (Opened 0 (Finished (Val 0))))),
            step.row refl (row_placed (MaskedIn 0 ∷ MaskedIn 1 ∷ OpenedIn 0 ∷ []) (rule.self_request refl)),
            (
              k,
              Runs (Masked 0 (Masked 1 (Finished (Val 0)))),
              step.row refl (row_placed (MaskedIn 0 ∷ MaskedIn 1 ∷ []) rule.opened_ends),
              (
                k,
                Runs (Masked 0 (Finished (Val 0))),
                step.row refl (row_placed (MaskedIn 0 ∷ []) rule.masked_ends),
                (
                  k,
                  Runs (Finished (Val 0)),
                  step.row refl rule.masked_ends,
                  (k, Unwinds [], step.cancelled refl, (refl, refl)),
                ),
              ),
            ),
          ),
        ),
      ) in
      let left : CanShowFrom c (Runs (Masked 0 (Mask 1 polls_out))) shows =
      record {
        labels = Silent ∷ Silent ∷ Shows event.SelfRequest ∷ Silent ∷ Silent ∷ Silent ∷ Shows event.Cancelled ∷ [];
        counts = k;
        progress = Unwinds [];
        run = goes_on;
        shown_is = refl;
      } in
      let right = (same.shows [] tt (Masks 1) (InTerm (MaskedIn 0 ∷ [])) refl (omega arith) c shows).0 left in
      let e = ends_soon right.labels right.counts right.progress (Shows event.SelfRequest) (Shows event.Cancelled) [] right.run right.shown_is in
      absurd (let f = e.0 in cc)

  module _ (there : Cover → Bool) (seals : there Sealed ≡ true) where
    -- a fiber that cancels itself at a sealed place goes on
    pub canceled_of_sealed : AreInterchangeableWhere there own (Let None Canceled puts) Canceled → ⊥
    canceled_of_sealed same = cleanup_goes_on (same.shows [] tt Sealed (InCleanup None [] []) seals refl)

    -- and one that waits for good does not
    pub never_of_sealed : AreInterchangeableWhere there own Never Canceled → ⊥
    never_of_sealed same =
        let requests : Leads c (CleansUp None Canceled []) (Shows event.SelfRequest ∷ []) (known_canceled c) (CleansUp None (Finished (Val 0)) []) =
        (known_canceled c, CleansUp None (Finished (Val 0)) [], step.cleans (rule.self_request refl), (refl, refl)) in
        let right : CanShowFrom c (CleansUp None Canceled []) (Shows event.SelfRequest ∷ []) =
        record {
          labels = Shows event.SelfRequest ∷ [];
          counts = known_canceled c;
          progress = CleansUp None (Finished (Val 0)) [];
          run = requests;
          shown_is = refl;
        } in
        let left = (same.shows [] tt Sealed (InCleanup None [] []) seals refl c (Shows event.SelfRequest ∷ [])).1 right in
        shows_nothing left.labels left.counts left.progress left.run left.shown_is
