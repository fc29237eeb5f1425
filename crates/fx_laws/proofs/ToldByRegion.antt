-- A clean-up that gives out the number of a region tells how many were entered before.
use Rattle.std.proofs.Common.{◌≡◌, ℕ, true, None, List, [], ◌∷◌, refl, sym, ◌∙◌, ap}
use Rattle.fx_term.specs.declared.node.Arg.TheVariants.{Number, Slot}
use Rattle.fx_term.specs.declared.done.Done.TheVariants.{Val}
use Rattle.fx_term.specs.declared.event.Event.TheVariants as event
use Rattle.fx_term.specs.Term.{Term, Pure, Canceled, Mask, OnCancel, Offer, Finished, Masked}
use Rattle.fx_model.specs.Path.{Finalizer, OnCancelIn, MaskedIn}
use Rattle.fx_model.specs.Row.{Counts, Label, Silent, Shows, one_more_mask, Row}
use Rattle.fx_model.specs.Row as rule
use Rattle.fx_model.specs.Step.{Progress, Runs, Unwinds, CleansUp, cancelled, finalizer, cleans, finalizer_ends}
use Rattle.fx_model.specs.Run.{Leads, shown}
use Rattle.fx_model.proofs.MaskEntering.{counts_at}
use Rattle.fx_model.proofs.Paths.{no_context}
use Rattle.fx_laws.specs.Everywhere.{InTerm, CanShowFrom, ShowTheSameEverywhere}
use Rattle.fx_laws.proofs.Placed.{row_placed}
use Rattle.fx_laws.proofs.Views.{itself}
use Rattle.fx_laws.proofs.SilentRows.{pure_leads}
use Rattle.fx_laws.proofs.Showing.{showing}
use Rattle.fx_laws.proofs.Forced.{AreMatched, IsOnlyRow, silent_left, begins_finalizer, ends_finalizer, cleans_only}
use Rattle.fx_laws.proofs.OnlyRows.{only_silent, only_mask, only_placed}
use Rattle.fx_laws.proofs.Doomed.{must_forced}

abbrev c : Counts
c = counts_at 0 1 1

abbrev zero_term : Term
zero_term = Pure (Number 0)

-- the number of the region that it enters is put as a value
abbrev puts_region : Term
puts_region = Mask 1 (Offer 0 (Slot 1))

abbrev put_one : Label
put_one = Shows (event.Put 0 1)

only_offer : (d : Counts) (n : ℕ) → IsOnlyRow d (Offer 0 (Number n)) (Shows (event.Put 0 n)) d (Finished (Val 0))
only_offer d n = record { there = rule.offered; only = λ m e w r. one r; going = λ w e. cc }
  where
    one : {m : Label} {e : Counts} {w : Term} → Row true d (Offer 0 (Number n)) m e w → (m ≡ Shows (event.Put 0 n)) × (e ≡ d) × (w ≡ Finished (Val 0))
    one rule.offered = (refl, refl, refl)
    one (rule.inside f e g r) = absurd (no_context f _ _ refl e)

-- with no mask before it puts 0
abbrev in_first_region : Progress
in_first_region = CleansUp None (Masked 0 (Offer 0 (Number 0))) []

comes_to_region : AreMatched showing c (Unwinds (Finalizer zero_term ∷ Finalizer puts_region ∷ [])) (one_more_mask c) in_first_region
comes_to_region =
    silent_left showing (begins_finalizer c zero_term (Finalizer puts_region ∷ []))
    (silent_left showing (cleans_only None (Finalizer puts_region ∷ []) (only_silent c (pure_leads 0)))
    (silent_left showing (ends_finalizer c (Val 0) (Finalizer puts_region ∷ []))
    (silent_left showing (begins_finalizer c puts_region [])
    (silent_left showing (cleans_only None [] (only_mask c 1 (Offer 0 (Slot 1)))) (itself showing, itself showing)))))

puts_no_one : (ls : List Label) (d : Counts) (q : Progress) → Leads (one_more_mask c) in_first_region ls d q → shown ls ≡ put_one ∷ [] → ⊥
puts_no_one [] d q h is = absurd cc
puts_no_one (l ∷ ls) d q h is =
    let forced = cleans_only None [] (only_placed (MaskedIn 0 ∷ []) (only_offer (one_more_mask c) 0)) in
    let same = forced.only l h.0 h.1 h.2 in
    let f : shown (Shows (event.Put 0 0) ∷ ls) ≡ put_one ∷ [] = ap (λ (m : Label). shown (m ∷ ls)) (sym same.0) ∙ is in absurd cc

shows_no_one : (ls : List Label) (d : Counts) (q : Progress) → Leads c (Runs (OnCancel (OnCancel Canceled zero_term) puts_region)) ls d q
    → shown ls ≡ Shows event.Cancelled ∷ put_one ∷ [] → ⊥
shows_no_one [] d q h is = absurd cc
shows_no_one (l ∷ ls) d q h is =
    let o = (must_forced c (OnCancel (OnCancel Canceled zero_term) puts_region) refl).only l h.0 h.1 h.2 in
    let go : Leads c (Unwinds (Finalizer zero_term ∷ Finalizer puts_region ∷ [])) ls d q = rw (sym o.1, sym o.2) h.3 in
    let k = comes_to_region.0 ls d q go in
    let f : Shows event.Cancelled ∷ shown ls ≡ Shows event.Cancelled ∷ put_one ∷ [] = ap (λ (m : Label). shown (m ∷ ls)) (sym o.0) ∙ is in
    let g : shown ls ≡ put_one ∷ [] = cc in puts_no_one k.labels k.counts k.progress k.leads (k.seen_is ∙ g)

pub masked_finalizer_is_told : ShowTheSameEverywhere (OnCancel Canceled (Mask 0 (Pure (Number 0)))) (OnCancel Canceled (Pure (Number 0))) → ⊥
masked_finalizer_is_told same =
    let one = one_more_mask c in
    let two = one_more_mask one in
    let rest = Finalizer puts_region ∷ [] in
    let done = CleansUp None (Masked 1 (Finished (Val 0))) [] in
    let labels = Shows event.Cancelled ∷ Silent ∷ Silent ∷ Silent ∷ Silent ∷ Silent ∷ Silent ∷ Silent ∷ put_one ∷ [] in
    let puts_one : Leads c (Runs (OnCancel (OnCancel Canceled (Mask 0 zero_term)) puts_region)) labels two done = (
      c,
      Unwinds (Finalizer (Mask 0 zero_term) ∷ rest),
      cancelled refl,
      (
        c,
        CleansUp None (Mask 0 zero_term) rest,
        finalizer,
        (
          one,
          CleansUp None (Masked 0 zero_term) rest,
          cleans rule.mask,
          (
            one,
            CleansUp None (Masked 0 (Finished (Val 0))) rest,
            cleans (row_placed (MaskedIn 0 ∷ []) rule.pure),
            (
              one,
              CleansUp None (Finished (Val 0)) rest,
              cleans rule.masked_ends,
              (
                one,
                Unwinds rest,
                finalizer_ends,
                (
                  one,
                  CleansUp None puts_region [],
                  finalizer,
                  (
                    two,
                    CleansUp None (Masked 1 (Offer 0 (Number 1))) [],
                    cleans rule.mask,
                    (
                      two,
                      done,
                      cleans (row_placed (MaskedIn 1 ∷ []) rule.offered),
                      (refl, refl),
                    ),
                  ),
                ),
              ),
            ),
          ),
        ),
      ),
    ) in
    let left : CanShowFrom c (Runs (OnCancel (OnCancel Canceled (Mask 0 zero_term)) puts_region)) (Shows event.Cancelled ∷ put_one ∷ []) =
    record { labels = labels; counts = two; progress = done; run = puts_one; shown_is = refl } in
    let right = (same (InTerm (OnCancelIn puts_region ∷ [])) c (Shows event.Cancelled ∷ put_one ∷ [])).0 left in
    shows_no_one right.labels right.counts right.progress right.run right.shown_is
