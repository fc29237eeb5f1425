-- Terms of which others can tell one from the other.
use Rattle.std.proofs.Common.{◌≡◌, ◌≢◌, None, List, [], ◌∷◌, refl, sym, ◌∙◌, ap}
use Rattle.fx_term.specs.declared.node.Arg.TheVariants.{Number}
use Rattle.fx_term.specs.declared.done.Done.TheVariants.{Val}
use Rattle.fx_term.specs.declared.outcome.Outcome.TheVariants as outcome
use Rattle.fx_term.specs.declared.event.Event.{Event}
use Rattle.fx_term.specs.declared.event.Event.TheVariants as event
use Rattle.fx_term.specs.Term.{Term, Canceled, Let, OnCancel, Offer, Finished, Masked}
use Rattle.fx_model.specs.Path.{LetIn, MaskedIn, Finalizer}
use Rattle.fx_model.specs.Row.{Counts, Label, Silent, Shows, known_canceled}
use Rattle.fx_model.specs.Row as rule
use Rattle.fx_model.specs.Step.{Progress, Runs, Unwinds, CleansUp, cancelled, finalizer, cleans, row}
use Rattle.fx_model.specs.Run.{Leads, shown}
use Rattle.fx_model.proofs.MaskEntering.{counts_at}
use Rattle.fx_laws.specs.Everywhere.{InTerm, InCleanup, CanShowFrom, ShowTheSameAt, ShowTheSameEverywhere}
use Rattle.fx_laws.specs.Others.{visible, OthersCanSee, LookTheSame}
use Rattle.fx_laws.proofs.Placed.{row_placed}
use Rattle.fx_laws.proofs.SilentRows.{masked_leads}
use Rattle.fx_laws.proofs.Forced.{IsForced, cleans_only, ends_finalizer, unwound, runs_only}
use Rattle.fx_laws.proofs.OnlyRows.{only_silent, only_self_request, only_placed}
use Rattle.fx_laws.proofs.MaskStarts.{SeesEndAlone, nothing_yet, its_end, unwound_sees}
use Rattle.fx_laws.proofs.Doomed.{must_forced}

abbrev pub put_one : Label
put_one = Shows (event.Put 0 1)

abbrev pub c : Counts
c = counts_at 0 1 1

abbrev pub puts : Term
puts = Offer 0 (Number 1)

-- after the step that is forced
pub after : (f : Counts) (r : Progress) {d e : Counts} {p q : Progress} {l m : Label} (ls : List Label) → IsForced d p l e q → Leads d p (m ∷ ls) f r
    → (m ≡ l) × Leads e q ls f r
after f r {e = e} {q = q} {m = m} ls s h =
    let o = s.only m h.0 h.1 h.2 in let go : Leads e q ls f r = rw (sym o.1, sym o.2) h.3 in (o.0, go)

-- what is canceled with no clean-up puts nothing
pub end_alone_is_no_put : {ls : List Label} → SeesEndAlone ls → visible ls ≡ put_one ∷ [] → ⊥
end_alone_is_no_put (nothing_yet e) f = absurd cc
end_alone_is_no_put (its_end e) f = absurd cc

canceled_puts_nothing : (ls : List Label) (d : Counts) (q : Progress) → Leads c (Runs Canceled) ls d q → visible ls ≡ put_one ∷ [] → ⊥
canceled_puts_nothing [] d q h e = absurd cc
canceled_puts_nothing (l ∷ ls) d q h e =
    let k = after d q ls (must_forced c Canceled refl) h in
    let e' : visible (Shows event.Cancelled ∷ ls) ≡ put_one ∷ [] = ap (λ (m : Label). visible (m ∷ ls)) (sym k.0) ∙ e in
    end_alone_is_no_put (unwound_sees c d q ls k.1) e'

pub finalizer_is_seen : LookTheSame (OnCancel Canceled (Offer 0 (Number 1))) Canceled → ⊥
finalizer_is_seen same =
    let puts_first : Leads c (Runs (OnCancel Canceled puts)) (Shows event.Cancelled ∷ Silent ∷ put_one ∷ []) c (CleansUp None (Finished (Val 0)) []) = (
      c,
      Unwinds (Finalizer puts ∷ []),
      cancelled refl,
      (
        c,
        CleansUp None puts [],
        finalizer,
        (
          c,
          CleansUp None (Finished (Val 0)) [],
          cleans rule.offered,
          (refl, refl),
        ),
      ),
    ) in
    let left : OthersCanSee (record { term = OnCancel Canceled puts; next = 1; end = 1 }) (put_one ∷ []) =
    record {
      labels = Shows event.Cancelled ∷ Silent ∷ put_one ∷ [];
      counts = c;
      progress = CleansUp None (Finished (Val 0)) [];
      run = puts_first;
      visible_is = refl;
    } in
    let right = (same 1 1 (put_one ∷ [])).0 left in
    canceled_puts_nothing right.labels right.counts right.progress right.run right.visible_is

-- a fiber that requests itself, makes a silent step and then shows another event puts nothing after its request
module _ {k : Counts} {p q r s : Progress} (e : Event) (other : e ≢ event.Put 0 1) (first : IsForced c p (Shows event.SelfRequest) k q)
    (second : IsForced k q Silent k r) (third : IsForced k r (Shows e) k s) where
  puts_nothing_next : (ls : List Label) (d : Counts) (x : Progress) → Leads c p ls d x → shown ls ≡ Shows event.SelfRequest ∷ put_one ∷ [] → ⊥
  puts_nothing_next [] d x h is = absurd cc
  puts_nothing_next (l ∷ []) d x h is =
      let i = after d x [] first h in
      let f : shown (Shows event.SelfRequest ∷ []) ≡ Shows event.SelfRequest ∷ put_one ∷ [] = ap (λ (y : Label). shown (y ∷ [])) (sym i.0) ∙ is in absurd cc
  puts_nothing_next (l ∷ m ∷ []) d x h is =
      let i = after d x (m ∷ []) first h in
      let j = after d x [] second i.1 in
      let f : shown (Shows event.SelfRequest ∷ Silent ∷ []) ≡ Shows event.SelfRequest ∷ put_one ∷ [] =
      ap (λ (y : Label). shown (Shows event.SelfRequest ∷ y ∷ [])) (sym j.0) ∙ ap (λ (y : Label). shown (y ∷ m ∷ [])) (sym i.0) ∙ is in absurd cc
  puts_nothing_next (l ∷ m ∷ n ∷ ls) d x h is =
      let i = after d x (m ∷ n ∷ ls) first h in
      let j = after d x (n ∷ ls) second i.1 in
      let g = after d x ls third j.1 in
      let f : shown (Shows event.SelfRequest ∷ Silent ∷ Shows e ∷ ls) ≡ Shows event.SelfRequest ∷ put_one ∷ [] =
      ap (λ (y : Label). shown (Shows event.SelfRequest ∷ Silent ∷ y ∷ ls)) (sym g.0)
      ∙ ap (λ (y : Label). shown (Shows event.SelfRequest ∷ y ∷ n ∷ ls)) (sym j.0) ∙ ap (λ (y : Label). shown (y ∷ m ∷ n ∷ ls)) (sym i.0) ∙ is in
      absurd (other cc)

-- in a mask the fiber goes on, and is canceled where it leaves it
ends_in_mask : (ls : List Label) (d : Counts) (q : Progress) → Leads c (Runs (Masked 0 Canceled)) ls d q
    → shown ls ≡ Shows event.SelfRequest ∷ put_one ∷ [] → ⊥
ends_in_mask =
    puts_nothing_next event.Cancelled (λ e. cc) (runs_only refl (only_placed (MaskedIn 0 ∷ []) (only_self_request c)))
    (runs_only refl (only_silent (known_canceled c) (masked_leads 0 (Val 0)))) (must_forced (known_canceled c) (Finished (Val 0)) refl)

-- in a clean-up it goes on too, and then comes its end
ends_in_cleanup : (ls : List Label) (d : Counts) (q : Progress) → Leads c (CleansUp None Canceled []) ls d q
    → shown ls ≡ Shows event.SelfRequest ∷ put_one ∷ [] → ⊥
ends_in_cleanup =
    puts_nothing_next (event.Ended outcome.Canceled) (λ e. cc) (cleans_only None [] (only_self_request c)) (ends_finalizer (known_canceled c) (Val 0) [])
    (unwound (known_canceled c))

pub closed_place_goes_on : ShowTheSameEverywhere (Let None Canceled (Offer 0 (Number 1))) Canceled → ⊥
closed_place_goes_on same =
    let k = known_canceled c in
    let puts_too : Leads c (Runs (Masked 0 (Let None Canceled puts))) (Shows event.SelfRequest ∷ Silent ∷ put_one ∷ []) k
    (Runs (Masked 0 (Finished (Val 0)))) = (
      k,
      Runs (Masked 0 (Let None (Finished (Val 0)) puts)),
      row refl (row_placed (MaskedIn 0 ∷ LetIn None puts ∷ []) (rule.self_request refl)),
      (
        k,
        Runs (Masked 0 puts),
        row refl (row_placed (MaskedIn 0 ∷ []) rule.let_value),
        (k, Runs (Masked 0 (Finished (Val 0))), row refl (row_placed (MaskedIn 0 ∷ []) rule.offered), (refl, refl)),
      ),
    ) in
    let left : CanShowFrom c (Runs (Masked 0 (Let None Canceled puts))) (Shows event.SelfRequest ∷ put_one ∷ []) =
    record {
      labels = Shows event.SelfRequest ∷ Silent ∷ put_one ∷ [];
      counts = k;
      progress = Runs (Masked 0 (Finished (Val 0)));
      run = puts_too;
      shown_is = refl;
    } in
    let right = (same (InTerm (MaskedIn 0 ∷ [])) c (Shows event.SelfRequest ∷ put_one ∷ [])).0 left in
    ends_in_mask right.labels right.counts right.progress right.run right.shown_is

pub cleanup_goes_on : ShowTheSameAt (InCleanup None [] []) (Let None Canceled (Offer 0 (Number 1))) Canceled → ⊥
cleanup_goes_on same =
    let k = known_canceled c in
    let puts_too : Leads c (CleansUp None (Let None Canceled puts) []) (Shows event.SelfRequest ∷ Silent ∷ put_one ∷ []) k
    (CleansUp None (Finished (Val 0)) []) = (
      k,
      CleansUp None (Let None (Finished (Val 0)) puts) [],
      cleans (row_placed (LetIn None puts ∷ []) (rule.self_request refl)),
      (
        k,
        CleansUp None puts [],
        cleans rule.let_value,
        (k, CleansUp None (Finished (Val 0)) [], cleans rule.offered, (refl, refl)),
      ),
    ) in
    let left : CanShowFrom c (CleansUp None (Let None Canceled puts) []) (Shows event.SelfRequest ∷ put_one ∷ []) =
    record {
      labels = Shows event.SelfRequest ∷ Silent ∷ put_one ∷ [];
      counts = k;
      progress = CleansUp None (Finished (Val 0)) [];
      run = puts_too;
      shown_is = refl;
    } in
    let right = (same c (Shows event.SelfRequest ∷ put_one ∷ [])).0 left in
    ends_in_cleanup right.labels right.counts right.progress right.run right.shown_is
