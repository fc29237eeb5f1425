-- Terms that cannot be put for one another.
use Rattle.std.proofs.Common.{◌≡◌, ℕ, Bool, None, List, [], ◌∷◌, ◌++◌, refl, sym, ◌∙◌, ap}
use Rattle.fx_term.specs.declared.node.Arg.TheVariants.{Number, Slot}
use Rattle.fx_term.specs.Term.{Term, Pure, Canceled, Never, Cede, Let, Mask, Poll, OnCancel, Offer}
use Rattle.fx_model.specs.Row.{Label, Silent, Shows, Learns, Starts}
use Rattle.fx_model.specs.Run.{shown}
use Rattle.fx_model.specs.MaskLaws.{CanShow, ShowTheSame, forced_after}
use Rattle.fx_laws.specs.Others.{visible, OthersCanSee, LookTheSame}
use Rattle.fx_laws.proofs.Looking.{visible_more}
use Rattle.fx_laws.proofs.Showing.{whole_of_everywhere}
use Rattle.fx_laws.proofs.ToldApart.{closed_place_goes_on}
use Rattle.fx_laws.proofs.Boundary.{boundary_is_seen}
use Rattle.fx_laws.proofs.SeenBefore.{canceled_is_told, mask_is_told, forced_is_told, ceded_is_told, polled_is_told}
use Rattle.fx_script_laws.specs.Interchange.{AreInterchangeable}

-- others see nothing of silent labels
visible_of_shown : (ls : List Label) → visible (shown ls) ≡ visible ls
visible_of_shown [] = refl
visible_of_shown (Silent ∷ ls) = visible_of_shown ls
visible_of_shown (Shows e ∷ ls) =
    visible_more (Shows e) (shown ls) ∙ ap (λ (ms : List Label). visible (Shows e ∷ []) ++ ms) (visible_of_shown ls) ∙ sym (visible_more (Shows e) ls)
visible_of_shown (Learns f o e ∷ ls) = ap (λ (ms : List Label). Learns f o e ∷ ms) (visible_of_shown ls)
visible_of_shown (Starts f b ∷ ls) = ap (λ (ms : List Label). Starts f b ∷ ms) (visible_of_shown ls)

one_looks : (t u : Term) → ShowTheSame t u → (next end : ℕ) (ls : List Label) → OthersCanSee (record { term = t; next = next; end = end }) ls
    → OthersCanSee (record { term = u; next = next; end = end }) ls
one_looks t u same next end ls h =
    let shows : CanShow (record { term = t; next = next; end = end }) (shown h.labels) =
    record { labels = h.labels; counts = h.counts; progress = h.progress; run = h.run; shown_is = refl } in
    let k = (same next end (shown h.labels)).0 shows in
    record {
      labels = k.labels;
      counts = k.counts;
      progress = k.progress;
      run = k.run;
      visible_is = sym (visible_of_shown k.labels) ∙ ap visible k.shown_is ∙ visible_of_shown h.labels ∙ h.visible_is;
    }

-- what shows the same looks the same
looks_the_same : (t u : Term) → ShowTheSame t u → LookTheSame t u
looks_the_same t u same next end ls =
    (one_looks t u same next end ls, one_looks u t (λ n e ms. ((same n e ms).1, (same n e ms).0)) next end ls)

module _ (own : ℕ → Bool) where
  shows_whole : (t u : Term) → AreInterchangeable own t u → ShowTheSame t u
  shows_whole t u h = whole_of_everywhere [] t u (h.shows.shows [] tt)

  pub never_for_canceled : AreInterchangeable own Never Canceled → ⊥
  never_for_canceled h = canceled_is_told (shows_whole Never Canceled h)

  pub mask_for_inside : AreInterchangeable own (Mask 0 (Let None Canceled (Offer 0 (Number 1)))) (Let None Canceled (Offer 0 (Number 1))) → ⊥
  mask_for_inside h =
      let t = Mask 0 (Let None Canceled (Offer 0 (Number 1))) in
      let u = Let None Canceled (Offer 0 (Number 1)) in
      mask_is_told (looks_the_same t u (shows_whole t u h))

  pub step_before : AreInterchangeable own (forced_after (Pure (Number 0)) (OnCancel Canceled (Offer 0 (Number 1)))) (OnCancel Canceled (Offer 0 (Number 1)))
      → ⊥
  step_before h =
      let t = forced_after (Pure (Number 0)) (OnCancel Canceled (Offer 0 (Number 1))) in
      let u = OnCancel Canceled (Offer 0 (Number 1)) in
      forced_is_told (looks_the_same t u (shows_whole t u h))

  pub turn_before : AreInterchangeable own (Let None Cede (OnCancel Canceled (Offer 0 (Number 1)))) (OnCancel Canceled (Offer 0 (Number 1))) → ⊥
  turn_before h =
      let t = Let None Cede (OnCancel Canceled (Offer 0 (Number 1))) in
      let u = OnCancel Canceled (Offer 0 (Number 1)) in
      ceded_is_told (looks_the_same t u (shows_whole t u h))

  pub mask_before : AreInterchangeable own (Mask 0 (Poll (Slot 0) (OnCancel Canceled (Offer 0 (Number 1))))) (OnCancel Canceled (Offer 0 (Number 1))) → ⊥
  mask_before h =
      let t = Mask 0 (Poll (Slot 0) (OnCancel Canceled (Offer 0 (Number 1)))) in
      let u = OnCancel Canceled (Offer 0 (Number 1)) in
      polled_is_told (looks_the_same t u (shows_whole t u h))

  pub canceled_goes_on : AreInterchangeable own (Let None Canceled (Offer 0 (Number 1))) Canceled → ⊥
  canceled_goes_on h = closed_place_goes_on (h.shows.shows [] tt)

  pub mask_and_finalizer : AreInterchangeable own (Mask 0 (OnCancel (Pure (Number 1)) (Offer 0 (Number 1)))) (OnCancel (Mask 0 (Pure (Number 1)))
      (Offer 0 (Number 1))) → ⊥
  mask_and_finalizer h =
      let t = Mask 0 (OnCancel (Pure (Number 1)) (Offer 0 (Number 1))) in
      let u = OnCancel (Mask 0 (Pure (Number 1))) (Offer 0 (Number 1)) in
      boundary_is_seen (looks_the_same t u (shows_whole t u h))
