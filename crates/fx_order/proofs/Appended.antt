-- The occurrences of a trace, one by one.
use Rattle.std.proofs.Common.{◌≡◌, ℕ, zero, suc, ◌+◌, ◌<◌, List, [], ◌∷◌, ◌++◌, length, take, slice_index_or, sym, ap, ◌∙◌, arith, append_assoc}
use Rattle.fx_term.specs.declared.stamped.Stamped.{Stamped}
use Rattle.fx_term.specs.Stamped.{events_in, stamps_in}
use Rattle.fx_order.specs.declared.occurrence.Occurrence.{Occurrence}
use Rattle.fx_order.specs.Occurrences.{occurrences_from}

module _ (f : ℕ) where
  abbrev at : ℕ → Stamped → Occurrence
  at i x = record { fiber = f; place = i; event = x.event; stamp = x.stamp }

  from_place : (i : ℕ) (xs : List Stamped) (k p : ℕ) (d : Stamped) → p ≡ i + k → k < length xs
      → occurrences_from f i (events_in (take (suc k) xs)) (stamps_in (take (suc k) xs))
      ≡ occurrences_from f i (events_in (take k xs)) (stamps_in (take k xs)) ++ at p (slice_index_or xs k d) ∷ []
  from_place i [] k p d is lt = absurd (omega arith)
  from_place i (x ∷ xs) zero p d is lt = let here : i ≡ p = omega arith in ap (λ (q : ℕ). at q x ∷ []) here
  from_place i (x ∷ xs) (suc k) p d is lt =
      ap (λ (rest : List Occurrence). at i x ∷ rest) (from_place (suc i) xs k p d (omega arith) (omega arith))

  -- a loop's step: one more event goes to the end of the list
  pub occurrences_from-push : (old before after : List Occurrence) (xs : List Stamped) (k : ℕ) (d : Stamped) → k < length xs
      → before ≡ old ++ occurrences_from f 0 (events_in (take k xs)) (stamps_in (take k xs))
      → after ≡ before ++ at k (slice_index_or xs k d) ∷ []
      → after ≡ old ++ occurrences_from f 0 (events_in (take (k + 1) xs)) (stamps_in (take (k + 1) xs))
  occurrences_from-push old before after xs k d lt so_far pushed =
      let next : suc k ≡ k + 1 = omega arith in
      let done = occurrences_from f 0 (events_in (take k xs)) (stamps_in (take k xs)) in
      let last = at k (slice_index_or xs k d) ∷ [] in
      pushed ∙ ap (λ (l : List Occurrence). l ++ last) so_far ∙ append_assoc old done last
      ∙ ap (λ (l : List Occurrence). old ++ l) (sym (from_place 0 xs k k d (omega arith) lt))
      ∙ ap (λ (n : ℕ). old ++ occurrences_from f 0 (events_in (take n xs)) (stamps_in (take n xs))) next
