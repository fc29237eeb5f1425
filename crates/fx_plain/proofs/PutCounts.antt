-- The counts of a fiber's puts after one more.
use Rattle.std.proofs.Common.{◌≡◌, ℕ, suc, ◌+◌, ◌-◌, ◌*◌, ◌<◌, ◌≤◌, List, length, replicate, sym, ◌∙◌, ap, arith, inl, inr}
use Rattle.std.proofs.Common.{get_or-set_same, get_or-set_other}
use Rattle.std.specs.Prelude.{slice_index, sum}
use Rattle.std.proofs.lemmas.Bool.{cases_eq, cases_lt}
use Rattle.std.proofs.lemmas.List.{get_or_past, get_or_append_left, get_or-append-add, length-append, length-replicate}
use Rattle.std.proofs.lemmas.List.Sums.{sum_by-set, sum_by-append, get_or-le-sum_by}
use Rattle.std.proofs.lemmas.List.Folds.{sum_by-replicate}
use Rattle.fx_plain.specs.PutCounts.{reaching, one_more_put}
use Rattle.fx_term.specs.Maps.{with_at}
use Rattle.fx_term.proofs.MapLaws.{at_that, at_other}
use Rattle.fx_plain.proofs.Maps.{replicated}

module _ (q : ℕ) (counts : List ℕ) where
  abbrev zeros : List ℕ
  zeros = replicate (suc q - length counts) 0

  reaches : q < length (reaching q counts)
  reaches =
      let e : length (reaching q counts) ≡ length counts + length zeros = length-append counts zeros in
      let z : length zeros ≡ suc q - length counts = length-replicate (suc q - length counts) 0 in
      omega arith

  reaching_keeps : (r : ℕ) → slice_index (reaching q counts) r ≡ slice_index counts r
  reaching_keeps r = elim (cases_lt r (length counts)) [
    | inl lt ↦ get_or_append_left counts zeros 0 r lt
    | inr le ↦
        (let past : r ≡ length counts + (r - length counts) = omega arith in
        ap (slice_index (reaching q counts)) past ∙ get_or-append-add counts zeros (r - length counts) 0
        ∙ replicated (suc q - length counts) (r - length counts) 0
        ∙ sym (get_or_past counts r 0 le))
  ]

  -- one more of this queue, and as many of the others
  pub count_after : (r : ℕ) → slice_index (one_more_put q counts) r ≡ with_at q (suc (slice_index counts q)) (slice_index counts) r
  count_after r = elim (cases_eq r q) [
    | inl same ↦
        ap (slice_index (one_more_put q counts)) same ∙ get_or-set_same (reaching q counts) q (suc (slice_index counts q)) 0 reaches
        ∙ sym (at_that q (suc (slice_index counts q)) (slice_index counts) r same)
    | inr apart ↦
        get_or-set_other (reaching q counts) q r (suc (slice_index counts q)) 0 apart ∙ reaching_keeps r
        ∙ sym (at_other q (suc (slice_index counts q)) (slice_index counts) r apart)
  ]

  -- one more of all
  pub sum_after : sum (one_more_put q counts) ≡ suc (sum counts)
  sum_after =
      let set : sum (one_more_put q counts) + slice_index (reaching q counts) q ≡ sum (reaching q counts) + suc (slice_index counts q) =
      sum_by-set (λ n. n) (reaching q counts) q (suc (slice_index counts q)) 0 reaches in
      let same = reaching_keeps q in
      let parts : sum (reaching q counts) ≡ sum counts + sum zeros = sum_by-append (λ n. n) counts zeros in
      let none : sum zeros ≡ (suc q - length counts) * 0 = sum_by-replicate (λ n. n) (suc q - length counts) 0 in
      omega arith

  pub count_within : slice_index counts q ≤ sum counts
  count_within = elim (cases_lt q (length counts)) [
    | inl lt ↦ get_or-le-sum_by (λ n. n) counts q 0 lt
    | inr past ↦ (let none = get_or_past counts q 0 past in omega arith)
  ]
