-- What the counters of the queues have after the events that were counted.
use Rattle.std.proofs.Common.{◌≡◌, ℕ, zero, suc, ◌+◌, ◌-◌, ◌<◌, List, [], ◌∷◌, length, map, ◌++◌, refl, sym, ◌∙◌, ap, inl, inr, arith, cond}
use Rattle.std.proofs.Common.{get_or-set_same, get_or-set_other}
use Rattle.std.specs.Prelude.{◌==◌, replicate, slice_index}
use Rattle.std.specs.List.{count_by, range_with_len}
use Rattle.std.proofs.lemmas.Bool.{eq-eqb, ne_eqb, cases_eq}
use Rattle.std.proofs.lemmas.List.{length-set, length-replicate, get_or-replicate}
use Rattle.std.proofs.lemmas.List.Sums.{sum_by-cons}
use Rattle.fx_term.specs.declared.event.Event.{Event}
use Rattle.fx_term.specs.declared.event.Event.TheVariants as event
use Rattle.fx_run.specs.ClosedAs.{within_32_bits}
use Rattle.fx_run.specs.Flows.{is_put_into, is_got_from, counted, rest_of, rests_of, FlowsView, no_flows, with_one, with_move, with_moves, rest_in, rests_in}

counted_more : (a b : ℕ) → counted (counted a + b) ≡ counted (a + b)
counted_more a b = omega arith

one_if : (r q n : ℕ) → r ≡ q → counted (n + 1) ≡ counted (n + cond (r == q) 1 0)
one_if r q n same = sym (ap (λ t. counted (n + cond t 1 0)) (eq-eqb r q same))

none_if : (r q n : ℕ) → (r ≡ q → ⊥) → counted n ≡ counted (n + cond (r == q) 1 0)
none_if r q n apart = ap counted (omega arith) ∙ sym (ap (λ t. counted (n + cond t 1 0)) (ne_eqb r q apart))

-- one more of queue r, at queue q
one_more : (q r : ℕ) (ns : List ℕ) (n : ℕ) → q < length ns → slice_index ns q ≡ counted n → slice_index (with_one r ns) q ≡ counted (n + cond (r == q) 1 0)
one_more q r ns n lt is = elim (cases_eq r q) [
  | inl same ↦
      ap (λ i. slice_index (with_one i ns) q) same ∙ get_or-set_same ns q (counted (slice_index ns q + 1)) 0 lt
      ∙ ap (λ k. counted (k + 1)) is ∙ counted_more n 1 ∙ one_if r q n same
  | inr apart ↦ get_or-set_other ns r q (counted (slice_index ns r + 1)) 0 (λ e. apart (sym e)) ∙ is ∙ none_if r q n apart
]

none_more : (n : ℕ) → counted n ≡ counted (n + 0)
none_more n = ap counted (omega arith)

module _ (q : ℕ) where
  event_puts : (e : Event) (w : FlowsView) (n : ℕ) → q < length w.puts → slice_index w.puts q ≡ counted n
      → slice_index (with_move e w).puts q ≡ counted (n + cond (is_put_into q e) 1 0)
  event_puts (event.Put r x) w n lt is = one_more q r w.puts n lt is
  event_puts (event.Got r x) w n lt is = is ∙ none_more n
  event_puts _ w n lt is = is ∙ none_more n

  event_gots : (e : Event) (w : FlowsView) (n : ℕ) → q < length w.gots → slice_index w.gots q ≡ counted n
      → slice_index (with_move e w).gots q ≡ counted (n + cond (is_got_from q e) 1 0)
  event_gots (event.Put r x) w n lt is = is ∙ none_more n
  event_gots (event.Got r x) w n lt is = one_more q r w.gots n lt is
  event_gots _ w n lt is = is ∙ none_more n

put_long : (e : Event) (w : FlowsView) → length (with_move e w).puts ≡ length w.puts
put_long (event.Put r x) w = length-set w.puts r (counted (slice_index w.puts r + 1))
put_long (event.Got r x) w = refl
put_long _ w = refl

got_long : (e : Event) (w : FlowsView) → length (with_move e w).gots ≡ length w.gots
got_long (event.Put r x) w = refl
got_long (event.Got r x) w = length-set w.gots r (counted (slice_index w.gots r + 1))
got_long _ w = refl

puts_long : (es : List Event) (w : FlowsView) → length (with_moves es w).puts ≡ length w.puts
puts_long [] w = refl
puts_long (e ∷ es) w = puts_long es (with_move e w) ∙ put_long e w

module _ (q : ℕ) where
  puts_after : (es : List Event) (w : FlowsView) (n : ℕ) → q < length w.puts → slice_index w.puts q ≡ counted n
      → slice_index (with_moves es w).puts q ≡ counted (n + count_by (is_put_into q) es)
  puts_after [] w n lt is = is ∙ none_more n
  puts_after (e ∷ es) w n lt is =
      puts_after es (with_move e w) (n + cond (is_put_into q e) 1 0) (let long = put_long e w in omega (arith, lt, long)) (event_puts q e w n lt is)
      ∙ ap counted (let more = sum_by-cons (λ x. cond (is_put_into q x) 1 0) e es in omega (arith, more))

  gots_after : (es : List Event) (w : FlowsView) (n : ℕ) → q < length w.gots → slice_index w.gots q ≡ counted n
      → slice_index (with_moves es w).gots q ≡ counted (n + count_by (is_got_from q) es)
  gots_after [] w n lt is = is ∙ none_more n
  gots_after (e ∷ es) w n lt is =
      gots_after es (with_move e w) (n + cond (is_got_from q e) 1 0) (let long = got_long e w in omega (arith, lt, long)) (event_gots q e w n lt is)
      ∙ ap counted (let more = sum_by-cons (λ x. cond (is_got_from q x) 1 0) e es in omega (arith, more))

same_of_each : {X : Type 0} (f g : ℕ → X) (a n : ℕ) → ((q : ℕ) → q < a + n → f q ≡ g q) → map f (range_with_len a n) ≡ map g (range_with_len a n)
same_of_each f g a zero same = refl
same_of_each f g a (suc n) same = ap (λ y. y ∷ map f (range_with_len (a + 1) n)) (same a (omega arith))
    ∙ ap (λ ys. g a ∷ ys) (same_of_each f g (a + 1) n (λ q lt. same q (omega arith)))

-- the counters tell what the events leave in each queue
pub counted_rests : (n : ℕ) (es : List Event) → rests_in (with_moves es (no_flows n)) ≡ rests_of n es
counted_rests n es =
    let w = with_moves es (no_flows n) in
    let long : length w.puts ≡ n = puts_long es (no_flows n) ∙ length-replicate n 0 in
    ap (λ k. map (rest_in w) (range_with_len 0 k)) long ∙ same_of_each (rest_in w) (λ q. rest_of q es) 0 n each
  where
    each : (q : ℕ) → q < 0 + n → rest_in (with_moves es (no_flows n)) q ≡ rest_of q es
    each q lt =
        let within : q < length (replicate {A = ℕ} n 0) = (let l = length-replicate {A = ℕ} n 0 in omega (arith, l, lt)) in
        let first : slice_index (replicate {A = ℕ} n 0) q ≡ counted 0 = get_or-replicate n q 0 0 (omega arith) in
        let p : slice_index (with_moves es (no_flows n)).puts q ≡ counted (count_by (is_put_into q) es) =
        puts_after q es (no_flows n) 0 within first ∙ ap counted (omega arith) in
        let g : slice_index (with_moves es (no_flows n)).gots q ≡ counted (count_by (is_got_from q) es) =
        gots_after q es (no_flows n) 0 within first ∙ ap counted (omega arith) in
        ap (λ k. within_32_bits (k - slice_index (with_moves es (no_flows n)).gots q)) p
        ∙ ap (λ k. within_32_bits (counted (count_by (is_put_into q) es) - k)) g

-- events are counted one after the other
pub moves_append : (es fs : List Event) (w : FlowsView) → with_moves (es ++ fs) w ≡ with_moves fs (with_moves es w)
moves_append [] fs w = refl
moves_append (e ∷ es) fs w = moves_append es fs (with_move e w)
