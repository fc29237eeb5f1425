-- A get stands on one put.
use Rattle.std.proofs.Common.{◌≡◌, ℕ, zero, suc, Option, Some, None, List, [], ◌∷◌, length, refl, sym, ◌∙◌, ap, subst, arith}
use Rattle.std.specs.Prelude.{slice_get, take}
use Rattle.std.specs.List.{cons_option}
use Rattle.std.proofs.lemmas.Bool.{eq-eqb}
use Rattle.std.proofs.lemmas.Option.{none-some, same_Some}
use Rattle.fx_term.specs.declared.event.Event.{Event}
use Rattle.fx_term.specs.declared.event.Event.TheVariants as event
use Rattle.fx_term.specs.Queue.{Taking, QueueState, value_put, values_put}
use Rattle.fx_model.specs.Causes.{values_got, taking_of, TakesWhatWasPut}

-- two puts into a queue with as many before them in a trace are one
one_less : (o : Option ℕ) (xs ys : List ℕ) → length (cons_option o xs) ≡ length (cons_option o ys) → length xs ≡ length ys
one_less None xs ys same = same
one_less (Some n) xs ys same = omega (arith, same)

none_before : (q v : ℕ) (e : Event) (es : List Event) (j : ℕ) → Some e ≡ Some (event.Put q v) → 0 ≡ length (values_put q (take (suc j) (e ∷ es))) → ⊥
none_before q v e es j is none =
    let some : length (values_put q (take (suc j) (e ∷ es))) ≡ suc (length (values_put q (take j es))) =
    rw (same_Some e (event.Put q v) is, eq-eqb q q refl) refl in
    absurd (omega (arith, none, some))

one_put_place : (q v w : ℕ) (es : List Event) (j k : ℕ) → slice_get es j ≡ Some (event.Put q v) → slice_get es k ≡ Some (event.Put q w)
    → length (values_put q (take j es)) ≡ length (values_put q (take k es)) → j ≡ k
one_put_place q v w [] j k at at' same = absurd (none-some (event.Put q v) at)
one_put_place q v w (e ∷ es) zero zero at at' same = refl
one_put_place q v w (e ∷ es) zero (suc k) at at' same = absurd (none_before q v e es k at same)
one_put_place q v w (e ∷ es) (suc j) zero at at' same = absurd (none_before q w e es j at' (sym same))
one_put_place q v w (e ∷ es) (suc j) (suc k) at at' same =
    ap suc (one_put_place q v w es j k at at' (one_less (value_put q e) (values_put q (take j es)) (values_put q (take k es)) same))

-- what event i of fiber f takes, where the histories leave the queues so
module _ (trace : ℕ → List Event) (last : ℕ → QueueState) (f i : ℕ) where
  abbrev Takes : ℕ → ℕ → Type 0
  Takes g j = TakesWhatWasPut trace (λ q state. state ≡ last q) f i g j

  pub taken_from : (g j q v : ℕ) (so : Takes g j) → slice_get (trace f) i ≡ Some (event.Got q v)
      → (so.queue ≡ q) × (taking_of (last q) f (length (values_got q (take i (trace f)))) ≡ Some so.taking)
  taken_from g j q v so at =
      let event_is : event.Got so.queue so.value ≡ event.Got q v = same_Some (event.Got so.queue so.value) (event.Got q v) (sym so.got ∙ at) in
      let queue_is : so.queue ≡ q = cc in
      let taken : taking_of (last so.queue) f (length (values_got so.queue (take i (trace f)))) ≡ Some so.taking =
      subst (λ (state : QueueState). taking_of state f (length (values_got so.queue (take i (trace f)))) ≡ Some so.taking) so.left so.taken in (
        queue_is,
        subst (λ (k : ℕ). taking_of (last k) f (length (values_got k (take i (trace f)))) ≡ Some so.taking) queue_is taken,
      )

  -- so it stands on one put
  pub one_put : (g j h k : ℕ) → Takes g j → Takes h k → (g ≡ h) × (j ≡ k)
  one_put g j h k so so' =
      let (queue_is, taken) = taken_from g j so'.queue so'.value so so'.got in
      let (same_queue, taken') = taken_from h k so'.queue so'.value so' so'.got in
      let taking_is : so.taking ≡ so'.taking = same_Some so.taking so'.taking (sym taken ∙ taken') in
      let fiber_is : g ≡ h = sym so.fiber ∙ ap (λ (t : Taking). t.item.fiber) taking_is ∙ so'.fiber in
      let put : slice_get (trace h) j ≡ Some (event.Put so'.queue so.value) =
      subst (λ (b : ℕ). slice_get (trace b) j ≡ Some (event.Put so'.queue so.value)) fiber_is
      (subst (λ (q : ℕ). slice_get (trace g) j ≡ Some (event.Put q so.value)) queue_is so.put) in
      let nth : length (values_put so'.queue (take j (trace h))) ≡ so.taking.item.nth =
      subst (λ (b : ℕ). length (values_put so'.queue (take j (trace b))) ≡ so.taking.item.nth) fiber_is
      (subst (λ (q : ℕ). length (values_put q (take j (trace g))) ≡ so.taking.item.nth) queue_is so.nth) in (
        fiber_is,
        one_put_place so'.queue so.value so'.value (trace h) j k put so'.put (nth ∙ ap (λ (t : Taking). t.item.nth) taking_is ∙ sym so'.nth),
      )
