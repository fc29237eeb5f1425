-- A turn of a fiber at a value comes to its end, and one at `cede` ends it only where it is canceled.
use Rattle.std.proofs.Common.{◌≡◌, ℕ, suc, ◌+◌, ◌<◌, ◌≤◌, Bool, true, false, Option, Some, None, List, [], refl, sym, ◌∙◌, ap, subst, arith, inl, inr}
use Rattle.std.specs.Prelude.{option_and_then}
use Rattle.std.proofs.lemmas.Option.{none-some}
use Rattle.fx_term.specs.declared.node.Node.{Node}
use Rattle.fx_term.specs.declared.node.Arg.TheVariants.{Number}
use Rattle.fx_term.specs.declared.done.Done.TheVariants.{Val}
use Rattle.fx_term.specs.declared.outcome.Outcome.{Outcome}
use Rattle.fx_term.specs.declared.outcome.Outcome.TheVariants.{Succeeded, Canceled}
use Rattle.fx_term.specs.declared.event.Event.TheVariants as event
use Rattle.fx_term.specs.Term.{Term, Pure, Cede, Finished}
use Rattle.fx_model.specs.Row.{Counts, Label, Silent, Shows, Learns, Starts, Row}
use Rattle.fx_model.specs.Row as rule
use Rattle.fx_model.specs.Step.{Progress, Runs, Unwinds, HasEnded, Step, has_ended, leaf_at}
use Rattle.fx_model.specs.Step as step
use Rattle.fx_model.specs.Waiting.{wait_at}
use Rattle.fx_model.specs.declared.source.Source.{Source}
use Rattle.fx_model.proofs.Paths.{no_context, result_has_no_row}
use Rattle.fx_fiber.specs.Fiber.{FiberView, progress}
use Rattle.fx_fiber.specs.MakesStep.{OnlyWaits, Answers, AnswersSilently, is_yielding}
use Rattle.fx_fiber.specs.Theory.{Theory}
use Rattle.fx_fiber.specs.Turns.{Goes, begins, went, waited, Turns}
use Rattle.fx_fiber.specs.declared.stepped.Stepped.{Stepped}
use Rattle.fx_fiber.specs.declared.stepped.Stepped.TheVariants as stepped
use Rattle.fx_fiber.specs.declared.turned.Turned.TheVariants as turned

-- an answer that a step does not give
module _ (P S : Type 0) (nodes : List Node) (leaf : Option Term) where
  never_gives : (l : Label) → is_yielding leaf ≡ false → Answers {P = P} {S = S} nodes leaf l stepped.Gave → ⊥
  never_gives Silent none h = let k : AnswersSilently {P = P} {S = S} false stepped.Gave = rw none at h in absurd cc
  never_gives (Shows (event.Ended o)) none h = absurd cc
  never_gives (Shows _) none h = absurd cc
  never_gives (Learns f o e) none h = absurd cc
  never_gives (Starts f b) none h = h

-- where a fiber can be that began at the value, and how many steps more it can make that do not end it
data IsOnItsWay : Bool → Progress → ℕ → Type 0 where
  value : IsOnItsWay false (Runs (Pure (Number 0))) 3
  value_known : IsOnItsWay true (Runs (Pure (Number 0))) 1
  result : IsOnItsWay false (Runs (Finished (Val 0))) 2
  result_known : IsOnItsWay true (Runs (Finished (Val 0))) 1
  unwinding : {known : Bool} → IsOnItsWay known (Unwinds []) 0

waits_for_nothing : {b : Bool} {p : Progress} {k : ℕ} → IsOnItsWay b p k → option_and_then wait_at (leaf_at p) ≡ None
waits_for_nothing value = refl
waits_for_nothing value_known = refl
waits_for_nothing result = refl
waits_for_nothing result_known = refl
waits_for_nothing unwinding = refl

never_yields : {b : Bool} {p : Progress} {k : ℕ} → IsOnItsWay b p k → is_yielding (leaf_at p) ≡ false
never_yields value = refl
never_yields value_known = refl
never_yields result = refl
never_yields result_known = refl
never_yields unwinding = refl

-- it goes on, or ends
data GoesOrEnds (k : ℕ) : Label → Counts → Progress → Type 0 where
  goes : {l : Label} {d : Counts} {q : Progress} (j : ℕ) → j < k → IsOnItsWay d.known q j → GoesOrEnds k l d q
  ends : {d : Counts} {q : Progress} (o : Outcome) → GoesOrEnds k (Shows (event.Ended o)) d q

value_row : {k : Bool} {c d : Counts} {l : Label} {u : Term} → Row k c (Pure (Number 0)) l d u → (d ≡ c) × (u ≡ Finished (Val 0))
value_row rule.pure = (refl, refl)
value_row (rule.inside f e g r) = absurd (no_context f _ _ refl e)

no_row : {k : Bool} {c d : Counts} {l : Label} {u : Term} → Row k c (Finished (Val 0)) l d u → ⊥
no_row r = result_has_no_row r refl

way_at : {b b' : Bool} {p : Progress} {k : ℕ} → b' ≡ b → IsOnItsWay b p k → IsOnItsWay b' p k
way_at {p = p} {k = k} e w = subst (λ (x : Bool). IsOnItsWay x p k) (sym e) w

way_steps : {b : Bool} {c d : Counts} {p q : Progress} {l : Label} {k : ℕ} → IsOnItsWay b p k → c.known ≡ b → Step c p l d q → GoesOrEnds k l d q
way_steps value is (step.cancelled must) = absurd (let e = is in cc)
way_steps value is (step.seen free opened) = goes 1 (omega arith) value_known
way_steps {d = d} value is (step.row free r) =
    let o = value_row r in
    goes 2 (omega arith) (subst (λ (t : Term). IsOnItsWay d.known (Runs t) 2) (sym o.1) (way_at (ap (λ (x : Counts). x.known) o.0 ∙ is) result))
way_steps value_known is (step.cancelled must) = goes 0 (omega arith) unwinding
way_steps value_known is (step.seen free opened) = absurd (let e = is in cc)
way_steps value_known is (step.row free r) = absurd (let e = is in cc)
way_steps result is (step.cancelled must) = absurd (let e = is in cc)
way_steps result is (step.seen free opened) = goes 1 (omega arith) result_known
way_steps result is (step.row free r) = absurd (no_row r)
way_steps result is (step.succeeds free) = ends (Succeeded 0)
way_steps result_known is (step.cancelled must) = goes 0 (omega arith) unwinding
way_steps result_known is (step.seen free opened) = absurd (let e = is in cc)
way_steps result_known is (step.row free r) = absurd (no_row r)
way_steps result_known is (step.succeeds free) = ends (Succeeded 0)
way_steps unwinding is step.unwound = ends Canceled

module _ {P S : Type 0} (theory : Theory P S) where
  record IsWithin (n : ℕ) (f : FiberView P) : Type 0 where
    pub left : ℕ
    pub way : IsOnItsWay f.counts.known (progress theory.code f) left
    pub few : n + left ≤ 3

  not_waiting : {f g : FiberView P} {s t : S} {wait : Source} {n : ℕ} → IsWithin n f → OnlyWaits theory f s wait g t → ⊥
  not_waiting w o = absurd (let e = waits_for_nothing w.way in let k = o.waits in none-some _ (sym e ∙ k))

  within : {first : FiberView P} {s : S} {f : FiberView P} {t : S} {n : ℕ} {b : Bool} → IsWithin 0 first → Goes theory first s n b f t → IsWithin n f
  within start begins = start
  within start (went {n = n} {f = f} {g = g} before made) =
      let w = within start before in by_step (leaf_at (progress theory.code f)) w.few (way_steps w.way refl made.step) made.answers
    where
      by_step : {l : Label} {k : ℕ} (leaf : Option Term) → n + k ≤ 3 → GoesOrEnds k l g.counts (progress theory.code g)
          → Answers {P = P} {S = S} theory.code leaf l stepped.Went → IsWithin (suc n) g
      by_step leaf few (goes j less way) a = record { left = j; way = way; few = omega arith }
      by_step leaf few (ends o) a = absurd cc
  within start (waited before waits told) = absurd (not_waiting (within start before) waits)

  start_of : {f : FiberView P} → progress theory.code f ≡ Runs (Pure (Number 0)) → IsWithin 0 f
  start_of {f} at = by_known f.counts.known refl
    where
      by_known : (b : Bool) → f.counts.known ≡ b → IsWithin 0 f
      by_known true is = record { left = 1; way = rw (is, at) value_known; few = omega arith }
      by_known false is = record { left = 3; way = rw (is, at) value; few = omega arith }

  -- a poll of a fiber at the value is not pending
  pub value_ends : (old new : FiberView P) (s t : S) → progress theory.code old ≡ Runs (Pure (Number 0)) → Turns theory old s None new t → ⊥
  value_ends old new s t at (inl w) = not_waiting (within (start_of at) w.goes) w.last
  value_ends old new s t at (inr (inl g)) =
      let w = within (start_of at) g.gave.goes in
      never_gives P S theory.code (leaf_at (progress theory.code g.gave.before)) g.gave.last.label (never_yields w.way) g.gave.last.answers
  value_ends old new s t at (inr (inr o)) = absurd (let w = within (start_of at) o.goes in let few = w.few in omega arith)

-- where a fiber can be that is at `cede`, as long as its turn goes on
data IsStillThere : Progress → Type 0 where
  turn : IsStillThere (Runs Cede)
  unwinding : IsStillThere (Unwinds [])

waits_for_none : {p : Progress} → IsStillThere p → option_and_then wait_at (leaf_at p) ≡ None
waits_for_none turn = refl
waits_for_none unwinding = refl

module _ (P S : Type 0) (nodes : List Node) where
  turn_row : {k : Bool} {c d : Counts} {l : Label} {u : Term} {answer : Stepped P S} → Row k c Cede l d u → Answers nodes (Some Cede) l answer
      → answer ≡ stepped.Gave
  turn_row rule.cede a = a
  turn_row (rule.inside f e g r) a = absurd (no_context f _ _ refl e)

  still_there : {c d : Counts} {p q : Progress} {l : Label} → IsStillThere p → Step c p l d q
      → Answers {P = P} {S = S} nodes (leaf_at p) l stepped.Went → IsStillThere q
  still_there turn (step.cancelled must) a = unwinding
  still_there turn (step.seen free opened) a = turn
  still_there turn (step.row free r) a = absurd (let e = turn_row r a in cc)
  still_there unwinding step.unwound a = absurd cc

  ended_there : {c d : Counts} {p q : Progress} {l : Label} → IsStillThere p → Step c p l d q
      → Answers {P = P} {S = S} nodes (leaf_at p) l stepped.Ended → q ≡ HasEnded Canceled
  ended_there turn (step.cancelled must) a = absurd cc
  ended_there turn (step.seen free opened) a = absurd cc
  ended_there turn (step.row free r) a = absurd (let e = turn_row r a in cc)
  ended_there unwinding step.unwound a = refl

module _ {P S : Type 0} (theory : Theory P S) where
  stays : {first : FiberView P} {s : S} {f : FiberView P} {t : S} {n : ℕ} {b : Bool} → IsStillThere (progress theory.code first) → Goes theory first s n b f t
      → IsStillThere (progress theory.code f)
  stays start begins = start
  stays start (went before made) = still_there P S theory.code (stays start before) made.step made.answers
  stays start (waited before waits told) = absurd (none-some _ (sym (waits_for_none (stays start before)) ∙ waits.waits))

  -- a poll of a fiber at `cede` that ends it has canceled it
  pub cede_ends_canceled : (old new : FiberView P) (s t : S) → progress theory.code old ≡ Runs Cede → Turns theory old s (Some turned.Ended) new t
      → progress theory.code new ≡ HasEnded Canceled
  cede_ends_canceled old new s t at (inl h) = absurd (let e = ap has_ended at in let k = h.ended in cc)
  cede_ends_canceled old new s t at (inr a) =
      let start : IsStillThere (progress theory.code old) = rw at turn in
      ended_there P S theory.code (stays start a.goes) a.last.step a.last.answers
