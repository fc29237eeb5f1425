use Rattle.std.proofs.Common.{◌≡◌, List, ◌++◌, ◌∷◌, [], map, append_assoc, arith, ◌∙◌}
use Rattle.std.proofs.lemmas.List.Elements.{All-cons}
use Rattle.fx_sched.specs.declared.worker.WorkerEnd.TheVariants.{Done}
use Rattle.fx_sched.proofs.rounds.given_back.Goals as goal

one_more : {A B : Type 0} (f : A → B) (ys : List B) (x : A) (xs : List A) → (ys ++ f x ∷ []) ++ map f xs ≡ ys ++ map f (x ∷ xs)
one_more f ys x xs = append_assoc ys (f x ∷ []) (map f xs)

pub loop-end-preserved : goal.loop-end-preserved
loop-end-preserved g c = record {
  shared = rw c.in_ok-push-in-Done.ensures.items (one_more (λ end. end.1) c.loop-end.shared.items (c.in-Some.end, c.in-Some.one) c.next.new.self.rest.items
      ∙ rw c.in-Some.ensures.steps.0 at c.loop-end.invariant.shared);
  done = λ rest. c.loop-end.invariant.done (rw c.in-Some.ensures.steps.0 (All-cons (λ end. end.0 ≡ Done) _ _ c.in-Done.is rest));
}

pub returns-clause-done : goal.returns-clause-done
returns-clause-done g c =
    let as_long = c.loop-end.end-iterator.rest.ok in
    c.loop-end.invariant.done (λ k d lt. absurd (omega (arith, lt, c.in-None.ensures.steps.0, as_long)))
