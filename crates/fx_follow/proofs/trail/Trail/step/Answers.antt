use Rattle.std.proofs.Common.{◌≡◌, List, [], ◌++◌, append-nil, refl, sym, ◌∙◌, ap, subst, inl, inr}
use Rattle.std.specs.Global.{Vec}
use Rattle.fx_fiber.specs.Fiber.{FiberView}
use Rattle.fx_fiber.specs.MakesStep.{MakesStep, DoesStep}
use Rattle.fx_fiber.specs.PortFacts.{Facts}
use Rattle.fx_fiber.specs.declared.stepped.Stepped.{Stepped}
use Rattle.fx_fiber.specs.declared.stepped.Stepped.TheVariants.{Went, Gave, Ended}
use Rattle.fx_explore.specs.AnswerCalls.{answer_theory}
use Rattle.fx_explore.specs.declared.answers.Answers.{Answers}
use Rattle.fx_follow.proofs.Trails.{started_by, tries_on, keeps_outcomes}
use Rattle.fx_follow.proofs.trail.Trail.step.Goals as goal

pub returns-in_ok-push-in-Child-clause-trail : goal.returns-in_ok-push-in-Child-clause-trail
returns-in_ok-push-in-Child-clause-trail g c = λ outcome b told trail.
    let kept = c.in_ok-answer.ensures.kept in
    let children_are : c.push.new.self.items ≡ c.args.self.now.children.items ++ started_by c.in_ok-answer.answer =
    rw (c.in_ok-push-in-Child.ensures.items, c.in_ok-answer.ensures.children, c.in-Child.is) refl in
    tries_on g.J.CodeBrand.nodes outcome b c.args.self.now.fiber c.step_told.new.self.fiber c.args.answers.now c.step_told.new.answers
    c.in_ok-answer.answer kept.0 c.args.self.now.last_node c.step_told.new.self.last_node c.args.self.now.stands.items c.step_told.new.self.stands.items
    c.args.self.now.children.items c.push.new.self.items c.in_ok-answer.ensures.step kept.1 kept.2 children_are told trail

pub returns-in-Went : goal.returns-in-Went
returns-in-Went g c = record {
  trail = λ outcome b told trail. let kept = c.in_ok-answer.ensures.kept in
      tries_on g.J.CodeBrand.nodes outcome b c.args.self.now.fiber c.step_told.new.self.fiber c.args.answers.now c.step_told.new.answers
      c.in_ok-answer.answer kept.0 c.args.self.now.last_node c.step_told.new.self.last_node c.args.self.now.stands.items
      c.step_told.new.self.stands.items c.args.self.now.children.items c.step_told.new.self.children.items c.in_ok-answer.ensures.step kept.1 kept.2
      (ap (λ (v : Vec (FiberView Facts)). v.items) c.in_ok-answer.ensures.children ∙ sym (append-nil c.args.self.now.children.items)
      ∙ ap (λ (xs : List (FiberView Facts)). c.args.self.now.children.items ++ xs) (sym made.2))
      told trail;
  waits = tt;
  outcomes = keeps_outcomes g.J.CodeBrand.nodes c.args.self.now.fiber c.step_told.new.self.fiber c.args.answers.now c.step_told.new.answers made.0 made.1;
}
  where
    does : (answer : Stepped Facts Answers) → c.in_ok-answer.answer ≡ answer
        → DoesStep (answer_theory g.J.CodeBrand.nodes) c.args.self.now.fiber c.args.answers.now answer c.step_told.new.self.fiber c.step_told.new.answers
    does answer is =
        subst
        (λ (z : Stepped Facts Answers). DoesStep (answer_theory g.J.CodeBrand.nodes) c.args.self.now.fiber c.args.answers.now z
        c.step_told.new.self.fiber c.step_told.new.answers)
        is c.in_ok-answer.ensures.step

    -- its answer starts nothing
    made : (answer : Stepped Facts Answers)
        × MakesStep (answer_theory g.J.CodeBrand.nodes) c.args.self.now.fiber c.args.answers.now answer c.step_told.new.self.fiber c.step_told.new.answers
        × (started_by c.in_ok-answer.answer ≡ [])
    made = elim c.in-Went.is [
      | inl is ↦ (Went, does Went is, rw is refl)
      | inr (inl is) ↦ (Gave, does Gave is, rw is refl)
      | inr (inr is) ↦ (Ended, does Ended is, rw is refl)
    ]
