-- A fiber that makes a step of the whole machine can step.
use Rattle.std.proofs.Common.{◌≡◌, ℕ, Bool, true, false, Some, List, [], ◌∷◌, length, refl, ◌∙◌, ap, arith}
use Rattle.std.specs.Prelude.{◌||◌, ◌&&◌, nat_lt, is_some}
use Rattle.fx_term.specs.declared.done.Done.TheVariants.{Val, Err}
use Rattle.std.proofs.lemmas.Bool.{or_left, or_right, lt-ltb}
use Rattle.std.proofs.lemmas.Option.{none-some}
use Rattle.fx_term.specs.Term.{Term, Finished}
use Rattle.fx_model.proofs.Paths.{leaf_plug}
use Rattle.fx_model.specs.Path.{leaf, is_open, must_cancel}
use Rattle.fx_model.specs.Row.{Counts, Label, Row}
use Rattle.fx_model.specs.Row as row
use Rattle.fx_model.specs.Step.{Progress, Step}
use Rattle.fx_model.specs.Step as step
use Rattle.fx_term.specs.Element.{Element}
use Rattle.fx_model.specs.Outside.{leaf_can_step, can_step}
use Rattle.fx_term.specs.Script.{ScriptView}
use Rattle.fx_plain.specs.WholeMachine.{WholeMachine, outside_of, can_step_fiber, can_step_in, front, IsAnswered, FiberSteps}

front_is_there : (xs : List Element) (n : ℕ) → front xs ≡ Some n → nat_lt 0 (length xs) ≡ true
front_is_there [] n e = absurd (none-some n e)
front_is_there (x ∷ xs) n e = lt-ltb 0 (length (x ∷ xs)) (omega arith)

last_of_three : (a b c : Bool) → c ≡ true → (a || b || c) ≡ true
last_of_three true b c e = refl
last_of_three false true c e = refl
last_of_three false false c e = e

module _ (s : ScriptView) (m : WholeMachine) (f : ℕ) where
  row_goes : {k : Bool} {c d : Counts} {l : Label} {t t' : Term} → Row k c t l d t' → IsAnswered s m f l → leaf_can_step (outside_of s m) (leaf t) ≡ true
  row_goes row.joined a = ap is_some a
  row_goes row.awaited a = ap is_some a
  row_goes row.first_left a = or_left _ _ (ap is_some a)
  row_goes row.first_right a = or_right _ _ (ap is_some a)
  row_goes row.offered a = a
  row_goes (row.taken {q = q} {n = n}) a = front_is_there (m.queues q) n a
  row_goes (row.inside g {a = b} e h r) a = rw (e, leaf_plug g b) (row_goes r a)
  row_goes _ a = refl

  pub step_goes : {c d : Counts} {p q : Progress} {l : Label} → Step c p l d q → IsAnswered s m f l → can_step (outside_of s m) f c p ≡ true
  step_goes (step.cancelled e) a = rw e refl
  step_goes (step.seen e o) a = rw (e, o, a) refl
  step_goes {c = c} (step.row {t = t} e r) a =
      last_of_three (must_cancel c.known t) (is_open t && m.requested f) (leaf_can_step (outside_of s m) (leaf t)) (row_goes r a)
  step_goes {c = c} (step.succeeds {n = n} e) a = last_of_three (must_cancel c.known (Finished (Val n))) (m.requested f) true refl
  step_goes {c = c} (step.errs {n = n} e) a = last_of_three (must_cancel c.known (Finished (Err n))) (m.requested f) true refl
  step_goes (step.cleans r) a = row_goes r a
  step_goes _ a = refl

-- a fiber that makes a step can step
pub steps_can : (s : ScriptView) (m : WholeMachine) (f : ℕ) (l : Label) (m' : WholeMachine) → FiberSteps s m f l m' → can_step_in s m f ≡ true
steps_can s m f l m' st = ap (can_step_fiber (outside_of s m) f) st.started ∙ step_goes s m f st.step st.answered
