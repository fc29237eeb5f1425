-- What is left to a machine: each try of a fiber leaves less, since a step leaves less work, and a wait that is noted leaves one fiber less able.
use Rattle.std.proofs.Common.{◌≡◌, ℕ, zero, suc, ◌+◌, ◌*◌, ◌<◌, ◌≤◌, Bool, true, false, Option, Some, None, option_map, List, [], ◌∷◌, length, refl}
use Rattle.std.proofs.Common.{sym, ◌∙◌, ap, arith}
use Rattle.std.specs.Prelude.{slice_index_or, if◌then◌else◌}
use Rattle.std.proofs.lemmas.List.{length-map}
use Rattle.std.proofs.lemmas.List.Sums.{sum_by-cons}
use Rattle.std.proofs.Math.Nat.{suc-mul}
use Rattle.fx_term.specs.declared.node.Node.{Node}
use Rattle.fx_term.specs.Script.{ScriptView, total}
use Rattle.fx_model.specs.Row.{Label}
use Rattle.fx_model.proofs.AllWork.{work_of}
use Rattle.fx_plain.specs.declared.class.Class.{Class}
use Rattle.fx_plain.specs.declared.plain_machine.PlainMachine.{PlainMachine}
use Rattle.fx_plain.specs.WholeMachine.{StartedFiber, WholeMachine}
use Rattle.fx_plain.specs.Chosen.{ChosenStep}
use Rattle.fx_plain.specs.ClassSets.{is_able}
use Rattle.fx_plain.specs.World.{HeldFiber, held_of}
use Rattle.fx_plain.specs.PlainMachine.{able_count, all_held, StandsForRun, StandsForSome, Tries, steps, waits}
use Rattle.fx_plain.proofs.LawfulRuns.{run_keeps}
use Rattle.fx_plain.proofs.WholeMachineWork.{work_of_fiber, sum_from, same_sum, whole_machine_work, fiber_step_leaves_less}

abbrev work_of_held : Option HeldFiber → ℕ
work_of_held None = 0
work_of_held (Some x) = work_of x.counts x.progress

at_most_one : (b : Bool) → (if b then 1 else 0) ≤ 1
at_most_one true = omega arith
at_most_one false = omega arith

able_at_most : (classes : List Class) → able_count classes ≤ length classes
able_at_most [] = omega arith
able_at_most (k ∷ classes) =
    let rest = able_at_most classes in
    let one = at_most_one (is_able k) in
    let sum : able_count (k ∷ classes) ≡ (if is_able k then 1 else 0) + able_count classes = sum_by-cons (λ k. if is_able k then 1 else 0) k classes in
    omega arith

-- a number of turns that is less, by what may be done in one
turn_less : (w w' k : ℕ) → w' < w → w' * k + k ≤ w * k
turn_less zero w' k lt = absurd (omega arith)
turn_less (suc w) zero k lt = let e = suc-mul w k in let z : 0 * k ≡ 0 = omega arith in omega arith
turn_less (suc w) (suc w') k lt =
    let e = suc-mul w k in
    let f = suc-mul w' k in
    let rest = turn_less w w' k (omega arith) in
    omega arith

pub less_left : (w w' n a a' : ℕ) → w' < w → a' ≤ n → w' * (n + 1) + a' < w * (n + 1) + a
less_left w w' n a a' lt le = let turn = turn_less w w' (n + 1) lt in omega arith

held_work_is : (z : Option StartedFiber) → work_of_held (option_map held_of z) ≡ work_of_fiber z
held_work_is None = refl
held_work_is (Some x) = refl

module _ {J : Type 0} (nodes : List Node) where
  -- the work that is left to the fibers
  abbrev work_held : PlainMachine J → ℕ
  work_held p = sum_from (λ f. work_of_held (slice_index_or (all_held nodes p) f None)) 0 (length p.fibers.items)

  -- what is left: the work, and how many may be asked in vain before there is less of it
  abbrev pub left_of : PlainMachine J → ℕ
  left_of p = work_held p * (length p.fibers.items + 1) + able_count p.world.classes

  module _ (s : ScriptView) (p : PlainMachine J) (m : WholeMachine) (so : StandsForRun nodes s p m) where
    pub places : length p.fibers.items ≡ total s
    places = sym (length-map p.fibers.items _) ∙ so.stands.held_long

    pub work_is : work_held p ≡ whole_machine_work s m
    work_is =
        same_sum (λ f. work_of_held (slice_index_or (all_held nodes p) f None)) (λ f. work_of_fiber (m.fibers f)) 0 (length p.fibers.items)
        (λ f low high. ap work_of_held (so.stands.fibers f) ∙ held_work_is (m.fibers f))
        ∙ ap (sum_from (λ f. work_of_fiber (m.fibers f)) 0) places

    pub able_few : able_count p.world.classes ≤ total s
    able_few = let a = able_at_most p.world.classes in let e = so.tells.long in omega arith

  -- each step leaves less
  pub step_leaves_less : (s : ScriptView) (p p' : PlainMachine J) (m : WholeMachine) (f : ℕ) (l : Label) (m' : WholeMachine) → StandsForRun nodes s p m
      → ChosenStep s m f l m' → StandsForRun nodes s p' m' → left_of p' < left_of p
  step_leaves_less s p p' m f l m' so chosen so' =
      let less = fiber_step_leaves_less s m f l m' (run_keeps s so.moves m so.run) chosen.steps in
      rw (work_is s p m so, work_is s p' m' so', places s p m so, places s p' m' so')
      (less_left (whole_machine_work s m) (whole_machine_work s m') (total s) (able_count p.world.classes) (able_count p'.world.classes) less
      (able_few s p' m' so'))

  -- and so does a wait that is noted
  pub wait_leaves_less : (s : ScriptView) (p p' : PlainMachine J) (m : WholeMachine) → StandsForRun nodes s p m → StandsForRun nodes s p' m
      → able_count p'.world.classes < able_count p.world.classes → left_of p' < left_of p
  wait_leaves_less s p p' m so so' fewer =
      rw (work_is s p m so, work_is s p' m so', places s p m so, places s p' m so') (more (able_count p'.world.classes) (able_count p.world.classes) _ fewer)
    where
      more : (a b c : ℕ) → a < b → c + a < c + b
      more a b c lt = omega arith

  -- each try leaves less
  pub try_leaves_less : (s : ScriptView) (p p' : PlainMachine J) (m : WholeMachine) (f : ℕ) → StandsForRun nodes s p m → Tries nodes s m f p p'
      → left_of p' < left_of p
  try_leaves_less s p p' m f so (steps {l = l} {m' = m'} chosen so' noted) = step_leaves_less s p p' m f l m' so chosen so'
  try_leaves_less s p p' m f so (waits cannot so' fewer noted) = wait_leaves_less s p p' m so so' fewer

  -- of a machine that stands for some
  pub some_leaves_less : (p p' : PlainMachine J) (f : ℕ) → StandsForSome nodes p
      → ((s : ScriptView) (m : WholeMachine) → StandsForRun nodes s p m → Tries nodes s m f p p') → left_of p' < left_of p
  some_leaves_less p p' f some tries = try_leaves_less some.0 p p' some.1 f some.2 (tries some.0 some.1 some.2)
