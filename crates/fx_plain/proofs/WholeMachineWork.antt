-- The work that is left to the fibers of a whole machine: each step of a fiber leaves less, so a run has no more of them than its script has work.
use Rattle.std.proofs.Common.{◌≡◌, ℕ, zero, suc, ◌+◌, ◌<◌, ◌≤◌, Option, Some, None, List, [], ◌∷◌, sym, ◌∙◌, ap, arith, inl, inr}
use Rattle.std.proofs.lemmas.Bool.{cases_eq}
use Rattle.fx_term.specs.Script.{ScriptView, total}
use Rattle.fx_model.specs.Origin.{main_origin}
use Rattle.fx_model.specs.Row.{Counts, Label, Silent, Shows, Learns, Starts}
use Rattle.fx_model.specs.Step.{Progress, Step}
use Rattle.fx_model.specs.Work.{work}
use Rattle.fx_model.proofs.AllWork.{work_of, work_started, step_leaves_less}
use Rattle.fx_model.proofs.RangeLaws.{step_need}
use Rattle.fx_model.proofs.StepLabels.{StartsNext, step_tells}
use Rattle.fx_plain.specs.WholeMachine.{StartedFiber, WholeMachine, begun, opening, fibers_after, stepped, moved, FiberSteps}
use Rattle.fx_plain.specs.WholeMachine.{Move, Steps, Requests, WholeMachineLeads, IsWholeMachineRun, steps_in}
use Rattle.fx_term.proofs.MapLaws.{at_other}
use Rattle.fx_plain.proofs.Maps.{at_itself}
use Rattle.fx_plain.proofs.RangesKept.{fresh, child_is_another}
use Rattle.fx_plain.proofs.LawfulRuns.{IsKept, opening_is_kept, step_keeps, request_keeps}

abbrev pub work_of_fiber : Option StartedFiber → ℕ
work_of_fiber None = 0
work_of_fiber (Some x) = work_of x.counts x.progress

-- a sum over numbers, from a on, of so many
abbrev pub sum_from : (ℕ → ℕ) → ℕ → ℕ → ℕ
sum_from g a zero = 0
sum_from g a (suc n) = g a + sum_from g (a + 1) n

pub same_sum : (g h : ℕ → ℕ) (a n : ℕ) → ((k : ℕ) → a ≤ k → k < a + n → g k ≡ h k) → sum_from g a n ≡ sum_from h a n
same_sum g h a zero e = omega arith
same_sum g h a (suc n) e =
    let here = e a (omega arith) (omega arith) in
    let rest = same_sum g h (a + 1) n (λ k low high. e k (omega arith) (omega arith)) in
    omega arith

-- two sums that differ at one number
changed_sum : (g h : ℕ → ℕ) (f a n : ℕ) → a ≤ f → f < a + n → ((k : ℕ) → (k ≡ f → ⊥) → g k ≡ h k) → sum_from h a n + g f ≡ sum_from g a n + h f
changed_sum g h f a zero low high e = absurd (omega arith)
changed_sum g h f a (suc n) low high e = elim (cases_eq a f) [
  | inl same ↦
      (let rest = same_sum g h (a + 1) n (λ k le lt. e k (λ at. omega arith)) in
      let p = ap g same in
      let q = ap h same in
      omega arith)
  | inr ne ↦ (let here = e a ne in let rest = changed_sum g h f (a + 1) n (omega arith) (omega arith) e in omega arith)
]

abbrev work_at : WholeMachine → ℕ → ℕ
work_at m f = work_of_fiber (m.fibers f)

-- the work that is left to the fibers of a whole machine
abbrev pub whole_machine_work : ScriptView → WholeMachine → ℕ
whole_machine_work s m = sum_from (work_at m) 0 (total s)

module _ (s : ScriptView) (m : WholeMachine) (f : ℕ) (x : StartedFiber) (d : Counts) (q : Progress) (at : m.fibers f ≡ Some x) (kept : IsKept s m) where
  abbrev before : ℕ → ℕ
  before k = work_of_fiber (m.fibers k)

  abbrev between : Label → ℕ → ℕ
  between l k = work_of_fiber (fibers_after f l m.fibers k)

  abbrev later : Label → ℕ → ℕ
  later l k = work_of_fiber ((moved m f x l d q).fibers k)

  -- with the child, before the starter moves on
  sum_between : (l : Label) → Step x.counts x.progress l d q → sum_from (between l) 0 (total s) ≡ sum_from before 0 (total s) + work_started l
  sum_between Silent st = omega arith
  sum_between (Shows e) st = omega arith
  sum_between (Learns g o e) st = omega arith
  sum_between (Starts g b) st =
      let t : StartsNext x.counts d g b = (step_tells st).takes in
      let need = step_need st in
      let room = kept.ranges.room f x at in
      let all = kept.ranges.below_total f x at in
      let p = t.number in let p1 = t.next in let p2 = t.end in let p3 = t.after in
      let below : g < total s = omega arith in
      let others = λ (k : ℕ) (ne : k ≡ g → ⊥). sym (ap work_of_fiber (at_other g (Some (begun (Some f) b)) m.fibers k ne)) in
      let change = changed_sum before (between (Starts g b)) g 0 (total s) (omega arith) (omega arith) others in
      let none : before g ≡ 0 = ap work_of_fiber (fresh s m f x d q at kept.ranges (Starts g b) st) in
      let two : 1 + (1 + work b.term) ≡ 2 + work b.term = omega arith in
      let new : between (Starts g b) g ≡ 2 + work b.term = ap work_of_fiber (at_itself g (Some (begun (Some f) b)) m.fibers) ∙ two in
      omega arith

  starter_between : (l : Label) → Step x.counts x.progress l d q → between l f ≡ work_of x.counts x.progress
  starter_between (Starts g b) st =
      ap work_of_fiber (at_other g (Some (begun (Some f) b)) m.fibers f (λ e. child_is_another s m f x d q at kept.ranges g b st (sym e)) ∙ at)
  starter_between Silent st = ap work_of_fiber at
  starter_between (Shows e) st = ap work_of_fiber at
  starter_between (Learns g o e) st = ap work_of_fiber at

  moved_leaves_less : (l : Label) → Step x.counts x.progress l d q → whole_machine_work s (moved m f x l d q) < whole_machine_work s m
  moved_leaves_less l st =
      let lt = kept.ranges.started_below f x at in
      let others = λ (k : ℕ) (ne : k ≡ f → ⊥). sym (ap work_of_fiber (at_other f (Some (stepped x l d q)) (fibers_after f l m.fibers) k ne)) in
      let change = changed_sum (between l) (later l) f 0 (total s) (omega arith) (omega arith) others in
      let new : later l f ≡ work_of d q = ap work_of_fiber (at_itself f (Some (stepped x l d q)) (fibers_after f l m.fibers)) in
      let old = starter_between l st in
      let sum = sum_between l st in
      let less = step_leaves_less st in
      omega arith

-- each step of a fiber leaves less work to the whole machine
pub fiber_step_leaves_less : (s : ScriptView) (m : WholeMachine) (f : ℕ) (l : Label) (m' : WholeMachine) → IsKept s m → FiberSteps s m f l m'
    → whole_machine_work s m' < whole_machine_work s m
fiber_step_leaves_less s m f l m' k st = rw st.after (moved_leaves_less s m f st.fiber st.counts st.progress st.started k l st.step)

leads_lower : (s : ScriptView) (m : WholeMachine) (vs : List Move) (last : WholeMachine) → WholeMachineLeads s m vs last → IsKept s m
    → steps_in vs + whole_machine_work s last ≤ whole_machine_work s m
leads_lower s m [] last r k = rw r (omega arith)
leads_lower s m (Steps f l ∷ vs) last r k =
    let here = fiber_step_leaves_less s m f l r.0 k r.1 in
    let rest = leads_lower s r.0 vs last r.2 (step_keeps s m f l r.0 r.1 k) in
    omega arith
leads_lower s m (Requests f ∷ vs) last r k =
    let here : whole_machine_work s r.0 ≡ whole_machine_work s m = ap (whole_machine_work s) r.1.1 in
    let rest = leads_lower s r.0 vs last r.2 (rw r.1.1 (request_keeps s m f r.1.0 k)) in
    omega arith

abbrev nothing : ℕ → ℕ
nothing k = 0

sum_of_nothing : (a n : ℕ) → sum_from nothing a n ≡ 0
sum_of_nothing a zero = omega arith
sum_of_nothing a (suc n) = let p = sum_of_nothing (a + 1) n in omega arith

-- the work before any step is that of the main fiber
opening_work : (s : ScriptView) → whole_machine_work s (opening s) ≡ 2 + work s.term
opening_work s =
    let main : Option StartedFiber = Some (begun None (main_origin s.term)) in
    let two : 1 + (1 + work s.term) ≡ 2 + work s.term = omega arith in
    let here : work_at (opening s) 0 ≡ 2 + work s.term = ap work_of_fiber (at_itself 0 main (λ f. None)) ∙ two in
    let others = λ (k : ℕ) (ne : k ≡ 0 → ⊥). sym (ap work_of_fiber (at_other 0 main (λ f. None) k ne)) in
    let change = changed_sum nothing (work_at (opening s)) 0 0 (total s) (omega arith) (omega arith) others in
    let none = sum_of_nothing 0 (total s) in
    omega arith

-- a run has no more steps of fibers than its script has work
pub run_is_bounded : (s : ScriptView) (vs : List Move) (last : WholeMachine) → IsWholeMachineRun s vs last → steps_in vs ≤ 2 + work s.term
run_is_bounded s vs last r = let p = leads_lower s (opening s) vs last r (opening_is_kept s) in let e = opening_work s in omega arith
