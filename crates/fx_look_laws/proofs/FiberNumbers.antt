-- The fiber numbers of a lawful report are within those of its script.
use Rattle.std.proofs.Common.{◌≡◌, ℕ, ◌+◌, ◌<◌, ◌≤◌, Bool, Some, List, [], ◌∷◌, All, arith}
use Rattle.std.proofs.lemmas.List.Elements.{All-nil, All-cons}
use Rattle.fx_term.specs.Need.{need}
use Rattle.fx_term.specs.Script.{ScriptView}
use Rattle.fx_model.specs.Row.{Counts, Label, Silent, Shows, Learns, Starts}
use Rattle.fx_model.specs.Origin.{Origin, main_origin}
use Rattle.fx_model.specs.Step.{Progress, Runs}
use Rattle.fx_model.specs.NeedLeft.{need_left, HasRoom}
use Rattle.fx_model.specs.Run.{first_counts, Leads, IsRun}
use Rattle.fx_model.specs.Report.{FiberReportView, ReportView, fiber_in}
use Rattle.fx_model.specs.LawfulReport.{IsLawfulReport}
use Rattle.fx_model.proofs.HeadlineLaws.{numbers_above, each_begins_so}
use Rattle.fx_model.proofs.RangeLaws.{step_need}
use Rattle.fx_model.proofs.StartLaws.{StartsSo}
use Rattle.fx_model.proofs.StepLabels.{TakesNumbers, step_tells}

-- a fiber begins with room for its term, in a range that ends by then
record IsWithin (last : ℕ) (b : Origin) : Type 0 where
  pub room : HasRoom b
  pub below : b.end ≤ last

module _ (last : ℕ) where
  label_within : (c d : Counts) (left after : ℕ) (l : Label) → TakesNumbers c d l → d.end ≡ c.end → d.next + after ≤ c.next + left → c.next + left ≤ c.end
      → c.end ≤ last → StartsSo (IsWithin last) l
  label_within c d left after (Starts f b) t end n room below =
      let p = t.number in let q = t.next in let r = t.end in let s = t.after in record { room = omega arith; below = omega arith }
  label_within c d left after Silent t end n room below = tt
  label_within c d left after (Shows e) t end n room below = tt
  label_within c d left after (Learns f o e) t end n room below = tt

  leads_within : (c d : Counts) (p q : Progress) (ls : List Label) → Leads c p ls d q → c.next + need_left p ≤ c.end → c.end ≤ last
      → All (StartsSo (IsWithin last)) ls
  leads_within c d p q [] h room below = All-nil (StartsSo (IsWithin last))
  leads_within c d p q (l ∷ ls) h room below =
      let t = step_tells h.2 in
      let n = step_need h.2 in
      let end = t.end in
      All-cons (StartsSo (IsWithin last)) l ls (label_within c h.0 (need_left p) (need_left h.1) l t.takes t.end n room below)
      (leads_within h.0 d h.1 q ls h.3 (omega arith) (omega arith))

  run_within : (b : Origin) (ls : List Label) (c : Counts) (p : Progress) → IsWithin last b → IsRun b ls c p → All (StartsSo (IsWithin last)) ls
  run_within b ls c p w run = leads_within (first_counts b) c (Runs b.term) p ls run w.room w.below

module _ (s : ScriptView) (may : ℕ → Bool) (r : ReportView) (lawful : IsLawfulReport s may r) where
  pub number_within : (f : ℕ) (x : FiberReportView) → fiber_in r f ≡ Some x → f < 1 + need s.term
  number_within f x at =
      let last = 1 + need s.term in
      let main : IsWithin last (main_origin s.term) = record { room = omega arith; below = omega arith } in
      let w = each_begins_so s r lawful.starters lawful.runs lawful.origins (IsWithin last) (run_within last) main f x at in
      let above = numbers_above s r lawful.starters lawful.runs lawful.origins f x at in
      let room = w.room in
      let below = w.below in
      omega arith
