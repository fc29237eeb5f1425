-- A run with a label that tells an outcome has ended so, and its trace ends with that.
use Rattle.std.proofs.Common.{◌≡◌, Some, List, [], ◌∷◌, sym, ◌∙◌, ap, inl, inr}
use Rattle.fx_term.specs.declared.outcome.Outcome.{Outcome}
use Rattle.fx_model.specs.Row.{Counts, Label}
use Rattle.fx_model.specs.Origin.{Origin}
use Rattle.fx_model.specs.Step.{Progress}
use Rattle.fx_model.specs.Run.{Leads, IsRun, events}
use Rattle.fx_model.specs.Outside.{outcome_at}
use Rattle.fx_model.specs.LawfulReport.{EndsWith}
use Rattle.fx_model.proofs.OutcomeLaws.{end_of, step_end_of, stays_ended, run_stops}
use Rattle.fx_term.specs.Lists.{Among}

label_ends : (c d : Counts) (p q : Progress) (ls : List Label) (l : Label) (o : Outcome) → Leads c p ls d q → Among l ls → end_of l ≡ Some o
    → outcome_at q ≡ Some o
label_ends c d p q [] l o r i e = absurd i
label_ends c d p q (k ∷ ls) l o r (inl same) e = stays_ended r.0 d r.1 q ls o r.3 (step_end_of r.2 ∙ ap end_of (sym same) ∙ e)
label_ends c d p q (k ∷ ls) l o r (inr i) e = label_ends r.0 d r.1 q ls l o r.3 i e

pub label_ends_trace : (b : Origin) (ls : List Label) (c : Counts) (p : Progress) (l : Label) (o : Outcome) → IsRun b ls c p → Among l ls
    → end_of l ≡ Some o → EndsWith (events ls) o
label_ends_trace b ls c p l o r i e = (run_stops b ls c p o r (label_ends _ c _ p ls l o r i e)).ends
