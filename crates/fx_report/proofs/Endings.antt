-- The trace of a run ends with an end exactly where the fiber has ended.
use Rattle.std.proofs.Common.{◌≡◌, ℕ, zero, suc, ◌+◌, ◌-◌, true, false, Some, None, List, [], ◌∷◌, drop, length, refl, sym, ◌∙◌, ap, arith}
use Rattle.std.specs.List.{list_any}
use Rattle.std.proofs.lemmas.List.{length-append}
use Rattle.std.proofs.lemmas.Option.{none-some}
use Rattle.std.proofs.Math.Seq.{drop-append_seam}
use Rattle.fx_term.specs.declared.outcome.Outcome.{Outcome}
use Rattle.fx_term.specs.declared.event.Event.{Event}
use Rattle.fx_term.specs.declared.event.Event.TheVariants as event
use Rattle.fx_model.specs.Row.{Counts, Label}
use Rattle.fx_model.specs.Origin.{Origin}
use Rattle.fx_model.specs.Step.{Progress, Runs, Unwinds, CleansUp, HasEnded, has_ended}
use Rattle.fx_model.specs.Run.{IsRun, events}
use Rattle.fx_model.specs.Outside.{outcome_at}
use Rattle.fx_model.specs.Report.{outcome_shown}
use Rattle.fx_model.specs.LawfulReport.{EndsWith}
use Rattle.fx_model.specs.Headline.{StopsAt}
use Rattle.fx_model.proofs.OutcomeLaws.{run_outcome, run_stops}
use Rattle.fx_report.specs.Text.{is_end, ends}

none_shown : (es : List Event) → outcome_shown es ≡ None → list_any is_end es ≡ false
none_shown [] e = refl
none_shown (event.Ended o ∷ es) e = absurd (none-some o (sym e))
none_shown (_ ∷ es) e = none_shown es e

none_in_rest : (n : ℕ) (es : List Event) → list_any is_end es ≡ false → list_any is_end (drop n es) ≡ false
none_in_rest zero es e = e
none_in_rest (suc n) [] e = refl
none_in_rest (suc n) (event.Ended o ∷ es) e = absurd cc
none_in_rest (suc n) (_ ∷ es) e = none_in_rest n es e

ended_ends : (trace : List Event) (o : Outcome) → EndsWith trace o → ends trace ≡ true
ended_ends trace o w =
    let last = event.Ended o ∷ [] in
    let long : length trace - 1 ≡ length w.before =
    (let e : length trace ≡ length w.before + 1 = ap length w.is ∙ length-append w.before last in omega arith) in
    ap (λ (n : ℕ). list_any is_end (drop n trace)) long ∙ ap (λ (es : List Event). list_any is_end (drop (length w.before) es)) w.is
    ∙ ap (list_any is_end) (drop-append_seam w.before last)

pub run_ends : (b : Origin) (ls : List Label) (c : Counts) (p : Progress) → IsRun b ls c p → ends (events ls) ≡ has_ended p
run_ends b ls c p r = by_progress p (run_outcome b ls c p r) (λ o e. run_stops b ls c p o r e)
  where
    going : outcome_shown (events ls) ≡ None → ends (events ls) ≡ false
    going e = none_in_rest (length (events ls) - 1) (events ls) (none_shown (events ls) e)

    by_progress : (q : Progress) → outcome_shown (events ls) ≡ outcome_at q → ((o : Outcome) → outcome_at q ≡ Some o → StopsAt (events ls) o)
        → ends (events ls) ≡ has_ended q
    by_progress (HasEnded o) e stops = ended_ends (events ls) o (stops o refl).ends
    by_progress (Runs t) e stops = going e
    by_progress (Unwinds rest) e stops = going e
    by_progress (CleansUp k t rest) e stops = going e
