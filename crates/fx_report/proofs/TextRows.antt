-- Printed reports and traces, by computation.
use Rattle.std.proofs.Common.{◌≡◌, ℕ, Some, None, List, [], ◌∷◌, codes, refl}
use Rattle.std.specs.Prelude.{true, false}
use Rattle.std.specs.Fmt.{digits}
use Rattle.fx_term.specs.declared.outcome.Outcome.TheVariants.{Succeeded}
use Rattle.fx_term.specs.declared.outcome.Outcome.TheVariants as outcome
use Rattle.fx_term.specs.declared.event.Event.TheVariants as event
use Rattle.fx_model.specs.Report.{ReportView}
use Rattle.fx_report.specs.Text.{report_text, trace_text}

abbrev told : ReportView
told = record {
  fibers = record {
    id = 0;
    parent = None;
    has_ended = true;
    trace = event.Start 1 ∷ event.Put 0 12 ∷ event.Ended (Succeeded 6) ∷ [];
    stamps = 1 ∷ 2 ∷ 3 ∷ [];
  }
      ∷ record {
        id = 1;
        parent = Some 0;
        has_ended = true;
        trace = event.Seen ∷ event.Cancelled ∷ event.Ended outcome.Canceled ∷ [];
        stamps = 12 ∷ 13 ∷ 14 ∷ [];
      }
      ∷ record { id = 10; parent = Some 1; has_ended = false; trace = []; stamps = [] } ∷ [];
  left = (record { fiber = 0; nth = 0; value = 12 } ∷ record { fiber = 0; nth = 1; value = 3 } ∷ []) ∷ [] ∷ [];
  outside = [];
  late = 0;
}

abbrev names : List (List ℕ)
names = codes "q" ∷ codes "r" ∷ []

report_is : report_text names told ≡ codes "fiber 0 succeeded 6\nfiber 1 canceled\nfiber 10 blocked\nqueue q left 12 3\nqueue r left\n"
unfolding digits
report_is = refl

traces_are : trace_text names told ≡ codes "0 1 start 1\n0 2 put q 12\n0 3 ended succeeded 6\n1 12 seen\n1 13 cancelled\n1 14 ended canceled\n"
unfolding digits
traces_are = refl
