use Rattle.std.proofs.Common.{rules, ℕ, List, bytes_eq, Vec, ◌∙◌, sym}
use Rattle.std.specs.Global.{Global}
use Rattle.std.proofs.lemmas.Iterator.{YieldsList-from_slice}
use Rattle.std.proofs.lemmas.Iterator.Search.{any_from_yields_List}
use Rattle.fx_text.proofs.MappedLists.{list_any_map}
use Rattle.fx_findings.proofs.expected.is_one_of.Goals as goal

pub returns : goal.returns
returns c =
    any_from_yields_List (λ (report : Vec ℕ Global). bytes_eq report.items c.args.text.now) _ _ _ c.any.ensures.ran
    (YieldsList-from_slice c.args.reports.now c.iter.ensures.rest) (λ x b q k. search rules)
    ∙ sym (list_any_map (λ (report : Vec ℕ Global). report.items) (λ (report : List ℕ). bytes_eq report c.args.text.now) c.args.reports.now)
