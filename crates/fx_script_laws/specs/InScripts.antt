-- Scripts that differ at places have the same lawful reports.
use Rattle.std.specs.Prelude.{◌≡◌, ◌↔◌, ℕ, Bool}
use Rattle.fx_term.specs.Term.{Term}
use Rattle.fx_term.specs.Script.{ScriptView}
use Rattle.fx_model.specs.MaskLaws.{IsPlain}
use Rattle.fx_model.specs.Scopes.{IsClosedTerm}
use Rattle.fx_model.specs.Report.{ReportView}
use Rattle.fx_model.specs.LawfulReport.{IsLawfulReport}
use Rattle.fx_model.specs.Causes.{IsLawfulInOneOrder}
use Rattle.fx_model.specs.Happenings.{IsLawfulInOneList}
use Rattle.fx_script_laws.specs.Cover.{Cover}
use Rattle.fx_script_laws.specs.Interchange.{IsWithOtherWhere}

-- a whole term as a script has it: each poll names its mask, and each name in it is bound in it and used as what it is
abbrev pub IsScriptTerm : Term → Type 0
IsScriptTerm t = IsPlain t × IsClosedTerm t

-- a report is lawful for both scripts or for neither, in one order of all events and in one list, too
pub record HaveSameReports (s z : ScriptView) (may : ℕ → Bool) (r : ReportView) : Type 0 where
  pub reports : IsLawfulReport s may r ↔ IsLawfulReport z may r
  pub orders : IsLawfulInOneOrder s may r ↔ IsLawfulInOneOrder z may r
  pub lists : IsLawfulInOneList s may r ↔ IsLawfulInOneList z may r

-- Two scripts have the same reports where they differ in this alone, that the two terms, with the same numbers for their names, are put for one another at some
-- places which are closed so. Both are terms as scripts have them, so that no number of a region, which tells how many masks were entered, stands in them
abbrev pub AreAlikeInScripts : (Cover → Bool) → (ℕ → Bool) → Term → Term → Type 0
AreAlikeInScripts there own t u =
    (s z : ScriptView) (may : ℕ → Bool) (r : ReportView) → IsScriptTerm s.term → IsScriptTerm z.term → IsWithOtherWhere there own t u s.term z.term
    → s.capacities ≡ z.capacities → HaveSameReports s z may r
