-- Two scripts with such terms put for one another have the same lawful reports.
use Rattle.std.proofs.Common.{◌≡◌, ℕ, Bool, List, sym, ap, subst}
use Rattle.std.specs.Prelude.{◌↔◌}
use Rattle.fx_term.specs.Term.{Term}
use Rattle.fx_term.specs.Script.{ScriptView}
use Rattle.fx_model.specs.Outside.{Outside}
use Rattle.fx_model.specs.Row.{Counts, Label, Starts}
use Rattle.fx_model.specs.Origin.{main_origin}
use Rattle.fx_model.specs.Step.{Progress, Runs}
use Rattle.fx_model.specs.Run.{first_counts}
use Rattle.fx_model.specs.LawfulReport.{IsLawfulReport}
use Rattle.fx_model.specs.Report.{ReportView}
use Rattle.fx_model.specs.Causes.{IsLawfulInOneOrder}
use Rattle.fx_model.specs.Happenings.{IsLawfulInOneList}
use Rattle.fx_script_laws.specs.Cover.{Cover, uncovered}
use Rattle.fx_script_laws.specs.Filled.{none_bound, IsFilled}
use Rattle.fx_script_laws.specs.Filled as filled
use Rattle.fx_script_laws.specs.Interchange.{Where, AreInterchangeableWhere, IsWithOtherWhere}
use Rattle.fx_script_laws.specs.Interchange.{StopsThere, EitherWay, as_is, turned, AreTheTwo, WaitForTheSameWithNumbers, IsWithOther}
use Rattle.fx_script_laws.proofs.WholeTerms.{NothingElse, put_there, need_there, come_there}
use Rattle.fx_script_laws.proofs.WholeTerms.{stops_kept, either_puts, either_needs, either_come, two_put, two_need, two_come}
use Rattle.fx_script_laws.proofs.Holes.{ArePut}
use Rattle.fx_script_laws.proofs.Interchanged.{PairsCome}
use Rattle.fx_term.specs.Need.{need}
use Rattle.fx_script_laws.proofs.ReportsKept.{HoldsOfStarts, IsKeptByRuns, report_kept, order_kept, list_kept}

module _ {Pair : Cover → (ℕ → Bool) → Term → Term → Type 0} where
  turned_pair : {s : Cover} {v : ℕ → Bool} {t u : Term} → EitherWay Pair s v t u → EitherWay Pair s v u t
  turned_pair (as_is p) = turned p
  turned_pair (turned p) = as_is p

  pub turned_filled : {s : Cover} {v : ℕ → Bool} {t u : Term} → IsFilled (EitherWay Pair) s v t u → IsFilled (EitherWay Pair) s v u t
  turned_filled (filled.pair s) = filled.pair (turned_pair s)
  turned_filled filled.same = filled.same
  turned_filled (filled.let_ p q) = filled.let_ (turned_filled p) (turned_filled q)
  turned_filled (filled.handle p q) = filled.handle (turned_filled p) (turned_filled q)
  turned_filled (filled.if_ p q) = filled.if_ (turned_filled p) (turned_filled q)
  turned_filled (filled.for_ p) = filled.for_ (turned_filled p)
  turned_filled (filled.mask p) = filled.mask (turned_filled p)
  turned_filled (filled.poll p) = filled.poll (turned_filled p)
  turned_filled (filled.oncancel p q) = filled.oncancel (turned_filled p) (turned_filled q)
  turned_filled (filled.bracket p q r) = filled.bracket (turned_filled p) (turned_filled q) (turned_filled r)
  turned_filled (filled.bracket_case p q r s w) =
      filled.bracket_case (turned_filled p) (turned_filled q) (turned_filled r) (turned_filled s) (turned_filled w)
  turned_filled (filled.start p q) = filled.start (turned_filled p) (turned_filled q)
  turned_filled (filled.join p q r) = filled.join (turned_filled p) (turned_filled q) (turned_filled r)
  turned_filled (filled.try_take p q) = filled.try_take (turned_filled p) (turned_filled q)
  turned_filled (filled.masked p) = filled.masked (turned_filled p)
  turned_filled (filled.opened p) = filled.opened (turned_filled p)
  turned_filled (filled.in_use p q) = filled.in_use (turned_filled p) (turned_filled q)
  turned_filled (filled.in_use_case p q r s) = filled.in_use_case (turned_filled p) (turned_filled q) (turned_filled r) (turned_filled s)
  turned_filled (filled.in_release p) = filled.in_release (turned_filled p)
  turned_filled (filled.loop p) = filled.loop (turned_filled p)

-- two scripts that differ at places of such pairs
module _ {Pair : Cover → (ℕ → Bool) → Term → Term → Type 0} (puts : ArePut (EitherWay Pair))
    (needs : (s : Cover) (v : ℕ → Bool) (a b : Term) → EitherWay Pair s v a b → need a ≡ need b)
    {Holds : Counts → Progress → Type 0} (is : IsKeptByRuns Holds)
    (come : (o : Outside) (f : ℕ) (ended : Bool) → PairsCome (EitherWay Pair) (StopsThere o f ended) Holds) where
  abbrev HoldsAtFirst : Term → Type 0
  HoldsAtFirst t = Holds (first_counts (main_origin t)) (Runs t)

  abbrev AreWithPairs : Term → Term → Type 0
  AreWithPairs = IsFilled (EitherWay Pair) uncovered none_bound

  kept : (s : ScriptView) (b : Term) (may : ℕ → Bool) (r : ReportView) → AreWithPairs s.term b → HoldsAtFirst s.term → HoldsAtFirst b → IsLawfulReport s may r
      → IsLawfulReport (record { term = b; capacities = s.capacities }) may r
  kept = report_kept puts needs stops_kept is come

  in_order_too : (s : ScriptView) (b : Term) (may : ℕ → Bool) (r : ReportView) → AreWithPairs s.term b → HoldsAtFirst s.term → HoldsAtFirst b
      → IsLawfulInOneOrder s may r
      → IsLawfulInOneOrder (record { term = b; capacities = s.capacities }) may r
  in_order_too = order_kept puts needs stops_kept is come

  in_list_too : (s : ScriptView) (b : Term) (may : ℕ → Bool) (r : ReportView) → AreWithPairs s.term b → HoldsAtFirst s.term → HoldsAtFirst b
      → IsLawfulInOneList s may r
      → IsLawfulInOneList (record { term = b; capacities = s.capacities }) may r
  in_list_too = list_kept puts needs stops_kept is come

  module _ (s z : ScriptView) (may : ℕ → Bool) (r : ReportView) (terms : AreWithPairs s.term z.term) (capacities : s.capacities ≡ z.capacities)
      (main : HoldsAtFirst s.term) (main' : HoldsAtFirst z.term) where
    same_script : record { term = z.term; capacities = s.capacities } ≡ z
    same_script = ap (λ (cs : List ℕ). record { term = z.term; capacities = cs }) capacities

    report_too : IsLawfulReport s may r → IsLawfulReport z may r
    report_too h = subst (λ (x : ScriptView). IsLawfulReport x may r) same_script (kept s z.term may r terms main main' h)

    order_too : IsLawfulInOneOrder s may r → IsLawfulInOneOrder z may r
    order_too h = subst (λ (x : ScriptView). IsLawfulInOneOrder x may r) same_script (in_order_too s z.term may r terms main main' h)

    list_too : IsLawfulInOneList s may r → IsLawfulInOneList z may r
    list_too h = subst (λ (x : ScriptView). IsLawfulInOneList x may r) same_script (in_list_too s z.term may r terms main main' h)

  module _ (s z : ScriptView) (may : ℕ → Bool) (r : ReportView) (terms : AreWithPairs s.term z.term) (capacities : s.capacities ≡ z.capacities)
      (main : HoldsAtFirst s.term) (main' : HoldsAtFirst z.term) where
    pub reports_with_pairs : IsLawfulReport s may r ↔ IsLawfulReport z may r
    reports_with_pairs = (report_too s z may r terms capacities main main', report_too z s may r (turned_filled terms) (sym capacities) main' main)

    pub orders_with_pairs : IsLawfulInOneOrder s may r ↔ IsLawfulInOneOrder z may r
    orders_with_pairs = (order_too s z may r terms capacities main main', order_too z s may r (turned_filled terms) (sym capacities) main' main)

    pub lists_with_pairs : IsLawfulInOneList s may r ↔ IsLawfulInOneList z may r
    lists_with_pairs = (list_too s z may r terms capacities main main', list_too z s may r (turned_filled terms) (sym capacities) main' main)

always_kept : IsKeptByRuns NothingElse
always_kept = record { steps = λ c d p q l h s. tt; starts = λ c d p q l h s. always l }
  where
    always : (l : Label) → HoldsOfStarts NothingElse l
    always (Starts f b) = tt
    always _ = tt

module _ (own : ℕ → Bool) (t u : Term) (same : WaitForTheSameWithNumbers own t u) where
  puts : ArePut (EitherWay (AreTheTwo own t u))
  puts = either_puts (two_put own t u)

  needs : (s : Cover) (v : ℕ → Bool) (a b : Term) → EitherWay (AreTheTwo own t u) s v a b → need a ≡ need b
  needs = either_needs (two_need own t u same.needs)

  come : (o : Outside) (f : ℕ) (ended : Bool) → PairsCome (EitherWay (AreTheTwo own t u)) (StopsThere o f ended) NothingElse
  come o f ended = either_come (two_come own t u (λ numbers others. same.waits numbers others o f ended))

  module _ (s z : ScriptView) (may : ℕ → Bool) (r : ReportView) (terms : IsWithOther own t u s.term z.term) (capacities : s.capacities ≡ z.capacities) where
    pub same_reports : IsLawfulReport s may r ↔ IsLawfulReport z may r
    same_reports = reports_with_pairs puts needs always_kept come s z may r terms capacities tt tt

    pub same_orders : IsLawfulInOneOrder s may r ↔ IsLawfulInOneOrder z may r
    same_orders = orders_with_pairs puts needs always_kept come s z may r terms capacities tt tt

    pub same_lists : IsLawfulInOneList s may r ↔ IsLawfulInOneList z may r
    same_lists = lists_with_pairs puts needs always_kept come s z may r terms capacities tt tt

-- at places that are closed so
module _ (there : Cover → Bool) (own : ℕ → Bool) (t u : Term) (same : AreInterchangeableWhere there own t u) where
  puts_there : ArePut (EitherWay (Where there (AreTheTwo own t u)))
  puts_there = either_puts (put_there own t u there)

  needs_there : (s : Cover) (v : ℕ → Bool) (a b : Term) → EitherWay (Where there (AreTheTwo own t u)) s v a b → need a ≡ need b
  needs_there = either_needs (need_there own t u there same.needs)

  comes_there : (o : Outside) (f : ℕ) (ended : Bool) → PairsCome (EitherWay (Where there (AreTheTwo own t u))) (StopsThere o f ended) NothingElse
  comes_there o f ended = either_come (come_there own t u there (λ numbers others s place is at. same.waits numbers others o f ended s place is at))

  module _ (s z : ScriptView) (may : ℕ → Bool) (r : ReportView) (terms : IsWithOtherWhere there own t u s.term z.term)
      (capacities : s.capacities ≡ z.capacities) where
    pub reports_where : IsLawfulReport s may r ↔ IsLawfulReport z may r
    reports_where = reports_with_pairs puts_there needs_there always_kept comes_there s z may r terms capacities tt tt

    pub orders_where : IsLawfulInOneOrder s may r ↔ IsLawfulInOneOrder z may r
    orders_where = orders_with_pairs puts_there needs_there always_kept comes_there s z may r terms capacities tt tt

    pub lists_where : IsLawfulInOneList s may r ↔ IsLawfulInOneList z may r
    lists_where = lists_with_pairs puts_there needs_there always_kept comes_there s z may r terms capacities tt tt
