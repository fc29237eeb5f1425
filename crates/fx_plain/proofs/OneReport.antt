-- A machine has one report, so picks have one replay.
use Rattle.std.proofs.Common.{◌≡◌, ℕ, Bool, Some, None, List, [], ◌∷◌, map, map-id, refl, sym, ◌∙◌, ap, subst, inl}
use Rattle.std.proofs.Common.{inr, ext_get_or}
use Rattle.std.specs.Prelude.{◌==◌, if◌then◌else◌}
use Rattle.std.specs.List.{find, list_any}
use Rattle.std.specs.List.Sorted.{IsStrictlyIncreasing}
use Rattle.std.proofs.lemmas.Bool.{cases_eq, eq-eqb, ne_eqb}
use Rattle.fx_term.specs.Element.{Element}
use Rattle.fx_term.specs.Script.{ScriptView}
use Rattle.fx_model.specs.Report.{FiberReportView, ReportView}
use Rattle.fx_text.specs.declared.pick.Pick.{Pick}
use Rattle.fx_plain.specs.WholeMachine.{WholeMachine}
use Rattle.fx_plain.specs.SettledRun.{IsReportOf}
use Rattle.fx_plain.specs.Chosen.{IsReplay}
use Rattle.fx_report.proofs.Keys.{same_lists}
use Rattle.fx_plain.proofs.LawfulRuns.{opening_is_kept}
use Rattle.fx_plain.proofs.OneRun.{one_run}

found_number : (f : ℕ) (xs : List ℕ) → find (λ y. y == f) xs ≡ (if list_any (λ g. g == f) xs then Some f else None)
found_number f [] = refl
found_number f (x ∷ xs) = elim (cases_eq x f) [ inl e ↦ rw (eq-eqb x f e) (ap Some e) | inr ne ↦ rw (ne_eqb x f ne) (found_number f xs) ]

pub one_report : (s : ScriptView) (m : WholeMachine) (r r' : ReportView) → IsReportOf s m r → IsReportOf s m r' → r ≡ r'
one_report s m r r' p p' = by_parts fibers left outside (p.in_time ∙ sym p'.in_time)
  where
    fibers : r.fibers ≡ r'.fibers
    fibers = same_lists (λ (x : FiberReportView). x.id) r.fibers r'.fibers p.ascending p'.ascending (λ f. p.fibers f ∙ sym (p'.fibers f))

    left : r.left ≡ r'.left
    left = ext_get_or [] r.left r'.left (p.left_by_queue ∙ sym p'.left_by_queue) (λ q lt. p.left q ∙ sym (p'.left q))

    ascends : (ns : List ℕ) → IsStrictlyIncreasing ns → IsStrictlyIncreasing (map (λ (n : ℕ). n) ns)
    ascends ns h = subst IsStrictlyIncreasing (sym (map-id ns)) h

    outside : r.outside ≡ r'.outside
    outside = same_lists (λ (n : ℕ). n) r.outside r'.outside (ascends r.outside p.outside_ascending) (ascends r'.outside p'.outside_ascending) (λ f.
        let same : list_any (λ g. g == f) r.outside ≡ list_any (λ g. g == f) r'.outside = p.outside f ∙ sym (p'.outside f) in
        found_number f r.outside ∙ ap (λ (b : Bool). if b then Some f else None) same ∙ sym (found_number f r'.outside))

    same_parts : {a a' : List FiberReportView} {b b' : List (List Element)} {c c' : List ℕ} {d d' : ℕ} → a ≡ a' → b ≡ b' → c ≡ c' → d ≡ d'
        → ◌≡◌ {A = ReportView} (record { fibers = a; left = b; outside = c; late = d }) (record { fibers = a'; left = b'; outside = c'; late = d' })
    same_parts a b c d = cc

    by_parts : r.fibers ≡ r'.fibers → r.left ≡ r'.left → r.outside ≡ r'.outside → r.late ≡ r'.late → r ≡ r'
    by_parts a b c d = same_parts a b c d

pub one_replay : (s : ScriptView) (ps : List Pick) (r r' : ReportView) → IsReplay s ps r → IsReplay s ps r' → r ≡ r'
one_replay s ps r r' h h' =
    let same = one_run s (opening_is_kept s) h.chosen h'.chosen in
    one_report s h.last r r' h.report (subst (λ (m : WholeMachine). IsReportOf s m r') (sym same.1) h'.report)
