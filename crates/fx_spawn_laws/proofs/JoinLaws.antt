-- What a main fiber comes to that starts a leaf and joins it.
use Rattle.std.proofs.Common.{◌≡◌, ℕ, Bool, Some, None, List, [], refl, ap, arith}
use Rattle.fx_term.specs.declared.node.Arg.TheVariants.{Number}
use Rattle.fx_term.specs.declared.outcome.Outcome.TheVariants.{Succeeded, Errored}
use Rattle.fx_term.specs.declared.outcome.Outcome.TheVariants as outcome
use Rattle.fx_term.specs.Term.{Pure, Raise, Canceled, Never}
use Rattle.fx_term.specs.Script.{ScriptView}
use Rattle.fx_model.specs.Row.{Label}
use Rattle.fx_model.specs.Run.{first_counts, events}
use Rattle.fx_model.specs.Origin.{child_origin}
use Rattle.fx_model.specs.Report.{ReportView}
use Rattle.fx_model.specs.LawfulReport.{starts_of, IsLawfulReport}
use Rattle.fx_spawn_laws.specs.MainFiber.{MainEnds, MainIsBlocked, start_and_join}
use Rattle.fx_spawn_laws.proofs.Outcomes.{pure_comes, raise_comes, never_comes}
use Rattle.fx_spawn_laws.proofs.StartedFibers.{canceled_child_ends}
use Rattle.fx_spawn_laws.proofs.StartAndJoin.{started, child_unrequested, child_tells, hands_back_ends, hands_back_waits}

module _ (s : ScriptView) (may : ℕ → Bool) (r : ReportView) (m : ℕ) where
  pub joined_value : (n : ℕ) → s.term ≡ start_and_join (Pure (Number n)) m → IsLawfulReport s may r → r.outside ≡ [] → MainEnds r (Succeeded n)
  joined_value n is lawful alone =
      hands_back_ends s may r lawful alone (Pure (Number n)) m is (λ g. (tt, tt)) (Succeeded n)
      (child_tells s may r lawful alone (Pure (Number n)) m is (λ g. (tt, tt)) (Some (Succeeded n))
      (pure_comes s r 1 (first_counts (child_origin 1 (Pure (Number n)))) refl n))

  pub joined_error : (n : ℕ) → s.term ≡ start_and_join (Raise (Number n)) m → IsLawfulReport s may r → r.outside ≡ [] → MainEnds r (Errored n)
  joined_error n is lawful alone =
      hands_back_ends s may r lawful alone (Raise (Number n)) m is (λ g. (tt, tt)) (Errored n)
      (child_tells s may r lawful alone (Raise (Number n)) m is (λ g. (tt, tt)) (Some (Errored n))
      (raise_comes s r 1 (first_counts (child_origin 1 (Raise (Number n)))) refl n))

  pub joined_canceled : s.term ≡ start_and_join Canceled m → IsLawfulReport s may r → r.outside ≡ [] → MainEnds r (Succeeded m)
  joined_canceled is lawful alone =
      let at = started s may r lawful alone Canceled m is (λ g. (tt, tt)) in
      hands_back_ends s may r lawful alone Canceled m is (λ g. (tt, tt)) outcome.Canceled
      (canceled_child_ends s may r lawful 1 (starts_of 1 (events at.labels)) (ap (λ (ls : List Label). starts_of 1 (events ls)) at.is)
      (child_origin 1 Canceled) refl (rw at.is (0, omega arith, refl)))

  pub joined_never : s.term ≡ start_and_join Never m → IsLawfulReport s may r → r.outside ≡ [] → MainIsBlocked r
  joined_never is lawful alone =
      hands_back_waits s may r lawful alone Never m is (λ g. (tt, tt))
      (child_tells s may r lawful alone Never m is (λ g. (tt, tt)) None
      (never_comes s r 1 (child_unrequested s may r lawful alone Never m is (λ g. (tt, tt))) (first_counts (child_origin 1 Never)) refl))
