-- Whole scripts to which the laws of whole fibers are put.
use Rattle.std.proofs.Common.{◌≡◌, ℕ, ◌==◌, Bool, true, false, if◌then◌else◌, Option, None, Some, List, [], refl}
use Rattle.std.specs.Prelude.{is_none}
use Rattle.fx_term.specs.declared.name_kind.NameKind.{NameKind}
use Rattle.fx_term.specs.declared.name_kind.NameKind.TheVariants as kind
use Rattle.fx_term.specs.Scope.{with_name, elsewhere, IsScoped}
use Rattle.fx_term.specs.Term.{Term, Canceled, Let, For, Mask, Start}
use Rattle.fx_model.specs.MaskLaws.{IsPlain, forced_after}
use Rattle.fx_model.specs.LawfulReport.{IsLawfulReport}
use Rattle.fx_model.specs.Report.{ReportView}
use Rattle.fx_script_laws.specs.Filled.{none_bound, and_bound}
use Rattle.fx_script_laws.specs.Interchange.{with_numbers}
use Rattle.fx_look_laws.specs.FibersLookAlike.{BeginsWith, HasReportWithFibersLike, of_any}
use Rattle.fx_look_laws.specs.OtherFibers.{not_in, within, IsWithOtherFibers}
use Rattle.fx_look_laws.specs.OtherFibers as others
use Rattle.fx_look_laws.proofs.FiberLaws.{cancels_after}
use Rattle.fx_look_laws.proofs.FibersLook.{fibers_look}

-- the name of a loop is in scope there
loop_is_in : (scope : ℕ → Option NameKind) (i x : ℕ) → and_bound i none_bound x ≡ true → not_in (with_name i kind.Value scope) x ≡ false
loop_is_in scope i x = by_test (x == i)
  where
    by_test : (b : Bool) → (if b then true else false) ≡ true → is_none (if b then Some kind.Value else scope x) ≡ false
    by_test true e = refl
    by_test false e = absurd cc

module _ (scope : ℕ → Option NameKind) (i n h p : ℕ) (a b : Term) (capacities : List ℕ) (may : ℕ → Bool) (r : ReportView) (plain : IsPlain a)
    (scoped : IsScoped (with_name p kind.OtherPoll (elsewhere (with_name i kind.Value scope))) a) (all : (f : ℕ) → may f ≡ true)
    (lawful : IsLawfulReport (record { term = For i n (Start h (Mask p (Let None Canceled a)) b); capacities = capacities }) may r) where
  abbrev own : ℕ → Bool
  own = not_in (with_name i kind.Value scope)

  abbrev first : Term
  first = Mask p (Let None Canceled a)

  abbrev second : Term
  second = forced_after (Mask p a) Canceled

  in_turns : IsWithOtherFibers own first second (For i n (Start h first b)) (For i n (Start h second b))
  in_turns = within (others.for_ (others.starts (with_numbers [] tt (loop_is_in scope i)) others.same))

  pub cancels_in_turns : HasReportWithFibersLike (record { term = For i n (Start h (forced_after (Mask p a) Canceled) b); capacities = capacities }) may
      (BeginsWith (not_in (with_name i kind.Value scope)) (Mask p (Let None Canceled a))
      (record { term = For i n (Start h (Mask p (Let None Canceled a)) b); capacities = capacities }) may r lawful) r
  cancels_in_turns =
      fibers_look of_any own first second (cancels_after (with_name i kind.Value scope) p a plain scoped)
      (record { term = For i n (Start h first b); capacities = capacities }) (For i n (Start h second b)) may r in_turns lawful
      (λ f x at begins. (refl, all f))
