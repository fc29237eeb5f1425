-- What is given of fibers, and what a report says of them, by their numbers.
use Rattle.std.proofs.Common.{◌≡◌, ℕ, zero, suc, Option, Some, None, option_map, List, [], ◌∷◌, map, refl, sym, ◌∙◌, ap}
use Rattle.std.specs.Prelude.{◌==◌, slice_index_or}
use Rattle.std.proofs.lemmas.Bool.{eqb-true}
use Rattle.std.proofs.lemmas.Option.{none-some, same_Some}
use Rattle.fx_term.specs.declared.item.Item.{Item}
use Rattle.fx_term.specs.Element.{elements_of}
use Rattle.fx_model.specs.Report.{FiberReportView, ReportView, fiber_in}
use Rattle.fx_fiber.specs.Bare.{BareView}
use Rattle.fx_run.specs.RanFiber.{RanFiber, bares_of, ran_at}
use Rattle.fx_run.specs.Reported.{bare_at, report_of_bare, report_of}
use Rattle.fx_run.proofs.Members.{found_is, found_by_number}

abbrev pub bare_of_ran : RanFiber → BareView
bare_of_ran p = p.bare

-- what is left in a queue, without the stamps of the puts
pub left_is : (left : List (List Item)) (q : ℕ) → slice_index_or (map elements_of left) q [] ≡ elements_of (slice_index_or left q [])
left_is [] q = refl
left_is (xs ∷ left) zero = refl
left_is (xs ∷ left) (suc q) = left_is left q

-- a report by the fibers that were given to it
module _ (bares : List BareView) (left : List (List Item)) (outside : List ℕ) (late : ℕ) where
  abbrev pub reported : ReportView
  reported = report_of bares left outside late

  pub report_at : (f : ℕ) → fiber_in reported f ≡ option_map (report_of_bare bares) (bare_at bares f)
  report_at f = found_by_number (report_of_bare bares) (λ (x : FiberReportView). x.id) f bares

module _ (ps : List RanFiber) where
  pub id_at : (f : ℕ) (p : RanFiber) → ran_at ps f ≡ Some p → p.bare.id ≡ f
  id_at f p e = eqb-true p.bare.id f (found_is (λ (x : RanFiber). x.bare.id == f) ps p e).0

  pub bare_same : (f : ℕ) → bare_at (bares_of ps) f ≡ option_map bare_of_ran (ran_at ps f)
  bare_same f = found_by_number bare_of_ran (λ (b : BareView). b.id) f ps

  pub bare_in : (f : ℕ) (p : RanFiber) → ran_at ps f ≡ Some p → bare_at (bares_of ps) f ≡ Some p.bare
  bare_in f p e = bare_same f ∙ ap (option_map bare_of_ran) e

  -- a fiber without its port is one of those given
  pub record OfBare (f : ℕ) (b : BareView) : Type 0 where
    pub fiber : RanFiber
    pub at : ran_at ps f ≡ Some fiber
    pub is : b ≡ fiber.bare

  pub of_bare : (f : ℕ) (b : BareView) → bare_at (bares_of ps) f ≡ Some b → OfBare f b
  of_bare f b e = by_fiber (ran_at ps f) refl
    where
      by_fiber : (o : Option RanFiber) → ran_at ps f ≡ o → OfBare f b
      by_fiber None is = absurd (none-some b (sym (ap (option_map bare_of_ran) is) ∙ sym (bare_same f) ∙ e))
      by_fiber (Some p) is = record { fiber = p; at = is; is = same_Some b p.bare (sym e ∙ bare_same f ∙ ap (option_map bare_of_ran) is) }

  module _ (left : List (List Item)) (outside : List ℕ) (late : ℕ) where
    abbrev pub report : ReportView
    report = report_of (bares_of ps) left outside late

    -- what the report says of a fiber
    abbrev pub shown : Option RanFiber → Option FiberReportView
    shown o = option_map (report_of_bare (bares_of ps)) (option_map bare_of_ran o)

    pub report_same : (f : ℕ) → fiber_in report f ≡ shown (ran_at ps f)
    report_same f = report_at (bares_of ps) left outside late f ∙ ap (option_map (report_of_bare (bares_of ps))) (bare_same f)

    pub report_in : (f : ℕ) (p : RanFiber) → ran_at ps f ≡ Some p → fiber_in report f ≡ Some (report_of_bare (bares_of ps) p.bare)
    report_in f p e = report_same f ∙ ap shown e

    pub report_nowhere : (f : ℕ) → ran_at ps f ≡ None → fiber_in report f ≡ None
    report_nowhere f e = report_same f ∙ ap shown e

    -- a fiber of the report is one of those given
    pub record OfReport (f : ℕ) (x : FiberReportView) : Type 0 where
      pub fiber : RanFiber
      pub at : ran_at ps f ≡ Some fiber
      pub is : x ≡ report_of_bare (bares_of ps) fiber.bare

    pub of_report : (f : ℕ) (x : FiberReportView) → fiber_in report f ≡ Some x → OfReport f x
    of_report f x e = by_fiber (ran_at ps f) refl
      where
        by_fiber : (o : Option RanFiber) → ran_at ps f ≡ o → OfReport f x
        by_fiber None is = absurd (none-some x (sym (report_nowhere f is) ∙ e))
        by_fiber (Some p) is = record { fiber = p; at = is; is = same_Some x (report_of_bare (bares_of ps) p.bare) (sym e ∙ report_in f p is) }
