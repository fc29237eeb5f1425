-- Runs that stand beside the fibers of a report, found by their numbers.
use Rattle.std.proofs.Common.{◌≡◌, ℕ, suc, ◌≤◌, Bool, true, false, Option, Some, List, [], ◌∷◌, All, map, refl, sym, ◌∙◌, ap, subst, arith, inl, inr}
use Rattle.std.specs.Prelude.{◌==◌}
use Rattle.std.specs.List.Sorted.{IsStrictlyIncreasing}
use Rattle.std.proofs.lemmas.Bool.{eq-eqb, eqb-true, ne_eqb}
use Rattle.std.proofs.lemmas.Option.{none-some, same_Some}
use Rattle.std.proofs.lemmas.List.Elements.{All-head, All-tail}
use Rattle.fx_term.specs.declared.node.Node.{Node}
use Rattle.fx_term.specs.Lists.{Among}
use Rattle.fx_model.specs.Outside.{Outside}
use Rattle.fx_model.specs.Report.{FiberReportView}
use Rattle.fx_report.proofs.Keys.{RisesFrom, found, rises_from}
use Rattle.fx_follow.specs.declared.stand.Stand.{Stand}
use Rattle.fx_follow.specs.Followed.{FiberRun, IsFollowed, AreEach}

abbrev pub id : FiberReportView → ℕ
id x = x.id

abbrev pub number : FiberRun → ℕ
number run = run.number

-- the run of that number
abbrev pub run_among : List FiberRun → ℕ → Option FiberRun
run_among runs f = found number f runs

-- fiber x of the report, which has that number, has a run among these
pub record HasItsRun (nodes : List Node) (o : Outside) (runs : List FiberRun) (f : ℕ) (x : FiberReportView) : Type 0 where
  pub stands : List Stand
  pub run : FiberRun
  pub at : run_among runs f ≡ Some run
  pub id_is : x.id ≡ f
  pub followed : IsFollowed nodes o x stands run

module _ (nodes : List Node) (o : Outside) where
  -- the run at the place of a fiber has the fiber's number
  pub same_numbers : (xs : List FiberReportView) (told : List (List Stand)) (runs : List FiberRun) → AreEach nodes o xs told runs → map number runs ≡ map id xs
  same_numbers [] [] [] each = refl
  same_numbers (x ∷ xs) (stands ∷ rest) (run ∷ runs) each = let head = each.0.number in let tail = same_numbers xs rest runs each.1 in cc
  same_numbers _ _ _ each = absurd each

  -- a fiber that is found has its run
  pub has_its_run : (xs : List FiberReportView) (told : List (List Stand)) (runs : List FiberRun) → AreEach nodes o xs told runs
      → (f : ℕ) (x : FiberReportView) → found id f xs ≡ Some x → HasItsRun nodes o runs f x
  has_its_run [] [] [] each f x e = absurd (none-some x e)
  has_its_run (y ∷ ys) (stands ∷ rest) (run ∷ runs) each f x e = by_test (y.id == f) refl (has_its_run ys rest runs each.1 f x)
    where
      test_is : (b : Bool) → (y.id == f) ≡ b → (run.number == f) ≡ b
      test_is b is = ap (λ (n : ℕ). n == f) each.0.number ∙ is

      by_test : (b : Bool) → (y.id == f) ≡ b → (found id f ys ≡ Some x → HasItsRun nodes o runs f x) → HasItsRun nodes o (run ∷ runs) f x
      by_test true is later =
          let same : y ≡ x = same_Some y x (rw is at e) in
          record {
            stands = stands;
            run = run;
            at = rw (test_is true is) refl;
            id_is = ap id (sym same) ∙ eqb-true y.id f is;
            followed = subst (λ (z : FiberReportView). IsFollowed nodes o z stands run) same each.0;
          }
      by_test false is later =
          let h = later (rw is at e) in
          record { stands = h.stands; run = h.run; at = rw (test_is false is) h.at; id_is = h.id_is; followed = h.followed }
  has_its_run _ _ _ each f x e = absurd each

-- what is so of all is so of the one found
pub found_holds : (P : FiberRun → Type 0) (f : ℕ) (runs : List FiberRun) (run : FiberRun) → All P runs → run_among runs f ≡ Some run → P run
found_holds P f [] run all e = absurd (none-some run e)
found_holds P f (q ∷ runs) run all e = by_test (q.number == f) refl (found_holds P f runs run (All-tail P q runs all))
  where
    by_test : (b : Bool) → (q.number == f) ≡ b → (run_among runs f ≡ Some run → P run) → P run
    by_test true is later = subst P (same_Some q run (rw is at e)) (All-head P q runs all)
    by_test false is later = later (rw is at e)

-- where the numbers rise, each run is found by its own
found_above : (n : ℕ) (runs : List FiberRun) (run : FiberRun) → RisesFrom number n runs → Among run runs
    → (n ≤ run.number) × (run_among runs run.number ≡ Some run)
found_above n [] run rises h = absurd h
found_above n (q ∷ runs) run rises h = elim h [
  | inl same ↦ subst (λ (z : FiberRun). (n ≤ z.number) × (run_among (q ∷ runs) z.number ≡ Some z)) (sym same)
      (rises.0, rw (eq-eqb q.number q.number refl) refl)
  | inr there ↦
      (let later = found_above (suc q.number) runs run rises.1 there in
      let low = rises.0 in
      let above = later.0 in
      (omega arith, rw (ne_eqb q.number run.number (λ same. omega arith)) later.1))
]

pub found_by_number : (runs : List FiberRun) (run : FiberRun) (f : ℕ) → IsStrictlyIncreasing (map number runs) → Among run runs → run.number ≡ f
    → run_among runs f ≡ Some run
found_by_number runs run f rises there is = ap (run_among runs) (sym is) ∙ (found_above 0 runs run (rises_from number runs rises) there).1
