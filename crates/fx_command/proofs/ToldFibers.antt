-- All steps that are told of a run are of fibers that the script can have.
use Rattle.std.proofs.Common.{◌≡◌, ℕ, ◌+◌, ◌<◌, ◌≤◌, List, [], ◌∷◌, ◌++◌, sym, subst, arith}
use Rattle.fx_term.specs.declared.node.Node.{Node}
use Rattle.fx_term.specs.Script.{ScriptView, total}
use Rattle.fx_text.specs.declared.pick.Pick.{Pick}
use Rattle.fx_plain.specs.declared.told.Told.{Told}
use Rattle.fx_plain.specs.declared.told.Told.TheVariants.{Step, Request, Passed}
use Rattle.fx_plain.specs.WholeMachine.{WholeMachine, Move}
use Rattle.fx_plain.specs.Chosen.{IsChosen}
use Rattle.fx_plain.specs.Chosen as chosen
use Rattle.fx_plain.specs.ToldRun.{happenings, AreTold, TellsRun}
use Rattle.fx_plain.proofs.LawfulRuns.{IsKept, opening_is_kept, step_keeps, request_keeps}

-- all steps that are told are of fibers with a number below this one
abbrev pub IsBelow : ℕ → Told → Type 0
IsBelow n (Step made) = made.fiber < n
IsBelow n (Request f) = Unit {0}
IsBelow n (Passed x) = Unit {0}

abbrev pub AreBelow : ℕ → List Told → Type 0
AreBelow n [] = Unit {0}
AreBelow n (t ∷ told) = IsBelow n t × AreBelow n told

pub first_below : (n : ℕ) (before after : List Told) → AreBelow n (before ++ after) → AreBelow n before
first_below n [] after are = tt
first_below n (t ∷ before) after are = (are.0, first_below n before after are.1)

pub below_more : (n k : ℕ) → n ≤ k → (told : List Told) → AreBelow n told → AreBelow k told
below_more n k le [] are = tt
below_more n k le (Step made ∷ told) are = (let lt = are.0 in omega arith, below_more n k le told are.1)
below_more n k le (Request f ∷ told) are = (tt, below_more n k le told are.1)
below_more n k le (Passed x ∷ told) are = (tt, below_more n k le told are.1)

module _ (nodes : List Node) (s : ScriptView) where
  told_below : (place : ℕ) {ps : List Pick} {m last : WholeMachine} {vs : List Move} (c : IsChosen s ps m vs last) (told : List Told) → IsKept s m
      → AreTold nodes s (happenings place c) told → AreBelow (total s) told
  told_below place (chosen.step {f = f} {l = l} {m = m} {m' = m'} chose rest) (Step t ∷ told) k are = (
    subst (λ (g : ℕ). g < total s) (sym are.0.fiber) (k.ranges.started_below f chose.steps.fiber chose.steps.started),
    told_below (place + 1) rest told (step_keeps s m f l m' chose.steps k) are.1,
  )
  told_below place (chosen.no_step cannot rest) (Passed t ∷ told) k are = (tt, told_below (place + 1) rest told k are.1)
  told_below place (chosen.request {f = f} {m = m} below rest) (Request h ∷ told) k are =
      (tt, told_below (place + 1) rest told (request_keeps s m f below k) are.1)
  told_below place (chosen.no_request past rest) (Passed t ∷ told) k are = (tt, told_below (place + 1) rest told k are.1)
  told_below place (chosen.least {f = f} {l = l} {m = m} {m' = m'} is chose rest) (Step t ∷ told) k are = (
    subst (λ (g : ℕ). g < total s) (sym are.0.fiber) (k.ranges.started_below f chose.steps.fiber chose.steps.started),
    told_below place rest told (step_keeps s m f l m' chose.steps k) are.1,
  )
  told_below place (chosen.halts none) [] k are = tt
  told_below place (chosen.halts none) (t ∷ told) k are = absurd are
  told_below place c [] k are = absurd are
  told_below place c (t ∷ told) k are = absurd are.0

  -- so are those that are told first
  pub first_told_below : (ps : List Pick) (told before after : List Told) → TellsRun nodes s ps told → told ≡ before ++ after → AreBelow (total s) before
  first_told_below ps told before after t is =
      first_below (total s) before after (subst (AreBelow (total s)) is (told_below 1 t.chosen told (opening_is_kept s) t.tells))
