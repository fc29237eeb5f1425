-- A fiber can step by lists of what is given exactly where it can by the report.
use Rattle.std.proofs.Common.{◌≡◌, ℕ, ◌<◌, Bool, false, Option, refl, ◌∙◌, ap}
use Rattle.std.specs.Prelude.{slice_index_or}
use mathlib.Core.Path.{fun_ext}
use Rattle.fx_term.specs.declared.node.Arg.TheVariants.{Number, Slot}
use Rattle.fx_term.specs.declared.outcome.Outcome.{Outcome}
use Rattle.fx_term.specs.Term.{Term, Never, Offer, Take, Join, Await, First}
use Rattle.fx_term.specs.Script.{ScriptView, total}
use Rattle.fx_model.specs.declared.closed.Closed.{Closed}
use Rattle.fx_model.specs.Closed.{outside_of}
use Rattle.fx_model.specs.Path.{leaf}
use Rattle.fx_model.specs.Row.{Counts}
use Rattle.fx_model.specs.Step.{Progress, Runs, Unwinds, CleansUp, HasEnded}
use Rattle.fx_model.specs.Outside.{Outside, leaf_can_step, can_step}
use Rattle.fx_model.specs.Report.{ReportView, final_outside}
use Rattle.fx_run.specs.ClosedAs.{IsClosedAs}

abbrev with_requests : Outside → (ℕ → Bool) → Outside
with_requests o r = record o { is_requested = r }

goes_alike : (o : Outside) (r : ℕ → Bool) (t : Term) → leaf_can_step (with_requests o r) t ≡ leaf_can_step o t
goes_alike o r Never = refl
goes_alike o r (Offer q v) = refl
goes_alike o r (Take q) = refl
goes_alike o r (Join (Number f) x a e b d) = refl
goes_alike o r (Join (Slot f) x a e b d) = refl
goes_alike o r (Await f) = refl
goes_alike o r (First (Number f) (Number g)) = refl
goes_alike o r (First (Number f) (Slot g)) = refl
goes_alike o r (First (Slot f) (Number g)) = refl
goes_alike o r (First (Slot f) (Slot g)) = refl
goes_alike o r _ = refl

-- whether a fiber can step depends on its own request alone
steps_alike : (o : Outside) (r : ℕ → Bool) (f : ℕ) (c : Counts) (p : Progress) → r f ≡ o.is_requested f → can_step (with_requests o r) f c p ≡ can_step o f c p
steps_alike o r f c (Runs t) e = let g = goes_alike o r (leaf t) in cc
steps_alike o r f c (Unwinds rest) e = refl
steps_alike o r f c (CleansUp k t rest) e = goes_alike o r (leaf t)
steps_alike o r f c (HasEnded x) e = refl

outside_alike : (s : ScriptView) (r : ReportView) (c : Closed) → IsClosedAs s r c
    → outside_of c ≡ with_requests (final_outside s r) (λ f. slice_index_or c.requested.items f false)
outside_alike s r c h = by_parts (fun_ext h.outcomes) (fun_ext h.room) (fun_ext h.element)
  where
    by_parts : {a a' : ℕ → Option Outcome} {b b' c c' : ℕ → Bool} {d : ℕ → Bool} → a ≡ a' → b ≡ b' → c ≡ c'
        → ◌≡◌ {A = Outside} (record { outcome = a; has_room = b; has_element = c; is_requested = d })
        (record { outcome = a'; has_room = b'; has_element = c'; is_requested = d })
    by_parts p q u = cc

pub closed_lists_tell : (s : ScriptView) (r : ReportView) (c : Closed) → IsClosedAs s r c → (f : ℕ) → f < total s → (n : Counts) (p : Progress)
    → can_step (outside_of c) f n p ≡ can_step (final_outside s r) f n p
closed_lists_tell s r c h f below n p =
    ap (λ (o : Outside). can_step o f n p) (outside_alike s r c h)
    ∙ steps_alike (final_outside s r) (λ g. slice_index_or c.requested.items g false) f n p (h.requested f below)
