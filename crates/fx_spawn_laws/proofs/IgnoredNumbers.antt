-- Fibers that request no fiber of a given number: those that know of numbers above it alone, or below it alone, and those that do nothing.
use Rattle.std.specs.Prelude.{nat_lt}
use Rattle.std.specs.List.{list_any}
use Rattle.std.proofs.Common.{◌≡◌, ◌≢◌, ℕ, ◌+◌, ◌<◌, ◌≤◌, ◌⊎◌, inl, inr, Bool, true, false, Some, List, [], ◌∷◌, All, refl, sym, ◌∙◌, subst, arith, le_refl}
use Rattle.std.proofs.lemmas.Bool.{lt-ltb, le-ltb}
use Rattle.std.proofs.lemmas.List.Elements.{All-nil, All-cons, All-contains}
use Rattle.fx_term.specs.Script.{ScriptView}
use Rattle.fx_model.specs.NeedLeft.{need_left, HasRoom}
use Rattle.fx_model.specs.Row.{Counts, Label, Starts}
use Rattle.fx_model.specs.Origin.{Origin}
use Rattle.fx_model.specs.Step.{Progress, Runs}
use Rattle.fx_model.specs.Run.{first_counts, Leads, IsRun, events}
use Rattle.fx_model.specs.Scopes.{IsScopedOver, StartsScopedOver}
use Rattle.fx_model.specs.Report.{FiberReportView, ReportView, fiber_in, is_request_for}
use Rattle.fx_model.specs.LawfulReport.{IsLawfulReport}
use Rattle.fx_model.proofs.StartLaws.{StartsSo, HasStart}
use Rattle.fx_model.proofs.StepLabels.{IsProper, TakesNumbers, step_tells}
use Rattle.fx_model.proofs.RangeLaws.{step_need, run_need}
use Rattle.fx_model.proofs.ScopedRuns.{RequestsGiven, run_starts_scoped, run_requests_given}
use Rattle.fx_model.proofs.HeadlineLaws.{begin_told, each_so}
use Rattle.fx_spawn_laws.proofs.Requests.{AsksNone, IsBarren, Idle, leads_barren, barren_asks_none, given_asks_none, leads_proper, all_both}
use Rattle.fx_spawn_laws.proofs.Requests.{trace_asks_none, BeginsAbove, starts_above, asks_above}

-- a beginning that uses no number of a fiber but those below this one
pub record BeginsBelow (m : ℕ) (b : Origin) : Type 0 where
  pub scoped : IsScopedOver (λ f. nat_lt f m) b.term
  pub room : HasRoom b
  pub within : b.end ≤ m

-- a range that ends there or before
abbrev EndsBelow : ℕ → Origin → Type 0
EndsBelow m b = HasRoom b × (b.end ≤ m)

start_below : (m : ℕ) (c d : Counts) (p q : Progress) (l : Label) → TakesNumbers c d l → d.next + need_left q ≤ c.next + need_left p
    → c.next + need_left p ≤ c.end → c.end ≤ m → StartsSo (EndsBelow m) l
start_below m c d p q (Starts f b) takes less room within = let e = takes.end in let a = takes.after in (omega arith, omega arith)
start_below m c d p q _ takes less room within = tt

starts_within : (m : ℕ) (c d : Counts) (p q : Progress) (ls : List Label) → Leads c p ls d q → c.next + need_left p ≤ c.end → c.end ≤ m
    → All (StartsSo (EndsBelow m)) ls
starts_within m c d p q [] r room within = All-nil (StartsSo (EndsBelow m))
starts_within m c d p q (l ∷ ls) r room within =
    let tells = step_tells r.2 in
    let less = step_need r.2 in
    let same = tells.end in
    All-cons (StartsSo (EndsBelow m)) l ls (start_below m c r.0 p r.1 l tells.takes less room within)
    (starts_within m r.0 d r.1 q ls r.3 (omega arith) (omega arith))

leads_end : (c d : Counts) (p q : Progress) (ls : List Label) → Leads c p ls d q → d.end ≡ c.end
leads_end c d p q [] r = rw (r.0) refl
leads_end c d p q (l ∷ ls) r = leads_end r.0 d r.1 q ls r.3 ∙ (step_tells r.2).end

module _ (m : ℕ) (b : Origin) (ls : List Label) (c : Counts) (p : Progress) (so : BeginsBelow m b) (run : IsRun b ls c p) where
  given : (f : ℕ) → b.next ≤ f → f < c.next → nat_lt f m ≡ true
  given f low high =
      let room = run_need b ls c p so.room run in
      let same = leads_end (first_counts b) c (Runs b.term) p ls run in
      let within = so.within in
      lt-ltb f m (omega arith)

  starts_below : All (StartsSo (BeginsBelow m)) ls
  starts_below =
      all_both {P = StartsScopedOver (λ f. nat_lt f m)} {Q = StartsSo (EndsBelow m)} {R = StartsSo (BeginsBelow m)} both ls
      (run_starts_scoped (λ f. nat_lt f m) b ls c p so.scoped given run)
      (starts_within m (first_counts b) c (Runs b.term) p ls run so.room so.within)
    where
      both : (l : Label) → StartsScopedOver (λ f. nat_lt f m) l → StartsSo (EndsBelow m) l → StartsSo (BeginsBelow m) l
      both (Starts f a) h k = record { scoped = h; room = k.0; within = k.1 }
      both _ h k = tt

  asks_below : All (AsksNone m) ls
  asks_below =
      all_both {P = IsProper} {Q = RequestsGiven (λ f. nat_lt f m)} {R = AsksNone m}
      (given_asks_none (λ f. nat_lt f m) m (le-ltb m m (le_refl m))) ls (leads_proper _ _ _ _ ls run)
      (run_requests_given (λ f. nat_lt f m) b ls c p so.scoped given run)

-- what begins so requests no fiber of that number, and neither does what it starts
pub data Ignores (x : ℕ) (b : Origin) : Type 0 where
  above : BeginsAbove x b → Ignores x b
  below : BeginsBelow x b → Ignores x b
  idle : Idle (Runs b.term) → Ignores x b

module _ (x : ℕ) where
  starts_barren : (l : Label) → IsBarren l → StartsSo (Ignores x) l
  starts_barren (Starts f b) h = absurd h
  starts_barren _ h = tt

  weaken : (IsSo : Origin → Type 0) → ((b : Origin) → IsSo b → Ignores x b) → (ls : List Label) → All (StartsSo IsSo) ls → All (StartsSo (Ignores x)) ls
  weaken IsSo so ls all = all_both {P = StartsSo IsSo} {Q = StartsSo IsSo} {R = StartsSo (Ignores x)} (λ l h k. one l h) ls all all
    where
      one : (l : Label) → StartsSo IsSo l → StartsSo (Ignores x) l
      one (Starts f b) h = so b h
      one _ h = tt

  starts_ignoring : (b : Origin) (ls : List Label) (c : Counts) (p : Progress) → Ignores x b → IsRun b ls c p → All (StartsSo (Ignores x)) ls
  starts_ignoring b ls c p (above so) run = weaken (BeginsAbove x) (λ a h. above h) ls (starts_above x b ls c p so run)
  starts_ignoring b ls c p (below so) run = weaken (BeginsBelow x) (λ a h. below h) ls (starts_below x b ls c p so run)
  starts_ignoring b ls c p (idle so) run =
      let all = leads_barren (first_counts b) c (Runs b.term) p ls run so in
      all_both {P = IsBarren} {Q = IsBarren} {R = StartsSo (Ignores x)} (λ l h k. starts_barren l h) ls all all

  asks_ignoring : (b : Origin) (ls : List Label) (c : Counts) (p : Progress) → Ignores x b → IsRun b ls c p → All (AsksNone x) ls
  asks_ignoring b ls c p (above so) run = asks_above x b ls c p so run
  asks_ignoring b ls c p (below so) run = asks_below x b ls c p so run
  asks_ignoring b ls c p (idle so) run =
      let all = leads_barren (first_counts b) c (Runs b.term) p ls run so in
      all_both {P = IsBarren} {Q = IsBarren} {R = AsksNone x} (λ l h k. barren_asks_none x l h) ls all all

  module _ (s : ScriptView) (may : ℕ → Bool) (r : ReportView) (lawful : IsLawfulReport s may r)
      (children : All (StartsSo (Ignores x)) (lawful.runs.labels 0)) where
    abbrev IsMainOrIgnores : ℕ → Type 0
    IsMainOrIgnores f = (f ≡ 0) ⊎ Ignores x (lawful.runs.origin f)

    child_ignores : (p : ℕ) (y : FiberReportView) → fiber_in r p ≡ Some y → IsMainOrIgnores p → (f : ℕ) → HasStart (lawful.runs.labels p) f
        → IsMainOrIgnores f
    child_ignores p y at (inl main) f h =
        let k : HasStart (lawful.runs.labels 0) f = subst (λ (g : ℕ). HasStart (lawful.runs.labels g) f) main h in
        let at_main : fiber_in r 0 ≡ Some y = subst (λ (g : ℕ). fiber_in r g ≡ Some y) main at in
        inr (subst (Ignores x) (sym (begin_told s r lawful.starters lawful.runs lawful.origins f 0 y at_main k))
        (All-contains (StartsSo (Ignores x)) (lawful.runs.labels 0) (Starts f k.origin) children k.holds))
    child_ignores p y at (inr so) f h =
        let all = starts_ignoring (lawful.runs.origin p) (lawful.runs.labels p) (lawful.runs.counts p) (lawful.runs.progress p) so
        (lawful.runs.run p y at).run in
        inr (subst (Ignores x) (sym (begin_told s r lawful.starters lawful.runs lawful.origins f p y at h))
        (All-contains (StartsSo (Ignores x)) (lawful.runs.labels p) (Starts f h.origin) all h.holds))

    -- so none of the script does but the main one
    pub others_ignore : (f : ℕ) (y : FiberReportView) → fiber_in r f ≡ Some y → f ≢ 0
        → list_any (is_request_for x) (events (lawful.runs.labels f)) ≡ false
    others_ignore f y at ne = elim (each_so s r lawful.starters lawful.runs lawful.origins IsMainOrIgnores (inl refl) child_ignores f y at) [
      | inl e ↦ absurd (ne e)
      | inr so ↦
          trace_asks_none x (lawful.runs.labels f)
          (asks_ignoring (lawful.runs.origin f) (lawful.runs.labels f) (lawful.runs.counts f) (lawful.runs.progress f) so (lawful.runs.run f y at).run)
    ]
