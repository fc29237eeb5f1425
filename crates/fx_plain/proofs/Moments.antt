-- The moments of events as they come.
use Rattle.std.proofs.Common.{◌≡◌, ℕ, ◌<◌, List, length, ◌∙◌, ap, arith, inl, inr}
use Rattle.std.proofs.lemmas.Bool.{cases_eq}
use Rattle.fx_term.specs.declared.event.Event.{Event}
use Rattle.fx_term.specs.Maps.{with_at}
use Rattle.fx_term.proofs.MapLaws.{at_other}
use Rattle.fx_plain.proofs.Maps.{at_itself}

-- the moments of events, where event k of fiber f comes now
abbrev pub moment_after : (f k now : ℕ) → (ℕ → ℕ → ℕ) → ℕ → ℕ → ℕ
moment_after f k now moment = with_at f (with_at k now (moment f)) moment

pub moment_now : (f k now : ℕ) (moment : ℕ → ℕ → ℕ) → moment_after f k now moment f k ≡ now
moment_now f k now moment = ap (λ (row : ℕ → ℕ). row k) (at_itself f (with_at k now (moment f)) moment) ∙ at_itself k now (moment f)

pub moment_kept : (trace : ℕ → List Event) (f now : ℕ) (moment : ℕ → ℕ → ℕ) (g i : ℕ) → i < length (trace g)
    → moment_after f (length (trace f)) now moment g i ≡ moment g i
moment_kept trace f now moment g i lt = elim (cases_eq g f) [
  | inl same ↦
      (let long : length (trace g) ≡ length (trace f) = ap (λ (k : ℕ). length (trace k)) same in
      rw same (ap (λ (row : ℕ → ℕ). row i) (at_itself f (with_at (length (trace f)) now (moment f)) moment)
      ∙ at_other (length (trace f)) now (moment f) i (λ e. omega arith)))
  | inr ne ↦ ap (λ (row : ℕ → ℕ). row i) (at_other f (with_at (length (trace f)) now (moment f)) moment g ne)
]
