-- What is so where no fiber is lost.
use Rattle.std.proofs.Common.{◌≡◌, ℕ, Option, Some, None, List, refl, sym, ◌∙◌, ap, inl, inr}
use Rattle.std.proofs.lemmas.Option.{none-some}
use Rattle.fx_fiber.specs.Bare.{BareView}
use Rattle.fx_run.specs.Reported.{bare_at, NoneIsLost, IsLost}

given_or : (bares : List BareView) (f : ℕ) → (bare_at bares f ≡ None → ⊥) → (x : BareView) × (bare_at bares f ≡ Some x)
given_or bares f not_none = by_bare (bare_at bares f) refl
  where
    by_bare : (o : Option BareView) → bare_at bares f ≡ o → (x : BareView) × (bare_at bares f ≡ Some x)
    by_bare None e = absurd (not_none e)
    by_bare (Some x) e = (x, e)

pub none_is_lost : (bares : List BareView) → ((f : ℕ) → IsLost bares f → ⊥) → NoneIsLost bares
none_is_lost bares none = record {
  main = given_or bares 0 (λ e. none 0 (e, inl refl));
  started = λ g y at f i. given_or bares f (λ e. none f (e, inr (g, y, at, i)));
}

pub not_lost : (bares : List BareView) → NoneIsLost bares → (f : ℕ) → IsLost bares f → ⊥
not_lost bares none f (nowhere, why) = elim why [
  | inl main ↦ none-some none.main.0 (sym nowhere ∙ ap (bare_at bares) main ∙ none.main.1)
  | inr by ↦ (let x = none.started by.0 by.1 by.2 f by.3 in none-some x.0 (sym nowhere ∙ x.1))
]
