-- Scopes given by the kinds of their names in order.
use Rattle.std.proofs.Common.{◌≡◌, ℕ, suc, Option, Some, List, [], ◌∷◌, ◌++◌, length, sym, ◌∙◌, subst, inl, inr, arith, eq-eqb}
use Rattle.std.specs.Prelude.{slice_get}
use Rattle.std.proofs.lemmas.Bool.{cases_order, ne_eqb}
use Rattle.std.proofs.lemmas.List.{length_push}
use Rattle.std.proofs.lemmas.Option.{slice_get_past}
use Rattle.fx_term.specs.declared.name_kind.NameKind.{NameKind}
use Rattle.fx_term.specs.Term.{Term}
use Rattle.fx_term.specs.Scope.{with_name, HasLevels, IsScoped, IsInScope}
use Rattle.fx_term.proofs.NodeTerms.{get_before, get_last}

-- the scope under a binder with the next slot
pub scope_under : (kinds : List NameKind) (k : NameKind) (x : ℕ) → x ≡ length kinds
    → (λ (y : ℕ). slice_get (kinds ++ k ∷ []) y) ≡ with_name x k (λ y. slice_get kinds y)
scope_under kinds k x e = λ i y. at y i
  where
    at : (y : ℕ) → slice_get (kinds ++ k ∷ []) y ≡ with_name x k (λ z. slice_get kinds z) y
    at y = elim (cases_order y x) [
      | inl same ↦ rw (eq-eqb y x same) (subst (λ (z : ℕ). slice_get (kinds ++ k ∷ []) z ≡ Some k) (sym (same ∙ e)) (get_last kinds k))
      | inr (inl below) ↦ rw (ne_eqb y x (omega arith)) (get_before kinds k y (omega arith))
      | inr (inr above) ↦ rw (ne_eqb y x (omega arith)) (slice_get_past (kinds ++ k ∷ []) y (omega (arith, length_push kinds k))
          ∙ sym (slice_get_past kinds y (omega arith)))
    ]

pub length_suc : (kinds : List NameKind) (k : NameKind) → length (kinds ++ k ∷ []) ≡ suc (length kinds)
length_suc kinds k = omega (arith, length_push kinds k)

-- what is in scope with one more name, the next one
module _ (kinds : List NameKind) (k : NameKind) (x : ℕ) (next : x ≡ length kinds) (t : Term) where
  pub levels_under : IsInScope (kinds ++ k ∷ []) t → HasLevels (suc (length kinds)) t
  levels_under h = subst (λ (n : ℕ). HasLevels n t) (length_suc kinds k) h.levels

  pub scoped_under : IsInScope (kinds ++ k ∷ []) t → IsScoped (with_name x k (λ y. slice_get kinds y)) t
  scoped_under h = subst (λ (s : ℕ → Option NameKind). IsScoped s t) (scope_under kinds k x next) h.scoped

  pub in_scope_under : HasLevels (suc (length kinds)) t → IsScoped (with_name x k (λ y. slice_get kinds y)) t → IsInScope (kinds ++ k ∷ []) t
  in_scope_under levels scoped = record {
    levels = subst (λ (n : ℕ). HasLevels n t) (sym (length_suc kinds k)) levels;
    scoped = subst (λ (s : ℕ → Option NameKind). IsScoped s t) (sym (scope_under kinds k x next)) scoped;
  }
