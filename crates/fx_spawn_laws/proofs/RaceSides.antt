-- The four laws of a race of which one side never wins, for a side that uses no name from outside.
use Rattle.std.proofs.Common.{◌≡◌, ℕ, ◌+◌, Bool, Option, None, [], refl, sym, ◌∙◌, ap, subst, arith}
use Rattle.std.specs.Prelude.{nat_lt}
use Rattle.fx_term.specs.declared.name_kind.NameKind.{NameKind}
use Rattle.fx_term.specs.declared.name_kind.NameKind.TheVariants as kind
use Rattle.fx_term.specs.Need.{need}
use Rattle.fx_term.specs.Scope.{with_name, IsScoped}
use Rattle.fx_term.specs.Term.{Term, Canceled, Never, put}
use Rattle.fx_term.specs.Script.{ScriptView}
use Rattle.fx_term.proofs.NameUses.{put_other_poll, name_is}
use Rattle.fx_text.specs.Race.{race_slots, race}
use Rattle.fx_model.specs.MaskLaws.{IsScopedWithout}
use Rattle.fx_model.specs.Origin.{child_origin}
use Rattle.fx_model.specs.Scopes.{IsScopedOver}
use Rattle.fx_model.specs.Report.{ReportView}
use Rattle.fx_model.specs.Causes.{IsLawfulInOneOrder}
use Rattle.fx_model.proofs.PutScopes.{put_scoped}
use Rattle.fx_spawn_laws.specs.MainFiber.{MainEnds}
use Rattle.fx_spawn_laws.specs.Races.{MainFollows, MainEndsUnlessCanceled}
use Rattle.fx_spawn_laws.proofs.Requests.{BeginsAbove}
use Rattle.fx_spawn_laws.proofs.IgnoredNumbers.{BeginsBelow}
use Rattle.fx_spawn_laws.proofs.RaceIdentities.{left_canceled_follows, right_canceled_follows, left_never_follows, right_never_follows}

abbrev no_names : ℕ → Option NameKind
no_names x = None

-- a name that is not used may be left out of the scope
without : (scope : ℕ → Option NameKind) (x : ℕ) (t : Term) → IsScoped (with_name x kind.OtherPoll scope) t
    → ((n : ℕ) → put x n t ≡ t) × IsScoped scope t
without scope x t h =
    let same = put_other_poll x (with_name x kind.OtherPoll scope) t (name_is x kind.OtherPoll scope) h in
    (same, subst (IsScoped scope) (same 0) (put_scoped x 0 scope kind.OtherPoll t h))

module _ (s : ScriptView) (may : ℕ → Bool) (r : ReportView) (t : Term) (given : (is_given : ℕ → Bool) → IsScopedOver is_given s.term)
    (h : IsLawfulInOneOrder s may r) (alone : r.outside ≡ []) where
  -- t is the right side, in whose scope two names stand
  module _ (other : Term) (none : put 1 1 (put 0 0 other) ≡ other) (is : s.term ≡ race (race_slots 0) other t)
      (scoped : IsScopedWithout no_names 0 1 t) where
    right_is : put 1 1 (put 0 0 t) ≡ t
    right_is =
        let outer = without (with_name 1 kind.OtherPoll no_names) 0 t scoped in
        let inner = without no_names 1 t outer.1 in
        ap (put 1 1) (outer.0 0) ∙ inner.0 1

    right_over : (is_given : ℕ → Bool) → IsScopedOver is_given (put 1 1 (put 0 0 t))
    right_over is_given =
        let outer = without (with_name 1 kind.OtherPoll no_names) 0 t scoped in
        let inner = without no_names 1 t outer.1 in
        let uses = (subst (IsScopedOver is_given) is (given is_given)).1 in
        subst (IsScopedOver is_given) (sym right_is) (inner.1, uses.1.0)

    right_above : (m n : ℕ) → m ≡ n → BeginsAbove m (child_origin n (put 1 1 (put 0 0 t)))
    right_above m n same = (right_over (nat_lt m), omega (arith, same))

  pub canceled_left : s.term ≡ race (race_slots 0) Canceled t → IsScopedWithout no_names 0 1 t → MainFollows r 2 (child_origin 2 t) (MainEnds r)
  canceled_left is scoped =
      subst (λ (u : Term). MainFollows r 2 (child_origin 2 u) (MainEnds r)) (right_is Canceled refl is scoped)
      (left_canceled_follows s may r h alone Canceled t is (given (nat_lt 0)) refl (right_above Canceled refl is scoped 2 2 refl))

  pub never_left : s.term ≡ race (race_slots 0) Never t → IsScopedWithout no_names 0 1 t
      → MainFollows r 2 (child_origin 2 t) (MainEndsUnlessCanceled r)
  never_left is scoped =
      subst (λ (u : Term). MainFollows r 2 (child_origin 2 u) (MainEndsUnlessCanceled r)) (right_is Never refl is scoped)
      (left_never_follows s may r h alone Never t is (given (nat_lt 0)) refl (right_above Never refl is scoped 2 2 refl)
      (right_over Never refl is scoped (nat_lt 1), omega arith))

  -- t is the left side, in whose scope one name stands
  module _ (other : Term) (is : s.term ≡ race (race_slots 0) t other) (scoped : IsScoped (with_name 0 kind.OtherPoll no_names) t) where
    left_is : put 0 0 t ≡ t
    left_is = (without no_names 0 t scoped).0 0

    left_over : (is_given : ℕ → Bool) → IsScopedOver is_given (put 0 0 t)
    left_over is_given =
        let uses = (subst (IsScopedOver is_given) is (given is_given)).1 in
        subst (IsScopedOver is_given) (sym left_is) ((without no_names 0 t scoped).1, uses.0)

    left_above : BeginsAbove 1 (child_origin 1 (put 0 0 t))
    left_above = (left_over (nat_lt 1), omega arith)

    left_below : BeginsBelow (1 + (1 + need (put 0 0 t))) (child_origin 1 (put 0 0 t))
    left_below =
        record { scoped = left_over (λ f. nat_lt f (1 + (1 + need (put 0 0 t)))); room = omega arith; within = omega arith }

  pub canceled_right : s.term ≡ race (race_slots 0) t Canceled → IsScoped (with_name 0 kind.OtherPoll no_names) t
      → MainFollows r 1 (child_origin 1 t) (MainEnds r)
  canceled_right is scoped =
      subst (λ (u : Term). MainFollows r 1 (child_origin 1 u) (MainEnds r)) (left_is Canceled is scoped)
      (right_canceled_follows s may r h alone t Canceled is (given (nat_lt 0)) refl (left_above Canceled is scoped))

  pub never_right : s.term ≡ race (race_slots 0) t Never → IsScoped (with_name 0 kind.OtherPoll no_names) t
      → MainFollows r 1 (child_origin 1 t) (MainEndsUnlessCanceled r)
  never_right is scoped =
      subst (λ (u : Term). MainFollows r 1 (child_origin 1 u) (MainEndsUnlessCanceled r)) (left_is Never is scoped)
      (right_never_follows s may r h alone t Never is (given (nat_lt 0)) refl (left_above Never is scoped) (left_below Never is scoped))
