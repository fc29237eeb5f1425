-- Three terms, each with the value of the one before.
use Rattle.std.proofs.Common.{◌≡◌, ℕ, Option, Some, None, List, [], ◌∷◌, refl, sym, ap, subst}
use Rattle.fx_term.specs.declared.done.Done.{Done}
use Rattle.fx_term.specs.declared.done.Done.TheVariants.{Val, Err}
use Rattle.fx_term.specs.declared.name_kind.NameKind.{NameKind}
use Rattle.fx_term.specs.declared.name_kind.NameKind.TheVariants as kind
use Rattle.fx_term.specs.Term.{Term, Let, Finished, put_named}
use Rattle.fx_term.specs.Scope.{with_named, IsScoped}
use Rattle.fx_term.proofs.NameUses.{put_other_poll, name_is}
use Rattle.fx_model.specs.Path.{Context, LetIn}
use Rattle.fx_laws.specs.Everywhere.{placed, Place, ShowTheSameEverywhere}
use Rattle.fx_laws.proofs.SilentRows.{let_value_leads, let_error_leads, leads_placed}
use Rattle.fx_laws.proofs.SameHere.{AreSameHere, same_itself, both_lead, one_leads, same_inside}
use Rattle.fx_laws.proofs.Showing.{showing, everywhere}

-- a number for a name that the last term does not have
put_in_let : (x y : Option ℕ) (n : ℕ) (b f : Term) → put_named x n f ≡ f → put_named x n (Let y b f) ≡ Let y (put_named x n b) f
put_in_let None y n b f h = refl
put_in_let (Some x) y n b f h = ap (λ (g : Term). Let y (put_named (Some x) n b) g) h

module _ (x y : Option ℕ) (a b f : Term) (unused : (n : ℕ) → put_named x n f ≡ f) (place : Place) where
  abbrev later : List Context
  later = LetIn x (Let y b f) ∷ []

  abbrev sooner : List Context
  sooner = LetIn y f ∷ LetIn x b ∷ []

  first_ends : (w : Done) → AreSameHere showing place (placed later (Finished w)) (placed sooner (Finished w))
  first_ends (Val n) =
      both_lead showing place (let_value_leads x n (Let y b f)) (leads_placed (LetIn y f ∷ []) (let_value_leads x n b))
      (record { closed = λ outer. refl; leaf_is = refl; clean = refl })
      (subst (λ (t : Term). AreSameHere showing place t (Let y (put_named x n b) f)) (sym (put_in_let x y n b f (unused n)))
      (same_itself showing place (Let y (put_named x n b) f)))
  first_ends (Err e) =
      both_lead showing place (let_error_leads x e (Let y b f)) (leads_placed (LetIn y f ∷ []) (let_error_leads x e b))
      (record { closed = λ outer. refl; leaf_is = refl; clean = refl })
      (λ c. let s = one_leads showing place (let_error_leads y e f) (record { closed = λ outer. refl; leaf_is = refl; clean = refl }) c in (s.1, s.0))

unused_in : (scope : ℕ → Option NameKind) (x : Option ℕ) (f : Term) → IsScoped (with_named x kind.OtherPoll scope) f → (n : ℕ) → put_named x n f ≡ f
unused_in scope None f h n = refl
unused_in scope (Some x) f h n = put_other_poll x (with_named (Some x) kind.OtherPoll scope) f (name_is x kind.OtherPoll scope) h n

pub bound_in_order : (scope : ℕ → Option NameKind) (x y : Option ℕ) (a b f : Term) → IsScoped (with_named x kind.OtherPoll scope) f
    → ShowTheSameEverywhere (Let x a (Let y b f)) (Let y (Let x a b) f)
bound_in_order scope x y a b f scoped =
    everywhere (Let x a (Let y b f)) (Let y (Let x a b) f)
    (λ place. same_inside showing place (LetIn x (Let y b f) ∷ []) (LetIn y f ∷ LetIn x b ∷ []) (λ outer. refl) (λ xs. refl)
    (first_ends x y a b f (unused_in scope x f scoped) place) a)
