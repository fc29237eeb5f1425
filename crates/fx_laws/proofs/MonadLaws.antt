-- The laws of a monad with errors.
use Rattle.std.proofs.Common.{◌≡◌, ℕ, Bool, Option, Some, [], ◌∷◌, refl, subst}
use Rattle.std.specs.Prelude.{◌↔◌}
use Rattle.std.proofs.lemmas.Bool.{eq-eqb}
use Rattle.fx_term.specs.declared.node.Arg.TheVariants.{Number, Slot}
use Rattle.fx_term.specs.declared.done.Done.{Done}
use Rattle.fx_term.specs.declared.done.Done.TheVariants.{Val, Err}
use Rattle.fx_term.specs.Term.{Term, Pure, Raise, Cede, Let, Handle, Finished, put_named}
use Rattle.fx_model.specs.Path.{LetIn, HandleIn}
use Rattle.fx_model.specs.Row.{Counts, Label, Silent, Row}
use Rattle.fx_model.specs.Row as rule
use Rattle.fx_model.proofs.Paths.{no_context}
use Rattle.fx_laws.specs.Everywhere.{Place, ShowTheSameEverywhere, ShowTheSameEverywhereUnlessSeenFirst, ShowsItOrIsCanceledBefore}
use Rattle.fx_laws.proofs.SilentRows.{LeadsSilently, pure_leads, raise_leads, let_value_leads, let_error_leads, handle_value_leads, handle_error_leads}
use Rattle.fx_laws.proofs.SilentRows.{leads_placed}
use Rattle.fx_laws.proofs.SameHere.{AreSameHere, same_itself, same_too, both_lead, one_leads, same_inside}
use Rattle.fx_laws.proofs.Showing.{showing, everywhere}
use Rattle.fx_laws.proofs.ForcingLaws.{first_is_nothing}
use Rattle.fx_laws.proofs.CanceledBefore.{first_exactly}

-- the value that comes first
module _ (x : Option ℕ) (n : ℕ) (b : Term) where
  value_comes : (place : Place) → AreSameHere showing place (Let x (Pure (Number n)) b) (Let x (Finished (Val n)) b)
  value_comes place =
      one_leads showing place (leads_placed (LetIn x b ∷ []) (pure_leads n)) (record { closed = λ outer. refl; leaf_is = refl; clean = refl })

  pub value_is_put : ShowTheSameEverywhereUnlessSeenFirst (Let x (Pure (Number n)) b) (put_named x n b)
  value_is_put = first_is_nothing (let_value_leads x n b) (record { closed = λ outer. refl; leaf_is = refl; clean = refl }) value_comes

  pub value_is_put_exactly : ShowsItOrIsCanceledBefore (Let x (Pure (Number n)) b) (put_named x n b)
  value_is_put_exactly =
      first_exactly (let_value_leads x n b) (record { closed = λ outer. refl; leaf_is = refl; clean = refl })
      (record { closed = λ outer. refl; leaf_is = refl; clean = refl }) value_comes

  error_comes : (place : Place) → AreSameHere showing place (Handle (Raise (Number n)) x b) (Handle (Finished (Err n)) x b)
  error_comes place =
      one_leads showing place (leads_placed (HandleIn x b ∷ []) (raise_leads n)) (record { closed = λ outer. refl; leaf_is = refl; clean = refl })

  pub error_is_put : ShowTheSameEverywhereUnlessSeenFirst (Handle (Raise (Number n)) x b) (put_named x n b)
  error_is_put = first_is_nothing (handle_error_leads x n b) (record { closed = λ outer. refl; leaf_is = refl; clean = refl }) error_comes

  pub error_is_put_exactly : ShowsItOrIsCanceledBefore (Handle (Raise (Number n)) x b) (put_named x n b)
  error_is_put_exactly =
      first_exactly (handle_error_leads x n b) (record { closed = λ outer. refl; leaf_is = refl; clean = refl })
      (record { closed = λ outer. refl; leaf_is = refl; clean = refl }) error_comes

  -- an error with a part after it, and a value with a handler round it
  pub error_is_first : ShowTheSameEverywhere (Let x (Raise (Number n)) b) (Raise (Number n))
  error_is_first =
      everywhere (Let x (Raise (Number n)) b) (Raise (Number n))
      (λ place. both_lead showing place (leads_placed (LetIn x b ∷ []) (raise_leads n)) (raise_leads n)
      (record { closed = λ outer. refl; leaf_is = refl; clean = refl })
      (one_leads showing place (let_error_leads x n b) (record { closed = λ outer. refl; leaf_is = refl; clean = refl })))

  pub value_is_kept : ShowTheSameEverywhere (Handle (Pure (Number n)) x b) (Pure (Number n))
  value_is_kept =
      everywhere (Handle (Pure (Number n)) x b) (Pure (Number n))
      (λ place. both_lead showing place (leads_placed (HandleIn x b ∷ []) (pure_leads n)) (pure_leads n)
      (record { closed = λ outer. refl; leaf_is = refl; clean = refl })
      (one_leads showing place (handle_value_leads x n b) (record { closed = λ outer. refl; leaf_is = refl; clean = refl })))

-- the name is that of its number
pub pure_put : (x n : ℕ) → put_named (Some x) n (Pure (Slot x)) ≡ Pure (Number n)
pure_put x n = rw (eq-eqb x x refl) refl

pub raise_put : (x n : ℕ) → put_named (Some x) n (Raise (Slot x)) ≡ Raise (Number n)
raise_put x n = rw (eq-eqb x x refl) refl

module _ (x : ℕ) (a : Term) (place : Place) where
  value_again : (w : Done) → AreSameHere showing place (Let (Some x) (Finished w) (Pure (Slot x))) (Finished w)
  value_again (Val n) =
      same_too showing place (Let (Some x) (Finished (Val n)) (Pure (Slot x))) (Pure (Number n)) (Finished (Val n))
      (one_leads showing place (subst (λ (t : Term). LeadsSilently (Let (Some x) (Finished (Val n)) (Pure (Slot x))) t) (pure_put x n)
      (let_value_leads (Some x) n (Pure (Slot x)))) (record { closed = λ outer. refl; leaf_is = refl; clean = refl }))
      (one_leads showing place (pure_leads n) (record { closed = λ outer. refl; leaf_is = refl; clean = refl }))
  value_again (Err n) =
      one_leads showing place (let_error_leads (Some x) n (Pure (Slot x))) (record { closed = λ outer. refl; leaf_is = refl; clean = refl })

  error_again : (w : Done) → AreSameHere showing place (Handle (Finished w) (Some x) (Raise (Slot x))) (Finished w)
  error_again (Val n) =
      one_leads showing place (handle_value_leads (Some x) n (Raise (Slot x))) (record { closed = λ outer. refl; leaf_is = refl; clean = refl })
  error_again (Err n) =
      same_too showing place (Handle (Finished (Err n)) (Some x) (Raise (Slot x))) (Raise (Number n)) (Finished (Err n))
      (one_leads showing place (subst (λ (t : Term). LeadsSilently (Handle (Finished (Err n)) (Some x) (Raise (Slot x))) t) (raise_put x n)
      (handle_error_leads (Some x) n (Raise (Slot x)))) (record { closed = λ outer. refl; leaf_is = refl; clean = refl }))
      (one_leads showing place (raise_leads n) (record { closed = λ outer. refl; leaf_is = refl; clean = refl }))

pub value_given_again : (x : ℕ) (a : Term) → ShowTheSameEverywhere (Let (Some x) a (Pure (Slot x))) a
value_given_again x a =
    everywhere (Let (Some x) a (Pure (Slot x))) a
    (λ place. same_inside showing place (LetIn (Some x) (Pure (Slot x)) ∷ []) [] (λ outer. refl) (λ xs. refl) (value_again x a place) a)

pub error_raised_again : (x : ℕ) (a : Term) → ShowTheSameEverywhere (Handle a (Some x) (Raise (Slot x))) a
error_raised_again x a =
    everywhere (Handle a (Some x) (Raise (Slot x))) a
    (λ place. same_inside showing place (HandleIn (Some x) (Raise (Slot x)) ∷ []) [] (λ outer. refl) (λ xs. refl) (error_again x a place) a)

pub cede_leads : LeadsSilently Cede (Finished (Val 0))
cede_leads = record { there = λ k c. rule.cede; only = λ k c d l w r. one r; going = λ w e. cc }
  where
    one : {k : Bool} {c d : Counts} {l : Label} {w : Term} → Row k c Cede l d w → (l ≡ Silent) × (d ≡ c) × (w ≡ Finished (Val 0))
    one rule.cede = (refl, refl, refl)
    one (rule.inside f e g r) = absurd (no_context f _ _ refl e)

pub cede_is_pure : ShowTheSameEverywhere Cede (Pure (Number 0))
cede_is_pure =
    everywhere Cede (Pure (Number 0))
    (λ place. both_lead showing place cede_leads (pure_leads 0) (record { closed = λ outer. refl; leaf_is = refl; clean = refl })
    (same_itself showing place (Finished (Val 0))))

-- and each makes the steps of the other
pub cede_steps_as_pure : (closed : Bool) (c d : Counts) (l : Label) (t : Term) → Row closed c Cede l d t ↔ Row closed c (Pure (Number 0)) l d t
cede_steps_as_pure closed c d l t = (
  λ r. let o = cede_leads.only closed c d l t r in rw (o.0, o.1, o.2) rule.pure,
  λ r. let o = (pure_leads 0).only closed c d l t r in rw (o.0, o.1, o.2) rule.cede,
)
