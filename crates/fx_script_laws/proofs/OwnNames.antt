-- The laws of terms of which the one binds a name and uses it.
use Rattle.std.proofs.Common.{◌≡◌, ℕ, ◌+◌, ◌==◌, Bool, true, false, Some, None, List, [], ◌∷◌, refl, sym, ◌∙◌, ap, subst, arith}
use Rattle.std.proofs.lemmas.Bool.{eqb-true, eq-eqb}
use Rattle.fx_term.specs.declared.node.Arg.{Arg}
use Rattle.fx_term.specs.declared.node.Arg.TheVariants.{Number, Slot}
use Rattle.fx_term.specs.declared.done.Done.{Done}
use Rattle.fx_term.specs.declared.done.Done.TheVariants.{Val, Err}
use Rattle.fx_term.specs.Term.{Term, Pure, Raise, Let, Handle, BracketCase, Finished, InUseCase, InRelease, put_arg, put}
use Rattle.fx_term.specs.Need.{need}
use Rattle.fx_model.specs.Path.{Context, LetIn, HandleIn, AcquireCaseIn, InUseCaseIn, InReleaseIn}
use Rattle.fx_laws.proofs.SilentRows.{LeadsSilently, pure_leads, raise_leads, let_value_leads, let_error_leads, handle_value_leads, handle_error_leads}
use Rattle.fx_laws.proofs.SilentRows.{leads_placed}
use Rattle.fx_laws.proofs.MonadLaws.{pure_put, raise_put}
use Rattle.fx_laws.proofs.CaseSteps.{released_leads, case_fails_leads, case_acquired_leads, succeeded_leads, erred_leads}
use Rattle.fx_laws.proofs.CaseReleases.{IsNumber, number_put}
use Rattle.fx_script_laws.specs.Filled.{none_bound, and_bound}
use Rattle.fx_script_laws.specs.Interchange.{AreInterchangeable}
use Rattle.fx_script_laws.proofs.EachFollows.{EachFollows, itself, spot_by, one_leads, both_step, both_lead, both_inside, interchangeable_but}

-- a number for another name
other_name : (x y : ℕ) → and_bound x none_bound y ≡ false → (x == y) ≡ false
other_name x y h = by_test (x == y) refl
  where
    by_test : (b : Bool) → (x == y) ≡ b → (x == y) ≡ false
    by_test false e = e
    by_test true e = absurd (let same : y ≡ x = sym (eqb-true x y e) in let k : and_bound x none_bound x ≡ false = ap (and_bound x none_bound) (sym same) ∙ h in
        let t : and_bound x none_bound x ≡ true = rw (eq-eqb x x refl) refl in cc)

pub other_arg : (x y n : ℕ) → and_bound x none_bound y ≡ false → put_arg y n (Slot x) ≡ Slot x
other_arg x y n h = rw (other_name x y h) refl

module _ (x : ℕ) where
  value_again : (w : Done) → EachFollows (Let (Some x) (Finished w) (Pure (Slot x))) (Finished w)
  value_again (Val n) =
      one_leads (subst (λ (t : Term). LeadsSilently (Let (Some x) (Finished (Val n)) (Pure (Slot x))) t) (pure_put x n)
      (let_value_leads (Some x) n (Pure (Slot x)))) (spot_by (λ outer. refl) refl refl (λ o. refl))
      (one_leads (pure_leads n) (spot_by (λ outer. refl) refl refl (λ o. refl)) (itself (Finished (Val n))))
  value_again (Err n) =
      one_leads (let_error_leads (Some x) n (Pure (Slot x))) (spot_by (λ outer. refl) refl refl (λ o. refl)) (itself (Finished (Err n)))

  error_again : (w : Done) → EachFollows (Handle (Finished w) (Some x) (Raise (Slot x))) (Finished w)
  error_again (Val n) =
      one_leads (handle_value_leads (Some x) n (Raise (Slot x))) (spot_by (λ outer. refl) refl refl (λ o. refl)) (itself (Finished (Val n)))
  error_again (Err n) =
      one_leads (subst (λ (t : Term). LeadsSilently (Handle (Finished (Err n)) (Some x) (Raise (Slot x))) t) (raise_put x n)
      (handle_error_leads (Some x) n (Raise (Slot x)))) (spot_by (λ outer. refl) refl refl (λ o. refl))
      (one_leads (raise_leads n) (spot_by (λ outer. refl) refl refl (λ o. refl)) (itself (Finished (Err n))))

  data IsAgain : Term → Term → Type 0 where
    a_value : (a : Term) → IsAgain (Let (Some x) a (Pure (Slot x))) a
    an_error : (a : Term) → IsAgain (Handle a (Some x) (Raise (Slot x))) a

  again_put : (y n : ℕ) (t u : Term) → and_bound x none_bound y ≡ false → IsAgain t u → IsAgain (put y n t) (put y n u)
  again_put y n t u h (a_value a) = rw (other_arg x y n h) (a_value (put y n a))
  again_put y n t u h (an_error a) = rw (other_arg x y n h) (an_error (put y n a))

  again_need : (t u : Term) → IsAgain t u → need t ≡ need u
  again_need t u (a_value a) = omega arith
  again_need t u (an_error a) = omega arith

  again_follows : (t u : Term) → IsAgain t u → EachFollows t u
  again_follows t u (a_value a) = both_inside (LetIn (Some x) (Pure (Slot x)) ∷ []) [] (λ outer. refl) (λ xs. refl) value_again a
  again_follows t u (an_error a) = both_inside (HandleIn (Some x) (Raise (Slot x)) ∷ []) [] (λ outer. refl) (λ xs. refl) error_again a

pub value_given_again : (x : ℕ) (a : Term) → AreInterchangeable (and_bound x none_bound) (Let (Some x) a (Pure (Slot x))) a
value_given_again x a =
    interchangeable_but (and_bound x none_bound) (IsAgain x) (again_put x) (again_need x) (again_follows x) (Let (Some x) a (Pure (Slot x))) a (a_value a)

pub error_raised_again : (x : ℕ) (a : Term) → AreInterchangeable (and_bound x none_bound) (Handle a (Some x) (Raise (Slot x))) a
error_raised_again x a =
    interchangeable_but (and_bound x none_bound) (IsAgain x) (again_put x) (again_need x) (again_follows x) (Handle a (Some x) (Raise (Slot x))) a
    (an_error a)

-- the value of a release after success
module _ (k n : ℕ) where
  abbrev releases : List Context
  releases = InReleaseIn k (Val n) ∷ []

  release_ends : (j : ℕ) (w : Done) → EachFollows (InRelease k (Let None (Finished w) (Pure (Number j))) (Val n)) (InRelease k (Finished w) (Val n))
  release_ends j (Val i) =
      one_leads (leads_placed releases (let_value_leads None i (Pure (Number j)))) (spot_by (λ outer. refl) refl refl (λ o. refl))
      (one_leads (leads_placed releases (pure_leads j)) (spot_by (λ outer. refl) refl refl (λ o. refl))
      (both_step (released_leads k (Val j) (Val n)) (released_leads k (Val i) (Val n)) (spot_by (λ outer. refl) refl refl (λ o. refl))
      (λ b. itself (Finished (Val n)))))
  release_ends j (Err i) =
      one_leads (leads_placed releases (let_error_leads None i (Pure (Number j)))) (spot_by (λ outer. refl) refl refl (λ o. refl))
      (itself (InRelease k (Finished (Err i)) (Val n)))

  number_released : (a : Arg) (s : Term) → IsNumber a → EachFollows (InRelease k (Let None s (Pure a)) (Val n)) (InRelease k s (Val n))
  number_released a s h =
      subst (λ (b : Arg). EachFollows (InRelease k (Let None s (Pure b)) (Val n)) (InRelease k s (Val n))) (sym h.is)
      (both_inside (InReleaseIn k (Val n) ∷ LetIn None (Pure (Number h.value)) ∷ []) (InReleaseIn k (Val n) ∷ []) (λ outer. refl) (λ xs. refl)
      (release_ends h.value) s)

module _ (k y z : ℕ) (a : Arg) (s e d : Term) (becomes : (n : ℕ) → IsNumber (put_arg y n a)) where
  use_ends : (w : Done) → EachFollows (InUseCase k (Finished w) y (Let None s (Pure a)) z e d) (InUseCase k (Finished w) y s z e d)
  use_ends (Val n) =
      both_step (succeeded_leads y z (Let None s (Pure a)) e d k n) (succeeded_leads y z s e d k n) (spot_by (λ outer. refl) refl refl (λ o. refl))
      (λ b. number_released k n (put_arg y n a) (put y n s) (becomes n))
  use_ends (Err i) =
      both_step (erred_leads y z (Let None s (Pure a)) e d k i) (erred_leads y z s e d k i) (spot_by (λ outer. refl) refl refl (λ o. refl))
      (λ b. itself (InRelease k (put z i e) (Err i)))

  use_follows : (u : Term) → EachFollows (InUseCase k u y (Let None s (Pure a)) z e d) (InUseCase k u y s z e d)
  use_follows =
      both_inside (InUseCaseIn k y (Let None s (Pure a)) z e d ∷ []) (InUseCaseIn k y s z e d ∷ []) (λ outer. refl) (λ xs. refl) use_ends

module _ (x y z : ℕ) (u s e d : Term) where
  abbrev handing_back : Term
  handing_back = Let None s (Pure (Slot y))

  acquire_ends : (w : Done) → EachFollows (BracketCase x (Finished w) u y handing_back z e d) (BracketCase x (Finished w) u y s z e d)
  acquire_ends (Val m) =
      both_step (case_acquired_leads y z handing_back e d x m u) (case_acquired_leads y z s e d x m u) (spot_by (λ outer. refl) refl refl (λ o. refl))
      (λ b. use_follows b.acquired y z (put_arg x m (Slot y)) (put x m s) (put x m e) (put x m d) (λ n. number_put x y m n) (put x m u))
  acquire_ends (Err i) =
      both_lead (case_fails_leads y z handing_back e d x i u) (case_fails_leads y z s e d x i u) (spot_by (λ outer. refl) refl refl (λ o. refl))
      (itself (Finished (Err i)))

  case_follows : (a : Term) → EachFollows (BracketCase x a u y handing_back z e d) (BracketCase x a u y s z e d)
  case_follows =
      both_inside (AcquireCaseIn x u y handing_back z e d ∷ []) (AcquireCaseIn x u y s z e d ∷ []) (λ outer. refl) (λ xs. refl) acquire_ends

data DropsRelease (y : ℕ) : Term → Term → Type 0 where
  drops : (x z : ℕ) (a u s e d : Term) → DropsRelease y (BracketCase x a u y (Let None s (Pure (Slot y))) z e d) (BracketCase x a u y s z e d)

drops_put : (y w n : ℕ) (t u : Term) → and_bound y none_bound w ≡ false → DropsRelease y t u → DropsRelease y (put w n t) (put w n u)
drops_put y w n t v h (drops x z a u s e d) =
    rw (other_arg y w n h) (drops x z (put w n a) (put w n u) (put w n s) (put w n e) (put w n d))

drops_need : (y : ℕ) (t u : Term) → DropsRelease y t u → need t ≡ need u
drops_need y t v (drops x z a u s e d) = let none : need s + 0 ≡ need s = omega arith in rw none refl

drops_follows : (y : ℕ) (t u : Term) → DropsRelease y t u → EachFollows t u
drops_follows y t v (drops x z a u s e d) = case_follows x y z u s e d a

pub value_of_release_is_dropped : (x y z : ℕ) (a u s e d : Term)
    → AreInterchangeable (and_bound y none_bound) (BracketCase x a u y (Let None s (Pure (Slot y))) z e d) (BracketCase x a u y s z e d)
value_of_release_is_dropped x y z a u s e d =
    interchangeable_but (and_bound y none_bound) (DropsRelease y) (drops_put y) (drops_need y) (drops_follows y)
    (BracketCase x a u y (Let None s (Pure (Slot y))) z e d) (BracketCase x a u y s z e d) (drops x z a u s e d)
