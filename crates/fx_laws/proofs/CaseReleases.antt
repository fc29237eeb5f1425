-- The value of a release after success is dropped.
use Rattle.std.proofs.Common.{◌≡◌, ℕ, ◌==◌, if◌then◌else◌, Bool, true, false, None, List, [], ◌∷◌, refl, sym, subst}
use Rattle.std.proofs.lemmas.Bool.{eq-eqb}
use Rattle.fx_term.specs.declared.node.Arg.{Arg}
use Rattle.fx_term.specs.declared.node.Arg.TheVariants.{Number, Slot}
use Rattle.fx_term.specs.declared.done.Done.{Done}
use Rattle.fx_term.specs.declared.done.Done.TheVariants.{Val, Err}
use Rattle.fx_term.specs.Term.{Term, Pure, Let, BracketCase, Finished, InUseCase, InRelease, put_arg, put}
use Rattle.fx_model.specs.Path.{Context, LetIn, AcquireCaseIn, InUseCaseIn, InReleaseIn}
use Rattle.fx_laws.specs.Everywhere.{Place, ShowTheSameEverywhere}
use Rattle.fx_laws.proofs.SilentRows.{pure_leads, let_value_leads, let_error_leads, leads_placed}
use Rattle.fx_laws.proofs.SamePlaces.{IsSamePlace}
use Rattle.fx_laws.proofs.SameHere.{AreSameHere, same_itself, same_too, both_lead, one_leads, same_inside}
use Rattle.fx_laws.proofs.Showing.{showing, everywhere}
use Rattle.fx_laws.proofs.SteppedAlike.{both_step}
use Rattle.fx_laws.proofs.CaseSteps.{released_leads, case_fails_leads, case_acquired_leads, succeeded_leads, erred_leads}

pub record IsNumber (a : Arg) : Type 0 where
  pub value : ℕ
  pub is : a ≡ Number value

-- once both numbers are put, the name that comes second stands for one of them
pub number_put : (x y m n : ℕ) → IsNumber (put_arg y n (put_arg x m (Slot y)))
number_put x y m n = by_test (y == x)
  where
    by_test : (b : Bool) → IsNumber (put_arg y n (if b then Number m else Slot y))
    by_test true = record { value = m; is = refl }
    by_test false = record { value = n; is = rw (eq-eqb y y refl) refl }

module _ (place : Place) (k n : ℕ) where
  abbrev releases : List Context
  releases = InReleaseIn k (Val n) ∷ []

  release_ends : (j : ℕ) (w : Done)
      → AreSameHere showing place (InRelease k (Let None (Finished w) (Pure (Number j))) (Val n)) (InRelease k (Finished w) (Val n))
  release_ends j (Val i) =
      same_too showing place (InRelease k (Let None (Finished (Val i)) (Pure (Number j))) (Val n)) (InRelease k (Pure (Number j)) (Val n))
      (InRelease k (Finished (Val i)) (Val n))
      (one_leads showing place (leads_placed releases (let_value_leads None i (Pure (Number j))))
      (record { closed = λ outer. refl; leaf_is = refl; clean = refl }))
      (same_too showing place (InRelease k (Pure (Number j)) (Val n)) (InRelease k (Finished (Val j)) (Val n)) (InRelease k (Finished (Val i)) (Val n))
      (one_leads showing place (leads_placed releases (pure_leads j)) (record { closed = λ outer. refl; leaf_is = refl; clean = refl }))
      (both_step showing place (released_leads k (Val j) (Val n)) (released_leads k (Val i) (Val n))
      (record { closed = λ outer. refl; leaf_is = refl; clean = refl })
      (λ b. same_itself showing place (Finished (Val n)))))
  release_ends j (Err i) =
      one_leads showing place (leads_placed releases (let_error_leads None i (Pure (Number j))))
      (record { closed = λ outer. refl; leaf_is = refl; clean = refl })

  release_alike : (j : ℕ) (s : Term) → AreSameHere showing place (InRelease k (Let None s (Pure (Number j))) (Val n)) (InRelease k s (Val n))
  release_alike j =
      same_inside showing place (InReleaseIn k (Val n) ∷ LetIn None (Pure (Number j)) ∷ []) (InReleaseIn k (Val n) ∷ []) (λ outer. refl) (λ xs. refl)
      (release_ends j)

  number_released : (a : Arg) (s : Term) → IsNumber a → AreSameHere showing place (InRelease k (Let None s (Pure a)) (Val n)) (InRelease k s (Val n))
  number_released a s h =
      subst (λ (b : Arg). AreSameHere showing place (InRelease k (Let None s (Pure b)) (Val n)) (InRelease k s (Val n))) (sym h.is) (release_alike h.value s)

-- the use, where what the release hands back becomes a number
module _ (place : Place) (k y z : ℕ) (a : Arg) (s e d : Term) (becomes : (n : ℕ) → IsNumber (put_arg y n a)) where
  use_place : (w : Done) → IsSamePlace (InUseCase k (Finished w) y (Let None s (Pure a)) z e d) (InUseCase k (Finished w) y s z e d)
  use_place w = record { closed = λ outer. refl; leaf_is = refl; clean = refl }

  use_ends : (w : Done) → AreSameHere showing place (InUseCase k (Finished w) y (Let None s (Pure a)) z e d) (InUseCase k (Finished w) y s z e d)
  use_ends (Val n) =
      both_step showing place (succeeded_leads y z (Let None s (Pure a)) e d k n) (succeeded_leads y z s e d k n) (use_place (Val n))
      (λ b. number_released place k n (put_arg y n a) (put y n s) (becomes n))
  use_ends (Err i) =
      both_step showing place (erred_leads y z (Let None s (Pure a)) e d k i) (erred_leads y z s e d k i) (use_place (Err i))
      (λ b. same_itself showing place (InRelease k (put z i e) (Err i)))

  use_alike : (u : Term) → AreSameHere showing place (InUseCase k u y (Let None s (Pure a)) z e d) (InUseCase k u y s z e d)
  use_alike =
      same_inside showing place (InUseCaseIn k y (Let None s (Pure a)) z e d ∷ []) (InUseCaseIn k y s z e d ∷ []) (λ outer. refl) (λ xs. refl) use_ends

module _ (place : Place) (x y z : ℕ) (u s e d : Term) where
  abbrev handing_back : Term
  handing_back = Let None s (Pure (Slot y))

  acquire_place : (w : Done) → IsSamePlace (BracketCase x (Finished w) u y handing_back z e d) (BracketCase x (Finished w) u y s z e d)
  acquire_place w = record { closed = λ outer. refl; leaf_is = refl; clean = refl }

  acquire_ends : (w : Done) → AreSameHere showing place (BracketCase x (Finished w) u y handing_back z e d) (BracketCase x (Finished w) u y s z e d)
  acquire_ends (Val m) =
      both_step showing place (case_acquired_leads y z handing_back e d x m u) (case_acquired_leads y z s e d x m u) (acquire_place (Val m))
      (λ b. use_alike place b.acquired y z (put_arg x m (Slot y)) (put x m s) (put x m e) (put x m d) (λ n. number_put x y m n) (put x m u))
  acquire_ends (Err i) =
      both_lead showing place (case_fails_leads y z handing_back e d x i u) (case_fails_leads y z s e d x i u) (acquire_place (Err i))
      (same_itself showing place (Finished (Err i)))

  case_alike : (a : Term) → AreSameHere showing place (BracketCase x a u y handing_back z e d) (BracketCase x a u y s z e d)
  case_alike =
      same_inside showing place (AcquireCaseIn x u y handing_back z e d ∷ []) (AcquireCaseIn x u y s z e d ∷ []) (λ outer. refl) (λ xs. refl) acquire_ends

pub value_of_release_is_dropped : (x y z : ℕ) (a u s e d : Term)
    → ShowTheSameEverywhere (BracketCase x a u y (Let None s (Pure (Slot y))) z e d) (BracketCase x a u y s z e d)
value_of_release_is_dropped x y z a u s e d =
    everywhere (BracketCase x a u y (Let None s (Pure (Slot y))) z e d) (BracketCase x a u y s z e d) (λ place. case_alike place x y z u s e d a)
