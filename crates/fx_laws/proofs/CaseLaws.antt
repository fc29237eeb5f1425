-- A bracket whose releases are all the same one.
use Rattle.std.proofs.Common.{◌≡◌, ℕ, Option, Some, None, [], ◌∷◌, refl, sym, subst}
use Rattle.fx_term.specs.declared.node.Arg.TheVariants.{Number}
use Rattle.fx_term.specs.declared.done.Done.{Done}
use Rattle.fx_term.specs.declared.done.Done.TheVariants.{Val, Err}
use Rattle.fx_term.specs.declared.name_kind.NameKind.{NameKind}
use Rattle.fx_term.specs.declared.name_kind.NameKind.TheVariants as kind
use Rattle.fx_term.specs.Term.{Term, Pure, Bracket, BracketCase, Finished, InUse, InUseCase, InRelease, put, put_named}
use Rattle.fx_term.specs.Scope.{with_name, IsScoped}
use Rattle.fx_term.proofs.NameUses.{IsUsedAs, scoped_used, put_used, put_unused, name_is}
use Rattle.fx_model.specs.Path.{AcquireIn, AcquireCaseIn, InUseIn, InUseCaseIn}
use Rattle.fx_laws.specs.Names.{without_names}
use Rattle.fx_laws.specs.Everywhere.{Place, ShowTheSameEverywhere}
use Rattle.fx_laws.proofs.SamePlaces.{IsSamePlace}
use Rattle.fx_laws.proofs.SameHere.{AreSameHere, same_itself, both_lead, same_inside}
use Rattle.fx_laws.proofs.Showing.{showing, everywhere}
use Rattle.fx_laws.proofs.SteppedAlike.{both_step}
use Rattle.fx_laws.proofs.BracketLaws.{acquire_fails_leads, kept_under}
use Rattle.fx_laws.proofs.CaseSteps.{acquired_leads, used_leads, case_fails_leads, case_acquired_leads, succeeded_leads, erred_leads}

module _ (place : Place) (k y z : ℕ) (r : Term) (unused_y : (n : ℕ) → put y n r ≡ r) (unused_z : (n : ℕ) → put z n r ≡ r) where
  same_release : (q : Term) (w : Done) → q ≡ r → AreSameHere showing place (InRelease k r w) (InRelease k q w)
  same_release q w e =
      subst (λ (p : Term). AreSameHere showing place (InRelease k r w) (InRelease k p w)) (sym e) (same_itself showing place (InRelease k r w))

  use_place : (w : Done) → IsSamePlace (InUse k (Finished w) r) (InUseCase k (Finished w) y r z r r)
  use_place w = record { closed = λ outer. refl; leaf_is = refl; clean = refl }

  use_ends : (w : Done) → AreSameHere showing place (InUse k (Finished w) r) (InUseCase k (Finished w) y r z r r)
  use_ends (Val n) =
      both_step showing place (used_leads k (Val n) r) (succeeded_leads y z r r r k n) (use_place (Val n)) (λ b. same_release (put y n r) (Val n) (unused_y n))
  use_ends (Err i) =
      both_step showing place (used_leads k (Err i) r) (erred_leads y z r r r k i) (use_place (Err i)) (λ b. same_release (put z i r) (Err i) (unused_z i))

  use_alike : (u : Term) → AreSameHere showing place (InUse k u r) (InUseCase k u y r z r r)
  use_alike = same_inside showing place (InUseIn k r ∷ []) (InUseCaseIn k y r z r r ∷ []) (λ outer. refl) (λ xs. refl) use_ends

-- the name of the bracket, if it has one, and that of the form with a release for each outcome stand for the same in the use and in the release
module _ (place : Place) (v : Option ℕ) (x y z : ℕ) (u r : Term) (use_put : (m : ℕ) → put x m u ≡ put_named v m u)
    (release_put : (m : ℕ) → put x m r ≡ put_named v m r) (unused_y : (m n : ℕ) → put y n (put_named v m r) ≡ put_named v m r)
    (unused_z : (m n : ℕ) → put z n (put_named v m r) ≡ put_named v m r) where
  acquired_alike : (k m : ℕ)
      → AreSameHere showing place (InUse k (put_named v m u) (put_named v m r)) (InUseCase k (put x m u) y (put x m r) z (put x m r) (put x m r))
  acquired_alike k m = rw (use_put m, release_put m) (use_alike place k y z (put_named v m r) (unused_y m) (unused_z m) (put_named v m u))

  acquire_place : (w : Done) → IsSamePlace (Bracket v (Finished w) u r) (BracketCase x (Finished w) u y r z r r)
  acquire_place w = record { closed = λ outer. refl; leaf_is = refl; clean = refl }

  acquire_ends : (w : Done) → AreSameHere showing place (Bracket v (Finished w) u r) (BracketCase x (Finished w) u y r z r r)
  acquire_ends (Val m) =
      both_step showing place (acquired_leads v m u r) (case_acquired_leads y z r r r x m u) (acquire_place (Val m)) (λ b. acquired_alike b.acquired m)
  acquire_ends (Err i) =
      both_lead showing place (acquire_fails_leads v i u r) (case_fails_leads y z r r r x i u) (acquire_place (Err i))
      (same_itself showing place (Finished (Err i)))

  bracket_alike : (a : Term) → AreSameHere showing place (Bracket v a u r) (BracketCase x a u y r z r r)
  bracket_alike = same_inside showing place (AcquireIn v u r ∷ []) (AcquireCaseIn x u y r z r r ∷ []) (λ outer. refl) (λ xs. refl) acquire_ends

pub unused_put : (x y m n : ℕ) (r : Term) → IsUsedAs kind.OtherPoll y r → put y n (put x m r) ≡ put x m r
unused_put x y m n r h = put_unused y n (put x m r) (put_used y kind.OtherPoll x m r h)

pub bracket_of_one_release : (scope : ℕ → Option NameKind) (x y z : ℕ) (a u r : Term)
    → IsScoped (with_name y kind.OtherPoll (with_name z kind.OtherPoll scope)) r → ShowTheSameEverywhere (Bracket (Some x) a u r) (BracketCase x a u y r z r r)
bracket_of_one_release scope x y z a u r scoped =
    let inner = with_name z kind.OtherPoll scope in
    let there = with_name y kind.OtherPoll inner in
    let not_y : IsUsedAs kind.OtherPoll y r = scoped_used y there kind.OtherPoll r (name_is y kind.OtherPoll inner) scoped in
    let not_z : IsUsedAs kind.OtherPoll z r = scoped_used z there kind.OtherPoll r (kept_under y z inner (name_is z kind.OtherPoll scope)) scoped in
    everywhere (Bracket (Some x) a u r) (BracketCase x a u y r z r r)
    (λ place. bracket_alike place (Some x) x y z u r (λ m. refl) (λ m. refl) (λ m n. unused_put x y m n r not_y) (λ m n. unused_put x z m n r not_z) a)

pub guarantee_of_one_release : (scope : ℕ → Option NameKind) (x y z : ℕ) (a f : Term) → IsScoped (with_name x kind.OtherPoll scope) a
    → IsScoped (without_names scope x y z) f
    → ShowTheSameEverywhere (Bracket None (Pure (Number 0)) a f) (BracketCase x (Pure (Number 0)) a y f z f f)
guarantee_of_one_release scope x y z a f scoped_a scoped_f =
    let last = with_name z kind.OtherPoll scope in
    let inner = with_name y kind.OtherPoll last in
    let there = with_name x kind.OtherPoll inner in
    let z_there = kept_under x z inner (kept_under y z last (name_is z kind.OtherPoll scope)) in
    let y_there = kept_under x y inner (name_is y kind.OtherPoll last) in
    let use_x : IsUsedAs kind.OtherPoll x a = scoped_used x (with_name x kind.OtherPoll scope) kind.OtherPoll a (name_is x kind.OtherPoll scope) scoped_a in
    let not_x : IsUsedAs kind.OtherPoll x f = scoped_used x there kind.OtherPoll f (name_is x kind.OtherPoll inner) scoped_f in
    let not_y : IsUsedAs kind.OtherPoll y f = scoped_used y there kind.OtherPoll f y_there scoped_f in
    let not_z : IsUsedAs kind.OtherPoll z f = scoped_used z there kind.OtherPoll f z_there scoped_f in
    everywhere (Bracket None (Pure (Number 0)) a f) (BracketCase x (Pure (Number 0)) a y f z f f)
    (λ place. bracket_alike place None x y z a f (λ m. put_unused x m a use_x) (λ m. put_unused x m f not_x) (λ m n. put_unused y n f not_y)
    (λ m n. put_unused z n f not_z) (Pure (Number 0)))
