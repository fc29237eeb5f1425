-- The laws of terms that can be put for one another where they stand at closed places.
use Rattle.std.proofs.Common.{◌≡◌, ℕ, Bool, true, false, Option, Some, None, List, [], ◌∷◌, refl, sym, ◌∙◌, subst, arith}
use Rattle.fx_term.specs.declared.node.Arg.TheVariants.{Number}
use Rattle.fx_term.specs.declared.done.Done.{Done}
use Rattle.fx_term.specs.declared.done.Done.TheVariants.{Val, Err}
use Rattle.fx_term.specs.declared.name_kind.NameKind.{NameKind}
use Rattle.fx_term.specs.declared.name_kind.NameKind.TheVariants as kind
use Rattle.fx_term.specs.Term.{Term, Pure, Raise, Cede, Let, Handle, Mask, OnCancel, Finished, Masked, Await, put, put_named}
use Rattle.fx_term.specs.Need.{need}
use Rattle.fx_term.specs.Scope.{with_name, IsScoped}
use Rattle.fx_term.proofs.NameUses.{IsUsedAs, scoped_used, put_used, put_unused, name_is}
use Rattle.fx_mask.specs.Closing.{Closing, is_none_closed}
use Rattle.fx_model.specs.Path.{Context, LetIn, HandleIn, OnCancelIn, AcquireIn, AcquireCaseIn, MaskedIn, OpenedIn, InUseIn, InUseCaseIn}
use Rattle.fx_model.specs.Path.{InReleaseIn, leaf, path}
use Rattle.fx_model.specs.Path.{closed_under, closed_along, closed_at, closed_regions}
use Rattle.fx_model.specs.Outside.{Outside, leaf_can_step}
use Rattle.fx_model.specs.Row.{Counts, Silent, one_more_mask}
use Rattle.fx_model.specs.Row as rule
use Rattle.fx_model.specs.Step.{Progress}
use Rattle.fx_model.specs.MaskLaws.{forced_after}
use Rattle.fx_laws.specs.Everywhere.{Place, placed}
use Rattle.fx_laws.proofs.Placed.{result_placed, row_placed}
use Rattle.fx_laws.proofs.SilentRows.{pure_leads, raise_leads, let_value_leads, handle_value_leads, handle_error_leads, oncancel_leads, masked_leads}
use Rattle.fx_laws.proofs.SilentRows.{LeadsSilently, leads_placed}
use Rattle.fx_laws.proofs.OnlyRows.{mask_row_placed}
use Rattle.fx_laws.proofs.MonadLaws.{cede_leads}
use Rattle.fx_laws.proofs.SteppedAlike.{LeadsBy}
use Rattle.fx_script_laws.specs.Cover.{Cover, Bare, Sealed, Masks, is_closed, is_sealed, has_seal, AreClosedBy, IsCoveredBy}
use Rattle.fx_script_laws.specs.Filled.{none_bound, and_named}
use Rattle.fx_script_laws.specs.Interchange.{ComeToTheSameAt, AreInterchangeableWhere}
use Rattle.fx_script_laws.proofs.Covers.{covered_in, some_closed}
use Rattle.fx_script_laws.proofs.Followed.{inside}
use Rattle.fx_script_laws.proofs.Spots.{IsSameSpotIn, shut_spot, spot_within, inside_spot}
use Rattle.fx_script_laws.proofs.EachFollows.{FollowEachOther, itself, turned_each, one_leads, both_step_at}
use Rattle.fx_script_laws.proofs.StepsBefore.{IsOwn, apart, named_need, own_name}
use Rattle.fx_script_laws.proofs.AtClosedPlaces.{AreEndsOfStops, StaysShut, silent_there, come_too, interchangeable_where, followed_come}
use Rattle.fx_script_laws.proofs.PutNeeds.{put_need}
use Rattle.fx_script_laws.proofs.PutOrder.{put_order}

-- a term that has a step, or a few, before the other
data StepsFirst (own : ℕ → Bool) : Term → Term → Type 0 where
  forced : (n : ℕ) (a : Term) → StepsFirst own (forced_after (Pure (Number n)) a) a
  forced_error : (n : ℕ) (a : Term) → StepsFirst own (forced_after (Raise (Number n)) a) a
  ceded : (a : Term) → StepsFirst own (Let None Cede a) a
  bound : (x : Option ℕ) (n : ℕ) (b : Term) → IsOwn own x → StepsFirst own (Let x (Pure (Number n)) b) (put_named x n b)
  handled : (x : Option ℕ) (n : ℕ) (b : Term) → IsOwn own x → StepsFirst own (Handle (Raise (Number n)) x b) (put_named x n b)

abbrev nothing : Term
nothing = Pure (Number 0)

module _ {Ends : Counts → Progress → Type 0} (ends : AreEndsOfStops Ends) (s : Cover) (place : Place) (closed : is_closed s ≡ true)
    (at : IsCoveredBy s place) where
  one : (t u : Term) → LeadsSilently t u → StaysShut t → ((o : Outside) → leaf_can_step o (leaf t) ≡ true)
      → (v : Term) → ComeToTheSameAt Ends place u v → ComeToTheSameAt Ends place t v
  one t u l opens steps v next = come_too Ends place t u v (silent_there ends s place closed at t u l opens steps) next

  here : (t : Term) → ComeToTheSameAt Ends place t t
  here t c ls = (λ h. h, λ h. h)

  value_there : (x : Option ℕ) (n : ℕ) (b : Term) → ComeToTheSameAt Ends place (Let x (Finished (Val n)) b) (put_named x n b)
  value_there x n b =
      one (Let x (Finished (Val n)) b) (put_named x n b) (let_value_leads x n b) (λ cs h. h) (λ o. refl) (put_named x n b) (here (put_named x n b))

  pure_there : (x : Option ℕ) (n : ℕ) (b : Term) → ComeToTheSameAt Ends place (Let x (Pure (Number n)) b) (put_named x n b)
  pure_there x n b =
      one (Let x (Pure (Number n)) b) (Let x (Finished (Val n)) b) (leads_placed (LetIn x b ∷ []) (pure_leads n)) (λ cs h. h) (λ o. refl)
      (put_named x n b) (value_there x n b)

  steps_there : (own : ℕ → Bool) (t u : Term) → StepsFirst own t u → ComeToTheSameAt Ends place t u
  steps_there own t u (forced n a) =
      one (forced_after (Pure (Number n)) a) (Let None (Handle (Finished (Val n)) None nothing) a)
      (leads_placed (LetIn None a ∷ HandleIn None nothing ∷ []) (pure_leads n)) (λ cs h. h) (λ o. refl) a
      (one (Let None (Handle (Finished (Val n)) None nothing) a) (Let None (Finished (Val n)) a)
      (leads_placed (LetIn None a ∷ []) (handle_value_leads None n nothing)) (λ cs h. h) (λ o. refl) a (value_there None n a))
  steps_there own t u (forced_error n a) =
      one (forced_after (Raise (Number n)) a) (Let None (Handle (Finished (Err n)) None nothing) a)
      (leads_placed (LetIn None a ∷ HandleIn None nothing ∷ []) (raise_leads n)) (λ cs h. h) (λ o. refl) a
      (one (Let None (Handle (Finished (Err n)) None nothing) a) (Let None nothing a) (leads_placed (LetIn None a ∷ []) (handle_error_leads None n nothing))
      (λ cs h. h) (λ o. refl) a (pure_there None 0 a))
  steps_there own t u (ceded a) =
      one (Let None Cede a) (Let None (Finished (Val 0)) a) (leads_placed (LetIn None a ∷ []) cede_leads) (λ cs h. h) (λ o. refl) a (value_there None 0 a)
  steps_there own t u (bound x n b o) = pure_there x n b
  steps_there own t u (handled x n b o) =
      one (Handle (Raise (Number n)) x b) (Handle (Finished (Err n)) x b) (leads_placed (HandleIn x b ∷ []) (raise_leads n)) (λ cs h. h) (λ o. refl)
      (put_named x n b)
      (one (Handle (Finished (Err n)) x b) (put_named x n b) (handle_error_leads x n b) (λ cs h. h) (λ o. refl) (put_named x n b)
      (here (put_named x n b)))

module _ (own : ℕ → Bool) where
  first_put : (y m : ℕ) (t u : Term) → own y ≡ false → StepsFirst own t u → StepsFirst own (put y m t) (put y m u)
  first_put y m t u free (forced n a) = forced n (put y m a)
  first_put y m t u free (forced_error n a) = forced_error n (put y m a)
  first_put y m t u free (ceded a) = ceded (put y m a)
  first_put y m t u free (bound None n b o) = bound None n (put y m b) tt
  first_put y m t u free (bound (Some x) n b o) =
      subst (λ (v : Term). StepsFirst own (Let (Some x) (Pure (Number n)) (put y m b)) v) (sym (put_order x y n m (apart own x y o free) b))
      (bound (Some x) n (put y m b) o)
  first_put y m t u free (handled None n b o) = handled None n (put y m b) tt
  first_put y m t u free (handled (Some x) n b o) =
      subst (λ (v : Term). StepsFirst own (Handle (Raise (Number n)) (Some x) (put y m b)) v) (sym (put_order x y n m (apart own x y o free) b))
      (handled (Some x) n (put y m b) o)

  first_need : (t u : Term) → StepsFirst own t u → need t ≡ need u
  first_need t u (forced n a) = omega arith
  first_need t u (forced_error n a) = omega arith
  first_need t u (ceded a) = omega arith
  first_need t u (bound x n b o) = let e = named_need own x n b in omega arith
  first_need t u (handled x n b o) = let e = named_need own x n b in omega arith

  steps_first : (t u : Term) → StepsFirst own t u → AreInterchangeableWhere is_closed own t u
  steps_first =
      interchangeable_where is_closed own (StepsFirst own) first_put first_need (λ Ends ends s place is at t u p. steps_there ends s place is at own t u p)

pub pure_before : (n : ℕ) (a : Term) → AreInterchangeableWhere is_closed none_bound (forced_after (Pure (Number n)) a) a
pure_before n a = steps_first none_bound (forced_after (Pure (Number n)) a) a (forced n a)

pub error_before : (n : ℕ) (a : Term) → AreInterchangeableWhere is_closed none_bound (forced_after (Raise (Number n)) a) a
error_before n a = steps_first none_bound (forced_after (Raise (Number n)) a) a (forced_error n a)

pub turn_first : (a : Term) → AreInterchangeableWhere is_closed none_bound (Let None Cede a) a
turn_first a = steps_first none_bound (Let None Cede a) a (ceded a)

pub value_first : (x : Option ℕ) (n : ℕ) (b : Term)
    → AreInterchangeableWhere is_closed (and_named x none_bound) (Let x (Pure (Number n)) b) (put_named x n b)
value_first x n b = steps_first (and_named x none_bound) (Let x (Pure (Number n)) b) (put_named x n b) (bound x n b (own_name x))

pub error_first : (x : Option ℕ) (n : ℕ) (b : Term)
    → AreInterchangeableWhere is_closed (and_named x none_bound) (Handle (Raise (Number n)) x b) (put_named x n b)
error_first x n b = steps_first (and_named x none_bound) (Handle (Raise (Number n)) x b) (put_named x n b) (handled x n b (own_name x))

-- a finalizer in a mask, and one round it
pub mask_leads : (fs : List Context) (p : ℕ) (t : Term)
    → LeadsBy (λ c. Silent) one_more_mask (placed fs (Mask p t)) (λ c. placed fs (Masked c.masks (put p c.masks t)))
mask_leads fs p t =
    record {
      there = λ k c. row_placed fs rule.mask;
      only = λ k c d l w r. mask_row_placed fs p t r;
      going = λ w e. let g = (result_placed fs (Mask p t) w (sym e)).1 in cc;
    }

module _ (cs : List Closing) (closed : is_none_closed cs ≡ false) where
  module _ (r : ℕ) (f : Term) where
    abbrev within : List Context
    within = MaskedIn r ∷ OnCancelIn f ∷ []

    abbrev round : List Context
    round = OnCancelIn f ∷ MaskedIn r ∷ []

    left_ends : (w : Done) (u : Term) → FollowEachOther (IsSameSpotIn cs) (Finished w) u → FollowEachOther (IsSameSpotIn cs) (placed within (Finished w)) u
    left_ends w u next =
        one_leads (leads_placed (MaskedIn r ∷ []) (oncancel_leads w f)) (shut_spot cs refl refl (λ o. refl))
        (one_leads (masked_leads r w) (shut_spot cs refl closed (λ o. refl)) next)

    right_ends : (w : Done) → FollowEachOther (IsSameSpotIn cs) (placed round (Finished w)) (Finished w)
    right_ends w =
        one_leads (leads_placed (OnCancelIn f ∷ []) (masked_leads r w)) (shut_spot cs refl closed (λ o. refl))
        (one_leads (oncancel_leads w f) (shut_spot cs closed closed (λ o. refl)) (itself (Finished w)))

    both_end : (w : Done) → FollowEachOther (IsSameSpotIn cs) (placed within (Finished w)) (placed round (Finished w))
    both_end w = left_ends w (placed round (Finished w)) (turned_each (right_ends w))

    moved_in : (x : Term) → FollowEachOther (IsSameSpotIn cs) (placed within x) (placed round x)
    moved_in x =
        record {
          to = inside within round (λ y. spot_within cs (inside_spot within round (λ outer. refl) (λ xs. refl) y)) (λ w. (both_end w).to) x;
          from = inside round within (λ y. spot_within cs (inside_spot round within (λ outer. refl) (λ xs. refl) y)) (λ w. (both_end w).from) x;
        }

  boundary_follows : (p : ℕ) (a f : Term) → ((n : ℕ) → put p n f ≡ f)
      → FollowEachOther (IsSameSpotIn cs) (Mask p (OnCancel a f)) (OnCancel (Mask p a) f)
  boundary_follows p a f unused =
      both_step_at (mask_leads [] p (OnCancel a f)) (mask_leads (OnCancelIn f ∷ []) p a) (shut_spot cs closed closed (λ o. refl))
      (shut_spot cs closed closed (λ o. refl)) (λ b. rw (unused b.masks) (moved_in b.masks f (put p b.masks a)))

data AtBoundary : Term → Term → Type 0 where
  boundary : (p : ℕ) (a f : Term) → IsUsedAs kind.OtherPoll p f → AtBoundary (Mask p (OnCancel a f)) (OnCancel (Mask p a) f)

boundary_put : (x n : ℕ) (t u : Term) → none_bound x ≡ false → AtBoundary t u → AtBoundary (put x n t) (put x n u)
boundary_put x n t u free (boundary p a f h) = boundary p (put x n a) (put x n f) (put_used p kind.OtherPoll x n f h)

boundary_need : (t u : Term) → AtBoundary t u → need t ≡ need u
boundary_need t u (boundary p a f h) = refl

boundary_each : (s : Cover) (cs : List Closing) → is_closed s ≡ true → AreClosedBy s cs → (t u : Term) → AtBoundary t u → FollowEachOther (IsSameSpotIn cs) t u
boundary_each s cs is at t u (boundary p a f h) = boundary_follows cs (some_closed s cs is at) p a f (λ n. put_unused p n f h)

pub finalizer_over_boundary : (scope : ℕ → Option NameKind) (p : ℕ) (a f : Term) → IsScoped (with_name p kind.OtherPoll scope) f
    → AreInterchangeableWhere is_closed none_bound (Mask p (OnCancel a f)) (OnCancel (Mask p a) f)
finalizer_over_boundary scope p a f scoped =
    interchangeable_where is_closed none_bound AtBoundary boundary_put boundary_need (followed_come is_closed refl AtBoundary boundary_each)
    (Mask p (OnCancel a f)) (OnCancel (Mask p a) f)
    (boundary p a f (scoped_used p (with_name p kind.OtherPoll scope) kind.OtherPoll f (name_is p kind.OtherPoll scope) scoped))

-- a finalizer at a sealed place, which stays closed whatever stands there
sealed_at : (cs : List Closing) (t : Term) → has_seal cs ≡ true → has_seal (closed_at cs t) ≡ true
sealed_at cs (Await f) h = refl
sealed_at cs _ h = h

stays_sealed : (f : Context) (cs : List Closing) → has_seal cs ≡ true → has_seal (closed_under cs f) ≡ true
stays_sealed (LetIn x b) cs h = h
stays_sealed (HandleIn x b) cs h = h
stays_sealed (OnCancelIn f) cs h = h
stays_sealed (AcquireIn x u r) cs h = refl
stays_sealed (AcquireCaseIn x u y b z e d) cs h = refl
stays_sealed (MaskedIn r) cs h = h
stays_sealed (OpenedIn r) cs h = covered_in (OpenedIn r) Sealed cs h
stays_sealed (InUseIn k r) cs h = h
stays_sealed (InUseCaseIn k y b z e d) cs h = h
stays_sealed (InReleaseIn k v) cs h = refl

pub sealed_along : (fs : List Context) (cs : List Closing) → has_seal cs ≡ true → has_seal (closed_along cs fs) ≡ true
sealed_along [] cs h = h
sealed_along (f ∷ fs) cs h = sealed_along fs (closed_under cs f) (stays_sealed f cs h)

sealed_inside : (cs : List Closing) (t : Term) → has_seal cs ≡ true → is_none_closed (closed_regions cs t) ≡ false
sealed_inside cs t h =
    some_closed Sealed (closed_regions cs t) refl (sealed_at (closed_along cs (path t)) (leaf t) (sealed_along (path t) cs h))

module _ (cs : List Closing) (sealed : has_seal cs ≡ true) where
  pub sealed_spot : {t u : Term} → ((o : Outside) → leaf_can_step o (leaf t) ≡ leaf_can_step o (leaf u)) → IsSameSpotIn cs t u
  sealed_spot {t} {u} waits = shut_spot cs (sealed_inside cs t sealed) (sealed_inside cs u sealed) waits

  module _ (f : Term) where
    finalizer_ends : (w : Done) → FollowEachOther (IsSameSpotIn cs) (OnCancel (Finished w) f) (Finished w)
    finalizer_ends w = one_leads (oncancel_leads w f) (sealed_spot (λ o. refl)) (itself (Finished w))

    no_finalizer : (a : Term) → FollowEachOther (IsSameSpotIn cs) (OnCancel a f) a
    no_finalizer a =
        record {
          to = inside (OnCancelIn f ∷ []) [] (λ x. sealed_spot (λ o. refl)) (λ w. (finalizer_ends w).to) a;
          from = inside [] (OnCancelIn f ∷ []) (λ x. sealed_spot (λ o. refl)) (λ w. (finalizer_ends w).from) a;
        }

data HasFinalizer : Term → Term → Type 0 where
  a_finalizer : (a f : Term) → need f ≡ 0 → HasFinalizer (OnCancel a f) a

finalizer_put : (x n : ℕ) (t u : Term) → none_bound x ≡ false → HasFinalizer t u → HasFinalizer (put x n t) (put x n u)
finalizer_put x n t u free (a_finalizer a f h) = a_finalizer (put x n a) (put x n f) (put_need x n f ∙ h)

finalizer_need : (t u : Term) → HasFinalizer t u → need t ≡ need u
finalizer_need t u (a_finalizer a f h) = omega (arith, h)

finalizer_each : (s : Cover) (cs : List Closing) → is_sealed s ≡ true → AreClosedBy s cs → (t u : Term) → HasFinalizer t u
    → FollowEachOther (IsSameSpotIn cs) t u
finalizer_each Bare cs is at t u p = absurd cc
finalizer_each Sealed cs is at t u (a_finalizer a f h) = no_finalizer cs at f a
finalizer_each (Masks n) cs is at t u p = absurd cc

pub finalizer_of_sealed : (a f : Term) → need f ≡ 0 → AreInterchangeableWhere is_sealed none_bound (OnCancel a f) a
finalizer_of_sealed a f h =
    interchangeable_where is_sealed none_bound HasFinalizer finalizer_put finalizer_need (followed_come is_sealed refl HasFinalizer finalizer_each)
    (OnCancel a f) a (a_finalizer a f h)
