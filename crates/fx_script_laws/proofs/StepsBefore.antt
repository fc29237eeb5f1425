-- The laws of terms of which the one has a step, or a few, before the other, whose first leaf stands at the very place.
use Rattle.std.proofs.Common.{◌≡◌, ◌≢◌, ℕ, Bool, true, false, Option, Some, None, List, [], ◌∷◌, refl, sym, ◌∙◌, ap, subst, arith}
use Rattle.std.proofs.lemmas.Bool.{eq-eqb}
use Rattle.fx_term.specs.declared.node.Arg.TheVariants.{Number}
use Rattle.fx_term.specs.declared.done.Done.TheVariants.{Val, Err}
use Rattle.fx_term.specs.Term.{Term, Pure, Raise, Never, Cede, Let, Handle, If, For, Mask, Poll, Start, Join, Cancel, First, Offer, TryOffer, Take, TryTake}
use Rattle.fx_term.specs.Term.{Finished, put, put_named}
use Rattle.fx_term.specs.Need.{need}
use Rattle.fx_mask.specs.Closing.{Closing}
use Rattle.fx_model.specs.Path.{LetIn, HandleIn, closed_regions, leaf, cleanup_terms, is_canceled_form}
use Rattle.fx_model.specs.MaskLaws.{forced_after}
use Rattle.fx_model.specs.Row.{Counts}
use Rattle.fx_model.specs.Step.{Progress}
use Rattle.fx_model.specs.Outside.{Outside, leaf_can_step}
use Rattle.fx_laws.specs.Everywhere.{Place}
use Rattle.fx_laws.proofs.SamePlaces.{IsSamePlace}
use Rattle.fx_laws.proofs.SilentRows.{LeadsSilently, pure_leads, raise_leads, let_value_leads, handle_value_leads, handle_error_leads, leads_placed}
use Rattle.fx_laws.proofs.MonadLaws.{cede_leads}
use Rattle.fx_script_laws.specs.Filled.{none_bound, and_named}
use Rattle.fx_script_laws.specs.Interchange.{ComeToTheSameAt, ComeToTheSame, AreInterchangeable}
use Rattle.fx_script_laws.specs.BeginsOpenly.{BeginsOpenly}
use Rattle.fx_script_laws.proofs.AtClosedPlaces.{AreEndsOfStops, come_too}
use Rattle.fx_script_laws.proofs.StepsAtPlace.{silent_at, interchangeable_by}
use Rattle.fx_script_laws.proofs.PutNeeds.{put_need}
use Rattle.fx_script_laws.proofs.PutOrder.{put_order}

-- what is read off the place of such a term
opens_there : (outer : List Closing) (a : Term) → BeginsOpenly a → closed_regions outer a ≡ outer
opens_there outer (Let x a b) h = opens_there outer a h
opens_there outer (Handle a x b) h = opens_there outer a h
opens_there outer (Pure v) h = refl
opens_there outer (Raise v) h = refl
opens_there outer Never h = refl
opens_there outer Cede h = refl
opens_there outer (If v a b) h = refl
opens_there outer (For i n a) h = refl
opens_there outer (Mask p a) h = refl
opens_there outer (Poll p a) h = refl
opens_there outer (Start i a b) h = refl
opens_there outer (Join f x a e b c) h = refl
opens_there outer (Cancel f) h = refl
opens_there outer (First f g) h = refl
opens_there outer (Offer q v) h = refl
opens_there outer (TryOffer q v) h = refl
opens_there outer (Take q) h = refl
opens_there outer (TryTake q x a b) h = refl
opens_there outer _ h = absurd h

goes_on_there : (a : Term) → BeginsOpenly a → is_canceled_form (leaf a) ≡ false
goes_on_there (Let x a b) h = goes_on_there a h
goes_on_there (Handle a x b) h = goes_on_there a h
goes_on_there (Pure v) h = refl
goes_on_there (Raise v) h = refl
goes_on_there Never h = refl
goes_on_there Cede h = refl
goes_on_there (If v a b) h = refl
goes_on_there (For i n a) h = refl
goes_on_there (Mask p a) h = refl
goes_on_there (Poll p a) h = refl
goes_on_there (Start i a b) h = refl
goes_on_there (Join f x a e b c) h = refl
goes_on_there (Cancel f) h = refl
goes_on_there (First f g) h = refl
goes_on_there (Offer q v) h = refl
goes_on_there (TryOffer q v) h = refl
goes_on_there (Take q) h = refl
goes_on_there (TryTake q x a b) h = refl
goes_on_there _ h = absurd h

cleans_none : (a : Term) → BeginsOpenly a → cleanup_terms a ≡ []
cleans_none (Let x a b) h = cleans_none a h
cleans_none (Handle a x b) h = cleans_none a h
cleans_none (Pure v) h = refl
cleans_none (Raise v) h = refl
cleans_none Never h = refl
cleans_none Cede h = refl
cleans_none (If v a b) h = refl
cleans_none (For i n a) h = refl
cleans_none (Mask p a) h = refl
cleans_none (Poll p a) h = refl
cleans_none (Start i a b) h = refl
cleans_none (Join f x a e b c) h = refl
cleans_none (Cancel f) h = refl
cleans_none (First f g) h = refl
cleans_none (Offer q v) h = refl
cleans_none (TryOffer q v) h = refl
cleans_none (Take q) h = refl
cleans_none (TryTake q x a b) h = refl
cleans_none _ h = absurd h

pub begins_put : (y m : ℕ) (a : Term) → BeginsOpenly a → BeginsOpenly (put y m a)
begins_put y m (Let x a b) h = begins_put y m a h
begins_put y m (Handle a x b) h = begins_put y m a h
begins_put y m (Pure v) h = tt
begins_put y m (Raise v) h = tt
begins_put y m Never h = tt
begins_put y m Cede h = tt
begins_put y m (If v a b) h = tt
begins_put y m (For i n a) h = tt
begins_put y m (Mask p a) h = tt
begins_put y m (Poll p a) h = tt
begins_put y m (Start i a b) h = tt
begins_put y m (Join f x a e b c) h = tt
begins_put y m (Cancel f) h = tt
begins_put y m (First f g) h = tt
begins_put y m (Offer q v) h = tt
begins_put y m (TryOffer q v) h = tt
begins_put y m (Take q) h = tt
begins_put y m (TryTake q x a b) h = tt
begins_put y m _ h = absurd h

begins_put_named : (x : Option ℕ) (n : ℕ) (a : Term) → BeginsOpenly a → BeginsOpenly (put_named x n a)
begins_put_named None n a h = h
begins_put_named (Some x) n a h = begins_put x n a h

-- so a step before it, with nothing round its leaf either, stands at the same place
pub same_as : (t a : Term) → ((outer : List Closing) → closed_regions outer t ≡ outer) → is_canceled_form (leaf t) ≡ false → cleanup_terms t ≡ []
    → BeginsOpenly a → IsSamePlace t a
same_as t a closed canceled clean h =
    record {
      closed = λ outer. closed outer ∙ sym (opens_there outer a h);
      leaf_is = canceled ∙ sym (goes_on_there a h);
      clean = clean ∙ sym (cleans_none a h);
    }

abbrev nothing : Term
nothing = Pure (Number 0)

module _ {Ends : Counts → Progress → Type 0} (ends : AreEndsOfStops Ends) (place : Place) where
  -- one silent step, of a leaf with nothing round it
  one : (t u v : Term) → LeadsSilently t u → IsSamePlace t u → ((o : Outside) → leaf_can_step o (leaf t) ≡ true) → ComeToTheSameAt Ends place u v
      → ComeToTheSameAt Ends place t v
  one t u v leads same steps next = come_too Ends place t u v (silent_at ends place t u leads same steps) next

  plain : (t u : Term) → ((outer : List Closing) → closed_regions outer t ≡ closed_regions outer u) → is_canceled_form (leaf t) ≡ is_canceled_form (leaf u)
      → cleanup_terms t ≡ cleanup_terms u → IsSamePlace t u
  plain t u closed canceled clean = record { closed = closed; leaf_is = canceled; clean = clean }

  value_comes : (x : Option ℕ) (n : ℕ) (b : Term) → BeginsOpenly b → ComeToTheSameAt Ends place (Let x (Finished (Val n)) b) (put_named x n b)
  value_comes x n b h =
      let t = Let x (Finished (Val n)) b in
      silent_at ends place t (put_named x n b) (let_value_leads x n b)
      (same_as t (put_named x n b) (λ outer. refl) refl refl (begins_put_named x n b h)) (λ o. refl)

  pure_comes : (x : Option ℕ) (n : ℕ) (b : Term) → BeginsOpenly b → ComeToTheSameAt Ends place (Let x (Pure (Number n)) b) (put_named x n b)
  pure_comes x n b h =
      let t = Let x (Pure (Number n)) b in
      let u = Let x (Finished (Val n)) b in
      one t u (put_named x n b) (leads_placed (LetIn x b ∷ []) (pure_leads n)) (plain t u (λ outer. refl) refl refl) (λ o. refl) (value_comes x n b h)

  forced_comes : (n : ℕ) (a : Term) → BeginsOpenly a → ComeToTheSameAt Ends place (forced_after (Pure (Number n)) a) a
  forced_comes n a h =
      let t = forced_after (Pure (Number n)) a in
      let u = Let None (Handle (Finished (Val n)) None nothing) a in
      let v = Let None (Finished (Val n)) a in
      one t u a (leads_placed (LetIn None a ∷ HandleIn None nothing ∷ []) (pure_leads n)) (plain t u (λ outer. refl) refl refl) (λ o. refl)
      (one u v a (leads_placed (LetIn None a ∷ []) (handle_value_leads None n nothing)) (plain u v (λ outer. refl) refl refl) (λ o. refl)
      (value_comes None n a h))

  forced_error_comes : (n : ℕ) (a : Term) → BeginsOpenly a → ComeToTheSameAt Ends place (forced_after (Raise (Number n)) a) a
  forced_error_comes n a h =
      let t = forced_after (Raise (Number n)) a in
      let u = Let None (Handle (Finished (Err n)) None nothing) a in
      let v = Let None nothing a in
      one t u a (leads_placed (LetIn None a ∷ HandleIn None nothing ∷ []) (raise_leads n)) (plain t u (λ outer. refl) refl refl) (λ o. refl)
      (one u v a (leads_placed (LetIn None a ∷ []) (handle_error_leads None n nothing)) (plain u v (λ outer. refl) refl refl) (λ o. refl)
      (pure_comes None 0 a h))

  ceded_comes : (a : Term) → BeginsOpenly a → ComeToTheSameAt Ends place (Let None Cede a) a
  ceded_comes a h =
      let t = Let None Cede a in
      let u = Let None (Finished (Val 0)) a in
      one t u a (leads_placed (LetIn None a ∷ []) cede_leads) (plain t u (λ outer. refl) refl refl) (λ o. refl) (value_comes None 0 a h)

  handled_comes : (x : Option ℕ) (n : ℕ) (b : Term) → BeginsOpenly b → ComeToTheSameAt Ends place (Handle (Raise (Number n)) x b) (put_named x n b)
  handled_comes x n b h =
      let t = Handle (Raise (Number n)) x b in
      let u = Handle (Finished (Err n)) x b in
      one t u (put_named x n b) (leads_placed (HandleIn x b ∷ []) (raise_leads n)) (plain t u (λ outer. refl) refl refl) (λ o. refl)
      (silent_at ends place u (put_named x n b) (handle_error_leads x n b)
      (same_as u (put_named x n b) (λ outer. refl) refl refl (begins_put_named x n b h)) (λ o. refl))

-- the name is their own
abbrev pub IsOwn : (ℕ → Bool) → Option ℕ → Type 0
IsOwn own None = Unit {0}
IsOwn own (Some x) = own x ≡ true

data StepsBefore (own : ℕ → Bool) : Term → Term → Type 0 where
  forced : (n : ℕ) (a : Term) → BeginsOpenly a → StepsBefore own (forced_after (Pure (Number n)) a) a
  forced_error : (n : ℕ) (a : Term) → BeginsOpenly a → StepsBefore own (forced_after (Raise (Number n)) a) a
  ceded : (a : Term) → BeginsOpenly a → StepsBefore own (Let None Cede a) a
  bound : (x : Option ℕ) (n : ℕ) (b : Term) → IsOwn own x → BeginsOpenly b → StepsBefore own (Let x (Pure (Number n)) b) (put_named x n b)
  handled : (x : Option ℕ) (n : ℕ) (b : Term) → IsOwn own x → BeginsOpenly b → StepsBefore own (Handle (Raise (Number n)) x b) (put_named x n b)

module _ (own : ℕ → Bool) where
  pub apart : (x y : ℕ) → own x ≡ true → own y ≡ false → y ≢ x
  apart x y is not same = let e = ap own same in cc

  before_put : (y m : ℕ) (t u : Term) → own y ≡ false → StepsBefore own t u → StepsBefore own (put y m t) (put y m u)
  before_put y m t u free (forced n a h) = forced n (put y m a) (begins_put y m a h)
  before_put y m t u free (forced_error n a h) = forced_error n (put y m a) (begins_put y m a h)
  before_put y m t u free (ceded a h) = ceded (put y m a) (begins_put y m a h)
  before_put y m t u free (bound None n b o h) = bound None n (put y m b) tt (begins_put y m b h)
  before_put y m t u free (bound (Some x) n b o h) =
      subst (λ (v : Term). StepsBefore own (Let (Some x) (Pure (Number n)) (put y m b)) v) (sym (put_order x y n m (apart x y o free) b))
      (bound (Some x) n (put y m b) o (begins_put y m b h))
  before_put y m t u free (handled None n b o h) = handled None n (put y m b) tt (begins_put y m b h)
  before_put y m t u free (handled (Some x) n b o h) =
      subst (λ (v : Term). StepsBefore own (Handle (Raise (Number n)) (Some x) (put y m b)) v) (sym (put_order x y n m (apart x y o free) b))
      (handled (Some x) n (put y m b) o (begins_put y m b h))

  pub named_need : (x : Option ℕ) (n : ℕ) (b : Term) → need (put_named x n b) ≡ need b
  named_need None n b = refl
  named_need (Some x) n b = put_need x n b

  before_need : (t u : Term) → StepsBefore own t u → need t ≡ need u
  before_need t u (forced n a h) = omega arith
  before_need t u (forced_error n a h) = omega arith
  before_need t u (ceded a h) = omega arith
  before_need t u (bound x n b o h) = let e = named_need x n b in omega arith
  before_need t u (handled x n b o h) = let e = named_need x n b in omega arith

  before_comes : (Ends : Counts → Progress → Type 0) → AreEndsOfStops Ends → (t u : Term) → StepsBefore own t u → ComeToTheSame Ends t u
  before_comes Ends ends t u (forced n a h) place = forced_comes ends place n a h
  before_comes Ends ends t u (forced_error n a h) place = forced_error_comes ends place n a h
  before_comes Ends ends t u (ceded a h) place = ceded_comes ends place a h
  before_comes Ends ends t u (bound x n b o h) place = pure_comes ends place x n b h
  before_comes Ends ends t u (handled x n b o h) place = handled_comes ends place x n b h

  steps_before : (t u : Term) → StepsBefore own t u → AreInterchangeable own t u
  steps_before = interchangeable_by own (StepsBefore own) before_put before_need before_comes

pub own_name : (x : Option ℕ) → IsOwn (and_named x none_bound) x
own_name None = tt
own_name (Some x) = rw (eq-eqb x x refl) refl

pub forced_pure : (n : ℕ) (a : Term) → BeginsOpenly a → AreInterchangeable none_bound (forced_after (Pure (Number n)) a) a
forced_pure n a h = steps_before none_bound (forced_after (Pure (Number n)) a) a (forced n a h)

pub forced_raise : (n : ℕ) (a : Term) → BeginsOpenly a → AreInterchangeable none_bound (forced_after (Raise (Number n)) a) a
forced_raise n a h = steps_before none_bound (forced_after (Raise (Number n)) a) a (forced_error n a h)

pub turn_before : (a : Term) → BeginsOpenly a → AreInterchangeable none_bound (Let None Cede a) a
turn_before a h = steps_before none_bound (Let None Cede a) a (ceded a h)

pub value_bound : (x : Option ℕ) (n : ℕ) (b : Term) → BeginsOpenly b
    → AreInterchangeable (and_named x none_bound) (Let x (Pure (Number n)) b) (put_named x n b)
value_bound x n b h = steps_before (and_named x none_bound) (Let x (Pure (Number n)) b) (put_named x n b) (bound x n b (own_name x) h)

pub error_handled : (x : Option ℕ) (n : ℕ) (b : Term) → BeginsOpenly b
    → AreInterchangeable (and_named x none_bound) (Handle (Raise (Number n)) x b) (put_named x n b)
error_handled x n b h = steps_before (and_named x none_bound) (Handle (Raise (Number n)) x b) (put_named x n b) (handled x n b (own_name x) h)
