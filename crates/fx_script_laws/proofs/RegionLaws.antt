-- The laws of terms of which the one enters a mask more.
use Rattle.std.proofs.Common.{◌≡◌, ℕ, ◌==◌, Bool, true, false, if◌then◌else◌, Option, List, [], ◌∷◌, refl, sym, ◌∙◌, ap, subst}
use Rattle.std.specs.Prelude.{◌↔◌}
use Rattle.std.proofs.lemmas.Bool.{eq-eqb}
use Rattle.fx_term.specs.declared.node.Arg.{Arg}
use Rattle.fx_term.specs.declared.node.Arg.TheVariants.{Number, Slot}
use Rattle.fx_term.specs.declared.done.Done.{Done}
use Rattle.fx_term.specs.declared.name_kind.NameKind.{NameKind}
use Rattle.fx_term.specs.declared.name_kind.NameKind.TheVariants as kind
use Rattle.fx_term.specs.Term.{Term, Pure, Raise, Let, Handle, If, For, Mask, Poll, OnCancel, Bracket, BracketCase, Start, Join, Cancel, First, Offer}
use Rattle.fx_term.specs.Term.{TryOffer, TryTake, Finished, Masked, Opened, InUse, InUseCase, InRelease, Loop, put}
use Rattle.fx_term.specs.Need.{need}
use Rattle.fx_term.specs.Scope.{with_name, IsScoped}
use Rattle.fx_term.proofs.NameUses.{IsArgUsedAs, IsUsedAs, scoped_used, put_used, put_unused, name_is}
use Rattle.fx_mask.specs.Closing.{Closing, Region, is_none_closed}
use Rattle.fx_model.specs.Path.{Context, MaskedIn, OpenedIn}
use Rattle.fx_model.specs.Row.{Counts, Label, Silent, Row, one_more_mask}
use Rattle.fx_model.specs.Row as rule
use Rattle.fx_model.specs.Step.{Progress}
use Rattle.fx_model.proofs.Paths.{no_context}
use Rattle.fx_laws.specs.Everywhere.{Place, placed, come_to}
use Rattle.fx_laws.proofs.SilentRows.{LeadsSilently, opened_leads, masked_leads, leads_placed}
use Rattle.fx_laws.proofs.OnlyRows.{only_silent, only_mask}
use Rattle.fx_script_laws.specs.Cover.{Cover, Bare, Sealed, Masks, is_closed, is_sealed, has_seal, AreClosedBy, IsCoveredBy}
use Rattle.fx_script_laws.specs.Filled.{none_bound, and_bound}
use Rattle.fx_script_laws.specs.Interchange.{CanComeTo}
use Rattle.fx_script_laws.specs.InScripts.{AreAlikeInScripts}
use Rattle.fx_script_laws.proofs.Covers.{some_closed}
use Rattle.fx_script_laws.proofs.Followed.{inside}
use Rattle.fx_script_laws.proofs.Spots.{IsSameSpotIn, shut_spot, spot_within, inside_spot}
use Rattle.fx_script_laws.proofs.EachFollows.{FollowEachOther, itself, one_leads}
use Rattle.fx_script_laws.proofs.FollowedPlaces.{both_come_in}
use Rattle.fx_script_laws.proofs.OwnNames.{other_arg}
use Rattle.fx_script_laws.proofs.Renumbered.{Shift, IsRenumbered, slot}
use Rattle.fx_script_laws.proofs.Renumbered as renumbered
use Rattle.fx_script_laws.proofs.OwnRegions.{own_with, one_more_entered}
use Rattle.fx_script_laws.proofs.AtClosedPlaces.{AreEndsOfStops, leads_on, can_go, after_silent}
use Rattle.fx_script_laws.proofs.ClosedLaws.{sealed_spot}
use Rattle.fx_script_laws.proofs.AlikeInScripts.{ComeToTheSameWithOwn, alike_in_scripts}
use Rattle.fx_script_laws.specs.Reached.{AreAlikeWhereReached}
use Rattle.fx_script_laws.proofs.ReachedPlaces.{alike_where_reached}

-- a name that may not be used is used as a poll where it is used
module _ (x : ℕ) where
  arg_as_poll : (place : NameKind) (a : Arg) → IsArgUsedAs kind.OtherPoll x place a → IsArgUsedAs kind.Poll x place a
  arg_as_poll place (Number n) h = tt
  arg_as_poll place (Slot y) h = λ e. absurd (h e)

  pub used_as_poll : (t : Term) → IsUsedAs kind.OtherPoll x t → IsUsedAs kind.Poll x t
  used_as_poll (Pure a) h = arg_as_poll kind.Value a h
  used_as_poll (Raise a) h = arg_as_poll kind.Value a h
  used_as_poll (Let y a b) h = (used_as_poll a h.0, used_as_poll b h.1)
  used_as_poll (Handle a y b) h = (used_as_poll a h.0, used_as_poll b h.1)
  used_as_poll (If v a b) h = (arg_as_poll kind.Value v h.0, used_as_poll a h.1, used_as_poll b h.2)
  used_as_poll (For i c a) h = used_as_poll a h
  used_as_poll (Mask p a) h = used_as_poll a h
  used_as_poll (Poll p a) h = (arg_as_poll kind.Poll p h.0, used_as_poll a h.1)
  used_as_poll (OnCancel a f) h = (used_as_poll a h.0, used_as_poll f h.1)
  used_as_poll (Bracket y a u r) h = (used_as_poll a h.0, used_as_poll u h.1, used_as_poll r h.2)
  used_as_poll (BracketCase y a u z s w e d) h = (used_as_poll a h.0, used_as_poll u h.1, used_as_poll s h.2, used_as_poll e h.3, used_as_poll d h.4)
  used_as_poll (Start i a b) h = (h.0, used_as_poll b h.1)
  used_as_poll (Join f y a e b c) h = (arg_as_poll kind.Fiber f h.0, used_as_poll a h.1, used_as_poll b h.2, used_as_poll c h.3)
  used_as_poll (Cancel f) h = arg_as_poll kind.Fiber f h
  used_as_poll (First f g) h = (arg_as_poll kind.Fiber f h.0, arg_as_poll kind.Fiber g h.1)
  used_as_poll (Offer q v) h = arg_as_poll kind.Value v h
  used_as_poll (TryOffer q v) h = arg_as_poll kind.Value v h
  used_as_poll (TryTake q y a b) h = (used_as_poll a h.0, used_as_poll b h.1)
  used_as_poll (Masked r a) h = used_as_poll a h
  used_as_poll (Opened r a) h = used_as_poll a h
  used_as_poll (InUse j a r) h = (used_as_poll a h.0, used_as_poll r h.1)
  used_as_poll (InUseCase j u y s z e d) h = (used_as_poll u h.0, used_as_poll s h.1, used_as_poll e h.2, used_as_poll d h.3)
  used_as_poll (InRelease j a v) h = used_as_poll a h
  used_as_poll (Loop i j c a) h = used_as_poll a h
  used_as_poll _ h = tt

pub poll_leads : (r : ℕ) (a : Term) → LeadsSilently (Poll (Number r) a) (Opened r a)
poll_leads r a = record { there = λ k c. rule.poll; only = λ k c d l w s. one s; going = λ w e. cc }
  where
    one : {k : Bool} {c d : Counts} {l : Label} {w : Term} → Row k c (Poll (Number r) a) l d w → (l ≡ Silent) × (d ≡ c) × (w ≡ Opened r a)
    one rule.poll = (refl, refl, refl)
    one (rule.inside f e g s) = absurd (no_context f _ _ refl e)

module _ {Ends : Counts → Progress → Type 0} (ends : AreEndsOfStops Ends) (s : Cover) (place : Place) (closed : is_closed s ≡ true)
    (at : IsCoveredBy s place) where
  -- the mask is entered
  mask_first : (p : ℕ) (a : Term) (c : Counts) (ls : List Label)
      → CanComeTo Ends c (come_to place (Mask p a)) ls ↔ CanComeTo Ends (one_more_mask c) (come_to place (Masked c.masks (put p c.masks a))) ls
  mask_first p a c ls =
      after_silent ends (leads_on s place closed at (only_mask c p a) (λ cs h. h)) (can_go place (Mask p a) (λ o. refl) c) ls

  -- and opened
  poll_next : (r : ℕ) (a : Term) (c : Counts) (ls : List Label)
      → CanComeTo Ends c (come_to place (Masked r (Poll (Number r) a))) ls ↔ CanComeTo Ends c (come_to place (Masked r (Opened r a))) ls
  poll_next r a c ls =
      after_silent ends
      (leads_on s place closed at (only_silent c (leads_placed (MaskedIn r ∷ []) (poll_leads r a))) (λ cs h. refl))
      (can_go place (Masked r (Poll (Number r) a)) (λ o. refl) c) ls

-- a mask that is opened at once
module _ (cs : List Closing) (closed : is_none_closed cs ≡ false) (r : ℕ) where
  abbrev at_once : List Context
  at_once = MaskedIn r ∷ OpenedIn r ∷ []

  opens_it : (outer : List Closing) → (if r == r then outer else Region r ∷ outer) ≡ outer
  opens_it outer = rw (eq-eqb r r refl) refl

  opened_ends : (w : Done) → FollowEachOther (IsSameSpotIn cs) (placed at_once (Finished w)) (Finished w)
  opened_ends w =
      one_leads (leads_placed (MaskedIn r ∷ []) (opened_leads r w)) (shut_spot cs (ap is_none_closed (opens_it cs) ∙ closed) refl (λ o. refl))
      (one_leads (masked_leads r w) (shut_spot cs refl closed (λ o. refl)) (itself (Finished w)))

  opened_at_once : (a : Term) → FollowEachOther (IsSameSpotIn cs) (Masked r (Opened r a)) a
  opened_at_once a =
      record {
        to = inside at_once [] (λ x. spot_within cs (inside_spot at_once [] opens_it (λ xs. refl) x)) (λ w. (opened_ends w).to) a;
        from = inside [] at_once (λ x. spot_within cs (inside_spot [] at_once (λ outer. sym (opens_it outer)) (λ xs. refl) x)) (λ w. (opened_ends w).from) a;
      }

-- a mask at a sealed place
module _ (cs : List Closing) (sealed : has_seal cs ≡ true) (r : ℕ) where
  mask_ends : (w : Done) → FollowEachOther (IsSameSpotIn cs) (Masked r (Finished w)) (Finished w)
  mask_ends w = one_leads (masked_leads r w) (sealed_spot cs sealed (λ o. refl)) (itself (Finished w))

  mask_is_nothing : (a : Term) → FollowEachOther (IsSameSpotIn cs) (Masked r a) a
  mask_is_nothing a =
      record {
        to = inside (MaskedIn r ∷ []) [] (λ x. sealed_spot cs sealed (λ o. refl)) (λ w. (mask_ends w).to) a;
        from = inside [] (MaskedIn r ∷ []) (λ x. sealed_spot cs sealed (λ o. refl)) (λ w. (mask_ends w).from) a;
      }

data PollsAtOnce (p : ℕ) : Term → Term → Type 0 where
  polls : (a : Term) → IsUsedAs kind.OtherPoll p a → PollsAtOnce p (Mask p (Poll (Slot p) a)) a

polls_put : (p x n : ℕ) (t u : Term) → and_bound p none_bound x ≡ false → PollsAtOnce p t u → PollsAtOnce p (put x n t) (put x n u)
polls_put p x n t u free (polls a h) = rw (other_arg p x n free) (polls (put x n a) (put_used p kind.OtherPoll x n a h))

polls_need : (p : ℕ) (t u : Term) → PollsAtOnce p t u → need t ≡ need u
polls_need p t u (polls a h) = refl

pub polled_inside : {m : Shift} {i j k l : ℕ} {x y : Term} → IsRenumbered m (Mask i (Poll (Slot j) x)) (Mask k (Poll (Slot l) y)) → IsRenumbered m x y
polled_inside (renumbered.mask u (renumbered.poll v g)) = g

pub number_put : (p r : ℕ) (a : Term) → IsUsedAs kind.OtherPoll p a → put p r (Poll (Slot p) a) ≡ Poll (Number r) a
number_put p r a h = rw (eq-eqb p p refl, put_unused p r a h) refl

polls_come : (p : ℕ) (Ends : Counts → Progress → Type 0) → AreEndsOfStops Ends → (s : Cover) (place : Place) → is_closed s ≡ true → IsCoveredBy s place
    → (t u : Term) → PollsAtOnce p t u → ComeToTheSameWithOwn Ends place t u
polls_come p Ends ends s place closed at t u (polls a h) c now ls =
    let r = c.masks in
    let d = one_more_mask c in
    let entered = subst (λ (x : Term). CanComeTo Ends c (come_to place (Mask p (Poll (Slot p) a))) ls ↔ CanComeTo Ends d (come_to place (Masked r x)) ls)
    (number_put p r a h) (mask_first ends s place closed at p (Poll (Slot p) a) c ls) in
    let opened = poll_next ends s place closed at r a d ls in
    let follow = both_come_in Ends ends.told s place at (Masked r (Opened r a)) a
    (λ cs k. let f = opened_at_once cs (some_closed s cs closed k) r a in (f.to, f.from))
    (λ cs k. let f = opened_at_once cs (some_closed Sealed cs refl k) r a in (f.to, f.from)) d ls in
    let own = own_with place c (Mask p (Poll (Slot p) a)) a (λ m g. polled_inside g) now in
    let less = one_more_entered ends c (come_to place a) own ls in
    (λ k. less.0 (follow.0 (opened.0 (entered.0 k))), λ k. entered.1 (opened.1 (follow.1 (less.1 k))))

pub polled_at_once : (scope : ℕ → Option NameKind) (p : ℕ) (a : Term) → IsScoped (with_name p kind.OtherPoll scope) a
    → AreAlikeInScripts is_closed (and_bound p none_bound) (Mask p (Poll (Slot p) a)) a
polled_at_once scope p a scoped =
    alike_in_scripts is_closed (and_bound p none_bound) (PollsAtOnce p) (polls_put p) (polls_need p) (polls_come p)
    (Mask p (Poll (Slot p) a)) a (polls a (scoped_used p (with_name p kind.OtherPoll scope) kind.OtherPoll a (name_is p kind.OtherPoll scope) scoped))

data HasMask : Term → Term → Type 0 where
  a_mask : (p : ℕ) (a : Term) → IsUsedAs kind.OtherPoll p a → HasMask (Mask p a) a

mask_put : (x n : ℕ) (t u : Term) → none_bound x ≡ false → HasMask t u → HasMask (put x n t) (put x n u)
mask_put x n t u free (a_mask p a h) = a_mask p (put x n a) (put_used p kind.OtherPoll x n a h)

mask_need : (t u : Term) → HasMask t u → need t ≡ need u
mask_need t u (a_mask p a h) = refl

pub mask_inside : {m : Shift} {i j : ℕ} {x y : Term} → IsRenumbered m (Mask i x) (Mask j y) → IsRenumbered m x y
mask_inside (renumbered.mask u g) = g

sealed_is_closed : (s : Cover) → is_sealed s ≡ true → is_closed s ≡ true
sealed_is_closed Bare h = absurd cc
sealed_is_closed Sealed h = refl
sealed_is_closed (Masks n) h = absurd cc

sealed_by : (s : Cover) (cs : List Closing) → is_sealed s ≡ true → AreClosedBy s cs → has_seal cs ≡ true
sealed_by Bare cs h k = absurd cc
sealed_by Sealed cs h k = k
sealed_by (Masks n) cs h k = absurd cc

mask_comes : (Ends : Counts → Progress → Type 0) → AreEndsOfStops Ends → (s : Cover) (place : Place) → is_sealed s ≡ true → IsCoveredBy s place
    → (t u : Term) → HasMask t u → ComeToTheSameWithOwn Ends place t u
mask_comes Ends ends s place sealed at t u (a_mask p a h) c now ls =
    let r = c.masks in
    let d = one_more_mask c in
    let closed = sealed_is_closed s sealed in
    let entered = subst (λ (x : Term). CanComeTo Ends c (come_to place (Mask p a)) ls ↔ CanComeTo Ends d (come_to place (Masked r x)) ls)
    (put_unused p r a h) (mask_first ends s place closed at p a c ls) in
    let follow = both_come_in Ends ends.told s place at (Masked r a) a
    (λ cs k. let f = mask_is_nothing cs (sealed_by s cs sealed k) r a in (f.to, f.from))
    (λ cs k. let f = mask_is_nothing cs k r a in (f.to, f.from)) d ls in
    let own = own_with place c (Mask p a) a (λ m g. mask_inside g) now in
    let less = one_more_entered ends c (come_to place a) own ls in
    (λ k. less.0 (follow.0 (entered.0 k)), λ k. entered.1 (follow.1 (less.1 k)))

pub mask_of_sealed : (scope : ℕ → Option NameKind) (p : ℕ) (a : Term) → IsScoped (with_name p kind.OtherPoll scope) a
    → AreAlikeInScripts is_sealed none_bound (Mask p a) a
mask_of_sealed scope p a scoped =
    alike_in_scripts is_sealed none_bound HasMask mask_put mask_need mask_comes (Mask p a) a
    (a_mask p a (scoped_used p (with_name p kind.OtherPoll scope) kind.OtherPoll a (name_is p kind.OtherPoll scope) scoped))

pub polled_reached : (scope : ℕ → Option NameKind) (p : ℕ) (a : Term) → IsScoped (with_name p kind.OtherPoll scope) a
    → AreAlikeWhereReached is_closed (Mask p (Poll (Slot p) a)) a
polled_reached scope p a scoped =
    alike_where_reached is_closed (Mask p (Poll (Slot p) a)) a
    (λ Ends ends s place closed at. polls_come p Ends ends s place closed at (Mask p (Poll (Slot p) a)) a
    (polls a (scoped_used p (with_name p kind.OtherPoll scope) kind.OtherPoll a (name_is p kind.OtherPoll scope) scoped)))

pub mask_reached : (scope : ℕ → Option NameKind) (p : ℕ) (a : Term) → IsScoped (with_name p kind.OtherPoll scope) a
    → AreAlikeWhereReached is_sealed (Mask p a) a
mask_reached scope p a scoped =
    alike_where_reached is_sealed (Mask p a) a
    (λ Ends ends s place sealed at. mask_comes Ends ends s place sealed at (Mask p a) a
    (a_mask p a (scoped_used p (with_name p kind.OtherPoll scope) kind.OtherPoll a (name_is p kind.OtherPoll scope) scoped)))
