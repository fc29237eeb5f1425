-- A mask that is opened at once, round a term whose first leaf stands at the very place: wherever it stands.
use Rattle.std.proofs.Common.{◌≡◌, ℕ, ◌==◌, Bool, true, false, if◌then◌else◌, Option, List, [], ◌∷◌, refl, sym, ◌∙◌, subst}
use Rattle.std.specs.Prelude.{◌↔◌}
use Rattle.std.proofs.lemmas.Bool.{eq-eqb}
use Rattle.fx_term.specs.declared.node.Arg.TheVariants.{Number, Slot}
use Rattle.fx_term.specs.declared.done.Done.{Done}
use Rattle.fx_term.specs.declared.name_kind.NameKind.{NameKind}
use Rattle.fx_term.specs.declared.name_kind.NameKind.TheVariants as kind
use Rattle.fx_term.specs.Term.{Term, Mask, Poll, Finished, Masked, Opened, put}
use Rattle.fx_term.specs.Need.{need}
use Rattle.fx_term.specs.Scope.{with_name, IsScoped}
use Rattle.fx_term.proofs.NameUses.{IsUsedAs, scoped_used, put_used, name_is}
use Rattle.fx_mask.specs.Closing.{Closing, Region}
use Rattle.fx_model.specs.Path.{Context, MaskedIn, OpenedIn}
use Rattle.fx_model.specs.Row.{Counts, Label, Row, one_more_mask}
use Rattle.fx_model.specs.Step.{Progress}
use Rattle.fx_model.specs.Run.{Leads, shown}
use Rattle.fx_laws.specs.Everywhere.{placed, Place, InTerm, InCleanup, come_to}
use Rattle.fx_laws.proofs.Placed.{result_placed, row_placed, RowOfPlaced, moves_in, result_in, row_of_placed}
use Rattle.fx_laws.proofs.SamePlaces.{same_whole}
use Rattle.fx_laws.proofs.SilentRows.{opened_leads, masked_leads, leads_placed}
use Rattle.fx_laws.proofs.OnlyRows.{only_silent}
use Rattle.fx_script_laws.specs.Cover.{Cover, is_any, IsCoveredBy}
use Rattle.fx_script_laws.specs.Filled.{none_bound, and_bound}
use Rattle.fx_script_laws.specs.BeginsOpenly.{BeginsOpenly}
use Rattle.fx_script_laws.specs.Interchange.{CanComeTo, ComeToTheSameAt}
use Rattle.fx_script_laws.specs.InScripts.{AreAlikeInScripts}
use Rattle.fx_script_laws.proofs.Followed.{StepThere, a_row, a_result, leaves, looks, IsPlaceOf, step_more}
use Rattle.fx_script_laws.proofs.Spots.{IsSameSpot, inside_spot}
use Rattle.fx_script_laws.proofs.FollowedPlaces.{sight_of_whole, waits_at, running_place, cleaning_place}
use Rattle.fx_script_laws.proofs.EachFollows.{leads_by}
use Rattle.fx_script_laws.proofs.OwnNames.{other_arg}
use Rattle.fx_script_laws.proofs.OwnRegions.{HasOwnRegions, own_with, one_more_entered}
use Rattle.fx_script_laws.proofs.AtClosedPlaces.{AreEndsOfStops}
use Rattle.fx_script_laws.proofs.ClosedLaws.{mask_leads}
use Rattle.fx_script_laws.proofs.MasksEntered.{silent_inside}
use Rattle.fx_script_laws.proofs.StepsAtPlace.{silent_by}
use Rattle.fx_script_laws.proofs.StepsBefore.{begins_put, same_as}
use Rattle.fx_script_laws.proofs.RegionLaws.{number_put, poll_leads, polled_inside}
use Rattle.fx_script_laws.proofs.AlikeInScripts.{ComeToTheSameWithOwn, alike_in_scripts}
use Rattle.fx_script_laws.specs.Reached.{AreAlikeWhereReached}
use Rattle.fx_script_laws.proofs.ReachedPlaces.{alike_where_reached}

-- one term in two lists of contexts, in which it is at the same spot, and whose results come to the same
module _ {Ends : Counts → Progress → Type 0} (gs hs : List Context) (spots : (x : Term) → IsSameSpot (placed gs x) (placed hs x)) where
  module _ {at : Term → Progress} {closed : Term → Bool} {IsFree : Counts → Term → Type 0} (place : IsPlaceOf IsSameSpot at closed IsFree Ends)
      (results : (w : Done) (c : Counts) (ls : List Label) → CanComeTo Ends c (at (placed gs (Finished w))) ls
      → CanComeTo Ends c (at (placed hs (Finished w))) ls) where
    inside : (ls : List Label) (c d : Counts) (q : Progress) (x : Term) → Leads c (at (placed gs x)) ls d q → Ends d q
        → CanComeTo Ends c (at (placed hs x)) (shown ls)
    inside [] c d q x h e =
        record {
          labels = [];
          counts = c;
          progress = at (placed hs x);
          run = (refl, refl);
          shown_is = refl;
          ends = place.same_end c (placed gs x) (placed hs x) (spots x) (rw (h.0, h.1) at e);
        }
    inside (l ∷ ls) c d q x h e = by_step (place.step_there c h.0 (placed gs x) l h.1 h.2) refl h h.3 (λ b y k. inside ls b d q y k e)
      where
        result : (w : Done) {l : Label} → x ≡ Finished w → Leads c (at (placed gs x)) (l ∷ ls) d q → CanComeTo Ends c (at (placed hs x)) (shown (l ∷ ls))
        result w {l} is all =
            let all' : Leads c (at (placed gs (Finished w))) (l ∷ ls) d q = subst (λ (z : Term). Leads c (at (placed gs z)) (l ∷ ls) d q) is all in
            rw is (results w c (shown (l ∷ ls)) (record { labels = l ∷ ls; counts = d; progress = q; run = all'; shown_is = refl; ends = e }))

        by_row : {l : Label} {f : Counts} {z u : Term} → RowOfPlaced (closed (placed gs x)) c gs z l f u → z ≡ x → IsFree c (placed gs x)
            → Leads c (at (placed gs x)) (l ∷ ls) d q → Leads f (at u) ls d q
            → ((b : Counts) (y : Term) → Leads b (at (placed gs y)) ls d q → CanComeTo Ends b (at (placed hs y)) (shown ls))
            → CanComeTo Ends c (at (placed hs x)) (shown (l ∷ ls))
        by_row {l} {f} (moves_in {w = y} r) is free all rest more =
            let r' : Row (closed (placed hs x)) c x l f y =
            subst (λ (k : Bool). Row k c x l f y) (place.same_closed (placed gs x) (placed hs x) (spots x))
            (subst (λ (z : Term). Row (closed (placed gs x)) c z l f y) is r) in
            step_more ls (place.row_there c f (placed hs x) (placed hs y) l (place.same_free c (placed gs x) (placed hs x) (spots x) free) (row_placed hs r'))
            (more f y rest)
        by_row (result_in {w = w}) is free all rest more = result w (sym is) all

        by_step : {t : Term} {m : Progress} {f : Counts} {l : Label} → StepThere IsSameSpot at closed IsFree c t l f m → t ≡ placed gs x
            → Leads c (at (placed gs x)) (l ∷ ls) d q → Leads f m ls d q
            → ((b : Counts) (y : Term) → Leads b (at (placed gs y)) ls d q → CanComeTo Ends b (at (placed hs y)) (shown ls))
            → CanComeTo Ends c (at (placed hs x)) (shown (l ∷ ls))
        by_step {t} {f = f} {l = l} (a_row {t1 = u} free r) is all rest more =
            by_row (row_of_placed gs x (subst (λ (z : Term). Row (closed z) c z l f u) is r)) refl (subst (IsFree c) is free) all rest more
        by_step (a_result w free same) is all rest more = result w (result_placed gs x w (sym same ∙ is)).1 all
        by_step (leaves {l = l} {d = f} {q = m} s) is all rest more =
            step_more ls (s (placed hs x) (subst (λ (z : Term). IsSameSpot z (placed hs x)) (sym is) (spots x)))
            (record { labels = ls; counts = d; progress = q; run = rest; shown_is = refl; ends = e })
        by_step {t} (looks {l = l} {d = f} s) is all rest more =
            step_more ls (s (placed hs x) (subst (λ (z : Term). IsSameSpot z (placed hs x)) (sym is) (spots x)))
            (more f x (subst (λ (z : Term). Leads f (at z) ls d q) is rest))

  pub inside_both : AreEndsOfStops Ends → (place : Place)
      → ((w : Done) (c : Counts) (ls : List Label) → CanComeTo Ends c (come_to place (placed gs (Finished w))) ls
      → CanComeTo Ends c (come_to place (placed hs (Finished w))) ls)
      → (x : Term) (c : Counts) (ls : List Label) → CanComeTo Ends c (come_to place (placed gs x)) ls → CanComeTo Ends c (come_to place (placed hs x)) ls
  inside_both ends (InTerm fs) results x c ls h =
      rw (sym h.shown_is)
      (inside (running_place waits_at fs (λ a b s. sight_of_whole (placed fs a) (placed fs b) (same_whole fs s.place)) ends.told) results h.labels c h.counts
      h.progress x h.run h.ends)
  inside_both ends (InCleanup k xs fs) results x c ls h =
      rw (sym h.shown_is) (inside (cleaning_place waits_at fs k xs ends.told) results h.labels c h.counts h.progress x h.run h.ends)

module _ (r : ℕ) where
  abbrev at_once : List Context
  at_once = MaskedIn r ∷ OpenedIn r ∷ []

  opens_it : (outer : List Closing) → (if r == r then outer else Region r ∷ outer) ≡ outer
  opens_it outer = rw (eq-eqb r r refl) refl

  there : (x : Term) → IsSameSpot (placed at_once x) (placed [] x)
  there = inside_spot at_once [] opens_it (λ xs. refl)

  back : (x : Term) → IsSameSpot (placed [] x) (placed at_once x)
  back = inside_spot [] at_once (λ outer. sym (opens_it outer)) (λ xs. refl)

  module _ {Ends : Counts → Progress → Type 0} (ends : AreEndsOfStops Ends) (place : Place) where
    -- a result leaves the poll, and then the mask
    result_comes : (w : Done) → ComeToTheSameAt Ends place (Masked r (Opened r (Finished w))) (Finished w)
    result_comes w c ls =
        silent_by ends (leads_by (leads_placed (MaskedIn r ∷ []) (opened_leads r w))) (there (Finished w)).place (λ o. refl) (λ d. Unit {0}) (λ d h. tt)
        place
        (λ d h ms. silent_inside ends place (Masked r (Finished w)) (Finished w) (only_silent d (masked_leads r w)) (λ cs. refl) (λ o. refl) ms) c tt ls

    opened_comes : (a : Term) → ComeToTheSameAt Ends place (Masked r (Opened r a)) a
    opened_comes a c ls = (
      inside_both at_once [] there ends place (λ w d ms h. (result_comes w d ms).0 h) a c ls,
      inside_both [] at_once back ends place (λ w d ms h. (result_comes w d ms).1 h) a c ls,
    )

data PollsOpenly (p : ℕ) : Term → Term → Type 0 where
  polls : (a : Term) → IsUsedAs kind.OtherPoll p a → BeginsOpenly a → PollsOpenly p (Mask p (Poll (Slot p) a)) a

polls_put : (p x n : ℕ) (t u : Term) → and_bound p none_bound x ≡ false → PollsOpenly p t u → PollsOpenly p (put x n t) (put x n u)
polls_put p x n t u free (polls a h b) =
    rw (other_arg p x n free) (polls (put x n a) (put_used p kind.OtherPoll x n a h) (begins_put x n a b))

polls_need : (p : ℕ) (t u : Term) → PollsOpenly p t u → need t ≡ need u
polls_need p t u (polls a h b) = refl

polls_come : (p : ℕ) (Ends : Counts → Progress → Type 0) → AreEndsOfStops Ends → (s : Cover) (place : Place) → is_any s ≡ true → IsCoveredBy s place
    → (t u : Term) → PollsOpenly p t u → ComeToTheSameWithOwn Ends place t u
polls_come p Ends ends s place any at t u (polls a h b) c now ls =
    let whole = Mask p (Poll (Slot p) a) in
    silent_by ends (mask_leads [] p (Poll (Slot p) a)) (same_as whole a (λ outer. refl) refl refl b) (λ o. refl)
    (λ d. HasOwnRegions d (come_to place a)) (λ d own. own) place entered c (own_with place c whole a (λ m g. polled_inside g) now) ls
  where
    entered : (d : Counts) → HasOwnRegions d (come_to place a) → (ms : List Label)
        → CanComeTo Ends (one_more_mask d) (come_to place (Masked d.masks (put p d.masks (Poll (Slot p) a)))) ms ↔ CanComeTo Ends d (come_to place a) ms
    entered d own ms =
        let r = d.masks in
        let e = one_more_mask d in
        let one = silent_inside ends place (Masked r (Poll (Number r) a)) (Masked r (Opened r a))
        (only_silent e (leads_placed (MaskedIn r ∷ []) (poll_leads r a))) (λ cs. refl) (λ o. refl) ms in
        let two = opened_comes r ends place a e ms in
        let three = one_more_entered ends d (come_to place a) own ms in
        subst (λ (x : Term). CanComeTo Ends e (come_to place (Masked r x)) ms ↔ CanComeTo Ends d (come_to place a) ms) (sym (number_put p r a h))
        (λ k. three.0 (two.0 (one.0 k)), λ k. one.1 (two.1 (three.1 k)))

pub polled_openly : (scope : ℕ → Option NameKind) (p : ℕ) (a : Term) → IsScoped (with_name p kind.OtherPoll scope) a → BeginsOpenly a
    → AreAlikeInScripts is_any (and_bound p none_bound) (Mask p (Poll (Slot p) a)) a
polled_openly scope p a scoped b =
    alike_in_scripts is_any (and_bound p none_bound) (PollsOpenly p) (polls_put p) (polls_need p) (polls_come p)
    (Mask p (Poll (Slot p) a)) a
    (polls a (scoped_used p (with_name p kind.OtherPoll scope) kind.OtherPoll a (name_is p kind.OtherPoll scope) scoped) b)

pub polled_openly_reached : (scope : ℕ → Option NameKind) (p : ℕ) (a : Term) → IsScoped (with_name p kind.OtherPoll scope) a → BeginsOpenly a
    → AreAlikeWhereReached is_any (Mask p (Poll (Slot p) a)) a
polled_openly_reached scope p a scoped b =
    alike_where_reached is_any (Mask p (Poll (Slot p) a)) a
    (λ Ends ends s place any at. polls_come p Ends ends s place any at (Mask p (Poll (Slot p) a)) a
    (polls a (scoped_used p (with_name p kind.OtherPoll scope) kind.OtherPoll a (name_is p kind.OtherPoll scope) scoped) b))
