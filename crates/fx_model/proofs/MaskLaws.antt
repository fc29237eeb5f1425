-- The laws of masks.
use Rattle.std.proofs.Common.{◌≡◌, ◌≢◌, ℕ, suc, ◌≤◌, Option, List, [], ◌∷◌, refl, sym, ◌∙◌, subst, arith}
use Rattle.std.proofs.lemmas.Bool.{ne_eqb}
use Rattle.fx_term.specs.declared.node.Arg.TheVariants.{Slot}
use Rattle.fx_term.specs.declared.event.Event.TheVariants as event
use Rattle.fx_term.specs.Term.{Term, Mask, Poll, OnCancel, Masked, Opened, put}
use Rattle.fx_term.specs.declared.name_kind.NameKind.{NameKind}
use Rattle.fx_term.specs.declared.name_kind.NameKind.TheVariants as kind
use Rattle.fx_term.specs.Scope.{with_name, IsScoped}
use Rattle.fx_mask.specs.Closing.{Closing, Region, without_region}
use Rattle.fx_model.specs.Row.{Counts, Label, Silent, Shows, known_canceled, mask}
use Rattle.fx_model.specs.Row as rule
use Rattle.fx_model.specs.Step.{Progress, Runs, Step, cancelled, seen, row}
use Rattle.fx_model.specs.Run.{Leads, shown}
use Rattle.fx_model.specs.MaskLaws.{CanShow, BeginsWithSeen, ShowsAllOf, ShowTheSame, ShowTheSameUnlessSeenFirst, IsPlain, IsScopedWithout}
use Rattle.fx_term.proofs.NameUses.{put_other_poll, name_is}
use Rattle.fx_model.proofs.Alike.{next_regions, Alike, plain_alike}
use Rattle.fx_model.proofs.Wrapped.{Wrap, Closes, Opens, Cleans, wrapped}
use Rattle.fx_model.proofs.Paths.{no_context}
use Rattle.fx_model.proofs.ShownRuns.{Reaches, stays, steps, and_then, HasRun, can_show, after, before, enters_silently}
use Rattle.fx_model.proofs.MaskedRuns.{entering, inside, goes_along}
use Rattle.fx_model.proofs.AlikePlaces.{AreMatching, AreInside}
use Rattle.fx_model.proofs.MaskEntering.{counts_at, MaskLeadsInto, enters_mask, enters_own_poll, enters_finalizer, enters_two, enters_inverse}

abbrev canceled_at : ℕ → ℕ → Counts
canceled_at next end = known_canceled (counts_at 0 next end)

module _ (next end : ℕ) where
  -- a silent way into the masks
  way_in : {p n : ℕ} {a : Term} (ws : List Wrap) (t : Term) → MaskLeadsInto p a n ws t
      → Reaches (counts_at 0 next end) (Runs (Mask p a)) [] (counts_at n next end) (Runs (wrapped ws t))
  way_in ws t into = and_then (steps {l = Silent} (row refl mask)) (enters_silently (into next end))

  -- fibers that are known to be canceled before they enter their first mask end alike
  canceled_show : (p r : ℕ) (a b : Term) (ls : List Label) (d : Counts) (q : Progress) → Leads (canceled_at next end) (Runs (Mask p a)) ls d q
      → HasRun (canceled_at next end) (Runs (Mask r b)) (shown ls)
  canceled_show p r a b [] d q h = record { counts = canceled_at next end; progress = Runs (Mask r b); reaches = stays }
  canceled_show p r a b (l ∷ ls) d q h = by_step h.2 h.3
    where
      by_step : {e : Counts} {m : Progress} {l : Label} → Step (canceled_at next end) (Runs (Mask p a)) l e m → Leads e m ls d q
          → HasRun (canceled_at next end) (Runs (Mask r b)) (shown (l ∷ ls))
      by_step (cancelled must) rest =
          after (Shows event.Cancelled) ls (steps (cancelled refl))
          (record { counts = d; progress = q; reaches = record { labels = ls; leads = rest; shown_is = refl } })
      by_step (seen free open_here) rest = absurd cc
      by_step (row free r) rest = absurd cc

  -- what the first fiber shows where it sees a request before it enters its mask, the second shows too, if that is wanted
  abbrev ShowsSeen : (List Label → Type 0) → Term → Term → Type 0
  ShowsSeen Wanted first second =
      (ls : List Label) (d : Counts) (q : Progress) → Leads (canceled_at next end) (Runs first) ls d q → Wanted (Shows event.Seen ∷ shown ls)
      → HasRun (counts_at 0 next end) (Runs second) (Shows event.Seen ∷ shown ls)

  -- the first fiber begins with a mask, and the second comes silently inside its own
  mask_shows : {n n' p : ℕ} {ws : List Wrap} {a t : Term} (ws' : List Wrap) (second : Term) (Wanted : List Label → Type 0) → AreMatching n n' ws ws'
      → Alike n n' t t → MaskLeadsInto p a n ws t → Reaches (counts_at 0 next end) (Runs second) [] (counts_at n' next end) (Runs (wrapped ws' t))
      → ShowsSeen Wanted (Mask p a) second → (ls : List Label) (d : Counts) (q : Progress) → Leads (counts_at 0 next end) (Runs (Mask p a)) ls d q
      → Wanted (shown ls)
      → HasRun (counts_at 0 next end) (Runs second) (shown ls)
  mask_shows ws' second Wanted sides same into way found [] d q h wanted = record { counts = counts_at 0 next end; progress = Runs second; reaches = stays }
  mask_shows {n} {n'} {p} {ws} {a} {t} ws' second Wanted sides same into way found (l ∷ ls) d q h wanted = by_step h.2 h.3 wanted
    where
      by_step : {e : Counts} {m : Progress} {l : Label} → Step (counts_at 0 next end) (Runs (Mask p a)) l e m → Leads e m ls d q → Wanted (shown (l ∷ ls))
          → HasRun (counts_at 0 next end) (Runs second) (shown (l ∷ ls))
      by_step (cancelled must) rest w = absurd cc
      by_step (seen free open_here) rest w = found ls d q rest w
      by_step (row free (rule.inside f e g r)) rest w = absurd (no_context f _ _ refl e)
      by_step (row free mask) rest w =
          let within : AreInside n n' ws ws' (wrapped ws t) t t = record { sides = sides; whole_is = refl; are_alike = same } in
          let beside = entering ws ws' (into next end) within (next_regions n n') in
          before way (goes_along n n' (counts_at 1 next end) (counts_at n' next end) d (Runs (Masked 0 (put p 0 a))) (Runs (wrapped ws' t)) q ls beside rest)

  -- both fibers begin with a mask
  masks_show : {n n' p : ℕ} {ws ws' : List Wrap} {a b t : Term} (ls : List Label) → AreMatching n n' ws ws' → Alike n n' t t → MaskLeadsInto p a n ws t
      → MaskLeadsInto p b n' ws' t
      → CanShow (record { term = Mask p a; next = next; end = end }) ls → CanShow (record { term = Mask p b; next = next; end = end }) ls
  masks_show {p = p} {ws' = ws'} {a = a} {b = b} {t = t} ls sides same into into' h =
      let found : ShowsSeen (λ ms. Unit {0}) (Mask p a) (Mask p b) = λ ms d q k w. after (Shows event.Seen) ms (steps (seen refl refl))
      (canceled_show p p a b ms d q k) in
      can_show h.shown_is (mask_shows ws' (Mask p b) (λ ms. Unit {0}) sides same into (way_in ws' t into') found h.labels h.counts h.progress h.run tt)

-- sides in the other order
other_order : {n n' : ℕ} {ws ws' : List Wrap} → AreMatching n n' ws ws' → AreMatching n' n ws' ws
other_order m =
    record {
      kept = m.kept';
      kept' = m.kept;
      same = sym m.same;
      shut = m.shut';
      shut' = m.shut;
      clean = λ h. let none = m.clean (m.same ∙ h) in (none.1, none.0);
    }

masks_show_the_same : {n n' p : ℕ} {ws ws' : List Wrap} {a b t : Term} → AreMatching n n' ws ws' → ((low low' : ℕ) → Alike low low' t t)
    → MaskLeadsInto p a n ws t → MaskLeadsInto p b n' ws' t → ShowTheSame (Mask p a) (Mask p b)
masks_show_the_same {n} {n'} sides same into into' next end ls =
    (masks_show next end ls sides (same n n') into into', masks_show next end ls (other_order sides) (same n' n) into' into)

-- a region that is entered later is not the one that closes the place outside
kept_later : (q r : ℕ) (outer : List Closing) → suc q ≤ r → without_region r (Region q ∷ outer) ≡ Region q ∷ outer
kept_later q r outer h = rw (ne_eqb q r (omega arith)) refl

own_poll_sides : AreMatching 1 0 (Opens 0 ∷ Closes 0 ∷ []) []
own_poll_sides = record { kept = λ r h. refl; kept' = λ r h. refl; same = refl; shut = (refl, tt); shut' = tt; clean = λ h. (tt, tt) }

two_sides : AreMatching 2 1 (Closes 1 ∷ Closes 0 ∷ []) (Closes 0 ∷ [])
two_sides =
    record {
      kept = λ r h. kept_later 1 r (Region 0 ∷ []) h;
      kept' = λ r h. kept_later 0 r [] h;
      same = refl;
      shut = (refl, tt);
      shut' = tt;
      clean = λ h. (tt, tt);
    }

-- a finalizer at a closed place
finalizer_sides : (f : Term) → AreMatching 1 1 (Cleans f ∷ Closes 0 ∷ []) (Closes 0 ∷ [])
finalizer_sides f =
    record { kept = λ r h. kept_later 0 r [] h; kept' = λ r h. kept_later 0 r [] h; same = refl; shut = (refl, tt); shut' = tt; clean = λ h. absurd cc }

inverse_sides : AreMatching 2 1 (Opens 1 ∷ Opens 0 ∷ Closes 1 ∷ Closes 0 ∷ []) (Closes 0 ∷ [])
inverse_sides =
    record {
      kept = λ r h. kept_later 0 r [] (omega arith);
      kept' = λ r h. kept_later 0 r [] h;
      same = refl;
      shut = (refl, (refl, (refl, tt)));
      shut' = tt;
      clean = λ h. (tt, tt);
    }

module _ (scope : ℕ → Option NameKind) (p : ℕ) (t : Term) (plain : IsPlain t) where
  module _ (scoped : IsScoped (with_name p kind.OtherPoll scope) t) where
    alike_itself : (low low' : ℕ) → Alike low low' t t
    alike_itself low low' = plain_alike low low' (with_name p kind.OtherPoll scope) t plain scoped

    into_own_poll : MaskLeadsInto p (Poll (Slot p) t) 1 (Opens 0 ∷ Closes 0 ∷ []) t
    into_own_poll = enters_own_poll p t (put_other_poll p (with_name p kind.OtherPoll scope) t (name_is p kind.OtherPoll scope) scoped)

    -- what the term shows, a mask that its poll opens at once shows too
    pub own_poll_shows_all : ShowsAllOf (Mask p (Poll (Slot p) t)) t
    own_poll_shows_all next end ls h =
        let within : AreInside 0 1 [] (Opens 0 ∷ Closes 0 ∷ []) t t t =
        record { sides = other_order own_poll_sides; whole_is = refl; are_alike = alike_itself 0 1 } in
        let beside = inside [] (Opens 0 ∷ Closes 0 ∷ []) within (next_regions 0 1) in
        let way = way_in next end (Opens 0 ∷ Closes 0 ∷ []) t into_own_poll in
        can_show h.shown_is
        (before way
        (goes_along 0 1 (counts_at 0 next end) (counts_at 1 next end) h.counts (Runs t) (Runs (Masked 0 (Opened 0 t))) h.progress h.labels beside
        h.run))

    -- and shows nothing else, but for what begins with a request that is seen
    pub own_poll_is_identity : ShowTheSameUnlessSeenFirst (Mask p (Poll (Slot p) t)) t
    own_poll_is_identity next end ls unseen = (to, own_poll_shows_all next end ls)
      where
        to : CanShow (record { term = Mask p (Poll (Slot p) t); next = next; end = end }) ls → CanShow (record { term = t; next = next; end = end }) ls
        to h =
            let unseen' = subst (λ (ms : List Label). BeginsWithSeen ms → ⊥) (sym h.shown_is) unseen in
            can_show h.shown_is
            (mask_shows next end [] t (λ ms. BeginsWithSeen ms → ⊥) own_poll_sides (alike_itself 1 0) into_own_poll stays (λ ms d q k w. absurd (w tt))
            h.labels h.counts h.progress h.run unseen')

    -- a finalizer directly inside a mask whose poll is not used
    pub masked_finalizer : (f : Term) → ShowTheSame (Mask p (OnCancel t f)) (Mask p t)
    masked_finalizer f =
        let unused : (n : ℕ) → put p n t ≡ t = put_other_poll p (with_name p kind.OtherPoll scope) t (name_is p kind.OtherPoll scope) scoped in
        masks_show_the_same (finalizer_sides (put p 0 f)) alike_itself (enters_finalizer p t unused f) (enters_mask p t unused)

  module _ (r : ℕ) (other : p ≢ r) (scoped : IsScopedWithout scope p r t) where
    abbrev inner : ℕ → Option NameKind
    inner = with_name p kind.OtherPoll (with_name r kind.OtherPoll scope)

    p_unused : (n : ℕ) → put p n t ≡ t
    p_unused = put_other_poll p inner t (name_is p kind.OtherPoll (with_name r kind.OtherPoll scope)) scoped

    r_unused : (n : ℕ) → put r n t ≡ t
    r_unused = put_other_poll r inner t (rw (ne_eqb r p (λ e. other (sym e))) (name_is r kind.OtherPoll scope)) scoped

    same : (low low' : ℕ) → Alike low low' t t
    same low low' = plain_alike low low' inner t plain scoped

    -- a mask in a mask
    pub mask_in_mask : ShowTheSame (Mask p (Mask r t)) (Mask p t)
    mask_in_mask = masks_show_the_same two_sides same (enters_two p t p_unused r other r_unused) (enters_mask p t p_unused)

    -- two masks, and their polls in the inverse order
    pub inverse_polls : ShowTheSame (Mask p (Mask r (Poll (Slot p) (Poll (Slot r) t)))) (Mask p t)
    inverse_polls = masks_show_the_same inverse_sides same (enters_inverse p t p_unused r other r_unused) (enters_mask p t p_unused)
