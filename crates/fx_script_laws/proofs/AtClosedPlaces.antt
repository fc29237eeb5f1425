-- Terms that come to the same at places that are closed.
use Rattle.std.proofs.Common.{◌≡◌, ℕ, Bool, true, false, ◌&&◌, ◌||◌, List, [], ◌∷◌, refl, sym, ◌∙◌, ap}
use Rattle.std.specs.Prelude.{◌↔◌}
use Rattle.fx_term.specs.Term.{Term, put}
use Rattle.fx_term.specs.Need.{need}
use Rattle.fx_mask.specs.Closing.{Closing, is_none_closed}
use Rattle.fx_model.specs.Path.{closed_along, closed_regions, leaf, is_open, must_cancel}
use Rattle.fx_model.specs.Row.{Counts, Label, Silent}
use Rattle.fx_model.specs.Step.{Progress, has_ended}
use Rattle.fx_model.specs.Run.{Leads, shown}
use Rattle.fx_model.specs.Outside.{Outside, can_step, leaf_can_step}
use Rattle.fx_laws.specs.Everywhere.{placed, Place, InTerm, InCleanup, come_to}
use Rattle.fx_laws.proofs.Placed.{leaf_placed, open_placed}
use Rattle.fx_laws.proofs.SilentRows.{LeadsSilently}
use Rattle.fx_laws.proofs.Forced.{IsForced, IsOnlyRow, runs_only, cleans_only}
use Rattle.fx_laws.proofs.OnlyRows.{only_silent, only_placed}
use Rattle.fx_script_laws.specs.Cover.{Cover, Sealed, is_closed, AreClosedBy, IsCoveredBy}
use Rattle.fx_script_laws.specs.Interchange.{Anywhere, StopsThere, CanComeTo, ComeToTheSameAt, put_each, AreInterchangeableWhere}
use Rattle.fx_script_laws.proofs.Covers.{some_closed}
use Rattle.fx_script_laws.proofs.Followed.{silent_more}
use Rattle.fx_script_laws.proofs.FollowedPlaces.{AreToldByPlace, anywhere_told, stops_told, both_come_in}
use Rattle.fx_script_laws.proofs.Spots.{IsSameSpotIn}
use Rattle.fx_script_laws.proofs.EachFollows.{FollowEachOther, numbered}
use Rattle.fx_script_laws.proofs.WholeTerms.{come_there_is_shown}

-- ends that are told by the place, and are nothing to a fiber that can step whatever comes from outside
pub record AreEndsOfStops (Ends : Counts → Progress → Type 0) : Type 0 where
  pub told : AreToldByPlace Ends
  pub moves : (c d : Counts) (p q : Progress) → ((o : Outside) (f : ℕ) → can_step o f c p ≡ true) → Ends c p → Ends d q
  pub kept : (c d : Counts) (p q : Progress) → ((o : Outside) (f : ℕ) → can_step o f c p ≡ can_step o f d q) → has_ended p ≡ has_ended q → Ends c p
      → Ends d q

pub anywhere_ends : AreEndsOfStops Anywhere
anywhere_ends = record { told = anywhere_told; moves = λ c d p q go e. tt; kept = λ c d p q can same e. tt }

pub stops_end : (o : Outside) (f : ℕ) (ended : Bool) → AreEndsOfStops (StopsThere o f ended)
stops_end o f ended =
    record {
      told = stops_told o f ended;
      moves = λ c d p q go e. absurd (let h = go o f in let k = e.0 in cc);
      kept = λ c d p q can same e. (sym (can o f) ∙ e.0, sym same ∙ e.1);
    }

last_true : (a b c : Bool) → c ≡ true → (a || b || c) ≡ true
last_true true b c h = refl
last_true false true c h = refl
last_true false false c h = h

-- who stands where the leaf waits for nothing can step
pub can_go : (place : Place) (t : Term) → ((o : Outside) → leaf_can_step o (leaf t) ≡ true) → (c : Counts) (o : Outside) (f : ℕ)
    → can_step o f c (come_to place t) ≡ true
can_go (InTerm fs) t steps c o f =
    last_true (must_cancel c.known (placed fs t)) (is_open (placed fs t) && o.is_requested f) (leaf_can_step o (leaf (placed fs t)))
    (ap (leaf_can_step o) (leaf_placed fs t) ∙ steps o)
can_go (InCleanup k rest fs) t steps c o f = ap (leaf_can_step o) (leaf_placed fs t) ∙ steps o

-- inside of what is closed the place of the term is closed
abbrev pub StaysShut : Term → Type 0
StaysShut t = (cs : List Closing) → is_none_closed cs ≡ false → is_none_closed (closed_regions cs t) ≡ false

-- a silent row at a closed place is the only step there
pub leads_on : (s : Cover) (place : Place) → is_closed s ≡ true → IsCoveredBy s place → {c d : Counts} {t u : Term} → IsOnlyRow c t Silent d u
    → StaysShut t → IsForced c (come_to place t) Silent d (come_to place u)
leads_on s (InTerm fs) closed at {t = t} o opens =
    runs_only (open_placed fs t ∙ opens (closed_along [] fs) (some_closed s (closed_along [] fs) closed at)) (only_placed fs o)
leads_on s (InCleanup k rest fs) closed at o opens = cleans_only k rest (only_placed fs o)

module _ {Ends : Counts → Progress → Type 0} (ends : AreEndsOfStops Ends) where
  module _ {c d : Counts} {p q : Progress} (forced : IsForced c p Silent d q) (go : (o : Outside) (f : ℕ) → can_step o f c p ≡ true) where
    from_labels : (ms : List Label) (e : Counts) (r : Progress) → Leads c p ms e r → Ends e r → CanComeTo Ends d q (shown ms)
    from_labels [] e r h k =
        record { labels = []; counts = d; progress = q; run = (refl, refl); shown_is = refl; ends = ends.moves c d p q go (rw (h.0, h.1) at k) }
    from_labels (m ∷ ms) e r h k =
        let o = forced.only m h.0 h.1 h.2 in
        let rest : Leads d q ms e r = rw (sym o.1, sym o.2) h.3 in
        let here : CanComeTo Ends d q (shown ms) = record { labels = ms; counts = e; progress = r; run = rest; shown_is = refl; ends = k } in
        rw o.0 here

    -- the one step that there is, of which nothing is shown
    pub after_silent : (ls : List Label) → CanComeTo Ends c p ls ↔ CanComeTo Ends d q ls
    after_silent ls =
        (λ h. rw (sym h.shown_is) (from_labels h.labels h.counts h.progress h.run h.ends), λ h. silent_more forced.step h)

  -- a silent step at a closed place
  pub silent_there : (s : Cover) (place : Place) → is_closed s ≡ true → IsCoveredBy s place → (t u : Term) → LeadsSilently t u
      → StaysShut t → ((o : Outside) → leaf_can_step o (leaf t) ≡ true) → ComeToTheSameAt Ends place t u
  silent_there s place closed at t u l opens steps c ls =
      after_silent (leads_on s place closed at (only_silent c l) opens) (can_go place t steps c) ls

pub come_too : (Ends : Counts → Progress → Type 0) (place : Place) (t u v : Term) → ComeToTheSameAt Ends place t u → ComeToTheSameAt Ends place u v
    → ComeToTheSameAt Ends place t v
come_too Ends place t u v h k c ls = (λ r. (k c ls).0 ((h c ls).0 r), λ r. (h c ls).1 ((k c ls).1 r))

-- pairs of terms that stay such pairs whatever numbers stand for their names, but their own ones, and come to the same at places that are closed so
module _ (there : Cover → Bool) (own : ℕ → Bool) (Pair : Term → Term → Type 0)
    (puts : (x n : ℕ) (t u : Term) → own x ≡ false → Pair t u → Pair (put x n t) (put x n u)) (needs : (t u : Term) → Pair t u → need t ≡ need u)
    (comes : (Ends : Counts → Progress → Type 0) → AreEndsOfStops Ends → (s : Cover) (place : Place) → there s ≡ true → IsCoveredBy s place
    → (t u : Term) → Pair t u → ComeToTheSameAt Ends place t u) where
  pub interchangeable_where : (t u : Term) → Pair t u → AreInterchangeableWhere there own t u
  interchangeable_where t u p =
      record {
        needs = λ numbers h. needs (put_each numbers t) (put_each numbers u) (numbered own Pair puts numbers h t u p);
        shows = λ numbers h s place is at.
            come_there_is_shown place (put_each numbers t) (put_each numbers u)
            (comes Anywhere anywhere_ends s place is at (put_each numbers t) (put_each numbers u) (numbered own Pair puts numbers h t u p));
        waits = λ numbers h o f ended s place is at.
            comes (StopsThere o f ended) (stops_end o f ended) s place is at (put_each numbers t) (put_each numbers u) (numbered own Pair puts numbers h t u p);
      }

-- where each follows the other inside of what is closed so
module _ (there : Cover → Bool) (seals : there Sealed ≡ true) (Pair : Term → Term → Type 0)
    (follow : (s : Cover) (cs : List Closing) → there s ≡ true → AreClosedBy s cs → (t u : Term) → Pair t u → FollowEachOther (IsSameSpotIn cs) t u) where
  pub followed_come : (Ends : Counts → Progress → Type 0) → AreEndsOfStops Ends → (s : Cover) (place : Place) → there s ≡ true → IsCoveredBy s place
      → (t u : Term) → Pair t u → ComeToTheSameAt Ends place t u
  followed_come Ends ends s place is at t u p =
      both_come_in Ends ends.told s place at t u (λ cs h. let f = follow s cs is h t u p in (f.to, f.from))
      (λ cs h. let f = follow Sealed cs seals h t u p in (f.to, f.from))
