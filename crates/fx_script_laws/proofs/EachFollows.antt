-- Terms of which each follows the other.
use Rattle.std.proofs.Common.{◌≡◌, ℕ, Bool, false, List, [], ◌∷◌, sym}
use Rattle.fx_term.specs.declared.done.Done.{Done}
use Rattle.fx_term.specs.Term.{Term, Finished, put}
use Rattle.fx_term.specs.Need.{need}
use Rattle.fx_mask.specs.Closing.{Closing}
use Rattle.fx_model.specs.Path.{Context, CleanupTerm, closed_along, closed_regions, leaf, cleanup_terms, is_canceled_form}
use Rattle.fx_model.specs.Row.{Counts, Label, Silent, Row}
use Rattle.fx_model.specs.Outside.{Outside, leaf_can_step}
use Rattle.fx_laws.specs.Everywhere.{placed, ShowTheSameEverywhere}
use Rattle.fx_laws.proofs.Placed.{around}
use Rattle.fx_laws.proofs.SilentRows.{LeadsSilently}
use Rattle.fx_laws.proofs.SteppedAlike.{LeadsBy}
use Rattle.fx_script_laws.specs.Interchange.{Anywhere, StopsThere, ComeToTheSame, AreOthers, put_each, AreInterchangeable}
use Rattle.fx_script_laws.specs.Filled.{none_bound}
use Rattle.fx_script_laws.proofs.Followed.{IsFollowed, same, sooner, later, by_row, inside}
use Rattle.fx_script_laws.proofs.Spots.{IsSameSpot, spot_turned, inside_spot}
use Rattle.fx_script_laws.proofs.FollowedPlaces.{anywhere_told, stops_told, both_come}
use Rattle.fx_script_laws.proofs.WholeTerms.{come_is_shown}

-- each of two terms follows the other, where such spots are the same
pub record FollowEachOther (Spot : Term → Term → Type 0) (t u : Term) : Type 0 where
  pub to : IsFollowed Spot t u
  pub from : IsFollowed Spot u t

-- wherever they stand
abbrev pub EachFollows : Term → Term → Type 0
EachFollows = FollowEachOther IsSameSpot

pub itself : {Spot : Term → Term → Type 0} (t : Term) → FollowEachOther Spot t t
itself t = record { to = same; from = same }

pub turned_each : {Spot : Term → Term → Type 0} {t u : Term} → FollowEachOther Spot t u → FollowEachOther Spot u t
turned_each f = record { to = f.from; from = f.to }

pub spot_by : {t u : Term} → ((outer : List Closing) → closed_regions outer t ≡ closed_regions outer u) → is_canceled_form (leaf t) ≡ is_canceled_form (leaf u)
    → cleanup_terms t ≡ cleanup_terms u → ((o : Outside) → leaf_can_step o (leaf t) ≡ leaf_can_step o (leaf u)) → IsSameSpot t u
spot_by closed canceled clean waits = record { place = record { closed = closed; leaf_is = canceled; clean = clean }; waits = waits }

pub leads_by : {t u : Term} → LeadsSilently t u → LeadsBy (λ c. Silent) (λ c. c) t (λ c. u)
leads_by s = record { there = s.there; only = s.only; going = s.going }

module _ {Spot : Term → Term → Type 0} where
  -- a silent step at one place
  pub one_leads : {t t1 u : Term} → LeadsSilently t t1 → Spot t t1 → FollowEachOther Spot t1 u → FollowEachOther Spot t u
  one_leads l s f = record { to = sooner l s f.to; from = later l s f.from }

  -- each has one row, with the same label
  step_too : {label : Counts → Label} {after : Counts → Counts} {t t' : Term} {u u' : Counts → Term} → LeadsBy label after t u → LeadsBy label after t' u'
      → Spot t t' → ((b : Counts) → IsFollowed Spot (u b) (u' b)) → IsFollowed Spot t t'
  step_too {label} {after} {t} {t'} {u} {u'} s s' spot next =
      by_row spot s.going (λ k c d l t1 r. u' c)
      (λ k c d l t1 r. let o = s.only k c d l t1 r in rw (o.0, o.1) (s'.there k c))
      (λ k c d l t1 r. let o = s.only k c d l t1 r in rw o.2 (next c))

  pub both_step_at : {label : Counts → Label} {after : Counts → Counts} {t t' : Term} {u u' : Counts → Term} → LeadsBy label after t u
      → LeadsBy label after t' u'
      → Spot t t' → Spot t' t → ((b : Counts) → FollowEachOther Spot (u b) (u' b)) → FollowEachOther Spot t t'
  both_step_at s s' spot back next = record { to = step_too s s' spot (λ b. (next b).to); from = step_too s' s back (λ b. (next b).from) }

pub both_step : {label : Counts → Label} {after : Counts → Counts} {t t' : Term} {u u' : Counts → Term} → LeadsBy label after t u → LeadsBy label after t' u'
    → IsSameSpot t t' → ((b : Counts) → EachFollows (u b) (u' b)) → EachFollows t t'
both_step s s' spot next = both_step_at s s' spot (spot_turned spot) next

pub both_lead : {t u t' u' : Term} → LeadsSilently t u → LeadsSilently t' u' → IsSameSpot t t' → EachFollows u u' → EachFollows t t'
both_lead s s' spot next = both_step (leads_by s) (leads_by s') spot (λ b. next)

-- neither has a row
pub record HasNoRow (t : Term) : Type 0 where
  pub none : (k : Bool) (c d : Counts) (l : Label) (t1 : Term) → Row k c t l d t1 → ⊥
  pub going : (w : Done) → t ≡ Finished w → ⊥

no_row : {t u : Term} → HasNoRow t → IsSameSpot t u → IsFollowed IsSameSpot t u
no_row {t} h spot =
    by_row spot h.going (λ k c d l t1 r. t) (λ k c d l t1 r. absurd (h.none k c d l t1 r)) (λ k c d l t1 r. absurd (h.none k c d l t1 r))

pub neither_steps : {t u : Term} → HasNoRow t → HasNoRow u → IsSameSpot t u → EachFollows t u
neither_steps h h' spot = record { to = no_row h spot; from = no_row h' (spot_turned spot) }

-- one term in two lists of contexts
pub both_inside : (gs hs : List Context) → ((outer : List Closing) → closed_along outer gs ≡ closed_along outer hs)
    → ((xs : List CleanupTerm) → around gs xs ≡ around hs xs) → ((w : Done) → EachFollows (placed gs (Finished w)) (placed hs (Finished w))) → (x : Term)
    → EachFollows (placed gs x) (placed hs x)
both_inside gs hs closed clean ends x =
    record {
      to = inside gs hs (inside_spot gs hs closed clean) (λ w. (ends w).to) x;
      from = inside hs gs (inside_spot hs gs (λ outer. sym (closed outer)) (λ xs. sym (clean xs))) (λ w. (ends w).from) x;
    }

-- pairs of terms that stay such pairs whatever numbers stand for their names, but their own ones
module _ (own : ℕ → Bool) (Pair : Term → Term → Type 0) (puts : (x n : ℕ) (t u : Term) → own x ≡ false → Pair t u → Pair (put x n t) (put x n u)) where
  pub numbered : (numbers : List (ℕ × ℕ)) → AreOthers own numbers → (t u : Term) → Pair t u → Pair (put_each numbers t) (put_each numbers u)
  numbered [] h t u p = p
  numbered (b ∷ bs) h t u p = numbered bs h.1 (put b.0 b.1 t) (put b.0 b.1 u) (puts b.0 b.1 t u h.0 p)

module _ (own : ℕ → Bool) (Pair : Term → Term → Type 0) (puts : (x n : ℕ) (t u : Term) → own x ≡ false → Pair t u → Pair (put x n t) (put x n u))
    (needs : (t u : Term) → Pair t u → need t ≡ need u) (follows : (t u : Term) → Pair t u → EachFollows t u) where
  needed : (t u : Term) → Pair t u → (numbers : List (ℕ × ℕ)) → AreOthers own numbers → need (put_each numbers t) ≡ need (put_each numbers u)
  needed t u p numbers h = needs (put_each numbers t) (put_each numbers u) (numbered own Pair puts numbers h t u p)

  shown_same : (t u : Term) → Pair t u → ShowTheSameEverywhere t u
  shown_same t u p = let f = follows t u p in come_is_shown t u (both_come Anywhere anywhere_told t u f.to f.from)

  waits_same : (t u : Term) → Pair t u → (o : Outside) (g : ℕ) (ended : Bool) → ComeToTheSame (StopsThere o g ended) t u
  waits_same t u p o g ended = let f = follows t u p in both_come (StopsThere o g ended) (stops_told o g ended) t u f.to f.from

  pub interchangeable_but : (t u : Term) → Pair t u → AreInterchangeable own t u
  interchangeable_but t u p =
      record {
        shows = record {
          needs = needed t u p;
          shows = λ numbers h. shown_same (put_each numbers t) (put_each numbers u) (numbered own Pair puts numbers h t u p);
        };
        waits = record {
          needs = needed t u p;
          waits = λ numbers h. waits_same (put_each numbers t) (put_each numbers u) (numbered own Pair puts numbers h t u p);
        };
      }

-- where no name is their own
pub interchangeable : (Pair : Term → Term → Type 0) → ((x n : ℕ) (t u : Term) → Pair t u → Pair (put x n t) (put x n u))
    → ((t u : Term) → Pair t u → need t ≡ need u) → ((t u : Term) → Pair t u → EachFollows t u) → (t u : Term) → Pair t u
    → AreInterchangeable none_bound t u
interchangeable Pair puts needs follows = interchangeable_but none_bound Pair (λ x n t u h p. puts x n t u p) needs follows
