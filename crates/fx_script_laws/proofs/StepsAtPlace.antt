-- A silent step that stays at the same place: whoever comes there before it or after it comes to the same.
use Rattle.std.proofs.Common.{◌≡◌, ℕ, Bool, true, false, not, List, [], ◌∷◌, refl, sym, ◌∙◌, ap, subst}
use Rattle.std.specs.Prelude.{◌↔◌}
use Rattle.fx_term.specs.declared.done.Done.TheVariants.{Val, Err}
use Rattle.fx_term.specs.Term.{Term, put}
use Rattle.fx_term.specs.Need.{need}
use Rattle.fx_model.specs.Path.{Context, cleanup_terms, is_open, must_cancel, leaf}
use Rattle.fx_model.specs.Row.{Counts, Label, Silent, Row, known_canceled}
use Rattle.fx_model.specs.Step.{Progress, Runs, Unwinds, Step}
use Rattle.fx_model.specs.Step as step
use Rattle.fx_model.specs.Run.{Leads, shown}
use Rattle.fx_model.specs.Outside.{Outside, can_step, leaf_can_step}
use Rattle.fx_laws.specs.Everywhere.{placed, Place, InTerm, InCleanup, come_to, ShowTheSameEverywhere}
use Rattle.fx_laws.proofs.Placed.{result_placed, row_placed, RowOfPlaced, moves_in, result_in, row_of_placed}
use Rattle.fx_laws.proofs.SamePlaces.{IsSamePlace, IsSameWhole, same_whole}
use Rattle.fx_laws.proofs.SilentRows.{LeadsSilently}
use Rattle.fx_laws.proofs.SteppedAlike.{LeadsBy}
use Rattle.fx_laws.proofs.Forced.{IsOnlyRow, cleans_only}
use Rattle.fx_laws.proofs.OnlyRows.{only_placed}
use Rattle.fx_laws.proofs.Doomed.{must_forced}
use Rattle.fx_script_laws.specs.Interchange.{Anywhere, StopsThere, CanComeTo, ComeToTheSameAt, ComeToTheSame, AreOthers, put_each, AreInterchangeable}
use Rattle.fx_script_laws.proofs.Followed.{step_more, silent_more}
use Rattle.fx_script_laws.proofs.EachFollows.{leads_by, numbered}
use Rattle.fx_script_laws.proofs.WholeTerms.{come_is_shown}
use Rattle.fx_script_laws.proofs.AtClosedPlaces.{AreEndsOfStops, anywhere_ends, stops_end, can_go, after_silent}

-- a term with one row has one inside any contexts
pub leads_by_placed : (fs : List Context) {label : Counts → Label} {after : Counts → Counts} {t : Term} {next : Counts → Term} → LeadsBy label after t next
    → LeadsBy label after (placed fs t) (λ c. placed fs (next c))
leads_by_placed fs {label} {after} {t} {next} s =
    record {
      there = λ k c. row_placed fs (s.there k c);
      only = λ k c d l w r. one (row_of_placed fs t r) refl;
      going = λ w e. s.going w (result_placed fs t w (sym e)).1;
    }
  where
    one : {k : Bool} {c d : Counts} {l : Label} {x w : Term} → RowOfPlaced k c fs x l d w → x ≡ t
        → (l ≡ label c) × (d ≡ after c) × (w ≡ placed fs (next c))
    one {k} {c} {d} {l} (moves_in {w = y} r) at =
        let o = s.only k c d l y (subst (λ (z : Term). Row k c z l d y) at r) in (o.0, o.1, ap (placed fs) o.2)
    one (result_in {w = w}) at = absurd (s.going w (sym at))

only_by : {label : Counts → Label} {after : Counts → Counts} {t : Term} {next : Counts → Term} → LeadsBy label after t next → (c : Counts)
    → IsOnlyRow c t (label c) (after c) (next c)
only_by s c = record { there = s.there true c; only = λ m e w r. s.only true c e m w r; going = s.going }

module _ {Ends : Counts → Progress → Type 0} (ends : AreEndsOfStops Ends) where
  itself : {c d : Counts} {p q : Progress} (ls : List Label) → Leads c p ls d q → Ends d q → CanComeTo Ends c p (shown ls)
  itself {d = d} {q = q} ls h e = record { labels = ls; counts = d; progress = q; run = h; shown_is = refl; ends = e }

  -- who must cancel can step
  must_step : (c : Counts) (t : Term) → must_cancel c.known t ≡ true → (o : Outside) (f : ℕ) → can_step o f c (Runs t) ≡ true
  must_step c t must o f = rw must refl

  -- two terms with the same clean-ups, at which cancellation is the one rule
  pub canceled_too : (c d : Counts) (q : Progress) (t u : Term) → must_cancel c.known t ≡ true → must_cancel c.known u ≡ true
      → cleanup_terms t ≡ cleanup_terms u → (ls : List Label) → Leads c (Runs t) ls d q → Ends d q → CanComeTo Ends c (Runs u) (shown ls)
  canceled_too c d q t u must must' clean [] h e =
      itself [] (refl, refl) (ends.moves c c (Runs t) (Runs u) (must_step c t must) (rw (h.0, h.1) at e))
  canceled_too c d q t u must must' clean (l ∷ ls) h e =
      let o = (must_forced c t must).only l h.0 h.1 h.2 in
      let at : h.1 ≡ Unwinds (cleanup_terms u) = o.2 ∙ ap Unwinds clean in
      let rest : Leads c (Unwinds (cleanup_terms u)) ls d q = rw (sym o.1, sym at) h.3 in
      rw o.0 (step_more ls (must_forced c u must').step (itself ls rest e))

  -- A term with one row, which is silent, and one at the same place: with each counts that are right, as they stay where a request is seen, the one comes
  -- after
  -- its row to what the other comes to
  module _ {t u : Term} {after : Counts → Counts} {next : Counts → Term} (leads : LeadsBy (λ c. Silent) after t next) (same : IsSamePlace t u)
      (steps : (o : Outside) → leaf_can_step o (leaf t) ≡ true) (IsRight : Counts → Type 0) (kept : (c : Counts) → IsRight c → IsRight (known_canceled c)) where
    module _ (fs : List Context)
        (come : (c : Counts) → IsRight c → (ls : List Label)
        → CanComeTo Ends (after c) (Runs (placed fs (next c))) ls ↔ CanComeTo Ends c (Runs (placed fs u)) ls)
      where
        abbrev first : Term
        first = placed fs t

        abbrev second : Term
        second = placed fs u

        whole : IsSameWhole first second
        whole = same_whole fs same

        from_first : (ls : List Label) (c d : Counts) (q : Progress) → IsRight c → Leads c (Runs first) ls d q → Ends d q
            → CanComeTo Ends c (Runs second) (shown ls)
        from_first [] c d q right h e =
            itself [] (refl, refl) (ends.moves c c (Runs first) (Runs second) (can_go (InTerm fs) t steps c) (rw (h.0, h.1) at e))
        from_first (l ∷ ls) c d q right h e = by_step h.2 refl h h.3 (λ b ok k. from_first ls b d q ok k e)
          where
            by_step : {x : Term} {l : Label} {b : Counts} {m : Progress} → Step c (Runs x) l b m → x ≡ first → Leads c (Runs first) (l ∷ ls) d q
                → Leads b m ls d q → ((b' : Counts) → IsRight b' → Leads b' (Runs first) ls d q → CanComeTo Ends b' (Runs second) (shown ls))
                → CanComeTo Ends c (Runs second) (shown (l ∷ ls))
            by_step {l = l} (step.cancelled must) is all rest more =
                let now = ap (must_cancel c.known) (sym is) ∙ must in
                canceled_too c d q first second now (sym (whole.must c.known) ∙ now) whole.clean (l ∷ ls) all e
            by_step (step.seen {t = x} free opened) is all rest more =
                let now = ap (must_cancel c.known) (sym is) ∙ free in
                step_more ls (step.seen (sym (whole.must c.known) ∙ now) (sym whole.open_is ∙ ap is_open (sym is) ∙ opened))
                (more (known_canceled c) (kept c right) (rw is at rest))
            by_step {x} {l} {b} (step.row {t' = y} free r) is all rest more =
                let o = (leads_by_placed fs leads).only (not (is_open x)) c b l y (subst (λ (z : Term). Row (not (is_open x)) c z l b y) is r) in
                let go : Leads (after c) (Runs (placed fs (next c))) ls d q = rw (sym o.1, sym o.2) rest in
                rw o.0 ((come c right (shown ls)).0 (itself ls go e))
            by_step (step.succeeds {n = n} free) is all rest more = absurd ((leads_by_placed fs leads).going (Val n) (sym is))
            by_step (step.errs {n = n} free) is all rest more = absurd ((leads_by_placed fs leads).going (Err n) (sym is))

        from_second : (ls : List Label) (c d : Counts) (q : Progress) → IsRight c → Leads c (Runs second) ls d q → Ends d q
            → CanComeTo Ends c (Runs first) (shown ls)
        from_second ls c d q right h e = by_must (must_cancel c.known first) refl
          where
            by_must : (b : Bool) → must_cancel c.known first ≡ b → CanComeTo Ends c (Runs first) (shown ls)
            by_must true must = canceled_too c d q second first (sym (whole.must c.known) ∙ must) must (sym whole.clean) ls h e
            by_must false free =
                silent_more (step.row free ((leads_by_placed fs leads).there (not (is_open first)) c)) ((come c right (shown ls)).1 (itself ls h e))

    pub silent_by : (place : Place)
        → ((c : Counts) → IsRight c → (ls : List Label) → CanComeTo Ends (after c) (come_to place (next c)) ls ↔ CanComeTo Ends c (come_to place u) ls)
        → (c : Counts) → IsRight c → (ls : List Label) → CanComeTo Ends c (come_to place t) ls ↔ CanComeTo Ends c (come_to place u) ls
    silent_by (InTerm fs) come c right ls = (
      λ h. subst (λ (ms : List Label). CanComeTo Ends c (Runs (placed fs u)) ms) h.shown_is
          (from_first fs come h.labels c h.counts h.progress right h.run h.ends),
      λ h. subst (λ (ms : List Label). CanComeTo Ends c (Runs (placed fs t)) ms) h.shown_is
          (from_second fs come h.labels c h.counts h.progress right h.run h.ends),
    )
    silent_by (InCleanup k rest fs) come c right ls =
        let forced = cleans_only k rest (only_placed fs (only_by leads c)) in
        let one = after_silent ends forced (can_go (InCleanup k rest fs) t steps c) ls in
        let two = come c right ls in
        (λ h. two.0 (one.0 h), λ h. one.1 (two.1 h))

  -- where the row leads to the other one
  pub silent_at : (place : Place) (t u : Term) → LeadsSilently t u → IsSamePlace t u → ((o : Outside) → leaf_can_step o (leaf t) ≡ true)
      → ComeToTheSameAt Ends place t u
  silent_at place t u leads same steps c ls =
      silent_by (leads_by leads) same steps (λ d. Unit {0}) (λ d h. tt) place (λ d h ms. (λ k. k, λ k. k)) c tt ls

-- pairs of terms that stay such pairs whatever numbers stand for their names, but their own ones, and come to the same wherever they stand
module _ (own : ℕ → Bool) (Pair : Term → Term → Type 0) (puts : (x n : ℕ) (t u : Term) → own x ≡ false → Pair t u → Pair (put x n t) (put x n u))
    (needs : (t u : Term) → Pair t u → need t ≡ need u)
    (comes : (Ends : Counts → Progress → Type 0) → AreEndsOfStops Ends → (t u : Term) → Pair t u → ComeToTheSame Ends t u) where
  module _ (t u : Term) (pair : Pair t u) (numbers : List (ℕ × ℕ)) (others : AreOthers own numbers) where
    both : Pair (put_each numbers t) (put_each numbers u)
    both = numbered own Pair puts numbers others t u pair

    needed : need (put_each numbers t) ≡ need (put_each numbers u)
    needed = needs (put_each numbers t) (put_each numbers u) both

    shown_same : ShowTheSameEverywhere (put_each numbers t) (put_each numbers u)
    shown_same = come_is_shown (put_each numbers t) (put_each numbers u) (comes Anywhere anywhere_ends (put_each numbers t) (put_each numbers u) both)

    waits_same : (o : Outside) (f : ℕ) (ended : Bool) → ComeToTheSame (StopsThere o f ended) (put_each numbers t) (put_each numbers u)
    waits_same o f ended = comes (StopsThere o f ended) (stops_end o f ended) (put_each numbers t) (put_each numbers u) both

  pub interchangeable_by : (t u : Term) → Pair t u → AreInterchangeable own t u
  interchangeable_by t u p =
      record { shows = record { needs = needed t u p; shows = shown_same t u p }; waits = record { needs = needed t u p; waits = waits_same t u p } }
