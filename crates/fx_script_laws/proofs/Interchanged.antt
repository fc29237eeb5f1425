-- Terms that come to the same wherever a fiber comes to them are put for one another in a whole term.
use Rattle.std.proofs.Common.{◌≡◌, ℕ, Bool, zero, suc, ◌+◌, ◌≤◌, Option, List, [], ◌∷◌, refl, sym, subst, arith}
use Rattle.fx_term.specs.Term.{Term}
use Rattle.fx_term.specs.Need.{need}
use Rattle.fx_mask.specs.Closing.{Seal}
use Rattle.fx_model.specs.Path.{CleanupTerm}
use Rattle.fx_model.specs.Row.{Counts, Label, Silent, Shows, Learns, Starts}
use Rattle.fx_model.specs.Step.{Progress, Runs, Unwinds, CleansUp, HasEnded, Step}
use Rattle.fx_model.specs.Run.{Leads, shown}
use Rattle.fx_laws.specs.Everywhere.{placed, Place, InTerm, InCleanup, come_to}
use Rattle.fx_script_laws.specs.Cover.{Cover, Sealed, uncovered, IsCoveredBy}
use Rattle.fx_script_laws.specs.Filled.{none_bound}
use Rattle.fx_script_laws.specs.Interchange.{CanComeTo, CanComeLike, AreFilledLabels, itself, starts, AllFilled, none, more}
use Rattle.fx_script_laws.proofs.Holes.{ArePut, holes, AreAlong}
use Rattle.fx_script_laws.proofs.FilledPlaces.{AreFilledCleanups, holes_left, IsAtPair, Split, clear, at_pair, split}
use Rattle.fx_script_laws.proofs.FilledSteps.{AreFilledProgress, runs, unwinds, cleans, ended, holes_in, StepIsFilled, run_step, unwind_step, clean_step}

module _ {Pair : Cover → (ℕ → Bool) → Term → Term → Type 0} where
  label_first : {l l' : Label} (ls ls' : List Label) → AreFilledLabels Pair l l' → AllFilled Pair (shown ls) (shown ls')
      → AllFilled Pair (shown (l ∷ ls)) (shown (l' ∷ ls'))
  label_first ls ms (itself {l = Silent}) h = h
  label_first ls ms (itself {l = Shows e}) h = more itself h
  label_first ls ms (itself {l = Learns f o e}) h = more itself h
  label_first ls ms (itself {l = Starts f b}) h = more itself h
  label_first ls ms (starts s) h = more (starts s) h

module _ (Pair : Cover → (ℕ → Bool) → Term → Term → Type 0) (Ends : Counts → Progress → Type 0) where
  -- an end of the one is an end of the other, where no pair is round the leaf
  pub record AreEndsKept : Type 0 where
    pub running : (c : Counts) (t u : Term) → AreAlong Pair uncovered t u → Ends c (Runs t) → Ends c (Runs u)
    pub unwinding : (c : Counts) (xs ys : List CleanupTerm) → Ends c (Unwinds xs) → Ends c (Unwinds ys)
    pub cleaning : (c : Counts) (k : Option ℕ) (t u : Term) (xs ys : List CleanupTerm) → AreAlong Pair Sealed t u → Ends c (CleansUp k t xs)
        → Ends c (CleansUp k u ys)

  -- what holds of a fiber from its begin on
  module _ (Holds : Counts → Progress → Type 0) where
    -- where it holds of a fiber that comes to the one of a pair, and of one that comes to the other somewhere, it holds of who comes to the other at the place
    -- of the one, which comes to the same
    abbrev pub PairsCome : Type 0
    PairsCome =
        (s : Cover) (t u : Term) → Pair s none_bound t u → (place place' : Place) → IsCoveredBy s place → (c : Counts) → Holds c (come_to place t)
        → Holds c (come_to place' u)
        → Holds c (come_to place u) × ((ls : List Label) → CanComeTo Ends c (come_to place t) ls → CanComeTo Ends c (come_to place u) ls)

    -- two fibers that differ at no more places
    abbrev pub FilledCome : ℕ → Type 0
    FilledCome n =
        (c : Counts) (p q : Progress) (h : AreFilledProgress Pair p q) → Holds c p → Holds c q → holes_in h ≤ n → (ls : List Label) (d : Counts)
        (r : Progress) → Leads c p ls d r → Ends d r → CanComeLike Pair Ends c q (shown ls)

module _ {Pair : Cover → (ℕ → Bool) → Term → Term → Type 0} {Ends : Counts → Progress → Type 0} (puts : ArePut Pair)
    (needs : (s : Cover) (v : ℕ → Bool) (t u : Term) → Pair s v t u → need t ≡ need u) (kept : AreEndsKept Pair Ends) {Holds : Counts → Progress → Type 0}
    (holds : (c d : Counts) (p q : Progress) (l : Label) → Holds c p → Step c p l d q → Holds d q) (pairs : PairsCome Pair Ends Holds) where
  -- no step more
  here : {c d : Counts} {p q r : Progress} → Leads c p [] d r → Ends d r → (Ends c p → Ends c q) → CanComeLike Pair Ends c q []
  here {c} {q = q} h e keep =
      record { labels = []; counts = c; progress = q; run = (refl, refl); like = none; ends = keep (rw (h.0, h.1) at e) }

  -- one step, and then the rest
  step_first : {c d : Counts} {q m : Progress} {l : Label} {n : ℕ} (ls : List Label) (s : StepIsFilled Pair c q l d m n)
      → CanComeLike Pair Ends d s.progress (shown ls) → CanComeLike Pair Ends c q (shown (l ∷ ls))
  step_first {d = d} ls s k =
      record {
        labels = s.label ∷ k.labels;
        counts = k.counts;
        progress = k.progress;
        run = (d, s.progress, s.step, k.run);
        like = label_first ls k.labels s.like k.like;
        ends = k.ends;
      }

  module _ (n : ℕ) (fewer : (m : ℕ) → suc m ≤ n → FilledCome Pair Ends Holds m) where
    -- the one of a pair, and then the rest, which differs at fewer places
    pair_runs : (c : Counts) {t u : Term} {m : ℕ} → IsAtPair Pair uncovered t u m → Holds c (Runs t) → Holds c (Runs u) → m ≤ n
        → (ls : List Label) (d : Counts) (r : Progress)
        → Leads c (Runs t) ls d r
        → Ends d r → CanComeLike Pair Ends c (Runs u) (shown ls)
    pair_runs c {t} {u} i now now' few ls d r h e =
        let first : CanComeTo Ends c (Runs (placed i.outer i.first)) (shown ls) =
        record {
          labels = ls;
          counts = d;
          progress = r;
          run = subst (λ (x : Term). Leads c (Runs x) ls d r) i.is h;
          shown_is = refl;
          ends = e;
        } in
        let here : Holds c (Runs (placed i.outer i.first)) = subst (λ (x : Term). Holds c (Runs x)) i.is now in
        let there : Holds c (Runs (placed i.outer' i.second)) = subst (λ (x : Term). Holds c (Runs x)) i.is' now' in
        let both = pairs i.cover i.first i.second i.pair (InTerm i.outer) (InTerm i.outer') (i.covered [] refl) c here there in
        let k = both.1 (shown ls) first in
        let more = i.fewer i.second in
        let rest = fewer (holes (i.whole i.second)) (omega arith) c (Runs (placed i.outer i.second)) (Runs (placed i.outer' i.second))
        (runs (i.whole i.second)) both.0 there (omega arith) k.labels k.counts k.progress k.run k.ends in
        let at : CanComeLike Pair Ends c (Runs (placed i.outer' i.second)) (shown ls) =
        subst (λ (ms : List Label). CanComeLike Pair Ends c (Runs (placed i.outer' i.second)) ms) k.shown_is rest in
        subst (λ (x : Term). CanComeLike Pair Ends c (Runs x) (shown ls)) (sym i.is') at

    pair_cleans : (c : Counts) (k : Option ℕ) {t u : Term} {xs ys : List CleanupTerm} {m : ℕ} → IsAtPair Pair Sealed t u m → Holds c (CleansUp k t xs)
        → Holds c (CleansUp k u ys) → (q : AreFilledCleanups Pair xs ys)
        → m + holes_left q ≤ n → (ls : List Label) (d : Counts) (r : Progress) → Leads c (CleansUp k t xs) ls d r → Ends d r
        → CanComeLike Pair Ends c (CleansUp k u ys) (shown ls)
    pair_cleans c k {t} {u} {xs} {ys} i now now' q few ls d r h e =
        let first : CanComeTo Ends c (CleansUp k (placed i.outer i.first) xs) (shown ls) =
        record {
          labels = ls;
          counts = d;
          progress = r;
          run = subst (λ (x : Term). Leads c (CleansUp k x xs) ls d r) i.is h;
          shown_is = refl;
          ends = e;
        } in
        let here : Holds c (CleansUp k (placed i.outer i.first) xs) = subst (λ (x : Term). Holds c (CleansUp k x xs)) i.is now in
        let there : Holds c (CleansUp k (placed i.outer' i.second) ys) = subst (λ (x : Term). Holds c (CleansUp k x ys)) i.is' now' in
        let both = pairs i.cover i.first i.second i.pair (InCleanup k xs i.outer) (InCleanup k ys i.outer') (i.covered (Seal ∷ []) refl) c here there in
        let s = both.1 (shown ls) first in
        let more = i.fewer i.second in
        let rest = fewer (holes (i.whole i.second) + holes_left q) (omega arith) c (CleansUp k (placed i.outer i.second) xs)
        (CleansUp k (placed i.outer' i.second) ys) (cleans (i.whole i.second) q) both.0 there (omega arith) s.labels s.counts s.progress s.run s.ends in
        let at : CanComeLike Pair Ends c (CleansUp k (placed i.outer' i.second) ys) (shown ls) =
        subst (λ (ms : List Label). CanComeLike Pair Ends c (CleansUp k (placed i.outer' i.second) ys) ms) s.shown_is rest in
        subst (λ (x : Term). CanComeLike Pair Ends c (CleansUp k x ys) (shown ls)) (sym i.is') at

    one_level : FilledCome Pair Ends Holds n
    one_level c p q h now now' few [] d r leads e = by_progress h now now' few leads
      where
        by_progress : {p q : Progress} (h : AreFilledProgress Pair p q) → Holds c p → Holds c q → holes_in h ≤ n → Leads c p [] d r
            → CanComeLike Pair Ends c q []
        by_progress (runs {t = t} {u = u} f) now now' few leads = by_split (split f)
          where
            by_split : Split f → CanComeLike Pair Ends c (Runs u) []
            by_split (clear s same) = here leads e (kept.running c t u s)
            by_split (at_pair i) = pair_runs c i now now' few [] d r leads e
        by_progress (unwinds {xs = xs} {ys = ys} f) now now' few leads = here leads e (kept.unwinding c xs ys)
        by_progress (cleans {k = k} {t = t} {u = u} {xs = xs} {ys = ys} f g) now now' few leads = by_split (split f)
          where
            by_split : Split f → CanComeLike Pair Ends c (CleansUp k u ys) []
            by_split (clear s same) = here leads e (kept.cleaning c k t u xs ys s)
            by_split (at_pair i) = pair_cleans c k i now now' g few [] d r leads e
        by_progress ended now now' few leads = here leads e (λ x. x)
    one_level c p q h now now' few (l ∷ ls) d r leads e = by_progress h now now' few leads (λ a m m' g k k' v w. one_level a m m' g k k' v ls d r w e)
      where
        by_progress : {p q : Progress} (h : AreFilledProgress Pair p q) → Holds c p → Holds c q → holes_in h ≤ n → Leads c p (l ∷ ls) d r
            → ((a : Counts) (m m' : Progress) (g : AreFilledProgress Pair m m') → Holds a m → Holds a m' → holes_in g ≤ n → Leads a m ls d r
            → CanComeLike Pair Ends a m' (shown ls)) → CanComeLike Pair Ends c q (shown (l ∷ ls))
        by_progress {p} {q} (runs {t = t} {u = u} f) now now' few leads next = by_split (split f)
          where
            by_split : Split f → CanComeLike Pair Ends c (Runs u) (shown (l ∷ ls))
            by_split (clear s same) =
                let k = run_step puts needs leads.2 s in
                let room = k.few in
                let then = holds c leads.0 p leads.1 l now leads.2 in
                let then' = holds c leads.0 q k.progress k.label now' k.step in
                step_first ls k (next leads.0 leads.1 k.progress k.is_filled then then' (omega arith) leads.3)
            by_split (at_pair i) = pair_runs c i now now' few (l ∷ ls) d r leads e
        by_progress {p} {q} (unwinds f) now now' few leads next =
            let k = unwind_step puts needs leads.2 f in
            let room = k.few in
            let then = holds c leads.0 p leads.1 l now leads.2 in
            let then' = holds c leads.0 q k.progress k.label now' k.step in
            step_first ls k (next leads.0 leads.1 k.progress k.is_filled then then' (omega arith) leads.3)
        by_progress {p} {q} (cleans {k = j} {t = t} {u = u} {xs = xs} {ys = ys} f g) now now' few leads next = by_split (split f)
          where
            by_split : Split f → CanComeLike Pair Ends c (CleansUp j u ys) (shown (l ∷ ls))
            by_split (clear s same) =
                let k = clean_step puts needs leads.2 s g in
                let room = k.few in
                let then = holds c leads.0 p leads.1 l now leads.2 in
                let then' = holds c leads.0 q k.progress k.label now' k.step in
                step_first ls k (next leads.0 leads.1 k.progress k.is_filled then then' (omega arith) leads.3)
            by_split (at_pair i) = pair_cleans c j i now now' g few (l ∷ ls) d r leads e
        by_progress (ended {o = o}) now now' few leads next = absurd (no_step leads.2)
          where
            no_step : {l : Label} {a : Counts} {m : Progress} → Step c (HasEnded o) l a m → ⊥
            no_step s = elim s [ ]

  below : (n m : ℕ) → suc m ≤ n → FilledCome Pair Ends Holds m
  below zero m h = absurd (let e = h in omega arith)
  below (suc n) m h = one_level m (λ k e. below n k (omega arith))

  pub filled_come : (c : Counts) (p q : Progress) → AreFilledProgress Pair p q → Holds c p → Holds c q → (ls : List Label) (d : Counts) (r : Progress)
      → Leads c p ls d r → Ends d r → CanComeLike Pair Ends c q (shown ls)
  filled_come c p q h now now' = below (suc (holes_in h)) (holes_in h) (omega arith) c p q h now now' (omega arith)
