-- Laws that hold everywhere, in whole terms.
use Rattle.std.proofs.Common.{◌≡◌, ℕ, Bool, true, false, Option, List, [], ◌∷◌, ◌++◌, refl, sym, ◌∙◌, subst}
use Rattle.fx_term.specs.Term.{Term, put}
use Rattle.fx_term.specs.Need.{need}
use Rattle.fx_model.specs.Path.{CleanupTerm}
use Rattle.fx_model.specs.Row.{Counts, Label}
use Rattle.fx_model.specs.Step.{Progress, Runs, CleansUp, Step}
use Rattle.fx_model.specs.Outside.{Outside, can_step}
use Rattle.fx_laws.specs.Everywhere.{Place, ShowTheSameAt, ShowTheSameEverywhere}
use Rattle.fx_script_laws.specs.Cover.{Cover, Sealed, uncovered, IsCoveredBy}
use Rattle.fx_script_laws.specs.Filled.{none_bound, IsFilled}
use Rattle.fx_script_laws.specs.Interchange.{ComeToTheSameAt, Where, AreInterchangeable, AreInterchangeableWhere, IsWithOtherWhere}
use Rattle.fx_script_laws.specs.Interchange.{Anywhere, StopsThere, CanComeTo, ComeToTheSame, AreOthers, AreTheTwo, with_numbers, EitherWay, as_is, turned}
use Rattle.fx_script_laws.specs.Interchange.{put_each, CanComeLike, ShowTheSameWithNumbers, WaitForTheSameWithNumbers, IsWithOther}
use Rattle.fx_script_laws.proofs.Holes.{ArePut, AreAlong}
use Rattle.fx_script_laws.proofs.FilledPlaces.{open_along, must_along, can_along}
use Rattle.fx_script_laws.proofs.FilledSteps.{runs}
use Rattle.fx_script_laws.proofs.Interchanged.{AreEndsKept, PairsCome, filled_come}

module _ {Pair : Cover → (ℕ → Bool) → Term → Term → Type 0} where
  pub anywhere_kept : AreEndsKept (EitherWay Pair) Anywhere
  anywhere_kept = record { running = λ c t u p e. tt; unwinding = λ c xs ys e. tt; cleaning = λ c k t u xs ys p e. tt }

  module _ (o : Outside) (f : ℕ) (ended : Bool) where
    waits_too : (c : Counts) (t u : Term) → AreAlong (EitherWay Pair) uncovered t u → StopsThere o f ended c (Runs t) → StopsThere o f ended c (Runs u)
    waits_too c t u p e =
        let a = must_along c.known p in
        let b = open_along p in
        let d = can_along o p in
        let h : can_step o f c (Runs u) ≡ can_step o f c (Runs t) = cc in
        (h ∙ e.0, e.1)

    cleans_too : (c : Counts) (k : Option ℕ) (t u : Term) (xs ys : List CleanupTerm) → AreAlong (EitherWay Pair) Sealed t u
        → StopsThere o f ended c (CleansUp k t xs) → StopsThere o f ended c (CleansUp k u ys)
    cleans_too c k t u xs ys p e = (sym (can_along o p) ∙ e.0, e.1)

    pub stops_kept : AreEndsKept (EitherWay Pair) (StopsThere o f ended)
    stops_kept = record { running = waits_too; unwinding = λ c xs ys e. absurd (let h = e.0 in cc); cleaning = cleans_too }

-- the two of a pair come to the same at each place that is closed as it says
abbrev pub ComeWhereCovered : (Cover → (ℕ → Bool) → Term → Term → Type 0) → (Counts → Progress → Type 0) → Type 0
ComeWhereCovered Pair Ends =
    (s : Cover) (t u : Term) → Pair s none_bound t u → (place : Place) → IsCoveredBy s place → ComeToTheSameAt Ends place t u

abbrev pub NothingElse : Counts → Progress → Type 0
NothingElse c p = Unit {0}

pub nothing_else : (c d : Counts) (p q : Progress) (l : Label) → NothingElse c p → Step c p l d q → NothingElse d q
nothing_else c d p q l h s = tt

module _ {Pair : Cover → (ℕ → Bool) → Term → Term → Type 0} where
  pub either_puts : ArePut Pair → ArePut (EitherWay Pair)
  either_puts puts s v v' x h n t u (as_is p) = as_is (puts s v v' x h n t u p)
  either_puts puts s v v' x h n t u (turned p) = turned (puts s v v' x h n u t p)

  pub either_needs : ((s : Cover) (v : ℕ → Bool) (t u : Term) → Pair s v t u → need t ≡ need u) → (s : Cover) (v : ℕ → Bool) (t u : Term)
      → EitherWay Pair s v t u → need t ≡ need u
  either_needs needs s v t u (as_is p) = needs s v t u p
  either_needs needs s v t u (turned p) = sym (needs s v u t p)

  -- where nothing need hold
  pub either_come : {Ends : Counts → Progress → Type 0} → ComeWhereCovered Pair Ends → PairsCome (EitherWay Pair) Ends NothingElse
  either_come come s t u (as_is p) place place' at c now now' = (tt, λ ls h. (come s t u p place at c ls).0 h)
  either_come come s t u (turned p) place place' at c now now' = (tt, λ ls h. (come s u t p place at c ls).1 h)

  pub whole_comes : {Ends : Counts → Progress → Type 0} → ArePut Pair → ((s : Cover) (v : ℕ → Bool) (t u : Term) → Pair s v t u → need t ≡ need u)
      → ComeWhereCovered Pair Ends → AreEndsKept (EitherWay Pair) Ends → (t u : Term) → IsFilled (EitherWay Pair) uncovered none_bound t u
      → (c : Counts) (ls : List Label) → CanComeTo Ends c (Runs t) ls
      → CanComeLike (EitherWay Pair) Ends c (Runs u) ls
  whole_comes {Ends} puts needs come kept t u filled c ls h =
      let k = filled_come (either_puts puts) (either_needs needs) kept nothing_else (either_come come) c (Runs t) (Runs u) (runs filled) tt tt h.labels h.counts
      h.progress h.run h.ends in
      subst (λ (ms : List Label). CanComeLike (EitherWay Pair) Ends c (Runs u) ms) h.shown_is k

-- two given terms
one_more_number : (x n : ℕ) (numbers : List (ℕ × ℕ)) (t : Term) → put x n (put_each numbers t) ≡ put_each (numbers ++ (x, n) ∷ []) t
one_more_number x n [] t = refl
one_more_number x n (b ∷ bs) t = one_more_number x n bs (put b.0 b.1 t)

module _ (own : ℕ → Bool) where
  one_more_other : (x n : ℕ) (numbers : List (ℕ × ℕ)) → AreOthers own numbers → own x ≡ false → AreOthers own (numbers ++ (x, n) ∷ [])
  one_more_other x n [] h k = (k, tt)
  one_more_other x n (b ∷ bs) h k = (h.0, one_more_other x n bs h.1 k)

  module _ (t u : Term) where
    pub two_put : ArePut (AreTheTwo own t u)
    two_put s v v' x h n a b (with_numbers numbers others apart) =
        rw (one_more_number x n numbers t, one_more_number x n numbers u)
        (with_numbers (numbers ++ (x, n) ∷ []) (one_more_other x n numbers others (apart x h.has)) (λ z k. apart z (h.less z k)))

    pub two_need : ((numbers : List (ℕ × ℕ)) → AreOthers own numbers → need (put_each numbers t) ≡ need (put_each numbers u)) → (s : Cover) (v : ℕ → Bool)
        (a b : Term) → AreTheTwo own t u s v a b → need a ≡ need b
    two_need needs s v a b (with_numbers numbers others apart) = needs numbers others

    pub two_come : {Ends : Counts → Progress → Type 0}
        → ((numbers : List (ℕ × ℕ)) → AreOthers own numbers → ComeToTheSame Ends (put_each numbers t) (put_each numbers u))
        → ComeWhereCovered (AreTheTwo own t u) Ends
    two_come come s a b (with_numbers numbers others apart) place at = come numbers others place

    -- at places that are closed so
    module _ (there : Cover → Bool) where
      pub put_there : ArePut (Where there (AreTheTwo own t u))
      put_there s v v' x h n a b p = (p.0, two_put s v v' x h n a b p.1)

      pub need_there : ((numbers : List (ℕ × ℕ)) → AreOthers own numbers → need (put_each numbers t) ≡ need (put_each numbers u)) → (s : Cover)
          (v : ℕ → Bool) (a b : Term) → Where there (AreTheTwo own t u) s v a b → need a ≡ need b
      need_there needs s v a b p = two_need needs s v a b p.1

      of_numbers : {Ends : Counts → Progress → Type 0} {s : Cover} {v : ℕ → Bool} {a b : Term} (place : Place)
          → ((numbers : List (ℕ × ℕ)) → AreOthers own numbers → ComeToTheSameAt Ends place (put_each numbers t) (put_each numbers u))
          → AreTheTwo own t u s v a b → ComeToTheSameAt Ends place a b
      of_numbers place come (with_numbers numbers others apart) = come numbers others

      pub come_there : {Ends : Counts → Progress → Type 0}
          → ((numbers : List (ℕ × ℕ)) → AreOthers own numbers → (s : Cover) (place : Place) → there s ≡ true → IsCoveredBy s place
          → ComeToTheSameAt Ends place (put_each numbers t) (put_each numbers u))
          → ComeWhereCovered (Where there (AreTheTwo own t u)) Ends
      come_there come s a b p place at = of_numbers place (λ numbers others. come numbers others s place p.0 at) p.1

-- what shows the same there comes to the same, anywhere
pub shows_there : (place : Place) (t u : Term) → ShowTheSameAt place t u → ComeToTheSameAt Anywhere place t u
shows_there place t u same c ls = (
  λ h. let k = (same c ls).0 (record { labels = h.labels; counts = h.counts; progress = h.progress; run = h.run; shown_is = h.shown_is }) in
      record { labels = k.labels; counts = k.counts; progress = k.progress; run = k.run; shown_is = k.shown_is; ends = tt },
  λ h. let k = (same c ls).1 (record { labels = h.labels; counts = h.counts; progress = h.progress; run = h.run; shown_is = h.shown_is }) in
      record { labels = k.labels; counts = k.counts; progress = k.progress; run = k.run; shown_is = k.shown_is; ends = tt },
)

pub come_there_is_shown : (place : Place) (t u : Term) → ComeToTheSameAt Anywhere place t u → ShowTheSameAt place t u
come_there_is_shown place t u same c ls = (
  λ h. let k = (same c ls).0 (record { labels = h.labels; counts = h.counts; progress = h.progress; run = h.run; shown_is = h.shown_is; ends = tt }) in
      record { labels = k.labels; counts = k.counts; progress = k.progress; run = k.run; shown_is = k.shown_is },
  λ h. let k = (same c ls).1 (record { labels = h.labels; counts = h.counts; progress = h.progress; run = h.run; shown_is = h.shown_is; ends = tt }) in
      record { labels = k.labels; counts = k.counts; progress = k.progress; run = k.run; shown_is = k.shown_is },
)

pub shows_is_come : (t u : Term) → ShowTheSameEverywhere t u → ComeToTheSame Anywhere t u
shows_is_come t u same place = shows_there place t u (same place)

pub come_is_shown : (t u : Term) → ComeToTheSame Anywhere t u → ShowTheSameEverywhere t u
come_is_shown t u same place = come_there_is_shown place t u (same place)

module _ (own : ℕ → Bool) (t u a b : Term) where
  pub whole_shows : ShowTheSameWithNumbers own t u → IsWithOther own t u a b → (c : Counts) (ls : List Label)
      → CanComeTo Anywhere c (Runs a) ls → CanComeLike (EitherWay (AreTheTwo own t u)) Anywhere c (Runs b) ls
  whole_shows h =
      whole_comes (two_put own t u) (two_need own t u h.needs)
      (two_come own t u (λ numbers others. shows_is_come (put_each numbers t) (put_each numbers u) (h.shows numbers others))) anywhere_kept a b

  pub whole_waits : (o : Outside) (f : ℕ) (ended : Bool) → WaitForTheSameWithNumbers own t u → IsWithOther own t u a b → (c : Counts) (ls : List Label)
      → CanComeTo (StopsThere o f ended) c (Runs a) ls → CanComeLike (EitherWay (AreTheTwo own t u)) (StopsThere o f ended) c (Runs b) ls
  whole_waits o f ended h =
      whole_comes (two_put own t u) (two_need own t u h.needs) (two_come own t u (λ numbers others. h.waits numbers others o f ended))
      (stops_kept o f ended) a b

  module _ (there : Cover → Bool) where
    pub shows_where : AreInterchangeableWhere there own t u → IsWithOtherWhere there own t u a b → (c : Counts) (ls : List Label)
        → CanComeTo Anywhere c (Runs a) ls → CanComeLike (EitherWay (Where there (AreTheTwo own t u))) Anywhere c (Runs b) ls
    shows_where h =
        whole_comes (put_there own t u there) (need_there own t u there h.needs)
        (come_there own t u there
        (λ numbers others s place is at. shows_there place (put_each numbers t) (put_each numbers u) (h.shows numbers others s place is at))) anywhere_kept a b

    pub waits_where : (o : Outside) (f : ℕ) (ended : Bool) → AreInterchangeableWhere there own t u → IsWithOtherWhere there own t u a b → (c : Counts)
        (ls : List Label) → CanComeTo (StopsThere o f ended) c (Runs a) ls
        → CanComeLike (EitherWay (Where there (AreTheTwo own t u))) (StopsThere o f ended) c (Runs b) ls
    waits_where o f ended h =
        whole_comes (put_there own t u there) (need_there own t u there h.needs)
        (come_there own t u there (λ numbers others s place is at. h.waits numbers others o f ended s place is at)) (stops_kept o f ended) a b

pub each_place_is_there : (there : Cover → Bool) (own : ℕ → Bool) (t u : Term) → AreInterchangeable own t u → AreInterchangeableWhere there own t u
each_place_is_there there own t u h =
    record {
      needs = h.shows.needs;
      shows = λ numbers others s place is at. h.shows.shows numbers others place;
      waits = λ numbers others o f ended s place is at. h.waits.waits numbers others o f ended place;
    }
