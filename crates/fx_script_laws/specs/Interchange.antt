-- Pairs of terms that can be put for one another: they show the same and wait for the same, wherever a fiber comes to them.
use Rattle.std.specs.Prelude.{◌≡◌, ◌↔◌, ℕ, Bool, true, false, List, [], ◌∷◌}
use Rattle.fx_term.specs.Term.{Term, put}
use Rattle.fx_term.specs.Need.{need}
use Rattle.fx_model.specs.Origin.{Origin}
use Rattle.fx_model.specs.Row.{Counts, Label, Starts}
use Rattle.fx_model.specs.Step.{Progress, has_ended}
use Rattle.fx_model.specs.Run.{Leads, shown}
use Rattle.fx_model.specs.Outside.{Outside, can_step}
use Rattle.fx_laws.specs.Everywhere.{Place, come_to, ShowTheSameAt, ShowTheSameEverywhere}
use Rattle.fx_script_laws.specs.Cover.{Cover, uncovered, IsCoveredBy}
use Rattle.fx_script_laws.specs.Filled.{none_bound, IsFilled}

-- where a run ends: anywhere
abbrev pub Anywhere : Counts → Progress → Type 0
Anywhere c p = Unit {0}

-- or where fiber f cannot step by this outside: it has ended, or it waits
abbrev pub StopsThere : Outside → ℕ → Bool → Counts → Progress → Type 0
StopsThere o f ended c p = (can_step o f c p ≡ false) × (has_ended p ≡ ended)

-- a fiber that is so far, with these counts, can go on so that it shows this, to such an end
pub record CanComeTo (Ends : Counts → Progress → Type 0) (c : Counts) (p : Progress) (shows : List Label) : Type 0 where
  pub labels : List Label
  pub counts : Counts
  pub progress : Progress
  pub run : Leads c p labels counts progress
  pub shown_is : shown labels ≡ shows
  pub ends : Ends counts progress

-- where a fiber comes there to the one term, with any counts, it can come to such an end, showing this, exactly where it can with the other
abbrev pub ComeToTheSameAt : (Counts → Progress → Type 0) → Place → Term → Term → Type 0
ComeToTheSameAt Ends place t u = (c : Counts) (ls : List Label) → CanComeTo Ends c (come_to place t) ls ↔ CanComeTo Ends c (come_to place u) ls

-- wherever it comes to them
abbrev pub ComeToTheSame : (Counts → Progress → Type 0) → Term → Term → Type 0
ComeToTheSame Ends t u = (place : Place) → ComeToTheSameAt Ends place t u

-- these numbers for these names
abbrev pub put_each : List (ℕ × ℕ) → Term → Term
put_each [] t = t
put_each (b ∷ bs) t = put_each bs (put b.0 b.1 t)

-- numbers for names that are not these
abbrev pub AreOthers : (ℕ → Bool) → List (ℕ × ℕ) → Type 0
AreOthers own [] = Unit {0}
AreOthers own (b ∷ bs) = (own b.0 ≡ false) × AreOthers own bs

-- A pair of two given terms, with the same numbers for their names, at a place round which these names are bound. Some names are the two terms' own: no
-- number is put for one, and none of them is bound round the place
pub data AreTheTwo (own : ℕ → Bool) (t u : Term) : Cover → (ℕ → Bool) → Term → Term → Type 0 where
  with_numbers : {s : Cover} {bound : ℕ → Bool} (numbers : List (ℕ × ℕ)) → AreOthers own numbers → ((x : ℕ) → bound x ≡ true → own x ≡ false)
      → AreTheTwo own t u s bound (put_each numbers t) (put_each numbers u)

-- such a pair, at a place that is closed so
abbrev pub Where : (Cover → Bool) → (Cover → (ℕ → Bool) → Term → Term → Type 0) → Cover → (ℕ → Bool) → Term → Term → Type 0
Where there Pair s bound t u = (there s ≡ true) × Pair s bound t u

-- the one for the other, or the other for the one
pub data EitherWay (Pair : Cover → (ℕ → Bool) → Term → Term → Type 0) : Cover → (ℕ → Bool) → Term → Term → Type 0 where
  as_is : {s : Cover} {bound : ℕ → Bool} {t u : Term} → Pair s bound t u → EitherWay Pair s bound t u
  turned : {s : Cover} {bound : ℕ → Bool} {t u : Term} → Pair s bound t u → EitherWay Pair s bound u t

-- the same begin but for such pairs in the term
pub record AreFilledOrigins (Pair : Cover → (ℕ → Bool) → Term → Term → Type 0) (b b' : Origin) : Type 0 where
  pub term : IsFilled Pair uncovered none_bound b.term b'.term
  pub next_is : b.next ≡ b'.next
  pub end_is : b.end ≡ b'.end

-- the same label, but that a fiber which is started begins with a term that has such pairs in it
pub data AreFilledLabels (Pair : Cover → (ℕ → Bool) → Term → Term → Type 0) : Label → Label → Type 0 where
  itself : {l : Label} → AreFilledLabels Pair l l
  starts : {f : ℕ} {b b' : Origin} → AreFilledOrigins Pair b b' → AreFilledLabels Pair (Starts f b) (Starts f b')

pub data AllFilled (Pair : Cover → (ℕ → Bool) → Term → Term → Type 0) : List Label → List Label → Type 0 where
  none : AllFilled Pair [] []
  more : {l l' : Label} {ls ls' : List Label} → AreFilledLabels Pair l l' → AllFilled Pair ls ls' → AllFilled Pair (l ∷ ls) (l' ∷ ls')

-- a fiber that is so far, with these counts, can go on so that it shows this, but for what it starts, to such an end
pub record CanComeLike (Pair : Cover → (ℕ → Bool) → Term → Term → Type 0) (Ends : Counts → Progress → Type 0) (c : Counts) (p : Progress)
    (shows : List Label) : Type 0 where
  pub labels : List Label
  pub counts : Counts
  pub progress : Progress
  pub run : Leads c p labels counts progress
  pub like : AllFilled Pair shows (shown labels)
  pub ends : Ends counts progress

-- The two terms use as many fiber numbers and, whatever numbers stand for their names but their own ones, show the same wherever a fiber comes to them
pub record ShowTheSameWithNumbers (own : ℕ → Bool) (t u : Term) : Type 0 where
  pub needs : (numbers : List (ℕ × ℕ)) → AreOthers own numbers → need (put_each numbers t) ≡ need (put_each numbers u)
  pub shows : (numbers : List (ℕ × ℕ)) → AreOthers own numbers → ShowTheSameEverywhere (put_each numbers t) (put_each numbers u)

-- And wait for the same: by each outside a fiber can come with the one, showing this, to where it cannot step, or to its end, exactly where it can with the
-- other
pub record WaitForTheSameWithNumbers (own : ℕ → Bool) (t u : Term) : Type 0 where
  pub needs : (numbers : List (ℕ × ℕ)) → AreOthers own numbers → need (put_each numbers t) ≡ need (put_each numbers u)
  pub waits : (numbers : List (ℕ × ℕ)) → AreOthers own numbers → (o : Outside) (f : ℕ) (ended : Bool)
      → ComeToTheSame (StopsThere o f ended) (put_each numbers t) (put_each numbers u)

pub record AreInterchangeable (own : ℕ → Bool) (t u : Term) : Type 0 where
  pub shows : ShowTheSameWithNumbers own t u
  pub waits : WaitForTheSameWithNumbers own t u

-- The same, where they stand at places that are closed so
pub record AreInterchangeableWhere (there : Cover → Bool) (own : ℕ → Bool) (t u : Term) : Type 0 where
  pub needs : (numbers : List (ℕ × ℕ)) → AreOthers own numbers → need (put_each numbers t) ≡ need (put_each numbers u)
  pub shows : (numbers : List (ℕ × ℕ)) → AreOthers own numbers → (s : Cover) (place : Place) → there s ≡ true → IsCoveredBy s place
      → ShowTheSameAt place (put_each numbers t) (put_each numbers u)
  pub waits : (numbers : List (ℕ × ℕ)) → AreOthers own numbers → (o : Outside) (f : ℕ) (ended : Bool) (s : Cover) (place : Place) → there s ≡ true
      → IsCoveredBy s place → ComeToTheSameAt (StopsThere o f ended) place (put_each numbers t) (put_each numbers u)

-- a whole term is another one, with the two put for one another at some places, round which none of their own names is bound
abbrev pub IsWithOther : (ℕ → Bool) → Term → Term → Term → Term → Type 0
IsWithOther own t u = IsFilled (EitherWay (AreTheTwo own t u)) uncovered none_bound

-- and each of these places is closed so
abbrev pub IsWithOtherWhere : (Cover → Bool) → (ℕ → Bool) → Term → Term → Term → Term → Type 0
IsWithOtherWhere there own t u = IsFilled (EitherWay (Where there (AreTheTwo own t u))) uncovered none_bound
