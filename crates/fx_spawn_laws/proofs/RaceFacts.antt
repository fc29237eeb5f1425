-- What the labels of a race say where one side is canceled, or waits for good.
use Rattle.std.proofs.Common.{◌≡◌, ℕ, ◌⊎◌, inl, inr, Bool, true, false, Option, Some, None, List, [], ◌∷◌, All, refl, arith}
use Rattle.std.specs.Prelude.{◌==◌}
use Rattle.std.specs.List.{list_any}
use Rattle.std.proofs.lemmas.Bool.{eq-eqb}
use Rattle.std.proofs.lemmas.List.Elements.{All-nil, All-cons}
use Rattle.fx_term.specs.declared.outcome.Outcome.{Outcome}
use Rattle.fx_term.specs.declared.outcome.Outcome.TheVariants.{Succeeded, Errored}
use Rattle.fx_term.specs.declared.outcome.Outcome.TheVariants as outcome
use Rattle.fx_term.specs.declared.event.Event.TheVariants as event
use Rattle.fx_model.specs.Row.{Label, Silent, Shows, Learns, Starts}
use Rattle.fx_model.specs.Origin.{Origin}
use Rattle.fx_model.specs.Run.{events}
use Rattle.fx_model.specs.Report.{outcome_shown, is_request_for}
use Rattle.fx_model.proofs.StartLaws.{StartsSo}
use Rattle.fx_spawn_laws.proofs.RaceRuns.{RacedSo, none_ends, left_first, right_first}
use Rattle.fx_spawn_laws.proofs.UnseenRequests.{RequestsNone, IsLearntFirst}

-- the labels of the main fiber, from its mask on
abbrev pub whole : ℕ → ℕ → Origin → Origin → List Label → List Label
whole f g b b' ls = Silent ∷ Starts f b ∷ Starts g b' ∷ Silent ∷ ls

-- no fiber is started
abbrev starts_none : List Label → Bool
starts_none [] = true
starts_none (Starts f b ∷ ls) = false
starts_none (l ∷ ls) = starts_none ls

raced_starts_none : {f g : ℕ} {v w : Option Outcome} {ls : List Label} → RacedSo f g v w ls → starts_none ls ≡ true
raced_starts_none none_ends = refl
raced_starts_none (left_first {o = outcome.Canceled} {v = None}) = refl
raced_starts_none (left_first {o = outcome.Canceled} {v = Some (Succeeded n)}) = refl
raced_starts_none (left_first {o = outcome.Canceled} {v = Some (Errored n)}) = refl
raced_starts_none (left_first {o = outcome.Canceled} {v = Some outcome.Canceled}) = refl
raced_starts_none (left_first {o = Succeeded n} {v = None}) = refl
raced_starts_none (left_first {o = Succeeded n} {v = Some o}) = refl
raced_starts_none (left_first {o = Errored n} {v = None}) = refl
raced_starts_none (left_first {o = Errored n} {v = Some o}) = refl
raced_starts_none (right_first {o = outcome.Canceled} {v = None}) = refl
raced_starts_none (right_first {o = outcome.Canceled} {v = Some (Succeeded n)}) = refl
raced_starts_none (right_first {o = outcome.Canceled} {v = Some (Errored n)}) = refl
raced_starts_none (right_first {o = outcome.Canceled} {v = Some outcome.Canceled}) = refl
raced_starts_none (right_first {o = Succeeded n} {v = None}) = refl
raced_starts_none (right_first {o = Succeeded n} {v = Some o}) = refl
raced_starts_none (right_first {o = Errored n} {v = None}) = refl
raced_starts_none (right_first {o = Errored n} {v = Some o}) = refl

module _ (IsSo : Origin → Type 0) where
  all_start_so : (ls : List Label) → starts_none ls ≡ true → All (StartsSo IsSo) ls
  all_start_so [] e = All-nil (StartsSo IsSo)
  all_start_so (Silent ∷ ls) e = All-cons (StartsSo IsSo) Silent ls tt (all_start_so ls e)
  all_start_so (Shows k ∷ ls) e = All-cons (StartsSo IsSo) (Shows k) ls tt (all_start_so ls e)
  all_start_so (Learns f o k ∷ ls) e = All-cons (StartsSo IsSo) (Learns f o k) ls tt (all_start_so ls e)
  all_start_so (Starts f b ∷ ls) e = absurd cc

  -- the two children begin so, and there are no others
  pub whole_starts_so : {f g : ℕ} {v w : Option Outcome} {ls : List Label} (b b' : Origin) → RacedSo f g v w ls → IsSo b → IsSo b'
      → All (StartsSo IsSo) (whole f g b b' ls)
  whole_starts_so {f} {g} {ls = ls} b b' raced so so' =
      let rest = all_start_so ls (raced_starts_none raced) in
      All-cons (StartsSo IsSo) Silent (Starts f b ∷ Starts g b' ∷ Silent ∷ ls) tt
      (All-cons (StartsSo IsSo) (Starts f b) (Starts g b' ∷ Silent ∷ ls) so
      (All-cons (StartsSo IsSo) (Starts g b') (Silent ∷ ls) so' (All-cons (StartsSo IsSo) Silent ls tt rest)))

-- the labels show this, and either request no fiber x, or learn of its end before they do
pub record MainShows (x : ℕ) (v shows : Option Outcome) (ls : List Label) : Type 0 where
  pub outcome_is : outcome_shown (events ls) ≡ shows
  pub asks : RequestsNone x (events ls) ⊎ ((first : IsLearntFirst x ls) × (v ≡ Some first.outcome))

module _ (f g : ℕ) (b b' : Origin) (apart : (f == g) ≡ false) (apart_too : (g == f) ≡ false) where
  -- the left side is canceled
  pub left_canceled : {v : Option Outcome} {ls : List Label} → RacedSo f g (Some outcome.Canceled) v ls → MainShows g v v (whole f g b b' ls)
  left_canceled (left_first {v = None}) = record { outcome_is = refl; asks = inl refl }
  left_canceled (left_first {v = Some (Succeeded n)}) = record { outcome_is = refl; asks = inl refl }
  left_canceled (left_first {v = Some (Errored n)}) = record { outcome_is = refl; asks = inl refl }
  left_canceled (left_first {v = Some outcome.Canceled}) =
      record {
        outcome_is = refl;
        asks = inr (
          record {
            pre = event.Start f ∷ event.Start g ∷ event.First 0 ∷ event.Joined f outcome.Canceled ∷ event.Joined g outcome.Canceled ∷ [];
            post = _;
            split = refl;
            unasked = refl;
            place = 4;
            outcome = outcome.Canceled;
            learning = event.Joined g outcome.Canceled;
            learns = refl;
            tells = refl;
            early = omega arith;
          },
          refl,
        );
      }
  left_canceled (right_first {o = Succeeded n}) = record { outcome_is = refl; asks = inl (rw apart refl) }
  left_canceled (right_first {o = Errored n}) = record { outcome_is = refl; asks = inl (rw apart refl) }
  left_canceled (right_first {o = outcome.Canceled}) =
      record {
        outcome_is = refl;
        asks = inr (
          record {
            pre = event.Start f ∷ event.Start g ∷ event.First 1 ∷ [];
            post = _;
            split = refl;
            unasked = refl;
            place = 2;
            outcome = outcome.Canceled;
            learning = event.First 1;
            learns = refl;
            tells = refl;
            early = omega arith;
          },
          refl,
        );
      }

  -- the right side is
  pub right_canceled : {v : Option Outcome} {ls : List Label} → RacedSo f g v (Some outcome.Canceled) ls → MainShows f v v (whole f g b b' ls)
  right_canceled (right_first {v = None}) = record { outcome_is = refl; asks = inl refl }
  right_canceled (right_first {v = Some (Succeeded n)}) = record { outcome_is = refl; asks = inl refl }
  right_canceled (right_first {v = Some (Errored n)}) = record { outcome_is = refl; asks = inl refl }
  right_canceled (right_first {v = Some outcome.Canceled}) =
      record {
        outcome_is = refl;
        asks = inr (
          record {
            pre = event.Start f ∷ event.Start g ∷ event.First 1 ∷ event.Joined g outcome.Canceled ∷ event.Joined f outcome.Canceled ∷ [];
            post = _;
            split = refl;
            unasked = refl;
            place = 4;
            outcome = outcome.Canceled;
            learning = event.Joined f outcome.Canceled;
            learns = refl;
            tells = refl;
            early = omega arith;
          },
          refl,
        );
      }
  right_canceled (left_first {o = Succeeded n}) = record { outcome_is = refl; asks = inl (rw apart_too refl) }
  right_canceled (left_first {o = Errored n}) = record { outcome_is = refl; asks = inl (rw apart_too refl) }
  right_canceled (left_first {o = outcome.Canceled}) =
      record {
        outcome_is = refl;
        asks = inr (
          record {
            pre = event.Start f ∷ event.Start g ∷ event.First 0 ∷ [];
            post = _;
            split = refl;
            unasked = refl;
            place = 2;
            outcome = outcome.Canceled;
            learning = event.First 0;
            learns = refl;
            tells = refl;
            early = omega arith;
          },
          refl,
        );
      }

-- the outcome, but that a canceled fiber has none
abbrev pub unless_canceled : Option Outcome → Option Outcome
unless_canceled (Some outcome.Canceled) = None
unless_canceled v = v

-- Where side a waits for good, and came to this, and x to that, either all is well: the labels show what x came to, and do not request it. Or what a came to
-- cannot be: it was requested and has not ended, or was requested by nobody before main learnt of its end
pub data NeverRaced (a x : ℕ) (w v : Option Outcome) (ls : List Label) : Type 0 where
  fine : outcome_shown (events ls) ≡ unless_canceled v → RequestsNone x (events ls) → NeverRaced a x w v ls
  asked : list_any (is_request_for a) (events ls) ≡ true → w ≡ None → NeverRaced a x w v ls
  unasked : RequestsNone a (events ls) → w ≡ Some outcome.Canceled → NeverRaced a x w v ls
  learnt : (first : IsLearntFirst a ls) → first.outcome ≡ outcome.Canceled → w ≡ Some outcome.Canceled → NeverRaced a x w v ls

module _ (f g : ℕ) (b b' : Origin) (apart : (f == g) ≡ false) (apart_too : (g == f) ≡ false) where
  itself : (n : ℕ) → (n == n) ≡ true
  itself n = eq-eqb n n refl

  pub left_waits : {w v : Option Outcome} {ls : List Label} → RacedSo f g w v ls → (w ≡ None) ⊎ (w ≡ Some outcome.Canceled)
      → NeverRaced f g w v (whole f g b b' ls)
  left_waits none_ends h = fine refl refl
  left_waits (left_first {o = Succeeded n}) (inl e) = absurd cc
  left_waits (left_first {o = Succeeded n}) (inr e) = absurd cc
  left_waits (left_first {o = Errored n}) (inl e) = absurd cc
  left_waits (left_first {o = Errored n}) (inr e) = absurd cc
  left_waits (left_first {o = outcome.Canceled} {v = None}) h = unasked refl refl
  left_waits (left_first {o = outcome.Canceled} {v = Some (Succeeded n)}) h = unasked refl refl
  left_waits (left_first {o = outcome.Canceled} {v = Some (Errored n)}) h = unasked refl refl
  left_waits (left_first {o = outcome.Canceled} {v = Some outcome.Canceled}) h =
      learnt (record {
        pre = event.Start f ∷ event.Start g ∷ event.First 0 ∷ [];
        post = _;
        split = refl;
        unasked = refl;
        place = 2;
        outcome = outcome.Canceled;
        learning = event.First 0;
        learns = refl;
        tells = refl;
        early = omega arith;
      }) refl refl
  left_waits (right_first {o = Succeeded n} {v = None}) h = asked (rw (itself f) refl) refl
  left_waits (right_first {o = Errored n} {v = None}) h = asked (rw (itself f) refl) refl
  left_waits (right_first {o = outcome.Canceled} {v = None}) h = fine refl refl
  left_waits (right_first {o = Succeeded n} {v = Some outcome.Canceled}) h = fine refl (rw apart refl)
  left_waits (right_first {o = Errored n} {v = Some outcome.Canceled}) h = fine refl (rw apart refl)
  left_waits (right_first {o = outcome.Canceled} {v = Some outcome.Canceled}) h =
      learnt (record {
        pre = event.Start f ∷ event.Start g ∷ event.First 1 ∷ event.Joined g outcome.Canceled ∷ event.Joined f outcome.Canceled ∷ [];
        post = _;
        split = refl;
        unasked = refl;
        place = 4;
        outcome = outcome.Canceled;
        learning = event.Joined f outcome.Canceled;
        learns = refl;
        tells = refl;
        early = omega arith;
      }) refl refl
  left_waits (right_first {v = Some (Succeeded n)}) (inl e) = absurd cc
  left_waits (right_first {v = Some (Succeeded n)}) (inr e) = absurd cc
  left_waits (right_first {v = Some (Errored n)}) (inl e) = absurd cc
  left_waits (right_first {v = Some (Errored n)}) (inr e) = absurd cc

  pub right_waits : {w v : Option Outcome} {ls : List Label} → RacedSo f g v w ls → (w ≡ None) ⊎ (w ≡ Some outcome.Canceled)
      → NeverRaced g f w v (whole f g b b' ls)
  right_waits none_ends h = fine refl refl
  right_waits (right_first {o = Succeeded n}) (inl e) = absurd cc
  right_waits (right_first {o = Succeeded n}) (inr e) = absurd cc
  right_waits (right_first {o = Errored n}) (inl e) = absurd cc
  right_waits (right_first {o = Errored n}) (inr e) = absurd cc
  right_waits (right_first {o = outcome.Canceled} {v = None}) h = unasked refl refl
  right_waits (right_first {o = outcome.Canceled} {v = Some (Succeeded n)}) h = unasked refl refl
  right_waits (right_first {o = outcome.Canceled} {v = Some (Errored n)}) h = unasked refl refl
  right_waits (right_first {o = outcome.Canceled} {v = Some outcome.Canceled}) h =
      learnt (record {
        pre = event.Start f ∷ event.Start g ∷ event.First 1 ∷ [];
        post = _;
        split = refl;
        unasked = refl;
        place = 2;
        outcome = outcome.Canceled;
        learning = event.First 1;
        learns = refl;
        tells = refl;
        early = omega arith;
      }) refl refl
  right_waits (left_first {o = Succeeded n} {v = None}) h = asked (rw (itself g) refl) refl
  right_waits (left_first {o = Errored n} {v = None}) h = asked (rw (itself g) refl) refl
  right_waits (left_first {o = outcome.Canceled} {v = None}) h = fine refl refl
  right_waits (left_first {o = Succeeded n} {v = Some outcome.Canceled}) h = fine refl (rw apart_too refl)
  right_waits (left_first {o = Errored n} {v = Some outcome.Canceled}) h = fine refl (rw apart_too refl)
  right_waits (left_first {o = outcome.Canceled} {v = Some outcome.Canceled}) h =
      learnt (record {
        pre = event.Start f ∷ event.Start g ∷ event.First 0 ∷ event.Joined f outcome.Canceled ∷ event.Joined g outcome.Canceled ∷ [];
        post = _;
        split = refl;
        unasked = refl;
        place = 4;
        outcome = outcome.Canceled;
        learning = event.Joined g outcome.Canceled;
        learns = refl;
        tells = refl;
        early = omega arith;
      }) refl refl
  right_waits (left_first {v = Some (Succeeded n)}) (inl e) = absurd cc
  right_waits (left_first {v = Some (Succeeded n)}) (inr e) = absurd cc
  right_waits (left_first {v = Some (Errored n)}) (inl e) = absurd cc
  right_waits (left_first {v = Some (Errored n)}) (inr e) = absurd cc
