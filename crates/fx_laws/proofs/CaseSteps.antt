-- The one row of a bracket at a result: of the form with a release for each outcome, and of the plain one.
use Rattle.std.proofs.Common.{◌≡◌, ℕ, Bool, Option, refl}
use Rattle.fx_term.specs.declared.done.Done.{Done}
use Rattle.fx_term.specs.declared.done.Done.TheVariants.{Val, Err}
use Rattle.fx_term.specs.declared.event.Event.TheVariants as event
use Rattle.fx_term.specs.Term.{Term, Bracket, BracketCase, Finished, InUse, InUseCase, InRelease, put, put_named}
use Rattle.fx_model.specs.Path.{AcquireIn, AcquireCaseIn, InUseIn, InUseCaseIn, InReleaseIn}
use Rattle.fx_model.specs.Row.{Counts, Label, Silent, Shows, Row, one_more_acquired, after_release}
use Rattle.fx_model.specs.Row as rule
use Rattle.fx_model.proofs.Paths.{part_row, result_has_no_row}
use Rattle.fx_laws.proofs.SilentRows.{LeadsSilently}
use Rattle.fx_laws.proofs.SteppedAlike.{LeadsBy}

abbrev pub acquires : Counts → Label
acquires c = Shows (event.Acquired c.acquired)

abbrev pub begins : ℕ → Counts → Label
begins k c = Shows (event.Begin k)

abbrev pub ends : ℕ → Counts → Label
ends k c = Shows (event.End k)

abbrev pub unchanged : Counts → Counts
unchanged c = c

pub acquired_leads : (x : Option ℕ) (n : ℕ) (u r : Term)
    → LeadsBy acquires one_more_acquired (Bracket x (Finished (Val n)) u r) (λ c. InUse c.acquired (put_named x n u) (put_named x n r))
acquired_leads x n u r = record { there = λ k c. rule.acquired; only = λ k c d l w h. one h; going = λ w f. cc }
  where
    one : {k : Bool} {c d : Counts} {l : Label} {w : Term} → Row k c (Bracket x (Finished (Val n)) u r) l d w
        → (l ≡ acquires c) × (d ≡ one_more_acquired c) × (w ≡ InUse c.acquired (put_named x n u) (put_named x n r))
    one rule.acquired = (refl, refl, refl)
    one (rule.inside f g h q) = absurd (result_has_no_row (part_row (AcquireIn x u r) f (Finished (Val n)) g h q).1 refl)

pub used_leads : (k : ℕ) (v : Done) (r : Term) → LeadsBy (begins k) unchanged (InUse k (Finished v) r) (λ c. InRelease k r v)
used_leads k v r = record { there = λ b c. rule.used; only = λ b c d l w h. one h; going = λ w f. cc }
  where
    one : {b : Bool} {c d : Counts} {l : Label} {w : Term} → Row b c (InUse k (Finished v) r) l d w
        → (l ≡ begins k c) × (d ≡ c) × (w ≡ InRelease k r v)
    one rule.used = (refl, refl, refl)
    one (rule.inside f g h q) = absurd (result_has_no_row (part_row (InUseIn k r) f (Finished v) g h q).1 refl)

pub released_leads : (k : ℕ) (w v : Done) → LeadsBy (ends k) unchanged (InRelease k (Finished w) v) (λ c. Finished (after_release w v))
released_leads k w v = record { there = λ b c. rule.released; only = λ b c d l u h. one h; going = λ u f. cc }
  where
    one : {b : Bool} {c d : Counts} {l : Label} {u : Term} → Row b c (InRelease k (Finished w) v) l d u
        → (l ≡ ends k c) × (d ≡ c) × (u ≡ Finished (after_release w v))
    one rule.released = (refl, refl, refl)
    one (rule.inside f g h q) = absurd (result_has_no_row (part_row (InReleaseIn k v) f (Finished w) g h q).1 refl)

module _ (y z : ℕ) (s e d' : Term) where
  pub case_fails_leads : (x i : ℕ) (u : Term) → LeadsSilently (BracketCase x (Finished (Err i)) u y s z e d') (Finished (Err i))
  case_fails_leads x i u = record { there = λ k c. rule.acquire_case_fails; only = λ k c d l w h. one h; going = λ w f. cc }
    where
      one : {k : Bool} {c d : Counts} {l : Label} {w : Term} → Row k c (BracketCase x (Finished (Err i)) u y s z e d') l d w
          → (l ≡ Silent) × (d ≡ c) × (w ≡ Finished (Err i))
      one rule.acquire_case_fails = (refl, refl, refl)
      one (rule.inside f g h q) = absurd (result_has_no_row (part_row (AcquireCaseIn x u y s z e d') f (Finished (Err i)) g h q).1 refl)

  pub case_acquired_leads : (x n : ℕ) (u : Term) → LeadsBy acquires one_more_acquired (BracketCase x (Finished (Val n)) u y s z e d')
      (λ c. InUseCase c.acquired (put x n u) y (put x n s) z (put x n e) (put x n d'))
  case_acquired_leads x n u = record { there = λ k c. rule.acquired_case; only = λ k c d l w h. one h; going = λ w f. cc }
    where
      one : {k : Bool} {c d : Counts} {l : Label} {w : Term} → Row k c (BracketCase x (Finished (Val n)) u y s z e d') l d w
          → (l ≡ acquires c) × (d ≡ one_more_acquired c) × (w ≡ InUseCase c.acquired (put x n u) y (put x n s) z (put x n e) (put x n d'))
      one rule.acquired_case = (refl, refl, refl)
      one (rule.inside f g h q) = absurd (result_has_no_row (part_row (AcquireCaseIn x u y s z e d') f (Finished (Val n)) g h q).1 refl)

  pub succeeded_leads : (k n : ℕ) → LeadsBy (begins k) unchanged (InUseCase k (Finished (Val n)) y s z e d') (λ c. InRelease k (put y n s) (Val n))
  succeeded_leads k n = record { there = λ b c. rule.use_succeeded; only = λ b c d l w h. one h; going = λ w f. cc }
    where
      one : {b : Bool} {c d : Counts} {l : Label} {w : Term} → Row b c (InUseCase k (Finished (Val n)) y s z e d') l d w
          → (l ≡ begins k c) × (d ≡ c) × (w ≡ InRelease k (put y n s) (Val n))
      one rule.use_succeeded = (refl, refl, refl)
      one (rule.inside f g h q) = absurd (result_has_no_row (part_row (InUseCaseIn k y s z e d') f (Finished (Val n)) g h q).1 refl)

  pub erred_leads : (k i : ℕ) → LeadsBy (begins k) unchanged (InUseCase k (Finished (Err i)) y s z e d') (λ c. InRelease k (put z i e) (Err i))
  erred_leads k i = record { there = λ b c. rule.use_erred; only = λ b c d l w h. one h; going = λ w f. cc }
    where
      one : {b : Bool} {c d : Counts} {l : Label} {w : Term} → Row b c (InUseCase k (Finished (Err i)) y s z e d') l d w
          → (l ≡ begins k c) × (d ≡ c) × (w ≡ InRelease k (put z i e) (Err i))
      one rule.use_erred = (refl, refl, refl)
      one (rule.inside f g h q) = absurd (result_has_no_row (part_row (InUseCaseIn k y s z e d') f (Finished (Err i)) g h q).1 refl)
