-- The use and the release of a bracket, beside a polled use with a finalizer in a mask.
use Rattle.std.proofs.Common.{◌≡◌, ℕ, Bool, true, false, Some, None, List, [], ◌∷◌, refl, sym, ◌∙◌, ap, arith}
use Rattle.std.proofs.lemmas.Bool.{eq-eqb}
use Rattle.fx_term.specs.declared.node.Arg.TheVariants.{Number, Slot}
use Rattle.fx_term.specs.declared.done.Done.{Done}
use Rattle.fx_term.specs.declared.done.Done.TheVariants.{Val, Err}
use Rattle.fx_term.specs.declared.event.Event.TheVariants as event
use Rattle.fx_term.specs.Term.{Term, Pure, Raise, Let, Handle, OnCancel, Finished, InUse, InRelease, put_arg, put}
use Rattle.fx_model.specs.Path.{Context, LetIn, HandleIn, OnCancelIn, MaskedIn, OpenedIn, InUseIn, InReleaseIn, Finalizer}
use Rattle.fx_model.specs.Path.{Release, must_cancel}
use Rattle.fx_model.specs.Row.{Counts, Label, Silent, Shows, Row, after_release}
use Rattle.fx_model.specs.Row as rule
use Rattle.fx_model.specs.Step.{Progress, Runs, Unwinds, row}
use Rattle.fx_model.specs.Run.{Leads}
use Rattle.fx_model.proofs.Alike.{Alike}
use Rattle.fx_model.proofs.Paths.{part_row, result_has_no_row}
use Rattle.fx_laws.specs.Everywhere.{placed}
use Rattle.fx_laws.proofs.Views.{HasRun, IsMatched, hidden_first, silent_first}
use Rattle.fx_laws.proofs.SamePlaces.{Moves, by_row, by_end, wholes_matched}
use Rattle.fx_laws.proofs.SilentRows.{LeadsSilently, pure_leads, raise_leads, let_value_leads, let_error_leads, handle_value_leads}
use Rattle.fx_laws.proofs.SilentRows.{handle_error_leads, leads_placed}
use Rattle.fx_laws.proofs.SilentRows.{oncancel_leads, masked_leads, opened_leads, silent_step}
use Rattle.fx_laws.proofs.Forced.{IsOnlyRow, AreMatched, hidden_left, silent_right, runs_only, begins_finalizer, begins_release}
use Rattle.fx_laws.proofs.Forced.{ends_finalizer, ends_release, unwound_both}
use Rattle.fx_laws.proofs.OnlyRows.{only_silent, only_placed}
use Rattle.fx_laws.proofs.Shut.{cleaning, Always, cleanup_is_shut, running, IsClosedThere, run_is_shut}
use Rattle.fx_laws.proofs.StaysShut.{left_shut, right_shut, left_sealed, right_sealed}
use Rattle.fx_laws.proofs.AlikeFibers.{AreShifted, shifted_back, shifted_known, shut_both}
use Rattle.fx_laws.proofs.AlikeInside.{alike_matched}
use Rattle.fx_laws.proofs.Results.{results_both}
use Rattle.fx_laws.proofs.Looking.{looking}

abbrev nothing : Term
nothing = Pure (Number 0)

pub only_released : (c : Counts) (k : ℕ) (w v : Done) → IsOnlyRow c (InRelease k (Finished w) v) (Shows (event.End k)) c (Finished (after_release w v))
only_released c k w v = record { there = rule.released; only = λ m e u r. one r; going = λ u e. cc }
  where
    one : {m : Label} {e : Counts} {u : Term} → Row true c (InRelease k (Finished w) v) m e u
        → (m ≡ Shows (event.End k)) × (e ≡ c) × (u ≡ Finished (after_release w v))
    one rule.released = (refl, refl, refl)
    one (rule.inside f e g r) = absurd (result_has_no_row (part_row (InReleaseIn k v) f (Finished w) e g r).1 refl)

abbrev pub IsUsed : ℕ → Done → Term → Counts → Label → Counts → Term → Type 0
IsUsed k w r c l d u = (l ≡ Shows (event.Begin k)) × (d ≡ c) × (u ≡ InRelease k r w)

pub used_row : {b : Bool} {c d : Counts} {l : Label} {u : Term} (k : ℕ) (w : Done) (r : Term) → Row b c (InUse k (Finished w) r) l d u → IsUsed k w r c l d u
used_row k w r rule.used = (refl, refl, refl)
used_row k w r (rule.inside f e g h) = absurd (result_has_no_row (part_row (InUseIn k r) f (Finished w) e g h).1 refl)

pub same_known : {low low' : ℕ} {c c' : Counts} → AreShifted low low' c c' → c.known ≡ c'.known
same_known s = sym (ap (λ (e : Counts). e.known) s.is)

-- what runs after the use, by the names of its value and of its error
module _ (y ex k : ℕ) (r : Term) (same_r : (n m : ℕ) → Alike n m r r) where
  abbrev pub after_value : Term
  after_value = Let None r (Pure (Slot y))

  abbrev pub after_error : Term
  after_error = Let None (Handle r None nothing) (Raise (Slot ex))

  -- the release after a value
  abbrev releasing_value : ℕ → List Context
  releasing_value m = MaskedIn 0 ∷ LetIn None (Pure (Number m)) ∷ []

  abbrev releases : Done → List Context
  releases w = InReleaseIn k w ∷ []

  value_released : (m : ℕ) (d d' : Counts) → AreShifted 0 1 d d' → (w : Done)
      → AreMatched looking d (Runs (placed (releases (Val m)) (Finished w))) d' (Runs (placed (releasing_value m) (Finished w)))
  value_released m d d' near (Val j) =
      hidden_left looking refl (runs_only refl (only_released d k (Val j) (Val m)))
      (silent_right looking (runs_only refl (only_placed (MaskedIn 0 ∷ []) (only_silent d' (let_value_leads None j (Pure (Number m))))))
      (silent_right looking (runs_only refl (only_placed (MaskedIn 0 ∷ []) (only_silent d' (pure_leads m))))
      (silent_right looking (runs_only refl (only_silent d' (masked_leads 0 (Val m)))) (results_both looking (Val m) d d' (same_known near)))))
  value_released m d d' near (Err j) =
      hidden_left looking refl (runs_only refl (only_released d k (Err j) (Val m)))
      (silent_right looking (runs_only refl (only_placed (MaskedIn 0 ∷ []) (only_silent d' (let_error_leads None j (Pure (Number m))))))
      (silent_right looking (runs_only refl (only_silent d' (masked_leads 0 (Err j)))) (results_both looking (Err j) d d' (same_known near))))

  release_after_value : (m : ℕ) (d d' : Counts) → AreShifted 0 1 d d'
      → AreMatched looking d (Runs (placed (releases (Val m)) r)) d' (Runs (placed (releasing_value m) r))
  release_after_value m d d' near =
      shut_both looking 0 1 (running (releases (Val m))) (running (releasing_value m)) (IsClosedThere (releases (Val m))) (IsClosedThere (releasing_value m))
      (run_is_shut (releases (Val m))) (run_is_shut (releasing_value m))
      (λ t t' s. (left_sealed 0 1 (releases (Val m)) refl s, right_shut 0 1 0 (releasing_value m) refl (omega arith) s))
      (λ t t' s. (left_shut 1 0 0 (releasing_value m) refl (omega arith) s, right_sealed 1 0 (releases (Val m)) refl s))
      (λ e e' n w. value_released m e e' n w) d d' r near same_r

  -- the release after an error
  abbrev raising : ℕ → List Context
  raising q = MaskedIn 0 ∷ LetIn (Some y) after_value ∷ LetIn None (Raise (Number q)) ∷ []

  abbrev releasing_error : ℕ → List Context
  releasing_error q = MaskedIn 0 ∷ LetIn (Some y) after_value ∷ LetIn None (Raise (Number q)) ∷ HandleIn None nothing ∷ []

  abbrev still_named : List Context
  still_named = MaskedIn 0 ∷ LetIn (Some y) after_value ∷ []

  raised_again : (q j : ℕ) (d d' : Counts) → AreShifted 0 1 d d'
      → AreMatched looking d (Runs (Finished (Err q))) d' (Runs (placed (raising q) (Finished (Val j))))
  raised_again q j d d' near =
      silent_right looking (runs_only refl (only_placed still_named (only_silent d' (let_value_leads None j (Raise (Number q))))))
      (silent_right looking (runs_only refl (only_placed still_named (only_silent d' (raise_leads q))))
      (silent_right looking (runs_only refl (only_placed (MaskedIn 0 ∷ []) (only_silent d' (let_error_leads (Some y) q after_value))))
      (silent_right looking (runs_only refl (only_silent d' (masked_leads 0 (Err q)))) (results_both looking (Err q) d d' (same_known near)))))

  error_released : (q : ℕ) (d d' : Counts) → AreShifted 0 1 d d' → (w : Done)
      → AreMatched looking d (Runs (placed (releases (Err q)) (Finished w))) d' (Runs (placed (releasing_error q) (Finished w)))
  error_released q d d' near (Val j) =
      hidden_left looking refl (runs_only refl (only_released d k (Val j) (Err q)))
      (silent_right looking (runs_only refl (only_placed (raising q) (only_silent d' (handle_value_leads None j nothing)))) (raised_again q j d d' near))
  error_released q d d' near (Err j) =
      hidden_left looking refl (runs_only refl (only_released d k (Err j) (Err q)))
      (silent_right looking (runs_only refl (only_placed (raising q) (only_silent d' (handle_error_leads None j nothing))))
      (silent_right looking (runs_only refl (only_placed (raising q) (only_silent d' (pure_leads 0)))) (raised_again q 0 d d' near)))

  release_after_error : (q : ℕ) (d d' : Counts) → AreShifted 0 1 d d'
      → AreMatched looking d (Runs (placed (releases (Err q)) r)) d' (Runs (placed (releasing_error q) r))
  release_after_error q d d' near =
      shut_both looking 0 1 (running (releases (Err q))) (running (releasing_error q)) (IsClosedThere (releases (Err q))) (IsClosedThere (releasing_error q))
      (run_is_shut (releases (Err q))) (run_is_shut (releasing_error q))
      (λ t t' s. (left_sealed 0 1 (releases (Err q)) refl s, right_shut 0 1 0 (releasing_error q) refl (omega arith) s))
      (λ t t' s. (left_shut 1 0 0 (releasing_error q) refl (omega arith) s, right_sealed 1 0 (releases (Err q)) refl s))
      (λ e e' n w. error_released q e e' n w) d d' r near same_r

  -- the release where the fiber is canceled in the use
  released_last : (d d' : Counts) → AreShifted 0 1 d d' → AreMatched looking d (Unwinds (Release k r ∷ [])) d' (Unwinds (Finalizer r ∷ []))
  released_last d d' near =
      hidden_left looking refl (begins_release d k r [])
      (silent_right looking (begins_finalizer d' r [])
      (shut_both looking 0 1 (cleaning (Some k) [] []) (cleaning None [] []) Always Always (cleanup_is_shut (Some k) [] []) (cleanup_is_shut None [] [])
      (λ t t' s. (tt, tt)) (λ t t' s. (tt, tt))
      (λ e e' n w. hidden_left looking refl (ends_release e k w []) (silent_right looking (ends_finalizer e' w [])
      (unwound_both looking e e'))) d d' r near same_r))

  module _ (unused_y : (n : ℕ) → put y n r ≡ r) (unused_ex : (n : ℕ) → put ex n r ≡ r) where
    abbrev handled : List Context
    handled = MaskedIn 0 ∷ LetIn (Some y) after_value ∷ HandleIn (Some ex) after_error ∷ []

    put_self : (x n : ℕ) → put_arg x n (Slot x) ≡ Number n
    put_self x n = rw (eq-eqb x x refl) refl

    after_use : (d d' : Counts) → AreShifted 0 1 d d' → (w : Done)
        → AreMatched looking d (Runs (InRelease k r w)) d' (Runs (placed handled (OnCancel (Finished w) r)))
    after_use d d' near (Val m) =
        silent_right looking (runs_only refl (only_placed handled (only_silent d' (oncancel_leads (Val m) r))))
        (silent_right looking (runs_only refl (only_placed still_named (only_silent d' (handle_value_leads (Some ex) m after_error))))
        (silent_right looking (runs_only refl (only_placed (MaskedIn 0 ∷ []) (only_silent d' (let_value_leads (Some y) m after_value))))
        (rw (unused_y m, put_self y m) (release_after_value m d d' near))))
    after_use d d' near (Err q) =
        silent_right looking (runs_only refl (only_placed handled (only_silent d' (oncancel_leads (Err q) r))))
        (silent_right looking (runs_only refl (only_placed still_named (only_silent d' (handle_error_leads (Some ex) q after_error))))
        (rw (unused_ex q, put_self ex q) (release_after_error q d d' near)))

    -- the use, at a place as open as the bracket's
    abbrev uses : List Context
    uses = InUseIn k r ∷ []

    abbrev cleaned : List Context
    cleaned = MaskedIn 0 ∷ LetIn (Some y) after_value ∷ HandleIn (Some ex) after_error ∷ OnCancelIn r ∷ []

    abbrev pub polled : List Context
    polled = MaskedIn 0 ∷ LetIn (Some y) after_value ∷ HandleIn (Some ex) after_error ∷ OnCancelIn r ∷ OpenedIn 0 ∷ []

    must_both : (w : Done) (c c' : Counts) → c.known ≡ c'.known
        → must_cancel c.known (InUse k (Finished w) r) ≡ must_cancel c'.known (placed polled (Finished w))
    must_both w c c' e = ap (λ (b : Bool). must_cancel b (InUse k (Finished w) r)) e

    poll_ends : (w : Done) → LeadsSilently (placed polled (Finished w)) (placed cleaned (Finished w))
    poll_ends w = leads_placed cleaned (opened_leads 0 w)

    use_moves : (w : Done) (c c' d e : Counts) (l : Label) (q s : Progress) (ls : List Label) → AreShifted 0 1 c c'
        → Moves c (InUse k (Finished w) r) l d q → Leads d q ls e s → HasRun looking c' (Runs (placed polled (Finished w))) (looking.of (l ∷ ls))
    use_moves w c c' d e l q s ls near (by_row {u = u} free h) after =
        let o = used_row k w r h in
        let go : Leads c (Runs (InRelease k r w)) ls e s = rw (sym o.1, sym o.2) after in
        let start = silent_step (poll_ends w) (sym (must_both w c c' (same_known near)) ∙ free) in
        rw o.0 (silent_first looking start ((after_use c c' near w).0 ls e s go))
    use_moves w c c' d e l q s ls near (by_end free f h) after = absurd cc

    poll_moves : (w : Done) (c c' d e : Counts) (l : Label) (q s : Progress) (ls : List Label) → AreShifted 1 0 c c'
        → Moves c (placed polled (Finished w)) l d q → Leads d q ls e s → HasRun looking c' (Runs (InUse k (Finished w) r)) (looking.of (l ∷ ls))
    poll_moves w c c' d e l q s ls near (by_row {u = u} free h) after =
        let o = (poll_ends w).only false c d l u h in
        let go : Leads c (Runs (placed cleaned (Finished w))) ls e s = rw (sym o.1, sym o.2) after in
        let free' : must_cancel c'.known (InUse k (Finished w) r) ≡ false = must_both w c' c (sym (same_known near)) ∙ free in
        rw o.0 (hidden_first looking refl (row free' rule.used) ((after_use c' c (shifted_back near) w).1 ls e s go))
    poll_moves w c c' d e l q s ls near (by_end {w = x} free f h) after = absurd ((poll_ends w).going x f)

    use_ends : (c c' : Counts) → AreShifted 0 1 c c' → (w : Done) → IsMatched looking c (Runs (placed uses (Finished w))) c' (Runs (placed polled (Finished w)))
    use_ends c c' near w =
        wholes_matched looking (AreShifted 0 1) shifted_known (InUse k (Finished w) r) (placed polled (Finished w)) (λ d d' n. must_both w d d'
        (same_known n)) refl
        (λ d d' n. (released_last d d' n).0) (use_moves w) c c' near

    poll_ends_so : (c c' : Counts) → AreShifted 1 0 c c' → (w : Done)
        → IsMatched looking c (Runs (placed polled (Finished w))) c' (Runs (placed uses (Finished w)))
    poll_ends_so c c' near w =
        wholes_matched looking (AreShifted 1 0) shifted_known (placed polled (Finished w)) (InUse k (Finished w) r)
        (λ d d' n. sym (must_both w d' d (sym (same_known n)))) refl (λ d d' n. (released_last d' d (shifted_back n)).1) (poll_moves w) c c' near

    pub use_matched : (u : Term) → ((n m : ℕ) → Alike n m u u) → (c c' : Counts) → AreShifted 0 1 c c'
        → AreMatched looking c (Runs (placed uses u)) c' (Runs (placed polled u))
    use_matched u same_u c c' near = (
      alike_matched looking 0 1 uses polled (Release k r ∷ []) (Finalizer r ∷ []) refl refl (λ xs. refl) (λ xs. refl) (λ d d' n. (released_last d d' n).0)
          use_ends c c' u u near (same_u 0 1),
      alike_matched looking 1 0 polled uses (Finalizer r ∷ []) (Release k r ∷ []) refl refl (λ xs. refl) (λ xs. refl)
          (λ d d' n. (released_last d' d (shifted_back n)).1) poll_ends_so c' c u u (shifted_back near) (same_u 1 0),
    )
