-- A bracket waits where the mask that it is waits.
use Rattle.std.proofs.Common.{◌≡◌, ◌≢◌, ℕ, Bool, true, false, not, Option, Some, None, List, [], ◌∷◌, refl, sym, ◌∙◌, ap, subst, arith}
use Rattle.std.proofs.lemmas.Bool.{eq-eqb}
use Rattle.fx_term.specs.declared.event.Event.TheVariants as event
use Rattle.fx_term.specs.declared.node.Arg.TheVariants.{Number, Slot}
use Rattle.fx_term.specs.declared.done.Done.{Done}
use Rattle.fx_term.specs.declared.done.Done.TheVariants.{Val, Err}
use Rattle.fx_term.specs.declared.name_kind.NameKind.{NameKind}
use Rattle.fx_term.specs.declared.name_kind.NameKind.TheVariants as kind
use Rattle.fx_term.specs.Scope.{with_named, IsNew, IsScoped}
use Rattle.fx_term.specs.Term.{Term, Pure, Raise, Let, Handle, Mask, Poll, OnCancel, Bracket, Finished, Masked, Opened, InUse, InRelease}
use Rattle.fx_term.specs.Term.{put, put_arg, put_named}
use Rattle.fx_model.specs.Path.{Finalizer, Release, Context, LetIn, HandleIn, OnCancelIn, AcquireIn, MaskedIn, OpenedIn, InUseIn, InReleaseIn}
use Rattle.fx_model.specs.Path.{is_open, leaf, must_cancel}
use Rattle.fx_model.specs.Row.{Counts, Label, Silent, Shows, known_canceled, one_more_acquired, one_more_mask, Row}
use Rattle.fx_model.specs.Row as rule
use Rattle.fx_model.specs.Step.{Progress, Runs, Unwinds, Step, cancelled, seen, row, succeeds, errs}
use Rattle.fx_model.specs.Run.{Leads}
use Rattle.fx_model.specs.MaskLaws.{IsPlain}
use Rattle.fx_model.specs.Outside.{Outside, can_step, leaf_can_step}
use Rattle.fx_model.proofs.Alike.{next_regions, Alike, plain_alike}
use Rattle.fx_model.proofs.MaskEntering.{counts_at}
use Rattle.fx_mask.specs.Closing.{is_none_closed}
use Rattle.fx_laws.specs.Everywhere.{placed, InTerm, InCleanup}
use Rattle.fx_laws.specs.Names.{without_names}
use Rattle.fx_laws.specs.Others.{visible}
use Rattle.fx_laws.proofs.AlikeFibers.{AreShifted, shifted_back, shifted_known}
use Rattle.fx_laws.proofs.BracketLaws.{rest, acquire_fails_leads, only_acquired, unused_after, rest_after, y_there, ex_there, others, same_after, body_entered}
use Rattle.fx_laws.proofs.BracketUse.{only_released, used_row, same_known}
use Rattle.fx_laws.proofs.Forced.{begins_finalizer, ends_finalizer, begins_release, ends_release, runs_only}
use Rattle.fx_laws.proofs.OnlyRows.{only_silent, only_placed}
use Rattle.fx_laws.proofs.Renumbered.{HasAcquiredOthers, IsRenumbered, with_acquired, renumbered_rows, renumbered_result, renumbered_closed, renumbered_leaf}
use Rattle.fx_laws.proofs.Renumbered.{renumbered_must, clean_too}
use Rattle.fx_laws.proofs.Renumbered as renumbered
use Rattle.fx_laws.proofs.SilentRows.{LeadsSilently, pure_leads, raise_leads, let_value_leads, let_error_leads, handle_value_leads, handle_error_leads}
use Rattle.fx_laws.proofs.SilentRows.{masked_leads, opened_leads, oncancel_leads, leads_placed, silent_step}
use Rattle.fx_laws.proofs.StaysShut.{left_shut, right_shut, left_sealed, right_sealed}
use Rattle.fx_script_laws.proofs.AtClosedPlaces.{can_go}
use Rattle.fx_look_laws.proofs.Blocked.{IsBlockedAt, IsNeverBlocked, forced_never, unwinds_never}
use Rattle.fx_script_laws.proofs.RegionLaws.{poll_leads}
use Rattle.fx_look_laws.proofs.OpenWaits.{result_never, unwinding_waits, open_waits, alike_open_waits}
use Rattle.fx_look_laws.proofs.WaitsLike.{CanStop, WaitsLike, never_waits, left_first, right_first, step_like, alike_waits, enters_first}

abbrev nothing : Term
nothing = Pure (Number 0)

module _ (o : Outside) where
  -- one after the other
  and_then : {c d e : Counts} {p q r : Progress} → WaitsLike o c p d q → WaitsLike o d q e r → WaitsLike o c p e r
  and_then {e = e} {r = r} first second ls d q h b =
      let k = first ls d q h b in
      subst (λ (ms : List Label). CanStop o e r ms) k.visible_is (second k.labels k.counts k.progress k.run k.blocked)

  -- a fiber that has acquired more, at the same term
  renumbered_waits : (c c' : Counts) (t : Term) → HasAcquiredOthers c c' → WaitsLike o c (Runs t) c' (Runs t)
  renumbered_waits c c' t near ls d q h b =
      open_waits o HasAcquiredOthers IsRenumbered renumbered_rows renumbered_result (λ x x' s. ap (leaf_can_step o) (renumbered_leaf s)) [] []
      (λ e e' n. record { is = ap known_canceled n.is }) renumbered_must (λ x x' s. ap is_none_closed (renumbered_closed [] s))
      (λ e e' x x' n s. unwinding_waits o HasAcquiredOthers IsRenumbered renumbered_rows renumbered_result
      (λ y y' k. ap (leaf_can_step o) (renumbered_leaf k)) [] [] (λ a a' m. never_waits o (unwinds_never o a)) (clean_too s) e e' n)
      (λ e e' n w. never_waits o (result_never o w e)) ls c c' d q t t near renumbered.same h b

  -- a silent step at a closed place
  silent_left : (fs : List Context) {t u : Term} {c c' : Counts} {p' : Progress} → is_open (placed fs t) ≡ false → LeadsSilently t u
      → ((v : Outside) → leaf_can_step v (leaf t) ≡ true) → WaitsLike o c (Runs (placed fs u)) c' p' → WaitsLike o c (Runs (placed fs t)) c' p'
  silent_left fs {t} {c = c} closed s steps next =
      left_first o (runs_only closed (only_placed fs (only_silent c s))) (can_go (InTerm fs) t steps c o 0) refl next

  silent_right : (fs : List Context) {t u : Term} {c c' : Counts} {p : Progress} → is_open (placed fs t) ≡ false → LeadsSilently t u
      → WaitsLike o c p c' (Runs (placed fs u)) → WaitsLike o c p c' (Runs (placed fs t))
  silent_right fs {c' = c'} closed s next = right_first o (runs_only closed (only_placed fs (only_silent c' s))).step refl next

  silent_never : (fs : List Context) {t u : Term} {c : Counts} → is_open (placed fs t) ≡ false → LeadsSilently t u
      → ((v : Outside) → leaf_can_step v (leaf t) ≡ true) → IsNeverBlocked o c (Runs (placed fs u)) → IsNeverBlocked o c (Runs (placed fs t))
  silent_never fs {t} {c = c} closed s steps next =
      forced_never o (runs_only closed (only_placed fs (only_silent c s))) (can_go (InTerm fs) t steps c o 0) next

  module _ (y ex k : ℕ) (r : Term) (same_r : (n m : ℕ) → Alike n m r r) where
    abbrev after_value : Term
    after_value = Let None r (Pure (Slot y))

    abbrev after_error : Term
    after_error = Let None (Handle r None nothing) (Raise (Slot ex))

    -- the release after a value
    abbrev releasing_value : ℕ → List Context
    releasing_value m = MaskedIn 0 ∷ LetIn None (Pure (Number m)) ∷ []

    abbrev releases : Done → List Context
    releases w = InReleaseIn k w ∷ []

    released_never : (v : Done) (c : Counts) (w : Done) → IsNeverBlocked o c (Runs (placed (releases v) (Finished w)))
    released_never v c w =
        forced_never o (runs_only refl (only_released c k w v)) (can_go (InTerm (releases v)) (Finished w) (λ u. refl) c o 0)
        (result_never o _ c)

    value_never : (m : ℕ) (c : Counts) (w : Done) → IsNeverBlocked o c (Runs (placed (releasing_value m) (Finished w)))
    value_never m c (Val j) =
        silent_never (MaskedIn 0 ∷ []) refl (let_value_leads None j (Pure (Number m))) (λ v. refl)
        (silent_never (MaskedIn 0 ∷ []) refl (pure_leads m) (λ v. refl) (silent_never [] refl (masked_leads 0 (Val m)) (λ v. refl) (result_never o (Val m) c)))
    value_never m c (Err j) =
        silent_never (MaskedIn 0 ∷ []) refl (let_error_leads None j (Pure (Number m))) (λ v. refl)
        (silent_never [] refl (masked_leads 0 (Err j)) (λ v. refl) (result_never o (Err j) c))

    value_to : (m : ℕ) (d d' : Counts) → AreShifted 0 1 d d' → WaitsLike o d (Runs (placed (releases (Val m)) r)) d' (Runs (placed (releasing_value m) r))
    value_to m d d' near =
        alike_waits o 0 1 (InTerm (releases (Val m))) (InTerm (releasing_value m))
        (λ t t' s. (left_sealed 0 1 (releases (Val m)) refl s, right_shut 0 1 0 (releasing_value m) refl (omega arith) s))
        (λ e e' n w. never_waits o (released_never (Val m) e w)) d d' r r near (same_r 0 1)

    value_from : (m : ℕ) (d d' : Counts) → AreShifted 1 0 d d' → WaitsLike o d (Runs (placed (releasing_value m) r)) d' (Runs (placed (releases (Val m)) r))
    value_from m d d' near =
        alike_waits o 1 0 (InTerm (releasing_value m)) (InTerm (releases (Val m)))
        (λ t t' s. (left_shut 1 0 0 (releasing_value m) refl (omega arith) s, right_sealed 1 0 (releases (Val m)) refl s))
        (λ e e' n w. never_waits o (value_never m e w)) d d' r r near (same_r 1 0)

    -- the release after an error
    abbrev still_named : List Context
    still_named = MaskedIn 0 ∷ LetIn (Some y) after_value ∷ []

    abbrev raising : ℕ → List Context
    raising q = MaskedIn 0 ∷ LetIn (Some y) after_value ∷ LetIn None (Raise (Number q)) ∷ []

    abbrev releasing_error : ℕ → List Context
    releasing_error q = MaskedIn 0 ∷ LetIn (Some y) after_value ∷ LetIn None (Raise (Number q)) ∷ HandleIn None nothing ∷ []

    raised_never : (q j : ℕ) (c : Counts) → IsNeverBlocked o c (Runs (placed (raising q) (Finished (Val j))))
    raised_never q j c =
        silent_never still_named refl (let_value_leads None j (Raise (Number q))) (λ v. refl)
        (silent_never still_named refl (raise_leads q) (λ v. refl)
        (silent_never (MaskedIn 0 ∷ []) refl (let_error_leads (Some y) q after_value) (λ v. refl)
        (silent_never [] refl (masked_leads 0 (Err q)) (λ v. refl) (result_never o (Err q) c))))

    error_never : (q : ℕ) (c : Counts) (w : Done) → IsNeverBlocked o c (Runs (placed (releasing_error q) (Finished w)))
    error_never q c (Val j) = silent_never (raising q) refl (handle_value_leads None j nothing) (λ v. refl) (raised_never q j c)
    error_never q c (Err j) =
        silent_never (raising q) refl (handle_error_leads None j nothing) (λ v. refl)
        (silent_never (raising q) refl (pure_leads 0) (λ v. refl) (raised_never q 0 c))

    error_to : (q : ℕ) (d d' : Counts) → AreShifted 0 1 d d' → WaitsLike o d (Runs (placed (releases (Err q)) r)) d' (Runs (placed (releasing_error q) r))
    error_to q d d' near =
        alike_waits o 0 1 (InTerm (releases (Err q))) (InTerm (releasing_error q))
        (λ t t' s. (left_sealed 0 1 (releases (Err q)) refl s, right_shut 0 1 0 (releasing_error q) refl (omega arith) s))
        (λ e e' n w. never_waits o (released_never (Err q) e w)) d d' r r near (same_r 0 1)

    error_from : (q : ℕ) (d d' : Counts) → AreShifted 1 0 d d' → WaitsLike o d (Runs (placed (releasing_error q) r)) d' (Runs (placed (releases (Err q)) r))
    error_from q d d' near =
        alike_waits o 1 0 (InTerm (releasing_error q)) (InTerm (releases (Err q)))
        (λ t t' s. (left_shut 1 0 0 (releasing_error q) refl (omega arith) s, right_sealed 1 0 (releases (Err q)) refl s))
        (λ e e' n w. never_waits o (error_never q e w)) d d' r r near (same_r 1 0)

    -- the release where the fiber is canceled in the use
    last_to : (d d' : Counts) → AreShifted 0 1 d d' → WaitsLike o d (Unwinds (Release k r ∷ [])) d' (Unwinds (Finalizer r ∷ []))
    last_to d d' near =
        left_first o (begins_release d k r []) refl refl
        (right_first o (begins_finalizer d' r []).step refl
        (alike_waits o 0 1 (InCleanup (Some k) [] []) (InCleanup None [] []) (λ t t' s. (tt, tt))
        (λ e e' n w. never_waits o (forced_never o (ends_release e k w []) refl (unwinds_never o e))) d d' r r near (same_r 0 1)))

    last_from : (d d' : Counts) → AreShifted 1 0 d d' → WaitsLike o d (Unwinds (Finalizer r ∷ [])) d' (Unwinds (Release k r ∷ []))
    last_from d d' near =
        left_first o (begins_finalizer d r []) refl refl
        (right_first o (begins_release d' k r []).step refl
        (alike_waits o 1 0 (InCleanup None [] []) (InCleanup (Some k) [] []) (λ t t' s. (tt, tt))
        (λ e e' n w. never_waits o (forced_never o (ends_finalizer e w []) refl (unwinds_never o e))) d d' r r near (same_r 1 0)))

    module _ (unused_y : (n : ℕ) → put y n r ≡ r) (unused_ex : (n : ℕ) → put ex n r ≡ r) where
      abbrev handled : List Context
      handled = MaskedIn 0 ∷ LetIn (Some y) after_value ∷ HandleIn (Some ex) after_error ∷ []

      put_self : (x n : ℕ) → put_arg x n (Slot x) ≡ Number n
      put_self x n = rw (eq-eqb x x refl) refl

      after_use_to : (d d' : Counts) → AreShifted 0 1 d d' → (w : Done)
          → WaitsLike o d (Runs (InRelease k r w)) d' (Runs (placed handled (OnCancel (Finished w) r)))
      after_use_to d d' near (Val m) =
          silent_right handled refl (oncancel_leads (Val m) r)
          (silent_right still_named refl (handle_value_leads (Some ex) m after_error)
          (silent_right (MaskedIn 0 ∷ []) refl (let_value_leads (Some y) m after_value) (rw (unused_y m, put_self y m) (value_to m d d' near))))
      after_use_to d d' near (Err q) =
          silent_right handled refl (oncancel_leads (Err q) r)
          (silent_right still_named refl (handle_error_leads (Some ex) q after_error) (rw (unused_ex q, put_self ex q) (error_to q d d' near)))

      after_use_from : (d d' : Counts) → AreShifted 1 0 d d' → (w : Done)
          → WaitsLike o d (Runs (placed handled (OnCancel (Finished w) r))) d' (Runs (InRelease k r w))
      after_use_from d d' near (Val m) =
          silent_left handled refl (oncancel_leads (Val m) r) (λ v. refl)
          (silent_left still_named refl (handle_value_leads (Some ex) m after_error) (λ v. refl)
          (silent_left (MaskedIn 0 ∷ []) refl (let_value_leads (Some y) m after_value) (λ v. refl)
          (rw (unused_y m, put_self y m) (value_from m d d' near))))
      after_use_from d d' near (Err q) =
          silent_left handled refl (oncancel_leads (Err q) r) (λ v. refl)
          (silent_left still_named refl (handle_error_leads (Some ex) q after_error) (λ v. refl)
          (rw (unused_ex q, put_self ex q) (error_from q d d' near)))

      -- the use, at a place as open as the bracket's
      abbrev uses : List Context
      uses = InUseIn k r ∷ []

      abbrev cleaned : List Context
      cleaned = MaskedIn 0 ∷ LetIn (Some y) after_value ∷ HandleIn (Some ex) after_error ∷ OnCancelIn r ∷ []

      abbrev polled : List Context
      polled = MaskedIn 0 ∷ LetIn (Some y) after_value ∷ HandleIn (Some ex) after_error ∷ OnCancelIn r ∷ OpenedIn 0 ∷ []

      must_both : (w : Done) (c c' : Counts) → c.known ≡ c'.known
          → must_cancel c.known (InUse k (Finished w) r) ≡ must_cancel c'.known (placed polled (Finished w))
      must_both w c c' e = ap (λ (b : Bool). must_cancel b (InUse k (Finished w) r)) e

      poll_ends : (w : Done) → LeadsSilently (placed polled (Finished w)) (placed cleaned (Finished w))
      poll_ends w = leads_placed cleaned (opened_leads 0 w)

      use_ends_to : (w : Done) (ls : List Label) (c c' d : Counts) (q : Progress) → AreShifted 0 1 c c' → Leads c (Runs (InUse k (Finished w) r)) ls d q
          → IsBlockedAt o d q → CanStop o c' (Runs (placed polled (Finished w))) (visible ls)
      use_ends_to w [] c c' d q near h b =
          absurd (let can = can_go (InTerm uses) (Finished w) (λ v. refl) c o 0 in
          let here : can_step o 0 c (Runs (InUse k (Finished w) r)) ≡ false = rw (h.0, h.1) at b.unable in cc)
      use_ends_to w (l ∷ ls) c c' d q near h b = by_step h.2 refl h.3 (λ e e' n g. use_ends_to w ls e e' d q n g b)
        where
          by_step : {x : Term} {m : Progress} {e : Counts} {l : Label} → Step c (Runs x) l e m → x ≡ InUse k (Finished w) r → Leads e m ls d q
              → ((e e' : Counts) → AreShifted 0 1 e e' → Leads e (Runs (InUse k (Finished w) r)) ls d q
              → CanStop o e' (Runs (placed polled (Finished w))) (visible ls))
              → CanStop o c' (Runs (placed polled (Finished w))) (visible (l ∷ ls))
          by_step {x} (cancelled m) at after more =
              let m' : must_cancel c'.known (placed polled (Finished w)) ≡ true =
              sym (must_both w c c' (same_known near)) ∙ ap (must_cancel c.known) (sym at) ∙ m in
              let go : Leads c (Unwinds (Release k r ∷ [])) ls d q = rw at at after in
              step_like o (Shows event.Cancelled) ls (cancelled m') refl (last_to c c' near ls d q go b)
          by_step {x} (seen free opened) at after more =
              let f : must_cancel c'.known (placed polled (Finished w)) ≡ false =
              sym (must_both w c c' (same_known near)) ∙ ap (must_cancel c.known) (sym at) ∙ free in
              let p : is_open (placed polled (Finished w)) ≡ true = ap is_open (sym at) ∙ opened in
              let go = subst (λ (z : Term). Leads (known_canceled c) (Runs z) ls d q) at after in
              step_like o (Shows event.Seen) ls (seen f p) refl (more (known_canceled c) (known_canceled c') (shifted_known c c' near) go)
          by_step {x} {e = e} {l = l} (row {t' = z} free h) at after more =
              let i = used_row k w r (subst (λ (v : Term). Row (not (is_open x)) c v l e z) at h) in
              let go : Leads c (Runs (InRelease k r w)) ls d q = rw (sym i.1, sym i.2) after in
              let start = silent_step (poll_ends w) (sym (must_both w c c' (same_known near)) ∙ ap (must_cancel c.known) (sym at) ∙ free) in
              rw i.0 (right_first o start refl (after_use_to c c' near w) ls d q go b)
          by_step (succeeds free) at after more = absurd cc
          by_step (errs free) at after more = absurd cc

      use_ends_from : (w : Done) (ls : List Label) (c c' d : Counts) (q : Progress) → AreShifted 1 0 c c' → Leads c (Runs (placed polled (Finished w))) ls d q
          → IsBlockedAt o d q → CanStop o c' (Runs (InUse k (Finished w) r)) (visible ls)
      use_ends_from w [] c c' d q near h b =
          absurd (let can = can_go (InTerm polled) (Finished w) (λ v. refl) c o 0 in
          let here : can_step o 0 c (Runs (placed polled (Finished w))) ≡ false = rw (h.0, h.1) at b.unable in cc)
      use_ends_from w (l ∷ ls) c c' d q near h b = by_step h.2 refl h.3 (λ e e' n g. use_ends_from w ls e e' d q n g b)
        where
          by_step : {x : Term} {m : Progress} {e : Counts} {l : Label} → Step c (Runs x) l e m → x ≡ placed polled (Finished w) → Leads e m ls d q
              → ((e e' : Counts) → AreShifted 1 0 e e' → Leads e (Runs (placed polled (Finished w))) ls d q
              → CanStop o e' (Runs (InUse k (Finished w) r)) (visible ls))
              → CanStop o c' (Runs (InUse k (Finished w) r)) (visible (l ∷ ls))
          by_step {x} (cancelled m) at after more =
              let m' : must_cancel c'.known (InUse k (Finished w) r) ≡ true =
              must_both w c' c (sym (same_known near)) ∙ ap (must_cancel c.known) (sym at) ∙ m in
              let go : Leads c (Unwinds (Finalizer r ∷ [])) ls d q = rw at at after in
              step_like o (Shows event.Cancelled) ls (cancelled m') refl (last_from c c' near ls d q go b)
          by_step {x} (seen free opened) at after more =
              let f : must_cancel c'.known (InUse k (Finished w) r) ≡ false =
              must_both w c' c (sym (same_known near)) ∙ ap (must_cancel c.known) (sym at) ∙ free in
              let p : is_open (InUse k (Finished w) r) ≡ true = ap is_open (sym at) ∙ opened in
              let go = subst (λ (z : Term). Leads (known_canceled c) (Runs z) ls d q) at after in
              step_like o (Shows event.Seen) ls (seen f p) refl (more (known_canceled c) (known_canceled c') (shifted_known c c' near) go)
          by_step {x} {e = e} {l = l} (row {t' = z} free h) at after more =
              let i = (poll_ends w).only (not (is_open x)) c e l z (subst (λ (v : Term). Row (not (is_open x)) c v l e z) at h) in
              let go : Leads c (Runs (placed cleaned (Finished w))) ls d q = rw (sym i.1, sym i.2) after in
              let free' : must_cancel c'.known (InUse k (Finished w) r) ≡ false =
              must_both w c' c (sym (same_known near)) ∙ ap (must_cancel c.known) (sym at) ∙ free in
              rw i.0 (right_first o (row free' rule.used) refl (after_use_from c c' near w) ls d q go b)
          by_step (succeeds free) at after more = absurd cc
          by_step (errs free) at after more = absurd cc

      pub use_to : (u : Term) → ((n m : ℕ) → Alike n m u u) → (c c' : Counts) → AreShifted 0 1 c c'
          → WaitsLike o c (Runs (placed uses u)) c' (Runs (placed polled u))
      use_to u same_u c c' near =
          alike_open_waits o 0 1 uses polled (Release k r ∷ []) (Finalizer r ∷ []) refl refl (λ xs. refl) (λ xs. refl) last_to
          (λ e e' n w ls d q h b. use_ends_to w ls e e' d q n h b) c c' u u near (same_u 0 1)

      pub use_from : (u : Term) → ((n m : ℕ) → Alike n m u u) → (c c' : Counts) → AreShifted 1 0 c c'
          → WaitsLike o c (Runs (placed polled u)) c' (Runs (placed uses u))
      use_from u same_u c c' near =
          alike_open_waits o 1 0 polled uses (Finalizer r ∷ []) (Release k r ∷ []) refl refl (λ xs. refl) (λ xs. refl) last_from
          (λ e e' n w ls d q h b. use_ends_from w ls e e' d q n h b) c c' u u near (same_u 1 0)

  module _ (x : Option ℕ) (y ex : ℕ) (a u r : Term) (same_a : (n m : ℕ) → Alike n m a a)
      (same_u : (k n m : ℕ) → Alike n m (put_named x k u) (put_named x k u)) (same_r : (k n m : ℕ) → Alike n m (put_named x k r) (put_named x k r))
      (unused_y : (k n : ℕ) → put y n (put_named x k r) ≡ put_named x k r) (unused_ex : (k n : ℕ) → put ex n (put_named x k r) ≡ put_named x k r)
      (rest_put : (k : ℕ) → put_named x k (rest y ex u r) ≡ rest y ex (put_named x k u) (put_named x k r)) where
    abbrev round_use : Term → List Context
    round_use r' =
        MaskedIn 0 ∷ LetIn (Some y) (Let None r' (Pure (Slot y))) ∷ HandleIn (Some ex) (Let None (Handle r' None (Pure (Number 0))) (Raise (Slot ex)))
        ∷ OnCancelIn r' ∷ []

    more_too : {low low' : ℕ} (d d' : Counts) → AreShifted low low' d d' → AreShifted low low' (one_more_acquired d) (one_more_acquired d')
    more_too d d' near = record { is = ap one_more_acquired near.is; region = near.region }

    in_use_to : (d d' : Counts) → AreShifted 0 1 d d' → (k : ℕ) → WaitsLike o (one_more_acquired d)
        (Runs (InUse d.acquired (put_named x k u) (put_named x k r))) d' (Runs (placed (round_use (put_named x k r)) (Opened 0 (put_named x k u))))
    in_use_to d d' near k =
        and_then
        (use_to y ex d.acquired (put_named x k r) (same_r k) (unused_y k) (unused_ex k) (put_named x k u) (same_u k) (one_more_acquired d)
        (one_more_acquired d') (more_too d d' near))
        (renumbered_waits (one_more_acquired d') d' (placed (round_use (put_named x k r)) (Opened 0 (put_named x k u))) (record { is = refl }))

    in_use_from : (d d' : Counts) → AreShifted 1 0 d d' → (k : ℕ)
        → WaitsLike o d (Runs (placed (round_use (put_named x k r)) (Opened 0 (put_named x k u)))) (one_more_acquired d')
        (Runs (InUse d'.acquired (put_named x k u) (put_named x k r)))
    in_use_from d d' near k =
        and_then
        (renumbered_waits d (one_more_acquired d) (placed (round_use (put_named x k r)) (Opened 0 (put_named x k u))) (record { is = refl }))
        (use_from y ex d'.acquired (put_named x k r) (same_r k) (unused_y k) (unused_ex k) (put_named x k u) (same_u k) (one_more_acquired d)
        (one_more_acquired d') (more_too d d' near))

    acquired_to : (d d' : Counts) → AreShifted 0 1 d d' → (w : Done)
        → WaitsLike o d (Runs (Bracket x (Finished w) u r)) d' (Runs (Masked 0 (Let x (Finished w) (rest y ex u r))))
    acquired_to d d' near (Err q) =
        never_waits o (silent_never [] refl (acquire_fails_leads x q u r) (λ v. refl) (result_never o (Err q) d))
    acquired_to d d' near (Val k) =
        left_first o (runs_only refl (only_acquired d x k u r)) (can_go (InTerm []) (Bracket x (Finished (Val k)) u r) (λ v. refl) d o 0) refl
        (silent_right (MaskedIn 0 ∷ []) refl (let_value_leads x k (rest y ex u r))
        (rw (rest_put k) (silent_right (round_use (put_named x k r)) refl (poll_leads 0 (put_named x k u)) (in_use_to d d' near k))))

    acquired_from : (d d' : Counts) → AreShifted 1 0 d d' → (w : Done)
        → WaitsLike o d (Runs (Masked 0 (Let x (Finished w) (rest y ex u r)))) d' (Runs (Bracket x (Finished w) u r))
    acquired_from d d' near (Err q) =
        never_waits o
        (silent_never (MaskedIn 0 ∷ []) refl (let_error_leads x q (rest y ex u r)) (λ v. refl)
        (silent_never [] refl (masked_leads 0 (Err q)) (λ v. refl) (result_never o (Err q) d)))
    acquired_from d d' near (Val k) =
        silent_left (MaskedIn 0 ∷ []) refl (let_value_leads x k (rest y ex u r)) (λ v. refl)
        (rw (rest_put k)
        (silent_left (round_use (put_named x k r)) refl (poll_leads 0 (put_named x k u)) (λ v. refl)
        (right_first o (runs_only refl (only_acquired d' x k u r)).step refl (in_use_from d d' near k))))

    abbrev acquires : List Context
    acquires = AcquireIn x u r ∷ []

    abbrev acquires_masked : List Context
    acquires_masked = MaskedIn 0 ∷ LetIn x (rest y ex u r) ∷ []

    beside_to : (d d' : Counts) → AreShifted 0 1 d d' → WaitsLike o d (Runs (Bracket x a u r)) d' (Runs (Masked 0 (Let x a (rest y ex u r))))
    beside_to d d' near =
        alike_waits o 0 1 (InTerm acquires) (InTerm acquires_masked)
        (λ t t' s. (left_sealed 0 1 acquires refl s, right_shut 0 1 0 acquires_masked refl (omega arith) s)) acquired_to d d' a a near (same_a 0 1)

    beside_from : (d d' : Counts) → AreShifted 1 0 d d' → WaitsLike o d (Runs (Masked 0 (Let x a (rest y ex u r)))) d' (Runs (Bracket x a u r))
    beside_from d d' near =
        alike_waits o 1 0 (InTerm acquires_masked) (InTerm acquires)
        (λ t t' s. (left_shut 1 0 0 acquires_masked refl (omega arith) s, right_sealed 1 0 acquires refl s)) acquired_from d d' a a near (same_a 1 0)

module _ (o : Outside) (scope : ℕ → Option NameKind) (p y ex : ℕ) (x : Option ℕ) (a u r : Term) (p_y : p ≢ y) (p_ex : p ≢ ex)
    (new : IsNew (without_names scope p y ex) x) (plain_a : IsPlain a) (plain_u : IsPlain u) (plain_r : IsPlain r)
    (scoped_a : IsScoped (without_names scope p y ex) a) (scoped_u : IsScoped (with_named x kind.Value (without_names scope p y ex)) u)
    (scoped_r : IsScoped (with_named x kind.Value (without_names scope p y ex)) r) (next end : ℕ) where
  abbrev body : Term
  body =
      Let x a
      (Let (Some y) (Handle (OnCancel (Poll (Slot p) u) r) (Some ex) (Let None (Handle r None (Pure (Number 0))) (Raise (Slot ex))))
      (Let None r (Pure (Slot y))))

  abbrev c : Counts
  c = counts_at 0 next end

  abbrev entered : Counts
  entered = counts_at 1 next end

  near : AreShifted 0 1 c entered
  near = record { is = refl; region = next_regions 0 1 }

  enters_mask : Step c (Runs (Mask p body)) Silent entered (Runs (Masked 0 (Let x a (rest y ex u r))))
  enters_mask =
      subst (λ (t : Term). Step c (Runs (Mask p body)) Silent entered (Runs (Masked 0 t)))
      (body_entered scope p y ex x a u r p_y p_ex new plain_a plain_u plain_r scoped_a scoped_u scoped_r) (row refl rule.mask)

  unused_y : (k n : ℕ) → put y n (put_named x k r) ≡ put_named x k r
  unused_y =
      unused_after x y (without_names scope p y ex) r (y_there scope p y ex x a u r p_y p_ex new plain_a plain_u plain_r scoped_a scoped_u scoped_r) new
      scoped_r

  unused_ex : (k n : ℕ) → put ex n (put_named x k r) ≡ put_named x k r
  unused_ex =
      unused_after x ex (without_names scope p y ex) r (ex_there scope p y ex x a u r p_y p_ex new plain_a plain_u plain_r scoped_a scoped_u scoped_r) new
      scoped_r

  rest_put : (k : ℕ) → put_named x k (rest y ex u r) ≡ rest y ex (put_named x k u) (put_named x k r)
  rest_put = rest_after x y ex u r (others scope p y ex x a u r p_y p_ex new plain_a plain_u plain_r scoped_a scoped_u scoped_r)

  alike_a : (n m : ℕ) → Alike n m a a
  alike_a n m = plain_alike n m (without_names scope p y ex) a plain_a scoped_a

  alike_after : (t : Term) → IsPlain t → IsScoped (with_named x kind.Value (without_names scope p y ex)) t → (k n m : ℕ)
      → Alike n m (put_named x k t) (put_named x k t)
  alike_after = same_after scope p y ex x a u r p_y p_ex new plain_a plain_u plain_r scoped_a scoped_u scoped_r

  pub bracket_masked_waits : WaitsLike o (counts_at 0 next end) (Runs (Bracket x a u r)) (counts_at 0 next end)
      (Runs (Mask p (Let x a
      (Let (Some y) (Handle (OnCancel (Poll (Slot p) u) r) (Some ex) (Let None (Handle r None (Pure (Number 0))) (Raise (Slot ex))))
      (Let None r (Pure (Slot y)))))))
  bracket_masked_waits =
      right_first o enters_mask refl
      (beside_to o x y ex a u r alike_a (alike_after u plain_u scoped_u) (alike_after r plain_r scoped_r) unused_y unused_ex rest_put c entered near)

  pub mask_bracketed_waits : WaitsLike o (counts_at 0 next end)
      (Runs (Mask p (Let x a
      (Let (Some y) (Handle (OnCancel (Poll (Slot p) u) r) (Some ex) (Let None (Handle r None (Pure (Number 0))) (Raise (Slot ex))))
      (Let None r (Pure (Slot y)))))))
      (counts_at 0 next end) (Runs (Bracket x a u r))
  mask_bracketed_waits =
      enters_first o [] p body refl refl refl c refl
      (rw (body_entered scope p y ex x a u r p_y p_ex new plain_a plain_u plain_r scoped_a scoped_u scoped_r)
      (beside_from o x y ex a u r alike_a (alike_after u plain_u scoped_u) (alike_after r plain_r scoped_r) unused_y unused_ex rest_put entered c
      (shifted_back near)))
