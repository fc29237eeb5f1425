-- Finalizers of a fiber that cancels itself wait where the same terms do in a mask before it.
use Rattle.std.proofs.Common.{◌≡◌, ℕ, Option, None, List, [], ◌∷◌, refl, subst, arith}
use Rattle.fx_term.specs.declared.node.Arg.TheVariants.{Number}
use Rattle.fx_term.specs.declared.done.Done.{Done}
use Rattle.fx_term.specs.declared.done.Done.TheVariants.{Val, Err}
use Rattle.fx_term.specs.declared.name_kind.NameKind.{NameKind}
use Rattle.fx_term.specs.declared.name_kind.NameKind.TheVariants as kind
use Rattle.fx_term.specs.Term.{Term, Pure, Canceled, Let, Handle, Mask, OnCancel, Finished, Masked, put}
use Rattle.fx_term.specs.Scope.{with_name, IsScoped}
use Rattle.fx_term.proofs.NameUses.{put_other_poll, name_is}
use Rattle.fx_model.specs.Path.{Finalizer, Context, LetIn, HandleIn, MaskedIn}
use Rattle.fx_model.specs.Row.{Counts, Label, Silent, one_more_mask}
use Rattle.fx_model.specs.Row as rule
use Rattle.fx_model.specs.Step.{Progress, Runs, CleansUp}
use Rattle.fx_model.specs.Step as step
use Rattle.fx_model.specs.MaskLaws.{IsPlain, forced_after}
use Rattle.fx_model.specs.Outside.{Outside}
use Rattle.fx_model.proofs.Alike.{next_regions, Alike, plain_alike}
use Rattle.fx_model.proofs.MaskEntering.{counts_at}
use Rattle.fx_laws.specs.Everywhere.{placed, InTerm, InCleanup}
use Rattle.fx_laws.proofs.AlikeFibers.{AreShifted, shifted_back}
use Rattle.fx_laws.proofs.Doomed.{must_forced}
use Rattle.fx_laws.proofs.Forced.{begins_finalizer, ends_finalizer, runs_only}
use Rattle.fx_laws.proofs.OnlyRows.{only_silent, only_placed}
use Rattle.fx_laws.proofs.Placed.{row_placed}
use Rattle.fx_laws.proofs.SilentRows.{pure_leads, let_value_leads, handle_value_leads, handle_error_leads}
use Rattle.fx_laws.proofs.StaysShut.{left_shut, right_shut}
use Rattle.fx_script_laws.proofs.AtClosedPlaces.{can_go}
use Rattle.fx_look_laws.proofs.Blocked.{forced_never, unwinds_never}
use Rattle.fx_look_laws.proofs.MaskedWaits.{both_never}
use Rattle.fx_look_laws.proofs.WaitsLike.{WaitsLike, never_waits, left_first, right_first, enters_first, alike_waits}

abbrev nothing : Term
nothing = Pure (Number 0)

-- what stands round the mask, and round what runs in it
abbrev outside : List Context
outside = LetIn None Canceled ∷ HandleIn None nothing ∷ []

abbrev in_mask : List Context
in_mask = LetIn None Canceled ∷ HandleIn None nothing ∷ MaskedIn 0 ∷ []

module _ (o : Outside) (f g : Term) (same_f : (n m : ℕ) → Alike n m f f) (same_g : (n m : ℕ) → Alike n m g g) where
  abbrev before_other : List Context
  before_other = LetIn None Canceled ∷ HandleIn None nothing ∷ MaskedIn 0 ∷ LetIn None g ∷ []

  abbrev first_in_mask : List Context
  first_in_mask = LetIn None Canceled ∷ HandleIn None nothing ∷ MaskedIn 0 ∷ LetIn None g ∷ HandleIn None nothing ∷ []

  -- the second of them
  second_to : (d d' : Counts) → AreShifted 0 1 d d' → WaitsLike o d (CleansUp None g []) d' (Runs (placed in_mask g))
  second_to d d' near =
      alike_waits o 0 1 (InCleanup None [] []) (InTerm in_mask) (λ t t' s. (tt, right_shut 0 1 0 in_mask refl (omega arith) s))
      (λ e e' n w. never_waits o (forced_never o (ends_finalizer e w []) refl (unwinds_never o e))) d d' g g near (same_g 0 1)

  second_from : (d d' : Counts) → AreShifted 1 0 d d' → WaitsLike o d (Runs (placed in_mask g)) d' (CleansUp None g [])
  second_from d d' near =
      alike_waits o 1 0 (InTerm in_mask) (InCleanup None [] []) (λ t t' s. (left_shut 1 0 0 in_mask refl (omega arith) s, tt))
      (λ e e' n w. never_waits o (both_never o 0 w e)) d d' g g near (same_g 1 0)

  -- after the first of them
  value_to : (d d' : Counts) (k : ℕ) → AreShifted 0 1 d d' → WaitsLike o d (CleansUp None g []) d' (Runs (placed in_mask (Let None (Finished (Val k)) g)))
  value_to d d' k near = right_first o (runs_only refl (only_placed in_mask (only_silent d' (let_value_leads None k g)))).step refl (second_to d d' near)

  value_from : (d d' : Counts) (k : ℕ) → AreShifted 1 0 d d'
      → WaitsLike o d (Runs (placed in_mask (Let None (Finished (Val k)) g))) d' (CleansUp None g [])
  value_from d d' k near =
      left_first o (runs_only refl (only_placed in_mask (only_silent d (let_value_leads None k g))))
      (can_go (InTerm in_mask) (Let None (Finished (Val k)) g) (λ v. refl) d o 0) refl (second_from d d' near)

  ends_to_so : (d d' : Counts) (w : Done) → AreShifted 0 1 d d'
      → WaitsLike o d (CleansUp None g []) d' (Runs (placed first_in_mask (Finished w)))
  ends_to_so d d' (Val k) near =
      right_first o (runs_only refl (only_placed before_other (only_silent d' (handle_value_leads None k nothing)))).step refl (value_to d d' k near)
  ends_to_so d d' (Err k) near =
      right_first o (runs_only refl (only_placed before_other (only_silent d' (handle_error_leads None k nothing)))).step refl
      (right_first o (runs_only refl (only_placed before_other (only_silent d' (pure_leads 0)))).step refl (value_to d d' 0 near))

  ends_from_so : (d d' : Counts) (w : Done) → AreShifted 1 0 d d'
      → WaitsLike o d (Runs (placed first_in_mask (Finished w))) d' (CleansUp None g [])
  ends_from_so d d' (Val k) near =
      left_first o (runs_only refl (only_placed before_other (only_silent d (handle_value_leads None k nothing))))
      (can_go (InTerm before_other) (Handle (Finished (Val k)) None nothing) (λ v. refl) d o 0) refl (value_from d d' k near)
  ends_from_so d d' (Err k) near =
      left_first o (runs_only refl (only_placed before_other (only_silent d (handle_error_leads None k nothing))))
      (can_go (InTerm before_other) (Handle (Finished (Err k)) None nothing) (λ v. refl) d o 0) refl
      (left_first o (runs_only refl (only_placed before_other (only_silent d (pure_leads 0)))) (can_go (InTerm before_other) nothing (λ v. refl) d o 0) refl
      (value_from d d' 0 near))

  ends_to : (d d' : Counts) → AreShifted 0 1 d d' → (w : Done)
      → WaitsLike o d (CleansUp None (Finished w) (Finalizer g ∷ [])) d' (Runs (placed first_in_mask (Finished w)))
  ends_to d d' near w =
      left_first o (ends_finalizer d w (Finalizer g ∷ [])) refl refl (left_first o (begins_finalizer d g []) refl refl (ends_to_so d d' w near))

  ends_from : (d d' : Counts) → AreShifted 1 0 d d' → (w : Done)
      → WaitsLike o d (Runs (placed first_in_mask (Finished w))) d' (CleansUp None (Finished w) (Finalizer g ∷ []))
  ends_from d d' near w =
      right_first o (ends_finalizer d' w (Finalizer g ∷ [])).step refl (right_first o (begins_finalizer d' g []).step refl (ends_from_so d d' w near))

  -- the first of them
  first_to : (d d' : Counts) → AreShifted 0 1 d d' → WaitsLike o d (CleansUp None f (Finalizer g ∷ [])) d' (Runs (placed first_in_mask f))
  first_to d d' near =
      alike_waits o 0 1 (InCleanup None (Finalizer g ∷ []) []) (InTerm first_in_mask)
      (λ t t' s. (tt, right_shut 0 1 0 first_in_mask refl (omega arith) s)) (λ e e' n w. ends_to e e' n w) d d' f f near (same_f 0 1)

  first_from : (d d' : Counts) → AreShifted 1 0 d d' → WaitsLike o d (Runs (placed first_in_mask f)) d' (CleansUp None f (Finalizer g ∷ []))
  first_from d d' near =
      alike_waits o 1 0 (InTerm first_in_mask) (InCleanup None (Finalizer g ∷ []) [])
      (λ t t' s. (left_shut 1 0 0 first_in_mask refl (omega arith) s, tt)) (λ e e' n w. ends_from e e' n w) d d' f f near (same_f 1 0)

  module _ (p : ℕ) (unused_f : (n : ℕ) → put p n f ≡ f) (unused_g : (n : ℕ) → put p n g ≡ g) (next end : ℕ) where
    abbrev c : Counts
    c = counts_at 0 next end

    abbrev entered : Counts
    entered = counts_at 1 next end

    abbrev bare : Term
    bare = OnCancel (OnCancel Canceled f) g

    abbrev whole : Term
    whole = forced_after (Mask p (forced_after f g)) Canceled

    near : AreShifted 0 1 c entered
    near = record { is = refl; region = next_regions 0 1 }

    enters_mask : step.Step c (Runs whole) Silent entered (Runs (placed first_in_mask f))
    enters_mask =
        subst (λ (x : Term). step.Step c (Runs whole) Silent entered (Runs (placed outside (Masked 0 x))))
        (let e = unused_f 0 in let e' = unused_g 0 in rw (e, e') refl) (step.row refl (row_placed outside rule.mask))

    pub masked_waits : WaitsLike o c (Runs bare) c (Runs whole)
    masked_waits =
        right_first o enters_mask refl
        (left_first o (must_forced c bare refl) refl refl (left_first o (begins_finalizer c f (Finalizer g ∷ [])) refl refl (first_to c entered near)))

    pub finalized_waits : WaitsLike o c (Runs whole) c (Runs bare)
    finalized_waits =
        enters_first o outside p (forced_after f g) refl refl refl c refl
        (rw (unused_f 0, unused_g 0)
        (right_first o (must_forced c bare refl).step refl
        (right_first o (begins_finalizer c f (Finalizer g ∷ [])).step refl (first_from entered c (shifted_back near)))))

module _ (o : Outside) (scope : ℕ → Option NameKind) (p : ℕ) (f g : Term) (plain_f : IsPlain f) (plain_g : IsPlain g)
    (scoped_f : IsScoped (with_name p kind.OtherPoll scope) f) (scoped_g : IsScoped (with_name p kind.OtherPoll scope) g) (next end : ℕ) where
  abbrev under : ℕ → Option NameKind
  under = with_name p kind.OtherPoll scope

  unused : (t : Term) → IsScoped under t → (n : ℕ) → put p n t ≡ t
  unused t scoped = put_other_poll p under t (name_is p kind.OtherPoll scope) scoped

  pub order_masked_waits : WaitsLike o (counts_at 0 next end) (Runs (OnCancel (OnCancel Canceled f) g)) (counts_at 0 next end)
      (Runs (forced_after (Mask p (forced_after f g)) Canceled))
  order_masked_waits =
      masked_waits o f g (λ n m. plain_alike n m under f plain_f scoped_f) (λ n m. plain_alike n m under g plain_g scoped_g) p (unused f scoped_f)
      (unused g scoped_g) next end

  pub order_finalized_waits : WaitsLike o (counts_at 0 next end) (Runs (forced_after (Mask p (forced_after f g)) Canceled)) (counts_at 0 next end)
      (Runs (OnCancel (OnCancel Canceled f) g))
  order_finalized_waits =
      finalized_waits o f g (λ n m. plain_alike n m under f plain_f scoped_f) (λ n m. plain_alike n m under g plain_g scoped_g) p (unused f scoped_f)
      (unused g scoped_g) next end
