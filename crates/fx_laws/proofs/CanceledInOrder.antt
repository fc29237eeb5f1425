-- Finalizers of a fiber that cancels itself, and the same terms in a mask before it does.
use Rattle.std.proofs.Common.{◌≡◌, ℕ, ◌+◌, Option, None, List, [], ◌∷◌, refl, sym, subst, arith}
use Rattle.fx_term.specs.declared.node.Arg.TheVariants.{Number}
use Rattle.fx_term.specs.declared.done.Done.{Done}
use Rattle.fx_term.specs.declared.done.Done.TheVariants.{Val, Err}
use Rattle.fx_term.specs.declared.name_kind.NameKind.{NameKind}
use Rattle.fx_term.specs.declared.name_kind.NameKind.TheVariants as kind
use Rattle.fx_term.specs.Term.{Term, Pure, Canceled, Let, Mask, OnCancel, Finished, Masked, put}
use Rattle.fx_term.specs.Scope.{with_name, IsScoped}
use Rattle.fx_term.proofs.NameUses.{put_other_poll, name_is}
use Rattle.fx_model.specs.Path.{Finalizer, Context, LetIn, HandleIn, MaskedIn}
use Rattle.fx_model.specs.Row.{Counts, Label}
use Rattle.fx_model.specs.Step.{Runs, CleansUp}
use Rattle.fx_model.specs.MaskLaws.{IsPlain, forced_after}
use Rattle.fx_model.proofs.Alike.{next_regions, Alike, plain_alike}
use Rattle.fx_model.proofs.MaskEntering.{counts_at}
use Rattle.fx_laws.specs.Everywhere.{placed}
use Rattle.fx_laws.specs.Others.{OthersCanSee, IsCanceledAlone, LookTheSameUnlessCanceledAlone, LooksLikeAllOf}
use Rattle.fx_laws.proofs.Views.{IsMatched}
use Rattle.fx_laws.proofs.SilentRows.{pure_leads, let_value_leads, handle_value_leads, handle_error_leads, masked_leads}
use Rattle.fx_laws.proofs.Forced.{AreMatched, hidden_left, silent_left, silent_right, begins_finalizer, ends_finalizer, runs_only}
use Rattle.fx_laws.proofs.OnlyRows.{only_silent, only_placed}
use Rattle.fx_laws.proofs.Shut.{cleaning, Always, cleanup_is_shut, running, IsClosedThere, run_is_shut}
use Rattle.fx_laws.proofs.StaysShut.{left_shut, right_shut}
use Rattle.fx_laws.proofs.AlikeFibers.{AreShifted, shut_both}
use Rattle.fx_laws.proofs.Looking.{looking, can_see}
use Rattle.fx_laws.proofs.Doomed.{must_forced, forced_doomed}
use Rattle.fx_laws.proofs.MaskStarts.{sees_inside, sees_no_more}

abbrev nothing : Term
nothing = Pure (Number 0)

-- what stands round the mask, and round what runs in it
abbrev outside : List Context
outside = LetIn None Canceled ∷ HandleIn None nothing ∷ []

abbrev in_mask : ℕ → List Context
in_mask n = LetIn None Canceled ∷ HandleIn None nothing ∷ MaskedIn n ∷ []

module _ (f g : Term) (same_f : (n m : ℕ) → Alike n m f f) (same_g : (n m : ℕ) → Alike n m g g) where
  abbrev before_other : ℕ → List Context
  before_other n = LetIn None Canceled ∷ HandleIn None nothing ∷ MaskedIn n ∷ LetIn None g ∷ []

  abbrev first_in_mask : ℕ → List Context
  first_in_mask n = LetIn None Canceled ∷ HandleIn None nothing ∷ MaskedIn n ∷ LetIn None g ∷ HandleIn None nothing ∷ []

  second_ends : (n : ℕ) (d d' : Counts) (w : Done) → AreMatched looking d (CleansUp None (Finished w) []) d' (Runs (placed (in_mask n) (Finished w)))
  second_ends n d d' w =
      silent_left looking (ends_finalizer d w [])
      (silent_right looking (runs_only refl (only_placed outside (only_silent d' (masked_leads n w)))) (forced_doomed w d d'))

  second : (n : ℕ) (d d' : Counts) → AreShifted n (n + 1) d d' → AreMatched looking d (CleansUp None g []) d' (Runs (placed (in_mask n) g))
  second n d d' near =
      shut_both looking n (n + 1) (cleaning None [] []) (running (in_mask n)) Always (IsClosedThere (in_mask n)) (cleanup_is_shut None [] [])
      (run_is_shut (in_mask n)) (λ t t' s. (tt, right_shut n (n + 1) n (in_mask n) refl (omega arith) s))
      (λ t t' s. (left_shut (n + 1) n n (in_mask n) refl (omega arith) s, tt)) (λ e e' k w. second_ends n e e' w) d d' g near same_g

  value_ends : (n : ℕ) (d d' : Counts) (k : ℕ) → AreShifted n (n + 1) d d'
      → AreMatched looking d (CleansUp None g []) d' (Runs (placed (in_mask n) (Let None (Finished (Val k)) g)))
  value_ends n d d' k near =
      silent_right looking (runs_only refl (only_placed (in_mask n) (only_silent d' (let_value_leads None k g)))) (second n d d' near)

  first_ends_so : (n : ℕ) (d d' : Counts) (w : Done) → AreShifted n (n + 1) d d'
      → AreMatched looking d (CleansUp None g []) d' (Runs (placed (first_in_mask n) (Finished w)))
  first_ends_so n d d' (Val k) near =
      silent_right looking (runs_only refl (only_placed (before_other n) (only_silent d' (handle_value_leads None k nothing)))) (value_ends n d d' k near)
  first_ends_so n d d' (Err k) near =
      silent_right looking (runs_only refl (only_placed (before_other n) (only_silent d' (handle_error_leads None k nothing))))
      (silent_right looking (runs_only refl (only_placed (before_other n) (only_silent d' (pure_leads 0)))) (value_ends n d d' 0 near))

  first_ends : (n : ℕ) (d d' : Counts) → AreShifted n (n + 1) d d' → (w : Done)
      → AreMatched looking d (CleansUp None (Finished w) (Finalizer g ∷ [])) d' (Runs (placed (first_in_mask n) (Finished w)))
  first_ends n d d' near w =
      silent_left looking (ends_finalizer d w (Finalizer g ∷ [])) (silent_left looking (begins_finalizer d g []) (first_ends_so n d d' w near))

  first : (n : ℕ) (d d' : Counts) → AreShifted n (n + 1) d d'
      → AreMatched looking d (CleansUp None f (Finalizer g ∷ [])) d' (Runs (placed (first_in_mask n) f))
  first n d d' near =
      shut_both looking n (n + 1) (cleaning None [] (Finalizer g ∷ [])) (running (first_in_mask n)) Always (IsClosedThere (first_in_mask n))
      (cleanup_is_shut None [] (Finalizer g ∷ [])) (run_is_shut (first_in_mask n))
      (λ t t' s. (tt, right_shut n (n + 1) n (first_in_mask n) refl (omega arith) s))
      (λ t t' s. (left_shut (n + 1) n n (first_in_mask n) refl (omega arith) s, tt)) (λ e e' k w. first_ends n e e' k w) d d' f near same_f

  -- the fiber has canceled itself, and the other has entered its mask
  canceled_beside : (next end : ℕ) → AreMatched looking (counts_at 0 next end) (Runs (OnCancel (OnCancel Canceled f) g)) (counts_at 1 next end)
      (Runs (placed (in_mask 0) (forced_after f g)))
  canceled_beside next end =
      let c = counts_at 0 next end in
      let d = counts_at 1 next end in
      hidden_left looking refl (must_forced c (OnCancel (OnCancel Canceled f) g) refl)
      (silent_left looking (begins_finalizer c f (Finalizer g ∷ [])) (first 0 c d (record { is = refl; region = next_regions 0 1 })))

  module _ (p : ℕ) (unused_f : (n : ℕ) → put p n f ≡ f) (unused_g : (n : ℕ) → put p n g ≡ g) (next end : ℕ) where
    abbrev c : Counts
    c = counts_at 0 next end

    entered : AreMatched looking c (Runs (OnCancel (OnCancel Canceled f) g)) (counts_at 1 next end)
        (Runs (placed outside (Masked 0 (put p 0 (forced_after f g)))))
    entered = rw (unused_f 0, unused_g 0) (canceled_beside next end)

    pub all_seen : IsMatched looking c (Runs (OnCancel (OnCancel Canceled f) g)) c (Runs (forced_after (Mask p (forced_after f g)) Canceled))
    all_seen = sees_inside outside p (forced_after f g) c refl refl refl entered.0

    pub no_more_seen : (ls : List Label) → (IsCanceledAlone ls → ⊥)
        → OthersCanSee (record { term = forced_after (Mask p (forced_after f g)) Canceled; next = next; end = end }) ls
        → OthersCanSee (record { term = OnCancel (OnCancel Canceled f) g; next = next; end = end }) ls
    no_more_seen ls other h =
        let other' = subst (λ (ms : List Label). IsCanceledAlone ms → ⊥) (sym h.visible_is) other in
        can_see h.visible_is
        (sees_no_more outside p (forced_after f g) c refl refl refl c (Runs (OnCancel (OnCancel Canceled f) g)) entered.1 h.labels h.counts h.progress h.run
        other')

module _ (scope : ℕ → Option NameKind) (p : ℕ) (f g : Term) (plain_f : IsPlain f) (plain_g : IsPlain g)
    (scoped_f : IsScoped (with_name p kind.OtherPoll scope) f) (scoped_g : IsScoped (with_name p kind.OtherPoll scope) g) where
  abbrev under : ℕ → Option NameKind
  under = with_name p kind.OtherPoll scope

  alike_f : (n m : ℕ) → Alike n m f f
  alike_f n m = plain_alike n m under f plain_f scoped_f

  alike_g : (n m : ℕ) → Alike n m g g
  alike_g n m = plain_alike n m under g plain_g scoped_g

  unused_f : (n : ℕ) → put p n f ≡ f
  unused_f = put_other_poll p under f (name_is p kind.OtherPoll scope) scoped_f

  unused_g : (n : ℕ) → put p n g ≡ g
  unused_g = put_other_poll p under g (name_is p kind.OtherPoll scope) scoped_g

  pub in_order_looks_like_all : LooksLikeAllOf (forced_after (Mask p (forced_after f g)) Canceled) (OnCancel (OnCancel Canceled f) g)
  in_order_looks_like_all next end ls h =
      can_see h.visible_is (all_seen f g alike_f alike_g p unused_f unused_g next end h.labels h.counts h.progress h.run)

  pub in_order_looks_the_same : LookTheSameUnlessCanceledAlone (OnCancel (OnCancel Canceled f) g) (forced_after (Mask p (forced_after f g)) Canceled)
  in_order_looks_the_same next end ls other =
      (in_order_looks_like_all next end ls, no_more_seen f g alike_f alike_g p unused_f unused_g next end ls other)
