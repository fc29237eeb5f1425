-- A fiber that cancels itself first in a mask waits there where one does that cancels itself after it.
use Rattle.std.proofs.Common.{◌≡◌, ℕ, ◌+◌, Bool, true, false, Option, None, [], ◌∷◌, refl, sym, ap, subst, arith}
use Rattle.fx_term.specs.declared.done.Done.{Done}
use Rattle.fx_term.specs.declared.done.Done.TheVariants.{Val, Err}
use Rattle.fx_term.specs.declared.name_kind.NameKind.{NameKind}
use Rattle.fx_term.specs.declared.name_kind.NameKind.TheVariants as kind
use Rattle.fx_term.specs.declared.event.Event.TheVariants as event
use Rattle.fx_term.specs.Scope.{with_name, IsScoped}
use Rattle.fx_term.specs.Term.{Term, Canceled, Let, Mask, Finished, Masked, put}
use Rattle.fx_term.proofs.NameUses.{put_other_poll, name_is}
use Rattle.fx_model.specs.Path.{LetIn, MaskedIn, leaf, must_cancel}
use Rattle.fx_model.specs.Row.{Counts, Label, Silent, Shows, Learns, Starts, Row, known_canceled, one_more_mask}
use Rattle.fx_model.specs.Row as rule
use Rattle.fx_model.specs.Step.{Progress, Runs, Unwinds, HasEnded, Step, has_ended}
use Rattle.fx_model.specs.Step as step
use Rattle.fx_model.specs.MaskLaws.{IsPlain, forced_after}
use Rattle.fx_model.specs.Outside.{Outside, leaf_can_step}
use Rattle.fx_model.proofs.Alike.{Alike, plain_alike}
use Rattle.fx_laws.specs.Everywhere.{placed, InTerm}
use Rattle.fx_laws.proofs.CanceledInMask.{IsApart, FirstKnows, SecondKnows, first_rows, second_rows, outside, in_both, in_one, nothing, one_shut, both_shut}
use Rattle.fx_laws.proofs.CanceledInMask.{apart}
use Rattle.fx_laws.proofs.Forced.{IsForced, runs_only}
use Rattle.fx_laws.proofs.OnlyRows.{only_silent, only_self_request, only_placed}
use Rattle.fx_laws.proofs.Placed.{row_placed}
use Rattle.fx_laws.proofs.Shut.{running, IsClosedThere}
use Rattle.fx_laws.proofs.SilentRows.{let_value_leads, handle_value_leads, handle_error_leads, masked_leads, pure_leads, leads_placed}
use Rattle.fx_script_laws.proofs.AtClosedPlaces.{can_go}
use Rattle.fx_look_laws.proofs.Blocked.{IsNeverBlocked, forced_never, must_never, open_never}
use Rattle.fx_look_laws.proofs.WaitsLike.{WaitsLike, never_waits, left_first, right_first, enters_first, shut_waits}

module _ (o : Outside) where
  -- after the mask comes cancellation
  canceled_never : (c : Counts) → IsNeverBlocked o c (Runs Canceled)
  canceled_never c = must_never o c Canceled (by_known c.known) refl
    where
      by_known : (b : Bool) → must_cancel b Canceled ≡ true
      by_known true = refl
      by_known false = refl

  value_never : (n : ℕ) (c : Counts) → IsNeverBlocked o c (Runs (Let None (Finished (Val n)) Canceled))
  value_never n = open_never o (Let None (Finished (Val n)) Canceled) Canceled (let_value_leads None n Canceled) refl refl (λ v. refl) canceled_never

  pub result_never : (w : Done) (c : Counts) → IsNeverBlocked o c (Runs (placed outside (Finished w)))
  result_never (Val n) =
      open_never o (placed outside (Finished (Val n))) (Let None (Finished (Val n)) Canceled)
      (leads_placed (LetIn None Canceled ∷ []) (handle_value_leads None n nothing)) refl refl (λ v. refl) (value_never n)
  result_never (Err n) =
      open_never o (placed outside (Finished (Err n))) (Let None nothing Canceled)
      (leads_placed (LetIn None Canceled ∷ []) (handle_error_leads None n nothing)) refl refl (λ v. refl)
      (open_never o (Let None nothing Canceled) (Let None (Finished (Val 0)) Canceled) (leads_placed (LetIn None Canceled ∷ []) (pure_leads 0)) refl refl
      (λ v. refl) (value_never 0))

  pub both_never : (n : ℕ) (w : Done) (c : Counts) → IsNeverBlocked o c (Runs (placed (in_both n) (Finished w)))
  both_never n w c = forced_never o (runs_only refl (only_placed outside (only_silent c (masked_leads n w)))) refl (result_never w c)

  one_never : (n : ℕ) (w : Done) (c : Counts) → c.known ≡ true → IsNeverBlocked o c (Runs (placed (in_one n) (Finished w)))
  one_never n w c known =
      forced_never o (runs_only refl (only_silent c (masked_leads n w))) refl
      (must_never o c (Finished w) (let k = known in rw k refl) refl)

  module _ (scope : ℕ → Option NameKind) (p : ℕ) (a : Term) (plain : IsPlain a) (scoped : IsScoped (with_name p kind.OtherPoll scope) a) (c : Counts)
      (unknown : c.known ≡ false) where
    abbrev n : ℕ
    n = c.masks

    unused : put p n a ≡ a
    unused = put_other_poll p (with_name p kind.OtherPoll scope) a (name_is p kind.OtherPoll scope) scoped n

    abbrev first : Term
    first = Mask p (Let None Canceled a)

    abbrev second : Term
    second = forced_after (Mask p a) Canceled

    alike : Alike (n + 1) (n + 1) a a
    alike = plain_alike (n + 1) (n + 1) (with_name p kind.OtherPoll scope) a plain scoped

    same : IsApart (n + 1) a a
    same = apart n a alike

    abbrev entered : Counts
    entered = one_more_mask c

    in_first : WaitsLike o (known_canceled entered) (running (in_one n) a) entered (running (in_both n) a)
    in_first ls d q h b =
        shut_waits o (FirstKnows (n + 1)) (IsApart (n + 1)) (first_rows (n + 1)) (λ w t' s. sym s.is)
        (λ t t' s. ap (λ (y : Term). leaf_can_step o (leaf y)) s.is) (InTerm (in_one n)) (InTerm (in_both n))
        (λ t t' s. (one_shut n a alike t t' s, subst (λ (y : Term). IsClosedThere (in_both n) y) s.is (both_shut n a alike t t' s)))
        (λ e e' near w. never_waits o (one_never n w e (ap (λ (x : Counts). x.known) near.first))) ls (known_canceled entered) entered d q a a
        (record { first = refl; below = omega arith }) same h b

    in_second : WaitsLike o entered (running (in_both n) a) (known_canceled entered) (running (in_one n) a)
    in_second ls d q h b =
        shut_waits o (SecondKnows (n + 1)) (IsApart (n + 1)) (second_rows (n + 1)) (λ w t' s. sym s.is)
        (λ t t' s. ap (λ (y : Term). leaf_can_step o (leaf y)) s.is) (InTerm (in_both n)) (InTerm (in_one n))
        (λ t t' s. (both_shut n a alike t t' s, subst (λ (y : Term). IsClosedThere (in_one n) y) s.is (one_shut n a alike t t' s)))
        (λ e e' near w. never_waits o (both_never n w e)) ls entered (known_canceled entered) d q a a (record { second = refl; below = omega arith }) same h b

    abbrev k : Counts
    k = known_canceled entered

    requests : IsForced entered (Runs (Masked n (Let None Canceled a))) (Shows event.SelfRequest) k (Runs (Masked n (Let None (Finished (Val 0)) a)))
    requests = runs_only refl (only_placed (MaskedIn n ∷ LetIn None a ∷ []) (only_self_request entered))

    goes_on : IsForced k (Runs (Masked n (Let None (Finished (Val 0)) a))) Silent k (running (in_one n) a)
    goes_on = runs_only refl (only_placed (in_one n) (only_silent k (let_value_leads None 0 a)))

    masks_first : Step c (Runs first) Silent entered (Runs (Masked n (Let None Canceled a)))
    masks_first =
        subst (λ (x : Term). Step c (Runs first) Silent entered (Runs (Masked n (Let None Canceled x)))) unused (step.row (rw unknown refl) rule.mask)

    masks_second : Step c (Runs second) Silent entered (running (in_both n) a)
    masks_second =
        subst (λ (x : Term). Step c (Runs second) Silent entered (running (in_both n) x)) unused (step.row (rw unknown refl) (row_placed outside rule.mask))

    pub waits_second : WaitsLike o c (Runs first) c (Runs second)
    waits_second =
        enters_first o [] p (Let None Canceled a) refl refl refl c unknown
        (rw unused
        (right_first o masks_second refl
        (left_first o requests (can_go (InTerm (MaskedIn n ∷ LetIn None a ∷ [])) Canceled (λ v. refl) entered o 0) refl
        (left_first o goes_on (can_go (InTerm (MaskedIn n ∷ LetIn None a ∷ [])) (Finished (Val 0)) (λ v. refl) k o 0) refl in_first))))

    pub waits_first : WaitsLike o c (Runs second) c (Runs first)
    waits_first =
        enters_first o outside p a refl refl refl c unknown
        (rw unused (right_first o masks_first refl (right_first o requests.step refl (right_first o goes_on.step refl in_second))))
