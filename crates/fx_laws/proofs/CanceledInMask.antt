-- A fiber that cancels itself first in a mask, and one that does after it.
use Rattle.std.proofs.Common.{◌≡◌, ℕ, ◌+◌, ◌≤◌, Bool, true, false, not, Option, None, List, [], ◌∷◌, refl, sym, ◌∙◌, ap, subst, arith}
use Rattle.fx_term.specs.declared.node.Arg.TheVariants.{Number}
use Rattle.fx_term.specs.declared.done.Done.{Done}
use Rattle.fx_term.specs.declared.name_kind.NameKind.{NameKind}
use Rattle.fx_term.specs.declared.name_kind.NameKind.TheVariants as kind
use Rattle.fx_term.specs.Term.{Term, Pure, Canceled, Let, Mask, Finished, Masked, put}
use Rattle.fx_term.specs.Scope.{with_name, IsScoped}
use Rattle.fx_term.proofs.NameUses.{put_other_poll, name_is}
use Rattle.fx_model.specs.Path.{Context, LetIn, HandleIn, MaskedIn, is_open, must_cancel}
use Rattle.fx_model.specs.Row.{Counts, Label, Silent, Shows, known_canceled, one_more_mask, Row}
use Rattle.fx_model.specs.Row as rule
use Rattle.fx_model.specs.Step.{Progress, Runs, row}
use Rattle.fx_model.specs.Run.{Leads}
use Rattle.fx_model.specs.MaskLaws.{IsPlain, forced_after}
use Rattle.fx_model.proofs.Alike.{IsSameRegion, Alike, plain_alike}
use Rattle.fx_model.proofs.AlikeRows.{row_alike}
use Rattle.fx_laws.specs.Everywhere.{placed}
use Rattle.fx_laws.specs.Others.{LookTheSame}
use Rattle.fx_laws.proofs.Placed.{result_placed, row_placed}
use Rattle.fx_laws.proofs.Views.{HasRun, IsMatched, itself, silent_first, and_then}
use Rattle.fx_laws.proofs.SamePlaces.{Moves, by_row, by_end, MatchesMoves, whole_matched}
use Rattle.fx_laws.proofs.SilentRows.{let_value_leads, masked_leads}
use Rattle.fx_laws.proofs.Inside.{RowIsFollowed}
use Rattle.fx_laws.proofs.Forced.{AreMatched, hidden_left, silent_left, silent_right, runs_only}
use Rattle.fx_laws.proofs.OnlyRows.{only_silent, only_self_request, only_placed, mask_row_placed}
use Rattle.fx_laws.proofs.Shut.{running, IsClosedThere, run_is_shut, shut_matched}
use Rattle.fx_laws.proofs.StaysShut.{left_shut}
use Rattle.fx_laws.proofs.KnownRows.{with_known, row_known}
use Rattle.fx_laws.proofs.Looking.{looking, can_see}
use Rattle.fx_laws.proofs.Doomed.{known_doomed, forced_doomed}

-- a term that has no number of a region below this one
pub record IsApart (low : ℕ) (t t' : Term) : Type 0 where
  pub is : t ≡ t'
  pub twin : Term
  pub alike : Alike low low t twin

module _ (low : ℕ) where
  -- the counts are the same, but that the first fiber is known to be canceled; and the other way round
  pub record FirstKnows (c c' : Counts) : Type 0 where
    pub first : c ≡ known_canceled c'
    pub below : low ≤ c.masks

  pub record SecondKnows (c c' : Counts) : Type 0 where
    pub second : c' ≡ known_canceled c
    pub below : low ≤ c.masks

  apart_results : (w : Done) (t' : Term) → IsApart low (Finished w) t' → t' ≡ Finished w
  apart_results w t' s = sym s.is

  here : (m : ℕ) → low ≤ m → IsSameRegion low low m m
  here m h = record { from = h; from' = h; shift = refl }

  apart_after : {k : Bool} {c d : Counts} {l : Label} {t t' u : Term} → low ≤ c.masks → IsApart low t t' → Row k c t l d u → IsApart low u u × (low ≤ d.masks)
  apart_after {c = c} below s r =
      let f = row_alike low low r s.alike (here c.masks below) in (record { is = refl; twin = f.term; alike = f.is_alike }, f.entered.from)

  pub first_rows : (k : Bool) (c c' d : Counts) (l : Label) (t t' u : Term) → FirstKnows c c' → IsApart low t t' → Row k c t l d u
      → RowIsFollowed looking FirstKnows (IsApart low) k c' t' l d u
  first_rows k c c' d l t t' u near same r =
      let after = apart_after near.below same r in
      let too = row_known c'.known r in
      let back : with_known c'.known c ≡ c' = ap (with_known c'.known) near.first in
      let known : c.known ≡ true = ap (λ (e : Counts). e.known) near.first in
      let r1 : Row k c' t l (with_known too.known d) u = subst (λ (e : Counts). Row k e t l (with_known too.known d) u) back too.row in
      record {
        label = l;
        counts = with_known too.known d;
        term = u;
        row = subst (λ (y : Term). Row k c' y l (with_known too.known d) u) same.is r1;
        seen_is = refl;
        near = record { first = ap (λ (b : Bool). with_known b d) (too.kept known); below = after.1 };
        same = after.0;
      }

  pub second_rows : (k : Bool) (c c' d : Counts) (l : Label) (t t' u : Term) → SecondKnows c c' → IsApart low t t' → Row k c t l d u
      → RowIsFollowed looking SecondKnows (IsApart low) k c' t' l d u
  second_rows k c c' d l t t' u near same r =
      let after = apart_after near.below same r in
      let too = row_known true r in
      let r1 : Row k c' t l (with_known too.known d) u = subst (λ (e : Counts). Row k e t l (with_known too.known d) u) (sym near.second) too.row in
      record {
        label = l;
        counts = with_known too.known d;
        term = u;
        row = subst (λ (y : Term). Row k c' y l (with_known too.known d) u) same.is r1;
        seen_is = refl;
        near = record { second = ap (λ (b : Bool). with_known b d) (too.stays refl); below = after.1 };
        same = after.0;
      }

abbrev pub nothing : Term
nothing = Pure (Number 0)

abbrev pub outside : List Context
outside = LetIn None Canceled ∷ HandleIn None nothing ∷ []

abbrev pub in_both : ℕ → List Context
in_both n = LetIn None Canceled ∷ HandleIn None nothing ∷ MaskedIn n ∷ []

abbrev pub in_one : ℕ → List Context
in_one n = MaskedIn n ∷ []

ends : (n : ℕ) (d d' : Counts) (w : Done) → d.known ≡ true → AreMatched looking d (Runs (placed (in_one n) (Finished w))) d' (Runs (placed (in_both n)
    (Finished w)))
ends n d d' w known =
    let left = known_doomed w d d known in
    let right = forced_doomed w d d' in
    silent_left looking (runs_only refl (only_silent d (masked_leads n w)))
    (silent_right looking (runs_only refl (only_placed outside (only_silent d' (masked_leads n w))))
    (and_then looking left.1 right.0, and_then looking right.1 left.0))

module _ (n : ℕ) (a : Term) (same : Alike (n + 1) (n + 1) a a) where
  abbrev low : ℕ
  low = n + 1

  pub apart : IsApart low a a
  apart = record { is = refl; twin = a; alike = same }

  shut_in : (fs gs : List Context) → ((t t' : Term) → IsApart low t t' → IsClosedThere fs t) → ((t t' : Term) → IsApart low t t' → IsClosedThere gs t)
      → (t t' : Term) → IsApart low t t' → IsClosedThere fs t × IsClosedThere gs t'
  shut_in fs gs p q t t' s = (p t t' s, subst (λ (y : Term). IsClosedThere gs y) s.is (q t t' s))

  pub one_shut : (t t' : Term) → IsApart low t t' → IsClosedThere (in_one n) t
  one_shut t t' s = left_shut low low n (in_one n) refl (omega arith) s.alike

  pub both_shut : (t t' : Term) → IsApart low t t' → IsClosedThere (in_both n) t
  both_shut t t' s = left_shut low low n (in_both n) refl (omega arith) s.alike

  -- what comes after the self-request
  runs_in_mask : (c : Counts) → low ≤ c.masks → AreMatched looking (known_canceled c) (Runs (placed (in_one n) a)) c (Runs (placed (in_both n) a))
  runs_in_mask c below = (
    shut_matched looking (FirstKnows low) (IsApart low) (first_rows low) (apart_results low) (running (in_one n)) (running (in_both n))
        (IsClosedThere (in_one n)) (IsClosedThere (in_both n)) (run_is_shut (in_one n)) (run_is_shut (in_both n)) (shut_in (in_one n)
        (in_both n) one_shut both_shut)
        (λ d d' near w. (ends n d d' w (ap (λ (e : Counts). e.known) near.first)).0) (known_canceled c) c a a (record { first = refl; below = below }) apart,
    shut_matched looking (SecondKnows low) (IsApart low) (second_rows low) (apart_results low) (running (in_both n)) (running (in_one n))
        (IsClosedThere (in_both n)) (IsClosedThere (in_one n)) (run_is_shut (in_both n)) (run_is_shut (in_one n)) (shut_in (in_both n)
        (in_one n) both_shut one_shut)
        (λ d d' near w. (ends n d' d w (ap (λ (e : Counts). e.known) near.second)).1) c (known_canceled c) a a (record { second = refl; below = below }) apart,
  )

  -- both are in their masks
  in_masks : (c : Counts) → low ≤ c.masks → AreMatched looking c (Runs (placed (in_one n) (Let None Canceled a))) c (Runs (placed (in_both n) a))
  in_masks c below =
      hidden_left looking refl (runs_only refl (only_placed (MaskedIn n ∷ LetIn None a ∷ []) (only_self_request c)))
      (silent_left looking (runs_only refl (only_placed (in_one n) (only_silent (known_canceled c) (let_value_leads None 0 a)))) (runs_in_mask c below))

-- fibers at masks with nothing round them that cleans up
module _ (fs gs : List Context) (p : ℕ) (a b : Term) (must : (known : Bool)
    → must_cancel known (placed fs (Mask p a)) ≡ must_cancel known (placed gs (Mask p b)))
    (next : (c : Counts) → IsMatched looking (one_more_mask c) (Runs (placed fs (Masked c.masks (put p c.masks a)))) (one_more_mask c)
    (Runs (placed gs (Masked c.masks (put p c.masks b))))) where
  masks_moves : MatchesMoves looking (placed fs (Mask p a)) (placed gs (Mask p b))
  masks_moves c d e l ls q r m after = one m refl after
    where
      one : {d : Counts} {x : Term} {l : Label} {q : Progress} → Moves c x l d q → x ≡ placed fs (Mask p a) → Leads d q ls e r
          → HasRun looking c (Runs (placed gs (Mask p b))) (looking.of (l ∷ ls))
      one {d} {x} {l} (by_row {u = y} free k) at after =
          let o = mask_row_placed fs p a (subst (λ (z : Term). Row (not (is_open x)) c z l d y) at k) in
          let go : Leads (one_more_mask c) (Runs (placed fs (Masked c.masks (put p c.masks a)))) ls e r = rw (sym o.1, sym o.2) after in
          let free' = sym (must c.known) ∙ ap (must_cancel c.known) (sym at) ∙ free in
          rw o.0 (silent_first looking (row free' (row_placed gs rule.mask)) (next c ls e r go))
      one (by_end {w = w} free f k) at after = absurd (let e = (result_placed fs (Mask p a) w (sym f ∙ at)).1 in cc)

pub canceled_in_mask : (scope : ℕ → Option NameKind) (p : ℕ) (a : Term) → IsPlain a → IsScoped (with_name p kind.OtherPoll scope) a
    → LookTheSame (Mask p (Let None Canceled a)) (forced_after (Mask p a) Canceled)
canceled_in_mask scope p a plain scoped next end ls =
    (λ h. can_see h.visible_is (to begin h.labels h.counts h.progress h.run), λ h. can_see h.visible_is (from begin h.labels h.counts h.progress h.run))
  where
    begin : Counts
    begin = record { masks = 0; acquired = 0; next = next; end = end; known = false }

    unused : (n : ℕ) → put p n a ≡ a
    unused = put_other_poll p (with_name p kind.OtherPoll scope) a (name_is p kind.OtherPoll scope) scoped

    inside : (c : Counts) → AreMatched looking (one_more_mask c) (Runs (placed (in_one c.masks) (put p c.masks (Let None Canceled a)))) (one_more_mask c)
        (Runs (placed (in_both c.masks) (put p c.masks a)))
    inside c =
        rw (unused c.masks)
        (in_masks c.masks a (plain_alike (c.masks + 1) (c.masks + 1) (with_name p kind.OtherPoll scope) a plain scoped) (one_more_mask c) (omega arith))

    to : (c : Counts) → IsMatched looking c (Runs (Mask p (Let None Canceled a))) c (Runs (forced_after (Mask p a) Canceled))
    to c =
        whole_matched looking (Mask p (Let None Canceled a)) (forced_after (Mask p a) Canceled) (λ known. refl) refl (λ d. itself looking)
        (masks_moves [] outside p (Let None Canceled a) a (λ known. refl) (λ d. (inside d).0)) c

    from : (c : Counts) → IsMatched looking c (Runs (forced_after (Mask p a) Canceled)) c (Runs (Mask p (Let None Canceled a)))
    from c =
        whole_matched looking (forced_after (Mask p a) Canceled) (Mask p (Let None Canceled a)) (λ known. refl) refl (λ d. itself looking)
        (masks_moves outside [] p a (Let None Canceled a) (λ known. refl) (λ d. (inside d).1)) c
