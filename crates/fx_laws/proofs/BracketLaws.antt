-- A bracket, and a mask with a polled use.
use Rattle.std.proofs.Common.{◌≡◌, ◌≢◌, ℕ, ◌+◌, ◌==◌, if◌then◌else◌, Bool, true, false, Option, Some, None, List, [], ◌∷◌, refl, sym, ap, subst, arith}
use Rattle.std.proofs.lemmas.Bool.{eq-eqb, ne_eqb}
use Rattle.fx_term.specs.declared.node.Arg.TheVariants.{Number, Slot}
use Rattle.fx_term.specs.declared.done.Done.{Done}
use Rattle.fx_term.specs.declared.done.Done.TheVariants.{Val, Err}
use Rattle.fx_term.specs.declared.event.Event.TheVariants as event
use Rattle.fx_term.specs.declared.name_kind.NameKind.{NameKind}
use Rattle.fx_term.specs.declared.name_kind.NameKind.TheVariants as kind
use Rattle.fx_term.specs.Term.{Term, Pure, Raise, Let, Handle, Mask, Poll, OnCancel, Bracket, Finished, Masked, Opened, InUse, put_arg, put, put_named}
use Rattle.fx_term.specs.Scope.{with_name, with_named, IsNew, IsScoped}
use Rattle.fx_term.proofs.NameUses.{IsUsedAs, scoped_used, scoped_binder_used, put_used, put_unused, put_other_poll, name_is}
use Rattle.fx_model.specs.Path.{Context, LetIn, HandleIn, OnCancelIn, AcquireIn, MaskedIn}
use Rattle.fx_model.specs.Row.{Counts, Label, Silent, Shows, Row, one_more_mask, one_more_acquired}
use Rattle.fx_model.specs.Row as rule
use Rattle.fx_model.specs.Step.{Runs}
use Rattle.fx_model.specs.MaskLaws.{IsPlain}
use Rattle.fx_model.proofs.Alike.{next_regions, Alike, plain_alike, put_named_alike}
use Rattle.fx_model.proofs.MaskEntering.{counts_at}
use Rattle.fx_model.proofs.Paths.{no_context, part_row, result_has_no_row}
use Rattle.fx_laws.specs.Names.{without_names}
use Rattle.fx_laws.specs.Everywhere.{placed}
use Rattle.fx_laws.specs.Others.{OthersCanSee, IsCanceledAlone, LookTheSameUnlessCanceledAlone, LooksLikeAllOf}
use Rattle.fx_laws.proofs.Views.{and_then}
use Rattle.fx_laws.proofs.SilentRows.{LeadsSilently, let_value_leads, let_error_leads, masked_leads}
use Rattle.fx_laws.proofs.Forced.{IsOnlyRow, AreMatched, hidden_left, silent_left, silent_right, runs_only}
use Rattle.fx_laws.proofs.OnlyRows.{only_silent, only_placed}
use Rattle.fx_laws.proofs.Shut.{running, IsClosedThere, run_is_shut}
use Rattle.fx_laws.proofs.StaysShut.{left_shut, right_shut, left_sealed, right_sealed}
use Rattle.fx_laws.proofs.AlikeFibers.{AreShifted, shut_both}
use Rattle.fx_laws.proofs.Results.{results_both}
use Rattle.fx_laws.proofs.Renumbered.{acquired_unseen}
use Rattle.fx_laws.proofs.BracketUse.{same_known, use_matched}
use Rattle.fx_laws.proofs.Looking.{looking, can_see}
use Rattle.fx_laws.proofs.MaskStarts.{sees_inside, sees_no_more}

-- what comes after the acquire part, with the region that the poll opens
abbrev pub rest : ℕ → ℕ → Term → Term → Term
rest y ex u r =
    Let (Some y) (Handle (OnCancel (Poll (Number 0) u) r) (Some ex) (Let None (Handle r None (Pure (Number 0))) (Raise (Slot ex)))) (Let None r (Pure (Slot y)))

pub acquire_fails_leads : (x : Option ℕ) (e : ℕ) (u r : Term) → LeadsSilently (Bracket x (Finished (Err e)) u r) (Finished (Err e))
acquire_fails_leads x e u r = record { there = λ k c. rule.acquire_fails; only = λ k c d l w h. one h; going = λ w f. cc }
  where
    one : {k : Bool} {c d : Counts} {l : Label} {w : Term} → Row k c (Bracket x (Finished (Err e)) u r) l d w
        → (l ≡ Silent) × (d ≡ c) × (w ≡ Finished (Err e))
    one rule.acquire_fails = (refl, refl, refl)
    one (rule.inside f g h q) = absurd (result_has_no_row (part_row (AcquireIn x u r) f (Finished (Err e)) g h q).1 refl)

poll_leads : (q : ℕ) (t : Term) → LeadsSilently (Poll (Number q) t) (Opened q t)
poll_leads q t = record { there = λ k c. rule.poll; only = λ k c d l w h. one h; going = λ w f. cc }
  where
    one : {k : Bool} {c d : Counts} {l : Label} {w : Term} → Row k c (Poll (Number q) t) l d w → (l ≡ Silent) × (d ≡ c) × (w ≡ Opened q t)
    one rule.poll = (refl, refl, refl)
    one (rule.inside f g h r) = absurd (no_context f _ _ refl g)

pub only_acquired : (c : Counts) (x : Option ℕ) (n : ℕ) (u r : Term) → IsOnlyRow c (Bracket x (Finished (Val n)) u r) (Shows (event.Acquired c.acquired))
    (one_more_acquired c) (InUse c.acquired (put_named x n u) (put_named x n r))
only_acquired c x n u r = record { there = rule.acquired; only = λ m e w h. one h; going = λ w f. cc }
  where
    one : {m : Label} {e : Counts} {w : Term} → Row true c (Bracket x (Finished (Val n)) u r) m e w
        → (m ≡ Shows (event.Acquired c.acquired)) × (e ≡ one_more_acquired c) × (w ≡ InUse c.acquired (put_named x n u) (put_named x n r))
    one rule.acquired = (refl, refl, refl)
    one (rule.inside f g h q) = absurd (result_has_no_row (part_row (AcquireIn x u r) f (Finished (Val n)) g h q).1 refl)

module _ (x : Option ℕ) (y ex : ℕ) (a u r : Term) (same_a : (n m : ℕ) → Alike n m a a)
    (same_u : (k n m : ℕ) → Alike n m (put_named x k u) (put_named x k u)) (same_r : (k n m : ℕ) → Alike n m (put_named x k r) (put_named x k r))
    (unused_y : (k n : ℕ) → put y n (put_named x k r) ≡ put_named x k r) (unused_ex : (k n : ℕ) → put ex n (put_named x k r) ≡ put_named x k r)
    (rest_put : (k : ℕ) → put_named x k (rest y ex u r) ≡ rest y ex (put_named x k u) (put_named x k r)) where
  abbrev round_use : Term → List Context
  round_use r' =
      MaskedIn 0 ∷ LetIn (Some y) (Let None r' (Pure (Slot y))) ∷ HandleIn (Some ex) (Let None (Handle r' None (Pure (Number 0))) (Raise (Slot ex)))
      ∷ OnCancelIn r' ∷ []

  in_use : (d d' : Counts) → AreShifted 0 1 d d' → (k : ℕ) → AreMatched looking (one_more_acquired d)
      (Runs (InUse d.acquired (put_named x k u) (put_named x k r))) d' (Runs (placed (round_use (put_named x k r)) (Opened 0 (put_named x k u))))
  in_use d d' near k =
      let more : AreShifted 0 1 (one_more_acquired d) (one_more_acquired d') = record { is = ap one_more_acquired near.is; region = near.region } in
      let both = use_matched y ex d.acquired (put_named x k r) (same_r k) (unused_y k) (unused_ex k) (put_named x k u) (same_u k) (one_more_acquired d)
      (one_more_acquired d') more in
      let other = acquired_unseen d' (d'.acquired + 1) (placed (round_use (put_named x k r)) (Opened 0 (put_named x k u))) in
      (and_then looking both.0 other.1, and_then looking other.0 both.1)

  acquire_ends : (d d' : Counts) → AreShifted 0 1 d d' → (w : Done)
      → AreMatched looking d (Runs (Bracket x (Finished w) u r)) d' (Runs (Masked 0 (Let x (Finished w) (rest y ex u r))))
  acquire_ends d d' near (Err q) =
      silent_left looking (runs_only refl (only_silent d (acquire_fails_leads x q u r)))
      (silent_right looking (runs_only refl (only_placed (MaskedIn 0 ∷ []) (only_silent d' (let_error_leads x q (rest y ex u r)))))
      (silent_right looking (runs_only refl (only_silent d' (masked_leads 0 (Err q)))) (results_both looking (Err q) d d' (same_known near))))
  acquire_ends d d' near (Val k) =
      hidden_left looking refl (runs_only refl (only_acquired d x k u r))
      (silent_right looking (runs_only refl (only_placed (MaskedIn 0 ∷ []) (only_silent d' (let_value_leads x k (rest y ex u r)))))
      (rw (rest_put k)
      (silent_right looking (runs_only refl (only_placed (round_use (put_named x k r)) (only_silent d' (poll_leads 0 (put_named x k u)))))
      (in_use d d' near k))))

  abbrev acquires : List Context
  acquires = AcquireIn x u r ∷ []

  abbrev acquires_masked : List Context
  acquires_masked = MaskedIn 0 ∷ LetIn x (rest y ex u r) ∷ []

  acquired_alike : (d d' : Counts) → AreShifted 0 1 d d' → AreMatched looking d (Runs (placed acquires a)) d' (Runs (placed acquires_masked a))
  acquired_alike d d' near =
      shut_both looking 0 1 (running acquires) (running acquires_masked) (IsClosedThere acquires) (IsClosedThere acquires_masked) (run_is_shut acquires)
      (run_is_shut acquires_masked) (λ t t' s. (left_sealed 0 1 acquires refl s, right_shut 0 1 0 acquires_masked refl (omega arith) s))
      (λ t t' s. (left_shut 1 0 0 acquires_masked refl (omega arith) s, right_sealed 1 0 acquires refl s))
      (λ e e' n w. acquire_ends e e' n w) d d' a near same_a

  -- once the mask is entered
  pub bracket_beside : (next end : ℕ) → AreMatched looking (counts_at 0 next end) (Runs (Bracket x a u r)) (counts_at 1 next end)
      (Runs (Masked 0 (Let x a (rest y ex u r))))
  bracket_beside next end = acquired_alike (counts_at 0 next end) (counts_at 1 next end) (record { is = refl; region = next_regions 0 1 })

-- names that are in scope where no term of these may use them
pub kept_under : (p z : ℕ) (scope : ℕ → Option NameKind) → scope z ≡ Some kind.OtherPoll → with_name p kind.OtherPoll scope z ≡ Some kind.OtherPoll
kept_under p z scope e = by_test (z == p)
  where
    by_test : (b : Bool) → (if b then Some kind.OtherPoll else scope z) ≡ Some kind.OtherPoll
    by_test true = refl
    by_test false = e

still_there : (x : Option ℕ) (z : ℕ) (scope : ℕ → Option NameKind) → scope z ≡ Some kind.OtherPoll → IsNew scope x
    → with_named x kind.Value scope z ≡ Some kind.OtherPoll
still_there None z scope e new = e
still_there (Some x) z scope e new =
    let other : z ≢ x = λ same. let here : scope x ≡ Some kind.OtherPoll = subst (λ (n : ℕ). scope n ≡ Some kind.OtherPoll) same e in cc in
    rw (ne_eqb z x other) e

put_named_used : (x : Option ℕ) (z k : ℕ) (t : Term) → IsUsedAs kind.OtherPoll z t → IsUsedAs kind.OtherPoll z (put_named x k t)
put_named_used None z k t h = h
put_named_used (Some x) z k t h = put_used z kind.OtherPoll x k t h

pub unused_after : (x : Option ℕ) (z : ℕ) (scope : ℕ → Option NameKind) (t : Term) → scope z ≡ Some kind.OtherPoll → IsNew scope x
    → IsScoped (with_named x kind.Value scope) t → (k n : ℕ) → put z n (put_named x k t) ≡ put_named x k t
unused_after x z scope t e new scoped k n =
    let used = scoped_used z (with_named x kind.Value scope) kind.OtherPoll t (still_there x z scope e new) scoped in
    put_unused z n (put_named x k t) (put_named_used x z k t used)

slot_kept : (x z k : ℕ) → z ≢ x → put_arg x k (Slot z) ≡ Slot z
slot_kept x z k other = rw (ne_eqb z x other) refl

pub rest_after : (x : Option ℕ) (y ex : ℕ) (u r : Term) → ((z : ℕ) → x ≡ Some z → (y ≢ z) × (ex ≢ z)) → (k : ℕ)
    → put_named x k (rest y ex u r) ≡ rest y ex (put_named x k u) (put_named x k r)
rest_after None y ex u r other k = refl
rest_after (Some x) y ex u r other k = let o = other x refl in rw (slot_kept x y k o.0, slot_kept x ex k o.1) refl

module _ (scope : ℕ → Option NameKind) (p y ex : ℕ) (x : Option ℕ) (a u r : Term) (p_y : p ≢ y) (p_ex : p ≢ ex) (new : IsNew (without_names scope p y ex) x)
    (plain_a : IsPlain a) (plain_u : IsPlain u) (plain_r : IsPlain r) (scoped_a : IsScoped (without_names scope p y ex) a)
    (scoped_u : IsScoped (with_named x kind.Value (without_names scope p y ex)) u) (scoped_r : IsScoped (with_named x kind.Value
    (without_names scope p y ex)) r) where
  abbrev pub outer : ℕ → Option NameKind
  outer = without_names scope p y ex

  abbrev pub inner : ℕ → Option NameKind
  inner = with_named x kind.Value outer

  p_there : outer p ≡ Some kind.OtherPoll
  p_there = name_is p kind.OtherPoll (with_name y kind.OtherPoll (with_name ex kind.OtherPoll scope))

  pub y_there : outer y ≡ Some kind.OtherPoll
  y_there = kept_under p y (with_name y kind.OtherPoll (with_name ex kind.OtherPoll scope)) (name_is y kind.OtherPoll (with_name ex kind.OtherPoll scope))

  pub ex_there : outer ex ≡ Some kind.OtherPoll
  ex_there =
      kept_under p ex (with_name y kind.OtherPoll (with_name ex kind.OtherPoll scope))
      (kept_under y ex (with_name ex kind.OtherPoll scope) (name_is ex kind.OtherPoll scope))

  pub others : (z : ℕ) → x ≡ Some z → (y ≢ z) × (ex ≢ z)
  others z e =
      let none : outer z ≡ None = subst (λ (o : Option ℕ). IsNew outer o) e new in (
        λ same. let there : outer z ≡ Some kind.OtherPoll = subst (λ (n : ℕ). outer n ≡ Some kind.OtherPoll) same y_there in apart there none,
        λ same. let there : outer z ≡ Some kind.OtherPoll = subst (λ (n : ℕ). outer n ≡ Some kind.OtherPoll) same ex_there in apart there none,
      )
    where
      apart : {o : Option NameKind} → o ≡ Some kind.OtherPoll → o ≡ None → ⊥
      apart f g = absurd cc

  pub same_after : (t : Term) → IsPlain t → IsScoped inner t → (k n m : ℕ) → Alike n m (put_named x k t) (put_named x k t)
  same_after t plain scoped k n m = put_named_alike n m x k (plain_alike n m inner t plain scoped) (scoped_binder_used outer kind.Value x t scoped)

  p_unused : (t : Term) → IsScoped inner t → (n : ℕ) → put p n t ≡ t
  p_unused t scoped = put_other_poll p inner t (still_there x p outer p_there new) scoped

  beside : (next end : ℕ) → AreMatched looking (counts_at 0 next end) (Runs (Bracket x a u r)) (counts_at 1 next end)
      (Runs (Masked 0 (Let x a (rest y ex u r))))
  beside next end =
      bracket_beside x y ex a u r (λ n m. plain_alike n m outer a plain_a scoped_a) (same_after u plain_u scoped_u) (same_after r plain_r scoped_r)
      (unused_after x y outer r y_there new scoped_r) (unused_after x ex outer r ex_there new scoped_r) (rest_after x y ex u r others) next end

  abbrev pub body : Term
  body =
      Let x a
      (Let (Some y) (Handle (OnCancel (Poll (Slot p) u) r) (Some ex) (Let None (Handle r None (Pure (Number 0))) (Raise (Slot ex))))
      (Let None r (Pure (Slot y))))

  pub body_entered : put p 0 body ≡ Let x a (rest y ex u r)
  body_entered =
      rw (
        put_other_poll p outer a p_there scoped_a 0,
        p_unused u scoped_u 0,
        p_unused r scoped_r 0,
        slot_kept p y 0 (λ e. p_y (sym e)),
        slot_kept p ex 0 (λ e. p_ex (sym e)),
        eq-eqb p p refl,
      ) refl

  entered : (next end : ℕ) → AreMatched looking (counts_at 0 next end) (Runs (Bracket x a u r)) (counts_at 1 next end) (Runs (Masked 0 (put p 0 body)))
  entered next end =
      subst (λ (t : Term). AreMatched looking (counts_at 0 next end) (Runs (Bracket x a u r)) (counts_at 1 next end) (Runs (Masked 0 t))) (sym body_entered)
      (beside next end)

  pub bracket_looks_like_all : LooksLikeAllOf (Mask p body) (Bracket x a u r)
  bracket_looks_like_all next end ls h =
      can_see h.visible_is (sees_inside [] p body (counts_at 0 next end) refl refl refl (entered next end).0 h.labels h.counts h.progress h.run)

  no_more_seen : (next end : ℕ) (ls : List Label) → (IsCanceledAlone ls → ⊥) → OthersCanSee (record { term = Mask p body; next = next; end = end }) ls
      → OthersCanSee (record { term = Bracket x a u r; next = next; end = end }) ls
  no_more_seen next end ls other h =
      let other' = subst (λ (ms : List Label). IsCanceledAlone ms → ⊥) (sym h.visible_is) other in
      can_see h.visible_is
      (sees_no_more [] p body (counts_at 0 next end) refl refl refl (counts_at 0 next end) (Runs (Bracket x a u r)) (entered next end).1 h.labels h.counts
      h.progress h.run other')

  pub bracket_looks_the_same : LookTheSameUnlessCanceledAlone (Bracket x a u r) (Mask p body)
  bracket_looks_the_same next end ls other = (bracket_looks_like_all next end ls, no_more_seen next end ls other)
