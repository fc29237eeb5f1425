-- The laws of terms of which the one has a part that never runs, so that it may start no fiber: fiber numbers would differ.
use Rattle.std.proofs.Common.{◌≡◌, ℕ, Bool, Option, None, List, [], ◌∷◌, refl, sym, ◌∙◌, subst, arith}
use Rattle.fx_term.specs.declared.node.Arg.{Arg}
use Rattle.fx_term.specs.declared.node.Arg.TheVariants.{Number, Slot}
use Rattle.fx_term.specs.declared.done.Done.TheVariants.{Val, Err}
use Rattle.fx_term.specs.Term.{Term, Pure, Raise, Never, Let, Handle, Finished, put_arg, put}
use Rattle.fx_term.specs.Need.{need}
use Rattle.fx_model.specs.Path.{Context, LetIn, HandleIn}
use Rattle.fx_model.specs.Row.{Counts, Label, Row}
use Rattle.fx_model.specs.Row as rule
use Rattle.fx_model.specs.MaskLaws.{forced_after}
use Rattle.fx_model.proofs.Paths.{no_context}
use Rattle.fx_laws.specs.Everywhere.{placed}
use Rattle.fx_laws.proofs.Placed.{result_placed, RowOfPlaced, moves_in, result_in, row_of_placed}
use Rattle.fx_laws.proofs.SilentRows.{pure_leads, raise_leads, let_error_leads, handle_value_leads, leads_placed}
use Rattle.fx_script_laws.specs.Filled.{none_bound}
use Rattle.fx_script_laws.specs.Interchange.{AreInterchangeable}
use Rattle.fx_script_laws.proofs.PutNeeds.{put_need}
use Rattle.fx_script_laws.proofs.EachFollows.{EachFollows, itself, spot_by, one_leads, both_lead, HasNoRow, neither_steps, interchangeable}

-- a leaf without rows has none in contexts
pub none_placed : (gs : List Context) (t : Term) → HasNoRow t → HasNoRow (placed gs t)
none_placed gs t h = record { none = λ k c d l t1 r. one (row_of_placed gs t r) refl; going = λ w e. h.going w (result_placed gs t w (sym e)).1 }
  where
    one : {k : Bool} {c d : Counts} {l : Label} {x y : Term} → RowOfPlaced k c gs x l d y → x ≡ t → ⊥
    one {k} {c} {d} {l} (moves_in {w = w} r) is = h.none k c d l w (subst (λ (z : Term). Row k c z l d w) is r)
    one (result_in {w = w}) is = h.going w (sym is)

pub never_rests : HasNoRow Never
never_rests = record { none = λ k c d l t1 r. one r; going = λ w e. cc }
  where
    one : {k : Bool} {c d : Counts} {l : Label} {t1 : Term} → Row k c Never l d t1 → ⊥
    one (rule.inside f e g r) = no_context f _ _ refl e

raise_rests : (x : ℕ) → HasNoRow (Raise (Slot x))
raise_rests x = record { none = λ k c d l t1 r. one r; going = λ w e. cc }
  where
    one : {k : Bool} {c d : Counts} {l : Label} {t1 : Term} → Row k c (Raise (Slot x)) l d t1 → ⊥
    one (rule.inside f e g r) = no_context f _ _ refl e

pure_rests : (x : ℕ) → HasNoRow (Pure (Slot x))
pure_rests x = record { none = λ k c d l t1 r. one r; going = λ w e. cc }
  where
    one : {k : Bool} {c d : Counts} {l : Label} {t1 : Term} → Row k c (Pure (Slot x)) l d t1 → ⊥
    one (rule.inside f e g r) = no_context f _ _ refl e

data IsLast : Term → Term → Type 0 where
  never_let : (a : Term) → need a ≡ 0 → IsLast (Let None Never a) Never
  never_forced : (a : Term) → need a ≡ 0 → IsLast (forced_after Never a) Never
  error_let : (x : Option ℕ) (v : Arg) (b : Term) → need b ≡ 0 → IsLast (Let x (Raise v) b) (Raise v)
  value_handled : (v : Arg) (x : Option ℕ) (b : Term) → need b ≡ 0 → IsLast (Handle (Pure v) x b) (Pure v)

last_put : (y n : ℕ) (t u : Term) → IsLast t u → IsLast (put y n t) (put y n u)
last_put y n t u (never_let a h) = never_let (put y n a) (put_need y n a ∙ h)
last_put y n t u (never_forced a h) = never_forced (put y n a) (put_need y n a ∙ h)
last_put y n t u (error_let x v b h) = error_let x (put_arg y n v) (put y n b) (put_need y n b ∙ h)
last_put y n t u (value_handled v x b h) = value_handled (put_arg y n v) x (put y n b) (put_need y n b ∙ h)

last_need : (t u : Term) → IsLast t u → need t ≡ need u
last_need t u (never_let a h) = omega (arith, h)
last_need t u (never_forced a h) = omega (arith, h)
last_need t u (error_let x v b h) = omega (arith, h)
last_need t u (value_handled v x b h) = omega (arith, h)

error_each : (x : Option ℕ) (v : Arg) (b : Term) → EachFollows (Let x (Raise v) b) (Raise v)
error_each x (Number n) b =
    both_lead (leads_placed (LetIn x b ∷ []) (raise_leads n)) (raise_leads n) (spot_by (λ outer. refl) refl refl (λ o. refl))
    (one_leads (let_error_leads x n b) (spot_by (λ outer. refl) refl refl (λ o. refl)) (itself (Finished (Err n))))
error_each x (Slot y) b =
    neither_steps (none_placed (LetIn x b ∷ []) (Raise (Slot y)) (raise_rests y)) (raise_rests y) (spot_by (λ outer. refl) refl refl (λ o. refl))

value_each : (v : Arg) (x : Option ℕ) (b : Term) → EachFollows (Handle (Pure v) x b) (Pure v)
value_each (Number n) x b =
    both_lead (leads_placed (HandleIn x b ∷ []) (pure_leads n)) (pure_leads n) (spot_by (λ outer. refl) refl refl (λ o. refl))
    (one_leads (handle_value_leads x n b) (spot_by (λ outer. refl) refl refl (λ o. refl)) (itself (Finished (Val n))))
value_each (Slot y) x b =
    neither_steps (none_placed (HandleIn x b ∷ []) (Pure (Slot y)) (pure_rests y)) (pure_rests y) (spot_by (λ outer. refl) refl refl (λ o. refl))

last_each : (t u : Term) → IsLast t u → EachFollows t u
last_each t u (never_let a h) =
    neither_steps (none_placed (LetIn None a ∷ []) Never never_rests) never_rests (spot_by (λ outer. refl) refl refl (λ o. refl))
last_each t u (never_forced a h) =
    neither_steps (none_placed (LetIn None a ∷ HandleIn None (Pure (Number 0)) ∷ []) Never never_rests) never_rests
    (spot_by (λ outer. refl) refl refl (λ o. refl))
last_each t u (error_let x v b h) = error_each x v b
last_each t u (value_handled v x b h) = value_each v x b

pub never_is_last : (a : Term) → need a ≡ 0 → AreInterchangeable none_bound (Let None Never a) Never
never_is_last a h = interchangeable IsLast last_put last_need last_each (Let None Never a) Never (never_let a h)

pub forced_never_is_last : (a : Term) → need a ≡ 0 → AreInterchangeable none_bound (forced_after Never a) Never
forced_never_is_last a h = interchangeable IsLast last_put last_need last_each (forced_after Never a) Never (never_forced a h)

pub error_is_last : (x : Option ℕ) (v : Arg) (b : Term) → need b ≡ 0 → AreInterchangeable none_bound (Let x (Raise v) b) (Raise v)
error_is_last x v b h = interchangeable IsLast last_put last_need last_each (Let x (Raise v) b) (Raise v) (error_let x v b h)

pub value_is_kept : (v : Arg) (x : Option ℕ) (b : Term) → need b ≡ 0 → AreInterchangeable none_bound (Handle (Pure v) x b) (Pure v)
value_is_kept v x b h = interchangeable IsLast last_put last_need last_each (Handle (Pure v) x b) (Pure v) (value_handled v x b h)
