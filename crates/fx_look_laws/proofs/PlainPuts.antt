-- A number for a name in scope leaves a term as a script has it one, where the name is no poll's.
use Rattle.std.proofs.Common.{◌≡◌, ℕ, ◌==◌, Bool, true, false, Option, Some, None, refl, sym, ◌∙◌, ap, subst}
use Rattle.std.specs.Prelude.{is_none}
use Rattle.std.proofs.lemmas.Bool.{eqb-true}
use mathlib.Core.Path.{fun_ext}
use Rattle.fx_term.specs.declared.name_kind.NameKind.{NameKind}
use Rattle.fx_term.specs.declared.name_kind.NameKind.TheVariants as kind
use Rattle.fx_term.specs.declared.node.Arg.TheVariants.{Number, Slot}
use Rattle.fx_term.specs.Scope.{with_name, kind_elsewhere, elsewhere, IsScoped}
use Rattle.fx_term.specs.Term.{Term, Let, Handle, If, For, Mask, Poll, OnCancel, Bracket, BracketCase, Start, Join, TryTake, Finished, Masked}
use Rattle.fx_term.specs.Term.{Opened, InUse, InUseCase, InRelease, Loop, Await, put}
use Rattle.fx_term.proofs.NameUses.{Fits, IsUsedAs, scoped_used}
use Rattle.fx_model.specs.MaskLaws.{IsPlain}
use Rattle.fx_model.proofs.PutScopes.{put_scoped}
use Rattle.fx_look_laws.specs.OtherFibers.{not_in}

elsewhere_no_poll : (k : NameKind) → Fits (kind_elsewhere k) kind.Poll → ⊥
elsewhere_no_poll kind.Value h = h
elsewhere_no_poll kind.Poll h = h
elsewhere_no_poll kind.Fiber h = h
elsewhere_no_poll kind.OtherPoll h = h

module _ (x n : ℕ) where
  put_plain : (k : NameKind) (t : Term) → (Fits k kind.Poll → ⊥) → IsUsedAs k x t → IsPlain t → IsPlain (put x n t)
  put_plain k (Let y a b) unlike h p = (put_plain k a unlike h.0 p.0, put_plain k b unlike h.1 p.1)
  put_plain k (Handle a y b) unlike h p = (put_plain k a unlike h.0 p.0, put_plain k b unlike h.1 p.1)
  put_plain k (If v a b) unlike h p = (put_plain k a unlike h.1 p.0, put_plain k b unlike h.2 p.1)
  put_plain k (For i c a) unlike h p = put_plain k a unlike h p
  put_plain k (Mask y a) unlike h p = put_plain k a unlike h p
  put_plain k (Poll (Slot y) a) unlike h p = by_test (y == x) refl (put_plain k a unlike h.1 p)
    where
      by_test : (b : Bool) → (y == x) ≡ b → IsPlain (put x n a) → IsPlain (put x n (Poll (Slot y) a))
      by_test true is rest = absurd (unlike (h.0 (eqb-true y x is)))
      by_test false is rest = rw is rest
  put_plain k (Poll (Number r) a) unlike h p = absurd p
  put_plain k (OnCancel a f) unlike h p = (put_plain k a unlike h.0 p.0, put_plain k f unlike h.1 p.1)
  put_plain k (Bracket y a u r) unlike h p = (put_plain k a unlike h.0 p.0, put_plain k u unlike h.1 p.1, put_plain k r unlike h.2 p.2)
  put_plain k (BracketCase y a u z s w e d) unlike h p =
      (put_plain k a unlike h.0 p.0, put_plain k u unlike h.1 p.1, put_plain k s unlike h.2 p.2, put_plain k e unlike h.3 p.3, put_plain k d unlike h.4 p.4)
  put_plain k (Start i a b) unlike h p = (put_plain (kind_elsewhere k) a (elsewhere_no_poll k) h.0 p.0, put_plain k b unlike h.1 p.1)
  put_plain k (Join f y a e b c) unlike h p = (put_plain k a unlike h.1 p.0, put_plain k b unlike h.2 p.1, put_plain k c unlike h.3 p.2)
  put_plain k (TryTake q y a b) unlike h p = (put_plain k a unlike h.0 p.0, put_plain k b unlike h.1 p.1)
  put_plain k (Finished v) unlike h p = absurd p
  put_plain k (Masked r a) unlike h p = absurd p
  put_plain k (Opened r a) unlike h p = absurd p
  put_plain k (InUse j a r) unlike h p = absurd p
  put_plain k (InUseCase j u y s z e d) unlike h p = absurd p
  put_plain k (InRelease j a v) unlike h p = absurd p
  put_plain k (Loop i j c a) unlike h p = absurd p
  put_plain k (Await f) unlike h p = absurd p
  put_plain k _ unlike h p = tt

-- the name is in scope, and no poll's
pub record IsThere (scope : ℕ → Option NameKind) (x : ℕ) : Type 0 where
  pub used : NameKind
  pub is : scope x ≡ Some used
  pub no_poll : Fits used kind.Poll → ⊥

-- with one name more
pub there_under : (scope : ℕ → Option NameKind) (x y : ℕ) (k : NameKind) → (Fits k kind.Poll → ⊥) → IsThere scope x → IsThere (with_name y k scope) x
there_under scope x y k unlike h = by_test (x == y) refl
  where
    by_test : (b : Bool) → (x == y) ≡ b → IsThere (with_name y k scope) x
    by_test true same = record { used = k; is = rw same refl; no_poll = unlike }
    by_test false apart = record { used = h.used; is = rw apart h.is; no_poll = h.no_poll }

-- where a fiber begins
pub there_first : (scope : ℕ → Option NameKind) (x : ℕ) → not_in scope x ≡ false → IsThere (elsewhere scope) x
there_first scope x e = by_scope (scope x) refl
  where
    by_scope : (o : Option NameKind) → scope x ≡ o → IsThere (elsewhere scope) x
    by_scope None is = absurd (let k : true ≡ false = sym (ap is_none is) ∙ e in cc)
    by_scope (Some k) is = record { used = kind_elsewhere k; is = rw is refl; no_poll = elsewhere_no_poll k }

module _ (scope : ℕ → Option NameKind) (x n : ℕ) (there : IsThere scope x) (a : Term) (scoped : IsScoped scope a) where
  same_scope : with_name x there.used scope ≡ scope
  same_scope = fun_ext at
    where
      at : (z : ℕ) → with_name x there.used scope z ≡ scope z
      at z = by_test (z == x) refl
        where
          by_test : (b : Bool) → (z == x) ≡ b → with_name x there.used scope z ≡ scope z
          by_test true is = rw is (sym there.is ∙ ap scope (sym (eqb-true z x is)))
          by_test false is = rw is refl

  pub put_stays_scoped : IsScoped scope (put x n a)
  put_stays_scoped = put_scoped x n scope there.used a (subst (λ (s : ℕ → Option NameKind). IsScoped s a) (sym same_scope) scoped)

  pub put_stays_plain : IsPlain a → IsPlain (put x n a)
  put_stays_plain plain = put_plain x n there.used a there.no_poll (scoped_used x scope there.used a there.is scoped) plain
