-- Reading a group, step by step.
use Rattle.std.proofs.Common.{◌≡◌, ℕ, zero, suc, ◌-◌, ◌<◌, true, Ok, Err, List, refl, ◌∙◌, subst, arith}
use Rattle.fx_text.specs.declared.fault.ReadError.{ReadError}
use Rattle.fx_text.specs.declared.fault.ReadError.TheVariants as errors
use Rattle.fx_text.specs.Token.{next}
use Rattle.fx_text.specs.Given.{Fails}
use Rattle.fx_term.specs.declared.name_kind.NameKind.TheVariants as kind
use Rattle.fx_term.specs.Term.{Term}
use Rattle.fx_text.specs.Scope.{Scope, slot, under}
use Rattle.fx_text.specs.Group.{Group, OfTerm, OfResource, OfOutcome, Resource, Content, needs_few}
use Rattle.fx_text.specs.Shape.{shape, content}
use Rattle.fx_text.specs.Reading.{◌>>=◌, Read, kind_of, too_deep, opening_at, closing_at, binder_at, form_at, parts_at, kept, group_at, term_at}
use Rattle.fx_text.specs.Head.{named_at}

-- where a `(` may be open, a group is `(` and its parts
pub group_is : (room : ℕ) (g : Group) (p : Scope) (bytes : List ℕ) → 0 < room
    → group_at room g p bytes ≡ (opening_at bytes >>= λ o. parts_at (group_at (room - 1)) (content g p) o.1 >>= kept g (next bytes).from)
unfolding group_at
group_is zero g p bytes h = absurd (omega arith)
group_is (suc k) g p bytes h = let e : suc k - 1 ≡ k = omega arith in rw e refl

-- a group that is no form is its parts, since it is not tested itself
pub group_untested : (room : ℕ) (g : Group) (p : Scope) (bytes : List ℕ) → 0 < room → ((x : Content g) → needs_few g x ≡ true)
    → group_at room g p bytes ≡ (opening_at bytes >>= λ o. parts_at (group_at (room - 1)) (content g p) o.1)
group_untested room g p bytes h few = group_is room g p bytes h ∙ by_opening (opening_at bytes)
  where
    all_kept : (r : Read (Content g)) → (r >>= kept g (next bytes).from) ≡ r
    all_kept (Ok x) = let e = few x.0 in rw e refl
    all_kept (Err f) = refl

    by_opening : (o : Read (Unit {0})) → (o >>= λ o. parts_at (group_at (room - 1)) (content g p) o.1 >>= kept g (next bytes).from)
        ≡ (o >>= λ o. parts_at (group_at (room - 1)) (content g p) o.1)
    by_opening (Ok o) = all_kept (parts_at (group_at (room - 1)) (content g p) o.1)
    by_opening (Err f) = refl

-- and a term is `(`, the word of a form and its parts
pub term_is : (room : ℕ) (p : Scope) (bytes : List ℕ) → 0 < room → term_at room p bytes
    ≡ (opening_at bytes >>= λ o. (form_at o.1 >>= λ f. parts_at (group_at (room - 1)) (shape f.0 p) f.1) >>= kept OfTerm (next bytes).from)
term_is room p bytes h = group_is room OfTerm p bytes h

-- where no `(` may be open, there is no group
pub no_group : (room : ℕ) (g : Group) (p : Scope) (bytes : List ℕ) (e : ReadError) → room ≡ 0
    → errors.Fault (record { kind = kind_of (too_deep (next bytes).token) (next bytes).token; left = (next bytes).from }) ≡ e
    → Fails e (group_at room g p bytes)
unfolding group_at
no_group zero g p bytes e h is = subst (λ (x : ReadError). Fails x (group_at 0 g p bytes)) is refl
no_group (suc room) g p bytes e h is = absurd (omega arith)

-- ---- groups that are no forms, whose name comes first

pub name_is : (room : ℕ) (p : Scope) (bytes : List ℕ) → 0 < room → named_at room p bytes ≡ (opening_at bytes >>= λ o. binder_at p o.1)
unfolding named_at
name_is zero p bytes h = absurd (omega arith)
name_is (suc room) p bytes h = refl

pub no_name : (room : ℕ) (p : Scope) (bytes : List ℕ) (e : ReadError) → room ≡ 0
    → errors.Fault (record { kind = kind_of (too_deep (next bytes).token) (next bytes).token; left = (next bytes).from }) ≡ e
    → Fails e (named_at room p bytes)
unfolding named_at
no_name zero p bytes e h is = subst (λ (x : ReadError). Fails x (named_at 0 p bytes)) is refl
no_name (suc room) p bytes e h is = absurd (omega arith)

-- what comes after the name of an outcome's number
abbrev pub after_outcome : ℕ → Scope → List ℕ × List ℕ → Read Term
after_outcome room p x = term_at room (under kind.Value x.0 p) x.1 >>= λ t. closing_at t.1 >>= λ c. Ok (t.0, c.1)

-- and after that of a resource
abbrev pub after_name : ℕ → Scope → List ℕ × List ℕ → Read Resource
after_name room p x = term_at room p x.1 >>= λ a. term_at room (under kind.Value x.0 p) a.1 >>= λ r. closing_at r.1
    >>= λ c. Ok (record { name = x.0; slot = slot p; acquire = a.0; release = r.0 }, c.1)

module _ (p : Scope) (bytes : List ℕ) where
  pub outcome_is : (room : ℕ) → group_at room OfOutcome p bytes ≡ (named_at room p bytes >>= after_outcome (room - 1) p)
  unfolding group_at named_at
  outcome_is zero = refl
  outcome_is (suc k) = group_untested (suc k) OfOutcome p bytes (omega arith) (λ t. refl) ∙ by_opening (opening_at bytes)
    where
      by_opening : (o : Read (Unit {0})) → (o >>= λ o. parts_at (group_at (suc k - 1)) (content OfOutcome p) o.1)
          ≡ ((o >>= λ o. binder_at p o.1) >>= after_outcome (suc k - 1) p)
      by_opening (Ok o) = refl
      by_opening (Err f) = refl

  pub resource_is : (room : ℕ) → group_at room OfResource p bytes ≡ (named_at room p bytes >>= after_name (room - 1) p)
  unfolding group_at named_at
  resource_is zero = refl
  resource_is (suc k) = group_untested (suc k) OfResource p bytes (omega arith) (λ r. refl) ∙ by_opening (opening_at bytes)
    where
      by_opening : (o : Read (Unit {0})) → (o >>= λ o. parts_at (group_at (suc k - 1)) (content OfResource p) o.1)
          ≡ ((o >>= λ o. binder_at p o.1) >>= after_name (suc k - 1) p)
      by_opening (Ok o) = refl
      by_opening (Err f) = refl
