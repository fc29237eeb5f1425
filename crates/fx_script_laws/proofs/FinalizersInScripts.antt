-- A mask round a finalizer, which stands at a sealed place.
use Rattle.std.proofs.Common.{◌≡◌, ℕ, Bool, Option, List, [], ◌∷◌, refl}
use Rattle.fx_term.specs.declared.name_kind.NameKind.{NameKind}
use Rattle.fx_term.specs.declared.name_kind.NameKind.TheVariants as kind
use Rattle.fx_term.specs.Term.{Term, Mask, OnCancel, put}
use Rattle.fx_term.specs.Scope.{with_name, IsScoped}
use Rattle.fx_script_laws.specs.Cover.{Cover, is_any, is_sealed}
use Rattle.fx_script_laws.specs.Filled.{none_bound, IsFilled}
use Rattle.fx_script_laws.specs.Filled as filled
use Rattle.fx_script_laws.specs.Interchange.{Where, EitherWay, as_is, turned, AreTheTwo, with_numbers, put_each}
use Rattle.fx_script_laws.specs.InScripts.{AreAlikeInScripts}
use Rattle.fx_script_laws.proofs.RegionLaws.{mask_of_sealed}

-- terms that differ at places of pairs, where each of these is such a term, too
module _ {Pair Other : Cover → (ℕ → Bool) → Term → Term → Type 0}
    (by : (s : Cover) (v : ℕ → Bool) (t u : Term) → Pair s v t u → IsFilled Other s v t u) where
  filled_by : {s : Cover} {v : ℕ → Bool} {t u : Term} → IsFilled Pair s v t u → IsFilled Other s v t u
  filled_by (filled.pair {s = s} {bound = v} {t = t} {u = u} p) = by s v t u p
  filled_by filled.same = filled.same
  filled_by (filled.let_ p q) = filled.let_ (filled_by p) (filled_by q)
  filled_by (filled.handle p q) = filled.handle (filled_by p) (filled_by q)
  filled_by (filled.if_ p q) = filled.if_ (filled_by p) (filled_by q)
  filled_by (filled.for_ p) = filled.for_ (filled_by p)
  filled_by (filled.mask p) = filled.mask (filled_by p)
  filled_by (filled.poll p) = filled.poll (filled_by p)
  filled_by (filled.oncancel p q) = filled.oncancel (filled_by p) (filled_by q)
  filled_by (filled.bracket p q r) = filled.bracket (filled_by p) (filled_by q) (filled_by r)
  filled_by (filled.bracket_case p q r s w) = filled.bracket_case (filled_by p) (filled_by q) (filled_by r) (filled_by s) (filled_by w)
  filled_by (filled.start p q) = filled.start (filled_by p) (filled_by q)
  filled_by (filled.join p q r) = filled.join (filled_by p) (filled_by q) (filled_by r)
  filled_by (filled.try_take p q) = filled.try_take (filled_by p) (filled_by q)
  filled_by (filled.masked p) = filled.masked (filled_by p)
  filled_by (filled.opened p) = filled.opened (filled_by p)
  filled_by (filled.in_use p q) = filled.in_use (filled_by p) (filled_by q)
  filled_by (filled.in_use_case p q r s) = filled.in_use_case (filled_by p) (filled_by q) (filled_by r) (filled_by s)
  filled_by (filled.in_release p) = filled.in_release (filled_by p)
  filled_by (filled.loop p) = filled.loop (filled_by p)

numbers_in : (numbers : List (ℕ × ℕ)) (a f : Term) → put_each numbers (OnCancel a f) ≡ OnCancel (put_each numbers a) (put_each numbers f)
numbers_in [] a f = refl
numbers_in (b ∷ bs) a f = numbers_in bs (put b.0 b.1 a) (put b.0 b.1 f)

module _ (a : Term) (t u : Term) where
  in_finalizer : {s : Cover} {v : ℕ → Bool} {x y : Term} → AreTheTwo none_bound (OnCancel a t) (OnCancel a u) s v x y
      → IsFilled (EitherWay (Where is_sealed (AreTheTwo none_bound t u))) s v x y
  in_finalizer (with_numbers numbers others apart) =
      rw (numbers_in numbers a t, numbers_in numbers a u)
      (filled.oncancel filled.same (filled.pair (as_is (refl, with_numbers numbers others apart))))

  turned_in_finalizer : {s : Cover} {v : ℕ → Bool} {x y : Term} → AreTheTwo none_bound (OnCancel a t) (OnCancel a u) s v x y
      → IsFilled (EitherWay (Where is_sealed (AreTheTwo none_bound t u))) s v y x
  turned_in_finalizer (with_numbers numbers others apart) =
      rw (numbers_in numbers a t, numbers_in numbers a u)
      (filled.oncancel filled.same (filled.pair (turned (refl, with_numbers numbers others apart))))

  both_in_finalizer : (s : Cover) (v : ℕ → Bool) (x y : Term) → EitherWay (Where is_any (AreTheTwo none_bound (OnCancel a t) (OnCancel a u))) s v x y
      → IsFilled (EitherWay (Where is_sealed (AreTheTwo none_bound t u))) s v x y
  both_in_finalizer s v x y (as_is p) = in_finalizer p.1
  both_in_finalizer s v x y (turned p) = turned_in_finalizer p.1

  -- what is the same at sealed places is so in finalizers
  pub finalizers_alike : AreAlikeInScripts is_sealed none_bound t u → AreAlikeInScripts is_any none_bound (OnCancel a t) (OnCancel a u)
  finalizers_alike same s z may r first second terms capacities = same s z may r first second (filled_by both_in_finalizer terms) capacities

pub masked_finalizer : (scope : ℕ → Option NameKind) (p : ℕ) (a f : Term) → IsScoped (with_name p kind.OtherPoll scope) f
    → AreAlikeInScripts is_any none_bound (OnCancel a (Mask p f)) (OnCancel a f)
masked_finalizer scope p a f scoped = finalizers_alike a (Mask p f) f (mask_of_sealed scope p f scoped)
