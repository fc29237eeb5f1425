-- Terms of which one is the other with fibers in it that begin otherwise.
use Rattle.std.specs.Prelude.{◌≡◌, ℕ, Bool, Option, List, is_none}
use Rattle.fx_term.specs.declared.node.Arg.{Arg}
use Rattle.fx_term.specs.declared.done.Done.{Done}
use Rattle.fx_term.specs.declared.name_kind.NameKind.{NameKind}
use Rattle.fx_term.specs.Term.{Term}
use Rattle.fx_term.specs.Term as term
use Rattle.fx_model.specs.Origin.{Origin}
use Rattle.fx_script_laws.specs.Cover.{uncovered}
use Rattle.fx_script_laws.specs.Filled.{none_bound, and_bound, and_named}
use Rattle.fx_script_laws.specs.Interchange.{AreOthers, put_each, AreTheTwo}

-- The two terms are the same but for what is started in them: there the whole term of a fiber may be of such a pair, at as many places as there are, in what
-- runs and what does not yet, in each part of each form, so also in what such a fiber starts in turn, in finalizers, releases and loops. A pair is told which
-- names are bound round it
pub data StartsOthers (Pair : (ℕ → Bool) → Term → Term → Type 0) : (ℕ → Bool) → Term → Term → Type 0 where
  same : {bound : ℕ → Bool} {t : Term} → StartsOthers Pair bound t t
  starts : {bound : ℕ → Bool} {h : ℕ} {a a' b b' : Term} → Pair bound a a' → StartsOthers Pair (and_bound h bound) b b'
      → StartsOthers Pair bound (term.Start h a b) (term.Start h a' b')
  start : {bound : ℕ → Bool} {h : ℕ} {a a' b b' : Term} → StartsOthers Pair bound a a' → StartsOthers Pair (and_bound h bound) b b'
      → StartsOthers Pair bound (term.Start h a b) (term.Start h a' b')
  let_ : {bound : ℕ → Bool} {x : Option ℕ} {a a' b b' : Term} → StartsOthers Pair bound a a' → StartsOthers Pair (and_named x bound) b b'
      → StartsOthers Pair bound (term.Let x a b) (term.Let x a' b')
  handle : {bound : ℕ → Bool} {x : Option ℕ} {a a' b b' : Term} → StartsOthers Pair bound a a' → StartsOthers Pair (and_named x bound) b b'
      → StartsOthers Pair bound (term.Handle a x b) (term.Handle a' x b')
  if_ : {bound : ℕ → Bool} {w : Arg} {a a' b b' : Term} → StartsOthers Pair bound a a' → StartsOthers Pair bound b b'
      → StartsOthers Pair bound (term.If w a b) (term.If w a' b')
  for_ : {bound : ℕ → Bool} {i n : ℕ} {a a' : Term} → StartsOthers Pair (and_bound i bound) a a'
      → StartsOthers Pair bound (term.For i n a) (term.For i n a')
  mask : {bound : ℕ → Bool} {p : ℕ} {a a' : Term} → StartsOthers Pair (and_bound p bound) a a'
      → StartsOthers Pair bound (term.Mask p a) (term.Mask p a')
  poll : {bound : ℕ → Bool} {p : Arg} {a a' : Term} → StartsOthers Pair bound a a' → StartsOthers Pair bound (term.Poll p a) (term.Poll p a')
  oncancel : {bound : ℕ → Bool} {a a' f f' : Term} → StartsOthers Pair bound a a' → StartsOthers Pair bound f f'
      → StartsOthers Pair bound (term.OnCancel a f) (term.OnCancel a' f')
  bracket : {bound : ℕ → Bool} {x : Option ℕ} {a a' u u' r r' : Term} → StartsOthers Pair bound a a' → StartsOthers Pair (and_named x bound) u u'
      → StartsOthers Pair (and_named x bound) r r' → StartsOthers Pair bound (term.Bracket x a u r) (term.Bracket x a' u' r')
  bracket_case : {bound : ℕ → Bool} {x y z : ℕ} {a a' u u' s s' e e' d d' : Term} → StartsOthers Pair bound a a'
      → StartsOthers Pair (and_bound x bound) u u'
      → StartsOthers Pair (and_bound y (and_bound x bound)) s s' → StartsOthers Pair (and_bound z (and_bound x bound)) e e'
      → StartsOthers Pair (and_bound x bound) d d' → StartsOthers Pair bound (term.BracketCase x a u y s z e d) (term.BracketCase x a' u' y s' z e' d')
  join : {bound : ℕ → Bool} {f : Arg} {x e : ℕ} {a a' b b' d d' : Term} → StartsOthers Pair (and_bound x bound) a a'
      → StartsOthers Pair (and_bound e bound) b b'
      → StartsOthers Pair bound d d' → StartsOthers Pair bound (term.Join f x a e b d) (term.Join f x a' e b' d')
  try_take : {bound : ℕ → Bool} {q x : ℕ} {a a' b b' : Term} → StartsOthers Pair (and_bound x bound) a a' → StartsOthers Pair bound b b'
      → StartsOthers Pair bound (term.TryTake q x a b) (term.TryTake q x a' b')
  masked : {bound : ℕ → Bool} {r : ℕ} {a a' : Term} → StartsOthers Pair bound a a' → StartsOthers Pair bound (term.Masked r a) (term.Masked r a')
  opened : {bound : ℕ → Bool} {r : ℕ} {a a' : Term} → StartsOthers Pair bound a a' → StartsOthers Pair bound (term.Opened r a) (term.Opened r a')
  in_use : {bound : ℕ → Bool} {k : ℕ} {a a' r r' : Term} → StartsOthers Pair bound a a' → StartsOthers Pair bound r r'
      → StartsOthers Pair bound (term.InUse k a r) (term.InUse k a' r')
  in_use_case : {bound : ℕ → Bool} {k y z : ℕ} {a a' s s' e e' d d' : Term} → StartsOthers Pair bound a a'
      → StartsOthers Pair (and_bound y bound) s s'
      → StartsOthers Pair (and_bound z bound) e e' → StartsOthers Pair bound d d'
      → StartsOthers Pair bound (term.InUseCase k a y s z e d) (term.InUseCase k a' y s' z e' d')
  in_release : {bound : ℕ → Bool} {k : ℕ} {a a' : Term} {w : Done} → StartsOthers Pair bound a a'
      → StartsOthers Pair bound (term.InRelease k a w) (term.InRelease k a' w)
  loop : {bound : ℕ → Bool} {i k n : ℕ} {a a' : Term} → StartsOthers Pair (and_bound i bound) a a'
      → StartsOthers Pair bound (term.Loop i k n a) (term.Loop i k n a')

-- the whole terms of two fibers: of such a pair, or the same but for what they start
pub data BeginsOtherwise (Pair : (ℕ → Bool) → Term → Term → Type 0) : Term → Term → Type 0 where
  other : {t u : Term} → Pair none_bound t u → BeginsOtherwise Pair t u
  within : {t u : Term} → StartsOthers Pair none_bound t u → BeginsOtherwise Pair t u

-- the same begin but for such a term
pub record AreLikeOrigins (Pair : (ℕ → Bool) → Term → Term → Type 0) (b b' : Origin) : Type 0 where
  pub term : BeginsOtherwise Pair b.term b'.term
  pub next_is : b.next ≡ b'.next
  pub end_is : b.end ≡ b'.end

-- the two given terms, with the same numbers for their names but their own ones, none of which is bound round them
abbrev pub TheTwo : (ℕ → Bool) → Term → Term → (ℕ → Bool) → Term → Term → Type 0
TheTwo own t u bound a b = AreTheTwo own t u uncovered bound a b

-- a whole script's term is another one, with the second term for the first, where that is the whole term of a fiber: of main, or of one that is started
abbrev pub IsWithOtherFibers : (ℕ → Bool) → Term → Term → Term → Term → Type 0
IsWithOtherFibers own t u = BeginsOtherwise (TheTwo own t u)

-- a fiber begins with this term, with numbers for its names
pub data IsOfTerm (own : ℕ → Bool) (t : Term) : Term → Type 0 where
  with_numbers : (numbers : List (ℕ × ℕ)) → AreOthers own numbers → IsOfTerm own t (put_each numbers t)

-- a name that is not in scope
abbrev pub not_in : (ℕ → Option NameKind) → ℕ → Bool
not_in scope x = is_none (scope x)
