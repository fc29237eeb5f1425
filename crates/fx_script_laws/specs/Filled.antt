-- Terms of which one is the other with terms put for one another, anywhere in it.
use Rattle.std.specs.Prelude.{ℕ, ◌==◌, Bool, true, false, if◌then◌else◌, Option, Some, None}
use Rattle.fx_term.specs.declared.node.Arg.{Arg}
use Rattle.fx_term.specs.declared.done.Done.{Done}
use Rattle.fx_term.specs.Term.{Term}
use Rattle.fx_term.specs.Term as term
use Rattle.fx_script_laws.specs.Cover.{Cover, Sealed, uncovered, in_mask, in_poll}

-- the names that are bound round a place: none; this one too; and that of a binder that may have no name
abbrev pub none_bound : ℕ → Bool
none_bound z = false

abbrev pub and_bound : ℕ → (ℕ → Bool) → ℕ → Bool
and_bound x bound z = if z == x then true else bound z

abbrev pub and_named : Option ℕ → (ℕ → Bool) → ℕ → Bool
and_named None bound = bound
and_named (Some x) bound = and_bound x bound

-- The two terms are the same but for such pairs, each at the same place in both, at as many places as there are: in what runs and what does not yet, in each
-- part of each form, so also in what is started, in finalizers, releases and loops. A pair is told what closes its place for
-- certain, and which names are bound round it
pub data IsFilled (Pair : Cover → (ℕ → Bool) → Term → Term → Type 0) : Cover → (ℕ → Bool) → Term → Term → Type 0 where
  pair : {s : Cover} {bound : ℕ → Bool} {t u : Term} → Pair s bound t u → IsFilled Pair s bound t u
  same : {s : Cover} {bound : ℕ → Bool} {t : Term} → IsFilled Pair s bound t t
  let_ : {s : Cover} {bound : ℕ → Bool} {x : Option ℕ} {a a' b b' : Term} → IsFilled Pair s bound a a' → IsFilled Pair s (and_named x bound) b b'
      → IsFilled Pair s bound (term.Let x a b) (term.Let x a' b')
  handle : {s : Cover} {bound : ℕ → Bool} {x : Option ℕ} {a a' b b' : Term} → IsFilled Pair s bound a a' → IsFilled Pair s (and_named x bound) b b'
      → IsFilled Pair s bound (term.Handle a x b) (term.Handle a' x b')
  if_ : {s : Cover} {bound : ℕ → Bool} {w : Arg} {a a' b b' : Term} → IsFilled Pair s bound a a' → IsFilled Pair s bound b b'
      → IsFilled Pair s bound (term.If w a b) (term.If w a' b')
  for_ : {s : Cover} {bound : ℕ → Bool} {i n : ℕ} {a a' : Term} → IsFilled Pair s (and_bound i bound) a a'
      → IsFilled Pair s bound (term.For i n a) (term.For i n a')
  mask : {s : Cover} {bound : ℕ → Bool} {p : ℕ} {a a' : Term} → IsFilled Pair (in_mask s) (and_bound p bound) a a'
      → IsFilled Pair s bound (term.Mask p a) (term.Mask p a')
  poll : {s : Cover} {bound : ℕ → Bool} {p : Arg} {a a' : Term} → IsFilled Pair (in_poll s) bound a a' → IsFilled Pair s bound (term.Poll p a) (term.Poll p a')
  oncancel : {s : Cover} {bound : ℕ → Bool} {a a' f f' : Term} → IsFilled Pair s bound a a' → IsFilled Pair Sealed bound f f'
      → IsFilled Pair s bound (term.OnCancel a f) (term.OnCancel a' f')
  bracket : {s : Cover} {bound : ℕ → Bool} {x : Option ℕ} {a a' u u' r r' : Term} → IsFilled Pair Sealed bound a a' → IsFilled Pair s (and_named x bound) u u'
      → IsFilled Pair Sealed (and_named x bound) r r' → IsFilled Pair s bound (term.Bracket x a u r) (term.Bracket x a' u' r')
  bracket_case : {c : Cover} {bound : ℕ → Bool} {x y z : ℕ} {a a' u u' s s' e e' d d' : Term} → IsFilled Pair Sealed bound a a'
      → IsFilled Pair c (and_bound x bound) u u'
      → IsFilled Pair Sealed (and_bound y (and_bound x bound)) s s' → IsFilled Pair Sealed (and_bound z (and_bound x bound)) e e'
      → IsFilled Pair Sealed (and_bound x bound) d d' → IsFilled Pair c bound (term.BracketCase x a u y s z e d) (term.BracketCase x a' u' y s' z e' d')
  start : {s : Cover} {bound : ℕ → Bool} {h : ℕ} {a a' b b' : Term} → IsFilled Pair uncovered bound a a' → IsFilled Pair s (and_bound h bound) b b'
      → IsFilled Pair s bound (term.Start h a b) (term.Start h a' b')
  join : {s : Cover} {bound : ℕ → Bool} {f : Arg} {x e : ℕ} {a a' b b' d d' : Term} → IsFilled Pair s (and_bound x bound) a a'
      → IsFilled Pair s (and_bound e bound) b b'
      → IsFilled Pair s bound d d' → IsFilled Pair s bound (term.Join f x a e b d) (term.Join f x a' e b' d')
  try_take : {s : Cover} {bound : ℕ → Bool} {q x : ℕ} {a a' b b' : Term} → IsFilled Pair s (and_bound x bound) a a' → IsFilled Pair s bound b b'
      → IsFilled Pair s bound (term.TryTake q x a b) (term.TryTake q x a' b')
  masked : {s : Cover} {bound : ℕ → Bool} {r : ℕ} {a a' : Term} → IsFilled Pair (in_mask s) bound a a'
      → IsFilled Pair s bound (term.Masked r a) (term.Masked r a')
  opened : {s : Cover} {bound : ℕ → Bool} {r : ℕ} {a a' : Term} → IsFilled Pair (in_poll s) bound a a'
      → IsFilled Pair s bound (term.Opened r a) (term.Opened r a')
  in_use : {s : Cover} {bound : ℕ → Bool} {k : ℕ} {a a' r r' : Term} → IsFilled Pair s bound a a' → IsFilled Pair Sealed bound r r'
      → IsFilled Pair s bound (term.InUse k a r) (term.InUse k a' r')
  in_use_case : {c : Cover} {bound : ℕ → Bool} {k y z : ℕ} {a a' s s' e e' d d' : Term} → IsFilled Pair c bound a a'
      → IsFilled Pair Sealed (and_bound y bound) s s'
      → IsFilled Pair Sealed (and_bound z bound) e e' → IsFilled Pair Sealed bound d d'
      → IsFilled Pair c bound (term.InUseCase k a y s z e d) (term.InUseCase k a' y s' z e' d')
  in_release : {s : Cover} {bound : ℕ → Bool} {k : ℕ} {a a' : Term} {w : Done} → IsFilled Pair Sealed bound a a'
      → IsFilled Pair s bound (term.InRelease k a w) (term.InRelease k a' w)
  loop : {s : Cover} {bound : ℕ → Bool} {i k n : ℕ} {a a' : Term} → IsFilled Pair s (and_bound i bound) a a'
      → IsFilled Pair s bound (term.Loop i k n a) (term.Loop i k n a')
