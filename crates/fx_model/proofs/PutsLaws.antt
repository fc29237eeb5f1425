-- What a fiber has put and what it can still put are never more together than its term has.
use Rattle.std.proofs.Common.{◌≡◌, ℕ, ◌+◌, ◌-◌, ◌≤◌, Bool, List, [], ◌∷◌, refl, arith}
use Rattle.fx_term.specs.Term.{Finished, Term, Let, Handle, If, For, Mask, Poll, OnCancel, Bracket, BracketCase, Start, Join, TryTake, Masked, Opened, InUse}
use Rattle.fx_term.specs.Term.{InUseCase, InRelease, Loop, put}
use Rattle.fx_model.specs.Path.{Context, LetIn, plug, cleanup_terms}
use Rattle.fx_model.proofs.Measures.{kept_by_name, branch_within, one_turn, cleanups_within}
use Rattle.fx_term.specs.declared.done.Done.TheVariants.{Val}
use Rattle.fx_model.specs.Row.{Counts, Label, part_after, Row}
use Rattle.fx_model.specs.Origin.{Origin}
use Rattle.fx_model.specs.Row as row
use Rattle.fx_model.specs.Step.{Progress, Runs, Step}
use Rattle.fx_model.specs.Step as step
use Rattle.fx_model.specs.Run.{first_counts, Leads, IsRun}
use Rattle.fx_model.specs.PutsLeft.{puts, cleanup_puts, puts_left, puts_of, puts_made}

-- a number for a name leaves the puts as they are
put_puts : (x n : ℕ) (t : Term) → puts (put x n t) ≡ puts t
put_puts x n (Let y a b) = let p = put_puts x n a in let q = put_puts x n b in cc
put_puts x n (Handle a y b) = let p = put_puts x n a in let q = put_puts x n b in cc
put_puts x n (If v a b) = let p = put_puts x n a in let q = put_puts x n b in cc
put_puts x n (For y c a) = let p = put_puts x n a in cc
put_puts x n (Mask y a) = let p = put_puts x n a in cc
put_puts x n (Poll v a) = let p = put_puts x n a in cc
put_puts x n (OnCancel a b) = let p = put_puts x n a in let q = put_puts x n b in cc
put_puts x n (Bracket y a b c) = let p = put_puts x n a in let q = put_puts x n b in let r = put_puts x n c in cc
put_puts x n (BracketCase y a u z b w c d) =
    let o = put_puts x n a in let p = put_puts x n u in let q = put_puts x n b in let r = put_puts x n c in let s = put_puts x n d in cc
put_puts x n (Start y a b) = let p = put_puts x n a in let q = put_puts x n b in cc
put_puts x n (Join v y a z b c) = let p = put_puts x n a in let q = put_puts x n b in let r = put_puts x n c in cc
put_puts x n (TryTake k y a b) = let p = put_puts x n a in let q = put_puts x n b in cc
put_puts x n (Masked k a) = let p = put_puts x n a in cc
put_puts x n (Opened k a) = let p = put_puts x n a in cc
put_puts x n (InUse k a b) = let p = put_puts x n a in let q = put_puts x n b in cc
put_puts x n (InUseCase k a y b z c d) = let p = put_puts x n a in let q = put_puts x n b in let r = put_puts x n c in let s = put_puts x n d in cc
put_puts x n (InRelease k a v) = let p = put_puts x n a in cc
put_puts x n (Loop y k c a) = let p = put_puts x n a in cc
put_puts x n _ = refl

-- a context has its own puts beside those of its part
puts_plug : (f : Context) (a : Term) → puts (plug f a) ≡ puts a + puts (plug f (Finished (Val 0)))
puts_plug (LetIn x b) a = omega arith
puts_plug _ a = omega arith

-- each row of the table
row_puts : {k : Bool} {c d : Counts} {l : Label} {t t' : Term} → Row k c t l d t' → puts_of l + puts t' ≤ puts t
row_puts (row.for_begins {n = n}) = let e : n - 0 ≡ n = omega arith in rw e (omega arith)
row_puts (row.loop_turns {i = i} {k = j} {n = n} {t = a} h) =
    let p = put_puts i j a in let q = one_turn (n - (j + 1)) (n - j) (puts a) (omega arith) in omega arith
row_puts (row.let_value {x = x} {n = n} {b = b}) = let p = kept_by_name puts put_puts x n b in omega arith
row_puts (row.handle_error {x = x} {e = e} {b = b}) = let p = kept_by_name puts put_puts x e b in omega arith
row_puts {c = c} (row.mask {p = p} {t = a}) = let q = put_puts p c.masks a in omega arith
row_puts (row.acquired {x = x} {n = n} {u = u} {r = r}) = let p = kept_by_name puts put_puts x n u in let q = kept_by_name puts put_puts x n r in omega arith
row_puts {c = c} (row.acquired_case {x = x} {y = y} {z = z} {n = n} {u = u} {s = s} {e = e} {d = d}) =
    let p = put_puts x n (InUseCase c.acquired u y s z e d) in omega arith
row_puts (row.use_succeeded {y = y} {n = n} {s = s}) = let p = put_puts y n s in omega arith
row_puts (row.use_erred {z = z} {i = i} {e = e}) = let p = put_puts z i e in omega arith
row_puts {c = c} (row.start {h = h} {b = b}) = let p = put_puts h c.next b in omega arith
row_puts (row.joined {x = x} {e = e} {a = a} {b = b} {d = g} {o = o}) = let p = branch_within puts put_puts o x e a b g in omega arith
row_puts (row.tried_take {n = n} {x = x} {a = a}) = let p = put_puts x n a in omega arith
row_puts (row.inside f {a = a} {a' = a'} e g r) =
    let here = row_puts r in let before = puts_plug f a in let after = puts_plug f a' in rw (e, g) (omega arith)
row_puts _ = omega arith

-- the clean-ups of a path are a part of the term
cleanups_puts : (t : Term) → cleanup_puts (cleanup_terms t) ≤ puts t
cleanups_puts t =
    let within = cleanups_within puts 0 0 (λ t. omega arith) (λ a f. omega arith) (λ k a r. omega arith) (λ k a y s z e d. omega arith)
    (λ f a. let p = puts_plug f a in omega arith) t in
    omega arith

-- each step of a fiber
step_puts : {c d : Counts} {p q : Progress} {l : Label} → Step c p l d q → puts_of l + puts_left q ≤ puts_left p
step_puts (step.cancelled {t = t} m) = let e = cleanups_puts t in omega arith
step_puts (step.row m r) = row_puts r
step_puts (step.cleans r) = let e = row_puts r in omega arith
step_puts _ = omega arith

-- steps one after another
leads_puts : (c d : Counts) (p q : Progress) (ls : List Label) → Leads c p ls d q → puts_made ls + puts_left q ≤ puts_left p
leads_puts c d p q [] r = rw r.1 (omega arith)
leads_puts c d p q (l ∷ ls) r = let here = step_puts r.2 in let rest = leads_puts r.0 d r.1 q ls r.3 in omega arith

-- a fiber puts no more than its term has
pub run_puts : (b : Origin) (ls : List Label) (d : Counts) (q : Progress) → IsRun b ls d q → puts_made ls + puts_left q ≤ puts b.term
run_puts b ls d q r = leads_puts (first_counts b) d (Runs b.term) q ls r
