-- A fiber comes to an end: each of its steps, but for a request that is seen, leaves less work.
use Rattle.std.proofs.Common.{◌≤◌, length, All, ◌≡◌, ◌≢◌, ℕ, suc, ◌+◌, ◌-◌, ◌*◌, ◌<◌, Bool, List, [], ◌∷◌, refl, arith}
use Rattle.std.proofs.lemmas.List.Elements.{All-head, All-tail}
use Rattle.fx_term.specs.declared.done.Done.TheVariants.{Val}
use Rattle.fx_term.specs.declared.event.Event.TheVariants as event
use Rattle.fx_term.specs.Term.{Term, Never, Let, Handle, If, For, Mask, Poll, OnCancel, Bracket, BracketCase, Start, Join, TryTake, Finished, Masked, Opened}
use Rattle.fx_term.specs.Term.{InUse, InUseCase, InRelease, Loop, put}
use Rattle.fx_model.specs.Path.{Context, LetIn, plug, cleanup_terms}
use Rattle.fx_model.specs.Row.{Counts, Label, Shows, part_after, Row}
use Rattle.fx_model.specs.Row as row
use Rattle.fx_model.specs.Step.{Progress, Runs, Unwinds, CleansUp, HasEnded, Step}
use Rattle.fx_model.specs.Step as step
use Rattle.fx_model.specs.Run.{IsUnrequested, Leads}
use Rattle.fx_model.specs.PutsLeft.{puts_of}
use Rattle.fx_model.specs.Work.{work, cleanup_work, work_left}
use Rattle.fx_model.proofs.Measures.{kept_by_name, branch_within, cleanups_within}
use Rattle.fx_model.proofs.StepLabels.{row_tells}

-- a number for a name is no work
pub work_put : (x n : ℕ) (t : Term) → work (put x n t) ≡ work t
work_put x n (Let y a b) = let p = work_put x n a in let q = work_put x n b in cc
work_put x n (Handle a y b) = let p = work_put x n a in let q = work_put x n b in cc
work_put x n (If v a b) = let p = work_put x n a in let q = work_put x n b in cc
work_put x n (For y c a) = let p = work_put x n a in cc
work_put x n (Mask y a) = let p = work_put x n a in cc
work_put x n (Poll v a) = let p = work_put x n a in cc
work_put x n (OnCancel a b) = let p = work_put x n a in let q = work_put x n b in cc
work_put x n (Bracket y a b c) = let p = work_put x n a in let q = work_put x n b in let r = work_put x n c in cc
work_put x n (BracketCase y a u z b w c d) =
    let o = work_put x n a in let p = work_put x n u in let q = work_put x n b in let r = work_put x n c in let s = work_put x n d in cc
work_put x n (Start y a b) = let p = work_put x n a in let q = work_put x n b in cc
work_put x n (Join v y a z b c) = let p = work_put x n a in let q = work_put x n b in let r = work_put x n c in cc
work_put x n (TryTake k y a b) = let p = work_put x n a in let q = work_put x n b in cc
work_put x n (Masked k a) = let p = work_put x n a in cc
work_put x n (Opened k a) = let p = work_put x n a in cc
work_put x n (InUse k a b) = let p = work_put x n a in let q = work_put x n b in cc
work_put x n (InUseCase k a y b z c d) = let p = work_put x n a in let q = work_put x n b in let r = work_put x n c in let s = work_put x n d in cc
work_put x n (InRelease k a v) = let p = work_put x n a in cc
work_put x n (Loop y k c a) = let p = work_put x n a in cc
work_put x n _ = refl

-- a turn of a loop takes one from those that are left
turn_lowers : (m left w : ℕ) → left ≡ suc m → 1 + w + (2 + m * (2 + w)) < 2 + left * (2 + w)
turn_lowers m left w e = grind arith

-- a context has its own work beside that of its part
pub work_plug : (f : Context) (a : Term) → 1 + work (plug f a) ≡ work a + work (plug f (Finished (Val 0)))
work_plug (LetIn x b) a = omega arith
work_plug _ a = omega arith

-- each row of the table leaves less work
pub row_lowers : (k : Bool) (c d : Counts) (l : Label) (t t' : Term) → Row k c t l d t' → work t' < work t
row_lowers k c d l t t' (row.for_begins {n = n}) = let e : n - 0 ≡ n = omega arith in rw e (omega arith)
row_lowers k c d l t t' (row.loop_turns {i = i} {k = j} {n = n} {t = a} h) = rw (work_put i j a) (turn_lowers (n - (j + 1)) (n - j) (work a) (omega arith))
row_lowers k c d l t t' (row.let_value {x = x} {n = n} {b = b}) = let p = kept_by_name work work_put x n b in omega arith
row_lowers k c d l t t' (row.handle_error {x = x} {e = e} {b = b}) = let p = kept_by_name work work_put x e b in omega arith
row_lowers k c d l t t' (row.mask {p = p} {t = a}) = let q = work_put p c.masks a in omega arith
row_lowers k c d l t t' (row.acquired {x = x} {n = n} {u = u} {r = r}) =
    let p = kept_by_name work work_put x n u in let q = kept_by_name work work_put x n r in omega arith
row_lowers k c d l t t' (row.acquired_case {x = x} {y = y} {z = z} {n = n} {u = u} {s = s} {e = e} {d = g}) =
    let p = work_put x n (InUseCase c.acquired u y s z e g) in omega arith
row_lowers k c d l t t' (row.use_succeeded {y = y} {n = n} {s = s} {e = e} {d = g}) = let p = work_put y n s in omega arith
row_lowers k c d l t t' (row.use_erred {z = z} {i = i} {s = s} {e = e} {d = g}) = let p = work_put z i e in omega arith
row_lowers k c d l t t' (row.start {h = h} {b = b}) = let p = work_put h c.next b in omega arith
row_lowers k c d l t t' (row.joined {x = x} {e = e} {a = a} {b = b} {d = g} {o = o}) =
    let p = branch_within work work_put o x e a b g in omega arith
row_lowers k c d l t t' (row.tried_take {n = n} {x = x} {a = a}) = let p = work_put x n a in omega arith
row_lowers k c d l t t' (row.inside f {a = a} {a' = a'} e g r) =
    let here = row_lowers k c d l a a' r in let before = work_plug f a in let after = work_plug f a' in rw (e, g) (omega arith)
row_lowers k c d l t t' _ = omega arith

some_work : (t : Term) → 1 ≤ work t
some_work Never = omega arith
some_work _ = omega arith

-- the clean-ups of a path are a part of its work
cleanups_lower : (t : Term) → cleanup_work (cleanup_terms t) < work t
cleanups_lower t =
    let within = cleanups_within work 2 1 some_work (λ a f. omega arith) (λ k a r. omega arith)
    (λ k a y s z e d. omega arith) (λ f a. let p = work_plug f a in let q = some_work (plug f (Finished (Val 0))) in omega arith) t in
    omega arith

-- each step leaves less work, but for a request that is seen
pub step_lowers : (c d : Counts) (l : Label) (p q : Progress) → l ≢ Shows event.Seen → Step c p l d q → work_left q < work_left p
step_lowers c d l p q h (step.cancelled {t = t} m) = let e = cleanups_lower t in omega arith
step_lowers c d l p q h (step.seen m o) = absurd (h refl)
step_lowers c d l p q h (step.row {t = t} {t' = t'} m r) = let e = row_lowers _ c d l t t' r in omega arith
step_lowers c d l p q h (step.cleans {t = t} {t' = t'} r) = let e = row_lowers _ c d l t t' r in omega arith
step_lowers c d l p q h _ = omega arith

-- so there are no more of them than was left
pub leads_lower : (c d : Counts) (p q : Progress) (ls : List Label) → Leads c p ls d q → All IsUnrequested ls → length ls + work_left q ≤ work_left p
leads_lower c d p q [] r u = rw r.1 (omega arith)
leads_lower c d p q (l ∷ ls) r u =
    let here = step_lowers c r.0 l p r.1 (All-head IsUnrequested l ls u) r.2 in
    let rest = leads_lower r.0 d r.1 q ls r.3 (All-tail IsUnrequested l ls u) in
    omega arith

-- a step enters one mask, acquires one resource or puts one element at most, so these together and the work that is left are never more than before
pub step_work : {c d : Counts} {p q : Progress} {l : Label} → Step c p l d q
    → d.masks + d.acquired + puts_of l + work_left q ≤ c.masks + c.acquired + work_left p
step_work (step.cancelled {t = t} m) = let e = cleanups_lower t in omega arith
step_work {c} {d} {l = l} (step.row {t = t} {t' = t'} m r) = let e = row_lowers _ c d l t t' r in let f = (row_tells r).counted in omega arith
step_work {c} {d} {l = l} (step.cleans {t = t} {t' = t'} r) = let e = row_lowers _ c d l t t' r in let f = (row_tells r).counted in omega arith
step_work _ = omega arith
