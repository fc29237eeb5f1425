-- A fiber's range has room for all that its term can start.
use Rattle.std.proofs.Common.{◌≡◌, ℕ, ◌+◌, ◌-◌, ◌≤◌, Bool, List, [], ◌∷◌, refl, arith}
use Rattle.fx_term.specs.Term.{Finished, Term, Let, Handle, If, For, Mask, Poll, OnCancel, Bracket, BracketCase, Start, Join, TryTake, Masked, Opened, InUse}
use Rattle.fx_term.specs.Term.{InUseCase, InRelease, Loop, put}
use Rattle.fx_term.specs.Need.{need}
use Rattle.fx_model.specs.Path.{Context, LetIn, plug, cleanup_terms}
use Rattle.fx_model.proofs.Measures.{kept_by_name, branch_within, one_turn, cleanups_within}
use Rattle.fx_term.specs.declared.done.Done.TheVariants.{Val}
use Rattle.fx_model.specs.Row.{Counts, Label, Starts, part_after, Row}
use Rattle.fx_model.specs.Origin.{Origin}
use Rattle.fx_model.specs.Row as row
use Rattle.fx_model.specs.Step.{Progress, Runs, Unwinds, CleansUp, HasEnded, Step}
use Rattle.fx_model.specs.Step as step
use Rattle.fx_model.specs.Run.{first_counts, Leads, IsRun}
use Rattle.fx_model.specs.NeedLeft.{cleanup_need, need_left, HasRoom, StartsInItsRange}
use Rattle.fx_model.proofs.StepLabels.{StartsNext, step_tells}

-- a number for a name leaves the need as it is
put_need : (x n : ℕ) (t : Term) → need (put x n t) ≡ need t
put_need x n (Let y a b) = let p = put_need x n a in let q = put_need x n b in cc
put_need x n (Handle a y b) = let p = put_need x n a in let q = put_need x n b in cc
put_need x n (If v a b) = let p = put_need x n a in let q = put_need x n b in cc
put_need x n (For y c a) = let p = put_need x n a in cc
put_need x n (Mask y a) = let p = put_need x n a in cc
put_need x n (Poll v a) = let p = put_need x n a in cc
put_need x n (OnCancel a b) = let p = put_need x n a in let q = put_need x n b in cc
put_need x n (Bracket y a b c) = let p = put_need x n a in let q = put_need x n b in let r = put_need x n c in cc
put_need x n (BracketCase y a u z b w c d) =
    let o = put_need x n a in let p = put_need x n u in let q = put_need x n b in let r = put_need x n c in let s = put_need x n d in cc
put_need x n (Start y a b) = let p = put_need x n a in let q = put_need x n b in cc
put_need x n (Join v y a z b c) = let p = put_need x n a in let q = put_need x n b in let r = put_need x n c in cc
put_need x n (TryTake k y a b) = let p = put_need x n a in let q = put_need x n b in cc
put_need x n (Masked k a) = let p = put_need x n a in cc
put_need x n (Opened k a) = let p = put_need x n a in cc
put_need x n (InUse k a b) = let p = put_need x n a in let q = put_need x n b in cc
put_need x n (InUseCase k a y b z c d) = let p = put_need x n a in let q = put_need x n b in let r = put_need x n c in let s = put_need x n d in cc
put_need x n (InRelease k a v) = let p = put_need x n a in cc
put_need x n (Loop y k c a) = let p = put_need x n a in cc
put_need x n _ = refl

-- a context has its own need beside that of its part
need_plug : (f : Context) (a : Term) → need (plug f a) ≡ need a + need (plug f (Finished (Val 0)))
need_plug (LetIn x b) a = omega arith
need_plug _ a = omega arith

-- what was used and what can still be used are together no more than before
row_need : {k : Bool} {c d : Counts} {l : Label} {t t' : Term} → Row k c t l d t' → d.next + need t' ≤ c.next + need t
row_need (row.for_begins {n = n}) = let e : n - 0 ≡ n = omega arith in rw e (omega arith)
row_need (row.loop_turns {i = i} {k = j} {n = n} {t = a} h) =
    let p = put_need i j a in let q = one_turn (n - (j + 1)) (n - j) (need a) (omega arith) in omega arith
row_need (row.let_value {x = x} {n = n} {b = b}) = let p = kept_by_name need put_need x n b in omega arith
row_need (row.handle_error {x = x} {e = e} {b = b}) = let p = kept_by_name need put_need x e b in omega arith
row_need {c = c} (row.mask {p = p} {t = a}) = let q = put_need p c.masks a in omega arith
row_need (row.acquired {x = x} {n = n} {u = u} {r = r}) = let p = kept_by_name need put_need x n u in let q = kept_by_name need put_need x n r in omega arith
row_need {c = c} (row.acquired_case {x = x} {y = y} {z = z} {n = n} {u = u} {s = s} {e = e} {d = d}) =
    let p = put_need x n (InUseCase c.acquired u y s z e d) in omega arith
row_need (row.use_succeeded {y = y} {n = n} {s = s}) = let p = put_need y n s in omega arith
row_need (row.use_erred {z = z} {i = i} {e = e}) = let p = put_need z i e in omega arith
row_need {c = c} (row.start {h = h} {b = b}) = let p = put_need h c.next b in omega arith
row_need (row.joined {x = x} {e = e} {a = a} {b = b} {d = g} {o = o}) = let p = branch_within need put_need o x e a b g in omega arith
row_need (row.tried_take {n = n} {x = x} {a = a}) = let p = put_need x n a in omega arith
row_need (row.inside f {a = a} {a' = a'} e g r) =
    let here = row_need r in let before = need_plug f a in let after = need_plug f a' in rw (e, g) (omega arith)
row_need _ = omega arith

-- the clean-ups of a path are a part of the term
cleanups_need : (t : Term) → cleanup_need (cleanup_terms t) ≤ need t
cleanups_need t =
    let within = cleanups_within need 0 0 (λ t. omega arith) (λ a f. omega arith) (λ k a r. omega arith) (λ k a y s z e d. omega arith)
    (λ f a. let p = need_plug f a in omega arith) t in
    omega arith

pub step_need : {c d : Counts} {p q : Progress} {l : Label} → Step c p l d q → d.next + need_left q ≤ c.next + need_left p
step_need (step.cancelled {t = t} m) = let e = cleanups_need t in omega arith
step_need (step.row m r) = row_need r
step_need (step.cleans r) = let e = row_need r in omega arith
step_need _ = omega arith

-- steps one after another
leads_need : (c d : Counts) (p q : Progress) (ls : List Label) → Leads c p ls d q → c.next + need_left p ≤ c.end → d.next + need_left q ≤ d.end
leads_need c d p q [] r room = rw (r.0, r.1) room
leads_need c d p q (l ∷ ls) r room = leads_need r.0 d r.1 q ls r.3 (let n = step_need r.2 in let e = (step_tells r.2).end in omega arith)

-- where the range that a fiber begins with has room for its term, what is left of it has room at each progress
pub run_need : (b : Origin) (ls : List Label) (c : Counts) (p : Progress) → HasRoom b → IsRun b ls c p → c.next + need_left p ≤ c.end
run_need b ls c p room r = leads_need (first_counts b) c (Runs b.term) p ls r room

-- so a start takes its numbers in that range
pub run_start : (b : Origin) (ls : List Label) (c : Counts) (p : Progress) → HasRoom b → IsRun b ls c p → StartsInItsRange c p
run_start b ls c p room r d q f child st =
    let t : StartsNext c d f child = (step_tells st).takes in
    let left = run_need b ls c p room r in
    let n = step_need st in
    let p1 = t.number in let p2 = t.next in let p3 = t.end in let p4 = t.after in
    record { number = t.number; next = omega arith; room = t.end; within = omega arith }
