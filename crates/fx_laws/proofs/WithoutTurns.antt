-- With `(pure 0)` for each `(cede)` a fiber makes the same steps.
use Rattle.std.proofs.Common.{◌≡◌, ℕ, Bool, not, Option, Some, None, List, [], ◌∷◌, ◌++◌, refl, sym, ◌∙◌, ap, subst}
use Rattle.fx_term.specs.declared.outcome.Outcome.{Outcome}
use Rattle.fx_term.specs.declared.outcome.Outcome.TheVariants.{Succeeded, Errored}
use Rattle.fx_term.specs.declared.outcome.Outcome.TheVariants as outcome
use Rattle.fx_term.specs.Term.{Term, Canceled, Never, Let, Handle, If, For, Mask, Poll, OnCancel, Bracket, BracketCase, Start, Join}
use Rattle.fx_term.specs.Term.{First, Offer, Take, TryTake, Masked, Opened, InUse, InUseCase, InRelease, Loop, Await, put, put_named}
use Rattle.fx_term.specs.Need.{need}
use Rattle.fx_mask.specs.Closing.{Closing, Seal, Region, without_region, is_none_closed}
use Rattle.fx_model.specs.Path.{Context, LetIn, HandleIn, OnCancelIn, AcquireIn, AcquireCaseIn, MaskedIn, OpenedIn, InUseIn, InUseCaseIn, InReleaseIn, plug}
use Rattle.fx_model.specs.Path.{path, leaf, closed_along, closed_at, closed_regions, CleanupTerm, Finalizer, Release, cleanup_terms, is_canceled_form, is_open}
use Rattle.fx_model.specs.Path.{must_cancel}
use Rattle.fx_model.specs.Row.{Counts, Label, Silent, Starts, Row, part_after, numbers_taken}
use Rattle.fx_model.specs.Row as rule
use Rattle.fx_model.specs.Origin.{child_origin}
use Rattle.fx_model.specs.Step.{Progress, Runs, Unwinds, CleansUp, HasEnded, Step, has_ended, looks_first, leaf_at}
use Rattle.fx_model.specs.Step as step
use Rattle.fx_model.specs.Outside.{Outside, outcome_at, can_step, leaf_can_step}
use Rattle.fx_laws.specs.WithoutTurns.{without_turns, cleanups_without_turns, progress_without_turns, origin_without_turns, label_without_turns}

pub put_without : (x n : ℕ) (t : Term) → without_turns (put x n t) ≡ put x n (without_turns t)
put_without x n (Let y a b) = let p = put_without x n a in let q = put_without x n b in cc
put_without x n (Handle a y b) = let p = put_without x n a in let q = put_without x n b in cc
put_without x n (If v a b) = let p = put_without x n a in let q = put_without x n b in cc
put_without x n (For y c a) = let p = put_without x n a in cc
put_without x n (Mask y a) = let p = put_without x n a in cc
put_without x n (Poll v a) = let p = put_without x n a in cc
put_without x n (OnCancel a f) = let p = put_without x n a in let q = put_without x n f in cc
put_without x n (Bracket y a u r) = let p = put_without x n a in let q = put_without x n u in let o = put_without x n r in cc
put_without x n (BracketCase y a u z s w e d) =
    let p = put_without x n a in let q = put_without x n u in let o = put_without x n s in let v = put_without x n e in let g = put_without x n d in cc
put_without x n (Start y a b) = let p = put_without x n a in let q = put_without x n b in cc
put_without x n (Join f y a z b c) = let p = put_without x n a in let q = put_without x n b in let o = put_without x n c in cc
put_without x n (TryTake q y a b) = let p = put_without x n a in let o = put_without x n b in cc
put_without x n (Masked r a) = let p = put_without x n a in cc
put_without x n (Opened r a) = let p = put_without x n a in cc
put_without x n (InUse k a r) = let p = put_without x n a in let q = put_without x n r in cc
put_without x n (InUseCase k u y s z e d) =
    let p = put_without x n u in let q = put_without x n s in let o = put_without x n e in let g = put_without x n d in cc
put_without x n (InRelease k a v) = let p = put_without x n a in cc
put_without x n (Loop y i c a) = let p = put_without x n a in cc
put_without x n _ = refl

pub named_without : (x : Option ℕ) (n : ℕ) (t : Term) → without_turns (put_named x n t) ≡ put_named x n (without_turns t)
named_without None n t = refl
named_without (Some x) n t = put_without x n t

pub need_without : (t : Term) → need (without_turns t) ≡ need t
need_without (Let y a b) = let p = need_without a in let q = need_without b in cc
need_without (Handle a y b) = let p = need_without a in let q = need_without b in cc
need_without (If v a b) = let p = need_without a in let q = need_without b in cc
need_without (For y c a) = let p = need_without a in cc
need_without (Mask y a) = need_without a
need_without (Poll v a) = need_without a
need_without (OnCancel a f) = let p = need_without a in let q = need_without f in cc
need_without (Bracket y a u r) = let p = need_without a in let q = need_without u in let o = need_without r in cc
need_without (BracketCase y a u z s w e d) =
    let p = need_without a in let q = need_without u in let o = need_without s in let v = need_without e in let g = need_without d in cc
need_without (Start y a b) = let p = need_without a in let q = need_without b in cc
need_without (Join f y a z b c) = let p = need_without a in let q = need_without b in let o = need_without c in cc
need_without (TryTake q y a b) = let p = need_without a in let o = need_without b in cc
need_without (Masked r a) = need_without a
need_without (Opened r a) = need_without a
need_without (InUse k a r) = let p = need_without a in let q = need_without r in cc
need_without (InUseCase k u y s z e d) =
    let p = need_without u in let q = need_without s in let o = need_without e in let g = need_without d in cc
need_without (InRelease k a v) = need_without a
need_without (Loop y i c a) = let p = need_without a in cc
need_without _ = refl

-- where such a term stands
pub leaf_without : (t : Term) → leaf (without_turns t) ≡ without_turns (leaf t)
leaf_without (Let y a b) = leaf_without a
leaf_without (Handle a y b) = leaf_without a
leaf_without (OnCancel a f) = leaf_without a
leaf_without (Bracket y a u r) = leaf_without a
leaf_without (BracketCase y a u z s w e d) = leaf_without a
leaf_without (Masked r a) = leaf_without a
leaf_without (Opened r a) = leaf_without a
leaf_without (InUse k a r) = leaf_without a
leaf_without (InUseCase k u y s z e d) = leaf_without u
leaf_without (InRelease k a v) = leaf_without a
leaf_without _ = refl

along_without : (outer : List Closing) (t : Term) → closed_along outer (path (without_turns t)) ≡ closed_along outer (path t)
along_without outer (Let y a b) = along_without outer a
along_without outer (Handle a y b) = along_without outer a
along_without outer (OnCancel a f) = along_without outer a
along_without outer (Bracket y a u r) = along_without (Seal ∷ outer) a
along_without outer (BracketCase y a u z s w e d) = along_without (Seal ∷ outer) a
along_without outer (Masked r a) = along_without (Region r ∷ outer) a
along_without outer (Opened r a) = along_without (without_region r outer) a
along_without outer (InUse k a r) = along_without outer a
along_without outer (InUseCase k u y s z e d) = along_without outer u
along_without outer (InRelease k a v) = along_without (Seal ∷ outer) a
along_without outer _ = refl

at_without : (outer : List Closing) (t : Term) → closed_at outer (without_turns t) ≡ closed_at outer t
at_without outer (Await f) = refl
at_without outer _ = refl

canceled_without : (t : Term) → is_canceled_form (without_turns t) ≡ is_canceled_form t
canceled_without Canceled = refl
canceled_without _ = refl

closed_without : (outer : List Closing) (t : Term) → closed_regions outer (without_turns t) ≡ closed_regions outer t
closed_without outer t =
    let p = along_without outer t in
    let q = leaf_without t in
    rw (p, q) (at_without (closed_along outer (path t)) (leaf t))

pub open_without : (t : Term) → is_open (without_turns t) ≡ is_open t
open_without t = ap is_none_closed (closed_without [] t)

pub must_without : (known : Bool) (t : Term) → must_cancel known (without_turns t) ≡ must_cancel known t
must_without known t =
    let p = open_without t in
    let q : is_canceled_form (leaf (without_turns t)) ≡ is_canceled_form (leaf t) = ap is_canceled_form (leaf_without t) ∙ canceled_without (leaf t) in
    rw (p, q) refl

appended : (xs ys : List CleanupTerm) → cleanups_without_turns (xs ++ ys) ≡ cleanups_without_turns xs ++ cleanups_without_turns ys
appended [] ys = refl
appended (Finalizer f ∷ xs) ys = ap (λ (zs : List CleanupTerm). Finalizer (without_turns f) ∷ zs) (appended xs ys)
appended (Release k r ∷ xs) ys = ap (λ (zs : List CleanupTerm). Release k (without_turns r) ∷ zs) (appended xs ys)

pub cleanups_without : (t : Term) → cleanup_terms (without_turns t) ≡ cleanups_without_turns (cleanup_terms t)
cleanups_without (Let y a b) = cleanups_without a
cleanups_without (Handle a y b) = cleanups_without a
cleanups_without (OnCancel a f) = let p = cleanups_without a in let q = appended (cleanup_terms a) (Finalizer f ∷ []) in cc
cleanups_without (Bracket y a u r) = cleanups_without a
cleanups_without (BracketCase y a u z s w e d) = cleanups_without a
cleanups_without (Masked r a) = cleanups_without a
cleanups_without (Opened r a) = cleanups_without a
cleanups_without (InUse k a r) = let p = cleanups_without a in let q = appended (cleanup_terms a) (Release k r ∷ []) in cc
cleanups_without (InUseCase k u y s z e d) = let p = cleanups_without u in let q = appended (cleanup_terms u) (Release k d ∷ []) in cc
cleanups_without (InRelease k a v) = cleanups_without a
cleanups_without _ = refl

abbrev context_without : Context → Context
context_without (LetIn x b) = LetIn x (without_turns b)
context_without (HandleIn x b) = HandleIn x (without_turns b)
context_without (OnCancelIn f) = OnCancelIn (without_turns f)
context_without (AcquireIn x u r) = AcquireIn x (without_turns u) (without_turns r)
context_without (AcquireCaseIn x u y s z e d) = AcquireCaseIn x (without_turns u) y (without_turns s) z (without_turns e) (without_turns d)
context_without (MaskedIn r) = MaskedIn r
context_without (OpenedIn r) = OpenedIn r
context_without (InUseIn k r) = InUseIn k (without_turns r)
context_without (InUseCaseIn k y s z e d) = InUseCaseIn k y (without_turns s) z (without_turns e) (without_turns d)
context_without (InReleaseIn k v) = InReleaseIn k v

plug_without : (f : Context) (a : Term) → without_turns (plug f a) ≡ plug (context_without f) (without_turns a)
plug_without (LetIn x b) a = refl
plug_without (HandleIn x b) a = refl
plug_without (OnCancelIn f) a = refl
plug_without (AcquireIn x u r) a = refl
plug_without (AcquireCaseIn x u y s z e d) a = refl
plug_without (MaskedIn r) a = refl
plug_without (OpenedIn r) a = refl
plug_without (InUseIn k r) a = refl
plug_without (InUseCaseIn k y s z e d) a = refl
plug_without (InReleaseIn k v) a = refl

part_without : (o : Outcome) (x : ℕ) (a : Term) (e : ℕ) (b d : Term)
    → without_turns (part_after o x a e b d) ≡ part_after o x (without_turns a) e (without_turns b) (without_turns d)
part_without (Succeeded n) x a e b d = put_without x n a
part_without (Errored n) x a e b d = put_without e n b
part_without outcome.Canceled x a e b d = refl

child_without : (n : ℕ) (t : Term) → origin_without_turns (child_origin n t) ≡ child_origin n (without_turns t)
child_without n t = let p = need_without t in rw p refl

row_without : {k : Bool} {c d : Counts} {t u : Term} {l : Label} → Row k c t l d u → Row k c (without_turns t) (label_without_turns l) d (without_turns u)
row_without rule.pure = rule.pure
row_without rule.raise = rule.raise
row_without rule.cede = rule.pure
row_without (rule.self_request h) = rule.self_request h
row_without rule.if_not_zero = rule.if_not_zero
row_without rule.if_zero = rule.if_zero
row_without rule.for_begins = rule.for_begins
row_without (rule.loop_turns {i = i} {k = k} {t = t} h) = rw (put_without i k t) (rule.loop_turns h)
row_without (rule.loop_ends h) = rule.loop_ends h
row_without (rule.let_value {x = x} {n = n} {b = b}) = rw (named_without x n b) rule.let_value
row_without rule.let_error = rule.let_error
row_without rule.handle_value = rule.handle_value
row_without (rule.handle_error {x = x} {e = e} {b = b}) = rw (named_without x e b) rule.handle_error
row_without {c = c} (rule.mask {p = p} {t = t}) = rw (put_without p c.masks t) rule.mask
row_without rule.poll = rule.poll
row_without rule.masked_ends = rule.masked_ends
row_without rule.opened_ends = rule.opened_ends
row_without rule.oncancel_ends = rule.oncancel_ends
row_without (rule.acquired {x = x} {n = n} {u = u} {r = r}) = rw (named_without x n u, named_without x n r) rule.acquired
row_without rule.acquire_fails = rule.acquire_fails
row_without (rule.acquired_case {x = x} {n = n} {u = u} {s = s} {e = e} {d = d}) =
    rw (put_without x n u, put_without x n s, put_without x n e, put_without x n d) rule.acquired_case
row_without rule.acquire_case_fails = rule.acquire_case_fails
row_without rule.used = rule.used
row_without (rule.use_succeeded {y = y} {n = n} {s = s}) = rw (put_without y n s) rule.use_succeeded
row_without (rule.use_erred {z = z} {i = i} {e = e}) = rw (put_without z i e) rule.use_erred
row_without rule.released = rule.released
row_without {k} {c} (rule.start {h = h} {a = a} {b = b}) =
    rw (put_without h c.next b, child_without c.next a, sym (need_without a)) rule.start
row_without (rule.joined {x = x} {e = e} {a = a} {b = b} {d = d} {o = o}) = rw (part_without o x a e b d) rule.joined
row_without rule.request = rule.request
row_without rule.awaited = rule.awaited
row_without rule.first_left = rule.first_left
row_without rule.first_right = rule.first_right
row_without rule.offered = rule.offered
row_without rule.tried_offer = rule.tried_offer
row_without rule.refused = rule.refused
row_without rule.taken = rule.taken
row_without (rule.tried_take {n = n} {x = x} {a = a}) = rw (put_without x n a) rule.tried_take
row_without rule.found_empty = rule.found_empty
row_without (rule.inside f {a = a} {a' = a'} e g r) =
    rule.inside (context_without f) (ap without_turns e ∙ plug_without f a) (ap without_turns g ∙ plug_without f a') (row_without r)

pub step_without : {c d : Counts} {p q : Progress} {l : Label} → Step c p l d q
    → Step c (progress_without_turns p) (label_without_turns l) d (progress_without_turns q)
step_without {c} (step.cancelled {t = t} must) = rw (sym (cleanups_without t)) (step.cancelled (must_without c.known t ∙ must))
step_without {c} (step.seen {t = t} free opened) = step.seen (must_without c.known t ∙ free) (open_without t ∙ opened)
step_without {c} {d} (step.row {t = t} {t' = u} {l = l} free r) =
    step.row (must_without c.known t ∙ free)
    (subst (λ (b : Bool). Row (not b) c (without_turns t) (label_without_turns l) d (without_turns u)) (sym (open_without t)) (row_without r))
step_without (step.succeeds free) = step.succeeds free
step_without (step.errs free) = step.errs free
step_without step.finalizer = step.finalizer
step_without step.release = step.release
step_without (step.cleans r) = step.cleans (row_without r)
step_without step.finalizer_ends = step.finalizer_ends
step_without step.release_ends = step.release_ends
step_without step.unwound = step.unwound

-- what others see of such a fiber, and whether it can step
pub outcome_without : (p : Progress) → outcome_at (progress_without_turns p) ≡ outcome_at p
outcome_without (HasEnded o) = refl
outcome_without _ = refl

pub ended_without : (p : Progress) → has_ended (progress_without_turns p) ≡ has_ended p
ended_without (HasEnded o) = refl
ended_without _ = refl

pub looks_without : (known : Bool) (p : Progress) → looks_first known (progress_without_turns p) ≡ looks_first known p
looks_without known (Runs t) = let o = open_without t in let m = must_without known t in cc
looks_without known (Unwinds xs) = refl
looks_without known (CleansUp k t xs) = refl
looks_without known (HasEnded o) = refl

waits_without : (o : Outside) (t : Term) → leaf_can_step o (without_turns t) ≡ leaf_can_step o t
waits_without o Never = refl
waits_without o (Offer q v) = refl
waits_without o (Take q) = refl
waits_without o (Join f x a e b d) = refl
waits_without o (Await f) = refl
waits_without o (First f g) = refl
waits_without o _ = refl

pub can_without : (o : Outside) (f : ℕ) (c : Counts) (p : Progress) → can_step o f c (progress_without_turns p) ≡ can_step o f c p
can_without o f c (Runs t) =
    let m = must_without c.known t in
    let p = open_without t in
    let l : leaf_can_step o (leaf (without_turns t)) ≡ leaf_can_step o (leaf t) = ap (leaf_can_step o) (leaf_without t) ∙ waits_without o (leaf t) in
    rw (m, p, l) refl
can_without o f c (Unwinds xs) = refl
can_without o f c (CleansUp k t xs) = ap (leaf_can_step o) (leaf_without t) ∙ waits_without o (leaf t)
can_without o f c (HasEnded x) = refl
