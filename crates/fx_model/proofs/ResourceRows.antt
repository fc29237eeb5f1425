-- Each row of the table keeps a running term, and changes what is held as its label says.
use Rattle.std.proofs.Common.{◌≡◌, ℕ, Bool, List, [], ◌∷◌, ◌++◌, refl, ap}
use Rattle.fx_term.specs.declared.outcome.Outcome.{Outcome}
use Rattle.fx_term.specs.declared.outcome.Outcome.TheVariants as outcome
use Rattle.fx_term.specs.Term.{Term, put, put_named}
use Rattle.fx_term.specs.Forms.{IsCore}
use Rattle.fx_model.specs.Path.{Context, InUseIn, InUseCaseIn, InReleaseIn, plug}
use Rattle.fx_model.specs.Row.{Counts, Label, Row, part_after}
use Rattle.fx_model.specs.Row as row
use Rattle.fx_term.proofs.CoreTerms.{core_put, core_put_named}
use Rattle.fx_model.proofs.RunningTerms.{IsRunningTerm, core_runs, running_inside}
use Rattle.fx_model.proofs.HeldResources.{Held, Unreleased, BeingReleased, held_in, core_holds_none}
use Rattle.fx_model.proofs.Nesting.{Changes, changes_inside}

-- a part that was core and now goes on
begun : (t : Term) → IsCore t → IsRunningTerm t × (held_in t ≡ [])
begun t h = (core_runs t h, core_holds_none t h)

-- the branch of a `join` that is chosen
core_part_after : (o : Outcome) (x e : ℕ) (a b d : Term) → IsCore a → IsCore b → IsCore d → IsCore (part_after o x a e b d)
core_part_after (outcome.Succeeded n) x e a b d p q r = core_put x n a p
core_part_after (outcome.Errored n) x e a b d p q r = core_put e n b q
core_part_after outcome.Canceled x e a b d p q r = r

-- what is held in the part of a context that runs is held in the whole
context_changes : (l : Label) (f : Context) (a a' : Term) → Changes l (held_in a) (held_in a') → Changes l (held_in (plug f a)) (held_in (plug f a'))
context_changes l (InUseIn k r) a a' h = changes_inside _ _ _ _ h
context_changes l (InUseCaseIn k y s z e d) a a' h = changes_inside _ _ _ _ h
context_changes l (InReleaseIn k v) a a' h = changes_inside _ _ _ _ h
context_changes l _ a a' h = h

pub row_keeps_running : {k : Bool} {c d : Counts} {l : Label} {t t' : Term} → Row k c t l d t' → IsRunningTerm t
    → IsRunningTerm t' × Changes l (held_in t) (held_in t')
row_keeps_running (row.if_not_zero {a = a}) h = begun a h.0
row_keeps_running (row.if_zero {b = b}) h = begun b h.1
row_keeps_running row.for_begins h = (h, refl)
row_keeps_running (row.loop_turns {i = i} {k = j} {t = a} e) h = let g = begun (put i j a) (core_put i j a h) in ((g.0, h), g.1)
row_keeps_running (row.let_value {x = x} {n = n} {b = b}) h = begun (put_named x n b) (core_put_named x n b h.1)
row_keeps_running (row.handle_error {x = x} {e = n} {b = b}) h = begun (put_named x n b) (core_put_named x n b h.1)
row_keeps_running {c = c} (row.mask {p = p} {t = a}) h = begun (put p c.masks a) (core_put p c.masks a h)
row_keeps_running (row.poll {t = a}) h = begun a h
row_keeps_running {c = c} (row.acquired {x = x} {n = n} {u = u} {r = r}) h =
    let g = begun (put_named x n u) (core_put_named x n u h.1) in
    ((g.0, core_put_named x n r h.2), ap (λ (s : List Held). s ++ Unreleased c.acquired ∷ []) g.1)
row_keeps_running (row.used {k = j} {r = r}) h = let g = begun r h.1 in (g.0, ([], refl, ap (λ (s : List Held). s ++ BeingReleased j ∷ []) g.1))
row_keeps_running {c = c} (row.acquired_case {x = x} {n = n} {u = u} {s = s} {e = e} {d = d}) h =
    let g = begun (put x n u) (core_put x n u h.1) in
    ((g.0, core_put x n s h.2, core_put x n e h.3, core_put x n d h.4), ap (λ (held : List Held). held ++ Unreleased c.acquired ∷ []) g.1)
row_keeps_running (row.use_succeeded {k = j} {y = y} {n = n} {s = s}) h =
    let g = begun (put y n s) (core_put y n s h.1) in (g.0, ([], refl, ap (λ (held : List Held). held ++ BeingReleased j ∷ []) g.1))
row_keeps_running (row.use_erred {k = j} {z = z} {i = i} {e = e}) h =
    let g = begun (put z i e) (core_put z i e h.2) in (g.0, ([], refl, ap (λ (held : List Held). held ++ BeingReleased j ∷ []) g.1))
row_keeps_running {c = c} (row.start {h = x} {b = b}) h = begun (put x c.next b) (core_put x c.next b h.1)
row_keeps_running (row.joined {x = x} {e = e} {a = a} {b = b} {d = d} {o = o}) h =
    let g = begun (part_after o x a e b d) (core_part_after o x e a b d h.0 h.1 h.2) in (g.0, (g.1, tt))
row_keeps_running row.awaited h = (tt, (refl, tt))
row_keeps_running row.first_left h = (tt, (refl, tt))
row_keeps_running row.first_right h = (tt, (refl, tt))
row_keeps_running (row.tried_take {n = n} {x = x} {a = a}) h = begun (put x n a) (core_put x n a h.0)
row_keeps_running (row.found_empty {b = b}) h = begun b h.1
row_keeps_running (row.inside f {a = a} {a' = a'} e g r) h =
    let p = running_inside f a (rw e at h) in
    let k = row_keeps_running r p.0 in
    rw (e, g) (p.1 a' k.0, context_changes _ f a a' k.1)
row_keeps_running _ h = (tt, refl)
