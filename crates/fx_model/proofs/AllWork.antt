-- The work of a fiber, with that of the request that it can see and of the fiber that a step starts: each step leaves less.
use Rattle.std.proofs.Common.{◌≡◌, ℕ, ◌+◌, ◌<◌, ◌≤◌, Bool, true, false, refl, sym, ◌∙◌, ap, arith, le_refl}
use Rattle.std.specs.Prelude.{◌&&◌}
use Rattle.fx_term.specs.Term.{Term}
use Rattle.fx_model.specs.Path.{is_open, must_cancel}
use Rattle.fx_model.specs.Origin.{Origin}
use Rattle.fx_model.specs.Row.{Counts, Label, Silent, Shows, Learns, Starts, Row}
use Rattle.fx_model.specs.Row as row
use Rattle.fx_model.specs.Step.{Progress, Runs, Step}
use Rattle.fx_model.specs.Step as step
use Rattle.fx_model.specs.Work.{work, work_left}
use Rattle.fx_model.proofs.StepLabels.{row_tells}
use Rattle.fx_model.proofs.Work.{work_put, work_plug, row_lowers, step_lowers}

-- a request that is not known can be seen once
abbrev pub unknown : Bool → ℕ
unknown true = 0
unknown false = 1

-- the work of a fiber with these counts that is so far
abbrev pub work_of : Counts → Progress → ℕ
work_of c p = unknown c.known + work_left p

-- the work of the fiber that a step starts
abbrev pub work_started : Label → ℕ
work_started (Starts f b) = 2 + work b.term
work_started _ = 0

pub unknown_small : (b : Bool) → unknown b ≤ 1
unknown_small true = omega arith
unknown_small false = omega arith

known_lowers : (b b' : Bool) → (b ≡ true → b' ≡ true) → unknown b' ≤ unknown b
known_lowers true b' stays = rw (stays refl) (le_refl 0)
known_lowers false b' stays = unknown_small b'

-- a row that starts a fiber
start_lowers : {k : Bool} {c d : Counts} {f : ℕ} {b : Origin} {t t' : Term} → Row k c t (Starts f b) d t' → 2 + work b.term + work t' < work t
start_lowers {c = c} (row.start {h = h} {b = b}) = let p = work_put h c.next b in omega arith
start_lowers (row.inside g {a = a} {a' = a'} e h r) =
    let here = start_lowers r in let before = work_plug g a in let after = work_plug g a' in rw (e, h) (omega arith)

row_leaves : (k : Bool) (c d : Counts) (l : Label) (t t' : Term) → Row k c t l d t' → work_started l + work t' < work t
row_leaves k c d (Starts f b) t t' r = start_lowers r
row_leaves k c d Silent t t' r = let p = row_lowers k c d Silent t t' r in omega arith
row_leaves k c d (Shows e) t t' r = let p = row_lowers k c d (Shows e) t t' r in omega arith
row_leaves k c d (Learns f o e) t t' r = let p = row_lowers k c d (Learns f o e) t t' r in omega arith

-- a request is seen only where none is known
not_known : (known : Bool) (t : Term) → must_cancel known t ≡ false → is_open t ≡ true → known ≡ false
not_known false t m o = refl
not_known true t m o =
    absurd (let p : (is_open t && true) ≡ true = rw o refl in let q : must_cancel true t ≡ true = p in let e : true ≡ false = sym q ∙ m in cc)

seen_lowers : (known : Bool) (t : Term) → must_cancel known t ≡ false → is_open t ≡ true → unknown true + (1 + work t) < unknown known + (1 + work t)
seen_lowers known t m o = let e : unknown known ≡ 1 = ap unknown (not_known known t m o) in omega arith

-- each step leaves less, that of a fiber that it starts included
pub step_leaves_less : {c d : Counts} {p q : Progress} {l : Label} → Step c p l d q → work_started l + work_of d q < work_of c p
step_leaves_less {c = c} {d = d} {l = l} (step.cancelled {t = t} m) = let e = step_lowers c d l _ _ (λ h. cc) (step.cancelled {t = t} m) in omega arith
step_leaves_less {c = c} (step.seen {t = t} m o) = let e = seen_lowers c.known t m o in omega arith
step_leaves_less {c = c} {d = d} {l = l} (step.row {t = t} {t' = t'} m r) =
    let a = row_leaves _ c d l t t' r in
    let e = known_lowers c.known d.known (row_tells r).known in
    omega arith
step_leaves_less {c = c} {d = d} {l = l} (step.cleans {t = t} {t' = t'} r) =
    let a = row_leaves _ c d l t t' r in
    let e = known_lowers c.known d.known (row_tells r).known in
    omega arith
step_leaves_less _ = omega arith
