-- How often a number was split off.
use Rattle.std.proofs.Common.{◌≡◌, ◌≢◌, ℕ, ◌+◌, ◌≤◌, Bool, true, false, List, [], ◌∷◌, ◌++◌, ◌⊎◌, inl, inr, ⊎_elim, length}
use Rattle.std.proofs.Common.{refl, sym, ◌∙◌, ap, subst, arith, eq-eqb, eqb-true}
use Rattle.std.specs.Prelude.{◌==◌}
use Rattle.std.specs.List.{filter, flat_map}
use Rattle.std.proofs.lemmas.List.{length-append}
use Rattle.std.proofs.lemmas.List.Elements.{filter-append}
use Rattle.fx_term.specs.Lists.{Among}
use Rattle.fx_term.proofs.ListLaws.{Among-append}
use Rattle.fx_term.specs.declared.begin.Begin.{Begin}
use Rattle.fx_word.specs.declared.entry.Entry.{Entry}
use Rattle.fx_word.specs.Entry.{splits_of}
use Rattle.fx_word.specs.Rule.{Apart}

-- a number that does not stand there was not split off
splits_none : (i : ℕ) (ps : List (ℕ × Begin)) → ((b : Begin) → Among (i, b) ps → ⊥) → splits_of i ps ≡ 0
splits_none i [] lacks = refl
splits_none i (p ∷ ps) lacks = by_test (p.0 == i) refl (splits_none i ps (λ b m. lacks b (inr m)))
  where
    by_test : (t : Bool) → (p.0 == i) ≡ t → splits_of i ps ≡ 0 → splits_of i (p ∷ ps) ≡ 0
    by_test true is rest = absurd (lacks p.1 (inl (ap (λ (k : ℕ). (k, p.1)) (sym (eqb-true p.0 i is)))))
    by_test false is rest = rw is rest

-- and one that stands there was, at least once
splits_some : (i : ℕ) (b : Begin) (ps : List (ℕ × Begin)) → Among (i, b) ps → 1 ≤ splits_of i ps
splits_some i b [] m = absurd m
splits_some i b (p ∷ ps) m = by_test (p.0 == i) refl
    (⊎_elim (λ e. inl (eq-eqb p.0 i (sym (ap (λ (q : ℕ × Begin). q.0) e)))) (λ k. inr (splits_some i b ps k)) m)
  where
    by_test : (t : Bool) → (p.0 == i) ≡ t → ((p.0 == i) ≡ true) ⊎ (1 ≤ splits_of i ps) → 1 ≤ splits_of i (p ∷ ps)
    by_test true is rest = rw is (omega arith)
    by_test false is rest = ⊎_elim (λ e. let z : ⊥ = cc in absurd z) (λ k. rw is k) rest

-- a further part, of a number that does not stand there
pub splits_once : (p : ℕ × Begin) (ps : List (ℕ × Begin)) → ((b : Begin) → Among (p.0, b) ps → ⊥) → ((i : ℕ) → splits_of i ps ≤ 1)
    → (i : ℕ) → splits_of i (p ∷ ps) ≤ 1
splits_once p ps lacks few i = by_test (p.0 == i) refl
  where
    by_test : (t : Bool) → (p.0 == i) ≡ t → splits_of i (p ∷ ps) ≤ 1
    by_test true is =
        let none = splits_none i ps (λ b m. lacks b (subst (λ (k : ℕ). Among (k, b) ps) (sym (eqb-true p.0 i is)) m)) in
        rw is (omega (arith, none))
    by_test false is = rw is (few i)

pub Apart-append : (xs ys : List Entry) → Apart xs → Apart ys → ((x y : Entry) → Among x xs → Among y ys → y.id ≢ x.id) → Apart (xs ++ ys)
Apart-append [] ys a b c = b
Apart-append (x ∷ xs) ys a b c = (
  (λ d k. ⊎_elim (λ m. a.0 d m) (λ m. c x d (inl refl) m) (Among-append xs ys d k)),
  Apart-append xs ys a.1 b (λ y z m k. c y z (inr m) k),
)

abbrev parts_of : List Entry → List (ℕ × Begin)
parts_of es = flat_map (λ (e : Entry). e.parts) es

both : (i : ℕ) (e : Entry) (es : List Entry) (n m : ℕ) → splits_of i e.parts ≡ n → splits_of i (parts_of es) ≡ m → splits_of i (parts_of (e ∷ es)) ≡ n + m
both i e es n m a b =
    ap length (filter-append (λ (p : ℕ × Begin). p.0 == i) e.parts (parts_of es))
    ∙ (length-append (filter (λ (p : ℕ × Begin). p.0 == i) e.parts) (filter (λ (p : ℕ × Begin). p.0 == i) (parts_of es)) ∙ omega (arith, a, b))

-- a number that none of the fibers split off
pub splits_never : (i : ℕ) (es : List Entry) → ((e : Entry) (b : Begin) → Among e es → Among (i, b) e.parts → ⊥) → splits_of i (parts_of es) ≡ 0
splits_never i [] lacks = refl
splits_never i (e ∷ es) lacks =
    both i e es 0 0 (splits_none i e.parts (λ b m. lacks e b (inl refl) m)) (splits_never i es (λ d b k m. lacks d b (inr k) m))

-- a number that one of the fibers split off once, and no other
pub splits_by_one : (i : ℕ) (b : Begin) (d : Entry) (es : List Entry) → Apart es → Among d es → Among (i, b) d.parts → splits_of i d.parts ≤ 1
    → ((e : Entry) (c : Begin) → Among e es → Among (i, c) e.parts → e.id ≡ d.id) → splits_of i (parts_of es) ≡ 1
splits_by_one i b d [] apart k m few same = absurd k
splits_by_one i b d (e ∷ es) apart k m few same = ⊎_elim
    (λ y.
    let some = splits_some i b d.parts m in
    both i e es 1 0
    (subst (λ (x : Entry). splits_of i x.parts ≡ 1) y (omega (arith, some, few)))
    (splits_never i es (λ x c n h. apart.0 x n (same x c (inr n) h ∙ ap (λ (u : Entry). u.id) y))))
    (λ n.
    both i e es 0 1
    (splits_none i e.parts (λ c h. apart.0 d n (sym (same e c (inl refl) h))))
    (splits_by_one i b d es apart.1 n m few (λ x c q h. same x c (inr q) h))) k
