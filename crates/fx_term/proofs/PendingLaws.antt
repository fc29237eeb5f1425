-- Pending nodes as spots, and a stack of them that grows by the parts of a node.
use Rattle.std.proofs.Common.{◌≡◌, ℕ, suc, ◌<◌, ◌≤◌, Bool, true, false, if◌then◌else◌}
use Rattle.std.proofs.Common.{Option, Some, None, get_or, drop, List, [], ◌∷◌, ◌++◌, length, map, take, reverse, refl, sym, ◌∙◌, ap, subst, arith, append_assoc}
use Rattle.std.proofs.lemmas.List.{append-nil, map_push, length_push, reverse-append, take_all, take-take, take-append-le, length-take-le}
use Rattle.fx_term.specs.declared.code.signature.Part.{Part}
use Rattle.fx_term.specs.declared.name_kind.NameKind.{NameKind}
use Rattle.fx_term.specs.declared.name_kind.NameKind.TheVariants as kind
use Rattle.fx_term.specs.declared.code.walk.Pending.{Pending}
use Rattle.fx_term.specs.Signature.{present}
use Rattle.fx_term.specs.Turns.{turns_inside}
use Rattle.fx_term.specs.Walk.{Spot, kinds_inside, kinds_under, spot_of}
use Rattle.fx_term.specs.Pending.{with_own, path_to, seen_past, spot_at, AreNested, own_of, inner_of, under, ArePushed}
use Rattle.fx_term.proofs.PresentLaws.{present_from}
use Rattle.fx_term.proofs.SeenLaws.{seen_under, seen_all}

path_under : (path : List NameKind) (parent : Pending) (p : Part) → path_to path (under path parent p) ≡ with_own (inner_of p) (with_own (own_of p) path)
path_under path parent p = ap (λ ks. with_own (inner_of p) (with_own (own_of p) ks)) (take_all (length path) path (omega arith))

-- names that are bound stand behind those that are there
own_longer : (own : Option NameKind) (path : List NameKind) → length path ≤ length (with_own own path)
own_longer None path = omega arith
own_longer (Some k) path = omega (arith, length_push path k)

take_own : (n : ℕ) (own : Option NameKind) (path : List NameKind) → n ≤ length path → take n (with_own own path) ≡ take n path
take_own n None path within = refl
take_own n (Some k) path within = take-append-le n path (k ∷ []) within

-- a pending node keeps its path as scopes below it are left and entered
pub path_kept : (path : List NameKind) (p q : Pending) → q.outer ≤ p.outer → p.outer ≤ length path → path_to (path_to path p) q ≡ path_to path q
path_kept path p q below within =
    let round = take p.outer path in
    let near : q.outer ≤ length round = omega (arith, length-take-le p.outer path within) in
    let nearer : q.outer ≤ length (with_own p.own round) = omega (arith, own_longer p.own round) in
    ap (λ ks. with_own q.inner (with_own q.own ks))
    (take_own q.outer p.inner (with_own p.own round) nearer ∙ take_own q.outer p.own round near ∙ take-take q.outer p.outer path below)

-- all names round a pending node are on the path to it
pub path_reaches : (path : List NameKind) (p : Pending) → p.outer ≤ length path → p.outer ≤ length (path_to path p)
path_reaches path p within =
    let round = take p.outer path in
    omega (arith, length-take-le p.outer path within, own_longer p.own round, own_longer p.inner (with_own p.own round))

-- nested ones
pub nested_push : (least : ℕ) (stack : List Pending) (p : Pending) (most : ℕ) → AreNested least stack most → p.outer ≡ most
    → p.foreign ≤ p.outer → AreNested least (stack ++ p ∷ []) most
nested_push least [] p most h e le = (omega arith, le, omega arith)
nested_push least (q ∷ stack) p most h e le = (h.0, h.1, nested_push q.outer stack p most h.2 e le)

pub nested_more : (least : ℕ) (stack : List Pending) (most more : ℕ) → AreNested least stack most → most ≤ more → AreNested least stack more
nested_more least [] most more h le = omega arith
nested_more least (q ∷ stack) most more h le = (h.0, h.1, nested_more q.outer stack most more h.2 le)

pub nested_least : (least : ℕ) (stack : List Pending) (most : ℕ) → AreNested least stack most → least ≤ most
nested_least least [] most h = h
nested_least least (q ∷ stack) most h = let le = nested_least q.outer stack most h.2 in omega arith

pub nested_last : (least : ℕ) (stack : List Pending) (p : Pending) (most : ℕ) → AreNested least (stack ++ p ∷ []) most
    → AreNested least stack p.outer × (p.foreign ≤ p.outer) × p.outer ≤ most
nested_last least [] p most h = (h.0, h.1, h.2)
nested_last least (q ∷ stack) p most h = let rest = nested_last q.outer stack p most h.2 in ((h.0, h.1, rest.0), rest.1, rest.2)

-- those below the last are at the same spots as the last one's scope is entered
pub spots_kept : (path : List NameKind) (p : Pending) (least : ℕ) (stack : List Pending) → AreNested least stack p.outer → p.outer ≤ length path
    → map (spot_at (path_to path p)) stack ≡ map (spot_at path) stack
spots_kept path p least [] h within = refl
spots_kept path p least (q ∷ stack) h within =
    let le = nested_least q.outer stack p.outer h.2 in
    let here = path_kept path p q le within in
    let rest = spots_kept path p q.outer stack h.2 within in
    cc

-- parts that are pushed one by one, the last one first
pub pushed_none : (path : List NameKind) (old : List Pending) → ArePushed path [] old old
pushed_none path old = record { spots = sym (append-nil (map (spot_at path) old)); nested = λ h. h }

-- entries that are pushed one by one, the last one first
abbrev pub FromPushed : List NameKind → Pending → List (Option Part) → ℕ → List Pending → List Pending → Type 0
FromPushed path parent entries i old new =
    ArePushed path (map (spot_of (seen_past parent.foreign path) parent.turns) (present (drop i entries))) old new

module _ (path : List NameKind) (parent : Pending) (near : parent.foreign ≤ length path) where
  -- the kinds as the parent's fiber sees them
  abbrev seen_here : List NameKind
  seen_here = seen_past parent.foreign path

  module _ (p : Part) where
    foreign_near : (e : Bool) → (if e then length path else parent.foreign) ≤ length path
    foreign_near true = omega arith
    foreign_near false = near

    kinds_outside : (e : Bool)
        → seen_past (if e then length path else parent.foreign) (with_own (own_of p) path) ≡ kinds_under p.binder p.kind (kinds_inside e seen_here)
    kinds_outside true =
        seen_under (length path) path p.kind p.binder (omega arith) ∙ ap (kinds_under p.binder p.kind) (seen_all parent.foreign path)
    kinds_outside false = seen_under parent.foreign path p.kind p.binder near

    kinds_there : (e : Bool) → seen_past (if e then length path else parent.foreign) (with_own (inner_of p) (with_own (own_of p) path))
        ≡ kinds_under p.inner kind.Value (kinds_under p.binder p.kind (kinds_inside e seen_here))
    kinds_there e =
        let foreign = if e then length path else parent.foreign in
        seen_under foreign (with_own (own_of p) path) kind.Value p.inner (omega (arith, foreign_near e, own_longer (own_of p) path))
        ∙ ap (kinds_under p.inner kind.Value) (kinds_outside e)

    spot_is : spot_at path (under path parent p) ≡ spot_of seen_here parent.turns p
    spot_is =
        ap (λ (ks : List NameKind). record { id = p.node.0; kinds = ks; turns = turns_inside parent.turns p.count })
        (ap (seen_past (if p.elsewhere then length path else parent.foreign)) (path_under path parent p) ∙ kinds_there p.elsewhere)

    pub pushed_more : (ps : List Spot) (old mid new : List Pending) → ArePushed path ps old mid → new ≡ mid ++ under path parent p ∷ []
        → ArePushed path (spot_of seen_here parent.turns p ∷ ps) old new
    pushed_more ps old mid new below e = record {
      spots = ap (map (spot_at path)) e ∙ map_push (spot_at path) mid (under path parent p)
          ∙ ap (λ s. map (spot_at path) mid ++ s ∷ []) spot_is
          ∙ ap (λ xs. xs ++ spot_of seen_here parent.turns p ∷ []) below.spots
          ∙ append_assoc (map (spot_at path) old) (reverse ps) (spot_of seen_here parent.turns p ∷ [])
          ∙ ap (λ xs. map (spot_at path) old ++ xs) (sym (reverse-append (spot_of seen_here parent.turns p ∷ []) ps));
      nested = λ h. subst (λ xs. AreNested 0 xs (length path)) (sym e)
          (nested_push 0 mid (under path parent p) (length path) (below.nested h) refl (foreign_near p.elsewhere));
    }

  -- an entry with a part is pushed above those after it
  pub pushed_entry : (entries : List (Option Part)) (old : List Pending) (i : ℕ) (d : Option Part) → i < length entries
      → (mid : List Pending) → FromPushed path parent entries (suc i) old mid → (p : Part) (new : List Pending) → get_or entries i d ≡ Some p
      → new ≡ mid ++ under path parent p ∷ [] → FromPushed path parent entries i old new
  pushed_entry entries old i d lt mid below p new e pushed =
      subst (λ ps. ArePushed path (map (spot_of seen_here parent.turns) ps) old new) (sym (present_from entries i d p lt e))
      (pushed_more p (map (spot_of seen_here parent.turns) (present (drop (suc i) entries))) old mid new below pushed)
