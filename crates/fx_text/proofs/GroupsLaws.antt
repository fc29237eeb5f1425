-- Reading groups up to a `)`, one by one.
use Rattle.std.proofs.Common.{
  ◌≡◌,
  ℕ,
  zero,
  suc,
  cond,
  ◌<◌,
  ◌≤◌,
  Bool,
  true,
  false,
  Ok,
  Err,
  List,
  [],
  ◌∷◌,
  ◌++◌,
  length,
  refl,
  sym,
  ap,
  ◌∙◌,
  arith,
  append_assoc,
}
use Rattle.std.proofs.lemmas.List.{append-nil}
use Rattle.fx_text.specs.declared.fault.Fault.{Fault}
use Rattle.fx_text.specs.declared.fault.TextKind.TheVariants as kind
use Rattle.fx_text.specs.Token.{next}
use Rattle.fx_text.specs.Scope.{Scope}
use Rattle.fx_text.specs.Group.{Group, Content, scope_after, needs_few}
use Rattle.fx_text.specs.Shape.{Shape, ends, word, value, count, name, queue, binder, group, groups, content}
use Rattle.fx_text.specs.Part.{opens, closes, is_closing, value_of, count_of, name_of, queue_of, new_name, form_of}
use Rattle.fx_text.specs.Reading.{
  ◌>>=◌,
  Read,
  GroupReading,
  refused,
  at_name,
  at_number,
  opening_at,
  closing_at,
  value_at,
  count_at,
  name_at,
  queue_at,
  binder_at,
  form_at,
  groups_within,
  groups_at,
  parts_at,
  kept,
  group_at,
}
use Rattle.fx_text.proofs.PartLaws.{bind_ok, ok_pair, part_shorter}

-- one more before the others
abbrev pub before : {A : Type 0} → A → List A × List ℕ → Read (List A)
before a others = Ok (a ∷ others.0, others.1)

-- ---- what is left is shorter

module _ (each : GroupReading) (shorter : (h : Group) (p : Scope) (text : List ℕ) (a : Content h) (rest : List ℕ) → each h p text ≡ Ok (a, rest)
    → length rest < length text) where
  within_le : (most : ℕ) (h : Group) (p : Scope) (text : List ℕ) (xs : List (Content h)) (rest : List ℕ) → groups_within most each h p text ≡ Ok (xs, rest)
      → length rest ≤ length text
  unfolding groups_within
  within_le zero h p text xs rest e = absurd cc
  within_le (suc most) h p text xs rest e = by_next (is_closing (next text).token) e (within_le most h)
    where
      by_next : (b : Bool) → cond {A = Read (List (Content h))} b (Ok ([], text)) (each h p text >>= λ x. groups_within most each h (scope_after h x.0 p) x.1
          >>= before x.0) ≡ Ok (xs, rest)
          → ((q : Scope) (left : List ℕ) (ys : List (Content h)) (end : List ℕ) → groups_within most each h q left ≡ Ok (ys, end) → length end ≤ length left)
          → length rest ≤ length text
      by_next true e fewer = let o = ok_pair [] xs text rest e in omega (arith, ap length o.1)
      by_next false e fewer =
          let b = bind_ok (each h p text) (λ x. groups_within most each h (scope_after h x.0 p) x.1 >>= before x.0) (xs, rest) e in
          let c = bind_ok (groups_within most each h (scope_after h b.0.0 p) b.0.1) (before b.0.0) (xs, rest) b.2 in
          let o = ok_pair (b.0.0 ∷ c.0.0) xs c.0.1 rest c.2 in
          omega (arith, shorter h p text b.0.0 b.0.1 b.1, fewer (scope_after h b.0.0 p) b.0.1 c.0.0 c.0.1 c.1, ap length o.1)

  parts_shorter : {g : Group} (s : Shape g) (text : List ℕ) (x : Content g) (rest : List ℕ) → parts_at each s text ≡ Ok (x, rest) → length rest < length text
  unfolding closing_at value_at count_at name_at queue_at binder_at form_at
  parts_shorter (ends y) text x rest e =
      let b = bind_ok (closing_at text) (λ c. Ok (y, c.1)) (x, rest) e in
      let o = ok_pair y x b.0.1 rest b.2 in
      omega (arith, part_shorter closes (λ _. kind.Unwanted) text b.0.0 b.0.1 refl b.1, ap length o.1)
  parts_shorter (word go) text x rest e =
      let b = bind_ok (form_at text) (λ c. parts_at each (go c.0) c.1) (x, rest) e in
      omega (arith, part_shorter form_of (λ _. kind.Form) text b.0.0 b.0.1 refl b.1, parts_shorter (go b.0.0) b.0.1 x rest b.2)
  parts_shorter (value p go) text x rest e =
      let b = bind_ok (value_at p text) (λ c. parts_at each (go c.0) c.1) (x, rest) e in
      omega (arith, part_shorter (value_of p) (at_name kind.Unknown) text b.0.0 b.0.1 refl b.1, parts_shorter (go b.0.0) b.0.1 x rest b.2)
  parts_shorter (count p go) text x rest e =
      let b = bind_ok (count_at p text) (λ c. parts_at each (go c.0) c.1) (x, rest) e in
      omega (arith, part_shorter (count_of p) (at_number kind.Size) text b.0.0 b.0.1 refl b.1, parts_shorter (go b.0.0) b.0.1 x rest b.2)
  parts_shorter (name k p go) text x rest e =
      let b = bind_ok (name_at k p text) (λ c. parts_at each (go c.0) c.1) (x, rest) e in
      omega (arith, part_shorter (name_of k p) (at_name kind.Unknown) text b.0.0 b.0.1 refl b.1, parts_shorter (go b.0.0) b.0.1 x rest b.2)
  parts_shorter (queue p go) text x rest e =
      let b = bind_ok (queue_at p text) (λ c. parts_at each (go c.0) c.1) (x, rest) e in
      omega (arith, part_shorter (queue_of p) (at_name kind.Unknown) text b.0.0 b.0.1 refl b.1, parts_shorter (go b.0.0) b.0.1 x rest b.2)
  parts_shorter (binder p go) text x rest e =
      let b = bind_ok (binder_at p text) (λ c. parts_at each (go c.0) c.1) (x, rest) e in
      omega (arith, part_shorter (new_name p) (at_name kind.Taken) text b.0.0 b.0.1 refl b.1, parts_shorter (go b.0.0) b.0.1 x rest b.2)
  parts_shorter (group h p go) text x rest e =
      let b = bind_ok (each h p text) (λ c. parts_at each (go c.0) c.1) (x, rest) e in
      omega (arith, shorter h p text b.0.0 b.0.1 b.1, parts_shorter (go b.0.0) b.0.1 x rest b.2)
  parts_shorter (groups h p go) text x rest e =
      let b = bind_ok (groups_at each h p text) (λ c. parts_at each (go c.0) c.1) (x, rest) e in
      omega (arith, within_le (length text) h p text b.0.0 b.0.1 b.1, parts_shorter (go b.0.0) b.0.1 x rest b.2)

-- a group that was kept is what was read
pub kept_same : (h : Group) (from : ℕ) (x y : Content h × List ℕ) → kept h from x ≡ Ok y → x ≡ y
kept_same h from x y e = by_test (needs_few h x.0) e
  where
    by_test : (b : Bool) → cond {A = Read (Content h)} b (Ok x) (Err (record { kind = kind.Need; left = from })) ≡ Ok y → x ≡ y
    by_test true e = cc
    by_test false e = absurd cc

pub group_shorter : (room : ℕ) (h : Group) (p : Scope) (text : List ℕ) (a : Content h) (rest : List ℕ) → group_at room h p text ≡ Ok (a, rest)
    → length rest < length text
unfolding group_at opening_at
group_shorter zero h p text a rest e = absurd cc
group_shorter (suc room) h p text a rest e =
    let o = bind_ok (opening_at text) (λ o. parts_at (group_at room) (content h p) o.1 >>= kept h (next text).from) (a, rest) e in
    let b = bind_ok (parts_at (group_at room) (content h p) o.0.1) (kept h (next text).from) (a, rest) o.2 in
    let same = kept_same h (next text).from b.0 (a, rest) b.2 in
    omega (
      arith,
      part_shorter opens (λ _. kind.Unwanted) text o.0.0 o.0.1 refl o.1,
      parts_shorter (group_at room) (group_shorter room) (content h p) o.0.1 a rest (b.1 ∙ ap Ok same),
    )

-- ---- one by one

module _ (room : ℕ) (h : Group) where
  nothing_read : (p : Scope) → group_at room h p [] ≡ refused kind.Unwanted (next [])
  unfolding group_at opening_at next
  nothing_read p = by_room room
    where
      by_room : (room : ℕ) → group_at room h p [] ≡ refused kind.Unwanted (next [])
      by_room zero = refl
      by_room (suc room) = refl

  none_within : (most : ℕ) (p : Scope) → groups_within most (group_at room) h p [] ≡ refused kind.Unwanted (next [])
  unfolding groups_within next
  none_within zero p = refl
  none_within (suc most) p = rw (nothing_read p) refl

  -- as many groups as bytes are enough
  within_same : (k m : ℕ) (p : Scope) (text : List ℕ) → length text ≤ k → length text ≤ m
      → groups_within k (group_at room) h p text ≡ groups_within m (group_at room) h p text
  unfolding groups_within
  within_same zero zero p text f g = refl
  within_same zero (suc m) p [] f g = sym (none_within (suc m) p)
  within_same zero (suc m) p (b ∷ bytes) f g = absurd (omega arith)
  within_same (suc k) zero p [] f g = none_within (suc k) p
  within_same (suc k) zero p (b ∷ bytes) f g = absurd (omega arith)
  within_same (suc k) (suc m) p text f g = by_next (is_closing (next text).token) (group_at room h p text) refl
      (λ q rest lt. within_same k m q rest (omega arith) (omega arith))
    where
      by_next : (b : Bool) (r : Read (Content h)) → group_at room h p text ≡ r
          → ((q : Scope) (rest : List ℕ) → length rest < length text → groups_within k (group_at room) h q rest ≡ groups_within m (group_at room) h q rest)
          → cond {A = Read (List (Content h))} b (Ok ([], text)) (r >>= λ x. groups_within k (group_at room) h (scope_after h x.0 p) x.1 >>= before x.0)
          ≡ cond {A = Read (List (Content h))} b (Ok ([], text)) (r >>= λ x. groups_within m (group_at room) h (scope_after h x.0 p) x.1 >>= before x.0)
      by_next true r e same = refl
      by_next false (Err f) e same = refl
      by_next false (Ok x) e same = ap (λ (y : Read (List (Content h))). y >>= before x.0)
          (same (scope_after h x.0 p) x.1 (group_shorter room h p text x.0 x.1 e))

  -- before a `)` there are no more
  pub groups_ended : (p : Scope) (text : List ℕ) → is_closing (next text).token ≡ true → groups_at (group_at room) h p text ≡ Ok ([], text)
  unfolding groups_within next
  groups_ended p [] e = absurd cc
  groups_ended p (b ∷ bytes) e = rw e refl

  -- before anything else there is one more
  pub groups_go_on : (p : Scope) (text : List ℕ) → is_closing (next text).token ≡ false
      → groups_at (group_at room) h p text ≡ (group_at room h p text >>= λ x. groups_at (group_at room) h (scope_after h x.0 p) x.1 >>= before x.0)
  unfolding groups_within
  groups_go_on p [] e = none_within 0 p ∙ rw (nothing_read p) refl
  groups_go_on p (b ∷ bytes) e = rw e (by_group (group_at room h p (b ∷ bytes)) refl)
    where
      by_group : (r : Read (Content h)) → group_at room h p (b ∷ bytes) ≡ r
          → (r >>= λ x. groups_within (length bytes) (group_at room) h (scope_after h x.0 p) x.1 >>= before x.0)
          ≡ (r >>= λ x. groups_at (group_at room) h (scope_after h x.0 p) x.1 >>= before x.0)
      by_group (Err f) at = refl
      by_group (Ok x) at = let s = group_shorter room h p (b ∷ bytes) x.0 x.1 at in
          ap (λ (y : Read (List (Content h))). y >>= before x.0) (within_same (length bytes) (length x.1) (scope_after h x.0 p) x.1 (omega arith) (omega arith))

  module _ (g : Group) (p : Scope) (go : List (Content h) → Shape g) where
    pub parts_ended : (text : List ℕ) → is_closing (next text).token ≡ true
        → parts_at (group_at room) (groups h p go) text ≡ parts_at (group_at room) (go []) text
    parts_ended text e = rw (groups_ended p text e) refl

    pub parts_go_on : (text : List ℕ) → is_closing (next text).token ≡ false
        → parts_at (group_at room) (groups h p go) text ≡ parts_at (group_at room) (group h p λ a. groups h (scope_after h a p) λ others. go (a ∷ others)) text
    parts_go_on text e = rw (groups_go_on p text e) (by_group (group_at room h p text))
      where
        by_others : (a : Content h) (r : Read (List (Content h))) → ((r >>= before a) >>= λ x. parts_at (group_at room) (go x.0) x.1)
            ≡ (r >>= λ x. parts_at (group_at room) (go (a ∷ x.0)) x.1)
        by_others a (Err f) = refl
        by_others a (Ok x) = refl

        by_group : (r : Read (Content h)) → ((r >>= λ x. groups_at (group_at room) h (scope_after h x.0 p) x.1 >>= before x.0)
            >>= λ x. parts_at (group_at room) (go x.0) x.1)
            ≡ (r >>= λ x. groups_at (group_at room) h (scope_after h x.0 p) x.1 >>= λ y. parts_at (group_at room) (go (x.0 ∷ y.0)) y.1)
        by_group (Err f) = refl
        by_group (Ok x) = by_others x.0 (groups_at (group_at room) h (scope_after h x.0 p) x.1)

-- ---- in a loop

-- those read so far before those to come
abbrev pub all_before : {A : Type 0} → List A → List A × List ℕ → Read (List A)
all_before xs others = Ok (xs ++ others.0, others.1)

pub none_before : {A : Type 0} (r : Read (List A)) → r ≡ (r >>= all_before [])
none_before (Ok x) = refl
none_before (Err f) = refl

pub one_before : {A : Type 0} (xs : List A) (x : A) (r : Read (List A)) → ((r >>= before x) >>= all_before xs) ≡ (r >>= all_before (xs ++ x ∷ []))
one_before xs x (Err f) = refl
one_before {A} xs x (Ok y) = ap (λ (l : List A). Ok (l, y.1)) (sym (append_assoc xs (x ∷ []) y.0))

-- what was read so far, from one scope and text to another, and what is read of the rest are what is read of all
abbrev pub IsReadSoFar : ℕ → (h : Group) → Scope → Scope → List (Content h) → List ℕ → List ℕ → Type 0
IsReadSoFar room h p q xs bytes rest = groups_at (group_at room) h p bytes ≡ (groups_at (group_at room) h q rest >>= all_before xs)

pub none_so_far : (room : ℕ) (h : Group) (p : Scope) (bytes : List ℕ) → IsReadSoFar room h p p [] bytes bytes
none_so_far room h p bytes = none_before (groups_at (group_at room) h p bytes)

module _ (room : ℕ) (h : Group) (p q : Scope) (xs : List (Content h)) (bytes rest : List ℕ) (read : IsReadSoFar room h p q xs bytes rest) where
  pub more_so_far : (x : Content h) (after : List ℕ) → is_closing (next rest).token ≡ false → group_at room h q rest ≡ Ok (x, after)
      → IsReadSoFar room h p (scope_after h x q) (xs ++ x ∷ []) bytes after
  more_so_far x after at one =
      read
      ∙ ap (λ (r : Read (List (Content h))). r >>= all_before xs) (groups_go_on room h q rest at
      ∙ ap (λ (r : Read (Content h)). r >>= λ y. groups_at (group_at room) h (scope_after h y.0 q) y.1 >>= before y.0) one)
      ∙ one_before xs x (groups_at (group_at room) h (scope_after h x q) after)

  -- the fault of a group is that of all
  pub fault_so_far : (f : Fault) → is_closing (next rest).token ≡ false → group_at room h q rest ≡ Err f → groups_at (group_at room) h p bytes ≡ Err f
  fault_so_far f at one =
      read ∙ ap (λ (r : Read (List (Content h))). r >>= all_before xs) (groups_go_on room h q rest at
      ∙ ap (λ (r : Read (Content h)). r >>= λ y. groups_at (group_at room) h (scope_after h y.0 q) y.1 >>= before y.0) one)

  pub all_so_far : is_closing (next rest).token ≡ true → groups_at (group_at room) h p bytes ≡ Ok (xs, rest)
  all_so_far at = read ∙ ap (λ (r : Read (List (Content h))). r >>= all_before xs) (groups_ended room h q rest at)
      ∙ ap (λ (l : List (Content h)). Ok (l, rest)) (append-nil xs)
