-- Reading takes what the grammar has, and nothing else. Nothing here speaks of a form.
use Rattle.std.proofs.Common.{◌≡◌, ℕ, zero, suc, cond, Bool, true, false, Ok, Err, List, [], ◌∷◌, ◌++◌, length, refl, sym, ap, ◌∙◌, subst, append_assoc}
use Rattle.fx_text.specs.declared.fault.TextKind.TheVariants as kind
use Rattle.fx_text.specs.Token.{Token, Open, Close, next}
use Rattle.fx_text.specs.Scope.{Scope}
use Rattle.fx_text.specs.Group.{Group, Content, scope_after, needs_few}
use Rattle.fx_text.specs.Shape.{Shape, ends, word, value, count, name, queue, binder, group, groups, content}
use Rattle.fx_text.specs.Part.{opens, closes, is_closing, value_of, count_of, name_of, queue_of, new_name, form_of}
use Rattle.fx_text.specs.Reading.{
  ◌>>=◌,
  Read,
  GroupReading,
  at_name,
  at_number,
  opening_at,
  closing_at,
  value_at,
  count_at,
  name_at,
  queue_at,
  binder_at,
  form_at,
  groups_within,
  groups_at,
  parts_at,
  kept,
  group_at,
}
use Rattle.fx_text.specs.Grammar.{IsText, Spells, ends_so, word_so, value_so, count_so, name_so, queue_so, binder_so, group_so, groups_end, groups_more}
use Rattle.fx_text.proofs.PartLaws.{bind_ok, ok_pair, part_ok, part_again, opens_is, closes_is, closing_is}
use Rattle.fx_text.proofs.GroupsLaws.{before, parts_ended, parts_go_on}

-- the tokens that a text has in front of others are the parts of this shape
pub record IsSpelled {g : Group} (room : ℕ) (s : Shape g) (text : List ℕ) (x : Content g) (others : List Token) : Type 0 where
  pub tokens : List Token
  pub spells : Spells g room s tokens x
  pub text_is : IsText text (tokens ++ others)

-- the same for a group
pub record IsGroup (room : ℕ) (h : Group) (p : Scope) (text : List ℕ) (a : Content h) (others : List Token) : Type 0 where
  pub left : ℕ
  pub inner : List Token
  pub has_room : room ≡ suc left
  pub spells : Spells h left (content h p) inner a
  pub few : needs_few h a ≡ true
  pub text_is : IsText text (Open ∷ (inner ++ others))

-- ---- what is read is in the grammar

one_more : {g : Group} {room : ℕ} {s : Shape g} {text : List ℕ} {x : Content g} {others ks : List Token} (k : Token) (rest : List ℕ)
    → Spells g room s (k ∷ ks) x → (next text).token ≡ k → (next text).rest ≡ rest → IsText rest (ks ++ others) → IsSpelled room s text x others
one_more {others = others} {ks = ks} k rest d at after is = record {
  tokens = k ∷ ks;
  spells = d;
  text_is = (at, subst (λ (l : List ℕ). IsText l (ks ++ others)) (sym after) is);
}

-- no shape is spelled by no tokens
some_token : {g : Group} {room : ℕ} {s : Shape g} {ks : List Token} {x : Content g} → Spells g room s ks x → ks ≡ [] → ⊥
some_token ends_so e = absurd cc
some_token (word_so f h d) e = absurd cc
some_token (value_so v h d) e = absurd cc
some_token (count_so n h d) e = absurd cc
some_token (name_so i h d) e = absurd cc
some_token (queue_so q h d) e = absurd cc
some_token (binder_so b h d) e = absurd cc
some_token (group_so left a inner ks has_room d1 few d2 whole) e = absurd cc
some_token (groups_end d) e = absurd cc
some_token (groups_more d) e = some_token d e

module _ {g : Group} {room : ℕ} (h : Group) (p : Scope) (go : List (Content h) → Shape g) (text : List ℕ) (x : Content g) (others : List Token) where
  -- no group comes before a `)`
  no_groups : is_closing (next text).token ≡ true → IsSpelled room (go []) text x others → IsSpelled room (groups h p go) text x others
  no_groups at r = by_tokens r.tokens r.spells r.text_is
    where
      by_tokens : (ks : List Token) → Spells g room (go []) ks x → IsText text (ks ++ others) → IsSpelled room (groups h p go) text x others
      by_tokens [] d is = absurd (some_token d refl)
      by_tokens (k ∷ ks) d is =
          let same : k ≡ Close = closing_is k (subst (λ (y : Token). is_closing y ≡ true) is.0 at) in
          record { tokens = Close ∷ ks; spells = groups_end (subst (λ (y : Token). Spells g room (go []) (y ∷ ks) x) same d); text_is = (is.0 ∙ same, is.1) }

  -- or one group, and then the others
  some_groups : IsSpelled room (group h p λ a. groups h (scope_after h a p) λ l. go (a ∷ l)) text x others → IsSpelled room (groups h p go) text x others
  some_groups r = record { tokens = r.tokens; spells = groups_more r.spells; text_is = r.text_is }

module _ (room : ℕ) (each : GroupReading)
    (is_group : (h : Group) (p : Scope) (text : List ℕ) (a : Content h) (rest : List ℕ) (others : List Token) → each h p text ≡ Ok (a, rest)
    → IsText rest others → IsGroup room h p text a others) where
  -- a group, and then the other parts
  one_group : {g : Group} (h : Group) (p : Scope) (go : Content h → Shape g) (text : List ℕ) (a : Content h) (rest : List ℕ) (x : Content g)
      (others : List Token) → each h p text ≡ Ok (a, rest) → IsSpelled room (go a) rest x others → IsSpelled room (group h p go) text x others
  one_group h p go text a rest x others e r =
      let f = is_group h p text a rest (r.tokens ++ others) e r.text_is in
      record {
        tokens = Open ∷ (f.inner ++ r.tokens);
        spells = group_so f.left a f.inner r.tokens f.has_room f.spells f.few r.spells refl;
        text_is = subst (λ (l : List Token). IsText text (Open ∷ l)) (sym (append_assoc f.inner r.tokens others)) f.text_is;
      }

  -- groups, and then the other parts
  all_groups : {g : Group} (most : ℕ) (h : Group) (p : Scope) (go : List (Content h)
      → Shape g) (text : List ℕ) (xs : List (Content h)) (rest : List ℕ) (x : Content g) (others : List Token)
      → groups_within most each h p text ≡ Ok (xs, rest) → IsSpelled room (go xs) rest x others → IsSpelled room (groups h p go) text x others
  unfolding groups_within
  all_groups zero h p go text xs rest x others e r = absurd cc
  all_groups {g} (suc most) h p go text xs rest x others e r = by_next (is_closing (next text).token) refl e (all_groups most h)
    where
      by_next : (b : Bool) → is_closing (next text).token ≡ b → cond {A = Read (List (Content h))} b (Ok ([], text))
          (each h p text >>= λ y. groups_within most each h (scope_after h y.0 p) y.1 >>= before y.0) ≡ Ok (xs, rest)
          → ((q : Scope) (go : List (Content h) → Shape g) (left : List ℕ) (ys : List (Content h)) (end : List ℕ) (x : Content g) (others : List Token)
          → groups_within most each h q left ≡ Ok (ys, end) → IsSpelled room (go ys) end x others → IsSpelled room (groups h q go) left x others)
          → IsSpelled room (groups h p go) text x others
      by_next true at e fewer =
          let o = ok_pair [] xs text rest e in
          no_groups h p go text x others at (subst (λ (l : List ℕ). IsSpelled room (go []) l x others) (sym o.1)
          (subst (λ (l : List (Content h)). IsSpelled room (go l) rest x others) (sym o.0) r))
      by_next false at e fewer =
          let b = bind_ok (each h p text) (λ y. groups_within most each h (scope_after h y.0 p) y.1 >>= before y.0) (xs, rest) e in
          let c = bind_ok (groups_within most each h (scope_after h b.0.0 p) b.0.1) (before b.0.0) (xs, rest) b.2 in
          let o = ok_pair (b.0.0 ∷ c.0.0) xs c.0.1 rest c.2 in
          let r' = subst (λ (l : List ℕ). IsSpelled room (go (b.0.0 ∷ c.0.0)) l x others) (sym o.1)
          (subst (λ (l : List (Content h)). IsSpelled room (go l) rest x others) (sym o.0) r) in
          let d = fewer (scope_after h b.0.0 p) (λ l. go (b.0.0 ∷ l)) b.0.1 c.0.0 c.0.1 x others c.1 r' in
          some_groups h p go text x others (one_group h p (λ a. groups h (scope_after h a p) λ l. go (a ∷ l)) text b.0.0 b.0.1 x others b.1 d)

  pub parts_sound : {g : Group} (s : Shape g) (text : List ℕ) (x : Content g) (rest : List ℕ) (others : List Token) → parts_at each s text ≡ Ok (x, rest)
      → IsText rest others → IsSpelled room s text x others
  unfolding closing_at value_at count_at name_at queue_at binder_at form_at
  parts_sound {g} (ends y) text x rest others e is =
      let b = bind_ok (closing_at text) (λ c. Ok (y, c.1)) (x, rest) e in
      let q = part_ok closes (λ _. kind.Unwanted) text b.0.0 b.0.1 b.1 in
      let o = ok_pair y x b.0.1 rest b.2 in
      one_more Close rest (subst (λ (z : Content g). Spells g room (ends y) (Close ∷ []) z) o.0 ends_so) (closes_is _ _ q.0) (q.1 ∙ o.1) is
  parts_sound (word go) text x rest others e is =
      let b = bind_ok (form_at text) (λ c. parts_at each (go c.0) c.1) (x, rest) e in
      let q = part_ok form_of (λ _. kind.Form) text b.0.0 b.0.1 b.1 in
      let r = parts_sound (go b.0.0) b.0.1 x rest others b.2 is in
      one_more (next text).token b.0.1 (word_so b.0.0 q.0 r.spells) refl q.1 r.text_is
  parts_sound (value p go) text x rest others e is =
      let b = bind_ok (value_at p text) (λ c. parts_at each (go c.0) c.1) (x, rest) e in
      let q = part_ok (value_of p) (at_name kind.Unknown) text b.0.0 b.0.1 b.1 in
      let r = parts_sound (go b.0.0) b.0.1 x rest others b.2 is in
      one_more (next text).token b.0.1 (value_so b.0.0 q.0 r.spells) refl q.1 r.text_is
  parts_sound (count p go) text x rest others e is =
      let b = bind_ok (count_at p text) (λ c. parts_at each (go c.0) c.1) (x, rest) e in
      let q = part_ok (count_of p) (at_number kind.Size) text b.0.0 b.0.1 b.1 in
      let r = parts_sound (go b.0.0) b.0.1 x rest others b.2 is in
      one_more (next text).token b.0.1 (count_so b.0.0 q.0 r.spells) refl q.1 r.text_is
  parts_sound (name k p go) text x rest others e is =
      let b = bind_ok (name_at k p text) (λ c. parts_at each (go c.0) c.1) (x, rest) e in
      let q = part_ok (name_of k p) (at_name kind.Unknown) text b.0.0 b.0.1 b.1 in
      let r = parts_sound (go b.0.0) b.0.1 x rest others b.2 is in
      one_more (next text).token b.0.1 (name_so b.0.0 q.0 r.spells) refl q.1 r.text_is
  parts_sound (queue p go) text x rest others e is =
      let b = bind_ok (queue_at p text) (λ c. parts_at each (go c.0) c.1) (x, rest) e in
      let q = part_ok (queue_of p) (at_name kind.Unknown) text b.0.0 b.0.1 b.1 in
      let r = parts_sound (go b.0.0) b.0.1 x rest others b.2 is in
      one_more (next text).token b.0.1 (queue_so b.0.0 q.0 r.spells) refl q.1 r.text_is
  parts_sound (binder p go) text x rest others e is =
      let b = bind_ok (binder_at p text) (λ c. parts_at each (go c.0) c.1) (x, rest) e in
      let q = part_ok (new_name p) (at_name kind.Taken) text b.0.0 b.0.1 b.1 in
      let r = parts_sound (go b.0.0) b.0.1 x rest others b.2 is in
      one_more (next text).token b.0.1 (binder_so b.0.0 q.0 r.spells) refl q.1 r.text_is
  parts_sound (group h p go) text x rest others e is =
      let b = bind_ok (each h p text) (λ c. parts_at each (go c.0) c.1) (x, rest) e in
      one_group h p go text b.0.0 b.0.1 x others b.1 (parts_sound (go b.0.0) b.0.1 x rest others b.2 is)
  parts_sound (groups h p go) text x rest others e is =
      let b = bind_ok (groups_at each h p text) (λ c. parts_at each (go c.0) c.1) (x, rest) e in
      all_groups (length text) h p go text b.0.0 b.0.1 x others b.1 (parts_sound (go b.0.0) b.0.1 x rest others b.2 is)

-- a group that was kept can use few fiber numbers
kept_ok : (h : Group) (from : ℕ) (x y : Content h × List ℕ) → kept h from x ≡ Ok y → (needs_few h y.0 ≡ true) × (x ≡ y)
kept_ok h from x y e = by_test (needs_few h x.0) refl e
  where
    by_test : (b : Bool) → needs_few h x.0 ≡ b → cond {A = Read (Content h)} b (Ok x) (Err (record { kind = kind.Need; left = from })) ≡ Ok y
        → (needs_few h y.0 ≡ true) × (x ≡ y)
    by_test true few e = let same : x ≡ y = cc in (subst (λ (z : Content h × List ℕ). needs_few h z.0 ≡ true) same few, same)
    by_test false few e = absurd cc

pub group_sound : (room : ℕ) (h : Group) (p : Scope) (text : List ℕ) (a : Content h) (rest : List ℕ) (others : List Token)
    → group_at room h p text ≡ Ok (a, rest) → IsText rest others → IsGroup room h p text a others
unfolding group_at opening_at
group_sound zero h p text a rest others e is = absurd cc
group_sound (suc room) h p text a rest others e is =
    let o = bind_ok (opening_at text) (λ o. parts_at (group_at room) (content h p) o.1 >>= kept h (next text).from) (a, rest) e in
    let b = bind_ok (parts_at (group_at room) (content h p) o.0.1) (kept h (next text).from) (a, rest) o.2 in
    let few = kept_ok h (next text).from b.0 (a, rest) b.2 in
    let q = part_ok opens (λ _. kind.Unwanted) text o.0.0 o.0.1 o.1 in
    let read = b.1 ∙ ap Ok few.1 in
    let r = parts_sound room (group_at room) (group_sound room) (content h p) o.0.1 a rest others read is in
    record {
      left = room;
      inner = r.tokens;
      has_room = refl;
      spells = r.spells;
      few = few.0;
      text_is = (opens_is _ _ q.0, subst (λ (l : List ℕ). IsText l (r.tokens ++ others)) (sym q.1) r.text_is);
    }

-- ---- what is in the grammar is read

group_again : (room : ℕ) (h : Group) (p : Scope) (text : List ℕ) (a : Content h) (rest : List ℕ) → (next text).token ≡ Open
    → parts_at (group_at room) (content h p) (next text).rest ≡ Ok (a, rest) → needs_few h a ≡ true → group_at (suc room) h p text ≡ Ok (a, rest)
unfolding group_at opening_at
group_again room h p text a rest opened parts few = rw (part_again opens (λ _. kind.Unwanted) text Open tt opened refl, parts, few) refl

-- reading gives what the group is, and the other tokens are left
pub record IsRead {g : Group} (room : ℕ) (s : Shape g) (text : List ℕ) (x : Content g) (others : List Token) : Type 0 where
  pub rest : List ℕ
  pub read : parts_at (group_at room) s text ≡ Ok (x, rest)
  pub rest_is : IsText rest others

-- a group begins with `(`
group_opens : {g h : Group} {room : ℕ} {p : Scope} {go : Content h → Shape g} {ks : List Token} {x : Content g} → Spells g room (group h p go) ks x
    → (text : List ℕ) (others : List Token) → IsText text (ks ++ others) → (next text).token ≡ Open
group_opens (group_so left a inner ks has_room d1 few d2 whole) text others is = is.0

pub parts_complete : (g : Group) (room : ℕ) (s : Shape g) (ks : List Token) (x : Content g) → Spells g room s ks x → (text : List ℕ) (others : List Token)
    → IsText text (ks ++ others) → IsRead room s text x others
unfolding closing_at value_at count_at name_at queue_at binder_at form_at
parts_complete g room (ends x) _ _ ends_so text others is = record {
  rest = (next text).rest;
  read = rw (part_again closes (λ _. kind.Unwanted) text Close tt is.0 refl) refl;
  rest_is = is.1;
}
parts_complete g room (word go) _ x (word_so {k = k} {ks = ks} f e d) text others is =
    let r = parts_complete g room (go f) ks x d (next text).rest others is.1 in
    record { rest = r.rest; read = rw (part_again form_of (λ _. kind.Form) text k f is.0 e) r.read; rest_is = r.rest_is }
parts_complete g room (value p go) _ x (value_so {k = k} {ks = ks} v e d) text others is =
    let r = parts_complete g room (go v) ks x d (next text).rest others is.1 in
    record { rest = r.rest; read = rw (part_again (value_of p) (at_name kind.Unknown) text k v is.0 e) r.read; rest_is = r.rest_is }
parts_complete g room (count p go) _ x (count_so {k = k} {ks = ks} n e d) text others is =
    let r = parts_complete g room (go n) ks x d (next text).rest others is.1 in
    record { rest = r.rest; read = rw (part_again (count_of p) (at_number kind.Size) text k n is.0 e) r.read; rest_is = r.rest_is }
parts_complete g room (name c p go) _ x (name_so {k = k} {ks = ks} i e d) text others is =
    let r = parts_complete g room (go i) ks x d (next text).rest others is.1 in
    record { rest = r.rest; read = rw (part_again (name_of c p) (at_name kind.Unknown) text k i is.0 e) r.read; rest_is = r.rest_is }
parts_complete g room (queue p go) _ x (queue_so {k = k} {ks = ks} q e d) text others is =
    let r = parts_complete g room (go q) ks x d (next text).rest others is.1 in
    record { rest = r.rest; read = rw (part_again (queue_of p) (at_name kind.Unknown) text k q is.0 e) r.read; rest_is = r.rest_is }
parts_complete g room (binder p go) _ x (binder_so {k = k} {ks = ks} b e d) text others is =
    let r = parts_complete g room (go b) ks x d (next text).rest others is.1 in
    record { rest = r.rest; read = rw (part_again (new_name p) (at_name kind.Taken) text k b is.0 e) r.read; rest_is = r.rest_is }
parts_complete g room (group h p go) _ x (group_so {all = all} left a inner ks has_room d1 few d2 whole) text others is =
    let regroup : all ++ others ≡ inner ++ (ks ++ others) = ap (λ (l : List Token). l ++ others) whole ∙ append_assoc inner ks others in
    let after = (next text).rest in
    let one = parts_complete h left (content h p) inner a d1 after (ks ++ others) (subst (λ (l : List Token). IsText after l) regroup is.1) in
    let two = parts_complete g room (go a) ks x d2 one.rest others one.rest_is in
    let read = subst (λ (r : ℕ). group_at r h p text ≡ Ok (a, one.rest)) (sym has_room) (group_again left h p text a one.rest is.0 one.read few) in
    record { rest = two.rest; read = rw read two.read; rest_is = two.rest_is }
parts_complete g room (groups h p go) _ x (groups_end {ks = ks} d) text others is =
    let r = parts_complete g room (go []) (Close ∷ ks) x d text others is in
    record { rest = r.rest; read = parts_ended room h g p go text (ap is_closing is.0) ∙ r.read; rest_is = r.rest_is }
parts_complete g room (groups h p go) ks x (groups_more d) text others is =
    let r = parts_complete g room (group h p λ a. groups h (scope_after h a p) λ l. go (a ∷ l)) ks x d text others is in
    record { rest = r.rest; read = parts_go_on room h g p go text (ap is_closing (group_opens d text others is)) ∙ r.read; rest_is = r.rest_is }
