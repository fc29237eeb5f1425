-- What the grammar has fits its scope: each name is in scope, and no loop has too many turns. Each row of the table keeps that, and so do all terms.
use Rattle.std.proofs.Common.{
  ◌≡◌,
  ℕ,
  zero,
  suc,
  ◌+◌,
  ◌<◌,
  ◌≤◌,
  nat_le,
  Bool,
  true,
  false,
  cond,
  ◌&&◌,
  ◌==◌,
  Option,
  Some,
  None,
  List,
  [],
  ◌∷◌,
  ◌++◌,
  length,
  map,
  slice_get,
  get_or,
  bytes_eq,
  refl,
  sym,
  ◌∙◌,
  ap,
  subst,
  arith,
}
use Rattle.std.proofs.lemmas.Bool.{leb-true}
use Rattle.std.proofs.lemmas.Bool.Decides.{nat_tests}
use Rattle.std.proofs.lemmas.List.{length-append, length-map, map-append}
use Rattle.std.proofs.lemmas.List.Quantifiers.{position-Some}
use Rattle.std.proofs.lemmas.Option.{slice_get_past}
use Rattle.fx_term.specs.declared.node.Arg.{Arg}
use Rattle.fx_term.specs.declared.node.Arg.TheVariants as arg
use Rattle.fx_term.specs.Term.{Term, Pure, Raise, Let, Handle, If, For, Mask, Poll, OnCancel, Bracket, BracketCase, Start, Join, Cancel, First, TryTake}
use Rattle.fx_term.specs.Turns.{most_turns, turns_of_loop, HasFewTurns}
use Rattle.fx_term.specs.QueuesNamed.{NamesQueuesBelow}
use Rattle.fx_term.specs.declared.name_kind.NameKind.{NameKind}
use Rattle.fx_term.specs.declared.name_kind.NameKind.TheVariants as kind
use Rattle.fx_term.specs.Scope.{kind_elsewhere, with_name, IsScoped, IsNew, HasLevels, IsInScope}
use Rattle.fx_term.specs.Scope.{elsewhere as elsewhere_of}
use Rattle.fx_term.specs.Walk.{kinds_inside}
use Rattle.fx_term.proofs.SeenLaws.{length_inside, scope_of_inside}
use Rattle.fx_text.specs.declared.form.Form.{Form}
use Rattle.fx_text.specs.declared.form.Form.TheVariants as form
use Rattle.fx_text.specs.Token.{Token, Open, Close, Number, Name, Stray, Misnumber, End}
use Rattle.fx_text.specs.Scope.{Scope, Bound, top, under, bound_elsewhere, elsewhere, left_of_race, right_of_race, repeated, slot, same_kind, slot_of}
use Rattle.fx_text.specs.Queues.{names_of}
use Rattle.fx_text.specs.Group.{Group, OfTerm, OfResource, OfResources, OfOutcome, Resource, Content, under_all, scope_after}
use Rattle.fx_text.specs.declared.reader.races.RaceSlots.{RaceSlots}
use Rattle.fx_text.specs.Race.{race_slots, cancel_both, outcome_of, decided, deciding, race}
use Rattle.fx_text.specs.Shape.{Shape, ends, word, value, count, name, queue, binder, group, groups, seq, using, shape, content}
use Rattle.fx_text.specs.Part.{slot_arg, value_of, count_of, name_of, queue_of}
use Rattle.fx_text.specs.Reading.{Meaning}
use Rattle.fx_text.specs.Grammar.{Spells, ends_so, word_so, value_so, count_so, name_so, queue_so, binder_so, group_so, groups_end, groups_more, IsScript}

-- the kinds of the names in scope
abbrev pub kinds_at : Scope → List NameKind
kinds_at p = map (λ b. b.kind) p.names

-- the term has the names of this scope, no loop in it has too many turns there, and it names queues of the script alone
pub record StandsAt (p : Scope) (t : Term) : Type 0 where
  pub scope : IsInScope (kinds_at p) t
  pub turns : HasFewTurns p.turns t
  pub named : NamesQueuesBelow (length p.queues) t

-- the same of a resource's terms, and it has the next slot
pub record ResourceFits (p : Scope) (r : Resource) : Type 0 where
  pub slot_is : r.slot ≡ slot p
  pub acquire : StandsAt p r.acquire
  pub release : StandsAt (under kind.Value r.name p) r.release

-- each of these fits where it stands, after those before it
abbrev pub EachFits : {X : Type 0} → (Scope → X → Type 0) → (X → Scope → Scope) → Scope → List X → Type 0
EachFits Fit after p [] = Unit {0}
EachFits Fit after p (x ∷ xs) = Fit p x × EachFits Fit after (after x p) xs

-- what a group is fits its scope
abbrev pub Fits : (g : Group) → Scope → Content g → Type 0
Fits OfTerm = StandsAt
Fits OfResource = ResourceFits
Fits OfOutcome = λ p. StandsAt (under kind.Value [] p)
Fits OfResources = EachFits ResourceFits (λ r p. under kind.Value r.name p)

-- where the parts fit their scopes, what the shape comes to has the property
abbrev pub KeepsFit : {g : Group} → (Content g → Type 0) → Shape g → Type 0
KeepsFit P (ends x) = P x
KeepsFit P (word go) = (f : Form) → KeepsFit P (go f)
KeepsFit P (value p go) = (v : Arg) → IsInScope (kinds_at p) (Pure v) → KeepsFit P (go v)
KeepsFit P (count p go) = (n : ℕ) → turns_of_loop p.turns n ≤ most_turns → KeepsFit P (go n)
KeepsFit P (name k p go) = (i : ℕ) → i < length (kinds_at p) → slice_get (kinds_at p) i ≡ Some k → KeepsFit P (go i)
KeepsFit P (queue p go) = (q : ℕ) → q < length p.queues → KeepsFit P (go q)
KeepsFit P (binder p go) = (x : List ℕ) → KeepsFit P (go x)
KeepsFit P (group h p go) = (x : Content h) → Fits h p x → KeepsFit P (go x)
KeepsFit P (groups h p go) = (xs : List (Content h)) → EachFits (Fits h) (scope_after h) p xs → KeepsFit P (go xs)

-- ---- one name more

suc_same : (a b : ℕ) → (suc a == suc b) ≡ (a == b)
suc_same a b = grind (arith, nat_tests)

zero_other : (b : ℕ) → (0 == suc b) ≡ false
zero_other b = grind (arith, nat_tests)

suc_other : (a : ℕ) → (suc a == 0) ≡ false
suc_other a = grind (arith, nat_tests)

get_push : (kinds : List NameKind) (k : NameKind) (y : ℕ) → slice_get (kinds ++ k ∷ []) y ≡ with_name (length kinds) k (λ x. slice_get kinds x) y
get_push [] k zero = refl
get_push [] k (suc y) = rw (suc_other y) refl
get_push (j ∷ kinds) k zero = rw (zero_other (length kinds)) refl
get_push (j ∷ kinds) k (suc y) = rw (suc_same y (length kinds)) (get_push kinds k y)

kinds_under_is : (k : NameKind) (x : List ℕ) (p : Scope) → kinds_at (under k x p) ≡ kinds_at p ++ k ∷ []
kinds_under_is k x p = map-append (λ (b : Bound). b.kind) p.names _

slot_is : (p : Scope) → slot p ≡ length (kinds_at p)
slot_is p = sym (length-map p.names (λ (b : Bound). b.kind))

new_slot : (kinds : List NameKind) → IsNew (λ x. slice_get kinds x) (Some (length kinds))
new_slot kinds = slice_get_past kinds (length kinds) (omega arith)

-- ---- one name

same_kind_is : (j k : NameKind) → same_kind j k ≡ true → j ≡ k
same_kind_is kind.Value kind.Value e = refl
same_kind_is kind.Poll kind.Poll e = refl
same_kind_is kind.Fiber kind.Fiber e = refl
same_kind_is kind.OtherPoll kind.OtherPoll e = refl
same_kind_is kind.Value kind.Poll e = absurd cc
same_kind_is kind.Value kind.Fiber e = absurd cc
same_kind_is kind.Value kind.OtherPoll e = absurd cc
same_kind_is kind.Poll kind.Value e = absurd cc
same_kind_is kind.Poll kind.Fiber e = absurd cc
same_kind_is kind.Poll kind.OtherPoll e = absurd cc
same_kind_is kind.Fiber kind.Value e = absurd cc
same_kind_is kind.Fiber kind.Poll e = absurd cc
same_kind_is kind.Fiber kind.OtherPoll e = absurd cc
same_kind_is kind.OtherPoll kind.Value e = absurd cc
same_kind_is kind.OtherPoll kind.Poll e = absurd cc
same_kind_is kind.OtherPoll kind.Fiber e = absurd cc

and_right : (a b : Bool) → (a && b) ≡ true → b ≡ true
and_right true b e = e
and_right false b e = absurd cc

kind_there : (bounds : List Bound) (i : ℕ) (d : Bound) → i < length bounds → slice_get (map (λ b. b.kind) bounds) i ≡ Some (get_or bounds i d).kind
kind_there [] i d h = absurd (omega arith)
kind_there (b ∷ bounds) zero d h = refl
kind_there (b ∷ bounds) (suc i) d h = kind_there bounds i d (omega arith)

-- the slot of a name is that of a name of its kind
slot_found : (k : NameKind) (x : List ℕ) (p : Scope) (i : ℕ) → slot_of k x p.names ≡ Some i → (i < length (kinds_at p)) × (slice_get (kinds_at p) i ≡ Some k)
slot_found k x p i e =
    let d : Bound = record { name = []; kind = k } in
    let h = position-Some (λ (b : Bound). bytes_eq b.name x && same_kind b.kind k) p.names i d e in
    let lt = h.0 in
    let same = same_kind_is (get_or p.names i d).kind k (and_right (bytes_eq (get_or p.names i d).name x) _ h.1) in
    (omega (arith, slot_is p), kind_there p.names i d h.0 ∙ ap Some same)

abbrev ValueInScope : Scope → Option Arg → Type 0
ValueInScope p None = Unit {0}
ValueInScope p (Some v) = IsInScope (kinds_at p) (Pure v)

value_found : (p : Scope) (k : Token) (v : Arg) → value_of p k ≡ Some v → IsInScope (kinds_at p) (Pure v)
value_found p (Number n) v e = subst (λ (a : Option Arg). ValueInScope p a) e (record { levels = tt; scoped = tt })
value_found p (Name x) v e = by_slot (slot_of kind.Value x p.names) refl e
  where
    by_slot : (o : Option ℕ) → slot_of kind.Value x p.names ≡ o → slot_arg o ≡ Some v → IsInScope (kinds_at p) (Pure v)
    by_slot None at e = absurd cc
    by_slot (Some i) at e = let h = slot_found kind.Value x p i at in subst (λ (a : Option Arg). ValueInScope p a) e (record { levels = h.0; scoped = h.1 })
value_found p Open v e = absurd cc
value_found p Close v e = absurd cc
value_found p Stray v e = absurd cc
value_found p Misnumber v e = absurd cc
value_found p End v e = absurd cc

name_found : (c : NameKind) (p : Scope) (k : Token) (i : ℕ) → name_of c p k ≡ Some i → (i < length (kinds_at p)) × (slice_get (kinds_at p) i ≡ Some c)
name_found c p (Name x) i e = slot_found c x p i e
name_found c p Open i e = absurd cc
name_found c p Close i e = absurd cc
name_found c p (Number n) i e = absurd cc
name_found c p Stray i e = absurd cc
name_found c p Misnumber i e = absurd cc
name_found c p End i e = absurd cc

queue_found : (p : Scope) (k : Token) (q : ℕ) → queue_of p k ≡ Some q → q < length p.queues
queue_found p (Name x) q e = (position-Some (λ (n : List ℕ). bytes_eq n x) p.queues q [] e).0
queue_found p Open q e = absurd cc
queue_found p Close q e = absurd cc
queue_found p (Number n) q e = absurd cc
queue_found p Stray q e = absurd cc
queue_found p Misnumber q e = absurd cc
queue_found p End q e = absurd cc

count_found : (p : Scope) (k : Token) (n : ℕ) → count_of p k ≡ Some n → turns_of_loop p.turns n ≤ most_turns
count_found p (Number m) n e = by_test (nat_le (turns_of_loop p.turns m) most_turns) refl e
  where
    by_test : (b : Bool) → nat_le (turns_of_loop p.turns m) most_turns ≡ b → cond b (Some m) None ≡ Some n → turns_of_loop p.turns n ≤ most_turns
    by_test true few e = let same : m ≡ n = cc in subst (λ (c : ℕ). turns_of_loop p.turns c ≤ most_turns) same (leb-true _ _ few)
    by_test false few e = absurd cc
count_found p Open n e = absurd cc
count_found p Close n e = absurd cc
count_found p (Name x) n e = absurd cc
count_found p Stray n e = absurd cc
count_found p Misnumber n e = absurd cc
count_found p End n e = absurd cc

-- ---- forms in scope

module _ (kinds : List NameKind) (k : NameKind) (x : ℕ) (b : Term) (at : x ≡ length kinds) (inner : IsInScope (kinds ++ k ∷ []) b) where
  levels_under : HasLevels (suc (length kinds)) b
  levels_under = let long : length (kinds ++ k ∷ []) ≡ suc (length kinds) = omega (arith, length-append kinds (k ∷ [])) in rw long at inner.levels

  new_under : IsNew (λ y. slice_get kinds y) (Some x)
  new_under = rw at (new_slot kinds)

  scoped_under : IsScoped (with_name x k (λ y. slice_get kinds y)) b
  scoped_under = rw at (subst (λ (s : ℕ → Option NameKind). IsScoped s b) (λ i y. get_push kinds k y i) inner.scoped)

inner_scope : (k : NameKind) (x : List ℕ) (p : Scope) (b : Term) → IsInScope (kinds_at (under k x p)) b → IsInScope (kinds_at p ++ k ∷ []) b
inner_scope k x p b h = rw (kinds_under_is k x p) at h

module _ (p : Scope) (x : List ℕ) (a : Term) (first : StandsAt p a) where
  module _ (b : Term) (second : StandsAt (under kind.Value x p) b) where
    let_stands : StandsAt p (Let (Some (slot p)) a b)
    let_stands =
        let at = slot_is p in
        let inner = inner_scope kind.Value x p b second.scope in
        record {
          scope = record {
            levels = (first.scope.levels, at, levels_under (kinds_at p) kind.Value (slot p) b at inner);
            scoped = (first.scope.scoped, new_under (kinds_at p) kind.Value (slot p) b at inner, scoped_under (kinds_at p) kind.Value (slot p) b at inner);
          };
          turns = (first.turns, second.turns);
          named = (first.named, second.named);
        }

    handle_stands : StandsAt p (Handle a (Some (slot p)) b)
    handle_stands = let h = let_stands in record { scope = record { levels = h.scope.levels; scoped = h.scope.scoped }; turns = h.turns; named = h.named }

  bracket_stands : (s : ℕ) (u r : Term) → s ≡ slot p → StandsAt (under kind.Value x p) u → StandsAt (under kind.Value x p) r
      → StandsAt p (Bracket (Some s) a u r)
  bracket_stands s u r is used released =
      let at = is ∙ slot_is p in
      let inner = inner_scope kind.Value x p u used.scope in
      let outer = inner_scope kind.Value x p r released.scope in
      record {
        scope = record {
          levels = (first.scope.levels, at, levels_under (kinds_at p) kind.Value s u at inner, levels_under (kinds_at p) kind.Value s r at outer);
          scoped = (
            first.scope.scoped,
            new_under (kinds_at p) kind.Value s u at inner,
            scoped_under (kinds_at p) kind.Value s u at inner,
            scoped_under (kinds_at p) kind.Value s r at outer,
          );
        };
        turns = (first.turns, used.turns, released.turns);
        named = (first.named, used.named, released.named);
      }

bracket_case_stands : (p : Scope) (x : List ℕ) (a : Term) → StandsAt p a → (u : Term) → StandsAt (under kind.Value x p) u
    → (s : Term) → StandsAt (under kind.Value [] (under kind.Value x p)) s → (e : Term) → StandsAt (under kind.Value [] (under kind.Value x p)) e
    → (d : Term) → StandsAt (under kind.Value x p) d
    → StandsAt p (BracketCase (slot p) a u (slot (under kind.Value x p)) s (slot (under kind.Value x p)) e d)
bracket_case_stands p x a first u used s success e failure d cancellation =
    let at = slot_is p in
    let q = under kind.Value x p in
    let succeeded = let_stands q [] u used s success in
    let errored = let_stands q [] u used e failure in
    let left = inner_scope kind.Value x p (Let (Some (slot q)) u s) succeeded.scope in
    let right = inner_scope kind.Value x p (Let (Some (slot q)) u e) errored.scope in
    let last = inner_scope kind.Value x p d cancellation.scope in
    let left_levels = levels_under (kinds_at p) kind.Value (slot p) (Let (Some (slot q)) u s) at left in
    let right_levels = levels_under (kinds_at p) kind.Value (slot p) (Let (Some (slot q)) u e) at right in
    let left_scoped = scoped_under (kinds_at p) kind.Value (slot p) (Let (Some (slot q)) u s) at left in
    let right_scoped = scoped_under (kinds_at p) kind.Value (slot p) (Let (Some (slot q)) u e) at right in
    record {
      scope = record {
        levels = (
          first.scope.levels,
          at,
          left_levels.0,
          left_levels.1,
          left_levels.2,
          right_levels.1,
          right_levels.2,
          levels_under (kinds_at p) kind.Value (slot p) d at last,
        );
        scoped = (
          first.scope.scoped,
          new_under (kinds_at p) kind.Value (slot p) d at last,
          left_scoped.0,
          left_scoped.1,
          left_scoped.2,
          right_scoped.1,
          right_scoped.2,
          scoped_under (kinds_at p) kind.Value (slot p) d at last,
        );
      };
      turns = (first.turns, used.turns, success.turns, failure.turns, cancellation.turns);
      named = (first.named, used.named, success.named, failure.named, cancellation.named);
    }

for_stands : (p : Scope) (x : List ℕ) (n : ℕ) (a : Term) → turns_of_loop p.turns n ≤ most_turns → StandsAt (repeated n (under kind.Value x p)) a
    → StandsAt p (For (slot p) n a)
for_stands p x n a few inside =
    let at = slot_is p in
    let inner = inner_scope kind.Value x p a inside.scope in
    record {
      scope = record {
        levels = (at, levels_under (kinds_at p) kind.Value (slot p) a at inner);
        scoped = (new_under (kinds_at p) kind.Value (slot p) a at inner, scoped_under (kinds_at p) kind.Value (slot p) a at inner);
      };
      turns = (few, inside.turns);
      named = inside.named;
    }

try_take_stands : (p : Scope) (q : ℕ) (x : List ℕ) → q < length p.queues → (a : Term) → StandsAt (under kind.Value x p) a → (b : Term) → StandsAt p b
    → StandsAt p (TryTake q (slot p) a b)
try_take_stands p q x lt a first b second =
    let at = slot_is p in
    let inner = inner_scope kind.Value x p a first.scope in
    record {
      scope = record {
        levels = (at, levels_under (kinds_at p) kind.Value (slot p) a at inner, second.scope.levels);
        scoped = (new_under (kinds_at p) kind.Value (slot p) a at inner, scoped_under (kinds_at p) kind.Value (slot p) a at inner, second.scope.scoped);
      };
      turns = (first.turns, second.turns);
      named = (lt, first.named, second.named);
    }

mask_stands : (p : Scope) (x : List ℕ) (a : Term) → StandsAt (under kind.Poll x p) a → StandsAt p (Mask (slot p) a)
mask_stands p x a inside =
    let at = slot_is p in
    let inner = inner_scope kind.Poll x p a inside.scope in
    record {
      scope = record {
        levels = (at, levels_under (kinds_at p) kind.Poll (slot p) a at inner);
        scoped = (new_under (kinds_at p) kind.Poll (slot p) a at inner, scoped_under (kinds_at p) kind.Poll (slot p) a at inner);
      };
      turns = inside.turns;
      named = inside.named;
    }

-- two terms in order, the first one's value dropped
then_stands : (p : Scope) (a b : Term) → StandsAt p a → StandsAt p b → StandsAt p (Let None a b)
then_stands p a b first second = record {
  scope = record { levels = (first.scope.levels, tt, second.scope.levels); scoped = (first.scope.scoped, tt, second.scope.scoped) };
  turns = (first.turns, second.turns);
  named = (first.named, second.named);
}

seq_stands : (p : Scope) (a : Term) (bs : List Term) → StandsAt p a → EachFits StandsAt (λ t q. q) p bs → StandsAt p (seq a bs)
seq_stands p a [] first others = first
seq_stands p a (b ∷ bs) first others = then_stands p a (seq b bs) first (seq_stands p b bs others.0 others.1)

using_stands : (p : Scope) (rs : List Resource) (t : Term) → Fits OfResources p rs → StandsAt (under_all rs p) t → StandsAt p (using rs t)
using_stands p [] t all used = used
using_stands p (r ∷ rs) t all used = bracket_stands p r.name r.acquire all.0.acquire r.slot (using rs t) r.release all.0.slot_is
    (using_stands (under kind.Value r.name p) rs t all.1 used) all.0.release

-- the name does not matter
named_so : (p : Scope) (x : List ℕ) (t : Term) → StandsAt (under kind.Value x p) t → StandsAt (under kind.Value [] p) t
named_so p x t h = record {
  scope = subst (λ (kinds : List NameKind). IsInScope kinds t) (kinds_under_is kind.Value x p ∙ sym (kinds_under_is kind.Value [] p)) h.scope;
  turns = h.turns;
  named = h.named;
}

-- inside another fiber
kinds_elsewhere : (p : Scope) → kinds_at (elsewhere p) ≡ kinds_inside true (kinds_at p)
kinds_elsewhere p = map_map p.names
  where
    map_map : (names : List Bound) → map (λ b. b.kind) (map bound_elsewhere names) ≡ map kind_elsewhere (map (λ b. b.kind) names)
    map_map [] = refl
    map_map (b ∷ names) = ap (λ (ks : List NameKind). kind_elsewhere b.kind ∷ ks) (map_map names)

module _ (p : Scope) (a : Term) (first : StandsAt (elsewhere p) a) where
  there : IsInScope (kinds_inside true (kinds_at p)) a
  there = subst (λ (kinds : List NameKind). IsInScope kinds a) (kinds_elsewhere p) first.scope

  levels_elsewhere : HasLevels (length (kinds_at p)) a
  levels_elsewhere = subst (λ (n : ℕ). HasLevels n a) (length_inside true (kinds_at p)) there.levels

  scoped_elsewhere : IsScoped (elsewhere_of (λ x. slice_get (kinds_at p) x)) a
  scoped_elsewhere = subst (λ (s : ℕ → Option NameKind). IsScoped s a) (scope_of_inside true (kinds_at p)) there.scoped

start_stands : (p : Scope) (h : List ℕ) (a : Term) → StandsAt (elsewhere p) a → (b : Term) → StandsAt (under kind.Fiber h p) b
    → StandsAt p (Start (slot p) a b)
start_stands p h a first b second =
    let at = slot_is p in
    let inner = inner_scope kind.Fiber h p b second.scope in
    record {
      scope = record {
        levels = (levels_elsewhere p a first, at, levels_under (kinds_at p) kind.Fiber (slot p) b at inner);
        scoped = (
          scoped_elsewhere p a first,
          new_under (kinds_at p) kind.Fiber (slot p) b at inner,
          scoped_under (kinds_at p) kind.Fiber (slot p) b at inner,
        );
      };
      turns = (first.turns, second.turns);
      named = (first.named, second.named);
    }

join_stands : (p : Scope) (f : ℕ) → f < length (kinds_at p) → slice_get (kinds_at p) f ≡ Some kind.Fiber
    → (a : Term) → StandsAt (under kind.Value [] p) a → (b : Term) → StandsAt (under kind.Value [] p) b → (c : Term) → StandsAt p c
    → StandsAt p (Join (arg.Slot f) (slot p) a (slot p) b c)
join_stands p f lt of_fiber a first b second c third =
    let at = slot_is p in
    let left = inner_scope kind.Value [] p a first.scope in
    let right = inner_scope kind.Value [] p b second.scope in
    record {
      scope = record {
        levels = (
          lt,
          at,
          levels_under (kinds_at p) kind.Value (slot p) a at left,
          at,
          levels_under (kinds_at p) kind.Value (slot p) b at right,
          third.scope.levels,
        );
        scoped = (
          of_fiber,
          new_under (kinds_at p) kind.Value (slot p) a at left,
          scoped_under (kinds_at p) kind.Value (slot p) a at left,
          new_under (kinds_at p) kind.Value (slot p) b at right,
          scoped_under (kinds_at p) kind.Value (slot p) b at right,
          third.scope.scoped,
        );
      };
      turns = (first.turns, second.turns, third.turns);
      named = (first.named, second.named, third.named);
    }

-- ---- a race

-- a name of that kind has this slot
record Has (p : Scope) (i : ℕ) (k : NameKind) : Type 0 where
  within : i < length (kinds_at p)
  there : slice_get (kinds_at p) i ≡ Some k

same_slot : (n : ℕ) → (n == n) ≡ true
same_slot n = grind (arith, nat_tests)

other_slot : (m n : ℕ) → m < n → (m == n) ≡ false
other_slot m n lt = grind (arith, nat_tests)

module _ (k : NameKind) (x : List ℕ) (p : Scope) where
  longer_under : length (kinds_at (under k x p)) ≡ length (kinds_at p) + 1
  longer_under = ap length (kinds_under_is k x p) ∙ length-append (kinds_at p) (k ∷ [])

  slot_under : slot (under k x p) ≡ slot p + 1
  slot_under = length-append p.names _

  -- the name that is bound last
  has_last : Has (under k x p) (slot p) k
  has_last = record {
    within = omega (arith, longer_under, slot_is p);
    there =
        let test : (slot p == length (kinds_at p)) ≡ true = ap (λ (n : ℕ). slot p == n) (sym (slot_is p)) ∙ same_slot (slot p) in
        ap (λ (l : List NameKind). slice_get l (slot p)) (kinds_under_is k x p) ∙ get_push (kinds_at p) k (slot p) ∙ rw test refl;
  }

  -- and those before
  has_before : (i : ℕ) (j : NameKind) → Has p i j → Has (under k x p) i j
  has_before i j h = record {
    within = let lt = h.within in omega (arith, longer_under);
    there =
        let test = other_slot i (length (kinds_at p)) h.within in
        ap (λ (l : List NameKind). slice_get l i) (kinds_under_is k x p) ∙ get_push (kinds_at p) k i ∙ rw test h.there;
  }

value_stands : (p : Scope) (i : ℕ) → Has p i kind.Value → StandsAt p (Pure (arg.Slot i))
value_stands p i h = record { scope = record { levels = h.within; scoped = h.there }; turns = tt; named = tt }

error_stands : (p : Scope) (i : ℕ) → Has p i kind.Value → StandsAt p (Raise (arg.Slot i))
error_stands p i h = record { scope = record { levels = h.within; scoped = h.there }; turns = tt; named = tt }

cancel_stands : (p : Scope) (i : ℕ) → Has p i kind.Fiber → StandsAt p (Cancel (arg.Slot i))
cancel_stands p i h = record { scope = record { levels = h.within; scoped = h.there }; turns = tt; named = tt }

poll_stands : (p : Scope) (i : ℕ) (a : Term) → Has p i kind.Poll → StandsAt p a → StandsAt p (Poll (arg.Slot i) a)
poll_stands p i a h inside = record {
  scope = record { levels = (h.within, inside.scope.levels); scoped = (h.there, inside.scope.scoped) };
  turns = inside.turns;
  named = inside.named;
}

on_cancel_stands : (p : Scope) (a f : Term) → StandsAt p a → StandsAt p f → StandsAt p (OnCancel a f)
on_cancel_stands p a f first second = record {
  scope = record { levels = (first.scope.levels, second.scope.levels); scoped = (first.scope.scoped, second.scope.scoped) };
  turns = (first.turns, second.turns);
  named = (first.named, second.named);
}

-- the names of a race are in scope
record HasRace (p : Scope) (s : RaceSlots) : Type 0 where
  mask : Has p s.mask kind.Poll
  left : Has p s.left kind.Fiber
  right : Has p s.right kind.Fiber

race_under : (p : Scope) (s : RaceSlots) → HasRace p s → HasRace (under kind.Value [] p) s
race_under p s h = record {
  mask = has_before kind.Value [] p s.mask kind.Poll h.mask;
  left = has_before kind.Value [] p s.left kind.Fiber h.left;
  right = has_before kind.Value [] p s.right kind.Fiber h.right;
}

module _ (p : Scope) (s : RaceSlots) (h : HasRace p s) where
  both_stand : StandsAt p (cancel_both s)
  both_stand = then_stands p (Cancel (arg.Slot s.left)) (Cancel (arg.Slot s.right)) (cancel_stands p s.left h.left) (cancel_stands p s.right h.right)

  module _ (number : s.number ≡ slot p) where
    given : Has (under kind.Value [] p) s.number kind.Value
    given = subst (λ (n : ℕ). Has (under kind.Value [] p) n kind.Value) (sym number) (has_last kind.Value [] p)

    joined : (f : ℕ) → Has p f kind.Fiber → (a b c : Term) → StandsAt (under kind.Value [] p) a → StandsAt (under kind.Value [] p) b → StandsAt p c
        → StandsAt p (Join (arg.Slot f) s.number a s.number b c)
    joined f of_fiber a b c first second third = subst (λ (n : ℕ). StandsAt p (Join (arg.Slot f) n a n b c)) (sym number)
        (join_stands p f of_fiber.within of_fiber.there a first b second c third)

    outcome_stands : (f : ℕ) → Has p f kind.Fiber → StandsAt p (outcome_of s f)
    outcome_stands f of_fiber =
        let q = under kind.Value [] p in
        joined f of_fiber _ _ _ (value_stands q s.number given) (error_stands q s.number given)
        (record { scope = record { levels = (tt, tt, tt); scoped = (tt, tt, tt) }; turns = (tt, tt); named = (tt, tt) })

    decided_stands : (f g : ℕ) → Has p f kind.Fiber → Has p g kind.Fiber → StandsAt p (decided s f g)
    decided_stands f g of_first of_other =
        let q = under kind.Value [] p in
        let canceled = cancel_stands q g (has_before kind.Value [] p g kind.Fiber of_other) in
        joined f of_first _ _ _ (then_stands q _ _ canceled (value_stands q s.number given)) (then_stands q _ _ canceled (error_stands q s.number given))
        (on_cancel_stands p _ _ (poll_stands p s.mask _ h.mask (outcome_stands g of_other)) both_stand)

deciding_stands : (p : Scope) (s : RaceSlots) → HasRace p s → s.ended ≡ slot p → s.number ≡ slot p + 1 → StandsAt p (deciding s)
deciding_stands p s h ended number =
    let q = under kind.Value [] p in
    let later = race_under p s h in
    let at : s.number ≡ slot q = number ∙ sym (slot_under kind.Value [] p) in
    let of_ended : Has q s.ended kind.Value = subst (λ (n : ℕ). Has q n kind.Value) (sym ended) (has_last kind.Value [] p) in
    let waits : StandsAt p (First (arg.Slot s.left) (arg.Slot s.right)) = record {
      scope = record { levels = (h.left.within, h.right.within); scoped = (h.left.there, h.right.there) };
      turns = tt;
      named = tt;
    } in
    let waited = on_cancel_stands p _ _ (poll_stands p s.mask _ h.mask waits) (both_stand p s h) in
    let right = decided_stands q s later at s.right s.left later.right later.left in
    let left = decided_stands q s later at s.left s.right later.left later.right in
    let chosen : StandsAt q (If (arg.Slot s.ended) (decided s s.right s.left) (decided s s.left s.right)) = record {
      scope = record {
        levels = (of_ended.within, right.scope.levels, left.scope.levels);
        scoped = (of_ended.there, right.scope.scoped, left.scope.scoped);
      };
      turns = (right.turns, left.turns);
      named = (right.named, left.named);
    } in
    subst (λ (n : ℕ). StandsAt p (Let (Some n) (OnCancel (Poll (arg.Slot s.mask) (First (arg.Slot s.left) (arg.Slot s.right))) (cancel_both s))
    (If (arg.Slot s.ended) (decided s s.right s.left) (decided s s.left s.right)))) (sym ended) (let_stands p [] _ waited _ chosen)

race_stands : (p : Scope) (a b : Term) → StandsAt (left_of_race p) a → StandsAt (right_of_race p) b → StandsAt p (race (race_slots (slot p)) a b)
race_stands p a b first second =
    let s = race_slots (slot p) in
    let in_mask = under kind.Poll [] p in
    let in_left = under kind.Fiber [] in_mask in
    let in_right = under kind.Fiber [] in_left in
    let at_left : s.left ≡ slot in_mask = sym (slot_under kind.Poll [] p) in
    let at_right : s.right ≡ slot in_left = omega (arith, slot_under kind.Poll [] p, slot_under kind.Fiber [] in_mask) in
    let at_end : s.ended ≡ slot in_right =
    omega (arith, slot_under kind.Poll [] p, slot_under kind.Fiber [] in_mask, slot_under kind.Fiber [] in_left) in
    let at_number : s.number ≡ slot in_right + 1 = omega (arith, at_end) in
    let has : HasRace in_right s = record {
      mask = has_before kind.Fiber [] in_left (slot p) kind.Poll (has_before kind.Fiber [] in_mask (slot p) kind.Poll (has_last kind.Poll [] p));
      left = has_before kind.Fiber [] in_left s.left kind.Fiber
          (subst (λ (n : ℕ). Has in_left n kind.Fiber) (sym at_left) (has_last kind.Fiber [] in_mask));
      right = subst (λ (n : ℕ). Has in_right n kind.Fiber) (sym at_right) (has_last kind.Fiber [] in_left);
    } in
    let rest = deciding_stands in_right s has at_end at_number in
    let inner : StandsAt in_left (Start s.right b (deciding s)) = subst (λ (n : ℕ). StandsAt in_left (Start n b (deciding s))) (sym at_right)
    (start_stands in_left [] b second (deciding s) rest) in
    let outer : StandsAt in_mask (Start s.left a (Start s.right b (deciding s))) =
    subst (λ (n : ℕ). StandsAt in_mask (Start n a (Start s.right b (deciding s)))) (sym at_left)
    (start_stands in_mask [] a first (Start s.right b (deciding s)) inner) in
    mask_stands p [] (Start s.left a (Start s.right b (deciding s))) outer

-- ---- the rows of the table

shape_fits : (f : Form) (p : Scope) → KeepsFit (StandsAt p) (shape f p)
shape_fits form.Pure p = λ v h. record { scope = h; turns = tt; named = tt }
shape_fits form.Raise p = λ v h. record { scope = record { levels = h.levels; scoped = h.scoped }; turns = tt; named = tt }
shape_fits form.Canceled p = record { scope = record { levels = tt; scoped = tt }; turns = tt; named = tt }
shape_fits form.Never p = record { scope = record { levels = tt; scoped = tt }; turns = tt; named = tt }
shape_fits form.Cede p = record { scope = record { levels = tt; scoped = tt }; turns = tt; named = tt }
shape_fits form.Seq p = λ a first bs others. seq_stands p a bs first others
shape_fits form.Let p = λ x a first b second. let_stands p x a first b second
shape_fits form.Handle p = λ a first x b second. handle_stands p x a first b second
shape_fits form.If p = λ v h a first b second. record {
  scope = record { levels = (h.levels, first.scope.levels, second.scope.levels); scoped = (h.scoped, first.scope.scoped, second.scope.scoped) };
  turns = (first.turns, second.turns);
  named = (first.named, second.named);
}
shape_fits form.For p = λ x n few a inside. for_stands p x n a few inside
shape_fits form.Mask p = λ x a inside. mask_stands p x a inside
shape_fits form.Poll p = λ i lt of_poll a h. record {
  scope = record { levels = (lt, h.scope.levels); scoped = (of_poll, h.scope.scoped) };
  turns = h.turns;
  named = h.named;
}
shape_fits form.OnCancel p = λ a first f second. record {
  scope = record { levels = (first.scope.levels, second.scope.levels); scoped = (first.scope.scoped, second.scope.scoped) };
  turns = (first.turns, second.turns);
  named = (first.named, second.named);
}
shape_fits form.Bracket p = λ x a first u used r released. bracket_stands p x a first (slot p) u r refl used released
shape_fits form.BracketCase p = λ x a first u used s success e failure d cancellation.
    bracket_case_stands p x a first u used s success e failure d cancellation
shape_fits form.Guarantee p = λ a first f second. record {
  scope = record { levels = (tt, tt, first.scope.levels, second.scope.levels); scoped = (tt, tt, first.scope.scoped, second.scope.scoped) };
  turns = (tt, first.turns, second.turns);
  named = (tt, first.named, second.named);
}
shape_fits form.Forcer p = λ a first b second. record {
  scope = record { levels = ((first.scope.levels, tt, tt), tt, second.scope.levels); scoped = ((first.scope.scoped, tt, tt), tt, second.scope.scoped) };
  turns = ((first.turns, tt), second.turns);
  named = ((first.named, tt), second.named);
}
shape_fits form.Using p = λ rs all t used. using_stands p rs t all used
shape_fits form.Start p = λ h a first b second. start_stands p h a first b second
shape_fits form.Join p = λ f lt of_fiber a first b second c third. join_stands p f lt of_fiber a first b second c third
shape_fits form.Cancel p = λ f lt of_fiber. record { scope = record { levels = lt; scoped = of_fiber }; turns = tt; named = tt }
shape_fits form.Race p = λ a first b second. race_stands p a b first second
shape_fits form.First p = λ f lt of_fiber g lt' of_fiber'. record {
  scope = record { levels = (lt, lt'); scoped = (of_fiber, of_fiber') };
  turns = tt;
  named = tt;
}
shape_fits form.Offer p = λ q lt v h. record { scope = record { levels = h.levels; scoped = h.scoped }; turns = tt; named = lt }
shape_fits form.Take p = λ q lt. record { scope = record { levels = tt; scoped = tt }; turns = tt; named = lt }
shape_fits form.TryOffer p = λ q lt v h. record { scope = record { levels = h.levels; scoped = h.scoped }; turns = tt; named = lt }
shape_fits form.TryTake p = λ q lt x a first b second. try_take_stands p q x lt a first b second

content_fits : (g : Group) (p : Scope) → KeepsFit (Fits g p) (content g p)
content_fits OfTerm p = λ f. shape_fits f p
content_fits OfResource p = λ x a first r second. record { slot_is = refl; acquire = first; release = second }
content_fits OfOutcome p = λ x a inside. named_so p x a inside
content_fits OfResources p = λ r one rs others. (one, others)

-- ---- all groups

spelled_fits : (g : Group) (P : Content g → Type 0) (room : ℕ) (s : Shape g) (ks : List Token) (x : Content g) → Spells g room s ks x → KeepsFit P s → P x
spelled_fits g P room (ends x) _ _ ends_so h = h
spelled_fits g P room (word go) _ x (word_so {ks = ks} f e d) h = spelled_fits g P room (go f) ks x d (h f)
spelled_fits g P room (value p go) _ x (value_so {k = k} {ks = ks} v e d) h = spelled_fits g P room (go v) ks x d (h v (value_found p k v e))
spelled_fits g P room (count p go) _ x (count_so {k = k} {ks = ks} n e d) h = spelled_fits g P room (go n) ks x d (h n (count_found p k n e))
spelled_fits g P room (name c p go) _ x (name_so {k = k} {ks = ks} i e d) h = let found = name_found c p k i e in
    spelled_fits g P room (go i) ks x d (h i found.0 found.1)
spelled_fits g P room (queue p go) _ x (queue_so {k = k} {ks = ks} q e d) h = spelled_fits g P room (go q) ks x d (h q (queue_found p k q e))
spelled_fits g P room (binder p go) _ x (binder_so {ks = ks} b e d) h = spelled_fits g P room (go b) ks x d (h b)
spelled_fits g P room (group k p go) _ x (group_so left a inner ks has_room d1 few d2 whole) h =
    spelled_fits g P room (go a) ks x d2 (h a (spelled_fits k (Fits k p) left (content k p) inner a d1 (content_fits k p)))
spelled_fits g P room (groups k p go) _ x (groups_end {ks = ks} d) h = spelled_fits g P room (go []) (Close ∷ ks) x d (h [] tt)
spelled_fits g P room (groups k p go) ks x (groups_more d) h =
    spelled_fits g P room (group k p λ a. groups k (scope_after k a p) λ others. go (a ∷ others)) ks x d (λ a first others each. h (a ∷ others) (first, each))

-- the term of a script stands in no binder's scope and in no loop
pub script_fits : (text : List ℕ) (m : Meaning) → IsScript text m → StandsAt (top (names_of m.queues)) m.term
script_fits text m s = spelled_fits OfTerm (StandsAt (top (names_of m.queues))) 99 _ s.tokens m.term s.main (λ t h. h)
