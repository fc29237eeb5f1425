-- Names in scope, as the code keeps them.
use Rattle.std.proofs.Common.{◌≡◌, ℕ, zero, suc, ◌+◌, ◌≤◌, ◌&&◌, ◌||◌, Bool, Some, None, option_map, List, [], ◌∷◌, ◌++◌, length, map, take, drop}
use Rattle.std.proofs.Common.{bytes_eq, string_bytes, refl, sym, ◌∙◌, ap, arith}
use Rattle.std.specs.List.{list_any, position}
use Rattle.std.proofs.lemmas.List.{length-map, map-append, length-take-le}
use Rattle.fx_term.specs.declared.name_kind.NameKind.{NameKind}
use Rattle.fx_term.specs.declared.name_kind.NameKind.TheVariants as kind
use Rattle.fx_term.specs.Scope.{kind_elsewhere}
use Rattle.fx_text.specs.declared.place.Place.{Place}
use Rattle.fx_text.specs.declared.scope.Bound.{Bound as CodeBound}
use Rattle.fx_text.specs.Scope.{Bound, slot, under, elsewhere, bound_elsewhere, is_taken, same_kind, slot_of}
use Rattle.fx_text.specs.declared.queue_decl.QueueDecl.{QueueDecl}
use Rattle.fx_text.specs.Queues.{Queue, names_of}
use Rattle.fx_text.specs.QueuesView.{view_queue, view_queues}
use Rattle.fx_text.specs.ScopeView.{view_bound, view_names, seen_past, scope}
use Rattle.fx_text.proofs.MappedLists.{list_any_map, position_map, position_front, position_back}

-- ---- the names that a fiber has

length_seen : (foreign : ℕ) (names : List Bound) → length (seen_past foreign names) ≡ length names
length_seen zero names = refl
length_seen (suc n) [] = refl
length_seen (suc n) (b ∷ names) = ap suc (length_seen n names)

-- a name bound in the fiber itself
seen_push : (foreign : ℕ) (names : List Bound) (b : Bound) → foreign ≤ length names → seen_past foreign (names ++ b ∷ []) ≡ seen_past foreign names ++ b ∷ []
seen_push zero names b le = refl
seen_push (suc n) [] b le = absurd (omega arith)
seen_push (suc n) (c ∷ names) b le = ap (λ (l : List Bound). bound_elsewhere c ∷ l) (seen_push n names b (omega arith))

elsewhere_again : (b : Bound) → bound_elsewhere (bound_elsewhere b) ≡ bound_elsewhere b
elsewhere_again b = by_kind b.kind
  where
    by_kind : (k : NameKind) → record b { kind = kind_elsewhere (kind_elsewhere k) } ≡ record b { kind = kind_elsewhere k }
    by_kind kind.Poll = refl
    by_kind kind.Value = refl
    by_kind kind.Fiber = refl
    by_kind kind.OtherPoll = refl

seen_all : (foreign : ℕ) (names : List Bound) → seen_past (length names) names ≡ map bound_elsewhere (seen_past foreign names)
seen_all zero [] = refl
seen_all (suc n) [] = refl
seen_all zero (b ∷ names) = ap (λ (l : List Bound). bound_elsewhere b ∷ l) (seen_all zero names)
seen_all (suc n) (b ∷ names) = let here = elsewhere_again b in let rest = seen_all n names in cc

pub slot_at : (names : List CodeBound) (at : Place) → slot (scope names at) ≡ length names
slot_at names at = length_seen at.foreign (view_names names) ∙ length-map names view_bound

-- with one name more
pub scope_push : (names : List CodeBound) (b : CodeBound) (at : Place) → at.foreign ≤ length names
    → scope (names ++ b ∷ []) at ≡ under b.kind b.name.now (scope names at)
scope_push names b at le = ap (λ (l : List Bound). record { names = l; queues = names_of (view_queues at.queues.now); turns = at.turns })
    (ap (seen_past at.foreign) (map-append view_bound names (b ∷ []))
    ∙ seen_push at.foreign (view_names names) (view_bound b) (omega (arith, le, length-map names view_bound)))

-- where all names are outside
pub scope_elsewhere : (names : List CodeBound) (at : Place) → scope names (record at { foreign = length names }) ≡ elsewhere (scope names at)
scope_elsewhere names at = ap (λ (l : List Bound). record { names = l; queues = names_of (view_queues at.queues.now); turns = at.turns })
    (ap (λ (n : ℕ). seen_past n (view_names names)) (sym (length-map names view_bound)) ∙ seen_all at.foreign (view_names names))

-- where so many names are outside that all are
pub scope_outside : (names : List CodeBound) (at : Place) (n : ℕ) → n ≡ length names → scope names (record at { foreign = n }) ≡ elsewhere (scope names at)
scope_outside names at n all = ap (λ (k : ℕ). scope names (record at { foreign = k })) all ∙ scope_elsewhere names at

-- with one name more that has no letters
pub scope_nameless : (names more : List CodeBound) (b : CodeBound) (k : NameKind) (at : Place) → at.foreign ≤ length names → more ≡ names ++ b ∷ []
    → b.name.now ≡ [] → b.kind ≡ k → scope more at ≡ under k [] (scope names at)
scope_nameless names more b k at le pushed nameless of_kind =
    ap (λ (l : List CodeBound). scope l at) pushed ∙ scope_push names b at le
    ∙ ap (λ (x : List ℕ). under b.kind x (scope names at)) nameless ∙ ap (λ (j : NameKind). under j [] (scope names at)) of_kind

-- ---- the name of a token

taken_seen : (x : List ℕ) (foreign : ℕ) (names : List Bound)
    → list_any (λ (b : Bound). bytes_eq b.name x) (seen_past foreign names) ≡ list_any (λ (b : Bound). bytes_eq b.name x) names
taken_seen x zero names = refl
taken_seen x (suc n) [] = refl
taken_seen x (suc n) (b ∷ names) = ap (λ (r : Bool). bytes_eq b.name x || r) (taken_seen x n names)

pub queue_among : (x : List ℕ) (queues : List QueueDecl)
    → position (λ (n : List ℕ). bytes_eq n x) (names_of (view_queues queues)) ≡ position (λ (q : QueueDecl). bytes_eq (string_bytes q.name) x) queues
queue_among x queues = position_map (λ (q : Queue). q.0) (λ (n : List ℕ). bytes_eq n x) (view_queues queues)
    ∙ position_map view_queue (λ (q : Queue). bytes_eq q.0 x) queues

pub is_taken_among : (x : List ℕ) (names : List CodeBound) (at : Place)
    → is_taken x (scope names at) ≡ (list_any (λ b. bytes_eq b.name.now x) names || list_any (λ q. bytes_eq (string_bytes q.name) x) at.queues.now)
is_taken_among x names at =
    let slots = taken_seen x at.foreign (view_names names) ∙ list_any_map view_bound (λ b. bytes_eq b.name x) names in
    let queues = list_any_map (λ (q : Queue). q.0) (λ n. bytes_eq n x) (view_queues at.queues.now)
    ∙ list_any_map view_queue (λ (q : Queue). bytes_eq q.0 x) at.queues.now in
    rw (slots, queues) refl

module _ (k : NameKind) (x : List ℕ) where
  seen_views : (foreign : ℕ) (names : List CodeBound)
      → seen_past foreign (view_names names) ≡ map (λ b. bound_elsewhere (view_bound b)) (take foreign names) ++ map view_bound (drop foreign names)
  seen_views zero names = refl
  seen_views (suc n) [] = refl
  seen_views (suc n) (b ∷ names) = ap (λ (l : List Bound). bound_elsewhere (view_bound b) ∷ l) (seen_views n names)

  module _ (foreign : ℕ) (names : List CodeBound) where
    -- a name from outside
    pub slot_outside : (i : ℕ) → position (λ b. bytes_eq b.name.now x && same_kind (kind_elsewhere b.kind) k) (take foreign names) ≡ Some i
        → slot_of k x (seen_past foreign (view_names names)) ≡ Some i
    slot_outside i e =
        ap (slot_of k x) (seen_views foreign names)
        ∙ position_front (λ (b : Bound). bytes_eq b.name x && same_kind b.kind k) (map (λ b. bound_elsewhere (view_bound b)) (take foreign names)) _ i
        (position_map (λ b. bound_elsewhere (view_bound b)) (λ (b : Bound). bytes_eq b.name x && same_kind b.kind k) (take foreign names) ∙ e)

    -- a name of the fiber itself, or none
    pub slot_own : foreign ≤ length names → position (λ b. bytes_eq b.name.now x && same_kind (kind_elsewhere b.kind) k) (take foreign names) ≡ None
        → slot_of k x (seen_past foreign (view_names names))
        ≡ option_map (λ i. foreign + i) (position (λ b. bytes_eq b.name.now x && same_kind b.kind k) (drop foreign names))
    slot_own le e =
        let len : length (map (λ b. bound_elsewhere (view_bound b)) (take foreign names)) ≡ foreign =
        length-map (take foreign names) _ ∙ length-take-le foreign names le in
        ap (slot_of k x) (seen_views foreign names)
        ∙ position_back (λ (b : Bound). bytes_eq b.name x && same_kind b.kind k) (map (λ b. bound_elsewhere (view_bound b)) (take foreign names)) _
        (position_map (λ b. bound_elsewhere (view_bound b)) (λ (b : Bound). bytes_eq b.name x && same_kind b.kind k) (take foreign names) ∙ e)
        ∙ ap (λ (n : ℕ). option_map (λ i. n + i) (position (λ (b : Bound). bytes_eq b.name x && same_kind b.kind k) (map view_bound (drop foreign names)))) len
        ∙ ap (option_map (λ i. foreign + i)) (position_map view_bound (λ (b : Bound). bytes_eq b.name x && same_kind b.kind k) (drop foreign names))
