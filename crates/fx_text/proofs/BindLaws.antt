-- The reader as it goes through the resources of `using`.
use Rattle.std.proofs.Common.{◌≡◌, ℕ, ◌+◌, ◌-◌, ◌<◌, ◌≤◌, true, false, Ok, Err, Bor, List, [], ◌∷◌, ◌++◌, length, take}
use Rattle.std.proofs.Common.{refl, sym, ◌∙◌, ap, subst, arith, append_assoc}
use Rattle.std.proofs.lemmas.List.{append-nil, length-append, length-map, map-append}
use Rattle.std.proofs.Math.Seq.{take-append_seam}
use Rattle.fx_term.specs.declared.node.Node.{Node}
use Rattle.fx_term.specs.Term.{Term}
use Rattle.fx_term.specs.Meaning.{term_of}
use Rattle.fx_text.specs.Limits.{term_spares, form_spares}
use Rattle.fx_text.specs.declared.fault.ReadError.{ReadError}
use Rattle.fx_text.specs.declared.fault.ReadError.TheVariants as errors
use Rattle.fx_text.specs.declared.form.Form.TheVariants as form
use Rattle.fx_term.specs.declared.name_kind.NameKind.TheVariants as kind
use Rattle.fx_text.specs.declared.reader.Reader.{Reader}
use Rattle.fx_text.specs.declared.reader.resources.Resource.{Resource as CodeResource}
use Rattle.fx_text.specs.declared.place.Place.{Place}
use Rattle.fx_text.specs.declared.scope.Bound.{Bound as CodeBound}
use Rattle.fx_text.specs.Token.{next}
use Rattle.fx_text.specs.Part.{is_closing}
use Rattle.fx_text.specs.Scope.{Scope, slot, under}
use Rattle.fx_text.specs.Group.{OfResource, OfResources, Resource, under_all}
use Rattle.fx_text.specs.Shape.{Shape, ends, group, groups, using, shape, content}
use Rattle.fx_text.specs.ScopeView.{scope}
use Rattle.fx_text.specs.Reading.{◌>>=◌, Read, opening_at, closing_at, group_at, term_at, parts_at}
use Rattle.fx_text.specs.Given.{Fails}
use Rattle.fx_text.specs.Needs.{AreMade}
use Rattle.fx_text.specs.Trees.{AllBelow, GrowsBy}
use Rattle.fx_text.specs.ReaderState.{scope_of, IsReady, IsRead, Went, WentThrough}
use Rattle.fx_text.specs.Head.{named_at}
use Rattle.fx_text.specs.ResourceState.{resource_of, resources_of, roots_of, bounds_of, Binds, Nests}
use Rattle.fx_text.proofs.GroupLaws.{group_untested, resource_is, after_name}
use Rattle.fx_text.proofs.OpenLaws.{fails_first, fails_as}
use Rattle.fx_text.proofs.ScopeLaws.{slot_at, scope_push}
use Rattle.fx_text.proofs.GroupsLaws.{parts_ended, parts_go_on}
use Rattle.fx_text.proofs.ReaderLaws.{grows_none, grows_append, last_root}
use Rattle.fx_text.proofs.ReadLaws.{same_scope}
use Rattle.fx_text.proofs.ResourceLaws.{resources_push, resources_kept, roots_push}

-- ---- the scope after resources

under_push : (names : List CodeBound) (place : Place) (r : CodeResource) → place.foreign ≤ length names
    → scope (names ++ bounds_of (r ∷ [])) place ≡ under kind.Value r.name.now (scope names place)
under_push names place r le = scope_push names (record { name = r.name; kind = kind.Value }) place le

-- in the scope of the names of resources
pub scope_after_all : (nodes : List Node) (rs : List CodeResource) (names : List CodeBound) (place : Place) → place.foreign ≤ length names
    → scope (names ++ bounds_of rs) place ≡ under_all (resources_of nodes rs) (scope names place)
scope_after_all nodes [] names place le = ap (λ (l : List CodeBound). scope l place) (append-nil names)
scope_after_all nodes (r ∷ rs) names place le =
    ap (λ (l : List CodeBound). scope l place) (sym (append_assoc names (bounds_of (r ∷ [])) (bounds_of rs)))
    ∙ scope_after_all nodes rs (names ++ bounds_of (r ∷ [])) place (omega (arith, le, length-append names (bounds_of (r ∷ []))))
    ∙ ap (λ (p : Scope). under_all (resources_of nodes rs) p) (under_push names place r le)

-- what comes after can be read
pub binds_ready : (old new : Reader) (rs : List CodeResource) (bytes rest : List ℕ) → IsReady 0 old bytes → Binds old new rs bytes rest → IsReady 0 new rest
binds_ready old new rs bytes rest ready b =
    let more : length new.names.items ≡ length old.names.items + length rs = ap length b.names ∙ length-append old.names.items (bounds_of rs)
    ∙ ap (λ (n : ℕ). length old.names.items + n) (length-map rs _) in
    record {
      made = b.made;
      names_fit = omega (arith, ready.names_fit, b.shorter);
      nodes_fit = omega (arith, ready.nodes_fit, b.paid);
      outside = omega (arith, ready.outside, more, ap (λ (at : Place). at.foreign) b.place);
      some_turns = omega (arith, ready.some_turns, ap (λ (at : Place). at.turns) b.place);
      few_turns = omega (arith, ready.few_turns, ap (λ (at : Place). at.turns) b.place);
      few_queues = omega (arith, ready.few_queues, ap (λ (at : Place). length at.queues.now) b.place);
    }

-- ---- one by one

-- these, and the `)`
abbrev pub all_of : List Resource → Shape OfResources
all_of done = ends done

-- one resource more, and those after it, up to the `)`
abbrev pub more_after : List Resource → Scope → Shape OfResources
more_after done p = group OfResource p λ r. groups OfResource (under kind.Value r.name p) λ rs. ends (done ++ r ∷ rs)

-- any number more, up to the `)`
abbrev pub others_after : List Resource → Scope → Shape OfResources
others_after done p = groups OfResource p λ rs. ends (done ++ rs)

module _ (room : ℕ) (done : List Resource) (p : Scope) (text : List ℕ) where
  one_read : (r : Resource) (after : List ℕ) → group_at room OfResource p text ≡ Ok (r, after)
      → parts_at (group_at room) (more_after done p) text ≡ parts_at (group_at room) (others_after (done ++ r ∷ []) (under kind.Value r.name p)) after
  one_read r after e = rw e (ap (λ (go : List Resource → Shape OfResources). parts_at (group_at room) (groups OfResource (under kind.Value r.name p) go) after)
      (λ i rs. ends (sym (append_assoc done (r ∷ []) rs) i)))

  one_more : is_closing (next text).token ≡ false → parts_at (group_at room) (others_after done p) text ≡ parts_at (group_at room) (more_after done p) text
  one_more at = parts_go_on room OfResource OfResources p (λ rs. ends (done ++ rs)) text at

  no_more : is_closing (next text).token ≡ true → parts_at (group_at room) (others_after done p) text ≡ parts_at (group_at room) (all_of done) text
  no_more at = parts_ended room OfResource OfResources p (λ rs. ends (done ++ rs)) text at
      ∙ ap (λ (l : List Resource). parts_at (group_at room) (all_of l) text) (append-nil done)

-- the resources read so far, and what is still to come of the list
pub record BindsSoFar (room : ℕ) (to_come : List Resource → Scope → Shape OfResources) (old new : Reader) (rs : List CodeResource)
    (bytes rest : List ℕ) : Type 0 where
  pub binds : Binds old new rs bytes rest
  pub grows : GrowsBy old.nodes.items new.nodes.items (roots_of rs)
  pub read : parts_at (group_at room) (content OfResources (scope_of old)) bytes
      ≡ parts_at (group_at room) (to_come (resources_of new.nodes.items rs) (scope_of new)) rest

pub binds_none : (room : ℕ) (old : Reader) (rs : List CodeResource) (bytes : List ℕ) → rs ≡ [] → AreMade old.nodes.items old.needs.items
    → BindsSoFar room more_after old old rs bytes bytes
binds_none room old rs bytes none made = subst (λ (l : List CodeResource). BindsSoFar room more_after old old l bytes bytes) (sym none) (record {
  binds = record {
    names = sym (append-nil old.names.items);
    place = refl;
    made = made;
    keeps = record { longer = omega arith; same = λ id h. refl };
    below = tt;
    paid = omega arith;
    shorter = omega arith;
  };
  grows = grows_none old.nodes.items;
  read = refl;
})

below_push : (bound more : ℕ) (rs : List CodeResource) (r : CodeResource) → bound ≤ more → AllBelow bound (roots_of rs)
    → AllBelow more (r.acquire.0 ∷ r.release.0 ∷ []) → AllBelow more (roots_of (rs ++ r ∷ []))
below_push bound more [] r le h k = k
below_push bound more (q ∷ rs) r le h k = (let a = h.0 in omega arith, (let b = h.1.0 in omega arith, below_push bound more rs r le h.1.1 k))

-- a resource was read, and its name came in scope
pub binds_one : (room : ℕ) (old middle one new : Reader) (rs all : List CodeResource) (r : CodeResource) (bytes rest after : List ℕ)
    → BindsSoFar room more_after old middle rs bytes rest
    → group_at room OfResource (scope_of middle) rest ≡ Ok (resource_of one.nodes.items r, after)
    → WentThrough middle one (r.acquire ∷ r.release ∷ []) rest after
    → GrowsBy middle.nodes.items one.nodes.items (r.acquire.0 ∷ r.release.0 ∷ []) → length after < length rest
    → new.names.items ≡ one.names.items ++ record { name = r.name; kind = kind.Value } ∷ [] → new.place ≡ one.place → new.nodes.items ≡ one.nodes.items
    → new.needs.items ≡ one.needs.items
    → all ≡ rs ++ r ∷ [] → old.place.foreign ≤ length old.names.items
    → BindsSoFar room others_after old new all bytes after
binds_one room old middle one new rs all r bytes rest after h e w g lt names place nodes needs pushed outside =
    let le : middle.place.foreign ≤ length middle.names.items =
    omega (arith, outside, ap (λ (at : Place). at.foreign) h.binds.place, ap length h.binds.names, length-append old.names.items (bounds_of rs)) in
    let bound = bounds_of (r ∷ []) in
    let named : new.names.items ≡ middle.names.items ++ bound = names ∙ ap (λ (l : List CodeBound). l ++ bound) w.names in
    let stands : scope_of new ≡ under kind.Value r.name.now (scope_of middle) =
    ap (λ (l : List CodeBound). scope l new.place) named
    ∙ ap (λ (at : Place). scope (middle.names.items ++ bound) at) (place ∙ w.place)
    ∙ under_push middle.names.items middle.place r le in
    let kept = resources_kept middle.nodes.items one.nodes.items rs w.keeps h.binds.below in
    let done : resources_of middle.nodes.items rs ++ resource_of one.nodes.items r ∷ [] ≡ resources_of new.nodes.items (rs ++ r ∷ []) =
    ap (λ (l : List Resource). l ++ resource_of one.nodes.items r ∷ []) (sym kept) ∙ sym (resources_push one.nodes.items rs r)
    ∙ ap (λ (l : List Node). resources_of l (rs ++ r ∷ [])) (sym nodes) in
    subst (λ (l : List CodeResource). BindsSoFar room others_after old new l bytes after) (sym pushed) (record {
      binds = record {
        names = named ∙ ap (λ (l : List CodeBound). l ++ bound) h.binds.names ∙ append_assoc old.names.items (bounds_of rs) bound
            ∙ ap (λ (l : List CodeBound). old.names.items ++ l) (sym (map-append _ rs (r ∷ [])));
        place = place ∙ w.place ∙ h.binds.place;
        made = rw (nodes, needs) w.made;
        keeps = record {
          longer = rw nodes (let l = w.keeps.longer in let k = h.binds.keeps.longer in omega arith);
          same = λ id lt. rw nodes (w.keeps.same id (let k = h.binds.keeps.longer in omega arith) ∙ h.binds.keeps.same id lt);
        };
        below = rw nodes (below_push (length middle.nodes.items) (length one.nodes.items) rs r w.keeps.longer h.binds.below w.below);
        paid = rw nodes (omega (arith, w.paid, h.binds.paid, length-append rs (r ∷ [])));
        shorter = omega (arith, lt, h.binds.shorter, length-append rs (r ∷ []));
      };
      grows = rw (nodes, roots_push rs r) (grows_append old.nodes.items middle.nodes.items one.nodes.items (roots_of rs) (r.acquire.0 ∷ r.release.0 ∷ [])
          h.grows g);
      read = h.read ∙ one_read room _ _ rest (resource_of one.nodes.items r) after e
          ∙ ap (λ (l : List Resource). parts_at (group_at room) (others_after l (under kind.Value r.name.now (scope_of middle))) after) done
          ∙ ap (λ (p : Scope). parts_at (group_at room) (others_after (resources_of new.nodes.items (rs ++ r ∷ [])) p) after) (sym stands);
    })

-- before anything but the `)` there is one more
pub binds_more : (room : ℕ) (old new : Reader) (rs : List CodeResource) (bytes rest : List ℕ) → is_closing (next rest).token ≡ false
    → BindsSoFar room others_after old new rs bytes rest → BindsSoFar room more_after old new rs bytes rest
binds_more room old new rs bytes rest at h = record { binds = h.binds; grows = h.grows; read = h.read ∙ one_more room _ _ rest at }

-- the fault of a resource is that of the list
pub binds_fails : (room : ℕ) (old new : Reader) (rs : List CodeResource) (bytes rest : List ℕ) (e : ReadError)
    → BindsSoFar room more_after old new rs bytes rest → Fails e (group_at room OfResource (scope_of new) rest)
    → Fails e (parts_at (group_at room) (content OfResources (scope_of old)) bytes)
binds_fails room old new rs bytes rest errors.Memory h f = tt
binds_fails room old new rs bytes rest (errors.Fault x) h f = h.read ∙ rw f refl

-- ---- one

pub no_resource : (room : ℕ) (p : Scope) (bytes : List ℕ) (e : ReadError) → Fails e (named_at room p bytes) → Fails e (group_at room OfResource p bytes)
no_resource room p bytes e h = fails_as e _ _ (resource_is p bytes room) (fails_first e _ _ h)

-- a resource is a name, what acquires it, and what releases it in the scope of the name
module _ (room inside : ℕ) (old : Reader) (bytes : List ℕ) (below : inside + 1 ≡ room) where
  room_is : room - 1 ≡ inside
  room_is = omega arith

  module _ (x : Bor (List ℕ)) (named : List ℕ) (name_is : named_at room (scope_of old) bytes ≡ Ok (x.now, named)) where
    resource_named : group_at room OfResource (scope_of old) bytes ≡ after_name inside (scope_of old) (x.now, named)
    resource_named = resource_is (scope_of old) bytes room ∙ rw name_is (ap (λ (n : ℕ). after_name n (scope_of old) (x.now, named)) room_is)

    module _ (one : Reader) (a : ℕ) (after : List ℕ) (first : IsRead term_spares old one a named after (term_at inside (scope_of old) named)) where
      pub unreleased : (e : ReadError) → Fails e (term_at inside (under kind.Value x.now (scope_of one)) after)
          → Fails e (group_at room OfResource (scope_of old) bytes)
      unreleased errors.Memory h = tt
      unreleased (errors.Fault f) h = resource_named ∙ rw (
        first.read,
        subst (λ (p : Scope). term_at inside (under kind.Value x.now p) after ≡ Err f) (same_scope old one first.went.names
            first.went.place) h,
      ) refl

      module _ (two : Reader) (c : ℕ) (before_end : List ℕ)
          (second : IsRead term_spares one two c after before_end (term_at inside (under kind.Value x.now (scope_of one)) after)) where
        second_read : term_at inside (under kind.Value x.now (scope_of old)) after ≡ Ok (term_of two.nodes.items c, before_end)
        second_read = subst (λ (p : Scope). term_at inside (under kind.Value x.now p) after ≡ Ok (term_of two.nodes.items c, before_end))
            (same_scope old one first.went.names first.went.place) second.read

        pub unclosed : (e : ReadError) → Fails e (closing_at before_end) → Fails e (group_at room OfResource (scope_of old) bytes)
        unclosed errors.Memory h = tt
        unclosed (errors.Fault f) h = resource_named ∙ rw (first.read, second_read, h) refl

        pub resource_read : (r : CodeResource) (end : List ℕ) → r.name ≡ x → r.slot ≡ length old.names.items → r.acquire.0 ≡ a → r.release.0 ≡ c
            → closing_at before_end ≡ Ok (tt, end) → group_at room OfResource (scope_of old) bytes ≡ Ok (resource_of two.nodes.items r, end)
        resource_read r end x_is numbered a_is c_is closed =
            let kept : term_of two.nodes.items a ≡ term_of one.nodes.items a = second.went.keeps.same a (omega (arith, first.went.last)) in
            let numbered' : slot (scope_of old) ≡ r.slot = slot_at old.names.items old.place ∙ sym numbered in
            resource_named ∙ rw (first.read, second_read, closed, numbered', sym kept, sym x_is, sym a_is, sym c_is) refl

-- ---- the list

-- more bytes before, and fewer after
pub binds_wider : (old new : Reader) (rs : List CodeResource) (bytes inside rest after : List ℕ) → Binds old new rs inside rest → length inside ≤ length bytes
    → length after ≤ length rest → Binds old new rs bytes after
binds_wider old new rs bytes inside rest after b longer shorter = record {
  names = b.names;
  place = b.place;
  made = b.made;
  keeps = b.keeps;
  below = b.below;
  paid = omega (arith, b.paid);
  shorter = omega (arith, b.shorter);
}

module _ (room : ℕ) (p : Scope) (bytes inside : List ℕ) (some : 0 < room) (opened : opening_at bytes ≡ Ok (tt, inside)) where
  list_is : group_at room OfResources p bytes ≡ parts_at (group_at (room - 1)) (content OfResources p) inside
  list_is = group_untested room OfResources p bytes some (λ rs. refl) ∙ rw opened refl

  pub list_fails : (e : ReadError) → Fails e (parts_at (group_at (room - 1)) (content OfResources p) inside) → Fails e (group_at room OfResources p bytes)
  list_fails e f = subst (λ (r : Read (List Resource)). Fails e r) (sym list_is) f

-- the resources of a list
pub record ListRead (room : ℕ) (old new : Reader) (rs : List CodeResource) (bytes rest : List ℕ) : Type 0 where
  pub read : group_at room OfResources (scope_of old) bytes ≡ Ok (resources_of new.nodes.items rs, rest)
  pub binds : Binds old new rs bytes rest
  pub grows : GrowsBy old.nodes.items new.nodes.items (roots_of rs)

module _ (room : ℕ) (old new : Reader) (rs : List CodeResource) (bytes inside rest : List ℕ) (some : 0 < room) (opened : opening_at bytes ≡ Ok (tt, inside))
    (at : is_closing (next rest).token ≡ true) (h : BindsSoFar (room - 1) others_after old new rs inside rest) where
  all_is : group_at room OfResources (scope_of old) bytes ≡ parts_at (group_at (room - 1)) (all_of (resources_of new.nodes.items rs)) rest
  all_is = list_is room (scope_of old) bytes inside some opened ∙ h.read ∙ no_more (room - 1) _ _ rest at

  pub list_unclosed : (e : ReadError) → Fails e (closing_at rest) → Fails e (group_at room OfResources (scope_of old) bytes)
  list_unclosed errors.Memory f = tt
  list_unclosed (errors.Fault x) f = all_is ∙ rw f refl

  pub list_read : (after : List ℕ) → closing_at rest ≡ Ok (tt, after) → length inside < length bytes → length after < length rest
      → ListRead room old new rs bytes after
  list_read after close longer shorter = record {
    read = all_is ∙ rw close refl;
    binds = binds_wider old new rs bytes inside rest after h.binds (omega arith) (omega arith);
    grows = h.grows;
  }

-- ---- the whole form

module _ (room : ℕ) (old middle : Reader) (rs : List CodeResource) (bytes rest : List ℕ) (b : Binds old middle rs bytes rest)
    (read : group_at room OfResources (scope_of old) bytes ≡ Ok (resources_of middle.nodes.items rs, rest))
    (outside : old.place.foreign ≤ length old.names.items) where
  -- what uses the resources is read where all their names are in scope
  using_is : parts_at (group_at room) (shape form.Using (scope_of old)) bytes
      ≡ (term_at room (scope_of middle) rest >>= λ t. closing_at t.1 >>= λ c. Ok (using (resources_of middle.nodes.items rs) t.0, c.1))
  using_is = rw read (ap (λ (p : Scope). term_at room p rest >>= λ t. closing_at t.1 >>= λ c. Ok (using (resources_of middle.nodes.items rs) t.0, c.1))
      (sym stands))
    where
      stands : scope_of middle ≡ under_all (resources_of middle.nodes.items rs) (scope_of old)
      stands = ap (λ (l : List CodeBound). scope l middle.place) b.names ∙ ap (λ (at : Place). scope (old.names.items ++ bounds_of rs) at) b.place
          ∙ scope_after_all middle.nodes.items rs old.names.items old.place outside

  pub unused : (e : ReadError) → Fails e (term_at room (scope_of middle) rest) → Fails e (parts_at (group_at room) (shape form.Using (scope_of old)) bytes)
  unused errors.Memory f = tt
  unused (errors.Fault x) f = using_is ∙ rw f refl

  module _ (used : Term) (after : List ℕ) (one : term_at room (scope_of middle) rest ≡ Ok (used, after)) where
    pub using_unclosed : (e : ReadError) → Fails e (closing_at after) → Fails e (parts_at (group_at room) (shape form.Using (scope_of old)) bytes)
    using_unclosed errors.Memory f = tt
    using_unclosed (errors.Fault x) f = using_is ∙ rw (one, f) refl

    using_read : (end : List ℕ) → closing_at after ≡ Ok (tt, end) → parts_at (group_at room) (shape form.Using (scope_of old)) bytes
        ≡ Ok (using (resources_of middle.nodes.items rs) used, end)
    using_read end close = using_is ∙ rw (one, close) refl

-- the names of the resources go out of scope after what uses them
pub record Leaves (names : ℕ) (old new : Reader) : Type 0 where
  pub names_left : new.names.items ≡ take names old.names.items
  pub place : new.place ≡ old.place
  pub nodes : new.nodes.items ≡ old.nodes.items

module _ (old one two three new : Reader) (rs : List CodeResource) (used root outside : ℕ) (bytes rest after end : List ℕ) (b : Binds old one rs bytes rest)
    (w : Went term_spares one two used rest after)
    (n : Nests three new rs used root) (l : Leaves outside two three) (at : outside ≡ length old.names.items) (lt : length end < length after) where
  pub using_went : GrowsBy old.nodes.items new.nodes.items (root ∷ []) → Went form_spares old new root bytes end
  using_went g =
      let longer : length two.nodes.items ≤ length new.nodes.items = omega (arith, n.more, ap length l.nodes) in
      record {
        names = n.names ∙ l.names_left ∙ ap (λ (x : List CodeBound). take outside x) (w.names ∙ b.names)
            ∙ ap (λ (k : ℕ). take k (old.names.items ++ bounds_of rs)) at ∙ take-append_seam old.names.items (bounds_of rs);
        place = n.place ∙ l.place ∙ w.place ∙ b.place;
        made = n.made;
        keeps = record {
          longer = let x = b.keeps.longer in let y = w.keeps.longer in omega arith;
          same = λ id h. let x = b.keeps.longer in let y = w.keeps.longer in n.keeps.same id (omega (arith, ap length l.nodes))
              ∙ ap (λ (ns : List Node). term_of ns id) l.nodes ∙ w.keeps.same id (omega arith) ∙ b.keeps.same id h;
        };
        last = last_root old.nodes.items new.nodes.items [] root g;
        paid = omega (arith, w.paid, b.paid, n.more, ap length l.nodes);
        shorter = omega (arith, w.shorter, b.shorter);
      }

  pub using_means : (room : ℕ) → old.place.foreign ≤ length old.names.items
      → group_at room OfResources (scope_of old) bytes ≡ Ok (resources_of one.nodes.items rs, rest)
      → term_at room (scope_of one) rest ≡ Ok (term_of two.nodes.items used, after) → closing_at after ≡ Ok (tt, end)
      → parts_at (group_at room) (shape form.Using (scope_of old)) bytes ≡ Ok (term_of new.nodes.items root, end)
  using_means room outside read term close = using_read room old one rs bytes rest b read outside (term_of two.nodes.items used) after term end close
      ∙ ap (λ (t : Term). Ok (t, end)) (sym means)
    where
      means : term_of new.nodes.items root ≡ using (resources_of one.nodes.items rs) (term_of two.nodes.items used)
      means = n.term
          ∙ ap (λ (ns : List Node). using (resources_of ns rs) (term_of ns used)) l.nodes
          ∙ ap (λ (r : List Resource). using r (term_of two.nodes.items used)) (resources_kept one.nodes.items two.nodes.items rs w.keeps b.below)

-- the roots of the resources have nodes when what uses them is read
pub still_below : (old one two : Reader) (rs : List CodeResource) (used : ℕ) (bytes rest after : List ℕ) → Binds old one rs bytes rest
    → Went term_spares one two used rest after → AllBelow (length two.nodes.items) (roots_of rs)
still_below old one two rs used bytes rest after b w = raise rs b.below
  where
    raise : (qs : List CodeResource) → AllBelow (length one.nodes.items) (roots_of qs) → AllBelow (length two.nodes.items) (roots_of qs)
    raise [] h = tt
    raise (q ∷ qs) h = (let a = h.0 in let l = w.keeps.longer in omega arith, (let a = h.1.0 in let l = w.keeps.longer in omega arith, raise qs h.1.1))
