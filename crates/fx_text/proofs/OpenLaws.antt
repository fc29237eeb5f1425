-- A part of a form, up to the first part of its own, and after its last.
use Rattle.std.proofs.Common.{◌≡◌, ℕ, zero, suc, ◌+◌, ◌-◌, ◌<◌, ◌≤◌, Ok, Err, List, [], ◌∷◌, ◌++◌, length, take, refl, sym, ◌∙◌, ap, subst, arith}
use Rattle.std.proofs.lemmas.List.{length-append, length-take}
use Rattle.std.proofs.Math.Seq.{take-append_seam}
use Rattle.std.specs.Prelude.{Result}
use Rattle.std.specs.Borrow.{Bor}
use Rattle.fx_term.specs.Term.{Term}
use Rattle.fx_term.specs.Meaning.{term_of}
use Rattle.fx_term.specs.declared.name_kind.NameKind.TheVariants as kind
use Rattle.fx_text.specs.Limits.{term_spares, form_spares}
use Rattle.fx_text.specs.declared.fault.Fault.{Fault}
use Rattle.fx_text.specs.declared.fault.ReadError.{ReadError}
use Rattle.fx_text.specs.declared.fault.ReadError.TheVariants as errors
use Rattle.fx_text.specs.declared.form.Form.{Form}
use Rattle.fx_text.specs.declared.reader.Reader.{Reader}
use Rattle.fx_text.specs.declared.reader.head.Inner.{Inner}
use Rattle.fx_text.specs.declared.reader.head.Inner.TheVariants as inner
use Rattle.fx_text.specs.declared.reader.opening.Outside.{Outside}
use Rattle.fx_text.specs.declared.reader.opening.Opened.{Opened}
use Rattle.fx_text.specs.declared.place.Place.{Place}
use Rattle.fx_text.specs.declared.scope.Bound.{Bound as CodeBound}
use Rattle.fx_text.specs.Token.{next}
use Rattle.fx_text.specs.Scope.{Scope, under}
use Rattle.fx_text.specs.ScopeView.{scope}
use Rattle.fx_text.specs.Group.{OfTerm, OfOutcome}
use Rattle.fx_text.specs.Shape.{shape}
use Rattle.fx_text.specs.Reading.{◌>>=◌, Read, opening_at, form_at, parts_at, kept, group_at, term_at}
use Rattle.fx_text.specs.Given.{Fails}
use Rattle.fx_text.specs.ReaderState.{scope_of, IsReady, IsRead}
use Rattle.fx_text.specs.Head.{scope_in, spared, part_at, named_at, ended, closes, Enters, WentIn, Leaves, still, Begins, IsOpened}
use Rattle.fx_text.proofs.GroupLaws.{term_is, outcome_is, after_outcome}
use Rattle.fx_text.proofs.ReadyLaws.{ready_in}
use Rattle.fx_text.proofs.ScopeLaws.{scope_push}

-- ---- reading, and then more

bind_nothing : (r : Read Term) → r ≡ (r >>= λ x. Ok x)
bind_nothing (Ok x) = refl
bind_nothing (Err f) = refl

bind_both : (r : Read Term) (f g : Term × List ℕ → Read Term) → ((r >>= f) >>= g) ≡ (r >>= λ x. f x >>= g)
bind_both (Ok x) f g = refl
bind_both (Err e) f g = refl

-- a fault of what is read first is that of all
pub fails_first : {A B : Type 0} (e : ReadError) (r : Result A Fault) (f : A → Result B Fault) → Fails e r → Fails e (r >>= f)
fails_first errors.Memory r f h = tt
fails_first (errors.Fault x) r f h = rw h refl

pub fails_as : {A : Type 0} (e : ReadError) (r s : Result A Fault) → r ≡ s → Fails e s → Fails e r
fails_as e r s same h = subst (λ x. Fails e x) (sym same) h

-- ---- into a part

-- a part that is no outcome is its term
part_is_term : (i : Inner) → (i ≡ inner.Outcome → ⊥) → ((x : Bor (List ℕ)) → i ≡ inner.OutcomeUnder x → ⊥) → (room : ℕ) (p : Scope) (bytes : List ℕ)
    → part_at room i p bytes ≡ (term_at room (scope_in i p) bytes >>= ended i)
part_is_term inner.Same not nor room p bytes = bind_nothing _
part_is_term (inner.Name k x) not nor room p bytes = bind_nothing _
part_is_term inner.Elsewhere not nor room p bytes = bind_nothing _
part_is_term inner.RaceLeft not nor room p bytes = bind_nothing _
part_is_term inner.RaceRight not nor room p bytes = bind_nothing _
part_is_term (inner.Loop n x) not nor room p bytes = bind_nothing _
part_is_term inner.Outcome not nor room p bytes = absurd (not refl)
part_is_term (inner.OutcomeUnder x) not nor room p bytes = absurd (nor x refl)

pub went_in_scope : (i : Inner) (room : ℕ) (old new : Reader) (bytes : List ℕ) → (i ≡ inner.Outcome → ⊥)
    → ((x : Bor (List ℕ)) → i ≡ inner.OutcomeUnder x → ⊥) → IsReady (spared i) old bytes → Enters i old new
    → WentIn i room old new bytes room bytes
went_in_scope i room old new bytes not nor ready e = record {
  read = part_is_term i not nor room (scope_of old) bytes ∙ ap (λ (p : Scope). term_at room p bytes >>= ended i) (sym e.scope);
  names = e.names;
  nodes = e.nodes;
  ready = ready_in i old new bytes ready e;
  less = omega arith;
  shorter = omega arith;
}

-- what comes after an outcome, with the name of its number in scope
pub went_in_outcome : (room : ℕ) (old new : Reader) (b : CodeBound) (bytes : List ℕ) (level : ℕ) (rest : List ℕ) → IsReady 0 old bytes
    → named_at room (scope_of old) bytes ≡ Ok (b.name.now, rest) → level + 1 ≡ room → length rest + 2 ≤ length bytes → b.kind ≡ kind.Value
    → new.names.items ≡ old.names.items ++ b ∷ [] → new.place ≡ old.place → new.nodes.items ≡ old.nodes.items → new.needs.items ≡ old.needs.items
    → WentIn inner.Outcome room old new bytes level rest
went_in_outcome room old new b bytes level rest ready named below shorter value names place nodes needs =
    let stands : scope_of new ≡ under kind.Value b.name.now (scope_of old) = ap (λ (l : List CodeBound). scope l new.place) names
    ∙ ap (λ (at : Place). scope (old.names.items ++ b ∷ []) at) place ∙ scope_push old.names.items b old.place ready.outside
    ∙ ap (λ k. under k b.name.now (scope_of old)) value in
    let level_is : room - 1 ≡ level = omega arith in
    record {
      read = outcome_is (scope_of old) bytes room ∙ rw named (ap (λ (n : ℕ). after_outcome n (scope_of old) (b.name.now, rest)) level_is)
          ∙ ap (λ (p : Scope). term_at level p rest >>= ended inner.Outcome) (sym stands);
      names = ap (take (length old.names.items)) names ∙ take-append_seam old.names.items (b ∷ []);
      nodes = nodes;
      ready = record {
        made = rw (nodes, needs) ready.made;
        names_fit = omega (arith, ready.names_fit, ap length names, length-append old.names.items (b ∷ []));
        nodes_fit = omega (arith, ready.nodes_fit, ap length nodes);
        outside = omega (arith, ready.outside, ap (λ (at : Place). at.foreign) place, ap length names, length-append old.names.items (b ∷ []));
        some_turns = omega (arith, ready.some_turns, ap (λ (at : Place). at.turns) place);
        few_turns = omega (arith, ready.few_turns, ap (λ (at : Place). at.turns) place);
        few_queues = omega (arith, ready.few_queues, ap (λ (at : Place). length at.queues.now) place);
      };
      less = omega arith;
      shorter = omega arith;
    }

take_less : {A : Type 0} (n m : ℕ) (l : List A) → n ≤ m → take n (take m l) ≡ take n l
take_less zero m l le = refl
take_less (suc n) zero l le = absurd (omega arith)
take_less (suc n) (suc m) [] le = refl
take_less (suc n) (suc m) (x ∷ l) le = ap (λ (t : List _). x ∷ t) (take_less n m l (omega arith))

-- the same in the scope of a name more
pub went_in_under : (x : Bor (List ℕ)) (room : ℕ) (old one new : Reader) (bytes : List ℕ) (level : ℕ) (rest : List ℕ) → Enters (inner.OutcomeUnder x) old one
    → WentIn inner.Outcome room one new bytes level rest → WentIn (inner.OutcomeUnder x) room old new bytes level rest
went_in_under x room old one new bytes level rest e w = record {
  read = ap (λ (p : Scope). group_at room OfOutcome p bytes) (sym e.scope) ∙ w.read;
  names = sym (take_less (length old.names.items) (length one.names.items) new.names.items
      (omega (arith, ap length e.names, length-take (length old.names.items) one.names.items)))
      ∙ ap (take (length old.names.items)) w.names ∙ e.names;
  nodes = w.nodes ∙ e.nodes;
  ready = w.ready;
  less = w.less;
  shorter = w.shorter;
}

pub no_outcome : (room : ℕ) (p : Scope) (bytes : List ℕ) (e : ReadError) → Fails e (named_at room p bytes) → Fails e (group_at room OfOutcome p bytes)
no_outcome room p bytes e h = fails_as e _ _ (outcome_is p bytes room) (fails_first e _ _ h)

-- ---- up to the first part

module _ (i : Inner) (room : ℕ) (old new : Reader) (bytes : List ℕ) (level : ℕ) (rest : List ℕ) (w : WentIn i room old new bytes level rest) where
  -- the fault of its term is that of the part
  pub in_fails : (e : ReadError) → Fails e (term_at level (scope_of new) rest) → Fails e (part_at room i (scope_of old) bytes)
  in_fails e h = fails_as e _ _ w.read (fails_first e _ _ h)

  module _ (some : 0 < level) where
    pub in_unopened : (e : ReadError) → Fails e (opening_at rest) → Fails e (part_at room i (scope_of old) bytes)
    in_unopened e h = in_fails e (fails_as e _ _ (term_is level (scope_of new) rest some) (fails_first e _ _ h))

    module _ (inside : List ℕ) (opened : opening_at rest ≡ Ok (tt, inside)) where
      term_inside : term_at level (scope_of new) rest
          ≡ ((form_at inside >>= λ f. parts_at (group_at (level - 1)) (shape f.0 (scope_of new)) f.1) >>= kept OfTerm (next rest).from)
      term_inside = term_is level (scope_of new) rest some ∙ rw opened refl

      pub in_formless : (e : ReadError) → Fails e (form_at inside) → Fails e (part_at room i (scope_of old) bytes)
      in_formless e h = in_fails e (fails_as e _ _ term_inside (fails_first e _ _ (fails_first e _ _ h)))

      module _ (f : Form) (named : List ℕ) (form_is : form_at inside ≡ Ok (f, named)) where
        term_named : term_at level (scope_of new) rest ≡ (parts_at (group_at (level - 1)) (shape f (scope_of new)) named >>= kept OfTerm (next rest).from)
        term_named = term_inside ∙ rw form_is refl

        pub in_headless : (e : ReadError) → Fails e (parts_at (group_at (level - 1)) (shape f (scope_of new)) named)
            → Fails e (part_at room i (scope_of old) bytes)
        in_headless e h = in_fails e (fails_as e _ _ term_named (fails_first e _ _ h))

        pub is_opened : (o : Opened) → length inside + 1 ≡ (next rest).from → length inside < length rest → length named < length inside
            → o.inside.now ≡ inside → o.room ≡ level - 1 → Begins f new named o.head o.rest.now → IsOpened i room old new bytes o
        is_opened o from shorter less inside_is room_is b = record {
          read = w.read ∙ ap (λ (r : Read Term). r >>= ended i) (term_named
              ∙ ap (λ (r : Read Term). r >>= kept OfTerm (next rest).from) (b.read (group_at (level - 1))))
              ∙ bind_both (parts_at (group_at (level - 1)) (still new.nodes.items o.head (scope_of new)) o.rest.now) (kept OfTerm (next rest).from)
              (ended i)
              ∙ ap (λ (n : ℕ). parts_at (group_at n) (still new.nodes.items o.head (scope_of new)) o.rest.now >>= λ x. kept OfTerm (next rest).from x
              >>= ended i) (sym room_is)
              ∙ ap (λ (n : ℕ). parts_at (group_at o.room) (still new.nodes.items o.head (scope_of new)) o.rest.now >>= λ x. kept OfTerm n x >>= ended i)
              (sym from ∙ ap (λ (l : List ℕ). length l + 1) (sym inside_is));
          names = w.names;
          nodes = w.nodes;
          ready = record {
            made = w.ready.made;
            names_fit = omega (arith, w.ready.names_fit, b.shorter);
            nodes_fit = omega (arith, w.ready.nodes_fit, b.shorter);
            outside = w.ready.outside;
            some_turns = w.ready.some_turns;
            few_turns = w.ready.few_turns;
            few_queues = w.ready.few_queues;
          };
          fits = b.fits;
          less = omega (arith, w.less);
          paid = omega (arith, w.shorter, b.shorter);
          small = omega (arith, w.shorter, ap length inside_is);
        }

-- ---- the whole part

module _ (i : Inner) (room : ℕ) (old one : Reader) (bytes : List ℕ) (o : Opened) (opened : IsOpened i room old one bytes o) where
  pub open_fails : (e : ReadError) → Fails e (parts_at (group_at o.room) (still one.nodes.items o.head (scope_of one)) o.rest.now)
      → Fails e (part_at room i (scope_of old) bytes)
  open_fails e h = fails_as e _ _ opened.read (fails_first e _ _ h)

  module _ (two : Reader) (root : ℕ) (rest : List ℕ)
      (parts : IsRead form_spares one two root o.rest.now rest (parts_at (group_at o.room) (still one.nodes.items o.head (scope_of one)) o.rest.now)) where
    closes_is : part_at room i (scope_of old) bytes ≡ closes i o.inside.now (term_of two.nodes.items root, rest)
    closes_is = opened.read ∙ ap (λ (r : Read Term). r >>= closes i o.inside.now) parts.read

    pub open_unclosed : (e : ReadError) → Fails e (closes i o.inside.now (term_of two.nodes.items root, rest)) → Fails e (part_at room i (scope_of old) bytes)
    open_unclosed e h = fails_as e _ _ closes_is h

    pub part_read : (new : Reader) (outside : Outside) (end : List ℕ) → outside.names ≡ length old.names.items → outside.place ≡ old.place
        → closes i o.inside.now (term_of two.nodes.items root, rest) ≡ Ok (term_of two.nodes.items root, end) → Leaves outside two new
        → length end ≤ length rest → IsRead term_spares old new root bytes end (part_at room i (scope_of old) bytes)
    part_read new outside end names place closed l shorter = record {
      read = closes_is ∙ closed ∙ ap (λ ns. Ok (term_of ns root, end)) (sym l.nodes);
      went = record {
        names = l.names ∙ ap (λ (n : ℕ). take n two.names.items) names ∙ ap (take (length old.names.items)) parts.went.names ∙ opened.names;
        place = l.place ∙ place;
        made = rw (l.nodes, l.needs) parts.went.made;
        keeps = rw l.nodes (rw (sym opened.nodes) parts.went.keeps);
        last = parts.went.last ∙ ap length (sym l.nodes);
        paid = omega (arith, parts.went.paid, opened.paid, ap length l.nodes, ap length opened.nodes);
        shorter = omega (arith, parts.went.shorter, opened.paid);
      };
      grows = rw l.nodes (rw (sym opened.nodes) parts.grows);
    }
