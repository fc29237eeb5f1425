-- What is still to come of a form, part by part.
use Rattle.std.proofs.Common.{◌≡◌, ℕ, ◌+◌, ◌*◌, ◌≤◌, None, Ok, Err, List, [], ◌∷◌, ◌++◌, length, refl, sym, ◌∙◌, ap, subst, arith}
use Rattle.std.specs.Prelude.{Result}
use Rattle.std.specs.Borrow.{Bor}
use Rattle.std.proofs.lemmas.List.Sorted.{IsPermutation-refl}
use Rattle.fx_term.specs.declared.node.Arg.TheVariants as arg
use Rattle.fx_term.specs.declared.name_kind.NameKind.TheVariants as kind
use Rattle.fx_term.specs.declared.node.NodeId.{NodeId}
use Rattle.fx_term.specs.declared.node.Node.{Node}
use Rattle.fx_term.specs.declared.node.Node.TheVariants as node
use Rattle.fx_term.specs.Term.{Term, Let, Handle}
use Rattle.fx_term.specs.Meaning.{term_of}
use Rattle.fx_text.specs.Limits.{term_spares, form_spares}
use Rattle.fx_text.specs.declared.fault.ReadError.{ReadError}
use Rattle.fx_text.specs.declared.fault.ReadError.TheVariants as errors
use Rattle.fx_text.specs.declared.reader.Reader.{Reader}
use Rattle.fx_text.specs.declared.reader.head.Inner.{Inner}
use Rattle.fx_text.specs.declared.reader.head.Inner.TheVariants as inner
use Rattle.fx_text.specs.declared.reader.head.Single.{Single}
use Rattle.fx_text.specs.declared.reader.head.Double.{Double}
use Rattle.fx_text.specs.declared.reader.head.Double.TheVariants as double
use Rattle.fx_text.specs.declared.reader.head.Triple.{Triple}
use Rattle.fx_text.specs.declared.reader.head.Then.{Then}
use Rattle.fx_text.specs.declared.reader.head.Then.TheVariants as then
use Rattle.fx_text.specs.declared.reader.head.Whole.{Whole}
use Rattle.fx_text.specs.declared.reader.head.Whole.TheVariants as whole
use Rattle.fx_text.specs.declared.reader.head.Ahead.{Ahead}
use Rattle.fx_text.specs.declared.reader.head.Ahead.TheVariants as ahead
use Rattle.fx_text.specs.declared.reader.head.Head.{Head}
use Rattle.fx_text.specs.declared.reader.head.Head.TheVariants as head
use Rattle.fx_text.specs.declared.reader.cases.CasePart.{CasePart}
use Rattle.fx_text.specs.declared.reader.cases.CasePart.TheVariants as case_part
use Rattle.fx_text.specs.declared.reader.cases.Case.{Case}
use Rattle.fx_text.specs.declared.place.Place.{Place}
use Rattle.fx_text.specs.Scope.{Scope}
use Rattle.fx_text.specs.Group.{OfTerm}
use Rattle.fx_text.specs.Shape.{Shape, ends, pure_zero}
use Rattle.fx_text.specs.Reading.{◌>>=◌, Read, GroupReading, parts_at, group_at}
use Rattle.fx_text.specs.Given.{Fails}
use Rattle.fx_text.specs.Needs.{AreMade}
use Rattle.fx_text.specs.Trees.{AllBelow, GrowsBy, Keeps}
use Rattle.fx_text.specs.ReaderState.{scope_of, ids, IsReady, IsRead, ReadsTerm, Adds}
use Rattle.fx_text.specs.Made.{CanMake}
use Rattle.fx_text.specs.Head.{spared, part_of, part_at, ThenFits, HeadFits, AheadFits, parts_of_whole, parts_before, parts_of}
use Rattle.fx_text.specs.Head.{spares_for, spares_before, spares_whole, spares_of, after_part, after_case, parts_before_case, to_come, still}
use Rattle.fx_text.specs.Head.{CanGoOn, WentOn, EndsWhole}
use Rattle.fx_text.proofs.ReaderLaws.{grows_none, grows_append}
use Rattle.fx_text.proofs.ReadLaws.{same_scope, below_push}
use Rattle.fx_text.proofs.ReadyLaws.{ready_made, ready_spared}
use Rattle.fx_text.proofs.SequenceLaws.{ids_push}
use Rattle.fx_text.proofs.OpenLaws.{fails_first, fails_as}

-- ---- from a part to the next one

few_spares : (f : Double) → spares_for f ≤ term_spares
few_spares (double.Let x) = omega arith
few_spares (double.Handle x) = omega arith
few_spares (double.If v) = omega arith
few_spares (double.Start h) = omega arith
few_spares (double.Race s) = omega arith
few_spares (double.TryTake q x) = omega arith
few_spares double.OnCancel = omega arith
few_spares double.Guarantee = omega arith
few_spares double.Forcer = omega arith

-- where nothing but the part is to be read
module _ (r : Reader) (t : Then) (a : NodeId) (bytes : List ℕ) (can : CanGoOn r t a) where
  went_same : (like : Then) (h : Ahead) → t ≡ like → parts_of h ≡ parts_before like ++ a ∷ [] → spares_of h ≤ spares_before like + term_spares
      → (ThenFits r.place.turns like → AheadFits r.place.turns h)
      → after_part r.nodes.items like (term_of r.nodes.items a.0) (scope_of r) ≡ to_come r.nodes.items h (scope_of r) → WentOn r r t a bytes h bytes
  went_same like h is same few fits means = record {
    names = refl;
    place = refl;
    made = can.made.made;
    keeps = record { longer = omega arith; same = λ id lt. refl };
    below = subst (λ (l : List NodeId). AllBelow (length r.nodes.items) (ids l)) (sym parts) can.made.below;
    paid = omega (arith, few, ap spares_before is);
    shorter = omega arith;
    fits = fits (subst (λ (t : Then). ThenFits r.place.turns t) is can.fits);
    read = λ each. ap (λ (t : Then). parts_at each (after_part r.nodes.items t (term_of r.nodes.items a.0) (scope_of r)) bytes) is
        ∙ ap (λ (s : Shape OfTerm). parts_at each s bytes) means;
    grows = λ start g. subst (λ (l : List NodeId). GrowsBy start r.nodes.items (ids l)) (sym parts) g;
  }
    where
      parts : parts_of h ≡ parts_before t ++ a ∷ []
      parts = same ∙ ap (λ (t : Then). parts_before t ++ a ∷ []) (sym is)

  pub went_one : (f : Single) → t ≡ then.One f → WentOn r r t a bytes (ahead.End (whole.One f a)) bytes
  went_one f is = went_same (then.One f) _ is refl (omega arith) (λ fits. tt) refl

  pub went_two : (i : Inner) (f : Double) → t ≡ then.Two i f → WentOn r r t a bytes (ahead.Part i (then.SecondOfTwo f a)) bytes
  went_two i f is = went_same (then.Two i f) _ is refl (omega (arith, few_spares f)) (λ fits. (fits, tt)) refl

  pub went_second_of_two : (f : Double) (b : NodeId) → t ≡ then.SecondOfTwo f b → WentOn r r t a bytes (ahead.End (whole.Two f b a)) bytes
  went_second_of_two f b is = went_same (then.SecondOfTwo f b) _ is refl (omega (arith, few_spares f)) (λ fits. tt) refl

  pub went_three : (i j : Inner) (f : Triple) → t ≡ then.Three i j f → WentOn r r t a bytes (ahead.Part i (then.SecondOfThree j f a)) bytes
  went_three i j f is = went_same (then.Three i j f) _ is refl (omega arith) (λ fits. fits) refl

  pub went_second_of_three : (j : Inner) (f : Triple) (b : NodeId) → t ≡ then.SecondOfThree j f b
      → WentOn r r t a bytes (ahead.Part j (then.ThirdOfThree f b a)) bytes
  went_second_of_three j f b is = went_same (then.SecondOfThree j f b) _ is refl (omega arith) (λ fits. (fits, tt)) refl

  pub went_third_of_three : (f : Triple) (b c : NodeId) → t ≡ then.ThirdOfThree f b c → WentOn r r t a bytes (ahead.End (whole.Three f b c a)) bytes
  went_third_of_three f b c is = went_same (then.ThirdOfThree f b c) _ is refl (omega arith) (λ fits. tt) refl

  -- a `bracketcase` at this part
  went_case : (k : Case) (at : CasePart) (h : Ahead) → t ≡ then.Case k → k.part ≡ at → parts_of h ≡ parts_before_case at ++ a ∷ [] → spares_of h ≡ 0
      → AheadFits r.place.turns h
      → after_case r.nodes.items k at (term_of r.nodes.items a.0) (scope_of r) ≡ to_come r.nodes.items h (scope_of r) → WentOn r r t a bytes h bytes
  went_case k at h is here same free fits means =
      went_same (then.Case (record k { part = at })) h (is ∙ ap (λ (c : CasePart). then.Case (record k { part = c })) here) same
      (omega (arith, free)) (λ _. fits) means

  pub went_acquire : (k : Case) → t ≡ then.Case k → k.part ≡ case_part.Acquire
      → WentOn r r t a bytes (ahead.Part (inner.Name kind.Value k.name) (then.Case (record k { part = case_part.Use a }))) bytes
  went_acquire k is here = went_case k _ _ is here refl refl (tt, tt) refl

  pub went_use : (k : Case) (b : NodeId) → t ≡ then.Case k → k.part ≡ case_part.Use b
      → WentOn r r t a bytes (ahead.Part (inner.OutcomeUnder k.name) (then.Case (record k { part = case_part.Success b a }))) bytes
  went_use k b is here = went_case k _ _ is here refl refl (tt, tt) refl

  pub went_success : (k : Case) (b c : NodeId) → t ≡ then.Case k → k.part ≡ case_part.Success b c
      → WentOn r r t a bytes (ahead.Part (inner.OutcomeUnder k.name) (then.Case (record k { part = case_part.Failure b c a }))) bytes
  went_success k b c is here = went_case k _ _ is here refl refl (tt, tt) refl

  pub went_failure : (k : Case) (b c d : NodeId) → t ≡ then.Case k → k.part ≡ case_part.Failure b c d
      → WentOn r r t a bytes (ahead.Part (inner.Name kind.Value k.name) (then.Case (record k { part = case_part.Cancellation b c d a }))) bytes
  went_failure k b c d is here = went_case k _ _ is here refl refl (tt, tt) refl

  pub went_cancellation : (k : Case) (b c d e : NodeId) → t ≡ then.Case k → k.part ≡ case_part.Cancellation b c d e
      → WentOn r r t a bytes (ahead.End (whole.Case k.slots (record { acquire = b; used = c; success = d; failure = e; cancellation = a }))) bytes
  went_cancellation k b c d e is here = went_case k _ _ is here refl refl tt refl

-- the first part of a `forcer`, with the two nodes that are made of it
pub forcer_went : (old one new : Reader) (a z h : NodeId) (bytes : List ℕ) → CanGoOn old then.Forcer a → Adds old one (node.Pure (arg.Number 0)) z.0
    → Adds one new (node.Handle a None z) h.0
    → WentOn old new then.Forcer a bytes (ahead.Part inner.Same (then.SecondOfTwo double.Forcer h)) bytes
forcer_went old one new a z h bytes can first second =
    let a_is : term_of new.nodes.items a.0 ≡ term_of old.nodes.items a.0 = second.keeps.same a.0 (let b = can.made.below.0 in omega (arith, first.one))
    ∙ first.keeps.same a.0 can.made.below.0 in
    let z_is : term_of new.nodes.items z.0 ≡ pure_zero = second.keeps.same z.0 (omega (arith, first.last)) ∙ first.term in
    let h_is : term_of new.nodes.items h.0 ≡ Handle (term_of new.nodes.items a.0) None (term_of new.nodes.items z.0) = second.term in
    let means : Handle (term_of old.nodes.items a.0) None pure_zero ≡ term_of new.nodes.items h.0 = cc in
    let here = same_scope old new (second.names ∙ first.names) (second.place ∙ first.place) in
    record {
      names = second.names ∙ first.names;
      place = second.place ∙ first.place;
      made = second.made;
      keeps = record {
        longer = omega (arith, first.one, second.one);
        same = λ id lt. second.keeps.same id (omega (arith, first.one)) ∙ first.keeps.same id lt;
      };
      below = (omega (arith, second.last), tt);
      paid = omega (arith, first.one, second.one);
      shorter = omega arith;
      fits = (tt, tt);
      read = λ each.
          ap (λ (t : Term). parts_at each (part_of inner.Same (scope_of old) λ b. ends (Let None t b)) bytes) means
          ∙ ap (λ (p : Scope). parts_at each (part_of inner.Same p λ b. ends (Let None (term_of new.nodes.items h.0) b)) bytes) (sym here);
      grows = λ start g. second.grows start (a.0 ∷ z.0 ∷ []) (IsPermutation-refl _)
          (grows_append start old.nodes.items one.nodes.items (a.0 ∷ []) (z.0 ∷ []) g
          (first.grows old.nodes.items [] (IsPermutation-refl []) (grows_none old.nodes.items)));
    }

-- ---- the parts so far

-- what was read of a form after its first tokens, and what is still to come
pub record Ongoing (room : ℕ) (old new : Reader) (h : Head) (bytes : List ℕ) (a : Ahead) (rest : List ℕ) : Type 0 where
  pub names : new.names.items ≡ old.names.items
  pub place : new.place ≡ old.place
  pub made : AreMade new.nodes.items new.needs.items
  pub keeps : Keeps old.nodes.items new.nodes.items
  pub below : AllBelow (length new.nodes.items) (ids (parts_of a))
  pub grows : GrowsBy old.nodes.items new.nodes.items (ids (parts_of a))
  pub paid : length new.nodes.items + 8 * length rest + spares_of a ≤ length old.nodes.items + 8 * length bytes
  pub shorter : length rest ≤ length bytes
  pub fits : AheadFits new.place.turns a
  pub read : parts_at (group_at room) (still old.nodes.items h (scope_of old)) bytes
      ≡ parts_at (group_at room) (to_come new.nodes.items a (scope_of new)) rest

pub ongoing_first : (room : ℕ) (old : Reader) (h : Head) (bytes : List ℕ) (i : Inner) (t : Then) → AreMade old.nodes.items old.needs.items
    → h ≡ head.Part i t → HeadFits old.place.turns h → Ongoing room old old h bytes (ahead.Part i t) bytes
ongoing_first room old h bytes i t made is fits =
    let f : HeadFits old.place.turns (head.Part i t) = subst (λ (h : Head). HeadFits old.place.turns h) is fits in
    record {
      names = refl;
      place = refl;
      made = made;
      keeps = record { longer = omega arith; same = λ id lt. refl };
      below = subst (λ (l : List NodeId). AllBelow (length old.nodes.items) (ids l)) (sym f.2.none) tt;
      grows = subst (λ (l : List NodeId). GrowsBy old.nodes.items old.nodes.items (ids l)) (sym f.2.none) (grows_none old.nodes.items);
      paid = omega (arith, f.2.free);
      shorter = omega arith;
      fits = (f.0, f.1);
      read = ap (λ (h : Head). parts_at (group_at room) (still old.nodes.items h (scope_of old)) bytes) is;
    }

-- a part, and then what comes after it
part_then : (room : ℕ) (i : Inner) (p : Scope) (go : Term → Shape OfTerm) (bytes : List ℕ)
    → parts_at (group_at room) (part_of i p go) bytes ≡ (part_at room i p bytes >>= λ x. parts_at (group_at room) (go x.0) x.1)
part_then room inner.Same p go bytes = refl
part_then room (inner.Name k x) p go bytes = refl
part_then room inner.Elsewhere p go bytes = refl
part_then room inner.RaceLeft p go bytes = refl
part_then room inner.RaceRight p go bytes = refl
part_then room (inner.Loop n x) p go bytes = refl
part_then room inner.Outcome p go bytes = refl
part_then room (inner.OutcomeUnder x) p go bytes = refl

-- the terms of the parts before stay
case_kept : (old new : List Node) (c : Case) (at : CasePart) (a : Term) (p : Scope) → Keeps old new → AllBelow (length old) (ids (parts_before_case at))
    → after_case old c at a p ≡ after_case new c at a p
case_kept old new c case_part.Acquire t p k below = refl
case_kept old new c (case_part.Use a) t p k below = let f = k.same a.0 below.0 in rw f refl
case_kept old new c (case_part.Success a u) t p k below = let f = k.same a.0 below.0 in let g = k.same u.0 below.1.0 in rw (f, g) refl
case_kept old new c (case_part.Failure a u s) t p k below = let f = k.same a.0 below.0 in let g = k.same u.0 below.1.0 in
    let h = k.same s.0 below.1.1.0 in rw (f, g, h) refl
case_kept old new c (case_part.Cancellation a u s e) t p k below = let f = k.same a.0 below.0 in let g = k.same u.0 below.1.0 in
    let h = k.same s.0 below.1.1.0 in let i = k.same e.0 below.1.1.1.0 in rw (f, g, h, i) refl

after_kept : (old new : List Node) (t : Then) (a : Term) (p : Scope) → Keeps old new → AllBelow (length old) (ids (parts_before t))
    → after_part old t a p ≡ after_part new t a p
after_kept old new (then.One f) a p k below = refl
after_kept old new (then.Two i f) a p k below = refl
after_kept old new (then.SecondOfTwo f b) a p k below = let e = k.same b.0 below.0 in rw e refl
after_kept old new (then.Three i j f) a p k below = refl
after_kept old new (then.SecondOfThree j f b) a p k below = let e = k.same b.0 below.0 in rw e refl
after_kept old new (then.ThirdOfThree f b c) a p k below = let e = k.same b.0 below.0 in let g = k.same c.0 below.1.0 in rw (e, g) refl
after_kept old new (then.Case c) a p k below = case_kept old new c c.part a p k below
after_kept old new then.Handle a p k below = refl
after_kept old new then.Forcer a p k below = refl

module _ (room : ℕ) (old new : Reader) (h : Head) (bytes : List ℕ) (i : Inner) (t : Then) (rest : List ℕ)
    (o : Ongoing room old new h bytes (ahead.Part i t) rest) (ready : IsReady 2 old bytes) where
  pub ongoing_ready : IsReady (spared i) new rest
  ongoing_ready = ready_spared i new rest
      (ready_made 2 2 old new bytes rest ready o.names o.place o.made (omega (arith, o.shorter)) (omega (arith, o.paid)))

  -- the fault of the part is that of the form
  pub ongoing_fails : (e : ReadError) → Fails e (part_at room i (scope_of new) rest)
      → Fails e (parts_at (group_at room) (still old.nodes.items h (scope_of old)) bytes)
  ongoing_fails e f = fails_as e _ _ (o.read ∙ part_then room i (scope_of new) _ rest) (fails_first e _ _ f)

  module _ (one : Reader) (a : NodeId) (later : List ℕ) (part : IsRead term_spares new one a.0 rest later (part_at room i (scope_of new) rest)) where
    pub can_go_on : CanGoOn one t a
    can_go_on = record {
      made = record {
        made = part.went.made;
        below = subst (λ (l : List ℕ). AllBelow (length one.nodes.items) l) (sym (ids_push (parts_before t) a))
            (below_push (length new.nodes.items) (length one.nodes.items) a.0 (ids (parts_before t)) part.went.keeps.longer
            (omega (arith, part.went.last)) o.below);
        room = omega (arith, ready.nodes_fit, o.paid, part.went.paid);
      };
      names_fit = omega (arith, ready.names_fit, ap length o.names, ap length part.went.names);
      fits = subst (λ (at : Place). ThenFits at.turns t) (sym part.went.place) o.fits.1;
    }

    read_past : parts_at (group_at room) (still old.nodes.items h (scope_of old)) bytes
        ≡ parts_at (group_at room) (after_part one.nodes.items t (term_of one.nodes.items a.0) (scope_of one)) later
    read_past = o.read ∙ part_then room i (scope_of new) _ rest
        ∙ ap (λ (r : Read Term). r >>= λ x. parts_at (group_at room) (after_part new.nodes.items t x.0 (scope_of new)) x.1) part.read
        ∙ ap (λ (s : Shape OfTerm). parts_at (group_at room) s later)
        (after_kept new.nodes.items one.nodes.items t (term_of one.nodes.items a.0) (scope_of new) part.went.keeps o.below
        ∙ ap (λ (p : Scope). after_part one.nodes.items t (term_of one.nodes.items a.0) p) (sym (same_scope new one part.went.names part.went.place)))

    pub past_fails : (e : ReadError)
        → ((each : GroupReading) → Fails e (parts_at each (after_part one.nodes.items t (term_of one.nodes.items a.0) (scope_of one)) later))
        → Fails e (parts_at (group_at room) (still old.nodes.items h (scope_of old)) bytes)
    past_fails e f = fails_as e _ _ read_past (f (group_at room))

    pub ongoing_next : (two : Reader) (b d : Ahead) (next : List ℕ) → b ≡ d → WentOn one two t a later b next → Ongoing room old two h bytes d next
    ongoing_next two b d next is went =
        let w : WentOn one two t a later d next = subst (λ (b : Ahead). WentOn one two t a later b next) is went in record {
          names = w.names ∙ part.went.names ∙ o.names;
          place = w.place ∙ part.went.place ∙ o.place;
          made = w.made;
          keeps = record {
            longer = let k = w.keeps.longer in let l = part.went.keeps.longer in let m = o.keeps.longer in omega arith;
            same = λ id lt. let l = part.went.keeps.longer in let m = o.keeps.longer in w.keeps.same id (omega arith) ∙ part.went.keeps.same id (omega arith)
                ∙ o.keeps.same id lt;
          };
          below = w.below;
          grows = w.grows old.nodes.items (subst (λ (l : List ℕ). GrowsBy old.nodes.items one.nodes.items l) (sym (ids_push (parts_before t) a))
              (grows_append old.nodes.items new.nodes.items one.nodes.items (ids (parts_before t)) (a.0 ∷ []) o.grows part.grows));
          paid = omega (arith, w.paid, w.shorter, part.went.paid, o.paid);
          shorter = omega (arith, w.shorter, part.went.shorter, o.shorter);
          fits = w.fits;
          read = read_past ∙ w.read (group_at room);
        }

-- ---- the end

module _ (room : ℕ) (old middle : Reader) (h : Head) (bytes : List ℕ) (w : Whole) (rest : List ℕ)
    (o : Ongoing room old middle h bytes (ahead.End w) rest) where
  pub can_make_whole : IsReady 2 old bytes → CanMake (1 + spares_whole w) middle (parts_of_whole w)
  can_make_whole ready = record { made = o.made; below = o.below; room = omega (arith, ready.nodes_fit, o.paid) }

  pub whole_read : (new : Reader) (result : Result (NodeId × Bor (List ℕ)) ReadError) → EndsWhole middle new w rest result
      → ReadsTerm form_spares old new bytes (parts_at (group_at room) (still old.nodes.items h (scope_of old)) bytes) result
  whole_read new (Ok x) e = record {
    read = o.read ∙ rw e.closed (ap (λ (t : Term). Ok (t, x.1.now)) (sym e.makes.term));
    went = record {
      names = e.makes.names ∙ o.names;
      place = e.makes.place ∙ o.place;
      made = e.makes.made;
      keeps = record {
        longer = let l = e.makes.keeps.longer in let k = o.keeps.longer in omega arith;
        same = λ id lt. e.makes.keeps.same id (let k = o.keeps.longer in omega arith) ∙ o.keeps.same id lt;
      };
      last = e.makes.last;
      paid = omega (arith, e.makes.paid, e.shorter, o.paid);
      shorter = omega (arith, e.shorter, o.shorter);
    };
    grows = e.makes.grows old.nodes.items o.grows;
  }
  whole_read new (Err errors.Memory) e = tt
  whole_read new (Err (errors.Fault f)) e = o.read ∙ rw e refl
