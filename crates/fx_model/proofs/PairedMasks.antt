-- The masks of a path are opened by their polls exactly where the place is open.
use Rattle.std.proofs.Common.{◌≡◌, ℕ, Bool, true, false, List, [], ◌∷◌, ◌++◌, refl, sym, ◌∙◌, ap, subst, append_assoc, append-nil}
use Rattle.std.specs.Prelude.{if◌then◌else◌, ◌==◌, ◌↔◌}
use Rattle.std.proofs.lemmas.Bool.{eqb-true}
use Rattle.fx_term.specs.Term.{Term, Let, Handle, OnCancel, Bracket, BracketCase, Masked, Opened, InUse, InUseCase, InRelease, Await}
use Rattle.fx_mask.specs.Closing.{Closing, Region, Seal, without_region, is_none_closed}
use Rattle.fx_model.specs.Path.{closed_regions, is_open}
use Rattle.fx_model.specs.PairedMasks.{Mark, Closes, Opens, Seals, marks, IsPaired, nothing, idle, pair, appended}
use Rattle.fx_mask.proofs.Closing.{without_innermost}

-- what is closed inside these marks
abbrev closed_inside : List Closing → List Mark → List Closing
closed_inside outer [] = outer
closed_inside outer (Closes r ∷ w) = closed_inside (Region r ∷ outer) w
closed_inside outer (Opens r ∷ w) = closed_inside (without_region r outer) w
closed_inside outer (Seals ∷ w) = closed_inside (Seal ∷ outer) w

closed_by_marks : (outer : List Closing) (t : Term) → closed_regions outer t ≡ closed_inside outer (marks t)
closed_by_marks outer (Let x a b) = closed_by_marks outer a
closed_by_marks outer (Handle a x b) = closed_by_marks outer a
closed_by_marks outer (OnCancel a f) = closed_by_marks outer a
closed_by_marks outer (Bracket x a u r) = closed_by_marks (Seal ∷ outer) a
closed_by_marks outer (BracketCase x a u y s z e d) = closed_by_marks (Seal ∷ outer) a
closed_by_marks outer (Masked r a) = closed_by_marks (Region r ∷ outer) a
closed_by_marks outer (Opened r a) = closed_by_marks (without_region r outer) a
closed_by_marks outer (InUse k a r) = closed_by_marks outer a
closed_by_marks outer (InUseCase k a y s z e d) = closed_by_marks outer a
closed_by_marks outer (InRelease k a v) = closed_by_marks (Seal ∷ outer) a
closed_by_marks outer (Await f) = refl
closed_by_marks outer _ = refl

closed_append : (outer : List Closing) (w x : List Mark) → closed_inside outer (w ++ x) ≡ closed_inside (closed_inside outer w) x
closed_append outer [] x = refl
closed_append outer (Closes r ∷ w) x = closed_append (Region r ∷ outer) w x
closed_append outer (Opens r ∷ w) x = closed_append (without_region r outer) w x
closed_append outer (Seals ∷ w) x = closed_append (Seal ∷ outer) w x

-- marks that leave these regions closed; of what is inside a seal nothing is said
abbrev Leave : List Closing → List Mark → Type 0
Leave [] w = IsPaired w
Leave (Region r ∷ outer) w = (u : List Mark) × (v : List Mark) × Leave outer u × IsPaired v × (w ≡ u ++ Closes r ∷ v)
Leave (Seal ∷ outer) w = Unit {0}

leave_more : (cs : List Closing) (w x : List Mark) → Leave cs w → IsPaired x → Leave cs (w ++ x)
leave_more [] w x h n = appended h n
leave_more (Region r ∷ outer) w x h n = (h.0, h.1 ++ x, h.2, appended h.3 n, rw h.4 (append_assoc h.0 (Closes r ∷ h.1) x))
leave_more (Seal ∷ outer) w x h n = tt

leave_opened : (r : ℕ) (cs : List Closing) (w : List Mark) → Leave cs w → Leave (without_region r cs) (w ++ Opens r ∷ [])
leave_opened r [] w h = appended h idle
leave_opened r (Seal ∷ outer) w h = tt
leave_opened r (Region s ∷ outer) w h = by_test (s == r) refl
  where
    by_test : (b : Bool) → (s == r) ≡ b → Leave (if b then outer else Region s ∷ outer) (w ++ Opens r ∷ [])
    by_test true e =
        let same : Closes s ≡ Closes r = ap Closes (eqb-true s r e) in
        let found : Leave outer (h.0 ++ Closes r ∷ (h.1 ++ Opens r ∷ [])) = leave_more outer h.0 (Closes r ∷ (h.1 ++ Opens r ∷ [])) h.2 (pair h.3) in
        let at : w ++ Opens r ∷ [] ≡ h.0 ++ Closes r ∷ (h.1 ++ Opens r ∷ []) = rw h.4 (rw same (append_assoc h.0 (Closes r ∷ h.1) (Opens r ∷ []))) in
        subst (λ (x : List Mark). Leave outer x) (sym at) found
    by_test false e = leave_more (Region s ∷ outer) w (Opens r ∷ []) h idle

-- more marks leave closed what they close
leave_closed : (cs : List Closing) (w x : List Mark) → Leave cs w → Leave (closed_inside cs x) (w ++ x)
leave_closed cs w [] h = subst (λ (y : List Mark). Leave cs y) (sym (append-nil w)) h
leave_closed cs w (Closes r ∷ x) h =
    subst (λ (y : List Mark). Leave (closed_inside (Region r ∷ cs) x) y) (append_assoc w (Closes r ∷ []) x)
    (leave_closed (Region r ∷ cs) (w ++ Closes r ∷ []) x (w, [], h, nothing, refl))
leave_closed cs w (Opens r ∷ x) h =
    subst (λ (y : List Mark). Leave (closed_inside (without_region r cs) x) y) (append_assoc w (Opens r ∷ []) x)
    (leave_closed (without_region r cs) (w ++ Opens r ∷ []) x (leave_opened r cs w h))
leave_closed cs w (Seals ∷ x) h =
    subst (λ (y : List Mark). Leave (closed_inside (Seal ∷ cs) x) y) (append_assoc w (Seals ∷ []) x) (leave_closed (Seal ∷ cs) (w ++ Seals ∷ []) x tt)

-- what is closed is what was closed outside, without some of the innermost
abbrev IsOuterPart : List Closing → List Closing → Type 0
IsOuterPart cs outer = (dropped : List Closing) × (outer ≡ dropped ++ cs)

opened_is_outer_part : (r : ℕ) (cs : List Closing) → IsOuterPart (without_region r cs) cs
opened_is_outer_part r [] = ([], refl)
opened_is_outer_part r (Seal ∷ outer) = ([], refl)
opened_is_outer_part r (Region s ∷ outer) = by_test (s == r)
  where
    by_test : (b : Bool) → IsOuterPart (if b then outer else Region s ∷ outer) (Region s ∷ outer)
    by_test true = (Region s ∷ [], refl)
    by_test false = ([], refl)

outer_part_of_part : (cs ds es : List Closing) → IsOuterPart cs ds → IsOuterPart ds es → IsOuterPart cs es
outer_part_of_part cs ds es p q = (q.0 ++ p.0, rw q.1 (rw p.1 (sym (append_assoc q.0 p.0 cs))))

-- a pair takes its own region off, unless a poll inside it did
pair_is_outer_part : (r : ℕ) (cs outer : List Closing) → IsOuterPart cs (Region r ∷ outer) → IsOuterPart (without_region r cs) outer
pair_is_outer_part r cs outer ([], e) = ([], sym (ap (without_region r) (sym e) ∙ without_innermost r outer))
pair_is_outer_part r cs outer (d ∷ dropped, e) = outer_part_of_part (without_region r cs) cs outer (opened_is_outer_part r cs) (dropped, cc)

paired_is_outer_part : (outer : List Closing) {w : List Mark} → IsPaired w → IsOuterPart (closed_inside outer w) outer
paired_is_outer_part outer nothing = ([], refl)
paired_is_outer_part outer (idle {r = r}) = opened_is_outer_part r outer
paired_is_outer_part outer (pair {r = r} {w = w} p) =
    subst (λ (cs : List Closing). IsOuterPart cs outer) (sym (closed_append (Region r ∷ outer) w (Opens r ∷ [])))
    (pair_is_outer_part r (closed_inside (Region r ∷ outer) w) outer (paired_is_outer_part (Region r ∷ outer) p))
paired_is_outer_part outer (appended {w = w} {x = x} p q) =
    let first = paired_is_outer_part outer p in
    let second = paired_is_outer_part (closed_inside outer w) q in
    subst (λ (cs : List Closing). IsOuterPart cs outer) (sym (closed_append outer w x))
    (outer_part_of_part (closed_inside (closed_inside outer w) x) (closed_inside outer w) outer second first)

none_outside : (cs : List Closing) → IsOuterPart cs [] → is_none_closed cs ≡ true
none_outside [] h = refl
none_outside (c ∷ cs) ([], e) = absurd (cc)
none_outside (c ∷ cs) (d ∷ dropped, e) = absurd (cc)

none_closed : (cs : List Closing) → is_none_closed cs ≡ true → cs ≡ []
none_closed [] e = refl
none_closed (c ∷ cs) e = absurd (cc)

pub open_is_paired : (t : Term) → is_open t ≡ true → IsPaired (marks t)
open_is_paired t e =
    subst (λ (cs : List Closing). Leave cs (marks t)) (sym (closed_by_marks [] t) ∙ none_closed (closed_regions [] t) e) (leave_closed [] [] (marks t) nothing)

paired_is_open : (t : Term) → IsPaired (marks t) → is_open t ≡ true
paired_is_open t p = ap is_none_closed (closed_by_marks [] t) ∙ none_outside (closed_inside [] (marks t)) (paired_is_outer_part [] p)

pub open_where_paired : (t : Term) → (is_open t ≡ true) ↔ IsPaired (marks t)
open_where_paired t = (open_is_paired t, paired_is_open t)

abbrev pub HasNoSeal : List Mark → Type 0
HasNoSeal [] = Unit {0}
HasNoSeal (Seals ∷ w) = ⊥
HasNoSeal (m ∷ w) = HasNoSeal w

no_seal_append : (w x : List Mark) → HasNoSeal w → HasNoSeal x → HasNoSeal (w ++ x)
no_seal_append [] x h k = k
no_seal_append (Closes r ∷ w) x h k = no_seal_append w x h k
no_seal_append (Opens r ∷ w) x h k = no_seal_append w x h k
no_seal_append (Seals ∷ w) x h k = absurd h

pub paired_has_no_seal : {w : List Mark} → IsPaired w → HasNoSeal w
paired_has_no_seal nothing = tt
paired_has_no_seal idle = tt
paired_has_no_seal (pair {r = r} {w = w} p) = no_seal_append w (Opens r ∷ []) (paired_has_no_seal p) tt
paired_has_no_seal (appended {w = w} {x = x} p q) = no_seal_append w x (paired_has_no_seal p) (paired_has_no_seal q)
