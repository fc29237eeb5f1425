-- What a walk keeps where a node has a place more, or a group begins or ends.
use Rattle.std.proofs.Common.{◌≡◌, ℕ, ◌+◌, Bool, true, false, cond, Option, Some, List, [], ◌∷◌, ◌++◌, length, refl, subst, arith}
use Rattle.std.proofs.Common.{OnOk, Result, Ok, Err, bytes_eq}
use Rattle.std.specs.Prelude.{slice_get}
use Rattle.std.specs.List.{find}
use Rattle.std.proofs.lemmas.Option.{same_Some}
use Rattle.std.proofs.lemmas.Slice.Eq.{bytes_eq-Decides}
use Rattle.std.proofs.lemmas.List.Elements.{All-push, All-pop}
use Rattle.fx_term.specs.declared.node.Node.{Node}
use Rattle.fx_places.specs.declared.form.Form.{Form}
use Rattle.fx_places.specs.declared.place.FormPlace.{FormPlace}
use Rattle.fx_places.specs.declared.group.Group.{Group}
use Rattle.fx_places.specs.Form.{word_of}
use Rattle.fx_places.specs.Makes.{makes}
use Rattle.fx_places.specs.declared.walk.Walk.{Walk}
use Rattle.fx_places.specs.Places.{IsMadeAt, AreMadeFrom}
use Rattle.fx_places.specs.Walk.{IsGroupIn, IsWalk}

-- a form that is found by a word has that word
pub found_word : (w : List ℕ) (fs : List Form) (f : Form) → find (λ (g : Form). bytes_eq (word_of g) w) fs ≡ Some f → word_of f ≡ w
found_word w [] f e = absurd cc
found_word w (g ∷ fs) f e = by_test (bytes_eq (word_of g) w) (bytes_eq-Decides (word_of g) w).0 (found_word w fs f) e
  where
    by_test : (t : Bool) → (t ≡ true → word_of g ≡ w) → (find (λ (h : Form). bytes_eq (word_of h) w) fs ≡ Some f → word_of f ≡ w)
        → ◌≡◌ {A = Option Form} (cond t (Some g) (find (λ (h : Form). bytes_eq (word_of h) w) fs)) (Some f) → word_of f ≡ w
    by_test true same rest e = subst (λ (h : Form). word_of h ≡ w) (same_Some _ _ e) (same refl)
    by_test false same rest e = rest e

-- a node more that the form makes
pub made_push : (nodes : List Node) (id : ℕ) (places : List FormPlace) (place : FormPlace) → AreMadeFrom nodes id places
    → IsMadeAt nodes (id + length places) place → AreMadeFrom nodes id (places ++ place ∷ [])
made_push nodes id [] place made next = (subst (λ (n : ℕ). IsMadeAt nodes n place) (omega arith) next, tt)
made_push nodes id (p ∷ places) place made next =
    (made.0, made_push nodes (id + 1) places place made.1 (subst (λ (n : ℕ). IsMadeAt nodes n place) (omega arith) next))

pub made_at : (nodes : List Node) (id : ℕ) (node : Node) (place : FormPlace) → slice_get nodes id ≡ Some node → makes place.form node ≡ true
    → IsMadeAt nodes id place
made_at nodes id node place is makes = rw is makes

-- a fact where a call was not refused, from another one
pub on_ok : {X E P Q : Type 0} (r : Result X E) → (P → Q) → OnOk r P → OnOk r Q
on_ok (Ok x) go h = go h
on_ok (Err e) go h = tt

module _ (text : List ℕ) (nodes : List Node) (old new : Walk) (group : Group) (same : new.places.items ≡ old.places.items) where
  -- a group fewer is open
  pub popped : old.open.items ≡ new.open.items ++ group ∷ [] → IsWalk text nodes old → IsWalk text nodes new
  popped is walk = record {
    groups = (All-pop (IsGroupIn text) old.open.items new.open.items (Some group) is walk.groups).0;
    forms = rw same walk.forms;
    made = rw same walk.made;
  }

  -- a group more is open, which stands in the text if it is a form
  pub pushed : new.open.items ≡ old.open.items ++ group ∷ [] → IsGroupIn text group → IsWalk text nodes old → IsWalk text nodes new
  pushed is stands walk = record {
    groups = rw is (All-push (IsGroupIn text) old.open.items group walk.groups stands);
    forms = rw same walk.forms;
    made = rw same walk.made;
  }

-- the group that is open last stands in the text if it is a form
pub last_in : (text : List ℕ) (nodes : List Node) (walk : Walk) (front : List Group) (group : Group) → walk.open.items ≡ front ++ group ∷ []
    → IsWalk text nodes walk → IsGroupIn text group
last_in text nodes walk front group is known = (All-pop (IsGroupIn text) walk.open.items front (Some group) is known.groups).1
