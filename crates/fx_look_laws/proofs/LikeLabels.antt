-- What is read off labels that are the same but for how what they start begins, and off those of them that others can see.
use Rattle.std.proofs.Common.{◌≡◌, ℕ, ◌==◌, Bool, true, false, if◌then◌else◌, Option, Some, List, [], ◌∷◌, All, refl, sym, ◌∙◌, ap, subst}
use Rattle.std.proofs.lemmas.Option.{none-some, same_Some}
use Rattle.std.proofs.lemmas.List.Elements.{All-nil, All-cons, All-head, All-tail}
use Rattle.fx_term.specs.declared.event.Event.{Event}
use Rattle.fx_term.specs.declared.event.Event.TheVariants as event
use Rattle.fx_term.specs.Term.{Term}
use Rattle.fx_model.specs.Row.{Label, Silent, Shows, Learns, Starts}
use Rattle.fx_model.specs.Origin.{Origin}
use Rattle.fx_model.specs.Run.{events}
use Rattle.fx_laws.specs.Others.{visible}
use Rattle.fx_script_laws.proofs.StartsFound.{find_start}
use Rattle.fx_look_laws.specs.OtherFibers.{within, AreLikeOrigins}
use Rattle.fx_look_laws.specs.OtherFibers as others
use Rattle.fx_look_laws.proofs.OtherRows.{AreLikeLabels, itself, starts}
use Rattle.fx_look_laws.proofs.OtherSteps.{AllLike, none, more}

-- the starts are among what others can see
pub find_visible : (f : ℕ) (ls : List Label) → find_start f (visible ls) ≡ find_start f ls
find_visible f [] = refl
find_visible f (l ∷ ls) = by_label l (find_visible f ls)
  where
    by_label : (l : Label) → find_start f (visible ls) ≡ find_start f ls → find_start f (visible (l ∷ ls)) ≡ find_start f (l ∷ ls)
    by_label (Starts g b) e = ap (λ (o : Option Origin). if g == f then Some b else o) e
    by_label Silent e = e
    by_label (Learns g o v) e = e
    by_label (Shows event.Seen) e = e
    by_label (Shows event.SelfRequest) e = e
    by_label (Shows event.Cancelled) e = e
    by_label (Shows (event.Acquired k)) e = e
    by_label (Shows (event.Begin k)) e = e
    by_label (Shows (event.End k)) e = e
    by_label (Shows _) e = e

module _ {Pair : (ℕ → Bool) → Term → Term → Type 0} where
  pub each_itself : (ls : List Label) → AllLike Pair ls ls
  each_itself [] = none
  each_itself (l ∷ ls) = more itself (each_itself ls)

  pub visible_like : {ls ls' : List Label} → AllLike Pair ls ls' → AllLike Pair (visible ls) (visible ls')
  visible_like none = none
  visible_like (more (starts s) q) = more (starts s) (visible_like q)
  visible_like (more {l = l} {ls = ls} {ls' = ls'} itself q) = by_label l (visible_like q)
    where
      by_label : (l : Label) → AllLike Pair (visible ls) (visible ls') → AllLike Pair (visible (l ∷ ls)) (visible (l ∷ ls'))
      by_label Silent h = h
      by_label (Starts g b) h = more itself h
      by_label (Learns g o v) h = more itself h
      by_label (Shows event.Seen) h = h
      by_label (Shows event.SelfRequest) h = h
      by_label (Shows event.Cancelled) h = h
      by_label (Shows (event.Acquired k)) h = h
      by_label (Shows (event.Begin k)) h = h
      by_label (Shows (event.End k)) h = h
      by_label (Shows _) h = more itself h

  pub events_like : {ls ls' : List Label} → AllLike Pair ls ls' → events ls ≡ events ls'
  events_like none = refl
  events_like (more (itself {l = Silent}) q) = events_like q
  events_like (more (itself {l = Shows e}) q) = ap (λ (es : List Event). e ∷ es) (events_like q)
  events_like (more (itself {l = Learns g o e}) q) = ap (λ (es : List Event). e ∷ es) (events_like q)
  events_like (more (itself {l = Starts g b}) q) = ap (λ (es : List Event). event.Start g ∷ es) (events_like q)
  events_like (more (starts {f = g} s) q) = ap (λ (es : List Event). event.Start g ∷ es) (events_like q)

  -- what holds of the labels of the one run holds of those of the other
  module _ (P : Label → Type 0) (like : (l l' : Label) → AreLikeLabels Pair l l' → P l → P l') where
    pub all_like : {ls ls' : List Label} → AllLike Pair ls ls' → All P ls → All P ls'
    all_like none h = All-nil P
    all_like (more {l = l} {l' = l'} {ls = ls} {ls' = ls'} p q) h =
        All-cons P l' ls' (like l l' p (All-head P l ls h)) (all_like q (All-tail P l ls h))

module _ (Pair : (ℕ → Bool) → Term → Term → Type 0) where
  -- the start of a fiber in the other run
  pub record IsFoundLike (b : Origin) (ls' : List Label) (f : ℕ) : Type 0 where
    pub origin : Origin
    pub found : find_start f ls' ≡ Some origin
    pub like : AreLikeOrigins Pair b origin

module _ {Pair : (ℕ → Bool) → Term → Term → Type 0} where
  at_start : (f g : ℕ) (b b0 b0' : Origin) (ls ls' : List Label) (t : Bool) → (g == f) ≡ t → AreLikeOrigins Pair b0 b0'
      → (find_start f ls ≡ Some b → IsFoundLike Pair b ls' f) → find_start f (Starts g b0 ∷ ls) ≡ Some b → IsFoundLike Pair b (Starts g b0' ∷ ls') f
  at_start f g b b0 b0' ls ls' true p like rest e =
      let first : Some b0 ≡ Some b = rw p at e in
      let same : b0 ≡ b = same_Some b0 b first in
      record { origin = b0'; found = rw p refl; like = subst (λ (x : Origin). AreLikeOrigins Pair x b0') same like }
  at_start f g b b0 b0' ls ls' false p like rest e =
      let k = rest (rw p at e) in record { origin = k.origin; found = rw p k.found; like = k.like }

  found_like : (f : ℕ) (b : Origin) {ls ls' : List Label} → AllLike Pair ls ls' → find_start f ls ≡ Some b → IsFoundLike Pair b ls' f
  found_like f b none e = absurd (none-some b e)
  found_like f b (more (itself {l = Silent}) q) e = let k = found_like f b q e in record { origin = k.origin; found = k.found; like = k.like }
  found_like f b (more (itself {l = Shows v}) q) e = let k = found_like f b q e in record { origin = k.origin; found = k.found; like = k.like }
  found_like f b (more (itself {l = Learns g o v}) q) e = let k = found_like f b q e in record { origin = k.origin; found = k.found; like = k.like }
  found_like f b (more {ls = ls} {ls' = ls'} (itself {l = Starts g b0}) q) e =
      at_start f g b b0 b0 ls ls' (g == f) refl (record { term = within others.same; next_is = refl; end_is = refl }) (found_like f b q) e
  found_like f b (more {ls = ls} {ls' = ls'} (starts {f = g} {b = b0} {b' = b0'} s) q) e =
      at_start f g b b0 b0' ls ls' (g == f) refl s (found_like f b q) e

  -- found among what others can see
  pub found_too : (f : ℕ) (b : Origin) (ls ls' : List Label) → AllLike Pair (visible ls) (visible ls') → find_start f ls ≡ Some b → IsFoundLike Pair b ls' f
  found_too f b ls ls' p e =
      let k = found_like f b p (find_visible f ls ∙ e) in
      record { origin = k.origin; found = sym (find_visible f ls') ∙ k.found; like = k.like }
