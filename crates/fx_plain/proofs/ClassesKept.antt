-- Each fiber is of its class: the classes are moved along with the machine.
use Rattle.std.proofs.Common.{◌≡◌, ℕ, suc, zero, Bool, true, false, Option, Some, None, refl, sym, ◌∙◌, ap, subst, inl, inr, arith}
use Rattle.std.specs.Prelude.{if◌then◌else◌}
use Rattle.std.proofs.lemmas.Bool.{cases_eq}
use Rattle.fx_term.specs.declared.event.Event.TheVariants as event
use Rattle.fx_term.specs.Script.{ScriptView}
use Rattle.fx_model.specs.Row.{Counts, Label, Shows, Starts}
use Rattle.fx_model.specs.Origin.{main_origin}
use Rattle.fx_model.specs.Step.{Progress, has_ended, Step}
use Rattle.fx_model.proofs.Ends.{ended_after}
use Rattle.fx_plain.specs.declared.class.Class.{Class}
use Rattle.fx_plain.specs.declared.class.Class.TheVariants.{Unstarted, Able, Waits, Over}
use Rattle.fx_term.specs.Maps.{with_at}
use Rattle.fx_plain.specs.WholeMachine.{StartedFiber, WholeMachine, begun, opening, fibers_after, requested_after, stepped, moved}
use Rattle.fx_plain.specs.WholeMachine.{requested_from_outside}
use Rattle.fx_plain.specs.Classes.{IsOfClass, AreOfClasses, opening_classes, class_requested, waits_for_end, class_at_end, requested_classes}
use Rattle.fx_plain.specs.Classes.{classes_after}
use Rattle.fx_term.proofs.MapLaws.{at_that, at_other}
use Rattle.fx_plain.proofs.ReadyFibers.{waiting_goes}

pub of_class : {r r' : Bool} {z z' : Option StartedFiber} {k k' : Class} → r' ≡ r → z' ≡ z → k' ≡ k → IsOfClass r z k → IsOfClass r' z' k'
of_class {r = r} {r' = r'} {z = z} {z' = z'} {k = k} {k' = k'} p q u h =
    subst (λ (c : Class). IsOfClass r' z' c) (sym u)
    (subst (λ (y : Option StartedFiber). IsOfClass r' y k) (sym q) (subst (λ (b : Bool). IsOfClass b z k) (sym p) h))

-- classes that are the same for each fiber serve as well
pub same_classes : (m : WholeMachine) (class class' : ℕ → Class) → ((f : ℕ) → class' f ≡ class f) → AreOfClasses m class → AreOfClasses m class'
same_classes m class class' same are f = of_class refl refl (same f) (are f)

-- before any step the main fiber is able, and no other one has started
pub opening_are_of_classes : (s : ScriptView) → AreOfClasses (opening s) opening_classes
opening_are_of_classes s zero = refl
opening_are_of_classes s (suc f) =
    of_class {r = false} {z = None} {k = Unstarted} refl (at_other 0 (Some (begun None (main_origin s.term))) (λ g. None) (suc f) (λ e. omega arith))
    (at_other 0 Able (λ g. Unstarted) (suc f) (λ e. omega arith)) tt

-- a request moves a fiber that waits, and leaves another one where it is
requested_of_class : (r r' : Bool) (z : Option StartedFiber) (k : Class) → IsOfClass r z k → IsOfClass r' z (class_requested k)
requested_of_class r r' None Unstarted h = tt
requested_of_class r r' None Able h = absurd h
requested_of_class r r' None (Waits w) h = absurd h
requested_of_class r r' None Over h = absurd h
requested_of_class r r' (Some x) Able h = h
requested_of_class r r' (Some x) (Waits w) h = waiting_goes r x.counts x.progress w h
requested_of_class r r' (Some x) Over h = h
requested_of_class r r' (Some x) Unstarted h = absurd h

-- so does an end
woken_of_class : (g : ℕ) (r : Bool) (z : Option StartedFiber) (k : Class) → IsOfClass r z k → waits_for_end g k ≡ true → IsOfClass r z Able
woken_of_class g r None (Waits w) h e = absurd h
woken_of_class g r (Some x) (Waits w) h e = waiting_goes r x.counts x.progress w h
woken_of_class g r z Unstarted h e = absurd cc
woken_of_class g r z Able h e = absurd cc
woken_of_class g r z Over h e = absurd cc

at_end_of_class : (g : ℕ) (r : Bool) (z : Option StartedFiber) (k : Class) → IsOfClass r z k → IsOfClass r z (class_at_end g k)
at_end_of_class g r z k h = by_test (waits_for_end g k) refl
  where
    by_test : (b : Bool) → waits_for_end g k ≡ b → IsOfClass r z (if b then Able else k)
    by_test true e = woken_of_class g r z k h e
    by_test false e = h

requested_classes_kept : (requested : ℕ → Bool) (fibers : ℕ → Option StartedFiber) (class : ℕ → Class) (g : ℕ)
    → ((f : ℕ) → IsOfClass (requested f) (fibers f) (class f))
    → (h : ℕ) → IsOfClass (with_at g true requested h) (fibers h) (requested_classes g class h)
requested_classes_kept requested fibers class g are h = elim (cases_eq h g) [
  | inl same ↦ of_class refl (ap fibers same) (at_that g (class_requested (class g)) class h same)
      (requested_of_class (requested g) (with_at g true requested h) (fibers g) (class g) (are g))
  | inr apart ↦ of_class (at_other g true requested h apart) refl (at_other g (class_requested (class g)) class h apart) (are h)
]

-- after a request from outside
pub request_classes_kept : (m : WholeMachine) (f : ℕ) (class : ℕ → Class) → AreOfClasses m class
    → AreOfClasses (requested_from_outside f m) (requested_classes f class)
request_classes_kept m f class are = requested_classes_kept m.requested m.fibers class f are

module _ (m : WholeMachine) (f : ℕ) (x : StartedFiber) (d : Counts) (q : Progress)
    (class : ℕ → Class) (able : class f ≡ Able) (are : AreOfClasses m class) where
  -- a step that changes no class: its fiber goes on
  step_goes_on : (l : Label) → ((h : ℕ) → IsOfClass (requested_after l m.requested h) (fibers_after f l m.fibers h) (classes_after f l class h))
      → has_ended q ≡ false → classes_after f l class f ≡ Able → AreOfClasses (moved m f x l d q) (classes_after f l class)
  step_goes_on l others goes own h = elim (cases_eq h f) [
    | inl same ↦ of_class refl (at_that f (Some (stepped x l d q)) (fibers_after f l m.fibers) h same) (ap (classes_after f l class) same ∙ own) goes
    | inr apart ↦ of_class refl (at_other f (Some (stepped x l d q)) (fibers_after f l m.fibers) h apart) refl (others h)
  ]

  still_able : (g : ℕ) → requested_classes g class f ≡ Able
  still_able g = elim (cases_eq f g) [
    | inl same ↦ at_that g (class_requested (class g)) class f same ∙ ap class_requested (sym (ap class same) ∙ able)
    | inr apart ↦ at_other g (class_requested (class g)) class f apart ∙ able
  ]

  starter_able : (g : ℕ) → with_at g Able class f ≡ Able
  starter_able g = elim (cases_eq f g) [ inl same ↦ at_that g Able class f same | inr apart ↦ at_other g Able class f apart ∙ able ]

  -- after a step of fiber f, which was able
  pub step_classes_kept : (l : Label) → Step x.counts x.progress l d q → AreOfClasses (moved m f x l d q) (classes_after f l class)
  step_classes_kept (Starts g b) st = step_goes_on (Starts g b) (λ h. elim (cases_eq h g) [
    | inl same ↦ of_class refl (at_that g (Some (begun (Some f) b)) m.fibers h same) (at_that g Able class h same) refl
    | inr apart ↦ of_class refl (at_other g (Some (begun (Some f) b)) m.fibers h apart) (at_other g Able class h apart) (are h)
  ]) (ended_after st) (starter_able g)
  step_classes_kept (Shows (event.Request g)) st =
      step_goes_on (Shows (event.Request g)) (requested_classes_kept m.requested m.fibers class g are) (ended_after st) (still_able g)
  step_classes_kept (Shows (event.Ended o)) st = λ h. elim (cases_eq h f) [
    | inl same ↦ of_class refl (at_that f (Some (stepped x (Shows (event.Ended o)) d q)) m.fibers h same)
        (at_that f Over (λ g. class_at_end f (class g)) h same) (ended_after st)
    | inr apart ↦ of_class refl (at_other f (Some (stepped x (Shows (event.Ended o)) d q)) m.fibers h apart)
        (at_other f Over (λ g. class_at_end f (class g)) h apart)
        (at_end_of_class f (m.requested h) (m.fibers h) (class h) (are h))
  ]
  step_classes_kept l st = step_goes_on l are (ended_after st) able

-- a fiber that is known to be of a class is put into that class
pub put_into_class : (m : WholeMachine) (f : ℕ) (class : ℕ → Class) (k : Class) → IsOfClass (m.requested f) (m.fibers f) k → AreOfClasses m class
    → AreOfClasses m (with_at f k class)
put_into_class m f class k is are h = elim (cases_eq h f) [
  | inl same ↦ of_class (ap m.requested same) (ap m.fibers same) (at_that f k class h same) is
  | inr apart ↦ of_class refl refl (at_other f k class h apart) (are h)
]
