-- The classes of a world go on to tell who can step.
use Rattle.std.proofs.Common.{◌≡◌, ℕ, zero, suc, ◌<◌, true, false, Option, Some, None, List, length, map, refl, sym, ◌∙◌, ap, ◌⊎◌, inl, inr, arith}
use Rattle.std.proofs.Common.{get_or-set_same, get_or-set_other, length-set}
use Rattle.std.specs.Prelude.{slice_set, slice_index_or}
use Rattle.std.proofs.lemmas.Bool.{cases_eq}
use Rattle.std.proofs.lemmas.List.{length-map, length-replicate}
use Rattle.fx_term.specs.declared.outcome.Outcome as outcome
use Rattle.fx_term.specs.declared.event.Event.TheVariants as event
use Rattle.fx_term.specs.Need.{need}
use Rattle.fx_term.specs.Script.{ScriptView, total}
use Rattle.fx_model.specs.Row.{Counts, Label, Shows, Starts}
use Rattle.fx_model.specs.Origin.{Origin}
use Rattle.fx_model.specs.Step.{Progress, Step}
use Rattle.fx_model.specs.declared.source.Source.{Source}
use Rattle.fx_model.specs.WaitsFor.{IsWaiting}
use Rattle.fx_plain.specs.declared.class.Class.{Class}
use Rattle.fx_plain.specs.declared.class.Class.TheVariants.{Unstarted, Able, Waits, Over}
use Rattle.fx_term.specs.Maps.{with_at}
use Rattle.fx_plain.specs.WholeMachine.{StartedFiber, WholeMachine, opening, has_room, outside_of, outcome_of, can_step_in, moved}
use Rattle.fx_plain.specs.WholeMachine.{requested_from_outside}
use Rattle.fx_plain.specs.Classes.{AreOfClasses, opening_classes, class_requested, class_at_end, requested_classes, ended_classes}
use Rattle.fx_plain.specs.Classes.{awaited, outcome_has_come, AwaitWhatIsToCome, is_ready}
use Rattle.fx_plain.specs.PlainQueue.{have_room, have_element}
use Rattle.fx_plain.specs.ClassSets.{class_at, is_able}
use Rattle.fx_plain.specs.World.{WorldView, outcome_in, is_ready_in, world_after, after_start, after_request_from_outside, HeldFiber, StandsFor, opening_world}
use Rattle.fx_plain.specs.WorldClasses.{TellsWhoSteps}
use Rattle.fx_term.proofs.MapLaws.{at_that, at_other}
use Rattle.fx_plain.proofs.ReadyFibers.{IsGoing, same_ready, unready_cannot_step, ready_is_going, ready_can_step}
use Rattle.fx_plain.proofs.WorldQueues.{room_is, element_is}
use Rattle.fx_plain.proofs.ClassesKept.{same_classes, opening_are_of_classes, request_classes_kept, step_classes_kept, put_into_class, of_class}
use Rattle.fx_plain.proofs.AwaitedOutcomes.{same_awaited, moved_awaited, requested_awaited, ended_awaited}
use Rattle.fx_plain.proofs.ClassSets.{unstarted, class_at_set, class_at_request, class_at_end_of}

module _ (s : ScriptView) (w : WorldView) (held : List (Option HeldFiber)) (m : WholeMachine)
    (stands : StandsFor s w held m) (tells : TellsWhoSteps s w m) (f : ℕ) where
  to_come : AwaitWhatIsToCome (outcome_of m) (class_at w.classes)
  to_come = same_awaited (outcome_in w) (outcome_of m) (class_at w.classes) (class_at w.classes) (λ g. sym (stands.outcomes g)) (λ g. refl) tells.to_come

  ready : is_ready_in w f ≡ is_ready (has_room s m) (outside_of s m).has_element (class_at w.classes f)
  ready = same_ready (have_room w.queues) (has_room s m) (have_element w.queues) (outside_of s m).has_element
      (room_is s m w.queues stands.capacities stands.queues) (element_is s m w.queues stands.capacities stands.queues) (class_at w.classes f)

  -- who is not ready cannot step
  pub unready_cannot : is_ready_in w f ≡ false → can_step_in s m f ≡ false
  unready_cannot e = unready_cannot_step s m (class_at w.classes) tells.are f to_come (sym ready ∙ e)

  -- who is ready has started and has not ended
  pub ready_goes : is_ready_in w f ≡ true → IsGoing m f
  ready_goes e = ready_is_going s m (class_at w.classes) tells.are f (sym ready ∙ e)

  -- who waits and is ready can step
  pub ready_can : is_able (class_at w.classes f) ≡ false → is_ready_in w f ≡ true → can_step_in s m f ≡ true
  ready_can unable e = ready_can_step s m (class_at w.classes) tells.are f unable (sym ready ∙ e)

-- classes that are these, and outcomes that are those, tell as these do
told_by : (s : ScriptView) (w : WorldView) (m : WholeMachine) (class : ℕ → Class) (outcomes : ℕ → Option outcome.Outcome) → length w.classes ≡ total s
    → ((f : ℕ) → class_at w.classes f ≡ class f) → ((f : ℕ) → outcome_in w f ≡ outcomes f)
    → AreOfClasses m class → AwaitWhatIsToCome outcomes class → TellsWhoSteps s w m
told_by s w m class outcomes long same same_outcomes are to_come = record {
  long = long;
  are = same_classes m class (class_at w.classes) same are;
  to_come = same_awaited outcomes (outcome_in w) class (class_at w.classes) same_outcomes same to_come;
}

opening_class : (s : ScriptView) (f : ℕ) → class_at (opening_world s).classes f ≡ opening_classes f
opening_class s zero = refl
opening_class s (suc f) = unstarted (need s.term) f ∙ sym (at_other 0 Able (λ g. Unstarted) (suc f) (λ e. omega arith))

opening_class_is : (f : ℕ) → (opening_classes f ≡ Able) ⊎ (opening_classes f ≡ Unstarted)
opening_class_is zero = inl refl
opening_class_is (suc f) = inr (at_other 0 Able (λ g. Unstarted) (suc f) (λ e. omega arith))

-- before any step
pub opening_tells : (s : ScriptView) → TellsWhoSteps s (opening_world s) (opening s)
opening_tells s = told_by s (opening_world s) (opening s) opening_classes (outcome_in (opening_world s))
    (let e = length-replicate (need s.term) Unstarted in omega arith) (opening_class s) (λ f. refl) (opening_are_of_classes s)
    (λ f. elim (opening_class_is f) [
      | inl e ↦ ap (outcome_has_come (outcome_in (opening_world s))) e
      | inr e ↦ ap (outcome_has_come (outcome_in (opening_world s))) e
    ])

module _ (s : ScriptView) (w : WorldView) (m : WholeMachine) (tells : TellsWhoSteps s w m) where
  abbrev class : ℕ → Class
  class = class_at w.classes

  abbrev outcomes : ℕ → Option outcome.Outcome
  outcomes = outcome_in w

  -- after a request from outside
  pub request_tells : (f : ℕ) → TellsWhoSteps s (after_request_from_outside f w) (requested_from_outside f m)
  request_tells f = told_by s (after_request_from_outside f w) (requested_from_outside f m) (requested_classes f class) outcomes
      (length-set w.classes f (class_requested (class_at w.classes f)) ∙ tells.long) (class_at_request w.classes f) (λ g. refl)
      (request_classes_kept m f class tells.are) (requested_awaited outcomes class tells.to_come f)

  -- where it is noted of a fiber that it waits, for what has not come
  pub wait_tells : (f : ℕ) (x : StartedFiber) (source : Source) → f < total s → m.fibers f ≡ Some x → IsWaiting (m.requested f) x.counts x.progress source
      → outcome_has_come outcomes (Waits source) ≡ false → TellsWhoSteps s (record w { classes = slice_set w.classes f (Waits source) }) m
  wait_tells f x source below at waits to_come =
      told_by s (record w { classes = slice_set w.classes f (Waits source) }) m (with_at f (Waits source) class) outcomes
      (length-set w.classes f (Waits source) ∙ tells.long) (class_at_set w.classes f (Waits source) (let n = tells.long in omega arith)) (λ g. refl)
      (put_into_class m f class (Waits source) (of_class {r = m.requested f} {z = Some x} {k = Waits source} refl at refl waits) tells.are)
      (moved_awaited outcomes class tells.to_come f (Waits source) to_come)

  -- where one that is going comes into the class of those that may step
  pub wake_tells : (f : ℕ) → f < total s → IsGoing m f → TellsWhoSteps s (after_start f w) m
  wake_tells f below going =
      told_by s (after_start f w) m (with_at f Able class) outcomes (length-set w.classes f Able ∙ tells.long)
      (class_at_set w.classes f Able (let n = tells.long in omega arith)) (λ g. refl)
      (put_into_class m f class Able (of_class {r = m.requested f} {z = Some going.fiber} {k = Able} refl going.at refl going.goes) tells.are)
      (moved_awaited outcomes class tells.to_come f Able refl)

  module _ (f : ℕ) (x : StartedFiber) (d : Counts) (q : Progress) (stamp : ℕ)
      (able : class_at w.classes f ≡ Able) (below : f < total s) (outcomes_long : length w.outcomes ≡ total s) where
    outcomes_at_end : (o : outcome.Outcome) (g : ℕ) → slice_index_or (slice_set w.outcomes f (Some o)) g None ≡ with_at f (Some o) outcomes g
    outcomes_at_end o g = elim (cases_eq g f) [
      | inl same ↦
          ap (λ (k : ℕ). slice_index_or (slice_set w.outcomes f (Some o)) k None) same ∙ get_or-set_same w.outcomes f (Some o) None (omega arith)
          ∙ sym (at_that f (Some o) outcomes g same)
      | inr apart ↦ get_or-set_other w.outcomes f g (Some o) None apart ∙ sym (at_other f (Some o) outcomes g apart)
    ]

    -- after a step of an able fiber; the number that it starts is one of the script's
    pub step_tells : (l : Label) → ((g : ℕ) (b : Origin) → l ≡ Starts g b → g < total s) → Step x.counts x.progress l d q
        → TellsWhoSteps s (world_after f x.labels stamp l w) (moved m f x l d q)
    step_tells (Starts g b) number st =
        told_by s (world_after f x.labels stamp (Starts g b) w) (moved m f x (Starts g b) d q) (with_at g Able class) outcomes
        (length-set w.classes g Able ∙ tells.long) (class_at_set w.classes g Able (let n = tells.long in let lt = number g b refl in omega arith)) (λ h. refl)
        (step_classes_kept m f x d q class able tells.are (Starts g b) st) (moved_awaited outcomes class tells.to_come g Able refl)
    step_tells (Shows (event.Request g)) number st =
        told_by s (world_after f x.labels stamp (Shows (event.Request g)) w) (moved m f x (Shows (event.Request g)) d q) (requested_classes g class) outcomes
        (length-set w.classes g (class_requested (class_at w.classes g)) ∙ tells.long) (class_at_request w.classes g) (λ h. refl)
        (step_classes_kept m f x d q class able tells.are (Shows (event.Request g)) st) (requested_awaited outcomes class tells.to_come g)
    step_tells (Shows (event.Ended o)) number st =
        told_by s (world_after f x.labels stamp (Shows (event.Ended o)) w) (moved m f x (Shows (event.Ended o)) d q)
        (ended_classes f class) (with_at f (Some o) outcomes)
        (length-set (map (class_at_end f) w.classes) f Over ∙ length-map w.classes (class_at_end f) ∙ tells.long)
        (class_at_end_of w.classes f (let n = tells.long in omega arith)) (outcomes_at_end o)
        (step_classes_kept m f x d q class able tells.are (Shows (event.Ended o)) st) (ended_awaited outcomes class tells.to_come f o)
    step_tells l number st =
        told_by s (world_after f x.labels stamp l w) (moved m f x l d q) class outcomes tells.long (λ h. refl) (λ h. refl)
        (step_classes_kept m f x d q class able tells.are l st) tells.to_come

    -- nor is it noted after it that the fiber waits
    pub step_leaves_no_note : (l : Label) → awaited (class_at (world_after f x.labels stamp l w).classes f) ≡ None
    step_leaves_no_note (Starts g b) = ap awaited (elim (cases_eq f g) [
      | inl same ↦
          ap (class_at (slice_set w.classes g Able)) same ∙ get_or-set_same w.classes g Able Unstarted (let n = tells.long in let lt = below in omega arith)
      | inr apart ↦ get_or-set_other w.classes g f Able Unstarted apart ∙ able
    ])
    step_leaves_no_note (Shows (event.Request g)) = ap awaited (class_at_request w.classes g f ∙ elim (cases_eq f g) [
      | inl same ↦
          at_that g (class_requested (class g)) class f same ∙ ap (λ (h : ℕ). class_requested (class h)) (sym same) ∙ ap class_requested able
      | inr apart ↦ at_other g (class_requested (class g)) class f apart ∙ able
    ])
    step_leaves_no_note (Shows (event.Ended o)) =
        ap awaited (class_at_end_of w.classes f (let n = tells.long in let lt = below in omega arith) f
        ∙ at_that f Over (λ h. class_at_end f (class h)) f refl)
    step_leaves_no_note l = ap awaited able
