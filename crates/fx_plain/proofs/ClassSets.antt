-- Lists of classes, and the sets that stand for them, as one fiber comes into another class.
use Rattle.std.proofs.Common.{◌≡◌, ◌≢◌, ℕ, ◌<◌, Bool, true, false, List, length, map, replicate, refl, sym, subst, ◌∙◌, ap, inl, inr, arith}
use Rattle.std.proofs.Common.{get_or-set_same, get_or-set_other, length-set}
use Rattle.std.specs.Prelude.{slice_set, if◌then◌else◌}
use Rattle.std.proofs.Math.ListN.{get_or-map}
use Rattle.std.proofs.lemmas.Bool.{cases_eq, cases_lt}
use Rattle.std.proofs.lemmas.List.{get_or_past, get_or-replicate, length-map, length-replicate}
use Rattle.fx_plain.specs.declared.class.Class.{Class}
use Rattle.fx_plain.specs.declared.class.Class.TheVariants.{Unstarted, Over}
use Rattle.fx_term.specs.Maps.{with_at}
use Rattle.fx_plain.specs.Classes.{class_requested, class_at_end, requested_classes, ended_classes}
use Rattle.fx_plain.specs.ClassSets.{ClassesView, SetsView, Kind, class_at, with_request, with_end, passes, members, IsKept, AreWith, AreSets}
use Rattle.fx_term.proofs.MapLaws.{at_that, at_other}

-- before any start each is unstarted
pub unstarted : (n f : ℕ) → class_at (replicate n Unstarted) f ≡ Unstarted
unstarted n f = elim (cases_lt f n) [
  | inl lt ↦ get_or-replicate n f Unstarted Unstarted lt
  | inr le ↦ get_or_past (replicate n Unstarted) f Unstarted (let e = length-replicate n Unstarted in omega arith)
]

module _ (classes : List Class) (f : ℕ) where
  -- who passes a test that no unstarted fiber passes stands in the list
  pub stands_within : (test : Class → Bool) → test Unstarted ≡ false → test (class_at classes f) ≡ true → f < length classes
  stands_within test not some = elim (cases_lt f (length classes)) [
    | inl lt ↦ lt
    | inr past ↦ absurd (let e : true ≡ false = sym some ∙ ap test (get_or_past classes f Unstarted past) ∙ not in cc)
  ]

  -- one of them is changed
  pub class_at_set : (k : Class) → f < length classes → (g : ℕ) → class_at (slice_set classes f k) g ≡ with_at f k (class_at classes) g
  class_at_set k lt g = elim (cases_eq g f) [
    | inl same ↦ ap (class_at (slice_set classes f k)) same ∙ get_or-set_same classes f k Unstarted lt ∙ sym (at_that f k (class_at classes) g same)
    | inr apart ↦ get_or-set_other classes f g k Unstarted apart ∙ sym (at_other f k (class_at classes) g apart)
  ]

  -- a request changes what is past the list no more than its class: it has not started
  pub class_at_request : (g : ℕ) → class_at (with_request f classes) g ≡ requested_classes f (class_at classes) g
  class_at_request g = elim (cases_lt f (length classes)) [
    | inl lt ↦ class_at_set (class_requested (class_at classes f)) lt g
    | inr past ↦ elim (cases_eq g f) [
      | inl same ↦
          get_or_past (with_request f classes) g Unstarted (let e = length-set classes f (class_requested (class_at classes f)) in omega arith)
          ∙ sym (at_that f (class_requested (class_at classes f)) (class_at classes) g same ∙ ap class_requested (get_or_past classes f Unstarted past))
      | inr apart ↦
          get_or-set_other classes f g (class_requested (class_at classes f)) Unstarted apart
          ∙ sym (at_other f (class_requested (class_at classes f)) (class_at classes) g apart)
    ]
  ]

  module _ (lt : f < length classes) where
    pub class_at_end_of : (g : ℕ) → class_at (with_end f classes) g ≡ ended_classes f (class_at classes) g
    class_at_end_of g = elim (cases_eq g f) [
      | inl same ↦
          ap (class_at (with_end f classes)) same
          ∙ get_or-set_same (map (class_at_end f) classes) f Over Unstarted (let e = length-map classes (class_at_end f) in omega arith)
          ∙ sym (at_that f Over (λ h. class_at_end f (class_at classes h)) g same)
      | inr apart ↦
          get_or-set_other (map (class_at_end f) classes) f g Over Unstarted apart ∙ get_or-map (class_at_end f) classes g Unstarted
          ∙ sym (at_other f Over (λ h. class_at_end f (class_at classes h)) g apart)
    ]

-- of who leaves one class for another
left_and_come : (left come : Bool) → (if come then true else (if left then false else left)) ≡ come
left_and_come left true = refl
left_and_come true false = refl
left_and_come false false = refl

either_way : (b x : Bool) → (if b then x else x) ≡ x
either_way true x = refl
either_way false x = refl

-- the sets as fiber f leaves class j for class k
module _ (classes : List Class) (f : ℕ) (lt : f < length classes) (j k : Class) (read : j ≡ class_at classes f) (old left come : SetsView)
    (leaves : AreWith false f j old left) (comes : AreWith true f k left come) (are : AreSets classes old) (kind : Kind)
    (kept : IsKept (length come.for_room) kind) (g : ℕ) where
  kept_left : IsKept (length left.for_room) kind
  kept_left = subst (λ (n : ℕ). IsKept n kind) comes.count kept

  kept_old : IsKept (length old.for_room) kind
  kept_old = subst (λ (n : ℕ). IsKept n kind) leaves.count kept_left

  left_that : g ≡ f → members left kind g ≡ (if passes kind j then false else passes kind j)
  left_that same =
      leaves.are kind kept_old g ∙ ap (λ (b : Bool). if passes kind j then b else members old kind g) (at_that f false (members old kind) g same)
      ∙ ap (λ (b : Bool). if passes kind j then false else b)
      (are kind kept_old g ∙ ap (λ (h : ℕ). passes kind (class_at classes h)) same ∙ ap (passes kind) (sym read))

  came_that : g ≡ f → members come kind g ≡ passes kind k
  came_that same =
      comes.are kind kept_left g ∙ ap (λ (b : Bool). if passes kind k then b else members left kind g) (at_that f true (members left kind) g same)
      ∙ ap (λ (b : Bool). if passes kind k then true else b) (left_that same) ∙ left_and_come (passes kind j) (passes kind k)

  came_other : g ≢ f → members come kind g ≡ passes kind (class_at classes g)
  came_other apart =
      comes.are kind kept_left g ∙ ap (λ (b : Bool). if passes kind k then b else members left kind g) (at_other f true (members left kind) g apart)
      ∙ either_way (passes kind k) (members left kind g) ∙ leaves.are kind kept_old g
      ∙ ap (λ (b : Bool). if passes kind j then b else members old kind g) (at_other f false (members old kind) g apart)
      ∙ either_way (passes kind j) (members old kind g) ∙ are kind kept_old g

  pub come_sets : members come kind g ≡ passes kind (class_at (slice_set classes f k) g)
  come_sets = elim (cases_eq g f) [
    | inl same ↦ came_that same ∙ ap (passes kind) (sym (class_at_set classes f k lt g ∙ at_that f k (class_at classes) g same))
    | inr apart ↦ came_other apart ∙ ap (passes kind) (sym (class_at_set classes f k lt g ∙ at_other f k (class_at classes) g apart))
  ]

abbrev pub as_view : List Class → ℕ → ClassesView
as_view classes queues = record { of = classes; queues = queues }

pub same_view : {classes classes' : List Class} {queues queues' : ℕ} → classes ≡ classes' → queues ≡ queues'
    → as_view classes queues ≡ as_view classes' queues'
same_view e f = rw (e, f) refl
