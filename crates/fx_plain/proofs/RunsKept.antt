-- What the labels of a whole machine's fibers say of it is so, and its requests are those that its fibers and the outside made.
use Rattle.std.proofs.Common.{◌≡◌, ℕ, Bool, true, false, Option, Some, None, List, [], ◌∷◌, ◌++◌, All, refl, sym, ◌∙◌, ap, subst, arith, ◌⊎◌, inl, inr, ◌<◌}
use Rattle.std.specs.Prelude.{◌==◌, ◌||◌}
use Rattle.std.specs.List.{list_any}
use Rattle.std.proofs.lemmas.Bool.{cases_eq, eqb-true, or_cases, or_left, or_right}
use Rattle.std.proofs.lemmas.Option.{none-some, same_Some}
use Rattle.std.proofs.lemmas.List.Elements.{All-nil, All-push, All-weaker}
use Rattle.std.proofs.lemmas.List.Folds.{list_any-append}
use Rattle.fx_term.specs.declared.outcome.Outcome.{Outcome}
use Rattle.fx_term.specs.declared.event.Event.TheVariants as event
use Rattle.fx_model.specs.Row.{Counts, Label, Silent, Shows, Learns, Starts}
use Rattle.fx_model.specs.Step.{Progress, Runs, Unwinds, CleansUp, HasEnded, Step}
use Rattle.fx_model.specs.Run.{events}
use Rattle.fx_model.specs.Outside.{outcome_at}
use Rattle.fx_model.proofs.Runs.{events_append}
use Rattle.fx_term.specs.Script.{ScriptView, total}
use Rattle.fx_model.specs.Report.{is_request_for}
use Rattle.fx_plain.specs.WholeMachine.{StartedFiber, WholeMachine, begun, opening, outcome_of_fiber, outcome_of, IsAnswered, requested_after}
use Rattle.fx_plain.specs.WholeMachine.{stepped, moved, requested_from_outside}
use Rattle.fx_term.proofs.MapLaws.{at_that, at_other}
use Rattle.fx_plain.proofs.Maps.{same_number}
use Rattle.fx_model.proofs.StepLabels.{IsProper, step_tells}
use Rattle.fx_plain.proofs.WholeMachineSteps.{Comes, itself, child, other, comes, still_itself, still_other, child_is_there, Grows, step_grows, request_grows}
use Rattle.fx_plain.proofs.RangesKept.{HasRanges, opened_at, fresh, child_is_another}

-- what a label says is so: whom it starts began so, whom it learnt of has ended so, who saw a request is requested
abbrev pub IsSo : WholeMachine → ℕ → Label → Type 0
IsSo m f (Starts g b) = (y : StartedFiber) × (m.fibers g ≡ Some y) × (y.origin ≡ b)
IsSo m f (Learns g o e) = (y : StartedFiber) × (m.fibers g ≡ Some y) × (y.progress ≡ HasEnded o)
IsSo m f (Shows event.Seen) = m.requested f ≡ true
IsSo m f _ = Unit {0}

-- it stays so
so_still : (m m' : WholeMachine) (f : ℕ) → Grows m m' → (l : Label) → IsSo m f l → IsSo m' f l
so_still m m' f g (Starts k b) h = (let n = g.fibers k h.0 h.1 in (n.fiber, n.at, n.origin ∙ h.2))
so_still m m' f g (Learns k o e) h = (let n = g.fibers k h.0 h.1 in (n.fiber, n.at, n.ended o h.2))
so_still m m' f g (Shows event.Seen) h = g.requested f h
so_still m m' f g _ h = tt

all_still : (m m' : WholeMachine) (f : ℕ) (ls : List Label) → Grows m m' → All (IsSo m f) ls → All (IsSo m' f) ls
all_still m m' f ls g all = All-weaker (IsSo m f) (IsSo m' f) (so_still m m' f g) ls all

abbrev pub AreSo : WholeMachine → Type 0
AreSo m = (f : ℕ) (x : StartedFiber) → m.fibers f ≡ Some x → All (IsSo m f) x.labels

-- an outcome is that of a fiber that has ended
record EndedSo (m : WholeMachine) (g : ℕ) (o : Outcome) : Type 0 where
  pub fiber : StartedFiber
  pub at : m.fibers g ≡ Some fiber
  pub ended : fiber.progress ≡ HasEnded o

outcome_is : (p : Progress) (o : Outcome) → outcome_at p ≡ Some o → p ≡ HasEnded o
outcome_is (HasEnded o') o e = ap HasEnded (same_Some o' o e)
outcome_is (Runs t) o e = absurd (none-some o e)
outcome_is (Unwinds rest) o e = absurd (none-some o e)
outcome_is (CleansUp k t rest) o e = absurd (none-some o e)

ended_so : (m : WholeMachine) (g : ℕ) (o : Outcome) → outcome_of m g ≡ Some o → EndedSo m g o
ended_so m g o e = by_fiber (m.fibers g) refl
  where
    by_fiber : (z : Option StartedFiber) → m.fibers g ≡ z → EndedSo m g o
    by_fiber None is = absurd (none-some o (sym (ap outcome_of_fiber is) ∙ e))
    by_fiber (Some y) is = record { fiber = y; at = is; ended = outcome_is y.progress o (sym (ap outcome_of_fiber is) ∙ e) }

-- a request for h stands in the trace of a fiber
pub record AskedBy (m : WholeMachine) (h : ℕ) : Type 0 where
  pub number : ℕ
  pub fiber : StartedFiber
  pub at : m.fibers number ≡ Some fiber
  pub asks : list_any (is_request_for h) (events fiber.labels) ≡ true

pub record HasRequests (s : ScriptView) (m : WholeMachine) : Type 0 where
  pub asked : (h : ℕ) → m.requested h ≡ true → (m.from_outside h ≡ true) ⊎ AskedBy m h
  pub by_fiber : (h : ℕ) → AskedBy m h → m.requested h ≡ true
  pub by_outside : (h : ℕ) → m.from_outside h ≡ true → m.requested h ≡ true
  pub below : (h : ℕ) → m.from_outside h ≡ true → h < total s

pub opening_is_so : (s : ScriptView) → AreSo (opening s)
opening_is_so s f x e = (let o = opened_at s f x e in rw o.1 (All-nil (IsSo (opening s) f)))

pub opening_has_requests : (s : ScriptView) → HasRequests s (opening s)
opening_has_requests s = record {
  asked = λ h e. absurd cc;
  by_fiber =
      λ h a. absurd (let o = opened_at s a.number a.fiber a.at in let e =
      subst (λ (y : StartedFiber). list_any (is_request_for h) (events y.labels) ≡ true) o.1 a.asks in cc);
  by_outside = λ h e. absurd cc;
  below = λ h e. absurd cc;
}

-- what a label asks for is requested
asks_is_requested : (l : Label) (requested : ℕ → Bool) (h : ℕ) → IsProper l → list_any (is_request_for h) (events (l ∷ [])) ≡ true
    → requested_after l requested h ≡ true
asks_is_requested (Shows (event.Request g)) requested h p e =
    elim (or_cases (g == h) false e) [ inl is ↦ at_that g true requested h (sym (eqb-true g h is)) | inr not_that ↦ absurd cc ]
asks_is_requested (Shows (event.Start g)) requested h p e = absurd p
asks_is_requested (Shows _) requested h p e = absurd cc
asks_is_requested Silent requested h p e = absurd cc
asks_is_requested (Starts g b) requested h p e = absurd cc
asks_is_requested (Learns g o (event.Joined k v)) requested h p e = absurd cc
asks_is_requested (Learns g o (event.Awaited k)) requested h p e = absurd cc
asks_is_requested (Learns g o (event.First k)) requested h p e = absurd cc
asks_is_requested (Learns g o _) requested h p e = absurd p

-- what is requested after a step was so before, or is what the label asks for
requested_was : (l : Label) (requested : ℕ → Bool) (h : ℕ) → requested_after l requested h ≡ true
    → (requested h ≡ true) ⊎ (list_any (is_request_for h) (events (l ∷ [])) ≡ true)
requested_was (Shows (event.Request g)) requested h e = elim (cases_eq h g) [
  | inl same ↦ inr (rw (same, same_number g) refl)
  | inr ne ↦ inl (sym (at_other g true requested h ne) ∙ e)
]
requested_was _ requested h e = inl e

asks_append : (h : ℕ) (ls : List Label) (l : Label)
    → list_any (is_request_for h) (events (ls ++ l ∷ [])) ≡ (list_any (is_request_for h) (events ls) || list_any (is_request_for h) (events (l ∷ [])))
asks_append h ls l = ap (list_any (is_request_for h)) (events_append ls (l ∷ [])) ∙ list_any-append (is_request_for h) (events ls) (events (l ∷ []))

module _ (s : ScriptView) (m : WholeMachine) (f : ℕ) (x : StartedFiber) (d : Counts) (q : Progress) (at : m.fibers f ≡ Some x) (ranges : HasRanges s m)
    (l : Label) (st : Step x.counts x.progress l d q) where
  grows : Grows m (moved m f x l d q)
  grows = step_grows m f x l d q at st (fresh s m f x d q at ranges l st)

  -- the new label is so, as the outside answered
  new_is_so : IsAnswered s m f l → IsSo (moved m f x l d q) f l
  new_is_so a = by_label l st a
    where
      by_label : (l : Label) → Step x.counts x.progress l d q → IsAnswered s m f l → IsSo (moved m f x l d q) f l
      by_label (Starts g b) st a = (begun (Some f) b, child_is_there m f x d q g b (child_is_another s m f x d q at ranges g b st), refl)
      by_label (Learns g o e) st a =
          (let n = ended_so m g o a in so_still m (moved m f x (Learns g o e) d q) f (step_grows m f x (Learns g o e) d q at st tt) (Learns g o e)
          (n.fiber, n.at, n.ended))
      by_label (Shows event.Seen) st a = a
      by_label _ st a = tt

  pub are_so_kept : IsAnswered s m f l → AreSo m → AreSo (moved m f x l d q)
  are_so_kept a so k y e = by_origin (comes m f x d q l k y e)
    where
      by_origin : Comes m f x l d q k y → All (IsSo (moved m f x l d q) k) y.labels
      by_origin (itself same is) =
          rw (is, same) (All-push (IsSo (moved m f x l d q) f) x.labels l (all_still m (moved m f x l d q) f x.labels grows (so f x at)) (new_is_so a))
      by_origin (child ne label is) = rw is (All-nil (IsSo (moved m f x l d q) k))
      by_origin (other ne e) = all_still m (moved m f x l d q) k y.labels grows (so k y e)

  -- who asked still has asked
  still_asked : (h : ℕ) → AskedBy m h → AskedBy (moved m f x l d q) h
  still_asked h a = elim (cases_eq a.number f) [
    | inl same ↦
        (let e : a.fiber ≡ x = same_Some a.fiber x (sym a.at ∙ ap m.fibers same ∙ at) in
        record {
          number = f;
          fiber = stepped x l d q;
          at = still_itself m f x d q l;
          asks = asks_append h x.labels l
              ∙ or_left _ _ (sym (ap (λ (z : StartedFiber). list_any (is_request_for h) (events z.labels)) e) ∙ a.asks);
        })
    | inr ne ↦ record {
      number = a.number;
      fiber = a.fiber;
      at = still_other m f x d q l a.number a.fiber ne (fresh s m f x d q at ranges l st) a.at;
      asks =
          a.asks;
    }
  ]

  asked_kept : HasRequests s m → (h : ℕ) → requested_after l m.requested h ≡ true → (m.from_outside h ≡ true) ⊎ AskedBy (moved m f x l d q) h
  asked_kept r h e = elim (requested_was l m.requested h e) [
    | inl was ↦ elim (r.asked h was) [ inl out ↦ inl out | inr a ↦ inr (still_asked h a) ]
    | inr now ↦ inr (record { number = f; fiber = stepped x l d q; at = still_itself m f x d q l; asks = asks_append h x.labels l ∙ or_right _ _ now })
  ]

  by_fiber_kept : HasRequests s m → (h k : ℕ) (y : StartedFiber) → list_any (is_request_for h) (events y.labels) ≡ true → Comes m f x l d q k y
      → requested_after l m.requested h ≡ true
  by_fiber_kept r h k y asks (itself same is) =
      elim (or_cases _ _ (sym (asks_append h x.labels l) ∙ sym (ap (λ (z : StartedFiber). list_any (is_request_for h) (events z.labels)) is) ∙ asks)) [
        | inl was ↦ grows.requested h (r.by_fiber h (record { number = f; fiber = x; at = at; asks = was }))
        | inr now ↦ asks_is_requested l m.requested h (step_tells st).proper now
      ]
  by_fiber_kept r h k y asks (child ne label is) =
      absurd (let e = subst (λ (z : StartedFiber). list_any (is_request_for h) (events z.labels) ≡ true) is asks in cc)
  by_fiber_kept r h k y asks (other ne e) = grows.requested h (r.by_fiber h (record { number = k; fiber = y; at = e; asks = asks }))

  pub requests_kept : HasRequests s m → HasRequests s (moved m f x l d q)
  requests_kept r = record {
    asked = asked_kept r;
    by_fiber = λ h a. by_fiber_kept r h a.number a.fiber a.asks (comes m f x d q l a.number a.fiber a.at);
    by_outside = λ h e. grows.requested h (r.by_outside h e);
    below = r.below;
  }

-- a request from outside
module _ (s : ScriptView) (m : WholeMachine) (f : ℕ) (lt : f < total s) where
  pub request_is_so : AreSo m → AreSo (requested_from_outside f m)
  request_is_so so k y e = all_still m (requested_from_outside f m) k y.labels (request_grows m f) (so k y e)

  pub request_has_requests : HasRequests s m → HasRequests s (requested_from_outside f m)
  request_has_requests r = record {
    asked = λ h e. elim (cases_eq h f) [
      | inl same ↦ inl (at_that f true m.from_outside h same)
      | inr ne ↦ elim (r.asked h (sym (at_other f true m.requested h ne) ∙ e)) [
        | inl out ↦ inl (at_other f true m.from_outside h ne ∙ out)
        | inr a ↦ inr (record { number = a.number; fiber = a.fiber; at = a.at; asks = a.asks })
      ]
    ];
    by_fiber = λ h a. (request_grows m f).requested h (r.by_fiber h (record { number = a.number; fiber = a.fiber; at = a.at; asks = a.asks }));
    by_outside = λ h e. elim (cases_eq h f) [
      | inl same ↦ at_that f true m.requested h same
      | inr ne ↦ at_other f true m.requested h ne ∙ r.by_outside h (sym (at_other f true m.from_outside h ne) ∙ e)
    ];
    below = λ h e. elim (cases_eq h f) [
      | inl same ↦ (omega arith)
      | inr ne ↦ r.below h (sym (at_other f true m.from_outside h ne) ∙ e)
    ];
  }
