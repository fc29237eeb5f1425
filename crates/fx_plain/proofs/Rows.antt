-- Scripts and what is reported of them, by computation. A name in them is the number of names in whose scope it was bound.
use Rattle.std.proofs.Common.{◌≡◌, ℕ, Option, Some, None, option_map, List, [], ◌∷◌, map, refl}
use Rattle.fx_term.specs.declared.node.Arg.{Arg}
use Rattle.fx_term.specs.declared.node.Arg.TheVariants.{Number, Slot}
use Rattle.fx_term.specs.declared.outcome.Outcome.{Outcome}
use Rattle.fx_term.specs.declared.outcome.Outcome.TheVariants.{Succeeded, Errored}
use Rattle.fx_term.specs.declared.outcome.Outcome.TheVariants as outcome
use Rattle.fx_term.specs.declared.event.Event.{Event}
use Rattle.fx_term.specs.declared.event.Event.TheVariants as event
use Rattle.fx_term.specs.Term.{Term, Pure, Raise, Canceled, Never, Let, If, Mask, Poll, OnCancel, Bracket, BracketCase, Start, Join, Cancel, First, Offer}
use Rattle.fx_term.specs.Term.{TryOffer, Take, TryTake}
use Rattle.fx_text.specs.declared.pick.Pick.{Pick}
use Rattle.fx_text.specs.declared.pick.Pick.TheVariants.{Step}
use Rattle.fx_text.specs.declared.pick.Pick.TheVariants as pick
use Rattle.fx_term.specs.Element.{Element}
use Rattle.fx_term.specs.Script.{ScriptView}
use Rattle.fx_model.specs.Report.{FiberReportView, ReportView, outcome_shown}
use Rattle.fx_plain.specs.WholeMachine.{opening}
use Rattle.fx_plain.specs.Chosen.{IsReplay}
use Rattle.std.proofs.lemmas.Option.{same_Some}
use Rattle.fx_plain.proofs.ComputedReports.{computed_is_replay}
use Rattle.fx_plain.proofs.ComputedRuns.{RunTo, replayed, report}

abbrev pub script : List ℕ → Term → ScriptView
script capacities t = record { term = t; capacities = capacities }

-- what is told of a replay: how each fiber ended, if it did, what is left in each queue, and who was requested from outside
record Summary : Type 0 where
  pub fibers : List (Option Outcome)
  pub left : List (List ℕ)
  pub outside : List ℕ

abbrev summary : ReportView → Summary
summary r =
    record {
      fibers = map (λ (x : FiberReportView). outcome_shown x.trace) r.fibers;
      left = map (λ (xs : List Element). map (λ (x : Element). x.value) xs) r.left;
      outside = r.outside;
    }

abbrev pub told : List ℕ → Term → List Pick → Option ReportView
told capacities t ps = option_map (λ (d : RunTo). report (script capacities t) d.last) (replayed (script capacities t) 60 ps (opening (script capacities t)))

abbrev summary_of : List ℕ → Term → List Pick → Option Summary
summary_of capacities t ps = option_map summary (told capacities t ps)

abbrev traces_of : List ℕ → Term → List Pick → Option (List (List Event))
traces_of capacities t ps = option_map (λ (r : ReportView). map (λ (x : FiberReportView). x.trace) r.fibers) (told capacities t ps)

-- the script has a replay by these picks whose report tells this
pub record Tells {A : Type 0} (capacities : List ℕ) (t : Term) (ps : List Pick) (of : ReportView → A) (a : A) : Type 0 where
  pub report : ReportView
  pub replay : IsReplay (script capacities t) ps report
  pub is : of report ≡ a

-- so it is for each of the rows below
pub row_tells : {A : Type 0} (capacities : List ℕ) (t : Term) (ps : List Pick) (of : ReportView → A) (a : A) → option_map of (told capacities t ps) ≡ Some a
    → Tells capacities t ps of a
row_tells capacities t ps of a e = by_done (replayed (script capacities t) 60 ps (opening (script capacities t))) refl e
  where
    by_done : (o : Option RunTo) → replayed (script capacities t) 60 ps (opening (script capacities t)) ≡ o
        → option_map of (option_map (λ (d : RunTo). report (script capacities t) d.last) o) ≡ Some a → Tells capacities t ps of a
    by_done None is e = absurd cc
    by_done (Some d) is e =
        record { report = report (script capacities t) d.last; replay = computed_is_replay (script capacities t) 60 ps d is; is = same_Some _ a e }

abbrev ends_so : List (Option Outcome) → List (List ℕ) → List ℕ → Option Summary
ends_so fibers left outside = Some (record { fibers = fibers; left = left; outside = outside })

abbrev n : ℕ → Arg
n k = Number k

-- a race of two terms, whose names are from p on
abbrev end_both : ℕ → ℕ → Term
end_both l r = Let None (Cancel (Slot l)) (Cancel (Slot r))

abbrev side : ℕ → ℕ → ℕ → ℕ → ℕ → ℕ → Term
side p l r a b x =
    Join (Slot a) x (Let None (Cancel (Slot b)) (Pure (Slot x))) x (Let None (Cancel (Slot b)) (Raise (Slot x)))
    (OnCancel (Poll (Slot p) (Join (Slot b) x (Pure (Slot x)) x (Raise (Slot x)) (Let None Canceled Never))) (end_both l r))

abbrev race_at : ℕ → ℕ → ℕ → ℕ → ℕ → Term → Term → Term
race_at p l r w x a b =
    Mask p (Start l a (Start r b (Let (Some w) (OnCancel (Poll (Slot p) (First (Slot l) (Slot r))) (end_both l r))
    (If (Slot w) (side p l r r l x) (side p l r l r x)))))

a_mask_is_not_inherited : summary_of [] (Mask 0 (Start 1 Never (Let None (Cancel (Slot 1)) (Pure (n 6))))) [] ≡ ends_so
    (Some (Succeeded 6) ∷ Some outcome.Canceled ∷ []) [] []
a_mask_is_not_inherited = refl

cancel_waits_for_the_end : traces_of [] (Mask 0 (Start 1 Never (Let None (Cancel (Slot 1)) (Pure (n 6))))) []
    ≡ Some ((event.Start 1 ∷ event.Request 1 ∷ event.Awaited 1 ∷ event.Ended (Succeeded 6) ∷ []) ∷
    (event.Seen ∷ event.Cancelled ∷ event.Ended outcome.Canceled ∷ []) ∷ [])
cancel_waits_for_the_end = refl

join_of_a_canceled_fiber : summary_of [] (Start 0 Never (Let None (Cancel (Slot 0)) (Join (Slot 0) 1 (Pure (n 1)) 1 (Pure (n 2)) (Pure (n 3)))))
    [] ≡ ends_so (Some (Succeeded 3) ∷ Some outcome.Canceled ∷ []) [] []
join_of_a_canceled_fiber = refl

a_canceled_offer_has_put_nothing : summary_of (1 ∷ []) (Start 0 (Let None (Offer 0 (n 1)) (Offer 0 (n 2))) (Cancel (Slot 0)))
    (Step 0 ∷ Step 1 ∷ Step 1 ∷ Step 1 ∷ Step 1 ∷ Step 1 ∷ Step 1 ∷ Step 1 ∷ Step 1 ∷ [])
    ≡ ends_so (Some (Succeeded 0) ∷ Some outcome.Canceled ∷ []) ((1 ∷ []) ∷ []) []
a_canceled_offer_has_put_nothing = refl

abbrev race_with_never : Term
race_with_never = race_at 0 1 2 3 4 Never (Pure (n 8))

the_loser_of_a_race_is_canceled : summary_of [] race_with_never [] ≡ ends_so (Some (Succeeded 8) ∷ Some outcome.Canceled ∷ Some (Succeeded 8) ∷ []) [] []
the_loser_of_a_race_is_canceled = refl

what_a_race_shows : traces_of [] race_with_never []
    ≡ Some ((event.Start 1 ∷ event.Start 2 ∷ event.First 1 ∷ event.Joined 2 (Succeeded 8) ∷ event.Request 1 ∷ event.Awaited 1 ∷ event.Ended (Succeeded 8) ∷ [])
    ∷ (event.Seen ∷ event.Cancelled ∷ event.Ended outcome.Canceled ∷ []) ∷ (event.Ended (Succeeded 8) ∷ []) ∷ [])
what_a_race_shows = refl

a_masked_race_of_two_canceled_blocks : summary_of [] (Mask 0 (race_at 1 2 3 4 5 Canceled Canceled)) [] ≡ ends_so
    (None ∷ Some outcome.Canceled ∷ Some outcome.Canceled ∷ []) [] []
a_masked_race_of_two_canceled_blocks = refl

uses_one_after_another : summary_of (4 ∷ []) (Bracket (Some 0) (Pure (n 1)) (Bracket (Some 1) (Pure (n 2)) Canceled (Offer 0 (Slot 1))) (Offer 0 (Slot 0)))
    [] ≡ ends_so (Some outcome.Canceled ∷ []) ((2 ∷ 1 ∷ []) ∷ []) []
uses_one_after_another = refl

a_release_offers : traces_of (1 ∷ []) (Bracket (Some 0) (Pure (n 7)) (Raise (n 3)) (Offer 0 (Slot 0))) [] ≡ Some
    ((event.Acquired 0 ∷ event.Begin 0 ∷ event.Put 0 7 ∷ event.End 0 ∷ event.Ended (Errored 3) ∷ []) ∷ [])
a_release_offers = refl

-- a resource of 7, used so and released so where the use succeeded; where it erred the error is offered, and after cancellation the resource
abbrev released_by_case : Term → Term → Term
released_by_case u success = BracketCase 0 (Pure (n 7)) u 1 success 1 (Offer 0 (Slot 1)) (Offer 0 (Slot 0))

a_use_that_erred_is_released_with_its_error : traces_of (4 ∷ []) (released_by_case (Raise (n 3)) (Offer 0 (n 1))) [] ≡ Some
    ((event.Acquired 0 ∷ event.Begin 0 ∷ event.Put 0 3 ∷ event.End 0 ∷ event.Ended (Errored 3) ∷ []) ∷ [])
a_use_that_erred_is_released_with_its_error = refl

a_use_that_succeeded_is_released_with_its_value : summary_of (4 ∷ []) (released_by_case (Pure (n 5)) (Offer 0 (Slot 1))) []
    ≡ ends_so (Some (Succeeded 5) ∷ []) ((5 ∷ []) ∷ []) []
a_use_that_succeeded_is_released_with_its_value = refl

a_use_that_was_canceled_is_released_without : summary_of (4 ∷ []) (released_by_case Canceled (Offer 0 (n 1))) []
    ≡ ends_so (Some outcome.Canceled ∷ []) ((7 ∷ []) ∷ []) []
a_use_that_was_canceled_is_released_without = refl

abbrev tries : Term
tries = Let None (TryOffer 0 (n 1)) (Let (Some 0) (TryOffer 0 (n 2)) (TryTake 0 1 (TryTake 0 2 (Pure (n 9)) (Pure (Slot 0))) (Pure (n 8))))

tries_do_not_wait : traces_of (1 ∷ []) tries [] ≡ Some ((event.Put 0 1 ∷ event.Refused 0 ∷ event.Got 0 1 ∷ event.Empty 0 ∷ event.Ended (Succeeded 0) ∷ []) ∷ [])
tries_do_not_wait = refl

a_try_with_room_puts : summary_of (1 ∷ []) (Start 0 Never (Let (Some 1) (TryOffer 0 (n 1)) (Let None (Cancel (Slot 0)) (Pure (Slot 1))))) [] ≡ ends_so
    (Some (Succeeded 1) ∷ Some outcome.Canceled ∷ []) ((1 ∷ []) ∷ []) []
a_try_with_room_puts = refl

a_masked_take_is_served : summary_of (1 ∷ []) (Start 0 (Mask 0 (Take 0)) (Let None (Offer 0 (n 4)) (Let None (Cancel (Slot 0)) (Pure (n 1)))))
    (Step 0 ∷ Step 1 ∷ []) ≡ ends_so (Some (Succeeded 1) ∷ Some outcome.Canceled ∷ []) ([] ∷ []) []
a_masked_take_is_served = refl

never_blocks : summary_of [] Never [] ≡ ends_so (None ∷ []) [] []
never_blocks = refl

never_is_canceled_from_outside : summary_of [] Never (pick.Cancel 0 ∷ []) ≡ ends_so (Some outcome.Canceled ∷ []) [] (0 ∷ [])
never_is_canceled_from_outside = refl

abbrev joins : Term
joins = Start 0 (Pure (n 1)) (Join (Slot 0) 1 (Pure (Slot 1)) 1 (Pure (n 0)) (Pure (n 2)))

a_request_before_the_start : summary_of [] joins (pick.Cancel 1 ∷ []) ≡ ends_so (Some (Succeeded 2) ∷ Some outcome.Canceled ∷ []) [] (1 ∷ [])
a_request_before_the_start = refl

it_is_seen_at_once : traces_of [] joins (pick.Cancel 1 ∷ [])
    ≡ Some ((event.Start 1 ∷ event.Joined 1 outcome.Canceled ∷ event.Ended (Succeeded 2) ∷ []) ∷
    (event.Seen ∷ event.Cancelled ∷ event.Ended outcome.Canceled ∷ []) ∷ [])
it_is_seen_at_once = refl

a_number_too_large_is_skipped : summary_of [] joins (pick.Cancel 5 ∷ []) ≡ ends_so (Some (Succeeded 1) ∷ Some (Succeeded 1) ∷ []) [] []
a_number_too_large_is_skipped = refl

a_canceled_take_leaves_the_element : summary_of (1 ∷ []) (Start 0 (Take 0)
    (Start 1 (Take 0) (Let None (Cancel (Slot 0)) (Let None (Offer 0 (n 3)) (Join (Slot 1) 2 (Pure (Slot 2)) 2 (Pure (n 0)) (Pure (n 1))))))) []
    ≡ ends_so (Some (Succeeded 3) ∷ Some outcome.Canceled ∷ Some (Succeeded 3) ∷ []) ([] ∷ []) []
a_canceled_take_leaves_the_element = refl

-- the first row as a replay
a_mask_is_not_inherited_in_a_replay : Tells [] (Mask 0 (Start 1 Never (Let None (Cancel (Slot 1)) (Pure (n 6))))) [] summary
    (record { fibers = Some (Succeeded 6) ∷ Some outcome.Canceled ∷ []; left = []; outside = [] })
a_mask_is_not_inherited_in_a_replay =
    row_tells [] (Mask 0 (Start 1 Never (Let None (Cancel (Slot 1)) (Pure (n 6))))) [] summary
    (record { fibers = Some (Succeeded 6) ∷ Some outcome.Canceled ∷ []; left = []; outside = [] }) a_mask_is_not_inherited
