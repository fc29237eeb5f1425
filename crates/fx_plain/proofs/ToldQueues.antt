-- What is told of a run tells the histories of the queues by which its report is lawful with its stamps.
use Rattle.std.proofs.Common.{◌≡◌, ℕ, ◌+◌, ◌<◌, Option, Some, None, List, [], ◌∷◌, ◌++◌, length, refl, sym, ◌∙◌, ap, subst, append_assoc, inl, inr}
use Rattle.std.specs.Prelude.{◌==◌, if◌then◌else◌}
use Rattle.std.proofs.lemmas.Bool.{cases_eq, cases_lt, eq-eqb, ne_eqb}
use Rattle.std.proofs.lemmas.Option.{none-some}
use Rattle.std.proofs.lemmas.List.{get_or_past}
use Rattle.std.proofs.lemmas.List.Elements.{filter-append, filter_map-append}
use Rattle.fx_term.specs.declared.node.Node.{Node}
use Rattle.fx_term.specs.declared.queue_event.QueueEvent.{QueueEvent}
use Rattle.fx_term.specs.Element.{Element}
use Rattle.fx_term.specs.Queue.{fiber_of, cut, QueueState, empty_queue, replayed_from, replayed, queue_event, queue_events}
use Rattle.fx_term.specs.Script.{ScriptView}
use Rattle.fx_term.proofs.QueueLaws.{stays_none, replayed_append}
use Rattle.fx_model.specs.Report.{ReportView, capacity_of}
use Rattle.fx_model.specs.Row.{Label}
use Rattle.fx_model.specs.Run.{events}
use Rattle.fx_text.specs.declared.pick.Pick.{Pick}
use Rattle.fx_plain.specs.declared.told.MadeStep.{MadeStep}
use Rattle.fx_plain.specs.declared.told.Told.{Told}
use Rattle.fx_plain.specs.declared.told.Told.TheVariants.{Step, Request, Passed}
use Rattle.fx_plain.specs.WholeMachine.{WholeMachine, Move}
use Rattle.fx_plain.specs.Chosen.{IsChosen, IsReplay}
use Rattle.fx_plain.specs.Chosen as chosen
use Rattle.fx_plain.specs.ToldRun.{happenings, shown_by, one_shown, AreTold, TellsRun, events_told}
use Rattle.fx_plain.specs.ToldQueues.{queue_moves, queue_told}
use Rattle.fx_plain.proofs.ChosenRuns.{replay_is_stamped_report, replay_histories}
use Rattle.fx_plain.proofs.ComputedReports.{without_capacity}
use Rattle.fx_plain.proofs.HistoriesKept.{cut_own, cut_other}
use Rattle.fx_plain.proofs.LawfulRuns.{opening_is_kept}
use Rattle.fx_plain.proofs.OneRun.{one_run}
use Rattle.fx_plain.proofs.ToldRuns.{one_shows}

pub queue_told-append : (q : ℕ) (first next : List Told) → queue_told q (first ++ next) ≡ queue_told q first ++ queue_told q next
queue_told-append q [] next = refl
queue_told-append q (Step made ∷ first) next =
    ap (λ (h : List QueueEvent). queue_events q made.fiber (one_shown made.event) ++ h) (queue_told-append q first next)
    ∙ sym (append_assoc (queue_events q made.fiber (one_shown made.event)) (queue_told q first) (queue_told q next))
queue_told-append q (Request f ∷ first) next = queue_told-append q first next
queue_told-append q (Passed x ∷ first) next = queue_told-append q first next

-- cut to a fiber it is what the events that are told of the fiber do there
cut_step : (q g : ℕ) (made : MadeStep)
    → cut g (queue_events q made.fiber (one_shown made.event)) ≡ queue_events q g (if made.fiber == g then one_shown made.event else [])
cut_step q g made = elim (cases_eq made.fiber g) [
  | inl same ↦ rw (same, eq-eqb g g refl) (cut_own q g (one_shown made.event))
  | inr other ↦ rw (ne_eqb made.fiber g other) (cut_other q made.fiber g (one_shown made.event) other)
]

pub cut_told : (q g : ℕ) (told : List Told) → cut g (queue_told q told) ≡ queue_events q g (events_told g told)
cut_told q g [] = refl
cut_told q g (Step made ∷ told) =
    filter-append (λ e. fiber_of e == g) (queue_events q made.fiber (one_shown made.event)) (queue_told q told)
    ∙ ap (λ (h : List QueueEvent). h ++ cut g (queue_told q told)) (cut_step q g made)
    ∙ ap (λ (h : List QueueEvent). queue_events q g (if made.fiber == g then one_shown made.event else []) ++ h) (cut_told q g told)
    ∙ sym (filter_map-append (queue_event q g) (if made.fiber == g then one_shown made.event else []) (events_told g told))
cut_told q g (Request f ∷ told) = cut_told q g told
cut_told q g (Passed x ∷ told) = cut_told q g told

-- what the queue is between what is told first and the rest, where all that is legal and leaves it so
pub record IsBetween (capacity q : ℕ) (first rest : List Told) (last : QueueState) : Type 0 where
  pub state : QueueState
  pub legal : replayed capacity (queue_told q first) ≡ Some state
  pub goes_on : replayed_from capacity (Some state) (queue_told q rest) ≡ Some last

pub between : (capacity q : ℕ) (first rest : List Told) (last : QueueState) → replayed capacity (queue_told q (first ++ rest)) ≡ Some last
    → IsBetween capacity q first rest last
between capacity q first rest last legal = by_state (replayed capacity (queue_told q first)) refl
  where
    both : replayed_from capacity (replayed capacity (queue_told q first)) (queue_told q rest) ≡ Some last
    both =
        sym (ap (replayed capacity) (queue_told-append q first rest) ∙ replayed_append capacity (Some empty_queue) (queue_told q first) (queue_told q rest))
        ∙ legal

    by_state : (o : Option QueueState) → replayed capacity (queue_told q first) ≡ o → IsBetween capacity q first rest last
    by_state None is =
        absurd (none-some last (sym (stays_none capacity (queue_told q rest))
        ∙ ap (λ (x : Option QueueState). replayed_from capacity x (queue_told q rest)) (sym is) ∙ both))
    by_state (Some state) is = record {
      state = state;
      legal = is;
      goes_on = ap (λ (x : Option QueueState). replayed_from capacity x (queue_told q rest)) (sym is) ∙ both;
    }

-- a queue that has had an element is one of those that the script declares
pub declared_queue : (s : ScriptView) (q : ℕ) (told : List Told) (state : QueueState) (x : Element) (xs : List Element)
    → replayed (capacity_of s q) (queue_told q told) ≡ Some state → state.items ≡ x ∷ xs → q < length s.capacities
declared_queue s q told state x xs legal are = elim (cases_lt q (length s.capacities)) [
  | inl below ↦ below
  | inr past ↦
      (let none : state.items ≡ [] =
      without_capacity empty_queue (queue_told q told) state refl
      (subst (λ (c : ℕ). replayed c (queue_told q told) ≡ Some state) (get_or_past s.capacities q 0 past) legal) in
      absurd (let some : [] ≡ x ∷ xs = sym none ∙ are in cc))
]

module _ (nodes : List Node) (s : ScriptView) (q : ℕ) where
  one_step : (f : ℕ) (l : Label) (t : MadeStep) → t.fiber ≡ f → t.event ≡ shown_by l
      → queue_events q t.fiber (one_shown t.event) ≡ queue_events q f (events (l ∷ []))
  one_step f l t is_fiber is_event = rw (is_fiber, is_event) (ap (queue_events q f) (one_shows nodes s l))

  one_more : (f : ℕ) (l : Label) (t : MadeStep) (told : List Told) (vs : List Move) → t.fiber ≡ f → t.event ≡ shown_by l → queue_told q told ≡ queue_moves q vs
      → queue_told q (Step t ∷ told) ≡ queue_events q f (events (l ∷ [])) ++ queue_moves q vs
  one_more f l t told vs is_fiber is_event rest =
      ap (λ (h : List QueueEvent). h ++ queue_told q told) (one_step f l t is_fiber is_event)
      ∙ ap (λ (h : List QueueEvent). queue_events q f (events (l ∷ [])) ++ h) rest

  -- it is what the moves do to the queue
  told_moves : (place : ℕ) {ps : List Pick} {m last : WholeMachine} {vs : List Move} (c : IsChosen s ps m vs last) (told : List Told)
      → AreTold nodes s (happenings place c) told → queue_told q told ≡ queue_moves q vs
  told_moves place (chosen.step {f = f} {l = l} {vs = vs} made rest) (Step t ∷ told) are =
      one_more f l t told vs are.0.fiber are.0.event (told_moves (place + 1) rest told are.1)
  told_moves place (chosen.no_step cannot rest) (Passed t ∷ told) are = told_moves (place + 1) rest told are.1
  told_moves place (chosen.request below rest) (Request g ∷ told) are = told_moves (place + 1) rest told are.1
  told_moves place (chosen.no_request past rest) (Passed t ∷ told) are = told_moves (place + 1) rest told are.1
  told_moves place (chosen.least {f = f} {l = l} {vs = vs} is made rest) (Step t ∷ told) are =
      one_more f l t told vs are.0.fiber are.0.event (told_moves place rest told are.1)
  told_moves place (chosen.halts none) [] are = refl
  told_moves place (chosen.halts none) (t ∷ told) are = absurd are
  told_moves place c [] are = absurd are
  told_moves place c (t ∷ told) are = absurd are.0

  -- so the history by which the report is lawful is what is told
  pub told_history : (ps : List Pick) (told : List Told) (r : ReportView) → TellsRun nodes s ps told → (h : IsReplay s ps r)
      → ((replay_is_stamped_report s ps r h).stamped.lawful.histories q).history ≡ queue_told q told
  told_history ps told r t h =
      replay_histories s ps r h q ∙ ap (queue_moves q) (sym (one_run s (opening_is_kept s) t.chosen h.chosen).0) ∙ sym (told_moves 1 t.chosen told t.tells)
