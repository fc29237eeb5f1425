-- A step that is told to have learned of the end of a fiber stands on that end, which is the last event that the fiber has shown until then.
use Rattle.std.proofs.Common.{◌≡◌, ℕ, suc, ◌+◌, Some, List, [], ◌∷◌, ◌++◌, length, sym, ◌∙◌, ap, subst, arith}
use Rattle.std.specs.Prelude.{◌==◌, if◌then◌else◌, slice_get}
use Rattle.std.proofs.lemmas.Option.{none-some, same_Some}
use Rattle.std.proofs.lemmas.List.{length-append}
use Rattle.fx_term.specs.declared.node.Node.{Node}
use Rattle.fx_term.specs.declared.outcome.Outcome.{Outcome}
use Rattle.fx_term.specs.declared.event.Event.{Event}
use Rattle.fx_term.specs.declared.event.Event.TheVariants as event
use Rattle.fx_term.specs.Script.{ScriptView}
use Rattle.fx_model.specs.Row.{Label, Silent, Shows, Learns, Starts}
use Rattle.fx_model.specs.Run.{events, shown}
use Rattle.fx_model.specs.Causes.{LearnsOfEnd}
use Rattle.fx_model.specs.Report.{ReportView, trace_in}
use Rattle.fx_model.proofs.Appended.{still_at, at_seam}
use Rattle.fx_model.proofs.Runs.{events_append}
use Rattle.fx_model.proofs.ShownLabels.{shown_length, shown_append}
use Rattle.fx_text.specs.declared.pick.Pick.{Pick}
use Rattle.fx_plain.specs.declared.told.MadeStep.{MadeStep}
use Rattle.fx_plain.specs.declared.told.Told.{Told}
use Rattle.fx_plain.specs.declared.told.Told.TheVariants.{Step, Request, Passed}
use Rattle.fx_plain.specs.WholeMachine.{WholeMachine, Move, opening, FiberSteps}
use Rattle.fx_plain.specs.SettledRun.{IsReportOf}
use Rattle.fx_plain.specs.Chosen.{IsChosen, IsReplay}
use Rattle.fx_plain.specs.Chosen as chosen
use Rattle.fx_plain.specs.ToldRun.{happenings, shown_by, learned_by, one_shown, TellsStep, AreTold, TellsRun, events_told}
use Rattle.fx_plain.specs.ToldCauses.{LearnsLastEnd}
use Rattle.fx_plain.proofs.FamilyKept.{labels_of}
use Rattle.fx_plain.proofs.HistoriesKept.{opening_has_no_labels}
use Rattle.fx_plain.proofs.CausesKept.{trace_of}
use Rattle.fx_plain.proofs.LawfulRuns.{IsKept, opening_is_kept, step_keeps, request_keeps, run_keeps, trace_same}
use Rattle.fx_plain.proofs.ChosenRuns.{chosen_leads, replay_is_stamped_report, replay_labels}
use Rattle.fx_plain.proofs.LabelsGoOn.{GoesOn, goes_on_by, own_label, step_goes_on, chosen_goes_on, ended_last}
use Rattle.fx_plain.proofs.OneRun.{one_run}
use Rattle.fx_plain.proofs.ToldRuns.{events_more}

-- the label of a step that learned of fiber g's end
record LearnsOf (l : Label) (g : ℕ) : Type 0 where
  outcome : Outcome
  learning : Event
  is : l ≡ Learns g outcome learning

learns_of : (l : Label) (g : ℕ) → learned_by l ≡ Some g → LearnsOf l g
learns_of Silent g e = absurd (none-some g e)
learns_of (Shows v) g e = absurd (none-some g e)
learns_of (Learns f o v) g e = record { outcome = o; learning = v; is = ap (λ (h : ℕ). Learns h o v) (same_Some f g e) }
learns_of (Starts f b) g e = absurd (none-some g e)

-- event i of fiber f learns of that end of fiber g which is the last of its n events so far
record LearnsLast (trace : ℕ → List Event) (labels : ℕ → List Label) (f i g n : ℕ) : Type 0 where
  place : ℕ
  last : n ≡ suc place
  learns : LearnsOfEnd trace labels f i g place

-- of other numbers that are the same
with_numbers : (trace : ℕ → List Event) (labels : ℕ → List Label) (f i i' g n n' : ℕ) → i ≡ i' → n ≡ n' → LearnsLast trace labels f i g n
    → LearnsLast trace labels f i' g n'
with_numbers trace labels f i i' g n n' same same' h = rw (← same, ← same') h

module _ (nodes : List Node) (s : ScriptView) (made : MadeStep) (g : ℕ) (learned : made.learned ≡ Some g) where
  -- what a fiber shows or does stands where it stood, in machines that follow
  event_stays : (m last : WholeMachine) (f i : ℕ) (e : Event) → GoesOn m last f → slice_get (trace_of m f) i ≡ Some e
      → slice_get (trace_of last f) i ≡ Some e
  event_stays m last f i e on at =
      ap (λ (ls : List Label). slice_get (events ls) i) on.is ∙ ap (λ (es : List Event). slice_get es i) (events_append (labels_of m f) on.more)
      ∙ still_at (trace_of m f) (events on.more) i e at

  label_stays : (m last : WholeMachine) (f i : ℕ) (l : Label) → GoesOn m last f → slice_get (shown (labels_of m f)) i ≡ Some l
      → slice_get (shown (labels_of last f)) i ≡ Some l
  label_stays m last f i l on at =
      ap (λ (ls : List Label). slice_get (shown ls) i) on.is ∙ ap (λ (ks : List Label). slice_get ks i) (shown_append (labels_of m f) on.more)
      ∙ still_at (shown (labels_of m f)) (shown on.more) i l at

  learns_here : (m : WholeMachine) (f : ℕ) (o : Outcome) (e : Event) (m' last : WholeMachine) → IsKept s m → FiberSteps s m f (Learns g o e) m'
      → ((h : ℕ) → GoesOn m' last h) → LearnsLast (trace_of last) (labels_of last) f (length (trace_of m f)) g (length (trace_of m g))
  learns_here m f o e m' last k st on =
      let ends = ended_last s m g o k st.answered in
      let own = own_label s m f (Learns g o e) m' st in
      let shows : slice_get (shown (labels_of m' f)) (length (trace_of m f)) ≡ Some (Learns g o e) =
      ap (λ (ls : List Label). slice_get (shown ls) (length (trace_of m f))) own
      ∙ ap (λ (ks : List Label). slice_get ks (length (trace_of m f))) (shown_append (labels_of m f) (Learns g o e ∷ []))
      ∙ ap (slice_get (shown (labels_of m f) ++ Learns g o e ∷ [])) (sym (shown_length (labels_of m f)))
      ∙ at_seam (shown (labels_of m f)) (Learns g o e) in
      let tells : slice_get (trace_of m' f) (length (trace_of m f)) ≡ Some e =
      ap (λ (ls : List Label). slice_get (events ls) (length (trace_of m f))) own
      ∙ ap (λ (es : List Event). slice_get es (length (trace_of m f))) (events_append (labels_of m f) (Learns g o e ∷ []))
      ∙ at_seam (trace_of m f) e in
      let ended : slice_get (trace_of m g) (length ends.before) ≡ Some (event.Ended o) =
      ap (λ (es : List Event). slice_get es (length ends.before)) ends.is ∙ at_seam ends.before (event.Ended o) in
      let many : length (trace_of m g) ≡ length ends.before + 1 = ap length ends.is ∙ length-append ends.before (event.Ended o ∷ []) in
      record {
        place = length ends.before;
        last = omega (arith, many);
        learns = record {
          outcome = o;
          learning = e;
          learns = label_stays m' last f (length (trace_of m f)) (Learns g o e) (on f) shows;
          tells = event_stays m' last f (length (trace_of m f)) e (on f) tells;
          ended = event_stays m last g (length ends.before) (event.Ended o)
              (goes_on_by m m' last g (step_goes_on s m f (Learns g o e) m' st k g) (on g)) ended;
        };
      }

  -- where the step is told first
  abbrev LearnsAfter : WholeMachine → WholeMachine → List Told → Type 0
  LearnsAfter m last before = LearnsLast (trace_of last) (labels_of last) made.fiber (length (trace_of m made.fiber) + length (events_told made.fiber before)) g
      (length (trace_of m g) + length (events_told g before))

  at_head : (m : WholeMachine) (f : ℕ) (l : Label) (m' last : WholeMachine) → IsKept s m → FiberSteps s m f l m' → TellsStep nodes m f l made
      → ((h : ℕ) → GoesOn m' last h) → LearnsAfter m last []
  at_head m f l m' last k st told on =
      let of = learns_of l g (sym told.learned ∙ learned) in
      let step : FiberSteps s m f (Learns g of.outcome of.learning) m' = subst (λ (x : Label). FiberSteps s m f x m') of.is st in
      rw told.fiber (with_numbers (trace_of last) (labels_of last) f (length (trace_of m f)) _ g (length (trace_of m g)) _ (omega arith) (omega arith)
      (learns_here m f of.outcome of.learning m' last k step on))

  -- where another step is told before it
  more_told : (m : WholeMachine) (f : ℕ) (l : Label) (m' : WholeMachine) → FiberSteps s m f l m' → IsKept s m → (t : MadeStep) → t.fiber ≡ f
      → t.event ≡ shown_by l → (before : List Told) (h : ℕ)
      → length (trace_of m' h) + length (events_told h before) ≡ length (trace_of m h) + length (events_told h (Step t ∷ before))
  more_told m f l m' st k t is_fiber is_event before h = rw (is_fiber, is_event)
      (let more = ap length (events_more nodes s m f l m' st k h) in
      let one = length-append (trace_of m h) (if f == h then one_shown (shown_by l) else []) in
      let all = length-append (if f == h then one_shown (shown_by l) else []) (events_told h before) in
      omega (arith, more, one, all))

  behind : (m : WholeMachine) (f : ℕ) (l : Label) (m' last : WholeMachine) → FiberSteps s m f l m' → IsKept s m → (t : MadeStep) → t.fiber ≡ f
      → t.event ≡ shown_by l → (before : List Told) → LearnsAfter m' last before → LearnsAfter m last (Step t ∷ before)
  behind m f l m' last st k t is_fiber is_event before h =
      with_numbers (trace_of last) (labels_of last) made.fiber _ _ g _ _ (more_told m f l m' st k t is_fiber is_event before made.fiber)
      (more_told m f l m' st k t is_fiber is_event before g) h

  learned_after : (place : ℕ) {ps : List Pick} {m last : WholeMachine} {vs : List Move} (c : IsChosen s ps m vs last) (before after : List Told) → IsKept s m
      → AreTold nodes s (happenings place c) (before ++ Step made ∷ after) → LearnsAfter m last before
  learned_after place {last = last} (chosen.step {f = f} {l = l} {m = m} {m' = m'} chose rest) [] after k are =
      at_head m f l m' last k chose.steps are.0 (chosen_goes_on s rest (step_keeps s m f l m' chose.steps k))
  learned_after place {last = last} (chosen.step {f = f} {l = l} {m = m} {m' = m'} chose rest) (Step t ∷ before) after k are =
      behind m f l m' last chose.steps k t are.0.fiber are.0.event before
      (learned_after (place + 1) rest before after (step_keeps s m f l m' chose.steps k) are.1)
  learned_after place (chosen.no_step cannot rest) (Passed t ∷ before) after k are = learned_after (place + 1) rest before after k are.1
  learned_after place (chosen.request {f = f} {m = m} below rest) (Request h ∷ before) after k are =
      learned_after (place + 1) rest before after (request_keeps s m f below k) are.1
  learned_after place (chosen.no_request past rest) (Passed t ∷ before) after k are = learned_after (place + 1) rest before after k are.1
  learned_after place {last = last} (chosen.least {f = f} {l = l} {m = m} {m' = m'} is chose rest) [] after k are =
      at_head m f l m' last k chose.steps are.0 (chosen_goes_on s rest (step_keeps s m f l m' chose.steps k))
  learned_after place {last = last} (chosen.least {f = f} {l = l} {m = m} {m' = m'} is chose rest) (Step t ∷ before) after k are =
      behind m f l m' last chose.steps k t are.0.fiber are.0.event before
      (learned_after place rest before after (step_keeps s m f l m' chose.steps k) are.1)
  learned_after place (chosen.halts none) [] after k are = absurd are
  learned_after place (chosen.halts none) (t ∷ before) after k are = absurd are
  learned_after place c [] after k are = absurd are.0
  learned_after place c (t ∷ before) after k are = absurd are.0

module _ (nodes : List Node) (s : ScriptView) (ps : List Pick) (told : List Told) (r : ReportView) (t : TellsRun nodes s ps told) (h : IsReplay s ps r) where
  abbrev labels : ℕ → List Label
  labels = (replay_is_stamped_report s ps r h).stamped.lawful.runs.labels

  last_is : t.last ≡ h.last
  last_is = (one_run s (opening_is_kept s) t.chosen h.chosen).1

  rep : IsReportOf s t.last r
  rep = subst (λ (m : WholeMachine). IsReportOf s m r) (sym last_is) h.report

  kept : IsKept s t.last
  kept = run_keeps s t.moves t.last (chosen_leads s t.chosen)

  reported : (f i : ℕ) (e : Event) → slice_get (trace_of t.last f) i ≡ Some e → slice_get (trace_in r f) i ≡ Some e
  reported f i e at = ap (λ (es : List Event). slice_get es i) (trace_same s t.last r rep kept f) ∙ at

  labels_are : labels ≡ labels_of t.last
  labels_are = replay_labels s ps r h ∙ ap labels_of (sym last_is)

  pub told_learns : (before after : List Told) (made : MadeStep) (g : ℕ) → told ≡ before ++ Step made ∷ after → made.learned ≡ Some g
      → LearnsLastEnd (trace_in r) labels before made g
  told_learns before after made g is learned =
      let so = learned_after nodes s made g learned 1 t.chosen before after (opening_is_kept s)
      (subst (λ (ts : List Told). AreTold nodes s (happenings 1 t.chosen) ts) is t.tells) in
      let none : length (trace_of (opening s) made.fiber) ≡ 0 = ap (λ (ls : List Label). length (events ls)) (opening_has_no_labels s made.fiber) in
      let none' : length (trace_of (opening s) g) ≡ 0 = ap (λ (ls : List Label). length (events ls)) (opening_has_no_labels s g) in
      let at = with_numbers (trace_of t.last) (labels_of t.last) made.fiber _ (length (events_told made.fiber before)) g _ (length (events_told g before))
      (omega (arith, none)) (omega (arith, none')) so in
      let i = length (events_told made.fiber before) in
      record {
        place = at.place;
        last = at.last;
        learns = record {
          outcome = at.learns.outcome;
          learning = at.learns.learning;
          learns =
              ap (λ (of : ℕ → List Label). slice_get (shown (of made.fiber)) i) labels_are ∙ at.learns.learns;
          tells = reported made.fiber i at.learns.learning at.learns.tells;
          ended = reported g at.place (event.Ended at.learns.outcome) at.learns.ended;
        };
      }
