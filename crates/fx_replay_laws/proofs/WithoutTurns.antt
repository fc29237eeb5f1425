-- With `(pure 0)` for each `(cede)` the whole machine makes the same steps, by the same picks.
use Rattle.std.proofs.Common.{◌≡◌, ℕ, suc, ◌+◌, Bool, true, false, Option, Some, None, List, [], ◌∷◌, ◌++◌, map, refl, sym, ◌∙◌, ap, subst}
use Rattle.std.specs.Prelude.{◌==◌}
use mathlib.Core.Path.{fun_ext}
use Rattle.fx_term.specs.declared.node.Arg.TheVariants.{Number}
use Rattle.fx_term.specs.declared.event.Event.{Event}
use Rattle.fx_term.specs.declared.event.Event.TheVariants as event
use Rattle.fx_term.specs.declared.outcome.Outcome.{Outcome}
use Rattle.fx_term.specs.Element.{Element}
use Rattle.fx_term.specs.Maps.{with_at}
use Rattle.fx_term.specs.Term.{Term, First}
use Rattle.fx_term.specs.Script.{ScriptView, total}
use Rattle.fx_model.specs.Row.{Counts, Label, Silent, Shows, Learns, Starts}
use Rattle.fx_model.specs.Origin.{Origin, main_origin}
use Rattle.fx_model.specs.Step.{Progress, Runs, Unwinds, CleansUp, HasEnded, leaf_at}
use Rattle.fx_model.specs.Run.{events}
use Rattle.fx_model.specs.Outside.{Outside}
use Rattle.fx_model.specs.Report.{ReportView}
use Rattle.fx_text.specs.declared.pick.Pick.{Pick}
use Rattle.fx_laws.specs.WithoutTurns.{without_turns, progress_without_turns, origin_without_turns, label_without_turns}
use Rattle.fx_laws.proofs.WithoutTurns.{need_without, step_without, leaf_without, outcome_without, ended_without, looks_without, can_without}
use Rattle.fx_plain.specs.MachineStamps.{MachineStamps, stamps_after}
use Rattle.fx_plain.specs.WholeMachine.{StartedFiber, WholeMachine, Move, Steps, Requests, begun, opening, outcome_of, outcome_of_fiber, outside_of, has_room}
use Rattle.fx_plain.specs.WholeMachine.{can_step_fiber, can_step_in, IsAnswered, fibers_after, requested_after, queues_after, stepped}
use Rattle.fx_plain.specs.WholeMachine.{moved, FiberSteps}
use Rattle.fx_plain.specs.SettledRun.{report_of_fiber, IsReportOf}
use Rattle.fx_plain.specs.Chosen.{LooksLeftFirst, ChosenStep, IsLeast, IsChosen, IsReplay}
use Rattle.fx_plain.specs.Chosen as chosen
use Rattle.fx_plain.proofs.OneReport.{one_replay}
use Rattle.fx_replay_laws.specs.Scripts.{script_without_turns}

abbrev fiber_without : StartedFiber → StartedFiber
fiber_without x =
    record {
      parent = x.parent;
      origin = origin_without_turns x.origin;
      labels = map label_without_turns x.labels;
      counts = x.counts;
      progress = progress_without_turns x.progress;
    }

abbrev started_without : Option StartedFiber → Option StartedFiber
started_without None = None
started_without (Some x) = Some (fiber_without x)

abbrev machine_without : WholeMachine → WholeMachine
machine_without m = record m { fibers = λ f. started_without (m.fibers f) }

abbrev leaf_without_turns : Option Term → Option Term
leaf_without_turns None = None
leaf_without_turns (Some t) = Some (without_turns t)

leaf_at_without : (p : Progress) → leaf_at (progress_without_turns p) ≡ leaf_without_turns (leaf_at p)
leaf_at_without (Runs t) = ap Some (leaf_without t)
leaf_at_without (Unwinds xs) = refl
leaf_at_without (CleansUp k t xs) = ap Some (leaf_without t)
leaf_at_without (HasEnded o) = refl

abbrev move_without : Move → Move
move_without (Steps f l) = Steps f (label_without_turns l)
move_without (Requests f) = Requests f

-- the events are the same
events_without : (ls : List Label) → events (map label_without_turns ls) ≡ events ls
events_without [] = refl
events_without (Silent ∷ ls) = events_without ls
events_without (Shows e ∷ ls) = ap (λ (es : List Event). e ∷ es) (events_without ls)
events_without (Learns f o e ∷ ls) = ap (λ (es : List Event). e ∷ es) (events_without ls)
events_without (Starts f b ∷ ls) = ap (λ (es : List Event). event.Start f ∷ es) (events_without ls)

one_more : (ls : List Label) (l : Label) → map label_without_turns (ls ++ l ∷ []) ≡ map label_without_turns ls ++ label_without_turns l ∷ []
one_more [] l = refl
one_more (k ∷ ls) l = ap (λ (ms : List Label). label_without_turns k ∷ ms) (one_more ls l)

-- what fibers see of each other is the same
outcome_is : (o : Option StartedFiber) → outcome_of_fiber (started_without o) ≡ outcome_of_fiber o
outcome_is None = refl
outcome_is (Some x) = outcome_without x.progress

module _ (s : ScriptView) (m : WholeMachine) where
  abbrev s' : ScriptView
  s' = script_without_turns s

  abbrev m' : WholeMachine
  m' = machine_without m

  outcome_same : (f : ℕ) → outcome_of m' f ≡ outcome_of m f
  outcome_same f = outcome_is (m.fibers f)

  outside_same : outside_of s' m' ≡ outside_of s m
  outside_same =
      ap (λ (o : ℕ → Option Outcome). record { outcome = o; has_room = has_room s m; has_element = (outside_of s m).has_element; is_requested = m.requested })
      (fun_ext outcome_same)

  can_fiber : (o : Outside) (f : ℕ) (x : Option StartedFiber) → can_step_fiber o f (started_without x) ≡ can_step_fiber o f x
  can_fiber o f None = refl
  can_fiber o f (Some x) = can_without o f x.counts x.progress

  pub can_same : (f : ℕ) → can_step_in s' m' f ≡ can_step_in s m f
  can_same f =
      ap (λ (o : Outside). can_step_fiber o f (started_without (m.fibers f))) outside_same ∙ can_fiber (outside_of s m) f (m.fibers f)

  answered : (f : ℕ) (l : Label) → IsAnswered s m f l → IsAnswered s' m' f (label_without_turns l)
  answered f Silent a = tt
  answered f (Starts g b) a = tt
  answered f (Learns g o e) a = outcome_same g ∙ a
  answered f (Shows (event.Put q n)) a = a
  answered f (Shows (event.Got q n)) a = a
  answered f (Shows (event.Refused q)) a = a
  answered f (Shows (event.Empty q)) a = a
  answered f (Shows event.Seen) a = a
  answered f (Shows _) a = tt

  -- at a leaf without turns the same is asked first
  left_at : (l : Label) (t : Option Term) → LooksLeftFirst m l t → LooksLeftFirst m' (label_without_turns l) (leaf_without_turns t)
  left_at (Learns g o (event.First (suc n))) (Some (First (Number h) k)) a = outcome_same h ∙ a
  left_at (Learns g o (event.First (suc n))) None a = tt
  left_at (Learns g o (event.First (suc n))) (Some _) a = tt
  left_at (Learns g o _) t a = tt
  left_at Silent t a = tt
  left_at (Shows e) t a = tt
  left_at (Starts f b) t a = tt

  -- what a step leaves
  fibers_same : (f : ℕ) (l : Label) (x : StartedFiber) (g : ℕ)
      → with_at f (Some (fiber_without x)) (fibers_after f (label_without_turns l) m'.fibers) g
      ≡ started_without (with_at f (Some x) (fibers_after f l m.fibers) g)
  fibers_same f l x g = by_test (g == f) refl
    where
      rest : (l : Label) → fibers_after f (label_without_turns l) m'.fibers g ≡ started_without (fibers_after f l m.fibers g)
      rest Silent = refl
      rest (Shows e) = refl
      rest (Learns h o e) = refl
      rest (Starts h b) = by_start (g == h) refl
        where
          by_start : (t : Bool) → (g == h) ≡ t
              → fibers_after f (label_without_turns (Starts h b)) m'.fibers g ≡ started_without (fibers_after f (Starts h b) m.fibers g)
          by_start true e = rw e refl
          by_start false e = rw e refl

      by_test : (t : Bool) → (g == f) ≡ t → with_at f (Some (fiber_without x)) (fibers_after f (label_without_turns l) m'.fibers) g
          ≡ started_without (with_at f (Some x) (fibers_after f l m.fibers) g)
      by_test true e = rw e refl
      by_test false e = rw e (rest l)

  requests_same : (l : Label) → requested_after (label_without_turns l) m.requested ≡ requested_after l m.requested
  requests_same Silent = refl
  requests_same (Shows e) = refl
  requests_same (Learns f o e) = refl
  requests_same (Starts f b) = refl

  queues_same : (f : ℕ) (ls : List Label) (l : Label)
      → queues_after f (map label_without_turns ls) (label_without_turns l) m.queues ≡ queues_after f ls l m.queues
  queues_same f ls Silent = refl
  queues_same f ls (Shows (event.Put q n)) = let e = events_without ls in rw e refl
  queues_same f ls (Shows (event.Got q n)) = refl
  queues_same f ls (Shows _) = refl
  queues_same f ls (Learns g o e) = refl
  queues_same f ls (Starts g b) = refl

  stamps_same : (f : ℕ) (l : Label) → stamps_after m.stamps f (label_without_turns l) ≡ stamps_after m.stamps f l
  stamps_same f Silent = refl
  stamps_same f (Shows e) = refl
  stamps_same f (Learns g o e) = refl
  stamps_same f (Starts g b) = refl

  stepped_same : (x : StartedFiber) (l : Label) (c : Counts) (p : Progress)
      → stepped (fiber_without x) (label_without_turns l) c (progress_without_turns p) ≡ fiber_without (stepped x l c p)
  stepped_same x l c p =
      ap (λ (ls : List Label). record {
        parent = x.parent;
        origin = origin_without_turns x.origin;
        labels = ls;
        counts = c;
        progress = progress_without_turns p;
      }) (sym (one_more x.labels l))

  moved_same : (f : ℕ) (x : StartedFiber) (l : Label) (c : Counts) (p : Progress)
      → moved m' f (fiber_without x) (label_without_turns l) c (progress_without_turns p) ≡ machine_without (moved m f x l c p)
  moved_same f x l c p =
      by_parts (ap (λ (y : StartedFiber). with_at f (Some y) (fibers_after f (label_without_turns l) m'.fibers)) (stepped_same x l c p)
      ∙ fun_ext (fibers_same f l (stepped x l c p))) (requests_same l) (queues_same f x.labels l) (stamps_same f l)
    where
      by_parts : {a a' : ℕ → Option StartedFiber} {b b' : ℕ → Bool} {d d' : ℕ → List Element} {e e' : MachineStamps} → a ≡ a' → b ≡ b' → d ≡ d' → e ≡ e'
          → ◌≡◌ {A = WholeMachine} (record { fibers = a; requested = b; from_outside = m.from_outside; queues = d; stamps = e })
          (record { fibers = a'; requested = b'; from_outside = m.from_outside; queues = d'; stamps = e' })
      by_parts p q r t = cc

  abbrev steps_without : (f : ℕ) (l : Label) (n : WholeMachine) → FiberSteps s m f l n → FiberSteps s' m' f (label_without_turns l) (machine_without n)
  steps_without f l n h =
      record {
        fiber = fiber_without h.fiber;
        started = ap started_without h.started;
        counts = h.counts;
        progress = progress_without_turns h.progress;
        step = step_without h.step;
        answered = answered f l h.answered;
        seen_first = λ looks asked. ap label_without_turns (h.seen_first (sym (looks_without h.fiber.counts.known h.fiber.progress) ∙ looks) asked);
        after = ap machine_without h.after ∙ sym (moved_same f h.fiber l h.counts h.progress);
      }

  chosen_without : (f : ℕ) (l : Label) (n : WholeMachine) → ChosenStep s m f l n → ChosenStep s' m' f (label_without_turns l) (machine_without n)
  chosen_without f l n h =
      record {
        can = can_same f ∙ h.can;
        steps = steps_without f l n h.steps;
        left_first = rw (leaf_at_without h.steps.fiber.progress) (left_at l (leaf_at h.steps.fiber.progress) h.left_first);
      }

total_same : (s : ScriptView) → total (script_without_turns s) ≡ total s
total_same s = ap (λ (n : ℕ). 1 + n) (need_without s.term)

run_without : (s : ScriptView) {ps : List Pick} {m last : WholeMachine} {vs : List Move} → IsChosen s ps m vs last
    → IsChosen (script_without_turns s) ps (machine_without m) (map move_without vs) (machine_without last)
run_without s (chosen.step {f = f} {l = l} {m = m} {m' = n} h rest) = chosen.step (chosen_without s m f l n h) (run_without s rest)
run_without s (chosen.no_step {f = f} {m = m} unable rest) = chosen.no_step (can_same s m f ∙ unable) (run_without s rest)
run_without s (chosen.request {f = f} below rest) = chosen.request (rw (total_same s) below) (run_without s rest)
run_without s (chosen.no_request {f = f} above rest) = chosen.no_request (rw (total_same s) above) (run_without s rest)
run_without s (chosen.least {f = f} {l = l} {m = m} {m' = n} least h rest) =
    chosen.least (λ g lt. can_same s m g ∙ least g lt) (chosen_without s m f l n h) (run_without s rest)
run_without s (chosen.halts {m = m} settled) = chosen.halts (λ f. can_same s m f ∙ settled f)

opening_same : (s : ScriptView) → opening (script_without_turns s) ≡ machine_without (opening s)
opening_same s =
    ap (λ (fs : ℕ → Option StartedFiber). record {
      fibers = fs;
      requested = (opening s).requested;
      from_outside = (opening s).from_outside;
      queues = (opening s).queues;
      stamps = (opening s).stamps;
    }) (fun_ext main_same)
  where
    origin_same : main_origin (without_turns s.term) ≡ origin_without_turns (main_origin s.term)
    origin_same = rw (need_without s.term) refl

    main_same : (f : ℕ) → (opening (script_without_turns s)).fibers f ≡ started_without ((opening s).fibers f)
    main_same f = by_test (f == 0) refl
      where
        by_test : (t : Bool) → (f == 0) ≡ t → (opening (script_without_turns s)).fibers f ≡ started_without ((opening s).fibers f)
        by_test true e = rw e (ap (λ (b : Origin). Some (begun None b)) origin_same)
        by_test false e = rw e refl

report_same : (s : ScriptView) (m : WholeMachine) (r : ReportView) → IsReportOf s m r → IsReportOf (script_without_turns s) (machine_without m) r
report_same s m r h =
    record {
      ascending = h.ascending;
      fibers = λ f. h.fibers f ∙ by_fiber f (m.fibers f);
      left_by_queue = h.left_by_queue;
      left = h.left;
      outside_ascending = h.outside_ascending;
      outside = h.outside;
      in_time = h.in_time;
    }
  where
    by_fiber : (f : ℕ) (x : Option StartedFiber) → report_of_fiber f (m.stamps.trace f) x ≡ report_of_fiber f (m.stamps.trace f) (started_without x)
    by_fiber f None = refl
    by_fiber f (Some x) = let e = events_without x.labels in let g = ended_without x.progress in rw (e, g) refl

pub replay_without : (s : ScriptView) (ps : List Pick) (r : ReportView) → IsReplay s ps r → IsReplay (script_without_turns s) ps r
replay_without s ps r h =
    record {
      moves = map move_without h.moves;
      last = machine_without h.last;
      chosen = rw (opening_same s) (run_without s h.chosen);
      report = report_same s h.last r h.report;
    }

pub one_report_without : (s z : ScriptView) (ps : List Pick) (r r' : ReportView) → without_turns s.term ≡ without_turns z.term
    → s.capacities ≡ z.capacities → IsReplay s ps r → IsReplay z ps r' → r ≡ r'
one_report_without s z ps r r' terms capacities h h' =
    let same : script_without_turns z ≡ script_without_turns s = by_parts (sym terms) (sym capacities) in
    one_replay (script_without_turns s) ps r r' (replay_without s ps r h)
    (subst (λ (x : ScriptView). IsReplay x ps r') same (replay_without z ps r' h'))
  where
    by_parts : {a a' : Term} {b b' : List ℕ} → a ≡ a' → b ≡ b'
        → ◌≡◌ {A = ScriptView} (record { term = a; capacities = b }) (record { term = a'; capacities = b' })
    by_parts p q = cc
