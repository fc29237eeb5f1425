-- The run of a fiber that nobody requested, followed step by step to where it cannot step.
use Rattle.std.proofs.Common.{◌≡◌, ℕ, suc, Bool, true, false, Option, Some, None, List, [], ◌∷◌, All, refl, sym, ◌∙◌, subst}
use Rattle.std.proofs.lemmas.Option.{same_Some}
use Rattle.std.proofs.lemmas.List.Elements.{All-head, All-tail}
use Rattle.fx_term.specs.declared.node.Arg.TheVariants.{Number}
use Rattle.fx_term.specs.declared.event.Event.TheVariants as event
use Rattle.fx_term.specs.Term.{Term, First}
use Rattle.fx_term.specs.Script.{ScriptView}
use Rattle.fx_model.specs.Row.{Counts, Label, Shows, Learns}
use Rattle.fx_model.specs.Step.{Progress, Runs, leaf_at}
use Rattle.fx_model.specs.Run.{first_counts, Leads, IsUnrequested}
use Rattle.fx_model.specs.Outside.{can_step}
use Rattle.fx_model.specs.Report.{FiberReportView, ReportView, fiber_in, trace_in, outcome_shown, is_requested_in, final_outside}
use Rattle.fx_model.specs.LawfulReport.{IsLearnt, IsSeenRightly, IsLawfulReport}
use Rattle.fx_model.proofs.ComputedSteps.{Answers, Next, next}
use Rattle.fx_model.proofs.NextSteps.{IsAnswered, LooksLeftFirst, step_is_next}
use Rattle.fx_spawn_laws.proofs.LearntOutcomes.{learnt_outcome}
use Rattle.fx_spawn_laws.proofs.Requests.{all_both}

abbrev room_by : Label → Bool
room_by (Shows (event.Refused q)) = false
room_by _ = true

abbrev front_by : Label → Option ℕ
front_by (Shows (event.Got q n)) = Some n
front_by _ = None

module _ (s : ScriptView) (r : ReportView) where
  -- what a step was answered: the outcomes that the report tells, what its label tells of a queue, and no request
  abbrev pub answers : (ℕ → Bool) → (ℕ → Option ℕ) → Answers
  answers room front = record { outcome = λ f. outcome_shown (trace_in r f); has_room = room; front = front; is_requested = false }

  -- the label learnt an outcome that the report tells
  abbrev pub IsToldRightly : Label → Type 0
  IsToldRightly (Learns f o e) = outcome_shown (trace_in r f) ≡ Some o
  IsToldRightly _ = Unit {0}

  -- the leaf waits for no first of two, or for two of which the left one has not ended
  abbrev pub LeftWaits : Option Term → Type 0
  LeftWaits (Some (First (Number f) b)) = outcome_shown (trace_in r f) ≡ None
  LeftWaits _ = Unit {0}

  -- a run that sees no request, from here to where the fiber cannot step
  pub record RunsToHalt (f : ℕ) (c : Counts) (p : Progress) (ls : List Label) : Type 0 where
    pub counts : Counts
    pub progress : Progress
    pub leads : Leads c p ls counts progress
    pub unable : can_step (final_outside s r) f counts progress ≡ false
    pub told : All IsToldRightly ls
    pub unseen : All IsUnrequested ls

  abbrev by_label : Label → Answers
  by_label l = answers (λ q. room_by l) (λ q. front_by l)

  answered : (l : Label) → IsToldRightly l → IsUnrequested l → IsAnswered (by_label l) l
  answered (Learns g o e) t u = t
  answered (Shows event.Seen) t u = absurd (u refl)
  answered (Shows (event.Put q n)) t u = refl
  answered (Shows (event.Got q n)) t u = refl
  answered (Shows (event.Refused q)) t u = refl
  answered (Shows (event.Empty q)) t u = refl
  answered _ t u = tt

  looks_left : (l : Label) (t : Option Term) → LeftWaits t → LooksLeftFirst (by_label l) l t
  looks_left (Learns g o (event.First (suc n))) (Some (First (Number h) k)) waits = waits
  looks_left _ _ waits = tt

  -- the run goes on by a step that is computed
  pub record GoesOn (f : ℕ) (c : Counts) (p : Progress) (ls : List Label) : Type 0 where
    pub room : ℕ → Bool
    pub front : ℕ → Option ℕ
    pub made : Next
    pub labels : List Label
    pub is : ls ≡ made.label ∷ labels
    pub next_is : next (answers room front) c p ≡ Some made
    pub rest : RunsToHalt f made.counts made.progress labels

  pub goes_on : (f : ℕ) (c : Counts) (p : Progress) (ls : List Label) → RunsToHalt f c p ls → can_step (final_outside s r) f c p ≡ true
      → LeftWaits (leaf_at p) → GoesOn f c p ls
  goes_on f c p [] h can left =
      absurd (let e : can_step (final_outside s r) f h.counts h.progress ≡ true = rw (h.leads.0, h.leads.1) can in cc)
  goes_on f c p (l ∷ ls) h can left =
      record {
        room = λ q. room_by l;
        front = λ q. front_by l;
        made = record { label = l; counts = h.leads.0; progress = h.leads.1 };
        labels = ls;
        is = refl;
        next_is =
            step_is_next (by_label l) h.leads.2 (answered l (All-head IsToldRightly l ls h.told) (All-head IsUnrequested l ls h.unseen))
            (looks_left l (leaf_at p) left) (λ look asked. absurd cc);
        rest = record {
          counts = h.counts;
          progress = h.progress;
          leads = h.leads.3;
          unable = h.unable;
          told = All-tail IsToldRightly l ls h.told;
          unseen = All-tail IsUnrequested l ls h.unseen;
        };
      }

  -- it goes on to what is computed whatever the queues are
  pub record GoesTo (f : ℕ) (n : Next) (ls : List Label) : Type 0 where
    pub labels : List Label
    pub is : ls ≡ n.label ∷ labels
    pub rest : RunsToHalt f n.counts n.progress labels

  pub goes_to : (f : ℕ) (c : Counts) (p : Progress) (ls : List Label) (n : Next) → RunsToHalt f c p ls → can_step (final_outside s r) f c p ≡ true
      → LeftWaits (leaf_at p) → ((room : ℕ → Bool) (front : ℕ → Option ℕ) → next (answers room front) c p ≡ Some n) → GoesTo f n ls
  goes_to f c p ls n h can left computed =
      let g = goes_on f c p ls h can left in
      let same : g.made ≡ n = same_Some _ _ (sym g.next_is ∙ computed g.room g.front) in
      subst (λ (m : Next). GoesTo f m ls) same (record { labels = g.labels; is = g.is; rest = g.rest })

  -- it stays where the fiber cannot step
  pub stays : (f : ℕ) (c : Counts) (p : Progress) (ls : List Label) → RunsToHalt f c p ls → can_step (final_outside s r) f c p ≡ false
      → ((room : ℕ → Bool) (front : ℕ → Option ℕ) → next (answers room front) c p ≡ None) → LeftWaits (leaf_at p) → ls ≡ []
  stays f c p [] h cannot none left = refl
  stays f c p (l ∷ ls) h cannot none left =
      absurd (let e = step_is_next (by_label l) h.leads.2 (answered l (All-head IsToldRightly l ls h.told) (All-head IsUnrequested l ls h.unseen))
      (looks_left l (leaf_at p) left) (λ look asked. absurd cc) in
      let none_here = none (λ q. room_by l) (λ q. front_by l) in cc)

module _ (s : ScriptView) (may : ℕ → Bool) (r : ReportView) (lawful : IsLawfulReport s may r) where
  learnt_told : (l : Label) → IsLearnt r l → IsToldRightly s r l
  learnt_told (Learns f o e) h = learnt_outcome s may r lawful f o h
  learnt_told _ h = tt

  unseen_where : (f : ℕ) → is_requested_in r f ≡ false → (l : Label) → IsSeenRightly r f l → IsUnrequested l
  unseen_where f none (Shows event.Seen) h e = cc
  unseen_where f none _ h e = cc

  -- the run of a fiber of the report that nobody requested
  pub runs_to_halt : (f : ℕ) (x : FiberReportView) → fiber_in r f ≡ Some x → is_requested_in r f ≡ false
      → RunsToHalt s r f (first_counts (lawful.runs.origin f)) (Runs (lawful.runs.origin f).term) (lawful.runs.labels f)
  runs_to_halt f x at none =
      let run = lawful.runs.run f x at in
      record {
        counts = lawful.runs.counts f;
        progress = lawful.runs.progress f;
        leads = run.run;
        unable = run.unable;
        told = all_both {P = IsLearnt r} {Q = IsLearnt r} {R = IsToldRightly s r} (λ l h h'. learnt_told l h) (lawful.runs.labels f)
            (lawful.learnt f x at) (lawful.learnt f x at);
        unseen = all_both {P = IsSeenRightly r f} {Q = IsSeenRightly r f} {R = IsUnrequested} (λ l h h'. unseen_where f none l h)
            (lawful.runs.labels f) (lawful.seen f x at) (lawful.seen f x at);
      }
