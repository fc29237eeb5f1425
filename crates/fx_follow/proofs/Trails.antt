-- A trail that grows by one step at its end.
use Rattle.std.proofs.Common.{◌≡◌, ℕ, Bool, true, false, Option, Some, None, List, [], ◌∷◌, ◌++◌, length, refl, sym, ◌∙◌, ap, subst}
use Rattle.std.proofs.Common.{append-nil, append_assoc, inl, inr, ⊎_elim}
use Rattle.std.specs.Prelude.{option_and_then, slice_get}
use Rattle.std.proofs.lemmas.List.Elements.{All-nil, All-push, All-weaker}
use Rattle.fx_term.specs.declared.event.Event.{Event}
use Rattle.fx_term.specs.declared.event.Event.TheVariants as event
use Rattle.fx_term.specs.declared.node.Node.{Node}
use Rattle.fx_term.specs.declared.node.NodeId.{NodeId}
use Rattle.fx_term.specs.declared.outcome.Outcome.{Outcome}
use Rattle.fx_term.specs.Lists.{Among}
use Rattle.fx_term.specs.Term.{Term}
use Rattle.fx_term.proofs.ListLaws.{Among-append}
use Rattle.fx_model.specs.Origin.{Origin}
use Rattle.fx_model.specs.Row.{Counts, Label, Silent, Shows, Learns, Starts}
use Rattle.fx_model.specs.Run.{first_counts, events}
use Rattle.fx_model.specs.Step.{Progress, Runs, Step, leaf_at}
use Rattle.fx_model.specs.Waiting.{wait_at}
use Rattle.fx_model.specs.declared.source.Source.{Source}
use Rattle.fx_model.proofs.Runs.{events_append}
use Rattle.fx_fiber.specs.Fiber.{FiberView, clock, progress, IsAtFirst, IsUnchanged}
use Rattle.fx_fiber.specs.MakesStep.{Tells, StartsChild, MakesStep, DoesStep}
use Rattle.fx_fiber.specs.MakesStep as made
use Rattle.fx_fiber.specs.PortFacts.{Facts}
use Rattle.fx_fiber.specs.StampedRun.{next_stamp}
use Rattle.fx_fiber.specs.declared.stepped.Stepped.{Stepped}
use Rattle.fx_fiber.specs.declared.stepped.Stepped.TheVariants.{Went, Child, Waits, Gave, Ended}
use Rattle.fx_explore.specs.AnswerCalls.{outcome_told, answer_theory, after_label}
use Rattle.fx_explore.specs.declared.answers.Answers.{Answers}
use Rattle.fx_explore.proofs.AnsweredSteps.{noted_so}
use Rattle.fx_plain.specs.ToldRun.{shown_by, learned_by}
use Rattle.fx_plain.specs.ToldWay.{learned_of}
use Rattle.fx_follow.specs.Places.{IsPlaceAt, stand_of, told_of, KeepsTry}
use Rattle.fx_follow.specs.Trails.{last_node_after, IsStandAt, TellsStep, LeadsTelling, LearnsFrom, StartsOneOf, AreAtFirst, IsTrail}
use Rattle.fx_follow.specs.declared.stand.Place.{Place}
use Rattle.fx_follow.specs.declared.stand.Stand.{Stand}
use Rattle.fx_follow.proofs.LearnedSteps.{step_learns}

module _ (nodes : List Node) where
  -- steps of which something is told go on by one step
  leads_on : (c : Counts) (p : Progress) (first : Option NodeId) (ls : List Label) (told : List Stand) (d : Counts) (q : Progress) (last : Option NodeId)
      (l : Label) (here : List Stand) (e : Counts) (r : Progress) (next : Option NodeId) → LeadsTelling nodes c p first ls told d q last → Step d q l e r
      → TellsStep nodes q last l here next → LeadsTelling nodes c p first (ls ++ l ∷ []) (told ++ here) e r next
  leads_on c p first [] told d q last l here e r next h step tells = (
    e,
    r,
    next,
    here,
    [],
    rw (← h.1, ← h.2) step,
    rw (← h.2, ← h.3) tells,
    ap (λ (xs : List Stand). xs ++ here) h.0 ∙ sym (append-nil here),
    (refl, refl, refl, refl),
  )
  leads_on c p first (k ∷ ls) told d q last l here e r next h step tells = (
    h.0,
    h.1,
    h.2,
    h.3,
    h.4 ++ here,
    h.5,
    h.6,
    ap (λ (xs : List Stand). xs ++ here) h.7 ∙ append_assoc h.3 h.4 here,
    leads_on h.0 h.1 h.2 ls h.4 d q last l here e r next h.8 step tells,
  )

  among_more : (child : FiberView Facts) (old more : List (FiberView Facts)) → Among child old → Among child (old ++ more)
  among_more child [] more k = absurd k
  among_more child (x ∷ xs) more (inl e) = inl e
  among_more child (x ∷ xs) more (inr k) = inr (among_more child xs more k)

  among_last : (child : FiberView Facts) (old : List (FiberView Facts)) → Among child (old ++ child ∷ [])
  among_last child [] = inl refl
  among_last child (x ∷ xs) = inr (among_last child xs)

  -- those that were started stay where others are started
  starts_stay : (old more : List (FiberView Facts)) (l : Label) → StartsOneOf nodes old l → StartsOneOf nodes (old ++ more) l
  starts_stay old more (Starts g b) h = (h.0, among_more h.0 old more h.1, h.2)
  starts_stay old more Silent h = tt
  starts_stay old more (Shows e) h = tt
  starts_stay old more (Learns g o e) h = tt

  module _ (outcome : ℕ → Option Outcome) (b : Origin) where
    -- before its first step it came nowhere and started nobody
    pub of_first : (f : FiberView Facts) (last : Option NodeId) (stands : List Stand) (children : List (FiberView Facts)) → last ≡ None → stands ≡ []
        → children ≡ [] → IsAtFirst nodes b f → IsTrail nodes outcome b f last stands children
    of_first f last stands children no_node no_stands no_children first = record {
      labels = [];
      leads = (no_stands, first.counts, first.progress_is, no_node);
      trace = sym first.trace;
      learnt = All-nil (LearnsFrom outcome);
      starts = All-nil (StartsOneOf nodes children);
      begun = subst (AreAtFirst nodes) (sym no_children) (λ child none. absurd none);
    }

    -- a step is one more of its trail
    goes_on : (old new : FiberView Facts) (l : Label) (last next : Option NodeId) (stands here : List Stand) (children more : List (FiberView Facts))
        → Step old.counts (progress nodes old) l new.counts (progress nodes new) → new.trace ≡ old.trace ++ events (l ∷ [])
        → TellsStep nodes (progress nodes old) last l here next → LearnsFrom outcome l → StartsOneOf nodes (children ++ more) l
        → AreAtFirst nodes more → IsTrail nodes outcome b old last stands children
        → IsTrail nodes outcome b new next (stands ++ here) (children ++ more)
    goes_on old new l last next stands here children more step trace tells learns starts first trail = record {
      labels = trail.labels ++ l ∷ [];
      leads = leads_on (first_counts b) (Runs b.term) None trail.labels stands old.counts (progress nodes old) last l here new.counts (progress nodes new)
          next trail.leads step tells;
      trace = events_append trail.labels (l ∷ []) ∙ ap (λ (es : List Event). es ++ events (l ∷ [])) trail.trace ∙ sym trace;
      learnt = All-push (LearnsFrom outcome) trail.labels l trail.learnt learns;
      starts = All-push (StartsOneOf nodes (children ++ more)) trail.labels l
          (All-weaker (StartsOneOf nodes children) (StartsOneOf nodes (children ++ more)) (λ k h. starts_stay children more k h) trail.labels trail.starts)
          starts;
      begun = λ child among. ⊎_elim (trail.begun child) (first child) (Among-append children more child among);
    }

-- the fiber that an answer gives
abbrev pub started_by : Stepped Facts Answers → List (FiberView Facts)
started_by (Child child) = child ∷ []
started_by _ = []

-- what comes first after a list
after_all : (old more : List Event) → slice_get (old ++ more) (length old) ≡ slice_get more 0
after_all [] more = refl
after_all (x ∷ xs) more = after_all xs more

-- the event of a step is the next one of its trace
shown_next : (old : List Event) (l : Label) → slice_get (old ++ events (l ∷ [])) (length old) ≡ shown_by l
shown_next old Silent = after_all old []
shown_next old (Shows e) = after_all old (e ∷ [])
shown_next old (Learns g o e) = after_all old (e ∷ [])
shown_next old (Starts g b) = after_all old (event.Start g ∷ [])

-- a step notes no outcome
outcomes_stay : (l : Label) (a : Answers) → (after_label l a).outcomes ≡ a.outcomes
outcomes_stay (Shows (event.Request g)) a = refl
outcomes_stay (Shows (event.Put q n)) a = refl
outcomes_stay (Shows (event.Got q n)) a = refl
outcomes_stay (Shows (event.Ended o)) a = refl
outcomes_stay (Starts g b) a = refl
outcomes_stay _ a = refl

module _ (nodes : List Node) where
  -- what is told of a step that shows an event, by the place where its fiber stood before it
  stands_so : (p : Progress) (place : Place) (before : Option NodeId) (l : Label) (e : Event) → IsPlaceAt nodes p place → shown_by l ≡ Some e
      → learned_of (option_and_then wait_at (leaf_at p)) (shown_by l) ≡ learned_by l
      → IsStandAt nodes p before l (stand_of place (last_node_after before place.node) e)
  stands_so p place before l e at shown learns = record {
    node = at.node;
    last_node = refl;
    is_open = at.is_open;
    learned = ap (λ (w : Option Source). learned_of w (Some e)) at.waits ∙ ap (learned_of (option_and_then wait_at (leaf_at p))) (sym shown) ∙ learns;
  }

  -- and of any step
  tells_of : (p : Progress) (place : Place) (before : Option NodeId) (l : Label) → IsPlaceAt nodes p place
      → learned_of (option_and_then wait_at (leaf_at p)) (shown_by l) ≡ learned_by l
      → TellsStep nodes p before l (told_of place (last_node_after before place.node) (shown_by l)) (last_node_after before place.node)
  tells_of p place before Silent at learns = (refl, place.node, at.node, refl)
  tells_of p place before (Shows e) at learns =
      (stand_of place (last_node_after before place.node) e, refl, stands_so p place before (Shows e) e at refl learns, refl)
  tells_of p place before (Learns g o e) at learns =
      (stand_of place (last_node_after before place.node) e, refl, stands_so p place before (Learns g o e) e at refl learns, refl)
  tells_of p place before (Starts g b) at learns =
      (stand_of place (last_node_after before place.node) (event.Start g), refl, stands_so p place before (Starts g b) (event.Start g) at refl learns, refl)

  module _ (own cause : ℕ) (leaf : Option Term) (p p' : Facts) (a a' : Answers) where
    learns_so : (outcome : ℕ → Option Outcome) → ((g : ℕ) (o : Outcome) → outcome_told a g ≡ Some o → outcome g ≡ Some o) → (l : Label)
        (answer : Stepped Facts Answers) → Tells (answer_theory nodes) own cause leaf l answer p a p' a' → LearnsFrom outcome l
    learns_so outcome told (Learns g o e) answer h = told g o h.0
    learns_so outcome told Silent answer h = tt
    learns_so outcome told (Shows e) answer h = tt
    learns_so outcome told (Starts g b) answer h = tt

    starts_so : (children : List (FiberView Facts)) (l : Label) (answer : Stepped Facts Answers)
        → Tells (answer_theory nodes) own cause leaf l answer p a p' a' → made.Answers nodes leaf l answer
        → StartsOneOf nodes (children ++ started_by answer) l
    starts_so children (Starts g b) (Child child) h first =
        (child, among_last nodes child children, record { number = ap (λ (x : Facts). x.number) h.facts_are; first = first })
    starts_so children (Starts g b) Went h first = absurd h
    starts_so children (Starts g b) (Waits wait) h first = absurd h
    starts_so children (Starts g b) Gave h first = absurd h
    starts_so children (Starts g b) Ended h first = absurd h
    starts_so children Silent answer h first = tt
    starts_so children (Shows e) answer h first = tt
    starts_so children (Learns g o e) answer h first = tt

  silent_gives_none : {X : Type 0} (yields : Bool) (child : FiberView Facts) → made.AnswersSilently {P = Facts} {S = Answers} yields (Child child) → X
  silent_gives_none true child is = absurd cc
  silent_gives_none false child is = absurd cc

  -- the fiber that an answer gives is before its first step
  first_so : (leaf : Option Term) (l : Label) (answer : Stepped Facts Answers) → made.Answers nodes leaf l answer → AreAtFirst nodes (started_by answer)
  first_so leaf (Starts g b) (Child child) first f (inl is) = (b, subst (IsAtFirst nodes b) (sym is) first)
  first_so leaf (Starts g b) (Child child) first f (inr none) = absurd none
  first_so leaf Silent (Child child) first f among = silent_gives_none (made.is_yielding leaf) child first
  first_so leaf (Learns g o e) (Child child) first f among = absurd cc
  first_so leaf (Shows (event.Ended o)) (Child child) first f among = absurd cc
  first_so leaf (Shows e) (Child child) first f among = absurd cc
  first_so leaf l answer first f among = absurd among

  module _ (old new : FiberView Facts) (a a' : Answers) (answer : Stepped Facts Answers) (does : MakesStep (answer_theory nodes) old a answer new a') where
    -- a step by answers is one more of the trail of its fiber
    steps_on : (outcome : ℕ → Option Outcome) (b : Origin) (place : Place) (last last' : Option NodeId) (stands stands' : List Stand)
        (children children' : List (FiberView Facts)) → IsPlaceAt nodes (progress nodes old) place → last' ≡ last_node_after last place.node
        → stands' ≡ stands ++ told_of place last' (slice_get new.trace (length old.trace)) → children' ≡ children ++ started_by answer
        → ((g : ℕ) (o : Outcome) → outcome_told a g ≡ Some o → outcome g ≡ Some o)
        → IsTrail nodes outcome b old last stands children → IsTrail nodes outcome b new last' stands' children'
    steps_on outcome b place last last' stands stands' children children' here last_is stands_are children_are told trail =
        let own : ℕ = next_stamp (clock (answer_theory nodes) old) does.cause in
        let leaf : Option Term = leaf_at (progress nodes old) in
        let shown : slice_get new.trace (length old.trace) ≡ shown_by does.label = rw does.trace (shown_next old.trace does.label) in
        rw (stands_are, children_are, shown, last_is)
        (goes_on nodes outcome b old new does.label last (last_node_after last place.node) stands
        (told_of place (last_node_after last place.node) (shown_by does.label)) children (started_by answer) does.step does.trace
        (tells_of (progress nodes old) place last does.label here (step_learns does.step))
        (learns_so own does.cause leaf old.port new.port a a' outcome told does.label answer does.calls_are.told)
        (starts_so own does.cause leaf old.port new.port a a' children does.label answer does.calls_are.told does.answers)
        (first_so leaf does.label answer does.answers)
        trail)

    pub keeps_outcomes : a'.outcomes ≡ a.outcomes
    keeps_outcomes =
        ap (λ (x : Answers). x.outcomes)
        (noted_so nodes (next_stamp (clock (answer_theory nodes) old) does.cause) does.cause (leaf_at (progress nodes old)) old.port new.port a a' does.label
        answer does.calls_are.told)
        ∙ outcomes_stay does.label a

-- a fiber that waits has the trail that it had
module _ (nodes : List Node) (outcome : ℕ → Option Outcome) (b : Origin) where
  stays : (old new : FiberView Facts) (last : Option NodeId) (stands : List Stand) (children : List (FiberView Facts)) → IsUnchanged nodes old new
      → IsTrail nodes outcome b old last stands children → IsTrail nodes outcome b new last stands children
  stays old new last stands children unchanged trail = record {
    labels = trail.labels;
    leads = rw (unchanged.counts, unchanged.progress_is) trail.leads;
    trace = trail.trace ∙ sym unchanged.trace;
    learnt = trail.learnt;
    starts = trail.starts;
    begun = trail.begun;
  }

  -- what is kept of a try is its trail
  pub tries_on : (old new : FiberView Facts) (a a' : Answers) (answer : Stepped Facts Answers) (place : Place) (last last' : Option NodeId)
      (stands stands' : List Stand) (children children' : List (FiberView Facts)) → DoesStep (answer_theory nodes) old a answer new a'
      → IsPlaceAt nodes (progress nodes old) place
      → KeepsTry answer place (slice_get new.trace (length old.trace)) last stands last' stands' → children' ≡ children ++ started_by answer
      → ((g : ℕ) (o : Outcome) → outcome_told a g ≡ Some o → outcome g ≡ Some o)
      → IsTrail nodes outcome b old last stands children → IsTrail nodes outcome b new last' stands' children'
  tries_on old new a a' (Waits source) place last last' stands stands' children children' waits here kept children_are told trail =
      rw (kept.0, kept.1, children_are, append-nil children) (stays old new last stands children waits.unchanged trail)
  tries_on old new a a' Went place last last' stands stands' children children' does here kept children_are told trail =
      steps_on nodes old new a a' Went does outcome b place last last' stands stands' children children' here kept.0 kept.1 children_are told trail
  tries_on old new a a' (Child child) place last last' stands stands' children children' does here kept children_are told trail =
      steps_on nodes old new a a' (Child child) does outcome b place last last' stands stands' children children' here kept.0 kept.1 children_are told trail
  tries_on old new a a' Gave place last last' stands stands' children children' does here kept children_are told trail =
      steps_on nodes old new a a' Gave does outcome b place last last' stands stands' children children' here kept.0 kept.1 children_are told trail
  tries_on old new a a' Ended place last last' stands stands' children children' does here kept children_are told trail =
      steps_on nodes old new a a' Ended does outcome b place last last' stands stands' children children' here kept.0 kept.1 children_are told trail
