-- What the steps of a turn come to.
use Rattle.std.proofs.Common.{◌≡◌, ◌∙◌, ◌<◌, ◌≤◌, ◌+◌, ℕ, zero, suc, Bool, true, false, List, Option, Some, refl, ap, sym, subst, inl, inr, arith}
use Rattle.std.specs.Prelude.{option_and_then}
use Rattle.std.proofs.Math.Numerals.{add-one}
use Rattle.fx_term.specs.declared.node.Node.{Node}
use Rattle.fx_term.specs.declared.event.Event.TheVariants as event
use Rattle.fx_term.specs.Term.{Term}
use Rattle.fx_model.specs.Row.{Label, Shows}
use Rattle.fx_model.specs.Step.{Progress, leaf_at, has_ended}
use Rattle.fx_model.specs.Waiting.{wait_at}
use Rattle.fx_model.specs.declared.source.Source.{Source}
use Rattle.fx_model.proofs.Ends.{ended_after, shows_end}
use Rattle.fx_fiber.specs.Fiber.{FiberView, progress}
use Rattle.fx_fiber.specs.MakesStep.{MakesStep, OnlyWaits, Answers}
use Rattle.fx_fiber.specs.Turns.{Goes, Registers, Waited, Refused, still}
use Rattle.fx_fiber.specs.Flows.{Flows, FlowsAndStops, FlowsAndWaits, FlowsShort}
use Rattle.fx_fiber.specs.Bursts.{GoesAlone, Bursts, BurstsShort}
use Rattle.fx_fiber.specs.PortFacts.{Facts}
use Rattle.fx_fiber.specs.Theory.{Theory}
use Rattle.fx_fiber.proofs.Bursts.{went_then}
use Rattle.fx_fiber.specs.declared.stepped.Stepped.TheVariants as stepped

-- a label of a step that went on shows no end
goes_on_with : (P S : Type 0) (nodes : List Node) (leaf : Option Term) (l : Label) → Answers {P = P} {S = S} nodes leaf l stepped.Went → shows_end l ≡ false
goes_on_with P S nodes leaf (Shows (event.Ended o)) a = absurd (let no : stepped.Went ≡ stepped.Ended = a in cc)
goes_on_with P S nodes leaf _ a = refl

module _ {P S : Type 0} (theory : Theory P S) where
  -- so many steps, each of which went on
  pub data GoesOn (first : FiberView P) (shared : S) : ℕ → FiberView P → S → Type 0 where
    stays : GoesOn first shared 0 first shared
    steps : {n : ℕ} {f g : FiberView P} {s t : S} → GoesOn first shared n f s → MakesStep theory f s stepped.Went g t → GoesOn first shared (suc n) g t

  -- a step that went on has not ended its fiber
  goes_on : (f : FiberView P) (s : S) (g : FiberView P) (t : S) → MakesStep theory f s stepped.Went g t
      → has_ended (progress theory.code g) ≡ false
  goes_on f s g t made = ended_after made.step ∙ goes_on_with P S theory.code _ made.label made.answers

  -- a fiber that waits has not ended
  still_waits : (f : FiberView P) (s : S) (wait : Source) (g : FiberView P) (t : S) → OnlyWaits theory f s wait g t → has_ended (progress theory.code f) ≡ false
      → has_ended (progress theory.code g) ≡ false
  still_waits f s wait g t w on = rw w.unchanged.progress_is on

  -- so does a fiber that goes on
  on_is_going : {k : ℕ} {f g : FiberView P} {s t : S} → GoesOn f s k g t → has_ended (progress theory.code f) ≡ false
      → has_ended (progress theory.code g) ≡ false
  on_is_going GoesOn.stays on = on
  on_is_going (GoesOn.steps {n = n} {f = h} {g = g} {s = s} {t = t} more made) on = goes_on h s g t made

  -- the steps of a flow
  pub flows_on : {f : FiberView P} {s : S} {k : ℕ} {g : FiberView P} {t : S} → Flows theory f s k g t → GoesOn f s k g t
  flows_on Flows.begins = GoesOn.stays
  flows_on (Flows.alone more once) = GoesOn.steps (flows_on more) once.does
  flows_on (Flows.passes more once on) = GoesOn.steps (flows_on more) once.does

  pub stops_on : {f : FiberView P} {s : S} {k : ℕ} {g : FiberView P} {t : S} → FlowsAndStops theory f s k g t → GoesOn f s k g t
  stops_on (FlowsAndStops.goes_on flows) = flows_on flows
  stops_on (FlowsAndStops.stops flows once) = GoesOn.steps (flows_on flows) once

  -- after a step that went on, so many of a burst
  alone_on : (f g : FiberView P) (s t : S) → MakesStep theory f s stepped.Went g t → (k m : ℕ) → m ≡ suc k → (h : FiberView P)
      → GoesAlone theory k g t h → GoesOn f s m h t
  alone_on f g s t made zero m e h same = rw e (GoesOn.steps GoesOn.stays (went_then theory f s g t h made same))
  alone_on f g s t made (suc k) m e h a = rw e (GoesOn.steps (alone_on f g s t made k _ refl a.0 a.1) a.2.does)

  -- and the whole burst
  pub burst_on : (f g : FiberView P) (s t : S) → MakesStep theory f s stepped.Went g t → (most k : ℕ) (h : FiberView P) (u : S)
      → Bursts theory most k g t h u → GoesOn f s (k + 1) h u
  burst_on f g s t made most k h u burst = elim burst.steps [
    | inl alone ↦ rw alone.1 (alone_on f g s t made k _ (add-one k) h alone.0)
    | inr last ↦
        let sees : k ≡ suc last.before = last.then_sees in
        let all : k + 1 ≡ suc (suc last.before) = omega arith in
        rw all (GoesOn.steps (alone_on f g s t made last.before _ refl last.between last.goes) last.sees.does)
  ]

  same_wait : (x y : Source) → Some x ≡ Some y → x ≡ y
  same_wait x y e = cc

  -- what the fiber waits for after a flow is what stands there
  pub waits_here : (k : ℕ) (f : FiberView P) (s : S) (g : FiberView P) (t : S) (w : FlowsAndWaits theory k f s g t)
      → option_and_then wait_at (leaf_at (progress theory.code g)) ≡ Some w.wait
  waits_here k f s g t w = ap (λ (p : Progress). option_and_then wait_at (leaf_at p)) w.waits.unchanged.progress_is ∙ w.waits.waits

  module _ (first : FiberView P) (shared : S) where
    -- with the steps before
    goes_with : (n : ℕ) (b : Bool) (f : FiberView P) (s : S) → Goes theory first shared n b f s → {k : ℕ} {g : FiberView P} {t : S}
        → GoesOn f s k g t → (m : ℕ) → m ≡ k + n → Goes theory first shared m (still b k) g t
    goes_with n b f s before GoesOn.stays m e = let last : m ≡ n = omega arith in rw last before
    goes_with n b f s before (GoesOn.steps {n = k} more made) m e =
        let last : m ≡ suc (k + n) = omega arith in rw last (Goes.went (goes_with n b f s before more _ refl) made)

    went_with : (n : ℕ) (b : Bool) (f : FiberView P) (s : S) → Goes theory first shared n b f s → (k : ℕ) {g : FiberView P} {t : S}
        → GoesOn f s (k + 1) g t → (m : ℕ) → m ≡ suc (k + n) → Goes theory first shared m false g t
    went_with n b f s before k {g} {t} more m e =
        let last : k + 1 ≡ suc k = add-one k in
        let all : m ≡ suc k + n = omega arith in
        goes_with n b f s before (subst (λ (j : ℕ). GoesOn f s j g t) last more) m all

    -- so many steps after the first place the turn goes on here: the fiber has not ended, and it is the one that it was
    pub record Reached (n : ℕ) (registered : Bool) (f : FiberView P) (s : S) : Type 0 where
      pub goes : Goes theory first shared n registered f s
      pub going : has_ended (progress theory.code f) ≡ false
      pub number_is : (theory.facts f.port).number ≡ (theory.facts first.port).number
      pub beginning_is : (theory.facts f.port).beginning ≡ (theory.facts first.port).beginning

    -- the turn goes on here after so many steps that went on
    pub on_from : (n : ℕ) (b : Bool) (f g : FiberView P) (s t : S) → Reached n b f s → (k : ℕ) → GoesOn f s k g t
        → (theory.facts g.port).number ≡ (theory.facts f.port).number → (theory.facts g.port).beginning ≡ (theory.facts f.port).beginning
        → Reached (n + k) (still b k) g t
    on_from n b f g s t r k on same begun = record {
      goes = goes_with n b f s r.goes on _ (omega arith);
      going = on_is_going on r.going;
      number_is = same ∙ r.number_is;
      beginning_is = begun ∙ r.beginning_is;
    }

    -- after a step that went on and the burst after it
    pub one_more : (n : ℕ) (b : Bool) (f g : FiberView P) (s t : S) → Reached n b f s → MakesStep theory f s stepped.Went g t
        → (most k : ℕ) (h : FiberView P) (u : S) → Bursts theory most k g t h u
        → (theory.facts h.port).number ≡ (theory.facts f.port).number → (theory.facts h.port).beginning ≡ (theory.facts f.port).beginning
        → Reached (n + (k + 1)) false h u
    one_more n b f g s t r made most k h u burst same begun = record {
      goes = went_with n b f s r.goes k (burst_on f g s t made most k h u burst) _ (omega arith);
      going = on_is_going (burst_on f g s t made most k h u burst) r.going;
      number_is = same ∙ r.number_is;
      beginning_is = begun ∙ r.beginning_is;
    }

    -- memory is refused in that burst
    pub refused_in_burst : (n : ℕ) (b : Bool) (f g : FiberView P) (s t : S) → n < 64 → Reached n b f s → MakesStep theory f s stepped.Went g t
        → (most : ℕ) (h : FiberView P) (u : S) → n + most < 64 → BurstsShort theory most g t h u → Refused theory first shared h u
    refused_in_burst n b f g s t few r made most h u within short =
        let less = short.few in
        record {
          steps = suc short.n + n;
          few = omega arith;
          was = false;
          before = h;
          goes = goes_with n b f s r.goes (rw short.shared_is (alone_on f g s t made short.n _ refl h short.goes)) _ refl;
          unchanged = record { port = refl; trace = refl; stamps = refl; counts = refl; progress_is = refl };
        }

    -- or in a flow
    pub refused_in_flow : (n : ℕ) (b : Bool) (f g : FiberView P) (s t : S) → Reached n b f s → (most : ℕ) → n + most ≤ 64
        → FlowsShort theory most f s g t → Refused theory first shared g t
    refused_in_flow n b f g s t r most within short =
        let less = short.few in
        record {
          steps = short.n + n;
          few = omega arith;
          was = still b short.n;
          before = g;
          goes = goes_with n b f s r.goes (flows_on short.goes) _ refl;
          unchanged = record { port = refl; trace = refl; stamps = refl; counts = refl; progress_is = refl };
        }

    -- after so many steps the fiber waits here, and is yet to be registered
    pub record Waiting (n : ℕ) (registered : Bool) (wait : Source) (g : FiberView P) (t : S) : Type 0 where
      pub few : n < 64
      pub before : FiberView P
      pub found : S
      pub reached : Reached n registered before found
      pub waits : OnlyWaits theory before found wait g t
      pub source_is : registered ≡ true → g.source ≡ before.source
      pub number_is : (theory.facts g.port).number ≡ (theory.facts first.port).number
      pub beginning_is : (theory.facts g.port).beginning ≡ (theory.facts first.port).beginning

    -- it made some of them, and so it is not registered
    pub went_from : (n : ℕ) (b : Bool) (f g : FiberView P) (s t : S) → Reached n b f s → (k : ℕ) → 0 < k → GoesOn f s k g t
        → (theory.facts g.port).number ≡ (theory.facts f.port).number → (theory.facts g.port).beginning ≡ (theory.facts f.port).beginning
        → Reached (n + k) false g t
    went_from n b f g s t r zero some on same begun = absurd (omega arith)
    went_from n b f g s t r (suc k) some on same begun = on_from n b f g s t r (suc k) on same begun

    -- a step found that the fiber waits
    pub one_wait : (n : ℕ) (b : Bool) (f g : FiberView P) (s t : S) (wait : Source) → n < 64 → Reached n b f s → OnlyWaits theory f s wait g t
        → g.source ≡ f.source
        → (theory.facts g.port).number ≡ (theory.facts f.port).number → (theory.facts g.port).beginning ≡ (theory.facts f.port).beginning
        → Waiting n b wait g t
    one_wait n b f g s t wait few r w source same begun = record {
      few = few;
      before = f;
      found = s;
      reached = r;
      waits = w;
      source_is = λ e. source;
      number_is = same ∙ r.number_is;
      beginning_is = begun ∙ r.beginning_is;
    }

    -- a flow did, after so many steps: the fiber can have been registered before only where there was none
    source_before : (b : Bool) {f : FiberView P} {s : S} {k : ℕ} {h : FiberView P} {u : S} → GoesOn f s k h u → (source : Option Source)
        → source ≡ f.source → still b k ≡ true → source ≡ h.source
    source_before b GoesOn.stays source e registered = e
    source_before b (GoesOn.steps more made) source e registered = absurd (let no : false ≡ true = registered in cc)

    pub flow_waits : (n : ℕ) (b : Bool) (f g : FiberView P) (s t : S) → Reached n b f s → (k : ℕ) → n + k < 64 → FlowsAndWaits theory k f s g t
        → g.source ≡ f.source
        → (theory.facts g.port).number ≡ (theory.facts f.port).number → (theory.facts g.port).beginning ≡ (theory.facts f.port).beginning
        → (wait : Source) → option_and_then wait_at (leaf_at (progress theory.code g)) ≡ Some wait
        → Waiting (n + k) (still b k) wait g t
    flow_waits n b f g s t r k few w source same begun wait e =
        let facts : theory.facts g.port ≡ theory.facts w.between.port = ap theory.facts w.waits.unchanged.port in
        record {
          few = few;
          before = w.between;
          found = w.found;
          reached = on_from n b f w.between s w.found r k (flows_on w.goes) (sym (ap (λ (x : Facts). x.number) facts) ∙ same)
              (sym (ap (λ (x : Facts). x.beginning) facts) ∙ begun);
          waits = subst (λ (x : Source). OnlyWaits theory w.between w.found x g t) (same_wait w.wait wait (sym (waits_here k f s g t w) ∙ e)) w.waits;
          source_is = source_before b (flows_on w.goes) g.source source;
          number_is = same ∙ r.number_is;
          beginning_is = begun ∙ r.beginning_is;
        }

    -- the fiber is registered, for the first time since it went on
    pub registers : (n : ℕ) (b : Bool) (wait : Source) (g h : FiberView P) (t u : S) → b ≡ false → Waiting n b wait g t → Registers theory g t wait h u
        → (theory.facts h.port).number ≡ (theory.facts g.port).number → (theory.facts h.port).beginning ≡ (theory.facts g.port).beginning
        → Reached (n + 1) true h u
    registers n b wait g h t u first_time w reg same begun =
        rw add-one
        (record {
          goes = Goes.waited (subst (λ (was : Bool). Goes theory first shared n was w.before w.found) first_time w.reached.goes) w.waits reg;
          going = ap (λ (v : FiberView P). has_ended (progress theory.code v)) reg.same
              ∙ still_waits w.before w.found wait g t w.waits w.reached.going;
          number_is = same ∙ w.number_is;
          beginning_is = begun ∙ w.beginning_is;
        })

    -- a fiber that waits again after it was registered is registered for what it waits for
    registered_for : {n : ℕ} {b : Bool} {f : FiberView P} {s : S} → Goes theory first shared n b f s → b ≡ true
        → (wait : Source) (g : FiberView P) (t : S) → OnlyWaits theory f s wait g t → f.source ≡ Some wait
    registered_for Goes.begins e wait g t again = absurd (let no : false ≡ true = e in cc)
    registered_for (Goes.went r m) e wait g t again = absurd (let no : false ≡ true = e in cc)
    registered_for (Goes.waited r w k) e wait g t again =
        let same = ap (λ (v : FiberView P). option_and_then wait_at (leaf_at (progress theory.code v))) k.same in
        let stood = ap (λ (p : Progress). option_and_then wait_at (leaf_at p)) w.unchanged.progress_is in
        ap (λ (v : FiberView P). v.source) k.same ∙ sym (same ∙ stood ∙ w.waits) ∙ again.waits

    -- the fiber that waited and was registered, and waits again
    pub waits_on : (n : ℕ) (b : Bool) (wait : Source) (g : FiberView P) (t : S) → b ≡ true → Waiting n b wait g t → Waited theory first shared g t
    waits_on n b wait g t again w = record {
      steps = n;
      few = w.few;
      before = w.before;
      between = w.found;
      goes = subst (λ (was : Bool). Goes theory first shared n was w.before w.found) again w.reached.goes;
      wait = wait;
      last = w.waits;
      source = w.source_is again ∙ registered_for w.reached.goes again wait g t w.waits;
    }

    -- as many steps as a turn has
    pub all_steps : (n : ℕ) (b : Bool) (f : FiberView P) (s : S) → 64 ≤ n → n ≤ 64 → Reached n b f s
        → Goes theory first shared 64 b f s
    all_steps n b f s most least r =
        let e : n ≡ 64 = omega arith in subst (λ (k : ℕ). Goes theory first shared k b f s) e r.goes
