-- Steps of a burst one after the other, and what each of them keeps.
use Rattle.std.proofs.Common.{◌≡◌, ◌∙◌, ℕ, zero, suc, ◌+◌, ◌<◌, Bool, true, false, ◌&&◌, ◌||◌}
use Rattle.std.proofs.Common.{Option, Some, None, List, [], ◌∷◌, ◌++◌, refl, sym, ap, subst, append-nil}
use Rattle.std.proofs.Common.{inr, arith}
use Rattle.std.proofs.Math.Numerals.{add-one}
use Rattle.fx_term.specs.declared.event.Event.{Event}
use Rattle.fx_term.specs.declared.stamped.Stamped.{Stamped}
use Rattle.fx_term.specs.Stamped.{stamps_in}
use Rattle.fx_term.specs.declared.event.Event.TheVariants as event
use Rattle.fx_term.specs.Term.{Term}
use Rattle.fx_model.specs.Row.{Counts, Label, Silent, Shows, Row}
use Rattle.fx_model.specs.Row as row
use Rattle.fx_model.specs.Step.{Progress, Step, has_ended, leaf_at, looks_first}
use Rattle.fx_model.specs.Step as step
use Rattle.fx_model.specs.Stamps.{one_more}
use Rattle.fx_model.specs.declared.source.Source.{Source}
use Rattle.fx_fiber.specs.StampedRun.{next_stamp, last_of}
use Rattle.fx_fiber.specs.Calls.{PortCalls}
use Rattle.fx_fiber.specs.Theory.{Theory}
use Rattle.fx_fiber.specs.Fiber.{FiberView, fiber_at, IsUnchanged, IsKept}
use Rattle.fx_fiber.specs.Bursts.{IsAlone, GoesBy, GoesAlone, Bursts, HasLooked, ComesAhead, LooksNext, MakesNext, ShowsOnce, GlidesTo}
use Rattle.fx_fiber.specs.MakesStep.{MakesStep}
use Rattle.fx_fiber.specs.Telling.{TellsMade}
use Rattle.fx_fiber.specs.Machine.{progress_of, counts_of}
use Rattle.fx_fiber.specs.Made.{IsOfBracket}
use Rattle.fx_fiber.specs.declared.stepped.Stepped.TheVariants.{Went}
use Rattle.fx_fiber.specs.Places.{IsSame, IsInside, is_open_machine, must_cancel_machine}
use Rattle.fx_fiber.specs.Interruption.{Interrupts, ComesFirst, FindsRequest}
use Rattle.fx_fiber.specs.Makes.{MakesIfSilent, MakesIfShown}
use Rattle.fx_fiber.specs.MakesCall.{MakesCall}
use Rattle.fx_fiber.specs.Advances.{Advances, Asks}
use Rattle.fx_fiber.specs.declared.machine.made.Made.{Made}
use Rattle.fx_fiber.specs.declared.machine.made.Made.TheVariants as made
use Rattle.fx_fiber.specs.declared.machine.interruption.Interruption.TheVariants.{Request}
use Rattle.fx_fiber.specs.declared.fiber.ahead.Looked.{Looked}
use Rattle.fx_fiber.specs.declared.fiber.ahead.Looked.TheVariants.{InVain, NotYet}
use Rattle.fx_fiber.specs.declared.fiber.ahead.Ahead.TheVariants as ahead
use Rattle.fx_fiber.specs.declared.machine.Machine.{Machine}
use Rattle.fx_fiber.proofs.Advances.{same_here, is_free, interrupted_advances, rule_advances}
use Rattle.fx_fiber.proofs.Calls.{local_call}
use Rattle.fx_fiber.proofs.Telling.{same_is_unchanged, same_is_kept, told_keeps, makes_on}
use Rattle.fx_fiber.proofs.Keeping.{answer_went}
use Rattle.fx_model.proofs.Ends.{shows_end}

-- a step that a burst makes leaves a fiber known to be canceled, or not, as it was
abbrev pub KnowsAsBefore : Counts → Counts → Label → Type 0
KnowsAsBefore c d l = IsAlone l → d.known ≡ c.known

row_knows : {k : Bool} {c d : Counts} {l : Label} {t t' : Term} → Row k c t l d t' → KnowsAsBefore c d l
row_knows (row.inside f e g r) alone = row_knows r alone
row_knows _ alone = search

step_knows : {c d : Counts} {p q : Progress} {l : Label} → Step c p l d q → KnowsAsBefore c d l
step_knows (step.row m r) alone = row_knows r alone
step_knows (step.cleans r) alone = row_knows r alone
step_knows _ alone = search

-- what steps has not ended
pub step_is_going : {c d : Counts} {p q : Progress} {l : Label} → Step c p l d q → has_ended p ≡ false
step_is_going (step.cancelled e) = refl
step_is_going (step.seen e f) = refl
step_is_going (step.row m r) = refl
step_is_going (step.succeeds e) = refl
step_is_going (step.errs e) = refl
step_is_going step.finalizer = refl
step_is_going step.release = refl
step_is_going (step.cleans r) = refl
step_is_going step.finalizer_ends = refl
step_is_going step.release_ends = refl
step_is_going step.unwound = refl

module _ {P S : Type 0} (theory : Theory P S) where
  unchanged_then : (a b c : FiberView P) → IsUnchanged theory.code a b → IsUnchanged theory.code b c → IsUnchanged theory.code a c
  unchanged_then a b c h k =
      record {
        port = k.port ∙ h.port;
        trace = k.trace ∙ h.trace;
        stamps = k.stamps ∙ h.stamps;
        counts = k.counts ∙ h.counts;
        progress_is = k.progress_is ∙ h.progress_is;
      }

  -- a step that went on, and then contexts that are entered
  unfoldable pub went_then : (a : FiberView P) (sh : S) (b : FiberView P) (sh' : S) (c : FiberView P) → MakesStep theory a sh Went b sh'
      → IsUnchanged theory.code b c → MakesStep theory a sh Went c sh'
  went_then a sh b sh' c h k = record {
    label = h.label;
    step = rw (k.counts, k.progress_is) h.step;
    trace = k.trace ∙ h.trace;
    cause = h.cause;
    none = h.none;
    stamps = k.stamps ∙ h.stamps;
    answers = h.answers;
    calls_are = rw k.port h.calls_are;
  }

  -- the same of steps of a burst
  alone_then : (n : ℕ) (a : FiberView P) (sh : S) (b c : FiberView P) → GoesAlone theory n a sh b → IsUnchanged theory.code b c
      → GoesAlone theory n a sh c
  unfolding went_then
  alone_then zero a sh b c h k = unchanged_then a b c h k
  alone_then (suc n) a sh b c h k = (h.0, h.1, record { does = went_then h.0 sh b sh c h.2.does k; alone = h.2.alone })

  -- a fiber is known to be canceled, or not, as it was before such steps
  pub alone_knows : (n : ℕ) (a : FiberView P) (sh : S) (b : FiberView P) → GoesAlone theory n a sh b → b.counts.known ≡ a.counts.known
  alone_knows zero a sh b h = ap (λ (c : Counts). c.known) h.counts
  alone_knows (suc n) a sh b h = step_knows h.2.does.step h.2.alone ∙ alone_knows n a sh h.0 h.1

  -- a look that serves after such a step
  pub still_looked : (looked : Looked) (p : P) (sh : S) (m m' : Machine) (l : Label)
      → Step (counts_of m) (progress_of theory.code m) l (counts_of m') (progress_of theory.code m') → IsAlone l
      → HasLooked theory.calls looked m.known p sh → HasLooked theory.calls looked m'.known p sh
  still_looked InVain p sh m m' l made alone h = (step_knows made alone ∙ h.0, h.1)
  still_looked NotYet p sh m m' l made alone h = tt

  -- and where the fiber has come no further
  pub looked_here : (looked : Looked) (p : P) (sh : S) (m m' : Machine) → IsSame theory.code m m' → HasLooked theory.calls looked m.known p sh
      → HasLooked theory.calls looked m'.known p sh
  looked_here looked p sh m m' same h =
      subst (λ (known : Bool). HasLooked theory.calls looked known p sh) (sym (ap (λ (c : Counts). c.known) same.counts)) h

  -- a step that sees a request
  pub seen_goes : (p : P) (sh : S) (m m' : Machine) (p' : P) (sh' : S) (t t' : List Stamped) (k k' : ℕ) (source source' : Option Source)
      → k ≡ last_of (theory.facts p).beginning.stamp (stamps_in t) → Advances theory k m p sh (made.Shows event.Seen) k' m' p' sh'
      → t' ≡ t ++ record { event = event.Seen; stamp = one_more k' } ∷ []
      → GoesBy theory (Shows event.Seen) (fiber_at p t m source) sh (fiber_at p' t' m' source') sh'
  unfolding makes_on
  seen_goes p sh m m' p' sh' t t' k k' source source' clocked a told =
      record {
        does = makes_on theory p p' p' sh sh' sh' t t' k k' k' m m' source source' clocked (made.Shows event.Seen) Went refl a a.rule refl
            refl refl told;
        by = refl;
      }

  module _ (trace : List Stamped) (source : Option Source) where
    -- a rule of a bracket asks the port nothing
    pub asks_nothing : (own cause : ℕ) (e : Event) (p : P) (sh : S) (m : Machine) (p' : P) (sh' : S) → IsOfBracket e
        → Asks theory.calls own cause (looks_first m.known (progress_of theory.code m)) (leaf_at (progress_of theory.code m)) (made.Shows e) p sh p' sh'
        → (p' ≡ p) × (sh' ≡ sh)
    asks_nothing own cause (event.Acquired k) p sh m p' sh' of a = a.1
    asks_nothing own cause (event.Begin k) p sh m p' sh' of a = a.1
    asks_nothing own cause (event.End k) p sh m p' sh' of a = a.1
    asks_nothing own cause _ p sh m p' sh' of a = absurd of

    tells_of_bracket : (own : ℕ) (e : Event) (p : P) (sh : S) (p' : P) (sh' : S) → IsOfBracket e → (p' ≡ p) × (sh' ≡ sh)
        → TellsMade theory own (made.Shows e) p' sh' p sh
    tells_of_bracket own (event.Acquired k) p sh p' sh' of same = (sym same.0, sym same.1)
    tells_of_bracket own (event.Begin k) p sh p' sh' of same = (sym same.0, sym same.1)
    tells_of_bracket own (event.End k) p sh p' sh' of same = (sym same.0, sym same.1)
    tells_of_bracket own _ p sh p' sh' of same = absurd of

    no_end : (e : Event) → IsOfBracket e → shows_end (Shows e) ≡ false
    no_end (event.Acquired k) of = refl
    no_end (event.Begin k) of = refl
    no_end (event.End k) of = refl
    no_end _ of = absurd of

    abbrev To : ℕ → Machine → P → S → Machine → List Stamped → ℕ → Type 0
    To = GlidesTo theory trace source

    -- after one more silent rule
    pub one_more_rule : (n : ℕ) (s : Machine) (p : P) (sh : S) (m m' : Machine) (p' : P) (sh' : S) (t : List Stamped) (k : ℕ) → To n s p sh m t k
        → Advances theory k m p sh made.Silent k m' p' sh' → To (suc n) s p sh m' t k
    unfolding makes_on
    one_more_rule n s p sh m m' p' sh' t k to a = record {
      rules = (
        fiber_at p t m source,
        to.rules,
        record {
          does = makes_on theory p p' p sh sh' sh t t k k k m m' source source to.kept.clocked made.Silent Went refl a a.rule.1 (rw a.rule.0 refl)
              (sym a.asks.1.0) (sym a.asks.1.1) (sym (append-nil t));
          alone = tt;
        },
      );
      kept = told_keeps theory p p' p sh sh' sh t t k k k m m' to.kept (step_is_going a.rule.1) made.Silent tt a
          (sym a.asks.1.0, sym a.asks.1.1) (sym (append-nil t)) refl;
    }

    -- after one more rule of a bracket, which shows this
    pub one_more_shown : (n : ℕ) (s : Machine) (p : P) (sh : S) (m m' : Machine) (p' : P) (sh' : S) (t t' : List Stamped) (k k' : ℕ) (e : Event)
        → To n s p sh m t k → Advances theory k m p sh (made.Shows e) k m' p' sh' → IsOfBracket e
        → t' ≡ t ++ record { event = e; stamp = one_more k } ∷ [] → k' ≡ one_more k → To (suc n) s p sh m' t' k'
    unfolding makes_on
    one_more_shown n s p sh m m' p' sh' t t' k k' e to a of told ticks =
        let same = asks_nothing (next_stamp k a.cause) a.cause e p sh m p' sh' of a.asks in
        record {
          rules = (
            fiber_at p t m source,
            to.rules,
            record {
              does = makes_on theory p p' p sh sh' sh t t' k k k m m' source source to.kept.clocked (made.Shows e) Went (no_end e of) a a.rule
                  (answer_went P S theory.code (leaf_at (progress_of theory.code m)) e (no_end e of)) (sym same.0) (sym same.1) told;
              alone = of;
            },
          );
          kept = told_keeps theory p p' p sh sh' sh t t' k k k' m m' to.kept (step_is_going a.rule) (made.Shows e) tt a
              (tells_of_bracket (one_more k) e p sh p' sh' of same) told ticks;
        }

    -- the fiber stands as it stood
    pub no_further : (n : ℕ) (s : Machine) (p : P) (sh : S) (m m' : Machine) (t t' : List Stamped) (k : ℕ) → To n s p sh m t k
        → IsSame theory.code m m' → t' ≡ t → To n s p sh m' t' k
    no_further n s p sh m m' t t' k to same told = record {
      rules = alone_then n (fiber_at p trace s source) sh (fiber_at p t m source) (fiber_at p t' m' source) to.rules
          (same_is_unchanged theory.code p p t t' m m' source source same refl told);
      kept = same_is_kept theory p p t t' k k m m' to.kept same refl told refl;
    }

    -- a request is seen here
    pub sees : (n most : ℕ) (s : Machine) (p : P) (sh : S) (m m' : Machine) (p' : P) (sh' : S) (t t' : List Stamped) (k k' : ℕ) (source' : Option Source)
        → n < most → To n s p sh m t k → Advances theory k m p sh (made.Shows event.Seen) k' m' p' sh'
        → t' ≡ t ++ record { event = event.Seen; stamp = one_more k' } ∷ []
        → Bursts theory most (n + 1) (fiber_at p trace s source) sh (fiber_at p' t' m' source') sh'
    sees n most s p sh m m' p' sh' t t' k k' source' few to a told = record {
      few = omega arith;
      steps = inr (record {
        before = n;
        then_sees = add-one n;
        between = fiber_at p t m source;
        goes = to.rules;
        sees = seen_goes p sh m m' p' sh' t t' k k' source source' to.kept.clocked a told;
      });
    }

    pub seen_is_kept : (p : P) (sh : S) (m m' : Machine) (p' : P) (sh' : S) (t t' : List Stamped) (k k' k'' : ℕ) → IsKept theory p t k m
        → Advances theory k m p sh (made.Shows event.Seen) k' m' p' sh' → t' ≡ t ++ record { event = event.Seen; stamp = one_more k' } ∷ []
        → k'' ≡ one_more k' → IsKept theory p' t' k'' m'
    seen_is_kept p sh m m' p' sh' t t' k k' k'' kept a told ticks =
        told_keeps theory p p' p' sh sh' sh' t t' k k' k'' m m' kept (step_is_going a.rule) (made.Shows event.Seen) tt a (refl, refl) told ticks

-- nothing comes first after a look in vain
pub ahead_in_vain : {P S : Type 0} (calls : PortCalls P S) (opened known : Bool) (p : P) (sh : S) → HasLooked calls InVain known p sh
    → ComesAhead calls opened known ahead.Rule p sh
ahead_in_vain calls true known p sh h = (rw h.0 refl, h.1)
ahead_in_vain calls false known p sh h = (refl, tt)

-- or at a closed place
pub ahead_closed : {P S : Type 0} (calls : PortCalls P S) (opened known : Bool) (p : P) (sh : S) → opened ≡ false
    → ComesAhead calls opened known ahead.Rule p sh
ahead_closed calls true known p sh e = absurd (let no : true ≡ false = e in cc)
ahead_closed calls false known p sh e = (refl, tt)

-- one turn of a burst, once its contexts are entered, at a place other than `canceled`
module _ {P S : Type 0} (theory : Theory P S) (old s : Machine) (p : P) (sh : S) (same : IsSame theory.code old s) (inside : IsInside theory.code s false)
    (first : ComesAhead theory.calls (is_open_machine s) s.known ahead.Rule p sh) where
  -- nothing comes first
  none_first : (k : ℕ) → ComesFirst theory (is_open_machine s) (is_open_machine s && (s.known || false)) None k p sh k p sh
  none_first k = (first.0, first.1, refl, refl, refl)

  -- cancellation is not the one rule there
  pub ahead_is_free : must_cancel_machine theory.code s ≡ false
  ahead_is_free = is_free theory old s false 0 0 p p sh sh same inside (none_first 0)

  -- the rule of the place was made, with what it asks of the port
  pub passes : (k : ℕ) (m : Made) (k' : ℕ) (s' : Machine) (p' : P) (sh' : S) → MakesCall theory k s p sh m k' s' p' sh'
      → Advances theory k old p sh m k' s' p' sh'
  passes k m k' s' p' sh' made = rule_advances theory old s false k k p p sh sh same inside m k' s' p' sh' (none_first k) made

  -- a row was made
  pub glides : (s' : Machine) → MakesIfSilent theory.code s true s' → MakesNext theory old p sh s'
  glides s' is_made k =
      rule_advances theory old s false k k p p sh sh same inside made.Silent k s' p sh (none_first k)
      (local_call theory k k s p p sh sh made.Silent s' refl refl refl is_made)

  -- or one of a bracket, or none
  pub glides_shown : (shown : Option Event) (s' : Machine) → MakesIfShown theory.code s shown s' → ShowsOnce theory old p sh shown s'
  glides_shown None s' none_is_made = rw none_is_made same
  glides_shown (Some e) s' shown = (
    λ k. rule_advances theory old s false k k p p sh sh same inside (made.Shows e) k s' p sh (none_first k)
        (local_call theory k k s p p sh sh (made.Shows e) s' refl refl refl shown.0),
    shown.1,
  )

-- the look that comes next found a request, which was seen
module _ {P S : Type 0} (theory : Theory P S) (s : Machine) (k k' : ℕ) (p p' : P) (sh sh' : S) (next : LooksNext theory.code s)
    (found : FindsRequest theory k p sh k' p' sh') where
  -- so it comes before the rule of the place
  pub request_first : ComesFirst theory (is_open_machine s) (is_open_machine s && (s.known || false)) (Some Request) k p sh k' p' sh'
  request_first = (next.opened, rw next.opened (rw next.unknown refl), found)

  pub look_advances : (m : Made) (s' : Machine) → theory.facts p' ≡ theory.facts p → Interrupts theory.code s Request m s'
      → Advances theory k s p sh (made.Shows event.Seen) k' s' p' sh'
  look_advances m s' framed h =
      subst (λ (x : Made). Advances theory k s p sh x k' s' p' sh') h.shows
      (interrupted_advances theory s s false k k' p p' sh sh' (same_here theory.code s next.inside.sound) next.inside Request m s' request_first framed h)
