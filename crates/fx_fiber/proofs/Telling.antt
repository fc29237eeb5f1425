-- What was made and told is a step of the fiber, and keeps what its type says.
use Rattle.std.proofs.Common.{◌≡◌, ℕ, true, false, Option, List, [], ◌∷◌, ◌++◌, max, refl, ◌∙◌, ap, subst, append-nil}
use Rattle.fx_term.specs.declared.node.NodeId.{NodeId}
use Rattle.fx_term.specs.declared.node.Node.{Node}
use Rattle.fx_term.specs.declared.stamped.Stamped.{Stamped}
use Rattle.fx_term.specs.Stamped.{events_in, stamps_in}
use Rattle.fx_term.specs.declared.event.Event.TheVariants as event
use Rattle.fx_model.specs.Row.{Shows, Starts}
use Rattle.fx_model.specs.Step.{leaf_at, looks_first, has_ended}
use Rattle.fx_model.specs.Stamps.{one_more}
use Rattle.fx_model.specs.declared.source.Source.{Source}
use Rattle.fx_fiber.specs.declared.machine.Machine.{Machine}
use Rattle.fx_fiber.specs.declared.machine.made.Made.{Made}
use Rattle.fx_fiber.specs.declared.machine.made.Made.TheVariants as made
use Rattle.fx_fiber.specs.declared.stepped.Stepped.{Stepped}
use Rattle.fx_fiber.specs.declared.stepped.Stepped.TheVariants.{Went, Child}
use Rattle.fx_fiber.specs.declared.stepped.Stepped.TheVariants as stepped
use Rattle.fx_mask.specs.Closing.{Closing}
use Rattle.fx_frames.specs.declared.frame.Frame.{Frame}
use Rattle.fx_fiber.specs.declared.machine.focus.Focus.{Focus}
use Rattle.fx_fiber.specs.declared.machine.focus.Focus.TheVariants as focus
use Rattle.fx_fiber.specs.declared.machine.unwound.Unwound.{Unwound}
use Rattle.fx_fiber.specs.Machine.{progress_of, progress_at}
use Rattle.fx_fiber.specs.Made.{label_of}
use Rattle.fx_fiber.specs.StampedRun.{next_stamp, last_of, stamped_event, stamp_of_event, clock_after}
use Rattle.fx_fiber.specs.Places.{IsSame, IsGoing}
use Rattle.fx_fiber.specs.Makes.{Steps}
use Rattle.fx_fiber.specs.Advances.{Advances}
use Rattle.fx_fiber.specs.MakesStep.{Answers, StartsChild, Calls, IsRefused, value_offered, MakesStep, DoesStep}
use Rattle.fx_fiber.specs.Fiber.{FiberView, IsKept, IsUnchanged, fiber_at}
use Rattle.fx_fiber.specs.MakesStart.{MakesStart}
use Rattle.fx_fiber.specs.Telling.{IsMade, answer_to, TellsMade}
use Rattle.fx_fiber.specs.Theory.{Theory}
use Rattle.fx_model.proofs.Ends.{shows_end}
use Rattle.fx_fiber.proofs.Keeping.{kept_going, kept_ended, kept_same}
use Rattle.fx_fiber.proofs.StampedRuns.{unraised, next_is, events_more, stamps_more}
use Rattle.fx_fiber.proofs.Looks.{calls_of_asks, calls_of_end}

-- what is no start was made
pub is_made : (m : Made) → ((h : ℕ) (a b : NodeId) → m ≡ made.Starts h a b → ⊥) → IsMade m
is_made (made.Starts h a b) other = other h a b refl
is_made _ other = tt

pub going_at : (nodes : List Node) (ns : List ℕ) (fs : List Frame) (closed : List Closing) (left : Option Unwound) (here : Focus)
    → has_ended (progress_at nodes ns fs closed left here) ≡ false → IsGoing here
going_at nodes ns fs closed left (focus.Ended o) going = absurd (let no : true ≡ false = going in cc)
going_at nodes ns fs closed left _ going = tt

-- a fiber that has come no further is unchanged
pub same_is_unchanged : {P : Type 0} (nodes : List Node) (p p' : P) (trace trace' : List Stamped) (s s' : Machine) (source source' : Option Source)
    → IsSame nodes s s' → p' ≡ p → trace' ≡ trace → IsUnchanged nodes (fiber_at p trace s source) (fiber_at p' trace' s' source')
same_is_unchanged nodes p p' trace trace' s s' source source' same port t =
    record { port = port; trace = ap events_in t; stamps = ap stamps_in t; counts = same.counts; progress_is = same.progress }

-- and keeps what its type says
pub same_is_kept : {P S : Type 0} (theory : Theory P S) (p p' : P) (trace trace' : List Stamped) (clock clock' : ℕ) (s s' : Machine)
    → IsKept theory p trace clock s → IsSame theory.code s s' → p' ≡ p → trace' ≡ trace → clock' ≡ clock → IsKept theory p' trace' clock' s'
same_is_kept theory p p' trace trace' clock clock' s s' kept same port t stays =
    rw port (kept_same theory p trace trace' clock clock' s s' kept same t stays)

module _ {P S : Type 0} (theory : Theory P S) (p p' p'' : P) (sh sh' sh'' : S) (trace trace' : List Stamped) (clock raised clock' : ℕ) (s s' : Machine) where
  module _ (kept : IsKept theory p trace clock s) (going : has_ended (progress_of theory.code s) ≡ false) where
    keeps_on : (m : Made) → shows_end (label_of m) ≡ false → Advances theory clock s p sh m raised s' p' sh' → Steps theory.code s (label_of m) s'
        → p'' ≡ p' → trace' ≡ trace ++ stamped_event (one_more raised) (label_of m) → clock' ≡ clock_after (label_of m) raised
        → IsKept theory p'' trace' clock' s'
    keeps_on m on a step same t ticks = rw same (kept_going theory p p' sh sh' trace trace' clock raised clock' s s' kept m going a step on t ticks)

    -- so it keeps what the fiber's type says
    pub told_keeps : (m : Made) → IsMade m → Advances theory clock s p sh m raised s' p' sh' → TellsMade theory (one_more raised) m p' sh' p'' sh''
        → trace' ≡ trace ++ stamped_event (one_more raised) (label_of m) → clock' ≡ clock_after (label_of m) raised → IsKept theory p'' trace' clock' s'
    told_keeps (made.Waits w) is a told t ticks =
        rw (told.0, a.asks.1.1) (kept_same theory p trace trace' clock clock' s s' kept a.rule.same (t ∙ append-nil trace)
        (ticks ∙ unraised clock raised a.cause a.raises.raised (a.raises.none tt)))
    told_keeps made.Silent is a told t ticks = keeps_on made.Silent refl a a.rule.1 told.0 t ticks
    told_keeps made.Yielded is a told t ticks = keeps_on made.Yielded refl a a.rule.1 told.0 t ticks
    told_keeps (made.Learns g o e) is a told t ticks = keeps_on (made.Learns g o e) refl a a.rule told.0 t ticks
    told_keeps (made.Starts h x y) is a told t ticks = absurd is
    told_keeps (made.Shows (event.Ended o)) is a told t ticks =
        kept_ended theory p p' sh sh' trace trace' clock raised clock' s s' kept o p'' a told.facts_are told.agreed t ticks
    told_keeps (made.Shows e) is a told t ticks = keeps_on (made.Shows e) refl a a.rule told.0 t ticks

  -- and over a port of the same number and beginning
  pub told_same : (m : Made) → Advances theory clock s p sh m raised s' p' sh' → TellsMade theory (one_more raised) m p' sh' p'' sh''
      → ((theory.facts p'').number ≡ (theory.facts p).number) × ((theory.facts p'').beginning ≡ (theory.facts p).beginning)
  told_same (made.Shows (event.Ended o)) a told = rw (told.facts_are, a.facts_are) (refl, refl)
  told_same m a told = rw (told.0, a.facts_are) (refl, refl)

  -- the stamp of the event of such a step
  pub stamp_is : (cause : ℕ) → raised ≡ max clock cause → clock ≡ last_of (theory.facts p).beginning.stamp (stamps_in trace)
      → one_more raised ≡ next_stamp (last_of (theory.facts p).beginning.stamp (stamps_in trace)) cause
  stamp_is cause up clocked = ap one_more up ∙ ap (λ (n : ℕ). next_stamp n cause) clocked

  module _ (source source' : Option Source) (clocked : clock ≡ last_of (theory.facts p).beginning.stamp (stamps_in trace)) where
    unfoldable pub makes_on : (m : Made) (answer : Stepped P S) → shows_end (label_of m) ≡ false → Advances theory clock s p sh m raised s' p' sh'
        → Steps theory.code s (label_of m) s' → Answers theory.code (leaf_at (progress_of theory.code s)) (label_of m) answer → p'' ≡ p' → sh'' ≡ sh'
        → trace' ≡ trace ++ stamped_event (one_more raised) (label_of m)
        → MakesStep theory (fiber_at p trace s source) sh answer (fiber_at p'' trace' s' source') sh''
    makes_on m answer on a step answers same same_shared t = record {
      label = label_of m;
      step = step;
      trace = ap events_in t ∙ events_more trace (one_more raised) (label_of m);
      cause = a.cause;
      none = a.raises.none;
      stamps = ap stamps_in t ∙ stamps_more trace (one_more raised) (label_of m)
          ∙ ap (λ (n : ℕ). stamps_in trace ++ stamp_of_event n (label_of m)) (stamp_is a.cause a.raises.raised clocked);
      answers = answers;
      calls_are = subst (λ (n : ℕ). Calls theory (next_stamp n a.cause) a.cause (looks_first s.known (progress_of theory.code s))
          (leaf_at (progress_of theory.code s)) (label_of m) answer p sh p'' sh'') clocked
          (rw (same, same_shared) (calls_of_asks theory (next_stamp clock a.cause) a.cause _ _ m answer p p' sh sh' a.own on a.asks));
    }

    -- and is a step
    told_does : (m : Made) → IsMade m → Advances theory clock s p sh m raised s' p' sh' → TellsMade theory (one_more raised) m p' sh' p'' sh''
        → trace' ≡ trace ++ stamped_event (one_more raised) (label_of m)
        → DoesStep theory (fiber_at p trace s source) sh (answer_to m) (fiber_at p'' trace' s' source') sh''
    told_does (made.Waits w) is a told t = record {
      waits = a.rule.leaf;
      free = a.rule.free;
      looked = a.asks.0;
      refused = subst (λ (n : ℕ). IsRefused theory.calls n (value_offered (leaf_at (progress_of theory.code s))) w p sh)
          (ap (next_stamp clock) (a.raises.none tt) ∙ ap (λ (n : ℕ). next_stamp n 0) clocked) a.asks.1.0;
      unchanged = record {
        port = told.0 ∙ a.asks.1.1;
        trace = ap events_in (t ∙ append-nil trace);
        stamps = ap stamps_in (t ∙ append-nil trace);
        counts = a.rule.same.counts;
        progress_is = a.rule.same.progress;
      };
      shared_is = told.1 ∙ a.asks.1.2;
    }
    told_does made.Silent is a told t = makes_on made.Silent _ refl a a.rule.1 (rw a.rule.0 refl) told.0 told.1 t
    told_does made.Yielded is a told t = makes_on made.Yielded _ refl a a.rule.1 (rw a.rule.0 refl) told.0 told.1 t
    told_does (made.Learns g o e) is a told t = makes_on (made.Learns g o e) _ refl a a.rule refl told.0 told.1 t
    told_does (made.Starts h x y) is a told t = absurd is
    told_does (made.Shows (event.Ended o)) is a told t = record {
      label = Shows (event.Ended o);
      step = a.rule;
      trace = ap events_in t ∙ events_more trace (one_more raised) (Shows (event.Ended o));
      cause = a.cause;
      none = a.raises.none;
      stamps = ap stamps_in t ∙ stamps_more trace (one_more raised) (Shows (event.Ended o))
          ∙ ap (λ (n : ℕ). stamps_in trace ++ n ∷ []) (stamp_is a.cause a.raises.raised clocked);
      answers = refl;
      calls_are = subst (λ (n : ℕ). Calls theory (next_stamp n a.cause) a.cause (looks_first s.known (progress_of theory.code s))
          (leaf_at (progress_of theory.code s)) (Shows (event.Ended o)) stepped.Ended p sh p'' sh'') clocked
          (calls_of_end theory (next_stamp clock a.cause) a.cause _ _ _ o p p' p'' sh sh' sh'' a.asks
          (subst (λ (n : ℕ). theory.calls.finishes p' sh' o (one_more n) p'' sh'') a.raises.raised told.told));
    }
    told_does (made.Shows e) is a told t = makes_on (made.Shows e) _ refl a a.rule refl told.0 told.1 t

    -- the same of the machine and the answer that are left
    pub told_steps : (m : Made) (answer : Stepped P S) (t : Machine) → answer ≡ answer_to m → t ≡ s' → IsMade m
        → Advances theory clock s p sh m raised s' p' sh' → TellsMade theory (one_more raised) m p' sh' p'' sh''
        → trace' ≡ trace ++ stamped_event (one_more raised) (label_of m)
        → DoesStep theory (fiber_at p trace s source) sh answer (fiber_at p'' trace' t source') sh''
    told_steps m answer t e f is a told items = rw (e, f) (told_does m is a told items)

-- a start that was due and made its rule is a step
pub start_does : {P S : Type 0} (theory : Theory P S) (p p' p'' : P) (sh sh' sh'' : S) (trace trace' trace'' : List Stamped) (clock clock' : ℕ)
    (s s' s'' : Machine) (source source' : Option Source) (h : ℕ) (a b : NodeId) (child : FiberView P)
    → clock ≡ last_of (theory.facts p).beginning.stamp (stamps_in trace) → Advances theory clock s p sh (made.Starts h a b) clock' s' p' sh'
    → MakesStart theory clock' s' p' sh' trace' child s'' p'' sh'' trace'' → trace' ≡ trace
    → DoesStep theory (fiber_at p trace s source) sh (Child child) (fiber_at p'' trace'' s'' source') sh''
start_does theory p p' p'' sh sh' sh'' trace trace' trace'' clock clock' s s' s'' source source' h a b child clocked done started items =
    let own : one_more clock' ≡ next_stamp (last_of (theory.facts p).beginning.stamp (stamps_in trace)) 0 =
    ap one_more (unraised clock clock' done.cause done.raises.raised (done.raises.none tt) ∙ clocked) ∙ next_is _ _ refl in
    record {
      label = Starts s'.next started.origin;
      step = rw (done.rule.same.counts, done.rule.same.progress) at started.rule;
      trace = ap events_in started.traced ∙ events_more trace' (one_more clock') (Starts s'.next started.origin)
          ∙ ap (λ (ts : List Stamped). events_in ts ++ event.Start s'.next ∷ []) items;
      cause = 0;
      none = λ h. refl;
      stamps = ap stamps_in started.traced ∙ stamps_more trace' (one_more clock') (Starts s'.next started.origin)
          ∙ ap (λ (ts : List Stamped). stamps_in ts ++ one_more clock' ∷ []) items ∙ ap (λ (n : ℕ). stamps_in trace ++ n ∷ []) own;
      answers = started.first;
      calls_are = record {
        looked = done.asks.0;
        left_first = tt;
        told = subst (λ (n : ℕ). StartsChild theory n s'.next started.origin child.port p sh p'' sh'') own
            (rw (done.asks.1.0, done.asks.1.1) at started.told);
      };
    }
