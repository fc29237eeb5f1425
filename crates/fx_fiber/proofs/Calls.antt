-- What the rule of a place asks of the port: nothing, for an outcome, or in vain.
use Rattle.std.proofs.Common.{◌≡◌, ℕ, Option, Some, List, [], ◌++◌, max, refl, subst, append-nil}
use Rattle.fx_term.specs.declared.outcome.Outcome.{Outcome}
use Rattle.fx_term.specs.declared.event.Event.{Event}
use Rattle.fx_term.specs.declared.event.Event.TheVariants as event
use Rattle.fx_term.specs.Term.{Term}
use Rattle.fx_fiber.specs.Deed.{FoundEnded}
use Rattle.fx_fiber.specs.StampedDeed.{StampedDeed, numbered}
use Rattle.fx_fiber.specs.StampedRun.{next_stamp, IsUncaused}
use Rattle.fx_model.specs.Row.{Learns}
use Rattle.fx_model.specs.Stamps.{HasNoCause, one_more}
use Rattle.fx_model.specs.Step.{leaf_at}
use Rattle.fx_model.specs.declared.source.Source.{Source}
use Rattle.fx_fiber.specs.MakesStep.{value_offered, PeeksLeft, IsRefused}
use Rattle.fx_fiber.specs.Machine.{progress_of}
use Rattle.fx_fiber.specs.Sound.{IsSoundMachine}
use Rattle.fx_fiber.specs.Calls.{PortCalls}
use Rattle.fx_fiber.specs.PortFacts.{facts_with}
use Rattle.fx_fiber.specs.Theory.{Theory, HasDone}
use Rattle.fx_fiber.specs.declared.machine.made.Made.{Made}
use Rattle.fx_fiber.specs.declared.machine.made.Made.TheVariants as made
use Rattle.fx_fiber.specs.declared.machine.Machine.{Machine}
use Rattle.fx_fiber.specs.Made.{label_of, IsLocal, IsRuleMade, deeds_made}
use Rattle.fx_fiber.specs.Makes.{Steps, WaitsFor, MakesRule}
use Rattle.fx_fiber.specs.Makes.{Makes}
use Rattle.fx_fiber.specs.MakesCall.{Told, Raises, MakesCall}
use Rattle.fx_fiber.proofs.StampedRuns.{max_with_nothing, next_is}

pub local_is_rule : (m : Made) → IsLocal m → IsRuleMade m
local_is_rule (made.Waits w) h = absurd h
local_is_rule (made.Learns f o e) h = absurd h
local_is_rule (made.Starts x a b) h = absurd h
local_is_rule (made.Shows (event.Request f)) h = absurd h
local_is_rule (made.Shows (event.Put q n)) h = absurd h
local_is_rule (made.Shows (event.Got q n)) h = absurd h
local_is_rule (made.Shows (event.Refused q)) h = absurd h
local_is_rule (made.Shows (event.Empty q)) h = absurd h
local_is_rule _ h = h

-- it does nothing to the outside
no_deeds : (m : Made) → IsLocal m → deeds_made m ≡ []
no_deeds (made.Shows event.SelfRequest) h = refl
no_deeds (made.Shows (event.Acquired k)) h = refl
no_deeds (made.Shows (event.Begin k)) h = refl
no_deeds (made.Shows (event.End k)) h = refl
no_deeds (made.Shows (event.Ended o)) h = refl
no_deeds (made.Shows _) h = absurd h
no_deeds (made.Learns f o e) h = absurd h
no_deeds (made.Starts x a b) h = absurd h
no_deeds _ h = refl

pub framed_nothing : {P S : Type 0} (theory : Theory P S) (m : Made) (p p' : P) → IsLocal m → p' ≡ p
    → theory.facts p' ≡ facts_with (label_of m) (theory.facts p)
framed_nothing theory (made.Shows (event.Put q n)) p p' h e = absurd h
framed_nothing theory _ p p' h e = rw e refl

pub agreed_nothing : {P S : Type 0} (theory : Theory P S) (own cause : ℕ) (m : Made) (p p' : P) → IsLocal m → p' ≡ p
    → (deeds : List StampedDeed) → theory.agrees p deeds → theory.agrees p' (deeds ++ numbered own cause (deeds_made m))
agreed_nothing theory own cause m p p' h e deeds k = rw (no_deeds m h, append-nil, e) k

-- and has no cause
local_uncaused : (m : Made) → IsLocal m → IsUncaused (label_of m)
local_uncaused (made.Shows event.SelfRequest) h = tt
local_uncaused (made.Shows (event.Acquired k)) h = tt
local_uncaused (made.Shows (event.Begin k)) h = tt
local_uncaused (made.Shows (event.End k)) h = tt
local_uncaused (made.Shows (event.Ended o)) h = tt
local_uncaused (made.Shows _) h = absurd h
local_uncaused (made.Learns f o e) h = absurd h
local_uncaused (made.Starts x a b) h = tt
local_uncaused _ h = tt

-- a clock that stays is raised by nothing
pub raised_by_nothing : (m : Made) (k k' : ℕ) → k' ≡ k → Raises m 0 k k'
raised_by_nothing m k k' stays = rw stays (record { raised = max_with_nothing k; none = λ h. refl })

module _ {P S : Type 0} (calls : PortCalls P S) where
  pub told_nothing : (own cause : ℕ) (leaf : Option Term) (m : Made) (p p' : P) (s s' : S) → IsLocal m → p' ≡ p → s' ≡ s
      → Told calls own cause leaf m p s p' s'
  told_nothing own cause leaf (made.Waits w) p p' s s' h e f = absurd h
  told_nothing own cause leaf (made.Learns g o k) p p' s s' h e f = absurd h
  told_nothing own cause leaf (made.Starts x a b) p p' s s' h e f = absurd h
  told_nothing own cause leaf (made.Shows (event.Request g)) p p' s s' h e f = absurd h
  told_nothing own cause leaf (made.Shows (event.Put q n)) p p' s s' h e f = absurd h
  told_nothing own cause leaf (made.Shows (event.Got q n)) p p' s s' h e f = absurd h
  told_nothing own cause leaf (made.Shows (event.Refused q)) p p' s s' h e f = absurd h
  told_nothing own cause leaf (made.Shows (event.Empty q)) p p' s s' h e f = absurd h
  told_nothing own cause leaf _ p p' s s' h e f = (e, f)

module _ {P S : Type 0} (theory : Theory P S) where
  pub local_call : (k k' : ℕ) (s : Machine) (p p' : P) (sh sh' : S) (m : Made) (s' : Machine) → k' ≡ k → p' ≡ p → sh' ≡ sh → MakesRule theory.code s m s'
      → MakesCall theory k s p sh m k' s' p' sh'
  local_call k k' s p p' sh sh' m s' stays e f h = record {
    cause = 0;
    raises = raised_by_nothing m k k' stays;
    sound = h.sound;
    rule = h.rule;
    own = local_is_rule m h.is_local;
    told = told_nothing theory.calls (next_stamp k 0) 0 (leaf_at (progress_of theory.code s)) m p p' sh sh' h.is_local e f;
    agreed = agreed_nothing theory (next_stamp k 0) 0 m p p' h.is_local e;
    facts_are = framed_nothing theory m p p' h.is_local e;
  }

  module _ (k k' : ℕ) (s s' : Machine) (p p' : P) (sh sh' : S) where
    -- a fiber that waits was refused what it waits for
    pub waits_call : (own : ℕ) → own ≡ one_more k → (w : Source) → WaitsFor theory.code s s' w
        → IsRefused theory.calls own (value_offered (leaf_at (progress_of theory.code s))) w p sh
        → k' ≡ k → p' ≡ p → sh' ≡ sh → MakesCall theory k s p sh (made.Waits w) k' s' p' sh'
    waits_call own is w waits h stays e f = record {
      cause = 0;
      raises = raised_by_nothing (made.Waits w) k k' stays;
      sound = waits.same.sound;
      rule = waits;
      own = tt;
      told = (subst (λ (n : ℕ). IsRefused theory.calls n (value_offered (leaf_at (progress_of theory.code s))) w p sh) (next_is own k is) h, e, f);
      agreed = λ deeds d. rw (append-nil, e) d;
      facts_are = rw e refl;
    }

    -- one that learns an outcome was told it, and the stamp of that end
    pub learns_call : (f : ℕ) (o : Outcome) (e : Event) (cause : ℕ) → k' ≡ max k cause → (HasNoCause e → ⊥)
        → IsSoundMachine theory.code s' → Steps theory.code s (Learns f o e) s'
        → PeeksLeft theory.calls (Learns f o e) (leaf_at (progress_of theory.code s)) p sh → theory.calls.peeks p sh f (Some (o, cause)) p' sh'
        → HasDone theory (FoundEnded f o) cause p p' → theory.facts p' ≡ theory.facts p → MakesCall theory k s p sh (made.Learns f o e) k' s' p' sh'
    learns_call f o e cause raised caused sound step left told agreed framed = record {
      cause = cause;
      raises = record { raised = raised; none = λ h. absurd (caused h) };
      sound = sound;
      rule = step;
      own = tt;
      told = (left, told);
      agreed = agreed;
      facts_are = framed;
    }

    -- a rule without a cause asks with the stamp of its own event
    pub uncaused_call : (m : Made) (own : ℕ) → own ≡ one_more k → k' ≡ k → IsSoundMachine theory.code s' → Makes theory.code s m s' → IsRuleMade m
        → Told theory.calls own 0 (leaf_at (progress_of theory.code s)) m p sh p' sh'
        → ((deeds : List StampedDeed) → theory.agrees p deeds → theory.agrees p' (deeds ++ numbered own 0 (deeds_made m)))
        → theory.facts p' ≡ facts_with (label_of m) (theory.facts p) → MakesCall theory k s p sh m k' s' p' sh'
    uncaused_call m own is stays sound rule ruled told agreed framed = record {
      cause = 0;
      raises = raised_by_nothing m k k' stays;
      sound = sound;
      rule = rule;
      own = ruled;
      told = subst (λ (n : ℕ). Told theory.calls n 0 (leaf_at (progress_of theory.code s)) m p sh p' sh') (next_is own k is) told;
      agreed = subst (λ (n : ℕ). (deeds : List StampedDeed) → theory.agrees p deeds → theory.agrees p' (deeds ++ numbered n 0 (deeds_made m)))
          (next_is own k is) agreed;
      facts_are = framed;
    }
