-- What is told of the picks that a run passes over names no queue but those that the script's term names.
use Rattle.std.proofs.Common.{ℕ, ◌+◌, Option, Some, None, List, [], ◌∷◌, length, refl, subst, sym}
use Rattle.std.specs.Prelude.{IfSome}
use Rattle.std.proofs.lemmas.List.{length-map}
use Rattle.fx_term.specs.QueuesNamed.{NamesQueuesBelow}
use Rattle.fx_term.specs.Script.{ScriptView}
use Rattle.fx_text.specs.declared.pick.Pick.{Pick}
use Rattle.fx_text.specs.Meaning.{Meaning}
use Rattle.fx_report.specs.Script.{script_of}
use Rattle.fx_report.specs.Text.{queue_names}
use Rattle.fx_plain.specs.declared.passed.Why.{Why}
use Rattle.fx_plain.specs.declared.passed.Why.TheVariants.{NoFiber, NotStarted, Ended, Waits}
use Rattle.fx_plain.specs.declared.passed.PassedOver.{PassedOver}
use Rattle.fx_plain.specs.WholeMachine.{WholeMachine, Move, opening}
use Rattle.fx_plain.specs.Chosen.{IsChosen}
use Rattle.fx_plain.specs.Chosen as chosen
use Rattle.fx_plain.specs.PassedPicks.{Skipped, passed_over, number_of, IsWhy, IsToldOf, TellsPassed, IsWhyAtQueueBelow}
use Rattle.fx_plain.proofs.NamedQueues.{AreNamed, step_named, run_named, named_source}

module _ (n : ℕ) (s : ScriptView) where
  -- of the first of these the machine names them alone
  abbrev FirstIsNamed : List Skipped → Type 0
  FirstIsNamed [] = Unit {0}
  FirstIsNamed (x ∷ xs) = AreNamed n x.machine

  first_named : {ps : List Pick} {m last : WholeMachine} {vs : List Move} (place : ℕ) (c : IsChosen s ps m vs last) → AreNamed n m
      → FirstIsNamed (passed_over place c)
  first_named place (chosen.step {f = f} {l = l} {m = m} {m' = m'} made rest) named =
      first_named (place + 1) rest (step_named n s m f l m' made.steps named)
  first_named place (chosen.no_step cannot rest) named = named
  first_named place (chosen.request below rest) named = first_named (place + 1) rest named
  first_named place (chosen.no_request past rest) named = named
  first_named place (chosen.least is made rest) named = tt
  first_named place (chosen.halts none) named = tt

  pub why_named : (m : WholeMachine) (f : ℕ) (why : Why) → AreNamed n m → IsWhy s m f why → IsWhyAtQueueBelow n why
  why_named m f (Waits source) named is = named_source n (m.fibers f) source (named f) is
  why_named m f NoFiber named is = tt
  why_named m f NotStarted named is = tt
  why_named m f Ended named is = tt

  told_named : (xs : List Skipped) (told : Option PassedOver) → FirstIsNamed xs → IsToldOf s xs told → IfSome told (λ t. IsWhyAtQueueBelow n t.first.why)
  told_named [] None named tells = tt
  told_named (x ∷ xs) (Some told) named tells = why_named x.machine (number_of x.pick) told.first.why named tells.why
  told_named [] (Some told) named tells = absurd tells
  told_named (x ∷ xs) None named tells = tt

  passed_named : (ps : List Pick) (told : Option PassedOver) → NamesQueuesBelow n s.term → TellsPassed s ps told
      → IfSome told (λ t. IsWhyAtQueueBelow n t.first.why)
  passed_named ps told term h =
      told_named (passed_over 1 h.chosen) told (first_named 1 h.chosen (run_named n s [] (opening s) term refl)) h.tells

-- those of its declarations
pub passed_at_names : (m : Meaning) (ps : List Pick) (told : Option PassedOver) → NamesQueuesBelow (length m.queues) m.term
    → TellsPassed (script_of m) ps told → IfSome told (λ t. IsWhyAtQueueBelow (length (queue_names m)) t.first.why)
passed_at_names m ps told term h =
    subst (λ (n : ℕ). IfSome told (λ t. IsWhyAtQueueBelow n t.first.why)) (sym (length-map m.queues (λ (q : List ℕ × ℕ). q.0)))
    (passed_named (length m.queues) (script_of m) ps told term h)
