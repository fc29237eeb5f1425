-- The fibers that a report has as blocked, and what they wait for.
use Rattle.std.proofs.Common.{◌≡◌, ℕ, Bool, Option, Some, option_map, List, [], ◌∷◌, ◌++◌, map, All, refl, sym, ap}
use Rattle.std.specs.Prelude.{not, option_and_then}
use Rattle.std.specs.List.{filter, cons_option}
use Rattle.std.proofs.lemmas.List.Elements.{All-nil, All-cons, All-head, All-tail}
use Rattle.std.proofs.lemmas.Option.{none-some, same_Some}
use Rattle.fx_term.specs.declared.node.Arg.TheVariants.{Number}
use Rattle.fx_term.specs.QueuesNamed.{NamesQueuesBelow}
use Rattle.fx_term.specs.Term.{Term, Let, Handle, OnCancel, Bracket, BracketCase, Masked, Opened, InUse, InUseCase, InRelease, Never, Offer, Take, Join}
use Rattle.fx_term.specs.Term.{Await, First}
use Rattle.fx_model.specs.Path.{leaf}
use Rattle.fx_model.specs.Step.{Progress, Runs, Unwinds, CleansUp, HasEnded, leaf_at}
use Rattle.fx_model.specs.Waiting.{wait_at}
use Rattle.fx_model.specs.declared.source.Source.{Source}
use Rattle.fx_model.specs.Report.{FiberReportView}
use Rattle.fx_model.proofs.QueueNames.{ProgressNamesBelow}
use Rattle.fx_model.proofs.BlockedFibers.{HasEndedOrWaits, ends, waits_for}
use Rattle.fx_report.specs.declared.wait.Wait.{Wait}
use Rattle.fx_report.specs.declared.blocked.Blocked.{Blocked}
use Rattle.fx_report.specs.Waits.{IsAtQueueBelow, waits_in}

abbrev is_blocked : FiberReportView → Bool
is_blocked x = not x.has_ended

abbrev pub blocked_of : List FiberReportView → List ℕ
blocked_of xs = map (λ (x : FiberReportView). x.id) (filter is_blocked xs)

abbrev pub fibers_of : List Wait → List ℕ
fibers_of waits = map (λ (w : Wait). w.fiber) waits

abbrev pub wait_from : ℕ → Source → Wait
wait_from f w = record { fiber = f; source = w }

-- a fiber more
pub one_blocked : (f : ℕ) (x : FiberReportView) (source : Option Source) (waits : List Wait) (xs : List FiberReportView) → x.id ≡ f
    → HasEndedOrWaits source x.has_ended → fibers_of waits ≡ blocked_of xs
    → fibers_of (cons_option (option_map (wait_from f) source) waits) ≡ blocked_of (x ∷ xs)
one_blocked f x source waits xs id (ends none ended) e = rw (none, ended) e
one_blocked f x source waits xs id (waits_for w some goes) e = rw (some, goes, id) (ap (λ (fs : List ℕ). f ∷ fs) e)

-- those who wait, with one more
pub waits_append : (blocked : List Blocked) (b : Blocked) → waits_in (blocked ++ b ∷ []) ≡ waits_in blocked ++ b.wait ∷ []
waits_append [] b = refl
waits_append (x ∷ blocked) b = ap (λ (ws : List Wait). x.wait ∷ ws) (waits_append blocked b)

-- what is said of all waits is said of those who wait
pub each_wait : (Holds : Wait → Type 0) (blocked : List Blocked) → All Holds (waits_in blocked) → All (λ (b : Blocked). Holds b.wait) blocked
each_wait Holds [] h = All-nil (λ (b : Blocked). Holds b.wait)
each_wait Holds (b ∷ blocked) h =
    All-cons (λ (b : Blocked). Holds b.wait) b blocked (All-head Holds b.wait (waits_in blocked) h)
    (each_wait Holds blocked (All-tail Holds b.wait (waits_in blocked) h))

-- what a fiber waits for is at no queue but those that its term names
module _ (n : ℕ) where
  -- the leaf of a term
  leaf_names : (t : Term) → NamesQueuesBelow n t → NamesQueuesBelow n (leaf t)
  leaf_names (Let x a b) h = leaf_names a h.0
  leaf_names (Handle a x b) h = leaf_names a h.0
  leaf_names (OnCancel a f) h = leaf_names a h.0
  leaf_names (Bracket x a u r) h = leaf_names a h.0
  leaf_names (BracketCase x a u y s z e d) h = leaf_names a h.0
  leaf_names (Masked r a) h = leaf_names a h
  leaf_names (Opened r a) h = leaf_names a h
  leaf_names (InUse k a r) h = leaf_names a h.0
  leaf_names (InUseCase k a y s z e d) h = leaf_names a h.0
  leaf_names (InRelease k a v) h = leaf_names a h
  leaf_names t h = h

  -- what it waits for
  wait_named : (t : Term) (w : Source) → NamesQueuesBelow n t → wait_at t ≡ Some w → IsAtQueueBelow n w
  wait_named Never w h e = rw (sym (same_Some _ w e)) tt
  wait_named (Join (Number f) x a d b c) w h e = rw (sym (same_Some _ w e)) tt
  wait_named (Await f) w h e = rw (sym (same_Some _ w e)) tt
  wait_named (First (Number f) (Number g)) w h e = rw (sym (same_Some _ w e)) tt
  wait_named (Offer q v) w h e = rw (sym (same_Some _ w e)) h
  wait_named (Take q) w h e = rw (sym (same_Some _ w e)) h
  wait_named _ w h e = absurd cc

  pub source_named : (p : Progress) (w : Source) → ProgressNamesBelow n p → option_and_then wait_at (leaf_at p) ≡ Some w → IsAtQueueBelow n w
  source_named (Runs t) w h e = wait_named (leaf t) w (leaf_names t h) e
  source_named (CleansUp k t rest) w h e = wait_named (leaf t) w (leaf_names t h.0) e
  source_named (Unwinds rest) w h e = absurd (none-some w e)
  source_named (HasEnded o) w h e = absurd (none-some w e)
