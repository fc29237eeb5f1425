-- When a look is due, and what a step asks of its port.
use Rattle.std.proofs.Common.{◌≡◌, ℕ, Bool, true, false, Option, Some, None, List, refl, ap}
use Rattle.std.specs.Prelude.{◌&&◌, ◌||◌, not}
use Rattle.fx_term.specs.declared.node.Node.{Node}
use Rattle.fx_term.specs.declared.outcome.Outcome.{Outcome}
use Rattle.fx_term.specs.declared.event.Event.TheVariants as event
use Rattle.fx_term.specs.Term.{Term, Finished}
use Rattle.fx_mask.specs.Closing.{is_none_closed}
use Rattle.fx_mask.specs.Masks.{MasksView}
use Rattle.fx_frames.specs.declared.frame.Frame.{Frame}
use Rattle.fx_model.specs.Path.{is_canceled_form}
use Rattle.fx_model.specs.Row.{Counts, Shows}
use Rattle.fx_fiber.specs.declared.machine.focus.Focus.{Focus}
use Rattle.fx_fiber.specs.declared.machine.focus.Focus.TheVariants.{Eval, Return, Turn, Await, Unwinding, Ended}
use Rattle.fx_fiber.specs.declared.machine.unwound.Unwound.{Unwound}
use Rattle.fx_fiber.specs.declared.machine.made.Made.{Made}
use Rattle.fx_fiber.specs.declared.machine.made.Made.TheVariants as made
use Rattle.fx_fiber.specs.declared.machine.Machine.{Machine}
use Rattle.fx_fiber.specs.Machine.{filled, loop_at, inner, within, running, progress_at, progress_of}
use Rattle.fx_fiber.specs.Sound.{closed_outside, AreClosedBy, IsSound, IsSoundMachine}
use Rattle.fx_fiber.specs.Made.{label_of, IsRuleMade, IsOwnMade}
use Rattle.fx_fiber.specs.Places.{IsEntered, IsGoing, IsSame, must_cancel_machine, is_open_machine}
use Rattle.fx_fiber.specs.MakesCall.{Told}
use Rattle.fx_fiber.specs.Advances.{Asks}
use Rattle.fx_fiber.specs.Calls.{PortCalls}
use Rattle.fx_fiber.specs.Theory.{Theory}
use Rattle.fx_fiber.specs.declared.stepped.Stepped.{Stepped}
use Rattle.fx_fiber.specs.MakesStep.{LooksInVain, Calls}
use Rattle.fx_model.specs.Step.{looks_first}
use Rattle.fx_fiber.proofs.Contexts.{open_within, must_within, cleanup_is_closed}
use Rattle.fx_fiber.proofs.Rules.{IsLeafTerm}
use Rattle.fx_fiber.proofs.Nodes.{leaf_of_focus}
use Rattle.fx_model.proofs.Ends.{shows_end}

shut_false : (a b : Bool) → a ≡ false → false ≡ (a && b)
shut_false a b e = rw e refl

module _ (nodes : List Node) (ns : List ℕ) (fs : List Frame) (m : MasksView) (known : Bool) where
  first_inside : (left : Option Unwound) (t : Term) → IsLeafTerm m.regions t → AreClosedBy (closed_outside left) fs m.regions
      → looks_first known (running nodes ns left (within nodes ns fs m.regions t)) ≡
      (is_none_closed m.regions && not (is_none_closed m.regions && (known || is_canceled_form t)))
  first_inside None t leaf closed =
      let p = open_within nodes ns fs m.regions t closed leaf.stays in
      let q = must_within nodes ns fs m.regions t closed leaf.stays known leaf.is_leaf in
      cc
  first_inside (Some left) t leaf closed = shut_false (is_none_closed m.regions) _ (cleanup_is_closed fs m.regions left closed)

  -- a look is due where the place is open and cancellation is not the one rule
  first_at : (left : Option Unwound) (focus : Focus) → IsSound nodes ns fs m left focus → IsGoing focus → IsEntered nodes focus
      → looks_first known (progress_at nodes ns fs m.regions left focus) ≡
      (is_none_closed m.regions && not (is_none_closed m.regions && (known || is_canceled_form (inner nodes ns focus))))
  first_at left (Eval id) sound going entered = first_inside left (filled nodes ns id)
      (leaf_of_focus nodes ns m.regions (Eval id) sound.tree entered) sound.closed
  first_at left (Return v) sound going entered = first_inside left (Finished v) (leaf_of_focus nodes ns m.regions (Return v) sound.tree entered) sound.closed
  first_at left (Turn id turn) sound going entered = first_inside left (loop_at nodes ns id turn)
      (leaf_of_focus nodes ns m.regions (Turn id turn) sound.tree entered) sound.closed
  first_at left (Await f) sound going entered = absurd entered
  first_at None Unwinding sound going entered = absurd sound.between
  first_at (Some left) Unwinding sound going entered = shut_false (is_none_closed m.regions) _ (cleanup_is_closed fs m.regions left sound.closed)
  first_at left (Ended o) sound going entered = absurd going

-- the same of a fiber before it entered contexts
pub looks_first_before : (nodes : List Node) (old s : Machine) → IsSame nodes old s → IsSoundMachine nodes s → IsGoing s.focus
    → IsEntered nodes s.focus → looks_first old.known (progress_of nodes old) ≡ (is_open_machine s && not (must_cancel_machine nodes s))
looks_first_before nodes old s same sound going entered =
    let known : s.known ≡ old.known = ap (λ (c : Counts). c.known) same.counts in
    let progress : progress_of nodes s ≡ progress_of nodes old = same.progress in
    let now : looks_first s.known (progress_of nodes s) ≡ (is_open_machine s && not (must_cancel_machine nodes s)) =
    first_at nodes s.registers s.frames s.masks s.known s.cleanups s.focus sound going entered in
    cc

module _ {P S : Type 0} (calls : PortCalls P S) where
  pub none_due : (due : Bool) (p : P) (s : S) → due ≡ false → LooksInVain calls due p s
  none_due true p s e = absurd (let no : true ≡ false = e in cc)
  none_due false p s e = tt

  -- before a rule a look was in vain, and nothing is asked but what the rule asks
  pub asks_by_rule : (own cause : ℕ) (due : Bool) (leaf : Option Term) (m : Made) (p p' : P) (s s' : S) → IsRuleMade m → LooksInVain calls due p s
      → Told calls own cause leaf m p s p' s' → Asks calls own cause due leaf m p s p' s'
  asks_by_rule own cause due leaf (made.Shows event.Seen) p p' s s' is l t = absurd is
  asks_by_rule own cause due leaf _ p p' s s' is l t = (l, t)

module _ {P S : Type 0} (theory : Theory P S) where
  -- the fiber's step makes no other call, unless it is the last
  pub calls_of_asks : (stamp cause : ℕ) (due : Bool) (leaf : Option Term) (m : Made) (answer : Stepped P S) (p p' : P) (s s' : S) → IsOwnMade m
      → shows_end (label_of m) ≡ false → Asks theory.calls stamp cause due leaf m p s p' s'
      → Calls theory stamp cause due leaf (label_of m) answer p s p' s'
  calls_of_asks stamp cause due leaf (made.Waits w) answer p p' s s' own on a = record { looked = a.0; left_first = tt; told = (a.1.1, a.1.2) }
  calls_of_asks stamp cause due leaf (made.Learns f o e) answer p p' s s' own on a = record { looked = a.0; left_first = a.1.0; told = a.1.1 }
  calls_of_asks stamp cause due leaf (made.Shows event.Seen) answer p p' s s' own on a = record { looked = tt; left_first = tt; told = a }
  calls_of_asks stamp cause due leaf (made.Shows (event.Request f)) answer p p' s s' own on a = record { looked = a.0; left_first = tt; told = a.1 }
  calls_of_asks stamp cause due leaf (made.Shows (event.Put q n)) answer p p' s s' own on a = record { looked = a.0; left_first = tt; told = a.1 }
  calls_of_asks stamp cause due leaf (made.Shows (event.Got q n)) answer p p' s s' own on a = record { looked = a.0; left_first = tt; told = a.1 }
  calls_of_asks stamp cause due leaf (made.Shows (event.Refused q)) answer p p' s s' own on a = record { looked = a.0; left_first = tt; told = a.1 }
  calls_of_asks stamp cause due leaf (made.Shows (event.Empty q)) answer p p' s s' own on a = record { looked = a.0; left_first = tt; told = a.1 }
  calls_of_asks stamp cause due leaf (made.Shows event.Cancelled) answer p p' s s' own on a = record { looked = a.0; left_first = tt; told = a.1 }
  calls_of_asks stamp cause due leaf (made.Shows event.SelfRequest) answer p p' s s' own on a = record { looked = a.0; left_first = tt; told = a.1 }
  calls_of_asks stamp cause due leaf (made.Shows (event.Acquired k)) answer p p' s s' own on a = record { looked = a.0; left_first = tt; told = a.1 }
  calls_of_asks stamp cause due leaf (made.Shows (event.Begin k)) answer p p' s s' own on a = record { looked = a.0; left_first = tt; told = a.1 }
  calls_of_asks stamp cause due leaf (made.Shows (event.End k)) answer p p' s s' own on a = record { looked = a.0; left_first = tt; told = a.1 }
  calls_of_asks stamp cause due leaf (made.Shows (event.Ended o)) answer p p' s s' own on a = absurd (let no : true ≡ false = on in cc)
  calls_of_asks stamp cause due leaf (made.Shows _) answer p p' s s' own on a = absurd own
  calls_of_asks stamp cause due leaf _ answer p p' s s' own on a = record { looked = a.0; left_first = tt; told = a.1 }

  pub calls_of_end : (stamp cause : ℕ) (due : Bool) (leaf : Option Term) (answer : Stepped P S) (o : Outcome) (p p' p'' : P) (s s' s'' : S)
      → Asks theory.calls stamp cause due leaf (made.Shows (event.Ended o)) p s p' s' → theory.calls.finishes p' s' o stamp p'' s''
      → Calls theory stamp cause due leaf (Shows (event.Ended o)) answer p s p'' s''
  calls_of_end stamp cause due leaf answer o p p' p'' s s' s'' a f = record { looked = a.0; left_first = tt; told = rw (a.1.0, a.1.1) at f }

-- tests at an open place, and where cancellation is the one rule
pub not_due_after : (a b : Bool) → b ≡ true → (a && not b) ≡ false
not_due_after true b e = rw e refl
not_due_after false b e = refl

pub due_where_open : (a b : Bool) → b ≡ false → (a && not b) ≡ a
due_where_open true b e = rw e refl
due_where_open false b e = refl

-- what the rule of a place makes is the fiber's own
pub rule_is_own : (m : Made) → IsRuleMade m → IsOwnMade m
rule_is_own (made.Shows event.Cancelled) h = absurd h
rule_is_own (made.Shows event.Seen) h = absurd h
rule_is_own _ h = h
