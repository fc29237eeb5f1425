-- The rules of a machine, over its contexts, what is closed, its registers and its place.
use Rattle.std.proofs.Common.{◌≡◌, ℕ, Bool, true, false, Option, Some, None, List, [], refl, sym, ◌∙◌, ap}
use Rattle.std.specs.Prelude.{not, ◌&&◌, ◌||◌}
use Rattle.fx_term.specs.declared.node.Node.{Node}
use Rattle.fx_term.specs.declared.done.Done.{Done}
use Rattle.fx_term.specs.declared.event.Event.TheVariants as event
use Rattle.fx_term.specs.Term.{Term, Finished}
use Rattle.fx_mask.specs.Closing.{Closing, is_none_closed}
use Rattle.fx_frames.specs.declared.frame.Frame.{Frame}
use Rattle.fx_fiber.specs.declared.machine.unwound.Unwound.{Unwound}
use Rattle.fx_frames.specs.Frames.{cleanups_of}
use Rattle.fx_model.specs.Path.{closed_regions, cleanup_terms, leaf, is_canceled_form, is_open}
use Rattle.fx_model.specs.Row.{Counts, Label, Shows, Row, known_canceled}
use Rattle.fx_model.specs.Step.{Runs, Unwinds, leaf_at, must_cancel_at, Step, cancelled, seen, row, cleans}
use Rattle.fx_fiber.specs.Machine.{within, cleanup_terms_of, running}
use Rattle.fx_fiber.specs.Sound.{closed_outside, AreClosedBy}
use Rattle.fx_fiber.proofs.Contexts.{leaf_within, clean_within, open_within, must_within, cleanup_is_closed}

-- what holds of the term of a leaf: it is its own leaf, and closes and cleans nothing
pub record IsLeafTerm (cs : List Closing) (t : Term) : Type 0 where
  pub is_leaf : leaf t ≡ t
  pub stays : closed_regions cs t ≡ cs
  pub nothing : cleanup_terms t ≡ []

module _ (nodes : List Node) (ns : List ℕ) (fs : List Frame) (cs : List Closing) (t : Term) (leaf_term : IsLeafTerm cs t) where
  -- a row of the whole term is a step of the fiber, where cancellation is not the one rule
  pub row_step : (left : Option Unwound) (c d : Counts) (l : Label) (t' : Term) → AreClosedBy (closed_outside left) fs cs
      → (is_none_closed cs && (c.known || is_canceled_form t)) ≡ false
      → ((k : Bool) → k ≡ not (is_none_closed cs) → Row k c (within nodes ns fs cs t) l d t')
      → Step c (running nodes ns left (within nodes ns fs cs t)) l d (running nodes ns left t')
  row_step None c d l t' closed free go =
      let opened = open_within nodes ns fs cs t closed leaf_term.stays in
      row (must_within nodes ns fs cs t closed leaf_term.stays c.known leaf_term.is_leaf ∙ free) (go (not (is_open (within nodes ns fs cs t))) (ap not opened))
  row_step (Some left) c d l t' closed free go = cleans (go true (sym (ap not (cleanup_is_closed fs cs left closed))))

  -- cancellation gives the whole term up for the clean-ups of the contexts
  pub cancelled_step : (left : Option Unwound) (c : Counts) → AreClosedBy (closed_outside left) fs cs
      → (is_none_closed cs && (c.known || is_canceled_form t)) ≡ true
      → Step c (running nodes ns left (within nodes ns fs cs t)) (Shows event.Cancelled) c (Unwinds (cleanup_terms_of nodes ns (cleanups_of fs)))
  cancelled_step None c closed due =
      let step : Step c (Runs (within nodes ns fs cs t)) (Shows event.Cancelled) c (Unwinds (cleanup_terms (within nodes ns fs cs t))) = cancelled
      (must_within nodes ns fs cs t closed leaf_term.stays c.known leaf_term.is_leaf ∙ due) in
      rw (clean_within nodes ns fs cs t, leaf_term.nothing) at step
  cancelled_step (Some left) c closed due = absurd (by_shut (is_none_closed cs) (c.known || is_canceled_form t) (cleanup_is_closed fs cs left closed) due)
    where
      by_shut : (a b : Bool) → a ≡ false → (a && b) ≡ true → ⊥
      by_shut a b e h = let no : (a && b) ≡ false = rw e refl in cc

  -- a request that is seen at an open place
  pub seen_step : (left : Option Unwound) (c : Counts) → AreClosedBy (closed_outside left) fs cs → is_none_closed cs ≡ true
      → (is_none_closed cs && (c.known || is_canceled_form t)) ≡ false
      → Step c (running nodes ns left (within nodes ns fs cs t)) (Shows event.Seen) (known_canceled c) (running nodes ns left (within nodes ns fs cs t))
  seen_step None c closed shown free = seen (must_within nodes ns fs cs t closed leaf_term.stays c.known leaf_term.is_leaf ∙ free)
      (open_within nodes ns fs cs t closed leaf_term.stays ∙ shown)
  seen_step (Some left) c closed shown free = absurd (let shut = cleanup_is_closed fs cs left closed in cc)

  -- the leaf of what the fiber runs stands inside all contexts
  pub leaf_of_running : (left : Option Unwound) → leaf_at (running nodes ns left (within nodes ns fs cs t)) ≡ Some t
  leaf_of_running None = ap Some (leaf_within nodes ns fs cs t ∙ leaf_term.is_leaf)
  leaf_of_running (Some c) = ap Some (leaf_within nodes ns fs cs t ∙ leaf_term.is_leaf)

  -- where cancellation is not the one rule inside, it is not the one of the whole term
  pub free_running : (left : Option Unwound) (known : Bool) → AreClosedBy (closed_outside left) fs cs
      → (is_none_closed cs && (known || is_canceled_form t)) ≡ false → must_cancel_at known (running nodes ns left (within nodes ns fs cs t)) ≡ false
  free_running None known closed free = must_within nodes ns fs cs t closed leaf_term.stays known leaf_term.is_leaf ∙ free
  free_running (Some c) known closed free = refl

pub result_term : (cs : List Closing) (v : Done) → IsLeafTerm cs (Finished v)
result_term cs v = record { is_leaf = refl; stays = refl; nothing = refl }
