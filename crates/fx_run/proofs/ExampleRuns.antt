-- The runs of the fibers of the example.
use Rattle.std.proofs.Common.{◌≡◌, ℕ, false, None, List, [], ◌∷◌, refl}
use Rattle.fx_term.specs.declared.node.Arg.TheVariants.{Number, Slot}
use Rattle.fx_term.specs.declared.begin.Begin.{Begin}
use Rattle.fx_term.specs.declared.done.Done.TheVariants.{Val}
use Rattle.fx_term.specs.declared.outcome.Outcome.TheVariants.{Succeeded, Canceled}
use Rattle.fx_term.specs.declared.event.Event.TheVariants as event
use Rattle.fx_term.specs.Term.{Term, Pure, Never, Let, Start, Cancel, Offer, Take, Finished, Await}
use Rattle.fx_term.specs.Meaning.{read, term_of, root_term}
use Rattle.fx_model.specs.Path.{LetIn}
use Rattle.fx_model.specs.Row.{Counts, Label, Silent, Shows, Learns, Starts, known_canceled}
use Rattle.fx_model.specs.Row as row
use Rattle.fx_model.specs.Origin.{Origin, main_origin, origin_of}
use Rattle.fx_model.specs.Step.{Progress, Runs, Unwinds, HasEnded}
use Rattle.fx_model.specs.Step as step
use Rattle.fx_model.specs.Run.{IsRun}
use Rattle.fx_run.specs.Example.{node_id, example_nodes}

abbrev pub child_term : Term
child_term = Let None (Take 0) Never

abbrev pub rest_term : Term
rest_term = Start 0 child_term (Let None (Cancel (Slot 0)) (Pure (Number 7)))

abbrev pub main_term : Term
main_term = Let None (Offer 0 (Number 3)) rest_term

pub main_reads : root_term example_nodes ≡ main_term
unfolding read term_of
main_reads = refl

abbrev pub child_begin : Begin
child_begin = record { node = node_id 2; slots = []; next = 2; end = 2; stamp = 2 }

abbrev pub child_origin_is : Origin
child_origin_is = record { term = child_term; next = 2; end = 2 }

pub child_reads : origin_of example_nodes child_begin ≡ child_origin_is
unfolding read term_of
child_reads = refl

abbrev pub main_labels : List Label
main_labels =
    Shows (event.Put 0 3) ∷ Silent ∷ Starts 1 child_origin_is ∷ Shows (event.Request 1) ∷ Learns 1 Canceled (event.Awaited 1) ∷ Silent ∷ Silent
    ∷ Shows (event.Ended (Succeeded 7)) ∷ []

abbrev pub counts_at : ℕ → Counts
counts_at next = record { masks = 0; acquired = 0; next = next; end = 2; known = false }

abbrev pub canceling : Term → Term
canceling t = Let None t (Pure (Number 7))

pub main_run : IsRun (main_origin main_term) main_labels (counts_at 2) (HasEnded (Succeeded 7))
main_run = (
  counts_at 1,
  Runs (Let None (Finished (Val 0)) rest_term),
  step.row refl (row.inside (LetIn None rest_term) refl refl row.offered),
  (
    counts_at 1,
    Runs rest_term,
    step.row refl row.let_value,
    (
      counts_at 2,
      Runs (canceling (Cancel (Number 1))),
      step.row refl row.start,
      (
        counts_at 2,
        Runs (canceling (Await 1)),
        step.row refl (row.inside (LetIn None (Pure (Number 7))) refl refl row.request),
        (
          counts_at 2,
          Runs (canceling (Finished (Val 0))),
          step.row refl (row.inside (LetIn None (Pure (Number 7))) refl refl row.awaited),
          (
            counts_at 2,
            Runs (Pure (Number 7)),
            step.row refl row.let_value,
            (
              counts_at 2,
              Runs (Finished (Val 7)),
              step.row refl row.pure,
              (
                counts_at 2,
                HasEnded (Succeeded 7),
                step.succeeds refl,
                (refl, refl),
              ),
            ),
          ),
        ),
      ),
    ),
  ),
)

abbrev pub child_labels : List Label
child_labels = Shows (event.Got 0 3) ∷ Silent ∷ Shows event.Seen ∷ Shows event.Cancelled ∷ Shows (event.Ended Canceled) ∷ []

pub child_run : IsRun child_origin_is child_labels (known_canceled (counts_at 2)) (HasEnded Canceled)
child_run = (
  counts_at 2,
  Runs (Let None (Finished (Val 3)) Never),
  step.row refl (row.inside (LetIn None Never) refl refl row.taken),
  (
    counts_at 2,
    Runs Never,
    step.row refl row.let_value,
    (
      known_canceled (counts_at 2),
      Runs Never,
      step.seen refl refl,
      (
        known_canceled (counts_at 2),
        Unwinds [],
        step.cancelled refl,
        (
          known_canceled (counts_at 2),
          HasEnded Canceled,
          step.unwound,
          (refl, refl),
        ),
      ),
    ),
  ),
)
