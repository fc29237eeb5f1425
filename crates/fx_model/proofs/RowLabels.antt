-- What no row of the table shows.
use Rattle.std.proofs.Common.{◌≢◌, Bool, subst}
use Rattle.fx_term.specs.declared.event.Event.TheVariants as event
use Rattle.fx_term.specs.Term.{Term}
use Rattle.fx_model.specs.Row.{Counts, Label, Shows, Row, inside}

-- a label that is no request seen, no cancellation and no end
abbrev pub IsLabelOfRow : Label → Type 0
IsLabelOfRow (Shows event.Seen) = ⊥
IsLabelOfRow (Shows event.Cancelled) = ⊥
IsLabelOfRow (Shows (event.Ended o)) = ⊥
IsLabelOfRow _ = Unit {0}

pub row_label : {k : Bool} {c d : Counts} {l : Label} {t t' : Term} → Row k c t l d t' → IsLabelOfRow l
row_label (inside f e g r) = row_label r
row_label _ = tt

pub row_unseen : {k : Bool} {c d : Counts} {l : Label} {t t' : Term} → Row k c t l d t' → l ≢ Shows event.Seen
row_unseen r e = subst IsLabelOfRow e (row_label r)
