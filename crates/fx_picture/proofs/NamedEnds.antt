-- Of whose end a label learns, where its event names that fiber.
use Rattle.std.proofs.Common.{◌≡◌, Bool, List, [], ◌∷◌, All, refl}
use Rattle.std.proofs.lemmas.List.Elements.{All-nil, All-cons}
use Rattle.fx_term.specs.declared.event.Event.TheVariants as event
use Rattle.fx_term.specs.Term.{Term}
use Rattle.fx_model.specs.Row.{Counts, Label, Learns, Row}
use Rattle.fx_model.specs.Row as row
use Rattle.fx_model.specs.Step.{Progress, Step}
use Rattle.fx_model.specs.Step as step
use Rattle.fx_model.specs.Run.{Leads}

abbrev pub Names : Label → Type 0
Names (Learns f o (event.Joined g p)) = f ≡ g
Names (Learns f o (event.Awaited g)) = f ≡ g
Names _ = Unit {0}

row_names : {k : Bool} {c d : Counts} {l : Label} {t t' : Term} → Row k c t l d t' → Names l
row_names (row.inside f e g r) = row_names r
row_names row.joined = refl
row_names row.awaited = refl
row_names _ = tt

step_names : {c d : Counts} {p q : Progress} {l : Label} → Step c p l d q → Names l
step_names (step.row m r) = row_names r
step_names (step.cleans r) = row_names r
step_names _ = tt

pub run_names : (c d : Counts) (p q : Progress) (ls : List Label) → Leads c p ls d q → All Names ls
run_names c d p q [] h = All-nil Names
run_names c d p q (l ∷ ls) h = All-cons Names l ls (step_names h.2) (run_names h.0 d h.1 q ls h.3)
