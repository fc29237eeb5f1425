-- The runs of a fiber.
use Rattle.std.specs.Prelude.{◌≡◌, ◌≢◌, false, List, [], ◌∷◌}
use Rattle.fx_term.specs.declared.event.Event.{Event}
use Rattle.fx_term.specs.declared.event.Event.TheVariants as event
use Rattle.fx_model.specs.Row.{Counts, Label, Silent, Shows, Learns, Starts}
use Rattle.fx_model.specs.Origin.{Origin}
use Rattle.fx_model.specs.Step.{Progress, Runs, Step}

-- the counts of a fiber that begins so
abbrev pub first_counts : Origin → Counts
first_counts b = record { masks = 0; acquired = 0; next = b.next; end = b.end; known = false }

-- from these counts and this progress the steps with these labels lead to those
abbrev pub Leads : Counts → Progress → List Label → Counts → Progress → Type 0
Leads c p [] d q = (d ≡ c) × (q ≡ p)
Leads c p (l ∷ ls) d q = (e : Counts) × (m : Progress) × Step c p l e m × Leads e m ls d q

-- a label that is no request seen
abbrev pub IsUnrequested : Label → Type 0
IsUnrequested l = l ≢ Shows event.Seen

-- a run of a fiber that begins so
abbrev pub IsRun : Origin → List Label → Counts → Progress → Type 0
IsRun b ls d q = Leads (first_counts b) (Runs b.term) ls d q

-- the labels but the silent ones: the ith of them shows the ith event
abbrev pub shown : List Label → List Label
shown [] = []
shown (Silent ∷ ls) = shown ls
shown (l ∷ ls) = l ∷ shown ls

-- the events that labels show
abbrev pub events : List Label → List Event
events [] = []
events (Silent ∷ ls) = events ls
events (Shows e ∷ ls) = e ∷ events ls
events (Learns f o e ∷ ls) = e ∷ events ls
events (Starts f b ∷ ls) = event.Start f ∷ events ls
