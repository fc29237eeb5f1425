-- The numbers that a fiber has left for the fibers that it starts.
use Rattle.std.proofs.Common.{◌≡◌, Bool, true, false}
use Rattle.fx_model.specs.Row.{Counts, range_of, Label, Silent, Shows, Learns, Starts}
use Rattle.fx_model.specs.Step.{Progress, Step}
use Rattle.fx_model.proofs.StepLabels.{TakesNumbers, step_tells}

-- the step with this label starts a fiber
abbrev pub starts : Label → Bool
starts (Starts f b) = true
starts _ = false

next_stays : (c d : Counts) (l : Label) → TakesNumbers c d l → starts l ≡ false → d.next ≡ c.next
next_stays c d (Starts f b) takes h = absurd (let no : true ≡ false = h in cc)
next_stays c d Silent takes h = takes
next_stays c d (Shows e) takes h = takes
next_stays c d (Learns f o e) takes h = takes

-- a step that starts no fiber keeps them
pub step_keeps_range : {c d : Counts} {l : Label} {p q : Progress} → Step c p l d q → starts l ≡ false → range_of d ≡ range_of c
step_keeps_range {c = c} {d = d} {l = l} step h =
    let tells = step_tells step in
    let next = next_stays c d l tells.takes h in
    let end = tells.end in
    λ i. record { next = next i; end = end i }
