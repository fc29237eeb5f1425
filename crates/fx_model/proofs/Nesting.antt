-- The events that lead to the resources that a fiber holds.
use Rattle.std.proofs.Common.{◌≡◌, ℕ, List, [], ◌∷◌, ◌++◌, refl, ap, subst, ◌∙◌, append_assoc, append-nil}
use Rattle.std.proofs.lemmas.List.Elements.{filter_map-append}
use Rattle.fx_term.specs.declared.event.Event.{Event}
use Rattle.fx_term.specs.declared.event.Event.TheVariants as event
use Rattle.fx_model.specs.Row.{Label, Silent, Shows, Learns, Starts}
use Rattle.fx_model.specs.Run.{events}
use Rattle.fx_model.specs.Balanced.{IsOfNoResource, IsNested, nothing, other, resource, appended, acquired_number, acquired_numbers}
use Rattle.fx_model.proofs.HeldResources.{Held, Unreleased, BeingReleased}

-- each resource was acquired, and the release of one that is in release has begun; the events between are nested
abbrev pub LeadsTo : List Held → List Event → Type 0
LeadsTo [] es = IsNested es
LeadsTo (Unreleased k ∷ outer) es = (w : List Event) × (x : List Event) × LeadsTo outer w × IsNested x × (es ≡ w ++ event.Acquired k ∷ x)
LeadsTo (BeingReleased k ∷ outer) es =
    (w : List Event) × (x : List Event) × (y : List Event) × LeadsTo outer w × IsNested x × IsNested y × (es ≡ w ++ event.Acquired k ∷ (x ++ event.Begin k ∷ y))

leads_more : (s : List Held) (es fs : List Event) → LeadsTo s es → IsNested fs → LeadsTo s (es ++ fs)
leads_more [] es fs h n = appended h n
leads_more (Unreleased k ∷ s) es fs h n = (h.0, h.1 ++ fs, h.2, appended h.3 n, rw h.4 (append_assoc h.0 (event.Acquired k ∷ h.1) fs))
leads_more (BeingReleased k ∷ s) es fs h n = (
  h.0,
  h.1,
  h.2 ++ fs,
  h.3,
  h.4,
  appended h.5 n,
  rw h.6 (rw (append_assoc h.0 (event.Acquired k ∷ (h.1 ++ event.Begin k ∷ h.2)) fs, append_assoc h.1 (event.Begin k ∷ h.2) fs) refl),
)

acquires : (s : List Held) (k : ℕ) (es : List Event) → LeadsTo s es → LeadsTo (Unreleased k ∷ s) (es ++ event.Acquired k ∷ [])
acquires s k es h = (es, [], h, nothing, refl)

begins : (s : List Held) (k : ℕ) (es : List Event) → LeadsTo (Unreleased k ∷ s) es → LeadsTo (BeingReleased k ∷ s) (es ++ event.Begin k ∷ [])
begins s k es h = (h.0, h.1, [], h.2, h.3, nothing, rw h.4 (append_assoc h.0 (event.Acquired k ∷ h.1) (event.Begin k ∷ [])))

ends : (s : List Held) (k : ℕ) (es : List Event) → LeadsTo (BeingReleased k ∷ s) es → LeadsTo s (es ++ event.End k ∷ [])
ends s k es h =
    rw h.6
    (rw (append_assoc h.0 (event.Acquired k ∷ (h.1 ++ event.Begin k ∷ h.2)) (event.End k ∷ []), append_assoc h.1 (event.Begin k ∷ h.2) (event.End k ∷ []))
    (leads_more s h.0 (event.Acquired k ∷ (h.1 ++ event.Begin k ∷ (h.2 ++ event.End k ∷ []))) h.3 (resource h.4 h.5)))

-- how a label changes what is held
abbrev pub Changes : Label → List Held → List Held → Type 0
Changes (Shows (event.Acquired k)) s s' = s' ≡ Unreleased k ∷ s
Changes (Shows (event.Begin k)) s s' = (outer : List Held) × (s ≡ Unreleased k ∷ outer) × (s' ≡ BeingReleased k ∷ outer)
Changes (Shows (event.End k)) s s' = s ≡ BeingReleased k ∷ s'
Changes (Learns f o e) s s' = (s' ≡ s) × IsOfNoResource e
Changes _ s s' = s' ≡ s

-- the same with more that is held outside
pub changes_inside : (l : Label) (s s' outer : List Held) → Changes l s s' → Changes l (s ++ outer) (s' ++ outer)
changes_inside (Shows (event.Acquired k)) s s' outer h = ap (λ (u : List Held). u ++ outer) h
changes_inside (Shows (event.Begin k)) s s' outer h = (h.0 ++ outer, ap (λ (u : List Held). u ++ outer) h.1, ap (λ (u : List Held). u ++ outer) h.2)
changes_inside (Shows (event.End k)) s s' outer h = ap (λ (u : List Held). u ++ outer) h
changes_inside (Learns f q e) s s' outer h = (ap (λ (u : List Held). u ++ outer) h.0, h.1)
changes_inside _ s s' outer h = ap (λ (u : List Held). u ++ outer) h

-- a label's event leads on
pub changes_lead : (l : Label) (s s' : List Held) (es : List Event) → Changes l s s' → LeadsTo s es → LeadsTo s' (es ++ events (l ∷ []))
changes_lead Silent s s' es c h = rw (c, append-nil) h
changes_lead (Learns f o e) s s' es c h = rw c.0 (leads_more s es _ h (other c.1))
changes_lead (Starts f b) s s' es c h = rw c (leads_more s es _ h (other tt))
changes_lead (Shows (event.Acquired k)) s s' es c h = rw c (acquires s k es h)
changes_lead (Shows (event.Begin k)) s s' es c h = rw c.2 (begins c.0 k es (rw c.1 at h))
changes_lead (Shows (event.End k)) s s' es c h = ends s' k es (rw c at h)
changes_lead (Shows e) s s' es c h = rw c (leads_more s es _ h (other tt))

-- the events that release what is held
abbrev pub releases : List Held → List Event
releases [] = []
releases (Unreleased k ∷ outer) = event.Begin k ∷ event.End k ∷ releases outer
releases (BeingReleased k ∷ outer) = event.End k ∷ releases outer

releases_acquire_none : (s : List Held) → acquired_numbers (releases s) ≡ []
releases_acquire_none [] = refl
releases_acquire_none (Unreleased k ∷ outer) = releases_acquire_none outer
releases_acquire_none (BeingReleased k ∷ outer) = releases_acquire_none outer

-- with them no more is acquired
pub released_acquires_same : (s : List Held) (es : List Event) → acquired_numbers (es ++ releases s) ≡ acquired_numbers es
released_acquires_same s es =
    filter_map-append acquired_number es (releases s) ∙ ap (λ (ns : List ℕ). acquired_numbers es ++ ns) (releases_acquire_none s)
    ∙ append-nil (acquired_numbers es)

-- and all is nested
pub released_is_nested : (s : List Held) (es : List Event) → LeadsTo s es → IsNested (es ++ releases s)
released_is_nested [] es h = rw append-nil h
released_is_nested (BeingReleased k ∷ s) es h =
    subst IsNested (append_assoc es (event.End k ∷ []) (releases s)) (released_is_nested s (es ++ event.End k ∷ []) (ends s k es h))
released_is_nested (Unreleased k ∷ s) es h =
    let begun = es ++ event.Begin k ∷ [] in
    let step = released_is_nested s (begun ++ event.End k ∷ []) (ends s k begun (begins s k es h)) in
    subst IsNested (append_assoc es (event.Begin k ∷ []) (event.End k ∷ releases s)) (subst IsNested (append_assoc begun (event.End k ∷ []) (releases s)) step)
