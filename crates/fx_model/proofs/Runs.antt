-- A run that goes on, and the events of its labels.
use Rattle.std.proofs.Common.{◌≡◌, List, [], ◌∷◌, ◌++◌, refl, ap}
use Rattle.fx_term.specs.declared.event.Event.{Event}
use Rattle.fx_term.specs.declared.event.Event.TheVariants as event
use Rattle.fx_model.specs.Row.{Counts, Label, Silent, Shows, Learns, Starts}
use Rattle.fx_model.specs.Step.{Progress, Step}
use Rattle.fx_model.specs.Run.{Leads, events}

-- a run goes on by one step
pub leads_on : (c : Counts) (p : Progress) (ls : List Label) (d : Counts) (q : Progress) (l : Label) (e : Counts) (r : Progress) → Leads c p ls d q
    → Step d q l e r → Leads c p (ls ++ l ∷ []) e r
leads_on c p [] d q l e r h s = (e, r, rw (← h.0, ← h.1) s, (refl, refl))
leads_on c p (k ∷ ls) d q l e r h s = (h.0, h.1, h.2, leads_on h.0 h.1 ls d q l e r h.3 s)

pub events_append : (ls ms : List Label) → events (ls ++ ms) ≡ events ls ++ events ms
events_append [] ms = refl
events_append (Silent ∷ ls) ms = events_append ls ms
events_append (Shows e ∷ ls) ms = ap (λ (es : List Event). e ∷ es) (events_append ls ms)
events_append (Learns f o e ∷ ls) ms = ap (λ (es : List Event). e ∷ es) (events_append ls ms)
events_append (Starts f b ∷ ls) ms = ap (λ (es : List Event). event.Start f ∷ es) (events_append ls ms)
