-- The labels that show an event, by what kind of event it is.
use Rattle.std.proofs.Common.{◌≡◌, ℕ, zero, suc, Some, List, [], ◌∷◌, All, refl, ap, subst}
use Rattle.std.specs.Prelude.{slice_get}
use Rattle.std.proofs.lemmas.Option.{none-some, same_Some}
use Rattle.std.proofs.lemmas.List.Elements.{All-nil, All-cons}
use Rattle.fx_term.specs.declared.outcome.Outcome.{Outcome}
use Rattle.fx_term.specs.declared.event.Event.{Event}
use Rattle.fx_term.specs.declared.event.Event.TheVariants as event
use Rattle.fx_model.specs.Row.{Counts, Label, Silent, Shows, Learns, Starts}
use Rattle.fx_model.specs.Origin.{Origin}
use Rattle.fx_model.specs.Step.{Progress}
use Rattle.fx_model.specs.Run.{Leads, events, shown}
use Rattle.fx_model.specs.Causes.{IsLearning}
use Rattle.fx_model.proofs.StepLabels.{IsProper, step_tells}

-- the label that shows an event
pub record ShownBy (ls : List Label) (i : ℕ) (e : Event) : Type 0 where
  pub label : Label
  pub at : slice_get (shown ls) i ≡ Some label
  pub shows : events (label ∷ []) ≡ e ∷ []

pub shown_by : (ls : List Label) (i : ℕ) (e : Event) → slice_get (events ls) i ≡ Some e → ShownBy ls i e
shown_by [] i e at = absurd (none-some e at)
shown_by (Silent ∷ ls) i e at = let h = shown_by ls i e at in record { label = h.label; at = h.at; shows = h.shows }
shown_by (Shows v ∷ ls) zero e at = record { label = Shows v; at = refl; shows = ap (λ (w : Event). w ∷ []) (same_Some v e at) }
shown_by (Shows v ∷ ls) (suc i) e at = let h = shown_by ls i e at in record { label = h.label; at = h.at; shows = h.shows }
shown_by (Learns g o v ∷ ls) zero e at = record { label = Learns g o v; at = refl; shows = ap (λ (w : Event). w ∷ []) (same_Some v e at) }
shown_by (Learns g o v ∷ ls) (suc i) e at = let h = shown_by ls i e at in record { label = h.label; at = h.at; shows = h.shows }
shown_by (Starts g b ∷ ls) zero e at = record { label = Starts g b; at = refl; shows = ap (λ (w : Event). w ∷ []) (same_Some (event.Start g) e at) }
shown_by (Starts g b ∷ ls) (suc i) e at = let h = shown_by ls i e at in record { label = h.label; at = h.at; shows = h.shows }

-- each label of a run is shown by what its event stands for
pub run_is_proper : (c d : Counts) (p q : Progress) (ls : List Label) → Leads c p ls d q → All IsProper ls
run_is_proper c d p q [] h = All-nil IsProper
run_is_proper c d p q (l ∷ ls) h = All-cons IsProper l ls (step_tells h.2).proper (run_is_proper h.0 d h.1 q ls h.3)

-- the label of such an event
pub learning_label : (l : Label) (e : Event) → IsProper l → events (l ∷ []) ≡ e ∷ [] → IsLearning e → (g : ℕ) × (o : Outcome) × (l ≡ Learns g o e)
learning_label Silent e tells is learning = absurd cc
learning_label (Shows v) e tells is learning = absurd (by_event v tells (subst IsLearning (let same : e ≡ v = cc in same) learning))
  where
    by_event : (v : Event) → IsProper (Shows v) → IsLearning v → ⊥
    by_event (event.Joined g o) h k = h
    by_event (event.Awaited g) h k = h
    by_event (event.First n) h k = h
    by_event _ h k = k
learning_label (Learns g o v) e tells is learning = (g, o, (let same : v ≡ e = cc in ap (Learns g o) same))
learning_label (Starts g b) e tells is learning = absurd (subst IsLearning (let same : e ≡ event.Start g = cc in same) learning)

-- the label that shows a start, that of a request seen, and none that learns of an end shows one
pub start_label : (l : Label) (g : ℕ) → IsProper l → events (l ∷ []) ≡ event.Start g ∷ [] → (b : Origin) × (l ≡ Starts g b)
start_label Silent g p e = absurd cc
start_label (Shows (event.Start h)) g p e = absurd p
start_label (Shows _) g p e = absurd cc
start_label (Learns h o (event.Joined k v)) g p e = absurd cc
start_label (Learns h o (event.Awaited k)) g p e = absurd cc
start_label (Learns h o (event.First k)) g p e = absurd cc
start_label (Learns h o _) g p e = absurd p
start_label (Starts h b) g p e = (b, (let same : h ≡ g = cc in ap (λ (k : ℕ). Starts k b) same))

pub seen_label : (l : Label) → IsProper l → events (l ∷ []) ≡ event.Seen ∷ [] → l ≡ Shows event.Seen
seen_label Silent p e = absurd cc
seen_label (Shows event.Seen) p e = refl
seen_label (Shows _) p e = absurd cc
seen_label (Learns h o (event.Joined k v)) p e = absurd cc
seen_label (Learns h o (event.Awaited k)) p e = absurd cc
seen_label (Learns h o (event.First k)) p e = absurd cc
seen_label (Learns h o _) p e = absurd p
seen_label (Starts h b) p e = absurd cc

pub learnt_label : (l : Label) (g : ℕ) (o o' : Outcome) (v : Event) → IsProper l → shown (l ∷ []) ≡ Learns g o v ∷ []
    → events (l ∷ []) ≡ event.Ended o' ∷ [] → ⊥
learnt_label Silent g o o' v p is e = cc
learnt_label (Shows w) g o o' v p is e = cc
learnt_label (Learns h u (event.Joined k w)) g o o' v p is e = cc
learnt_label (Learns h u (event.Awaited k)) g o o' v p is e = cc
learnt_label (Learns h u (event.First k)) g o o' v p is e = cc
learnt_label (Learns h u _) g o o' v p is e = p
learnt_label (Starts h b) g o o' v p is e = cc
