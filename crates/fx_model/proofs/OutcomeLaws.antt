-- The trace of a run tells the outcome with which its fiber has ended, and stops at it.
use Rattle.std.proofs.Common.{◌≡◌, false, Option, Some, None, List, [], ◌∷◌, refl, sym, ◌∙◌, ap}
use Rattle.std.proofs.lemmas.Option.{none-some, same_Some}
use Rattle.fx_term.specs.declared.outcome.Outcome.{Outcome}
use Rattle.fx_term.specs.declared.event.Event.{Event}
use Rattle.fx_term.specs.declared.event.Event.TheVariants as event
use Rattle.fx_model.specs.Row.{Counts, Label, Silent, Shows, Learns, Starts}
use Rattle.fx_model.specs.Origin.{Origin}
use Rattle.fx_model.specs.Step.{Progress, Step}
use Rattle.fx_model.specs.Step as step
use Rattle.fx_model.specs.Run.{Leads, IsRun, events}
use Rattle.fx_model.specs.Outside.{outcome_at}
use Rattle.fx_model.specs.Report.{outcome_shown}
use Rattle.fx_model.specs.Headline.{StopsAt}
use Rattle.fx_model.proofs.Ends.{shows_end, ended_after}
use Rattle.fx_model.proofs.StepLabels.{IsProper, step_tells}

-- the outcome that a label tells
abbrev pub end_of : Label → Option Outcome
end_of (Shows (event.Ended o)) = Some o
end_of _ = None

tells_no_end : (l : Label) → shows_end l ≡ false → None ≡ end_of l
tells_no_end (Shows (event.Ended o)) e = absurd cc
tells_no_end _ e = refl

-- a step ends its fiber as its label tells
pub step_end_of : {c d : Counts} {p q : Progress} {l : Label} → Step c p l d q → outcome_at q ≡ end_of l
step_end_of {l = l} (step.row m r) = tells_no_end l (sym (ended_after (step.row m r)))
step_end_of {l = l} (step.cleans {k = k} {rest = rest} r) = tells_no_end l (sym (ended_after (step.cleans {k = k} {rest = rest} r)))
step_end_of _ = refl

-- a fiber that has ended makes no step
pub no_step_after_end : {c d : Counts} {p q : Progress} {l : Label} (o : Outcome) → Step c p l d q → outcome_at p ≡ Some o → ⊥
no_step_after_end o (step.cancelled m) e = cc
no_step_after_end o (step.seen m h) e = cc
no_step_after_end o (step.row m r) e = cc
no_step_after_end o (step.succeeds m) e = cc
no_step_after_end o (step.errs m) e = cc
no_step_after_end o step.finalizer e = cc
no_step_after_end o step.release e = cc
no_step_after_end o (step.cleans r) e = cc
no_step_after_end o step.finalizer_ends e = cc
no_step_after_end o step.release_ends e = cc
no_step_after_end o step.unwound e = cc

-- one more event, at which the trace does not stop
after_event : (e : Event) (es : List Event) (o : Outcome) (h : StopsAt es o) → outcome_shown (e ∷ h.ends.before) ≡ outcome_shown h.ends.before
    → StopsAt (e ∷ es) o
after_event e es o h later = record {
  ends = record { before = e ∷ h.ends.before; is = ap (λ (fs : List Event). e ∷ fs) h.ends.is };
  no_other = later ∙ h.no_other;
}

one_more : (l : Label) (ls : List Label) (o : Outcome) → IsProper l → end_of l ≡ None → StopsAt (events ls) o → StopsAt (events (l ∷ ls)) o
one_more Silent ls o proper none h = h
one_more (Starts f b) ls o proper none h = after_event (event.Start f) (events ls) o h refl
one_more (Shows (event.Ended v)) ls o proper none h = absurd (none-some v (sym none))
one_more (Shows e) ls o proper none h = after_event e (events ls) o h refl
one_more (Learns f v (event.Joined k w)) ls o proper none h = after_event (event.Joined k w) (events ls) o h refl
one_more (Learns f v (event.Awaited k)) ls o proper none h = after_event (event.Awaited k) (events ls) o h refl
one_more (Learns f v (event.First k)) ls o proper none h = after_event (event.First k) (events ls) o h refl
one_more (Learns f v _) ls o proper none h = absurd proper

stops_here : (l : Label) (o : Outcome) → end_of l ≡ Some o → StopsAt (events (l ∷ [])) o
stops_here (Shows (event.Ended v)) o e =
    record { ends = record { before = []; is = ap (λ (w : Outcome). event.Ended w ∷ []) (same_Some v o e) }; no_other = refl }
stops_here _ o e = absurd (none-some o e)

leads_stop : (c d : Counts) (p q : Progress) (ls : List Label) (o : Outcome) → Leads c p ls d q → outcome_at p ≡ None → outcome_at q ≡ Some o
    → StopsAt (events ls) o
leads_stop c d p q [] o r goes ended = absurd (none-some o (sym goes ∙ sym (ap outcome_at r.1) ∙ ended))
leads_stop c d p q (l ∷ ls) o r goes ended = by_end (end_of l) refl (λ still. leads_stop r.0 d r.1 q ls o r.3 still ended)
  where
    by_rest : (v : Outcome) → end_of l ≡ Some v → (ls : List Label) → Leads r.0 r.1 ls d q → StopsAt (events (l ∷ ls)) o
    by_rest v is [] rest = stops_here l o (sym (step_end_of r.2) ∙ sym (ap outcome_at rest.1) ∙ ended)
    by_rest v is (k ∷ ls) rest = absurd (no_step_after_end v rest.2 (step_end_of r.2 ∙ is))

    by_end : (v : Option Outcome) → end_of l ≡ v → (outcome_at r.1 ≡ None → StopsAt (events ls) o) → StopsAt (events (l ∷ ls)) o
    by_end None is after = one_more l ls o (step_tells r.2).proper is (after (step_end_of r.2 ∙ is))
    by_end (Some v) is after = by_rest v is ls r.3

-- the trace of a run that has ended stops at its outcome
pub run_stops : (b : Origin) (ls : List Label) (c : Counts) (p : Progress) (o : Outcome) → IsRun b ls c p → outcome_at p ≡ Some o → StopsAt (events ls) o
run_stops b ls c p o r ended = leads_stop _ c _ p ls o r refl ended

-- a label that tells no outcome, and one that does
label_shown : (l : Label) (ls : List Label) → IsProper l → end_of l ≡ None → outcome_shown (events (l ∷ ls)) ≡ outcome_shown (events ls)
label_shown Silent ls proper none = refl
label_shown (Starts f b) ls proper none = refl
label_shown (Shows (event.Ended o)) ls proper none = absurd (none-some o (sym none))
label_shown (Shows _) ls proper none = refl
label_shown (Learns g o (event.Joined k v)) ls proper none = refl
label_shown (Learns g o (event.Awaited k)) ls proper none = refl
label_shown (Learns g o (event.First k)) ls proper none = refl
label_shown (Learns g o _) ls proper none = absurd proper

end_shown : (l : Label) (ls : List Label) (o : Outcome) → end_of l ≡ Some o → outcome_shown (events (l ∷ ls)) ≡ Some o
end_shown (Shows (event.Ended v)) ls o e = e
end_shown _ ls o e = absurd (none-some o e)

-- no steps come after an end
pub stays_ended : (c d : Counts) (p q : Progress) (ls : List Label) (o : Outcome) → Leads c p ls d q → outcome_at p ≡ Some o → outcome_at q ≡ Some o
stays_ended c d p q [] o r e = ap outcome_at r.1 ∙ e
stays_ended c d p q (l ∷ ls) o r e = absurd (no_step_after_end o r.2 e)

leads_outcome : (c d : Counts) (p q : Progress) (ls : List Label) → Leads c p ls d q → outcome_at p ≡ None → outcome_shown (events ls) ≡ outcome_at q
leads_outcome c d p q [] r e = sym (ap outcome_at r.1 ∙ e)
leads_outcome c d p q (l ∷ ls) r e = by_end (end_of l) refl (λ none. leads_outcome r.0 d r.1 q ls r.3 none)
  where
    by_end : (o : Option Outcome) → end_of l ≡ o → (outcome_at r.1 ≡ None → outcome_shown (events ls) ≡ outcome_at q)
        → outcome_shown (events (l ∷ ls)) ≡ outcome_at q
    by_end None is rest = label_shown l ls (step_tells r.2).proper is ∙ rest (step_end_of r.2 ∙ is)
    by_end (Some o) is rest = end_shown l ls o is ∙ sym (stays_ended r.0 d r.1 q ls o r.3 (step_end_of r.2 ∙ is))

-- the trace of a run tells the outcome with which the fiber has ended, and none where it has not
pub run_outcome : (b : Origin) (ls : List Label) (c : Counts) (p : Progress) → IsRun b ls c p → outcome_shown (events ls) ≡ outcome_at p
run_outcome b ls c p r = leads_outcome _ c _ p ls r refl
