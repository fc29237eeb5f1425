-- What others see of a fiber tells whether it has ended: so two terms that look the same end the same.
use Rattle.std.proofs.Common.{◌≡◌, ℕ, true, false, not, Some, List, refl, sym, ◌∙◌, ap}
use Rattle.std.proofs.lemmas.Option.{none-some}
use Rattle.fx_term.specs.Term.{Term}
use Rattle.fx_term.specs.declared.outcome.Outcome.{Outcome}
use Rattle.fx_model.specs.Origin.{Origin}
use Rattle.fx_model.specs.Row.{Counts, Label}
use Rattle.fx_model.specs.Run.{events}
use Rattle.fx_model.specs.Step.{Progress, Runs, Unwinds, CleansUp, HasEnded, has_ended}
use Rattle.fx_model.specs.Outside.{Outside, outcome_at}
use Rattle.fx_model.proofs.EventLabels.{run_is_proper}
use Rattle.fx_model.proofs.OutcomeLaws.{run_outcome}
use Rattle.fx_laws.specs.Others.{OthersCanSee, LooksLikeAllOf, IsCanceledAlone, LookTheSameUnlessCanceledAlone}
use Rattle.fx_script_laws.specs.Interchange.{StopsThere}
use Rattle.fx_look_laws.specs.LookAlike.{visible_events}
use Rattle.fx_look_laws.proofs.VisibleEvents.{same_outcome, visible_shown}
use Rattle.fx_look_laws.specs.FibersLookAlike.{CanEndSo, EndsLikeAllOf, of_ended, of_ended_but_alone, is_canceled_alone}

outcome_there : (p : Progress) → has_ended p ≡ true → (o : Outcome) × (outcome_at p ≡ Some o)
outcome_there (HasEnded o) e = (o, refl)
outcome_there (Runs t) e = absurd cc
outcome_there (Unwinds xs) e = absurd cc
outcome_there (CleansUp k t xs) e = absurd cc

ended_stops : (o : Outside) (f : ℕ) (c : Counts) (p : Progress) (v : Outcome) → outcome_at p ≡ Some v → StopsThere o f true c p
ended_stops o f c (HasEnded w) v e = (refl, refl)
ended_stops o f c (Runs t) v e = absurd (none-some v e)
ended_stops o f c (Unwinds xs) v e = absurd (none-some v e)
ended_stops o f c (CleansUp k t xs) v e = absurd (none-some v e)

-- where one has ended, so has another that looks the same
ends_so : (o : Outside) (f : ℕ) (b b' : Origin) (ls : List Label) → CanEndSo (StopsThere o f true) b ls → OthersCanSee b' ls
    → CanEndSo (StopsThere o f true) b' ls
ends_so o f b b' ls h k =
    record {
      labels = k.labels;
      counts = k.counts;
      progress = k.progress;
      run = k.run;
      visible_is = k.visible_is;
      ends = ended_stops o f k.counts k.progress was.0
          (sym (run_outcome b' k.labels k.counts k.progress k.run) ∙ same_outcome (events k.labels) (events h.labels) same
          ∙ run_outcome b h.labels h.counts h.progress h.run ∙ was.1);
    }
  where
    was : (v : Outcome) × (outcome_at h.progress ≡ Some v)
    was = outcome_there h.progress h.ends.1

    same : visible_events (events k.labels) ≡ visible_events (events h.labels)
    same =
        sym (visible_shown k.labels (run_is_proper _ _ _ _ k.labels k.run)) ∙ ap events (k.visible_is ∙ sym h.visible_is)
        ∙ visible_shown h.labels (run_is_proper _ _ _ _ h.labels h.run)

forget_end : {Ends : Counts → Progress → Type 0} {b : Origin} {ls : List Label} → CanEndSo Ends b ls → OthersCanSee b ls
forget_end h = record { labels = h.labels; counts = h.counts; progress = h.progress; run = h.run; visible_is = h.visible_is }

pub looks_ended : (o : Outside) (f : ℕ) (t u : Term) (next end : ℕ) (ls : List Label)
    → (OthersCanSee (record { term = u; next = next; end = end }) ls → OthersCanSee (record { term = t; next = next; end = end }) ls)
    → CanEndSo (StopsThere o f true) (record { term = u; next = next; end = end }) ls
    → CanEndSo (StopsThere o f true) (record { term = t; next = next; end = end }) ls
looks_ended o f t u next end ls looks h = ends_so o f _ _ ls h (looks (forget_end h))

pub ended_like_all : (t u : Term) → LooksLikeAllOf t u → EndsLikeAllOf of_ended t u
ended_like_all t u all o f next end true ls so h = looks_ended o f t u next end ls (all next end ls) h
ended_like_all t u all o f next end false ls so h = absurd cc

-- not so of one that was canceled, with nothing else to see
not_alone : (ls : List Label) → not (is_canceled_alone (events ls)) ≡ true → IsCanceledAlone ls → ⊥
not_alone ls so alone = absurd (let e : not (is_canceled_alone (events ls)) ≡ false = rw alone refl in cc)

pub ended_like_unless : (t u : Term) → LookTheSameUnlessCanceledAlone t u → EndsLikeAllOf of_ended_but_alone u t
ended_like_unless t u same o f next end true ls so h = looks_ended o f u t next end ls (same next end ls (not_alone ls so)).0 h
ended_like_unless t u same o f next end false ls so h = absurd cc

pub ended_unless_back : (t u : Term) → LookTheSameUnlessCanceledAlone t u → EndsLikeAllOf of_ended_but_alone t u
ended_unless_back t u same o f next end true ls so h = looks_ended o f t u next end ls (same next end ls (not_alone ls so)).1 h
ended_unless_back t u same o f next end false ls so h = absurd cc
