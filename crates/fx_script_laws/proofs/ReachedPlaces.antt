-- A fiber that began with a term as a script has it has no region but its own wherever it comes.
use Rattle.std.proofs.Common.{◌≡◌, Bool, true, None, List, [], ◌∷◌}
use Rattle.fx_term.specs.Term.{Term}
use Rattle.fx_model.specs.Origin.{Origin}
use Rattle.fx_model.specs.Row.{Counts, Label}
use Rattle.fx_model.specs.Run.{first_counts, Leads, IsRun}
use Rattle.fx_model.specs.Step.{Progress, Runs}
use Rattle.fx_laws.specs.Everywhere.{Place, come_to, CanShowFrom}
use Rattle.fx_script_laws.specs.Cover.{Cover, IsCoveredBy}
use Rattle.fx_script_laws.specs.InScripts.{IsScriptTerm}
use Rattle.fx_script_laws.specs.Interchange.{Anywhere, StopsThere, CanComeTo}
use Rattle.fx_script_laws.specs.Reached.{AreAlikeWhereReached}
use Rattle.fx_script_laws.proofs.AlikeInScripts.{ComeToTheSameWithOwn}
use Rattle.fx_script_laws.proofs.AtClosedPlaces.{AreEndsOfStops, anywhere_ends, stops_end}
use Rattle.fx_script_laws.proofs.OwnRegions.{HasOwnRegions, own_kept}
use Rattle.fx_script_laws.proofs.Renumbered.{no_regions, plain_renumbered}
use Rattle.fx_script_laws.proofs.RenumberedRuns.{runs}

leads_own : (ls : List Label) (c d : Counts) (p q : Progress) → HasOwnRegions c p → Leads c p ls d q → HasOwnRegions d q
leads_own [] c d p q own h = rw (h.0, h.1) own
leads_own (l ∷ ls) c d p q own h = leads_own ls h.0 d h.1 q (own_kept.steps c h.0 p h.1 l own h.2) h.3

run_own : (b : Origin) (ls : List Label) (c : Counts) (p : Progress) → IsScriptTerm b.term → IsRun b ls c p → HasOwnRegions c p
run_own b ls c p is run = leads_own ls (first_counts b) c (Runs b.term) p (runs (plain_renumbered no_regions (λ x. None) b.term is.0 is.1)) run

shown_anywhere : {c : Counts} {p q : Progress} {ls : List Label} → (CanComeTo Anywhere c p ls → CanComeTo Anywhere c q ls) → CanShowFrom c p ls
    → CanShowFrom c q ls
shown_anywhere by h =
    let k = by (record { labels = h.labels; counts = h.counts; progress = h.progress; run = h.run; shown_is = h.shown_is; ends = tt }) in
    record { labels = k.labels; counts = k.counts; progress = k.progress; run = k.run; shown_is = k.shown_is }

module _ (there : Cover → Bool) (t u : Term)
    (comes : (Ends : Counts → Progress → Type 0) → AreEndsOfStops Ends → (s : Cover) (place : Place) → there s ≡ true → IsCoveredBy s place
    → ComeToTheSameWithOwn Ends place t u) where
  pub alike_where_reached : AreAlikeWhereReached there t u
  alike_where_reached =
      record {
        shows = λ b labels c s place is run th at ls.
            (let k = comes Anywhere anywhere_ends s place th at c (run_own b labels c (come_to place t) is run) ls in
            (shown_anywhere k.0, shown_anywhere k.1));
        waits = λ o f ended b labels c s place is run th at ls.
            comes (StopsThere o f ended) (stops_end o f ended) s place th at c (run_own b labels c (come_to place t) is run) ls;
      }
