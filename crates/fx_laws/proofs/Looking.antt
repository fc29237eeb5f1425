-- The view of what others can see.
use Rattle.std.proofs.Common.{◌≡◌, ℕ, List, [], ◌∷◌, ◌++◌, refl, ◌∙◌}
use Rattle.fx_term.specs.declared.event.Event.TheVariants as event
use Rattle.fx_term.specs.Term.{Term}
use Rattle.fx_model.specs.Row.{Label, Silent, Shows, Learns, Starts}
use Rattle.fx_model.specs.Step.{Runs}
use Rattle.fx_model.specs.Run.{first_counts}
use Rattle.fx_laws.specs.Others.{visible, OthersCanSee}
use Rattle.fx_laws.proofs.Views.{View, HasRun}

pub visible_more : (l : Label) (ls : List Label) → visible (l ∷ ls) ≡ visible (l ∷ []) ++ visible ls
visible_more Silent ls = refl
visible_more (Shows event.Seen) ls = refl
visible_more (Shows event.SelfRequest) ls = refl
visible_more (Shows event.Cancelled) ls = refl
visible_more (Shows (event.Acquired k)) ls = refl
visible_more (Shows (event.Begin k)) ls = refl
visible_more (Shows (event.End k)) ls = refl
visible_more (Shows e) ls = refl
visible_more (Learns f o e) ls = refl
visible_more (Starts f b) ls = refl

abbrev pub looking : View
looking = record { of = visible; of_none = refl; of_more = visible_more; of_silent = refl }

-- a run from the beginning of which others see what is wanted
pub can_see : {t : Term} {next end : ℕ} {ls ms : List Label} → ls ≡ ms
    → HasRun looking (first_counts (record { term = t; next = next; end = end })) (Runs t) ls → OthersCanSee (record { term = t; next = next; end = end }) ms
can_see e h = record { labels = h.labels; counts = h.counts; progress = h.progress; run = h.leads; visible_is = h.seen_is ∙ e }
