-- The view of all labels but the silent ones.
use Rattle.std.proofs.Common.{◌≡◌, ℕ, false, List, [], ◌∷◌, ◌++◌, refl, ◌∙◌}
use Rattle.fx_term.specs.Term.{Term}
use Rattle.fx_model.specs.Path.{Context}
use Rattle.fx_model.specs.Row.{Counts, Label, Silent, Shows, Learns, Starts}
use Rattle.fx_model.specs.Step.{Progress, Runs}
use Rattle.fx_model.specs.Run.{first_counts, shown}
use Rattle.fx_model.specs.MaskLaws.{CanShow, ShowTheSame}
use Rattle.fx_laws.specs.Everywhere.{placed, Place, InTerm, CanShowFrom, ShowTheSameAt, ShowTheSameEverywhere}
use Rattle.fx_laws.proofs.Views.{View, IsMatched}
use Rattle.fx_laws.proofs.SameHere.{AreSameHere}

pub shown_more : (l : Label) (ls : List Label) → shown (l ∷ ls) ≡ shown (l ∷ []) ++ shown ls
shown_more Silent ls = refl
shown_more (Shows e) ls = refl
shown_more (Learns f o e) ls = refl
shown_more (Starts f b) ls = refl

abbrev pub showing : View
showing = record { of = shown; of_none = refl; of_more = shown_more; of_silent = refl }

pub shows_too : {c : Counts} {p q : Progress} {ls : List Label} → IsMatched showing c p c q → CanShowFrom c p ls → CanShowFrom c q ls
shows_too m h =
    let k = m h.labels h.counts h.progress h.run in
    record { labels = k.labels; counts = k.counts; progress = k.progress; run = k.leads; shown_is = k.seen_is ∙ h.shown_is }

from_here : {t : Term} {next end : ℕ} {ls : List Label} → CanShow (record { term = t; next = next; end = end }) ls
    → CanShowFrom (first_counts (record { term = t; next = next; end = end })) (Runs t) ls
from_here h = record { labels = h.labels; counts = h.counts; progress = h.progress; run = h.run; shown_is = h.shown_is }

from_there : {t : Term} {next end : ℕ} {ls : List Label} → CanShowFrom (first_counts (record { term = t; next = next; end = end })) (Runs t) ls
    → CanShow (record { term = t; next = next; end = end }) ls
from_there h = record { labels = h.labels; counts = h.counts; progress = h.progress; run = h.run; shown_is = h.shown_is }

pub everywhere : (t u : Term) → ((place : Place) → AreSameHere showing place t u) → ShowTheSameEverywhere t u
everywhere t u same place c ls = (shows_too (same place c).0, shows_too (same place c).1)

-- of whole fibers
pub whole_of_place : (fs : List Context) (t u : Term) → ShowTheSameAt (InTerm fs) t u → ShowTheSame (placed fs t) (placed fs u)
whole_of_place fs t u same next end ls =
    let begin : Counts = record { masks = 0; acquired = 0; next = next; end = end; known = false } in
    (λ h. from_there ((same begin ls).0 (from_here h)), λ h. from_there ((same begin ls).1 (from_here h)))

pub whole_of_everywhere : (fs : List Context) (t u : Term) → ShowTheSameEverywhere t u → ShowTheSame (placed fs t) (placed fs u)
whole_of_everywhere fs t u same = whole_of_place fs t u (same (InTerm fs))
