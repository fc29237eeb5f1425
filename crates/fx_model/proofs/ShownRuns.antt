-- Runs and what they show.
use Rattle.std.proofs.Common.{◌≡◌, ℕ, Bool, true, false, not, List, [], ◌∷◌, ◌++◌, refl, sym, ◌∙◌, ap, subst}
use Rattle.fx_term.specs.Term.{Term}
use Rattle.fx_model.specs.Path.{is_open, must_cancel}
use Rattle.fx_model.specs.Row.{Counts, Label, Silent, Shows, Learns, Starts, Row}
use Rattle.fx_model.specs.Step.{Progress, Runs, Step, row}
use Rattle.fx_model.specs.Run.{first_counts, Leads, shown}
use Rattle.fx_model.specs.MaskLaws.{CanShow}

pub leads_append : (c : Counts) (p : Progress) (ls ms : List Label) (d e : Counts) (q r : Progress) → Leads c p ls d q → Leads d q ms e r
    → Leads c p (ls ++ ms) e r
leads_append c p [] ms d e q r h k = rw (← h.0, ← h.1) k
leads_append c p (l ∷ ls) ms d e q r h k = (h.0, h.1, h.2, leads_append h.0 h.1 ls ms d e q r h.3 k)

shown_append : (ls ms : List Label) → shown (ls ++ ms) ≡ shown ls ++ shown ms
shown_append [] ms = refl
shown_append (Silent ∷ ls) ms = shown_append ls ms
shown_append (Shows e ∷ ls) ms = ap (λ (ns : List Label). Shows e ∷ ns) (shown_append ls ms)
shown_append (Learns f o e ∷ ls) ms = ap (λ (ns : List Label). Learns f o e ∷ ns) (shown_append ls ms)
shown_append (Starts f b ∷ ls) ms = ap (λ (ns : List Label). Starts f b ∷ ns) (shown_append ls ms)

-- steps that show this lead from here to there
pub record Reaches (c : Counts) (p : Progress) (shows : List Label) (d : Counts) (q : Progress) : Type 0 where
  pub labels : List Label
  pub leads : Leads c p labels d q
  pub shown_is : shown labels ≡ shows

pub stays : {c : Counts} {p : Progress} → Reaches c p [] c p
stays = record { labels = []; leads = (refl, refl); shown_is = refl }

pub steps : {c d : Counts} {p q : Progress} {l : Label} → Step c p l d q → Reaches c p (shown (l ∷ [])) d q
steps {d = d} {q = q} {l = l} s = record { labels = l ∷ []; leads = (d, q, s, (refl, refl)); shown_is = refl }

pub and_then : {c d e : Counts} {p q r : Progress} {ls ms : List Label} → Reaches c p ls d q → Reaches d q ms e r → Reaches c p (ls ++ ms) e r
and_then {c} {d} {e} {p} {q} {r} a b = record {
  labels = a.labels ++ b.labels;
  leads = leads_append c p a.labels b.labels d e q r a.leads b.leads;
  shown_is = let f = a.shown_is in let g = b.shown_is in let h = shown_append a.labels b.labels in cc;
}

pub row_step : {k : Bool} {c d : Counts} {l : Label} {t u : Term} → must_cancel c.known t ≡ false → k ≡ not (is_open t) → Row k c t l d u
    → Step c (Runs t) l d (Runs u)
row_step {c = c} {d = d} {l = l} {t = t} {u = u} free closed r = row free (subst (λ (k : Bool). Row k c t l d u) closed r)

-- some run from here shows this
pub record HasRun (c : Counts) (p : Progress) (shows : List Label) : Type 0 where
  pub counts : Counts
  pub progress : Progress
  pub reaches : Reaches c p shows counts progress

-- what a label shows, and then the rest
pub after : {c d : Counts} {p q : Progress} (l : Label) (ls : List Label) → Reaches c p (shown (l ∷ [])) d q → HasRun d q (shown ls)
    → HasRun c p (shown (l ∷ ls))
after {c} {p = p} l ls first rest =
    subst (λ (shows : List Label). HasRun c p shows) (sym (shown_append (l ∷ []) ls))
    (record { counts = rest.counts; progress = rest.progress; reaches = and_then first rest.reaches })

-- silent steps, and then the rest
pub before : {c d : Counts} {p q : Progress} {ls : List Label} → Reaches c p [] d q → HasRun d q ls → HasRun c p ls
before first rest = record { counts = rest.counts; progress = rest.progress; reaches = and_then first rest.reaches }

-- a run from the beginning shows what is wanted
pub can_show : {t : Term} {next end : ℕ} {ls ms : List Label} → ls ≡ ms → HasRun (first_counts (record { term = t; next = next; end = end })) (Runs t) ls
    → CanShow (record { term = t; next = next; end = end }) ms
can_show e h = record { labels = h.reaches.labels; counts = h.counts; progress = h.progress; run = h.reaches.leads; shown_is = h.reaches.shown_is ∙ e }

-- silent steps of the table, each the only one at a closed place
pub data Enters : Counts → Term → Counts → Term → Type 0 where
  entered : {c : Counts} {t : Term} → Enters c t c t
  enters : {c d e : Counts} {t u v : Term} → is_open t ≡ false → Row true c t Silent d u
      → ((l : Label) (d' : Counts) (u' : Term) → Row true c t l d' u' → (l ≡ Silent) × (d' ≡ d) × (u' ≡ u)) → Enters d u e v → Enters c t e v

pub closed_must : (known : Bool) (t : Term) → is_open t ≡ false → must_cancel known t ≡ false
closed_must known t h = rw h refl

pub never_canceled : (known : Bool) (t : Term) → is_open t ≡ false → must_cancel known t ≡ true → ⊥
never_canceled known t h must = let p = closed_must known t h in cc

pub closed_row : {c d : Counts} {l : Label} {t u : Term} → is_open t ≡ false → Row (not (is_open t)) c t l d u → Row true c t l d u
closed_row {c} {d} {l} {t} {u} h r = subst (λ (b : Bool). Row (not b) c t l d u) h r

pub enters_silently : {c d : Counts} {t u : Term} → Enters c t d u → Reaches c (Runs t) [] d (Runs u)
enters_silently entered = stays
enters_silently {c} (enters {d = d} {t = t} {u = u} closed r only rest) =
    and_then (steps {l = Silent} (row (closed_must c.known t closed) (rw closed r))) (enters_silently rest)
