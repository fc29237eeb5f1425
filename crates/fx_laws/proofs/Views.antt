-- Runs, by what some view of their labels lets see.
use Rattle.std.proofs.Common.{◌≡◌, List, [], ◌∷◌, ◌++◌, refl, sym, ◌∙◌, ap}
use Rattle.fx_model.specs.Row.{Counts, Label, Silent}
use Rattle.fx_model.specs.Step.{Progress, Step}
use Rattle.fx_model.specs.Run.{Leads}

-- what is seen of labels, of one after the other, and nothing of the silent ones
pub record View : Type 0 where
  pub of : List Label → List Label
  pub of_none : of [] ≡ []
  pub of_more : (l : Label) (ls : List Label) → of (l ∷ ls) ≡ of (l ∷ []) ++ of ls
  pub of_silent : of (Silent ∷ []) ≡ []

module _ (v : View) where
  -- from here some run, ended or not, lets this be seen
  pub record HasRun (c : Counts) (p : Progress) (sees : List Label) : Type 0 where
    pub labels : List Label
    pub counts : Counts
    pub progress : Progress
    pub leads : Leads c p labels counts progress
    pub seen_is : v.of labels ≡ sees

  -- what a run from the first place lets see, one from the second does too
  abbrev pub IsMatched : Counts → Progress → Counts → Progress → Type 0
  IsMatched c p c' p' = (ls : List Label) (d : Counts) (q : Progress) → Leads c p ls d q → HasRun c' p' (v.of ls)

  pub itself : {c : Counts} {p : Progress} → IsMatched c p c p
  itself ls d q h = record { labels = ls; counts = d; progress = q; leads = h; seen_is = refl }

  pub stays : {c : Counts} {p : Progress} → HasRun c p (v.of [])
  stays {c} {p} = record { labels = []; counts = c; progress = p; leads = (refl, refl); seen_is = refl }

  -- one step, and then the rest
  pub step_first : {c d : Counts} {p q : Progress} {l : Label} (ls : List Label) → Step c p l d q → HasRun d q (v.of ls) → HasRun c p (v.of (l ∷ ls))
  step_first {d = d} {q = q} {l = l} ls s h =
      record {
        labels = l ∷ h.labels;
        counts = h.counts;
        progress = h.progress;
        leads = (d, q, s, h.leads);
        seen_is = v.of_more l h.labels ∙ ap (λ (ms : List Label). v.of (l ∷ []) ++ ms) h.seen_is ∙ sym (v.of_more l ls);
      }

  -- one step, of which the same is seen as of that label, and then the rest
  pub step_like : {c d : Counts} {p q : Progress} {l k : Label} (ls : List Label) → v.of (k ∷ []) ≡ v.of (l ∷ []) → Step c p k d q → HasRun d q (v.of ls)
      → HasRun c p (v.of (l ∷ ls))
  step_like {l = l} {k = k} ls like s h =
      let run = step_first ls s h in
      record {
        labels = run.labels;
        counts = run.counts;
        progress = run.progress;
        leads = run.leads;
        seen_is = run.seen_is ∙ v.of_more k ls ∙ ap (λ (ms : List Label). ms ++ v.of ls) like ∙ sym (v.of_more l ls);
      }

  -- one step of which nothing is seen, and then the rest
  pub hidden_first : {c d : Counts} {p q : Progress} {l : Label} {ms : List Label} → v.of (l ∷ []) ≡ [] → Step c p l d q → HasRun d q ms → HasRun c p ms
  hidden_first {d = d} {q = q} {l = l} hidden s h =
      record {
        labels = l ∷ h.labels;
        counts = h.counts;
        progress = h.progress;
        leads = (d, q, s, h.leads);
        seen_is = v.of_more l h.labels ∙ ap (λ (ms : List Label). ms ++ v.of h.labels) hidden ∙ h.seen_is;
      }

  pub silent_first : {c d : Counts} {p q : Progress} {ms : List Label} → Step c p Silent d q → HasRun d q ms → HasRun c p ms
  silent_first s h = hidden_first v.of_silent s h

  -- nothing is seen of that label
  pub of_hidden : {l : Label} (ls : List Label) → v.of (l ∷ []) ≡ [] → v.of (l ∷ ls) ≡ v.of ls
  of_hidden {l} ls hidden = v.of_more l ls ∙ ap (λ (ms : List Label). ms ++ v.of ls) hidden

  pub and_then : {c d e : Counts} {p q r : Progress} → IsMatched c p d q → IsMatched d q e r → IsMatched c p e r
  and_then first second ls d q h =
      let k = first ls d q h in
      let m = second k.labels k.counts k.progress k.leads in
      record { labels = m.labels; counts = m.counts; progress = m.progress; leads = m.leads; seen_is = m.seen_is ∙ k.seen_is }
