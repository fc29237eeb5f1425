-- What a request changes: nothing of whether a fiber waits that knows of it.
use Rattle.std.proofs.Common.{◌≡◌, ℕ, Bool, true, false, List, [], ◌∷◌, All, refl, ◌∙◌, ap}
use Rattle.std.proofs.lemmas.List.Elements.{All-nil, All-cons}
use Rattle.fx_term.specs.Term.{Term, Never, Offer, Take, Join, Await, First}
use Rattle.fx_term.specs.declared.event.Event.TheVariants as event
use Rattle.fx_model.specs.Path.{leaf, is_open}
use Rattle.fx_model.specs.Row.{Counts, Label, Silent, Shows, Learns, Starts}
use Rattle.fx_model.specs.Step.{Progress, Runs, Unwinds, CleansUp, HasEnded, Step}
use Rattle.fx_model.specs.Step as step
use Rattle.fx_model.specs.Run.{Leads}
use Rattle.fx_model.specs.Outside.{Outside, can_step, leaf_can_step}
use Rattle.fx_model.specs.Report.{ReportView, is_requested_in}
use Rattle.fx_model.specs.LawfulReport.{IsSeenRightly}
use Rattle.fx_model.proofs.RowLabels.{row_unseen}
use Rattle.fx_model.proofs.StepLabels.{step_tells}
use Rattle.fx_look_laws.proofs.VisibleEvents.{sees_request}

-- whether a fiber can step is told by its own request, and not by those of others
module _ (o : Outside) (asked : ℕ → Bool) where
  abbrev pub asking : Outside
  asking = record o { is_requested = asked }

  leaf_same : (t : Term) → leaf_can_step asking t ≡ leaf_can_step o t
  leaf_same Never = refl
  leaf_same (Offer q v) = refl
  leaf_same (Take q) = refl
  leaf_same (Join f x a e b d) = refl
  leaf_same (Await f) = refl
  leaf_same (First f g) = refl
  leaf_same _ = refl

  pub can_same : (f g : ℕ) → asked g ≡ o.is_requested f → (c : Counts) (p : Progress) → can_step asking g c p ≡ can_step o f c p
  can_same f g e c (Runs t) = let l = leaf_same (leaf t) in rw (e, l) refl
  can_same f g e c (Unwinds xs) = refl
  can_same f g e c (CleansUp k t xs) = leaf_same (leaf t)
  can_same f g e c (HasEnded v) = refl

  -- where it is known to be canceled, a request more is no matter
  pub known_unable : (f : ℕ) (c : Counts) (p : Progress) → c.known ≡ true → can_step o f c p ≡ false → can_step asking f c p ≡ false
  known_unable f c (Runs t) known h = by_open (is_open t) refl
    where
      by_open : (b : Bool) → is_open t ≡ b → can_step asking f c (Runs t) ≡ false
      by_open true is = absurd (let k : can_step o f c (Runs t) ≡ true = rw (known, is) refl in cc)
      by_open false is =
          let was : leaf_can_step o (leaf t) ≡ false = rw is at h in
          rw is (leaf_same (leaf t) ∙ was)
  known_unable f c (Unwinds xs) known h = h
  known_unable f c (CleansUp k t xs) known h = leaf_same (leaf t) ∙ h
  known_unable f c (HasEnded v) known h = h

-- who saw a request knows of it from then on
seen_known : {c d : Counts} {p q : Progress} {l : Label} → Step c p l d q → l ≡ Shows event.Seen → d.known ≡ true
seen_known (step.cancelled m) e = absurd cc
seen_known (step.seen m o) e = refl
seen_known (step.row m r) e = absurd (row_unseen r e)
seen_known (step.succeeds m) e = absurd cc
seen_known (step.errs m) e = absurd cc
seen_known step.finalizer e = absurd cc
seen_known step.release e = absurd cc
seen_known (step.cleans r) e = absurd (row_unseen r e)
seen_known step.finalizer_ends e = absurd cc
seen_known step.release_ends e = absurd cc
seen_known step.unwound e = absurd cc

known_stays : (c d : Counts) (p q : Progress) (ls : List Label) → Leads c p ls d q → c.known ≡ true → d.known ≡ true
known_stays c d p q [] h k = ap (λ (x : Counts). x.known) h.0 ∙ k
known_stays c d p q (l ∷ ls) h k = known_stays h.0 d h.1 q ls h.3 ((step_tells h.2).known k)

pub sees_known : (c d : Counts) (p q : Progress) (ls : List Label) → Leads c p ls d q → sees_request ls ≡ true → d.known ≡ true
sees_known c d p q [] h e = absurd cc
sees_known c d p q (l ∷ ls) h e = by_label l refl e (λ k. sees_known h.0 d h.1 q ls h.3 k)
  where
    by_label : (m : Label) → l ≡ m → sees_request (m ∷ ls) ≡ true → (sees_request ls ≡ true → d.known ≡ true) → d.known ≡ true
    by_label (Shows event.Seen) is k rest = known_stays h.0 d h.1 q ls h.3 (seen_known h.2 is)
    by_label (Shows v) is k rest = rest k
    by_label Silent is k rest = rest k
    by_label (Learns g o v) is k rest = rest k
    by_label (Starts g b) is k rest = rest k

module _ (r : ReportView) (f : ℕ) where
  -- none that saw no request is told wrongly, nor where the fiber was requested
  pub unseen_rightly : (ls : List Label) → sees_request ls ≡ false → All (IsSeenRightly r f) ls
  unseen_rightly [] e = All-nil (IsSeenRightly r f)
  unseen_rightly (l ∷ ls) e = by_label l e (λ h. unseen_rightly ls h)
    where
      by_label : (l : Label) → sees_request (l ∷ ls) ≡ false → (sees_request ls ≡ false → All (IsSeenRightly r f) ls) → All (IsSeenRightly r f) (l ∷ ls)
      by_label (Shows event.Seen) h rest = absurd cc
      by_label (Shows e) h rest = All-cons (IsSeenRightly r f) (Shows e) ls tt (rest h)
      by_label Silent h rest = All-cons (IsSeenRightly r f) Silent ls tt (rest h)
      by_label (Learns g o e) h rest = All-cons (IsSeenRightly r f) (Learns g o e) ls tt (rest h)
      by_label (Starts g b) h rest = All-cons (IsSeenRightly r f) (Starts g b) ls tt (rest h)

  pub asked_rightly : is_requested_in r f ≡ true → (ls : List Label) → All (IsSeenRightly r f) ls
  asked_rightly asked [] = All-nil (IsSeenRightly r f)
  asked_rightly asked (l ∷ ls) = All-cons (IsSeenRightly r f) l ls (one l) (asked_rightly asked ls)
    where
      one : (l : Label) → IsSeenRightly r f l
      one (Shows event.Seen) = asked
      one (Shows _) = tt
      one Silent = tt
      one (Learns g o e) = tt
      one (Starts g b) = tt
