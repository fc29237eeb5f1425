-- Of whose end a step of a run has learnt, by what is told of where its fiber stood.
use Rattle.std.proofs.Common.{◌≡◌, ℕ, zero, suc, ◌++◌, Option, Some, None, List, [], ◌∷◌, refl, sym, ◌∙◌, ap, subst, inl, inr}
use Rattle.std.specs.Prelude.{slice_get}
use Rattle.std.proofs.lemmas.Bool.{cases_eq, eq-eqb, ne_eqb}
use Rattle.std.proofs.lemmas.Option.{none-some, same_Some}
use Rattle.fx_term.specs.declared.node.Node.{Node}
use Rattle.fx_term.specs.declared.node.NodeId.{NodeId}
use Rattle.fx_term.specs.Script.{ScriptView}
use Rattle.fx_model.specs.Causes.{LearnsOfEnd}
use Rattle.fx_model.specs.LawfulReport.{HasRuns}
use Rattle.fx_model.specs.Report.{FiberReportView, ReportView, trace_of_report, trace_in}
use Rattle.fx_model.specs.Row.{Counts, Label, Silent, Shows, Learns, Starts}
use Rattle.fx_model.specs.Run.{shown}
use Rattle.fx_model.specs.Step.{Progress}
use Rattle.fx_plain.specs.ToldRun.{learned_by}
use Rattle.fx_follow.specs.declared.stand.Stand.{Stand}
use Rattle.fx_follow.specs.Trails.{IsStandAt, LeadsTelling, IsRunTelling}
use Rattle.fx_follow.specs.Followed.{AreToldOf, AreToldBy}
use Rattle.fx_run_events.specs.Causes.{learned_stood}
use Rattle.fx_run_events.proofs.RanEvents.{fiber_of, stands_for}

module _ (nodes : List Node) (d : Counts) (q : Progress) (last : Option NodeId) where
  -- what is told of a step that shows an event tells of whose end it learns
  abbrev LearnsAt : List Label → List Stand → ℕ → Label → Type 0
  LearnsAt ls stands i l = (stand : Stand) × (slice_get stands i ≡ Some stand) × (stand.learned ≡ learned_by l)

  -- of one that is told first, and of later ones
  by_place : (shows l : Label) (p : Progress) (before : Option NodeId) (ls rest : List Label) (stand : Stand) (stands : List Stand) (i : ℕ)
      → IsStandAt nodes p before shows stand → slice_get (shows ∷ rest) i ≡ Some l
      → ((j : ℕ) → slice_get rest j ≡ Some l → LearnsAt ls stands j l) → LearnsAt (shows ∷ ls) (stand ∷ stands) i l
  by_place shows l p before ls rest stand stands zero at is later = (stand, refl, at.learned ∙ ap learned_by (same_Some shows l is))
  by_place shows l p before ls rest stand stands (suc i) at is later = later i is

  of_stands : (ls : List Label) (stands stands' : List Stand) (i : ℕ) (l : Label) → stands ≡ stands' → LearnsAt ls stands' i l → LearnsAt ls stands i l
  of_stands ls stands stands' i l same at = subst (λ (xs : List Stand). LearnsAt ls xs i l) (sym same) at

  learned_at : (ls : List Label) (c : Counts) (p : Progress) (before : Option NodeId) (stands : List Stand) (i : ℕ) (l : Label)
      → LeadsTelling nodes c p before ls stands d q last → slice_get (shown ls) i ≡ Some l → LearnsAt ls stands i l
  learned_at [] c p before stands i l h at = absurd (none-some l at)
  learned_at (Silent ∷ ls) c p before stands i l h at =
      of_stands (Silent ∷ ls) stands h.4 i l (h.7 ∙ ap (λ (xs : List Stand). xs ++ h.4) h.6.0) (learned_at ls h.0 h.1 h.2 h.4 i l h.8 at)
  learned_at (Shows x ∷ ls) c p before stands i l h at =
      of_stands (Shows x ∷ ls) stands (h.6.0 ∷ h.4) i l (h.7 ∙ ap (λ (xs : List Stand). xs ++ h.4) h.6.1)
      (by_place (Shows x) l p before ls (shown ls) h.6.0 h.4 i h.6.2 at (λ j there. learned_at ls h.0 h.1 h.2 h.4 j l h.8 there))
  learned_at (Learns g o x ∷ ls) c p before stands i l h at =
      of_stands (Learns g o x ∷ ls) stands (h.6.0 ∷ h.4) i l (h.7 ∙ ap (λ (xs : List Stand). xs ++ h.4) h.6.1)
      (by_place (Learns g o x) l p before ls (shown ls) h.6.0 h.4 i h.6.2 at (λ j there. learned_at ls h.0 h.1 h.2 h.4 j l h.8 there))
  learned_at (Starts g b ∷ ls) c p before stands i l h at =
      of_stands (Starts g b ∷ ls) stands (h.6.0 ∷ h.4) i l (h.7 ∙ ap (λ (xs : List Stand). xs ++ h.4) h.6.1)
      (by_place (Starts g b) l p before ls (shown ls) h.6.0 h.4 i h.6.2 at (λ j there. learned_at ls h.0 h.1 h.2 h.4 j l h.8 there))

module _ (nodes : List Node) (s : ScriptView) (r : ReportView) (runs : HasRuns s r) where
  told_of_fiber : (fibers : List FiberReportView) (told : List (List Stand)) (f : ℕ) (x : FiberReportView) → AreToldOf nodes runs fibers told
      → fiber_of f fibers ≡ Some x → IsRunTelling nodes (runs.origin f) (runs.labels f) (stands_for told fibers f) (runs.counts f) (runs.progress f)
  told_of_fiber [] told f x are is = absurd (none-some x is)
  told_of_fiber (y ∷ fibers) [] f x are is = absurd are
  told_of_fiber (y ∷ fibers) (stands ∷ told) f x are is = elim (cases_eq y.id f) [
    | inl same ↦ rw (eq-eqb y.id f same)
        (subst (λ (g : ℕ). IsRunTelling nodes (runs.origin g) (runs.labels g) stands (runs.counts g) (runs.progress g)) same are.0)
    | inr other ↦ rw (ne_eqb y.id f other) (told_of_fiber fibers told f x are.1 (rw (ne_eqb y.id f other) at is))
  ]

  -- where the runs are told, an event that learns of an end is told to have learnt of that fiber
  pub is_learned : (told : List (List Stand)) → AreToldBy nodes s r runs told → (f i g j : ℕ) → LearnsOfEnd (trace_in r) runs.labels f i g j
      → learned_stood (slice_get (stands_for told r.fibers f) i) ≡ Some g
  is_learned told are f i g j so = by_fiber (fiber_of f r.fibers) refl
    where
      by_fiber : (o : Option FiberReportView) → fiber_of f r.fibers ≡ o → learned_stood (slice_get (stands_for told r.fibers f) i) ≡ Some g
      by_fiber None none =
          absurd (none-some so.learning (ap (λ (x : Option FiberReportView). slice_get (trace_of_report x) i) (sym none) ∙ so.tells))
      by_fiber (Some x) is =
          let way = told_of_fiber r.fibers told f x are is in
          let at = learned_at nodes (runs.counts f) (runs.progress f) way.0 (runs.labels f) _ _ None (stands_for told r.fibers f) i
          (Learns g so.outcome so.learning) way.1 so.learns in
          ap learned_stood at.1 ∙ at.2

-- of no fibers nothing is told
pub nothing_stood : (fibers : List FiberReportView) (f : ℕ) → stands_for [] fibers f ≡ []
nothing_stood [] f = refl
nothing_stood (x ∷ fibers) f = elim (cases_eq x.id f) [
  | inl same ↦ rw (eq-eqb x.id f same) refl
  | inr other ↦ rw (ne_eqb x.id f other) (nothing_stood fibers f)
]
