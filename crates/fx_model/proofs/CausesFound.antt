-- In a lawful report each event that stands on another one finds it there.
use Rattle.std.proofs.Common.{◌≡◌, ◌≢◌, ℕ, zero, suc, ◌<◌, Bool, true, false, Option, Some, None, List, [], ◌∷◌, length, refl, sym, ◌∙◌, ap, subst, arith}
use Rattle.std.proofs.Common.{inl, inr}
use Rattle.std.specs.Prelude.{◌==◌, slice_get, take}
use Rattle.std.proofs.lemmas.Bool.{eqb-true}
use Rattle.std.proofs.lemmas.Option.{none-some, same_Some, slice_get_cases}
use Rattle.fx_term.specs.declared.outcome.Outcome.{Outcome}
use Rattle.fx_term.specs.declared.event.Event.{Event}
use Rattle.fx_term.specs.declared.event.Event.TheVariants as event
use Rattle.fx_term.specs.Script.{ScriptView}
use Rattle.fx_term.specs.Queue.{values_put}
use Rattle.fx_model.specs.Row.{Learns}
use Rattle.fx_model.specs.Run.{events}
use Rattle.fx_model.specs.Report.{FiberReportView, ReportView, fiber_in, trace_of_report, trace_in, capacity_of}
use Rattle.fx_model.specs.LawfulReport.{starts_of, IsLearnt, IsLawfulReport}
use Rattle.fx_model.specs.Causes.{values_got, takings_of, IsLearning, TakesWhatWasPut, LearnsOfEnd, LeavesQueue, FindsItsCauses}
use Rattle.fx_model.proofs.Appended.{at_seam}
use Rattle.fx_model.proofs.Takes.{takes_counted, taken_has_value, fewer_before, taken_was_put}
use Rattle.fx_model.proofs.StepLabels.{IsProper}
use Rattle.fx_model.proofs.EventLabels.{ShownBy, shown_by, run_is_proper, learning_label}
use Rattle.fx_model.proofs.ShownLabels.{shown_holds}
use Rattle.fx_model.proofs.HeadlineLaws.{started_once}

-- an element of a list at a place in it
at_place : {A : Type 0} (xs : List A) (i : ℕ) → i < length xs → (x : A) × (slice_get xs i ≡ Some x)
at_place xs i lt = elim ((slice_get_cases xs i).1) [ inl h ↦ (h.0, h.2) | inr h ↦ absurd (let le = h.0 in omega arith) ]

-- where a trace puts its nth element into queue q, of this value
record PutsNth (q : ℕ) (es : List Event) (nth value : ℕ) : Type 0 where
  pub place : ℕ
  pub at : slice_get es place ≡ Some (event.Put q value)
  pub count : length (values_put q (take place es)) ≡ nth

-- past a put into that queue, and past one into another
past_put : (q r n : ℕ) (es : List Event) (k v : ℕ) → (r == q) ≡ true → PutsNth q es k v → PutsNth q (event.Put r n ∷ es) (suc k) v
past_put q r n es k v is p = record { place = suc p.place; at = p.at; count = rw is (ap suc p.count) }

past_other : (q r n : ℕ) (es : List Event) (k v : ℕ) → (r == q) ≡ false → PutsNth q es k v → PutsNth q (event.Put r n ∷ es) k v
past_other q r n es k v is p = record { place = suc p.place; at = p.at; count = rw is p.count }

same_put : (q r n v : ℕ) → r ≡ q → n ≡ v → ◌≡◌ {A = Option Event} (Some (event.Put r n)) (Some (event.Put q v))
same_put q r n v same is = rw (same, is) refl

puts_nth : (q : ℕ) (es : List Event) (nth v : ℕ) → slice_get (values_put q es) nth ≡ Some v → PutsNth q es nth v
puts_nth q [] nth v e = absurd (none-some v e)
puts_nth q (event.Put r n ∷ es) nth v e = by_test (r == q) refl nth e (λ k later. puts_nth q es k v later)
  where
    by_test : (b : Bool) → (r == q) ≡ b → (nth : ℕ) → slice_get (values_put q (event.Put r n ∷ es)) nth ≡ Some v
        → ((k : ℕ) → slice_get (values_put q es) k ≡ Some v → PutsNth q es k v) → PutsNth q (event.Put r n ∷ es) nth v
    by_test true is zero e rest =
        record { place = 0; at = same_put q r n v (eqb-true r q is) (same_Some n v (rw is at e)); count = refl }
    by_test true is (suc k) e rest = past_put q r n es k v is (rest k (rw is at e))
    by_test false is k e rest = past_other q r n es k v is (rest k (rw is at e))
puts_nth q (_ ∷ es) nth v e = let p = puts_nth q es nth v e in record { place = suc p.place; at = p.at; count = p.count }

-- where a trace starts a fiber
starts_at : (f : ℕ) (es : List Event) → 0 < starts_of f es → (j : ℕ) × (slice_get es j ≡ Some (event.Start f))
starts_at f [] lt = absurd (omega arith)
starts_at f (event.Start g ∷ es) lt = by_test (g == f) refl (λ later. starts_at f es later)
  where
    by_test : (b : Bool) → (g == f) ≡ b → (0 < starts_of f es → (j : ℕ) × (slice_get es j ≡ Some (event.Start f)))
        → (j : ℕ) × (slice_get (event.Start g ∷ es) j ≡ Some (event.Start f))
    by_test true is rest = (0, ap (λ (k : ℕ). Some (event.Start k)) (eqb-true g f is))
    by_test false is rest = let h = rest (rw is at lt) in (suc h.0, h.1)
starts_at f (_ ∷ es) lt = let h = starts_at f es lt in (suc h.0, h.1)

module _ (s : ScriptView) (may : ℕ → Bool) (r : ReportView) (lawful : IsLawfulReport s may r) where
  put_found : (f i q n : ℕ) → slice_get (trace_in r f) i ≡ Some (event.Got q n)
      → (g : ℕ) × (j : ℕ) × TakesWhatWasPut (trace_in r) (LeavesQueue s may r lawful) f i g j
  put_found f i q n got =
      let capacity = capacity_of s q in
      let h = lawful.histories q in
      let last = h.leaves.last in
      let k = length (values_got q (take i (trace_in r f))) in
      let fewer = fewer_before q n (trace_in r f) i got in
      let count = takes_counted capacity q f h.history last (trace_in r f) h.leaves.legal (h.cuts f) in
      let taken = at_place (takings_of f last) k (omega arith) in
      let g = taken.0.item.fiber in
      let there = taken_was_put capacity q f k h.history last taken.0 (trace_in r g) h.leaves.legal (h.cuts g) taken.1 in
      let has = taken_has_value capacity q f n h.history last taken.0 (trace_in r f) i h.leaves.legal (h.cuts f) got taken.1 in
      let put = puts_nth q (trace_in r g) taken.0.item.nth n (there ∙ ap Some has) in (
        g,
        put.place,
        record {
          queue = q;
          value = n;
          got = got;
          state = last;
          left = refl;
          taking = taken.0;
          taken = taken.1;
          fiber = refl;
          of_value = has;
          put = put.at;
          nth = put.count;
        },
      )

  end_found : (f i : ℕ) (e : Event) → slice_get (trace_in r f) i ≡ Some e → IsLearning e
      → (g : ℕ) × (j : ℕ) × LearnsOfEnd (trace_in r) lawful.runs.labels f i g j
  end_found f i e at learning = by_fiber (fiber_in r f) refl
    where
      by_label : (x : FiberReportView) → fiber_in r f ≡ Some x → (h : ShownBy (lawful.runs.labels f) i e)
          → (g : ℕ) × (o : Outcome) × (h.label ≡ Learns g o e) → (g : ℕ) × (j : ℕ) × LearnsOfEnd (trace_in r) lawful.runs.labels f i g j
      by_label x there h l =
          let learnt : IsLearnt r (Learns l.0 l.1 e) =
          subst (IsLearnt r) l.2 (shown_holds (IsLearnt r) (lawful.runs.labels f) i h.label (lawful.learnt f x there) h.at) in (
            l.0,
            length learnt.before,
            record {
              outcome = l.1;
              learning = e;
              learns = h.at ∙ ap Some l.2;
              tells = at;
              ended = ap (λ (es : List Event). slice_get es (length learnt.before)) learnt.is ∙ at_seam learnt.before (event.Ended l.1);
            },
          )

      by_fiber : (o : Option FiberReportView) → fiber_in r f ≡ o → (g : ℕ) × (j : ℕ) × LearnsOfEnd (trace_in r) lawful.runs.labels f i g j
      by_fiber None none = absurd (none-some e (sym (ap (λ (o : Option FiberReportView). slice_get (trace_of_report o) i) none) ∙ at))
      by_fiber (Some x) there =
          let run = lawful.runs.run f x there in
          let told : slice_get (events (lawful.runs.labels f)) i ≡ Some e =
          ap (λ (es : List Event). slice_get es i) run.trace ∙ sym (ap (λ (o : Option FiberReportView). slice_get (trace_of_report o) i) there) ∙ at in
          let h = shown_by (lawful.runs.labels f) i e told in
          let tells = shown_holds IsProper (lawful.runs.labels f) i h.label (run_is_proper _ _ _ _ (lawful.runs.labels f) run.run) h.at in
          by_label x there h (learning_label h.label e tells h.shows learning)

  start_found : (f : ℕ) (x : FiberReportView) → fiber_in r f ≡ Some x → f ≢ 0
      → (g : ℕ) × (j : ℕ) × (x.parent ≡ Some g) × (slice_get (trace_in r g) j ≡ Some (event.Start f))
  start_found f x at ne =
      let h = lawful.starters.others f x at ne in
      let once = started_once s r lawful.starters lawful.runs lawful.origins f h.0 x h.1 at h.2 h.3 in
      let found = starts_at f h.1.trace (omega arith) in
      (h.0, found.0, h.2, ap (λ (o : Option FiberReportView). slice_get (trace_of_report o) found.0) h.3 ∙ found.1)

  pub causes_found : FindsItsCauses s may r lawful
  causes_found = record { puts = put_found; ends = end_found; starts = start_found }
