-- Each fiber but the main one is started once, by its parent; and each fiber has a run from what it began with.
use Rattle.std.specs.Prelude.{if◌then◌else◌}
use Rattle.std.proofs.Common.{◌≡◌, ℕ, ◌+◌, false, Option, Some, None, List, [], ◌∷◌, ◌++◌, length, refl, sym, ◌∙◌, ap, subst, arith, inl, inr}
use Rattle.std.specs.List.{filter}
use Rattle.std.proofs.lemmas.Bool.{cases_eq, eq-eqb, ne_eqb}
use Rattle.std.proofs.lemmas.Option.{none-some, same_Some}
use Rattle.std.proofs.lemmas.List.{length-append}
use Rattle.std.proofs.lemmas.List.Elements.{filter-append}
use Rattle.fx_term.specs.declared.event.Event.{Event}
use Rattle.fx_term.specs.declared.event.Event.TheVariants as event
use Rattle.fx_model.specs.Row.{Counts, Label, Silent, Shows, Learns, Starts}
use Rattle.fx_model.specs.Origin.{Origin}
use Rattle.fx_model.specs.Step.{Progress, Step}
use Rattle.fx_model.specs.Run.{IsRun, events}
use Rattle.fx_model.specs.Origin.{main_origin}
use Rattle.fx_model.proofs.Runs.{leads_on, events_append}
use Rattle.fx_term.specs.Script.{ScriptView}
use Rattle.fx_model.specs.LawfulReport.{is_start_of, starts_of, is_parent}
use Rattle.fx_plain.specs.WholeMachine.{StartedFiber, WholeMachine, begun, opening, stepped, moved}
use Rattle.fx_plain.proofs.Maps.{same_number}
use Rattle.fx_model.proofs.StepLabels.{IsProper, step_tells}
use Rattle.fx_plain.proofs.WholeMachineSteps.{Comes, itself, child, other, comes, still_itself, still_other, still_none, child_is_there}
use Rattle.fx_plain.proofs.RangesKept.{HasRanges, opened_at, fresh, child_is_another}

abbrev pub parent_of_fiber : Option StartedFiber → Option ℕ
parent_of_fiber None = None
parent_of_fiber (Some x) = x.parent

abbrev pub parent_of : WholeMachine → ℕ → Option ℕ
parent_of m f = parent_of_fiber (m.fibers f)

abbrev pub labels_of_fiber : Option StartedFiber → List Label
labels_of_fiber None = []
labels_of_fiber (Some x) = x.labels

abbrev pub labels_of : WholeMachine → ℕ → List Label
labels_of m f = labels_of_fiber (m.fibers f)

pub record IsFamily (s : ScriptView) (m : WholeMachine) : Type 0 where
  pub main : (x : StartedFiber) × (m.fibers 0 ≡ Some x) × (x.parent ≡ None) × (x.origin ≡ main_origin s.term)
  pub others : (f : ℕ) (x : StartedFiber) → m.fibers f ≡ Some x → (f ≡ 0 → ⊥) → (p : ℕ) × (y : StartedFiber) × (x.parent ≡ Some p) × (m.fibers p ≡ Some y)
  pub parents : (f : ℕ) (x : StartedFiber) (p : ℕ) → m.fibers f ≡ Some x → x.parent ≡ Some p → (y : StartedFiber) × (m.fibers p ≡ Some y)
  pub once : (g : ℕ) (y : StartedFiber) → m.fibers g ≡ Some y → (f : ℕ) → starts_of f (events y.labels) ≡ (if is_parent (parent_of m f) g then 1 else 0)
  pub runs : (f : ℕ) (x : StartedFiber) → m.fibers f ≡ Some x → IsRun x.origin x.labels x.counts x.progress

pub starts_append : (f : ℕ) (es fs : List Event) → starts_of f (es ++ fs) ≡ starts_of f es + starts_of f fs
starts_append f es fs = ap length (filter-append (is_start_of f) es fs) ∙ length-append (filter (is_start_of f) es) (filter (is_start_of f) fs)

-- no label but a start's shows one
starts_none : (f : ℕ) (l : Label) → IsProper l → ((g : ℕ) (b : Origin) → l ≡ Starts g b → ⊥) → starts_of f (events (l ∷ [])) ≡ 0
starts_none f Silent h n = refl
starts_none f (Shows (event.Start g)) h n = absurd h
starts_none f (Shows _) h n = refl
starts_none f (Learns g o (event.Joined k p)) h n = refl
starts_none f (Learns g o (event.Awaited k)) h n = refl
starts_none f (Learns g o (event.First k)) h n = refl
starts_none f (Learns g o _) h n = absurd h
starts_none f (Starts g b) h n = absurd (n g b refl)

pub opening_is_family : (s : ScriptView) → IsFamily s (opening s)
opening_is_family s = record {
  main = (begun None (main_origin s.term), refl, refl, refl);
  others = λ f x e ne. absurd (ne (opened_at s f x e).0);
  parents = λ f x p e is. absurd (let o = opened_at s f x e in none-some p (sym (ap (λ (y : StartedFiber). y.parent) o.1) ∙ is));
  once = λ g y e f. let o = opened_at s g y e in rw o.1 (by_number f g);
  runs = λ f x e. let o = opened_at s f x e in rw o.1 (refl, refl);
}
  where
    by_number : (f g : ℕ) → ◌≡◌ {A = ℕ} 0 (if is_parent (parent_of (opening s) f) g then 1 else 0)
    by_number f g = elim (cases_eq f 0) [ inl e ↦ rw (eq-eqb f 0 e) refl | inr ne ↦ rw (ne_eqb f 0 ne) refl ]

module _ (s : ScriptView) (m : WholeMachine) (f : ℕ) (x : StartedFiber) (d : Counts) (q : Progress) (at : m.fibers f ≡ Some x) (ranges : HasRanges s m)
    (family : IsFamily s m) where
  -- the fibers but a new child have the parents that they had
  parent_kept : (l : Label) → Step x.counts x.progress l d q → (k : ℕ) → ((g : ℕ) (b : Origin) → l ≡ Starts g b → k ≡ g → ⊥)
      → parent_of (moved m f x l d q) k ≡ parent_of m k
  parent_kept l st k ne = elim (cases_eq k f) [
    | inl e ↦ ap (parent_of (moved m f x l d q)) e ∙ ap parent_of_fiber (still_itself m f x d q l) ∙ sym (ap parent_of_fiber at) ∙ ap (parent_of m) (sym e)
    | inr apart ↦ by_fiber apart (m.fibers k) refl
  ]
    where
      by_fiber : (k ≡ f → ⊥) → (o : Option StartedFiber) → m.fibers k ≡ o → parent_of (moved m f x l d q) k ≡ parent_of m k
      by_fiber apart (Some y) e = ap parent_of_fiber (still_other m f x d q l k y apart (fresh s m f x d q at ranges l st) e) ∙ sym (ap parent_of_fiber e)
      by_fiber apart None e = ap parent_of_fiber (still_none m f x d q l k apart ne e) ∙ sym (ap parent_of_fiber e)

  abbrev Once : Label → ℕ → List Label → ℕ → Type 0
  Once l g ls k = starts_of k (events ls) ≡ (if is_parent (parent_of (moved m f x l d q) k) g then 1 else 0)

  -- a step that starts nobody
  once_as_before : (l : Label) → Step x.counts x.progress l d q → ((g : ℕ) (b : Origin) → l ≡ Starts g b → ⊥) → (g : ℕ) (y : StartedFiber)
      → Comes m f x l d q g y → (k : ℕ) → Once l g y.labels k
  once_as_before l st none g y (child {b = b} ne label is) k = absurd (none g b label)
  once_as_before l st none g y (other ne e) k =
      family.once g y e k ∙ sym (ap (λ (p : Option ℕ). if is_parent p g then 1 else 0) (parent_kept l st k (λ h b label same. none h b label)))
  once_as_before l st none g y (itself same is) k =
      ap (λ (z : StartedFiber). starts_of k (events z.labels)) is
      ∙ ap (starts_of k) (events_append x.labels (l ∷ [])) ∙ starts_append k (events x.labels) (events (l ∷ []))
      ∙ ap (λ (n : ℕ). starts_of k (events x.labels) + n) (starts_none k l (step_tells st).proper none)
      ∙ (let e : starts_of k (events x.labels) + 0 ≡ starts_of k (events x.labels) = omega arith in e)
      ∙ family.once f x at k
      ∙ sym (ap (λ (p : Option ℕ). if is_parent p f then 1 else 0) (parent_kept l st k (λ h b label same. none h b label)))
      ∙ ap (λ (n : ℕ). if is_parent (parent_of (moved m f x l d q) k) n then 1 else 0) (sym same)

  module _ (h : ℕ) (b : Origin) (st : Step x.counts x.progress (Starts h b) d q) where
    free : m.fibers h ≡ None
    free = fresh s m f x d q at ranges (Starts h b) st

    another : h ≡ f → ⊥
    another = child_is_another s m f x d q at ranges h b st

    parent_of_child : parent_of (moved m f x (Starts h b) d q) h ≡ Some f
    parent_of_child = ap parent_of_fiber (child_is_there m f x d q h b another)

    parent_of_other : (k : ℕ) → (k ≡ h → ⊥) → parent_of (moved m f x (Starts h b) d q) k ≡ parent_of m k
    parent_of_other k ne = parent_kept (Starts h b) st k (λ g c label same. ne (same ∙ (let e = label in cc)))

    -- the child is nobody's parent
    child_has_none : (k : ℕ) → is_parent (parent_of (moved m f x (Starts h b) d q) k) h ≡ false
    child_has_none k = elim (cases_eq k h) [
      | inl e ↦ rw (e, parent_of_child) (ne_eqb f h (λ same. another (sym same)))
      | inr ne ↦ rw (parent_of_other k ne) (by_parent (m.fibers k) refl)
    ]
      where
        by_number : (y : StartedFiber) (p : Option ℕ) → m.fibers k ≡ Some y → y.parent ≡ p → is_parent p h ≡ false
        by_number y None e is = refl
        by_number y (Some p) e is = ne_eqb p h (λ same. let z = family.parents k y p e is in none-some z.0 (sym free ∙ ap m.fibers (sym same) ∙ z.1))

        by_parent : (o : Option StartedFiber) → m.fibers k ≡ o → is_parent (parent_of_fiber (m.fibers k)) h ≡ false
        by_parent None e = rw e refl
        by_parent (Some y) e = rw e (by_number y y.parent e refl)

    started_before : (g : ℕ) (y : StartedFiber) → m.fibers g ≡ Some y → starts_of h (events y.labels) ≡ 0
    started_before g y e = family.once g y e h ∙ rw free refl

    abbrev Count : ℕ → List Label → ℕ → Type 0
    Count g ls k = Once (Starts h b) g ls k

    once_itself : (k : ℕ) → Count f (x.labels ++ Starts h b ∷ []) k
    once_itself k =
        ap (starts_of k) (events_append x.labels (Starts h b ∷ [])) ∙ starts_append k (events x.labels) (event.Start h ∷ [])
        ∙ elim (cases_eq k h) [
          | inl e ↦ subst (λ (j : ℕ). starts_of j (events x.labels) + starts_of j (event.Start h ∷ []) ≡
              (if is_parent (parent_of (moved m f x (Starts h b) d q) j) f then 1 else 0)) (sym e) itself
          | inr ne ↦ rw (ne_eqb h k (λ same. ne (sym same)), parent_of_other k ne) (let e = family.once f x at k in omega arith)
        ]
      where
        itself : starts_of h (events x.labels) + starts_of h (event.Start h ∷ []) ≡ (if is_parent (parent_of (moved m f x (Starts h b) d q) h) f then 1 else 0)
        itself =
            ap (λ (n : ℕ). n + starts_of h (event.Start h ∷ [])) (started_before f x at) ∙ one
            ∙ sym (ap (λ (p : Option ℕ). if is_parent p f then 1 else 0) parent_of_child ∙ own)
          where
            one : 0 + starts_of h (event.Start h ∷ []) ≡ 1
            one = rw (same_number h) (omega arith)

            own : ◌≡◌ {A = ℕ} (if is_parent (Some f) f then 1 else 0) 1
            own = rw (same_number f) refl

    once_with_child : (g : ℕ) (y : StartedFiber) → Comes m f x (Starts h b) d q g y → (k : ℕ) → Count g y.labels k
    once_with_child g y (itself same is) k = rw (is, same) (once_itself k)
    once_with_child g y (child {b = c} ne label is) k = (let e : g ≡ h = (let l = label in cc) in rw (is, e, child_has_none k) refl)
    once_with_child g y (other ne e) k = elim (cases_eq k h) [
      | inl same ↦ rw (same, parent_of_child, ne_eqb f g (λ z. ne (sym z))) (started_before g y e)
      | inr apart ↦ rw (parent_of_other k apart) (family.once g y e k)
    ]

  module _ (l : Label) (st : Step x.counts x.progress l d q) where
    once_kept : (g : ℕ) (y : StartedFiber) → Comes m f x l d q g y → (k : ℕ) → Once l g y.labels k
    once_kept g y o k = by_label l st o
      where
        by_label : (l : Label) → Step x.counts x.progress l d q → Comes m f x l d q g y → Once l g y.labels k
        by_label (Starts h b) st o = once_with_child h b st g y o k
        by_label Silent st o = once_as_before Silent st (λ h b e. cc) g y o k
        by_label (Shows e) st o = once_as_before (Shows e) st (λ h b e. cc) g y o k
        by_label (Learns h p e) st o = once_as_before (Learns h p e) st (λ h b e. cc) g y o k

    -- a fiber that was there is still there
    still_there : (p : ℕ) (y : StartedFiber) → m.fibers p ≡ Some y → (z : StartedFiber) × ((moved m f x l d q).fibers p ≡ Some z)
    still_there p y e = elim (cases_eq p f) [
      | inl same ↦ (stepped x l d q, ap (moved m f x l d q).fibers same ∙ still_itself m f x d q l)
      | inr ne ↦ (y, still_other m f x d q l p y ne (fresh s m f x d q at ranges l st) e)
    ]

    parents_kept : (k : ℕ) (y : StartedFiber) (p : ℕ) → Comes m f x l d q k y → y.parent ≡ Some p → (z : StartedFiber) × ((moved m f x l d q).fibers p ≡ Some z)
    parents_kept k y p (itself same is) e = (let old = family.parents f x p at (sym (ap (λ (z : StartedFiber). z.parent) is) ∙ e) in still_there p old.0 old.1)
    parents_kept k y p (child ne label is) e =
        (let same : f ≡ p = same_Some f p (sym (ap (λ (z : StartedFiber). z.parent) is) ∙ e) in still_there p x (ap m.fibers (sym same) ∙ at))
    parents_kept k y p (other ne at') e = (let old = family.parents k y p at' e in still_there p old.0 old.1)

    others_kept : (k : ℕ) (y : StartedFiber) → Comes m f x l d q k y → (k ≡ 0 → ⊥) → (p : ℕ) × (y.parent ≡ Some p)
    others_kept k y (itself same is) ne = (let old = family.others f x at (λ e. ne (same ∙ e)) in (old.0, ap (λ (z : StartedFiber). z.parent) is ∙ old.2))
    others_kept k y (child ne' label is) ne = (f, ap (λ (z : StartedFiber). z.parent) is)
    others_kept k y (other ne' e) ne = (let old = family.others k y e ne in (old.0, old.2))

    runs_kept : (k : ℕ) (y : StartedFiber) → Comes m f x l d q k y → IsRun y.origin y.labels y.counts y.progress
    runs_kept k y (itself same is) = rw is (leads_on _ _ x.labels x.counts x.progress l d q (family.runs f x at) st)
    runs_kept k y (child ne label is) = rw is (refl, refl)
    runs_kept k y (other ne e) = family.runs k y e

    main_kept : (y : StartedFiber) × ((moved m f x l d q).fibers 0 ≡ Some y) × (y.parent ≡ None) × (y.origin ≡ main_origin s.term)
    main_kept = elim (cases_eq 0 f) [
      | inl same ↦ (let e : family.main.0 ≡ x = same_Some family.main.0 x (sym family.main.1 ∙ ap m.fibers same ∙ at) in (
        stepped x l d q,
        ap (moved m f x l d q).fibers same ∙ still_itself m f x d q l,
        sym (ap (λ (z : StartedFiber). z.parent) e)
            ∙ family.main.2,
        sym (ap (λ (z : StartedFiber). z.origin) e) ∙ family.main.3,
      ))
      | inr ne ↦ (family.main.0, still_other m f x d q l 0 family.main.0 ne (fresh s m f x d q at ranges l st) family.main.1, family.main.2, family.main.3)
    ]

    pub family_kept : IsFamily s (moved m f x l d q)
    family_kept = record {
      main = main_kept;
      others =
          λ k y e ne. (let p = others_kept k y (comes m f x d q l k y e) ne in let z = parents_kept k y p.0 (comes m f x d q l k y e) p.1 in
          (p.0, z.0, p.1, z.1));
      parents = λ k y p e is. parents_kept k y p (comes m f x d q l k y e) is;
      once = λ g y e k. once_kept g y (comes m f x d q l g y e) k;
      runs = λ k y e. runs_kept k y (comes m f x d q l k y e);
    }
