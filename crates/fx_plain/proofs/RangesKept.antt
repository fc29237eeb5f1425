-- The ranges of fiber numbers are apart, and no number of a range has started: so a start finds its number free.
use Rattle.std.proofs.Common.{◌≡◌, ℕ, ◌+◌, ◌<◌, ◌≤◌, Some, None, refl, sym, ◌∙◌, ap, subst, arith, ◌⊎◌, inl, inr}
use Rattle.std.proofs.lemmas.Bool.{cases_eq}
use Rattle.std.proofs.lemmas.Option.{none-some, same_Some}
use Rattle.fx_model.specs.Row.{Counts, Label, Silent, Shows, Learns, Starts}
use Rattle.fx_model.specs.Origin.{Origin}
use Rattle.fx_model.specs.Step.{Progress, Step}
use Rattle.fx_term.specs.Script.{ScriptView, total}
use Rattle.fx_plain.specs.WholeMachine.{StartedFiber, WholeMachine, begun, opening, moved}
use Rattle.fx_term.proofs.MapLaws.{at_that, at_other}
use Rattle.fx_model.specs.NeedLeft.{need_left}
use Rattle.fx_model.proofs.RangeLaws.{step_need}
use Rattle.fx_model.proofs.StepLabels.{step_next, StartsNext, TakesNumbers, step_tells}
use Rattle.fx_plain.proofs.WholeMachineSteps.{Comes, itself, child, other, comes, IsFresh, still_none}

-- the number is in the rest of the fiber's range
pub record Owns (m : WholeMachine) (f n : ℕ) : Type 0 where
  pub fiber : StartedFiber
  pub at : m.fibers f ≡ Some fiber
  pub least : fiber.counts.next ≤ n
  pub below : n < fiber.counts.end

pub record HasRanges (s : ScriptView) (m : WholeMachine) : Type 0 where
  pub room : (f : ℕ) (x : StartedFiber) → m.fibers f ≡ Some x → x.counts.next + need_left x.progress ≤ x.counts.end
  pub apart : (f g n : ℕ) → Owns m f n → Owns m g n → f ≡ g
  pub unstarted : (f n : ℕ) → Owns m f n → m.fibers n ≡ None
  pub below_total : (f : ℕ) (x : StartedFiber) → m.fibers f ≡ Some x → x.counts.end ≤ total s
  pub started_below : (f : ℕ) (x : StartedFiber) → m.fibers f ≡ Some x → f < total s

-- only fiber 0 has started
pub opened_at : (s : ScriptView) (f : ℕ) (x : StartedFiber) → (opening s).fibers f ≡ Some x
    → (f ≡ 0) × (x ≡ begun None (Rattle.fx_model.specs.Origin.main_origin s.term))
opened_at s f x e = elim (cases_eq f 0) [
  | inl same ↦ (same, sym (same_Some _ _ (sym (at_that 0 _ (λ g. None) f same) ∙ e)))
  | inr ne ↦ absurd (none-some x (sym (at_other 0 _ (λ g. None) f ne) ∙ e))
]

pub opening_has_ranges : (s : ScriptView) → HasRanges s (opening s)
opening_has_ranges s = record {
  room = λ f x e. let o = opened_at s f x e in rw o.1 (omega arith);
  apart = λ f g n p q. (opened_at s f p.fiber p.at).0 ∙ sym (opened_at s g q.fiber q.at).0;
  unstarted =
      λ f n p. (let o = opened_at s f p.fiber p.at in let least : 1 ≤ n = (subst (λ (x : StartedFiber). x.counts.next ≤ n) o.1 p.least) in
      at_other 0 _ (λ g. None) n (λ e. omega arith));
  below_total = λ f x e. let o = opened_at s f x e in rw o.1 (omega arith);
  started_below = λ f x e. let o = opened_at s f x e in omega arith;
}

module _ (s : ScriptView) (m : WholeMachine) (f : ℕ) (x : StartedFiber) (d : Counts) (q : Progress) (at : m.fibers f ≡ Some x) (ranges : HasRanges s m) where
  private_room : x.counts.next + need_left x.progress ≤ x.counts.end
  private_room = ranges.room f x at

  -- the number of a start is in the starter's range
  owns_next : (g : ℕ) (b : Origin) → Step x.counts x.progress (Starts g b) d q → Owns m f g
  owns_next g b st =
      let t : StartsNext x.counts d g b = (step_tells st).takes in
      let n = step_need st in
      let room = ranges.room f x at in
      let p = t.number in let p1 = t.next in let p2 = t.end in let p3 = t.after in
      record { fiber = x; at = at; least = omega arith; below = omega arith }

  -- so it has not started
  pub fresh : (l : Label) → Step x.counts x.progress l d q → IsFresh m f x d q l
  fresh (Starts g b) st = ranges.unstarted f g (owns_next g b st)
  fresh Silent st = tt
  fresh (Shows e) st = tt
  fresh (Learns g o e) st = tt

  pub child_is_another : (g : ℕ) (b : Origin) → Step x.counts x.progress (Starts g b) d q → g ≡ f → ⊥
  child_is_another g b st e = none-some x (sym (ranges.unstarted f g (owns_next g b st)) ∙ ap m.fibers e ∙ at)

  module _ (l : Label) (st : Step x.counts x.progress l d q) where
    -- the owner of a number before the step: the starter, for a child and for itself
    record Owned (h n : ℕ) : Type 0 where
      pub before : ℕ
      pub owns : Owns m before n
      pub is : ((h ≡ f) × (before ≡ f) × (d.next ≤ n)) ⊎ (((b : Origin) × (l ≡ Starts h b) × (before ≡ f) × (n < b.end) × (b.next ≤ n))
          ⊎ ((h ≡ f → ⊥) × (before ≡ h)))

    new_owner : (h n : ℕ) → Owns (moved m f x l d q) h n → Owned h n
    new_owner h n o = by_origin o.fiber o.least o.below (comes m f x d q l h o.fiber o.at)
      where
        by_origin : (y : StartedFiber) → y.counts.next ≤ n → n < y.counts.end → Comes m f x l d q h y → Owned h n
        by_origin y least below (itself same is) =
            let low : d.next ≤ n = subst (λ (z : StartedFiber). z.counts.next ≤ n) is least in
            let high : n < d.end = subst (λ (z : StartedFiber). n < z.counts.end) is below in
            let grows = step_next st in
            let e = (step_tells st).end in
            record { before = f; owns = record { fiber = x; at = at; least = omega arith; below = omega arith }; is = inl (same, refl, low) }
        by_origin y least below (child {b = b} ne label is) =
            let low : b.next ≤ n = subst (λ (z : StartedFiber). z.counts.next ≤ n) is least in
            let high : n < b.end = subst (λ (z : StartedFiber). n < z.counts.end) is below in
            let t : StartsNext x.counts d h b = subst (λ (k : Label). TakesNumbers x.counts d k) label (step_tells st).takes in
            let room = ranges.room f x at in
            let needs = step_need st in
            let p = t.number in let p1 = t.next in let p2 = t.end in let p3 = t.after in
            record { before = f; owns = record { fiber = x; at = at; least = omega arith; below = omega arith }; is = inr (inl (b, label, refl, high, low)) }
        by_origin y least below (other ne e) =
            record { before = h; owns = record { fiber = y; at = e; least = least; below = below }; is = inr (inr (ne, refl)) }

    start_facts : (h : ℕ) (b : Origin) → l ≡ Starts h b → StartsNext x.counts d h b
    start_facts h b label = subst (λ (k : Label). TakesNumbers x.counts d k) label (step_tells st).takes

    same_before : (h k n : ℕ) (p : Owned h n) (r : Owned k n) → p.before ≡ r.before
    same_before h k n p r = ranges.apart p.before r.before n p.owns r.owns

    kept_apart : (h k n : ℕ) → Owned h n → Owned k n → h ≡ k
    kept_apart h k n p r = by_cases p.is r.is
      where
        by_cases : ((h ≡ f) × (p.before ≡ f) × (d.next ≤ n))
            ⊎ (((b : Origin) × (l ≡ Starts h b) × (p.before ≡ f) × (n < b.end) × (b.next ≤ n)) ⊎ ((h ≡ f → ⊥) × (p.before ≡ h)))
            → ((k ≡ f) × (r.before ≡ f) × (d.next ≤ n))
            ⊎ (((b : Origin) × (l ≡ Starts k b) × (r.before ≡ f) × (n < b.end) × (b.next ≤ n)) ⊎ ((k ≡ f → ⊥) × (r.before ≡ k)))
            → h ≡ k
        by_cases (inl a) (inl b) = a.0 ∙ sym b.0
        by_cases (inl a) (inr (inl b)) = absurd (let t = start_facts k b.0 b.1 in let e = t.after in let lt = b.3 in let le = a.2 in omega arith)
        by_cases (inl a) (inr (inr b)) = absurd (b.0 (sym b.1 ∙ sym (same_before h k n p r) ∙ a.1))
        by_cases (inr (inl a)) (inl b) = absurd (let t = start_facts h a.0 a.1 in let e = t.after in let lt = a.3 in let le = b.2 in omega arith)
        by_cases (inr (inl a)) (inr (inl b)) = (let e = sym a.1 ∙ b.1 in cc)
        by_cases (inr (inl a)) (inr (inr b)) = absurd (b.0 (sym b.1 ∙ sym (same_before h k n p r) ∙ a.2))
        by_cases (inr (inr a)) (inl b) = absurd (a.0 (sym a.1 ∙ same_before h k n p r ∙ b.1))
        by_cases (inr (inr a)) (inr (inl b)) = absurd (a.0 (sym a.1 ∙ same_before h k n p r ∙ b.2))
        by_cases (inr (inr a)) (inr (inr b)) = sym a.1 ∙ same_before h k n p r ∙ b.1

    -- what is owned after the step is not what it started
    not_started : (h n : ℕ) → Owned h n → (g : ℕ) (b : Origin) → l ≡ Starts g b → n ≡ g → ⊥
    not_started h n p g b label e = by_cases p.is
      where
        t : StartsNext x.counts d g b
        t = start_facts g b label

        by_cases : ((h ≡ f) × (p.before ≡ f) × (d.next ≤ n))
            ⊎ (((c : Origin) × (l ≡ Starts h c) × (p.before ≡ f) × (n < c.end) × (c.next ≤ n)) ⊎ ((h ≡ f → ⊥) × (p.before ≡ h)))
            → ⊥
        by_cases (inl a) = (let le = a.2 in let p = t.number in let p1 = t.next in let p2 = t.end in let p3 = t.after in omega arith)
        by_cases (inr (inl a)) = (let u = start_facts h a.0 a.1 in let le = a.4 in let p1 = u.next in let p2 = u.number in let p3 = t.number in omega arith)
        by_cases (inr (inr a)) =
            a.0 (sym a.1 ∙ ranges.apart p.before f g (subst (Owns m p.before) e p.owns)
            (owns_next g b (subst (λ (k : Label). Step x.counts x.progress k d q) label st)))

    kept_unstarted : (h n : ℕ) → Owned h n → (moved m f x l d q).fibers n ≡ None
    kept_unstarted h n p =
        let free = ranges.unstarted p.before n p.owns in
        still_none m f x d q l n (λ e. none-some x (sym free ∙ ap m.fibers e ∙ at)) (not_started h n p) free

    kept_room : (h : ℕ) (y : StartedFiber) → Comes m f x l d q h y → y.counts.next + need_left y.progress ≤ y.counts.end
    kept_room h y (itself same is) = rw is (let n = step_need st in let e = (step_tells st).end in let r = ranges.room f x at in omega arith)
    kept_room h y (child {b = b} ne label is) = rw is (let t = start_facts h b label in let e = t.end in omega arith)
    kept_room h y (other ne e) = ranges.room h y e

    kept_below : (h : ℕ) (y : StartedFiber) → Comes m f x l d q h y → y.counts.end ≤ total s
    kept_below h y (itself same is) = rw is (let e = (step_tells st).end in let r = ranges.below_total f x at in omega arith)
    kept_below h y (child {b = b} ne label is) =
        rw is (let t = start_facts h b label in let e = t.after in let n = step_need st in let r = ranges.room f x at in let u = ranges.below_total f x at in
        omega arith)
    kept_below h y (other ne e) = ranges.below_total h y e

    kept_started : (h : ℕ) (y : StartedFiber) → Comes m f x l d q h y → h < total s
    kept_started h y (itself same is) = (let u = ranges.started_below f x at in omega arith)
    kept_started h y (child {b = b} ne label is) =
        (let t = start_facts h b label in let e = t.number in let p1 = t.next in let p2 = t.end in let p3 = t.after in let n = step_need st in let r =
        ranges.room f x at in let u = ranges.below_total f x at in omega arith)
    kept_started h y (other ne e) = ranges.started_below h y e

    pub ranges_kept : HasRanges s (moved m f x l d q)
    ranges_kept = record {
      room = λ h y e. kept_room h y (comes m f x d q l h y e);
      apart = λ h k n p r. kept_apart h k n (new_owner h n p) (new_owner k n r);
      unstarted = λ h n p. kept_unstarted h n (new_owner h n p);
      below_total = λ h y e. kept_below h y (comes m f x d q l h y e);
      started_below = λ h y e. kept_started h y (comes m f x d q l h y e);
    }
