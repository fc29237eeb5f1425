-- Stamps that are greater than those of causes give one order.
use Rattle.std.proofs.Common.{◌≡◌, ◌≢◌, ℕ, zero, suc, ◌+◌, ◌*◌, ◌<◌, ◌≤◌, min, max, Some, List, length, refl, sym, ◌∙◌, ap, subst, arith, inl, inr}
use Rattle.std.specs.Prelude.{slice_get}
use Rattle.std.proofs.Math.Nat.{suc-mul}
use Rattle.std.proofs.lemmas.Bool.{cases_eq}
use Rattle.std.proofs.lemmas.Option.{slice_get_cases, slice_get_within}
use Rattle.fx_term.specs.declared.event.Event.{Event}
use Rattle.fx_term.specs.declared.event.Event.TheVariants as event
use Rattle.fx_term.specs.Queue.{QueueState}
use Rattle.fx_model.specs.Row.{Label}
use Rattle.fx_model.specs.Causes.{Needs, taken_element, end_of_other, start, IsEvent, IsRequestedBefore, IsOneOrder}
use Rattle.fx_model.specs.Stamps.{top, stamp_before, HasNoCause, IsRequestStamp, IsStamped, IsBelowTop, IsBefore}

-- one more than the greater of two is above both, unless it is the top
above : (t a b n : ℕ) → n ≡ min (max a b + 1) t → n ≢ t → (a < n) × (b < n)
above t a b n e ne = (let apart : n ≡ t → ⊥ = ne in omega arith, let apart : n ≡ t → ⊥ = ne in omega arith)

-- one more than the greater of two that are 0
one_of_none : (t a b n : ℕ) → 1 ≤ t → a ≡ 0 → b ≡ 0 → n ≡ min (max a b + 1) t → n ≡ 1
one_of_none t a b n le za zb e = omega arith

-- an element of a list at a place in it
at_place : {A : Type 0} (xs : List A) (i : ℕ) → i < length xs → (x : A) × (slice_get xs i ≡ Some x)
at_place xs i lt = elim ((slice_get_cases xs i).1) [ inl h ↦ (h.0, h.2) | inr h ↦ absurd (let le = h.0 in omega arith) ]

-- pairs of numbers, of which the second is less than n, by the first and then by the second
turn_less : (s t n : ℕ) → s < t → s * n + n ≤ t * n
turn_less s zero n lt = absurd (omega arith)
turn_less zero (suc t) n lt = let e = suc-mul t n in let z : 0 * n ≡ 0 = omega arith in omega arith
turn_less (suc s) (suc t) n lt =
    let e = suc-mul s n in
    let f = suc-mul t n in
    let rest = turn_less s t n (omega arith) in
    omega arith

pub less_first : (s t f g n : ℕ) → s < t → f < n → s * n + f < t * n + g
less_first s t f g n lt below = let turn = turn_less s t n lt in omega arith

pub less_second : (s t f g n : ℕ) → s ≡ t → f < g → s * n + f < t * n + g
less_second s t f g n e lt = let same : s * n ≡ t * n = ap (λ (k : ℕ). k * n) e in omega arith

-- two numbers of which neither is less are one
same_place : (i j : ℕ) → (i < j → ⊥) → (j < i → ⊥) → i ≡ j
same_place zero zero p q = refl
same_place zero (suc j) p q = absurd (p (omega arith))
same_place (suc i) zero p q = absurd (q (omega arith))
same_place (suc i) (suc j) p q = ap suc (same_place i j (λ lt. p (omega arith)) (λ lt. q (omega arith)))

pub same_both : (s t f g n : ℕ) → f < n → g < n → s * n + f ≡ t * n + g → (s ≡ t) × (f ≡ g)
same_both s t f g n lf lg e =
    let same = same_place s t (λ lt. let h = less_first s t f g n lt lf in omega arith) (λ lt. let h = less_first t s g f n lt lg in omega arith) in
    let level : s * n ≡ t * n = ap (λ (k : ℕ). k * n) same in
    (same, omega arith)

module _ (trace : ℕ → List Event) (labels : ℕ → List Label) (IsLeft : ℕ → QueueState → Type 0) (IsFromOutside : ℕ → Type 0) (began : ℕ → ℕ)
    (stamp cause : ℕ → ℕ → ℕ) (st : IsStamped trace labels IsLeft IsFromOutside began stamp cause) where
  -- the stamp of an event is above the one before it and that of its cause, unless it is the greatest
  pub rises_one : (f i : ℕ) → IsEvent trace f i → stamp f i ≢ top → (stamp_before (began f) (stamp f) i < stamp f i) × (cause f i < stamp f i)
  rises_one f i lt ne = above top (stamp_before (began f) (stamp f) i) (cause f i) (stamp f i) (st.each f i lt) ne

  -- the first event of all has the stamp 1
  pub first_is_one : (e : Event) → slice_get (trace 0) 0 ≡ Some e → HasNoCause e → stamp 0 0 ≡ 1
  first_is_one e at quiet =
      one_of_none top (began 0) (cause 0 0) (stamp 0 0) (omega arith) st.main ((st.causes 0 0 e at).none quiet)
      (st.each 0 0 (slice_get_within (trace 0) 0 e at))

module _ (trace : ℕ → List Event) (labels : ℕ → List Label) (IsLeft : ℕ → QueueState → Type 0) (IsFromOutside : ℕ → Type 0) (began : ℕ → ℕ)
    (stamp cause : ℕ → ℕ → ℕ) (st : IsStamped trace labels IsLeft IsFromOutside began stamp cause) (below : IsBelowTop trace stamp) where
  rises : (f i : ℕ) → IsEvent trace f i → (stamp_before (began f) (stamp f) i < stamp f i) × (cause f i < stamp f i)
  rises f i lt = rises_one trace labels IsLeft IsFromOutside began stamp cause st f i lt (below f i lt)

  -- the stamps of a fiber rise
  stamps_rise : (f i j : ℕ) → IsEvent trace f j → i < j → stamp f i < stamp f j
  stamps_rise f i zero lt less = absurd (omega arith)
  stamps_rise f i (suc j) lt less =
      let one : stamp f j < stamp f (suc j) = (rises f (suc j) lt).0 in
      elim (cases_eq i j) [
        | inl same ↦ (let at : stamp f i ≡ stamp f j = ap (stamp f) same in omega arith)
        | inr ne ↦ (let apart : i ≡ j → ⊥ = ne in let rest = stamps_rise f i j (omega arith) (omega arith) in omega arith)
      ]

  first_rises : (f i : ℕ) → IsEvent trace f i → i ≡ 0 → began f < stamp f i
  first_rises f zero lt e = (rises f zero lt).0
  first_rises f (suc i) lt e = absurd (omega arith)

  -- the stamp of what an event stands on is less
  cause_is_less : (f i g j : ℕ) → IsEvent trace f i → Needs trace labels IsLeft f i g j → stamp g j < stamp f i
  cause_is_less f i g j lt (taken_element t) =
      let is = (st.causes f i (event.Got t.queue t.value) t.got).took g j t in let up = (rises f i lt).1 in omega arith
  cause_is_less f i g j lt (end_of_other l) =
      let here = at_place (trace f) i lt in
      let is = (st.causes f i here.0 here.1).learnt g j l in let up = (rises f i lt).1 in omega arith
  cause_is_less f i g j lt (start z e) = let is = st.child f g j e in let up = first_rises f i lt z in omega arith

  request_is_less : (f i : ℕ) → slice_get (trace f) i ≡ Some event.Seen → (IsFromOutside f → ⊥) → (n : ℕ) → n ≡ stamp f i
      → (q : IsRequestStamp trace stamp f (cause f i)) × (cause f i < n)
  request_is_less f i e none n is = elim ((st.causes f i event.Seen e).saw refl) [
    | inl q ↦ (q, (let up = (rises f i (slice_get_within (trace f) i event.Seen e)).1 in omega arith))
    | inr o ↦ absurd (none o.0)
  ]

  module _ (n : ℕ) (few : (f i : ℕ) → IsEvent trace f i → f < n) where
    -- the moment of an event, by its stamp and then by its fiber
    abbrev pub moment : ℕ → ℕ → ℕ
    moment f i = stamp f i * n + f

    pub moments_by_stamp : (f i g j : ℕ) → IsEvent trace f i → IsEvent trace g j → IsBefore stamp f i g j → moment f i < moment g j
    moments_by_stamp f i g j lf lg before = elim before [
      | inl lt ↦ less_first (stamp f i) (stamp g j) f g n lt (few f i lf)
      | inr h ↦ less_second (stamp f i) (stamp g j) f g n h.0 h.1
    ]

    by_stamp_alone : (f i g j : ℕ) → IsEvent trace f i → stamp f i < stamp g j → moment f i < moment g j
    by_stamp_alone f i g j lf lt = less_first (stamp f i) (stamp g j) f g n lt (few f i lf)

    one_place : (f i j : ℕ) → IsEvent trace f i → IsEvent trace f j → stamp f i ≡ stamp f j → i ≡ j
    one_place f i j lf lg e =
        same_place i j (λ lt. let h = stamps_rise f i j lg lt in omega arith) (λ lt. let h = stamps_rise f j i lf lt in omega arith)

    distinct : (f i g j : ℕ) → IsEvent trace f i → IsEvent trace g j → moment f i ≡ moment g j → (f ≡ g) × (i ≡ j)
    distinct f i g j lf lg e =
        let h = same_both (stamp f i) (stamp g j) f g n (few f i lf) (few g j lg) e in
        let there : IsEvent trace f j = subst (λ (k : ℕ). IsEvent trace k j) (sym h.1) lg in
        (h.1, one_place f i j lf there (h.0 ∙ ap (λ (k : ℕ). stamp k j) (sym h.1)))

    request_before : (f i : ℕ) → slice_get (trace f) i ≡ Some event.Seen → (IsFromOutside f → ⊥) → IsRequestedBefore trace moment f (moment f i)
    request_before f i e none =
        let h = request_is_less f i e none (stamp f i) refl in
        let q = h.0 in
        let is = q.is in
        let lt = h.1 in
        record {
          by = q.by;
          place = q.place;
          request = q.request;
          before =
              by_stamp_alone q.by q.place f i (slice_get_within (trace q.by) q.place (event.Request f) q.request) (omega arith);
        }

    pub in_order : IsOneOrder trace labels IsLeft IsFromOutside moment
    in_order = record {
      distinct = distinct;
      keeps = λ f i j lf lg lt. by_stamp_alone f i f j lf (stamps_rise f i j lg lt);
      needed = λ f i g j lf lg need. by_stamp_alone g j f i lg (cause_is_less f i g j lf need);
      requested = request_before;
    }
