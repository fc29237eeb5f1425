-- A fiber that is requested only once its end has been learnt of sees no request, where causes come first.
use Rattle.std.proofs.Common.{◌≡◌, ◌≢◌, ℕ, zero, suc, ◌<◌, ◌≤◌, inl, inr, Bool, true, false, Option, Some, None, List, [], ◌∷◌, ◌++◌, All}
use Rattle.std.proofs.Common.{refl, sym, ◌∙◌, ap, subst, arith}
use Rattle.std.specs.Prelude.{◌||◌, length, slice_get, Contains}
use Rattle.std.specs.List.{list_any}
use Rattle.std.proofs.lemmas.Bool.{cases_eq, eq-eqb}
use Rattle.std.proofs.lemmas.Option.{none-some, same_Some, slice_get_within}
use Rattle.std.proofs.lemmas.List.Elements.{All-nil, All-cons}
use Rattle.fx_term.specs.declared.outcome.Outcome.{Outcome}
use Rattle.fx_term.specs.declared.event.Event.{Event}
use Rattle.fx_term.specs.declared.event.Event.TheVariants as event
use Rattle.fx_term.specs.Script.{ScriptView}
use Rattle.fx_model.specs.Row.{Label, Silent, Shows, Learns, Starts}
use Rattle.fx_model.specs.Run.{IsUnrequested, events, shown}
use Rattle.fx_model.specs.Report.{FiberReportView, ReportView, fiber_in, trace_of_report, trace_in, outcome_shown, is_request_for}
use Rattle.fx_model.specs.LawfulReport.{EndsWith}
use Rattle.fx_model.specs.Causes.{end_of_other, IsLawfulInOneOrder}
use Rattle.fx_spawn_laws.proofs.StartedFibers.{fiber_ends}

abbrev pub RequestsNone : ℕ → List Event → Type 0
RequestsNone x es = list_any (is_request_for x) es ≡ false

-- no element passes a test, so none of them does
passes_none : {X : Type 0} (p : X → Bool) (xs : List X) (i : ℕ) (x : X) → list_any p xs ≡ false → slice_get xs i ≡ Some x → p x ≡ false
passes_none p [] i x none at = absurd (none-some x at)
passes_none p (y ∷ ys) zero x none at = by_test (p y) refl
  where
    same : y ≡ x
    same = same_Some y x at

    by_test : (b : Bool) → p y ≡ b → p x ≡ false
    by_test true e = absurd (let h : (true || list_any p ys) ≡ false = rw e at none in cc)
    by_test false e = ap p (sym same) ∙ e
passes_none p (y ∷ ys) (suc i) x none at = passes_none p ys i x (rest_none (p y) refl) at
  where
    rest_none : (b : Bool) → p y ≡ b → list_any p ys ≡ false
    rest_none true e = absurd (let h : (true || list_any p ys) ≡ false = rw e at none in cc)
    rest_none false e = rw e at none

request_found : (x : ℕ) (es : List Event) (i : ℕ) → RequestsNone x es → slice_get es i ≡ Some (event.Request x) → ⊥
request_found x es i none at =
    let no = passes_none (is_request_for x) es i (event.Request x) none at in let yes : is_request_for x (event.Request x) ≡ true = eq-eqb x x refl in cc

-- what is not among the first elements comes after them
comes_after : (x : ℕ) (pre post : List Event) (i : ℕ) → RequestsNone x pre → slice_get (pre ++ post) i ≡ Some (event.Request x) → length pre ≤ i
comes_after x [] post i none at = omega arith
comes_after x (e ∷ es) post zero none at =
    absurd (request_found x (e ∷ []) 0 (first_none (is_request_for x e) refl) (ap Some (same_Some e (event.Request x) at)))
  where
    first_none : (b : Bool) → is_request_for x e ≡ b → RequestsNone x (e ∷ [])
    first_none true is = absurd (let h : (true || list_any (is_request_for x) es) ≡ false = rw is at none in cc)
    first_none false is = rw is refl
comes_after x (e ∷ es) post (suc i) none at = let h = comes_after x es post i (rest_none (is_request_for x e) refl) at in omega arith
  where
    rest_none : (b : Bool) → is_request_for x e ≡ b → RequestsNone x es
    rest_none true is = absurd (let h : (true || list_any (is_request_for x) es) ≡ false = rw is at none in cc)
    rest_none false is = rw is at none

-- labels without a request that is seen, by their events
pub unseen_events : (ls : List Label) → ((i : ℕ) → slice_get (events ls) i ≡ Some event.Seen → ⊥) → All IsUnrequested ls
unseen_events [] none = All-nil IsUnrequested
unseen_events (Silent ∷ ls) none = All-cons IsUnrequested Silent ls (λ e. cc) (unseen_events ls none)
unseen_events (Shows k ∷ ls) none =
    All-cons IsUnrequested (Shows k) ls (λ e. none 0 (let same : k ≡ event.Seen = cc in ap Some same)) (unseen_events ls (λ i at. none (suc i) at))
unseen_events (Learns g o k ∷ ls) none = All-cons IsUnrequested (Learns g o k) ls (λ e. cc) (unseen_events ls (λ i at. none (suc i) at))
unseen_events (Starts g b ∷ ls) none = All-cons IsUnrequested (Starts g b) ls (λ e. cc) (unseen_events ls (λ i at. none (suc i) at))

last_at : (es : List Event) (e : Event) → slice_get (es ++ e ∷ []) (length es) ≡ Some e
last_at [] e = refl
last_at (k ∷ es) e = last_at es e

length_one_more : (es : List Event) (e : Event) → length (es ++ e ∷ []) ≡ suc (length es)
length_one_more [] e = refl
length_one_more (k ∷ es) e = ap suc (length_one_more es e)

-- among these labels the end of x is learnt of, and no request for x comes before that
pub record IsLearntFirst (x : ℕ) (ls : List Label) : Type 0 where
  pub pre : List Event
  pub post : List Event
  pub split : events ls ≡ pre ++ post
  pub unasked : RequestsNone x pre
  pub place : ℕ
  pub outcome : Outcome
  pub learning : Event
  pub learns : slice_get (shown ls) place ≡ Some (Learns x outcome learning)
  pub tells : slice_get (events ls) place ≡ Some learning
  pub early : place < length pre

module _ (s : ScriptView) (may : ℕ → Bool) (r : ReportView) (h : IsLawfulInOneOrder s may r) (alone : r.outside ≡ []) where
  abbrev main_labels : List Label
  main_labels = h.lawful.runs.labels 0

  main_trace : trace_in r 0 ≡ events main_labels
  main_trace =
      let main = h.lawful.starters.main in ap trace_of_report main.1 ∙ sym (h.lawful.runs.run 0 main.0 main.1).trace

  nobody_outside : (f : ℕ) → Contains r.outside f → ⊥
  nobody_outside f held = let none : Contains [] f = subst (λ (ns : List ℕ). Contains ns f) alone held in absurd (omega (arith, none.1))

  -- no other fiber requests x
  abbrev pub OthersRequestNone : ℕ → Type 0
  OthersRequestNone x = (f : ℕ) (y : FiberReportView) → fiber_in r f ≡ Some y → f ≢ 0 → RequestsNone x (events (h.lawful.runs.labels f))

  module _ (x : ℕ) (y : FiberReportView) (told_of : fiber_in r x ≡ Some y) (others : OthersRequestNone x) (o : Outcome)
      (ended : outcome_shown (trace_in r x) ≡ Some o) (first : IsLearntFirst x main_labels) (outcome_is : first.outcome ≡ o) where
    there : (f : ℕ) (v : Option FiberReportView) → fiber_in r f ≡ v → (i : ℕ) (e : Event) → slice_get (trace_in r f) i ≡ Some e
        → (z : FiberReportView) × (fiber_in r f ≡ Some z)
    there f None is i e at = absurd (let none : slice_get [] i ≡ Some e = ap (λ (es : List Event). slice_get es i) (sym (ap trace_of_report is)) ∙ at in
        none-some e none)
    there f (Some z) is i e at = (z, is)

    by_main : (f i : ℕ) → slice_get (trace_in r f) i ≡ Some (event.Request x) → f ≡ 0
    by_main f i at = elim (cases_eq f 0) [
      | inl e ↦ e
      | inr ne ↦
          (let z = there f (fiber_in r f) refl i (event.Request x) at in
          let run = h.lawful.runs.run f z.0 z.1 in
          absurd (request_found x (events (h.lawful.runs.labels f)) i (others f z.0 z.1 ne)
          (ap (λ (es : List Event). slice_get es i) (run.trace ∙ sym (ap trace_of_report z.1)) ∙ at)))
    ]

    ends : EndsWith (trace_in r x) o
    ends =
        let e = fiber_ends s may r h.lawful x y told_of o ended in
        record { before = e.ends.before; is = ap trace_of_report e.is_fiber ∙ e.ends.is }

    -- a request that it saw came before its end, and so before main learnt of that, and before main's request
    no_request_seen : (i : ℕ) → slice_get (trace_in r x) i ≡ Some event.Seen → ⊥
    no_request_seen i at =
        let asked = h.causes.in_order.requested x i at (nobody_outside x) in
        let main = by_main asked.by asked.place asked.request in
        let request : slice_get (trace_in r 0) asked.place ≡ Some (event.Request x) =
        subst (λ (f : ℕ). slice_get (trace_in r f) asked.place ≡ Some (event.Request x)) main asked.request in
        let before = subst (λ (f : ℕ). h.causes.moment f asked.place < h.causes.moment x i) main asked.before in
        let there_at : slice_get (first.pre ++ first.post) asked.place ≡ Some (event.Request x) =
        ap (λ (es : List Event). slice_get es asked.place) (sym (main_trace ∙ first.split)) ∙ request in
        let late = comes_after x first.pre first.post asked.place first.unasked there_at in
        let tells : slice_get (trace_in r 0) first.place ≡ Some first.learning =
        ap (λ (es : List Event). slice_get es first.place) main_trace ∙ first.tells in
        let end_at : slice_get (trace_in r x) (length ends.before) ≡ Some (event.Ended first.outcome) =
        ap (λ (es : List Event). slice_get es (length ends.before)) ends.is ∙ last_at ends.before (event.Ended o)
        ∙ ap (λ (v : Outcome). Some (event.Ended v)) (sym outcome_is) in
        let within = slice_get_within (trace_in r x) i event.Seen at in
        let long = ap length ends.is ∙ length_one_more ends.before (event.Ended o) in
        let not_last : i ≢ length ends.before = λ same.
        let both : Some event.Seen ≡ Some (event.Ended first.outcome) =
        sym (subst (λ (j : ℕ). slice_get (trace_in r x) j ≡ Some event.Seen) same at) ∙ end_at in
        cc in
        let early = first.early in
        let order = h.causes.in_order in
        let main_in = slice_get_within (trace_in r 0) asked.place (event.Request x) request in
        let learn_in = slice_get_within (trace_in r 0) first.place first.learning tells in
        let end_in = slice_get_within (trace_in r x) (length ends.before) (event.Ended first.outcome) end_at in
        let in_main = order.keeps 0 first.place asked.place learn_in main_in (omega arith) in
        let in_child = order.keeps x i (length ends.before) within end_in (below i (length ends.before) (length (trace_in r x)) within long not_last) in
        let learnt = order.needed 0 first.place x (length ends.before) learn_in end_in
        (end_of_other (record { outcome = first.outcome; learning = first.learning; learns = first.learns; tells = tells; ended = end_at })) in
        absurd (omega arith)
      where
        below : (i n m : ℕ) → i < m → m ≡ suc n → i ≢ n → i < n
        below i n m lt is ne = elim (cases_eq i n) [ inl e ↦ absurd (ne e) | inr other ↦ (let k = other in nat_below i n m lt is k) ]
          where
            nat_below : (i n m : ℕ) → i < m → m ≡ suc n → i ≢ n → i < n
            nat_below i n m lt is ne = omega arith

    pub sees_none : All IsUnrequested (h.lawful.runs.labels x)
    sees_none =
        let run = h.lawful.runs.run x y told_of in
        unseen_events (h.lawful.runs.labels x)
        (λ i at. no_request_seen i (ap (λ (es : List Event). slice_get es i) (ap trace_of_report told_of ∙ sym run.trace) ∙ at))
