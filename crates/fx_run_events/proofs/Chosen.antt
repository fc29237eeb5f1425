-- The histories by which causes are told: where a queue's is counted, that of the list, and else another one of the report.
use Rattle.std.proofs.Common.{◌≡◌, ℕ, zero, suc, Bool, true, false, Option, Some, None, List, [], ◌∷◌, refl, sym, ◌∙◌, ap, subst, inl, inr, ◌⊎◌}
use Rattle.std.specs.Prelude.{◌==◌, if◌then◌else◌, slice_get}
use Rattle.std.proofs.lemmas.Bool.{eqb-true}
use Rattle.std.proofs.lemmas.Option.{none-some, same_Some}
use Rattle.fx_term.specs.declared.event.Event.{Event}
use Rattle.fx_term.specs.declared.event.Event.TheVariants as event
use Rattle.fx_term.specs.declared.queue_event.QueueEvent.{QueueEvent}
use Rattle.fx_term.specs.declared.queue_event.QueueEvent.TheVariants.{Put, Got}
use Rattle.fx_term.specs.Queue.{queue_event}
use Rattle.fx_term.specs.Script.{ScriptView}
use Rattle.fx_model.specs.LawfulReport.{HasHistory, IsLawfulReport}
use Rattle.fx_model.specs.Report.{ReportView, capacity_of}
use Rattle.fx_order.specs.declared.occurrence.Occurrence.{Occurrence}
use Rattle.fx_counts.specs.declared.at_queue.AtQueue.{AtQueue}
use Rattle.fx_counts.specs.Counted.{IsHistory, AreCounted, history_in}
use Rattle.fx_counts.specs.KeepsOrder.{KeepsOrder}
use Rattle.fx_counts.proofs.Histories.{has_history}

-- an event is one of one queue
pub one_queue : (q p f g : ℕ) (e : Event) (d d' : QueueEvent) → queue_event q f e ≡ Some d → queue_event p g e ≡ Some d' → q ≡ p
one_queue q p f g (event.Put r n) d d' is is' = by_test (r == q) (r == p) refl refl is is'
  where
    by_test : (b c : Bool) → (r == q) ≡ b → (r == p) ≡ c → (if b then Some (Put f n) else None) ≡ Some d
        → (if c then Some (Put g n) else None) ≡ Some d' → q ≡ p
    by_test true true same same' is is' = sym (eqb-true r q same) ∙ eqb-true r p same'
    by_test false c same same' is is' = absurd (none-some d is)
    by_test true false same same' is is' = absurd (none-some d' is')
one_queue q p f g (event.Got r n) d d' is is' = by_test (r == q) (r == p) refl refl is is'
  where
    by_test : (b c : Bool) → (r == q) ≡ b → (r == p) ≡ c → (if b then Some (Got f n) else None) ≡ Some d
        → (if c then Some (Got g n) else None) ≡ Some d' → q ≡ p
    by_test true true same same' is is' = sym (eqb-true r q same) ∙ eqb-true r p same'
    by_test false c same same' is is' = absurd (none-some d is)
    by_test true false same same' is is' = absurd (none-some d' is')
one_queue q p f g _ d d' is is' = absurd (none-some d is)

-- an event of queue q in a list
record HasEvent (q : ℕ) (list : List Occurrence) : Type 0 where
  at : ℕ
  it : Occurrence
  does : QueueEvent
  there : slice_get list at ≡ Some it
  is : queue_event q it.fiber it.event ≡ Some does

abbrev HasNone : ℕ → List Occurrence → Type 0
HasNone q list = (k : ℕ) (x : Occurrence) (d : QueueEvent) → slice_get list k ≡ Some x → queue_event q x.fiber x.event ≡ Some d → ⊥

has_event : (q : ℕ) (list : List Occurrence) → HasEvent q list ⊎ HasNone q list
has_event q [] = inr (λ k x d there is. none-some x there)
has_event q (y ∷ list) = by_first (queue_event q y.fiber y.event) refl (has_event q list)
  where
    behind : HasNone q list → queue_event q y.fiber y.event ≡ None → HasNone q (y ∷ list)
    behind none here zero x d there is =
        none-some d (sym here ∙ ap (λ (z : Occurrence). queue_event q z.fiber z.event) (same_Some y x there) ∙ is)
    behind none here (suc k) x d there is = none k x d there is

    by_first : (o : Option QueueEvent) → queue_event q y.fiber y.event ≡ o → HasEvent q list ⊎ HasNone q list → HasEvent q (y ∷ list) ⊎ HasNone q (y ∷ list)
    by_first (Some d) here rest = inl (record { at = 0; it = y; does = d; there = refl; is = here })
    by_first None here (inl x) = inl (record { at = suc x.at; it = x.it; does = x.does; there = x.there; is = x.is })
    by_first None here (inr none) = inr (behind none here)

module _ (s : ScriptView) (may : ℕ → Bool) (r : ReportView) (lawful : IsLawfulReport s may r) (list : List Occurrence) (counts : List (Option AtQueue)) where
  -- A history of queue q: that of the list, where it is counted and has an event of that queue
  pub record ChosenHistory (q : ℕ) : Type 0 where
    pub history : HasHistory r q (capacity_of s q)
    pub counted : IsHistory s.capacities r list q → (k : ℕ) (x : Occurrence) (d : QueueEvent) → slice_get list k ≡ Some x
        → queue_event q x.fiber x.event ≡ Some d → history.history ≡ history_in q list

  module _ (keeps : KeepsOrder r list) (are : AreCounted s.capacities r list counts) where
    of_list : (q : ℕ) → IsHistory s.capacities r list q → ChosenHistory q
    of_list q history =
        let own = has_history s may r lawful list q keeps history in
        record { history = own.0; counted = λ again k x d there is. own.1 }

    by_count : (q : ℕ) (x : HasEvent q list) (o : Option (Option AtQueue)) → slice_get counts x.at ≡ o → ChosenHistory q
    by_count q x (Some (Some a)) told =
        let so = are.told x.at a x.it x.there told in
        of_list q (subst (λ (p : ℕ). IsHistory s.capacities r list p) (one_queue so.0 q x.it.fiber x.it.fiber x.it.event so.1 x.does so.2 x.is) so.3)
    by_count q x (Some None) told = record {
      history = lawful.histories q;
      counted = λ history k y d there is.
          absurd (let some = are.each x.at q x.it x.does x.there x.is history in
          none-some some.0 (same_Some None (Some some.0) (sym told ∙ some.1)));
    }
    by_count q x None told = record {
      history = lawful.histories q;
      counted = λ history k y d there is.
          absurd (let some = are.each x.at q x.it x.does x.there x.is history in none-some (Some some.0) (sym told ∙ some.1));
    }

    pub chosen : (q : ℕ) → ChosenHistory q
    chosen q = elim (has_event q list) [
      | inl x ↦ by_count q x (slice_get counts x.at) refl
      | inr none ↦ record { history = lawful.histories q; counted = λ history k x d there is. absurd (none k x d there is) }
    ]

  -- where nothing is counted
  pub given : (q : ℕ) → list ≡ [] → ChosenHistory q
  given q empty = record {
    history = lawful.histories q;
    counted = λ history k x d there is.
        absurd (none-some x (subst (λ (l : List Occurrence). slice_get l k ≡ Some x) empty there));
  }
