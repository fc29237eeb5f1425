-- Lists that keep the order of each fiber's events.
use Rattle.std.proofs.Common.{◌≡◌, ℕ, ◌<◌, Bool, Some, List, refl, sym, ◌∙◌, ap, subst, arith, inl, inr, length}
use Rattle.std.specs.Prelude.{Option, None, IfSome, Vec, slice_get}
use Rattle.std.specs.Global.{Global}
use Rattle.std.specs.List.Sorted.{IsPermutation}
use Rattle.std.proofs.lemmas.Bool.{cases_eq}
use Rattle.std.proofs.lemmas.List.Sorted.{Contains-permutation, IsPermutation-trans}
use Rattle.std.proofs.lemmas.Option.{none-some, same_Some, slice_get_within, slice_get-get_or, slice_get_cases, get_or_from_slice_get}
use Rattle.fx_term.specs.declared.event.Event.{Event}
use Rattle.fx_term.specs.Script.{ScriptView}
use Rattle.fx_model.specs.LawfulReport.{IsLawfulReport}
use Rattle.fx_model.specs.Report.{ReportView, trace_in}
use Rattle.fx_model.specs.ReportStamps.{stamp_in}
use Rattle.fx_order.specs.CausalOrder.{IsCausalOrder}
use Rattle.fx_order.specs.declared.occurrence.Occurrence.{Occurrence}
use Rattle.fx_order.specs.Occurrences.{occurrences}
use Rattle.fx_counts.specs.KeepsOrder.{KeepsOrder, IsReordered}

-- a list in which causes come first keeps it
pub keeps_order-from_causes : (s : ScriptView) (may : ℕ → Bool) (r : ReportView) (lawful : IsLawfulReport s may r) (list : List Occurrence)
    → IsPermutation (occurrences r) list → IsCausalOrder s may r lawful list → KeepsOrder r list
keeps_order-from_causes s may r lawful list whole order = record {
  each_once = whole;
  moment = order.moment;
  stands = order.stands;
  rises = λ f i j lt within. order.in_order.keeps f i j (omega arith) within lt;
}

module _ (r : ReportView) (list other : List Occurrence) (keeps : KeepsOrder r list) (reordered : IsReordered list other) where
  abbrev occurrence : ℕ → ℕ → Event → Occurrence
  occurrence f i e = record { fiber = f; place = i; event = e; stamp = stamp_in r f i }

  -- where an event stands in the other list
  placed : (f i : ℕ) (o : Option Event) → slice_get (trace_in r f) i ≡ o
      → (m : ℕ) × ((e : Event) → o ≡ Some e → slice_get other m ≡ Some (occurrence f i e))
  placed f i None is = (0, λ e none. absurd (none-some e none))
  placed f i (Some e) is =
      let x = occurrence f i e in
      let before = keeps.stands f i e is in
      let here = Contains-permutation list other x reordered.0
      (keeps.moment f i, slice_get_within list (keeps.moment f i) x before, get_or_from_slice_get list (keeps.moment f i) x x before) in (
        here.0,
        λ d same. slice_get-get_or other here.0 x here.1 ∙ ap Some here.2 ∙ ap (λ (z : Event). Some (occurrence f i z)) (same_Some e d same),
      )

  abbrev moment : ℕ → ℕ → ℕ
  moment f i = (placed f i (slice_get (trace_in r f) i) refl).0

  stands : (f i : ℕ) (e : Event) → slice_get (trace_in r f) i ≡ Some e → slice_get other (moment f i) ≡ Some (occurrence f i e)
  stands f i e is = (placed f i (slice_get (trace_in r f) i) refl).1 e is

  event_at : (f i : ℕ) → i < length (trace_in r f) → (e : Event) × (slice_get (trace_in r f) i ≡ Some e)
  event_at f i lt = elim ((slice_get_cases (trace_in r f) i).1) [ inl h ↦ (h.0, h.2) | inr h ↦ absurd (let le = h.0 in omega arith) ]

  rises : (f i j : ℕ) → i < j → j < length (trace_in r f) → moment f i < moment f j
  rises f i j lt within =
      let a = event_at f i (omega arith) in
      let b = event_at f j within in
      let x = occurrence f i a.0 in
      let y = occurrence f j b.0 in
      elim (cases_eq (moment f i) (moment f j)) [
        | inl same ↦
            (let one = same_Some x y (sym (stands f i a.0 a.1) ∙ ap (slice_get other) same ∙ stands f j b.0 b.1) in
            let place : i ≡ j = ap (λ (z : Occurrence). z.place) one in
            absurd (omega arith))
        | inr apart ↦
            (let ne : moment f i ≡ moment f j → ⊥ = apart in
            let back : moment f j < moment f i → ⊥ =
            λ after. (let up = reordered.1 (moment f j) (moment f i) y x after (stands f j b.0 b.1) (stands f i a.0 a.1) refl in omega arith) in
            omega arith)
      ]

  -- a list with the same events whose places rise keeps it too
  pub keeps_order-reordered : KeepsOrder r other
  keeps_order-reordered = record {
    each_once = IsPermutation-trans (occurrences r) list other keeps.each_once reordered.0;
    moment = moment;
    stands = stands;
    rises = rises;
  }

-- what was found of the list as it was keeps it, if the list does
pub found_keeps : (r : ReportView) (list seen : List Occurrence) (found : Option (Vec Occurrence Global)) (better : Vec Occurrence Global)
    (More : List Occurrence → Type 0) → IfSome found (λ (v : Vec Occurrence Global). IsReordered seen v.items × More v.items) → found ≡ Some better
    → seen ≡ list → KeepsOrder r list → KeepsOrder r better.items
found_keeps r list seen found better More is one same keeps =
    let of_it : IsReordered seen better.items × More better.items =
    subst (λ (o : Option (Vec Occurrence Global)). IfSome o (λ (v : Vec Occurrence Global). IsReordered seen v.items × More v.items)) one is in
    keeps_order-reordered r list better.items keeps (subst (λ (l : List Occurrence). IsReordered l better.items) same of_it.0)
