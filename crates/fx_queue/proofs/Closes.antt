-- A pass that has taken in all pops what is left.
use Rattle.std.proofs.Common.{◌≡◌, ◌≢◌, ℕ, List, [], ◌∷◌, ◌++◌, ◌⊎◌, inl, inr, ⊎_elim, length, map, refl, sym, ◌∙◌, ap, subst, arith, append-nil, append_assoc}
use mathlib.Core.Logic.{dite}
use native.Mathlib.Decide.{ℕ_discrete}
use Rattle.crossbeam_queue.specs.Fifo.{Held}
use Rattle.fx_term.specs.declared.item.Item.{Item}
use Rattle.fx_term.specs.Element.{Element, element_of, elements_of, stamp_of, stamps_of}
use Rattle.fx_term.specs.declared.queue_event.QueueEvent.{QueueEvent}
use Rattle.fx_term.specs.declared.queue_event.QueueEvent.TheVariants.{Got}
use Rattle.fx_queue.specs.declared.entry.Entry.{Entry}
use Rattle.fx_queue.specs.declared.pass_view.PassView.{PassView}
use Rattle.fx_term.specs.Lists.{Among}
use Rattle.fx_term.specs.Queue.{cut, Leaves, erase_event}
use Rattle.fx_queue.specs.PassView.{In, IsWhole, with_act}
use Rattle.fx_queue.specs.Told.{stands, DidGet, IsRest}
use Rattle.fx_term.proofs.LeavesLaws.{leaves_one}
use Rattle.fx_queue.proofs.Histories.{cut-own, cut-other, nothing_more, alike_more, alike_same, cut_none}

-- the view has an entry of the fiber f, or none
found_among : (f : ℕ) (es : List Entry) → ((e : Entry) × Among e es × (e.id ≡ f)) ⊎ ((e : Entry) → Among e es → e.id ≢ f)
found_among f [] = inr (λ e k. absurd k)
found_among f (d ∷ es) = dite (ℕ_discrete d.id f) (λ y. inl (d, inl refl, y))
    (λ n. ⊎_elim (λ t. inl (t.0, inr t.1, t.2))
    (λ t. inr (λ e k z. ⊎_elim (λ s. n (sym (ap (λ (u : Entry). u.id) s) ∙ z)) (λ s. t e s z) k)) (found_among f es))

found_in : (f : ℕ) (v : PassView) → ((v.own.id ≡ f) ⊎ ((e : Entry) × Among e v.taken × (e.id ≡ f))) ⊎ ((e : Entry) → In e v → e.id ≢ f)
found_in f v = dite (ℕ_discrete v.own.id f) (λ y. inl (inl y))
    (λ n. ⊎_elim (λ t. inl (inr t)) (λ t. inr (λ e k z. ⊎_elim (λ s. n (sym (ap (λ (u : Entry). u.id) s) ∙ z)) (λ s. t e s z) k)) (found_among f v.taken))

module _ (v : PassView) (x : Item) (w : PassView) (whole : IsWhole v) (did : DidGet v x w) (items : List Item)
    (rest : IsRest (with_act v did.log (Got v.own.id x.value) (Got v.own.id x.stamp)) items) where
  abbrev a : QueueEvent
  a = Got v.own.id x.value

  abbrev b : QueueEvent
  b = Got v.own.id x.stamp

  abbrev h : List QueueEvent
  h = did.log ++ a ∷ []

  abbrev w' : PassView
  w' = with_act v did.log a b

  other_in : (f : ℕ) → ((e : Entry) → In e v → e.id ≢ f) → (e : Entry) → In e w' → e.id ≢ f
  other_in f n e k z = ⊎_elim (λ s. n v.own (inl refl) (sym (ap (λ (u : Entry). u.id) s) ∙ z)) (λ s. n e (inr s) z) k

  -- the pass as it is now knows the history that it has seen, and no other
  abbrev more : List QueueEvent
  more = (rest.begins w'.own (inl refl)).0

  same_log : rest.log ≡ h ++ more
  same_log = (rest.begins w'.own (inl refl)).1

  no_event : (f : ℕ) → cut f (h ++ more) ≡ cut f h
  no_event f = ap (cut f) (sym same_log) ∙ ⊎_elim
      (λ t. ⊎_elim
      (λ y. subst (λ (k : ℕ). cut k rest.log ≡ cut k h) y
      (rest.cuts w'.own (inl refl) ∙ sym (cut-own v.own.id did.log a refl ∙ ap (λ l. l ++ a ∷ []) (did.before.cuts v.own (inl refl)))))
      (λ s. subst (λ (k : ℕ). cut k rest.log ≡ cut k h) s.2
      (rest.cuts s.0 (inr s.1) ∙ sym (cut-other s.0.id did.log a (λ z. did.before.apart s.0 s.1 (sym z)) ∙ did.before.cuts s.0 (inr s.1)))) t)
      (λ n. rest.only f (other_in f n) ∙ sym (cut-other f did.log a (λ z. n v.own (inl refl) z) ∙ did.before.only whole f n))
      (found_in f v)

  whole_log : rest.log ≡ h
  whole_log = same_log ∙ (ap (λ l. h ++ l) (nothing_more h more no_event) ∙ append-nil h)

  same_elements : elements_of did.items ≡ elements_of items
  same_elements =
      leaves_one v.cap h (elements_of did.items) (elements_of items) did.after
      (subst (λ (l : List QueueEvent). Leaves v.cap l (elements_of items)) whole_log rest.legal)

  -- the history with stamps is that which was seen, with the one that was taken
  abbrev k : List QueueEvent
  k = did.before.stamps ++ b ∷ []

  stamp_cuts : (f : ℕ) → cut f rest.stamps ≡ cut f k
  stamp_cuts f = ⊎_elim
      (λ t. ⊎_elim
      (λ y. subst (λ (n : ℕ). cut n rest.stamps ≡ cut n k) y
      (rest.cuts_stamps w'.own (inl refl)
      ∙ sym (cut-own v.own.id did.before.stamps b refl ∙ ap (λ l. l ++ b ∷ []) (did.before.cuts_stamps v.own (inl refl)))))
      (λ s. subst (λ (n : ℕ). cut n rest.stamps ≡ cut n k) s.2
      (rest.cuts_stamps s.0 (inr s.1)
      ∙ sym (cut-other s.0.id did.before.stamps b (λ z. did.before.apart s.0 s.1 (sym z)) ∙ did.before.cuts_stamps s.0 (inr s.1)))) t)
      (λ n.
      cut_none f rest.log rest.stamps rest.alike (rest.only f (other_in f n))
      ∙ sym (cut-other f did.before.stamps b (λ z. n v.own (inl refl) z) ∙ cut_none f did.log did.before.stamps did.before.alike (did.before.only whole f n)))
      (found_in f v)

  whole_stamps : rest.stamps ≡ k
  whole_stamps =
      alike_same rest.stamps k
      (sym rest.alike ∙ ap (map erase_event) whole_log ∙ alike_more did.log did.before.stamps a b did.before.alike refl) stamp_cuts

  same_stamps : stamps_of did.items ≡ stamps_of items
  same_stamps =
      leaves_one v.cap k (stamps_of did.items) (stamps_of items) did.after_stamps
      (subst (λ (l : List QueueEvent). Leaves v.cap l (stamps_of items)) whole_stamps rest.legal_stamps)

  one_more : IsRest v (x ∷ items)
  one_more = record {
    log = did.log;
    stamps = did.before.stamps;
    legal = subst (λ (l : List Element). Leaves v.cap did.log (element_of x ∷ l)) same_elements did.before.legal;
    legal_stamps = subst (λ (l : List Element). Leaves v.cap did.before.stamps (stamp_of x ∷ l)) same_stamps did.before.legal_stamps;
    alike = did.before.alike;
    begins = did.before.begins;
    cuts = did.before.cuts;
    cuts_stamps = did.before.cuts_stamps;
    only = did.before.only whole;
    handed = did.before.handed;
  }

pub closes_one : (v : PassView) (x : Item) (w : PassView) → IsWhole v → DidGet v x w → (items : List Item) → IsRest w items → IsRest v (x ∷ items)
closes_one v x w whole did items rest = one_more v x w whole did items (subst (λ (u : PassView). IsRest u items) did.is rest)

-- it stays whole
pub whole_after : (v : PassView) (x : Item) (w : PassView) → IsWhole v → DidGet v x w → IsWhole w
whole_after v x w whole did = subst IsWhole (sym did.is) (
  whole.0,
  λ e k i m.
      let old : (d : Entry) × In d v × (d.id ≡ i) = ⊎_elim
      (λ s. whole.1 v.own (inl refl) i (subst (λ (l : List ℕ). Among i l) (ap (λ (u : Entry). u.parts) s) m))
      (λ s. whole.1 e (inr s) i m) k in
      ⊎_elim
      (λ s. ((with_act v did.log (Got v.own.id x.value) (Got v.own.id x.stamp)).own, inl refl, sym (ap (λ (u : Entry). u.id) s) ∙ old.2))
      (λ s. (old.0, inr s, old.2)) old.1,
)

nil_of : (xs : List Item) → length xs ≡ 0 → xs ≡ []
nil_of [] e = refl
nil_of (x ∷ xs) e = absurd (omega (arith, e))

-- an empty ring leaves nothing
pub closes_last : (v : PassView) → IsWhole v → Held 0 (stands v) → IsRest v []
closes_last v whole h =
    let t = h.2.1 in
    record {
      log = h.2.0;
      stamps = t.stamps;
      legal = subst (λ (l : List Item). Leaves v.cap h.2.0 (elements_of l)) (nil_of h.0 h.1) t.legal;
      legal_stamps = subst (λ (l : List Item). Leaves v.cap t.stamps (stamps_of l)) (nil_of h.0 h.1) t.legal_stamps;
      alike = t.alike;
      begins = t.begins;
      cuts = t.cuts;
      cuts_stamps = t.cuts_stamps;
      only = t.only whole;
      handed = t.handed;
    }

-- the rest after one more item was taken
pub goes_on : (v u w : PassView) (x : Item) (xs : List Item) → IsWhole u → DidGet u x w
    → ((items : List Item) → IsRest u items → IsRest v (xs ++ items)) → (items : List Item) → IsRest w items → IsRest v ((xs ++ x ∷ []) ++ items)
goes_on v u w x xs whole did go items rest = subst (IsRest v) (sym (append_assoc xs (x ∷ []) items)) (go (x ∷ items) (closes_one u x w whole did items rest))
