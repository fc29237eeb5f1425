-- The first passes of a run.
use Rattle.std.proofs.Common.{◌≡◌, ℕ, ◌+◌, ◌<◌, List, [], ◌∷◌, ◌++◌, length, map, take, get_or, Some}
use Rattle.std.proofs.Common.{false, replicate, None, slice_get, refl, sym, ◌∙◌, ap, subst, arith, zero, suc, ◌⊎◌, inl, inr, ⊎_elim}
use Rattle.std.proofs.lemmas.Option.{same_Some}
use Rattle.std.proofs.lemmas.List.{length-append, map-append, take_more}
use Rattle.fx_fiber.specs.Deed.{Started}
use Rattle.fx_queue.specs.PassView.{first_view}
use Rattle.fx_queue.specs.Queues.{QueueId, HeldPass}
use Rattle.fx_term.specs.Queue.{puts}
use Rattle.fx_queue.specs.declared.pass_view.PassView.{PassView}
use Rattle.fx_port.specs.Rows.{AreFirst, puts_by, puts_in}
use Rattle.fx_port.specs.PassesAgree.{acts_by, stamps_by}
use Rattle.fx_port.specs.PortView.{first_port}
use Rattle.fx_port.specs.ThreadCalls.{ThreadAgrees}
use Rattle.std.proofs.lemmas.List.Sums.{sum_by-cons}
use Rattle.fx_port.proofs.WordsLaws as words
use Rattle.fx_port.proofs.WordsStampsLaws as words_stamps
use Rattle.fx_port.proofs.PassesLaws.{not_later}
use Rattle.fx_port.proofs.RunLaws.{queue_at}
use Rattle.fx_port.proofs.RowLaws.{within}

-- what a longer list has at a place
at_last : {A : Type 0} (l : List A) (x a : A) (q : ℕ) → slice_get (l ++ x ∷ []) q ≡ Some a → (slice_get l q ≡ Some a) ⊎ ((q ≡ length l) × (x ≡ a))
at_last [] x a zero e = inr (refl, same_Some x a e)
at_last [] x a (suc q) e = let z : ⊥ = cc in absurd z
at_last (y ∷ l) x a zero e = inl e
at_last (y ∷ l) x a (suc q) e = ⊎_elim inl (λ t. inr (ap suc t.0, t.1)) (at_last l x a q e)

at_inside : {A : Type 0} (l : List A) (x a : A) (q : ℕ) → q < length l → slice_get (l ++ x ∷ []) q ≡ Some a → slice_get l q ≡ Some a
at_inside [] x a q lt e = absurd (omega (arith, lt))
at_inside (y ∷ l) x a zero lt e = e
at_inside (y ∷ l) x a (suc q) lt e = at_inside l x a q (omega (arith, lt)) e

at_length : {A : Type 0} (l : List A) (x a : A) (q : ℕ) → q ≡ length l → slice_get (l ++ x ∷ []) q ≡ Some a → x ≡ a
at_length [] x a zero lt e = same_Some x a e
at_length [] x a (suc q) lt e = absurd (omega (arith, lt))
at_length (y ∷ l) x a zero lt e = absurd (omega (arith, lt))
at_length (y ∷ l) x a (suc q) lt e = at_length l x a q (omega (arith, lt)) e

-- one more queue with its first pass
pub one_more : (fibers : ℕ) (queues : List QueueId) (passes : List HeldPass) (i : QueueId) (s : HeldPass)
    → AreFirst fibers queues passes → i.fibers ≡ fibers → s.table ≡ i.table → s.view ≡ first_view i.cap fibers
    → AreFirst fibers (queues ++ i ∷ []) (passes ++ s ∷ [])
one_more fibers queues passes i s first many_here table view = record {
  alike = λ q j b. ⊎_elim (λ h. first.alike q j h) (λ h. ap (λ (w : QueueId). w.fibers) (sym h.1) ∙ many_here) (at_last queues i j q b);
  as_many = let many = first.as_many in let a = length-append passes (s ∷ []) in let b = length-append queues (i ∷ []) in omega (arith, many, a, b);
  each = λ q t j a b. ⊎_elim
      (λ h. let lt = within passes q t h in let many = first.as_many in first.each q t j h (at_inside queues i j q (omega (arith, lt, many)) b))
      (λ h.
      let many = first.as_many in
      let place = h.0 in
      let k : i ≡ j = at_length queues i j q (omega (arith, place, many)) b in
      subst (λ (u : HeldPass). (u.table ≡ j.table) × (u.view ≡ first_view j.cap fibers)) h.1
      (subst (λ (w : QueueId). (s.table ≡ w.table) × (s.view ≡ first_view w.cap fibers)) k (table, view)))
      (at_last passes s t q a);
}

-- one more queue has the next capacity
pub next_capacity : (capacities : List ℕ) (k : ℕ) (queues : List QueueId) (i : QueueId) → k < length capacities
    → i.cap ≡ get_or capacities k 0 → map (λ (j : QueueId). j.cap) queues ≡ take k capacities
    → map (λ (j : QueueId). j.cap) (queues ++ i ∷ []) ≡ take (k + 1) capacities
next_capacity capacities k queues i lt is so_far =
    map-append (λ (j : QueueId). j.cap) queues (i ∷ [])
    ∙ (ap (λ l. l ++ i.cap ∷ []) so_far ∙ (ap (λ c. take k capacities ++ c ∷ []) is ∙ sym (take_more capacities k 0 lt)))

none_put : (passes : List HeldPass) → ((q : ℕ) (s : HeldPass) → slice_get passes q ≡ Some s → puts_by s ≡ 0) → puts_in passes ≡ 0
none_put [] h = refl
none_put (x ∷ passes) h =
    let a = sum_by-cons puts_by x passes in
    let b = h 0 x refl in
    let r = none_put passes (λ q s e. h (suc q) s e) in
    omega (arith, a, b, r)

no_stamps : (passes : List HeldPass) → ((q : ℕ) (s : HeldPass) → slice_get passes q ≡ Some s → s.view.own.stamps ≡ [])
    → (q : ℕ) → [] ≡ stamps_by (slice_get passes q)
no_stamps [] h q = refl
no_stamps (x ∷ passes) h zero = sym (h 0 x refl)
no_stamps (x ∷ passes) h (suc q) = no_stamps passes (λ k s e. h (suc k) s e) q

no_acts : (passes : List HeldPass) → ((q : ℕ) (s : HeldPass) → slice_get passes q ≡ Some s → s.view.own.acts ≡ []) → (q : ℕ) → [] ≡ acts_by (slice_get passes q)
no_acts [] h q = refl
no_acts (x ∷ passes) h zero = sym (h 0 x refl)
no_acts (x ∷ passes) h (suc q) = no_acts passes (λ k s e. h (suc k) s e) q

-- the main fiber's passes have put nothing, and its port agrees with no deeds
module _ (fibers : ℕ) (queues : List QueueId) (passes : List HeldPass) (first : AreFirst fibers queues passes) where
  view_is : (q : ℕ) (s : HeldPass) → slice_get passes q ≡ Some s → (i : QueueId) × (s.view ≡ first_view i.cap fibers)
  view_is q s at = let t = queue_at queues passes q s first.as_many at in (t.0, (first.each q s t.0 at t.1).1)

  pub first_puts : puts_in passes ≡ 0
  first_puts = none_put passes (λ q s at. ap (λ (v : PassView). puts v.own.acts) (view_is q s at).1)

  pub first_agrees : ThreadAgrees (first_port fibers passes) []
  first_agrees = record {
    words = words.fresh_agrees 0 None 1 fibers fibers;
    words_stamps = words_stamps.fresh_agrees 0 None 1 fibers (replicate fibers false);
    passes = record {
      acts = no_acts passes (λ q s at. ap (λ (v : PassView). v.own.acts) (view_is q s at).1);
      parts = λ q s at. ap (λ (v : PassView). v.own.parts) (view_is q s at).1;
      handed = λ before after g b e. absurd (not_later before (Started g b) after e);
      refusals = λ before after d e. absurd (not_later before d after e);
    };
    passes_stamps = record { stamps = no_stamps passes (λ q s at. ap (λ (v : PassView). v.own.stamps) (view_is q s at).1) };
  }
