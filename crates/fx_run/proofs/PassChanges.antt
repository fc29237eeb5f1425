-- The calls of a pass change what it knows of its fiber so.
use Rattle.std.proofs.Common.{ℕ, List, [], ◌∷◌, refl, sym, subst, inl, inr}
use Rattle.fx_term.specs.declared.item.Item.{Item}
use Rattle.fx_term.specs.declared.queue_event.QueueEvent.{QueueEvent}
use Rattle.fx_term.specs.declared.queue_event.QueueEvent.TheVariants.{Put, Got}
use Rattle.fx_term.proofs.ListLaws.{Among-append}
use Rattle.fx_queue.specs.declared.entry.Entry.{Entry}
use Rattle.fx_queue.specs.declared.pass_view.PassView.{PassView}
use Rattle.fx_queue.specs.Entry.{acting}
use Rattle.fx_queue.specs.PassView.{first_view, kept_part, given_part}
use Rattle.fx_queue.specs.Told.{DidPut, DidGet}
use Rattle.fx_run.specs.PassChanges.{IsNewPass, IsSplitFor, HasOneMore}

pub first_is_new : (capacity fibers : ℕ) → IsNewPass 0 (first_view capacity fibers).own
first_is_new capacity fibers = record { number = refl; acts = refl; stamps = refl; parts = refl }

pub given_is_new : (v : PassView) (end : ℕ) → IsNewPass v.own.next (given_part end v).own
given_is_new v end = record { number = refl; acts = refl; stamps = refl; parts = refl }

pub split_is_for : (v : PassView) (end : ℕ) → IsSplitFor v.own.next v.own (kept_part end v).own
split_is_for v end = record {
  number = refl;
  acts = refl;
  stamps = refl;
  parts = λ i k. elim (Among-append v.own.parts (v.own.next ∷ []) i k) [
    | inl j ↦ inl j
    | inr last ↦ elim last [ inl e ↦ inr e | inr none ↦ absurd none ]
  ];
}

pub acts_once : (log : List QueueEvent) (a b : QueueEvent) (e : Entry) → HasOneMore a b e (acting log a b e)
acts_once log a b e = record { number = refl; acts = refl; stamps = refl; parts = refl }

module _ (v w : PassView) where
  pub put_is_one_more : (n t : ℕ) → DidPut v n t w → HasOneMore (Put v.own.id n) (Put v.own.id t) v.own w.own
  put_is_one_more n t h =
      subst (λ (u : PassView). HasOneMore (Put v.own.id n) (Put v.own.id t) v.own u.own) (sym h.is)
      (acts_once h.log (Put v.own.id n) (Put v.own.id t) v.own)

  pub get_is_one_more : (x : Item) → DidGet v x w → HasOneMore (Got v.own.id x.value) (Got v.own.id x.stamp) v.own w.own
  get_is_one_more x h =
      subst (λ (u : PassView). HasOneMore (Got v.own.id x.value) (Got v.own.id x.stamp) v.own u.own) (sym h.is)
      (acts_once h.log (Got v.own.id x.value) (Got v.own.id x.stamp) v.own)
