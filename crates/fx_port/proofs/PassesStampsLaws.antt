-- What each call adds to the passes keeps the agreement of their stamps with the numbers of deeds.
use Rattle.std.proofs.Common.{◌≡◌, ℕ, ◌==◌, Bool, if◌then◌else◌, List, [], ◌∷◌, ◌++◌, map, Some, None, slice_get, set}
use Rattle.std.proofs.Common.{refl, sym, ◌∙◌, ap, subst, zero, suc, eq-eqb, ne_eqb}
use Rattle.std.proofs.lemmas.List.{map-append}
use mathlib.Core.Logic.{dite}
use native.Mathlib.Decide.{ℕ_discrete}
use Rattle.fx_term.specs.declared.queue_event.QueueEvent.{QueueEvent}
use Rattle.fx_term.specs.declared.queue_event.QueueEvent.TheVariants as event
use Rattle.fx_queue.specs.declared.pass_view.PassView.{PassView}
use Rattle.fx_queue.specs.PassView.{with_act}
use Rattle.fx_queue.specs.Queues.{HeldPass, kept_pass, given_pass}
use Rattle.fx_fiber.specs.Deed.{Deed, Put, Got, queue_deed, queue_deeds}
use Rattle.fx_fiber.specs.StampedDeed.{StampedDeed, stamped_deed, with_number, queue_numbers}
use Rattle.fx_port.specs.Rows.{PutsInto, GetsFrom}
use Rattle.fx_port.specs.PassesAgree.{stamps_by, PassesStampsAgree}
use Rattle.fx_port.proofs.PassesLaws.{given, nothing_given}
use Rattle.fx_port.proofs.Places.{get_set_same, get_set_else}

abbrev renumbered : List StampedDeed → List Deed
renumbered ds = map (λ (x : StampedDeed). with_number x.deed x.number) ds

module _ (f : ℕ) where
  -- what one deed more gives to a queue
  module _ (q : ℕ) (ds : List StampedDeed) (d : StampedDeed) where
    one_more : queue_numbers q f (ds ++ d ∷ []) ≡ queue_deeds q f (renumbered ds ++ with_number d.deed d.number ∷ [])
    one_more = ap (queue_deeds q f) (map-append (λ (x : StampedDeed). with_number x.deed x.number) ds (d ∷ []))

    numbers_given : (a : QueueEvent) → queue_deed q f (with_number d.deed d.number) ≡ Some a
        → queue_numbers q f (ds ++ d ∷ []) ≡ queue_numbers q f ds ++ a ∷ []
    numbers_given a is = one_more ∙ given (queue_deed q f) (renumbered ds) (with_number d.deed d.number) a is

    no_numbers_given : queue_deed q f (with_number d.deed d.number) ≡ None → queue_numbers q f (ds ++ d ∷ []) ≡ queue_numbers q f ds
    no_numbers_given none = one_more ∙ nothing_given (queue_deed q f) (renumbered ds) (with_number d.deed d.number) none

  -- a deed that is no event of a queue
  pub other_agrees : (ps : List HeldPass) (ds : List StampedDeed) (d : StampedDeed) → ((q : ℕ) → queue_deed q f (with_number d.deed d.number) ≡ None)
      → PassesStampsAgree f ps ds → PassesStampsAgree f ps (ds ++ d ∷ [])
  other_agrees ps ds d none h = record { stamps = λ q. no_numbers_given q ds d (none q) ∙ h.stamps q }

  -- an event of the queue q, which the deed d is with its number in place of the value
  act_agrees : (ps : List HeldPass) (ds : List StampedDeed) (q : ℕ) (s s' : HeldPass) (log : List QueueEvent) (a b : QueueEvent) (d : StampedDeed)
      → slice_get ps q ≡ Some s → s'.view ≡ with_act s.view log a b
      → ((k : ℕ) → queue_deed k f (with_number d.deed d.number) ≡ if q == k then Some b else None)
      → PassesStampsAgree f ps ds → PassesStampsAgree f (set ps q s') (ds ++ d ∷ [])
  act_agrees ps ds q s s' log a b d at is one h = record { stamps = stamps_after }
    where
      here : queue_numbers q f (ds ++ d ∷ []) ≡ stamps_by (slice_get (set ps q s') q)
      here =
          numbers_given q ds d b (one q ∙ ap (λ (c : Bool). if c then Some b else None) (eq-eqb q q refl))
          ∙ (ap (λ l. l ++ b ∷ []) (h.stamps q ∙ ap stamps_by at)
          ∙ (sym (ap (λ (w : PassView). w.own.stamps) is) ∙ sym (ap stamps_by (get_set_same ps q s' s at))))

      stamps_after : (k : ℕ) → queue_numbers k f (ds ++ d ∷ []) ≡ stamps_by (slice_get (set ps q s') k)
      stamps_after k = dite (ℕ_discrete q k)
          (λ y. subst (λ (j : ℕ). queue_numbers j f (ds ++ d ∷ []) ≡ stamps_by (slice_get (set ps q s') j)) y here)
          (λ n. no_numbers_given k ds d (one k ∙ ap (λ (c : Bool). if c then Some b else None) (ne_eqb q k n))
          ∙ (h.stamps k ∙ sym (ap stamps_by (get_set_else ps q k s' (λ z. n (sym z))))))

  pub put_agrees : (ps ps' : List HeldPass) (ds : List StampedDeed) (q value stamp : ℕ) → ((k : ℕ) (s : HeldPass) → slice_get ps k ≡ Some s → s.view.own.id ≡ f)
      → PutsInto ps q value stamp ps' → PassesStampsAgree f ps ds → PassesStampsAgree f ps' (ds ++ stamped_deed (Put q value) stamp ∷ [])
  put_agrees ps ps' ds q value stamp whose put h =
      let did = put.did in
      let d = stamped_deed (Put q value) stamp in
      subst (λ (l : List HeldPass). PassesStampsAgree f l (ds ++ d ∷ [])) (sym put.is)
      (act_agrees ps ds q put.pass put.pass' did.log (event.Put put.pass.view.own.id value) (event.Put put.pass.view.own.id stamp) d put.at did.is
      (λ k. ap (λ (i : ℕ). if q == k then Some (event.Put i stamp) else None) (sym (whose q put.pass put.at))) h)

  pub got_agrees : (ps ps' : List HeldPass) (ds : List StampedDeed) (q value stamp : ℕ) → ((k : ℕ) (s : HeldPass) → slice_get ps k ≡ Some s → s.view.own.id ≡ f)
      → GetsFrom ps q value stamp ps' → PassesStampsAgree f ps ds → PassesStampsAgree f ps' (ds ++ stamped_deed (Got q value) stamp ∷ [])
  got_agrees ps ps' ds q value stamp whose got h =
      let did = got.did in
      let d = stamped_deed (Got q value) stamp in
      subst (λ (l : List HeldPass). PassesStampsAgree f l (ds ++ d ∷ [])) (sym got.is)
      (act_agrees ps ds q got.pass got.pass' did.log (event.Got got.pass.view.own.id got.item.value) (event.Got got.pass.view.own.id got.item.stamp) d
      got.at did.is (λ k i. if q == k then Some (event.Got (sym (whose q got.pass got.at) i) (sym got.stamp_is i)) else None) h)

  kept_stamps : (end : ℕ) (ps : List HeldPass) (q : ℕ) → stamps_by (slice_get ps q) ≡ stamps_by (slice_get (map (kept_pass end) ps) q)
  kept_stamps end [] q = refl
  kept_stamps end (s ∷ ps) zero = refl
  kept_stamps end (s ∷ ps) (suc q) = kept_stamps end ps q

  given_stamps : (end : ℕ) (ps : List HeldPass) (q : ℕ) → [] ≡ stamps_by (slice_get (map (given_pass end) ps) q)
  given_stamps end [] q = refl
  given_stamps end (s ∷ ps) zero = refl
  given_stamps end (s ∷ ps) (suc q) = given_stamps end ps q

  -- a start is no event of a queue, and leaves what the passes did
  pub start_agrees : (ps : List HeldPass) (ds : List StampedDeed) (end : ℕ) (d : StampedDeed)
      → ((q : ℕ) → queue_deed q f (with_number d.deed d.number) ≡ None)
      → PassesStampsAgree f ps ds → PassesStampsAgree f (map (kept_pass end) ps) (ds ++ d ∷ [])
  start_agrees ps ds end d none h = record { stamps = λ q. no_numbers_given q ds d (none q) ∙ (h.stamps q ∙ kept_stamps end ps q) }

  -- passes that have done nothing agree with no deeds
  pub fresh_agrees : (ps : List HeldPass) (end : ℕ) → PassesStampsAgree f (map (given_pass end) ps) []
  fresh_agrees ps end = record { stamps = given_stamps end ps }
