-- By a legal history a get takes what was put by the put that has as many puts before it as the get has gets.
use Rattle.std.proofs.Common.{◌≡◌, ℕ, zero, suc, ◌+◌, ◌<◌, Option, Some, None, List, [], ◌∷◌, ◌++◌, length, take, drop, refl, sym, ◌∙◌, ap, subst, arith}
use Rattle.std.proofs.Common.{append_assoc, append-nil}
use Rattle.std.specs.Prelude.{slice_get, option_map}
use Rattle.std.specs.List.{cons_option}
use Rattle.std.proofs.lemmas.Bool.{eq-eqb}
use Rattle.std.proofs.lemmas.List.{length-append, length-map}
use Rattle.std.proofs.lemmas.List.Elements.{filter_map-append}
use Rattle.std.proofs.lemmas.Option.{none-some, same_Some}
use Rattle.fx_term.specs.declared.event.Event.{Event}
use Rattle.fx_term.specs.declared.event.Event.TheVariants as event
use Rattle.fx_term.specs.declared.queue_event.QueueEvent.{QueueEvent}
use Rattle.fx_term.specs.declared.queue_event.QueueEvent.TheVariants.{Put, Got}
use Rattle.fx_term.specs.Element.{Element}
use Rattle.fx_term.specs.Queue.{Taking, QueueState, empty_queue, next_item, puts, queue_event, replayed, replayed_from, after_event, items_taken}
use Rattle.fx_term.proofs.QueueLaws.{stays_none, replayed_append, IsGet, get_parts, put_is, IsFirst, first_of_legal, replay_accounts}
use Rattle.fx_model.proofs.Appended.{still_at, at_seam}
use Rattle.fx_order.specs.declared.occurrence.Occurrence.{Occurrence}
use Rattle.fx_counts.specs.Counted.{history_in, gets, event_at, IsTakenPut}

-- what was put into a queue and what was taken out of it stays so, and in its order
pub record IsPast (s last : QueueState) : Type 0 where
  pub more_put : List Element
  pub put : last.put ≡ s.put ++ more_put
  pub more_taken : List Taking
  pub taken : last.taken ≡ s.taken ++ more_taken

event_past : (c : ℕ) (s : QueueState) (e : QueueEvent) (s' : QueueState) → after_event c (Some s) e ≡ Some s' → IsPast s s'
event_past c s (Put g n) s' e =
    subst (IsPast s) (put_is c s g n s' e)
    (record { more_put = next_item s g n ∷ []; put = refl; more_taken = []; taken = sym (append-nil s.taken) })
event_past c s (Got g n) s' e =
    let p = get_parts s g n s.items s' e in
    subst (IsPast s) p.after
    (record { more_put = []; put = sym (append-nil s.put); more_taken = record { taker = g; item = p.front } ∷ []; taken = refl })

pub past : (c : ℕ) (s : QueueState) (h : List QueueEvent) (last : QueueState) → replayed_from c (Some s) h ≡ Some last → IsPast s last
past c s [] last r =
    subst (IsPast s) (same_Some s last r) (record { more_put = []; put = sym (append-nil s.put); more_taken = []; taken = sym (append-nil s.taken) })
past c s (e ∷ h) last r =
    let p = first_of_legal c s e h last r in
    let one = event_past c s e p.next p.after in
    let rest = past c p.next h last p.rest in
    record {
      more_put = one.more_put ++ rest.more_put;
      put = rest.put ∙ ap (λ (xs : List Element). xs ++ rest.more_put) one.put ∙ append_assoc s.put one.more_put rest.more_put;
      more_taken = one.more_taken ++ rest.more_taken;
      taken = rest.taken ∙ ap (λ (xs : List Taking). xs ++ rest.more_taken) one.taken ∙ append_assoc s.taken one.more_taken rest.more_taken;
    }

-- so many more were put and taken
pub record AreSoMany (s last : QueueState) (h : List QueueEvent) : Type 0 where
  pub put : length last.put ≡ length s.put + puts h
  pub taken : length last.taken ≡ length s.taken + gets h

pub so_many : (c : ℕ) (s : QueueState) (h : List QueueEvent) (last : QueueState) → replayed_from c (Some s) h ≡ Some last → AreSoMany s last h
so_many c s [] last r = subst (λ (t : QueueState). AreSoMany s t []) (same_Some s last r) (record { put = omega arith; taken = omega arith })
so_many c s (Put g n ∷ h) last r =
    let p = first_of_legal c s (Put g n) h last r in
    let is = put_is c s g n p.next p.after in
    let one : length p.next.put ≡ length s.put + 1 =
    ap (λ (t : QueueState). length t.put) (sym is) ∙ length-append s.put (next_item s g n ∷ []) in
    let none : length p.next.taken ≡ length s.taken = ap (λ (t : QueueState). length t.taken) (sym is) in
    let rest = so_many c p.next h last p.rest in
    record { put = (let more = rest.put in omega arith); taken = (let more = rest.taken in omega arith) }
so_many c s (Got g n ∷ h) last r =
    let p = first_of_legal c s (Got g n) h last r in
    let got = get_parts s g n s.items p.next p.after in
    let none : length p.next.put ≡ length s.put = ap (λ (t : QueueState). length t.put) (sym got.after) in
    let one : length p.next.taken ≡ length s.taken + 1 =
    ap (λ (t : QueueState). length t.taken) (sym got.after) ∙ length-append s.taken (record { taker = g; item = got.front } ∷ []) in
    let rest = so_many c p.next h last p.rest in
    record { put = (let more = rest.put in omega arith); taken = (let more = rest.taken in omega arith) }

-- those of a queue from its beginning on
pub all_put : (c : ℕ) (h : List QueueEvent) (last : QueueState) → replayed c h ≡ Some last → length last.put ≡ puts h
all_put c h last r = let many = (so_many c empty_queue h last r).put in omega arith

pub all_taken : (c : ℕ) (h : List QueueEvent) (last : QueueState) → replayed c h ≡ Some last → length last.taken ≡ gets h
all_taken c h last r = let many = (so_many c empty_queue h last r).taken in omega arith

in_middle : {A : Type 0} (xs : List A) (x : A) (ys : List A) → slice_get (xs ++ x ∷ ys) (length xs) ≡ Some x
in_middle [] x ys = refl
in_middle (y ∷ xs) x ys = in_middle xs x ys

some_before : (c : ℕ) (o : Option QueueState) (h : List QueueEvent) (last : QueueState) → replayed_from c o h ≡ Some last
    → (s : QueueState) × (o ≡ Some s)
some_before c None h last r = absurd (none-some last (sym (stays_none c h) ∙ r))
some_before c (Some s) h last r = (s, refl)

pub split_at : (list : List Occurrence) (n : ℕ) (x : Occurrence) → slice_get list n ≡ Some x → list ≡ take n list ++ x ∷ drop (suc n) list
split_at [] n x at = absurd (none-some x at)
split_at (y ∷ list) zero x at = ap (λ (z : Occurrence). z ∷ list) (same_Some y x at)
split_at (y ∷ list) (suc n) x at = ap (λ (l : List Occurrence). y ∷ l) (split_at list n x at)

-- the occurrence whose event that is
pub record HasEvent (list : List Occurrence) (k : ℕ) (e : Event) : Type 0 where
  pub occurrence : Occurrence
  pub at : slice_get list k ≡ Some occurrence
  pub is : occurrence.event ≡ e

pub has_event : (list : List Occurrence) (k : ℕ) (e : Event) → event_at list k ≡ Some e → HasEvent list k e
has_event list k e is = by_place (slice_get list k) refl is
  where
    by_place : (o : Option Occurrence) → slice_get list k ≡ o → option_map (λ (x : Occurrence). x.event) o ≡ Some e → HasEvent list k e
    by_place None at is = absurd (none-some e is)
    by_place (Some x) at is = record { occurrence = x; at = at; is = same_Some x.event e is }

-- a legal history that the list has of a queue
module _ (c q : ℕ) (list : List Occurrence) (last : QueueState) (legal : replayed c (history_in q list) ≡ Some last) where
  abbrev before : ℕ → List QueueEvent
  before k = history_in q (take k list)

  abbrev later : ℕ → List QueueEvent
  later k = history_in q (drop (suc k) list)

  -- the queue before event k of the list, which is this one of the queue
  pub record IsStepAt (k : ℕ) (d : QueueEvent) : Type 0 where
    pub state : QueueState
    pub so_far : replayed c (before k) ≡ Some state
    pub goes_on : replayed_from c (Some state) (d ∷ later k) ≡ Some last

  pub step_at : (k : ℕ) (x : Occurrence) (d : QueueEvent) → slice_get list k ≡ Some x → queue_event q x.fiber x.event ≡ Some d → IsStepAt k d
  step_at k x d at is =
      let parts : history_in q list ≡ before k ++ d ∷ later k =
      ap (history_in q) (split_at list k x at)
      ∙ filter_map-append (λ (y : Occurrence). queue_event q y.fiber y.event) (take k list) (x ∷ drop (suc k) list)
      ∙ ap (λ (o : Option QueueEvent). before k ++ cons_option o (later k)) is in
      let goes : replayed_from c (replayed c (before k)) (d ∷ later k) ≡ Some last =
      sym (replayed_append c (Some empty_queue) (before k) (d ∷ later k)) ∙ ap (replayed c) (sym parts) ∙ legal in
      let found = some_before c (replayed c (before k)) (d ∷ later k) last goes in
      record {
        state = found.0;
        so_far = found.1;
        goes_on = ap (λ (o : Option QueueState). replayed_from c o (d ∷ later k)) (sym found.1) ∙ goes;
      }

  module _ (k f v : ℕ) (step : IsStepAt k (Got f v)) where
    abbrev pub first_got : IsFirst c step.state (Got f v) (later k) last
    first_got = first_of_legal c step.state (Got f v) (later k) last step.goes_on

    abbrev pub got_at : IsGet step.state f v step.state.items first_got.next
    got_at = get_parts step.state f v step.state.items first_got.next first_got.after

    -- of all that is ever put it takes what has the number of the gets before it
    pub takes_nth : slice_get last.put (gets (before k)) ≡ Some got_at.front
    takes_nth =
        let on = past c step.state (Got f v ∷ later k) last step.goes_on in
        let taken : length (items_taken step.state) ≡ gets (before k) =
        length-map step.state.taken (λ (t : Taking). t.item) ∙ all_taken c (before k) step.state step.so_far in
        let accounts : step.state.put ≡ items_taken step.state ++ got_at.front ∷ got_at.rest =
        sym (replay_accounts c empty_queue (before k) step.state step.so_far refl) ∙ ap (λ (xs : List Element). items_taken step.state ++ xs) got_at.items in
        ap (slice_get last.put) (sym taken) ∙ ap (λ (xs : List Element). slice_get xs (length (items_taken step.state))) on.put
        ∙ still_at step.state.put on.more_put (length (items_taken step.state)) got_at.front
        (ap (λ (xs : List Element). slice_get xs (length (items_taken step.state))) accounts ∙ in_middle (items_taken step.state) got_at.front got_at.rest)

  -- and a put puts what has the number of the puts before it
  pub puts_nth : (j g w : ℕ) (step : IsStepAt j (Put g w)) → slice_get last.put (puts (before j)) ≡ Some (next_item step.state g w)
  puts_nth j g w step =
      let p = first_of_legal c step.state (Put g w) (later j) last step.goes_on in
      let item = next_item step.state g w in
      let on = past c p.next (later j) last p.rest in
      let all : last.put ≡ (step.state.put ++ item ∷ []) ++ on.more_put =
      on.put ∙ ap (λ (s : QueueState). s.put ++ on.more_put) (sym (put_is c step.state g w p.next p.after)) in
      ap (slice_get last.put) (sym (all_put c (before j) step.state step.so_far))
      ∙ ap (λ (xs : List Element). slice_get xs (length step.state.put)) all
      ∙ still_at (step.state.put ++ item ∷ []) on.more_put (length step.state.put) item (at_seam step.state.put item)

  -- so it takes what that put put
  pub takes_that : (k f v j g w : ℕ) (get : IsStepAt k (Got f v)) (put : IsStepAt j (Put g w)) → puts (before j) ≡ gets (before k)
      → next_item put.state g w ≡ (got_at k f v get).front
  takes_that k f v j g w get put nth =
      same_Some (next_item put.state g w) (got_at k f v get).front
      (sym (puts_nth j g w put) ∙ ap (slice_get last.put) nth ∙ takes_nth k f v get)

  -- the steps of a get and of a put
  pub get_step : (k v : ℕ) (x : Occurrence) → slice_get list k ≡ Some x → x.event ≡ event.Got q v → IsStepAt k (Got x.fiber v)
  get_step k v x at is = step_at k x (Got x.fiber v) at (ap (queue_event q x.fiber) is ∙ rw (eq-eqb q q refl) refl)

  pub put_step : (j w : ℕ) (y : Occurrence) → slice_get list j ≡ Some y → y.event ≡ event.Put q w → IsStepAt j (Put y.fiber w)
  put_step j w y at is = step_at j y (Put y.fiber w) at (ap (queue_event q y.fiber) is ∙ rw (eq-eqb q q refl) refl)

  -- which has its value
  pub is_taken_put : (k j v w : ℕ) → event_at list k ≡ Some (event.Got q v) → event_at list j ≡ Some (event.Put q w) → j < k
      → puts (before j) ≡ gets (before k) → IsTakenPut q list k j
  is_taken_put k j v w got put earlier nth =
      let x = has_event list k (event.Got q v) got in
      let y = has_event list j (event.Put q w) put in
      let get = get_step k v x.occurrence x.at x.is in
      let same = takes_that k x.occurrence.fiber v j y.occurrence.fiber w get (put_step j w y.occurrence y.at y.is) nth in
      let value : w ≡ v = ap (λ (z : Element). z.value) same ∙ (got_at k x.occurrence.fiber v get).value in
      record { value = v; got = got; put = put ∙ ap (λ (n : ℕ). Some (event.Put q n)) value; before = earlier; nth = nth }
