-- The stamp that a get takes out of a queue is that of the put of what it takes.
use Rattle.std.proofs.Common.{◌≡◌, ℕ, zero, suc, Bool, true, false, Option, Some, None, List, [], ◌∷◌, length, refl, sym, ◌∙◌, ap, subst}
use Rattle.std.specs.Prelude.{◌==◌, if◌then◌else◌, slice_get, take, option_map}
use Rattle.std.specs.List.{cons_option}
use Rattle.std.proofs.lemmas.Bool.{eq-eqb}
use Rattle.std.proofs.lemmas.Option.{none-some, same_Some, slice_get-map}
use Rattle.fx_term.specs.declared.event.Event.{Event}
use Rattle.fx_term.specs.declared.event.Event.TheVariants as event
use Rattle.fx_term.specs.declared.queue_event.QueueEvent.{QueueEvent}
use Rattle.fx_term.specs.Queue.{cut, Taking, QueueState, replayed, queue_events, values_put, AreAlike}
use Rattle.fx_model.specs.Causes.{values_got, takings_of, taking_of}
use Rattle.fx_model.specs.StampedQueue.{with_stamps, stamped}
use Rattle.fx_model.proofs.Takes.{takes_are_got, taken_was_put}
use Rattle.fx_model.proofs.ErasedValues.{erase, erase_taking, takings_erased, erased_same}

abbrev value_taken : Taking → ℕ
value_taken t = t.item.value

-- past one more event of a trace
past_got : (q : ℕ) (e : Event) (a b x : ℕ) (gs ts : List Event) → slice_get (values_got q gs) (length (values_got q ts)) ≡ Some x
    → slice_get (values_got q (with_stamps e a b ∷ gs)) (length (values_got q (e ∷ ts))) ≡ Some x
past_got q (event.Got r n) a b x gs ts h = by_test (r == q)
  where
    by_test : (t : Bool) → slice_get (cons_option (if t then Some b else None) (values_got q gs))
        (length (cons_option (if t then Some n else None) (values_got q ts))) ≡ Some x
    by_test true = h
    by_test false = h
past_got q _ a b x gs ts h = h

past_put : (q : ℕ) (e : Event) (a b x : ℕ) (gs ts : List Event) → slice_get (values_put q gs) (length (values_put q ts)) ≡ Some x
    → slice_get (values_put q (with_stamps e a b ∷ gs)) (length (values_put q (e ∷ ts))) ≡ Some x
past_put q (event.Put r n) a b x gs ts h = by_test (r == q)
  where
    by_test : (t : Bool) → slice_get (cons_option (if t then Some a else None) (values_put q gs))
        (length (cons_option (if t then Some n else None) (values_put q ts))) ≡ Some x
    by_test true = h
    by_test false = h
past_put q _ a b x gs ts h = h

-- among the gets of a trace, and among its puts, an event has its stamp
nth_got : (q n : ℕ) (stamp cause : ℕ → ℕ) (es : List Event) (i : ℕ) → slice_get es i ≡ Some (event.Got q n)
    → slice_get (values_got q (stamped stamp cause es)) (length (values_got q (take i es))) ≡ Some (cause i)
nth_got q n stamp cause [] i e = absurd (none-some _ e)
nth_got q n stamp cause (f ∷ es) zero e = rw (same_Some f _ e, eq-eqb q q refl) refl
nth_got q n stamp cause (f ∷ es) (suc i) e =
    past_got q f (stamp 0) (cause 0) (cause (suc i)) (stamped (λ k. stamp (suc k)) (λ k. cause (suc k)) es) (take i es)
    (nth_got q n (λ k. stamp (suc k)) (λ k. cause (suc k)) es i e)

nth_put : (q n : ℕ) (stamp cause : ℕ → ℕ) (es : List Event) (i : ℕ) → slice_get es i ≡ Some (event.Put q n)
    → slice_get (values_put q (stamped stamp cause es)) (length (values_put q (take i es))) ≡ Some (stamp i)
nth_put q n stamp cause [] i e = absurd (none-some _ e)
nth_put q n stamp cause (f ∷ es) zero e = rw (same_Some f _ e, eq-eqb q q refl) refl
nth_put q n stamp cause (f ∷ es) (suc i) e =
    past_put q f (stamp 0) (cause 0) (stamp (suc i)) (stamped (λ k. stamp (suc k)) (λ k. cause (suc k)) es) (take i es)
    (nth_put q n (λ k. stamp (suc k)) (λ k. cause (suc k)) es i e)

-- what was taken in the one reading of a history and in the other
record SameTaking (last : QueueState) (f nth : ℕ) (t : Taking) : Type 0 where
  pub taking : Taking
  pub taken : taking_of last f nth ≡ Some taking
  pub fiber : taking.item.fiber ≡ t.item.fiber
  pub nth_is : taking.item.nth ≡ t.item.nth

same_taking : (last last' : QueueState) (f nth : ℕ) (t : Taking) → erase last ≡ erase last' → taking_of last f nth ≡ Some t → SameTaking last' f nth t
same_taking last last' f nth t same at = by_taking (taking_of last' f nth) refl
  where
    erased : (s : QueueState) → slice_get (takings_of f (erase s)) nth ≡ option_map erase_taking (taking_of s f nth)
    erased s = ap (λ (ts : List Taking). slice_get ts nth) (takings_erased f s) ∙ slice_get-map erase_taking (takings_of f s) nth

    both : option_map erase_taking (taking_of last' f nth) ≡ Some (erase_taking t)
    both = sym (erased last') ∙ ap (λ (s : QueueState). slice_get (takings_of f s) nth) (sym same) ∙ erased last ∙ ap (option_map erase_taking) at

    by_taking : (o : Option Taking) → taking_of last' f nth ≡ o → SameTaking last' f nth t
    by_taking None e = absurd (none-some (erase_taking t) (sym (ap (option_map erase_taking) e) ∙ both))
    by_taking (Some u) e =
        let one : erase_taking u ≡ erase_taking t = same_Some (erase_taking u) (erase_taking t) (sym (ap (option_map erase_taking) e) ∙ both) in
        record {
          taking = u;
          taken = e;
          fiber = ap (λ (w : Taking). w.item.fiber) one;
          nth_is = ap (λ (w : Taking). w.item.nth) one;
        }

-- the stamp of the cause of a get is that of the put of what was taken
pub cause_is_of_put : (c q : ℕ) (h k : List QueueEvent) (last last' : QueueState) (trace : ℕ → List Event) (stamp cause : ℕ → ℕ → ℕ)
    → replayed c h ≡ Some last → replayed c k ≡ Some last' → AreAlike h k
    → ((f : ℕ) → cut f k ≡ queue_events q f (stamped (stamp f) (cause f) (trace f)))
    → (f i g j n v : ℕ) (t : Taking) → slice_get (trace f) i ≡ Some (event.Got q n)
    → taking_of last f (length (values_got q (take i (trace f)))) ≡ Some t → t.item.fiber ≡ g → slice_get (trace g) j ≡ Some (event.Put q v)
    → length (values_put q (take j (trace g))) ≡ t.item.nth → cause f i ≡ stamp g j
cause_is_of_put c q h k last last' trace stamp cause r r' same cuts f i g j n v t got taken fiber put count =
    let nth = length (values_got q (take i (trace f))) in
    let u = same_taking last last' f nth t (erased_same c h k last last' r r' same) taken in
    let owner : u.taking.item.fiber ≡ g = u.fiber ∙ fiber in
    let got_value : Some u.taking.item.value ≡ Some (cause f i) =
    sym (ap (option_map value_taken) u.taken) ∙ sym (slice_get-map value_taken (takings_of f last') nth)
    ∙ ap (λ (xs : List ℕ). slice_get xs nth) (takes_are_got c q f k last' (stamped (stamp f) (cause f) (trace f)) r' (cuts f))
    ∙ nth_got q n (stamp f) (cause f) (trace f) i got in
    let put_value : slice_get (values_put q (stamped (stamp g) (cause g) (trace g))) u.taking.item.nth ≡ Some u.taking.item.value =
    taken_was_put c q f nth k last' u.taking (stamped (stamp g) (cause g) (trace g)) r'
    (subst (λ (b : ℕ). cut b k ≡ queue_events q b (stamped (stamp g) (cause g) (trace g))) (sym owner) (cuts g)) u.taken in
    let place : u.taking.item.nth ≡ length (values_put q (take j (trace g))) = u.nth_is ∙ sym count in
    let stamp_value : Some u.taking.item.value ≡ Some (stamp g j) =
    sym put_value ∙ ap (slice_get (values_put q (stamped (stamp g) (cause g) (trace g)))) place ∙ nth_put q v (stamp g) (cause g) (trace g) j put in
    same_Some (cause f i) (stamp g j) (sym got_value ∙ stamp_value)
