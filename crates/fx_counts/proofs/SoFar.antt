-- The queue of the code, step by step.
use Rattle.std.proofs.Common.{◌≡◌, ℕ, zero, suc, ◌-◌, ◌<◌, ◌≤◌, Bool, true, false, Some, None, List, [], ◌∷◌, length, take, drop, refl, sym, ◌∙◌, ap, arith}
use Rattle.std.specs.Prelude.{◌==◌, slice_get, unwrap_or, nat_eq, nat_lt, ◌&&◌, if◌then◌else◌, IsTrue}
use Rattle.std.specs.HashMap.{get}
use Rattle.std.specs.List.{list_all, zip, cons_option}
use Rattle.std.proofs.lemmas.Bool.{eqb-true, eq-eqb, ne_eqb, and_parts, lt-ltb}
use Rattle.std.proofs.lemmas.List.{length-drop, drop-map, take_all}
use Rattle.std.proofs.lemmas.Option.{none-some, same_Some, slice_get_within}
use Rattle.fx_term.specs.declared.item.Item.{Item}
use Rattle.fx_term.specs.Element.{Element, element_of, elements_of}
use Rattle.fx_term.specs.declared.event.Event.{Event}
use Rattle.fx_term.specs.declared.event.Event.TheVariants as event
use Rattle.fx_term.specs.Queue.{QueueState, items_of, with_taken, after_got, with_put, next_item, queue_event, replayed_from}
use Rattle.fx_order.specs.declared.occurrence.Occurrence.{Occurrence}
use Rattle.fx_counts.specs.Counted.{history_in}
use Rattle.fx_counts.specs.declared.queue_so_far.QueueSoFar.{QueueSoFar}
use Rattle.fx_counts.specs.SoFar.{IsAs, IsAfter, is_same}

one_within : (b : Bool) (x : Element) (xs : List Element) (n : ℕ) → length xs ≤ n → length (if b then x ∷ xs else xs) ≤ suc n
one_within true x xs n le = omega arith
one_within false x xs n le = omega arith

filter_within : (f : ℕ) (xs : List Element) → length (items_of f xs) ≤ length xs
filter_within f [] = omega arith
filter_within f (x ∷ xs) = one_within (x.fiber == f) x (items_of f xs) (length xs) (filter_within f xs)

pub elements_long : (xs : List Item) → length (elements_of xs) ≡ length xs
elements_long [] = refl
elements_long (x ∷ xs) = ap suc (elements_long xs)

-- a fiber has put no more than all have
pub puts_within : (q : QueueSoFar) (s : QueueState) (f : ℕ) → IsAs q s → unwrap_or (get nat_eq q.puts f) 0 ≤ length q.put.items
puts_within q s f is =
    let few = filter_within f s.put in
    let all : length s.put ≡ length q.put.items = ap length is.put ∙ elements_long q.put.items in
    let same = is.puts f in
    omega arith

front_is : (xs : List Item) (k : ℕ) (x : Item) → slice_get xs k ≡ Some x → drop k (elements_of xs) ≡ element_of x ∷ drop (suc k) (elements_of xs)
front_is [] k x at = absurd (none-some x at)
front_is (y ∷ xs) zero x at = ap (λ (z : Item). element_of z ∷ elements_of xs) (same_Some y x at)
front_is (y ∷ xs) (suc k) x at = front_is xs k x at

-- a front of that value is taken
pub takes_front : (q : QueueSoFar) (s : QueueState) (f n t : ℕ) (x : Item) → IsAs q s → slice_get q.put.items q.taken ≡ Some x → x.value ≡ n → t ≡ suc q.taken
    → IsAfter true (after_got s f n s.items) (record q { taken = t })
takes_front q s f n t x is at value next =
    let front : s.items ≡ element_of x ∷ drop (suc q.taken) (elements_of q.put.items) = is.items ∙ front_is q.put.items q.taken x at in
    let rest = drop (suc q.taken) (elements_of q.put.items) in (
      with_taken s f (element_of x) rest,
      ap (after_got s f n) front ∙ rw (eq-eqb x.value n value) refl,
      record {
        put = is.put;
        within = (let lt = slice_get_within q.put.items q.taken x at in omega arith);
        items = rw next refl;
        puts = is.puts;
      },
    )

-- one of another value is not
pub takes_no_other : (q : QueueSoFar) (s : QueueState) (f n : ℕ) (x : Item) → IsAs q s → slice_get q.put.items q.taken ≡ Some x → (x.value ≡ n → ⊥)
    → after_got s f n s.items ≡ None
takes_no_other q s f n x is at other =
    let front : s.items ≡ element_of x ∷ drop (suc q.taken) (elements_of q.put.items) = is.items ∙ front_is q.put.items q.taken x at in
    ap (after_got s f n) front ∙ rw (ne_eqb x.value n other) refl

-- a put of the queue that finds room is legal
pub puts_back : (capacity q : ℕ) (x : Occurrence) (s : QueueState) (now : QueueSoFar) (r n : ℕ) → x.event ≡ event.Put r n → r ≡ q
    → length s.items < capacity → IsAs now (with_put s (next_item s x.fiber n))
    → IsAfter true (replayed_from capacity (Some s) (history_in q (x ∷ []))) now
puts_back capacity q x s now r n is same room stands =
    let test : nat_lt (length s.items) capacity ≡ true = lt-ltb (length s.items) capacity room in (
      with_put s (next_item s x.fiber n),
      ap (λ (e : Event). replayed_from capacity (Some s) (cons_option (queue_event q x.fiber e) [])) is ∙ rw (eq-eqb r q same) (rw test refl),
      stands,
    )

-- the same elements, one by one
same_one : (x y : Item) → is_same (x, y) ≡ true → element_of x ≡ element_of y
same_one x y is =
    let p = and_parts (x.fiber == y.fiber && x.nth == y.nth) (x.value == y.value) is in
    let q = and_parts (x.fiber == y.fiber) (x.nth == y.nth) p.0 in
    let f : x.fiber ≡ y.fiber = eqb-true x.fiber y.fiber q.0 in
    let n : x.nth ≡ y.nth = eqb-true x.nth y.nth q.1 in
    let v : x.value ≡ y.value = eqb-true x.value y.value p.1 in
    cc

one_same : (x y : Item) → element_of x ≡ element_of y → is_same (x, y) ≡ true
one_same x y is =
    let f : x.fiber ≡ y.fiber = ap (λ (z : Element). z.fiber) is in
    let n : x.nth ≡ y.nth = ap (λ (z : Element). z.nth) is in
    let v : x.value ≡ y.value = ap (λ (z : Element). z.value) is in
    rw (eq-eqb x.fiber y.fiber f) (rw (eq-eqb x.nth y.nth n) (rw (eq-eqb x.value y.value v) refl))

pub same_all : (xs ys : List Item) → length xs ≡ length ys → list_all is_same (zip xs ys) ≡ true → elements_of xs ≡ elements_of ys
same_all [] [] long is = refl
same_all [] (y ∷ ys) long is = absurd (omega arith)
same_all (x ∷ xs) [] long is = absurd (omega arith)
same_all (x ∷ xs) (y ∷ ys) long is =
    let p = and_parts (is_same (x, y)) (list_all is_same (zip xs ys)) is in
    let one = same_one x y p.0 in
    let all = same_all xs ys (omega arith) p.1 in
    cc

pub all_same : (xs ys : List Item) → elements_of xs ≡ elements_of ys → list_all is_same (zip xs ys) ≡ true
all_same [] ys is = refl
all_same (x ∷ xs) [] is = refl
all_same (x ∷ xs) (y ∷ ys) is =
    let one : element_of x ≡ element_of y = cc in
    let all : elements_of xs ≡ elements_of ys = cc in
    rw (one_same x y one) (all_same xs ys all)

abbrev rest_of : List Item → ℕ → List Item
rest_of xs n = take (length xs - n) (drop n xs)

rest_is : (xs : List Item) (n : ℕ) → rest_of xs n ≡ drop n xs
rest_is xs n = take_all (length xs - n) (drop n xs) (let long = length-drop n xs in omega arith)

-- what is left is what the state holds just where it is so one by one
pub rest_same : (q : QueueSoFar) (s : QueueState) (xs left : List Item) (b : Bool) → IsAs q s → xs ≡ q.put.items
    → length (rest_of xs q.taken) ≡ length left → b ≡ list_all is_same (zip (rest_of xs q.taken) left)
    → (IsTrue b → s.items ≡ elements_of left) × (s.items ≡ elements_of left → IsTrue b)
rest_same q s xs left b is same long test =
    let items : s.items ≡ elements_of (rest_of xs q.taken) =
    is.items ∙ ap (λ (l : List Item). drop q.taken (elements_of l)) (sym same) ∙ drop-map element_of q.taken xs
    ∙ ap (λ (l : List Item). elements_of l) (sym (rest_is xs q.taken)) in (
      λ yes. items ∙ same_all (rest_of xs q.taken) left long (sym test ∙ yes),
      λ e. test ∙ all_same (rest_of xs q.taken) left (sym items ∙ e),
    )
