-- A legal history with one event more, and what it leaves.
use Rattle.std.proofs.Common.{◌≡◌, ℕ, ◌<◌, Bool, Option, Some, None, List, [], ◌∷◌, ◌++◌, length, refl, sym, ◌∙◌, ap, subst, arith}
use Rattle.std.specs.Prelude.{if◌then◌else◌}
use Rattle.std.specs.List.{filter_map}
use Rattle.std.proofs.lemmas.Bool.{eq-eqb, lt-ltb}
use Rattle.std.proofs.lemmas.Option.{same_Some}
use Rattle.fx_term.specs.Element.{Element}
use Rattle.fx_term.specs.declared.queue_event.QueueEvent.{QueueEvent}
use Rattle.fx_term.specs.declared.queue_event.QueueEvent.TheVariants.{Put, Got}
use Rattle.fx_term.specs.Queue.{cut, puts, QueueState, empty_queue, items_of, next_item, with_put, with_taken, after_got, after_event, Leaves}
use Rattle.fx_term.proofs.QueueLaws.{replayed_append, replay_grows, length-numbered, value_of, values_in_cut}

puts_counted : (h : List QueueEvent) → length (filter_map value_of h) ≡ puts h
puts_counted [] = refl
puts_counted (Put f n ∷ h) = let e = puts_counted h in omega (arith, e)
puts_counted (Got f n ∷ h) = puts_counted h

pub leaves_nothing : (c : ℕ) → Leaves c [] []
leaves_nothing c = record { last = empty_queue; legal = refl; rest_is = refl }

module _ (c : ℕ) (h : List QueueEvent) where
  -- a fiber has put as many elements as its cut has puts
  elements_counted : (f : ℕ) (xs : List Element) (l : Leaves c h xs) → length (items_of f l.last.put) ≡ puts (cut f h)
  elements_counted f xs l =
      ap length (replay_grows c f empty_queue h l.last l.legal) ∙ length-numbered f 0 _
      ∙ ap length (sym (values_in_cut f h)) ∙ puts_counted (cut f h)

  pub leaves_put : (xs : List Element) (f n : ℕ) → Leaves c h xs → length xs < c
      → Leaves c (h ++ Put f n ∷ []) (xs ++ record { fiber = f; nth = puts (cut f h); value = n } ∷ [])
  leaves_put xs f n l room =
      let s : QueueState = l.last in
      let lt : length s.items < c = subst (λ (ys : List Element). length ys < c) (sym l.rest_is) room in
      let count = elements_counted f xs l in
      record {
        last = with_put s (next_item s f n);
        legal = replayed_append c (Some empty_queue) h (Put f n ∷ [])
            ∙ ap (λ (q : Option QueueState). after_event c q (Put f n)) l.legal
            ∙ ap (λ (b : Bool). if b then Some (with_put s (next_item s f n)) else None) (lt-ltb (length s.items) c lt);
        rest_is = λ i. l.rest_is i ++ record { fiber = f; nth = count i; value = n } ∷ [];
      }

  pub leaves_got : (x : Element) (xs : List Element) (f : ℕ) → Leaves c h (x ∷ xs) → Leaves c (h ++ Got f x.value ∷ []) xs
  leaves_got x xs f l =
      let s : QueueState = l.last in
      record {
        last = with_taken s f x xs;
        legal = replayed_append c (Some empty_queue) h (Got f x.value ∷ [])
            ∙ ap (λ (q : Option QueueState). after_event c q (Got f x.value)) l.legal
            ∙ ap (after_got s f x.value) l.rest_is
            ∙ ap (λ (b : Bool). if b then Some (with_taken s f x xs) else None) (eq-eqb x.value x.value refl);
        rest_is = refl;
      }

  pub leaves_one : (xs ys : List Element) → Leaves c h xs → Leaves c h ys → xs ≡ ys
  leaves_one xs ys l m = sym l.rest_is ∙ ap (λ (s : QueueState). s.items) (same_Some l.last m.last (sym l.legal ∙ m.legal)) ∙ m.rest_is
