-- How many elements a fiber has put after a call.
use Rattle.std.proofs.Common.{◌≡◌, ℕ, ◌+◌, List, [], ◌∷◌, ◌++◌, refl, ◌∙◌, ap}
use Rattle.fx_term.specs.Queue.{puts}
use Rattle.fx_term.specs.declared.item.Item.{Item}
use Rattle.fx_term.specs.declared.queue_event.QueueEvent.{QueueEvent}
use Rattle.fx_term.specs.declared.queue_event.QueueEvent.TheVariants.{Put, Got}
use Rattle.fx_queue.specs.declared.pass_view.PassView.{PassView}
use Rattle.fx_queue.specs.Told.{DidPut, DidGet}

puts-snoc_put : (l : List QueueEvent) (f v : ℕ) → puts (l ++ Put f v ∷ []) ≡ puts l + 1
puts-snoc_put [] f v = refl
puts-snoc_put (Put g w ∷ l) f v = ap (λ (k : ℕ). k + 1) (puts-snoc_put l f v)
puts-snoc_put (Got g w ∷ l) f v = puts-snoc_put l f v

puts-snoc_got : (l : List QueueEvent) (f v : ℕ) → puts (l ++ Got f v ∷ []) ≡ puts l
puts-snoc_got [] f v = refl
puts-snoc_got (Put g w ∷ l) f v = ap (λ (k : ℕ). k + 1) (puts-snoc_got l f v)
puts-snoc_got (Got g w ∷ l) f v = puts-snoc_got l f v

pub put_count : (v : PassView) (value stamp : ℕ) (w : PassView) → DidPut v value stamp w → puts w.own.acts ≡ puts v.own.acts + 1
put_count v value stamp w m = ap (λ (u : PassView). puts u.own.acts) m.is ∙ puts-snoc_put v.own.acts v.own.id value

pub got_count : (v : PassView) (x : Item) (w : PassView) → DidGet v x w → puts w.own.acts ≡ puts v.own.acts
got_count v x w m = ap (λ (u : PassView). puts u.own.acts) m.is ∙ puts-snoc_got v.own.acts v.own.id x.value
