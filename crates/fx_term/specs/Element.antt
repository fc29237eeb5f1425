-- Elements of queues, as histories tell of them: without the stamps of their puts.
use Rattle.std.specs.Prelude.{ℕ, List, map}
use Rattle.fx_term.specs.declared.item.Item.{Item}

-- the fiber that put it, as its nth into that queue, and its value
pub record Element : Type 0 where
  pub fiber : ℕ
  pub nth : ℕ
  pub value : ℕ

abbrev pub element_of : Item → Element
element_of x = record { fiber = x.fiber; nth = x.nth; value = x.value }

abbrev pub elements_of : List Item → List Element
elements_of xs = map element_of xs

-- the stamp in place of the value
abbrev pub stamp_of : Item → Element
stamp_of x = record { fiber = x.fiber; nth = x.nth; value = x.stamp }

abbrev pub stamps_of : List Item → List Element
stamps_of xs = map stamp_of xs
