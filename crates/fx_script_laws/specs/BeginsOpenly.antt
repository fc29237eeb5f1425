-- Terms whose first leaf stands at the very place of the term.
use Rattle.fx_term.specs.Term.{Term, Pure, Raise, Never, Cede, Let, Handle, If, For, Mask, Poll, Start, Join, Cancel, First, Offer, TryOffer, Take, TryTake}

-- round its first leaf stands nothing that closes a place or is to be cleaned up, and the leaf is not `canceled`: so a request that can be seen there can be
-- seen as well before a step that comes before the term, with the same clean-ups. The leaf may wait
abbrev pub BeginsOpenly : Term → Type 0
BeginsOpenly (Let x a b) = BeginsOpenly a
BeginsOpenly (Handle a x b) = BeginsOpenly a
BeginsOpenly (Pure v) = Unit {0}
BeginsOpenly (Raise v) = Unit {0}
BeginsOpenly Never = Unit {0}
BeginsOpenly Cede = Unit {0}
BeginsOpenly (If v a b) = Unit {0}
BeginsOpenly (For i n a) = Unit {0}
BeginsOpenly (Mask p a) = Unit {0}
BeginsOpenly (Poll p a) = Unit {0}
BeginsOpenly (Start h a b) = Unit {0}
BeginsOpenly (Join f x a e b c) = Unit {0}
BeginsOpenly (Cancel f) = Unit {0}
BeginsOpenly (First f g) = Unit {0}
BeginsOpenly (Offer q v) = Unit {0}
BeginsOpenly (TryOffer q v) = Unit {0}
BeginsOpenly (Take q) = Unit {0}
BeginsOpenly (TryTake q x a b) = Unit {0}
BeginsOpenly _ = ⊥
