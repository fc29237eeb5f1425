-- What a writer takes, piece by piece.
use Rattle.std.proofs.Common.{◌≡◌, ℕ, ◌+◌, ◌-◌, Option, Some, None, List, ◌++◌, length, take, drop, refl, sym, append_assoc}
use Rattle.std.specs.Io.KnownBytes.{Appends, Keeps}
use Rattle.std.proofs.lemmas.List.{take_rest}
use Rattle.std.proofs.Math.Seq.{take-add}

-- two pieces of a text, one after another
pub take-pieces : (at n : ℕ) (text : List ℕ) → take at text ++ take n (take (length text - at) (drop at text)) ≡ take (at + n) text
take-pieces at n text = rw take_rest (sym (take-add at n text))

-- what nobody touches is kept
pub keeps_same : (known : Option (List ℕ)) → Keeps known known
keeps_same None = tt
keeps_same (Some xs) = refl

-- one more piece is written
pub appends_more : (old mid new : Option (List ℕ)) (one two both : List ℕ)
    → Appends old mid one → Appends mid new two → one ++ two ≡ both → Appends old new both
appends_more None mid new one two both p q e = tt
appends_more (Some xs) None new one two both p q e = absurd p
appends_more (Some xs) (Some ys) None one two both p q e = absurd q
appends_more (Some xs) (Some ys) (Some zs) one two both p q e = rw (q, p, append_assoc, e) refl
