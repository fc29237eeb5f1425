-- What a reader gives, piece by piece.
use Rattle.std.proofs.Common.{◌≡◌, ℕ, ◌+◌, ◌-◌, ◌<◌, ◌≤◌, ◌≢◌, Option, Some, None, List, [], ◌++◌, length}
use Rattle.std.proofs.Common.{refl, sym, arith, append_assoc, length-append}
use Rattle.std.specs.Io.KnownBytes.{Consumes, Keeps, IsAtEnd}
use Rattle.std.proofs.lemmas.List.{take_all, append-nil, take_at}
use Rattle.fx_report.specs.declared.answer_fault.AnswerFault.{AnswerFault}
use Rattle.fx_report.specs.declared.answer_fault.AnswerFault.TheVariants.{Read, Write, Memory}
use Rattle.fx_report.specs.Input.{TakesPiece, TakesPrefix, TakesAtMost, FailsToRead}

-- some more bytes are read
consumes_both : (left mid rest : Option (List ℕ)) (one two both : List ℕ)
    → Consumes left mid one → Consumes mid rest two → both ≡ one ++ two → Consumes left rest both
consumes_both None mid rest one two both p q e = tt
consumes_both (Some xs) None rest one two both p q e = absurd p
consumes_both (Some xs) (Some ys) None one two both p q e = absurd q
consumes_both (Some xs) (Some ys) (Some zs) one two both p q e = rw (p, q, e) (sym (append_assoc one two zs))

-- one more piece is read
pub consumes_more : (left mid rest : Option (List ℕ)) (text longer : List ℕ) (n : ℕ)
    → Consumes left mid text → TakesPiece mid rest text longer n → Consumes left rest longer
consumes_more left mid rest text longer n p t = consumes_both left mid rest text t.piece longer p t.taken t.appended

-- a piece within the room that is left keeps the text within its limit
pub piece_within : {left rest : Option (List ℕ)} {text longer : List ℕ} {n : ℕ} (most : ℕ)
    → TakesPiece left rest text longer n → length text ≤ most → n ≤ most - length text → length longer ≤ most
piece_within {text = text} most t h k = let e = t.count in rw t.appended (simp length-append (omega arith))

-- all was read
pub read_to_end : (most : ℕ) (left rest : Option (List ℕ)) (text : List ℕ) → Consumes left rest text → IsAtEnd rest → length text ≤ most
    → TakesPrefix most left rest text
read_to_end most None rest text p e h = record { first = tt; taken = tt; within = h }
read_to_end most (Some xs) None text p e h = absurd p
read_to_end most (Some xs) (Some ys) text p e h =
    let whole : xs ≡ text = rw (p, e) (append-nil text) in
    record { first = rw whole (sym (take_all most text h)); taken = p; within = h }

-- as many bytes were read as are wanted
pub read_most : (most : ℕ) (left rest : Option (List ℕ)) (text : List ℕ) → Consumes left rest text → length text ≡ most
    → TakesPrefix most left rest text
read_most most None rest text p h = record { first = tt; taken = tt; within = omega arith }
read_most most (Some xs) None text p h = absurd p
read_most most (Some xs) (Some ys) text p h =
    record { first = rw p (sym (take_at text ys most h)); taken = p; within = omega arith }

-- a read that keeps what is left takes nothing
keeps_all : (left rest : Option (List ℕ)) → Keeps left rest → TakesAtMost 0 left rest
keeps_all None rest k = record { bytes = []; taken = tt; within = omega arith }
keeps_all (Some xs) None k = absurd k
keeps_all (Some xs) (Some ys) k = record { bytes = []; taken = sym k; within = omega arith }

-- some bytes were taken after a text
takes_more : (left mid rest : Option (List ℕ)) (text : List ℕ) (room most : ℕ)
    → Consumes left mid text → TakesAtMost room mid rest → length text + room ≤ most → TakesAtMost most left rest
takes_more left mid rest text room most p t h = record {
  bytes = text ++ t.bytes;
  taken = consumes_both left mid rest text t.bytes (text ++ t.bytes) p t.taken refl;
  within = let few = t.within in simp length-append (omega arith);
}

-- the piece after a text was not read, or not kept
pub fails_to_read : (most : ℕ) (fault : AnswerFault) (left mid rest : Option (List ℕ)) (text : List ℕ) (room : ℕ)
    → Consumes left mid text → length text < most → length text + room ≤ most
    → (fault ≡ Read → Keeps mid rest) → TakesAtMost room mid rest → fault ≢ Write → FailsToRead most fault left rest
fails_to_read most Read left mid rest text room p h r kept few other =
    takes_more left mid rest text 0 (most - 1) p (keeps_all mid rest (kept refl)) (omega arith)
fails_to_read most Memory left mid rest text room p h r kept few other = takes_more left mid rest text room most p few r
fails_to_read most Write left mid rest text room p h r kept few other = absurd (other refl)
