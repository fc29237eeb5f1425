-- Reading one part: what it means that a token was taken.
use Rattle.std.proofs.Common.{◌≡◌, ℕ, ◌<◌, true, Option, Some, None, Result, Ok, Err, List, length, refl, sym, ap, ◌∙◌, arith}
use Rattle.fx_text.specs.declared.fault.Fault.{Fault}
use Rattle.fx_text.specs.declared.fault.TextKind.{TextKind}
use Rattle.fx_text.specs.Token.{Token, Open, Close, Number, Name, Stray, Misnumber, End, Lexeme, next}
use Rattle.fx_text.specs.Part.{opens, closes, is_closing}
use Rattle.fx_text.specs.Reading.{◌>>=◌, Read, known, part_at}
use Rattle.fx_text.proofs.TokenLaws.{next_shorter}

-- two steps give a value where each does
pub bind_ok : {A B : Type 0} (r : Result A Fault) (f : A → Result B Fault) (y : B) → (r >>= f) ≡ Ok y → (x : A) × (r ≡ Ok x) × (f x ≡ Ok y)
bind_ok (Ok x) f y e = (x, refl, e)
bind_ok (Err d) f y e = absurd cc

pub ok_pair : {A : Type 0} (x y : A) (r s : List ℕ) → ◌≡◌ {A = Read A} (Ok (x, r)) (Ok (y, s)) → (x ≡ y) × (r ≡ s)
ok_pair {A} x y r s e = let q : ◌≡◌ {A = A × List ℕ} (x, r) (y, s) = cc in (ap (λ (p : A × List ℕ). p.0) q, ap (λ (p : A × List ℕ). p.1) q)

known_ok : {A : Type 0} (k : TextKind) (l : Lexeme) (o : Option A) (x : A) (rest : List ℕ) → known k l o ≡ Ok (x, rest) → (o ≡ Some x) × (l.rest ≡ rest)
known_ok k l None x rest e = absurd cc
known_ok k l (Some y) x rest e = let h = ok_pair y x l.rest rest e in (ap Some h.0, h.1)

-- what was read is what the token gives
pub part_ok : {A : Type 0} (takes : Token → Option A) (reason : Token → TextKind) (text : List ℕ) (x : A) (rest : List ℕ)
    → part_at takes reason text ≡ Ok (x, rest) → (takes (next text).token ≡ Some x) × ((next text).rest ≡ rest)
part_ok takes reason text x rest e = known_ok (reason (next text).token) (next text) (takes (next text).token) x rest e

-- a part has a byte or more
pub part_shorter : {A : Type 0} (takes : Token → Option A) (reason : Token → TextKind) (text : List ℕ) (x : A) (rest : List ℕ)
    → takes End ≡ None → part_at takes reason text ≡ Ok (x, rest) → length rest < length text
part_shorter takes reason text x rest none e =
    let q = part_ok takes reason text x rest e in
    let some = q.0 in
    let h = next_shorter text (λ at. absurd (let g : takes End ≡ Some x = ap takes (sym at) ∙ some in cc)) in
    omega (arith, ap length q.1)

-- what the token gives is read
pub part_again : {A : Type 0} (takes : Token → Option A) (reason : Token → TextKind) (text : List ℕ) (k : Token) (x : A)
    → (next text).token ≡ k → takes k ≡ Some x → part_at takes reason text ≡ Ok (x, (next text).rest)
part_again takes reason text k x at e = let h : takes (next text).token ≡ Some x = ap takes at ∙ e in rw h refl

pub opens_is : (k : Token) (u : Unit {0}) → opens k ≡ Some u → k ≡ Open
opens_is Open u e = refl
opens_is Close u e = absurd cc
opens_is (Number n) u e = absurd cc
opens_is (Name n) u e = absurd cc
opens_is Stray u e = absurd cc
opens_is Misnumber u e = absurd cc
opens_is End u e = absurd cc

pub closes_is : (k : Token) (u : Unit {0}) → closes k ≡ Some u → k ≡ Close
closes_is Close u e = refl
closes_is Open u e = absurd cc
closes_is (Number n) u e = absurd cc
closes_is (Name n) u e = absurd cc
closes_is Stray u e = absurd cc
closes_is Misnumber u e = absurd cc
closes_is End u e = absurd cc

pub closing_is : (k : Token) → is_closing k ≡ true → k ≡ Close
closing_is Close e = refl
closing_is Open e = absurd cc
closing_is (Number n) e = absurd cc
closing_is (Name n) e = absurd cc
closing_is Stray e = absurd cc
closing_is Misnumber e = absurd cc
closing_is End e = absurd cc
