-- The queues of a text: reading takes those that the grammar has, and no others.
use Rattle.std.proofs.Common.{◌≡◌, ℕ, zero, suc, ◌+◌, ◌-◌, ◌<◌, ◌≤◌, nat_lt, nat_le, Bool, true, false, cond, ◌&&◌, Some, None, Ok, Err, List, []}
use Rattle.std.proofs.Common.{◌∷◌, ◌++◌, length, codes, bytes_eq, refl, sym, ◌∙◌, ap, subst, arith, append_assoc}
use Rattle.std.specs.Int.{IsInRange}
use Rattle.std.specs.Str.{IsUtf8}
use Rattle.std.specs.List.{AllByRecursion, IsDistinct, list_any, flat_map}
use Rattle.std.proofs.lemmas.Bool.{or_parts, leb-true, le-leb, lt-ltb, ltb-true}
use Rattle.std.proofs.lemmas.List.{append-nil, length-append, map-append}
use Rattle.std.proofs.lemmas.Slice.Eq.{bytes_eq-Decides}
use Rattle.std.proofs.lemmas.Str.{IsUtf8-from_ascii}
use Rattle.fx_text.specs.declared.fault.Fault.{Fault}
use Rattle.fx_text.specs.declared.fault.ReadError.{ReadError}
use Rattle.fx_text.specs.declared.fault.ReadError.TheVariants as errors
use Rattle.fx_text.specs.declared.fault.TextKind.TheVariants as kind
use Rattle.fx_text.specs.declared.queue_decl.QueueDecl.{QueueDecl}
use Rattle.fx_text.specs.declared.top.TopForm.{TopForm}
use Rattle.fx_text.specs.declared.top.TopForm.TheVariants as form
use Rattle.fx_text.specs.Limits.{most_queues, most_capacity}
use Rattle.fx_text.specs.Token.{Token, Open, Close, Number, Name, Stray, Misnumber, End, Lexeme, next}
use Rattle.fx_text.specs.Scope.{Scope, top, is_taken}
use Rattle.fx_text.specs.Queues.{Queue, names_of, declaration, AreQueues}
use Rattle.fx_text.specs.Part.{closes, new_name, capacity_of, top_form_of, no_top_form}
use Rattle.fx_text.specs.Reading.{
  ◌>>=◌,
  Read,
  at_name,
  at_number,
  top_opening,
  top_opening_at,
  binder_at,
  capacity_at,
  closing_at,
  top_form_at,
  top_at,
  declaration_at,
  queues_after,
  queues_within,
  queues_at,
}
use Rattle.fx_text.specs.Grammar.{IsText}
use Rattle.fx_text.specs.QueuesView.{view_queue, view_queues}
use Rattle.fx_text.specs.Given.{Fails}
use Rattle.fx_text.proofs.TokenLaws.{name_ascii}
use Rattle.fx_text.proofs.PartLaws.{bind_ok, ok_pair, part_ok, part_again, closes_is}

-- ---- one queue more

module _ {X : Type 0} (P : X → Type 0) (y : X) where
  each_push : (xs : List X) → AllByRecursion P xs → P y → AllByRecursion P (xs ++ y ∷ [])
  each_push [] all last = (last, tt)
  each_push (x ∷ xs) all last = (all.0, each_push xs all.1 last)

  each_middle : (xs ys : List X) → AllByRecursion P (xs ++ y ∷ ys) → P y
  each_middle [] ys all = all.0
  each_middle (x ∷ xs) ys all = each_middle xs ys all.1

distinct_push : (xs : List (List ℕ)) (y : List ℕ) → IsDistinct bytes_eq xs → list_any (λ x. bytes_eq x y) xs ≡ false → IsDistinct bytes_eq (xs ++ y ∷ [])
unfolding IsDistinct
distinct_push [] y d e = (tt, tt)
distinct_push (x ∷ xs) y d e = let o = or_parts _ _ e in (each_push (λ z. bytes_eq x z ≡ false) y xs d.0 o.0, distinct_push xs y d.1 o.1)

not_before : (xs : List (List ℕ)) (y : List ℕ) (ys : List (List ℕ)) → IsDistinct bytes_eq (xs ++ y ∷ ys) → list_any (λ x. bytes_eq x y) xs ≡ false
unfolding IsDistinct
not_before [] y ys d = refl
not_before (x ∷ xs) y ys d = let other = each_middle (λ z. bytes_eq x z ≡ false) y xs ys d.0 in let others = not_before xs y ys d.1 in rw (other, others) refl

-- a queue may be declared after these
pub record MayFollow (before : List Queue) (q : Queue) : Type 0 where
  pub new : is_taken q.0 (top (names_of before)) ≡ false
  pub sized : IsInRange 1 most_capacity q.1

abbrev Sized : Queue → Type 0
Sized q = IsInRange 1 most_capacity q.1

names_middle : (before : List Queue) (q : Queue) (more : List Queue) → names_of (before ++ q ∷ more) ≡ names_of before ++ q.0 ∷ names_of more
names_middle before q more = map-append (λ (q : Queue). q.0) before (q ∷ more)

are_push : (before : List Queue) (q : Queue) → AreQueues before → MayFollow before q → length before < most_queues → AreQueues (before ++ q ∷ [])
are_push before q are may room = record {
  few = omega (arith, length-append before (q ∷ []));
  sized = each_push Sized q before are.sized may.sized;
  distinct = subst (λ (l : List (List ℕ)). IsDistinct bytes_eq l) (sym (names_middle before q [])) (distinct_push (names_of before) q.0 are.distinct may.new);
}

may_follow : (before : List Queue) (q : Queue) (more : List Queue) → AreQueues (before ++ q ∷ more) → MayFollow before q
may_follow before q more are = record {
  new = not_before (names_of before) q.0 (names_of more) (subst (λ (l : List (List ℕ)). IsDistinct bytes_eq l) (names_middle before q more) are.distinct);
  sized = each_middle Sized q before more are.sized;
}

-- ---- its tokens

new_name_is : (p : Scope) (k : Token) (x : List ℕ) → new_name p k ≡ Some x → (k ≡ Name x) × (is_taken x p ≡ false)
new_name_is p (Name y) x e = by_test (is_taken y p) refl e
  where
    by_test : (b : Bool) → is_taken y p ≡ b → cond b None (Some y) ≡ Some x → (Name y ≡ Name x) × (is_taken x p ≡ false)
    by_test true taken e = absurd cc
    by_test false free e = let same : y ≡ x = cc in (ap Name same, subst (λ (z : List ℕ). is_taken z p ≡ false) same free)
new_name_is p Open x e = absurd cc
new_name_is p Close x e = absurd cc
new_name_is p (Number n) x e = absurd cc
new_name_is p Stray x e = absurd cc
new_name_is p Misnumber x e = absurd cc
new_name_is p End x e = absurd cc

and_both : (a b : Bool) → (a && b) ≡ true → (a ≡ true) × (b ≡ true)
and_both true b e = (refl, e)
and_both false b e = absurd cc

capacity_is : (k : Token) (n : ℕ) → capacity_of k ≡ Some n → (k ≡ Number n) × IsInRange 1 most_capacity n
capacity_is (Number m) n e = by_test (nat_le 1 m && nat_le m most_capacity) refl e
  where
    by_test : (b : Bool) → (nat_le 1 m && nat_le m most_capacity) ≡ b → cond b (Some m) None ≡ Some n → (Number m ≡ Number n) × IsInRange 1 most_capacity n
    by_test true fits e =
        let same : m ≡ n = cc in
        let both = and_both _ _ fits in
        (ap Number same, subst (λ (c : ℕ). IsInRange 1 most_capacity c) same (leb-true _ _ both.0, leb-true _ _ both.1))
    by_test false fits e = absurd cc
capacity_is Open n e = absurd cc
capacity_is Close n e = absurd cc
capacity_is (Name x) n e = absurd cc
capacity_is Stray n e = absurd cc
capacity_is Misnumber n e = absurd cc
capacity_is End n e = absurd cc

capacity_again : (n : ℕ) → IsInRange 1 most_capacity n → capacity_of (Number n) ≡ Some n
capacity_again n fits = rw (le-leb _ _ fits.0, le-leb _ _ fits.1) refl

-- the word of a form at the top, where so many more queues may be declared
abbrev top_word : TopForm → List ℕ
top_word form.Main = codes "main"
top_word form.Queue = codes "queue"

abbrev HasRoom : ℕ → TopForm → Type 0
HasRoom room form.Main = Unit {0}
HasRoom room form.Queue = 0 < room

top_form_is : (room : ℕ) (k : Token) (f : TopForm) → top_form_of room k ≡ Some f → (k ≡ Name (top_word f)) × HasRoom room f
top_form_is room (Name x) f e = by_main (bytes_eq x (codes "main")) refl e
  where
    by_queue : (b c : Bool) → bytes_eq x (codes "queue") ≡ b → nat_lt 0 room ≡ c → cond (b && c) (Some form.Queue) None ≡ Some f
        → (Name x ≡ Name (top_word f)) × HasRoom room f
    by_queue true true is more e =
        let same : form.Queue ≡ f = cc in
        subst (λ (g : TopForm). (Name x ≡ Name (top_word g)) × HasRoom room g) same
        (ap Name ((bytes_eq-Decides x (codes "queue")).0 is), ltb-true _ _ more)
    by_queue true false is more e = absurd cc
    by_queue false c is more e = absurd cc

    by_main : (b : Bool) → bytes_eq x (codes "main") ≡ b
        → cond b (Some form.Main) (cond (bytes_eq x (codes "queue") && nat_lt 0 room) (Some form.Queue) None) ≡ Some f
        → (Name x ≡ Name (top_word f)) × HasRoom room f
    by_main true is e =
        let same : form.Main ≡ f = cc in
        subst (λ (g : TopForm). (Name x ≡ Name (top_word g)) × HasRoom room g) same (ap Name ((bytes_eq-Decides x (codes "main")).0 is), tt)
    by_main false is e = by_queue (bytes_eq x (codes "queue")) (nat_lt 0 room) refl refl e
top_form_is room Open f e = absurd cc
top_form_is room Close f e = absurd cc
top_form_is room (Number n) f e = absurd cc
top_form_is room Stray f e = absurd cc
top_form_is room Misnumber f e = absurd cc
top_form_is room End f e = absurd cc

top_form_again : (room : ℕ) (f : TopForm) → HasRoom room f → top_form_of room (Name (top_word f)) ≡ Some f
top_form_again room form.Main h = refl
top_form_again room form.Queue h = let more : nat_lt 0 room ≡ true = lt-ltb _ _ h in rw more refl

top_ok : (l : Lexeme) (k : Token) (u : Unit {0}) (rest : List ℕ) → top_opening l k ≡ Ok (u, rest) → (k ≡ Open) × (l.rest ≡ rest)
top_ok l Open u rest e = (refl, (ok_pair tt u l.rest rest e).1)
top_ok l Close u rest e = absurd cc
top_ok l (Number n) u rest e = absurd cc
top_ok l (Name n) u rest e = absurd cc
top_ok l Stray u rest e = absurd cc
top_ok l Misnumber u rest e = absurd cc
top_ok l End u rest e = absurd cc

-- a token in front
token_text : (text rest : List ℕ) (k : Token) (others : List Token) → (next text).token ≡ k → (next text).rest ≡ rest → IsText rest others
    → IsText text (k ∷ others)
token_text text rest k others at after is = (at, subst (λ (l : List ℕ). IsText l others) (sym after) is)

-- ---- what is read is in the grammar

module _ (room : ℕ) (text : List ℕ) (f : TopForm) (rest : List ℕ) (e : top_at room text ≡ Ok (f, rest)) where
  top_sound : (others : List Token) → IsText rest others → IsText text (Open ∷ Name (top_word f) ∷ others)
  unfolding top_opening_at top_form_at
  top_sound others is =
      let o = bind_ok (top_opening_at text) (λ o. top_form_at room o.1) (f, rest) e in
      let p = top_ok (next text) (next text).token o.0.0 o.0.1 o.1 in
      let q = part_ok (top_form_of room) no_top_form o.0.1 f rest o.2 in
      let w = top_form_is room _ f q.0 in
      token_text text o.0.1 Open (Name (top_word f) ∷ others) p.0 p.1 (token_text o.0.1 rest (Name (top_word f)) others w.0 q.1 is)

  -- a queue is read only where one more may be declared
  top_room : HasRoom room f
  unfolding top_form_at
  top_room =
      let o = bind_ok (top_opening_at text) (λ o. top_form_at room o.1) (f, rest) e in
      let q = part_ok (top_form_of room) no_top_form o.0.1 f rest o.2 in
      (top_form_is room (next o.0.1).token f q.0).1

-- the tokens of a declaration after its word
abbrev size_of : Queue → List Token → List Token
size_of q others = Name q.0 ∷ Number q.1 ∷ Close ∷ others

pub record IsDeclared (before : List Queue) (text : List ℕ) (q : Queue) (rest : List ℕ) : Type 0 where
  pub may : MayFollow before q
  pub text_is : (others : List Token) → IsText rest others → IsText text (size_of q others)

declaration_sound : (before : List Queue) (text : List ℕ) (q : Queue) (rest : List ℕ) → declaration_at before text ≡ Ok (q, rest)
    → IsDeclared before text q rest
unfolding declaration_at binder_at capacity_at closing_at
declaration_sound before text q rest e =
    let b = bind_ok (binder_at (top (names_of before)) text) (λ x. capacity_at x.1 >>= λ n. closing_at n.1 >>= λ c. Ok ((x.0, n.0), c.1)) (q, rest) e in
    let s = bind_ok (capacity_at b.0.1) (λ n. closing_at n.1 >>= λ c. Ok ((b.0.0, n.0), c.1)) (q, rest) b.2 in
    let c = bind_ok (closing_at s.0.1) (λ c. Ok ((b.0.0, s.0.0), c.1)) (q, rest) s.2 in
    let o = ok_pair (b.0.0, s.0.0) q c.0.1 rest c.2 in
    let name = part_ok (new_name (top (names_of before))) (at_name kind.Taken) text b.0.0 b.0.1 b.1 in
    let size = part_ok capacity_of (at_number kind.Size) b.0.1 s.0.0 s.0.1 s.1 in
    let close = part_ok closes (λ _. kind.Unwanted) s.0.1 c.0.0 c.0.1 c.1 in
    let after : (next s.0.1).rest ≡ rest = ◌∙◌ {b = c.0.1} close.1 o.1 in
    let n = new_name_is (top (names_of before)) _ b.0.0 name.0 in
    let m = capacity_is _ s.0.0 size.0 in
    subst (λ (x : Queue). IsDeclared before text x rest) o.0 (record {
      may = record { new = n.1; sized = m.1 };
      text_is = λ others is. token_text text b.0.1 (Name b.0.0) (Number s.0.0 ∷ Close ∷ others) n.0 name.1
          (token_text b.0.1 s.0.1 (Number s.0.0) (Close ∷ others) m.0 size.1
          (token_text s.0.1 rest Close others (closes_is _ _ close.0) after is));
    })

-- the text declares these queues, of which the first were declared before, and then main begins
pub record Declares (before queues : List Queue) (text : List ℕ) (others : List Token) : Type 0 where
  pub new : List Queue
  pub whole : queues ≡ before ++ new
  pub are : AreQueues queues
  pub text_is : IsText text (flat_map declaration new ++ Open ∷ Name (codes "main") ∷ others)

no_more : (room : ℕ) (before queues : List Queue) (text after rest : List ℕ) (others : List Token) → top_at room text ≡ Ok (form.Main, after)
    → ◌≡◌ {A = Read (List Queue)} (Ok (before, after)) (Ok (queues, rest)) → IsText rest others → AreQueues before → Declares before queues text others
no_more room before queues text after rest others first e is are =
    let o = ok_pair before queues after rest e in
    record {
      new = [];
      whole = sym o.0 ∙ sym (append-nil before);
      are = subst AreQueues o.0 are;
      text_is = top_sound room text form.Main after first others (subst (λ (l : List ℕ). IsText l others) (sym o.1) is);
    }

pub queues_sound : (room : ℕ) (before queues : List Queue) (text rest : List ℕ) (others : List Token) → queues_within room before text ≡ Ok (queues, rest)
    → IsText rest others → AreQueues before → length before + room ≡ most_queues → Declares before queues text others
unfolding queues_within
queues_sound zero before queues text rest others e is are full =
    let t = bind_ok (top_at zero text) (λ x. Ok (before, x.1)) (queues, rest) e in
    let o = ok_pair before queues t.0.1 rest t.2 in
    by_form t.0.0 t.0.1 t.1 o
  where
    by_form : (f : TopForm) (after : List ℕ) → top_at zero text ≡ Ok (f, after) → (before ≡ queues) × (after ≡ rest) → Declares before queues text others
    by_form form.Main after first o = no_more zero before queues text after rest others first
        (ap (λ (qs : List Queue). Ok (qs, after)) o.0 ∙ ap (λ (l : List ℕ). Ok (queues, l)) o.1) is are
    by_form form.Queue after first o =
        let none = top_room zero text form.Queue after first in
        absurd (omega arith)
queues_sound (suc room) before queues text rest others e is are full =
    let t = bind_ok (top_at (suc room) text) (λ x. queues_after (queues_within room) before x.0 x.1) (queues, rest) e in
    by_form t.0.0 t.0.1 t.1 t.2 (λ q left. queues_sound room (before ++ q ∷ []) queues left rest others)
  where
    by_form : (f : TopForm) (after : List ℕ) → top_at (suc room) text ≡ Ok (f, after) → queues_after (queues_within room) before f after ≡ Ok (queues, rest)
        → ((q : Queue) (left : List ℕ) → queues_within room (before ++ q ∷ []) left ≡ Ok (queues, rest) → IsText rest others → AreQueues (before ++ q ∷ [])
        → length (before ++ q ∷ []) + room ≡ most_queues → Declares (before ++ q ∷ []) queues left others)
        → Declares before queues text others
    by_form form.Main after first e others_too = no_more (suc room) before queues text after rest others first e is are
    by_form form.Queue after first e others_too =
        let d = bind_ok (declaration_at before after) (λ q. queues_within room (before ++ q.0 ∷ []) q.1) (queues, rest) e in
        let one = declaration_sound before after d.0.0 d.0.1 d.1 in
        let more = others_too d.0.0 d.0.1 d.2 is (are_push before d.0.0 are one.may (omega arith))
        (omega (arith, length-append before (d.0.0 ∷ []))) in
        let tokens = flat_map declaration more.new ++ Open ∷ Name (codes "main") ∷ others in
        record {
          new = d.0.0 ∷ more.new;
          whole = more.whole ∙ append_assoc before (d.0.0 ∷ []) more.new;
          are = more.are;
          text_is = top_sound (suc room) text form.Queue after first (size_of d.0.0 tokens) (one.text_is tokens more.text_is);
        }

-- ---- what is in the grammar is read

-- the text is read so far, and the other tokens are left
pub record Finds (room : ℕ) (before queues : List Queue) (text : List ℕ) (others : List Token) : Type 0 where
  pub rest : List ℕ
  pub read : queues_within room before text ≡ Ok (queues, rest)
  pub rest_is : IsText rest others

top_again : (room : ℕ) (text : List ℕ) (f : TopForm) (others : List Token) → IsText text (Open ∷ Name (top_word f) ∷ others) → HasRoom room f
    → top_at room text ≡ Ok (f, (next (next text).rest).rest)
unfolding top_opening_at top_form_at
top_again room text f others is h =
    let word = part_again (top_form_of room) no_top_form (next text).rest (Name (top_word f)) f is.1.0 (top_form_again room f h) in
    rw (is.0, word) refl

declaration_again : (before : List Queue) (text : List ℕ) (q : Queue) (others : List Token) → IsText text (size_of q others) → MayFollow before q
    → declaration_at before text ≡ Ok (q, (next (next (next text).rest).rest).rest)
unfolding declaration_at binder_at capacity_at closing_at
declaration_again before text q others is may =
    let free = may.new in
    let name = part_again (new_name (top (names_of before))) (at_name kind.Taken) text (Name q.0) q.0 is.0 (rw free refl) in
    let size = part_again capacity_of (at_number kind.Size) (next text).rest (Number q.1) q.1 is.1.0 (capacity_again q.1 may.sized) in
    let close = part_again closes (λ _. kind.Unwanted) (next (next text).rest).rest Close tt is.1.1.0 refl in
    rw (name, size, close) refl

pub queues_complete : (room : ℕ) (before new : List Queue) (text : List ℕ) (others : List Token) → AreQueues (before ++ new)
    → length before + room ≡ most_queues → IsText text (flat_map declaration new ++ Open ∷ Name (codes "main") ∷ others)
    → Finds room before (before ++ new) text others
unfolding queues_within
queues_complete zero before [] text others are full is = record {
  rest = (next (next text).rest).rest;
  read = let first = top_again zero text form.Main others is tt in rw (first, append-nil before) refl;
  rest_is = is.1.1;
}
queues_complete (suc room) before [] text others are full is = record {
  rest = (next (next text).rest).rest;
  read = let first = top_again (suc room) text form.Main others is tt in rw (first, append-nil before) refl;
  rest_is = is.1.1;
}
queues_complete zero before (q ∷ new) text others are full is = absurd (let few = are.few in omega (arith, length-append before (q ∷ new)))
queues_complete (suc room) before (q ∷ new) text others are full is =
    let after = (next (next text).rest).rest in
    let tokens = flat_map declaration new ++ Open ∷ Name (codes "main") ∷ others in
    let first = top_again (suc room) text form.Queue (size_of q tokens) is (omega arith) in
    let one = declaration_again before after q tokens is.1.1 (may_follow before q new are) in
    let same = append_assoc before (q ∷ []) new in
    let more = queues_complete room (before ++ q ∷ []) new (next (next (next after).rest).rest).rest others
    (subst AreQueues (sym same) are) (omega (arith, length-append before (q ∷ []))) is.1.1.1.1.1 in
    record { rest = more.rest; read = rw (first, one) (more.read ∙ ap (λ (qs : List Queue). Ok (qs, more.rest)) same); rest_is = more.rest_is }

-- ---- one by one

-- the name of a queue is text
pub binder_text : (p : Scope) (text x rest : List ℕ) → binder_at p text ≡ Ok (x, rest) → IsUtf8 x
unfolding binder_at
binder_text p text x rest e =
    let name = part_ok (new_name p) (at_name kind.Taken) text x rest e in
    IsUtf8-from_ascii x (name_ascii text x (new_name_is p _ x name.0).0)

-- after the form at the top come the others, where there is one queue less to declare
within_next : (room : ℕ) (before : List Queue) (text : List ℕ) (f : TopForm) (rest : List ℕ) → top_at room text ≡ Ok (f, rest)
    → queues_within room before text ≡ queues_after (queues_within (room - 1)) before f rest
unfolding queues_within
within_next zero before text form.Main rest e = rw e refl
within_next zero before text form.Queue rest e = absurd (let none = top_room zero text form.Queue rest e in omega arith)
within_next (suc room) before text f rest e = let less : suc room - 1 ≡ room = omega arith in rw (e, less) refl

within_fails : (room : ℕ) (before : List Queue) (text : List ℕ) (d : Fault) → top_at room text ≡ Err d → queues_within room before text ≡ Err d
unfolding queues_within
within_fails zero before text d e = rw e refl
within_fails (suc room) before text d e = rw e refl

-- these queues were read, and then the form at the top up to its word
pub record Goes (text : List ℕ) (queues : List QueueDecl) (f : TopForm) (rest : List ℕ) : Type 0 where
  pub few : length queues ≤ most_queues
  pub room : HasRoom (most_queues - length queues) f
  pub read : queues_at text ≡ queues_after (queues_within (most_queues - length queues - 1)) (view_queues queues) f rest
  pub shorter : length rest < length text

pub starts : (text : List ℕ) (f : TopForm) (rest : List ℕ) → top_at most_queues text ≡ Ok (f, rest) → length rest < length text → Goes text [] f rest
starts text f rest e shorter = record {
  few = omega arith;
  room = top_room most_queues text f rest e;
  read = within_next most_queues [] text f rest e;
  shorter = shorter;
}

pub fails_first : (text : List ℕ) (e : ReadError) → Fails e (top_at most_queues text) → Fails e (queues_at text)
fails_first text errors.Memory h = tt
fails_first text (errors.Fault d) h = within_fails most_queues [] text d h

-- a queue more was read
module _ (text : List ℕ) (queues more : List QueueDecl) (f : TopForm) (rest after : List ℕ) (q : QueueDecl) (many : ℕ) (goes : Goes text queues f rest)
    (at : f ≡ form.Queue) (declared : declaration_at (view_queues queues) rest ≡ Ok (view_queue q, after)) (pushed : more ≡ queues ++ q ∷ [])
    (counted : many ≡ length more) where
  longer : length more ≡ length queues + 1
  longer = ap length pushed ∙ length-append queues (q ∷ [])

  here : queues_at text ≡ queues_within (most_queues - many) (view_queues more) after
  here =
      let fewer : most_queues - length queues - 1 ≡ most_queues - many = omega (arith, longer) in
      let viewed : view_queues queues ++ view_queue q ∷ [] ≡ view_queues more = sym (ap view_queues pushed ∙ map-append view_queue queues (q ∷ [])) in
      goes.read ∙ rw (at, declared, fewer, viewed) refl

  pub fails_next : (e : ReadError) → Fails e (top_at (most_queues - many) after) → Fails e (queues_at text)
  fails_next errors.Memory h = tt
  fails_next (errors.Fault d) h = here ∙ within_fails (most_queues - many) (view_queues more) after d h

  pub goes_on : (g : TopForm) (end : List ℕ) → top_at (most_queues - many) after ≡ Ok (g, end) → length after < length rest → length end < length after
      → Goes text more g end
  goes_on g end e shorter less = record {
    few = let room : HasRoom (most_queues - length queues) form.Queue = subst (HasRoom (most_queues - length queues)) at goes.room in omega (arith, longer);
    room = subst (λ (n : ℕ). HasRoom (most_queues - n) g) counted (top_room (most_queues - many) after g end e);
    read = here ∙ within_next (most_queues - many) (view_queues more) after g end e
        ∙ ap (λ (n : ℕ). queues_after (queues_within (most_queues - n - 1)) (view_queues more) g end) counted;
    shorter = let long = goes.shorter in omega arith;
  }

-- the word main was read
pub ends : (text : List ℕ) (queues : List QueueDecl) (rest : List ℕ) → Goes text queues form.Main rest → queues_at text ≡ Ok (view_queues queues, rest)
ends text queues rest goes = goes.read
