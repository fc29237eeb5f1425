-- A text is read exactly where it is a script.
use Rattle.std.proofs.Common.{
  ◌≡◌,
  ◌↔◌,
  ℕ,
  cond,
  ◌≤◌,
  Bool,
  true,
  false,
  nat_lt,
  IfOk,
  Result,
  Ok,
  Err,
  List,
  [],
  ◌∷◌,
  ◌++◌,
  length,
  codes,
  refl,
  sym,
  ap,
  ◌∙◌,
  subst,
  arith,
}
use Rattle.std.specs.List.{flat_map, IsDistinct}
use Rattle.std.proofs.lemmas.Bool.{ltb-false, le-ltb}
use Rattle.std.proofs.lemmas.List.{append-nil, length-map}
use Rattle.fx_term.specs.declared.node.Node.{Node}
use Rattle.fx_term.specs.Term.{Term}
use Rattle.fx_term.specs.Meaning.{root_term}
use Rattle.fx_term.specs.Tree.{IsOneTree}
use Rattle.fx_term.specs.QueuesNamed.{NamesQueuesBelow}
use Rattle.fx_term.specs.Code.{IsCode}
use Rattle.fx_text.specs.declared.fault.Fault.{Fault}
use Rattle.fx_text.specs.declared.fault.TextFault.{TextFault}
use Rattle.fx_text.specs.declared.fault.TextKind.TheVariants as kind
use Rattle.fx_text.specs.declared.script.Script.{Script}
use Rattle.fx_text.specs.Limits.{most_bytes, most_open, most_queues, most_nodes}
use Rattle.fx_text.specs.Token.{Token, Open, Close, Number, Name, Stray, Misnumber, End, Lexeme, next}
use Rattle.fx_text.specs.Queues.{Queue, names_of, declaration, AreQueues}
use Rattle.fx_text.specs.Group.{OfTerm}
use Rattle.fx_text.specs.Shape.{main_shape}
use Rattle.fx_text.specs.Reading.{Meaning, queues_at, last, parts_at, group_at, main_at, script_at, at_offset, reading}
use Rattle.fx_text.specs.Grammar.{IsText, Spells, IsScript}
use Rattle.fx_text.specs.View.{Answers, meaning}
use Rattle.fx_text.proofs.PartLaws.{bind_ok}
use Rattle.fx_text.proofs.QueuesLaws.{queues_sound, queues_complete}
use Rattle.fx_text.proofs.GrammarLaws.{parts_sound, group_sound, parts_complete}
use Rattle.fx_text.proofs.ScopeKept.{script_fits}
use Rattle.fx_text.proofs.ScriptNeeds.{script_needs_few}

last_ok : (m n : Meaning) (l : Lexeme) (k : Token) → last m l k ≡ Ok n → (k ≡ End) × (m ≡ n)
last_ok m n l End e = (refl, cc)
last_ok m n l Open e = absurd cc
last_ok m n l Close e = absurd cc
last_ok m n l (Number x) e = absurd cc
last_ok m n l (Name x) e = absurd cc
last_ok m n l Stray e = absurd cc
last_ok m n l Misnumber e = absurd cc

pub offset_ok : {A : Type 0} (n : ℕ) (r : Result A Fault) (x : A) → at_offset n r ≡ Ok x → r ≡ Ok x
offset_ok n (Ok y) x e = cc
offset_ok n (Err f) x e = absurd cc

-- what comes after the word main
record HasMain (queues : List Queue) (text : List ℕ) (m : Meaning) : Type 0 where
  queues_are : queues ≡ m.queues
  tokens : List Token
  text_is : IsText text tokens
  main : Spells OfTerm most_open (main_shape (names_of m.queues)) tokens m.term

main_sound : (queues : List Queue) (text : List ℕ) (m : Meaning) → main_at queues text ≡ Ok m → HasMain queues text m
main_sound queues text m e =
    let of_term : Term → Meaning = λ t. record { queues = queues; term = t } in
    let b = bind_ok (parts_at (group_at most_open) (main_shape (names_of queues)) text) (λ x. last (of_term x.0) (next x.1) (next x.1).token) m e in
    let l = last_ok (of_term b.0.0) m (next b.0.1) (next b.0.1).token b.2 in
    let r = parts_sound most_open (group_at most_open) (group_sound most_open) (main_shape (names_of queues)) text b.0.0 b.0.1 [] b.1 l.0 in
    record {
      queues_are = ap (λ (n : Meaning). n.queues) l.1;
      tokens = r.tokens;
      text_is = subst (λ (x : List Token). IsText text x) (append-nil r.tokens) r.text_is;
      main = subst (λ (n : Meaning). Spells OfTerm most_open (main_shape (names_of n.queues)) r.tokens n.term) l.1 r.spells;
    }

-- no queues
none_are : AreQueues []
unfolding IsDistinct
none_are = record { few = omega arith; sized = tt; distinct = tt }

module _ (text : List ℕ) (m : Meaning) where
  text_sound : length text ≤ most_bytes → script_at text ≡ Ok m → IsScript text m
  unfolding script_at
  text_sound short h =
      let q = bind_ok (queues_at text) (λ x. main_at x.0 x.1) m h in
      let s = main_sound q.0.0 q.0.1 m q.2 in
      let d = queues_sound most_queues [] q.0.0 text q.0.1 s.tokens q.1 s.text_is none_are refl in
      record {
        short = short;
        queues = subst AreQueues s.queues_are d.are;
        tokens = s.tokens;
        text_is = subst (λ (qs : List Queue). IsText text (flat_map declaration qs ++ Open ∷ Name (codes "main") ∷ s.tokens))
            (sym d.whole ∙ s.queues_are) d.text_is;
        main = s.main;
      }

  script_sound : reading text ≡ Ok m → IsScript text m
  script_sound e = by_length (nat_lt most_bytes (length text)) refl e
    where
      by_length : (b : Bool) → nat_lt most_bytes (length text) ≡ b → cond {A =
          Result Meaning TextFault} b (Err (record { kind = kind.Length; at = most_bytes })) (at_offset (length text) (script_at text)) ≡ Ok m → IsScript text m
      by_length true p e = absurd cc
      by_length false p e = text_sound (ltb-false _ _ p) (offset_ok (length text) (script_at text) m e)

  script_complete : IsScript text m → reading text ≡ Ok m
  unfolding script_at
  script_complete s =
      let short : nat_lt most_bytes (length text) ≡ false = le-ltb _ _ s.short in
      let q = queues_complete most_queues [] m.queues text s.tokens s.queues refl s.text_is in
      let r = parts_complete OfTerm most_open (main_shape (names_of m.queues)) s.tokens m.term s.main q.rest []
      (subst (λ (x : List Token). IsText q.rest x) (sym (append-nil s.tokens)) q.rest_is) in
      rw (short, q.read, r.read, r.rest_is) refl

-- reading gives exactly what the grammar has
pub reading_law : (text : List ℕ) (m : Meaning) → IsScript text m ↔ (reading text ≡ Ok m)
reading_law text m = (script_complete text m, script_sound text m)

-- an answer that is a text's is in the grammar
pub answer_found : (text : List ℕ) (r : Result Script TextFault) → Answers meaning r (reading text) → IfOk r (λ s. IsScript text (meaning s))
answer_found text (Ok s) a = script_sound text (meaning s) a
answer_found text (Err f) a = tt

-- and where the text is a script, it is that script's
pub answer_only : (text : List ℕ) (r : Result Script TextFault) → Answers meaning r (reading text) → (m : Meaning) → IsScript text m → Answers meaning r (Ok m)
answer_only text r a m s = subst (λ (x : Result Meaning TextFault). Answers meaning r x) (script_complete text m s) a

-- what is read of a script once its queues are
script_is : (text rest : List ℕ) (queues : List Queue) → queues_at text ≡ Ok (queues, rest) → script_at text ≡ main_at queues rest
unfolding script_at
script_is text rest queues e = rw e refl

-- the nodes of a script are a code, with the number of its queues
pub script_code : (text rest : List ℕ) (queues : List Queue) (many : ℕ) (nodes : List Node) → length text ≤ most_bytes → queues_at text ≡ Ok (queues, rest)
    → main_at queues rest ≡ Ok (record { queues = queues; term = root_term nodes }) → IsOneTree nodes → length nodes ≤ most_nodes → many ≡ length queues
    → IsCode many nodes
script_code text rest queues many nodes short declared read tree fits counted =
    let m : Meaning = record { queues = queues; term = root_term nodes } in
    let is_script = text_sound text m short (script_is text rest queues declared ∙ read) in
    let stands = script_fits text m is_script in
    record {
      fits = omega arith;
      tree = tree;
      scope = stands.scope;
      turns = stands.turns;
      needs = script_needs_few text m is_script;
      named = subst (λ (n : ℕ). NamesQueuesBelow n (root_term nodes)) (length-map queues (λ (q : Queue). q.0) ∙ sym counted) stands.named;
    }
