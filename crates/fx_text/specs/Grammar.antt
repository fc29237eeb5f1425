-- The grammar of scripts: which tokens each shape stands for. It knows no faults and no order of reading.
use Rattle.std.specs.Prelude.{◌≡◌, ℕ, suc, true, length, ◌≤◌, Some, List, [], ◌∷◌, ◌++◌, codes}
use Rattle.std.specs.List.{flat_map}
use Rattle.fx_term.specs.declared.node.Arg.{Arg}
use Rattle.fx_term.specs.declared.name_kind.NameKind.{NameKind}
use Rattle.fx_text.specs.declared.form.Form.{Form}
use Rattle.fx_text.specs.Limits.{most_bytes, most_open}
use Rattle.fx_text.specs.Token.{Token, Open, Close, Name, End, next}
use Rattle.fx_text.specs.Scope.{Scope}
use Rattle.fx_text.specs.Queues.{names_of, declaration, AreQueues}
use Rattle.fx_text.specs.Group.{Group, OfTerm, Content, scope_after, needs_few}
use Rattle.fx_text.specs.Shape.{Shape, ends, word, value, count, name, queue, binder, group, groups, content, main_shape}
use Rattle.fx_text.specs.Part.{value_of, count_of, name_of, queue_of, new_name, form_of}
use Rattle.fx_text.specs.Meaning.{Meaning}

-- the text has these tokens, and then ends
abbrev pub IsText : List ℕ → List Token → Type 0
IsText text [] = (next text).token ≡ End
IsText text (k ∷ ks) = ((next text).token ≡ k) × IsText (next text).rest ks

-- the tokens are the parts of a group, which is then this, where so many more `(` may be open
pub data Spells : (g : Group) → ℕ → Shape g → List Token → Content g → Type 0 where
  ends_so : {g : Group} {room : ℕ} {x : Content g}
      → Spells g room (ends x) (Close ∷ []) x
  word_so : {g : Group} {room : ℕ} {go : Form → Shape g} {k : Token} {ks : List Token} {x : Content g} (f : Form)
      → form_of k ≡ Some f → Spells g room (go f) ks x
      → Spells g room (word go) (k ∷ ks) x
  value_so : {g : Group} {room : ℕ} {p : Scope} {go : Arg → Shape g} {k : Token} {ks : List Token} {x : Content g} (v : Arg)
      → value_of p k ≡ Some v → Spells g room (go v) ks x
      → Spells g room (value p go) (k ∷ ks) x
  count_so : {g : Group} {room : ℕ} {p : Scope} {go : ℕ → Shape g} {k : Token} {ks : List Token} {x : Content g} (n : ℕ)
      → count_of p k ≡ Some n → Spells g room (go n) ks x
      → Spells g room (count p go) (k ∷ ks) x
  name_so : {g : Group} {room : ℕ} {c : NameKind} {p : Scope} {go : ℕ → Shape g} {k : Token} {ks : List Token} {x : Content g} (i : ℕ)
      → name_of c p k ≡ Some i → Spells g room (go i) ks x
      → Spells g room (name c p go) (k ∷ ks) x
  queue_so : {g : Group} {room : ℕ} {p : Scope} {go : ℕ → Shape g} {k : Token} {ks : List Token} {x : Content g} (q : ℕ)
      → queue_of p k ≡ Some q → Spells g room (go q) ks x
      → Spells g room (queue p go) (k ∷ ks) x
  binder_so : {g : Group} {room : ℕ} {p : Scope} {go : List ℕ → Shape g} {k : Token} {ks : List Token} {x : Content g} (b : List ℕ)
      → new_name p k ≡ Some b → Spells g room (go b) ks x
      → Spells g room (binder p go) (k ∷ ks) x
  group_so : {g h : Group} {room : ℕ} {p : Scope} {go : Content h → Shape g} {all : List Token} {x : Content g} (left : ℕ) (a : Content h)
      (inner ks : List Token)
      → room ≡ suc left → Spells h left (content h p) inner a → needs_few h a ≡ true → Spells g room (go a) ks x → all ≡ inner ++ ks
      → Spells g room (group h p go) (Open ∷ all) x
  groups_end : {g h : Group} {room : ℕ} {p : Scope} {go : List (Content h) → Shape g} {ks : List Token} {x : Content g}
      → Spells g room (go []) (Close ∷ ks) x
      → Spells g room (groups h p go) (Close ∷ ks) x
  groups_more : {g h : Group} {room : ℕ} {p : Scope} {go : List (Content h) → Shape g} {ks : List Token} {x : Content g}
      → Spells g room (group h p λ a. groups h (scope_after h a p) λ others. go (a ∷ others)) ks x
      → Spells g room (groups h p go) ks x

-- the text is declarations of queues, and then `(`, the word main, a term and `)`; it means these queues and that term
pub record IsScript (text : List ℕ) (m : Meaning) : Type 0 where
  pub short : length text ≤ most_bytes
  pub queues : AreQueues m.queues
  pub tokens : List Token
  pub text_is : IsText text (flat_map declaration m.queues ++ Open ∷ Name (codes "main") ∷ tokens)
  pub main : Spells OfTerm most_open (main_shape (names_of m.queues)) tokens m.term
