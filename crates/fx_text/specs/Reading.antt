-- Reading from left to right, up to the first fault.
use Rattle.std.specs.Prelude.{ℕ, zero, suc, ◌-◌, nat_lt, if◌then◌else◌, Option, Some, None, Result, Ok, Err, List, [], ◌∷◌, ◌++◌, length}
use Rattle.fx_term.specs.declared.node.Arg.{Arg}
use Rattle.fx_term.specs.Term.{Term}
use Rattle.fx_term.specs.declared.name_kind.NameKind.{NameKind}
use Rattle.fx_text.specs.declared.fault.TextKind.{TextKind}
use Rattle.fx_text.specs.declared.fault.TextKind.TheVariants as kind
use Rattle.fx_text.specs.declared.fault.TextFault.{TextFault}
use Rattle.fx_text.specs.declared.fault.Fault.{Fault}
use Rattle.fx_text.specs.declared.form.Form.{Form}
use Rattle.fx_text.specs.declared.top.TopForm.{TopForm}
use Rattle.fx_text.specs.declared.top.TopForm.TheVariants as top_form
use Rattle.fx_text.specs.Limits.{most_bytes, most_open, most_queues}
use Rattle.fx_text.specs.Token.{Token, Open, Number, Name, Stray, Misnumber, End, Lexeme, next}
use Rattle.fx_text.specs.Scope.{Scope, top}
use Rattle.fx_text.specs.Queues.{Queue, names_of}
use Rattle.fx_text.specs.Group.{Group, OfTerm, Content, scope_after, needs_few}
use Rattle.fx_text.specs.Shape.{Shape, ends, word, value, count, name, queue, binder, group, groups, content, main_shape}
use Rattle.fx_text.specs.Part.{opens, closes, is_closing, value_of, count_of, name_of, queue_of, new_name, form_of, capacity_of, top_form_of, no_top_form}
pub use Rattle.fx_text.specs.Meaning.{Meaning}

-- the next step, unless there was a fault
infixl 10 ◌>>=◌
abbrev pub ◌>>=◌ : {A B : Type 0} → Result A Fault → (A → Result B Fault) → Result B Fault
(Ok x) >>= f = f x
(Err e) >>= f = Err e

-- what is read, and what is left of the text
abbrev pub Read : Type 0 → Type 0
Read A = Result (A × List ℕ) Fault

-- ---- one token

-- The kind of the fault of a token that its place refuses for this reason. Byte, number and the end of the text come before the place
abbrev pub kind_of : TextKind → Token → TextKind
kind_of k Stray = kind.Byte
kind_of k Misnumber = kind.Number
kind_of k End = kind.Ended
kind_of k _ = k

-- the token is refused for this reason
abbrev pub refused : {A : Type 0} → TextKind → Lexeme → Result A Fault
refused k l = Err (record { kind = kind_of k l.token; left = l.from })

-- what was taken of the token, or the token is refused
abbrev pub known : {A : Type 0} → TextKind → Lexeme → Option A → Read A
known k l None = refused k l
known k l (Some x) = Ok (x, l.rest)

-- A part that is one token: what it takes, and why it refuses a token that it does not take
abbrev pub part_at : {A : Type 0} → (Token → Option A) → (Token → TextKind) → List ℕ → Read A
part_at takes reason bytes = known (reason (next bytes).token) (next bytes) (takes (next bytes).token)

-- a name is refused for a reason of its own, and all that is no name is not wanted
abbrev pub at_name : TextKind → Token → TextKind
at_name k (Name x) = k
at_name k _ = kind.Unwanted

-- and so is a number
abbrev pub at_number : TextKind → Token → TextKind
at_number k (Number n) = k
at_number k _ = kind.Unwanted

unfoldable pub opening_at : List ℕ → Read (Unit {0})
opening_at = part_at opens (λ _. kind.Unwanted)

unfoldable pub closing_at : List ℕ → Read (Unit {0})
closing_at = part_at closes (λ _. kind.Unwanted)

unfoldable pub value_at : Scope → List ℕ → Read Arg
value_at p = part_at (value_of p) (at_name kind.Unknown)

unfoldable pub count_at : Scope → List ℕ → Read ℕ
count_at p = part_at (count_of p) (at_number kind.Size)

unfoldable pub name_at : NameKind → Scope → List ℕ → Read ℕ
name_at k p = part_at (name_of k p) (at_name kind.Unknown)

unfoldable pub queue_at : Scope → List ℕ → Read ℕ
queue_at p = part_at (queue_of p) (at_name kind.Unknown)

unfoldable pub binder_at : Scope → List ℕ → Read (List ℕ)
binder_at p = part_at (new_name p) (at_name kind.Taken)

unfoldable pub form_at : List ℕ → Read Form
form_at = part_at form_of (λ _. kind.Form)

unfoldable pub capacity_at : List ℕ → Read ℕ
capacity_at = part_at capacity_of (at_number kind.Size)

unfoldable pub top_form_at : ℕ → List ℕ → Read TopForm
top_form_at room = part_at (top_form_of room) no_top_form

-- ---- groups

-- how groups of each kind are read
abbrev pub GroupReading : Type 0
GroupReading = (g : Group) → Scope → List ℕ → Read (Content g)

-- Groups up to a `)`, which is left; they are read by the function given. Each has a byte or more, so there are no more groups than bytes
unfoldable pub groups_within : ℕ → GroupReading → (g : Group) → Scope → List ℕ → Read (List (Content g))
groups_within zero each g p bytes = refused kind.Unwanted (next bytes)
groups_within (suc most) each g p bytes = if is_closing (next bytes).token then Ok ([], bytes) else do
  (x, after) ← each g p bytes
  (xs, rest) ← groups_within most each g (scope_after g x p) after
  Ok (x ∷ xs, rest)

abbrev pub groups_at : GroupReading → (g : Group) → Scope → List ℕ → Read (List (Content g))
groups_at each g p bytes = groups_within (length bytes) each g p bytes

-- the parts of a group; the groups among them are read by the function given
abbrev pub parts_at : {g : Group} → GroupReading → Shape g → List ℕ → Read (Content g)
parts_at each (ends x) bytes = do
  (_, rest) ← closing_at bytes
  Ok (x, rest)
parts_at each (word go) bytes = do
  (f, rest) ← form_at bytes
  parts_at each (go f) rest
parts_at each (value p go) bytes = do
  (v, rest) ← value_at p bytes
  parts_at each (go v) rest
parts_at each (count p go) bytes = do
  (n, rest) ← count_at p bytes
  parts_at each (go n) rest
parts_at each (name k p go) bytes = do
  (x, rest) ← name_at k p bytes
  parts_at each (go x) rest
parts_at each (queue p go) bytes = do
  (q, rest) ← queue_at p bytes
  parts_at each (go q) rest
parts_at each (binder p go) bytes = do
  (x, rest) ← binder_at p bytes
  parts_at each (go x) rest
parts_at each (group h p go) bytes = do
  (x, rest) ← each h p bytes
  parts_at each (go x) rest
parts_at each (groups h p go) bytes = do
  (xs, rest) ← groups_at each h p bytes
  parts_at each (go xs) rest

-- where no more `(` may be open, it is one too many, and each other token is not wanted
abbrev pub too_deep : Token → TextKind
too_deep Open = kind.Depth
too_deep _ = kind.Unwanted

-- A group that was read, unless it can use too many fiber numbers. That is tested at its `)`, and told at its `(`, from which so many bytes stand to the end
abbrev pub kept : (g : Group) → ℕ → Content g × List ℕ → Read (Content g)
kept g from (x, rest) = if needs_few g x then Ok (x, rest) else Err (record { kind = kind.Need; left = from })

-- a group, where so many more `(` may be open
unfoldable pub group_at : ℕ → GroupReading
group_at zero g p bytes = refused (too_deep (next bytes).token) (next bytes)
group_at (suc room) g p bytes = do
  (_, inside) ← opening_at bytes
  x ← parts_at (group_at room) (content g p) inside
  kept g (next bytes).from x

abbrev pub term_at : ℕ → Scope → List ℕ → Read Term
term_at room p bytes = group_at room OfTerm p bytes

-- ---- the top

-- The `(` of a form at the top. The end of the text is no end inside a form here
abbrev pub top_opening : Lexeme → Token → Read (Unit {0})
top_opening l Open = Ok (tt, l.rest)
top_opening l End = Err (record { kind = kind.Main; left = l.from })
top_opening l _ = refused kind.Form l

unfoldable pub top_opening_at : List ℕ → Read (Unit {0})
top_opening_at bytes = top_opening (next bytes) (next bytes).token

-- a form at the top, up to its word
abbrev pub top_at : ℕ → List ℕ → Read TopForm
top_at room bytes = do
  (_, inside) ← top_opening_at bytes
  top_form_at room inside

-- a declaration after its word, where these queues are declared before it
unfoldable pub declaration_at : List Queue → List ℕ → Read Queue
declaration_at before bytes = do
  (x, named) ← binder_at (top (names_of before)) bytes
  (n, sized) ← capacity_at named
  (_, rest) ← closing_at sized
  Ok ((x, n), rest)

-- The queues up to the word `main`, which is read too: what comes after the word of a form, where these queues are declared before it
abbrev pub queues_after : (List Queue → List ℕ → Read (List Queue)) → List Queue → TopForm → List ℕ → Read (List Queue)
queues_after more before top_form.Main bytes = Ok (before, bytes)
queues_after more before top_form.Queue bytes = do
  (q, rest) ← declaration_at before bytes
  more (before ++ q ∷ []) rest

-- and what comes before it, where so many more queues may be declared
unfoldable pub queues_within : ℕ → List Queue → List ℕ → Read (List Queue)
queues_within zero before bytes = do
  (_, rest) ← top_at zero bytes
  Ok (before, rest)
queues_within (suc room) before bytes = do
  (f, rest) ← top_at (suc room) bytes
  queues_after (queues_within room) before f rest

abbrev pub queues_at : List ℕ → Read (List Queue)
queues_at text = queues_within most_queues [] text

-- ---- scripts

-- nothing comes after main
abbrev pub last : Meaning → Lexeme → Token → Result Meaning Fault
last m l End = Ok m
last m l _ = refused kind.Main l

-- what comes after the word `main`, where these queues are declared: main has the first of 100 `(`
abbrev pub main_at : List Queue → List ℕ → Result Meaning Fault
main_at queues bytes = do
  (t, rest) ← parts_at (group_at most_open) (main_shape (names_of queues)) bytes
  last (record { queues = queues; term = t }) (next rest) (next rest).token

-- a whole text
unfoldable pub script_at : List ℕ → Result Meaning Fault
script_at text = do
  (queues, rest) ← queues_at text
  main_at queues rest

-- a fault keeps how many bytes stand from it to the end of the text
abbrev pub at_offset : {A : Type 0} → ℕ → Result A Fault → Result A TextFault
at_offset len (Ok x) = Ok x
at_offset len (Err f) = Err (record { kind = f.kind; at = len - f.left })

-- what the text says, or its first fault
abbrev pub reading : List ℕ → Result Meaning TextFault
reading text = if nat_lt most_bytes (length text) then Err (record { kind = kind.Length; at = most_bytes }) else at_offset (length text) (script_at text)
