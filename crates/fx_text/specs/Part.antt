-- What a part that is one token takes.
use Rattle.std.specs.Prelude.{ℕ, nat_lt, nat_le, Bool, true, false, ◌&&◌, if◌then◌else◌, Option, Some, None, List, codes, bytes_eq}
use Rattle.std.specs.List.{find, position}
use Rattle.fx_term.specs.declared.node.Arg.{Arg}
use Rattle.fx_term.specs.declared.node.Arg.TheVariants as arg
use Rattle.fx_term.specs.declared.name_kind.NameKind.{NameKind}
use Rattle.fx_term.specs.declared.name_kind.NameKind.TheVariants as kind
use Rattle.fx_term.specs.Turns.{most_turns, turns_of_loop}
use Rattle.fx_text.specs.declared.fault.TextKind.{TextKind}
use Rattle.fx_text.specs.declared.fault.TextKind.TheVariants as faults
use Rattle.fx_text.specs.declared.form.Form.{Form}
use Rattle.fx_text.specs.declared.top.TopForm.{TopForm}
use Rattle.fx_text.specs.declared.top.TopForm.TheVariants as top
use Rattle.fx_text.specs.Limits.{most_capacity}
use Rattle.fx_text.specs.Token.{Token, Open, Close, Number, Name}
use Rattle.fx_text.specs.Scope.{Scope, is_taken, slot_of}
use Rattle.fx_text.specs.Shape.{forms, word_of}

-- `(`
abbrev pub opens : Token → Option (Unit {0})
opens Open = Some tt
opens _ = None

-- `)`
abbrev pub closes : Token → Option (Unit {0})
closes Close = Some tt
closes _ = None

-- whether it is `)`
abbrev pub is_closing : Token → Bool
is_closing Close = true
is_closing _ = false

-- a slot as an argument
abbrev pub slot_arg : Option ℕ → Option Arg
slot_arg None = None
slot_arg (Some x) = Some (arg.Slot x)

-- a number, or the name of a value in scope
abbrev pub value_of : Scope → Token → Option Arg
value_of p (Number n) = Some (arg.Number n)
value_of p (Name x) = slot_arg (slot_of kind.Value x p.names)
value_of p _ = None

-- a number that, as the count of a loop, makes no more than the most turns
abbrev pub count_of : Scope → Token → Option ℕ
count_of p (Number n) = if nat_le (turns_of_loop p.turns n) most_turns then Some n else None
count_of p _ = None

-- the name of one of that kind in scope
abbrev pub name_of : NameKind → Scope → Token → Option ℕ
name_of k p (Name x) = slot_of k x p.names
name_of k p _ = None

-- the name of a queue, by the queue's place among all
abbrev pub queue_of : Scope → Token → Option ℕ
queue_of p (Name x) = position (λ q. bytes_eq q x) p.queues
queue_of p _ = None

-- a name that is not in scope
abbrev pub new_name : Scope → Token → Option (List ℕ)
new_name p (Name x) = if is_taken x p then None else Some x
new_name p _ = None

-- the form whose word it is
abbrev pub form_of : Token → Option Form
form_of (Name x) = find (λ f. bytes_eq (word_of f) x) forms
form_of _ = None

-- a number that a queue may have as its capacity
abbrev pub capacity_of : Token → Option ℕ
capacity_of (Number n) = if nat_le 1 n && nat_le n most_capacity then Some n else None
capacity_of _ = None

-- the form at the top whose word it is, where so many more queues may be declared
abbrev pub top_form_of : ℕ → Token → Option TopForm
top_form_of room (Name x) = if bytes_eq x (codes "main") then Some top.Main
    else if bytes_eq x (codes "queue") && nat_lt 0 room then Some top.Queue else None
top_form_of room _ = None

-- why it is none: one queue too many, or no word of a form
abbrev pub no_top_form : Token → TextKind
no_top_form (Name x) = if bytes_eq x (codes "queue") then faults.Queues else faults.Form
no_top_form _ = faults.Form
