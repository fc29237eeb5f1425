-- Which fault of a command a text has that is not accepted.
use Rattle.std.specs.Prelude.{ℕ, List, string_bytes}
use Rattle.fx_command.specs.declared.command_fault.CommandFault.{CommandFault}
use Rattle.fx_command.specs.declared.command_fault.CommandFault.TheVariants.{Refused, Unreadable, Memory, Write, Run}

-- memory ran out, or the text is refused by a line that is right
abbrev pub IsRefusal : (List ℕ → Type 0) → CommandFault → Type 0
IsRefusal IsRight (Refused r) = IsRight (string_bytes r.line)
IsRefusal IsRight Memory = Unit {0}
IsRefusal IsRight (Unreadable name) = ⊥
IsRefusal IsRight Write = ⊥
IsRefusal IsRight (Run fault) = ⊥

-- no text was read: memory ran out, or the text of such a name cannot be read
abbrev pub IsUnread : (List ℕ → Type 0) → CommandFault → Type 0
IsUnread IsName (Refused r) = ⊥
IsUnread IsName Memory = Unit {0}
IsUnread IsName (Unreadable name) = IsName name.now
IsUnread IsName Write = ⊥
IsUnread IsName (Run fault) = ⊥

-- no text was read, or it is refused by a line that is right
abbrev pub IsUnreadOrRefusal : (List ℕ → Type 0) → (List ℕ → Type 0) → CommandFault → Type 0
IsUnreadOrRefusal IsName IsRight (Refused r) = IsRight (string_bytes r.line)
IsUnreadOrRefusal IsName IsRight Memory = Unit {0}
IsUnreadOrRefusal IsName IsRight (Unreadable name) = IsName name.now
IsUnreadOrRefusal IsName IsRight Write = ⊥
IsUnreadOrRefusal IsName IsRight (Run fault) = ⊥
