-- The scope of a part of a script: the names there, and how often the loops round it run it.
use Rattle.std.specs.Prelude.{ℕ, Bool, true, false, ◌&&◌, ◌||◌, Option, List, [], ◌∷◌, ◌++◌, length, map, bytes_eq}
use Rattle.std.specs.List.{list_any, position}
use Rattle.fx_term.specs.declared.name_kind.NameKind.{NameKind}
use Rattle.fx_term.specs.declared.name_kind.NameKind.TheVariants as kind
use Rattle.fx_term.specs.Scope.{kind_elsewhere}
use Rattle.fx_term.specs.Turns.{turns_of_loop}

-- a name in scope
pub record Bound : Type 0 where
  pub name : List ℕ
  pub kind : NameKind

-- The names in scope that have slots, the outermost first; the names of the queues in the order of the script, by which they are numbered; and the product of
-- the counts of the loops round it
pub record Scope : Type 0 where
  pub names : List Bound
  pub queues : List (List ℕ)
  pub turns : ℕ

-- no name is in scope but those of these queues, inside no loop
abbrev pub top : List (List ℕ) → Scope
top queues = record { names = []; queues = queues; turns = 1 }

-- the number of the name that the next binder binds
abbrev pub slot : Scope → ℕ
slot p = length p.names

-- in the scope of one name more
abbrev pub under : NameKind → List ℕ → Scope → Scope
under k x p = record p { names = p.names ++ (record { name = x; kind = k }) ∷ [] }

-- a name as another fiber has it: it stays taken, and a poll is none of that fiber's
abbrev pub bound_elsewhere : Bound → Bound
bound_elsewhere b = record b { kind = kind_elsewhere b.kind }

-- inside another fiber
abbrev pub elsewhere : Scope → Scope
elsewhere p = record p { names = map bound_elsewhere p.names }

-- Inside the left fiber of a race, and inside the right one. The race's poll and its left fiber have names of no letters, which no token is
abbrev pub left_of_race : Scope → Scope
left_of_race p = elsewhere (under kind.Poll [] p)

abbrev pub right_of_race : Scope → Scope
right_of_race p = elsewhere (under kind.Fiber [] (under kind.Poll [] p))

-- inside a loop of that count
abbrev pub repeated : ℕ → Scope → Scope
repeated n p = record p { turns = turns_of_loop p.turns n }

abbrev pub same_kind : NameKind → NameKind → Bool
same_kind kind.Value kind.Value = true
same_kind kind.Poll kind.Poll = true
same_kind kind.Fiber kind.Fiber = true
same_kind kind.OtherPoll kind.OtherPoll = true
same_kind _ _ = false

-- the name is in scope, of whatever kind
abbrev pub is_taken : List ℕ → Scope → Bool
is_taken x p = list_any (λ b. bytes_eq b.name x) p.names || list_any (λ q. bytes_eq q x) p.queues

-- the number of a name of that kind among these
abbrev pub slot_of : NameKind → List ℕ → List Bound → Option ℕ
slot_of k x names = position (λ b. bytes_eq b.name x && same_kind b.kind k) names
