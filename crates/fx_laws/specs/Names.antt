-- Names that a term does not have.
use Rattle.std.specs.Prelude.{ℕ, Option}
use Rattle.fx_term.specs.declared.name_kind.NameKind.{NameKind}
use Rattle.fx_term.specs.declared.name_kind.NameKind.TheVariants as kind
use Rattle.fx_term.specs.Scope.{with_name}

-- the scope with these three names in it, as polls of another fiber: a term in it neither binds them nor uses them
abbrev pub without_names : (ℕ → Option NameKind) → ℕ → ℕ → ℕ → ℕ → Option NameKind
without_names scope p y e = with_name p kind.OtherPoll (with_name y kind.OtherPoll (with_name e kind.OtherPoll scope))
