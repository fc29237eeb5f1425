-- What stands in parentheses, and what it is.
use Rattle.std.specs.Prelude.{ℕ, nat_le, Bool, true, List, [], ◌∷◌}
use Rattle.fx_term.specs.Term.{Term}
use Rattle.fx_term.specs.Need.{need, most_need}
use Rattle.fx_term.specs.declared.name_kind.NameKind.TheVariants as kind
use Rattle.fx_text.specs.Scope.{Scope, under}

-- What stands in parentheses
pub data Group : Type 0 where
  OfTerm : Group  -- the word of a form and its parts
  OfResource : Group  -- a resource of `using`
  OfResources : Group  -- the list of these
  OfOutcome : Group  -- what `join` and `bracketcase` do after an outcome that has a number: the name of the number, and a term

-- a resource: the name of its value, and the terms that acquire and release it
pub record Resource : Type 0 where
  pub name : List ℕ
  pub slot : ℕ
  pub acquire : Term
  pub release : Term

-- what a group is
abbrev pub Content : Group → Type 0
Content OfTerm = Term
Content OfResource = Resource
Content OfResources = List Resource
Content OfOutcome = Term

-- in the scope of these resources too
abbrev pub under_all : List Resource → Scope → Scope
under_all [] p = p
under_all (r ∷ rs) p = under_all rs (under kind.Value r.name p)

-- the scope of what comes after a group, with the names that the group binds for it
abbrev pub scope_after : (g : Group) → Content g → Scope → Scope
scope_after OfTerm t p = p
scope_after OfResource r p = under kind.Value r.name p
scope_after OfResources rs p = under_all rs p
scope_after OfOutcome t p = p

-- a form can use no more fiber numbers than the most. What other groups have is tested form by form
abbrev pub needs_few : (g : Group) → Content g → Bool
needs_few OfTerm t = nat_le (need t) most_need
needs_few OfResource r = true
needs_few OfResources rs = true
needs_few OfOutcome t = true
