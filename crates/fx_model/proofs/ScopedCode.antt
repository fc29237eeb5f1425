-- The term of a code is scoped, and has no number of a fiber in it: its names stand for fibers.
use Rattle.std.proofs.Common.{◌≡◌, ℕ, zero, suc, ◌-◌, Bool, Option, Some, None, List, [], length, refl}
use Rattle.std.specs.Prelude.{slice_get}
use Rattle.std.proofs.lemmas.List.Elements.{recursion_from_All}
use Rattle.std.specs.List.{AllByRecursion}
use mathlib.Core.Path.{fun_ext}
use Rattle.fx_term.specs.declared.name_kind.NameKind.{NameKind}
use Rattle.fx_term.specs.declared.node.Node.{Node}
use Rattle.fx_term.specs.declared.node.Node.TheVariants as node
use Rattle.fx_term.specs.Term.{Term}
use Rattle.fx_term.specs.Tree.{children}
use Rattle.fx_term.specs.Meaning.{assemble, read, term_of, root_term}
use Rattle.fx_term.specs.Code.{IsCode}
use Rattle.fx_model.specs.Scopes.{UsesGiven, IsClosedTerm, IsScopedOver}

module _ (is_given : ℕ → Bool) where
  -- a node's term uses no number of a fiber but those of its parts
  assemble_given : (n : Node) (f : ℕ → Term) → AllByRecursion (λ c. UsesGiven is_given (f c)) (children n) → UsesGiven is_given (assemble (Some n) f)
  assemble_given (node.Pure v) f each = tt
  assemble_given (node.Raise v) f each = tt
  assemble_given node.Canceled f each = tt
  assemble_given node.Never f each = tt
  assemble_given node.Cede f each = tt
  assemble_given _ f each = assumption

  maybe_given : (o : Option Node) (f : ℕ → Term) → ((id : ℕ) → UsesGiven is_given (f id)) → UsesGiven is_given (assemble o f)
  maybe_given None f each = tt
  maybe_given (Some n) f each = assemble_given n f (recursion_from_All (λ c. UsesGiven is_given (f c)) (children n) (λ i d lt. each _))

  read_given : (depth : ℕ) (nodes : List Node) (id : ℕ) → UsesGiven is_given (read depth nodes id)
  unfolding read
  read_given zero nodes id = tt
  read_given (suc depth) nodes id = maybe_given (slice_get nodes id) (read depth nodes) (read_given depth nodes)

  pub term_given : (nodes : List Node) (id : ℕ) → UsesGiven is_given (term_of nodes id)
  unfolding term_of
  term_given nodes id = read_given (suc id) nodes id

-- no name is in scope outside
no_kinds : ◌≡◌ {A = ℕ → Option NameKind} (λ x. slice_get [] x) (λ x. None)
no_kinds = fun_ext (λ x. refl)

pub code_is_scoped : (is_given : ℕ → Bool) {queues : ℕ} (nodes : List Node) → IsCode queues nodes → IsScopedOver is_given (root_term nodes)
code_is_scoped is_given nodes code =
    let closed : IsClosedTerm (root_term nodes) = rw (← no_kinds) code.scope.scoped in
    (closed, term_given is_given nodes (length nodes - 1))
