-- What the main fiber begins with.
use Rattle.std.proofs.Common.{◌≡◌, ℕ, ◌<◌, ◌^◌, Bool, [], refl, ap, subst, sym, arith}
use Rattle.fx_term.specs.declared.node.Node.{Node}
use Rattle.std.specs.Prelude.{◌+◌, List}
use Rattle.fx_term.specs.Term.{Term}
use Rattle.fx_term.specs.Meaning.{root_term}
use Rattle.fx_term.specs.Need.{need}
use Rattle.fx_model.specs.Origin.{Origin, main_origin, origin_of, main_begin_of}
use Rattle.fx_term.specs.Code.{IsCode}
use Rattle.fx_model.specs.Step.{Runs}
use Rattle.fx_model.specs.Work.{work_left}
use Rattle.fx_term.proofs.FillNothing.{fill_none}
use Rattle.fx_model.specs.Scopes.{IsScopedOver}
use Rattle.fx_model.specs.NeedLeft.{HasRoom}
use Rattle.fx_model.proofs.ScopedCode.{code_is_scoped}
use Rattle.fx_model.proofs.WorkOfCode.{code_work_fits}

-- the whole term of its code, since no name is in scope
pub main_begins : (nodes : List Node) → origin_of nodes (main_begin_of nodes) ≡ main_origin (root_term nodes)
main_begins nodes = ap of_term (fill_none [] (root_term nodes))
  where
    of_term : Term → Origin
    of_term t = record { term = t; next = 1; end = 1 + need (root_term nodes) }

-- its work can be counted
pub main_work_fits : {queues : ℕ} (nodes : List Node) → IsCode queues nodes → work_left (Runs (origin_of nodes (main_begin_of nodes)).term) < 2 ^ 63
main_work_fits nodes code = subst (λ (b : Origin). work_left (Runs b.term) < 2 ^ 63) (sym (main_begins nodes)) (let few = code_work_fits code in omega arith)

-- its names are bound, and it has no number of a fiber
pub main_scoped : (is_given : ℕ → Bool) {queues : ℕ} (nodes : List Node) → IsCode queues nodes
    → IsScopedOver is_given (origin_of nodes (main_begin_of nodes)).term
main_scoped is_given nodes code = subst (λ (b : Origin). IsScopedOver is_given b.term) (sym (main_begins nodes)) (code_is_scoped is_given nodes code)

-- its range has room for all that it can start
pub main_room : (nodes : List Node) → HasRoom (origin_of nodes (main_begin_of nodes))
main_room nodes = subst HasRoom (sym (main_begins nodes)) (let e : need (root_term nodes) ≡ need (root_term nodes) = refl in omega arith)
