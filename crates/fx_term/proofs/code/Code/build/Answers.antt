-- What the tests found of the nodes, as what the answer is.
use Rattle.std.proofs.Common.{◌≡◌, ◌⊎◌, ℕ, List, Ok, Err, Result, length, subst, ◌∙◌}
use Rattle.std.specs.Prelude.{IsOkUnless, IsErrAnd}
use Rattle.fx_term.specs.declared.node.Node.{Node}
use Rattle.fx_term.specs.declared.code.CodeFault.{CodeFault}
use Rattle.fx_term.specs.declared.code.CodeFault.TheVariants.{Memory}
use Rattle.fx_term.specs.Code.{IsFault, IsCode}
use Rattle.fx_term.specs.NodeNeed.{AreNeeds}
use Rattle.fx_term.proofs.CodeLaws.{only_memory}
use Rattle.fx_term.proofs.code.Code.build.Goals as goal

only_memory_is : {T : Type 0} (queues : ℕ) (nodes : List Node) (r : Result T CodeFault) (e : CodeFault) → IsErrAnd r (λ x. x ≡ e)
    → (e ≡ Memory) ⊎ IsFault queues nodes e → IsCode queues nodes → IsOkUnless r Memory
only_memory_is queues nodes (Ok x) e h found code = absurd h
only_memory_is queues nodes (Err f) e h found code = h ∙ only_memory queues nodes e found code

found_here : (c : goal.After-drop-nodes) → (c.in_err-needs.field-0.0 ≡ Memory) ⊎ IsFault c.args.queues c.args.nodes.items c.in_err-needs.field-0.0
found_here c =
    subst (λ nodes. (c.in_err-needs.field-0.0 ≡ Memory) ⊎ IsFault c.args.queues nodes c.in_err-needs.field-0.0) c.deref.ensures.value
    c.in_err-needs.ensures.fault

pub returns-in_err-needs-clause-accepts : goal.returns-in_err-needs-clause-accepts
returns-in_err-needs-clause-accepts c code =
    only_memory_is c.args.queues c.args.nodes.items c.from_residual.result c.in_err-needs.field-0.0 c.from_residual.ensures.1 (found_here c) code

code_here : (c : goal.In_ok-needs) → IsCode c.args.queues c.args.nodes.items
code_here c = subst (IsCode c.args.queues) c.deref.ensures.value c.in_ok-needs.ensures.code

pub invariant_of-result : goal.invariant_of-result
invariant_of-result c =
    (code_here c, subst (λ nodes. AreNeeds nodes (length nodes) c.in_ok-needs.needs.items) c.deref.ensures.value c.in_ok-needs.ensures.needs)

pub returns-clause-code : goal.returns-clause-code
returns-clause-code c = code_here c
