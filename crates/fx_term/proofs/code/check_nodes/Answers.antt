-- Nodes that pass all tests are a code.
use Rattle.fx_term.proofs.CodeLaws.{code_of_tests}
use Rattle.fx_term.proofs.code.check_nodes.Goals as goal

pub returns-clause-code : goal.returns-clause-code
returns-clause-code c =
    code_of_tests c.args.queues c.args.nodes.now c.in_ok-check_count.ensures.fits c.in_ok-check_tree.ensures.tree c.in_ok-check_names.ensures.placed
