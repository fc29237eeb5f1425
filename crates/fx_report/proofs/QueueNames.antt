-- The names of a script's queues.
use Rattle.std.proofs.Common.{◌≡◌, ◌≤◌, length}
use Rattle.std.specs.Prelude.{string_bytes}
use Rattle.std.proofs.lemmas.List.{length-map}
use Rattle.std.proofs.lemmas.Simd.{map-map}
use Rattle.fx_term.specs.Code.{IsCode}
use Rattle.fx_term.specs.Meaning.{root_term}
use Rattle.fx_term.specs.QueuesNamed.{NamesQueuesBelow}
use Rattle.fx_model.proofs.QueueNames.{names_below_more}
use Rattle.fx_text.specs.declared.queue_decl.QueueDecl.{QueueDecl}
use Rattle.fx_text.specs.declared.script.Script.{Script}
use Rattle.fx_text.specs.View.{meaning}
use Rattle.fx_report.specs.Text.{names_of, queue_names}

-- those that a script means are those that it has
pub names_of_meaning : (s : Script) → queue_names (meaning s) ≡ names_of s.queues.items
names_of_meaning s = map-map _ _ s.queues.items

-- what the code of a script names is declared, where there are declarations for all that it may name
pub names_declared : (s : Script) → IsCode s.code.queues s.code.nodes → s.code.queues ≤ length s.queues.items
    → NamesQueuesBelow (length (meaning s).queues) (meaning s).term
names_declared s code le =
    let many : length (meaning s).queues ≡ length s.queues.items = length-map s.queues.items (λ (q : QueueDecl). (string_bytes q.name, q.cap)) in
    names_below_more (root_term s.code.nodes) s.code.queues (length (meaning s).queues) (rw many le) code.named
