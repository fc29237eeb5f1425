use Rattle.std.proofs.Common.{rules, sym, ◌∙◌}
use Rattle.std.specs.Prelude.{map, string_bytes}
use Rattle.std.proofs.lemmas.List.{length-map}
use Rattle.fx_command.proofs.ShortCalls.{short}
use Rattle.fx_command.proofs.call.Call.canceling.Goals as goal
use Rattle.fx_command.proofs.call.Call.canceling.Goals.{in_default-via-then-words-lt2, in_default-via-in-len2-up+else-eq}

pub returns-in_default-clause-call : goal.returns-in_default-clause-call
returns-in_default-clause-call c = elim c.in_default.branch [
  | in_default-via-then-words-lt2 w ↦
      c.expecting-in_default.ensures.call
      ∙ sym (short c.args.script.now c.args.most (map string_bytes c.args.words.now) (rw (length-map c.args.words.now string_bytes) (search rules)))
  | in_default-via-in-len2-up+else-eq w ↦ search rules
]
