use Rattle.fx_text.proofs.QueuesLaws.{binder_text}
use Rattle.fx_text.proofs.queues.declaration.Goals as goal

pub text_of-requires : goal.text_of-requires
text_of-requires c = binder_text _ c.args.bytes.now c.in_ok-name.name.now c.in_ok-name.rest.now c.in_ok-name.ensures.read
