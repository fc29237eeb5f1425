-- What the queues of the code stand for.
use Rattle.std.specs.Prelude.{List, map, string_bytes}
use Rattle.fx_text.specs.declared.queue_decl.QueueDecl.{QueueDecl}
use Rattle.fx_text.specs.Queues.{Queue}

abbrev pub view_queue : QueueDecl → Queue
view_queue q = (string_bytes q.name, q.cap)

abbrev pub view_queues : List QueueDecl → List Queue
view_queues = map view_queue
