-- What events do at queues.
use Rattle.std.specs.Prelude.{ℕ, suc, ◌==◌, Bool, false, Option, Some, None, List, [], ◌∷◌, ◌++◌, codes, decimal, if◌then◌else◌}
use Rattle.fx_term.specs.declared.event.Event.{Event}
use Rattle.fx_term.specs.declared.event.Event.TheVariants as event
use Rattle.fx_order.specs.declared.occurrence.Occurrence.{Occurrence}

-- the queue that an event is at
abbrev pub queue_at : Event → Option ℕ
queue_at (event.Put q v) = Some q
queue_at (event.Got q v) = Some q
queue_at (event.Refused q) = Some q
queue_at (event.Empty q) = Some q
queue_at _ = None

abbrev pub visit_class : Event → List ℕ
visit_class (event.Put q v) = codes "visit put"
visit_class (event.Got q v) = codes "visit got"
visit_class _ = codes "visit none"

-- what it puts there or takes, or why it does neither
abbrev pub visit_words : Event → List ℕ
visit_words (event.Put q v) = codes "+" ++ decimal v
visit_words (event.Got q v) = codes "-" ++ decimal v
visit_words (event.Refused q) = codes "full"
visit_words (event.Empty q) = codes "empty"
visit_words _ = []

-- the queue is this one
abbrev pub is_queue : ℕ → Option ℕ → Bool
is_queue q None = false
is_queue q (Some p) = p == q

-- n, and how many of these events are at queue q
abbrev pub count_at : ℕ → ℕ → List Occurrence → ℕ
count_at q n [] = n
count_at q n (o ∷ os) = count_at q (if is_queue q (queue_at o.event) then suc n else n) os

abbrev pub times_words : ℕ → List ℕ
times_words n = decimal n ++ codes " times"
