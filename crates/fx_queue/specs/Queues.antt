-- Queues and passes as contracts see them.
use Rattle.std.specs.Prelude.{◌≡◌, ℕ, []}
use Rattle.atomic_table.specs.Seated.{TableId}
use Rattle.crossbeam_queue.specs.Passes.{Pass, view}
use Rattle.fx_term.specs.declared.item.Item.{Item}
use Rattle.fx_queue.specs.declared.stage.Stage.TheVariants.{Live}
use Rattle.fx_queue.specs.declared.pass_view.PassView.{PassView}
use Rattle.fx_queue.specs.PassView.{kept_part, given_part, joined}

-- which ring it is, its capacity, and how many fibers it has
pub record QueueId : Type 0 where
  pub table : TableId
  pub cap : ℕ
  pub fibers : ℕ

-- which ring a pass belongs to, and what it knows
pub record HeldPass : Type 0 where
  pub table : TableId
  pub view : PassView

-- it is a pass of this queue
abbrev pub IsOf : HeldPass → QueueId → Type 0
IsOf s q = (s.table ≡ q.table) × (s.view.cap ≡ q.cap)

-- what contracts see of a pass of the ring
abbrev pub pass_of : Pass Item PassView → HeldPass
pass_of p = record { table = p.table_id; view = view p }

-- no slot of the ring is out with it, and it was not taken in
abbrev pub IsIdle : Pass Item PassView → Type 0
IsIdle p = (p.me.1 ≡ []) × ((view p).stage ≡ Live)

-- the pass is the same fiber's, of the same queue, with the same range, and has split off and taken in the same
pub record IsSameFiber (s t : HeldPass) : Type 0 where
  pub table : t.table ≡ s.table
  pub cap : t.view.cap ≡ s.view.cap
  pub id : t.view.own.id ≡ s.view.own.id
  pub next : t.view.own.next ≡ s.view.own.next
  pub end : t.view.own.end ≡ s.view.own.end
  pub parts : t.view.own.parts ≡ s.view.own.parts
  pub taken : t.view.taken ≡ s.view.taken

-- what a split leaves of a pass, and what it gives
abbrev pub kept_pass : ℕ → HeldPass → HeldPass
kept_pass end s = record { table = s.table; view = kept_part end s.view }

abbrev pub given_pass : ℕ → HeldPass → HeldPass
given_pass end s = record { table = s.table; view = given_part end s.view }

-- the first pass took the second one in
abbrev pub joined_pass : HeldPass → HeldPass → HeldPass
joined_pass s t = record { table = s.table; view = joined s.view t.view }
