-- A fiber whose run is over, with what its port knew.
use Rattle.std.specs.Prelude.{◌==◌, ℕ, Bool, Option, List, map}
use Rattle.std.specs.List.{find}
use Rattle.fx_fiber.specs.Fiber.{IsLawful}
use Rattle.fx_fiber.specs.Bare.{BareView, reached}
use Rattle.fx_word.specs.declared.entry.Entry.{Entry}
use Rattle.fx_queue.specs.declared.entry.Entry as pass
use Rattle.fx_port.specs.PortView.{beginning_in}
use Rattle.fx_run.specs.Agreement.{StampedPortAgrees}

-- a fiber, and what its port knew: the words' entry, which numbers it noted from outside, and an entry for each queue, by number. They agree with what the
-- fiber did in its run, which began as the words say
pub record RanFiber : Type 0 where
  pub bare : BareView
  pub words : Entry
  pub noted : ℕ → Bool
  pub passes : ℕ → pass.Entry
  pub lawful : IsLawful bare.nodes (beginning_in bare.nodes words.begin) (StampedPortAgrees bare.id words noted passes) bare.trace bare.stamps bare.counts
      (reached bare)

-- the fibers without what their ports knew
abbrev pub bares_of : List RanFiber → List BareView
bares_of ps = map (λ (p : RanFiber). p.bare) ps

-- the fiber with this number
abbrev pub ran_at : List RanFiber → ℕ → Option RanFiber
ran_at ps f = find (λ (p : RanFiber). p.bare.id == f) ps
