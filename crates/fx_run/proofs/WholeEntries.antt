-- Where no fiber is lost, all that were split off are given, and gathered.
use Rattle.std.proofs.Common.{◌≡◌, ℕ, Some, List, ◌∙◌, subst}
use Rattle.fx_term.specs.Lists.{Among}
use Rattle.fx_term.specs.declared.begin.Begin.{Begin}
use Rattle.fx_term.specs.declared.event.Event.{Event}
use Rattle.fx_term.specs.declared.event.Event.TheVariants as event
use Rattle.fx_model.specs.Row.{Starts}
use Rattle.fx_model.specs.Origin.{Origin, origin_of}
use Rattle.fx_fiber.specs.Deed.{Started}
use Rattle.fx_fiber.specs.StampedDeed.{deeds_of}
use Rattle.fx_word.specs.declared.entry.Entry.{Entry}
use Rattle.fx_word.specs.declared.seat_view.SeatView.{SeatView}
use Rattle.fx_word.specs.SeatView as seat
use Rattle.fx_queue.specs.declared.entry.Entry as pass
use Rattle.fx_queue.specs.declared.pass_view.PassView.{PassView}
use Rattle.fx_queue.specs.PassView as queue
use Rattle.fx_run.specs.RanFiber.{RanFiber, bares_of, ran_at}
use Rattle.fx_run.specs.Reported.{AreAscending, NoneIsLost}
use Rattle.fx_run.specs.Gathered.{AreEntries, ArePasses}
use Rattle.fx_run.proofs.GivenFibers.{id_at, bare_in, of_bare}
use Rattle.fx_run.proofs.DeedLaws.{start_shown, started_in_trace}
use Rattle.fx_run.proofs.Gathering.{gathered_of, whose}

-- a start that a run has is in the trace
pub start_in_trace : (f : ℕ) (b : Origin) (p : RanFiber) → Among (Starts f b) p.lawful.labels → Among (event.Start f) p.bare.trace
start_in_trace f b p i = subst (λ (es : List Event). Among (event.Start f) es) p.lawful.traced (started_in_trace p.lawful.labels f b i)

pub part_in_trace : (f : ℕ) (b : Begin) (p : RanFiber) → Among (Started f b) (deeds_of p.lawful.deeds) → Among (event.Start f) p.bare.trace
part_in_trace f b p i =
    start_in_trace f (origin_of p.bare.nodes b) p (start_shown p.bare.nodes p.lawful.labels (deeds_of p.lawful.deeds) p.lawful.are_deeds f b i)

module _ (ps : List RanFiber) where
  -- the number of its entries
  pub number_at : (f : ℕ) (p : RanFiber) → ran_at ps f ≡ Some p → p.words.id ≡ f
  number_at f p at = p.lawful.agreed.plain.words_agree.number ∙ id_at ps f p at

  pub pass_number_at : (q f : ℕ) (p : RanFiber) → ran_at ps f ≡ Some p → (p.passes q).id ≡ f
  pass_number_at q f p at = (p.lawful.agreed.plain.queues_agree q).number ∙ id_at ps f p at

  module _ (lost : NoneIsLost (bares_of ps)) where
    pub main_is_given : (p : RanFiber) × (ran_at ps 0 ≡ Some p)
    main_is_given = let o = of_bare ps 0 lost.main.0 lost.main.1 in (o.fiber, o.at)

    -- a fiber that a trace starts is given
    pub started_is_given : (g f : ℕ) (p : RanFiber) → ran_at ps g ≡ Some p → Among (event.Start f) p.bare.trace
        → (z : RanFiber) × (ran_at ps f ≡ Some z)
    started_is_given g f p at i =
        let x = lost.started g p.bare (bare_in ps g p at) f i in
        let o = of_bare ps f x.0 x.1 in
        (o.fiber, o.at)

    module _ (ascending : AreAscending (bares_of ps)) where
      -- a seat that has taken in all, of which the main fiber's is the first, can close the words
      pub seat_is_whole : (v : SeatView) → AreEntries ps v → v.own.id ≡ 0 → seat.IsWhole v
      seat_is_whole v gathered main = (main, each)
        where
          each : (e : Entry) → seat.In e v → (i : ℕ) (b : Begin) → Among (i, b) e.parts → (d : Entry) × seat.In d v × (d.id ≡ i)
          each e here i b k =
              let o = whose ps ascending (λ (p : RanFiber). p.words) (seat.entries v) gathered e here in
              let part = o.fiber.lawful.agreed.plain.words_agree.parts i b (subst (λ (d : Entry). Among (i, b) d.parts) o.is k) in
              let z = started_is_given o.fiber.bare.id i o.fiber o.at (part_in_trace i b o.fiber part) in
              (z.0.words, gathered_of ps ascending (λ (p : RanFiber). p.words) (seat.entries v) gathered i z.0 z.1, number_at i z.0 z.1)

      -- and so can a pass its queue
      pub pass_is_whole : (q : ℕ) (v : PassView) → ArePasses q ps v → v.own.id ≡ 0 → queue.IsWhole v
      pass_is_whole q v gathered main = (main, each)
        where
          each : (e : pass.Entry) → queue.In e v → (i : ℕ) → Among i e.parts → (d : pass.Entry) × queue.In d v × (d.id ≡ i)
          each e here i k =
              let o = whose ps ascending (λ (p : RanFiber). p.passes q) (queue.entries v) gathered e here in
              let b = (o.fiber.lawful.agreed.plain.queues_agree q).parts i (subst (λ (d : pass.Entry). Among i d.parts) o.is k) in
              let z = started_is_given o.fiber.bare.id i o.fiber o.at (part_in_trace i b.0 o.fiber b.1) in
              (z.0.passes q, gathered_of ps ascending (λ (p : RanFiber). p.passes q) (queue.entries v) gathered i z.0 z.1, pass_number_at q i z.0 z.1)
