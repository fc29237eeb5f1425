use Rattle.std.proofs.Common.{◌∙◌, refl, arith}
use Rattle.std.proofs.lemmas.List.{length-set}
use Rattle.fx_port.proofs.MarkLaws.{last_marked, one_less, marked_within}
use Rattle.fx_port.proofs.notes.Notes.take.Goals as goal

pub index_mut-requires : goal.index_mut-requires
index_mut-requires g c =
    let below = marked_within _ c.in-Some.id (last_marked _ _ _ c.in-Some.id c.in-Some.ensures.items c.self.invariant.0) in
    let ok = c.self.inside.marks.ok.0 in
    omega (arith, below, ok)

pub invariant_of-self : goal.invariant_of-self
invariant_of-self g c =
    let inv = c.self.invariant in (
      one_less _ _ _ c.in-Some.id c.in-Some.ensures.items inv.0,
      length-set _ _ _ ∙ inv.1,
      rw c.in-Some.ensures.capacity inv.2,
      inv.3,
    )

pub returns-in-Some-clause-told : goal.returns-in-Some-clause-told
returns-in-Some-clause-told g c =
    let was = last_marked _ _ _ c.in-Some.id c.in-Some.ensures.items c.self.invariant.0 in
    rw (← c.self.view_is) (was, refl)

pub returns-in-Some-clause-below : goal.returns-in-Some-clause-below
returns-in-Some-clause-below g c =
    let was = last_marked _ _ _ c.in-Some.id c.in-Some.ensures.items c.self.invariant.0 in
    let below = marked_within _ c.in-Some.id was in
    let long = c.self.invariant.1 in
    let all = c.self.invariant.3 in
    omega (arith, below, long, all)
