use Rattle.std.proofs.Common.{length, refl, arith}
use Rattle.std.proofs.lemmas.Option.{slice_get_read}
use Rattle.fx_port.proofs.RowLaws.{row_offers}
use Rattle.fx_port.proofs.passes.Passes.offer.Goals as goal

pub returns : goal.returns
returns g c =
    let there = c.if-place-len.false in
    let many = c.len.ensures in
    let ok = c.self.inside.row.ok.0 in
    let at = slice_get_read c.self.inside.row.items (length c.self.inside.row.items) c.args.queue _ refl (omega (arith, there, many, ok))
    c.index_mut-pass.ensures.value in
    rw (← c.self.view_is) (row_offers _ c.args.queue _ c.offer.new.self at c.args.value c.args.stamp c.offer.result c.offer.ensures.same c.offer.ensures.rule)
