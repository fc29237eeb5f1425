use Rattle.std.proofs.Common.{length, refl, arith}
use Rattle.std.proofs.lemmas.Option.{slice_get_read}
use Rattle.fx_port.proofs.RowLaws.{row_takes, row_finds_none}
use Rattle.fx_port.proofs.passes.Passes.take.Goals as goal

pub returns-in_err-item : goal.returns-in_err-item
returns-in_err-item g c =
    let there = c.if-place-len.false in
    let many = c.len.ensures in
    let ok = c.self.inside.row.ok.0 in
    let at = slice_get_read c.self.inside.row.items (length c.self.inside.row.items) c.args.queue _ refl (omega (arith, there, many, ok))
    c.index_mut-pass.ensures.value in
    rw (← c.self.view_is, c.from_residual.ensures) (row_finds_none _ c.args.queue _ c.take.new.self at c.in_err-item.ensures.rule)

pub returns : goal.returns
returns g c =
    let there = c.if-place-len.false in
    let many = c.len.ensures in
    let ok = c.self.inside.row.ok.0 in
    let at = slice_get_read c.self.inside.row.items (length c.self.inside.row.items) c.args.queue _ refl (omega (arith, there, many, ok))
    c.index_mut-pass.ensures.value in
    rw (← c.self.view_is) (row_takes _ c.args.queue _ c.take.new.self at c.in_ok-item.item c.in_ok-item.ensures.same c.in_ok-item.ensures.rule)
