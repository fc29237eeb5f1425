use Rattle.std.proofs.Common.{rules, refl, arith}
use Rattle.fx_text.specs.Group.{OfTerm}
use Rattle.fx_text.proofs.GroupLaws.{no_group}
use Rattle.fx_text.proofs.OpenLaws.{in_fails, in_unopened, in_formless, in_headless, is_opened}
use Rattle.fx_text.proofs.reader.Reader.open.Goals as goal

pub returns-then-room-eq0 : goal.returns-then-room-eq0
returns-then-room-eq0 c = in_fails _ _ _ _ _ _ _ c.in_ok-room.ensures _ (no_group _ OfTerm _ _ _ c.if-room-eq0.true c.too_deep.ensures)

pub returns-in_err-inside : goal.returns-in_err-inside
returns-in_err-inside c =
    let h = in_unopened _ _ _ _ _ _ _ c.in_ok-room.ensures (omega (arith, c.if-room-eq0.false)) _ c.in_err-inside.ensures.read in search rules

pub returns-in_err-form : goal.returns-in_err-form
returns-in_err-form c = let h = in_formless _ _ _ _ _ _ _ c.in_ok-room.ensures (omega (arith, c.if-room-eq0.false)) _ c.in_ok-inside.ensures.read
    _ c.in_err-form.ensures.read in search rules

pub returns-in_err-head : goal.returns-in_err-head
returns-in_err-head c = let h = in_headless _ _ _ _ _ _ _ c.in_ok-room.ensures (omega (arith, c.if-room-eq0.false)) _ c.in_ok-inside.ensures.read
    _ _ c.in_ok-form.ensures.read _ (c.in_err-head.ensures _) in search rules

pub returns : goal.returns
returns c = is_opened _ _ _ _ _ _ _ c.in_ok-room.ensures (omega (arith, c.if-room-eq0.false)) _ c.in_ok-inside.ensures.read
    _ _ c.in_ok-form.ensures.read _ c.in_ok-inside.ensures.from c.in_ok-inside.ensures.shorter c.in_ok-form.ensures.shorter refl refl c.in_ok-head.ensures
