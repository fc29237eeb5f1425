use Rattle.std.proofs.Common.{◌≡◌, ◌≤◌, ◌-◌, length, refl, arith}
use Rattle.fx_fiber.proofs.begin.main_begin.Goals as goal

pub returns-clause-begin : goal.returns-clause-begin
returns-clause-begin c =
    let last : c.root-root.result.0 ≡ length c.args.code.now.nodes - 1 = let e = c.root-root.ensures.last in omega arith in
    rw (c.new.ensures, c.need.ensures.need, ← last) refl

pub returns-clause-word : goal.returns-clause-word
returns-clause-word c = let few : c.need.result ≤ 4095 = c.need.ensures.few in omega arith
