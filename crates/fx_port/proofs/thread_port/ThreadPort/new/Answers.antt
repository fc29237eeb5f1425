use Rattle.std.proofs.Common.{◌≡◌, [], sym, subst}
use Rattle.fx_port.specs.PortView.{PortView, IsOfRun, first_port}
use Rattle.fx_port.specs.ThreadCalls.{ThreadAgrees}
use Rattle.fx_port.proofs.FirstLaws.{first_puts, first_agrees}
use Rattle.fx_port.proofs.RunLaws.{first_run}
use Rattle.fx_port.proofs.thread_port.ThreadPort.new.Goals as goal

pub invariant_of-result : goal.invariant_of-result
invariant_of-result g c =
    let marks = c.in_ok-noted.ensures in
    let made : first_port g.N.RunBrand.words.fibers c.args.passes
    ≡ record { words = c.args.seat.view; passes = c.args.passes; noted = c.in_ok-noted.noted } =
    λ i. record { words = sym c.requires.seat.1 i; passes = c.args.passes; noted = sym marks i } in
    rw c.in_ok-own.ensures.ok ((
      c.requires.words.0,
      c.requires.queues,
      c.requires.seat.0,
      subst (λ (u : PortView). IsOfRun g.N.RunBrand.words g.N.RunBrand.queues g.N.RunBrand.may u) made
          (first_run _ _ _ c.args.passes c.requires.words.1 c.requires.passes),
    ))

pub returns-clause-puts : goal.returns-clause-puts
returns-clause-puts g c = rw c.in_ok-own.ensures.ok (first_puts _ _ c.args.passes c.requires.passes)

pub returns-clause-fresh : goal.returns-clause-fresh
returns-clause-fresh g c =
    let marks = c.in_ok-noted.ensures in
    let made : first_port g.N.RunBrand.words.fibers c.args.passes
    ≡ record { words = c.args.seat.view; passes = c.args.passes; noted = c.in_ok-noted.noted } =
    λ i. record { words = sym c.requires.seat.1 i; passes = c.args.passes; noted = sym marks i } in
    rw c.in_ok-own.ensures.ok (subst (λ (u : PortView). ThreadAgrees u []) made (first_agrees _ _ c.args.passes c.requires.passes))
