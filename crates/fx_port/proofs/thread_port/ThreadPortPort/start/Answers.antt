use Rattle.std.proofs.Common.{◌≡◌, ◌∙◌, [], arith, ℕ, ◌+◌, ◌≤◌, sym, ap, subst}
use Rattle.fx_word.specs.Words.{Seated}
use Rattle.fx_fiber.specs.Deed.{Started}
use Rattle.fx_fiber.specs.PortFacts.{first_facts}
use Rattle.fx_port.specs.PortView.{PortView, IsOfRun, kept_port, given_port, facts_of}
use Rattle.fx_port.specs.ThreadCalls.{ThreadAgrees}
use Rattle.fx_port.proofs.RowLaws.{puts_given}
use Rattle.fx_port.proofs.RunLaws.{splits, started, given, theirs}
use Rattle.fx_port.proofs.CallLaws.{by_deed, starts, begins}
use Rattle.fx_port.proofs.thread_port.ThreadPortPort.start.Goals as goal

pub split-requires-clause-range : goal.split-requires-clause-range
split-requires-clause-range g c =
    let own = c.self.inside.own.value in
    let p : PortView = record { words = c.self.inside.seat.view; passes = own.passes; noted = own.noted } in
    let range = c.requires.range in
    let is = range.number ∙ sym (ap (λ (u : PortView). u.words.own.next) c.self.view_is) in
    let inside = subst (λ (n : ℕ). c.args.begin.now.end ≤ n) (sym (ap (λ (u : PortView). u.words.own.end) c.self.view_is)) range.within in
    rw c.deref_mut.ensures.value (splits _ _ _ p c.self.invariant.3 c.args.id c.args.begin.now is range.follows range.ordered inside)

pub invariant_of-result : goal.invariant_of-result
invariant_of-result g c =
    let own = c.self.inside.own.value in
    let p : PortView = record { words = c.self.inside.seat.view; passes = own.passes; noted = own.noted } in
    let of_given = rw c.deref_mut.ensures.value at c.in_ok-passes.ensures.given in
    let words = ap (λ (s : Seated). s.view) c.split-seat.ensures.given in
    let marks = c.in_ok-noted.ensures in
    let made : given_port g.N.RunBrand.words.fibers c.args.begin.now p
    ≡ record { words = c.split-seat.result.view; passes = c.in_ok-passes.passes; noted = c.in_ok-noted.noted } =
    λ i. record { words = sym words i; passes = sym of_given i; noted = sym marks i } in
    let range = c.requires.range in
    let is = range.number ∙ sym (ap (λ (u : PortView). u.words.own.next) c.self.view_is) in
    let inside = subst (λ (n : ℕ). c.args.begin.now.end ≤ n) (sym (ap (λ (u : PortView). u.words.own.end) c.self.view_is)) range.within in
    let inv = c.self.invariant in
    rw (c.deref_mut-2.ensures.value, c.in_ok-own.ensures.ok, c.deref-4.ensures, c.deref-5.ensures) ((
      inv.0,
      inv.1,
      ap (λ (s : Seated). s.table) c.split-seat.ensures.given ∙ inv.2,
      subst (λ (u : PortView). IsOfRun g.N.RunBrand.words g.N.RunBrand.queues g.N.RunBrand.may u) made
          (given _ _ _ p inv.3 c.args.begin.now (range.follows ∙ ap (λ (n : ℕ). n + 1) is) range.ordered inside),
    ))

pub invariant_of-self-2 : goal.invariant_of-self-2
invariant_of-self-2 g c =
    let own = c.self.inside.own.value in
    let p : PortView = record { words = c.self.inside.seat.view; passes = own.passes; noted = own.noted } in
    let of_kept = rw c.deref_mut.ensures.value at c.in_ok-passes.ensures.kept in
    let words = ap (λ (s : Seated). s.view) c.split-seat.ensures.kept in
    let kept : kept_port c.args.begin.now p
    ≡ record { words = c.split-seat.new.seat.view; passes = c.split.new.self; noted = own.noted } =
    λ i. record { words = sym words i; passes = sym of_kept i; noted = own.noted } in
    let range = c.requires.range in
    let is = range.number ∙ sym (ap (λ (u : PortView). u.words.own.next) c.self.view_is) in
    let later : p.words.own.next ≤ c.args.begin.now.end =
    let follows = range.follows in let ordered = range.ordered in omega (arith, is, follows, ordered) in
    let inv = c.self.invariant in
    rw c.deref_mut.ensures.value ((
      inv.0,
      inv.1,
      ap (λ (s : Seated). s.table) c.split-seat.ensures.kept ∙ inv.2,
      subst (λ (u : PortView). IsOfRun g.N.RunBrand.words g.N.RunBrand.queues g.N.RunBrand.may u) kept (started _ _ _ p inv.3 c.args.begin.now later),
    ))

pub returns-clause-child_facts : goal.returns-clause-child_facts
returns-clause-child_facts g c =
    let own = c.self.inside.own.value in
    let p : PortView = record { words = c.self.inside.seat.view; passes = own.passes; noted = own.noted } in
    let of_given = rw c.deref_mut.ensures.value at c.in_ok-passes.ensures.given in
    let words = ap (λ (s : Seated). s.view) c.split-seat.ensures.given in
    let range = c.requires.range in
    let is = range.number ∙ sym (ap (λ (u : PortView). u.words.own.next) c.self.view_is) in
    let none_put = puts_given c.args.begin.now.end own.passes in
    let part : PortView = given_port g.N.RunBrand.words.fibers c.args.begin.now p in
    let child : PortView = record { words = c.split-seat.result.view; passes = c.in_ok-passes.passes; noted = c.in_ok-noted.noted } in
    let made : facts_of g.N.RunBrand.nodes child ≡ facts_of g.N.RunBrand.nodes part =
    λ i. facts_of g.N.RunBrand.nodes (record { words = words i; passes = of_given i; noted = c.in_ok-noted.noted }) in
    let first : facts_of g.N.RunBrand.nodes part ≡ first_facts c.args.id c.args.begin.now =
    λ i. record (first_facts (sym is i) c.args.begin.now) { puts = none_put i } in
    made ∙ first

pub returns-clause-child_fresh : goal.returns-clause-child_fresh
returns-clause-child_fresh g c =
    let own = c.self.inside.own.value in
    let p : PortView = record { words = c.self.inside.seat.view; passes = own.passes; noted = own.noted } in
    let of_given = rw c.deref_mut.ensures.value at c.in_ok-passes.ensures.given in
    let words = ap (λ (s : Seated). s.view) c.split-seat.ensures.given in
    let marks = c.in_ok-noted.ensures in
    let made : given_port g.N.RunBrand.words.fibers c.args.begin.now p
    ≡ record { words = c.split-seat.result.view; passes = c.in_ok-passes.passes; noted = c.in_ok-noted.noted } =
    λ i. record { words = sym words i; passes = sym of_given i; noted = sym marks i } in
    rw (c.deref_mut-2.ensures.value, c.in_ok-own.ensures.ok)
    (subst (λ (u : PortView). ThreadAgrees u []) made (begins p g.N.RunBrand.words.fibers c.args.begin.now))

pub returns-clause-deed : goal.returns-clause-deed
returns-clause-deed g c =
    let own = c.self.inside.own.value in
    let p : PortView = record { words = c.self.inside.seat.view; passes = own.passes; noted = own.noted } in
    let of_kept = rw c.deref_mut.ensures.value at c.in_ok-passes.ensures.kept in
    let words = ap (λ (s : Seated). s.view) c.split-seat.ensures.kept in
    let range = c.requires.range in
    let is = range.number ∙ sym (ap (λ (u : PortView). u.words.own.next) c.self.view_is) in
    let inside = subst (λ (n : ℕ). c.args.begin.now.end ≤ n) (sym (ap (λ (u : PortView). u.words.own.end) c.self.view_is)) range.within in
    rw c.deref_mut.ensures.value (by_deed p _ (kept_port c.args.begin.now p) _ (Started c.args.id c.args.begin.now) c.args.begin.now.stamp c.self.view_is
    (λ i. record { words = words i; passes = of_kept i; noted = own.noted })
    (starts p c.args.id c.args.begin.now is (theirs _ _ _ p c.self.invariant.3)))
