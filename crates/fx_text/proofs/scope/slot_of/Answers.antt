use Rattle.std.proofs.Common.{sym, ap, ◌∙◌, option_map, ◌+◌}
use Rattle.fx_text.proofs.ScopeLaws.{slot_outside, slot_own}
use Rattle.fx_text.proofs.scope.slot_of.Goals as goal

pub returns-in-Some-clause-slot : goal.returns-in-Some-clause-slot
returns-in-Some-clause-slot c = let e = rw c.split_at.ensures.front at c.in-Some.ensures.index in
    sym (slot_outside c.args.kind c.args.name.now c.args.foreign c.args.names.now c.in-Some.index (sym e))

pub returns-in-Some-index_of-clause-slot : goal.returns-in-Some-index_of-clause-slot
returns-in-Some-index_of-clause-slot c =
    let none = rw c.split_at.ensures.front at c.in-None.ensures.index in
    let some = rw c.split_at.ensures.back at c.in-Some-index_of.ensures.index in
    ap (option_map (λ i. c.args.foreign + i)) some ∙ sym (slot_own c.args.kind c.args.name.now c.args.foreign c.args.names.now c.requires (sym none))

pub returns-in-None-index_of-clause-slot : goal.returns-in-None-index_of-clause-slot
returns-in-None-index_of-clause-slot c =
    let none = rw c.split_at.ensures.front at c.in-None.ensures.index in
    let no = rw c.split_at.ensures.back at c.in-None-index_of.ensures.index in
    ap (option_map (λ i. c.args.foreign + i)) no ∙ sym (slot_own c.args.kind c.args.name.now c.args.foreign c.args.names.now c.requires (sym none))
