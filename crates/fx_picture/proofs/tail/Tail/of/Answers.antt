use Rattle.std.proofs.Common.{◌≡◌, ◌∙◌, ap, sym}
use Rattle.std.proofs.lemmas.Slice.Zip.{zip_end}
use Rattle.fx_picture.proofs.Sheets.{tail_ends}
use Rattle.fx_picture.proofs.tail.Tail.of.Goals as goal

pub returns-clause-is : goal.returns-clause-is
returns-clause-is c =
    let start = c.into_iter-it-iterator.result in
    let gives : start ≡ c.zip-it-items.result = c.into_iter-it-iterator.ensures.into_iter_gives in
    let first = ap (λ z. z.a.rest.now) gives ∙ ap (λ i. i.rest.now) c.zip-it-items.ensures.first ∙ c.iter.ensures.rest in
    let taken : c.zip-it-items.result.b.rest.now ≡ c.args.quiet.now = c.zip-it-items.ensures.second.0 in
    let second : start.b.rest.now ≡ c.args.quiet.now = ap (λ z. z.b.rest.now) gives ∙ taken in
    let end = zip_end c.args.above.now c.args.quiet.now c.loop-it.yielded start c.loop-it.it-iterator c.next.new.self c.next.result first second
    c.loop-it.yielded_by c.in-None.is c.next.ensures.steps in
    sym (tail_ends c.args.fiber c.loop-it.tail c.args.above.now c.args.quiet.now _ end) ∙ c.loop-it.invariant.tail
