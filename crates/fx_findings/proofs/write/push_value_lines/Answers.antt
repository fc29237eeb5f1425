use Rattle.std.proofs.Common.{◌≡◌, ◌∙◌, ap, ℕ, ◌-◌, ◌++◌, List, [], ◌∷◌, drop, length, string_bytes, Vec, refl, sym, arith, length-drop, append-nil}
use Rattle.std.specs.Prelude.{min}
use Rattle.std.specs.Global.{Global}
use Rattle.std.proofs.lemmas.List.{length-map}
use Rattle.std.proofs.lemmas.Slice.Zip.{zip_end}
use Rattle.fx_text.specs.declared.queue_decl.QueueDecl.{QueueDecl}
use Rattle.fx_report.specs.Text.{names_of}
use Rattle.fx_explore.specs.StateRows.{values_of}
use Rattle.fx_explore.specs.Told.{value_lines}
use Rattle.fx_findings.proofs.write.push_value_lines.Goals as goal

none_left : (names left : List (List ℕ)) → min (length names) (length left) ≡ 0 → value_lines names left ≡ []
none_left [] left e = refl
none_left (name ∷ names) [] e = refl
none_left (name ∷ names) (ns ∷ left) e = absurd (omega arith)

none_after : (queues : List QueueDecl) (left : List (Vec ℕ Global)) (n : ℕ) → n ≡ min (length queues) (length left)
    → value_lines (names_of (drop n queues)) (values_of (drop n left)) ≡ []
none_after queues left n e =
    let names : length (names_of (drop n queues)) ≡ length queues - n = length-map _ _ ∙ length-drop n queues in
    let values : length (values_of (drop n left)) ≡ length left - n = length-map _ _ ∙ length-drop n left in
    none_left _ _ (omega arith)

pub returns : goal.returns
returns c =
    let start = c.into_iter-queue-iterator.result in
    let gives : start ≡ c.zip-queue-items.result = c.into_iter-queue-iterator.ensures.into_iter_gives in
    let first = ap (λ z. z.a.rest.now) gives ∙ ap (λ i. i.rest.now) c.zip-queue-items.ensures.first ∙ c.iter.ensures.rest in
    let taken : c.zip-queue-items.result.b.rest.now ≡ c.args.left.now = c.zip-queue-items.ensures.second.0 in
    let second : start.b.rest.now ≡ c.args.left.now = ap (λ z. z.b.rest.now) gives ∙ taken in
    let end = zip_end c.args.queues.now c.args.left.now c.loop-queue.yielded start c.loop-queue.queue-iterator c.next.new.self c.next.result first second
    c.loop-queue.yielded_by c.in-None.is c.next.ensures.steps in
    let none = none_after c.args.queues.now c.args.left.now _ end in
    sym (append-nil _) ∙ ap (λ (t : List ℕ). string_bytes c.loop-queue.text ++ t) (sym none) ∙ c.loop-queue.invariant
