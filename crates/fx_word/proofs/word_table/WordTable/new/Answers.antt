use Rattle.std.proofs.Common.{◌≡◌, ◌∙◌, ℕ, List, ap, refl, length, slice_index, replicate, zero, suc}
use Rattle.std.proofs.lemmas.List.{length-replicate}
use Rattle.fx_word.proofs.word_table.WordTable.new.Goals as goal
use Rattle.fx_word.proofs.Opens.{opens}

blank : (m i : ℕ) → slice_index (replicate m 0) i ≡ 0
blank zero i = refl
blank (suc m) zero = refl
blank (suc m) (suc i) = blank m i

pub of_words-requires : goal.of_words-requires
of_words-requires c =
    let e = c.in-Ok.ensures in
    let v = c.as_slice.ensures in
    let same = v.value ∙ e.items_if_clones_equal (λ y p. p) in
    opens c.args.fibers c.requires.0 c.as_slice.result.now (ap length same ∙ length-replicate _ 0) (λ i. ap (λ (l : List ℕ). slice_index l i) same ∙ blank _ i)
