-- A picture has a lane for each fiber and each queue.
use Rattle.std.proofs.Common.{◌≡◌, ℕ, ◌+◌, List, ◌++◌, length, ap, sym, ◌∙◌}
use Rattle.std.specs.Prelude.{string_bytes}
use Rattle.std.proofs.lemmas.List.{length-map}
use Rattle.fx_text.specs.declared.queue_decl.QueueDecl.{QueueDecl}
use Rattle.fx_report.specs.Text.{names_of}
use Rattle.fx_svg.specs.declared.tag.Tag.TheVariants.{Svg}
use Rattle.fx_svg.specs.Content.{start_tag}
use Rattle.fx_picture.specs.Picture.{size}

pub counted : (t₀ t₁ : List ℕ) (fibers rows : ℕ) (queues : List QueueDecl) → t₁ ≡ t₀ ++ start_tag Svg (size (fibers + length queues) rows)
    → t₁ ≡ t₀ ++ start_tag Svg (size (fibers + length (names_of queues)) rows)
counted t₀ t₁ fibers rows queues p =
    p ∙ ap (λ (n : ℕ). t₀ ++ start_tag Svg (size (fibers + n) rows)) (sym (length-map queues (λ (q : QueueDecl). string_bytes q.name)))
