-- The text of a mark of several events, from its pieces.
use Rattle.std.proofs.Common.{◌≡◌, ℕ, List, [], ◌∷◌, ◌++◌, length, append_assoc}
use Rattle.std.specs.Prelude.{codes}
use Rattle.fx_order.specs.declared.occurrence.Occurrence.{Occurrence}
use Rattle.fx_svg.specs.declared.tag.Tag.TheVariants as tag
use Rattle.fx_svg.specs.declared.key.Key.TheVariants as key
use Rattle.fx_svg.specs.Content.{words, element, start_tag, end_tag, rendering}
use Rattle.fx_picture.specs.declared.stood.Stood.{Stood}
use Rattle.fx_picture.specs.Layout.{lane_x, row_y}
use Rattle.fx_picture.specs.Labels.{fold_words}
use Rattle.fx_picture.specs.Elements.{set_to, box}
use Rattle.fx_picture.specs.Legend.{legend_y, said, fold_sample, fold_entry}
use Rattle.fx_picture.specs.Picture.{count_label, fold_inside, fold}

joined : (t₀ t₁ t₂ t₃ a b c : List ℕ) → t₁ ≡ t₀ ++ a → t₂ ≡ t₁ ++ b → t₃ ≡ t₂ ++ c → t₃ ≡ t₀ ++ (a ++ (b ++ c))
joined t₀ t₁ t₂ t₃ a b c p q r = rw (r, q, p) (simp append_assoc)

within : (t₀ t₁ t₂ t₃ a b c : List ℕ) → t₁ ≡ t₀ ++ a → t₂ ≡ t₁ ++ b → t₃ ≡ t₂ ++ c → t₃ ≡ t₀ ++ (a ++ b ++ c)
within t₀ t₁ t₂ t₃ a b c p q r = rw (r, q, p) (simp append_assoc)

module _ (names : List (List ℕ)) (stood : List Stood) (lane row : ℕ) (list : List Occurrence) (t₀ t₁ t₂ t₃ : List ℕ) where
  pub inside_joined : (ws : List ℕ) (x y : ℕ) → ws ≡ fold_words names stood list → x ≡ lane_x lane → y ≡ row_y row
      → t₁ ≡ t₀ ++ rendering (element tag.Title [] (words ws)) → t₂ ≡ t₁ ++ rendering (box x y)
      → t₃ ≡ t₂ ++ rendering (count_label lane row (length list)) → t₃ ≡ t₀ ++ rendering (fold_inside names stood lane row list)
  inside_joined ws x y is_words is_x is_y p q r =
      joined t₀ t₁ t₂ t₃ (rendering (element tag.Title [] (words (fold_words names stood list)))) (rendering (box (lane_x lane) (row_y row)))
      (rendering (count_label lane row (length list))) (rw (← is_words) p) (rw (← is_x, ← is_y) q) r

  pub fold_joined : t₁ ≡ t₀ ++ start_tag tag.Group (set_to key.Class (codes "fold") ∷ []) → t₂ ≡ t₁ ++ rendering (fold_inside names stood lane row list)
      → t₃ ≡ t₂ ++ end_tag tag.Group → t₃ ≡ t₀ ++ rendering (fold names stood lane row list)
  fold_joined p q r =
      within t₀ t₁ t₂ t₃ (start_tag tag.Group (set_to key.Class (codes "fold") ∷ [])) (rendering (fold_inside names stood lane row list))
      (end_tag tag.Group) p q r

pub entry_joined : (t₀ t₁ t₂ ws : List ℕ) (row y : ℕ) → y ≡ legend_y row → t₁ ≡ t₀ ++ rendering (fold_sample y)
    → t₂ ≡ t₁ ++ rendering (said y ws) → t₂ ≡ t₀ ++ rendering (fold_entry row ws)
entry_joined t₀ t₁ t₂ ws row y is p q =
    rw (q, p) (rw is (append_assoc t₀ (rendering (fold_sample (legend_y row))) (rendering (said (legend_y row) ws))))
