-- A text that is made of pieces.
use Rattle.std.proofs.Common.{◌≡◌, ℕ, List, ◌++◌, append_assoc}

pub joined : (t₀ t₁ t₂ t₃ t₄ t₅ t₆ start head legend ground figures end : List ℕ) → t₁ ≡ t₀ ++ start → t₂ ≡ t₁ ++ head → t₃ ≡ t₂ ++ legend → t₄ ≡ t₃ ++ ground
    → t₅ ≡ t₄ ++ figures → t₆ ≡ t₅ ++ end → t₆ ≡ t₀ ++ (start ++ (head ++ (legend ++ (ground ++ figures))) ++ end)
joined t₀ t₁ t₂ t₃ t₄ t₅ t₆ start head legend ground figures end p q r s t u = rw (u, t, s, r, q, p) (simp append_assoc)

pub four_joined : (t₀ t₁ t₂ t₃ t₄ a b c d : List ℕ) → t₁ ≡ t₀ ++ a → t₂ ≡ t₁ ++ b → t₃ ≡ t₂ ++ c → t₄ ≡ t₃ ++ d → t₄ ≡ t₀ ++ (a ++ (b ++ (c ++ d)))
four_joined t₀ t₁ t₂ t₃ t₄ a b c d p q r s = rw (s, r, q, p) (simp append_assoc)
