-- Traces of the same events.
use Rattle.std.proofs.Common.{◌≡◌, ℕ, ◌<◌, List, [], ◌∷◌, length, get_or, suc, refl, ◌∙◌, ap, arith}
use Rattle.fx_term.specs.declared.event.Event.{Event}
use Rattle.fx_term.specs.declared.stamped.Stamped.{Stamped}
use Rattle.fx_term.specs.Stamped.{events_in}

pub same_events : (one other : List Stamped) → length one ≡ length other
    → ((k : ℕ) (d : Stamped) → k < length one → (get_or one k d).event ≡ (get_or other k d).event) → events_in one ≡ events_in other
same_events [] [] e h = refl
same_events [] (y ∷ ys) e h = absurd (omega arith)
same_events (x ∷ xs) [] e h = absurd (omega arith)
same_events (x ∷ xs) (y ∷ ys) e h =
    let first = h 0 x (omega arith) in
    let rest = same_events xs ys (omega arith) (λ k d lt. h (suc k) d (omega arith)) in
    ap (λ (v : Event). v ∷ events_in xs) first ∙ ap (λ (vs : List Event). y.event ∷ vs) rest
