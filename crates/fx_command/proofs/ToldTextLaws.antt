-- What is left of the text of the steps, where a line more is written.
use Rattle.std.proofs.Common.{◌≡◌, ℕ, ◌+◌, ◌≤◌, Option, List, ◌∷◌, ◌++◌, length, ◌∙◌, ap, append_assoc, arith}
use Rattle.fx_term.specs.declared.node.NodeId.{NodeId}
use Rattle.fx_places.specs.declared.place.FormPlace.{FormPlace}
use Rattle.fx_plain.specs.declared.told.Told.{Told}
use Rattle.fx_plain.specs.declared.told.Told.TheVariants.{Step, Request, Passed}
use Rattle.fx_command.specs.ToldText.{told_line, number_after, node_of, stood_after, place_of, told_text}

pub goes_on : (names : List (List ℕ)) (places : List FormPlace) (stood stood' : List (Option NodeId)) (n n' : ℕ) (rest more : List Told) (next : Told)
    (text text' whole : List ℕ) (place : Option FormPlace) → rest ≡ next ∷ more → place ≡ place_of places (node_of stood next)
    → text' ≡ text ++ told_line names n place next → stood' ≡ stood_after stood next → n' ≡ number_after n next
    → text ++ told_text names places stood n rest ≡ whole → text' ++ told_text names places stood' n' more ≡ whole
goes_on names places stood stood' n n' rest more next text text' whole place is placed line stands after h =
    rw (line, placed, stands, after) (append_assoc text _ _ ∙ (rw is at h))

number_near : (n : ℕ) (t : Told) → number_after n t ≤ n + 1
number_near n (Step made) = omega arith
number_near n (Request f) = omega arith
number_near n (Passed x) = omega arith

-- a number is below how many are left
pub numbers_left : (n n' bound : ℕ) (rest more : List Told) (next : Told) → rest ≡ next ∷ more → n' ≡ number_after n next → n + length rest ≤ bound
    → n' + length more ≤ bound
numbers_left n n' bound rest more next is e h = omega (arith, e, number_near n next, ap (λ (told : List Told). length told) is)
