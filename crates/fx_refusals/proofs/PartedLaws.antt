-- Fibers that were parted from their ports, one after the other.
use Rattle.std.proofs.Common.{◌≡◌, ℕ, ◌+◌, ◌<◌, ◌≤◌, List, [], ◌∷◌, ◌++◌, All, arith}
use Rattle.std.proofs.lemmas.List.Elements.{All-push}
use Rattle.fx_term.specs.declared.node.Node.{Node}
use Rattle.fx_fiber.specs.Bare.{BareView}
use Rattle.fx_sched.proofs.Ascending.{Ascend, one_more}

-- they ran this code, rise by number, and have numbers below the next one, which is at most so many
pub record AreParted (nodes : List Node) (total next : ℕ) (bares : List BareView) : Type 0 where
  pub rise : Ascend (λ (x : BareView). x.id) next bares
  pub code : All (λ (x : BareView). x.nodes ≡ nodes) bares
  pub small : All (λ (x : BareView). x.id < total) bares

pub parted_more : (nodes : List Node) (total next : ℕ) (bares : List BareView) (bare : BareView) → bare.nodes ≡ nodes → bare.id ≡ next → next < total
    → AreParted nodes total next bares → AreParted nodes total (next + 1) (bares ++ bare ∷ [])
parted_more nodes total next bares bare e i h p = record {
  rise = one_more (λ (x : BareView). x.id) next next bares bare (omega arith) i p.rise;
  code = All-push (λ (x : BareView). x.nodes ≡ nodes) bares bare p.code e;
  small = All-push (λ (x : BareView). x.id < total) bares bare p.small (omega (arith, i, h));
}
