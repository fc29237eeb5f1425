-- A turn of a fiber at a gate.
use Rattle.std.specs.Prelude.{◌≡◌, ℕ, Option, MatchOption}
use Rattle.fx_fiber.specs.Theory.{Theory}
use Rattle.fx_fiber.specs.Fiber.{FiberView}
use Rattle.fx_fiber.specs.Turns.{Turns}
use Rattle.fx_fiber.specs.declared.turned.Turned.{Turned}

module _ {P S : Type 0} (theory : Theory P S) where
  -- nothing has changed where the gate named nobody; else that number was requested from outside, by the fiber's port, of which nothing else has changed
  abbrev pub RequestsNamed : Option ℕ → FiberView P → S → FiberView P → S → Type 0
  RequestsNamed named old shared new shared' =
      MatchOption named ((new ≡ old) × (shared' ≡ shared))
      (λ id. theory.calls.outsides old.port shared id new.port shared' × (new ≡ record old { port = new.port }))

  -- the gate gave this answer; who was named, if anybody, was requested, and then the fiber had its turn, which came to this
  pub record HasGatedTurn (answers : Option ℕ → Type 0) (old : FiberView P) (shared : S) (answer : Option (Turned P S)) (new : FiberView P) (shared' : S)
      : Type 0 where
    pub named : Option ℕ
    pub answered : answers named
    pub before : FiberView P
    pub between : S
    pub requested : RequestsNamed named old shared before between
    pub turns : Turns theory before between answer new shared'
