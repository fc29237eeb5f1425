-- A machine goes by one step of a fiber, or to a halt.
use Rattle.std.proofs.Common.{◌≡◌, ℕ, true, false, Option, Some, None, List, [], ◌∙◌, ap, subst}
use Rattle.std.specs.Prelude.{is_some, IfSome, IfNone}
use Rattle.std.proofs.lemmas.Option.{same_Some}
use Rattle.fx_term.specs.declared.node.Node.{Node}
use Rattle.fx_term.specs.Script.{ScriptView}
use Rattle.fx_text.specs.declared.pick.Pick.{Pick}
use Rattle.fx_plain.specs.declared.plain_machine.Next.{Next}
use Rattle.fx_plain.specs.declared.plain_machine.Next.TheVariants.{Step}
use Rattle.fx_plain.specs.declared.plain_machine.PlainMachine.{PlainMachine}
use Rattle.fx_plain.specs.NumberSet.{IsLeastOf}
use Rattle.fx_plain.specs.WholeMachine.{WholeMachine}
use Rattle.fx_plain.specs.World.{WorldView, is_ready_in}
use Rattle.fx_plain.specs.PlainMachine.{StandsForRun, StandsForSome, Tries, IsUnderWay, GoesOn, GoesByLeast}
use Rattle.fx_plain.proofs.PlainMachineWay.{tried_least}
use Rattle.fx_plain.proofs.PlainMachineBursts.{world_after_burst, way_after_burst}
use Rattle.fx_plain.proofs.PlainMachineLeast.{way_by_least}

-- who is chosen is the one that alone is to go, or the least one that is ready
abbrev pub IsChosen : Option ℕ → WorldView → ℕ → Type 0
IsChosen only w f = IfSome only (λ g. Some f ≡ Some g) × IfNone only (IsLeastOf (is_ready_in w) (Some f))

-- where one alone is to go, nothing was done yet
abbrev pub HasNotGone : {J : Type 0} → Option ℕ → PlainMachine J → PlainMachine J → Next → Type 0
HasNotGone only old p next = IfSome only (λ g. (p ≡ old) × (next ≡ Step))

-- who is chosen is ready
pub chosen_ready : {J : Type 0} (only : Option ℕ) (old p : PlainMachine J) (next : Next) (f : ℕ) → IfSome only (λ g. is_ready_in old.world g ≡ true)
    → HasNotGone only old p next → IsChosen only p.world f → is_ready_in p.world f ≡ true
chosen_ready {J} None old p next f ready first chosen = chosen.1.0
chosen_ready {J} (Some g) old p next f ready first chosen =
    ap (is_ready_in p.world) (same_Some f g chosen.0) ∙ ap (λ (r : PlainMachine J). is_ready_in r.world g) first.0 ∙ ready

module _ {J : Type 0} (nodes : List Node) (only : Option ℕ) (old p q p' : PlainMachine J) (f : ℕ)
    (tries : (s : ScriptView) (m : WholeMachine) → StandsForRun nodes s q m → Tries nodes s m f q p') where
  -- the one that alone was to go has made its try
  pub goes_alone : (next : Next) → HasNotGone only old p next → IfSome only (λ g. Some f ≡ Some g) → (next ≡ Step → q ≡ p)
      → IfSome only (λ g. (s : ScriptView) (m : WholeMachine) → StandsForRun nodes s old m → Tries nodes s m g old p')
  goes_alone next first chosen none = by_one only first chosen
    where
      by_one : (only : Option ℕ) → HasNotGone only old p next → IfSome only (λ g. Some f ≡ Some g)
          → IfSome only (λ g. (s : ScriptView) (m : WholeMachine) → StandsForRun nodes s old m → Tries nodes s m g old p')
      by_one None first chosen = chosen
      by_one (Some g) first chosen =
          subst (λ (k : ℕ). (s : ScriptView) (m : WholeMachine) → StandsForRun nodes s old m → Tries nodes s m k old p') (same_Some f g chosen)
          (subst (λ (r : PlainMachine J). (s : ScriptView) (m : WholeMachine) → StandsForRun nodes s r m → Tries nodes s m f r p')
          (none first.1 ∙ first.0) tries)

  -- else the machine is on its way to a halt
  pub goes_to_halt : (on : (s : ScriptView) (m : WholeMachine) → StandsForRun nodes s p m → (m' : WholeMachine) × GoesOn nodes s f m p m' q)
      → StandsForSome nodes p → IsChosen only p.world f
      → IfNone only ((s : ScriptView) (all : List Pick) → IsUnderWay nodes s all [] old → IsUnderWay nodes s all [] p)
      → IfNone only ((s : ScriptView) (all : List Pick) → IsUnderWay nodes s all [] old → IsUnderWay nodes s all [] p')
  goes_to_halt on some chosen way = by_one only chosen.1 way
    where
      by_one : (only : Option ℕ) → IfNone only (IsLeastOf (is_ready_in p.world) (Some f))
          → IfNone only ((s : ScriptView) (all : List Pick) → IsUnderWay nodes s all [] old → IsUnderWay nodes s all [] p)
          → IfNone only ((s : ScriptView) (all : List Pick) → IsUnderWay nodes s all [] old → IsUnderWay nodes s all [] p')
      by_one None least way = λ s all u.
          tried_least nodes s all f q p' (tries s) (λ h lt. rw (world_after_burst nodes f p q on some) (least.1 h lt))
          (way_after_burst nodes f p q on s all least.1 (way s all u))
      by_one (Some g) least way = way

-- or it flows
pub flows_to_halt : {J : Type 0} (nodes : List Node) (only : Option ℕ) (old p q p' : PlainMachine J) (f : ℕ)
    → ((s : ScriptView) (m : WholeMachine) → StandsForRun nodes s p m → (m' : WholeMachine) × GoesOn nodes s f m p m' q)
    → ((s : ScriptView) (m : WholeMachine) → StandsForRun nodes s q m → GoesByLeast nodes s m q p') → IsChosen only p.world f
    → IfNone only ((s : ScriptView) (all : List Pick) → IsUnderWay nodes s all [] old → IsUnderWay nodes s all [] p)
    → IfNone only ((s : ScriptView) (all : List Pick) → IsUnderWay nodes s all [] old → IsUnderWay nodes s all [] p')
flows_to_halt nodes None old p q p' f on by chosen way = λ s all u.
    way_by_least nodes q p' by s all (way_after_burst nodes f p q on s all chosen.1.1 (way s all u))
flows_to_halt nodes (Some g) old p q p' f on by chosen way = way

-- what is tried by a machine that is the same
pub tries_the_same : {J : Type 0} (nodes : List Node) (f : ℕ) (q r p' : PlainMachine J) → r ≡ q
    → ((s : ScriptView) (m : WholeMachine) → StandsForRun nodes s r m → Tries nodes s m f r p')
    → (s : ScriptView) (m : WholeMachine) → StandsForRun nodes s q m → Tries nodes s m f q p'
tries_the_same {J} nodes f q r p' same tries =
    subst (λ (r : PlainMachine J). (s : ScriptView) (m : WholeMachine) → StandsForRun nodes s r m → Tries nodes s m f r p') same tries

-- who goes alone does not flow
pub not_alone : (T : ℕ → Type 0) (only : Option ℕ) → only ≡ None → IfSome only T
not_alone T only e = rw e tt

-- and nobody goes alone
pub nobody_alone : (T : ℕ → Type 0) (only : Option ℕ) → is_some only ≡ false → IfSome only T
nobody_alone T None e = tt
nobody_alone T (Some g) e = absurd cc
