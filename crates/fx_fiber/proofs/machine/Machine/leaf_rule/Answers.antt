use Rattle.std.proofs.Common.{◌≡◌, ◌≢◌, ℕ, Some, refl, append-nil}
use Rattle.fx_term.specs.declared.node.NodeId.{NodeId}
use Rattle.fx_term.specs.declared.node.Arg.{Arg}
use Rattle.fx_term.specs.declared.node.Node.{Node}
use Rattle.fx_term.specs.declared.node.Node.TheVariants as node
use Rattle.std.proofs.lemmas.Result.{IfOk-weaker}
use Rattle.fx_fiber.specs.Leaves.{IsLeafNode, IsLocalLeaf}
use Rattle.fx_fiber.specs.Makes.{MakesRule}
use Rattle.fx_fiber.proofs.Results.{on_any_error}
use Rattle.fx_fiber.proofs.Calls.{waits_call, local_call, raised_by_nothing}
use Rattle.fx_fiber.proofs.Leaves.{never_waits}
use Rattle.fx_fiber.proofs.machine.Machine.leaf_rule.Goals as goal

local_leaf : (n : Node) → IsLeafNode (Some n) → n ≢ node.Never → ((h : ℕ) (a b : NodeId) → n ≡ node.Start h a b → ⊥)
    → ((f x : ℕ) (a : NodeId) (e : ℕ) (b d : NodeId) → n ≡ node.Join f x a e b d → ⊥) → ((f : ℕ) → n ≡ node.Cancel f → ⊥)
    → ((f g : ℕ) → n ≡ node.First f g → ⊥) → ((q : ℕ) (v : Arg) → n ≡ node.Offer q v → ⊥) → ((q : ℕ) (v : Arg) → n ≡ node.TryOffer q v → ⊥)
    → ((q : ℕ) → n ≡ node.Take q → ⊥) → ((q x : ℕ) (a b : NodeId) → n ≡ node.TryTake q x a b → ⊥) → IsLocalLeaf n
local_leaf node.Never leaf a b c d e of tried tk tt2 = absurd (a refl)
local_leaf (node.Start h x y) leaf a b c d e of tried tk tt2 = absurd (b h x y refl)
local_leaf (node.Join f x p q y z) leaf a b c d e of tried tk tt2 = absurd (c f x p q y z refl)
local_leaf (node.Cancel f) leaf a b c d e of tried tk tt2 = absurd (d f refl)
local_leaf (node.First f g) leaf a b c d e of tried tk tt2 = absurd (e f g refl)
local_leaf (node.Offer q v) leaf a b c d e of tried tk tt2 = absurd (of q v refl)
local_leaf (node.TryOffer q v) leaf a b c d e of tried tk tt2 = absurd (tried q v refl)
local_leaf (node.Take q) leaf a b c d e of tried tk tt2 = absurd (tk q refl)
local_leaf (node.TryTake q x y z) leaf a b c d e of tried tk tt2 = absurd (tt2 q x y z refl)
local_leaf n leaf a b c d e of tried tk tt2 = leaf

pub local_rule-requires : goal.local_rule-requires
local_rule-requires g c =
    let rest = c.in_default in (
      c.requires.at,
      (
        local_leaf c.args.node.now c.requires.leaf rest.not-Never rest.not-Start rest.not-Join rest.not-Cancel rest.not-First
            rest.not-Offer rest.not-TryOffer rest.not-Take rest.not-TryTake,
        c.requires.countable,
      ),
    )

pub returns-in-Never-clause-ok : goal.returns-in-Never-clause-ok
returns-in-Never-clause-ok g c =
    let stands = rw c.in-Never.is at c.requires.at in
    waits_call g.P.Port.theory _ _ _ _ _ _ _ _ _ refl _
    (never_waits g.P.Port.theory.code c.args.self.now c.args.id stands.at stands.free) tt refl refl
    refl

pub returns-in-Start-clause-ok : goal.returns-in-Start-clause-ok
returns-in-Start-clause-ok g c =
    let stands = rw c.in-Start.is at c.requires.at in
    record {
      cause = 0;
      raises = raised_by_nothing _ _ _ refl;
      sound = stands.at.sound;
      rule = record { same = record { sound = stands.at.sound; progress = refl; counts = refl }; id = c.args.id; stands = stands };
      own = tt;
      told = (refl, refl);
      agreed = λ deeds k. rw append-nil k;
      facts_are = refl;
    }

pub returns-in_default : goal.returns-in_default
returns-in_default g c = record {
  ok = IfOk-weaker c.local_rule.result (λ m. MakesRule g.P.Port.theory.code c.args.self.now m c.local_rule.new.self) _
      (λ m h. local_call g.P.Port.theory _ _ _ _ _ _ _ m _ refl refl refl h) c.local_rule.ensures.ok;
  same = c.local_rule.ensures.err;
  unchanged = on_any_error c.local_rule.result (refl, refl, refl);
}
