-- The machine before any step stands for the whole machine before any step.
use Rattle.std.proofs.Common.{◌≡◌, ℕ, zero, suc, ◌+◌, Option, Some, None, option_map, List, [], ◌∷◌, ◌++◌, length, map, replicate, refl, sym, ◌∙◌, ap}
use Rattle.std.proofs.Common.{subst, arith, inl, inr}
use Rattle.std.specs.Prelude.{slice_index, slice_index_or}
use Rattle.std.proofs.lemmas.Bool.{cases_lt}
use Rattle.std.proofs.lemmas.List.{get_or_past, get_or-replicate, length-replicate, replicate_more}
use Rattle.fx_term.specs.declared.node.Node.{Node}
use Rattle.fx_term.specs.declared.event.Event.{Event}
use Rattle.fx_term.specs.Queue.{values_put}
use Rattle.fx_term.specs.Need.{need}
use Rattle.fx_term.specs.Script.{ScriptView}
use Rattle.fx_model.specs.Origin.{main_origin}
use Rattle.fx_plain.specs.Started.{StartedView}
use Rattle.fx_plain.specs.declared.plain_machine.PlainMachine.{PlainMachine}
use Rattle.fx_plain.specs.WholeMachine.{begun, opening}
use Rattle.fx_plain.specs.World.{HeldFiber, held_of, opening_world, opening_held}
use Rattle.fx_plain.specs.MachineStamps.{no_stamps}
use Rattle.fx_plain.specs.PlainMachine.{held, all_held, IsNumbered, HasStampsAt, StandsForRun}
use Rattle.fx_plain.proofs.WorldLaws.{opening_stands}
use Rattle.fx_plain.proofs.WorldClasses.{opening_tells}
use Rattle.fx_plain.proofs.WorldStamps.{opening_has_stamps}

-- one more place
pub one_more_of : {A : Type 0} (x a : A) (xs ys : List A) (n : ℕ) → xs ≡ x ∷ replicate n a → ys ≡ xs ++ a ∷ [] → ys ≡ x ∷ replicate (n + 1) a
one_more_of {A} x a xs ys n is pushed = pushed ∙ ap (λ (zs : List A). zs ++ a ∷ []) is ∙ ap (λ (zs : List A). x ∷ zs) (replicate_more n a)

module _ {J : Type 0} (nodes : List Node) (s : ScriptView) (p : PlainMachine J) (x : StartedView J) where
  abbrev nobody : Option (StartedView J)
  nobody = None

  no_places : (n : ℕ) → map (option_map (held nodes)) (replicate n nobody) ≡ replicate n None
  no_places zero = refl
  no_places (suc n) = ap (λ (xs : List (Option HeldFiber)). None ∷ xs) (no_places n)

  module _ (world : p.world ≡ opening_world s) (fibers : p.fibers.items ≡ Some x ∷ replicate (need s.term) None)
      (is : held nodes x ≡ held_of (begun None (main_origin s.term))) (number : x.fiber.port.number ≡ 0) (counts : x.fiber.port.put_counts ≡ [])
      (trace : x.fiber.trace ≡ []) (began : x.fiber.port.beginning.stamp ≡ 0) (stamps : x.fiber.stamps ≡ []) where
    none_there : (i : ℕ) → slice_index_or (replicate (need s.term) nobody) i None ≡ None
    none_there i = elim (cases_lt i (need s.term)) [
      | inl lt ↦ get_or-replicate (need s.term) i None None lt
      | inr le ↦ get_or_past (replicate (need s.term) None) i None (let e = length-replicate {A = Option (StartedView J)} (need s.term) None in omega arith)
    ]

    all_are : all_held nodes p ≡ opening_held s
    all_are = ap (map (option_map (held nodes))) fibers ∙ ap (λ (xs : List (Option HeldFiber)). Some (held nodes x) ∷ xs) (no_places (need s.term))
        ∙ ap (λ (h : HeldFiber). Some h ∷ replicate (need s.term) None) is

    numbered : (f : ℕ) → IsNumbered nodes f (slice_index_or (Some x ∷ replicate (need s.term) None) f None)
    numbered zero = (number, λ q. ap (λ (ns : List ℕ). slice_index ns q) counts ∙ sym (ap (λ (es : List Event). length (values_put q es)) trace))
    numbered (suc f) = subst (IsNumbered nodes (suc f)) (sym (none_there f)) tt

    stamped : (f : ℕ) → HasStampsAt nodes no_stamps f (slice_index_or (Some x ∷ replicate (need s.term) None) f None)
    stamped zero = (began, stamps)
    stamped (suc f) = subst (HasStampsAt nodes no_stamps (suc f)) (sym (none_there f)) refl

    pub opening_stands_for : StandsForRun nodes s p (opening s)
    opening_stands_for = record {
      moves = [];
      run = refl;
      stands = rw (world, all_are) (opening_stands s);
      tells = rw world (opening_tells s);
      numbered = rw fibers numbered;
      stamps = rw world (opening_has_stamps s);
      stamped = rw fibers stamped;
    }
