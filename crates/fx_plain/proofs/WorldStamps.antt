-- The stamps that the world has are those of the whole machine.
use Rattle.std.proofs.Common.{◌≡◌, ℕ, ◌<◌, Option, List, [], ◌∷◌, ◌++◌, length, max, drop, refl, sym, ◌∙◌, ap, arith, inl, inr}
use Rattle.std.proofs.Common.{get_or-set_same, get_or-set_other, length-set}
use Rattle.std.specs.Prelude.{slice_index_or, slice_set}
use Rattle.std.proofs.lemmas.Bool.{cases_eq}
use Rattle.std.proofs.lemmas.List.{length-replicate, map-append}
use Rattle.fx_term.specs.declared.event.Event.TheVariants as event
use Rattle.fx_term.specs.declared.item.Item.{Item}
use Rattle.fx_term.specs.declared.node.Node.{Node}
use Rattle.fx_term.specs.Script.{ScriptView, total}
use Rattle.fx_term.specs.Term.{Term}
use Rattle.fx_model.specs.Origin.{Origin}
use Rattle.fx_model.specs.Row.{Label, Silent, Shows, Learns, Starts}
use Rattle.fx_model.proofs.StepLabels.{IsProper}
use Rattle.fx_fiber.specs.declared.stepped.Stepped.{Stepped}
use Rattle.fx_fiber.specs.MakesStep.{Tells}
use Rattle.fx_fiber.specs.StampedRun.{IsUncaused, stamp_of_event}
use Rattle.fx_plain.specs.MachineStamps.{MachineStamps, no_stamps, front_stamp, cause_of, stamp_of, asked_after, ended_after, put_after}
use Rattle.fx_plain.specs.MachineStamps.{stamps_after}
use Rattle.fx_plain.specs.WholeMachine.{WholeMachine, IsAnswered, next_item}
use Rattle.fx_plain.specs.PlainQueue.{QueueView, queue_at, IsFront, put_stamps, with_item, without_front}
use Rattle.fx_plain.specs.World.{WorldView, asked_in, ended_in, stamped_item, world_after, HeldFiber, StandsFor, HasStamps, opening_world}
use Rattle.fx_plain.specs.PlainCalls.{PortView, plain_theory}
use Rattle.fx_term.proofs.MapLaws.{at_that, at_other}
use Rattle.fx_plain.proofs.Maps.{replicated}
use Rattle.fx_plain.proofs.WorldQueues.{changed, told_without_front, room_within, front_within, opening_items}

-- a world that has the same of requests, ends and queues has the same stamps
pub stamps_beside : (s : ScriptView) (w w' : WorldView) (stamps : MachineStamps) → w'.asked ≡ w.asked → w'.ended ≡ w.ended → w'.queues ≡ w.queues
    → HasStamps s w stamps → HasStamps s w' stamps
stamps_beside s w w' stamps asked ended queues has = record {
  asked_long = ap length asked ∙ has.asked_long;
  ended_long = ap length ended ∙ has.ended_long;
  asked = λ f lt. ap (λ (ts : List ℕ). slice_index_or ts f 0) asked ∙ has.asked f lt;
  ended = λ f. ap (λ (ts : List ℕ). slice_index_or ts f 0) ended ∙ has.ended f;
  queues = λ q. ap (λ (qs : List QueueView). put_stamps (queue_at qs q).items) queues ∙ has.queues q;
}

-- before any step
pub opening_has_stamps : (s : ScriptView) → HasStamps s (opening_world s) no_stamps
opening_has_stamps s = record {
  asked_long = length-replicate (total s) 0;
  ended_long = length-replicate (total s) 0;
  asked = λ f lt. replicated (total s) f 0;
  ended = λ f. replicated (total s) f 0;
  queues = λ q. ap put_stamps (opening_items s.capacities q);
}

front_stamp_is : (n stamp : ℕ) (xs : List Item) → IsFront n stamp xs → stamp ≡ front_stamp (put_stamps xs)
front_stamp_is n stamp [] h = absurd h
front_stamp_is n stamp (x ∷ xs) h = sym h.1

module _ (s : ScriptView) (w : WorldView) (m : WholeMachine) (has : HasStamps s w m.stamps) (f : ℕ) (lt : f < total s) where
  -- the stamp of the cause that a call finds is that of the whole machine
  module _ (nodes : List Node) (leaf : Option Term) (p : PortView) (own : p.number ≡ f) (stamp cause : ℕ) where
    pub cause_is : (l : Label) (answer : Stepped PortView WorldView) (p' : PortView) (w' : WorldView) → IsProper l → (IsUncaused l → cause ≡ 0)
        → Tells (plain_theory nodes) stamp cause leaf l answer p w p' w' → cause ≡ cause_of m.stamps f l
    cause_is (Learns g o e) answer p' w' proper none h = sym h.3 ∙ has.ended g
    cause_is (Shows (event.Got q n)) answer p' w' proper none h = front_stamp_is n cause (queue_at w.queues q).items h.0 ∙ ap front_stamp (has.queues q)
    cause_is (Shows event.Seen) answer p' w' proper none h = sym h.3 ∙ ap (asked_in w) own ∙ has.asked f lt
    cause_is (Shows (event.Joined g o)) answer p' w' proper none h = absurd proper
    cause_is (Shows (event.Awaited g)) answer p' w' proper none h = absurd proper
    cause_is (Shows (event.First n)) answer p' w' proper none h = absurd proper
    cause_is (Starts g b) answer p' w' proper none h = none tt
    cause_is Silent answer p' w' proper none h = none tt
    cause_is (Shows _) answer p' w' proper none h = none tt

  module _ (held : List (Option HeldFiber)) (stands : StandsFor s w held m) (ls : List Label) (stamp : ℕ) where
    asked_is : (l : Label) (h : ℕ) → h < total s → asked_in (world_after f ls stamp l w) h ≡ asked_after l stamp m.stamps.asked h
    asked_is (Shows (event.Request g)) h below = elim (cases_eq h g) [
      | inl same ↦
          ap (λ (k : ℕ). slice_index_or (slice_set w.asked g (max stamp (asked_in w g))) k 0) same
          ∙ get_or-set_same w.asked g (max stamp (asked_in w g)) 0 (let n = has.asked_long in omega arith)
          ∙ ap (max stamp) (has.asked g (omega arith)) ∙ sym (at_that g (max stamp (m.stamps.asked g)) m.stamps.asked h same)
      | inr apart ↦
          get_or-set_other w.asked g h (max stamp (asked_in w g)) 0 apart ∙ has.asked h below
          ∙ sym (at_other g (max stamp (m.stamps.asked g)) m.stamps.asked h apart)
    ]
    asked_is (Shows (event.Ended o)) h below = has.asked h below
    asked_is (Starts g b) h below = has.asked h below
    asked_is _ h below = has.asked h below

    ended_is : (l : Label) (h : ℕ) → ended_in (world_after f ls stamp l w) h ≡ ended_after f l stamp m.stamps.ended h
    ended_is (Shows (event.Ended o)) h = elim (cases_eq h f) [
      | inl same ↦
          ap (λ (k : ℕ). slice_index_or (slice_set w.ended f stamp) k 0) same
          ∙ get_or-set_same w.ended f stamp 0 (let n = has.ended_long in let p = lt in omega arith) ∙ sym (at_that f stamp m.stamps.ended h same)
      | inr apart ↦ get_or-set_other w.ended f h stamp 0 apart ∙ has.ended h ∙ sym (at_other f stamp m.stamps.ended h apart)
    ]
    ended_is (Shows (event.Request g)) h = has.ended h
    ended_is (Starts g b) h = has.ended h
    ended_is _ h = has.ended h

    put_is : (l : Label) → IsAnswered s m f l → (r : ℕ)
        → put_stamps (queue_at (world_after f ls stamp l w).queues r).items ≡ put_after l stamp m.stamps.queues r
    put_is (Shows (event.Put k n)) a r =
        let x = stamped_item (next_item f ls k n) stamp in
        changed put_stamps w.queues m.stamps.queues has.queues k (room_within s m w.queues stands.capacities stands.queues k a)
        (with_item x (queue_at w.queues k)) (m.stamps.queues k ++ stamp ∷ [])
        (map-append (λ (y : Item). y.stamp) (queue_at w.queues k).items (x ∷ []) ∙ ap (λ (ts : List ℕ). ts ++ stamp ∷ []) (has.queues k)) r
    put_is (Shows (event.Got k n)) a r =
        changed put_stamps w.queues m.stamps.queues has.queues k (front_within s m w.queues stands.capacities stands.queues k n a)
        (without_front (queue_at w.queues k)) (drop 1 (m.stamps.queues k))
        (told_without_front (λ (y : Item). y.stamp) (queue_at w.queues k).items ∙ ap (drop 1) (has.queues k)) r
    put_is (Starts g b) a r = has.queues r
    put_is (Shows (event.Request g)) a r = has.queues r
    put_is (Shows (event.Ended o)) a r = has.queues r
    put_is _ a r = has.queues r

    asked_kept : (l : Label) → length (world_after f ls stamp l w).asked ≡ length w.asked
    asked_kept (Shows (event.Request g)) = length-set w.asked g (max stamp (asked_in w g))
    asked_kept (Shows (event.Ended o)) = refl
    asked_kept (Starts g b) = refl
    asked_kept _ = refl

    ended_kept : (l : Label) → length (world_after f ls stamp l w).ended ≡ length w.ended
    ended_kept (Shows (event.Ended o)) = length-set w.ended f stamp
    ended_kept (Shows (event.Request g)) = refl
    ended_kept (Starts g b) = refl
    ended_kept _ = refl

    -- after a step whose event has that stamp in the whole machine too
    pub stamps_kept : (l : Label) → IsAnswered s m f l → stamp ≡ stamp_of m.stamps f l → HasStamps s (world_after f ls stamp l w) (stamps_after m.stamps f l)
    stamps_kept l a is = rw (← is) (record {
      asked_long = asked_kept l ∙ has.asked_long;
      ended_long = ended_kept l ∙ has.ended_long;
      asked = asked_is l;
      ended = ended_is l;
      queues = put_is l a;
    })

-- the stamps of a fiber other than the one that makes a step
pub began_of_other : (stamps : MachineStamps) (f h : ℕ) (l : Label) → ((g : ℕ) (b : Origin) → l ≡ Starts g b → h ≡ g → ⊥)
    → (stamps_after stamps f l).began h ≡ stamps.began h
began_of_other stamps f h (Starts g b) ne = at_other g (stamp_of stamps f (Starts g b)) stamps.began h (ne g b refl)
began_of_other stamps f h Silent ne = refl
began_of_other stamps f h (Shows e) ne = refl
began_of_other stamps f h (Learns g o e) ne = refl

pub trace_of_other : (stamps : MachineStamps) (f h : ℕ) (l : Label) → (h ≡ f → ⊥) → (stamps_after stamps f l).trace h ≡ stamps.trace h
trace_of_other stamps f h l ne = at_other f (stamps.trace f ++ stamp_of_event (stamp_of stamps f l) l) stamps.trace h ne
