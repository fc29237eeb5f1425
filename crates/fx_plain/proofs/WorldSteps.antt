-- A step of a fiber over the plain world is one that a schedule makes, and the world after it stands for the whole machine after it.
use Rattle.std.proofs.Common.{◌≡◌, ℕ, suc, ◌+◌, ◌<◌, Bool, true, false, Option, Some, List, [], ◌∷◌, ◌++◌, length, refl, sym, ◌∙◌, ap, inl, inr, arith}
use Rattle.std.specs.Prelude.{slice_index}
use Rattle.std.proofs.lemmas.Bool.{cases_eq, eq-eqb, ne_eqb}
use Rattle.fx_term.specs.declared.node.Node.{Node}
use Rattle.fx_term.specs.declared.node.Arg.TheVariants.{Number}
use Rattle.fx_term.specs.declared.event.Event.TheVariants as event
use Rattle.fx_term.specs.Term.{Term, First}
use Rattle.fx_term.specs.declared.item.Item.{Item}
use Rattle.fx_term.specs.Element.{elements_of}
use Rattle.fx_term.specs.Queue.{values_put}
use Rattle.fx_term.specs.Script.{ScriptView, total}
use Rattle.fx_model.specs.Row.{Counts, Label, Shows, Learns, Starts}
use Rattle.fx_model.specs.Step.{Progress, leaf_at, looks_first, Step}
use Rattle.fx_model.specs.Run.{events}
use Rattle.fx_model.proofs.StepLabels.{IsProper}
use Rattle.fx_fiber.specs.declared.stepped.Stepped.{Stepped}
use Rattle.fx_fiber.specs.declared.stepped.Stepped.TheVariants.{Went, Child, Waits, Gave, Ended}
use Rattle.fx_fiber.specs.MakesStep.{LooksBefore, PeeksLeft, Tells, Calls}
use Rattle.fx_plain.specs.WholeMachine.{StartedFiber, WholeMachine, front, IsAnswered, moved, FiberSteps}
use Rattle.fx_plain.specs.Chosen.{LooksLeftFirst, ChosenStep}
use Rattle.fx_plain.specs.PlainQueue.{queue_at, IsFront}
use Rattle.fx_plain.specs.PutCounts.{one_more_put}
use Rattle.fx_plain.specs.World.{WorldView, after_put, world_after, HeldFiber, held_after, StandsFor}
use Rattle.fx_plain.specs.PlainCalls.{PortView, plain_calls, plain_theory}
use Rattle.fx_plain.proofs.LawfulRuns.{IsKept}
use Rattle.fx_plain.proofs.StepsCan.{steps_can}
use Rattle.fx_term.proofs.MapLaws.{at_that, at_other}
use Rattle.fx_plain.proofs.PutCounts.{count_after}
use Rattle.fx_plain.proofs.WorldQueues.{room_is, puts_counted}
use Rattle.fx_plain.proofs.WorldLaws.{stands_after}

abbrev item_of : ℕ → ℕ → ℕ → ℕ → Item
item_of f i n stamp = record { fiber = f; nth = i; value = n; stamp = stamp }

-- the element at the front
front_is : (n stamp : ℕ) (xs : List Item) → IsFront n stamp xs → front (elements_of xs) ≡ Some n
front_is n stamp [] h = absurd h
front_is n stamp (x ∷ xs) h = ap Some h.0

-- the element that the port puts next is the fiber's next
same_item : {f g n : ℕ} {i j stamp : ℕ} → f ≡ g → i ≡ j → item_of f i n stamp ≡ item_of g j n stamp
same_item e h = rw (e, h) refl

module _ (nodes : List Node) (stamp cause : ℕ) (leaf : Option Term) (f : ℕ) (ls : List Label) (p : PortView) (own : p.number ≡ f)
    (counted : (q : ℕ) → slice_index p.put_counts q ≡ length (values_put q (events ls))) where
  -- the calls of a step leave the world as its label says
  pub world_is : (l : Label) (answer : Stepped PortView WorldView) (p' : PortView) (w w' : WorldView)
      → Tells (plain_theory nodes) stamp cause leaf l answer p w p' w' → w' ≡ world_after f ls stamp l w
  world_is (Learns g o e) answer p' w w' h = h.2
  world_is (Shows (event.Request g)) answer p' w w' h = h.1
  world_is (Shows event.Seen) answer p' w w' h = h.2
  world_is (Shows (event.Ended o)) answer p' w w' h = rw (← own) h.1
  world_is (Starts g b) (Child child) p' w w' h = h.told.2
  world_is (Starts g b) Went p' w w' h = absurd h
  world_is (Starts g b) (Waits wait) p' w w' h = absurd h
  world_is (Starts g b) Gave p' w w' h = absurd h
  world_is (Starts g b) Ended p' w w' h = absurd h
  world_is (Shows (event.Put q n)) answer p' w w' h = h.2 ∙ ap (λ (x : Item). after_put q x w) (same_item own (counted q))
  world_is (Shows (event.Got q n)) answer p' w w' h = h.2
  world_is (Shows (event.Refused q)) answer p' w w' h = h.2
  world_is (Shows (event.Empty q)) answer p' w w' h = h.2
  world_is _ answer p' w w' h = h.1

  unchanged : (counts : List ℕ) (q : ℕ) → counts ≡ p.put_counts → slice_index counts q ≡ length (values_put q (events ls)) + 0
  unchanged counts q e = let same : slice_index counts q ≡ slice_index p.put_counts q = ap (λ (ns : List ℕ). slice_index ns q) e in
      let c = counted q in omega arith

  one_more : (k n q : ℕ) (counts : List ℕ) → counts ≡ one_more_put k p.put_counts
      → slice_index counts q ≡ length (values_put q (events ls)) + length (values_put q (event.Put k n ∷ []))
  one_more k n q counts e = ap (λ (ns : List ℕ). slice_index ns q) e ∙ count_after k p.put_counts q ∙ elim (cases_eq q k) [
    | inl same ↦
        at_that k (suc (slice_index p.put_counts k)) (slice_index p.put_counts) q same
        ∙ rw (eq-eqb k q (sym same)) (let c = counted k in let d : length (values_put k (events ls)) ≡ length (values_put q (events ls)) =
        ap (λ (i : ℕ). length (values_put i (events ls))) (sym same) in omega arith)
    | inr apart ↦
        at_other k (suc (slice_index p.put_counts k)) (slice_index p.put_counts) q apart
        ∙ rw (ne_eqb k q (λ same. apart (sym same))) (let c = counted q in omega arith)
  ]

  -- and the port, which goes on to count what its fiber puts
  counted_one : (l : Label) (answer : Stepped PortView WorldView) (p' : PortView) (w w' : WorldView) → IsProper l
      → Tells (plain_theory nodes) stamp cause leaf l answer p w p' w' → (q : ℕ)
      → slice_index p'.put_counts q ≡ length (values_put q (events ls)) + length (values_put q (events (l ∷ [])))
  counted_one (Learns g o (event.Joined k v)) answer p' w w' proper h q = unchanged p'.put_counts q (ap (λ (r : PortView). r.put_counts) h.1)
  counted_one (Learns g o (event.Awaited k)) answer p' w w' proper h q = unchanged p'.put_counts q (ap (λ (r : PortView). r.put_counts) h.1)
  counted_one (Learns g o (event.First k)) answer p' w w' proper h q = unchanged p'.put_counts q (ap (λ (r : PortView). r.put_counts) h.1)
  counted_one (Learns g o e) answer p' w w' proper h q = absurd proper
  counted_one (Shows (event.Start g)) answer p' w w' proper h q = absurd proper
  counted_one (Shows (event.Request g)) answer p' w w' proper h q = unchanged p'.put_counts q (ap (λ (r : PortView). r.put_counts) h.0)
  counted_one (Shows event.Seen) answer p' w w' proper h q = unchanged p'.put_counts q (ap (λ (r : PortView). r.put_counts) h.1)
  counted_one (Shows (event.Ended o)) answer p' w w' proper h q = unchanged p'.put_counts q (ap (λ (r : PortView). r.put_counts) h.0)
  counted_one (Starts g b) (Child child) p' w w' proper h q = unchanged p'.put_counts q (ap (λ (r : PortView). r.put_counts) h.told.1)
  counted_one (Starts g b) Went p' w w' proper h q = absurd h
  counted_one (Starts g b) (Waits wait) p' w w' proper h q = absurd h
  counted_one (Starts g b) Gave p' w w' proper h q = absurd h
  counted_one (Starts g b) Ended p' w w' proper h q = absurd h
  counted_one (Shows (event.Put k n)) answer p' w w' proper h q = one_more k n q p'.put_counts (ap (λ (r : PortView). r.put_counts) h.1)
  counted_one (Shows (event.Got k n)) answer p' w w' proper h q = unchanged p'.put_counts q (ap (λ (r : PortView). r.put_counts) h.1)
  counted_one (Shows (event.Refused k)) answer p' w w' proper h q = unchanged p'.put_counts q (ap (λ (r : PortView). r.put_counts) h.1)
  counted_one (Shows (event.Empty k)) answer p' w w' proper h q = unchanged p'.put_counts q (ap (λ (r : PortView). r.put_counts) h.1)
  counted_one _ answer p' w w' proper h q = unchanged p'.put_counts q (ap (λ (r : PortView). r.put_counts) h.0)

  pub counts_after : (l : Label) (answer : Stepped PortView WorldView) (p' : PortView) (w w' : WorldView) → IsProper l
      → Tells (plain_theory nodes) stamp cause leaf l answer p w p' w' → (q : ℕ)
      → slice_index p'.put_counts q ≡ length (values_put q (events (ls ++ l ∷ [])))
  counts_after l answer p' w w' proper h q = counted_one l answer p' w w' proper h q ∙ sym (puts_counted q ls l)

module _ (s : ScriptView) (w : WorldView) (held : List (Option HeldFiber)) (m : WholeMachine) (stands : StandsFor s w held m) (nodes : List Node)
    (f : ℕ) (lt : f < total s) (p : PortView) (own : p.number ≡ f) (stamp cause : ℕ) where
  -- the answers of the world are those of the whole machine
  answers_are_so : (leaf : Option Term) (l : Label) (answer : Stepped PortView WorldView) (p' : PortView) (w' : WorldView)
      → Tells (plain_theory nodes) stamp cause leaf l answer p w p' w' → IsAnswered s m f l
  answers_are_so leaf (Learns g o e) answer p' w' h = sym (stands.outcomes g) ∙ h.0
  answers_are_so leaf (Shows event.Seen) answer p' w' h = sym (stands.requested f lt) ∙ rw own at h.0
  answers_are_so leaf (Shows (event.Put q n)) answer p' w' h = sym (room_is s m w.queues stands.capacities stands.queues q) ∙ h.0
  answers_are_so leaf (Shows (event.Got q n)) answer p' w' h = ap front (sym (stands.queues q)) ∙ front_is n cause (queue_at w.queues q).items h.0
  answers_are_so leaf (Shows (event.Refused q)) answer p' w' h = sym (room_is s m w.queues stands.capacities stands.queues q) ∙ h.0
  answers_are_so leaf (Shows (event.Empty q)) answer p' w' h = sym (stands.queues q) ∙ ap elements_of h.0
  answers_are_so leaf _ answer p' w' h = tt

  -- a request that is there is seen, where a look is due
  looks_are_so : (due : Bool) (l : Label) → LooksBefore plain_calls due l p w → due ≡ true → m.requested f ≡ true → l ≡ Shows event.Seen
  looks_are_so true (Shows event.Seen) h due asked = refl
  looks_are_so true l h due asked = absurd (let e : true ≡ false = sym asked ∙ sym (stands.requested f lt) ∙ rw own at h.0 in cc)
  looks_are_so false l h due asked = absurd cc

  -- the left fiber of `first` is asked before the right one
  left_is_so : (l : Label) (leaf : Option Term) → PeeksLeft plain_calls l leaf p w → LooksLeftFirst m l leaf
  left_is_so (Learns g o (event.First (suc n))) (Some (First (Number h) k)) e = sym (stands.outcomes h) ∙ e.0
  left_is_so _ leaf e = tt

module _ (s : ScriptView) (w : WorldView) (held : List (Option HeldFiber)) (m : WholeMachine) (stands : StandsFor s w held m) (kept : IsKept s m)
    (nodes : List Node) (f : ℕ) (x : StartedFiber) (l : Label) (d : Counts) (q : Progress) (at : m.fibers f ≡ Some x)
    (st : Step x.counts x.progress l d q) (stamp cause : ℕ) (answer : Stepped PortView WorldView) (p p' : PortView) (w' : WorldView) (own : p.number ≡ f)
    (counted : (r : ℕ) → slice_index p.put_counts r ≡ length (values_put r (events x.labels)))
    (calls : Calls (plain_theory nodes) stamp cause (looks_first x.counts.known x.progress) (leaf_at x.progress) l answer p w p' w') where
  answered : IsAnswered s m f l
  answered = answers_are_so s w held m stands nodes f (kept.ranges.started_below f x at) p own stamp cause (leaf_at x.progress) l answer p' w' calls.told

  pub steps_so : FiberSteps s m f l (moved m f x l d q)
  steps_so =
      let lt = kept.ranges.started_below f x at in
      record {
        fiber = x;
        started = at;
        counts = d;
        progress = q;
        step = st;
        answered = answered;
        seen_first = looks_are_so s w held m stands nodes f lt p own stamp cause (looks_first x.counts.known x.progress) l calls.looked;
        after = refl;
      }

  pub chosen_so : ChosenStep s m f l (moved m f x l d q)
  unfolding steps_so
  chosen_so =
      let lt = kept.ranges.started_below f x at in
      record {
        can = steps_can s m f l (moved m f x l d q) steps_so;
        steps = steps_so;
        left_first = left_is_so s w held m stands nodes f lt p own stamp cause l (leaf_at x.progress) calls.left_first;
      }

  pub stands_so : StandsFor s w' (held_after f x l d q held) (moved m f x l d q)
  stands_so =
      rw (world_is nodes stamp cause (leaf_at x.progress) f x.labels p own counted l answer p' w w' calls.told)
      (stands_after s w held m stands kept f x d q at stamp l st answered)
