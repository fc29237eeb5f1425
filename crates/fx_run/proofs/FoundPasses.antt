-- What the passes of a run's fibers had found at each refusal, and handed out with each start.
use Rattle.std.proofs.Common.{◌≡◌, ℕ, zero, suc, ◌<◌, ◌≤◌, Option, Some, None, List, [], ◌∷◌, ◌++◌, length, map, slice_get, refl, sym, ◌∙◌, ap, subst}
use Rattle.std.proofs.Common.{inl, inr, ◌⊎◌, arith}
use Rattle.std.specs.Prelude.{slice_index}
use Rattle.std.proofs.lemmas.List.{get_or_past, length-map}
use Rattle.std.proofs.lemmas.List.Elements.{filter_map-append}
use Rattle.fx_term.specs.Lists.{Among}
use Rattle.fx_term.specs.declared.begin.Begin.{Begin}
use Rattle.fx_term.specs.declared.node.Node.{Node}
use Rattle.fx_term.specs.declared.event.Event.{Event}
use Rattle.fx_term.specs.declared.event.Event.TheVariants as event
use Rattle.fx_term.specs.Element.{Element}
use Rattle.fx_term.specs.declared.queue_event.QueueEvent.{QueueEvent}
use Rattle.fx_term.specs.Queue.{queue_events, cut, Leaves}
use Rattle.fx_term.specs.Script.{ScriptView, total}
use Rattle.fx_term.proofs.LeavesLaws.{leaves_nothing}
use Rattle.fx_model.specs.Report.{capacity_of}
use Rattle.fx_fiber.specs.Deed.{Deed, Started, queue_deed, queue_deeds}
use Rattle.fx_fiber.specs.StampedDeed.{deeds_of}
use Rattle.fx_word.specs.Words as word
use Rattle.fx_queue.specs.declared.entry.Entry.{Entry}
use Rattle.fx_queue.specs.declared.entry.Handed.{Handed}
use Rattle.fx_queue.specs.declared.pass_view.PassView.{PassView}
use Rattle.fx_queue.specs.History.{Begins}
use Rattle.fx_queue.specs.Queues.{QueueId, HeldPass}
use Rattle.fx_port.specs.PassesAgree.{Refusal, Full, Empty, held_at, WasFound, HasRefused, IsBacked, acts_by}
use Rattle.fx_port.proofs.RunLaws.{queue_at, numbers_are}
use Rattle.fx_run.specs.declared.gathered.Gathered.{Gathered}
use Rattle.fx_run.specs.FiberAndPort.{FiberAndPort, entry_by, entry_at}
use Rattle.fx_run.specs.Gathered.{IsGathered}
use Rattle.fx_run.specs.RanFiber.{RanFiber, ran_at}
use Rattle.fx_run.specs.Refusals.{refused, held}
use Rattle.fx_run.proofs.GivenFibers.{id_at}
use Rattle.fx_run.proofs.EndLaws.{parted, whose, capacity_at}
use Rattle.fx_run.proofs.TracedDeeds.{found_so, FoundAt, found_at, started_at}

-- nothing comes before the end of an empty list
pub none_before : {A : Type 0} (xs ys : List A) → xs ++ ys ≡ [] → xs ≡ []
none_before [] ys e = refl
none_before (x ∷ xs) ys e = let z : ⊥ = cc in absurd z

inside : {A : Type 0} (xs : List A) (k : ℕ) (x : A) → slice_get xs k ≡ Some x → k < length xs
inside [] k x e = let z : ⊥ = cc in absurd z
inside (y ∷ xs) zero x e = omega arith
inside (y ∷ xs) (suc k) x e = let lt = inside xs k x e in omega (arith, lt)

past_of : {A : Type 0} (xs : List A) (k : ℕ) → slice_get xs k ≡ None → length xs ≤ k
past_of [] k e = omega arith
past_of (x ∷ xs) zero e = let z : ⊥ = cc in absurd z
past_of (x ∷ xs) (suc k) e = let le = past_of xs k e in omega (arith, le)

held_is : (k : Refusal) (v : PassView) → held_at k v ≡ held k v.cap
held_is Full v = refl
held_is Empty v = refl

held_nothing : (k : Refusal) → 0 ≡ held k 0
held_nothing Full = refl
held_nothing Empty = refl

backed_by : (k : Refusal) (f q : ℕ) (passes : List HeldPass) (earlier : List Deed) → IsBacked f passes earlier (found_so k q)
    → HasRefused (slice_get passes q) k (queue_deeds q f earlier)
backed_by Full f q passes earlier h = h
backed_by Empty f q passes earlier h = h

-- what a pass had found at one moment at queue q, after these events of its fiber
pub record FoundBy (s : ScriptView) (k : Refusal) (q f : ℕ) (e : Entry) (before : List Event) : Type 0 where
  pub log : List QueueEvent
  pub items : List Element
  pub seen : List QueueEvent
  pub legal : Leaves (capacity_of s q) log items
  pub found : length items ≡ held k (capacity_of s q)
  pub begins : Begins log seen
  pub since : (q < length s.capacities) × Begins e.seen seen ⊎ (seen ≡ [])
  pub begun : Begins seen e.began
  pub known : cut f seen ≡ queue_events q f before
  pub cuts : cut f log ≡ queue_events q f before
  pub within : (g : ℕ) → total s ≤ g → cut g log ≡ []
  pub lone : f ≡ 0 → e.parts ≡ [] → log ≡ queue_events q f before

found_by_pass : (s : ScriptView) (k : Refusal) (q f : ℕ) (v : PassView) (done : List QueueEvent) (before : List Event) → v.own.id ≡ f → v.taken ≡ []
    → v.cap ≡ capacity_of s q → v.fibers ≡ total s → q < length s.capacities
    → done ≡ queue_events q f before → WasFound v (held_at k v) done → FoundBy s k q f v.own before
found_by_pass s k q f v done before own none cap many below same w = record {
  log = w.log;
  items = w.items;
  seen = w.seen;
  legal = subst (λ (c : ℕ). Leaves c w.log w.items) cap w.legal;
  found = w.found ∙ held_is k v ∙ ap (held k) cap;
  begins = w.begins;
  since = inl (below, w.since);
  begun = w.begun;
  known = ap (λ (i : ℕ). cut i w.seen) (sym own) ∙ (w.known ∙ same);
  cuts = ap (λ (i : ℕ). cut i w.log) (sym own) ∙ (w.cuts ∙ same);
  within = λ g le. w.within g (subst (λ (n : ℕ). n ≤ g) (sym many) le);
  lone = λ main parts. w.lone (own ∙ main, parts, none) ∙ same;
}

-- a queue that there is not
found_nowhere : (s : ScriptView) (k : Refusal) (q f : ℕ) (before : List Event) → capacity_of s q ≡ 0 → queue_events q f before ≡ []
    → FoundBy s k q f (entry_by f None) before
found_nowhere s k q f before small none = record {
  log = [];
  items = [];
  seen = [];
  legal = leaves_nothing (capacity_of s q);
  found = held_nothing k ∙ ap (held k) (sym small);
  begins = ([], refl);
  since = inr refl;
  begun = ([], refl);
  known = sym none;
  cuts = sym none;
  within = λ g le. refl;
  lone = λ main parts. sym none;
}

-- what the passes of fibers had found that were parted from their ports
abbrev pub AllFound : ScriptView → List RanFiber → Type 0
AllFound s ps = (f : ℕ) (p : RanFiber) → ran_at ps f ≡ Some p → (k : Refusal) (q : ℕ) (before after : List Event)
    → p.bare.trace ≡ before ++ refused k q ∷ after → FoundBy s k q f (p.passes q) before

module _ (nodes : List Node) (words : word.WordsId) (queues : List QueueId) (s : ScriptView)
    (fibers : words.fibers ≡ total s) (capacities : map (λ (i : QueueId). i.cap) queues ≡ s.capacities) where
  its_capacity : (q : ℕ) (i : QueueId) → slice_get queues q ≡ Some i → i.cap ≡ capacity_of s q
  its_capacity q i at = sym (capacity_at queues q i at) ∙ ap (λ l. slice_index l q) capacities

  as_many : length queues ≡ length s.capacities
  as_many = sym (length-map queues (λ (i : QueueId). i.cap)) ∙ ap length capacities

  no_capacity : (q : ℕ) → length queues ≤ q → capacity_of s q ≡ 0
  no_capacity q le = let many = as_many in get_or_past s.capacities q 0 (omega (arith, le, many))

  found_of : (a : FiberAndPort nodes words queues) (k : Refusal) (q : ℕ) (before after : List Event) → a.bare.trace ≡ before ++ refused k q ∷ after
      → FoundBy s k q a.port.words.own.id (entry_at q a.port) before
  found_of a k q before after is = by_pass (slice_get a.port.passes q) refl (backed_by k f q a.port.passes at.earlier backed)
    where
      f : ℕ
      f = a.port.words.own.id

      at : FoundAt (deeds_of a.lawful.deeds) (found_so k q) f before
      at = found_at a.bare.nodes f k q _ a.bare.counts _ _ a.lawful.labels (deeds_of a.lawful.deeds) a.lawful.run a.lawful.are_deeds before after
          (a.lawful.traced ∙ is)

      backed : IsBacked f a.port.passes at.earlier (found_so k q)
      backed = a.lawful.agreed.passes.refusals at.earlier at.later (found_so k q) at.is

      by_pass : (o : Option HeldPass) → slice_get a.port.passes q ≡ o → HasRefused o k (queue_deeds q f at.earlier) → FoundBy s k q f (entry_by f o) before
      by_pass None there h =
          let many = a.of_run.passes.as_many in
          let le = past_of a.port.passes q there in
          let all = a.lawful.agreed.passes.acts q ∙ ap acts_by there in
          let none = none_before (queue_deeds q f at.earlier) (queue_deeds q f (found_so k q ∷ at.later))
          (sym (filter_map-append (queue_deed q f) at.earlier (found_so k q ∷ at.later)) ∙ (ap (queue_deeds q f) (sym at.is) ∙ all)) in
          found_nowhere s k q f before (no_capacity q (omega (arith, many, le))) (sym (at.same q) ∙ none)
      by_pass (Some pass) there h =
          let i = queue_at queues a.port.passes q pass a.of_run.passes.as_many there in
          let own = numbers_are f a.port.words.own.next a.port.words.own.end queues a.port.passes a.of_run.passes q pass there in
          let each = a.of_run.passes.each q pass i.0 there i.1 in
          let lt = inside queues q i.0 i.1 in
          let many = as_many in
          found_by_pass s k q f pass.view (queue_deeds q f at.earlier) before own each.4 (each.0.1 ∙ its_capacity q i.0 i.1)
          (each.5 ∙ a.of_run.alike q i.0 i.1 ∙ fibers) (omega (arith, lt, many)) (at.same q) h

  pub all_found : (g : Gathered) (h : IsGathered nodes words queues g) → AllFound s (parted nodes words queues g h)
  all_found g h f p at k q before after is =
      let t = whose nodes words queues g h f p at in
      let a = t.0 in
      let number : a.port.words.own.id ≡ f =
      sym a.number ∙ (ap (λ (x : RanFiber). x.bare.id) (sym t.2) ∙ id_at (parted nodes words queues g h) f p at) in
      let here = found_of a k q before after (ap (λ (x : RanFiber). x.bare.trace) (sym t.2) ∙ is) in
      subst (λ (e : Entry). FoundBy s k q f e before) (ap (λ (x : RanFiber). x.passes q) (sym t.2))
      (subst (λ (i : ℕ). FoundBy s k q i (entry_at q a.port) before) number here)

-- and what the passes of fibers handed out with each start
abbrev pub AllHanded : ScriptView → List RanFiber → Type 0
AllHanded s ps = (g : ℕ) (p : RanFiber) → ran_at ps g ≡ Some p → (f : ℕ) (before after : List Event) → p.bare.trace ≡ before ++ event.Start f ∷ after
    → (q : ℕ) → q < length s.capacities → (h : Handed) × Among h (p.passes q).handed × (h.id ≡ f) × (cut g h.seen ≡ queue_events q g before)

module _ (nodes : List Node) (words : word.WordsId) (queues : List QueueId) (s : ScriptView)
    (capacities : map (λ (i : QueueId). i.cap) queues ≡ s.capacities) where
  handed_of : (a : FiberAndPort nodes words queues) (f : ℕ) (before after : List Event) → a.bare.trace ≡ before ++ event.Start f ∷ after → (q : ℕ)
      → q < length s.capacities
      → (h : Handed) × Among h (entry_at q a.port).handed × (h.id ≡ f) × (cut a.port.words.own.id h.seen ≡ queue_events q a.port.words.own.id before)
  handed_of a f before after is q lt = by_pass (slice_get a.port.passes q) refl
    where
      g : ℕ
      g = a.port.words.own.id

      at : (b : Begin) × FoundAt (deeds_of a.lawful.deeds) (Started f b) g before
      at = started_at a.bare.nodes g f _ a.bare.counts _ _ a.lawful.labels (deeds_of a.lawful.deeds) a.lawful.run a.lawful.are_deeds before after
          (a.lawful.traced ∙ is)

      by_pass : (o : Option HeldPass) → slice_get a.port.passes q ≡ o
          → (h : Handed) × Among h (entry_by g o).handed × (h.id ≡ f) × (cut g h.seen ≡ queue_events q g before)
      by_pass None there =
          let many = a.of_run.passes.as_many in
          let le = past_of a.port.passes q there in
          let long = sym (length-map queues (λ (i : QueueId). i.cap)) ∙ ap length capacities in
          absurd (omega (arith, lt, le, many, long))
      by_pass (Some pass) there =
          let h = a.lawful.agreed.passes.handed at.1.earlier at.1.later f at.0 at.1.is q pass there in
          (h.0, h.1, h.2, h.3 ∙ at.1.same q)

  pub all_handed : (g : Gathered) (h : IsGathered nodes words queues g) → AllHanded s (parted nodes words queues g h)
  all_handed g h i p at f before after is q lt =
      let t = whose nodes words queues g h i p at in
      let a = t.0 in
      let number : a.port.words.own.id ≡ i =
      sym a.number ∙ (ap (λ (x : RanFiber). x.bare.id) (sym t.2) ∙ id_at (parted nodes words queues g h) i p at) in
      let x = handed_of a f before after (ap (λ (x : RanFiber). x.bare.trace) (sym t.2) ∙ is) q lt in (
        x.0,
        subst (λ (e : Entry). Among x.0 e.handed) (ap (λ (y : RanFiber). y.passes q) (sym t.2)) x.1,
        x.2,
        subst (λ (n : ℕ). cut n x.0.seen ≡ queue_events q n before) number x.3,
      )
