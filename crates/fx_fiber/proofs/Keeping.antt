-- A step keeps what a fiber's type says.
use Rattle.std.proofs.Common.{◌≡◌, ℕ, ◌+◌, ◌^◌, ◌<◌, ◌≤◌, true, false, Option, List, [], ◌∷◌, ◌++◌, max, refl, sym, ◌∙◌, ap, subst, arith}
use Rattle.std.proofs.Common.{append_assoc, append-nil}
use Rattle.fx_term.specs.declared.node.Node.{Node}
use Rattle.fx_term.specs.declared.event.Event.{Event}
use Rattle.fx_term.specs.declared.stamped.Stamped.{Stamped}
use Rattle.fx_term.specs.Stamped.{events_in, stamps_in}
use Rattle.fx_term.specs.declared.event.Event.TheVariants as event
use Rattle.fx_term.specs.declared.begin.Begin.{Begin}
use Rattle.fx_term.specs.declared.outcome.Outcome.{Outcome}
use Rattle.fx_term.specs.Term.{Term}
use Rattle.fx_model.specs.Row.{Counts, range_of, Label, Shows}
use Rattle.fx_model.specs.Step.{Progress, Runs, has_ended, Step}
use Rattle.fx_model.specs.Run.{events}
use Rattle.fx_model.specs.Stamps.{one_more}
use Rattle.fx_model.specs.Origin.{origin_of}
use Rattle.fx_fiber.specs.declared.machine.Machine.{Machine}
use Rattle.fx_fiber.specs.declared.machine.made.Made.{Made}
use Rattle.fx_fiber.specs.declared.machine.made.Made.TheVariants as made
use Rattle.fx_fiber.specs.declared.stepped.Stepped.TheVariants.{Went}
use Rattle.fx_fiber.specs.Deed.{Deed, Ended, AreDeedsOf, AreDeeds}
use Rattle.fx_fiber.specs.StampedDeed.{StampedDeed, deeds_of, numbered}
use Rattle.fx_fiber.specs.StampedRun.{next_stamp, IsUncaused, last_of, stamped_event, stamp_of_event, clock_after}
use Rattle.fx_fiber.specs.Machine.{progress_of, counts_of}
use Rattle.fx_fiber.specs.Sound.{IsSoundMachine}
use Rattle.fx_fiber.specs.Body.{IsFirstMachine}
use Rattle.fx_model.specs.Work.{work_left}
use Rattle.fx_model.specs.PutsLeft.{puts_of, puts_with}
use Rattle.fx_fiber.specs.Made.{label_of, deeds_made}
use Rattle.fx_fiber.specs.Places.{IsSame}
use Rattle.fx_fiber.specs.Makes.{Steps}
use Rattle.fx_fiber.specs.Advances.{Advances}
use Rattle.fx_fiber.specs.PortFacts.{Facts, first_facts}
use Rattle.fx_fiber.specs.Theory.{Theory, HasDone}
use Rattle.fx_fiber.specs.MakesStep.{Answers}
use Rattle.fx_fiber.specs.Fiber.{is_fiber_number, IsKept}
use Rattle.fx_model.proofs.Runs.{leads_on, events_append}
use Rattle.fx_model.proofs.Work.{step_work}
use Rattle.fx_model.proofs.Ends.{shows_end, ended_after}
use Rattle.fx_model.proofs.Ranges.{step_keeps_range}
use Rattle.std.proofs.lemmas.Bool.{lt-ltb}
use Rattle.fx_model.specs.NeedLeft.{need_left, HasRoom}
use Rattle.fx_model.specs.Scopes.{IsScopedOver}
use Rattle.fx_model.proofs.RangeLaws.{step_need}
use Rattle.fx_model.proofs.ScopedRuns.{GivesTaken, step_over}
use Rattle.fx_model.proofs.StepLabels.{step_tells}
use Rattle.fx_fiber.proofs.StampedRuns.{events_more, stamps_more, clock_more, deeds_append, deeds_numbered, AllBeginWith, stamped_more}

-- one more step, with its deeds
deeds_more : (nodes : List Node) (ls : List Label) (ds : List Deed) (l : Label) (es : List Deed) → AreDeeds nodes ls ds → AreDeedsOf nodes l es
    → AreDeeds nodes (ls ++ l ∷ []) (ds ++ es)
deeds_more nodes [] ds l es h k = (es, [], k, refl, rw h (sym (append-nil es)))
deeds_more nodes (m ∷ ls) ds l es h k = (h.0, h.1 ++ es, h.2, deeds_more nodes ls h.1 l es h.3 k, rw h.4 (append_assoc h.0 h.1 es))

puts_more : (l : Label) (puts : ℕ) → puts_with l puts ≡ puts + puts_of l
puts_more (Shows (event.Put q n)) puts = omega arith
puts_more _ puts = omega arith

-- the numbers that a step takes in a range that fits a word are numbers of fibers
pub taken_fit : {c d : Counts} {p q : Progress} {l : Label} → Step c p l d q → c.next + need_left p ≤ c.end → c.end < 2 ^ 32
    → GivesTaken is_fiber_number c d
taken_fit step room word f low high = let n = step_need step in lt-ltb f (2 ^ 32) (omega arith)

-- One more step, after which the port has these facts. The clock was this, and the stamp of the step's cause that
pub kept_step : {P S : Type 0} (theory : Theory P S) (p p' : P) (trace trace' : List Stamped) (clock clock' cause : ℕ) (s s' : Machine) (l : Label)
    (es : List Deed) → AreDeedsOf theory.code l es → AllBeginWith (next_stamp clock cause) es → (IsUncaused l → cause ≡ 0)
    → IsKept theory p trace clock s → Steps theory.code s l s' → IsSoundMachine theory.code s'
    → trace' ≡ trace ++ stamped_event (next_stamp clock cause) l → clock' ≡ clock_after l (max clock cause)
    → ((ds : List StampedDeed) → theory.agrees p ds → theory.agrees p' (ds ++ numbered (next_stamp clock cause) cause es))
    → (theory.facts p').beginning ≡ (theory.facts p).beginning → (theory.facts p').has_finished ≡ shows_end l
    → (theory.facts p').range ≡ range_of (counts_of s') → (theory.facts p').puts ≡ puts_with l (theory.facts p).puts → IsKept theory p' trace' clock' s'
kept_step theory p p' trace trace' clock clock' cause s s' l es are begin none k step sound t ticks go same_begin f numbers counted = record {
  sound = sound;
  lawful = record {
    labels = k.lawful.labels ++ l ∷ [];
    run = rw same_begin (leads_on _ _ k.lawful.labels _ _ l _ _ k.lawful.run step);
    traced = events_append k.lawful.labels (l ∷ []) ∙ ap (λ (es : List Event). es ++ events (l ∷ [])) k.lawful.traced
        ∙ sym (ap events_in t ∙ events_more trace (next_stamp clock cause) l);
    deeds = k.lawful.deeds ++ numbered (next_stamp clock cause) cause es;
    are_deeds =
        let sum : deeds_of (k.lawful.deeds ++ numbered (next_stamp clock cause) cause es) ≡ deeds_of k.lawful.deeds ++ es =
        deeds_append k.lawful.deeds (numbered (next_stamp clock cause) cause es)
        ∙ ap (λ (ds : List Deed). deeds_of k.lawful.deeds ++ ds) (deeds_numbered (next_stamp clock cause) cause es) in
        rw sum (deeds_more theory.code k.lawful.labels (deeds_of k.lawful.deeds) l es k.lawful.are_deeds are);
    causes = k.lawful.causes ++ stamp_of_event cause l;
    stamped =
        let now : stamps_in trace' ≡ stamps_in trace ++ stamp_of_event (next_stamp clock cause) l =
        ap stamps_in t ∙ stamps_more trace (next_stamp clock cause) l in
        rw (same_begin, now) (stamped_more theory.code (theory.facts p).beginning.stamp clock cause k.lawful.labels (stamps_in trace) k.lawful.causes
        k.lawful.deeds es k.lawful.stamped k.clocked begin l are none);
    agreed = go k.lawful.deeds k.lawful.agreed;
  };
  clocked =
      ticks ∙ clock_more l (theory.facts p).beginning.stamp clock cause (stamps_in trace) none k.clocked
      ∙ ap (last_of (theory.facts p).beginning.stamp) (sym (ap stamps_in t ∙ stamps_more trace (next_stamp clock cause) l))
      ∙ ap (λ (b : Begin). last_of b.stamp (stamps_in trace')) (sym same_begin);
  countable = let works = step_work step in let q = k.countable in let r = counted ∙ puts_more l (theory.facts p).puts in omega arith;
  scoped = (step_over is_fiber_number step (taken_fit step k.room k.word) k.scoped).0;
  room = let n = step_need step in let e = (step_tells step).end in let r = k.room in omega arith;
  word = let e = (step_tells step).end in let w = k.word in omega arith;
  within = let e = (step_tells step).end in let w = k.within in omega arith;
  ended = f ∙ sym (ended_after step);
  numbers = numbers;
}

-- a fiber that has come no further
pub kept_same : {P S : Type 0} (theory : Theory P S) (p : P) (trace trace' : List Stamped) (clock clock' : ℕ) (s s' : Machine) → IsKept theory p trace clock s
    → IsSame theory.code s s' → trace' ≡ trace → clock' ≡ clock → IsKept theory p trace' clock' s'
kept_same theory p trace trace' clock clock' s s' k same t stays = record {
  sound = same.sound;
  lawful = record {
    labels = k.lawful.labels;
    run = rw (same.counts, same.progress) k.lawful.run;
    traced = k.lawful.traced ∙ sym (ap events_in t);
    deeds = k.lawful.deeds;
    are_deeds = k.lawful.are_deeds;
    causes = k.lawful.causes;
    stamped = rw t k.lawful.stamped;
    agreed = k.lawful.agreed;
  };
  clocked = stays ∙ k.clocked ∙ sym (ap (λ (ts : List Stamped). last_of (theory.facts p).beginning.stamp (stamps_in ts)) t);
  countable =
      let masks : s'.masks.entries ≡ s.masks.entries = ap (λ (c : Counts). c.masks) same.counts in
      let acquired : s'.acquired ≡ s.acquired = ap (λ (c : Counts). c.acquired) same.counts in
      rw (masks, acquired, same.progress) k.countable;
  scoped = rw same.progress k.scoped;
  room =
      let next : s'.next ≡ s.next = ap (λ (c : Counts). c.next) same.counts in
      let end : s'.end ≡ s.end = ap (λ (c : Counts). c.end) same.counts in
      rw (next, end, same.progress) k.room;
  word = let end : s'.end ≡ s.end = ap (λ (c : Counts). c.end) same.counts in rw end k.word;
  within = let end : s'.end ≡ s.end = ap (λ (c : Counts). c.end) same.counts in rw end k.within;
  ended = rw same.progress k.ended;
  numbers = k.numbers ∙ sym (ap range_of same.counts);
}

pub are_deeds_made : (nodes : List Node) (m : Made) → shows_end (label_of m) ≡ false → AreDeedsOf nodes (label_of m) (deeds_made m)
are_deeds_made nodes (made.Shows (event.Ended o)) on = absurd (let no : true ≡ false = on in cc)
are_deeds_made nodes (made.Shows _) on = refl
are_deeds_made nodes (made.Learns f o e) on = refl
are_deeds_made nodes _ on = refl

-- a fiber before its first step
pub kept_at_first : {P S : Type 0} (theory : Theory P S) (p : P) (trace : List Stamped) (clock : ℕ) (s : Machine)
    → work_left (Runs (origin_of theory.code (theory.facts p).beginning).term) < 2 ^ 63
    → IsScopedOver is_fiber_number (origin_of theory.code (theory.facts p).beginning).term
    → HasRoom (origin_of theory.code (theory.facts p).beginning) → (theory.facts p).beginning.end < 2 ^ 32 → (theory.facts p).beginning.end ≤ theory.total
    → theory.agrees p [] → theory.facts p ≡ first_facts (theory.facts p).number (theory.facts p).beginning → trace ≡ []
    → clock ≡ (theory.facts p).beginning.stamp → IsFirstMachine theory.code (theory.facts p).beginning s → IsKept theory p trace clock s
kept_at_first theory p trace clock s few over room word within a fresh t begun first = record {
  sound = first.sound;
  lawful = record {
    labels = [];
    run = (first.counts, first.progress);
    traced = sym (ap events_in t);
    deeds = [];
    are_deeds = refl;
    causes = [];
    stamped = rw t refl;
    agreed = a;
  };
  clocked = begun ∙ sym (ap (λ (ts : List Stamped). last_of (theory.facts p).beginning.stamp (stamps_in ts)) t);
  countable =
      let masks : s.masks.entries ≡ 0 = ap (λ (c : Counts). c.masks) first.counts in
      let acquired : s.acquired ≡ 0 = ap (λ (c : Counts). c.acquired) first.counts in
      let puts : (theory.facts p).puts ≡ 0 = ap (λ (f : Facts). f.puts) fresh in
      rw (masks, acquired, puts, first.progress) (omega arith);
  scoped = rw first.progress over;
  room =
      let next : s.next ≡ (theory.facts p).beginning.next = ap (λ (c : Counts). c.next) first.counts in
      let end : s.end ≡ (theory.facts p).beginning.end = ap (λ (c : Counts). c.end) first.counts in
      rw (next, end, first.progress) room;
  word = let end : s.end ≡ (theory.facts p).beginning.end = ap (λ (c : Counts). c.end) first.counts in rw end word;
  within = let end : s.end ≡ (theory.facts p).beginning.end = ap (λ (c : Counts). c.end) first.counts in rw end within;
  ended = ap (λ (f : Facts). f.has_finished) fresh ∙ rw first.progress refl;
  numbers = ap (λ (f : Facts). f.range) fresh ∙ sym (ap range_of first.counts);
}

-- what is made by a machine starts no fiber
made_keeps_range : {c d : Counts} {p q : Progress} (m : Made) → Step c p (label_of m) d q → range_of d ≡ range_of c
made_keeps_range (made.Shows e) step = step_keeps_range step refl
made_keeps_range (made.Learns f o e) step = step_keeps_range step refl
made_keeps_range made.Silent step = step_keeps_range step refl
made_keeps_range made.Yielded step = step_keeps_range step refl
made_keeps_range (made.Waits w) step = step_keeps_range step refl
made_keeps_range (made.Starts h a b) step = step_keeps_range step refl

-- what is made by a machine begins no fiber
begins_made : (own : ℕ) (m : Made) → AllBeginWith own (deeds_made m)
begins_made own (made.Shows (event.Request f)) = (tt, tt)
begins_made own (made.Shows (event.Put q n)) = (tt, tt)
begins_made own (made.Shows (event.Got q n)) = (tt, tt)
begins_made own (made.Shows (event.Refused q)) = (tt, tt)
begins_made own (made.Shows (event.Empty q)) = (tt, tt)
begins_made own (made.Shows event.Seen) = (tt, tt)
begins_made own (made.Shows _) = tt
begins_made own (made.Learns f o e) = (tt, tt)
begins_made own _ = tt

module _ {P S : Type 0} (theory : Theory P S) (p p' : P) (sh sh' : S) (trace trace' : List Stamped) (clock raised clock' : ℕ) (s s' : Machine)
    (kept : IsKept theory p trace clock s) where
  -- a step that was not the last keeps the fiber
  pub kept_going : (m : Made) → has_ended (progress_of theory.code s) ≡ false → Advances theory clock s p sh m raised s' p' sh'
      → Steps theory.code s (label_of m) s' → shows_end (label_of m) ≡ false → trace' ≡ trace ++ stamped_event (one_more raised) (label_of m)
      → clock' ≡ clock_after (label_of m) raised → IsKept theory p' trace' clock' s'
  kept_going m going a step on t ticks =
      kept_step theory p p' trace trace' clock clock' a.cause s s' (label_of m) (deeds_made m) (are_deeds_made theory.code m on)
      (begins_made (next_stamp clock a.cause) m) a.raises.none
      kept step a.sound (rw a.raises.raised at t) (rw a.raises.raised at ticks) a.agreed (ap (λ (f : Facts). f.beginning) a.facts_are)
      (ap (λ (f : Facts). f.has_finished) a.facts_are ∙ kept.ended ∙ going ∙ sym on)
      (ap (λ (f : Facts). f.range) a.facts_are ∙ kept.numbers ∙ sym (made_keeps_range m step)) (ap (λ (f : Facts). f.puts) a.facts_are)

  -- so does the last one
  pub kept_ended : (o : Outcome) (p'' : P) → Advances theory clock s p sh (made.Shows (event.Ended o)) raised s' p' sh'
      → theory.facts p'' ≡ record (theory.facts p') { has_finished = true } → HasDone theory (Ended o) (one_more raised) p' p''
      → trace' ≡ trace ++ stamped_event (one_more raised) (Shows (event.Ended o)) → clock' ≡ one_more raised → IsKept theory p'' trace' clock' s'
  kept_ended o p'' a told tells t ticks =
      let go : HasDone theory (Ended o) (next_stamp clock a.cause) p' p'' =
      subst (λ (n : ℕ). HasDone theory (Ended o) (one_more n) p' p'') a.raises.raised tells in
      kept_step theory p p'' trace trace' clock clock' a.cause s s' (Shows (event.Ended o)) (Ended o ∷ []) refl (tt, tt) a.raises.none
      kept a.rule a.sound (rw a.raises.raised at t) (rw a.raises.raised at ticks) (λ ds h. go ds (rw a.asks.1.0 h))
      (ap (λ (f : Facts). f.beginning) told ∙ ap (λ (f : Facts). f.beginning) a.facts_are) (ap (λ (f : Facts). f.has_finished) told)
      (ap (λ (f : Facts). f.range) told ∙ ap (λ (f : Facts). f.range) a.facts_are ∙ kept.numbers ∙ sym (made_keeps_range (made.Shows (event.Ended o)) a.rule))
      (ap (λ (f : Facts). f.puts) told ∙ ap (λ (f : Facts). f.puts) a.facts_are)

-- a step that shows an event, and is not the last, went on, wherever it was made
pub answer_went : (P S : Type 0) (nodes : List Node) (leaf : Option Term) (e : Event) → shows_end (Shows e) ≡ false
    → Answers {P = P} {S = S} nodes leaf (Shows e) Went
answer_went P S nodes leaf (event.Ended o) on = absurd (let no : true ≡ false = on in cc)
answer_went P S nodes leaf _ on = refl
