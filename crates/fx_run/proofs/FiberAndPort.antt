-- A fiber that was parted from its port on threads is what the laws of reports ask for.
use Rattle.std.proofs.Common.{◌≡◌, ℕ, Bool, true, Option, Some, None, List, slice_get, refl, sym, ◌∙◌, ap, subst, inl, inr, ⊎_elim}
use Rattle.std.proofs.lemmas.Option.{same_Some, none-some}
use Rattle.fx_term.specs.Lists.{Among}
use Rattle.fx_term.specs.declared.node.Node.{Node}
use Rattle.fx_term.specs.declared.begin.Begin.{Begin}
use Rattle.fx_term.specs.declared.event.Event.{Event}
use Rattle.fx_model.specs.Row.{Counts}
use Rattle.fx_model.specs.Step.{Progress}
use Rattle.fx_fiber.specs.Deed.{Deed, Started}
use Rattle.fx_fiber.specs.StampedDeed.{StampedDeed, deeds_of}
use Rattle.fx_fiber.specs.Bare.{BareView, reached}
use Rattle.fx_fiber.specs.Fiber.{FiberView, IsLawful}
use Rattle.fx_word.specs.Words.{WordsId}
use Rattle.fx_queue.specs.Queues.{QueueId, HeldPass}
use Rattle.fx_port.specs.Marks.{is_marked}
use Rattle.fx_port.specs.PassesAgree.{started_by, starts, acts_by, stamps_by, PassesAgree}
use Rattle.fx_port.specs.PortView.{PortView, IsOfRun, beginning_in}
use Rattle.fx_port.specs.ThreadCalls.{ThreadAgrees}
use Rattle.fx_port.proofs.RunLaws.{numbers_are}
use Rattle.fx_run.specs.Agreement.{QueueAgrees, StampedPortAgrees}
use Rattle.fx_run.specs.FiberAndPort.{FiberAndPort, without_port, entry_by, entry_at}
use Rattle.fx_run.specs.RanFiber.{RanFiber}
use Rattle.fx_run.proofs.Members.{source}

start_is : (d : Deed) (g : ℕ) → started_by d ≡ Some g → (b : Begin) × (Started g b ≡ d)
start_is (Started h b) g e = (b, ap (λ (n : ℕ). Started n b) (sym (same_Some h g e)))
start_is _ g e = absurd (none-some g e)

-- a fiber that the deeds start
pub started_so : (ds : List Deed) (g : ℕ) → Among g (starts ds) → (b : Begin) × Among (Started g b) ds
started_so ds g i =
    let s = source started_by ds g i in
    let t = start_is s.item g s.gives in
    (t.0, subst (λ (d : Deed). Among d ds) (sym t.1) s.among)

module _ (words : WordsId) (queues : List QueueId) (may : ℕ → Bool) (p : PortView) (of_run : IsOfRun words queues may p) where
  -- a queue's pass knows what its fiber did there, and where there is no such queue its fiber did nothing there
  queue_agrees : (ds : List Deed) → PassesAgree p.words.own.id p.passes ds → (q : ℕ) → QueueAgrees q p.words.own.id (entry_at q p) ds
  queue_agrees ds h q = by_pass (slice_get p.passes q) refl
    where
      by_pass : (o : Option HeldPass) → slice_get p.passes q ≡ o → QueueAgrees q p.words.own.id (entry_by p.words.own.id o) ds
      by_pass None is = record { number = refl; acts = sym (h.acts q ∙ ap acts_by is); parts = λ g i. absurd i }
      by_pass (Some s) is = record {
        number = numbers_are p.words.own.id p.words.own.next p.words.own.end queues p.passes of_run.passes q s is;
        acts = sym (h.acts q ∙ ap acts_by is);
        parts = λ g i. started_so ds g (subst (Among g) (h.parts q s is) i);
      }

  pub agrees_so : (ds : List StampedDeed) → ThreadAgrees p ds
      → StampedPortAgrees p.words.own.id p.words.own (is_marked p.noted) (λ q. entry_at q p) ds
  agrees_so ds h = record {
    plain = record {
      words_agree = record {
        number = refl;
        started = λ g b i. (h.words.started g b).1 i;
        parts = λ g b i. (h.words.started g b).0 i;
        asked = λ g i. ⊎_elim (λ t. inl t.1) inr ((h.words.asked g).0 i);
        saw = h.words.saw.1;
        found = λ g o i. (h.words.found g o).1 i;
        ended = λ o e. (h.words.ended o).0 e;
      };
      queues_agree = queue_agrees (deeds_of ds) h.passes;
    };
    stamps_agree = record {
      asked = h.words_stamps.asked;
      saw = h.words_stamps.saw;
      found = h.words_stamps.found;
      ended = h.words_stamps.ended;
    };
    queue_stamps = λ q. by_pass (slice_get p.passes q) ∙ sym (h.passes_stamps.stamps q);
  }
    where
      by_pass : (o : Option HeldPass) → (entry_by p.words.own.id o).stamps ≡ stamps_by o
      by_pass None = refl
      by_pass (Some s) = refl

-- a port that agrees with less is as lawful
pub lawful_as : {A B : List StampedDeed → Type 0} (nodes : List Node) (begin : Begin) (trace : List Event) (stamps : List ℕ) (counts : Counts)
    (progress : Progress) → ((ds : List StampedDeed) → A ds → B ds) → IsLawful nodes begin A trace stamps counts progress
    → IsLawful nodes begin B trace stamps counts progress
lawful_as nodes begin trace stamps counts progress weaker h = record {
  labels = h.labels;
  run = h.run;
  traced = h.traced;
  deeds = h.deeds;
  are_deeds = h.are_deeds;
  causes = h.causes;
  stamped = h.stamped;
  agreed = weaker h.deeds h.agreed;
}

module _ (nodes : List Node) (words : WordsId) (queues : List QueueId) where
  abbrev pub ran_of : FiberAndPort nodes words queues → RanFiber
  ran_of a = record {
    bare = a.bare;
    words = a.port.words.own;
    noted = is_marked a.port.noted;
    passes = λ q. entry_at q a.port;
    lawful = lawful_as a.bare.nodes (beginning_in a.bare.nodes a.port.words.own.begin) a.bare.trace a.bare.stamps a.bare.counts
        (reached a.bare) (λ ds h. subst (λ (f : ℕ). StampedPortAgrees f a.port.words.own (is_marked a.port.noted) (λ q. entry_at q a.port) ds) (sym a.number)
        (agrees_so words queues (λ f. true) a.port a.of_run ds h)) a.lawful;
  }

  -- what `part` tells of a fiber and its port
  abbrev pub with_port : (may : ℕ → Bool) (fiber : FiberView PortView) (bare : BareView) (port : PortView) → bare ≡ without_port nodes fiber
      → port ≡ fiber.port → IsOfRun words queues may port
      → IsLawful nodes (beginning_in nodes port.words.own.begin) (ThreadAgrees port) bare.trace bare.stamps bare.counts (reached bare)
      → FiberAndPort nodes words queues
  with_port may fiber bare port is whole of_run lawful = record {
    bare = bare;
    port = port;
    code = ap (λ (b : BareView). b.nodes) is;
    number = ap (λ (b : BareView). b.id) is ∙ ap (λ (p : PortView). p.words.own.id) (sym whole);
    of_run = record {
      alike = of_run.alike;
      passes = of_run.passes;
      here = of_run.here;
      within = of_run.within;
      alone = of_run.alone;
      marks = of_run.marks;
      allowed = λ f m. refl;
    };
    lawful = subst
        (λ (ns : List Node). IsLawful ns (beginning_in ns port.words.own.begin) (ThreadAgrees port) bare.trace bare.stamps bare.counts (reached bare))
        (sym (ap (λ (b : BareView). b.nodes) is)) lawful;
  }
