-- What each call of a port adds keeps the agreement with the deeds.
use Rattle.std.proofs.Common.{◌≡◌, ℕ, Bool, true, Option, Some, None, List, [], ◌∷◌, ◌++◌, ◌⊎◌, refl, sym, ◌∙◌, ap, subst, inl, inr, append-nil}
use Rattle.std.specs.Prelude.{◌==◌, ◌≢◌, if◌then◌else◌}
use Rattle.std.proofs.lemmas.Bool.{eq-eqb, ne_eqb, cases_eq}
use Rattle.std.specs.List.{cons_option}
use Rattle.std.proofs.lemmas.Option.{same_Some, none-some}
use Rattle.std.proofs.lemmas.List.Elements.{filter_map-append}
use Rattle.fx_term.specs.Lists.{Among}
use Rattle.fx_term.specs.Maps.{with_at}
use Rattle.fx_term.specs.declared.begin.Begin.{Begin}
use Rattle.fx_term.specs.declared.outcome.Outcome.{Outcome}
use Rattle.fx_term.specs.declared.queue_event.QueueEvent.{QueueEvent}
use Rattle.fx_term.specs.declared.queue_event.QueueEvent.TheVariants as queue_event
use Rattle.fx_term.proofs.ListLaws.{Among-append_left, Among-append_right, Among-append}
use Rattle.fx_term.proofs.MapLaws.{at_that, at_other}
use Rattle.fx_fiber.specs.Deed.{Deed, Started, Requested, Saw, Put, Got, FoundFull, FoundEmpty, FoundEnded, Ended, queue_deed, queue_deeds}
use Rattle.fx_word.specs.declared.entry.Entry.{Entry}
use Rattle.fx_word.specs.Entry.{new_entry, asking, looking, splitting, finished, peeked}
use Rattle.fx_queue.specs.declared.entry.Entry as pass
use Rattle.fx_run.specs.Agreement.{WordsAgree, QueueAgrees, PortAgrees}
use Rattle.fx_run.specs.PassChanges.{IsNewPass, IsSplitFor, HasOneMore, AreSplitFor, AddsEvent}

last : (ds : List Deed) (d : Deed) → Among d (ds ++ d ∷ [])
last ds d = Among-append_right ds (d ∷ []) d (inl refl)

more : (ds : List Deed) (d x : Deed) → Among x ds → Among x (ds ++ d ∷ [])
more ds d x i = Among-append_left ds (d ∷ []) x i

-- an earlier deed, or the last one
at_end : (ds : List Deed) (d x : Deed) → Among x (ds ++ d ∷ []) → Among x ds ⊎ (x ≡ d)
at_end ds d x i = elim (Among-append ds (d ∷ []) x i) [ inl j ↦ inl j | inr k ↦ elim k [ inl e ↦ inr e | inr none ↦ absurd none ] ]

before : (ds : List Deed) (d x : Deed) → (x ≡ d → ⊥) → Among x (ds ++ d ∷ []) → Among x ds
before ds d x ne i = elim (at_end ds d x i) [ inl j ↦ j | inr e ↦ absurd (ne e) ]

asked_more : (noted : ℕ → Bool) (ds : List Deed) (d : Deed) (f : ℕ) → Among (Requested f) ds ⊎ (noted f ≡ true)
    → Among (Requested f) (ds ++ d ∷ []) ⊎ (noted f ≡ true)
asked_more noted ds d f (inl i) = inl (more ds d (Requested f) i)
asked_more noted ds d f (inr i) = inr i

abbrev start_of_deed : Deed → ℕ × Begin → ℕ × Begin
start_of_deed (Started f b) x = (f, b)
start_of_deed _ x = x

abbrev found_of_deed : Deed → ℕ × Outcome → ℕ × Outcome
found_of_deed (FoundEnded f o) x = (f, o)
found_of_deed _ x = x

-- a deed of which the entry need not say anything
abbrev IsUntold : Deed → Type 0
IsUntold (Started f b) = ⊥
IsUntold Saw = ⊥
IsUntold (FoundEnded f o) = ⊥
IsUntold _ = Unit {0}

module _ (f : ℕ) (e : Entry) (noted : ℕ → Bool) (ds : List Deed) (h : WordsAgree f e noted ds) where
  untold_agrees : (d : Deed) → IsUntold d → WordsAgree f e noted (ds ++ d ∷ [])
  untold_agrees d untold = record {
    number = h.number;
    started = λ g c i. elim (at_end ds d (Started g c) i) [ inl j ↦ h.started g c j | inr p ↦ absurd (subst IsUntold (sym p) untold) ];
    parts = λ g c i. more ds d (Started g c) (h.parts g c i);
    asked = λ g i. asked_more noted ds d g (h.asked g i);
    saw = λ i. elim (at_end ds d Saw i) [ inl j ↦ h.saw j | inr p ↦ absurd (subst IsUntold (sym p) untold) ];
    found = λ g o i. elim (at_end ds d (FoundEnded g o) i) [ inl j ↦ h.found g o j | inr p ↦ absurd (subst IsUntold (sym p) untold) ];
    ended = λ o p. more ds d (Ended o) (h.ended o p);
  }

  start_agrees : (b : Begin) → WordsAgree f (splitting b e) noted (ds ++ Started e.next b ∷ [])
  start_agrees b = record {
    number = h.number;
    started = λ g c i. elim (at_end ds (Started e.next b) (Started g c) i) [
      | inl j ↦ inr (h.started g c j)
      | inr p ↦ inl (ap (λ (d : Deed). start_of_deed d (0, b)) p)
    ];
    parts = λ g c i. elim i [
      | inl p ↦ subst (λ (x : ℕ × Begin). Among (Started x.0 x.1) (ds ++ Started e.next b ∷ [])) (sym p) (last ds (Started e.next b))
      | inr j ↦ more ds (Started e.next b) (Started g c) (h.parts g c j)
    ];
    asked = λ g i. asked_more noted ds (Started e.next b) g (h.asked g i);
    saw = λ i. h.saw (before ds (Started e.next b) Saw (λ p. cc) i);
    found = λ g o i. h.found g o (before ds (Started e.next b) (FoundEnded g o) (λ p. cc) i);
    ended = λ o p. more ds (Started e.next b) (Ended o) (h.ended o p);
  }

  request_agrees : (g t : ℕ) → WordsAgree f (asking g t e) noted (ds ++ Requested g ∷ [])
  request_agrees g t =
      let kept = untold_agrees (Requested g) tt in
      record {
        number = h.number;
        started = kept.started;
        parts = kept.parts;
        asked = λ k i. elim i [
          | inl p ↦ inl (subst (λ (n : ℕ). Among (Requested n) (ds ++ Requested g ∷ [])) (sym p) (last ds (Requested g)))
          | inr j ↦ kept.asked k j
        ];
        saw = kept.saw;
        found = kept.found;
        ended = kept.ended;
      }

  -- a request from outside adds no deed
  outside_agrees : (g t : ℕ) → WordsAgree f (asking g t e) (with_at g true noted) ds
  outside_agrees g t = record {
    number = h.number;
    started = h.started;
    parts = h.parts;
    asked = λ k i. elim (cases_eq k g) [
      | inl same ↦ inr (at_that g true noted k same)
      | inr apart ↦ elim i [
        | inl p ↦ absurd (apart p)
        | inr j ↦ elim (h.asked k j) [ inl d ↦ inl d | inr n ↦ inr (at_other g true noted k apart ∙ n) ]
      ]
    ];
    saw = h.saw;
    found = h.found;
    ended = h.ended;
  }

  look_agrees : (t : ℕ) → WordsAgree f (looking (Some t) e) noted (ds ++ Saw ∷ [])
  look_agrees t = record {
    number = h.number;
    started = λ g c i. h.started g c (before ds Saw (Started g c) (λ p. cc) i);
    parts = λ g c i. more ds Saw (Started g c) (h.parts g c i);
    asked = λ g i. asked_more noted ds Saw g (h.asked g i);
    saw = λ i. refl;
    found = λ g o i. h.found g o (before ds Saw (FoundEnded g o) (λ p. cc) i);
    ended = λ o p. more ds Saw (Ended o) (h.ended o p);
  }

  peek_agrees : (g : ℕ) (o : Outcome) (t : ℕ) → WordsAgree f (peeked g o t e) noted (ds ++ FoundEnded g o ∷ [])
  peek_agrees g o t = record {
    number = h.number;
    started = λ k c i. h.started k c (before ds (FoundEnded g o) (Started k c) (λ p. cc) i);
    parts = λ k c i. more ds (FoundEnded g o) (Started k c) (h.parts k c i);
    asked = λ k i. asked_more noted ds (FoundEnded g o) k (h.asked k i);
    saw = λ i. h.saw (before ds (FoundEnded g o) Saw (λ p. cc) i);
    found = λ k v i. elim (at_end ds (FoundEnded g o) (FoundEnded k v) i) [
      | inl j ↦ inr (h.found k v j)
      | inr p ↦ inl (ap (λ (d : Deed). found_of_deed d (0, v)) p)
    ];
    ended = λ v p. more ds (FoundEnded g o) (Ended v) (h.ended v p);
  }

  finish_agrees : (o : Outcome) (t : ℕ) → WordsAgree f (finished o t e) noted (ds ++ Ended o ∷ [])
  finish_agrees o t =
      let kept = untold_agrees (Ended o) tt in
      record {
        number = h.number;
        started = kept.started;
        parts = kept.parts;
        asked = kept.asked;
        saw = kept.saw;
        found = kept.found;
        ended = λ v p. subst (λ (w : Outcome). Among (Ended w) (ds ++ Ended o ∷ [])) (same_Some o v p) (last ds (Ended o));
      }

module _ (q f : ℕ) (e : pass.Entry) (ds : List Deed) (h : QueueAgrees q f e ds) where
  one_more : (d : Deed) → queue_deeds q f (ds ++ d ∷ []) ≡ queue_deeds q f ds ++ cons_option (queue_deed q f d) []
  one_more d = filter_map-append (queue_deed q f) ds (d ∷ [])

  same_acts : (d : Deed) → queue_deed q f d ≡ None → e.acts ≡ queue_deeds q f (ds ++ d ∷ [])
  same_acts d none =
      h.acts ∙ sym (append-nil (queue_deeds q f ds))
      ∙ ap (λ (o : Option QueueEvent). queue_deeds q f ds ++ cons_option o []) (sym none) ∙ sym (one_more d)

  parts_more : (d : Deed) (g : ℕ) → Among g e.parts → (b : Begin) × Among (Started g b) (ds ++ d ∷ [])
  parts_more d g i = let x = h.parts g i in (x.0, more ds d (Started g x.0) x.1)

  -- a deed on no queue, or on another one
  elsewhere_agrees : (d : Deed) → queue_deed q f d ≡ None → QueueAgrees q f e (ds ++ d ∷ [])
  elsewhere_agrees d none = record { number = h.number; acts = same_acts d none; parts = parts_more d }

  event_agrees : (d : Deed) (x y : QueueEvent) (e' : pass.Entry) → queue_deed q f d ≡ Some x → HasOneMore x y e e'
      → QueueAgrees q f e' (ds ++ d ∷ [])
  event_agrees d x y e' is has = record {
    number = has.number ∙ h.number;
    acts =
        has.acts ∙ ap (λ (xs : List QueueEvent). xs ++ x ∷ []) h.acts
        ∙ ap (λ (o : Option QueueEvent). queue_deeds q f ds ++ cons_option o []) (sym is) ∙ sym (one_more d);
    parts = λ g i. parts_more d g (subst (λ (ns : List ℕ). Among g ns) has.parts i);
  }

  split_agrees : (g : ℕ) (b : Begin) (e' : pass.Entry) → IsSplitFor g e e' → QueueAgrees q f e' (ds ++ Started g b ∷ [])
  split_agrees g b e' split = record {
    number = split.number ∙ h.number;
    acts = split.acts ∙ same_acts (Started g b) refl;
    parts = λ k i. elim (split.parts k i) [
      | inl j ↦ parts_more (Started g b) k j
      | inr p ↦ (b, subst (λ (n : ℕ). Among (Started n b) (ds ++ Started g b ∷ [])) (sym p) (last ds (Started g b)))
    ];
  }

-- a fiber that has done nothing
pub first_agrees : (f : ℕ) (begin : Option (ℕ × Begin)) (next end : ℕ) (passes : ℕ → pass.Entry) (noted : ℕ → Bool)
    → ((q : ℕ) → IsNewPass f (passes q)) → PortAgrees f (new_entry f begin next end) noted passes []
first_agrees f begin next end passes noted fresh = record {
  words_agree = record {
    number = refl;
    started = λ g b i. i;
    parts = λ g b i. i;
    asked = λ g i. absurd i;
    saw = λ i. absurd i;
    found = λ g o i. i;
    ended = λ o e. absurd (none-some o e);
  };
  queues_agree = λ q. record {
    number = (fresh q).number;
    acts = (fresh q).acts;
    parts = λ g i. absurd (subst (λ (ns : List ℕ). Among g ns) (fresh q).parts i);
  };
}

-- the event that a deed is, at its own queue and at another one
pub event_here : (q : ℕ) (x : QueueEvent) → (if q == q then Some x else None) ≡ Some x
event_here q x = rw (eq-eqb q q refl) refl

pub no_event : (q r : ℕ) (x : QueueEvent) → r ≢ q → (if q == r then Some x else None) ≡ None
no_event q r x apart = rw (ne_eqb q r (λ e. apart (sym e))) refl

module _ (f : ℕ) (e : Entry) (noted : ℕ → Bool) (passes : ℕ → pass.Entry) (ds : List Deed) (h : PortAgrees f e noted passes ds) where
  -- where a deed is on no queue, what is known of them stays
  on_words : (e' : Entry) (d : Deed) → ((q : ℕ) → queue_deed q f d ≡ None) → WordsAgree f e' noted (ds ++ d ∷ [])
      → PortAgrees f e' noted passes (ds ++ d ∷ [])
  on_words e' d none w = record { words_agree = w; queues_agree = λ q. elsewhere_agrees q f (passes q) ds (h.queues_agree q) d (none q) }

  pub port_starts : (b : Begin) (passes' : ℕ → pass.Entry) → AreSplitFor e.next passes passes'
      → PortAgrees f (splitting b e) noted passes' (ds ++ Started e.next b ∷ [])
  port_starts b passes' split = record {
    words_agree = start_agrees f e noted ds h.words_agree b;
    queues_agree = λ q. split_agrees q f (passes q) ds (h.queues_agree q) e.next b (passes' q) (split q);
  }

  pub port_requests : (g t : ℕ) → PortAgrees f (asking g t e) noted passes (ds ++ Requested g ∷ [])
  port_requests g t = on_words (asking g t e) (Requested g) (λ q. refl) (request_agrees f e noted ds h.words_agree g t)

  pub port_asks_nobody : (g : ℕ) → PortAgrees f e noted passes (ds ++ Requested g ∷ [])
  port_asks_nobody g = on_words e (Requested g) (λ q. refl) (untold_agrees f e noted ds h.words_agree (Requested g) tt)

  pub port_notes : (g : ℕ) → PortAgrees f (asking g 0 e) (with_at g true noted) passes ds
  port_notes g = record { words_agree = outside_agrees f e noted ds h.words_agree g 0; queues_agree = h.queues_agree }

  pub port_sees : (t : ℕ) → PortAgrees f (looking (Some t) e) noted passes (ds ++ Saw ∷ [])
  port_sees t = on_words (looking (Some t) e) Saw (λ q. refl) (look_agrees f e noted ds h.words_agree t)

  pub port_finds : (g : ℕ) (o : Outcome) (t : ℕ) → PortAgrees f (peeked g o t e) noted passes (ds ++ FoundEnded g o ∷ [])
  port_finds g o t = on_words (peeked g o t e) (FoundEnded g o) (λ q. refl) (peek_agrees f e noted ds h.words_agree g o t)

  pub port_finishes : (o : Outcome) (t : ℕ) → PortAgrees f (finished o t e) noted passes (ds ++ Ended o ∷ [])
  port_finishes o t = on_words (finished o t e) (Ended o) (λ q. refl) (finish_agrees f e noted ds h.words_agree o t)

  pub port_finds_full : (q : ℕ) → PortAgrees f e noted passes (ds ++ FoundFull q ∷ [])
  port_finds_full q = on_words e (FoundFull q) (λ r. refl) (untold_agrees f e noted ds h.words_agree (FoundFull q) tt)

  pub port_finds_empty : (q : ℕ) → PortAgrees f e noted passes (ds ++ FoundEmpty q ∷ [])
  port_finds_empty q = on_words e (FoundEmpty q) (λ r. refl) (untold_agrees f e noted ds h.words_agree (FoundEmpty q) tt)

  -- one more event of a queue
  with_one_more : (q : ℕ) (x y : QueueEvent) (d : Deed) (passes' : ℕ → pass.Entry) → IsUntold d → queue_deed q f d ≡ Some x
      → ((r : ℕ) → r ≢ q → queue_deed r f d ≡ None) → AddsEvent q x y passes passes' → PortAgrees f e noted passes' (ds ++ d ∷ [])
  with_one_more q x y d passes' untold here none adds =
      record { words_agree = untold_agrees f e noted ds h.words_agree d untold; queues_agree = λ r. by_queue r (cases_eq r q) }
    where
      by_queue : (r : ℕ) → (r ≡ q) ⊎ (r ≢ q) → QueueAgrees r f (passes' r) (ds ++ d ∷ [])
      by_queue r (inl same) =
          subst (λ (k : ℕ). QueueAgrees k f (passes' k) (ds ++ d ∷ [])) (sym same)
          (event_agrees q f (passes q) ds (h.queues_agree q) d x y (passes' q) here adds.here)
      by_queue r (inr apart) =
          subst (λ (y : pass.Entry). QueueAgrees r f y (ds ++ d ∷ [])) (sym (adds.others r apart))
          (elsewhere_agrees r f (passes r) ds (h.queues_agree r) d (none r apart))

  pub port_puts : (q n t : ℕ) (passes' : ℕ → pass.Entry) → AddsEvent q (queue_event.Put f n) (queue_event.Put f t) passes passes'
      → PortAgrees f e noted passes' (ds ++ Put q n ∷ [])
  port_puts q n t passes' adds =
      with_one_more q (queue_event.Put f n) (queue_event.Put f t) (Put q n) passes' tt (event_here q (queue_event.Put f n))
      (λ r apart. no_event q r (queue_event.Put f n) apart) adds

  pub port_takes : (q n t : ℕ) (passes' : ℕ → pass.Entry) → AddsEvent q (queue_event.Got f n) (queue_event.Got f t) passes passes'
      → PortAgrees f e noted passes' (ds ++ Got q n ∷ [])
  port_takes q n t passes' adds =
      with_one_more q (queue_event.Got f n) (queue_event.Got f t) (Got q n) passes' tt (event_here q (queue_event.Got f n))
      (λ r apart. no_event q r (queue_event.Got f n) apart) adds
