-- What each call of a port adds keeps the agreement of the stamps.
use Rattle.std.proofs.Common.{◌≡◌, ℕ, Bool, true, Option, Some, None, List, [], ◌∷◌, ◌++◌, ◌⊎◌, map, refl, sym, ◌∙◌, ap, subst, inl, inr, append-nil}
use Rattle.std.specs.Prelude.{◌≢◌}
use Rattle.std.specs.List.{cons_option}
use Rattle.std.proofs.lemmas.Bool.{cases_eq}
use Rattle.std.proofs.lemmas.Option.{none-some, same_Some}
use Rattle.std.proofs.lemmas.List.{map-append}
use Rattle.std.proofs.lemmas.List.Elements.{filter_map-append}
use Rattle.fx_term.specs.Lists.{Among}
use Rattle.fx_term.specs.Maps.{with_at}
use Rattle.fx_term.specs.declared.begin.Begin.{Begin}
use Rattle.fx_term.specs.declared.outcome.Outcome.{Outcome}
use Rattle.fx_term.specs.declared.queue_event.QueueEvent.{QueueEvent}
use Rattle.fx_term.specs.declared.queue_event.QueueEvent.TheVariants as queue_event
use Rattle.fx_term.proofs.ListLaws.{Among-append_left, Among-append_right, Among-append}
use Rattle.fx_term.proofs.MapLaws.{at_that, at_other}
use Rattle.fx_fiber.specs.Deed.{Deed, Started, Requested, Saw, Put, Got, FoundFull, FoundEmpty, FoundEnded, Ended, queue_deed, queue_deeds}
use Rattle.fx_fiber.specs.StampedDeed.{StampedDeed, stamped_deed, deeds_of, with_number, queue_numbers}
use Rattle.fx_word.specs.declared.entry.Entry.{Entry}
use Rattle.fx_word.specs.Entry.{new_entry, asking, looking, splitting, finished, peeked}
use Rattle.fx_queue.specs.declared.entry.Entry as pass
use Rattle.fx_run.specs.Agreement.{StampsAgree, PortAgrees, StampedPortAgrees}
use Rattle.fx_run.specs.PassChanges.{IsNewPass, AreSplitFor, AddsEvent}
use Rattle.fx_run.proofs.Agreeing.{first_agrees, port_starts, port_requests, port_asks_nobody, port_notes, port_sees, port_finds, port_puts, port_finds_full}
use Rattle.fx_run.proofs.Agreeing.{port_takes, port_finds_empty, port_finishes, event_here, no_event}

last : (ds : List StampedDeed) (d : StampedDeed) → Among d (ds ++ d ∷ [])
last ds d = Among-append_right ds (d ∷ []) d (inl refl)

-- an earlier deed, or the last one
at_end : (ds : List StampedDeed) (d x : StampedDeed) → Among x (ds ++ d ∷ []) → Among x ds ⊎ (x ≡ d)
at_end ds d x i = elim (Among-append ds (d ∷ []) x i) [ inl j ↦ inl j | inr k ↦ elim k [ inl e ↦ inr e | inr none ↦ absurd none ] ]

abbrev IsAsked : (ℕ → Bool) → List StampedDeed → ℕ → ℕ → Type 0
IsAsked noted ds g t = Among (stamped_deed (Requested g) t) ds ⊎ ((noted g ≡ true) × (t ≡ 0))

asked_more : (noted : ℕ → Bool) (ds : List StampedDeed) (d : StampedDeed) (g t : ℕ) → IsAsked noted ds g t → IsAsked noted (ds ++ d ∷ []) g t
asked_more noted ds d g t (inl i) = inl (Among-append_left ds (d ∷ []) (stamped_deed (Requested g) t) i)
asked_more noted ds d g t (inr n) = inr n

-- the numbers of deeds of which the words have a list
abbrev number_seen : ℕ → Deed → Option ℕ
number_seen t Saw = Some t
number_seen t _ = None

abbrev number_found : ℕ → Deed → Option (ℕ × ℕ)
number_found t (FoundEnded g o) = Some (g, t)
number_found t _ = None

abbrev number_ended : ℕ → Deed → Option ℕ
number_ended t (Ended o) = Some t
number_ended t _ = None

abbrev seen_of : StampedDeed → Option ℕ
seen_of d = number_seen d.number d.deed

abbrev found_of : StampedDeed → Option (ℕ × ℕ)
found_of d = number_found d.number d.deed

abbrev ended_of : StampedDeed → Option ℕ
ended_of d = number_ended d.number d.deed

-- none of the deeds is an end
abbrev pub HasNoEnd : List StampedDeed → Type 0
HasNoEnd ds = (t : ℕ) (o : Outcome) → Among (stamped_deed (Ended o) t) ds → ⊥

abbrev pub AllHaveNoEnd : List StampedDeed → Type 0
AllHaveNoEnd [] = Unit {0}
AllHaveNoEnd (d ∷ ds) = (ended_of d ≡ None) × AllHaveNoEnd ds

pub no_end : (ds : List StampedDeed) → AllHaveNoEnd ds → HasNoEnd ds
no_end [] h t o i = i
no_end (d ∷ ds) h t o (inl same) = none-some t (sym h.0 ∙ ap ended_of (sym same))
no_end (d ∷ ds) h t o (inr i) = no_end ds h.1 t o i

-- where the last deed is of another kind, it is an earlier one
other : {A : Type 0} (read : StampedDeed → Option A) (ds : List StampedDeed) (d x : StampedDeed) (a : A) → read d ≡ None → read x ≡ Some a
    → Among x (ds ++ d ∷ []) → Among x ds
other read ds d x a none is i = elim (at_end ds d x i) [ inl j ↦ j | inr same ↦ absurd (none-some a (sym none ∙ ap read (sym same) ∙ is)) ]

module _ (e : Entry) (noted : ℕ → Bool) (ds : List StampedDeed) (h : StampsAgree e noted ds) where
  -- a deed that is no look, no peek and no end
  untold_agrees : (d : StampedDeed) → seen_of d ≡ None → found_of d ≡ None → ended_of d ≡ None → StampsAgree e noted (ds ++ d ∷ [])
  untold_agrees d no_look no_peek no_end = record {
    asked = λ g t i. asked_more noted ds d g t (h.asked g t i);
    saw = λ t i. h.saw t (other seen_of ds d (stamped_deed Saw t) t no_look refl i);
    found = λ g t o i. h.found g t o (other found_of ds d (stamped_deed (FoundEnded g o) t) (g, t) no_peek refl i);
    ended = λ t o i. h.ended t o (other ended_of ds d (stamped_deed (Ended o) t) t no_end refl i);
  }

  request_agrees : (f n : ℕ) → StampsAgree (asking f n e) noted (ds ++ stamped_deed (Requested f) n ∷ [])
  request_agrees f n =
      let p = untold_agrees (stamped_deed (Requested f) n) refl refl refl in
      record { asked = asked; saw = p.saw; found = p.found; ended = p.ended }
    where
      asked : (g t : ℕ) → Among (g, t) ((f, n) ∷ e.asked_with) → IsAsked noted (ds ++ stamped_deed (Requested f) n ∷ []) g t
      asked g t (inl same) =
          inl (subst (λ (x : ℕ × ℕ). Among (stamped_deed (Requested x.0) x.1) (ds ++ stamped_deed (Requested f) n ∷ [])) (sym same)
          (last ds (stamped_deed (Requested f) n)))
      asked g t (inr i) = asked_more noted ds (stamped_deed (Requested f) n) g t (h.asked g t i)

  -- a request from outside has the stamp 0, and adds no deed
  outside_agrees : (f : ℕ) → StampsAgree (asking f 0 e) (with_at f true noted) ds
  outside_agrees f = record { asked = asked; saw = h.saw; found = h.found; ended = h.ended }
    where
      still : (g : ℕ) → noted g ≡ true → with_at f true noted g ≡ true
      still g is = elim (cases_eq g f) [ inl same ↦ at_that f true noted g same | inr apart ↦ at_other f true noted g apart ∙ is ]

      asked : (g t : ℕ) → Among (g, t) ((f, 0) ∷ e.asked_with) → IsAsked (with_at f true noted) ds g t
      asked g t (inl same) = inr (at_that f true noted g (ap (λ (x : ℕ × ℕ). x.0) same), ap (λ (x : ℕ × ℕ). x.1) same)
      asked g t (inr i) = elim (h.asked g t i) [ inl j ↦ inl j | inr n ↦ inr (still g n.0, n.1) ]

  look_agrees : (n : ℕ) → StampsAgree (looking (Some n) e) noted (ds ++ stamped_deed Saw n ∷ [])
  look_agrees n = record {
    asked = λ g t i. asked_more noted ds (stamped_deed Saw n) g t (h.asked g t i);
    saw = λ t i. elim (at_end ds (stamped_deed Saw n) (stamped_deed Saw t) i) [
      | inl j ↦ inr (h.saw t j)
      | inr same ↦ inl (ap (λ (x : StampedDeed). x.number) same)
    ];
    found = λ g t o i. h.found g t o (other found_of ds (stamped_deed Saw n) (stamped_deed (FoundEnded g o) t) (g, t) refl refl i);
    ended = λ t o i. h.ended t o (other ended_of ds (stamped_deed Saw n) (stamped_deed (Ended o) t) t refl refl i);
  }

  peek_agrees : (f : ℕ) (o : Outcome) (n : ℕ) → StampsAgree (peeked f o n e) noted (ds ++ stamped_deed (FoundEnded f o) n ∷ [])
  peek_agrees f o n = record {
    asked = λ g t i. asked_more noted ds (stamped_deed (FoundEnded f o) n) g t (h.asked g t i);
    saw = λ t i. h.saw t (other seen_of ds (stamped_deed (FoundEnded f o) n) (stamped_deed Saw t) t refl refl i);
    found = λ g t v i. elim (at_end ds (stamped_deed (FoundEnded f o) n) (stamped_deed (FoundEnded g v) t) i) [
      | inl j ↦ inr (h.found g t v j)
      | inr same ↦ inl (same_Some (g, t) (f, n) (ap found_of same))
    ];
    ended = λ t v i. h.ended t v (other ended_of ds (stamped_deed (FoundEnded f o) n) (stamped_deed (Ended v) t) t refl refl i);
  }

  -- the first end that is told
  finish_agrees : (o : Outcome) (n : ℕ) → HasNoEnd ds → StampsAgree (finished o n e) noted (ds ++ stamped_deed (Ended o) n ∷ [])
  finish_agrees o n none = record {
    asked = λ g t i. asked_more noted ds (stamped_deed (Ended o) n) g t (h.asked g t i);
    saw = λ t i. h.saw t (other seen_of ds (stamped_deed (Ended o) n) (stamped_deed Saw t) t refl refl i);
    found = λ g t v i. h.found g t v (other found_of ds (stamped_deed (Ended o) n) (stamped_deed (FoundEnded g v) t) (g, t) refl refl i);
    ended = λ t v i. elim (at_end ds (stamped_deed (Ended o) n) (stamped_deed (Ended v) t) i) [
      | inl j ↦ absurd (none t v j)
      | inr same ↦ ap (λ (x : StampedDeed). Some x.number) (sym same)
    ];
  }

-- what the last deed is to a queue, with its number
abbrev numbered_event : ℕ → ℕ → StampedDeed → Option QueueEvent
numbered_event q f d = queue_deed q f (with_number d.deed d.number)

one_more : (q f : ℕ) (ds : List StampedDeed) (d : StampedDeed)
    → queue_numbers q f (ds ++ d ∷ []) ≡ queue_numbers q f ds ++ cons_option (numbered_event q f d) []
one_more q f ds d =
    ap (queue_deeds q f) (map-append (λ (x : StampedDeed). with_number x.deed x.number) ds (d ∷ []))
    ∙ filter_map-append (queue_deed q f) (map (λ (x : StampedDeed). with_number x.deed x.number) ds) (with_number d.deed d.number ∷ [])

module _ (q f : ℕ) (ds : List StampedDeed) (d : StampedDeed) (stamps : List QueueEvent) (h : stamps ≡ queue_numbers q f ds) where
  no_more : numbered_event q f d ≡ None → stamps ≡ queue_numbers q f (ds ++ d ∷ [])
  no_more none =
      h ∙ sym (append-nil (queue_numbers q f ds)) ∙ ap (λ (o : Option QueueEvent). queue_numbers q f ds ++ cons_option o []) (sym none)
      ∙ sym (one_more q f ds d)

  with_more : (x : QueueEvent) → numbered_event q f d ≡ Some x → stamps ++ x ∷ [] ≡ queue_numbers q f (ds ++ d ∷ [])
  with_more x is =
      ap (λ (xs : List QueueEvent). xs ++ x ∷ []) h ∙ ap (λ (o : Option QueueEvent). queue_numbers q f ds ++ cons_option o []) (sym is)
      ∙ sym (one_more q f ds d)

-- a fiber that has done nothing
pub stamped_first : (f : ℕ) (begin : Option (ℕ × Begin)) (next end : ℕ) (passes : ℕ → pass.Entry) (noted : ℕ → Bool)
    → ((q : ℕ) → IsNewPass f (passes q)) → StampedPortAgrees f (new_entry f begin next end) noted passes []
stamped_first f begin next end passes noted fresh = record {
  plain = first_agrees f begin next end passes noted fresh;
  stamps_agree = record { asked = λ g t i. absurd i; saw = λ t i. absurd i; found = λ g t o i. absurd i; ended = λ t o i. absurd i };
  queue_stamps = λ q. (fresh q).stamps;
}

module _ (f : ℕ) (e : Entry) (noted : ℕ → Bool) (passes : ℕ → pass.Entry) (ds : List StampedDeed) (h : StampedPortAgrees f e noted passes ds) where
  -- one more deed
  with_deed : (e' : Entry) (passes' : ℕ → pass.Entry) (d : StampedDeed) → PortAgrees f e' noted passes' (deeds_of ds ++ d.deed ∷ [])
      → StampsAgree e' noted (ds ++ d ∷ []) → ((q : ℕ) → (passes' q).stamps ≡ queue_numbers q f (ds ++ d ∷ []))
      → StampedPortAgrees f e' noted passes' (ds ++ d ∷ [])
  with_deed e' passes' d plain stamps queues = record {
    plain = subst (PortAgrees f e' noted passes') (sym (map-append (λ (x : StampedDeed). x.deed) ds (d ∷ []))) plain;
    stamps_agree = stamps;
    queue_stamps = queues;
  }

  -- one on no queue
  on_words : (e' : Entry) (d : StampedDeed) → ((q : ℕ) → numbered_event q f d ≡ None) → PortAgrees f e' noted passes (deeds_of ds ++ d.deed ∷ [])
      → StampsAgree e' noted (ds ++ d ∷ []) → StampedPortAgrees f e' noted passes (ds ++ d ∷ [])
  on_words e' d none plain stamps =
      with_deed e' passes d plain stamps (λ q. no_more q f ds d (passes q).stamps (h.queue_stamps q) (none q))

  pub stamped_starts : (b : Begin) (t : ℕ) (passes' : ℕ → pass.Entry) → AreSplitFor e.next passes passes'
      → StampedPortAgrees f (splitting b e) noted passes' (ds ++ stamped_deed (Started e.next b) t ∷ [])
  stamped_starts b t passes' split =
      let s = untold_agrees e noted ds h.stamps_agree (stamped_deed (Started e.next b) t) refl refl refl in
      with_deed (splitting b e) passes' (stamped_deed (Started e.next b) t) (port_starts f e noted passes (deeds_of ds) h.plain b passes' split)
      (record { asked = s.asked; saw = s.saw; found = s.found; ended = s.ended })
      (λ q. (split q).stamps ∙ no_more q f ds (stamped_deed (Started e.next b) t) (passes q).stamps (h.queue_stamps q) refl)

  pub stamped_requests : (g t : ℕ) → StampedPortAgrees f (asking g t e) noted passes (ds ++ stamped_deed (Requested g) t ∷ [])
  stamped_requests g t =
      on_words (asking g t e) (stamped_deed (Requested g) t) (λ q. refl) (port_requests f e noted passes (deeds_of ds) h.plain g t)
      (request_agrees e noted ds h.stamps_agree g t)

  pub stamped_asks_nobody : (g t : ℕ) → StampedPortAgrees f e noted passes (ds ++ stamped_deed (Requested g) t ∷ [])
  stamped_asks_nobody g t =
      on_words e (stamped_deed (Requested g) t) (λ q. refl) (port_asks_nobody f e noted passes (deeds_of ds) h.plain g)
      (untold_agrees e noted ds h.stamps_agree (stamped_deed (Requested g) t) refl refl refl)

  pub stamped_notes : (g : ℕ) → StampedPortAgrees f (asking g 0 e) (with_at g true noted) passes ds
  stamped_notes g = record {
    plain = port_notes f e noted passes (deeds_of ds) h.plain g;
    stamps_agree = outside_agrees e noted ds h.stamps_agree g;
    queue_stamps = h.queue_stamps;
  }

  pub stamped_sees : (t : ℕ) → StampedPortAgrees f (looking (Some t) e) noted passes (ds ++ stamped_deed Saw t ∷ [])
  stamped_sees t =
      on_words (looking (Some t) e) (stamped_deed Saw t) (λ q. refl) (port_sees f e noted passes (deeds_of ds) h.plain t)
      (look_agrees e noted ds h.stamps_agree t)

  pub stamped_finds : (g : ℕ) (o : Outcome) (t : ℕ) → StampedPortAgrees f (peeked g o t e) noted passes (ds ++ stamped_deed (FoundEnded g o) t ∷ [])
  stamped_finds g o t =
      on_words (peeked g o t e) (stamped_deed (FoundEnded g o) t) (λ q. refl) (port_finds f e noted passes (deeds_of ds) h.plain g o t)
      (peek_agrees e noted ds h.stamps_agree g o t)

  pub stamped_finishes : (o : Outcome) (t : ℕ) → HasNoEnd ds → StampedPortAgrees f (finished o t e) noted passes (ds ++ stamped_deed (Ended o) t ∷ [])
  stamped_finishes o t none =
      on_words (finished o t e) (stamped_deed (Ended o) t) (λ q. refl) (port_finishes f e noted passes (deeds_of ds) h.plain o t)
      (finish_agrees e noted ds h.stamps_agree o t none)

  pub stamped_finds_full : (q t : ℕ) → StampedPortAgrees f e noted passes (ds ++ stamped_deed (FoundFull q) t ∷ [])
  stamped_finds_full q t =
      on_words e (stamped_deed (FoundFull q) t) (λ r. refl) (port_finds_full f e noted passes (deeds_of ds) h.plain q)
      (untold_agrees e noted ds h.stamps_agree (stamped_deed (FoundFull q) t) refl refl refl)

  pub stamped_finds_empty : (q t : ℕ) → StampedPortAgrees f e noted passes (ds ++ stamped_deed (FoundEmpty q) t ∷ [])
  stamped_finds_empty q t =
      on_words e (stamped_deed (FoundEmpty q) t) (λ r. refl) (port_finds_empty f e noted passes (deeds_of ds) h.plain q)
      (untold_agrees e noted ds h.stamps_agree (stamped_deed (FoundEmpty q) t) refl refl refl)

  -- one more event of a queue
  stamps_more : (q : ℕ) (x y : QueueEvent) (d : StampedDeed) (passes' : ℕ → pass.Entry) → numbered_event q f d ≡ Some y
      → ((r : ℕ) → r ≢ q → numbered_event r f d ≡ None) → AddsEvent q x y passes passes' → (r : ℕ) → (passes' r).stamps ≡ queue_numbers r f (ds ++ d ∷ [])
  stamps_more q x y d passes' here none adds r = by_queue (cases_eq r q)
    where
      by_queue : (r ≡ q) ⊎ (r ≢ q) → (passes' r).stamps ≡ queue_numbers r f (ds ++ d ∷ [])
      by_queue (inl same) =
          subst (λ (k : ℕ). (passes' k).stamps ≡ queue_numbers k f (ds ++ d ∷ [])) (sym same)
          (adds.here.stamps ∙ with_more q f ds d (passes q).stamps (h.queue_stamps q) y here)
      by_queue (inr apart) =
          ap (λ (p : pass.Entry). p.stamps) (adds.others r apart) ∙ no_more r f ds d (passes r).stamps (h.queue_stamps r) (none r apart)

  pub stamped_puts : (q n t : ℕ) (passes' : ℕ → pass.Entry) → AddsEvent q (queue_event.Put f n) (queue_event.Put f t) passes passes'
      → StampedPortAgrees f e noted passes' (ds ++ stamped_deed (Put q n) t ∷ [])
  stamped_puts q n t passes' adds =
      with_deed e passes' (stamped_deed (Put q n) t) (port_puts f e noted passes (deeds_of ds) h.plain q n t passes' adds)
      (untold_agrees e noted ds h.stamps_agree (stamped_deed (Put q n) t) refl refl refl)
      (stamps_more q (queue_event.Put f n) (queue_event.Put f t) (stamped_deed (Put q n) t) passes' (event_here q (queue_event.Put f t))
      (λ r apart. no_event q r (queue_event.Put f t) apart) adds)

  pub stamped_takes : (q n t : ℕ) (passes' : ℕ → pass.Entry) → AddsEvent q (queue_event.Got f n) (queue_event.Got f t) passes passes'
      → StampedPortAgrees f e noted passes' (ds ++ stamped_deed (Got q n) t ∷ [])
  stamped_takes q n t passes' adds =
      with_deed e passes' (stamped_deed (Got q n) t) (port_takes f e noted passes (deeds_of ds) h.plain q n t passes' adds)
      (untold_agrees e noted ds h.stamps_agree (stamped_deed (Got q n) t) refl refl refl)
      (stamps_more q (queue_event.Got f n) (queue_event.Got f t) (stamped_deed (Got q n) t) passes' (event_here q (queue_event.Got f t))
      (λ r apart. no_event q r (queue_event.Got f t) apart) adds)
