-- What each call adds to the words' entry keeps the agreement with the deeds.
use Rattle.std.proofs.Common.{◌≡◌, ◌↔◌, ℕ, ◌<◌, ◌≤◌, Bool, true, false, Option, Some, None, List, [], ◌∷◌}
use Rattle.std.proofs.Common.{◌++◌, length, set, replicate, ◌⊎◌, refl, sym, ◌∙◌, ap, subst, inl, inr, ⊎_elim, arith}
use Rattle.std.proofs.lemmas.Option.{same_Some, none-some}
use Rattle.std.proofs.lemmas.List.{length-set}
use Rattle.fx_term.specs.Lists.{Among}
use Rattle.fx_term.proofs.ListLaws.{Among-append_left, Among-append_right, Among-append}
use Rattle.fx_term.specs.declared.begin.Begin.{Begin}
use Rattle.fx_term.specs.declared.outcome.Outcome.{Outcome}
use Rattle.fx_fiber.specs.Deed.{Deed, Started, Requested, Saw, Put, Got, FoundFull, FoundEmpty, FoundEnded, Ended, deed_of_offer}
use Rattle.fx_term.specs.declared.offered.Offered.{Offered}
use Rattle.fx_term.specs.declared.offered.Offered.TheVariants.{Done, Full}
use Rattle.fx_word.specs.declared.entry.Entry.{Entry}
use Rattle.fx_word.specs.Entry.{new_entry, asking, looking, splitting, finished, peeked}
use Rattle.fx_port.specs.Marks.{is_marked}
use Rattle.fx_port.specs.WordsAgree.{WordsAgree}
use Rattle.fx_port.proofs.MarkLaws.{unmarked, mark_there, mark_stays, mark_cases}

-- a deed of a longer list is one of the list before, or the last one
module _ (ds : List Deed) (d : Deed) where
  cases : (x : Deed) → Among x (ds ++ d ∷ []) → Among x ds ⊎ (x ≡ d)
  cases x i = ⊎_elim inl (λ j. ⊎_elim inr absurd j) (Among-append ds (d ∷ []) x i)

  earlier : (x : Deed) → Among x ds → Among x (ds ++ d ∷ [])
  earlier x i = Among-append_left ds (d ∷ []) x i

  latest : (x : Deed) → x ≡ d → Among x (ds ++ d ∷ [])
  latest x e = Among-append_right ds (d ∷ []) x (inl e)

  -- what tells of a deed tells of it in the longer list, where it has come to tell of the last one
  grows : {P P' : Type 0} (x : Deed) → P ↔ Among x ds → P' ↔ (P ⊎ (x ≡ d)) → P' ↔ Among x (ds ++ d ∷ [])
  grows x h k = ((λ p. ⊎_elim (λ q. earlier x (h.0 q)) (latest x) (k.0 p)), (λ i. k.1 (⊎_elim (λ j. inl (h.1 j)) inr (cases x i))))

  stays : {P : Type 0} (x : Deed) → (x ≡ d → ⊥) → P ↔ Among x ds → P ↔ Among x (ds ++ d ∷ [])
  stays x n h = grows x h (inl, λ s. ⊎_elim (λ p. p) (λ e. absurd (n e)) s)

-- what is known of requests
abbrev Asked : ℕ → List Bool → List Deed → Type 0
Asked f noted ds = ((f < length noted) × Among (Requested f) ds) ⊎ (is_marked noted f ≡ true)

module _ (noted : List Bool) (ds : List Deed) (d : Deed) where
  asked_stays : {P : Type 0} (f : ℕ) → (f < length noted → Requested f ≡ d → ⊥) → P ↔ Asked f noted ds → P ↔ Asked f noted (ds ++ d ∷ [])
  asked_stays f n h = (
    (λ p. ⊎_elim (λ t. inl (t.0, earlier ds d (Requested f) t.1)) inr (h.0 p)),
    (λ s. h.1 (⊎_elim (λ t. ⊎_elim (λ i. inl (t.0, i)) (λ e. absurd (n t.0 e)) (cases ds d (Requested f) t.1)) inr s)),
  )

abbrev start_in : Deed → ℕ × Begin → ℕ × Begin
start_in (Started f b) x = (f, b)
start_in _ x = x

abbrev request_in : Deed → ℕ → ℕ
request_in (Requested f) x = f
request_in _ x = x

abbrev found_in : Deed → ℕ × Outcome → ℕ × Outcome
found_in (FoundEnded f o) x = (f, o)
found_in _ x = x

abbrev end_in : Deed → Outcome → Outcome
end_in (Ended o) x = o
end_in _ x = x

-- a new entry agrees with nothing done
pub fresh_agrees : (id : ℕ) (begin : Option (ℕ × Begin)) (next end fibers : ℕ) → WordsAgree (new_entry id begin next end) (replicate fibers false) []
fresh_agrees id begin next end fibers = record {
  started = λ f b. ((λ i. absurd i), (λ i. absurd i));
  asked = λ f. ((λ i. absurd i), (λ s. ⊎_elim (λ t. absurd t.1) (λ m. no_mark (sym (unmarked fibers f) ∙ m)) s));
  saw = (no_mark, (λ i. absurd i));
  found = λ f o. ((λ i. absurd i), (λ i. absurd i));
  ended = λ o. ((λ e. absurd (none-some o e)), (λ i. absurd i));
}
  where
    no_mark : {P : Type 0} → false ≡ true → P
    no_mark e = let z : ⊥ = cc in absurd z

module _ (e : Entry) (noted : List Bool) (ds : List Deed) (h : WordsAgree e noted ds) where
  -- a deed that the words know nothing of
  other_agrees : (d : Deed) → ((f : ℕ) (b : Begin) → Started f b ≡ d → ⊥) → ((f : ℕ) → f < length noted → Requested f ≡ d → ⊥) → (Saw ≡ d → ⊥)
      → ((f : ℕ) (o : Outcome) → FoundEnded f o ≡ d → ⊥) → ((o : Outcome) → Ended o ≡ d → ⊥) → WordsAgree e noted (ds ++ d ∷ [])
  other_agrees d no_start no_request no_look no_peek no_end = record {
    started = λ f b. stays ds d (Started f b) (no_start f b) (h.started f b);
    asked = λ f. asked_stays noted ds d f (no_request f) (h.asked f);
    saw = stays ds d Saw no_look h.saw;
    found = λ f o. stays ds d (FoundEnded f o) (no_peek f o) (h.found f o);
    ended = λ o. stays ds d (Ended o) (no_end o) (h.ended o);
  }

  pub put_agrees : (q n : ℕ) → WordsAgree e noted (ds ++ Put q n ∷ [])
  put_agrees q n = other_agrees (Put q n) (λ f b p. cc) (λ f lt p. cc) (λ p. cc) (λ f o p. cc) (λ o p. cc)

  pub got_agrees : (q n : ℕ) → WordsAgree e noted (ds ++ Got q n ∷ [])
  got_agrees q n = other_agrees (Got q n) (λ f b p. cc) (λ f lt p. cc) (λ p. cc) (λ f o p. cc) (λ o p. cc)

  pub full_agrees : (q : ℕ) → WordsAgree e noted (ds ++ FoundFull q ∷ [])
  full_agrees q = other_agrees (FoundFull q) (λ f b p. cc) (λ f lt p. cc) (λ p. cc) (λ f o p. cc) (λ o p. cc)

  pub empty_agrees : (q : ℕ) → WordsAgree e noted (ds ++ FoundEmpty q ∷ [])
  empty_agrees q = other_agrees (FoundEmpty q) (λ f b p. cc) (λ f lt p. cc) (λ p. cc) (λ f o p. cc) (λ o p. cc)

  pub offer_agrees : (q n : ℕ) (answer : Offered) → WordsAgree e noted (ds ++ deed_of_offer q n answer ∷ [])
  offer_agrees q n Done = put_agrees q n
  offer_agrees q n Full = full_agrees q

  -- a request of a fiber that there is not
  pub idle_request_agrees : (f : ℕ) → length noted ≤ f → WordsAgree e noted (ds ++ Requested f ∷ [])
  idle_request_agrees f le = other_agrees (Requested f) (λ g b p. cc)
      (λ g lt p. let e : g ≡ f = ap (λ (d : Deed). request_in d 0) p in omega (arith, lt, le, e)) (λ p. cc) (λ g o p. cc) (λ o p. cc)

  pub start_agrees : (b : Begin) → WordsAgree (splitting b e) noted (ds ++ Started e.next b ∷ [])
  start_agrees b = let d : Deed = Started e.next b in record {
    started = λ g c. grows ds d (Started g c) (h.started g c) (
      (λ i. ⊎_elim (λ p. inr (ap (λ (x : ℕ × Begin). Started x.0 x.1) p)) inl i),
      (λ s. ⊎_elim inr (λ p. inl (ap (λ (k : Deed). start_in k (0, b)) p)) s),
    );
    asked = λ g. asked_stays noted ds d g (λ lt p. cc) (h.asked g);
    saw = stays ds d Saw (λ p. cc) h.saw;
    found = λ g o. stays ds d (FoundEnded g o) (λ p. cc) (h.found g o);
    ended = λ o. stays ds d (Ended o) (λ p. cc) (h.ended o);
  }

  pub request_agrees : (f t : ℕ) → f < length noted → WordsAgree (asking f t e) noted (ds ++ Requested f ∷ [])
  request_agrees f t below = let d : Deed = Requested f in record {
    started = λ g c. stays ds d (Started g c) (λ p. cc) (h.started g c);
    asked = λ g. (
      (λ i. ⊎_elim (λ p. inl (subst (λ (k : ℕ). k < length noted) (sym p) below, latest ds d (Requested g) (ap (λ (k : ℕ). Requested k) p)))
          (λ j. ⊎_elim (λ t. inl (t.0, earlier ds d (Requested g) t.1)) inr ((h.asked g).0 j)) i),
      (λ s. ⊎_elim
          (λ t. ⊎_elim (λ j. inr ((h.asked g).1 (inl (t.0, j)))) (λ p. inl (ap (λ (k : Deed). request_in k 0) p)) (cases ds d (Requested g) t.1))
          (λ m. inr ((h.asked g).1 (inr m))) s),
    );
    saw = stays ds d Saw (λ p. cc) h.saw;
    found = λ g o. stays ds d (FoundEnded g o) (λ p. cc) (h.found g o);
    ended = λ o. stays ds d (Ended o) (λ p. cc) (h.ended o);
  }

  -- a request from outside adds no deed
  pub outside_agrees : (f : ℕ) → f < length noted → WordsAgree (asking f 0 e) (set noted f true) ds
  outside_agrees f below = let long = length-set noted f true in record {
    started = h.started;
    asked = λ g. (
      (λ i. ⊎_elim (λ p. inr (ap (is_marked (set noted f true)) p ∙ mark_there noted f below))
          (λ j. ⊎_elim (λ t. inl (subst (λ (n : ℕ). g < n) (sym long) t.0, t.1)) (λ m. inr (mark_stays noted f g m)) ((h.asked g).0 j)) i),
      (λ s. ⊎_elim (λ t. inr ((h.asked g).1 (inl (subst (λ (n : ℕ). g < n) long t.0, t.1))))
          (λ m. ⊎_elim inl (λ w. inr ((h.asked g).1 (inr w))) (mark_cases noted f g m)) s),
    );
    saw = h.saw;
    found = h.found;
    ended = h.ended;
  }

  pub look_agrees : (t : ℕ) → WordsAgree (looking (Some t) e) noted (ds ++ Saw ∷ [])
  look_agrees t = record {
    started = λ g c. stays ds Saw (Started g c) (λ p. cc) (h.started g c);
    asked = λ g. asked_stays noted ds Saw g (λ lt p. cc) (h.asked g);
    saw = ((λ p. latest ds Saw Saw refl), (λ i. refl));
    found = λ g o. stays ds Saw (FoundEnded g o) (λ p. cc) (h.found g o);
    ended = λ o. stays ds Saw (Ended o) (λ p. cc) (h.ended o);
  }

  pub peek_agrees : (f t : ℕ) (o : Outcome) → WordsAgree (peeked f o t e) noted (ds ++ FoundEnded f o ∷ [])
  peek_agrees f t o = let d : Deed = FoundEnded f o in record {
    started = λ g c. stays ds d (Started g c) (λ p. cc) (h.started g c);
    asked = λ g. asked_stays noted ds d g (λ lt p. cc) (h.asked g);
    saw = stays ds d Saw (λ p. cc) h.saw;
    found = λ g v. grows ds d (FoundEnded g v) (h.found g v) (
      (λ i. ⊎_elim (λ p. inr (ap (λ (x : ℕ × Outcome). FoundEnded x.0 x.1) p)) inl i),
      (λ s. ⊎_elim inr (λ p. inl (ap (λ (k : Deed). found_in k (0, v)) p)) s),
    );
    ended = λ v. stays ds d (Ended v) (λ p. cc) (h.ended v);
  }

  pub finish_agrees : (o : Outcome) (t : ℕ) → e.ended ≡ None → WordsAgree (finished o t e) noted (ds ++ Ended o ∷ [])
  finish_agrees o t running = let d : Deed = Ended o in record {
    started = λ g c. stays ds d (Started g c) (λ p. cc) (h.started g c);
    asked = λ g. asked_stays noted ds d g (λ lt p. cc) (h.asked g);
    saw = stays ds d Saw (λ p. cc) h.saw;
    found = λ g v. stays ds d (FoundEnded g v) (λ p. cc) (h.found g v);
    ended = λ v. grows ds d (Ended v) (h.ended v) (
      (λ p. inr (ap (λ (k : Outcome). Ended k) (sym (same_Some o v p)))),
      (λ s. ⊎_elim (λ p. absurd (none-some v (sym running ∙ p))) (λ p. ap (λ (k : Outcome). Some k) (sym (ap (λ (k : Deed). end_in k o) p))) s),
    );
  }
