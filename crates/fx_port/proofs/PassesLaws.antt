-- What each call adds to the passes keeps the agreement with the deeds.
use Rattle.std.proofs.Common.{◌≡◌, ℕ, ◌==◌, Bool, if◌then◌else◌, List, [], ◌∷◌, ◌++◌, ◌⊎◌, inl, inr, ⊎_elim, map}
use Rattle.std.proofs.Common.{Option, Some, None, slice_get, set, refl, sym, ◌∙◌, ap, subst, zero, suc, eq-eqb, ne_eqb, append-nil}
use Rattle.std.specs.List.{filter_map, cons_option}
use Rattle.std.proofs.lemmas.List.{length-map}
use Rattle.std.proofs.lemmas.List.Elements.{filter_map-append}
use Rattle.std.proofs.lemmas.Option.{same_Some, none-some}
use mathlib.Core.Logic.{dite}
use native.Mathlib.Decide.{ℕ_discrete}
use Rattle.crossbeam_queue.specs.Fifo.{Held}
use Rattle.fx_term.specs.Element.{element_of, elements_of}
use Rattle.fx_term.specs.declared.begin.Begin.{Begin}
use Rattle.fx_term.specs.declared.outcome.Outcome.{Outcome}
use Rattle.fx_term.specs.declared.queue_event.QueueEvent.{QueueEvent}
use Rattle.fx_term.specs.declared.queue_event.QueueEvent.TheVariants as event
use Rattle.fx_term.specs.Lists.{Among}
use Rattle.fx_term.specs.Queue.{cut}
use Rattle.fx_term.proofs.ListLaws.{Among-append_left, Among-append_right}
use Rattle.fx_queue.specs.declared.entry.Handed.{Handed}
use Rattle.fx_queue.specs.declared.pass_view.PassView.{PassView}
use Rattle.fx_queue.specs.History.{Begins}
use Rattle.fx_queue.specs.PassView.{kept_part, with_act}
use Rattle.fx_queue.specs.Told.{stands}
use Rattle.fx_queue.specs.Queues.{HeldPass, kept_pass, given_pass}
use Rattle.fx_queue.proofs.Histories.{Begins-more, Begins-all, Begins-trans}
use Rattle.fx_queue.proofs.Views.{lone}
use Rattle.fx_fiber.specs.Deed.{Deed, Started, Requested, Saw, Put, Got, FoundFull, FoundEmpty, FoundEnded, Ended, queue_deed, queue_deeds}
use Rattle.fx_port.specs.Rows.{PutsInto, GetsFrom, FoundFullAt, FoundEmptyAt}
use Rattle.fx_port.specs.PortView.{IsAware}
use Rattle.fx_port.specs.PassesAgree.{started_by, starts, acts_by, WasFound, HasHanded}
use Rattle.fx_port.specs.PassesAgree.{Refusal, Full, Empty, held_at, HasRefused, IsBacked, PassesAgree}
use Rattle.fx_port.proofs.Places.{get_set_same, get_set_else}

-- what one deed more gives
module _ {A : Type 0} (h : Deed → Option A) (ds : List Deed) (d : Deed) where
  pub given : (a : A) → h d ≡ Some a → filter_map h (ds ++ d ∷ []) ≡ filter_map h ds ++ a ∷ []
  given a e = filter_map-append h ds (d ∷ []) ∙ ap (λ (o : Option A). filter_map h ds ++ cons_option o []) e

  pub nothing_given : h d ≡ None → filter_map h (ds ++ d ∷ []) ≡ filter_map h ds
  nothing_given e =
      filter_map-append h ds (d ∷ []) ∙ (ap (λ (o : Option A). filter_map h ds ++ cons_option o []) e ∙ append-nil (filter_map h ds))

pub not_later : (b : List Deed) (d : Deed) (a : List Deed) → [] ≡ b ++ d ∷ a → ⊥
not_later [] d a e = cc
not_later (x ∷ b) d a e = cc

not_nil : {A : Type 0} (l : List A) (x : A) → l ++ x ∷ [] ≡ [] → ⊥
not_nil [] x e = cc
not_nil (y ∷ l) x e = cc

-- a deed of a longer list is the last one, or one of the list before
snoc_cases : (ds before after : List Deed) (x d : Deed) → ds ++ x ∷ [] ≡ before ++ d ∷ after
    → ((ds ≡ before) × (x ≡ d)) ⊎ ((rest : List Deed) × (ds ≡ before ++ d ∷ rest))
snoc_cases [] [] after x d e = let t : x ≡ d = cc in inl (refl, t)
snoc_cases [] (b ∷ before) after x d e = let t : [] ≡ before ++ d ∷ after = cc in absurd (not_later before d after t)
snoc_cases (y ∷ ds) [] after x d e = let t : y ≡ d = cc in inr (ds, ap (λ (k : Deed). k ∷ ds) t)
snoc_cases (y ∷ ds) (b ∷ before) after x d e =
    let h : y ≡ b = cc in
    let t : ds ++ x ∷ [] ≡ before ++ d ∷ after = cc in
    ⊎_elim (λ s. inl ((λ i. h i ∷ s.0 i), s.1)) (λ s. inr (s.0, λ i. h i ∷ s.1 i)) (snoc_cases ds before after x d t)

-- what was found stays so
found_after_act : (v : PassView) (log : List QueueEvent) (a t : QueueEvent) (n : ℕ) (b : List QueueEvent) → Begins log v.own.seen → WasFound v n b
    → WasFound (with_act v log a t) n b
found_after_act v log a t n b h f = record {
  log = f.log;
  items = f.items;
  seen = f.seen;
  legal = f.legal;
  found = f.found;
  begins = f.begins;
  since = Begins-trans (log ++ a ∷ []) v.own.seen f.seen (Begins-more log v.own.seen (a ∷ []) h) f.since;
  begun = f.begun;
  known = f.known;
  cuts = f.cuts;
  within = f.within;
  lone = f.lone;
}

refused_after_act : (r : Refusal) (v : PassView) (log : List QueueEvent) (a t : QueueEvent) (b : List QueueEvent) → Begins log v.own.seen
    → WasFound v (held_at r v) b → WasFound (with_act v log a t) (held_at r (with_act v log a t)) b
refused_after_act Full v log a t b h f = found_after_act v log a t v.cap b h f
refused_after_act Empty v log a t b h f = found_after_act v log a t 0 b h f

found_after_part : (v : PassView) (end n : ℕ) (b : List QueueEvent) → WasFound v n b → WasFound (kept_part end v) n b
found_after_part v end n b f = record {
  log = f.log;
  items = f.items;
  seen = f.seen;
  legal = f.legal;
  found = f.found;
  begins = f.begins;
  since = f.since;
  begun = f.begun;
  known = f.known;
  cuts = f.cuts;
  within = f.within;
  lone = λ l. absurd (not_nil v.own.parts v.own.next l.1);
}

refused_after_part : (r : Refusal) (v : PassView) (end : ℕ) (b : List QueueEvent) → WasFound v (held_at r v) b
    → WasFound (kept_part end v) (held_at r (kept_part end v)) b
refused_after_part Full v end b f = found_after_part v end v.cap b f
refused_after_part Empty v end b f = found_after_part v end 0 b f

-- what is found now
found_now : (v : PassView) (n : ℕ) → Held n (stands v) → WasFound v n v.own.acts
found_now v n h =
    let t = h.2.1 in
    record {
      log = h.2.0;
      items = elements_of h.0;
      seen = v.own.seen;
      legal = t.legal;
      found = length-map h.0 element_of ∙ h.1;
      begins = t.begins v.own (inl refl);
      since = Begins-all v.own.seen;
      begun = t.begun v.own (inl refl);
      known = t.aware v.own (inl refl);
      cuts = t.cuts v.own (inl refl);
      within = t.within;
      lone = λ l. lone v h.2.0 h.0 t l.0 l.1 l.2;
    }

-- what a part was
pub part_cases : {A B : Type 0} (h : A → B) (xs : List A) (q : ℕ) (b : B) → slice_get (map h xs) q ≡ Some b → (a : A) × (slice_get xs q ≡ Some a) × (h a ≡ b)
part_cases h [] q b e = let z : ⊥ = cc in absurd z
part_cases h (x ∷ xs) zero b e = let t : h x ≡ b = cc in (x, refl, t)
part_cases h (x ∷ xs) (suc q) b e = part_cases h xs q b e

-- the passes are those of fiber f, which starts this number next, and are aware
pub record IsTheirs (f next : ℕ) (s : HeldPass) : Type 0 where
  pub number : s.view.own.id ≡ f
  pub follows : s.view.own.next ≡ next
  pub aware : IsAware s.view

abbrev pub AreTheirs : ℕ → ℕ → List HeldPass → Type 0
AreTheirs f next ps = (q : ℕ) (s : HeldPass) → slice_get ps q ≡ Some s → IsTheirs f next s

module _ (f : ℕ) where
  -- where each pass has found what it had found, each refusal is still backed
  still_backed : (ps ps' : List HeldPass)
      → ((q : ℕ) (r : Refusal) (b : List QueueEvent) → HasRefused (slice_get ps q) r b → HasRefused (slice_get ps' q) r b)
      → (before : List Deed) (d : Deed) → IsBacked f ps before d → IsBacked f ps' before d
  still_backed ps ps' h before (FoundFull q) k = h q Full (queue_deeds q f before) k
  still_backed ps ps' h before (FoundEmpty q) k = h q Empty (queue_deeds q f before) k
  still_backed ps ps' h before (Started q b) k = tt
  still_backed ps ps' h before (Put q v) k = tt
  still_backed ps ps' h before (Got q v) k = tt
  still_backed ps ps' h before (Requested q) k = tt
  still_backed ps ps' h before Saw k = tt
  still_backed ps ps' h before (FoundEnded q o) k = tt
  still_backed ps ps' h before (Ended o) k = tt

  one_refusal : (ps : List HeldPass) (deeds : List Deed) (x : Deed)
      → ((before after : List Deed) (d : Deed) → deeds ≡ before ++ d ∷ after → IsBacked f ps before d) → IsBacked f ps deeds x
      → (before after : List Deed) (d : Deed) → deeds ++ x ∷ [] ≡ before ++ d ∷ after → IsBacked f ps before d
  one_refusal ps deeds x old new before after d e = ⊎_elim
      (λ t. subst (λ (b : List Deed). IsBacked f ps b d) t.0 (subst (λ (k : Deed). IsBacked f ps deeds k) t.1 new))
      (λ t. old before t.0 d t.1) (snoc_cases deeds before after x d e)

  -- where a deed more is no start, what was handed out stays so
  no_more_handed : (ps : List HeldPass) (deeds : List Deed) (x : Deed) → started_by x ≡ None → PassesAgree f ps deeds
      → (before after : List Deed) (g : ℕ) (b : Begin) → deeds ++ x ∷ [] ≡ before ++ Started g b ∷ after → (q : ℕ) (s : HeldPass)
      → slice_get ps q ≡ Some s → HasHanded f s g (queue_deeds q f before)
  no_more_handed ps deeds x no_start h before after g b e q s at = ⊎_elim
      (λ t. absurd (none-some g (sym no_start ∙ ap started_by t.1)))
      (λ t. h.handed before t.0 g b t.1 q s at) (snoc_cases deeds before after x (Started g b) e)

  -- a deed that is no event of a queue and no start, and is backed
  adds : (ps : List HeldPass) (deeds : List Deed) (x : Deed) → ((q : ℕ) → queue_deed q f x ≡ None) → started_by x ≡ None → IsBacked f ps deeds x
      → PassesAgree f ps deeds → PassesAgree f ps (deeds ++ x ∷ [])
  adds ps deeds x none no_start new g = record {
    acts = λ q. nothing_given (queue_deed q f) deeds x (none q) ∙ g.acts q;
    parts = λ q s at. g.parts q s at ∙ sym (nothing_given started_by deeds x no_start);
    handed = no_more_handed ps deeds x no_start g;
    refusals = one_refusal ps deeds x g.refusals new;
  }

  pub look_agrees : (ps : List HeldPass) (deeds : List Deed) → PassesAgree f ps deeds → PassesAgree f ps (deeds ++ Saw ∷ [])
  look_agrees ps deeds g = adds ps deeds Saw (λ q. refl) refl tt g

  pub request_agrees : (ps : List HeldPass) (deeds : List Deed) (i : ℕ) → PassesAgree f ps deeds → PassesAgree f ps (deeds ++ Requested i ∷ [])
  request_agrees ps deeds i g = adds ps deeds (Requested i) (λ q. refl) refl tt g

  pub peek_agrees : (ps : List HeldPass) (deeds : List Deed) (i : ℕ) (o : Outcome) → PassesAgree f ps deeds → PassesAgree f ps (deeds ++ FoundEnded i o ∷ [])
  peek_agrees ps deeds i o g = adds ps deeds (FoundEnded i o) (λ q. refl) refl tt g

  pub finish_agrees : (ps : List HeldPass) (deeds : List Deed) (o : Outcome) → PassesAgree f ps deeds → PassesAgree f ps (deeds ++ Ended o ∷ [])
  finish_agrees ps deeds o g = adds ps deeds (Ended o) (λ q. refl) refl tt g

  acts_are : (ps : List HeldPass) (deeds : List Deed) (q : ℕ) (s : HeldPass) → slice_get ps q ≡ Some s → PassesAgree f ps deeds
      → queue_deeds q f deeds ≡ s.view.own.acts
  acts_are ps deeds q s at g = g.acts q ∙ ap acts_by at

  refused_now : (ps : List HeldPass) (deeds : List Deed) (q : ℕ) (r : Refusal) (o : Option HeldPass) → slice_get ps q ≡ o
      → ((s : HeldPass) → o ≡ Some s → Held (held_at r s.view) (stands s.view)) → PassesAgree f ps deeds → HasRefused o r (queue_deeds q f deeds)
  refused_now ps deeds q r None at h g = tt
  refused_now ps deeds q r (Some s) at h g =
      subst (λ (b : List QueueEvent). WasFound s.view (held_at r s.view) b) (sym (acts_are ps deeds q s at g))
      (found_now s.view (held_at r s.view) (h s refl))

  pub full_agrees : (ps : List HeldPass) (deeds : List Deed) (q : ℕ) → FoundFullAt ps q → PassesAgree f ps deeds
      → PassesAgree f ps (deeds ++ FoundFull q ∷ [])
  full_agrees ps deeds q h g = adds ps deeds (FoundFull q) (λ k. refl) refl (refused_now ps deeds q Full (slice_get ps q) refl h g) g

  pub empty_agrees : (ps : List HeldPass) (deeds : List Deed) (q : ℕ) → FoundEmptyAt ps q → PassesAgree f ps deeds
      → PassesAgree f ps (deeds ++ FoundEmpty q ∷ [])
  empty_agrees ps deeds q h g = adds ps deeds (FoundEmpty q) (λ k. refl) refl (refused_now ps deeds q Empty (slice_get ps q) refl h g) g

  -- an event of the queue q, where the deed x is that event alone
  module _ (ps : List HeldPass) (deeds : List Deed) (q : ℕ) (s s' : HeldPass) (log : List QueueEvent) (a t : QueueEvent) (x : Deed)
      (at : slice_get ps q ≡ Some s) (seen : Begins log s.view.own.seen) (is : s'.view ≡ with_act s.view log a t)
      (one : (k : ℕ) → queue_deed k f x ≡ if q == k then Some a else None) (free : (l : List HeldPass) (b : List Deed) → IsBacked f l b x)
      (no_start : started_by x ≡ None) (g : PassesAgree f ps deeds) where
    abbrev row : List HeldPass
    row = set ps q s'

    here : slice_get row q ≡ Some s'
    here = get_set_same ps q s' s at

    later : (k : ℕ) (r : Refusal) (b : List QueueEvent) → HasRefused (slice_get ps k) r b → HasRefused (slice_get row k) r b
    later k r b w = dite (ℕ_discrete k q)
        (λ y. subst (λ (j : ℕ). HasRefused (slice_get row j) r b) (sym y)
        (subst (λ (o : Option HeldPass). HasRefused o r b) (sym here)
        (subst (λ (u : PassView). WasFound u (held_at r u) b) (sym is)
        (refused_after_act r s.view log a t b seen (subst (λ (o : Option HeldPass). HasRefused o r b) (ap (slice_get ps) y ∙ at) w)))))
        (λ n. subst (λ (o : Option HeldPass). HasRefused o r b) (sym (get_set_else ps q k s' n)) w)

    acts_after : (k : ℕ) → queue_deeds k f (deeds ++ x ∷ []) ≡ acts_by (slice_get row k)
    acts_after k = dite (ℕ_discrete q k)
        (λ y. given (queue_deed k f) deeds x a (one k ∙ ap (λ (b : Bool). if b then Some a else None) (eq-eqb q k y))
        ∙ (ap (λ l. l ++ a ∷ []) (ap (λ (j : ℕ). queue_deeds j f deeds) (sym y) ∙ acts_are ps deeds q s at g)
        ∙ (sym (ap (λ (w : PassView). w.own.acts) is) ∙ sym (ap (λ (j : ℕ). acts_by (slice_get row j)) (sym y) ∙ ap acts_by here))))
        (λ n. nothing_given (queue_deed k f) deeds x (one k ∙ ap (λ (b : Bool). if b then Some a else None) (ne_eqb q k n))
        ∙ (g.acts k ∙ sym (ap acts_by (get_set_else ps q k s' (λ z. n (sym z))))))

    parts_after : (k : ℕ) (u : HeldPass) → slice_get row k ≡ Some u → u.view.own.parts ≡ starts deeds
    parts_after k u hu = dite (ℕ_discrete k q)
        (λ y.
        let e : s' ≡ u = same_Some s' u (sym here ∙ (ap (slice_get row) (sym y) ∙ hu)) in
        ap (λ (w : HeldPass). w.view.own.parts) (sym e) ∙ (ap (λ (w : PassView). w.own.parts) is ∙ g.parts q s at))
        (λ n. g.parts k u (sym (get_set_else ps q k s' n) ∙ hu))

    handed_after : (before after : List Deed) (h : ℕ) (b : Begin) → deeds ++ x ∷ [] ≡ before ++ Started h b ∷ after → (k : ℕ) (u : HeldPass)
        → slice_get row k ≡ Some u → HasHanded f u h (queue_deeds k f before)
    handed_after before after h b e k u hu = dite (ℕ_discrete k q)
        (λ y.
        let same : s' ≡ u = same_Some s' u (sym here ∙ (ap (slice_get row) (sym y) ∙ hu)) in
        let was = no_more_handed ps deeds x no_start g before after h b e q s at in (
          was.0,
          subst (Among was.0) (sym (ap (λ (v : PassView). v.own.handed) is) ∙ ap (λ (w : HeldPass). w.view.own.handed) same) was.1,
          was.2,
          was.3 ∙ ap (λ (j : ℕ). queue_deeds j f before) (sym y),
        ))
        (λ n. no_more_handed ps deeds x no_start g before after h b e k u (sym (get_set_else ps q k s' n) ∙ hu))

    agrees_act : PassesAgree f row (deeds ++ x ∷ [])
    agrees_act = record {
      acts = acts_after;
      parts = λ k u hu. parts_after k u hu ∙ sym (nothing_given started_by deeds x no_start);
      handed = handed_after;
      refusals = one_refusal row deeds x (λ before after d e. still_backed ps row later before d (g.refusals before after d e)) (free row deeds);
    }

  pub put_agrees : (ps ps' : List HeldPass) (deeds : List Deed) (q value stamp : ℕ) → ((k : ℕ) (s : HeldPass) → slice_get ps k ≡ Some s → s.view.own.id ≡ f)
      → PutsInto ps q value stamp ps' → PassesAgree f ps deeds → PassesAgree f ps' (deeds ++ Put q value ∷ [])
  put_agrees ps ps' deeds q value stamp whose put g = subst (λ (l : List HeldPass). PassesAgree f l (deeds ++ Put q value ∷ [])) (sym put.is)
      (let did = put.did in
      agrees_act ps deeds q put.pass put.pass' did.log (event.Put put.pass.view.own.id value) (event.Put put.pass.view.own.id stamp) (Put q value) put.at
      (did.before.begins put.pass.view.own (inl refl)) did.is
      (λ k. ap (λ (i : ℕ). if q == k then Some (event.Put i value) else None) (sym (whose q put.pass put.at))) (λ l b. tt) refl g)

  pub got_agrees : (ps ps' : List HeldPass) (deeds : List Deed) (q value stamp : ℕ) → ((k : ℕ) (s : HeldPass) → slice_get ps k ≡ Some s → s.view.own.id ≡ f)
      → GetsFrom ps q value stamp ps' → PassesAgree f ps deeds → PassesAgree f ps' (deeds ++ Got q value ∷ [])
  got_agrees ps ps' deeds q value stamp whose got g = subst (λ (l : List HeldPass). PassesAgree f l (deeds ++ Got q value ∷ [])) (sym got.is)
      (let did = got.did in
      agrees_act ps deeds q got.pass got.pass' did.log (event.Got got.pass.view.own.id got.item.value)
      (event.Got got.pass.view.own.id got.item.stamp) (Got q value) got.at
      (did.before.begins got.pass.view.own (inl refl)) did.is
      (λ k i. if q == k then Some (event.Got (sym (whose q got.pass got.at) i) (sym got.value_is i)) else None) (λ l b. tt) refl g)

  kept_acts : (end : ℕ) (ps : List HeldPass) (q : ℕ) → acts_by (slice_get ps q) ≡ acts_by (slice_get (map (kept_pass end) ps) q)
  kept_acts end [] q = refl
  kept_acts end (s ∷ ps) zero = refl
  kept_acts end (s ∷ ps) (suc q) = kept_acts end ps q

  kept_refused : (end : ℕ) (ps : List HeldPass) (q : ℕ) (r : Refusal) (b : List QueueEvent) → HasRefused (slice_get ps q) r b
      → HasRefused (slice_get (map (kept_pass end) ps) q) r b
  kept_refused end [] q r b w = w
  kept_refused end (s ∷ ps) zero r b w = refused_after_part r s.view end b w
  kept_refused end (s ∷ ps) (suc q) r b w = kept_refused end ps q r b w

  given_acts : (end : ℕ) (ps : List HeldPass) (q : ℕ) → [] ≡ acts_by (slice_get (map (given_pass end) ps) q)
  given_acts end [] q = refl
  given_acts end (s ∷ ps) zero = refl
  given_acts end (s ∷ ps) (suc q) = given_acts end ps q

  -- the pass of queue q has split off one more, which began with all that its starter had seen
  handed_now : (ps : List HeldPass) (deeds : List Deed) (id : ℕ) (begin : Begin) → AreTheirs f id ps
      → PassesAgree f ps deeds → (before after : List Deed) (g : ℕ) (b : Begin) → deeds ++ Started id begin ∷ [] ≡ before ++ Started g b ∷ after
      → (q : ℕ) (u : HeldPass) → slice_get (map (kept_pass begin.end) ps) q ≡ Some u → HasHanded f u g (queue_deeds q f before)
  handed_now ps deeds id begin theirs h before after g b e q u hu =
      let t = part_cases (kept_pass begin.end) ps q u hu in
      let s = t.0 in
      let pass = theirs q s t.1 in
      subst (λ (w : HeldPass). HasHanded f w g (queue_deeds q f before)) t.2 (⊎_elim
      (λ last.
      let part : Handed = record { id = s.view.own.next; seen = s.view.own.seen } in (
        part,
        Among-append_right s.view.own.handed (part ∷ []) part (inl refl),
        pass.follows ∙ same_Some id g (ap started_by last.1),
        ap (λ (i : ℕ). cut i s.view.own.seen) (sym pass.number) ∙ (pass.aware.own ∙ (sym (acts_are ps deeds q s t.1 h) ∙ ap (queue_deeds q f) last.0)),
      ))
      (λ early. let was = h.handed before early.0 g b early.1 q s t.1 in (
        was.0,
        Among-append_left s.view.own.handed (record { id = s.view.own.next; seen = s.view.own.seen } ∷ []) was.0 was.1,
        was.2,
        was.3,
      ))
      (snoc_cases deeds before after (Started id begin) (Started g b) e))

  pub start_agrees : (ps : List HeldPass) (deeds : List Deed) (id : ℕ) (begin : Begin) → AreTheirs f id ps
      → PassesAgree f ps deeds → PassesAgree f (map (kept_pass begin.end) ps) (deeds ++ Started id begin ∷ [])
  start_agrees ps deeds id begin theirs g = record {
    acts = λ q. nothing_given (queue_deed q f) deeds (Started id begin) refl ∙ (g.acts q ∙ kept_acts begin.end ps q);
    parts = λ q u hu. let t = part_cases (kept_pass begin.end) ps q u hu in
        ap (λ (w : HeldPass). w.view.own.parts) (sym t.2)
        ∙ (ap (λ l. l ++ t.0.view.own.next ∷ []) (g.parts q t.0 t.1)
        ∙ (ap (λ (n : ℕ). starts deeds ++ n ∷ []) (theirs q t.0 t.1).follows ∙ sym (given started_by deeds (Started id begin) id refl)));
    handed = handed_now ps deeds id begin theirs g;
    refusals = one_refusal (map (kept_pass begin.end) ps) deeds (Started id begin)
        (λ before after d e. still_backed ps (map (kept_pass begin.end) ps) (kept_refused begin.end ps) before d (g.refusals before after d e)) tt;
  }

  -- passes that have done nothing agree with no deeds
  pub fresh_agrees : (ps : List HeldPass) (end : ℕ) → PassesAgree f (map (given_pass end) ps) []
  fresh_agrees ps end = record {
    acts = λ q. given_acts end ps q;
    parts = λ q u hu. let t = part_cases (given_pass end) ps q u hu in ap (λ (w : HeldPass). w.view.own.parts) (sym t.2);
    handed = λ before after g b e. absurd (not_later before (Started g b) after e);
    refusals = λ before after d e. absurd (not_later before d after e);
  }
