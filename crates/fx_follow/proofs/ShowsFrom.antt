-- The step of a run that shows an event, by its place in the trace, and what is told of it.
use Rattle.std.proofs.Common.{◌≡◌, ℕ, zero, suc, ◌<◌, Option, Some, List, [], ◌∷◌, ◌++◌, length, get_or, refl, sym, ◌∙◌, ap, subst}
use Rattle.std.specs.Prelude.{slice_get}
use Rattle.std.proofs.lemmas.Option.{none-some, same_Some, slice_get-get_or, slice_get_within}
use Rattle.fx_term.specs.declared.event.Event.{Event}
use Rattle.fx_term.specs.declared.event.Event.TheVariants as event
use Rattle.fx_term.specs.declared.node.Node.{Node}
use Rattle.fx_term.specs.declared.node.NodeId.{NodeId}
use Rattle.fx_model.specs.Row.{Counts, Label, Silent, Shows, Learns, Starts}
use Rattle.fx_model.specs.Run.{Leads, events}
use Rattle.fx_model.specs.Step.{Progress, Step}
use Rattle.fx_follow.specs.ShowsFrom.{ShowsFrom}
use Rattle.fx_follow.specs.Trails.{IsStandAt, TellsStep, LeadsTelling}
use Rattle.fx_follow.specs.declared.stand.Stand.{Stand}

module _ (nodes : List Node) (d : Counts) (q : Progress) (end : Option NodeId) where
  -- the steps alone, without what is told of them
  pub leads_alone : (ls : List Label) (c : Counts) (p : Progress) (last : Option NodeId) (stands : List Stand)
      → LeadsTelling nodes c p last ls stands d q end → Leads c p ls d q
  leads_alone [] c p last stands h = (h.1, h.2)
  leads_alone (l ∷ ls) c p last stands h = (h.0, h.1, h.5, leads_alone ls h.0 h.1 h.2 h.4 h.8)

  -- as many stands are told as events are shown
  pub as_many : (ls : List Label) (c : Counts) (p : Progress) (last : Option NodeId) (stands : List Stand)
      → LeadsTelling nodes c p last ls stands d q end → length stands ≡ length (events ls)
  as_many [] c p last stands h = ap (λ (xs : List Stand). length xs) h.0
  as_many (Silent ∷ ls) c p last stands h =
      ap (λ (xs : List Stand). length xs) (h.7 ∙ ap (λ (xs : List Stand). xs ++ h.4) h.6.0) ∙ as_many ls h.0 h.1 h.2 h.4 h.8
  as_many (Shows x ∷ ls) c p last stands h =
      ap (λ (xs : List Stand). length xs) (h.7 ∙ ap (λ (xs : List Stand). xs ++ h.4) h.6.1) ∙ ap suc (as_many ls h.0 h.1 h.2 h.4 h.8)
  as_many (Learns g o x ∷ ls) c p last stands h =
      ap (λ (xs : List Stand). length xs) (h.7 ∙ ap (λ (xs : List Stand). xs ++ h.4) h.6.1) ∙ ap suc (as_many ls h.0 h.1 h.2 h.4 h.8)
  as_many (Starts g b ∷ ls) c p last stands h =
      ap (λ (xs : List Stand). length xs) (h.7 ∙ ap (λ (xs : List Stand). xs ++ h.4) h.6.1) ∙ ap suc (as_many ls h.0 h.1 h.2 h.4 h.8)

  -- event i is shown, and the ith that is told is told of it
  abbrev pub ShowsAt : Counts → Progress → Option NodeId → List Label → List Stand → ℕ → Event → Type 0
  ShowsAt c p last ls stands i e = (stand : Stand) × (slice_get stands i ≡ Some stand) × ShowsFrom nodes c p last ls i e stand d q

  past_silent : (c m : Counts) (p n : Progress) (last next : Option NodeId) (ls : List Label) (stands : List Stand) (i : ℕ) (e : Event)
      → Step c p Silent m n → TellsStep nodes p last Silent [] next → ShowsAt m n next ls stands i e → ShowsAt c p last (Silent ∷ ls) stands i e
  past_silent c m p n last next ls stands i e step tells at = let it = at.2 in (
    at.0,
    at.1,
    record {
      before = Silent ∷ it.before;
      label = it.label;
      after = it.after;
      is = ap (λ (xs : List Label). Silent ∷ xs) it.is;
      place = it.place;
      shows = it.shows;
      counts = it.counts;
      progress = it.progress;
      last_node = it.last_node;
      told = it.told;
      leads = (m, n, next, [], it.told, step, tells, refl, it.leads);
      next_counts = it.next_counts;
      next = it.next;
      step = it.step;
      goes_on = it.goes_on;
      stands = it.stands;
    },
  )

  -- a label that shows this event
  module _ (l : Label) (shown : Event) (shows : (ls : List Label) → events (l ∷ ls) ≡ shown ∷ events ls) where
    here : (c m : Counts) (p n : Progress) (last : Option NodeId) (ls : List Label) (stand : Stand) (stands : List Stand) (e : Event) → Step c p l m n
        → IsStandAt nodes p last l stand → Leads m n ls d q → shown ≡ e → ShowsAt c p last (l ∷ ls) (stand ∷ stands) 0 e
    here c m p n last ls stand stands e step at leads is = (
      stand,
      refl,
      record {
        before = [];
        label = l;
        after = ls;
        is = refl;
        place = refl;
        shows = shows [] ∙ ap (λ (x : Event). x ∷ []) is;
        counts = c;
        progress = p;
        last_node = last;
        told = [];
        leads = (refl, refl, refl, refl);
        next_counts = m;
        next = n;
        step = step;
        goes_on = leads;
        stands = at;
      },
    )

    past : (c m : Counts) (p n : Progress) (last next : Option NodeId) (ls : List Label) (stand : Stand) (stands : List Stand) (i : ℕ) (e : Event)
        → Step c p l m n → TellsStep nodes p last l (stand ∷ []) next → ShowsAt m n next ls stands i e
        → ShowsAt c p last (l ∷ ls) (stand ∷ stands) (suc i) e
    past c m p n last next ls stand stands i e step tells at = let it = at.2 in (
      at.0,
      at.1,
      record {
        before = l ∷ it.before;
        label = it.label;
        after = it.after;
        is = ap (λ (xs : List Label). l ∷ xs) it.is;
        place = ap (λ (es : List Event). length es) (shows it.before) ∙ ap suc it.place;
        shows = it.shows;
        counts = it.counts;
        progress = it.progress;
        last_node = it.last_node;
        told = stand ∷ it.told;
        leads = (m, n, next, stand ∷ [], it.told, step, tells, refl, it.leads);
        next_counts = it.next_counts;
        next = it.next;
        step = it.step;
        goes_on = it.goes_on;
        stands = it.stands;
      },
    )

    -- by what is shown after it
    by_more : (c m : Counts) (p n : Progress) (last next : Option NodeId) (ls : List Label) (stand : Stand) (stands : List Stand) (i : ℕ) (e : Event)
        → Step c p l m n → TellsStep nodes p last l (stand ∷ []) next → IsStandAt nodes p last l stand → Leads m n ls d q
        → slice_get (shown ∷ events ls) i ≡ Some e → ((j : ℕ) → slice_get (events ls) j ≡ Some e → ShowsAt m n next ls stands j e)
        → ShowsAt c p last (l ∷ ls) (stand ∷ stands) i e
    by_more c m p n last next ls stand stands zero e step tells at leads is more =
        here c m p n last ls stand stands e step at leads (same_Some shown e is)
    by_more c m p n last next ls stand stands (suc i) e step tells at leads is more =
        past c m p n last next ls stand stands i e step tells (more i is)

  -- Where steps are told, event i is shown by one of them, and the ith that is told is told of it
  pub shows_at : (ls : List Label) (c : Counts) (p : Progress) (last : Option NodeId) (stands : List Stand) (i : ℕ) (e : Event)
      → LeadsTelling nodes c p last ls stands d q end → slice_get (events ls) i ≡ Some e → ShowsAt c p last ls stands i e
  shows_at [] c p last stands i e h at = absurd (none-some e at)
  shows_at (Silent ∷ ls) c p last stands i e h at =
      let same : stands ≡ h.4 = h.7 ∙ ap (λ (xs : List Stand). xs ++ h.4) h.6.0 in
      subst (λ (xs : List Stand). ShowsAt c p last (Silent ∷ ls) xs i e) (sym same)
      (past_silent c h.0 p h.1 last h.2 ls h.4 i e h.5 (refl, h.6.1, h.6.2, h.6.3) (shows_at ls h.0 h.1 h.2 h.4 i e h.8 at))
  shows_at (Shows x ∷ ls) c p last stands i e h at =
      let same : stands ≡ h.6.0 ∷ h.4 = h.7 ∙ ap (λ (xs : List Stand). xs ++ h.4) h.6.1 in
      subst (λ (xs : List Stand). ShowsAt c p last (Shows x ∷ ls) xs i e) (sym same)
      (by_more (Shows x) x (λ ls. refl) c h.0 p h.1 last h.2 ls h.6.0 h.4 i e h.5 (h.6.0, refl, h.6.2, h.6.3) h.6.2
      (leads_alone ls h.0 h.1 h.2 h.4 h.8) at (λ j there. shows_at ls h.0 h.1 h.2 h.4 j e h.8 there))
  shows_at (Learns g o x ∷ ls) c p last stands i e h at =
      let same : stands ≡ h.6.0 ∷ h.4 = h.7 ∙ ap (λ (xs : List Stand). xs ++ h.4) h.6.1 in
      subst (λ (xs : List Stand). ShowsAt c p last (Learns g o x ∷ ls) xs i e) (sym same)
      (by_more (Learns g o x) x (λ ls. refl) c h.0 p h.1 last h.2 ls h.6.0 h.4 i e h.5 (h.6.0, refl, h.6.2, h.6.3) h.6.2
      (leads_alone ls h.0 h.1 h.2 h.4 h.8) at (λ j there. shows_at ls h.0 h.1 h.2 h.4 j e h.8 there))
  shows_at (Starts g b ∷ ls) c p last stands i e h at =
      let same : stands ≡ h.6.0 ∷ h.4 = h.7 ∙ ap (λ (xs : List Stand). xs ++ h.4) h.6.1 in
      subst (λ (xs : List Stand). ShowsAt c p last (Starts g b ∷ ls) xs i e) (sym same)
      (by_more (Starts g b) (event.Start g) (λ ls. refl) c h.0 p h.1 last h.2 ls h.6.0 h.4 i e h.5 (h.6.0, refl, h.6.2, h.6.3) h.6.2
      (leads_alone ls h.0 h.1 h.2 h.4 h.8) at (λ j there. shows_at ls h.0 h.1 h.2 h.4 j e h.8 there))

  -- so the ith that is told is told of a step that shows event i
  pub told_at : (ls : List Label) (c : Counts) (p : Progress) (last : Option NodeId) (stands : List Stand) (i : ℕ) (stand : Stand)
      → LeadsTelling nodes c p last ls stands d q end → slice_get stands i ≡ Some stand
      → (e : Event) × (slice_get (events ls) i ≡ Some e) × ShowsFrom nodes c p last ls i e stand d q
  told_at ls c p last stands i stand h at =
      let below : i < length (events ls) = subst (λ (n : ℕ). i < n) (as_many ls c p last stands h) (slice_get_within stands i stand at) in
      let e = get_or (events ls) i event.Seen in
      let shown : slice_get (events ls) i ≡ Some e = slice_get-get_or (events ls) i event.Seen below in
      let there = shows_at ls c p last stands i e h shown in
      let same : there.0 ≡ stand = same_Some there.0 stand (sym there.1 ∙ at) in
      (e, shown, subst (λ (s : Stand). ShowsFrom nodes c p last ls i e s d q) same there.2)
