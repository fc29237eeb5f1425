-- What a seat knows stays.
use Rattle.std.proofs.Common.{◌≡◌, ℕ, true, Option, None, Some, ◌⊎◌, inl, inr, ⊎_elim, refl, sym, ◌∙◌, subst}
use Rattle.std.proofs.lemmas.Option.{none-some}
use Rattle.fx_term.specs.Lists.{Among}
use Rattle.fx_term.proofs.ListLaws.{Among-append_left, Among-append_right}
use Rattle.fx_term.specs.declared.outcome.Outcome.{Outcome}
use Rattle.fx_word.specs.declared.entry.Entry.{Entry}
use Rattle.fx_word.specs.declared.seat_view.SeatView.{SeatView}
use Rattle.fx_word.specs.Entry.{asking, looking, finished, peeked}
use Rattle.fx_word.specs.SeatView.{In, entries, with_own, joined, IsAsked, Knows, KnowsRequestStamp, KnowsEndStamp, Keeps}
use Rattle.fx_word.specs.Change.{Change}
use Rattle.fx_word.specs.Change.Change.{requests, looks, splits, finishes, peeks, gathers}

-- an entry says of requests and ends what another one says
record Says (e d : Entry) : Type 0 where
  pub id : d.id ≡ e.id
  pub seen : e.seen ≡ true → d.seen ≡ true
  pub loaded : (t : ℕ) → Among t e.loaded → Among t d.loaded
  pub asked : (i : ℕ) → Among i e.asked → Among i d.asked
  pub asked_with : (i t : ℕ) → Among (i, t) e.asked_with → Among (i, t) d.asked_with
  pub learnt : (i : ℕ) (o : Outcome) → Among (i, o) e.learnt → Among (i, o) d.learnt
  pub learnt_stamps : (i t : ℕ) → Among (i, t) e.learnt_stamps → Among (i, t) d.learnt_stamps
  pub ended : (o : Outcome) → e.ended ≡ Some o → (d.ended ≡ Some o) × ((t : ℕ) → e.stored_stamp ≡ Some t → d.stored_stamp ≡ Some t)

looking_says : (found : Option ℕ) (e : Entry) → Says e (looking found e)
looking_says None e = record {
  id = refl;
  seen = λ h. h;
  loaded = λ t h. h;
  asked = λ i h. h;
  asked_with = λ i t h. h;
  learnt = λ i o h. h;
  learnt_stamps = λ i t h. h;
  ended = λ o h. (h, λ t s. s);
}
looking_says (Some n) e = record {
  id = refl;
  seen = λ h. refl;
  loaded = λ t h. inr h;
  asked = λ i h. h;
  asked_with = λ i t h. h;
  learnt = λ i o h. h;
  learnt_stamps = λ i t h. h;
  ended = λ o h. (h, λ t s. s);
}

-- what the own entry says of an end the next one says
ends_so : (i t : ℕ) (e d : Entry) → Says e d → Among (i, t) e.learnt_stamps ⊎ ((o : Outcome) × (e.id ≡ i) × (e.ended ≡ Some o) × (e.stored_stamp ≡ Some t))
    → Among (i, t) d.learnt_stamps ⊎ ((o : Outcome) × (d.id ≡ i) × (d.ended ≡ Some o) × (d.stored_stamp ≡ Some t))
ends_so i t e d s h = ⊎_elim (λ m. inl (s.learnt_stamps i t m))
    (λ m. let more = s.ended m.0 m.2 in inr (m.0, s.id ∙ m.1, more.0, more.1 t m.3)) h

own_keeps : (v : SeatView) (d : Entry) → Says v.own d → Keeps v (with_own v d)
own_keeps v d s = record {
  asked = λ h. ⊎_elim (λ t. inl (s.seen t))
      (λ t. let found : Among d.id t.0.asked = subst (λ (k : ℕ). Among k t.0.asked) (sym s.id) t.2 in ⊎_elim
      (λ y. inr (d, inl refl, s.asked d.id (subst (λ (e : Entry). Among d.id e.asked) y found)))
      (λ y. inr (t.0, inr y, found)) t.1) h;
  asked_with = λ n h. ⊎_elim (λ t. inl (s.loaded n t))
      (λ t. let found : Among (d.id, n) t.0.asked_with = subst (λ (k : ℕ). Among (k, n) t.0.asked_with) (sym s.id) t.2 in ⊎_elim
      (λ y. inr (d, inl refl, s.asked_with d.id n (subst (λ (e : Entry). Among (d.id, n) e.asked_with) y found)))
      (λ y. inr (t.0, inr y, found)) t.1) h;
  ends = λ i o h. ⊎_elim
      (λ y. (
        d,
        inl refl,
        ⊎_elim (λ m. inl (s.learnt i o m)) (λ m. inr (s.id ∙ m.0, (s.ended o m.1).0))
            (subst (λ (e : Entry). Among (i, o) e.learnt ⊎ ((e.id ≡ i) × (e.ended ≡ Some o))) y h.2),
      ))
      (λ y. (h.0, inr y, h.2)) h.1;
  end_stamps = λ i t h. ⊎_elim
      (λ y. (
        d,
        inl refl,
        ends_so i t v.own d s (subst
            (λ (e : Entry). Among (i, t) e.learnt_stamps ⊎ ((o : Outcome) × (e.id ≡ i) × (e.ended ≡ Some o) × (e.stored_stamp ≡ Some t))) y h.2),
      ))
      (λ y. (h.0, inr y, h.2)) h.1;
}

joined_has : (v w : SeatView) (e : Entry) → In e w → In e (joined v w)
joined_has v w e h = inr (Among-append_left (entries w) v.taken e h)

joined_still_has : (v w : SeatView) (e : Entry) → In e v → In e (joined v w)
joined_still_has v w e h = ⊎_elim inl (λ y. inr (Among-append_right (entries w) v.taken e y)) h

pub changes_keep : (v w : SeatView) → Change v w → Keeps v w
changes_keep v _ (requests i n) = own_keeps v (asking i n v.own) record {
  id = refl;
  seen = λ h. h;
  loaded = λ t h. h;
  asked = λ j h. inr h;
  asked_with = λ j t h. inr h;
  learnt = λ j o h. h;
  learnt_stamps = λ j t h. h;
  ended = λ o h. (h, λ t s. s);
}
changes_keep v _ (looks found) = own_keeps v (looking found v.own) (looking_says found v.own)
changes_keep v _ (splits b) = own_keeps v _ record {
  id = refl;
  seen = λ h. h;
  loaded = λ t h. h;
  asked = λ j h. h;
  asked_with = λ j t h. h;
  learnt = λ j o h. h;
  learnt_stamps = λ j t h. h;
  ended = λ o h. (h, λ t s. s);
}
changes_keep v _ (finishes o n running) = own_keeps v (finished o n v.own) record {
  id = refl;
  seen = λ h. h;
  loaded = λ t h. h;
  asked = λ j h. h;
  asked_with = λ j t h. h;
  learnt = λ j q h. h;
  learnt_stamps = λ j t h. h;
  ended = λ q h. absurd (none-some q (sym running ∙ h));
}
changes_keep v _ (peeks i o n) = own_keeps v (peeked i o n v.own) record {
  id = refl;
  seen = λ h. h;
  loaded = λ t h. h;
  asked = λ j h. h;
  asked_with = λ j t h. h;
  learnt = λ j q h. inr h;
  learnt_stamps = λ j t h. inr h;
  ended = λ q h. (h, λ t s. s);
}
changes_keep v _ (gathers w) = record {
  asked = λ h. ⊎_elim inl (λ t. inr (t.0, joined_still_has v w t.0 t.1, t.2)) h;
  asked_with = λ n h. ⊎_elim inl (λ t. inr (t.0, joined_still_has v w t.0 t.1, t.2)) h;
  ends = λ i o h. (h.0, joined_still_has v w h.0 h.1, h.2);
  end_stamps = λ i t h. (h.0, joined_still_has v w h.0 h.1, h.2);
}

pub own_request : (v : SeatView) (t : ℕ) → IsAsked (with_own v (asking v.own.id t v.own)) × KnowsRequestStamp (with_own v (asking v.own.id t v.own)) t
own_request v t = (inr (asking v.own.id t v.own, inl refl, inl refl), inr (asking v.own.id t v.own, inl refl, inl refl))

pub own_look : (v : SeatView) (t : ℕ) → IsAsked (with_own v (looking (Some t) v.own)) × KnowsRequestStamp (with_own v (looking (Some t) v.own)) t
own_look v t = (inl refl, inl (inl refl))

pub own_end : (v : SeatView) (o : Outcome) (t : ℕ)
    → Knows (with_own v (finished o t v.own)) v.own.id o × KnowsEndStamp (with_own v (finished o t v.own)) v.own.id t
own_end v o t = ((finished o t v.own, inl refl, inr (refl, refl)), (finished o t v.own, inl refl, inr (o, refl, refl, refl)))

pub peeked_end : (v : SeatView) (i : ℕ) (o : Outcome) (t : ℕ)
    → Knows (with_own v (peeked i o t v.own)) i o × KnowsEndStamp (with_own v (peeked i o t v.own)) i t
peeked_end v i o t = ((peeked i o t v.own, inl refl, inl (inl refl)), (peeked i o t v.own, inl refl, inl (inl refl)))

pub gathered_ends : (v w : SeatView) (i : ℕ) (o : Outcome) → Knows w i o → Knows (joined v w) i o
gathered_ends v w i o h = (h.0, joined_has v w h.0 h.1, h.2)

pub gathered_requests : (v w : SeatView) (e : Entry) → In e w → Among v.own.id e.asked → IsAsked (joined v w)
gathered_requests v w e h m = inr (e, joined_has v w e h, m)

pub gathered_end_stamps : (v w : SeatView) (i t : ℕ) → KnowsEndStamp w i t → KnowsEndStamp (joined v w) i t
gathered_end_stamps v w i t h = (h.0, joined_has v w h.0 h.1, h.2)

pub gathered_request_stamps : (v w : SeatView) (e : Entry) (t : ℕ) → In e w → Among (v.own.id, t) e.asked_with → KnowsRequestStamp (joined v w) t
gathered_request_stamps v w e t h m = inr (e, joined_has v w e h, m)
