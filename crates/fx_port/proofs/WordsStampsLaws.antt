-- What each call adds to the words' entry keeps the agreement of its stamps with the numbers of deeds.
use Rattle.std.proofs.Common.{◌≡◌, ℕ, Bool, true, Option, Some, None, List, [], ◌∷◌, ◌++◌, ◌<◌, length, set, ◌⊎◌}
use Rattle.std.proofs.Common.{refl, sym, ◌∙◌, ap, subst, inl, inr, ⊎_elim}
use Rattle.std.proofs.lemmas.Option.{none-some, same_Some}
use Rattle.fx_term.specs.Lists.{Among}
use Rattle.fx_term.proofs.ListLaws.{Among-append_left, Among-append_right, Among-append}
use Rattle.fx_term.specs.declared.begin.Begin.{Begin}
use Rattle.fx_term.specs.declared.outcome.Outcome.{Outcome}
use Rattle.fx_fiber.specs.Deed.{Deed, Started, Requested, Saw, FoundEnded, Ended}
use Rattle.fx_fiber.specs.StampedDeed.{StampedDeed, stamped_deed, deeds_of}
use Rattle.fx_word.specs.declared.entry.Entry.{Entry}
use Rattle.fx_word.specs.Entry.{new_entry, asking, looking, splitting, finished, peeked}
use Rattle.fx_port.specs.Marks.{is_marked}
use Rattle.fx_port.specs.WordsAgree.{WordsStampsAgree}
use Rattle.fx_port.proofs.MarkLaws.{mark_there, mark_stays}

-- a deed of a longer list is one of the list before, or the last one
module _ (ds : List StampedDeed) (d : StampedDeed) where
  cases : (x : StampedDeed) → Among x (ds ++ d ∷ []) → Among x ds ⊎ (x ≡ d)
  cases x i = ⊎_elim inl (λ j. ⊎_elim inr absurd j) (Among-append ds (d ∷ []) x i)

  earlier : (x : StampedDeed) → Among x ds → Among x (ds ++ d ∷ [])
  earlier x i = Among-append_left ds (d ∷ []) x i

  latest : Among d (ds ++ d ∷ [])
  latest = Among-append_right ds (d ∷ []) d (inl refl)

  -- what is read off a deed that the last one is not
  other : {A : Type 0} (read : StampedDeed → Option A) (x : StampedDeed) (a : A) → read d ≡ None → read x ≡ Some a → Among x (ds ++ d ∷ []) → Among x ds
  other read x a none is i = ⊎_elim (λ j. j) (λ e. absurd (none-some a (sym none ∙ (ap read (sym e) ∙ is)))) (cases x i)

-- what a deed has that tells of a start, a look, a peek or an end
abbrev pub start_of : StampedDeed → Option (Begin × ℕ)
start_of d = by_deed d.deed
  where
    by_deed : Deed → Option (Begin × ℕ)
    by_deed (Started f b) = Some (b, d.number)
    by_deed _ = None

abbrev pub look_of : StampedDeed → Option ℕ
look_of d = by_deed d.deed
  where
    by_deed : Deed → Option ℕ
    by_deed Saw = Some d.number
    by_deed _ = None

abbrev pub peek_of : StampedDeed → Option (ℕ × ℕ)
peek_of d = by_deed d.deed
  where
    by_deed : Deed → Option (ℕ × ℕ)
    by_deed (FoundEnded f o) = Some (f, d.number)
    by_deed _ = None

abbrev pub end_of : StampedDeed → Option ℕ
end_of d = by_deed d.deed
  where
    by_deed : Deed → Option ℕ
    by_deed (Ended o) = Some d.number
    by_deed _ = None

-- a new entry agrees with nothing done
pub fresh_agrees : (id : ℕ) (begin : Option (ℕ × Begin)) (next end : ℕ) (noted : List Bool) → WordsStampsAgree (new_entry id begin next end) noted []
fresh_agrees id begin next end noted = record {
  started = λ f t b i. absurd i;
  asked = λ f t i. absurd i;
  saw = λ t i. absurd i;
  found = λ f t o i. absurd i;
  ended = λ t o i. absurd i;
}

module _ (e : Entry) (noted : List Bool) (ds : List StampedDeed) (h : WordsStampsAgree e noted ds) where
  asked_more : (d : StampedDeed) (f t : ℕ) → Among (stamped_deed (Requested f) t) ds ⊎ ((is_marked noted f ≡ true) × (t ≡ 0))
      → Among (stamped_deed (Requested f) t) (ds ++ d ∷ []) ⊎ ((is_marked noted f ≡ true) × (t ≡ 0))
  asked_more d f t k = ⊎_elim (λ i. inl (earlier ds d (stamped_deed (Requested f) t) i)) inr k

  -- a deed that is no start, look, peek or end
  pub other_agrees : (d : StampedDeed) → start_of d ≡ None → look_of d ≡ None → peek_of d ≡ None → end_of d ≡ None
      → WordsStampsAgree e noted (ds ++ d ∷ [])
  other_agrees d no_start no_look no_peek no_end = record {
    started = λ f t b i. h.started f t b (other ds d start_of (stamped_deed (Started f b) t) (b, t) no_start refl i);
    asked = λ f t i. asked_more d f t (h.asked f t i);
    saw = λ t i. h.saw t (other ds d look_of (stamped_deed Saw t) t no_look refl i);
    found = λ f t o i. h.found f t o (other ds d peek_of (stamped_deed (FoundEnded f o) t) (f, t) no_peek refl i);
    ended = λ t o i. h.ended t o (other ds d end_of (stamped_deed (Ended o) t) t no_end refl i);
  }

  pub start_agrees : (b : Begin) → WordsStampsAgree (splitting b e) noted (ds ++ stamped_deed (Started e.next b) b.stamp ∷ [])
  start_agrees b = let d = stamped_deed (Started e.next b) b.stamp in record {
    started = λ f t c i. ⊎_elim (h.started f t c)
        (λ s. let same : (c, t) ≡ (b, b.stamp) = same_Some (c, t) (b, b.stamp) (ap start_of s) in
        ap (λ (x : Begin × ℕ). x.0.stamp) same ∙ sym (ap (λ (x : Begin × ℕ). x.1) same))
        (cases ds d (stamped_deed (Started f c) t) i);
    asked = λ f t i. asked_more d f t (h.asked f t i);
    saw = λ t i. h.saw t (other ds d look_of (stamped_deed Saw t) t refl refl i);
    found = λ f t o i. h.found f t o (other ds d peek_of (stamped_deed (FoundEnded f o) t) (f, t) refl refl i);
    ended = λ t o i. h.ended t o (other ds d end_of (stamped_deed (Ended o) t) t refl refl i);
  }

  pub request_agrees : (f t : ℕ) → WordsStampsAgree (asking f t e) noted (ds ++ stamped_deed (Requested f) t ∷ [])
  request_agrees f t = let d = stamped_deed (Requested f) t in let p = other_agrees d refl refl refl refl in record {
    started = p.started;
    asked = λ g s i. ⊎_elim
        (λ same. inl (subst (λ (x : ℕ × ℕ). Among (stamped_deed (Requested x.0) x.1) (ds ++ d ∷ [])) (sym same) (latest ds d)))
        (λ j. asked_more d g s (h.asked g s j)) i;
    saw = p.saw;
    found = p.found;
    ended = p.ended;
  }

  -- a request from outside adds no deed
  pub outside_agrees : (f : ℕ) → f < length noted → WordsStampsAgree (asking f 0 e) (set noted f true) ds
  outside_agrees f below = record {
    started = h.started;
    asked = λ g t i. ⊎_elim
        (λ same. inr (
          ap (λ (x : ℕ × ℕ). is_marked (set noted f true) x.0) same ∙ mark_there noted f below,
          ap (λ (x : ℕ × ℕ). x.1) same,
        ))
        (λ j. ⊎_elim inl (λ k. inr (mark_stays noted f g k.0, k.1)) (h.asked g t j)) i;
    saw = h.saw;
    found = h.found;
    ended = h.ended;
  }

  pub look_agrees : (t : ℕ) → WordsStampsAgree (looking (Some t) e) noted (ds ++ stamped_deed Saw t ∷ [])
  look_agrees t = let d = stamped_deed Saw t in record {
    started = λ f s b i. h.started f s b (other ds d start_of (stamped_deed (Started f b) s) (b, s) refl refl i);
    asked = λ f s i. asked_more d f s (h.asked f s i);
    saw = λ s i. ⊎_elim (λ j. inr (h.saw s j)) (λ same. inl (ap (λ (x : StampedDeed). x.number) same)) (cases ds d (stamped_deed Saw s) i);
    found = λ f s o i. h.found f s o (other ds d peek_of (stamped_deed (FoundEnded f o) s) (f, s) refl refl i);
    ended = λ s o i. h.ended s o (other ds d end_of (stamped_deed (Ended o) s) s refl refl i);
  }

  pub peek_agrees : (f t : ℕ) (o : Outcome) → WordsStampsAgree (peeked f o t e) noted (ds ++ stamped_deed (FoundEnded f o) t ∷ [])
  peek_agrees f t o = let d = stamped_deed (FoundEnded f o) t in record {
    started = λ g s b i. h.started g s b (other ds d start_of (stamped_deed (Started g b) s) (b, s) refl refl i);
    asked = λ g s i. asked_more d g s (h.asked g s i);
    saw = λ s i. h.saw s (other ds d look_of (stamped_deed Saw s) s refl refl i);
    found = λ g s v i. ⊎_elim (λ j. inr (h.found g s v j)) (λ same. inl (same_Some (g, s) (f, t) (ap peek_of same)))
        (cases ds d (stamped_deed (FoundEnded g v) s) i);
    ended = λ s v i. h.ended s v (other ds d end_of (stamped_deed (Ended v) s) s refl refl i);
  }

  -- before it tells how it ended it told no end
  pub finish_agrees : (o : Outcome) (t : ℕ) → ((v : Outcome) → Among (Ended v) (deeds_of ds) → ⊥)
      → WordsStampsAgree (finished o t e) noted (ds ++ stamped_deed (Ended o) t ∷ [])
  finish_agrees o t none = let d = stamped_deed (Ended o) t in record {
    started = λ g s b i. h.started g s b (other ds d start_of (stamped_deed (Started g b) s) (b, s) refl refl i);
    asked = λ g s i. asked_more d g s (h.asked g s i);
    saw = λ s i. h.saw s (other ds d look_of (stamped_deed Saw s) s refl refl i);
    found = λ g s v i. h.found g s v (other ds d peek_of (stamped_deed (FoundEnded g v) s) (g, s) refl refl i);
    ended = λ s v i. ⊎_elim (λ j. absurd (none v (deed_among ds (stamped_deed (Ended v) s) j)))
        (λ same. ap (λ (x : StampedDeed). Some x.number) (sym same)) (cases ds d (stamped_deed (Ended v) s) i);
  }
    where
      deed_among : (xs : List StampedDeed) (x : StampedDeed) → Among x xs → Among x.deed (deeds_of xs)
      deed_among [] x i = absurd i
      deed_among (y ∷ xs) x (inl same) = inl (ap (λ (k : StampedDeed). k.deed) same)
      deed_among (y ∷ xs) x (inr i) = inr (deed_among xs x i)
