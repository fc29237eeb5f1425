-- Each step keeps the rule of the words for stamps.
use Rattle.std.proofs.Common.{◌≡◌, ◌≢◌, ℕ, ◌+◌, ◌*◌, ◌≤◌, ◌<◌, Bool, true, false, List, Option, Some, None, ◌∷◌, ◌⊎◌, max, refl, sym, ◌∙◌, ap, subst, arith}
use Rattle.std.proofs.Common.{inl, inr, ⊎_elim, length, set, slice_index}
use Rattle.std.proofs.lemmas.Bool.{cases_lt}
use Rattle.std.proofs.lemmas.List.{get_or-set_same, get_or-set_other}
use Rattle.std.proofs.lemmas.Option.{none-some, same_Some}
use mathlib.Core.Logic.{dite}
use native.Mathlib.Decide.{ℕ_discrete}
use Rattle.fx_term.specs.Lists.{Among}
use Rattle.fx_term.specs.Maps.{with_at}
use Rattle.fx_term.proofs.MapLaws.{at_that, at_other, at_cases}
use Rattle.fx_term.specs.declared.begin.Begin.{Begin}
use Rattle.fx_term.specs.declared.outcome.Outcome.{Outcome}
use Rattle.fx_word.specs.declared.entry.Entry.{Entry}
use Rattle.fx_word.specs.Entry.{new_entry, raising, setting, asking, loading, storing_stamp, ending, learning_stamp}
use Rattle.fx_word.specs.Rule.{Book}
use Rattle.fx_word.specs.Stamps.{request_stamp, end_stamp, IsAskedWith, HasEndedWith, KeepsStamps}

-- the entry e' says the same of stamps
pub record SameStamps (e e' : Entry) : Type 0 where
  pub asked_with : e'.asked_with ≡ e.asked_with
  pub loaded : e'.loaded ≡ e.loaded
  pub stored_stamp : e'.stored_stamp ≡ e.stored_stamp
  pub learnt_stamps : e'.learnt_stamps ≡ e.learnt_stamps

-- a step on the entry of one fiber, and what it does to the words and the bits
module _ (words words' : List ℕ) (bit bit' : ℕ → Bool) (book : Book) (k : KeepsStamps words book bit) (e e' : Entry) (at : book e.id ≡ Some e) where
  abbrev after : Book
  after = with_at e.id (Some e') book

  -- an entry after the step is the changed one, or was there
  entry_cases : (i : ℕ) (d : Entry) → after i ≡ Some d → ((i ≡ e.id) × (e' ≡ d)) ⊎ ((i ≢ e.id) × (book i ≡ Some d))
  entry_cases i d h = ⊎_elim (λ t. inl (t.0, same_Some e' d t.1)) inr (at_cases e.id (Some e') book i (Some d) h)

  here : after e.id ≡ Some e'
  here = at_that e.id (Some e') book e.id refl

  module _ (asks_more : (x : ℕ × ℕ) → Among x e.asked_with → Among x e'.asked_with)
      (keeps_end : (t : ℕ) (o : Outcome) → e.ended ≡ Some o → e.stored_stamp ≡ Some t → (q : Outcome) × (e'.ended ≡ Some q) × (e'.stored_stamp ≡ Some t)) where
    still_asked : (i t : ℕ) → IsAskedWith book i t → IsAskedWith after i t
    still_asked i t a = dite (ℕ_discrete a.0 e.id)
        (λ y. (
          a.0,
          e',
          at_that e.id (Some e') book a.0 y,
          asks_more (i, t) (subst (λ (u : Entry). Among (i, t) u.asked_with) (same_Some a.1 e (sym a.2 ∙ (ap book y ∙ at))) a.3),
        ))
        (λ n. (a.0, a.1, at_other e.id (Some e') book a.0 n ∙ a.2, a.3))

    still_ended : (i t : ℕ) → HasEndedWith book i t → HasEndedWith after i t
    still_ended i t h = dite (ℕ_discrete i e.id)
        (λ y.
        let same : h.0 ≡ e = same_Some h.0 e (sym h.2 ∙ (ap book y ∙ at)) in
        let new = keeps_end t h.1 (sym (ap (λ (u : Entry). u.ended) same) ∙ h.3) (sym (ap (λ (u : Entry). u.stored_stamp) same) ∙ h.4) in
        (e', new.0, at_that e.id (Some e') book i y, new.1, new.2))
        (λ n. (h.0, h.1, at_other e.id (Some e') book i n ∙ h.2, h.3, h.4))

    step_keeps : ((i t : ℕ) → Among (i, t) e'.asked_with → t ≤ request_stamp words' i)
        → ((i : ℕ) → request_stamp words i ≤ request_stamp words' i)
        → ((i : ℕ) → (request_stamp words' i ≡ request_stamp words i) ⊎ Among (i, request_stamp words' i) e'.asked_with)
        → ((i : ℕ) → bit' i ≡ true → (bit i ≡ true) ⊎ ((request_stamp words' i ≢ 0) ⊎ Among (i, 0) e'.asked_with))
        → ((t : ℕ) → Among t e'.loaded → Among t e.loaded ⊎ IsAskedWith book e.id t)
        → ((t : ℕ) → e'.stored_stamp ≡ Some t → end_stamp words' e.id ≡ t)
        → ((i : ℕ) → i ≢ e.id → end_stamp words' i ≡ end_stamp words i)
        → ((o : Outcome) → e'.ended ≡ Some o → (t : ℕ) × (e'.stored_stamp ≡ Some t))
        → ((i t : ℕ) → Among (i, t) e'.learnt_stamps → Among (i, t) e.learnt_stamps ⊎ HasEndedWith book i t)
        → KeepsStamps words' after bit'
    step_keeps high grows reach sets load store others finish learn = record {
      highest = λ i t a. ⊎_elim (λ s. high i t (subst (λ (u : Entry). Among (i, t) u.asked_with) (sym s.1) a.3))
          (λ s. let le = k.highest i t (a.0, a.1, s.1, a.3) in let up = grows i in omega (arith, le, up)) (entry_cases a.0 a.1 a.2);
      reached = λ i. ⊎_elim
          (λ same. ⊎_elim (λ z. inl (same ∙ z)) (λ a. inr (subst (IsAskedWith after i) (sym same) (still_asked i (request_stamp words i) a))) (k.reached i))
          (λ own. inr (e.id, e', here, own)) (reach i);
      set = λ i b. ⊎_elim
          (λ old. ⊎_elim (λ ne. inl (λ z. ne (let up = grows i in omega (arith, z, up)))) (λ a. inr (still_asked i 0 a)) (k.set i old))
          (λ new. ⊎_elim inl (λ own. inr (e.id, e', here, own)) new) (sets i b);
      loads = λ i t d h l. ⊎_elim
          (λ s. ⊎_elim (λ old. still_asked i t (k.loads i t e (ap book s.0 ∙ at) old))
          (λ a. still_asked i t (subst (λ (n : ℕ). IsAskedWith book n t) (sym s.0) a))
          (load t (subst (λ (u : Entry). Among t u.loaded) (sym s.1) l)))
          (λ s. still_asked i t (k.loads i t d s.1 l)) (entry_cases i d h);
      stored = λ i t d h s. ⊎_elim (λ c. ap (end_stamp words') c.0 ∙ store t (ap (λ (u : Entry). u.stored_stamp) c.1 ∙ s))
          (λ c. others i c.0 ∙ k.stored i t d c.1 s) (entry_cases i d h);
      ends = λ i d o h s. ⊎_elim
          (λ c. subst (λ (u : Entry). (t : ℕ) × (u.stored_stamp ≡ Some t)) c.1 (finish o (ap (λ (u : Entry). u.ended) c.1 ∙ s)))
          (λ c. k.ends i d o c.1 s) (entry_cases i d h);
      learns = λ g i t d h l. ⊎_elim
          (λ s. ⊎_elim (λ old. still_ended i t (k.learns e.id i t e at old)) (still_ended i t)
          (learn i t (subst (λ (u : Entry). Among (i, t) u.learnt_stamps) (sym s.1) l)))
          (λ s. still_ended i t (k.learns g i t d s.1 l)) (entry_cases g d h);
    }

pair : (a b c d : ℕ) → a ≡ c → b ≡ d → ◌≡◌ {A = ℕ × ℕ} (a, b) (c, d)
pair a b c d p q = ap (λ (x : ℕ). (x, b)) p ∙ ap (λ (y : ℕ). (c, y)) q

max_other : (a b : ℕ) → (max a b ≡ b) ⊎ (max a b ≡ a)
max_other a b = ⊎_elim (λ lt. inl (omega (arith, lt))) (λ le. inr (omega (arith, le))) (cases_lt a b)

module _ (words : List ℕ) (bit : ℕ → Bool) (book : Book) (k : KeepsStamps words book bit) (e : Entry) (at : book e.id ≡ Some e) where
  own_high : (i t : ℕ) → Among (i, t) e.asked_with → t ≤ request_stamp words i
  own_high i t a = k.highest i t (e.id, e, at, a)

  own_stored : (t : ℕ) → e.stored_stamp ≡ Some t → end_stamp words e.id ≡ t
  own_stored t s = k.stored e.id t e at s

  -- a step that leaves stamps as they are, the bits of requests too, and that is no end
  pub calm_stamps : (words' : List ℕ) (e' : Entry) → ((i : ℕ) → request_stamp words' i ≡ request_stamp words i)
      → ((i : ℕ) → end_stamp words' i ≡ end_stamp words i) → SameStamps e e' → e'.ended ≡ e.ended → KeepsStamps words' (with_at e.id (Some e') book) bit
  calm_stamps words' e' requests ends same running =
      step_keeps words words' bit bit book k e e' at (λ x a. subst (Among x) (sym same.asked_with) a)
      (λ t o h s. (o, running ∙ h, same.stored_stamp ∙ s))
      (λ i t a. let le = own_high i t (subst (Among (i, t)) same.asked_with a) in let is = requests i in omega (arith, le, is))
      (λ i. let is = requests i in omega (arith, is)) (λ i. inl (requests i)) (λ i b. inl b) (λ t l. inl (subst (Among t) same.loaded l))
      (λ t s. ends e.id ∙ own_stored t (sym same.stored_stamp ∙ s)) (λ i n. ends i)
      (λ o h. let t = k.ends e.id e o at (sym running ∙ h) in (t.0, same.stored_stamp ∙ t.1))
      (λ i t l. inl (subst (Among (i, t)) same.learnt_stamps l))

  -- the request's stamp of g is raised
  pub raise_keeps : (g t : ℕ) → 4 * g + 2 < length words
      → KeepsStamps (set words (4 * g + 2) (max (request_stamp words g) t)) (with_at e.id (Some (raising g t e)) book) bit
  raise_keeps g t inside =
      step_keeps words words' bit bit book k e (raising g t e) at (λ x a. inr a) (λ n o h s. (o, h, s))
      high grows reach (λ i b. inl b) (λ n l. inl l) (λ n s. same_end e.id ∙ own_stored n s) (λ i n. same_end i) (λ o h. k.ends e.id e o at h) (λ i n l. inl l)
    where
      words' : List ℕ
      words' = set words (4 * g + 2) (max (request_stamp words g) t)

      there : (i : ℕ) → i ≡ g → request_stamp words' i ≡ max (request_stamp words g) t
      there i y = ap (request_stamp words') y ∙ get_or-set_same words (4 * g + 2) _ 0 inside

      elsewhere : (i : ℕ) → i ≢ g → request_stamp words' i ≡ request_stamp words i
      elsewhere i n = get_or-set_other words (4 * g + 2) (4 * i + 2) _ 0 (λ z. n (omega (arith, z)))

      same_end : (i : ℕ) → end_stamp words' i ≡ end_stamp words i
      same_end i = get_or-set_other words (4 * g + 2) (4 * i + 3) _ 0 (λ z. omega (arith, z))

      grows : (i : ℕ) → request_stamp words i ≤ request_stamp words' i
      grows i = dite (ℕ_discrete i g) (λ y. let is = there i y in let same : request_stamp words i ≡ request_stamp words g = ap (request_stamp words) y in
          omega (arith, is, same))
          (λ n. let is = elsewhere i n in omega (arith, is))

      high : (i n : ℕ) → Among (i, n) ((g, t) ∷ e.asked_with) → n ≤ request_stamp words' i
      high i n (inl same) =
          let is = there i (ap (λ (x : ℕ × ℕ). x.0) same) in let stamp : n ≡ t = ap (λ (x : ℕ × ℕ). x.1) same in omega (arith, is, stamp)
      high i n (inr a) = let le = own_high i n a in let up = grows i in omega (arith, le, up)

      reach : (i : ℕ) → (request_stamp words' i ≡ request_stamp words i) ⊎ Among (i, request_stamp words' i) ((g, t) ∷ e.asked_with)
      reach i = dite (ℕ_discrete i g)
          (λ y. ⊎_elim (λ new. inr (inl (pair i (request_stamp words' i) g t y (there i y ∙ new))))
          (λ old. inl (there i y ∙ (old ∙ ap (request_stamp words) (sym y)))) (max_other (request_stamp words g) t))
          (λ n. inl (elsewhere i n))

  module _ (g x : ℕ) where
    -- the state words and their bits are not those of stamps
    state_requests : (i : ℕ) → request_stamp (set words (4 * g) x) i ≡ request_stamp words i
    state_requests i = get_or-set_other words (4 * g) (4 * i + 2) x 0 (λ z. omega (arith, z))

    state_ends : (i : ℕ) → end_stamp (set words (4 * g) x) i ≡ end_stamp words i
    state_ends i = get_or-set_other words (4 * g) (4 * i + 3) x 0 (λ z. omega (arith, z))

    high_still : (i t : ℕ) → Among (i, t) e.asked_with → t ≤ request_stamp (set words (4 * g) x) i
    high_still i t a = let le = own_high i t a in let is = state_requests i in omega (arith, le, is)

    -- the request bit of g is set, after its stamp was raised to one above 0
    pub set_keeps : (t : ℕ) → Among (g, t) e.asked_with → 0 < t
        → KeepsStamps (set words (4 * g) x) (with_at e.id (Some (setting g e)) book) (with_at g true bit)
    set_keeps t asked above =
        step_keeps words (set words (4 * g) x) bit (with_at g true bit) book k e (setting g e) at (λ y a. a) (λ n o h s. (o, h, s))
        high_still (λ i. let is = state_requests i in omega (arith, is)) (λ i. inl (state_requests i))
        (λ i b. dite (ℕ_discrete i g)
        (λ y. inr (inl (λ z. let le = high_still g t asked in let same = ap (request_stamp (set words (4 * g) x)) y in omega (arith, le, same, z, above))))
        (λ n. inl (sym (at_other g true bit i n) ∙ b)))
        (λ n l. inl l) (λ n s. state_ends e.id ∙ own_stored n s) (λ i n. state_ends i) (λ o h. k.ends e.id e o at h) (λ i n l. inl l)

    -- the request bit of g is set from outside
    pub outside_keeps : KeepsStamps (set words (4 * g) x) (with_at e.id (Some (asking g 0 e)) book) (with_at g true bit)
    outside_keeps =
        step_keeps words (set words (4 * g) x) bit (with_at g true bit) book k e (asking g 0 e) at (λ y a. inr a) (λ n o h s. (o, h, s))
        high (λ i. let is = state_requests i in omega (arith, is)) (λ i. inl (state_requests i))
        (λ i b. dite (ℕ_discrete i g) (λ y. inr (inr (inl (pair i 0 g 0 y refl)))) (λ n. inl (sym (at_other g true bit i n) ∙ b)))
        (λ n l. inl l) (λ n s. state_ends e.id ∙ own_stored n s) (λ i n. state_ends i) (λ o h. k.ends e.id e o at h) (λ i n l. inl l)
      where
        high : (i n : ℕ) → Among (i, n) ((g, 0) ∷ e.asked_with) → n ≤ request_stamp (set words (4 * g) x) i
        high i n (inl same) = let stamp : n ≡ 0 = ap (λ (y : ℕ × ℕ). y.1) same in omega (arith, stamp)
        high i n (inr a) = high_still i n a

    -- the done bits are set, after the stamp of the end was stored
    pub end_keeps : (o : Outcome) (t : ℕ) → e.stored_stamp ≡ Some t → KeepsStamps (set words (4 * g) x) (with_at e.id (Some (ending o e)) book) bit
    end_keeps o t stored =
        step_keeps words (set words (4 * g) x) bit bit book k e (ending o e) at (λ y a. a) (λ n q h s. (o, refl, s))
        high_still (λ i. let is = state_requests i in omega (arith, is)) (λ i. inl (state_requests i)) (λ i b. inl b)
        (λ n l. inl l) (λ n s. state_ends e.id ∙ own_stored n s) (λ i n. state_ends i) (λ q h. (t, stored)) (λ i n l. inl l)

  -- what is loaded of the own word after the own bit was found set
  pub load_keeps : bit e.id ≡ true → KeepsStamps words (with_at e.id (Some (loading (request_stamp words e.id) e)) book) bit
  load_keeps b =
      step_keeps words words bit bit book k e (loading (request_stamp words e.id) e) at (λ x a. a) (λ n o h s. (o, h, s))
      own_high (λ i. omega arith) (λ i. inl refl) (λ i c. inl c) loaded own_stored (λ i n. refl) (λ o h. k.ends e.id e o at h) (λ i n l. inl l)
    where
      found : IsAskedWith book e.id (request_stamp words e.id)
      found = ⊎_elim
          (λ z. ⊎_elim (λ ne. absurd (ne z)) (λ a. subst (IsAskedWith book e.id) (sym z) a) (k.set e.id b))
          (λ a. a) (k.reached e.id)

      loaded : (t : ℕ) → Among t (request_stamp words e.id ∷ e.loaded) → Among t e.loaded ⊎ IsAskedWith book e.id t
      loaded t (inl same) = inr (subst (IsAskedWith book e.id) (sym same) found)
      loaded t (inr l) = inl l

  -- the stamp that it is to end with is stored
  pub store_keeps : (t : ℕ) → e.ended ≡ None → 4 * e.id + 3 < length words
      → KeepsStamps (set words (4 * e.id + 3) t) (with_at e.id (Some (storing_stamp t e)) book) bit
  store_keeps t running inside =
      step_keeps words (set words (4 * e.id + 3) t) bit bit book k e (storing_stamp t e) at (λ x a. a)
      (λ n o h s. absurd (none-some o (sym running ∙ h)))
      (λ i n a. let le = own_high i n a in let is = same i in omega (arith, le, is)) (λ i. let is = same i in omega (arith, is))
      (λ i. inl (same i)) (λ i b. inl b) (λ n l. inl l)
      (λ n s. get_or-set_same words (4 * e.id + 3) t 0 inside ∙ same_Some t n s)
      (λ i n. get_or-set_other words (4 * e.id + 3) (4 * i + 3) t 0 (λ z. n (omega (arith, z))))
      (λ o h. (t, refl)) (λ i n l. inl l)
    where
      same : (i : ℕ) → request_stamp (set words (4 * e.id + 3) t) i ≡ request_stamp words i
      same i = get_or-set_other words (4 * e.id + 3) (4 * i + 2) t 0 (λ z. omega (arith, z))

  -- what is loaded of the word of g, which has ended
  pub learn_keeps : (g : ℕ) (d : Entry) (o : Outcome) → book g ≡ Some d → d.ended ≡ Some o
      → KeepsStamps words (with_at e.id (Some (learning_stamp g (end_stamp words g) e)) book) bit
  learn_keeps g d o there ended =
      step_keeps words words bit bit book k e (learning_stamp g (end_stamp words g) e) at (λ x a. a) (λ n q h s. (q, h, s))
      own_high (λ i. omega arith) (λ i. inl refl) (λ i b. inl b) (λ n l. inl l) own_stored (λ i n. refl) (λ q h. k.ends e.id e q at h) learnt
    where
      stored : (t : ℕ) × (d.stored_stamp ≡ Some t)
      stored = k.ends g d o there ended

      learnt : (i t : ℕ) → Among (i, t) ((g, end_stamp words g) ∷ e.learnt_stamps) → Among (i, t) e.learnt_stamps ⊎ HasEndedWith book i t
      learnt i t (inr l) = inl l
      learnt i t (inl same) =
          let number : i ≡ g = ap (λ (x : ℕ × ℕ). x.0) same in
          let stamp : t ≡ end_stamp words g = ap (λ (x : ℕ × ℕ). x.1) same in
          let is : stored.0 ≡ t = sym (k.stored g stored.0 d there stored.1) ∙ sym stamp in
          inr (d, o, ap book number ∙ there, ended, stored.1 ∙ ap Some is)

-- an entry of a fiber that was not there, and has done nothing
module _ (words : List ℕ) (bit : ℕ → Bool) (book : Book) (k : KeepsStamps words book bit) (g : ℕ) (unborn : book g ≡ None)
    (began : Option (ℕ × Begin)) (next end : ℕ) where
  abbrev new : Entry
  new = new_entry g began next end

  abbrev more : Book
  more = with_at g (Some new) book

  not_new : (i : ℕ) (d : Entry) → book i ≡ Some d → more i ≡ Some d
  not_new i d h = at_other g (Some new) book i (λ y. none-some d (sym unborn ∙ (sym (ap book y) ∙ h))) ∙ h

  was : (i : ℕ) (d : Entry) → more i ≡ Some d → (new ≡ d) ⊎ (book i ≡ Some d)
  was i d h = ⊎_elim (λ t. inl (same_Some new d t.1)) (λ t. inr t.1) (at_cases g (Some new) book i (Some d) h)

  asked : (i t : ℕ) → IsAskedWith book i t → IsAskedWith more i t
  asked i t a = (a.0, a.1, not_new a.0 a.1 a.2, a.3)

  pub new_keeps : KeepsStamps words more bit
  new_keeps = record {
    highest = λ i t a. ⊎_elim (λ s. absurd (subst (λ (u : Entry). Among (i, t) u.asked_with) (sym s) a.3))
        (λ s. k.highest i t (a.0, a.1, s, a.3)) (was a.0 a.1 a.2);
    reached = λ i. ⊎_elim inl (λ a. inr (asked i (request_stamp words i) a)) (k.reached i);
    set = λ i b. ⊎_elim inl (λ a. inr (asked i 0 a)) (k.set i b);
    loads = λ i t d h l. ⊎_elim (λ s. absurd (subst (λ (u : Entry). Among t u.loaded) (sym s) l)) (λ s. asked i t (k.loads i t d s l)) (was i d h);
    stored = λ i t d h s. ⊎_elim (λ c. absurd (none-some t (ap (λ (u : Entry). u.stored_stamp) c ∙ s))) (λ c. k.stored i t d c s) (was i d h);
    ends = λ i d o h s. ⊎_elim (λ c. absurd (none-some o (ap (λ (u : Entry). u.ended) c ∙ s))) (λ c. k.ends i d o c s) (was i d h);
    learns = λ f i t d h l. ⊎_elim (λ s. absurd (subst (λ (u : Entry). Among (i, t) u.learnt_stamps) (sym s) l))
        (λ s. let o = k.learns f i t d s l in (o.0, o.1, not_new i o.0 o.2, o.3, o.4)) (was f d h);
  }

-- before any step nobody has an entry
pub blank_keeps : (words : List ℕ) → ((i : ℕ) → slice_index words i ≡ 0) → KeepsStamps words (λ _. None) (λ _. false)
blank_keeps words blank = record {
  highest = λ i t a. absurd (none-some a.1 a.2);
  reached = λ i. inl (blank (4 * i + 2));
  set = λ i b. let z : ⊥ = cc in absurd z;
  loads = λ i t e h l. absurd (none-some e h);
  stored = λ i t e h s. absurd (none-some e h);
  ends = λ i e o h s. absurd (none-some e h);
  learns = λ f i t e h l. absurd (none-some e h);
}
