-- The stamps of a run, place by place.
use Rattle.std.proofs.Common.{◌≡◌, ℕ, zero, suc, ◌<◌, Some, List, [], ◌∷◌, length, max, refl, sym, ◌∙◌, ap, subst, arith, inl, inr}
use Rattle.std.specs.Prelude.{slice_get}
use Rattle.std.proofs.lemmas.Option.{none-some, same_Some}
use Rattle.fx_term.specs.Lists.{Among}
use Rattle.fx_term.proofs.ListLaws.{Among-append_left, Among-append_right, Among-append}
use Rattle.fx_term.specs.declared.node.Node.{Node}
use Rattle.fx_term.specs.declared.event.Event.{Event}
use Rattle.fx_model.specs.Row.{Label}
use Rattle.fx_model.specs.Run.{events}
use Rattle.fx_model.specs.Stamps.{HasNoCause, one_more, stamp_before}
use Rattle.fx_model.specs.KeptStamps.{number_in}
use Rattle.fx_fiber.specs.StampedDeed.{StampedDeed}
use Rattle.fx_fiber.specs.StampedRun.{Tells, AreStamped}

before_is : (t : ℕ) (ts : List ℕ) (i : ℕ) → number_in (t ∷ ts) i ≡ stamp_before t (number_in ts) i
before_is t ts zero = refl
before_is t ts (suc i) = refl

module _ (nodes : List Node) where
  -- each stamp is one more than that before it and that of the cause
  pub each_stamp : (before : ℕ) (ls : List Label) (ss cs : List ℕ) (ds : List StampedDeed) → AreStamped nodes before ls ss cs ds
      → (i : ℕ) → i < length ls → number_in ss i ≡ one_more (max (stamp_before before (number_in ss) i) (number_in cs i))
  each_stamp before [] [] [] ds h i lt = absurd (omega arith)
  each_stamp before (l ∷ ls) (s ∷ ss) (c ∷ cs) ds (own, rest, here, told, later, e) zero lt = here.is
  each_stamp before (l ∷ ls) (s ∷ ss) (c ∷ cs) ds (own, rest, here, told, later, e) (suc i) lt =
      each_stamp s ls ss cs rest later i (omega arith)
      ∙ ap (λ (b : ℕ). one_more (max b (number_in cs i))) (sym (before_is s ss i))
  each_stamp before [] (s ∷ ss) cs ds h i lt = absurd h
  each_stamp before [] [] (c ∷ cs) ds h i lt = absurd h
  each_stamp before (l ∷ ls) [] cs ds h i lt = absurd h
  each_stamp before (l ∷ ls) (s ∷ ss) [] ds h i lt = absurd h

  -- what the label at a place tells
  pub record At (ls : List Label) (ss cs : List ℕ) (ds : List StampedDeed) (i : ℕ) (l : Label) : Type 0 where
    pub event : Event
    pub shows : events (l ∷ []) ≡ event ∷ []
    pub none : HasNoCause event → number_in cs i ≡ 0
    pub own : List StampedDeed
    pub tells : Tells nodes l (number_in ss i) (number_in cs i) own
    pub there : (d : StampedDeed) → Among d own → Among d ds

  pub at : (before : ℕ) (ls : List Label) (ss cs : List ℕ) (ds : List StampedDeed) → AreStamped nodes before ls ss cs ds
      → (i : ℕ) (l : Label) → slice_get ls i ≡ Some l → At ls ss cs ds i l
  at before [] [] [] ds h i l e = absurd (none-some l e)
  at before (k ∷ ls) (s ∷ ss) (c ∷ cs) ds (own, rest, here, told, later, sum) zero l e =
      let same : k ≡ l = same_Some k l e in
      record {
        event = here.event;
        shows = subst (λ (m : Label). events (m ∷ []) ≡ here.event ∷ []) same here.shows;
        none = here.none;
        own = own;
        tells = subst (λ (m : Label). Tells nodes m s c own) same told;
        there = λ d j. subst (λ (xs : List StampedDeed). Among d xs) (sym sum) (Among-append_left own rest d j);
      }
  at before (k ∷ ls) (s ∷ ss) (c ∷ cs) ds (own, rest, here, told, later, sum) (suc i) l e =
      let h = at s ls ss cs rest later i l e in
      record {
        event = h.event;
        shows = h.shows;
        none = h.none;
        own = h.own;
        tells = h.tells;
        there = λ d j. subst (λ (xs : List StampedDeed). Among d xs) (sym sum) (Among-append_right own rest d (h.there d j));
      }
  at before [] (s ∷ ss) cs ds h i l e = absurd h
  at before [] [] (c ∷ cs) ds h i l e = absurd h
  at before (k ∷ ls) [] cs ds h i l e = absurd h
  at before (k ∷ ls) (s ∷ ss) [] ds h i l e = absurd h

  -- where a deed was done
  pub record DoneAt (ls : List Label) (ss cs : List ℕ) (d : StampedDeed) : Type 0 where
    pub place : ℕ
    pub label : Label
    pub here : slice_get ls place ≡ Some label
    pub own : List StampedDeed
    pub tells : Tells nodes label (number_in ss place) (number_in cs place) own
    pub among : Among d own

  pub done_at : (before : ℕ) (ls : List Label) (ss cs : List ℕ) (ds : List StampedDeed) → AreStamped nodes before ls ss cs ds
      → (d : StampedDeed) → Among d ds → DoneAt ls ss cs d
  done_at before [] [] [] ds h d i = absurd (subst (λ (xs : List StampedDeed). Among d xs) h i)
  done_at before (k ∷ ls) (s ∷ ss) (c ∷ cs) ds (own, rest, here, told, later, sum) d i =
      elim (Among-append own rest d (subst (λ (xs : List StampedDeed). Among d xs) sum i)) [
        | inl j ↦ record { place = 0; label = k; here = refl; own = own; tells = told; among = j }
        | inr j ↦ (let h = done_at s ls ss cs rest later d j in
            record { place = suc h.place; label = h.label; here = h.here; own = h.own; tells = h.tells; among = h.among })
      ]
  done_at before [] (s ∷ ss) cs ds h d i = absurd h
  done_at before [] [] (c ∷ cs) ds h d i = absurd h
  done_at before (k ∷ ls) [] cs ds h d i = absurd h
  done_at before (k ∷ ls) (s ∷ ss) [] ds h d i = absurd h

-- there is one stamp for each label that shows an event
pub as_many_stamps : (nodes : List Node) (before : ℕ) (ls : List Label) (ss cs : List ℕ) (ds : List StampedDeed) → AreStamped nodes before ls ss cs ds
    → length ss ≡ length ls
as_many_stamps nodes before [] [] [] ds h = refl
as_many_stamps nodes before (l ∷ ls) (s ∷ ss) (c ∷ cs) ds (own, rest, here, told, later, e) = ap suc (as_many_stamps nodes s ls ss cs rest later)
as_many_stamps nodes before [] (s ∷ ss) cs ds h = absurd h
as_many_stamps nodes before [] [] (c ∷ cs) ds h = absurd h
as_many_stamps nodes before (l ∷ ls) [] cs ds h = absurd h
as_many_stamps nodes before (l ∷ ls) (s ∷ ss) [] ds h = absurd h
